-- Where the number of nodes tells what there is room for, there is none on the way exactly where there are too many in the end.
use Rattle.std.proofs.Common.{◌≡◌, ℕ, ◌+◌, ◌≤◌, List, [], ◌∷◌, ◌++◌, codes, sym, ap, subst, ◌∙◌, inl, inr, Some, arith}
use Rattle.std.proofs.lemmas.Bool.{cases_lt}
use Rattle.dt_model.specs.Limits.{most_nodes}
use Rattle.dt_model.specs.Names.{Name}
use Rattle.dt_model.specs.Path.{Path}
use Rattle.dt_model.specs.Overlay.{content}
use Rattle.dt_model.specs.Merged.{Site}
use Rattle.dt_model.specs.Object.{Cell}
use Rattle.dt_model.specs.Tree.{Property, Forest, no_nodes, branch, Reading, Node, node_at}
use Rattle.dt_model.specs.Valid.{IsWithinLimits, node_count}
use Rattle.dt_model.specs.Changes.{with_child_at, with_property_at}
use Rattle.dt_model.specs.Applied.{Write, brought, writes, landed_symbols, with_symbols_merged, applied_at}
use Rattle.dt_names.specs.declared.fault.FaultKind.{FaultKind}
use Rattle.dt_names.specs.declared.fault.FaultKind.TheVariants.{NoMemory, Limit, NoSymbol, BadSymbol, NoTarget, BadFixup, BadLocalFixup, NoFragmentTarget, ReservedPlace}
use Rattle.dt_overlay_model.specs.Walk.{Walked, new_numbers}
use Rattle.dt_overlay_laws.specs.Objects.{symbols_in}
use Rattle.dt_overlay_laws.specs.Outcomes.{RoomIsCounted}
use Rattle.dt_overlay_laws.specs.Refusals.{IsCrowded, has_many, IsOverfull, WhyNotApplied}
use Rattle.dt_overlay_laws.specs.Steps.{land_properties, land_nodes, land_node, land_fragments, FullAtProperties, FullAtNodes, FullAtNode, FullAtFragments, FullAtSymbols, FullAtLanding}
use Rattle.dt_overlay_laws.proofs.LandedNodes.{fragments_are_merged, symbols_are_merged}
use Rattle.dt_overlay_laws.proofs.RefusedOutcomes.{applied_with, comes_of}
use Rattle.dt_overlay_laws.proofs.SingleChanges.{child_counts, properties_counted, nodes_counted}

-- ---- no landing takes nodes away

node_counts : (q : Path) (n : Node) (t : Reading) → node_count t.children ≤ node_count (land_node q n t).children
node_counts q n t =
    let same = properties_counted q n.properties t in
    let more = nodes_counted q n.children (land_properties q n.properties t) in
    omega (arith, same, more)

symbols_count : (p : Property) (ps : List Property) (t : Reading) → node_count (with_symbols_merged (p ∷ ps) t).children ≡ node_count (with_child_at [] (codes "__symbols__") t).children
symbols_count p ps t =
    ap (λ (u : Reading). node_count u.children) (sym (symbols_are_merged p ps t))
    ∙ properties_counted (codes "__symbols__" ∷ []) (p ∷ ps) (with_child_at [] (codes "__symbols__") t)

symbols_add : (ps : List Property) (t : Reading) → node_count t.children ≤ node_count (with_symbols_merged ps t).children
symbols_add [] t = omega arith
symbols_add (p ∷ ps) t =
    let more = child_counts [] (codes "__symbols__") t in
    let same = symbols_count p ps t in
    omega (arith, more, same)

module _ (object : Reading) (ws : List Write) (numbers : List (Path × ℕ)) where
  abbrev fragment_of : Site → Node
  fragment_of x = brought ws numbers x.fragment (node_at object (content x.fragment))

  fragments_count : (sites : List Site) (t : Reading) → node_count t.children ≤ node_count (land_fragments t object ws numbers sites).children
  fragments_count [] t = omega arith
  fragments_count (x ∷ sites) t =
      let first = node_counts x.at (fragment_of x) t in
      let rest = fragments_count sites (land_node x.at (fragment_of x) t) in
      omega (arith, first, rest)

-- ---- too many on the way are too many in the end

properties_over : (q : Path) (ps : List Property) (t : Reading) → FullAtProperties has_many q ps t → has_many t (land_properties q ps t)
properties_over q [] t h = absurd h
properties_over q (x ∷ xs) t (inl many) =
    let same = properties_counted q xs (with_property_at q x.name x.value t) in
    omega (arith, many, same)
properties_over q (x ∷ xs) t (inr h) = properties_over q xs (with_property_at q x.name x.value t) h

nodes_over : (q : Path) (f : Forest) (t : Reading) → FullAtNodes has_many q f t → has_many t (land_nodes q f t)
nodes_over q no_nodes t h = absurd h
nodes_over q (branch name properties children siblings) t h =
    let own = q ++ name ∷ [] in
    let t1 = land_properties own properties (with_child_at q name t) in
    let t2 = land_nodes own children t1 in
    let a = properties_counted own properties (with_child_at q name t) in
    let b = nodes_counted own children t1 in
    let c = nodes_counted q siblings t2 in
    elim h [
      | inl many ↦ omega (arith, many, a, b, c)
      | inr h1 ↦ elim h1 [
        | inl some ↦ let many = properties_over own properties (with_child_at q name t) some in omega (arith, many, b, c)
        | inr h2 ↦ elim h2 [
          | inl below ↦ let many = nodes_over own children t1 below in omega (arith, many, c)
          | inr beside ↦ nodes_over q siblings t2 beside
        ]
      ]
    ]

node_over : (q : Path) (n : Node) (t : Reading) → FullAtNode has_many q n t → has_many t (land_node q n t)
node_over q n t (inl h) =
    let many = properties_over q n.properties t h in
    let more = nodes_counted q n.children (land_properties q n.properties t) in
    omega (arith, many, more)
node_over q n t (inr h) = nodes_over q n.children (land_properties q n.properties t) h

symbols_over : (ps : List Property) (t : Reading) → FullAtSymbols has_many ps t → has_many t (with_symbols_merged ps t)
symbols_over [] t h = absurd h
symbols_over (p ∷ ps) t (inl many) =
    let same = symbols_count p ps t in
    omega (arith, many, same)
symbols_over (p ∷ ps) t (inr h) =
    let many = properties_over (codes "__symbols__" ∷ []) (p ∷ ps) (with_child_at [] (codes "__symbols__") t) h in
    let is = ap (λ (u : Reading). node_count u.children) (symbols_are_merged p ps t) in
    omega (arith, many, is)

fragments_over : (object : Reading) (ws : List Write) (numbers : List (Path × ℕ)) (sites : List Site) (t : Reading) → FullAtFragments has_many t object ws numbers sites
    → has_many t (land_fragments t object ws numbers sites)
fragments_over object ws numbers [] t h = absurd h
fragments_over object ws numbers (x ∷ sites) t (inl h) =
    let many = node_over x.at (fragment_of object ws numbers x) t h in
    let more = fragments_count object ws numbers sites (land_node x.at (fragment_of object ws numbers x) t) in
    omega (arith, many, more)
fragments_over object ws numbers (x ∷ sites) t (inr h) = fragments_over object ws numbers sites (land_node x.at (fragment_of object ws numbers x) t) h

-- ---- from few to too many there is a change that makes them too many

nodes_crossed : (q : Path) (f : Forest) (t : Reading) → 1 + node_count t.children ≤ most_nodes → has_many t (land_nodes q f t) → FullAtNodes has_many q f t
nodes_crossed q no_nodes t few many = absurd (omega (arith, few, many))
nodes_crossed q (branch name properties children siblings) t few many =
    let own = q ++ name ∷ [] in
    let t0 = with_child_at q name t in
    let t1 = land_properties own properties t0 in
    let t2 = land_nodes own children t1 in
    let same = properties_counted own properties t0 in
    elim (cases_lt most_nodes (1 + node_count t0.children)) [
      | inl now ↦ inl now
      | inr few0 ↦ elim (cases_lt most_nodes (1 + node_count t2.children)) [
        | inl below ↦ inr (inr (inl (nodes_crossed own children t1 (omega (arith, few0, same)) below)))
        | inr few2 ↦ inr (inr (inr (nodes_crossed q siblings t2 few2 many)))
      ]
    ]

node_crossed : (q : Path) (n : Node) (t : Reading) → 1 + node_count t.children ≤ most_nodes → has_many t (land_node q n t) → FullAtNode has_many q n t
node_crossed q n t few many =
    let same = properties_counted q n.properties t in
    inr (nodes_crossed q n.children (land_properties q n.properties t) (omega (arith, few, same)) many)

fragments_crossed : (object : Reading) (ws : List Write) (numbers : List (Path × ℕ)) (sites : List Site) (t : Reading) → 1 + node_count t.children ≤ most_nodes
    → has_many t (land_fragments t object ws numbers sites) → FullAtFragments has_many t object ws numbers sites
fragments_crossed object ws numbers [] t few many = absurd (omega (arith, few, many))
fragments_crossed object ws numbers (x ∷ sites) t few many =
    let n = fragment_of object ws numbers x in
    let next = land_node x.at n t in
    elim (cases_lt most_nodes (1 + node_count next.children)) [
      | inl first ↦ inl (node_crossed x.at n t few first)
      | inr few1 ↦ inr (fragments_crossed object ws numbers sites next few1 many)
    ]

symbols_crossed : (ps : List Property) (t : Reading) → 1 + node_count t.children ≤ most_nodes → has_many t (with_symbols_merged ps t) → FullAtSymbols has_many ps t
symbols_crossed [] t few many = absurd (omega (arith, few, many))
symbols_crossed (p ∷ ps) t few many =
    let same = symbols_count p ps t in
    inl (omega (arith, many, same))

-- ---- what comes of an object

module _ (base object : Reading) (fixups : List (Name × Cell)) (end : Walked) where
  abbrev new_of : List (Path × ℕ)
  new_of = new_numbers base object end

  abbrev writes_of : List Write
  writes_of = writes base object fixups new_of

  abbrev labels_of : List Property
  labels_of = landed_symbols object end.sites (symbols_in object)

  whole_is : applied_at base object fixups new_of end.sites ≡ with_symbols_merged labels_of (land_fragments base object writes_of new_of end.sites)
  whole_is = ap (with_symbols_merged labels_of) (sym (fragments_are_merged base object writes_of new_of end.sites))

  landing_over : FullAtLanding has_many base object fixups new_of end.sites (symbols_in object) → has_many base (applied_at base object fixups new_of end.sites)
  landing_over h = subst (has_many base) (sym whole_is) (by h)
    where
      by : FullAtLanding has_many base object fixups new_of end.sites (symbols_in object) → has_many base (with_symbols_merged labels_of (land_fragments base object writes_of new_of end.sites))
      by (inl some) =
          let many = fragments_over object writes_of new_of end.sites base some in
          let more = symbols_add labels_of (land_fragments base object writes_of new_of end.sites) in
          omega (arith, many, more)
      by (inr some) = symbols_over labels_of (land_fragments base object writes_of new_of end.sites) some

  landing_crossed : 1 + node_count base.children ≤ most_nodes → has_many base (applied_at base object fixups new_of end.sites)
      → FullAtLanding has_many base object fixups new_of end.sites (symbols_in object)
  landing_crossed few many =
      let landed = land_fragments base object writes_of new_of end.sites in
      elim (cases_lt most_nodes (1 + node_count landed.children)) [
        | inl first ↦ inl (fragments_crossed object writes_of new_of end.sites base few first)
        | inr few1 ↦ inr (symbols_crossed labels_of landed few1 (subst (has_many base) whole_is many))
      ]

pub crowded_over : (base object : Reading) → IsCrowded has_many base object → IsOverfull base object
crowded_over base object h =
    let of = comes_of base object h.fixups h.result (applied_with base object h.result h.fixups h.applied h.listed) in
    let both : Some of.end ≡ Some h.end = sym of.ended ∙ h.walked in
    let same : of.end ≡ h.end = cc in
    let is : h.result ≡ applied_at base object h.fixups (new_numbers base object h.end) h.end.sites =
    of.is ∙ ap (λ (w : Walked). applied_at base object h.fixups (new_numbers base object w) w.sites) same in
    record {
      well = h.well;
      result = h.result;
      applied = h.applied;
      many = subst (has_many base) (sym is) (landing_over base object h.fixups h.end h.change);
    }

over_crowded : (base object : Reading) → IsWithinLimits base → IsOverfull base object → IsCrowded has_many base object
over_crowded base object within h =
    let of = comes_of base object h.applied.fixups h.result h.applied.is in
    record {
      well = h.well;
      result = h.result;
      applied = h.applied;
      fixups = h.applied.fixups;
      listed = h.applied.listed;
      end = of.end;
      walked = of.ended;
      change = landing_crossed base object h.applied.fixups of.end within.count (subst (has_many base) of.is h.many);
    }

-- ---- what is full by one relation is so by a wider one

module _ (full wider : Reading → Reading → Type 0) (sub : (t next : Reading) → full t next → wider t next) where
  pub properties_more : (q : Path) (ps : List Property) (t : Reading) → FullAtProperties full q ps t → FullAtProperties wider q ps t
  properties_more q [] t h = h
  properties_more q (x ∷ xs) t (inl h) = inl (sub t (with_property_at q x.name x.value t) h)
  properties_more q (x ∷ xs) t (inr h) = inr (properties_more q xs (with_property_at q x.name x.value t) h)

  pub nodes_more : (q : Path) (f : Forest) (t : Reading) → FullAtNodes full q f t → FullAtNodes wider q f t
  nodes_more q no_nodes t h = h
  nodes_more q (branch name properties children siblings) t (inl h) = inl (sub t (with_child_at q name t) h)
  nodes_more q (branch name properties children siblings) t (inr (inl h)) = inr (inl (properties_more (q ++ name ∷ []) properties (with_child_at q name t) h))
  nodes_more q (branch name properties children siblings) t (inr (inr (inl h))) =
      inr (inr (inl (nodes_more (q ++ name ∷ []) children (land_properties (q ++ name ∷ []) properties (with_child_at q name t)) h)))
  nodes_more q (branch name properties children siblings) t (inr (inr (inr h))) =
      inr (inr (inr (nodes_more q siblings (land_nodes (q ++ name ∷ []) children (land_properties (q ++ name ∷ []) properties (with_child_at q name t))) h)))

  pub node_more : (q : Path) (n : Node) (t : Reading) → FullAtNode full q n t → FullAtNode wider q n t
  node_more q n t (inl h) = inl (properties_more q n.properties t h)
  node_more q n t (inr h) = inr (nodes_more q n.children (land_properties q n.properties t) h)

  fragments_more : (object : Reading) (ws : List Write) (numbers : List (Path × ℕ)) (sites : List Site) (t : Reading) → FullAtFragments full t object ws numbers sites
      → FullAtFragments wider t object ws numbers sites
  fragments_more object ws numbers [] t h = h
  fragments_more object ws numbers (x ∷ sites) t (inl h) = inl (node_more x.at (fragment_of object ws numbers x) t h)
  fragments_more object ws numbers (x ∷ sites) t (inr h) = inr (fragments_more object ws numbers sites (land_node x.at (fragment_of object ws numbers x) t) h)

  pub symbols_more : (ps : List Property) (t : Reading) → FullAtSymbols full ps t → FullAtSymbols wider ps t
  symbols_more [] t h = h
  symbols_more (p ∷ ps) t (inl h) = inl (sub t (with_child_at [] (codes "__symbols__") t) h)
  symbols_more (p ∷ ps) t (inr h) = inr (properties_more (codes "__symbols__" ∷ []) (p ∷ ps) (with_child_at [] (codes "__symbols__") t) h)

  crowded_more : (base object : Reading) → IsCrowded full base object → IsCrowded wider base object
  crowded_more base object h = record {
    well = h.well;
    result = h.result;
    applied = h.applied;
    fixups = h.fixups;
    listed = h.listed;
    end = h.end;
    walked = h.walked;
    change = by h.change;
  }
    where
      by : FullAtLanding full base object h.fixups (new_numbers base object h.end) h.end.sites (symbols_in object) → FullAtLanding wider base object h.fixups (new_numbers base object h.end) h.end.sites (symbols_in object)
      by (inl some) = inl (fragments_more object (writes_of base object h.fixups h.end) (new_of base object h.fixups h.end) h.end.sites base some)
      by (inr some) = inr (symbols_more (labels_of base object h.fixups h.end) (land_fragments base object (writes_of base object h.fixups h.end) (new_of base object h.fixups h.end) h.end.sites) some)

  pub fewer : (kind : FaultKind) (base object : Reading) → WhyNotApplied full kind base object → WhyNotApplied wider kind base object
  fewer NoMemory base object h = h
  fewer NoFragmentTarget base object h = h
  fewer BadFixup base object h = h
  fewer NoSymbol base object h = h
  fewer BadSymbol base object h = h
  fewer BadLocalFixup base object h = h
  fewer NoTarget base object h = h
  fewer ReservedPlace base object h = h
  fewer Limit base object (inl h) = inl h
  fewer Limit base object (inr h) = inr (crowded_more base object h)
  fewer _ base object h = absurd h

pub room_is_counted : RoomIsCounted
room_is_counted = record { over = crowded_over; crowded = over_crowded }
