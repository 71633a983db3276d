-- A tree with its labels and cells as the root's last children: what look-ups find in it, and that a blob may hold it.
use Rattle.std.proofs.Common.{◌≡◌, ◌≢◌, Bool, true, false, List, [], ◌∷◌, ◌++◌, codes, refl, sym, ap, subst, ◌∙◌, inl, inr, Option, Some, None, append_assoc, append-nil, is_some, true≢false}
use Rattle.std.specs.Prelude.{option_and_then, if◌then◌else◌}
use Rattle.std.specs.List.{AllByRecursion}
use Rattle.std.specs.Option.{option_or}
use Rattle.std.specs.Str.{bytes_eq}
use Rattle.dt_model.specs.Names.{Name}
use Rattle.dt_model.specs.Path.{Path, is_bookkeeping_name, is_bookkeeping}
use Rattle.dt_model.specs.Lists.{IsIn}
use Rattle.dt_model.specs.Fixups.{fixups, outside_cells, local_properties, unless_empty, mirror, fixup_nodes, with_fixups}
use Rattle.dt_model.specs.Instance.{followed_by, with_symbols}
use Rattle.dt_model.specs.Object.{is_fragment, fragment_names}
use Rattle.dt_model.specs.Named.{NodeReference, Named}
use Rattle.dt_model.specs.Tree.{Property, Forest, no_nodes, branch, Reading, Node, sibling, node_below, value_of, node_at, stands_in, value_in}
use Rattle.dt_model.specs.Valid.{AreDistinct, AreProperties, AreNodes, IsPhandle, IsValid, names, phandle_values, phandles}
use Rattle.dt_model_laws.proofs.CheckedNames.{node_name}
use Rattle.dt_model.proofs.Distinct.{distinct_append}
use Rattle.dt_model.proofs.Tests.{each_in, bytes_eq_refl, bytes_eq_true}
use Rattle.dt_model_laws.proofs.NodesUnlessEmpty.{IsUnlessEmpty, found_here, found_other, nodes_unless_empty, each_name, distinct_unless_empty, phandles_unless_empty}

-- ---- siblings behind others

behind_all : (fs gs hs : Forest) → followed_by (followed_by fs gs) hs ≡ followed_by fs (followed_by gs hs)
behind_all no_nodes gs hs = refl
behind_all (branch y ps c s) gs hs = ap (λ z. branch y ps c z) (behind_all s gs hs)

sibling_behind : (fs gs : Forest) (x : Name) → sibling (followed_by fs gs) x ≡ option_or (sibling fs x) (sibling gs x)
sibling_behind no_nodes gs x = refl
sibling_behind (branch y ps c s) gs x = step (sibling_behind s gs x) (bytes_eq x y) refl
  where
    step : sibling (followed_by s gs) x ≡ option_or (sibling s x) (sibling gs x) → (b : Bool) → bytes_eq x y ≡ b
        → sibling (followed_by (branch y ps c s) gs) x ≡ option_or (sibling (branch y ps c s) x) (sibling gs x)
    step more true e = rw e refl
    step more false e = rw e more

names_behind : (fs gs : Forest) → names (followed_by fs gs) ≡ names fs ++ names gs
names_behind no_nodes gs = refl
names_behind (branch y ps c s) gs = ap (λ xs. y ∷ xs) (names_behind s gs)

phandles_behind : (fs gs : Forest) → phandles (followed_by fs gs) ≡ phandles fs ++ phandles gs
phandles_behind no_nodes gs = refl
phandles_behind (branch y ps c s) gs = ap (λ vs. phandle_values ps ++ phandles c ++ vs) (phandles_behind s gs) ∙ sym (append_assoc (phandle_values ps ++ phandles c) (phandles s) (phandles gs))

nodes_behind : (fs gs : Forest) → AreNodes fs → AreNodes gs → AreNodes (followed_by fs gs)
nodes_behind no_nodes gs h k = k
nodes_behind (branch y ps c s) gs h k = (h.0, h.1, h.2, h.3, nodes_behind s gs h.4 k)

or_none : {X : Type 0} (o : Option X) → option_or o None ≡ o
or_none None = refl
or_none (Some x) = refl

-- ---- bookkeeping nodes behind a tree without any

-- a tree with these nodes as the root's last children
abbrev pub with_nodes : Reading → Forest → Reading
with_nodes r gs = record r { children = followed_by r.children gs }

abbrev pub AreBookkeeping : List Name → Type 0
AreBookkeeping xs = AllByRecursion (λ x. is_bookkeeping_name x ≡ true) xs

abbrev pub HasNone : Forest → Type 0
HasNone fs = (x : Name) → is_bookkeeping_name x ≡ true → sibling fs x ≡ None

sibling_named : (fs : Forest) (x : Name) → IsIn x (names fs) → is_some (sibling fs x) ≡ true
sibling_named no_nodes x i = absurd i
sibling_named (branch y ps c s) x (inl same) = rw (same, bytes_eq_refl y) refl
sibling_named (branch y ps c s) x (inr i) = step (sibling_named s x i) (bytes_eq x y) refl
  where
    step : is_some (sibling s x) ≡ true → (b : Bool) → bytes_eq x y ≡ b → is_some (sibling (branch y ps c s) x) ≡ true
    step more true e = rw e refl
    step more false e = rw e more

found_named : (fs : Forest) (x : Name) (n : Node) → sibling fs x ≡ Some n → (y : Name) × IsIn y (names fs) × (bytes_eq x y ≡ true)
found_named no_nodes x n e = absurd (let z : None ≡ Some n = e in cc)
found_named (branch y ps c s) x n e = step (found_named s x n) (bytes_eq x y) refl
  where
    step : (sibling s x ≡ Some n → (z : Name) × IsIn z (names s) × (bytes_eq x z ≡ true)) → (b : Bool) → bytes_eq x y ≡ b → (z : Name) × IsIn z (names (branch y ps c s)) × (bytes_eq x z ≡ true)
    step more true k = (y, inl refl, k)
    step more false k = let w = more (rw k at e) in (w.0, inr w.1, w.2)

module _ (r : Reading) (gs : Forest) (are : AreBookkeeping (names gs)) (none : HasNone r.children) where
  -- what isn't a bookkeeping node isn't found among them
  not_added : (x : Name) → is_bookkeeping_name x ≡ false → sibling gs x ≡ None
  not_added x h = step (sibling gs x) refl
    where
      step : (o : Option Node) → sibling gs x ≡ o → o ≡ None
      step None e = refl
      step (Some n) e =
          let w = found_named gs x n e in
          absurd (true≢false (sym (each_in (λ y. is_bookkeeping_name y ≡ true) (names gs) w.0 are w.1) ∙ ap is_bookkeeping_name (sym (bytes_eq_true x w.0 w.2)) ∙ h))

  node_elsewhere : (x : Name) (p : Path) → is_bookkeeping_name x ≡ false → node_at (with_nodes r gs) (x ∷ p) ≡ node_at r (x ∷ p)
  node_elsewhere x p h =
      ap (option_and_then (λ c. node_below c p)) (sibling_behind r.children gs x ∙ ap (option_or (sibling r.children x)) (not_added x h) ∙ or_none (sibling r.children x))

  pub stands_elsewhere : (p : Path) → is_bookkeeping p ≡ false → stands_in (with_nodes r gs) p ≡ stands_in r p
  stands_elsewhere [] h = refl
  stands_elsewhere (x ∷ p) h = ap is_some (node_elsewhere x p h)

  pub value_elsewhere : (p : Path) (n : Name) → is_bookkeeping p ≡ false → value_in (with_nodes r gs) p n ≡ value_in r p n
  value_elsewhere [] n h = refl
  value_elsewhere (x ∷ p) n h = ap (option_and_then (λ (c : Node). value_of c.properties n)) (node_elsewhere x p h)

  -- a bookkeeping node is found among them
  pub node_added : (x : Name) (p : Path) → is_bookkeeping_name x ≡ true → node_at (with_nodes r gs) (x ∷ p) ≡ option_and_then (λ c. node_below c p) (sibling gs x)
  node_added x p h = ap (option_and_then (λ c. node_below c p)) (sibling_behind r.children gs x ∙ ap (λ (o : Option Node). option_or o (sibling gs x)) (none x h))

  -- ---- fragments

  no_fragments : (fs : Forest) → AreBookkeeping (names fs) → fragment_names fs ≡ []
  no_fragments no_nodes h = refl
  no_fragments (branch x ps c s) h = rw h.0 (no_fragments s h.1)

  fragments_behind : (fs : Forest) → fragment_names (followed_by fs gs) ≡ fragment_names fs
  fragments_behind no_nodes = no_fragments gs are
  fragments_behind (branch x ps c s) = step (is_fragment x c) (fragments_behind s)
    where
      step : (b : Bool) → fragment_names (followed_by s gs) ≡ fragment_names s
          → (if b then x ∷ fragment_names (followed_by s gs) else fragment_names (followed_by s gs)) ≡ (if b then x ∷ fragment_names s else fragment_names s)
      step true more = ap (λ xs. x ∷ xs) more
      step false more = more

  pub same_fragments : fragment_names (with_nodes r gs).children ≡ fragment_names r.children
  same_fragments = fragments_behind r.children

  -- ---- a blob may hold it

  apart_from : (x : Name) → IsIn x (names r.children) → IsIn x (names gs) → ⊥
  apart_from x i j =
      let there = sibling_named r.children x i in
      true≢false (sym there ∙ ap is_some (none x (each_in (λ y. is_bookkeeping_name y ≡ true) (names gs) x are j)))

  valid_with_nodes : IsValid r → AreNodes gs → AreDistinct (names gs) → phandles gs ≡ [] → IsValid (with_nodes r gs)
  valid_with_nodes valid nodes distinct no_numbers = record {
    boot_cpu = valid.boot_cpu;
    reservations = valid.reservations;
    properties = valid.properties;
    nodes = nodes_behind r.children gs valid.nodes nodes;
    siblings = subst AreDistinct (sym (names_behind r.children gs)) (distinct_append (names r.children) (names gs) valid.siblings distinct apart_from);
    phandles_valid = subst (λ vs. AllByRecursion IsPhandle (phandle_values r.properties ++ vs)) (sym kept) valid.phandles_valid;
    phandles_distinct = subst (λ vs. AreDistinct (phandle_values r.properties ++ vs)) (sym kept) valid.phandles_distinct;
  }
    where
      kept : phandles (followed_by r.children gs) ≡ phandles r.children
      kept = phandles_behind r.children gs ∙ ap (λ vs. phandles r.children ++ vs) no_numbers ∙ append-nil (phandles r.children)

-- ---- the three nodes of an object

abbrev pub object_nodes : List Property → Named NodeReference → Forest
object_nodes symbols t = unless_empty (codes "__symbols__") symbols no_nodes (fixup_nodes t)

pub object_is : (symbols : List Property) (t : Named NodeReference) (r : Reading) → with_fixups t (with_symbols symbols r) ≡ with_nodes r (object_nodes symbols t)
object_is [] t r = refl
object_is (s ∷ symbols) t r = ap (λ fs. record r { children = fs }) (behind_all r.children (branch (codes "__symbols__") (s ∷ symbols) no_nodes no_nodes) (fixup_nodes t))

module _ (symbols : List Property) (t : Named NodeReference) where
  abbrev locals : Forest
  locals = unless_empty (codes "__local_fixups__") (local_properties t.content) (mirror t.children) no_nodes

  pub are_bookkeeping : AreBookkeeping (names (object_nodes symbols t))
  are_bookkeeping =
      each_name (λ x. is_bookkeeping_name x ≡ true) (codes "__symbols__") symbols no_nodes (fixup_nodes t) refl
      (each_name (λ x. is_bookkeeping_name x ≡ true) (codes "__fixups__") (fixups (outside_cells t)) no_nodes locals refl
      (each_name (λ x. is_bookkeeping_name x ≡ true) (codes "__local_fixups__") (local_properties t.content) (mirror t.children) no_nodes refl tt))

  pub symbols_found : IsUnlessEmpty symbols no_nodes (sibling (object_nodes symbols t) (codes "__symbols__"))
  symbols_found =
      found_here (codes "__symbols__") symbols no_nodes (fixup_nodes t)
      (found_other (codes "__fixups__") (fixups (outside_cells t)) no_nodes locals (codes "__symbols__") refl
      ∙ found_other (codes "__local_fixups__") (local_properties t.content) (mirror t.children) no_nodes (codes "__symbols__") refl)

  pub fixups_found : IsUnlessEmpty (fixups (outside_cells t)) no_nodes (sibling (object_nodes symbols t) (codes "__fixups__"))
  fixups_found =
      subst (IsUnlessEmpty (fixups (outside_cells t)) no_nodes) (sym (found_other (codes "__symbols__") symbols no_nodes (fixup_nodes t) (codes "__fixups__") refl))
      (found_here (codes "__fixups__") (fixups (outside_cells t)) no_nodes locals
      (found_other (codes "__local_fixups__") (local_properties t.content) (mirror t.children) no_nodes (codes "__fixups__") refl))

  pub locals_found : IsUnlessEmpty (local_properties t.content) (mirror t.children) (sibling (object_nodes symbols t) (codes "__local_fixups__"))
  locals_found =
      subst (IsUnlessEmpty (local_properties t.content) (mirror t.children))
      (sym (found_other (codes "__symbols__") symbols no_nodes (fixup_nodes t) (codes "__local_fixups__") refl
      ∙ found_other (codes "__fixups__") (fixups (outside_cells t)) no_nodes locals (codes "__local_fixups__") refl))
      (found_here (codes "__local_fixups__") (local_properties t.content) (mirror t.children) no_nodes refl)

  differ : AreDistinct (names (object_nodes symbols t))
  differ =
      distinct_unless_empty (codes "__symbols__") symbols no_nodes (fixup_nodes t)
      (each_name (λ y. y ≢ codes "__symbols__") (codes "__fixups__") (fixups (outside_cells t)) no_nodes locals (λ e. cc)
      (each_name (λ y. y ≢ codes "__symbols__") (codes "__local_fixups__") (local_properties t.content) (mirror t.children) no_nodes (λ e. cc) tt))
      (distinct_unless_empty (codes "__fixups__") (fixups (outside_cells t)) no_nodes locals
      (each_name (λ y. y ≢ codes "__fixups__") (codes "__local_fixups__") (local_properties t.content) (mirror t.children) no_nodes (λ e. cc) tt)
      (distinct_unless_empty (codes "__local_fixups__") (local_properties t.content) (mirror t.children) no_nodes tt tt))

  -- a blob may hold them behind a tree
  pub valid_object : (r : Reading) → HasNone r.children → IsValid r
      → AreProperties symbols → value_of symbols (codes "phandle") ≡ None
      → AreProperties (fixups (outside_cells t)) → value_of (fixups (outside_cells t)) (codes "phandle") ≡ None
      → AreProperties (local_properties t.content) → value_of (local_properties t.content) (codes "phandle") ≡ None
      → AreNodes (mirror t.children) → AreDistinct (names (mirror t.children)) → phandles (mirror t.children) ≡ []
      → IsValid (with_nodes r (object_nodes symbols t))
  valid_object r none valid labels no_label cells no_cell root no_root below distinct no_number =
      valid_with_nodes r (object_nodes symbols t) are_bookkeeping none valid
      (nodes_unless_empty (codes "__symbols__") symbols no_nodes (fixup_nodes t) (node_name (codes "__symbols__") refl) labels tt tt
      (nodes_unless_empty (codes "__fixups__") (fixups (outside_cells t)) no_nodes locals (node_name (codes "__fixups__") refl) cells tt tt
      (nodes_unless_empty (codes "__local_fixups__") (local_properties t.content) (mirror t.children) no_nodes (node_name (codes "__local_fixups__") refl) root below distinct tt)))
      differ
      (phandles_unless_empty (codes "__symbols__") symbols no_nodes (fixup_nodes t) no_label refl
      (phandles_unless_empty (codes "__fixups__") (fixups (outside_cells t)) no_nodes locals no_cell refl
      (phandles_unless_empty (codes "__local_fixups__") (local_properties t.content) (mirror t.children) no_nodes no_root no_number refl)))
