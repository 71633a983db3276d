-- The node that a fragment's target names, in numbers and texts, is the one that the overlay's target names.
use Rattle.std.proofs.Common.{◌≡◌, ℕ, true, false, ◌||◌, Bool, List, [], ◌∷◌, map, codes, refl, sym, ap, ◌∙◌, inl, inr, subst, Option, Some, None}
use Rattle.std.specs.Prelude.{option_map, option_and_then, if◌then◌else◌}
use Rattle.std.specs.Option.{option_or}
use Rattle.std.specs.List.{AllByRecursion, list_any}
use Rattle.std.specs.Str.{bytes_eq}
use Rattle.dt_model.specs.Names.{Name, IsNodeName}
use Rattle.dt_model.specs.Path.{Path, path_eq, path_value, is_bookkeeping}
use Rattle.dt_model.specs.Lists.{IsIn, last_of}
use Rattle.dt_model.specs.Meaning.{byte, reference, cell, value_bytes, Meaning}
use Rattle.dt_model.specs.Overlay.{object_number, OverlayReference, inside, outside, Target, at_reference, at_path, Fragment, Overlay, HoldsTarget}
use Rattle.dt_model.specs.Merged.{Site, landing, sources, Names}
use Rattle.dt_model.specs.Object.{Cell, references_from, IsCellOf, HasFixups, local_cells}
use Rattle.dt_model.specs.Tree.{Reading, nodes_of, stands_in, value_in}
use Rattle.dt_model.specs.Applied.{number_at, node_numbered, node_named, landed_named}
use Rattle.dt_model.proofs.Tests.{and_left, and_right, and_both, or_left, or_right, or_cases, any_from, any_here, path_eq_refl, path_eq_true, bytes_eq_refl, bytes_eq_true}
use Rattle.dt_model.proofs.Texts.{one_value}
use Rattle.dt_model.proofs.Listed.{stands_listed, listed_stands}
use Rattle.dt_model.proofs.Finding.{node_of_number, node_of_text, text_of_node, landed_named_from, landed_named_some}
use Rattle.dt_model_laws.specs.Applying.{AreOf}
use Rattle.dt_model_laws.proofs.Lands.{source_of, landing_of}
use Rattle.dt_model.proofs.Inside.{IsInside, plain_brought, plain_fragment, target_inside}
use Rattle.dt_model_laws.proofs.Given.{symbol_is, object_value_is, object_items, object_phandle}
use Rattle.dt_model_laws.proofs.Numbered.{small_number}
use Rattle.dt_model_laws.proofs.Writes.{read_value}
use Rattle.dt_model_laws.proofs.Facts.{exact}
use Rattle.dt_model_laws.proofs.Placed.{AreEarlier, earlier_distinct, lands_brought, lands_named}
use Rattle.dt_overlay_model.specs.Walk.{Walked, is_target, target_label, named_node, target_of}

-- ---- the last that has something

pub last_one : {X A : Type 0} (f : X → Option A) (xs : List X) (x : X) (y : A) → IsIn x xs → f x ≡ Some y → ((x' : X) (z : A) → IsIn x' xs → f x' ≡ Some z → z ≡ y) → last_of f xs ≡ Some y
last_one f [] x y i e all = absurd i
last_one {X} {A} f (x' ∷ xs) x y i e all = step (last_of f xs) refl (last_one f xs x y)
  where
    from : (xs : List X) (z : A) → last_of f xs ≡ Some z → (x : X) × IsIn x xs × (f x ≡ Some z)
    from [] z h = absurd (let k : ◌≡◌ {A = Option A} None (Some z) = h in cc)
    from (x ∷ xs) z h = inner (last_of f xs) refl h (from xs z)
      where
        inner : (o : Option A) → last_of f xs ≡ o → option_or o (f x) ≡ Some z → (last_of f xs ≡ Some z → (x : X) × IsIn x xs × (f x ≡ Some z)) → (y : X) × IsIn y (x ∷ xs) × (f y ≡ Some z)
        inner None k h more = (x, inl refl, h)
        inner (Some v) k h more = let w = more (k ∙ h) in (w.0, inr w.1, w.2)

    step : (o : Option A) → last_of f xs ≡ o
        → (IsIn x xs → f x ≡ Some y → ((x'' : X) (z : A) → IsIn x'' xs → f x'' ≡ Some z → z ≡ y) → last_of f xs ≡ Some y) → option_or (last_of f xs) (f x') ≡ Some y
    step None k more = elim i [
      | inl same ↦ rw k (ap f (sym same) ∙ e)
      | inr j ↦ absurd (let z : ◌≡◌ {A = Option A} None (Some y) = sym k ∙ more j e (λ a z l. all a z (inr l)) in cc)
    ]
    step (Some z) k more = let w = from xs z k in rw k (ap Some (all w.0 z (inr w.1) w.2))

pub last_none : {X A : Type 0} (f : X → Option A) (xs : List X) → ((x : X) → IsIn x xs → f x ≡ None) → last_of f xs ≡ None
last_none f [] all = refl
last_none f (x ∷ xs) all = rw (last_none f xs (λ y i. all y (inr i))) (all x (inl refl))

-- bytes without references
plain_value : {R : Type 0} (f : R → ℕ) (bytes : List ℕ) → value_bytes f (map byte bytes) ≡ bytes
plain_value f [] = refl
plain_value f (b ∷ bytes) = ap (λ z. b ∷ z) (plain_value f bytes)

-- a fragment's target as a cell
abbrev target_cell : Name → Cell
target_cell f = record { path = f ∷ []; property = codes "target"; offset = 0 }

target_is_one : (f : Name) → is_target f (target_cell f) ≡ true
target_is_one f = and_both (path_eq (f ∷ []) (f ∷ [])) (bytes_eq (codes "target") (codes "target")) (path_eq_refl (f ∷ [])) (bytes_eq_refl (codes "target"))

module _ (base object : Reading) (m : Meaning) (o : Overlay) (number local : Path → ℕ) (fixups : List (Name × Cell))
    (are : AreOf base object m o number local) (has : HasFixups object fixups) where
  -- the path that a reference names
  abbrev named_at : List Site → OverlayReference → Option Path
  named_at earlier (inside p) = landing earlier p
  named_at earlier (outside l) = m.label l

  abbrev pub node_for : Walked → Fragment → Option Path
  node_for w f = target_of base object fixups w f.name (value_in object (f.name ∷ []) (codes "target"))

  -- a cell of the target is that of its one reference
  one_reference : (f : Fragment) (r s : OverlayReference) (c : Cell) → HoldsTarget o f.name (at_reference r) → is_target f.name c ≡ true → IsCellOf o c s → s ≡ r
  one_reference f r s c held is of =
      let at : c.path ≡ f.name ∷ [] = path_eq_true c.path (f.name ∷ []) (and_left (path_eq c.path (f.name ∷ [])) (bytes_eq c.property (codes "target")) is) in
      let name : c.property ≡ codes "target" = bytes_eq_true c.property (codes "target") (and_right (path_eq c.path (f.name ∷ [])) (bytes_eq c.property (codes "target")) is) in
      let z : Some of.0 ≡ Some (reference r ∷ []) = sym of.1 ∙ ap (λ p. o.value p c.property) at ∙ ap (o.value (f.name ∷ [])) name ∙ held in
      let same : of.0 ≡ reference r ∷ [] = cc in
      only (subst (λ items. IsIn {X = ℕ × OverlayReference} (c.offset, s) (references_from 0 items)) same of.2)
    where
      only : IsIn {X = ℕ × OverlayReference} (c.offset, s) ((0, r) ∷ []) → s ≡ r
      only (inl same) = ap (λ x. x.1) same
      only (inr i) = absurd i

  abbrev waits : Name → Name × Cell → Option Name
  waits f x = if is_target f x.1 then Some x.0 else None

  waits_for : (f : Name) (x : Name × Cell) (l : Name) → waits f x ≡ Some l → (is_target f x.1 ≡ true) × (l ≡ x.0)
  waits_for f x l h = step (is_target f x.1) h
    where
      step : (b : Bool) → (if b then Some x.0 else None) ≡ Some l → (b ≡ true) × (l ≡ x.0)
      step true e = (refl, (let z : Some x.0 ≡ Some l = e in cc))
      step false e = absurd (let z : ◌≡◌ {A = Option Name} None (Some l) = e in cc)

  label_found : (f : Fragment) (l : Name) → HoldsTarget o f.name (at_reference (outside l)) → target_label f.name fixups ≡ Some l
  label_found f l held =
      last_one (waits f.name) fixups (l, target_cell f.name) l
      ((exact base object m o number local fixups are has l (target_cell f.name)).1 (reference (outside l) ∷ [], held, inl refl))
      (ap (λ b. if b then Some l else None) (target_is_one f.name))
      (λ x z i e.
      let w = waits_for f.name x z e in
      let of = (exact base object m o number local fixups are has x.0 x.1).0 i in
      let same : outside x.0 ≡ outside l = one_reference f (outside l) (outside x.0) x.1 held w.0 of in
      let is : x.0 ≡ l = cc in
      w.1 ∙ is)

  no_label : (f : Fragment) (p : Path) → HoldsTarget o f.name (at_reference (inside p)) → target_label f.name fixups ≡ None
  no_label f p held = last_none (waits f.name) fixups (λ x i. none x i (is_target f.name x.1) refl)
    where
      none : (x : Name × Cell) → IsIn x fixups → (b : Bool) → is_target f.name x.1 ≡ b → waits f.name x ≡ None
      none x i false e = ap (λ b. if b then Some x.0 else None) e
      none x i true e =
          let of = (exact base object m o number local fixups are has x.0 x.1).0 i in
          absurd (let same : outside x.0 ≡ inside p = one_reference f (inside p) (outside x.0) x.1 held e of in cc)

  listed_inside : (f : Fragment) (p : Path) → HoldsTarget o f.name (at_reference (inside p)) → list_any (is_target f.name) (local_cells object) ≡ true
  listed_inside f p held =
      any_here (is_target f.name) (local_cells object) (target_cell f.name) ((are.encoded.locals_exact (target_cell f.name)).1 (p, (reference (inside p) ∷ [], held, inl refl))) (target_is_one f.name)

  own_node : (p : Path) → IsInside o (inside p) → node_numbered (nodes_of object) (local p) ≡ Some p
  own_node p h =
      node_of_number object p (local p) are.valid_object
      (object_phandle object o local are.encoded are.overlay p (plain_brought o are.overlay p h.1) ∙ ap (λ b. if b then Some (cell (local p)) else None) h.0)

  -- a target by a reference
  by_reference : (w : Walked) (f : Fragment) (r : OverlayReference) → IsIn f o.fragments → f.target ≡ at_reference r → node_for w f ≡ named_at w.sites r
  by_reference w f r i e = by r (subst (λ t. HoldsTarget o f.name t) e (are.overlay.targeted f i)) (target_inside o are.overlay f r i e)
    where
      holds : (r : OverlayReference) → HoldsTarget o f.name (at_reference r) → value_in object (f.name ∷ []) (codes "target") ≡ Some (value_bytes (object_number local) (reference r ∷ []))
      holds r held = object_items object o local are.encoded are.overlay (f.name ∷ []) (codes "target") (reference r ∷ []) (plain_fragment o are.overlay f [] i) held

      by : (r : OverlayReference) → HoldsTarget o f.name (at_reference r) → IsInside o r → node_for w f ≡ named_at w.sites r
      by (outside l) held inner =
          ap (target_of base object fixups w f.name) (holds (outside l) held)
          ∙ ap (λ y. named_node base object w y (list_any (is_target f.name) (local_cells object)) (number_at (value_bytes (object_number local) (reference (outside l) ∷ [])) 0)) (label_found f l held)
          ∙ symbol_is base m number are.represented are.meaning are.plain are.valid_base l
      by (inside p) held inner =
          ap (target_of base object fixups w f.name) (holds (inside p) held)
          ∙ ap (λ y. named_node base object w y (list_any (is_target f.name) (local_cells object)) (number_at (value_bytes (object_number local) (reference (inside p) ∷ [])) 0)) (no_label f p held)
          ∙ ap (λ b. named_node base object w None b (number_at (value_bytes (object_number local) (reference (inside p) ∷ [])) 0)) (listed_inside f p held)
          ∙ ap (λ n. option_and_then (landing w.sites) (node_numbered (nodes_of object) n))
          (read_value (object_number local) (reference (inside p) ∷ []) 0 (inside p) (inl refl) (small_number (local p) (are.encoded.high p inner.0)))
          ∙ ap (option_and_then (landing w.sites)) (own_node p inner)

  -- a target by a path
  by_text : (w : Walked) (f : Fragment) (p : Path) → IsIn f o.fragments → f.target ≡ at_path p
      → node_for w f ≡ option_or (node_named (nodes_of base) (path_value p)) (landed_named (nodes_of object) w.sites (path_value p))
  by_text w f p i e =
      let held = subst (λ t. HoldsTarget o f.name t) e (are.overlay.targeted f i) in
      let plain = plain_fragment o are.overlay f [] i in
      let none : value_in object (f.name ∷ []) (codes "target") ≡ None =
      object_value_is object o local are.encoded are.overlay (f.name ∷ []) (codes "target") plain refl ∙ ap (option_map (value_bytes (object_number local))) held.0 in
      let text : value_in object (f.name ∷ []) (codes "target-path") ≡ Some (path_value p) =
      object_value_is object o local are.encoded are.overlay (f.name ∷ []) (codes "target-path") plain refl ∙ ap (option_map (value_bytes (object_number local))) held.1
      ∙ ap Some (plain_value (object_number local) (path_value p)) in
      ap (target_of base object fixups w f.name) none
      ∙ ap (option_and_then (λ text. option_or (node_named (nodes_of base) text) (landed_named (nodes_of object) w.sites text))) text

  -- the tree so far: the base with what the fragments before bring
  abbrev IsSoFar : List Site → Path → Type 0
  IsSoFar earlier q = list_any o.stands (sources earlier q) || m.stands q ≡ true

  -- a node of the object that lands is one of the overlay's
  lands_stands : (earlier : List Site) → AreEarlier o earlier → (p q : Path) → stands_in object p ≡ true → landing earlier p ≡ Some q → o.stands p ≡ true
  lands_stands earlier e p q h l = sym (are.encoded.nodes p (plain_brought o are.overlay p (lands_brought o are.overlay earlier e p q l))) ∙ h

  landed_so_far : (earlier : List Site) (p q : Path) → o.stands p ≡ true → landing earlier p ≡ Some q → IsSoFar earlier q
  landed_so_far earlier p q h l = or_left (list_any o.stands (sources earlier q)) (m.stands q) (any_here o.stands (sources earlier q) p (source_of earlier p q l) h)

  -- the node that a text names where something lands
  landed_text : (earlier : List Site) → AreEarlier o earlier → (p q : Path) → AllByRecursion IsNodeName p → landed_named (nodes_of object) earlier (path_value p) ≡ Some q → (p ≡ q) × IsSoFar earlier q
  landed_text earlier e p q named h =
      let w = landed_named_from (nodes_of object) earlier (path_value p) q h in
      let s = lands_stands earlier e w.0.path q (listed_stands object w.0 are.valid_object w.1) w.2 in
      (sym (one_value q p (lands_named o are.overlay earlier e w.0.path q s w.2) named w.3), landed_so_far earlier w.0.path q s w.2)

  -- a node that is found is one that the target names, of the tree so far
  pub target_from : (w : Walked) → AreEarlier o w.sites → (f : Fragment) (q : Path) → IsIn f o.fragments → is_bookkeeping q ≡ false → node_for w f ≡ Some q
      → Names m w.sites f.target q × IsSoFar w.sites q
  target_from w e f q i plain h = step f.target refl
    where
      step : (t : Target) → f.target ≡ t → Names m w.sites t q × IsSoFar w.sites q
      step (at_reference (inside p)) k =
          let n : landing w.sites p ≡ Some q = sym (by_reference w f (inside p) i k) ∙ h in
          (n, landed_so_far w.sites p q (are.overlay.keyed_stand p (target_inside o are.overlay f (inside p) i k).0) n)
      step (at_reference (outside l)) k =
          let n : m.label l ≡ Some q = sym (by_reference w f (outside l) i k) ∙ h in
          (n, or_right (list_any o.stands (sources w.sites q)) (m.stands q) (are.meaning.keyed_stand q (are.meaning.labelled l q n).1))
      step (at_path p) k = inner (node_named (nodes_of base) (path_value p)) refl
        where
          named : AllByRecursion IsNodeName p
          named = let held = subst (λ t. HoldsTarget o f.name t) k (are.overlay.targeted f i) in held.2

          inner : (y : Option Path) → node_named (nodes_of base) (path_value p) ≡ y → (p ≡ q) × IsSoFar w.sites q
          inner None j = landed_text w.sites e p q named (sym (by_text w f p i k ∙ ap (λ z. option_or z (landed_named (nodes_of object) w.sites (path_value p))) j) ∙ h)
          inner (Some r) j =
              let z : Some r ≡ Some q = sym (by_text w f p i k ∙ ap (λ z. option_or z (landed_named (nodes_of object) w.sites (path_value p))) j) ∙ h in
              let is : r ≡ q = cc in
              let v = text_of_node base p r are.valid_base named j in
              (sym v.0 ∙ is, or_right (list_any o.stands (sources w.sites q)) (m.stands q) (sym (are.represented.nodes q plain) ∙ ap (stands_in base) (sym is) ∙ v.1))

  -- and the other way round
  pub target_to : (w : Walked) → AreEarlier o w.sites → (f : Fragment) (q : Path) → IsIn f o.fragments → is_bookkeeping q ≡ false → Names m w.sites f.target q → IsSoFar w.sites q
      → node_for w f ≡ Some q
  target_to w e f q i plain n there = step f.target refl n
    where
      step : (t : Target) → f.target ≡ t → Names m w.sites t q → node_for w f ≡ Some q
      step (at_reference (inside p)) k n = by_reference w f (inside p) i k ∙ n
      step (at_reference (outside l)) k n = by_reference w f (outside l) i k ∙ n
      step (at_path p) k n = by_text w f p i k ∙ elim (or_cases (list_any o.stands (sources w.sites q)) (m.stands q) there) [
        | inl any ↦ inner any (node_named (nodes_of base) (path_value p)) refl
        | inr h ↦
            let found : node_named (nodes_of base) (path_value q) ≡ Some q = node_of_text base q are.valid_base (are.represented.nodes q plain ∙ h) in
            ap (λ z. option_or z (landed_named (nodes_of object) w.sites (path_value p))) (ap (λ z. node_named (nodes_of base) (path_value z)) n ∙ found)
      ]
        where
          named : AllByRecursion IsNodeName p
          named = let held = subst (λ t. HoldsTarget o f.name t) k (are.overlay.targeted f i) in held.2

          last : (r : Path) → landed_named (nodes_of object) w.sites (path_value p) ≡ Some r → landed_named (nodes_of object) w.sites (path_value p) ≡ Some q
          last r found = found ∙ ap Some (sym (landed_text w.sites e p r named found).0 ∙ n)

          inner : list_any o.stands (sources w.sites q) ≡ true → (y : Option Path) → node_named (nodes_of base) (path_value p) ≡ y
              → option_or (node_named (nodes_of base) (path_value p)) (landed_named (nodes_of object) w.sites (path_value p)) ≡ Some q
          inner any (Some r) j = rw j (ap Some ((text_of_node base p r are.valid_base named j).0 ∙ n))
          inner any None j =
              let v = any_from o.stands (sources w.sites q) any in
              let l = landing_of w.sites v.0 q (earlier_distinct o are.overlay w.sites e) v.1 in
              let s : stands_in object v.0 ≡ true = are.encoded.nodes v.0 (plain_brought o are.overlay v.0 (lands_brought o are.overlay w.sites e v.0 q l)) ∙ v.2 in
              let x = stands_listed object v.0 s in
              let found = landed_named_some (nodes_of object) w.sites (path_value p) x.0 q x.1 (ap (landing w.sites) x.2 ∙ l) (ap path_value (sym n)) in
              rw j (last found.0 found.1)
