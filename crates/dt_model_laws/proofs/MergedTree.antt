-- The nodes of a merged meaning are a tree, whose paths have names.
use Rattle.std.proofs.Common.{◌≡◌, true, ◌||◌, List, [], ◌∷◌, ◌++◌, refl, sym, ap, ◌∙◌, ◌⊎◌, inl, inr, subst, Option, Some, None, append_assoc, append-nil}
use Rattle.std.specs.List.{list_any, AllByRecursion}
use Rattle.dt_model.specs.Names.{Name, IsNodeName}
use Rattle.dt_model.specs.Path.{Path}
use Rattle.dt_model.specs.Lists.{IsIn}
use Rattle.dt_model.specs.Meaning.{Meaning, IsMeaning}
use Rattle.dt_model.specs.Overlay.{Overlay, IsOverlay, Fragment, content}
use Rattle.dt_model.specs.Merged.{Site, moved, with_first, sources, AreSites}
use Rattle.dt_model.proofs.Tests.{or_cases, or_left, or_right, any_from, any_here, each_append}
use Rattle.dt_model_laws.proofs.Lands.{moved_is, moved-append}

-- a path is the root, or below a node
pub record IsChild (p : Path) : Type 0 where
  pub parent : Path
  pub name : Name
  pub is : p ≡ parent ++ name ∷ []

last_name : (p : Path) → (p ≡ []) ⊎ IsChild p
last_name [] = inl refl
last_name (x ∷ p) = elim (last_name p) [
  | inl e ↦ inr (record { parent = []; name = x; is = ap (λ z. x ∷ z) e })
  | inr c ↦ inr (record { parent = x ∷ c.parent; name = c.name; is = ap (λ z. x ∷ z) c.is })
]

not_empty : (p : Path) (x : Name) → p ++ x ∷ [] ≡ [] → ⊥
not_empty [] x e = cc
not_empty (y ∷ p) x e = cc

same_parent : (p q : Path) (x y : Name) → p ++ x ∷ [] ≡ q ++ y ∷ [] → p ≡ q
same_parent [] [] x y e = refl
same_parent [] (z ∷ q) x y e = absurd (not_empty q y (let t : [] ≡ q ++ y ∷ [] = cc in sym t))
same_parent (z ∷ p) [] x y e = absurd (not_empty p x (let t : p ++ x ∷ [] ≡ [] = cc in t))
same_parent (z ∷ p) (w ∷ q) x y e =
    let head : z ≡ w = cc in
    let rest : p ++ x ∷ [] ≡ q ++ y ∷ [] = cc in
    ap (λ (t : Name). t ∷ p) head ∙ ap (λ t. w ∷ t) (same_parent p q x y rest)

pub source_cases : (sites : List Site) (x : Site) (p q : Path) → IsIn p (sources (sites ++ x ∷ []) q) → IsIn p (sources sites q) ⊎ (moved x.at (content x.fragment) q ≡ Some p)
source_cases [] x p q i = step (moved x.at (content x.fragment) q) i
  where
    step : (y : Option Path) → IsIn p (with_first y []) → ⊥ ⊎ (y ≡ Some p)
    step None i = absurd i
    step (Some r) (inl same) = inr (ap Some (sym same))
    step (Some r) (inr k) = absurd k
source_cases (z ∷ sites) x p q i = step (source_cases sites x p q) (moved z.at (content z.fragment) q) i
  where
    step : (IsIn p (sources (sites ++ x ∷ []) q) → IsIn p (sources sites q) ⊎ (moved x.at (content x.fragment) q ≡ Some p)) → (y : Option Path) → IsIn p (with_first y (sources (sites ++ x ∷ []) q))
        → IsIn p (with_first y (sources sites q)) ⊎ (moved x.at (content x.fragment) q ≡ Some p)
    step more None i = more i
    step more (Some r) (inl same) = inl (inl same)
    step more (Some r) (inr k) = elim (more k) [ inl j ↦ inl (inr j) | inr e ↦ inr e ]

pub source_before : (sites : List Site) (x : Site) (p q : Path) → IsIn p (sources sites q) → IsIn p (sources (sites ++ x ∷ []) q)
source_before [] x p q i = absurd i
source_before (z ∷ sites) x p q i = step (source_before sites x p q) (moved z.at (content z.fragment) q) i
  where
    step : (IsIn p (sources sites q) → IsIn p (sources (sites ++ x ∷ []) q)) → (y : Option Path) → IsIn p (with_first y (sources sites q)) → IsIn p (with_first y (sources (sites ++ x ∷ []) q))
    step more None i = more i
    step more (Some r) (inl same) = inl same
    step more (Some r) (inr k) = inr (more k)

pub source_last : (sites : List Site) (x : Site) (p q : Path) → moved x.at (content x.fragment) q ≡ Some p → IsIn p (sources (sites ++ x ∷ []) q)
source_last [] x p q e = subst (λ y. IsIn p (with_first y [])) (sym e) (inl refl)
source_last (z ∷ sites) x p q e = step (source_last sites x p q e) (moved z.at (content z.fragment) q)
  where
    step : IsIn p (sources (sites ++ x ∷ []) q) → (y : Option Path) → IsIn p (with_first y (sources (sites ++ x ∷ []) q))
    step more None = more
    step more (Some r) = inr more

module _ (m : Meaning) (o : Overlay) (meaning : IsMeaning m) (overlay : IsOverlay o) where
  -- the nodes of the tree with these fragments merged
  abbrev pub Stands : List Site → Path → Type 0
  Stands sites q = list_any o.stands (sources sites q) || m.stands q ≡ true

  pub record IsTree (sites : List Site) : Type 0 where
    pub parents : (p : Path) (name : Name) → list_any o.stands (sources sites (p ++ name ∷ [])) || m.stands (p ++ name ∷ []) ≡ true → list_any o.stands (sources sites p) || m.stands p ≡ true
    pub named : (p : Path) → list_any o.stands (sources sites p) || m.stands p ≡ true → AllByRecursion IsNodeName p

  -- what stands stands still
  still : (sites : List Site) (x : Site) (q : Path) → Stands sites q → Stands (sites ++ x ∷ []) q
  still sites x q h = elim (or_cases (list_any o.stands (sources sites q)) (m.stands q) h) [
    | inl any ↦
        let w = any_from o.stands (sources sites q) any in
        or_left (list_any o.stands (sources (sites ++ x ∷ []) q)) (m.stands q) (any_here o.stands (sources (sites ++ x ∷ []) q) w.0 (source_before sites x w.0 q w.1) w.2)
    | inr k ↦ or_right (list_any o.stands (sources (sites ++ x ∷ []) q)) (m.stands q) k
  ]

  brings : (sites : List Site) (x : Site) (p q : Path) → moved x.at (content x.fragment) q ≡ Some p → o.stands p ≡ true → Stands (sites ++ x ∷ []) q
  brings sites x p q e s = or_left (list_any o.stands (sources (sites ++ x ∷ []) q)) (m.stands q) (any_here o.stands (sources (sites ++ x ∷ []) q) p (source_last sites x p q e) s)

  -- a node stood before, or the last fragment brings it
  newest : (sites : List Site) (x : Site) (q : Path) → Stands (sites ++ x ∷ []) q → Stands sites q ⊎ ((p : Path) × (moved x.at (content x.fragment) q ≡ Some p) × (o.stands p ≡ true))
  newest sites x q h = elim (or_cases (list_any o.stands (sources (sites ++ x ∷ []) q)) (m.stands q) h) [
    | inl any ↦
        let w = any_from o.stands (sources (sites ++ x ∷ []) q) any in
        elim (source_cases sites x w.0 q w.1) [
          | inl i ↦ inl (or_left (list_any o.stands (sources sites q)) (m.stands q) (any_here o.stands (sources sites q) w.0 i w.2))
          | inr e ↦ inr (w.0, e, w.2)
        ]
    | inr k ↦ inl (or_right (list_any o.stands (sources sites q)) (m.stands q) k)
  ]

  one_more : (sites : List Site) (x : Site) → IsTree sites → Stands sites x.at → IsTree (sites ++ x ∷ [])
  one_more sites x tree there = record {
    parents = λ p name h. elim (newest sites x (p ++ name ∷ []) h) [
      | inl k ↦ still sites x p (tree.parents p name k)
      | inr w ↦ above p name w.0 w.1 w.2
    ];
    named = λ p h. elim (newest sites x p h) [
      | inl k ↦ tree.named p k
      | inr w ↦
          let r = moved_is x.at (content x.fragment) p w.0 w.1 in
          let names : AllByRecursion IsNodeName (content x.fragment ++ r.0) = subst (AllByRecursion IsNodeName) r.2 (overlay.named w.0 w.2) in
          subst (AllByRecursion IsNodeName) (sym r.1) (each_append IsNodeName x.at r.0 (tree.named x.at there) names.1.1)
    ];
  }
    where
      above : (p : Path) (name : Name) (from : Path) → moved x.at (content x.fragment) (p ++ name ∷ []) ≡ Some from → o.stands from ≡ true → Stands (sites ++ x ∷ []) p
      above p name from e s =
          let r = moved_is x.at (content x.fragment) (p ++ name ∷ []) from e in
          elim (last_name r.0) [
            | inl empty ↦ still sites x p (tree.parents p name (subst (Stands sites) (sym (r.1 ∙ ap (λ z. x.at ++ z) empty ∙ append-nil x.at)) there))
            | inr c ↦
                let is : p ≡ x.at ++ c.parent = same_parent p (x.at ++ c.parent) name c.name (r.1 ∙ ap (λ z. x.at ++ z) c.is ∙ sym (append_assoc x.at c.parent (c.name ∷ []))) in
                let up : o.stands (content x.fragment ++ c.parent) ≡ true = overlay.parents (content x.fragment ++ c.parent) c.name (ap o.stands (sym (r.2 ∙ ap (λ z. content x.fragment ++ z) c.is ∙ sym (append_assoc (content x.fragment) c.parent (c.name ∷ [])))) ∙ s) in
                brings sites x (content x.fragment ++ c.parent) p (ap (moved x.at (content x.fragment)) is ∙ moved-append x.at (content x.fragment) c.parent) up
          ]

  all_more : (sites earlier : List Site) (fs : List Fragment) → AreSites m o earlier fs sites → IsTree earlier → IsTree (earlier ++ sites)
  all_more [] earlier fs h tree = subst IsTree (sym (append-nil earlier)) tree
  all_more (x ∷ sites) earlier [] h tree = absurd h
  all_more (x ∷ sites) earlier (f ∷ fs) h tree = subst IsTree (append_assoc earlier (x ∷ []) sites) (all_more sites (earlier ++ x ∷ []) fs h.1 (one_more earlier x tree h.0.there))

  pub merged_tree : (fs : List Fragment) (sites : List Site) → AreSites m o [] fs sites → IsTree sites
  merged_tree fs sites h = all_more sites [] fs h (record { parents = meaning.parents; named = meaning.named })
