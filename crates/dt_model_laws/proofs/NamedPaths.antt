-- The paths of a named tree's nodes differ, where siblings differ in their names.
use Rattle.std.proofs.Common.{◌≡◌, ◌≢◌, List, [], ◌∷◌, ◌++◌, map, refl, sym, ap, subst, ◌∙◌, inl, inr, append_assoc}
use Rattle.std.specs.List.{AllByRecursion}
use Rattle.std.proofs.lemmas.List.{append_cancel_left}
use Rattle.dt_model.specs.Names.{Name}
use Rattle.dt_model.specs.Path.{Path}
use Rattle.dt_model.specs.Lists.{IsIn}
use Rattle.dt_model.specs.Valid.{AreDistinct}
use Rattle.dt_model.specs.Named.{NamedForest, no_nodes, branch, Named, NamedPlaced, names, preorder, paths_of}
use Rattle.dt_model.proofs.Tests.{each_in, each_from, each_append, in_append, in_map_from}
use Rattle.dt_model.proofs.Distinct.{distinct_append}
use Rattle.dt_model.proofs.Flat.{map_append}
use Rattle.dt_model_laws.proofs.NamedListed.{AreApart, IsApart}

module _ {R : Type 0} where
  -- the path of a listed node begins with the name of one of the siblings
  record IsBelow (path : Path) (f : NamedForest R) (p : Path) : Type 0 where
    name : Name
    rest : Path
    at : p ≡ path ++ name ∷ rest
    named : IsIn name (names f)

  listed_below : (path : Path) (f : NamedForest R) (n : NamedPlaced R) → IsIn n (preorder path f) → IsBelow path f n.path
  listed_below path no_nodes n i = absurd i
  listed_below path (branch name content children siblings) n (inl same) = record { name = name; rest = []; at = ap (λ x. x.path) same; named = inl refl }
  listed_below path (branch name content children siblings) n (inr i) =
      elim (in_append n (preorder (path ++ name ∷ []) children) (preorder path siblings) i) [
        | inl k ↦ deeper (listed_below (path ++ name ∷ []) children n k)
        | inr k ↦ beside (listed_below path siblings n k)
      ]
    where
      deeper : IsBelow (path ++ name ∷ []) children n.path → IsBelow path (branch name content children siblings) n.path
      deeper h = record { name = name; rest = h.name ∷ h.rest; at = h.at ∙ append_assoc path (name ∷ []) (h.name ∷ h.rest); named = inl refl }

      beside : IsBelow path siblings n.path → IsBelow path (branch name content children siblings) n.path
      beside h = record { name = h.name; rest = h.rest; at = h.at; named = inr h.named }

  -- the paths of these nodes
  abbrev paths : List (NamedPlaced R) → List Path
  paths nodes = map (λ n. n.path) nodes

  below_of : (path : Path) (f : NamedForest R) (p : Path) → IsIn p (paths (preorder path f)) → IsBelow path f p
  below_of path f p i =
      let w = in_map_from (λ (n : NamedPlaced R). n.path) (preorder path f) p i in
      let h = listed_below path f w.0 w.1 in
      record { name = h.name; rest = h.rest; at = w.2 ∙ h.at; named = h.named }

  preorder_distinct : (path : Path) (f : NamedForest R) → AreDistinct (names f) → AreApart f → AreDistinct (paths (preorder path f))
  preorder_distinct path no_nodes d apart = tt
  preorder_distinct path (branch name content children siblings) d apart =
      subst (λ z. AllByRecursion (λ q. q ≢ path ++ name ∷ []) z × AreDistinct z) (sym (map_append (λ n. n.path) (preorder (path ++ name ∷ []) children) (preorder path siblings))) (
        each_append (λ q. q ≢ path ++ name ∷ []) inner outer (each_from (λ q. q ≢ path ++ name ∷ []) inner not_here) (each_from (λ q. q ≢ path ++ name ∷ []) outer not_first),
        distinct_append inner outer (preorder_distinct (path ++ name ∷ []) children apart.0 apart.1) (preorder_distinct path siblings d.1 apart.2) not_both,
      )
    where
      inner : List Path
      inner = paths (preorder (path ++ name ∷ []) children)

      outer : List Path
      outer = paths (preorder path siblings)

      not_here : (q : Path) → IsIn q inner → q ≢ path ++ name ∷ []
      not_here q i e =
          let h = below_of (path ++ name ∷ []) children q i in
          let z : name ∷ h.name ∷ h.rest ≡ name ∷ [] = append_cancel_left path (name ∷ h.name ∷ h.rest) (name ∷ []) (sym (append_assoc path (name ∷ []) (h.name ∷ h.rest)) ∙ sym h.at ∙ e) in
          cc

      other_name : (x : Name) → IsIn x (names siblings) → x ≢ name
      other_name x i = each_in (λ z. z ≢ name) (names siblings) x d.0 i

      not_first : (q : Path) → IsIn q outer → q ≢ path ++ name ∷ []
      not_first q i e =
          let h = below_of path siblings q i in
          let z : h.name ∷ h.rest ≡ name ∷ [] = append_cancel_left path (h.name ∷ h.rest) (name ∷ []) (sym h.at ∙ e) in
          let same : h.name ≡ name = cc in
          other_name h.name h.named same

      not_both : (q : Path) → IsIn q inner → IsIn q outer → ⊥
      not_both q i j =
          let h = below_of (path ++ name ∷ []) children q i in
          let k = below_of path siblings q j in
          let z : k.name ∷ k.rest ≡ name ∷ h.name ∷ h.rest = append_cancel_left path (k.name ∷ k.rest) (name ∷ h.name ∷ h.rest) (sym k.at ∙ h.at ∙ append_assoc path (name ∷ []) (h.name ∷ h.rest)) in
          let same : k.name ≡ name = cc in
          other_name k.name k.named same

  pub paths_distinct : (t : Named R) → IsApart t → AreDistinct (paths_of t)
  paths_distinct t apart = (each_from (λ q. q ≢ []) (paths (preorder [] t.children)) not_root, preorder_distinct [] t.children apart.0 apart.1)
    where
      not_root : (q : Path) → IsIn q (paths (preorder [] t.children)) → q ≢ []
      not_root q i e = let h = below_of [] t.children q i in let z : h.name ∷ h.rest ≡ [] = sym h.at ∙ e in cc
