-- What is left to land, as one node after another lands on its site.
use Rattle.std.proofs.Common.{◌≡◌, ℕ, List, [], ◌∷◌, ◌⊎◌, inl, inr, sym, subst}
use Rattle.std.specs.Prelude.{true}
use Rattle.std.specs.List.{AllByRecursion}
use Rattle.dt_model.specs.Path.{Path}
use Rattle.dt_model.specs.Tree.{Node, Reading, stands_in}
use Rattle.dt_overlay_laws.specs.Steps.{land_node, MayLandNode, FullAtNode}
use Rattle.dt_overlay_object.specs.declared.kept.ObjectFragment.{ObjectFragment}
use Rattle.dt_overlay_landing.specs.Landed.{land_each, MayLandEach, FullAtEach}
use Rattle.dt_trees.specs.Placed.{PlacedTree, IsNode}

-- what is left does to the tree so far what all do to the first one
pub record EachLeft (full : Reading → Reading → Type 0) (o : PlacedTree) (landed : ℕ → Node) (xs : List ObjectFragment) (sites : List Path) (t whole : Reading) (crowded : Type 0) : Type 0 where
  pub lands : land_each landed xs sites t ≡ whole
  pub may : MayLandEach landed xs sites t
  pub there : AllByRecursion (λ x. IsNode o x.content) xs
  pub stuck : FullAtEach full landed xs sites t → crowded

-- what is true of the first node that is left
pub record IsNextLanding (full : Reading → Reading → Type 0) (o : PlacedTree) (node : Node) (k : ℕ) (q : Path) (t : Reading) (crowded : Type 0) : Type 0 where
  pub there : IsNode o k
  pub stands : stands_in t q ≡ true
  pub may : MayLandNode q node t
  pub landed : FullAtNode full q node t → crowded

module _ (full : Reading → Reading → Type 0) (o : PlacedTree) (landed : ℕ → Node) (whole : Reading) (crowded : Type 0) where
  abbrev Left : List ObjectFragment → List Path → Reading → Type 0
  Left xs sites t = EachLeft full o landed xs sites t whole crowded

  module _ (all xs : List ObjectFragment) (x : ObjectFragment) (sites qs : List Path) (q : Path) (t : Reading) (e : all ≡ x ∷ xs) (f : sites ≡ q ∷ qs) (so_far : Left all sites t) where
    -- it lands as the first of both lists
    left_first : Left (x ∷ xs) (q ∷ qs) t
    left_first = subst (λ (ys : List ObjectFragment). Left ys (q ∷ qs) t) e (subst (λ (ps : List Path). Left all ps t) f so_far)

    pub next_landing : IsNextLanding full o (landed x.content) x.content q t crowded
    next_landing =
        let more = left_first in
        record { there = more.there.0; stands = more.may.0; may = more.may.1; landed = λ h. more.stuck (inl h) }

    -- one node has landed
    pub each_step : (t' : Reading) → t' ≡ land_node q (landed x.content) t → Left xs qs t'
    each_step t' set =
        let more = left_first in
        subst (λ (r : Reading). Left xs qs r) (sym set) (record { lands = more.lands; may = more.may.2; there = more.there.1; stuck = λ h. more.stuck (inr h) })

  -- one of the lists is over
  pub each_over : (xs : List ObjectFragment) (sites : List Path) (t : Reading) → (xs ≡ []) ⊎ (sites ≡ []) → Left xs sites t → t ≡ whole
  each_over xs sites t (inl e) so_far = (subst (λ (ys : List ObjectFragment). Left ys sites t) e so_far).lands
  each_over [] sites t (inr e) so_far = so_far.lands
  each_over (x ∷ xs) sites t (inr e) so_far = (subst (λ (ps : List Path). Left (x ∷ xs) ps t) e so_far).lands
