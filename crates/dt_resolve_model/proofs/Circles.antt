-- Interrupt parents that lead round: no number of steps ends.
use Rattle.std.proofs.Common.{◌≡◌, ℕ, zero, suc, refl, None}
use Rattle.std.specs.Prelude.{[], codes}
use Rattle.dt_resolve_model.specs.World.{tree_world}
use Rattle.dt_resolve_model.specs.Interrupts.{ended}
use Rattle.dt_resolve_model.specs.Rows.{below_root, circle, circle_of_root, circle_of_root_tree, circle_tree, world_of}

told_two : (n : ℕ) → (ended (tree_world circle_tree) n (below_root (codes "a")) ≡ None) × (ended (tree_world circle_tree) n (below_root (codes "b")) ≡ None)
told_two zero = (refl, refl)
told_two (suc n) = let h = told_two n in (h.1, h.0)

pub told_round : (n : ℕ) → ended (tree_world circle_tree) n (below_root (codes "c")) ≡ None
told_round zero = refl
told_round (suc n) = (told_two n).0

meant_two : (n : ℕ) → (ended (world_of circle circle_tree) n (below_root (codes "a")) ≡ None) × (ended (world_of circle circle_tree) n (below_root (codes "b")) ≡ None)
meant_two zero = (refl, refl)
meant_two (suc n) = let h = meant_two n in (h.1, h.0)

pub meant_round : (n : ℕ) → ended (world_of circle circle_tree) n (below_root (codes "c")) ≡ None
meant_round zero = refl
meant_round (suc n) = (meant_two n).0

told_child : (n : ℕ) → (ended (tree_world circle_of_root_tree) n [] ≡ None) × (ended (tree_world circle_of_root_tree) n (below_root (codes "n")) ≡ None)
told_child zero = (refl, refl)
told_child (suc n) = let h = told_child n in (h.1, h.0)

pub told_root : (n : ℕ) → ended (tree_world circle_of_root_tree) n (below_root (codes "c")) ≡ None
told_root zero = refl
told_root (suc n) = (told_child n).0

meant_child : (n : ℕ) → (ended (world_of circle_of_root circle_of_root_tree) n [] ≡ None) × (ended (world_of circle_of_root circle_of_root_tree) n (below_root (codes "n")) ≡ None)
meant_child zero = (refl, refl)
meant_child (suc n) = let h = meant_child n in (h.1, h.0)

pub meant_root : (n : ℕ) → ended (world_of circle_of_root circle_of_root_tree) n (below_root (codes "c")) ≡ None
meant_root zero = refl
meant_root (suc n) = (meant_child n).0
