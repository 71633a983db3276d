-- Places that are well nested (Devicetree Specification v0.4, chapter 6): each is at top level or in a body, as it has to be,
-- and each body that they open is closed.
use Rattle.std.specs.Prelude.{ℕ, zero, suc, List, [], ◌∷◌}
use Rattle.dt_model.specs.Source.{Place, root, block, delete_node, child, label, property, delete_property, delete_child, close}

-- no body is open, and that
abbrev pub AtTopLevel : ℕ → Type 0 → Type 0
AtTopLevel zero rest = rest
AtTopLevel (suc outer) rest = ⊥

-- a body is open, and that of the number of those around it
abbrev pub InBody : ℕ → (ℕ → Type 0) → Type 0
InBody zero rest = ⊥
InBody (suc outer) rest = rest outer

-- with so many bodies open the place may stand, and that of the number of those that are open behind it
abbrev pub MayStand : ℕ → Place → (ℕ → Type 0) → Type 0
MayStand open_bodies root rest = AtTopLevel open_bodies (rest 1)
MayStand open_bodies (block r) rest = AtTopLevel open_bodies (rest 1)
MayStand open_bodies (delete_node r) rest = AtTopLevel open_bodies (rest 0)
MayStand open_bodies (child n) rest = InBody open_bodies (λ outer. rest (suc (suc outer)))
MayStand open_bodies (label l) rest = InBody open_bodies (λ outer. rest (suc outer))
MayStand open_bodies (property n v) rest = InBody open_bodies (λ outer. rest (suc outer))
MayStand open_bodies (delete_property n) rest = InBody open_bodies (λ outer. rest (suc outer))
MayStand open_bodies (delete_child n) rest = InBody open_bodies (λ outer. rest (suc outer))
MayStand open_bodies close rest = InBody open_bodies rest

-- with so many bodies open the places are well nested, and close them all
abbrev pub AreNested : ℕ → List Place → Type 0
AreNested open_bodies [] = AtTopLevel open_bodies (Unit {0})
AreNested open_bodies (i ∷ is) = MayStand open_bodies i (λ n. AreNested n is)
