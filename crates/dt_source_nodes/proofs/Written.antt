-- Phandles that values write: four bytes, and no reference among them.
use Rattle.std.proofs.Common.{◌≡◌, ℕ, ◌<◌, List, [], ◌∷◌, ◌++◌, map, length, take, drop, None, refl, arith}
use Rattle.dt_model.specs.Source.{Part, one, number_of_parts}
use Rattle.dt_model.specs.Source as model
use Rattle.dt_source_items.specs.declared.source.Form.{Form}
use Rattle.dt_source_items.specs.declared.source.Form.TheVariants as form
use Rattle.dt_source_items.specs.declared.source.Piece.{Piece}
use Rattle.dt_source_items.specs.declared.source.Value.{Value}
use Rattle.dt_source_items.specs.Said.{referring, reference_of, parts_said, value_said}

-- a value with a reference writes none
unwritten_behind : (bs : List ℕ) (f : Form) (r : model.Reference) (rest : List Part) → number_of_parts (map one bs ++ referring f r ∷ rest) ≡ None
unwritten_behind [] form.Cell r rest = refl
unwritten_behind [] form.Text r rest = refl
unwritten_behind (a ∷ []) form.Cell r rest = refl
unwritten_behind (a ∷ []) form.Text r rest = refl
unwritten_behind (a ∷ b ∷ []) form.Cell r rest = refl
unwritten_behind (a ∷ b ∷ []) form.Text r rest = refl
unwritten_behind (a ∷ b ∷ c ∷ []) form.Cell r rest = refl
unwritten_behind (a ∷ b ∷ c ∷ []) form.Text r rest = refl
unwritten_behind (a ∷ b ∷ c ∷ d ∷ []) f r rest = refl
unwritten_behind (a ∷ b ∷ c ∷ d ∷ e ∷ bs) f r rest = refl

pub pieces_unwritten : (v : Value) → 0 < length v.pieces.now → number_of_parts (value_said v) ≡ None
pieces_unwritten v some = step v.pieces.now some
  where
    step : (ps : List Piece) → 0 < length ps → number_of_parts (parts_said ps v.bytes.now) ≡ None
    step [] h = absurd (omega arith)
    step (p ∷ ps) h = unwritten_behind (take p.before v.bytes.now) p.form (reference_of p.reference) (parts_said ps (drop p.before v.bytes.now))
