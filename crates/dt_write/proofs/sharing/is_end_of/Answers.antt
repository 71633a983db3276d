use Rattle.std.proofs.Common.{◌≡◌, ◌∙◌, ◌<◌, ◌-◌, ℕ, List, Bool, true, false, length, leb, refl, sym, ap, arith}
use Rattle.std.specs.Str.{bytes_eq}
use Rattle.std.proofs.lemmas.List.{take_rest}
use Rattle.dt_write.proofs.Open.{end_is, no_end}
use Rattle.dt_write.proofs.sharing.is_end_of.Goals as goal

pub returns-then-name-other : goal.returns-then-name-other
returns-then-name-other c =
    let name = c.args.name.now in
    let other = c.args.other.now in
    c.eq.ensures ∙ ap (λ (x : List ℕ). bytes_eq x name) (take_rest other (length other - length name)) ∙ sym (end_is name other (omega (arith, c.if-name-other.true)))

longer : (m n : ℕ) → n < m → leb m n ≡ false
longer m n lt = by (leb m n) refl
  where
    by : (b : Bool) → leb m n ≡ b → b ≡ false
    by false e = refl
    by true e = absurd (grind (arith, e, lt))

pub returns-else-name-other : goal.returns-else-name-other
returns-else-name-other c =
    longer (length c.args.name.now) (length c.args.other.now) c.if-name-other.false ∙ sym (no_end c.args.name.now c.args.other.now c.if-name-other.false)
