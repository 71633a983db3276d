use Rattle.std.proofs.Common.{◌≡◌, Option, None, Some, MatchOption}
use Rattle.std.proofs.lemmas.List.{take_rest}
use Rattle.dt_decompile.proofs.Quoting.{texts_all_plain, to_mark}
use Rattle.dt_decompile.proofs.texts.next_mark.Goals as goal

at_none : {A : Type 0} (r : Option A) (P : Type 0) (Q : A → Type 0) → r ≡ None → P → MatchOption r P Q
at_none None P Q e p = p
at_none (Some x) P Q e p = cc

pub returns-in_err-at : goal.returns-in_err-at
returns-in_err-at c = at_none _ _ _ c.from_residual.ensures (texts_all_plain c.args.texts.now c.in_err-at.ensures)

pub returns : goal.returns
returns c =
    let (first, here) = c.in_ok-at.ensures in
    to_mark c.args.texts.now _ _ c.in_ok-at.at first (take_rest c.args.texts.now _) c.mark.ensures
