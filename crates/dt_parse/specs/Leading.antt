-- How reading at one place goes on at another.
use Rattle.std.specs.Prelude.{◌≡◌, ℕ, List, ◌∷◌}
use Rattle.dt_names.specs.declared.fault.FaultKind.{FaultKind}
use Rattle.dt_grammar.specs.Words.{Words}
use Rattle.dt_grammar.specs.Unchecked.{RawPlace, RawReserve, reserve_of}
use Rattle.dt_grammar.specs.Strict.{IsReserve}
use Rattle.dt_grammar.specs.Wanted.{Wanted, AfterTopLabels, Top, made_behind}
use Rattle.dt_grammar.specs.Descent.{Outcome, found, Descends}
use Rattle.dt_grammar.specs.Faults.{Around, outside, Breaks}

-- what is read on from the second place is read from the first, and what breaks from there breaks from the first
pub record ReadsOn (a : Around) (g : Wanted) (ws : Words) (b : Around) (h : Wanted) (vs : Words) : Type 0 where
  pub follows : (o : Outcome) → Descends h vs o → Descends g ws o
  pub breaks : (k : FaultKind) (left : Words) → Breaks b h vs k left → Breaks a g ws k left

-- a reservation with these labels is between the two places, and says this
pub record Reserves (ls : List (List ℕ)) (ws : Words) (says : ℕ × ℕ) (vs : Words) : Type 0 where
  pub reserve : RawReserve
  pub sound : IsReserve reserve
  pub said : says ≡ reserve_of reserve
  pub follows : (rs : List RawReserve) (ps : List RawPlace) (left : Words) → Descends Top vs (found (made_behind rs ps) left) →
      Descends (AfterTopLabels ls) ws (found (made_behind (reserve ∷ rs) ps) left)
  pub breaks : (k : FaultKind) (left : Words) → Breaks outside Top vs k left → Breaks outside (AfterTopLabels ls) ws k left
