-- Tokens that are read with no fault don't break.
use Rattle.std.proofs.Common.{◌≡◌, ℕ, Bool, false, refl, sym, ◌∙◌, ap, subst, arith}
use Rattle.dt_names.specs.declared.fault.FaultKind.{FaultKind}
use Rattle.dt_names.specs.declared.fault.FaultKind.TheVariants as fault
use Rattle.dt_expr.specs.Fits.{Fits}
use Rattle.dt_grammar.specs.Words.{Words}
use Rattle.dt_grammar.specs.Unchecked.{value_or_zero}
use Rattle.dt_grammar.specs.Strict.{IsNumber}
use Rattle.dt_grammar.specs.Wanted.{Made, size_in, expression_in, Wanted, SomeCells, AfterMemberLabels, AfterName, AfterAddress, Prim, Done, Move, give, refuse, want}
use Rattle.dt_grammar.specs.Descent.{move_at, first, after, Outcome, found, stuck, refuses, part_stuck, Descends}
use Rattle.dt_grammar.specs.Faults.{Around, within, IsFaultNamed, IsPlaced, misplaced, Shows, unwanted, unnamed, unplaced, NumberBreaks, cut_off, unended, too_long, valueless, too_large, IsNoNumber, Breaks, shows, in_number, in_part, behind_part}
use Rattle.dt_grammar.proofs.Descent.{deterministic, left_of, by_move}
use Rattle.dt_grammar.proofs.Stepping.{given, part_then}

-- no number is wanted, and no fault shows
abbrev pub Free : Around → Wanted → Words → Type 0
Free a g ws = IsNoNumber g × IsFaultNamed g ws × IsPlaced a g ws

-- from what is wanted, in what is around it, this is made of the tokens up to those that are left, and no fault shows
pub data Unbroken : Around → Wanted → Words → Made → Words → Type 0 where
  number_read : {a : Around} {ws left : Words} {m : Made} → Descends Prim ws (found m left) → IsNumber (size_in m) (expression_in m) →
      Fits a.bits (value_or_zero (expression_in m)) → Unbroken a Prim ws m left
  given_here : {a : Around} {g : Wanted} {ws : Words} {taken : Bool} {m : Made} → move_at g (first ws) ≡ give taken m → Free a g ws →
      Unbroken a g ws m (after taken ws)
  read_on : {a : Around} {g : Wanted} {ws rest left : Words} {taken : Bool} {part : Wanted} {whole : Made → Wanted} {m made : Made} →
      move_at g (first ws) ≡ want taken part whole → Free a g ws → Unbroken (within g a) part (after taken ws) m rest →
      Unbroken a (whole m) rest made left → Unbroken a g ws made left

pub done : {a : Around} {x : Made} {ws : Words} → Unbroken a (Done x) ws x ws
done = given_here {taken = false} refl (tt, tt, tt)

pub unbroken_on : (a : Around) (g : Wanted) (s t : Words) (m : Made) (left : Words) → s ≡ t → Unbroken a g t m left → Unbroken a g s m left
unbroken_on a g s t m left e u = subst (λ (x : Words). Unbroken a g x m left) (sym e) u

pub unbroken_read : {a : Around} {g : Wanted} {ws left : Words} {m : Made} → Unbroken a g ws m left → Descends g ws (found m left)
unbroken_read (number_read d n f) = d
unbroken_read (given_here {g = g} {ws = ws} {taken = taken} {m = m} e p) = given g ws taken m e
unbroken_read (read_on {g = g} {ws = ws} {rest = rest} {left = left} {taken = taken} {part = part} {whole = whole} {m = m} {made = made} e p u r) =
    part_then g ws taken part whole m rest (found made left) e (unbroken_read u) (unbroken_read r)

-- ---- moves and outcomes

abbrev pub taken_in : Move → Bool
taken_in (want taken part whole) = taken
taken_in _ = false

abbrev pub part_in : Move → Wanted
part_in (want taken part whole) = part
part_in _ = Prim

abbrev pub whole_in : Move → Made → Wanted
whole_in (want taken part whole) = whole
whole_in _ = Done

abbrev pub made_of : Made → Outcome → Made
made_of other (found made left) = made
made_of other (stuck left) = other

-- ---- no fault shows

number_clash : {bits : ℕ} {ws left rest : Words} {k : FaultKind} {m : Made} → NumberBreaks bits ws k rest → Descends Prim ws (found m left) → IsNumber (size_in m) (expression_in m) →
    Fits bits (value_or_zero (expression_in m)) → ⊥
number_clash (cut_off left d h) e n f = let same = deterministic e d in cc
number_clash (unended left d h) e n f = let same = deterministic e d in cc
number_clash {m = m} (too_long m' left d h) e n f =
    let same : m ≡ m' = ap (made_of m) (deterministic e d) in
    omega (arith, h, n.few, ap size_in same)
number_clash {m = m} (valueless m' left d h v) e n f =
    let same : m ≡ m' = ap (made_of m) (deterministic e d) in
    let evaluated = n.evaluated in
    cc
number_clash {bits = bits} {m = m} (too_large m' left d h v) e n f =
    let same : m ≡ m' = ap (made_of m) (deterministic e d) in
    v (subst (λ (x : Made). Fits bits (value_or_zero (expression_in x))) same f)

no_show : {a : Around} {g : Wanted} {ws left : Words} {k : FaultKind} {m : Made} → Shows a g ws k → Unbroken a g ws m left → ⊥
no_show {ws = ws} (unwanted e) u = let same = deterministic (unbroken_read u) (by_move _ refuse ws (stuck ws) e refuses) in cc
no_show (unnamed n) (number_read d e f) = n tt
no_show (unnamed n) (given_here e p) = n p.1
no_show (unnamed n) (read_on e p u r) = n p.1
no_show (unplaced n q) (number_read d e f) = q tt
no_show (unplaced n q) (given_here e p) = q p.2
no_show (unplaced n q) (read_on e p u r) = q p.2

pub clash : {a : Around} {g : Wanted} {ws left rest : Words} {k : FaultKind} {m : Made} → Breaks a g ws k left → Unbroken a g ws m rest → ⊥
clash (shows a g ws k h) u = no_show h u
clash (in_number a ws left k h) (number_read d n f) = number_clash h d n f
clash (in_number a ws left k h) (given_here e p) = p.0
clash (in_number a ws left k h) (read_on e p u r) = p.0
clash (in_part a g ws left k taken part whole n e p b) (number_read d o f) = n
clash (in_part a g ws left k taken part whole n e p b) (given_here f q) = cc
clash (in_part a g ws left k taken part whole n e p b) (read_on {rest = rest} {m = m} f q u r) =
    clash b (subst (λ (x : Move). Unbroken (within g a) (part_in x) (after (taken_in x) ws) m rest) (sym f ∙ e) u)
clash (behind_part a g ws rest left k taken part whole made n e p d o b) (number_read c i f) = n
clash (behind_part a g ws rest left k taken part whole made n e p d o b) (given_here f q) = cc
clash (behind_part a g ws rest left k taken part whole made n e p d o b) (read_on {rest = rest'} {left = left'} {m = m} {made = made'} f q u r) =
    let same = sym f ∙ e in
    let v : Unbroken (within g a) part (after taken ws) m rest' = subst (λ (x : Move). Unbroken (within g a) (part_in x) (after (taken_in x) ws) m rest') same u in
    let there : Unbroken a (whole m) rest' made' left' = subst (λ (x : Move). Unbroken a (whole_in x m) rest' made' left') same r in
    clash b (subst (λ (x : Outcome). Unbroken a (whole (made_of m x)) (left_of x) made' left') (deterministic (unbroken_read v) d) there)

-- ---- a syntax fault is where the descent is stuck

abbrev IsOther : FaultKind → Type 0
IsOther fault.Syntax = ⊥
IsOther _ = Unit {0}

misplaced_other : (g : Wanted) → IsOther (misplaced g)
misplaced_other SomeCells = tt
misplaced_other (AfterName ls n) = tt
misplaced_other (AfterMemberLabels ls) = tt
misplaced_other (AfterAddress ls x) = tt
misplaced_other _ = tt

shows_stuck : {a : Around} {g : Wanted} {ws : Words} {k : FaultKind} → Shows a g ws k → k ≡ fault.Syntax → Descends g ws (stuck ws)
shows_stuck {ws = ws} (unwanted e) s = by_move _ refuse ws (stuck ws) e refuses
shows_stuck (unnamed n) s = absurd (subst IsOther s tt)
shows_stuck {g = g} (unplaced n q) s = absurd (subst IsOther s (misplaced_other g))

number_stuck : {bits : ℕ} {ws left : Words} {k : FaultKind} → NumberBreaks bits ws k left → k ≡ fault.Syntax → Descends Prim ws (stuck left)
number_stuck (cut_off left d h) s = d
number_stuck (unended left d h) s = absurd (subst IsOther s tt)
number_stuck (too_long m left d h) s = absurd (subst IsOther s tt)
number_stuck (valueless m left d h v) s = absurd (subst IsOther s tt)
number_stuck (too_large m left d h v) s = absurd (subst IsOther s tt)

pub syntax_stuck : {a : Around} {g : Wanted} {ws left : Words} {k : FaultKind} → Breaks a g ws k left → k ≡ fault.Syntax → Descends g ws (stuck left)
syntax_stuck (shows a g ws k h) s = shows_stuck h s
syntax_stuck (in_number a ws left k h) s = number_stuck h s
syntax_stuck (in_part a g ws left k taken part whole n e p b) s = by_move _ (want taken part whole) ws (stuck left) e (part_stuck (syntax_stuck b s))
syntax_stuck (behind_part a g ws rest left k taken part whole made n e p d f b) s = part_then g ws taken part whole made rest (stuck left) e d (syntax_stuck b s)
