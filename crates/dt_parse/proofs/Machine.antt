-- What is made of a token with two stacks is what the descent makes of it.
use Rattle.std.proofs.Common.{◌≡◌, ℕ, zero, suc, ◌+◌, ◌-◌, ◌≤◌, Bool, true, false, List, [], ◌∷◌, Option, Some, None, refl, sym, ap, subst, arith}
use Rattle.dt_lex.specs.declared.token.TokenKind.{TokenKind}
use Rattle.dt_lex.specs.declared.token.TokenKind.TheVariants as kind
use Rattle.dt_lex.specs.declared.token.Mark.TheVariants as mark
use Rattle.dt_expr.specs.declared.step.Unary.{Unary}
use Rattle.dt_expr.specs.declared.step.Binary.{Binary}
use Rattle.dt_grammar.specs.Words.{Word, Words, unary_of, binary_of, level_of}
use Rattle.dt_grammar.specs.Wanted.{Made, Wanted, Any, AfterCondition, AfterThis, Level, AfterLeft, Prefix, Prim, Closing, Done, kind_at, binary_at, Move, give, want}
use Rattle.dt_grammar.specs.Moves.{with_one, with_two, with_three, at_prefix, at_prim, at_question, at_colon, at_closing}
use Rattle.dt_grammar.specs.Descent.{move_at, first, after, Outcome, found, stuck, Does, gives, part_stuck, part_found}
use Rattle.dt_parse.specs.Machine.{Frame, unary_frame, binary_frame, open_frame, question_frame, colon_frame, Cont, Through, goes, stops, LeadsOn, climb, bound, conts_of, condition_then, grouped, IsLevelled, HasNoOperator}
use Rattle.dt_grammar.proofs.Descent.{deterministic}
use Rattle.dt_grammar.proofs.Expressions.{Stops, give_at, want_at}

pub by_same : (K : Cont) (m n : Move) (s : Words) (o : Outcome) → m ≡ n → Through K n s o → Through K m s o
by_same K m n s o e t = subst (λ (x : Move). Through K x s o) (sym e) t

pub giving : (K : Cont) (taken : Bool) (x : Made) (s : Words) (o : Outcome) → K x (after taken s) o → Through K (give taken x) s o
giving K taken x s o k = goes x (after taken s) o gives k

pub weaker : (K L : Cont) (m : Move) (s : Words) → ((x : Made) (r : Words) (o : Outcome) → K x r o → L x r o) → (o : Outcome) → Through K m s o → Through L m s o
weaker K L m s f o (goes x r o' d k) = goes x r o d (f x r o k)
weaker K L m s f (stuck l) (stops l' d) = stops l d

then_whole : (K : Cont) (taken : Bool) (part : Wanted) (whole : Made → Wanted) (s r : Words) (x : Made) (o : Outcome) → Does (move_at part (first (after taken s))) (after taken s) (found x r) → Through K (move_at (whole x) (first r)) r o → Through K (want taken part whole) s o
then_whole K taken part whole s r x o d (goes y q o' e k) = goes y q o (part_found d e) k
then_whole K taken part whole s r x (stuck l) d (stops l' e) = stops l (part_found d e)

pub wanting : (K : Cont) (taken : Bool) (part : Wanted) (whole : Made → Wanted) (s : Words) (o : Outcome) → LeadsOn (λ x r q. LeadsOn K (whole x) r q) part (after taken s) o → Through K (want taken part whole) s o
wanting K taken part whole s o (goes x r o' d k) = then_whole K taken part whole s r x o d k
wanting K taken part whole s (stuck l) (stops l' d) = stops l (part_stuck d)

pub unpassed : (K : Cont) (x : Made) (s : Words) (o : Outcome) → Through K (give false x) s o → K x s o
unpassed K x s o (goes y r o' d k) =
    let same : found x s ≡ found y r = deterministic gives d in
    let made : y ≡ x = cc in
    let left : r ≡ s = cc in
    subst (λ (z : Made). K z s o) made (subst (λ (z : Words). K y z o) left k)
unpassed K x s (stuck l) (stops l' d) = let same : found x s ≡ stuck l = deterministic gives d in cc

-- levels with no operator of theirs are passed
pub pass : (K : Cont) (j k c n d : ℕ) (x : Made) (s : Words) (o : Outcome) → c ≡ j + d → n ≡ k + j → Stops n (first s) → climb n d K x s o → climb k c K x s o
pass K zero k c n d x s o e f stop h =
    let q : c ≡ d = omega arith in
    let p : k ≡ n = omega arith in
    subst (λ (z : ℕ). climb k z K x s o) (sym q) (subst (λ (z : ℕ). climb z d K x s o) (sym p) h)
pass K (suc j) k zero n d x s o e f stop h = absurd (omega arith)
pass K (suc j) k (suc c) n d x s o e f stop h =
    by_same (climb (suc k) c K) _ (give false x) s o (give_at k x (binary_at (first s)) (λ op is. let l = stop op is in omega arith))
    (giving (climb (suc k) c K) false x s o (pass K j (suc k) c n d x s o (omega arith) (omega arith) stop h))

pub strip : (K : Cont) (j k c n d : ℕ) (x : Made) (s : Words) (o : Outcome) → c ≡ j + d → n ≡ k + j → Stops n (first s) → climb k c K x s o → climb n d K x s o
strip K zero k c n d x s o e f stop h =
    let q : c ≡ d = omega arith in
    let p : k ≡ n = omega arith in
    subst (λ (z : ℕ). climb z d K x s o) p (subst (λ (z : ℕ). climb k z K x s o) q h)
strip K (suc j) k zero n d x s o e f stop h = absurd (omega arith)
strip K (suc j) k (suc c) n d x s o e f stop h =
    strip K j (suc k) c n d x s o (omega arith) (omega arith) stop
    (unpassed (climb (suc k) c K) x s o
    (by_same (climb (suc k) c K) (give false x) _ s o (sym (give_at k x (binary_at (first s)) (λ op is. let l = stop op is in omega arith))) h))

climb_last : (K : Cont) (c k n : ℕ) (x : Made) (s : Words) (o : Outcome) → n ≡ k + c → climb k (suc c) K x s o → climb k c (λ y r q. LeadsOn K (AfterLeft n y) r q) x s o
climb_last K zero k n x s o e h = let p : k ≡ n = omega arith in subst (λ (z : ℕ). LeadsOn K (AfterLeft z x) s o) p h
climb_last K (suc c) k n x s o e h =
    weaker (climb (suc k) (suc c) K) (climb (suc k) c (λ y r q. LeadsOn K (AfterLeft n y) r q)) _ s (λ y r q. climb_last K c (suc k) n y r q (omega arith)) o h

-- an expression of a level begins with one with prefixes
pub level_from : (K : Cont) (n : ℕ) (s : Words) (o : Outcome) → LeadsOn (climb 0 n K) Prefix s o → LeadsOn K (Level n) s o
level_from K zero s o h = wanting K false Prefix Done s o (weaker K (λ x r q. LeadsOn K (Done x) r q) _ s (λ x r q k. giving K false x r q k) o h)
level_from K (suc n) s o h =
    wanting K false (Level n) (AfterLeft n) s o
    (level_from (λ x r q. LeadsOn K (AfterLeft n x) r q) n s o
    (weaker (climb 0 (suc n) K) (climb 0 n (λ x r q. LeadsOn K (AfterLeft n x) r q)) _ s (λ x r q. climb_last K n 0 n x r q (omega arith)) o h))

pub any_from : (K : Cont) (s : Words) (o : Outcome) → LeadsOn (climb 0 10 (condition_then K)) Prefix s o → LeadsOn K Any s o
any_from K s o h = wanting K false (Level 10) AfterCondition s o (level_from (condition_then K) 10 s o h)

-- a prefix
pub prefix_from : (fs : List Frame) (w : Word) (s : Words) (o : Outcome) (op : Unary) → unary_of w.kind ≡ Some op → LeadsOn (conts_of (unary_frame op ∷ fs)).operand Prefix s o → LeadsOn (conts_of fs).operand Prefix (w ∷ s) o
prefix_from fs w s o op e h =
    let K : Cont = (conts_of fs).operand in
    by_same K _ _ (w ∷ s) o (ap at_prefix e)
    (wanting K true Prefix (λ x. Done (with_one op x)) (w ∷ s) o (weaker (λ x r q. K (with_one op x) r q) (λ x r q. LeadsOn K (Done (with_one op x)) r q) _ s (λ x r q k. giving K false (with_one op x) r q k) o h))

-- no prefix
pub prim_from : (K : Cont) (s : Words) (o : Outcome) → move_at Prefix (first s) ≡ want false Prim Done → LeadsOn K Prim s o → LeadsOn K Prefix s o
prim_from K s o e h = by_same K _ _ s o e (wanting K false Prim Done s o (weaker K (λ x r q. LeadsOn K (Done x) r q) _ s (λ x r q k. giving K false x r q k) o h))

-- `(`
pub open_from : (fs : List Frame) (w : Word) (s : Words) (o : Outcome) → w.kind ≡ kind.Mark mark.OpenParenthesis → LeadsOn (conts_of (open_frame ∷ fs)).operand Prefix s o → LeadsOn (conts_of fs).operand Prim (w ∷ s) o
open_from fs w s o e h =
    let K : Cont = (conts_of fs).operand in
    by_same K _ (want true Any Closing) (w ∷ s) o (ap (λ (k : TokenKind). at_prim (Some k)) e)
    (wanting K true Any Closing (w ∷ s) o (any_from (λ x r q. LeadsOn K (Closing x) r q) s o h))

-- ---- behind an operand

climbs : (fs : List Frame) → IsLevelled fs → (x : Made) (s : Words) (o : Outcome) → climb 0 (bound fs) (conts_of fs).joined x s o → (conts_of fs).operand x s o
climbs [] h = absurd h
climbs (unary_frame op ∷ fs) h = absurd h
climbs (binary_frame op y ∷ fs) h = λ x s o k. k
climbs (open_frame ∷ fs) h = λ x s o k. k
climbs (question_frame c ∷ fs) h = λ x s o k. k
climbs (colon_frame c y ∷ fs) h = λ x s o k. k

climbed : (fs : List Frame) → IsLevelled fs → (x : Made) (s : Words) (o : Outcome) → (conts_of fs).operand x s o → climb 0 (bound fs) (conts_of fs).joined x s o
climbed [] h = absurd h
climbed (unary_frame op ∷ fs) h = absurd h
climbed (binary_frame op y ∷ fs) h = λ x s o k. k
climbed (open_frame ∷ fs) h = λ x s o k. k
climbed (question_frame c ∷ fs) h = λ x s o k. k
climbed (colon_frame c y ∷ fs) h = λ x s o k. k

-- an operator with both operands
pub joined_from : (fs : List Frame) (op : Binary) (x y : Made) (s : Words) (o : Outcome) → IsLevelled fs → level_of op ≤ bound fs → Stops (level_of op - 1) (first s) → (conts_of fs).operand (with_two op x y) s o → (conts_of (binary_frame op x ∷ fs)).operand y s o
joined_from fs op x y s o levelled tight stop h =
    let n = level_of op - 1 in
    pass (conts_of (binary_frame op x ∷ fs)).joined n 0 n n 0 y s o (omega arith) (omega arith) stop
    (strip (conts_of fs).joined n 0 (bound fs) n (bound fs - n) (with_two op x y) s o (omega arith) (omega arith) stop (climbed fs levelled (with_two op x y) s o h))

-- an operator behind its left operand
pub binary_from : (fs : List Frame) (op : Binary) (x : Made) (w : Word) (s : Words) (o : Outcome) → IsLevelled fs → 1 ≤ level_of op → level_of op ≤ bound fs → binary_of w.kind ≡ Some op → LeadsOn (conts_of (binary_frame op x ∷ fs)).operand Prefix s o → (conts_of fs).operand x (w ∷ s) o
binary_from fs op x w s o levelled some tight e h =
    let n = level_of op - 1 in
    let d = bound fs - n - 1 in
    let J : Cont = (conts_of fs).joined in
    let count : bound fs - n ≡ suc d = omega arith in
    let level : level_of op ≡ suc n = omega arith in
    let stop : Stops n (Some w) = λ q is. (let same : op ≡ q = cc in let l : level_of op ≡ level_of q = ap level_of same in omega arith) in
    climbs fs levelled x (w ∷ s) o
    (pass J n 0 (bound fs) n (suc d) x (w ∷ s) o (omega arith) (omega arith) stop
    (by_same (climb (suc n) d J) _ _ (w ∷ s) o (want_at n x (binary_of w.kind) op e level)
    (wanting (climb (suc n) d J) true (Level n) (λ y. AfterLeft n (with_two op x y)) (w ∷ s) o
    (level_from (λ y r q. climb n (suc d) J (with_two op x y) r q) n s o
    (subst (λ (z : ℕ). LeadsOn (climb 0 n (λ y r q. climb n z J (with_two op x y) r q)) Prefix s o) count h)))))

none_stops : (n : ℕ) (k : Option Word) → binary_at k ≡ None → Stops n k
none_stops n k e op h = cc

plain_climbs : (fs : List Frame) → HasNoOperator fs → (x : Made) (s : Words) (o : Outcome) → climb 0 10 (condition_then (conts_of fs).whole) x s o → (conts_of fs).operand x s o
plain_climbs [] h = absurd h
plain_climbs (unary_frame op ∷ fs) h = absurd h
plain_climbs (binary_frame op y ∷ fs) h = absurd h
plain_climbs (open_frame ∷ fs) h = λ x s o k. k
plain_climbs (question_frame c ∷ fs) h = λ x s o k. k
plain_climbs (colon_frame c y ∷ fs) h = λ x s o k. k

-- a condition
pub question_from : (fs : List Frame) (x : Made) (w : Word) (s : Words) (o : Outcome) → HasNoOperator fs → w.kind ≡ kind.Mark mark.Question → LeadsOn (conts_of (question_frame x ∷ fs)).operand Prefix s o → (conts_of fs).operand x (w ∷ s) o
question_from fs x w s o plain e h =
    let W : Cont = (conts_of fs).whole in
    plain_climbs fs plain x (w ∷ s) o
    (pass (condition_then W) 10 0 10 10 0 x (w ∷ s) o refl refl (none_stops 10 (Some w) (ap binary_of e))
    (by_same W _ (want true Any (AfterThis x)) (w ∷ s) o (ap (λ (k : TokenKind). at_question x (Some k)) e)
    (wanting W true Any (AfterThis x) (w ∷ s) o (any_from (λ y r q. LeadsOn W (AfterThis x y) r q) s o h))))

-- no condition
pub whole_from : (fs : List Frame) (x : Made) (s : Words) (o : Outcome) → HasNoOperator fs → binary_at (first s) ≡ None → ((c : Made) → at_question c (kind_at (first s)) ≡ give false c) → (conts_of fs).whole x s o → (conts_of fs).operand x s o
whole_from fs x s o plain none passed h =
    let W : Cont = (conts_of fs).whole in
    plain_climbs fs plain x s o
    (pass (condition_then W) 10 0 10 10 0 x s o refl refl (none_stops 10 (first s) none) (by_same W _ (give false x) s o (passed x) (giving W false x s o h)))

-- `:`
pub else_from : (fs : List Frame) (c x : Made) (w : Word) (s : Words) (o : Outcome) → w.kind ≡ kind.Mark mark.Colon → LeadsOn (conts_of (colon_frame c x ∷ fs)).operand Prefix s o → (conts_of (question_frame c ∷ fs)).whole x (w ∷ s) o
else_from fs c x w s o e h =
    let W : Cont = (conts_of fs).whole in
    by_same W _ (want true Any (λ y. Done (with_three c x y))) (w ∷ s) o (ap (λ (k : TokenKind). at_colon c x (Some k)) e)
    (wanting W true Any (λ y. Done (with_three c x y)) (w ∷ s) o
    (weaker (λ y r q. W (with_three c x y) r q) (λ y r q. LeadsOn W (Done (with_three c x y)) r q) _ s (λ y r q k. giving W false (with_three c x y) r q k) o
    (any_from (λ y r q. W (with_three c x y) r q) s o h)))

-- `)`
pub close_from : (fs : List Frame) (x : Made) (w : Word) (s : Words) (o : Outcome) → w.kind ≡ kind.Mark mark.CloseParenthesis → (conts_of fs).operand (grouped x) s o → (conts_of (open_frame ∷ fs)).whole x (w ∷ s) o
close_from fs x w s o e h =
    let K : Cont = (conts_of fs).operand in
    by_same K _ (give true (grouped x)) (w ∷ s) o (ap (λ (k : TokenKind). at_closing x (Some k)) e) (giving K true (grouped x) (w ∷ s) o h)
