-- The descent reads each expression that the grammar spells, and the tokens of an expression are one's alone.
use Rattle.std.proofs.Common.{◌≡◌, ℕ, zero, suc, ◌+◌, ◌<◌, Bool, true, false, List, [], ◌∷◌, ◌++◌, length, Option, Some, None, refl, sym, ◌∙◌, ap, subst, append_assoc, arith, length-append}
use Rattle.std.proofs.lemmas.Bool.{eqb-true, eq-eqb}
use Rattle.std.specs.Prelude.{nat_eq, if◌then◌else◌}
use Rattle.dt_lex.specs.declared.token.TokenKind.{TokenKind}
use Rattle.dt_expr.specs.declared.step.Binary.{Binary}
use Rattle.dt_expr.specs.Expression.{Expression, two_operands, conditional}
use Rattle.dt_grammar.specs.Words.{Word, Words, unary_of, binary_of, level_of}
use Rattle.dt_grammar.specs.Grammar.{Class, primary, prefixed, joined, whole, SpellsExpression, integer, character, group, no_prefix, with_prefix, tightest, tighter, joins, no_condition, with_condition}
use Rattle.dt_grammar.specs.Wanted.{Made, made_expression, Wanted, Any, Level, AfterLeft, Prefix, Prim, AfterCell, kind_at, unary_at, binary_at, Move, give, want}
use Rattle.dt_grammar.specs.Moves.{with_two, at_operator, at_prefix, at_prim, at_closing, at_question, at_colon, at_cells}
use Rattle.dt_grammar.specs.Descent.{first, Outcome, found, Does, gives, part_found, Descends}
use Rattle.dt_grammar.proofs.Descent.{deterministic, by_move, on}

-- no operator of level n or below stands there
abbrev pub Stops : ℕ → Option Word → Type 0
Stops n k = (op : Binary) → binary_at k ≡ Some op → n < level_of op

-- nothing that goes on with an expression stands there
abbrev pub Ends : Option Word → Type 0
Ends k = (binary_at k ≡ None) × ((c : Made) → at_question c (kind_at k) ≡ give false c)

abbrev pub Complete : Class → Words → Expression → Type 0
Complete primary w e = (rest : Words) → (unary_at (first (w ++ rest)) ≡ None) × ((b : List ℕ) → at_cells b (kind_at (first (w ++ rest))) ≡ want false Prim AfterCell) × Descends Prim (w ++ rest) (found (made_expression (length w) e) rest)
Complete prefixed w e = (rest : Words) → Descends Prefix (w ++ rest) (found (made_expression (length w) e) rest)
Complete (joined zero) w e = (rest : Words) → Descends (Level zero) (w ++ rest) (found (made_expression (length w) e) rest)
Complete (joined (suc n)) w e = (rest : Words) (o : Outcome) → Stops n (first rest) → Descends (AfterLeft n (made_expression (length w) e)) rest o → Descends (Level (suc n)) (w ++ rest) o
Complete whole w e = (rest : Words) → Ends (first rest) → Descends Any (w ++ rest) (found (made_expression (length w) e) rest)

resized : (m : Move) (s : Words) (k l : ℕ) (e : Expression) (r : Words) → k ≡ l → Does m s (found (made_expression k e) r) → Does m s (found (made_expression l e) r)
resized m s k l e r h d = subst (λ (n : ℕ). Does m s (found (made_expression n e) r)) h d

pub give_at : (n : ℕ) (x : Made) (o : Option Binary) → ((op : Binary) → o ≡ Some op → suc n < level_of op) → at_operator n x o ≡ give false x
give_at n x None h = refl
give_at n x (Some op) h = at_false (nat_eq (level_of op) (suc n)) refl
  where
    at_false : (b : Bool) → nat_eq (level_of op) (suc n) ≡ b → (if b then want true (Level n) (λ y. AfterLeft n (with_two op x y)) else give false x) ≡ give false x
    at_false true t = let l = h op refl in let q = eqb-true _ _ t in absurd (omega arith)
    at_false false t = refl

pub want_at : (n : ℕ) (x : Made) (o : Option Binary) (op : Binary) → o ≡ Some op → level_of op ≡ suc n → at_operator n x o ≡ want true (Level n) (λ y. AfterLeft n (with_two op x y))
want_at n x o op e l = ap (at_operator n x) e ∙ ap (λ (b : Bool). if b then want true (Level n) (λ y. AfterLeft n (with_two op x y)) else give false x) (eq-eqb _ _ l)

joined_done : (n : ℕ) (w : Words) (e : Expression) → Complete (joined n) w e → (rest : Words) → Stops n (first rest) → Descends (Level n) (w ++ rest) (found (made_expression (length w) e) rest)
joined_done zero w e c rest stop = c rest
joined_done (suc n) w e c rest stop =
    c rest (found (made_expression (length w) e) rest) (λ op h. let l = stop op h in omega arith) (by_move _ _ rest _ (give_at n (made_expression (length w) e) (binary_at (first rest)) stop) gives)

complete_joins : (n : ℕ) (k : Word) (us vs : Words) (x y : Expression) (op : Binary) → binary_of k.kind ≡ Some op → level_of op ≡ suc n → Complete (joined (suc n)) us x → Complete (joined n) vs y → Complete (joined (suc n)) (us ++ k ∷ vs) (two_operands op x y)
complete_joins n k us vs x y op is_op is_level c d rest o stop go =
    let sizes : length (us ++ k ∷ vs) ≡ length us + suc (length vs) = length-append us (k ∷ vs) in
    on (Level (suc n)) _ _ o (append_assoc us (k ∷ vs) rest)
    (c (k ∷ (vs ++ rest)) o (λ p h. let e : op ≡ p = cc in let l : level_of p ≡ suc n = ap level_of (sym e) ∙ is_level in omega arith)
    (by_move _ _ (k ∷ (vs ++ rest)) o (want_at n (made_expression (length us) x) (binary_of k.kind) op is_op is_level)
    (part_found (joined_done n vs y d rest stop) (subst (λ (m : ℕ). Descends (AfterLeft n (made_expression m (two_operands op x y))) rest o) sizes go))))

stops_at_end : (n : ℕ) (k : Option Word) → binary_at k ≡ None → Stops n k
stops_at_end n k e op h = cc

-- what is spelled so is read
pub complete : {c : Class} {w : Words} {e : Expression} → SpellsExpression c w e → Complete c w e
complete (integer w n e) = λ rest. (ap unary_of e, λ b. ap (λ (k : TokenKind). at_cells b (Some k)) e, by_move _ _ (w ∷ rest) _ (ap (λ (k : TokenKind). at_prim (Some k)) e) gives)
complete (character w n e) = λ rest. (ap unary_of e, λ b. ap (λ (k : TokenKind). at_cells b (Some k)) e, by_move _ _ (w ∷ rest) _ (ap (λ (k : TokenKind). at_prim (Some k)) e) gives)
complete (group o c ws e is_open is_close s) = λ rest. (
  ap unary_of is_open,
  λ b. ap (λ (k : TokenKind). at_cells b (Some k)) is_open,
  resized _ _ (suc (length ws + 1)) _ e rest (ap suc (sym (length-append ws (c ∷ []))))
      (by_move _ _ (o ∷ ((ws ++ c ∷ []) ++ rest)) _ (ap (λ (k : TokenKind). at_prim (Some k)) is_open)
      (part_found (on Any ((ws ++ c ∷ []) ++ rest) (ws ++ c ∷ rest) _ (append_assoc ws (c ∷ []) rest) (complete s (c ∷ rest) (ap binary_of is_close, λ x. ap (λ (k : TokenKind). at_question x (Some k)) is_close)))
      (by_move _ _ (c ∷ rest) _ (ap (λ (k : TokenKind). at_closing (made_expression (length ws) e) (Some k)) is_close) gives))),
)
complete (no_prefix ws e s) = λ rest. by_move _ _ (ws ++ rest) _ (ap at_prefix (complete s rest).0) (part_found (complete s rest).2 gives)
complete (with_prefix w ws e op u s) = λ rest. by_move _ _ (w ∷ (ws ++ rest)) _ (ap at_prefix u) (part_found (complete s rest) gives)
complete (tightest ws e s) = λ rest. part_found (complete s rest) gives
complete (tighter n ws e s) = λ rest o stop go. part_found (joined_done n ws e (complete s) rest stop) go
complete (joins n w us vs x y op is_op is_level s t) = complete_joins n w us vs x y op is_op is_level (complete s) (complete t)
complete (no_condition ws e s) = λ rest ends.
    part_found (joined_done 10 ws e (complete s) rest (stops_at_end 10 (first rest) ends.0)) (by_move _ _ rest _ (ends.1 (made_expression (length ws) e)) gives)
complete (with_condition q k us vs ws c x y is_question is_colon s t r) = λ rest ends.
    let sizes : length (us ++ q ∷ (vs ++ k ∷ ws)) ≡ length us + suc (length vs + suc (length ws)) = length-append us (q ∷ (vs ++ k ∷ ws)) ∙ ap (λ (n : ℕ). length us + suc n) (length-append vs (k ∷ ws)) in
    resized _ _ (length us + suc (length vs + suc (length ws))) _ (conditional c x y) rest (sym sizes)
    (on Any _ (us ++ (q ∷ (vs ++ (k ∷ (ws ++ rest))))) _ (append_assoc us (q ∷ (vs ++ k ∷ ws)) rest ∙ ap (λ (l : Words). us ++ q ∷ l) (append_assoc vs (k ∷ ws) rest))
    (part_found (joined_done 10 us c (complete s) (q ∷ (vs ++ (k ∷ (ws ++ rest)))) (stops_at_end 10 (Some q) (ap binary_of is_question)))
    (by_move _ _ (q ∷ (vs ++ (k ∷ (ws ++ rest)))) _ (ap (λ (x : TokenKind). at_question (made_expression (length us) c) (Some x)) is_question)
    (part_found (complete t (k ∷ (ws ++ rest)) (ap binary_of is_colon, λ x. ap (λ (y : TokenKind). at_question x (Some y)) is_colon))
    (by_move _ _ (k ∷ (ws ++ rest)) _ (ap (λ (y : TokenKind). at_colon (made_expression (length us) c) (made_expression (length vs) x) (Some y)) is_colon)
    (part_found (complete r rest ends) gives))))))

-- ---- one reading

abbrev wanted_of : Class → Wanted
wanted_of primary = Prim
wanted_of prefixed = Prefix
wanted_of (joined n) = Level n
wanted_of whole = Any

read_alone : (c : Class) (w : Words) (e : Expression) → Complete c w e → Descends (wanted_of c) (w ++ []) (found (made_expression (length w) e) [])
read_alone primary w e c = (c []).2
read_alone prefixed w e c = c []
read_alone (joined n) w e c = joined_done n w e c [] (stops_at_end n None refl)
read_alone whole w e c = c [] (refl, λ x. refl)

pub one_reading : (c : Class) (w : Words) (e f : Expression) → SpellsExpression c w e → SpellsExpression c w f → e ≡ f
one_reading c w e f s t = let same = deterministic (read_alone c w e (complete s)) (read_alone c w f (complete t)) in cc
