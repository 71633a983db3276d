-- Numbers of tokens: how many steps they have, and where they break.
use Rattle.std.proofs.Common.{◌≡◌, ℕ, ◌+◌, ◌-◌, ◌<◌, ◌≤◌, true, List, [], ◌∷◌, ◌++◌, length, drop, Option, Some, None, refl, sym, ap, ◌∙◌, subst, arith, length-append, length-drop}
use Rattle.std.specs.Option.{option_map_or}
use Rattle.std.proofs.lemmas.List.{length-map}
use Rattle.dt_names.specs.declared.fault.FaultKind.{FaultKind}
use Rattle.dt_names.specs.declared.fault.FaultKind.TheVariants as fault
use Rattle.dt_lex.specs.declared.token.Token.{Token}
use Rattle.dt_lex.specs.declared.token.TokenKind.{TokenKind}
use Rattle.dt_expr.specs.declared.step.Step.{Step}
use Rattle.dt_expr.specs.declared.step.Step.TheVariants as step
use Rattle.dt_expr.specs.Expression.{Expression, number, steps, value}
use Rattle.dt_expr.specs.Fits.{Fits}
use Rattle.dt_parse.specs.declared.stop.Stop.{Stop}
use Rattle.dt_parse.specs.declared.expression.Refusal.TheVariants as refusal
use Rattle.dt_grammar.specs.Words.{Words, word_of, words_of}
use Rattle.dt_grammar.specs.Grammar.{Class, SpellsExpression, integer, character, group, no_prefix, with_prefix, tightest, tighter, joins, no_condition, with_condition}
use Rattle.dt_grammar.specs.Unchecked.{value_or_zero}
use Rattle.dt_grammar.specs.Strict.{IsNumber}
use Rattle.dt_grammar.specs.Wanted.{Made, made_expression, size_in, expression_in, Prim, give, kind_at}
use Rattle.dt_grammar.specs.Moves.{at_prim}
use Rattle.dt_grammar.specs.Descent.{first, Outcome, found, stuck, Descends}
use Rattle.dt_grammar.specs.Faults.{Around, in_elements, NumberBreaks, cut_off, unended, too_long, valueless, too_large, in_number}
use Rattle.dt_parse.specs.Reading.{IsBroken, broken}
use Rattle.dt_parse.specs.Standing.{IsDone, Refused}
use Rattle.dt_parse.specs.Numbers.{IsLiteral, IsMeasured, IsValued}
use Rattle.dt_grammar.proofs.Descent.{deterministic, left_of, local, on}
use Rattle.dt_grammar.proofs.Expressions.{complete}
use Rattle.dt_grammar.proofs.Sound.{sound}
use Rattle.dt_grammar.proofs.Stepping.{given}

-- ---- how many steps there are

two_steps : (x y : List Step) (s : Step) → length (x ++ (y ++ s ∷ [])) ≡ length x + (length y + 1)
two_steps x y s = length-append x (y ++ s ∷ []) ∙ ap (λ (n : ℕ). length x + n) (length-append y (s ∷ []))

-- an expression has no more steps than tokens
pub few_steps : {c : Class} {us : Words} {e : Expression} → SpellsExpression c us e → length (steps e) ≤ length us
few_steps (integer w n e) = omega arith
few_steps (character w n e) = omega arith
few_steps (group o c ws e is_open is_close s) = omega (arith, few_steps s, length-append ws (c ∷ []))
few_steps (no_prefix ws e s) = few_steps s
few_steps (with_prefix w ws e op u s) = omega (arith, few_steps s, length-append (steps e) (step.Unary op ∷ []))
few_steps (tightest ws e s) = few_steps s
few_steps (tighter n ws e s) = few_steps s
few_steps (joins n w us vs x y op is_op is_level s t) =
    omega (arith, few_steps s, few_steps t, two_steps (steps x) (steps y) (step.Binary op), length-append us (w ∷ vs))
few_steps (no_condition ws e s) = few_steps s
few_steps (with_condition q k us vs ws c x y is_question is_colon s t r) =
    omega (
      arith,
      few_steps s,
      few_steps t,
      few_steps r,
      length-append (steps c) (steps x ++ (steps y ++ step.Conditional ∷ [])),
      two_steps (steps x) (steps y) step.Conditional,
      length-append us (q ∷ (vs ++ k ∷ ws)),
      length-append vs (k ∷ ws),
    )

-- ---- what a number is made of

-- its tokens, and its steps
pub record NumberOf (ws : Words) (m : Made) (rest : Words) : Type 0 where
  pub made : m ≡ made_expression (size_in m) (expression_in m)
  pub left : rest ≡ drop (size_in m) ws
  pub sizes : size_in m + length rest ≡ length ws
  pub short : length (steps (expression_in m)) ≤ size_in m

found_made : (m n : Made) (s t : Words) → found m s ≡ found n t → m ≡ n
found_made m n s t e = cc

drop_front : (us rest : Words) → drop (length us) (us ++ rest) ≡ rest
drop_front [] rest = refl
drop_front (u ∷ us) rest = drop_front us rest

pub number_of : (ws : Words) (m : Made) (rest : Words) → Descends Prim ws (found m rest) → NumberOf ws m rest
number_of ws m rest d =
    let r = sound Prim ws (found m rest) d in
    let us = r.0 in
    let e = expression_in m in
    let again : Descends Prim ws (found (made_expression (length us) e) rest) = on Prim ws (us ++ rest) _ r.1 (complete r.2.expression rest).2 in
    let same : m ≡ made_expression (length us) e = found_made m _ rest rest (deterministic d again) in
    let size : size_in m ≡ length us = r.2.size in
    record {
      made = same ∙ ap (λ (n : ℕ). made_expression n e) (sym size);
      left = sym (drop_front us rest) ∙ (λ i. drop (sym size i) (sym r.1 i));
      sizes = omega (arith, size, ap length r.1, length-append us rest);
      short = omega (arith, size, few_steps r.2.expression);
    }

-- ---- breaks of tokens

same_size : (text : List ℕ) (ts : List Token) → length (words_of text ts) ≡ length ts
same_size text ts = length-map ts (word_of text)

-- tokens that are left are no more than there were
fewer : (ws : Words) (o : Outcome) → Descends Prim ws o → length (left_of o) ≤ length ws
fewer ws o d = let l = local d in omega (arith, ap length l.split, length-append l.front (left_of o))

broken_number : (a : Around) (ws left : Words) (stop : Stop) → NumberBreaks a.bits ws stop.kind left → length left ≡ stop.left → IsBroken a Prim ws stop
broken_number a ws left stop b e = broken left e (in_number a ws left stop.kind b)

dropped : (text : List ℕ) (tokens : List Token) → length (drop 1024 (words_of text tokens)) ≡ length tokens - 1024
dropped text tokens = length-drop 1024 (words_of text tokens) ∙ ap (λ (n : ℕ). n - 1024) (same_size text tokens)

over_limit : (a : Around) (ws : Words) (tokens : List Token) (stop : Stop) (text : List ℕ) → ws ≡ words_of text tokens → NumberBreaks a.bits ws fault.Limit (drop 1024 ws) →
    stop.kind ≡ fault.Limit → stop.left ≡ length tokens - 1024 → IsBroken a Prim ws stop
over_limit a ws tokens stop text e b k l =
    broken_number a ws (drop 1024 ws) stop (subst (λ (x : FaultKind). NumberBreaks a.bits ws x (drop 1024 ws)) (sym k) b)
    (ap (λ (x : Words). length (drop 1024 x)) e ∙ dropped text tokens ∙ sym l)

pub stuck_fewer : (tokens : List Token) (n : ℕ) → Refused tokens (refusal.Syntax n) → n ≤ length tokens
stuck_fewer tokens n h = omega (arith, h.1, fewer (words_of [] tokens) (stuck (words_of [] h.0)) (h.2 []), same_size [] tokens, same_size [] h.0)

pub stuck_early : (tokens : List Token) (n : ℕ) → Refused tokens (refusal.Syntax n) → length tokens - n ≤ 1024 →
    (text : List ℕ) (a : Around) → IsBroken a Prim (words_of text tokens) (record { kind = fault.Syntax; left = n })
stuck_early tokens n h few text a =
    let left = words_of text h.0 in
    let near : length (words_of text tokens) ≤ length left + 1024 = omega (arith, same_size text tokens, same_size text h.0, h.1) in
    broken_number a (words_of text tokens) left _ (cut_off left (h.2 text) near) (same_size text h.0 ∙ h.1)

pub stuck_late : (tokens : List Token) (n : ℕ) (stop : Stop) → Refused tokens (refusal.Syntax n) → 1024 < length tokens - n →
    stop.kind ≡ fault.Limit → stop.left ≡ length tokens - 1024 → (text : List ℕ) (a : Around) → IsBroken a Prim (words_of text tokens) stop
stuck_late tokens n stop h many k l text a =
    let ws = words_of text tokens in
    let left = words_of text h.0 in
    let far : length left + 1024 < length ws = omega (arith, same_size text tokens, same_size text h.0, h.1) in
    over_limit a ws tokens stop text refl (unended left (h.2 text) far) k l

pub done_fewer : (tokens : List Token) (out : List Step) (rest : List Token) → IsDone tokens out rest → length rest ≤ length tokens
done_fewer tokens out rest d = omega (arith, fewer (words_of [] tokens) (found d.made (words_of [] rest)) (d.read []), same_size [] tokens, same_size [] rest)

pub done_measured : (tokens : List Token) (out : List Step) (rest : List Token) → IsDone tokens out rest → length tokens - length rest ≤ 1024 →
    (text : List ℕ) → IsMeasured (words_of text tokens) out (length tokens - length rest)
done_measured tokens out rest d few text =
    let ws = words_of text tokens in
    let e = expression_in d.made in
    let n = number_of ws d.made (words_of text rest) (d.read text) in
    let size : size_in d.made ≡ length tokens - length rest = omega (arith, n.sizes, same_size text tokens, same_size text rest) in
    let same : d.made ≡ made_expression (length tokens - length rest) e = n.made ∙ ap (λ (k : ℕ). made_expression k e) size in
    let left : words_of text rest ≡ drop (length tokens - length rest) ws = n.left ∙ ap (λ (k : ℕ). drop k ws) size in
    record {
      expression = e;
      steps_are = d.steps_are;
      read = subst (λ (o : Outcome). Descends Prim ws o) (λ i. found (same i) (left i)) (d.read text);
      inside = omega (arith, same_size text tokens);
      few = few;
      short = omega (arith, n.short, size, ap length d.steps_are);
    }

pub done_too_long : (tokens : List Token) (out : List Step) (rest : List Token) (stop : Stop) → IsDone tokens out rest → 1024 < length tokens - length rest →
    stop.kind ≡ fault.Limit → stop.left ≡ length tokens - 1024 → (text : List ℕ) (a : Around) → IsBroken a Prim (words_of text tokens) stop
done_too_long tokens out rest stop d many k l text a =
    let ws = words_of text tokens in
    let n = number_of ws d.made (words_of text rest) (d.read text) in
    let long : 1024 < size_in d.made = omega (arith, n.sizes, same_size text tokens, same_size text rest) in
    over_limit a ws tokens stop text refl (too_long d.made (words_of text rest) (d.read text) long) k l

-- ---- values

pub literal_valued : (ws : Words) (next : Option TokenKind) (n : ℕ) → next ≡ kind_at (first ws) → IsLiteral next n → IsValued ws n 1
literal_valued [] next n e l = let no_move : at_prim None ≡ give true (made_expression 1 (number n)) = ap at_prim (sym e) ∙ l in cc
literal_valued (w ∷ ws) next n e l = record {
  expression = number n;
  is = refl;
  read = given Prim (w ∷ ws) true (made_expression 1 (number n)) (ap at_prim (sym e) ∙ l);
  inside = omega arith;
  few = omega arith;
}

pub undivided : (ws : Words) (ss : List Step) (used : ℕ) (v : Option ℕ) (stop : Stop) → IsMeasured ws ss used →
    ((e : Expression) → ss ≡ steps e → v ≡ value e) → v ≡ None → stop.kind ≡ fault.DivideByZero → stop.left ≡ length ws →
    (a : Around) → IsBroken a Prim ws stop
undivided ws ss used v stop m is none k left a =
    let e = m.expression in
    let valueless_here : value e ≡ None = sym (is e m.steps_are) ∙ none in
    let b : NumberBreaks a.bits ws fault.DivideByZero ws = valueless (made_expression used e) (drop used ws) m.read m.few valueless_here in
    broken_number a ws ws stop (subst (λ (x : FaultKind). NumberBreaks a.bits ws x ws) (sym k) b) (sym left)

pub unfit : (ws : Words) (n used bits : ℕ) (stop : Stop) → IsValued ws n used → ¬ Fits bits n → stop.kind ≡ fault.OutOfRange → stop.left ≡ length ws →
    (a : Around) → IsBroken (in_elements bits a) Prim ws stop
unfit ws n used bits stop v large k left a =
    let e = v.expression in
    let same : value_or_zero e ≡ n = ap (λ (x : Option ℕ). option_map_or (λ y. y) x 0) v.is in
    let one : IsNumber used e = record { few = v.few; evaluated = v.is ∙ ap Some (sym same) } in
    let b : NumberBreaks bits ws fault.OutOfRange ws = too_large (made_expression used e) (drop used ws) v.read one (λ f. large (subst (Fits bits) same f)) in
    broken_number (in_elements bits a) ws ws stop (subst (λ (x : FaultKind). NumberBreaks bits ws x ws) (sym k) b) (sym left)
