-- What each turn makes of the two stacks, behind operands and behind whole expressions.
use Rattle.std.proofs.Common.{◌≡◌, ℕ, ◌-◌, ◌<◌, ◌≤◌, Bool, true, false, List, [], ◌∷◌, ◌++◌, Option, Some, None, refl, sym, ◌∙◌, ap, subst, append_assoc, arith}
use Rattle.std.specs.Prelude.{nat_le, if◌then◌else◌}
use Rattle.std.proofs.lemmas.List.{append-nil}
use Rattle.std.proofs.lemmas.Bool.Decides.{nat_tests}
use Rattle.dt_lex.specs.declared.token.Token.{Token}
use Rattle.dt_lex.specs.declared.token.TokenKind.{TokenKind}
use Rattle.dt_lex.specs.declared.token.TokenKind.TheVariants as kind
use Rattle.dt_lex.specs.declared.token.Mark.TheVariants as mark
use Rattle.dt_expr.specs.declared.step.Unary.{Unary}
use Rattle.dt_expr.specs.declared.step.Binary.{Binary}
use Rattle.dt_expr.specs.declared.step.Binary.TheVariants as binary
use Rattle.dt_expr.specs.declared.step.Step.{Step}
use Rattle.dt_expr.specs.declared.step.Step.TheVariants as step
use Rattle.dt_expr.specs.Expression.{steps}
use Rattle.dt_parse.specs.declared.expression.Pending.TheVariants as pending
use Rattle.dt_parse.specs.declared.expression.Stage.{Stage}
use Rattle.dt_parse.specs.declared.expression.Stage.TheVariants as stage
use Rattle.dt_parse.specs.declared.expression.Turn.TheVariants as turn_kind
use Rattle.dt_grammar.specs.Words.{word_of, words_of, unary_of, level_of}
use Rattle.dt_grammar.specs.Wanted.{Made, expression_in, Prim, binary_at, kind_at, refuse}
use Rattle.dt_grammar.specs.Moves.{with_one, with_two, with_three, at_prim, at_question as moved_question, at_colon, at_closing}
use Rattle.dt_grammar.specs.Descent.{first, refuses, part_stuck}
use Rattle.dt_parse.specs.Machine.{Frame, unary_frame, binary_frame, open_frame, question_frame, colon_frame, bound, grouped, stops, IsLevelled, HasNoOperator}
use Rattle.dt_parse.specs.Turns.{at_operand, or_unary, behind_binary, behind_operand, at_question, at_else, at_close, operand_turn, whole_turn, wanted_turn, turn_at, kind_in, binary_in}
use Rattle.dt_parse.specs.Standing.{top_of, steps_written, IsSome, AreFrames, IsWanted, IsOperand, IsWhole, Stands, Behind, After}
use Rattle.dt_grammar.proofs.Descent.{by_move}
use Rattle.dt_grammar.proofs.Expressions.{Stops}
use Rattle.dt_parse.proofs.Machine.{prefix_from, joined_from, binary_from, question_from, whole_from, else_from, close_from}
use Rattle.dt_parse.proofs.Turning.{shorter, at_primary}

no_operand : (k : TokenKind) (op : Unary) → unary_of k ≡ Some op → (at_operand (Some k) ≡ turn_kind.Refuse) × (at_prim (Some k) ≡ refuse)
no_operand (kind.Mark mark.Minus) op e = (refl, refl)
no_operand (kind.Mark mark.Tilde) op e = (refl, refl)
no_operand (kind.Mark mark.Exclamation) op e = (refl, refl)
no_operand _ op e = absurd (cc)

first_turn : (tokens : List Token) (out : List Step) (t : Token) (ts : List Token) (o : Option Unary) → unary_of t.kind ≡ o → IsWanted tokens [] out (t ∷ ts) → After stage.Wanted tokens [] out (t ∷ ts) (at_operand (Some t.kind))
first_turn tokens out t ts None e w = at_primary tokens [] out t ts t.kind refl e tt w
first_turn tokens out t ts (Some op) e w =
    let no = no_operand t.kind op e in
    subst (After stage.Wanted tokens [] out (t ∷ ts)) (sym no.0) (λ text. w.follows text _ (stops (words_of text (t ∷ ts)) (by_move _ _ (words_of text (t ∷ ts)) _ no.1 refuses)))

prefix_turn : (tokens : List Token) (f : Frame) (fs : List Frame) (out : List Step) (t : Token) (ts : List Token) (o : Option Unary) → unary_of t.kind ≡ o → AreFrames (f ∷ fs) → IsWanted tokens (f ∷ fs) out (t ∷ ts) → After stage.Wanted tokens (f ∷ fs) out (t ∷ ts) (or_unary o (at_operand (Some t.kind)))
prefix_turn tokens f fs out t ts None e g w = at_primary tokens (f ∷ fs) out t ts t.kind refl e g w
prefix_turn tokens f fs out t ts (Some op) e g w = (
  record {
    frame = unary_frame op;
    is = refl;
    frames = (tt, g);
    stands = record { steps_are = w.steps_are ∙ sym (append-nil (steps_written (f ∷ fs))); follows = λ text o h. w.follows text o (prefix_from (f ∷ fs) (word_of text t) (words_of text ts) o op e h) };
  },
  shorter t ts,
)

wanted_turned : (tokens : List Token) (fs : List Frame) (out : List Step) (rest : List Token) → AreFrames fs → IsWanted tokens fs out rest → After stage.Wanted tokens fs out rest (wanted_turn (top_of fs) (kind_in rest))
wanted_turned tokens [] out [] g w = λ text. w.follows text _ (stops [] refuses)
wanted_turned tokens [] out (t ∷ ts) g w = first_turn tokens out t ts (unary_of t.kind) refl w
wanted_turned tokens (f ∷ fs) out [] g w = λ text. w.follows text _ (stops [] (part_stuck refuses))
wanted_turned tokens (f ∷ fs) out (t ∷ ts) g w = prefix_turn tokens f fs out t ts (unary_of t.kind) refl g w

-- ---- behind an operand

same_binary : (text : List ℕ) (rest : List Token) → binary_at (first (words_of text rest)) ≡ binary_in (kind_in rest)
same_binary text [] = refl
same_binary text (t ∷ ts) = refl

same_kind : (text : List ℕ) (rest : List Token) → kind_at (first (words_of text rest)) ≡ kind_in rest
same_kind text [] = refl
same_kind text (t ∷ ts) = refl

levels : (op : Binary) → (1 ≤ level_of op) × (level_of op ≤ 10)
levels binary.Times = (omega arith, omega arith)
levels _ = (omega arith, omega arith)

emit_unary : (tokens : List Token) (fs : List Frame) (out : List Step) (rest : List Token) (op : Unary) → IsSome fs → IsOperand tokens (unary_frame op ∷ fs) out rest → IsOperand tokens fs (out ++ step.Unary op ∷ []) rest
emit_unary tokens fs out rest op some w =
    let es = steps (expression_in w.made) in
    record {
      made = with_one op w.made;
      steps_are = ap (λ (z : List Step). z ++ step.Unary op ∷ []) (w.steps_are ∙ ap (λ (z : List Step). z ++ es) (append-nil (steps_written fs))) ∙ append_assoc (steps_written fs) es (step.Unary op ∷ []);
      inside = some;
      follows = w.follows;
    }

levelled_some : (fs : List Frame) → IsLevelled fs → IsSome fs
levelled_some [] h = absurd h
levelled_some (f ∷ fs) h = tt

emit_binary : (tokens : List Token) (fs : List Frame) (out : List Step) (rest : List Token) (op : Binary) (x : Made) → AreFrames (binary_frame op x ∷ fs) → ((text : List ℕ) → Stops (level_of op - 1) (first (words_of text rest))) → IsOperand tokens (binary_frame op x ∷ fs) out rest → IsOperand tokens fs (out ++ step.Binary op ∷ []) rest
emit_binary tokens fs out rest op x g stop w =
    let xs = steps (expression_in x) in
    let es = steps (expression_in w.made) in
    record {
      made = with_two op x w.made;
      steps_are = ap (λ (z : List Step). z ++ step.Binary op ∷ []) (w.steps_are ∙ append_assoc (steps_written fs) xs es) ∙ append_assoc (steps_written fs) (xs ++ es) (step.Binary op ∷ []) ∙ ap (λ (z : List Step). steps_written fs ++ z) (append_assoc xs es (step.Binary op ∷ []));
      inside = levelled_some fs g.0;
      follows = λ text o h. w.follows text o (joined_from fs op x w.made (words_of text rest) o g.0 g.1 (stop text) h);
    }

push_binary : (tokens : List Token) (fs : List Frame) (out : List Step) (rest : List Token) (q : Binary) → binary_in (kind_in rest) ≡ Some q → IsLevelled fs → level_of q ≤ bound fs → AreFrames fs → IsOperand tokens fs out rest → After stage.Operand tokens fs out rest (turn_kind.Push (pending.Binary q))
push_binary tokens fs out [] q e levelled tight g w = absurd (cc)
push_binary tokens fs out (t ∷ ts) q e levelled tight g w = (
  record {
    frame = binary_frame q w.made;
    is = refl;
    frames = (levelled, tight, g);
    stands = record { steps_are = w.steps_are; follows = λ text o h. w.follows text o (binary_from fs q w.made (word_of text t) (words_of text ts) o levelled (levels q).0 tight e h) };
  },
  shorter t ts,
)

binary_turn : (tokens : List Token) (fs : List Frame) (out : List Step) (rest : List Token) (op : Binary) (x : Made) (o : Option Binary) → binary_in (kind_in rest) ≡ o → AreFrames (binary_frame op x ∷ fs) → IsOperand tokens (binary_frame op x ∷ fs) out rest → After stage.Operand tokens (binary_frame op x ∷ fs) out rest (behind_binary op o)
binary_turn tokens fs out rest op x None e g w =
    record { frame = binary_frame op x; others = fs; split = refl; stands = emit_binary tokens fs out rest op x g (λ text q is. (let z = same_binary text rest in cc)) w }
binary_turn tokens fs out rest op x (Some q) e g w = at (nat_le (level_of op) (level_of q)) refl
  where
    at : (b : Bool) → nat_le (level_of op) (level_of q) ≡ b → After stage.Operand tokens (binary_frame op x ∷ fs) out rest (if b then turn_kind.Emit (step.Binary op) else turn_kind.Push (pending.Binary q))
    at true le = record {
      frame = binary_frame op x;
      others = fs;
      split = refl;
      stands = emit_binary tokens fs out rest op x g (λ text p is. (let z = same_binary text rest in let same : q ≡ p = cc in let l : level_of q ≡ level_of p = ap level_of same in let some = (levels op).0 in let less : level_of op ≤ level_of q = grind (arith, nat_tests) in omega arith)) w;
    }
    at false le = let less : level_of q < level_of op = grind (arith, nat_tests) in push_binary tokens (binary_frame op x ∷ fs) out rest q e tt (omega arith) g w

question_turn : (tokens : List Token) (fs : List Frame) (out : List Step) (rest : List Token) (k : Option TokenKind) → kind_in rest ≡ k → binary_in (kind_in rest) ≡ None → HasNoOperator fs → AreFrames fs → IsOperand tokens fs out rest → After stage.Operand tokens fs out rest (at_question k)
question_turn tokens fs out [] (Some (kind.Mark mark.Question)) e none plain g w = absurd (cc)
question_turn tokens fs out (t ∷ ts) (Some (kind.Mark mark.Question)) e none plain g w = (
  record {
    frame = question_frame w.made;
    is = refl;
    frames = (plain, g);
    stands = record { steps_are = w.steps_are; follows = λ text o h. w.follows text o (question_from fs w.made (word_of text t) (words_of text ts) o plain (let z : t.kind ≡ kind.Mark mark.Question = cc in z) h) };
  },
  shorter t ts,
)
question_turn tokens fs out rest k e none plain g w = (
  record {
    made = w.made;
    steps_are = w.steps_are;
    inside = plain;
    follows = λ text o h. w.follows text o (whole_from fs w.made (words_of text rest) o plain (same_binary text rest ∙ none) (λ c. ap (moved_question c) (same_kind text rest ∙ e)) h);
  },
  refl,
)

plain_turn : (tokens : List Token) (fs : List Frame) (out : List Step) (rest : List Token) (o : Option Binary) → binary_in (kind_in rest) ≡ o → HasNoOperator fs → IsLevelled fs → bound fs ≡ 10 → AreFrames fs → IsOperand tokens fs out rest → After stage.Operand tokens fs out rest (behind_operand o (kind_in rest))
plain_turn tokens fs out rest None e plain levelled ten g w = question_turn tokens fs out rest (kind_in rest) refl e plain g w
plain_turn tokens fs out rest (Some q) e plain levelled ten g w = let l = levels q in push_binary tokens fs out rest q e levelled (omega arith) g w

operand_turned : (tokens : List Token) (fs : List Frame) (out : List Step) (rest : List Token) → AreFrames fs → IsOperand tokens fs out rest → After stage.Operand tokens fs out rest (operand_turn (top_of fs) (kind_in rest))
operand_turned tokens [] out rest g w = absurd w.inside
operand_turned tokens (unary_frame op ∷ fs) out rest g w = record { frame = unary_frame op; others = fs; split = refl; stands = emit_unary tokens fs out rest op g.0 w }
operand_turned tokens (binary_frame op x ∷ fs) out rest g w = binary_turn tokens fs out rest op x (binary_in (kind_in rest)) refl g w
operand_turned tokens (open_frame ∷ fs) out rest g w = plain_turn tokens (open_frame ∷ fs) out rest (binary_in (kind_in rest)) refl tt tt refl g w
operand_turned tokens (question_frame c ∷ fs) out rest g w = plain_turn tokens (question_frame c ∷ fs) out rest (binary_in (kind_in rest)) refl tt tt refl g w
operand_turned tokens (colon_frame c x ∷ fs) out rest g w = plain_turn tokens (colon_frame c x ∷ fs) out rest (binary_in (kind_in rest)) refl tt tt refl g w

-- ---- behind a whole expression

else_turn : (tokens : List Token) (fs : List Frame) (c : Made) (out : List Step) (rest : List Token) (k : Option TokenKind) → kind_in rest ≡ k → AreFrames (question_frame c ∷ fs) → IsWhole tokens (question_frame c ∷ fs) out rest → After stage.Whole tokens (question_frame c ∷ fs) out rest (at_else k)
else_turn tokens fs c out [] (Some (kind.Mark mark.Colon)) e g w = absurd (cc)
else_turn tokens fs c out (t ∷ ts) (Some (kind.Mark mark.Colon)) e g w = (
  record {
    frame = question_frame c;
    others = fs;
    split = refl;
    stands = record {
      frame = colon_frame c w.made;
      is = refl;
      frames = g;
      stands = record {
        steps_are = w.steps_are ∙ append_assoc (steps_written fs) (steps (expression_in c)) (steps (expression_in w.made));
        follows = λ text o h. w.follows text o (else_from fs c w.made (word_of text t) (words_of text ts) o (let z : t.kind ≡ kind.Mark mark.Colon = cc in z) h);
      };
    };
  },
  shorter t ts,
)
else_turn tokens fs c out rest k e g w = λ text. w.follows text _ (stops (words_of text rest) (by_move _ _ (words_of text rest) _ (ap (at_colon c w.made) (same_kind text rest ∙ e)) refuses))

closed : (tokens : List Token) (fs : List Frame) (out : List Step) (t : Token) (ts : List Token) → t.kind ≡ kind.Mark mark.CloseParenthesis → IsWhole tokens (open_frame ∷ fs) out (t ∷ ts) → Behind tokens fs out ts
closed tokens [] out t ts e w = record {
  made = grouped w.made;
  steps_are = w.steps_are;
  read = λ text. w.follows text _ (close_from [] w.made (word_of text t) (words_of text ts) _ e refl);
}
closed tokens (f ∷ fs) out t ts e w = record {
  made = grouped w.made;
  steps_are = w.steps_are ∙ ap (λ (z : List Step). z ++ steps (expression_in w.made)) (append-nil (steps_written (f ∷ fs)));
  inside = tt;
  follows = λ text o h. w.follows text o (close_from (f ∷ fs) w.made (word_of text t) (words_of text ts) o e h);
}

close_turn : (tokens : List Token) (fs : List Frame) (out : List Step) (rest : List Token) (k : Option TokenKind) → kind_in rest ≡ k → IsWhole tokens (open_frame ∷ fs) out rest → After stage.Whole tokens (open_frame ∷ fs) out rest (at_close k)
close_turn tokens fs out [] (Some (kind.Mark mark.CloseParenthesis)) e w = absurd (cc)
close_turn tokens fs out (t ∷ ts) (Some (kind.Mark mark.CloseParenthesis)) e w = (record { frame = open_frame; others = fs; split = refl; stands = closed tokens fs out t ts (let z : t.kind ≡ kind.Mark mark.CloseParenthesis = cc in z) w }, shorter t ts)
close_turn tokens fs out rest k e w = λ text. w.follows text _ (stops (words_of text rest) (by_move _ _ (words_of text rest) _ (ap (at_closing w.made) (same_kind text rest ∙ e)) refuses))

emit_conditional : (tokens : List Token) (fs : List Frame) (c x : Made) (out : List Step) (rest : List Token) → HasNoOperator fs → IsWhole tokens (colon_frame c x ∷ fs) out rest → IsWhole tokens fs (out ++ step.Conditional ∷ []) rest
emit_conditional tokens fs c x out rest plain w =
    let cs = steps (expression_in c) in
    let xs = steps (expression_in x) in
    let es = steps (expression_in w.made) in
    let end = step.Conditional ∷ [] in
    record {
      made = with_three c x w.made;
      steps_are = ap (λ (z : List Step). z ++ end) (w.steps_are ∙ append_assoc (steps_written fs) (cs ++ xs) es) ∙ append_assoc (steps_written fs) ((cs ++ xs) ++ es) end
          ∙ ap (λ (z : List Step). steps_written fs ++ z) (append_assoc (cs ++ xs) es end ∙ append_assoc cs xs (es ++ end));
      inside = plain;
      follows = w.follows;
    }

whole_turned : (tokens : List Token) (fs : List Frame) (out : List Step) (rest : List Token) → AreFrames fs → IsWhole tokens fs out rest → After stage.Whole tokens fs out rest (whole_turn (top_of fs) (kind_in rest))
whole_turned tokens [] out rest g w = absurd w.inside
whole_turned tokens (unary_frame op ∷ fs) out rest g w = absurd w.inside
whole_turned tokens (binary_frame op x ∷ fs) out rest g w = absurd w.inside
whole_turned tokens (open_frame ∷ fs) out rest g w = close_turn tokens fs out rest (kind_in rest) refl w
whole_turned tokens (question_frame c ∷ fs) out rest g w = else_turn tokens fs c out rest (kind_in rest) refl g w
whole_turned tokens (colon_frame c x ∷ fs) out rest g w = record { frame = colon_frame c x; others = fs; split = refl; stands = emit_conditional tokens fs c x out rest g.0 w }

pub turned : (at : Stage) (tokens : List Token) (fs : List Frame) (out : List Step) (rest : List Token) → AreFrames fs → Stands at tokens fs out rest → After at tokens fs out rest (turn_at at (top_of fs) (kind_in rest))
turned stage.Wanted tokens fs out rest g w = wanted_turned tokens fs out rest g w
turned stage.Operand tokens fs out rest g w = operand_turned tokens fs out rest g w
turned stage.Whole tokens fs out rest g w = whole_turned tokens fs out rest g w
