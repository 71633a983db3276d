-- What each turn makes of the two stacks.
use Rattle.std.proofs.Common.{◌≡◌, ℕ, ◌<◌, true, List, [], ◌∷◌, ◌++◌, length, drop, Some, None, refl, sym, ◌∙◌, ap, arith}
use Rattle.std.proofs.lemmas.List.{append-nil}
use Rattle.dt_lex.specs.declared.token.Token.{Token}
use Rattle.dt_lex.specs.declared.token.TokenKind.{TokenKind}
use Rattle.dt_lex.specs.declared.token.TokenKind.TheVariants as kind
use Rattle.dt_lex.specs.declared.token.Mark.TheVariants as mark
use Rattle.dt_expr.specs.declared.step.Step.{Step}
use Rattle.dt_expr.specs.declared.step.Step.TheVariants as step
use Rattle.dt_expr.specs.Expression.{number}
use Rattle.dt_parse.specs.declared.expression.Stage.TheVariants as stage
use Rattle.dt_grammar.specs.Words.{word_of, words_of, unary_of}
use Rattle.dt_grammar.specs.Wanted.{made_expression, Prim, refuse, give}
use Rattle.dt_grammar.specs.Moves.{at_prefix, at_prim}
use Rattle.dt_grammar.specs.Descent.{Outcome, stuck, refuses, Descends}
use Rattle.dt_parse.specs.Machine.{Frame, open_frame, stops, LeadsOn, conts_of}
use Rattle.dt_parse.specs.Turns.{at_operand, kind_in, unary_in}
use Rattle.dt_parse.specs.Standing.{steps_written, AreFrames, IsWanted, Behind, After}
use Rattle.dt_grammar.proofs.Descent.{by_move}
use Rattle.dt_parse.proofs.Machine.{by_same, giving, prim_from, open_from}

pub shorter : (t : Token) (ts : List Token) → length (drop 1 (t ∷ ts)) < length (t ∷ ts)
shorter t ts = omega arith

-- ---- an operand is wanted

-- where a primary is wanted, whether or not a prefix may stand before it
primary_at : (tokens : List Token) (fs : List Frame) (out : List Step) (rest : List Token) → unary_in (kind_in rest) ≡ None → IsWanted tokens fs out rest → (text : List ℕ) (o : Outcome) → LeadsOn (conts_of fs).operand Prim (words_of text rest) o → Descends Prim (words_of text tokens) o
primary_at tokens [] out rest none w text o h = w.follows text o h
primary_at tokens (f ∷ fs) out [] none w text o h = w.follows text o (prim_from (conts_of (f ∷ fs)).operand [] o refl h)
primary_at tokens (f ∷ fs) out (t ∷ ts) none w text o h = w.follows text o (prim_from (conts_of (f ∷ fs)).operand (words_of text (t ∷ ts)) o (ap at_prefix none) h)

number_behind : (tokens : List Token) (fs : List Frame) (out : List Step) (t : Token) (ts : List Token) (n : ℕ) → at_prim (Some t.kind) ≡ give true (made_expression 1 (number n)) → unary_of t.kind ≡ None → IsWanted tokens fs out (t ∷ ts) → Behind tokens fs (out ++ step.Number n ∷ []) ts
number_behind tokens [] out t ts n e u w = record {
  made = made_expression 1 (number n);
  steps_are = ap (λ (z : List Step). z ++ step.Number n ∷ []) w.steps_are;
  read = λ text. primary_at tokens [] out (t ∷ ts) u w text _ (by_same (conts_of []).operand _ _ (words_of text (t ∷ ts)) _ e (giving (conts_of []).operand true (made_expression 1 (number n)) (words_of text (t ∷ ts)) _ refl));
}
number_behind tokens (f ∷ fs) out t ts n e u w = record {
  made = made_expression 1 (number n);
  steps_are = ap (λ (z : List Step). z ++ step.Number n ∷ []) w.steps_are;
  inside = tt;
  follows = λ text o h. primary_at tokens (f ∷ fs) out (t ∷ ts) u w text o (by_same (conts_of (f ∷ fs)).operand _ _ (words_of text (t ∷ ts)) o e (giving (conts_of (f ∷ fs)).operand true (made_expression 1 (number n)) (words_of text (t ∷ ts)) o h));
}

refused_at : (tokens : List Token) (fs : List Frame) (out : List Step) (t : Token) (ts : List Token) → at_prim (Some t.kind) ≡ refuse → unary_of t.kind ≡ None → IsWanted tokens fs out (t ∷ ts) → (text : List ℕ) → Descends Prim (words_of text tokens) (stuck (words_of text (t ∷ ts)))
refused_at tokens fs out t ts e u w text = primary_at tokens fs out (t ∷ ts) u w text _ (stops (words_of text (t ∷ ts)) (by_move _ _ (words_of text (t ∷ ts)) _ e refuses))

pub at_primary : (tokens : List Token) (fs : List Frame) (out : List Step) (t : Token) (ts : List Token) (k : TokenKind) → t.kind ≡ k → unary_of k ≡ None → AreFrames fs → IsWanted tokens fs out (t ∷ ts) → After stage.Wanted tokens fs out (t ∷ ts) (at_operand (Some k))
at_primary tokens fs out t ts (kind.Integer n) e u g w = (number_behind tokens fs out t ts n (ap (λ (k : TokenKind). at_prim (Some k)) e) (ap unary_of e) w, shorter t ts)
at_primary tokens fs out t ts (kind.Character n) e u g w = (number_behind tokens fs out t ts n (ap (λ (k : TokenKind). at_prim (Some k)) e) (ap unary_of e) w, shorter t ts)
at_primary tokens fs out t ts (kind.Mark mark.OpenParenthesis) e u g w = (
  record {
    frame = open_frame;
    is = refl;
    frames = g;
    stands = record {
      steps_are = w.steps_are ∙ sym (append-nil (steps_written fs));
      follows = λ text o h. primary_at tokens fs out (t ∷ ts) (ap unary_of e) w text o (open_from fs (word_of text t) (words_of text ts) o e h);
    };
  },
  shorter t ts,
)
at_primary tokens fs out t ts k e u g w = refused_at tokens fs out t ts (ap (λ (k : TokenKind). at_prim (Some k)) e) (ap unary_of e ∙ u) w
