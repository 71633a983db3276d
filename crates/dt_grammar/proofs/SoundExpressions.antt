-- What is read as an expression is spelled so.
use Rattle.std.proofs.Common.{◌≡◌, ℕ, zero, suc, ◌+◌, Bool, true, false, List, [], ◌∷◌, ◌++◌, length, Option, Some, None, refl, sym, ◌∙◌, ap, subst, append_assoc, length-append}
use Rattle.std.specs.Prelude.{nat_eq, if◌then◌else◌}
use Rattle.std.proofs.lemmas.Bool.{eqb-true}
use Rattle.std.proofs.lemmas.List.{append-nil}
use Rattle.dt_lex.specs.declared.token.TokenKind.{TokenKind}
use Rattle.dt_lex.specs.declared.token.TokenKind.TheVariants as kind
use Rattle.dt_lex.specs.declared.token.Mark.TheVariants as mark
use Rattle.dt_expr.specs.declared.step.Unary.{Unary}
use Rattle.dt_expr.specs.declared.step.Binary.{Binary}
use Rattle.dt_grammar.specs.Words.{Word, Words, unary_of, binary_of, level_of}
use Rattle.dt_grammar.specs.Grammar.{Class, prefixed, joined, whole, integer, character, group, no_prefix, with_prefix, tightest, tighter, joins, no_condition, with_condition}
use Rattle.dt_grammar.specs.Relaxed.{word}
use Rattle.dt_grammar.specs.Wanted.{Made, size_in, expression_in, Any, AfterCondition, AfterThis, Level, AfterLeft, Prefix, Prim, Closing, give, want}
use Rattle.dt_grammar.specs.Moves.{with_one, with_two, with_three, at_operator, at_prefix}
use Rattle.dt_grammar.proofs.Means.{Spelled, Sound, SoundAt, at_each, at_nothing}

ended : (c : Class) (u : Words) (m : Made) → Spelled c u m → Spelled c (u ++ []) m
ended c u m s = subst (λ (l : Words). Spelled c l m) (sym (append-nil u)) s

pub sound_any : (k : Option Word) → SoundAt Any k
sound_any k = λ u v x y h f. f u h

unconditional : (c : Made) (u : Words) → Spelled (joined 10) u c → Spelled whole (u ++ []) c
unconditional c u s = ended whole u c (record { expression = no_condition u (expression_in c) s.expression; size = s.size })

pub sound_condition : (c : Made) (k : Option Word) → SoundAt (AfterCondition c) k
sound_condition c = at_each (SoundAt (AfterCondition c)) (unconditional c) at
  where
    at : (k : TokenKind) (b : List ℕ) → SoundAt (AfterCondition c) (Some (word k b))
    at (kind.Mark mark.Question) b = λ u v x y h f t s. f (word (kind.Mark mark.Question) b) t u refl s h
    at _ b = unconditional c

three_sizes : (us vs ws : Words) (q k : Word) (a b c : ℕ) → a ≡ length us → b ≡ length vs → c ≡ length ws → a + suc (b + suc c) ≡ length (us ++ q ∷ (vs ++ k ∷ ws))
three_sizes us vs ws q k a b c e f g =
    (λ i. e i + suc (f i + suc (g i))) ∙ sym (length-append us (q ∷ (vs ++ k ∷ ws)) ∙ ap (λ (n : ℕ). length us + suc n) (length-append vs (k ∷ ws)))

pub sound_this : (c x : Made) (k : Option Word) → SoundAt (AfterThis c x) k
sound_this c x = at_each (SoundAt (AfterThis c x)) tt at
  where
    at : (k : TokenKind) (b : List ℕ) → SoundAt (AfterThis c x) (Some (word k b))
    at (kind.Mark mark.Colon) b = λ u v z y h f q r t is s p.
        let k = word (kind.Mark mark.Colon) b in
        at_nothing (λ (l : Words) (e : Made). Spelled whole (r ++ q ∷ (t ++ k ∷ l)) e) u v (with_three c x z) y f
        (record {
          expression = with_condition q k r t u (expression_in c) (expression_in x) (expression_in z) is refl s.expression p.expression h.expression;
          size = three_sizes r t u q k (size_in c) (size_in x) (size_in z) s.size p.size h.size;
        })
    at _ b = tt

pub sound_level : (n : ℕ) (k : Option Word) → SoundAt (Level n) k
sound_level zero k = λ u v x y h f. at_nothing (Spelled (joined 0)) u v x y f (record { expression = tightest u (expression_in x) h.expression; size = h.size })
sound_level (suc n) k = λ u v x y h f. f u (record { expression = tighter n u (expression_in x) h.expression; size = h.size })

at_level : (n : ℕ) (x : Made) (k : Word) (op : Binary) (b : Bool) → binary_of k.kind ≡ Some op → nat_eq (level_of op) (suc n) ≡ b → Sound (AfterLeft n x) (Some k) (if b then want true (Level n) (λ y. AfterLeft n (with_two op x y)) else give false x)
at_level n x k op true is_op is_level = λ u v y z h f t s.
    subst (λ (l : Words). Spelled (joined (suc n)) l z) (append_assoc t (k ∷ u) v)
    (f (t ++ k ∷ u) (record {
      expression = joins n k t u (expression_in x) (expression_in y) op is_op (eqb-true _ _ is_level) s.expression h.expression;
      size = (λ i. s.size i + suc (h.size i)) ∙ sym (length-append t (k ∷ u));
    }))
at_level n x k op false is_op is_level = λ t s. ended (joined (suc n)) t x s

at_left : (n : ℕ) (x : Made) (k : Word) (o : Option Binary) → binary_of k.kind ≡ o → Sound (AfterLeft n x) (Some k) (at_operator n x o)
at_left n x k None e = λ t s. ended (joined (suc n)) t x s
at_left n x k (Some op) e = at_level n x k op (nat_eq (level_of op) (suc n)) e refl

pub sound_left : (n : ℕ) (x : Made) (k : Option Word) → SoundAt (AfterLeft n x) k
sound_left n x None = λ t s. ended (joined (suc n)) t x s
sound_left n x (Some k) = at_left n x k (binary_of k.kind) refl

at_unary : (k : Word) (o : Option Unary) → unary_of k.kind ≡ o → Sound Prefix (Some k) (at_prefix o)
at_unary k None e = λ u v x y h f. at_nothing (Spelled prefixed) u v x y f (record { expression = no_prefix u (expression_in x) h.expression; size = h.size })
at_unary k (Some op) e = λ u v x y h f.
    at_nothing (λ (l : Words) (z : Made). Spelled prefixed (k ∷ l) z) u v (with_one op x) y f (record { expression = with_prefix k u (expression_in x) op e h.expression; size = ap suc h.size })

pub sound_prefix : (k : Option Word) → SoundAt Prefix k
sound_prefix None = λ u v x y h f. at_nothing (Spelled prefixed) u v x y f (record { expression = no_prefix u (expression_in x) h.expression; size = h.size })
sound_prefix (Some k) = at_unary k (unary_of k.kind) refl

pub sound_prim : (k : Option Word) → SoundAt Prim k
sound_prim = at_each (SoundAt Prim) tt at
  where
    at : (k : TokenKind) (b : List ℕ) → SoundAt Prim (Some (word k b))
    at (kind.Integer n) b = record { expression = integer (word (kind.Integer n) b) n refl; size = refl }
    at (kind.Character n) b = record { expression = character (word (kind.Character n) b) n refl; size = refl }
    at (kind.Mark mark.OpenParenthesis) b = λ u v x y h f. f (word (kind.Mark mark.OpenParenthesis) b) u refl h
    at _ b = tt

pub sound_closing : (x : Made) (k : Option Word) → SoundAt (Closing x) k
sound_closing x = at_each (SoundAt (Closing x)) tt at
  where
    at : (k : TokenKind) (b : List ℕ) → SoundAt (Closing x) (Some (word k b))
    at (kind.Mark mark.CloseParenthesis) b = λ o u is s.
        let k = word (kind.Mark mark.CloseParenthesis) b in
        record { expression = group o k u (expression_in x) is refl s.expression; size = ap suc (ap (λ (n : ℕ). n + 1) s.size ∙ sym (length-append u (k ∷ []))) }
    at _ b = tt
