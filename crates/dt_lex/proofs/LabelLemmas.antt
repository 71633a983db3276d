-- Where no label begins.
use Rattle.std.proofs.Common.{◌≡◌, ℕ, ◌-◌, ◌<◌, Bool, List, [], ◌∷◌, ◌++◌, length, None, refl, sym, ◌∙◌, ap, subst, append_assoc, arith, length-append}
use Rattle.dt_lex.specs.declared.byte.Class.TheVariants as class
use Rattle.dt_lex.specs.declared.token.Mode.{Mode}
use Rattle.dt_lex.specs.declared.rule.Rule.TheVariants as rule
use Rattle.dt_lex.specs.Bytes.{is_in}
use Rattle.dt_lex.specs.Words.{Each, Word, Stops, RunsTo, NoneFits}
use Rattle.dt_lex.specs.Vocabulary.{LabelWord}
use Rattle.dt_lex.specs.Rules.{In}
use Rattle.dt_lex.specs.Labels.{IsUnlabelled}
use Rattle.dt_lex.proofs.WordLemmas.{cancel, then_each, stops_word}
use Rattle.dt_lex.proofs.QuotedLemmas.{front_within}

each_behind : (p : ℕ → Bool) (u w : List ℕ) → Each p (u ++ w) → Each p w
each_behind p [] w h = h
each_behind p (b ∷ u) w h = each_behind p u w h.1

-- a run with no `:` behind it begins no label
pub no_label : (w t : List ℕ) → Each (is_in class.Label) w → Stops (is_in class.Label) t → NoneFits (Word (58 ∷ [])) t → NoneFits LabelWord (w ++ t)
no_label w t a b none v more e (x, y, f, g, h) =
    then_each (is_in class.Label) (Word (58 ∷ [])) (stops_word (is_in class.Label) (58 ∷ []) refl) (w ++ t) t (w, refl, a, b) None none v more e (x, y, f, g.1, h)

-- nor does any of its bytes
pub unlabelled_run : (text t : List ℕ) → RunsTo (is_in class.Label) text t → NoneFits (Word (58 ∷ [])) t → IsUnlabelled (length text - length t) text
unlabelled_run text t (w, e, a, b) none u v f l =
    let front = front_within u v w t (sym f ∙ e) (omega (arith, l, ap length e, length-append w t)) in
    let behind : v ≡ front.0 ++ t = cancel u v (front.0 ++ t) (sym f ∙ e ∙ ap (λ (x : List ℕ). x ++ t) front.1 ∙ append_assoc u front.0 t) in
    let rest = each_behind (is_in class.Label) u front.0 (subst (Each (is_in class.Label)) front.1 a) in
    subst (NoneFits LabelWord) (sym behind) (no_label front.0 t rest b none)

-- what is known holds behind a word
pub unlabelled_behind : (count : ℕ) (text w rest : List ℕ) (n : ℕ) → text ≡ w ++ rest → length w ≡ n → IsUnlabelled count text → IsUnlabelled (count - n) rest
unlabelled_behind count text w rest n e g h u v f l =
    h (w ++ u) v (e ∙ ap (λ (x : List ℕ). w ++ x) f ∙ sym (append_assoc w u v)) (omega (arith, l, g, length-append w u))

-- so the rule of labels has no word there
pub unlabelled_here : (m : Mode) (fresh : Bool) (count : ℕ) (text : List ℕ) → 0 < count → IsUnlabelled count text → NoneFits (In rule.Label m fresh) text
unlabelled_here m fresh count text l h v more e f = h [] text refl (omega (arith, l)) v more e f.1
