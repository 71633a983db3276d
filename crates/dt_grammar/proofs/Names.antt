-- What a word says is a function of its bytes: a label, and a reference with its path.
use Rattle.dt_grammar.specs.Strict.{IsLabelText, AreLabelTexts, IsReferenceText}
use Rattle.std.proofs.Common.{◌≡◌, ℕ, ◌==◌, ◌<◌, Bool, true, false, ◌||◌, List, [], ◌∷◌, ◌++◌, map, drop, codes, refl, sym, ap, subst, ◌∙◌, true≢false, append_assoc, IsTrue, arith}
use Rattle.std.specs.Prelude.{if◌then◌else◌}
use Rattle.std.specs.List.{AllByRecursion}
use Rattle.std.proofs.lemmas.Bool.{eqb-true}
use Rattle.std.proofs.lemmas.List.Elements.{recursion_from_All}
use Rattle.dt_model.specs.Names.{Name, IsNodeName, IsLabel, is_name_byte}
use Rattle.dt_model.specs.Path.{Path, path_text}
use Rattle.dt_model.specs.Source.{Reference, by_label, by_path, Place, label}
use Rattle.dt_lex.specs.declared.token.TokenKind.{TokenKind}
use Rattle.dt_grammar.specs.Words.{Word, Words, IsReferenceWord, IsLabelWord, to_label, to_path}
use Rattle.dt_grammar.specs.Grammar.{SpellsLabels, no_labels, one_label}
use Rattle.dt_grammar.specs.Unchecked.{Target, a_label, a_path, raw_label, all_but_last, onto_first, ended_names, path_of_names, reference_in, place_meant}
use Rattle.dt_grammar.specs.Relaxed.{word, a_reference, Labels, no_more_labels, another_label}

pub word_is : (w : Word) (k : TokenKind) → w.kind ≡ k → w ≡ word k w.bytes
word_is w k e = λ i. record { kind = e i; bytes = w.bytes }

-- ---- paths

abbrev ends : ℕ → Bool
ends c = (c == 47) || (c == 125)

abbrev in_name : ℕ → Bool
in_name c = is_name_byte c || (c == 64)

no_end : (c : ℕ) → IsTrue (in_name c) → ends c ≡ false
no_end c h = at (c == 47) (c == 125) refl refl
  where
    at : (a b : Bool) → (c == 47) ≡ a → (c == 125) ≡ b → (a || b) ≡ false
    at true b e f = absurd (true≢false (sym h ∙ ap in_name (eqb-true c 47 e)))
    at false true e f = absurd (true≢false (sym h ∙ ap in_name (eqb-true c 125 f)))
    at false false e f = refl

ended_name : (x : Name) (e : ℕ) (rest : List ℕ) → AllByRecursion (λ c. IsTrue (in_name c)) x → ends e ≡ true → ended_names (x ++ e ∷ rest) ≡ x ∷ ended_names rest
ended_name [] e rest h t = ap (λ (b : Bool). if b then [] ∷ ended_names rest else onto_first e (ended_names rest)) t
ended_name (c ∷ x) e rest h t =
    ap (λ (b : Bool). if b then [] ∷ ended_names (x ++ e ∷ rest) else onto_first c (ended_names (x ++ e ∷ rest))) (no_end c h.0) ∙ ap (onto_first c) (ended_name x e rest h.1 t)

-- the names of a path behind its first `/`, with a `/` between them and a `}` at the end
abbrev closed : Name → Path → List ℕ
closed x [] = x ++ 125 ∷ []
closed x (y ∷ p) = x ++ 47 ∷ closed y p

closed_text : (x : Name) (p : Path) → path_text (x ∷ p) ++ 125 ∷ [] ≡ 47 ∷ closed x p
closed_text x [] = refl
closed_text x (y ∷ p) = ap (λ (z : List ℕ). 47 ∷ z) (append_assoc x (path_text (y ∷ p)) (125 ∷ []) ∙ ap (λ (z : List ℕ). x ++ z) (closed_text y p))

closed_names : (x : Name) (p : Path) → AllByRecursion IsNodeName (x ∷ p) → ended_names (closed x p) ≡ x ∷ p
closed_names x [] h = ended_name x 125 [] (recursion_from_All (λ c. IsTrue (in_name c)) x h.0.allowed) refl
closed_names x (y ∷ p) h = ended_name x 47 (closed y p) (recursion_from_All (λ c. IsTrue (in_name c)) x h.0.allowed) refl ∙ ap (λ (z : List Name). x ∷ z) (closed_names y p h.1)

named : (x : Name) (p : Path) → IsNodeName x → path_of_names (x ∷ p) ≡ x ∷ p
named [] p h = let z : 0 < 0 = h.not_empty in absurd (omega arith)
named (b ∷ x) p h = refl

pub path_back : (p : Path) → AllByRecursion IsNodeName p → path_of_names (ended_names (drop 3 (codes "&{" ++ (path_text p ++ codes "}")))) ≡ p
path_back [] h = refl
path_back (x ∷ p) h =
    ap (λ (z : List ℕ). path_of_names (ended_names (drop 3 (codes "&{" ++ z)))) (closed_text x p) ∙ ap path_of_names (closed_names x p h) ∙ named x p h.0

-- ---- references

pub record ReferenceOf (w : Word) (r : Reference) : Type 0 where
  pub target : Target
  pub is : w ≡ a_reference target w.bytes
  pub says : reference_in target w.bytes ≡ r

pub reference_word : {w : Word} {r : Reference} → IsReferenceWord w r → ReferenceOf w r
reference_word {w = w} (to_label l k b v) = record { target = a_label; is = word_is w _ k; says = ap (λ (z : List ℕ). by_label (drop 1 z)) b }
reference_word {w = w} (to_path p k b v) = record { target = a_path; is = word_is w _ k; says = ap (λ (z : List ℕ). by_path (path_of_names (ended_names (drop 3 z)))) b ∙ ap by_path (path_back p v) }

pub spelled_reference : {w : Word} {r : Reference} (h : IsReferenceWord w r) (f : ReferenceOf w r) → IsReferenceText f.target w.bytes
spelled_reference {w = w} {r = r} h f = subst (λ (z : Reference). IsReferenceWord (a_reference f.target w.bytes) z) (sym f.says) (subst (λ (x : Word). IsReferenceWord x r) f.is h)

-- ---- labels

pub all_but_colon : (l : Name) (b : ℕ) → all_but_last (l ++ b ∷ []) ≡ l
all_but_colon [] b = refl
all_but_colon (x ∷ []) b = refl
all_but_colon (x ∷ y ∷ l) b = ap (λ (z : List ℕ). x ∷ z) (all_but_colon (y ∷ l) b)

label_is : {w : Word} {l : Name} → IsLabelWord w l → all_but_last w.bytes ≡ l
label_is {l = l} is = ap all_but_last is.bytes ∙ all_but_colon l 58

pub label_text : {w : Word} {l : Name} → IsLabelWord w l → IsLabelText w.bytes
label_text is =
    let this = label_is is in
    record { colon = is.bytes ∙ ap (λ (z : List ℕ). z ++ codes ":") (sym this); valid = subst IsLabel (sym this) is.valid }

pub record LabelsOf (ws : Words) (ls : List Name) : Type 0 where
  pub raw : List (List ℕ)
  pub relaxed : Labels ws raw
  pub says : map all_but_last raw ≡ ls
  pub strict : AreLabelTexts raw

pub labels_of : {ws : Words} {ls : List Name} → SpellsLabels ws ls → LabelsOf ws ls
labels_of no_labels = record { raw = []; relaxed = no_more_labels; says = refl; strict = tt }
labels_of (one_label w ws l ls is s) =
    let r = labels_of s in
    let this = label_is is in
    record {
      raw = w.bytes ∷ r.raw;
      relaxed = subst (λ (x : Word). Labels (x ∷ ws) (w.bytes ∷ r.raw)) (sym (word_is w _ is.kind)) (another_label w.bytes ws r.raw r.relaxed);
      says = λ i. this i ∷ r.says i;
      strict = (label_text is, r.strict);
    }

pub label_places : (raw : List (List ℕ)) → map place_meant (map raw_label raw) ≡ map label (map all_but_last raw)
label_places [] = refl
label_places (l ∷ raw) = ap (λ (z : List Place). label (all_but_last l) ∷ z) (label_places raw)

pub labels_say : {ws : Words} {ls : List Name} (l : LabelsOf ws ls) → map place_meant (map raw_label l.raw) ≡ map label ls
labels_say l = label_places l.raw ∙ ap (map label) l.says
