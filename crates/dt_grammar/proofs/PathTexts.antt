-- The bytes of labels and of references.
use Rattle.std.proofs.Common.{◌≡◌, ◌≢◌, ℕ, zero, suc, ◌-◌, codes, List, [], ◌∷◌, ◌++◌, length, take, drop, slice_index, refl, sym, ap, ◌∙◌, subst, arith}
use Rattle.std.specs.List.{AllByRecursion}
use Rattle.std.proofs.lemmas.List.{append_cancel_right}
use Rattle.dt_model.specs.Names.{IsNodeName, IsLabel}
use Rattle.dt_model.specs.Path.{Path, path_text}
use Rattle.dt_model.specs.Source.{Reference, by_path}
use Rattle.dt_grammar.specs.Words.{IsReferenceWord, to_label, to_path}
use Rattle.dt_grammar.specs.Unchecked.{a_label, a_path, all_but_last, ended_names, path_of_names}
use Rattle.dt_grammar.specs.Relaxed.{a_reference}
use Rattle.dt_grammar.specs.Strict.{IsLabelText, IsReferenceText}
use Rattle.dt_grammar.specs.Paths.{braced}
use Rattle.dt_grammar.proofs.Names.{path_back, all_but_colon}

abbrev AllNamed : Path → Type 0
AllNamed p = AllByRecursion IsNodeName p

-- ---- references to paths

pub path_in : {bytes : List ℕ} {r : Reference} → IsReferenceWord (a_reference a_path bytes) r → (p : Path) × AllNamed p × (bytes ≡ braced (path_text p))
path_in (to_label l k b v) = cc
path_in (to_path p k b v) = (p, v, b)

same_text : (s t : List ℕ) → braced s ≡ braced t → s ≡ t
same_text s t e = append_cancel_right s t (codes "}") (ap (drop 2) e)

-- the bytes refer to the path whose text stands between the braces
pub refers : (bytes text : List ℕ) (p : Path) → bytes ≡ braced text → AllNamed p → text ≡ path_text p → IsReferenceText a_path bytes × (p ≡ path_of_names (ended_names (drop 3 bytes)))
refers bytes text p e named written =
    let is : bytes ≡ braced (path_text p) = e ∙ ap braced written in
    let same : path_of_names (ended_names (drop 3 bytes)) ≡ p = ap (λ (z : List ℕ). path_of_names (ended_names (drop 3 z))) is ∙ path_back p named in
    (subst (λ (r : Reference). IsReferenceWord (a_reference a_path bytes) r) (ap by_path (sym same)) (to_path p refl is named), sym same)

-- the path to which bytes refer is that of the text between the braces
pub referred : (bytes text : List ℕ) → bytes ≡ braced text → IsReferenceText a_path bytes → (p : Path) × AllNamed p × (text ≡ path_text p)
referred bytes text e h = let r = path_in h in (r.0, r.1, same_text text (path_text r.0) (sym e ∙ r.2))

-- ---- the last byte

pub with_last : (bytes : List ℕ) (n last : ℕ) → length bytes ≡ suc n → slice_index bytes n ≡ last → bytes ≡ take n bytes ++ last ∷ []
with_last [] n last e f = absurd (omega arith)
with_last (b ∷ []) zero last e f = ap (λ c. c ∷ []) f
with_last (b ∷ []) (suc n) last e f = absurd (omega arith)
with_last (b ∷ c ∷ bytes) zero last e f = absurd (omega arith)
with_last (b ∷ c ∷ bytes) (suc n) last e f = ap (λ (z : List ℕ). b ∷ z) (with_last (c ∷ bytes) n last (omega arith) f)

-- ---- labels

pub label_text : (bytes front : List ℕ) → bytes ≡ front ++ 58 ∷ [] → IsLabel front → IsLabelText bytes × (front ≡ all_but_last bytes)
label_text bytes front e l =
    let is : all_but_last bytes ≡ front = ap all_but_last e ∙ all_but_colon front 58 in
    (record { colon = e ∙ ap (λ (z : List ℕ). z ++ codes ":") (sym is); valid = subst IsLabel (sym is) l }, sym is)

pub front_of : (bytes : List ℕ) → length bytes ≢ 0 → slice_index bytes (length bytes - 1) ≡ 58 → bytes ≡ take (length bytes - 1) bytes ++ 58 ∷ []
front_of bytes some e = with_last bytes (length bytes - 1) 58 (omega arith) e

-- ---- references to labels

pub label_in : {bytes : List ℕ} {r : Reference} → IsReferenceWord (a_reference a_label bytes) r → (bytes ≡ 38 ∷ drop 1 bytes) × IsLabel (drop 1 bytes)
label_in (to_label l k b v) = (b ∙ ap (λ (z : List ℕ). 38 ∷ drop 1 z) (sym b), subst IsLabel (sym (ap (drop 1) b)) v)
label_in (to_path p k b v) = cc

pub begun_label : (bytes : List ℕ) → length bytes ≢ 0 → slice_index bytes 0 ≡ 38 → IsLabel (drop 1 bytes) → IsReferenceText a_label bytes
begun_label [] some e l = absurd (some refl)
begun_label (b ∷ bytes) some e l = to_label bytes refl (ap (λ (c : ℕ). c ∷ bytes) e) l

pub no_label : (bytes : List ℕ) → ¬ IsLabel (drop 1 bytes) → ¬ IsReferenceText a_label bytes
no_label bytes none h = none (label_in h).1
