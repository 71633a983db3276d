-- Words that are set one after the other.
use Rattle.std.proofs.Common.{◌≡◌, ℕ, ◌+◌, ◌*◌, ◌<◌, Bool, true, false, List, [], ◌∷◌, ◌++◌, length, take, drop, get_or, refl, sym, ap, ◌∙◌, arith}
use Rattle.std.specs.Bool.{IsTrue, OnTrue}
use Rattle.std.specs.List.{flat_map}
use Rattle.std.proofs.lemmas.List.{append-nil, length-append, length-take, take_at, drop_at, drop-drop, take_more}
use Rattle.std.proofs.lemmas.List.Concat.{flat_map-append}
use Rattle.dt_model.specs.Format.{word}

words_length : (ns : List ℕ) → length (flat_map word ns) ≡ 4 * length ns
words_length [] = refl
words_length (n ∷ ns) = omega (arith, length-append (word n) (flat_map word ns), words_length ns)

pub word_set : (ns : List ℕ) (i n : ℕ) (old x y : List ℕ) → i < length ns → n ≡ get_or ns i 0 → x ≡ flat_map word (take i ns) ++ drop (4 * i) old → y ≡ take (4 * i) x ++ word n ++ drop (4 * i + 4) x
    → y ≡ flat_map word (take (i + 1) ns) ++ drop (4 * (i + 1)) old
word_set ns i n old x y lt at before e =
    let own = flat_map word (take i ns) in
    let rest = drop (4 * i) old in
    let wide : length own ≡ 4 * i = omega (arith, words_length (take i ns), length-take i ns) in
    let front : take (4 * i) x ≡ own = ap (take (4 * i)) before ∙ take_at own rest (4 * i) wide in
    let next : 4 * i + 4 ≡ 4 * (i + 1) = omega arith in
    let behind : drop (4 * i + 4) x ≡ drop (4 * (i + 1)) old =
    sym (drop-drop 4 (4 * i) x) ∙ ap (λ (w : List ℕ). drop 4 (drop (4 * i) w)) before ∙ ap (drop 4) (drop_at own rest (4 * i) wide) ∙ drop-drop 4 (4 * i) old ∙ ap (λ (k : ℕ). drop k old) next in
    let more : flat_map word (take (i + 1) ns) ≡ own ++ word n =
    ap (flat_map word) (take_more ns i 0 lt) ∙ flat_map-append word (take i ns) (get_or ns i 0 ∷ []) ∙ ap (λ (w : List ℕ). own ++ w) (append-nil (word (get_or ns i 0))) ∙ ap (λ (k : ℕ). own ++ word k) (sym at) in
    e ∙ (λ j. front j ++ word n ++ behind j) ∙ ap (λ (w : List ℕ). w ++ drop (4 * (i + 1)) old) (sym more)

pub was_true : {P : Type 0} (b : Bool) → IsTrue b → OnTrue b P → P
was_true true t p = p
was_true false t p = absurd cc
