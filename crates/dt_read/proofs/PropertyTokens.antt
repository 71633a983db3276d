-- What the token of a property has where.
use Rattle.std.proofs.Common.{◌≡◌, ℕ, ◌+◌, ◌≤◌, List, ◌∷◌, ◌++◌, length, take, drop, false, Option, Some, refl, sym, ap, subst, ◌∙◌, append_assoc, arith}
use Rattle.std.specs.Option.{unwrap_or}
use Rattle.std.proofs.lemmas.List.{take-append-drop, take_at, length-append}
use Rattle.dt_model.specs.Checks.{number}
use Rattle.dt_model.specs.Format.{prop, word, word_at, HoldsName}
use Rattle.dt_model.specs.Lexing.{text_in}
use Rattle.dt_model.specs.Tree.{Property}
use Rattle.std.specs.Str.{bytes_eq}
use Rattle.dt_model.proofs.Tests.{bytes_eq_other}
use Rattle.dt_model.proofs.Lexed.{text_again}
use Rattle.dt_model.proofs.Words.{word_again, word_value}
use Rattle.dt_read.specs.Marks.{Takes}
use Rattle.dt_read.proofs.Lying.{property_holds, property_named}

-- a property's token is one of a name and a value, whose size and whose offset are behind a word each
pub record HasParts (strings bytes : List ℕ) (p : Property) : Type 0 where
  pub size : number bytes 4 ≡ length p.value
  pub value : take (length p.value) (drop 12 bytes) ≡ p.value
  pub within : 12 + length p.value ≤ length bytes
  pub name : HoldsName strings (number bytes 8) p.name
  pub inside : number bytes 8 ≤ length strings

pub parts_of : (strings bytes : List ℕ) (p : Property) (n : ℕ) → Takes strings bytes (prop p) n → HasParts strings bytes p
parts_of strings bytes p n t =
    let s = t.spelled in
    let padding = s.bytes.padding in
    let held = property_holds strings bytes p n t in
    let own : bytes ≡ ((word 3 ++ (word (length p.value) ++ (word s.offset ++ p.value))) ++ padding) ++ drop n bytes = sym (take-append-drop n bytes) ∙ ap (λ (x : List ℕ). x ++ drop n bytes) s.bytes.whole in
    let whole = own ∙ first (word 3) (word (length p.value)) (word s.offset) p.value padding (drop n bytes) in
    let further = own ∙ second (word 3) (word (length p.value)) (word s.offset) p.value padding (drop n bytes) in
    let size : word_at bytes 4 ≡ Some (length p.value) = word_again 4 (length p.value) (word 3) (word (length p.value)) (word s.offset ++ (p.value ++ (padding ++ drop n bytes))) bytes whole refl refl (word_value (length p.value) s.length_fits) in
    let offset : word_at bytes 8 ≡ Some s.offset = word_again 8 s.offset (word 3 ++ word (length p.value)) (word s.offset) (p.value ++ (padding ++ drop n bytes)) bytes further refl refl (word_value s.offset s.offset_fits) in
    let at : number bytes 8 ≡ s.offset = ap (λ (o : Option ℕ). unwrap_or o 0) offset in
    let lies = (property_named strings bytes p n t).inside in
    record {
      size = ap (λ (o : Option ℕ). unwrap_or o 0) size;
      value = held.1;
      within = held.0;
      name = record { rest = s.named.rest; stands = ap (λ (k : ℕ). drop k strings) at ∙ s.named.stands; text = s.named.text };
      inside = omega arith;
    }
  where
    first : (w v o value padding more : List ℕ) → ((w ++ (v ++ (o ++ value))) ++ padding) ++ more ≡ w ++ (v ++ (o ++ (value ++ (padding ++ more))))
    first w v o value padding more = simp append_assoc

    second : (w v o value padding more : List ℕ) → ((w ++ (v ++ (o ++ value))) ++ padding) ++ more ≡ (w ++ v) ++ (o ++ (value ++ (padding ++ more)))
    second w v o value padding more = simp append_assoc

-- a name that a text begins with
pub begins_so : (strings : List ℕ) (offset : ℕ) (name : List ℕ) → HoldsName strings offset name → (length name ≤ length (drop offset strings)) × (take (length name) (drop offset strings) ≡ name)
begins_so strings offset name h =
    let size = ap length h.stands in
    let l = length-append name (0 ∷ h.rest) in
    (omega arith, ap (take (length name)) h.stands ∙ take_at name (0 ∷ h.rest) (length name) refl)

-- the text is the name
pub text_is : (strings : List ℕ) (offset : ℕ) (name : List ℕ) → HoldsName strings offset name → text_in (drop offset strings) ≡ Some name
text_is strings offset name h = ap text_in h.stands ∙ text_again name h.rest h.text

-- a text that is shorter than the name, or begins otherwise, isn't that of the name
pub other_name : (strings : List ℕ) (offset : ℕ) (own name : List ℕ) → HoldsName strings offset own → ((length name ≤ length (drop offset strings)) → take (length name) (drop offset strings) ≡ name → ⊥) → bytes_eq name own ≡ false
other_name strings offset own name h differs = bytes_eq_other name own (λ same.
    let begins = subst (λ x. (length x ≤ length (drop offset strings)) × (take (length x) (drop offset strings) ≡ x)) (sym same) (begins_so strings offset own h) in
    differs begins.0 begins.1)

-- what is found there is the name
pub own_name : (strings : List ℕ) (offset : ℕ) (own text : List ℕ) → HoldsName strings offset own → Some text ≡ text_in (drop offset strings) → text ≡ own
own_name strings offset own text h e = let z : Some text ≡ Some own = e ∙ text_is strings offset own h in cc
