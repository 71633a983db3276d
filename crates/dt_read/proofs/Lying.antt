-- Where tokens, names and values lie in the bytes of a blob.
use Rattle.std.proofs.Common.{◌≡◌, ◌≢◌, ℕ, zero, suc, ◌+◌, ◌-◌, ◌≤◌, Bool, true, false, cond, List, ◌∷◌, [], ◌++◌, length, take, drop, Option, Some, None, refl, sym, ap, subst, ◌∙◌, append_assoc, arith}
use Rattle.std.proofs.lemmas.List.{length-append, length-drop, length-take-le, drop_at, take_at, drop-drop, drop-take, take-append-drop}
use Rattle.std.proofs.Math.Seq.{take-add}
use Rattle.std.specs.Prelude.{unwrap_or}
use Rattle.std.specs.List.{slice_get}
use Rattle.dt_model.specs.Checks.{number}
use Rattle.dt_model.specs.Names.{Name}
use Rattle.std.specs.Option.{MatchOption}
use Rattle.std.specs.Str.{bytes_eq}
use Rattle.dt_model.specs.Tree.{Property, value_of}
use Rattle.dt_model.specs.Format.{Token, part, word, word_at, begin_node, prop}
use Rattle.dt_model.proofs.Words.{word_again, word_value}
use Rattle.dt_read.specs.Marks.{Mark, prop_mark, Takes}
use Rattle.dt_read.specs.Lying.{Lies, LiesIn, IsLater, TokenLies}
use Rattle.dt_read.specs.declared.spans.Span.{Span}
use Rattle.dt_read.specs.Parsing.{left_by}

-- ---- places that come later

pub later_first : (at : ℕ) (bytes : List ℕ) → IsLater at bytes at bytes
later_first at bytes = let none : at - at ≡ 0 = omega arith in record { from = omega arith; within = omega arith; is = sym (ap (λ (n : ℕ). drop n bytes) none) }

pub later_still : (at : ℕ) (bytes : List ℕ) (here : ℕ) (left : List ℕ) (n : ℕ) → IsLater at bytes here left → n ≤ length left → IsLater at bytes (here + n) (drop n left)
later_still at bytes here left n l fits =
    let from = l.from in
    let within = l.within in
    let len : length left ≡ length bytes - (here - at) = ap length l.is ∙ length-drop (here - at) bytes in
    let on : here + n - at ≡ here - at + n = omega arith in
    record {
      from = omega arith;
      within = omega arith;
      is = ap (drop n) l.is ∙ drop-drop n (here - at) bytes ∙ sym (ap (λ (k : ℕ). drop k bytes) on);
    }

-- ---- what a token holds

-- words are variables here: written out, they would compute to single bytes
value_behind : (w v o value padding more : List ℕ) → length w ≡ 4 → length v ≡ 4 → length o ≡ 4 → take (length value) (drop 12 (((w ++ (v ++ (o ++ value))) ++ padding) ++ more)) ≡ value
value_behind w v o value padding more w4 v4 o4 =
    let regroup : ((w ++ (v ++ (o ++ value))) ++ padding) ++ more ≡ (w ++ (v ++ o)) ++ (value ++ (padding ++ more)) = simp append_assoc in
    let twelve : length (w ++ (v ++ o)) ≡ 12 = omega (arith, length-append w (v ++ o), length-append v o) in
    ap (λ (x : List ℕ). take (length value) (drop 12 x)) regroup ∙ ap (take (length value)) (drop_at (w ++ (v ++ o)) (value ++ (padding ++ more)) 12 twelve) ∙ take_at value (padding ++ more) (length value) refl

name_behind : (w name padding more : List ℕ) → length w ≡ 4 → take (length name) (drop 4 (((w ++ (name ++ 0 ∷ [])) ++ padding) ++ more)) ≡ name
name_behind w name padding more w4 =
    let regroup : ((w ++ (name ++ 0 ∷ [])) ++ padding) ++ more ≡ w ++ (name ++ (0 ∷ (padding ++ more))) = simp append_assoc in
    ap (λ (x : List ℕ). take (length name) (drop 4 x)) regroup ∙ ap (take (length name)) (drop_at w (name ++ (0 ∷ (padding ++ more))) 4 w4) ∙ take_at name (0 ∷ (padding ++ more)) (length name) refl

-- the bytes of a property's token have its value behind three words
pub property_holds : (strings bytes : List ℕ) (p : Property) (n : ℕ) → Takes strings bytes (prop p) n → (12 + length p.value ≤ length bytes) × (take (length p.value) (drop 12 bytes) ≡ p.value)
property_holds strings bytes p n t =
    let s = t.spelled in
    let own = take n bytes in
    let content = word 3 ++ (word (length p.value) ++ (word s.offset ++ p.value)) in
    let whole : bytes ≡ (content ++ s.bytes.padding) ++ drop n bytes = sym (take-append-drop n bytes) ∙ ap (λ (x : List ℕ). x ++ drop n bytes) s.bytes.whole in
    let size = ap length whole in
    let l = length-append (content ++ s.bytes.padding) (drop n bytes) in
    let m = length-append content s.bytes.padding in
    let k : length content ≡ 12 + length p.value = omega (arith, length-append (word 3) (word (length p.value) ++ (word s.offset ++ p.value)), length-append (word (length p.value)) (word s.offset ++ p.value), length-append (word s.offset) p.value) in
    (omega arith, ap (λ (x : List ℕ). take (length p.value) (drop 12 x)) whole ∙ value_behind (word 3) (word (length p.value)) (word s.offset) p.value s.bytes.padding (drop n bytes) refl refl refl)

-- the bytes of BEGIN_NODE have the name behind a word
pub begin_holds : (strings bytes : List ℕ) (name : Name) (n : ℕ) → Takes strings bytes (begin_node name) n → (4 + length name ≤ length bytes) × (take (length name) (drop 4 bytes) ≡ name)
begin_holds strings bytes name n t =
    let s = t.spelled in
    let content = word 1 ++ (name ++ 0 ∷ []) in
    let whole : bytes ≡ (content ++ s.bytes.padding) ++ drop n bytes = sym (take-append-drop n bytes) ∙ ap (λ (x : List ℕ). x ++ drop n bytes) s.bytes.whole in
    let size = ap length whole in
    let l = length-append (content ++ s.bytes.padding) (drop n bytes) in
    let m = length-append content s.bytes.padding in
    let k : length content ≡ 5 + length name = omega (arith, length-append (word 1) (name ++ 0 ∷ []), length-append name (0 ∷ [])) in
    (omega arith, ap (λ (x : List ℕ). take (length name) (drop 4 x)) whole ∙ name_behind (word 1) name s.bytes.padding (drop n bytes) refl)

-- ---- tokens

pub later_trans : (at : ℕ) (bytes : List ℕ) (here : ℕ) (left : List ℕ) (there : ℕ) (own : List ℕ) → IsLater at bytes here left → IsLater here left there own → IsLater at bytes there own
later_trans at bytes here left there own a b =
    let a1 = a.from in
    let a2 = a.within in
    let b1 = b.from in
    let b2 = b.within in
    let len : length left ≡ length bytes - (here - at) = ap length a.is ∙ length-drop (here - at) bytes in
    let on : here - at + (there - here) ≡ there - at = omega arith in
    record {
      from = omega arith;
      within = omega arith;
      is = b.is ∙ ap (drop (there - here)) a.is ∙ drop-drop (there - here) (here - at) bytes ∙ ap (λ (k : ℕ). drop k bytes) on;
    }

pub token_later : (strings : List ℕ) (at : ℕ) (bytes : List ℕ) (here : ℕ) (left : List ℕ) (there : ℕ) (token : Token) (next : ℕ) (rest : List ℕ) → IsLater at bytes here left → TokenLies strings here left there token next rest
    → TokenLies strings at bytes there token next rest
token_later strings at bytes here left there token next rest l t =
    record { own = t.own; later = later_trans at bytes here left there t.own l t.later; size = t.size; takes = t.takes; behind = t.behind; left = t.left }

pub behind_later : (strings : List ℕ) (at : ℕ) (bytes : List ℕ) (here : ℕ) (token : Token) (next : ℕ) (rest : List ℕ) → TokenLies strings at bytes here token next rest → IsLater at bytes next rest
behind_later strings at bytes here token next rest t =
    subst (λ (n : ℕ). IsLater at bytes n rest) (sym t.behind) (subst (IsLater at bytes (here + t.size)) (sym t.left) (later_still at bytes here t.own t.size t.later t.takes.within))

-- so many bytes behind a place
lies_behind : (at : ℕ) (bytes : List ℕ) (here : ℕ) (own : List ℕ) (n : ℕ) (value : List ℕ) → IsLater at bytes here own → n + length value ≤ length own → take (length value) (drop n own) ≡ value
    → LiesIn at bytes (record { at = here + n; len = length value }) value
lies_behind at bytes here own n value l fits is =
    let on = later_still at bytes here own n l (omega arith) in
    let from = on.from in
    let within = l.within in
    let a = l.from in
    let len : length own ≡ length bytes - (here - at) = ap length l.is ∙ length-drop (here - at) bytes in
    record {
      from = on.from;
      inside = omega arith;
      is = ap (take (length value)) (sym on.is) ∙ is;
    }

pub value_lies : (strings : List ℕ) (at : ℕ) (bytes : List ℕ) (here : ℕ) (token : Token) (next : ℕ) (rest : List ℕ) (p : Property) → token ≡ prop p → TokenLies strings at bytes here token next rest
    → LiesIn at bytes (record { at = here + 12; len = length p.value }) p.value
value_lies strings at bytes here token next rest p e t =
    let h = property_holds strings t.own p t.size (subst (λ (k : Token). Takes strings t.own k t.size) e t.takes) in
    lies_behind at bytes here t.own 12 p.value t.later h.0 h.1

-- ---- properties

pub properties_next : (marks later : List Mark) (p : Property) → marks ≡ prop_mark p ∷ later → (left_by marks).properties ≡ p ∷ (left_by later).properties
properties_next marks later p e = ap (λ (m : List Mark). (left_by m).properties) e

pub value_first : (ps later : List Property) (p : Property) (name : Name) → ps ≡ p ∷ later → bytes_eq name p.name ≡ true → value_of ps name ≡ Some p.value
value_first ps later p name e test = ap (λ (x : List Property). value_of x name) e ∙ ap (λ (b : Bool). cond b (Some p.value) (value_of later name)) test

pub value_later : (ps later : List Property) (p : Property) (name : Name) → ps ≡ p ∷ later → bytes_eq name p.name ≡ false → value_of ps name ≡ value_of later name
value_later ps later p name e test = ap (λ (x : List Property). value_of x name) e ∙ ap (λ (b : Bool). cond b (Some p.value) (value_of later name)) test

pub begin_lies : (strings : List ℕ) (at : ℕ) (bytes : List ℕ) (here : ℕ) (token : Token) (next : ℕ) (rest : List ℕ) (name : Name) → token ≡ begin_node name → TokenLies strings at bytes here token next rest
    → LiesIn at bytes (record { at = here + 4; len = length name }) name
begin_lies strings at bytes here token next rest name e t =
    let h = begin_holds strings t.own name t.size (subst (λ (k : Token). Takes strings t.own k t.size) e t.takes) in
    lies_behind at bytes here t.own 4 name t.later h.0 h.1

-- ---- the whole blob

take_fewer : (n m : ℕ) (xs : List ℕ) → n ≤ m → m ≤ length xs → take n (take m xs) ≡ take n xs
take_fewer n m xs le fits =
    let split : m ≡ n + (m - n) = omega arith in
    ap (λ (k : ℕ). take n (take k xs)) split ∙ ap (take n) (take-add n (m - n) xs) ∙ take_at (take n xs) (take (m - n) (drop n xs)) n (length-take-le n xs (omega arith))

-- what lies in bytes of a blob lies in the blob
pub lies_in_blob : (bytes : List ℕ) (at : ℕ) (left : List ℕ) (span : Span) (own : List ℕ) → at + length left ≤ length bytes → left ≡ part at (length left) bytes → LiesIn at left span own → Lies bytes span own
lies_in_blob bytes at left span own inside front l =
    let from = l.from in
    let fits = l.inside in
    let k = span.at - at in
    let n = length left in
    let split : n ≡ k + (n - k) = omega arith in
    let there : at + k ≡ span.at = omega arith in
    let rest : drop k left ≡ take (n - k) (drop span.at bytes) =
    ap (drop k) (front ∙ ap (λ (m : ℕ). take m (drop at bytes)) split) ∙ drop-take k (n - k) (drop at bytes)
    ∙ ap (take (n - k)) (drop-drop k at bytes ∙ ap (λ (m : ℕ). drop m bytes) there) in
    record {
      inside = omega arith;
      is = sym (take_fewer span.len (n - k) (drop span.at bytes) (omega arith) (omega (arith, length-drop span.at bytes))) ∙ ap (take span.len) (sym rest) ∙ l.is;
    }

-- the rest of a part of a blob is a part of it
pub rest_of_part : (bytes : List ℕ) (at size node : ℕ) (left : List ℕ) → at ≤ node → node - at ≤ size → at + size ≤ length bytes → left ≡ drop (node - at) (part at size bytes)
    → (node + length left ≤ length bytes) × (left ≡ part node (length left) bytes)
rest_of_part bytes at size node left from within inside e =
    let k = node - at in
    let m = size - k in
    let split : size ≡ k + m = omega arith in
    let there : at + k ≡ node = omega arith in
    let is : left ≡ take m (drop node bytes) =
    e ∙ ap (λ (n : ℕ). drop k (take n (drop at bytes))) split ∙ drop-take k m (drop at bytes) ∙ ap (take m) (drop-drop k at bytes ∙ ap (λ (n : ℕ). drop n bytes) there) in
    let len : length left ≡ m = ap length is ∙ length-take-le m (drop node bytes) (omega (arith, length-drop node bytes)) in
    (omega arith, is ∙ ap (λ (n : ℕ). take n (drop node bytes)) (sym len))

pub lies_later : (at : ℕ) (bytes : List ℕ) (here : ℕ) (left : List ℕ) (span : Span) (own : List ℕ) → IsLater at bytes here left → LiesIn here left span own → LiesIn at bytes span own
lies_later at bytes here left span own l s =
    let a = l.from in
    let w = l.within in
    let b = s.from in
    let i = s.inside in
    let len : length left ≡ length bytes - (here - at) = ap length l.is ∙ length-drop (here - at) bytes in
    let on : here - at + (span.at - here) ≡ span.at - at = omega arith in
    record {
      from = omega arith;
      inside = omega arith;
      is = ap (λ (n : ℕ). take span.len (drop n bytes)) (sym on) ∙ ap (take span.len) (sym (drop-drop (span.at - here) (here - at) bytes) ∙ ap (drop (span.at - here)) (sym l.is)) ∙ s.is;
    }

-- what is found in the tokens from a place on is found in the blob
pub found_in_blob : (bytes : List ℕ) (node : ℕ) (left : List ℕ) (here : ℕ) (rest : List ℕ) (seen whole : Option (List ℕ)) (result : Option Span) → seen ≡ whole → IsLater node left here rest
    → node + length left ≤ length bytes → left ≡ part node (length left) bytes
    → MatchOption result (seen ≡ None) (λ span. (value : List ℕ) × (seen ≡ Some value) × LiesIn here rest span value)
    → MatchOption result (whole ≡ None) (λ span. (value : List ℕ) × (whole ≡ Some value) × Lies bytes span value)
found_in_blob bytes node left here rest seen whole None same later inside front none = sym same ∙ none
found_in_blob bytes node left here rest seen whole (Some span) same later inside front found =
    (found.0, sym same ∙ found.1, lies_in_blob bytes node left span found.0 inside front (lies_later node left here rest span found.0 later found.2))

-- ---- the property of a number

-- the bytes of a property's token have the offset of its name behind two words, and there the strings have it
pub property_named : (strings bytes : List ℕ) (p : Property) (n : ℕ) → Takes strings bytes (prop p) n → Lies strings (record { at = number bytes 8; len = length p.name }) p.name
property_named strings bytes p n t =
    let s = t.spelled in
    let padding = s.bytes.padding in
    let whole : bytes ≡ (word 3 ++ word (length p.value)) ++ (word s.offset ++ (p.value ++ (padding ++ drop n bytes))) = sym (take-append-drop n bytes) ∙ ap (λ (x : List ℕ). x ++ drop n bytes) s.bytes.whole
    ∙ five (word 3) (word (length p.value)) (word s.offset) p.value padding (drop n bytes) in
    let second : word_at bytes 8 ≡ Some s.offset = word_again 8 s.offset (word 3 ++ word (length p.value)) (word s.offset) (p.value ++ (padding ++ drop n bytes)) bytes whole refl refl (word_value s.offset s.offset_fits) in
    let offset : number bytes 8 ≡ s.offset = ap (λ (o : Option ℕ). unwrap_or o 0) second in
    let h = s.named in
    let size = ap length h.stands in
    let l = length-append p.name (0 ∷ h.rest) in
    record {
      inside = omega (arith, offset, size, l, length-drop s.offset strings);
      is = ap (λ (k : ℕ). take (length p.name) (drop k strings)) offset ∙ ap (take (length p.name)) h.stands ∙ take_at p.name (0 ∷ h.rest) (length p.name) refl;
    }
  where
    five : (w v o value padding more : List ℕ) → ((w ++ (v ++ (o ++ value))) ++ padding) ++ more ≡ (w ++ v) ++ (o ++ (value ++ (padding ++ more)))
    five w v o value padding more = simp append_assoc

-- the name of a property whose token lies there
pub name_lies : (strings : List ℕ) (at : ℕ) (bytes : List ℕ) (here : ℕ) (token : Token) (next : ℕ) (rest : List ℕ) (p : Property) → token ≡ prop p → TokenLies strings at bytes here token next rest
    → Lies strings (record { at = number (drop (here - at) bytes) 8; len = length p.name }) p.name
name_lies strings at bytes here token next rest p e t =
    subst (λ (own : List ℕ). Lies strings (record { at = number own 8; len = length p.name }) p.name) t.later.is
    (property_named strings t.own p t.size (subst (λ (k : Token). Takes strings t.own k t.size) e t.takes))

pub number_later : (ps later : List Property) (p : Property) (n : ℕ) → ps ≡ p ∷ later → n ≢ 0 → slice_get later (n - 1) ≡ slice_get ps n
number_later ps later p zero e some = absurd (some refl)
number_later ps later p (suc n) e some = let less : suc n - 1 ≡ n = omega arith in ap (slice_get later) less ∙ ap (λ (x : List Property). slice_get x (suc n)) (sym e)

pub number_first : (ps later : List Property) (p : Property) (n : ℕ) → ps ≡ p ∷ later → n ≡ 0 → slice_get ps n ≡ Some p
number_first ps later p n e none = λ i. slice_get (e i) (none i)

-- what lies in the strings of a blob lies in the blob
pub lies_in_strings : (bytes : List ℕ) (at size : ℕ) (span : Span) (own : List ℕ) → at + size ≤ length bytes → Lies (part at size bytes) span own → Lies bytes (record { at = at + span.at; len = span.len }) own
lies_in_strings bytes at size span own fits l =
    let strings = part at size bytes in
    let len : length strings ≡ size = length-take-le size (drop at bytes) (omega (arith, length-drop at bytes)) in
    let inside = l.inside in
    let back : at + span.at - at ≡ span.at = omega arith in
    lies_in_blob bytes at strings (record { at = at + span.at; len = span.len }) own (omega arith) (ap (λ (n : ℕ). take n (drop at bytes)) (sym len))
    (record { from = omega arith; inside = omega arith; is = ap (λ (n : ℕ). take span.len (drop n strings)) back ∙ l.is })
