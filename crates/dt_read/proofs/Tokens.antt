-- The token at the front of some bytes is the one that they spell, and there is no other.
use Rattle.std.proofs.Common.{◌⊎◌, ◌≡◌, ◌≢◌, ℕ, zero, suc, ◌+◌, ◌≤◌, Bool, true, false, cond, List, [], ◌∷◌, ◌++◌, length, take, drop, Option, Some, None, refl, sym, ap, subst, ◌∙◌, append_assoc, arith, inl, inr}
use Rattle.std.specs.Option.{option_map, IfSome}
use Rattle.std.proofs.lemmas.Bool.{eqb-true}
use Rattle.std.proofs.Math.Dec.{eqb}
use Rattle.std.proofs.lemmas.List.{take_at, take-append-drop, length-append, length-take, length-drop}
use Rattle.dt_model.specs.Format.{Token, begin_node, end_node, prop, nop, end_tree, word, word_at, IsText, IsPadded, SpellsProperty, Spells}
use Rattle.dt_model.specs.Lexing.{◌>>=◌, padded, padded_token, text_in, begin_in, property_in, token_in}
use Rattle.dt_read.specs.declared.token.Token.{Token as CodeToken}
use Rattle.dt_read.specs.View.{view}
use Rattle.dt_read.specs.Marks.{Takes}
use Rattle.dt_read.proofs.Numbers.{IsBytes, bind_some, number_takes, whole_takes, IsPadded-front}

-- ---- texts

map_some : {A B : Type 0} (f : A → B) (o : Option A) (y : B) → option_map f o ≡ Some y → (x : A) × (o ≡ Some x) × (f x ≡ y)
map_some f None y e = absurd cc
map_some f (Some x) y e = (x, refl, cc)

positive : (byte : ℕ) → suc byte ≢ 0
positive byte e = omega arith

pub text_takes : (bytes name : List ℕ) → text_in bytes ≡ Some name → (rest : List ℕ) × (bytes ≡ name ++ 0 ∷ rest) × IsText name
text_takes [] name e = absurd cc
text_takes (zero ∷ bytes) name e = let empty : [] ≡ name = cc in (bytes, rw (← empty) refl, subst IsText empty tt)
text_takes (suc byte ∷ bytes) name e =
    let m = map_some (λ (text : List ℕ). suc byte ∷ text) (text_in bytes) name e in
    let h = text_takes bytes m.0 m.1 in
    (h.0, ap (λ (x : List ℕ). suc byte ∷ x) h.1 ∙ ap (λ (x : List ℕ). x ++ 0 ∷ h.0) m.2, subst IsText m.2 (positive byte, h.2))

-- ---- what is read is spelled

pub chosen : {A : Type 0} (b : Bool) (x y z : A) → cond b x y ≡ z → ((b ≡ true) × (x ≡ z)) ⊎ ((b ≡ false) × (y ≡ z))
chosen true x y z e = inl (refl, e)
chosen false x y z e = inr (refl, e)

pub token_is : (token : Token) (n : ℕ) (s : Token) (m : ℕ) → ◌≡◌ {A = Token × ℕ} (token, n) (s, m) → (token ≡ s) × (n ≡ m)
token_is token n s m e = (ap (λ (p : Token × ℕ). p.0) e, ap (λ (p : Token × ℕ). p.1) e)

begin_takes : (strings : List ℕ) (bytes : List ℕ) (token : Token) (n : ℕ) → bytes ≡ word 1 ++ drop 4 bytes → begin_in bytes ≡ Some (token, n) → Takes strings bytes token n
unfolding begin_in
begin_takes strings bytes token n tag e =
    let b = bind_some (text_in (drop 4 bytes)) (λ name. padded_token (4 + length name + 1) bytes (begin_node name)) (token, n) e in
    let t = text_takes (drop 4 bytes) b.0 b.1 in
    let w = whole_takes (4 + length b.0 + 1) bytes (begin_node b.0) (token, n) b.2 in
    let same = token_is (begin_node b.0) (padded (4 + length b.0 + 1)) token n w.1 in
    let content : bytes ≡ (word 1 ++ (b.0 ++ 0 ∷ [])) ++ t.0 = tag ∙ ap (λ (x : List ℕ). word 1 ++ x) (t.1 ∙ sym (append_assoc b.0 (0 ∷ []) t.0)) in
    let len : length (word 1 ++ (b.0 ++ 0 ∷ [])) ≡ 4 + length b.0 + 1 = omega (arith, length-append (word 1) (b.0 ++ 0 ∷ []), length-append b.0 (0 ∷ [])) in
    let n-is : padded (length (word 1 ++ (b.0 ++ 0 ∷ []))) ≡ n = ap padded len ∙ same.1 in
    let within : n ≤ length bytes = rw (← same.1) w.0 in
    record {
      spelled = subst (λ (s : Token). Spells strings s (take n bytes)) same.0 (record { text = t.2; bytes = IsPadded-front (word 1 ++ (b.0 ++ 0 ∷ [])) t.0 bytes n content n-is within });
      within = within;
      positive = let m = same.1 in omega arith;
    }

property_takes : (strings : List ℕ) (bytes : List ℕ) (token : Token) (n : ℕ) → IsBytes bytes → bytes ≡ word 3 ++ drop 4 bytes → property_in strings bytes ≡ Some (token, n) → Takes strings bytes token n
unfolding property_in
property_takes strings bytes token n fits tag e =
    let b = bind_some (word_at bytes 4) (λ value_len. word_at bytes 8 >>= λ offset. text_in (drop offset strings) >>= λ name. padded_token (12 + value_len) bytes (prop (record { name = name; value = take value_len (drop 12 bytes) }))) (token, n) e in
    let c = bind_some (word_at bytes 8) (λ offset. text_in (drop offset strings) >>= λ name. padded_token (12 + b.0) bytes (prop (record { name = name; value = take b.0 (drop 12 bytes) }))) (token, n) b.2 in
    let d = bind_some (text_in (drop c.0 strings)) (λ name. padded_token (12 + b.0) bytes (prop (record { name = name; value = take b.0 (drop 12 bytes) }))) (token, n) c.2 in
    let value = take b.0 (drop 12 bytes) in
    let w = whole_takes (12 + b.0) bytes (prop (record { name = d.0; value = value })) (token, n) d.2 in
    let same = token_is (prop (record { name = d.0; value = value })) (padded (12 + b.0)) token n w.1 in
    let first = number_takes 4 bytes b.0 fits b.1 in
    let second = number_takes 8 bytes c.0 fits c.1 in
    let text = text_takes (drop c.0 strings) d.0 d.1 in
    let within : n ≤ length bytes = rw (← same.1) w.0 in
    let w0 = w.0 in
    let value_len : length value ≡ b.0 = omega (arith, length-take b.0 (drop 12 bytes), length-drop 12 bytes) in
    let rest : List ℕ = drop b.0 (drop 12 bytes) in
    let content : bytes ≡ (word 3 ++ (word b.0 ++ (word c.0 ++ value))) ++ rest =
    tag ∙ ap (λ (x : List ℕ). word 3 ++ x) (first.0 ∙ ap (λ (x : List ℕ). word b.0 ++ x) (second.0 ∙ ap (λ (x : List ℕ). word c.0 ++ x) (sym (take-append-drop b.0 (drop 12 bytes))))) in
    let len : length (word 3 ++ (word b.0 ++ (word c.0 ++ value))) ≡ 12 + b.0 = omega (arith, length-append (word 3) (word b.0 ++ (word c.0 ++ value)), length-append (word b.0) (word c.0 ++ value), length-append (word c.0) value) in
    let n-is : padded (length (word 3 ++ (word b.0 ++ (word c.0 ++ value)))) ≡ n = ap padded len ∙ same.1 in
    let padded_value : IsPadded (word 3 ++ (word b.0 ++ (word c.0 ++ value))) (take n bytes) = IsPadded-front (word 3 ++ (word b.0 ++ (word c.0 ++ value))) rest bytes n content n-is within in
    let spelled : SpellsProperty strings (record { name = d.0; value = value }) (take n bytes) = record {
      offset = c.0;
      offset_fits = second.1;
      length_fits = rw value_len first.1;
      named = record { rest = text.0; stands = text.1; text = text.2 };
      bytes = subst (λ (k : ℕ). IsPadded (word 3 ++ (word k ++ (word c.0 ++ value))) (take n bytes)) (sym value_len) padded_value;
    } in
    record {
      spelled = subst (λ (s : Token). Spells strings s (take n bytes)) same.0 spelled;
      within = within;
      positive = let m = same.1 in omega arith;
    }

single_takes : (strings : List ℕ) (bytes : List ℕ) (tag : ℕ) (s token : Token) (n : ℕ) → Spells strings s (word tag) → 4 ≤ length bytes → bytes ≡ word tag ++ drop 4 bytes → ◌≡◌ {A = Option (Token × ℕ)} (Some (s, 4)) (Some (token, n)) → Takes strings bytes token n
single_takes strings bytes tag s token n spelled long front e =
    let same_pair : ◌≡◌ {A = Token × ℕ} (s, 4) (token, n) = cc in
    let same = token_is s 4 token n same_pair in
    let here : take 4 bytes ≡ word tag = ap (take 4) front ∙ take_at (word tag) (drop 4 bytes) 4 refl in
    let four : Takes strings bytes s 4 = record { spelled = subst (λ (x : List ℕ). Spells strings s x) (sym here) spelled; within = long; positive = omega arith } in
    subst (λ (p : Token × ℕ). Takes strings bytes p.0 p.1) same_pair four

pub token_takes : (strings : List ℕ) (bytes : List ℕ) (token : Token) (n : ℕ) → IsBytes bytes → token_in strings bytes ≡ Some (token, n) → Takes strings bytes token n
unfolding token_in
token_takes strings bytes token n fits e =
    let b = bind_some (word_at bytes 0) _ (token, n) e in
    let t = number_takes 0 bytes b.0 fits b.1 in
    let long = t.2 in
    elim (chosen (eqb b.0 1) _ _ _ b.2) [
      | inl one ↦ begin_takes strings bytes token n (t.0 ∙ ap (λ (k : ℕ). word k ++ drop 4 bytes) (eqb-true b.0 1 one.0)) one.1
      | inr not1 ↦ elim (chosen (eqb b.0 2) _ _ _ not1.1) [
        | inl two ↦ single_takes strings bytes 2 end_node token n refl long (t.0 ∙ ap (λ (k : ℕ). word k ++ drop 4 bytes) (eqb-true b.0 2 two.0)) two.1
        | inr not2 ↦ elim (chosen (eqb b.0 3) _ _ _ not2.1) [
          | inl three ↦ property_takes strings bytes token n fits (t.0 ∙ ap (λ (k : ℕ). word k ++ drop 4 bytes) (eqb-true b.0 3 three.0)) three.1
          | inr not3 ↦ elim (chosen (eqb b.0 4) _ _ _ not3.1) [
            | inl four ↦ single_takes strings bytes 4 nop token n refl long (t.0 ∙ ap (λ (k : ℕ). word k ++ drop 4 bytes) (eqb-true b.0 4 four.0)) four.1
            | inr not4 ↦ elim (chosen (eqb b.0 9) _ _ _ not4.1) [
              | inl nine ↦ single_takes strings bytes 9 end_tree token n refl long (t.0 ∙ ap (λ (k : ℕ). word k ++ drop 4 bytes) (eqb-true b.0 9 nine.0)) nine.1
              | inr none ↦ absurd cc
            ]
          ]
        ]
      ]
    ]

pub found_takes : (strings : List ℕ) (bytes : List ℕ) (result : Option (CodeToken × ℕ)) → IsBytes bytes → option_map (λ r. (view r.0, r.1)) result ≡ token_in strings bytes → IfSome result (λ r. Takes strings bytes (view r.0) r.1)
found_takes strings bytes None fits e = tt
found_takes strings bytes (Some r) fits e = token_takes strings bytes (view r.0) r.1 fits (sym e)
