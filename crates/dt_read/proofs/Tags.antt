-- The tag at the front of some bytes is that of the token there.
use Rattle.std.proofs.Common.{◌≡◌, ℕ, ◌+◌, ◌≤◌, ◌==◌, List, [], length, take, drop, Option, Some, None, refl, sym, ap, subst, ◌∙◌}
use Rattle.std.specs.Prelude.{if◌then◌else◌}
use Rattle.std.specs.Option.{IfSome}
use Rattle.dt_model.specs.Format.{Token, begin_node, end_node, nop, end_tree, prop, word_at}
use Rattle.dt_model.specs.Tree.{Property}
use Rattle.dt_model.specs.Lexing.{◌>>=◌, padded, text_in, begin_in, property_in, token_in}
use Rattle.dt_read.proofs.Numbers.{bind_some, whole_takes}

-- what holds of what is there
if_there : {A : Type 0} (P : A → Type 0) (o : Option A) → ((x : A) → o ≡ Some x → P x) → IfSome o P
if_there P None h = tt
if_there P (Some x) h = h x refl

abbrev pub any_property : Property
any_property = record { name = []; value = [] }

-- the size of a property's value is at 4, and its token is within the bytes
pub of_property : (strings bytes : List ℕ) (P : Token × ℕ → Type 0)
    → ((name : List ℕ) (size : ℕ) → word_at bytes 4 ≡ Some size → padded (12 + size) ≤ length bytes → P (prop (record { name = name; value = take size (drop 12 bytes) }), padded (12 + size)))
    → IfSome (property_in strings bytes) P
unfolding property_in
of_property strings bytes P h = if_there P (property_in strings bytes) read
  where
    read : (token : Token × ℕ) → property_in strings bytes ≡ Some token → P token
    read token e =
        let b = bind_some (word_at bytes 4) _ token e in
        let c = bind_some (word_at bytes 8) _ token b.2 in
        let d = bind_some (text_in (drop c.0 strings)) _ token c.2 in
        let w = whole_takes (12 + b.0) bytes (prop (record { name = d.0; value = take b.0 (drop 12 bytes) })) token d.2 in
        subst P w.1 (h d.0 b.0 b.1 w.0)

-- what begins a node is its BEGIN_NODE
pub of_begin : (bytes : List ℕ) → IfSome (begin_in bytes) (λ r. (name : List ℕ) × (r.0 ≡ begin_node name))
unfolding begin_in
of_begin bytes = if_there _ (begin_in bytes) read
  where
    read : (token : Token × ℕ) → begin_in bytes ≡ Some token → (name : List ℕ) × (token.0 ≡ begin_node name)
    read token e =
        let b = bind_some (text_in (drop 4 bytes)) _ token e in
        let w = whole_takes (4 + length b.0 + 1) bytes (begin_node b.0) token b.2 in
        (b.0, sym (ap (λ (t : Token × ℕ). t.0) w.1))

-- ---- by the number at the front

abbrev token_of_number : List ℕ → List ℕ → ℕ → Option (Token × ℕ)
token_of_number strings bytes tag =
    if tag == 1 then begin_in bytes
    else if tag == 2 then Some (end_node, 4)
    else if tag == 3 then property_in strings bytes
    else if tag == 4 then Some (nop, 4)
    else if tag == 9 then Some (end_tree, 4)
    else None

pub of_number : (strings bytes : List ℕ) (tag : ℕ) (token : Option (Token × ℕ)) (P : Token × ℕ → Type 0) → word_at bytes 0 ≡ Some tag → token_of_number strings bytes tag ≡ token → IfSome token P → IfSome (token_in strings bytes) P
unfolding token_in
of_number strings bytes tag token P e is h = subst (λ (o : Option (Token × ℕ)). IfSome o P) (sym (ap (λ (w : Option ℕ). w >>= token_of_number strings bytes) e ∙ is)) h

pub of_no_number : (strings bytes : List ℕ) (P : Token × ℕ → Type 0) → word_at bytes 0 ≡ None → IfSome (token_in strings bytes) P
unfolding token_in
of_no_number strings bytes P e = subst (λ (o : Option (Token × ℕ)). IfSome o P) (sym (ap (λ (w : Option ℕ). w >>= token_of_number strings bytes) e)) tt
