-- A token that stands at the front of some bytes, and may stand there, has no fault.
use Rattle.std.proofs.Common.{◌≡◌, ℕ, ◌+◌, Bool, true, false, not, ◌&&◌, ◌||◌, List, length, take, drop, Option, Some, None, nat_eq, if◌then◌else◌, refl, ap, ◌∙◌}
use Rattle.dt_model.specs.Names.{Name, is_property_name}
use Rattle.dt_model.specs.Format.{Token, begin_node, end_node, prop, nop, end_tree, word_at}
use Rattle.dt_model.specs.Lexing.{◌>>=◌, padded, text_in, padded_token, begin_in, property_in, token_in}
use Rattle.dt_model.specs.Checks.{structure_cut, bad_nesting, bad_name, over_limit, late_property, bad_tag, Position, may_be_called, has_room, is_behind, lead, fits, begin_fault, name_fault, property_fault, end_fault, tag_fault, token_fault}

-- a token with the number of bytes that it takes
abbrev sized : Token → ℕ → Option (Token × ℕ)
sized token n = Some (token, n)

-- a token that is given is that of the branch that gives one
given_token : (b : Bool) (own token : Token) (m n : ℕ) → (if b then sized own m else None) ≡ Some (token, n) → (b ≡ true) × (own ≡ token)
given_token true own token m n e = let pair : ◌≡◌ {A = Token × ℕ} (own, m) (token, n) = cc in (refl, ap (λ (x : Token × ℕ). x.0) pair)
given_token false own token m n e = absurd cc

-- BEGIN_NODE: where its tests let it lead on, none of them is a fault
begin_clear : (behind called room : Bool) (x q : Position) → (if behind || not (called && room) then None else Some x) ≡ Some q → (if behind then Some bad_nesting else if not called then Some bad_name else if not room then Some over_limit else None) ≡ None
begin_clear true called room x q e = absurd cc
begin_clear false true true x q e = refl
begin_clear false true false x q e = absurd cc
begin_clear false false room x q e = absurd cc

begin_fine : (p q : Position) (rest : List ℕ) (text : Option Name) (token : Token) (n : ℕ) → (text >>= λ name. padded_token (4 + length name + 1) rest (begin_node name)) ≡ Some (token, n) → lead token p ≡ Some q → begin_fault p rest text ≡ None
begin_fine p q rest None token n e l = absurd cc
begin_fine p q rest (Some name) token n e l =
    let given = given_token (fits rest (4 + length name + 1)) (begin_node name) token (padded (4 + length name + 1)) n e in
    let led : lead (begin_node name) p ≡ Some q = ap (λ (t : Token). lead t p) given.1 ∙ l in
    ap (λ (b : Bool). if not b then Some structure_cut else if is_behind p then Some bad_nesting else if not (may_be_called p name) then Some bad_name else if not (has_room p) then Some over_limit else None) given.0
    ∙ begin_clear (is_behind p) (may_be_called p name) (has_room p) _ q led

-- PROP: the same
property_clear : (root late called : Bool) (p q : Position) → (if root || late || not called then None else Some p) ≡ Some q → (if root then Some bad_nesting else if late then Some late_property else if called then None else Some bad_name) ≡ None
property_clear true late called p q e = absurd cc
property_clear false true called p q e = absurd cc
property_clear false false true p q e = refl
property_clear false false false p q e = absurd cc

property_fine : (strings : List ℕ) (p q : Position) (rest : List ℕ) (size offset : Option ℕ) (token : Token) (n : ℕ)
    → (size >>= λ size. offset >>= λ offset. text_in (drop offset strings) >>= λ name. padded_token (12 + size) rest (prop (record { name = name; value = take size (drop 12 rest) }))) ≡ Some (token, n)
    → lead token p ≡ Some q → property_fault strings p rest size offset ≡ None
property_fine strings p q rest None offset token n e l = absurd cc
property_fine strings p q rest (Some size) None token n e l = absurd cc
property_fine strings p q rest (Some size) (Some offset) token n e l = by_name (text_in (drop offset strings)) e
  where
    by_name : (name : Option Name) → (name >>= λ name. padded_token (12 + size) rest (prop (record { name = name; value = take size (drop 12 rest) }))) ≡ Some (token, n)
        → (if not (fits rest (12 + size)) then Some structure_cut else if nat_eq p.depth 0 then Some bad_nesting else if p.late then Some late_property else name_fault name) ≡ None
    by_name None e = absurd cc
    by_name (Some name) e =
        let given = given_token (fits rest (12 + size)) (prop (record { name = name; value = take size (drop 12 rest) })) token (padded (12 + size)) n e in
        let led : lead (prop (record { name = name; value = take size (drop 12 rest) })) p ≡ Some q = ap (λ (t : Token). lead t p) given.1 ∙ l in
        ap (λ (b : Bool). if not b then Some structure_cut else if nat_eq p.depth 0 then Some bad_nesting else if p.late then Some late_property else name_fault (Some name)) given.0
        ∙ property_clear (nat_eq p.depth 0) p.late (is_property_name name) p q led

-- END_NODE: the same
end_node_clear : (root : Bool) (x q : Position) → (if root then None else Some x) ≡ Some q → (if root then Some bad_nesting else None) ≡ None
end_node_clear true x q e = absurd cc
end_node_clear false x q e = refl

same_token : (own token : Token) (m n : ℕ) → sized own m ≡ Some (token, n) → own ≡ token
same_token own token m n e = (given_token true own token m n e).1

-- by cases of the tag, and for each of them of its tests
pub no_fault : (strings : List ℕ) (p q : Position) (rest : List ℕ) (token : Token) (n : ℕ) → token_in strings rest ≡ Some (token, n) → lead token p ≡ Some q → token_fault strings p rest ≡ None
unfolding token_in begin_in property_in
no_fault strings p q rest token n e l = by_tag (word_at rest 0) e
  where
    by_tests : (one two three four nine : Bool)
        → (if one then begin_in rest else if two then sized end_node 4 else if three then property_in strings rest else if four then sized nop 4 else if nine then sized end_tree 4 else None) ≡ Some (token, n)
        → (if one then begin_fault p rest (text_in (drop 4 rest)) else if two then (if nat_eq p.depth 0 then Some bad_nesting else None) else if three then property_fault strings p rest (word_at rest 4) (word_at rest 8) else if four then None else if nine then end_fault p rest else Some bad_tag) ≡ None
    by_tests true two three four nine e = begin_fine p q rest (text_in (drop 4 rest)) token n e l
    by_tests false true three four nine e = end_node_clear (nat_eq p.depth 0) _ q (ap (λ (t : Token). lead t p) (same_token end_node token 4 n e) ∙ l)
    by_tests false false true four nine e = property_fine strings p q rest (word_at rest 4) (word_at rest 8) token n e l
    by_tests false false false true nine e = refl
    by_tests false false false false true e = let none : lead end_tree p ≡ Some q = ap (λ (t : Token). lead t p) (same_token end_tree token 4 n e) ∙ l in absurd cc
    by_tests false false false false false e = absurd cc

    by_tag : (tag : Option ℕ) → (tag >>= λ tag. if nat_eq tag 1 then begin_in rest else if nat_eq tag 2 then sized end_node 4 else if nat_eq tag 3 then property_in strings rest else if nat_eq tag 4 then sized nop 4 else if nat_eq tag 9 then sized end_tree 4 else None) ≡ Some (token, n) → tag_fault strings p rest tag ≡ None
    by_tag None e = absurd cc
    by_tag (Some tag) e = by_tests (nat_eq tag 1) (nat_eq tag 2) (nat_eq tag 3) (nat_eq tag 4) (nat_eq tag 9) e
