-- Which numbers are written, and which nodes are keyed, as they are found.
use Rattle.std.proofs.Common.{◌≡◌, ℕ, zero, suc, ◌+◌, ◌<◌, ◌≤◌, ◌↔◌, Bool, true, false, ◌||◌, cond, List, [], ◌∷◌, ◌++◌, length, map, take, drop, get_or, set, Option, Some, None, IsSome, IfSome, refl, sym, ap, ◌∙◌, arith, append_assoc}
use Rattle.std.specs.Prelude.{nat_eq, nat_le, ◌&&◌}
use Rattle.std.specs.Int.{w32, from_be_bytes}
use Rattle.std.specs.Str.{bytes_eq}
use Rattle.std.proofs.lemmas.Slice.Eq.{bytes_eq-Decides}
use Rattle.std.proofs.Math.Bool.{or_assoc}
use Rattle.std.proofs.lemmas.Bool.{or_right, ne_eqb, eq-eqb, leb-true, le-leb}
use Rattle.std.proofs.lemmas.List.{append-nil, drop_all, drop_more, nil_from_length, take_at}
use Rattle.std.specs.Cow.{cow_slice_items}
use Rattle.dt_model.specs.Meaning.{Item, byte, reference, EachReference}
use Rattle.dt_model.specs.Overlay.{inside, outside}
use Rattle.dt_model.specs.Named.{NodeReference, Content, number_of, value_of}
use Rattle.dt_model.specs.NamedOf.{asked, asked_from}
use Rattle.dt_model.specs.Numbering as model
use Rattle.dt_model.specs.Source.{in_range}
use Rattle.dt_model.specs.Valid.{IsPhandle}
use Rattle.dt_source_named_tree.specs.Said.{reference_said, pieces_said, value_said, property_said}
use Rattle.dt_source_named_tree.specs.declared.named.NamedNode.{NamedNode}
use Rattle.dt_source_named_tree.specs.declared.named.NamedPiece.{NamedPiece}
use Rattle.dt_source_named_tree.specs.declared.named.NamedProperty.{NamedProperty}
use Rattle.dt_source_named_tree.specs.declared.named.NamedValue.{NamedValue}
use Rattle.dt_phandle.specs.declared.asked.Asked.{Asked}
use Rattle.dt_phandle.specs.Asking.{asked_said, content_said, own, keyed_too, is_to, is_in_value, is_in_nodes}

-- ---- the number that a value writes

-- a value with a reference writes none
no_number : (before : List ℕ) (k : NodeReference) (rest : List (Item NodeReference)) → number_of (map byte before ++ reference k ∷ rest) ≡ None
no_number [] k rest = refl
no_number (a ∷ []) k rest = refl
no_number (a ∷ b ∷ []) k rest = refl
no_number (a ∷ b ∷ c ∷ []) k rest = refl
no_number (a ∷ b ∷ c ∷ d ∷ []) k rest = refl
no_number (a ∷ b ∷ c ∷ d ∷ e ∷ before) k rest = refl

pub no_number_behind : (pieces : List NamedPiece) (bytes : List ℕ) → 0 < length pieces → number_of (pieces_said pieces ++ map byte bytes) ≡ None
no_number_behind [] bytes some = absurd (omega arith)
no_number_behind (p ∷ ps) bytes some =
    ap number_of (append_assoc (map byte (cow_slice_items p.before)) (reference (reference_said p.reference) ∷ pieces_said ps) (map byte bytes))
    ∙ no_number (cow_slice_items p.before) (reference_said p.reference) (pieces_said ps ++ map byte bytes)

in_range_is : (n : ℕ) → 1 ≤ n → n ≤ 0xfffffffe → in_range n ≡ Some n
in_range_is n low high = λ i. cond (le-leb 1 n low i && le-leb n 0xfffffffe high i) (Some n) None

out_of_range : (n : ℕ) → (1 ≤ n → n ≤ 0xfffffffe → ⊥) → in_range n ≡ None
out_of_range n not = by (nat_le 1 n) (nat_le n 0xfffffffe) refl refl
  where
    by : (a b : Bool) → nat_le 1 n ≡ a → nat_le n 0xfffffffe ≡ b → cond (a && b) (Some n) None ≡ None
    by false b e d = refl
    by true false e d = refl
    by true true e d = absurd (not (leb-true 1 n e) (leb-true n 0xfffffffe d))

written_number : (bytes : List ℕ) → IsPhandle bytes → number_of {R = NodeReference} (map byte bytes) ≡ Some (from_be_bytes w32 bytes)
written_number [] h = absurd (omega (arith, h.four))
written_number (a ∷ []) h = absurd (omega (arith, h.four))
written_number (a ∷ b ∷ []) h = absurd (omega (arith, h.four))
written_number (a ∷ b ∷ c ∷ []) h = absurd (omega (arith, h.four))
written_number (a ∷ b ∷ c ∷ d ∷ []) h = in_range_is (from_be_bytes w32 (a ∷ b ∷ c ∷ d ∷ [])) h.low h.high
written_number (a ∷ b ∷ c ∷ d ∷ e ∷ bytes) h = absurd (omega (arith, h.four))

unwritten_number : (bytes : List ℕ) → (IsPhandle bytes → ⊥) → number_of {R = NodeReference} (map byte bytes) ≡ None
unwritten_number [] not = refl
unwritten_number (a ∷ []) not = refl
unwritten_number (a ∷ b ∷ []) not = refl
unwritten_number (a ∷ b ∷ c ∷ []) not = refl
unwritten_number (a ∷ b ∷ c ∷ d ∷ []) not = out_of_range (from_be_bytes w32 (a ∷ b ∷ c ∷ d ∷ [])) (λ low high. not (record { four = refl; low = low; high = high }))
unwritten_number (a ∷ b ∷ c ∷ d ∷ e ∷ bytes) not = refl

-- what is found in bytes alone is what they write
pub number_found : (bytes : List ℕ) (r : Option ℕ) → IsSome r ↔ IsPhandle bytes → IfSome r (λ n. n ≡ from_be_bytes w32 bytes) → r ≡ number_of {R = NodeReference} (map byte bytes)
number_found bytes None is same = sym (unwritten_number bytes (λ h. cc (is.1 h)))
number_found bytes (Some n) is same = ap (λ (m : ℕ). Some m) same ∙ sym (written_number bytes (is.0 refl))

-- the same of a value without references
pub number_alone : (v : NamedValue) (bytes : List ℕ) (r : Option ℕ) → length v.pieces.items ≡ 0 → bytes ≡ (cow_slice_items v.bytes)
    → IsSome r ↔ IsPhandle bytes → IfSome r (λ n. n ≡ from_be_bytes w32 bytes) → r ≡ number_of (value_said v)
number_alone v bytes r none are is same =
    number_found bytes r is same
    ∙ ap (λ (bs : List ℕ). number_of {R = NodeReference} (map byte bs)) are
    ∙ ap (λ (ps : List NamedPiece). number_of (pieces_said ps ++ map byte (cow_slice_items v.bytes))) (sym (nil_from_length v.pieces.items none))

-- ---- the property of a name

same_test : (a b : List ℕ) → bytes_eq a b ≡ bytes_eq b a
same_test a b = by (bytes_eq a b) (bytes_eq b a) refl refl
  where
    by : (s t : Bool) → bytes_eq a b ≡ s → bytes_eq b a ≡ t → s ≡ t
    by true true e d = refl
    by false false e d = refl
    by true false e d = sym ((bytes_eq-Decides b a).1 (sym ((bytes_eq-Decides a b).0 e))) ∙ d
    by false true e d = sym e ∙ (bytes_eq-Decides a b).1 (sym ((bytes_eq-Decides b a).0 d))

-- the value of a name in properties the first of which this is
pub value_first : (ps rest : List NamedProperty) (p : NamedProperty) (x name : List ℕ) (b : Bool) → ps ≡ p ∷ rest → name ≡ x → b ≡ bytes_eq p.name.now name
    → value_of (map property_said ps) x ≡ cond b (Some (value_said p.value)) (value_of (map property_said rest) x)
value_first ps rest p x name b are named is =
    ap (λ (qs : List NamedProperty). value_of (map property_said qs) x) are
    ∙ ap (λ (t : Bool). cond t (Some (value_said p.value)) (value_of (map property_said rest) x))
    (same_test x p.name.now ∙ ap (bytes_eq p.name.now) (sym named) ∙ sym is)

-- ---- which nodes a value refers to

pub in_value_behind : (before : List ℕ) (n : NodeReference) (rest : List (Item NodeReference)) (k : ℕ) → is_in_value (map byte before ++ reference n ∷ rest) k ≡ is_to n k || is_in_value rest k
in_value_behind [] n rest k = refl
in_value_behind (b ∷ before) n rest k = in_value_behind before n rest k

pub in_bytes : (bytes : List ℕ) (k : ℕ) → is_in_value (map byte bytes) k ≡ false
in_bytes [] k = refl
in_bytes (b ∷ bytes) k = in_bytes bytes k

pub each_behind : (P : NodeReference → Type 0) (before : List ℕ) (n : NodeReference) (rest : List (Item NodeReference)) → EachReference P (map byte before ++ reference n ∷ rest) → P n × EachReference P rest
each_behind P [] n rest h = h
each_behind P (b ∷ before) n rest h = each_behind P before n rest h

-- what is left of a list whose next item this is
pub next_item : {X : Type 0} (xs : List X) (i : ℕ) (x : X) → i < length xs → x ≡ get_or xs i x → drop i xs ≡ x ∷ drop (i + 1) xs
next_item {X = X} xs i x lt is = drop_more xs i x lt ∙ ap (λ (y : X). y ∷ drop (i + 1) xs) (sym is)

-- what is left of a value whose next piece this is
pub piece_next : (items : List NamedPiece) (bytes : List ℕ) (i : ℕ) (p : NamedPiece) → drop i items ≡ p ∷ drop (i + 1) items
    → pieces_said (drop i items) ++ map byte bytes ≡ map byte (cow_slice_items p.before) ++ reference (reference_said p.reference) ∷ (pieces_said (drop (i + 1) items) ++ map byte bytes)
piece_next items bytes i p next =
    ap (λ (ps : List NamedPiece). pieces_said ps ++ map byte bytes) next
    ∙ append_assoc (map byte (cow_slice_items p.before)) (reference (reference_said p.reference) ∷ pieces_said (drop (i + 1) items)) (map byte bytes)

-- ---- which nodes are keyed

or_false : (a b : Bool) → b ≡ false → a || b ≡ a
or_false true b e = refl
or_false false b e = e

-- tests one after another
pub keyed_both : (f g : ℕ → Bool) (k : ℕ) (xs : List model.Asked) → keyed_too g k (keyed_too f k xs) ≡ keyed_too (λ n. f n || g n) k xs
keyed_both f g k [] = refl
keyed_both f g k (x ∷ xs) = λ i. record { written = x.written; keyed = or_assoc x.keyed (f k) (g k) i } ∷ keyed_both f g (suc k) xs i

pub keyed_same : (f g : ℕ → Bool) (k : ℕ) (xs : List model.Asked) → ((n : ℕ) → f n ≡ g n) → keyed_too f k xs ≡ keyed_too g k xs
keyed_same f g k xs same = λ i. keyed_too (λ n. same n i) k xs

-- a test that none of them passes
pub keyed_none : (f : ℕ → Bool) (k : ℕ) (xs : List model.Asked) → ((n : ℕ) → k ≤ n → f n ≡ false) → keyed_too f k xs ≡ xs
keyed_none f k [] none = refl
keyed_none f k (x ∷ xs) none =
    λ i. record { written = x.written; keyed = or_false x.keyed (f k) (none k (omega arith)) i } ∷ keyed_none f (suc k) xs (λ n le. none n (omega arith)) i

-- one of them is keyed
pub keyed_one : (xs : List Asked) (i k m : ℕ) (d : Asked) → m ≡ k + i → i < length xs
    → map asked_said (set xs i (record { written = (get_or xs i d).written; keyed = true })) ≡ keyed_too (nat_eq m) k (map asked_said xs)
keyed_one [] i k m d at lt = absurd (omega arith)
keyed_one (x ∷ xs) zero k m d at lt =
    let here : nat_eq m k ≡ true = eq-eqb m k (omega arith) in
    let others : keyed_too (nat_eq m) (suc k) (map asked_said xs) ≡ map asked_said xs = keyed_none (nat_eq m) (suc k) (map asked_said xs) (λ n le. ne_eqb m n (λ e. omega arith)) in
    λ i. record { written = x.written; keyed = sym (or_right x.keyed (nat_eq m k) here) i } ∷ sym others i
keyed_one (x ∷ xs) (suc j) k m d at lt =
    λ i. record { written = x.written; keyed = sym (or_false x.keyed (nat_eq m k) (ne_eqb m k (λ e. omega arith))) i } ∷ keyed_one xs j (suc k) m d (omega arith) (omega arith) i

-- the node of a reference is keyed
pub keyed_to : (now new : List Asked) (n : ℕ) (d : Asked) → n < length now → new ≡ set now n (record { written = (get_or now n d).written; keyed = true })
    → map asked_said new ≡ keyed_too (is_to (inside n)) 0 (map asked_said now)
keyed_to now new n d lt is = ap (map asked_said) is ∙ keyed_one now n 0 n d (omega arith) lt

-- a label keys none
pub keyed_outside : (l : List ℕ) (now : List Asked) → map asked_said now ≡ keyed_too (is_to (outside l)) 0 (map asked_said now)
keyed_outside l now = sym (keyed_none (is_to (outside l)) 0 (map asked_said now) (λ n le. refl))

-- what nothing is left of keys no more
pub value_over : (bytes : List ℕ) (items : List NamedPiece) (i : ℕ) (now : List model.Asked) (whole : List model.Asked) → length items ≤ i
    → keyed_too (is_in_value (pieces_said (drop i items) ++ map byte bytes)) 0 now ≡ whole → now ≡ whole
value_over bytes items i now whole past same =
    let none : (k : ℕ) → is_in_value (pieces_said (drop i items) ++ map byte bytes) k ≡ false =
    λ k. ap (λ (ps : List NamedPiece). is_in_value (pieces_said ps ++ map byte bytes) k) (drop_all i items past) ∙ in_bytes bytes k in
    sym (keyed_none (is_in_value (pieces_said (drop i items) ++ map byte bytes)) 0 now (λ k le. none k)) ∙ same

-- one of several: those that are left key what all did
pub several_turn : (f g : ℕ → Bool) (all : ℕ → Bool) (before now : List Asked) (whole : List model.Asked)
    → ((k : ℕ) → all k ≡ f k || g k) → map asked_said now ≡ keyed_too f 0 (map asked_said before)
    → keyed_too all 0 (map asked_said before) ≡ whole → keyed_too g 0 (map asked_said now) ≡ whole
several_turn f g all before now whole split is same =
    ap (keyed_too g 0) is ∙ keyed_both f g 0 (map asked_said before) ∙ sym (keyed_same all (λ k. f k || g k) 0 (map asked_said before) split) ∙ same

-- what nodes ask for is what each asks for, references to it aside, where those are keyed too to which nodes refer
pub asked_by_all : (all : List (Content NodeReference)) (k : ℕ) (cs : List (Content NodeReference)) → keyed_too (is_in_nodes all) k (map own cs) ≡ asked_from all k cs
asked_by_all all k [] = refl
asked_by_all all k (c ∷ cs) = ap (λ (xs : List model.Asked). asked all k c ∷ xs) (asked_by_all all (suc k) cs)

-- the nodes behind a list that was lent, where each asked for itself before
pub asked_after : (nodes : List NamedNode) (asked lent now : List Asked) (i n : ℕ) → length nodes ≤ i → n ≡ length asked → lent ≡ asked → length now ≡ length lent
    → map asked_said asked ++ map own (map content_said (drop i nodes)) ≡ map own (map content_said nodes)
    → map asked_said now ≡ keyed_too (is_in_nodes (map content_said nodes)) 0 (map asked_said lent)
    → map asked_said (take n (now ++ drop (length now) asked)) ≡ asked_from (map content_said nodes) 0 (map content_said nodes)
asked_after nodes asked lent now i n past counted lends long each keyed =
    let all = map content_said nodes in
    let whole : take n (now ++ drop (length now) asked) ≡ now = take_at now (drop (length now) asked) n (long ∙ ap length lends ∙ sym counted) in
    let own_ones : map asked_said asked ≡ map own all =
    sym (append-nil (map asked_said asked)) ∙ ap (λ (ns : List NamedNode). map asked_said asked ++ map own (map content_said ns)) (sym (drop_all i nodes past)) ∙ each in
    ap (map asked_said) whole ∙ keyed
    ∙ ap (λ (xs : List Asked). keyed_too (is_in_nodes all) 0 (map asked_said xs)) lends
    ∙ ap (keyed_too (is_in_nodes all) 0) own_ones
    ∙ asked_by_all all 0 all
