-- The world of a blob's tree refines the world of each meaning that it represents.
use Rattle.std.proofs.Common.{◌≡◌, ℕ, suc, ◌^◌, ◌<◌, Bool, true, false, not, ◌&&◌, ◌||◌, ◌==◌, List, [], ◌∷◌, ◌++◌, length, map, inl, inr, refl, sym, ap, ◌∙◌, subst, Option, Some, None, true≢false, arith}
use Rattle.std.specs.Prelude.{if◌then◌else◌, codes, option_map}
use Rattle.std.specs.Int.{w32, from_be_bytes}
use Rattle.std.specs.Str.{bytes_eq}
use Rattle.std.proofs.lemmas.Nat.{from_be_bytes-to_be_bytes_4}
use Rattle.std.proofs.lemmas.Bool.Decides.{Decides-eqb}
use Rattle.dt_names.specs.declared.fault.FaultKind.TheVariants.{UnknownPhandle}
use Rattle.dt_model.specs.Applied.{node_numbered}
use Rattle.dt_model.specs.Lists.{IsIn}
use Rattle.dt_model.specs.Meaning.{Item, byte, reference, cell, value_bytes, EachReference, Meaning}
use Rattle.dt_model.specs.Names.{Name}
use Rattle.dt_model.specs.Path.{Path, is_bookkeeping}
use Rattle.dt_model.specs.Tree.{Reading, nodes_of, value_in}
use Rattle.dt_model.specs.Valid.{IsValid, IsPhandle, phandle_values, phandles}
use Rattle.dt_model.proofs.Distinct.{in_flat}
use Rattle.dt_model.proofs.Finding.{node_of_number, number_of_node}
use Rattle.dt_model.proofs.Listed.{stands_listed, value_listed}
use Rattle.dt_model.proofs.Preorder.{phandle_list, all_phandles, value_in_list}
use Rattle.dt_model.proofs.Tests.{and_left, and_right, not_true, each_in, in_map}
use Rattle.dt_model.specs.Represents.{IsOf}
use Rattle.dt_model.proofs.Inside.{each_more}
use Rattle.dt_resolve_model.specs.Answers.{undetermined, answer, refuse, Agrees}
use Rattle.dt_resolve_model.specs.World.{Quad, figure, pointer, torn, quads_of, value_of_bytes, node_found, node_of_figure, tree_world, Octet, own_octet, lead_octet, later_octet, octets_of, quad_of_octets, quads_of_octets, value_of_items, written_node, node_of_cell, is_written, node_written, meaning_world}
use Rattle.dt_resolve_model.proofs.Agreeing.{Same, IsSeen, AreSeen, IsMaybeSeen, Refines}

-- the bytes that begin with those of a cell
abbrev pub BeginsWith : List ℕ → List ℕ → Type 0
BeginsWith [] bytes = Unit {0}
BeginsWith (x ∷ xs) [] = ⊥
BeginsWith (x ∷ xs) (y ∷ ys) = (x ≡ y) × BeginsWith xs ys

-- bytes that hold some parts: own_octet ones as they are, and a reference from its first on
abbrev pub Holds : (Path → ℕ) → (Path → Type 0) → List Octet → List ℕ → Type 0
Holds r P [] [] = Unit {0}
Holds r P [] (y ∷ ys) = ⊥
Holds r P (x ∷ xs) [] = ⊥
Holds r P (own_octet b ∷ xs) (y ∷ ys) = (b ≡ y) × Holds r P xs ys
Holds r P (lead_octet p ∷ xs) (y ∷ ys) = BeginsWith (cell (r p)) (y ∷ ys) × P p × Holds r P xs ys
Holds r P (later_octet ∷ xs) (y ∷ ys) = Holds r P xs ys

held : (r : Path → ℕ) (P : Path → Type 0) (items : List (Item Path)) → EachReference P items → Holds r P (octets_of items) (value_bytes r items)
held r P [] h = tt
held r P (byte b ∷ items) h = (refl, held r P items h)
held r P (reference p ∷ items) h = ((refl, (refl, (refl, (refl, tt)))), h.0, held r P items h.1)

held_length : (r : Path → ℕ) (P : Path → Type 0) (parts : List Octet) (bytes : List ℕ) → Holds r P parts bytes → length bytes ≡ length parts
held_length r P [] [] h = refl
held_length r P [] (y ∷ ys) h = absurd h
held_length r P (x ∷ xs) [] h = absurd h
held_length r P (own_octet b ∷ xs) (y ∷ ys) h = ap suc (held_length r P xs ys h.1)
held_length r P (lead_octet p ∷ xs) (y ∷ ys) h = ap suc (held_length r P xs ys h.2)
held_length r P (later_octet ∷ xs) (y ∷ ys) h = ap suc (held_length r P xs ys h)

-- what follows a cells_at
held_rest : (r : Path → ℕ) (P : Path → Type 0) (x : Octet) (xs : List Octet) (y : ℕ) (ys : List ℕ) → Holds r P (x ∷ xs) (y ∷ ys) → Holds r P xs ys
held_rest r P (own_octet b) xs y ys h = h.1
held_rest r P (lead_octet p) xs y ys h = h.2
held_rest r P later_octet xs y ys h = h

four_equal : (w : List ℕ) (e0 e1 e2 e3 a b c d : ℕ) (rest : List ℕ) → w ≡ e0 ∷ e1 ∷ e2 ∷ e3 ∷ [] → BeginsWith (e0 ∷ e1 ∷ e2 ∷ e3 ∷ []) (a ∷ b ∷ c ∷ d ∷ rest) → w ≡ a ∷ b ∷ c ∷ d ∷ []
four_equal w e0 e1 e2 e3 a b c d rest e h =
    let k0 : e0 ≡ a = h.0 in let k1 : e1 ≡ b = h.1.0 in let k2 : e2 ≡ c = h.1.1.0 in let k3 : e3 ≡ d = h.1.1.1.0 in
    cc

-- what the rules need of the naming of the references of a value
pub record IsNamed (t : Reading) (r : Path → ℕ) (p : Path) : Type 0 where
  pub node : node_numbered (nodes_of t) (r p) ≡ Some p
  pub low : r p < 2 ^ 32

cell_number : (n a b c d : ℕ) (rest : List ℕ) → n < 2 ^ 32 → BeginsWith (cell n) (a ∷ b ∷ c ∷ d ∷ rest) → from_be_bytes w32 (a ∷ b ∷ c ∷ d ∷ []) ≡ n
cell_number n a b c d rest low h = ap (from_be_bytes w32) (sym (four_equal (cell n) _ _ _ _ a b c d rest refl h)) ∙ from_be_bytes-to_be_bytes_4 n low

quad_held : (t : Reading) (r : Path → ℕ) (w x y z : Octet) (parts : List Octet) (a b c d : ℕ) (bytes : List ℕ) → Holds r (IsNamed t r) (w ∷ x ∷ y ∷ z ∷ parts) (a ∷ b ∷ c ∷ d ∷ bytes)
    → IsSeen (tree_world t) (quad_of_octets w x y z) (figure (from_be_bytes w32 (a ∷ b ∷ c ∷ d ∷ [])))
quad_held t r (lead_octet p) x y z parts a b c d bytes h =
    let n = cell_number (r p) a b c d bytes h.1.low h.0 in
    ap (λ (k : ℕ). node_found (node_numbered (nodes_of t) k)) n ∙ ap node_found h.1.node
quad_held t r later_octet x y z parts a b c d bytes h = tt
quad_held t r (own_octet k) (own_octet l) (own_octet m) (own_octet n) parts a b c d bytes h =
    let e0 : k ≡ a = h.0 in let e1 : l ≡ b = h.1.0 in let e2 : m ≡ c = h.1.1.0 in let e3 : n ≡ d = h.1.1.1.0 in
    let e : k ∷ l ∷ m ∷ n ∷ [] ≡ a ∷ b ∷ c ∷ d ∷ [] = cc in
    ap (λ (bs : List ℕ). figure (from_be_bytes w32 bs)) (sym e)
quad_held t r (own_octet k) (own_octet l) (own_octet m) (lead_octet p) parts a b c d bytes h = tt
quad_held t r (own_octet k) (own_octet l) (own_octet m) later_octet parts a b c d bytes h = tt
quad_held t r (own_octet k) (own_octet l) (lead_octet p) z parts a b c d bytes h = tt
quad_held t r (own_octet k) (own_octet l) later_octet z parts a b c d bytes h = tt
quad_held t r (own_octet k) (lead_octet p) y z parts a b c d bytes h = tt
quad_held t r (own_octet k) later_octet y z parts a b c d bytes h = tt

quads_held : (t : Reading) (r : Path → ℕ) (parts : List Octet) (bytes : List ℕ) → Holds r (IsNamed t r) parts bytes → AreSeen (tree_world t) (quads_of_octets parts) (quads_of bytes)
quads_held t r (w ∷ x ∷ y ∷ z ∷ parts) (a ∷ b ∷ c ∷ d ∷ bytes) h =
    let P = IsNamed t r in
    let h1 = held_rest r P w (x ∷ y ∷ z ∷ parts) a (b ∷ c ∷ d ∷ bytes) h in
    let h2 = held_rest r P x (y ∷ z ∷ parts) b (c ∷ d ∷ bytes) h1 in
    let h3 = held_rest r P y (z ∷ parts) c (d ∷ bytes) h2 in
    (quad_held t r w x y z parts a b c d bytes h, quads_held t r parts bytes (held_rest r P z parts d bytes h3))
quads_held t r [] [] h = tt
quads_held t r [] (a ∷ bytes) h = absurd h
quads_held t r (w ∷ parts) [] h = absurd h
quads_held t r (w ∷ []) (a ∷ []) h = tt
quads_held t r (w ∷ []) (a ∷ b ∷ bytes) h = absurd (held_rest r (IsNamed t r) w [] a (b ∷ bytes) h)
quads_held t r (w ∷ x ∷ parts) (a ∷ []) h = absurd (held_rest r (IsNamed t r) w (x ∷ parts) a [] h)
quads_held t r (w ∷ x ∷ []) (a ∷ b ∷ []) h = tt
quads_held t r (w ∷ x ∷ []) (a ∷ b ∷ c ∷ bytes) h = absurd (held_rest r (IsNamed t r) x [] b (c ∷ bytes) (held_rest r (IsNamed t r) w (x ∷ []) a (b ∷ c ∷ bytes) h))
quads_held t r (w ∷ x ∷ y ∷ parts) (a ∷ b ∷ []) h = absurd (held_rest r (IsNamed t r) x (y ∷ parts) b [] (held_rest r (IsNamed t r) w (x ∷ y ∷ parts) a (b ∷ []) h))
quads_held t r (w ∷ x ∷ y ∷ []) (a ∷ b ∷ c ∷ []) h = tt
quads_held t r (w ∷ x ∷ y ∷ []) (a ∷ b ∷ c ∷ d ∷ bytes) h =
    absurd (held_rest r (IsNamed t r) y [] c (d ∷ bytes) (held_rest r (IsNamed t r) x (y ∷ []) b (c ∷ d ∷ bytes) (held_rest r (IsNamed t r) w (x ∷ y ∷ []) a (b ∷ c ∷ d ∷ bytes) h)))
quads_held t r (w ∷ x ∷ y ∷ z ∷ parts) (a ∷ b ∷ c ∷ []) h =
    absurd (held_rest r (IsNamed t r) y (z ∷ parts) c [] (held_rest r (IsNamed t r) x (y ∷ z ∷ parts) b (c ∷ []) (held_rest r (IsNamed t r) w (x ∷ y ∷ z ∷ parts) a (b ∷ c ∷ []) h)))

-- each reference is to a keyed node, so that its number is its node's alone
keyed_named : (t : Reading) (m : Meaning) (r : Path → ℕ) → IsOf t m r → (p : Path) → m.keyed p ≡ true → IsNamed t r p
keyed_named t m r of p keyed =
    let high = of.represents.naming.high p keyed in
    let plain : is_bookkeeping p ≡ false = of.plain.plain p (of.meaning.keyed_stand p keyed) in
    let value : value_in t p (codes "phandle") ≡ Some (cell (r p)) = of.represents.values p (codes "phandle") plain ∙ ap (λ (b : Bool). if b then Some (cell (r p)) else None) keyed in
    record { node = node_of_number t p (r p) of.valid value; low = omega arith }

value_seen : (t : Reading) (m : Meaning) (r : Path → ℕ) → IsOf t m r → (p : Path) (n : Name) (a : Option (List (Item Path))) → m.value p n ≡ a
    → IsMaybeSeen (tree_world t) (option_map value_of_items a) (option_map value_of_bytes (option_map (value_bytes r) a))
value_seen t m r of p n None e = tt
value_seen t m r of p n (Some items) e =
    let each = each_more (λ q. m.keyed q ≡ true) (IsNamed t r) items (keyed_named t m r of) (of.meaning.referred p n items e) in
    let h = held r (IsNamed t r) items each in
    record { size = held_length r (IsNamed t r) (octets_of items) (value_bytes r items) h; cells = quads_held t r (octets_of items) (value_bytes r items) h }

value_agrees : (t : Reading) (m : Meaning) (r : Path → ℕ) (nodes : List Path) → IsOf t m r → (p : Path) (n : Name) → Agrees (IsMaybeSeen (tree_world t)) ((meaning_world m nodes).value p n) ((tree_world t).value p n)
value_agrees t m r nodes of p n = step (m.stands p && not (bytes_eq n (codes "phandle"))) refl
  where
    step : (b : Bool) → m.stands p && not (bytes_eq n (codes "phandle")) ≡ b → Agrees (IsMaybeSeen (tree_world t)) (if b then answer (option_map value_of_items (m.value p n)) else undetermined) ((tree_world t).value p n)
    step false e = tt
    step true e =
        let stands = and_left (m.stands p) (not (bytes_eq n (codes "phandle"))) e in
        let other = not_true (bytes_eq n (codes "phandle")) (and_right (m.stands p) (not (bytes_eq n (codes "phandle"))) e) in
        let same : value_in t p n ≡ option_map (value_bytes r) (m.value p n) =
        of.represents.values p n (of.plain.plain p stands)
        ∙ ap (λ (b : Bool). if b then (if m.keyed p then Some (cell (r p)) else None) else option_map (value_bytes r) (m.value p n)) other in
        (option_map value_of_bytes (option_map (value_bytes r) (m.value p n)), ap (λ (o : Option (List ℕ)). answer (option_map value_of_bytes o)) same, value_seen t m r of p n (m.value p n) refl)

written_is : (n : ℕ) (o : Option ℕ) → is_written n o ≡ true → o ≡ Some n
written_is n None k = absurd (true≢false (sym k))
written_is n (Some k) h = ap (λ (i : ℕ). Some i) (sym ((Decides-eqb n k).0 h))

node_has : (m : Meaning) (nodes : List Path) (n : ℕ) (p : Path) → node_written m nodes n ≡ Some p → m.number p ≡ Some n
node_has m [] n p e = absurd (let z : None ≡ Some p = e in cc)
node_has m (q ∷ nodes) n p e = step (λ k. node_has m nodes n p k) (is_written n (m.number q)) refl
  where
    step : (node_written m nodes n ≡ Some p → m.number p ≡ Some n) → (b : Bool) → is_written n (m.number q) ≡ b → m.number p ≡ Some n
    step more true h = let z : Some q ≡ Some p = rw h at e in let same : q ≡ p = cc in ap m.number (sym same) ∙ written_is n (m.number q) h
    step more false h = more (rw h at e)

node_there : (m : Meaning) (nodes : List Path) (n : ℕ) (p : Path) → IsIn p nodes → m.number p ≡ Some n → ((q : Path) → m.number q ≡ Some n → q ≡ p) → node_written m nodes n ≡ Some p
node_there m [] n p i e one = absurd i
node_there m (q ∷ nodes) n p i e one = step (λ j. node_there m nodes n p j e one) (is_written n (m.number q)) refl
  where
    step : (IsIn p nodes → node_written m nodes n ≡ Some p) → (b : Bool) → is_written n (m.number q) ≡ b → node_written m (q ∷ nodes) n ≡ Some p
    step more true h = rw h (ap Some (one q (written_is n (m.number q) h)))
    step more false h = rw h (elim i [
      | inl same ↦ absurd (true≢false (sym (ap (λ (z : Path). is_written n (m.number z)) (sym same) ∙ ap (is_written n) e ∙ (Decides-eqb n n).1 refl) ∙ h))
      | inr j ↦ more j
    ])

pub written_found : (t : Reading) (m : Meaning) (number : Path → ℕ) (p : Path) (n : ℕ) → IsOf t m number → m.number p ≡ Some n → node_written m (map (λ x. x.path) (nodes_of t)) n ≡ Some p
written_found t m number p n of e =
    let stands = of.meaning.keyed_stand p (of.meaning.numbered p n e).0 in
    let w = stands_listed t p (of.represents.nodes p (of.plain.plain p stands) ∙ stands) in
    node_there m (map (λ x. x.path) (nodes_of t)) n p
    (subst (λ q. IsIn q (map (λ x. x.path) (nodes_of t))) w.2 (in_map (λ x. x.path) (nodes_of t) w.0 w.1)) e
    (λ q f. of.meaning.own q p n f e)

-- the phandle of a tree's node is one
is_phandle : (t : Reading) (q : Path) (n : ℕ) → IsValid t → node_numbered (nodes_of t) n ≡ Some q → IsPhandle (cell n)
is_phandle t q n valid e =
    let w = value_listed t q (codes "phandle") (cell n) (number_of_node t q n valid e) in
    each_in IsPhandle (phandle_values t.properties ++ phandles t.children) (cell n) valid.phandles_valid
    (subst (IsIn (cell n)) (all_phandles t) (in_flat phandle_list (nodes_of t) w.0 (cell n) w.1 (value_in_list w.0.properties (cell n) w.3)))

-- so a number that is none is no node's
no_node : (t : Reading) (n : ℕ) → IsValid t → (IsPhandle (cell n) → ⊥) → node_numbered (nodes_of t) n ≡ None
no_node t n valid none = step (node_numbered (nodes_of t) n) refl
  where
    step : (o : Option Path) → node_numbered (nodes_of t) n ≡ o → o ≡ None
    step None e = refl
    step (Some q) e = absurd (none (is_phandle t q n valid e))

none_low : IsPhandle (cell 0) → ⊥
none_low h = let low = h.low in omega arith

none_high : IsPhandle (cell 0xffffffff) → ⊥
none_high h = let high = h.high in omega arith

node_agrees : (t : Reading) (m : Meaning) (r : Path → ℕ) (nodes : List Path) → IsOf t m r → (c d : Quad) → IsSeen (tree_world t) c d → Agrees (Same Path) (node_of_cell m nodes c) (node_of_figure t d)
node_agrees t m r nodes of torn d h = tt
node_agrees t m r nodes of (pointer p) d h = (p, h, refl)
node_agrees t m r nodes of (figure n) d h = step (node_written m nodes n) refl
  where
    none : (k : ℕ) → (b : Bool) → (k == 0) || (k == 0xffffffff) ≡ b → Agrees (Same Path) (if b then refuse UnknownPhandle else undetermined) (node_found (node_numbered (nodes_of t) k))
    none k false e = tt
    none k true e = or (k == 0) refl
      where
        or : (b : Bool) → (k == 0) ≡ b → node_found (node_numbered (nodes_of t) k) ≡ refuse UnknownPhandle
        or true z = ap (λ (i : ℕ). node_found (node_numbered (nodes_of t) i)) ((Decides-eqb k 0).0 z) ∙ ap node_found (no_node t 0 of.valid none_low)
        or false z =
            let last : (k == 0xffffffff) ≡ true = sym (ap (λ (b : Bool). b || (k == 0xffffffff)) z) ∙ e in
            ap (λ (i : ℕ). node_found (node_numbered (nodes_of t) i)) ((Decides-eqb k 0xffffffff).0 last) ∙ ap node_found (no_node t 0xffffffff of.valid none_high)

    step : (o : Option Path) → node_written m nodes n ≡ o → Agrees (Same Path) (written_node n o) (node_of_figure t d)
    step None e = subst (λ (x : Quad). Agrees (Same Path) (written_node n None) (node_of_figure t x)) (sym h) (none n ((n == 0) || (n == 0xffffffff)) refl)
    step (Some p) e =
        let is : m.number p ≡ Some n = node_has m nodes n p e in
        let keyed : m.keyed p ≡ true = (of.meaning.numbered p n is).0 in
        let own : r p ≡ n = of.represents.naming.written p n is in
        (p, ap (node_of_figure t) h ∙ ap (λ (k : ℕ). node_found (node_numbered (nodes_of t) k)) (sym own) ∙ ap node_found (keyed_named t m r of p keyed).node, refl)

-- the tree of a blob that represents a meaning answers whatever the meaning determines
pub tree_refines : (t : Reading) (m : Meaning) (r : Path → ℕ) (nodes : List Path) → IsOf t m r → Refines (meaning_world m nodes) (tree_world t)
tree_refines t m r nodes of = record { value = value_agrees t m r nodes of; node = node_agrees t m r nodes of }
