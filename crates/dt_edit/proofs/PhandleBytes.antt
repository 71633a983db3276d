-- The phandles of a blob are the cells of their numbers: its values are bytes.
use Rattle.std.proofs.Common.{◌≡◌, ℕ, Bool, true, false, List, [], ◌∷◌, ◌++◌, map, length, drop, Some, codes, option_and_then, inl, inr, refl, sym, ap, subst, ◌∙◌, arith}
use Rattle.std.specs.Int.{w32, from_be_bytes}
use Rattle.std.specs.Str.{bytes_eq}
use Rattle.std.proofs.lemmas.List.{take_at, drop_at}
use Rattle.std.proofs.lemmas.Nat.{be_bytes_4}
use Rattle.dt_model.specs.Checks.{number, strings_of, structure_of}
use Rattle.dt_model.specs.Format.{Token, begin_node, end_node, prop, nop, end_tree, tokens_of_forest, without_nops, word, SpellsAll, Spells, SpellsProperty}
use Rattle.dt_model.specs.Lists.{IsIn}
use Rattle.dt_model.specs.Names.{Name}
use Rattle.dt_model.specs.Path.{Path}
use Rattle.dt_model.specs.Tree.{Node, Property, Reading, value_in, value_of}
use Rattle.dt_model.proofs.Listed.{value_stands}
use Rattle.dt_model.proofs.Tests.{in_left, in_right}
use Rattle.dt_overlay_laws.specs.Objects.{HasCells}
use Rattle.dt_overlay_model.proofs.Phandles.{phandle_is}
use Rattle.dt_read.proofs.Numbers.{IsBytes, IsBytes-take, IsBytes-drop}
use Rattle.dt_edit.specs.Editable.{reading_in, IsEditable}
use Rattle.dt_edit.proofs.Assembling.{edits_of}
use Rattle.dt_edit.specs.Between.{node_tokens, tokens_in}
use Rattle.dt_edit.proofs.Between.{between}
use Rattle.dt_edit.proofs.GrownBlobs.{spelled_in}

bytes_front : (xs ys : List ℕ) → IsBytes (xs ++ ys) → IsBytes xs
bytes_front xs ys h = subst IsBytes (take_at xs ys (length xs) refl) (IsBytes-take (length xs) (xs ++ ys) h)

bytes_back : (xs ys : List ℕ) → IsBytes (xs ++ ys) → IsBytes ys
bytes_back xs ys h = subst IsBytes (drop_at xs ys (length xs) refl) (IsBytes-drop (length xs) (xs ++ ys) h)

value_bytes : (strings : List ℕ) (p : Property) (own : List ℕ) → SpellsProperty strings p own → IsBytes own → IsBytes p.value
value_bytes strings p own s h =
    let value : List ℕ = word s.offset ++ p.value in
    let sized : List ℕ = word (length p.value) ++ value in
    let content = bytes_front (word 3 ++ sized) s.bytes.padding (subst IsBytes s.bytes.whole h) in
    bytes_back (word s.offset) p.value (bytes_back (word (length p.value)) value (bytes_back (word 3) sized content))

all_bytes : (strings : List ℕ) (tokens : List Token) (bytes : List ℕ) → SpellsAll strings tokens bytes → IsBytes bytes → (x : Property) → IsIn (prop x) tokens → IsBytes x.value
all_bytes strings [] bytes s h x there = absurd there
all_bytes strings (token ∷ tokens) bytes s h x (inl same) =
    value_bytes strings x s.0 (let own : Spells strings (prop x) s.0 = subst (λ (k : Token). Spells strings k s.0) (sym same) s.3 in own) (bytes_front s.0 s.1 (subst IsBytes s.2 h))
all_bytes strings (token ∷ tokens) bytes s h x (inr there) = all_bytes strings tokens s.1 s.4 (bytes_back s.0 s.1 (subst IsBytes s.2 h)) x there

with_nops : (tokens : List Token) (x : Token) → IsIn x (without_nops tokens) → IsIn x tokens
with_nops [] x there = there
with_nops (nop ∷ tokens) x there = inr (with_nops tokens x there)
with_nops (begin_node name ∷ tokens) x (inl same) = inl same
with_nops (begin_node name ∷ tokens) x (inr there) = inr (with_nops tokens x there)
with_nops (end_node ∷ tokens) x (inl same) = inl same
with_nops (end_node ∷ tokens) x (inr there) = inr (with_nops tokens x there)
with_nops (prop p ∷ tokens) x (inl same) = inl same
with_nops (prop p ∷ tokens) x (inr there) = inr (with_nops tokens x there)
with_nops (end_tree ∷ tokens) x (inl same) = inl same
with_nops (end_tree ∷ tokens) x (inr there) = inr (with_nops tokens x there)

-- a value is that of one of the tokens
record IsValueOf (tokens : List Token) (value : List ℕ) : Type 0 where
  property : Property
  there : IsIn (prop property) tokens
  is : property.value ≡ value

listed : (ps : List Property) (name : Name) (value : List ℕ) → value_of ps name ≡ Some value → IsValueOf (map prop ps) value
listed [] name value e = absurd cc
listed (p ∷ ps) name value e = step (listed ps name value) (bytes_eq name p.name) refl
  where
    step : (value_of ps name ≡ Some value → IsValueOf (map prop ps) value) → (b : Bool) → bytes_eq name p.name ≡ b → IsValueOf (map prop (p ∷ ps)) value
    step later true same =
        let own : Some p.value ≡ Some value = rw same at e in
        record { property = p; there = inl refl; is = cc }
    step later false same =
        let rest = later (rw same at e) in
        record { property = rest.property; there = inr rest.there; is = rest.is }

token_of : (t : Reading) (p : Path) (name : Name) (value : List ℕ) → value_in t p name ≡ Some value → IsValueOf (tokens_in t) value
token_of t p name value e =
    let b = between t p (value_stands t p name value e) in
    let n = b.2.node in
    let own : value_of n.properties name ≡ Some value = sym (ap (option_and_then (λ (m : Node). value_of m.properties name)) b.2.is) ∙ e in
    let l = listed n.properties name value own in
    let here = in_right (prop l.property) b.0 (node_tokens n ++ b.1) (in_left (prop l.property) (node_tokens n) b.1 (in_left (prop l.property) (map prop n.properties) (tokens_of_forest n.children) l.there)) in
    record { property = l.property; there = subst (IsIn (prop l.property)) (sym b.2.now) here; is = l.is }

pub cells_in : (bytes : List ℕ) → IsEditable bytes → IsBytes bytes → HasCells (reading_in bytes)
cells_in bytes e h p value has =
    let t = reading_in bytes in
    let spelled = spelled_in bytes e in
    let v = token_of t p (codes "phandle") value has in
    let there = with_nops spelled.tokens (prop v.property) (subst (IsIn (prop v.property)) (sym spelled.whole) v.there) in
    let block : IsBytes (structure_of bytes) = IsBytes-take (number bytes 36) (drop (number bytes 8) bytes) (IsBytes-drop (number bytes 8) bytes h) in
    let own = all_bytes (strings_of bytes) (spelled.tokens ++ end_tree ∷ []) (structure_of bytes) spelled.spelled block v.property (in_left (prop v.property) spelled.tokens (end_tree ∷ []) there) in
    let fits = subst IsBytes v.is own in
    sym (be_bytes_4 value (from_be_bytes w32 value) (phandle_is t (edits_of bytes e).valid p value has).four (λ i. omega (arith, fits i)) refl)
