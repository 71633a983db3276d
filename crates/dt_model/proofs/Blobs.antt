-- A blob has one header, and at most one reading.
use Rattle.std.proofs.Common.{◌≡◌, ℕ, List, ◌++◌, drop, take, Option, Some, sym, ap, subst, ◌∙◌}
use Rattle.std.proofs.lemmas.Option.{same_Some}
use Rattle.dt_model.specs.Tree.{Reading}
use Rattle.dt_model.specs.Format.{Header, HasHeader, SpellsTree, part, reservation_block, Reads}
use Rattle.dt_model.proofs.Parsed.{one_tree}
use Rattle.dt_model.proofs.Pairs.{same_pairs}

one_some : {o : Option ℕ} {x y : ℕ} → o ≡ Some x → o ≡ Some y → x ≡ y
one_some {x = x} {y = y} a b = same_Some x y (sym a ∙ b)

pub same_header : (bytes : List ℕ) (h k : Header) → HasHeader bytes h → HasHeader bytes k → h ≡ k
same_header bytes h k a b =
    let e1 : h.total_size ≡ k.total_size = one_some a.total_size b.total_size in
    let e2 : h.structure_offset ≡ k.structure_offset = one_some a.structure_offset b.structure_offset in
    let e3 : h.strings_offset ≡ k.strings_offset = one_some a.strings_offset b.strings_offset in
    let e4 : h.reservations_offset ≡ k.reservations_offset = one_some a.reservations_offset b.reservations_offset in
    let e5 : h.version ≡ k.version = one_some a.version b.version in
    let e6 : h.last_compatible_version ≡ k.last_compatible_version = one_some a.last_compatible_version b.last_compatible_version in
    let e7 : h.boot_cpu ≡ k.boot_cpu = one_some a.boot_cpu b.boot_cpu in
    let e8 : h.strings_size ≡ k.strings_size = one_some a.strings_size b.strings_size in
    let e9 : h.structure_size ≡ k.structure_size = one_some a.structure_size b.structure_size in
    λ i. record { total_size = e1 i; structure_offset = e2 i; strings_offset = e3 i; reservations_offset = e4 i; version = e5 i; last_compatible_version = e6 i; boot_cpu = e7 i; strings_size = e8 i; structure_size = e9 i }

-- the tree of a reading stands where a header says
tree_at : (bytes : List ℕ) (h : Header) (u : Reading) (b : Reads bytes u) → b.header ≡ h → SpellsTree (part h.strings_offset h.strings_size bytes) u.properties u.children (part h.structure_offset h.structure_size bytes)
tree_at bytes h u b e = subst (λ (k : Header). SpellsTree (part k.strings_offset k.strings_size bytes) u.properties u.children (part k.structure_offset k.structure_size bytes)) e b.structure

pairs_at : (bytes : List ℕ) (h : Header) (u : Reading) (b : Reads bytes u) → b.header ≡ h → drop h.reservations_offset (take h.total_size bytes) ≡ reservation_block u.reservations ++ b.behind
pairs_at bytes h u b e = subst (λ (k : Header). drop k.reservations_offset (take k.total_size bytes) ≡ reservation_block u.reservations ++ b.behind) e b.reservations

-- a blob has at most one reading
pub reads_once : (bytes : List ℕ) (t u : Reading) → Reads bytes t → Reads bytes u → t ≡ u
reads_once bytes t u a b =
    let h = a.header in
    let same : b.header ≡ h = same_header bytes b.header h b.words a.words in
    let cpu : t.boot_cpu ≡ u.boot_cpu = a.boot_cpu ∙ sym (ap (λ (k : Header). k.boot_cpu) same) ∙ sym b.boot_cpu in
    let pairs : t.reservations ≡ u.reservations = same_pairs t.reservations u.reservations a.behind b.behind a.valid.reservations b.valid.reservations (sym a.reservations ∙ pairs_at bytes h u b same) in
    let tree = one_tree (part h.strings_offset h.strings_size bytes) (part h.structure_offset h.structure_size bytes) t.properties u.properties t.children u.children a.structure (tree_at bytes h u b same) in
    λ i. record { boot_cpu = cpu i; reservations = pairs i; properties = tree.0 i; children = tree.1 i }
