-- The root, the block that it gives, and the whole blob.
use Rattle.std.proofs.Common.{◌≡◌, ℕ, ◌+◌, ◌<◌, ◌≤◌, List, [], ◌++◌, length, take, drop, drop_of_length-le, replicate, sym, ap, subst, ◌∙◌, append_assoc, arith}
use Rattle.std.proofs.lemmas.List.{append-nil, length-append, drop_at, drop-append-le, take_all}
use Rattle.dt_names.specs.declared.fault.FaultKind.{FaultKind}
use Rattle.dt_names.specs.declared.fault.FaultKind.TheVariants.{Limit}
use Rattle.dt_model.specs.Names.{Name}
use Rattle.dt_model.specs.Tree.{Forest, no_nodes, branch, Reading}
use Rattle.dt_model.specs.Valid.{IsValid, IsWithinLimits}
use Rattle.dt_model.specs.Format.{word, reservation_block, Reads, IsWithin}
use Rattle.dt_flat.specs.Arena.{Slot, name_of, properties, below}
use Rattle.dt_write.specs.Written.{used_below, nodes_block, strings_block, header, root_node, names_of, structure_block, written}
use Rattle.dt_write.specs.Parts.{tree_at, HasBelow, IsFront, IsBlob}
use Rattle.dt_write.specs.Refusals.{WhyNoBytes, WhyNotWritten}
use Rattle.dt_write.proofs.TreeNames.{has_below}
use Rattle.dt_write.proofs.Puts.{longer}
use Rattle.dt_write.proofs.WrittenReads.{assembled_length, block_length, written_reads, written_within}

pub root_is : (slots : List Slot) (root : ℕ) → root ≡ 0 → name_of slots 0 ≡ [] → tree_at slots root ≡ branch [] (properties slots 0) (below slots 0) no_nodes
root_is slots root zero-is unnamed = ap (tree_at slots) zero-is ∙ ap (λ (n : Name). branch n (properties slots 0) (below slots 0) no_nodes) unnamed

pub root_has : (t : Reading) (f : Forest) (names : List Name) → f ≡ root_node t → names ≡ names_of t → HasBelow names f
root_has t f names tree named = subst (λ (g : Forest). HasBelow names g) (sym tree) (subst (λ (ns : List Name). HasBelow ns (root_node t)) (sym named) (has_below [] (root_node t)))

-- the names that the root and all below it use
pub root_names : (t : Reading) (f : Forest) (old names : List Name) → f ≡ root_node t → old ≡ [] → names ≡ used_below old f → names ≡ names_of t
root_names t f old names tree none e = e ∙ (λ i. used_below (none i) (tree i))

-- the front, where nothing stood
pub front_put : (rs : List (ℕ × ℕ)) (x room front : List ℕ) → x ≡ [] → room ≡ x ++ replicate 40 0 → front ≡ room ++ reservation_block rs → IsFront rs front
front_put rs x room front none e f =
    let wide : room ≡ replicate 40 0 = e ∙ ap (λ (w : List ℕ). w ++ replicate 40 0) none in
    record {
      behind = ap (drop 40) f ∙ drop_at room (reservation_block rs) 40 (ap length wide);
      size = omega (arith, ap length f, length-append room (reservation_block rs), ap length wide);
    }

-- the structure block, behind the front
pub body_put : (t : Reading) (f : Forest) (names : List Name) (front y body : List ℕ) → f ≡ root_node t → names ≡ names_of t → y ≡ front ++ nodes_block names f → body ≡ y ++ word 9 → body ≡ front ++ structure_block t
body_put t f names front y body tree named put ended =
    ended ∙ ap (λ (w : List ℕ). w ++ word 9) (put ∙ (λ i. front ++ nodes_block (named i) (tree i))) ∙ append_assoc front (nodes_block (names_of t) (root_node t)) (word 9)

pub written_length : (t : Reading) → length (written t) ≡ 40 + length (reservation_block t.reservations) + length (structure_block t) + length (strings_block (names_of t))
written_length t = assembled_length t.boot_cpu (reservation_block t.reservations) (structure_block t) (strings_block (names_of t))

-- more reservations than a blob has room for
pub many_reservations : (t : Reading) → 1048576 < length t.reservations → WhyNotWritten t Limit
many_reservations t many = record { why = omega (arith, written_length t, block_length t.reservations) }

pub nodes_too_large : (t : Reading) (f : Forest) (names : List Name) (front : List ℕ) (kind : FaultKind) → f ≡ root_node t → names ≡ names_of t → IsFront t.reservations front
    → WhyNoBytes kind (length front + length (nodes_block names f)) → WhyNotWritten t kind
nodes_too_large t f names front kind tree named is w =
    let same : length (nodes_block names f) ≡ length (nodes_block (names_of t) (root_node t)) = λ i. length (nodes_block (named i) (tree i)) in
    record {
      why = longer kind (length front + length (nodes_block names f)) (length (written t))
          (omega (arith, same, is.size, written_length t, length-append (nodes_block (names_of t) (root_node t)) (word 9)))
          w;
    }

pub strings_too_large : (t : Reading) (names : List Name) (front body : List ℕ) (kind : FaultKind) → names ≡ names_of t → IsFront t.reservations front → body ≡ front ++ structure_block t
    → WhyNoBytes kind (length body + length (strings_block names)) → WhyNotWritten t kind
strings_too_large t names front body kind named is b w =
    record {
      why = longer kind (length body + length (strings_block names)) (length (written t))
          (omega (arith, ap (λ (n : List Name). length (strings_block n)) named, is.size, ap length b, length-append front (structure_block t), written_length t))
          w;
    }

-- the header set
pub header_set : (t : Reading) (names : List Name) (front body whole blob : List ℕ) (r s n : ℕ) → names ≡ names_of t → IsFront t.reservations front → body ≡ front ++ structure_block t → whole ≡ body ++ strings_block names
    → r + 40 ≡ length front → s + length front ≡ length body → n ≡ length (strings_block names) → blob ≡ header t.boot_cpu r s n ++ drop 40 whole → length blob ≤ 16777216 → IsBlob t blob
header_set t names front body whole blob r s n named is b strings-is r-is s-is n-is e short =
    let rs = reservation_block t.reservations in
    let ss = structure_block t in
    let ns = strings_block (names_of t) in
    let rs-size : r ≡ length rs = omega (arith, is.size) in
    let ss-size : s ≡ length ss = omega (arith, ap length b, length-append front ss) in
    let ns-size : n ≡ length ns = n-is ∙ ap (λ (k : List Name). length (strings_block k)) named in
    let all : whole ≡ front ++ (ss ++ ns) = strings-is ∙ (λ i. b i ++ strings_block (named i)) ∙ append_assoc front ss ns in
    let behind : drop 40 whole ≡ rs ++ (ss ++ ns) = ap (drop 40) all ∙ drop-append-le 40 front (ss ++ ns) (omega (arith, is.size)) ∙ ap (λ (w : List ℕ). w ++ (ss ++ ns)) is.behind in
    record {
      is = e ∙ (λ i. header t.boot_cpu (rs-size i) (ss-size i) (ns-size i) ++ behind i) ∙ regroup (header t.boot_cpu (length rs) (length ss) (length ns)) rs ss ns;
      size = short;
    }
  where
    regroup : (h a b c : List ℕ) → h ++ (a ++ (b ++ c)) ≡ h ++ a ++ b ++ c
    regroup h a b c = sym (simp append_assoc)

-- bytes that were changed in place
pub written_back : (n : ℕ) (bytes items : List ℕ) → length bytes ≡ n → length items ≡ n → take n (bytes ++ drop (length bytes) items) ≡ bytes
written_back n bytes items e f =
    ap (λ (w : List ℕ). take n (bytes ++ w)) (drop_of_length-le items (omega arith)) ∙ ap (take n) (append-nil bytes) ∙ take_all n bytes (omega arith)

-- the blob is read as the tree, and is within the limits
pub blob_reads : (t : Reading) (blob : List ℕ) → IsValid t → IsBlob t blob → Reads blob t
blob_reads t blob valid b = subst (λ (x : List ℕ). Reads x t) (sym b.is) (written_reads t valid (omega (arith, ap length b.is, b.size)))

pub blob_within : (t : Reading) (blob : List ℕ) → IsValid t → IsWithinLimits t → IsBlob t blob → IsWithin blob t
blob_within t blob valid limits b = subst (λ (x : List ℕ). IsWithin x t) (sym b.is) (written_within t valid limits (omega (arith, ap length b.is, b.size)))
