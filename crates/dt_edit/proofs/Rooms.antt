-- The room in a blob that grows, by the sizes that an edit has; and what its edits keep.
use Rattle.std.proofs.Common.{◌≡◌, ℕ, ◌+◌, ◌<◌, true, false, List, [], ◌∷◌, ◌++◌, length, Option, Some, Result, Ok, Err, is_some, ◌⊎◌, inl, inr, refl, sym, ap, subst, ◌∙◌, arith}
use Rattle.std.specs.Prelude.{unwrap_or, IsOk, OnErr, OnOk}
use Rattle.std.proofs.lemmas.Bool.{cases_lt}
use Rattle.std.proofs.lemmas.List.{length-append}
use Rattle.dt_model.specs.Applied.{with_cell}
use Rattle.dt_model.specs.Changes.{with_child_at, with_property_at}
use Rattle.dt_model.specs.Checks.{number, strings_of, structure_of}
use Rattle.dt_model.specs.Format.{reservation_block, word}
use Rattle.dt_model.specs.Limits.{most_bytes, most_names, most_nodes}
use Rattle.dt_model.specs.Lists.{IsIn}
use Rattle.dt_model.specs.Names.{Name}
use Rattle.dt_model.specs.Tree.{Reading, stands_in, value_in}
use Rattle.dt_model.specs.Valid.{node_count}
use Rattle.dt_model_format.specs.Strings.{place_in}
use Rattle.dt_names.specs.declared.fault.FaultKind.{FaultKind}
use Rattle.dt_names.specs.declared.fault.FaultKind.TheVariants.{NoMemory, Limit, BlobPhandle, Duplicate}
use Rattle.dt_overlay_base.specs.Targets.{HasRoomAt, MayAddAt, WhyNotAddedAt, WhyNotSetAt}
use Rattle.dt_overlay_laws.proofs.SingleChanges.{child_counted}
use Rattle.dt_read.specs.Checked.{placed_of}
use Rattle.dt_read.specs.Cuts.{property_size}
use Rattle.dt_trees.specs.Placed.{IsNode}
use Rattle.dt_trees.proofs.NodePlaces.{stands_place}
use Rattle.dt_edit.specs.BufferLaws.{follows_own}
use Rattle.dt_edit.specs.Buffers.{tree_size, property_names, strings_with, size_as, HasRoom, Follows}
use Rattle.dt_edit.specs.Editable.{reading_in, path_in, size_with_node, size_with_value, value_patched, FitsIn, HasCellAt, IsEditable, IsWhole, MayAddWithin, MayPatchIn, MaySetWithin, WhyNotAddedOwned, WhyNotSetOwned}
use Rattle.dt_edit.specs.Plans.{added_name, brought_by}
use Rattle.dt_edit.proofs.Assembling.{edits_of}
use Rattle.dt_edit.proofs.Carrying.{length_brought}
use Rattle.dt_edit.proofs.GrownBlobs.{spelled_in}
use Rattle.dt_edit.proofs.Putting.{length_put}
use Rattle.dt_edit.proofs.StringsUsed.{AreHolding, with_held, with_name, spelled_tree_size, spelled_names}
use Rattle.dt_edit.proofs.TreeSizes.{tree_with_property, names_with_property, tree_with_child, names_with_child}
use Rattle.dt_edit.proofs.ValidChanges.{within_with_property}

node_stands : (bytes : List ℕ) (node : ℕ) → IsNode (placed_of bytes) node → stands_in (reading_in bytes) (path_in bytes node) ≡ true
node_stands bytes node at = sym (stands_place (placed_of bytes) (path_in bytes node)) ∙ ap is_some at

-- ---- a property

size_set : (bytes : List ℕ) (node : ℕ) (name : Name) (value : List ℕ) → IsEditable bytes → IsNode (placed_of bytes) node
    → size_as bytes (with_property_at (path_in bytes node) name value (reading_in bytes)) ≡ size_with_value bytes node name value
size_set bytes node name value e at =
    let t = reading_in bytes in
    let path = path_in bytes node in
    let strings : List ℕ = strings_of bytes in
    let spelled = spelled_in bytes e in
    let held = spelled_tree_size strings t (structure_of bytes) spelled in
    let stands = node_stands bytes node at in
    let total = (edits_of bytes e).blocks.total in
    let tree = tree_with_property t path name value stands in
    let names = names_with_property t path name value stands in
    let with_it = with_name strings name (property_names (with_property_at path name value t)) (λ n there. known n (names.from n there)) names.there in
    let longer = ap (λ (b : List ℕ). length b) with_it in
    let more = length-append strings (brought_by (place_in strings name) name) in
    let brought = length_brought (place_in strings name) name in
    omega arith
  where
    known : (n : Name) → (n ≡ name) ⊎ IsIn n (property_names (reading_in bytes)) → (n ≡ name) ⊎ AreHolding (strings_of bytes) n
    known n (inl same) = inl same
    known n (inr there) = inr (spelled_names (strings_of bytes) (reading_in bytes) (structure_of bytes) (spelled_in bytes e) n there)

set_room : (bytes : List ℕ) (node : ℕ) (name : Name) (value : List ℕ) → IsEditable bytes → IsNode (placed_of bytes) node → FitsIn most_bytes (size_with_value bytes node name value)
    → HasRoom bytes (with_property_at (path_in bytes node) name value (reading_in bytes))
set_room bytes node name value e at fits = record {
  few = (within_with_property (reading_in bytes) (path_in bytes node) name value (edits_of bytes e).within).count;
  fits = let small = fits.room in omega (arith, small, size_set bytes node name value e at);
}

set_fits : (bytes : List ℕ) (node : ℕ) (name : Name) (value : List ℕ) → IsEditable bytes → IsNode (placed_of bytes) node
    → HasRoom bytes (with_property_at (path_in bytes node) name value (reading_in bytes)) → FitsIn most_bytes (size_with_value bytes node name value)
set_fits bytes node name value e at room =
    let small = room.fits in
    let size = size_set bytes node name value e at in
    record { room = omega arith; limit = omega arith }

pub set_allowed : (bytes : List ℕ) (node : ℕ) (name : Name) (value : List ℕ) → IsEditable bytes → IsNode (placed_of bytes) node → MaySetWithin most_bytes bytes node name value
    → HasRoomAt (HasRoom bytes) (reading_in bytes) (path_in bytes node) name value
set_allowed bytes node name value e at may = record { may = may.may; room = set_room bytes node name value e at may.fits }

pub set_refused : (bytes : List ℕ) (node : ℕ) (name : Name) (value : List ℕ) (kind : FaultKind) → IsEditable bytes → IsNode (placed_of bytes) node → WhyNotSetOwned kind bytes node name value
    → WhyNotSetAt (HasRoom bytes) kind (reading_in bytes) (path_in bytes node) name value
set_refused bytes node name value NoMemory e at why = set_allowed bytes node name value e at why
set_refused bytes node name value BlobPhandle e at why = why
set_refused bytes node name value Limit e at why = (why.0, λ room. why.1 (set_fits bytes node name value e at room))
set_refused bytes node name value _ e at why = absurd why

-- ---- a child

size_added : (bytes : List ℕ) (node : ℕ) (name : Name) → IsEditable bytes → IsNode (placed_of bytes) node → stands_in (reading_in bytes) (path_in bytes node ++ name ∷ []) ≡ false
    → size_as bytes (with_child_at (path_in bytes node) name (reading_in bytes)) ≡ size_with_node bytes name
size_added bytes node name e at fresh =
    let t = reading_in bytes in
    let path = path_in bytes node in
    let strings : List ℕ = strings_of bytes in
    let spelled = spelled_in bytes e in
    let held = spelled_tree_size strings t (structure_of bytes) spelled in
    let stands = node_stands bytes node at in
    let total = (edits_of bytes e).blocks.total in
    let tree = tree_with_child t path name stands fresh in
    let same = ap (λ (ns : List Name). length (strings_with strings ns)) (names_with_child t path name stands fresh) in
    let none = ap (λ (b : List ℕ). length b) (with_held strings (property_names t) (spelled_names strings t (structure_of bytes) spelled)) in
    omega arith

add_fits : (bytes : List ℕ) (node : ℕ) (name : Name) → IsEditable bytes → IsNode (placed_of bytes) node → stands_in (reading_in bytes) (path_in bytes node ++ name ∷ []) ≡ false
    → HasRoom bytes (with_child_at (path_in bytes node) name (reading_in bytes)) → (1 + node_count (reading_in bytes).children < most_nodes) × FitsIn most_bytes (size_with_node bytes name)
add_fits bytes node name e at fresh room =
    let small = room.fits in
    let few = room.few in
    let size = size_added bytes node name e at fresh in
    let counted = child_counted (path_in bytes node) name (reading_in bytes) (node_stands bytes node at) fresh in
    (omega arith, record { room = omega arith; limit = omega arith })

pub add_allowed : (bytes : List ℕ) (node : ℕ) (name : Name) → IsEditable bytes → IsNode (placed_of bytes) node → MayAddWithin most_bytes bytes node name
    → MayAddAt (HasRoom bytes) (reading_in bytes) (path_in bytes node) name
add_allowed bytes node name e at may =
    let small = may.fits.room in
    let few = may.few in
    let size = size_added bytes node name e at may.fresh in
    let counted = child_counted (path_in bytes node) name (reading_in bytes) (node_stands bytes node at) may.fresh in
    record { fresh = may.fresh; room = record { few = omega arith; fits = omega arith }; shallow = may.shallow }

pub add_refused : (bytes : List ℕ) (node : ℕ) (name : Name) (kind : FaultKind) → IsEditable bytes → IsNode (placed_of bytes) node → WhyNotAddedOwned kind bytes node name
    → WhyNotAddedAt (HasRoom bytes) kind (reading_in bytes) (path_in bytes node) name
add_refused bytes node name NoMemory e at why = add_allowed bytes node name e at why
add_refused bytes node name Duplicate e at why = why
add_refused bytes node name Limit e at (fresh, inl deep) = elim (cases_lt (length (path_in bytes node)) most_names) [
  | inl less ↦ (fresh, inl (λ room. deep (less, (add_fits bytes node name e at fresh room).0)))
  | inr more ↦ (fresh, inr more)
]
add_refused bytes node name Limit e at (fresh, inr long) = (fresh, inl (λ room. long (add_fits bytes node name e at fresh room).1))
add_refused bytes node name _ e at why = absurd why

-- ---- what edits keep

reserved_same : (old new : List ℕ) (t : Reading) → reading_in new ≡ t → t.reservations ≡ (reading_in old).reservations
    → length (reservation_block (placed_of new).reservations) ≡ length (reservation_block (placed_of old).reservations)
reserved_same old new t reads same = ap (λ (u : Reading). length (reservation_block u.reservations)) reads ∙ ap (λ rs. length (reservation_block rs)) same

pub set_follows : (old new : List ℕ) (node : ℕ) (name : Name) (value : List ℕ) → IsEditable old → IsNode (placed_of old) node → IsEditable new
    → reading_in new ≡ with_property_at (path_in old node) name value (reading_in old) → strings_of new ≡ strings_of old ++ added_name old name → number new 4 ≡ size_with_value old node name value
    → Follows old new
set_follows old new node name value e at now reads strings size =
    let t = reading_in old in
    let path = path_in old node in
    let next = with_property_at path name value t in
    let stands = node_stands old node at in
    let held = spelled_tree_size (strings_of old) t (structure_of old) (spelled_in old e) in
    let total = (edits_of old e).blocks.total in
    let grown = (edits_of new now).blocks.total in
    let reserved = reserved_same old new next reads refl in
    let tree = tree_with_property t path name value stands in
    let same = ap tree_size reads in
    let longer = ap (λ (b : List ℕ). length b) strings in
    let more = length-append (strings_of old) (added_name old name) in
    let brought = length_brought (place_in (strings_of old) name) name in
    let names = names_with_property t path name value stands in
    let there : IsIn name (property_names (reading_in new)) = subst (λ (u : Reading). IsIn name (property_names u)) (sym reads) names.there in
    record {
      spare = omega arith;
      names = name ∷ [];
      strings = strings;
      used = λ n in-names. only n there in-names;
      kept = λ n in-old. subst (λ (u : Reading). IsIn n (property_names u)) (sym reads) (names.stay n in-old);
    }
  where
    only : (n : Name) → IsIn name (property_names (reading_in new)) → IsIn n (name ∷ []) → IsIn n (property_names (reading_in new))
    only n there (inl same) = subst (λ (m : Name). IsIn m (property_names (reading_in new))) (sym same) there
    only n there (inr none) = absurd none

pub child_follows : (old new : List ℕ) (node : ℕ) (name : Name) → IsEditable old → IsNode (placed_of old) node → IsEditable new → stands_in (reading_in old) (path_in old node ++ name ∷ []) ≡ false
    → reading_in new ≡ with_child_at (path_in old node) name (reading_in old) → strings_of new ≡ strings_of old → number new 4 ≡ size_with_node old name → Follows old new
child_follows old new node name e at now fresh reads strings size =
    let t = reading_in old in
    let path = path_in old node in
    let next = with_child_at path name t in
    let stands = node_stands old node at in
    let held = spelled_tree_size (strings_of old) t (structure_of old) (spelled_in old e) in
    let total = (edits_of old e).blocks.total in
    let grown = (edits_of new now).blocks.total in
    let reserved = reserved_same old new next reads refl in
    let tree = tree_with_child t path name stands fresh in
    let same = ap tree_size reads in
    let longer = ap (λ (b : List ℕ). length b) strings in
    let names : property_names (reading_in new) ≡ property_names t = ap property_names reads ∙ names_with_child t path name stands fresh in
    record {
      spare = omega arith;
      names = [];
      strings = strings;
      used = λ n none. absurd none;
      kept = λ n there. subst (IsIn n) (sym names) there;
    }

-- a value that is as long as the one that was there
pub patch_follows : (old new : List ℕ) (node : ℕ) (name : Name) (was value : List ℕ) → IsEditable old → IsNode (placed_of old) node → IsEditable new
    → value_in (reading_in old) (path_in old node) name ≡ Some was → length value ≡ length was
    → reading_in new ≡ with_property_at (path_in old node) name value (reading_in old) → strings_of new ≡ strings_of old → number new 4 ≡ number old 4
    → Follows old new
patch_follows old new node name was value e at now there long reads strings size =
    let t = reading_in old in
    let path = path_in old node in
    let next = with_property_at path name value t in
    let stands = node_stands old node at in
    let held = spelled_tree_size (strings_of old) t (structure_of old) (spelled_in old e) in
    let total = (edits_of old e).blocks.total in
    let grown = (edits_of new now).blocks.total in
    let reserved = reserved_same old new next reads refl in
    let tree = tree_with_property t path name value stands in
    let same = ap tree_size reads in
    let longer = ap (λ (b : List ℕ). length b) strings in
    let taken = ap property_size there in
    let names = names_with_property t path name value stands in
    record {
      spare = omega arith;
      names = [];
      strings = strings;
      used = λ n none. absurd none;
      kept = λ n in-old. subst (λ (u : Reading). IsIn n (property_names u)) (sym reads) (names.stay n in-old);
    }

-- a blob that holds a tree has room for it
room_held : (old new : List ℕ) → IsEditable new → Follows old new → strings_of new ≡ strings_of old → (reading_in new).reservations ≡ (reading_in old).reservations → HasRoom old (reading_in new)
room_held old new now f strings reserved =
    let edits = edits_of new now in
    let t = reading_in new in
    let spelled = spelled_in new now in
    let held = spelled_tree_size (strings_of new) t (structure_of new) spelled in
    let none = ap (λ (b : List ℕ). length b) (with_held (strings_of new) (property_names t) (spelled_names (strings_of new) t (structure_of new) spelled)) in
    let same = ap (λ (s : List ℕ). length (strings_with s (property_names t))) strings in
    let total = edits.blocks.total in
    let small = edits.short in
    let spare = f.spare in
    let block = ap (λ rs. length (reservation_block rs)) reserved in
    record { few = edits.within.count; fits = omega arith }

-- ---- by an edit's outcome

pub set_keeps : {A E : Type 0} (r : Result A E) (old new : List ℕ) (node : ℕ) (name : Name) (value : List ℕ) → IsEditable old → IsNode (placed_of old) node → IsWhole new
    → OnOk r (reading_in new ≡ with_property_at (path_in old node) name value (reading_in old)) → OnOk r (strings_of new ≡ strings_of old ++ added_name old name) → OnOk r (length new ≡ size_with_value old node name value)
    → OnErr r (new ≡ old) → Follows old new
set_keeps (Ok x) old new node name value e at now reads strings size err = set_follows old new node name value e at now.editable reads strings (now.whole ∙ size)
set_keeps (Err x) old new node name value e at now reads strings size err = subst (Follows old) (sym err) (follows_own old)

patched_long : (old : List ℕ) (node : ℕ) (name : Name) (offset n : ℕ) → (has : HasCellAt old node name offset) → length (value_patched old node name offset n) ≡ length has.0
patched_long old node name offset n has =
    let le = has.2 in
    let kept : length (with_cell has.0 offset n) ≡ length has.0 = length_put offset (word n) has.0 (omega arith) in
    ap (λ (o : Option (List ℕ)). length (with_cell (unwrap_or o []) offset n)) has.1 ∙ kept

patch_keeps_so : (old new : List ℕ) (node : ℕ) (name : Name) (offset n : ℕ) → IsEditable old → IsNode (placed_of old) node → HasCellAt old node name offset → IsWhole new → IsWhole old
    → reading_in new ≡ with_property_at (path_in old node) name (value_patched old node name offset n) (reading_in old) → strings_of new ≡ strings_of old → length new ≡ length old → Follows old new
patch_keeps_so old new node name offset n e at has now was reads strings size =
    patch_follows old new node name has.0 (value_patched old node name offset n) e at now.editable has.1 (patched_long old node name offset n has) reads strings (now.whole ∙ size ∙ sym was.whole)

pub patch_keeps : {A E : Type 0} (r : Result A E) (old new : List ℕ) (node : ℕ) (name : Name) (offset n : ℕ) → IsWhole old → IsNode (placed_of old) node → HasCellAt old node name offset → IsWhole new
    → OnOk r (reading_in new ≡ with_property_at (path_in old node) name (value_patched old node name offset n) (reading_in old)) → OnOk r (strings_of new ≡ strings_of old) → OnOk r (length new ≡ length old)
    → OnErr r (new ≡ old) → Follows old new
patch_keeps (Ok x) old new node name offset n was at has now reads strings size err = patch_keeps_so old new node name offset n was.editable at has now was reads strings size
patch_keeps (Err x) old new node name offset n was at has now reads strings size err = subst (Follows old) (sym err) (follows_own old)

pub patch_allowed : {A E : Type 0} (r : Result A E) (old new : List ℕ) (node : ℕ) (name : Name) (offset n : ℕ) → IsWhole old → IsNode (placed_of old) node → HasCellAt old node name offset → IsWhole new
    → OnOk r (reading_in new ≡ with_property_at (path_in old node) name (value_patched old node name offset n) (reading_in old)) → OnOk r (strings_of new ≡ strings_of old) → OnOk r (length new ≡ length old)
    → (IsOk r → MayPatchIn old node name offset n) → IsOk r → HasRoomAt (HasRoom old) (reading_in old) (path_in old node) name (value_patched old node name offset n)
patch_allowed (Ok x) old new node name offset n was at has now reads strings size may ok =
    let f = patch_keeps_so old new node name offset n was.editable at has now was reads strings size in
    record {
      may = may ok;
      room = subst (HasRoom old) reads (room_held old new now.editable f strings (ap (λ (t : Reading). t.reservations) reads));
    }
patch_allowed (Err x) old new node name offset n was at has now reads strings size may ok = absurd cc
