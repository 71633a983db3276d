-- A blob with other bytes behind it is the same blob; and what becomes of one that was changed where it had room.
use Rattle.std.proofs.Common.{◌≡◌, ℕ, ◌+◌, ◌<◌, ◌≤◌, List, [], ◌++◌, length, take, drop, Option, Result, Ok, Err, refl, sym, ap, subst, ◌∙◌, arith}
use Rattle.std.specs.Prelude.{OnOk, OnErr}
use Rattle.std.proofs.lemmas.List.{append-nil, length-take-le, take_all, take_at}
use Rattle.dt_model.specs.Changes.{with_child_at, with_property_at}
use Rattle.dt_model.specs.Checks.{number, strings_of, structure_of}
use Rattle.dt_model.specs.Format.{reservation_block, SpellsTree}
use Rattle.dt_model.specs.Limits.{most_bytes}
use Rattle.dt_model.specs.Names.{Name, IsNodeName, IsPropertyName}
use Rattle.dt_model.specs.Tree.{Reading}
use Rattle.dt_model_format.proofs.NoFaults.{spelled_tree_of}
use Rattle.dt_model_format.specs.Strings.{place_in}
use Rattle.dt_names.specs.declared.fault.FaultKind.{FaultKind}
use Rattle.dt_names.specs.declared.fault.FaultKind.TheVariants.{NoMemory, Limit, BlobPhandle, Duplicate}
use Rattle.dt_overlay_base.specs.Targets.{MaySetAt}
use Rattle.dt_read.specs.Checked.{placed_of, root_of}
use Rattle.dt_read.specs.Cuts.{changed_root, with_value, moved, moved_root, spliced}
use Rattle.dt_read.specs.Marks.{Root}
use Rattle.dt_read.specs.Parsing.{tree_in}
use Rattle.dt_trees.specs.Placed.{PlacedTree, IsNode}
use Rattle.dt_read.proofs.CheckedBytes.{placed_is_read}
use Rattle.dt_write.specs.Written.{assembled}
use Rattle.dt_write.proofs.WrittenReads.{assembled_length}
use Rattle.dt_edit.specs.declared.children.NodePlan.{NodePlan}
use Rattle.dt_edit.specs.declared.layout.Layout.{Layout}
use Rattle.dt_edit.specs.declared.properties.PropertyPlan.{PropertyPlan}
use Rattle.dt_edit.specs.Editable.{reading_in, path_in, name_size, size_with_node, size_with_value, FitsIn, IsEditable, IsWhole, MayAddWithin, WhyNotAddedOwned, WhyNotAddedWithin, WhyNotSetOwned, WhyNotSetWithin}
use Rattle.dt_edit.specs.Moving.{node_bytes, property_bytes}
use Rattle.dt_edit.specs.Plans.{added_name, brought_by, name_offset, place_or, size_of_blocks, HasNodeRoom, HasOtherBlocks, HasPropertyRoom, IsLayout, IsNodePlan, IsPropertyPlan}
use Rattle.dt_edit.proofs.Assembling.{IsAssembled, IsEdited, assembled_is, edits_of}
use Rattle.dt_edit.proofs.ChildrenAdded.{root_with_node, node_added, node_total}
use Rattle.dt_edit.proofs.PropertiesSet.{property_set, property_total}

pub record IsSameBlob (x y : List ℕ) : Type 0 where
  pub editable : IsEditable y
  pub boot_cpu : number y 28 ≡ number x 28
  pub total : number y 4 ≡ number x 4
  pub structure : structure_of y ≡ structure_of x
  pub strings : strings_of y ≡ strings_of x
  pub placed : placed_of y ≡ placed_of x

-- the structure block spells the tree
pub spelled_in : (bytes : List ℕ) → IsEditable bytes → SpellsTree (strings_of bytes) (reading_in bytes).properties (reading_in bytes).children (structure_of bytes)
spelled_in bytes e =
    let same : reading_in bytes ≡ e.blob.0 = placed_is_read bytes e.blob.0 e.blob.1 e.blob.2 in
    subst (λ (t : Reading). SpellsTree (strings_of bytes) t.properties t.children (structure_of bytes)) (sym same) (spelled_tree_of bytes e.blob.0 e.blob.1)

same_front : (x rest : List ℕ) → IsEditable x → IsSameBlob x (take (number x 4) x ++ rest)
unfolding placed_of
same_front x rest e =
    let edits = edits_of x e in
    let t : Reading = reading_in x in
    let r : List ℕ = reservation_block t.reservations in
    let s : List ℕ = structure_of x in
    let n : List ℕ = strings_of x in
    let y : List ℕ = take (number x 4) x ++ rest in
    let total = edits.blocks.total in
    let short = edits.short in
    let tree : SpellsTree n t.properties t.children s = spelled_in x e in
    let is : y ≡ assembled t.boot_cpu r s n ++ rest = (λ i. e.whole i ++ rest) ∙ (λ i. assembled (sym edits.cpu i) r s n ++ rest) in
    let a : IsAssembled y t s n = subst (λ (z : List ℕ). IsAssembled z t s n) (sym is) (assembled_is t s n rest edits.valid edits.within (omega arith) tree) in
    let now = edits_of y a.editable in
    let boot : number y 28 ≡ number x 28 = sym now.cpu ∙ ap (λ (u : Reading). u.boot_cpu) a.reads ∙ edits.cpu in
    let place : number y 8 ≡ number x 8 = a.structure_at ∙ sym edits.blocks.structure_at in
    let root : root_of y ≡ root_of x = λ i. tree_in (a.strings i) (place i) (a.structure i) in
    let reserved = ap (λ (u : Reading). u.reservations) a.reads in
    record {
      editable = a.editable;
      boot_cpu = boot;
      total = a.total ∙ sym total;
      structure = a.structure;
      strings = a.strings;
      placed = λ i. record { boot_cpu = boot i; reservations = reserved i; place = (root i).place; properties = (root i).properties; children = (root i).children };
    }

-- none behind it
pub same_own : (x : List ℕ) → IsEditable x → IsSameBlob x x
same_own x e = record { editable = e; boot_cpu = refl; total = refl; structure = refl; strings = refl; placed = refl }

-- bytes behind a blob that had none
pub same_blob : (x y zeros : List ℕ) → IsWhole x → y ≡ x ++ zeros → IsSameBlob x y
same_blob x y zeros w e =
    let all : take (number x 4) x ≡ x = take_all (number x 4) x (let whole = w.whole in omega arith) in
    subst (IsSameBlob x) (sym (e ∙ ap (λ (front : List ℕ). front ++ zeros) (sym all))) (same_front x zeros w.editable)

layout_grown : (x y : List ℕ) (l : Layout) → IsSameBlob x y → IsLayout x l → IsLayout y l
layout_grown x y l s i = record {
  boot_cpu = i.boot_cpu ∙ sym s.boot_cpu;
  structure_at = i.structure_at ∙ ap (λ (t : PlacedTree). 40 + length (reservation_block t.reservations)) (sym s.placed);
  structure = i.structure ∙ ap (λ (b : List ℕ). length b) (sym s.structure);
  strings = i.strings ∙ ap (λ (b : List ℕ). length b) (sym s.strings);
  total = i.total ∙ sym s.total;
}

-- what is refused for want of room in lent bytes is refused so in a blob's own
pub set_owned : (kind : FaultKind) (bytes : List ℕ) (node : ℕ) (name : Name) (value : List ℕ) → WhyNotSetWithin most_bytes kind bytes node name value → WhyNotSetOwned kind bytes node name value
set_owned NoMemory bytes node name value why = absurd why
set_owned BlobPhandle bytes node name value why = why
set_owned Limit bytes node name value why = why
set_owned _ bytes node name value why = absurd why

pub added_owned : (kind : FaultKind) (bytes : List ℕ) (node : ℕ) (name : Name) → WhyNotAddedWithin most_bytes kind bytes node name → WhyNotAddedOwned kind bytes node name
added_owned NoMemory bytes node name why = absurd why
added_owned Duplicate bytes node name why = why
added_owned Limit bytes node name why = why
added_owned _ bytes node name why = absurd why

-- what is behind a vector's slice is written back to it
pub written : (items new : List ℕ) (len : ℕ) → length items ≡ len → length new ≡ length items → take len (new ++ drop (length new) items) ≡ new
written items new len long same = take_at new (drop (length new) items) len (omega arith)

-- a blob that was changed where it lies, or not at all, has nothing behind it
pub still_whole : {A E : Type 0} (r : Result A E) (old new : List ℕ) → IsWhole old → length new ≡ length old → IsEditable new → OnOk r (number new 4 ≡ number old 4) → OnErr r (new ≡ old) → IsWhole new
still_whole (Ok x) old new w long e size err = record { editable = e; whole = size ∙ w.whole ∙ sym long }
still_whole (Err x) old new w long e size err = subst IsWhole (sym err) w

-- ---- a property

pub property_room : (x y : List ℕ) (node : ℕ) (name : Name) (value : List ℕ) (p : PropertyPlan) → IsSameBlob x y → IsPropertyPlan x node name p → FitsIn most_bytes (size_with_value x node name value)
    → size_with_value x node name value ≤ length y → number x 4 ≤ length y → HasPropertyRoom y p name value
property_room x y node name value p s plan fits room whole =
    let inside = plan.cut.behind.inside in
    let taken = plan.cut.taken in
    let limit = fits.limit in
    let structure = ap (λ (b : List ℕ). length b) s.structure in
    let total = s.total in
    let layout = plan.layout.total in
    let first = plan.layout.structure in
    let names : place_in (strings_of y) name ≡ place_in (strings_of x) name = ap (λ (b : List ℕ). place_in b name) s.strings in
    let grown = ap (λ (o : Option ℕ). name_size o name) names in
    record {
      layout = layout_grown x y p.layout s plan.layout;
      inside = omega arith;
      place = plan.place ∙ sym names;
      short = omega arith;
      room = omega arith;
      limit = omega arith;
    }

-- what the blob is once bytes behind it are cut off
pub record IsChangedBlob (y : List ℕ) (t : Reading) (root : Root) (s n : List ℕ) (size : ℕ) : Type 0 where
  pub is : IsEdited y t root s n
  pub whole : IsWhole y
  pub long : length y ≡ size

-- the front of bytes that are some others and more
front_of : (y b rest : List ℕ) (size : ℕ) → y ≡ b ++ rest → length b ≡ size → take size y ≡ b ++ []
front_of y b rest size e len = ap (take size) e ∙ take_at b rest size len ∙ sym (append-nil b)

pub property_owned : (old y new : List ℕ) (node : ℕ) (name : Name) (value : List ℕ) (p : PropertyPlan) → IsEditable old → IsSameBlob old y → IsPropertyName name → MaySetAt (reading_in old) (path_in old node) name value
    → IsPropertyPlan old node name p → p.size ≡ size_with_value old node name value → FitsIn most_bytes (size_with_value old node name value) → p.size ≤ length new
    → HasOtherBlocks y new (spliced p.cut.at p.cut.size (property_bytes (name_offset y name) value) (structure_of y)) (strings_of y ++ added_name y name)
    → IsChangedBlob (take p.size new) (with_property_at (path_in old node) name value (reading_in old))
    (changed_root (with_value name value) (path_in old node) (moved_root (moved (number old 8 + p.cut.at) p.cut.size (length (property_bytes (name_offset old name) value))) (root_of old)))
    (spliced p.cut.at p.cut.size (property_bytes (name_offset old name) value) (structure_of old)) (strings_of old ++ added_name old name) p.size
property_owned old y new node name value p e same named may plan size fits room other =
    let offset : List ℕ → ℕ = λ strings. place_or (place_in strings name) (length strings) in
    let s : List ℕ = spliced p.cut.at p.cut.size (property_bytes (name_offset old name) value) (structure_of old) in
    let n : List ℕ = strings_of old ++ added_name old name in
    let r : List ℕ = reservation_block (placed_of old).reservations in
    let rest : List ℕ = drop (size_of_blocks y (spliced p.cut.at p.cut.size (property_bytes (name_offset y name) value) (structure_of y)) (strings_of y ++ added_name y name)) y in
    let is : new ≡ assembled (number old 28) r s n ++ rest =
    other ∙ (λ i. assembled (same.boot_cpu i) (reservation_block (same.placed i).reservations) (spliced p.cut.at p.cut.size (property_bytes (offset (same.strings i)) value) (same.structure i))
    (same.strings i ++ brought_by (place_in (same.strings i) name) name) ++ rest) in
    let first = property_set old new rest node name value p e named may plan fits.limit is in
    let total = property_total old new node name value p _ _ e plan refl first in
    let counted = first.is.total in
    let long = assembled_length (number old 28) r s n in
    let front = front_of new (assembled (number old 28) r s n) rest p.size is (omega (arith, total, counted, long, size)) in
    let done = property_set old (take p.size new) [] node name value p e named may plan fits.limit front in
    let wide = length-take-le p.size new room in
    record {
      is = done;
      whole = record { editable = done.is.editable; whole = property_total old (take p.size new) node name value p _ _ e plan refl done ∙ sym size ∙ sym wide };
      long = wide;
    }

-- ---- a child

pub node_room : (x y : List ℕ) (node : ℕ) (name : Name) (p : NodePlan) → IsSameBlob x y → IsNodePlan x node p → FitsIn most_bytes (size_with_node x name) → length name < 256
    → size_with_node x name ≤ length y → HasNodeRoom y p name
node_room x y node name p s plan fits short room =
    let inside = plan.cut.behind.inside in
    let structure = ap (λ (b : List ℕ). length b) s.structure in
    let total = s.total in
    let limit = fits.limit in
    record {
      layout = layout_grown x y p.layout s plan.layout;
      inside = omega arith;
      short = short;
      fits = record { room = omega arith; limit = omega arith };
    }

pub node_owned : (old y new : List ℕ) (node : ℕ) (name : Name) (p : NodePlan) → IsEditable old → IsSameBlob old y → IsNode (placed_of old) node → IsNodeName name → MayAddWithin most_bytes old node name → IsNodePlan old node p
    → p.size ≡ size_with_node old name → length new ≡ p.size
    → HasOtherBlocks y new (spliced p.cut 0 (node_bytes name) (structure_of y)) (strings_of y ++ [])
    → IsChangedBlob new (with_child_at (path_in old node) name (reading_in old)) (root_with_node old node p.cut name) (spliced p.cut 0 (node_bytes name) (structure_of old)) (strings_of old ++ []) p.size
node_owned old y new node name p e same at named may plan size long other =
    let s : List ℕ = spliced p.cut 0 (node_bytes name) (structure_of old) in
    let n : List ℕ = strings_of old ++ [] in
    let rest : List ℕ = drop (size_of_blocks y (spliced p.cut 0 (node_bytes name) (structure_of y)) (strings_of y ++ [])) y in
    let is : new ≡ assembled (number old 28) (reservation_block (placed_of old).reservations) s n ++ rest =
    other ∙ (λ i. assembled (same.boot_cpu i) (reservation_block (same.placed i).reservations) (spliced p.cut 0 (node_bytes name) (same.structure i)) (same.strings i ++ []) ++ rest) in
    let done = node_added old new rest node most_bytes name p e at named may plan is in
    record {
      is = done;
      whole = record { editable = done.is.editable; whole = node_total old new node name p _ _ e plan refl done ∙ sym size ∙ sym long };
      long = long;
    }
