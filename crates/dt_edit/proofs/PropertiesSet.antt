-- A blob with a property set is read as the tree with that property set.
use Rattle.std.proofs.Common.{◌≡◌, ℕ, ◌+◌, ◌-◌, ◌%◌, ◌^◌, ◌<◌, ◌≤◌, List, [], ◌++◌, length, Option, Some, None, refl, sym, ap, subst, ◌∙◌, arith}
use Rattle.std.specs.Option.{option_map}
use Rattle.std.proofs.lemmas.List.{length-append, length-replicate, drop_at}
use Rattle.dt_model.specs.Changes.{set_property, changed_below, with_property_at}
use Rattle.dt_model.specs.Checks.{number, strings_of, structure_of}
use Rattle.dt_model.specs.Format.{word, IsText, IsPadded, HoldsName, SpellsProperty, reservation_block}
use Rattle.dt_model.specs.Limits.{most_bytes}
use Rattle.dt_model.specs.Names.{Name, IsPropertyName}
use Rattle.dt_model.specs.Path.{Path}
use Rattle.dt_model.specs.Tree as tree
use Rattle.dt_model.specs.Tree.{Node, Reading, Forest}
use Rattle.dt_model_format.specs.Strings.{place_in, terminated}
use Rattle.dt_overlay_base.specs.Targets.{MaySetAt}
use Rattle.dt_read.specs.Checked.{placed_of, root_of}
use Rattle.dt_read.specs.Cuts.{Content, content_of, changed_root, with_value, moved, moved_root, spliced, SpellsRoot, IsPropertyCut}
use Rattle.dt_read.specs.Marks.{Root}
use Rattle.dt_trees.specs.Placed.{place_below, IsAt}
use Rattle.dt_read.proofs.ChangedPlaces.{plain_content, IsChangeOf, KeepsPlaces, moved_forest, changed_plainly, moved_place, kept_places}
use Rattle.dt_read.proofs.Splices.{holds_still, stays_there}
use Rattle.dt_write.specs.Written.{zeros_after, assembled}
use Rattle.dt_write.proofs.Places.{sound}
use Rattle.dt_write.proofs.WrittenReads.{property_text}
use Rattle.dt_edit.specs.declared.properties.PropertyPlan.{PropertyPlan}
use Rattle.dt_edit.specs.Editable.{reading_in, path_in, size_with_value, IsEditable}
use Rattle.dt_edit.specs.Moving.{property_bytes}
use Rattle.dt_edit.specs.Plans.{brought_by, added_name, place_or, name_offset, IsPropertyPlan}
use Rattle.dt_edit.proofs.Assembling.{edits_of, IsEdited, edited}
use Rattle.dt_edit.proofs.Carrying.{length_property, length_spliced, length_brought, place_small}
use Rattle.dt_edit.proofs.ValidChanges.{valid_with_property, within_with_property}

-- ---- any change

-- a tree of moved nodes with one of them changed reads as the tree with that change
pub changed_reads : (bytes : List ℕ) (change : Content → Content) (plain : Node → Node) (f : ℕ → ℕ) (p : Path) → IsChangeOf change plain
    → plain_content (content_of (changed_root change p (moved_root f (root_of bytes)))) ≡ changed_below plain p (tree.root_of (reading_in bytes))
unfolding placed_of
changed_reads bytes change plain f p same =
    let root = root_of bytes in
    changed_plainly change plain same p (content_of (moved_root f root))
    ∙ ap (λ (fs : Forest). changed_below plain p (record { properties = root.properties; children = fs })) (moved_forest f root.children)

-- and its nodes are where they came to be
pub changed_places : (bytes : List ℕ) (change : Content → Content) (f : ℕ → ℕ) (p q : Path) (j : ℕ) → KeepsPlaces change → IsAt (placed_of bytes) q j
    → (let r : Root = changed_root change p (moved_root f (root_of bytes)) in place_below r.place r.children q ≡ Some (f j))
unfolding placed_of
changed_places bytes change f p q j keeps at =
    let root = root_of bytes in
    kept_places change keeps p (content_of (moved_root f root)) (f root.place) q (f j) (moved_place f root.children root.place q ∙ ap (option_map f) at)

-- a place in a tree of bytes is one in their root
pub place_in_root : (bytes : List ℕ) (root : Root) (q : Path) (j : ℕ) → root_of bytes ≡ root → place_below root.place root.children q ≡ Some j → IsAt (placed_of bytes) q j
unfolding placed_of
place_in_root bytes root q j same at = subst (λ (r : Root). place_below r.place r.children q ≡ Some j) (sym same) at

-- ---- a property's token

property_padded : (offset : ℕ) (value : List ℕ) → IsPadded (word 3 ++ (word (length value) ++ (word offset ++ value))) (property_bytes offset value)
property_padded offset value =
    let n : ℕ = length value in
    let zeros : List ℕ = zeros_after n in
    let pad : length zeros ≡ (4 - n % 4) % 4 = length-replicate ((4 - n % 4) % 4) 0 in
    record {
      padding = zeros;
      whole = refl;
      short = omega (arith, pad);
      aligned = omega (arith, pad, length-append value zeros);
    }

-- the strings hold a name, once it is brought
brought_holds : (strings : List ℕ) (name : Name) → IsText name → (o : Option ℕ) → place_in strings name ≡ o → HoldsName (strings ++ brought_by o name) (place_or o (length strings)) name
brought_holds strings name text None e = record { rest = []; stands = drop_at strings (terminated name) (length strings) refl; text = text }
brought_holds strings name text (Some k) e = holds_still strings [] k name (sound strings name k text e)

property_spelled : (bytes : List ℕ) (name : Name) (value : List ℕ) → IsText name → length (strings_of bytes) < 2 ^ 32 → length value < 2 ^ 32
    → SpellsProperty (strings_of bytes ++ added_name bytes name) (record { name = name; value = value }) (property_bytes (name_offset bytes name) value)
property_spelled bytes name value text short fits = record {
  offset = name_offset bytes name;
  offset_fits = omega (arith, place_small (strings_of bytes) name);
  length_fits = fits;
  named = brought_holds (strings_of bytes) name text (place_in (strings_of bytes) name) refl;
  bytes = property_padded (name_offset bytes name) value;
}

-- ---- the blob

-- whatever token of the property comes there, and whatever is behind the blob
pub token_set : (old new rest : List ℕ) (node : ℕ) (name : Name) (value own more : List ℕ) (cut size : ℕ) → IsEditable old → IsPropertyName name → MaySetAt (reading_in old) (path_in old node) name value
    → IsPropertyCut old node name cut size → SpellsProperty (strings_of old ++ more) (record { name = name; value = value }) own → number old 4 + length own + length more ≤ most_bytes + size
    → new ≡ assembled (number old 28) (reservation_block (placed_of old).reservations) (spliced cut size own (structure_of old)) (strings_of old ++ more) ++ rest
    → IsEdited new (with_property_at (path_in old node) name value (reading_in old))
    (changed_root (with_value name value) (path_in old node) (moved_root (moved (number old 8 + cut) size (length own)) (root_of old)))
    (spliced cut size own (structure_of old)) (strings_of old ++ more)
token_set old new rest node name value own more cut size e named may is token limit other =
    let edits = edits_of old e in
    let path = path_in old node in
    let f : ℕ → ℕ = moved (number old 8 + cut) size (length own) in
    let root : Root = changed_root (with_value name value) path (moved_root f (root_of old)) in
    let t : Reading = with_property_at path name value (reading_in old) in
    let s : List ℕ = spliced cut size own (structure_of old) in
    let n : List ℕ = strings_of old ++ more in
    let place = edits.blocks.structure_at in
    let total = edits.blocks.total in
    let longer = length_spliced cut size own (structure_of old) is.behind.inside in
    let names = length-append (strings_of old) more in
    let spelled : SpellsRoot n (number old 8) s root = is.becomes value own more token in
    let reads = changed_reads old (with_value name value) (λ m. record { properties = set_property m.properties name value; children = m.children }) f path (λ c. refl) in
    let done = edited t root s n rest (valid_with_property (reading_in old) path name value edits.valid named may) (within_with_property (reading_in old) path name value edits.within) (omega arith)
    (sym (ap (λ (m : Node). m.properties) reads)) (sym (ap (λ (m : Node). m.children) reads)) (subst (λ (k : ℕ). SpellsRoot n k s root) place spelled) in
    subst (λ (x : List ℕ). IsEdited x t root s n) (sym (other ∙ ap (λ (cpu : ℕ). assembled cpu (reservation_block (placed_of old).reservations) s n ++ rest) (sym edits.cpu))) done

pub property_set : (old new rest : List ℕ) (node : ℕ) (name : Name) (value : List ℕ) (p : PropertyPlan) → IsEditable old → IsPropertyName name → MaySetAt (reading_in old) (path_in old node) name value
    → IsPropertyPlan old node name p → size_with_value old node name value ≤ most_bytes
    → new ≡ assembled (number old 28) (reservation_block (placed_of old).reservations) (spliced p.cut.at p.cut.size (property_bytes (name_offset old name) value) (structure_of old)) (strings_of old ++ added_name old name) ++ rest
    → IsEdited new (with_property_at (path_in old node) name value (reading_in old))
    (changed_root (with_value name value) (path_in old node) (moved_root (moved (number old 8 + p.cut.at) p.cut.size (length (property_bytes (name_offset old name) value))) (root_of old)))
    (spliced p.cut.at p.cut.size (property_bytes (name_offset old name) value) (structure_of old)) (strings_of old ++ added_name old name)
property_set old new rest node name value p e named may plan limit other =
    let edits = edits_of old e in
    let own : List ℕ = property_bytes (name_offset old name) value in
    let wide = length_property (name_offset old name) value in
    let total = edits.blocks.total in
    let short = edits.short in
    let taken = plan.cut.taken in
    let brought = length_brought (place_in (strings_of old) name) name in
    token_set old new rest node name value own (added_name old name) p.cut.at p.cut.size e named may plan.cut (property_spelled old name value (property_text name named) (omega arith) (omega arith)) (omega arith) other

-- how long it then is
pub property_total : (old new : List ℕ) (node : ℕ) (name : Name) (value : List ℕ) (p : PropertyPlan) (t : Reading) (root : Root) → IsEditable old → IsPropertyPlan old node name p → t.reservations ≡ (placed_of old).reservations
    → IsEdited new t root (spliced p.cut.at p.cut.size (property_bytes (name_offset old name) value) (structure_of old)) (strings_of old ++ added_name old name)
    → number new 4 ≡ size_with_value old node name value
property_total old new node name value p t root e plan same done =
    let edits = edits_of old e in
    let total = edits.blocks.total in
    let wide = length_property (name_offset old name) value in
    let inside = plan.cut.behind.inside in
    let taken = plan.cut.taken in
    let longer = length_spliced p.cut.at p.cut.size (property_bytes (name_offset old name) value) (structure_of old) inside in
    let names = length-append (strings_of old) (added_name old name) in
    let brought = length_brought (place_in (strings_of old) name) name in
    let reserved = ap (λ rs. length (reservation_block rs)) same in
    let now = done.is.total in
    omega arith

-- nodes that aren't behind it stay where they are
pub property_places : (old new : List ℕ) (node : ℕ) (name : Name) (value own : List ℕ) (cut size : ℕ) (t : Reading) (s n : List ℕ) (q : Path) (place : ℕ) → node < number old 8 + cut
    → IsEdited new t (changed_root (with_value name value) (path_in old node) (moved_root (moved (number old 8 + cut) size (length own)) (root_of old))) s n
    → IsAt (placed_of old) q place → place ≤ node → IsAt (placed_of new) q place
property_places old new node name value own cut size t s n q place begun done at le =
    let f : ℕ → ℕ = moved (number old 8 + cut) size (length own) in
    let root : Root = changed_root (with_value name value) (path_in old node) (moved_root f (root_of old)) in
    let there = changed_places old (with_value name value) f (path_in old node) q place (λ c at p j e. e) at in
    place_in_root new root q place done.rooted (there ∙ ap (λ (k : ℕ). Some k) (stays_there (number old 8 + cut) size (length own) place (omega arith)))
