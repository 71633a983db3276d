-- A blob with a cell patched is read as the tree with that cell patched.
use Rattle.std.proofs.Common.{◌≡◌, ◌↔◌, ℕ, zero, suc, ◌+◌, ◌≤◌, Bool, true, false, List, [], ◌∷◌, ◌++◌, length, take, drop, codes, Option, Some, refl, sym, ap, subst, ◌∙◌, append_assoc, arith}
use Rattle.std.specs.Prelude.{nat_lt, unwrap_or}
use Rattle.std.proofs.lemmas.List.{append-nil, length-append, length-drop, length-take-le, drop-append-le, take-append-le, take-append-drop, drop-drop}
use Rattle.std.proofs.lemmas.Option.{same_Some}
use Rattle.std.proofs.Math.Seq.{drop-append-add, take-append-add}
use Rattle.dt_model.specs.Applied.{with_cell}
use Rattle.dt_model.specs.Changes.{with_property_at}
use Rattle.dt_model.specs.Checks.{number, strings_of, structure_of}
use Rattle.dt_model.specs.Format.{word, part, reservation_block, SpellsProperty}
use Rattle.dt_model.specs.Lexing.{padded}
use Rattle.dt_model.specs.Meaning.{cell}
use Rattle.dt_model.specs.Names.{Name, IsPropertyName}
use Rattle.dt_model.specs.Path.{Path}
use Rattle.dt_model.specs.Tree.{Reading, value_in}
use Rattle.dt_model.specs.Valid.{IsPhandle, IsValid}
use Rattle.dt_overlay_base.specs.Targets.{MaySetAt}
use Rattle.dt_overlay_model.proofs.Phandles.{phandle_is}
use Rattle.dt_read.specs.Checked.{placed_of, root_of}
use Rattle.dt_read.specs.Cuts.{changed_root, with_value, moved, moved_root, spliced, property_size, IsTokenOf}
use Rattle.dt_read.specs.Lying.{Lies}
use Rattle.dt_read.specs.Marks.{Root}
use Rattle.dt_read.specs.declared.spans.Span.{Span}
use Rattle.dt_trees.specs.Placed.{IsAt}
use Rattle.dt_read.proofs.Splices.{holds_still}
use Rattle.dt_write.specs.Written.{header}
use Rattle.dt_edit.specs.Editable.{reading_in, path_in, value_patched, HasCellAt, IsEditable, MayPatchIn}
use Rattle.dt_edit.specs.Moving.{put}
use Rattle.dt_edit.specs.Plans.{size_of_blocks, HasOtherBlocks, IsPatched}
use Rattle.dt_edit.proofs.Assembling.{edits_of, IsEdited}
use Rattle.dt_edit.proofs.Carrying.{length_spliced}
use Rattle.dt_edit.proofs.PropertiesSet.{changed_places, place_in_root, token_set}
use Rattle.dt_edit.proofs.Putting.{length_put}

-- ---- bytes within others

-- bytes written over some in the midst of others
put_inside : (p q tail w : List ℕ) (k at : ℕ) → at ≡ length p + k → k + length w ≤ length q → put at w (p ++ (q ++ tail)) ≡ p ++ (put k w q ++ tail)
put_inside p q tail w k at here le =
    let whole : List ℕ = p ++ (q ++ tail) in
    let front : take at whole ≡ p ++ take k q = ap (λ (n : ℕ). take n whole) here ∙ take-append-add p (q ++ tail) k ∙ ap (λ (x : List ℕ). p ++ x) (take-append-le k q tail (omega arith)) in
    let on : at + length w ≡ length p + (k + length w) = omega arith in
    let behind : drop (at + length w) whole ≡ drop (k + length w) q ++ tail = ap (λ (n : ℕ). drop n whole) on ∙ drop-append-add p (q ++ tail) (k + length w) ∙ drop-append-le (k + length w) q tail le in
    (λ i. front i ++ (w ++ behind i)) ∙ regroup p (take k q) w (drop (k + length w) q) tail
  where
    regroup : (a b c d e : List ℕ) → (a ++ b) ++ (c ++ (d ++ e)) ≡ a ++ ((b ++ (c ++ d)) ++ e)
    regroup a b c d e = simp append_assoc

-- ---- the token

-- a property's token with a part of the value written over
token_patched : (strings : List ℕ) (name : Name) (value own w : List ℕ) (offset : ℕ) → offset + length w ≤ length value → SpellsProperty strings (record { name = name; value = value }) own
    → SpellsProperty (strings ++ []) (record { name = name; value = put offset w value }) (put (12 + offset) w own)
token_patched strings name value own w offset le t =
    let b = t.bytes in
    let front : List ℕ = word 3 ++ (word (length value) ++ (word t.offset ++ [])) in
    let same : length (put offset w value) ≡ length value = length_put offset w value le in
    let fits = t.length_fits in
    let inside : put (12 + offset) w (front ++ (value ++ b.padding)) ≡ front ++ (put offset w value ++ b.padding) = put_inside front value b.padding w offset (12 + offset) refl le in
    let whole : put (12 + offset) w own ≡ (word 3 ++ (word (length value) ++ (word t.offset ++ put offset w value))) ++ b.padding = ap (put (12 + offset) w) b.whole ∙ inside in
    let size = ap (λ (x : List ℕ). length x) b.whole in
    let long : length own ≡ 12 + length value + length b.padding = size ∙ omega (arith, length-append value b.padding) in
    let kept : length (put (12 + offset) w own) ≡ length own = length_put (12 + offset) w own (omega arith) in
    let aligned = b.aligned in
    record {
      offset = t.offset;
      offset_fits = t.offset_fits;
      length_fits = omega arith;
      named = holds_still strings [] t.offset name t.named;
      bytes = record {
        padding = b.padding;
        whole = whole ∙ ap (λ (n : ℕ). (word 3 ++ (word n ++ (word t.offset ++ put offset w value))) ++ b.padding) (sym same);
        short = b.short;
        aligned = omega arith;
      };
    }

-- ---- the blocks

-- a part of a structure block, with bytes of it written over where the blob lies
blocks_patched : (old w : List ℕ) (cut size offset at : ℕ) → IsEditable old → cut + size ≤ length (structure_of old) → at ≡ number old 8 + cut + offset → offset + length w ≤ size
    → HasOtherBlocks old (put at w old) (spliced cut size (put offset w (part cut size (structure_of old))) (structure_of old)) (strings_of old ++ [])
blocks_patched old w cut size offset at e inside here le =
    let edits = edits_of old e in
    let cpu : ℕ = number old 28 in
    let r : List ℕ = reservation_block (placed_of old).reservations in
    let s : List ℕ = structure_of old in
    let names : List ℕ = strings_of old in
    let top : List ℕ = header cpu (length r) (length s) (length names) in
    let place = edits.blocks.structure_at in
    let own : List ℕ = part cut size s in
    let s' : List ℕ = spliced cut size (put offset w own) s in
    let wide : length own ≡ size = length-take-le size (drop cut s) (omega (arith, length-drop cut s)) in
    let kept : length (put offset w own) ≡ size = length_put offset w own (omega arith) ∙ wide in
    let behind : List ℕ = drop (cut + size) s in
    let split : s ≡ take cut s ++ (own ++ behind) =
    sym (take-append-drop cut s) ∙ ap (λ (x : List ℕ). take cut s ++ x) (sym (take-append-drop size (drop cut s)) ∙ ap (λ (x : List ℕ). own ++ x) (drop-drop size cut s ∙ ap (λ (n : ℕ). drop n s) (omega arith))) in
    let rest : List ℕ = drop (size_of_blocks old s' (names ++ [])) old in
    let none = append-nil names in
    let counted : length s' ≡ length s = length_spliced cut size (put offset w own) s inside ∙ omega arith in
    let total = edits.blocks.total in
    let left : drop (number old 4) old ≡ rest = ap (λ (n : ℕ). drop n old) (omega (arith, ap (λ (x : List ℕ). length x) none)) in
    let p : List ℕ = (top ++ r) ++ take cut s in
    let long : length p ≡ 40 + length r + cut = omega (arith, length-append (top ++ r) (take cut s), length-append top r, length-take-le cut s (omega arith)) in
    let is : old ≡ p ++ (own ++ (behind ++ (names ++ rest))) =
    edits.is ∙ (λ i. (((top ++ r) ++ split i) ++ names) ++ left i) ∙ apart (top ++ r) (take cut s) own behind names rest in
    let written : put at w old ≡ p ++ (put offset w own ++ (behind ++ (names ++ rest))) = ap (put at w) is ∙ put_inside p own (behind ++ (names ++ rest)) w offset at (omega arith) (omega arith) in
    written ∙ sym (apart (top ++ r) (take cut s) (put offset w own) behind names rest) ∙ (λ i. ((header cpu (length r) (sym counted i) (length (sym none i)) ++ r) ++ s' ++ sym none i) ++ rest)
  where
    apart : (a b c d n x : List ℕ) → ((a ++ (b ++ (c ++ d))) ++ n) ++ x ≡ (a ++ b) ++ (c ++ (d ++ (n ++ x)))
    apart a b c d n x = simp append_assoc

-- ---- the blob

-- the token that is there, of which a value is known
known_token : (strings block : List ℕ) (cut size : ℕ) (name : Name) (value : List ℕ) (found : Option (List ℕ)) → found ≡ Some value → IsTokenOf strings block cut size name found
    → SpellsProperty strings (record { name = name; value = value }) (part cut size block)
known_token strings block cut size name value found e t = let own : IsTokenOf strings block cut size name (Some value) = subst (IsTokenOf strings block cut size name) e t in own

pub cell_patched : (old new : List ℕ) (node : ℕ) (name : Name) (offset n : ℕ) → IsEditable old → IsPropertyName name → HasCellAt old node name offset → MayPatchIn old node name offset n
    → (p : IsPatched old new node name offset n) → (own : List ℕ) × (length own ≡ p.size)
    × IsEdited new (with_property_at (path_in old node) name (value_patched old node name offset n) (reading_in old))
    (changed_root (with_value name (value_patched old node name offset n)) (path_in old node) (moved_root (moved (number old 8 + p.at) p.size (length own)) (root_of old)))
    (spliced p.at p.size own (structure_of old)) (strings_of old ++ [])
cell_patched old new node name offset n e named has may p =
    let edits = edits_of old e in
    let value = has.0 in
    let here = has.1 in
    let w : List ℕ = word n in
    let block : List ℕ = structure_of old in
    let token = known_token (strings_of old) block p.at p.size name value (value_in (reading_in old) (path_in old node) name) here p.cut.token in
    let own : List ℕ = put (12 + offset) w (part p.at p.size block) in
    let taken : p.size ≡ padded (12 + length value) = p.cut.taken ∙ ap property_size here in
    let inside = p.cut.behind.inside in
    let wide : length (part p.at p.size block) ≡ p.size = length-take-le p.size (drop p.at block) (omega (arith, length-drop p.at block)) in
    let enough : 12 + offset + 4 ≤ p.size = let le = has.2 in omega arith in
    let kept : length own ≡ p.size = length_put (12 + offset) w (part p.at p.size block) (omega arith) ∙ wide in
    let same : put offset w value ≡ value_patched old node name offset n = ap (λ (o : Option (List ℕ)). with_cell (unwrap_or o []) offset n) (sym here) in
    let spelled = subst (λ (v : List ℕ). SpellsProperty (strings_of old ++ []) (record { name = name; value = v }) own) same (token_patched (strings_of old) name value (part p.at p.size block) w offset has.2 token) in
    let short = edits.short in
    let blocks = subst (λ (x : List ℕ). HasOtherBlocks old x (spliced p.at p.size own block) (strings_of old ++ [])) (sym p.is)
    (blocks_patched old w p.at p.size (12 + offset) (number old 8 + p.at + 12 + offset) e inside (omega arith) (omega arith)) in (
      own,
      kept,
      token_set old new (drop (size_of_blocks old (spliced p.at p.size own block) (strings_of old ++ [])) old) node name (value_patched old node name offset n) own [] p.at p.size e named may p.cut spelled (omega arith) blocks,
    )

-- the blob is as long as it was
pub cell_total : (old new own : List ℕ) (cut size : ℕ) (t : Reading) (root : Root) → IsEditable old → t.reservations ≡ (placed_of old).reservations → cut + size ≤ length (structure_of old) → length own ≡ size
    → IsEdited new t root (spliced cut size own (structure_of old)) (strings_of old ++ []) → number new 4 ≡ number old 4
cell_total old new own cut size t root e same inside kept done =
    let total = (edits_of old e).blocks.total in
    let longer = length_spliced cut size own (structure_of old) inside in
    let names = ap (λ (x : List ℕ). length x) (append-nil (strings_of old)) in
    let reserved = ap (λ rs. length (reservation_block rs)) same in
    let now = done.is.total in
    omega arith

-- bytes that take the place of as many move nothing
nothing_moves : (from size place : ℕ) → moved from size size place ≡ place
nothing_moves from size place = step (nat_lt place from) refl
  where
    step : (b : Bool) → nat_lt place from ≡ b → moved from size size place ≡ place
    step true is = rw is refl
    step false is = rw is (omega arith)

pub cell_places : (old new own : List ℕ) (node : ℕ) (name : Name) (value : List ℕ) (cut size : ℕ) (t : Reading) (s n : List ℕ) (q : Path) (place : ℕ) → length own ≡ size
    → IsEdited new t (changed_root (with_value name value) (path_in old node) (moved_root (moved (number old 8 + cut) size (length own)) (root_of old))) s n
    → IsAt (placed_of old) q place → IsAt (placed_of new) q place
cell_places old new own node name value cut size t s n q place kept done at =
    let f : ℕ → ℕ = moved (number old 8 + cut) size (length own) in
    let root : Root = changed_root (with_value name value) (path_in old node) (moved_root f (root_of old)) in
    let there = changed_places old (with_value name value) f (path_in old node) q place (λ c at p j e. e) at in
    let still : f place ≡ place = ap (λ (k : ℕ). moved (number old 8 + cut) size k place) kept ∙ nothing_moves (number old 8 + cut) size place in
    place_in_root new root q place done.rooted (there ∙ ap (λ (k : ℕ). Some k) still)

-- ---- whether it is there, and may be

-- a value that lies in so many bytes has the cells that they have
pub cell_there : (bytes : List ℕ) (node : ℕ) (name : Name) (offset : ℕ) (span : Span) (value : List ℕ) → value_in (reading_in bytes) (path_in bytes node) name ≡ Some value → Lies bytes span value
    → HasCellAt bytes node name offset ↔ (offset + 4 ≤ span.len)
cell_there bytes node name offset span value here lies =
    let inside = lies.inside in
    let wide : length value ≡ span.len = sym (ap (λ (x : List ℕ). length x) lies.is) ∙ length-take-le span.len (drop span.at bytes) (omega (arith, length-drop span.at bytes)) in (
      λ has.
          let both : Some has.0 ≡ Some value = sym has.1 ∙ here in
          let same : length has.0 ≡ length value = ap (λ (x : List ℕ). length x) (same_Some has.0 value both) in
          omega (arith, wide, same, has.2),
      λ le. (value, here, omega (arith, wide, le)),
    )

-- the cell of a phandle is all of its value
all_of_phandle : (value : List ℕ) (offset n : ℕ) → length value ≡ 4 → offset + 4 ≤ length value → with_cell value offset n ≡ cell n
all_of_phandle value zero n four le = ap (λ (x : List ℕ). cell n ++ x) (nothing value four) ∙ append-nil (cell n)
  where
    nothing : (v : List ℕ) → length v ≡ 4 → drop 4 v ≡ []
    nothing (a ∷ b ∷ c ∷ d ∷ []) e = refl
    nothing [] e = absurd (omega arith)
    nothing (a ∷ []) e = absurd (omega arith)
    nothing (a ∷ b ∷ []) e = absurd (omega arith)
    nothing (a ∷ b ∷ c ∷ []) e = absurd (omega arith)
    nothing (a ∷ b ∷ c ∷ d ∷ x ∷ v) e = absurd (omega arith)
all_of_phandle value (suc offset) n four le = absurd (omega arith)

may_as : (t : Reading) (p : Path) (name : Name) (v u : List ℕ) → (name ≡ codes "phandle" → v ≡ u) → MaySetAt t p name v → MaySetAt t p name u
may_as t p name v u same may = record {
  valid = λ e. subst (λ x. IsPhandle x) (same e) (may.valid e);
  own = λ e q has. may.own e q (has ∙ ap (λ (x : List ℕ). Some x) (sym (same e)));
}

pub may_patch_as : (bytes : List ℕ) (node : ℕ) (name : Name) (offset n : ℕ) → IsValid (reading_in bytes) → HasCellAt bytes node name offset
    → MaySetAt (reading_in bytes) (path_in bytes node) name (cell n) ↔ MayPatchIn bytes node name offset n
may_patch_as bytes node name offset n valid has =
    let t = reading_in bytes in
    let p = path_in bytes node in
    let value = has.0 in
    let is : value_patched bytes node name offset n ≡ with_cell value offset n = ap (λ (o : Option (List ℕ)). with_cell (unwrap_or o []) offset n) has.1 in
    let same : name ≡ codes "phandle" → cell n ≡ value_patched bytes node name offset n =
    λ e. sym (is ∙ all_of_phandle value offset n (phandle_is t valid p value (ap (value_in t p) (sym e) ∙ has.1)).four has.2) in (
      may_as t p name (cell n) (value_patched bytes node name offset n) same,
      may_as t p name (value_patched bytes node name offset n) (cell n) (λ e. sym (same e)),
    )
