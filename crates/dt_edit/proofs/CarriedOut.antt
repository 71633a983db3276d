-- A property's plan, carried out.
use Rattle.std.proofs.Common.{◌≡◌, ℕ, ◌+◌, ◌-◌, ◌^◌, ◌<◌, ◌≤◌, List, ◌++◌, length, drop, Option, Some, None, refl, ap, ◌∙◌, append_assoc, arith}
use Rattle.std.specs.Option.{unwrap_or}
use Rattle.std.proofs.lemmas.List.{drop-drop, length-append}
use Rattle.dt_model.specs.Checks.{number, strings_of, structure_of}
use Rattle.dt_model.specs.Format.{reservation_block}
use Rattle.dt_model.specs.Lexing.{padded}
use Rattle.dt_model.specs.Limits.{most_bytes}
use Rattle.dt_model.specs.Names.{Name}
use Rattle.dt_model_format.specs.Strings.{place_in}
use Rattle.dt_read.specs.Checked.{placed_of}
use Rattle.dt_read.specs.Cuts.{spliced}
use Rattle.dt_write.specs.Written.{header}
use Rattle.dt_edit.specs.declared.layout.Layout.{Layout}
use Rattle.dt_edit.specs.declared.properties.PropertyPlan.{PropertyPlan}
use Rattle.dt_edit.specs.Editable.{IsEditable, name_size}
use Rattle.dt_edit.specs.Moving.{put, IsSpliced}
use Rattle.dt_edit.specs.Plans.{brought_by, place_or, name_offset, IsLayout, HasOtherBlocks, HasPropertyRoom}
use Rattle.dt_edit.proofs.Assembling.{edits_of}
use Rattle.dt_edit.proofs.Carrying.{length_spliced, length_brought, structure_spliced, strings_grown, header_set, place_small}

-- the numbers of a plan
pub record PlanSizes (bytes : List ℕ) (l : Layout) (cut size own added : ℕ) : Type 0 where
  pub end : l.structure_at + l.structure + l.strings ≡ number bytes 4
  pub inside : cut + size ≤ l.structure
  pub header : 40 ≤ l.structure_at
  pub counted : number bytes 4 ≤ length bytes
  pub short : number bytes 4 ≤ most_bytes
  pub room : number bytes 4 + own + added ≤ length bytes + size
  pub limit : number bytes 4 + own + added ≤ most_bytes + size

pub plan_sizes : (bytes : List ℕ) (p : PropertyPlan) (name : Name) (value : List ℕ) → IsEditable bytes → HasPropertyRoom bytes p name value
    → PlanSizes bytes p.layout p.cut.at p.cut.size (padded (12 + length value)) (length (brought_by p.place name))
plan_sizes bytes p name value e r =
    let edits = edits_of bytes e in
    let l = r.layout in
    let at = l.structure_at in
    let structure = l.structure in
    let inside = r.inside in
    let room = r.room in
    let limit = r.limit in
    let added : length (brought_by p.place name) ≡ name_size (place_in (strings_of bytes) name) name = length_brought p.place name ∙ ap (λ (o : Option ℕ). name_size o name) r.place in
    record {
      end = l.total;
      inside = omega arith;
      header = omega arith;
      counted = edits.inside;
      short = edits.short;
      room = omega arith;
      limit = omega arith;
    }

pub offset_fits : (bytes : List ℕ) (p : PropertyPlan) (name : Name) (value : List ℕ) → IsEditable bytes → HasPropertyRoom bytes p name value → unwrap_or p.place p.layout.strings < 2 ^ 32
offset_fits bytes p name value e r =
    let s = plan_sizes bytes p name value e r in
    let end = s.end in
    let short = s.short in
    let strings = r.layout.strings in
    let same : unwrap_or p.place p.layout.strings ≡ place_or (place_in (strings_of bytes) name) (length (strings_of bytes)) = (λ i. unwrap_or (r.place i) (strings i)) ∙ either (place_in (strings_of bytes) name) in
    omega (arith, same, place_small (strings_of bytes) name)
  where
    either : (o : Option ℕ) → unwrap_or o (length (strings_of bytes)) ≡ place_or o (length (strings_of bytes))
    either None = refl
    either (Some k) = refl

pub offset_is : (bytes : List ℕ) (p : PropertyPlan) (name : Name) (value : List ℕ) → HasPropertyRoom bytes p name value → unwrap_or p.place p.layout.strings ≡ name_offset bytes name
offset_is bytes p name value r = let strings = r.layout.strings in (λ i. unwrap_or (r.place i) (strings i)) ∙ either (place_in (strings_of bytes) name)
  where
    either : (o : Option ℕ) → unwrap_or o (length (strings_of bytes)) ≡ place_or o (length (strings_of bytes))
    either None = refl
    either (Some k) = refl

-- a structure block with a part replaced, strings that may have grown, and a header of their sizes
pub blocks_edited : (old mid named new own added : List ℕ) (l : Layout) (cut size at end grown reservations structure strings : ℕ) → IsEditable old → IsLayout old l → cut + size ≤ length (structure_of old)
    → at ≡ l.structure_at + cut → end ≡ number old 4 → grown ≡ end + length own - size → reservations ≡ l.structure_at - 40 → structure ≡ l.structure + length own - size → strings ≡ l.strings + length added
    → grown + length added ≤ length mid → IsSpliced old mid own at size end → named ≡ put grown added mid → new ≡ header l.boot_cpu reservations structure strings ++ drop 40 named
    → HasOtherBlocks old new (spliced cut size own (structure_of old)) (strings_of old ++ added)
blocks_edited old mid named new own added l cut size at end grown reservations structure strings e i le at-is end-is grown-is reservations-is structure-is strings-is room m n h =
    let edits = edits_of old e in
    let cpu : ℕ = number old 28 in
    let r : List ℕ = reservation_block (placed_of old).reservations in
    let s : List ℕ = structure_of old in
    let names : List ℕ = strings_of old in
    let top : List ℕ = header cpu (length r) (length s) (length names) in
    let s' : List ℕ = spliced cut size own s in
    let place = i.structure_at in
    let first = i.structure in
    let second = i.strings in
    let total = edits.blocks.total in
    let front : length (top ++ r) ≡ 40 + length r = omega (arith, length-append top r) in
    let tail : List ℕ = drop (number old 4) old in
    let is : old ≡ ((top ++ r) ++ (s ++ names)) ++ tail = edits.is ∙ ap (λ (x : List ℕ). x ++ tail) (append_assoc (top ++ r) s names) in
    let moved = structure_spliced (top ++ r) s names tail old mid own cut size at end is le (omega arith) (omega arith) m in
    let wide : length s' ≡ length s + length own - size = length_spliced cut size own s le in
    let ends : grown ≡ length (top ++ r) + length s' + length names = omega arith in
    let behind : ℕ = end + length own - size in
    let rest : List ℕ = drop (40 + length r + length s' + length (names ++ added)) old in
    let left : drop (length added) (drop behind old) ≡ rest = drop-drop (length added) behind old ∙ ap (λ (k : ℕ). drop k old) (omega (arith, wide, length-append names added)) in
    let named-is : named ≡ (top ++ r) ++ ((s' ++ (names ++ added)) ++ rest) =
    n ∙ strings_grown (top ++ r) s' names (drop behind old) mid added grown moved ends room ∙ ap (λ (x : List ℕ). (top ++ r) ++ ((s' ++ (names ++ added)) ++ x)) left in
    let k : List ℕ = header cpu (length r) (length s') (length (names ++ added)) in
    let sizes : header l.boot_cpu reservations structure strings ≡ k =
    let a : reservations ≡ length r = omega arith in
    let b : structure ≡ length s' = omega arith in
    let d : strings ≡ length (names ++ added) = omega (arith, length-append names added) in
    let boot = i.boot_cpu in (λ j. header (boot j) (a j) (b j) (d j)) in
    h ∙ ap (λ (x : List ℕ). x ++ drop 40 named) sizes ∙ header_set top k r s' (names ++ added) rest named refl named-is
