use Rattle.std.proofs.Common.{◌≡◌, ℕ, List, Option, inl, inr, sym, ap, subst, ◌∙◌, arith}
use Rattle.dt_model.specs.Checks.{strings_of}
use Rattle.dt_model_format.specs.Strings.{place_in}
use Rattle.dt_edit.specs.Editable.{name_size, size_with_value, FitsIn, WhyNotSetWithin}
use Rattle.dt_edit.proofs.properties.plan_property.Goals as goal
use Rattle.dt_edit.proofs.properties.plan_property.Goals.{in-Some, in-None}

pub may_set-requires-clause-blob : goal.may_set-requires-clause-blob
may_set-requires-clause-blob c = c.requires.editable.blob

pub property_cut-cut-requires-clause-blob : goal.property_cut-cut-requires-clause-blob
property_cut-cut-requires-clause-blob c = c.requires.editable.blob

pub returns-then-value-gt-MOST_BYTES-clause-refused : goal.returns-then-value-gt-MOST_BYTES-clause-refused
returns-then-value-gt-MOST_BYTES-clause-refused c =
    let old = c.args.bytes.now in
    let name = c.args.name.now in
    let value = c.args.value.now in
    let may = c.may_set.ensures.0 c.if-not-may_set.false in
    let layout = c.layout_of-layout.ensures in
    let total = layout.total in
    let structure = layout.structure in
    let taken = c.property_cut-cut.ensures.taken in
    let inside = c.property_cut-cut.ensures.behind.inside in
    let more = c.if-value-gt-MOST_BYTES.true in
    let long : ¬ FitsIn c.args.room (size_with_value old c.args.node name value) = λ f. let limit = f.limit in omega (arith, total, structure, taken, inside, more, limit) in
    (subst (λ k. WhyNotSetWithin c.args.room k old c.args.node name value) (sym c.of-then-value-gt-MOST_BYTES.ensures.kind) (may, long), c.of-then-value-gt-MOST_BYTES.ensures.at)

pub returns-then-size-room-clause-refused : goal.returns-then-size-room-clause-refused
returns-then-size-room-clause-refused c =
    let old = c.args.bytes.now in
    let name = c.args.name.now in
    let value = c.args.value.now in
    let may = c.may_set.ensures.0 c.if-not-may_set.false in
    let total = c.layout_of-layout.ensures.total in
    let taken = c.property_cut-cut.ensures.taken in
    let own = c.padded_len.ensures in
    let found : c.place_in-place.result ≡ place_in (strings_of old) name = c.place_in-place.ensures ∙ ap (λ (strings : List ℕ). place_in strings name) c.strings_in.ensures in
    let added : c.match-place.added ≡ name_size (place_in (strings_of old) name) name = elim c.match-place.branch [
      | in-Some w ↦ w.added-is ∙ sym (ap (λ (o : Option ℕ). name_size o name) (sym found ∙ w.in-Some.is))
      | in-None w ↦ w.added-is ∙ sym (ap (λ (o : Option ℕ). name_size o name) (sym found ∙ w.in-None.is))
    ] in
    let long : ¬ FitsIn c.args.room (size_with_value old c.args.node name value) =
    λ f. let room = f.room in let limit = f.limit in elim c.then-size-room.either [
      | inl more ↦ omega (arith, more, total, own, added, taken, room)
      | inr more ↦ omega (arith, more, total, own, added, taken, limit)
    ] in
    (subst (λ k. WhyNotSetWithin c.args.room k old c.args.node name value) (sym c.of-then-size-room.ensures.kind) (may, long), c.of-then-size-room.ensures.at)

pub returns-clause-allowed : goal.returns-clause-allowed
returns-clause-allowed c = λ _.
    let old = c.args.bytes.now in
    let name = c.args.name.now in
    let total = c.layout_of-layout.ensures.total in
    let taken = c.property_cut-cut.ensures.taken in
    let own = c.padded_len.ensures in
    let found : c.place_in-place.result ≡ place_in (strings_of old) name = c.place_in-place.ensures ∙ ap (λ (strings : List ℕ). place_in strings name) c.strings_in.ensures in
    let added : c.match-place.added ≡ name_size (place_in (strings_of old) name) name = elim c.match-place.branch [
      | in-Some w ↦ w.added-is ∙ sym (ap (λ (o : Option ℕ). name_size o name) (sym found ∙ w.in-Some.is))
      | in-None w ↦ w.added-is ∙ sym (ap (λ (o : Option ℕ). name_size o name) (sym found ∙ w.in-None.is))
    ] in
    let room = c.if-size-room.false in
    let limit = c.if-size-gt-MOST_BYTES.false in
    record {
      may = c.may_set.ensures.0 c.if-not-may_set.false;
      fits = record { room = omega (arith, room, total, taken, own, added); limit = omega (arith, limit, total, taken, own, added) };
    }
