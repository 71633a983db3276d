use Rattle.std.proofs.Common.{◌≡◌, ◌++◌, ◌∷◌, [], false, inl, inr, sym, subst, ◌∙◌, arith}
use Rattle.std.proofs.lemmas.Bool.{false_from_ne_true, true≢false}
use Rattle.dt_model.specs.Tree.{stands_in}
use Rattle.dt_edit.specs.Editable.{reading_in, path_in, size_with_node, FitsIn, WhyNotAddedWithin}
use Rattle.dt_edit.proofs.children.plan_node.Goals as goal

pub returns-then-size-room-clause-refused : goal.returns-then-size-room-clause-refused
returns-then-size-room-clause-refused c =
    let old = c.args.bytes.now in
    let name = c.args.name.now in
    let fresh : stands_in (reading_in old) (path_in old c.args.node ++ name ∷ []) ≡ false =
    false_from_ne_true (stands_in (reading_in old) (path_in old c.args.node ++ name ∷ [])) (λ h. true≢false (sym (c.has_child.ensures.1 h) ∙ c.if-has_child.false)) in
    let total = c.layout_of-layout.ensures.total in
    let own = c.padded_len.ensures in
    let long : ¬ FitsIn c.args.room (size_with_node old name) =
    λ f. let room = f.room in let limit = f.limit in elim c.then-size-room.either [ inl more ↦ omega (arith, more, total, own, room) | inr more ↦ omega (arith, more, total, own, limit) ] in
    (subst (λ k. WhyNotAddedWithin c.args.room k old c.args.node name) (sym c.of-then-size-room.ensures.kind) (fresh, inr long), c.of-then-size-room.ensures.at)

pub returns-clause-allowed : goal.returns-clause-allowed
returns-clause-allowed c = λ _.
    let old = c.args.bytes.now in
    let name = c.args.name.now in
    let below = c.has_room_below.ensures.0 c.if-not-has_room_below.false in
    let total = c.layout_of-layout.ensures.total in
    let own = c.padded_len.ensures in
    record {
      fresh = false_from_ne_true (stands_in (reading_in old) (path_in old c.args.node ++ name ∷ [])) (λ h. true≢false (sym (c.has_child.ensures.1 h) ∙ c.if-has_child.false));
      shallow = below.0;
      few = below.1;
      fits = let room = c.if-size-room.false in let limit = c.if-size-gt-MOST_BYTES.false in record { room = omega (arith, room, total, own); limit = omega (arith, limit, total, own) };
    }
