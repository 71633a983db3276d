use Rattle.std.proofs.Common.{◌+◌, ◌∷◌, codes, map, length, refl, sym, ap, subst, ◌∙◌, arith}
use Rattle.dt_model.specs.Tree.{Property, value_of}
use Rattle.dt_model.specs.Valid.{AreDistinct}
use Rattle.dt_trees.specs.Placed.{path_at}
use Rattle.dt_read.specs.StepsLeft.{step_view}
use Rattle.dt_read.specs.Walked.{past_leading}
use Rattle.dt_view.specs.declared.tables.Row.{Row}
use Rattle.dt_view.specs.Tables.{AreNoted, AreKept}
use Rattle.dt_read.proofs.Opened.{opened}
use Rattle.dt_read.proofs.Walking.{is_innermost, room_walked, end_walked, property_walked}
use Rattle.dt_view.proofs.Led.{led, none_led, own_led, one_led, others_led, opened_past, led_past, past_walked, past_shorter}
use Rattle.dt_view.proofs.Tabled.{unfilled, room_for_one, past_one, past_another, all_filled}
use Rattle.dt_view.proofs.Kinded.{distinct_at, none_kinded, one_kinded, others_kinded, all_kinded}
use Rattle.dt_view.proofs.Valued.{none_valued, one_valued, others_valued, all_valued, value_of_all}
use Rattle.dt_view.proofs.tables.fill.Goals as goal

pub loop-step-init : goal.loop-step-init
loop-step-init c =
    let t = c.args.blob.now in
    let valid = c.validity.ensures.valid in
    rw (c.steps-steps.ensures, c.new-open_nodes.ensures, c.requires.rows, c.requires.phandles, c.requires.values, c.requires.kinds)
    (unfilled t valid c.validity.ensures.within c.validity.ensures.places, none_led t valid, none_valued t valid, none_kinded t valid)

pub note_values-requires : goal.note_values-requires
note_values-requires c =
    let t = c.args.blob.now in
    let e = c.in-Some.ensures.steps ∙ ap (λ s. step_view s ∷ c.next.new.self) c.in-Open.is in
    let inv = c.loop-step.invariant in
    let own = own_led t c.in-Open.node c.in-Open.name.now c.loop-step.steps c.next.new.self inv.1 e c.validity.ensures.valid c.validity.ensures.places in
    subst (λ ps. AreDistinct (map (λ (p : Property). p.name) ps)) (sym own) (distinct_at t (path_at t c.in-Open.node) c.validity.ensures.valid)

pub note_phandle-requires : goal.note_phandle-requires
note_phandle-requires c =
    let t = c.args.blob.now in
    let e = c.in-Some.ensures.steps ∙ ap (λ s. step_view s ∷ c.next.new.self) c.in-Open.is in
    let inv = c.loop-step.invariant in
    let own = own_led t c.in-Open.node c.in-Open.name.now c.loop-step.steps c.next.new.self inv.1 e c.validity.ensures.valid c.validity.ensures.places in
    c.in_ok-phandle-in-Open.ensures.phandle ∙ ap (λ ps. value_of ps (codes "phandle")) own ∙ sym (value_of_all t (path_at t c.in-Open.node) (codes "phandle"))

pub push-requires : goal.push-requires
push-requires c =
    let e = c.in-Some.ensures.steps ∙ ap (λ s. step_view s ∷ c.next.new.self) c.in-Open.is in
    room_walked c.args.blob.now c.loop-step.open_nodes c.in-Open.node c.in-Open.name.now c.loop-step.steps c.next.new.self c.loop-step.invariant.0.walked e

pub overflow_add-count : goal.overflow_add-count
overflow_add-count c =
    let e = c.in-Some.ensures.steps ∙ ap (λ s. step_view s ∷ c.next.new.self) c.in-Open.is in
    let room = room_for_one c.args.blob.now c.loop-step.rows.entries c.loop-step.phandles.entries c.loop-step.open_nodes c.loop-step.count c.in-Open.node c.in-Open.name.now c.loop-step.steps c.next.new.self c.validity.ensures.within c.loop-step.invariant.0 e in
    omega (arith, room)

pub loop-step-smaller-in-Open : goal.loop-step-smaller-in-Open
loop-step-smaller-in-Open c =
    let fewer = ap length c.in_ok-phandle-in-Open.ensures.left in
    let within = past_shorter c.next.new.self in
    let one = ap length c.in-Some.ensures.steps in
    omega (arith, fewer, within, one)

pub loop-step-preserved-in-Open : goal.loop-step-preserved-in-Open
loop-step-preserved-in-Open c =
    let t = c.args.blob.now in
    let k = c.in-Open.node in
    let rest = c.next.new.self in
    let e = c.in-Some.ensures.steps ∙ ap (λ s. step_view s ∷ c.next.new.self) c.in-Open.is in
    let inv = c.loop-step.invariant in
    let inner = is_innermost c.innermost-above.result c.loop-step.open_nodes c.innermost-above.ensures in
    let row : Row = record { above = c.innermost-above.result; first = c.len-first.result; behind = c.len-behind.result } in
    let own = own_led t k c.in-Open.name.now c.loop-step.steps rest inv.1 e c.validity.ensures.valid c.validity.ensures.places in
    let filled = past_one t row c.loop-step.rows.entries c.put_row.new.rows.entries c.loop-step.phandles.entries c.note_phandle.new.phandles.entries c.loop-step.open_nodes c.loop-step.count k c.in-Open.name.now c.loop-step.steps rest c.validity.ensures.valid c.validity.ensures.places inv.0 e inner c.in_ok-put_row-in-Open.ensures
    c.in_ok-note_phandle-in-Open.ensures in
    let noted = subst (AreNoted c.loop-step.values.items c.note_values.new.values.items) own c.in_ok-phandle-in-Open.ensures.noted in
    let kept = subst (λ ps. AreKept k ps ps c.loop-step.kinds.entries c.note_values.new.kinds.entries) own c.in_ok-phandle-in-Open.ensures.kept in
    rw (c.push.ensures, c.in_ok-phandle-in-Open.ensures.left) (
      past_another t c.put_row.new.rows.entries c.note_phandle.new.phandles.entries (k ∷ c.loop-step.open_nodes) (k ∷ c.loop-step.open_nodes) (c.loop-step.count + 1) rest (past_leading rest) filled (past_walked t (k ∷ c.loop-step.open_nodes) rest filled.walked) refl,
      others_led t rest (past_leading rest) (one_led t k c.in-Open.name.now c.loop-step.steps rest inv.1 e) (opened_past rest) (led_past rest),
      others_valued t c.note_values.new.values.items c.put_row.new.rows.entries rest (past_leading rest)
          (one_valued t c.loop-step.values.items c.note_values.new.values.items c.loop-step.rows.entries c.put_row.new.rows.entries k row c.in-Open.name.now c.loop-step.steps rest inv.2 e noted
          (omega (arith, c.len-first.ensures, c.loop-step.values.ok.0)) (omega (arith, c.len-behind.ensures, c.note_values.new.values.ok.0)) c.in_ok-put_row-in-Open.ensures) (opened_past rest),
      others_kinded t c.note_values.new.kinds.entries rest (past_leading rest) (one_kinded t c.loop-step.kinds.entries c.note_values.new.kinds.entries k c.in-Open.name.now c.loop-step.steps rest inv.3 e kept) (opened_past rest),
    )

pub loop-step-preserved-in-Property : goal.loop-step-preserved-in-Property
loop-step-preserved-in-Property c =
    let t = c.args.blob.now in
    let p : Property = record { name = c.in-Property.name.now; value = c.in-Property.value.now } in
    let e = c.in-Some.ensures.steps ∙ ap (λ s. step_view s ∷ c.next.new.self) c.in-Property.is in
    let inv = c.loop-step.invariant in (
      past_another t c.loop-step.rows.entries c.loop-step.phandles.entries c.loop-step.open_nodes c.loop-step.open_nodes c.loop-step.count c.loop-step.steps c.next.new.self inv.0
          (property_walked t c.loop-step.open_nodes p c.loop-step.steps c.next.new.self inv.0.walked e) refl,
      others_led c.args.blob.now c.loop-step.steps c.next.new.self inv.1 (ap opened e) (ap led e),
      others_valued t c.loop-step.values.items c.loop-step.rows.entries c.loop-step.steps c.next.new.self inv.2 (ap opened e),
      others_kinded t c.loop-step.kinds.entries c.loop-step.steps c.next.new.self inv.3 (ap opened e),
    )

pub loop-step-preserved : goal.loop-step-preserved
loop-step-preserved c =
    let e = c.in-Some.ensures.steps ∙ ap (λ s. step_view s ∷ c.next.new.self) c.in-Close.is in
    let open_nodes = c.loop-step.open_nodes in
    let inv = c.loop-step.invariant in (
      past_another c.args.blob.now c.loop-step.rows.entries c.loop-step.phandles.entries open_nodes c.pop.new.self c.loop-step.count c.loop-step.steps c.next.new.self inv.0
          (end_walked c.args.blob.now open_nodes c.pop.new.self c.loop-step.steps c.next.new.self inv.0.walked e c.pop.ensures) refl,
      others_led c.args.blob.now c.loop-step.steps c.next.new.self inv.1 (ap opened e) (ap led e),
      others_valued c.args.blob.now c.loop-step.values.items c.loop-step.rows.entries c.loop-step.steps c.next.new.self inv.2 (ap opened e),
      others_kinded c.args.blob.now c.loop-step.kinds.entries c.loop-step.steps c.next.new.self inv.3 (ap opened e),
    )

pub returns-clause-parents : goal.returns-clause-parents
returns-clause-parents c = (all_filled c.args.blob.now c.loop-step.rows.entries c.loop-step.phandles.entries c.loop-step.open_nodes c.loop-step.count c.loop-step.steps c.loop-step.invariant.0 c.in_default.ensures.steps.0).above

pub returns-clause-phandles : goal.returns-clause-phandles
returns-clause-phandles c = (all_filled c.args.blob.now c.loop-step.rows.entries c.loop-step.phandles.entries c.loop-step.open_nodes c.loop-step.count c.loop-step.steps c.loop-step.invariant.0 c.in_default.ensures.steps.0).numbered

pub returns-clause-count : goal.returns-clause-count
returns-clause-count c = (all_filled c.args.blob.now c.loop-step.rows.entries c.loop-step.phandles.entries c.loop-step.open_nodes c.loop-step.count c.loop-step.steps c.loop-step.invariant.0 c.in_default.ensures.steps.0).counted

pub returns-clause-values : goal.returns-clause-values
returns-clause-values c = all_valued c.args.blob.now c.loop-step.values.items c.loop-step.rows.entries c.loop-step.steps c.loop-step.invariant.2 c.in_default.ensures.steps.0

pub returns-clause-kinds : goal.returns-clause-kinds
returns-clause-kinds c = all_kinded c.args.blob.now c.loop-step.kinds.entries c.loop-step.steps c.loop-step.invariant.3 c.in_default.ensures.steps.0
