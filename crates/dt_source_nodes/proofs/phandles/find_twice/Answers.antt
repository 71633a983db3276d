use Rattle.std.proofs.Common.{◌≡◌, ℕ, ◌||◌, true, false, nat_eq, get_or, sym, ap, subst, ◌∙◌}
use Rattle.std.specs.Option.{option_map_or}
use Rattle.dt_source_growing.specs.declared.growing.Property.{Property}
use Rattle.dt_source_nodes.specs.Phandles.{has_seen, phandle_written, WhyTwice}
use Rattle.dt_source_nodes.proofs.Twice.{none_seen, seen_more, seen_twice, all_seen}
use Rattle.dt_source_nodes.proofs.phandles.find_twice.Goals as goal

pub loop-property-init : goal.loop-property-init
loop-property-init c = none_seen c.args.places.now c.args.properties.now c.args.seen.now c.requires

pub returns-then-branch : goal.returns-then-branch
returns-then-branch c =
    let places = c.args.places.now in
    let qs = c.args.properties.now in
    let k = c.loop-property.property-index in
    let q = c.property-item.result in
    let old = c.loop-property.seen in
    let met : option_map_or (has_seen old) (phandle_written places (get_or qs k q)) false ≡ true =
    ap (λ (p : Property). option_map_or (has_seen old) (phandle_written places p) false) (sym c.property-item.is) ∙ (sym c.in_ok-meet.ensures.before ∙ c.if-branch.true) in
    (c.of.ensures.at, subst (WhyTwice places qs) (sym c.of.ensures.kind) (seen_twice places qs k q old c.loop-property-test.true met c.loop-property.invariant))

pub loop-property-preserved : goal.loop-property-preserved
loop-property-preserved c =
    let places = c.args.places.now in
    let qs = c.args.properties.now in
    let k = c.loop-property.property-index in
    let q = c.property-item.result in
    let old = c.loop-property.seen in
    let new = c.meet.new.seen in
    let fresh : option_map_or (has_seen old) (phandle_written places (get_or qs k q)) false ≡ false =
    ap (λ (p : Property). option_map_or (has_seen old) (phandle_written places p) false) (sym c.property-item.is) ∙ (sym c.in_ok-meet.ensures.before ∙ c.if-branch.false) in
    let added : (n : ℕ) → has_seen new n ≡ (option_map_or (nat_eq n) (phandle_written places (get_or qs k q)) false || has_seen old n) =
    λ n. c.in_ok-meet.ensures.added n ∙ ap (λ (p : Property). option_map_or (nat_eq n) (phandle_written places p) false || has_seen old n) c.property-item.is in
    seen_more places qs k q old new c.loop-property-test.true fresh added c.loop-property.invariant

pub returns : goal.returns
returns c = all_seen c.args.places.now c.args.properties.now c.loop-property.property-index c.loop-property.seen c.loop-property-test.false c.loop-property.invariant
