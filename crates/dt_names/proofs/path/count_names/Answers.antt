use Rattle.std.proofs.Common.{rules, ◌≡◌, length, arith}
use Rattle.dt_names.specs.Paths.{parts_left}
use Rattle.dt_names.proofs.PathTexts.{counted_before, none_counted, one_counted, counted_few, name_refused}
use Rattle.dt_names.proofs.path.count_names.Goals as goal

pub loop-rest-init : goal.loop-rest-init
loop-rest-init c =
    let none : length c.cut.result.0.now ≡ 0 = search rules in
    none_counted c.args.text.now c.cut.result.0.now (parts_left c.cut.result.1) c.cut.ensures none

pub returns-then-not-is_node_name : goal.returns-then-not-is_node_name
returns-then-not-is_node_name c =
    let text = c.args.text.now in
    let count = c.loop-rest.count in
    let name = c.cut-in-Some.result.0.now in
    let left = parts_left c.cut-in-Some.result.1 in
    let now = counted_before text count c.loop-rest.rest c.in-Some.names name left c.loop-rest.invariant c.in-Some.is c.cut-in-Some.ensures in
    name_refused text count name left now (search rules)

pub overflow_add-count : goal.overflow_add-count
overflow_add-count c =
    let text = c.args.text.now in
    let count = c.loop-rest.count in
    let name = c.cut-in-Some.result.0.now in
    let left = parts_left c.cut-in-Some.result.1 in
    let now = counted_before text count c.loop-rest.rest c.in-Some.names name left c.loop-rest.invariant c.in-Some.is c.cut-in-Some.ensures in
    omega (arith, counted_few text count name left now, c.well_formed.0.0)

pub loop-rest-preserved : goal.loop-rest-preserved
loop-rest-preserved c =
    let text = c.args.text.now in
    let count = c.loop-rest.count in
    let name = c.cut-in-Some.result.0.now in
    let left = parts_left c.cut-in-Some.result.1 in
    let now = counted_before text count c.loop-rest.rest c.in-Some.names name left c.loop-rest.invariant c.in-Some.is c.cut-in-Some.ensures in
    one_counted text count name left now (search rules)
