use Rattle.std.proofs.Common.{sym, ◌∙◌, ap, ◌∷◌, map}
use Rattle.std.proofs.lemmas.Bool.{false≢true}
use Rattle.std.proofs.lemmas.Result.{err_from_is_err_and}
use Rattle.dt_grammar.specs.Unchecked.{raw_child, raw_label}
use Rattle.dt_grammar.specs.Wanted.{bytes_at}
use Rattle.dt_grammar.specs.Descent.{first}
use Rattle.dt_grammar.specs.Faults.{outside}
use Rattle.dt_parse.specs.Nested.{behind_of}
use Rattle.dt_parse.proofs.Members.{err_is, no_labels, some_labels, empty_is, full_is}
use Rattle.dt_parse.proofs.NestedBodies.{labels_stop_at, members_stop_at, child_at}
use Rattle.dt_parse.proofs.body.member.Goals as goal

pub returns-in_err-names-clause-err : goal.returns-in_err-names-clause-err
returns-in_err-names-clause-err c =
    let p = err_from_is_err_and c.from_residual.result c.from_residual.ensures.1 in err_is _ c.from_residual.result _ p.0 p.1 p.2 (labels_stop_at c.args.depth.«open» c.args.depth.late c.args.cursor.now _ c.requires c.in_err-names.ensures.err)

pub returns-in_err-child-clause-err : goal.returns-in_err-child-clause-err
returns-in_err-child-clause-err c =
    let h = c.in_ok-names.ensures.ok in
    let l = (h.1 outside).read in
    let t = (h.1 outside).fine in
    let here = c.labels.new.cursor in
    let p = err_from_is_err_and c.from_residual-in_err-child.result c.from_residual-in_err-child.ensures.1 in err_is _ c.from_residual-in_err-child.result _ p.0 p.1 p.2 (members_stop_at c.args.depth.«open» c.args.depth.late h.0 c.args.cursor.now here _ c.requires l t (λ outer o. c.in_err-child.ensures.err h.0 c.args.depth.late outer o))

pub child-requires-clause-named : goal.child-requires-clause-named
child-requires-clause-named c = (c.opens_child.ensures.0 c.if-opens_child.true).0

pub child-requires-clause-opened : goal.child-requires-clause-opened
child-requires-clause-opened c = ap behind_of (c.opens_child.ensures.0 c.if-opens_child.true).1

pub member_behind-requires-clause-unopened : goal.member_behind-requires-clause-unopened
member_behind-requires-clause-unopened c = λ q. false≢true (sym c.if-opens_child.false ∙ c.opens_child.ensures.1 q)

pub returns-then-opens_child-clause-ok : goal.returns-then-opens_child-clause-ok
returns-then-opens_child-clause-ok c =
    let h = c.in_ok-names.ensures.ok in
    let l = (h.1 outside).read in
    let t = (h.1 outside).fine in
    let here = c.labels.new.cursor in
    let e = c.opens_child.ensures.0 c.if-opens_child.true in
    let r = c.in_ok-child.ensures.ok h.0 h.2 in
    let g = child_at c.args.depth.«open» c.args.depth.late h.0 c.args.cursor.now here c.child.new.cursor c.requires l t e.0 e.1 r.0 r.1 r.2 in
    (raw_child (bytes_at (first here)) ∷ map raw_label h.0, g.0, g.1, r.3)

pub returns-clause-ok : goal.returns-clause-ok
returns-clause-ok c =
    let h = c.in_ok-names.ensures.ok in
    c.member_behind.ensures.ok h.0 c.args.cursor.now (h.1 outside)
    (λ x. no_labels h.0 c.in_ok-names.names.items h.2 (empty_is c.in_ok-names.names.items c.in_ok-names.names.len c.is_empty.result c.in_ok-names.names.ok.0 c.is_empty.ensures x))

pub returns-clause-err : goal.returns-clause-err
returns-clause-err c =
    let h = c.in_ok-names.ensures.ok in
    c.member_behind.ensures.err h.0 c.args.cursor.now (h.1 outside)
    (λ x. no_labels h.0 c.in_ok-names.names.items h.2 (empty_is c.in_ok-names.names.items c.in_ok-names.names.len c.is_empty.result c.in_ok-names.names.ok.0 c.is_empty.ensures x))
    (λ x y. full_is c.in_ok-names.names.items c.in_ok-names.names.len c.is_empty.result c.in_ok-names.names.ok.0 c.is_empty.ensures x (some_labels h.0 c.in_ok-names.names.items h.2 y))
