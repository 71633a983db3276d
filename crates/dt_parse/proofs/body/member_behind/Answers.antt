use Rattle.std.proofs.Common.{sym, ◌∙◌, ap, ◌≡◌, ◌∷◌, [], true}
use Rattle.std.proofs.lemmas.Result.{err_from_is_err_and}
use Rattle.dt_parse.specs.declared.body.Front.TheVariants as front
use Rattle.dt_grammar.specs.Unchecked.{raw_close}
use Rattle.dt_grammar.specs.Wanted.{kind_at}
use Rattle.dt_grammar.specs.Descent.{first, after}
use Rattle.dt_parse.specs.Nested.{front_of}
use Rattle.dt_parse.proofs.Members.{err_is, name_front, brace_behind, none_read}
use Rattle.dt_parse.proofs.NestedBodies.{members_stop_at, member_at, close_at, close_stops_at, shorter_by_labels}
use Rattle.dt_parse.proofs.body.member_behind.Goals as goal

pub returns-in_err-named-in-Name-clause-err : goal.returns-in_err-named-in-Name-clause-err
returns-in_err-named-in-Name-clause-err c =
    λ ls ws h e f. let p = err_from_is_err_and c.from_residual.result c.from_residual.ensures.1 in
    err_is _ c.from_residual.result _ p.0 p.1 p.2 (members_stop_at c.args.depth.«open» c.args.depth.late ls ws c.args.cursor.now _ c.requires.inside h.read h.fine (λ outer o. c.in_err-named-in-Name.ensures.err ls outer))

pub returns-in_err-delete_property-in-DeleteProperty-clause-err : goal.returns-in_err-delete_property-in-DeleteProperty-clause-err
returns-in_err-delete_property-in-DeleteProperty-clause-err c =
    λ ls ws h e f. let p = err_from_is_err_and c.from_residual-in_err-delete_property-in-DeleteProperty.result c.from_residual-in_err-delete_property-in-DeleteProperty.ensures.1 in
    err_is _ c.from_residual-in_err-delete_property-in-DeleteProperty.result _ p.0 p.1 p.2 (members_stop_at c.args.depth.«open» c.args.depth.late ls ws c.args.cursor.now _ c.requires.inside h.read h.fine (λ outer o. c.in_err-delete_property-in-DeleteProperty.ensures.err ls outer))

pub returns-in_err-delete_child-in-DeleteNode-clause-err : goal.returns-in_err-delete_child-in-DeleteNode-clause-err
returns-in_err-delete_child-in-DeleteNode-clause-err c =
    λ ls ws h e f. let p = err_from_is_err_and c.from_residual-in_err-delete_child-in-DeleteNode.result c.from_residual-in_err-delete_child-in-DeleteNode.ensures.1 in
    err_is _ c.from_residual-in_err-delete_child-in-DeleteNode.result _ p.0 p.1 p.2 (members_stop_at c.args.depth.«open» c.args.depth.late ls ws c.args.cursor.now _ c.requires.inside h.read h.fine (λ outer o. c.in_err-delete_child-in-DeleteNode.ensures.err ls c.args.depth.late outer))

pub returns-in_err-close-in-Other-clause-err : goal.returns-in_err-close-in-Other-clause-err
returns-in_err-close-in-Other-clause-err c =
    let k : front_of (kind_at (first c.args.cursor.now)) ≡ front.Other = sym (c.front_of.ensures ∙ ap front_of c.kind.ensures) ∙ c.in-Other.is in
    λ ls ws h e f. let p = err_from_is_err_and c.from_residual-in_err-close-in-Other.result c.from_residual-in_err-close-in-Other.ensures.1 in
    err_is _ c.from_residual-in_err-close-in-Other.result _ p.0 p.1 p.2 (close_stops_at c.args.depth.«open» c.args.depth.late ls ws c.args.cursor.now _ c.requires.inside h.read h.fine (none_read c.args.cursor.now k) (c.in_err-close-in-Other.ensures.err ls e f))

pub named-requires-clause-unopened : goal.named-requires-clause-unopened
named-requires-clause-unopened c =
    let k : front_of (kind_at (first c.args.cursor.now)) ≡ front.Name = sym (c.front_of.ensures ∙ ap front_of c.kind.ensures) ∙ c.in-Name.is in
    λ b. c.requires.unopened (name_front (kind_at (first c.args.cursor.now)) k, brace_behind (kind_at (first (after true c.args.cursor.now))) b)

pub returns-in_ok-named-in-Name-clause-ok : goal.returns-in_ok-named-in-Name-clause-ok
returns-in_ok-named-in-Name-clause-ok c =
    λ ls ws h e. let r = c.in_ok-named-in-Name.ensures.ok ls h.fine in
    let m = r.1 in
    (r.0 ∷ [], member_at c.args.depth.«open» ls c.args.depth.late c.args.depth.late ws c.args.cursor.now c.named.new.cursor r.0 c.requires.inside h.read h.fine m, shorter_by_labels ls ws c.args.cursor.now c.named.new.cursor h.read m.shorter, r.2)

pub returns-in_ok-delete_property-in-DeleteProperty-clause-ok : goal.returns-in_ok-delete_property-in-DeleteProperty-clause-ok
returns-in_ok-delete_property-in-DeleteProperty-clause-ok c =
    λ ls ws h e. let r = c.in_ok-delete_property-in-DeleteProperty.ensures.ok ls h.fine in
    let m = r.1 in
    (r.0 ∷ [], member_at c.args.depth.«open» ls c.args.depth.late c.args.depth.late ws c.args.cursor.now c.delete_property.new.cursor r.0 c.requires.inside h.read h.fine m, shorter_by_labels ls ws c.args.cursor.now c.delete_property.new.cursor h.read m.shorter, r.2)

pub returns-in_ok-delete_child-in-DeleteNode-clause-ok : goal.returns-in_ok-delete_child-in-DeleteNode-clause-ok
returns-in_ok-delete_child-in-DeleteNode-clause-ok c =
    λ ls ws h e. let r = c.in_ok-delete_child-in-DeleteNode.ensures.ok ls h.fine in
    let m = r.1 c.args.depth.late in
    (r.0 ∷ [], member_at c.args.depth.«open» ls c.args.depth.late true ws c.args.cursor.now c.delete_child.new.cursor r.0 c.requires.inside h.read h.fine m, shorter_by_labels ls ws c.args.cursor.now c.delete_child.new.cursor h.read m.shorter, r.2)

pub returns-in_ok-close-in-Other-clause-ok : goal.returns-in_ok-close-in-Other-clause-ok
returns-in_ok-close-in-Other-clause-ok c =
    let k : front_of (kind_at (first c.args.cursor.now)) ≡ front.Other = sym (c.front_of.ensures ∙ ap front_of c.kind.ensures) ∙ c.in-Other.is in
    let r = c.in_ok-close-in-Other.ensures.ok in
    λ ls ws h e. (raw_close ∷ [], close_at c.args.depth.«open» c.args.depth.late ls ws c.args.cursor.now c.close.new.cursor c.requires.inside (e r.0) h.read (none_read c.args.cursor.now k) r.1, shorter_by_labels ls ws c.args.cursor.now c.close.new.cursor h.read r.2, r.3)
