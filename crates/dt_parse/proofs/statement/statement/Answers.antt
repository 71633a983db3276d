use Rattle.std.proofs.Common.{sym, ◌∙◌, ap, subst, List, ℕ}
use Rattle.dt_grammar.specs.Wanted.{OneStatement, made_places}
use Rattle.dt_grammar.specs.Faults.{outside}
use Rattle.dt_parse.specs.Reading.{IsRead}
use Rattle.dt_parse.specs.Starts.{start_of}
use Rattle.dt_parse.proofs.Members.{no_labels, some_labels, empty_is, full_is}
use Rattle.dt_parse.proofs.Beginnings.{unstarted, err_weaker, ok_weaker}
use Rattle.dt_parse.proofs.statement.statement.Goals as goal

pub returns-in-Root-clause-err : goal.returns-in-Root-clause-err
returns-in-Root-clause-err c =
    λ ls f. err_weaker c.root.result _ _ (λ s h. h ls (λ x. no_labels ls c.args.names.items f (empty_is c.args.names.items c.args.names.len c.is_empty.result c.args.names.ok.0 c.is_empty.ensures x)) (λ x y. full_is c.args.names.items c.args.names.len c.is_empty.result c.args.names.ok.0 c.is_empty.ensures x (some_labels ls c.args.names.items f y))) c.root.ensures.err

pub returns-in-Deletion-clause-err : goal.returns-in-Deletion-clause-err
returns-in-Deletion-clause-err c =
    λ ls f. err_weaker c.delete_node.result _ _ (λ s h. h ls (λ x. no_labels ls c.args.names.items f (empty_is c.args.names.items c.args.names.len c.is_empty-in-Deletion.result c.args.names.ok.0 c.is_empty-in-Deletion.ensures x)) (λ x y. full_is c.args.names.items c.args.names.len c.is_empty-in-Deletion.result c.args.names.ok.0 c.is_empty-in-Deletion.ensures x (some_labels ls c.args.names.items f y))) c.delete_node.ensures.err

pub returns-in-Node-clause-err : goal.returns-in-Node-clause-err
returns-in-Node-clause-err c =
    λ ls f. err_weaker c.block.result _ _ (λ s h. h ls) c.block.ensures.err

pub returns-in-Other-clause-err : goal.returns-in-Other-clause-err
returns-in-Other-clause-err c =
    λ ls f. unstarted ls c.args.cursor.now c.stop.result (sym (c.start_of.ensures ∙ ap start_of c.kind.ensures) ∙ c.in-Other.is) c.stop.ensures.kind c.stop.ensures.left

pub returns-in-Root-clause-ok : goal.returns-in-Root-clause-ok
returns-in-Root-clause-ok c =
    λ ls f t. ok_weaker c.root.result _ _ (λ h. (h.1.0, subst (λ (x : List (List ℕ)). IsRead outside (OneStatement x) c.args.cursor.now (made_places h.1.0) c.root.new.cursor) (sym (no_labels ls c.args.names.items f (empty_is c.args.names.items c.args.names.len c.is_empty.result c.args.names.ok.0 c.is_empty.ensures h.0))) h.1.1, h.1.2)) c.root.ensures.ok

pub returns-in-Deletion-clause-ok : goal.returns-in-Deletion-clause-ok
returns-in-Deletion-clause-ok c =
    λ ls f t. ok_weaker c.delete_node.result _ _ (λ h. (h.1.0, subst (λ (x : List (List ℕ)). IsRead outside (OneStatement x) c.args.cursor.now (made_places h.1.0) c.delete_node.new.cursor) (sym (no_labels ls c.args.names.items f (empty_is c.args.names.items c.args.names.len c.is_empty-in-Deletion.result c.args.names.ok.0 c.is_empty-in-Deletion.ensures h.0))) h.1.1, h.1.2)) c.delete_node.ensures.ok
