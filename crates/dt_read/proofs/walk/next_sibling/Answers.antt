use Rattle.std.proofs.Common.{◌∷◌, sym, ap, ◌∙◌, subst}
use Rattle.dt_read.specs.View.{view_at}
use Rattle.dt_read.specs.TreeTokens.{AreSiblings, heads_left}
use Rattle.dt_read.proofs.Walks.{next_sibling_behind, no_sibling_at}
use Rattle.dt_read.proofs.walk.next_sibling.Goals as goal

pub returns-in_default-token : goal.returns-in_default-token
returns-in_default-token c =
    let nothing = no_sibling_at c.args.cursor.now c.in-Some.node c.in-Some.token c.next.new.self c.requires (sym c.copy-ahead.ensures.same ∙ c.in-Some.ensures.next) c.in_default-token.not-BeginNode in
    record { siblings = c.requires; places = (nothing, nothing) }

pub returns-clause-siblings : goal.returns-clause-siblings
returns-clause-siblings c =
    let behind = next_sibling_behind c.args.cursor.now c.in-Some.node c.in-BeginNode.name.now c.next.new.self c.requires
    (sym c.copy-ahead.ensures.same ∙ c.in-Some.ensures.next ∙ ap (λ t. view_at c.in-Some.node t ∷ c.next.new.self) c.in-BeginNode.is) in
    subst AreSiblings (sym c.skip_node.ensures) behind.siblings

pub returns-clause-places : goal.returns-clause-places
returns-clause-places c =
    let behind = next_sibling_behind c.args.cursor.now c.in-Some.node c.in-BeginNode.name.now c.next.new.self c.requires
    (sym c.copy-ahead.ensures.same ∙ c.in-Some.ensures.next ∙ ap (λ t. view_at c.in-Some.node t ∷ c.next.new.self) c.in-BeginNode.is) in
    behind.heads ∙ ap (λ s. (c.in-Some.node, c.in-BeginNode.name.now) ∷ heads_left s) (sym c.skip_node.ensures)
