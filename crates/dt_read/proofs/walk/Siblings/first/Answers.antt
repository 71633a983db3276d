use Rattle.std.proofs.Common.{◌≡◌, ◌∙◌, [], ℕ, List, map, sym, ap}
use Rattle.std.specs.List.{slice_get}
use Rattle.dt_read.specs.TreeTokens.{heads_left}
use Rattle.dt_read.proofs.Walks.{no_sibling_by}
use Rattle.dt_read.proofs.walk.Siblings.first.Goals as goal

pub returns-in_default : goal.returns-in_default
returns-in_default c =
    let read = c.in_ok-node.ensures.next in
    let nothing : heads_left c.self.inside.cursor ≡ [] =
    no_sibling_by c.self.inside.cursor c.in_ok-node.node c.in_ok-node.tag read.0 c.next_tag.new.self c.self.invariant (sym c.copy-ahead.ensures.same ∙ read.1) c.in_default.not-BeginNode in
    ap (λ (hs : List (ℕ × List ℕ)). slice_get (map (λ (head : ℕ × List ℕ). head.0) hs) 0) (sym nothing ∙ c.self.view_is)
