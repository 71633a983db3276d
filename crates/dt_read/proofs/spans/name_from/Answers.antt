use Rattle.std.proofs.Common.{◌≡◌, ◌+◌, ◌∷◌, length, List, ℕ, sym, ap, subst, ◌∙◌}
use Rattle.dt_read.specs.Marks.{begin_mark}
use Rattle.dt_read.specs.TreeTokens.{marks_in, marks_of_parts}
use Rattle.dt_read.specs.Lying.{LiesIn}
use Rattle.dt_read.specs.View.{view, view_at}
use Rattle.dt_read.proofs.Lying.{begin_lies}
use Rattle.dt_read.proofs.spans.name_from.Goals as goal

pub returns : goal.returns
returns c = λ parts begins.
    let strings = c.args.strings.now in
    let found = c.in-Some.found in
    let name = c.in-BeginNode.name.now in
    let behind = marks_in strings found.behind found.rest.now in
    let both : begin_mark found.at name ∷ behind ≡ begin_mark c.args.at parts.name ∷ marks_of_parts parts begins.more = sym (c.in-Some.ensures.next ∙ ap (λ t. view_at found.at t ∷ behind) c.in-BeginNode.is) ∙ begins.whole in
    let same : name ≡ parts.name = cc in
    subst (λ (n : List ℕ). LiesIn c.args.at c.args.bytes.now (record { at = found.at + 4; len = length name }) n) same
    (begin_lies strings c.args.at c.args.bytes.now found.at (view found.token) found.behind found.rest.now name (ap view c.in-BeginNode.is) c.in-Some.ensures.lies)
