use Rattle.std.proofs.Common.{◌≡◌, ◌∷◌, [], ℕ, Some, sym, ap, subst, ◌∙◌, arith}
use Rattle.dt_read.specs.Cuts.{opened}
use Rattle.dt_read.specs.Marks.{Mark}
use Rattle.dt_read.specs.View.{view_at}
use Rattle.dt_read.proofs.Endings.{Nests, FindsMark, nests_first, nests_more, nests_few, finds_mark, level_same, level_down, end_found, ends_before}
use Rattle.dt_read.proofs.cuts.end_place.Goals as goal
use Rattle.dt_read.proofs.cuts.end_place.Goals.{in-BeginNode, in-EndNode-2, in_default-token}

pub loop-found-init : goal.loop-found-init
loop-found-init c = nests_first c.args.strings.now c.args.at c.args.bytes.now c.requires.tokens

pub next_token-requires : goal.next_token-requires
next_token-requires c = c.loop-found.invariant.tokens

pub overflow_add-depth : goal.overflow_add-depth
overflow_add-depth c = omega (arith, nests_few c.args.strings.now c.args.at c.args.bytes.now c.loop-found.here c.loop-found.rest.now c.loop-found.depth c.requires.tokens c.loop-found.invariant)

pub returns-in-EndNode : goal.returns-in-EndNode
returns-in-EndNode c =
    let strings = c.args.strings.now in
    let found = c.in-Some.found in
    let f : FindsMark strings c.loop-found.here c.loop-found.rest.now (view_at found.at found.token) found.at found.behind found.rest.now =
    finds_mark strings c.loop-found.here c.loop-found.rest.now found.token found.at found.behind found.rest.now c.in-Some.ensures.no_nop c.in-Some.ensures.lies c.in-Some.ensures.nops c.in-Some.ensures.next c.in-Some.ensures.tokens in
    end_found strings c.args.at c.args.bytes.now c.loop-found.here c.loop-found.rest.now found.at found.behind found.rest.now
    (subst (λ (n : ℕ). Nests strings c.args.at c.args.bytes.now c.loop-found.here c.loop-found.rest.now n) c.if-depth-eq0.true c.loop-found.invariant)
    (subst (λ (m : Mark). FindsMark strings c.loop-found.here c.loop-found.rest.now m found.at found.behind found.rest.now) (ap (view_at found.at) c.in-EndNode.is) f)

pub loop-found-preserved : goal.loop-found-preserved
loop-found-preserved c =
    let strings = c.args.strings.now in
    let found = c.in-Some.found in
    let f : FindsMark strings c.loop-found.here c.loop-found.rest.now (view_at found.at found.token) found.at found.behind found.rest.now =
    finds_mark strings c.loop-found.here c.loop-found.rest.now found.token found.at found.behind found.rest.now c.in-Some.ensures.no_nop c.in-Some.ensures.lies c.in-Some.ensures.nops c.in-Some.ensures.next c.in-Some.ensures.tokens in
    let level : opened (view_at found.at found.token ∷ []) c.loop-found.depth ≡ Some c.match-found.depth =
    elim c.match-found.branch [
      | in-BeginNode w ↦ ap (λ t. opened (view_at found.at t ∷ []) c.loop-found.depth) w.in-BeginNode.is ∙ ap (λ (n : ℕ). Some n) (omega (arith, w.depth-is))
      | in-EndNode-2 w ↦ ap (λ t. opened (view_at found.at t ∷ []) c.loop-found.depth) w.in-EndNode.is ∙ level_down c.loop-found.depth (omega (arith, w.if-depth-eq0.false)) ∙ ap (λ (n : ℕ). Some n) (sym w.depth-is)
      | in_default-token w ↦ level_same found.at found.token c.loop-found.depth w.in_default-token.not-BeginNode w.in_default-token.not-EndNode ∙ ap (λ (n : ℕ). Some n) (sym w.depth-is)
    ] in
    nests_more strings c.args.at c.args.bytes.now c.loop-found.here c.loop-found.rest.now c.loop-found.depth (view_at found.at found.token) found.at found.behind found.rest.now c.match-found.depth c.loop-found.invariant f level

pub unreachable-requires : goal.unreachable-requires
unreachable-requires c =
    ends_before c.args.strings.now c.args.at c.args.bytes.now c.loop-found.here c.loop-found.rest.now c.loop-found.depth c.requires.ends.0 c.requires.ends.1 c.loop-found.invariant c.requires.ends.2 c.in_default.ensures.next
