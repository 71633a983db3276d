use Rattle.std.proofs.Common.{◌≡◌, ℕ, suc, ◌+◌, ◌-◌, ◌++◌, length, sym, ap, ◌∙◌, arith}
use Rattle.std.proofs.lemmas.List.{append-nil}
use Rattle.dt_source_fragments.specs.FragmentNames.{made_names, texts}
use Rattle.dt_source_fragments.proofs.NamesMade.{one_made, room, still_low}
use Rattle.dt_source_fragments.proofs.new_names.Written.made_names.Goals as goal

pub add_next-requires : goal.add_next-requires
add_next-requires c = room c.loop.counter c.args.count c.loop.next (length c.args.self.now) (omega arith) (omega arith) c.requires c.loop.invariant.low

pub loop-preserved : goal.loop-preserved
loop-preserved c =
    let written = c.args.self.now in
    let i = c.loop.counter in
    let left : c.args.count - i ≡ suc (c.args.count - (i + 1)) = omega arith in
    record {
      low = still_low written i c.loop.next c.in_ok-next.next c.in_ok-next.ensures.next c.loop.invariant.low;
      made = one_made written (texts c.loop.names.items) (texts c.add_next.new.names.items) (c.args.count - i) (c.args.count - (i + 1)) c.loop.next c.in_ok-next.next
          left c.in_ok-next.ensures.name c.in_ok-next.ensures.next ∙ c.loop.invariant.made;
    }

pub returns : goal.returns
returns c =
    let written = c.args.self.now in
    let names = texts c.loop.names.items in
    let none : c.args.count - c.loop.counter ≡ 0 = omega arith in
    sym (append-nil names) ∙ (ap (λ (k : ℕ). names ++ made_names written k c.loop.next) (sym none) ∙ c.loop.invariant.made)
