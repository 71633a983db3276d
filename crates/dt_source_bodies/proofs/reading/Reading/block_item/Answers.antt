use Rattle.std.proofs.Common.{◌≡◌, ℕ, ◌<◌, ◌+◌, Some, length, vec_len, slice_get, sym, subst, ◌∙◌, arith}
use Rattle.std.proofs.lemmas.Option.{slice_get_within, slice_get_read}
use Rattle.std.proofs.lemmas.Result.{err_from_is_err_and}
use Rattle.dt_model.specs.Source.{block}
use Rattle.dt_model.specs.OverlaySource.{read_overlay}
use Rattle.dt_source_items.specs.Said.{reference_of}
use Rattle.dt_source_bodies.specs.Arena.{GoesOnWith}
use Rattle.dt_source_bodies.proofs.ArenaSteps.{next_made, next_name, block_goes}
use Rattle.dt_source_bodies.proofs.reading.Reading.block_item.Goals as goal

pub index-name-requires : goal.index-name-requires
index-name-requires c =
    let arena = c.args.arena.now in
    let l = c.requires.left in
    let m = next_made l.0 arena c.args.used l.1 (reference_of c.args.reference.now) l.2 l.3 in
    let within : c.args.used < length arena.names.items = slice_get_within arena.names.items c.args.used m.name m.named in
    omega (arith, arena.names.ok.0)

pub used_more-requires : goal.used_more-requires
used_more-requires c =
    let arena = c.args.arena.now in
    let l = c.requires.left in
    let m = next_made l.0 arena c.args.used l.1 (reference_of c.args.reference.now) l.2 l.3 in
    let two : c.args.used < length arena.names.items = slice_get_within arena.names.items c.args.used m.name m.named in
    omega (arith, arena.names.ok.0, arena.names.ok.1)

pub returns-in_err-made-clause-meaning : goal.returns-in_err-made-clause-meaning
returns-in_err-made-clause-meaning c = λ written s rest h left.
    let arena = c.args.arena.now in
    let r = reference_of c.args.reference.now in
    let q = err_from_is_err_and c.from_residual.result c.from_residual.ensures.1 in
    let two : c.args.used < length arena.names.items =
    (let m = next_made written arena c.args.used s.next r rest left in slice_get_within arena.names.items c.args.used m.name m.named) in
    let at : slice_get arena.names.items c.args.used ≡ Some c.index-name.result.now =
    slice_get_read arena.names.items (vec_len arena.names) c.args.used c.index-name.result.now arena.names.ok.0 (omega (arith, arena.names.ok.0)) c.index-name.ensures in
    let name = c.deref.ensures.value ∙ next_name written arena c.args.used s r rest c.index-name.result.now left at in
    rw (q.1, q.2) (c.in_err-made.ensures.meaning written s h name)

pub returns-clause-meaning : goal.returns-clause-meaning
returns-clause-meaning c = λ written s rest h left.
    let arena = c.args.arena.now in
    let r = reference_of c.args.reference.now in
    let two : c.args.used < length arena.names.items =
    (let m = next_made written arena c.args.used s.next r rest left in slice_get_within arena.names.items c.args.used m.name m.named) in
    let at : slice_get arena.names.items c.args.used ≡ Some c.index-name.result.now =
    slice_get_read arena.names.items (vec_len arena.names) c.args.used c.index-name.result.now arena.names.ok.0 (omega (arith, arena.names.ok.0)) c.index-name.ensures in
    let name = c.deref.ensures.value ∙ next_name written arena c.args.used s r rest c.index-name.result.now left at in
    let o = read_overlay written s (block r) in
    subst (λ (u : ℕ). GoesOnWith written o c.overlay_block.new.self (c.args.item + 1) arena u rest) (sym c.used_more.ensures)
    (block_goes written o s r rest c.overlay_block.new.self (c.args.item + 1) arena c.args.used c.in_ok-made.made left (c.in_ok-made.ensures.meaning written s h name))
