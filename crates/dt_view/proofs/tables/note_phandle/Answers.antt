use Rattle.std.proofs.Common.{◌≡◌, ◌<◌, ◌^◌, Some, None, sym, ap, ◌∙◌, arith}
use Rattle.std.specs.Option.{option_copied}
use Rattle.std.proofs.lemmas.Result.{on_ok_weaker}
use Rattle.dt_model.specs.Meaning.{cell}
use Rattle.dt_trees.specs.Placed.{path_at, reading_of}
use Rattle.dt_view.proofs.Tabled.{is_phandle, noted, not_noted}
use Rattle.dt_view.proofs.tables.note_phandle.Goals as goal

pub returns-in_default : goal.returns-in_default
returns-in_default c =
    let t = c.args.blob.now in
    not_noted t c.args.node c.args.phandles.now.entries (λ n has. let z : None ≡ Some (cell n) = sym (sym c.requires ∙ ap option_copied c.in_default.is) ∙ has in cc)

pub returns-in_default-number_of : goal.returns-in_default-number_of
returns-in_default-number_of c =
    let t = c.args.blob.now in
    let is = is_phandle (reading_of t) (path_at t c.args.node) c.in-Some.value.now c.validity.ensures.valid (sym c.requires ∙ ap option_copied c.in-Some.is) in
    absurd (let z = c.in_default-number_of.ensures.valid.1 is in cc)

pub returns : goal.returns
returns c =
    let t = c.args.blob.now in
    let number = c.in-Some-number_of.number in
    let small : number < 2 ^ 32 = omega arith in
    on_ok_weaker c.put_phandle.result (noted t c.args.node number c.in-Some.value.now c.args.phandles.now.entries c.put_phandle.new.phandles.entries (sym c.requires ∙ ap option_copied c.in-Some.is) c.in-Some-number_of.ensures.cell small) c.put_phandle.ensures
