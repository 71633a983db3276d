use Rattle.std.proofs.Common.{rules, ℕ, List, sym, subst}
use Rattle.dt_model.specs.Names.{IsPropertyName}
use Rattle.dt_overlay_texts.specs.Cuts.{IsNumeralOf}
use Rattle.dt_overlay_texts.proofs.CellTexts.{no_colon, no_second, path_first, property_second}
use Rattle.dt_overlay_texts.proofs.reading.cell_text.Goals as goal

pub returns-in_err-path : goal.returns-in_err-path
returns-in_err-path c = rw c.from_residual.ensures (λ cell less is. no_colon c.args.text.now c.in_err-path.ensures cell is)

pub returns-in_err-property : goal.returns-in_err-property
returns-in_err-property c =
    rw c.from_residual-in_err-property.ensures (λ cell less is.
    no_second c.args.text.now c.in_ok-path.path.now c.in_ok-path.rest.now c.in_ok-path.ensures c.in_err-property.ensures cell is)

pub returns-in_err-path-2 : goal.returns-in_err-path-2
returns-in_err-path-2 c =
    rw c.from_residual-in_err-path-2.ensures (λ cell less is.
    let first = path_first c.args.text.now c.in_ok-path.path.now c.in_ok-path.rest.now cell is c.in_ok-path.ensures in
    c.in_err-path-2.ensures cell.path (record { written = first.0; named = is.path }))

pub returns-in_err-ok : goal.returns-in_err-ok
returns-in_err-ok c =
    let other : ¬ IsPropertyName c.in_ok-property.property.now = search rules in
    rw c.from_residual-in_err-ok.ensures (λ cell less is.
    let second = property_second c.args.text.now c.in_ok-path.path.now c.in_ok-path.rest.now c.in_ok-property.property.now c.in_ok-property.digits.now cell is c.in_ok-path.ensures c.in_ok-property.ensures in
    other (subst IsPropertyName (sym second.0) is.property))

pub returns-in_err-offset : goal.returns-in_err-offset
returns-in_err-offset c =
    rw c.from_residual-in_err-offset.ensures (λ cell less is.
    let second = property_second c.args.text.now c.in_ok-path.path.now c.in_ok-path.rest.now c.in_ok-property.property.now c.in_ok-property.digits.now cell is c.in_ok-path.ensures c.in_ok-property.ensures in
    c.in_err-offset.ensures cell.offset less (subst (λ (digits : List ℕ). IsNumeralOf digits cell.offset) (sym second.1) (record { numeral = is.numeral; value = is.offset })))
