use Rattle.std.proofs.Common.{◌≡◌, ◌++◌, List, ℕ, refl, sym, ap}
use Rattle.std.specs.Prelude.{codes}
use Rattle.dt_model.specs.Printed.{tabs}
use Rattle.dt_decompile.specs.Lines.{shown_name, open_line}
use Rattle.dt_text_writer.proofs.Writing.{puts_then, exits_first, exits_at, puts_last, cut_last, turned}
use Rattle.dt_decompile.proofs.lines.put_open.Goals as goal

opening : (depth : ℕ) (name shown : List ℕ) → shown ≡ shown_name depth name → open_line depth name ≡ tabs depth ++ (shown ++ codes " {\n")
opening depth name shown e = ap (λ (l : List ℕ). tabs depth ++ (l ++ codes " {\n")) (sym e)

pub returns-in_err-put_tabs-clause-refused : goal.returns-in_err-put_tabs-clause-refused
returns-in_err-put_tabs-clause-refused g c = exits_first _ _ _ _ _ c.from_residual.ensures.1 (opening c.args.depth c.args.name.now _ refl) c.in_err-put_tabs.ensures.refused

pub returns-in_err-put-clause-refused : goal.returns-in_err-put-clause-refused
returns-in_err-put-clause-refused g c =
    exits_at _ _ _ _ _ c.from_residual-in_err-put.ensures.1 (opening c.args.depth c.args.name.now c.shown.result.now c.shown.ensures)
    c.in_ok-put_tabs.ensures.written c.in_err-put.ensures.refused

pub returns-clause-written : goal.returns-clause-written
returns-clause-written g c =
    puts_last _ _ _ _ (turned (tabs c.args.depth) c.shown.result.now (codes " {\n") (opening c.args.depth c.args.name.now c.shown.result.now c.shown.ensures))
    (puts_then c.in_ok-put_tabs.ensures.written c.in_ok-put.ensures.written) c.put-2.ensures.written

pub returns-clause-refused : goal.returns-clause-refused
returns-clause-refused g c =
    cut_last _ _ _ _ (turned (tabs c.args.depth) c.shown.result.now (codes " {\n") (opening c.args.depth c.args.name.now c.shown.result.now c.shown.ensures))
    (puts_then c.in_ok-put_tabs.ensures.written c.in_ok-put.ensures.written) c.put-2.ensures.refused
