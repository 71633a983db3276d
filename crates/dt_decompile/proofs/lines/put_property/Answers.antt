use Rattle.std.proofs.Common.{◌++◌, refl}
use Rattle.std.specs.Prelude.{codes}
use Rattle.dt_model.specs.Printed.{tabs, value_text}
use Rattle.dt_text_writer.proofs.Writing.{puts_then, exits_first, exits_at, puts_last, cut_last, turned}
use Rattle.dt_decompile.proofs.lines.put_property.Goals as goal

pub returns-in_err-put_tabs-clause-refused : goal.returns-in_err-put_tabs-clause-refused
returns-in_err-put_tabs-clause-refused g c = exits_first _ _ _ _ _ c.from_residual.ensures.1 refl c.in_err-put_tabs.ensures.refused

pub returns-in_err-put-clause-refused : goal.returns-in_err-put-clause-refused
returns-in_err-put-clause-refused g c =
    exits_at _ _ _ _ _ c.from_residual-in_err-put.ensures.1 refl c.in_ok-put_tabs.ensures.written c.in_err-put.ensures.refused

pub returns-in_err-put_value-clause-refused : goal.returns-in_err-put_value-clause-refused
returns-in_err-put_value-clause-refused g c =
    exits_at _ _ _ _ _ c.from_residual-in_err-put_value.ensures.1 (turned (tabs c.args.depth) c.args.name.now (value_text c.args.value.now ++ codes ";\n") refl)
    (puts_then c.in_ok-put_tabs.ensures.written c.in_ok-put.ensures.written) c.in_err-put_value.ensures.refused

pub returns-clause-written : goal.returns-clause-written
returns-clause-written g c =
    puts_last _ _ _ _
    (turned (tabs c.args.depth ++ c.args.name.now) (value_text c.args.value.now) (codes ";\n") (turned (tabs c.args.depth) c.args.name.now (value_text c.args.value.now ++ codes ";\n") refl))
    (puts_then (puts_then c.in_ok-put_tabs.ensures.written c.in_ok-put.ensures.written) c.in_ok-put_value.ensures.written) c.put-2.ensures.written

pub returns-clause-refused : goal.returns-clause-refused
returns-clause-refused g c =
    cut_last _ _ _ _
    (turned (tabs c.args.depth ++ c.args.name.now) (value_text c.args.value.now) (codes ";\n") (turned (tabs c.args.depth) c.args.name.now (value_text c.args.value.now ++ codes ";\n") refl))
    (puts_then (puts_then c.in_ok-put_tabs.ensures.written c.in_ok-put.ensures.written) c.in_ok-put_value.ensures.written) c.put-2.ensures.refused
