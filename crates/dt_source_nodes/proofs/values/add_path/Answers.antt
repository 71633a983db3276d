use Rattle.std.proofs.Common.{◌<◌, arith}
use Rattle.dt_source_nodes.proofs.Texts.{root_text, other_text}
use Rattle.dt_source_nodes.proofs.values.add_path.Goals as goal

pub returns-in_ok-add_name : goal.returns-in_ok-add_name
returns-in_ok-add_name c = root_text c.args.nodes.now c.args.text.now.items c.add_name.new.text.items c.args.node c.if-node-eq0.true c.in_ok-add_name.ensures

pub returns-in_ok-add_names : goal.returns-in_ok-add_names
returns-in_ok-add_names c =
    let below : 0 < c.args.node = omega arith in
    other_text c.args.nodes.now c.args.text.now.items c.add_names.new.text.items c.args.node below c.in_ok-add_names.ensures
