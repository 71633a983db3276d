use Rattle.std.proofs.Common.{◌≡◌, ◌++◌, Bool, drop, length, sym, subst}
use Rattle.std.specs.Prelude.{is_some}
use Rattle.std.specs.Bool.{OnTrue}
use Rattle.dt_model.specs.Path.{path_text, path_value}
use Rattle.dt_read.specs.Checked.{placed_of}
use Rattle.dt_trees.specs.Placed.{PlacedTree, path_at}
use Rattle.dt_c.proofs.Texts.{IsPut, ended_put}
use Rattle.dt_c.proofs.path.dtool_path.Goals as goal

pub returns-clause-is : goal.returns-clause-is
returns-clause-is c =
    let text = path_text (path_at c.blob_of-blob.result c.args.node) in
    let put : IsPut text c.in-Some.end c.args.out.now c.put_path.new.out = record { size = c.in-Some.ensures.0; room = c.in-Some.ensures.1; whole = c.in-Some.ensures.2 } in
    let ended = ended_put c.put_reversed.result text c.in-Some.end c.args.out.now c.put_path.new.out c.put_reversed.new.out put c.put_reversed.ensures in
    subst (λ (b : Bool). OnTrue b (c.put_reversed.new.out ≡ path_value (path_at (placed_of c.args.bytes.now) c.args.node) ++ drop (length (path_value (path_at (placed_of c.args.bytes.now) c.args.node))) c.args.out.now)) (sym c.is_some.ensures)
    (subst (λ (t : PlacedTree). OnTrue (is_some c.put_reversed.result) (c.put_reversed.new.out ≡ path_value (path_at t c.args.node) ++ drop (length (path_value (path_at t c.args.node))) c.args.out.now)) c.blob_of-blob.ensures ended)
