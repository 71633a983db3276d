use Rattle.std.proofs.Common.{◌∙◌, ◌++◌, ℕ, List, ap, append_assoc}
use Rattle.std.specs.Int.{w64, to_be_bytes}
use Rattle.std.proofs.lemmas.Result.{on_ok_weaker}
use Rattle.dt_write.proofs.words.put_pair.Goals as goal

pub returns : goal.returns
returns c =
    let size = to_be_bytes w64 c.args.size in
    on_ok_weaker c.put_long-2.result (λ e. e ∙ ap (λ (w : List ℕ). w ++ size) c.in_ok-put_long.ensures ∙ append_assoc c.args.out.now.items (to_be_bytes w64 c.args.address) size) c.put_long-2.ensures
