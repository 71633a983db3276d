use Rattle.dt_chain_promises.proofs.PrintedAgain.{compiled_again}
use Rattle.dt_chain_promises.proofs.laws.what_printing_means.Goals as goal

pub returns : goal.returns
returns c = record {
  again =
      compiled_again c.one_reading.ensures c.read_trees_hold_bytes.ensures c.text_is_parsed.ensures c.text_is_tree.ensures
      c.one_outcome.ensures.said c.one_outcome.ensures.only c.compiled_tree_is_one.ensures
      c.compiled_is_not_refused.ensures.meant c.compiled_is_not_refused.ensures.few c.written_reads.ensures.reads;
}
