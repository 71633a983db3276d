use Rattle.std.proofs.Common.{rules, ◌≡◌, codes}
use Rattle.clap.specs.Words.{found_of, rows_of}
use Rattle.dt_run_words.proofs.WordLemmas.{is_commands, no_dma, no_spec}
use Rattle.dt_run_words.proofs.words.job_of.Goals as goal

pub returns-in-dma : goal.returns-in-dma
returns-in-dma c =
    let command = c.args.command.now in
    let rows = rows_of (found_of c.args.found.now) in
    let name : command ≡ codes "dma" = search rules in
    is_commands command rows (codes "dma") name (no_dma command rows name) c.dma_of.result c.without_hex.result c.without_hex.ensures c.dma_of.ensures

pub returns-in-spec : goal.returns-in-spec
returns-in-spec c =
    let command = c.args.command.now in
    let rows = rows_of (found_of c.args.found.now) in
    let name : command ≡ codes "spec" = search rules in
    is_commands command rows (codes "spec") name (no_spec command rows name) c.spec_of.result c.without_hex-in-spec.result c.without_hex-in-spec.ensures c.spec_of.ensures
