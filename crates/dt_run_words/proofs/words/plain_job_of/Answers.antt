use Rattle.std.proofs.Common.{rules, ◌≡◌, ◌∙◌, sym, codes}
use Rattle.clap.specs.Words.{found_of, rows_of}
use Rattle.dt_run_words.proofs.WordLemmas.{is_flag}
use Rattle.dt_run_words.proofs.words.plain_job_of.Goals as goal

pub returns-in-compile : goal.returns-in-compile
returns-in-compile c =
    let found = found_of c.args.found.now in
    let hex = is_flag found (codes "hex") _ c.get_flag-in-compile.ensures.none c.get_flag-in-compile.ensures.value c.get_flag-in-compile.ensures.other in
    let raw = is_flag found (codes "raw") _ c.get_flag.ensures.none c.get_flag.ensures.value c.get_flag.ensures.other in
    let job = c.compiling.ensures (rows_of found) c.get_flag-in-compile.result hex raw in
    let name : c.args.command.now ≡ codes "compile" = search rules in
    (name ∙ sym job.0, job.1, job.2)

pub returns-in-apply : goal.returns-in-apply
returns-in-apply c =
    let name : c.args.command.now ≡ codes "apply" = search rules in
    (name, is_flag (found_of c.args.found.now) (codes "hex") _ c.get_flag-in-apply.ensures.none c.get_flag-in-apply.ensures.value c.get_flag-in-apply.ensures.other, tt)

pub returns-in-build : goal.returns-in-build
returns-in-build c =
    let name : c.args.command.now ≡ codes "build" = search rules in
    (name, is_flag (found_of c.args.found.now) (codes "hex") _ c.get_flag-in-build.ensures.none c.get_flag-in-build.ensures.value c.get_flag-in-build.ensures.other, tt)
