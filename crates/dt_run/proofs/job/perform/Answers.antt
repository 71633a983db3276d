use Rattle.std.proofs.Common.{◌≡◌, ◌<◌, ℕ, List, ◌∷◌, [], length, map, get_or, subst, arith, Bor}
use Rattle.std.proofs.lemmas.List.{length-map}
use Rattle.std.proofs.lemmas.Result.{IfErr-weaker}
use Rattle.dt_names.specs.Sink.{Takes}
use Rattle.dt_run.specs.Job.{IsWritten, WhyNotDoneBy}
use Rattle.dt_run.specs.Task.{IsTaskOf}
use Rattle.dt_run.specs.declared.task.Task.{Task}
use Rattle.dt_run.specs.declared.task.Task.TheVariants as task
use Rattle.dt_run.proofs.Performing.{answered, blob_refused, first_done, first_refused, not_asked, only_first, some_inputs, task_inputs}
use Rattle.dt_run.proofs.job.perform.Goals as goal

abbrev none : Bor (List ℕ)
none = record { ref_ptr = (0, 0); now = [] }

pub returns-in-Make-clause-refused : goal.returns-in-Make-clause-refused
returns-in-Make-clause-refused g c =
    let xs = c.args.inputs.now in
    let texts = map (λ (x : Bor (List ℕ)). x.now) xs in
    let making = c.in-Make.making in
    let of_job : IsTaskOf c.args.job (task.Make making) = subst (λ (t : Task). IsTaskOf c.args.job t) c.in-Make.is c.task_of.ensures in
    let some = some_inputs making (length xs) (task_inputs c.args.job (task.Make making) (length xs) of_job c.requires) in
    let given : 0 < length texts = omega (arith, some, length-map xs (λ (x : Bor (List ℕ)). x.now)) in
    IfErr-weaker c.show.result _ _ (λ e why. (task.Make making, of_job, why))
    (blob_refused making c.args.hex texts _ _ c.make.result c.show.result given c.make.ensures.made c.make.ensures.refused c.show.ensures.shown c.show.ensures.refused)

pub returns-in-Report-clause-refused : goal.returns-in-Report-clause-refused
returns-in-Report-clause-refused g c =
    let xs = c.args.inputs.now in
    let report = c.in-Report.report in
    let old = g.S.Sink.taken c.args.out.now in
    let new = g.S.Sink.taken c.put_report.new.out in
    let of_job : IsTaskOf c.args.job (task.Report report) = subst (λ (t : Task). IsTaskOf c.args.job t) c.in-Report.is c.task_of.ensures in
    let one : length xs ≡ 1 = task_inputs c.args.job (task.Report report) (length xs) of_job c.requires in
    rw (only_first none xs one)
    (IfErr-weaker c.of_first.result _ _ (λ e why. (task.Report report, of_job, why))
    (first_refused c.put_report.result c.of_first.result (λ k e. WhyNotDoneBy (task.Report report) k e.kind e.at c.args.hex ((get_or xs 0 none).now ∷ []) old new)
    c.of_first.ensures (c.put_report.ensures.refused c.args.hex)))

pub returns-in-Ask-clause-written : goal.returns-in-Ask-clause-written
returns-in-Ask-clause-written g c =
    let xs = c.args.inputs.now in
    let path = c.in-Ask.path in
    let question = c.in-Ask.question in
    let blob = (get_or xs 0 none).now in
    let old = g.S.Sink.taken c.args.out.now in
    let new = g.S.Sink.taken c.ask.new.out in
    let of_job : IsTaskOf c.args.job (task.Ask path question) = subst (λ (t : Task). IsTaskOf c.args.job t) c.in-Ask.is c.task_of.ensures in
    let one : length xs ≡ 1 = task_inputs c.args.job (task.Ask path question) (length xs) of_job c.requires in
    rw (only_first none xs one)
    (first_done c.ask.result c.of_first-in-Ask.result ((bytes : List ℕ) × IsWritten c.args.job c.args.hex (blob ∷ []) bytes × Takes bytes old new)
    c.of_first-in-Ask.ensures (answered c.args.job path question c.args.hex blob old new of_job c.ask.result c.ask.ensures.written))

pub returns-in-Ask-clause-refused : goal.returns-in-Ask-clause-refused
returns-in-Ask-clause-refused g c =
    let xs = c.args.inputs.now in
    let path = c.in-Ask.path in
    let question = c.in-Ask.question in
    let blob = (get_or xs 0 none).now in
    let old = g.S.Sink.taken c.args.out.now in
    let new = g.S.Sink.taken c.ask.new.out in
    let of_job : IsTaskOf c.args.job (task.Ask path question) = subst (λ (t : Task). IsTaskOf c.args.job t) c.in-Ask.is c.task_of.ensures in
    let one : length xs ≡ 1 = task_inputs c.args.job (task.Ask path question) (length xs) of_job c.requires in
    rw (only_first none xs one)
    (IfErr-weaker c.of_first-in-Ask.result _ _ (λ e why. (task.Ask path question, of_job, why))
    (first_refused c.ask.result c.of_first-in-Ask.result (λ k e. WhyNotDoneBy (task.Ask path question) k e.kind e.at c.args.hex (blob ∷ []) old new)
    c.of_first-in-Ask.ensures (IfErr-weaker c.ask.result _ _ (λ fault why. not_asked path question c.args.hex blob old new fault why) c.ask.ensures.refused)))
