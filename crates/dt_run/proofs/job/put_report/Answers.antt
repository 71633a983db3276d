use Rattle.std.proofs.lemmas.Result.{IfErr-weaker}
use Rattle.dt_resolve_lines.specs.declared.listing.Listing.TheVariants.{Regions, Routes}
use Rattle.dt_run.specs.declared.task.Report.TheVariants.{Print, Check, Regs, Irqs}
use Rattle.dt_run_streams.specs.Told.{IsCounted, IsPrinted}
use Rattle.dt_run.proofs.Performing.{lines_written, not_listed, not_told}
use Rattle.dt_run.proofs.job.put_report.Goals as goal

pub returns-in-Print-clause-written : goal.returns-in-Print-clause-written
returns-in-Print-clause-written g c = rw c.in-Print.is c.print.ensures.written

pub returns-in-Print-clause-refused : goal.returns-in-Print-clause-refused
returns-in-Print-clause-refused g c hex =
    rw c.in-Print.is
    (IfErr-weaker c.print.result _ _ (λ fault why. not_told Print hex _ _ _ (IsPrinted c.args.blob.now) fault (λ text is. is) why) c.print.ensures.refused)

pub returns-in-Check-clause-written : goal.returns-in-Check-clause-written
returns-in-Check-clause-written g c = rw c.in-Check.is c.check.ensures.written

pub returns-in-Check-clause-refused : goal.returns-in-Check-clause-refused
returns-in-Check-clause-refused g c hex =
    rw c.in-Check.is
    (IfErr-weaker c.check.result _ _ (λ fault why. not_told Check hex _ _ _ (IsCounted c.args.blob.now) fault (λ text is. is) why) c.check.ensures.refused)

pub returns-in-Regs-clause-written : goal.returns-in-Regs-clause-written
returns-in-Regs-clause-written g c = rw c.in-Regs.is (lines_written _ _ _ Regions c.regs.result c.regs.ensures.written)

pub returns-in-Regs-clause-refused : goal.returns-in-Regs-clause-refused
returns-in-Regs-clause-refused g c hex =
    rw c.in-Regs.is
    (IfErr-weaker c.regs.result _ _ (λ fault why. not_listed Regs hex _ _ _ Regions fault tt (λ text is. is) why) c.regs.ensures.refused)

pub returns-in-Irqs-clause-written : goal.returns-in-Irqs-clause-written
returns-in-Irqs-clause-written g c = rw c.in-Irqs.is (lines_written _ _ _ Routes c.irqs.result c.irqs.ensures.written)

pub returns-in-Irqs-clause-refused : goal.returns-in-Irqs-clause-refused
returns-in-Irqs-clause-refused g c hex =
    rw c.in-Irqs.is
    (IfErr-weaker c.irqs.result _ _ (λ fault why. not_listed Irqs hex _ _ _ Routes fault tt (λ text is. is) why) c.irqs.ensures.refused)
