-- A text that tells of bytes.
use Rattle.std.proofs.Common.{ℕ, List, Result, Ok, Err, OnOk, IfErr}
use Rattle.dt_names.specs.Sink.{Taken, Takes, IsRefused}
use Rattle.dt_names.specs.declared.fault.Fault.{Fault}
use Rattle.dt_run_streams.specs.Told.{WhyNotTold, cut}

module _ (bytes text : List ℕ) (Is : List ℕ → Type 0) (is : Is text) (old new : Taken) where
  pub told : (r : Result (Unit {0}) Fault) → OnOk r (Takes text old new) → OnOk r ((t : List ℕ) × Is t × Takes t old new)
  told (Ok done) taken = (text, is, taken)
  told (Err fault) taken = tt

  pub untold : (r : Result (Unit {0}) Fault) → IfErr r (λ fault. IsRefused fault text old new) → IfErr r (λ fault. WhyNotTold fault bytes Is old new)
  untold (Ok done) refused = tt
  untold (Err fault) refused = cut text is refused
