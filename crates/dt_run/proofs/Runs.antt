-- What a run does.
use Rattle.std.proofs.Common.{◌≡◌, ℕ, List, None, Result, Ok, Err, IfErr, refl, sym, subst}
use Rattle.dt_names.specs.declared.fault.Fault.{Fault}
use Rattle.dt_names.specs.declared.fault.FaultKind.TheVariants.{NoMemory}
use Rattle.dt_names.specs.Sink.{Taken}
use Rattle.dt_names.proofs.Faults.{own_placeless, is_placeless}
use Rattle.dt_run_streams.specs.Files.{Loads, AreLoaded, WhyNotLoaded}
use Rattle.dt_run.specs.Job.{WhyNotPerformed}
use Rattle.dt_run.specs.Run.{WhyNotDone, WhyNotMadeOf, file_names, no_memory, unperformed, unloaded, unmade}
use Rattle.dt_run_words.specs.declared.command_line.Line.{Line}

-- what isn't made of inputs isn't made of the same texts
pub unmade_of : {V : Type 0} (line : Line) (inputs texts : List (List ℕ)) (old new : Taken) (result : Result V (ℕ × Fault)) → inputs ≡ texts →
    IfErr result (λ e. WhyNotPerformed e.0 e.1.kind e.1.at line.job line.hex inputs old new) → IfErr result (λ e. WhyNotMadeOf line texts old new e.0 e.1)
unmade_of line inputs texts old new (Ok v) same why = why
unmade_of line inputs texts old new (Err e) same why =
    unperformed e.0 e.1 (subst (λ (xs : List (List ℕ)). WhyNotPerformed e.0 e.1.kind e.1.at line.job line.hex xs old new) same why)

pub unmade_here : (line : Line) (texts : List (List ℕ)) (sink : Taken) (fault : Fault) → fault.kind ≡ NoMemory → fault.at ≡ None →
    WhyNotMadeOf line texts sink sink 0 fault
unmade_here line texts sink fault kind at =
    subst (λ (f : Fault). WhyNotMadeOf line texts sink sink 0 f) (sym (is_placeless fault NoMemory kind at)) (no_memory refl)

pub undone_of : {F : Type 0} {V : Type 0} (loads : Loads F) (before behind : F) (line : Line) (names given texts : List (List ℕ)) (old new : Taken) (result : Result V (ℕ × Fault)) →
    names ≡ file_names line → given ≡ texts → AreLoaded loads names before texts behind → IfErr result (λ e. WhyNotMadeOf line given old new e.0 e.1) →
    IfErr result (λ e. WhyNotDone loads before behind line old new e.0 e.1)
undone_of loads before behind line names given texts old new (Ok v) own same loaded why = why
undone_of loads before behind line names given texts old new (Err e) own same loaded why =
    unmade texts e.0 e.1 (subst (λ (ns : List (List ℕ)). AreLoaded loads ns before texts behind) own loaded)
    (subst (λ (ts : List (List ℕ)). WhyNotMadeOf line ts old new e.0 e.1) same why)

pub not_loaded : {F : Type 0} (loads : Loads F) (before behind : F) (line : Line) (names : List (List ℕ)) (sink : Taken) (k : ℕ) (fault : Fault) → names ≡ file_names line →
    WhyNotLoaded loads names k before fault.kind behind → fault.at ≡ None → WhyNotDone loads before behind line sink sink k fault
not_loaded loads before behind line names sink k fault own why at =
    subst (λ (f : Fault). WhyNotDone loads before behind line sink sink k f) (sym (own_placeless fault at))
    (unloaded k fault.kind (subst (λ (ns : List (List ℕ)). WhyNotLoaded loads ns k before fault.kind behind) own why) refl)
