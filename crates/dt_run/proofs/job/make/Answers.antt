use Rattle.std.proofs.Common.{◌≡◌, ◌≤◌, ◌-◌, ℕ, List, ◌∷◌, [], length, map, take, drop, get_or, subst, Bor}
use Rattle.dt_chain_promises.specs.Compile as compile
use Rattle.dt_chain_promises.specs.Compile.{IsCompiled}
use Rattle.dt_model.specs.Source.{raw}
use Rattle.dt_run.specs.Showing.{HasInputs, WhyInput}
use Rattle.dt_run.specs.declared.task.Making.{Making}
use Rattle.dt_run.specs.declared.task.Making.TheVariants.{Compile, CompileRaw}
use Rattle.dt_run.proofs.Performing.{first_and_others, first_made, first_refused, not_applied, not_built, not_compiled, not_compiled_raw, only_first}
use Rattle.dt_run.proofs.job.make.Goals as goal

-- what the first input is, and what the others are
abbrev none : Bor (List ℕ)
none = record { ref_ptr = (0, 0); now = [] }

abbrev first_of : List (Bor (List ℕ)) → List ℕ
first_of xs = (get_or xs 0 none).now

abbrev others_of : List (Bor (List ℕ)) → List (List ℕ)
others_of xs = map (λ x. x.now) (take (length xs - 1) (drop 1 xs))

pub returns-in-Compile-clause-made : goal.returns-in-Compile-clause-made
returns-in-Compile-clause-made c =
    let xs = c.args.inputs.now in
    let asked : length xs ≡ 1 = subst (λ (making : Making). HasInputs making (length xs)) c.in-Compile.is c.requires in
    rw (c.in-Compile.is, only_first none xs asked)
    (first_made c.compile.result c.of_first.result (λ blob. compile.IsBlobOf (first_of xs) blob.items) c.of_first.ensures c.compile.ensures.blob)

pub returns-in-Compile-clause-refused : goal.returns-in-Compile-clause-refused
returns-in-Compile-clause-refused c =
    let xs = c.args.inputs.now in
    let asked : length xs ≡ 1 = subst (λ (making : Making). HasInputs making (length xs)) c.in-Compile.is c.requires in
    rw (c.in-Compile.is, only_first none xs asked)
    (first_refused c.compile.result c.of_first.result (WhyInput Compile (first_of xs ∷ [])) c.of_first.ensures
    (not_compiled (first_of xs) c.compile.result c.compile.ensures.refused c.compile.ensures.kinds))

pub returns-in-CompileRaw-clause-made : goal.returns-in-CompileRaw-clause-made
returns-in-CompileRaw-clause-made c =
    let xs = c.args.inputs.now in
    let asked : length xs ≡ 1 = subst (λ (making : Making). HasInputs making (length xs)) c.in-CompileRaw.is c.requires in
    rw (c.in-CompileRaw.is, only_first none xs asked)
    (first_made c.compile_raw.result c.of_first-in-CompileRaw.result (λ blob. IsCompiled raw (first_of xs) blob.items) c.of_first-in-CompileRaw.ensures c.compile_raw.ensures.blob)

pub returns-in-CompileRaw-clause-refused : goal.returns-in-CompileRaw-clause-refused
returns-in-CompileRaw-clause-refused c =
    let xs = c.args.inputs.now in
    let asked : length xs ≡ 1 = subst (λ (making : Making). HasInputs making (length xs)) c.in-CompileRaw.is c.requires in
    rw (c.in-CompileRaw.is, only_first none xs asked)
    (first_refused c.compile_raw.result c.of_first-in-CompileRaw.result (WhyInput CompileRaw (first_of xs ∷ [])) c.of_first-in-CompileRaw.ensures
    (not_compiled_raw (first_of xs) c.compile_raw.result c.compile_raw.ensures.refused c.compile_raw.ensures.kinds))

pub returns-in-Apply-clause-made : goal.returns-in-Apply-clause-made
returns-in-Apply-clause-made c =
    let xs = c.args.inputs.now in
    let asked : 1 ≤ length xs = subst (λ (making : Making). HasInputs making (length xs)) c.in-Apply.is c.requires in
    rw (c.in-Apply.is, first_and_others none xs asked) c.apply_list.ensures.blob

pub returns-in-Apply-clause-refused : goal.returns-in-Apply-clause-refused
returns-in-Apply-clause-refused c =
    let xs = c.args.inputs.now in
    let asked : 1 ≤ length xs = subst (λ (making : Making). HasInputs making (length xs)) c.in-Apply.is c.requires in
    rw (c.in-Apply.is, first_and_others none xs asked)
    (not_applied (first_of xs) (others_of xs) c.apply_list.result c.apply_list.ensures.refused)

pub returns-in-Build-clause-made : goal.returns-in-Build-clause-made
returns-in-Build-clause-made c =
    let xs = c.args.inputs.now in
    let asked : 1 ≤ length xs = subst (λ (making : Making). HasInputs making (length xs)) c.in-Build.is c.requires in
    rw (c.in-Build.is, first_and_others none xs asked) c.build.ensures.blob

pub returns-in-Build-clause-refused : goal.returns-in-Build-clause-refused
returns-in-Build-clause-refused c =
    let xs = c.args.inputs.now in
    let asked : 1 ≤ length xs = subst (λ (making : Making). HasInputs making (length xs)) c.in-Build.is c.requires in
    rw (c.in-Build.is, first_and_others none xs asked)
    (not_built (first_of xs) (others_of xs) c.build.result c.build.ensures.refused)
