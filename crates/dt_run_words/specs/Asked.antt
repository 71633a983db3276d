-- How many inputs a job takes.
use Rattle.std.specs.Prelude.{◌≡◌, ◌≤◌, ℕ}
use native.Mathlib.Bridge.{le_prop}
use native.Mathlib.Nat.{ℕ_set}
use Rattle.dt_run_words.specs.declared.command_line.Job.{Job}
use Rattle.dt_run_words.specs.declared.command_line.Job.TheVariants.{Compile, CompileRaw, Apply, Build, Print, Check, Regs, Irqs, Dma, Spec}

-- a job takes so many inputs
abbrev pub IsAsked : Job → ℕ → Type 0
IsAsked Compile count = count ≡ 1
IsAsked CompileRaw count = count ≡ 1
IsAsked Apply count = 1 ≤ count
IsAsked Build count = 1 ≤ count
IsAsked Print count = count ≡ 1
IsAsked Check count = count ≡ 1
IsAsked Regs count = count ≡ 1
IsAsked Irqs count = count ≡ 1
IsAsked (Dma path address size) count = count ≡ 1
IsAsked (Spec path property kind index) count = count ≡ 1

-- that is a fact, and there is one
pub IsAsked-prop : (job : Job) (count : ℕ) → IsProp (IsAsked job count)
IsAsked-prop Compile count = ℕ_set count 1
IsAsked-prop CompileRaw count = ℕ_set count 1
IsAsked-prop Apply count = le_prop
IsAsked-prop Build count = le_prop
IsAsked-prop Print count = ℕ_set count 1
IsAsked-prop Check count = ℕ_set count 1
IsAsked-prop Regs count = ℕ_set count 1
IsAsked-prop Irqs count = ℕ_set count 1
IsAsked-prop (Dma path address size) count = ℕ_set count 1
IsAsked-prop (Spec path property kind index) count = ℕ_set count 1
