-- A source has a tree, or is refused for one reason.
use Rattle.std.proofs.Common.{◌≡◌, ◌⊎◌, inl, inr, true, true≢false, refl, sym, ap, ◌∙◌}
use Rattle.dt_names.specs.Fault.{IsExclusive, IsOneRefusal}
use Rattle.dt_names.specs.declared.fault.FaultKind.{FaultKind}
use Rattle.dt_names.specs.declared.fault.FaultKind.TheVariants.{NoMemory, BadVersionTag}
use Rattle.dt_model.specs.Named.{NodeReference, Named}
use Rattle.dt_model.specs.Source.{Mode}
use Rattle.dt_model_laws.specs.CompiledTrees.{RefusalIsOne}
use Rattle.dt_model_laws.specs.NamedTrees.{NamedIsNotRefused}
use Rattle.dt_grammar.specs.Grammar.{Says}
use Rattle.dt_source.specs.Meant.{HasTree}
use Rattle.dt_source.specs.Refusals.{WhyNotNamed, IsFaultOf, fault_kind}

-- memory is wanted; or it is an overlay's; or its places are refused
abbrev pub Sorted : Mode → Says → FaultKind → Type 0
Sorted mode s kind = (kind ≡ NoMemory) ⊎ ((kind ≡ BadVersionTag) × (s.plugin ≡ true)) ⊎ IsFaultOf mode s kind

pub sorted : (mode : Mode) (s : Says) (kind : FaultKind) → WhyNotNamed mode kind s → Sorted mode s kind
sorted mode s NoMemory why = inl refl
sorted mode s BadVersionTag why = inr (inl (refl, why))
sorted mode s _ why = inr (inr why)

pub built_not_refused : NamedIsNotRefused → (mode : Mode) (s : Says) (t : Named NodeReference) → IsExclusive (HasTree mode s t) (λ kind. WhyNotNamed mode kind s)
built_not_refused not mode s t kind h why = elim (sorted mode s kind why) [
  | inl e ↦ e
  | inr (inl e) ↦ absurd (true≢false (sym e.1 ∙ h.plain))
  | inr (inr f) ↦ absurd (not mode s.reservations s.places t f.refusal h.means h.named.few f.refused)
]

pub refused_once : RefusalIsOne → (mode : Mode) (s : Says) → IsOneRefusal (λ kind. WhyNotNamed mode kind s)
refused_once one mode s k j wanted wanted' why also = elim (sorted mode s k why) [
  | inl e ↦ absurd (wanted e)
  | inr (inl e) ↦
      elim (sorted mode s j also) [
        | inl i ↦ absurd (wanted' i)
        | inr (inl i) ↦ e.0 ∙ sym i.0
        | inr (inr g) ↦ absurd (true≢false (sym e.1 ∙ g.plain))
      ]
  | inr (inr f) ↦
      elim (sorted mode s j also) [
        | inl i ↦ absurd (wanted' i)
        | inr (inl i) ↦ absurd (true≢false (sym i.1 ∙ f.plain))
        | inr (inr g) ↦ f.told ∙ ap fault_kind (one mode s.places f.refusal g.refusal f.refused g.refused) ∙ sym g.told
      ]
]
