-- An overlay's source has a tree with fragments, or is refused for one reason.
use Rattle.std.proofs.Common.{◌≡◌, ◌≢◌, ◌⊎◌, inl, inr, List, [], true, false, true≢false, refl, sym, ap, ◌∙◌}
use Rattle.dt_names.specs.Fault.{IsExclusive, IsOneRefusal}
use Rattle.dt_names.specs.declared.fault.FaultKind.{FaultKind}
use Rattle.dt_names.specs.declared.fault.FaultKind.TheVariants.{NoMemory, BadVersionTag, OverlayReserve}
use Rattle.dt_model.specs.Named.{NodeReference, Named}
use Rattle.dt_model.specs.NamedOverlay.{NamedFragment}
use Rattle.dt_model_laws.specs.OverlayTrees.{NamedOverlayIsNotRefused, OverlayRefusalIsOne}
use Rattle.dt_grammar.specs.Grammar.{Says}
use Rattle.dt_source.specs.Meant.{HasOverlay}
use Rattle.dt_source.specs.Refusals.{WhyNoOverlay, IsOverlayFaultOf, overlay_fault_kind}

-- memory is wanted; or it is no overlay's; or it reserves memory; or its places are refused
abbrev pub Sorted : Says → FaultKind → Type 0
Sorted s kind =
    (kind ≡ NoMemory) ⊎ ((kind ≡ BadVersionTag) × (s.plugin ≡ false)) ⊎ ((kind ≡ OverlayReserve) × (s.plugin ≡ true) × (s.reservations ≢ [])) ⊎ IsOverlayFaultOf s kind

pub sorted : (s : Says) (kind : FaultKind) → WhyNoOverlay kind s → Sorted s kind
sorted s NoMemory why = inl refl
sorted s BadVersionTag why = inr (inl (refl, why))
sorted s OverlayReserve why = inr (inr (inl (refl, why.0, why.1)))
sorted s _ why = inr (inr (inr why))

pub overlay_not_refused : NamedOverlayIsNotRefused → (s : Says) (t : Named NodeReference) (fragments : List NamedFragment)
    → IsExclusive (HasOverlay s t fragments) (λ kind. WhyNoOverlay kind s)
overlay_not_refused not s t fragments kind h why = elim (sorted s kind why) [
  | inl e ↦ e
  | inr (inl e) ↦ absurd (true≢false (sym h.plugin ∙ e.1))
  | inr (inr (inl e)) ↦ absurd (e.2 h.reservations)
  | inr (inr (inr f)) ↦ absurd (not s.places t fragments f.refusal h.means h.named.few f.refused)
]

pub overlay_refused_once : OverlayRefusalIsOne → (s : Says) → IsOneRefusal (λ kind. WhyNoOverlay kind s)
overlay_refused_once one s k j wanted wanted' why also = elim (sorted s k why) [
  | inl e ↦ absurd (wanted e)
  | inr (inl e) ↦
      elim (sorted s j also) [
        | inl i ↦ absurd (wanted' i)
        | inr (inl i) ↦ e.0 ∙ sym i.0
        | inr (inr (inl i)) ↦ absurd (true≢false (sym i.1 ∙ e.1))
        | inr (inr (inr g)) ↦ absurd (true≢false (sym g.plugin ∙ e.1))
      ]
  | inr (inr (inl e)) ↦
      elim (sorted s j also) [
        | inl i ↦ absurd (wanted' i)
        | inr (inl i) ↦ absurd (true≢false (sym e.1 ∙ i.1))
        | inr (inr (inl i)) ↦ e.0 ∙ sym i.0
        | inr (inr (inr g)) ↦ absurd (e.2 g.reservations)
      ]
  | inr (inr (inr f)) ↦
      elim (sorted s j also) [
        | inl i ↦ absurd (wanted' i)
        | inr (inl i) ↦ absurd (true≢false (sym f.plugin ∙ i.1))
        | inr (inr (inl i)) ↦ absurd (i.2 f.reservations)
        | inr (inr (inr g)) ↦ f.told ∙ ap overlay_fault_kind (one s.places f.refusal g.refusal f.refused g.refused) ∙ sym g.told
      ]
]
