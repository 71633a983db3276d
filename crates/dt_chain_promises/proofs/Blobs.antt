-- The compiler's answers to a text that may be a base's or an overlay's.
use Rattle.std.proofs.Common.{◌≡◌, ◌≢◌, ℕ, List, true, false, true≢false, inl, inr, refl, sym, ap, ◌∙◌}
use Rattle.dt_names.specs.declared.fault.Fault.{Fault}
use Rattle.dt_names.specs.declared.fault.FaultKind.TheVariants.{NoMemory}
use Rattle.dt_model.specs.Source.{base}
use Rattle.dt_model_laws.specs.CompiledTrees.{OneTree, MeantIsNotRefused, FewAreNotRefused}
use Rattle.dt_model_laws.specs.OverlayTrees.{OneObject, OverlayRefusalIsOne, OverlayIsNotRefused, ObjectIsNotRefused}
use Rattle.dt_grammar.specs.Grammar.{Says}
use Rattle.dt_grammar.specs.Parsed.{IsParsed}
use Rattle.dt_chain_promises.specs.Compile.{WhyNoBlob, no_memory, unparsed, as_base, as_overlay}
use Rattle.dt_chain_promises.specs.Laws.{OneBlob, CompiledIsNotRefused, OneRefusal}
use Rattle.dt_chain_promises.proofs.Outcomes as bases
use Rattle.dt_chain_promises.proofs.Outcomes.{SaidOnce, SaidOnly, FaultOnce, NamedOnce}
use Rattle.dt_chain_promises.proofs.OverlayOutcomes as overlays

-- a text is of a base or of an overlay, and not both
not_both : SaidOnce → (text : List ℕ) (s r : Says) → IsParsed text s → IsParsed text r → s.plugin ≡ false → r.plugin ≡ true → ⊥
not_both once text s r parsed also plain plugin =
    true≢false (sym plugin ∙ ap (λ (x : Says). x.plugin) (once text r s also parsed) ∙ plain)

-- ---- answered, or refused

module _ (once : SaidOnce) where
  pub blob_once : OneTree → OneObject → OneBlob
  blob_once tree object text blob other (inl h) (inl k) = bases.blob_once once tree base text blob other h k
  blob_once tree object text blob other (inl h) (inr k) =
      absurd (not_both once text h.of_text.says k.of_text.says h.of_text.parsed k.of_text.parsed h.of_text.plain k.of_text.plugin)
  blob_once tree object text blob other (inr h) (inl k) =
      absurd (not_both once text k.of_text.says h.of_text.says k.of_text.parsed h.of_text.parsed k.of_text.plain h.of_text.plugin)
  blob_once tree object text blob other (inr h) (inr k) = overlays.blob_once once object text blob other h k

  module _ (only : SaidOnly) where
    pub not_refused : OneTree → MeantIsNotRefused → FewAreNotRefused → OneObject → ObjectIsNotRefused → CompiledIsNotRefused
    not_refused tree meant few object not text blob _ h no_memory = refl
    not_refused tree meant few object not text blob _ (inl h) (unparsed e why) = only text h.of_text.says e h.of_text.parsed why
    not_refused tree meant few object not text blob _ (inr h) (unparsed e why) = only text h.of_text.says e h.of_text.parsed why
    not_refused tree meant few object not text blob _ (inl h) (as_base s e parsed plain why) = bases.compiled_not_refused once only tree meant few base text blob e h why
    not_refused tree meant few object not text blob _ (inr h) (as_base s e parsed plain why) =
        absurd (not_both once text s h.of_text.says parsed h.of_text.parsed plain h.of_text.plugin)
    not_refused tree meant few object not text blob _ (inl h) (as_overlay s e parsed plugin why) =
        absurd (not_both once text h.of_text.says s h.of_text.parsed parsed h.of_text.plain plugin)
    not_refused tree meant few object not text blob _ (inr h) (as_overlay s e parsed plugin why) = overlays.compiled_not_refused once object not text blob e h why

    module _ (fault : FaultOnce) (one : NamedOnce) (meant : MeantIsNotRefused) (also_one : OverlayRefusalIsOne) (not : OverlayIsNotRefused) where
      pub refused_once : OneRefusal
      refused_once text _ f no_memory also wanted wanted' = absurd (wanted refl)
      refused_once text _ f (unparsed e why) also wanted wanted' = step f also wanted'
        where
          step : (f : Fault) → WhyNoBlob text f → f.kind ≢ NoMemory → e ≡ f
          step _ no_memory w = absurd (w refl)
          step _ (unparsed g other) w = fault text e g why other wanted w
          step _ (as_base s g parsed plain other) w = absurd (wanted (only text s e parsed why))
          step _ (as_overlay s g parsed plugin other) w = absurd (wanted (only text s e parsed why))
      refused_once text _ f (as_base s e parsed plain why) also wanted wanted' = step f also wanted'
        where
          step : (f : Fault) → WhyNoBlob text f → f.kind ≢ NoMemory → e ≡ f
          step _ no_memory w = absurd (w refl)
          step _ (unparsed g other) w = absurd (w (only text s g parsed other))
          step _ (as_base r g same p other) w = bases.refused_once once only fault one meant base text e g why other wanted w
          step _ (as_overlay r g same plugin other) w = absurd (not_both once text s r parsed same plain plugin)
      refused_once text _ f (as_overlay s e parsed plugin why) also wanted wanted' = step f also wanted'
        where
          step : (f : Fault) → WhyNoBlob text f → f.kind ≢ NoMemory → e ≡ f
          step _ no_memory w = absurd (w refl)
          step _ (unparsed g other) w = absurd (w (only text s g parsed other))
          step _ (as_base r g same plain other) w = absurd (not_both once text r s same parsed plain plugin)
          step _ (as_overlay r g same p other) w = overlays.refused_once once also_one not text e g why other wanted w
