-- An overlay's source is compiled to one blob, or is refused for one reason.
use Rattle.std.proofs.Common.{◌≡◌, ◌≢◌, ℕ, ◌<◌, ◌≤◌, inl, inr, List, [], length, refl, sym, ap, subst, ◌∙◌, true, false, true≢false, arith}
use Rattle.dt_names.specs.declared.fault.Fault.{Fault}
use Rattle.dt_names.specs.declared.fault.FaultKind.{FaultKind}
use Rattle.dt_names.specs.declared.fault.FaultKind.TheVariants.{NoMemory, Limit}
use Rattle.dt_model.specs.Limits.{most_bytes}
use Rattle.dt_model.specs.OverlaySource.{OverlayMeans}
use Rattle.dt_model.specs.Tree.{Reading}
use Rattle.dt_model.specs.Valid.{IsWithinLimits}
use Rattle.dt_model.specs.Fixups.{IsObjectOf}
use Rattle.dt_model_laws.specs.OverlayTrees.{OneOverlay, OneObject, OverlayRefusalIsOne, OverlayIsNotRefused, ObjectIsNotRefused}
use Rattle.dt_grammar.specs.Grammar.{Says}
use Rattle.dt_grammar.specs.Parsed.{IsParsed}
use Rattle.dt_source.specs.Refusals.{WhyNoOverlay, overlay_fault_kind}
use Rattle.dt_source.proofs.OverlayOutcomes.{Sorted, sorted, overlay_refused_once}
use Rattle.dt_write.specs.Written.{written}
use Rattle.dt_chain_promises.specs.Compile.{OverlayTextHasTree, IsCompiledOverlay, WhyNotCompiledOverlay, no_memory, refused, large, big}
use Rattle.dt_names.specs.Fault.{placeless}
use Rattle.dt_chain_promises.specs.Laws.{OneOverlayMeaning}
use Rattle.dt_chain_promises.proofs.Outcomes.{SaidOnce, limit_told, of_kind}

-- ---- one meaning, one tree

pub overlay_once : SaidOnce → OneOverlay → OneOverlayMeaning
overlay_once once one text o q h k =
    let said : h.says ≡ k.says = once text h.says k.says h.parsed k.parsed in
    one k.says.places o q (subst (λ (s : Says). OverlayMeans s.places o) said h.means) k.means

pub tree_once : SaidOnce → OneObject → (text : List ℕ) (t u : Reading) → OverlayTextHasTree text t → OverlayTextHasTree text u → t ≡ u
tree_once once one text t u h k =
    let said : h.says ≡ k.says = once text h.says k.says h.parsed k.parsed in
    one k.says.places t u (subst (λ (s : Says). IsObjectOf s.places t) said h.tree) k.tree

pub blob_once : SaidOnce → OneObject → (text blob other : List ℕ) → IsCompiledOverlay text blob → IsCompiledOverlay text other → blob ≡ other
blob_once once one text blob other h k = h.is ∙ ap written (tree_once once one text h.tree k.tree h.of_text k.of_text) ∙ sym k.is

-- ---- why a source has no object

no_plugin : (s : Says) → s.plugin ≡ false → s.plugin ≡ true → ⊥
no_plugin s e h = true≢false (sym h ∙ e)

-- a text that has a tree is refused for nothing but the number of its nodes
only_many : SaidOnce → OverlayIsNotRefused → (text : List ℕ) (t : Reading) (s : Says) (kind : FaultKind) → OverlayTextHasTree text t → IsParsed text s
    → kind ≢ NoMemory → WhyNoOverlay kind s → kind ≡ Limit
only_many once not text t s kind h parsed wanted why = step (sorted s kind why)
  where
    said : h.says ≡ s
    said = once text h.says s h.parsed parsed

    tree : IsObjectOf s.places t
    tree = subst (λ (x : Says). IsObjectOf x.places t) said h.tree

    step : Sorted s kind → kind ≡ Limit
    step (inl e) = absurd (wanted e)
    step (inr (inl e)) = absurd (no_plugin s e.1 (subst (λ (x : Says). x.plugin ≡ true) said h.plugin))
    step (inr (inr (inl e))) = absurd (e.2 (subst (λ (x : Says). x.reservations ≡ []) said h.reservations))
    step (inr (inr (inr f))) = f.told ∙ ap overlay_fault_kind (not s.places tree.of_places.overlay f.refusal tree.of_places.means f.refused)

-- ---- answered, or refused

pub compiled_not_refused : SaidOnce → OneObject → ObjectIsNotRefused
    → (text blob : List ℕ) (e : Fault) → IsCompiledOverlay text blob → WhyNotCompiledOverlay text e → e.kind ≡ NoMemory
compiled_not_refused once one not text blob _ h no_memory = refl
compiled_not_refused once one not text blob _ h (refused s kind parsed why) = step (sorted s kind why)
  where
    said : h.of_text.says ≡ s
    said = once text h.of_text.says s h.of_text.parsed parsed

    tree : IsObjectOf s.places h.tree
    tree = subst (λ (x : Says). IsObjectOf x.places h.tree) said h.of_text.tree

    step : Sorted s kind → kind ≡ NoMemory
    step (inl e) = e
    step (inr (inl e)) = absurd (no_plugin s e.1 (subst (λ (x : Says). x.plugin ≡ true) said h.of_text.plugin))
    step (inr (inr (inl e))) = absurd (e.2 (subst (λ (x : Says). x.reservations ≡ []) said h.of_text.reservations))
    step (inr (inr (inr f))) = absurd (not s.places h.tree f.refusal tree h.within.count f.refused)
compiled_not_refused once one not text blob _ h (large t k more) =
    absurd (more (subst IsWithinLimits (tree_once once one text h.tree t h.of_text k) h.within))
compiled_not_refused once one not text blob _ h (big t k more) =
    let same : t ≡ h.tree = tree_once once one text t h.tree k h.of_text in
    let less : length (written h.tree) ≤ most_bytes = subst (λ (b : List ℕ). length b ≤ most_bytes) h.is h.size in
    let more' : most_bytes < length (written h.tree) = subst (λ (u : Reading). most_bytes < length (written u)) same more in
    absurd (omega (arith, less, more'))

-- ---- one refusal

module _ (once : SaidOnce) (one : OverlayRefusalIsOne) (not : OverlayIsNotRefused) where
  -- a text that has a tree is refused only as too large
  with_tree : (text : List ℕ) (t : Reading) (f : Fault) → OverlayTextHasTree text t → f.kind ≢ NoMemory → WhyNotCompiledOverlay text f → placeless Limit ≡ f
  with_tree text t _ h wanted no_memory = absurd (wanted refl)
  with_tree text t _ h wanted (refused s kind parsed why) = sym (limit_told kind (only_many once not text t s kind h parsed wanted why))
  with_tree text t _ h wanted (large u k more) = refl
  with_tree text t _ h wanted (big u k more) = refl

  -- a source is refused as one
  with_source : (text : List ℕ) (s : Says) (k : FaultKind) (f : Fault) → IsParsed text s → WhyNoOverlay k s → k ≢ NoMemory → f.kind ≢ NoMemory → WhyNotCompiledOverlay text f → of_kind k ≡ f
  with_source text s k _ parsed why wanted wanted' no_memory = absurd (wanted' refl)
  with_source text s k _ parsed why wanted wanted' (refused r j same also) =
      let said : r ≡ s = once text r s same parsed in
      ap of_kind (overlay_refused_once one s k j wanted wanted' why (subst (WhyNoOverlay j) said also))
  with_source text s k _ parsed why wanted wanted' (large u h more) = limit_told k (only_many once not text u s k h parsed wanted why)
  with_source text s k _ parsed why wanted wanted' (big u h more) = limit_told k (only_many once not text u s k h parsed wanted why)

  pub refused_once : (text : List ℕ) (e f : Fault) → WhyNotCompiledOverlay text e → WhyNotCompiledOverlay text f → e.kind ≢ NoMemory → f.kind ≢ NoMemory → e ≡ f
  refused_once text _ f no_memory also wanted wanted' = absurd (wanted refl)
  refused_once text _ f (refused s kind parsed why) also wanted wanted' = with_source text s kind f parsed why wanted wanted' also
  refused_once text _ f (large t h more) also wanted wanted' = with_tree text t f h wanted' also
  refused_once text _ f (big t h more) also wanted wanted' = with_tree text t f h wanted' also
