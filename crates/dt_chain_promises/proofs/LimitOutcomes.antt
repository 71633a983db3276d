-- A limit is told exactly where something is beyond it.
use Rattle.std.proofs.Common.{◌≡◌, ◌⊎◌, ◌↔◌, ℕ, suc, true, inl, inr, List, [], ◌∷◌, ◌++◌, length, refl, sym, subst, ◌∙◌}
use Rattle.dt_model.specs.Checks.{over_limit}
use Rattle.dt_model.specs.Checks as checks
use Rattle.dt_model.specs.OverlaySource.{as_any, overlay_delete, overlay_phandle, overlay_path, bad_fragment, outside_content}
use Rattle.dt_model.specs.Refused.{SourceRefusal, OverlaySourceRefusal, at_place, at_end, too_many, IsRefusedFor, IsOverlayRefusedFor}
use Rattle.dt_model.specs.Source.{Mode, base, raw, duplicate_property, duplicate_node, duplicate_label, no_such_target, reserved_name, too_deep, misplaced, unresolved, bad_phandle, duplicate_phandle}
use Rattle.dt_model.specs.Tree.{Reading}
use Rattle.dt_names.specs.Fault.{placeless}
use Rattle.dt_names.specs.declared.fault.Fault.{Fault}
use Rattle.dt_names.specs.declared.fault.FaultKind.{FaultKind}
use Rattle.dt_names.specs.declared.fault.FaultKind.TheVariants.{Limit}
use Rattle.dt_grammar.specs.Grammar.{Says}
use Rattle.dt_grammar.specs.Parsed.{IsParsed}
use Rattle.dt_overlay_laws.specs.Outcomes.{RoomIsCounted}
use Rattle.dt_overlay_laws.specs.Refusals.{has_many, WhyNotApplied}
use Rattle.dt_read.specs.Kinds.{kind_of}
use Rattle.dt_source.specs.Refusals.{WhyNotNamed, WhyNoOverlay, IsOverlayFaultOf, fault_kind, overlay_fault_kind}
use Rattle.dt_chain_promises.specs.Apply as inputs
use Rattle.dt_chain_promises.specs.Apply.{IsRead, IsNoBlob, IsOutcome, WhyNoStep, WhyNoneOfAll}
use Rattle.dt_chain_promises.specs.Build.{HasBaseTree, HasObject, WhyNoObject}
use Rattle.dt_chain_promises.specs.Compile as compile
use Rattle.dt_chain_promises.specs.Compile.{WhyNoTree, WhyNotCompiled, WhyNotCompiledOverlay, WhyNoBlob}
use Rattle.dt_chain_promises.specs.Limits as limits
use Rattle.dt_chain_promises.specs.Limits.{IsTreeBeyond, IsBeyond, IsOverlayBeyond, CompilingIsLimited, RawIsLimited, IsLimited, IsBlobBeyond, ApplyingIsLimited, BuildingIsLimited}
use Rattle.dt_chain_promises.proofs.ChainOutcomes.{HasFine, steps_fine}
use Rattle.dt_chain_promises.proofs.AppliedOutcomes.{read_fine}
use Rattle.dt_chain_promises.proofs.BuiltOutcomes.{base_fine}

-- what tells a limit
abbrev TellsLimit : (Fault → Type 0) → Type 0
TellsLimit why = (e : Fault) × why e × (e.kind ≡ Limit)

-- ---- texts

-- the refusals of places that are told as a limit
limits_of : (r : SourceRefusal) → Limit ≡ fault_kind r → (r ≡ at_place too_deep) ⊎ (r ≡ too_many)
limits_of (at_place duplicate_property) e = absurd cc
limits_of (at_place duplicate_node) e = absurd cc
limits_of (at_place duplicate_label) e = absurd cc
limits_of (at_place no_such_target) e = absurd cc
limits_of (at_place reserved_name) e = absurd cc
limits_of (at_place too_deep) e = inl refl
limits_of (at_place misplaced) e = absurd cc
limits_of (at_end unresolved) e = absurd cc
limits_of (at_end bad_phandle) e = absurd cc
limits_of (at_end duplicate_phandle) e = absurd cc
limits_of too_many e = inr refl

overlay_limits_of : (r : OverlaySourceRefusal) → Limit ≡ overlay_fault_kind r → (r ≡ at_place (as_any too_deep)) ⊎ (r ≡ too_many)
overlay_limits_of (at_place (as_any duplicate_property)) e = absurd cc
overlay_limits_of (at_place (as_any duplicate_node)) e = absurd cc
overlay_limits_of (at_place (as_any duplicate_label)) e = absurd cc
overlay_limits_of (at_place (as_any no_such_target)) e = absurd cc
overlay_limits_of (at_place (as_any reserved_name)) e = absurd cc
overlay_limits_of (at_place (as_any too_deep)) e = inl refl
overlay_limits_of (at_place (as_any misplaced)) e = absurd cc
overlay_limits_of (at_place overlay_delete) e = absurd cc
overlay_limits_of (at_place overlay_phandle) e = absurd cc
overlay_limits_of (at_place overlay_path) e = absurd cc
overlay_limits_of (at_end bad_fragment) e = absurd cc
overlay_limits_of (at_end outside_content) e = absurd cc
overlay_limits_of too_many e = inr refl

named_limit : (mode : Mode) (text : List ℕ) (s : Says) → IsParsed text s → WhyNotNamed mode Limit s → IsTreeBeyond mode text
named_limit mode text s parsed f = elim (limits_of f.refusal f.told) [
  | inl e ↦ limits.deep s parsed f.plain (subst (IsRefusedFor mode s.places) e f.refused)
  | inr e ↦ limits.many s parsed f.plain (subst (IsRefusedFor mode s.places) e f.refused)
]

overlay_limit : (text : List ℕ) (s : Says) → IsParsed text s → WhyNoOverlay Limit s → IsOverlayBeyond text
overlay_limit text s parsed f = elim (overlay_limits_of f.refusal f.told) [
  | inl e ↦ limits.deep s parsed f.plugin f.reservations (subst (IsOverlayRefusedFor s.places) e f.refused)
  | inr e ↦ limits.many s parsed f.plugin f.reservations (subst (IsOverlayRefusedFor s.places) e f.refused)
]

tree_beyond : (mode : Mode) (text : List ℕ) (e : Fault) → WhyNoTree mode text e → e.kind ≡ Limit → IsTreeBeyond mode text
tree_beyond mode text _ compile.no_memory h = absurd cc
tree_beyond mode text _ (compile.unparsed e why) h = limits.spelled e why h
tree_beyond mode text _ (compile.unnamed s kind parsed why) h = named_limit mode text s parsed (subst (λ (k : FaultKind). WhyNotNamed mode k s) h why)
tree_beyond mode text _ (compile.many t k more) h = limits.labelled t k more

tree_told : (mode : Mode) (text : List ℕ) → IsTreeBeyond mode text → TellsLimit (WhyNoTree mode text)
tree_told mode text (limits.spelled e why h) = (e, compile.unparsed e why, h)
tree_told mode text (limits.deep s parsed plain why) =
    (placeless Limit, compile.unnamed s Limit parsed (record { plain = plain; refusal = at_place too_deep; refused = why; told = refl }), refl)
tree_told mode text (limits.many s parsed plain why) =
    (placeless Limit, compile.unnamed s Limit parsed (record { plain = plain; refusal = too_many; refused = why; told = refl }), refl)
tree_told mode text (limits.labelled t k more) = (placeless Limit, compile.many t k more, refl)

tree_is_limited : (mode : Mode) (text : List ℕ) → TellsLimit (WhyNoTree mode text) ↔ IsTreeBeyond mode text
tree_is_limited mode text = ((λ h. tree_beyond mode text h.0 h.1 h.2), tree_told mode text)

beyond : (mode : Mode) (text : List ℕ) (e : Fault) → WhyNotCompiled mode text e → e.kind ≡ Limit → IsBeyond mode text
beyond mode text _ compile.no_memory h = absurd cc
beyond mode text _ (compile.no_tree e why) h = inl (tree_beyond mode text e why h)
beyond mode text _ (compile.big t k more) h = inr (t, k, more)

told : (mode : Mode) (text : List ℕ) → IsBeyond mode text → TellsLimit (WhyNotCompiled mode text)
told mode text (inl h) = let w = tree_told mode text h in (w.0, compile.no_tree w.0 w.1, w.2)
told mode text (inr h) = (placeless Limit, compile.big h.0 h.1 h.2, refl)

overlay_beyond : (text : List ℕ) (e : Fault) → WhyNotCompiledOverlay text e → e.kind ≡ Limit → IsOverlayBeyond text
overlay_beyond text _ compile.no_memory h = absurd cc
overlay_beyond text _ (compile.refused s kind parsed why) h = overlay_limit text s parsed (subst (λ (k : FaultKind). WhyNoOverlay k s) h why)
overlay_beyond text _ (compile.large t k more) h = limits.marked t k more
overlay_beyond text _ (compile.big t k more) h = limits.long t k more

object_beyond : (text : List ℕ) (e : Fault) → WhyNoObject text e → e.kind ≡ Limit → IsOverlayBeyond text
object_beyond text e (inl why) h = limits.spelled e why h
object_beyond text e (inr why) h = overlay_beyond text e why h

too_deep_told : (s : Says) → s.plugin ≡ true → s.reservations ≡ [] → IsOverlayRefusedFor s.places (at_place (as_any too_deep)) → IsOverlayFaultOf s Limit
too_deep_told s plugin none why = record { plugin = plugin; reservations = none; refusal = at_place (as_any too_deep); refused = why; told = refl }

too_many_told : (s : Says) → s.plugin ≡ true → s.reservations ≡ [] → IsOverlayRefusedFor s.places too_many → IsOverlayFaultOf s Limit
too_many_told s plugin none why = record { plugin = plugin; reservations = none; refusal = too_many; refused = why; told = refl }

object_told : (text : List ℕ) → IsOverlayBeyond text → TellsLimit (WhyNoObject text)
object_told text (limits.spelled e why h) = (e, inl why, h)
object_told text (limits.deep s parsed plugin none why) =
    (placeless Limit, inr (compile.refused s Limit parsed (too_deep_told s plugin none why)), refl)
object_told text (limits.many s parsed plugin none why) =
    (placeless Limit, inr (compile.refused s Limit parsed (too_many_told s plugin none why)), refl)
object_told text (limits.marked t k more) = (placeless Limit, inr (compile.large t k more), refl)
object_told text (limits.long t k more) = (placeless Limit, inr (compile.big t k more), refl)

object_is_limited : (text : List ℕ) → TellsLimit (WhyNoObject text) ↔ IsOverlayBeyond text
object_is_limited text = ((λ h. object_beyond text h.0 h.1 h.2), object_told text)

blob_beyond : (text : List ℕ) (e : Fault) → WhyNoBlob text e → e.kind ≡ Limit → IsBeyond base text ⊎ IsOverlayBeyond text
blob_beyond text _ compile.no_memory h = absurd cc
blob_beyond text _ (compile.unparsed e why) h = inl (inl (limits.spelled e why h))
blob_beyond text _ (compile.as_base s e parsed plain why) h = inl (beyond base text e why h)
blob_beyond text _ (compile.as_overlay s e parsed plugin why) h = inr (overlay_beyond text e why h)

-- what is beyond a limit as a base is told as one
base_told : (text : List ℕ) → IsBeyond base text → TellsLimit (WhyNoBlob text)
base_told text (inl (limits.spelled e why h)) = (e, compile.unparsed e why, h)
base_told text (inl (limits.deep s parsed plain why)) =
    let w = told base text (inl (limits.deep s parsed plain why)) in (w.0, compile.as_base s w.0 parsed plain w.1, w.2)
base_told text (inl (limits.many s parsed plain why)) =
    let w = told base text (inl (limits.many s parsed plain why)) in (w.0, compile.as_base s w.0 parsed plain w.1, w.2)
base_told text (inl (limits.labelled t k more)) =
    (placeless Limit, compile.as_base k.says (placeless Limit) k.parsed k.plain (compile.no_tree (placeless Limit) (compile.many t k more)), refl)
base_told text (inr h) = (placeless Limit, compile.as_base h.1.says (placeless Limit) h.1.parsed h.1.plain (compile.big h.0 h.1 h.2), refl)

overlay_told : (text : List ℕ) → IsOverlayBeyond text → TellsLimit (WhyNoBlob text)
overlay_told text (limits.spelled e why h) = (e, compile.unparsed e why, h)
overlay_told text (limits.deep s parsed plugin none why) = (
  placeless Limit,
  compile.as_overlay s (placeless Limit) parsed plugin
      (compile.refused s Limit parsed (too_deep_told s plugin none why)),
  refl,
)
overlay_told text (limits.many s parsed plugin none why) = (
  placeless Limit,
  compile.as_overlay s (placeless Limit) parsed plugin
      (compile.refused s Limit parsed (too_many_told s plugin none why)),
  refl,
)
overlay_told text (limits.marked t k more) = (placeless Limit, compile.as_overlay k.says (placeless Limit) k.parsed k.plugin (compile.large t k more), refl)
overlay_told text (limits.long t k more) = (placeless Limit, compile.as_overlay k.says (placeless Limit) k.parsed k.plugin (compile.big t k more), refl)

blob_told : (text : List ℕ) → IsBeyond base text ⊎ IsOverlayBeyond text → TellsLimit (WhyNoBlob text)
blob_told text (inl h) = base_told text h
blob_told text (inr h) = overlay_told text h

pub compiling_is_limited : CompilingIsLimited
compiling_is_limited text = ((λ h. blob_beyond text h.0 h.1 h.2), blob_told text)

pub raw_is_limited : RawIsLimited
raw_is_limited text = ((λ h. beyond raw text h.0 h.1 h.2), told raw text)

-- ---- lists of inputs

module _ (room : RoomIsCounted) (has_base has_object : List ℕ → Reading → Type 0) (lacks_base lacks_object : List ℕ → Fault → Type 0) (base_over object_over : List ℕ → Type 0)
    (base_is : (x : List ℕ) → TellsLimit (lacks_base x) ↔ base_over x) (object_is : (x : List ℕ) → TellsLimit (lacks_object x) ↔ object_over x) (fine : HasFine has_base) where
  abbrev Limited : List ℕ → List (List ℕ) → ℕ → Type 0
  Limited = IsLimited has_base has_object base_over object_over

  step_limit : (x₀ : List ℕ) (xs front back : List (List ℕ)) (x : List ℕ) (t : Reading) (e : Fault) → xs ≡ front ++ x ∷ back → IsOutcome has_base has_object x₀ front t
      → WhyNoStep has_object lacks_object t x e → e.kind ≡ Limit → Limited x₀ xs (suc (length front))
  step_limit x₀ xs front back x t _ are out inputs.no_memory h = absurd cc
  step_limit x₀ xs front back x t _ are out (inputs.no_object e why) h = limits.of_input front back x t are out ((object_is x).0 (e, why, h))
  step_limit x₀ xs front back x t _ are out (inputs.not_applied object kind has why) h = elim (subst (λ (k : FaultKind). WhyNotApplied has_many k t object) h why) [
    | inl sites ↦ limits.deep front back x t object are out has sites
    | inr crowded ↦ limits.many front back x t object are out has (room.over t object crowded)
  ]

  limit : (x₀ : List ℕ) (xs : List (List ℕ)) (k : ℕ) (e : Fault) → WhyNoneOfAll has_base has_object lacks_base lacks_object x₀ xs k e → e.kind ≡ Limit → Limited x₀ xs k
  limit x₀ xs k _ (inputs.no_memory _ few) h = absurd cc
  limit x₀ xs _ e (inputs.no_base _ why) h = limits.of_base ((base_is x₀).0 (e, why, h))
  limit x₀ xs k e (inputs.stopped t _ _ of_base stop) h =
      subst (Limited x₀ xs) (sym stop.number)
      (step_limit x₀ xs stop.front stop.back stop.input stop.before e stop.are (record { tree = t; of_base = of_base; steps = stop.steps }) stop.why h)
  limit x₀ xs _ _ (inputs.big t out more) h = limits.long t out more

  -- the input is refused for this
  stop_at : (x₀ : List ℕ) (xs front back : List (List ℕ)) (x : List ℕ) (t : Reading) (e : Fault) → xs ≡ front ++ x ∷ back → IsOutcome has_base has_object x₀ front t
      → WhyNoStep has_object lacks_object t x e → WhyNoneOfAll has_base has_object lacks_base lacks_object x₀ xs (suc (length front)) e
  stop_at x₀ xs front back x t e are out why =
      inputs.stopped out.tree (suc (length front)) e out.of_base
      (record { front = front; input = x; back = back; are = are; number = refl; before = t; steps = out.steps; why = why })

  limit_told : (x₀ : List ℕ) (xs : List (List ℕ)) (k : ℕ) → Limited x₀ xs k → TellsLimit (WhyNoneOfAll has_base has_object lacks_base lacks_object x₀ xs k)
  limit_told x₀ xs _ (limits.of_base b) = let w = (base_is x₀).1 b in (w.0, inputs.no_base w.0 w.1, w.2)
  limit_told x₀ xs _ (limits.of_input front back x t are out b) =
      let w = (object_is x).1 b in (w.0, stop_at x₀ xs front back x t w.0 are out (inputs.no_object w.0 w.1), w.2)
  limit_told x₀ xs _ (limits.deep front back x t object are out has sites) =
      (placeless Limit, stop_at x₀ xs front back x t (placeless Limit) are out (inputs.not_applied object Limit has (inl sites)), refl)
  limit_told x₀ xs _ (limits.many front back x t object are out has over) =
      let within = (steps_fine has_base has_object out.tree front t (fine x₀ out.tree out.of_base) out.steps).within in
      (placeless Limit, stop_at x₀ xs front back x t (placeless Limit) are out (inputs.not_applied object Limit has (inr (room.crowded t object within over))), refl)
  limit_told x₀ xs _ (limits.long t out more) = (placeless Limit, inputs.big t out more, refl)

-- ---- blobs

over_only : (f : checks.BlobFault) → Limit ≡ kind_of f → f ≡ over_limit
over_only over_limit e = refl
over_only f e = cc

pub read_beyond : (bytes : List ℕ) → TellsLimit (IsNoBlob bytes) ↔ IsBlobBeyond bytes
read_beyond bytes = (
  (λ h. (h.0.at, subst (λ (f : checks.BlobFault). checks.IsFirstFault bytes f h.0.at) (over_only h.1.fault (sym h.2 ∙ h.1.kind)) h.1.first)),
  (λ h. (record { kind = Limit; at = h.0 }, record { fault = over_limit; kind = refl; first = h.1 }, refl)),
)

pub applying_is_limited : RoomIsCounted → ApplyingIsLimited
applying_is_limited room bytes objects k = (
  (λ h. limit room IsRead IsRead IsNoBlob IsNoBlob IsBlobBeyond IsBlobBeyond read_beyond read_beyond read_fine bytes objects k h.0 h.1 h.2),
  limit_told room IsRead IsRead IsNoBlob IsNoBlob IsBlobBeyond IsBlobBeyond read_beyond read_beyond read_fine bytes objects k,
)

pub building_is_limited : RoomIsCounted → BuildingIsLimited
building_is_limited room text texts k = (
  (λ h.
      limit room HasBaseTree HasObject (WhyNoTree base) WhyNoObject (IsTreeBeyond base) IsOverlayBeyond (tree_is_limited base) object_is_limited base_fine text texts k
      h.0 h.1 h.2),
  limit_told room HasBaseTree HasObject (WhyNoTree base) WhyNoObject (IsTreeBeyond base) IsOverlayBeyond (tree_is_limited base) object_is_limited base_fine text texts k,
)
