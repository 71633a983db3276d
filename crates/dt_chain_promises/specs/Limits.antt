-- Exactly when a limit is reported. The limits are this project's: dt_model's Limits has them.
use Rattle.std.specs.Prelude.{◌≡◌, ◌⊎◌, ◌↔◌, ◌<◌, ◌+◌, ℕ, suc, List, [], ◌∷◌, ◌++◌, length, true, false, Option}
use Rattle.dt_model.specs.Checks.{over_limit, IsFirstFault}
use Rattle.dt_model.specs.Limits.{most_bytes, most_nodes}
use Rattle.dt_model.specs.OverlaySource.{as_any}
use Rattle.dt_model.specs.Refused.{at_place, too_many, IsRefusedFor, IsOverlayRefusedFor}
use Rattle.dt_model.specs.Source.{Mode, base, raw, too_deep}
use Rattle.dt_model.specs.Tree.{Reading}
use Rattle.dt_model.specs.Valid.{node_count, IsWithinLimits}
use Rattle.dt_names.specs.declared.fault.Fault.{Fault}
use Rattle.dt_names.specs.declared.fault.FaultKind.TheVariants.{Limit}
use Rattle.dt_grammar.specs.Grammar.{Says}
use Rattle.dt_grammar.specs.Parsed.{IsParsed, WhyNotParsed}
use Rattle.dt_overlay_laws.specs.Refusals.{HasNoSites, IsOverfull}
use Rattle.dt_write.specs.Written.{written}
use Rattle.dt_chain_promises.specs.Apply.{IsRead, IsOutcome, WhyNoBlobApplied}
use Rattle.dt_chain_promises.specs.Build.{HasBaseTree, HasObject, WhyNoBlobBuilt}
use Rattle.dt_chain_promises.specs.Compile.{TextHasTree, OverlayTextHasTree, WhyNotCompiled, WhyNoBlob}

-- ---- texts

-- What is first wrong with a text, taken as a base or as it is, is that it is beyond a limit, or its tree would be.
pub data IsTreeBeyond (mode : Mode) (text : List ℕ) : Type 0 where
  -- it is longer than 16 MiB, or a number of it has more than 1,024 tokens, or more than 65 bodies are open at once
  spelled : (e : Fault) → WhyNotParsed text e → e.kind ≡ Limit → IsTreeBeyond mode text
  -- the first of its places that is refused would give a node a path of more than 64 names
  deep : (s : Says) → IsParsed text s → s.plugin ≡ false → IsRefusedFor mode s.places (at_place too_deep) → IsTreeBeyond mode text
  -- its places leave more than 65,536 nodes
  many : (s : Says) → IsParsed text s → s.plugin ≡ false → IsRefusedFor mode s.places too_many → IsTreeBeyond mode text
  -- its tree has more, with the node of its labels
  labelled : (t : Reading) → TextHasTree mode text t → most_nodes < 1 + node_count t.children → IsTreeBeyond mode text

-- or its blob would be longer than 16 MiB
abbrev pub IsBeyond : Mode → List ℕ → Type 0
IsBeyond mode text = IsTreeBeyond mode text ⊎ ((t : Reading) × TextHasTree mode text t × (most_bytes < length (written t)))

-- the same of an overlay's source
pub data IsOverlayBeyond (text : List ℕ) : Type 0 where
  spelled : (e : Fault) → WhyNotParsed text e → e.kind ≡ Limit → IsOverlayBeyond text
  deep : (s : Says) → IsParsed text s → s.plugin ≡ true → s.reservations ≡ [] → IsOverlayRefusedFor s.places (at_place (as_any too_deep)) → IsOverlayBeyond text
  many : (s : Says) → IsParsed text s → s.plugin ≡ true → s.reservations ≡ [] → IsOverlayRefusedFor s.places too_many → IsOverlayBeyond text
  -- its object has too many nodes, or a path that is too long, with those that list its labels and its cells
  marked : (t : Reading) → OverlayTextHasTree text t → ¬ IsWithinLimits t → IsOverlayBeyond text
  long : (t : Reading) → OverlayTextHasTree text t → most_bytes < length (written t) → IsOverlayBeyond text

-- `compile` reports a limit for exactly these
abbrev pub CompilingIsLimited : Type 0
CompilingIsLimited = (text : List ℕ) → ((e : Fault) × WhyNoBlob text e × (e.kind ≡ Limit)) ↔ (IsBeyond base text ⊎ IsOverlayBeyond text)

-- and `compile_raw` of these
abbrev pub RawIsLimited : Type 0
RawIsLimited = (text : List ℕ) → ((e : Fault) × WhyNotCompiled raw text e × (e.kind ≡ Limit)) ↔ IsBeyond raw text

-- ---- lists of inputs

-- Of a base and a list of inputs, all before this one are applied, and it is the first that is beyond a limit, or what comes of it.
pub data IsLimited (has_base has_object : List ℕ → Reading → Type 0) (base_beyond object_beyond : List ℕ → Type 0) (base : List ℕ)
    (inputs : List (List ℕ)) : ℕ → Type 0 where
  -- the base itself
  of_base : base_beyond base → IsLimited has_base has_object base_beyond object_beyond base inputs 0
  -- the input itself
  of_input : (front back : List (List ℕ)) (x : List ℕ) (t : Reading) → inputs ≡ front ++ x ∷ back → IsOutcome has_base has_object base front t
      → object_beyond x → IsLimited has_base has_object base_beyond object_beyond base inputs (suc (length front))
  -- the first node that its object may not bring to what comes of those before it would have a path of more than 64 names
  deep : (front back : List (List ℕ)) (x : List ℕ) (t object : Reading) → inputs ≡ front ++ x ∷ back → IsOutcome has_base has_object base front t
      → has_object x object → HasNoSites Limit t object → IsLimited has_base has_object base_beyond object_beyond base inputs (suc (length front))
  -- what comes of it has more than 65,536 nodes
  many : (front back : List (List ℕ)) (x : List ℕ) (t object : Reading) → inputs ≡ front ++ x ∷ back → IsOutcome has_base has_object base front t
      → has_object x object → IsOverfull t object → IsLimited has_base has_object base_beyond object_beyond base inputs (suc (length front))
  -- all are applied, and the blob of what comes of them would be longer than 16 MiB
  long : (t : Reading) → IsOutcome has_base has_object base inputs t → most_bytes < length (written t)
      → IsLimited has_base has_object base_beyond object_beyond base inputs (length inputs)

-- the bytes are no blob, since it is longer than 16 MiB, or its tree is beyond the limits, which is the first that is wrong with it
abbrev pub IsBlobBeyond : List ℕ → Type 0
IsBlobBeyond bytes = (at : Option ℕ) × IsFirstFault bytes over_limit at

-- `apply_list` reports a limit of an input exactly so
abbrev pub ApplyingIsLimited : Type 0
ApplyingIsLimited = (bytes : List ℕ) (objects : List (List ℕ)) (k : ℕ)
    → ((e : Fault) × WhyNoBlobApplied bytes objects k e × (e.kind ≡ Limit)) ↔ IsLimited IsRead IsRead IsBlobBeyond IsBlobBeyond bytes objects k

-- and so does `build`
abbrev pub BuildingIsLimited : Type 0
BuildingIsLimited = (text : List ℕ) (texts : List (List ℕ)) (k : ℕ)
    → ((e : Fault) × WhyNoBlobBuilt text texts k e × (e.kind ≡ Limit)) ↔ IsLimited HasBaseTree HasObject (IsTreeBeyond base) IsOverlayBeyond text texts k
