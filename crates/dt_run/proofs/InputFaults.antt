-- The faults of inputs of which a blob isn't made: they are never of a sink, want of memory has no place, and each is of one of the
-- inputs.
use Rattle.std.proofs.Common.{◌≡◌, ℕ, ◌≤◌, List, ◌∷◌, length, Option, None, inl, inr, refl, sym, ap, subst, arith, length-append}
use Rattle.dt_model.specs.Checks as checks
use Rattle.dt_model.specs.Checks.{BlobFault}
use Rattle.dt_model.specs.Source.{Mode, base}
use Rattle.dt_model.specs.Tree.{Reading}
use Rattle.dt_names.specs.declared.fault.Fault.{Fault}
use Rattle.dt_names.specs.declared.fault.FaultKind.{FaultKind}
use Rattle.dt_names.specs.declared.fault.FaultKind.TheVariants.{WriteFault}
use Rattle.dt_model.specs.Path.{Path}
use Rattle.dt_read.specs.Kinds.{kind_of}
use Rattle.dt_resolve_model.specs.Answers.{Answer, undetermined, refused, answer, ◌>>=◌}
use Rattle.dt_resolve_model.specs.World.{tree_world}
use Rattle.dt_resolve_model.specs.Regions.{dma_region}
use Rattle.dt_resolve_model.specs.Specifiers.{specifier_route}
use Rattle.dt_resolve_model.specs.Faults.{IsRegionFault, IsSpecifierFault, IsRefusedFor}
use Rattle.dt_resolve_model.proofs.NamedRoutes.{are_named}
use Rattle.dt_resolve_lines.specs.Asked as asked
use Rattle.dt_resolve_lines.specs.Asked.{answer_words, WhyNoNode, WhyUnanswered}
use Rattle.dt_resolve_lines.specs.Lines.{region_words, route_words}
use Rattle.dt_resolve_model.specs.declared.questions.Question.{Question}
use Rattle.dt_resolve_model.specs.declared.questions.Question.TheVariants as ask
use Rattle.dt_chain_promises.specs.Apply.{IsNoBlob, WhyNoBlobApplied, WhyNoStep, WhyNoneOfAll}
use Rattle.dt_chain_promises.specs.Build.{WhyNoObject, WhyNoBlobBuilt}
use Rattle.dt_chain_promises.specs.Compile as compile
use Rattle.dt_chain_promises.specs.Compile.{IsCompilerFault, WhyNoTree, WhyNotCompiled}
use Rattle.dt_chain_promises.specs.Apply as inputs
use Rattle.dt_run.specs.Showing.{IsOfInput, IsUnwritten}
use Rattle.dt_chain_promises.proofs.ToldKinds.{base_kind, overlay_kind}
use Rattle.dt_chain_promises.proofs.Places.{memory_unplaced, overlay_unplaced}

pub compiler_only : (kind : FaultKind) → IsCompilerFault kind → IsUnwritten kind
compiler_only WriteFault own = absurd own
compiler_only _ own = tt

-- ---- of all the inputs

module _ {has_object : List ℕ → Reading → Type 0} {lacks_object : List ℕ → Fault → Type 0} (of_object : (x : List ℕ) (e : Fault) → lacks_object x e → IsOfInput e) where
  of_step : (t : Reading) (x : List ℕ) (e : Fault) → WhyNoStep has_object lacks_object t x e → IsOfInput e
  of_step t x _ inputs.no_memory = (tt, λ _. refl)
  of_step t x _ (inputs.no_object e why) = of_object x e why
  of_step t x _ (inputs.not_applied object WriteFault has why) = absurd why
  of_step t x _ (inputs.not_applied object _ has why) = (tt, λ _. refl)

module _ {has_base has_object : List ℕ → Reading → Type 0} {lacks_base lacks_object : List ℕ → Fault → Type 0} where
  pub inside : (first : List ℕ) (others : List (List ℕ)) (k : ℕ) (e : Fault) → WhyNoneOfAll has_base has_object lacks_base lacks_object first others k e → k ≤ length others
  inside first others _ _ (inputs.no_memory k few) = few
  inside first others _ _ (inputs.no_base e why) = omega arith
  inside first others _ _ (inputs.stopped t k e has s) = omega (arith, s.number, ap length s.are, length-append s.front (s.input ∷ s.back))
  inside first others _ _ (inputs.big t outcome more) = omega arith

  pub of_all : ((x : List ℕ) (e : Fault) → lacks_base x e → IsOfInput e) → ((x : List ℕ) (e : Fault) → lacks_object x e → IsOfInput e) →
      (first : List ℕ) (others : List (List ℕ)) (k : ℕ) (e : Fault) → WhyNoneOfAll has_base has_object lacks_base lacks_object first others k e → IsOfInput e
  of_all of_base of_object first others _ _ (inputs.no_memory k few) = (tt, λ _. refl)
  of_all of_base of_object first others _ _ (inputs.no_base e why) = of_base first e why
  of_all of_base of_object first others _ _ (inputs.stopped t k e has s) = of_step of_object s.before s.input e s.why
  of_all of_base of_object first others _ _ (inputs.big t outcome more) = (tt, λ _. refl)

-- ---- a blob

of_bytes : (f : BlobFault) (at : Option ℕ) → IsOfInput (record { kind = kind_of f; at = at })
of_bytes checks.short_header at = (tt, λ same. cc)
of_bytes _ at = (tt, λ same. cc)

no_blob : (bytes : List ℕ) (e : Fault) → IsNoBlob bytes e → IsOfInput e
no_blob bytes e why = subst (λ (k : FaultKind). IsOfInput (record { kind = k; at = e.at })) (sym why.kind) (of_bytes why.fault e.at)

pub blob_not_applied : (first : List ℕ) (objects : List (List ℕ)) (k : ℕ) (e : Fault) → WhyNoBlobApplied first objects k e → IsOfInput e
blob_not_applied = of_all no_blob no_blob

-- ---- a source

no_tree : (mode : Mode) (text : List ℕ) (e : Fault) → WhyNoTree mode text e → IsOfInput e
no_tree mode text e why =
    let whole : WhyNotCompiled mode text e = compile.no_tree e why in
    (compiler_only e.kind (base_kind mode text e whole), memory_unplaced mode text e whole)

no_object : (text : List ℕ) (e : Fault) → WhyNoObject text e → IsOfInput e
no_object text e (inl why) = no_tree base text e (compile.unparsed e why)
no_object text e (inr why) = (compiler_only e.kind (overlay_kind text e why), overlay_unplaced text e why)

pub text_not_built : (text : List ℕ) (texts : List (List ℕ)) (k : ℕ) (e : Fault) → WhyNoBlobBuilt text texts k e → IsOfInput e
text_not_built = of_all (no_tree base) no_object

-- ---- an answer

of_region : (kind : FaultKind) → IsRegionFault kind → IsUnwritten kind
of_region WriteFault named = absurd named
of_region _ named = tt

of_specifier : (kind : FaultKind) → IsSpecifierFault kind → IsUnwritten kind
of_specifier WriteFault named = absurd named
of_specifier _ named = tt

of_node : (kind : FaultKind) (t : Reading) (text : List ℕ) → WhyNoNode kind t text → IsUnwritten kind
of_node WriteFault t text why = absurd why
of_node _ t text why = tt

-- what is told in words is refused as it is
refused_as : {A : Type 0} (is : FaultKind → Type 0) (x : Answer A) (words : A → List ℕ) (e : Fault) → IsRefusedFor is x → (x >>= λ a. answer (words a)) ≡ refused e → is e.kind × (e.at ≡ None)
refused_as is undetermined words e named h = absurd (let z : undetermined ≡ refused e = h in cc)
refused_as is (refused fault) words e named h = let same : fault ≡ e = (let z : refused fault ≡ refused e = h in cc) in subst (λ (f : Fault). is f.kind × (f.at ≡ None)) same named
refused_as is (answer a) words e named h = absurd (let z : answer (words a) ≡ refused e = h in cc)

of_answer : (question : Question) (t : Reading) (p : Path) (e : Fault) → answer_words question (tree_world t) p ≡ refused e → IsOfInput e
of_answer (ask.Dma address size) t p e h =
    let named = refused_as IsRegionFault (dma_region (tree_world t) p address size) region_words e ((are_named t).dma_regions p address size) h in
    (of_region e.kind named.0, λ _. named.1)
of_answer (ask.Specifier property kind index) t p e h =
    let named = refused_as IsSpecifierFault (specifier_route (tree_world t) p property.now kind.now index) route_words e ((are_named t).specifiers p property.now kind.now index) h in
    (of_specifier e.kind named.0, λ _. named.1)

pub not_answered : (question : Question) (bytes text : List ℕ) (e : Fault) → WhyUnanswered question bytes text e → IsOfInput e
not_answered question bytes text e (asked.no_blob f kind first) = subst (λ (k : FaultKind). IsOfInput (record { kind = k; at = e.at })) (sym kind) (of_bytes f e.at)
not_answered question bytes text e (asked.no_node t reads within why at) = (of_node e.kind t text why, λ _. at)
not_answered question bytes text e (asked.no_answer is) = of_answer question is.tree is.path e is.is
