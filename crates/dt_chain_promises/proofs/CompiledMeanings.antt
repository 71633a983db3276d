-- What texts are compiled to is of what they mean, and what means something isn't refused.
use Rattle.std.proofs.Common.{◌≡◌, ◌≢◌, ℕ, ◌<◌, ◌≤◌, inl, inr, List, [], ◌∷◌, length, refl, sym, ap, subst, ◌∙◌, true≢false}
use Rattle.std.specs.List.{AllByRecursion}
use Rattle.dt_model.specs.Instance.{IsInstance, symbols_of, instance_of, with_symbols}
use Rattle.dt_model.specs.Limits.{most_bytes}
use Rattle.dt_model.specs.Meaning.{Meaning}
use Rattle.dt_model.specs.Overlay.{Overlay}
use Rattle.dt_model.specs.OverlaySource.{OverlayMeans}
use Rattle.dt_model.specs.Path.{Path}
use Rattle.dt_model.specs.Source.{Mode, base, raw, IsPlace, SourceMeans}
use Rattle.dt_model.specs.Tree.{Property, Reading}
use Rattle.dt_model.specs.Valid.{IsReservation}
use Rattle.dt_names.specs.declared.fault.Fault.{Fault}
use Rattle.dt_names.specs.declared.fault.FaultKind.TheVariants.{NoMemory, Limit}
use Rattle.dt_model_laws.specs.Applying.{IsObject}
use Rattle.dt_model.specs.Represents.{IsOf}
use Rattle.dt_model_laws.specs.CompiledTrees.{BaseTreeRepresents, TreeIsValid, MeantIsNotRefused}
use Rattle.dt_model_laws.specs.OverlayTrees.{ObjectIsValid, OverlayIsNotRefused}
use Rattle.dt_model_laws.specs.ShortValues.{ReadValuesAreShort, ShortObjectEncodes}
use Rattle.dt_model_laws.specs.Sources.{SourceIsMeaning, SourceIsPlain, OverlaySourceIsOverlay}
use Rattle.dt_grammar.specs.Grammar.{Says}
use Rattle.dt_grammar.specs.Parsed.{IsParsed}
use Rattle.dt_source.specs.Refusals.{fault_kind, overlay_fault_kind}
use Rattle.dt_source.proofs.Outcomes as named
use Rattle.dt_source.proofs.OverlayOutcomes as named_overlays
use Rattle.dt_write.specs.Written.{written}
use Rattle.dt_chain_promises.specs.Build.{HasBaseTree, HasObject}
use Rattle.dt_chain_promises.specs.Compile as compile
use Rattle.dt_chain_promises.specs.Compile.{TextMeans, TextHasTree, OverlayTextMeans, WhyNoTree, WhyNotCompiled, WhyNotCompiledOverlay, WhyNoBlob}
use Rattle.dt_chain_promises.specs.Laws.{IsOfBytes, BaseRepresents, RawIsInstance, OverlayIsObject, NotCompiledIsNoMeaning, RawNotCompiledIsNoMeaning}
use Rattle.dt_chain_promises.proofs.Outcomes.{SaidOnce, SaidOnly, WrittenReads}
use Rattle.dt_chain_promises.proofs.AppliedMeanings.{WrittenIsWithin, written_is_read}

-- the places of a text of bytes are places, and some
abbrev pub PlacesAre : Type 0
PlacesAre = (text : List ℕ) (s : Says) → IsOfBytes text → IsParsed text s → AllByRecursion IsPlace s.places

abbrev pub SomeAre : Type 0
SomeAre = (text : List ℕ) (s : Says) → IsParsed text s → 0 < length s.places

-- ---- the tree of a base's text

no_boot_cpu : (symbols : List Property) (t : Reading) → (with_symbols symbols t).boot_cpu ≡ t.boot_cpu
no_boot_cpu [] t = refl
no_boot_cpu (s ∷ symbols) t = refl

pub base_boot_cpu : (text : List ℕ) (t : Reading) → TextHasTree base text t → t.boot_cpu ≡ 0
base_boot_cpu text t h = ap (λ (u : Reading). u.boot_cpu) h.tree.is ∙ no_boot_cpu h.tree.symbols h.tree.bare ∙ h.tree.instance.boot_cpu

-- it is of what the text means
pub record IsOfMeant (text : List ℕ) (t : Reading) : Type 0 where
  pub meaning : Meaning
  pub number : Path → ℕ
  pub means : TextMeans base text meaning
  pub of_meaning : IsOf t meaning number

module _ (places : PlacesAre) (some : SomeAre) (represents : BaseTreeRepresents) (meaning : SourceIsMeaning) (plain : SourceIsPlain) where
  pub base_is : (text : List ℕ) (t : Reading) → IsOfBytes text → HasBaseTree text t → IsOfMeant text t
  base_is text t bytes h =
      let s = h.of_text.says in
      let ps = places text s bytes h.of_text.parsed in
      let r = represents s.reservations s.places t ps h.of_text.tree in
      let kept : t.reservations ≡ s.reservations = r.3.reservations ∙ ap (λ (m : Meaning). m.reservations) r.2.means in
      let valid : AllByRecursion IsReservation s.reservations = subst (AllByRecursion IsReservation) kept h.valid.reservations in
      record {
        meaning = r.0;
        number = r.1;
        means = record { says = s; parsed = h.of_text.parsed; plain = h.of_text.plain; means = r.2 };
        of_meaning = record {
          represents = r.3;
          meaning = meaning base s.reservations s.places r.0 (some text s h.of_text.parsed) ps valid r.2;
          plain = plain s.reservations s.places r.0 r.2;
          valid = h.valid;
        };
      }

  pub base_represents : TreeIsValid → WrittenReads → WrittenIsWithin → BaseRepresents
  base_represents valid reads within text blob bytes h =
      let s = h.of_text.says in
      let ok = valid base s.reservations s.places h.tree (some text s h.of_text.parsed) (places text s bytes h.of_text.parsed) h.of_text.tree in
      let b = base_is text h.tree bytes (record { of_text = h.of_text; valid = ok; within = h.within }) in
      record {
        meaning = b.meaning;
        means = b.means;
        number = b.number;
        of_meaning = record {
          tree = h.tree;
          read = written_is_read reads within h.tree blob (record { valid = ok; within = h.within }) h.is h.size;
          represents = b.of_meaning.represents;
          meaning = b.of_meaning.meaning;
          plain = b.of_meaning.plain;
        };
        boot_cpu = base_boot_cpu text h.tree h.of_text;
      }

pub raw_is_instance : PlacesAre → SomeAre → TreeIsValid → WrittenReads → WrittenIsWithin → RawIsInstance
raw_is_instance places some valid reads within text blob bytes h =
    let s = h.of_text.says in
    let i = h.of_text.tree.instance in
    let same = h.of_text.tree.is in
    let ok = valid raw s.reservations s.places h.tree (some text s h.of_text.parsed) (places text s bytes h.of_text.parsed) h.of_text.tree in
    record {
      meaning = i.meaning;
      means = record { says = s; parsed = h.of_text.parsed; plain = h.of_text.plain; means = i.means };
      tree = h.tree;
      read = written_is_read reads within h.tree blob (record { valid = ok; within = h.within }) h.is h.size;
      number = i.number;
      instance = subst (λ (u : Reading). IsInstance u i.meaning i.number) (sym same) i.instance;
      boot_cpu = ap (λ (u : Reading). u.boot_cpu) same ∙ i.boot_cpu;
    }

-- ---- the object of an overlay's text

-- it is one of the overlay that the text means
pub record IsObjectOfMeant (text : List ℕ) (t : Reading) : Type 0 where
  pub o : Overlay
  pub means : OverlayTextMeans text o
  pub of_overlay : IsObject t o

module _ (places : PlacesAre) (reads : WrittenReads) (encodes : ShortObjectEncodes) (short : ReadValuesAreShort) (is_overlay : OverlaySourceIsOverlay) where
  pub some_object : (text : List ℕ) (t : Reading) → IsOfBytes text → HasObject text t → IsObjectOfMeant text t
  some_object text t bytes h =
      let s = h.of_text.says in
      let ps = places text s bytes h.of_text.parsed in
      let r = encodes s.places t ps h.of_text.tree h.within.count (short (written t) t (reads t h.valid h.size)) in
      record {
        o = r.0;
        means = record { says = s; parsed = h.of_text.parsed; plugin = h.of_text.plugin; reservations = h.of_text.reservations; means = r.2 };
        of_overlay = record { local = r.1; encodes = r.3; overlay = is_overlay s.places r.0 ps r.2; valid = h.valid; few = h.within };
      }

  pub overlay_is_object : ObjectIsValid → WrittenIsWithin → OverlayIsObject
  overlay_is_object valid within text blob bytes h =
      let s = h.of_text.says in
      let object = h.of_text.tree in
      let ok = valid s.places h.tree (places text s bytes h.of_text.parsed) object h.within.count in
      let size : length (written h.tree) ≤ most_bytes = subst (λ (b : List ℕ). length b ≤ most_bytes) h.is h.size in
      let k = some_object text h.tree bytes (record { of_text = h.of_text; valid = ok; within = h.within; size = size }) in
      record {
        overlay = k.o;
        means = k.means;
        of_overlay = record {
          tree = h.tree;
          read = written_is_read reads within h.tree blob (record { valid = ok; within = h.within }) h.is h.size;
          number = k.of_overlay.local;
          encodes = k.of_overlay.encodes;
          overlay = k.of_overlay.overlay;
        };
        boot_cpu = ap (λ (u : Reading). u.boot_cpu) object.is ∙ no_boot_cpu (symbols_of object.named) (instance_of object.numbers object.named);
      }

-- ---- refused

module _ (once : SaidOnce) (only : SaidOnly) where
  -- a text that means something is refused for nothing but limits
  pub meant_not_refused : MeantIsNotRefused → (mode : Mode) (text : List ℕ) (m : Meaning) (e : Fault) → TextMeans mode text m → WhyNoTree mode text e
      → e.kind ≢ NoMemory → e.kind ≢ Limit → ⊥
  meant_not_refused meant mode text m _ h compile.no_memory wanted low = wanted refl
  meant_not_refused meant mode text m _ h (compile.unparsed e why) wanted low = wanted (only text h.says e h.parsed why)
  meant_not_refused meant mode text m _ h (compile.unnamed s kind parsed why) wanted low = step (named.sorted mode s kind why)
    where
      said : h.says ≡ s
      said = once text h.says s h.parsed parsed

      step : named.Sorted mode s kind → ⊥
      step (inl e) = wanted e
      step (inr (inl e)) = true≢false (sym e.1 ∙ ap (λ (x : Says). x.plugin) (sym said) ∙ h.plain)
      step (inr (inr f)) =
          let means = subst (λ (x : Says). SourceMeans mode x.reservations x.places m) said h.means in
          low (f.told ∙ ap fault_kind (meant mode s.reservations s.places m f.refusal means f.refused))
  meant_not_refused meant mode text m _ h (compile.many t k more) wanted low = low refl

  pub overlay_not_refused : OverlayIsNotRefused → (text : List ℕ) (o : Overlay) (e : Fault) → OverlayTextMeans text o → WhyNotCompiledOverlay text e
      → e.kind ≢ NoMemory → e.kind ≢ Limit → ⊥
  overlay_not_refused meant text o _ h compile.no_memory wanted low = wanted refl
  overlay_not_refused meant text o _ h (compile.refused s kind parsed why) wanted low = step (named_overlays.sorted s kind why)
    where
      said : h.says ≡ s
      said = once text h.says s h.parsed parsed

      step : named_overlays.Sorted s kind → ⊥
      step (inl e) = wanted e
      step (inr (inl e)) = true≢false (sym h.plugin ∙ ap (λ (x : Says). x.plugin) said ∙ e.1)
      step (inr (inr (inl e))) = e.2 (subst (λ (x : Says). x.reservations ≡ []) said h.reservations)
      step (inr (inr (inr f))) =
          let means = subst (λ (x : Says). OverlayMeans x.places o) said h.means in
          low (f.told ∙ ap overlay_fault_kind (meant s.places o f.refusal means f.refused))
  overlay_not_refused meant text o _ h (compile.large t k more) wanted low = low refl
  overlay_not_refused meant text o _ h (compile.big t k more) wanted low = low refl

  not_compiled : MeantIsNotRefused → (mode : Mode) (text : List ℕ) (m : Meaning) (e : Fault) → TextMeans mode text m → WhyNotCompiled mode text e
      → e.kind ≢ NoMemory → e.kind ≢ Limit → ⊥
  not_compiled meant mode text m _ h compile.no_memory wanted low = wanted refl
  not_compiled meant mode text m _ h (compile.no_tree e why) wanted low = meant_not_refused meant mode text m e h why wanted low
  not_compiled meant mode text m _ h (compile.big t k more) wanted low = low refl

  pub raw_not_compiled_is_no_meaning : MeantIsNotRefused → RawNotCompiledIsNoMeaning
  raw_not_compiled_is_no_meaning meant text e m why wanted low h = not_compiled meant raw text m e h why wanted low

  -- what the one text says, the other says
  same_plugin : (text : List ℕ) (s r : Says) → IsParsed text s → IsParsed text r → s.plugin ≡ r.plugin
  same_plugin text s r parsed also = ap (λ (x : Says). x.plugin) (once text s r parsed also)

  pub not_compiled_is_no_meaning : MeantIsNotRefused → OverlayIsNotRefused → NotCompiledIsNoMeaning
  not_compiled_is_no_meaning meant also text e why wanted low = ((λ m h. as_base m e h why wanted low), (λ o h. as_overlay o e h why wanted low))
    where
      as_base : (m : Meaning) (f : Fault) → TextMeans base text m → WhyNoBlob text f → f.kind ≢ NoMemory → f.kind ≢ Limit → ⊥
      as_base m _ h compile.no_memory w l = w refl
      as_base m _ h (compile.unparsed f other) w l = w (only text h.says f h.parsed other)
      as_base m _ h (compile.as_base s f parsed plain other) w l = not_compiled meant base text m f h other w l
      as_base m _ h (compile.as_overlay s f parsed plugin other) w l = true≢false (sym plugin ∙ same_plugin text s h.says parsed h.parsed ∙ h.plain)

      as_overlay : (o : Overlay) (f : Fault) → OverlayTextMeans text o → WhyNoBlob text f → f.kind ≢ NoMemory → f.kind ≢ Limit → ⊥
      as_overlay o _ h compile.no_memory w l = w refl
      as_overlay o _ h (compile.unparsed f other) w l = w (only text h.says f h.parsed other)
      as_overlay o _ h (compile.as_base s f parsed plain other) w l = true≢false (sym h.plugin ∙ same_plugin text h.says s h.parsed parsed ∙ plain)
      as_overlay o _ h (compile.as_overlay s f parsed plugin other) w l = overlay_not_refused also text o f h other w l
