-- A text is compiled to one blob, or is refused for one reason.
use Rattle.std.proofs.Common.{◌≡◌, ◌≢◌, ℕ, ◌+◌, ◌<◌, ◌≤◌, inl, inr, List, ◌∷◌, [], length, refl, sym, ap, subst, ◌∙◌, true≢false, codes, arith}
use Rattle.dt_model.specs.Format.{Reads}
use Rattle.dt_names.specs.Fault.{IsOneRefusal}
use Rattle.dt_names.specs.declared.fault.Fault.{Fault}
use Rattle.dt_names.specs.declared.fault.FaultKind.{FaultKind}
use Rattle.dt_names.specs.declared.fault.FaultKind.TheVariants.{NoMemory, Limit}
use Rattle.dt_model.specs.Limits.{most_nodes, most_bytes}
use Rattle.dt_model.specs.Source.{Mode, base, raw, SourceMeans}
use Rattle.dt_model.specs.Names.{Name}
use Rattle.dt_model.specs.Tree.{Property, Forest, Reading, branch, no_nodes}
use Rattle.dt_model.specs.Valid.{IsValid, IsWithinLimits, node_count}
use Rattle.dt_model.specs.Instance.{IsTreeOf, added, followed_by}
use Rattle.dt_model.specs.Refused.{too_many, IsRefusedFor}
use Rattle.dt_model_laws.specs.CompiledTrees.{OneTree, MeantIsNotRefused, FewAreNotRefused}
use Rattle.dt_grammar.specs.Grammar.{Says}
use Rattle.dt_grammar.specs.Parsed.{IsParsed, WhyNotParsed}
use Rattle.dt_source.specs.Refusals.{WhyNotNamed, fault_kind, fault_place}
use Rattle.dt_source.proofs.Outcomes.{Sorted, sorted}
use Rattle.dt_write.specs.Written.{written}
use Rattle.dt_chain_promises.specs.Compile.{TextHasTree, IsCompiled, WhyNoTree, WhyNotCompiled, no_memory, unparsed, unnamed, many, no_tree, big}
use Rattle.dt_names.specs.Fault.{placeless}
use Rattle.dt_chain_promises.specs.Laws.{OneMeaning}

-- a text says one thing
abbrev pub SaidOnce : Type 0
SaidOnce = (text : List ℕ) (s t : Says) → IsParsed text s → IsParsed text t → s ≡ t

-- and has no fault then
abbrev pub SaidOnly : Type 0
SaidOnly = (text : List ℕ) (s : Says) (e : Fault) → IsParsed text s → WhyNotParsed text e → e.kind ≡ NoMemory

-- or it has one fault
abbrev pub FaultOnce : Type 0
FaultOnce = (text : List ℕ) (e f : Fault) → WhyNotParsed text e → WhyNotParsed text f → ¬ e.kind ≡ NoMemory → ¬ f.kind ≡ NoMemory → e ≡ f

-- the blob of a valid tree is read as it
abbrev pub WrittenReads : Type 0
WrittenReads = (t : Reading) → IsValid t → length (written t) ≤ most_bytes → Reads (written t) t

-- ---- one meaning, one tree

pub meaning_once : SaidOnce → OneMeaning
meaning_once once mode text m n h k =
    let said : h.says ≡ k.says = once text h.says k.says h.parsed k.parsed in
    let means = subst (λ (s : Says). SourceMeans mode s.reservations s.places m) said h.means in
    means.means ∙ same_events k.says means k.means ∙ sym k.means.means
  where
    same_events : (s : Says) (a : SourceMeans mode s.reservations s.places m) (b : SourceMeans mode s.reservations s.places n)
        → Rattle.dt_model.specs.Source.meaning_of s.reservations a.so_far.events ≡ Rattle.dt_model.specs.Source.meaning_of s.reservations b.so_far.events
    same_events s a b =
        let e : Rattle.std.specs.Prelude.Ok a.so_far ≡ Rattle.std.specs.Prelude.Ok b.so_far = sym a.all_read ∙ b.all_read in
        let same : a.so_far ≡ b.so_far = cc in
        ap (λ (x : Rattle.dt_model.specs.Source.SoFar). Rattle.dt_model.specs.Source.meaning_of s.reservations x.events) same

pub tree_once : SaidOnce → OneTree → (mode : Mode) (text : List ℕ) (t u : Reading) → TextHasTree mode text t → TextHasTree mode text u → t ≡ u
tree_once once one mode text t u h k =
    let said : h.says ≡ k.says = once text h.says k.says h.parsed k.parsed in
    one mode k.says.reservations k.says.places t u (subst (λ (s : Says). IsTreeOf mode s.reservations s.places t) said h.tree) k.tree

pub blob_once : SaidOnce → OneTree → (mode : Mode) (text blob other : List ℕ) → IsCompiled mode text blob → IsCompiled mode text other → blob ≡ other
blob_once once one mode text blob other h k = h.is ∙ ap written (tree_once once one mode text h.tree k.tree h.of_text k.of_text) ∙ sym k.is

-- ---- why a source has no tree

-- a tree's places mean something
meant : (mode : Mode) (s : Says) (t : Reading) (h : IsTreeOf mode s.reservations s.places t) → SourceMeans mode s.reservations s.places h.instance.meaning
meant mode s t h = h.instance.means

pub limit_told : (kind : FaultKind) → kind ≡ Limit → record { kind = kind; at = fault_place kind } ≡ placeless Limit
limit_told kind e = ap (λ (k : FaultKind). let f : Fault = record { kind = k; at = fault_place k } in f) e

-- a text that has a tree is refused for nothing but the number of its nodes
only_many : SaidOnce → MeantIsNotRefused → (mode : Mode) (text : List ℕ) (t : Reading) (s : Says) (kind : FaultKind) → TextHasTree mode text t → IsParsed text s
    → kind ≢ NoMemory → WhyNotNamed mode kind s → (kind ≡ Limit) × IsRefusedFor mode s.places too_many
only_many once not mode text t s kind h parsed wanted why = elim (sorted mode s kind why) [
  | inl e ↦ absurd (wanted e)
  | inr (inl e) ↦ absurd (true≢false (sym e.1 ∙ ap (λ (x : Says). x.plugin) said ∙ h.plain))
  | inr (inr f) ↦
      let r = not mode s.reservations s.places tree.instance.meaning f.refusal tree.instance.means f.refused in
      (f.told ∙ ap fault_kind r, subst (IsRefusedFor mode s.places) r f.refused)
]
  where
    said : s ≡ h.says
    said = once text s h.says parsed h.parsed

    tree : IsTreeOf mode s.reservations s.places t
    tree = subst (λ (x : Says). IsTreeOf mode x.reservations x.places t) (sym said) h.tree

-- ---- the tree has no fewer nodes than its instance

-- a node more
pub one_more : (f : Forest) (x : Name) (ps : List Property) → node_count (followed_by f (branch x ps no_nodes no_nodes)) ≡ node_count f + 1
one_more no_nodes x ps = refl
one_more (branch name properties children siblings) x ps = let e = one_more siblings x ps in omega (arith, e)

more_nodes : (mode : Mode) (symbols : List Property) (t : Reading) → node_count t.children ≤ node_count (added mode symbols t).children
more_nodes raw symbols t = omega arith
more_nodes base [] t = omega arith
more_nodes base (s ∷ symbols) t = let e = one_more t.children (codes "__symbols__") (s ∷ symbols) in omega (arith, e)

few_nodes : (mode : Mode) (rs : List (ℕ × ℕ)) (ps : List Rattle.dt_model.specs.Source.Place) (t : Reading) (h : IsTreeOf mode rs ps t) → IsWithinLimits t → 1 + node_count h.bare.children ≤ most_nodes
few_nodes mode rs ps t h w =
    let few : 1 + node_count (added mode h.symbols h.bare).children ≤ most_nodes = subst (λ (u : Reading). 1 + node_count u.children ≤ most_nodes) h.is w.count in
    let more = more_nodes mode h.symbols h.bare in
    omega (arith, few, more)

-- ---- answered, or refused

-- a text that has a tree within the limits is refused only where memory is wanted
pub tree_not_refused : SaidOnce → SaidOnly → OneTree → MeantIsNotRefused → FewAreNotRefused
    → (mode : Mode) (text : List ℕ) (t : Reading) (e : Fault) → TextHasTree mode text t → IsWithinLimits t → WhyNoTree mode text e → e.kind ≡ NoMemory
tree_not_refused once only one not few mode text t _ h within no_memory = refl
tree_not_refused once only one not few mode text t _ h within (unparsed e why) = only text h.says e h.parsed why
tree_not_refused once only one not few mode text t _ h within (unnamed s kind parsed why) = step (sorted mode s kind why)
  where
    said : h.says ≡ s
    said = once text h.says s h.parsed parsed

    tree : IsTreeOf mode s.reservations s.places t
    tree = subst (λ (x : Says). IsTreeOf mode x.reservations x.places t) said h.tree

    step : Sorted mode s kind → kind ≡ NoMemory
    step (inl e) = e
    step (inr (inl e)) = absurd (true≢false (sym e.1 ∙ ap (λ (x : Says). x.plugin) (sym said) ∙ h.plain))
    step (inr (inr f)) =
        let r = not mode s.reservations s.places tree.instance.meaning f.refusal tree.instance.means f.refused in
        absurd (few mode s.reservations s.places tree.bare tree.instance (few_nodes mode s.reservations s.places t tree within) (subst (IsRefusedFor mode s.places) r f.refused))
tree_not_refused once only one not few mode text t _ h within (many u k more) =
    let same : u ≡ t = tree_once once one mode text u t k h in
    let less : 1 + node_count t.children ≤ most_nodes = within.count in
    let more' : most_nodes < 1 + node_count t.children = subst (λ (v : Reading). most_nodes < 1 + node_count v.children) same more in
    absurd (omega (arith, less, more'))

pub compiled_not_refused : SaidOnce → SaidOnly → OneTree → MeantIsNotRefused → FewAreNotRefused
    → (mode : Mode) (text blob : List ℕ) (e : Fault) → IsCompiled mode text blob → WhyNotCompiled mode text e → e.kind ≡ NoMemory
compiled_not_refused once only one not few mode text blob _ h no_memory = refl
compiled_not_refused once only one not few mode text blob _ h (no_tree e why) = tree_not_refused once only one not few mode text h.tree e h.of_text h.within why
compiled_not_refused once only one not few mode text blob _ h (big t k more) =
    let same : t ≡ h.tree = tree_once once one mode text t h.tree k h.of_text in
    let less : length (written h.tree) ≤ most_bytes = subst (λ (b : List ℕ). length b ≤ most_bytes) h.is h.size in
    let more' : most_bytes < length (written h.tree) = subst (λ (u : Reading). most_bytes < length (written u)) same more in
    absurd (omega (arith, less, more'))

-- ---- one refusal

-- a source is refused for one reason
abbrev pub NamedOnce : Type 0
NamedOnce = (mode : Mode) (s : Says) → IsOneRefusal (λ kind. WhyNotNamed mode kind s)

-- a source's fault
abbrev pub of_kind : FaultKind → Fault
of_kind k = record { kind = k; at = fault_place k }

module _ (once : SaidOnce) (only : SaidOnly) (fault : FaultOnce) (one : NamedOnce) (not : MeantIsNotRefused) where
  -- a text that has a tree has none within the limits only as too large
  with_tree : (mode : Mode) (text : List ℕ) (t : Reading) (f : Fault) → TextHasTree mode text t → f.kind ≢ NoMemory → WhyNoTree mode text f → placeless Limit ≡ f
  with_tree mode text t _ h wanted no_memory = absurd (wanted refl)
  with_tree mode text t _ h wanted (unparsed f why) = absurd (wanted (only text h.says f h.parsed why))
  with_tree mode text t _ h wanted (unnamed s kind parsed why) = sym (limit_told kind (only_many once not mode text t s kind h parsed wanted why).0)
  with_tree mode text t _ h wanted (many u k more) = refl

  -- a source is refused as one
  with_source : (mode : Mode) (text : List ℕ) (s : Says) (k : FaultKind) (f : Fault) → IsParsed text s → WhyNotNamed mode k s → k ≢ NoMemory → f.kind ≢ NoMemory → WhyNoTree mode text f → of_kind k ≡ f
  with_source mode text s k _ parsed why wanted wanted' no_memory = absurd (wanted' refl)
  with_source mode text s k _ parsed why wanted wanted' (unparsed f also) = absurd (wanted' (only text s f parsed also))
  with_source mode text s k _ parsed why wanted wanted' (unnamed r j same also) =
      let said : r ≡ s = once text r s same parsed in
      ap of_kind (one mode s k j wanted wanted' why (subst (WhyNotNamed mode j) said also))
  with_source mode text s k _ parsed why wanted wanted' (many u h more) = limit_told k (only_many once not mode text u s k h parsed wanted why).0

  -- a text has no tree within the limits for one reason
  pub tree_refused_once : (mode : Mode) (text : List ℕ) (e f : Fault) → WhyNoTree mode text e → WhyNoTree mode text f → e.kind ≢ NoMemory → f.kind ≢ NoMemory → e ≡ f
  tree_refused_once mode text _ f no_memory also wanted wanted' = absurd (wanted refl)
  tree_refused_once mode text _ f (unparsed e why) also wanted wanted' = step f also wanted'
    where
      step : (f : Fault) → WhyNoTree mode text f → f.kind ≢ NoMemory → e ≡ f
      step _ no_memory w = absurd (w refl)
      step _ (unparsed g other) w = fault text e g why other wanted w
      step _ (unnamed s kind parsed other) w = absurd (wanted (only text s e parsed why))
      step _ (many u h more) w = absurd (wanted (only text h.says e h.parsed why))
  tree_refused_once mode text _ f (unnamed s kind parsed why) also wanted wanted' = with_source mode text s kind f parsed why wanted wanted' also
  tree_refused_once mode text _ f (many t h more) also wanted wanted' = with_tree mode text t f h wanted' also

  -- and is not compiled for one
  pub refused_once : (mode : Mode) (text : List ℕ) (e f : Fault) → WhyNotCompiled mode text e → WhyNotCompiled mode text f → e.kind ≢ NoMemory → f.kind ≢ NoMemory → e ≡ f
  refused_once mode text _ f no_memory also wanted wanted' = absurd (wanted refl)
  refused_once mode text _ f (no_tree e why) also wanted wanted' = step f also wanted'
    where
      step : (f : Fault) → WhyNotCompiled mode text f → f.kind ≢ NoMemory → e ≡ f
      step _ no_memory w = absurd (w refl)
      step _ (no_tree g other) w = tree_refused_once mode text e g why other wanted w
      step _ (big u h more) w = sym (with_tree mode text u e h wanted why)
  refused_once mode text _ f (big t h more) also wanted wanted' = step f also wanted'
    where
      step : (f : Fault) → WhyNotCompiled mode text f → f.kind ≢ NoMemory → placeless Limit ≡ f
      step _ no_memory w = absurd (w refl)
      step _ (no_tree g other) w = with_tree mode text t g h w other
      step _ (big u k more) w = refl
