-- The tree that is built of a source's places is the one that they mean.
use Rattle.std.proofs.Common.{◌≡◌, false, ◌⊎◌, ℕ, suc, ◌+◌, ◌<◌, ◌≤◌, inl, inr, List, [], Option, None, length, length-append, refl, sym, ap, subst, ◌∙◌, arith}
use Rattle.std.specs.Prelude.{Result, Ok, Err, MatchResult, IfOk, IfErr}
use Rattle.std.specs.List.{AllByRecursion}
use Rattle.dt_names.specs.declared.fault.Fault.{Fault}
use Rattle.dt_names.specs.declared.fault.FaultKind.{FaultKind}
use Rattle.dt_names.specs.declared.fault.FaultKind.TheVariants.{NoMemory, Limit, UnresolvedReference, BadPhandle, DuplicatePhandle}
use Rattle.dt_model.specs.Limits.{most_nodes}
use Rattle.dt_model.specs.Nested.{AreNested}
use Rattle.dt_model.specs.Named.{NodeReference, NamedForest, no_nodes, branch, Named, Listed, NamedList, node_count, list_of, listed, tree_of}
use Rattle.dt_model.specs.NamedOf.{IsNamed, IsNamedOf}
use Rattle.dt_model.specs.Source.{Place, IsPlace, Mode, SoFar, nothing, read_all, meaning_of, duplicate_property, duplicate_node, duplicate_label, no_such_target, reserved_name, too_deep, misplaced, unresolved, bad_phandle, duplicate_phandle}
use Rattle.dt_model.specs.Refused.{SourceRefusal, at_place, at_end, too_many, IsRefusedFor}
use Rattle.dt_model.specs.Valid.{IsReservation}
use Rattle.dt_model_laws.specs.NamedTrees.{ListIsOfItsTree, MeantIsNamed, ManyStand}
use Rattle.dt_grammar.specs.Grammar.{Says}
use Rattle.dt_source.specs.Building.{AreNodesOf, MayBeWhole}
use Rattle.dt_source_nodes.specs.Nodes.{WhyNotAfter}
use Rattle.dt_source_bodies.specs.Refusals.{WhyNotGrown}
use Rattle.dt_source.specs.Refusals.{IsFaultOf, WhyNotNamed, WhyNotRead, fault_kind, fault_place}

-- ---- how many nodes there are

list_count : (number parent : ℕ) (f : NamedForest NodeReference) → length (listed number parent f) ≡ node_count f
list_count number parent no_nodes = refl
list_count number parent (branch name content children siblings) =
    let inner = list_count (suc number) number children in
    let outer = list_count (suc number + node_count children) parent siblings in
    omega (arith, inner, outer, length-append (listed (suc number) number children) (listed (suc number + node_count children) parent siblings))

pub count_is : (t : Named NodeReference) → length (list_of t) ≡ 1 + node_count t.children
count_is t = let c = list_count 1 0 t.children in omega (arith, c)

-- ---- the tree

-- no body is left open
abbrev pub Closes : Type 0
Closes = (mode : Mode) (places : List Place) (s : SoFar) → AreNested 0 places → read_all mode nothing places ≡ Ok s → s.bodies ≡ []

module _ (mode : Mode) (s : Says) (ns : List (Listed NodeReference)) (h : AreNodesOf mode s.places ns) where
  abbrev built : Named NodeReference
  built = h.after.nodes.tree s.reservations

  abbrev of_list : NamedList NodeReference
  of_list = record { reservations = s.reservations; nodes = ns }

  tree_is : ListIsOfItsTree → tree_of of_list ≡ built
  tree_is own =
      let same : of_list ≡ record { reservations = built.reservations; nodes = list_of built } =
      λ i. record { reservations = sym (h.after.nodes.reservations s.reservations) i; nodes = h.after.nodes.list s.reservations i } in
      ap tree_of same ∙ own built

  named_of : AreNested 0 s.places → Closes → IsNamedOf mode s.reservations s.places built
  named_of nested closes =
      record {
        meaning = meaning_of s.reservations h.so_far.events;
        means = record { so_far = h.so_far; all_read = h.all_read; closed = closes mode s.places h.so_far nested h.all_read; resolved = h.after.resolved; means = refl };
        same_reservations = h.after.nodes.reservations s.reservations;
        tree = h.after.nodes.named s.reservations;
      }

  count : length ns ≡ 1 + node_count built.children
  count = ap length (h.after.nodes.list s.reservations) ∙ count_is built

  pub tree_means : ListIsOfItsTree → AreNested 0 s.places → Closes → IsNamedOf mode s.reservations s.places (tree_of of_list)
  tree_means own nested closes = subst (IsNamedOf mode s.reservations s.places) (sym (tree_is own)) (named_of nested closes)

  pub may_be_whole : ListIsOfItsTree → MeantIsNamed → AreNested 0 s.places → Closes → 0 < length s.places → AllByRecursion IsPlace s.places → AllByRecursion IsReservation s.reservations → MayBeWhole of_list
  may_be_whole own meant nested closes some places reservations few =
      let small : 1 + node_count built.children ≤ most_nodes = omega (arith, count, few) in
      let ok = meant mode s.reservations s.places built some places reservations small (named_of nested closes) in
      record {
        preorder = ap list_of (tree_is own) ∙ sym (h.after.nodes.list s.reservations);
        named = subst IsNamed (sym (tree_is own)) ok;
      }

  pub many_are_refused : ManyStand → AreNested 0 s.places → Closes → most_nodes < length ns → IsRefusedFor mode s.places too_many
  unfolding named_of
  many_are_refused many nested closes more =
      let large : most_nodes < 1 + node_count built.children = omega (arith, count, more) in
      (h.so_far, h.all_read, h.after.resolved, many mode s.reservations s.places built large (named_of nested closes))

-- ---- refusals

pub grown_refused : (mode : Mode) (places : List Place) (fault : Fault) → WhyNotGrown mode places fault → WhyNotRead mode places fault
grown_refused mode places fault why = (why.0, elim why.1 [ inl e ↦ inl e | inr r ↦ inr (at_place r.0, r.1, r.2) ])

late_kind : (mode : Mode) (places : List Place) (s : SoFar) (kind : FaultKind) → read_all mode nothing places ≡ Ok s → WhyNotAfter s.events kind
    → (kind ≡ NoMemory) ⊎ ((r : SourceRefusal) × IsRefusedFor mode places r × (kind ≡ fault_kind r))
late_kind mode places s NoMemory e why = inl refl
late_kind mode places s UnresolvedReference e why = inr (at_end unresolved, (s, e, why), refl)
late_kind mode places s BadPhandle e why = inr (at_end bad_phandle, (s, e, why), refl)
late_kind mode places s DuplicatePhandle e why = inr (at_end duplicate_phandle, (s, e, why), refl)
late_kind mode places s _ e why = absurd why

pub late_refused : (mode : Mode) (places : List Place) (s : SoFar) (fault : Fault) → read_all mode nothing places ≡ Ok s → fault.at ≡ None → WhyNotAfter s.events fault.kind → WhyNotRead mode places fault
late_refused mode places s fault e at why = (at, late_kind mode places s fault.kind e why)

is_fault : (mode : Mode) (s : Says) (r : SourceRefusal) → s.plugin ≡ false → IsRefusedFor mode s.places r → IsFaultOf mode s (fault_kind r)
is_fault mode s r plain h = record { plain = plain; refusal = r; refused = h; told = refl }

-- a refusal's kind is none of those that need no refusal
told_named : (mode : Mode) (s : Says) (r : SourceRefusal) → IsFaultOf mode s (fault_kind r) → WhyNotNamed mode (fault_kind r) s × (None ≡ fault_place (fault_kind r))
told_named mode s (at_place duplicate_property) h = (h, refl)
told_named mode s (at_place duplicate_node) h = (h, refl)
told_named mode s (at_place duplicate_label) h = (h, refl)
told_named mode s (at_place no_such_target) h = (h, refl)
told_named mode s (at_place reserved_name) h = (h, refl)
told_named mode s (at_place too_deep) h = (h, refl)
told_named mode s (at_place misplaced) h = (h, refl)
told_named mode s (at_end unresolved) h = (h, refl)
told_named mode s (at_end bad_phandle) h = (h, refl)
told_named mode s (at_end duplicate_phandle) h = (h, refl)
told_named mode s too_many h = (h, refl)

abbrev Told : Mode → Says → Option ℕ → FaultKind → Type 0
Told mode s at kind = WhyNotNamed mode kind s × (at ≡ fault_place kind)

pub not_read : (mode : Mode) (s : Says) (fault : Fault) → s.plugin ≡ false → WhyNotRead mode s.places fault → WhyNotNamed mode fault.kind s × (fault.at ≡ fault_place fault.kind)
not_read mode s fault plain why =
    subst (λ (at : Option ℕ). Told mode s at fault.kind) (sym why.0)
    (elim why.1 [
      | inl e ↦ subst (Told mode s None) (sym e) (tt, refl)
      | inr r ↦ subst (Told mode s None) (sym r.2) (told_named mode s r.0 (is_fault mode s r.0 plain r.1))
    ])

pub either : {A E : Type 0} (P : A → Type 0) (Q : E → Type 0) (R : A → Type 0) (S : E → Type 0) → ((a : A) → P a → R a) → ((e : E) → Q e → S e) → (r : Result A E) → MatchResult r P Q → MatchResult r R S
either P Q R S f g (Ok a) p = f a p
either P Q R S f g (Err e) q = g e q

pub too_many_named : (mode : Mode) (s : Says) (fault : Fault) → s.plugin ≡ false → fault.kind ≡ Limit → fault.at ≡ None → IsRefusedFor mode s.places too_many
    → WhyNotNamed mode fault.kind s × (fault.at ≡ fault_place fault.kind)
too_many_named mode s fault plain kind at h = not_read mode s fault plain (at, inr (too_many, h, kind))

pub answered_result : {A E : Type 0} (P R : A → Type 0) (Q : E → Type 0) → ((a : A) → P a → R a) → (r : Result A E) → MatchResult r P Q → IfOk r R
answered_result P R Q f (Ok a) p = f a p
answered_result P R Q f (Err e) q = tt

pub refused_result : {A E : Type 0} (P : A → Type 0) (Q R : E → Type 0) → ((e : E) → Q e → R e) → (r : Result A E) → MatchResult r P Q → IfErr r R
refused_result P Q R f (Ok x) p = tt
refused_result P Q R f (Err e) q = f e q
