-- The tree that is built of an overlay's places, with the fragments of its list, is what they mean.
use Rattle.std.proofs.Common.{◌≡◌, ◌⊎◌, ℕ, ◌+◌, ◌<◌, ◌==◌, true, false, inl, inr, List, [], ◌∷◌, ◌++◌, map, length, reverse, Option, Some, None, refl, sym, ap, subst, ◌∙◌, arith}
use Rattle.std.specs.Prelude.{option_and_then, Err}
use Rattle.std.specs.List.{AllByRecursion, flat_map}
use Rattle.std.specs.Option.{option_map, option_map_or, option_or}
use Rattle.std.proofs.lemmas.Bool.Decides.{eqb_tells}
use Rattle.dt_names.specs.declared.fault.Fault.{Fault}
use Rattle.dt_names.specs.declared.fault.FaultKind.{FaultKind}
use Rattle.dt_names.specs.declared.fault.FaultKind.TheVariants.{NoMemory, BadFragment, OutsideContent}
use Rattle.dt_model.specs.Limits.{most_nodes}
use Rattle.dt_model.specs.Names.{Name, IsLabel}
use Rattle.dt_model.specs.Path.{Path}
use Rattle.dt_model.specs.Meaning.{Item, reference}
use Rattle.dt_model.specs.Event.{Stack, value_at}
use Rattle.dt_model.specs.Nested.{AreNested}
use Rattle.dt_model.specs.Overlay.{inside, outside, OverlayReference}
use Rattle.dt_model.specs.OverlaySource.{OverlayRefusal, as_any, overlay_delete, overlay_phandle, overlay_path, is_overlay_part, overlay_items, overlay_of, bad_fragment, outside_content}
use Rattle.dt_model.specs.Named.{NodeReference, Named, Listed, NamedList, node_count, list_of, tree_of}
use Rattle.dt_model.specs.NamedOf.{IsNamed}
use Rattle.dt_model.specs.NamedOverlay.{NamedFragment, IsNamedOverlayOf}
use Rattle.dt_model.specs.Source.{by_label, by_path, Part, one, number_of, text_of, IsPart, Place, IsPlace, Events, labelled, duplicate_property, duplicate_node, duplicate_label, no_such_target, reserved_name, too_deep, misplaced}
use Rattle.dt_model.specs.Refused.{OverlaySourceRefusal, at_place, at_end, too_many, IsOverlayRefusedFor}
use Rattle.dt_model_laws.specs.NamedTrees.{ListIsOfItsTree}
use Rattle.dt_model_laws.specs.OverlayTrees.{OverlayIsNamed, OverlayManyStand}
use Rattle.dt_model_laws.specs.OverlayChecks.{AreBehind, ListedAreBehind, AreChecked, HasUntargeted, AreUncontained, IsTreeAfter, CheckedIsMeant, UntargetedIsRefused, UncontainedIsRefused}
use Rattle.dt_grammar.specs.Grammar.{Says}
use Rattle.dt_source_bodies.specs.Arena.{all_overlay}
use Rattle.dt_source.specs.Building.{MayBeWhole}
use Rattle.dt_source_nodes.specs.Contents.{named_part, named_parts, all_read, read_values, IsLabelledPart, AreLabelled}
use Rattle.dt_source_fragments.specs.Fragments.{WhyUnchecked, IsUnchecked}
use Rattle.dt_source.specs.Fragments.{AreOverlayNodes}
use Rattle.dt_source_nodes.specs.Nodes.{AreNodesBy, HasUnread}
use Rattle.dt_source_bodies.specs.OverlayReading.{TellsOverlayRefusal}
use Rattle.dt_source_bodies.specs.Refusals.{overlay_kind}
use Rattle.dt_source.specs.Refusals.{overlay_fault_kind, WhyNoOverlayRead, IsOverlayFaultOf, WhyNoOverlay, fault_place}
use Rattle.dt_source_growing.specs.declared.referring.Unnamed.TheVariants.{Kept}
use Rattle.dt_source.proofs.BuiltTrees.{count_is}

-- ---- values

-- a part that an overlay may have, as the definition has it
abbrev IsPlainPart : Part → Type 0
IsPlainPart x = IsPart x × (is_overlay_part x ≡ true)

kept_part : (es : Events) (x : Part) → is_overlay_part x ≡ true → named_part Kept es reverse x ≡ Some (overlay_items es x)
kept_part es (one b) h = refl
kept_part es (number_of (by_label l)) h = by (labelled es l)
  where
    by : (o : Option Stack) → option_map (λ (q : OverlayReference). reference q ∷ []) (option_or (option_map (λ p. inside (reverse p)) o) (Some (outside l)))
        ≡ Some (reference (option_map_or (λ p. inside (reverse p)) o (outside l)) ∷ [])
    by None = refl
    by (Some p) = refl
kept_part es (number_of (by_path p)) h = cc
kept_part es (text_of r) h = cc

kept_value : (es : Events) (v : List Part) → AllByRecursion IsPlainPart v → all_read Kept es v ≡ Some (flat_map (overlay_items es) v)
kept_value es [] h = refl
kept_value es (x ∷ v) h =
    ap (option_and_then (λ (items : List (Item OverlayReference)). option_map (λ others. items ++ others) (named_parts Kept es reverse v))) (kept_part es x h.0.1)
    ∙ ap (option_map (λ (others : List (Item OverlayReference)). overlay_items es x ++ others)) (kept_value es v h.1)

labelled_part : (x : Part) → IsPart x → IsLabelledPart Kept x
labelled_part (one b) h = tt
labelled_part (number_of (by_label m)) h = λ l e. let same : m ≡ l = cc in subst IsLabel same h
labelled_part (number_of (by_path p)) h = λ l e. cc
labelled_part (text_of r) h = tt

module _ (es : Events) (plain : (p : Stack) (x : Name) (v : List Part) → value_at es p x ≡ Some v → AllByRecursion IsPlainPart v) where
  pub are_labelled : AreLabelled Kept es
  are_labelled p x v e = all v (plain p x v e)
    where
      all : (v : List Part) → AllByRecursion IsPlainPart v → AllByRecursion (IsLabelledPart Kept) v
      all [] h = tt
      all (y ∷ v) h = (labelled_part y h.0.0, all v h.1)

  pub none_unread : HasUnread Kept es → ⊥
  none_unread u = let e : None ≡ Some (flat_map (overlay_items es) u.2) = sym u.4 ∙ kept_value es u.2 (plain u.0 u.1 u.2 u.3) in cc

  same_values : (p : Path) (x : Name) → read_values Kept es p x ≡ (overlay_of es []).value p x
  same_values p x = by (value_at es (reverse p) x) refl
    where
      by : (o : Option (List Part)) → value_at es (reverse p) x ≡ o → option_and_then (all_read Kept es) (value_at es (reverse p) x) ≡ option_map (flat_map (overlay_items es)) (value_at es (reverse p) x)
      by None e = ap (option_and_then (all_read Kept es)) e ∙ sym (ap (option_map (flat_map (overlay_items es))) e)
      by (Some v) e = ap (option_and_then (all_read Kept es)) e ∙ kept_value es v (plain (reverse p) x v e) ∙ sym (ap (option_map (flat_map (overlay_items es))) e)

  pub nodes_after : (ns : List (Listed NodeReference)) → AreNodesBy es (read_values Kept es) ns → AreNodesBy es (overlay_of es []).value ns
  nodes_after ns h = record {
    tree = h.tree;
    reservations = h.reservations;
    list = h.list;
    named = λ rs.
        let n = h.named rs in
        record { nodes = n.nodes; values = λ p x. n.values p x ∙ same_values p x; referred = n.referred; order = n.order };
  }

-- ---- the tree

module _ (places : List Place) (ns : List (Listed NodeReference)) (h : AreOverlayNodes places ns) where
  abbrev built : Named NodeReference
  built = h.after.tree []

  abbrev of_list : NamedList NodeReference
  of_list = record { reservations = []; nodes = ns }

  tree_is : ListIsOfItsTree → tree_of of_list ≡ built
  tree_is own =
      let same : of_list ≡ record { reservations = built.reservations; nodes = list_of built } =
      λ i. record { reservations = sym (h.after.reservations []) i; nodes = h.after.list [] i } in
      ap tree_of same ∙ own built

  count : length ns ≡ 1 + node_count built.children
  count = ap length (h.after.list []) ∙ count_is built

  after : IsTreeAfter places built
  after = record { so_far = h.so_far; all_read = h.all_read; named = h.after.named [] }

  pub are_behind : ListedAreBehind → AreBehind ns
  are_behind behind = subst AreBehind (sym (h.after.list [])) (behind built)

  module _ (fs : List NamedFragment) (checked : AreChecked ns fs) (meant : CheckedIsMeant) (nested : AreNested 0 places) where
    named_of : IsNamedOverlayOf places built fs
    named_of = meant places built fs nested (h.after.reservations []) after (subst (λ ms. AreChecked ms fs) (h.after.list []) checked)

    pub overlay_means : ListIsOfItsTree → IsNamedOverlayOf places (tree_of of_list) fs
    overlay_means own = subst (λ (t : Named NodeReference). IsNamedOverlayOf places t fs) (sym (tree_is own)) named_of

    pub overlay_may_be_whole : ListIsOfItsTree → OverlayIsNamed → AllByRecursion IsPlace places → MayBeWhole of_list
    overlay_may_be_whole own named valid few = record {
      preorder = ap list_of (tree_is own) ∙ sym (h.after.list []);
      named = subst IsNamed (sym (tree_is own)) (named places built fs valid (omega (arith, count, few)) named_of);
    }

    pub too_many_stand : OverlayManyStand → most_nodes < length ns → IsOverlayRefusedFor places too_many
    too_many_stand many more = (named_of.overlay, named_of.means, many places built fs (omega (arith, count, more)) named_of)

  pub late_overlay_refused : UntargetedIsRefused → UncontainedIsRefused → (fault : Fault) → IsUnchecked ns fault → WhyNoOverlayRead places fault
  late_overlay_refused untargeted uncontained fault why = (why.0, by fault.kind why.1)
    where
      by : (kind : FaultKind) → WhyUnchecked ns kind → (kind ≡ NoMemory) ⊎ ((r : OverlaySourceRefusal) × IsOverlayRefusedFor places r × (kind ≡ overlay_fault_kind r))
      by NoMemory w = inl refl
      by BadFragment w = inr (at_end bad_fragment, untargeted places built after (subst HasUntargeted (h.after.list []) w), refl)
      by OutsideContent w = inr (at_end outside_content, uncontained places built after (subst AreUncontained (h.after.list []) w), refl)
      by _ w = absurd w

-- ---- refusals

pub overlay_grown_refused : (places : List Place) (fault : Fault) → TellsOverlayRefusal (all_overlay places) fault → WhyNoOverlayRead places fault
overlay_grown_refused places fault why = (why.0, by why.1)
  where
    by : (fault.kind ≡ NoMemory) ⊎ ((r : OverlayRefusal) × (all_overlay places ≡ Err r) × (fault.kind ≡ overlay_kind r))
        → (fault.kind ≡ NoMemory) ⊎ ((r : OverlaySourceRefusal) × IsOverlayRefusedFor places r × (fault.kind ≡ overlay_fault_kind r))
    by (inl e) = inl e
    by (inr r) = inr (at_place r.0, r.1, r.2)

-- a refusal's kind is none of those that need no refusal
told_overlay : (s : Says) (r : OverlaySourceRefusal) → IsOverlayFaultOf s (overlay_fault_kind r) → WhyNoOverlay (overlay_fault_kind r) s × (None ≡ fault_place (overlay_fault_kind r))
told_overlay s (at_place (as_any duplicate_property)) h = (h, refl)
told_overlay s (at_place (as_any duplicate_node)) h = (h, refl)
told_overlay s (at_place (as_any duplicate_label)) h = (h, refl)
told_overlay s (at_place (as_any no_such_target)) h = (h, refl)
told_overlay s (at_place (as_any reserved_name)) h = (h, refl)
told_overlay s (at_place (as_any too_deep)) h = (h, refl)
told_overlay s (at_place (as_any misplaced)) h = (h, refl)
told_overlay s (at_place overlay_delete) h = (h, refl)
told_overlay s (at_place overlay_phandle) h = (h, refl)
told_overlay s (at_place overlay_path) h = (h, refl)
told_overlay s (at_end bad_fragment) h = (h, refl)
told_overlay s (at_end outside_content) h = (h, refl)
told_overlay s too_many h = (h, refl)

abbrev Told : Says → Option ℕ → FaultKind → Type 0
Told s at kind = WhyNoOverlay kind s × (at ≡ fault_place kind)

pub no_overlay_read : (s : Says) (fault : Fault) → s.plugin ≡ true → s.reservations ≡ [] → WhyNoOverlayRead s.places fault → WhyNoOverlay fault.kind s × (fault.at ≡ fault_place fault.kind)
no_overlay_read s fault plugin none why =
    subst (λ (at : Option ℕ). Told s at fault.kind) (sym why.0)
    (elim why.1 [
      | inl e ↦ subst (Told s None) (sym e) (tt, refl)
      | inr r ↦ subst (Told s None) (sym r.2) (told_overlay s r.0 (record { plugin = plugin; reservations = none; refusal = r.0; refused = r.1; told = refl }))
    ])

-- no reservation is one of a source that has none
pub none_reserved : {X Y : Type 0} (f : X → Y) (xs : List X) (ys : List Y) → map f xs ≡ ys → (length xs == 0) ≡ true → ys ≡ []
none_reserved f [] ys e none = sym e
none_reserved f (x ∷ xs) ys e none = elim (eqb_tells (length (x ∷ xs)) 0) [
  | inl h ↦ absurd (omega (arith, h.1))
  | inr h ↦ let no : true ≡ false = sym none ∙ h.0 in cc
]
