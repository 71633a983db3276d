-- A small overlay has a meaning.
use Rattle.std.proofs.Common.{◌≡◌, Bool, true, not, ◌||◌, List, [], ◌∷◌, inl, inr, Some, None, Result, Ok, Err, reverse, map, codes, refl, subst, arith}
use Rattle.std.specs.List.{AllByRecursion, list_all, flat_map}
use Rattle.std.specs.Str.{bytes_eq}
use Rattle.std.specs.Fmt.{digits}
use Rattle.std.proofs.lemmas.Bool.{or_cases}
use Rattle.std.specs.Bool.{IsTrue, ◌==◌}
use Rattle.std.proofs.lemmas.List.Elements.{All-from_recursion}
use Rattle.dt_model.specs.Names.{Name, IsNodeName, is_name_byte}
use Rattle.dt_model.specs.Path.{Path}
use Rattle.dt_model.specs.Lists.{IsIn, AreInOrder}
use Rattle.dt_model.specs.Meaning.{Item, reference, EachReference}
use Rattle.dt_model.specs.Event.{Stack, Event, opening, giving, definition, undefinition, deletion, opens, takes, defines, drops, stands, value_at, age, age_by}
use Rattle.dt_model.specs.Source.{Part, Events}
use Rattle.dt_model.specs.Overlay.{OverlayReference, inside, outside, at_reference, Fragment, Overlay, content, IsBrought, IsContained, HoldsTarget}
use Rattle.dt_model.specs.OverlaySource.{OverlaySoFar, overlay_start, OverlayRefusal, root_children, read_overlays, overlay_items, overlay_of}
use Rattle.dt_model.proofs.EventSteps.{bytes_eq-is}
use Rattle.dt_model_laws.specs.SampleSources.{sample_overlay, sample_fragments, sample_node, IsSampleOverlay}
use Rattle.dt_model.proofs.Cases.{map_some, all_pass}
use Rattle.dt_model.proofs.Tests.{each_in}
use Rattle.dt_model.proofs.Lasts.{last_each, stands_by, value_by}

abbrev read_or_start : Result OverlaySoFar OverlayRefusal → OverlaySoFar
read_or_start (Ok s) = s
read_or_start (Err e) = overlay_start

abbrev after : OverlaySoFar
after = read_or_start (read_overlays (root_children None sample_overlay) overlay_start sample_overlay)

abbrev es : Events
es = after.source.events

abbrev o : Overlay
o = overlay_of es sample_fragments

-- a test of the openings
abbrev on_opening : (Stack → Bool) → Event (List Part) → Bool
on_opening test (opening q) = test q
on_opening test (giving l q) = true
on_opening test (definition q n v) = true
on_opening test (undefinition q n) = true
on_opening test (deletion q) = true

-- the node is no fragment's content, or one of the two
abbrev is_one : Stack → Bool
is_one (x ∷ f ∷ []) = not (bytes_eq x (codes "__overlay__")) || (bytes_eq f (codes "fragment@0") || bytes_eq f (codes "fragment@1"))
is_one [] = true
is_one (x ∷ []) = true
is_one (x ∷ y ∷ z ∷ p) = true

openings_pass : list_all (on_opening is_one) es ≡ true
unfolding digits
openings_pass = refl

complete : (f : Name) → stands es (reverse (content f)) ≡ true → IsIn f (map (λ (f : Fragment). f.name) sample_fragments)
complete f h =
    let p : Stack = codes "__overlay__" ∷ f ∷ [] in
    let t : (bytes_eq f (codes "fragment@0") || bytes_eq f (codes "fragment@1")) ≡ true =
    last_each (λ d. on_opening is_one d ≡ true) (λ d. opens p d || takes p d) es (opening p) (all_pass (on_opening is_one) es openings_pass) (stands_by es p h) in
    elim (or_cases (bytes_eq f (codes "fragment@0")) (bytes_eq f (codes "fragment@1")) t) [
      | inl a ↦ inl (bytes_eq-is f (codes "fragment@0") a)
      | inr b ↦ inr (inl (bytes_eq-is f (codes "fragment@1") b))
    ]

ordered : AreInOrder (λ f. age es (f ∷ [])) (λ f. o.stands (content f)) (map (λ (f : Fragment). f.name) sample_fragments)
unfolding digits age_by
ordered = record {
  sound = (refl, (refl, tt));
  complete = complete;
  sorted = ((omega arith, tt), (tt, tt));
}

soc_named : IsNodeName (codes "soc")
soc_named = record {
  not_empty = omega arith;
  short = omega arith;
  allowed = All-from_recursion (λ b. IsTrue (is_name_byte b || (b == 64))) (codes "soc") (all_pass (λ b. is_name_byte b || (b == 64)) (codes "soc") refl);
  one_at = omega arith;
  not_first = λ e. cc;
}

targets : AllByRecursion (λ (f : Fragment). HoldsTarget o f.name f.target) sample_fragments
unfolding digits
targets = (refl, ((refl, refl, (soc_named, tt)), tt))

-- the references of the event's value name what a fragment brings
abbrev NamesBrought : Event (List Part) → Type 0
NamesBrought (opening q) = Unit {0}
NamesBrought (giving l q) = Unit {0}
NamesBrought (definition q n v) = EachReference (IsContained o) (flat_map (overlay_items es) v)
NamesBrought (undefinition q n) = Unit {0}
NamesBrought (deletion q) = Unit {0}

brought : IsBrought o sample_node
brought = (record { name = codes "fragment@0"; target = at_reference (outside (codes "ext")) }, codes "c" ∷ codes "d" ∷ [], inl refl, refl)

all_brought : AllByRecursion NamesBrought es
unfolding digits
all_brought = (tt, (tt, ((tt, tt), (tt, (tt, (tt, (tt, ((brought, (tt, tt)), (tt, (tt, (tt, (tt, tt))))))))))))

contained : (p : Path) (n : Name) (items : List (Item OverlayReference)) → IsBrought o p → o.value p n ≡ Some items → EachReference (IsContained o) items
contained p n items b h =
    let m = map_some (flat_map (overlay_items es)) (value_at es (reverse p) n) items h in
    let v : List Part = m.0 in
    subst (EachReference (IsContained o)) m.2
    (last_each NamesBrought (λ d. defines (reverse p) n d || drops (reverse p) n d) es (definition (reverse p) n v) all_brought (value_by es (reverse p) n v m.1))

target_outside : (r : OverlayReference) → at_reference (outside (codes "ext")) ≡ at_reference r → IsContained o r
target_outside r e = let same : outside (codes "ext") ≡ r = cc in subst (IsContained o) same tt

targets_contained : AllByRecursion (λ (f : Fragment). (r : OverlayReference) → f.target ≡ at_reference r → IsContained o r) sample_fragments
targets_contained = (target_outside, (λ r e. cc, tt))

all_read : read_overlays (root_children None sample_overlay) overlay_start sample_overlay ≡ Ok after
unfolding digits
all_read = refl

closed : after.source.bodies ≡ []
unfolding digits
closed = refl

value : o.value sample_node (codes "r") ≡ Some (reference (inside sample_node) ∷ reference (outside (codes "ext")) ∷ [])
unfolding digits
value = refl

keyed : o.keyed sample_node ≡ true
unfolding digits
keyed = refl

pub sample_means : (o : Overlay) × IsSampleOverlay o
sample_means = (
  o,
  record {
    means = record {
      so_far = after;
      all_read = all_read;
      closed = closed;
      means = refl;
      ordered = ordered;
      targeted = λ f i. each_in (λ (f : Fragment). HoldsTarget o f.name f.target) sample_fragments f targets i;
      contained = contained;
      targets_contained = λ f r i. each_in (λ (f : Fragment). (r : OverlayReference) → f.target ≡ at_reference r → IsContained o r) sample_fragments f targets_contained i r;
    };
    fragments = refl;
    value = value;
    keyed = keyed;
  },
)
