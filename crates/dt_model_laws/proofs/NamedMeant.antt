-- A tree that a base's places mean is one that a source may mean.
use Rattle.std.proofs.Common.{◌≡◌, ℕ, true, List, reverse, codes, is_some, IsSome, sym, ap, subst, ◌∙◌, Some}
use Rattle.std.specs.Prelude.{option_and_then}
use Rattle.std.specs.List.{AllByRecursion}
use Rattle.dt_model.specs.Limits.{most_nodes}
use Rattle.dt_model.specs.Names.{Name}
use Rattle.dt_model.specs.Path.{Path}
use Rattle.dt_model.specs.Meaning.{Item, AreBytes}
use Rattle.dt_model.specs.Source.{Place, Mode, Events, number_of_parts, written_number}
use Rattle.dt_model.specs.Valid.{IsReservation}
use Rattle.dt_model.specs.Overlay.{OverlayReference, inside}
use Rattle.dt_model.specs.Named.{NodeReference, Named, number_of}
use Rattle.dt_model.specs.NamedOf.{bound_values, IsNamedOf}
use Rattle.dt_model_laws.specs.NamedTrees.{MeantIsNamed, ManyStand}
use Rattle.dt_model_laws.proofs.Bound.{named_rules, all_bound_bytes}
use Rattle.dt_model_laws.proofs.Holding.{Holds, node_follows, label_follows, value_follows, referent_stands}
use Rattle.dt_model_laws.proofs.Depths.{nodes_are_shallow}
use Rattle.dt_model_laws.proofs.Meanings.{no_twice}
use Rattle.dt_model_laws.proofs.NamedValues.{renamed_too}
use Rattle.dt_model_laws.proofs.NamedSources.{number_in, bound_parts, number_bound, events, holds}
use Rattle.dt_model_laws.proofs.NamedByEvents.{AreNamable, is_named, stand_many}

module _ (mode : Mode) (reservations : List (ℕ × ℕ)) (places : List Place) (t : Named NodeReference) (n : IsNamedOf mode reservations places t) (h : Holds named_rules n.means.so_far) where
  abbrev es : Events
  es = events mode reservations places t n

  bytes_ok : (p : Path) (x : Name) (items : List (Item OverlayReference)) → bound_values es p x ≡ Some items → AreBytes items
  bytes_ok p x items e =
      let w = bound_parts es p x items e in
      let follows = value_follows named_rules es (reverse p) x w.0 h.each w.1 in
      let plain = all_bound_bytes es (λ r q k. node_follows named_rules es q h.each (referent_stands es h.sound r q k)) w.0 w.2.items follows.1 w.2.bound in
      subst AreBytes w.2.same (renamed_too inside w.2.items plain)

  number_same : (p : Path) → number_in (bound_values es) p ≡ written_number es (reverse p)
  number_same p = number_bound es n.means.resolved p

  numbered : (p : Path) (items : List (Item OverlayReference)) → bound_values es p (codes "phandle") ≡ Some items → IsSome (number_of items)
  numbered p items e =
      let w = bound_parts es p (codes "phandle") items e in
      let there : is_some (written_number es (reverse p)) ≡ true = ap (λ o. is_some (option_and_then number_of_parts o)) w.1 ∙ n.means.resolved.numbered (reverse p) w.0 w.1 in
      ap (λ o. is_some (option_and_then number_of o)) (sym e) ∙ ap is_some (number_same p) ∙ there

  namable : AreNamable es (bound_values es)
  namable = record {
    shallow = nodes_are_shallow mode places n.means.so_far n.means.all_read;
    nodes = λ p k. node_follows named_rules es p h.each k;
    labels = λ l p k. label_follows named_rules es l p h.each k;
    one = h.sound.one;
    properties = λ p x v k. (value_follows named_rules es p x v h.each k).0;
    bytes = bytes_ok;
    numbered = numbered;
    own = λ p q k a b. no_twice p q (n.means.resolved.own (reverse p) (reverse q) k (sym (number_same p) ∙ a) (sym (number_same q) ∙ b));
  }

pub meant_is_named : MeantIsNamed
meant_is_named mode reservations places t some valid reserved few n =
    let h = holds mode reservations places t n some valid in
    is_named (events mode reservations places t n) (bound_values (events mode reservations places t n)) t n.tree (namable mode reservations places t n h)
    (subst (AllByRecursion IsReservation) (sym n.same_reservations) reserved) few

pub many_stand : ManyStand
many_stand mode reservations places t many n =
    stand_many (events mode reservations places t n) (bound_values (events mode reservations places t n)) t n.tree most_nodes many
