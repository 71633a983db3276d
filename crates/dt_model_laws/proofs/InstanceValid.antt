-- A blob may hold the instance of a named tree, and its phandles differ also as numbers.
use Rattle.std.proofs.Common.{◌≡◌, ◌≢◌, ℕ, ◌+◌, List, [], ◌∷◌, map, refl, sym, ap, subst, ◌∙◌, inl, inr, Option, Some, None, option_to_list, arith}
use Rattle.std.specs.List.{AllByRecursion, flat_map}
use Rattle.std.specs.Option.{option_map}
use Rattle.std.specs.Int.{w32, from_be_bytes}
use Rattle.dt_model.specs.Lists.{IsIn}
use Rattle.dt_model.specs.Meaning.{cell}
use Rattle.dt_model.specs.Tree as tree
use Rattle.dt_model.specs.Tree.{Reading, Placed}
use Rattle.dt_model.specs.Valid.{AreDistinct, IsPhandle, IsValid}
use Rattle.dt_model.specs.Numbering.{IsNumbering}
use Rattle.dt_model.specs.Named.{NodeReference, Named, NamedPlaced, node_count, nodes_of}
use Rattle.dt_model.specs.NamedOf.{IsNamed, asked_in}
use Rattle.dt_model.specs.Instance.{number_at, instance_of}
use Rattle.dt_model_laws.specs.NamedTrees.{InstanceIsValid}
use Rattle.dt_model.proofs.Tests.{each_from, in_map, in_map_from}
use Rattle.dt_model.proofs.Distinct.{not_twice}
use Rattle.dt_model.proofs.Flat.{from_flat, map_flat, distinct_flat}
use Rattle.dt_model_laws.proofs.NamedPaths.{paths_distinct}
use Rattle.dt_model.proofs.Preorder.{phandle_list, all_phandles}
use Rattle.dt_model_laws.proofs.Places.{HasAt, at_in, same_at, one_place}
use Rattle.dt_model_laws.proofs.AskedNumbers.{named_apart, content_is, distinct_numbers, in_range, written_is}
use Rattle.dt_model_laws.proofs.NumberedProperties.{are_properties, are_phandles, cell_back, cell_phandle}
use Rattle.dt_model_laws.proofs.NumberedTrees.{instance_node, node_from, names_same, count_same, nodes_valid, no_deeper, paths_numbered}

-- elements that differ under a function differ
distinct_images : {X Y : Type 0} (f : X → Y) (xs : List X) → AreDistinct (map f xs) → AreDistinct xs
distinct_images f [] d = tt
distinct_images f (x ∷ xs) d = (each_from (λ y. y ≢ x) xs (λ y i e. not_twice (f x) (map f xs) d (subst (λ z. IsIn z (map f xs)) (ap f e) (in_map f xs y i))), distinct_images f xs d.1)

cell_in : (o : Option ℕ) (v : List ℕ) → IsIn v (option_to_list (option_map cell o)) → (y : ℕ) × (o ≡ Some y) × (v ≡ cell y)
cell_in None v i = absurd i
cell_in (Some y) v (inl same) = (y, refl, same)
cell_in (Some y) v (inr i) = absurd i

one_cell : (o : Option ℕ) → AreDistinct (map (from_be_bytes w32) (option_to_list (option_map cell o)))
one_cell None = tt
one_cell (Some y) = (tt, tt)

module _ (t : Named NodeReference) (numbers : List (Option ℕ)) (named : IsNamed t) (given : IsNumbering (asked_in t) numbers) where
  abbrev instance : Reading
  instance = instance_of numbers t

  -- the phandle of a node is its number
  phandle_is : (k : ℕ) (n : NamedPlaced NodeReference) → HasAt k n (nodes_of t) → phandle_list (instance_node numbers k n) ≡ option_to_list (option_map cell (number_at numbers k))
  phandle_is k n h =
      are_phandles numbers k n.content (1 + node_count t.children) (content_is t named n (at_in k n (nodes_of t) h)) (λ y e. written_is t named numbers given k n y h e)

  -- a phandle among those of all nodes
  record HasPhandle (m : Placed) (v : List ℕ) : Type 0 where
    place : ℕ
    node : NamedPlaced NodeReference
    at : HasAt place node (nodes_of t)
    path : m.path ≡ node.path
    number : ℕ
    has : number_at numbers place ≡ Some number
    value : v ≡ cell number

  has_phandle : (m : Placed) (v : List ℕ) → IsIn m (tree.nodes_of instance) → IsIn v (phandle_list m) → HasPhandle m v
  has_phandle m v i j =
      let w = node_from numbers t m i in
      let c = cell_in (number_at numbers w.0) v (subst (IsIn v) (ap phandle_list w.3 ∙ phandle_is w.0 w.1 w.2) j) in
      record { place = w.0; node = w.1; at = w.2; path = ap (λ (x : Placed). x.path) w.3; number = c.0; has = c.1; value = c.2 }

  valid_phandles : AllByRecursion IsPhandle (flat_map phandle_list (tree.nodes_of instance))
  valid_phandles =
      each_from IsPhandle (flat_map phandle_list (tree.nodes_of instance))
      (λ v i.
      let w = from_flat phandle_list (tree.nodes_of instance) v i in
      let h = has_phandle w.0 v w.1 w.2 in
      let r = in_range t named numbers given h.place h.number h.has in
      subst IsPhandle (sym h.value) (cell_phandle h.number r.0 r.1))

  -- a number that is a node's phandle
  number_back : (m : Placed) (y : ℕ) → IsIn m (tree.nodes_of instance) → IsIn y (map (from_be_bytes w32) (phandle_list m)) → (k : ℕ) × (n : NamedPlaced NodeReference) × HasAt k n (nodes_of t) × (m.path ≡ n.path) × (number_at numbers k ≡ Some y)
  number_back m y i j =
      let w = in_map_from (from_be_bytes w32) (phandle_list m) y j in
      let h = has_phandle m w.0 i w.1 in
      let r = in_range t named numbers given h.place h.number h.has in
      let same : y ≡ h.number = w.2 ∙ ap (from_be_bytes w32) h.value ∙ cell_back h.number r.1 in
      (h.place, h.node, h.at, h.path, h.has ∙ ap Some (sym same))

  distinct_values : AreDistinct (map (from_be_bytes w32) (flat_map phandle_list (tree.nodes_of instance)))
  distinct_values =
      subst AreDistinct (sym (map_flat (from_be_bytes w32) phandle_list (tree.nodes_of instance)))
      (distinct_flat (λ (m : Placed). m.path) (λ m. map (from_be_bytes w32) (phandle_list m)) (tree.nodes_of instance)
      (subst AreDistinct (sym (paths_numbered numbers t)) (paths_distinct t (named_apart t named)))
      (λ m i. let w = node_from numbers t m i in subst (λ vs. AreDistinct (map (from_be_bytes w32) vs)) (sym (ap phandle_list w.3 ∙ phandle_is w.0 w.1 w.2)) (one_cell (number_at numbers w.0)))
      (λ m m' y i i' j j'.
      let a = number_back m y i j in
      let b = number_back m' y i' j' in
      let same : a.0 ≡ b.0 = one_place numbers a.0 b.0 y (distinct_numbers t named numbers given) a.4 b.4 in
      let node : a.1 ≡ b.1 = same_at b.0 a.1 b.1 (nodes_of t) (subst (λ k. HasAt k a.1 (nodes_of t)) same a.2) b.2 in
      a.3 ∙ ap (λ (n : NamedPlaced NodeReference). n.path) node ∙ sym b.3))

  pub valid : IsValid instance
  valid = record {
    boot_cpu = omega arith;
    reservations = named.reservations;
    properties = are_properties numbers 0 t.content (1 + node_count t.children) named.root;
    nodes = nodes_valid numbers (1 + node_count t.children) 1 1 t.children named.nodes;
    siblings = subst AreDistinct (sym (names_same numbers 1 t.children)) named.siblings;
    phandles_valid = subst (AllByRecursion IsPhandle) (all_phandles instance) valid_phandles;
    phandles_distinct = subst AreDistinct (all_phandles instance) (distinct_images (from_be_bytes w32) (flat_map phandle_list (tree.nodes_of instance)) distinct_values);
  }

pub instance_is_valid : InstanceIsValid
instance_is_valid t numbers named given =
    let few = named.few in
    let count = count_same numbers 1 t.children in (
      valid t numbers named given,
      record { count = omega (arith, few, count); depth = no_deeper numbers (1 + node_count t.children) 1 1 1 t.children refl named.nodes },
      subst (λ vs. AreDistinct (map (from_be_bytes w32) vs)) (all_phandles (instance_of numbers t)) (distinct_values t numbers named given),
    )
