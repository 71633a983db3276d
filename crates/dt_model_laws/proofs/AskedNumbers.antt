-- What the nodes of a named tree ask for, and the numbers that they get.
use Rattle.std.proofs.Common.{◌≡◌, ℕ, zero, suc, ◌+◌, ◌≤◌, Bool, List, [], ◌∷◌, ◌++◌, length, codes, refl, sym, ap, subst, ◌∙◌, inl, inr, Option, Some, None, option_to_list, arith}
use Rattle.std.specs.List.{flat_map}
use Rattle.std.proofs.lemmas.List.{length-map}
use Rattle.dt_model.specs.Path.{Path}
use Rattle.dt_model.specs.Lists.{IsIn}
use Rattle.dt_model.specs.Valid.{AreDistinct}
use Rattle.dt_model.specs.Numbering.{IsNumberFor, written_numbers, IsNumbering}
use Rattle.dt_model.specs.Named.{NodeReference, Content, NamedForest, no_nodes, branch, Named, NamedPlaced, value_of, number_of, written_in, node_count, preorder, nodes_of}
use Rattle.dt_model.specs.NamedOf.{IsNamed, IsContent, AreNamedNodes, asked, asked_from, contents_of, asked_in}
use Rattle.dt_model.specs.Instance.{number_at}
use Rattle.dt_model.proofs.Cases.{then_some}
use Rattle.dt_model.proofs.Tests.{in_append}
use Rattle.dt_model.proofs.Flat.{from_flat}
use Rattle.dt_model_laws.proofs.NamedListed.{AreApart, IsApart, length-nodes}
use Rattle.dt_model_laws.proofs.NumberedProperties.{number_range}
use Rattle.dt_model_laws.proofs.Places.{HasAt, at_map, numbers_given, number_given}
use Rattle.dt_model_laws.proofs.GivenNumbers.{option_in, numbers_distinct, number_small, length-written, number_for, length-numbers}

-- ---- lists of what is asked

module _ (all : List (Content NodeReference)) where
  written_asked : (k : ℕ) (cs : List (Content NodeReference)) → written_numbers (asked_from all k cs) ≡ flat_map (λ (c : Content NodeReference). option_to_list (written_in c)) cs
  written_asked k [] = refl
  written_asked k (c ∷ cs) = ap (λ ns. option_to_list (written_in c) ++ ns) (written_asked (suc k) cs)

  length-asked : (k : ℕ) (cs : List (Content NodeReference)) → length (asked_from all k cs) ≡ length cs
  length-asked k [] = refl
  length-asked k (c ∷ cs) = let l = length-asked (suc k) cs in omega (arith, l)

  asked_at : (k j i : ℕ) (c : Content NodeReference) (cs : List (Content NodeReference)) → i ≡ k + j → HasAt j c cs → HasAt j (asked all i c) (asked_from all k cs)
  asked_at k j i c [] e h = absurd h
  asked_at k zero i c (d ∷ cs) e h = let same : i ≡ k = omega arith in ap (λ a. asked all a c) same ∙ ap (asked all k) h
  asked_at k (suc j) i c (d ∷ cs) e h = asked_at (suc k) j i c cs (omega arith) h

-- ---- what nodes have

contents_below : (nodes depth : ℕ) (path : Path) (f : NamedForest NodeReference) (n : NamedPlaced NodeReference) → AreNamedNodes nodes depth f → IsIn n (preorder path f) → IsContent nodes n.content
contents_below nodes depth path no_nodes n h i = absurd i
contents_below nodes depth path (branch name content children siblings) n h (inl same) = subst (λ (x : NamedPlaced NodeReference). IsContent nodes x.content) (sym same) h.1
contents_below nodes depth path (branch name content children siblings) n h (inr i) =
    elim (in_append n (preorder (path ++ name ∷ []) children) (preorder path siblings) i) [
      | inl k ↦ contents_below nodes (suc depth) (path ++ name ∷ []) children n h.4 k
      | inr k ↦ contents_below nodes depth path siblings n h.5 k
    ]

apart_named : (nodes depth : ℕ) (f : NamedForest NodeReference) → AreNamedNodes nodes depth f → AreApart f
apart_named nodes depth no_nodes h = tt
apart_named nodes depth (branch name content children siblings) h = (h.3, apart_named nodes (suc depth) children h.4, apart_named nodes depth siblings h.5)

module _ (t : Named NodeReference) (named : IsNamed t) where
  pub named_apart : IsApart t
  named_apart = (named.siblings, apart_named (1 + node_count t.children) 1 t.children named.nodes)

  pub content_is : (n : NamedPlaced NodeReference) → IsIn n (nodes_of t) → IsContent (1 + node_count t.children) n.content
  content_is n (inl same) = subst (λ (x : NamedPlaced NodeReference). IsContent (1 + node_count t.children) x.content) (sym same) named.root
  content_is n (inr i) = contents_below (1 + node_count t.children) 1 [] t.children n named.nodes i

  -- ---- the nodes' numbers

  written_is-range : (y : ℕ) → IsIn y (written_numbers (asked_in t)) → (1 ≤ y) × (y ≤ 0xfffffffe)
  written_is-range y i =
      let w = from_flat (λ (c : Content NodeReference). option_to_list (written_in c)) (contents_of t) y (subst (IsIn y) (written_asked (contents_of t) 0 (contents_of t)) i) in
      let v = then_some number_of (value_of (w.0).properties (codes "phandle")) y (option_in (written_in w.0) y w.2) in
      number_range v.0 y v.2

  length-contents : length (contents_of t) ≡ 1 + node_count t.children
  length-contents = length-map (nodes_of t) (λ (n : NamedPlaced NodeReference). n.content) ∙ length-nodes t

  module _ (numbers : List (Option ℕ)) (given : IsNumbering (asked_in t) numbers) where
    pub length-numbered : length numbers ≡ length (nodes_of t)
    length-numbered =
        length-numbers (written_numbers (asked_in t)) (asked_in t) numbers given
        ∙ length-asked (contents_of t) 0 (contents_of t) ∙ length-map (nodes_of t) (λ (n : NamedPlaced NodeReference). n.content)

    pub distinct_numbers : AreDistinct (numbers_given numbers)
    distinct_numbers = numbers_distinct (asked_in t) numbers given (subst AreDistinct (sym (written_asked (contents_of t) 0 (contents_of t))) named.numbers)

    pub in_range : (k y : ℕ) → number_at numbers k ≡ Some y → (1 ≤ y) × (y ≤ 0xfffffffe)
    in_range k y e =
        elim (number_small (written_numbers (asked_in t)) (asked_in t) numbers y given (number_given numbers k y e)) [
          | inl w ↦ written_is-range y w
          | inr r ↦
              let low = r.0 in
              let high = r.1 in
              let few = named.few in
              let a = length-written (asked_in t) in
              let b = length-asked (contents_of t) 0 (contents_of t) in
              let c = length-contents in
              (low, omega (arith, high, few, a, b, c))
        ]

    -- a node's number is one for what the node asks for
    pub number_is : (k : ℕ) (n : NamedPlaced NodeReference) → HasAt k n (nodes_of t)
        → (before : List ℕ) × IsNumberFor before (written_in n.content) (asked (contents_of t) k n.content).keyed (number_at numbers k)
    number_is k n h =
        number_for (written_numbers (asked_in t)) (asked_in t) numbers k (asked (contents_of t) k n.content) given
        (asked_at (contents_of t) 0 k k n.content (contents_of t) (omega arith) (at_map (λ (n : NamedPlaced NodeReference). n.content) k n (nodes_of t) h))

    written_number : (before : List ℕ) (written : Option ℕ) (keyed : Bool) (number : Option ℕ) (y : ℕ) → IsNumberFor before written keyed number → written ≡ Some y → number ≡ Some y
    written_number before None keyed number y h e = absurd (let z : None ≡ Some y = e in cc)
    written_number before (Some n) keyed number y h e = h ∙ e

    pub written_is : (k : ℕ) (n : NamedPlaced NodeReference) (y : ℕ) → HasAt k n (nodes_of t) → written_in n.content ≡ Some y → number_at numbers k ≡ Some y
    written_is k n y h e = let w = number_is k n h in written_number w.0 (written_in n.content) (asked (contents_of t) k n.content).keyed (number_at numbers k) y w.1 e
