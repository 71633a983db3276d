-- The fragments of a list stand in the order of the root's children.
use Rattle.std.proofs.Common.{◌≡◌, ◌≢◌, ℕ, zero, suc, ◌+◌, ◌<◌, Bool, true, false, not, ◌&&◌, cond, List, [], ◌∷◌, ◌++◌, map, length, length-append, nat_eq, slice_get, codes, refl, sym, ap, subst, ◌∙◌, ◌⊎◌, inl, inr, Some, append_assoc, arith}
use Rattle.std.specs.List.{AllByRecursion}
use Rattle.std.specs.Option.{option_map_or}
use Rattle.std.specs.Str.{bytes_eq}
use Rattle.dt_model.specs.Names.{Name}
use Rattle.dt_model.specs.Path.{Path}
use Rattle.dt_model.specs.Lists.{IsIn, FallBy}
use Rattle.dt_model.specs.Valid.{AreDistinct}
use Rattle.dt_model.specs.Named.{NodeReference, NamedForest, no_nodes, branch, Content, Named, Listed, names, node_count, listed, list_of}
use Rattle.dt_model_laws.specs.OverlayChecks.{is_first, is_content, fragments_among}
use Rattle.dt_model.proofs.Tests.{bytes_eq_true, bytes_eq_other, each_in}
use Rattle.dt_model.proofs.Cases.{all_map}
use Rattle.dt_model_laws.proofs.NamedListed.{AreApart, IsApart}
use Rattle.dt_model_laws.proofs.ListedNodes.{after_zero, path_of, path_listed}

abbrev pub first_name : Path → Name
first_name [] = []
first_name (x ∷ p) = x

length-listed : (number parent : ℕ) (f : NamedForest NodeReference) → length (listed number parent f) ≡ node_count f
length-listed number parent no_nodes = refl
length-listed number parent (branch name content children siblings) =
    let a = length-listed (suc number) number children in
    let b = length-listed (suc number + node_count children) parent siblings in
    let c = length-append (listed (suc number) number children) (listed (suc number + node_count children) parent siblings) in
    omega (arith, a, b, c)

got_behind : (before after : List (Listed NodeReference)) (m : Listed NodeReference) → slice_get (before ++ m ∷ after) (length before) ≡ Some m
got_behind [] after m = refl
got_behind (x ∷ before) after m = got_behind before after m

among_append : (all xs ys : List (Listed NodeReference)) → fragments_among all (xs ++ ys) ≡ fragments_among all xs ++ fragments_among all ys
among_append all [] ys = refl
among_append all (x ∷ xs) ys = by (is_content all x) (among_append all xs ys)
  where
    by : (b : Bool) → fragments_among all (xs ++ ys) ≡ fragments_among all xs ++ fragments_among all ys
        → cond b (x.parent ∷ fragments_among all (xs ++ ys)) (fragments_among all (xs ++ ys)) ≡ cond b (x.parent ∷ fragments_among all xs) (fragments_among all xs) ++ fragments_among all ys
    by true e = ap (λ z. x.parent ∷ z) e
    by false e = e

module _ (t : Named NodeReference) where
  abbrev ns : List (Listed NodeReference)
  ns = list_of t

  -- these stand in the list from a number on
  record IsPart (number : ℕ) (xs : List (Listed NodeReference)) : Type 0 where
    before : List (Listed NodeReference)
    after : List (Listed NodeReference)
    whole : ns ≡ before ++ (xs ++ after)
    size : length before ≡ number

  record AreParts (number parent : ℕ) (name : Name) (content : Content NodeReference) (children siblings : NamedForest NodeReference) : Type 0 where
    here : slice_get ns number ≡ Some (record { parent = parent; name = name; content = content })
    inner : IsPart (suc number) (listed (suc number) number children)
    outer : IsPart (suc number + node_count children) (listed (suc number + node_count children) parent siblings)

  parts : (number parent : ℕ) (name : Name) (content : Content NodeReference) (children siblings : NamedForest NodeReference)
      → IsPart number (listed number parent (branch name content children siblings)) → AreParts number parent name content children siblings
  parts number parent name content children siblings p = record {
    here = ap (λ z. slice_get z number) p.whole ∙ ap (slice_get (p.before ++ head ∷ ((inner ++ outer) ++ p.after))) (sym p.size) ∙ got_behind p.before ((inner ++ outer) ++ p.after) head;
    inner = record { before = before1; after = outer ++ p.after; whole = split1; size = omega (arith, p.size, length-append p.before (head ∷ [])) };
    outer = record {
      before = before1 ++ inner;
      after = p.after;
      whole = split1 ∙ sym (append_assoc before1 inner (outer ++ p.after));
      size = omega (arith, p.size, length-append p.before (head ∷ []), length-append before1 inner, length-listed (suc number) number children);
    };
  }
    where
      head : Listed NodeReference
      head = record { parent = parent; name = name; content = content }

      inner : List (Listed NodeReference)
      inner = listed (suc number) number children

      outer : List (Listed NodeReference)
      outer = listed (suc number + node_count children) parent siblings

      before1 : List (Listed NodeReference)
      before1 = p.before ++ head ∷ []

      split1 : ns ≡ before1 ++ (inner ++ (outer ++ p.after))
      split1 = p.whole ∙ ap (λ z. p.before ++ head ∷ z) (append_assoc inner outer p.after) ∙ sym (append_assoc p.before (head ∷ []) (inner ++ (outer ++ p.after)))

  is_first_at : (k : ℕ) (m : Listed NodeReference) → slice_get ns k ≡ Some m → is_first ns k ≡ nat_eq m.parent 0
  is_first_at k m e = ap (λ o. option_map_or (λ (x : Listed NodeReference). nat_eq x.parent 0) o false) e

  -- the nodes below are no contents
  none_deeper : (number parent : ℕ) (f : NamedForest NodeReference) → nat_eq parent 0 ≡ false → is_first ns parent ≡ false → IsPart number (listed number parent f)
      → fragments_among ns (listed number parent f) ≡ []
  none_deeper number parent no_nodes some deep p = refl
  none_deeper number parent (branch name content children siblings) some deep p =
      ap (λ b. cond ((not (nat_eq parent 0) && b) && bytes_eq name (codes "__overlay__")) (parent ∷ rest) rest) deep
      ∙ ap (λ b. cond (b && bytes_eq name (codes "__overlay__")) (parent ∷ rest) rest) (no (not (nat_eq parent 0)))
      ∙ among_append ns (listed (suc number) number children) (listed (suc number + node_count children) parent siblings)
      ∙ (λ i. (none_deeper (suc number) number children own (is_first_at number (record { parent = parent; name = name; content = content }) w.here ∙ some) w.inner) i
      ++ (none_deeper (suc number + node_count children) parent siblings some deep w.outer) i)
    where
      w : AreParts number parent name content children siblings
      w = parts number parent name content children siblings p

      rest : List ℕ
      rest = fragments_among ns (listed (suc number) number children ++ listed (suc number + node_count children) parent siblings)

      no : (b : Bool) → (b && false) ≡ false
      no true = refl
      no false = refl

      own : nat_eq number 0 ≡ false
      own = by number refl
        where
          by : (k : ℕ) → number ≡ k → nat_eq number 0 ≡ false
          by zero z =
              let there : is_first ns 0 ≡ nat_eq parent 0 = ap (is_first ns) (sym z) ∙ is_first_at number (record { parent = parent; name = name; content = content }) w.here in
              let no : true ≡ false = there ∙ some in
              cc
          by (suc k) z = ap (λ j. nat_eq j 0) z ∙ after_zero k

  second_rest : (number parent : ℕ) (name : Name) (content : Content NodeReference) (children siblings : NamedForest NodeReference) → nat_eq parent 0 ≡ false
      → AreParts number parent name content children siblings
      → fragments_among ns (listed (suc number) number children ++ listed (suc number + node_count children) parent siblings)
      ≡ fragments_among ns (listed (suc number + node_count children) parent siblings)
  second_rest number parent name content children siblings some w =
      among_append ns (listed (suc number) number children) (listed (suc number + node_count children) parent siblings)
      ∙ ap (λ z. z ++ fragments_among ns (listed (suc number + node_count children) parent siblings))
      (none_deeper (suc number) number children own (is_first_at number (record { parent = parent; name = name; content = content }) w.here ∙ some) w.inner)
    where
      own : nat_eq number 0 ≡ false
      own = by number refl
        where
          by : (k : ℕ) → number ≡ k → nat_eq number 0 ≡ false
          by zero z =
              let there : is_first ns 0 ≡ nat_eq parent 0 = ap (is_first ns) (sym z) ∙ is_first_at number (record { parent = parent; name = name; content = content }) w.here in
              let no : true ≡ false = there ∙ some in
              cc
          by (suc k) z = ap (λ j. nat_eq j 0) z ∙ after_zero k

  -- whether a child of a child of the root is a content is told by its name
  second_head : (parent : ℕ) (name : Name) (content : Content NodeReference) (b : Bool) → nat_eq parent 0 ≡ false → is_first ns parent ≡ true → bytes_eq name (codes "__overlay__") ≡ b
      → is_content ns (record { parent = parent; name = name; content = content }) ≡ b
  second_head parent name content b some first e =
      ap (λ x. (not x && is_first ns parent) && bytes_eq name (codes "__overlay__")) some ∙ ap (λ x. x && bytes_eq name (codes "__overlay__")) first ∙ e

  -- none is one where none has the name
  no_second : (number parent : ℕ) (f : NamedForest NodeReference) → nat_eq parent 0 ≡ false → is_first ns parent ≡ true → AllByRecursion (λ x. x ≢ codes "__overlay__") (names f)
      → IsPart number (listed number parent f) → fragments_among ns (listed number parent f) ≡ []
  no_second number parent no_nodes some first other p = refl
  no_second number parent (branch name content children siblings) some first other p =
      let w = parts number parent name content children siblings p in
      let rest = fragments_among ns (listed (suc number) number children ++ listed (suc number + node_count children) parent siblings) in
      ap (λ b. cond b (parent ∷ rest) rest) (second_head parent name content false some first (bytes_eq_other name (codes "__overlay__") other.0))
      ∙ second_rest number parent name content children siblings some w
      ∙ no_second (suc number + node_count children) parent siblings some first other.1 w.outer

  -- one of them at most is one
  one_second : (number parent : ℕ) (f : NamedForest NodeReference) → nat_eq parent 0 ≡ false → is_first ns parent ≡ true → AreDistinct (names f)
      → IsPart number (listed number parent f) → (fragments_among ns (listed number parent f) ≡ []) ⊎ (fragments_among ns (listed number parent f) ≡ parent ∷ [])
  one_second number parent no_nodes some first distinct p = inl refl
  one_second number parent (branch name content children siblings) some first distinct p =
      by (λ q. one_second (suc number + node_count children) parent siblings some first distinct.1 q) (bytes_eq name (codes "__overlay__")) refl
    where
      w : AreParts number parent name content children siblings
      w = parts number parent name content children siblings p

      rest : List ℕ
      rest = fragments_among ns (listed (suc number) number children ++ listed (suc number + node_count children) parent siblings)

      last : List ℕ
      last = fragments_among ns (listed (suc number + node_count children) parent siblings)

      others : fragments_among ns (listed number parent (branch name content children siblings)) ≡ rest → (last ≡ []) ⊎ (last ≡ parent ∷ [])
          → (fragments_among ns (listed number parent (branch name content children siblings)) ≡ []) ⊎ (fragments_among ns (listed number parent (branch name content children siblings)) ≡ parent ∷ [])
      others e (inl none) = inl (e ∙ second_rest number parent name content children siblings some w ∙ none)
      others e (inr one) = inr (e ∙ second_rest number parent name content children siblings some w ∙ one)

      by : (IsPart (suc number + node_count children) (listed (suc number + node_count children) parent siblings) → (last ≡ []) ⊎ (last ≡ parent ∷ [])) → (b : Bool)
          → bytes_eq name (codes "__overlay__") ≡ b
          → (fragments_among ns (listed number parent (branch name content children siblings)) ≡ []) ⊎ (fragments_among ns (listed number parent (branch name content children siblings)) ≡ parent ∷ [])
      by more true e =
          let same : name ≡ codes "__overlay__" = bytes_eq_true name (codes "__overlay__") e in
          inr (
          ap (λ b. cond b (parent ∷ rest) rest) (second_head parent name content true some first e)
          ∙ ap (λ z. parent ∷ z) (
          second_rest number parent name content children siblings some w
          ∙ no_second (suc number + node_count children) parent siblings some first (subst (λ y. AllByRecursion (λ x. x ≢ y) (names siblings)) same distinct.0) w.outer)
          )
      by more false e = others (ap (λ b. cond b (parent ∷ rest) rest) (second_head parent name content false some first e)) (more w.outer)

  abbrev name_at : ℕ → Name
  name_at k = first_name (path_of t k)

  -- the names of the fragments are among those of the root's children, and fall as they do
  record Fall (age : Name → ℕ) (xs : List Name) (ks : List ℕ) : Type 0 where
    named : AllByRecursion (λ x. IsIn x xs) (map name_at ks)
    sorted : FallBy age (map name_at ks)

  fall : (age : Name → ℕ) (number i : ℕ) (f : NamedForest NodeReference) → number ≡ suc i → FallBy age (names f) → AreApart f → IsPart number (listed number 0 f)
      → Fall age (names f) (fragments_among ns (listed number 0 f))
  fall age number i no_nodes e falls apart p = record { named = tt; sorted = tt }
  fall age number i (branch name content children siblings) e falls apart p =
      subst (Fall age (name ∷ names siblings)) (sym (among_append ns (listed (suc number) number children) (listed j 0 siblings)))
      (by (one_second (suc number) number children (ap (λ k. nat_eq k 0) e ∙ after_zero i) (is_first_at number head w.here) apart.0 w.inner)
      (fall age j (number + node_count children) siblings (omega arith) falls.1 apart.2 w.outer))
    where
      j : ℕ
      j = suc number + node_count children

      head : Listed NodeReference
      head = record { parent = 0; name = name; content = content }

      w : AreParts number 0 name content children siblings
      w = parts number 0 name content children siblings p

      inner : List ℕ
      inner = fragments_among ns (listed (suc number) number children)

      outer : List ℕ
      outer = fragments_among ns (listed j 0 siblings)

      own : name_at number ≡ name
      own = ap name_at e ∙ ap first_name (path_listed t i head (ap (λ k. slice_get ns k) (sym e) ∙ w.here)).1

      wider : AllByRecursion (λ x. IsIn x (names siblings)) (map name_at outer) → AllByRecursion (λ x. IsIn x (name ∷ names siblings)) (map name_at outer)
      wider h = all_map (λ x. IsIn x (names siblings)) (λ x. IsIn x (name ∷ names siblings)) (λ x k. inr k) (map name_at outer) h

      by : (inner ≡ []) ⊎ (inner ≡ number ∷ []) → Fall age (names siblings) outer → Fall age (name ∷ names siblings) (inner ++ outer)
      by (inl none) h = subst (λ z. Fall age (name ∷ names siblings) (z ++ outer)) (sym none) (record { named = wider h.named; sorted = h.sorted })
      by (inr one) h = subst (λ z. Fall age (name ∷ names siblings) (z ++ outer)) (sym one) (record {
        named = (inl own, wider h.named);
        sorted = (
          all_map (λ x. IsIn x (names siblings)) (λ y. age y < age (name_at number))
              (λ x k. subst (λ z. age x < age z) (sym own) (each_in (λ y. age y < age name) (names siblings) x falls.0 k)) (map name_at outer) h.named,
          h.sorted,
        );
      })

  pub fragments_fall : (age : Name → ℕ) → FallBy age (names t.children) → IsApart t → FallBy age (map name_at (fragments_among ns ns))
  fragments_fall age falls apart = (fall age 1 0 t.children refl falls apart.1 (record {
    before = record { parent = 0; name = []; content = t.content } ∷ [];
    after = [];
    whole = ap (λ z. record { parent = 0; name = []; content = t.content } ∷ z) (sym (append-nothing (listed 1 0 t.children)));
    size = refl;
  })).sorted
    where
      append-nothing : (xs : List (Listed NodeReference)) → xs ++ [] ≡ xs
      append-nothing [] = refl
      append-nothing (x ∷ xs) = ap (λ z. x ∷ z) (append-nothing xs)
