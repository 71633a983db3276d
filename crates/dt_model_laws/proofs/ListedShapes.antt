-- What the paths of a list's nodes look like, and which of them fragments bring.
use Rattle.std.proofs.Common.{◌≡◌, ℕ, zero, suc, ◌<◌, Bool, true, false, not, ◌&&◌, cond, List, [], ◌∷◌, ◌++◌, nat_eq, slice_get, unwrap_or, codes, refl, sym, ap, ◌∙◌, inl, inr, Some, None, arith}
use Rattle.std.specs.Option.{option_map_or}
use Rattle.std.specs.Str.{bytes_eq}
use Rattle.std.proofs.lemmas.Option.{slice_get_within, slice_get_cases, slice_get_past}
use Rattle.dt_model.specs.Names.{Name}
use Rattle.dt_model.specs.Path.{Path}
use Rattle.dt_model.specs.Lists.{IsIn}
use Rattle.dt_model.specs.Overlay.{content}
use Rattle.dt_model.specs.Named.{NodeReference, Named, Listed, list_of}
use Rattle.dt_model_laws.specs.OverlayChecks.{is_first, is_second, is_content, fragments_among, is_marked, is_brought, AreBrought, ListedAreBehind}
use Rattle.dt_model.proofs.Tests.{bytes_eq_refl, bytes_eq_true, and_left, and_right, and_both}
use Rattle.dt_model_laws.proofs.ListedNodes.{after_zero, path_of, path_listed, parent_listed, path_is_listed}

-- the path is that of a fragment's content, or of a node below one
abbrev pub is_below_content : Path → Bool
is_below_content [] = false
is_below_content (f ∷ []) = false
is_below_content (f ∷ x ∷ rest) = bytes_eq x (codes "__overlay__")

last_some : (p : Path) (x : Name) → (y : Name) × (rest : Path) × (p ++ x ∷ [] ≡ y ∷ rest)
last_some [] x = (x, [], refl)
last_some (y ∷ p) x = (y, p ++ x ∷ [], refl)

pub listed_are_behind : ListedAreBehind
listed_are_behind t zero n e other =
    let same : record { parent = 0; name = []; content = t.content } ≡ n = cc in
    absurd (other (ap (λ (x : Listed NodeReference). x.parent) (sym same)))
listed_are_behind t (suc i) n e other = (path_listed t i n e).0

module _ (t : Named NodeReference) where
  abbrev ns : List (Listed NodeReference)
  ns = list_of t

  -- what the path of a node looks like
  pub data IsShaped (k : ℕ) (n : Listed NodeReference) : Type 0 where
    at_root : n.parent ≡ 0 → path_of t k ≡ [] → IsShaped k n
    at_first : n.parent ≡ 0 → path_of t k ≡ n.name ∷ [] → IsShaped k n
    at_second : (f : Name) → nat_eq n.parent 0 ≡ false → is_first ns n.parent ≡ true → path_of t n.parent ≡ f ∷ [] → path_of t k ≡ f ∷ n.name ∷ [] → IsShaped k n
    deeper : (f x : Name) (rest : Path) → nat_eq n.parent 0 ≡ false → is_first ns n.parent ≡ false → n.parent < k → path_of t n.parent ≡ f ∷ x ∷ rest
        → path_of t k ≡ f ∷ x ∷ (rest ++ n.name ∷ []) → IsShaped k n

  -- the path of a node that isn't the root has a name
  some_name : (i : ℕ) (n : Listed NodeReference) → slice_get ns (suc i) ≡ Some n → (f : Name) × (rest : Path) × (path_of t (suc i) ≡ f ∷ rest)
  some_name i n e =
      let w = path_listed t i n e in
      let l = last_some (path_of t n.parent) n.name in
      (l.0, l.1, w.1 ∙ l.2)

  pub shape : (k : ℕ) (n : Listed NodeReference) → slice_get ns k ≡ Some n → IsShaped k n
  shape zero n e = at_root (let same : record { parent = 0; name = []; content = t.content } ≡ n = cc in ap (λ (x : Listed NodeReference). x.parent) (sym same)) refl
  shape (suc i) n e = by (n.parent) refl (path_listed t i n e) (parent_listed t i n e)
    where
      by : (p : ℕ) → n.parent ≡ p → (n.parent < suc i) × (path_of t (suc i) ≡ path_of t n.parent ++ n.name ∷ []) → (m : Listed NodeReference) × (slice_get ns n.parent ≡ Some m) → IsShaped (suc i) n
      by zero z w above = at_first z (w.1 ∙ ap (λ k. path_of t k ++ n.name ∷ []) z)
      by (suc j) z w above = second above.0.parent refl (path_listed t j above.0 there)
        where
          m : Listed NodeReference
          m = above.0

          there : slice_get ns (suc j) ≡ Some m
          there = ap (λ k. slice_get ns k) (sym z) ∙ above.1

          own : nat_eq n.parent 0 ≡ false
          own = ap (λ k. nat_eq k 0) z ∙ after_zero j

          second : (q : ℕ) → m.parent ≡ q → (m.parent < suc j) × (path_of t (suc j) ≡ path_of t m.parent ++ m.name ∷ []) → IsShaped (suc i) n
          second zero y v =
              let path : path_of t n.parent ≡ m.name ∷ [] = ap (path_of t) z ∙ v.1 ∙ ap (λ k. path_of t k ++ m.name ∷ []) y in
              at_second m.name own (ap (λ o. option_map_or (λ (x : Listed NodeReference). nat_eq x.parent 0) o false) above.1 ∙ ap (λ k. nat_eq k 0) y) path (w.1 ∙ ap (λ p. p ++ n.name ∷ []) path)
          second (suc l) y v =
              let o = parent_listed t j m there in
              let head = some_name l o.0 (ap (λ k. slice_get ns k) (sym y) ∙ o.1) in
              let tail = last_some head.1 m.name in
              let path : path_of t n.parent ≡ head.0 ∷ tail.0 ∷ tail.1 =
              ap (path_of t) z ∙ v.1 ∙ ap (λ k. path_of t k ++ m.name ∷ []) y ∙ ap (λ p. p ++ m.name ∷ []) head.2 ∙ ap (λ p. head.0 ∷ p) tail.2 in
              deeper head.0 tail.0 tail.1 own (ap (λ o. option_map_or (λ (x : Listed NodeReference). nat_eq x.parent 0) o false) above.1 ∙ ap (λ k. nat_eq k 0) y ∙ after_zero l) w.0 path (w.1 ∙ ap (λ p. p ++ n.name ∷ []) path)

  -- ---- contents

  -- a fragment's node by its name, and that of its content
  pub record IsContentOf (k : ℕ) (n : Listed NodeReference) (f : Name) : Type 0 where
    pub fragment : path_of t n.parent ≡ f ∷ []
    pub content : path_of t k ≡ content f

  pub content_is : (k : ℕ) (n : Listed NodeReference) → slice_get ns k ≡ Some n → is_content ns n ≡ true → (f : Name) × IsContentOf k n f
  content_is k n e h = by (shape k n e)
    where
      second : is_second ns n ≡ true
      second = and_left (is_second ns n) (bytes_eq n.name (codes "__overlay__")) h

      named : n.name ≡ codes "__overlay__"
      named = bytes_eq_true n.name (codes "__overlay__") (and_right (is_second ns n) (bytes_eq n.name (codes "__overlay__")) h)

      not_first : n.parent ≡ 0 → ⊥
      not_first z = let g : false ≡ true = ap (λ k. not (nat_eq k 0) && is_first ns k) (sym z) ∙ second in cc

      by : IsShaped k n → (f : Name) × IsContentOf k n f
      by (at_root z p) = absurd (not_first z)
      by (at_first z p) = absurd (not_first z)
      by (at_second f a b c d) = (f, record { fragment = c; content = d ∙ ap (λ x. f ∷ x ∷ []) named })
      by (deeper f x rest a b c d g) = let no : false ≡ true = sym b ∙ and_right (not (nat_eq n.parent 0)) (is_first ns n.parent) second in cc

  pub is_content_of : (k : ℕ) (n : Listed NodeReference) (f : Name) → slice_get ns k ≡ Some n → path_of t k ≡ content f → (is_content ns n ≡ true) × (path_of t n.parent ≡ f ∷ [])
  is_content_of k n f e at = by (shape k n e)
    where
      not_longer : (rest : Path) (x : Name) → rest ++ x ∷ [] ≡ [] → ⊥
      not_longer [] x z = cc
      not_longer (y ∷ rest) x z = cc

      by : IsShaped k n → (is_content ns n ≡ true) × (path_of t n.parent ≡ f ∷ [])
      by (at_root z p) = let no : [] ≡ content f = sym p ∙ at in cc
      by (at_first z p) = let no : n.name ∷ [] ≡ content f = sym p ∙ at in cc
      by (at_second g a b c d) =
          let same : g ∷ n.name ∷ [] ≡ f ∷ codes "__overlay__" ∷ [] = sym d ∙ at in
          let own : g ≡ f = cc in
          let named : n.name ≡ codes "__overlay__" = cc in (
            and_both (is_second ns n) (bytes_eq n.name (codes "__overlay__")) (and_both (not (nat_eq n.parent 0)) (is_first ns n.parent) (ap not a) b)
                (ap (λ x. bytes_eq x (codes "__overlay__")) named ∙ bytes_eq_refl (codes "__overlay__")),
            c ∙ ap (λ x. x ∷ []) own,
          )
      by (deeper g x rest a b c d p) =
          let same : g ∷ x ∷ (rest ++ n.name ∷ []) ≡ f ∷ codes "__overlay__" ∷ [] = sym p ∙ at in
          let none : rest ++ n.name ∷ [] ≡ [] = cc in
          absurd (not_longer rest n.name none)

  -- ---- the fragments of the list

  among_from : (all ms : List (Listed NodeReference)) (k : ℕ) → IsIn k (fragments_among all ms) → (n : Listed NodeReference) × IsIn n ms × (is_content all n ≡ true) × (k ≡ n.parent)
  among_from all [] k i = absurd i
  among_from all (n ∷ ms) k i = by (λ j. among_from all ms k j) (is_content all n) refl i
    where
      by : (IsIn k (fragments_among all ms) → (m : Listed NodeReference) × IsIn m ms × (is_content all m ≡ true) × (k ≡ m.parent))
          → (b : Bool) → is_content all n ≡ b → IsIn k (cond b (n.parent ∷ fragments_among all ms) (fragments_among all ms))
          → (m : Listed NodeReference) × IsIn m (n ∷ ms) × (is_content all m ≡ true) × (k ≡ m.parent)
      by more true h (inl same) = (n, inl refl, h, same)
      by more true h (inr j) = let w = more j in (w.0, inr w.1, w.2, w.3)
      by more false h j = let w = more j in (w.0, inr w.1, w.2, w.3)

  among : (all ms : List (Listed NodeReference)) (n : Listed NodeReference) → IsIn n ms → is_content all n ≡ true → IsIn n.parent (fragments_among all ms)
  among all [] n i h = absurd i
  among all (m ∷ ms) n (inl same) h = rw (ap (is_content all) (sym same) ∙ h) (inl (ap (λ (x : Listed NodeReference). x.parent) same))
  among all (m ∷ ms) n (inr i) h = by (is_content all m) (among all ms n i h)
    where
      by : (b : Bool) → IsIn n.parent (fragments_among all ms) → IsIn n.parent (cond b (m.parent ∷ fragments_among all ms) (fragments_among all ms))
      by true j = inr j
      by false j = j

  in_got : (ms : List (Listed NodeReference)) (n : Listed NodeReference) → IsIn n ms → (i : ℕ) × (slice_get ms i ≡ Some n)
  in_got [] n i = absurd i
  in_got (m ∷ ms) n (inl same) = (0, ap Some (sym same))
  in_got (m ∷ ms) n (inr i) = let w = in_got ms n i in (suc w.0, w.1)

  got_in : (ms : List (Listed NodeReference)) (i : ℕ) (n : Listed NodeReference) → slice_get ms i ≡ Some n → IsIn n ms
  got_in [] i n e = absurd (let z : None ≡ Some n = e in cc)
  got_in (m ∷ ms) zero n e = let same : m ≡ n = cc in inl (sym same)
  got_in (m ∷ ms) (suc i) n e = inr (got_in ms i n e)

  -- the number is of a fragment's node, whose content is a node of the list
  pub record IsFragment (k : ℕ) (f : Name) : Type 0 where
    pub number : ℕ
    pub node : Listed NodeReference
    pub there : slice_get ns number ≡ Some node
    pub parent : k ≡ node.parent
    pub path : path_of t k ≡ f ∷ []
    pub content : path_of t number ≡ content f
    pub own : Listed NodeReference
    pub own_there : slice_get ns k ≡ Some own

  pub fragment_is : (k : ℕ) → IsIn k (fragments_among ns ns) → (f : Name) × IsFragment k f
  fragment_is k i =
      let w = among_from ns ns k i in
      let at = in_got ns w.0 w.1 in
      let c = content_is at.0 w.0 at.1 w.2 in
      let path : path_of t k ≡ c.0 ∷ [] = ap (path_of t) w.3 ∙ c.1.fragment in
      let own = path_is_listed t k c.0 [] path in
      (c.0, record { number = at.0; node = w.0; there = at.1; parent = w.3; path = path; content = c.1.content; own = own.0; own_there = own.1 })

  pub is_fragment : (k : ℕ) (n : Listed NodeReference) (f : Name) → slice_get ns k ≡ Some n → path_of t k ≡ content f → IsIn n.parent (fragments_among ns ns) × (path_of t n.parent ≡ f ∷ [])
  is_fragment k n f e at = let w = is_content_of k n f e at in (among ns ns n (got_in ns k n e) w.0, w.1)

  -- ---- what they bring

  module _ (marks : List Bool) (b : AreBrought ns marks) where
    brought_upto : (fuel k : ℕ) (n : Listed NodeReference) → k < fuel → slice_get ns k ≡ Some n → is_marked marks k ≡ is_below_content (path_of t k)
    brought_upto zero k n lt e = absurd (omega arith)
    brought_upto (suc fuel) k n lt e = b.each k n e ∙ by (λ j m l h. brought_upto fuel j m l h) (shape k n e)
      where
        by : ((j : ℕ) (m : Listed NodeReference) → j < fuel → slice_get ns j ≡ Some m → is_marked marks j ≡ is_below_content (path_of t j)) → IsShaped k n
            → is_brought ns marks n ≡ is_below_content (path_of t k)
        by more (at_root z p) = ap (λ j. cond (nat_eq j 0) false (cond (is_first ns j) (bytes_eq n.name (codes "__overlay__")) (is_marked marks j))) z ∙ ap is_below_content (sym p)
        by more (at_first z p) = ap (λ j. cond (nat_eq j 0) false (cond (is_first ns j) (bytes_eq n.name (codes "__overlay__")) (is_marked marks j))) z ∙ ap is_below_content (sym p)
        by more (at_second f a c d p) =
            ap (λ x. cond x false (cond (is_first ns n.parent) (bytes_eq n.name (codes "__overlay__")) (is_marked marks n.parent))) a
            ∙ ap (λ x. cond x (bytes_eq n.name (codes "__overlay__")) (is_marked marks n.parent)) c ∙ ap is_below_content (sym p)
        by more (deeper f x rest a c low d p) =
            let m = slice_get_cases ns n.parent in
            let here = slice_get_within ns k n e in
            let below : is_marked marks n.parent ≡ is_below_content (path_of t n.parent) =
            elim m.1 [
              | inl there ↦ more n.parent there.0 (omega (arith, low, lt)) there.2
              | inr past ↦ absurd (omega (arith, low, here, past.0))
            ] in
            ap (λ x. cond x false (cond (is_first ns n.parent) (bytes_eq n.name (codes "__overlay__")) (is_marked marks n.parent))) a
            ∙ ap (λ x. cond x (bytes_eq n.name (codes "__overlay__")) (is_marked marks n.parent)) c ∙ below ∙ ap is_below_content d ∙ ap is_below_content (sym p)

    -- those nodes are marked whose paths begin as those of contents
    pub marked_is : (k : ℕ) (n : Listed NodeReference) → slice_get ns k ≡ Some n → is_marked marks k ≡ is_below_content (path_of t k)
    marked_is k n e = brought_upto (suc k) k n (omega arith) e

    -- a marked number is a node's
    pub marked_there : (k : ℕ) → is_marked marks k ≡ true → (n : Listed NodeReference) × (slice_get ns k ≡ Some n)
    marked_there k h = elim (slice_get_cases ns k).1 [
      | inl there ↦ (there.0, there.2)
      | inr past ↦ let no : false ≡ true = ap (λ o. unwrap_or o false) (sym (slice_get_past marks k (omega (arith, b.size, past.0)))) ∙ h in cc
    ]
