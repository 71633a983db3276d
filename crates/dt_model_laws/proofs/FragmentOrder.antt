-- The fragments among the children of an object's root are the overlay's, in its order.
use Rattle.std.proofs.Common.{◌≡◌, ◌≢◌, ℕ, ◌<◌, Bool, true, false, not, ◌∷◌, map, codes, is_some, refl, sym, ap, subst, ◌∙◌, inl, inr, Option, Some, None, true≢false}
use Rattle.std.specs.Prelude.{option_and_then, if◌then◌else◌}
use Rattle.std.specs.List.{AllByRecursion}
use Rattle.std.specs.Str.{bytes_eq}
use Rattle.dt_model.specs.Names.{Name}
use Rattle.dt_model.specs.Path.{is_bookkeeping_name}
use Rattle.dt_model.specs.Lists.{IsIn, FallBy, AreInOrder}
use Rattle.dt_model.specs.Object.{is_fragment, fragment_names}
use Rattle.dt_model.specs.Overlay.{Fragment, Overlay, IsOverlay, content}
use Rattle.dt_model.specs.Tree.{Forest, no_nodes, branch, Reading, Node, sibling, stands_in}
use Rattle.dt_model.specs.Valid.{AreDistinct, names}
use Rattle.dt_model_laws.proofs.Orders.{falls_distinct, one_order}
use Rattle.dt_model.proofs.Tests.{and_right, and_both, bytes_eq_refl, bytes_eq_true, bytes_eq_other, each_in, each_from}

-- ---- siblings that are fragments

pub each_fragment : (P : Name → Type 0) (f : Forest) → AllByRecursion P (names f) → AllByRecursion P (fragment_names f)
each_fragment P no_nodes h = tt
each_fragment P (branch x ps c s) h = step (is_fragment x c) (each_fragment P s h.1)
  where
    step : (b : Bool) → AllByRecursion P (fragment_names s) → AllByRecursion P (if b then x ∷ fragment_names s else fragment_names s)
    step true more = (h.0, more)
    step false more = more

falls_too : (age : Name → ℕ) (f : Forest) → FallBy age (names f) → FallBy age (fragment_names f)
falls_too age no_nodes h = tt
falls_too age (branch x ps c s) h = step (is_fragment x c) (each_fragment (λ y. age y < age x) s h.0) (falls_too age s h.1)
  where
    step : (b : Bool) → AllByRecursion (λ y. age y < age x) (fragment_names s) → FallBy age (fragment_names s) → FallBy age (if b then x ∷ fragment_names s else fragment_names s)
    step true older more = (older, more)
    step false older more = more

name_in : (f : Forest) (x : Name) → IsIn x (fragment_names f) → IsIn x (names f)
name_in f x i = each_in (λ y. IsIn y (names f)) (fragment_names f) x (each_fragment (λ y. IsIn y (names f)) f (each_from (λ y. IsIn y (names f)) (names f) (λ y j. j))) i

-- the sibling has a child `__overlay__`
abbrev pub has_content : Option Node → Bool
has_content o = is_some (option_and_then (λ (n : Node). option_and_then (λ c. Some c) (sibling n.children (codes "__overlay__"))) o)

some_content : (o : Option Node) → is_some o ≡ is_some (option_and_then (λ c. Some c) o)
some_content None = refl
some_content (Some n) = refl

pub fragment_found : (f : Forest) (x : Name) → AreDistinct (names f) → IsIn x (fragment_names f) → has_content (sibling f x) ≡ true
fragment_found no_nodes x d i = absurd i
fragment_found (branch y ps c s) x d i = step (is_fragment y c) refl (fragment_found s x d.1) i
  where
    step : (b : Bool) → is_fragment y c ≡ b → (IsIn x (fragment_names s) → has_content (sibling s x) ≡ true) → IsIn x (if b then y ∷ fragment_names s else fragment_names s)
        → has_content (sibling (branch y ps c s) x) ≡ true
    step true e more (inl same) =
        let there : is_some (sibling c (codes "__overlay__")) ≡ true = and_right (not (is_bookkeeping_name y)) (is_some (sibling c (codes "__overlay__"))) e in
        rw (same, bytes_eq_refl y) (sym (some_content (sibling c (codes "__overlay__"))) ∙ there)
    step true e more (inr k) = rw (bytes_eq_other x y (each_in (λ z. z ≢ y) (names s) x d.0 (name_in s x k))) (more k)
    step false e more k = rw (bytes_eq_other x y (each_in (λ z. z ≢ y) (names s) x d.0 (name_in s x k))) (more k)

found_fragment : (f : Forest) (x : Name) → is_bookkeeping_name x ≡ false → has_content (sibling f x) ≡ true → IsIn x (fragment_names f)
found_fragment no_nodes x plain h = absurd (true≢false (sym h))
found_fragment (branch y ps c s) x plain h = step (bytes_eq x y) refl (found_fragment s x plain)
  where
    later : (b : Bool) → IsIn x (fragment_names s) → IsIn x (if b then y ∷ fragment_names s else fragment_names s)
    later true k = inr k
    later false k = k

    step : (b : Bool) → bytes_eq x y ≡ b → (has_content (sibling s x) ≡ true → IsIn x (fragment_names s)) → IsIn x (fragment_names (branch y ps c s))
    step true e more =
        let same : x ≡ y = bytes_eq_true x y e in
        let there : is_some (option_and_then (λ n. Some n) (sibling c (codes "__overlay__"))) ≡ true = rw e at h in
        let is : is_fragment y c ≡ true = and_both (not (is_bookkeeping_name y)) (is_some (sibling c (codes "__overlay__"))) (ap not (ap is_bookkeeping_name (sym same) ∙ plain)) (some_content (sibling c (codes "__overlay__")) ∙ there) in
        subst (λ b. IsIn x (if b then y ∷ fragment_names s else fragment_names s)) (sym is) (inl same)
    step false e more = later (is_fragment y c) (more (rw e at h))

-- ---- those of an overlay

pub fragments_in_order : (age : Name → ℕ) (r : Reading) (o : Overlay) → IsOverlay o → ((f : Name) → stands_in r (content f) ≡ o.stands (content f)) → FallBy age (names r.children)
    → AreInOrder age (λ f. o.stands (content f)) (map (λ (f : Fragment). f.name) o.fragments) → fragment_names r.children ≡ map (λ (f : Fragment). f.name) o.fragments
fragments_in_order age r o overlay same falls ordered =
    one_order age (λ f. o.stands (content f)) (fragment_names r.children) (map (λ (f : Fragment). f.name) o.fragments)
    (record {
      sound = each_from (λ f. o.stands (content f) ≡ true) (fragment_names r.children) (λ f i. sym (same f) ∙ fragment_found r.children f (falls_distinct age (names r.children) falls) i);
      complete = λ f h. found_fragment r.children f (overlay.plain (content f) h) (same f ∙ h);
      sorted = falls_too age r.children falls;
    })
    ordered
