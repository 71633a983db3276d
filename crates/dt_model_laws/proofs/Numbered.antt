-- The new numbers are those of the keyed nodes that fragments bring, and none of the base's.
use Rattle.std.proofs.Common.{◌≡◌, ℕ, ◌≤◌, ◌<◌, ◌^◌, Bool, true, false, cond, List, [], ◌∷◌, ◌++◌, map, length, codes, refl, sym, ap, subst, ◌∙◌, Option, Some, None, true≢false, arith}
use Rattle.std.specs.Prelude.{is_some, if◌then◌else◌, nat_eq}
use Rattle.std.specs.List.{list_any, filter}
use Rattle.std.specs.Int.{w32, from_be_bytes}
use Rattle.std.proofs.lemmas.Nat.{from_be_bytes-to_be_bytes_4}
use Rattle.std.proofs.lemmas.List.{length-map}
use Rattle.std.proofs.lemmas.Bool.Decides.{Decides-eqb}
use Rattle.dt_model.specs.Names.{Name}
use Rattle.dt_model.specs.Path.{Path, below}
use Rattle.dt_model.specs.Lists.{IsIn}
use Rattle.dt_model.specs.Meaning.{cell}
use Rattle.dt_model.specs.Overlay.{inside, Fragment, Overlay, IsOverlay, content, IsBrought}
use Rattle.dt_model.specs.Object.{fragment_names, Encodes}
use Rattle.dt_model.specs.Numbers.{numbers_of, is_brought, needs_number, new_paths}
use Rattle.dt_model.specs.Tree.{Reading, Placed, value_of, nodes_of, value_in}
use Rattle.dt_model.specs.Valid.{IsValid, IsWithinLimits, phandle_values, phandles}
use Rattle.dt_model.proofs.Tests.{and_left, and_right, and_both, any_here, any_from, in_map, in_map_from, in_filter, filter_in}
use Rattle.dt_model.proofs.Distinct.{in_flat}
use Rattle.dt_model_laws.proofs.Lands.{below-append, append-below}
use Rattle.dt_model.proofs.Listed.{listed_value, value_listed}
use Rattle.dt_model.proofs.Preorder.{phandle_list, all_phandles, value_in_list, length-preorder, length-flat}
use Rattle.dt_model.proofs.Inside.{IsInside, plain_brought}
use Rattle.dt_model_laws.proofs.Given.{object_phandle}

length-filter_le : {X : Type 0} (test : X → Bool) (xs : List X) → length (filter test xs) ≤ length xs
length-filter_le test [] = omega arith
length-filter_le test (x ∷ xs) = step (length-filter_le test xs) (test x)
  where
    step : length (filter test xs) ≤ length xs → (b : Bool) → length (cond b (x ∷ filter test xs) (filter test xs)) ≤ length (x ∷ xs)
    step more true = omega arith
    step more false = omega arith

-- ---- which nodes fragments bring

pub brought_from : (fs : List Fragment) (p : Path) → is_brought (map (λ (f : Fragment). f.name) fs) p ≡ true → (f : Fragment) × (rest : Path) × IsIn f fs × (p ≡ content f.name ++ rest)
brought_from fs p h =
    let w = any_from (λ f. is_some (below (content f) p)) (map (λ (f : Fragment). f.name) fs) h in
    let g = in_map_from (λ (f : Fragment). f.name) fs w.0 w.1 in
    step (below (content w.0) p) refl w.2 g.0 g.1 g.2
  where
    step : {x : Name} (y : Option Path) → below (content x) p ≡ y → is_some (below (content x) p) ≡ true → (f : Fragment) → IsIn f fs → x ≡ f.name → (f : Fragment) × (rest : Path) × IsIn f fs × (p ≡ content f.name ++ rest)
    step None e k f i same = absurd (true≢false (sym (rw e at k)))
    step {x} (Some r) e k f i same = (f, r, i, append-below (content x) p r e ∙ ap (λ z. content z ++ r) same)

pub brought_to : (fs : List Fragment) (f : Fragment) (rest : Path) → IsIn f fs → is_brought (map (λ (f : Fragment). f.name) fs) (content f.name ++ rest) ≡ true
brought_to fs f rest i =
    any_here (λ g. is_some (below (content g) (content f.name ++ rest))) (map (λ (f : Fragment). f.name) fs) f.name (in_map (λ (f : Fragment). f.name) fs f i) (ap is_some (below-append (content f.name) rest))

module _ (object : Reading) (o : Overlay) (local : Path → ℕ) (encodes : Encodes object o local) (overlay : IsOverlay o) (valid : IsValid object) where
  -- a numbered node is a keyed one that a fragment brings
  pub new_inside : (p : Path) → IsIn p (new_paths object) → IsInside o (inside p)
  new_inside p i =
      let w = in_map_from (λ (n : Placed). n.path) (filter (needs_number (fragment_names object.children)) (nodes_of object)) p i in
      let k = in_filter (needs_number (fragment_names object.children)) (nodes_of object) w.0 w.1 in
      let there = and_left (is_brought (fragment_names object.children) w.0.path) (is_some (value_of w.0.properties (codes "phandle"))) k.1 in
      let has = and_right (is_brought (fragment_names object.children) w.0.path) (is_some (value_of w.0.properties (codes "phandle"))) k.1 in
      let b : IsBrought o p = brought_from o.fragments p (ap (is_brought (map (λ (f : Fragment). f.name) o.fragments)) w.2 ∙ ap (λ fs. is_brought fs w.0.path) (sym encodes.fragments) ∙ there) in
      (keyed b (ap is_some (ap (λ q. value_in object q (codes "phandle")) w.2 ∙ listed_value object w.0 (codes "phandle") valid k.0) ∙ has), b)
    where
      keyed : IsBrought o p → is_some (value_in object p (codes "phandle")) ≡ true → o.keyed p ≡ true
      keyed b h = step (o.keyed p) refl
        where
          step : (c : Bool) → o.keyed p ≡ c → c ≡ true
          step true e = refl
          step false e = absurd (true≢false (sym h ∙ ap is_some (object_phandle object o local encodes overlay p (plain_brought o overlay p b) ∙ ap (λ c. if c then Some (cell (local p)) else None) e)))

  pub inside_new : (p : Path) → IsInside o (inside p) → IsIn p (new_paths object)
  inside_new p h =
      let v = object_phandle object o local encodes overlay p (plain_brought o overlay p h.1) ∙ ap (λ c. if c then Some (cell (local p)) else None) h.0 in
      let w = value_listed object p (codes "phandle") (cell (local p)) v in
      let there : is_brought (fragment_names object.children) w.0.path ≡ true =
      ap (λ q. is_brought (fragment_names object.children) q) (w.2 ∙ h.1.3) ∙ ap (λ fs. is_brought fs (content h.1.0.name ++ h.1.1)) encodes.fragments ∙ brought_to o.fragments h.1.0 h.1.1 h.1.2 in
      let test = and_both (is_brought (fragment_names object.children) w.0.path) (is_some (value_of w.0.properties (codes "phandle"))) there (ap is_some w.3) in
      subst (λ q. IsIn q (new_paths object)) w.2
      (in_map (λ (n : Placed). n.path) (filter (needs_number (fragment_names object.children)) (nodes_of object)) w.0 (filter_in (needs_number (fragment_names object.children)) (nodes_of object) w.0 w.1 test))

-- ---- the base's numbers

pub small_number : (n : ℕ) → n ≤ 0xfffffffe → n < 2 ^ 32
small_number n le = omega (arith, le)

-- each phandle of the base is taken
pub taken_all : (base : Reading) (q : Path) (n : ℕ) → n ≤ 0xfffffffe → value_in base q (codes "phandle") ≡ Some (cell n) → list_any (nat_eq n) (numbers_of base) ≡ true
taken_all base q n le e =
    let w = value_listed base q (codes "phandle") (cell n) e in
    let i = in_flat phandle_list (nodes_of base) w.0 (cell n) w.1 (value_in_list w.0.properties (cell n) w.3) in
    let j : IsIn (cell n) (phandle_values base.properties ++ phandles base.children) = subst (λ z. IsIn (cell n) z) (all_phandles base) i in
    let is : from_be_bytes w32 (cell n) ≡ n = from_be_bytes-to_be_bytes_4 n (small_number n le) in
    any_here (nat_eq n) (numbers_of base) (from_be_bytes w32 (cell n)) (in_map (from_be_bytes w32) (phandle_values base.properties ++ phandles base.children) (cell n) j) ((Decides-eqb n (from_be_bytes w32 (cell n))).1 (sym is))

pub few_taken : (base : Reading) → IsWithinLimits base → length (numbers_of base) ≤ 65536
few_taken base few =
    let a = length-map (phandle_values base.properties ++ phandles base.children) (from_be_bytes w32) in
    let b = ap length (all_phandles base) in
    let c = length-flat (nodes_of base) in
    let d = length-preorder [] base.children in
    let e = few.count in
    omega (arith, a, b, c, d, e)

pub few_new : (object : Reading) → IsWithinLimits object → length (new_paths object) ≤ 65536
few_new object few =
    let a = length-map (filter (needs_number (fragment_names object.children)) (nodes_of object)) (λ (n : Placed). n.path) in
    let b = length-filter_le (needs_number (fragment_names object.children)) (nodes_of object) in
    let d = length-preorder [] object.children in
    let e = few.count in
    omega (arith, a, b, d, e)
