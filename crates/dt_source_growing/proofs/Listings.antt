-- Changes of things that are found by an owner and a name.
use Rattle.std.proofs.Common.{◌≡◌, ℕ, ◌+◌, ◌<◌, ◌≤◌, Bool, true, false, List, [], ◌∷◌, ◌++◌, Option, Some, None, ◌&&◌, cond, nat_eq, suc, zero, length, slice_get, slice_set, option_map, refl, sym, ◌∙◌, ap, arith, length-append}
use Rattle.std.specs.Option.{option_and_then, option_map_or}
use Rattle.std.specs.Str.{bytes_eq}
use Rattle.std.proofs.lemmas.Option.{option_and_then_some}
use Rattle.std.proofs.lemmas.Bool.{eqb-true, eq-eqb}
use Rattle.dt_model.specs.Names.{Name}
use Rattle.dt_source_growing.specs.Table.{Key, entry, Puts}
use Rattle.dt_source_growing.specs.Growing.{Listing, kept, found, IsIndexed, Adds, Drops, Keeps, listed}
use Rattle.dt_source_growing.specs.declared.table.Last.{Last}
use Rattle.dt_source_growing.specs.declared.growing.Giving.{Giving}
use Rattle.dt_model.proofs.Cases.{bool_cases}
use Rattle.dt_source_growing.proofs.TableLemmas.{key_is, key-refl}
use Rattle.dt_source_growing.proofs.Walks.{option_cases}

-- what was found after a put was put there, or was found before
pub put_cases : {X : Type 0} (test : Bool) (w old new : Option X) (k : X) (P : Type 0) → new ≡ cond test w old → new ≡ Some k
    → (test ≡ true → w ≡ Some k → P) → (test ≡ false → old ≡ Some k → P) → P
put_cases true w old new k P e h f g = f refl (sym e ∙ h)
put_cases false w old new k P e h f g = g refl (sym e ∙ h)

kept_is : (b : Bool) (k j : ℕ) → kept b k ≡ Some j → (b ≡ true) × (k ≡ j)
kept_is true k j h = (refl, cc)
kept_is false k j h = cc

-- what is found is the last of its owner and name, and stands
pub found_is : (l : Listing) (i : ℕ) (x : Name) (k : ℕ) → found l i x ≡ Some k → (l.last i x ≡ Some k) × (l.stands k ≡ true)
found_is l i x k h =
    option_and_then_some (λ k. kept (l.stands k) k) (l.last i x) k h
    (λ j e1 e2. let c = kept_is (l.stands j) j k e2 in (e1 ∙ ap Some c.1, ap l.stands (sym c.1) ∙ c.0))

pub found_last : (l : Listing) (i : ℕ) (x : Name) (k : ℕ) → l.last i x ≡ Some k → found l i x ≡ kept (l.stands k) k
found_last l i x k h = ap (option_and_then (λ k. kept (l.stands k) k)) h

pub found_stands : (l : Listing) (i : ℕ) (x : Name) (k : ℕ) → l.last i x ≡ Some k → l.stands k ≡ true → found l i x ≡ Some k
found_stands l i x k h s = found_last l i x k h ∙ ap (λ b. kept b k) s

pub found_none : (l : Listing) (i : ℕ) (x : Name) → l.last i x ≡ None → found l i x ≡ None
found_none l i x h = ap (option_and_then (λ k. kept (l.stands k) k)) h

-- ---- a new thing

pub found-added : (first : ℕ) (l m : Listing) (i : ℕ) (x : Name) → IsIndexed first l → Adds l m i x → (j : ℕ) (y : Name)
    → found m j y ≡ cond (nat_eq i j && bytes_eq x y) (Some l.size) (found l j y)
found-added first l m i x w o j y =
    bool_cases (nat_eq i j && bytes_eq x y) _
    (λ t.
    let here : m.last j y ≡ Some l.size = o.last j y ∙ ap (λ b. cond b (Some l.size) (l.last j y)) t in
    rw t (found_stands m j y l.size here o.new_stands))
    (λ f.
    let same : m.last j y ≡ l.last j y = o.last j y ∙ ap (λ b. cond b (Some l.size) (l.last j y)) f in
    rw f
    (option_cases (l.last j y) _
    (λ none. found_none m j y (same ∙ none) ∙ sym (found_none l j y none))
    (λ k there.
    let s : m.stands k ≡ l.stands k = o.stands k (w.sound j y k there).1 in
    found_last m j y k (same ∙ there) ∙ ap (λ b. kept b k) s ∙ sym (found_last l j y k there))))

pub indexed-added : (first : ℕ) (l m : Listing) (i : ℕ) (x : Name) → first ≤ l.size → IsIndexed first l → found l i x ≡ None → Adds l m i x → IsIndexed first m
indexed-added first l m i x above w none o = record {
  sound = λ j y k h.
      put_cases (nat_eq i j && bytes_eq x y) (Some l.size) (l.last j y) (m.last j y) k _ (o.last j y) h
      (λ t e.
      let c : (i ≡ j) × (x ≡ y) = key_is i j x y t in
      let k_is : l.size ≡ k = cc in
      let z : m.size ≡ l.size + 1 = o.size in
      (omega arith, omega arith, rw (← k_is) (o.new_owner ∙ c.0), rw (← k_is) (o.new_name ∙ c.1)))
      (λ f e.
      let g = w.sound j y k e in
      let z : m.size ≡ l.size + 1 = o.size in
      (g.0, omega (arith, g.1), o.owner k g.1 ∙ g.2, o.name k g.1 ∙ g.3));
  complete = λ k from below stands.
      bool_cases (nat_eq k l.size) _
      (λ t.
      let e : k ≡ l.size = eqb-true k l.size t in
      rw (e, o.new_owner, o.new_name) (o.last i x ∙ ap (λ b. cond b (Some l.size) (l.last i x)) (key-refl i x)))
      (λ f.
      let ne : k ≡ l.size → ⊥ = λ e. let t : nat_eq k l.size ≡ true = eq-eqb k l.size e in cc in
      let z : m.size ≡ l.size + 1 = o.size in
      let old : k < l.size = omega arith in
      let stood : l.stands k ≡ true = sym (o.stands k old) ∙ stands in
      let was : l.last (l.owner k) (l.name k) ≡ Some k = w.complete k from old stood in
      rw (o.owner k old, o.name k old)
      (o.last (l.owner k) (l.name k)
      ∙ bool_cases (nat_eq i (l.owner k) && bytes_eq x (l.name k)) (cond (nat_eq i (l.owner k) && bytes_eq x (l.name k)) (Some l.size) (l.last (l.owner k) (l.name k)) ≡ Some k)
      (λ t.
      let c : (i ≡ l.owner k) × (x ≡ l.name k) = key_is i (l.owner k) x (l.name k) t in
      let here : found l i x ≡ Some k = rw (c.0, c.1) (found_stands l (l.owner k) (l.name k) k was stood) in
      let clash : None ≡ Some k = sym none ∙ here in
      cc)
      (λ f. rw f was)));
}

-- ---- a thing doesn't stand any more

pub found-dropped : (first : ℕ) (l m : Listing) (k : ℕ) → IsIndexed first l → k < l.size → l.last (l.owner k) (l.name k) ≡ Some k → Drops l m k → (j : ℕ) (y : Name)
    → found m j y ≡ cond (nat_eq (l.owner k) j && bytes_eq (l.name k) y) None (found l j y)
found-dropped first l m k w inside last o j y =
    bool_cases (nat_eq (l.owner k) j && bytes_eq (l.name k) y) _
    (λ t.
    let c : (l.owner k ≡ j) × (l.name k ≡ y) = key_is (l.owner k) j (l.name k) y t in
    let here : m.last j y ≡ Some k = o.last j y ∙ rw (← c.0, ← c.1) last in
    let fell : m.stands k ≡ false = o.stands k inside ∙ ap (λ b. cond b false (l.stands k)) (eq-eqb k k refl) in
    rw t (found_last m j y k here ∙ ap (λ b. kept b k) fell))
    (λ f.
    rw f
    (option_cases (l.last j y) _
    (λ none. found_none m j y (o.last j y ∙ none) ∙ sym (found_none l j y none))
    (λ h there.
    let g = w.sound j y h there in
    let other : nat_eq k h ≡ false = bool_cases (nat_eq k h) _
    (λ t.
    let kh : k ≡ h = eqb-true k h t in
    let yes2 : (nat_eq (l.owner k) j && bytes_eq (l.name k) y) ≡ true = rw (kh, g.2, g.3) (key-refl j y) in
    cc)
    (λ e. e) in
    let s : m.stands h ≡ l.stands h = o.stands h g.1 ∙ ap (λ b. cond b false (l.stands h)) other in
    found_last m j y h (o.last j y ∙ there) ∙ ap (λ b. kept b h) s ∙ sym (found_last l j y h there))))

pub indexed-dropped : (first : ℕ) (l m : Listing) (k : ℕ) → IsIndexed first l → Drops l m k → IsIndexed first m
indexed-dropped first l m k w o = record {
  sound = λ j y h e.
      let g = w.sound j y h (sym (o.last j y) ∙ e) in
      (g.0, rw o.size g.1, o.owner h ∙ g.2, o.name h ∙ g.3);
  complete = λ h from below stands.
      let old : h < l.size = rw (← o.size) below in
      let now : cond (nat_eq k h) false (l.stands h) ≡ true = sym (o.stands h old) ∙ stands in
      bool_cases (nat_eq k h) _
      (λ t. let c : false ≡ true = rw t at now in cc)
      (λ f.
      let stood : l.stands h ≡ true = rw f at now in
      rw (o.owner h, o.name h) (o.last (l.owner h) (l.name h) ∙ w.complete h from old stood));
}

-- ---- nothing changes

pub found-kept : (l m : Listing) → Keeps l m → (j : ℕ) (y : Name) → found m j y ≡ found l j y
found-kept l m o j y =
    option_cases (l.last j y) _
    (λ none. found_none m j y (o.last j y ∙ none) ∙ sym (found_none l j y none))
    (λ k there. found_last m j y k (o.last j y ∙ there) ∙ ap (λ b. kept b k) (o.stands k) ∙ sym (found_last l j y k there))

pub indexed-kept : (first : ℕ) (l m : Listing) → IsIndexed first l → Keeps l m → IsIndexed first m
indexed-kept first l m w o = record {
  sound = λ j y k e.
      let g = w.sound j y k (sym (o.last j y) ∙ e) in
      (g.0, rw o.size g.1, o.owner k ∙ g.2, o.name k ∙ g.3);
  complete = λ k from below stands.
      rw (o.owner k, o.name k) (o.last (l.owner k) (l.name k) ∙ w.complete k from (rw (← o.size) below) (sym (o.stands k) ∙ stands));
}

-- ---- lists

pub slice_get-push_old : {X : Type 0} (xs : List X) (x : X) (k : ℕ) → k < length xs → slice_get (xs ++ x ∷ []) k ≡ slice_get xs k
slice_get-push_old [] x k h = absurd (omega (arith, h))
slice_get-push_old (y ∷ xs) x zero h = refl
slice_get-push_old (y ∷ xs) x (suc k) h = slice_get-push_old xs x k (omega (arith, h))

pub slice_get-push_new : {X : Type 0} (xs : List X) (x : X) (k : ℕ) → k ≡ length xs → slice_get (xs ++ x ∷ []) k ≡ Some x
slice_get-push_new [] x k h = rw h refl
slice_get-push_new (y ∷ xs) x k h = rw h (slice_get-push_new xs x (length xs) refl)

pub slice_get-set_same : {X : Type 0} (xs : List X) (k : ℕ) (x y : X) → slice_get xs k ≡ Some y → slice_get (slice_set xs k x) k ≡ Some x
slice_get-set_same [] k x y h = cc
slice_get-set_same (z ∷ xs) zero x y h = refl
slice_get-set_same (z ∷ xs) (suc k) x y h = slice_get-set_same xs k x y h

pub slice_get-set_other : {X : Type 0} (xs : List X) (k j : ℕ) (x : X) → (k ≡ j → ⊥) → slice_get (slice_set xs k x) j ≡ slice_get xs j
slice_get-set_other [] k j x h = refl
slice_get-set_other (z ∷ xs) zero zero x h = absurd (h refl)
slice_get-set_other (z ∷ xs) zero (suc j) x h = refl
slice_get-set_other (z ∷ xs) (suc k) zero x h = refl
slice_get-set_other (z ∷ xs) (suc k) (suc j) x h = slice_get-set_other xs k j x (λ e. h (ap suc e))

pub length-set : {X : Type 0} (xs : List X) (k : ℕ) (x : X) → length (slice_set xs k x) ≡ length xs
length-set [] k x = refl
length-set (z ∷ xs) zero x = refl
length-set (z ∷ xs) (suc k) x = ap suc (length-set xs k x)

-- what is read of an element, after another took the place of one that reads the same
pub read-set : {X A : Type 0} (f : X → A) (d : A) (xs : List X) (k : ℕ) (y z : X) → slice_get xs k ≡ Some y → f z ≡ f y → (j : ℕ)
    → option_map_or f (slice_get (slice_set xs k z) j) d ≡ option_map_or f (slice_get xs j) d
read-set f d xs k y z at e j =
    bool_cases (nat_eq k j) _
    (λ t.
    let kj : k ≡ j = eqb-true k j t in
    rw (← kj) (ap (λ o. option_map_or f o d) (slice_get-set_same xs k z y at) ∙ e ∙ sym (ap (λ o. option_map_or f o d) at)))
    (λ n. ap (λ o. option_map_or f o d) (slice_get-set_other xs k j z (λ kj. let t : nat_eq k j ≡ true = eq-eqb k j kj in cc)))

module _ {X : Type 0} (owner : X → ℕ) (name : X → Name) (stands : X → Bool) where
  index_of_put : (old new : List (Key × Last)) (i : ℕ) (x : Name) (w : Last) → Puts old new i x w → (j : ℕ) (y : Name)
      → option_map (λ (e : Last). e.index) (entry new j y) ≡ cond (nat_eq i j && bytes_eq x y) (Some w.index) (option_map (λ (e : Last). e.index) (entry old j y))
  index_of_put old new i x w puts j y = ap (option_map (λ (e : Last). e.index)) (puts j y) ∙ through (nat_eq i j && bytes_eq x y)
    where
      through : (b : Bool) → option_map (λ (e : Last). e.index) (cond b (Some w) (entry old j y)) ≡ cond b (Some w.index) (option_map (λ (e : Last). e.index) (entry old j y))
      through true = refl
      through false = refl

  pub listed-push : (xs : List X) (y : X) (old new : List (Key × Last)) (w : Last) → Puts old new (owner y) (name y) w → w.index ≡ length xs → stands y ≡ true
      → Adds (listed owner name stands xs old) (listed owner name stands (xs ++ y ∷ []) new) (owner y) (name y)
  listed-push xs y old new w puts index here = record {
    size = length-append xs (y ∷ []);
    owner = λ k below. ap (λ o. option_map_or owner o 0) (slice_get-push_old xs y k below);
    name = λ k below. ap (λ o. option_map_or name o []) (slice_get-push_old xs y k below);
    stands = λ k below. ap (λ o. option_map_or stands o false) (slice_get-push_old xs y k below);
    new_owner = ap (λ o. option_map_or owner o 0) (slice_get-push_new xs y (length xs) refl);
    new_name = ap (λ o. option_map_or name o []) (slice_get-push_new xs y (length xs) refl);
    new_stands = ap (λ o. option_map_or stands o false) (slice_get-push_new xs y (length xs) refl) ∙ here;
    last = λ j z. index_of_put old new (owner y) (name y) w puts j z ∙ ap (λ n. cond (nat_eq (owner y) j && bytes_eq (name y) z) (Some n) (option_map (λ (e : Last). e.index) (entry old j z))) index;
  }

  pub listed-drop : (xs : List X) (k : ℕ) (y z : X) (entries : List (Key × Last)) → slice_get xs k ≡ Some y → owner z ≡ owner y → name z ≡ name y → stands z ≡ false
      → Drops (listed owner name stands xs entries) (listed owner name stands (slice_set xs k z) entries) k
  listed-drop xs k y z entries at same_owner same_name fell = record {
    size = length-set xs k z;
    owner = read-set owner 0 xs k y z at same_owner;
    name = read-set name [] xs k y z at same_name;
    stands = λ j below.
        bool_cases (nat_eq k j) _
        (λ t.
        let kj : k ≡ j = eqb-true k j t in
        rw t (rw (← kj) (ap (λ o. option_map_or stands o false) (slice_get-set_same xs k z y at) ∙ fell)))
        (λ n. rw n (ap (λ o. option_map_or stands o false) (slice_get-set_other xs k j z (λ kj. let t : nat_eq k j ≡ true = eq-eqb k j kj in cc))));
    last = λ j x. refl;
  }

  -- a thing that stands is met again
  last_again : (xs : List X) (old new : List (Key × Last)) (i : ℕ) (x : Name) (w : Last) → Puts old new i x w → found (listed owner name stands xs old) i x ≡ Some w.index
      → (j : ℕ) (y : Name) → option_map (λ (e : Last). e.index) (entry new j y) ≡ option_map (λ (e : Last). e.index) (entry old j y)
  last_again xs old new i x w puts there j y =
      index_of_put old new i x w puts j y
      ∙ bool_cases (nat_eq i j && bytes_eq x y) (cond (nat_eq i j && bytes_eq x y) (Some w.index) (option_map (λ (e : Last). e.index) (entry old j y)) ≡ option_map (λ (e : Last). e.index) (entry old j y))
      (λ t.
      let c : (i ≡ j) × (x ≡ y) = key_is i j x y t in
      let last : option_map (λ (e : Last). e.index) (entry old i x) ≡ Some w.index = (found_is (listed owner name stands xs old) i x w.index there).0 in
      rw t (sym (rw (c.0, c.1) at last)))
      (λ f. rw f refl)

  pub listed-again : (xs : List X) (old new : List (Key × Last)) (i : ℕ) (x : Name) (w : Last) → Puts old new i x w → found (listed owner name stands xs old) i x ≡ Some w.index
      → Keeps (listed owner name stands xs old) (listed owner name stands xs new)
  listed-again xs old new i x w puts there = record {
    size = refl;
    owner = λ j. refl;
    name = λ j. refl;
    stands = λ j. refl;
    last = last_again xs old new i x w puts there;
  }

  pub listed-written : (xs : List X) (k : ℕ) (y z : X) (old new : List (Key × Last)) (i : ℕ) (x : Name) (w : Last) → slice_get xs k ≡ Some y → owner z ≡ owner y → name z ≡ name y → stands z ≡ stands y
      → Puts old new i x w → found (listed owner name stands xs old) i x ≡ Some w.index
      → Keeps (listed owner name stands xs old) (listed owner name stands (slice_set xs k z) new)
  listed-written xs k y z old new i x w at same_owner same_name same_stands puts there = record {
    size = length-set xs k z;
    owner = read-set owner 0 xs k y z at same_owner;
    name = read-set name [] xs k y z at same_name;
    stands = read-set stands false xs k y z at same_stands;
    last = last_again xs old new i x w puts there;
  }

-- a giving of a label, read from the list
pub giving_of : (givings : List Giving) (k : ℕ) (l : Name) → option_map (λ g. g.label.now) (slice_get givings k) ≡ Some l → (g : Giving) × (slice_get givings k ≡ Some g) × (g.label.now ≡ l)
giving_of givings k l = by (slice_get givings k) refl
  where
    by : (o : Option Giving) → slice_get givings k ≡ o → option_map (λ g. g.label.now) o ≡ Some l → (g : Giving) × (slice_get givings k ≡ Some g) × (g.label.now ≡ l)
    by None at e = let z : None ≡ Some l = e in cc
    by (Some g) at e = let z : Some g.label.now ≡ Some l = e in let same : g.label.now ≡ l = cc in (g, at, same)

pub label_of : (givings : List Giving) (k : ℕ) (l : Name) (g : Giving) → slice_get givings k ≡ Some g → g.label.now ≡ l → option_map (λ g. g.label.now) (slice_get givings k) ≡ Some l
label_of givings k l g at is = ap (option_map (λ (g : Giving). g.label.now)) at ∙ ap Some is
