-- The keys of phandles are the values of the properties `phandle`.
use Rattle.std.proofs.Common.{◌↔◌, ◌≡◌, ◌≢◌, ℕ, Bool, true, false, List, [], ◌∷◌, ◌++◌, map, Some, None, codes, refl, sym, ap, subst, ◌∙◌}
use Rattle.std.specs.Prelude.{if◌then◌else◌}
use Rattle.std.specs.List.{AllByRecursion}
use Rattle.std.specs.Str.{bytes_eq}
use Rattle.dt_model.specs.Valid.{AreDistinct, IsPhandle}
use Rattle.dt_read.specs.Marks.{Mark, begin_mark, end_mark, prop_mark, nop_mark, last_mark, Root, marks_of}
use Rattle.dt_model.specs.Tree.{Property}
use Rattle.dt_read.specs.Keys.{Key, open_behind, with_key, keys_in, keys_of, AreShallowFor}
use Rattle.dt_read.specs.TreeTokens.{past_others}
use Rattle.dt_read.specs.Phandle.{phandles_in, ArePhandles}
use Rattle.dt_read.specs.declared.keys.Sort.TheVariants as sorts
use Rattle.dt_read.specs.declared.keys.Wanted.TheVariants.{Phandles}

abbrev pub phandle_key : List ℕ → Key
phandle_key value = record { sort = sorts.Phandle; owner = 0; bytes = value }

chosen : (test : Bool) (value : List ℕ) (values : List (List ℕ)) (keys : List Key) → keys ≡ map phandle_key values →
    with_key (if test then Some (phandle_key value) else None) keys ≡ map phandle_key (if test then value ∷ values else values)
chosen true value values keys e = ap (λ (ks : List Key). phandle_key value ∷ ks) e
chosen false value values keys e = e

pub phandle_keys : (open_nodes : List ℕ) (marks : List Mark) → keys_in Phandles open_nodes marks ≡ map phandle_key (phandles_in marks)
phandle_keys open_nodes [] = refl
phandle_keys open_nodes (begin_mark place name ∷ marks) = phandle_keys (open_behind open_nodes (begin_mark place name)) marks
phandle_keys open_nodes (end_mark ∷ marks) = phandle_keys (open_behind open_nodes end_mark) marks
phandle_keys open_nodes (prop_mark p ∷ marks) =
    chosen (bytes_eq (codes "phandle") p.name) p.value (phandles_in marks) (keys_in Phandles open_nodes marks) (phandle_keys open_nodes marks)
phandle_keys open_nodes (nop_mark ∷ marks) = phandle_keys open_nodes marks
phandle_keys open_nodes (last_mark ∷ marks) = phandle_keys open_nodes marks

-- ---- lists in which no two are the same, and their images

module _ {X Y : Type 0} (f : X → Y) (same : (x y : X) → f x ≡ f y → x ≡ y) where
  all_differ : (x : X) (ys : List X) → AllByRecursion (λ y. y ≢ f x) (map f ys) → AllByRecursion (λ y. y ≢ x) ys
  all_differ x [] a = tt
  all_differ x (y ∷ ys) a = (λ e. a.0 (ap f e), all_differ x ys a.1)

  images_differ : (x : X) (ys : List X) → AllByRecursion (λ y. y ≢ x) ys → AllByRecursion (λ y. y ≢ f x) (map f ys)
  images_differ x [] a = tt
  images_differ x (y ∷ ys) a = (λ e. a.0 (same y x e), images_differ x ys a.1)

  pub distinct-map : (xs : List X) → AreDistinct (map f xs) ↔ AreDistinct xs
  distinct-map [] = (λ d. d, λ d. d)
  distinct-map (x ∷ xs) = (
    λ d. (all_differ x xs d.0, (distinct-map xs).0 d.1),
    λ d. (images_differ x xs d.0, (distinct-map xs).1 d.1),
  )

all-map : {X Y : Type 0} (f : X → Y) (P : Y → Type 0) (xs : List X) → AllByRecursion P (map f xs) ↔ AllByRecursion (λ x. P (f x)) xs
all-map f P [] = (λ a. a, λ a. a)
all-map f P (x ∷ xs) = (λ a. (a.0, (all-map f P xs).0 a.1), λ a. (a.0, (all-map f P xs).1 a.1))

-- ---- the keys of phandles that are right

pub record AreRight (keys : List Key) : Type 0 where
  pub each : AllByRecursion (λ k. IsPhandle k.bytes) keys
  pub distinct : AreDistinct keys

bytes_of : (x y : List ℕ) → phandle_key x ≡ phandle_key y → x ≡ y
bytes_of x y e = ap (λ (k : Key). k.bytes) e

right_values : (values : List (List ℕ)) → AreRight (map phandle_key values) ↔ ArePhandles values
right_values values = (
  λ r. record { each = (all-map phandle_key (λ k. IsPhandle k.bytes) values).0 r.each; distinct = (distinct-map phandle_key bytes_of values).0 r.distinct },
  λ a. record { each = (all-map phandle_key (λ k. IsPhandle k.bytes) values).1 a.each; distinct = (distinct-map phandle_key bytes_of values).1 a.distinct },
)

pub right_keys : (tree : Root) → AreRight (keys_of Phandles tree) ↔ ArePhandles (phandles_in (marks_of tree ++ last_mark ∷ []))
right_keys tree =
    let marks = marks_of tree ++ last_mark ∷ [] in
    subst (λ (keys : List Key). AreRight keys ↔ ArePhandles (phandles_in marks)) (sym (phandle_keys [] marks)) (right_values (phandles_in marks))

-- ---- behind properties of other names

past_first : (open_nodes : List ℕ) (p : Property) (marks : List Mark) (b : Bool) → bytes_eq (codes "phandle") p.name ≡ b → keys_in Phandles open_nodes (past_others (codes "phandle") marks) ≡ keys_in Phandles open_nodes marks
    → keys_in Phandles open_nodes (if b then prop_mark p ∷ marks else past_others (codes "phandle") marks) ≡ with_key (if b then Some (phandle_key p.value) else None) (keys_in Phandles open_nodes marks)
past_first open_nodes p marks true is e = ap (λ b. with_key (if b then Some (phandle_key p.value) else None) (keys_in Phandles open_nodes marks)) is
past_first open_nodes p marks false is e = e

pub keys_past : (open_nodes : List ℕ) (marks : List Mark) → keys_in Phandles open_nodes (past_others (codes "phandle") marks) ≡ keys_in Phandles open_nodes marks
keys_past open_nodes [] = refl
keys_past open_nodes (begin_mark place name ∷ marks) = refl
keys_past open_nodes (end_mark ∷ marks) = refl
keys_past open_nodes (nop_mark ∷ marks) = refl
keys_past open_nodes (last_mark ∷ marks) = refl
keys_past open_nodes (prop_mark p ∷ marks) = past_first open_nodes p marks (bytes_eq (codes "phandle") p.name) refl (keys_past open_nodes marks)

shallow_first : (count : ℕ) (p : Property) (marks : List Mark) (b : Bool) → AreShallowFor Phandles count marks → AreShallowFor Phandles count (past_others (codes "phandle") marks) → AreShallowFor Phandles count (if b then prop_mark p ∷ marks else past_others (codes "phandle") marks)
shallow_first count p marks true all past = all
shallow_first count p marks false all past = past

pub shallow_past : (count : ℕ) (marks : List Mark) → AreShallowFor Phandles count marks → AreShallowFor Phandles count (past_others (codes "phandle") marks)
shallow_past count [] s = s
shallow_past count (begin_mark place name ∷ marks) s = s
shallow_past count (end_mark ∷ marks) s = s
shallow_past count (nop_mark ∷ marks) s = s
shallow_past count (last_mark ∷ marks) s = s
shallow_past count (prop_mark p ∷ marks) s = shallow_first count p marks (bytes_eq (codes "phandle") p.name) s (shallow_past count marks s)

-- the property that is found gives a key
pub phandle_sought : (open_nodes : List ℕ) (p : Property) (value : List ℕ) (marks : List Mark) → bytes_eq (codes "phandle") p.name ≡ true → value ≡ p.value → keys_in Phandles open_nodes (prop_mark p ∷ marks) ≡ phandle_key value ∷ keys_in Phandles open_nodes marks
phandle_sought open_nodes p value marks named is = ap (λ b. with_key (if b then Some (phandle_key p.value) else None) (keys_in Phandles open_nodes marks)) named ∙ ap (λ v. phandle_key v ∷ keys_in Phandles open_nodes marks) (sym is)
