-- The properties of a named node by their names, and the number that is written in a node.
use Rattle.std.proofs.Common.{◌≡◌, ◌≢◌, ℕ, Bool, true, false, List, [], ◌∷◌, map, refl, sym, ap, ◌∙◌, inl, inr, Some, None}
use Rattle.std.specs.List.{AllByRecursion}
use Rattle.std.specs.Str.{bytes_eq}
use Rattle.dt_model.specs.Names.{Name}
use Rattle.dt_model.specs.Path.{Path}
use Rattle.dt_model.specs.Lists.{IsIn}
use Rattle.dt_model.specs.Meaning.{Item, byte, reference, item_renamed, AreBytes}
use Rattle.dt_model.specs.Overlay.{OverlayReference, inside}
use Rattle.dt_model.specs.Source.{Part, one, Events, all_bound, number_of_parts}
use Rattle.dt_model.specs.Valid.{AreDistinct}
use Rattle.dt_model.specs.Named.{NamedProperty, value_of, number_of}
use Rattle.dt_model.proofs.Tests.{bytes_eq_refl, bytes_eq_true, bytes_eq_other, each_in, in_map}

pub all_of_map : {X Y : Type 0} (f : X → Y) (P : Y → Type 0) (xs : List X) → AllByRecursion P (map f xs) → AllByRecursion (λ x. P (f x)) xs
all_of_map f P [] h = tt
all_of_map f P (x ∷ xs) h = (h.0, all_of_map f P xs h.1)

-- ---- properties

module _ {R : Type 0} where
  abbrev pub property_names : List (NamedProperty R) → List Name
  property_names ps = map (λ (p : NamedProperty R). p.name) ps

  pub value_listed : (ps : List (NamedProperty R)) (x : Name) (v : List (Item R)) → value_of ps x ≡ Some v → IsIn (record { name = x; value = v }) ps
  value_listed [] x v e = absurd (let z : None ≡ Some v = e in cc)
  value_listed (p ∷ ps) x v e = step (value_listed ps x v) (bytes_eq x p.name) refl
    where
      step : (value_of ps x ≡ Some v → IsIn (record { name = x; value = v }) ps) → (b : Bool) → bytes_eq x p.name ≡ b → IsIn (record { name = x; value = v }) (p ∷ ps)
      step more true k =
          let z : Some p.value ≡ Some v = rw k at e in
          let same : v ≡ p.value = cc in
          inl (ap (λ w. record { name = x; value = w }) same ∙ ap (λ y. record { name = y; value = p.value }) (bytes_eq_true x p.name k))
      step more false k = inr (more (rw k at e))

  pub listed_value : (ps : List (NamedProperty R)) (p : NamedProperty R) → AreDistinct (property_names ps) → IsIn p ps → value_of ps p.name ≡ Some p.value
  listed_value [] p d i = absurd i
  listed_value (q ∷ ps) p d (inl same) = rw same (rw (bytes_eq_refl q.name) refl)
  listed_value (q ∷ ps) p d (inr i) =
      rw (bytes_eq_other p.name q.name (each_in (λ y. y ≢ q.name) (property_names ps) p.name d.0 (in_map (λ (p : NamedProperty R). p.name) ps p i))) (listed_value ps p d.1 i)

-- ---- renamed references

pub bytes_renamed : {R S : Type 0} (f : R → S) (v : List (Item R)) → AreBytes (map (item_renamed f) v) → AreBytes v
bytes_renamed f [] h = tt
bytes_renamed f (byte b ∷ v) h = (h.0, bytes_renamed f v h.1)
bytes_renamed f (reference r ∷ v) h = bytes_renamed f v h

pub renamed_too : {R S : Type 0} (f : R → S) (v : List (Item R)) → AreBytes v → AreBytes (map (item_renamed f) v)
renamed_too f [] h = tt
renamed_too f (byte b ∷ v) h = (h.0, renamed_too f v h.1)
renamed_too f (reference r ∷ v) h = renamed_too f v h

-- ---- the number that a value writes

-- the bytes of a value decide it
pub number_renamed : {R S : Type 0} (f : R → S) (v : List (Item R)) → number_of (map (item_renamed f) v) ≡ number_of v
number_renamed f [] = refl
number_renamed f (reference r ∷ v) = refl
number_renamed f (byte a ∷ []) = refl
number_renamed f (byte a ∷ reference r ∷ v) = refl
number_renamed f (byte a ∷ byte b ∷ []) = refl
number_renamed f (byte a ∷ byte b ∷ reference r ∷ v) = refl
number_renamed f (byte a ∷ byte b ∷ byte c ∷ []) = refl
number_renamed f (byte a ∷ byte b ∷ byte c ∷ reference r ∷ v) = refl
number_renamed f (byte a ∷ byte b ∷ byte c ∷ byte d ∷ []) = refl
number_renamed f (byte a ∷ byte b ∷ byte c ∷ byte d ∷ x ∷ v) = refl

-- a value of a source that writes a number writes it also when it is read
pub number_written : (es : Events) (parts : List Part) (items : List (Item Path)) (k : ℕ) → number_of_parts parts ≡ Some k → all_bound es parts ≡ Some items
    → number_of (map (item_renamed {S = OverlayReference} inside) items) ≡ Some k
number_written es (one a ∷ one b ∷ one c ∷ one d ∷ []) items k w e =
    let plain : map byte (a ∷ b ∷ c ∷ d ∷ []) ≡ items = cc in
    ap (λ v. number_of (map (item_renamed {S = OverlayReference} inside) v)) (sym plain) ∙ w
number_written es _ items k w e = cc
