-- Where nodes land: `landing` and `sources` are one relation, read from its two ends.
use Rattle.std.proofs.Common.{◌≡◌, ◌≢◌, Bool, true, false, List, [], ◌∷◌, ◌++◌, map, refl, sym, ap, ◌∙◌, ◌⊎◌, inl, inr, Option, Some, None}
use Rattle.std.specs.Prelude.{option_map}
use Rattle.std.specs.Str.{bytes_eq}
use Rattle.std.specs.List.{AllByRecursion}
use Rattle.std.specs.Option.{option_or}
use Rattle.dt_model.specs.Names.{Name}
use Rattle.dt_model.specs.Path.{Path, below}
use Rattle.dt_model.specs.Lists.{IsIn, last_of}
use Rattle.dt_model.specs.Valid.{AreDistinct}
use Rattle.dt_model.specs.Overlay.{content}
use Rattle.dt_model.specs.Merged.{Site, moved, landing, with_first, sources}
use Rattle.dt_model.proofs.Tests.{bytes_eq_refl, bytes_eq_true, bytes_eq_other}

pub below-append : (a r : Path) → below a (a ++ r) ≡ Some r
below-append [] r = refl
below-append (x ∷ a) r = rw (bytes_eq_refl x) (below-append a r)

pub append-below : (a p r : Path) → below a p ≡ Some r → p ≡ a ++ r
append-below [] p r e = cc
append-below (x ∷ a) [] r e = cc
append-below (x ∷ a) (y ∷ p) r e = step (λ k. append-below a p r k) (bytes_eq x y) refl
  where
    step : (below a p ≡ Some r → p ≡ a ++ r) → (b : Bool) → bytes_eq x y ≡ b → y ∷ p ≡ x ∷ (a ++ r)
    step more true same = let k : below a p ≡ Some r = rw same at e in let rest = more k in let head = bytes_eq_true x y same in cc
    step more false other = let k : None ≡ Some r = rw other at e in cc

pub moved_is : (a b p q : Path) → moved a b p ≡ Some q → (r : Path) × (p ≡ a ++ r) × (q ≡ b ++ r)
moved_is a b p q e = step (below a p) refl
  where
    step : (o : Option Path) → below a p ≡ o → (r : Path) × (p ≡ a ++ r) × (q ≡ b ++ r)
    step None k = let z : None ≡ Some q = rw k at e in cc
    step (Some r) k = let z : Some (b ++ r) ≡ Some q = rw k at e in (r, append-below a p r k, cc)

pub moved-append : (a b r : Path) → moved a b (a ++ r) ≡ Some (b ++ r)
moved-append a b r = ap (option_map (λ rest. b ++ rest)) (below-append a r)

pub moved_back : (a b p q : Path) → moved a b p ≡ Some q → moved b a q ≡ Some p
moved_back a b p q e =
    let x = moved_is a b p q e in
    ap (moved b a) x.2 ∙ moved-append b a x.0 ∙ ap Some (sym x.1)

pub other_content : (name : Name) (sites : List Site) (p q : Path) → AllByRecursion (λ y. y ≢ name) (map (λ x. x.fragment) sites) → landing sites p ≡ Some q → below (content name) p ≡ None
other_content name [] p q new e = cc
other_content name (x ∷ sites) p q new e = step (λ k. other_content name sites p q new.1 k) (moved (content x.fragment) x.at p) refl
  where
    step : (landing sites p ≡ Some q → below (content name) p ≡ None) → (o : Option Path) → moved (content x.fragment) x.at p ≡ o → below (content name) p ≡ None
    step more None k = more (rw k at e)
    step more (Some r) k =
        let y = moved_is (content x.fragment) x.at p r k in
        ap (below (content name)) y.1 ∙ rw (bytes_eq_other name x.fragment (λ e. new.0 (sym e)))

pub source_of : (sites : List Site) (p q : Path) → landing sites p ≡ Some q → IsIn p (sources sites q)
source_of [] p q e = absurd (let z : None ≡ Some q = e in cc)
source_of (x ∷ sites) p q e = step (λ k. source_of sites p q k) (moved (content x.fragment) x.at p) refl
  where
    later : (o : Option Path) → IsIn p (sources sites q) → IsIn p (with_first o (sources sites q))
    later None h = h
    later (Some r) h = inr h

    step : (landing sites p ≡ Some q → IsIn p (sources sites q)) → (o : Option Path) → moved (content x.fragment) x.at p ≡ o → IsIn p (sources (x ∷ sites) q)
    step more None k = later (moved x.at (content x.fragment) q) (more (rw k at e))
    step more (Some r) k =
        let same : Some r ≡ Some q = rw k at e in
        let back : moved x.at (content x.fragment) q ≡ Some p = moved_back (content x.fragment) x.at p q (k ∙ same) in
        rw back (inl refl)

pub landing_of : (sites : List Site) (p q : Path) → AreDistinct (map (λ x. x.fragment) sites) → IsIn p (sources sites q) → landing sites p ≡ Some q
landing_of [] p q distinct h = absurd h
landing_of (x ∷ sites) p q distinct h = step (λ k. landing_of sites p q distinct.1 k) (moved x.at (content x.fragment) q) refl
  where
    behind : landing sites p ≡ Some q → landing (x ∷ sites) p ≡ Some q
    behind k = rw (other_content x.fragment sites p q distinct.0 k) k

    step : (IsIn p (sources sites q) → landing sites p ≡ Some q) → (o : Option Path) → moved x.at (content x.fragment) q ≡ o → landing (x ∷ sites) p ≡ Some q
    step more None k = behind (more (rw k at h))
    step more (Some r) k =
        let cases : (p ≡ r) ⊎ IsIn p (sources sites q) = rw k at h in
        elim cases [
          | inl same ↦ rw (moved_back x.at (content x.fragment) q p (k ∙ ap Some (sym same))) refl
          | inr later ↦ behind (more later)
        ]

-- what a path that has something brought
pub last_from : {A : Type 0} (f : Path → Option A) (ps : List Path) (y : A) → last_of f ps ≡ Some y → (p : Path) × IsIn p ps × (f p ≡ Some y)
last_from f [] y e = absurd (let z : None ≡ Some y = e in cc)
last_from {A} f (x ∷ ps) y e = step (λ k. last_from f ps y k) (last_of f ps) refl
  where
    step : (last_of f ps ≡ Some y → (p : Path) × IsIn p ps × (f p ≡ Some y)) → (o : Option A) → last_of f ps ≡ o → (p : Path) × IsIn p (x ∷ ps) × (f p ≡ Some y)
    step more None k = (x, inl refl, rw k at e)
    step more (Some z) k =
        let same : Some z ≡ Some y = rw k at e in
        let w = more (k ∙ same) in (w.0, inr w.1, w.2)

-- the last that has something, where all that have something have the same
pub last_one : {A : Type 0} (f : Path → Option A) (ps : List Path) (p : Path) (y : A) → IsIn p ps → f p ≡ Some y → ((p' : Path) (z : A) → IsIn p' ps → f p' ≡ Some z → z ≡ y) → last_of f ps ≡ Some y
last_one f [] p y h e all = absurd h
last_one {A} f (x ∷ ps) p y h e all = step (λ k. last_one f ps p y k e (λ p' z k'. all p' z (inr k'))) (last_of f ps) refl
  where
    step : (IsIn p ps → last_of f ps ≡ Some y) → (o : Option A) → last_of f ps ≡ o → option_or (last_of f ps) (f x) ≡ Some y
    step more None k = elim h [ inl same ↦ rw k (ap f (sym same) ∙ e) | inr later ↦ absurd (let z : None ≡ Some y = sym k ∙ more later in cc) ]
    step more (Some z) k = let w = last_from f ps z k in rw k (ap Some (all w.0 z (inr w.1) w.2))

pub last_none : {A : Type 0} (f : Path → Option A) (ps : List Path) → ((p : Path) → IsIn p ps → f p ≡ None) → last_of f ps ≡ None
last_none f [] all = refl
last_none f (x ∷ ps) all = rw (last_none f ps (λ p h. all p (inr h))) (all x (inl refl))

pub last_map : {A B : Type 0} (h : A → B) (f : Path → Option A) (ps : List Path) → last_of (λ p. option_map h (f p)) ps ≡ option_map h (last_of f ps)
last_map h f [] = refl
last_map {A} {B} h f (x ∷ ps) = rw (last_map h f ps) (either (last_of f ps) (f x))
  where
    either : (a b : Option A) → option_or (option_map h a) (option_map h b) ≡ option_map h (option_or a b)
    either None b = refl
    either (Some y) b = refl

pub last_same : {A : Type 0} (f g : Path → Option A) (ps : List Path) → ((p : Path) → IsIn p ps → f p ≡ g p) → last_of f ps ≡ last_of g ps
last_same f g [] same = refl
last_same f g (x ∷ ps) same = rw (last_same f g ps (λ p h. same p (inr h)), same x (inl refl)) refl
