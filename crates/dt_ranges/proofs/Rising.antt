-- An address goes up one bus at a time.
use Rattle.std.proofs.Common.{◌≡◌, ◌≢◌, ℕ, suc, ◌<◌, List, [], ◌∷◌, ◌++◌, length, refl, sym, ap, ◌∙◌, arith}
use Rattle.dt_resolve_model.specs.declared.regions.BusAddress.{BusAddress}
use Rattle.dt_model.specs.Names.{Name}
use Rattle.dt_model.specs.Path.{Path}
use Rattle.dt_resolve_model.specs.Above.{front}
use Rattle.dt_resolve_model.specs.Answers.{Answer, undetermined, refused, answer, ◌>>=◌}
use Rattle.dt_resolve_model.specs.World.{World}
use Rattle.dt_resolve_model.specs.Regions.{risen, translated}

bind_answer : {A : Type 0} (x : Answer A) → (x >>= λ a. answer a) ≡ x
bind_answer undetermined = refl
bind_answer (refused fault) = refl
bind_answer (answer a) = refl

bind_bind : {A B C : Type 0} (x : Answer A) (f : A → Answer B) (g : B → Answer C) → ((x >>= f) >>= g) ≡ (x >>= λ a. f a >>= g)
bind_bind undetermined f g = refl
bind_bind (refused fault) f g = refl
bind_bind (answer a) f g = refl

append_none : {A : Type 0} (xs : List A) → xs ++ [] ≡ xs
append_none [] = refl
append_none {A} (x ∷ xs) = ap (λ (ys : List A). x ∷ ys) (append_none xs)

append_again : {A : Type 0} (xs ys zs : List A) → (xs ++ ys) ++ zs ≡ xs ++ (ys ++ zs)
append_again [] ys zs = refl
append_again {A} (x ∷ xs) ys zs = ap (λ (r : List A). x ∷ r) (append_again xs ys zs)

-- one step from the bus itself, and then on from the bus above it
pub translated_up : (w : World) (ranges : Name) (above : Path) (n : Name) (names : List Name) (size : ℕ) (at : BusAddress) → translated w ranges above (n ∷ names) size at ≡ (risen w ranges (above ++ front (n ∷ names)) (above ++ n ∷ names) size at >>= translated w ranges above (front (n ∷ names)) size)
translated_up w ranges above n [] size at = ap (λ (p : Path). risen w ranges p (above ++ n ∷ []) size at) (sym (append_none above)) ∙ sym (bind_answer (risen w ranges (above ++ []) (above ++ n ∷ []) size at))
translated_up w ranges above n (m ∷ names) size at =
    let first = above ++ n ∷ [] in
    let next = risen w ranges above first size in
    let upper : first ++ front (m ∷ names) ≡ above ++ n ∷ front (m ∷ names) = append_again above (n ∷ []) (front (m ∷ names)) in
    let lower : first ++ m ∷ names ≡ above ++ n ∷ m ∷ names = append_again above (n ∷ []) (m ∷ names) in
    ap (λ (x : Answer BusAddress). x >>= next) (translated_up w ranges first m names size at)
    ∙ bind_bind (risen w ranges (first ++ front (m ∷ names)) (first ++ m ∷ names) size at) (translated w ranges first (front (m ∷ names)) size) next
    ∙ ap (λ (p : Path). risen w ranges p (first ++ m ∷ names) size at >>= translated w ranges above (n ∷ front (m ∷ names)) size) upper
    ∙ ap (λ (p : Path). risen w ranges (above ++ n ∷ front (m ∷ names)) p size at >>= translated w ranges above (n ∷ front (m ∷ names)) size) lower

pub risen_once : (w : World) (ranges : Name) (p q : Path) (size : ℕ) (at : BusAddress) → p ≢ [] → q ≡ front p → translated w ranges [] p size at ≡ (risen w ranges q p size at >>= translated w ranges [] q size)
risen_once w ranges [] q size at some is = absurd (some refl)
risen_once w ranges (n ∷ names) q size at some is = translated_up w ranges [] n names size at ∙ ap (λ (z : Path). risen w ranges z (n ∷ names) size at >>= translated w ranges [] z size) (sym is)

pub front_shorter : (p q : Path) → p ≢ [] → q ≡ front p → length q < length p
front_shorter [] q some is = absurd (some refl)
front_shorter (n ∷ names) q some is = let le = less n names in let e : length q ≡ length (front (n ∷ names)) = ap length is in omega arith
  where
    less : (n : Name) (names : List Name) → length (front (n ∷ names)) < suc (length names)
    less n [] = omega arith
    less n (m ∷ names) = let le = less m names in omega arith
