-- There is one list of numbers for what nodes ask for.
use Rattle.std.proofs.Common.{◌≡◌, ℕ, Bool, true, false, List, [], ◌∷◌, ◌++◌, refl, sym, ap, subst, ◌∙◌, inl, inr, Option, Some, None}
use Rattle.std.specs.Prelude.{if◌then◌else◌}
use Rattle.std.specs.Option.{option_to_list}
use Rattle.dt_model.specs.Path.{Path}
use Rattle.dt_model.specs.Lists.{IsIn}
use Rattle.dt_model.specs.Meaning.{Meaning}
use Rattle.dt_model.specs.Numbering.{Asked, IsNumberFor, AreNumbersFor, numbers_by}
use Rattle.dt_model_laws.proofs.LeastNumbers.{one_least}

one_number : (taken : List ℕ) (written : Option ℕ) (keyed : Bool) (number other : Option ℕ) → IsNumberFor taken written keyed number → IsNumberFor taken written keyed other → number ≡ other
one_number taken (Some n) keyed number other h k = h ∙ sym k
one_number taken None false number other h k = h ∙ sym k
one_number taken None true None other h k = absurd h
one_number taken None true (Some n) None h k = absurd k
one_number taken None true (Some n) (Some m) h k = ap Some (one_least taken n m h k)

pub one_numbering : (taken : List ℕ) (xs : List Asked) (numbers others : List (Option ℕ)) → AreNumbersFor taken xs numbers → AreNumbersFor taken xs others → numbers ≡ others
one_numbering taken [] [] [] h k = refl
one_numbering taken [] [] (o ∷ others) h k = absurd k
one_numbering taken [] (n ∷ numbers) others h k = absurd h
one_numbering taken (x ∷ xs) [] others h k = absurd h
one_numbering taken (x ∷ xs) (n ∷ numbers) [] h k = absurd k
one_numbering taken (x ∷ xs) (n ∷ numbers) (o ∷ others) h k =
    let same : n ≡ o = one_number taken x.written x.keyed n o h.0 k.0 in
    let rest = one_numbering (option_to_list o ++ taken) xs numbers others (subst (λ y. AreNumbersFor (option_to_list y ++ taken) xs numbers) same h.1) k.1 in
    ap (λ y. y ∷ numbers) same ∙ ap (λ ys. o ∷ ys) rest

-- ---- the numbers of a meaning's nodes

number_of_keyed : (m : Meaning) (f g : Path → ℕ) (p : Path) (b : Bool) → m.keyed p ≡ b
    → ◌≡◌ {A = Option ℕ} (if b then Some (f p) else None) (if b then Some (g p) else None) → m.keyed p ≡ true → f p ≡ g p
number_of_keyed m f g p true h e k = cc
number_of_keyed m f g p false h e k = cc

pub numbers_agree : (m : Meaning) (f g : Path → ℕ) (ps : List Path) (p : Path) → numbers_by m f ps ≡ numbers_by m g ps → IsIn p ps → m.keyed p ≡ true → f p ≡ g p
numbers_agree m f g [] p e i k = absurd i
numbers_agree m f g (q ∷ ps) p e (inl same) k =
    let first : ◌≡◌ {A = Option ℕ} (if m.keyed q then Some (f q) else None) (if m.keyed q then Some (g q) else None) = cc in
    subst (λ r. f r ≡ g r) (sym same) (number_of_keyed m f g q (m.keyed q) refl first (subst (λ r. m.keyed r ≡ true) same k))
numbers_agree m f g (q ∷ ps) p e (inr i) k = numbers_agree m f g ps p (cc) i k
