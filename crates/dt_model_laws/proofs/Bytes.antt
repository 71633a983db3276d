-- The bytes of names and of paths' texts are bytes.
use Rattle.std.proofs.Common.{◌≡◌, ℕ, ◌<◌, ◌||◌, true, List, [], ◌∷◌, ◌++◌, map, codes, arith}
use Rattle.std.specs.List.{AllByRecursion}
use Rattle.std.specs.Bool.{IsTrue, ◌==◌}
use Rattle.std.proofs.lemmas.Bool.Decides.{nat_tests}
use Rattle.std.proofs.lemmas.List.Elements.{recursion_from_All}
use Rattle.dt_model.specs.Names.{Name, IsNodeName, is_name_byte}
use Rattle.dt_model.specs.Path.{Path, path_text, path_value}
use Rattle.dt_model.specs.Meaning.{Item, byte, reference, AreBytes, EachReference}
use Rattle.dt_model.proofs.Cases.{all_map}
use Rattle.dt_model.proofs.Tests.{each_append}

abbrev pub IsByte : ℕ → Type 0
IsByte b = b < 256

name_byte : (b : ℕ) → (is_name_byte b || (b == 64)) ≡ true → b < 256
name_byte b h = grind (arith, nat_tests)

pub name_bytes : (n : Name) → IsNodeName n → AllByRecursion IsByte n
name_bytes n h = all_map (λ b. IsTrue (is_name_byte b || (b == 64))) IsByte name_byte n (recursion_from_All (λ b. IsTrue (is_name_byte b || (b == 64))) n h.allowed)

slash : AllByRecursion IsByte (codes "/")
slash = (omega arith, tt)

text_bytes : (p : Path) → AllByRecursion IsNodeName p → AllByRecursion IsByte (path_text p)
text_bytes [] h = slash
text_bytes (x ∷ []) h = each_append IsByte (codes "/") x slash (name_bytes x h.0)
text_bytes (x ∷ y ∷ p) h =
    each_append IsByte (codes "/") (x ++ path_text (y ∷ p)) slash (each_append IsByte x (path_text (y ∷ p)) (name_bytes x h.0) (text_bytes (y ∷ p) h.1))

pub path_bytes : (p : Path) → AllByRecursion IsNodeName p → AllByRecursion IsByte (path_value p)
path_bytes p h = each_append IsByte (path_text p) (0 ∷ []) (text_bytes p h) (omega arith, tt)

pub are_bytes-map : (R : Type 0) (bs : List ℕ) → AllByRecursion IsByte bs → AreBytes {R = R} (map byte bs)
are_bytes-map R [] h = tt
are_bytes-map R (b ∷ bs) h = (h.0, are_bytes-map R bs h.1)

module _ {R : Type 0} where
  pub are_bytes-append : (xs ys : List (Item R)) → AreBytes xs → AreBytes ys → AreBytes (xs ++ ys)
  are_bytes-append [] ys h k = k
  are_bytes-append (byte b ∷ xs) ys h k = (h.0, are_bytes-append xs ys h.1 k)
  are_bytes-append (reference r ∷ xs) ys h k = are_bytes-append xs ys h k

  pub each-append : (P : R → Type 0) (xs ys : List (Item R)) → EachReference P xs → EachReference P ys → EachReference P (xs ++ ys)
  each-append P [] ys h k = k
  each-append P (byte b ∷ xs) ys h k = each-append P xs ys h k
  each-append P (reference r ∷ xs) ys h k = (h.0, each-append P xs ys h.1 k)

  pub each-map : (P : R → Type 0) (bs : List ℕ) → EachReference P (map byte bs)
  each-map P [] = tt
  each-map P (b ∷ bs) = each-map P bs
