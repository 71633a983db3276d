-- A text is that of one path at most, where the names are names.
use Rattle.std.proofs.Common.{◌≡◌, ◌≢◌, ℕ, ◌==◌, ◌<◌, Bool, false, ◌||◌, List, [], ◌∷◌, ◌++◌, refl, sym, ap, ◌∙◌, true≢false, append_assoc, IsTrue, arith}
use Rattle.std.specs.List.{AllByRecursion}
use Rattle.std.proofs.lemmas.List.Elements.{recursion_from_All}
use Rattle.dt_model.specs.Names.{Name, IsNodeName, IsPropertyName, is_name_byte}
use Rattle.dt_model.specs.Path.{Path, path_text, path_value}
use Rattle.dt_model.proofs.Tests.{each_append}

-- the bytes hold no b
abbrev pub HasNo : ℕ → List ℕ → Type 0
HasNo b bytes = AllByRecursion (λ c. c ≢ b) bytes

-- what stands before the first b
pub first_part : (b : ℕ) (xs ys us vs : List ℕ) → HasNo b xs → HasNo b us → xs ++ b ∷ ys ≡ us ++ b ∷ vs → (xs ≡ us) × (ys ≡ vs)
first_part b [] ys [] vs h k e = (refl, cc)
first_part b [] ys (u ∷ us) vs h k e = absurd (k.0 (let z : b ≡ u = cc in sym z))
first_part b (x ∷ xs) ys [] vs h k e = absurd (h.0 (let z : x ≡ b = cc in z))
first_part b (x ∷ xs) ys (u ∷ us) vs h k e =
    let head : x ≡ u = cc in
    let tail : xs ++ b ∷ ys ≡ us ++ b ∷ vs = cc in
    let w = first_part b xs ys us vs h.1 k.1 tail in
    (ap (λ z. z ∷ xs) head ∙ ap (λ z. u ∷ z) w.0, w.1)

each_other : (b : ℕ) (ok : ℕ → Bool) → ok b ≡ false → (bytes : List ℕ) → AllByRecursion (λ c. IsTrue (ok c)) bytes → HasNo b bytes
each_other b ok never [] h = tt
each_other b ok never (c ∷ bytes) h = (λ e. true≢false (sym h.0 ∙ ap ok e ∙ never), each_other b ok never bytes h.1)

pub node_name_has_no : (b : ℕ) (name : Name) → IsNodeName name → (is_name_byte b || (b == 64)) ≡ false → HasNo b name
node_name_has_no b name h never = each_other b (λ c. is_name_byte c || (c == 64)) never name (recursion_from_All (λ c. IsTrue (is_name_byte c || (c == 64))) name h.allowed)

pub property_name_has_no : (b : ℕ) (name : Name) → IsPropertyName name → is_name_byte b ≡ false → HasNo b name
property_name_has_no b name h never = each_other b is_name_byte never name (recursion_from_All (λ c. IsTrue (is_name_byte c)) name h.allowed)

-- each name of a path, with a slash behind it
abbrev ended : Path → List ℕ
ended [] = []
ended (x ∷ p) = x ++ 47 ∷ ended p

path_text-ended : (x : Name) (p : Path) → path_text (x ∷ p) ++ 47 ∷ [] ≡ 47 ∷ ended (x ∷ p)
path_text-ended x [] = refl
path_text-ended x (y ∷ p) =
    ap (λ z. 47 ∷ z) (append_assoc x (path_text (y ∷ p)) (47 ∷ []) ∙ ap (λ z. x ++ z) (path_text-ended y p))

one_ended : (p q : Path) → AllByRecursion IsNodeName p → AllByRecursion IsNodeName q → ended p ≡ ended q → p ≡ q
one_ended [] [] h k e = refl
one_ended [] ([] ∷ q) h k e = absurd (let z : ◌≡◌ {A = List ℕ} [] (47 ∷ ended q) = e in cc)
one_ended [] ((b ∷ y) ∷ q) h k e = absurd (let z : ◌≡◌ {A = List ℕ} [] (b ∷ (y ++ 47 ∷ ended q)) = e in cc)
one_ended ([] ∷ p) [] h k e = absurd (let z : ◌≡◌ {A = List ℕ} (47 ∷ ended p) [] = e in cc)
one_ended ((b ∷ x) ∷ p) [] h k e = absurd (let z : ◌≡◌ {A = List ℕ} (b ∷ (x ++ 47 ∷ ended p)) [] = e in cc)
one_ended (x ∷ p) (y ∷ q) h k e =
    let w = first_part 47 x (ended p) y (ended q) (node_name_has_no 47 x h.0 refl) (node_name_has_no 47 y k.0 refl) e in
    ap (λ z. z ∷ p) w.0 ∙ ap (λ z. y ∷ z) (one_ended p q h.1 k.1 w.1)

not_root : (y : Name) (q : Path) → IsNodeName y → 47 ∷ 47 ∷ [] ≡ 47 ∷ ended (y ∷ q) → ⊥
not_root [] q h e = let z : 0 < 0 = h.not_empty in omega arith
not_root (b ∷ y) q h e =
    let never = node_name_has_no 47 (b ∷ y) h refl in
    let z : 47 ∷ 47 ∷ [] ≡ 47 ∷ (b ∷ (y ++ 47 ∷ ended q)) = e in
    let same : 47 ≡ b = cc in
    never.0 (sym same)

pub one_text : (p q : Path) → AllByRecursion IsNodeName p → AllByRecursion IsNodeName q → path_text p ≡ path_text q → p ≡ q
one_text [] [] h k e = refl
one_text [] (y ∷ q) h k e = absurd (not_root y q k.0 (ap (λ z. z ++ 47 ∷ []) e ∙ path_text-ended y q))
one_text (x ∷ p) [] h k e = absurd (not_root x p h.0 (ap (λ z. z ++ 47 ∷ []) (sym e) ∙ path_text-ended x p))
one_text (x ∷ p) (y ∷ q) h k e =
    let both : 47 ∷ ended (x ∷ p) ≡ 47 ∷ ended (y ∷ q) = sym (path_text-ended x p) ∙ ap (λ z. z ++ 47 ∷ []) e ∙ path_text-ended y q in
    let tails : ended (x ∷ p) ≡ ended (y ∷ q) = cc in
    one_ended (x ∷ p) (y ∷ q) h k tails

pub path_text_has_no : (b : ℕ) (p : Path) → AllByRecursion IsNodeName p → b ≢ 47 → (is_name_byte b || (b == 64)) ≡ false → HasNo b (path_text p)
path_text_has_no b [] h ne never = (λ e. ne (sym e), tt)
path_text_has_no b (x ∷ []) h ne never = (λ e. ne (sym e), node_name_has_no b x h.0 never)
path_text_has_no b (x ∷ y ∷ p) h ne never =
    (λ e. ne (sym e), each_append (λ c. c ≢ b) x (path_text (y ∷ p)) (node_name_has_no b x h.0 never) (path_text_has_no b (y ∷ p) h.1 ne never))

pub one_value : (p q : Path) → AllByRecursion IsNodeName p → AllByRecursion IsNodeName q → path_value p ≡ path_value q → p ≡ q
one_value p q h k e =
    let w = first_part 0 (path_text p) [] (path_text q) [] (path_text_has_no 0 p h (λ z. (let y : 0 ≡ 47 = z in omega arith)) refl) (path_text_has_no 0 q k (λ z. (let y : 0 ≡ 47 = z in omega arith)) refl) e in
    one_text p q h k w.0
