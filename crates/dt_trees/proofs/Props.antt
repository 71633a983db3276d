-- Properties, as they are put into a list and as a loop goes over them.
use Rattle.std.proofs.Common.{◌≡◌, ℕ, zero, suc, ◌+◌, ◌<◌, ◌≤◌, List, [], ◌∷◌, ◌++◌, drop, get_or, length, refl, sym, ap, ◌∙◌, append_assoc, append-nil, arith}
use Rattle.std.proofs.lemmas.List.{map-append}
use Rattle.dt_model.specs.Tree.{Property}
use Rattle.dt_trees.specs.declared.view.Prop.{Prop}
use Rattle.dt_trees.specs.Views.{prop_said, props_said}

-- one more is put
pub props_more : (xs ys : List Prop) (p : Prop) (left rest all : List Property) → ys ≡ xs ++ p ∷ [] → left ≡ prop_said p ∷ rest → props_said xs ++ left ≡ all → props_said ys ++ rest ≡ all
props_more xs ys p left rest all put e so_far =
    ap (λ (zs : List Prop). props_said zs ++ rest) put ∙ ap (λ (qs : List Property). qs ++ rest) (map-append prop_said xs (p ∷ []))
    ∙ append_assoc (props_said xs) (prop_said p ∷ []) rest ∙ ap (λ (qs : List Property). props_said xs ++ qs) (sym e) ∙ so_far

-- none is left
pub props_all : (xs : List Prop) (left all : List Property) → left ≡ [] → props_said xs ++ left ≡ all → props_said xs ≡ all
props_all xs left all none so_far = sym (append-nil (props_said xs)) ∙ ap (λ (qs : List Property). props_said xs ++ qs) (sym none) ∙ so_far

-- the next of a list
pub next_prop : (xs : List Prop) (i : ℕ) (d : Prop) → i < length xs → drop i (props_said xs) ≡ prop_said (get_or xs i d) ∷ drop (i + 1) (props_said xs)
next_prop [] i d lt = absurd (omega (arith, lt))
next_prop (x ∷ xs) zero d lt = refl
next_prop (x ∷ xs) (suc i) d lt =
    let on : suc (i + 1) ≡ suc i + 1 = omega arith in
    next_prop xs i d (omega (arith, lt)) ∙ ap (λ (n : ℕ). prop_said (get_or xs i d) ∷ drop n (props_said (x ∷ xs))) on

-- and none behind its end
pub no_prop : (xs : List Prop) (i : ℕ) → length xs ≤ i → drop i (props_said xs) ≡ []
no_prop [] zero le = refl
no_prop [] (suc i) le = refl
no_prop (x ∷ xs) zero le = absurd (omega (arith, le))
no_prop (x ∷ xs) (suc i) le = no_prop xs i (omega (arith, le))
