-- A path's text, name by name.
use Rattle.std.proofs.Common.{◌≡◌, ◌≢◌, ℕ, suc, ◌+◌, List, [], ◌∷◌, ◌++◌, length, codes, refl, sym, ap, ◌∙◌, append_assoc, append-nil, arith}
use Rattle.dt_model.specs.Names.{Name}
use Rattle.dt_model.specs.Path.{Path, path_text}
use Rattle.dt_trees.specs.Placed.{PlacedTree, last_name, path_at}
use Rattle.dt_resolve_model.specs.Above.{front}
use Rattle.dt_view.specs.Ways.{names_text, way_text}

pub names_are : (p : Path) → p ≢ [] → path_text p ≡ names_text p
names_are [] some = absurd (some refl)
names_are (x ∷ []) some = ap (λ l. codes "/" ++ l) (sym (append-nil x))
names_are (x ∷ y ∷ p) some = ap (λ l. codes "/" ++ (x ++ l)) (names_are (y ∷ p) (λ e. let z : y ∷ p ≡ [] = e in cc))

-- the last name goes over to what is behind
pub one_name_less : (p q : Path) (rest : List ℕ) → p ≢ [] → q ≡ front p → names_text q ++ (codes "/" ++ (last_name p ++ rest)) ≡ names_text p ++ rest
one_name_less p q rest some is = ap (λ l. names_text l ++ (codes "/" ++ (last_name p ++ rest))) is ∙ last p some
  where
    last : (p : Path) → p ≢ [] → names_text (front p) ++ (codes "/" ++ (last_name p ++ rest)) ≡ names_text p ++ rest
    last [] some = absurd (some refl)
    last (x ∷ []) some = ap (λ l. codes "/" ++ l) (ap (λ l. l ++ rest) (sym (append-nil x)))
    last (x ∷ y ∷ p) some =
        ap (λ l. codes "/" ++ l) (append_assoc x (names_text (front (y ∷ p))) (codes "/" ++ (last_name (y ∷ p) ++ rest))
        ∙ ap (λ l. x ++ l) (last (y ∷ p) (λ e. let z : y ∷ p ≡ [] = e in cc))
        ∙ sym (append_assoc x (names_text (y ∷ p)) rest))

pub one_shorter : (p q : Path) → p ≢ [] → q ≡ front p → length p ≡ length q + 1
one_shorter p q some is = less p some ∙ ap (λ (r : Path). length r + 1) (sym is)
  where
    less : (p : Path) → p ≢ [] → length p ≡ length (front p) + 1
    less [] some = absurd (some refl)
    less (x ∷ []) some = refl
    less (x ∷ y ∷ p) some = let more = less (y ∷ p) (λ e. let z : y ∷ p ≡ [] = e in cc) in let e : suc (length (y ∷ p)) ≡ suc (length (front (y ∷ p))) + 1 = omega arith in e

pub next_on_way : (t : PlacedTree) (way rest : List ℕ) (k : ℕ) (name : Name) → way ≡ k ∷ rest → name ≡ last_name (path_at t k) → way_text t way ≡ (codes "/" ++ (name ++ [])) ++ way_text t rest
next_on_way t way rest k name is same =
    ap (way_text t) is
    ∙ ap (λ l. codes "/" ++ (l ++ way_text t rest)) (sym same)
    ∙ ap (λ l. codes "/" ++ (l ++ way_text t rest)) (sym (append-nil name))
