-- A tree has as many nodes as there are distinct paths that stand.
use Rattle.std.proofs.Common.{◌≡◌, ◌≢◌, ℕ, suc, ◌≤◌, ◌<◌, true, List, [], ◌∷◌, length, reverse, refl, sym, ap, subst, ◌∙◌, inl, inr, arith}
use Rattle.std.proofs.lemmas.List.{length-map}
use Rattle.dt_model.specs.Limits.{most_nodes}
use Rattle.dt_model.specs.Path.{Path}
use Rattle.dt_model.specs.Lists.{IsIn}
use Rattle.dt_model.specs.Meaning.{Meaning}
use Rattle.dt_model.specs.Event.{stands}
use Rattle.dt_model.specs.Source.{Events, SoFar}
use Rattle.dt_model.specs.Tree.{Reading, Placed, nodes_of, stands_in}
use Rattle.dt_model.specs.Valid.{AreDistinct, node_count}
use Rattle.dt_model.specs.Numbers.{paths_of}
use Rattle.dt_model.specs.Refused.{StandMany}
use Rattle.dt_model_laws.specs.CompiledTrees.{FewAreNotRefused}
use Rattle.dt_model.proofs.Tests.{each_in, in_map}
use Rattle.dt_model.proofs.Listed.{stands_listed}
use Rattle.dt_model.proofs.Preorder.{length-preorder}
use Rattle.dt_model_laws.proofs.SourceRefusals.{one_end}

-- ---- distinct elements of a list are no more than the list has

-- a list without one of its elements
abbrev Without : {X : Type 0} → X → List X → Type 0
Without {X} x ys = (zs : List X) × (length ys ≡ suc (length zs)) × ((y : X) → IsIn y ys → y ≢ x → IsIn y zs)

without : {X : Type 0} (x : X) (ys : List X) → IsIn x ys → Without x ys
without x [] i = absurd i
without x (y ∷ ys) (inl e) = (ys, refl, λ z i other. elim i [ inl s ↦ absurd (other (s ∙ sym e)) | inr j ↦ j ])
without x (y ∷ ys) (inr i) =
    let w = without x ys i in
    (y ∷ w.0, ap suc w.1, λ z i other. elim i [ inl s ↦ inl s | inr j ↦ inr (w.2 z j other) ])

pub no_more : {X : Type 0} (xs ys : List X) → AreDistinct xs → ((x : X) → IsIn x xs → IsIn x ys) → length xs ≤ length ys
no_more [] ys d to = omega arith
no_more (x ∷ xs) ys d to =
    let w = without x ys (to x (inl refl)) in
    let le = no_more xs w.0 d.1 (λ z i. w.2 z (to z (inr i)) (each_in (λ y. y ≢ x) xs z d.0 i)) in
    let e : length ys ≡ suc (length w.0) = w.1 in
    omega (arith, le, e)

-- ---- nodes

pub length-paths_of : (t : Reading) → length (paths_of t) ≡ suc (node_count t.children)
length-paths_of t = length-map (nodes_of t) (λ (n : Placed). n.path) ∙ ap suc (length-preorder [] t.children)

pub stands_among : (t : Reading) (p : Path) → stands_in t p ≡ true → IsIn p (paths_of t)
stands_among t p h = let w = stands_listed t p h in subst (λ q. IsIn q (paths_of t)) w.2 (in_map (λ (n : Placed). n.path) (nodes_of t) w.0 w.1)

-- nodes that stand in a tree with as many nodes as this
pub not_many : (limit : ℕ) (es : Events) (t : Reading) → ((p : Path) → stands_in t p ≡ stands es (reverse p)) → StandMany limit es → limit < suc (node_count t.children)
not_many limit es t same h =
    let le = no_more h.paths (paths_of t) h.distinct (λ p i. stands_among t p (same p ∙ each_in (λ p. stands es (reverse p) ≡ true) h.paths p h.standing i)) in
    let e = length-paths_of t in
    let many : limit < length h.paths = h.many in
    omega (arith, le, e, many)

pub few_not_refused : FewAreNotRefused
few_not_refused mode reservations places t i few h =
    let end : h.0 ≡ i.means.so_far = one_end h.0 i.means.so_far h.1 i.means.all_read in
    let many : StandMany most_nodes i.means.so_far.events = subst (λ (s : SoFar). StandMany most_nodes s.events) end h.3 in
    let more = not_many most_nodes i.means.so_far.events t (λ p. i.instance.nodes p ∙ ap (λ (m : Meaning). m.stands p) i.means.means) many in
    absurd (omega (arith, more, few))
