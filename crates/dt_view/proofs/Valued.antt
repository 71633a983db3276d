-- The table of values, as it is filled on the way through a tree.
use Rattle.std.proofs.Common.{◌≡◌, ℕ, ◌-◌, ◌≤◌, nat_eq, Bool, true, false, cond, List, [], ◌∷◌, ◌++◌, length, map, take, drop, Option, Some, None, refl, sym, ap, subst, ◌∙◌, inl, inr, append_assoc, true≢false, arith}
use Rattle.std.specs.Prelude.{is_some}
use Rattle.std.specs.List.{between}
use Rattle.std.specs.Str.{bytes_eq}
use Rattle.std.proofs.lemmas.Bool.{eqb-true, eq-eqb}
use Rattle.std.proofs.lemmas.List.{append-nil, map-append, length-append, length-drop, take-append-le, drop-append-le, drop_at}
use Rattle.std.proofs.lemmas.Slice.{between_to_end}
use Rattle.std.proofs.lemmas.Slice.Eq.{bytes_eq-Decides}
use Rattle.dt_model.specs.Lists.{IsIn}
use Rattle.dt_model.specs.Names.{Name}
use Rattle.dt_model.specs.Path.{Path}
use Rattle.dt_model.specs.Tree.{Property, Placed, Node, node_at, nodes_of, value_of, value_in}
use Rattle.dt_model.specs.Valid.{IsValid}
use Rattle.dt_model.proofs.Listed.{stands_listed}
use Rattle.dt_model.proofs.Tests.{in_append}
use Rattle.dt_trees.specs.Placed.{PlacedTree, reading_of, path_at, place_of, properties_at, IsNode}
use Rattle.dt_read.specs.Walked.{Step, opens, steps_of}
use Rattle.dt_trees.proofs.NodePlaces.{stands_place}
use Rattle.dt_view.specs.declared.tables.Row.{Row}
use Rattle.dt_view.specs.declared.tables.Asked.{Asked}
use Rattle.dt_view.specs.Tables.{at_number, asked_of, asked_said, first_found, is_whole_name, AreNoted, AreValues, HasValues}
use Rattle.dt_read.proofs.Opened.{opened, AreOpened}
use Rattle.dt_read.proofs.Openings.{OpensNext, all_opened, next_opened, none_opened}

-- ---- the properties that are asked for whole

-- what they ask for is found among those
pub asked_found : (ps : List Property) (x : Name) → is_whole_name x ≡ true → value_of (asked_of ps) x ≡ value_of ps x
asked_found [] x asked = refl
asked_found (p ∷ ps) x asked = by (asked_found ps x asked) (is_whole_name p.name) refl
  where
    other : (b : Bool) → bytes_eq x p.name ≡ b → is_whole_name p.name ≡ false → b ≡ false
    other true is un = absurd (true≢false (sym asked ∙ ap is_whole_name ((bytes_eq-Decides x p.name).0 is) ∙ un))
    other false is un = refl

    by : value_of (asked_of ps) x ≡ value_of ps x → (b : Bool) → is_whole_name p.name ≡ b → value_of (cond (is_whole_name p.name) (p ∷ asked_of ps) (asked_of ps)) x ≡ cond (bytes_eq x p.name) (Some p.value) (value_of ps x)
    by rest true is = ap (λ b. value_of (cond b (p ∷ asked_of ps) (asked_of ps)) x) is ∙ ap (cond (bytes_eq x p.name) (Some p.value)) rest
    by rest false is =
        ap (λ b. value_of (cond b (p ∷ asked_of ps) (asked_of ps)) x) is ∙ rest ∙ ap (λ b. cond b (Some p.value) (value_of ps x)) (sym (other (bytes_eq x p.name) refl is))

asked_next : (p : Property) (ps : List Property) → asked_of (p ∷ ps) ≡ asked_of (p ∷ []) ++ asked_of ps
asked_next p ps = by (is_whole_name p.name)
  where
    by : (b : Bool) → cond b (p ∷ asked_of ps) (asked_of ps) ≡ cond b (p ∷ []) [] ++ asked_of ps
    by true = refl
    by false = refl

-- the properties that are left come next
abbrev pub AreNoting : List Asked → List Asked → List Property → List Property → Type 0
AreNoting old new left properties = (more : List Asked) × (new ≡ old ++ more) × (map asked_said more ++ asked_of left ≡ asked_of properties)

pub noting_first : (old : List Asked) (left properties : List Property) → left ≡ properties → AreNoting old old left properties
noting_first old left properties e = ([], sym (append-nil old), ap asked_of e)

pub noting_next : (old mid new : List Asked) (p : Property) (left rest properties : List Property) → left ≡ p ∷ rest → AreNoting old mid left properties → AreNoted mid new (p ∷ []) →
    AreNoting old new rest properties
noting_next old mid new p left rest properties e before note = (
  before.0 ++ note.0,
  note.1 ∙ ap (λ (z : List Asked). z ++ note.0) before.1 ∙ append_assoc old before.0 note.0,
  ap (λ (z : List Property). z ++ asked_of rest) (map-append asked_said before.0 note.0 ∙ ap (λ (z : List Property). map asked_said before.0 ++ z) note.2)
      ∙ append_assoc (map asked_said before.0) (asked_of (p ∷ [])) (asked_of rest)
      ∙ ap (λ (z : List Property). map asked_said before.0 ++ z) (sym (asked_next p rest) ∙ ap asked_of (sym e))
      ∙ before.2,
)

pub noting_all : (old new : List Asked) (left properties : List Property) → left ≡ [] → AreNoting old new left properties → AreNoted old new properties
noting_all old new left properties e before =
    (before.0, before.1, sym (append-nil (map asked_said before.0)) ∙ ap (λ (z : List Property). map asked_said before.0 ++ asked_of z) (sym e) ∙ before.2)

-- what was found before the properties that are left, and then what is found in them
pub found_next : (before new whole : Option (List ℕ)) (p : Property) (left rest : List Property) (x : Name) → left ≡ p ∷ rest → new ≡ first_found before (value_of (p ∷ []) x)
    → first_found before (value_of left x) ≡ whole → first_found new (value_of rest x) ≡ whole
found_next before new whole p left rest x e is all = ap (λ o. first_found o (value_of rest x)) is ∙ step before (bytes_eq x p.name) ∙ ap (λ ps. first_found before (value_of ps x)) (sym e) ∙ all
  where
    step : (o : Option (List ℕ)) (b : Bool) → first_found (first_found o (cond b (Some p.value) None)) (value_of rest x) ≡ first_found o (cond b (Some p.value) (value_of rest x))
    step (Some v) b = refl
    step None true = refl
    step None false = refl

pub found_all : (found whole : Option (List ℕ)) (left : List Property) (x : Name) → left ≡ [] → first_found found (value_of left x) ≡ whole → found ≡ whole
found_all found whole left x e all = same found ∙ ap (λ ps. first_found found (value_of ps x)) (sym e) ∙ all
  where
    same : (o : Option (List ℕ)) → o ≡ first_found o None
    same None = refl
    same (Some v) = refl

-- the values of a path's node are those of its properties
pub value_of_all : (t : PlacedTree) (p : Path) (x : Name) → value_in (reading_of t) p x ≡ value_of (properties_at t p) x
value_of_all t p x = by (node_at (reading_of t) p) refl
  where
    by : (o : Option Node) → node_at (reading_of t) p ≡ o → value_in (reading_of t) p x ≡ value_of (properties_at t p) x
    by None e = rw e refl
    by (Some n) e = rw e refl

-- ---- step by step

between_kept : {X : Type 0} (i j : ℕ) (xs ys : List X) → i ≤ j → j ≤ length xs → between i j (xs ++ ys) ≡ between i j xs
between_kept i j xs ys le inside =
    let left = length-drop i xs in
    ap (take (j - i)) (drop-append-le i xs ys (omega (arith, le, inside))) ∙ take-append-le (j - i) (drop i xs) ys (omega (arith, le, inside, left))

between_new : {X : Type 0} (xs ys : List X) (j : ℕ) → j ≡ length (xs ++ ys) → between (length xs) j (xs ++ ys) ≡ ys
between_new xs ys j e = between_to_end (xs ++ ys) (length xs) j (omega (arith, e)) ∙ drop_at xs ys (length xs) refl

-- more values change nothing of a row
values_kept : (t : PlacedTree) (old more : List Asked) (k : ℕ) (row : Row) → HasValues t old k row → HasValues t (old ++ more) k row
values_kept t old more k row h =
    let longer = length-append old more in
    record {
      ordered = h.ordered;
      within = omega (arith, h.within, longer);
      asked = ap (map asked_said) (between_kept row.first row.behind old more h.ordered h.within) ∙ h.asked;
    }

values_new : (t : PlacedTree) (old more : List Asked) (k : ℕ) (row : Row) → row.first ≡ length old → row.behind ≡ length (old ++ more) → map asked_said more ≡ asked_of (properties_at t (path_at t k)) →
    HasValues t (old ++ more) k row
values_new t old more k row e f asked =
    let longer = length-append old more in
    record {
      ordered = omega (arith, e, f, longer);
      within = omega (arith, f);
      asked = ap (λ (i : ℕ). map asked_said (between i row.behind (old ++ more))) e ∙ ap (map asked_said) (between_new old more row.behind f) ∙ asked;
    }

-- the rows have the values of the nodes that were opened, and the steps open the others
pub record AreValued (t : PlacedTree) (values : List Asked) (rows : List (ℕ × Row)) (steps : List Step) : Type 0 where
  pub before : List Placed
  pub nodes : List Placed
  pub are : AreOpened t before nodes steps
  pub valued : AreValues t before values rows

pub none_valued : (t : PlacedTree) → IsValid (reading_of t) → AreValued t [] [] (steps_of t)
none_valued t valid = record { before = []; nodes = nodes_of (reading_of t); are = all_opened t valid; valued = λ n k i at. absurd i }

pub one_valued : (t : PlacedTree) (old new : List Asked) (rows rows' : List (ℕ × Row)) (k : ℕ) (row : Row) (name : Name) (steps rest : List Step) → AreValued t old rows steps → steps ≡ opens k name ∷ rest →
    AreNoted old new (properties_at t (path_at t k)) → row.first ≡ length old → row.behind ≡ length new →
    ((j : ℕ) → at_number rows' j ≡ cond (nat_eq k j) (Some row) (at_number rows j)) → AreValued t new rows' rest
one_valued t old new rows rows' k row name steps rest f e noted first behind put = record {
  before = f.before ++ next.first ∷ [];
  nodes = next.later;
  are = next.left;
  valued = valued;
}
  where
    next : OpensNext t f.before f.nodes k rest
    next = next_opened t f.before f.nodes k name rest (subst (AreOpened t f.before f.nodes) e f.are)

    own : HasValues t new k row
    own = subst (λ vs. HasValues t vs k row) (sym noted.1) (values_new t old noted.0 k row first (behind ∙ ap length noted.1) noted.2)

    valued : AreValues t (f.before ++ next.first ∷ []) new rows'
    valued n j i at = by (nat_eq k j) refl
      where
        same : IsIn n (next.first ∷ []) → k ≡ j
        same (inl one) = let z : Some k ≡ Some j = sym next.at ∙ ap (λ (y : Placed). place_of t y.path) (sym one) ∙ at in cc
        same (inr none) = absurd none

        by : (b : Bool) → nat_eq k j ≡ b → (r : Row) × (at_number rows' j ≡ Some r) × HasValues t new j r
        by true is = (row, put j ∙ ap (λ b. cond b (Some row) (at_number rows j)) is, subst (λ m. HasValues t new m row) (eqb-true k j is) own)
        by false is = elim (in_append n f.before (next.first ∷ []) i) [
          | inl before ↦ let r = f.valued n j before at in
              (r.0, put j ∙ ap (λ b. cond b (Some row) (at_number rows j)) is ∙ r.1, subst (λ vs. HasValues t vs j r.0) (sym noted.1) (values_kept t old noted.0 j r.0 r.2))
          | inr here ↦ absurd (true≢false (sym (eq-eqb k j (same here)) ∙ is))
        ]

-- a property, or a node's end
pub others_valued : (t : PlacedTree) (values : List Asked) (rows : List (ℕ × Row)) (steps rest : List Step) → AreValued t values rows steps → opened steps ≡ opened rest → AreValued t values rows rest
others_valued t values rows steps rest f same = record {
  before = f.before;
  nodes = f.nodes;
  are = record { whole = f.are.whole; places = f.are.places ∙ ap (map (λ k. Some k)) same };
  valued = f.valued;
}

pub all_valued : (t : PlacedTree) (values : List Asked) (rows : List (ℕ × Row)) (steps : List Step) → AreValued t values rows steps → steps ≡ [] → AreValues t (nodes_of (reading_of t)) values rows
all_valued t values rows steps f e =
    let none : f.nodes ≡ [] = none_opened t f.before f.nodes (subst (AreOpened t f.before f.nodes) e f.are) in
    subst (λ ns. AreValues t ns values rows) (sym (f.are.whole ∙ ap (λ ns. f.before ++ ns) none ∙ append-nil f.before)) f.valued

-- ---- what the rows have

-- a node's row is there, and has its values
pub row_of : (t : PlacedTree) (values : List Asked) (rows : List (ℕ × Row)) (k : ℕ) → AreValues t (nodes_of (reading_of t)) values rows → IsNode t k → (row : Row) × (at_number rows k ≡ Some row) × HasValues t values k row
row_of t values rows k are is =
    let n = stands_listed (reading_of t) (path_at t k) (sym (stands_place t (path_at t k)) ∙ ap is_some is) in
    are n.0 k n.1 (ap (place_of t) n.2 ∙ is)

pub row_is : (t : PlacedTree) (values : List Asked) (rows : List (ℕ × Row)) (k : ℕ) (row : Row) → AreValues t (nodes_of (reading_of t)) values rows → IsNode t k → Some row ≡ at_number rows k → HasValues t values k row
row_is t values rows k row are is e =
    let found = row_of t values rows k are is in
    let both : Some found.0 ≡ Some row = sym found.1 ∙ sym e in
    subst (HasValues t values k) (let same : found.0 ≡ row = cc in same) found.2

pub row_is_there : (t : PlacedTree) (values : List Asked) (rows : List (ℕ × Row)) (k : ℕ) → AreValues t (nodes_of (reading_of t)) values rows → IsNode t k → None ≡ at_number rows k → ⊥
row_is_there t values rows k are is e = let found = row_of t values rows k are is in let both : None ≡ Some found.0 = e ∙ found.1 in cc

-- and what the rules ask for is found there
pub value_in_row : (t : PlacedTree) (values : List Asked) (k : ℕ) (row : Row) (x : Name) → is_whole_name x ≡ true → HasValues t values k row →
    value_of (map asked_said (between row.first row.behind values)) x ≡ value_in (reading_of t) (path_at t k) x
value_in_row t values k row x asked h =
    ap (λ (ps : List Property). value_of ps x) h.asked ∙ asked_found (properties_at t (path_at t k)) x asked ∙ sym (value_of_all t (path_at t k) x)
