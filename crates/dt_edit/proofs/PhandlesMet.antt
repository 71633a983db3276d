-- The phandles that a walk meets are the tree's; and numbers that are marked as they are met.
use Rattle.std.proofs.Common.{◌≡◌, ℕ, ◌+◌, ◌-◌, ◌<◌, ◌≤◌, Bool, true, false, cond, ◌||◌, List, [], ◌∷◌, ◌++◌, map, length, codes, refl, sym, ap, subst, ◌∙◌, append_assoc, arith, inl, inr}
use Rattle.std.specs.Prelude.{get_or, nat_eq}
use Rattle.std.specs.Int.{w32, from_be_bytes}
use Rattle.std.specs.List.{AllByRecursion, list_any}
use Rattle.std.specs.Str.{bytes_eq}
use Rattle.std.proofs.lemmas.Bool.{cases_lt}
use Rattle.std.proofs.lemmas.List.{append-nil}
use Rattle.dt_model.specs.Numbers.{numbers_of}
use Rattle.dt_model.specs.Tree.{Property}
use Rattle.dt_model.proofs.Tests.{bytes_eq_true}
use Rattle.dt_model.specs.Valid.{AreNodes, IsPhandle, IsValid, IsWithinLimits, phandle_values, phandles}
use Rattle.dt_model_laws.proofs.Numbered.{few_taken}
use Rattle.dt_overlay_base.specs.Known.{IsNext}
use Rattle.dt_overlay_base.proofs.FreeNumbers.{few_between, between_more}
use Rattle.dt_read.specs.Marks.{prop_mark}
use Rattle.dt_read.specs.Phandle.{phandles_in}
use Rattle.dt_trees.specs.Placed.{Nodes, no_nodes, node, PlacedTree, forest_of, reading_of}
use Rattle.dt_read.specs.Walked.{Step, opens, holds, closes, steps_of, steps_of_nodes}
use Rattle.dt_read.proofs.Apart.{own_phandles}

-- ---- the values of `phandle` among some steps

abbrev pub met : List Step → List (List ℕ)
met [] = []
met (opens place name ∷ steps) = met steps
met (holds p ∷ steps) = cond (bytes_eq (codes "phandle") p.name) (p.value ∷ met steps) (met steps)
met (closes ∷ steps) = met steps

met_properties : (ps : List Property) (steps : List Step) → met (map holds ps ++ steps) ≡ phandles_in (map prop_mark ps) ++ met steps
met_properties [] steps = refl
met_properties (p ∷ ps) steps = step (bytes_eq (codes "phandle") p.name) (met_properties ps steps)
  where
    step : (b : Bool) → met (map holds ps ++ steps) ≡ phandles_in (map prop_mark ps) ++ met steps
        → cond b (p.value ∷ met (map holds ps ++ steps)) (met (map holds ps ++ steps)) ≡ cond b (p.value ∷ phandles_in (map prop_mark ps)) (phandles_in (map prop_mark ps)) ++ met steps
    step true e = ap (λ (vs : List (List ℕ)). p.value ∷ vs) e
    step false e = e

met_nodes : (ns : Nodes) (steps : List Step) → AreNodes (forest_of ns) → met (steps_of_nodes ns ++ steps) ≡ phandles (forest_of ns) ++ met steps
met_nodes no_nodes steps a = refl
met_nodes (node place name ps cs ss) steps a =
    let inner : List Step = steps_of_nodes cs ++ closes ∷ steps_of_nodes ss in
    ap met (append_assoc (map holds ps) inner steps)
    ∙ met_properties ps (inner ++ steps)
    ∙ ap (λ vs. vs ++ met (inner ++ steps)) (own_phandles ps (a.1).distinct)
    ∙ ap (λ (vs : List (List ℕ)). phandle_values ps ++ vs)
    (ap met (append_assoc (steps_of_nodes cs) (closes ∷ steps_of_nodes ss) steps) ∙ met_nodes cs (closes ∷ (steps_of_nodes ss ++ steps)) a.2 ∙ ap (λ (vs : List (List ℕ)). phandles (forest_of cs) ++ vs) (met_nodes ss steps a.4))
    ∙ regroup (phandle_values ps) (phandles (forest_of cs)) (phandles (forest_of ss)) (met steps)
  where
    regroup : (a b c d : List (List ℕ)) → a ++ (b ++ (c ++ d)) ≡ ((a ++ b) ++ c) ++ d
    regroup a b c d = simp append_assoc

-- those of a whole walk
pub all_met : (t : PlacedTree) → IsValid (reading_of t) → met (steps_of t) ≡ phandle_values t.properties ++ phandles (forest_of t.children)
all_met t valid =
    met_properties t.properties (steps_of_nodes t.children ++ closes ∷ [])
    ∙ ap (λ vs. vs ++ met (steps_of_nodes t.children ++ closes ∷ [])) (own_phandles t.properties valid.properties.distinct)
    ∙ ap (λ vs. phandle_values t.properties ++ vs) (met_nodes t.children (closes ∷ []) valid.nodes ∙ append-nil (phandles (forest_of t.children)))

-- ---- numbers that are marked

-- of the numbers behind another, those are marked that the steps before have; what is left has the others
pub record IsMarked (t : PlacedTree) (last : ℕ) (taken : List Bool) (left : List Step) : Type 0 where
  pub seen : List (List ℕ)
  pub whole : seen ++ met left ≡ phandle_values t.properties ++ phandles (forest_of t.children)
  pub long : length taken ≡ 65536
  pub are : (k : ℕ) → k < 65536 → get_or taken k false ≡ list_any (nat_eq (last + 1 + k)) (map (from_be_bytes w32) seen)

any_more : (n : ℕ) (xs : List ℕ) (y : ℕ) → list_any (nat_eq n) (xs ++ y ∷ []) ≡ (list_any (nat_eq n) xs || nat_eq n y)
any_more n [] y = step (nat_eq n y)
  where
    step : (b : Bool) → (b || false) ≡ (false || b)
    step true = refl
    step false = refl
any_more n (x ∷ xs) y = ap (λ (b : Bool). nat_eq n x || b) (any_more n xs y) ∙ step (nat_eq n x) (list_any (nat_eq n) xs) (nat_eq n y)
  where
    step : (a b c : Bool) → (a || (b || c)) ≡ ((a || b) || c)
    step true b c = refl
    step false b c = refl

map_more : (xs : List (List ℕ)) (y : List ℕ) → map (from_be_bytes w32) (xs ++ y ∷ []) ≡ map (from_be_bytes w32) xs ++ from_be_bytes w32 y ∷ []
map_more [] y = refl
map_more (x ∷ xs) y = ap (λ (ns : List ℕ). from_be_bytes w32 x ∷ ns) (map_more xs y)

-- nothing is marked of a whole walk
pub none_marked : (t : PlacedTree) (last : ℕ) (taken : List Bool) → IsValid (reading_of t) → length taken ≡ 65536 → ((k : ℕ) → k < 65536 → get_or taken k false ≡ false) → IsMarked t last taken (steps_of t)
none_marked t last taken valid long none = record { seen = []; whole = all_met t valid; long = long; are = λ k lt. none k lt }

-- a step that gives no number
pub passed_step : (t : PlacedTree) (last : ℕ) (taken : List Bool) (left rest : List Step) → IsMarked t last taken left → met left ≡ met rest → IsMarked t last taken rest
passed_step t last taken left rest m same = record { seen = m.seen; whole = ap (λ vs. m.seen ++ vs) (sym same) ∙ m.whole; long = m.long; are = m.are }

-- a number
pub marked_step : (t : PlacedTree) (last : ℕ) (taken new : List Bool) (left rest : List Step) (value : List ℕ) (n : ℕ) → IsMarked t last taken left → met left ≡ value ∷ met rest → n ≡ from_be_bytes w32 value
    → length new ≡ length taken → ((k : ℕ) → k < length taken → get_or new k false ≡ (get_or taken k false || nat_eq (last + 1 + k) n)) → IsMarked t last new rest
marked_step t last taken new left rest value n m same is long marked =
    let size = m.long in record {
      seen = m.seen ++ value ∷ [];
      whole = append_assoc m.seen (value ∷ []) (met rest) ∙ ap (λ vs. m.seen ++ vs) (sym same) ∙ m.whole;
      long = long ∙ size;
      are = λ k lt.
          marked k (omega (arith, lt, size))
          ∙ ap (λ (b : Bool). b || nat_eq (last + 1 + k) n) (m.are k lt)
          ∙ ap (λ (j : ℕ). list_any (nat_eq (last + 1 + k)) (map (from_be_bytes w32) m.seen) || nat_eq (last + 1 + k) j) is
          ∙ sym (ap (list_any (nat_eq (last + 1 + k))) (map_more m.seen value) ∙ any_more (last + 1 + k) (map (from_be_bytes w32) m.seen) (from_be_bytes w32 value));
    }

-- each value that is left is a phandle
pub phandle_met : (t : PlacedTree) (last : ℕ) (taken : List Bool) (left rest : List Step) (value : List ℕ) → IsValid (reading_of t) → IsMarked t last taken left → met left ≡ value ∷ met rest → IsPhandle value
phandle_met t last taken left rest value valid m same =
    (behind m.seen (met left) (subst (AllByRecursion IsPhandle) (sym m.whole) valid.phandles_valid) value (met rest) same)
  where
    behind : (xs ys : List (List ℕ)) → AllByRecursion IsPhandle (xs ++ ys) → (v : List ℕ) (zs : List (List ℕ)) → ys ≡ v ∷ zs → IsPhandle v
    behind [] ys all v zs e = (subst (AllByRecursion IsPhandle) e all).0
    behind (x ∷ xs) ys all v zs e = behind xs ys all.1 v zs e

-- the first that isn't marked is the next number
pub next_is : (t : PlacedTree) (last free : ℕ) (taken : List Bool) → IsWithinLimits (reading_of t) → IsMarked t last taken [] → free ≤ length taken → ((k : ℕ) → k < free → get_or taken k false ≡ true)
    → (free < length taken → get_or taken free false ≡ false) → IsNext (numbers_of (reading_of t)) last (last + 1 + free)
next_is t last free taken within m fits front behind = record { above = omega arith; free = own; between = between }
  where
    all : numbers_of (reading_of t) ≡ map (from_be_bytes w32) m.seen
    all = ap (map (from_be_bytes w32)) (sym m.whole ∙ append-nil m.seen)

    marked : (k : ℕ) → k < 65536 → get_or taken k false ≡ list_any (nat_eq (last + 1 + k)) (numbers_of (reading_of t))
    marked k lt = m.are k lt ∙ ap (list_any (nat_eq (last + 1 + k))) (sym all)

    between : (k : ℕ) → last < k → k < last + 1 + free → list_any (nat_eq k) (numbers_of (reading_of t)) ≡ true
    between k above below =
        let long = m.long in
        let at : last + 1 + (k - last - 1) ≡ k = omega arith in
        ap (λ (j : ℕ). list_any (nat_eq j) (numbers_of (reading_of t))) (sym at) ∙ sym (marked (k - last - 1) (omega (arith, long))) ∙ front (k - last - 1) (omega arith)

    own : list_any (nat_eq (last + 1 + free)) (numbers_of (reading_of t)) ≡ false
    own = elim (cases_lt free 65536) [
      | inl lt ↦ sym (marked free lt) ∙ behind (let long = m.long in omega (arith, long))
      | inr past ↦ by (list_any (nat_eq (last + 1 + free)) (numbers_of (reading_of t))) refl past
    ]
      where
        by : (b : Bool) → list_any (nat_eq (last + 1 + free)) (numbers_of (reading_of t)) ≡ b → 65536 ≤ free → b ≡ false
        by false e past = refl
        by true e past =
            let more = few_between (numbers_of (reading_of t)) last (last + 1 + free + 1) (between_more (numbers_of (reading_of t)) last (last + 1 + free) between e) in
            absurd (omega (arith, more, few_taken (reading_of t) within, past))

-- a property `phandle`, and any other
pub met_phandle : (name value : List ℕ) (rest : List Step) → name ≡ codes "phandle" → met (holds (record { name = name; value = value }) ∷ rest) ≡ value ∷ met rest
met_phandle name value rest e = ap (λ (n : List ℕ). cond (bytes_eq (codes "phandle") n) (value ∷ met rest) (met rest)) e

pub met_other : (name value : List ℕ) (rest : List Step) → ¬ (name ≡ codes "phandle") → met (holds (record { name = name; value = value }) ∷ rest) ≡ met rest
met_other name value rest other = step (bytes_eq (codes "phandle") name) refl
  where
    step : (b : Bool) → bytes_eq (codes "phandle") name ≡ b → cond b (value ∷ met rest) (met rest) ≡ met rest
    step true e = absurd (other (sym (bytes_eq_true (codes "phandle") name e)))
    step false e = refl
