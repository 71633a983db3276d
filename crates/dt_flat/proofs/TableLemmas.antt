-- The tables of nodes and of properties, as their rows have them.
use Rattle.std.proofs.Common.{◌≡◌, ℕ, zero, suc, ◌+◌, ◌-◌, ◌<◌, ◌≤◌, Bool, true, false, cond, eqb, List, [], ◌∷◌, ◌++◌, length, drop, map, get_or, set, slice_get, Option, Some, None, option_map, refl, sym, ap, ◌∙◌, arith}
use Rattle.std.specs.List.{AllByRecursion}
use Rattle.dt_model.specs.Names.{Name}
use Rattle.dt_flat.specs.declared.nodes.Branch.{Branch}
use Rattle.dt_flat.specs.Chain.{ranks}
use Rattle.dt_flat.specs.Rows.{Row, Held, nodes_of, is_row, place_of, held, rows_of, value_held, put, property_of, property_at, owned, branches, parents_of, child_from}

pub place-within : (p k j : ℕ) (rs : List Row) → place_of p k rs ≡ Some j → j < length rs
place-within p k j [] e = cc
place-within p k j (r ∷ rs) e = by (is_row p k r) (place_of p k rs) (λ i. place-within p k i rs) e
  where
    by : (b : Bool) (o : Option ℕ) → ((i : ℕ) → o ≡ Some i → i < length rs) → cond b (Some 0) (option_map suc o) ≡ Some j → j < suc (length rs)
    by true o rec h = let z : 0 ≡ j = cc in omega (arith, z)
    by false None rec h = cc
    by false (Some i) rec h = let s : suc i ≡ j = cc in omega (arith, s, rec i refl)

-- ---- nodes

pub length-branches : (rs : List Row) (ds : List ℕ) → length ds ≡ length rs → length (branches rs ds) ≡ length rs
length-branches [] ds e = refl
length-branches (r ∷ rs) [] e = absurd (omega (arith, e))
length-branches (r ∷ rs) (d ∷ ds) e = ap suc (length-branches rs ds (omega (arith, e)))

pub parents-branches : (rs : List Row) (ds : List ℕ) → length ds ≡ length rs → parents_of (branches rs ds) ≡ nodes_of rs
parents-branches [] ds e = refl
parents-branches (r ∷ rs) [] e = absurd (omega (arith, e))
parents-branches (r ∷ rs) (d ∷ ds) e = ap (λ (ps : List ℕ). r.0 ∷ ps) (parents-branches rs ds (omega (arith, e)))

pub branch-at : (rs : List Row) (ds : List ℕ) (k : ℕ) (r : Row) (d : ℕ) → k < length ds → slice_get rs k ≡ Some r → d ≡ get_or ds k d
    → slice_get (branches rs ds) k ≡ Some (record { parent = r.0; name = r.1; depth = d })
branch-at [] ds k r d lt at is = cc
branch-at (x ∷ xs) [] k r d lt at is = absurd (omega (arith, lt))
branch-at (x ∷ xs) (e ∷ es) zero r d lt at is =
    let same : x ≡ r = cc in
    λ i. Some (record { parent = (same i).0; name = (same i).1; depth = (sym is) i })
branch-at (x ∷ xs) (e ∷ es) (suc k) r d lt at is = branch-at xs es k r d (omega (arith, lt)) at is

pub child-place : (i p k : ℕ) (rs : List Row) (ds : List ℕ) → length ds ≡ length rs → child_from i p k (branches rs ds) ≡ option_map (λ j. j + i) (place_of p k rs)
child-place i p k [] ds e = refl
child-place i p k (r ∷ rs) [] e = absurd (omega (arith, e))
child-place i p k (r ∷ rs) (d ∷ ds) e = by (is_row p k r) (place_of p k rs) (child-place (suc i) p k rs ds (omega (arith, e)))
  where
    by : (b : Bool) (o : Option ℕ) → child_from (suc i) p k (branches rs ds) ≡ option_map (λ j. j + suc i) o
        → cond b (Some i) (child_from (suc i) p k (branches rs ds)) ≡ option_map (λ j. j + i) (cond b (Some 0) (option_map suc o))
    by true o h = let z : i ≡ 0 + i = omega arith in ap (λ (n : ℕ). Some n) z
    by false None h = h
    by false (Some j) h = let s : j + suc i ≡ suc j + i = omega arith in h ∙ ap (λ (n : ℕ). Some n) s

pub branches-push : (rs : List Row) (ds : List ℕ) (p k d : ℕ) → length ds ≡ length rs
    → branches (rs ++ (p, k) ∷ []) (ds ++ d ∷ []) ≡ branches rs ds ++ record { parent = p; name = k; depth = d } ∷ []
branches-push [] [] p k d e = refl
branches-push [] (x ∷ xs) p k d e = absurd (omega (arith, e))
branches-push (r ∷ rs) [] p k d e = absurd (omega (arith, e))
branches-push (r ∷ rs) (x ∷ xs) p k d e = ap (λ (bs : List Branch). record { parent = r.0; name = r.1; depth = x } ∷ bs) (branches-push rs xs p k d (omega (arith, e)))

-- ---- properties

pub length-held : (rs : List Row) (vs : List (List ℕ)) → length vs ≡ length rs → length (held rs vs) ≡ length rs
length-held [] vs e = refl
length-held (r ∷ rs) [] e = absurd (omega (arith, e))
length-held (r ∷ rs) (v ∷ vs) e = ap suc (length-held rs vs (omega (arith, e)))

pub rows-held : (rs : List Row) (vs : List (List ℕ)) → length vs ≡ length rs → rows_of (held rs vs) ≡ rs
rows-held [] vs e = refl
rows-held (r ∷ rs) [] e = absurd (omega (arith, e))
rows-held (r ∷ rs) (v ∷ vs) e = ap (λ (xs : List Row). r ∷ xs) (rows-held rs vs (omega (arith, e)))

pub held-at : (rs : List Row) (vs : List (List ℕ)) (k : ℕ) (r : Row) (v : List ℕ) → slice_get rs k ≡ Some r → slice_get vs k ≡ Some v
    → slice_get (held rs vs) k ≡ Some (record { node = r.0; name = r.1; value = v })
held-at [] vs k r v at is = cc
held-at (x ∷ xs) [] k r v at is = cc
held-at (x ∷ xs) (w ∷ ws) zero r v at is =
    let row : x ≡ r = cc in
    let value : w ≡ v = cc in
    λ i. Some (record { node = (row i).0; name = (row i).1; value = value i })
held-at (x ∷ xs) (w ∷ ws) (suc k) r v at is = held-at xs ws k r v at is

pub value-none : (p k : ℕ) (rs : List Row) (vs : List (List ℕ)) → length vs ≡ length rs → place_of p k rs ≡ None → value_held p k (held rs vs) ≡ None
value-none p k [] vs e none = refl
value-none p k (r ∷ rs) [] e none = absurd (omega (arith, e))
value-none p k (r ∷ rs) (v ∷ vs) e none = by (is_row p k r) (place_of p k rs) (value-none p k rs vs (omega (arith, e))) none
  where
    by : (b : Bool) (o : Option ℕ) → (o ≡ None → value_held p k (held rs vs) ≡ None) → cond b (Some 0) (option_map suc o) ≡ None
        → cond b (Some v) (value_held p k (held rs vs)) ≡ None
    by true o rec h = cc
    by false None rec h = rec refl
    by false (Some i) rec h = cc

pub place-none : (p k : ℕ) (rs : List Row) (vs : List (List ℕ)) → length vs ≡ length rs → value_held p k (held rs vs) ≡ None → place_of p k rs ≡ None
place-none p k [] vs e none = refl
place-none p k (r ∷ rs) [] e none = absurd (omega (arith, e))
place-none p k (r ∷ rs) (v ∷ vs) e none = by (is_row p k r) (place-none p k rs vs (omega (arith, e))) none
  where
    by : (b : Bool) → (value_held p k (held rs vs) ≡ None → place_of p k rs ≡ None) → cond b (Some v) (value_held p k (held rs vs)) ≡ None
        → cond b (Some 0) (option_map suc (place_of p k rs)) ≡ None
    by true rec h = cc
    by false rec h = ap (λ (o : Option ℕ). option_map suc o) (rec h)

pub value-place : (p k j : ℕ) (rs : List Row) (vs : List (List ℕ)) (v : List ℕ) → place_of p k rs ≡ Some j → slice_get vs j ≡ Some v → value_held p k (held rs vs) ≡ Some v
value-place p k j [] vs v at is = cc
value-place p k j (r ∷ rs) [] v at is = cc
value-place p k j (r ∷ rs) (w ∷ ws) v at is = by (is_row p k r) (place_of p k rs) (λ i h. value-place p k i rs ws v h) at
  where
    by : (b : Bool) (o : Option ℕ) → ((i : ℕ) → o ≡ Some i → slice_get ws i ≡ Some v → value_held p k (held rs ws) ≡ Some v) → cond b (Some 0) (option_map suc o) ≡ Some j
        → cond b (Some w) (value_held p k (held rs ws)) ≡ Some v
    by true o rec h =
        let z : 0 ≡ j = cc in
        ap (λ (n : ℕ). slice_get (w ∷ ws) n) z ∙ is
    by false None rec h = cc
    by false (Some i) rec h =
        let s : suc i ≡ j = cc in
        rec i refl (ap (λ (n : ℕ). slice_get (w ∷ ws) n) s ∙ is)

-- where a row is there is a value
pub value-there : (k : ℕ) (vs : List (List ℕ)) → k < length vs → (v : List ℕ) × (slice_get vs k ≡ Some v)
value-there k [] lt = absurd (omega (arith, lt))
value-there zero (v ∷ vs) lt = (v, refl)
value-there (suc k) (v ∷ vs) lt = value-there k vs (omega (arith, lt))

pub put-place : (p k j : ℕ) (rs : List Row) (vs : List (List ℕ)) (v : List ℕ) → length vs ≡ length rs → place_of p k rs ≡ Some j → held rs (set vs j v) ≡ put (held rs vs) p k v
put-place p k j [] vs v e at = cc
put-place p k j (r ∷ rs) [] v e at = absurd (omega (arith, e))
put-place p k j (r ∷ rs) (w ∷ ws) v e at = by (is_row p k r) (place_of p k rs) (λ i h. put-place p k i rs ws v (omega (arith, e)) h) at
  where
    by : (b : Bool) (o : Option ℕ) → ((i : ℕ) → o ≡ Some i → held rs (set ws i v) ≡ put (held rs ws) p k v) → cond b (Some 0) (option_map suc o) ≡ Some j
        → held (r ∷ rs) (set (w ∷ ws) j v)
        ≡ cond b (record { node = r.0; name = r.1; value = v } ∷ held rs ws) (record { node = r.0; name = r.1; value = w } ∷ put (held rs ws) p k v)
    by true o rec h =
        let z : j ≡ 0 = cc in
        ap (λ (n : ℕ). held (r ∷ rs) (set (w ∷ ws) n v)) z
    by false None rec h = cc
    by false (Some i) rec h =
        let s : j ≡ suc i = cc in
        ap (λ (n : ℕ). held (r ∷ rs) (set (w ∷ ws) n v)) s ∙ ap (λ (hs : List Held). record { node = r.0; name = r.1; value = w } ∷ hs) (rec i refl)

pub put-push : (p k : ℕ) (rs : List Row) (vs : List (List ℕ)) (v : List ℕ) → length vs ≡ length rs → place_of p k rs ≡ None
    → held (rs ++ (p, k) ∷ []) (vs ++ v ∷ []) ≡ put (held rs vs) p k v
put-push p k [] [] v e none = refl
put-push p k [] (x ∷ xs) v e none = absurd (omega (arith, e))
put-push p k (r ∷ rs) [] v e none = absurd (omega (arith, e))
put-push p k (r ∷ rs) (w ∷ ws) v e none = by (is_row p k r) (place_of p k rs) (put-push p k rs ws v (omega (arith, e))) none
  where
    by : (b : Bool) (o : Option ℕ) → (o ≡ None → held (rs ++ (p, k) ∷ []) (ws ++ v ∷ []) ≡ put (held rs ws) p k v) → cond b (Some 0) (option_map suc o) ≡ None
        → record { node = r.0; name = r.1; value = w } ∷ held (rs ++ (p, k) ∷ []) (ws ++ v ∷ [])
        ≡ cond b (record { node = r.0; name = r.1; value = v } ∷ held rs ws) (record { node = r.0; name = r.1; value = w } ∷ put (held rs ws) p k v)
    by true o rec h = cc
    by false None rec h = ap (λ (hs : List Held). record { node = r.0; name = r.1; value = w } ∷ hs) (rec refl)
    by false (Some i) rec h = cc

-- ---- the properties of one node

pub ranks-within : (i : ℕ) (os : List ℕ) (p n : ℕ) → i + length os ≤ n → AllByRecursion (λ rank. (0 < rank) × (rank ≤ n)) (ranks (suc i) os p)
ranks-within i [] p n le = tt
ranks-within i (o ∷ os) p n le = by (eqb o p) (ranks-within (suc i) os p n (omega (arith, le)))
  where
    by : (b : Bool) → AllByRecursion (λ rank. (0 < rank) × (rank ≤ n)) (ranks (suc (suc i)) os p)
        → AllByRecursion (λ rank. (0 < rank) × (rank ≤ n)) (cond b (suc i ∷ ranks (suc (suc i)) os p) (ranks (suc (suc i)) os p))
    by true h = ((omega arith, omega (arith, le)), h)
    by false h = h

drop-held : (i : ℕ) (whole : List Held) (h : Held) (hs : List Held) → drop i whole ≡ h ∷ hs → drop (suc i) whole ≡ hs
drop-held zero [] h hs e = cc
drop-held zero (x ∷ xs) h hs e = cc
drop-held (suc i) [] h hs e = cc
drop-held (suc i) (x ∷ xs) h hs e = drop-held i xs h hs e

held-first : (i : ℕ) (whole : List Held) (h d : Held) (hs : List Held) → drop i whole ≡ h ∷ hs → get_or whole i d ≡ h
held-first zero [] h d hs e = cc
held-first zero (x ∷ xs) h d hs e = cc
held-first (suc i) [] h d hs e = cc
held-first (suc i) (x ∷ xs) h d hs e = held-first i xs h d hs e

pub owned-ranks : (names : List Name) (whole : List Held) (i : ℕ) (hs : List Held) (p : ℕ) → drop i whole ≡ hs
    → map (property_at names whole) (ranks (suc i) (nodes_of (rows_of hs)) p) ≡ owned names hs p
owned-ranks names whole i [] p is = refl
owned-ranks names whole i (h ∷ hs) p is = by (eqb h.node p) (owned-ranks names whole (suc i) hs p (drop-held i whole h hs is))
  where
    by : (b : Bool) → map (property_at names whole) (ranks (suc (suc i)) (nodes_of (rows_of hs)) p) ≡ owned names hs p
        → map (property_at names whole) (cond b (suc i ∷ ranks (suc (suc i)) (nodes_of (rows_of hs)) p) (ranks (suc (suc i)) (nodes_of (rows_of hs)) p))
        ≡ cond b (property_of names h ∷ owned names hs p) (owned names hs p)
    by true rest =
        let at : suc i - 1 ≡ i = omega arith in
        let first : property_at names whole (suc i) ≡ property_of names h =
        ap (λ (k : ℕ). property_of names (get_or whole k (record { node = 0; name = 0; value = [] }))) at ∙ ap (property_of names) (held-first i whole h (record { node = 0; name = 0; value = [] }) hs is) in
        λ j. first j ∷ rest j
    by false rest = rest
