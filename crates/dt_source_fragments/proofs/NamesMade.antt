-- The names that new fragments may not get, and those that they get.
use Rattle.std.proofs.Common.{◌≡◌, ℕ, zero, suc, ◌+◌, ◌*◌, ◌^◌, ◌<◌, ◌≤◌, Bool, true, false, cond, ◌||◌, List, [], ◌∷◌, ◌++◌, length, drop, get_or, slice_get, Option, None, Some, refl, sym, ◌∙◌, ap, arith, append_assoc}
use Rattle.std.specs.Borrow.{Bor}
use Rattle.std.specs.HashSet.{HashSet, contains_by, UpdatesBy}
use Rattle.std.specs.Option.{IfSome}
use Rattle.std.specs.Str.{bytes_eq}
use Rattle.std.proofs.lemmas.Bool.{both_ways, false_from_ne_true}
use Rattle.std.proofs.lemmas.List.{drop_more}
use Rattle.std.proofs.lemmas.Nat.{mul-le}
use Rattle.dt_model.proofs.Cases.{bool_cases}
use Rattle.dt_model.proofs.EventSteps.{bytes_eq-refl, bytes_eq-is}
use Rattle.dt_model.specs.Names.{Name}
use Rattle.dt_model.specs.OverlaySource.{root_children, fragment_name, free_from}
use Rattle.dt_model.specs.Source.{Place, root, block, delete_node, child, label, property, delete_property, delete_child, close, is_among}
use Rattle.dt_source_items.proofs.PlaceLists.{places_from}
use Rattle.dt_source_fragments.specs.FragmentNames.{borrowed, depth_behind, has_name, made_names, root_child, NameSet}

-- ---- the children of the root

-- what a place adds to what those behind it give
pub child_first : (place : Place) (depth : Option ℕ) (places : List Place) → root_children depth (place ∷ places) ≡ root_child place depth ++ root_children (depth_behind place depth) places
child_first root depth places = refl
child_first (block r) depth places = refl
child_first (delete_node r) depth places = refl
child_first (child n) None places = refl
child_first (child n) (Some zero) places = refl
child_first (child n) (Some (suc d)) places = ap (λ (k : ℕ). root_children (Some k) places) (let e : suc (suc d) ≡ suc d + 1 = omega arith in e)
child_first (label l) depth places = refl
child_first (property n v) depth places = refl
child_first (delete_property n) depth places = refl
child_first (delete_child n) depth places = refl
child_first close None places = refl
child_first close (Some zero) places = refl
child_first close (Some (suc d)) places = refl

-- no more bodies are open than places were passed
pub shallow_behind : (place : Place) (depth : Option ℕ) (i : ℕ) → IfSome depth (λ d. d ≤ i) → IfSome (depth_behind place depth) (λ d. d ≤ i + 1)
shallow_behind root depth i h = omega arith
shallow_behind (block r) None i h = tt
shallow_behind (block r) (Some d) i h = omega arith
shallow_behind (delete_node r) None i h = tt
shallow_behind (delete_node r) (Some d) i h = omega arith
shallow_behind (child n) None i h = tt
shallow_behind (child n) (Some d) i h = omega arith
shallow_behind (label l) None i h = tt
shallow_behind (label l) (Some d) i h = omega arith
shallow_behind (property n v) None i h = tt
shallow_behind (property n v) (Some d) i h = omega arith
shallow_behind (delete_property n) None i h = tt
shallow_behind (delete_property n) (Some d) i h = omega arith
shallow_behind (delete_child n) None i h = tt
shallow_behind (delete_child n) (Some d) i h = omega arith
shallow_behind close None i h = tt
shallow_behind close (Some zero) i h = tt
shallow_behind close (Some (suc d)) i h = omega arith

-- the names so far and those that are left
pub one_found : (all old new : List Name) (depth after : Option ℕ) (places : List Place) (i : ℕ) (place : Place) → slice_get places i ≡ Some place →
    old ++ root_children depth (drop i places) ≡ all → new ≡ old ++ root_child place depth → after ≡ depth_behind place depth →
    new ++ root_children after (drop (i + 1) places) ≡ all
one_found all old new depth after places i place is before more next =
    let rest = drop (i + 1) places in
    let left = places_from places i place is in
    ap (λ (ns : List Name). ns ++ root_children after rest) more
    ∙ ap (λ (o : Option ℕ). (old ++ root_child place depth) ++ root_children o rest) next
    ∙ append_assoc old (root_child place depth) (root_children (depth_behind place depth) rest)
    ∙ ap (λ (ns : List Name). old ++ ns) (sym (child_first place depth rest))
    ∙ ap (λ (ps : List Place). old ++ root_children depth ps) (sym left)
    ∙ before

-- ---- the names as a set

turned : (x y : Name) → bytes_eq x y ≡ bytes_eq y x
turned x y =
    bool_cases (bytes_eq x y) _
    (λ yes. yes ∙ sym (ap (bytes_eq y) (bytes_eq-is x y yes) ∙ bytes_eq-refl y))
    (λ no. no ∙ sym (false_from_ne_true (bytes_eq y x) (λ yes. both_ways (bytes_eq x y) no (ap (bytes_eq x) (bytes_eq-is y x yes) ∙ bytes_eq-refl x))))

either : (a b : Bool) → cond a true b ≡ (a || b)
either true b = refl
either false b = refl

-- the hash set's change is one more name
pub has_more : {S : Type 0} (m n : HashSet (Bor (List ℕ)) S) (k : Bor (List ℕ)) →
    UpdatesBy (λ (a b : Bor (List ℕ)). bytes_eq a.now b.now) (λ (b : Bor (List ℕ)). bytes_eq k.now b.now) m n true → (x : Name) →
    contains_by (λ (b : Bor (List ℕ)). bytes_eq x b.now) n ≡ (bytes_eq x k.now || contains_by (λ (b : Bor (List ℕ)). bytes_eq x b.now) m)
has_more m n k u x =
    u.0 (record k { now = x }) ∙ either (bytes_eq k.now x) (contains_by (λ (b : Bor (List ℕ)). bytes_eq x b.now) m)
    ∙ ap (λ b. b || contains_by (λ (b : Bor (List ℕ)). bytes_eq x b.now) m) (turned k.now x)

over : (a b c : Bool) → ((a || b) || c) ≡ (b || (a || c))
over true true c = refl
over true false c = refl
over false b c = refl

-- the set so far and what is left have all names
pub one_hashed : (all : Bool) (old new : NameSet) (names : List (Bor (List ℕ))) (i : ℕ) (d : Bor (List ℕ)) (x : Name) → i < length names →
    (has_name old x || is_among x (borrowed (drop i names))) ≡ all → has_name new x ≡ (bytes_eq x (get_or names i d).now || has_name old x) →
    (has_name new x || is_among x (borrowed (drop (i + 1) names))) ≡ all
one_hashed all old new names i d x near before more =
    let rest = is_among x (borrowed (drop (i + 1) names)) in
    let here = bytes_eq x (get_or names i d).now in
    let left : is_among x (borrowed (drop i names)) ≡ (here || rest) = ap (λ (ns : List (Bor (List ℕ))). is_among x (borrowed ns)) (drop_more names i d near) in
    ap (λ b. b || rest) more ∙ over here (has_name old x) rest ∙ ap (λ b. has_name old x || b) (sym left) ∙ before

-- ---- the numbers

-- a name that nobody has is the first
pub found_free : (written : List Name) (tries n : ℕ) → is_among (fragment_name n) written ≡ false → free_from written tries n ≡ n
found_free written zero n free = refl
found_free written (suc tries) n free = ap (λ b. cond b (free_from written tries (n + 1)) n) free

pub passed_over : (written : List Name) (tries more n : ℕ) → tries ≡ suc more → is_among (fragment_name n) written ≡ true → free_from written tries n ≡ free_from written more (n + 1)
passed_over written tries more n is taken =
    ap (λ (k : ℕ). free_from written k n) is ∙ ap (λ b. cond b (free_from written more (n + 1)) n) taken

-- no more numbers are passed over than are tried
pub free_near : (written : List Name) (tries n : ℕ) → free_from written tries n ≤ n + tries
free_near written zero n = omega arith
free_near written (suc tries) n =
    bool_cases (is_among (fragment_name n) written) _
    (λ taken. let e = passed_over written (suc tries) tries n refl taken in let near = free_near written tries (n + 1) in omega arith)
    (λ free. let e = found_free written (suc tries) n free in omega arith)

-- one more name, and those behind it
pub one_made : (written old new : List Name) (count more next after : ℕ) → count ≡ suc more → new ≡ old ++ fragment_name (free_from written (length written) next) ∷ [] →
    after ≡ free_from written (length written) next + 1 → new ++ made_names written more after ≡ old ++ made_names written count next
one_made written old new count more next after is pushed behind =
    let name = fragment_name (free_from written (length written) next) in
    ap (λ (ns : List Name). ns ++ made_names written more after) pushed
    ∙ append_assoc old (name ∷ []) (made_names written more after)
    ∙ ap (λ (n : ℕ). old ++ name ∷ made_names written more n) behind
    ∙ ap (λ (k : ℕ). old ++ made_names written k next) (sym is)

-- the next number is far below the greatest
pub room : (made count next names : ℕ) → made < count → count < 2 ^ 64 → names < 2 ^ 64 → next ≤ made * (names + 1) → next + names + 1 < 2 ^ 128
room made count next names less few known low =
    let product : (made + 1) * (names + 1) ≤ 18446744073709551615 * 18446744073709551616 = mul-le (made + 1) (names + 1) 18446744073709551615 18446744073709551616 (omega arith) (omega arith) in
    omega arith

pub still_low : (written : List Name) (made next after : ℕ) → after ≡ free_from written (length written) next + 1 → next ≤ made * (length written + 1) → after ≤ (made + 1) * (length written + 1)
still_low written made next after behind low = let near = free_near written (length written) next in omega arith
