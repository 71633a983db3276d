-- The open bodies, and what changes of the tree leave of them.
use Rattle.std.proofs.Common.{◌≡◌, ℕ, ◌+◌, ◌-◌, ◌<◌, ◌≤◌, Bool, true, false, List, [], ◌∷◌, ◌++◌, Option, Some, None, Result, Err, ◌&&◌, ◌||◌, cond, nat_eq, nat_lt, length, drop, slice_get, refl, sym, ◌∙◌, ap, subst, arith, length-append}
use Rattle.std.specs.Str.{bytes_eq}
use Rattle.std.proofs.lemmas.Bool.Decides.{nat_tests}
use Rattle.dt_model.specs.Limits.{most_names}
use Rattle.dt_model.specs.Names.{Name}
use Rattle.dt_model.specs.Path.{path_eq}
use Rattle.dt_model.specs.Event.{Stack, opening, giving, definition, undefinition, deletion, is_within, stands}
use Rattle.dt_model.specs.Source.{Part, Refusal, misplaced, Events, Body, SoFar, is_among, enter, outside, inside}
use Rattle.dt_model.proofs.EventSteps.{path_eq-is, bytes_eq-is, bytes_eq-refl}
use Rattle.dt_source_growing.specs.Shape.{Shape, node_at, Shows}
use Rattle.dt_source_bodies.specs.Reading.{is_behind, IsBody, AreOpen, StandsFor}
use Rattle.dt_source_bodies.specs.declared.reading.OpenBody.{OpenBody}
use Rattle.dt_model.proofs.Cases.{bool_cases}
use Rattle.dt_source_growing.proofs.TableLemmas.{key_is, key-refl}
use Rattle.dt_source_growing.proofs.Indices.{stands-after}

abbrev pub View : Type 0
View = Shape (List Part)

-- ---- the innermost body

pub snoc_is : (xs ys : List OpenBody) (x y : OpenBody) → xs ++ x ∷ [] ≡ ys ++ y ∷ [] → (xs ≡ ys) × (x ≡ y)
snoc_is [] [] x y h = (refl, cc)
snoc_is [] (b ∷ ys) x y h = let e : length ([] ++ x ∷ []) ≡ length ((b ∷ ys) ++ y ∷ []) = ap length h in let l = length-append ys (y ∷ []) in absurd (omega (arith, e, l))
snoc_is (a ∷ xs) [] x y h = let e : length ((a ∷ xs) ++ x ∷ []) ≡ length ([] ++ y ∷ []) = ap length h in let l = length-append xs (x ∷ []) in absurd (omega (arith, e, l))
snoc_is (a ∷ xs) (b ∷ ys) x y h =
    let t : xs ++ x ∷ [] ≡ ys ++ y ∷ [] = cc in
    let ab : a ≡ b = cc in
    let r = snoc_is xs ys x y t in
    let e : xs ≡ ys = r.0 in
    (cc, r.1)

slice_get-last : (xs : List OpenBody) (x : OpenBody) (n : ℕ) → n ≡ length xs → slice_get (xs ++ x ∷ []) n ≡ Some x
slice_get-last [] x n h = rw h refl
slice_get-last (y ∷ xs) x n h = rw h (slice_get-last xs x (length xs) refl)

pub last_there : (bodies outer : List OpenBody) (e : OpenBody) → bodies ≡ outer ++ e ∷ [] → slice_get bodies (length bodies - 1) ≡ Some e
last_there bodies outer e is =
    let len : length bodies ≡ length outer + 1 = ap length is ∙ length-append outer (e ∷ []) in
    ap (slice_get bodies) (let z : length bodies - 1 ≡ length outer = omega arith in z) ∙ ap (λ xs. slice_get xs (length outer)) is ∙ slice_get-last outer e (length outer) refl

-- the innermost open body, and those around it
pub record Innermost (s : View) (below before : ℕ) (names : Stack) (open_bodies : List OpenBody) (bodies : List Body) (inner : OpenBody) : Type 0 where
  pub body : Body
  pub rest : List Body
  pub outer : List OpenBody
  pub is : bodies ≡ body ∷ rest
  pub open_is : open_bodies ≡ outer ++ inner ∷ []
  pub below_it : inner.node < below
  pub before_it : inner.item < before
  pub its : IsBody s names inner body
  pub around : AreOpen s inner.node before (drop 1 names) outer rest

pub innermost : (s : View) (below before : ℕ) (names : Stack) (open_bodies : List OpenBody) (bodies : List Body) (inner : OpenBody) → AreOpen s below before names open_bodies bodies
    → slice_get open_bodies (length open_bodies - 1) ≡ Some inner → Innermost s below before names open_bodies bodies inner
innermost s below before names open_bodies [] inner o h = let e : slice_get [] (length open_bodies - 1) ≡ Some inner = rw o at h in cc
innermost s below before names open_bodies (b ∷ bs) inner o h =
    let e : open_bodies ≡ o.0 ++ o.1 ∷ [] = o.2 in
    let len : length open_bodies ≡ length o.0 + 1 = ap length e ∙ length-append o.0 (o.1 ∷ []) in
    let at : slice_get open_bodies (length open_bodies - 1) ≡ Some o.1 =
    ap (slice_get open_bodies) (let z : length open_bodies - 1 ≡ length o.0 = omega arith in z) ∙ ap (λ xs. slice_get xs (length o.0)) e ∙ slice_get-last o.0 o.1 (length o.0) refl in
    let same : Some o.1 ≡ Some inner = sym at ∙ h in
    let k : o.1 ≡ inner = cc in
    record {
      body = b;
      rest = bs;
      outer = o.0;
      is = refl;
      open_is = e ∙ ap (λ i. o.0 ++ i ∷ []) k;
      below_it = rw (← k) o.3;
      before_it = rw (← k) o.4;
      its = subst (λ i. IsBody s names i b) k o.5;
      around = subst (λ (i : OpenBody). AreOpen s i.node before (drop 1 names) o.0 bs) k o.6;
    }

pub none_open : (s : View) (below before : ℕ) (names : Stack) (open_bodies : List OpenBody) (bodies : List Body) → AreOpen s below before names open_bodies bodies → length open_bodies ≡ 0
    → (bodies ≡ []) × (open_bodies ≡ [])
none_open s below before names open_bodies [] o h = (refl, o)
none_open s below before names open_bodies (b ∷ bs) o h =
    let len : length open_bodies ≡ length o.0 + 1 = ap length o.2 ∙ length-append o.0 (o.1 ∷ []) in absurd (omega arith)

pub some_open : (s : View) (below before : ℕ) (names : Stack) (open_bodies : List OpenBody) (bodies : List Body) → AreOpen s below before names open_bodies bodies → 0 < length open_bodies
    → (b : Body) × (bs : List Body) × (bodies ≡ b ∷ bs)
some_open s below before names open_bodies [] o h = let z : length open_bodies ≡ 0 = ap length o in absurd (omega arith)
some_open s below before names open_bodies (b ∷ bs) o h = (b, bs, refl)

-- ---- what changes leave

pub are_open-later : (s : View) (below more before after : ℕ) (names : Stack) (open_bodies : List OpenBody) (bodies : List Body) → below ≤ more → before ≤ after
    → AreOpen s below before names open_bodies bodies → AreOpen s more after names open_bodies bodies
are_open-later s below more before after names open_bodies [] le le' o = o
are_open-later s below more before after names open_bodies (b ∷ bs) le le' o =
    (o.0, o.1, o.2, omega (arith, o.3), omega (arith, o.4), o.5, are_open-later s o.1.node o.1.node before after (drop 1 names) o.0 bs (omega arith) le' o.6)

shorter : (names p : Stack) → length p ≤ length (drop 1 names) → length p ≤ length names
shorter [] p h = h
shorter (x ∷ names) p h = omega (arith, h)

-- the bodies of nodes below a number stay where neither they nor what is of them changes
pub are_open-kept : (s t : View) (below before : ℕ) (names : Stack) (open_bodies : List OpenBody) (bodies : List Body)
    → ((p : Stack) (i : ℕ) → length p ≤ length names → node_at s p ≡ Some i → node_at t p ≡ Some i) → ((i : ℕ) (x : Name) → i < below → t.opened i x ≡ s.opened i x)
    → ((i : ℕ) (x : Name) → i < below → t.defined i x ≡ s.defined i x) → AreOpen s below before names open_bodies bodies → AreOpen t below before names open_bodies bodies
are_open-kept s t below before names open_bodies [] nodes opened defined o = o
are_open-kept s t below before names open_bodies (b ∷ bs) nodes opened defined o = (
  o.0,
  o.1,
  o.2,
  o.3,
  o.4,
  record {
    node = nodes names o.1.node (omega arith) o.5.node;
    depth = o.5.depth;
    children = λ x. ap (is_behind o.1.item) (opened o.1.node x o.3) ∙ o.5.children x;
    properties = λ x. ap (is_behind o.1.item) (defined o.1.node x o.3) ∙ o.5.properties x;
  },
  are_open-kept s t o.1.node before (drop 1 names) o.0 bs (λ p i short at. nodes p i (shorter names p short) at)
      (λ i x less. opened i x (omega (arith, less, o.3))) (λ i x less. defined i x (omega (arith, less, o.3))) o.6,
)

-- ---- marks

behind : (item k : ℕ) → k ≤ item → nat_lt item k ≡ false
behind item k h = grind (arith, nat_tests)

pub ahead : (item k : ℕ) → item < k → nat_lt item k ≡ true
ahead item k h = grind (arith, nat_tests)

-- what was marked before the item isn't behind it
pub not_behind : (item : ℕ) (o : Option ℕ) → ((k : ℕ) → o ≡ Some k → k < item) → is_behind item o ≡ false
not_behind item None h = refl
not_behind item (Some k) h = behind item k (let b : k < item = h k refl in omega arith)

-- a mark that is put is behind the body's opening, and a name among those that were met
pub marked : (marks marks' : ℕ → Name → Option ℕ) (a start item : ℕ) (m : Name) (names : List Name) → start < item
    → ((i : ℕ) (x : Name) → marks' i x ≡ cond (nat_eq a i && bytes_eq m x) (Some item) (marks i x))
    → ((x : Name) → is_behind start (marks a x) ≡ is_among x names) → (x : Name) → is_behind start (marks' a x) ≡ is_among x (m ∷ names)
marked marks marks' a start item m names less puts was x =
    bool_cases (nat_eq a a && bytes_eq m x) _
    (λ y.
    let mx : m ≡ x = (key_is a a m x y).1 in
    let now : marks' a x ≡ Some item = puts a x ∙ ap (λ b. cond b (Some item) (marks a x)) y in
    let test : bytes_eq x m ≡ true = rw mx (bytes_eq-refl x) in
    ap (is_behind start) now ∙ ahead start item less ∙ sym (ap (λ b. b || is_among x names) test))
    (λ n.
    let now : marks' a x ≡ marks a x = puts a x ∙ ap (λ b. cond b (Some item) (marks a x)) n in
    let test : bytes_eq x m ≡ false = bool_cases (bytes_eq x m) _
    (λ y2. let xm : x ≡ m = bytes_eq-is x m y2 in let y3 : (nat_eq a a && bytes_eq m x) ≡ true = rw xm (key-refl a m) in cc) (λ n2. n2) in
    ap (is_behind start) now ∙ was x ∙ sym (ap (λ b. b || is_among x names) test))

-- other nodes keep their marks
pub unmarked : (marks marks' : ℕ → Name → Option ℕ) (a item : ℕ) (m : Name) → ((i : ℕ) (x : Name) → marks' i x ≡ cond (nat_eq a i && bytes_eq m x) (Some item) (marks i x))
    → (i : ℕ) (x : Name) → (a ≡ i → ⊥) → marks' i x ≡ marks i x
unmarked marks marks' a item m puts i x other =
    bool_cases (nat_eq a i && bytes_eq m x) _ (λ y. absurd (other (key_is a i m x y).0)) (λ n. puts i x ∙ ap (λ b. cond b (Some item) (marks i x)) n)

pub marked_before : (marks marks' : ℕ → Name → Option ℕ) (a item : ℕ) (m : Name) → ((i : ℕ) (x : Name) → marks' i x ≡ cond (nat_eq a i && bytes_eq m x) (Some item) (marks i x))
    → ((i : ℕ) (x : Name) (k : ℕ) → marks i x ≡ Some k → k < item) → (i : ℕ) (x : Name) (k : ℕ) → marks' i x ≡ Some k → k < item + 1
marked_before marks marks' a item m puts was i x k e =
    bool_cases (nat_eq a i && bytes_eq m x) _
    (λ y. let s : Some item ≡ Some k = sym (puts i x ∙ ap (λ b. cond b (Some item) (marks i x)) y) ∙ e in let z : item ≡ k = cc in omega arith)
    (λ n. let b : k < item = was i x k (sym (puts i x ∙ ap (λ b. cond b (Some item) (marks i x)) n) ∙ e) in omega arith)

-- ---- places at top level and in a body

pub outside-goes : (bodies : List Body) (answer : Result SoFar Refusal) → bodies ≡ [] → outside bodies answer ≡ answer
outside-goes [] answer h = refl
outside-goes (b ∷ bs) answer h = cc

pub outside-refused : (bodies : List Body) (answer : Result SoFar Refusal) (b : Body) (bs : List Body) → bodies ≡ b ∷ bs → outside bodies answer ≡ Err misplaced
outside-refused bodies answer b bs h = ap (λ cs. outside cs answer) h

pub inside-goes : (bodies : List Body) (then : Body → List Body → Result SoFar Refusal) (b : Body) (bs : List Body) → bodies ≡ b ∷ bs → inside bodies then ≡ then b bs
inside-goes bodies then b bs h = ap (λ cs. inside cs then) h

pub inside-refused : (bodies : List Body) (then : Body → List Body → Result SoFar Refusal) → bodies ≡ [] → inside bodies then ≡ Err misplaced
inside-refused bodies then h = ap (λ cs. inside cs then) h

-- ---- nodes that stand aren't deep

abbrev pub AreShallow : Events → Type 0
AreShallow es = (p : Stack) → stands es p ≡ true → length p ≤ most_names

or_cases : (a b : Bool) (P : Type 0) → (a || b) ≡ true → (a ≡ true → P) → (b ≡ true → P) → P
or_cases true b P h f g = f refl
or_cases false b P h f g = g h

pub shallow-opening : (es : Events) (q : Stack) → AreShallow es → length q ≤ most_names → AreShallow (es ++ opening q ∷ [])
shallow-opening es q h few p e =
    or_cases (path_eq q p) (stands es p) _ (sym (stands-after es (opening q) p) ∙ e) (λ y. rw (← path_eq-is q p y) few) (λ s. h p s)

pub shallow-giving : (es : Events) (l : Name) (q : Stack) → AreShallow es → AreShallow (es ++ giving l q ∷ [])
shallow-giving es l q h p e = h p (sym (stands-after es (giving l q) p) ∙ e)

pub shallow-definition : (es : Events) (q : Stack) (n : Name) (v : List Part) → AreShallow es → AreShallow (es ++ definition q n v ∷ [])
shallow-definition es q n v h p e = h p (sym (stands-after es (definition q n v) p) ∙ e)

pub shallow-undefinition : (es : Events) (q : Stack) (n : Name) → AreShallow es → AreShallow (es ++ undefinition q n ∷ [])
shallow-undefinition es q n h p e = h p (sym (stands-after es (undefinition q n) p) ∙ e)

pub shallow-deletion : (es : Events) (q : Stack) → AreShallow es → AreShallow (es ++ deletion q ∷ [])
shallow-deletion es q h p e =
    let now : cond (is_within q p) false (stands es p) ≡ true = sym (stands-after es (deletion q) p) ∙ e in
    bool_cases (is_within q p) _ (λ y. let c : false ≡ true = rw y at now in cc) (λ n. h p (rw n at now))

-- what lies within other names isn't shorter
pub within_long : (q p : Stack) → is_within q p ≡ true → length q ≤ length p
within_long q [] w = let e : q ≡ [] = path_eq-is q [] w in omega (arith, ap length e)
within_long q (x ∷ p) w =
    or_cases (path_eq q (x ∷ p)) (is_within q p) _ w (λ y. let e : q ≡ x ∷ p = path_eq-is q (x ∷ p) y in omega (arith, ap length e)) (λ i. let l = within_long q p i in omega (arith, l))

-- ---- a body is opened

pub enters_with : (t : View) (so_far : SoFar) (p : Stack) (bodies : List Body) (open_bodies : List OpenBody) (e : OpenBody) → Shows t (so_far.events ++ opening p ∷ []) → AreShallow so_far.events → length p ≤ most_names
    → node_at t p ≡ Some e.node → e.depth ≡ length p → e.node < t.size → AreOpen t e.node e.item (drop 1 p) open_bodies bodies
    → ((x : Name) (k : ℕ) → t.opened e.node x ≡ Some k → k < e.item) → ((x : Name) (k : ℕ) → t.defined e.node x ≡ Some k → k < e.item)
    → ((i : ℕ) (x : Name) (k : ℕ) → t.opened i x ≡ Some k → k < e.item + 1) → ((i : ℕ) (x : Name) (k : ℕ) → t.defined i x ≡ Some k → k < e.item + 1)
    → StandsFor t (open_bodies ++ e ∷ []) (e.item + 1) (enter so_far p bodies)
enters_with t so_far p bodies open_bodies e shows shallow few at depth inside around fresh unset opened defined = record {
  shows = shows;
  shallow = shallow-opening so_far.events p shallow few;
  open_bodies = (
    open_bodies,
    e,
    refl,
    inside,
    omega arith,
    record {
      node = at;
      depth = depth;
      children = λ x. not_behind e.item (t.opened e.node x) (fresh x);
      properties = λ x. not_behind e.item (t.defined e.node x) (unset x);
    },
    are_open-later t e.node e.node e.item (e.item + 1) (drop 1 p) open_bodies bodies (omega arith) (omega arith) around,
  );
  opened_before = opened;
  defined_before = defined;
}

-- where nothing was defined since
pub enters : (t : View) (so_far : SoFar) (p : Stack) (bodies : List Body) (open_bodies : List OpenBody) (e : OpenBody) → Shows t (so_far.events ++ opening p ∷ []) → AreShallow so_far.events → length p ≤ most_names
    → node_at t p ≡ Some e.node → e.depth ≡ length p → e.node < t.size → AreOpen t e.node e.item (drop 1 p) open_bodies bodies
    → ((x : Name) (k : ℕ) → t.opened e.node x ≡ Some k → k < e.item) → ((i : ℕ) (x : Name) (k : ℕ) → t.opened i x ≡ Some k → k < e.item + 1) → ((i : ℕ) (x : Name) (k : ℕ) → t.defined i x ≡ Some k → k < e.item)
    → StandsFor t (open_bodies ++ e ∷ []) (e.item + 1) (enter so_far p bodies)
enters t so_far p bodies open_bodies e shows shallow few at depth inside around fresh opened defined =
    enters_with t so_far p bodies open_bodies e shows shallow few at depth inside around fresh (λ x k d. defined e.node x k d) opened (λ i x k d. omega (arith, defined i x k d))
