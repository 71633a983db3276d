-- The table of the values of kinds, as it is filled on the way through a tree.
use Rattle.std.proofs.Common.{◌≡◌, ◌≢◌, ◌⊎◌, ℕ, ◌&&◌, nat_eq, Bool, true, false, cond, List, [], ◌∷◌, ◌++◌, map, Option, Some, None, Bor, refl, sym, ap, subst, ◌∙◌, inl, inr, append_assoc, true≢false}
use Rattle.std.specs.Prelude.{is_some}
use Rattle.std.specs.HashMap.{HashMap, UpdatesBy}
use Rattle.std.specs.List.{AllByRecursion}
use Rattle.std.specs.Map.{lookup}
use Rattle.std.specs.Option.{option_copied}
use Rattle.std.specs.Str.{bytes_eq}
use Rattle.std.proofs.lemmas.Bool.{eqb-true, eq-eqb}
use Rattle.std.proofs.lemmas.List.{append-nil}
use Rattle.std.proofs.lemmas.Slice.Eq.{bytes_eq-Decides}
use Rattle.dt_model.specs.Lists.{IsIn}
use Rattle.dt_model.specs.Names.{Name}
use Rattle.dt_model.specs.Path.{Path}
use Rattle.dt_model.specs.Tree.{Property, Placed, Node, node_at, nodes_of, value_of, value_in}
use Rattle.dt_model.specs.Valid.{IsValid, AreDistinct}
use Rattle.dt_model.proofs.Listed.{stands_listed, at_listed, properties_listed}
use Rattle.dt_model.proofs.Tests.{in_append}
use Rattle.dt_trees.specs.Placed.{PlacedTree, reading_of, path_at, place_of, properties_found, properties_at, IsAt, IsNode}
use Rattle.dt_read.specs.Walked.{Step, opens, steps_of}
use Rattle.dt_trees.proofs.NodePlaces.{stands_place}
use Rattle.dt_view.specs.Tables.{Key, is_kind_name, value_at, PutsValue, NotesValue, AreKinds, AreKept}
use Rattle.dt_read.proofs.Opened.{opened, AreOpened}
use Rattle.dt_read.proofs.Openings.{OpensNext, all_opened, next_opened, none_opened}
use Rattle.dt_view.proofs.Valued.{value_of_all}

-- ---- a change of the hash map is a change of the table

both : (a b : Bool) → (a && b) ≡ true → (a ≡ true) × (b ≡ true)
both true true h = (refl, refl)
both true false h = absurd (true≢false (sym h))
both false b h = absurd (true≢false (sym h))

-- the test of a node and a name is passed by their key alone
pub key_is : (i j : ℕ) (x y : Name) → (nat_eq i j && bytes_eq x y) ≡ true → (i ≡ j) × (x ≡ y)
key_is i j x y h = let p = both (nat_eq i j) (bytes_eq x y) h in (eqb-true i j p.0, (bytes_eq-Decides x y).0 p.1)

pub puts_from_updates : {S : Type 0} (m n : HashMap Key (Bor (List ℕ)) S) (k : Key) (w : Bor (List ℕ))
    → UpdatesBy (λ (a b : Key). nat_eq a.0 b.0 && bytes_eq a.1.now b.1.now) (λ (b : Key). nat_eq k.0 b.0 && bytes_eq k.1.now b.1.now) m n (Some w)
    → PutsValue m.entries n.entries k.0 k.1.now w.now
puts_from_updates m n k w u j y = ap option_copied (u.0 (j, record k.1 { now = y })) ∙ by (nat_eq k.0 j && bytes_eq k.1.now y)
  where
    by : (b : Bool) → option_copied (cond b (Some w) (lookup (λ (key : Key). nat_eq j key.0 && bytes_eq y key.1.now) m.entries)) ≡ cond b (Some w.now) (value_at m.entries j y)
    by true = refl
    by false = refl

-- ---- the properties of a node

-- what a name finds is the property of that name, where no two are called the same
value_here : (done : List Property) (p : Property) (rest : List Property) → AreDistinct (map (λ q. q.name) (done ++ p ∷ rest)) → value_of (done ++ p ∷ rest) p.name ≡ Some p.value
value_here [] p rest d = rw ((bytes_eq-Decides p.name p.name).1 refl) refl
value_here (q ∷ done) p rest d = by (value_here done p rest d.1) (bytes_eq p.name q.name) refl
  where
    other : (qs : List Property) → AllByRecursion (λ y. y ≢ q.name) (map (λ q. q.name) (qs ++ p ∷ rest)) → p.name ≢ q.name
    other [] a = a.0
    other (r ∷ qs) a = other qs a.1

    by : value_of (done ++ p ∷ rest) p.name ≡ Some p.value → (b : Bool) → bytes_eq p.name q.name ≡ b → cond (bytes_eq p.name q.name) (Some q.value) (value_of (done ++ p ∷ rest) p.name) ≡ Some p.value
    by later true is = absurd (other done d.0 ((bytes_eq-Decides p.name q.name).0 is))
    by later false is = rw is later

-- one property more
value_of_more : (done : List Property) (p : Property) (x : Name) → bytes_eq p.name x ≡ false → value_of (done ++ p ∷ []) x ≡ value_of done x
value_of_more [] p x differ = by (bytes_eq x p.name) refl
  where
    by : (b : Bool) → bytes_eq x p.name ≡ b → cond b (Some p.value) None ≡ None
    by true is = absurd (true≢false (sym ((bytes_eq-Decides p.name x).1 (sym ((bytes_eq-Decides x p.name).0 is))) ∙ differ))
    by false is = refl
value_of_more (q ∷ done) p x differ = ap (cond (bytes_eq x q.name) (Some q.value)) (value_of_more done p x differ)

-- a node's properties are called differently
pub distinct_at : (t : PlacedTree) (p : Path) → IsValid (reading_of t) → AreDistinct (map (λ q. q.name) (properties_at t p))
distinct_at t p valid = by (node_at (reading_of t) p) refl
  where
    by : (o : Option Node) → node_at (reading_of t) p ≡ o → AreDistinct (map (λ q. q.name) (properties_found o))
    by None e = tt
    by (Some c) e = (properties_listed (reading_of t) (record { path = p; properties = c.properties }) valid (at_listed (reading_of t) p c e)).distinct

pub none_kept : (node : ℕ) (properties : List Property) (old : List (Key × Bor (List ℕ))) → AreKept node properties [] old old
none_kept node properties old = record { from = λ k x v e. inl e; kept = λ k x e. e; own = λ x asked e. absurd (true≢false (sym e)) }

pub one_kept : (node : ℕ) (properties done : List Property) (p : Property) (rest : List Property) (old mid new : List (Key × Bor (List ℕ))) → properties ≡ done ++ p ∷ rest → AreDistinct (map (λ q. q.name) properties)
    → AreKept node properties done old mid → PutsValue mid new node p.name p.value → AreKept node properties (done ++ p ∷ []) old new
one_kept node properties done p rest old mid new whole distinct before put = record {
  from = λ k x v e. from k x v (nat_eq node k && bytes_eq p.name x) refl (sym (put k x) ∙ e);
  kept = λ k x e. ap is_some (put k x) ∙ kept k x e (nat_eq node k && bytes_eq p.name x);
  own = λ x asked e. ap is_some (put node x) ∙ own x asked e (bytes_eq p.name x) refl;
}
  where
    from : (k : ℕ) (x : Name) (v : List ℕ) (b : Bool) → (nat_eq node k && bytes_eq p.name x) ≡ b → cond (nat_eq node k && bytes_eq p.name x) (Some p.value) (value_at mid k x) ≡ Some v
        → (value_at old k x ≡ Some v) ⊎ ((k ≡ node) × (value_of properties x ≡ Some v))
    from k x v true is e =
        let key = key_is node k p.name x is in
        let value : Some p.value ≡ Some v = sym (ap (λ c. cond c (Some p.value) (value_at mid k x)) is) ∙ e in
        let own : value_of (done ++ p ∷ rest) p.name ≡ Some p.value = value_here done p rest (subst (λ qs. AreDistinct (map (λ q. q.name) qs)) whole distinct) in
        inr (sym key.0, ap (value_of properties) (sym key.1) ∙ ap (λ qs. value_of qs p.name) whole ∙ own ∙ value)
    from k x v false is e = before.from k x v (sym (ap (λ c. cond c (Some p.value) (value_at mid k x)) is) ∙ e)

    kept : (k : ℕ) (x : Name) → is_some (value_at old k x) ≡ true → (b : Bool) → is_some (cond b (Some p.value) (value_at mid k x)) ≡ true
    kept k x e true = refl
    kept k x e false = before.kept k x e

    own : (x : Name) → is_kind_name x ≡ true → is_some (value_of (done ++ p ∷ []) x) ≡ true → (b : Bool) → bytes_eq p.name x ≡ b → is_some (cond (nat_eq node node && bytes_eq p.name x) (Some p.value) (value_at mid node x)) ≡ true
    own x asked e true is = rw (eq-eqb node node refl, is) refl
    own x asked e false is = rw (eq-eqb node node refl, is) (before.own x asked (sym (ap is_some (value_of_more done p x is)) ∙ e))

-- a property of no kind changes nothing
pub none_more : (node : ℕ) (properties done : List Property) (p : Property) (old mid new : List (Key × Bor (List ℕ))) → is_kind_name p.name ≡ false → new ≡ mid
    → AreKept node properties done old mid → AreKept node properties (done ++ p ∷ []) old new
none_more node properties done p old mid new unasked same before = record {
  from = λ k x v e. before.from k x v (ap (λ es. value_at es k x) (sym same) ∙ e);
  kept = λ k x e. ap (λ es. is_some (value_at es k x)) same ∙ before.kept k x e;
  own = λ x asked e. ap (λ es. is_some (value_at es node x)) same ∙ before.own x asked (sym (ap is_some (value_of_more done p x (other x asked (bytes_eq p.name x) refl))) ∙ e);
}
  where
    other : (x : Name) → is_kind_name x ≡ true → (b : Bool) → bytes_eq p.name x ≡ b → b ≡ false
    other x asked true is = absurd (true≢false (sym asked ∙ ap is_kind_name (sym ((bytes_eq-Decides p.name x).0 is)) ∙ unasked))
    other x asked false is = refl

-- the properties that are left come next
pub record AreKeeping (node : ℕ) (properties left : List Property) (old new : List (Key × Bor (List ℕ))) : Type 0 where
  pub done : List Property
  pub whole : properties ≡ done ++ left
  pub kept : AreKept node properties done old new

pub keeping_next : (node : ℕ) (properties : List Property) (p : Property) (left rest : List Property) (old mid new : List (Key × Bor (List ℕ))) → AreDistinct (map (λ q. q.name) properties) → left ≡ p ∷ rest
    → AreKeeping node properties left old mid → NotesValue mid new node p.name p.value → AreKeeping node properties rest old new
keeping_next node properties p left rest old mid new distinct e k note =
    let whole : properties ≡ k.done ++ p ∷ rest = k.whole ∙ ap (λ qs. k.done ++ qs) e in
    record {
      done = k.done ++ p ∷ [];
      whole = whole ∙ sym (append_assoc k.done (p ∷ []) rest);
      kept = by whole (is_kind_name p.name) refl note;
    }
  where
    by : properties ≡ k.done ++ p ∷ rest → (b : Bool) → is_kind_name p.name ≡ b → cond b (PutsValue mid new node p.name p.value) (new ≡ mid) → AreKept node properties (k.done ++ p ∷ []) old new
    by whole true is put = one_kept node properties k.done p rest old mid new whole distinct k.kept put
    by whole false is same = none_more node properties k.done p old mid new is same k.kept

pub keeping_all : (node : ℕ) (properties left : List Property) (old new : List (Key × Bor (List ℕ))) → left ≡ [] → AreKeeping node properties left old new → AreKept node properties properties old new
keeping_all node properties left old new e k = subst (λ qs. AreKept node properties qs old new) (sym (k.whole ∙ ap (λ qs. k.done ++ qs) e ∙ append-nil k.done)) k.kept

-- ---- step by step

-- the table has the values of the nodes that were opened, and the steps open the others
pub record AreKinded (t : PlacedTree) (values : List (Key × Bor (List ℕ))) (steps : List Step) : Type 0 where
  pub before : List Placed
  pub nodes : List Placed
  pub are : AreOpened t before nodes steps
  pub valued : AreKinds t before values

pub none_kinded : (t : PlacedTree) → IsValid (reading_of t) → AreKinded t [] (steps_of t)
none_kinded t valid = record {
  before = [];
  nodes = nodes_of (reading_of t);
  are = all_opened t valid;
  valued = record { has = λ k x v e. absurd (let z : None ≡ Some v = e in cc); found = λ n k x asked i at some. absurd i };
}

pub one_kinded : (t : PlacedTree) (old new : List (Key × Bor (List ℕ))) (k : ℕ) (name : Name) (steps rest : List Step) → AreKinded t old steps → steps ≡ opens k name ∷ rest
    → AreKept k (properties_at t (path_at t k)) (properties_at t (path_at t k)) old new → AreKinded t new rest
one_kinded t old new k name steps rest f e kept = record {
  before = f.before ++ next.first ∷ [];
  nodes = next.later;
  are = next.left;
  valued = record { has = has; found = found };
}
  where
    next : OpensNext t f.before f.nodes k rest
    next = next_opened t f.before f.nodes k name rest (subst (AreOpened t f.before f.nodes) e f.are)

    has : (j : ℕ) (x : Name) (v : List ℕ) → value_at new j x ≡ Some v → value_in (reading_of t) (path_at t j) x ≡ Some v
    has j x v e' = elim (kept.from j x v e') [
      | inl before ↦ f.valued.has j x v before
      | inr own ↦ ap (λ i. value_in (reading_of t) (path_at t i) x) own.0 ∙ value_of_all t (path_at t k) x ∙ own.1
    ]

    found : (n : Placed) (j : ℕ) (x : Name) → is_kind_name x ≡ true → IsIn n (f.before ++ next.first ∷ []) → IsAt t n.path j → is_some (value_in (reading_of t) (path_at t j) x) ≡ true → is_some (value_at new j x) ≡ true
    found n j x asked i at some = elim (in_append n f.before (next.first ∷ []) i) [
      | inl before ↦ kept.kept j x (f.valued.found n j x asked before at some)
      | inr here ↦ subst (λ m. is_some (value_at new m x) ≡ true) (same here)
          (kept.own x asked (sym (ap is_some (value_of_all t (path_at t k) x)) ∙ ap (λ m. is_some (value_in (reading_of t) (path_at t m) x)) (same here) ∙ some))
    ]
      where
        same : IsIn n (next.first ∷ []) → k ≡ j
        same (inl one) = let z : Some k ≡ Some j = sym next.at ∙ ap (λ (y : Placed). place_of t y.path) (sym one) ∙ at in cc
        same (inr none) = absurd none

-- a property, or a node's end
pub others_kinded : (t : PlacedTree) (values : List (Key × Bor (List ℕ))) (steps rest : List Step) → AreKinded t values steps → opened steps ≡ opened rest → AreKinded t values rest
others_kinded t values steps rest f same = record {
  before = f.before;
  nodes = f.nodes;
  are = record { whole = f.are.whole; places = f.are.places ∙ ap (map (λ k. Some k)) same };
  valued = f.valued;
}

pub all_kinded : (t : PlacedTree) (values : List (Key × Bor (List ℕ))) (steps : List Step) → AreKinded t values steps → steps ≡ [] → AreKinds t (nodes_of (reading_of t)) values
all_kinded t values steps f e =
    let none : f.nodes ≡ [] = none_opened t f.before f.nodes (subst (AreOpened t f.before f.nodes) e f.are) in
    subst (λ ns. AreKinds t ns values) (sym (f.are.whole ∙ ap (λ ns. f.before ++ ns) none ∙ append-nil f.before)) f.valued

-- ---- what the whole table has

pub kind_looked_up : (t : PlacedTree) (values : List (Key × Bor (List ℕ))) (k : ℕ) (x : Name) → is_kind_name x ≡ true → IsNode t k → AreKinds t (nodes_of (reading_of t)) values → value_at values k x ≡ value_in (reading_of t) (path_at t k) x
kind_looked_up t values k x asked is are = by (value_at values k x) (value_in (reading_of t) (path_at t k) x) refl refl
  where
    by : (o p : Option (List ℕ)) → value_at values k x ≡ o → value_in (reading_of t) (path_at t k) x ≡ p → o ≡ p
    by (Some v) p e f = sym (are.has k x v e) ∙ f
    by None None e f = refl
    by None (Some v) e f =
        let n = stands_listed (reading_of t) (path_at t k) (sym (stands_place t (path_at t k)) ∙ ap is_some is) in
        absurd (true≢false (sym (are.found n.0 k x asked n.1 (ap (place_of t) n.2 ∙ is) (ap is_some f)) ∙ ap is_some e))
