-- How walks change where a child is added or cut off, and that no two stacks of names lead to one node.
use Rattle.std.proofs.Common.{◌≡◌, ℕ, ◌+◌, ◌<◌, Bool, true, false, [], ◌∷◌, Option, Some, None, ◌&&◌, ◌||◌, cond, nat_eq, length, refl, sym, ◌∙◌, ap, subst, arith}
use Rattle.std.specs.Option.{option_and_then}
use Rattle.std.specs.Str.{bytes_eq}
use Rattle.std.proofs.lemmas.Option.{option_and_then_some}
use Rattle.std.proofs.lemmas.Bool.{eqb-true, eq-eqb}
use Rattle.dt_model.specs.Names.{Name}
use Rattle.dt_model.specs.Path.{path_eq}
use Rattle.dt_model.specs.Event.{Stack, is_within}
use Rattle.dt_model.proofs.EventSteps.{path_eq-is, path_eq-refl}
use Rattle.dt_source_growing.specs.Shape.{Shape, root_index, node_at, IsForest, MakesRoot, AddsChild, Cuts}
use Rattle.dt_model.proofs.Cases.{bool_cases}
use Rattle.dt_source_growing.proofs.TableLemmas.{key_is, key-refl}

pub root_is : (n i : ℕ) → root_index n ≡ Some i → (i ≡ 0) × (0 < n)
root_is n i h = bool_cases (nat_eq n 0) _ (λ yes. let e : cond true None (Some 0) ≡ Some i = rw yes at h in cc)
    (λ no. let e : Some 0 ≡ Some i = rw no at h in
    (cc, let ne : n ≡ 0 → ⊥ = λ z. let y : nat_eq n 0 ≡ true = eq-eqb n 0 z in cc in omega arith))

pub option_cases : (o : Option ℕ) (P : Type 0) → (o ≡ None → P) → ((i : ℕ) → o ≡ Some i → P) → P
option_cases None P f g = f refl
option_cases (Some i) P f g = g i refl

pub root_there : (n : ℕ) → 0 < n → root_index n ≡ Some 0
root_there n h = bool_cases (nat_eq n 0) _ (λ yes. let z : n ≡ 0 = eqb-true n 0 yes in absurd (omega arith)) (λ no. rw no refl)

no_loop : (p : Stack) (x : Name) → x ∷ p ≡ p → ⊥
no_loop p x h = let e : length (x ∷ p) ≡ length p = ap length h in omega arith

or_true : (b : Bool) → (b || true) ≡ true
or_true true = refl
or_true false = refl

or_false : (b : Bool) → (b || false) ≡ b
or_false true = refl
or_false false = refl

both_none : (b : Bool) (o : Option ℕ) → o ≡ None → cond b None o ≡ None
both_none true o h = refl
both_none false o h = h

pub same_then : {A B : Type 0} (f g : A → Option B) → ((a : A) → f a ≡ g a) → (o : Option A) → option_and_then f o ≡ option_and_then g o
same_then f g h None = refl
same_then f g h (Some a) = h a

module _ {V : Type 0} where
  -- with the same children, the same walks
  pub node_at-same : (s t : Shape V) → t.size ≡ s.size → ((i : ℕ) (x : Name) → t.child i x ≡ s.child i x) → (p : Stack) → node_at t p ≡ node_at s p
  node_at-same s t e h [] = ap root_index e
  node_at-same s t e h (x ∷ p) =
      ap (option_and_then (λ i. t.child i x)) (node_at-same s t e h p) ∙ same_then (λ i. t.child i x) (λ i. s.child i x) (λ i. h i x) (node_at s p)

  -- below what isn't there nothing is
  pub none_within : (s : Shape V) (q : Stack) → node_at s q ≡ None → (p : Stack) → is_within q p ≡ true → node_at s p ≡ None
  none_within s q h [] w = subst (λ (r : Stack). node_at s r ≡ None) (path_eq-is q [] w) h
  none_within s q h (x ∷ p) w =
      bool_cases (path_eq q (x ∷ p)) _
      (λ yes. subst (λ (r : Stack). node_at s r ≡ None) (path_eq-is q (x ∷ p) yes) h)
      (λ no.
      let w' : is_within q p ≡ true = rw no at w in
      ap (option_and_then (λ i. s.child i x)) (none_within s q h p w'))

  pub node_at_below : (s : Shape V) → IsForest s → (p : Stack) (i : ℕ) → node_at s p ≡ Some i → i < s.size
  node_at_below s f [] i h = let r : (i ≡ 0) × (0 < s.size) = root_is s.size i h in omega arith
  node_at_below s f (x ∷ p) i h =
      option_and_then_some (λ j. s.child j x) (node_at s p) i h (λ j e1 e2. (f.edge j x i e2).1)

  -- no two stacks of names lead to one node
  pub node_at_once : (s : Shape V) → IsForest s → (p q : Stack) (i : ℕ) → node_at s p ≡ Some i → node_at s q ≡ Some i → p ≡ q
  node_at_once s f [] [] i h k = refl
  node_at_once s f [] (y ∷ q) i h k =
      option_and_then_some (λ j. s.child j y) (node_at s q) i k
      (λ j e1 e2. let b : j < i = (f.edge j y i e2).0 in let r : i ≡ 0 = (root_is s.size i h).0 in absurd (omega arith))
  node_at_once s f (x ∷ p) [] i h k =
      option_and_then_some (λ j. s.child j x) (node_at s p) i h
      (λ j e1 e2. let b : j < i = (f.edge j x i e2).0 in let r : i ≡ 0 = (root_is s.size i k).0 in absurd (omega arith))
  node_at_once s f (x ∷ p) (y ∷ q) i h k =
      option_and_then_some (λ j. s.child j x) (node_at s p) i h
      (λ j e1 e2.
      option_and_then_some (λ j. s.child j y) (node_at s q) i k
      (λ j' e1' e2'.
      let b : (j ≡ j') × (x ≡ y) = f.once j x j' y i e2 e2' in
      let jj : j ≡ j' = b.0 in
      let xy : x ≡ y = b.1 in
      let e : node_at s q ≡ Some j = e1' ∙ ap Some (sym jj) in
      let pq : p ≡ q = node_at_once s f p q j e1 e in
      cc))

  -- after the child y of q's node was added, its names lead to it, and all others lead where they led
  pub node_at-added : (s t : Shape V) → IsForest s → (q : Stack) (a : ℕ) (y : Name) → node_at s q ≡ Some a → s.child a y ≡ None → (item : ℕ) → AddsChild s t a y item
      → (p : Stack) → node_at t p ≡ cond (path_eq (y ∷ q) p) (Some s.size) (node_at s p)
  node_at-added s t f q a y at none item o [] =
      let b : a < s.size = node_at_below s f q a at in
      let z : root_index t.size ≡ Some 0 = rw o.size (root_there (s.size + 1) (omega arith)) in
      let z' : root_index s.size ≡ Some 0 = root_there s.size (omega arith) in
      z ∙ sym z'
  node_at-added s t f q a y at none item o (x ∷ p) =
      let hyp : node_at t p ≡ cond (path_eq (y ∷ q) p) (Some s.size) (node_at s p) = node_at-added s t f q a y at none item o p in
      bool_cases (path_eq (y ∷ q) p) _
      (λ yes.
      -- p is the new node's stack
      let pe : y ∷ q ≡ p = path_eq-is (y ∷ q) p yes in
      let was : node_at s p ≡ None = subst (λ (r : Stack). node_at s r ≡ None) pe (ap (option_and_then (λ i. s.child i y)) at ∙ none) in
      let now : node_at t p ≡ Some s.size = rw yes at hyp in
      let tc : t.child s.size x ≡ s.child s.size x =
      o.child s.size x ∙ bool_cases (nat_eq a s.size && bytes_eq y x) _
      (λ both. let e : a ≡ s.size = (key_is a s.size y x both).0 in let b : a < s.size = node_at_below s f q a at in absurd (omega arith))
      (λ no. rw no refl) in
      let gone : s.child s.size x ≡ None = option_cases (s.child s.size x) _ (λ n. n) (λ j e. let b = f.edge s.size x j e in absurd (omega arith)) in
      let left : node_at t (x ∷ p) ≡ None = ap (option_and_then (λ i. t.child i x)) now ∙ tc ∙ gone in
      let right : node_at s (x ∷ p) ≡ None = ap (option_and_then (λ i. s.child i x)) was in
      bool_cases (path_eq (y ∷ q) (x ∷ p)) _
      (λ yes2.
      let pe2 : y ∷ q ≡ x ∷ p = path_eq-is (y ∷ q) (x ∷ p) yes2 in
      absurd (no_loop p x (sym pe2 ∙ pe)))
      (λ no2. rw no2 (left ∙ sym right)))
      (λ no.
      let same : node_at t p ≡ node_at s p = rw no at hyp in
      option_cases (node_at s p) _
      (λ e.
      let left : node_at t (x ∷ p) ≡ None = ap (option_and_then (λ i. t.child i x)) (same ∙ e) in
      let right : node_at s (x ∷ p) ≡ None = ap (option_and_then (λ i. s.child i x)) e in
      bool_cases (path_eq (y ∷ q) (x ∷ p)) _
      (λ yes2.
      let pe2 : y ∷ q ≡ x ∷ p = path_eq-is (y ∷ q) (x ∷ p) yes2 in
      let pq : q ≡ p = cc in
      let ee : node_at s q ≡ None = rw pq e in
      cc)
      (λ no2. rw no2 (left ∙ sym right)))
      (λ i e.
      let left : node_at t (x ∷ p) ≡ cond (nat_eq a i && bytes_eq y x) (Some s.size) (s.child i x) = ap (option_and_then (λ i. t.child i x)) (same ∙ e) ∙ o.child i x in
      let right : node_at s (x ∷ p) ≡ s.child i x = ap (option_and_then (λ i. s.child i x)) e in
      bool_cases (nat_eq a i && bytes_eq y x) _
      (λ both.
      let k : (a ≡ i) × (y ≡ x) = key_is a i y x both in
      let e' : node_at s p ≡ Some a = e ∙ ap Some (sym k.0) in
      let pq : q ≡ p = node_at_once s f q p a at e' in
      let yes2 : path_eq (y ∷ q) (x ∷ p) ≡ true = rw (← k.1, ← pq) (path_eq-refl (y ∷ q)) in
      let l2 : node_at t (x ∷ p) ≡ Some s.size = rw both at left in
      rw yes2 l2)
      (λ apart.
      let l2 : node_at t (x ∷ p) ≡ s.child i x = rw apart at left in
      bool_cases (path_eq (y ∷ q) (x ∷ p)) _
      (λ yes2.
      let pe2 : y ∷ q ≡ x ∷ p = path_eq-is (y ∷ q) (x ∷ p) yes2 in
      let pq : q ≡ p = cc in
      let yx : y ≡ x = cc in
      let e' : Some a ≡ Some i = sym at ∙ ap (node_at s) pq ∙ e in
      let ai : a ≡ i = cc in
      let both : (nat_eq a i && bytes_eq y x) ≡ true = rw (← ai, ← yx) (key-refl a y) in
      cc)
      (λ no2. rw no2 (l2 ∙ sym right)))))

  -- after the child y of q's node was cut off, no names at or below it lead anywhere, and all others lead where they led
  pub node_at-cut : (s t : Shape V) → IsForest s → (q : Stack) (a : ℕ) (y : Name) → node_at s q ≡ Some a → Cuts s t a y
      → (p : Stack) → node_at t p ≡ cond (is_within (y ∷ q) p) None (node_at s p)
  node_at-cut s t f q a y at o [] = ap root_index o.size
  node_at-cut s t f q a y at o (x ∷ p) =
      let hyp : node_at t p ≡ cond (is_within (y ∷ q) p) None (node_at s p) = node_at-cut s t f q a y at o p in
      bool_cases (is_within (y ∷ q) p) _
      (λ yes.
      let gone : node_at t p ≡ None = rw yes at hyp in
      let left : node_at t (x ∷ p) ≡ None = ap (option_and_then (λ i. t.child i x)) gone in
      let yes2 : is_within (y ∷ q) (x ∷ p) ≡ true = rw yes (or_true (path_eq (y ∷ q) (x ∷ p))) in
      rw yes2 left)
      (λ no.
      let same : node_at t p ≡ node_at s p = rw no at hyp in
      let whether : is_within (y ∷ q) (x ∷ p) ≡ path_eq (y ∷ q) (x ∷ p) = rw no (or_false (path_eq (y ∷ q) (x ∷ p))) in
      option_cases (node_at s p) _
      (λ e.
      let left : node_at t (x ∷ p) ≡ None = ap (option_and_then (λ i. t.child i x)) (same ∙ e) in
      let right : node_at s (x ∷ p) ≡ None = ap (option_and_then (λ i. s.child i x)) e in
      left ∙ sym (both_none (is_within (y ∷ q) (x ∷ p)) (node_at s (x ∷ p)) right))
      (λ i e.
      let left : node_at t (x ∷ p) ≡ cond (nat_eq a i && bytes_eq y x) None (s.child i x) = ap (option_and_then (λ i. t.child i x)) (same ∙ e) ∙ o.child i x in
      let right : node_at s (x ∷ p) ≡ s.child i x = ap (option_and_then (λ i. s.child i x)) e in
      bool_cases (nat_eq a i && bytes_eq y x) _
      (λ both.
      let k : (a ≡ i) × (y ≡ x) = key_is a i y x both in
      let e' : node_at s p ≡ Some a = e ∙ ap Some (sym k.0) in
      let pq : q ≡ p = node_at_once s f q p a at e' in
      let yes2 : path_eq (y ∷ q) (x ∷ p) ≡ true = rw (← k.1, ← pq) (path_eq-refl (y ∷ q)) in
      let l2 : node_at t (x ∷ p) ≡ None = rw both at left in
      rw (whether, yes2) l2)
      (λ apart.
      let l2 : node_at t (x ∷ p) ≡ s.child i x = rw apart at left in
      bool_cases (path_eq (y ∷ q) (x ∷ p)) _
      (λ yes2.
      let pe2 : y ∷ q ≡ x ∷ p = path_eq-is (y ∷ q) (x ∷ p) yes2 in
      let pq : q ≡ p = cc in
      let yx : y ≡ x = cc in
      let e' : Some a ≡ Some i = sym at ∙ ap (node_at s) pq ∙ e in
      let ai : a ≡ i = cc in
      let both : (nat_eq a i && bytes_eq y x) ≡ true = rw (← ai, ← yx) (key-refl a y) in
      cc)
      (λ no2. rw (whether, no2) (l2 ∙ sym right)))))

  -- before the root is made no names lead anywhere, and then its own alone
  pub before_root : (s : Shape V) → s.size ≡ 0 → (p : Stack) → node_at s p ≡ None
  before_root s z [] = rw z refl
  before_root s z (x ∷ p) = ap (option_and_then (λ i. s.child i x)) (before_root s z p)

  pub after_root : (s t : Shape V) → IsForest s → MakesRoot s t → (p : Stack) → node_at t p ≡ cond (path_eq [] p) (Some 0) None
  after_root s t f o [] = rw o.size refl
  after_root s t f o (x ∷ p) = by (path_eq [] p) (after_root s t f o p)
    where
      none : (i : ℕ) → t.child i x ≡ None
      none i = o.child i x ∙ option_cases (s.child i x) _ (λ n. n) (λ j e. let b = f.edge i x j e in let z : s.size ≡ 0 = o.none in absurd (omega (arith, b.1)))

      by : (b : Bool) → node_at t p ≡ cond b (Some 0) None → node_at t (x ∷ p) ≡ None
      by true h = ap (option_and_then (λ i. t.child i x)) h ∙ none 0
      by false h = ap (option_and_then (λ i. t.child i x)) h
