-- Steps that have not ended after as many as there are nodes never end.
use Rattle.std.proofs.Common.{◌≡◌, ◌≢◌, ℕ, suc, zero, ◌+◌, ◌-◌, ◌<◌, ◌≤◌, Bool, true, false, ◌||◌, List, [], ◌∷◌, length, map, refl, sym, ap, ◌∙◌, Option, Some, None, arith, true≢false, inl, inr, ◌⊎◌}
use Rattle.std.specs.Prelude.{if◌then◌else◌, is_some, nat_eq}
use Rattle.std.specs.List.{list_any}
use Rattle.std.proofs.lemmas.Bool.Decides.{Decides-eqb, leb_tells}
use Rattle.std.proofs.lemmas.Map.Steps.{le-length_from_below}
use Rattle.dt_model.specs.Path.{Path}
use Rattle.dt_resolve_model.specs.Answers.{Answer, undetermined, refused, answer}
use Rattle.dt_resolve_model.specs.World.{World}
use Rattle.dt_resolve_model.proofs.InterruptsAgree.{EndsKept, ended_kept, ended_later}
use Rattle.dt_resolve_model.specs.Interrupts.{Lead, nowhere, arrived, onward, steps_from, after_step, ended}

-- the steps after which a path has ended, counted down to the first of them
abbrev pub first_end : World → ℕ → Path → ℕ
first_end w zero p = 0
first_end w (suc n) p = if is_some (ended w n p) then first_end w n p else suc n

-- the least number of steps that ends
pub record EndsFirst (w : World) (n : ℕ) (p : Path) : Type 0 where
  pub yes : is_some (ended w (suc n) p) ≡ true
  pub no : is_some (ended w n p) ≡ false

-- a path that ends first after n + 1 steps, with n > 0, goes on to one that ends first after n
next_first : (w : World) (n : ℕ) (p : Path) → EndsFirst w (suc n) p → (q : Path) × EndsFirst w n q × (steps_from w p ≡ answer (onward q))
next_first w n p h = step (steps_from w p) refl
  where
    step : (x : Answer Lead) → steps_from w p ≡ x → (q : Path) × EndsFirst w n q × (steps_from w p ≡ answer (onward q))
    step (answer (onward q)) e = (q, record { yes = sym (ap (λ (x : Answer Lead). is_some (after_step (ended w (suc n)) x)) e) ∙ h.yes; no = sym (ap (λ (x : Answer Lead). is_some (after_step (ended w n) x)) e) ∙ h.no }, e)
    step undetermined e = absurd (true≢false (sym (ap (λ (x : Answer Lead). is_some (after_step (ended w n) x)) e) ∙ h.no))
    step (refused fault) e = absurd (true≢false (sym (ap (λ (x : Answer Lead). is_some (after_step (ended w n) x)) e) ∙ h.no))
    step (answer nowhere) e = absurd (true≢false (sym (ap (λ (x : Answer Lead). is_some (after_step (ended w n) x)) e) ∙ h.no))
    step (answer (arrived q)) e = absurd (true≢false (sym (ap (λ (x : Answer Lead). is_some (after_step (ended w n) x)) e) ∙ h.no))

some_kept : (w : World) (n : ℕ) (p : Path) → is_some (ended w n p) ≡ true → is_some (ended w (suc n) p) ≡ true
some_kept w n p h = step (ended w n p) refl (ended_kept w n p)
  where
    step : (x : Option (Answer Path)) → ended w n p ≡ x → EndsKept x (ended w (suc n) p) → is_some (ended w (suc n) p) ≡ true
    step None e k = absurd (true≢false (sym h ∙ ap is_some e))
    step (Some r) e k = ap is_some k

some_later : (w : World) (k n : ℕ) (p : Path) → k ≤ n → is_some (ended w k p) ≡ true → is_some (ended w n p) ≡ true
some_later w k zero p le h = ap (λ (i : ℕ). is_some (ended w i p)) (let e : 0 ≡ k = omega arith in e) ∙ h
some_later w k (suc n) p le h = step (λ le'. some_later w k n p le' h) (nat_eq k (suc n)) refl
  where
    step : (k ≤ n → is_some (ended w n p) ≡ true) → (b : Bool) → nat_eq k (suc n) ≡ b → is_some (ended w (suc n) p) ≡ true
    step more true e = ap (λ (i : ℕ). is_some (ended w i p)) (sym ((Decides-eqb k (suc n)).0 e)) ∙ h
    step more false e = some_kept w n p (more (let ne : k ≢ suc n = λ same. true≢false (sym ((Decides-eqb k (suc n)).1 same) ∙ e) in omega arith))

first_is : (w : World) (k n : ℕ) (p : Path) → EndsFirst w k p → k < n → first_end w n p ≡ suc k
first_is w k zero p h lt = absurd (omega arith)
first_is w k (suc n) p h lt = step (λ lt'. first_is w k n p h lt') (is_some (ended w n p)) refl
  where
    step : (k < n → first_end w n p ≡ suc k) → (b : Bool) → is_some (ended w n p) ≡ b → (if b then first_end w n p else suc n) ≡ suc k
    step more true e = more (less (nat_eq k n) refl)
      where
        less : (b : Bool) → nat_eq k n ≡ b → k < n
        less true same = absurd (true≢false (sym (ap (λ (i : ℕ). is_some (ended w i p)) ((Decides-eqb k n).0 same) ∙ e) ∙ h.no))
        less false other = let ne : k ≢ n = λ same. true≢false (sym ((Decides-eqb k n).1 same) ∙ other) in omega arith
    step more false e = let same : suc n ≡ suc k = absurd_or (nat_eq k n) refl in same
      where
        absurd_or : (b : Bool) → nat_eq k n ≡ b → suc n ≡ suc k
        absurd_or true same = ap suc (sym ((Decides-eqb k n).0 same))
        absurd_or false other = let ne : k ≢ n = λ same. true≢false (sym ((Decides-eqb k n).1 same) ∙ other) in absurd (true≢false (sym (some_later w (suc k) n p (omega arith) h.yes) ∙ e))

-- x is an element of the list
abbrev pub IsIn : Path → List Path → Type 0
IsIn x [] = ⊥
IsIn x (y ∷ ys) = (x ≡ y) ⊎ IsIn x ys

or_right : (a b : Bool) → b ≡ true → a || b ≡ true
or_right true b h = refl
or_right false b h = h

time_in : (w : World) (n k : ℕ) (p : Path) (nodes : List Path) → IsIn p nodes → first_end w n p ≡ k → list_any (nat_eq k) (map (first_end w n) nodes) ≡ true
time_in w n k p [] h e = absurd h
time_in w n k p (q ∷ nodes) (inl same) e = ap (λ (b : Bool). b || list_any (nat_eq k) (map (first_end w n) nodes)) ((Decides-eqb k (first_end w n q)).1 (sym e ∙ ap (first_end w n) same))
time_in w n k p (q ∷ nodes) (inr h) e = or_right (nat_eq k (first_end w n q)) (list_any (nat_eq k) (map (first_end w n) nodes)) (time_in w n k p nodes h e)

-- the steps from these nodes lead to these nodes
abbrev pub AreClosed : World → List Path → Type 0
AreClosed w nodes = (p q : Path) → IsIn p nodes → steps_from w p ≡ answer (onward q) → IsIn q nodes

-- from a node that ends first after n + 1 steps, each lower number of steps is a node's
all_times : (w : World) (nodes : List Path) → AreClosed w nodes → (m n : ℕ) (p : Path) → n < m → IsIn p nodes → EndsFirst w n p → (k : ℕ) → k ≤ n → list_any (nat_eq (suc k)) (map (first_end w m) nodes) ≡ true
all_times w nodes closed m zero p lt there h k le = time_in w m (suc k) p nodes there (first_is w 0 m p h lt ∙ ap suc (let none : 0 ≡ k = omega arith in none))
all_times w nodes closed m (suc n) p lt there h k le = step (λ q lt' there' h' le'. all_times w nodes closed m n q lt' there' h' k le') (nat_eq k (suc n)) refl
  where
    step : ((q : Path) → n < m → IsIn q nodes → EndsFirst w n q → k ≤ n → list_any (nat_eq (suc k)) (map (first_end w m) nodes) ≡ true) → (b : Bool) → nat_eq k (suc n) ≡ b → list_any (nat_eq (suc k)) (map (first_end w m) nodes) ≡ true
    step more true e = time_in w m (suc k) p nodes there (first_is w (suc n) m p h lt ∙ ap suc (sym ((Decides-eqb k (suc n)).0 e)))
    step more false e =
        let ne : k ≢ suc n = λ same. true≢false (sym ((Decides-eqb k (suc n)).1 same) ∙ e) in
        let next = next_first w n p h in
        more next.0 (omega arith) (closed p next.0 there next.2) next.1 (omega arith)

-- so there are more nodes than that
within : (w : World) (nodes : List Path) → AreClosed w nodes → (n : ℕ) (p : Path) → IsIn p nodes → EndsFirst w n p → suc n ≤ length nodes
within w nodes closed n p there h =
    let le = le-length_from_below (0 ∷ map (first_end w (suc n)) nodes) (suc (suc n)) below in
    omega (arith, le, same_length (first_end w (suc n)) nodes)
  where
    same_length : (f : Path → ℕ) (ps : List Path) → length (map f ps) ≡ length ps
    same_length f [] = refl
    same_length f (q ∷ ps) = ap suc (same_length f ps)

    below : (q : ℕ) → q < suc (suc n) → list_any (nat_eq q) (0 ∷ map (first_end w (suc n)) nodes) ≡ true
    below zero lt = refl
    below (suc k) lt = or_right (nat_eq (suc k) 0) (list_any (nat_eq (suc k)) (map (first_end w (suc n)) nodes)) (all_times w nodes closed (suc n) n p (omega arith) there h k (omega arith))

-- steps that have not ended after as many as there are nodes never end
pub never_ends : (w : World) (nodes : List Path) → AreClosed w nodes → (p : Path) → IsIn p nodes → ended w (length nodes) p ≡ None → (n : ℕ) → ended w n p ≡ None
never_ends w nodes closed p there none zero = refl
never_ends w nodes closed p there none (suc n) = step (never_ends w nodes closed p there none n) (ended w (suc n) p) refl
  where
    step : ended w n p ≡ None → (x : Option (Answer Path)) → ended w (suc n) p ≡ x → x ≡ None
    step before None e = refl
    step before (Some r) e =
        let le = within w nodes closed n p there (record { yes = ap is_some e; no = ap is_some before }) in
        absurd (true≢false (sym (some_later w (suc n) (length nodes) p le (ap is_some e)) ∙ ap is_some none))

-- where some steps lead from a path to the path again, no number of steps ends
pub comes_again : (w : World) (d : ℕ) (p : Path) → ((m : ℕ) → ended w (suc d + m) p ≡ ended w m p) → (n : ℕ) → ended w n p ≡ None
comes_again w d p again n = round n n (omega arith)
  where
    round : (bound n : ℕ) → n ≤ bound → ended w n p ≡ None
    round zero n le = let z : n ≡ 0 = omega arith in ap (λ (i : ℕ). ended w i p) z
    round (suc bound) n le = elim (leb_tells (suc d) n) [
      | inl t ↦ later_octet t.1 (λ m le'. round bound m le')
      | inr t ↦ early t.1 (ended w n p) refl
    ]
      where
        later_octet : suc d ≤ n → ((m : ℕ) → m ≤ bound → ended w m p ≡ None) → ended w n p ≡ None
        later_octet le' more =
            let m = n - suc d in
            let z : n ≡ suc d + m = omega arith in
            ap (λ (i : ℕ). ended w i p) z ∙ again m ∙ more m (omega arith)

        early : n < suc d → (x : Option (Answer Path)) → ended w n p ≡ x → x ≡ None
        early lt None k = refl
        early lt (Some r) k =
            let j = suc d - n in
            let z : j + n ≡ suc d + 0 = omega arith in
            let both : Some r ≡ None = sym (ended_later w j n p r k) ∙ ap (λ (i : ℕ). ended w i p) z ∙ again 0 in
            absurd cc
