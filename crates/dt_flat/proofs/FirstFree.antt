-- The least free number after a number is taken from its node, or given to one.
use Rattle.std.proofs.Common.{◌≡◌, ◌≢◌, ◌∙◌, ◌+◌, ◌<◌, ◌≤◌, ℕ, Bool, true, false, cond, eqb, Option, Some, None, refl, sym, ap, subst, inl, inr, true≢false, arith}
use Rattle.std.specs.Prelude.{is_some}
use Rattle.std.specs.Map.{lookup}
use Rattle.std.proofs.lemmas.Bool.{cases_eq, cases_lt}
use Rattle.dt_flat.specs.Numbers.{Table, holder, AreTaken, IsFirstFree}
use Rattle.dt_flat.proofs.AfterChild.{tested, differs}

-- new is old with this at a number
abbrev pub IsChanged : Table → Table → ℕ → Option ℕ → Type 0
IsChanged old new number here = (q : ℕ) → holder new q ≡ cond (eqb number q) here (holder old q)

at_other : (old new : Table) (number q : ℕ) (here : Option ℕ) → IsChanged old new number here → number ≢ q → holder new q ≡ holder old q
at_other old new number q here is d = is q ∙ ap (λ (b : Bool). cond b here (holder old q)) (differs number q d)

at_it : (old new : Table) (number : ℕ) (here : Option ℕ) → IsChanged old new number here → holder new number ≡ here
at_it old new number here is = is number ∙ ap (λ (b : Bool). cond b here (holder old number)) (tested number number refl)

none_stays : (old new : Table) (number q : ℕ) → IsChanged old new number None → holder old q ≡ None → holder new q ≡ None
none_stays old new number q is none = is q ∙ by (eqb number q)
  where
    by : (b : Bool) → cond b None (holder old q) ≡ None
    by true = refl
    by false = none

-- a number below the least free one is the least free one when it is taken away
pub taken_below : (old new : Table) (number free : ℕ) → IsChanged old new number None → 0 < number → number < free → IsFirstFree old free → IsFirstFree new number
taken_below old new number free is pos lt first = record {
  above = pos;
  free = at_it old new number None is;
  taken = λ n one below.
      let had = first.taken n one (omega arith) in
      (had.0, at_other old new number n None is (omega arith) ∙ had.1);
}

-- any other leaves it as it is
pub taken_elsewhere : (old new : Table) (number free : ℕ) → IsChanged old new number None → (0 < number → number < free → ⊥) → IsFirstFree old free → IsFirstFree new free
taken_elsewhere old new number free is not_below first = record {
  above = first.above;
  free = none_stays old new number free is first.free;
  taken = λ n one below.
      let had = first.taken n one below in
      let other : number ≢ n = λ e. not_below (omega (arith, e)) (omega (arith, e)) in
      (had.0, at_other old new number n None is other ∙ had.1);
}

-- a number that is given makes no other one free
still_taken : (old new : Table) (number node n : ℕ) → IsChanged old new number (Some node) → (i : ℕ) × (holder old n ≡ Some i) → (i : ℕ) × (holder new n ≡ Some i)
still_taken old new number node n is had = elim (cases_eq number n) [
  | inl e ↦ (node, ap (holder new) (sym e) ∙ at_it old new number (Some node) is)
  | inr d ↦ (had.0, at_other old new number n (Some node) is d ∙ had.1)
]

-- another number that is given leaves the least free one
pub given_elsewhere : (old new : Table) (number node free : ℕ) → IsChanged old new number (Some node) → number ≢ free → IsFirstFree old free → IsFirstFree new free
given_elsewhere old new number node free is other first = record {
  above = first.above;
  free = at_other old new number free (Some node) is other ∙ first.free;
  taken = λ n one below. still_taken old new number node n is (first.taken n one below);
}

-- the least free one that is given: the next one from there is
pub given_first : (old new : Table) (number node next : ℕ) → IsChanged old new number (Some node) → IsFirstFree old number → number + 1 ≤ next → holder new next ≡ None → AreTaken new (number + 1) next → IsFirstFree new next
given_first old new number node next is first above free taken = record {
  above = omega (arith, first.above);
  free = free;
  taken = λ n one below. elim (cases_lt n number) [
    | inl lt ↦ still_taken old new number node n is (first.taken n one lt)
    | inr past ↦ elim (cases_eq number n) [
      | inl e ↦ (node, ap (holder new) (sym e) ∙ at_it old new number (Some node) is)
      | inr d ↦ taken n (omega (arith, past, d)) below
    ]
  ];
}

-- the number above all others stays free
pub most_taken : (old new : Table) (number most : ℕ) → IsChanged old new number None → holder old most ≡ None → holder new most ≡ None
most_taken old new number most is none = none_stays old new number most is none

pub most_given : (old new : Table) (number node most : ℕ) → IsChanged old new number (Some node) → number < most → holder old most ≡ None → holder new most ≡ None
most_given old new number node most is lt none = at_other old new number most (Some node) is (omega arith) ∙ none

-- entries that stay the same
pub holder-same : (old new : Table) (n : ℕ) → new.entries ≡ old.entries → holder new n ≡ holder old n
holder-same old new n e = ap (lookup (eqb n)) e

pub IsFirstFree-same : (old new : Table) (free : ℕ) → new.entries ≡ old.entries → IsFirstFree old free → IsFirstFree new free
IsFirstFree-same old new free e first = record {
  above = first.above;
  free = holder-same old new free e ∙ first.free;
  taken = λ n one below. let had = first.taken n one below in (had.0, holder-same old new n e ∙ had.1);
}

-- one more number that has a node
pub taken_more : (table : Table) (from end : ℕ) → AreTaken table from end → true ≡ is_some (holder table end) → AreTaken table from (end + 1)
taken_more table from end taken here n above below = elim (cases_lt n end) [
  | inl lt ↦ taken n above lt
  | inr past ↦ let same : end ≡ n = omega arith in subst (λ (k : ℕ). (i : ℕ) × (holder table k ≡ Some i)) same (some (holder table end) refl here)
]
  where
    some : (o : Option ℕ) → holder table end ≡ o → true ≡ is_some o → (i : ℕ) × (holder table end ≡ Some i)
    some None e t = absurd (true≢false t)
    some (Some i) e t = (i, e)
