-- The next free number is not far.
use Rattle.std.proofs.Common.{◌≡◌, ℕ, ◌+◌, ◌-◌, ◌<◌, ◌≤◌, Bool, true, false, List, ◌++◌, map, length, codes, refl, sym, ap, subst, ◌∙◌, inl, inr, Option, Some, None, true≢false, arith}
use Rattle.std.specs.Prelude.{nat_eq, is_some, MatchOption}
use Rattle.std.specs.Option.{option_to_list}
use Rattle.std.specs.List.{list_any}
use Rattle.std.specs.Int.{w32, from_be_bytes}
use Rattle.std.proofs.lemmas.Bool.{cases_lt, eqb-true}
use Rattle.std.proofs.lemmas.Bool.Decides.{Decides-eqb}
use Rattle.std.proofs.lemmas.List.{length-map}
use Rattle.dt_model.specs.Lists.{IsIn}
use Rattle.dt_model.specs.Meaning.{cell}
use Rattle.dt_model.specs.Path.{Path}
use Rattle.dt_model.specs.Tree.{Reading, value_of, nodes_of}
use Rattle.dt_model.specs.Numbers.{numbers_of}
use Rattle.dt_model.specs.Valid.{IsValid, phandle_values, phandles}
use Rattle.dt_model.proofs.Tests.{any_from, any_here, in_map, in_map_from}
use Rattle.dt_model.proofs.Flat.{from_flat}
use Rattle.dt_model.proofs.Listed.{listed_value}
use Rattle.dt_model.proofs.Preorder.{all_phandles, phandle_list}
use Rattle.dt_model_laws.proofs.Fresh.{few_below}
use Rattle.dt_model_laws.proofs.Numbered.{taken_all}
use Rattle.dt_overlay_laws.specs.Objects.{HasNumber, HasCells}

-- where each number between two is taken, as many are taken
pub few_between : (taken : List ℕ) (last n : ℕ) → ((k : ℕ) → last < k → k < n → list_any (nat_eq k) taken ≡ true) → n ≤ length taken + last + 1
few_between taken last n h =
    let le = few_below (map (λ x. x - last) taken) (n - last) below in
    let same = length-map taken (λ (x : ℕ). x - last) in
    omega (arith, le, same)
  where
    below : (k : ℕ) → 1 ≤ k → k < n - last → list_any (nat_eq k) (map (λ x. x - last) taken) ≡ true
    below k one less =
        let w = any_from (nat_eq (k + last)) taken (h (k + last) (omega arith) (omega arith)) in
        let is : k + last ≡ w.0 = eqb-true (k + last) w.0 w.2 in
        any_here (nat_eq k) (map (λ x. x - last) taken) (w.0 - last) (in_map (λ (x : ℕ). x - last) taken w.0 w.1) ((Decides-eqb k (w.0 - last)).1 (omega arith))

-- a number that no node has isn't taken
pub not_taken : (base : Reading) (n : ℕ) → IsValid base → HasCells base → ((p : Path) → HasNumber base p n → ⊥) → list_any (nat_eq n) (numbers_of base) ≡ false
not_taken base n valid cells none = by (list_any (nat_eq n) (numbers_of base)) refl
  where
    has : list_any (nat_eq n) (numbers_of base) ≡ true → ⊥
    has e =
        let w = any_from (nat_eq n) (numbers_of base) e in
        let is : n ≡ w.0 = eqb-true n w.0 w.2 in
        let v = in_map_from (from_be_bytes w32) (phandle_values base.properties ++ phandles base.children) w.0 w.1 in
        let m = from_flat phandle_list (nodes_of base) v.0 (subst (IsIn v.0) (sym (all_phandles base)) v.1) in
        let own : value_of m.0.properties (codes "phandle") ≡ Some v.0 = only (value_of m.0.properties (codes "phandle")) v.0 m.2 in
        let there = listed_value base m.0 (codes "phandle") valid m.1 ∙ own in
        let whole : v.0 ≡ cell n = cells m.0.path v.0 there ∙ ap cell (sym v.2 ∙ sym is) in
        none m.0.path (there ∙ ap (λ (y : List ℕ). Some y) whole)
      where
        only : (o : Option (List ℕ)) (v : List ℕ) → IsIn v (option_to_list o) → o ≡ Some v
        only None v i = absurd i
        only (Some w) v (inl e) = ap (λ (y : List ℕ). Some y) (sym e)
        only (Some w) v (inr i) = absurd i

    by : (b : Bool) → list_any (nat_eq n) (numbers_of base) ≡ b → b ≡ false
    by true e = absurd (has e)
    by false e = refl

-- and one that a node has is
pub found_taken : (base : Reading) (n : ℕ) (found : Option Path) → n ≤ 0xfffffffe → is_some found ≡ true → MatchOption found ((p : Path) → HasNumber base p n → ⊥) (λ path. HasNumber base path n)
    → list_any (nat_eq n) (numbers_of base) ≡ true
found_taken base n None small some h = absurd (true≢false (sym some))
found_taken base n (Some p) small some h = taken_all base p n small h

pub none_free : (base : Reading) (n : ℕ) (found : Option Path) → IsValid base → HasCells base → is_some found ≡ false → MatchOption found ((p : Path) → HasNumber base p n → ⊥) (λ path. HasNumber base path n)
    → list_any (nat_eq n) (numbers_of base) ≡ false
none_free base n None valid cells none h = not_taken base n valid cells h
none_free base n (Some p) valid cells none h = absurd (true≢false none)

-- one more number is taken
pub between_more : (taken : List ℕ) (last n : ℕ) → ((k : ℕ) → last < k → k < n → list_any (nat_eq k) taken ≡ true) → list_any (nat_eq n) taken ≡ true → (k : ℕ) → last < k → k < n + 1 → list_any (nat_eq k) taken ≡ true
between_more taken last n below here k above less = elim (cases_lt k n) [
  | inl lt ↦ below k above lt
  | inr past ↦ let same : n ≡ k = omega arith in subst (λ (i : ℕ). list_any (nat_eq i) taken ≡ true) same here
]
