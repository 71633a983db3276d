-- Rules that are tried in order.
use Rattle.std.proofs.Common.{◌≡◌, Bool, ℕ, zero, suc, ◌+◌, ◌<◌, ◌≤◌, List, [], ◌∷◌, ◌++◌, ◌-◌, take, length, Some, ⊎_elim, refl, sym, ap, subst, arith, length-append}
use Rattle.std.specs.Prelude.{slice_get, slice_index, slice_index_or}
use Rattle.std.specs.List.{filter}
use Rattle.std.proofs.str.Laws.{order}
use Rattle.std.proofs.lemmas.List.{take_at}
use Rattle.dt_lex.specs.declared.token.Mode.{Mode}
use Rattle.dt_lex.specs.declared.rule.Rule.{Rule}
use Rattle.dt_lex.specs.declared.rule.Rule.TheVariants as rule
use Rattle.dt_lex.specs.Words.{IsLongestWord, NoneFits}
use Rattle.dt_lex.specs.Leaders.{leader_of, leads}
use Rattle.dt_lex.specs.Lexing.{IsCut, HasNoCut}
use Rattle.dt_lex.specs.Pieces.{IsWordOf}
use Rattle.dt_lex.proofs.LeaderLemmas.{FirstAt, first_of_all, none_of_all, not_led}
use Rattle.dt_lex.specs.Rules.{In, rules}

pub at_place : {A : Type 0} (xs : List A) (i : ℕ) (d : A) → i < length xs → slice_get xs i ≡ Some (slice_index_or xs i d)
at_place [] i d l = absurd (omega arith)
at_place (x ∷ xs) zero d l = refl
at_place (x ∷ xs) (suc i) d l = at_place xs i d (omega arith)

pub place_below : {A : Type 0} (xs : List A) (i : ℕ) (x : A) → slice_get xs i ≡ Some x → i < length xs
place_below [] i x e = cc
place_below (y ∷ xs) zero x e = omega arith
place_below (y ∷ xs) (suc i) x e = let h = place_below xs i x e in omega arith

pub tried_more : (m : Mode) (fresh : Bool) (s : List ℕ) (tried : List Rule) (k : ℕ) (r : Rule) → ((i : ℕ) (q : Rule) → i < k → slice_get tried i ≡ Some q → NoneFits (In q m fresh) s) → slice_get tried k ≡ Some r → NoneFits (In r m fresh) s → (i : ℕ) (q : Rule) → i < k + 1 → slice_get tried i ≡ Some q → NoneFits (In q m fresh) s
tried_more m fresh s tried k r before here none i q l e =
    ⊎_elim
    (λ (below : i < k). before i q below e)
    (λ (above : k ≤ i).
    let same : k ≡ i = omega arith in
    let at : slice_get tried i ≡ Some r = subst (λ (j : ℕ). slice_get tried j ≡ Some r) same here in
    let equal : r ≡ q = cc in
    subst (λ (x : Rule). NoneFits (In x m fresh) s) equal none)
    (order i k)

module _ (m : Mode) (fresh : Bool) (s : List ℕ) (tried : List Rule) (kept : tried ≡ filter (leads (leader_of (slice_index s 0))) rules) where
  -- the first rule that fits, of those that the first byte leaves
  pub cut_here : (k : ℕ) (r : Rule) → slice_get tried k ≡ Some r → ((i : ℕ) (q : Rule) → i < k → slice_get tried i ≡ Some q → NoneFits (In q m fresh) s) → (w rest : List ℕ) → IsLongestWord (In r m fresh) s w rest → length rest < length s → IsCut m fresh s r w rest
  cut_here k r e before w rest l short =
      let fits : Rule → Type 0 = λ q. NoneFits (In q m fresh) s in
      let here : FirstAt fits tried r = record { place = k; tried = e; first = before } in
      let all = first_of_all (leads (leader_of (slice_index s 0))) fits (not_led m fresh s) rules r (subst (λ (xs : List Rule). FirstAt fits xs r) kept here) in
      record { place = all.place; tried = all.tried; longest = l; some = omega (arith, short, ap length l.split, length-append w rest); first = all.first }

  pub no_cut_here : ((i : ℕ) (q : Rule) → slice_get tried i ≡ Some q → NoneFits (In q m fresh) s) → HasNoCut m fresh s
  no_cut_here none =
      none_of_all (leads (leader_of (slice_index s 0))) (λ q. NoneFits (In q m fresh) s) (not_led m fresh s) rules
      (subst (λ (xs : List Rule). (i : ℕ) (q : Rule) → slice_get xs i ≡ Some q → NoneFits (In q m fresh) s) kept none)

-- the word of a cut is the front of the text
pub front_of : (s w rest : List ℕ) → s ≡ w ++ rest → take (length s - length rest) s ≡ w
front_of s w rest e =
    subst (λ (x : List ℕ). take (length x - length rest) x ≡ w) (sym e)
    (take_at w rest (length (w ++ rest) - length rest) (omega (arith, length-append w rest)))

-- and one of its rule
pub word_of : (m : Mode) (fresh : Bool) (s : List ℕ) (r : Rule) (w rest : List ℕ) → IsCut m fresh s r w rest → IsWordOf r w
word_of m fresh s rule.Byte w rest k = k.longest.fits.1
word_of m fresh s _ w rest k = tt
