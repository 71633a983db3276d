-- What holds of every descent: it has one outcome, and looks at no token past the one that it stops at.
use Rattle.std.proofs.Common.{◌≡◌, Bool, true, false, [], ◌∷◌, ◌++◌, Option, None, refl, sym, ◌∙◌, ap, subst, append_assoc}
use Rattle.dt_grammar.specs.Words.{Word, Words}
use Rattle.dt_grammar.specs.Wanted.{Made, Wanted, Move, give, want}
use Rattle.dt_grammar.specs.Descent.{move_at, first, after, Outcome, found, stuck, Does, gives, refuses, part_stuck, part_found, Descends}

-- the descent that follows a part's outcome
abbrev Follows : (Made → Wanted) → Outcome → Outcome → Type 0
Follows whole (found made left) end = Does (move_at (whole made) (first left)) left end
Follows whole (stuck left) end = Unit {0}

-- a descent has one outcome
pub deterministic : {m : Move} {s : Words} {o o' : Outcome} → Does m s o → Does m s o' → o ≡ o'
deterministic gives gives = refl
deterministic refuses refuses = refl
deterministic (part_stuck d) (part_stuck d') = deterministic d d'
deterministic (part_stuck d) (part_found d' e') = let e = deterministic d d' in cc
deterministic (part_found d e) (part_stuck d') = let e = deterministic d d' in cc
deterministic (part_found {whole = whole} d e) (part_found {end = end'} d' e') =
    deterministic e (subst (λ (o : Outcome). Follows whole o end') (sym (deterministic d d')) e')

-- the tokens that an outcome leaves
abbrev pub left_of : Outcome → Words
left_of (found made left) = left
left_of (stuck left) = left

abbrev pub with_left : Outcome → Words → Outcome
with_left (found made left) t = found made t
with_left (stuck left) t = stuck t

pub same_first : (u s t : Words) → first s ≡ first t → first (u ++ s) ≡ first (u ++ t)
same_first [] s t h = h
same_first (k ∷ u) s t h = refl

-- a front that is used up after the first token, with that token
record Lifted (taken : Bool) (s part left : Words) : Type 0 where
  front : Words
  split : s ≡ front ++ left
  again : (t : Words) → first t ≡ first left → after taken (front ++ t) ≡ part ++ t

lifted : (taken : Bool) (s part left : Words) → after taken s ≡ part ++ left → Lifted taken s part left
lifted false s part left e = record { front = part; split = e; again = λ t h. refl }
lifted true [] [] left e = record { front = []; split = e; again = at_end left e }
  where
    at_end : (left : Words) → [] ≡ left → (t : Words) → first t ≡ first left → after true t ≡ t
    at_end [] e [] h = refl
    at_end [] e (k ∷ t) h = cc
    at_end (x ∷ xs) e t h = cc
lifted true [] (p ∷ part) left e = cc
lifted true (k ∷ s) part left e = record { front = k ∷ part; split = ap (λ (x : Words). k ∷ x) e; again = λ t h. refl }

-- what a descent does depends on no token past the first that it leaves
pub record Local (m : Move) (s : Words) (end : Outcome) : Type 0 where
  pub front : Words
  pub split : s ≡ front ++ left_of end
  pub again : (t : Words) → first t ≡ first (left_of end) → Does m (front ++ t) (with_left end t)

-- the same part on other tokens with the same head
pub moved : (part : Wanted) (s t : Words) (o : Outcome) → first s ≡ first t → Does (move_at part (first s)) t o → Descends part t o
moved part s t o h d = subst (λ (f : Option Word). Does (move_at part f) t o) h d

pub on : (part : Wanted) (s t : Words) (o : Outcome) → s ≡ t → Descends part t o → Descends part s o
on part s t o e d = subst (λ (x : Words). Descends part x o) (sym e) d

local_gives : (taken : Bool) (made : Made) (s : Words) → Local (give taken made) s (found made (after taken s))
local_gives false made s = record { front = []; split = refl; again = λ t h. gives }
local_gives true made [] = record { front = []; split = refl; again = at_end }
  where
    at_end : (t : Words) → first t ≡ None → Does (give true made) t (found made t)
    at_end [] h = gives
    at_end (k ∷ t) h = cc
local_gives true made (k ∷ s) = record { front = k ∷ []; split = refl; again = λ t h. gives }

local_stuck : (taken : Bool) (part : Wanted) (whole : Made → Wanted) (s left : Words) → Local (move_at part (first (after taken s))) (after taken s) (stuck left) → Local (want taken part whole) s (stuck left)
local_stuck taken part whole s left l =
    let f = lifted taken s l.front left l.split in
    record {
      front = f.front;
      split = f.split;
      again = λ t h.
          let heads : first (after taken s) ≡ first (l.front ++ t) = ap first l.split ∙ same_first l.front left t (sym h) in
          part_stuck (on part _ _ _ (f.again t h) (moved part (after taken s) (l.front ++ t) _ heads (l.again t h)));
    }

local_found : (taken : Bool) (part : Wanted) (whole : Made → Wanted) (s left : Words) (made : Made) (end : Outcome) → Local (move_at part (first (after taken s))) (after taken s) (found made left) → Local (move_at (whole made) (first left)) left end → Local (want taken part whole) s end
local_found taken part whole s left made end l m =
    let f = lifted taken s (l.front ++ m.front) (left_of end) (l.split ∙ ap (λ (x : Words). l.front ++ x) m.split ∙ sym (append_assoc l.front m.front (left_of end))) in
    record {
      front = f.front;
      split = f.split;
      again = λ t h.
          let rest_heads : first (m.front ++ t) ≡ first left = same_first m.front t (left_of end) h ∙ sym (ap first m.split) in
          let heads : first (after taken s) ≡ first (l.front ++ (m.front ++ t)) = ap first l.split ∙ same_first l.front left (m.front ++ t) (sym rest_heads) in
          let whole_part = moved part (after taken s) (l.front ++ (m.front ++ t)) _ heads (l.again (m.front ++ t) rest_heads) in
          part_found (on part _ _ _ (f.again t h ∙ append_assoc l.front m.front t) whole_part) (moved (whole made) left (m.front ++ t) _ (sym rest_heads) (m.again t h));
    }

pub local : {m : Move} {s : Words} {end : Outcome} → Does m s end → Local m s end
local (gives {taken = taken} {made = made} {s = s}) = local_gives taken made s
local (refuses {s = s}) = record { front = []; split = refl; again = λ t h. refuses }
local (part_stuck {taken = taken} {part = part} {whole = whole} {s = s} {left = left} d) = local_stuck taken part whole s left (local d)
local (part_found {taken = taken} {part = part} {whole = whole} {s = s} {left = left} {made = made} {end = end} d e) = local_found taken part whole s left made end (local d) (local e)

-- the same by an equal move
pub by_move : (m m' : Move) (s : Words) (o : Outcome) → m ≡ m' → Does m' s o → Does m s o
by_move m m' s o e d = subst (λ (x : Move). Does x s o) (sym e) d
