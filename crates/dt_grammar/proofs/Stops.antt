-- Where what was read of a kind stops: nothing more of it stands there.
use Rattle.std.proofs.Common.{◌≡◌, ℕ, Bool, true, false, List, [], ◌∷◌, Option, Some, None, refl, subst}
use Rattle.dt_lex.specs.declared.token.TokenKind.{TokenKind}
use Rattle.dt_lex.specs.declared.token.TokenKind.TheVariants as kind
use Rattle.dt_lex.specs.declared.token.Mark.TheVariants as mark
use Rattle.dt_lex.specs.declared.token.Keyword.TheVariants as keyword
use Rattle.dt_grammar.specs.Words.{Word, Words}
use Rattle.dt_grammar.specs.Unchecked.{RawComponent}
use Rattle.dt_grammar.specs.Relaxed.{word}
use Rattle.dt_grammar.specs.Wanted.{Made, Wanted, SomeLabels, SomeCells, AfterCell, SomeBytes, OneValue, AfterComponentLabels, BehindItem, AfterComponent, SomeMembers, AfterMemberLabels, More, Done, Move, give, refuse, want}
use Rattle.dt_grammar.specs.Moves.{no_member}
use Rattle.dt_grammar.specs.Descent.{move_at, first, after, Outcome, found, stuck, Does, gives, refuses, part_stuck, part_found, Descends}
use Rattle.dt_grammar.proofs.Values.{NoLabel}
use Rattle.dt_grammar.proofs.Means.{at_each}
use Rattle.dt_grammar.proofs.UnbrokenValues.{NoCell, NoByte, NoComma}
use Rattle.dt_grammar.proofs.UnbrokenBodies.{NoMember}

-- what is known of the token that is left, by what was wanted at a token
abbrev pub Stops : Wanted → Option Word → Option Word → Type 0
Stops (Done x) w z = w ≡ z
Stops SomeLabels w z = NoLabel z
Stops SomeCells w z = NoCell z
Stops (AfterCell x) w z = NoCell z
Stops SomeBytes w z = NoByte z
Stops OneValue w z = NoLabel z × NoComma z
Stops (AfterComponentLabels ls) w z = NoLabel z × NoComma z
Stops (BehindItem ls i) w z = NoLabel z × NoComma z
Stops (AfterComponent c) w z = NoLabel w → NoLabel z × NoComma z
Stops SomeMembers w z = NoLabel z × NoMember z
Stops (AfterMemberLabels ls) w z = NoLabel w → NoLabel z × NoMember z
Stops (More ps) w z = NoLabel z × NoMember z
Stops _ w z = Unit {0}

abbrev StopsBy : Wanted → Option Word → Move → Type 0
StopsBy g w (give false made) = Stops g w w
StopsBy g w (give true made) = (z : Option Word) → Stops g w z
StopsBy g w refuse = Unit {0}
StopsBy g w (want taken part whole) = (v y z : Option Word) (x : Made) → Stops part v y → Stops (whole x) y z → Stops g w z

abbrev StopsAt : Wanted → Option Word → Type 0
StopsAt g w = StopsBy g w (move_at g w)

anywhere : (g : Wanted) → ((w z : Option Word) → Stops g w z) → (w : Option Word) (m : Move) → StopsBy g w m
anywhere g t w (give false made) = t w w
anywhere g t w (give true made) = λ z. t w z
anywhere g t w refuse = tt
anywhere g t w (want taken part whole) = λ v y z x h f. t w z

-- where nothing more is wanted
pub on_both : (P Q : Option Word → Type 0) (y z : Option Word) → y ≡ z → P y × Q y → P z × Q z
on_both P Q y z e h = (subst P e h.0, subst Q e h.1)

labels_stop_at : (w : Option Word) → StopsAt SomeLabels w
labels_stop_at = at_each (StopsAt SomeLabels) (λ b. refl) at
  where
    at : (k : TokenKind) (b : List ℕ) → StopsAt SomeLabels (Some (word k b))
    at kind.Label b = λ v y z x h f. subst NoLabel f h
    at _ b = λ c. refl

cells_stop_at : (w : Option Word) → StopsAt SomeCells w
cells_stop_at = at_each (StopsAt SomeCells) (λ b. refl) at
  where
    at : (k : TokenKind) (b : List ℕ) → StopsAt SomeCells (Some (word k b))
    at kind.Label b = λ v y z x h f. subst NoCell f h
    at kind.LabelReference b = λ v y z x h f. subst NoCell f h
    at kind.PathReference b = λ v y z x h f. subst NoCell f h
    at (kind.Integer n) b = λ v y z x h f. f
    at (kind.Character n) b = λ v y z x h f. f
    at (kind.Mark mark.OpenParenthesis) b = λ v y z x h f. f
    at _ b = λ c. refl

bytes_stop_at : (w : Option Word) → StopsAt SomeBytes w
bytes_stop_at = at_each (StopsAt SomeBytes) (λ b. refl) at
  where
    at : (k : TokenKind) (b : List ℕ) → StopsAt SomeBytes (Some (word k b))
    at kind.Label b = λ v y z x h f. subst NoByte f h
    at (kind.Byte n) b = λ v y z x h f. subst NoByte f h
    at _ b = λ c. refl

comma_stop_at : (c : RawComponent) (w : Option Word) → StopsAt (AfterComponent c) w
comma_stop_at c = at_each (StopsAt (AfterComponent c)) (λ n. (n, λ d. refl)) at
  where
    at : (k : TokenKind) (b : List ℕ) → StopsAt (AfterComponent c) (Some (word k b))
    at (kind.Mark mark.Comma) b = λ v y z x h f n. on_both NoLabel NoComma y z f h
    at _ b = λ n. (n, λ d. refl)

none_stops : (ls : List (List ℕ)) (w : Option Word) → NoMember w → StopsBy (AfterMemberLabels ls) w (no_member ls)
none_stops [] w n = λ h. (h, n)
none_stops (l ∷ ls) w n = tt

member_stop_at : (ls : List (List ℕ)) (w : Option Word) → StopsAt (AfterMemberLabels ls) w
member_stop_at ls = at_each (StopsAt (AfterMemberLabels ls)) (none_stops ls None (λ b. refl)) at
  where
    at : (k : TokenKind) (b : List ℕ) → StopsAt (AfterMemberLabels ls) (Some (word k b))
    at kind.Name b = λ v y z x h f n. f
    at (kind.Keyword keyword.DeleteProperty) b = λ v y z x h f n. f
    at (kind.Keyword keyword.DeleteNode) b = λ v y z x h f n. f
    at k b = none_stops ls (Some (word k b)) (λ c. refl)

stops_at : (g : Wanted) (w : Option Word) → StopsAt g w
stops_at (Done x) w = refl
stops_at SomeLabels w = labels_stop_at w
stops_at SomeCells w = cells_stop_at w
stops_at (AfterCell x) w = λ v y z m h f. subst NoCell f h
stops_at SomeBytes w = bytes_stop_at w
stops_at OneValue w = λ v y z x h f. f
stops_at (AfterComponentLabels ls) w = λ v y z x h f. f
stops_at (BehindItem ls i) w = λ v y z x h f. f h
stops_at (AfterComponent c) w = comma_stop_at c w
stops_at SomeMembers w = λ v y z x h f. f h
stops_at (AfterMemberLabels ls) w = member_stop_at ls w
stops_at (More ps) w = λ v y z x h f. on_both NoLabel NoMember y z f h
stops_at g w = anywhere g (λ v z. tt) w (move_at g w)

abbrev Ends : Wanted → Words → Outcome → Type 0
Ends g s (found m rest) = Stops g (first s) (first rest)
Ends g s (stuck rest) = Unit {0}

ends_found : (g : Wanted) (taken : Bool) (part : Wanted) (whole : Made → Wanted) (s left : Words) (m : Made) (end : Outcome) → StopsBy g (first s) (want taken part whole) → Ends part (after taken s) (found m left) → Ends (whole m) left end → Ends g s end
ends_found g taken part whole s left m (found e rest) by a b = by (first (after taken s)) (first left) (first rest) m a b
ends_found g taken part whole s left m (stuck rest) by a b = tt

ends_given : (g : Wanted) (taken : Bool) (s : Words) (m : Made) → StopsBy g (first s) (give taken m) → Stops g (first s) (first (after taken s))
ends_given g false s m by = by
ends_given g true s m by = by (first (after true s))

ends_does : {m : Move} {s : Words} {o : Outcome} → Does m s o → (g : Wanted) → StopsBy g (first s) m → Ends g s o
ends_does (gives {taken = taken} {made = made} {s = s}) g by = ends_given g taken s made by
ends_does refuses g by = tt
ends_does (part_stuck d) g by = tt
ends_does (part_found {taken = taken} {part = part} {whole = whole} {s = s} {left = left} {made = made} {end = end} d e) g by =
    ends_found g taken part whole s left made end by (ends_does d part (stops_at part (first (after taken s)))) (ends_does e (whole made) (stops_at (whole made) (first left)))

pub stops : (g : Wanted) (ws rest : Words) (m : Made) → Descends g ws (found m rest) → Stops g (first ws) (first rest)
stops g ws rest m d = ends_does d g (stops_at g (first ws))
