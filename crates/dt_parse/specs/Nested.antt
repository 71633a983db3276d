-- How the members of bodies are read where bodies stand in bodies: what each of them leaves to be read, however many are open.
use Rattle.std.specs.Prelude.{◌≡◌, ℕ, zero, suc, ◌<◌, Bool, true, List, [], ◌∷◌, ◌++◌, length, replicate, Option, Some}
use Rattle.std.specs.List.{AllByRecursion}
use Rattle.dt_names.specs.declared.fault.FaultKind.{FaultKind}
use Rattle.dt_lex.specs.declared.token.TokenKind.{TokenKind}
use Rattle.dt_lex.specs.declared.token.TokenKind.TheVariants as kind
use Rattle.dt_lex.specs.declared.token.Mark.TheVariants as mark
use Rattle.dt_lex.specs.declared.token.Keyword.TheVariants as keyword
use Rattle.dt_parse.specs.declared.stop.Stop.{Stop}
use Rattle.dt_parse.specs.declared.body.Front.{Front}
use Rattle.dt_parse.specs.declared.body.Front.TheVariants as front
use Rattle.dt_parse.specs.declared.body.Behind.{Behind}
use Rattle.dt_parse.specs.declared.body.Behind.TheVariants as behind
use Rattle.dt_grammar.specs.Words.{Words}
use Rattle.dt_grammar.specs.Unchecked.{RawPlace, raw_close}
use Rattle.dt_grammar.specs.Strict.{IsSoundPlace, IsOrdered}
use Rattle.dt_grammar.specs.Wanted.{SomeMembers, AfterMemberLabels, BlockClose, made_places}
use Rattle.dt_grammar.specs.Descent.{found, Descends}
use Rattle.dt_grammar.specs.Faults.{Around, in_bodies, outside, Breaks}
use Rattle.dt_parse.specs.Reading.{IsBroken}

-- what a member, or the end of a body, begins with
abbrev pub front_of : Option TokenKind → Front
front_of (Some kind.Name) = front.Name
front_of (Some (kind.Keyword keyword.DeleteProperty)) = front.DeleteProperty
front_of (Some (kind.Keyword keyword.DeleteNode)) = front.DeleteNode
front_of _ = front.Other

-- what follows a name
abbrev pub behind_of : Option TokenKind → Behind
behind_of (Some (kind.Mark mark.Semicolon)) = behind.End
behind_of (Some (kind.Mark mark.Equals)) = behind.Value
behind_of (Some (kind.Mark mark.OpenBrace)) = behind.Body
behind_of _ = behind.Other

-- in a body inside these others
abbrev pub in_body : Bool → List Bool → Around
in_body late outer = in_bodies (late ∷ outer) outside

-- `}` and `;` are read up to these tokens
abbrev pub Closes : Words → Words → Type 0
Closes ws left = (ps : List RawPlace) → Descends (BlockClose ps) ws (found (made_places ps) left)

-- ---- a member alone

-- Behind its labels a member is read up to these tokens, as this place: members go on there as they do here, behind a child or not.
pub record IsMember (ls : List (List ℕ)) (late : Bool) (ws : Words) (p : RawPlace) (later : Bool) (left : Words) : Type 0 where
  pub reads : (ps : List RawPlace) (rest : Words) → Descends SomeMembers left (found (made_places ps) rest) →
      Descends (AfterMemberLabels ls) ws (found (made_places (p ∷ ps)) rest)
  pub breaks : (outer : List Bool) (k : FaultKind) (rest : Words) → Breaks (in_body later outer) SomeMembers left k rest →
      Breaks (in_body late outer) (AfterMemberLabels ls) ws k rest
  pub sound : IsSoundPlace p
  pub ordered : (outer : List Bool) (ps : List RawPlace) → IsOrdered (later ∷ outer) ps → IsOrdered (late ∷ outer) (p ∷ ps)
  pub shorter : length left < length ws

-- ---- bodies in bodies

-- So many bodies are read to their ends, as these places, up to these tokens.
pub data Finishes : ℕ → Words → List RawPlace → Words → Type 0 where
  finished : (end : Words) → Finishes zero end [] end
  closing : (n : ℕ) (ws rest more end : Words) (ps qs : List RawPlace) → Descends SomeMembers ws (found (made_places ps) rest) →
      Closes rest more → Finishes n more qs end → Finishes (suc n) ws (ps ++ raw_close ∷ qs) end

-- No fault shows in the members of a body inside so many others, behind a child or not.
pub record AreFine (n : ℕ) (late : Bool) (ps : List RawPlace) : Type 0 where
  pub sound : AllByRecursion IsSoundPlace ps
  pub ordered : (outer : List Bool) → length outer ≡ n → (rest : List RawPlace) → ((b : Bool) → IsOrdered (b ∷ outer) rest) →
      IsOrdered (late ∷ outer) (ps ++ rest)

-- Where so many bodies are open, reading stops so: in the members of the innermost; or behind those, where it is closed; or
-- behind its end, in the bodies around it.
pub data BreaksIn : ℕ → Bool → Words → Stop → Type 0 where
  in_members : (n : ℕ) (late : Bool) (ws : Words) (stop : Stop) →
      ((outer : List Bool) → length outer ≡ n → IsBroken (in_body late outer) SomeMembers ws stop) → BreaksIn (suc n) late ws stop
  at_close : (n : ℕ) (late : Bool) (ws rest : Words) (stop : Stop) (ps : List RawPlace) →
      Descends SomeMembers ws (found (made_places ps) rest) → AreFine n late ps →
      ((a : Around) (qs : List RawPlace) → IsBroken a (BlockClose qs) rest stop) → BreaksIn (suc n) late ws stop
  behind_close : (n : ℕ) (late : Bool) (ws rest more : Words) (stop : Stop) (ps : List RawPlace) →
      Descends SomeMembers ws (found (made_places ps) rest) → AreFine n late ps → Closes rest more →
      BreaksIn n true more stop → BreaksIn (suc n) late ws stop

-- of the bodies that are open, whether a child stood in each: where another is open inside, one did
abbrev pub flags : ℕ → Bool → List Bool
flags zero late = []
flags (suc n) late = late ∷ replicate n true

-- Places are read: with so many bodies open here and there, what is left to be read there is what is left here behind those
-- places.
pub record Goes (n : ℕ) (late : Bool) (ws : Words) (ps : List RawPlace) (m : ℕ) (later : Bool) (left : Words) : Type 0 where
  pub reads : (qs : List RawPlace) (end : Words) → Finishes m left qs end → Finishes n ws (ps ++ qs) end
  pub breaks : (stop : Stop) → BreaksIn m later left stop → BreaksIn n late ws stop
  pub sound : AllByRecursion IsSoundPlace ps
  pub ordered : (qs : List RawPlace) → IsOrdered (flags m later) qs → IsOrdered (flags n late) (ps ++ qs)

-- ---- the end of a body

-- reading stops where a body is to end: labels stand there, with no member behind them; or `}` or `;` doesn't
pub data IsUnclosed (ls : List (List ℕ)) (ws : Words) (stop : Stop) : Type 0 where
  labelled : ((a : Around) → IsBroken a (AfterMemberLabels ls) ws stop) → IsUnclosed ls ws stop
  unclosed : ls ≡ [] → ((a : Around) (qs : List RawPlace) → IsBroken a (BlockClose qs) ws stop) → IsUnclosed ls ws stop
