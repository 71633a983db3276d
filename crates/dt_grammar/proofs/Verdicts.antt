-- The first fault of tokens, computed: what it answers is what breaks.
use Rattle.std.proofs.Common.{◌≡◌, ℕ, suc, zero, ◌+◌, ◌<◌, ◌≤◌, Bool, true, List, [], ◌∷◌, length, Option, Some, None, refl, sym, ap, subst, arith}
use Rattle.dt_names.specs.declared.fault.FaultKind.{FaultKind}
use Rattle.dt_model.specs.Names.{IsNodeName, IsPropertyName}
use Rattle.dt_model.specs.Valid.{IsReservation}
use Rattle.dt_lex.specs.declared.token.TokenKind.{TokenKind}
use Rattle.dt_lex.specs.declared.token.TokenKind.TheVariants as kind
use Rattle.dt_lex.specs.declared.token.Mark.TheVariants as mark
use Rattle.dt_lex.specs.declared.token.Keyword.TheVariants as keyword
use Rattle.dt_expr.specs.Expression.{value}
use Rattle.dt_expr.specs.Fits.{Fits}
use Rattle.dt_grammar.specs.Words.{Words}
use Rattle.dt_grammar.specs.Unchecked.{a_label, a_path, value_or_zero}
use Rattle.dt_grammar.specs.Strict.{IsNumber}
use Rattle.dt_grammar.specs.Wanted.{Made, size_in, expression_in, kind_at, bytes_at, Wanted, SomeLabels, SomeCells, SomeBytes, OneItem, AfterMemberLabels, AfterName, AfterAddress, BlockOpen, DeletedProperty, DeletedChild, DeletedNode, OneStatement, Prim, Whole, Move, give, refuse, want}
use Rattle.dt_grammar.specs.Descent.{move_at, first, after, found, stuck, refuses, part_stuck, Descends}
use Rattle.dt_grammar.specs.Faults.{Around, outside, within, label_named, reference_named, cell_named, name_before, member_named, deleted_named, IsFaultNamed, cell_placed, IsBeforeChildren, name_placed, member_placed, body_placed, IsReservedWith, IsPlaced, unwanted, unnamed, unplaced, Passes, cut_off, unended, too_long, valueless, too_large, IsFine, IsNoNumber, Breaks, shows, in_number, in_part, behind_part}
use Rattle.dt_grammar.proofs.Descent.{by_move}
use Rattle.dt_grammar.proofs.Stepping.{given, part_then}
use Rattle.dt_grammar.proofs.OneFault.{not_both, same_made}
use Rattle.dt_grammar.proofs.Known.{Known, holds, fails, unknown, is_at_most, is_below, is_equal, fits, is_number, is_reservation, is_property, is_node, is_label_text, is_reference, is_false, is_fine}

-- ---- what is read

pub data Read (g : Wanted) (ws : Words) : Type 0 where
  makes : (m : Made) (left : Words) → Descends g ws (found m left) → Read g ws
  sticks : (left : Words) → Descends g ws (stuck left) → Read g ws
  unread : Read g ws

-- one step, and the steps behind it
module _ (g : Wanted) (ws : Words) (again : (part : Wanted) (rest : Words) → Read part rest) where
  abbrev read_behind : (taken : Bool) (part : Wanted) (whole : Made → Wanted) (m : Made) (rest : Words) → move_at g (first ws) ≡ want taken part whole → Descends part (after taken ws) (found m rest) → Read (whole m) rest → Read g ws
  read_behind taken part whole m rest e d (makes n left f) = makes n left (part_then g ws taken part whole m rest (found n left) e d f)
  read_behind taken part whole m rest e d (sticks left f) = sticks left (part_then g ws taken part whole m rest (stuck left) e d f)
  read_behind taken part whole m rest e d unread = unread

  abbrev read_part : (taken : Bool) (part : Wanted) (whole : Made → Wanted) → move_at g (first ws) ≡ want taken part whole → Read part (after taken ws) → Read g ws
  read_part taken part whole e (makes m rest d) = read_behind taken part whole m rest e d (again (whole m) rest)
  read_part taken part whole e (sticks left d) = sticks left (by_move _ (want taken part whole) ws (stuck left) e (part_stuck d))
  read_part taken part whole e unread = unread

  abbrev read_by : (m : Move) → move_at g (first ws) ≡ m → Read g ws
  read_by (give taken made) e = makes made (after taken ws) (given g ws taken made e)
  read_by refuse e = sticks ws (by_move _ refuse ws (stuck ws) e refuses)
  read_by (want taken part whole) e = read_part taken part whole e (again part (after taken ws))

-- in so many steps, one inside the other
abbrev read : ℕ → (g : Wanted) (ws : Words) → Read g ws
read zero g ws = unread
read (suc n) g ws = read_by g ws (read n) (move_at g (first ws)) refl

-- more steps than a sample takes
abbrev enough : ℕ
enough = 5000

-- ---- names

abbrev knows_label : (b : List ℕ) (k : Option TokenKind) → Known (label_named b k)
knows_label b (Some kind.Label) = is_label_text b
knows_label b _ = holds tt

abbrev knows_reference : (b : List ℕ) (k : Option TokenKind) → Known (reference_named b k)
knows_reference b (Some kind.LabelReference) = is_reference a_label b
knows_reference b (Some kind.PathReference) = is_reference a_path b
knows_reference b _ = holds tt

abbrev knows_cell : (b : List ℕ) (k : Option TokenKind) → Known (cell_named b k)
knows_cell b (Some kind.Label) = is_label_text b
knows_cell b (Some kind.LabelReference) = is_reference a_label b
knows_cell b (Some kind.PathReference) = is_reference a_path b
knows_cell b _ = holds tt

abbrev knows_name : (b : List ℕ) (next : Option TokenKind) → Known (name_before b next)
knows_name b (Some (kind.Mark mark.Semicolon)) = is_property b
knows_name b (Some (kind.Mark mark.Equals)) = is_property b
knows_name b (Some (kind.Mark mark.OpenBrace)) = is_node b
knows_name b _ = holds tt

abbrev knows_member : (b : List ℕ) (k next : Option TokenKind) → Known (member_named b k next)
knows_member b (Some kind.Name) next = knows_name b next
knows_member b _ next = holds tt

abbrev knows_deleted : (P : List ℕ → Type 0) → ((b : List ℕ) → Known (P b)) → (b : List ℕ) (k next : Option TokenKind) → Known (deleted_named P b k next)
knows_deleted P known b (Some kind.Name) (Some (kind.Mark mark.Semicolon)) = known b
knows_deleted P known b _ _ = holds tt

abbrev is_named : (g : Wanted) (ws : Words) → Known (IsFaultNamed g ws)
is_named SomeLabels ws = knows_label (bytes_at (first ws)) (kind_at (first ws))
is_named SomeCells ws = knows_cell (bytes_at (first ws)) (kind_at (first ws))
is_named SomeBytes ws = knows_label (bytes_at (first ws)) (kind_at (first ws))
is_named OneItem ws = knows_reference (bytes_at (first ws)) (kind_at (first ws))
is_named (OneStatement ls) ws = knows_reference (bytes_at (first ws)) (kind_at (first ws))
is_named DeletedNode ws = knows_reference (bytes_at (first ws)) (kind_at (first ws))
is_named (AfterMemberLabels ls) ws = knows_member (bytes_at (first ws)) (kind_at (first ws)) (kind_at (first (after true ws)))
is_named (DeletedProperty ls) ws = knows_deleted IsPropertyName is_property (bytes_at (first ws)) (kind_at (first ws)) (kind_at (first (after true ws)))
is_named (DeletedChild ls) ws = knows_deleted IsNodeName is_node (bytes_at (first ws)) (kind_at (first ws)) (kind_at (first (after true ws)))
is_named _ ws = holds tt

-- ---- places

abbrev knows_width : (bits : ℕ) (k : Option TokenKind) → Known (cell_placed bits k)
knows_width bits (Some kind.LabelReference) = is_equal bits 32
knows_width bits (Some kind.PathReference) = is_equal bits 32
knows_width bits _ = holds tt

abbrev is_before_children : (bodies : List Bool) → Known (IsBeforeChildren bodies)
is_before_children [] = holds tt
is_before_children (b ∷ bodies) = is_false b

abbrev knows_name_place : (bodies : List Bool) (k : Option TokenKind) → Known (name_placed bodies k)
knows_name_place bodies (Some (kind.Mark mark.Semicolon)) = is_before_children bodies
knows_name_place bodies (Some (kind.Mark mark.Equals)) = is_before_children bodies
knows_name_place bodies _ = holds tt

abbrev knows_member_place : (bodies : List Bool) (k : Option TokenKind) → Known (member_placed bodies k)
knows_member_place bodies (Some (kind.Keyword keyword.DeleteProperty)) = is_before_children bodies
knows_member_place bodies _ = holds tt

abbrev knows_body_place : (bodies : List Bool) (k : Option TokenKind) → Known (body_placed bodies k)
knows_body_place bodies (Some (kind.Mark mark.OpenBrace)) = is_below (length bodies) 65
knows_body_place bodies _ = holds tt

module _ (x : Made) (ws : Words) where
  abbrev Pair : Made → Type 0
  Pair y = IsReservation (value_or_zero (expression_in x), value_or_zero (expression_in y))

  abbrev IsSecond : Made → Type 0
  IsSecond y = IsNumber (size_in y) (expression_in y)

  pub no_second : (left : Words) → Descends Prim ws (stuck left) → IsReservedWith x ws
  no_second left d y rest f n = absurd (not_both d f)

  pub good_second : (m : Made) (left : Words) → Descends Prim ws (found m left) → Pair m → IsReservedWith x ws
  good_second m left d p y rest f n = subst Pair (same_made d f) p

  pub odd_second : (m : Made) (left : Words) → Descends Prim ws (found m left) → ¬ IsSecond m → IsReservedWith x ws
  odd_second m left d o y rest f n = absurd (o (subst IsSecond (sym (same_made d f)) n))

  abbrev by_second : (m : Made) (left : Words) → Descends Prim ws (found m left) → Known (IsSecond m) → Known (Pair m) → Known (IsReservedWith x ws)
  by_second m left d (holds n) (holds p) = holds (good_second m left d p)
  by_second m left d (holds n) (fails p) = fails (λ h. p (h m left d n))
  by_second m left d (holds n) unknown = unknown
  by_second m left d (fails n) p = holds (odd_second m left d n)
  by_second m left d unknown p = unknown

  abbrev knows_reserved : Read Prim ws → Known (IsReservedWith x ws)
  knows_reserved (makes m left d) = by_second m left d (is_number (size_in m) (expression_in m)) (is_reservation (value_or_zero (expression_in x), value_or_zero (expression_in m)))
  knows_reserved (sticks left d) = holds (no_second left d)
  knows_reserved unread = unknown

abbrev is_placed : (a : Around) (g : Wanted) (ws : Words) → Known (IsPlaced a g ws)
is_placed a SomeCells ws = knows_width a.bits (kind_at (first ws))
is_placed a (AfterName ls n) ws = knows_name_place a.bodies (kind_at (first ws))
is_placed a (AfterMemberLabels ls) ws = knows_member_place a.bodies (kind_at (first ws))
is_placed a (BlockOpen ps) ws = knows_body_place a.bodies (kind_at (first ws))
is_placed a (AfterAddress ls x) ws = knows_reserved x ws (read enough Prim ws)
is_placed a _ ws = holds tt

-- ---- the first fault

-- where the tokens break, or what is read of them with no fault
pub data Verdict (a : Around) (g : Wanted) (ws : Words) : Type 0 where
  breaks : (k : FaultKind) (left : Words) → Breaks a g ws k left → Verdict a g ws
  passes : (m : Made) (left : Words) → Descends g ws (found m left) → IsFine a m → Verdict a g ws
  untold : Verdict a g ws

module _ (a : Around) (ws : Words) where
  pub above : (left : Words) → ¬ length ws ≤ length left + 1024 → length left + 1024 < length ws
  above left n = omega (arith, n)

  abbrev number_cut : (left : Words) → Descends Prim ws (stuck left) → Known (length ws ≤ length left + 1024) → Verdict a Prim ws
  number_cut left d (holds h) = breaks _ _ (in_number a ws _ _ (cut_off left d h))
  number_cut left d (fails n) = breaks _ _ (in_number a ws _ _ (unended left d (above left n)))
  number_cut left d unknown = untold

  module _ (m : Made) (left : Words) (d : Descends Prim ws (found m left)) where
    abbrev number_range : IsNumber (size_in m) (expression_in m) → Known (Fits a.bits (value_or_zero (expression_in m))) → Known (IsFine a m) → Verdict a Prim ws
    number_range n (fails h) f = breaks _ _ (in_number a ws _ _ (too_large m left d n h))
    number_range n _ (holds f) = passes m left d f
    number_range n _ _ = untold

    abbrev number_worth : Known (IsNumber (size_in m) (expression_in m)) → Verdict a Prim ws
    number_worth (holds n) = number_range n (fits a.bits (value_or_zero (expression_in m))) (is_fine a m)
    number_worth _ = untold

    abbrev number_valued : size_in m ≤ 1024 → (v : Option ℕ) → value (expression_in m) ≡ v → Verdict a Prim ws
    number_valued h None e = breaks _ _ (in_number a ws _ _ (valueless m left d h e))
    number_valued h (Some n) e = number_worth (is_number (size_in m) (expression_in m))

    abbrev number_long : Known (1024 < size_in m) → Known (size_in m ≤ 1024) → Verdict a Prim ws
    number_long (holds h) k = breaks _ _ (in_number a ws _ _ (too_long m left d h))
    number_long _ (holds h) = number_valued h (value (expression_in m)) refl
    number_long _ _ = untold

  abbrev number_told : Read Prim ws → Verdict a Prim ws
  number_told (makes m left d) = number_long m left d (is_below 1024 (size_in m)) (is_at_most (size_in m) 1024)
  number_told (sticks left d) = number_cut left d (is_at_most (length ws) (length left + 1024))
  number_told unread = untold

module _ (a : Around) (g : Wanted) (ws : Words) (n : IsNoNumber g) (again : (b : Around) (part : Wanted) (rest : Words) → Verdict b part rest) where
  module _ (p : Passes a g ws) where
    abbrev told_behind : (taken : Bool) (part : Wanted) (whole : Made → Wanted) (m : Made) (rest : Words) → move_at g (first ws) ≡ want taken part whole → Descends part (after taken ws) (found m rest) → IsFine (within g a) m → Verdict a (whole m) rest → Verdict a g ws
    told_behind taken part whole m rest e d f (breaks k left b) = breaks k left (behind_part a g ws rest left k taken part whole m n e p d f b)
    told_behind taken part whole m rest e d f (passes made left h i) = passes made left (part_then g ws taken part whole m rest (found made left) e d h) i
    told_behind taken part whole m rest e d f untold = untold

    abbrev told_part : (taken : Bool) (part : Wanted) (whole : Made → Wanted) → move_at g (first ws) ≡ want taken part whole → Verdict (within g a) part (after taken ws) → Verdict a g ws
    told_part taken part whole e (breaks k left b) = breaks k left (in_part a g ws left k taken part whole n e p b)
    told_part taken part whole e (passes m rest d f) = told_behind taken part whole m rest e d f (again a (whole m) rest)
    told_part taken part whole e untold = untold

    abbrev told_made : (taken : Bool) (made : Made) → move_at g (first ws) ≡ give taken made → Known (IsFine a made) → Verdict a g ws
    told_made taken made e (holds f) = passes made (after taken ws) (given g ws taken made e) f
    told_made taken made e _ = untold

    abbrev told_by : (m : Move) → move_at g (first ws) ≡ m → Verdict a g ws
    told_by (give taken made) e = told_made taken made e (is_fine a made)
    told_by refuse e = breaks _ ws (shows a g ws _ (unwanted e))
    told_by (want taken part whole) e = told_part taken part whole e (again (within g a) part (after taken ws))

  abbrev told_placed : IsFaultNamed g ws → Known (IsPlaced a g ws) → Verdict a g ws
  told_placed h (holds p) = told_by (record { named = h; placed = p }) (move_at g (first ws)) refl
  told_placed h (fails q) = breaks _ ws (shows a g ws _ (unplaced h q))
  told_placed h unknown = untold

  abbrev told_named : Known (IsFaultNamed g ws) → Verdict a g ws
  told_named (holds h) = told_placed h (is_placed a g ws)
  told_named (fails q) = breaks _ ws (shows a g ws _ (unnamed q))
  told_named unknown = untold

  abbrev told_at : Verdict a g ws
  told_at = told_named (is_named g ws)

abbrev verdict : ℕ → (a : Around) (g : Wanted) (ws : Words) → Verdict a g ws
verdict zero a g ws = untold
verdict (suc n) a Prim ws = number_told a ws (read enough Prim ws)
verdict (suc n) a g ws = told_at a g ws tt (verdict n)

abbrev told : {a : Around} {g : Wanted} {ws : Words} → Verdict a g ws → Option (FaultKind × Words)
told (breaks k left b) = Some (k, left)
told _ = None

-- the first fault of the tokens of a source, and the tokens from its place on
abbrev pub first_fault : Words → Option (FaultKind × Words)
first_fault ws = told (verdict enough outside Whole ws)

abbrev or_else : FaultKind × Words → Option (FaultKind × Words) → FaultKind × Words
or_else other None = other
or_else other (Some p) = p

so_by : {a : Around} {g : Wanted} {ws : Words} (v : Verdict a g ws) (k : FaultKind) (left : Words) → told v ≡ Some (k, left) → Breaks a g ws k left
so_by {a = a} {g = g} {ws = ws} (breaks j rest b) k left e = subst (λ (p : FaultKind × Words). Breaks a g ws p.0 p.1) (ap (or_else (j, rest)) e) b
so_by (passes m rest d f) k left e = absurd (cc)
so_by untold k left e = absurd (cc)

-- what is answered is so
pub first_fault_is : (ws : Words) (k : FaultKind) (left : Words) → first_fault ws ≡ Some (k, left) → Breaks outside Whole ws k left
first_fault_is ws k left e = so_by (verdict enough outside Whole ws) k left e
