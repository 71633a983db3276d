-- What the tokens of a component lead to: cell lists, texts, lists of bytes and references.
use Rattle.std.proofs.Common.{◌≡◌, ◌≢◌, ℕ, true, List, length, Option, Some, refl, sym, ◌∙◌, ap, subst}
use Rattle.dt_names.specs.declared.fault.FaultKind.{FaultKind}
use Rattle.dt_names.specs.declared.fault.FaultKind.TheVariants as fault
use Rattle.dt_lex.specs.declared.token.TokenKind.{TokenKind}
use Rattle.dt_lex.specs.declared.token.TokenKind.TheVariants as kind
use Rattle.dt_lex.specs.declared.token.Mark.TheVariants as mark
use Rattle.dt_lex.specs.declared.token.Keyword.TheVariants as keyword
use Rattle.dt_parse.specs.declared.stop.Stop.{Stop}
use Rattle.dt_grammar.specs.Words.{Words}
use Rattle.dt_grammar.specs.Unchecked.{Target, a_label, a_path, RawCell, RawItem, cell_item, text_item, byte_item, path_item}
use Rattle.dt_grammar.specs.Relaxed.{reference_kind}
use Rattle.dt_grammar.specs.Strict.{IsReferenceText}
use Rattle.dt_grammar.specs.Wanted.{made_cells, made_item, cells_in, Done, OneItem, BitsNumber, BitsOpen, CellsEnd, BytesEnd, SomeCells, SomeBytes, refuse, want, kind_at, bytes_at}
use Rattle.dt_grammar.specs.Moves.{at_item, at_bits_open, at_cells_end, at_bytes_end}
use Rattle.dt_grammar.specs.Descent.{found, Descends, move_at, first, after}
use Rattle.dt_grammar.specs.Faults.{Around, in_elements, reference_named, Passes, Shows, unwanted, unnamed, unplaced, Breaks, shows, in_part, behind_part}
use Rattle.dt_parse.specs.Reading.{IsRead, IsBroken}
use Rattle.dt_parse.specs.Leading.{ReadsOn}
use Rattle.dt_parse.specs.declared.value.Opening.TheVariants as opening
use Rattle.dt_parse.specs.Openings.{opening_of}
use Rattle.dt_grammar.proofs.Descent.{by_move}
use Rattle.dt_grammar.proofs.Stepping.{given}
use Rattle.dt_parse.proofs.Stopping.{stopped, stops_too}
use Rattle.dt_parse.proofs.Leading.{unexpected, leads_on, leads_behind, leads_stop, leads_to_end, part_stop}

-- ---- what a token begins

pub at_cell_list : (k : Option TokenKind) → opening_of k ≡ opening.Cells → k ≡ Some (kind.Mark mark.Less)
at_cell_list (Some (kind.Mark mark.Less)) e = refl
at_cell_list (Some (kind.Mark mark.OpenBracket)) e = absurd (cc)
at_cell_list (Some (kind.Keyword keyword.Bits)) e = absurd (cc)
at_cell_list (Some kind.Text) e = absurd (cc)
at_cell_list (Some kind.LabelReference) e = absurd (cc)
at_cell_list (Some kind.PathReference) e = absurd (cc)
at_cell_list _ e = absurd (cc)

pub at_byte_list : (k : Option TokenKind) → opening_of k ≡ opening.Bytes → k ≡ Some (kind.Mark mark.OpenBracket)
at_byte_list (Some (kind.Mark mark.Less)) e = absurd (cc)
at_byte_list (Some (kind.Mark mark.OpenBracket)) e = refl
at_byte_list (Some (kind.Keyword keyword.Bits)) e = absurd (cc)
at_byte_list (Some kind.Text) e = absurd (cc)
at_byte_list (Some kind.LabelReference) e = absurd (cc)
at_byte_list (Some kind.PathReference) e = absurd (cc)
at_byte_list _ e = absurd (cc)

pub at_sized_list : (k : Option TokenKind) → opening_of k ≡ opening.SizedCells → k ≡ Some (kind.Keyword keyword.Bits)
at_sized_list (Some (kind.Mark mark.Less)) e = absurd (cc)
at_sized_list (Some (kind.Mark mark.OpenBracket)) e = absurd (cc)
at_sized_list (Some (kind.Keyword keyword.Bits)) e = refl
at_sized_list (Some kind.Text) e = absurd (cc)
at_sized_list (Some kind.LabelReference) e = absurd (cc)
at_sized_list (Some kind.PathReference) e = absurd (cc)
at_sized_list _ e = absurd (cc)

pub at_text : (k : Option TokenKind) → opening_of k ≡ opening.Text → k ≡ Some kind.Text
at_text (Some (kind.Mark mark.Less)) e = absurd (cc)
at_text (Some (kind.Mark mark.OpenBracket)) e = absurd (cc)
at_text (Some (kind.Keyword keyword.Bits)) e = absurd (cc)
at_text (Some kind.Text) e = refl
at_text (Some kind.LabelReference) e = absurd (cc)
at_text (Some kind.PathReference) e = absurd (cc)
at_text _ e = absurd (cc)

pub at_reference : (k : Option TokenKind) → opening_of k ≡ opening.Reference → (t : Target) × (k ≡ Some (reference_kind t))
at_reference (Some (kind.Mark mark.Less)) e = absurd (cc)
at_reference (Some (kind.Mark mark.OpenBracket)) e = absurd (cc)
at_reference (Some (kind.Keyword keyword.Bits)) e = absurd (cc)
at_reference (Some kind.Text) e = absurd (cc)
at_reference (Some kind.LabelReference) e = (a_label, refl)
at_reference (Some kind.PathReference) e = (a_path, refl)
at_reference _ e = absurd (cc)

at_no_item : (b : List ℕ) (k : Option TokenKind) → opening_of k ≡ opening.Nothing → at_item b k ≡ refuse
at_no_item b (Some (kind.Mark mark.Less)) e = absurd (cc)
at_no_item b (Some (kind.Mark mark.OpenBracket)) e = absurd (cc)
at_no_item b (Some (kind.Keyword keyword.Bits)) e = absurd (cc)
at_no_item b (Some kind.Text) e = absurd (cc)
at_no_item b (Some kind.LabelReference) e = absurd (cc)
at_no_item b (Some kind.PathReference) e = absurd (cc)
at_no_item b _ e = refl

pub item_stop : (ws : Words) (stop : Stop) → opening_of (kind_at (first ws)) ≡ opening.Nothing → stop.kind ≡ fault.Syntax → stop.left ≡ length ws →
    (a : Around) → IsBroken a OneItem ws stop
item_stop ws stop e k l a = unexpected a OneItem ws stop (at_no_item (bytes_at (first ws)) (kind_at (first ws)) e) k l

-- ---- cell lists

no_less : (bits : ℕ) (k : Option TokenKind) → k ≢ Some (kind.Mark mark.Less) → at_bits_open bits k ≡ refuse
no_less bits (Some (kind.Mark mark.Less)) n = absurd (n refl)
no_less bits _ n = refl

no_greater : (bits : ℕ) (cs : List RawCell) (k : Option TokenKind) → k ≢ Some (kind.Mark mark.Greater) → at_cells_end bits cs k ≡ refuse
no_greater bits cs (Some (kind.Mark mark.Greater)) n = absurd (n refl)
no_greater bits cs _ n = refl

pub open_stop : (bits : ℕ) (ws : Words) (stop : Stop) → kind_at (first ws) ≢ Some (kind.Mark mark.Less) → stop.kind ≡ fault.Syntax → stop.left ≡ length ws →
    (a : Around) → IsBroken a (BitsOpen bits) ws stop
open_stop bits ws stop n k l a = unexpected a (BitsOpen bits) ws stop (no_less bits _ n) k l

pub cells_stop : (bits : ℕ) (ws vs : Words) (stop : Stop) → kind_at (first ws) ≡ Some (kind.Mark mark.Less) → vs ≡ after true ws →
    ((a : Around) → IsBroken (in_elements bits a) SomeCells vs stop) → (a : Around) → IsBroken a (BitsOpen bits) ws stop
cells_stop bits ws vs stop e v d a =
    part_stop a (BitsOpen bits) ws true SomeCells (λ x. CellsEnd bits (cells_in x)) vs stop tt (ap (at_bits_open bits) e) (record { named = tt; placed = tt }) v (d a)

cells_lead : (bits : ℕ) (ws vs us : Words) (cs : List RawCell) → kind_at (first ws) ≡ Some (kind.Mark mark.Less) → vs ≡ after true ws →
    ((a : Around) → IsRead (in_elements bits a) SomeCells vs (made_cells cs) us) → (a : Around) → ReadsOn a (BitsOpen bits) ws a (CellsEnd bits cs) us
cells_lead bits ws vs us cs e v r a =
    leads_behind a (BitsOpen bits) ws true SomeCells (λ x. CellsEnd bits (cells_in x)) vs (made_cells cs) us tt (ap (at_bits_open bits) e) (record { named = tt; placed = tt }) v (r a)

pub cells_end_stop : (bits : ℕ) (ws vs us : Words) (cs : List RawCell) (stop : Stop) → kind_at (first ws) ≡ Some (kind.Mark mark.Less) → vs ≡ after true ws →
    ((a : Around) → IsRead (in_elements bits a) SomeCells vs (made_cells cs) us) →
    kind_at (first us) ≢ Some (kind.Mark mark.Greater) → stop.kind ≡ fault.Syntax → stop.left ≡ length us → (a : Around) → IsBroken a (BitsOpen bits) ws stop
cells_end_stop bits ws vs us cs stop e v r n k l a =
    leads_stop a (BitsOpen bits) ws a (CellsEnd bits cs) us stop (cells_lead bits ws vs us cs e v r a) (unexpected a (CellsEnd bits cs) us stop (no_greater bits cs _ n) k l)

pub cell_list_read : (bits : ℕ) (ws vs us left : Words) (cs : List RawCell) → kind_at (first ws) ≡ Some (kind.Mark mark.Less) → vs ≡ after true ws →
    ((a : Around) → IsRead (in_elements bits a) SomeCells vs (made_cells cs) us) → kind_at (first us) ≡ Some (kind.Mark mark.Greater) → left ≡ after true us →
    (a : Around) → IsRead a (BitsOpen bits) ws (made_item (cell_item bits cs)) left
cell_list_read bits ws vs us left cs e v r f l a =
    leads_to_end a (BitsOpen bits) ws a (CellsEnd bits cs) us true (made_item (cell_item bits cs)) left (cells_lead bits ws vs us cs e v r a) (ap (at_cells_end bits cs) f) l (r a).fine

-- ---- behind `/bits/`

width_leads : (bits : ℕ) (ws vs : Words) → move_at BitsNumber (first ws) ≡ want true (BitsOpen bits) Done → vs ≡ after true ws →
    (a : Around) → ReadsOn a BitsNumber ws a (BitsOpen bits) vs
width_leads bits ws vs e v a = leads_on a BitsNumber ws true (BitsOpen bits) vs tt e (record { named = tt; placed = tt }) v

pub sized_read : (bits : ℕ) (ws vs left : Words) (i : RawItem) → move_at BitsNumber (first ws) ≡ want true (BitsOpen bits) Done → vs ≡ after true ws →
    ((a : Around) → IsRead a (BitsOpen bits) vs (made_item i) left) → (a : Around) → IsRead a BitsNumber ws (made_item i) left
sized_read bits ws vs left i e v r a = record { read = (width_leads bits ws vs e v a).follows (found (made_item i) left) (r a).read; fine = (r a).fine }

pub sized_stop : (bits : ℕ) (ws vs : Words) (stop : Stop) → move_at BitsNumber (first ws) ≡ want true (BitsOpen bits) Done → vs ≡ after true ws →
    ((a : Around) → IsBroken a (BitsOpen bits) vs stop) → (a : Around) → IsBroken a BitsNumber ws stop
sized_stop bits ws vs stop e v d a = leads_stop a BitsNumber ws a (BitsOpen bits) vs stop (width_leads bits ws vs e v a) (d a)

pub width_stop : (ws : Words) (stop : Stop) → move_at BitsNumber (first ws) ≡ refuse → stop.kind ≡ fault.Syntax → stop.left ≡ length ws →
    (a : Around) → IsBroken a BitsNumber ws stop
width_stop ws stop e k l a = unexpected a BitsNumber ws stop e k l

-- ---- items

item_passes : (a : Around) (ws : Words) (k : TokenKind) → kind_at (first ws) ≡ Some k → reference_named (bytes_at (first ws)) (Some k) → Passes a OneItem ws
item_passes a ws k e h = record { named = subst (reference_named (bytes_at (first ws))) (sym e) h; placed = tt }

-- a cell list without a width is read as one of 32 bits
pub plain_read : (ws left : Words) (i : RawItem) → kind_at (first ws) ≡ Some (kind.Mark mark.Less) →
    ((a : Around) → IsRead a (BitsOpen 32) ws (made_item i) left) → (a : Around) → IsRead a OneItem ws (made_item i) left
plain_read ws left i e r a =
    record { read = by_move _ _ ws _ (ap (at_item (bytes_at (first ws))) e ∙ sym (ap (at_bits_open 32) e)) (r a).read; fine = (r a).fine }

plain_breaks : (a : Around) (ws : Words) (k : FaultKind) (left : Words) → kind_at (first ws) ≡ Some (kind.Mark mark.Less) →
    Breaks a (BitsOpen 32) ws k left → Breaks a OneItem ws k left
plain_breaks a ws k left e (shows _ _ _ _ (unwanted q)) = let p = ap (at_bits_open 32) e in absurd (cc)
plain_breaks a ws k left e (shows _ _ _ _ (unnamed n)) = absurd (n tt)
plain_breaks a ws k left e (shows _ _ _ _ (unplaced n p)) = absurd (p tt)
plain_breaks a ws k left e (in_part _ _ _ _ _ taken part whole n m p h) =
    in_part a OneItem ws left k taken part whole tt (ap (at_item (bytes_at (first ws))) e ∙ sym (ap (at_bits_open 32) e) ∙ m) (item_passes a ws (kind.Mark mark.Less) e tt) h
plain_breaks a ws k left e (behind_part _ _ _ rest _ _ taken part whole made n m p d f h) =
    behind_part a OneItem ws rest left k taken part whole made tt (ap (at_item (bytes_at (first ws))) e ∙ sym (ap (at_bits_open 32) e) ∙ m) (item_passes a ws (kind.Mark mark.Less) e tt) d f h

pub plain_stop : (ws : Words) (stop : Stop) → kind_at (first ws) ≡ Some (kind.Mark mark.Less) → ((a : Around) → IsBroken a (BitsOpen 32) ws stop) →
    (a : Around) → IsBroken a OneItem ws stop
plain_stop ws stop e d a = stops_too a a (BitsOpen 32) OneItem ws ws stop (λ k left h. plain_breaks a ws k left e h) (d a)

bits_lead : (ws vs : Words) → kind_at (first ws) ≡ Some (kind.Keyword keyword.Bits) → vs ≡ after true ws → (a : Around) → ReadsOn a OneItem ws (in_elements 32 a) BitsNumber vs
bits_lead ws vs e v a = leads_on a OneItem ws true BitsNumber vs tt (ap (at_item (bytes_at (first ws))) e) (item_passes a ws (kind.Keyword keyword.Bits) e tt) v

pub bits_read : (ws vs left : Words) (i : RawItem) → kind_at (first ws) ≡ Some (kind.Keyword keyword.Bits) → vs ≡ after true ws →
    ((a : Around) → IsRead a BitsNumber vs (made_item i) left) → (a : Around) → IsRead a OneItem ws (made_item i) left
bits_read ws vs left i e v r a = record { read = (bits_lead ws vs e v a).follows (found (made_item i) left) (r a).read; fine = (r a).fine }

pub bits_stop : (ws vs : Words) (stop : Stop) → kind_at (first ws) ≡ Some (kind.Keyword keyword.Bits) → vs ≡ after true ws →
    ((a : Around) → IsBroken a BitsNumber vs stop) → (a : Around) → IsBroken a OneItem ws stop
bits_stop ws vs stop e v d a = leads_stop a OneItem ws (in_elements 32 a) BitsNumber vs stop (bits_lead ws vs e v a) (d (in_elements 32 a))

pub text_read : (ws left : Words) → kind_at (first ws) ≡ Some kind.Text → left ≡ after true ws →
    (a : Around) → IsRead a OneItem ws (made_item (text_item (bytes_at (first ws)))) left
text_read ws left e l a = record {
  read = subst (λ (us : Words). Descends OneItem ws (found (made_item (text_item (bytes_at (first ws)))) us)) (sym l) (given OneItem ws true _ (ap (at_item (bytes_at (first ws))) e));
  fine = tt;
}

pub reference_read : (t : Target) (ws left : Words) → kind_at (first ws) ≡ Some (reference_kind t) → left ≡ after true ws → IsReferenceText t (bytes_at (first ws)) →
    (a : Around) → IsRead a OneItem ws (made_item (path_item t (bytes_at (first ws)))) left
reference_read a_label ws left e l h a = record {
  read = subst (λ (us : Words). Descends OneItem ws (found (made_item (path_item a_label (bytes_at (first ws)))) us)) (sym l) (given OneItem ws true _ (ap (at_item (bytes_at (first ws))) e));
  fine = h;
}
reference_read a_path ws left e l h a = record {
  read = subst (λ (us : Words). Descends OneItem ws (found (made_item (path_item a_path (bytes_at (first ws)))) us)) (sym l) (given OneItem ws true _ (ap (at_item (bytes_at (first ws))) e));
  fine = h;
}

unreferred : (t : Target) (ws : Words) → kind_at (first ws) ≡ Some (reference_kind t) → reference_named (bytes_at (first ws)) (kind_at (first ws)) → IsReferenceText t (bytes_at (first ws))
unreferred a_label ws e h = subst (reference_named (bytes_at (first ws))) e h
unreferred a_path ws e h = subst (reference_named (bytes_at (first ws))) e h

pub reference_stop : (t : Target) (ws : Words) (stop : Stop) → kind_at (first ws) ≡ Some (reference_kind t) → ¬ IsReferenceText t (bytes_at (first ws)) →
    stop.kind ≡ fault.BadName → stop.left ≡ length ws → (a : Around) → IsBroken a OneItem ws stop
reference_stop t ws stop e n k l a = stopped a OneItem ws stop (subst (Shows a OneItem ws) (sym k) (unnamed (λ h. n (unreferred t ws e h)))) l

-- ---- lists of bytes

no_bracket : (cs : List RawCell) (k : Option TokenKind) → k ≢ Some (kind.Mark mark.CloseBracket) → at_bytes_end cs k ≡ refuse
no_bracket cs (Some (kind.Mark mark.CloseBracket)) n = absurd (n refl)
no_bracket cs _ n = refl

pub bytes_stop : (ws vs : Words) (stop : Stop) → kind_at (first ws) ≡ Some (kind.Mark mark.OpenBracket) → vs ≡ after true ws →
    ((a : Around) → IsBroken a SomeBytes vs stop) → (a : Around) → IsBroken a OneItem ws stop
bytes_stop ws vs stop e v d a =
    part_stop a OneItem ws true SomeBytes (λ x. BytesEnd (cells_in x)) vs stop tt (ap (at_item (bytes_at (first ws))) e) (item_passes a ws (kind.Mark mark.OpenBracket) e tt) v (d (in_elements 32 a))

bytes_lead : (ws vs us : Words) (cs : List RawCell) → kind_at (first ws) ≡ Some (kind.Mark mark.OpenBracket) → vs ≡ after true ws →
    ((a : Around) → IsRead a SomeBytes vs (made_cells cs) us) → (a : Around) → ReadsOn a OneItem ws a (BytesEnd cs) us
bytes_lead ws vs us cs e v r a =
    leads_behind a OneItem ws true SomeBytes (λ x. BytesEnd (cells_in x)) vs (made_cells cs) us tt (ap (at_item (bytes_at (first ws))) e) (item_passes a ws (kind.Mark mark.OpenBracket) e tt) v (r (in_elements 32 a))

pub bytes_end_stop : (ws vs us : Words) (cs : List RawCell) (stop : Stop) → kind_at (first ws) ≡ Some (kind.Mark mark.OpenBracket) → vs ≡ after true ws →
    ((a : Around) → IsRead a SomeBytes vs (made_cells cs) us) →
    kind_at (first us) ≢ Some (kind.Mark mark.CloseBracket) → stop.kind ≡ fault.Syntax → stop.left ≡ length us → (a : Around) → IsBroken a OneItem ws stop
bytes_end_stop ws vs us cs stop e v r n k l a =
    leads_stop a OneItem ws a (BytesEnd cs) us stop (bytes_lead ws vs us cs e v r a) (unexpected a (BytesEnd cs) us stop (no_bracket cs _ n) k l)

pub byte_list_read : (ws vs us left : Words) (cs : List RawCell) → kind_at (first ws) ≡ Some (kind.Mark mark.OpenBracket) → vs ≡ after true ws →
    ((a : Around) → IsRead a SomeBytes vs (made_cells cs) us) → kind_at (first us) ≡ Some (kind.Mark mark.CloseBracket) → left ≡ after true us →
    (a : Around) → IsRead a OneItem ws (made_item (byte_item cs)) left
byte_list_read ws vs us left cs e v r f l a =
    leads_to_end a OneItem ws a (BytesEnd cs) us true (made_item (byte_item cs)) left (bytes_lead ws vs us cs e v r a) (ap (at_bytes_end cs) f) l (r (in_elements 8 a)).fine
