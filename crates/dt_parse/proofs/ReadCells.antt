-- Elements that are read one by one, between `<` and `>` and between `[` and `]`.
use Rattle.std.proofs.Common.{◌≡◌, ◌≢◌, ℕ, ◌<◌, ◌≤◌, ◌^◌, true, false, List, [], ◌∷◌, ◌++◌, length, Option, Some, refl, sym, ◌∙◌, ap, subst, arith, mod-lt, append_assoc, length-append}
use Rattle.std.proofs.lemmas.List.{append-nil}
use Rattle.std.proofs.lemmas.Nat.{pow_pos}
use Rattle.dt_names.specs.declared.fault.FaultKind.TheVariants as fault
use Rattle.dt_lex.specs.declared.token.TokenKind.{TokenKind}
use Rattle.dt_lex.specs.declared.token.TokenKind.TheVariants as kind
use Rattle.dt_lex.specs.declared.token.Mark.TheVariants as mark
use Rattle.dt_model.specs.Source.{Part}
use Rattle.dt_expr.specs.Fits.{element}
use Rattle.dt_source_items.specs.Gathered.{Gathered, with_parts, with_value}
use Rattle.dt_parse.specs.declared.stop.Stop.{Stop}
use Rattle.dt_parse.specs.declared.value.CellOpening.TheVariants as cell
use Rattle.dt_parse.specs.declared.value.ByteOpening.TheVariants as byte
use Rattle.dt_parse.specs.Openings.{cell_opening, byte_opening}
use Rattle.dt_grammar.specs.Words.{Words}
use Rattle.dt_grammar.specs.Unchecked.{Target, a_label, a_path, RawCell, label_cell, number_cell, reference_cell, byte_cell, cell_parts, cells_parts}
use Rattle.dt_grammar.specs.Relaxed.{reference_kind}
use Rattle.dt_grammar.specs.Strict.{IsLabelText, IsReferenceText, IsNumber, IsCell}
use Rattle.dt_grammar.specs.Wanted.{Made, made_expression, made_cells, size_in, expression_in, Wanted, Prim, AfterCell, SomeCells, SomeBytes, Move, refuse, give, want, kind_at, bytes_at}
use Rattle.dt_grammar.specs.Moves.{at_prim, at_cells, at_bytes, cell_first}
use Rattle.dt_grammar.specs.Descent.{Outcome, found, Does, gives, refuses, part_found, Descends, move_at, first, after}
use Rattle.dt_grammar.specs.Faults.{Around, in_elements, within, label_named, cell_named, cell_placed, Passes, Shows, unnamed, unplaced, IsFine, IsNoNumber, Breaks, in_part, behind_part}
use Rattle.dt_parse.specs.Reading.{IsRead, IsBroken}
use Rattle.dt_grammar.proofs.Descent.{deterministic, left_of, local}
use Rattle.dt_parse.proofs.Numbers.{number_of}
use Rattle.dt_grammar.proofs.Stepping.{given, part_then}
use Rattle.dt_parse.proofs.Stopping.{stopped}
use Rattle.dt_parse.proofs.Leading.{Goes, part_stop, shorter}

-- ---- numbers

never_found : {ws left : Words} {m : Made} → Does refuse ws (found m left) → ⊥
never_found d = let e = deterministic d refuses in absurd (cc)

pub no_more : {m : Move} {ws : Words} {o : Outcome} → Does m ws o → length (left_of o) ≤ length ws
no_more {o = o} d = let l = local d in let e = ap length l.split ∙ length-append l.front (left_of o) in omega (arith, e)

-- and has a token
prim_shorter : (k : Option TokenKind) (m : Made) (ws left : Words) → kind_at (first ws) ≡ k → Does (at_prim k) ws (found m left) → length left < length ws
prim_shorter (Some (kind.Integer n)) m ws left e gives = shorter ws left _ e refl
prim_shorter (Some (kind.Character n)) m ws left e gives = shorter ws left _ e refl
prim_shorter (Some (kind.Mark mark.OpenParenthesis)) m ws left e (part_found d f) =
    let one = shorter ws (after true ws) _ e refl in
    let two = no_more d in
    let three = no_more f in
    omega (arith, one, two, three)
prim_shorter _ m ws left e d = absurd (never_found d)

pub number_shorter : (m : Made) (ws left : Words) → Descends Prim ws (found m left) → length left < length ws
number_shorter m ws left d = prim_shorter (kind_at (first ws)) m ws left refl d

-- ---- what the elements say

pub parts_more : (bits : ℕ) (cs : List RawCell) (c : RawCell) → cells_parts bits (cs ++ c ∷ []) ≡ cells_parts bits cs ++ cell_parts bits c
parts_more bits [] c = append-nil (cell_parts bits c)
parts_more bits (d ∷ cs) c = ap (λ (z : List Part). cell_parts bits d ++ z) (parts_more bits cs c) ∙ sym (append_assoc (cell_parts bits d) (cells_parts bits cs) (cell_parts bits c))

pub nothing_more : (g : Gathered) → g ≡ with_parts g []
nothing_more g = ap (with_value g) (sym (append-nil g.value))

pub said_more : (bits : ℕ) (old : Gathered) (cs : List RawCell) (c : RawCell) (now new : Gathered) (more : List Part) → now ≡ with_parts old (cells_parts bits cs) →
    new ≡ with_parts now more → more ≡ cell_parts bits c → new ≡ with_parts old (cells_parts bits (cs ++ c ∷ []))
said_more bits old cs c now new more e f g =
    f ∙ (λ i. with_parts (e i) (g i)) ∙ ap (with_value old) (append_assoc old.value (cells_parts bits cs) (cell_parts bits c)) ∙ ap (with_parts old) (sym (parts_more bits cs c))

-- ---- one element more

-- its token is used up, and the others are wanted
cell_goes : (g : Wanted) (f : Around → Around) (ws vs : Words) (c : RawCell) → IsNoNumber g → ((a : Around) → within g a ≡ a) → move_at g (first ws) ≡ want true g (cell_first c) →
    ((a : Around) → Passes (f a) g ws) → ((a : Around) → IsCell (f a).bits c) → vs ≡ after true ws → Goes made_cells g f ws vs (c ∷ [])
cell_goes g f ws vs c n w e p fine v = record {
  reads = λ a xs left r. record {
    read = part_then g ws true g (cell_first c) (made_cells xs) left (found (made_cells (c ∷ xs)) left) e (subst (λ (us : Words). Descends g us (found (made_cells xs) left)) v r.read) gives;
    fine = (fine a, r.fine);
  };
  breaks = λ a k left h.
      in_part (f a) g ws left k true g (cell_first c) n e (p a) (subst (λ (b : Around). Breaks b g (after true ws) k left) (sym (w (f a))) (subst (λ (us : Words). Breaks (f a) g us k left) v h));
}

-- ---- between `<` and `>`

pub cell_label : (k : Option TokenKind) → cell_opening k ≡ cell.Label → k ≡ Some kind.Label
cell_label (Some kind.Label) e = refl
cell_label (Some kind.LabelReference) e = absurd (cc)
cell_label (Some kind.PathReference) e = absurd (cc)
cell_label (Some (kind.Integer n)) e = absurd (cc)
cell_label (Some (kind.Character n)) e = absurd (cc)
cell_label (Some (kind.Mark mark.OpenParenthesis)) e = absurd (cc)
cell_label _ e = absurd (cc)

pub cell_reference : (k : Option TokenKind) → cell_opening k ≡ cell.Reference → (t : Target) × (k ≡ Some (reference_kind t))
cell_reference (Some kind.Label) e = absurd (cc)
cell_reference (Some kind.LabelReference) e = (a_label, refl)
cell_reference (Some kind.PathReference) e = (a_path, refl)
cell_reference (Some (kind.Integer n)) e = absurd (cc)
cell_reference (Some (kind.Character n)) e = absurd (cc)
cell_reference (Some (kind.Mark mark.OpenParenthesis)) e = absurd (cc)
cell_reference _ e = absurd (cc)

-- a number begins here
record Numbers (b : List ℕ) (bits : ℕ) (k : Option TokenKind) : Type 0 where
  moves : at_cells b k ≡ want false Prim AfterCell
  named : cell_named b k
  placed : cell_placed bits k

cell_number : (b : List ℕ) (bits : ℕ) (k : Option TokenKind) → cell_opening k ≡ cell.Number → Numbers b bits k
cell_number b bits (Some kind.Label) e = absurd (cc)
cell_number b bits (Some kind.LabelReference) e = absurd (cc)
cell_number b bits (Some kind.PathReference) e = absurd (cc)
cell_number b bits (Some (kind.Integer n)) e = record { moves = refl; named = tt; placed = tt }
cell_number b bits (Some (kind.Character n)) e = record { moves = refl; named = tt; placed = tt }
cell_number b bits (Some (kind.Mark mark.OpenParenthesis)) e = record { moves = refl; named = tt; placed = tt }
cell_number b bits _ e = absurd (cc)

no_cell : (b : List ℕ) (k : Option TokenKind) → cell_opening k ≡ cell.Nothing → at_cells b k ≡ give false (made_cells [])
no_cell b (Some kind.Label) e = absurd (cc)
no_cell b (Some kind.LabelReference) e = absurd (cc)
no_cell b (Some kind.PathReference) e = absurd (cc)
no_cell b (Some (kind.Integer n)) e = absurd (cc)
no_cell b (Some (kind.Character n)) e = absurd (cc)
no_cell b (Some (kind.Mark mark.OpenParenthesis)) e = absurd (cc)
no_cell b _ e = refl

pub no_cells_read : (bits : ℕ) (ws : Words) → cell_opening (kind_at (first ws)) ≡ cell.Nothing → (a : Around) → IsRead (in_elements bits a) SomeCells ws (made_cells []) ws
no_cells_read bits ws e a = record { read = given SomeCells ws false (made_cells []) (no_cell (bytes_at (first ws)) (kind_at (first ws)) e); fine = tt }

pub label_goes : (bits : ℕ) (ws vs : Words) → kind_at (first ws) ≡ Some kind.Label → IsLabelText (bytes_at (first ws)) → vs ≡ after true ws →
    Goes made_cells SomeCells (in_elements bits) ws vs (label_cell (bytes_at (first ws)) ∷ [])
label_goes bits ws vs e t v =
    cell_goes SomeCells (in_elements bits) ws vs (label_cell (bytes_at (first ws))) tt (λ a. refl) (ap (at_cells (bytes_at (first ws))) e)
    (λ a. record { named = subst (cell_named (bytes_at (first ws))) (sym e) t; placed = subst (cell_placed bits) (sym e) tt }) (λ a. t) v

pub label_stop : (bits : ℕ) (ws : Words) (stop : Stop) → kind_at (first ws) ≡ Some kind.Label → ¬ IsLabelText (bytes_at (first ws)) → stop.kind ≡ fault.BadName → stop.left ≡ length ws →
    (a : Around) → IsBroken (in_elements bits a) SomeCells ws stop
label_stop bits ws stop e n k l a =
    stopped (in_elements bits a) SomeCells ws stop (subst (Shows (in_elements bits a) SomeCells ws) (sym k) (unnamed (λ h. n (subst (cell_named (bytes_at (first ws))) e h)))) l

named_reference : (t : Target) (b : List ℕ) → cell_named b (Some (reference_kind t)) ≡ IsReferenceText t b
named_reference a_label b = refl
named_reference a_path b = refl

placed_reference : (t : Target) (bits : ℕ) → cell_placed bits (Some (reference_kind t)) ≡ (bits ≡ 32)
placed_reference a_label bits = refl
placed_reference a_path bits = refl

reference_move : (t : Target) (b : List ℕ) → at_cells b (Some (reference_kind t)) ≡ want true SomeCells (cell_first (reference_cell t b))
reference_move a_label b = refl
reference_move a_path b = refl

pub reference_goes : (t : Target) (bits : ℕ) (ws vs : Words) → kind_at (first ws) ≡ Some (reference_kind t) → bits ≡ 32 → IsReferenceText t (bytes_at (first ws)) → vs ≡ after true ws →
    Goes made_cells SomeCells (in_elements bits) ws vs (reference_cell t (bytes_at (first ws)) ∷ [])
reference_goes t bits ws vs e w h v =
    let b = bytes_at (first ws) in
    cell_goes SomeCells (in_elements bits) ws vs (reference_cell t b) tt (λ a. refl) (ap (at_cells b) e ∙ reference_move t b)
    (λ a. record {
      named = subst (cell_named b) (sym e) (subst (λ (X : Type 0). X) (sym (named_reference t b)) h);
      placed = subst (cell_placed bits) (sym e) (subst (λ (X : Type 0). X) (sym (placed_reference t bits)) w);
    })
    (λ a. (w, h)) v

pub cell_reference_stop : (t : Target) (bits : ℕ) (ws : Words) (stop : Stop) → kind_at (first ws) ≡ Some (reference_kind t) → ¬ IsReferenceText t (bytes_at (first ws)) →
    stop.kind ≡ fault.BadName → stop.left ≡ length ws → (a : Around) → IsBroken (in_elements bits a) SomeCells ws stop
cell_reference_stop t bits ws stop e n k l a =
    let b = bytes_at (first ws) in
    stopped (in_elements bits a) SomeCells ws stop
    (subst (Shows (in_elements bits a) SomeCells ws) (sym k) (unnamed (λ h. n (subst (λ (X : Type 0). X) (named_reference t b) (subst (cell_named b) e h))))) l

pub width_stop : (t : Target) (bits : ℕ) (ws : Words) (stop : Stop) → kind_at (first ws) ≡ Some (reference_kind t) → IsReferenceText t (bytes_at (first ws)) → bits ≢ 32 →
    stop.kind ≡ fault.BadReferenceWidth → stop.left ≡ length ws → (a : Around) → IsBroken (in_elements bits a) SomeCells ws stop
width_stop t bits ws stop e h n k l a =
    let b = bytes_at (first ws) in
    stopped (in_elements bits a) SomeCells ws stop
    (subst (Shows (in_elements bits a) SomeCells ws) (sym k)
    (unplaced (subst (cell_named b) (sym e) (subst (λ (X : Type 0). X) (sym (named_reference t b)) h)) (λ p. n (subst (λ (X : Type 0). X) (placed_reference t bits) (subst (cell_placed bits) e p)))))
    l

number_passes : (bits : ℕ) (ws : Words) → cell_opening (kind_at (first ws)) ≡ cell.Number → (a : Around) → Passes (in_elements bits a) SomeCells ws
number_passes bits ws e a = let n = cell_number (bytes_at (first ws)) bits (kind_at (first ws)) e in record { named = n.named; placed = n.placed }

pub number_stop : (bits : ℕ) (ws : Words) (stop : Stop) → cell_opening (kind_at (first ws)) ≡ cell.Number → ((a : Around) → IsBroken (in_elements bits a) Prim ws stop) →
    (a : Around) → IsBroken (in_elements bits a) SomeCells ws stop
number_stop bits ws stop e d a =
    part_stop (in_elements bits a) SomeCells ws false Prim AfterCell ws stop tt (cell_number (bytes_at (first ws)) bits (kind_at (first ws)) e).moves (number_passes bits ws e a) refl (d a)

-- a number that was read among elements of so many bits
pub record NumberRead (bits : ℕ) (ws vs : Words) (m : Made) : Type 0 where
  pub read : Descends Prim ws (found m vs)
  pub fine : IsNumber (size_in m) (expression_in m)
  pub fits : IsFine (in_elements bits (record { bits = bits; bodies = [] })) (made_expression (size_in m) (expression_in m))

pub number_read : (bits : ℕ) (ws vs : Words) (m : Made) (a : Around) → IsRead (in_elements bits a) Prim ws m vs → NumberRead bits ws vs m
number_read bits ws vs m a r =
    let f = subst (IsFine (in_elements bits a)) (number_of ws m vs r.read).made r.fine in
    record { read = r.read; fine = f.0; fits = f }

number_fine : (bits : ℕ) (ws vs : Words) (m : Made) → NumberRead bits ws vs m → (a : Around) → IsFine (in_elements bits a) m
number_fine bits ws vs m r a = subst (IsFine (in_elements bits a)) (sym (number_of ws m vs r.read).made) r.fits

pub number_goes : (bits : ℕ) (ws vs : Words) (m : Made) → cell_opening (kind_at (first ws)) ≡ cell.Number → NumberRead bits ws vs m →
    Goes made_cells SomeCells (in_elements bits) ws vs (number_cell (size_in m) (expression_in m) ∷ [])
number_goes bits ws vs m e n =
    let c = number_cell (size_in m) (expression_in m) in
    let moves = (cell_number (bytes_at (first ws)) bits (kind_at (first ws)) e).moves in
    record {
      reads = λ a xs left r. record {
        read = part_then SomeCells ws false Prim AfterCell m vs (found (made_cells (c ∷ xs)) left) moves n.read
            (part_then (AfterCell m) vs false SomeCells (cell_first c) (made_cells xs) left (found (made_cells (c ∷ xs)) left) refl r.read gives);
        fine = (n.fits, r.fine);
      };
      breaks = λ a k left h.
          behind_part (in_elements bits a) SomeCells ws vs left k false Prim AfterCell m tt moves (number_passes bits ws e a) n.read (number_fine bits ws vs m n a)
          (in_part (in_elements bits a) (AfterCell m) vs left k false SomeCells (cell_first c) tt refl (record { named = tt; placed = tt }) h);
    }

-- ---- between `[` and `]`

pub byte_label : (k : Option TokenKind) → byte_opening k ≡ byte.Label → k ≡ Some kind.Label
byte_label (Some kind.Label) e = refl
byte_label (Some (kind.Byte n)) e = absurd (cc)
byte_label _ e = absurd (cc)

pub byte_byte : (n : ℕ) (k : Option TokenKind) → byte_opening k ≡ byte.Byte n → k ≡ Some (kind.Byte n)
byte_byte n (Some kind.Label) e = absurd (cc)
byte_byte n (Some (kind.Byte m)) e = let same : m ≡ n = cc in ap (λ (x : ℕ). Some (kind.Byte x)) same
byte_byte n _ e = absurd (cc)

no_byte : (b : List ℕ) (k : Option TokenKind) → byte_opening k ≡ byte.Nothing → at_bytes b k ≡ give false (made_cells [])
no_byte b (Some kind.Label) e = absurd (cc)
no_byte b (Some (kind.Byte m)) e = absurd (cc)
no_byte b _ e = refl

pub no_bytes_read : (ws : Words) → byte_opening (kind_at (first ws)) ≡ byte.Nothing → (a : Around) → IsRead a SomeBytes ws (made_cells []) ws
no_bytes_read ws e a = record { read = given SomeBytes ws false (made_cells []) (no_byte (bytes_at (first ws)) (kind_at (first ws)) e); fine = tt }

pub byte_label_goes : (ws vs : Words) → kind_at (first ws) ≡ Some kind.Label → IsLabelText (bytes_at (first ws)) → vs ≡ after true ws →
    Goes made_cells SomeBytes (λ a. a) ws vs (label_cell (bytes_at (first ws)) ∷ [])
byte_label_goes ws vs e t v =
    cell_goes SomeBytes (λ a. a) ws vs (label_cell (bytes_at (first ws))) tt (λ a. refl) (ap (at_bytes (bytes_at (first ws))) e)
    (λ a. record { named = subst (label_named (bytes_at (first ws))) (sym e) t; placed = tt }) (λ a. t) v

pub byte_label_stop : (ws : Words) (stop : Stop) → kind_at (first ws) ≡ Some kind.Label → ¬ IsLabelText (bytes_at (first ws)) → stop.kind ≡ fault.BadName → stop.left ≡ length ws →
    (a : Around) → IsBroken a SomeBytes ws stop
byte_label_stop ws stop e n k l a =
    stopped a SomeBytes ws stop (subst (Shows a SomeBytes ws) (sym k) (unnamed (λ h. n (subst (label_named (bytes_at (first ws))) e h)))) l

pub byte_goes : (n : ℕ) (ws vs : Words) → kind_at (first ws) ≡ Some (kind.Byte n) → vs ≡ after true ws → Goes made_cells SomeBytes (λ a. a) ws vs (byte_cell n ∷ [])
byte_goes n ws vs e v =
    cell_goes SomeBytes (λ a. a) ws vs (byte_cell n) tt (λ a. refl) (ap (at_bytes (bytes_at (first ws))) e)
    (λ a. record { named = subst (label_named (bytes_at (first ws))) (sym e) tt; placed = tt }) (λ a. tt) v

pub element_fits : (bits n e : ℕ) → e ≡ element bits n → e < 2 ^ bits
element_fits bits n e h = subst (λ (x : ℕ). x < 2 ^ bits) (sym h) (mod-lt n (pow_pos bits))
