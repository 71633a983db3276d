-- What the descent reads is a relaxed source; where it is stuck, no relaxed source goes on.
use Rattle.std.proofs.Common.{◌≡◌, ℕ, suc, ◌+◌, ◌-◌, Bool, true, false, [], ◌∷◌, ◌++◌, length, take, Option, refl, sym, ◌∙◌, ap, subst, append_assoc, arith, length-append}
use Rattle.std.proofs.lemmas.List.{append-nil}
use Rattle.dt_grammar.specs.Words.{Word, Words}
use Rattle.dt_grammar.specs.Unchecked.{RawSource}
use Rattle.dt_grammar.specs.Relaxed.{RelaxedSource}
use Rattle.dt_grammar.specs.Wanted.{Made, Wanted, Any, AfterCondition, AfterThis, Level, AfterLeft, Prefix, Prim, Closing, Done, SomeLabels, SomeCells, AfterCell, SomeBytes, OneItem, BitsNumber, BitsOpen, CellsEnd, BytesEnd, OneValue, AfterComponentLabels, BehindItem, AfterComponent, SomeMembers, AfterMemberLabels, More, AfterName, DeletedProperty, DeletedChild, BlockOpen, BlockClose, Ending, OneStatement, DeletedNode, SomeStatements, StatementThen, MoreStatements, Top, AfterTopLabels, AfterAddress, ReserveEnd, Whole, AfterVersion, AfterHeader, PluginEnd, MoreHeaders, NextVersion, NextHeader, Move, want}
use Rattle.dt_grammar.specs.Descent.{first, after, Outcome, found, stuck, Does, gives, refuses, part_stuck, part_found, Descends}
use Rattle.dt_grammar.proofs.Descent.{deterministic, local, same_first, moved, on}
use Rattle.dt_grammar.proofs.Headers.{complete_source}
use Rattle.dt_grammar.proofs.Means.{Means, source_in, taken_of, Sound, SoundAt}
use Rattle.dt_grammar.proofs.SoundExpressions.{sound_any, sound_condition, sound_this, sound_level, sound_left, sound_prefix, sound_prim, sound_closing}
use Rattle.dt_grammar.proofs.SoundValues.{sound_labels, sound_cells, sound_cell, sound_bytes, sound_item, sound_bits, sound_bits_open, sound_cells_end, sound_bytes_end, sound_value, sound_component_labels, sound_behind_item, sound_component}
use Rattle.dt_grammar.proofs.SoundBodies.{sound_members, sound_member_labels, sound_more, sound_name, sound_deleted_property, sound_deleted_child, sound_block_open, sound_block_close, sound_ending, sound_statement, sound_deleted_node, sound_statements, sound_statement_then, sound_more_statements}
use Rattle.dt_grammar.proofs.SoundSources.{sound_top, sound_top_labels, sound_address, sound_reserve_end, sound_whole, sound_version, sound_header, sound_plugin, sound_more_headers, sound_next_version, sound_next_header}

sound_at : (g : Wanted) (k : Option Word) → SoundAt g k
sound_at Any k = sound_any k
sound_at (AfterCondition c) k = sound_condition c k
sound_at (AfterThis c x) k = sound_this c x k
sound_at (Level n) k = sound_level n k
sound_at (AfterLeft n x) k = sound_left n x k
sound_at Prefix k = sound_prefix k
sound_at Prim k = sound_prim k
sound_at (Closing x) k = sound_closing x k
sound_at (Done x) k = (refl, refl)
sound_at SomeLabels k = sound_labels k
sound_at SomeCells k = sound_cells k
sound_at (AfterCell x) k = sound_cell x k
sound_at SomeBytes k = sound_bytes k
sound_at OneItem k = sound_item k
sound_at BitsNumber k = sound_bits k
sound_at (BitsOpen bits) k = sound_bits_open bits k
sound_at (CellsEnd bits cs) k = sound_cells_end bits cs k
sound_at (BytesEnd cs) k = sound_bytes_end cs k
sound_at OneValue k = sound_value k
sound_at (AfterComponentLabels ls) k = sound_component_labels ls k
sound_at (BehindItem ls i) k = sound_behind_item ls i k
sound_at (AfterComponent c) k = sound_component c k
sound_at SomeMembers k = sound_members k
sound_at (AfterMemberLabels ls) k = sound_member_labels ls k
sound_at (More ps) k = sound_more ps k
sound_at (AfterName ls n) k = sound_name ls n k
sound_at (DeletedProperty ls) k = sound_deleted_property ls k
sound_at (DeletedChild ls) k = sound_deleted_child ls k
sound_at (BlockOpen ps) k = sound_block_open ps k
sound_at (BlockClose ps) k = sound_block_close ps k
sound_at (Ending ps) k = sound_ending ps k
sound_at (OneStatement ls) k = sound_statement ls k
sound_at DeletedNode k = sound_deleted_node k
sound_at SomeStatements k = sound_statements k
sound_at (StatementThen ls) k = sound_statement_then ls k
sound_at (MoreStatements ps) k = sound_more_statements ps k
sound_at Top k = sound_top k
sound_at (AfterTopLabels ls) k = sound_top_labels ls k
sound_at (AfterAddress ls x) k = sound_address ls x k
sound_at (ReserveEnd r) k = sound_reserve_end r k
sound_at Whole k = sound_whole k
sound_at AfterVersion k = sound_version k
sound_at AfterHeader k = sound_header k
sound_at PluginEnd k = sound_plugin k
sound_at (MoreHeaders plugin) k = sound_more_headers plugin k
sound_at (NextVersion plugin) k = sound_next_version plugin k
sound_at (NextHeader plugin) k = sound_next_header plugin k

-- what an outcome says of the tokens before those that it leaves
abbrev pub Reads : Wanted → Words → Outcome → Type 0
Reads g s (found e r) = (w : Words) × (s ≡ w ++ r) × Means g w e
Reads g s (stuck r) = Unit {0}

taken_split : (taken : Bool) (s : Words) → s ≡ taken_of taken (first s) ++ after taken s
taken_split false s = refl
taken_split true [] = refl
taken_split true (k ∷ s) = refl

reads_found : (g : Wanted) (taken : Bool) (part : Wanted) (then : Made → Wanted) (s left : Words) (made : Made) (end : Outcome) → Sound g (first s) (want taken part then) → Reads part (after taken s) (found made left) → Reads (then made) left end → Reads g s end
reads_found g taken part then s left made (stuck r) sound a b = tt
reads_found g taken part then s left made (found e r) sound a b = (
  taken_of taken (first s) ++ (a.0 ++ b.0),
  taken_split taken s ∙ ap (λ (l : Words). taken_of taken (first s) ++ l) (a.1 ∙ ap (λ (l : Words). a.0 ++ l) b.1 ∙ sym (append_assoc a.0 b.0 r)) ∙ sym (append_assoc (taken_of taken (first s)) (a.0 ++ b.0) r),
  sound a.0 b.0 made e a.2 b.2,
)

-- what a descent reads is spelled so
pub sound_does : {m : Move} {s : Words} {o : Outcome} → Does m s o → (g : Wanted) → Sound g (first s) m → Reads g s o
sound_does (gives {taken = taken} {s = s}) g sound = (taken_of taken (first s), taken_split taken s, sound)
sound_does refuses g sound = tt
sound_does (part_stuck d) g sound = tt
sound_does (part_found {taken = taken} {part = part} {whole = then} {s = s} {left = left} {made = made} {end = end} d e) g sound =
    reads_found g taken part then s left made end sound (sound_does d part (sound_at part (first (after taken s)))) (sound_does e (then made) (sound_at (then made) (first left)))

pub sound : (g : Wanted) (s : Words) (o : Outcome) → Descends g s o → Reads g s o
sound g s o d = sound_does d g (sound_at g (first s))

pub source_read : (ws : Words) (m : Made) → Descends Whole ws (found m []) → RelaxedSource ws (source_in m)
source_read ws m d =
    let r = sound Whole ws (found m []) d in
    subst (λ (w : Words). RelaxedSource w (source_in m)) (sym (r.1 ∙ append-nil r.0)) r.2

-- ---- the place of a fault

-- a list that begins with the tokens u and the one after them
record Agrees (w u left : Words) : Type 0 where
  rest : Words
  split : w ≡ u ++ rest
  same : first rest ≡ first left

agree : (u left w : Words) → take (suc (length u)) w ≡ take (suc (length u)) (u ++ left) → Agrees w u left
agree [] [] [] e = record { rest = []; split = refl; same = refl }
agree [] [] (k ∷ w) e = cc
agree [] (l ∷ left) [] e = cc
agree [] (l ∷ left) (k ∷ w) e = record { rest = k ∷ w; split = refl; same = cc }
agree (k ∷ u) left [] e = cc
agree (k ∷ u) left (l ∷ w) e =
    let a = agree u left w cc in
    let heads : l ≡ k = cc in
    let tails = a.split in
    record { rest = a.rest; split = cc; same = a.same }

pub none_goes_on : (s left : Words) → Descends Whole s (stuck left) → (w : Words) (r : RawSource) → RelaxedSource w r → take (length s - length left + 1) w ≡ take (length s - length left + 1) s → ⊥
none_goes_on s left d w r spelled e =
    let l = local d in
    let place : length s - length left + 1 ≡ suc (length l.front) = omega (arith, ap length l.split, length-append l.front left) in
    let a = agree l.front left w (ap (λ (n : ℕ). take n w) (sym place) ∙ e ∙ ap (λ (n : ℕ). take n s) place ∙ ap (λ (x : Words). take (suc (length l.front)) x) l.split) in
    let heads : first s ≡ first (l.front ++ a.rest) = ap first l.split ∙ sym (same_first l.front a.rest left a.same) in
    let there = moved Whole s (l.front ++ a.rest) (stuck a.rest) heads (l.again a.rest a.same) in
    let same = deterministic (complete_source w r spelled) (on Whole w (l.front ++ a.rest) (stuck a.rest) a.split there) in
    cc
