-- Statements, one by one, and their faults.
use Rattle.std.proofs.Common.{◌≡◌, ◌≢◌, Result, Ok, Err, OnOk, IfErr, ℕ, true, false, List, [], ◌∷◌, ◌++◌, length, map, Option, Some, refl, sym, ◌∙◌, ap, subst}
use Rattle.std.specs.List.{AllByRecursion}
use Rattle.dt_names.specs.declared.fault.FaultKind.TheVariants as fault
use Rattle.dt_lex.specs.declared.token.TokenKind.{TokenKind}
use Rattle.dt_lex.specs.declared.token.TokenKind.TheVariants as kind
use Rattle.dt_lex.specs.declared.token.Mark.TheVariants as mark
use Rattle.dt_lex.specs.declared.token.Keyword.TheVariants as keyword
use Rattle.dt_parse.specs.declared.stop.Stop.{Stop}
use Rattle.dt_parse.specs.declared.statement.Start.TheVariants as start
use Rattle.dt_grammar.specs.Words.{Words}
use Rattle.dt_grammar.specs.Unchecked.{Target, a_label, a_path, RawPlace, raw_root, raw_block, raw_delete_node, raw_label}
use Rattle.dt_grammar.specs.Relaxed.{reference_kind}
use Rattle.dt_grammar.specs.Strict.{AreLabelTexts, IsReferenceText, IsSoundPlace, IsOrdered}
use Rattle.dt_grammar.specs.Wanted.{Move, made_places, OneStatement, BlockOpen, DeletedNode, Ending, Done, kind_at, bytes_at, refuse, want}
use Rattle.dt_grammar.specs.Moves.{at_statement, at_deleted_node, at_ending, without_labels}
use Rattle.dt_grammar.specs.Descent.{found, Descends, first, after, move_at}
use Rattle.dt_grammar.specs.Faults.{outside, Passes, unwanted, unnamed, reference_named}
use Rattle.dt_parse.specs.Reading.{IsRead, IsBroken}
use Rattle.dt_parse.specs.Starts.{start_of}
use Rattle.dt_grammar.proofs.Stepping.{given, part_then}
use Rattle.dt_parse.proofs.NestedBodies.{all_together, labels_sound, labels_ordered}
use Rattle.dt_parse.proofs.Members.{stopped_as, part_stops, no_ending}

-- ---- what a statement begins with

pub root_start : (k : Option TokenKind) → start_of k ≡ start.Root → k ≡ Some (kind.Mark mark.Slash)
root_start (Some (kind.Mark mark.Slash)) h = refl
root_start (Some (kind.Keyword keyword.DeleteNode)) h = absurd (cc)
root_start (Some kind.LabelReference) h = absurd (cc)
root_start (Some kind.PathReference) h = absurd (cc)
root_start _ h = absurd (cc)

pub deletion_start : (k : Option TokenKind) → start_of k ≡ start.Deletion → k ≡ Some (kind.Keyword keyword.DeleteNode)
deletion_start (Some (kind.Mark mark.Slash)) h = absurd (cc)
deletion_start (Some (kind.Keyword keyword.DeleteNode)) h = refl
deletion_start (Some kind.LabelReference) h = absurd (cc)
deletion_start (Some kind.PathReference) h = absurd (cc)
deletion_start _ h = absurd (cc)

-- a reference's
pub node_start : (k : Option TokenKind) → start_of k ≡ start.Node → (t : Target) × (k ≡ Some (reference_kind t))
node_start (Some (kind.Mark mark.Slash)) h = absurd (cc)
node_start (Some (kind.Keyword keyword.DeleteNode)) h = absurd (cc)
node_start (Some kind.LabelReference) h = (a_label, refl)
node_start (Some kind.PathReference) h = (a_path, refl)
node_start _ h = absurd (cc)

no_start : (ls : List (List ℕ)) (b : List ℕ) (k : Option TokenKind) → start_of k ≡ start.Other → at_statement ls b k ≡ refuse
no_start ls b (Some (kind.Mark mark.Slash)) h = absurd (cc)
no_start ls b (Some (kind.Keyword keyword.DeleteNode)) h = absurd (cc)
no_start ls b (Some kind.LabelReference) h = absurd (cc)
no_start ls b (Some kind.PathReference) h = absurd (cc)
no_start ls b _ h = refl

no_node : (b : List ℕ) (k : Option TokenKind) → start_of k ≢ start.Node → at_deleted_node b k ≡ refuse
no_node b (Some kind.LabelReference) h = absurd (h refl)
no_node b (Some kind.PathReference) h = absurd (h refl)
no_node b _ h = refl

with_labels : (ls : List (List ℕ)) (m : Move) → ls ≢ [] → without_labels ls m ≡ refuse
with_labels [] m h = absurd (h refl)
with_labels (l ∷ ls) m h = refl

-- ---- faults at the front

pub unstarted : (ls : List (List ℕ)) (ws : Words) (stop : Stop) → start_of (kind_at (first ws)) ≡ start.Other → stop.kind ≡ fault.Syntax → stop.left ≡ length ws → IsBroken outside (OneStatement ls) ws stop
unstarted ls ws stop h k l = stopped_as outside (OneStatement ls) ws stop fault.Syntax k (unwanted (no_start ls (bytes_at (first ws)) (kind_at (first ws)) h)) l

pub labelled_root : (ls : List (List ℕ)) (ws : Words) (stop : Stop) → start_of (kind_at (first ws)) ≡ start.Root → ls ≢ [] → stop.kind ≡ fault.Syntax → stop.left ≡ length ws → IsBroken outside (OneStatement ls) ws stop
labelled_root ls ws stop h some k l = stopped_as outside (OneStatement ls) ws stop fault.Syntax k
    (unwanted (ap (at_statement ls (bytes_at (first ws))) (root_start (kind_at (first ws)) h) ∙ with_labels ls (want true (BlockOpen (raw_root ∷ [])) Done) some)) l

pub labelled_deletion : (ls : List (List ℕ)) (ws : Words) (stop : Stop) → start_of (kind_at (first ws)) ≡ start.Deletion → ls ≢ [] → stop.kind ≡ fault.Syntax → stop.left ≡ length ws → IsBroken outside (OneStatement ls) ws stop
labelled_deletion ls ws stop h some k l = stopped_as outside (OneStatement ls) ws stop fault.Syntax k
    (unwanted (ap (at_statement ls (bytes_at (first ws))) (deletion_start (kind_at (first ws)) h) ∙ with_labels ls (want true DeletedNode Done) some)) l

named_as : (t : Target) (b : List ℕ) (k : Option TokenKind) → k ≡ Some (reference_kind t) → IsReferenceText t b → reference_named b k
named_as a_label b k e h = subst (reference_named b) (sym e) h
named_as a_path b k e h = subst (reference_named b) (sym e) h

as_named : (t : Target) (b : List ℕ) (k : Option TokenKind) → k ≡ Some (reference_kind t) → reference_named b k → IsReferenceText t b
as_named a_label b k e h = subst (reference_named b) e h
as_named a_path b k e h = subst (reference_named b) e h

pub bad_node : (ls : List (List ℕ)) (ws : Words) (t : Target) (stop : Stop) → kind_at (first ws) ≡ Some (reference_kind t) → ¬ IsReferenceText t (bytes_at (first ws)) → stop.kind ≡ fault.BadName → stop.left ≡ length ws → IsBroken outside (OneStatement ls) ws stop
bad_node ls ws t stop e bad k l = stopped_as outside (OneStatement ls) ws stop fault.BadName k (unnamed (λ n. bad (as_named t (bytes_at (first ws)) (kind_at (first ws)) e n))) l

-- ---- a body behind `/`

root_move : (ws : Words) → start_of (kind_at (first ws)) ≡ start.Root → move_at (OneStatement []) (first ws) ≡ want true (BlockOpen (raw_root ∷ [])) Done
root_move ws h = ap (at_statement [] (bytes_at (first ws))) (root_start (kind_at (first ws)) h)

root_passes : (ws : Words) → start_of (kind_at (first ws)) ≡ start.Root → Passes outside (OneStatement []) ws
root_passes ws h = record { named = subst (reference_named (bytes_at (first ws))) (sym (root_start (kind_at (first ws)) h)) tt; placed = tt }

pub root_read : (ws vs left : Words) (qs : List RawPlace) → start_of (kind_at (first ws)) ≡ start.Root → vs ≡ after true ws → Descends (BlockOpen (raw_root ∷ [])) vs (found (made_places (raw_root ∷ qs)) left) →
    AllByRecursion IsSoundPlace qs → IsOrdered (false ∷ []) qs → IsRead outside (OneStatement []) ws (made_places (raw_root ∷ qs)) left
root_read ws vs left qs h v d s o = record {
  read = part_then (OneStatement []) ws true (BlockOpen (raw_root ∷ [])) Done (made_places (raw_root ∷ qs)) left (found (made_places (raw_root ∷ qs)) left) (root_move ws h)
      (subst (λ (x : Words). Descends (BlockOpen (raw_root ∷ [])) x (found (made_places (raw_root ∷ qs)) left)) v d) (given (Done (made_places (raw_root ∷ qs))) left false (made_places (raw_root ∷ qs)) refl);
  fine = ((tt, s), o);
}

pub root_stops : (ls : List (List ℕ)) (ws vs : Words) (stop : Stop) → start_of (kind_at (first ws)) ≡ start.Root → ls ≡ [] → vs ≡ after true ws → IsBroken outside (BlockOpen (raw_root ∷ [])) vs stop → IsBroken outside (OneStatement ls) ws stop
root_stops ls ws vs stop h e v b = subst (λ (x : List (List ℕ)). IsBroken outside (OneStatement x) ws stop) (sym e)
    (part_stops outside (OneStatement []) ws true (BlockOpen (raw_root ∷ [])) Done stop tt (root_move ws h) (root_passes ws h) (subst (λ (x : Words). IsBroken outside (BlockOpen (raw_root ∷ [])) x stop) v b))

-- ---- a body behind a reference

block_move : (ls : List (List ℕ)) (ws : Words) (t : Target) → kind_at (first ws) ≡ Some (reference_kind t) → move_at (OneStatement ls) (first ws) ≡ want true (BlockOpen (raw_block t (bytes_at (first ws)) ∷ map raw_label ls)) Done
block_move ls ws a_label e = ap (at_statement ls (bytes_at (first ws))) e
block_move ls ws a_path e = ap (at_statement ls (bytes_at (first ws))) e

pub block_read : (ls : List (List ℕ)) (ws vs left : Words) (t : Target) (qs : List RawPlace) → kind_at (first ws) ≡ Some (reference_kind t) → IsReferenceText t (bytes_at (first ws)) → AreLabelTexts ls → vs ≡ after true ws →
    Descends (BlockOpen (raw_block t (bytes_at (first ws)) ∷ map raw_label ls)) vs (found (made_places ((raw_block t (bytes_at (first ws)) ∷ map raw_label ls) ++ qs)) left) → AllByRecursion IsSoundPlace qs → IsOrdered (false ∷ []) qs →
    IsRead outside (OneStatement ls) ws (made_places ((raw_block t (bytes_at (first ws)) ∷ map raw_label ls) ++ qs)) left
block_read ls ws vs left t qs e n texts v d s o =
    let P = raw_block t (bytes_at (first ws)) ∷ map raw_label ls in
    record {
      read = part_then (OneStatement ls) ws true (BlockOpen P) Done (made_places (P ++ qs)) left (found (made_places (P ++ qs)) left) (block_move ls ws t e)
          (subst (λ (x : Words). Descends (BlockOpen P) x (found (made_places (P ++ qs)) left)) v d) (given (Done (made_places (P ++ qs))) left false (made_places (P ++ qs)) refl);
      fine = (all_together IsSoundPlace P qs (n, labels_sound ls texts) s, labels_ordered ls (false ∷ []) qs o);
    }

pub block_stops_in : (ls : List (List ℕ)) (ws vs : Words) (t : Target) (stop : Stop) → kind_at (first ws) ≡ Some (reference_kind t) → IsReferenceText t (bytes_at (first ws)) → vs ≡ after true ws →
    IsBroken outside (BlockOpen (raw_block t (bytes_at (first ws)) ∷ map raw_label ls)) vs stop → IsBroken outside (OneStatement ls) ws stop
block_stops_in ls ws vs t stop e n v b =
    let P = raw_block t (bytes_at (first ws)) ∷ map raw_label ls in
    part_stops outside (OneStatement ls) ws true (BlockOpen P) Done stop tt (block_move ls ws t e) (record { named = named_as t (bytes_at (first ws)) (kind_at (first ws)) e n; placed = tt })
    (subst (λ (x : Words). IsBroken outside (BlockOpen P) x stop) v b)

-- ---- a deletion

delete_move : (ws : Words) (t : Target) → kind_at (first ws) ≡ Some (reference_kind t) → move_at DeletedNode (first ws) ≡ want true (Ending (raw_delete_node t (bytes_at (first ws)) ∷ [])) Done
delete_move ws a_label e = ap (at_deleted_node (bytes_at (first ws))) e
delete_move ws a_path e = ap (at_deleted_node (bytes_at (first ws))) e

pub delete_read : (ws vs us left : Words) (t : Target) → start_of (kind_at (first ws)) ≡ start.Deletion → vs ≡ after true ws → kind_at (first vs) ≡ Some (reference_kind t) → IsReferenceText t (bytes_at (first vs)) → us ≡ after true vs → kind_at (first us) ≡ Some (kind.Mark mark.Semicolon) → left ≡ after true us →
    IsRead outside (OneStatement []) ws (made_places (raw_delete_node t (bytes_at (first vs)) ∷ [])) left
delete_read ws vs us left t h v e n u f l =
    let P = raw_delete_node t (bytes_at (first vs)) ∷ [] in
    let ended : Descends (Ending P) us (found (made_places P) left) = subst (λ (x : Words). Descends (Ending P) us (found (made_places P) x)) (sym l) (given (Ending P) us true (made_places P) (ap (at_ending P) f)) in
    let done : Descends (Done (made_places P)) left (found (made_places P) left) = given (Done (made_places P)) left false (made_places P) refl in
    let named : Descends DeletedNode vs (found (made_places P) left) = part_then DeletedNode vs true (Ending P) Done (made_places P) left (found (made_places P) left) (delete_move vs t e)
    (subst (λ (x : Words). Descends (Ending P) x (found (made_places P) left)) u ended) done in
    record {
      read = part_then (OneStatement []) ws true DeletedNode Done (made_places P) left (found (made_places P) left) (ap (at_statement [] (bytes_at (first ws))) (deletion_start (kind_at (first ws)) h))
          (subst (λ (x : Words). Descends DeletedNode x (found (made_places P) left)) v named) done;
      fine = ((n, tt), tt);
    }

past_deletion : (ls : List (List ℕ)) (ws vs : Words) (stop : Stop) → start_of (kind_at (first ws)) ≡ start.Deletion → ls ≡ [] → vs ≡ after true ws → IsBroken outside DeletedNode vs stop → IsBroken outside (OneStatement ls) ws stop
past_deletion ls ws vs stop h e v b = subst (λ (x : List (List ℕ)). IsBroken outside (OneStatement x) ws stop) (sym e)
    (part_stops outside (OneStatement []) ws true DeletedNode Done stop tt (ap (at_statement [] (bytes_at (first ws))) (deletion_start (kind_at (first ws)) h))
    (record { named = subst (reference_named (bytes_at (first ws))) (sym (deletion_start (kind_at (first ws)) h)) tt; placed = tt }) (subst (λ (x : Words). IsBroken outside DeletedNode x stop) v b))

pub no_reference : (ls : List (List ℕ)) (ws vs : Words) (stop : Stop) → start_of (kind_at (first ws)) ≡ start.Deletion → ls ≡ [] → vs ≡ after true ws → start_of (kind_at (first vs)) ≢ start.Node → stop.kind ≡ fault.Syntax → stop.left ≡ length vs → IsBroken outside (OneStatement ls) ws stop
no_reference ls ws vs stop h e v bad k l = past_deletion ls ws vs stop h e v (stopped_as outside DeletedNode vs stop fault.Syntax k (unwanted (no_node (bytes_at (first vs)) (kind_at (first vs)) bad)) l)

pub bad_deletion : (ls : List (List ℕ)) (ws vs : Words) (t : Target) (stop : Stop) → start_of (kind_at (first ws)) ≡ start.Deletion → ls ≡ [] → vs ≡ after true ws → kind_at (first vs) ≡ Some (reference_kind t) → ¬ IsReferenceText t (bytes_at (first vs)) → stop.kind ≡ fault.BadName → stop.left ≡ length vs → IsBroken outside (OneStatement ls) ws stop
bad_deletion ls ws vs t stop h e v f bad k l = past_deletion ls ws vs stop h e v (stopped_as outside DeletedNode vs stop fault.BadName k (unnamed (λ n. bad (as_named t (bytes_at (first vs)) (kind_at (first vs)) f n))) l)

pub unended_deletion : (ls : List (List ℕ)) (ws vs us : Words) (t : Target) (stop : Stop) → start_of (kind_at (first ws)) ≡ start.Deletion → ls ≡ [] → vs ≡ after true ws → kind_at (first vs) ≡ Some (reference_kind t) → IsReferenceText t (bytes_at (first vs)) → us ≡ after true vs →
    kind_at (first us) ≢ Some (kind.Mark mark.Semicolon) → stop.kind ≡ fault.Syntax → stop.left ≡ length us → IsBroken outside (OneStatement ls) ws stop
unended_deletion ls ws vs us t stop h e v f n u bad k l =
    let P = raw_delete_node t (bytes_at (first vs)) ∷ [] in
    past_deletion ls ws vs stop h e v
    (part_stops outside DeletedNode vs true (Ending P) Done stop tt (delete_move vs t f) (record { named = named_as t (bytes_at (first vs)) (kind_at (first vs)) f n; placed = tt })
    (subst (λ (x : Words). IsBroken outside (Ending P) x stop) u (stopped_as outside (Ending P) us stop fault.Syntax k (unwanted (no_ending P (kind_at (first us)) bad)) l)))

-- ---- answers that are handed on

pub err_weaker : {A : Type 0} (r : Result A Stop) (P Q : Stop → Type 0) → ((s : Stop) → P s → Q s) → IfErr r P → IfErr r Q
err_weaker (Ok x) P Q f h = tt
err_weaker (Err s) P Q f h = f s h

pub ok_weaker : {A : Type 0} (r : Result A Stop) (P Q : Type 0) → (P → Q) → OnOk r P → OnOk r Q
ok_weaker (Ok x) P Q f h = f h
ok_weaker (Err s) P Q f h = tt
