-- Statements, one behind the other.
use Rattle.std.proofs.Common.{◌≡◌, ◌≢◌, ◌<◌, ℕ, Bool, true, false, List, [], ◌∷◌, ◌++◌, length, map, refl, sym, ◌∙◌, ap, subst, append_assoc, arith, length-append}
use Rattle.std.specs.List.{AllByRecursion}
use Rattle.dt_names.specs.declared.fault.FaultKind.{FaultKind}
use Rattle.dt_parse.specs.declared.stop.Stop.{Stop}
use Rattle.dt_grammar.specs.Words.{Words}
use Rattle.dt_grammar.specs.Unchecked.{RawPlace, raw_label, raw_close}
use Rattle.dt_grammar.specs.Relaxed.{Members, no_more_members, a_flag, a_property, a_deleted_property, a_child, a_deleted_child, Statement, a_root_block, a_node_block, a_deleted_node}
use Rattle.dt_grammar.specs.Strict.{IsSoundPlace, IsOrdered}
use Rattle.dt_grammar.specs.Wanted.{made_places, made_labels, places_in, labels_in, SomeLabels, OneStatement, SomeStatements, StatementThen, MoreStatements, Done}
use Rattle.dt_grammar.specs.Descent.{found, Descends}
use Rattle.dt_grammar.specs.Faults.{outside, Breaks, in_part, behind_part}
use Rattle.dt_parse.specs.Reading.{IsRead, IsBroken}
use Rattle.dt_parse.specs.Starts.{StatementsFollow}
use Rattle.dt_grammar.proofs.Sound.{sound}
use Rattle.dt_grammar.proofs.StrictBodies.{child_regroup}
use Rattle.dt_grammar.proofs.CheckedBodies.{all_front, all_behind, behind_labels, members_back}
use Rattle.dt_grammar.proofs.Stepping.{given, part_then}
use Rattle.dt_parse.proofs.Stopping.{stops_too}
use Rattle.dt_parse.proofs.NestedBodies.{all_together, labels_ordered}
use Rattle.dt_parse.proofs.Members.{not_longer}

-- where members are in order with some places behind them, they are with others
members_more : {ws : Words} {ps : List RawPlace} → Members ws ps → AllByRecursion IsSoundPlace ps → (b : Bool) (bodies : List Bool) (x y : List RawPlace) → IsOrdered (b ∷ bodies) (ps ++ x) → ((c : Bool) → IsOrdered (c ∷ bodies) y) → IsOrdered (b ∷ bodies) (ps ++ y)
members_more no_more_members g b bodies x y o f = f b
members_more (a_flag us ws n s ls ps l m) g b bodies x y o f = (o.0, members_more m g.1 false bodies x y o.1 f)
members_more (a_property us vs ws n e s ls v ps l t m) g b bodies x y o f = (o.0, members_more m g.1 false bodies x y o.1 f)
members_more (a_deleted_property us ws k n s ls ps l m) g b bodies x y o f = (o.0, members_more m g.1 false bodies x y o.1 f)
members_more (a_child us vs ws n a z s ls cs ps l c m) g b bodies x y o f =
    let inside = all_behind IsSoundPlace (map raw_label ls) (cs ++ raw_close ∷ ps) g.1 in
    let child = all_front IsSoundPlace cs (raw_close ∷ ps) inside in
    let others = (all_behind IsSoundPlace cs (raw_close ∷ ps) inside).1 in
    let here = behind_labels ls (false ∷ true ∷ bodies) (cs ++ raw_close ∷ (ps ++ x)) (subst (IsOrdered (false ∷ true ∷ bodies)) (child_regroup (map raw_label ls) cs ps x) o.1) in
    let split = members_back c child false (true ∷ bodies) (raw_close ∷ (ps ++ x)) here in (
      o.0,
      subst (IsOrdered (false ∷ true ∷ bodies)) (sym (child_regroup (map raw_label ls) cs ps y))
          (labels_ordered ls (false ∷ true ∷ bodies) (cs ++ raw_close ∷ (ps ++ y))
          (members_more c child false (true ∷ bodies) (raw_close ∷ (ps ++ x)) (raw_close ∷ (ps ++ y)) here (λ d. members_more m others true bodies x y split.ordered f))),
    )
members_more (a_deleted_child us ws k n s ls ps l m) g b bodies x y o f = members_more m g.1 true bodies x y o f

statement_more : {ls : List (List ℕ)} {ws : Words} {ps : List RawPlace} → Statement ls ws ps → AllByRecursion IsSoundPlace ps → IsOrdered [] ps → (y : List RawPlace) → IsOrdered [] y → IsOrdered [] (ps ++ y)
statement_more (a_root_block c a z s ws cs m) g o y h =
    subst (IsOrdered (false ∷ [])) (sym (append_assoc cs (raw_close ∷ []) y)) (members_more m (all_front IsSoundPlace cs (raw_close ∷ []) g.1) false [] (raw_close ∷ []) (raw_close ∷ y) o (λ d. h))
statement_more (a_node_block ls t b a z s ws cs m) g o y h =
    let inside = all_behind IsSoundPlace (map raw_label ls) (cs ++ raw_close ∷ []) g.1 in
    subst (IsOrdered (false ∷ [])) (sym (child_regroup (map raw_label ls) cs [] y))
    (labels_ordered ls (false ∷ []) (cs ++ raw_close ∷ y)
    (members_more m (all_front IsSoundPlace cs (raw_close ∷ []) inside) false [] (raw_close ∷ []) (raw_close ∷ y) (behind_labels ls (false ∷ []) (cs ++ raw_close ∷ []) o) (λ d. h)))
statement_more (a_deleted_node t k b s) g o y h = h

not_empty : {ls : List (List ℕ)} {ws : Words} {ps : List RawPlace} → Statement ls ws ps → 0 < length ws
not_empty (a_root_block c a z s ws cs m) = omega arith
not_empty (a_node_block ls t b a z s ws cs m) = omega arith
not_empty (a_deleted_node t k b s) = omega arith

pub statement_ordered : (ls : List (List ℕ)) (ws left : Words) (ps : List RawPlace) → IsRead outside (OneStatement ls) ws (made_places ps) left → (y : List RawPlace) → IsOrdered [] y → IsOrdered [] (ps ++ y)
statement_ordered ls ws left ps r y h = statement_more (sound (OneStatement ls) ws (found (made_places ps) left) r.read).2 r.fine.0 r.fine.1 y h

pub statement_shorter : (ls : List (List ℕ)) (ws left : Words) (ps : List RawPlace) → Descends (OneStatement ls) ws (found (made_places ps) left) → length left < length ws
statement_shorter ls ws left ps d =
    let r = sound (OneStatement ls) ws (found (made_places ps) left) d in
    let some = not_empty r.2 in
    let e = ap length r.1 ∙ length-append r.0 left in
    omega (arith, some, e)

pub statement_stops : (ls : List (List ℕ)) (ws : Words) (stop : Stop) → IsBroken outside (OneStatement ls) ws stop → IsBroken outside (StatementThen ls) ws stop
statement_stops ls ws stop b = stops_too outside outside (OneStatement ls) (StatementThen ls) ws ws stop
    (λ k left d. in_part outside (StatementThen ls) ws left k false (OneStatement ls) (λ x. MoreStatements (places_in x)) tt refl (record { named = tt; placed = tt }) d) b

-- the last
pub last_read : (ls : List (List ℕ)) (ws left : Words) (ps : List RawPlace) → length left ≡ 0 → Descends (OneStatement ls) ws (found (made_places ps) left) → Descends (StatementThen ls) ws (found (made_places ps) [])
last_read ls ws [] ps e d = part_then (StatementThen ls) ws false (OneStatement ls) (λ x. MoreStatements (places_in x)) (made_places ps) [] (found (made_places ps) []) refl d (given (MoreStatements ps) [] false (made_places ps) refl)
last_read ls ws (w ∷ left) ps e d = absurd (omega (arith, e))

-- another behind it
then_read : (ls ms : List (List ℕ)) (ws left here : Words) (ps qs : List RawPlace) → length left ≢ 0 → Descends (OneStatement ls) ws (found (made_places ps) left) → Descends SomeLabels left (found (made_labels ms) here) → Descends (StatementThen ms) here (found (made_places qs) []) →
    Descends (StatementThen ls) ws (found (made_places (ps ++ qs)) [])
then_read ls ms ws [] here ps qs n d l e = absurd (n refl)
then_read ls ms ws (w ∷ left) here ps qs n d l e =
    part_then (StatementThen ls) ws false (OneStatement ls) (λ x. MoreStatements (places_in x)) (made_places ps) (w ∷ left) (found (made_places (ps ++ qs)) []) refl d
    (part_then (MoreStatements ps) (w ∷ left) false SomeStatements (λ x. Done (made_places (ps ++ places_in x))) (made_places qs) [] (found (made_places (ps ++ qs)) []) refl
    (part_then SomeStatements (w ∷ left) false SomeLabels (λ x. StatementThen (labels_in x)) (made_labels ms) here (found (made_places qs) []) refl l e)
    (given (Done (made_places (ps ++ qs))) [] false (made_places (ps ++ qs)) refl))

more_breaks : (ls : List (List ℕ)) (ws left : Words) (ps : List RawPlace) (k : FaultKind) (end : Words) → length left ≢ 0 → IsRead outside (OneStatement ls) ws (made_places ps) left → Breaks outside SomeStatements left k end → Breaks outside (StatementThen ls) ws k end
more_breaks ls ws [] ps k end n r b = absurd (n refl)
more_breaks ls ws (w ∷ left) ps k end n r b =
    behind_part outside (StatementThen ls) ws (w ∷ left) end k false (OneStatement ls) (λ x. MoreStatements (places_in x)) (made_places ps) tt refl (record { named = tt; placed = tt }) r.read r.fine
    (in_part outside (MoreStatements ps) (w ∷ left) end k false SomeStatements (λ x. Done (made_places (ps ++ places_in x))) tt refl (record { named = tt; placed = tt }) b)

pub labels_between : (ls : List (List ℕ)) (ws left : Words) (ps : List RawPlace) (stop : Stop) → length left ≢ 0 → IsRead outside (OneStatement ls) ws (made_places ps) left → IsBroken outside SomeLabels left stop → IsBroken outside (StatementThen ls) ws stop
labels_between ls ws left ps stop n r b = stops_too outside outside SomeLabels (StatementThen ls) left ws stop
    (λ k end d. more_breaks ls ws left ps k end n r (in_part outside SomeStatements left end k false SomeLabels (λ x. StatementThen (labels_in x)) tt refl (record { named = tt; placed = tt }) d)) b

pub one_follows : (ls ms : List (List ℕ)) (ws left here : Words) (ps : List RawPlace) → length left ≢ 0 → IsRead outside (OneStatement ls) ws (made_places ps) left → IsRead outside SomeLabels left (made_labels ms) here → StatementsFollow ls ws ps ms here
one_follows ls ms ws left here ps n r l = record {
  reads = λ qs d. then_read ls ms ws left here ps qs n r.read l.read d;
  breaks = λ k end b. more_breaks ls ws left ps k end n r (behind_part outside SomeStatements left here end k false SomeLabels (λ x. StatementThen (labels_in x)) (made_labels ms) tt refl (record { named = tt; placed = tt }) l.read l.fine b);
  sound = r.fine.0;
  ordered = statement_ordered ls ws left ps r;
}

pub follows_on : (ls ms ns : List (List ℕ)) (ws here there : Words) (ps qs : List RawPlace) → StatementsFollow ls ws ps ms here → StatementsFollow ms here qs ns there → StatementsFollow ls ws (ps ++ qs) ns there
follows_on ls ms ns ws here there ps qs f g = record {
  reads = λ xs d. subst (λ (x : List RawPlace). Descends (StatementThen ls) ws (found (made_places x) [])) (sym (append_assoc ps qs xs)) (f.reads (qs ++ xs) (g.reads xs d));
  breaks = λ k left b. f.breaks k left (g.breaks k left b);
  sound = all_together IsSoundPlace ps qs f.sound g.sound;
  ordered = λ xs h. subst (IsOrdered []) (sym (append_assoc ps qs xs)) (f.ordered (qs ++ xs) (g.ordered xs h));
}

pub follows_nothing : (ls : List (List ℕ)) (ws : Words) → StatementsFollow ls ws [] ls ws
follows_nothing ls ws = record { reads = λ qs d. d; breaks = λ k left b. b; sound = tt; ordered = λ qs h. h }

-- all of them
pub all_read : (ls ms : List (List ℕ)) (ws here left : Words) (ps qs : List RawPlace) → StatementsFollow ls ws ps ms here → length left ≡ 0 → IsRead outside (OneStatement ms) here (made_places qs) left → IsRead outside (StatementThen ls) ws (made_places (ps ++ qs)) []
all_read ls ms ws here left ps qs f e r = record {
  read = f.reads qs (last_read ms here left qs e r.read);
  fine = (all_together IsSoundPlace ps qs f.sound r.fine.0, f.ordered qs r.fine.1);
}

pub stops_behind : (ls ms : List (List ℕ)) (ws here : Words) (ps : List RawPlace) (stop : Stop) → StatementsFollow ls ws ps ms here → IsBroken outside (StatementThen ms) here stop → IsBroken outside (StatementThen ls) ws stop
stops_behind ls ms ws here ps stop f b = stops_too outside outside (StatementThen ms) (StatementThen ls) here ws stop f.breaks b

pub turn_shorter : (ls ms : List (List ℕ)) (ws left here : Words) (ps : List RawPlace) → IsRead outside (OneStatement ls) ws (made_places ps) left → IsRead outside SomeLabels left (made_labels ms) here → length here < length ws
turn_shorter ls ms ws left here ps r l =
    let a = statement_shorter ls ws left ps r.read in
    let b = not_longer SomeLabels left here (made_labels ms) l.read in
    omega (arith, a, b)
