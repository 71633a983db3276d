-- Members of bodies, one by one, and their faults.
use Rattle.std.proofs.Common.{◌≡◌, ◌≢◌, ◌⊎◌, inl, inr, not, ◌==◌, ◌+◌, Result, Err, IfOk, IfErr, ℕ, ◌<◌, ◌≤◌, Bool, true, false, ◌||◌, true≢false, List, [], ◌∷◌, ◌++◌, length, map, Option, Some, refl, sym, ◌∙◌, ap, subst, arith, length-append, append_assoc}
use Rattle.std.specs.List.{AllByRecursion}
use Rattle.dt_names.specs.declared.fault.FaultKind.{FaultKind}
use Rattle.dt_names.specs.declared.fault.FaultKind.TheVariants as fault
use Rattle.dt_model.specs.Names.{IsNodeName, IsPropertyName}
use Rattle.dt_lex.specs.declared.token.TokenKind.{TokenKind}
use Rattle.dt_lex.specs.declared.token.TokenKind.TheVariants as kind
use Rattle.dt_lex.specs.declared.token.Mark.TheVariants as mark
use Rattle.dt_lex.specs.declared.token.Keyword.TheVariants as keyword
use Rattle.dt_parse.specs.declared.stop.Stop.{Stop}
use Rattle.dt_parse.specs.declared.body.Front.TheVariants as front
use Rattle.dt_parse.specs.declared.body.Behind.TheVariants as behind
use Rattle.std.proofs.lemmas.List.{map-append}
use Rattle.std.proofs.lemmas.Bool.{eqb-true}
use Rattle.dt_model.specs.Source.{Part, Place, label}
use Rattle.dt_model.specs.Source as model
use Rattle.dt_parse.specs.declared.body.Behind.{Behind}
use Rattle.dt_source_items.specs.Gathered.{Gathered, with_place, with_value as valued}
use Rattle.dt_grammar.specs.Words.{Word, Words}
use Rattle.dt_grammar.specs.Unchecked.{RawComponent, RawPlace, raw_child, raw_label, raw_property, raw_delete_property, raw_delete_child, place_meant, all_but_last}
use Rattle.dt_grammar.specs.Relaxed.{word, a_mark, a_keyword}
use Rattle.dt_grammar.specs.Strict.{AreLabelTexts, IsComponent, IsSoundPlace, IsOrdered}
use Rattle.dt_grammar.specs.Wanted.{Made, Wanted, made_places, made_value, components_in, places_in, SomeMembers, AfterMemberLabels, AfterName, DeletedProperty, DeletedChild, More, Ending, OneValue, BlockOpen, BlockClose, Done, kind_at, bytes_at, refuse, want}
use Rattle.dt_grammar.specs.Moves.{and_more, at_name, at_ending, at_member, at_block_close, at_block_open, no_member, at_deleted_property, at_deleted_child}
use Rattle.dt_grammar.specs.Descent.{found, Descends, first, after, move_at}
use Rattle.dt_grammar.specs.Faults.{Around, outside, within, is_child, Breaks, in_part, behind_part, Passes, Shows, unwanted, unnamed, unplaced, IsNoNumber, name_before, member_named, body_placed, shows, deleted_named, name_placed, member_placed}
use Rattle.dt_parse.specs.Reading.{IsBroken, broken}
use Rattle.dt_parse.specs.Nested.{front_of, behind_of, in_body, Closes, IsMember, IsUnclosed, unclosed}
use Rattle.dt_grammar.proofs.Names.{label_places}
use Rattle.dt_grammar.proofs.Descent.{local}
use Rattle.dt_grammar.proofs.Stepping.{given, part_then}
use Rattle.dt_parse.proofs.Stopping.{stopped, stops_too}
use Rattle.dt_parse.proofs.NestedBodies.{more_read, front_word}

-- ---- stops

pub stopped_as : (a : Around) (g : Wanted) (ws : Words) (stop : Stop) (k : FaultKind) → stop.kind ≡ k → Shows a g ws k → stop.left ≡ length ws → IsBroken a g ws stop
stopped_as a g ws stop k e s l = stopped a g ws stop (subst (Shows a g ws) (sym e) s) l

pub part_stops : (a : Around) (g : Wanted) (ws : Words) (taken : Bool) (part : Wanted) (whole : Made → Wanted) (stop : Stop) → IsNoNumber g → move_at g (first ws) ≡ want taken part whole → Passes a g ws →
    IsBroken (within g a) part (after taken ws) stop → IsBroken a g ws stop
part_stops a g ws taken part whole stop n e p b = stops_too (within g a) a part g (after taken ws) ws stop (λ k left d. in_part a g ws left k taken part whole n e p d) b

-- ---- what stands behind a name

pub named_property : (b : List ℕ) (k : Option TokenKind) → (behind_of k ≡ behind.End) ⊎ (behind_of k ≡ behind.Value) → IsPropertyName b → name_before b k
named_property b (Some (kind.Mark mark.Semicolon)) h n = n
named_property b (Some (kind.Mark mark.Equals)) h n = n
named_property b (Some (kind.Mark mark.OpenBrace)) (inl e) n = absurd (cc)
named_property b (Some (kind.Mark mark.OpenBrace)) (inr e) n = absurd (cc)
named_property b _ h n = tt

pub property_named : (b : List ℕ) (k : Option TokenKind) → (behind_of k ≡ behind.End) ⊎ (behind_of k ≡ behind.Value) → name_before b k → IsPropertyName b
property_named b (Some (kind.Mark mark.Semicolon)) h n = n
property_named b (Some (kind.Mark mark.Equals)) h n = n
property_named b _ (inl e) n = absurd (cc)
property_named b _ (inr e) n = absurd (cc)

pub named_child : (b : List ℕ) (k : Option TokenKind) → behind_of k ≡ behind.Body → IsNodeName b → name_before b k
named_child b (Some (kind.Mark mark.OpenBrace)) h n = n
named_child b _ h n = absurd (cc)

pub child_named : (b : List ℕ) (k : Option TokenKind) → behind_of k ≡ behind.Body → name_before b k → IsNodeName b
child_named b (Some (kind.Mark mark.OpenBrace)) h n = n
child_named b _ h n = absurd (cc)

pub brace_behind : (k : Option TokenKind) → behind_of k ≡ behind.Body → k ≡ Some (kind.Mark mark.OpenBrace)
brace_behind (Some (kind.Mark mark.OpenBrace)) h = refl
brace_behind _ h = absurd (cc)

end_behind : (k : Option TokenKind) → behind_of k ≡ behind.End → k ≡ Some (kind.Mark mark.Semicolon)
end_behind (Some (kind.Mark mark.Semicolon)) h = refl
end_behind _ h = absurd (cc)

value_behind : (k : Option TokenKind) → behind_of k ≡ behind.Value → k ≡ Some (kind.Mark mark.Equals)
value_behind (Some (kind.Mark mark.Equals)) h = refl
value_behind _ h = absurd (cc)

no_name_before : (b : List ℕ) (k : Option TokenKind) → behind_of k ≡ behind.Other → name_before b k
no_name_before b (Some (kind.Mark mark.Semicolon)) h = absurd (cc)
no_name_before b (Some (kind.Mark mark.Equals)) h = absurd (cc)
no_name_before b (Some (kind.Mark mark.OpenBrace)) h = absurd (cc)
no_name_before b _ h = tt

no_name_move : (ls : List (List ℕ)) (b : List ℕ) (k : Option TokenKind) → behind_of k ≡ behind.Other → at_name ls b k ≡ refuse
no_name_move ls b (Some (kind.Mark mark.Semicolon)) h = absurd (cc)
no_name_move ls b (Some (kind.Mark mark.Equals)) h = absurd (cc)
no_name_move ls b (Some (kind.Mark mark.OpenBrace)) h = absurd (cc)
no_name_move ls b _ h = refl

not_placed : (outer : List Bool) (k : Option TokenKind) → (behind_of k ≡ behind.End) ⊎ (behind_of k ≡ behind.Value) → ¬ name_placed (true ∷ outer) k
not_placed outer (Some (kind.Mark mark.Semicolon)) h n = true≢false n
not_placed outer (Some (kind.Mark mark.Equals)) h n = true≢false n
not_placed outer _ (inl e) n = absurd (cc)
not_placed outer _ (inr e) n = absurd (cc)

-- ---- other tokens than those that are wanted

pub no_ending : (ps : List RawPlace) (k : Option TokenKind) → k ≢ Some (kind.Mark mark.Semicolon) → at_ending ps k ≡ refuse
no_ending ps (Some (kind.Mark mark.Semicolon)) h = absurd (h refl)
no_ending ps _ h = refl

no_close : (ps : List RawPlace) (k : Option TokenKind) → k ≢ Some (kind.Mark mark.CloseBrace) → at_block_close ps k ≡ refuse
no_close ps (Some (kind.Mark mark.CloseBrace)) h = absurd (h refl)
no_close ps _ h = refl

pub no_open : (ps : List RawPlace) (k : Option TokenKind) → k ≢ Some (kind.Mark mark.OpenBrace) → at_block_open ps k ≡ refuse
no_open ps (Some (kind.Mark mark.OpenBrace)) h = absurd (h refl)
no_open ps _ h = refl

no_deleted_property : (ls : List (List ℕ)) (b : List ℕ) (k : Option TokenKind) → k ≢ Some kind.Name → at_deleted_property ls b k ≡ refuse
no_deleted_property ls b (Some kind.Name) h = absurd (h refl)
no_deleted_property ls b _ h = refl

no_deleted_child : (ls : List (List ℕ)) (b : List ℕ) (k : Option TokenKind) → k ≢ Some kind.Name → at_deleted_child ls b k ≡ refuse
no_deleted_child ls b (Some kind.Name) h = absurd (h refl)
no_deleted_child ls b _ h = refl

not_deleted : (P : List ℕ → Type 0) (b : List ℕ) (k : Option TokenKind) → k ≢ Some (kind.Mark mark.Semicolon) → deleted_named P b (Some kind.Name) k
not_deleted P b (Some (kind.Mark mark.Semicolon)) h = absurd (h refl)
not_deleted P b _ h = tt

other_front : (ls : List (List ℕ)) (b : List ℕ) (k : Option TokenKind) → front_of k ≡ front.Other → at_member ls b k ≡ no_member ls
other_front ls b (Some kind.Name) h = absurd (cc)
other_front ls b (Some (kind.Keyword keyword.DeleteProperty)) h = absurd (cc)
other_front ls b (Some (kind.Keyword keyword.DeleteNode)) h = absurd (cc)
other_front ls b _ h = refl

pub name_front : (k : Option TokenKind) → front_of k ≡ front.Name → k ≡ Some kind.Name
name_front (Some kind.Name) h = refl
name_front (Some (kind.Keyword keyword.DeleteProperty)) h = absurd (cc)
name_front (Some (kind.Keyword keyword.DeleteNode)) h = absurd (cc)
name_front _ h = absurd (cc)

pub delete_property_front : (k : Option TokenKind) → front_of k ≡ front.DeleteProperty → k ≡ Some (kind.Keyword keyword.DeleteProperty)
delete_property_front (Some (kind.Keyword keyword.DeleteProperty)) h = refl
delete_property_front _ h = absurd (cc)

pub delete_node_front : (k : Option TokenKind) → front_of k ≡ front.DeleteNode → k ≡ Some (kind.Keyword keyword.DeleteNode)
delete_node_front (Some (kind.Keyword keyword.DeleteNode)) h = refl
delete_node_front _ h = absurd (cc)

-- ---- members

member_by : (ls : List (List ℕ)) (late later : Bool) (w : Word) (vs left : Words) (part : Wanted) (p : RawPlace) → move_at (AfterMemberLabels ls) (Some w) ≡ want true part and_more →
    Descends part vs (found (made_places (p ∷ [])) left) → ((outer : List Bool) → Passes (in_body late outer) (AfterMemberLabels ls) (w ∷ vs)) → (is_child (p ∷ []) || late) ≡ later → IsSoundPlace p →
    ((outer : List Bool) (ps : List RawPlace) → IsOrdered (later ∷ outer) ps → IsOrdered (late ∷ outer) (p ∷ ps)) → length left < length vs → IsMember ls late (w ∷ vs) p later left
member_by ls late later w vs left part p e d passes f s o less = record {
  reads = λ ps rest r. part_then (AfterMemberLabels ls) (w ∷ vs) true part and_more (made_places (p ∷ [])) left (found (made_places (p ∷ ps)) rest) e d (more_read (p ∷ []) ps left rest r);
  breaks = λ outer k rest b. behind_part (in_body late outer) (AfterMemberLabels ls) (w ∷ vs) left rest k true part and_more (made_places (p ∷ [])) tt e (passes outer) d
      ((s, tt), o outer [] tt)
      (in_part (in_body late outer) (More (p ∷ [])) left rest k false SomeMembers (λ x. Done (made_places ((p ∷ []) ++ places_in x))) tt refl (record { named = tt; placed = tt })
      (subst (λ (x : Bool). Breaks (in_body x outer) SomeMembers left k rest) (sym f) b));
  sound = s;
  ordered = o;
  shorter = omega (arith, less);
}

pub property_is : (ls : List (List ℕ)) (b : List ℕ) (vs left : Words) (cs : List RawComponent) → AreLabelTexts ls → IsPropertyName b → AllByRecursion IsComponent cs → (behind_of (kind_at (first vs)) ≡ behind.End) ⊎ (behind_of (kind_at (first vs)) ≡ behind.Value) →
    Descends (AfterName ls b) vs (found (made_places (raw_property ls b cs ∷ [])) left) → length left < length vs → IsMember ls false (word kind.Name b ∷ vs) (raw_property ls b cs) false left
property_is ls b vs left cs t name fine h d less =
    member_by ls false false (word kind.Name b) vs left (AfterName ls b) (raw_property ls b cs) refl d
    (λ outer. record { named = named_property b (kind_at (first vs)) h name; placed = tt }) refl (t, name, fine) (λ outer ps o. (refl, o)) less

pub delete_property_is : (ls : List (List ℕ)) (a b z : List ℕ) (left : Words) → AreLabelTexts ls → IsPropertyName b → IsMember ls false (a_keyword keyword.DeleteProperty a ∷ word kind.Name b ∷ a_mark mark.Semicolon z ∷ left) (raw_delete_property ls b) false left
delete_property_is ls a b z left t name =
    let p = raw_delete_property ls b in
    let vs = word kind.Name b ∷ a_mark mark.Semicolon z ∷ left in
    member_by ls false false (a_keyword keyword.DeleteProperty a) vs left (DeletedProperty ls) p refl
    (part_then (DeletedProperty ls) vs true (Ending (p ∷ [])) Done (made_places (p ∷ [])) left (found (made_places (p ∷ [])) left) refl
    (given (Ending (p ∷ [])) (a_mark mark.Semicolon z ∷ left) true (made_places (p ∷ [])) refl) (given (Done (made_places (p ∷ []))) left false (made_places (p ∷ [])) refl))
    (λ outer. record { named = tt; placed = refl }) refl (t, name) (λ outer ps o. (refl, o)) (omega arith)

pub delete_child_is : (ls : List (List ℕ)) (late : Bool) (a b z : List ℕ) (left : Words) → AreLabelTexts ls → IsNodeName b → IsMember ls late (a_keyword keyword.DeleteNode a ∷ word kind.Name b ∷ a_mark mark.Semicolon z ∷ left) (raw_delete_child ls b) true left
delete_child_is ls late a b z left t name =
    let p = raw_delete_child ls b in
    let vs = word kind.Name b ∷ a_mark mark.Semicolon z ∷ left in
    member_by ls late true (a_keyword keyword.DeleteNode a) vs left (DeletedChild ls) p refl
    (part_then (DeletedChild ls) vs true (Ending (p ∷ [])) Done (made_places (p ∷ [])) left (found (made_places (p ∷ [])) left) refl
    (given (Ending (p ∷ [])) (a_mark mark.Semicolon z ∷ left) true (made_places (p ∷ [])) refl) (given (Done (made_places (p ∷ []))) left false (made_places (p ∷ [])) refl))
    (λ outer. record { named = tt; placed = tt }) refl (t, name) (λ outer ps o. o) (omega arith)

-- ---- faults of properties

pub bad_property : (a : Around) (ls : List (List ℕ)) (ws : Words) (stop : Stop) → kind_at (first ws) ≡ Some kind.Name → (behind_of (kind_at (first (after true ws))) ≡ behind.End) ⊎ (behind_of (kind_at (first (after true ws))) ≡ behind.Value) →
    ¬ IsPropertyName (bytes_at (first ws)) → stop.kind ≡ fault.BadName → stop.left ≡ length ws → IsBroken a (AfterMemberLabels ls) ws stop
bad_property a ls [] stop e h bad k l = absurd (cc)
bad_property a ls (w ∷ vs) stop e h bad k l = stopped_as a (AfterMemberLabels ls) (w ∷ vs) stop fault.BadName k
    (unnamed (λ n. bad (property_named w.bytes (kind_at (first vs)) h (subst (λ (x : Option TokenKind). member_named w.bytes x (kind_at (first vs))) e n)))) l

-- the name of a property is passed
pub past_name : (a : Around) (ls : List (List ℕ)) (b : List ℕ) (vs : Words) (stop : Stop) → (behind_of (kind_at (first vs)) ≡ behind.End) ⊎ (behind_of (kind_at (first vs)) ≡ behind.Value) → IsPropertyName b →
    IsBroken a (AfterName ls b) vs stop → IsBroken a (AfterMemberLabels ls) (word kind.Name b ∷ vs) stop
past_name a ls b vs stop h n d = part_stops a (AfterMemberLabels ls) (word kind.Name b ∷ vs) true (AfterName ls b) and_more stop tt refl (record { named = named_property b (kind_at (first vs)) h n; placed = tt }) d

pub late_property : (outer : List Bool) (ls : List (List ℕ)) (b : List ℕ) (vs : Words) (stop : Stop) → (behind_of (kind_at (first vs)) ≡ behind.End) ⊎ (behind_of (kind_at (first vs)) ≡ behind.Value) → IsPropertyName b →
    stop.kind ≡ fault.PropertyAfterNode → stop.left ≡ length vs → IsBroken (in_body true outer) (AfterMemberLabels ls) (word kind.Name b ∷ vs) stop
late_property outer ls b vs stop h n k l = past_name (in_body true outer) ls b vs stop h n
    (stopped_as (in_body true outer) (AfterName ls b) vs stop fault.PropertyAfterNode k (unplaced tt (not_placed outer (kind_at (first vs)) h)) l)

-- what is assigned
pub flag_read : (ls : List (List ℕ)) (n : List ℕ) (vs : Words) → behind_of (kind_at (first vs)) ≡ behind.End → Descends (AfterName ls n) vs (found (made_places (raw_property ls n [] ∷ [])) (after true vs))
flag_read ls n vs e = given (AfterName ls n) vs true (made_places (raw_property ls n [] ∷ [])) (ap (at_name ls n) (end_behind (kind_at (first vs)) e))

pub assigned_read : (ls : List (List ℕ)) (n : List ℕ) (vs rest : Words) (cs : List RawComponent) → behind_of (kind_at (first vs)) ≡ behind.Value → Descends OneValue (after true vs) (found (made_value cs) rest) → kind_at (first rest) ≡ Some (kind.Mark mark.Semicolon) →
    Descends (AfterName ls n) vs (found (made_places (raw_property ls n cs ∷ [])) (after true rest))
assigned_read ls n vs rest cs e d f =
    part_then (AfterName ls n) vs true OneValue (λ x. Ending (raw_property ls n (components_in x) ∷ [])) (made_value cs) rest (found (made_places (raw_property ls n cs ∷ [])) (after true rest)) (ap (at_name ls n) (value_behind (kind_at (first vs)) e)) d
    (given (Ending (raw_property ls n cs ∷ [])) rest true (made_places (raw_property ls n cs ∷ [])) (ap (at_ending (raw_property ls n cs ∷ [])) f))

before_children : (outer : List Bool) (ls : List (List ℕ)) (n : List ℕ) (vs : Words) → behind_of (kind_at (first vs)) ≡ behind.Value → Passes (in_body false outer) (AfterName ls n) vs
before_children outer ls n vs e = record { named = tt; placed = subst (λ (k : Option TokenKind). name_placed (false ∷ outer) k) (sym (value_behind (kind_at (first vs)) e)) refl }

pub value_stops : (outer : List Bool) (ls : List (List ℕ)) (n : List ℕ) (vs : Words) (stop : Stop) → behind_of (kind_at (first vs)) ≡ behind.Value → IsBroken (in_body false outer) OneValue (after true vs) stop → IsBroken (in_body false outer) (AfterName ls n) vs stop
value_stops outer ls n vs stop e b =
    part_stops (in_body false outer) (AfterName ls n) vs true OneValue (λ x. Ending (raw_property ls n (components_in x) ∷ [])) stop tt (ap (at_name ls n) (value_behind (kind_at (first vs)) e)) (before_children outer ls n vs e) b

pub unended : (outer : List Bool) (ls : List (List ℕ)) (n : List ℕ) (vs rest : Words) (cs : List RawComponent) (stop : Stop) → behind_of (kind_at (first vs)) ≡ behind.Value → Descends OneValue (after true vs) (found (made_value cs) rest) → AllByRecursion IsComponent cs →
    kind_at (first rest) ≢ Some (kind.Mark mark.Semicolon) → stop.kind ≡ fault.Syntax → stop.left ≡ length rest → IsBroken (in_body false outer) (AfterName ls n) vs stop
unended outer ls n vs rest cs stop e d fine bad k l =
    let a = in_body false outer in
    let P = raw_property ls n cs ∷ [] in
    broken rest (sym l) (behind_part a (AfterName ls n) vs rest rest stop.kind true OneValue (λ x. Ending (raw_property ls n (components_in x) ∷ [])) (made_value cs) tt (ap (at_name ls n) (value_behind (kind_at (first vs)) e)) (before_children outer ls n vs e) d fine
    (shows a (Ending P) rest stop.kind (subst (Shows a (Ending P) rest) (sym k) (unwanted (no_ending P (kind_at (first rest)) bad)))))

-- a name with neither of those behind it
pub unfollowed : (a : Around) (ls : List (List ℕ)) (b : List ℕ) (vs : Words) (stop : Stop) → behind_of (kind_at (first vs)) ≡ behind.Other → stop.kind ≡ fault.Syntax → stop.left ≡ length vs → IsBroken a (AfterMemberLabels ls) (word kind.Name b ∷ vs) stop
unfollowed a ls b vs stop h k l =
    part_stops a (AfterMemberLabels ls) (word kind.Name b ∷ vs) true (AfterName ls b) and_more stop tt refl (record { named = no_name_before b (kind_at (first vs)) h; placed = tt })
    (stopped_as a (AfterName ls b) vs stop fault.Syntax k (unwanted (no_name_move ls b (kind_at (first vs)) h)) l)

-- ---- faults of children

pub bad_child : (a : Around) (ls : List (List ℕ)) (ws : Words) (stop : Stop) → kind_at (first ws) ≡ Some kind.Name → behind_of (kind_at (first (after true ws))) ≡ behind.Body →
    ¬ IsNodeName (bytes_at (first ws)) → stop.kind ≡ fault.BadName → stop.left ≡ length ws → IsBroken a (AfterMemberLabels ls) ws stop
bad_child a ls [] stop e h bad k l = absurd (cc)
bad_child a ls (w ∷ vs) stop e h bad k l = stopped_as a (AfterMemberLabels ls) (w ∷ vs) stop fault.BadName k
    (unnamed (λ n. bad (child_named w.bytes (kind_at (first vs)) h (subst (λ (x : Option TokenKind). member_named w.bytes x (kind_at (first vs))) e n)))) l

pub too_deep : (late : Bool) (outer : List Bool) (ls : List (List ℕ)) (b : List ℕ) (vs : Words) (stop : Stop) → behind_of (kind_at (first vs)) ≡ behind.Body → IsNodeName b → 65 ≤ length (late ∷ outer) →
    stop.kind ≡ fault.Limit → stop.left ≡ length vs → IsBroken (in_body late outer) (AfterMemberLabels ls) (word kind.Name b ∷ vs) stop
too_deep late outer ls b vs stop h n many k l =
    let a = in_body late outer in
    let at = brace_behind (kind_at (first vs)) h in
    let P = raw_child b ∷ map raw_label ls in
    part_stops a (AfterMemberLabels ls) (word kind.Name b ∷ vs) true (AfterName ls b) and_more stop tt refl (record { named = named_child b (kind_at (first vs)) h n; placed = tt })
    (part_stops a (AfterName ls b) vs false (BlockOpen P) Done stop tt (ap (at_name ls b) at) (record { named = tt; placed = subst (λ (x : Option TokenKind). name_placed (late ∷ outer) x) (sym at) tt })
    (stopped_as a (BlockOpen P) vs stop fault.Limit k
    (unplaced tt (λ (p : body_placed (late ∷ outer) (kind_at (first vs))). let less = subst (λ (x : Option TokenKind). body_placed (late ∷ outer) x) at p in omega (arith, less, many))) l))

-- ---- lengths

pub shorter_after : (ws : Words) (k : TokenKind) → kind_at (first ws) ≡ Some k → length (after true ws) < length ws
shorter_after [] k e = absurd (cc)
shorter_after (w ∷ ws) k e = omega arith

pub not_longer : (g : Wanted) (ws left : Words) (m : Made) → Descends g ws (found m left) → length left ≤ length ws
not_longer g ws left m d = let l = local d in let e = ap length l.split ∙ length-append l.front left in omega (arith, e)

pub flag_shorter : (vs : Words) → behind_of (kind_at (first vs)) ≡ behind.End → length (after true vs) < length vs
flag_shorter vs e = shorter_after vs (kind.Mark mark.Semicolon) (end_behind (kind_at (first vs)) e)

pub assigned_shorter : (vs rest : Words) (cs : List RawComponent) → behind_of (kind_at (first vs)) ≡ behind.Value → Descends OneValue (after true vs) (found (made_value cs) rest) → kind_at (first rest) ≡ Some (kind.Mark mark.Semicolon) → length (after true rest) < length vs
assigned_shorter vs rest cs e d f =
    let a = shorter_after vs (kind.Mark mark.Equals) (value_behind (kind_at (first vs)) e) in
    let b = not_longer OneValue (after true vs) rest (made_value cs) d in
    let c = shorter_after rest (kind.Mark mark.Semicolon) f in
    omega (arith, a, b, c)

-- ---- faults of deletions

-- no name and `;` stand behind the keyword of a deletion
abbrev pub NotEnded : Words → ℕ → Type 0
NotEnded vs left = ((kind_at (first vs) ≢ Some kind.Name) × (left ≡ length vs))
    ⊎ ((kind_at (first vs) ≡ Some kind.Name) × (kind_at (first (after true vs)) ≢ Some (kind.Mark mark.Semicolon)) × (left ≡ length (after true vs)))

property_unended : (a : Around) (ls : List (List ℕ)) (vs : Words) (stop : Stop) → stop.kind ≡ fault.Syntax → NotEnded vs stop.left → IsBroken a (DeletedProperty ls) vs stop
property_unended a ls vs stop k (inl h) = stopped_as a (DeletedProperty ls) vs stop fault.Syntax k (unwanted (no_deleted_property ls (bytes_at (first vs)) (kind_at (first vs)) h.0)) h.1
property_unended a ls vs stop k (inr h) =
    let P = raw_delete_property ls (bytes_at (first vs)) ∷ [] in
    part_stops a (DeletedProperty ls) vs true (Ending P) Done stop tt (ap (at_deleted_property ls (bytes_at (first vs))) h.0)
    (record { named = subst (λ (x : Option TokenKind). deleted_named IsPropertyName (bytes_at (first vs)) x (kind_at (first (after true vs)))) (sym h.0) (not_deleted IsPropertyName (bytes_at (first vs)) (kind_at (first (after true vs))) h.1); placed = tt })
    (stopped_as a (Ending P) (after true vs) stop fault.Syntax k (unwanted (no_ending P (kind_at (first (after true vs))) h.1)) h.2)

child_unended : (a : Around) (ls : List (List ℕ)) (vs : Words) (stop : Stop) → stop.kind ≡ fault.Syntax → NotEnded vs stop.left → IsBroken a (DeletedChild ls) vs stop
child_unended a ls vs stop k (inl h) = stopped_as a (DeletedChild ls) vs stop fault.Syntax k (unwanted (no_deleted_child ls (bytes_at (first vs)) (kind_at (first vs)) h.0)) h.1
child_unended a ls vs stop k (inr h) =
    let P = raw_delete_child ls (bytes_at (first vs)) ∷ [] in
    part_stops a (DeletedChild ls) vs true (Ending P) Done stop tt (ap (at_deleted_child ls (bytes_at (first vs))) h.0)
    (record { named = subst (λ (x : Option TokenKind). deleted_named IsNodeName (bytes_at (first vs)) x (kind_at (first (after true vs)))) (sym h.0) (not_deleted IsNodeName (bytes_at (first vs)) (kind_at (first (after true vs))) h.1); placed = tt })
    (stopped_as a (Ending P) (after true vs) stop fault.Syntax k (unwanted (no_ending P (kind_at (first (after true vs))) h.1)) h.2)

-- the keyword of a deletion is passed
past_delete_property : (outer : List Bool) (ls : List (List ℕ)) (ws : Words) (stop : Stop) → kind_at (first ws) ≡ Some (kind.Keyword keyword.DeleteProperty) →
    IsBroken (in_body false outer) (DeletedProperty ls) (after true ws) stop → IsBroken (in_body false outer) (AfterMemberLabels ls) ws stop
past_delete_property outer ls ws stop e b =
    part_stops (in_body false outer) (AfterMemberLabels ls) ws true (DeletedProperty ls) and_more stop tt (ap (at_member ls (bytes_at (first ws))) e)
    (record { named = subst (λ (x : Option TokenKind). member_named (bytes_at (first ws)) x (kind_at (first (after true ws)))) (sym e) tt; placed = subst (λ (x : Option TokenKind). member_placed (false ∷ outer) x) (sym e) refl }) b

past_delete_child : (late : Bool) (outer : List Bool) (ls : List (List ℕ)) (ws : Words) (stop : Stop) → kind_at (first ws) ≡ Some (kind.Keyword keyword.DeleteNode) →
    IsBroken (in_body late outer) (DeletedChild ls) (after true ws) stop → IsBroken (in_body late outer) (AfterMemberLabels ls) ws stop
past_delete_child late outer ls ws stop e b =
    part_stops (in_body late outer) (AfterMemberLabels ls) ws true (DeletedChild ls) and_more stop tt (ap (at_member ls (bytes_at (first ws))) e)
    (record { named = subst (λ (x : Option TokenKind). member_named (bytes_at (first ws)) x (kind_at (first (after true ws)))) (sym e) tt; placed = subst (λ (x : Option TokenKind). member_placed (late ∷ outer) x) (sym e) tt }) b

pub delete_property_unended : (outer : List Bool) (ls : List (List ℕ)) (ws : Words) (stop : Stop) → kind_at (first ws) ≡ Some (kind.Keyword keyword.DeleteProperty) → stop.kind ≡ fault.Syntax → NotEnded (after true ws) stop.left →
    IsBroken (in_body false outer) (AfterMemberLabels ls) ws stop
delete_property_unended outer ls ws stop e k h = past_delete_property outer ls ws stop e (property_unended (in_body false outer) ls (after true ws) stop k h)

pub delete_child_unended : (late : Bool) (outer : List Bool) (ls : List (List ℕ)) (ws : Words) (stop : Stop) → kind_at (first ws) ≡ Some (kind.Keyword keyword.DeleteNode) → stop.kind ≡ fault.Syntax → NotEnded (after true ws) stop.left →
    IsBroken (in_body late outer) (AfterMemberLabels ls) ws stop
delete_child_unended late outer ls ws stop e k h = past_delete_child late outer ls ws stop e (child_unended (in_body late outer) ls (after true ws) stop k h)

bad_deleted : (P : List ℕ → Type 0) (b : List ℕ) (x y : Option TokenKind) → x ≡ Some kind.Name → y ≡ Some (kind.Mark mark.Semicolon) → ¬ P b → ¬ deleted_named P b x y
bad_deleted P b x y e f bad n = bad (subst (λ (z : Option TokenKind). deleted_named P b (Some kind.Name) z) f (subst (λ (z : Option TokenKind). deleted_named P b z y) e n))

pub delete_property_bad : (outer : List Bool) (ls : List (List ℕ)) (ws : Words) (stop : Stop) → kind_at (first ws) ≡ Some (kind.Keyword keyword.DeleteProperty) → kind_at (first (after true ws)) ≡ Some kind.Name → kind_at (first (after true (after true ws))) ≡ Some (kind.Mark mark.Semicolon) →
    ¬ IsPropertyName (bytes_at (first (after true ws))) → stop.kind ≡ fault.BadName → stop.left ≡ length (after true ws) → IsBroken (in_body false outer) (AfterMemberLabels ls) ws stop
delete_property_bad outer ls ws stop e f g bad k l = past_delete_property outer ls ws stop e
    (stopped_as (in_body false outer) (DeletedProperty ls) (after true ws) stop fault.BadName k (unnamed (bad_deleted IsPropertyName (bytes_at (first (after true ws))) (kind_at (first (after true ws))) (kind_at (first (after true (after true ws)))) f g bad)) l)

pub delete_child_bad : (late : Bool) (outer : List Bool) (ls : List (List ℕ)) (ws : Words) (stop : Stop) → kind_at (first ws) ≡ Some (kind.Keyword keyword.DeleteNode) → kind_at (first (after true ws)) ≡ Some kind.Name → kind_at (first (after true (after true ws))) ≡ Some (kind.Mark mark.Semicolon) →
    ¬ IsNodeName (bytes_at (first (after true ws))) → stop.kind ≡ fault.BadName → stop.left ≡ length (after true ws) → IsBroken (in_body late outer) (AfterMemberLabels ls) ws stop
delete_child_bad late outer ls ws stop e f g bad k l = past_delete_child late outer ls ws stop e
    (stopped_as (in_body late outer) (DeletedChild ls) (after true ws) stop fault.BadName k (unnamed (bad_deleted IsNodeName (bytes_at (first (after true ws))) (kind_at (first (after true ws))) (kind_at (first (after true (after true ws)))) f g bad)) l)

pub delete_property_late : (outer : List Bool) (ls : List (List ℕ)) (ws : Words) (stop : Stop) → kind_at (first ws) ≡ Some (kind.Keyword keyword.DeleteProperty) → stop.kind ≡ fault.PropertyAfterNode → stop.left ≡ length ws →
    IsBroken (in_body true outer) (AfterMemberLabels ls) ws stop
delete_property_late outer ls ws stop e k l =
    stopped_as (in_body true outer) (AfterMemberLabels ls) ws stop fault.PropertyAfterNode k
    (unplaced (subst (λ (x : Option TokenKind). member_named (bytes_at (first ws)) x (kind_at (first (after true ws)))) (sym e) tt)
    (λ (p : member_placed (true ∷ outer) (kind_at (first ws))). true≢false (subst (λ (x : Option TokenKind). member_placed (true ∷ outer) x) e p))) l

-- the tokens of a deletion
pub deletion_words : (ws : Words) (k : TokenKind) → kind_at (first ws) ≡ Some k → kind_at (first (after true ws)) ≡ Some kind.Name → kind_at (first (after true (after true ws))) ≡ Some (kind.Mark mark.Semicolon) →
    ws ≡ word k (bytes_at (first ws)) ∷ word kind.Name (bytes_at (first (after true ws))) ∷ a_mark mark.Semicolon (bytes_at (first (after true (after true ws)))) ∷ after true (after true (after true ws))
deletion_words ws k e f g =
    front_word ws k e ∙ ap (λ (x : Words). word k (bytes_at (first ws)) ∷ x) (front_word (after true ws) kind.Name f ∙ ap (λ (x : Words). word kind.Name (bytes_at (first (after true ws))) ∷ x) (front_word (after true (after true ws)) (kind.Mark mark.Semicolon) g))

-- ---- the end of a body

labels_alone : (ls : List (List ℕ)) → ls ≢ [] → no_member ls ≡ refuse
labels_alone [] h = absurd (h refl)
labels_alone (l ∷ ls) h = refl

pub labels_unfollowed : (a : Around) (ls : List (List ℕ)) (ws : Words) (stop : Stop) → front_of (kind_at (first ws)) ≡ front.Other → ls ≢ [] → stop.kind ≡ fault.Syntax → stop.left ≡ length ws → IsBroken a (AfterMemberLabels ls) ws stop
labels_unfollowed a ls ws stop h bad k l = stopped_as a (AfterMemberLabels ls) ws stop fault.Syntax k (unwanted (other_front ls (bytes_at (first ws)) (kind_at (first ws)) h ∙ labels_alone ls bad)) l

pub none_read : (ws : Words) → front_of (kind_at (first ws)) ≡ front.Other → Descends (AfterMemberLabels []) ws (found (made_places []) ws)
none_read ws h = given (AfterMemberLabels []) ws false (made_places []) (other_front [] (bytes_at (first ws)) (kind_at (first ws)) h)

pub no_brace : (a : Around) (qs : List RawPlace) (ws : Words) (stop : Stop) → kind_at (first ws) ≢ Some (kind.Mark mark.CloseBrace) → stop.kind ≡ fault.Syntax → stop.left ≡ length ws → IsBroken a (BlockClose qs) ws stop
no_brace a qs ws stop bad k l = stopped_as a (BlockClose qs) ws stop fault.Syntax k (unwanted (no_close qs (kind_at (first ws)) bad)) l

pub no_semicolon : (a : Around) (qs : List RawPlace) (ws : Words) (stop : Stop) → kind_at (first ws) ≡ Some (kind.Mark mark.CloseBrace) → kind_at (first (after true ws)) ≢ Some (kind.Mark mark.Semicolon) → stop.kind ≡ fault.Syntax → stop.left ≡ length (after true ws) → IsBroken a (BlockClose qs) ws stop
no_semicolon a qs ws stop e bad k l =
    part_stops a (BlockClose qs) ws true (Ending qs) Done stop tt (ap (at_block_close qs) e) (record { named = tt; placed = tt })
    (stopped_as a (Ending qs) (after true ws) stop fault.Syntax k (unwanted (no_ending qs (kind_at (first (after true ws))) bad)) l)

pub closes : (ws : Words) → kind_at (first ws) ≡ Some (kind.Mark mark.CloseBrace) → kind_at (first (after true ws)) ≡ Some (kind.Mark mark.Semicolon) → Closes ws (after true (after true ws))
closes ws e f = λ ps. part_then (BlockClose ps) ws true (Ending ps) Done (made_places ps) (after true (after true ws)) (found (made_places ps) (after true (after true ws))) (ap (at_block_close ps) e)
    (given (Ending ps) (after true ws) true (made_places ps) (ap (at_ending ps) f)) (given (Done (made_places ps)) (after true (after true ws)) false (made_places ps) refl)

-- ---- the same, where the tokens that are left have a name of their own

pub err_is : {A : Type 0} (P : Stop → Type 0) (r : Result A Stop) (s t : Stop) → r ≡ Err t → t ≡ s → P s → IfErr r P
err_is {A} P r s t e f h = subst (λ (x : Result A Stop). IfErr x P) (sym e) (subst P (sym f) h)

pub ok_is_none : {A : Type 0} (P : A → Type 0) (r : Result A Stop) (t : Stop) → r ≡ Err t → IfOk r P
ok_is_none {A} P r t e = subst (λ (x : Result A Stop). IfOk x P) (sym e) tt

pub said_one : (g h : Gathered) (x : Place) (p : RawPlace) → h ≡ with_place g x → x ≡ place_meant p → h.places ≡ g.places ++ place_meant p ∷ []
said_one g h x p e f = ap (λ (g : Gathered). g.places) e ∙ ap (λ (x : Place). g.places ++ x ∷ []) f

pub unclosed_end : (ls : List (List ℕ)) (ws vs : Words) (stop : Stop) → vs ≡ after true ws → ls ≡ [] → kind_at (first ws) ≡ Some (kind.Mark mark.CloseBrace) → kind_at (first vs) ≢ Some (kind.Mark mark.Semicolon) → stop.kind ≡ fault.Syntax → stop.left ≡ length vs → IsUnclosed ls ws stop
unclosed_end ls ws vs stop v n e bad k l = unclosed n (λ a qs. no_semicolon a qs ws stop e (subst (λ (x : Words). kind_at (first x) ≢ Some (kind.Mark mark.Semicolon)) v bad) k (l ∙ ap length v))

pub closed : (ws vs us : Words) → vs ≡ after true ws → us ≡ after true vs → kind_at (first ws) ≡ Some (kind.Mark mark.CloseBrace) → kind_at (first vs) ≡ Some (kind.Mark mark.Semicolon) → Closes ws us × (length us < length ws)
closed ws vs us v u e f =
    let a = shorter_after ws (kind.Mark mark.CloseBrace) e in
    let b = shorter_after vs (kind.Mark mark.Semicolon) f in
    let c = ap length v in
    let d = ap length u in
    (subst (Closes ws) (sym (u ∙ ap (after true) v)) (closes ws e (subst (λ (x : Words). kind_at (first x) ≡ Some (kind.Mark mark.Semicolon)) v f)), omega (arith, a, b, c, d))

-- what is assigned, where it isn't nothing
pub with_value : (r : Behind) (k l : Option TokenKind) → r ≡ behind_of k → k ≡ l → r ≢ behind.End → (behind_of l ≡ behind.End) ⊎ (behind_of l ≡ behind.Value) → behind_of l ≡ behind.Value
with_value r k l e f n (inl h) = absurd (n (e ∙ ap behind_of f ∙ h))
with_value r k l e f n (inr h) = h

pub past_name_at : (a : Around) (ls : List (List ℕ)) (ws vs : Words) (stop : Stop) → vs ≡ after true ws → kind_at (first ws) ≡ Some kind.Name → (behind_of (kind_at (first (after true ws))) ≡ behind.End) ⊎ (behind_of (kind_at (first (after true ws))) ≡ behind.Value) → IsPropertyName (bytes_at (first ws)) →
    IsBroken a (AfterName ls (bytes_at (first ws))) vs stop → IsBroken a (AfterMemberLabels ls) ws stop
past_name_at a ls ws vs stop v e h n d =
    subst (λ (x : Words). IsBroken a (AfterMemberLabels ls) x stop) (sym (front_word ws kind.Name e))
    (past_name a ls (bytes_at (first ws)) (after true ws) stop h n (subst (λ (x : Words). IsBroken a (AfterName ls (bytes_at (first ws))) x stop) v d))

pub late_at : (late : Bool) (outer : List Bool) (ls : List (List ℕ)) (ws vs : Words) (stop : Stop) → late ≡ true → vs ≡ after true ws → kind_at (first ws) ≡ Some kind.Name → (behind_of (kind_at (first (after true ws))) ≡ behind.End) ⊎ (behind_of (kind_at (first (after true ws))) ≡ behind.Value) → IsPropertyName (bytes_at (first ws)) →
    stop.kind ≡ fault.PropertyAfterNode → stop.left ≡ length vs → IsBroken (in_body late outer) (AfterMemberLabels ls) ws stop
late_at late outer ls ws vs stop b v e h n k l =
    subst (λ (x : Bool). IsBroken (in_body x outer) (AfterMemberLabels ls) ws stop) (sym b)
    (subst (λ (x : Words). IsBroken (in_body true outer) (AfterMemberLabels ls) x stop) (sym (front_word ws kind.Name e))
    (late_property outer ls (bytes_at (first ws)) (after true ws) stop h n k (l ∙ ap length v)))

pub property_at : (ls : List (List ℕ)) (late : Bool) (ws vs left : Words) (cs : List RawComponent) → late ≡ false → vs ≡ after true ws → kind_at (first ws) ≡ Some kind.Name → (behind_of (kind_at (first (after true ws))) ≡ behind.End) ⊎ (behind_of (kind_at (first (after true ws))) ≡ behind.Value) →
    AreLabelTexts ls → IsPropertyName (bytes_at (first ws)) → AllByRecursion IsComponent cs → Descends (AfterName ls (bytes_at (first ws))) vs (found (made_places (raw_property ls (bytes_at (first ws)) cs ∷ [])) left) → length left < length vs →
    IsMember ls late ws (raw_property ls (bytes_at (first ws)) cs) late left
property_at ls late ws vs left cs b v e h t n fine d less =
    let p = raw_property ls (bytes_at (first ws)) cs in
    subst (λ (x : Bool). IsMember ls x ws p x left) (sym b)
    (subst (λ (x : Words). IsMember ls false x p false left) (sym (front_word ws kind.Name e))
    (property_is ls (bytes_at (first ws)) (after true ws) left cs t n fine h
    (subst (λ (x : Words). Descends (AfterName ls (bytes_at (first ws))) x (found (made_places (p ∷ [])) left)) v d) (subst (λ (x : Words). length left < length x) v less)))

pub delete_property_at : (ls : List (List ℕ)) (late : Bool) (ws left : Words) → late ≡ false → kind_at (first ws) ≡ Some (kind.Keyword keyword.DeleteProperty) → kind_at (first (after true ws)) ≡ Some kind.Name → kind_at (first (after true (after true ws))) ≡ Some (kind.Mark mark.Semicolon) →
    left ≡ after true (after true (after true ws)) → AreLabelTexts ls → IsPropertyName (bytes_at (first (after true ws))) → IsMember ls late ws (raw_delete_property ls (bytes_at (first (after true ws)))) late left
delete_property_at ls late ws left b e f g l t n =
    let p = raw_delete_property ls (bytes_at (first (after true ws))) in
    subst (λ (x : Bool). IsMember ls x ws p x left) (sym b)
    (subst (λ (x : Words). IsMember ls false ws p false x) (sym l)
    (subst (λ (x : Words). IsMember ls false x p false (after true (after true (after true ws)))) (sym (deletion_words ws (kind.Keyword keyword.DeleteProperty) e f g))
    (delete_property_is ls (bytes_at (first ws)) (bytes_at (first (after true ws))) (bytes_at (first (after true (after true ws)))) (after true (after true (after true ws))) t n)))

pub delete_child_at : (ls : List (List ℕ)) (late : Bool) (ws left : Words) → kind_at (first ws) ≡ Some (kind.Keyword keyword.DeleteNode) → kind_at (first (after true ws)) ≡ Some kind.Name → kind_at (first (after true (after true ws))) ≡ Some (kind.Mark mark.Semicolon) →
    left ≡ after true (after true (after true ws)) → AreLabelTexts ls → IsNodeName (bytes_at (first (after true ws))) → IsMember ls late ws (raw_delete_child ls (bytes_at (first (after true ws)))) true left
delete_child_at ls late ws left e f g l t n =
    let p = raw_delete_child ls (bytes_at (first (after true ws))) in
    subst (λ (x : Words). IsMember ls late ws p true x) (sym l)
    (subst (λ (x : Words). IsMember ls late x p true (after true (after true (after true ws)))) (sym (deletion_words ws (kind.Keyword keyword.DeleteNode) e f g))
    (delete_child_is ls late (bytes_at (first ws)) (bytes_at (first (after true ws))) (bytes_at (first (after true (after true ws)))) (after true (after true (after true ws))) t n))

pub too_deep_at : (late : Bool) (outer : List Bool) (ls : List (List ℕ)) (ws vs : Words) (bodies : ℕ) (stop : Stop) → vs ≡ after true ws → kind_at (first ws) ≡ Some kind.Name → behind_of (kind_at (first (after true ws))) ≡ behind.Body → IsNodeName (bytes_at (first ws)) →
    length outer + 1 ≡ bodies → 65 ≤ bodies → stop.kind ≡ fault.Limit → stop.left ≡ length vs → IsBroken (in_body late outer) (AfterMemberLabels ls) ws stop
too_deep_at late outer ls ws vs bodies stop v e h n open_bodies many k l =
    subst (λ (x : Words). IsBroken (in_body late outer) (AfterMemberLabels ls) x stop) (sym (front_word ws kind.Name e))
    (too_deep late outer ls (bytes_at (first ws)) (after true ws) stop h n (omega (arith, many, open_bodies)) k (l ∙ ap length v))

pub unfollowed_at : (a : Around) (ls : List (List ℕ)) (ws vs : Words) (stop : Stop) → vs ≡ after true ws → kind_at (first ws) ≡ Some kind.Name → behind_of (kind_at (first (after true ws))) ≡ behind.Other → stop.kind ≡ fault.Syntax → stop.left ≡ length vs → IsBroken a (AfterMemberLabels ls) ws stop
unfollowed_at a ls ws vs stop v e h k l =
    subst (λ (x : Words). IsBroken a (AfterMemberLabels ls) x stop) (sym (front_word ws kind.Name e)) (unfollowed a ls (bytes_at (first ws)) (after true ws) stop h k (l ∙ ap length v))

-- a value comes, and the property that holds it
pub property_said : (g h k : Gathered) (n : List ℕ) (v : List Part) (p : RawPlace) → h ≡ valued g v → k ≡ with_place h (model.property n h.value) → model.property n v ≡ place_meant p →
    k.places ≡ g.places ++ place_meant p ∷ []
property_said g h k n v p e f q =
    ap (λ (x : Gathered). x.places) f ∙ ap (λ (x : Gathered). x.places ++ model.property n x.value ∷ []) e ∙ ap (λ (x : Place). g.places ++ x ∷ []) q

pub said_more : (xs ys zs : List Place) (ps qs : List RawPlace) → ys ≡ xs ++ map place_meant ps → zs ≡ ys ++ map place_meant qs → zs ≡ xs ++ map place_meant (ps ++ qs)
said_more xs ys zs ps qs e f =
    f ∙ ap (λ (x : List Place). x ++ map place_meant qs) e ∙ append_assoc xs (map place_meant ps) (map place_meant qs) ∙ ap (λ (x : List Place). xs ++ x) (sym (map-append place_meant ps qs))

pub label_said : (xs : List Place) (g h : Gathered) (ns : List (List ℕ)) (n : List ℕ) → g.places ≡ xs ++ map label ns → h ≡ with_place g (label n) → h.places ≡ xs ++ map label (ns ++ n ∷ [])
label_said xs g h ns n e f =
    ap (λ (g : Gathered). g.places) f ∙ ap (λ (x : List Place). x ++ label n ∷ []) e ∙ append_assoc xs (map label ns) (label n ∷ []) ∙ ap (λ (x : List Place). xs ++ x) (sym (map-append label ns (n ∷ [])))

pub labels_said : (xs zs : List Place) (ns : List (List ℕ)) (ls : List (List ℕ)) → zs ≡ xs ++ map label ns → ns ≡ map all_but_last ls → zs ≡ xs ++ map place_meant (map raw_label ls)
labels_said xs zs ns ls e f = e ∙ ap (λ (x : List Place). xs ++ x) (ap (map label) f ∙ sym (label_places ls))

pub not_open : (ps : List RawPlace) (ws : Words) (stop : Stop) → kind_at (first ws) ≢ Some (kind.Mark mark.OpenBrace) → stop.kind ≡ fault.Syntax → stop.left ≡ length ws → IsBroken outside (BlockOpen ps) ws stop
not_open ps ws stop bad k l = stopped_as outside (BlockOpen ps) ws stop fault.Syntax k (unwanted (no_open ps (kind_at (first ws)) bad)) l

pub no_labels : (ls ns : List (List ℕ)) → ns ≡ map all_but_last ls → ns ≡ [] → ls ≡ []
no_labels [] ns e f = refl
no_labels (l ∷ ls) ns e f = absurd (let h = ap length e in let k = ap length f in omega (arith, h, k))

pub some_labels : (ls ns : List (List ℕ)) → ns ≡ map all_but_last ls → ls ≡ [] → ns ≡ []
some_labels ls ns e f = e ∙ ap (map all_but_last) f

nothing_in : (ns : List (List ℕ)) → length ns ≡ 0 → ns ≡ []
nothing_in [] h = refl
nothing_in (n ∷ ns) h = absurd (omega (arith, h))

pub empty_is : (ns : List (List ℕ)) (n : ℕ) (b : Bool) → n ≡ length ns → b ≡ (n == 0) → not b ≡ false → ns ≡ []
empty_is ns n true l e f = nothing_in ns (sym l ∙ eqb-true n 0 (sym e))
empty_is ns n false l e f = absurd (true≢false f)

pub full_is : (ns : List (List ℕ)) (n : ℕ) (b : Bool) → n ≡ length ns → b ≡ (n == 0) → not b ≡ true → ns ≢ []
full_is ns n true l e f q = true≢false (sym f)
full_is ns n false l e f q = true≢false (sym (ap (λ (z : ℕ). z == 0) (l ∙ ap length q)) ∙ sym e)
