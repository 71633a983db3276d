-- What the members of bodies, and the ends of bodies, leave to be read where bodies stand in bodies.
use Rattle.std.proofs.Common.{◌≡◌, ℕ, zero, suc, ◌+◌, ◌-◌, length-append, ◌<◌, Bool, true, false, List, [], ◌∷◌, ◌++◌, length, map, replicate, Option, Some, refl, sym, ◌∙◌, ap, subst, append_assoc, arith}
use Rattle.std.specs.List.{AllByRecursion}
use Rattle.std.proofs.lemmas.List.{append-nil, length-replicate}
use Rattle.dt_names.specs.declared.fault.FaultKind.{FaultKind}
use Rattle.dt_model.specs.Names.{IsNodeName}
use Rattle.dt_lex.specs.declared.token.TokenKind.{TokenKind}
use Rattle.dt_lex.specs.declared.token.TokenKind.TheVariants as kind
use Rattle.dt_lex.specs.declared.token.Mark.TheVariants as mark
use Rattle.dt_parse.specs.declared.stop.Stop.{Stop}
use Rattle.dt_grammar.specs.Words.{Word, Words}
use Rattle.dt_grammar.specs.Unchecked.{RawPlace, raw_child, raw_label, raw_close}
use Rattle.dt_grammar.specs.Relaxed.{word, a_mark}
use Rattle.dt_grammar.specs.Strict.{AreLabelTexts, IsSoundPlace, IsOrdered}
use Rattle.dt_grammar.specs.Wanted.{made_places, made_labels, labels_in, places_in, SomeLabels, SomeMembers, AfterMemberLabels, AfterName, More, BlockOpen, BlockClose, Done, kind_at, bytes_at}
use Rattle.dt_grammar.specs.Moves.{and_more, at_block_open}
use Rattle.dt_grammar.specs.Descent.{found, Outcome, Descends, first, after}
use Rattle.dt_grammar.specs.Faults.{Around, outside, Breaks, in_part, behind_part, Passes, IsFine, body_placed}
use Rattle.dt_parse.specs.Reading.{IsBroken}
use Rattle.dt_parse.specs.Nested.{in_body, Closes, IsMember, Finishes, finished, closing, AreFine, BreaksIn, in_members, at_close, behind_close, flags, Goes, IsUnclosed, labelled, unclosed}
use Rattle.dt_grammar.proofs.Names.{word_is}
use Rattle.dt_grammar.proofs.Bodies.{child_then}
use Rattle.dt_grammar.proofs.Descent.{local}
use Rattle.dt_grammar.proofs.Stepping.{given, part_then}
use Rattle.dt_parse.proofs.Stopping.{stops_too}

-- a token of this kind is the first
pub front_word : (ws : Words) (k : TokenKind) → kind_at (first ws) ≡ Some k → ws ≡ word k (bytes_at (first ws)) ∷ after true ws
front_word [] k e = cc
front_word (w ∷ ws) k e = let kinds : w.kind ≡ k = cc in ap (λ (x : Word). x ∷ ws) (word_is w k kinds)

-- ---- labels in front

-- labels stand in front of what is left
abbrev pub Labelled : List (List ℕ) → Words → Words → Type 0
Labelled ls ws here = Descends SomeLabels ws (found (made_labels ls) here)

pub labelled_reads : (ls : List (List ℕ)) (ws here : Words) (o : Outcome) → Labelled ls ws here → Descends (AfterMemberLabels ls) here o → Descends SomeMembers ws o
labelled_reads ls ws here o l d = part_then SomeMembers ws false SomeLabels (λ x. AfterMemberLabels (labels_in x)) (made_labels ls) here o refl l d

pub labelled_breaks : (a : Around) (ls : List (List ℕ)) (ws here : Words) (k : FaultKind) (left : Words) → Labelled ls ws here → AreLabelTexts ls →
    Breaks a (AfterMemberLabels ls) here k left → Breaks a SomeMembers ws k left
labelled_breaks a ls ws here k left l f d =
    behind_part a SomeMembers ws here left k false SomeLabels (λ x. AfterMemberLabels (labels_in x)) (made_labels ls) tt refl (record { named = tt; placed = tt }) l f d

-- where reading stops behind labels, it stops in the members
pub members_stop : (n : ℕ) (late : Bool) (ls : List (List ℕ)) (ws here : Words) (stop : Stop) → Labelled ls ws here → AreLabelTexts ls →
    ((outer : List Bool) → length outer ≡ n → IsBroken (in_body late outer) (AfterMemberLabels ls) here stop) → BreaksIn (suc n) late ws stop
members_stop n late ls ws here stop l f b = in_members n late ws stop
    (λ outer e. stops_too (in_body late outer) (in_body late outer) (AfterMemberLabels ls) SomeMembers here ws stop
    (λ k left d. labelled_breaks (in_body late outer) ls ws here k left l f d) (b outer e))

-- where it stops among labels, too
pub labels_stop : (n : ℕ) (late : Bool) (ws : Words) (stop : Stop) → ((a : Around) → IsBroken a SomeLabels ws stop) → BreaksIn (suc n) late ws stop
labels_stop n late ws stop b = in_members n late ws stop
    (λ outer e. stops_too (in_body late outer) (in_body late outer) SomeLabels SomeMembers ws ws stop
    (λ k left d. in_part (in_body late outer) SomeMembers ws left k false SomeLabels (λ x. AfterMemberLabels (labels_in x)) tt refl (record { named = tt; placed = tt }) d) (b (in_body late outer)))

-- ---- a member that opens no body

member_fine : (n : ℕ) (ls : List (List ℕ)) (late later : Bool) (here left : Words) (p : RawPlace) (ps : List RawPlace) → IsMember ls late here p later left → AreFine n later ps → AreFine n late (p ∷ ps)
member_fine n ls late later here left p ps m f = record {
  sound = (m.sound, f.sound);
  ordered = λ outer e rest h. m.ordered outer (ps ++ rest) (f.ordered outer e rest h);
}

member_reads : (n : ℕ) (ls : List (List ℕ)) (late later : Bool) (ws here left end : Words) (p : RawPlace) (qs : List RawPlace) → Labelled ls ws here → IsMember ls late here p later left →
    Finishes (suc n) left qs end → Finishes (suc n) ws (p ∷ qs) end
member_reads n ls late later ws here left end p qs l m (closing _ _ rest more _ ps others d c f) =
    closing n ws rest more end (p ∷ ps) others (labelled_reads ls ws here (found (made_places (p ∷ ps)) rest) l (m.reads ps rest d)) c f

member_breaks : (n : ℕ) (ls : List (List ℕ)) (late later : Bool) (ws here left : Words) (p : RawPlace) (stop : Stop) → Labelled ls ws here → AreLabelTexts ls → IsMember ls late here p later left →
    BreaksIn (suc n) later left stop → BreaksIn (suc n) late ws stop
member_breaks n ls late later ws here left p stop l t m (in_members _ _ _ _ f) =
    members_stop n late ls ws here stop l t (λ outer e. stops_too (in_body later outer) (in_body late outer) SomeMembers (AfterMemberLabels ls) left here stop (m.breaks outer) (f outer e))
member_breaks n ls late later ws here left p stop l t m (at_close _ _ _ rest _ ps d f b) =
    at_close n late ws rest stop (p ∷ ps) (labelled_reads ls ws here (found (made_places (p ∷ ps)) rest) l (m.reads ps rest d)) (member_fine n ls late later here left p ps m f) b
member_breaks n ls late later ws here left p stop l t m (behind_close _ _ _ rest more _ ps d f c b) =
    behind_close n late ws rest more stop (p ∷ ps) (labelled_reads ls ws here (found (made_places (p ∷ ps)) rest) l (m.reads ps rest d)) (member_fine n ls late later here left p ps m f) c b

pub member_goes : (n : ℕ) (ls : List (List ℕ)) (late later : Bool) (ws here left : Words) (p : RawPlace) → Labelled ls ws here → AreLabelTexts ls → IsMember ls late here p later left →
    Goes (suc n) late ws (p ∷ []) (suc n) later left
member_goes n ls late later ws here left p l t m = record {
  reads = λ qs end f. member_reads n ls late later ws here left end p qs l m f;
  breaks = λ stop b. member_breaks n ls late later ws here left p stop l t m b;
  sound = (m.sound, tt);
  ordered = λ qs h. m.ordered (replicate n true) qs h;
}

-- ---- a child, up to its `{`

pub all_together : {X : Type 0} (P : X → Type 0) (xs ys : List X) → AllByRecursion P xs → AllByRecursion P ys → AllByRecursion P (xs ++ ys)
all_together P [] ys h g = g
all_together P (x ∷ xs) ys h g = (h.0, all_together P xs ys h.1 g)

pub labels_sound : (ls : List (List ℕ)) → AreLabelTexts ls → AllByRecursion IsSoundPlace (map raw_label ls)
labels_sound [] h = tt
labels_sound (l ∷ ls) h = (h.0, labels_sound ls h.1)

pub labels_ordered : (ls : List (List ℕ)) (bodies : List Bool) (ps : List RawPlace) → IsOrdered bodies ps → IsOrdered bodies (map raw_label ls ++ ps)
labels_ordered [] bodies ps h = h
labels_ordered (l ∷ ls) bodies ps h = labels_ordered ls bodies ps h

-- the places of a child, up to its `{` and whole
abbrev opening : List (List ℕ) → List ℕ → List RawPlace
opening ls b = raw_child b ∷ map raw_label ls

abbrev whole_child : List (List ℕ) → List ℕ → List RawPlace → List RawPlace
whole_child ls b ps = raw_child b ∷ (map raw_label ls ++ (ps ++ raw_close ∷ []))

-- the tokens of a child, up to its members
abbrev child_words : List ℕ → List ℕ → Words → Words
child_words b z left = word kind.Name b ∷ a_mark mark.OpenBrace z ∷ left

child_read : (ls : List (List ℕ)) (b z : List ℕ) (left rest more : Words) (ps : List RawPlace) → Descends SomeMembers left (found (made_places ps) rest) → Closes rest more →
    Descends (AfterName ls b) (a_mark mark.OpenBrace z ∷ left) (found (made_places (whole_child ls b ps)) more)
child_read ls b z left rest more ps d c =
    let at = a_mark mark.OpenBrace z ∷ left in
    let P = opening ls b in
    part_then (AfterName ls b) at false (BlockOpen P) Done (made_places (whole_child ls b ps)) more (found (made_places (whole_child ls b ps)) more) refl
    (part_then (BlockOpen P) at true SomeMembers (λ x. BlockClose (P ++ (places_in x ++ raw_close ∷ []))) (made_places ps) rest (found (made_places (whole_child ls b ps)) more) refl d (c (whole_child ls b ps)))
    (given (Done (made_places (whole_child ls b ps))) more false (made_places (whole_child ls b ps)) refl)

pub more_read : (C ps : List RawPlace) (more rest : Words) → Descends SomeMembers more (found (made_places ps) rest) → Descends (More C) more (found (made_places (C ++ ps)) rest)
more_read C ps more rest d =
    part_then (More C) more false SomeMembers (λ x. Done (made_places (C ++ places_in x))) (made_places ps) rest (found (made_places (C ++ ps)) rest) refl d
    (given (Done (made_places (C ++ ps))) rest false (made_places (C ++ ps)) refl)

-- a child, and the members behind it
child_reads : (ls : List (List ℕ)) (b z : List ℕ) (ws left rest more last : Words) (ps qs : List RawPlace) → Labelled ls ws (child_words b z left) → Descends SomeMembers left (found (made_places ps) rest) → Closes rest more →
    Descends SomeMembers more (found (made_places qs) last) → Descends SomeMembers ws (found (made_places (whole_child ls b ps ++ qs)) last)
child_reads ls b z ws left rest more last ps qs l d c e =
    labelled_reads ls ws (child_words b z left) (found (made_places (whole_child ls b ps ++ qs)) last) l
    (part_then (AfterMemberLabels ls) (child_words b z left) true (AfterName ls b) and_more (made_places (whole_child ls b ps)) more (found (made_places (whole_child ls b ps ++ qs)) last) refl
    (child_read ls b z left rest more ps d c) (more_read (whole_child ls b ps) qs more last e))

-- the places of a child, and those behind it
regrouped : (ls : List (List ℕ)) (b : List ℕ) (ps qs rest : List RawPlace) → (whole_child ls b ps ++ qs) ++ rest ≡ raw_child b ∷ (map raw_label ls ++ (ps ++ raw_close ∷ (qs ++ rest)))
regrouped ls b ps qs rest = append_assoc (whole_child ls b ps) qs rest ∙ child_then (raw_child b) (map raw_label ls) ps (qs ++ rest)

child_sound : (ls : List (List ℕ)) (b : List ℕ) (ps : List RawPlace) → AreLabelTexts ls → IsNodeName b → AllByRecursion IsSoundPlace ps → AllByRecursion IsSoundPlace (whole_child ls b ps)
child_sound ls b ps t name s = (name, all_together IsSoundPlace (map raw_label ls) (ps ++ raw_close ∷ []) (labels_sound ls t) (all_together IsSoundPlace ps (raw_close ∷ []) s (tt, tt)))

child_fine : (n : ℕ) (late : Bool) (ls : List (List ℕ)) (b : List ℕ) (ps qs : List RawPlace) → suc n < 65 → AreLabelTexts ls → IsNodeName b → AreFine (suc n) false ps → AreFine n true qs → AreFine n late (whole_child ls b ps ++ qs)
child_fine n late ls b ps qs few t name f g = record {
  sound = all_together IsSoundPlace (whole_child ls b ps) qs (child_sound ls b ps t name f.sound) g.sound;
  ordered = λ outer e rest h. subst (IsOrdered (late ∷ outer)) (sym (regrouped ls b ps qs rest)) (
    subst (λ (m : ℕ). m < 65) (sym (ap suc e)) few,
    labels_ordered ls (false ∷ true ∷ outer) (ps ++ raw_close ∷ (qs ++ rest))
        (f.ordered (true ∷ outer) (ap suc e) (raw_close ∷ (qs ++ rest)) (λ x. g.ordered outer e rest h)),
  );
}

child_alone_fine : (n : ℕ) (late : Bool) (outer : List Bool) (ls : List (List ℕ)) (b : List ℕ) (ps : List RawPlace) → suc n < 65 → length outer ≡ n → AreLabelTexts ls → IsNodeName b → AreFine (suc n) false ps → IsFine (in_body late outer) (made_places (whole_child ls b ps))
child_alone_fine n late outer ls b ps few e t name f = (
  child_sound ls b ps t name f.sound,
  (
    subst (λ (m : ℕ). m < 65) (sym (ap suc e)) few,
    labels_ordered ls (false ∷ true ∷ outer) (ps ++ raw_close ∷ [])
        (f.ordered (true ∷ outer) (ap suc e) (raw_close ∷ []) (λ x. tt)),
  ),
)

-- a break inside a child's body
inside_breaks : (n : ℕ) (late : Bool) (outer : List Bool) (ls : List (List ℕ)) (b z : List ℕ) (left end : Words) (k : FaultKind) → suc n < 65 → length outer ≡ n → IsNodeName b →
    Breaks (in_body late outer) (BlockOpen (opening ls b)) (a_mark mark.OpenBrace z ∷ left) k end → Breaks (in_body late outer) (AfterMemberLabels ls) (child_words b z left) k end
inside_breaks n late outer ls b z left end k few e name d =
    let a = in_body late outer in
    in_part a (AfterMemberLabels ls) (child_words b z left) end k true (AfterName ls b) and_more tt refl (record { named = name; placed = tt })
    (in_part a (AfterName ls b) (a_mark mark.OpenBrace z ∷ left) end k false (BlockOpen (opening ls b)) Done tt refl (record { named = tt; placed = tt }) d)

open_breaks : (n : ℕ) (late : Bool) (outer : List Bool) (P : List RawPlace) (z : List ℕ) (left end : Words) (k : FaultKind) → suc n < 65 → length outer ≡ n →
    Breaks (in_body false (late ∷ outer)) SomeMembers left k end → Breaks (in_body late outer) (BlockOpen P) (a_mark mark.OpenBrace z ∷ left) k end
open_breaks n late outer P z left end k few e d =
    in_part (in_body late outer) (BlockOpen P) (a_mark mark.OpenBrace z ∷ left) end k true SomeMembers (λ x. BlockClose (P ++ (places_in x ++ raw_close ∷ []))) tt refl
    (record { named = tt; placed = subst (λ (m : ℕ). m < 65) (sym (ap suc e)) few }) d

end_breaks : (n : ℕ) (late : Bool) (outer : List Bool) (P ps : List RawPlace) (z : List ℕ) (left rest end : Words) (k : FaultKind) → suc n < 65 → length outer ≡ n →
    Descends SomeMembers left (found (made_places ps) rest) → AreFine (suc n) false ps → Breaks (in_body late outer) (BlockClose (P ++ (ps ++ raw_close ∷ []))) rest k end →
    Breaks (in_body late outer) (BlockOpen P) (a_mark mark.OpenBrace z ∷ left) k end
end_breaks n late outer P ps z left rest end k few e r f d =
    behind_part (in_body late outer) (BlockOpen P) (a_mark mark.OpenBrace z ∷ left) rest end k true SomeMembers (λ x. BlockClose (P ++ (places_in x ++ raw_close ∷ []))) (made_places ps) tt refl
    (record { named = tt; placed = subst (λ (m : ℕ). m < 65) (sym (ap suc e)) few }) r
    (f.sound, subst (IsOrdered (false ∷ late ∷ outer)) (append-nil ps) (f.ordered (late ∷ outer) (ap suc e) [] (λ x. tt))) d

-- a break behind a child
behind_breaks : (n : ℕ) (late : Bool) (outer : List Bool) (ls : List (List ℕ)) (b z : List ℕ) (left rest more end : Words) (k : FaultKind) (ps : List RawPlace) → suc n < 65 → length outer ≡ n → AreLabelTexts ls → IsNodeName b →
    Descends SomeMembers left (found (made_places ps) rest) → AreFine (suc n) false ps → Closes rest more → Breaks (in_body true outer) SomeMembers more k end →
    Breaks (in_body late outer) (AfterMemberLabels ls) (child_words b z left) k end
behind_breaks n late outer ls b z left rest more end k ps few e t name r f c d =
    let C = whole_child ls b ps in
    behind_part (in_body late outer) (AfterMemberLabels ls) (child_words b z left) more end k true (AfterName ls b) and_more (made_places C) tt refl (record { named = name; placed = tt })
    (child_read ls b z left rest more ps r c) (child_alone_fine n late outer ls b ps few e t name f)
    (in_part (in_body late outer) (More C) more end k false SomeMembers (λ x. Done (made_places (C ++ places_in x))) tt refl (record { named = tt; placed = tt }) d)

around_breaks : (n : ℕ) (late : Bool) (ls : List (List ℕ)) (b z : List ℕ) (ws left rest more : Words) (stop : Stop) (ps : List RawPlace) → Labelled ls ws (child_words b z left) → AreLabelTexts ls → IsNodeName b → suc n < 65 →
    Descends SomeMembers left (found (made_places ps) rest) → AreFine (suc n) false ps → Closes rest more → BreaksIn (suc n) true more stop → BreaksIn (suc n) late ws stop
around_breaks n late ls b z ws left rest more stop ps l t name few r f c (in_members _ _ _ _ g) =
    members_stop n late ls ws (child_words b z left) stop l t
    (λ outer e. stops_too (in_body true outer) (in_body late outer) SomeMembers (AfterMemberLabels ls) more (child_words b z left) stop
    (λ k end d. behind_breaks n late outer ls b z left rest more end k ps few e t name r f c d) (g outer e))
around_breaks n late ls b z ws left rest more stop ps l t name few r f c (at_close _ _ _ last _ qs d g h) =
    at_close n late ws last stop (whole_child ls b ps ++ qs) (child_reads ls b z ws left rest more last ps qs l r c d) (child_fine n late ls b ps qs few t name f g) h
around_breaks n late ls b z ws left rest more stop ps l t name few r f c (behind_close _ _ _ last next _ qs d g h i) =
    behind_close n late ws last next stop (whole_child ls b ps ++ qs) (child_reads ls b z ws left rest more last ps qs l r c d) (child_fine n late ls b ps qs few t name f g) h i

child_breaks : (n : ℕ) (late : Bool) (ls : List (List ℕ)) (b z : List ℕ) (ws left : Words) (stop : Stop) → Labelled ls ws (child_words b z left) → AreLabelTexts ls → IsNodeName b → suc n < 65 →
    BreaksIn (suc (suc n)) false left stop → BreaksIn (suc n) late ws stop
child_breaks n late ls b z ws left stop l t name few (in_members _ _ _ _ g) =
    members_stop n late ls ws (child_words b z left) stop l t
    (λ outer e. stops_too (in_body false (late ∷ outer)) (in_body late outer) SomeMembers (AfterMemberLabels ls) left (child_words b z left) stop
    (λ k end d. inside_breaks n late outer ls b z left end k few e name (open_breaks n late outer (opening ls b) z left end k few e d)) (g (late ∷ outer) (ap suc e)))
child_breaks n late ls b z ws left stop l t name few (at_close _ _ _ rest _ ps d f g) =
    members_stop n late ls ws (child_words b z left) stop l t
    (λ outer e. stops_too (in_body late outer) (in_body late outer) (BlockClose (whole_child ls b ps)) (AfterMemberLabels ls) rest (child_words b z left) stop
    (λ k end x. inside_breaks n late outer ls b z left end k few e name (end_breaks n late outer (opening ls b) ps z left rest end k few e d f x)) (g (in_body late outer) (whole_child ls b ps)))
child_breaks n late ls b z ws left stop l t name few (behind_close _ _ _ rest more _ ps d f c g) =
    around_breaks n late ls b z ws left rest more stop ps l t name few d f c g

child_finishes : (n : ℕ) (ls : List (List ℕ)) (b z : List ℕ) (ws left rest more end : Words) (ps qs : List RawPlace) → Labelled ls ws (child_words b z left) →
    Descends SomeMembers left (found (made_places ps) rest) → Closes rest more → Finishes (suc n) more qs end →
    Finishes (suc n) ws (opening ls b ++ (ps ++ raw_close ∷ qs)) end
child_finishes n ls b z ws left rest more end ps qs l d c (closing _ _ last next _ ms others e g f) =
    subst (λ (x : List RawPlace). Finishes (suc n) ws x end) (regrouped ls b ps ms (raw_close ∷ others))
    (closing n ws last next end (whole_child ls b ps ++ ms) others (child_reads ls b z ws left rest more last ps ms l d c e) g f)

child_goes_on : (n : ℕ) (ls : List (List ℕ)) (b z : List ℕ) (ws left end : Words) (qs : List RawPlace) → Labelled ls ws (child_words b z left) →
    Finishes (suc (suc n)) left qs end → Finishes (suc n) ws (opening ls b ++ qs) end
child_goes_on n ls b z ws left end qs l (closing _ _ rest more _ ps others d c f) = child_finishes n ls b z ws left rest more end ps others l d c f

pub child_goes : (n : ℕ) (late : Bool) (ls : List (List ℕ)) (b z : List ℕ) (ws left : Words) → Labelled ls ws (child_words b z left) → AreLabelTexts ls → IsNodeName b → suc n < 65 →
    Goes (suc n) late ws (raw_child b ∷ map raw_label ls) (suc (suc n)) false left
child_goes n late ls b z ws left l t name few = record {
  reads = λ qs end f. child_goes_on n ls b z ws left end qs l f;
  breaks = λ stop d. child_breaks n late ls b z ws left stop l t name few d;
  sound = (name, labels_sound ls t);
  ordered = λ qs h. (subst (λ (m : ℕ). m < 65) (sym (ap suc (length-replicate n true))) few, labels_ordered ls (false ∷ true ∷ replicate n true) qs h);
}

-- ---- the end of a body

flags_behind : (n : ℕ) → flags n true ≡ replicate n true
flags_behind zero = refl
flags_behind (suc n) = refl

nothing_fine : (n : ℕ) (late : Bool) → AreFine n late []
nothing_fine n late = record { sound = tt; ordered = λ outer e rest h. h late }

pub close_goes : (n : ℕ) (late : Bool) (ws here left : Words) → Labelled [] ws here → Descends (AfterMemberLabels []) here (found (made_places []) here) → Closes here left →
    Goes (suc n) late ws (raw_close ∷ []) n true left
close_goes n late ws here left l d c =
    let none = labelled_reads [] ws here (found (made_places []) here) l d in
    record {
      reads = λ qs end f. closing n ws here left end [] qs none c f;
      breaks = λ stop b. behind_close n late ws here left stop [] none (nothing_fine n late) c b;
      sound = (tt, tt);
      ordered = λ qs h. subst (λ (x : List Bool). IsOrdered x qs) (flags_behind n) h;
    }

pub close_stops : (n : ℕ) (late : Bool) (ws here : Words) (stop : Stop) → Labelled [] ws here → Descends (AfterMemberLabels []) here (found (made_places []) here) →
    ((a : Around) (qs : List RawPlace) → IsBroken a (BlockClose qs) here stop) → BreaksIn (suc n) late ws stop
close_stops n late ws here stop l d b =
    at_close n late ws here stop [] (labelled_reads [] ws here (found (made_places []) here) l d) (nothing_fine n late) b

-- ---- one behind the other

pub goes_on : (n m o : ℕ) (a b c : Bool) (ws here left : Words) (ps qs : List RawPlace) → Goes n a ws ps m b here → Goes m b here qs o c left → Goes n a ws (ps ++ qs) o c left
goes_on n m o a b c ws here left ps qs g h = record {
  reads = λ xs end f. subst (λ (x : List RawPlace). Finishes n ws x end) (sym (append_assoc ps qs xs)) (g.reads (qs ++ xs) end (h.reads xs end f));
  breaks = λ stop f. g.breaks stop (h.breaks stop f);
  sound = all_together IsSoundPlace ps qs g.sound h.sound;
  ordered = λ xs f. subst (IsOrdered (flags n a)) (sym (append_assoc ps qs xs)) (g.ordered (qs ++ xs) (h.ordered xs f));
}

pub goes_nowhere : (n : ℕ) (a : Bool) (ws : Words) → Goes n a ws [] n a ws
goes_nowhere n a ws = record { reads = λ qs end f. f; breaks = λ stop f. f; sound = tt; ordered = λ qs h. h }

-- ---- the same, with a number of bodies that isn't 0

pub shorter_by_labels : (ls : List (List ℕ)) (ws here left : Words) → Labelled ls ws here → length left < length here → length left < length ws
shorter_by_labels ls ws here left l less = let x = local l in let e = ap length x.split ∙ length-append x.front here in omega (arith, e, less)

pub labels_stop_at : (m : ℕ) (late : Bool) (ws : Words) (stop : Stop) → 0 < m → ((a : Around) → IsBroken a SomeLabels ws stop) → BreaksIn m late ws stop
labels_stop_at zero late ws stop h b = absurd (omega (arith, h))
labels_stop_at (suc n) late ws stop h b = labels_stop n late ws stop b

pub members_stop_at : (m : ℕ) (late : Bool) (ls : List (List ℕ)) (ws here : Words) (stop : Stop) → 0 < m → Labelled ls ws here → AreLabelTexts ls →
    ((outer : List Bool) → length outer + 1 ≡ m → IsBroken (in_body late outer) (AfterMemberLabels ls) here stop) → BreaksIn m late ws stop
members_stop_at zero late ls ws here stop h l t b = absurd (omega (arith, h))
members_stop_at (suc n) late ls ws here stop h l t b = members_stop n late ls ws here stop l t (λ outer e. b outer (omega (arith, e)))

pub member_at : (m : ℕ) (ls : List (List ℕ)) (late later : Bool) (ws here left : Words) (p : RawPlace) → 0 < m → Labelled ls ws here → AreLabelTexts ls → IsMember ls late here p later left → Goes m late ws (p ∷ []) m later left
member_at zero ls late later ws here left p h l t m = absurd (omega (arith, h))
member_at (suc n) ls late later ws here left p h l t m = member_goes n ls late later ws here left p l t m

child_here : (ws left : Words) → kind_at (first ws) ≡ Some kind.Name → kind_at (first (after true ws)) ≡ Some (kind.Mark mark.OpenBrace) → left ≡ after true (after true ws) →
    ws ≡ child_words (bytes_at (first ws)) (bytes_at (first (after true ws))) left
child_here ws left e f l = front_word ws kind.Name e ∙ ap (λ (x : Words). word kind.Name (bytes_at (first ws)) ∷ x) (front_word (after true ws) (kind.Mark mark.OpenBrace) f ∙ ap (λ (x : Words). a_mark mark.OpenBrace (bytes_at (first (after true ws))) ∷ x) (sym l))

pub child_at : (m : ℕ) (late : Bool) (ls : List (List ℕ)) (ws here left : Words) → 0 < m → Labelled ls ws here → AreLabelTexts ls → kind_at (first here) ≡ Some kind.Name → kind_at (first (after true here)) ≡ Some (kind.Mark mark.OpenBrace) → IsNodeName (bytes_at (first here)) → m < 65 → left ≡ after true (after true here) →
    Goes m late ws (raw_child (bytes_at (first here)) ∷ map raw_label ls) (m + 1) false left × (length left < length ws)
child_at zero late ls ws here left h l t e f name few x = absurd (omega (arith, h))
child_at (suc n) late ls ws here left h l t e f name few x =
    let at = child_here here left e f x in
    let more : suc (suc n) ≡ suc n + 1 = omega arith in
    let longer = ap length at in (
      subst (λ (m : ℕ). Goes (suc n) late ws (raw_child (bytes_at (first here)) ∷ map raw_label ls) m false left) more
          (child_goes n late ls (bytes_at (first here)) (bytes_at (first (after true here))) ws left (subst (Labelled ls ws) at l) t name few),
      shorter_by_labels ls ws here left l (omega (arith, longer)),
    )

pub close_at : (m : ℕ) (late : Bool) (ls : List (List ℕ)) (ws here left : Words) → 0 < m → ls ≡ [] → Labelled ls ws here → Descends (AfterMemberLabels []) here (found (made_places []) here) → Closes here left → Goes m late ws (raw_close ∷ []) (m - 1) true left
close_at zero late ls ws here left h e l d c = absurd (omega (arith, h))
close_at (suc n) late ls ws here left h e l d c =
    let less : n ≡ suc n - 1 = omega arith in
    subst (λ (m : ℕ). Goes (suc n) late ws (raw_close ∷ []) m true left) less (close_goes n late ws here left (subst (λ (x : List (List ℕ)). Labelled x ws here) e l) d c)

pub close_stops_at : (m : ℕ) (late : Bool) (ls : List (List ℕ)) (ws here : Words) (stop : Stop) → 0 < m → Labelled ls ws here → AreLabelTexts ls → Descends (AfterMemberLabels []) here (found (made_places []) here) → IsUnclosed ls here stop → BreaksIn m late ws stop
close_stops_at zero late ls ws here stop h l t d b = absurd (omega (arith, h))
close_stops_at (suc n) late ls ws here stop h l t d (labelled b) = members_stop n late ls ws here stop l t (λ outer e. b (in_body late outer))
close_stops_at (suc n) late ls ws here stop h l t d (unclosed e b) = close_stops n late ws here stop (subst (λ (x : List (List ℕ)). Labelled x ws here) e l) d b

-- ---- a whole body

-- a body's members, and its end
abbrev Ended : Words → List RawPlace → Words → Type 0
Ended ws ps left = (qs : List RawPlace) × (rest : Words) × (ps ≡ qs ++ raw_close ∷ []) × Descends SomeMembers ws (found (made_places qs) rest) × Closes rest left

ended_from : (ws left : Words) (ps : List RawPlace) → Finishes 1 ws ps left → Ended ws ps left
ended_from ws left ps (closing _ _ rest _ _ qs _ d c (finished _)) = (qs, rest, refl, d, c)

pub block_reads : (ws start left : Words) (done ps : List RawPlace) (b : Bool) → kind_at (first ws) ≡ Some (kind.Mark mark.OpenBrace) → start ≡ after true ws → Goes 1 false start done 0 b left → Descends (BlockOpen ps) ws (found (made_places (ps ++ done)) left)
block_reads ws start left done ps b e s g =
    let x = ended_from start left done (subst (λ (l : List RawPlace). Finishes 1 start l left) (append-nil done) (g.reads [] left (finished left))) in
    let P = ps ++ (x.0 ++ raw_close ∷ []) in
    subst (λ (l : List RawPlace). Descends (BlockOpen ps) ws (found (made_places (ps ++ l)) left)) (sym x.2)
    (part_then (BlockOpen ps) ws true SomeMembers (λ m. BlockClose (ps ++ (places_in m ++ raw_close ∷ []))) (made_places x.0) x.1 (found (made_places P) left) (ap (at_block_open ps) e)
    (subst (λ (l : Words). Descends SomeMembers l (found (made_places x.0) x.1)) s x.3) (x.4 P))

block_passes : (ps : List RawPlace) (ws : Words) → kind_at (first ws) ≡ Some (kind.Mark mark.OpenBrace) → Passes outside (BlockOpen ps) ws
block_passes ps ws e = record { named = tt; placed = subst (λ (k : Option TokenKind). body_placed [] k) (sym e) (omega arith) }

block_stops_at : (ws : Words) (ps : List RawPlace) (stop : Stop) → kind_at (first ws) ≡ Some (kind.Mark mark.OpenBrace) → BreaksIn 1 false (after true ws) stop → IsBroken outside (BlockOpen ps) ws stop
block_stops_at ws ps stop e (in_members _ _ _ _ f) =
    stops_too (in_body false []) outside SomeMembers (BlockOpen ps) (after true ws) ws stop
    (λ k left d. in_part outside (BlockOpen ps) ws left k true SomeMembers (λ m. BlockClose (ps ++ (places_in m ++ raw_close ∷ []))) tt (ap (at_block_open ps) e) (block_passes ps ws e) d) (f [] refl)
block_stops_at ws ps stop e (at_close _ _ _ rest _ qs d f b) =
    stops_too outside outside (BlockClose (ps ++ (qs ++ raw_close ∷ []))) (BlockOpen ps) rest ws stop
    (λ k left x. behind_part outside (BlockOpen ps) ws rest left k true SomeMembers (λ m. BlockClose (ps ++ (places_in m ++ raw_close ∷ []))) (made_places qs) tt (ap (at_block_open ps) e) (block_passes ps ws e) d
    (f.sound, subst (IsOrdered (false ∷ [])) (append-nil qs) (f.ordered [] refl [] (λ y. tt))) x) (b outside (ps ++ (qs ++ raw_close ∷ [])))
block_stops_at ws ps stop e (behind_close _ _ _ rest more _ qs d f c b) = absurd (none_open more stop b)
  where
    none_open : (more : Words) (stop : Stop) → BreaksIn 0 true more stop → ⊥
    none_open more stop b = elim b [ ]

pub block_stops : (ws start : Words) (ps : List RawPlace) (stop : Stop) → kind_at (first ws) ≡ Some (kind.Mark mark.OpenBrace) → start ≡ after true ws → BreaksIn 1 false start stop → IsBroken outside (BlockOpen ps) ws stop
block_stops ws start ps stop e s b = block_stops_at ws ps stop e (subst (λ (l : Words). BreaksIn 1 false l stop) s b)

pub block_ordered : (start left : Words) (done : List RawPlace) (b : Bool) → Goes 1 false start done 0 b left → IsOrdered (false ∷ []) done
block_ordered start left done b g = subst (IsOrdered (false ∷ [])) (append-nil done) (g.ordered [] tt)
