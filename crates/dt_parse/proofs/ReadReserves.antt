-- Reservations that are read one by one.
use Rattle.std.proofs.Common.{◌≡◌, ◌≢◌, ℕ, ◌<◌, ◌^◌, inl, inr, true, false, List, [], ◌∷◌, ◌++◌, length, map, Option, Some, refl, sym, ◌∙◌, ap, subst, arith, append_assoc, mod-eq_of_lt}
use Rattle.std.specs.List.{AllByRecursion}
use Rattle.std.proofs.lemmas.List.{append-nil}
use Rattle.dt_names.specs.declared.fault.FaultKind.{FaultKind}
use Rattle.dt_names.specs.declared.fault.FaultKind.TheVariants as fault
use Rattle.dt_lex.specs.declared.token.TokenKind.{TokenKind}
use Rattle.dt_lex.specs.declared.token.TokenKind.TheVariants as kind
use Rattle.dt_lex.specs.declared.token.Mark.TheVariants as mark
use Rattle.dt_lex.specs.declared.token.Keyword.TheVariants as keyword
use Rattle.dt_model.specs.Valid.{IsReservation}
use Rattle.dt_expr.specs.Expression.{value}
use Rattle.dt_expr.specs.Fits.{Fits, element}
use Rattle.dt_parse.specs.declared.stop.Stop.{Stop}
use Rattle.dt_grammar.specs.Words.{Words}
use Rattle.dt_grammar.specs.Unchecked.{RawPlace, RawReserve, reserve_of, value_or_zero}
use Rattle.dt_grammar.specs.Strict.{AreLabelTexts, IsNumber, IsReserve}
use Rattle.dt_grammar.specs.Wanted.{Made, made_labels, made_places, made_behind, labels_in, places_in, reserves_in, size_in, expression_in, Done, Prim, SomeLabels, Top, AfterTopLabels, AfterAddress, ReserveEnd, StatementThen, refuse, want, kind_at}
use Rattle.dt_grammar.specs.Moves.{at_top, at_reserve_end, reserve_with}
use Rattle.dt_grammar.specs.Descent.{found, stuck, refuses, gives, Descends, first, after}
use Rattle.dt_grammar.specs.Faults.{Around, outside, Passes, Shows, unwanted, unnamed, unplaced, IsReservedWith, NumberBreaks, cut_off, unended, too_long, valueless, too_large, IsFine, Breaks, shows, in_number, in_part, behind_part}
use Rattle.dt_parse.specs.Reading.{IsRead, IsBroken}
use Rattle.dt_parse.specs.Leading.{ReadsOn, Reserves}
use Rattle.dt_source_items.specs.declared.source.Reservation.{Reservation}
use Rattle.dt_source_items.specs.Said.{reservation_said}
use Rattle.dt_grammar.proofs.Descent.{deterministic, by_move}
use Rattle.dt_parse.proofs.Numbers.{number_of}
use Rattle.dt_grammar.proofs.Stepping.{part_then}
use Rattle.dt_parse.proofs.Stopping.{stopped, stops_too}
use Rattle.dt_parse.proofs.Leading.{unexpected, leads_behind, leads_then, leads_stop, part_stop, no_longer}
use Rattle.dt_parse.proofs.ReadCells.{number_shorter}

-- ---- numbers

small : (n : ℕ) → Fits 64 n → n < 2 ^ 64
small n (inl h) = h
small n (inr h) = omega (arith, h)

itself : (n : ℕ) → Fits 64 n → element 64 n ≡ n
itself n h = mod-eq_of_lt (small n h)

record IsFineNumber (x : Made) : Type 0 where
  number : IsNumber (size_in x) (expression_in x)
  fits : Fits 64 (value_or_zero (expression_in x))

fine_number : (ws vs : Words) (x : Made) → IsRead outside Prim ws x vs → IsFineNumber x
fine_number ws vs x r = let f = subst (IsFine outside) (number_of ws x vs r.read).made r.fine in record { number = f.0; fits = f.1 }

same_made : (x y : Made) (s t : Words) → found x s ≡ found y t → x ≡ y
same_made x y s t e = cc

-- ---- what the second number is

reserved : (x y : Made) (ws vs : Words) → Descends Prim ws (found y vs) → IsReservation (value_or_zero (expression_in x), value_or_zero (expression_in y)) → IsReservedWith x ws
reserved x y ws vs d h = λ z left q n. subst (λ (m : Made). IsReservation (value_or_zero (expression_in x), value_or_zero (expression_in m))) (same_made y z vs left (deterministic d q)) h

not_found : (x : Made) (ws left : Words) → Descends Prim ws (stuck left) → IsReservedWith x ws
not_found x ws left d = λ y rest q n. let e = deterministic d q in absurd (cc)

second_passes : (ls : List (List ℕ)) (x : Made) (ws : Words) → IsReservedWith x ws → Passes outside (AfterAddress ls x) ws
second_passes ls x ws h = record { named = tt; placed = h }

second_in : (ls : List (List ℕ)) (x : Made) (ws : Words) (k : FaultKind) (left : Words) → IsReservedWith x ws → Breaks outside Prim ws k left → Breaks outside (AfterAddress ls x) ws k left
second_in ls x ws k left h d = in_part outside (AfterAddress ls x) ws left k false Prim (λ y. ReserveEnd (reserve_with ls x y)) tt refl (second_passes ls x ws h) d

number_breaks : (ls : List (List ℕ)) (x : Made) (ws : Words) (k : FaultKind) (left : Words) → NumberBreaks 64 ws k left → Breaks outside (AfterAddress ls x) ws k left
number_breaks ls x ws k left (cut_off _ d l) = second_in ls x ws _ _ (not_found x ws _ d) (in_number outside ws _ _ (cut_off _ d l))
number_breaks ls x ws k left (unended rest d l) = second_in ls x ws _ _ (not_found x ws rest d) (in_number outside ws _ _ (unended rest d l))
number_breaks ls x ws k left (too_long m rest d l) =
    second_in ls x ws _ _ (λ y other q n. let e = same_made m y rest other (deterministic d q) in let few = n.few in let size = ap size_in e in absurd (omega (arith, few, size, l)))
    (in_number outside ws _ _ (too_long m rest d l))
number_breaks ls x ws k left (valueless m rest d l none) =
    second_in ls x ws _ _ (λ y other q n. let e = ap (λ (z : Made). value (expression_in z)) (same_made m y rest other (deterministic d q)) in let some = n.evaluated in absurd (cc))
    (in_number outside ws _ _ (valueless m rest d l none))
number_breaks ls x ws k left (too_large m rest d n large) = shows outside (AfterAddress ls x) ws _ (unplaced tt (λ h. large (inl (h m rest d n).size)))

second_breaks : (ls : List (List ℕ)) (x : Made) (ws : Words) (k : FaultKind) (left : Words) → Breaks outside Prim ws k left → Breaks outside (AfterAddress ls x) ws k left
second_breaks ls x ws k left (shows _ _ _ _ (unwanted e)) = second_in ls x ws _ _ (not_found x ws ws (by_move _ _ ws _ e refuses)) (shows outside Prim ws _ (unwanted e))
second_breaks ls x ws k left (shows _ _ _ _ (unnamed n)) = absurd (n tt)
second_breaks ls x ws k left (shows _ _ _ _ (unplaced n p)) = absurd (p tt)
second_breaks ls x ws k left (in_number _ _ _ _ h) = number_breaks ls x ws k left h
second_breaks ls x ws k left (in_part _ _ _ _ _ taken part whole n m p h) = absurd n
second_breaks ls x ws k left (behind_part _ _ _ rest _ _ taken part whole made n m p d f h) = absurd n

-- ---- a reservation, part by part

top_passes : (ls : List (List ℕ)) (ws : Words) → Passes outside (AfterTopLabels ls) ws
top_passes ls ws = record { named = tt; placed = tt }

pub address_stop : (ls : List (List ℕ)) (ws vs : Words) (stop : Stop) → kind_at (first ws) ≡ Some (kind.Keyword keyword.Memreserve) → vs ≡ after true ws →
    IsBroken outside Prim vs stop → IsBroken outside (AfterTopLabels ls) ws stop
address_stop ls ws vs stop e v d = part_stop outside (AfterTopLabels ls) ws true Prim (AfterAddress ls) vs stop tt (ap (at_top ls) e) (top_passes ls ws) v d

address_leads : (ls : List (List ℕ)) (ws vs us : Words) (x : Made) → kind_at (first ws) ≡ Some (kind.Keyword keyword.Memreserve) → vs ≡ after true ws →
    IsRead outside Prim vs x us → ReadsOn outside (AfterTopLabels ls) ws outside (AfterAddress ls x) us
address_leads ls ws vs us x e v r = leads_behind outside (AfterTopLabels ls) ws true Prim (AfterAddress ls) vs x us tt (ap (at_top ls) e) (top_passes ls ws) v r

pub size_stop : (ls : List (List ℕ)) (ws vs us : Words) (x : Made) (stop : Stop) → kind_at (first ws) ≡ Some (kind.Keyword keyword.Memreserve) → vs ≡ after true ws →
    IsRead outside Prim vs x us → IsBroken outside Prim us stop → IsBroken outside (AfterTopLabels ls) ws stop
size_stop ls ws vs us x stop e v r d =
    leads_stop outside (AfterTopLabels ls) ws outside (AfterAddress ls x) us stop (address_leads ls ws vs us x e v r)
    (stops_too outside outside Prim (AfterAddress ls x) us us stop (second_breaks ls x us) d)

pub zeros_stop : (ls : List (List ℕ)) (ws vs us ts : Words) (x y : Made) (m n : ℕ) (stop : Stop) → kind_at (first ws) ≡ Some (kind.Keyword keyword.Memreserve) → vs ≡ after true ws →
    IsRead outside Prim vs x us → m ≡ element 64 (value_or_zero (expression_in x)) → IsRead outside Prim us y ts → n ≡ element 64 (value_or_zero (expression_in y)) →
    m ≡ 0 → n ≡ 0 → stop.kind ≡ fault.OutOfRange → stop.left ≡ length us → IsBroken outside (AfterTopLabels ls) ws stop
zeros_stop ls ws vs us ts x y m n stop e v r p q s zm zn k l =
    let f = fine_number vs us x r in
    let g = fine_number us ts y q in
    leads_stop outside (AfterTopLabels ls) ws outside (AfterAddress ls x) us stop (address_leads ls ws vs us x e v r)
    (stopped outside (AfterAddress ls x) us stop
    (subst (Shows outside (AfterAddress ls x) us) (sym k)
    (unplaced tt (λ h. (h y ts q.read g.number).some (sym (itself _ f.fits) ∙ (sym p ∙ zm), sym (itself _ g.fits) ∙ (sym s ∙ zn)))))
    l)

-- two numbers were read, which aren't both 0
pub record NumbersRead (ls : List (List ℕ)) (ws ts : Words) (says : ℕ × ℕ) (r : RawReserve) : Type 0 where
  pub leads : ReadsOn outside (AfterTopLabels ls) ws outside (ReserveEnd r) ts
  pub sound : AreLabelTexts ls → IsReserve r
  pub said : says ≡ reserve_of r
  pub shorter : length ts < length ws

pub numbers_read : (ls : List (List ℕ)) (ws vs us ts : Words) (x y : Made) (m n : ℕ) → kind_at (first ws) ≡ Some (kind.Keyword keyword.Memreserve) → vs ≡ after true ws →
    IsRead outside Prim vs x us → m ≡ element 64 (value_or_zero (expression_in x)) → IsRead outside Prim us y ts → n ≡ element 64 (value_or_zero (expression_in y)) →
    ¬ ((m ≡ 0) × (n ≡ 0)) → NumbersRead ls ws ts (m, n) (reserve_with ls x y)
numbers_read ls ws vs us ts x y m n e v r p q s some =
    let f = fine_number vs us x r in
    let g = fine_number us ts y q in
    let mx : m ≡ value_or_zero (expression_in x) = p ∙ itself _ f.fits in
    let ny : n ≡ value_or_zero (expression_in y) = s ∙ itself _ g.fits in
    let valid : IsReservation (value_or_zero (expression_in x), value_or_zero (expression_in y)) =
    record { some = λ z. some (mx ∙ z.0, ny ∙ z.1); address = small _ f.fits; size = small _ g.fits } in
    let one = no_longer ws vs v in
    let two = number_shorter x vs us r.read in
    let three = number_shorter y us ts q.read in
    record {
      leads = leads_then outside (AfterTopLabels ls) ws outside (AfterAddress ls x) us outside (ReserveEnd (reserve_with ls x y)) ts (address_leads ls ws vs us x e v r)
          (leads_behind outside (AfterAddress ls x) us false Prim (λ z. ReserveEnd (reserve_with ls x z)) us y ts tt refl (second_passes ls x us (reserved x y us ts q.read valid)) refl q);
      sound = λ h. record { labels = h; address = f.number; length = g.number; valid = valid };
      said = λ i. (mx i, ny i);
      shorter = omega (arith, one, two, three);
    }

no_end : (r : RawReserve) (k : Option TokenKind) → k ≢ Some (kind.Mark mark.Semicolon) → at_reserve_end r k ≡ refuse
no_end r (Some (kind.Mark mark.Semicolon)) n = absurd (n refl)
no_end r _ n = refl

pub end_stop : (ls : List (List ℕ)) (ws ts : Words) (says : ℕ × ℕ) (r : RawReserve) (stop : Stop) → NumbersRead ls ws ts says r →
    kind_at (first ts) ≢ Some (kind.Mark mark.Semicolon) → stop.kind ≡ fault.Syntax → stop.left ≡ length ts → IsBroken outside (AfterTopLabels ls) ws stop
end_stop ls ws ts says r stop h n k l =
    leads_stop outside (AfterTopLabels ls) ws outside (ReserveEnd r) ts stop h.leads (unexpected outside (ReserveEnd r) ts stop (no_end r (kind_at (first ts)) n) k l)

pub reserves : (ls : List (List ℕ)) (ws ts left : Words) (says : ℕ × ℕ) (r : RawReserve) → NumbersRead ls ws ts says r →
    kind_at (first ts) ≡ Some (kind.Mark mark.Semicolon) → left ≡ after true ts → AreLabelTexts ls → Reserves ls ws says left
reserves ls ws ts left says r h e l texts = record {
  reserve = r;
  sound = h.sound texts;
  said = h.said;
  follows = λ rs ps rest d.
      h.leads.follows (found (made_behind (r ∷ rs) ps) rest)
      (part_then (ReserveEnd r) ts true Top (λ x. Done (made_behind (r ∷ reserves_in x) (places_in x))) (made_behind rs ps) rest (found (made_behind (r ∷ rs) ps) rest) (ap (at_reserve_end r) e)
      (subst (λ (us : Words). Descends Top us (found (made_behind rs ps) rest)) l d) gives);
  breaks = λ k rest d.
      h.leads.breaks k rest
      (in_part outside (ReserveEnd r) ts rest k true Top (λ x. Done (made_behind (r ∷ reserves_in x) (places_in x))) tt (ap (at_reserve_end r) e) (record { named = tt; placed = tt })
      (subst (λ (us : Words). Breaks outside Top us k rest) l d));
}

-- ---- reservations, one by one

-- with these in front, what is read on from the second place is read from the first, and what breaks there breaks here
pub record ReservesRead (start now : Words) (done : List RawReserve) : Type 0 where
  pub follows : (rs : List RawReserve) (ps : List RawPlace) (left : Words) → Descends Top now (found (made_behind rs ps) left) → Descends Top start (found (made_behind (done ++ rs) ps) left)
  pub breaks : (k : FaultKind) (left : Words) → Breaks outside Top now k left → Breaks outside Top start k left
  pub sound : AllByRecursion IsReserve done

pub none_read : (start : Words) → ReservesRead start start []
none_read start = record { follows = λ rs ps left d. d; breaks = λ k left d. d; sound = tt }

all_more : (done : List RawReserve) (r : RawReserve) → AllByRecursion IsReserve done → IsReserve r → AllByRecursion IsReserve (done ++ r ∷ [])
all_more [] r h s = (s, tt)
all_more (d ∷ done) r h s = (h.0, all_more done r h.1 s)

told_more : (done : List RawReserve) (r : RawReserve) → map reserve_of (done ++ r ∷ []) ≡ map reserve_of done ++ reserve_of r ∷ []
told_more [] r = refl
told_more (d ∷ done) r = ap (λ (z : List (ℕ × ℕ)). reserve_of d ∷ z) (told_more done r)

labels_lead : (ws vs : Words) (ls : List (List ℕ)) → ((a : Around) → IsRead a SomeLabels ws (made_labels ls) vs) → ReadsOn outside Top ws outside (AfterTopLabels ls) vs
labels_lead ws vs ls r = leads_behind outside Top ws false SomeLabels (λ x. AfterTopLabels (labels_in x)) ws (made_labels ls) vs tt refl (record { named = tt; placed = tt }) refl (r outside)

pub top_stop : (start ws : Words) (done : List RawReserve) (stop : Stop) → ReservesRead start ws done → ((a : Around) → IsBroken a SomeLabels ws stop) → IsBroken outside Top start stop
top_stop start ws done stop h d =
    stops_too outside outside Top Top ws start stop h.breaks
    (part_stop outside Top ws false SomeLabels (λ x. AfterTopLabels (labels_in x)) ws stop tt refl (record { named = tt; placed = tt }) refl (d outside))

pub reserve_stop : (start ws vs : Words) (done : List RawReserve) (ls : List (List ℕ)) (stop : Stop) → ReservesRead start ws done →
    ((a : Around) → IsRead a SomeLabels ws (made_labels ls) vs) → ((ms : List (List ℕ)) → IsBroken outside (AfterTopLabels ms) vs stop) → IsBroken outside Top start stop
reserve_stop start ws vs done ls stop h r d =
    stops_too outside outside Top Top ws start stop h.breaks (leads_stop outside Top ws outside (AfterTopLabels ls) vs stop (labels_lead ws vs ls r) (d ls))

pub another_read : (start ws vs us : Words) (done : List RawReserve) (ls : List (List ℕ)) (says : ℕ × ℕ) → ReservesRead start ws done →
    ((a : Around) → IsRead a SomeLabels ws (made_labels ls) vs) → (r : Reserves ls vs says us) → ReservesRead start us (done ++ r.reserve ∷ [])
another_read start ws vs us done ls says h q r = record {
  follows = λ rs ps left d.
      subst (λ (z : List RawReserve). Descends Top start (found (made_behind z ps) left)) (sym (append_assoc done (r.reserve ∷ []) rs))
      (h.follows (r.reserve ∷ rs) ps left ((labels_lead ws vs ls q).follows (found (made_behind (r.reserve ∷ rs) ps) left) (r.follows rs ps left d)));
  breaks = λ k left d. h.breaks k left ((labels_lead ws vs ls q).breaks k left (r.breaks k left d));
  sound = all_more done r.reserve h.sound r.sound;
}

no_reserve : (ls : List (List ℕ)) (k : Option TokenKind) → k ≢ Some (kind.Keyword keyword.Memreserve) → at_top ls k ≡ want false (StatementThen ls) (λ x. Done (made_behind [] (places_in x)))
no_reserve ls (Some (kind.Keyword keyword.Memreserve)) n = absurd (n refl)
no_reserve ls _ n = refl

pub statements_follow : (start ws vs : Words) (done : List RawReserve) (ls : List (List ℕ)) → ReservesRead start ws done → ((a : Around) → IsRead a SomeLabels ws (made_labels ls) vs) →
    kind_at (first vs) ≢ Some (kind.Keyword keyword.Memreserve) → (ps : List RawPlace) (left : Words) → Descends (StatementThen ls) vs (found (made_places ps) left) →
    Descends Top start (found (made_behind done ps) left)
statements_follow start ws vs done ls h r n ps left d =
    subst (λ (z : List RawReserve). Descends Top start (found (made_behind z ps) left)) (append-nil done)
    (h.follows [] ps left
    ((labels_lead ws vs ls r).follows (found (made_behind [] ps) left)
    (part_then (AfterTopLabels ls) vs false (StatementThen ls) (λ x. Done (made_behind [] (places_in x))) (made_places ps) left (found (made_behind [] ps) left) (no_reserve ls (kind_at (first vs)) n) d gives)))

pub statements_break : (start ws vs : Words) (done : List RawReserve) (ls : List (List ℕ)) → ReservesRead start ws done → ((a : Around) → IsRead a SomeLabels ws (made_labels ls) vs) →
    kind_at (first vs) ≢ Some (kind.Keyword keyword.Memreserve) → (k : FaultKind) (left : Words) → Breaks outside (StatementThen ls) vs k left → Breaks outside Top start k left
statements_break start ws vs done ls h r n k left d =
    h.breaks k left
    ((labels_lead ws vs ls r).breaks k left
    (in_part outside (AfterTopLabels ls) vs left k false (StatementThen ls) (λ x. Done (made_behind [] (places_in x))) tt (no_reserve ls (kind_at (first vs)) n) (top_passes ls vs) d))

reservations_more : (old : List Reservation) (r : Reservation) → map reservation_said (old ++ r ∷ []) ≡ map reservation_said old ++ reservation_said r ∷ []
reservations_more [] r = refl
reservations_more (d ∷ old) r = ap (λ (z : List (ℕ × ℕ)). reservation_said d ∷ z) (reservations_more old r)

pub said_more : (old new : List Reservation) (done : List RawReserve) (r : Reservation) (x : RawReserve) → map reservation_said old ≡ map reserve_of done → new ≡ old ++ r ∷ [] →
    reservation_said r ≡ reserve_of x → map reservation_said new ≡ map reserve_of (done ++ x ∷ [])
said_more old new done r x e f g = ap (map reservation_said) f ∙ (reservations_more old r ∙ ((λ i. e i ++ g i ∷ []) ∙ sym (told_more done x)))
