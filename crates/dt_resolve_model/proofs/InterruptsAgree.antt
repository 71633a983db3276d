-- The route that a world determines is the one of each world that refines it.
use Rattle.std.proofs.Common.{◌≡◌, ℕ, suc, zero, ◌+◌, ◌-◌, ◌*◌, ◌/◌, ◌%◌, Bool, true, false, not, ◌==◌, inl, inr, List, [], ◌∷◌, ◌++◌, take, drop, length, refl, sym, ap, ◌∙◌, subst, Option, Some, None, arith}
use Rattle.std.specs.Prelude.{if◌then◌else◌, codes, nat_lt, is_some}
use Rattle.dt_names.specs.declared.fault.FaultKind.TheVariants.{BadCells, NoInterrupts, Loop, BadMap, NoUnitAddress}
use Rattle.dt_model.specs.Names.{Name}
use Rattle.dt_model.specs.Path.{Path}
use Rattle.dt_resolve_model.specs.Above.{parent_of}
use Rattle.dt_resolve_model.specs.Answers.{Answer, undetermined, refused, answer, refuse, ◌>>=◌, Agrees}
use Rattle.dt_resolve_model.specs.World.{Quad, Value, World}
use Rattle.dt_resolve_model.specs.Regions.{figure_of, only_cell, address_count, entries_of, entry_at}
use Rattle.dt_resolve_model.specs.Interrupts.{step_by, step_of, Lead, nowhere, arrived, onward, step_to, steps_from, after_step, ended, IsInterruptParent, specifier_size, size_told, size_at, specifier_count, Sent, Entry, entry_of, first_entry, entry_sent, is_ragged, cells_from, sent_at, listed_at, IsSentBy, Interrupt, RowCells, MapRow, map_row_of, map_row_at_parent, map_row, interrupt_row_cells, as_numbers, equal_under, matches, first_match, mask_of, led, hop, Route, at_node, arrival, routed, unit_of, most_hops, route_of_sent, IsRoute, extended_at, interrupt_at}
use Rattle.dt_resolve_model.proofs.Agreeing.{Same, agree_bind, agree_refl, agree_same, IsSeen, AreSeen, IsValueSeen, IsMaybeSeen, Refines, seen_figure, seen_take, seen_drop, seen_length, seen_append}
use Rattle.dt_resolve_model.proofs.RegionsAgree.{only_cell_agrees, only_number_agrees, address_count_agrees, AreAllSeen, entries_of_agree, entry_agrees}

cell_node_agrees : (v w : World) → Refines v w → (a b : Value) → IsValueSeen w a b → Agrees (Same Path) (only_cell a >>= v.node) (only_cell b >>= w.node)
cell_node_agrees v w r a b h = agree_bind (IsSeen w) (Same Path) (only_cell a) (only_cell b) v.node w.node (only_cell_agrees w a b h) r.node

step_by_agrees : (v w : World) → Refines v w → (p : Path) (a b : Option Value) → IsMaybeSeen w a b → Agrees (Same (Option Path)) (step_by v p a) (step_by w p b)
step_by_agrees v w r p None None h = (parent_of p, refl, refl)
step_by_agrees v w r p None (Some b) h = absurd h
step_by_agrees v w r p (Some a) None h = absurd h
step_by_agrees v w r p (Some a) (Some b) h = agree_same (only_cell a >>= v.node) (only_cell b >>= w.node) _ _ (cell_node_agrees v w r a b h) (λ q. agree_refl (answer (Some q)))

there_agrees : (w : World) (q : Path) (a b : Option Value) → IsMaybeSeen w a b → Agrees (Same Lead) (answer (if is_some a then arrived q else onward q)) (answer (if is_some b then arrived q else onward q))
there_agrees w q None None h = (onward q, refl, refl)
there_agrees w q None (Some b) h = absurd h
there_agrees w q (Some a) None h = absurd h
there_agrees w q (Some a) (Some b) h = (arrived q, refl, refl)

step_to_agrees : (v w : World) → Refines v w → (o : Option Path) → Agrees (Same Lead) (step_to v o) (step_to w o)
step_to_agrees v w r None = (nowhere, refl, refl)
step_to_agrees v w r (Some q) = agree_bind (IsMaybeSeen w) (Same Lead) (v.value q (codes "#interrupt-cells")) (w.value q (codes "#interrupt-cells")) _ _ (r.value q (codes "#interrupt-cells")) (there_agrees w q)

steps_agree : (v w : World) → Refines v w → (p : Path) → Agrees (Same Lead) (steps_from v p) (steps_from w p)
steps_agree v w r p =
    agree_same (step_of v p) (step_of w p) (step_to v) (step_to w)
    (agree_bind (IsMaybeSeen w) (Same (Option Path)) (v.value p (codes "interrupt-parent")) (w.value p (codes "interrupt-parent")) (step_by v p) (step_by w p) (r.value p (codes "interrupt-parent")) (step_by_agrees v w r p))
    (step_to_agrees v w r)

-- where some steps end with something determined, they end so in both worlds, and where they do not end, they do not
abbrev pub EndsAgree : Option (Answer Path) → Option (Answer Path) → Type 0
EndsAgree None y = y ≡ None
EndsAgree (Some undetermined) y = Unit {0}
EndsAgree (Some (refused fault)) y = y ≡ Some (refused fault)
EndsAgree (Some (answer q)) y = y ≡ Some (answer q)

after_agrees : (f g : Path → Option (Answer Path)) → ((q : Path) → EndsAgree (f q) (g q)) → (x y : Answer Lead) → Agrees (Same Lead) x y → EndsAgree (after_step f x) (after_step g y)
after_agrees f g h undetermined y e = tt
after_agrees f g h (refused fault) y e = ap (after_step g) e
after_agrees f g h (answer nowhere) y e = ap (after_step g) (e.1 ∙ ap answer (sym e.2))
after_agrees f g h (answer (arrived q)) y e = ap (after_step g) (e.1 ∙ ap answer (sym e.2))
after_agrees f g h (answer (onward q)) y e = subst (λ (z : Answer Lead). EndsAgree (f q) (after_step g z)) (ap answer e.2 ∙ sym e.1) (h q)

ended_agrees : (v w : World) → Refines v w → (n : ℕ) (p : Path) → EndsAgree (ended v n p) (ended w n p)
ended_agrees v w r zero p = refl
ended_agrees v w r (suc n) p = after_agrees (ended v n) (ended w n) (ended_agrees v w r n) (steps_from v p) (steps_from w p) (steps_agree v w r p)

-- one step more does not change what has ended
abbrev pub EndsKept : Option (Answer Path) → Option (Answer Path) → Type 0
EndsKept None y = Unit {0}
EndsKept (Some r) y = y ≡ Some r

after_kept : (f g : Path → Option (Answer Path)) → ((q : Path) → EndsKept (f q) (g q)) → (x : Answer Lead) → EndsKept (after_step f x) (after_step g x)
after_kept f g h undetermined = refl
after_kept f g h (refused fault) = refl
after_kept f g h (answer nowhere) = refl
after_kept f g h (answer (arrived q)) = refl
after_kept f g h (answer (onward q)) = h q

pub ended_kept : (w : World) (n : ℕ) (p : Path) → EndsKept (ended w n p) (ended w (suc n) p)
ended_kept w zero p = tt
ended_kept w (suc n) p = after_kept (ended w n) (ended w (suc n)) (ended_kept w n) (steps_from w p)

pub ended_later : (w : World) (k n : ℕ) (p : Path) (r : Answer Path) → ended w n p ≡ Some r → ended w (k + n) p ≡ Some r
ended_later w zero n p r e = ap (λ (i : ℕ). ended w i p) (let z : 0 + n ≡ n = omega arith in z) ∙ e
ended_later w (suc k) n p r e =
    let before = ended_later w k n p r e in
    let next : suc k + n ≡ suc (k + n) = omega arith in
    ap (λ (i : ℕ). ended w i p) next ∙ subst (λ (x : Option (Answer Path)). EndsKept x (ended w (suc (k + n)) p)) before (ended_kept w (k + n) p)

-- a node has one interrupt parent
pub one_parent : (w : World) (p : Path) (r s : Answer Path) → IsInterruptParent w p r → IsInterruptParent w p s → r ≡ s
one_parent w p r s (inl (n, e)) (inl (k, e')) =
    let a = ended_later w k n p r e in
    let b = ended_later w n k p s e' in
    let same : k + n ≡ n + k = omega arith in
    let c : ended w (k + n) p ≡ ended w (n + k) p = ap (λ (i : ℕ). ended w i p) same in
    let d : Some r ≡ Some s = sym a ∙ c ∙ b in
    cc
one_parent w p r s (inl (n, e)) (inr (l, none)) = absurd (let z : Some r ≡ None = sym e ∙ none n in cc)
one_parent w p r s (inr (l, none)) (inl (n, e)) = absurd (let z : Some s ≡ None = sym e ∙ none n in cc)
one_parent w p r s (inr (l, none)) (inr (l', none')) = l ∙ sym l'

-- a parent that the first world determines is one in the second
parent_seen : (v w : World) → Refines v w → (p : Path) (q q' : Answer Path) → IsInterruptParent v p q → IsInterruptParent w p q' → Agrees (Same Path) q q'
parent_seen v w r p undetermined q' h k = tt
parent_seen v w r p (refused fault) q' (inl (n, e)) k = one_parent w p q' (refused fault) k (inl (n, subst (λ (x : Option (Answer Path)). EndsAgree x (ended w n p)) e (ended_agrees v w r n p)))
parent_seen v w r p (answer a) q' (inl (n, e)) k = (a, one_parent w p q' (answer a) k (inl (n, subst (λ (x : Option (Answer Path)). EndsAgree x (ended w n p)) e (ended_agrees v w r n p))), refl)
parent_seen v w r p (refused fault) q' (inr (l, none)) k = one_parent w p q' (refused fault) k (inr (l, λ n. subst (λ (x : Option (Answer Path)). EndsAgree x (ended w n p)) (none n) (ended_agrees v w r n p)))
parent_seen v w r p (answer a) q' (inr (l, none)) k = absurd (let z : answer a ≡ refuse Loop = l in cc)

size_told_agrees : (w : World) (least : ℕ) (a b : Option Value) → IsMaybeSeen w a b → Agrees (Same ℕ) (size_told least a) (size_told least b)
size_told_agrees w least None None h = refl
size_told_agrees w least None (Some b) h = absurd h
size_told_agrees w least (Some a) None h = absurd h
size_told_agrees w least (Some a) (Some b) h = agree_same (only_cell a >>= figure_of) (only_cell b >>= figure_of) (specifier_size least) (specifier_size least) (only_number_agrees w a b h) (λ n. agree_refl (specifier_size least n))

pub size_agrees : (v w : World) → Refines v w → (least : ℕ) (name : Name) (p : Path) → Agrees (Same ℕ) (size_at least name v p) (size_at least name w p)
size_agrees v w r least name p = agree_bind (IsMaybeSeen w) (Same ℕ) (v.value p name) (w.value p name) (size_told least) (size_told least) (r.value p name) (size_told_agrees w least)

specifier_count_agrees : (v w : World) → Refines v w → (p : Path) → Agrees (Same ℕ) (specifier_count v p) (specifier_count w p)
specifier_count_agrees v w r p = size_agrees v w r 1 (codes "#interrupt-cells") p

pub record IsSentSeen (w : World) (a b : Sent) : Type 0 where
  pub node : b.node ≡ a.node
  pub specifier : AreSeen w a.specifier b.specifier

pub record IsEntrySeen (w : World) (a b : Entry) : Type 0 where
  pub sent : IsSentSeen w a.sent b.sent
  pub rest : AreSeen w a.rest b.rest

entry_of_agrees : (w : World) (cs ds : List Quad) → AreSeen w cs ds → (q : Path) (n : ℕ) → Agrees (IsEntrySeen w) (entry_of cs q n) (entry_of ds q n)
entry_of_agrees w cs ds h q n = rw (seen_length w cs ds h) (step (nat_lt (length cs) n))
  where
    step : (t : Bool) → Agrees (IsEntrySeen w) (if t then refuse BadCells else answer (record { sent = record { node = q; specifier = take n cs }; rest = drop n cs })) (if t then refuse BadCells else answer (record { sent = record { node = q; specifier = take n ds }; rest = drop n ds }))
    step true = refl
    step false = (record { sent = record { node = q; specifier = take n ds }; rest = drop n ds }, refl, record { sent = record { node = refl; specifier = seen_take w n cs ds h }; rest = seen_drop w n cs ds h })

-- from values that are the same
pub agree_at : {A C D : Type 0} (S : C → D → Type 0) (x y : Answer A) (f : A → Answer C) (g : A → Answer D) → Agrees (Same A) x y → ((a : A) → Agrees S (f a) (g a)) → Agrees S (x >>= f) (y >>= g)
agree_at {A} {C} {D} S x y f g h k = agree_bind (Same A) S x y f g h (λ a b e. subst (λ (z : A). Agrees S (f a) (g z)) e (k a))

first_entry_agrees : (v w : World) → Refines v w → (f g : Path → Answer ℕ) → ((q : Path) → Agrees (Same ℕ) (f q) (g q)) → (ragged : Bool) (cs ds : List Quad) → AreSeen w cs ds → Agrees (IsEntrySeen w) (first_entry v f ragged cs) (first_entry w g ragged ds)
first_entry_agrees v w r f g e ragged [] [] h = refl
first_entry_agrees v w r f g e ragged [] (d ∷ ds) h = absurd h
first_entry_agrees v w r f g e ragged (c ∷ cs) [] h = absurd h
first_entry_agrees v w r f g e ragged (c ∷ cs) (d ∷ ds) h =
    agree_at (IsEntrySeen w) (v.node c) (w.node d) _ _ (r.node c d h.0)
    (λ q. agree_at (IsEntrySeen w) (f q) (g q) _ _ (e q)
    (entry_of_agrees w cs ds h.1 q))

pub entry_sent_agrees : (v w : World) → Refines v w → (f g : Path → Answer ℕ) → ((q : Path) → Agrees (Same ℕ) (f q) (g q)) → (ragged : Bool) (i : ℕ) (cs ds : List Quad) → AreSeen w cs ds → Agrees (IsSentSeen w) (entry_sent v f ragged i cs) (entry_sent w g ragged i ds)
entry_sent_agrees v w r f g e ragged zero cs ds h = agree_bind (IsEntrySeen w) (IsSentSeen w) (first_entry v f ragged cs) (first_entry w g ragged ds) _ _ (first_entry_agrees v w r f g e ragged cs ds h) (λ a b k. (b.sent, refl, k.sent))
entry_sent_agrees v w r f g e ragged (suc i) cs ds h = agree_bind (IsEntrySeen w) (IsSentSeen w) (first_entry v f ragged cs) (first_entry w g ragged ds) _ _ (first_entry_agrees v w r f g e ragged cs ds h) (λ a b k. entry_sent_agrees v w r f g e ragged i a.rest b.rest k.rest)

seen_from : (w : World) (at : ℕ) (cs ds : List Quad) → AreSeen w cs ds → AreSeen w (cells_from at cs) (cells_from at ds)
seen_from w at cs ds h = step (at % 4 == 0)
  where
    step : (t : Bool) → AreSeen w (if t then drop (at / 4) cs else []) (if t then drop (at / 4) ds else [])
    step true = seen_drop w (at / 4) cs ds h
    step false = tt

pub sent_at_agrees : (v w : World) → Refines v w → (f g : Path → Answer ℕ) → ((q : Path) → Agrees (Same ℕ) (f q) (g q)) → (at : ℕ) (a b : Value) → IsValueSeen w a b → Agrees (IsSentSeen w) (sent_at v f at a) (sent_at w g at b)
sent_at_agrees v w r f g e at a b h =
    let same : is_ragged b ≡ is_ragged a = ap (λ (n : ℕ). not (n % 4 == 0)) h.size in
    subst (λ (t : Bool). Agrees (IsSentSeen w) (sent_at v f at a) (first_entry w g t (cells_from at b.cells) >>= λ x. answer x.sent)) (sym same)
    (agree_bind (IsEntrySeen w) (IsSentSeen w) (first_entry v f (is_ragged a) (cells_from at a.cells)) (first_entry w g (is_ragged a) (cells_from at b.cells)) _ _
    (first_entry_agrees v w r f g e (is_ragged a) (cells_from at a.cells) (cells_from at b.cells) (seen_from w at a.cells b.cells h.cells)) (λ x y k. (y.sent, refl, k.sent)))

listed_at_agrees : (v w : World) → Refines v w → (index : ℕ) (a b : Value) → IsValueSeen w a b → (q : Path) → Agrees (IsSentSeen w) (listed_at v index a q) (listed_at w index b q)
listed_at_agrees v w r index a b h q =
    agree_at (IsSentSeen w) (specifier_count v q) (specifier_count w q) _ _ (specifier_count_agrees v w r q)
    (λ n. agree_bind (AreSeen w) (IsSentSeen w) (entries_of n a >>= entry_at NoInterrupts index) (entries_of n b >>= entry_at NoInterrupts index) _ _
    (agree_bind (AreAllSeen w) (AreSeen w) (entries_of n a) (entries_of n b) (entry_at NoInterrupts index) (entry_at NoInterrupts index) (entries_of_agree w n a b h) (entry_agrees w NoInterrupts index))
    (λ e f k. (record { node = q; specifier = f }, refl, record { node = refl; specifier = k })))

pub record IsRowSeen (w : World) (a b : MapRow) : Type 0 where
  pub compared : AreSeen w a.compared b.compared
  pub parent : b.parent ≡ a.parent
  pub unit : AreSeen w a.unit b.unit
  pub specifier : AreSeen w a.specifier b.specifier
  pub size : b.size ≡ a.size

row_of_agrees : (w : World) (es fs cs ds : List Quad) → AreSeen w es fs → AreSeen w cs ds → (q : Path) (n : RowCells) → Agrees (IsRowSeen w) (map_row_of es cs q n) (map_row_of fs ds q n)
row_of_agrees w es fs cs ds k h q n = rw (seen_length w cs ds h) (step (nat_lt (length cs) (n.address + n.specifier)))
  where
    step : (t : Bool)
        → Agrees (IsRowSeen w) (if t then refuse BadMap else answer (record { compared = es; parent = q; unit = take n.address cs; specifier = take n.specifier (drop n.address cs); size = length es + 1 + (n.address + n.specifier) }))
        (if t then refuse BadMap else answer (record { compared = fs; parent = q; unit = take n.address ds; specifier = take n.specifier (drop n.address ds); size = length fs + 1 + (n.address + n.specifier) }))
    step true = refl
    step false = (
      record { compared = fs; parent = q; unit = take n.address ds; specifier = take n.specifier (drop n.address ds); size = length fs + 1 + (n.address + n.specifier) },
      refl,
      record {
        compared = k;
        parent = refl;
        unit = seen_take w n.address cs ds h;
        specifier = seen_take w n.specifier (drop n.address cs) (drop n.address ds) (seen_drop w n.address cs ds h);
        size = ap (λ (l : ℕ). l + 1 + (n.address + n.specifier)) (seen_length w es fs k);
      },
    )

-- the widths of rows are the same in both worlds
abbrev pub AreWidthsSame : (f g : Path → Answer RowCells) → Type 0
AreWidthsSame f g = (q : Path) → Agrees (Same RowCells) (f q) (g q)

row_at_parent_agrees : (v w : World) → Refines v w → (f g : Path → Answer RowCells) → AreWidthsSame f g → (es fs cs ds : List Quad) → AreSeen w es fs → AreSeen w cs ds → Agrees (IsRowSeen w) (map_row_at_parent v f es cs) (map_row_at_parent w g fs ds)
row_at_parent_agrees v w r f g e es fs [] [] k h = refl
row_at_parent_agrees v w r f g e es fs [] (d ∷ ds) k h = absurd h
row_at_parent_agrees v w r f g e es fs (c ∷ cs) [] k h = absurd h
row_at_parent_agrees v w r f g e es fs (c ∷ cs) (d ∷ ds) k h =
    agree_at (IsRowSeen w) (v.node c) (w.node d) _ _ (r.node c d h.0)
    (λ q. agree_at (IsRowSeen w) (f q) (g q) _ _ (e q)
    (row_of_agrees w es fs cs ds k h.1 q))

row_agrees : (v w : World) → Refines v w → (f g : Path → Answer RowCells) → AreWidthsSame f g → (width : ℕ) (cs ds : List Quad) → AreSeen w cs ds → Agrees (IsRowSeen w) (map_row v f width cs) (map_row w g width ds)
row_agrees v w r f g e width cs ds h = row_at_parent_agrees v w r f g e (take width cs) (take width ds) (drop width cs) (drop width ds) (seen_take w width cs ds h) (seen_drop w width cs ds h)

interrupt_widths_agree : (v w : World) → Refines v w → AreWidthsSame (interrupt_row_cells v) (interrupt_row_cells w)
interrupt_widths_agree v w r q =
    agree_same (address_count v q 0) (address_count w q 0) _ _ (address_count_agrees v w r q 0)
    (λ a. agree_same (specifier_count v q) (specifier_count w q) _ _ (specifier_count_agrees v w r q)
    (λ s. agree_refl (answer (record { address = a; specifier = s }))))

pub as_numbers_agree : (w : World) (cs ds : List Quad) → AreSeen w cs ds → Agrees (Same (List ℕ)) (as_numbers cs) (as_numbers ds)
as_numbers_agree w [] [] h = ([], refl, refl)
as_numbers_agree w [] (d ∷ ds) h = absurd h
as_numbers_agree w (c ∷ cs) [] h = absurd h
as_numbers_agree w (c ∷ cs) (d ∷ ds) h =
    agree_same (figure_of c) (figure_of d) _ _ (seen_figure w c d h.0)
    (λ n. agree_same (as_numbers cs) (as_numbers ds) _ _ (as_numbers_agree w cs ds h.1)
    (λ ns. agree_refl (answer (n ∷ ns))))

matches_agrees : (w : World) (cs ds ks ls ms ns : List Quad) → AreSeen w cs ds → AreSeen w ks ls → AreSeen w ms ns → Agrees (Same Bool) (matches cs ks ms) (matches ds ls ns)
matches_agrees w cs ds ks ls ms ns h i j =
    agree_same (as_numbers cs) (as_numbers ds) _ _ (as_numbers_agree w cs ds h)
    (λ xs. agree_same (as_numbers ks) (as_numbers ls) _ _ (as_numbers_agree w ks ls i)
    (λ ys. agree_same (as_numbers ms) (as_numbers ns) _ _ (as_numbers_agree w ms ns j)
    (λ zs. agree_refl (answer (equal_under xs ys zs)))))

pub first_match_agrees : (v w : World) → Refines v w → (f g : Path → Answer RowCells) → AreWidthsSame f g → (ragged : Bool) (width : ℕ) (key key' mask mask' : List Quad) → AreSeen w key key' → AreSeen w mask mask' → (skipped : ℕ) (cs ds : List Quad) → AreSeen w cs ds
    → Agrees (IsRowSeen w) (first_match v f ragged width key mask skipped cs) (first_match w g ragged width key' mask' skipped ds)
first_match_agrees v w r f g e ragged width key key' mask mask' hk hm skipped [] [] h = refl
first_match_agrees v w r f g e ragged width key key' mask mask' hk hm skipped [] (d ∷ ds) h = absurd h
first_match_agrees v w r f g e ragged width key key' mask mask' hk hm skipped (c ∷ cs) [] h = absurd h
first_match_agrees v w r f g e ragged width key key' mask mask' hk hm (suc n) (c ∷ cs) (d ∷ ds) h = first_match_agrees v w r f g e ragged width key key' mask mask' hk hm n cs ds h.1
first_match_agrees v w r f g e ragged width key key' mask mask' hk hm zero (c ∷ cs) (d ∷ ds) h =
    agree_bind (IsRowSeen w) (IsRowSeen w) (map_row v f width (c ∷ cs)) (map_row w g width (d ∷ ds)) _ _ (row_agrees v w r f g e width (c ∷ cs) (d ∷ ds) h)
    (λ a b k. agree_at (IsRowSeen w) (matches a.compared key mask) (matches b.compared key' mask') _ _ (matches_agrees w a.compared b.compared key key' mask mask' k.compared hk hm)
    (λ t. behind a b k t (λ n. first_match_agrees v w r f g e ragged width key key' mask mask' hk hm n cs ds h.1)))
  where
    behind : (a b : MapRow) → IsRowSeen w a b → (t : Bool) → ((n : ℕ) → Agrees (IsRowSeen w) (first_match v f ragged width key mask n cs) (first_match w g ragged width key' mask' n ds))
        → Agrees (IsRowSeen w) (if t then answer a else first_match v f ragged width key mask (a.size - 1) cs) (if t then answer b else first_match w g ragged width key' mask' (b.size - 1) ds)
    behind a b k true more = (b, refl, k)
    behind a b k false more = subst (λ (n : ℕ). Agrees (IsRowSeen w) (first_match v f ragged width key mask (a.size - 1) cs) (first_match w g ragged width key' mask' (n - 1) ds)) (sym k.size) (more (a.size - 1))

pub mask_of_agrees : (w : World) (width : ℕ) (a b : Option Value) → IsMaybeSeen w a b → Agrees (AreSeen w) (mask_of width a) (mask_of width b)
mask_of_agrees w width None None h = ([], refl, tt)
mask_of_agrees w width None (Some b) h = absurd h
mask_of_agrees w width (Some a) None h = absurd h
mask_of_agrees w width (Some a) (Some b) h =
    subst (λ (n : ℕ). Agrees (AreSeen w) (mask_of width (Some a)) (if n == 4 * width then answer b.cells else refuse BadMap)) (sym h.size)
    (step (a.size == 4 * width))
  where
    step : (t : Bool) → Agrees (AreSeen w) (if t then answer a.cells else refuse BadMap) (if t then answer b.cells else refuse BadMap)
    step true = (b.cells, refl, h.cells)
    step false = refl

pub record IsInterruptSeen (w : World) (a b : Interrupt) : Type 0 where
  pub node : b.node ≡ a.node
  pub unit : AreSeen w a.unit b.unit
  pub specifier : AreSeen w a.specifier b.specifier

agree_test : {A C : Type 0} (S : A → C → Type 0) (b : Bool) (x y : Answer A) (x' y' : Answer C) → Agrees S x x' → Agrees S y y' → Agrees S (if b then x else y) (if b then x' else y')
agree_test S true x y x' y' h k = h
agree_test S false x y x' y' h k = k

led_agrees : (v w : World) → Refines v w → (q : Path) (us us' ss ss' : List Quad) → AreSeen w us us' → AreSeen w ss ss' → (a b : Value) → IsValueSeen w a b → (n k : ℕ) → Agrees (IsInterruptSeen w) (led v q us ss a n k) (led w q us' ss' b n k)
led_agrees v w r q us us' ss ss' hu hs a b h n k =
    agree_bind (AreSeen w) (IsInterruptSeen w) (v.value q (codes "interrupt-map-mask") >>= mask_of (n + k)) (w.value q (codes "interrupt-map-mask") >>= mask_of (n + k)) _ _
    (agree_bind (IsMaybeSeen w) (AreSeen w) (v.value q (codes "interrupt-map-mask")) (w.value q (codes "interrupt-map-mask")) (mask_of (n + k)) (mask_of (n + k)) (r.value q (codes "interrupt-map-mask")) (mask_of_agrees w (n + k)))
    (λ mask mask' hm. subst (λ (t : Bool). Agrees (IsInterruptSeen w) (first_match v (interrupt_row_cells v) (is_ragged a) (n + k) (take n us ++ ss) mask 0 a.cells >>= λ x. answer (record { node = x.parent; unit = x.unit; specifier = x.specifier })) (first_match w (interrupt_row_cells w) t (n + k) (take n us' ++ ss') mask' 0 b.cells >>= λ x. answer (record { node = x.parent; unit = x.unit; specifier = x.specifier }))) (ap (λ (s : ℕ). not (s % 4 == 0)) (sym h.size))
    (agree_bind (IsRowSeen w) (IsInterruptSeen w) (first_match v (interrupt_row_cells v) (is_ragged a) (n + k) (take n us ++ ss) mask 0 a.cells) (first_match w (interrupt_row_cells w) (is_ragged a) (n + k) (take n us' ++ ss') mask' 0 b.cells) _ _
    (first_match_agrees v w r (interrupt_row_cells v) (interrupt_row_cells w) (interrupt_widths_agree v w r) (is_ragged a) (n + k) (take n us ++ ss) (take n us' ++ ss') mask mask' (seen_append w (take n us) (take n us') ss ss' (seen_take w n us us' hu) hs) hm 0 a.cells b.cells h.cells)
    (λ x y j. (record { node = y.parent; unit = y.unit; specifier = y.specifier }, refl, record { node = j.parent; unit = j.unit; specifier = j.specifier }))))

hop_agrees_at : (v w : World) → Refines v w → (q : Path) (us us' ss ss' : List Quad) → AreSeen w us us' → AreSeen w ss ss' → (a b : Value) → IsValueSeen w a b → Agrees (IsInterruptSeen w) (hop v (record { node = q; unit = us; specifier = ss }) a) (hop w (record { node = q; unit = us'; specifier = ss' }) b)
hop_agrees_at v w r q us us' ss ss' hu hs a b h =
    agree_at (IsInterruptSeen w) (address_count v q 2) (address_count w q 2) _ _ (address_count_agrees v w r q 2)
    (λ n. agree_at (IsInterruptSeen w) (specifier_count v q) (specifier_count w q) _ _ (specifier_count_agrees v w r q)
    (λ k. subst (λ (l : ℕ). Agrees (IsInterruptSeen w) (if nat_lt (length us) n then refuse NoUnitAddress else led v q us ss a n k) (if nat_lt l n then refuse NoUnitAddress else led w q us' ss' b n k)) (sym (seen_length w us us' hu))
    (agree_test (IsInterruptSeen w) (nat_lt (length us) n) (refuse NoUnitAddress) (led v q us ss a n k) (refuse NoUnitAddress) (led w q us' ss' b n k) refl (led_agrees v w r q us us' ss ss' hu hs a b h n k))))

-- a hop that the first world determines is so in the second
pub hop_agrees : (v w : World) → Refines v w → (s s' : Interrupt) → IsInterruptSeen w s s' → (a b : Value) → IsValueSeen w a b → Agrees (IsInterruptSeen w) (hop v s a) (hop w s' b)
hop_agrees v w r s s' k a b h =
    subst (λ (q : Path). Agrees (IsInterruptSeen w) (hop v s a) (hop w (record { node = q; unit = s'.unit; specifier = s'.specifier }) b)) (sym k.node)
    (hop_agrees_at v w r s.node s.unit s'.unit s.specifier s'.specifier k.unit k.specifier a b h)

at_node_agrees : (w : World) (f g : Value → Answer Route) → ((a b : Value) → IsValueSeen w a b → Agrees (Same Route) (f a) (g b)) → (hops : ℕ) (s s' : Interrupt) → IsInterruptSeen w s s' → (c c' : Option Value) → IsMaybeSeen w c c' → (m m' : Option Value) → IsMaybeSeen w m m' → Agrees (Same Route) (at_node f hops s c m) (at_node g hops s' c' m')
at_node_agrees w f g h hops s s' k None None j None None i = refl
at_node_agrees w f g h hops s s' k None None j None (Some m') i = absurd i
at_node_agrees w f g h hops s s' k None None j (Some m) None i = absurd i
at_node_agrees w f g h hops s s' k None None j (Some m) (Some m') i = h m m' i
at_node_agrees w f g h hops s s' k None (Some c') j m m' i = absurd j
at_node_agrees w f g h hops s s' k (Some c) None j m m' i = absurd j
at_node_agrees w f g h hops s s' k (Some c) (Some c') j m m' i =
    agree_same (as_numbers s.specifier) (as_numbers s'.specifier) _ _ (as_numbers_agree w s.specifier s'.specifier k.specifier)
    (λ ns. (record { controller = s'.node; cells = ns; hops = hops }, refl, ap (λ (q : Path). record { controller = q; cells = ns; hops = hops }) (sym k.node)))

arrival_agrees : (v w : World) → Refines v w → (f g : Value → Answer Route) → ((a b : Value) → IsValueSeen w a b → Agrees (Same Route) (f a) (g b)) → (hops : ℕ) (s s' : Interrupt) → IsInterruptSeen w s s' → Agrees (Same Route) (arrival v f hops s) (arrival w g hops s')
arrival_agrees v w r f g h hops s s' k =
    subst (λ (q : Path). Agrees (Same Route) (arrival v f hops s) (w.value q (codes "interrupt-controller") >>= λ c. w.value q (codes "interrupt-map") >>= at_node g hops s' c)) (sym k.node)
    (agree_bind (IsMaybeSeen w) (Same Route) (v.value s.node (codes "interrupt-controller")) (w.value s.node (codes "interrupt-controller")) _ _ (r.value s.node (codes "interrupt-controller"))
    (λ c c' j. agree_bind (IsMaybeSeen w) (Same Route) (v.value s.node (codes "interrupt-map")) (w.value s.node (codes "interrupt-map")) _ _ (r.value s.node (codes "interrupt-map")) (at_node_agrees w f g h hops s s' k c c' j)))

-- a route that the first world determines from some interrupt on is so in the second
pub routed_agrees : (v w : World) → Refines v w → (left hops : ℕ) (s s' : Interrupt) → IsInterruptSeen w s s' → Agrees (Same Route) (routed v left hops s) (routed w left hops s')
unfolding routed
routed_agrees v w r zero hops s s' k = arrival_agrees v w r (λ a. refuse Loop) (λ b. refuse Loop) (λ a b h. refl) hops s s' k
routed_agrees v w r (suc left) hops s s' k =
    arrival_agrees v w r (λ a. hop v s a >>= routed v left (hops + 1)) (λ b. hop w s' b >>= routed w left (hops + 1))
    (λ a b h. agree_bind (IsInterruptSeen w) (Same Route) (hop v s a) (hop w s' b) (routed v left (hops + 1)) (routed w left (hops + 1)) (hop_agrees v w r s s' k a b h) (routed_agrees v w r left (hops + 1)))
    hops s s' k

unit_seen : (w : World) (a b : Option Value) → IsMaybeSeen w a b → AreSeen w (unit_of a) (unit_of b)
unit_seen w None None h = tt
unit_seen w None (Some b) h = absurd h
unit_seen w (Some a) None h = absurd h
unit_seen w (Some a) (Some b) h = h.cells

route_of_sent_agrees : (v w : World) → Refines v w → (p : Path) (a b : Sent) → IsSentSeen w a b → Agrees (Same Route) (route_of_sent v p a) (route_of_sent w p b)
route_of_sent_agrees v w r p a b h =
    agree_bind (IsMaybeSeen w) (Same Route) (v.value p (codes "reg")) (w.value p (codes "reg")) _ _ (r.value p (codes "reg"))
    (λ x y k. routed_agrees v w r most_hops 0 (record { node = a.node; unit = unit_of x; specifier = a.specifier }) (record { node = b.node; unit = unit_of y; specifier = b.specifier }) (record { node = h.node; unit = unit_seen w x y k; specifier = h.specifier }))

sent_by_agrees : (v w : World) → Refines v w → (p : Path) (index : ℕ) (e e' i i' : Answer (Option Value)) → Agrees (IsMaybeSeen w) e e' → Agrees (IsMaybeSeen w) i i' → (s s' : Answer Sent) → IsSentBy v p index e i s → IsSentBy w p index e' i' s' → Agrees (IsSentSeen w) s s'
sent_by_agrees v w r p index undetermined e' i i' he hi s s' h k = subst (λ (x : Answer Sent). Agrees (IsSentSeen w) x s') (sym h) tt
sent_by_agrees v w r p index (refused fault) e' i i' he hi s s' h k =
    let again : s' ≡ refused fault = subst (λ (x : Answer (Option Value)). IsSentBy w p index x i' s') he k in
    subst (λ (x : Answer Sent). Agrees (IsSentSeen w) x s') (sym h) again
sent_by_agrees v w r p index (answer (Some a)) e' i i' (Some b, is, seen) hi s s' h k =
    let again : s' ≡ entry_sent w (specifier_count w) (is_ragged b) index b.cells = subst (λ (x : Answer (Option Value)). IsSentBy w p index x i' s') is k in
    let same : is_ragged b ≡ is_ragged a = ap (λ (n : ℕ). not (n % 4 == 0)) seen.size in
    subst (λ (x : Answer Sent). Agrees (IsSentSeen w) x s') (sym h)
    (subst (λ (x : Answer Sent). Agrees (IsSentSeen w) (entry_sent v (specifier_count v) (is_ragged a) index a.cells) x) (sym (again ∙ ap (λ (t : Bool). entry_sent w (specifier_count w) t index b.cells) same))
    (entry_sent_agrees v w r (specifier_count v) (specifier_count w) (specifier_count_agrees v w r) (is_ragged a) index a.cells b.cells seen.cells))
sent_by_agrees v w r p index (answer (Some a)) e' i i' (None, is, seen) hi s s' h k = absurd seen
sent_by_agrees v w r p index (answer None) e' i i' (Some b, is, seen) hi s s' h k = absurd seen
sent_by_agrees v w r p index (answer None) e' i i' (None, is, seen) hi s s' h k = by_plain i hi h (subst (λ (x : Answer (Option Value)). IsSentBy w p index x i' s') is k)
  where
    by_plain : (i : Answer (Option Value)) → Agrees (IsMaybeSeen w) i i' → IsSentBy v p index (answer None) i s → IsSentBy w p index (answer None) i' s' → Agrees (IsSentSeen w) s s'
    by_plain undetermined hi h k = subst (λ (x : Answer Sent). Agrees (IsSentSeen w) x s') (sym h) tt
    by_plain (refused fault) hi h k =
        let again : s' ≡ refused fault = subst (λ (x : Answer (Option Value)). IsSentBy w p index (answer None) x s') hi k in
        subst (λ (x : Answer Sent). Agrees (IsSentSeen w) x s') (sym h) again
    by_plain (answer None) (None, is, seen) h k =
        let again : s' ≡ refuse NoInterrupts = subst (λ (x : Answer (Option Value)). IsSentBy w p index (answer None) x s') is k in
        subst (λ (x : Answer Sent). Agrees (IsSentSeen w) x s') (sym h) again
    by_plain (answer None) (Some b, is, seen) h k = absurd seen
    by_plain (answer (Some a)) (None, is, seen) h k = absurd seen
    by_plain (answer (Some a)) (Some b, is, seen) h k =
        let again = subst (λ (x : Answer (Option Value)). IsSentBy w p index (answer None) x s') is k in
        subst (λ (x : Answer Sent). Agrees (IsSentSeen w) x s') (sym h.2)
        (subst (λ (x : Answer Sent). Agrees (IsSentSeen w) (h.0 >>= listed_at v index a) x) (sym again.2)
        (agree_bind (Same Path) (IsSentSeen w) h.0 again.0 (listed_at v index a) (listed_at w index b) (parent_seen v w r p h.0 again.0 h.1 again.1)
        (λ q q' e. subst (λ (z : Path). Agrees (IsSentSeen w) (listed_at v index a q) (listed_at w index b z)) e (listed_at_agrees v w r index a b seen q))))

-- what a world determines of a route is so in each world that refines it
pub route_agrees : (v w : World) → Refines v w → (p : Path) (index : ℕ) (x y : Answer Route) → IsRoute v p index x → IsRoute w p index y → Agrees (Same Route) x y
route_agrees v w r p index x y (s, h, e) (s', h', e') =
    subst (λ (z : Answer Route). Agrees (Same Route) z y) (sym e)
    (subst (λ (z : Answer Route). Agrees (Same Route) (s >>= route_of_sent v p) z) (sym e')
    (agree_bind (IsSentSeen w) (Same Route) s s' (route_of_sent v p) (route_of_sent w p)
    (sent_by_agrees v w r p index (v.value p (codes "interrupts-extended")) (w.value p (codes "interrupts-extended")) (v.value p (codes "interrupts")) (w.value p (codes "interrupts")) (r.value p (codes "interrupts-extended")) (r.value p (codes "interrupts")) s s' h h')
    (route_of_sent_agrees v w r p)))

extended_at_agrees : (v w : World) → Refines v w → (at : ℕ) (a b : Option Value) → IsMaybeSeen w a b → Agrees (IsSentSeen w) (extended_at v at a) (extended_at w at b)
extended_at_agrees v w r at None None h = refl
extended_at_agrees v w r at None (Some b) h = absurd h
extended_at_agrees v w r at (Some a) None h = absurd h
extended_at_agrees v w r at (Some a) (Some b) h = sent_at_agrees v w r (specifier_count v) (specifier_count w) (specifier_count_agrees v w r) at a b h

-- the same of the interrupt that begins at a byte
pub interrupt_at_agrees : (v w : World) → Refines v w → (p : Path) (at : ℕ) → Agrees (Same Route) (interrupt_at v p at) (interrupt_at w p at)
interrupt_at_agrees v w r p at =
    agree_bind (IsSentSeen w) (Same Route) (v.value p (codes "interrupts-extended") >>= extended_at v at) (w.value p (codes "interrupts-extended") >>= extended_at w at) (route_of_sent v p) (route_of_sent w p)
    (agree_bind (IsMaybeSeen w) (IsSentSeen w) (v.value p (codes "interrupts-extended")) (w.value p (codes "interrupts-extended")) (extended_at v at) (extended_at w at) (r.value p (codes "interrupts-extended")) (extended_at_agrees v w r at))
    (route_of_sent_agrees v w r p)
