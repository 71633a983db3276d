-- The entry of an index, and the entry that begins at its byte.
use Rattle.std.proofs.Common.{◌≡◌, ℕ, suc, zero, ◌+◌, ◌*◌, ◌/◌, ◌%◌, Bool, true, false, ◌≤◌, List, [], ◌∷◌, take, drop, length, refl, sym, ap, subst, ◌∙◌, Option, Some, arith}
use Rattle.std.specs.Prelude.{if◌then◌else◌, codes, nat_lt}
use Rattle.std.proofs.lemmas.Bool.{eq-eqb, ltb-false}
use Rattle.std.proofs.lemmas.List.{length-drop, drop-drop}
use Rattle.dt_names.specs.declared.fault.FaultKind.TheVariants.{BadCells}
use Rattle.dt_model.specs.Names.{Name}
use Rattle.dt_model.specs.Path.{Path}
use Rattle.dt_resolve_model.specs.Answers.{Answer, undetermined, refused, answer, refuse, ◌>>=◌}
use Rattle.dt_resolve_model.specs.World.{Quad, Value, World}
use Rattle.dt_resolve_model.specs.Interrupts.{Sent, Entry, entry_of, first_entry, entry_sent, is_ragged, cells_from, sent_at, cells_behind, IsBeginning, specifier_count, most_hops, extended_at, route_of_sent, interrupt_at, IsSentBy, IsRoute}
use Rattle.dt_resolve_model.specs.Specifiers.{provider_count, provider_of, provider_at, provided, specifier_route, specifier_at}
use Rattle.dt_resolve_model.specs.Laws.{EntriesAreAtTheirBytes}

-- what is left is the list without some cells in front
record IsRest (cells rest : List Quad) : Type 0 where
  pub count : ℕ
  pub few : count + length rest ≡ length cells
  pub is : rest ≡ drop count cells

entry_rest : (w : World) (count : Path → Answer ℕ) (ragged : Bool) (cells : List Quad) (e : Entry) → first_entry w count ragged cells ≡ answer e → IsRest cells e.rest
entry_rest w count ragged [] e is = absurd cc
entry_rest w count ragged (cell ∷ cells) e is = at_node (w.node cell) is
  where
    whole : (q : Path) (n : ℕ) (t : Bool) → nat_lt (length cells) n ≡ t → (if t then refuse BadCells else answer (record { sent = record { node = q; specifier = take n cells }; rest = drop n cells })) ≡ answer e → IsRest (cell ∷ cells) e.rest
    whole q n true lt got = absurd cc
    whole q n false lt got =
        let same : drop n cells ≡ e.rest = cc in
        let fits : n ≤ length cells = ltb-false (length cells) n lt in
        let left = length-drop n cells in
        record { count = suc n; few = omega (arith, fits, left, ap length same); is = sym same }

    at_count : (q : Path) (x : Answer ℕ) → (x >>= entry_of cells q) ≡ answer e → IsRest (cell ∷ cells) e.rest
    at_count q undetermined got = absurd cc
    at_count q (refused fault) got = absurd cc
    at_count q (answer n) got = whole q n (nat_lt (length cells) n) refl got

    at_node : (x : Answer Path) → (x >>= λ q. count q >>= entry_of cells q) ≡ answer e → IsRest (cell ∷ cells) e.rest
    at_node undetermined got = absurd cc
    at_node (refused fault) got = absurd cc
    at_node (answer q) got = at_count q (count q) got

module _ (w : World) (count : Path → Answer ℕ) (ragged : Bool) where
  -- behind some entries a part of the list is left
  rest_behind : (i : ℕ) (cells left : List Quad) → cells_behind w count ragged i cells ≡ answer left → IsRest cells left
  rest_behind zero cells left is = record { count = 0; few = omega (arith, ap length same); is = sym same }
    where
      same : cells ≡ left
      same = cc
  rest_behind (suc i) cells left is = by (first_entry w count ragged cells) refl (λ e. rest_behind i e.rest left)
    where
      by : (x : Answer Entry) → first_entry w count ragged cells ≡ x → ((e : Entry) → cells_behind w count ragged i e.rest ≡ answer left → IsRest e.rest left) → IsRest cells left
      by undetermined first more = absurd (let z : undetermined ≡ answer left = sym (ap (λ (x : Answer Entry). x >>= λ y. cells_behind w count ragged i y.rest) first) ∙ is in cc)
      by (refused fault) first more = absurd (let z : refused fault ≡ answer left = sym (ap (λ (x : Answer Entry). x >>= λ y. cells_behind w count ragged i y.rest) first) ∙ is in cc)
      by (answer e) first more =
          let one = entry_rest w count ragged cells e first in
          let rest = more e (sym (ap (λ (x : Answer Entry). x >>= λ y. cells_behind w count ragged i y.rest) first) ∙ is) in
          record {
            count = one.count + rest.count;
            few = omega (arith, one.few, rest.few);
            is = rest.is ∙ ap (drop rest.count) one.is ∙ drop-drop rest.count one.count cells;
          }

  -- the entry of an index is the first one behind those before it
  sent_behind : (i : ℕ) (cells left : List Quad) → cells_behind w count ragged i cells ≡ answer left → entry_sent w count ragged i cells ≡ (first_entry w count ragged left >>= λ x. answer x.sent)
  sent_behind zero cells left is = ap (λ (c : List Quad). first_entry w count ragged c >>= λ x. answer x.sent) same
    where
      same : cells ≡ left
      same = cc
  sent_behind (suc i) cells left is = by (first_entry w count ragged cells) refl (λ e. sent_behind i e.rest left)
    where
      by : (x : Answer Entry) → first_entry w count ragged cells ≡ x → ((e : Entry) → cells_behind w count ragged i e.rest ≡ answer left → entry_sent w count ragged i e.rest ≡ (first_entry w count ragged left >>= λ x. answer x.sent))
          → entry_sent w count ragged (suc i) cells ≡ (first_entry w count ragged left >>= λ x. answer x.sent)
      by undetermined first more = absurd (let z : undetermined ≡ answer left = sym (ap (λ (x : Answer Entry). x >>= λ y. cells_behind w count ragged i y.rest) first) ∙ is in cc)
      by (refused fault) first more = absurd (let z : refused fault ≡ answer left = sym (ap (λ (x : Answer Entry). x >>= λ y. cells_behind w count ragged i y.rest) first) ∙ is in cc)
      by (answer e) first more =
          ap (λ (x : Answer Entry). x >>= λ y. entry_sent w count ragged i y.rest) first
          ∙ more e (sym (ap (λ (x : Answer Entry). x >>= λ y. cells_behind w count ragged i y.rest) first) ∙ is)

-- what is read from its byte on is what is left
from_byte : (cells left : List Quad) (at : ℕ) → IsRest cells left → at + 4 * length left ≡ 4 * length cells → cells_from at cells ≡ left
from_byte cells left at rest place =
    let few = rest.few in
    let is : at ≡ 4 * rest.count = omega (arith, few, place) in
    let even : at % 4 ≡ 0 = omega (arith, is) in
    let count : at / 4 ≡ rest.count = omega (arith, is) in
    rw (eq-eqb (at % 4) 0 even) (ap (λ (n : ℕ). drop n cells) count ∙ sym rest.is)

same_sent : (w : World) (count : Path → Answer ℕ) (v : Value) (index at : ℕ) → IsBeginning w count v index at → sent_at w count at v ≡ entry_sent w count (is_ragged v) index v.cells
same_sent w count v index at begins =
    let from = from_byte v.cells begins.left at (rest_behind w count (is_ragged v) index v.cells begins.left begins.behind) begins.place in
    ap (λ (c : List Quad). first_entry w count (is_ragged v) c >>= λ x. answer x.sent) from ∙ sym (sent_behind w count (is_ragged v) index v.cells begins.left begins.behind)

interrupt_is : (w : World) (p : Path) (v : Value) (index at : ℕ) → w.value p (codes "interrupts-extended") ≡ answer (Some v) → IsBeginning w (specifier_count w) v index at → IsRoute w p index (interrupt_at w p at)
interrupt_is w p v index at value begins =
    let sent = entry_sent w (specifier_count w) (is_ragged v) index v.cells in
    let is : IsSentBy w p index (answer (Some v)) (w.value p (codes "interrupts")) sent = refl in (
      sent,
      subst (λ (x : Answer (Option Value)). IsSentBy w p index x (w.value p (codes "interrupts")) sent) (sym value) is,
      ap (λ (x : Answer (Option Value)). x >>= extended_at w at >>= route_of_sent w p) value
          ∙ ap (λ (x : Answer Sent). x >>= route_of_sent w p) (same_sent w (specifier_count w) v index at begins),
    )

specifier_is : (w : World) (p : Path) (property kind : Name) (v : Value) (index at : ℕ) → w.value p property ≡ answer (Some v) → IsBeginning w (provider_count w kind) v index at
    → specifier_at w p property kind at ≡ specifier_route w p property kind index
specifier_is w p property kind v index at value begins =
    ap (λ (x : Answer (Option Value)). x >>= provider_at w kind at >>= provided w kind most_hops 0) value
    ∙ ap (λ (x : Answer Sent). x >>= provided w kind most_hops 0) (same_sent w (provider_count w kind) v index at begins)
    ∙ sym (ap (λ (x : Answer (Option Value)). x >>= provider_of w kind index >>= provided w kind most_hops 0) value)

pub entries_at_bytes : (w : World) → EntriesAreAtTheirBytes w
entries_at_bytes w = record { interrupts = interrupt_is w; specifiers = specifier_is w }
