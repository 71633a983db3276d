-- The entries that are left, one after another.
use Rattle.std.proofs.Common.{◌≡◌, ℕ, suc, zero, ◌+◌, ◌-◌, ◌*◌, ◌<◌, ◌≤◌, List, [], ◌∷◌, take, drop, length, refl, sym, ap, subst, ◌∙◌, arith}
use Rattle.dt_model.specs.Path.{Path}
use Rattle.dt_names.specs.declared.fault.Fault.{Fault}
use Rattle.dt_names.specs.declared.fault.FaultKind.TheVariants.{NoInterrupts}
use Rattle.dt_trees.specs.Placed.{PlacedTree, path_at, reading_of, IsNode}
use Rattle.dt_resolve_model.specs.Answers.{Answer, answer, refused, refuse, ◌>>=◌}
use Rattle.dt_resolve_model.specs.World.{Quad, World, tree_world, quads_of, value_of_bytes}
use Rattle.dt_resolve_model.specs.Interrupts.{Sent, Entry, first_entry, entry_sent, is_ragged, specifier_count, IsSent}
use Rattle.dt_resolve_model.proofs.Entries.{entry_there, entry_past}
use Rattle.dt_irq.specs.Left.{ListLeft, entry_listed, AreListed, AreExtended}
use Rattle.dt_irq.proofs.Listing.{sent_first}

pub at_once : (w : World) (p : Path) (i : ℕ) (r r' : Answer Sent) → r ≡ r' → IsSent w p (i + 0) r → IsSent w p i r'
at_once w p i r r' same h = subst (IsSent w p i) same (subst (λ j. IsSent w p j r) (let e : i + 0 ≡ i = omega arith in e) h)

one_later : (w : World) (p : Path) (i k : ℕ) (r r' : Answer Sent) → r ≡ r' → IsSent w p (i + suc k) r → IsSent w p (i + 1 + k) r'
one_later w p i k r r' same h = subst (IsSent w p (i + 1 + k)) same (subst (λ j. IsSent w p j r) (let e : i + suc k ≡ i + 1 + k = omega arith in e) h)

-- ---- of `interrupts-extended`

pub extended_none : (t : PlacedTree) (p : Path) (i : ℕ) (rest : List ℕ) → length rest ≡ 0 → AreExtended t p i rest → IsSent (tree_world (reading_of t)) p i (refuse NoInterrupts)
extended_none t p i [] none left = at_once (tree_world (reading_of t)) p i _ _ refl (left 0)
extended_none t p i (b ∷ rest) none left = absurd (omega arith)

pub extended_one : (t : PlacedTree) (p : Path) (i : ℕ) (rest : List ℕ) (e : Entry) → first_entry (tree_world (reading_of t)) (specifier_count (tree_world (reading_of t))) (is_ragged (value_of_bytes rest)) (quads_of rest) ≡ answer e
    → AreExtended t p i rest → IsSent (tree_world (reading_of t)) p i (answer e.sent)
extended_one t p i rest e first left = at_once (tree_world (reading_of t)) p i _ _ (ap sent_first first) (left 0)

pub extended_later : (t : PlacedTree) (p : Path) (i : ℕ) (rest behind : List ℕ) (e : Entry) → first_entry (tree_world (reading_of t)) (specifier_count (tree_world (reading_of t))) (is_ragged (value_of_bytes rest)) (quads_of rest) ≡ answer e
    → quads_of behind ≡ e.rest → is_ragged (value_of_bytes behind) ≡ is_ragged (value_of_bytes rest) → AreExtended t p i rest → AreExtended t p (i + 1) behind
extended_later t p i rest behind e first cells ragged left k =
    let w = tree_world (reading_of t) in
    one_later w p i k _ _
    (ap (λ (x : Answer Entry). x >>= λ y. entry_sent w (specifier_count w) (is_ragged (value_of_bytes rest)) k y.rest) first
    ∙ ap (λ c. entry_sent w (specifier_count w) (is_ragged (value_of_bytes rest)) k c) (sym cells)
    ∙ ap (λ b. entry_sent w (specifier_count w) b k (quads_of behind)) (sym ragged))
    (left (suc k))

pub extended_refused : (t : PlacedTree) (p : Path) (i : ℕ) (rest : List ℕ) (e : Fault) → first_entry (tree_world (reading_of t)) (specifier_count (tree_world (reading_of t))) (is_ragged (value_of_bytes rest)) (quads_of rest) ≡ refused e
    → AreExtended t p i rest → IsSent (tree_world (reading_of t)) p i (refused e)
extended_refused t p i rest e first left = at_once (tree_world (reading_of t)) p i _ _ (ap sent_first first) (left 0)

-- the entries behind one that isn't read are refused as it is
pub extended_stays : (t : PlacedTree) (p : Path) (i : ℕ) (rest : List ℕ) (e : Fault) → first_entry (tree_world (reading_of t)) (specifier_count (tree_world (reading_of t))) (is_ragged (value_of_bytes rest)) (quads_of rest) ≡ refused e
    → AreExtended t p i rest → AreExtended t p (i + 1) rest
extended_stays t p i rest e first left k =
    let w = tree_world (reading_of t) in
    one_later w p i k _ _
    (ap (λ (x : Answer Entry). x >>= λ y. entry_sent w (specifier_count w) (is_ragged (value_of_bytes rest)) k y.rest) first ∙ sym (so k))
    (left (suc k))
  where
    so : (k : ℕ) → entry_sent (tree_world (reading_of t)) (specifier_count (tree_world (reading_of t))) (is_ragged (value_of_bytes rest)) k (quads_of rest) ≡ refused e
    so zero = ap sent_first first
    so (suc k) = ap (λ (x : Answer Entry). x >>= λ y. entry_sent (tree_world (reading_of t)) (specifier_count (tree_world (reading_of t))) (is_ragged (value_of_bytes rest)) k y.rest) first

-- ---- of `interrupts`

abbrev as_sent : Path → Answer (List Quad) → Answer Sent
as_sent q x = x >>= λ e. answer (record { node = q; specifier = e })

pub listed_none : (t : PlacedTree) (p : Path) (i k : ℕ) (r : ListLeft) → AreListed t p i r → r.count ≤ k → IsSent (tree_world (reading_of t)) p (i + k) (refuse NoInterrupts)
listed_none t p i k r left past =
    subst (IsSent (tree_world (reading_of t)) p (i + k)) (ap (as_sent (path_at t r.parent)) (entry_past NoInterrupts k r.count r.cells (quads_of r.bytes) past)) (left.left k)

pub listed_one : (t : PlacedTree) (p : Path) (i k : ℕ) (r : ListLeft) (specifier : List Quad) → AreListed t p i r → k < r.count → specifier ≡ take r.cells (drop (k * r.cells) (quads_of r.bytes))
    → IsSent (tree_world (reading_of t)) p (i + k) (answer (record { node = path_at t r.parent; specifier = specifier }))
listed_one t p i k r specifier left lt is =
    subst (IsSent (tree_world (reading_of t)) p (i + k)) (ap (as_sent (path_at t r.parent)) (entry_there NoInterrupts k r.count r.cells (quads_of r.bytes) lt) ∙ ap (λ e. answer (record { node = path_at t r.parent; specifier = e })) (sym is)) (left.left k)

pub listed_later : (t : PlacedTree) (p : Path) (i n : ℕ) (r new : ListLeft) → AreListed t p i r → r.count ≡ suc n → new.parent ≡ r.parent → new.cells ≡ r.cells → new.count ≡ n → length new.bytes ≡ length r.bytes - 4 * r.cells
    → quads_of new.bytes ≡ drop r.cells (quads_of r.bytes) → AreListed t p (i + 1) new
listed_later t p i n r new left count parent cells fewer shorter rest = record {
  parent = subst (IsNode t) (sym parent) left.parent;
  some = subst (λ c. 1 ≤ c) (sym cells) left.some;
  few = subst (λ c. c ≤ 8) (sym cells) left.few;
  long = subst (λ c. length new.bytes ≡ new.count * (4 * c)) (sym cells) long;
  left = λ k. one_later (tree_world (reading_of t)) p i k _ _
      (ap (λ m. entry_listed (path_at t r.parent) (suc k) m r.cells (quads_of r.bytes)) count
      ∙ ap (λ c. entry_listed (path_at t r.parent) k n r.cells c) (sym rest)
      ∙ (λ j. entry_listed (path_at t (parent' j)) k (fewer' j) (cells' j) (quads_of new.bytes)))
      (left.left (suc k));
}
  where
    fewer' : n ≡ new.count
    fewer' = sym fewer

    parent' : r.parent ≡ new.parent
    parent' = sym parent

    cells' : r.cells ≡ new.cells
    cells' = sym cells

    long : length new.bytes ≡ new.count * (4 * r.cells)
    long =
        let product : suc n * (4 * r.cells) ≡ n * (4 * r.cells) + 4 * r.cells = grind arith in
        let all : length r.bytes ≡ n * (4 * r.cells) + 4 * r.cells = left.long ∙ ap (λ m. m * (4 * r.cells)) count ∙ product in
        let same : n * (4 * r.cells) ≡ new.count * (4 * r.cells) = ap (λ m. m * (4 * r.cells)) fewer' in
        omega arith
