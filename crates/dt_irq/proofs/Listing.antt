-- Lists of phandles with specifiers, entry by entry, and rows of maps.
use Rattle.std.proofs.Common.{◌≡◌, ◌≢◌, ℕ, suc, ◌+◌, ◌*◌, ◌/◌, ◌%◌, ◌<◌, ◌≤◌, Bool, true, false, not, ◌||◌, ◌==◌, List, [], ◌∷◌, take, drop, length, refl, sym, ap, ◌∙◌, inl, inr, ◌⊎◌, arith}
use Rattle.std.specs.Prelude.{if◌then◌else◌}
use Rattle.std.proofs.lemmas.Bool.{le-ltb, lt-ltb}
use Rattle.dt_model.specs.Path.{Path}
use Rattle.dt_names.specs.declared.fault.Fault.{Fault}
use Rattle.dt_names.specs.declared.fault.FaultKind.TheVariants.{BadCells, BadMap, NoInterrupts}
use Rattle.dt_resolve_model.specs.Answers.{Answer, refused, refuse, answer, ◌>>=◌}
use Rattle.dt_resolve_model.specs.World.{Quad, quads_of, Value, World}
use Rattle.dt_resolve_model.specs.Regions.{entries, entries_of, entry_at}
use Rattle.dt_resolve_model.proofs.Entries.{eq_false, entries_whole}
use Rattle.dt_resolve_model.proofs.QuadsOfBytes.{quad_count}
use Rattle.std.proofs.lemmas.List.{length-drop}
use Rattle.dt_resolve_model.specs.Interrupts.{Sent, Entry, entry_of, first_entry, entry_sent, cells_from, listed_at, specifier_count, RowCells, MapRow, map_row_of, map_row}

-- an entry whose phandle and count were read
read_entry : (w : World) (count : Path → Answer ℕ) (ragged : Bool) (list : List Quad) (cell : Quad) (cells : List Quad) (q : Path) (n : ℕ) → list ≡ cell ∷ cells → w.node cell ≡ answer q → count q ≡ answer n
    → first_entry w count ragged list ≡ entry_of cells q n
read_entry w count ragged list cell cells q n e node few =
    ap (first_entry w count ragged) e
    ∙ ap (λ (x : Answer Path). x >>= λ p. count p >>= entry_of cells p) node
    ∙ ap (λ (x : Answer ℕ). x >>= entry_of cells q) few

pub entry_is_cut : (w : World) (count : Path → Answer ℕ) (ragged : Bool) (list : List Quad) (cell : Quad) (cells : List Quad) (q : Path) (n : ℕ) → list ≡ cell ∷ cells → w.node cell ≡ answer q → count q ≡ answer n
    → length cells < n → first_entry w count ragged list ≡ refuse BadCells
entry_is_cut w count ragged list cell cells q n e node few lt = read_entry w count ragged list cell cells q n e node few ∙ (rw (lt-ltb (length cells) n lt) refl)

pub entry_is : (w : World) (count : Path → Answer ℕ) (ragged : Bool) (list : List Quad) (cell : Quad) (cells : List Quad) (q : Path) (n : ℕ) → list ≡ cell ∷ cells → w.node cell ≡ answer q → count q ≡ answer n
    → n ≤ length cells → first_entry w count ragged list ≡ answer (record { sent = record { node = q; specifier = take n cells }; rest = drop n cells })
entry_is w count ragged list cell cells q n e node few le = read_entry w count ragged list cell cells q n e node few ∙ (rw (le-ltb (length cells) n le) refl)

-- ---- rows

pub row_is_short : (w : World) (widths : Path → Answer RowCells) (width : ℕ) (cells : List Quad) → drop width cells ≡ [] → map_row w widths width cells ≡ refuse BadMap
row_is_short w widths width cells none = rw none refl

read_row : (w : World) (widths : Path → Answer RowCells) (width : ℕ) (cells : List Quad) (cell : Quad) (behind : List Quad) (q : Path) (own : RowCells) → drop width cells ≡ cell ∷ behind → w.node cell ≡ answer q → widths q ≡ answer own
    → map_row w widths width cells ≡ map_row_of (take width cells) behind q own
read_row w widths width cells cell behind q own e node are =
    let more : List Quad → Path → Answer MapRow = λ rest p. widths p >>= map_row_of (take width cells) rest p in
    rw e (ap (λ (x : Answer Path). x >>= more behind) node ∙ ap (λ (x : Answer RowCells). x >>= map_row_of (take width cells) behind q) are)

pub row_is_cut : (w : World) (widths : Path → Answer RowCells) (width : ℕ) (cells : List Quad) (cell : Quad) (behind : List Quad) (q : Path) (own : RowCells) → drop width cells ≡ cell ∷ behind → w.node cell ≡ answer q → widths q ≡ answer own
    → length behind < own.address + own.specifier → map_row w widths width cells ≡ refuse BadMap
row_is_cut w widths width cells cell behind q own e node are lt = read_row w widths width cells cell behind q own e node are ∙ (rw (lt-ltb (length behind) (own.address + own.specifier) lt) refl)

pub row_is : (w : World) (widths : Path → Answer RowCells) (width : ℕ) (cells : List Quad) (cell : Quad) (behind : List Quad) (q : Path) (own : RowCells) → drop width cells ≡ cell ∷ behind → w.node cell ≡ answer q → widths q ≡ answer own
    → own.address + own.specifier ≤ length behind → length (take width cells) ≡ width
    → map_row w widths width cells
    ≡ answer (record { compared = take width cells; parent = q; unit = take own.address behind; specifier = take own.specifier (drop own.address behind); size = width + 1 + own.address + own.specifier })
row_is w widths width cells cell behind q own e node are le long =
    read_row w widths width cells cell behind q own e node are
    ∙ (rw (le-ltb (length behind) (own.address + own.specifier) le)
    (ap (λ n. answer (record { compared = take width cells; parent = q; unit = take own.address behind; specifier = take own.specifier (drop own.address behind); size = n })) (ap (λ n. n + 1 + (own.address + own.specifier)) long ∙ regroup)))
  where
    regroup : width + 1 + (own.address + own.specifier) ≡ width + 1 + own.address + own.specifier
    regroup = omega arith

pub no_cells : (cells : List Quad) → length cells ≡ 0 → cells ≡ []
no_cells [] none = refl
no_cells (cell ∷ cells) none = absurd (omega arith)

-- ---- an entry by its byte

-- no cell begins at the byte
pub no_cell_at : (list : List ℕ) (at : ℕ) → (at % 4 ≢ 0) ⊎ (length list / 4 ≤ at / 4) → drop (length list / 4) (quads_of list) ≡ cells_from at (quads_of list)
no_cell_at list at why = behind (length list / 4) (omega arith) ∙ sym (by why)
  where
    behind : (n : ℕ) → length list / 4 ≤ n → drop n (quads_of list) ≡ []
    behind n past = no_cells (drop n (quads_of list)) (let left = length-drop n (quads_of list) in let all = quad_count list in omega (arith, left, all, past))

    by : (at % 4 ≢ 0) ⊎ (length list / 4 ≤ at / 4) → cells_from at (quads_of list) ≡ []
    by (inl odd) = rw (eq_false (at % 4) 0 odd) refl
    by (inr past) = step (at % 4 == 0)
      where
        step : (t : Bool) → (if t then drop (at / 4) (quads_of list) else []) ≡ []
        step true = behind (at / 4) past
        step false = refl

-- ---- an entry by its index

abbrev pub sent_first : Answer Entry → Answer Sent
sent_first x = x >>= λ e. answer e.sent

pub sent_now : (w : World) (count : Path → Answer ℕ) (ragged : Bool) (i : ℕ) (cells : List Quad) → i ≡ 0 → entry_sent w count ragged i cells ≡ sent_first (first_entry w count ragged cells)
sent_now w count ragged i cells none = ap (λ n. entry_sent w count ragged n cells) none

pub sent_later : (w : World) (count : Path → Answer ℕ) (ragged : Bool) (i j : ℕ) (cells : List Quad) → i ≡ suc j → entry_sent w count ragged i cells ≡ (first_entry w count ragged cells >>= λ e. entry_sent w count ragged j e.rest)
sent_later w count ragged i j cells more = ap (λ n. entry_sent w count ragged n cells) more

-- ---- an entry of `interrupts`

pub read_listed : (w : World) (i : ℕ) (v : Value) (q : Path) (n : ℕ) → specifier_count w q ≡ answer n → n ≢ 0 → v.size % (4 * n) ≡ 0
    → listed_at w i v q ≡ (entry_at NoInterrupts i (entries (v.size / (4 * n)) n v.cells) >>= λ e. answer (let s : Sent = record { node = q; specifier = e } in s))
read_listed w i v q n count some even =
    ap (λ (x : Answer ℕ). x >>= λ k. entries_of k v >>= entry_at NoInterrupts i >>= λ e. answer (let s : Sent = record { node = q; specifier = e } in s)) count
    ∙ ap (λ (x : Answer (List (List Quad))). x >>= entry_at NoInterrupts i >>= λ e. answer (let s : Sent = record { node = q; specifier = e } in s)) (entries_whole n v some even)

pub no_count : (w : World) (i : ℕ) (v : Value) (q : Path) (e : Fault) → specifier_count w q ≡ refused e → listed_at w i v q ≡ refused e
no_count w i v q e count = ap (λ (x : Answer ℕ). x >>= λ k. entries_of k v >>= entry_at NoInterrupts i >>= λ e. answer (let s : Sent = record { node = q; specifier = e } in s)) count

pub listed_is_cut : (w : World) (i : ℕ) (v : Value) (q : Path) (n : ℕ) → specifier_count w q ≡ answer n → v.size % (4 * n) ≢ 0 → listed_at w i v q ≡ refuse BadCells
listed_is_cut w i v q n count cut =
    ap (λ (x : Answer ℕ). x >>= λ k. entries_of k v >>= entry_at NoInterrupts i >>= λ e. answer (let s : Sent = record { node = q; specifier = e } in s)) count
    ∙ ap (λ b. (if (n == 0) || not b then refuse BadCells else answer (entries (v.size / (4 * n)) n v.cells)) >>= entry_at NoInterrupts i >>= λ e. answer (let s : Sent = record { node = q; specifier = e } in s)) (eq_false (v.size % (4 * n)) 0 cut)
    ∙ by (n == 0)
  where
    by : (b : Bool) → ((if b || true then refuse BadCells else answer (entries (v.size / (4 * n)) n v.cells)) >>= entry_at NoInterrupts i >>= λ e. answer (let s : Sent = record { node = q; specifier = e } in s)) ≡ refuse BadCells
    by true = refl
    by false = refl
