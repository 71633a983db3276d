-- The entries of a node that are left, as what they are sent to.
use Rattle.std.specs.Prelude.{◌≡◌, ◌+◌, ◌*◌, ◌≤◌, ℕ, List, length}
use Rattle.dt_model.specs.Path.{Path}
use Rattle.dt_names.specs.declared.fault.FaultKind.TheVariants.{NoInterrupts}
use Rattle.dt_trees.specs.Placed.{PlacedTree, path_at, IsNode}
use Rattle.dt_resolve_model.specs.Answers.{Answer, answer, ◌>>=◌}
use Rattle.dt_resolve_model.specs.World.{Quad, quads_of, value_of_bytes}
use Rattle.dt_resolve_model.specs.Regions.{entries, entry_at}
use Rattle.dt_resolve_model.specs.Interrupts.{Sent, specifier_count, is_ragged, entry_sent, listed_at, IsSent}
use Rattle.dt_irq.specs.declared.lists.Listed.{Listed}
use Rattle.dt_irq.specs.declared.lists.Entries.{Entries}
use Rattle.dt_irq.specs.declared.lists.Entries.TheVariants.{Extended, Plain}
use Rattle.dt_view.specs.Worlds.{world_of}

-- the entry of `interrupts` that an index names, where this many cells are at the interrupt parent
abbrev pub entry_listed : Path → ℕ → ℕ → ℕ → List Quad → Answer Sent
entry_listed q k count width cells = entry_at NoInterrupts k (entries count width cells) >>= λ e. answer (record { node = q; specifier = e })

-- the entries of `interrupts` that are left: the interrupt parent, the cells of an entry, how many they are, and their bytes
pub record ListLeft : Type 0 where
  pub parent : ℕ
  pub cells : ℕ
  pub count : ℕ
  pub bytes : List ℕ

abbrev pub list_left : Listed → ListLeft
list_left r = record { parent = r.parent; cells = r.cells; count = r.count; bytes = r.rest.now }

-- the entries of a node that are left: the bytes of `interrupts-extended`, or entries of `interrupts`
pub data EntriesLeft : Type 0 where
  extended : (bytes : List ℕ) → EntriesLeft
  plain : ListLeft → EntriesLeft

abbrev pub entries_left : Entries → EntriesLeft
entries_left (Extended rest) = extended rest.now
entries_left (Plain r) = plain (list_left r)

-- the entries are those of a node's `interrupts` from an index on
pub record AreListed (t : PlacedTree) (p : Path) (i : ℕ) (r : ListLeft) : Type 0 where
  pub parent : IsNode t r.parent
  pub some : 1 ≤ r.cells
  pub few : r.cells ≤ 8
  pub long : length r.bytes ≡ r.count * (4 * r.cells)
  pub left : (k : ℕ) → IsSent (world_of t) p (i + k) (entry_listed (path_at t r.parent) k r.count r.cells (quads_of r.bytes))

-- they are all those of a list
pub record AreEntriesOf (t : PlacedTree) (list : List ℕ) (r : ListLeft) : Type 0 where
  pub some : 1 ≤ r.cells
  pub few : r.cells ≤ 8
  pub long : length r.bytes ≡ r.count * (4 * r.cells)
  pub is : (k : ℕ) → listed_at (world_of t) k (value_of_bytes list) (path_at t r.parent) ≡ entry_listed
      (path_at t r.parent) k r.count r.cells (quads_of r.bytes)

-- the bytes are those of its `interrupts-extended`
abbrev pub AreExtended : PlacedTree → Path → ℕ → List ℕ → Type 0
AreExtended t p i rest =
    (k : ℕ) → IsSent (world_of t) p (i + k) (entry_sent (world_of t) (specifier_count (world_of t)) (is_ragged (value_of_bytes rest)) k (quads_of rest))

abbrev pub AreSentFrom : PlacedTree → Path → ℕ → EntriesLeft → Type 0
AreSentFrom t p i (extended bytes) = AreExtended t p i bytes
AreSentFrom t p i (plain r) = AreListed t p i r

-- they are some node's
abbrev pub IsSentFrom : PlacedTree → EntriesLeft → Type 0
IsSentFrom t r = (p : Path) × (i : ℕ) × AreSentFrom t p i r

-- how many bytes are left
abbrev pub bytes_left : EntriesLeft → ℕ
bytes_left (extended bytes) = length bytes
bytes_left (plain r) = length r.bytes
