-- Routes of interrupts to their controllers (Devicetree Specification v0.4, 2.4).
use Rattle.std.specs.Prelude.{◌≡◌, ℕ, zero, suc, ◌+◌, ◌-◌, ◌*◌, ◌/◌, ◌%◌, Bool, true, false, not, ◌&&◌, ◌==◌, ◌⊎◌, nat_le, nat_lt, List, [], ◌∷◌, ◌++◌, length, take, drop, codes, Option, Some, None, is_some, if◌then◌else◌}
use Rattle.std.specs.Int.Bits.{bit_and}
use Rattle.dt_names.specs.declared.fault.FaultKind.TheVariants.{BadCells, NoInterrupts, NoParent, Loop, BadMap, NoMapEntry, NoUnitAddress}
use Rattle.dt_model.specs.Names.{Name}
use Rattle.dt_model.specs.Path.{Path}
use Rattle.dt_resolve_model.specs.Above.{parent_of}
use Rattle.dt_resolve_model.specs.Answers.{Answer, undetermined, refused, answer, refuse, ◌>>=◌}
use Rattle.dt_resolve_model.specs.World.{Quad, Value, World}
use Rattle.dt_resolve_model.specs.Regions.{figure_of, only_cell, address_count, entries_of, entry_at}

-- the node one step nearer to the interrupt parent: the one that `interrupt-parent` names, else the one above (2.4.1)
abbrev pub step_by : World → Path → Option Value → Answer (Option Path)
step_by w p None = answer (parent_of p)
step_by w p (Some v) = only_cell v >>= w.node >>= λ q. answer (Some q)

-- the same of a node
abbrev pub step_of : World → Path → Answer (Option Path)
step_of w p = w.value p (codes "interrupt-parent") >>= step_by w p

-- where one step leads: nowhere, to a node with `#interrupt-cells`, or to another node
pub data Lead : Type 0 where
  nowhere : Lead
  arrived : Path → Lead
  onward : Path → Lead

-- where it leads
abbrev pub step_to : World → Option Path → Answer Lead
step_to w None = answer nowhere
step_to w (Some q) = w.value q (codes "#interrupt-cells") >>= λ v. answer (if is_some v then arrived q else onward q)

abbrev pub steps_from : World → Path → Answer Lead
steps_from w p = step_of w p >>= step_to w

-- what a step ends with, or what comes of the steps after it
abbrev pub after_step : (Path → Option (Answer Path)) → Answer Lead → Option (Answer Path)
after_step more undetermined = Some undetermined
after_step more (refused fault) = Some (refused fault)
after_step more (answer nowhere) = Some (refuse NoParent)
after_step more (answer (arrived q)) = Some (answer q)
after_step more (answer (onward q)) = more q

-- what a number of steps ends with, where it ends
abbrev pub ended : World → ℕ → Path → Option (Answer Path)
ended w zero p = None
ended w (suc n) p = after_step (ended w n) (steps_from w p)

-- the interrupt parent of a node: what some number of steps ends with, or a loop where no number of steps ends
abbrev pub IsInterruptParent : World → Path → Answer Path → Type 0
IsInterruptParent w p r = ((n : ℕ) × (ended w n p ≡ Some r)) ⊎ ((r ≡ refuse Loop) × ((n : ℕ) → ended w n p ≡ None))

-- the number of cells of a specifier: this many at least, and eight at most (that it is eight is this project's choice)
abbrev pub specifier_size : ℕ → ℕ → Answer ℕ
specifier_size least n = if nat_le least n && nat_le n 8 then answer n else refuse BadCells

-- the number that a value holds, which has to be there
abbrev pub size_told : ℕ → Option Value → Answer ℕ
size_told least None = refuse BadCells
size_told least (Some v) = only_cell v >>= figure_of >>= specifier_size least

-- the number that a node has in a property
abbrev pub size_at : ℕ → Name → World → Path → Answer ℕ
size_at least name w p = w.value p name >>= size_told least

-- the number of cells of an interrupt's specifier at a node, by `#interrupt-cells`: one at least (2.4.1.2)
abbrev pub specifier_count : World → Path → Answer ℕ
specifier_count = size_at 1 (codes "#interrupt-cells")

-- a specifier at a node
pub record Sent : Type 0 where
  pub node : Path
  pub specifier : List Quad

-- an entry of a list of phandles with specifiers, with the cells behind it
pub record Entry : Type 0 where
  pub sent : Sent
  pub rest : List Quad

-- what an entry is, once its phandle was read
abbrev pub entry_of : List Quad → Path → ℕ → Answer Entry
entry_of cells q n = if nat_lt (length cells) n then refuse BadCells else answer
    (record { sent = record { node = q; specifier = take n cells }; rest = drop n cells })

-- The first entry: a phandle, and as many cells as its node asks for, as `interrupts-extended` has them (2.4.1.4). The Bool says that bytes
-- are left behind the last whole cell.
abbrev pub first_entry : World → (Path → Answer ℕ) → Bool → List Quad → Answer Entry
first_entry w count ragged [] = refuse (if ragged then BadCells else NoInterrupts)
first_entry w count ragged (cell ∷ cells) = w.node cell >>= λ q. count q >>= entry_of cells q

-- the entry that an index names, those before it read in order
abbrev pub entry_sent : World → (Path → Answer ℕ) → Bool → ℕ → List Quad → Answer Sent
entry_sent w count ragged zero cells = first_entry w count ragged cells >>= λ x. answer x.sent
entry_sent w count ragged (suc i) cells = first_entry w count ragged cells >>= λ x. entry_sent w count ragged i x.rest

-- bytes are left behind the last whole cell
abbrev pub is_ragged : Value → Bool
is_ragged v = not (v.size % 4 == 0)

-- a list's cells from a byte on: none where no cell begins there
abbrev pub cells_from : ℕ → List Quad → List Quad
cells_from at cells = if at % 4 == 0 then drop (at / 4) cells else []

-- where the entry is sent that begins at a byte of a list, whatever is before it
abbrev pub sent_at : World → (Path → Answer ℕ) → ℕ → Value → Answer Sent
sent_at w count at v = first_entry w count (is_ragged v) (cells_from at v.cells) >>= λ x. answer x.sent

-- the cells behind so many entries of a list, which are read in order
abbrev pub cells_behind : World → (Path → Answer ℕ) → Bool → ℕ → List Quad → Answer (List Quad)
cells_behind w count ragged zero cells = answer cells
cells_behind w count ragged (suc i) cells = first_entry w count ragged cells >>= λ x. cells_behind w count ragged i x.rest

-- the byte of a list at which the entry begins that an index names: all cells that are left from there on are behind the entries before it
pub record IsBeginning (w : World) (count : Path → Answer ℕ) (v : Value) (index at : ℕ) : Type 0 where
  pub left : List Quad
  pub behind : cells_behind w count (is_ragged v) index v.cells ≡ answer left
  pub place : at + 4 * length left ≡ 4 * length v.cells

-- an entry of `interrupts`, at the interrupt parent (2.4.1.1)
abbrev pub listed_at : World → ℕ → Value → Path → Answer Sent
listed_at w index v q = specifier_count w q >>= λ n. entries_of n v >>= entry_at NoInterrupts index >>= λ e. answer (record { node = q; specifier = e })

-- where the interrupt of a node that an index names is sent first, by the values of its `interrupts-extended` and `interrupts`
abbrev pub IsSentBy : World → Path → ℕ → Answer (Option Value) → Answer (Option Value) → Answer Sent → Type 0
IsSentBy w p index undetermined plain r = r ≡ undetermined
IsSentBy w p index (refused fault) plain r = r ≡ refused fault
IsSentBy w p index (answer (Some v)) plain r = r ≡ entry_sent w (specifier_count w) (is_ragged v) index v.cells
IsSentBy w p index (answer None) undetermined r = r ≡ undetermined
IsSentBy w p index (answer None) (refused fault) r = r ≡ refused fault
IsSentBy w p index (answer None) (answer None) r = r ≡ refuse NoInterrupts
IsSentBy w p index (answer None) (answer (Some v)) r = (q : Answer Path) × IsInterruptParent w p q × (r ≡ (q >>= listed_at w index v))

-- by those that it has
abbrev pub IsSent : World → Path → ℕ → Answer Sent → Type 0
IsSent w p index r = IsSentBy w p index (w.value p (codes "interrupts-extended")) (w.value p (codes "interrupts")) r

-- an interrupt on its way: the node that it has come to, the unit address and the specifier there
pub record Interrupt : Type 0 where
  pub node : Path
  pub unit : List Quad
  pub specifier : List Quad

-- the cells that a map's row has of its parent's address and specifier
pub record RowCells : Type 0 where
  pub address : ℕ
  pub specifier : ℕ

-- the parts of a map's row: what is compared, and where it leads
pub record MapRow : Type 0 where
  pub compared : List Quad
  pub parent : Path
  pub unit : List Quad
  pub specifier : List Quad
  pub size : ℕ

-- a row whose first cells are compared, behind them a phandle and the parent's address and specifier
abbrev pub map_row_of : List Quad → List Quad → Path → RowCells → Answer MapRow
map_row_of compared cells q widths =
    if nat_lt (length cells) (widths.address + widths.specifier) then refuse BadMap
    else answer (record {
      compared = compared;
      parent = q;
      unit = take widths.address cells;
      specifier = take widths.specifier (drop widths.address cells);
      size = length compared + 1 + (widths.address + widths.specifier);
    })

-- a row, once what is compared was read
abbrev pub map_row_at_parent : World → (Path → Answer RowCells) → List Quad → List Quad → Answer MapRow
map_row_at_parent w widths compared [] = refuse BadMap
map_row_at_parent w widths compared (cell ∷ cells) = w.node cell >>= λ q. widths q >>= map_row_of compared cells q

-- the row that some cells begin with
abbrev pub map_row : World → (Path → Answer RowCells) → ℕ → List Quad → Answer MapRow
map_row w widths width cells = map_row_at_parent w widths (take width cells) (drop width cells)

-- those of an interrupt map: an absent `#address-cells` of the parent is 0 (2.4.3.1; that it is 0 is this project's choice)
abbrev pub interrupt_row_cells : World → Path → Answer RowCells
interrupt_row_cells w q = address_count w q 0 >>= λ a. specifier_count w q >>= λ s. answer (record { address = a; specifier = s })

-- cells as numbers
abbrev pub as_numbers : List Quad → Answer (List ℕ)
as_numbers [] = answer []
as_numbers (cell ∷ cells) = figure_of cell >>= λ n. as_numbers cells >>= λ ns. answer (n ∷ ns)

-- numbers that are equal in the bits of a mask; no mask is all ones
abbrev pub equal_under : List ℕ → List ℕ → List ℕ → Bool
equal_under [] [] mask = true
equal_under [] (y ∷ ys) mask = false
equal_under (x ∷ xs) [] mask = false
equal_under (x ∷ xs) (y ∷ ys) [] = (x == y) && equal_under xs ys []
equal_under (x ∷ xs) (y ∷ ys) (m ∷ mask) = (bit_and x m == bit_and y m) && equal_under xs ys mask

-- whether cells are equal under a mask, all of them used as numbers, whatever the mask
abbrev pub matches : List Quad → List Quad → List Quad → Answer Bool
matches compared key mask = as_numbers compared >>= λ xs. as_numbers key >>= λ ys. as_numbers mask >>= λ ms. answer (equal_under xs ys ms)

-- the first row that is equal to the key under the mask; the number is that of cells that are left of a row before it
abbrev pub first_match : World → (Path → Answer RowCells) → Bool → ℕ → List Quad → List Quad → ℕ → List Quad → Answer MapRow
first_match w widths ragged width key mask skipped [] = refuse (if ragged then BadMap else NoMapEntry)
first_match w widths ragged width key mask zero (cell ∷ cells) =
    map_row w widths width (cell ∷ cells) >>= λ r.
    matches r.compared key mask >>= λ same.
    if same then answer r else first_match w widths ragged width key mask (r.size - 1) cells
first_match w widths ragged width key mask (suc n) (cell ∷ cells) = first_match w widths ragged width key mask n cells

-- a mask has the cells of the key
abbrev pub mask_of : ℕ → Option Value → Answer (List Quad)
mask_of width None = answer []
mask_of width (Some v) = if v.size == 4 * width then answer v.cells else refuse BadMap

-- where the first row leads whose address and specifier, of n and k cells, are those at hand under the mask (2.4.3.1)
abbrev pub led : World → Path → List Quad → List Quad → Value → ℕ → ℕ → Answer Interrupt
led w nexus unit specifier v n k =
    w.value nexus (codes "interrupt-map-mask") >>= mask_of (n + k) >>= λ mask.
    first_match w (interrupt_row_cells w) (is_ragged v) (n + k) (take n unit ++ specifier) mask 0 v.cells >>= λ r.
    answer (record { node = r.parent; unit = r.unit; specifier = r.specifier })

-- a hop by the map of the node that an interrupt has come to
abbrev pub hop : World → Interrupt → Value → Answer Interrupt
hop w at v =
    address_count w at.node 2 >>= λ n.
    specifier_count w at.node >>= λ k.
    if nat_lt (length at.unit) n then refuse NoUnitAddress else led w at.node at.unit at.specifier v n k

-- the controller to which an interrupt comes, with the specifier there, and how many maps it went through
pub record Route : Type 0 where
  pub controller : Path
  pub cells : List ℕ
  pub hops : ℕ

-- at a controller the route ends, else it goes on through a map
abbrev pub at_node : (Value → Answer Route) → ℕ → Interrupt → Option Value → Option Value → Answer Route
at_node through hops at (Some c) map = as_numbers at.specifier >>= λ ns. answer (record { controller = at.node; cells = ns; hops = hops })
at_node through hops at None None = refuse BadMap
at_node through hops at None (Some v) = through v

-- what comes of an interrupt where it has come to
abbrev pub arrival : World → (Value → Answer Route) → ℕ → Interrupt → Answer Route
arrival w through hops at = w.value at.node (codes "interrupt-controller") >>= λ c. w.value at.node (codes "interrupt-map") >>= at_node through hops at c

-- the route after some hops, with at most this number of hops left
unfoldable pub routed : World → ℕ → ℕ → Interrupt → Answer Route
routed w zero hops at = arrival w (λ v. refuse Loop) hops at
routed w (suc left) hops at = arrival w (λ v. hop w at v >>= routed w left (hops + 1)) hops at

-- the cells of a node's `reg`, with no cells where it is absent
abbrev pub unit_of : Option Value → List Quad
unit_of None = []
unit_of (Some v) = v.cells

-- the most hops of a route
abbrev pub most_hops : ℕ
most_hops = 64

-- the route of an interrupt that a node sends
abbrev pub route_of_sent : World → Path → Sent → Answer Route
route_of_sent w p sent = w.value p (codes "reg") >>= λ v. routed w most_hops 0 (record { node = sent.node; unit = unit_of v; specifier = sent.specifier })

-- the route of the interrupt of a node that an index names
abbrev pub IsRoute : World → Path → ℕ → Answer Route → Type 0
IsRoute w p index r = (sent : Answer Sent) × IsSent w p index sent × (r ≡ (sent >>= route_of_sent w p))

-- where the interrupt is sent that begins at a byte of `interrupts-extended`; without it there is none
abbrev pub extended_at : World → ℕ → Option Value → Answer Sent
extended_at w at None = refuse NoInterrupts
extended_at w at (Some v) = sent_at w (specifier_count w) at v

-- the route of the interrupt of a node that begins at a byte of its `interrupts-extended`
abbrev pub interrupt_at : World → Path → ℕ → Answer Route
interrupt_at w p at = w.value p (codes "interrupts-extended") >>= extended_at w at >>= route_of_sent w p
