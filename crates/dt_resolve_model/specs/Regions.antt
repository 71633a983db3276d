-- Addresses of a node as the root's bus has them (Devicetree Specification v0.4, 2.3.5, 2.3.6 and 2.3.8).
use Rattle.std.specs.Prelude.{ℕ, zero, suc, ◌+◌, ◌-◌, ◌*◌, ◌/◌, ◌%◌, ◌^◌, Bool, true, false, not, ◌&&◌, ◌||◌, ◌==◌, nat_le, nat_lt, List, [], ◌∷◌, ◌++◌, take, drop, codes, Option, Some, None, if◌then◌else◌}
use Rattle.dt_names.specs.declared.fault.FaultKind.{FaultKind}
use Rattle.dt_names.specs.declared.fault.FaultKind.TheVariants.{NoReg, BadCells, NotMapped, NoRanges, PciBus, Overflow}
use Rattle.dt_resolve_model.specs.declared.regions.BusCells.{BusCells}
use Rattle.dt_resolve_model.specs.declared.regions.BusAddress.{BusAddress}
use Rattle.dt_resolve_model.specs.declared.regions.Region.{Region}
use Rattle.dt_resolve_model.specs.declared.regions.RangeCells.{RangeCells}
use Rattle.dt_model.specs.Names.{Name}
use Rattle.dt_model.specs.Path.{Path}
use Rattle.dt_resolve_model.specs.Above.{front}
use Rattle.dt_resolve_model.specs.Answers.{Answer, undetermined, answer, refuse, ◌>>=◌}
use Rattle.dt_resolve_model.specs.World.{Quad, figure, pointer, torn, Value, World}

-- a cell used as a number
abbrev pub figure_of : Quad → Answer ℕ
figure_of (figure n) = answer n
figure_of (pointer p) = undetermined
figure_of torn = undetermined

-- a number with cells behind it, as one big-endian number
abbrev pub joined_to : ℕ → List Quad → Answer ℕ
joined_to n [] = answer n
joined_to n (cell ∷ cells) = figure_of cell >>= λ k. joined_to (n * 2 ^ 32 + k) cells

-- cells as one big-endian number; no cells are 0
abbrev pub joined : List Quad → Answer ℕ
joined cells = joined_to 0 cells

-- so many cells behind so many others
abbrev pub cells_at : ℕ → ℕ → List Quad → List Quad
cells_at from n cells = take n (drop from cells)

-- the first cell
abbrev pub first_cell : List Quad → Answer Quad
first_cell [] = refuse BadCells
first_cell (cell ∷ cells) = answer cell

-- the cell of a value of four bytes
abbrev pub only_cell : Value → Answer Quad
only_cell v = if v.size == 4 then first_cell v.cells else refuse BadCells

-- that cell as a number
abbrev pub only_number : Value → Answer ℕ
only_number v = only_cell v >>= figure_of

-- a count of cells: at most four, with the number of an absent one (2.3.5)
abbrev pub few : ℕ → Answer ℕ
few n = if nat_le n 4 then answer n else refuse BadCells

-- the count that a bus writes, or the one of an absent one
abbrev pub count_of : ℕ → Option Value → Answer ℕ
count_of default None = answer default
count_of default (Some v) = only_number v >>= few

abbrev pub address_count : World → Path → ℕ → Answer ℕ
address_count w bus default = w.value bus (codes "#address-cells") >>= count_of default

abbrev pub size_count : World → Path → Answer ℕ
size_count w bus = w.value bus (codes "#size-cells") >>= count_of 1

-- the cells of an address and of a size on a bus; they aren't inherited (2.3.5)
abbrev pub bus_cells : World → Path → Answer BusCells
bus_cells w bus = address_count w bus 2 >>= λ a. size_count w bus >>= λ s. answer (record { address = a; size = s })

-- a value is the text `pci` with its NUL, which is one cell
abbrev pub is_pci_text : Option Value → Answer Bool
is_pci_text None = answer false
is_pci_text (Some v) = if v.size == 4 then (first_cell v.cells >>= figure_of >>= λ n. answer (n == 0x70636900)) else answer false

-- whether a bus says that it is one of PCI, whose addresses need rules of their own
abbrev pub is_pci : World → Path → Answer Bool
is_pci w bus = w.value bus (codes "device_type") >>= is_pci_text

-- cells cut into a number of entries of a width
abbrev pub entries : ℕ → ℕ → List Quad → List (List Quad)
entries zero width cells = []
entries (suc n) width cells = take width cells ∷ entries n width (drop width cells)

-- the entries of a value whose length is a multiple of an entry's, which has cells
abbrev pub entries_of : ℕ → Value → Answer (List (List Quad))
entries_of width v = if (width == 0) || not (v.size % (4 * width) == 0) then refuse BadCells else answer (entries (v.size / (4 * width)) width v.cells)

-- the first range that holds an address maps it by its distance from the range's begin (2.3.8)
abbrev pub mapped_by : RangeCells → ℕ → BusAddress → List (List Quad) → Answer BusAddress
mapped_by widths size at [] = refuse NotMapped
mapped_by widths size at (range ∷ ranges) =
    joined (cells_at 0 widths.child range) >>= λ child.
    joined (cells_at (widths.child + widths.above) widths.length range) >>= λ len.
    if nat_le child at.address && nat_lt (at.address - child) len
    then (joined (cells_at widths.child widths.above range)
    >>= λ above. answer (record { address = above + (at.address - child); whole = at.whole && nat_le size (len - (at.address - child)) }))
    else mapped_by widths size at ranges

-- an empty `ranges` maps each address to itself (2.3.8)
abbrev pub mapped : RangeCells → ℕ → BusAddress → Value → Answer BusAddress
mapped widths size at v = if v.size == 0 then answer at else (entries_of (widths.child + widths.above + widths.length) v >>= mapped_by widths size at)

-- an address that the bus above has cells for
abbrev pub fitting : ℕ → BusAddress → Answer BusAddress
fitting cells at = if nat_lt at.address (2 ^ (32 * cells)) then answer at else refuse Overflow

-- the same of what a rule answers
abbrev pub fitted : ℕ → Answer BusAddress → Answer BusAddress
fitted cells at = at >>= fitting cells

-- an address of a bus, as an address of the bus above, by the value that the property has
abbrev pub by_ranges : World → Path → Path → ℕ → BusAddress → Option Value → Answer BusAddress
by_ranges w above bus size at None = refuse NoRanges
by_ranges w above bus size at (Some v) =
    bus_cells w bus >>= λ own.
    bus_cells w above >>= λ up.
    fitted up.address (mapped (record { child = own.address; above = up.address; length = own.size }) size at v)

-- what comes next, unless a bus is one of PCI
abbrev pub unless_pci : {A : Type 0} → World → Path → Answer A → Answer A
unless_pci w bus rest = is_pci w bus >>= λ pci. if pci then refuse PciBus else rest

-- an address of a bus, as an address of the bus above, by the property of this name: `ranges`, or another that is read like it
abbrev pub risen : World → Name → Path → Path → ℕ → BusAddress → Answer BusAddress
risen w ranges above bus size at = unless_pci w bus (w.value bus ranges >>= by_ranges w above bus size at)

-- an address of the bus `names` below `above`, as an address of `above`
abbrev pub translated : World → Name → Path → List Name → ℕ → BusAddress → Answer BusAddress
translated w ranges above [] size at = answer at
translated w ranges above (n ∷ names) size at = translated w ranges (above ++ n ∷ []) names size at >>= risen w ranges above (above ++ n ∷ []) size

-- the region of a size at an address of the root's bus
abbrev pub finished : World → ℕ → Answer BusAddress → Answer Region
finished w size at = at >>= λ place. unless_pci w [] (answer (record { address = place.address; size = size; whole = place.whole }))

-- the region of an address and a size on a bus
abbrev pub region_at : World → Name → Path → ℕ → ℕ → Answer Region
region_at w ranges bus address size = finished w size (translated w ranges [] bus size (record { address = address; whole = true }))

-- the entry that an index names, or this fault past the last one
abbrev pub entry_at : FaultKind → ℕ → List (List Quad) → Answer (List Quad)
entry_at kind i [] = refuse kind
entry_at kind zero (e ∷ es) = answer e
entry_at kind (suc i) (e ∷ es) = entry_at kind i es

-- the region of an entry of the value that `reg` has, by the cells of the node's bus (2.3.6)
abbrev pub listed : World → Path → ℕ → Option Value → Answer Region
listed w bus index None = refuse NoReg
listed w bus index (Some v) =
    bus_cells w bus >>= λ own.
    entries_of (own.address + own.size) v >>= entry_at NoReg index >>= λ e.
    joined (cells_at 0 own.address e) >>= λ address.
    joined (cells_at own.address own.size e) >>= λ size.
    region_at w (codes "ranges") bus address size

-- the region that an entry of a node's `reg` is
abbrev pub region : World → Path → ℕ → Answer Region
region w [] index = refuse NoReg
region w (n ∷ names) index = w.value (n ∷ names) (codes "reg") >>= listed w (front (n ∷ names)) index

-- ---- DMA

-- what a device puts on its bus, as an address of the root's bus, by the cells of the bus
abbrev pub sent : World → Path → ℕ → ℕ → BusCells → Answer Region
sent w bus address size own = fitting own.address (record { address = address; whole = true }) >>= λ at. region_at w (codes "dma-ranges") bus at.address size

-- the region that a device reaches by DMA at an address and a size on its bus (2.3.9)
abbrev pub dma_region : World → Path → ℕ → ℕ → Answer Region
dma_region w [] address size = refuse NoReg
dma_region w (n ∷ names) address size = bus_cells w (front (n ∷ names)) >>= sent w (front (n ∷ names)) address size
