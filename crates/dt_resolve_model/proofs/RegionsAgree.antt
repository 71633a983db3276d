-- The region that a world determines is the one of each world that refines it.
use Rattle.std.proofs.Common.{ℕ, suc, zero, ◌+◌, ◌-◌, ◌*◌, ◌/◌, ◌%◌, ◌^◌, Bool, true, false, not, ◌&&◌, ◌||◌, ◌==◌, List, [], ◌∷◌, ◌++◌, drop, refl, sym, ap, subst, Option, Some, None}
use Rattle.std.specs.Prelude.{if◌then◌else◌, codes, nat_le, nat_lt}
use Rattle.dt_names.specs.declared.fault.FaultKind.{FaultKind}
use Rattle.dt_names.specs.declared.fault.FaultKind.TheVariants.{NoReg, BadCells, PciBus}
use Rattle.dt_resolve_model.specs.declared.regions.BusCells.{BusCells}
use Rattle.dt_resolve_model.specs.declared.regions.BusAddress.{BusAddress}
use Rattle.dt_resolve_model.specs.declared.regions.Region.{Region}
use Rattle.dt_resolve_model.specs.declared.regions.RangeCells.{RangeCells}
use Rattle.dt_model.specs.Names.{Name}
use Rattle.dt_model.specs.Path.{Path}
use Rattle.dt_resolve_model.specs.Above.{front}
use Rattle.dt_resolve_model.specs.Answers.{Answer, refuse, answer, ◌>>=◌, Agrees}
use Rattle.dt_resolve_model.specs.World.{Quad, Value, World}
use Rattle.dt_resolve_model.specs.Regions.{figure_of, joined_to, joined, cells_at, first_cell, only_cell, few, count_of, address_count, size_count, bus_cells, is_pci_text, is_pci, entries, entries_of, mapped_by, mapped, fitting, by_ranges, unless_pci, risen, translated, region_at, entry_at, listed, region, dma_region}
use Rattle.dt_resolve_model.proofs.Agreeing.{Same, agree_bind, agree_refl, agree_same, IsSeen, AreSeen, IsValueSeen, IsMaybeSeen, Refines, seen_figure, seen_take, seen_drop}

pub agree_if : {A : Type 0} (b : Bool) (x x' y y' : Answer A) → Agrees (Same A) x x' → Agrees (Same A) y y' → Agrees (Same A) (if b then x else y) (if b then x' else y')
agree_if true x x' y y' h k = h
agree_if false x x' y y' h k = k

joined_to_agrees : (w : World) (n : ℕ) (cs ds : List Quad) → AreSeen w cs ds → Agrees (Same ℕ) (joined_to n cs) (joined_to n ds)
joined_to_agrees w n [] [] h = (n, refl, refl)
joined_to_agrees w n [] (d ∷ ds) h = absurd h
joined_to_agrees w n (c ∷ cs) [] h = absurd h
joined_to_agrees w n (c ∷ cs) (d ∷ ds) h = agree_same (figure_of c) (figure_of d) (λ k. joined_to (n * 2 ^ 32 + k) cs) (λ k. joined_to (n * 2 ^ 32 + k) ds) (seen_figure w c d h.0) (λ k. joined_to_agrees w (n * 2 ^ 32 + k) cs ds h.1)

pub joined_agrees : (w : World) (cs ds : List Quad) → AreSeen w cs ds → Agrees (Same ℕ) (joined cs) (joined ds)
joined_agrees w cs ds h = joined_to_agrees w 0 cs ds h

part_agrees : (w : World) (from n : ℕ) (cs ds : List Quad) → AreSeen w cs ds → Agrees (Same ℕ) (joined (cells_at from n cs)) (joined (cells_at from n ds))
part_agrees w from n cs ds h = joined_agrees w (cells_at from n cs) (cells_at from n ds) (seen_take w n (drop from cs) (drop from ds) (seen_drop w from cs ds h))

only_agrees : (w : World) (cs ds : List Quad) → AreSeen w cs ds → Agrees (IsSeen w) (first_cell cs) (first_cell ds)
only_agrees w [] [] h = refl
only_agrees w [] (d ∷ ds) h = absurd h
only_agrees w (c ∷ cs) [] h = absurd h
only_agrees w (c ∷ cs) (d ∷ ds) h = (d, refl, h.0)

pub only_cell_agrees : (w : World) (a b : Value) → IsValueSeen w a b → Agrees (IsSeen w) (only_cell a) (only_cell b)
only_cell_agrees w a b h = rw h.size (step (a.size == 4))
  where
    step : (t : Bool) → Agrees (IsSeen w) (if t then first_cell a.cells else refuse BadCells) (if t then first_cell b.cells else refuse BadCells)
    step true = only_agrees w a.cells b.cells h.cells
    step false = refl

-- the number in the one cell
pub only_number_agrees : (w : World) (a b : Value) → IsValueSeen w a b → Agrees (Same ℕ) (only_cell a >>= figure_of) (only_cell b >>= figure_of)
only_number_agrees w a b h = agree_bind (IsSeen w) (Same ℕ) (only_cell a) (only_cell b) figure_of figure_of (only_cell_agrees w a b h) (seen_figure w)

count_of_agrees : (w : World) (default : ℕ) (a b : Option Value) → IsMaybeSeen w a b → Agrees (Same ℕ) (count_of default a) (count_of default b)
count_of_agrees w default None None h = (default, refl, refl)
count_of_agrees w default None (Some b) h = absurd h
count_of_agrees w default (Some a) None h = absurd h
count_of_agrees w default (Some a) (Some b) h = agree_same (only_cell a >>= figure_of) (only_cell b >>= figure_of) few few (only_number_agrees w a b h) (λ n. agree_refl (few n))

pub address_count_agrees : (v w : World) → Refines v w → (p : Path) (default : ℕ) → Agrees (Same ℕ) (address_count v p default) (address_count w p default)
address_count_agrees v w r p default = agree_bind (IsMaybeSeen w) (Same ℕ) (v.value p (codes "#address-cells")) (w.value p (codes "#address-cells")) (count_of default) (count_of default) (r.value p (codes "#address-cells")) (count_of_agrees w default)

size_count_agrees : (v w : World) → Refines v w → (p : Path) → Agrees (Same ℕ) (size_count v p) (size_count w p)
size_count_agrees v w r p = agree_bind (IsMaybeSeen w) (Same ℕ) (v.value p (codes "#size-cells")) (w.value p (codes "#size-cells")) (count_of 1) (count_of 1) (r.value p (codes "#size-cells")) (count_of_agrees w 1)

counts_agree : (v w : World) → Refines v w → (p : Path) → Agrees (Same BusCells) (bus_cells v p) (bus_cells w p)
counts_agree v w r p =
    agree_same (address_count v p 2) (address_count w p 2) _ _ (address_count_agrees v w r p 2)
    (λ a. agree_same (size_count v p) (size_count w p) _ _ (size_count_agrees v w r p)
    (λ s. agree_refl (answer (record { address = a; size = s }))))

is_pci_text_agrees : (w : World) (a b : Option Value) → IsMaybeSeen w a b → Agrees (Same Bool) (is_pci_text a) (is_pci_text b)
is_pci_text_agrees w None None h = (false, refl, refl)
is_pci_text_agrees w None (Some b) h = absurd h
is_pci_text_agrees w (Some a) None h = absurd h
is_pci_text_agrees w (Some a) (Some b) h = rw h.size (agree_if (a.size == 4) _ _ _ _
    (agree_same (first_cell a.cells >>= figure_of) (first_cell b.cells >>= figure_of) _ _
    (agree_bind (IsSeen w) (Same ℕ) (first_cell a.cells) (first_cell b.cells) figure_of figure_of (only_agrees w a.cells b.cells h.cells) (seen_figure w))
    (λ n. agree_refl (answer (n == 0x70636900))))
    (agree_refl (answer false)))

unless_pci_agrees : {A : Type 0} (v w : World) → Refines v w → (p : Path) (x y : Answer A) → Agrees (Same A) x y → Agrees (Same A) (unless_pci v p x) (unless_pci w p y)
unless_pci_agrees {A} v w r p x y h =
    agree_same (is_pci v p) (is_pci w p) (λ pci. if pci then refuse PciBus else x) (λ pci. if pci then refuse PciBus else y)
    (agree_bind (IsMaybeSeen w) (Same Bool) (v.value p (codes "device_type")) (w.value p (codes "device_type")) is_pci_text is_pci_text (r.value p (codes "device_type")) (is_pci_text_agrees w))
    (λ b. agree_if b (refuse PciBus) (refuse PciBus) x y refl h)

-- entries of cells that are seen
abbrev pub AreAllSeen : World → List (List Quad) → List (List Quad) → Type 0
AreAllSeen w [] [] = Unit {0}
AreAllSeen w [] (d ∷ ds) = ⊥
AreAllSeen w (c ∷ cs) [] = ⊥
AreAllSeen w (c ∷ cs) (d ∷ ds) = AreSeen w c d × AreAllSeen w cs ds

entries_agree : (w : World) (n width : ℕ) (cs ds : List Quad) → AreSeen w cs ds → AreAllSeen w (entries n width cs) (entries n width ds)
entries_agree w zero width cs ds h = tt
entries_agree w (suc n) width cs ds h = (seen_take w width cs ds h, entries_agree w n width (drop width cs) (drop width ds) (seen_drop w width cs ds h))

pub entries_of_agree : (w : World) (width : ℕ) (a b : Value) → IsValueSeen w a b → Agrees (AreAllSeen w) (entries_of width a) (entries_of width b)
entries_of_agree w width a b h = rw h.size (step ((width == 0) || not (a.size % (4 * width) == 0)))
  where
    step : (t : Bool) → Agrees (AreAllSeen w) (if t then refuse BadCells else answer (entries (a.size / (4 * width)) width a.cells)) (if t then refuse BadCells else answer (entries (a.size / (4 * width)) width b.cells))
    step true = refl
    step false = (entries (a.size / (4 * width)) width b.cells, refl, entries_agree w (a.size / (4 * width)) width a.cells b.cells h.cells)

pub entry_agrees : (w : World) (kind : FaultKind) (i : ℕ) (cs ds : List (List Quad)) → AreAllSeen w cs ds → Agrees (AreSeen w) (entry_at kind i cs) (entry_at kind i ds)
entry_agrees w kind i [] [] h = refl
entry_agrees w kind i [] (d ∷ ds) h = absurd h
entry_agrees w kind i (c ∷ cs) [] h = absurd h
entry_agrees w kind zero (c ∷ cs) (d ∷ ds) h = (d, refl, h.0)
entry_agrees w kind (suc i) (c ∷ cs) (d ∷ ds) h = entry_agrees w kind i cs ds h.1

mapped_by_agrees : (w : World) (widths : RangeCells) (size : ℕ) (at : BusAddress) (cs ds : List (List Quad)) → AreAllSeen w cs ds → Agrees (Same BusAddress) (mapped_by widths size at cs) (mapped_by widths size at ds)
mapped_by_agrees w widths size at [] [] h = refl
mapped_by_agrees w widths size at [] (d ∷ ds) h = absurd h
mapped_by_agrees w widths size at (c ∷ cs) [] h = absurd h
mapped_by_agrees w widths size at (c ∷ cs) (d ∷ ds) h =
    agree_same (joined (cells_at 0 widths.child c)) (joined (cells_at 0 widths.child d)) _ _ (part_agrees w 0 widths.child c d h.0)
    (λ child. agree_same (joined (cells_at (widths.child + widths.above) widths.length c)) (joined (cells_at (widths.child + widths.above) widths.length d)) _ _ (part_agrees w (widths.child + widths.above) widths.length c d h.0)
    (λ len. agree_if (nat_le child at.address && nat_lt (at.address - child) len) _ _ _ _
    (agree_same (joined (cells_at widths.child widths.above c)) (joined (cells_at widths.child widths.above d)) _ _ (part_agrees w widths.child widths.above c d h.0)
    (λ above. agree_refl (answer (record { address = above + (at.address - child); whole = at.whole && nat_le size (len - (at.address - child)) }))))
    (mapped_by_agrees w widths size at cs ds h.1)))

mapped_agrees : (w : World) (widths : RangeCells) (size : ℕ) (at : BusAddress) (a b : Value) → IsValueSeen w a b → Agrees (Same BusAddress) (mapped widths size at a) (mapped widths size at b)
mapped_agrees w widths size at a b h =
    let width = widths.child + widths.above + widths.length in
    subst (λ (t : Bool). Agrees (Same BusAddress) (mapped widths size at a) (if t then answer at else (entries_of width b >>= mapped_by widths size at))) (ap (λ (n : ℕ). n == 0) (sym h.size))
    (agree_if (a.size == 0) (answer at) (answer at) (entries_of width a >>= mapped_by widths size at) (entries_of width b >>= mapped_by widths size at) (agree_refl (answer at))
    (agree_bind (AreAllSeen w) (Same BusAddress) (entries_of width a) (entries_of width b) (mapped_by widths size at) (mapped_by widths size at) (entries_of_agree w width a b h) (mapped_by_agrees w widths size at)))

by_ranges_agrees : (v w : World) → Refines v w → (above bus : Path) (size : ℕ) (at : BusAddress) (a b : Option Value) → IsMaybeSeen w a b → Agrees (Same BusAddress) (by_ranges v above bus size at a) (by_ranges w above bus size at b)
by_ranges_agrees v w r above bus size at None None h = refl
by_ranges_agrees v w r above bus size at None (Some b) h = absurd h
by_ranges_agrees v w r above bus size at (Some a) None h = absurd h
by_ranges_agrees v w r above bus size at (Some a) (Some b) h =
    agree_same (bus_cells v bus) (bus_cells w bus) _ _ (counts_agree v w r bus)
    (λ own. agree_same (bus_cells v above) (bus_cells w above) _ _ (counts_agree v w r above)
    (λ up. agree_same (mapped (record { child = own.address; above = up.address; length = own.size }) size at a) (mapped (record { child = own.address; above = up.address; length = own.size }) size at b) (fitting up.address) (fitting up.address) (mapped_agrees w (record { child = own.address; above = up.address; length = own.size }) size at a b h)
    (λ place. agree_refl (fitting up.address place))))

risen_agrees : (v w : World) → Refines v w → (ranges : Name) (above bus : Path) (size : ℕ) (at : BusAddress) → Agrees (Same BusAddress) (risen v ranges above bus size at) (risen w ranges above bus size at)
risen_agrees v w r ranges above bus size at = unless_pci_agrees v w r bus _ _
    (agree_bind (IsMaybeSeen w) (Same BusAddress) (v.value bus ranges) (w.value bus ranges) _ _ (r.value bus ranges) (by_ranges_agrees v w r above bus size at))

translated_agrees : (v w : World) → Refines v w → (ranges : Name) (above : Path) (names : List Name) (size : ℕ) (at : BusAddress) → Agrees (Same BusAddress) (translated v ranges above names size at) (translated w ranges above names size at)
translated_agrees v w r ranges above [] size at = agree_refl (answer at)
translated_agrees v w r ranges above (n ∷ names) size at =
    agree_same (translated v ranges (above ++ n ∷ []) names size at) (translated w ranges (above ++ n ∷ []) names size at) _ _ (translated_agrees v w r ranges (above ++ n ∷ []) names size at)
    (λ place. risen_agrees v w r ranges above (above ++ n ∷ []) size place)

region_at_agrees : (v w : World) → Refines v w → (ranges : Name) (bus : Path) (address size : ℕ) → Agrees (Same Region) (region_at v ranges bus address size) (region_at w ranges bus address size)
region_at_agrees v w r ranges bus address size =
    agree_same (translated v ranges [] bus size (record { address = address; whole = true })) (translated w ranges [] bus size (record { address = address; whole = true })) _ _ (translated_agrees v w r ranges [] bus size (record { address = address; whole = true }))
    (λ at. unless_pci_agrees v w r [] _ _ (agree_refl (answer (record { address = at.address; size = size; whole = at.whole }))))

listed_agrees : (v w : World) → Refines v w → (bus : Path) (index : ℕ) (a b : Option Value) → IsMaybeSeen w a b → Agrees (Same Region) (listed v bus index a) (listed w bus index b)
listed_agrees v w r bus index None None h = refl
listed_agrees v w r bus index None (Some b) h = absurd h
listed_agrees v w r bus index (Some a) None h = absurd h
listed_agrees v w r bus index (Some a) (Some b) h =
    agree_same (bus_cells v bus) (bus_cells w bus) _ _ (counts_agree v w r bus)
    (λ own. agree_bind (AreSeen w) (Same Region) (entries_of (own.address + own.size) a >>= entry_at NoReg index) (entries_of (own.address + own.size) b >>= entry_at NoReg index) _ _
    (agree_bind (AreAllSeen w) (AreSeen w) (entries_of (own.address + own.size) a) (entries_of (own.address + own.size) b) (entry_at NoReg index) (entry_at NoReg index) (entries_of_agree w (own.address + own.size) a b h) (entry_agrees w NoReg index))
    (λ c d k. agree_same (joined (cells_at 0 own.address c)) (joined (cells_at 0 own.address d)) _ _ (part_agrees w 0 own.address c d k)
    (λ address. agree_same (joined (cells_at own.address own.size c)) (joined (cells_at own.address own.size d)) _ _ (part_agrees w own.address own.size c d k)
    (λ size. region_at_agrees v w r (codes "ranges") bus address size))))

-- what a world determines of a region is so in each world that refines it
pub region_agrees : (v w : World) → Refines v w → (p : Path) (index : ℕ) → Agrees (Same Region) (region v p index) (region w p index)
region_agrees v w r [] index = refl
region_agrees v w r (n ∷ names) index =
    agree_bind (IsMaybeSeen w) (Same Region) (v.value (n ∷ names) (codes "reg")) (w.value (n ∷ names) (codes "reg")) _ _ (r.value (n ∷ names) (codes "reg")) (listed_agrees v w r (front (n ∷ names)) index)

-- nor of a region for DMA
pub dma_region_agrees : (v w : World) → Refines v w → (p : Path) (address size : ℕ) → Agrees (Same Region) (dma_region v p address size) (dma_region w p address size)
dma_region_agrees v w r [] address size = refl
dma_region_agrees v w r (n ∷ names) address size =
    let bus = front (n ∷ names) in
    agree_same (bus_cells v bus) (bus_cells w bus) _ _ (counts_agree v w r bus)
    (λ own. agree_same (fitting own.address (record { address = address; whole = true })) (fitting own.address (record { address = address; whole = true })) _ _
    (agree_refl (fitting own.address (record { address = address; whole = true })))
    (λ at. region_at_agrees v w r (codes "dma-ranges") bus at.address size))
