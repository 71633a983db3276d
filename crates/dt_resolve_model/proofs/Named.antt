-- The rules refuse for the faults that they name.
use Rattle.std.proofs.Common.{ℕ, suc, zero, ◌+◌, ◌-◌, ◌*◌, ◌%◌, ◌^◌, Bool, true, false, not, ◌&&◌, ◌||◌, ◌==◌, List, [], ◌∷◌, ◌++◌, take, drop, length, refl, Option, Some, None}
use Rattle.std.specs.Prelude.{if◌then◌else◌, codes, nat_le, nat_lt, option_map}
use Rattle.dt_names.specs.declared.fault.FaultKind.{FaultKind}
use Rattle.dt_names.specs.declared.fault.FaultKind.TheVariants.{NoReg, BadCells, NoInterrupts, UnknownPhandle, BadMap, NoMapEntry, Loop}
use Rattle.dt_model.specs.Names.{Name}
use Rattle.dt_model.specs.Path.{Path}
use Rattle.dt_model.specs.Tree.{Reading, nodes_of, value_in}
use Rattle.dt_model.specs.Applied.{node_numbered}
use Rattle.dt_resolve_model.specs.declared.regions.BusAddress.{BusAddress}
use Rattle.dt_resolve_model.specs.declared.regions.RangeCells.{RangeCells}
use Rattle.dt_resolve_model.specs.Above.{front}
use Rattle.dt_resolve_model.specs.Answers.{Answer, undetermined, refused, answer, refuse, ◌>>=◌}
use Rattle.dt_resolve_model.specs.World.{Quad, figure, pointer, torn, Value, World, tree_world, value_of_bytes, node_found}
use Rattle.dt_resolve_model.specs.Regions.{figure_of, joined_to, joined, cells_at, first_cell, only_cell, only_number, count_of, address_count, size_count, bus_cells, is_pci_text, is_pci, entries_of, mapped_by, mapped, fitting, by_ranges, unless_pci, risen, translated, region_at, entry_at, listed, region, dma_region}
use Rattle.dt_resolve_model.specs.Interrupts.{RowCells, size_told, Sent, first_entry, entry_sent, is_ragged, cells_from, map_row_at_parent, map_row, as_numbers, matches, first_match, mask_of, Route, most_hops}
use Rattle.dt_resolve_model.specs.Specifiers.{cells_name, map_name, mask_name, pass_name, provider_count, provider_of, provider_row_cells, passed_cell, merged, provider_hop, provided_at, provision, provided, specifier_route, provider_at, specifier_at}
use Rattle.dt_resolve_model.specs.Faults.{IsRegionFault, IsSpecifierFault, IsRefusedFor}

module _ (is : FaultKind → Type 0) where
  pub bound : {A B : Type 0} (x : Answer A) (f : A → Answer B) → IsRefusedFor is x → ((a : A) → IsRefusedFor is (f a)) → IsRefusedFor is (x >>= f)
  bound undetermined f h k = tt
  bound (refused fault) f h k = h
  bound (answer a) f h k = k a

  pub chosen : {A : Type 0} (b : Bool) (x y : Answer A) → IsRefusedFor is x → IsRefusedFor is y → IsRefusedFor is (if b then x else y)
  chosen true x y h k = h
  chosen false x y h k = k

  of_figure : (c : Quad) → IsRefusedFor is (figure_of c)
  of_figure (figure n) = tt
  of_figure (pointer p) = tt
  of_figure torn = tt

  of_joined : (n : ℕ) (cells : List Quad) → IsRefusedFor is (joined_to n cells)
  of_joined n [] = tt
  of_joined n (cell ∷ cells) = bound (figure_of cell) _ (of_figure cell) (λ k. of_joined (n * 2 ^ 32 + k) cells)

  pub of_numbers : (cells : List Quad) → IsRefusedFor is (as_numbers cells)
  of_numbers [] = tt
  of_numbers (cell ∷ cells) = bound (figure_of cell) _ (of_figure cell) (λ n. bound (as_numbers cells) _ (of_numbers cells) (λ ns. tt))

  pub of_entry : (kind : FaultKind) → is kind → (i : ℕ) (es : List (List Quad)) → IsRefusedFor is (entry_at kind i es)
  of_entry kind may i [] = (may, refl)
  of_entry kind may zero (e ∷ es) = tt
  of_entry kind may (suc i) (e ∷ es) = of_entry kind may i es

  -- ---- where cells may be wrong
  module _ (bad : is BadCells) where
    pub of_cell : (v : Value) → IsRefusedFor is (only_cell v)
    of_cell v = chosen (v.size == 4) _ _ (first v.cells) (bad, refl)
      where
        first : (cells : List Quad) → IsRefusedFor is (first_cell cells)
        first [] = (bad, refl)
        first (cell ∷ cells) = tt

    of_number : (v : Value) → IsRefusedFor is (only_number v)
    of_number v = bound (only_cell v) _ (of_cell v) of_figure

    pub of_count : (default : ℕ) (o : Option Value) → IsRefusedFor is (count_of default o)
    of_count default None = tt
    of_count default (Some v) = bound (only_number v) _ (of_number v) (λ n. chosen (nat_le n 4) _ _ tt (bad, refl))

    pub of_size : (least : ℕ) (o : Option Value) → IsRefusedFor is (size_told least o)
    of_size least None = (bad, refl)
    of_size least (Some v) = bound (only_number v) _ (of_number v) (λ n. chosen (nat_le least n && nat_le n 8) _ _ tt (bad, refl))

    pub of_entries : (width : ℕ) (v : Value) → IsRefusedFor is (entries_of width v)
    of_entries width v = chosen ((width == 0) || not (v.size % (4 * width) == 0)) _ _ (bad, refl) tt

-- ---- regions

module _ (t : Reading) where
  abbrev w : World
  w = tree_world t

  abbrev Fine : {A : Type 0} → Answer A → Type 0
  Fine = IsRefusedFor IsRegionFault

  of_bus : (bus : Path) → Fine (bus_cells w bus)
  of_bus bus =
      bound IsRegionFault (address_count w bus 2) _ (of_count IsRegionFault tt 2 (option_map value_of_bytes (value_in t bus (codes "#address-cells"))))
      (λ a. bound IsRegionFault (size_count w bus) _ (of_count IsRegionFault tt 1 (option_map value_of_bytes (value_in t bus (codes "#size-cells")))) (λ s. tt))

  of_pci : (bus : Path) → Fine (is_pci w bus)
  of_pci bus = text (option_map value_of_bytes (value_in t bus (codes "device_type")))
    where
      first : (cells : List Quad) → Fine (first_cell cells)
      first [] = (tt, refl)
      first (cell ∷ cells) = tt

      text : (o : Option Value) → Fine (is_pci_text o)
      text None = tt
      text (Some v) =
          chosen IsRegionFault (v.size == 4) _ _
          (bound IsRegionFault (first_cell v.cells >>= figure_of) _ (bound IsRegionFault (first_cell v.cells) _ (first v.cells) (of_figure IsRegionFault)) (λ n. tt)) tt

  unless : {A : Type 0} (bus : Path) (rest : Answer A) → Fine rest → Fine (unless_pci w bus rest)
  unless bus rest h = bound IsRegionFault (is_pci w bus) _ (of_pci bus) (λ pci. chosen IsRegionFault pci _ _ (tt, refl) h)

  of_ranges : (widths : RangeCells) (size : ℕ) (at : BusAddress) (ranges : List (List Quad)) → Fine (mapped_by widths size at ranges)
  of_ranges widths size at [] = (tt, refl)
  of_ranges widths size at (range ∷ ranges) =
      bound IsRegionFault (joined (cells_at 0 widths.child range)) _ (of_joined IsRegionFault 0 (cells_at 0 widths.child range))
      (λ child. bound IsRegionFault (joined (cells_at (widths.child + widths.above) widths.length range)) _ (of_joined IsRegionFault 0 (cells_at (widths.child + widths.above) widths.length range))
      (λ len. chosen IsRegionFault (nat_le child at.address && nat_lt (at.address - child) len) _ _
      (bound IsRegionFault (joined (cells_at widths.child widths.above range)) _ (of_joined IsRegionFault 0 (cells_at widths.child widths.above range)) (λ above. tt))
      (of_ranges widths size at ranges)))

  of_fitting : (cells : ℕ) (at : BusAddress) → Fine (fitting cells at)
  of_fitting cells at = chosen IsRegionFault (nat_lt at.address (2 ^ (32 * cells))) _ _ tt (tt, refl)

  of_mapped : (widths : RangeCells) (size : ℕ) (at : BusAddress) (v : Value) → Fine (mapped widths size at v)
  of_mapped widths size at v =
      chosen IsRegionFault (v.size == 0) _ _ tt
      (bound IsRegionFault (entries_of (widths.child + widths.above + widths.length) v) _ (of_entries IsRegionFault tt (widths.child + widths.above + widths.length) v) (of_ranges widths size at))

  of_risen : (ranges : Name) (above bus : Path) (size : ℕ) (at : BusAddress) → Fine (risen w ranges above bus size at)
  of_risen ranges above bus size at = unless bus (w.value bus ranges >>= by_ranges w above bus size at) (by (option_map value_of_bytes (value_in t bus ranges)))
    where
      by : (o : Option Value) → Fine (by_ranges w above bus size at o)
      by None = (tt, refl)
      by (Some v) =
          bound IsRegionFault (bus_cells w bus) _ (of_bus bus)
          (λ own. bound IsRegionFault (bus_cells w above) _ (of_bus above)
          (λ up. bound IsRegionFault (mapped (record { child = own.address; above = up.address; length = own.size }) size at v) _
          (of_mapped (record { child = own.address; above = up.address; length = own.size }) size at v) (of_fitting up.address)))

  of_translated : (ranges : Name) (above names : Path) (size : ℕ) (at : BusAddress) → Fine (translated w ranges above names size at)
  of_translated ranges above [] size at = tt
  of_translated ranges above (n ∷ names) size at =
      bound IsRegionFault (translated w ranges (above ++ n ∷ []) names size at) _ (of_translated ranges (above ++ n ∷ []) names size at) (of_risen ranges above (above ++ n ∷ []) size)

  of_region_at : (ranges : Name) (bus : Path) (address size : ℕ) → Fine (region_at w ranges bus address size)
  of_region_at ranges bus address size =
      bound IsRegionFault (translated w ranges [] bus size (record { address = address; whole = true })) _ (of_translated ranges [] bus size (record { address = address; whole = true }))
      (λ place. unless [] (answer (record { address = place.address; size = size; whole = place.whole })) tt)

  pub region_named : (p : Path) (index : ℕ) → Fine (region w p index)
  region_named [] index = (tt, refl)
  region_named (n ∷ names) index = by (option_map value_of_bytes (value_in t (n ∷ names) (codes "reg")))
    where
      bus : Path
      bus = front (n ∷ names)

      by : (o : Option Value) → Fine (listed w bus index o)
      by None = (tt, refl)
      by (Some v) =
          bound IsRegionFault (bus_cells w bus) _ (of_bus bus)
          (λ own. bound IsRegionFault (entries_of (own.address + own.size) v >>= entry_at NoReg index) _
          (bound IsRegionFault (entries_of (own.address + own.size) v) _ (of_entries IsRegionFault tt (own.address + own.size) v) (of_entry IsRegionFault NoReg tt index))
          (λ e. bound IsRegionFault (joined (cells_at 0 own.address e)) _ (of_joined IsRegionFault 0 (cells_at 0 own.address e))
          (λ address. bound IsRegionFault (joined (cells_at own.address own.size e)) _ (of_joined IsRegionFault 0 (cells_at own.address own.size e))
          (λ size. of_region_at (codes "ranges") bus address size))))

  pub dma_region_named : (p : Path) (address size : ℕ) → Fine (dma_region w p address size)
  dma_region_named [] address size = (tt, refl)
  dma_region_named (n ∷ names) address size =
      bound IsRegionFault (bus_cells w (front (n ∷ names))) _ (of_bus (front (n ∷ names)))
      (λ own. bound IsRegionFault (fitting own.address (record { address = address; whole = true })) _ (of_fitting own.address (record { address = address; whole = true }))
      (λ at. of_region_at (codes "dma-ranges") (front (n ∷ names)) at.address size))

-- ---- lists of phandles, and maps

-- what a list of phandles or a map may be refused for
pub record AreListFaults (is : FaultKind → Type 0) : Type 0 where
  pub cells : is BadCells
  pub absent : is NoInterrupts
  pub unknown : is UnknownPhandle
  pub broken : is BadMap
  pub unmatched : is NoMapEntry

module _ (is : FaultKind → Type 0) (may : AreListFaults is) (t : Reading) where
  pub of_node : (c : Quad) → IsRefusedFor is ((tree_world t).node c)
  of_node (figure n) = found (node_numbered (nodes_of t) n)
    where
      found : (o : Option Path) → IsRefusedFor is (node_found o)
      found None = (may.unknown, refl)
      found (Some p) = tt
  of_node (pointer p) = tt
  of_node torn = tt

  module _ (count : Path → Answer ℕ) (counts : (q : Path) → IsRefusedFor is (count q)) where
    pub of_first : (ragged : Bool) (cells : List Quad) → IsRefusedFor is (first_entry (tree_world t) count ragged cells)
    of_first true [] = (may.cells, refl)
    of_first false [] = (may.absent, refl)
    of_first ragged (cell ∷ cells) =
        bound is ((tree_world t).node cell) _ (of_node cell)
        (λ q. bound is (count q) _ (counts q)
        (λ n. chosen is (nat_lt (length cells) n) _ _ (may.cells, refl) tt))

    pub of_sent : (ragged : Bool) (index : ℕ) (cells : List Quad) → IsRefusedFor is (entry_sent (tree_world t) count ragged index cells)
    of_sent ragged zero cells = bound is (first_entry (tree_world t) count ragged cells) _ (of_first ragged cells) (λ x. tt)
    of_sent ragged (suc index) cells = bound is (first_entry (tree_world t) count ragged cells) _ (of_first ragged cells) (λ x. of_sent ragged index x.rest)

  pub of_mask : (width : ℕ) (o : Option Value) → IsRefusedFor is (mask_of width o)
  of_mask width None = tt
  of_mask width (Some m) = chosen is (m.size == 4 * width) _ _ tt (may.broken, refl)

  of_matches : (compared key mask : List Quad) → IsRefusedFor is (matches compared key mask)
  of_matches compared key mask =
      bound is (as_numbers compared) _ (of_numbers is compared)
      (λ xs. bound is (as_numbers key) _ (of_numbers is key)
      (λ ys. bound is (as_numbers mask) _ (of_numbers is mask) (λ ms. tt)))

  module _ (widths : Path → Answer RowCells) (wide : (q : Path) → IsRefusedFor is (widths q)) where
    of_row : (compared cells : List Quad) → IsRefusedFor is (map_row_at_parent (tree_world t) widths compared cells)
    of_row compared [] = (may.broken, refl)
    of_row compared (cell ∷ cells) =
        bound is ((tree_world t).node cell) _ (of_node cell)
        (λ q. bound is (widths q) _ (wide q)
        (λ own. chosen is (nat_lt (length cells) (own.address + own.specifier)) _ _ (may.broken, refl) tt))

    pub of_match : (ragged : Bool) (width : ℕ) (key mask : List Quad) (skipped : ℕ) (cells : List Quad) → IsRefusedFor is (first_match (tree_world t) widths ragged width key mask skipped cells)
    of_match true width key mask skipped [] = (may.broken, refl)
    of_match false width key mask skipped [] = (may.unmatched, refl)
    of_match ragged width key mask zero (cell ∷ cells) =
        bound is (map_row (tree_world t) widths width (cell ∷ cells)) _ (of_row (take width (cell ∷ cells)) (drop width (cell ∷ cells)))
        (λ r. bound is (matches r.compared key mask) _ (of_matches r.compared key mask)
        (λ same. chosen is same _ _ tt (of_match ragged width key mask (r.size - 1) cells)))
    of_match ragged width key mask (suc n) (cell ∷ cells) = of_match ragged width key mask n cells

-- ---- specifiers

abbrev specifier_faults : AreListFaults IsSpecifierFault
specifier_faults = record { cells = tt; absent = tt; unknown = tt; broken = tt; unmatched = tt }

module _ (t : Reading) where
  abbrev v : World
  v = tree_world t

  abbrev Named : {A : Type 0} → Answer A → Type 0
  Named = IsRefusedFor IsSpecifierFault

  module _ (kind : Name) where
    of_provider : (p : Path) → Named (provider_count v kind p)
    of_provider p = of_size IsSpecifierFault tt 0 (option_map value_of_bytes (value_in t p (cells_name kind)))

    of_widths : (q : Path) → Named (provider_row_cells v kind q)
    of_widths q = bound IsSpecifierFault (provider_count v kind q) _ (of_provider q) (λ n. tt)

    of_passed : (row child : Quad) (mask : ℕ) → Named (passed_cell row child mask)
    of_passed row child mask =
        chosen IsSpecifierFault (mask == 0) _ _ tt
        (chosen IsSpecifierFault (mask == 0xffffffff) _ _ tt
        (bound IsSpecifierFault (figure_of row) _ (of_figure IsSpecifierFault row) (λ r. bound IsSpecifierFault (figure_of child) _ (of_figure IsSpecifierFault child) (λ c. tt))))

    of_merged : (row child pass : List Quad) → Named (merged row child pass)
    of_merged [] child pass = tt
    of_merged (r ∷ row) [] pass = tt
    of_merged (r ∷ row) (c ∷ child) [] = tt
    of_merged (r ∷ row) (c ∷ child) (m ∷ pass) =
        bound IsSpecifierFault (figure_of m >>= passed_cell r c) _ (bound IsSpecifierFault (figure_of m) _ (of_figure IsSpecifierFault m) (of_passed r c))
        (λ x. bound IsSpecifierFault (merged row child pass) _ (of_merged row child pass) (λ xs. tt))

    of_hop : (at : Sent) (m : Value) → Named (provider_hop v kind at m)
    of_hop at m =
        bound IsSpecifierFault (v.value at.node (mask_name kind) >>= mask_of (length at.specifier)) _ (of_mask IsSpecifierFault specifier_faults t (length at.specifier) (option_map value_of_bytes (value_in t at.node (mask_name kind))))
        (λ mask. bound IsSpecifierFault (v.value at.node (pass_name kind) >>= mask_of (length at.specifier)) _ (of_mask IsSpecifierFault specifier_faults t (length at.specifier) (option_map value_of_bytes (value_in t at.node (pass_name kind))))
        (λ pass. bound IsSpecifierFault (first_match v (provider_row_cells v kind) (is_ragged m) (length at.specifier) at.specifier mask 0 m.cells) _ (of_match IsSpecifierFault specifier_faults t (provider_row_cells v kind) of_widths (is_ragged m) (length at.specifier) at.specifier mask 0 m.cells)
        (λ r. bound IsSpecifierFault (merged r.specifier at.specifier pass) _ (of_merged r.specifier at.specifier pass) (λ s. tt))))

    of_map : (through : Value → Answer Route) → ((m : Value) → Named (through m)) → (hops : ℕ) (at : Sent) → Named (provision v kind through hops at)
    of_map through h hops at = by (option_map value_of_bytes (value_in t at.node (map_name kind)))
      where
        by : (o : Option Value) → Named (provided_at through hops at o)
        by None = bound IsSpecifierFault (as_numbers at.specifier) _ (of_numbers IsSpecifierFault at.specifier) (λ ns. tt)
        by (Some m) = h m

    of_provided : (left hops : ℕ) (at : Sent) → Named (provided v kind left hops at)
    unfolding provided
    of_provided zero hops at = of_map (λ m. refuse Loop) (λ m. (tt, refl)) hops at
    of_provided (suc left) hops at =
        of_map (λ m. provider_hop v kind at m >>= provided v kind left (hops + 1))
        (λ m. bound IsSpecifierFault (provider_hop v kind at m) _ (of_hop at m) (of_provided left (hops + 1))) hops at

    pub specifier_named : (p : Path) (property : Name) (index : ℕ) → Named (specifier_route v p property kind index)
    specifier_named p property index =
        bound IsSpecifierFault (v.value p property >>= provider_of v kind index) _ (by (option_map value_of_bytes (value_in t p property))) (of_provided most_hops 0)
      where
        by : (o : Option Value) → Named (provider_of v kind index o)
        by None = (tt, refl)
        by (Some list) = of_sent IsSpecifierFault specifier_faults t (provider_count v kind) of_provider (is_ragged list) index list.cells

    pub specifier_at_named : (p : Path) (property : Name) (at : ℕ) → Named (specifier_at v p property kind at)
    specifier_at_named p property at =
        bound IsSpecifierFault (v.value p property >>= provider_at v kind at) _ (by (option_map value_of_bytes (value_in t p property))) (of_provided most_hops 0)
      where
        by : (o : Option Value) → Named (provider_at v kind at o)
        by None = (tt, refl)
        by (Some list) =
            bound IsSpecifierFault (first_entry v (provider_count v kind) (is_ragged list) (cells_from at list.cells)) _
            (of_first IsSpecifierFault specifier_faults t (provider_count v kind) of_provider (is_ragged list) (cells_from at list.cells)) (λ x. tt)
