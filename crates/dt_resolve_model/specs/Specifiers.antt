-- Routes of specifiers of any kind, such as those of GPIOs, clocks and resets, through the maps of connectors (Devicetree Specification v0.4,
-- 2.5). The kind is the word that the names of the properties are made with.
use Rattle.std.specs.Prelude.{ℕ, zero, suc, ◌+◌, ◌-◌, ◌==◌, List, [], ◌∷◌, ◌++◌, length, codes, Option, Some, None, if◌then◌else◌}
use Rattle.std.specs.Int.Bits.{bit_and, bit_or}
use Rattle.dt_names.specs.declared.fault.FaultKind.TheVariants.{NoInterrupts, Loop}
use Rattle.dt_model.specs.Names.{Name}
use Rattle.dt_model.specs.Path.{Path}
use Rattle.dt_resolve_model.specs.Answers.{Answer, answer, refuse, ◌>>=◌}
use Rattle.dt_resolve_model.specs.World.{Quad, figure, Value, World}
use Rattle.dt_resolve_model.specs.Regions.{figure_of}
use Rattle.dt_resolve_model.specs.Interrupts.{size_at, Sent, entry_sent, is_ragged, sent_at, RowCells, MapRow, as_numbers, first_match, mask_of, Route, most_hops}

-- `#KIND-cells`, `KIND-map`, `KIND-map-mask` and `KIND-map-pass-thru` (2.5.1)
abbrev pub cells_name : Name → Name
cells_name kind = codes "#" ++ kind ++ codes "-cells"

abbrev pub map_name : Name → Name
map_name kind = kind ++ codes "-map"

abbrev pub mask_name : Name → Name
mask_name kind = kind ++ codes "-map-mask"

abbrev pub pass_name : Name → Name
pass_name kind = kind ++ codes "-map-pass-thru"

-- the number of cells of a provider's specifiers, which may have none (2.5.1)
abbrev pub provider_count : World → Name → Path → Answer ℕ
provider_count w kind = size_at 0 (cells_name kind) w

-- the entry that an index names of a property, which is a list of phandles with specifiers; without it there is none
abbrev pub provider_of : World → Name → ℕ → Option Value → Answer Sent
provider_of w kind index None = refuse NoInterrupts
provider_of w kind index (Some v) = entry_sent w (provider_count w kind) (is_ragged v) index v.cells

-- a row of a map has a specifier of its parent, and no address
abbrev pub provider_row_cells : World → Name → Path → Answer RowCells
provider_row_cells w kind q = provider_count w kind q >>= λ n. answer (record { address = 0; specifier = n })

-- a number of a row in whose bits that a mask has the number at hand passes through
abbrev pub passed : (row child mask : ℕ) → ℕ
passed row child mask = bit_or (bit_and row (0xffffffff - mask)) (bit_and child mask)

-- A cell of a row through which the cell at hand passes in the bits of a mask. Where it passes in none or in all of them, it stays the cell
-- that it is, whatever that is.
abbrev pub passed_cell : (row child : Quad) → ℕ → Answer Quad
passed_cell row child mask =
    if mask == 0 then answer row
    else if mask == 0xffffffff then answer child
    else figure_of row >>= λ r. figure_of child >>= λ c. answer (figure (passed r c mask))

-- The specifier that a row leads to: its own, through which the specifier at hand passes cell by cell, as far as there is one. Without a
-- `KIND-map-pass-thru` nothing passes (2.5.1).
abbrev pub merged : (row child pass : List Quad) → Answer (List Quad)
merged [] child pass = answer []
merged (r ∷ row) [] pass = answer (r ∷ row)
merged (r ∷ row) (c ∷ child) [] = answer (r ∷ row)
merged (r ∷ row) (c ∷ child) (m ∷ pass) = figure_of m >>= passed_cell r c >>= λ x. merged row child pass >>= λ xs. answer (x ∷ xs)

-- where a row leads that fits
abbrev pub led_by : Sent → List Quad → MapRow → Answer Sent
led_by at pass r = merged r.specifier at.specifier pass >>= λ s. answer (record { node = r.parent; specifier = s })

-- a hop by the map of the node that a specifier has come to: by the first row whose specifier is the one at hand under the mask
abbrev pub provider_hop : World → Name → Sent → Value → Answer Sent
provider_hop w kind at v =
    w.value at.node (mask_name kind) >>= mask_of (length at.specifier) >>= λ mask.
    w.value at.node (pass_name kind) >>= mask_of (length at.specifier) >>= λ pass.
    first_match w (provider_row_cells w kind) (is_ragged v) (length at.specifier) at.specifier mask 0 v.cells >>= led_by at pass

-- at a node without a map the route ends
abbrev pub provided_at : (Value → Answer Route) → ℕ → Sent → Option Value → Answer Route
provided_at through hops at None = as_numbers at.specifier >>= λ ns. answer (record { controller = at.node; cells = ns; hops = hops })
provided_at through hops at (Some v) = through v

abbrev pub provision : World → Name → (Value → Answer Route) → ℕ → Sent → Answer Route
provision w kind through hops at = w.value at.node (map_name kind) >>= provided_at through hops at

-- the route after some hops, with at most this number of hops left
unfoldable pub provided : World → Name → ℕ → ℕ → Sent → Answer Route
provided w kind zero hops at = provision w kind (λ v. refuse Loop) hops at
provided w kind (suc left) hops at = provision w kind (λ v. provider_hop w kind at v >>= provided w kind left (hops + 1)) hops at

-- the route of the specifier that an index names in a property of a node, by the names of a kind
abbrev pub specifier_route : World → Path → Name → Name → ℕ → Answer Route
specifier_route w p property kind index = w.value p property >>= provider_of w kind index >>= provided w kind most_hops 0

-- where the entry is sent that begins at a byte of a property; without it there is none
abbrev pub provider_at : World → Name → ℕ → Option Value → Answer Sent
provider_at w kind at None = refuse NoInterrupts
provider_at w kind at (Some v) = sent_at w (provider_count w kind) at v

-- the route of the specifier that begins at a byte of a property of a node, by the names of a kind
abbrev pub specifier_at : World → Path → Name → Name → ℕ → Answer Route
specifier_at w p property kind at = w.value p property >>= provider_at w kind at >>= provided w kind most_hops 0
