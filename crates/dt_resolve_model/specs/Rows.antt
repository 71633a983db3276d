-- Some sources and their trees by which the rules can be tried. The text of each is above it; in its tree the keyed nodes have the numbers
-- that compiling gives them.
use Rattle.std.specs.Prelude.{ℕ, List, [], ◌∷◌, ◌++◌, codes, map}
use Rattle.std.specs.List.{flat_map}
use Rattle.dt_model.specs.Names.{Name}
use Rattle.dt_model.specs.Path.{Path}
use Rattle.dt_model.specs.Meaning.{cell}
use Rattle.dt_model.specs.Rows.{number, phandle_of, meaning, set, tree}
use Rattle.dt_model.specs.Source.{Part, Place, root, child, label, property, close}
use Rattle.dt_model.specs.Tree.{Property, no_nodes, branch, Reading, nodes_of}
use Rattle.dt_resolve_model.specs.World.{World, meaning_world}

-- ---- words

-- `<1 2 3>`, in a source and in a tree
abbrev pub numbers : List ℕ → List Part
numbers ns = flat_map number ns

abbrev pub cells : List ℕ → List ℕ
cells ns = flat_map cell ns

-- the world of a source, with all nodes of its tree
abbrev pub world_of : List Place → Reading → World
world_of places t = meaning_world (meaning places) (map (λ n. n.path) (nodes_of t))

abbrev pub address_cells : Name
address_cells = codes "#address-cells"

abbrev pub size_cells : Name
size_cells = codes "#size-cells"

abbrev pub interrupt_cells : Name
interrupt_cells = codes "#interrupt-cells"

-- `#address-cells = <a>; #size-cells = <s>;`
abbrev pub bus_of : (a s : ℕ) → List Place
bus_of a s = property address_cells (number a) ∷ property size_cells (number s) ∷ []

abbrev pub bus_in : (a s : ℕ) → List Property
bus_in a s = set address_cells (cell a) ∷ set size_cells (cell s) ∷ []

-- ---- addresses

-- / { #address-cells = <2>; #size-cells = <1>;
--     soc { #address-cells = <1>; #size-cells = <1>; ranges = <0x1000 0x0 0x40001000 0x1000>;
--         bus { #address-cells = <1>; #size-cells = <1>; ranges; u@1f00 { reg = <0x1f00 0x100>, <0x1fff 2>, <0x2000 1>; }; }; };
--     cpus { #address-cells = <1>; #size-cells = <0>; c@0 { reg = <0>; }; }; };
abbrev pub board : List Place
board =
    root ∷ (bus_of 2 1
    ++ child (codes "soc") ∷ (bus_of 1 1 ++ property (codes "ranges") (numbers (0x1000 ∷ 0 ∷ 0x40001000 ∷ 0x1000 ∷ []))
    ∷ child (codes "bus") ∷ (bus_of 1 1 ++ property (codes "ranges") []
    ∷ child (codes "u@1f00") ∷ property (codes "reg") (numbers (0x1f00 ∷ 0x100 ∷ 0x1fff ∷ 2 ∷ 0x2000 ∷ 1 ∷ [])) ∷ close ∷ close ∷ close
    ∷ child (codes "cpus") ∷ (bus_of 1 0 ++ child (codes "c@0") ∷ property (codes "reg") (number 0) ∷ close ∷ close ∷ close ∷ []))))

abbrev pub board_tree : Reading
board_tree =
    tree (bus_in 2 1)
    (branch (codes "soc") (bus_in 1 1 ++ set (codes "ranges") (cells (0x1000 ∷ 0 ∷ 0x40001000 ∷ 0x1000 ∷ [])) ∷ [])
    (branch (codes "bus") (bus_in 1 1 ++ set (codes "ranges") [] ∷ [])
    (branch (codes "u@1f00") (set (codes "reg") (cells (0x1f00 ∷ 0x100 ∷ 0x1fff ∷ 2 ∷ 0x2000 ∷ 1 ∷ [])) ∷ []) no_nodes no_nodes) no_nodes)
    (branch (codes "cpus") (bus_in 1 0) (branch (codes "c@0") (set (codes "reg") (cell 0) ∷ []) no_nodes no_nodes) no_nodes))

abbrev pub device : Path
device = codes "soc" ∷ codes "bus" ∷ codes "u@1f00" ∷ []

abbrev pub processor : Path
processor = codes "cpus" ∷ codes "c@0" ∷ []

-- / { #address-cells = <2>; #size-cells = <2>;
--     soc { #address-cells = <1>; #size-cells = <1>; dma-ranges = <0x80000000 0x1 0x0 0x1000>; d { }; }; };
-- In `soc` these properties stand for `dma-ranges`.
abbrev pub sender : List Part → List Place
sender ranges =
    root ∷ (bus_of 2 2 ++ child (codes "soc") ∷ (bus_of 1 1 ++ property (codes "dma-ranges") ranges ∷ child (codes "d") ∷ close ∷ close ∷ close ∷ []))

abbrev pub sender_tree : List Property → Reading
sender_tree ranges = tree (bus_in 2 2) (branch (codes "soc") (bus_in 1 1 ++ ranges) (branch (codes "d") [] no_nodes no_nodes) no_nodes)

abbrev pub dma_ranges : List ℕ
dma_ranges = 0x80000000 ∷ 1 ∷ 0 ∷ 0x1000 ∷ []

abbrev pub dma_ranges_in : List Property
dma_ranges_in = set (codes "dma-ranges") (cells dma_ranges) ∷ []

abbrev pub dma_device : Path
dma_device = codes "soc" ∷ codes "d" ∷ []

-- / { #address-cells = <1>; #size-cells = <1>;
--     b { #address-cells = <1>; #size-cells = <1>; ranges = <0 0xfffffff0 0x100>; u { reg = <0x10 4>; }; v { reg = <0xf 4>; }; };
--     x { reg = [00 00 00 00 00 00]; }; };
-- In `b` these properties stand besides.
abbrev pub high_tree : List Property → Reading
high_tree more =
    tree (bus_in 1 1)
    (branch (codes "b") (bus_in 1 1 ++ set (codes "ranges") (cells (0 ∷ 0xfffffff0 ∷ 0x100 ∷ [])) ∷ more)
    (branch (codes "u") (set (codes "reg") (cells (0x10 ∷ 4 ∷ [])) ∷ []) no_nodes
    (branch (codes "v") (set (codes "reg") (cells (0xf ∷ 4 ∷ [])) ∷ []) no_nodes no_nodes))
    (branch (codes "x") (set (codes "reg") (0 ∷ 0 ∷ 0 ∷ 0 ∷ 0 ∷ 0 ∷ []) ∷ []) no_nodes no_nodes))

-- `device_type = "pci";`
abbrev pub pci : Property
pci = set (codes "device_type") (codes "pci" ++ 0 ∷ [])

-- / { #address-cells = <4>; #size-cells = <1>; u { reg = <0xffffffff 0xffffffff 0xffffffff 0xffffffff 1>; }; };
abbrev pub wide_tree : Reading
wide_tree =
    tree (bus_in 4 1)
    (branch (codes "u") (set (codes "reg") (cells (0xffffffff ∷ 0xffffffff ∷ 0xffffffff ∷ 0xffffffff ∷ 1 ∷ [])) ∷ []) no_nodes no_nodes)

-- ---- interrupts

abbrev pub below_root : Name → Path
below_root name = name ∷ []

-- / { #address-cells = <1>; #size-cells = <1>; interrupt-parent = <&gic>;
--     gic: ic { interrupt-controller; #interrupt-cells = <3>; };
--     nx: nexus { #address-cells = <1>; #interrupt-cells = <1>; interrupt-map-mask = <0xf000 0x7>;
--         interrupt-map = <0x1000 1 &gic 0 5 4>, <0x1000 1 &gic 0 6 4>, <0x2000 1 &gic 0 7 4>; };
--     d@1234 { reg = <0x1234 4>; interrupt-parent = <&nx>; interrupts = <9>; };
--     e { interrupts = <0 1 4>; }; f { interrupts = <0 1 4>; interrupts-extended = <&gic 1 2 3>; }; };
abbrev pub nexus : List Place
nexus =
    root ∷ (bus_of 1 1 ++ property (codes "interrupt-parent") (phandle_of (codes "gic"))
    ∷ child (codes "ic") ∷ label (codes "gic") ∷ property (codes "interrupt-controller") [] ∷ property interrupt_cells (number 3) ∷ close
    ∷ child (codes "nexus") ∷ label (codes "nx") ∷ property address_cells (number 1) ∷ property interrupt_cells (number 1)
    ∷ property (codes "interrupt-map-mask") (numbers (0xf000 ∷ 7 ∷ []))
    ∷ property (codes "interrupt-map")
    (numbers (0x1000 ∷ 1 ∷ []) ++ (phandle_of (codes "gic") ++ (numbers (0 ∷ 5 ∷ 4 ∷ 0x1000 ∷ 1 ∷ [])
    ++ (phandle_of (codes "gic") ++ (numbers (0 ∷ 6 ∷ 4 ∷ 0x2000 ∷ 1 ∷ []) ++ (phandle_of (codes "gic") ++ numbers (0 ∷ 7 ∷ 4 ∷ [])))))))
    ∷ close
    ∷ child (codes "d@1234") ∷ property (codes "reg") (numbers (0x1234 ∷ 4 ∷ [])) ∷ property (codes "interrupt-parent") (phandle_of (codes "nx"))
    ∷ property (codes "interrupts") (number 9) ∷ close
    ∷ child (codes "e") ∷ property (codes "interrupts") (numbers (0 ∷ 1 ∷ 4 ∷ [])) ∷ close
    ∷ child (codes "f") ∷ property (codes "interrupts") (numbers (0 ∷ 1 ∷ 4 ∷ []))
    ∷ property (codes "interrupts-extended") (phandle_of (codes "gic") ++ numbers (1 ∷ 2 ∷ 3 ∷ [])) ∷ close ∷ close ∷ [])

abbrev pub nexus_tree : Reading
nexus_tree =
    tree (bus_in 1 1 ++ set (codes "interrupt-parent") (cell 1) ∷ [])
    (branch (codes "ic") (set (codes "interrupt-controller") [] ∷ set interrupt_cells (cell 3) ∷ set (codes "phandle") (cell 1) ∷ []) no_nodes
    (branch (codes "nexus")
    (set address_cells (cell 1) ∷ set interrupt_cells (cell 1) ∷ set (codes "interrupt-map-mask") (cells (0xf000 ∷ 7 ∷ []))
    ∷ set (codes "interrupt-map") (cells (0x1000 ∷ 1 ∷ 1 ∷ 0 ∷ 5 ∷ 4 ∷ 0x1000 ∷ 1 ∷ 1 ∷ 0 ∷ 6 ∷ 4 ∷ 0x2000 ∷ 1 ∷ 1 ∷ 0 ∷ 7 ∷ 4 ∷ []))
    ∷ set (codes "phandle") (cell 2) ∷ []) no_nodes
    (branch (codes "d@1234") (set (codes "reg") (cells (0x1234 ∷ 4 ∷ [])) ∷ set (codes "interrupt-parent") (cell 2) ∷ set (codes "interrupts") (cell 9) ∷ []) no_nodes
    (branch (codes "e") (set (codes "interrupts") (cells (0 ∷ 1 ∷ 4 ∷ [])) ∷ []) no_nodes
    (branch (codes "f") (set (codes "interrupts") (cells (0 ∷ 1 ∷ 4 ∷ [])) ∷ set (codes "interrupts-extended") (cells (1 ∷ 1 ∷ 2 ∷ 3 ∷ [])) ∷ []) no_nodes no_nodes)))))

abbrev pub controller : Path
controller = below_root (codes "ic")

-- / { a: a { interrupt-parent = <&b>; }; b: b { interrupt-parent = <&a>; }; c { interrupt-parent = <&a>; interrupts = <1>; }; };
abbrev pub circle : List Place
circle =
    root ∷ child (codes "a") ∷ label (codes "a") ∷ property (codes "interrupt-parent") (phandle_of (codes "b")) ∷ close
    ∷ child (codes "b") ∷ label (codes "b") ∷ property (codes "interrupt-parent") (phandle_of (codes "a")) ∷ close
    ∷ child (codes "c") ∷ property (codes "interrupt-parent") (phandle_of (codes "a")) ∷ property (codes "interrupts") (number 1) ∷ close ∷ close ∷ []

abbrev pub circle_tree : Reading
circle_tree =
    tree []
    (branch (codes "a") (set (codes "interrupt-parent") (cell 2) ∷ set (codes "phandle") (cell 1) ∷ []) no_nodes
    (branch (codes "b") (set (codes "interrupt-parent") (cell 1) ∷ set (codes "phandle") (cell 2) ∷ []) no_nodes
    (branch (codes "c") (set (codes "interrupt-parent") (cell 1) ∷ set (codes "interrupts") (cell 1) ∷ []) no_nodes no_nodes)))

-- / { interrupt-parent = <&x>; x: n { }; c { interrupts = <1>; }; };
abbrev pub circle_of_root : List Place
circle_of_root =
    root ∷ property (codes "interrupt-parent") (phandle_of (codes "x")) ∷ child (codes "n") ∷ label (codes "x") ∷ close
    ∷ child (codes "c") ∷ property (codes "interrupts") (number 1) ∷ close ∷ close ∷ []

abbrev pub circle_of_root_tree : Reading
circle_of_root_tree =
    tree (set (codes "interrupt-parent") (cell 1) ∷ [])
    (branch (codes "n") (set (codes "phandle") (cell 1) ∷ []) no_nodes (branch (codes "c") (set (codes "interrupts") (cell 1) ∷ []) no_nodes no_nodes))

-- / { interrupt-parent = <1>; x: ic { interrupt-controller; #interrupt-cells = <1>; }; d { interrupts = <7>; }; };
-- In `ic` these properties stand besides.
abbrev pub raw_parent : List Place → List Place
raw_parent more =
    root ∷ property (codes "interrupt-parent") (number 1)
    ∷ child (codes "ic") ∷ label (codes "x") ∷ property (codes "interrupt-controller") [] ∷ property interrupt_cells (number 1) ∷ (more ++ close
    ∷ child (codes "d") ∷ property (codes "interrupts") (number 7) ∷ close ∷ close ∷ [])

abbrev pub raw_parent_tree : Reading
raw_parent_tree =
    tree (set (codes "interrupt-parent") (cell 1) ∷ [])
    (branch (codes "ic") (set (codes "interrupt-controller") [] ∷ set interrupt_cells (cell 1) ∷ set (codes "phandle") (cell 1) ∷ []) no_nodes
    (branch (codes "d") (set (codes "interrupts") (cell 7) ∷ []) no_nodes no_nodes))

-- / { n: nx { #address-cells = <0>; #interrupt-cells = <1>; interrupt-map = <1 ROW>; }; d { interrupts-extended = <&n &n>; }; };
-- where ROW is what follows the first cell of the map
abbrev pub named_specifier : List Part → List Place
named_specifier row =
    root ∷ child (codes "nx") ∷ label (codes "n") ∷ property address_cells (number 0) ∷ property interrupt_cells (number 1)
    ∷ property (codes "interrupt-map") (number 1 ++ row) ∷ close
    ∷ child (codes "d") ∷ property (codes "interrupts-extended") (phandle_of (codes "n") ++ phandle_of (codes "n")) ∷ close ∷ close ∷ []

-- ---- specifiers of other kinds

-- / { g: gpio { #gpio-cells = <2>; };
--     c: conn { #gpio-cells = <2>; gpio-map = <0 0 &g 5 0>, <1 0 &g 7 0>; gpio-map-mask = <0xf 0>; gpio-map-pass-thru = <0 1>; };
--     d { led-gpios = <&c 1 1>, <&g 3 0>, <&c 0x10 1>, <&c 2 0>; }; };
abbrev pub gpio_cells : Name
gpio_cells = codes "#gpio-cells"

abbrev pub leds : Name
leds = codes "led-gpios"

abbrev pub connector : List Place
connector =
    root ∷ child (codes "gpio") ∷ label (codes "g") ∷ property gpio_cells (number 2) ∷ close
    ∷ child (codes "conn") ∷ label (codes "c") ∷ property gpio_cells (number 2)
    ∷ property (codes "gpio-map") (numbers (0 ∷ 0 ∷ []) ++ (phandle_of (codes "g") ++ (numbers (5 ∷ 0 ∷ 1 ∷ 0 ∷ []) ++ (phandle_of (codes "g") ++ numbers (7 ∷ 0 ∷ [])))))
    ∷ property (codes "gpio-map-mask") (numbers (0xf ∷ 0 ∷ [])) ∷ property (codes "gpio-map-pass-thru") (numbers (0 ∷ 1 ∷ [])) ∷ close
    ∷ child (codes "d") ∷ property leds
    (phandle_of (codes "c") ++ (numbers (1 ∷ 1 ∷ []) ++ (phandle_of (codes "g") ++ (numbers (3 ∷ 0 ∷ [])
    ++ (phandle_of (codes "c") ++ (numbers (0x10 ∷ 1 ∷ []) ++ (phandle_of (codes "c") ++ numbers (2 ∷ 0 ∷ []))))))))
    ∷ close ∷ close ∷ []

abbrev pub connector_tree : Reading
connector_tree =
    tree []
    (branch (codes "gpio") (set gpio_cells (cell 2) ∷ set (codes "phandle") (cell 1) ∷ []) no_nodes
    (branch (codes "conn")
    (set gpio_cells (cell 2) ∷ set (codes "gpio-map") (cells (0 ∷ 0 ∷ 1 ∷ 5 ∷ 0 ∷ 1 ∷ 0 ∷ 1 ∷ 7 ∷ 0 ∷ []))
    ∷ set (codes "gpio-map-mask") (cells (0xf ∷ 0 ∷ [])) ∷ set (codes "gpio-map-pass-thru") (cells (0 ∷ 1 ∷ [])) ∷ set (codes "phandle") (cell 2) ∷ []) no_nodes
    (branch (codes "d") (set leds (cells (2 ∷ 1 ∷ 1 ∷ 1 ∷ 3 ∷ 0 ∷ 2 ∷ 0x10 ∷ 1 ∷ 2 ∷ 2 ∷ 0 ∷ [])) ∷ []) no_nodes no_nodes)))

abbrev pub provider : Path
provider = below_root (codes "gpio")

-- / { c: c { #x-cells = <1>; x-map = <1 &c 2>; x-map-mask = <0>; }; d { x = <&c 1>; }; }; a map that leads to itself
abbrev pub round : List Place
round =
    root ∷ child (codes "c") ∷ label (codes "c") ∷ property (codes "#x-cells") (number 1)
    ∷ property (codes "x-map") (number 1 ++ (phandle_of (codes "c") ++ number 2)) ∷ property (codes "x-map-mask") (number 0) ∷ close
    ∷ child (codes "d") ∷ property (codes "x") (phandle_of (codes "c") ++ number 1) ∷ close ∷ close ∷ []

abbrev pub round_tree : Reading
round_tree =
    tree []
    (branch (codes "c")
    (set (codes "#x-cells") (cell 1) ∷ set (codes "x-map") (cells (1 ∷ 1 ∷ 2 ∷ [])) ∷ set (codes "x-map-mask") (cell 0) ∷ set (codes "phandle") (cell 1) ∷ []) no_nodes
    (branch (codes "d") (set (codes "x") (cells (1 ∷ 1 ∷ [])) ∷ []) no_nodes no_nodes))
