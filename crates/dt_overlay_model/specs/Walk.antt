-- Applying an object to a tree, where a node that lands on one with a phandle, or on one that landed before, is joined to it: the two
-- are one node with one number (dtc's notes on overlay objects; Devicetree Specification v0.4, 2.3.3). One walk over the fragments
-- says on which node each lands, and the numbers of all that they bring.
use Rattle.std.specs.Prelude.{ℕ, zero, suc, ◌+◌, Bool, true, false, ◌&&◌, List, [], ◌∷◌, ◌++◌, length, map, Option, Some, None, is_some, option_map, option_and_then, unwrap_or, if◌then◌else◌, nat_eq, codes}
use Rattle.std.specs.List.{list_any, list_all}
use Rattle.std.specs.Option.{option_or}
use Rattle.std.specs.Int.{w32, from_be_bytes}
use Rattle.std.specs.Str.{bytes_eq}
use Rattle.dt_model.specs.Names.{Name}
use Rattle.dt_model.specs.Path.{Path, path_eq, is_bookkeeping}
use Rattle.dt_model.specs.Lists.{last_of}
use Rattle.dt_model.specs.Overlay.{content}
use Rattle.dt_model.specs.Merged.{Site, landing}
use Rattle.dt_model.specs.Object.{Cell, local_cells, nodes_from, fragment_names}
use Rattle.dt_model.specs.Numbers.{numbers_of, new_paths, number_in}
use Rattle.dt_model.specs.Tree.{Reading, Placed, value_of, node_at, value_in, nodes_of}
use Rattle.dt_model.specs.Applied.{number_at, node_numbered, node_named, symbol, landed_named, is_plain, applied_at}

-- ---- numbers

-- the least number from k that is not taken, if that takes no more tries
abbrev pub least_from : List ℕ → ℕ → ℕ → ℕ
least_from taken zero k = k
least_from taken (suc tries) k = if list_any (nat_eq k) taken then least_from taken tries (k + 1) else k

-- the least number from 1 that is not taken: at most so many are
abbrev pub least_free : List ℕ → ℕ
least_free taken = least_from taken (length taken) 1

-- What is known on the way: the sites of the fragments so far, and, in the order in which they got them, the places that got a
-- number, since a node with a phandle lands there and the base has none.
pub record Walked : Type 0 where
  pub sites : List Site
  pub given : List (Path × ℕ)

abbrev pub nothing_walked : Walked
nothing_walked = record { sites = []; given = [] }

-- the number of the node at a place: the base's, or else the one that it got
abbrev pub number_there : Reading → List (Path × ℕ) → Path → Option ℕ
number_there base given q = option_or (option_map (from_be_bytes w32) (value_in base q (codes "phandle"))) (number_in given q)

-- a node with a phandle lands on a place, which has a number already, or gets the least that no node of the base has and that no
-- place got before
abbrev pub with_place : Reading → Path → List (Path × ℕ) → List (Path × ℕ)
with_place base q given =
    if is_some (number_there base given q) then given
    else given ++ (q, least_free (map (λ (x : Path × ℕ). x.1) given ++ numbers_of base)) ∷ []

abbrev pub has_phandle : Placed → Bool
has_phandle n = is_some (value_of n.properties (codes "phandle"))

-- nodes land, one after another, on these paths
abbrev pub with_places : Reading → List Placed → List (Path × ℕ) → List (Path × ℕ)
with_places base [] given = given
with_places base (n ∷ nodes) given = with_places base nodes (if has_phandle n then with_place base n.path given else given)

-- ---- the node that a fragment's target names

-- whether the cell is the fragment's target, which has four bytes
abbrev pub is_target : Name → Cell → Bool
is_target f c = path_eq c.path (f ∷ []) && bytes_eq c.property (codes "target")

-- the last of the labels for which the target waits
abbrev pub target_label : Name → List (Name × Cell) → Option Name
target_label f fixups = last_of (λ (x : Name × Cell). if is_target f x.1 then Some x.0 else None) fixups

-- the place that got the number
abbrev pub place_given : List (Path × ℕ) → ℕ → Option Path
place_given [] n = None
place_given ((q, k) ∷ given) n = if nat_eq n k then Some q else place_given given n

-- The node that a target names, of the base or of what has landed so far: the label's, where it waits for one; else, where it holds the
-- number of a node of the object, the place on which that has landed; else the node that has the number in it.
abbrev pub named_node : Reading → Reading → Walked → Option Name → Bool → ℕ → Option Path
named_node base object w (Some l) own n = symbol base l
named_node base object w None true n = option_and_then (landing w.sites) (node_numbered (nodes_of object) n)
named_node base object w None false n = option_or (node_numbered (nodes_of base) n) (place_given w.given n)

-- the node that a fragment's `target` names, or else the one whose path's text is its `target-path`
abbrev pub target_of : Reading → Reading → List (Name × Cell) → Walked → Name → Option (List ℕ) → Option Path
target_of base object fixups w f (Some value) =
    named_node base object w (target_label f fixups) (list_any (is_target f) (local_cells object)) (number_at value 0)
target_of base object fixups w f None =
    option_and_then (λ text. option_or (node_named (nodes_of base) text) (landed_named (nodes_of object) w.sites text))
    (value_in object (f ∷ []) (codes "target-path"))

-- ---- the walk

abbrev pub site : Name → Path → Site
site f q = record { fragment = f; at = q }

-- a node on the path on which it lands
abbrev pub landing_at : Path → Placed → Placed
landing_at q n = record { path = q ++ n.path; properties = n.properties }

-- the nodes that a fragment brings to its site, in preorder
abbrev pub landings : Reading → Site → List Placed
landings object x = map (landing_at x.at) (nodes_from (node_at object (content x.fragment)))

-- what is known behind a fragment that lands on q
abbrev pub landed_on : Reading → Reading → Walked → Name → Path → Walked
landed_on base object w f q = record { sites = w.sites ++ site f q ∷ []; given = with_places base (landings object (site f q)) w.given }

-- no fragment lands on a bookkeeping node
abbrev pub if_plain : Reading → Reading → Walked → Name → Path → Option Walked
if_plain base object w f q = if is_bookkeeping q then None else Some (landed_on base object w f q)

abbrev pub walk_one : Reading → Reading → List (Name × Cell) → Walked → Name → Option Walked
walk_one base object fixups w f =
    option_and_then (if_plain base object w f) (target_of base object fixups w f (value_in object (f ∷ []) (codes "target")))

-- the fragments, one after another
abbrev pub walk : Reading → Reading → List (Name × Cell) → Walked → List Name → Option Walked
walk base object fixups w [] = Some w
walk base object fixups w (f ∷ fs) = option_and_then (λ next. walk base object fixups next fs) (walk_one base object fixups w f)

-- ---- the result

-- the number of a node of the object: that of the place on which it lands
abbrev pub new_number : Reading → Walked → Path → Option ℕ
new_number base w p = option_and_then (number_there base w.given) (landing w.sites p)

-- the numbers of all nodes that a fragment brings and that have a phandle, in preorder
abbrev pub new_numbers : Reading → Reading → Walked → List (Path × ℕ)
new_numbers base object w = map (λ (p : Path). (p, unwrap_or (new_number base w p) 0)) (new_paths object)

-- the base has the labels, and nothing lands among its bookkeeping nodes
abbrev pub may_land : Reading → Reading → List (Name × Cell) → List Site → Bool
may_land base object fixups sites =
    list_all (λ (x : Name × Cell). is_some (symbol base x.0)) fixups
    && list_all (λ (n : Placed). is_plain (landing sites n.path)) (nodes_of object)

abbrev pub applied_by : Reading → Reading → List (Name × Cell) → Walked → Option Reading
applied_by base object fixups w =
    if may_land base object fixups w.sites then Some (applied_at base object fixups (new_numbers base object w) w.sites) else None

-- the base with the object applied, which lists these cells that wait for labels; none where a target isn't found, a label isn't
-- the base's, or something lands among bookkeeping nodes. What else an object is refused for doesn't show here (WhyNotApplied).
abbrev pub applied : Reading → Reading → List (Name × Cell) → Option Reading
applied base object fixups =
    option_and_then (applied_by base object fixups) (walk base object fixups nothing_walked (fragment_names object.children))
