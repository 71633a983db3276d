-- The entry of `reg` that an index names.
use Rattle.std.proofs.Common.{◌≡◌, ◌≢◌, ℕ, suc, ◌+◌, ◌-◌, ◌*◌, ◌/◌, ◌%◌, ◌<◌, ◌≤◌, List, [], ◌∷◌, take, drop, length, Option, Some, None, refl, sym, ap, subst, ◌∙◌, arith}
use Rattle.std.specs.Prelude.{codes, option_map}
use Rattle.dt_names.specs.declared.fault.Fault.{Fault}
use Rattle.dt_names.specs.declared.fault.FaultKind.TheVariants.{NoReg}
use Rattle.dt_resolve_model.specs.declared.regions.BusCells.{BusCells}
use Rattle.dt_model.specs.Path.{Path}
use Rattle.dt_resolve_model.specs.Above.{front}
use Rattle.dt_model.specs.Tree.{Reading, value_in}
use Rattle.dt_resolve_model.specs.Answers.{Answer, refused, refuse, answer, ◌>>=◌}
use Rattle.dt_resolve_model.specs.World.{Quad, World, quads_of, value_of_bytes, tree_world}
use Rattle.dt_resolve_model.specs.Regions.{joined, cells_at, bus_cells, entries, entries_of, entry_at, region_at, listed, region}
use Rattle.dt_resolve_model.proofs.Entries.{entries_whole, entry_there, entry_past}
use Rattle.dt_trees.specs.Placed.{PlacedTree, path_at, reading_of, IsNode}
use Rattle.dt_ranges.specs.Left.{region_of, AreFrom, RegionsLeft}
use Rattle.dt_ranges.proofs.RangesMap.{part_of}

-- what a node's `reg` gives, where its bus has bus_cells and its length is right
pub region_listed : (t : Reading) (p q : Path) (i : ℕ) (reg : List ℕ) (own : BusCells) → p ≢ [] → q ≡ front p → Some reg ≡ value_in t p (codes "reg") → answer own ≡ bus_cells (tree_world t) q → own.address + own.size ≢ 0 → length reg % (4 * (own.address + own.size)) ≡ 0
    → region (tree_world t) p i ≡ (entry_at NoReg i (entries (length reg / (4 * (own.address + own.size))) (own.address + own.size) (quads_of reg)) >>= region_of (tree_world t) q own)
region_listed t [] q i reg own some is there has width even = absurd (some refl)
region_listed t (n ∷ names) q i reg own some is there has width even =
    let w = tree_world t in
    let v = value_of_bytes reg in
    ap (λ (o : Option (List ℕ)). listed w (front (n ∷ names)) i (option_map value_of_bytes o)) (sym there)
    ∙ ap (λ (z : Path). listed w z i (Some v)) (sym is)
    ∙ ap (λ (x : Answer BusCells). x >>= λ (c : BusCells). entries_of (c.address + c.size) v >>= entry_at NoReg i >>= region_of w q c) (sym has)
    ∙ ap (λ (x : Answer (List (List Quad))). x >>= entry_at NoReg i >>= region_of w q own) (entries_whole (own.address + own.size) v width even)

-- where a node has no `reg`
pub region_unlisted : (t : Reading) (p : Path) (i : ℕ) → None ≡ value_in t p (codes "reg") → region (tree_world t) p i ≡ refuse NoReg
region_unlisted t [] i none = refl
region_unlisted t (n ∷ names) i none = ap (λ (o : Option (List ℕ)). listed (tree_world t) (front (n ∷ names)) i (option_map value_of_bytes o)) (sym none)

-- where the bus has no counts
pub region_refused : (t : Reading) (p q : Path) (i : ℕ) (reg : List ℕ) (e : Fault) → p ≢ [] → q ≡ front p → Some reg ≡ value_in t p (codes "reg") → refused e ≡ bus_cells (tree_world t) q → region (tree_world t) p i ≡ refused e
region_refused t [] q i reg e some is there has = absurd (some refl)
region_refused t (n ∷ names) q i reg e some is there has =
    let w = tree_world t in
    let v = value_of_bytes reg in
    ap (λ (o : Option (List ℕ)). listed w (front (n ∷ names)) i (option_map value_of_bytes o)) (sym there)
    ∙ ap (λ (z : Path). listed w z i (Some v)) (sym is)
    ∙ ap (λ (x : Answer BusCells). x >>= λ (c : BusCells). entries_of (c.address + c.size) v >>= entry_at NoReg i >>= region_of w q c) (sym has)

-- from the first entry on
pub listed_left : (t : Reading) (p q : Path) (reg : List ℕ) (own : BusCells) (i : ℕ) → p ≢ [] → q ≡ front p → Some reg ≡ value_in t p (codes "reg") → answer own ≡ bus_cells (tree_world t) q → own.address + own.size ≢ 0 → length reg % (4 * (own.address + own.size)) ≡ 0
    → region (tree_world t) p (0 + i) ≡ (entry_at NoReg i (entries (length reg / (4 * (own.address + own.size))) (own.address + own.size) (quads_of reg)) >>= region_of (tree_world t) q own)
listed_left t p q reg own i some is there has width even =
    ap (region (tree_world t) p) (let e : 0 + i ≡ i = omega arith in e) ∙ region_listed t p q i reg own some is there has width even

-- behind the last entry
pub left_past : (t : PlacedTree) (p : Path) (i k : ℕ) (r : RegionsLeft) → AreFrom t p i r → r.count ≤ k → region (tree_world (reading_of t)) p (i + k) ≡ refuse NoReg
left_past t p i k r left past =
    left.left k
    ∙ ap (λ (x : Answer (List Quad)). x >>= region_of (tree_world (reading_of t)) (path_at t r.bus) r.own) (entry_past NoReg k r.count (r.own.address + r.own.size) (quads_of r.bytes) past)

-- at an entry
pub left_there : (t : PlacedTree) (p : Path) (i k : ℕ) (r : RegionsLeft) (rest : List ℕ) (address size : ℕ) → AreFrom t p i r → k < r.count → quads_of rest ≡ drop (k * (r.own.address + r.own.size)) (quads_of r.bytes)
    → joined (cells_at 0 r.own.address (quads_of rest)) ≡ answer address → joined (cells_at r.own.address r.own.size (quads_of rest)) ≡ answer size
    → region (tree_world (reading_of t)) p (i + k) ≡ region_at (tree_world (reading_of t)) (codes "ranges") (path_at t r.bus) address size
left_there t p i k r rest address size left lt cells at long =
    let world = tree_world (reading_of t) in
    let q = path_at t r.bus in
    let own = r.own in
    let w = own.address + own.size in
    let all = quads_of r.bytes in
    let at' : joined (cells_at 0 own.address (take w (drop (k * w) all))) ≡ answer address = ap joined (part_of w 0 own.address (drop (k * w) all) (omega arith) ∙ ap (cells_at 0 own.address) (sym cells)) ∙ at in
    let long' : joined (cells_at own.address own.size (take w (drop (k * w) all))) ≡ answer size = ap joined (part_of w own.address own.size (drop (k * w) all) (omega arith) ∙ ap (cells_at own.address own.size) (sym cells)) ∙ long in
    left.left k
    ∙ ap (λ (x : Answer (List Quad)). x >>= region_of world q own) (entry_there NoReg k r.count w all lt)
    ∙ ap (λ (x : Answer ℕ). x >>= λ (a : ℕ). joined (cells_at own.address own.size (take w (drop (k * w) all))) >>= λ (s : ℕ). region_at world (codes "ranges") q a s) at'
    ∙ ap (λ (x : Answer ℕ). x >>= λ (s : ℕ). region_at world (codes "ranges") q address s) long'

-- past an entry
pub left_behind : (t : PlacedTree) (p : Path) (i n : ℕ) (r new : RegionsLeft) → AreFrom t p i r → r.count ≡ suc n → new.bus ≡ r.bus → new.own ≡ r.own → new.count ≡ n → length new.bytes ≡ length r.bytes - 4 * (r.own.address + r.own.size)
    → quads_of new.bytes ≡ drop (r.own.address + r.own.size) (quads_of r.bytes) → AreFrom t p (i + 1) new
left_behind t p i n r new left count bus own fewer shorter cells = record {
  bus = subst (IsNode t) (sym bus) left.bus;
  cells = ap (λ q. bus_cells world (path_at t q)) bus ∙ left.cells ∙ ap (λ (c : BusCells). answer c) (sym own);
  address = subst (λ (c : BusCells). c.address ≤ 4) (sym own) left.address;
  size = subst (λ (c : BusCells). c.size ≤ 4) (sym own) left.size;
  long = subst (λ (c : BusCells). length new.bytes ≡ new.count * (4 * (c.address + c.size))) (sym own) long;
  left = λ k. ap (region world p) (let e : i + 1 + k ≡ i + suc k = omega arith in e) ∙ left.left (suc k) ∙ ap (λ m. entry_at NoReg (suc k) (entries m w (quads_of r.bytes)) >>= region_of world (path_at t r.bus) r.own) count
      ∙ ap (λ c. entry_at NoReg k (entries n w c) >>= region_of world (path_at t r.bus) r.own) (sym cells)
      ∙ (λ j. entry_at NoReg k (entries (fewer' j) (width j) (quads_of new.bytes)) >>= region_of world (path_at t (bus' j)) (own' j));
}
  where
    world : World
    world = tree_world (reading_of t)

    w : ℕ
    w = r.own.address + r.own.size

    fewer' : n ≡ new.count
    fewer' = sym fewer

    bus' : r.bus ≡ new.bus
    bus' = sym bus

    own' : r.own ≡ new.own
    own' = sym own

    width : w ≡ new.own.address + new.own.size
    width = ap (λ (c : BusCells). c.address + c.size) own'

    long : length new.bytes ≡ new.count * (4 * w)
    long =
        let product : suc n * (4 * w) ≡ n * (4 * w) + 4 * w = grind arith in
        let all : length r.bytes ≡ n * (4 * w) + 4 * w = left.long ∙ ap (λ m. m * (4 * w)) count ∙ product in
        let same : n * (4 * w) ≡ new.count * (4 * w) = ap (λ m. m * (4 * w)) fewer' in
        omega arith
