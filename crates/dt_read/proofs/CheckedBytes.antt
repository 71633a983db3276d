-- Bytes that are a blob spell one tree, with its places, and are read as it.
use Rattle.std.proofs.Common.{◌≡◌, ℕ, ◌-◌, ◌<◌, ◌^◌, List, drop, length, sym, ap, subst, ◌∙◌, refl, arith}
use Rattle.dt_model.specs.Names.{Name}
use Rattle.dt_model.specs.Tree.{Property, Forest, Reading, value_of, value_in}
use Rattle.dt_model.specs.Format.{Reads, IsWithin}
use Rattle.dt_model.specs.Checks.{number, counted, strings_of, structure_of, AreApart, AreNumbered}
use Rattle.dt_model_format.proofs.FirstFaults.{one_spelled}
use Rattle.dt_model_format.proofs.NoFaults.{number_is, reserved_at, spelled_tree_of, spelled_of, apart_of, numbered_of}
use Rattle.dt_read.specs.declared.blocks.Blocks.{Blocks}
use Rattle.dt_read.specs.Blocks.{AreBlocks, IsWellPlaced}
use Rattle.dt_read.specs.Checked.{IsBlob, root_of, placed_of}
use Rattle.dt_read.specs.Marks.{Root}
use Rattle.dt_read.specs.Pairs.{pairs_of}
use Rattle.dt_read.specs.Parsing.{tree_in}
use Rattle.dt_trees.specs.Placed.{PlacedTree, forest_of, reading_of, path_at, last_name, properties_at, IsNode}
use Rattle.dt_read.specs.TreeTokens.{Parts, node_of, marks_in, AreTokens, BeginsNode, HasTree, IsStructure}
use Rattle.dt_read.specs.Lying.{IsFromNode}
use Rattle.dt_read.proofs.Headers.{fine, is_sound}
use Rattle.dt_read.proofs.Lying.{rest_of_part}
use Rattle.std.proofs.lemmas.List.{length-drop, length-take-le}
use Rattle.dt_read.proofs.Numbers.{IsBytes}
use Rattle.dt_read.proofs.Nodes.{Place, place_of, if_some_node, tree_in_is}
use Rattle.dt_read.proofs.Ordering.{rising_places}
use Rattle.dt_read.proofs.PairLemmas.{reserved_pairs}
use Rattle.dt_read.proofs.Scanning.{tree_spelled}
use Rattle.dt_read.proofs.Wholes.{at_same, properties_so, value_so, number_small, may_copy}

-- the root of some bytes has these properties and children
pub record IsRoot (bytes : List ℕ) (t : Reading) : Type 0 where
  pub tree : HasTree (strings_of bytes) (number bytes 8) (structure_of bytes) (root_of bytes)
  pub properties : (root_of bytes).properties ≡ t.properties
  pub children : forest_of (root_of bytes).children ≡ t.children

pub root_is_read : (bytes : List ℕ) (t : Reading) → Reads bytes t → IsWithin bytes t → IsRoot bytes t
root_is_read bytes t reads within =
    let s = spelled_of bytes t reads within in
    let h = tree_spelled (strings_of bytes) (structure_of bytes) (number bytes 8) s.tokens s.end s.spelled s.led s.closed s.ended in
    let own : root_of bytes ≡ h.0 = tree_in_is (strings_of bytes) (number bytes 8) (structure_of bytes) h.0 h.1 in
    let same = one_spelled (strings_of bytes) (structure_of bytes) h.0.properties t.properties (forest_of h.0.children) t.children h.1.checked (spelled_tree_of bytes t reads) in
    record {
      tree = subst (HasTree (strings_of bytes) (number bytes 8) (structure_of bytes)) (sym own) h.1;
      properties = ap (λ (r : Root). r.properties) own ∙ same.0;
      children = ap (λ (r : Root). forest_of r.children) own ∙ same.1;
    }

-- the tree of a blob's bytes is the one that they are read as
pub placed_is_read : (bytes : List ℕ) (t : Reading) → Reads bytes t → IsWithin bytes t → reading_of (placed_of bytes) ≡ t
unfolding placed_of
placed_is_read bytes t reads within =
    let root = root_is_read bytes t reads within in
    let cpu : number bytes 28 ≡ t.boot_cpu = number_is bytes 28 reads.header.boot_cpu reads.words.boot_cpu ∙ sym reads.boot_cpu in
    let pairs : pairs_of (drop (number bytes 16) (counted bytes)) ≡ t.reservations = reserved_pairs t.reservations (drop (number bytes 16) (counted bytes)) reads.behind reads.valid.reservations (reserved_at bytes t reads) in
    λ i. record { boot_cpu = cpu i; reservations = pairs i; properties = root.properties i; children = root.children i }

-- a root with the rest of a blob
abbrev pub placed_with : Blocks → Root → PlacedTree
placed_with b t = record { boot_cpu = b.boot_cpu; reservations = pairs_of b.reservations.now; place = t.place; properties = t.properties; children = t.children }

-- the blocks' tree is that of the bytes
root_is : (bytes : List ℕ) (b : Blocks) → AreBlocks bytes b → tree_in b.strings.now b.at b.block.now ≡ root_of bytes
root_is bytes b a = λ i. tree_in (a.strings i) (a.at i) (a.block i)

pub placed_is : (bytes : List ℕ) (b : Blocks) (t : Root) → AreBlocks bytes b → t ≡ tree_in b.strings.now b.at b.block.now → placed_with b t ≡ placed_of bytes
unfolding placed_of
placed_is bytes b t a e =
    let r : t ≡ root_of bytes = e ∙ root_is bytes b a in
    λ i. record { boot_cpu = a.boot_cpu i; reservations = pairs_of (a.reservations i); place = (r i).place; properties = (r i).properties; children = (r i).children }

-- what the check has found
pub placed_by : (bytes : List ℕ) (b : Blocks) (t : Root) → AreBlocks bytes b → HasTree b.strings.now b.at b.block.now t → placed_with b t ≡ placed_of bytes
placed_by bytes b t a h = placed_is bytes b t a (sym (tree_in_is b.strings.now b.at b.block.now t h))

-- the blocks of a blob's bytes spell its tree
tree_again : (bytes : List ℕ) (b : Blocks) → AreBlocks bytes b → HasTree (strings_of bytes) (number bytes 8) (structure_of bytes) (root_of bytes) → HasTree b.strings.now b.at b.block.now (tree_in b.strings.now b.at b.block.now)
tree_again bytes b a h = subst (HasTree b.strings.now b.at b.block.now) (sym (root_is bytes b a))
    (subst (λ (s : List ℕ). HasTree s b.at b.block.now (root_of bytes)) (sym a.strings)
    (subst (λ (n : ℕ). HasTree (strings_of bytes) n b.block.now (root_of bytes)) (sym a.at)
    (subst (λ (s : List ℕ). HasTree (strings_of bytes) (number bytes 8) s (root_of bytes)) (sym a.block) h)))

pub structure_again : (bytes : List ℕ) (b : Blocks) → AreBlocks bytes b → IsBlob bytes → IsStructure b.strings.now b.at b.block.now
structure_again bytes b a is = record { tree = tree_again bytes b a (root_is_read bytes is.0 is.1 is.2).tree; small = a.small }

pub well_placed : (bytes : List ℕ) (b : Blocks) (t : Root) → IsBytes bytes → AreBlocks bytes b → b.boot_cpu < 2 ^ 32 → t ≡ tree_in b.strings.now b.at b.block.now → IsBlob bytes → IsWellPlaced (placed_with b t)
well_placed bytes b t fits a small own is =
    let root = root_is_read bytes is.0 is.1 is.2 in
    let h : HasTree b.strings.now b.at b.block.now t = subst (HasTree b.strings.now b.at b.block.now) (sym own) (tree_again bytes b a root.tree) in
    let r : t ≡ root_of bytes = own ∙ root_is bytes b a in
    let ps : t.properties ≡ is.0.properties = ap (λ (u : Root). u.properties) r ∙ root.properties in
    let cs : forest_of t.children ≡ is.0.children = ap (λ (u : Root). forest_of u.children) r ∙ root.children in
    let apart : AreApart t.properties (forest_of t.children) =
    subst (λ (p : List Property). AreApart p (forest_of t.children)) (sym ps) (subst (λ (c : Forest). AreApart is.0.properties c) (sym cs) (apart_of bytes is.0 is.1)) in
    let numbered : AreNumbered t.properties (forest_of t.children) =
    subst (λ (p : List Property). AreNumbered p (forest_of t.children)) (sym ps) (subst (λ (c : Forest). AreNumbered is.0.properties c) (sym cs) (numbered_of bytes is.0 is.1)) in
    record {
      rising = rising_places b.strings.now b.at b.block.now t h;
      apart = apart;
      copy = may_copy bytes b t fits a small h apart numbered;
    }

-- ---- the nodes

-- where a node's tokens begin in the blocks, and what the tree has there
pub record IsThere (bytes : List ℕ) (b : Blocks) (node : ℕ) : Type 0 where
  pub parts : Parts
  pub place : Place b.strings.now b.at b.block.now node parts
  pub name : last_name (path_at (placed_of bytes) node) ≡ parts.name
  pub properties : properties_at (placed_of bytes) (path_at (placed_of bytes) node) ≡ parts.properties
  pub value : (x : Name) → value_in (reading_of (placed_of bytes)) (path_at (placed_of bytes) node) x ≡ value_of parts.properties x

pub node_is_there : (bytes : List ℕ) (b : Blocks) (node : ℕ) → IsBytes bytes → AreBlocks bytes b → IsBlob bytes → IsNode (placed_of bytes) node → IsThere bytes b node
node_is_there bytes b node fits a is at =
    let root = tree_in b.strings.now b.at b.block.now in
    let path = path_at (placed_of bytes) node in
    let cpu = number_small bytes 28 fits in
    let boot = a.boot_cpu in
    let w = well_placed bytes b root fits a (omega arith) refl is in
    let same = placed_is bytes b root a refl in
    let p = at_same (placed_with b root) (placed_of bytes) same w path node at in
    record {
      parts = p.parts;
      place = place_of b.strings.now b.at b.block.now node p.parts (structure_again bytes b a is) p.found;
      name = p.name;
      properties = sym (properties_so (placed_with b root) (placed_of bytes) same w path node at p.parts.properties (if_some_node (λ parts. p.parts.properties ≡ parts.properties) (node_of root node) p.parts p.found refl));
      value = λ x. sym (value_so (placed_with b root) (placed_of bytes) same w path node at x (value_of p.parts.properties x) (if_some_node (λ parts. value_of p.parts.properties x ≡ value_of parts.properties x) (node_of root node) p.parts p.found refl));
    }

-- the tokens from a node on
pub from_node : (bytes : List ℕ) (b : Blocks) (node : ℕ) (left : List ℕ) → AreBlocks bytes b → IsThere bytes b node → left ≡ drop (node - b.at) b.block.now → IsFromNode bytes node b.strings.now left
from_node bytes b node left a there e =
    let p = there.place in
    let sound = is_sound bytes (fine bytes a.passes) in
    let block = sound.structure_inside in
    let total = sound.inside in
    let strings = sound.strings_inside in
    let at = a.at in
    let behind = p.behind in
    let within = p.within in
    let size : length b.block.now ≡ number bytes 36 = ap length a.block ∙ length-take-le (number bytes 36) (drop (number bytes 8) bytes) (omega (arith, length-drop (number bytes 8) bytes)) in
    let is : left ≡ drop (node - number bytes 8) (structure_of bytes) = e ∙ (λ i. drop (node - at i) (a.block i)) in
    let part = rest_of_part bytes (number bytes 8) (number bytes 36) node left (omega arith) (omega arith) (omega arith) is in
    record {
      parts = there.parts;
      tokens = subst (AreTokens b.strings.now node) (sym e) p.tokens;
      begins = subst (λ (l : List ℕ). BeginsNode (marks_in b.strings.now node l) node there.parts) (sym e) p.begins;
      inside = part.0;
      front = part.1;
      block = is;
      names = a.strings;
      names_inside = omega arith;
      name = there.name;
      properties = there.properties;
      value = there.value;
    }
