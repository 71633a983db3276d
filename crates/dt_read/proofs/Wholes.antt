-- A blob that was checked is read as its tree, and each path of it as its node.
use Rattle.std.proofs.Common.{◌⊎◌, ◌≡◌, ◌≢◌, ℕ, ◌+◌, ◌<◌, ◌^◌, List, [], ◌∷◌, ◌++◌, drop, map, Option, Some, None, refl, sym, ap, subst, ◌∙◌, arith, inl, inr}
use Rattle.std.proofs.lemmas.Option.{same_Some}
use Rattle.dt_model.specs.Names.{Name}
use Rattle.dt_model.specs.Path.{Path}
use Rattle.dt_model.specs.Tree.{Property, Node, node_at, value_of, value_in}
use Rattle.dt_model.specs.Valid.{names, phandle_values, phandles}
use Rattle.dt_model.specs.Format.{Reads, IsWithin, word_at}
use Rattle.dt_model.specs.Checks as checks
use Rattle.dt_model.specs.Checks.{BlobFault, over_limit, number, strings_of, structure_of, HasReservations, StopsAt, AreApart, AreNumbered, IsFirstFault, at_a_limit, at_a_token, in_names, in_phandles}
use Rattle.dt_names.specs.declared.fault.FaultKind.{FaultKind}
use Rattle.dt_names.specs.declared.fault.FaultKind.TheVariants.{Limit}
use Rattle.dt_read.specs.declared.blocks.Blocks.{Blocks}
use Rattle.dt_read.specs.Kinds.{kind_of}
use Rattle.dt_trees.specs.Placed.{no_nodes, forest_of, PlacedTree, reading_of, place_of, IsAt, last_name, properties_found, names_under, properties_at, child_names}
use Rattle.dt_read.specs.Marks.{Root}
use Rattle.dt_read.specs.TreeTokens.{Parts, node_of, heads_of, head_named, HasTree}
use Rattle.dt_read.specs.Pairs.{pairs_of}
use Rattle.dt_read.specs.Walked.{Step, holds, closes, steps_of_nodes, WalkIn}
use Rattle.dt_read.specs.Phandle.{ArePhandles}
use Rattle.dt_read.specs.Blocks.{AreBlocks, whole_of, IsWellPlaced}
use Rattle.dt_read.specs.Growth.{reading_with, MayCopy}
use Rattle.dt_read.proofs.Numbers.{IsBytes, IsBytes-drop, IsBytes-take, number_takes}
use Rattle.dt_read.proofs.ByteValues.{has_own_numbers}
use Rattle.dt_read.proofs.Headers.{fine, header_of, has_header, is_sound}
use Rattle.dt_read.proofs.Apart.{below_is_node, root_is_node, parts_apart}
use Rattle.dt_read.proofs.Nodes.{at_node}
use Rattle.std.specs.Prelude.{IsSome, IfSome, option_and_then, unwrap_or}
use Rattle.dt_read.proofs.Paths.{plain, one_path, found_below_path, child_place, child_places}

-- ---- the reading

pub reserved_at : (bytes : List ℕ) (b : Blocks) → AreBlocks bytes b → HasReservations bytes
reserved_at bytes b a = (pairs_of b.reservations.now, a.reserved.behind, a.reserved.valid, sym a.reservations ∙ a.reserved.whole)

pub checked_at : (bytes : List ℕ) (b : Blocks) (tree : Root) → AreBlocks bytes b → HasTree b.strings.now b.at b.block.now tree → checks.IsSpelled (strings_of bytes) (structure_of bytes) tree.properties (forest_of tree.children)
checked_at bytes b tree a h =
    subst (λ (s : List ℕ). checks.IsSpelled s (structure_of bytes) tree.properties (forest_of tree.children)) a.strings
    (subst (λ (s : List ℕ). checks.IsSpelled b.strings.now s tree.properties (forest_of tree.children)) a.block h.checked)

pub reads : (bytes : List ℕ) (b : Blocks) (tree : Root) → AreBlocks bytes b → b.boot_cpu < 2 ^ 32 → HasTree b.strings.now b.at b.block.now tree → AreApart tree.properties (forest_of tree.children) → AreNumbered tree.properties (forest_of tree.children)
    → Reads bytes (record { boot_cpu = b.boot_cpu; reservations = pairs_of b.reservations.now; properties = tree.properties; children = forest_of tree.children })
reads bytes b tree a small h apart numbered =
    let f = fine bytes a.passes in
    let s = checked_at bytes b tree a h in
    record {
      header = header_of bytes;
      words = has_header bytes f;
      sound = is_sound bytes f;
      boot_cpu = a.boot_cpu;
      behind = a.reserved.behind;
      reservations = sym a.reservations ∙ a.reserved.whole;
      structure = record { tokens = s.tokens; spelled = s.spelled; whole = s.whole };
      valid = record {
        boot_cpu = small;
        reservations = a.reserved.valid;
        properties = apart.properties_apart;
        nodes = apart.nodes_apart;
        siblings = apart.siblings_apart;
        phandles_valid = numbered.valid;
        phandles_distinct = numbered.own;
      };
    }

pub within : (bytes : List ℕ) (b : Blocks) (tree : Root) → AreBlocks bytes b → HasTree b.strings.now b.at b.block.now tree
    → IsWithin bytes (record { boot_cpu = b.boot_cpu; reservations = pairs_of b.reservations.now; properties = tree.properties; children = forest_of tree.children })
within bytes b tree a h =
    let f = fine bytes a.passes in
    record { header = header_of bytes; words = has_header bytes f; size = f.size; tree = record { count = h.count; depth = h.depth } }

-- the tree may be copied
pub may_copy : (bytes : List ℕ) (b : Blocks) (tree : Root) → IsBytes bytes → AreBlocks bytes b → b.boot_cpu < 2 ^ 32 → HasTree b.strings.now b.at b.block.now tree → AreApart tree.properties (forest_of tree.children) → AreNumbered tree.properties (forest_of tree.children)
    → MayCopy (reading_with b.boot_cpu (pairs_of b.reservations.now) tree)
may_copy bytes b tree fits a small h apart numbered =
    let block : IsBytes b.block.now = subst IsBytes (sym a.block) (IsBytes-take (number bytes 36) (drop (number bytes 8) bytes) (IsBytes-drop (number bytes 8) bytes fits)) in
    record {
      valid = (reads bytes b tree a small h apart numbered).valid;
      within = (within bytes b tree a h).tree;
      numbers = has_own_numbers b.strings.now b.at b.block.now tree block h apart numbered.valid numbered.own;
    }

pub numbered_by : (tree : Root) (values : List (List ℕ)) → values ≡ phandle_values tree.properties ++ phandles (forest_of tree.children) → ArePhandles values → AreNumbered tree.properties (forest_of tree.children)
numbered_by tree values e a = let b = subst ArePhandles e a in record { valid = b.each; own = b.distinct }

pub by_numbered : (tree : Root) (values : List (List ℕ)) → values ≡ phandle_values tree.properties ++ phandles (forest_of tree.children) → AreNumbered tree.properties (forest_of tree.children) → ArePhandles values
by_numbered tree values e n = subst ArePhandles (sym e) (record { each = n.valid; distinct = n.own })

-- ---- the first fault

-- a fault is a limit, or its kind is another
limit_or : (f : BlobFault) → (f ≡ over_limit) ⊎ ((f ≢ over_limit) × (kind_of f ≢ Limit))
limit_or checks.short_header = inr (λ e. absurd cc, λ e. absurd cc)
limit_or checks.bad_magic = inr (λ e. absurd cc, λ e. absurd cc)
limit_or checks.bad_total = inr (λ e. absurd cc, λ e. absurd cc)
limit_or checks.over_limit = inl refl
limit_or checks.bad_version = inr (λ e. absurd cc, λ e. absurd cc)
limit_or checks.misaligned = inr (λ e. absurd cc, λ e. absurd cc)
limit_or checks.block_outside = inr (λ e. absurd cc, λ e. absurd cc)
limit_or checks.no_reservation_end = inr (λ e. absurd cc, λ e. absurd cc)
limit_or checks.bad_tag = inr (λ e. absurd cc, λ e. absurd cc)
limit_or checks.structure_cut = inr (λ e. absurd cc, λ e. absurd cc)
limit_or checks.bad_name = inr (λ e. absurd cc, λ e. absurd cc)
limit_or checks.bad_name_offset = inr (λ e. absurd cc, λ e. absurd cc)
limit_or checks.bad_nesting = inr (λ e. absurd cc, λ e. absurd cc)
limit_or checks.late_property = inr (λ e. absurd cc, λ e. absurd cc)
limit_or checks.bad_end = inr (λ e. absurd cc, λ e. absurd cc)
limit_or checks.duplicate = inr (λ e. absurd cc, λ e. absurd cc)
limit_or checks.bad_phandle = inr (λ e. absurd cc, λ e. absurd cc)

pub first_at : (bytes : List ℕ) (b : Blocks) (f : BlobFault) (kind : FaultKind) (offset : ℕ) (at : Option ℕ) → AreBlocks bytes b → kind ≡ kind_of f → StopsAt b.strings.now b.block.now offset f
    → (kind ≡ Limit → at ≡ None) → (kind ≢ Limit → at ≡ Some (b.at + offset)) → IsFirstFault bytes f at
first_at bytes b f kind offset at a k stop limit other =
    let here : StopsAt (strings_of bytes) (structure_of bytes) offset f =
    subst (λ (s : List ℕ). StopsAt s (structure_of bytes) offset f) a.strings (subst (λ (s : List ℕ). StopsAt b.strings.now s offset f) a.block stop) in
    elim (limit_or f) [
      | inl is ↦
          let none : at ≡ None = limit (k ∙ ap kind_of is) in
          let there : StopsAt (strings_of bytes) (structure_of bytes) offset over_limit = subst (λ (g : BlobFault). StopsAt (strings_of bytes) (structure_of bytes) offset g) is here in
          subst (λ (g : BlobFault). IsFirstFault bytes g at) (sym is) (subst (IsFirstFault bytes over_limit) (sym none) (at_a_limit a.passes (reserved_at bytes b a) offset there))
      | inr isn't ↦
          let some : at ≡ Some (number bytes 8 + offset) = other (λ e. isn't.1 (sym k ∙ e)) ∙ ap (λ (n : ℕ). Some (n + offset)) a.at in
          subst (IsFirstFault bytes f) (sym some) (at_a_token a.passes (reserved_at bytes b a) f offset isn't.0 here)
    ]

pub names_at : (bytes : List ℕ) (b : Blocks) (tree : Root) → AreBlocks bytes b → HasTree b.strings.now b.at b.block.now tree → ¬ AreApart tree.properties (forest_of tree.children) → IsFirstFault bytes checks.duplicate None
names_at bytes b tree a h differ = in_names a.passes (reserved_at bytes b a) tree.properties (forest_of tree.children) (checked_at bytes b tree a h) differ

pub phandles_at : (bytes : List ℕ) (b : Blocks) (tree : Root) → AreBlocks bytes b → HasTree b.strings.now b.at b.block.now tree → AreApart tree.properties (forest_of tree.children) → ¬ AreNumbered tree.properties (forest_of tree.children) → IsFirstFault bytes checks.bad_phandle None
phandles_at bytes b tree a h apart bad = in_phandles a.passes (reserved_at bytes b a) tree.properties (forest_of tree.children) (checked_at bytes b tree a h) apart bad

-- ---- paths

pub places : (t : PlacedTree) → IsWellPlaced t → (p q : Path) (k : ℕ) → IsAt t p k → IsAt t q k → p ≡ q
places t w p q k e f = one_path t.children t.place (t.place + 1) w.rising.high p q k (omega arith) w.rising.rise e f

-- what is at the place of a path
pub record AtPath (t : PlacedTree) (path : Path) (k : ℕ) : Type 0 where
  pub parts : Parts
  pub found : node_of (whole_of t) k ≡ Some parts
  pub there : node_at (reading_of t) path ≡ Some (plain parts)
  pub name : last_name path ≡ parts.name
  pub children : map (λ n. Some n) (map (λ h. h.0) (heads_of parts.children)) ≡ map (λ x. place_of t (path ++ x ∷ [])) (names (forest_of parts.children))
  pub child : (x : Name) → place_of t (path ++ x ∷ []) ≡ head_named (heads_of parts.children) x

pub at_path : (t : PlacedTree) → IsWellPlaced t → (path : Path) (k : ℕ) → IsAt t path k → AtPath t path k
at_path t w [] k e =
    let is : t.place ≡ k = same_Some t.place k e in
    record {
      parts = record { name = []; properties = t.properties; children = t.children; siblings = no_nodes };
      found = subst (λ (n : ℕ). node_of (whole_of t) n ≡ Some (record { name = []; properties = t.properties; children = t.children; siblings = no_nodes })) is (root_is_node (whole_of t));
      there = refl;
      name = refl;
      children = sym (child_places t.place t.children w.apart.siblings_apart);
      child = child_place t.place t.children;
    }
at_path t w (x ∷ p) k e =
    let f = found_below_path t.children t.place t.properties x p k e in
    let both = parts_apart t.children k f.parts w.apart.nodes_apart f.below in
    record {
      parts = f.parts;
      found = below_is_node (whole_of t) k f.parts w.rising f.below;
      there = f.there;
      name = f.name;
      children = sym (child_places k f.parts.children both.1) ∙ same_map (names (forest_of f.parts.children)) (λ z. sym (f.more z));
      child = λ z. f.more z ∙ child_place k f.parts.children z;
    }
  where
    same_map : {f g : Name → Option ℕ} (xs : List Name) → ((z : Name) → f z ≡ g z) → map f xs ≡ map g xs
    same_map [] h = refl
    same_map {f = f} {g = g} (z ∷ xs) h = λ i. h z i ∷ same_map {f = f} {g = g} xs h i

-- the same of a tree that is seen as another
pub at_same : (t u : PlacedTree) → t ≡ u → IsWellPlaced t → (path : Path) (k : ℕ) → IsAt u path k → AtPath t path k
at_same t u same w path k e = at_path t w path k (subst (λ (v : PlacedTree). IsAt v path k) (sym same) e)

pub node_stands : (t u : PlacedTree) → t ≡ u → IsWellPlaced t → (k : ℕ) → (path : Path) × IsAt u path k → IsSome (node_of (whole_of t) k)
node_stands t u same w k e = let a = at_same t u same w e.0 k e.1 in subst (λ (o : Option Parts). IsSome o) (sym a.found) refl

pub named_so : (t u : PlacedTree) → t ≡ u → IsWellPlaced t → (path : Path) (k : ℕ) → IsAt u path k → (name : Name) → IfSome (node_of (whole_of t) k) (λ parts. name ≡ parts.name) → name ≡ last_name path
named_so t u same w path k e name h = let a = at_same t u same w path k e in at_node (λ parts. name ≡ parts.name) (node_of (whole_of t) k) a.parts a.found h ∙ sym a.name

pub value_so : (t u : PlacedTree) → t ≡ u → IsWellPlaced t → (path : Path) (k : ℕ) → IsAt u path k → (name : Name) (value : Option (List ℕ)) → IfSome (node_of (whole_of t) k) (λ parts. value ≡ value_of parts.properties name) → value ≡ value_in (reading_of u) path name
value_so t u same w path k e name value h =
    let a = at_same t u same w path k e in
    at_node (λ parts. value ≡ value_of parts.properties name) (node_of (whole_of t) k) a.parts a.found h
    ∙ sym (ap (λ (o : Option Node). option_and_then (λ n. value_of n.properties name) o) a.there)
    ∙ ap (λ (v : PlacedTree). value_in (reading_of v) path name) same

pub properties_so : (t u : PlacedTree) → t ≡ u → IsWellPlaced t → (path : Path) (k : ℕ) → IsAt u path k → (ps : List Property) → IfSome (node_of (whole_of t) k) (λ parts. ps ≡ parts.properties) → ps ≡ properties_at u path
properties_so t u same w path k e ps h =
    let a = at_same t u same w path k e in
    at_node (λ parts. ps ≡ parts.properties) (node_of (whole_of t) k) a.parts a.found h
    ∙ sym (ap properties_found a.there) ∙ ap (λ (v : PlacedTree). properties_at v path) same

pub children_so : (t u : PlacedTree) → t ≡ u → IsWellPlaced t → (path : Path) (k : ℕ) → IsAt u path k → (heads : List (ℕ × Name)) → IfSome (node_of (whole_of t) k) (λ parts. heads ≡ heads_of parts.children)
    → map (λ n. Some n) (map (λ h. h.0) heads) ≡ map (λ x. place_of u (path ++ x ∷ [])) (child_names u path)
children_so t u same w path k e heads h =
    let a = at_same t u same w path k e in
    let is = at_node (λ parts. heads ≡ heads_of parts.children) (node_of (whole_of t) k) a.parts a.found h in
    let named : names (forest_of a.parts.children) ≡ child_names t path = sym (ap names_under a.there) in
    ap (λ (hs : List (ℕ × Name)). map (λ n. Some n) (map (λ h. h.0) hs)) is
    ∙ a.children
    ∙ ap (λ (ns : List Name). map (λ x. place_of t (path ++ x ∷ [])) ns) named
    ∙ ap (λ (v : PlacedTree). map (λ x. place_of v (path ++ x ∷ [])) (child_names v path)) same

pub child_so : (t u : PlacedTree) → t ≡ u → IsWellPlaced t → (path : Path) (k : ℕ) → IsAt u path k → (name : Name) (child : Option ℕ) → IfSome (node_of (whole_of t) k) (λ parts. child ≡ head_named (heads_of parts.children) name)
    → child ≡ place_of u (path ++ name ∷ [])
child_so t u same w path k e name child h =
    let a = at_same t u same w path k e in
    at_node (λ parts. child ≡ head_named (heads_of parts.children) name) (node_of (whole_of t) k) a.parts a.found h
    ∙ sym (a.child name) ∙ ap (λ (v : PlacedTree). place_of v (path ++ name ∷ [])) same

pub steps_so : (t u : PlacedTree) → t ≡ u → IsWellPlaced t → (path : Path) (k : ℕ) → IsAt u path k → (steps : List Step) → IfSome (node_of (whole_of t) k) (λ parts. (behind : List Step) × (steps ≡ map holds parts.properties ++ (steps_of_nodes parts.children ++ closes ∷ behind)))
    → WalkIn u path steps
steps_so t u same w path k e steps h =
    let a = at_same t u same w path k e in
    let walk = at_node (λ parts. (behind : List Step) × (steps ≡ map holds parts.properties ++ (steps_of_nodes parts.children ++ closes ∷ behind))) (node_of (whole_of t) k) a.parts a.found h in
    record {
      properties = a.parts.properties;
      children = a.parts.children;
      behind = walk.0;
      there = subst (λ (v : PlacedTree). node_at (reading_of v) path ≡ Some (plain a.parts)) same a.there;
      whole = walk.1;
    }

pub number_small : (bytes : List ℕ) (at : ℕ) → IsBytes bytes → number bytes at < 2 ^ 32
number_small bytes at fits = by_word (word_at bytes at) refl
  where
    by_word : (o : Option ℕ) → word_at bytes at ≡ o → unwrap_or o 0 < 2 ^ 32
    by_word None e = omega arith
    by_word (Some n) e = (number_takes at bytes n fits e).1
