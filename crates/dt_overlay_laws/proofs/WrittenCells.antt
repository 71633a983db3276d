-- A tree with its cells written: what look-ups find in it, and what of it lands.
use Rattle.std.proofs.Common.{◌≡◌, ℕ, Bool, true, false, List, [], ◌∷◌, ◌++◌, map, codes, refl, sym, ap, ◌∙◌, Option, Some, None, append_assoc, append-nil}
use Rattle.std.specs.Prelude.{option_map, option_and_then, if◌then◌else◌}
use Rattle.std.specs.Str.{bytes_eq}
use Rattle.dt_model.specs.Names.{Name}
use Rattle.dt_model.specs.Path.{Path}
use Rattle.dt_model.specs.Overlay.{content}
use Rattle.dt_model.specs.Numbers.{number_in}
use Rattle.dt_model.specs.Tree.{Property, Forest, no_nodes, branch, Reading, Node, value_of, sibling, node_below, root_of, node_at, value_in}
use Rattle.dt_model.specs.Applied.{Write, value_after_writes, written_property, written_forest, brought}
use Rattle.dt_overlay_laws.specs.Writing.{with_cells_of, cells_written, with_cells, landed_property, landed_forest, landed}
use Rattle.dt_model.proofs.Tests.{bytes_eq_true}

-- a value with its cells written
abbrev pub value_with_cells : List Write → Path → Name → List ℕ → List ℕ
value_with_cells ws path name v = if bytes_eq name (codes "phandle") then v else value_after_writes path name ws v

-- a node with its cells written
abbrev pub node_with_cells : List Write → Path → Node → Node
node_with_cells ws path n = record { properties = map (with_cells_of ws path) n.properties; children = cells_written ws path n.children }

-- ---- look-ups

module _ (ws : List Write) where
  -- the value of a property, with its cells written
  value_of-with_cells : (path : Path) (ps : List Property) (name : Name) → value_of (map (with_cells_of ws path) ps) name ≡ option_map (value_with_cells ws path name) (value_of ps name)
  value_of-with_cells path [] name = refl
  value_of-with_cells path (p ∷ ps) name = step (value_of-with_cells path ps name) (bytes_eq name p.name) refl
    where
      step : value_of (map (with_cells_of ws path) ps) name ≡ option_map (value_with_cells ws path name) (value_of ps name) → (b : Bool) → bytes_eq name p.name ≡ b
          → value_of (map (with_cells_of ws path) (p ∷ ps)) name ≡ option_map (value_with_cells ws path name) (value_of (p ∷ ps) name)
      step more true e = rw e (ap (λ n. Some (value_with_cells ws path n p.value)) (sym (bytes_eq_true name p.name e)))
      step more false e = rw e more

  -- the sibling of a name, with its cells written
  sibling-with_cells : (path : Path) (fs : Forest) (x : Name) → sibling (cells_written ws path fs) x ≡ option_map (node_with_cells ws (path ++ x ∷ [])) (sibling fs x)
  sibling-with_cells path no_nodes x = refl
  sibling-with_cells path (branch name properties children siblings) x = step (sibling-with_cells path siblings x) (bytes_eq x name) refl
    where
      step : sibling (cells_written ws path siblings) x ≡ option_map (node_with_cells ws (path ++ x ∷ [])) (sibling siblings x) → (b : Bool) → bytes_eq x name ≡ b
          → sibling (cells_written ws path (branch name properties children siblings)) x ≡ option_map (node_with_cells ws (path ++ x ∷ [])) (sibling (branch name properties children siblings) x)
      step more true e = rw e (ap (λ y. Some (node_with_cells ws (path ++ y ∷ []) (record { properties = properties; children = children }))) (sym (bytes_eq_true x name e)))
      step more false e = rw e more

  -- the node below a node, with its cells written
  below-with_cells : (p path : Path) (n : Node) → node_below (node_with_cells ws path n) p ≡ option_map (node_with_cells ws (path ++ p)) (node_below n p)
  below-with_cells [] path n = ap (λ q. Some (node_with_cells ws q n)) (sym (append-nil path))
  below-with_cells (x ∷ p) path n =
      ap (option_and_then (λ c. node_below c p)) (sibling-with_cells path n.children x)
      ∙ step (λ s. below-with_cells p (path ++ x ∷ []) s) (sibling n.children x)
      ∙ ap (λ q. option_map (node_with_cells ws q) (node_below n (x ∷ p))) (append_assoc path (x ∷ []) p)
    where
      step : ((s : Node) → node_below (node_with_cells ws (path ++ x ∷ []) s) p ≡ option_map (node_with_cells ws ((path ++ x ∷ []) ++ p)) (node_below s p)) → (y : Option Node)
          → option_and_then (λ c. node_below c p) (option_map (node_with_cells ws (path ++ x ∷ [])) y) ≡ option_map (node_with_cells ws ((path ++ x ∷ []) ++ p)) (option_and_then (λ c. node_below c p) y)
      step more None = refl
      step more (Some s) = more s

  -- the node of a path, with its cells written
  node_at-with_cells : (t : Reading) (p : Path) → node_at (with_cells ws t) p ≡ option_map (node_with_cells ws p) (node_at t p)
  node_at-with_cells t p = below-with_cells p [] (root_of t)

  -- and the value of a property there
  pub value_in-with_cells : (t : Reading) (p : Path) (name : Name) → value_in (with_cells ws t) p name ≡ option_map (value_with_cells ws p name) (value_in t p name)
  value_in-with_cells t p name = ap (option_and_then (λ (n : Node). value_of n.properties name)) (node_at-with_cells t p) ∙ step (node_at t p)
    where
      step : (y : Option Node) → option_and_then (λ (n : Node). value_of n.properties name) (option_map (node_with_cells ws p) y) ≡ option_map (value_with_cells ws p name) (option_and_then (λ (n : Node). value_of n.properties name) y)
      step None = refl
      step (Some n) = value_of-with_cells p n.properties name

  -- ---- what lands

  module _ (numbers : List (Path × ℕ)) where
    -- a property as it lands is a written one
    property-landed : (path : Path) (p : Property) → landed_property (number_in numbers path) (with_cells_of ws path p) ≡ written_property ws numbers path p
    property-landed path p = step (bytes_eq p.name (codes "phandle")) refl
      where
        step : (b : Bool) → bytes_eq p.name (codes "phandle") ≡ b → landed_property (number_in numbers path) (with_cells_of ws path p) ≡ written_property ws numbers path p
        step true e = rw e refl
        step false e = rw e refl

    -- and so are a node's properties
    properties-landed : (path : Path) (ps : List Property) → map (landed_property (number_in numbers path)) (map (with_cells_of ws path) ps) ≡ map (written_property ws numbers path) ps
    properties-landed path [] = refl
    properties-landed path (p ∷ ps) = λ i. property-landed path p i ∷ properties-landed path ps i

    -- and the nodes below it
    forest-landed : (path : Path) (fs : Forest) → landed_forest numbers path (cells_written ws path fs) ≡ written_forest ws numbers path fs
    forest-landed path no_nodes = refl
    forest-landed path (branch name properties children siblings) =
        λ i. branch name (properties-landed (path ++ name ∷ []) properties i) (forest-landed (path ++ name ∷ []) children i) (forest-landed path siblings i)

    -- what a fragment brings is what lands
    pub landed_is_brought : (object : Reading) (f : Name) → landed numbers f (node_at (with_cells ws object) (content f)) ≡ brought ws numbers f (node_at object (content f))
    landed_is_brought object f = ap (landed numbers f) (node_at-with_cells object (content f)) ∙ step (node_at object (content f))
      where
        step : (y : Option Node) → landed numbers f (option_map (node_with_cells ws (content f)) y) ≡ brought ws numbers f y
        step None = refl
        step (Some n) = λ i. record { properties = properties-landed (content f) n.properties i; children = forest-landed (content f) n.children i }
