-- The node that is open where a node begins is the one above it.
use Rattle.std.proofs.Common.{◌≡◌, ℕ, ◌==◌, Bool, true, false, List, [], ◌∷◌, ◌++◌, map, Option, Some, None, refl, sym, ap, subst, ◌∙◌, append_assoc, true≢false}
use Rattle.std.specs.Prelude.{if◌then◌else◌, is_some}
use Rattle.std.specs.Option.{option_or}
use Rattle.std.specs.Str.{bytes_eq}
use Rattle.std.proofs.lemmas.Bool.{eqb-true, eq-eqb}
use Rattle.dt_model.specs.Names.{Name}
use Rattle.dt_model.specs.Path.{Path}
use Rattle.dt_model.specs.Tree.{Property}
use Rattle.dt_model.specs.Valid.{AreNodes, AreDistinct, IsValid, names}
use Rattle.dt_model.proofs.Tests.{bytes_eq_refl}
use Rattle.dt_trees.specs.Placed.{Nodes, no_nodes, node, forest_of, PlacedTree, reading_of, place_below, path_at, IsAt, IsNode}
use Rattle.dt_read.specs.Walked.{Step, holds, closes, steps_of_nodes, steps_of}
use Rattle.dt_trees.proofs.NodePlaces.{path_is, at_node}
use Rattle.dt_resolve_model.specs.Above.{front}
use Rattle.dt_read.proofs.Openings.{other_name}
use Rattle.dt_read.proofs.Opened.{parent_told}
use Rattle.dt_trees.specs.Views.{IsAbove}

-- the parent of the place of a node among siblings and below them, whose parent this is
abbrev parent_below : ℕ → ℕ → Nodes → Option ℕ
parent_below k at no_nodes = None
parent_below k at (node place name ps children siblings) = if place == k then Some at else option_or (parent_below k place children) (parent_below k at siblings)

or_again : (a b c : Option ℕ) → option_or a (option_or b c) ≡ option_or (option_or a b) c
or_again None b c = refl
or_again (Some x) b c = refl

past_properties : (k : ℕ) (open_nodes : List ℕ) (ps : List Property) (rest : List Step) → parent_told k open_nodes (map holds ps ++ rest) ≡ parent_told k open_nodes rest
past_properties k open_nodes [] rest = refl
past_properties k open_nodes (p ∷ ps) rest = past_properties k open_nodes ps rest

-- the walk through siblings tells it, or what comes behind them does
abbrev ToldBelow : ℕ → Nodes → ℕ → List ℕ → List Step → Type 0
ToldBelow k ns at open_nodes rest = parent_told k (at ∷ open_nodes) (steps_of_nodes ns ++ rest) ≡ option_or (parent_below k at ns) (parent_told k (at ∷ open_nodes) rest)

told_below : (k : ℕ) (ns : Nodes) (at : ℕ) (open_nodes : List ℕ) (rest : List Step) → ToldBelow k ns at open_nodes rest
told_below k no_nodes at open_nodes rest = refl
told_below k (node place name ps children siblings) at open_nodes rest =
    step (told_below k children place (at ∷ open_nodes) (closes ∷ (steps_of_nodes siblings ++ rest))) (told_below k siblings at open_nodes rest) (place == k) refl
  where
    regroup : (map holds ps ++ (steps_of_nodes children ++ closes ∷ steps_of_nodes siblings)) ++ rest ≡ map holds ps ++ (steps_of_nodes children ++ closes ∷ (steps_of_nodes siblings ++ rest))
    regroup = simp append_assoc

    more : ToldBelow k children place (at ∷ open_nodes) (closes ∷ (steps_of_nodes siblings ++ rest)) → ToldBelow k siblings at open_nodes rest → parent_told k (place ∷ at ∷ open_nodes) ((map holds ps ++ (steps_of_nodes children ++ closes ∷ steps_of_nodes siblings)) ++ rest)
        ≡ option_or (option_or (parent_below k place children) (parent_below k at siblings)) (parent_told k (at ∷ open_nodes) rest)
    more in_children in_siblings =
        ap (parent_told k (place ∷ at ∷ open_nodes)) regroup
        ∙ past_properties k (place ∷ at ∷ open_nodes) ps (steps_of_nodes children ++ closes ∷ (steps_of_nodes siblings ++ rest))
        ∙ in_children
        ∙ ap (option_or (parent_below k place children)) in_siblings
        ∙ or_again (parent_below k place children) (parent_below k at siblings) (parent_told k (at ∷ open_nodes) rest)

    step : ToldBelow k children place (at ∷ open_nodes) (closes ∷ (steps_of_nodes siblings ++ rest)) → ToldBelow k siblings at open_nodes rest → (b : Bool) → (place == k) ≡ b
        → parent_told k (at ∷ open_nodes) (steps_of_nodes (node place name ps children siblings) ++ rest) ≡ option_or (parent_below k at (node place name ps children siblings)) (parent_told k (at ∷ open_nodes) rest)
    step i o true e = rw e refl
    step i o false e = rw e (more i o)

-- a node with its parent, by their paths
pub record IsFound (at : ℕ) (ns : Nodes) (k a : ℕ) : Type 0 where
  pub name : Name
  pub rest : Path
  pub is : place_below at ns (name ∷ rest) ≡ Some k
  pub above : place_below at ns (front (name ∷ rest)) ≡ Some a

inside : (at place : ℕ) (name : Name) (ps : List Property) (children siblings : Nodes) (p : Path) → place_below at (node place name ps children siblings) (name ∷ p) ≡ place_below place children p
inside at place name ps children siblings p = rw (bytes_eq_refl name) refl

found_below : (k a : ℕ) (ns : Nodes) (at : ℕ) → AreNodes (forest_of ns) → AreDistinct (names (forest_of ns)) → parent_below k at ns ≡ Some a → IsFound at ns k a
found_below k a no_nodes at nodes distinct e = absurd (let z : None ≡ Some a = e in cc)
found_below k a (node place name ps children siblings) at nodes distinct e =
    step (λ f. found_below k a children place nodes.2 nodes.3 f) (λ f. found_below k a siblings at nodes.4 distinct.1 f) (place == k) refl
  where
    here : (place == k) ≡ true → Some at ≡ Some a → IsFound at (node place name ps children siblings) k a
    here is same = record { name = name; rest = []; is = inside at place name ps children siblings [] ∙ ap Some (eqb-true place k is); above = same }

    deeper : IsFound place children k a → IsFound at (node place name ps children siblings) k a
    deeper f = record {
      name = name;
      rest = f.name ∷ f.rest;
      is = inside at place name ps children siblings (f.name ∷ f.rest) ∙ f.is;
      above = inside at place name ps children siblings (front (f.name ∷ f.rest)) ∙ f.above;
    }

    other : (y : Name) (q : Path) (j : ℕ) → place_below at siblings (y ∷ q) ≡ Some j → bytes_eq y name ≡ false
    other y q j at' = other_name siblings at ps y name q j distinct at'

    passed : (y : Name) (q : Path) → bytes_eq y name ≡ false → place_below at (node place name ps children siblings) (y ∷ q) ≡ place_below at siblings (y ∷ q)
    passed y q e' = rw e' refl

    behind : IsFound at siblings k a → IsFound at (node place name ps children siblings) k a
    behind f = record { name = f.name; rest = f.rest; is = passed f.name f.rest (other f.name f.rest k f.is) ∙ f.is; above = by f.rest f.is f.above }
      where
        by : (q : Path) → place_below at siblings (f.name ∷ q) ≡ Some k → place_below at siblings (front (f.name ∷ q)) ≡ Some a → place_below at (node place name ps children siblings) (front (f.name ∷ q)) ≡ Some a
        by [] is' up = up
        by (z ∷ q) is' up = passed f.name (front (z ∷ q)) (other f.name (z ∷ q) k is') ∙ up

    apart : (parent_below k place children ≡ Some a → IsFound place children k a) → (parent_below k at siblings ≡ Some a → IsFound at siblings k a) → (o o' : Option ℕ) → parent_below k place children ≡ o → parent_below k at siblings ≡ o' → option_or o o' ≡ Some a → IsFound at (node place name ps children siblings) k a
    apart low late (Some b) o' f g h = deeper (low (f ∙ h))
    apart low late None o' f g h = behind (late (g ∙ h))

    step : (parent_below k place children ≡ Some a → IsFound place children k a) → (parent_below k at siblings ≡ Some a → IsFound at siblings k a) → (b : Bool) → (place == k) ≡ b → IsFound at (node place name ps children siblings) k a
    step low late true is = here is (let z : parent_below k at (node place name ps children siblings) ≡ Some a = e in rw is at z)
    step low late false is = apart low late (parent_below k place children) (parent_below k at siblings) refl refl (let z : parent_below k at (node place name ps children siblings) ≡ Some a = e in rw is at z)

-- a node that is there has a parent
abbrev HasParent : ℕ → Nodes → ℕ → Type 0
HasParent k ns at = (x : Name) (p : Path) → place_below at ns (x ∷ p) ≡ Some k → is_some (parent_below k at ns) ≡ true

some_parent : (k : ℕ) (ns : Nodes) (at : ℕ) → HasParent k ns at
some_parent k no_nodes at x p e = absurd (let z : None ≡ Some k = e in cc)
some_parent k (node place name ps children siblings) at x p e =
    step (λ y q f. some_parent k children place y q f) (λ y q f. some_parent k siblings at y q f) (place == k) refl
  where
    first_some : (a b : Option ℕ) → is_some a ≡ true → is_some (option_or a b) ≡ true
    first_some None b h = absurd (true≢false (sym h))
    first_some (Some y) b h = refl

    second_some : (a b : Option ℕ) → is_some b ≡ true → is_some (option_or a b) ≡ true
    second_some None b h = h
    second_some (Some y) b h = refl

    child : HasParent k children place → (q : Path) → (place == k) ≡ false → place_below place children q ≡ Some k → is_some (option_or (parent_below k place children) (parent_below k at siblings)) ≡ true
    child low [] differ f = absurd (true≢false (sym (eq-eqb place k (let z : Some place ≡ Some k = f in cc)) ∙ differ))
    child low (y ∷ q) differ f = first_some (parent_below k place children) (parent_below k at siblings) (low y q f)

    named : HasParent k children place → HasParent k siblings at → (place == k) ≡ false → (b : Bool) → bytes_eq x name ≡ b → is_some (option_or (parent_below k place children) (parent_below k at siblings)) ≡ true
    named low late differ true is = child low p differ (let z : place_below at (node place name ps children siblings) (x ∷ p) ≡ Some k = e in rw is at z)
    named low late differ false is = second_some (parent_below k place children) (parent_below k at siblings) (late x p (let z : place_below at (node place name ps children siblings) (x ∷ p) ≡ Some k = e in rw is at z))

    step : HasParent k children place → HasParent k siblings at → (b : Bool) → (place == k) ≡ b → is_some (parent_below k at (node place name ps children siblings)) ≡ true
    step low late true is = rw is refl
    step low late false is = rw is (named low late is (bytes_eq x name) refl)

-- what the whole walk tells of a node is the node above it
pub parent_is_above : (t : PlacedTree) (k : ℕ) → IsValid (reading_of t) → ((p q : Path) (j : ℕ) → IsAt t p j → IsAt t q j → p ≡ q) → IsNode t k → IsAbove t k (parent_told k [] (steps_of t))
parent_is_above t k valid places is = step (t.place == k) refl
  where
    below : parent_told k (t.place ∷ []) (map holds t.properties ++ (steps_of_nodes t.children ++ closes ∷ [])) ≡ option_or (parent_below k t.place t.children) None
    below = past_properties k (t.place ∷ []) t.properties (steps_of_nodes t.children ++ closes ∷ []) ∙ told_below k t.children t.place [] (closes ∷ [])

    found : (a : ℕ) → parent_below k t.place t.children ≡ Some a → IsAbove t k (Some a)
    found a e =
        let f = found_below k a t.children t.place valid.nodes valid.siblings e in
        let same : path_at t k ≡ f.name ∷ f.rest = path_is t places (f.name ∷ f.rest) k f.is in (
          at_node t places (front (f.name ∷ f.rest)) a f.above,
          path_is t places (front (f.name ∷ f.rest)) a f.above ∙ ap front (sym same),
          λ root. nothing f.name f.rest (sym same ∙ root),
        )
      where
        nothing : (x : Name) (q : Path) → x ∷ q ≡ [] → ⊥
        nothing x q z = cc

    somewhere : (p : Path) → IsAt t p k → (t.place == k) ≡ false → (o : Option ℕ) → parent_below k t.place t.children ≡ o → IsAbove t k (option_or o None)
    somewhere [] here differ o e = absurd (true≢false (sym (eq-eqb t.place k (let z : Some t.place ≡ Some k = here in cc)) ∙ differ))
    somewhere (x ∷ p) here differ None e = absurd (true≢false (sym (some_parent k t.children t.place x p here) ∙ ap is_some e))
    somewhere (x ∷ p) here differ (Some a) e = found a e

    step : (b : Bool) → (t.place == k) ≡ b → IsAbove t k (parent_told k [] (steps_of t))
    step true e = rw e (path_is t places [] k (ap Some (eqb-true t.place k e)))
    step false e = rw e (subst (IsAbove t k) (sym below) (somewhere (path_at t k) is e (parent_below k t.place t.children) refl))
