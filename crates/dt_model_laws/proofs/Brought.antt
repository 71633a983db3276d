-- What look-ups find in what a fragment brings: the object's values, with their cells written.
use Rattle.std.proofs.Common.{◌≡◌, ℕ, Bool, true, false, List, [], ◌∷◌, ◌++◌, map, codes, refl, sym, ap, subst, ◌∙◌, Option, Some, None, true≢false, append_assoc, append-nil}
use Rattle.std.specs.Prelude.{is_some, option_map, option_and_then, unwrap_or, if◌then◌else◌}
use Rattle.std.specs.Str.{bytes_eq}
use Rattle.dt_model.specs.Names.{Name}
use Rattle.dt_model.specs.Path.{Path}
use Rattle.dt_model.specs.Meaning.{cell}
use Rattle.dt_model.specs.Overlay.{content}
use Rattle.dt_model.specs.Numbers.{number_in}
use Rattle.dt_model.specs.Tree.{Property, Forest, no_nodes, branch, Reading, value_of, Node, sibling, node_below, root_of, node_at, stands_in, value_in}
use Rattle.dt_model.specs.Valid.{AreDistinct, names, AreNodes, IsValid}
use Rattle.dt_model.specs.Applied.{Write, value_after_writes, written_property, written_forest, written_node, brought}
use Rattle.dt_model.proofs.Tests.{bytes_eq_true}
use Rattle.dt_model_laws.proofs.Merging.{AreApart, IsApart, apart_sibling, nothing, value_below, stands_below}
use Rattle.dt_model_laws.proofs.Changing.{below_both}

-- what a written property holds
abbrev pub written_value : List Write → List (Path × ℕ) → Path → Name → List ℕ → List ℕ
written_value ws numbers p name v = if bytes_eq name (codes "phandle") then cell (unwrap_or (number_in numbers p) 0) else value_after_writes p name ws v

module _ (ws : List Write) (numbers : List (Path × ℕ)) where
  value_of-written : (path : Path) (ps : List Property) (name : Name) → value_of (map (written_property ws numbers path) ps) name ≡ option_map (written_value ws numbers path name) (value_of ps name)
  value_of-written path [] name = refl
  value_of-written path (p ∷ ps) name = step (value_of-written path ps name) (bytes_eq name p.name) refl
    where
      step : value_of (map (written_property ws numbers path) ps) name ≡ option_map (written_value ws numbers path name) (value_of ps name) → (b : Bool) → bytes_eq name p.name ≡ b
          → value_of (map (written_property ws numbers path) (p ∷ ps)) name ≡ option_map (written_value ws numbers path name) (value_of (p ∷ ps) name)
      step more true e = rw e (ap (λ n. Some (written_value ws numbers path n p.value)) (sym (bytes_eq_true name p.name e)))
      step more false e = rw e more

  sibling-written : (path : Path) (fs : Forest) (x : Name) → sibling (written_forest ws numbers path fs) x ≡ option_map (written_node ws numbers (path ++ x ∷ [])) (sibling fs x)
  sibling-written path no_nodes x = refl
  sibling-written path (branch name properties children siblings) x = step (sibling-written path siblings x) (bytes_eq x name) refl
    where
      step : sibling (written_forest ws numbers path siblings) x ≡ option_map (written_node ws numbers (path ++ x ∷ [])) (sibling siblings x) → (b : Bool) → bytes_eq x name ≡ b
          → sibling (written_forest ws numbers path (branch name properties children siblings)) x ≡ option_map (written_node ws numbers (path ++ x ∷ [])) (sibling (branch name properties children siblings) x)
      step more true e = rw e (ap (λ y. Some (written_node ws numbers (path ++ y ∷ []) (record { properties = properties; children = children }))) (sym (bytes_eq_true x name e)))
      step more false e = rw e more

  pub value-written : (p path : Path) (n : Node) (name : Name) → value_below (written_node ws numbers path n) p name ≡ option_map (written_value ws numbers (path ++ p) name) (value_below n p name)
  value-written [] path n name = value_of-written path n.properties name ∙ ap (λ q. option_map (written_value ws numbers q name) (value_of n.properties name)) (sym (append-nil path))
  value-written (x ∷ p) path n name =
      ap (λ z. option_and_then (λ (c : Node). value_of c.properties name) (option_and_then (λ c. node_below c p) z)) (sibling-written path n.children x)
      ∙ step (λ s. value-written p (path ++ x ∷ []) s name) (sibling n.children x)
      ∙ ap (λ q. option_map (written_value ws numbers q name) (value_below n (x ∷ p) name)) (append_assoc path (x ∷ []) p)
    where
      step : ((s : Node) → value_below (written_node ws numbers (path ++ x ∷ []) s) p name ≡ option_map (written_value ws numbers ((path ++ x ∷ []) ++ p) name) (value_below s p name)) → (y : Option Node)
          → option_and_then (λ (c : Node). value_of c.properties name) (option_and_then (λ c. node_below c p) (option_map (written_node ws numbers (path ++ x ∷ [])) y))
          ≡ option_map (written_value ws numbers ((path ++ x ∷ []) ++ p) name) (option_and_then (λ (c : Node). value_of c.properties name) (option_and_then (λ c. node_below c p) y))
      step more None = refl
      step more (Some s) = more s

  pub stands-written : (p path : Path) (n : Node) → stands_below (written_node ws numbers path n) p ≡ stands_below n p
  stands-written [] path n = refl
  stands-written (x ∷ p) path n =
      ap (λ z. is_some (option_and_then (λ c. node_below c p) z)) (sibling-written path n.children x)
      ∙ step (λ s. stands-written p (path ++ x ∷ []) s) (sibling n.children x)
    where
      step : ((s : Node) → stands_below (written_node ws numbers (path ++ x ∷ []) s) p ≡ stands_below s p) → (y : Option Node)
          → is_some (option_and_then (λ c. node_below c p) (option_map (written_node ws numbers (path ++ x ∷ [])) y)) ≡ is_some (option_and_then (λ c. node_below c p) y)
      step more None = refl
      step more (Some s) = more s

  -- ---- names stay apart

  names-written : (path : Path) (fs : Forest) → names (written_forest ws numbers path fs) ≡ names fs
  names-written path no_nodes = refl
  names-written path (branch name properties children siblings) = ap (λ z. name ∷ z) (names-written path siblings)

  properties-written : (path : Path) (ps : List Property) → map (λ (p : Property). p.name) (map (written_property ws numbers path) ps) ≡ map (λ (p : Property). p.name) ps
  properties-written path [] = refl
  properties-written path (p ∷ ps) = ap (λ z. p.name ∷ z) (properties-written path ps)

  apart-written : (path : Path) (fs : Forest) → AreApart fs → AreApart (written_forest ws numbers path fs)
  apart-written path no_nodes h = tt
  apart-written path (branch name properties children siblings) h = (
    subst AreDistinct (sym (properties-written (path ++ name ∷ []) properties)) h.0,
    apart-written (path ++ name ∷ []) children h.1,
    subst AreDistinct (sym (names-written (path ++ name ∷ []) children)) h.2,
    apart-written path siblings h.3,
  )

  pub node_apart-written : (path : Path) (n : Node) → IsApart n → IsApart (written_node ws numbers path n)
  node_apart-written path n h = record {
    properties = subst AreDistinct (sym (properties-written path n.properties)) h.properties;
    children = apart-written path n.children h.children;
    names = subst AreDistinct (sym (names-written path n.children)) h.names;
  }

nodes_apart : (fs : Forest) → AreNodes fs → AreApart fs
nodes_apart no_nodes h = tt
nodes_apart (branch name properties children siblings) h = (h.1.distinct, nodes_apart children h.2, h.3, nodes_apart siblings h.4)

pub apart_below : (p : Path) (n c : Node) → IsApart n → node_below n p ≡ Some c → IsApart c
apart_below [] n c h e = let is : n ≡ c = cc in subst IsApart is h
apart_below (x ∷ p) n c h e = step (λ s a k. apart_below p s c a k) (sibling n.children x) refl
  where
    step : ((s : Node) → IsApart s → node_below s p ≡ Some c → IsApart c) → (y : Option Node) → sibling n.children x ≡ y → IsApart c
    step more None k = absurd (let z : None ≡ Some c = sym (ap (option_and_then (λ c. node_below c p)) k) ∙ e in cc)
    step more (Some s) k = more s (apart_sibling n.children x s h.children k) (sym (ap (option_and_then (λ c. node_below c p)) k) ∙ e)

pub root_apart : (t : Reading) → IsValid t → IsApart (root_of t)
root_apart t valid = record { properties = valid.properties.distinct; children = nodes_apart t.children valid.nodes; names = valid.siblings }

-- below what isn't there is nothing
pub none_below : (p r : Path) (n : Node) → node_below n p ≡ None → node_below n (p ++ r) ≡ None
none_below [] r n e = absurd (let z : Some n ≡ None = e in cc)
none_below (x ∷ p) r n e = step (λ s k. none_below p r s k) (sibling n.children x) refl
  where
    step : ((s : Node) → node_below s p ≡ None → node_below s (p ++ r) ≡ None) → (y : Option Node) → sibling n.children x ≡ y → node_below n ((x ∷ p) ++ r) ≡ None
    step more None k = rw k refl
    step more (Some s) k = let z : node_below s p ≡ None = sym (ap (option_and_then (λ c. node_below c p)) k) ∙ e in rw k (more s z)

nothing_below : (r : Path) (name : Name) → value_below nothing r name ≡ None
nothing_below [] name = refl
nothing_below (x ∷ r) name = refl

module _ (object : Reading) (ws : List Write) (numbers : List (Path × ℕ)) (f : Name) where
  pub value-brought : (r : Path) (name : Name) → value_below (brought ws numbers f (node_at object (content f))) r name ≡ option_map (written_value ws numbers (content f ++ r) name) (value_in object (content f ++ r) name)
  value-brought r name = step (node_at object (content f)) refl
    where
      step : (y : Option Node) → node_at object (content f) ≡ y → value_below (brought ws numbers f y) r name ≡ option_map (written_value ws numbers (content f ++ r) name) (value_in object (content f ++ r) name)
      step None e =
          nothing_below r name
          ∙ ap (λ z. option_map (written_value ws numbers (content f ++ r) name) (option_and_then (λ (c : Node). value_of c.properties name) z)) (sym (none_below (content f) r (root_of object) e))
      step (Some n) e =
          value-written ws numbers r (content f) n name
          ∙ ap (λ z. option_map (written_value ws numbers (content f ++ r) name) (option_and_then (λ (c : Node). value_of c.properties name) z)) (sym (below_both (content f) r (root_of object) n e))

  pub stands-brought : (r : Path) → stands_in object (content f) ≡ true → stands_below (brought ws numbers f (node_at object (content f))) r ≡ stands_in object (content f ++ r)
  stands-brought r h = step (node_at object (content f)) refl
    where
      step : (y : Option Node) → node_at object (content f) ≡ y → stands_below (brought ws numbers f y) r ≡ stands_in object (content f ++ r)
      step None e = absurd (true≢false (sym h ∙ ap is_some e))
      step (Some n) e = stands-written ws numbers r (content f) n ∙ ap is_some (sym (below_both (content f) r (root_of object) n e))

  pub apart-brought : IsValid object → IsApart (brought ws numbers f (node_at object (content f)))
  apart-brought valid = step (node_at object (content f)) refl
    where
      step : (y : Option Node) → node_at object (content f) ≡ y → IsApart (brought ws numbers f y)
      step None e = record { properties = tt; children = tt; names = tt }
      step (Some n) e = node_apart-written ws numbers (content f) n (apart_below (content f) (root_of object) n (root_apart object valid) e)
