-- Lists of paths and names outside which nothing stands, after some events and in a tree.
use Rattle.std.proofs.Common.{◌≡◌, ℕ, Bool, true, false, ◌&&◌, ◌||◌, List, [], ◌∷◌, inl, inr, Some, reverse, refl, sym, subst}
use Rattle.std.specs.Prelude.{if◌then◌else◌}
use Rattle.std.specs.List.{AllByRecursion, list_all}
use Rattle.std.specs.Str.{bytes_eq}
use Rattle.std.proofs.lemmas.List.{reverse-reverse}
use Rattle.dt_model.specs.Names.{Name}
use Rattle.dt_model.specs.Path.{Path, path_eq}
use Rattle.dt_model.specs.Lists.{IsIn}
use Rattle.dt_model.specs.Event.{Stack, Event, opening, giving, definition, undefinition, deletion, opens, takes, defines, drops, names, stands, value_at}
use Rattle.dt_model.specs.Source.{Part, Events, gives_label, node_of, labelled}
use Rattle.dt_model.specs.Tree.{Property, Reading, Placed, value_of, nodes_of, stands_in, value_in}
use Rattle.dt_model.proofs.Tests.{and_left, and_right, all_at, bytes_eq_true}
use Rattle.dt_model.proofs.Lasts.{last_each, stands_by, value_by}
use Rattle.dt_model.proofs.Labels.{labelled_by}
use Rattle.dt_model.proofs.Listed.{stands_listed, value_listed}
use Rattle.dt_model_laws.proofs.CheckedWords.{has, has_in, same_names, same_paths, each_by}

-- ---- events

abbrev is_covered : List Path → List Name → Event (List Part) → Bool
is_covered qs ns (opening p) = has path_eq qs (reverse p)
is_covered qs ns (giving l p) = has bytes_eq ns l
is_covered qs ns (definition p n v) = has path_eq qs (reverse p) && has bytes_eq ns n
is_covered qs ns (undefinition p n) = true
is_covered qs ns (deletion p) = true

-- what the events open and define is at these paths, and what they define and give has these names
abbrev pub covers_events : List Path → List Name → Events → Bool
covers_events qs ns es = list_all (is_covered qs ns) es

abbrev IsCovered : List Path → List Name → Event (List Part) → Type 0
IsCovered qs ns (opening p) = IsIn (reverse p) qs
IsCovered qs ns (giving l p) = IsIn l ns
IsCovered qs ns (definition p n v) = IsIn (reverse p) qs × IsIn n ns
IsCovered qs ns (undefinition p n) = Unit {0}
IsCovered qs ns (deletion p) = Unit {0}

covered : (qs : List Path) (ns : List Name) (e : Event (List Part)) → is_covered qs ns e ≡ true → IsCovered qs ns e
covered qs ns (opening p) h = has_in path_eq same_paths qs (reverse p) h
covered qs ns (giving l p) h = has_in bytes_eq same_names ns l h
covered qs ns (definition p n v) h = (
  has_in path_eq same_paths qs (reverse p) (and_left (has path_eq qs (reverse p)) (has bytes_eq ns n) h),
  has_in bytes_eq same_names ns n (and_right (has path_eq qs (reverse p)) (has bytes_eq ns n) h),
)
covered qs ns (undefinition p n) h = tt
covered qs ns (deletion p) h = tt

module _ (qs : List Path) (ns : List Name) (es : Events) (h : covers_events qs ns es ≡ true) where
  all_covered : AllByRecursion (IsCovered qs ns) es
  all_covered = each_by (is_covered qs ns) (IsCovered qs ns) (covered qs ns) es h

  pub node_covered : (p : Stack) → stands es p ≡ true → IsIn (reverse p) qs
  node_covered p k = last_each (IsCovered qs ns) (λ e. opens p e || takes p e) es (opening p) all_covered (stands_by es p k)

  pub value_covered : (p : Stack) (n : Name) (v : List Part) → value_at es p n ≡ Some v → IsIn (reverse p) qs × IsIn n ns
  value_covered p n v k = last_each (IsCovered qs ns) (λ e. defines p n e || drops p n e) es (definition p n v) all_covered (value_by es p n v k)

  pub label_covered : (l : Name) (p : Stack) → labelled es l ≡ Some p → IsIn l ns
  label_covered l p k = last_each (IsCovered qs ns) (λ e. gives_label l e && names es l (node_of e)) es (giving l p) all_covered (labelled_by es l p k).0

pub turned_back : (p : Path) (qs : List Path) → IsIn (reverse (reverse p)) qs → IsIn p qs
turned_back p qs h = subst (λ q. IsIn q qs) (reverse-reverse p) h

-- ---- trees

abbrev is_placed : List Path → List Name → Placed → Bool
is_placed qs ns n = has path_eq qs n.path && list_all (λ (x : Property). has bytes_eq ns x.name) n.properties

-- the tree's nodes are at these paths, and its properties have these names
abbrev pub covers_tree : List Path → List Name → Reading → Bool
covers_tree qs ns t = list_all (is_placed qs ns) (nodes_of t)

-- the property that a value is of
pub property_of : (ps : List Property) (name : Name) (v : List ℕ) → value_of ps name ≡ Some v → (x : Property) × IsIn x ps × (name ≡ x.name) × (x.value ≡ v)
property_of [] name v h = cc
property_of (x ∷ ps) name v h = step (property_of ps name v) (bytes_eq name x.name) refl h
  where
    step : (value_of ps name ≡ Some v → (y : Property) × IsIn y ps × (name ≡ y.name) × (y.value ≡ v)) → (b : Bool) → bytes_eq name x.name ≡ b
        → (if b then Some x.value else value_of ps name) ≡ Some v → (y : Property) × IsIn y (x ∷ ps) × (name ≡ y.name) × (y.value ≡ v)
    step rest true e k = let same : x.value ≡ v = cc in (x, inl refl, bytes_eq_true name x.name e, same)
    step rest false e k = let w = rest k in (w.0, inr w.1, w.2, w.3)

module _ (qs : List Path) (ns : List Name) (t : Reading) (h : covers_tree qs ns t ≡ true) where
  placed_path : (n : Placed) → IsIn n (nodes_of t) → IsIn n.path qs
  placed_path n i = has_in path_eq same_paths qs n.path (and_left (has path_eq qs n.path) (list_all (λ (x : Property). has bytes_eq ns x.name) n.properties) (all_at (is_placed qs ns) (nodes_of t) n h i))

  placed_name : (n : Placed) (x : Property) → IsIn n (nodes_of t) → IsIn x n.properties → IsIn x.name ns
  placed_name n x i j =
      has_in bytes_eq same_names ns x.name
      (all_at (λ (x : Property). has bytes_eq ns x.name) n.properties x (and_right (has path_eq qs n.path) (list_all (λ (x : Property). has bytes_eq ns x.name) n.properties) (all_at (is_placed qs ns) (nodes_of t) n h i)) j)

  pub node_placed : (p : Path) → stands_in t p ≡ true → IsIn p qs
  node_placed p k = let w = stands_listed t p k in subst (λ q. IsIn q qs) w.2 (placed_path w.0 w.1)

  pub value_placed : (p : Path) (name : Name) (v : List ℕ) → value_in t p name ≡ Some v → IsIn p qs × IsIn name ns
  value_placed p name v k =
      let w = value_listed t p name v k in
      let x = property_of w.0.properties name v w.3 in
      (subst (λ q. IsIn q qs) w.2 (placed_path w.0 w.1), subst (λ n. IsIn n ns) (sym x.2) (placed_name w.0 x.0 w.1 x.1))
