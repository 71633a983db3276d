-- Trees that a blob may hold, by a test.
use Rattle.std.proofs.Common.{◌≡◌, ℕ, ◌+◌, Bool, true, ◌&&◌, List, [], ◌++◌, map, length, arith}
use Rattle.std.specs.Prelude.{nat_le, nat_eq}
use Rattle.std.specs.List.{list_all}
use Rattle.std.specs.Int.{w32, from_be_bytes}
use Rattle.std.specs.Str.{bytes_eq}
use Rattle.dt_model.specs.Names.{is_property_name, is_node_name, IsPropertyName}
use Rattle.dt_model.specs.Tree.{Property, Forest, no_nodes, branch, Reading}
use Rattle.dt_model.specs.Valid.{AreProperties, names, AreNodes, phandle_values, phandles, IsPhandle, IsValid, node_count, IsNoDeeper, IsWithinLimits}
use Rattle.dt_model.proofs.Tests.{and_left, and_right}
use Rattle.dt_model_laws.proofs.CheckedWords.{are_distinct, distinct_by, same_names, number_same, each_by}
use Rattle.dt_model_laws.proofs.CheckedNames.{property_name, node_name, at_most}

abbrev are_properties : List Property → Bool
are_properties ps = list_all (λ p. is_property_name p.name) ps && are_distinct bytes_eq (map (λ p. p.name) ps)

properties_are : (ps : List Property) → are_properties ps ≡ true → AreProperties ps
properties_are ps h = record {
  named = each_by (λ (p : Property). is_property_name p.name) (λ p. IsPropertyName p.name) (λ p k. property_name p.name k) ps
      (and_left (list_all (λ (p : Property). is_property_name p.name) ps) (are_distinct bytes_eq (map (λ p. p.name) ps)) h);
  distinct = distinct_by bytes_eq same_names (map (λ p. p.name) ps) (and_right (list_all (λ (p : Property). is_property_name p.name) ps) (are_distinct bytes_eq (map (λ p. p.name) ps)) h);
}

abbrev are_nodes : Forest → Bool
are_nodes no_nodes = true
are_nodes (branch name properties children siblings) =
    is_node_name name && (are_properties properties && (are_nodes children && (are_distinct bytes_eq (names children) && are_nodes siblings)))

nodes_are : (fs : Forest) → are_nodes fs ≡ true → AreNodes fs
nodes_are no_nodes h = tt
nodes_are (branch name properties children siblings) h =
    let d : Bool = are_distinct bytes_eq (names children) && are_nodes siblings in
    let c : Bool = are_nodes children && d in
    let p : Bool = are_properties properties && c in
    let hp = and_right (is_node_name name) p h in
    let hc = and_right (are_properties properties) c hp in
    let hd = and_right (are_nodes children) d hc in (
      node_name name (and_left (is_node_name name) p h),
      properties_are properties (and_left (are_properties properties) c hp),
      nodes_are children (and_left (are_nodes children) d hc),
      distinct_by bytes_eq same_names (names children) (and_left (are_distinct bytes_eq (names children)) (are_nodes siblings) hd),
      nodes_are siblings (and_right (are_distinct bytes_eq (names children)) (are_nodes siblings) hd),
    )

abbrev is_phandle : List ℕ → Bool
is_phandle v = nat_eq (length v) 4 && (nat_le 1 (from_be_bytes w32 v) && nat_le (from_be_bytes w32 v) 0xfffffffe)

a_phandle : (v : List ℕ) → is_phandle v ≡ true → IsPhandle v
a_phandle v h =
    let l : Bool = nat_le 1 (from_be_bytes w32 v) in
    let g : Bool = nat_le (from_be_bytes w32 v) 0xfffffffe in
    let lg = and_right (nat_eq (length v) 4) (l && g) h in
    record {
      four = number_same (length v) 4 (and_left (nat_eq (length v) 4) (l && g) h);
      low = at_most 1 (from_be_bytes w32 v) (and_left l g lg);
      high = at_most (from_be_bytes w32 v) 0xfffffffe (and_right l g lg);
    }

-- what is asked of the tree's phandles
abbrev numbers_fit : List (List ℕ) → Bool
numbers_fit vs = list_all is_phandle vs && are_distinct bytes_eq vs

-- a tree of boot CPU 0 without reservations
pub record IsChecked (t : Reading) : Type 0 where
  pub boot_cpu : t.boot_cpu ≡ 0
  pub reservations : t.reservations ≡ []
  pub properties : are_properties t.properties ≡ true
  pub nodes : are_nodes t.children ≡ true
  pub siblings : are_distinct bytes_eq (names t.children) ≡ true
  pub phandles : numbers_fit (phandle_values t.properties ++ phandles t.children) ≡ true

pub checked_valid : (t : Reading) → IsChecked t → IsValid t
checked_valid t h = record {
  boot_cpu = rw h.boot_cpu (omega arith);
  reservations = rw h.reservations tt;
  properties = properties_are t.properties h.properties;
  nodes = nodes_are t.children h.nodes;
  siblings = distinct_by bytes_eq same_names (names t.children) h.siblings;
  phandles_valid =
      each_by is_phandle IsPhandle a_phandle (phandle_values t.properties ++ phandles t.children)
      (and_left (list_all is_phandle (phandle_values t.properties ++ phandles t.children)) (are_distinct bytes_eq (phandle_values t.properties ++ phandles t.children)) h.phandles);
  phandles_distinct =
      distinct_by bytes_eq same_names (phandle_values t.properties ++ phandles t.children)
      (and_right (list_all is_phandle (phandle_values t.properties ++ phandles t.children)) (are_distinct bytes_eq (phandle_values t.properties ++ phandles t.children)) h.phandles);
}

-- ---- limits

abbrev is_no_deeper : ℕ → ℕ → Forest → Bool
is_no_deeper limit depth no_nodes = true
is_no_deeper limit depth (branch name properties children siblings) =
    nat_le depth limit && (is_no_deeper limit (depth + 1) children && is_no_deeper limit depth siblings)

no_deeper : (limit depth : ℕ) (fs : Forest) → is_no_deeper limit depth fs ≡ true → IsNoDeeper limit depth fs
no_deeper limit depth no_nodes h = tt
no_deeper limit depth (branch name properties children siblings) h =
    let c : Bool = is_no_deeper limit (depth + 1) children in
    let s : Bool = is_no_deeper limit depth siblings in
    let cs = and_right (nat_le depth limit) (c && s) h in (
      at_most depth limit (and_left (nat_le depth limit) (c && s) h),
      no_deeper limit (depth + 1) children (and_left c s cs),
      no_deeper limit depth siblings (and_right c s cs),
    )

abbrev pub is_small : Reading → Bool
is_small t = nat_le (1 + node_count t.children) 65536 && is_no_deeper 64 1 t.children

pub small_within : (t : Reading) → is_small t ≡ true → IsWithinLimits t
small_within t h = record {
  count = at_most (1 + node_count t.children) 65536 (and_left (nat_le (1 + node_count t.children) 65536) (is_no_deeper 64 1 t.children) h);
  depth = no_deeper 64 1 t.children (and_right (nat_le (1 + node_count t.children) 65536) (is_no_deeper 64 1 t.children) h);
}
