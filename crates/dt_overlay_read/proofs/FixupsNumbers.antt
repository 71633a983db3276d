-- The number that a base has for a label.
use Rattle.std.proofs.Common.{◌≡◌, ◌≢◌, ℕ, ◌<◌, ◌≤◌, Bool, true, false, List, [], ◌∷◌, length, Some, None, refl, sym, ap, subst, ◌∙◌, inl, inr, codes, arith}
use Rattle.std.specs.Prelude.{option_and_then}
use Rattle.std.specs.Str.{bytes_eq}
use Rattle.std.specs.List.{AllByRecursion}
use Rattle.dt_model.specs.Limits.{most_names}
use Rattle.dt_model.specs.Lists.{IsIn}
use Rattle.dt_model.specs.Meaning.{cell}
use Rattle.dt_model.specs.Names.{Name, IsNodeName}
use Rattle.dt_model.specs.Path.{Path, path_value}
use Rattle.dt_model.specs.Tree.{Reading, Placed, nodes_of, stands_in, value_in}
use Rattle.dt_model.specs.Valid.{IsValid, IsWithinLimits}
use Rattle.dt_model.specs.Applied.{node_named, symbol}
use Rattle.dt_model.proofs.Tests.{bytes_eq_true}
use Rattle.dt_model.proofs.Texts.{one_value}
use Rattle.dt_model.proofs.Listed.{listed_stands, value_stands}
use Rattle.dt_model.proofs.Preorder.{listed_named}
use Rattle.dt_model.proofs.Finding.{node_of_text}
use Rattle.dt_overlay_texts.specs.Texts.{IsPathValue}
use Rattle.dt_overlay_laws.specs.Objects.{SymbolHasNumber}
use Rattle.dt_model.proofs.Depths.{within_depth}

-- the node that is found by a text is among those that are looked at, and has the text
named_from : (nodes : List Placed) (value : List ℕ) (p : Path) → node_named nodes value ≡ Some p → (x : Placed) × IsIn x nodes × (x.path ≡ p) × (path_value x.path ≡ value)
named_from [] value p h = absurd cc
named_from (x ∷ nodes) value p h = step (λ k. named_from nodes value p k) (bytes_eq (path_value x.path) value) refl
  where
    step : (node_named nodes value ≡ Some p → (y : Placed) × IsIn y nodes × (y.path ≡ p) × (path_value y.path ≡ value))
        → (b : Bool) → bytes_eq (path_value x.path) value ≡ b → (y : Placed) × IsIn y (x ∷ nodes) × (y.path ≡ p) × (path_value y.path ≡ value)
    step more true e = let z : Some x.path ≡ Some p = rw e at h in (x, inl refl, cc, bytes_eq_true (path_value x.path) value e)
    step more false e = let w = more (rw e at h) in (w.0, inr w.1, w.2, w.3)

-- it stands, and the text is that of its path
pub found_by_text : (t : Reading) (value : List ℕ) (q : Path) → IsValid t → node_named (nodes_of t) value ≡ Some q → (stands_in t q ≡ true) × IsPathValue value q
found_by_text t value q valid e =
    let w = named_from (nodes_of t) value q e in (
      ap (stands_in t) (sym w.2) ∙ listed_stands t w.0 valid w.1,
      record { text = sym w.3 ∙ ap path_value w.2; named = subst (AllByRecursion IsNodeName) w.2 (listed_named t w.0 valid w.1) },
    )

-- where one path that a value is is too long, each is
pub long_alone : (value : List ℕ) (p q : Path) → IsPathValue value p → most_names < length p → IsPathValue value q → most_names < length q
long_alone value p q is long other = subst (λ (r : Path). most_names < length r) (one_value p q is.named other.named (sym is.text ∙ other.text)) long

module _ (t : Reading) (l : Name) (value : List ℕ) (valid : IsValid t) (there : value_in t (codes "__symbols__" ∷ []) l ≡ Some value) where
  -- the label's node is that of the path that the value is
  symbol_is : symbol t l ≡ node_named (nodes_of t) value
  symbol_is = ap (option_and_then (node_named (nodes_of t))) there

  -- the label is there
  pub label_there : value_in t (codes "__symbols__" ∷ []) l ≢ None
  label_there none = let both : None ≡ Some value = sym none ∙ there in cc

  -- a path that is longer than a node's is none
  pub too_long : IsWithinLimits t → ((path : Path) → IsPathValue value path → most_names < length path) → (n : ℕ) → ¬ SymbolHasNumber t l n
  too_long within long n has =
      let found = found_by_text t value has.0 valid (sym symbol_is ∙ has.1) in
      let over : most_names < length has.0 = long has.0 found.1 in
      let under : length has.0 ≤ most_names = within_depth t has.0 within found.0 in
      omega (arith, over, under)

  -- the node of a label that has a number has it as its phandle
  has_phandle : (path : Path) → IsPathValue value path → (n : ℕ) → SymbolHasNumber t l n → value_in t path (codes "phandle") ≡ Some (cell n)
  has_phandle path is n has =
      let found = found_by_text t value has.0 valid (sym symbol_is ∙ has.1) in
      let same : has.0 ≡ path = one_value has.0 path found.1.named is.named (sym found.1.text ∙ is.text) in
      subst (λ (p : Path). value_in t p (codes "phandle") ≡ Some (cell n)) same has.2

  -- a node without a phandle has no number
  pub no_phandle : (path : Path) → IsPathValue value path → value_in t path (codes "phandle") ≡ None → (n : ℕ) → ¬ SymbolHasNumber t l n
  no_phandle path is none n has = let both : None ≡ Some (cell n) = sym none ∙ has_phandle path is n has in cc

  -- the node with a phandle has its number
  pub has_number : (path : Path) (n : ℕ) → IsPathValue value path → value_in t path (codes "phandle") ≡ Some (cell n) → SymbolHasNumber t l n
  has_number path n is e =
      let found : node_named (nodes_of t) (path_value path) ≡ Some path = node_of_text t path valid (value_stands t path (codes "phandle") (cell n) e) in
      (path, symbol_is ∙ ap (node_named (nodes_of t)) is.text ∙ found, e)
