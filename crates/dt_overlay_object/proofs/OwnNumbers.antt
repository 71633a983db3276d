-- The numbers of the object's own nodes in its cells.
use Rattle.std.proofs.Common.{◌≡◌, ℕ, ◌+◌, ◌-◌, ◌≤◌, true, List, length, take, drop, Option, Some, None, sym, ap, ◌∙◌, arith}
use Rattle.std.specs.Prelude.{unwrap_or, option_and_then}
use Rattle.std.specs.Int.{w32, from_be_bytes}
use Rattle.dt_model.specs.Path.{Path}
use Rattle.dt_model.specs.Object.{fragment_names}
use Rattle.dt_model.specs.Numbers.{is_brought, number_in}
use Rattle.dt_model.specs.Applied.{number_at, node_numbered}
use Rattle.dt_model.specs.Tree.{Reading, nodes_of}
use Rattle.dt_overlay_laws.specs.Objects.{IsLocalCell}
use Rattle.dt_overlay_object.specs.Plans.{IsLocalNumber}

-- the four bytes from an offset on hold the number there
pub number-read : (value : List ℕ) (offset n : ℕ) → n ≡ from_be_bytes w32 (take ((offset + 4) - offset) (drop offset value)) → n ≡ number_at value offset
number-read value offset n e =
    let four : (offset + 4) - offset ≡ 4 = omega arith in
    e ∙ ap (λ (k : ℕ). from_be_bytes w32 (take k (drop offset value))) four

-- there is no such cell
pub no_cell : (object : Reading) (p : Path) (value : List ℕ) (offset : ℕ) → ¬ (offset + 4 ≤ length value) → ¬ IsLocalCell object p value offset
no_cell object p value offset short = λ cell. short cell.there

-- no node has the number
pub no_node : (object : Reading) (p : Path) (value : List ℕ) (offset n : ℕ) → n ≡ number_at value offset → node_numbered (nodes_of object) n ≡ None → ¬ IsLocalCell object p value offset
no_node object p value offset n is none = λ cell.
    let both : None ≡ Some cell.named = sym none ∙ ap (node_numbered (nodes_of object)) is ∙ cell.numbered in
    absurd cc

module _ (object : Reading) (numbers : List (Path × ℕ)) (p q : Path) (value : List ℕ) (offset n : ℕ) (is : n ≡ number_at value offset) (found : node_numbered (nodes_of object) n ≡ Some q) where
  -- the cell's number is that of the node
  numbered : node_numbered (nodes_of object) (number_at value offset) ≡ Some q
  numbered = ap (node_numbered (nodes_of object)) (sym is) ∙ found

  -- a node that the cell's may not name
  pub not_named : ¬ (is_brought (fragment_names object.children) p ≡ true → is_brought (fragment_names object.children) q ≡ true) → ¬ IsLocalCell object p value offset
  not_named other = λ cell.
      let both : Some cell.named ≡ Some q = sym cell.numbered ∙ numbered in
      let same : cell.named ≡ q = cc in
      other (λ h. ap (is_brought (fragment_names object.children)) (sym same) ∙ cell.brought h)

  -- the number that the cell gets
  pub local-number : (new : Option ℕ) (result : ℕ) → offset + 4 ≤ length value → (is_brought (fragment_names object.children) p ≡ true → is_brought (fragment_names object.children) q ≡ true)
      → new ≡ number_in numbers q → result ≡ unwrap_or new n → IsLocalNumber object numbers p value offset result
  local-number new result there may own given = record {
    cell = record { there = there; named = q; numbered = numbered; brought = may };
    is =
        given ∙ ap (λ (o : Option ℕ). unwrap_or o n) own ∙ ap (unwrap_or (number_in numbers q)) is
        ∙ ap (λ (o : Option Path). unwrap_or (option_and_then (number_in numbers) o) (number_at value offset)) (sym numbered);
  }
