-- A tree that holds the nodes, values and labels of a meaning or an overlay, by tests at finitely many paths and names.
use Rattle.std.proofs.Common.{◌≡◌, ℕ, Bool, true, false, not, List, [], ◌∷◌, Option, Some, None, refl, sym, subst, cond}
use Rattle.std.specs.Prelude.{codes, if◌then◌else◌}
use Rattle.std.specs.List.{list_all}
use Rattle.std.specs.Option.{option_map}
use Rattle.std.specs.Str.{bytes_eq}
use Rattle.dt_model.specs.Names.{Name}
use Rattle.dt_model.specs.Path.{Path, path_value, is_bookkeeping}
use Rattle.dt_model.specs.Lists.{IsIn}
use Rattle.dt_model.specs.Meaning.{Item, cell, value_bytes}
use Rattle.dt_model.specs.Tree.{Reading, stands_in, value_in}
use Rattle.dt_model.proofs.Tests.{all_at, bytes_eq_true}
use Rattle.dt_model.proofs.Cases.{map_some}
use Rattle.dt_model_laws.proofs.CheckedWords.{agree, implies, implied, agree_bytes, same_answer, same_bytes, has, has_in, same_names}
use Rattle.dt_model_laws.proofs.CheckedEvents.{covers_tree, node_placed, value_placed}
use Rattle.dt_model_laws.proofs.CheckedNumbers.{are_numbers}

-- what a meaning and an overlay have in common
pub record Contents (R : Type 0) : Type 0 where
  pub stands : Path → Bool
  pub value : Path → Name → Option (List (Item R))
  pub label : Name → Option Path
  pub keyed : Path → Bool

-- nothing of it is at other paths or has other names
pub record IsWithin {R : Type 0} (qs : List Path) (ns : List Name) (c : Contents R) : Type 0 where
  pub nodes : (p : Path) → c.stands p ≡ true → IsIn p qs
  pub keyed : (p : Path) → c.keyed p ≡ true → IsIn p qs
  pub values : (p : Path) (n : Name) (items : List (Item R)) → c.value p n ≡ Some items → IsIn p qs × IsIn n ns
  pub labels : (l : Name) (p : Path) → c.label l ≡ Some p → IsIn l ns

-- the bytes of a property, where keyed nodes and references have these numbers
abbrev pub told : {R : Type 0} → Contents R → (Path → ℕ) → (R → ℕ) → Path → Name → Option (List ℕ)
told c number f p n =
    if bytes_eq n (codes "phandle")
    then (if c.keyed p then Some (cell (number p)) else None)
    else option_map (value_bytes f) (c.value p n)

abbrev nodes_agree : {R : Type 0} → Reading → Contents R → Path → Bool
nodes_agree t c p = implies (not (is_bookkeeping p)) (agree (stands_in t p) (c.stands p))

abbrev value_agrees : {R : Type 0} → Reading → Contents R → (Path → ℕ) → (R → ℕ) → Path → Name → Bool
value_agrees t c number f p n = agree_bytes (value_in t p n) (told c number f p n)

abbrev values_agree : {R : Type 0} → List Name → Reading → Contents R → (Path → ℕ) → (R → ℕ) → Path → Bool
values_agree ns t c number f p = implies (not (is_bookkeeping p)) (list_all (value_agrees t c number f p) ns)

abbrev label_agrees : {R : Type 0} → Reading → Contents R → Name → Bool
label_agrees t c l = agree_bytes (value_in t (codes "__symbols__" ∷ []) l) (option_map path_value (c.label l))

-- the tests
pub record IsHeld {R : Type 0} (qs : List Path) (ns : List Name) (t : Reading) (c : Contents R) (number : Path → ℕ) (f : R → ℕ) : Type 0 where
  pub tree : covers_tree qs ns t ≡ true
  pub phandle : has bytes_eq ns (codes "phandle") ≡ true
  pub numbers : are_numbers qs c.keyed number ≡ true
  pub nodes : list_all (nodes_agree t c) qs ≡ true
  pub values : list_all (values_agree ns t c number f) qs ≡ true
  pub labels : list_all (label_agrees t c) ns ≡ true

not_false : (b : Bool) → b ≡ false → not b ≡ true
not_false true h = cc
not_false false h = refl

module _ {R : Type 0} (qs : List Path) (ns : List Name) (t : Reading) (c : Contents R) (number : Path → ℕ) (f : R → ℕ) (within : IsWithin qs ns c) (h : IsHeld qs ns t c number f) where
  pub same_nodes : (p : Path) → is_bookkeeping p ≡ false → stands_in t p ≡ c.stands p
  same_nodes p k =
      same_answer (IsIn p qs) (stands_in t p) (c.stands p) (node_placed qs ns t h.tree p) (within.nodes p)
      (λ i. implied (not (is_bookkeeping p)) (agree (stands_in t p) (c.stands p)) (all_at (nodes_agree t c) qs p h.nodes i) (not_false (is_bookkeeping p) k))

  keyed_told : (p : Path) (n : Name) (b : Bool) (v : List ℕ) → bytes_eq n (codes "phandle") ≡ true → c.keyed p ≡ b → cond b (Some (cell (number p))) None ≡ Some v → IsIn p qs × IsIn n ns
  keyed_told p n false v e k z = cc
  keyed_told p n true v e k z = (within.keyed p k, subst (λ m. IsIn m ns) (sym (bytes_eq_true n (codes "phandle") e)) (has_in bytes_eq same_names ns (codes "phandle") h.phandle))

  cases_told : (p : Path) (n : Name) (b : Bool) (v : List ℕ) → bytes_eq n (codes "phandle") ≡ b
      → cond b (cond (c.keyed p) (Some (cell (number p))) None) (option_map (value_bytes f) (c.value p n)) ≡ Some v → IsIn p qs × IsIn n ns
  cases_told p n true v e z = keyed_told p n (c.keyed p) v e refl z
  cases_told p n false v e z = let w = map_some (value_bytes f) (c.value p n) v z in within.values p n w.0 w.1

  told_within : (p : Path) (n : Name) (v : List ℕ) → told c number f p n ≡ Some v → IsIn p qs × IsIn n ns
  told_within p n v z = cases_told p n (bytes_eq n (codes "phandle")) v refl z

  pub same_values : (p : Path) (n : Name) → is_bookkeeping p ≡ false → value_in t p n ≡ told c number f p n
  same_values p n k =
      same_bytes (IsIn p qs × IsIn n ns) (value_in t p n) (told c number f p n) (value_placed qs ns t h.tree p n) (told_within p n)
      (λ i.
      all_at (value_agrees t c number f p) ns n
      (implied (not (is_bookkeeping p)) (list_all (value_agrees t c number f p) ns) (all_at (values_agree ns t c number f) qs p h.values i.0) (not_false (is_bookkeeping p) k)) i.1)

  pub same_symbols : (l : Name) → value_in t (codes "__symbols__" ∷ []) l ≡ option_map path_value (c.label l)
  same_symbols l =
      same_bytes (IsIn l ns) (value_in t (codes "__symbols__" ∷ []) l) (option_map path_value (c.label l))
      (λ v e. (value_placed qs ns t h.tree (codes "__symbols__" ∷ []) l v e).1) (λ v e. let w = map_some path_value (c.label l) v e in within.labels l w.0 w.1)
      (all_at (label_agrees t c) ns l h.labels)
