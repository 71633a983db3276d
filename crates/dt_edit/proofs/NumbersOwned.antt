-- Which node may have a number.
use Rattle.std.proofs.Common.{◌≡◌, ◌↔◌, ℕ, Fits, List, codes, Some, None, sym, ap, subst, ◌∙◌, arith}
use Rattle.std.specs.Int.{w8, w32, from_be_bytes}
use Rattle.std.specs.Prelude.{IsTrue, nat_eq, slice_index_or}
use Rattle.std.proofs.lemmas.Bool.{eqb-true, eq-eqb}
use Rattle.std.proofs.lemmas.Nat.{be_bytes_4}
use Rattle.std.proofs.lemmas.Option.{same_Some}
use Rattle.dt_model.specs.Applied.{node_numbered}
use Rattle.dt_model.specs.Meaning.{cell}
use Rattle.dt_model.specs.Names.{Name}
use Rattle.dt_model.specs.Tree.{nodes_of, value_in}
use Rattle.dt_model.specs.Valid.{IsPhandle, IsValid}
use Rattle.dt_model.proofs.Finding.{node_of_number, number_of_node}
use Rattle.dt_overlay_base.specs.Targets.{MaySetAt}
use Rattle.dt_read.specs.Checked.{IsBlob, placed_of}
use Rattle.dt_trees.specs.Placed.{place_of, IsNode}
use Rattle.dt_read.proofs.CheckedBytes.{placed_is_read}
use Rattle.dt_edit.specs.Editable.{reading_in, path_in}

pub blob_valid : (bytes : List ℕ) → IsBlob bytes → IsValid (reading_in bytes)
blob_valid bytes is = subst IsValid (sym (placed_is_read bytes is.0 is.1 is.2)) is.1.valid

-- a value of four bytes is the cell of its number
value_is_cell : (value : List ℕ) (n : ℕ) → ((i : ℕ) → Fits w8 (slice_index_or value i 0)) → IsPhandle value → n ≡ from_be_bytes w32 value → cell n ≡ value
value_is_cell value n fits phandle e = be_bytes_4 value n phandle.four (λ i. omega (arith, fits i)) e

-- where no node has the number, any may
pub may_if_none : (bytes : List ℕ) (node : ℕ) (name : Name) (value : List ℕ) (n : ℕ) → IsBlob bytes → ((i : ℕ) → Fits w8 (slice_index_or value i 0)) → IsPhandle value → n ≡ from_be_bytes w32 value
    → node_numbered (nodes_of (reading_in bytes)) n ≡ None → MaySetAt (reading_in bytes) (path_in bytes node) name value
may_if_none bytes node name value n is fits phandle e none = record {
  valid = λ _. phandle;
  own = λ named q has.
      let found = node_of_number (reading_in bytes) q n (blob_valid bytes is) (has ∙ ap (λ (v : List ℕ). Some v) (sym (value_is_cell value n fits phandle e))) in
      let both : None ≡ Some q = sym none ∙ found in
      absurd cc;
}

-- where one has it, that one alone
pub may_if_own : (bytes : List ℕ) (node other : ℕ) (name : Name) (value : List ℕ) (n : ℕ) → IsBlob bytes → IsNode (placed_of bytes) node → IsNode (placed_of bytes) other → name ≡ codes "phandle"
    → ((i : ℕ) → Fits w8 (slice_index_or value i 0)) → IsPhandle value → n ≡ from_be_bytes w32 value → node_numbered (nodes_of (reading_in bytes)) n ≡ Some (path_in bytes other)
    → IsTrue (nat_eq other node) ↔ MaySetAt (reading_in bytes) (path_in bytes node) name value
may_if_own bytes node other name value n is at there named fits phandle e found = (forth, back)
  where
    has : value_in (reading_in bytes) (path_in bytes other) (codes "phandle") ≡ Some value
    has = number_of_node (reading_in bytes) (path_in bytes other) n (blob_valid bytes is) found ∙ ap (λ (v : List ℕ). Some v) (value_is_cell value n fits phandle e)

    forth : IsTrue (nat_eq other node) → MaySetAt (reading_in bytes) (path_in bytes node) name value
    forth same = record {
      valid = λ _. phandle;
      own = λ _ q has.
          let own = node_of_number (reading_in bytes) q n (blob_valid bytes is) (has ∙ ap (λ (v : List ℕ). Some v) (sym (value_is_cell value n fits phandle e))) in
          let one : Some q ≡ Some (path_in bytes other) = sym own ∙ found in
          same_Some q (path_in bytes other) one ∙ ap (path_in bytes) (eqb-true other node same);
    }

    back : MaySetAt (reading_in bytes) (path_in bytes node) name value → IsTrue (nat_eq other node)
    back may =
        let path : path_in bytes other ≡ path_in bytes node = may.own named (path_in bytes other) has in
        let one : Some other ≡ Some node = sym there ∙ ap (place_of (placed_of bytes)) path ∙ at in
        eq-eqb other node (same_Some other node one)
