-- The list of a named tree is of that tree.
use Rattle.std.proofs.Common.{◌≡◌, ◌≢◌, ℕ, suc, ◌+◌, ◌≤◌, ◌<◌, true, false, List, [], ◌∷◌, ◌++◌, refl, sym, ap, ◌∙◌, append_assoc, arith}
use Rattle.std.specs.Prelude.{nat_eq}
use Rattle.std.proofs.lemmas.Bool.{ne_eqb}
use Rattle.std.proofs.lemmas.Bool.Decides.{Decides-eqb}
use Rattle.std.proofs.lemmas.List.{append-nil}
use Rattle.dt_model.specs.Names.{Name}
use Rattle.dt_model.specs.Named.{Content, NamedForest, no_nodes, branch, Listed, listed, node_count, forest_among}
use Rattle.dt_model_laws.specs.NamedTrees.{ListIsOfItsTree}

nat_eq_refl : (n : ℕ) → nat_eq n n ≡ true
nat_eq_refl n = (Decides-eqb n n).1 refl

module _ {R : Type 0} where
  -- no node of these has the parent
  abbrev HaveNot : ℕ → List (Listed R) → Type 0
  HaveNot p [] = Unit {0}
  HaveNot p (n ∷ ns) = (nat_eq n.parent p ≡ false) × HaveNot p ns

  have_not_both : (p : ℕ) (xs ys : List (Listed R)) → HaveNot p xs → HaveNot p ys → HaveNot p (xs ++ ys)
  have_not_both p [] ys h k = k
  have_not_both p (x ∷ xs) ys h k = (h.0, have_not_both p xs ys h.1 k)

  -- the parents of the nodes of a block are the block's or in the block
  block_has_not : (p i q : ℕ) (f : NamedForest R) → p ≢ q → p < i → HaveNot p (listed i q f)
  block_has_not p i q no_nodes other before = tt
  block_has_not p i q (branch name content children siblings) other before = (
    ne_eqb q p (λ e. other (sym e)),
    have_not_both p (listed (suc i) i children) (listed (suc i + node_count children) q siblings)
        (block_has_not p (suc i) i children (λ e. omega arith) (omega arith))
        (block_has_not p (suc i + node_count children) q siblings other (omega arith)),
  )

  no_forest : (i p : ℕ) (ns : List (Listed R)) → HaveNot p ns → forest_among i ns p ≡ no_nodes
  no_forest i p [] h = refl
  no_forest i p (n ∷ ns) h = rw h.0 (no_forest (suc i) p ns h.1)

  -- the nodes of a block are none of an earlier parent
  pass : (i p q : ℕ) (f : NamedForest R) (rest : List (Listed R)) → p ≢ q → p < i → forest_among i (listed i q f ++ rest) p ≡ forest_among (i + node_count f) rest p
  pass i p q no_nodes rest other before = let e : i ≡ i + 0 = omega arith in ap (λ k. forest_among k rest p) e
  pass i p q (branch name content children siblings) rest other before =
      let j : ℕ = suc i + node_count children in
      rw (ne_eqb q p (λ e. other (sym e)))
      (
      ap (λ ns. forest_among (suc i) ns p) (append_assoc (listed (suc i) i children) (listed j q siblings) rest)
      ∙ pass (suc i) p i children (listed j q siblings ++ rest) (λ e. omega arith) (omega arith)
      ∙ pass j p q siblings rest other (omega arith)
      ∙ ap (λ k. forest_among k rest p) (let e : suc i + node_count children + node_count siblings ≡ i + (1 + node_count children + node_count siblings) = omega arith in e)
      )

  same_branch : (name : Name) (content : Content R) {f g h k : NamedForest R} → f ≡ g → h ≡ k → branch name content f h ≡ branch name content g k
  same_branch name content e d = λ i. branch name content (e i) (d i)

  read_block : (i p : ℕ) (f : NamedForest R) (rest : List (Listed R)) → p < i → ((q : ℕ) → p ≤ q → q < i + node_count f → HaveNot q rest)
      → forest_among i (listed i p f ++ rest) p ≡ f
  read_block i p no_nodes rest before none = no_forest i p rest (none p (omega arith) (omega arith))
  read_block i p (branch name content children siblings) rest before none =
      let j : ℕ = suc i + node_count children in
      let regroup = append_assoc (listed (suc i) i children) (listed j p siblings) rest in
      rw (nat_eq_refl p)
      (same_branch name content (
      ap (λ ns. forest_among (suc i) ns i) regroup
      ∙ read_block (suc i) i children (listed j p siblings ++ rest) (omega arith)
      (λ q low high. have_not_both q (listed j p siblings) rest (block_has_not q j p siblings (λ e. omega arith) high) (none q (omega arith) (omega arith)))
      ) (
      ap (λ ns. forest_among (suc i) ns p) regroup
      ∙ pass (suc i) p i children (listed j p siblings ++ rest) (λ e. omega arith) (omega arith)
      ∙ read_block j p siblings rest (omega arith) (λ q low high. none q low (omega arith))
      ))

pub list_is_of_its_tree : ListIsOfItsTree
list_is_of_its_tree t =
    ap (λ f. record { reservations = t.reservations; content = t.content; children = f })
    (ap (λ ns. forest_among 1 ns 0) (sym (append-nil (listed 1 0 t.children))) ∙ read_block 1 0 t.children [] (omega arith) (λ q low high. tt))
