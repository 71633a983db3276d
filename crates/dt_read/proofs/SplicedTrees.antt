-- What a block that spells a tree is read as.
use Rattle.std.proofs.Common.{◌≡◌, ℕ, ◌+◌, List, [], ◌∷◌, ◌++◌, length, map, sym, ap, subst, ◌∙◌}
use Rattle.dt_model.specs.Format.{Token, SpellsAll, SpellsTree}
use Rattle.dt_read.specs.Cuts.{SpellsRoot}
use Rattle.dt_read.specs.Marks.{Mark, last_mark, token_of, SpellsMarks, Root}
use Rattle.dt_read.specs.Parsing.{root_left, tree_in, tree_of_marks}
use Rattle.dt_trees.specs.Placed.{forest_of}
use Rattle.dt_read.specs.TreeCode.{tree_again}
use Rattle.dt_read.proofs.Scanning.{tokens_of_marks, tokens_append, tokens_of_root}
use Rattle.dt_read.proofs.Trees.{lexed_is, left_by-without_nop_marks}

-- it is that tree, with its places
pub spelled_root_is : (strings : List ℕ) (at : ℕ) (block : List ℕ) (tree : Root) → SpellsRoot strings at block tree → tree_in strings at block ≡ tree
spelled_root_is strings at block tree s =
    ap tree_of_marks (lexed_is strings at (s.marks ++ last_mark ∷ []) block s.spelled)
    ∙ ap (λ l. root_left l.levels) (sym (left_by-without_nop_marks s.marks (last_mark ∷ [])))
    ∙ ap (λ (x : List Mark). tree_of_marks (x ++ last_mark ∷ [])) s.whole
    ∙ tree_again tree (last_mark ∷ [])

marks_are_tokens : (strings : List ℕ) (at : ℕ) (marks : List Mark) (bytes : List ℕ) → SpellsMarks strings at marks bytes → SpellsAll strings (map token_of marks) bytes
marks_are_tokens strings at [] bytes s = s
marks_are_tokens strings at (mark ∷ marks) bytes s = (s.0, s.1, s.2, (s.3).token, marks_are_tokens strings (at + length s.0) marks s.1 s.4)

-- and it spells it
pub spells_tree : (strings : List ℕ) (at : ℕ) (block : List ℕ) (tree : Root) → SpellsRoot strings at block tree → SpellsTree strings tree.properties (forest_of tree.children) block
spells_tree strings at block tree s = record {
  tokens = map token_of s.marks;
  spelled = subst (λ (ts : List Token). SpellsAll strings ts block) (tokens_append s.marks (last_mark ∷ [])) (marks_are_tokens strings at (s.marks ++ last_mark ∷ []) block s.spelled);
  whole = sym (tokens_of_marks s.marks) ∙ ap (map token_of) s.whole ∙ tokens_of_root tree;
}
