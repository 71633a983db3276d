-- The lines of a tree's nodes, one node after the other.
use Rattle.std.proofs.Common.{◌≡◌, ◌++◌, ℕ, List, [], ◌∷◌, map, Some, inl, inr, refl, sym, ap, ◌∙◌, subst, append_assoc, append-nil}
use Rattle.std.specs.List.{concat}
use Rattle.std.specs.Prelude.{Result, Ok, Err, OnOk, IfErr}
use Rattle.std.proofs.lemmas.List.Folds.{concat-append}
use Rattle.dt_model.specs.Names.{Name}
use Rattle.dt_model.specs.Path.{Path}
use Rattle.dt_model.specs.Tree.{Placed, nodes_of}
use Rattle.dt_model.specs.Valid.{IsValid}
use Rattle.dt_names.specs.declared.fault.Fault.{Fault}
use Rattle.dt_names.specs.Sink.{Taken, Takes, IsRefused}
use Rattle.dt_trees.specs.Placed.{PlacedTree, reading_of, path_at, IsAt, IsNode}
use Rattle.dt_read.specs.Walked.{Step, opens, steps_of}
use Rattle.dt_trees.proofs.NodePlaces.{path_is, at_node}
use Rattle.dt_read.proofs.Opened.{opened, AreOpened}
use Rattle.dt_read.proofs.Openings.{all_opened, next_opened, none_opened}
use Rattle.dt_text_writer.specs.Written.{Written, IsWritten}
use Rattle.dt_text_writer.proofs.Writing.{puts_none, puts_then, cut_at}
use Rattle.dt_resolve_lines.specs.AllLines.{AreOfAll, AreBegunOfAll}
use Rattle.dt_resolve_lines.specs.Given.{AreWritten, AreCutOff}

one_node_more : (Own : Path → List (List ℕ) → Type 0) (before : List Placed) (n : Placed) (lines more : List (List ℕ)) → AreOfAll Own before lines → Own n.path more → AreOfAll Own (before ++ n ∷ []) (lines ++ more)
one_node_more Own [] n lines more none own = (more, [], ap (λ l. l ++ more) none ∙ sym (append-nil more), own, refl)
one_node_more Own (m ∷ before) n lines more (ls, rest, is, are, others) own =
    (ls, rest ++ more, ap (λ l. l ++ more) is ∙ append_assoc ls rest more, are, one_node_more Own before n rest more others own)

begun_behind : (Own Begun : Path → List (List ℕ) → Type 0) (before : List Placed) (n : Placed) (later : List Placed) (lines more : List (List ℕ)) → AreOfAll Own before lines → Begun n.path more → AreBegunOfAll Own Begun (before ++ n ∷ later) (lines ++ more)
begun_behind Own Begun [] n later lines more none begun = inl (subst (λ l. Begun n.path (l ++ more)) (sym none) begun)
begun_behind Own Begun (m ∷ before) n later lines more (ls, rest, is, are, others) begun =
    inr (ls, rest ++ more, ap (λ l. l ++ more) is ∙ append_assoc ls rest more, are, begun_behind Own Begun before n later rest more others begun)

-- all lines are some of them
pub all_are_begun : (Own Begun : Path → List (List ℕ) → Type 0) (nodes : List Placed) (lines : List (List ℕ)) → AreOfAll Own nodes lines → AreBegunOfAll Own Begun nodes lines
all_are_begun Own Begun [] lines are = are
all_are_begun Own Begun (n ∷ nodes) lines (own, rest, is, are, others) = inr (own, rest, is, are, all_are_begun Own Begun nodes rest others)

-- the lines of the nodes that were opened have passed
pub record ArePast (Own : Path → List (List ℕ) → Type 0) (t : PlacedTree) (old new : Written) (steps : List Step) : Type 0 where
  pub before : List Placed
  pub nodes : List Placed
  pub are : AreOpened t before nodes steps
  pub lines : AreWritten (AreOfAll Own before) old new

module _ (Own : Path → List (List ℕ) → Type 0) (t : PlacedTree) where
  pub none_past : (a : Written) (steps : List Step) → IsValid (reading_of t) → steps ≡ steps_of t → ArePast Own t a a steps
  none_past a steps valid is = record { before = []; nodes = nodes_of (reading_of t); are = subst (AreOpened t [] (nodes_of (reading_of t))) (sym is) (all_opened t valid); lines = record { lines = []; are = refl; written = puts_none a } }

  -- a property, or a node's end
  pub past_another : {a b : Written} (steps rest : List Step) → opened steps ≡ opened rest → ArePast Own t a b steps → ArePast Own t a b rest
  past_another steps rest same past = record {
    before = past.before;
    nodes = past.nodes;
    are = record { whole = past.are.whole; places = past.are.places ∙ ap (map (λ k. Some k)) same };
    lines = past.lines;
  }

  pub all_past : {a b : Written} (steps : List Step) → steps ≡ [] → ArePast Own t a b steps → AreWritten (AreOfAll Own (nodes_of (reading_of t))) a b
  all_past {a} {b} steps none past =
      let end = none_opened t past.before past.nodes (subst (AreOpened t past.before past.nodes) none past.are) in
      let whole : nodes_of (reading_of t) ≡ past.before = past.are.whole ∙ ap (λ ns. past.before ++ ns) end ∙ append-nil past.before in
      subst (λ ns. AreWritten (AreOfAll Own ns) a b) (sym whole) past.lines

  module _ (places : (p q : Path) (k : ℕ) → IsAt t p k → IsAt t q k → p ≡ q) (k : ℕ) (name : Name) (steps rest : List Step) (is : steps ≡ opens k name ∷ rest) where
    pub next_is_node : {a b : Written} → ArePast Own t a b steps → IsNode t k
    next_is_node past =
        let next = next_opened t past.before past.nodes k name rest (subst (AreOpened t past.before past.nodes) is past.are) in
        at_node t places next.first.path k next.at

    pub past_one : {a b c : Written} → ArePast Own t a b steps → AreWritten (Own (path_at t k)) b c → ArePast Own t a c rest
    past_one {a} {b} {c} past one =
        let next = next_opened t past.before past.nodes k name rest (subst (AreOpened t past.before past.nodes) is past.are) in
        let own = subst (λ p. Own p one.lines) (path_is t places next.first.path k next.at) one.are in
        record {
          before = past.before ++ next.first ∷ [];
          nodes = next.later;
          are = next.left;
          lines = record {
            lines = past.lines.lines ++ one.lines;
            are = one_node_more Own past.before next.first past.lines.lines one.lines past.lines.are own;
            written = subst (λ l. IsWritten l a c) (sym (concat-append past.lines.lines one.lines)) (puts_then past.lines.written one.written);
          };
        }

    pub cut_at_one : {a b c : Written} {fault : Fault} (Begun : Path → List (List ℕ) → Type 0) → ArePast Own t a b steps → AreCutOff (Begun (path_at t k)) fault b c
        → AreCutOff (AreBegunOfAll Own Begun (nodes_of (reading_of t))) fault a c
    cut_at_one {a} {b} {c} {fault} Begun past one =
        let next = next_opened t past.before past.nodes k name rest (subst (AreOpened t past.before past.nodes) is past.are) in
        let begun = subst (λ p. Begun p one.lines) (path_is t places next.first.path k next.at) one.are in
        let whole = past.are.whole ∙ ap (λ ns. past.before ++ ns) next.are in
        record {
          lines = past.lines.lines ++ one.lines;
          are = subst (λ ns. AreBegunOfAll Own Begun ns (past.lines.lines ++ one.lines)) (sym whole) (begun_behind Own Begun past.before next.first next.later past.lines.lines one.lines past.lines.are begun);
          cut = cut_at (concat (past.lines.lines ++ one.lines)) (concat one.lines) [] (concat-append past.lines.lines one.lines ∙ ap (λ l. concat past.lines.lines ++ l) (sym (append-nil (concat one.lines)))) past.lines.written one.cut;
        }

-- ---- lines that were written, or a front of them

module _ (Are : List (List ℕ) → Type 0) (old new : Taken) (lines : List (List ℕ)) (are : Are lines) where
  pub lines_written : (r : Result (Unit {0}) Fault) → OnOk r (Takes (concat lines) old new) → OnOk r ((all : List (List ℕ)) × Are all × Takes (concat all) old new)
  lines_written (Ok x) taken = (lines, are, taken)
  lines_written (Err x) taken = tt

  pub lines_refused : (r : Result (Unit {0}) Fault) → IfErr r (λ e. IsRefused e (concat lines) old new)
      → IfErr r (λ e. (some : List (List ℕ)) × Are some × IsRefused e (concat some) old new)
  lines_refused (Ok x) refused = tt
  lines_refused (Err x) refused = (lines, are, refused)
