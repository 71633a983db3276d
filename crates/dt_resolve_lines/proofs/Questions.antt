-- One question to one node.
use Rattle.std.proofs.Common.{◌≡◌, ℕ, true, List, Result, Ok, Err, OnOk, IfErr, sym, ap, subst, ◌∙◌}
use Rattle.std.specs.Prelude.{is_some}
use Rattle.dt_model.specs.Path.{Path}
use Rattle.dt_model.specs.Tree.{Reading, stands_in}
use Rattle.dt_model.specs.Format.{Reads, IsWithin}
use Rattle.dt_names.specs.Sink.{Taken, Takes, IsRefused}
use Rattle.dt_names.specs.declared.fault.Fault.{Fault}
use Rattle.dt_names.specs.declared.fault.FaultKind.{FaultKind}
use Rattle.dt_names.specs.declared.fault.FaultKind.TheVariants.{BadName, NoNode}
use Rattle.dt_trees.specs.Placed.{PlacedTree, path_at, reading_of, IsAt}
use Rattle.dt_trees.proofs.NodePlaces.{path_is, stands_place}
use Rattle.dt_resolve_model.specs.Answers.{Answer, refused, answer}
use Rattle.dt_resolve_model.specs.World.{tree_world}
use Rattle.dt_trees.specs.Views.{IsFoundBy, WhyNotFound}
use Rattle.dt_resolve_lines.specs.Asked.{answer_words, IsAnswer, WhyNoNode, WhyNotAsked, WhyUntold, no_answer, unanswered, cut, refusal, failure}
use Rattle.dt_resolve_model.specs.declared.questions.Question.{Question}

-- the sink failed at a line that is told
pub untold : (old new : Taken) (told : Answer (List ℕ)) (line : List ℕ) (r : Result (Unit {0}) Fault) → told ≡ answer line → IfErr r (λ fault. IsRefused fault line old new) → IfErr r (WhyUntold told old new)
untold old new told line (Ok x) is why = tt
untold old new told line (Err e) is why = failure line is why

-- ---- the node of a path

pub no_such : (t : PlacedTree) (kind : FaultKind) (text : List ℕ) → WhyNotFound kind t text → WhyNoNode kind (reading_of t) text
no_such t BadName text why = why
no_such t NoNode text (path, written, none) = (path, written, sym (stands_place t path) ∙ ap is_some none)
no_such t _ text why = absurd why

module _ (t : PlacedTree) (places : (p q : Path) (k : ℕ) → IsAt t p k → IsAt t q k → p ≡ q) (question : Question) (bytes text : List ℕ) (tree : Reading) (same : reading_of t ≡ tree) (reads : Reads bytes tree) (within : IsWithin bytes tree)
    (node : ℕ) (found : IsFoundBy t text node) where
  answers : (told : Answer (List ℕ)) → answer_words question (tree_world (reading_of t)) (path_at t node) ≡ told → IsAnswer question bytes text told
  answers told is = record {
    tree = tree;
    reads = reads;
    within = within;
    path = found.path;
    written = found.written;
    stands = subst (λ x. stands_in x found.path ≡ true) same (sym (stands_place t found.path) ∙ ap is_some found.there);
    is = ap (λ x. answer_words question (tree_world x) found.path) (sym same) ∙ ap (answer_words question (tree_world (reading_of t))) (sym (path_is t places found.path node found.there)) ∙ is;
  }

  pub answered : (old new : Taken) (r : Result (Unit {0}) Fault) → OnOk r ((line : List ℕ) × (answer_words question (tree_world (reading_of t)) (path_at t node) ≡ answer line) × Takes line old new)
      → OnOk r ((line : List ℕ) × IsAnswer question bytes text (answer line) × Takes line old new)
  answered old new (Ok x) (line, is, takes) = (line, answers (answer line) is, takes)
  answered old new (Err e) written = tt

  pub not_answered : (old new : Taken) (r : Result (Unit {0}) Fault) → IfErr r (WhyUntold (answer_words question (tree_world (reading_of t)) (path_at t node)) old new) → IfErr r (WhyNotAsked question bytes text old new)
  not_answered old new (Ok x) why = tt
  not_answered old new (Err e) (refusal is same) = unanswered (no_answer (answers (refused e) is)) same
  not_answered old new (Err e) (failure line is failed) = cut line (answers (answer line) is) failed
