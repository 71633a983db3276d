-- The node of a path answers one thing to a question, or there is one reason why it doesn't.
use Rattle.std.proofs.Common.{◌≡◌, ℕ, true≢false, List, Option, refl, sym, ap, subst, ◌∙◌}
use Rattle.std.specs.List.{AllByRecursion}
use Rattle.dt_model.specs.Names.{IsNodeName}
use Rattle.dt_model.specs.Path.{Path, path_text}
use Rattle.dt_model.specs.Tree.{Reading, stands_in}
use Rattle.dt_model.specs.Format.{Reads, IsWithin}
use Rattle.dt_model.specs.Checks.{BlobFault, IsFirstFault}
use Rattle.dt_names.specs.Paths.{IsPathOf}
use Rattle.dt_names.specs.declared.fault.Fault.{Fault}
use Rattle.dt_names.specs.declared.fault.FaultKind.{FaultKind}
use Rattle.dt_names.specs.declared.fault.FaultKind.TheVariants.{BadName, NoNode}
use Rattle.dt_read.specs.Kinds.{kind_of}
use Rattle.dt_resolve_model.specs.Answers.{Answer, refused, answer}
use Rattle.dt_resolve_model.specs.World.{tree_world}
use Rattle.dt_resolve_lines.specs.Asked.{answer_words, IsAnswer, WhyNoNode, WhyUnanswered, no_blob, no_node, no_answer}
use Rattle.dt_resolve_model.specs.declared.questions.Question.{Question}

module _ (read : (bytes : List ℕ) (t u : Reading) → Reads bytes t → Reads bytes u → t ≡ u) (path : (p q : List (List ℕ)) → AllByRecursion IsNodeName p → AllByRecursion IsNodeName q → path_text p ≡ path_text q → p ≡ q) where
  same_path : (text : List ℕ) (p q : Path) → IsPathOf text p → IsPathOf text q → p ≡ q
  same_path text p q a b = path p q a.named b.named (sym a.written ∙ b.written)

  pub one_answer : (question : Question) (bytes text : List ℕ) (a b : Answer (List ℕ)) → IsAnswer question bytes text a → IsAnswer question bytes text b → a ≡ b
  one_answer question bytes text a b h k =
      sym h.is
      ∙ ap (λ t. answer_words question (tree_world t) h.path) (read bytes h.tree k.tree h.reads k.reads)
      ∙ ap (answer_words question (tree_world k.tree)) (same_path text h.path k.path h.written k.written)
      ∙ k.is

  there : (question : Question) (bytes text : List ℕ) (a : Answer (List ℕ)) (t : Reading) (kind : FaultKind) → Reads bytes t → IsAnswer question bytes text a → WhyNoNode kind t text → ⊥
  there question bytes text a t BadName reads h why = why h.path h.written
  there question bytes text a t NoNode reads h (p, written, none) =
      true≢false (sym h.stands ∙ ap (λ x. stands_in x h.path) (read bytes h.tree t h.reads reads) ∙ ap (stands_in t) (same_path text h.path p h.written written) ∙ none)
  there question bytes text a t _ reads h why = absurd why

  one_kind : (t : Reading) (text : List ℕ) (a b : FaultKind) → WhyNoNode a t text → WhyNoNode b t text → a ≡ b
  one_kind t text BadName BadName h k = refl
  one_kind t text NoNode NoNode h k = refl
  one_kind t text BadName NoNode h (p, written, none) = absurd (h p written)
  one_kind t text NoNode BadName (p, written, none) k = absurd (k p written)
  one_kind t text BadName _ h k = absurd k
  one_kind t text NoNode _ h k = absurd k
  one_kind t text _ b h k = absurd h

  module _ (only : (bytes : List ℕ) (t : Reading) (f : BlobFault) (at : Option ℕ) → Reads bytes t → IsWithin bytes t → IsFirstFault bytes f at → ⊥)
      (first : (bytes : List ℕ) (f g : BlobFault) (at place : Option ℕ) → IsFirstFault bytes f at → IsFirstFault bytes g place → (f ≡ g) × (at ≡ place)) where
    pub never_both : (question : Question) (bytes text line : List ℕ) (fault : Fault) → IsAnswer question bytes text (answer line) → WhyUnanswered question bytes text fault → ⊥
    never_both question bytes text line fault h (no_blob f kind why) = only bytes h.tree f fault.at h.reads h.within why
    never_both question bytes text line fault h (no_node t reads within why at) = there question bytes text (answer line) t fault.kind reads h why
    never_both question bytes text line fault h (no_answer k) = let z : answer line ≡ refused fault = one_answer question bytes text (answer line) (refused fault) h k in cc

    same_fault : (a b : Fault) → a.kind ≡ b.kind → a.at ≡ b.at → a ≡ b
    same_fault a b kind at = λ i. record { kind = kind i; at = at i }

    pub one_refusal : (question : Question) (bytes text : List ℕ) (a b : Fault) → WhyUnanswered question bytes text a → WhyUnanswered question bytes text b → a ≡ b
    one_refusal question bytes text a b (no_blob f kind why) (no_blob g sort because) =
        let one = first bytes f g a.at b.at why because in same_fault a b (kind ∙ ap kind_of one.0 ∙ sym sort) one.1
    one_refusal question bytes text a b (no_blob f kind why) (no_node t reads within because at) = absurd (only bytes t f a.at reads within why)
    one_refusal question bytes text a b (no_blob f kind why) (no_answer k) = absurd (only bytes k.tree f a.at k.reads k.within why)
    one_refusal question bytes text a b (no_node t reads within why at) (no_blob g sort because) = absurd (only bytes t g b.at reads within because)
    one_refusal question bytes text a b (no_node t reads within why at) (no_node u reads' within' because place) =
        same_fault a b (one_kind u text a.kind b.kind (subst (λ x. WhyNoNode a.kind x text) (read bytes t u reads reads') why) because) (at ∙ sym place)
    one_refusal question bytes text a b (no_node t reads within why at) (no_answer k) = absurd (there question bytes text (refused b) t a.kind reads k why)
    one_refusal question bytes text a b (no_answer h) (no_blob g sort because) = absurd (only bytes h.tree g b.at h.reads h.within because)
    one_refusal question bytes text a b (no_answer h) (no_node t reads within because at) = absurd (there question bytes text (refused a) t b.kind reads h because)
    one_refusal question bytes text a b (no_answer h) (no_answer k) = let z : refused a ≡ refused b = one_answer question bytes text (refused a) (refused b) h k in cc
