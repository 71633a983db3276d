-- What one node of a blob answers.
use Rattle.std.specs.Prelude.{◌≡◌, ℕ, List, None, true, false}
use Rattle.dt_model.specs.Names.{Name}
use Rattle.dt_model.specs.Path.{Path}
use Rattle.dt_model.specs.Tree.{Reading, stands_in}
use Rattle.dt_model.specs.Format.{Reads, IsWithin}
use Rattle.dt_model.specs.Checks.{BlobFault, IsFirstFault}
use Rattle.dt_names.specs.Fault.{placeless}
use Rattle.dt_names.specs.Paths.{IsPathOf}
use Rattle.dt_names.specs.Sink.{Taken, IsUntouched, IsRefused}
use Rattle.dt_names.specs.declared.fault.Fault.{Fault}
use Rattle.dt_names.specs.declared.fault.FaultKind.{FaultKind}
use Rattle.dt_names.specs.declared.fault.FaultKind.TheVariants.{NoMemory, BadName, NoNode}
use Rattle.dt_read.specs.Kinds.{kind_of}
use Rattle.dt_resolve_model.specs.Answers.{Answer, refused, answer, ◌>>=◌}
use Rattle.dt_resolve_model.specs.World.{World, tree_world}
use Rattle.dt_resolve_model.specs.Regions.{dma_region}
use Rattle.dt_resolve_model.specs.Specifiers.{specifier_route}
use Rattle.dt_resolve_lines.specs.Lines.{region_words, route_words}
use Rattle.dt_resolve_model.specs.declared.questions.Question.{Question}
use Rattle.dt_resolve_model.specs.declared.questions.Question.TheVariants.{Dma, Specifier}

-- what a node reaches by DMA, as a line
abbrev pub dma_words : World → Path → ℕ → ℕ → Answer (List ℕ)
dma_words w p address size = dma_region w p address size >>= λ r. answer (region_words r)

-- where a specifier comes to
abbrev pub specifier_words : World → Path → Name → Name → ℕ → Answer (List ℕ)
specifier_words w p property kind index = specifier_route w p property kind index >>= λ r. answer (route_words r)

-- what a node answers to a question
abbrev pub answer_words : Question → World → Path → Answer (List ℕ)
answer_words (Dma address size) w p = dma_words w p address size
answer_words (Specifier property kind index) w p = specifier_words w p property.now kind.now index

-- bytes are a blob, a text is the path of one of its nodes, and this is what the node answers
pub record IsAnswer (question : Question) (bytes text : List ℕ) (told : Answer (List ℕ)) : Type 0 where
  pub tree : Reading
  pub reads : Reads bytes tree
  pub within : IsWithin bytes tree
  pub path : Path
  pub written : IsPathOf text path
  pub stands : stands_in tree path ≡ true
  pub is : answer_words question (tree_world tree) path ≡ told

-- a text is no path's, or its path is no node's
abbrev pub WhyNoNode : FaultKind → Reading → List ℕ → Type 0
WhyNoNode BadName t text = (path : Path) → ¬ IsPathOf text path
WhyNoNode NoNode t text = (path : Path) × IsPathOf text path × (stands_in t path ≡ false)
WhyNoNode _ t text = ⊥

-- why there is no line: the bytes are no blob, there is no such node, or it has no answer
pub data WhyUnanswered (question : Question) (bytes text : List ℕ) (fault : Fault) : Type 0 where
  no_blob : (f : BlobFault) → fault.kind ≡ kind_of f → IsFirstFault bytes f fault.at → WhyUnanswered question bytes text fault
  no_node : (t : Reading) → Reads bytes t → IsWithin bytes t → WhyNoNode fault.kind t text → fault.at ≡ None → WhyUnanswered question bytes text fault
  no_answer : IsAnswer question bytes text (refused fault) → WhyUnanswered question bytes text fault

-- Why none was written: there is none, or memory was refused, and nothing was written; or the sink failed, and took a front of it.
pub data WhyNotAsked (question : Question) (bytes text : List ℕ) (old new : Taken) (fault : Fault) : Type 0 where
  unanswered : WhyUnanswered question bytes text fault → IsUntouched old new → WhyNotAsked question bytes text old new fault
  no_memory : fault ≡ placeless NoMemory → IsUntouched old new → WhyNotAsked question bytes text old new fault
  cut : (line : List ℕ) → IsAnswer question bytes text (answer line) → IsRefused fault line old new → WhyNotAsked question bytes text old new fault

-- why an answer wasn't written: it is a refusal, and nothing was; or the sink failed
pub data WhyUntold (told : Answer (List ℕ)) (old new : Taken) (fault : Fault) : Type 0 where
  refusal : told ≡ refused fault → IsUntouched old new → WhyUntold told old new fault
  failure : (line : List ℕ) → told ≡ answer line → IsRefused fault line old new → WhyUntold told old new fault
