-- Want of memory is told without a place.
use Rattle.std.proofs.Common.{◌≡◌, ℕ, List, None, refl, ap}
use Rattle.dt_names.specs.declared.fault.Fault.{Fault}
use Rattle.dt_names.specs.declared.fault.FaultKind.TheVariants.{NoMemory}
use Rattle.dt_model.specs.Source.{Mode, base}
use Rattle.dt_lex.specs.Lexing as lexing
use Rattle.dt_lex.specs.Lexing.{WhyNotLexed}
use Rattle.dt_grammar.specs.Parsed as grammar
use Rattle.dt_grammar.specs.Parsed.{WhyNotParsed}
use Rattle.dt_parse.proofs.Parsing.{never_memory}
use Rattle.dt_source.specs.Refusals.{fault_place}
use Rattle.dt_chain_promises.specs.Compile as compile
use Rattle.dt_chain_promises.specs.Compile.{WhyNoTree, WhyNotCompiled, WhyNotCompiledOverlay, WhyNoBlob}

unlexed : (text : List ℕ) (e : Fault) → WhyNotLexed text e → e.kind ≡ NoMemory → e.at ≡ None
unlexed text e lexing.no_memory h = refl
unlexed text e (lexing.too_long l) h = refl
unlexed text e (lexing.bad_token place l x) h = cc
unlexed text e (lexing.bad_integer place l x) h = cc

unparsed : (text : List ℕ) (e : Fault) → WhyNotParsed text e → e.kind ≡ NoMemory → e.at ≡ None
unparsed text e (grammar.unlexed f why) h = unlexed text f why h
unparsed text e (grammar.untagged tokens l x n) h = cc
unparsed text e (grammar.broken tokens before left kind l x t s b) h = absurd (never_memory b h)

tree_unplaced : (mode : Mode) (text : List ℕ) (e : Fault) → WhyNoTree mode text e → e.kind ≡ NoMemory → e.at ≡ None
tree_unplaced mode text _ compile.no_memory h = refl
tree_unplaced mode text _ (compile.unparsed e why) h = unparsed text e why h
tree_unplaced mode text _ (compile.unnamed s kind parsed why) h = ap fault_place h
tree_unplaced mode text _ (compile.many t k more) h = refl

pub memory_unplaced : (mode : Mode) (text : List ℕ) (e : Fault) → WhyNotCompiled mode text e → e.kind ≡ NoMemory → e.at ≡ None
memory_unplaced mode text _ compile.no_memory h = refl
memory_unplaced mode text _ (compile.no_tree e why) h = tree_unplaced mode text e why h
memory_unplaced mode text _ (compile.big t k more) h = refl

pub overlay_unplaced : (text : List ℕ) (e : Fault) → WhyNotCompiledOverlay text e → e.kind ≡ NoMemory → e.at ≡ None
overlay_unplaced text _ compile.no_memory h = refl
overlay_unplaced text _ (compile.refused s kind parsed why) h = ap fault_place h
overlay_unplaced text _ (compile.large t k more) h = refl
overlay_unplaced text _ (compile.big t k more) h = refl

pub blob_unplaced : (text : List ℕ) (e : Fault) → WhyNoBlob text e → e.kind ≡ NoMemory → e.at ≡ None
blob_unplaced text _ compile.no_memory h = refl
blob_unplaced text _ (compile.unparsed e why) h = unparsed text e why h
blob_unplaced text _ (compile.as_base s e parsed plain why) h = memory_unplaced base text e why h
blob_unplaced text _ (compile.as_overlay s e parsed plugin why) h = overlay_unplaced text e why h
