-- A blob has one text, which is compiled to the blob's tree again.
use Rattle.std.proofs.Common.{◌≡◌, ◌≢◌, inl, inr, ℕ, ◌<◌, ◌≤◌, List, length, refl, sym, ap, subst, ◌∙◌, arith}
use Rattle.std.specs.List.{AllByRecursion}
use Rattle.dt_model.specs.Format.{Reads}
use Rattle.dt_model.specs.Limits.{most_bytes}
use Rattle.dt_model.specs.Source.{raw}
use Rattle.dt_model.specs.Tree.{Reading}
use Rattle.dt_model.specs.Valid.{IsValid, IsWithinLimits}
use Rattle.dt_model_format.specs.Laws.{FirstFaultIsOne, BlobHasNoFault}
use Rattle.dt_model_laws.specs.CompiledTrees.{OneTree, MeantIsNotRefused, FewAreNotRefused}
use Rattle.dt_names.specs.declared.fault.Fault.{Fault}
use Rattle.dt_names.specs.declared.fault.FaultKind.TheVariants.{NoMemory, Limit}
use Rattle.dt_grammar.specs.Parsed.{IsParsed}
use Rattle.dt_decompile_laws.specs.Laws.{TextIsParsed, TextIsTree, ReadTreesHoldBytes}
use Rattle.dt_model.specs.Printed.{printed}
use Rattle.dt_decompile_laws.specs.Said.{said, HasBytes}
use Rattle.dt_write.specs.Written.{written}
use Rattle.dt_chain_promises.specs.Apply.{IsRead}
use Rattle.dt_chain_promises.specs.Compile.{IsCompiled, WhyNotCompiled, no_memory, no_tree, big, TextHasTree}
use Rattle.dt_names.specs.Fault.{placeless}
use Rattle.dt_chain_promises.specs.Laws.{OneText, DecompiledIsNotRefused, OneRefusalToDecompile, without_boot_cpu, PrintedIsCompiledAgain}
use Rattle.dt_chain_promises.proofs.AppliedOutcomes.{OneReading, fault_once}
use Rattle.dt_chain_promises.proofs.Outcomes.{SaidOnce, SaidOnly, WrittenReads, tree_once, tree_not_refused}

-- ---- one text, or one refusal

pub text_once : OneReading → OneText
text_once one bytes text other h k = h.is ∙ ap printed (one bytes h.tree k.tree h.read.reads k.read.reads) ∙ sym k.is

pub not_refused : BlobHasNoFault → DecompiledIsNotRefused
not_refused none bytes text e h (inl same) = ap (λ (f : Fault). f.kind) same
not_refused none bytes text e h (inr why) = absurd (none bytes h.tree why.fault e.at h.read.reads h.read.within why.first)

pub refused_once : FirstFaultIsOne → OneRefusalToDecompile
refused_once one bytes e f (inl same) also wanted wanted' = absurd (wanted (ap (λ (g : Fault). g.kind) same))
refused_once one bytes e f (inr why) (inl same) wanted wanted' = absurd (wanted' (ap (λ (g : Fault). g.kind) same))
refused_once one bytes e f (inr why) (inr also) wanted wanted' = fault_once one bytes e f why also wanted wanted'

-- ---- compiled again

-- the tree with boot CPU 0 is one that a blob may hold
still_valid : (t : Reading) → IsValid t → IsValid (without_boot_cpu t)
still_valid t h = record {
  boot_cpu = omega arith;
  reservations = h.reservations;
  properties = h.properties;
  nodes = h.nodes;
  siblings = h.siblings;
  phandles_valid = h.phandles_valid;
  phandles_distinct = h.phandles_distinct;
}

still_within : (t : Reading) → IsWithinLimits t → IsWithinLimits (without_boot_cpu t)
still_within t h = record { count = h.count; depth = h.depth }

module _ (one : OneReading) (hold : ReadTreesHoldBytes) (parsed : TextIsParsed) (tree : TextIsTree) where
  -- the text of a blob has its tree
  has_tree : (bytes text : List ℕ) (t : Reading) → AllByRecursion (λ b. b < 256) bytes → IsRead bytes t → text ≡ printed t → length text ≤ most_bytes → TextHasTree raw text (without_boot_cpu t)
  has_tree bytes text t are read is short =
      let valid = read.reads.valid in
      let within = read.within.tree in
      let bytes_held : HasBytes t = hold bytes t are read.reads in
      let reads : IsParsed (printed t) (said t) = parsed t valid bytes_held within (subst (λ (x : List ℕ). length x ≤ most_bytes) is short) in
      record {
        says = said t;
        parsed = subst (λ (x : List ℕ). IsParsed x (said t)) (sym is) reads;
        plain = refl;
        tree = tree t valid bytes_held within;
      }

  module _ (once : SaidOnce) (only : SaidOnly) (one_tree : OneTree) (not : MeantIsNotRefused) (few : FewAreNotRefused) (reads : WrittenReads) where
    -- its blob is read as the tree
    reads_again : (text blob : List ℕ) (t : Reading) → IsValid t → TextHasTree raw text t → IsCompiled raw text blob → Reads blob t
    reads_again text blob t valid has h =
        let same : h.tree ≡ t = tree_once once one_tree raw text h.tree t h.of_text has in
        let is : blob ≡ written t = h.is ∙ ap written same in
        subst (λ (b : List ℕ). Reads b t) (sym is) (reads t valid (subst (λ (b : List ℕ). length b ≤ most_bytes) is h.size))

    -- and only a blob that would be too long is refused
    refused_again : (text : List ℕ) (t : Reading) (e : Fault) → IsWithinLimits t → TextHasTree raw text t → WhyNotCompiled raw text e → e.kind ≢ NoMemory
        → (e ≡ placeless Limit) × most_bytes < length (written t)
    refused_again text t _ within has no_memory wanted = absurd (wanted refl)
    refused_again text t _ within has (no_tree e why) wanted = absurd (wanted (tree_not_refused once only one_tree not few raw text t e has within why))
    refused_again text t _ within has (big u h more) wanted =
        let same : u ≡ t = tree_once once one_tree raw text u t h has in
        (refl, subst (λ (v : Reading). most_bytes < length (written v)) same more)

    pub compiled_again : PrintedIsCompiledAgain
    compiled_again bytes text t are read h short =
        let same : h.tree ≡ t = one bytes h.tree t h.read.reads read.reads in
        let has = has_tree bytes text t are read (h.is ∙ ap printed same) short in
        record {
          has_tree = has;
          reads = λ blob. reads_again text blob (without_boot_cpu t) (still_valid t read.reads.valid) has;
          refused = λ e. refused_again text (without_boot_cpu t) e (still_within t read.within.tree) has;
        }
