use Rattle.std.proofs.Common.{◌∷◌, ◌++◌, [], refl, sym, subst, ◌∙◌, arith}
use Rattle.std.proofs.lemmas.Bool.{false≢true}
use Rattle.dt_model.specs.Checks.{IsFirstFault}
use Rattle.dt_read.specs.Marks.{last_mark, marks_of}
use Rattle.dt_read.specs.Phandle.{phandles_in}
use Rattle.dt_read.proofs.Apart.{apart, distinct, tree_phandles}
use Rattle.dt_read.proofs.Numbers.{IsBytes}
use Rattle.dt_read.proofs.Wholes.{first_at, names_at, phandles_at, numbered_by, by_numbered, number_small, reads, within, may_copy, places}
use Rattle.dt_read.proofs.CheckedBytes.{placed_by}
use Rattle.dt_read.proofs.blob.Blob.check_in.Goals as goal

pub returns-in-Err-clause-fault : goal.returns-in-Err-clause-fault
returns-in-Err-clause-fault c =
    let f = c.in-Err.ensures.first in
    (f.0, c.placed.ensures.kind ∙ f.1, first_at c.args.bytes.now c.in_ok-blocks.blocks f.0 c.in-Err.bad.kind c.in-Err.bad.offset c.placed.result.at c.in_ok-blocks.ensures.blocks f.1 f.2 c.placed.ensures.limit c.placed.ensures.place)

pub returns-then-not-has_distinct_names-clause-fault :
    goal.returns-then-not-has_distinct_names-clause-fault
returns-then-not-has_distinct_names-clause-fault c =
    let tree = c.in-Ok.structure in
    let first = names_at c.args.bytes.now c.in_ok-blocks.blocks tree c.in_ok-blocks.ensures.blocks c.in-Ok.ensures.tree (λ a. false≢true (c.if-not-has_distinct_names.ensures.is.1 (distinct tree a))) in
    (_, c.of.ensures.kind, subst (IsFirstFault c.args.bytes.now _) (sym c.of.ensures.at) first)

pub returns-then-not-are_phandles-clause-fault : goal.returns-then-not-are_phandles-clause-fault
returns-then-not-are_phandles-clause-fault c =
    let tree = c.in-Ok.structure in
    let h = c.in-Ok.ensures.tree in
    let a = apart tree c.in-Ok.ensures.places h.properties h.nodes (c.if-not-has_distinct_names.ensures.is.0 refl) in
    let values = tree_phandles tree a in
    let first = phandles_at c.args.bytes.now c.in_ok-blocks.blocks tree c.in_ok-blocks.ensures.blocks h a (λ n. false≢true (c.if-not-are_phandles.ensures.1 (by_numbered tree (phandles_in (marks_of tree ++ last_mark ∷ [])) values n))) in
    (_, c.of-then-not-are_phandles.ensures.kind, subst (IsFirstFault c.args.bytes.now _) (sym c.of-then-not-are_phandles.ensures.at) first)

pub invariant_of-result : goal.invariant_of-result
invariant_of-result c =
    let tree = c.in-Ok.structure in
    let h = c.in-Ok.ensures.tree in
    let blocks = c.in_ok-blocks.ensures.blocks in
    let a = apart tree c.in-Ok.ensures.places h.properties h.nodes (c.if-not-has_distinct_names.ensures.is.0 refl) in
    let n = numbered_by tree (phandles_in (marks_of tree ++ last_mark ∷ [])) (tree_phandles tree a) (c.if-not-are_phandles.ensures.0 refl) in
    let fits : IsBytes c.args.bytes.now = λ i. omega (arith, c.type_inv.bytes i) in
    let small = number_small c.args.bytes.now 28 fits in
    let cpu = blocks.boot_cpu in
    record {
      rising = record { high = c.in-Ok.ensures.places.high; rise = c.in-Ok.ensures.places.rise };
      apart = a;
      copy = may_copy c.args.bytes.now c.in_ok-blocks.blocks tree fits blocks (omega arith) h a n;
    }

pub returns-clause-reads : goal.returns-clause-reads
returns-clause-reads c =
    let tree = c.in-Ok.structure in
    let h = c.in-Ok.ensures.tree in
    let blocks = c.in_ok-blocks.ensures.blocks in
    let a = apart tree c.in-Ok.ensures.places h.properties h.nodes (c.if-not-has_distinct_names.ensures.is.0 refl) in
    let values = tree_phandles tree a in
    let n = numbered_by tree (phandles_in (marks_of tree ++ last_mark ∷ [])) values (c.if-not-are_phandles.ensures.0 refl) in
    let small = number_small c.args.bytes.now 28 (λ i. omega (arith, c.type_inv.bytes i)) in
    let cpu = blocks.boot_cpu in
    reads c.args.bytes.now c.in_ok-blocks.blocks tree blocks (omega arith) h a n

pub returns-clause-within : goal.returns-clause-within
returns-clause-within c = within c.args.bytes.now c.in_ok-blocks.blocks c.in-Ok.structure c.in_ok-blocks.ensures.blocks c.in-Ok.ensures.tree

pub returns-clause-places : goal.returns-clause-places
returns-clause-places c = places _ (invariant_of-result c)

pub returns-clause-placed : goal.returns-clause-placed
returns-clause-placed c = placed_by c.args.bytes.now c.in_ok-blocks.blocks c.in-Ok.structure c.in_ok-blocks.ensures.blocks c.in-Ok.ensures.tree
