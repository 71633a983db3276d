use Rattle.dt_chain_promises.proofs.CompiledMeanings.{base_represents, raw_is_instance, overlay_is_object, not_compiled_is_no_meaning, raw_not_compiled_is_no_meaning}
use Rattle.dt_chain_promises.proofs.laws.what_compiling_means.Goals as goal

pub returns-clause-base : goal.returns-clause-base
returns-clause-base c =
    base_represents c.parsed_has_places.ensures.places c.parsed_has_places.ensures.some c.compiled_base_represents.ensures
    c.source_is_a_meaning.ensures.meaning c.source_is_a_meaning.ensures.plain c.compiled_tree_is_valid.ensures c.written_reads.ensures.reads c.written_reads.ensures.within

pub returns-clause-raw : goal.returns-clause-raw
returns-clause-raw c =
    raw_is_instance c.parsed_has_places.ensures.places c.parsed_has_places.ensures.some c.compiled_tree_is_valid.ensures c.written_reads.ensures.reads
    c.written_reads.ensures.within

pub returns-clause-overlay : goal.returns-clause-overlay
returns-clause-overlay c =
    overlay_is_object c.parsed_has_places.ensures.places c.written_reads.ensures.reads c.object_encodes.ensures.encodes c.object_encodes.ensures.short
    c.overlay_source_is_an_overlay.ensures c.object_is_valid.ensures c.written_reads.ensures.within

pub returns-clause-refused : goal.returns-clause-refused
returns-clause-refused c =
    not_compiled_is_no_meaning c.one_outcome.ensures.said c.one_outcome.ensures.only c.compiled_is_not_refused.ensures.meant c.overlay_refusal_is_one.ensures.meant

pub returns-clause-raw_refused : goal.returns-clause-raw_refused
returns-clause-raw_refused c =
    raw_not_compiled_is_no_meaning c.one_outcome.ensures.said c.one_outcome.ensures.only c.compiled_is_not_refused.ensures.meant
