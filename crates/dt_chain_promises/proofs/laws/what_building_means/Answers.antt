use Rattle.dt_chain_promises.proofs.BuiltMeanings.{merged_once, building_is_merging, not_built_is_no_meaning}
use Rattle.dt_chain_promises.proofs.laws.what_building_means.Goals as goal

pub returns-clause-one : goal.returns-clause-one
returns-clause-one c = merged_once c.one_outcome.ensures.said c.overlay_is_one.ensures c.sites_are_one.ensures

pub returns-clause-merged : goal.returns-clause-merged
returns-clause-merged c =
    building_is_merging c.parsed_has_places.ensures.places c.written_reads.ensures.reads c.object_encodes.ensures.encodes c.object_encodes.ensures.short
    c.overlay_source_is_an_overlay.ensures c.one_outcome.ensures.said c.overlay_is_one.ensures c.in_turn_is_fold.ensures
    c.parsed_has_places.ensures.some c.compiled_base_represents.ensures c.source_is_a_meaning.ensures.meaning c.source_is_a_meaning.ensures.plain
    c.written_reads.ensures.within

pub returns-clause-refused : goal.returns-clause-refused
returns-clause-refused c =
    not_built_is_no_meaning c.parsed_has_places.ensures.places c.written_reads.ensures.reads c.object_encodes.ensures.encodes c.object_encodes.ensures.short
    c.overlay_source_is_an_overlay.ensures c.one_outcome.ensures.said c.overlay_is_one.ensures c.in_turn_is_fold.ensures
    c.parsed_has_places.ensures.some c.compiled_base_represents.ensures c.source_is_a_meaning.ensures.meaning c.source_is_a_meaning.ensures.plain
    c.one_outcome.ensures.only c.compiled_is_not_refused.ensures.meant c.overlay_refusal_is_one.ensures.meant c.sites_are_one.ensures
    c.refused_is_undefined.ensures
