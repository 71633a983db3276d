-- What the texts determine of addresses and routes is so in the blobs.
use Rattle.dt_resolve_model.specs.Laws.{MeaningIsResolved}
use Rattle.dt_chain_promises.specs.Laws.{BuildingIsMerging, ApplyingIsMerging, BaseRepresents, BuildingIsResolved, ApplyingIsResolved, CompilingIsResolved}
use Rattle.dt_chain_promises.proofs.AppliedMeanings.{tree_is_of}

pub building_is_resolved : BuildingIsMerging → MeaningIsResolved → BuildingIsResolved
building_is_resolved merging resolved text texts blob bytes each h =
    let b = merging text texts blob bytes each h in
    (b, resolved b.of_meaning.tree b.result b.number (tree_is_of blob b.result b.number b.of_meaning))

pub applying_is_resolved : ApplyingIsMerging → MeaningIsResolved → ApplyingIsResolved
applying_is_resolved merging resolved bytes objects blob m overlays number of_base of_objects h =
    let (result, number', fold, of_meaning, extends) = merging bytes objects blob m overlays number of_base of_objects h in
    (result, number', fold, of_meaning, extends, resolved of_meaning.tree result number' (tree_is_of blob result number' of_meaning))

pub compiling_is_resolved : BaseRepresents → MeaningIsResolved → CompilingIsResolved
compiling_is_resolved represents resolved text blob bytes h =
    let b = represents text blob bytes h in
    (b, resolved b.of_meaning.tree b.meaning b.number (tree_is_of blob b.meaning b.number b.of_meaning))
