use Rattle.dt_resolve_model.specs.World.{tree_world, meaning_world}
use Rattle.dt_resolve_model.proofs.RegionsAgree.{region_agrees, dma_region_agrees}
use Rattle.dt_resolve_model.proofs.InterruptsAgree.{route_agrees, interrupt_at_agrees}
use Rattle.dt_resolve_model.proofs.SpecifiersAgree.{specifier_route_agrees, specifier_at_agrees}
use Rattle.dt_resolve_model.proofs.Worlds.{tree_refines, written_found}
use Rattle.dt_resolve_model.proofs.laws.meaning_is_resolved.Goals as goal

pub returns : goal.returns
returns c = λ t m number of. record {
  regions = λ nodes p index. region_agrees (meaning_world m nodes) (tree_world t) (tree_refines t m number nodes of) p index;
  dma_regions = λ nodes p address size. dma_region_agrees (meaning_world m nodes) (tree_world t) (tree_refines t m number nodes of) p address size;
  routes = λ nodes p index meant told h k. route_agrees (meaning_world m nodes) (tree_world t) (tree_refines t m number nodes of) p index meant told h k;
  specifiers = λ nodes p property kind index. specifier_route_agrees (meaning_world m nodes) (tree_world t) (tree_refines t m number nodes of) p property kind index;
  interrupts_at = λ nodes p at. interrupt_at_agrees (meaning_world m nodes) (tree_world t) (tree_refines t m number nodes of) p at;
  specifiers_at = λ nodes p property kind at. specifier_at_agrees (meaning_world m nodes) (tree_world t) (tree_refines t m number nodes of) p property kind at;
  written = λ p n e. written_found t m number p n of e;
}
