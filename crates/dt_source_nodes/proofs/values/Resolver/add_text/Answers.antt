use Rattle.std.proofs.Common.{List, map, reverse, option_map, ap, sym, subst}
use Rattle.dt_model.specs.Path.{path_value}
use Rattle.dt_model.specs.Event.{Stack}
use Rattle.dt_model.specs.Meaning.{Item, byte}
use Rattle.dt_model.specs.Named.{NodeReference}
use Rattle.dt_source_growing.specs.declared.growing.Node.{Node}
use Rattle.dt_source_growing.specs.Grown.{StandsUnder}
use Rattle.dt_source_nodes.proofs.values.Resolver.add_text.Goals as goal

abbrev text_bytes : Stack → List (Item NodeReference)
text_bytes p = map byte (path_value (reverse p))

pub returns : goal.returns
returns c = λ es place of.
    let to = c.in-Some.ensures.refers es of in (
      text_bytes to.0,
      ap (option_map text_bytes) to.1,
      c.in_ok-add_path_bytes.ensures to.0 (subst (λ (ns : List Node). StandsUnder ns to.0 c.in-Some.node) (sym c.deref.ensures.value) to.2),
    )
