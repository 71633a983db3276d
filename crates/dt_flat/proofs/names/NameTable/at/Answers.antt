use Rattle.std.proofs.Common.{◌∙◌, sym, ap, List}
use Rattle.dt_model.specs.Names.{Name}
use Rattle.dt_flat.specs.Names.{text}
use Rattle.dt_flat.proofs.NameLemmas.{text-get}
use Rattle.dt_flat.proofs.names.NameTable.at.Goals as goal

pub returns : goal.returns
returns c =
    c.as_slice.ensures ∙ sym (text-get c.self.inside.names.keys c.args.id c.in-Some.name.now (sym c.in-Some.ensures.key)) ∙ ap (λ (names : List Name). text names c.args.id) c.self.view_is
