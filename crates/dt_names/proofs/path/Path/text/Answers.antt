use Rattle.std.proofs.Common.{rules, ◌≡◌, ◌<◌, [], length, sym, ap, ◌∙◌}
use Rattle.std.proofs.lemmas.List.{nil_from_length}
use Rattle.dt_model.specs.Path.{path_text}
use Rattle.dt_names.specs.Paths.{names_in}
use Rattle.dt_names.proofs.PathTexts.{path_of_names, root_names}
use Rattle.dt_names.proofs.path.Path.text.Goals as goal

pub returns-then-is_empty : goal.returns-then-is_empty
returns-then-is_empty c =
    let none : length c.self.inside.text.items ≡ 0 = search rules in
    let names : c.args.self.now ≡ [] =
    sym c.self.view_is ∙ ap names_in (nil_from_length c.self.inside.text.items none) ∙ root_names in
    c.as_slice.ensures ∙ ap path_text (sym names)

pub returns-else-is_empty : goal.returns-else-is_empty
returns-else-is_empty c =
    let some : 0 < length c.self.inside.text.items = search rules in
    c.deref.ensures.value ∙ (path_of_names c.self.inside.text.items c.self.invariant.names some).written ∙ ap path_text c.self.view_is
