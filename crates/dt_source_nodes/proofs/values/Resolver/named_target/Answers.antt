use Rattle.std.proofs.Common.{◌≡◌, List, [], ◌∷◌, Some, MatchResult, refl, ap, sym, ◌∙◌, subst}
use Rattle.dt_model.specs.Meaning.{Item}
use Rattle.dt_model.specs.Named.{NodeReference}
use Rattle.dt_model.specs.Path.{path_value}
use Rattle.dt_model.specs.Source.{Part, number_of}
use Rattle.dt_source_items.specs.declared.source.Reference.{Reference}
use Rattle.dt_source_items.specs.Said.{reference_of}
use Rattle.dt_source_named_tree.specs.Said.{value_said}
use Rattle.dt_source_growing.specs.Grown.{target_value}
use Rattle.dt_source_nodes.specs.Contents.{named_parts}
use Rattle.dt_source_nodes.specs.Resolving.{EachReading, IsUnread}
use Rattle.dt_source_nodes.proofs.Binding.{bytes_named}
use Rattle.dt_source_nodes.proofs.values.Resolver.named_target.Goals as goal

pub returns-in-Label : goal.returns-in-Label
returns-in-Label c =
    let same : number_of (reference_of c.args.reference.now) ∷ [] ≡ target_value (reference_of c.args.reference.now) =
    subst (λ (r : Reference). number_of (reference_of r) ∷ [] ≡ target_value (reference_of r)) (sym c.in-Label.is) refl in
    subst (λ (parts : List Part). MatchResult c.named_label.result
    (λ value. EachReading c.args.self.now (λ es place. named_parts c.args.self.now.unnamed es place parts ≡ Some (value_said value)))
    (λ fault. IsUnread c.args.self.now.unnamed c.args.self.now.growing.now parts fault)) same c.named_label.ensures

pub returns-in_ok-path_value-in-Path : goal.returns-in_ok-path_value-in-Path
returns-in_ok-path_value-in-Path c = λ es place limit of by.
    ap (λ (r : Reference). named_parts c.args.self.now.unnamed es place (target_value (reference_of r))) c.in-Path.is
    ∙ bytes_named c.args.self.now.unnamed es place (path_value c.in-Path.path)
    ∙ ap (λ (xs : List (Item NodeReference)). Some xs) (sym c.in_ok-path_value-in-Path.ensures)
