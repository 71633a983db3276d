use Rattle.std.proofs.Common.{◌≡◌, ℕ, List, Some, None, refl, sym, ap, ◌∙◌}
use Rattle.std.specs.List.{AllByRecursion}
use Rattle.std.proofs.lemmas.Option.{same_Some}
use Rattle.dt_model.specs.Names.{IsNodeName}
use Rattle.dt_model.specs.Path.{Path, path_text}
use Rattle.dt_names.specs.Fault.{IsExclusive, IsOneRefusal}
use Rattle.dt_names.specs.declared.fault.FaultKind.TheVariants.{BadName, NoNode}
use Rattle.dt_trees.specs.Placed.{PlacedTree, place_of}
use Rattle.dt_trees.specs.Views.{IsFoundBy, WhyNotFound}
use Rattle.dt_trees.proofs.laws.one_finding.Goals as goal

abbrev IsOnePath : Type 0
IsOnePath = (p q : Path) → AllByRecursion IsNodeName p → AllByRecursion IsNodeName q → path_text p ≡ path_text q → p ≡ q

one : IsOnePath → (t : PlacedTree) (text : List ℕ) (node other : ℕ) → IsFoundBy t text node → IsFoundBy t text other → node ≡ other
one same t text node other a b =
    let path = same a.path b.path a.written.named b.written.named (sym a.written.written ∙ b.written.written) in
    same_Some node other (sym a.there ∙ ap (place_of t) path ∙ b.there)

found : IsOnePath → (t : PlacedTree) (text : List ℕ) (node : ℕ) → IsExclusive (IsFoundBy t text node) (λ kind. WhyNotFound kind t text)
found same t text node BadName is why = absurd (why is.path is.written)
found same t text node NoNode is why =
    let path = same is.path why.0 is.written.named why.1.named (sym is.written.written ∙ why.1.written) in
    let both : Some node ≡ None = sym is.there ∙ ap (place_of t) path ∙ why.2 in
    absurd cc
found same t text node _ is why = absurd why

not_found : (t : PlacedTree) (text : List ℕ) → IsOneRefusal (λ kind. WhyNotFound kind t text)
not_found t text BadName BadName ne ne' why why' = refl
not_found t text BadName NoNode ne ne' why why' = absurd (why why'.0 why'.1)
not_found t text BadName _ ne ne' why why' = absurd why'
not_found t text NoNode BadName ne ne' why why' = absurd (why' why.0 why.1)
not_found t text NoNode NoNode ne ne' why why' = refl
not_found t text NoNode _ ne ne' why why' = absurd why'
not_found t text _ other ne ne' why why' = absurd why

pub returns-clause-one : goal.returns-clause-one
returns-clause-one c = one c.one_path.ensures

pub returns-clause-found : goal.returns-clause-found
returns-clause-found c = found c.one_path.ensures

pub returns-clause-not_found : goal.returns-clause-not_found
returns-clause-not_found c = not_found
