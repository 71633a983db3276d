use Rattle.std.proofs.Common.{◌≡◌, ℕ, ◌<◌, length, Some, get_or, option_map, sym, ap, subst, ◌∙◌}
use Rattle.std.specs.List.{slice_get}
use Rattle.std.proofs.lemmas.List.{length-map}
use Rattle.std.proofs.lemmas.Option.{slice_get-map, slice_get-get_or}
use Rattle.dt_model.specs.Source.{Place}
use Rattle.dt_source_items.specs.Gathered.{Gathered}
use Rattle.dt_source_items.specs.Rows.{gathered, row_said}
use Rattle.dt_source_items.specs.declared.items.Row.{Row}
use Rattle.dt_source_items.specs.declared.items.Items.TheInside.{Inside}
use Rattle.dt_source_items.proofs.items.Items.get.Goals as goal

-- what a row of these says
abbrev said_in : Inside → Row → Place
said_in s row = row_said s.named.items s.spans.items s.pieces.items s.bytes.items row

row_there : (g : Gathered) (s : Inside) → gathered s.rows.items s.named.items s.spans.items s.pieces.items s.bytes.items s.piece s.byte ≡ g → (i : ℕ) (row is : Row) → i < length g.places
    → row ≡ get_or s.rows.items i row → row ≡ is → slice_get g.places i ≡ Some (said_in s is)
row_there g s same i row is within e told =
    let few : i < length s.rows.items = subst (λ (n : ℕ). i < n) (ap (λ (h : Gathered). length h.places) (sym same) ∙ length-map s.rows.items (said_in s)) within in
    ap (λ (h : Gathered). slice_get h.places i) (sym same)
    ∙ slice_get-map (said_in s) s.rows.items i
    ∙ ap (option_map (said_in s)) (slice_get-get_or s.rows.items i row few)
    ∙ ap (λ (r : Row). Some (said_in s r)) (sym e ∙ told)

pub returns-in-Root : goal.returns-in-Root
returns-in-Root c = row_there c.args.self.now c.self.inside c.self.view_is c.args.index c.index.result.now _ c.requires c.index.ensures c.in-Root.is

pub returns-in-Child : goal.returns-in-Child
returns-in-Child c = row_there c.args.self.now c.self.inside c.self.view_is c.args.index c.index.result.now _ c.requires c.index.ensures c.in-Child.is

pub returns-in-Label : goal.returns-in-Label
returns-in-Label c = row_there c.args.self.now c.self.inside c.self.view_is c.args.index c.index.result.now _ c.requires c.index.ensures c.in-Label.is

pub returns-in-Close : goal.returns-in-Close
returns-in-Close c = row_there c.args.self.now c.self.inside c.self.view_is c.args.index c.index.result.now _ c.requires c.index.ensures c.in-Close.is

pub returns-in-Flag : goal.returns-in-Flag
returns-in-Flag c = row_there c.args.self.now c.self.inside c.self.view_is c.args.index c.index.result.now _ c.requires c.index.ensures c.in-Flag.is

pub returns-in-DeleteProperty : goal.returns-in-DeleteProperty
returns-in-DeleteProperty c = row_there c.args.self.now c.self.inside c.self.view_is c.args.index c.index.result.now _ c.requires c.index.ensures c.in-DeleteProperty.is

pub returns-in-DeleteChild : goal.returns-in-DeleteChild
returns-in-DeleteChild c = row_there c.args.self.now c.self.inside c.self.view_is c.args.index c.index.result.now _ c.requires c.index.ensures c.in-DeleteChild.is
