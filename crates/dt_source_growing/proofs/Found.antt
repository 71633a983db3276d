-- What the tables of a tree under construction find, as the code reads it.
use Rattle.std.proofs.Common.{◌≡◌, ℕ, ◌<◌, Bool, List, Option, Some, vec_len, slice_get, get_or, sym, ◌∙◌, ap}
use Rattle.std.proofs.lemmas.Option.{slice_get_read}
use Rattle.dt_model.specs.Names.{Name}
use Rattle.dt_source_growing.specs.Table.{Key, entry}
use Rattle.dt_source_growing.specs.Listing.{listed}
use Rattle.dt_source_growing.specs.Growing.{found, standing}
use Rattle.dt_source_growing.specs.declared.table.Last.{Last}
use Rattle.dt_source_growing.specs.declared.growing.Node.{Node}
use Rattle.dt_source_growing.specs.declared.growing.Property.{Property}
use Rattle.dt_source_growing.specs.declared.growing.Growing.{Growing}

-- what was last made and stands is what is found
pub standing_found : {X : Type 0} (owner : X → ℕ) (name : X → Name) (stands : X → Bool) (xs ys : List X) (entries : List (Key × Last)) (i : ℕ) (x : Name) (last : Option Last) (r : Option ℕ)
    → last ≡ entry entries i x → ys ≡ xs → r ≡ standing stands ys last → found (listed owner name stands xs entries) i x ≡ r
standing_found {X = X} owner name stands xs ys entries i x last r before same is =
    ap (standing stands xs) (sym before) ∙ ap (λ (zs : List X). standing stands zs last) (sym same) ∙ sym is

pub node_read : (g : Growing) (k : ℕ) (n : Node) → k < vec_len g.nodes → n ≡ get_or g.nodes.items k n → slice_get g.nodes.items k ≡ Some n
node_read g k n inside read = slice_get_read g.nodes.items (vec_len g.nodes) k n g.nodes.ok.0 inside read

pub property_read : (g : Growing) (k : ℕ) (q : Property) → k < vec_len g.properties → q ≡ get_or g.properties.items k q → slice_get g.properties.items k ≡ Some q
property_read g k q inside read = slice_get_read g.properties.items (vec_len g.properties) k q g.properties.ok.0 inside read
