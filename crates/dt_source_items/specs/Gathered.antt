-- What was read of a text so far.
use Rattle.std.specs.Prelude.{List, [], ◌∷◌, ◌++◌}
use Rattle.dt_model.specs.Source.{Part, Place}

-- its places, and the parts of the value that was begun last
pub record Gathered : Type 0 where
  pub places : List Place
  pub value : List Part

-- nothing was read
abbrev pub nothing_gathered : Gathered
nothing_gathered = record { places = []; value = [] }

-- one more place
abbrev pub with_place : Gathered → Place → Gathered
with_place g p = record { places = g.places ++ p ∷ []; value = g.value }

-- the value goes on
abbrev pub with_parts : Gathered → List Part → Gathered
with_parts g ps = record { places = g.places; value = g.value ++ ps }

-- another value, which has these parts
abbrev pub with_value : Gathered → List Part → Gathered
with_value g ps = record { places = g.places; value = ps }
