-- A small source means a named tree.
use Rattle.std.proofs.Common.{List, [], ◌∷◌, codes, refl, rules, arith}
use Rattle.std.specs.Prelude.{Result, Ok, Err}
use Rattle.dt_model.specs.Names.{Name}
use Rattle.dt_model.specs.Path.{Path}
use Rattle.dt_model.specs.Event.{age_by}
use Rattle.dt_model.specs.Source.{base, SoFar, Refusal, nothing, read_all}
use Rattle.dt_model.specs.NamedOf.{IsNamedOf}
use Rattle.dt_model_laws.specs.NamedSample.{named_source, named_tree}
use Rattle.dt_model_laws.proofs.CheckedNamed.{IsCheckedNamed, checked_named}

abbrev read_or_nothing : Result SoFar Refusal → SoFar
read_or_nothing (Ok s) = s
read_or_nothing (Err e) = nothing

abbrev after : SoFar
after = read_or_nothing (read_all base nothing named_source)

abbrev paths : List Path
paths = [] ∷ (codes "a" ∷ []) ∷ (codes "b" ∷ []) ∷ (codes "c" ∷ []) ∷ (codes "d" ∷ []) ∷ []

abbrev names : List Name
names = codes "l" ∷ codes "q" ∷ codes "p" ∷ codes "phandle" ∷ []

checked : IsCheckedNamed named_source after paths names named_tree
unfolding age_by
checked = record {
  all_read = refl;
  closed = refl;
  is_read = search rules;
  reservations = refl;
  tree = record {
    placed = refl;
    nodes = refl;
    values = search rules;
    referred = search (rules, arith);
    ordered = refl;
  };
}

pub sample_is_named : IsNamedOf base [] named_source named_tree
sample_is_named = checked_named named_source after paths names named_tree checked
