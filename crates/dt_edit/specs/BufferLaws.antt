-- What a blob's changes keep is kept by none of them, and by one after another.
use Rattle.std.specs.Prelude.{◌≡◌, ℕ, List, [], ◌∷◌, ◌++◌, ◌⊎◌}
use Rattle.std.proofs.Common.{inl, inr, refl, sym, ap, ◌∙◌}
use Rattle.dt_model.specs.Checks.{strings_of}
use Rattle.dt_model.specs.Lists.{IsIn}
use Rattle.dt_model.specs.Names.{Name}
use Rattle.dt_model.proofs.Tests.{in_append}
use Rattle.dt_model_format.specs.Strings.{place_in}
use Rattle.dt_edit.specs.Buffers.{property_names, strings_with, Follows}
use Rattle.dt_edit.specs.Editable.{reading_in}
use Rattle.dt_edit.specs.Plans.{brought_by}

with_append : (strings : List ℕ) (xs ys : List Name) → strings_with strings (xs ++ ys) ≡ strings_with (strings_with strings xs) ys
with_append strings [] ys = refl
with_append strings (x ∷ xs) ys = with_append (strings ++ brought_by (place_in strings x) x) xs ys

pub follows_own : (bytes : List ℕ) → Follows bytes bytes
follows_own bytes = record { spare = refl; names = []; strings = refl; used = λ n there. absurd there; kept = λ n there. there }

pub follows_on : (a b c : List ℕ) → Follows a b → Follows b c → Follows a c
follows_on a b c f g = record {
  spare = g.spare ∙ f.spare;
  names = f.names ++ g.names;
  strings = g.strings ∙ ap (λ (s : List ℕ). strings_with s g.names) f.strings ∙ sym (with_append (strings_of a) f.names g.names);
  used = λ n there. by n (in_append n f.names g.names there);
  kept = λ n there. g.kept n (f.kept n there);
}
  where
    by : (n : Name) → IsIn n f.names ⊎ IsIn n g.names → IsIn n (property_names (reading_in c))
    by n (inl there) = g.kept n (f.used n there)
    by n (inr there) = g.used n there
