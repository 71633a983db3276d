use Rattle.std.proofs.Common.{◌≡◌, ◌∷◌, [], refl, sym, ap, subst, ◌∙◌}
use Rattle.dt_model.specs.Valid.{AreDistinct}
use Rattle.dt_read.specs.Keys.{keys_in}
use Rattle.dt_read.specs.declared.keys.Wanted.TheVariants.{Own}
use Rattle.dt_read.specs.Parsing.{left_by}
use Rattle.dt_read.proofs.NamesApart.{few_differ, own_differ}
use Rattle.dt_read.proofs.distinct.has_distinct_properties.Goals as goal

pub returns-clause-is : goal.returns-clause-is
returns-clause-is c =
    let same : c.own-own.result ≡ keys_in Own (c.args.place ∷ []) c.args.cursor.now = c.own-own.ensures ∙ ap (keys_in Own (c.args.place ∷ [])) c.copy.ensures.same in
    let names = own_differ c.args.place c.args.cursor.now in (
      λ t. names.0 (subst AreDistinct same (c.are_distinct.ensures.is.0 t)),
      λ d. c.are_distinct.ensures.is.1 (subst AreDistinct (sym same) (names.1 d)),
    )

pub returns-then-has_no_two_properties-clause-is : goal.returns-then-has_no_two_properties-clause-is
returns-then-has_no_two_properties-clause-is c = (
  (λ t. few_differ (left_by c.args.cursor.now).properties (c.has_no_two_properties.ensures.0 c.if-has_no_two_properties.true)),
  (λ d. refl),
)
