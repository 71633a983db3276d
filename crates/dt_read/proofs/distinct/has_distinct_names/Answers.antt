use Rattle.std.proofs.Common.{refl, sym, subst, ◌∙◌}
use Rattle.std.proofs.lemmas.Bool.{false≢true}
use Rattle.dt_model.specs.Valid.{AreDistinct}
use Rattle.dt_read.proofs.NameKeys.{names_differ}
use Rattle.dt_read.proofs.NamesApart.{names_apart}
use Rattle.dt_read.proofs.distinct.has_distinct_names.Goals as goal

pub returns-then-bound-most-clause-is : goal.returns-then-bound-most-clause-is
returns-then-bound-most-clause-is c =
    let names = names_differ c.args.structure.now c.requires.places in (
      λ t. names.0 (subst AreDistinct c.of-names.ensures.all (c.are_distinct.ensures.is.0 t)),
      λ h. c.are_distinct.ensures.is.1 (subst AreDistinct (sym c.of-names.ensures.all) (names.1 h)),
    )

pub returns-then-count-most-clause-is : goal.returns-then-count-most-clause-is
returns-then-count-most-clause-is c =
    let names = names_differ c.args.structure.now c.requires.places in (
      λ t. names.0 (subst AreDistinct c.of-names.ensures.all (c.are_distinct-then-count-most.ensures.is.0 t)),
      λ h. c.are_distinct-then-count-most.ensures.is.1 (subst AreDistinct (sym c.of-names.ensures.all) (names.1 h)),
    )

pub returns-then-are_distinct-clause-is : goal.returns-then-are_distinct-clause-is
returns-then-are_distinct-clause-is c =
    let names = names_apart c.args.structure.now c.requires.places in
    let children = subst AreDistinct c.of-children.ensures.all (c.if-are_distinct.ensures.is.0 refl) in
    (λ t. names.0 (children, c.have_distinct_properties.ensures.is.0 t), λ h. c.have_distinct_properties.ensures.is.1 (names.1 h).1)

pub returns-else-are_distinct-clause-is : goal.returns-else-are_distinct-clause-is
returns-else-are_distinct-clause-is c =
    let names = names_apart c.args.structure.now c.requires.places in (
      λ t. absurd (false≢true (sym c.if-are_distinct.false ∙ t)),
      λ h. c.are_distinct-2.ensures.is.1 (subst AreDistinct (sym c.of-children.ensures.all) (names.1 h).0),
    )
