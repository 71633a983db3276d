use Rattle.std.proofs.Common.{◌<◌, List, [], ◌∷◌, length, rules, refl, sym, ap, subst, arith}
use Rattle.std.proofs.lemmas.Bool.{false≢true}
use Rattle.std.specs.List.{AllByRecursion}
use Rattle.dt_model.specs.Valid.{AreDistinct, IsPhandle}
use Rattle.dt_read.specs.Keys.{Key, keys_of}
use Rattle.dt_read.specs.declared.keys.Wanted.TheVariants.{Phandles}
use Rattle.dt_read.proofs.PhandleKeys.{right_keys}
use Rattle.dt_read.proofs.phandle.are_phandles.Goals as goal

few_distinct : (keys : List Key) → length keys < 2 → AreDistinct keys
few_distinct [] l = tt
few_distinct (a ∷ []) l = (tt, tt)
few_distinct (a ∷ b ∷ keys) l = absurd (omega (arith, l))

pub returns-then-is_none : goal.returns-then-is_none
returns-then-is_none c =
    let right = right_keys c.args.structure.now in
    let wrong : ¬ IsPhandle c.in-Some.key.bytes.now = λ p. search (rules, c.phandle_of.ensures.valid.1 p) in (
      λ t. absurd (false≢true t),
      λ a. absurd (wrong (subst (λ (keys : List Key). AllByRecursion (λ k. IsPhandle k.bytes) keys) c.in-Some.ensures.steps (c.loop-key.invariant.2.1 (right.1 a).each)).0),
    )

pub returns-then-count-lt2 : goal.returns-then-count-lt2
returns-then-count-lt2 c =
    let right = right_keys c.args.structure.now in
    let none = c.in-None.ensures.steps.0 in
    let few : length (keys_of Phandles c.args.structure.now) < 2 = omega (arith, c.loop-key.invariant.3, ap length none, c.if-count-lt2.true) in (
      λ t. right.0 (record {
        each = c.loop-key.invariant.2.0 (subst (λ (keys : List Key). AllByRecursion (λ k. IsPhandle k.bytes) keys) (sym none) tt);
        distinct = few_distinct _ few;
      }),
      λ a. refl,
    )

pub returns : goal.returns
returns c =
    let right = right_keys c.args.structure.now in (
      λ t. right.0 (record {
        each = c.loop-key.invariant.2.0 (subst (λ (keys : List Key). AllByRecursion (λ k. IsPhandle k.bytes) keys) (sym c.in-None.ensures.steps.0) tt);
        distinct = subst AreDistinct c.of.ensures.all (c.are_distinct.ensures.is.0 t);
      }),
      λ a. c.are_distinct.ensures.is.1 (subst AreDistinct (sym c.of.ensures.all) (right.1 a).distinct),
    )
