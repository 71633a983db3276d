use Rattle.std.proofs.Common.{◌≡◌, ◌≢◌, ◌+◌, ◌%◌, ℕ, true, List, ◌∷◌, take, length, refl, sym, ap, subst, ◌∙◌, arith}
use Rattle.std.proofs.lemmas.Bool.{false≢true}
use Rattle.std.proofs.lemmas.Option.{slice_get_within}
use Rattle.std.specs.List.{AllByRecursion}
use Rattle.dt_model.specs.Lists.{IsIn}
use Rattle.dt_read.specs.Filter.{holds}
use Rattle.dt_read.specs.Keys.{Key, said}
use Rattle.dt_read.specs.Classes.{hash_of}
use Rattle.dt_read.proofs.Novelty.{not_in, at_drop, drop_next, equal_earlier, new_skip, new_more, new_if_not_held}
use Rattle.dt_read.proofs.distinct.is_distinct_class.Invariants.{SoFar}
use Rattle.dt_read.proofs.distinct.is_distinct_class.Goals.{then-hash-classes+else-seems_to_hold, else-hash-classes}
use Rattle.dt_read.proofs.distinct.is_distinct_class.Goals.{else-seems_to_hold-via-then-seems_to_hold+else-is_among}
use Rattle.dt_read.proofs.distinct.is_distinct_class.Goals.{else-seems_to_hold-via-else-seems_to_hold}
use Rattle.dt_read.proofs.distinct.is_distinct_class.Goals as goal

module _ (seed classes class size : ℕ) (words : List ℕ) (all left rest : List Key) (before : ℕ) (k : Key)
    (so_far : SoFar seed classes class size words all left before) (first : left ≡ k ∷ rest) where
  skip : hash_of seed k % classes ≢ class → SoFar seed classes class size words all rest (before + 1)
  skip other =
      let e = so_far.left_is ∙ first in let len = ap length first in let within = so_far.within in
      record {
        size_is = so_far.size_is;
        left_is = drop_next all before k rest e;
        within = omega arith;
        new = new_skip _ _ all before k (at_drop all before k rest e) other so_far.new;
      }

  put_in : (after : List ℕ) → AllByRecursion (λ other. other ≢ k) (take before all) → length after ≡ length words →
      holds after (hash_of seed k) ≡ true → ((h : ℕ) → holds words h ≡ true → holds after h ≡ true) → SoFar seed classes class size after all rest (before + 1)
  put_in after new same put kept =
      let e = so_far.left_is ∙ first in let len = ap length first in let within = so_far.within in
      record {
        size_is = same ∙ so_far.size_is;
        left_is = drop_next all before k rest e;
        within = omega arith;
        new = new_more _ _ _ all before k (at_drop all before k rest e) new put (λ y. kept (hash_of seed y)) so_far.new;
      }

pub returns-then-is_among-clause-equal : goal.returns-then-is_among-clause-equal
returns-then-is_among-clause-equal c =
    let all = c.args.first.now in
    let key = said c.in-Some.key in
    let at = at_drop all c.loop-key.before key c.next.new.self (c.loop-key.invariant.left_is ∙ c.in-Some.ensures.steps) in
    equal_earlier all c.loop-key.before key at (subst (λ (l : List Key). IsIn key (take c.loop-key.before l)) c.copy.ensures.same (c.if-is_among.ensures.0 refl))

pub loop-key-preserved : goal.loop-key-preserved
loop-key-preserved c =
    let all = c.args.first.now in
    let key = said c.in-Some.key in
    let before = c.loop-key.before in
    let so_far = c.loop-key.invariant in
    let hash : c.hashed-hash.result ≡ hash_of c.args.seed key = c.hashed-hash.ensures in
    elim c.if-hash-classes.branch [
      | then-hash-classes+else-seems_to_hold w ↦ (
          let kind : hash_of c.args.seed key % c.args.classes ≡ c.args.class = ap (λ h. h % c.args.classes) (sym hash) ∙ w.if-hash-classes.true in
          let new : AllByRecursion (λ other. other ≢ key) (take before all) = elim w.else-seems_to_hold.branch [
            | else-seems_to_hold-via-then-seems_to_hold+else-is_among w' ↦
                not_in key (take before all)
                (λ among. false≢true (w'.if-is_among.ensures.1 (subst (λ (l : List Key). IsIn key (take before l)) (sym w'.copy.ensures.same) among)))
            | else-seems_to_hold-via-else-seems_to_hold w' ↦
                new_if_not_held (λ k. hash_of c.args.seed k % c.args.classes ≡ c.args.class) (λ k. holds c.loop-key.words (hash_of c.args.seed k) ≡ true) all before key kind
                (λ held. false≢true (w'.if-seems_to_hold.ensures ∙ ap (holds c.loop-key.words) hash ∙ held)) so_far.new
          ] in
          subst (λ (words : List ℕ). SoFar c.args.seed c.args.classes c.args.class (length c.args.words.now) words all c.next.new.self (before + 1)) (sym w.words-is)
          (put_in c.args.seed c.args.classes c.args.class (length c.args.words.now) c.loop-key.words all c.loop-key.keys c.next.new.self before key so_far c.in-Some.ensures.steps
          w.put.new.words new w.put.ensures.size (ap (holds w.put.new.words) (sym hash) ∙ w.put.ensures.put) w.put.ensures.kept)
          )
      | else-hash-classes w ↦
          subst (λ (words : List ℕ). SoFar c.args.seed c.args.classes c.args.class (length c.args.words.now) words all c.next.new.self (before + 1)) (sym w.words-is)
          (skip c.args.seed c.args.classes c.args.class (length c.args.words.now) c.loop-key.words all c.loop-key.keys c.next.new.self before key so_far c.in-Some.ensures.steps
          (λ kind. w.if-hash-classes.false (ap (λ h. h % c.args.classes) hash ∙ kind)))
    ]

pub returns-clause-apart : goal.returns-clause-apart
returns-clause-apart c = λ i k at kind.
    let all = c.args.first.now in
    let within = slice_get_within all i k at in
    let sum = c.loop-key.invariant.within in
    let none = ap length c.in_default.ensures.steps.0 in
    c.loop-key.invariant.new.new i k (omega arith) at kind
