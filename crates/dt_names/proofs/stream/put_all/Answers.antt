use Rattle.std.proofs.Common.{rules, ◌++◌, take, length, sym, ◌∙◌, subst}
use Rattle.std.specs.Io.KnownBytes.{Appends}
use Rattle.std.proofs.KnownBytes.{Appends-trans, Appends-kept}
use Rattle.dt_names.proofs.Streams.{front_grows, front_is, front_shorter, not_failed}
use Rattle.dt_names.proofs.stream.put_all.Goals as goal

pub loop-rest-preserved : goal.loop-rest-preserved
loop-rest-preserved g c =
    let (front, split, taken, sound) = c.loop-rest.invariant in
    let rest = c.loop-rest.rest.now in
    let n = c.in-Some.taken in
    let put = c.in-Some.ensures in (
      front ++ take n rest,
      front_grows _ front rest n split,
      record {
        appended = Appends-trans _ _ _ _ _ taken.appended put.bytes;
        works = put.failed ∙ sym (not_failed _ n put.for_good) ∙ taken.works;
      },
      λ _. put.failed,
    )

pub returns-in-None-clause-refused : goal.returns-in-None-clause-refused
returns-in-None-clause-refused g c =
    let (front, split, taken, sound) = c.loop-rest.invariant in
    let put = c.in-None.ensures in record {
      kind = c.of.ensures.kind;
      nowhere = c.of.ensures.at;
      cut = record {
        failed = put.failed;
        count = length front;
        shorter = front_shorter _ front _ split (search rules);
        appended = subst (Appends _ _) (front_is _ front _ split) (Appends-kept _ _ _ _ taken.appended put.bytes);
      };
    }
