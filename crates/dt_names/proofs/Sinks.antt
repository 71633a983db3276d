-- Bytes that a sink takes one after another.
use Rattle.std.proofs.Common.{◌≡◌, ℕ, ◌+◌, ◌<◌, List, [], ◌++◌, take, length, refl, sym, ap, ◌∙◌, subst, length-append, arith}
use Rattle.std.specs.Io.KnownBytes.{Appends}
use Rattle.std.proofs.KnownBytes.{Appends-nil, Appends-trans}
use Rattle.std.proofs.lemmas.List.{take-append-le}
use lib.Seq.{take-append-add}
use Rattle.dt_names.specs.declared.fault.Fault.{Fault}
use Rattle.dt_names.specs.Sink.{Taken, Takes, IsRefused}

pub takes_none : (a : Taken) → Takes [] a a
takes_none a = record { appended = Appends-nil a.contents; works = refl }

pub takes_then : {a b c : Taken} {xs ys : List ℕ} → Takes xs a b → Takes ys b c → Takes (xs ++ ys) a c
takes_then {a} {b} {c} {xs} {ys} p q = record {
  appended = Appends-trans a.contents b.contents c.contents xs ys p.appended q.appended;
  works = q.works ∙ p.works;
}

-- a front of bytes between two others
cut_between : (whole front bytes rest : List ℕ) (n : ℕ) → whole ≡ front ++ (bytes ++ rest) → n < length bytes
    → (length front + n < length whole) × (front ++ take n bytes ≡ take (length front + n) whole)
cut_between whole front bytes rest n split inside = (
  omega (arith, ap length split, length-append front (bytes ++ rest), length-append bytes rest, inside),
  sym (ap (take (length front + n)) split ∙ take-append-add front (bytes ++ rest) n
      ∙ ap (λ (l : List ℕ). front ++ l) (take-append-le n bytes rest (omega (arith, inside)))),
)

-- it fails at bytes behind others, and before more
pub refused_behind : {fault : Fault} {a b c : Taken} {front bytes : List ℕ} (whole rest : List ℕ) → whole ≡ front ++ (bytes ++ rest)
    → Takes front a b → IsRefused fault bytes b c → IsRefused fault whole a c
refused_behind {fault} {a} {b} {c} {front} {bytes} whole rest split p r =
    let n = r.cut.count in
    let (shorter, same) = cut_between whole front bytes rest n split r.cut.shorter in record {
      kind = r.kind;
      nowhere = r.nowhere;
      cut = record {
        failed = r.cut.failed;
        count = length front + n;
        shorter = shorter;
        appended = subst (Appends a.contents c.contents) same
            (Appends-trans a.contents b.contents c.contents front (take n bytes) p.appended r.cut.appended);
      };
    }
