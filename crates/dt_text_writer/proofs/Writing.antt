-- What is put, piece by piece.
use Rattle.std.proofs.Common.{◌≡◌, ℕ, Bool, true, false, List, [], ◌++◌, refl, sym, ap, ◌∙◌, subst, subst₂, append_assoc, append-nil}
use Rattle.std.specs.Prelude.{Result, Ok, Err, OnOk, IfErr}
use Rattle.std.specs.Result.{IsErrAnd}
use Rattle.std.specs.Bool.{OnTrue, OnFalse}
use Rattle.std.specs.Borrow.{GName}
use Rattle.dt_names.specs.declared.fault.Fault.{Fault}
use Rattle.dt_names.specs.Sink.{Taken, Takes, IsRefused}
use Rattle.dt_names.proofs.Sinks.{takes_none, takes_then, refused_behind}
use Rattle.dt_text_writer.specs.Written.{Written, IsWritten, IsCutOff}

-- where nothing is put, all is as before
pub puts_none : (w : Written) → IsWritten [] w w
puts_none w = record { sink = refl; front = []; split = append-nil w.waiting; takes = takes_none w.taken }

-- some bytes and then some more
pub puts_then : {u v w : Written} {xs ys : List ℕ} → IsWritten xs u v → IsWritten ys v w → IsWritten (xs ++ ys) u w
puts_then {u} {v} {w} {xs} {ys} p q = record {
  sink = q.sink ∙ p.sink;
  front = p.front ++ q.front;
  split = sym (append_assoc u.waiting xs ys) ∙ ap (λ (l : List ℕ). l ++ ys) p.split ∙ append_assoc p.front v.waiting ys
      ∙ ap (λ (l : List ℕ). p.front ++ l) q.split ∙ sym (append_assoc p.front q.front w.waiting);
  takes = takes_then p.takes q.takes;
}

-- the sink fails at bytes behind others, and before more
pub cut_at : {fault : Fault} {u v w : Written} {xs : List ℕ} (whole ys rest : List ℕ) → whole ≡ xs ++ (ys ++ rest)
    → IsWritten xs u v → IsCutOff fault ys v w → IsCutOff fault whole u w
cut_at {u = u} {v = v} {w = w} {xs = xs} whole ys rest e p r =
    let split : u.waiting ++ whole ≡ p.front ++ ((v.waiting ++ ys) ++ rest) =
    ap (λ (l : List ℕ). u.waiting ++ l) e ∙ sym (append_assoc u.waiting xs (ys ++ rest)) ∙ ap (λ (l : List ℕ). l ++ (ys ++ rest)) p.split
    ∙ append_assoc p.front v.waiting (ys ++ rest) ∙ ap (λ (l : List ℕ). p.front ++ l) (sym (append_assoc v.waiting ys rest)) in record {
      sink = r.sink ∙ p.sink;
      refused = refused_behind (u.waiting ++ whole) rest split p.takes r.refused;
    }

-- the exits of a `?` at such a failure
pub exits_at : {u v w : Written} {xs : List ℕ} (r : Result (Unit {0}) Fault) (fault : Fault) (whole ys rest : List ℕ)
    → IsErrAnd r (λ e. e ≡ fault) → whole ≡ xs ++ (ys ++ rest) → IsWritten xs u v → IsCutOff fault ys v w
    → IfErr r (λ e. IsCutOff e whole u w)
exits_at (Ok x) fault whole ys rest is e p q = absurd is
exits_at {u = u} {w = w} (Err x) fault whole ys rest is e p q =
    subst (λ (y : Fault). IsCutOff y whole u w) (sym is) (cut_at whole ys rest e p q)

pub exits_first : {u w : Written} (r : Result (Unit {0}) Fault) (fault : Fault) (whole ys rest : List ℕ)
    → IsErrAnd r (λ e. e ≡ fault) → whole ≡ ys ++ rest → IsCutOff fault ys u w → IfErr r (λ e. IsCutOff e whole u w)
exits_first {u} r fault whole ys rest is e q = exits_at r fault whole ys rest is e (puts_none u) q

-- ---- the last piece

module _ {u v : Written} {xs : List ℕ} (w : Written) (ys whole : List ℕ) where
  pub puts_last : (r : Result (Unit {0}) Fault) → whole ≡ xs ++ ys → IsWritten xs u v → OnOk r (IsWritten ys v w) → OnOk r (IsWritten whole u w)
  puts_last (Ok x) e p q = subst (λ (l : List ℕ). IsWritten l u w) (sym e) (puts_then p q)
  puts_last (Err x) e p q = tt

  pub cut_last : (r : Result (Unit {0}) Fault) → whole ≡ xs ++ ys → IsWritten xs u v → IfErr r (λ e. IsCutOff e ys v w)
      → IfErr r (λ e. IsCutOff e whole u w)
  cut_last (Ok x) e p q = tt
  cut_last (Err x) e p q = cut_at whole ys [] (e ∙ ap (λ (l : List ℕ). xs ++ l) (sym (append-nil ys))) p q

-- a turn of a loop: the front grows by a piece
pub turned : (front ys rest : List ℕ) {whole : List ℕ} → whole ≡ front ++ (ys ++ rest) → whole ≡ (front ++ ys) ++ rest
turned front ys rest e = e ∙ sym (append_assoc front ys rest)

-- ---- what goes to the sink at once, where nothing waits

abbrev writing : GName → Taken → List ℕ → Written
writing s a l = record { sink = s; taken = a; waiting = l }

at_once : {v : Written} (s : GName) (a b : Taken) (l bytes : List ℕ) → v.waiting ≡ [] → v ≡ writing s a l → Takes bytes a b
    → IsWritten bytes v (writing s b l)
at_once s a b l bytes empty e t =
    let none : l ≡ [] = sym (ap (λ (x : Written). x.waiting) e) ∙ empty in
    subst (λ (x : Written). IsWritten bytes x (writing s b l)) (sym e) (record {
      sink = refl;
      front = bytes;
      split = ap (λ (y : List ℕ). y ++ bytes) none ∙ sym (append-nil bytes) ∙ ap (λ (y : List ℕ). bytes ++ y) (sym none);
      takes = t;
    })

module _ {u v w : Written} (s : GName) (a b : Taken) (l bytes : List ℕ) where
  pub puts_through : (r : Result (Unit {0}) Fault) → w ≡ u → IsWritten [] w v → v.waiting ≡ [] → v ≡ writing s a l → OnOk r (Takes bytes a b)
      → OnOk r (IsWritten bytes u (writing s b l))
  puts_through (Ok x) same p empty e t = subst (λ (y : Written). IsWritten bytes y (writing s b l)) same (puts_then p (at_once s a b l bytes empty e t))
  puts_through (Err x) same p empty e t = tt

  pub cut_through : (r : Result (Unit {0}) Fault) → w ≡ u → IsWritten [] w v → v.waiting ≡ [] → v ≡ writing s a l → IfErr r (λ e. IsRefused e bytes a b)
      → IfErr r (λ e. IsCutOff e bytes u (writing s b l))
  cut_through (Ok x) same p empty e t = tt
  cut_through (Err x) same p empty e t =
      let none : l ≡ [] = sym (ap (λ (y : Written). y.waiting) e) ∙ empty in
      let cut : IsCutOff x bytes (writing s a l) (writing s b l) =
      record { sink = refl; refused = subst (λ (y : List ℕ). IsRefused x (y ++ bytes) a b) (sym none) t } in
      subst (λ (y : Written). IsCutOff x bytes y (writing s b l)) same
      (cut_at bytes bytes [] (sym (append-nil bytes)) p (subst (λ (y : Written). IsCutOff x bytes y (writing s b l)) (sym e) cut))

-- ---- a test

pub on_false : (b : Bool) (P : Type 0) → b ≡ false → OnFalse b P → P
on_false true P e h = cc
on_false false P e h = h

pub on_true : (b : Bool) (P : Type 0) → b ≡ true → OnTrue b P → P
on_true true P e h = h
on_true false P e h = cc

-- ---- a whole text: a writer is made, puts it, hands all on, and goes

takes_whole : {u v w : Written} {xs : List ℕ} → u.waiting ≡ [] → IsWritten xs u v → IsWritten [] v w → w.waiting ≡ [] → Takes xs u.taken w.taken
takes_whole {u} {v} {w} {xs} empty p q done =
    let all = puts_then p q in
    let same : all.front ≡ xs =
    sym (append-nil all.front) ∙ ap (λ (l : List ℕ). all.front ++ l) (sym done) ∙ sym all.split ∙ ap (λ (l : List ℕ). l ++ (xs ++ [])) empty ∙ append-nil xs in
    subst (λ (l : List ℕ). Takes l u.taken w.taken) same all.takes

refused_inside : {u w : Written} {fault : Fault} {xs : List ℕ} → u.waiting ≡ [] → IsCutOff fault xs u w → IsRefused fault xs u.taken w.taken
refused_inside {u} {w} {fault} {xs} empty r = subst (λ (l : List ℕ). IsRefused fault (l ++ xs) u.taken w.taken) empty r.refused

-- what the sink was, under this name, and what it is once the writer goes
module _ (name : GName) (old new : Taken) where
  final : {u : Written} (w : Written) → u ≡ writing name old [] → (name ≡ w.sink → new ≡ w.taken) → w.sink ≡ u.sink → w.taken ≡ new
  final w made left same = sym (left (sym (ap (λ (x : Written). x.sink) made) ∙ sym same))

  pub text_written : {u v : Written} {xs : List ℕ} (w : Written) (r : Result (Unit {0}) Fault) → u ≡ writing name old []
      → (name ≡ w.sink → new ≡ w.taken) → IsWritten xs u v → OnOk r (IsWritten [] v w) → OnOk r (w.waiting ≡ []) → OnOk r (Takes xs old new)
  text_written {xs = xs} w (Ok x) made left p q done =
      subst₂ (Takes xs) (ap (λ (x : Written). x.taken) made) (final w made left (q.sink ∙ p.sink))
      (takes_whole (ap (λ (x : Written). x.waiting) made) p q done)
  text_written w (Err x) made left p q done = tt

  pub text_cut : {u w : Written} {xs : List ℕ} {fault : Fault} → u ≡ writing name old [] → (name ≡ w.sink → new ≡ w.taken)
      → IsCutOff fault xs u w → IsRefused fault xs old new
  text_cut {w = w} {xs = xs} {fault = fault} made left q =
      subst₂ (IsRefused fault xs) (ap (λ (x : Written). x.taken) made) (final w made left q.sink) (refused_inside (ap (λ (x : Written). x.waiting) made) q)

  pub text_refused : {u v : Written} {xs : List ℕ} (w : Written) (r : Result (Unit {0}) Fault) → u ≡ writing name old []
      → (name ≡ w.sink → new ≡ w.taken) → IsWritten xs u v → IfErr r (λ e. IsCutOff e [] v w) → IfErr r (λ e. IsRefused e xs old new)
  text_refused w (Ok x) made left p q = tt
  text_refused {xs = xs} w (Err x) made left p q = text_cut made left (cut_at xs [] [] (sym (append-nil xs)) p q)

  pub text_cut_off : {u w : Written} {xs : List ℕ} (r : Result (Unit {0}) Fault) (fault : Fault) → IsErrAnd r (λ e. e ≡ fault)
      → u ≡ writing name old [] → (name ≡ w.sink → new ≡ w.taken) → IsCutOff fault xs u w → IfErr r (λ e. IsRefused e xs old new)
  text_cut_off (Ok x) fault is made left q = absurd is
  text_cut_off {xs = xs} (Err x) fault is made left q = subst (λ (y : Fault). IsRefused y xs old new) (sym is) (text_cut made left q)

-- ---- one fault

pub one_fault : {f g : Fault} {xs : List ℕ} {old new : Taken} → IsRefused f xs old new → IsRefused g xs old new → f ≡ g
one_fault p q = λ i. record { kind = (p.kind ∙ sym q.kind) i; at = (p.nowhere ∙ sym q.nowhere) i }
