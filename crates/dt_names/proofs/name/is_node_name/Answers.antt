use Rattle.std.proofs.Common.{rules, ◌≡◌, ◌↔◌, ◌+◌, [], false, drop, drop_of_length-le, refl, sym, subst}
use Rattle.std.proofs.lemmas.List.{drop_more}
use Rattle.dt_names.proofs.Names.{IsRest, first_at, other_byte, whole_name, nothing_left}
use Rattle.dt_names.proofs.name.is_node_name.Goals.{then-byte-eq64+else-has_at, else-byte-eq64+else-not-may_stand_in_a_name}
use Rattle.dt_names.proofs.name.is_node_name.Goals as goal

pub loop-byte-preserved : goal.loop-byte-preserved
loop-byte-preserved c =
    let bytes = c.args.bytes.now in
    let i = c.loop-byte.byte-index in
    let now = c.loop-byte.has_at in
    let next = c.if-byte-eq64.has_at in
    let split = drop_more bytes i 0 c.loop-byte-test.true in
    let turn : IsRest now (drop i bytes) ↔ IsRest next (drop (i + 1) bytes) =
    elim c.if-byte-eq64.branch [
      | then-byte-eq64+else-has_at w ↦
          subst (λ v. IsRest v (drop i bytes) ↔ IsRest next (drop (i + 1) bytes)) (sym w.if-has_at.false)
          (subst (λ v. IsRest false (drop i bytes) ↔ IsRest v (drop (i + 1) bytes)) (sym w.has_at-is) (first_at _ _ _ split w.if-byte-eq64.true))
      | else-byte-eq64+else-not-may_stand_in_a_name w ↦
          subst (λ v. IsRest now (drop i bytes) ↔ IsRest v (drop (i + 1) bytes)) (sym w.has_at-is)
          (other_byte now _ _ _ split w.if-byte-eq64.false (sym w.if-not-may_stand_in_a_name.ensures))
    ] in
    (λ r. turn.0 (c.loop-byte.invariant.0 r), λ r. c.loop-byte.invariant.1 (turn.1 r))

pub returns : goal.returns
returns c =
    let bytes = c.args.bytes.now in
    let behind : drop c.loop-byte.byte-index bytes ≡ [] = drop_of_length-le bytes c.loop-byte-test.false in
    let rest : IsRest false bytes =
    c.loop-byte.invariant.1 (subst (IsRest c.loop-byte.has_at) (sym behind) (nothing_left c.loop-byte.has_at)) in
    (λ _. whole_name bytes (search rules) c.if-bytes-gt-MOST_NAME_BYTES.false c.if-bytes-eq64.false rest, λ _. refl)
