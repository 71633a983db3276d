-- Bytes written one behind the other, and room made for them.
use Rattle.std.proofs.Common.{◌≡◌, ℕ, ◌+◌, ◌-◌, ◌≤◌, List, [], ◌++◌, length, take, drop, sym, ap, ◌∙◌, append_assoc, arith}
use Rattle.std.specs.List.{copy_within}
use Rattle.std.proofs.lemmas.List.{length-append, length-drop, length-take-le, take_at, drop-drop, drop-take, take-append-le, take-append-drop}
use Rattle.std.proofs.lemmas.List.Edits.{take-paste, drop-paste}
use Rattle.std.proofs.Math.Seq.{take-add, drop-append-add}
use Rattle.dt_edit.specs.Moving.{put, HasRoomMade}

pub length_put : (at : ℕ) (own x : List ℕ) → at + length own ≤ length x → length (put at own x) ≡ length x
length_put at own x le = omega (arith, length-append (take at x) (own ++ drop (at + length own) x), length-append own (drop (at + length own) x), length-take-le at x (omega arith), length-drop (at + length own) x)

-- bytes written behind others are written with them
pub put_put : (at : ℕ) (a b x : List ℕ) → at + length a + length b ≤ length x → put (at + length a) b (put at a x) ≡ put at (a ++ b) x
put_put at a b x le =
    let front : List ℕ = take at x ++ a in
    let rest : List ℕ = drop (at + length a) x in
    let size : length front ≡ at + length a = omega (arith, length-append (take at x) a, length-take-le at x (omega arith)) in
    let whole : put at a x ≡ front ++ rest = sym (append_assoc (take at x) a rest) in
    let first : take (at + length a) (put at a x) ≡ front = ap (take (at + length a)) whole ∙ take_at front rest (at + length a) size in
    let on : at + length a + length b ≡ length front + length b = omega arith in
    let last : drop (at + length a + length b) (put at a x) ≡ drop (at + length (a ++ b)) x =
    (λ i. drop (on i) (whole i)) ∙ drop-append-add front rest (length b) ∙ drop-drop (length b) (at + length a) x ∙ ap (λ (n : ℕ). drop n x) (omega (arith, length-append a b)) in
    (λ i. first i ++ (b ++ last i)) ∙ regroup (take at x) a b (drop (at + length (a ++ b)) x)
  where
    regroup : (p q r s : List ℕ) → (p ++ q) ++ (r ++ s) ≡ p ++ ((q ++ r) ++ s)
    regroup p q r s = simp append_assoc

-- three words, a value, and zeros: the words are variables here, since written out they would compute to single bytes
pub put_parts : (at : ℕ) (u v w value zeros x : List ℕ) → length u ≡ 4 → length v ≡ 4 → length w ≡ 4 → at + 12 + length value + length zeros ≤ length x
    → put (at + 12 + length value) zeros (put (at + 12) value (put (at + 8) w (put (at + 4) v (put at u x)))) ≡ put at (u ++ (v ++ (w ++ (value ++ zeros)))) x
put_parts at u v w value zeros x u4 v4 w4 le =
    let two : put (at + 4) v (put at u x) ≡ put at (u ++ v) x = (λ i. put (at + sym u4 i) v (put at u x)) ∙ put_put at u v x (omega arith) in
    let eight : length (u ++ v) ≡ 8 = omega (arith, length-append u v) in
    let three : put (at + 8) w (put at (u ++ v) x) ≡ put at ((u ++ v) ++ w) x = (λ i. put (at + sym eight i) w (put at (u ++ v) x)) ∙ put_put at (u ++ v) w x (omega arith) in
    let twelve : length ((u ++ v) ++ w) ≡ 12 = omega (arith, length-append (u ++ v) w) in
    let four : put (at + 12) value (put at ((u ++ v) ++ w) x) ≡ put at (((u ++ v) ++ w) ++ value) x = (λ i. put (at + sym twelve i) value (put at ((u ++ v) ++ w) x)) ∙ put_put at ((u ++ v) ++ w) value x (omega arith) in
    let end : at + 12 + length value ≡ at + length (((u ++ v) ++ w) ++ value) = omega (arith, length-append ((u ++ v) ++ w) value) in
    let five : put (at + 12 + length value) zeros (put at (((u ++ v) ++ w) ++ value) x) ≡ put at ((((u ++ v) ++ w) ++ value) ++ zeros) x =
    (λ i. put (end i) zeros (put at (((u ++ v) ++ w) ++ value) x)) ∙ put_put at (((u ++ v) ++ w) ++ value) zeros x (omega arith) in
    ap (λ (y : List ℕ). put (at + 12 + length value) zeros (put (at + 12) value (put (at + 8) w y))) two
    ∙ ap (λ (y : List ℕ). put (at + 12 + length value) zeros (put (at + 12) value y)) three
    ∙ ap (put (at + 12 + length value) zeros) four ∙ five ∙ ap (λ (own : List ℕ). put at own x) (regroup u v w value zeros)
  where
    regroup : (a b c d e : List ℕ) → (((a ++ b) ++ c) ++ d) ++ e ≡ a ++ (b ++ (c ++ (d ++ e)))
    regroup a b c d e = simp append_assoc

-- ---- room

pub room_made : (x : List ℕ) (at size own end : ℕ) → at + size ≤ end → end ≤ length x → end + own ≤ length x + size → HasRoomMade x (copy_within x (at + size) end (at + own)) at size own end
room_made x at size own end cut inside room =
    let moved : List ℕ = drop (at + size) x in
    let count : ℕ = end - (at + size) in
    let new : List ℕ = copy_within x (at + size) end (at + own) in
    let many : count ≤ length moved = omega (arith, length-drop (at + size) x) in
    let front : take (at + own + count) new ≡ take (at + own) x ++ take count moved = take-paste x (at + own) moved count (omega arith) many in
    let behind : drop (at + own + count) new ≡ drop (at + own + count) x = drop-paste x (at + own) moved count (omega arith) many in
    let gap : take (at + own) x ≡ take at x ++ take own (drop at x) = take-add at own x in
    let upto : at + size + count ≡ end = omega arith in
    let part : take count moved ≡ drop (at + size) (take end x) = sym (drop-take (at + size) count x) ∙ ap (λ (n : ℕ). drop (at + size) (take n x)) upto in
    let left : at + own + count ≡ end + own - size = omega arith in
    record {
      gap = take own (drop at x);
      wide = length-take-le own (drop at x) (omega (arith, length-drop at x));
      is = sym (take-append-drop (at + own + count) new) ∙ (λ i. front i ++ behind i) ∙ (λ i. (gap i ++ part i) ++ drop (left i) x)
          ∙ regroup (take at x) (take own (drop at x)) (drop (at + size) (take end x)) (drop (end + own - size) x);
    }
  where
    regroup : (a b c d : List ℕ) → ((a ++ b) ++ c) ++ d ≡ a ++ (b ++ (c ++ d))
    regroup a b c d = simp append_assoc

pub room_kept : (x : List ℕ) (at size own end : ℕ) → size ≡ own → at + size ≤ end → end ≤ length x → HasRoomMade x x at size own end
room_kept x at size own end same cut inside =
    let front : take (at + size) x ≡ take at x ++ take size (drop at x) = take-add at size x in
    let from : take (at + size) (take end x) ≡ take (at + size) x = sym (take-append-le (at + size) (take end x) (drop end x) (omega (arith, length-take-le end x inside))) ∙ ap (take (at + size)) (take-append-drop end x) in
    let part : take end x ≡ take (at + size) x ++ drop (at + size) (take end x) = sym (take-append-drop (at + size) (take end x)) ∙ ap (λ (y : List ℕ). y ++ drop (at + size) (take end x)) from in
    let left : end ≡ end + own - size = omega arith in
    record {
      gap = take size (drop at x);
      wide = length-take-le size (drop at x) (omega (arith, length-drop at x)) ∙ same;
      is = sym (take-append-drop end x) ∙ ap (λ (y : List ℕ). y ++ drop end x) (part ∙ ap (λ (y : List ℕ). y ++ drop (at + size) (take end x)) front)
          ∙ regroup (take at x) (take size (drop at x)) (drop (at + size) (take end x)) (drop end x)
          ∙ ap (λ (n : ℕ). take at x ++ (take size (drop at x) ++ (drop (at + size) (take end x) ++ drop n x))) left;
    }
  where
    regroup : (a b c d : List ℕ) → ((a ++ b) ++ c) ++ d ≡ a ++ (b ++ (c ++ d))
    regroup a b c d = simp append_assoc

pub put_three : (at : ℕ) (a b d x : List ℕ) → at + length a + length b + length d ≤ length x → put (at + length a + length b) d (put (at + length a) b (put at a x)) ≡ put at (a ++ (b ++ d)) x
put_three at a b d x le =
    let two : put (at + length a) b (put at a x) ≡ put at (a ++ b) x = put_put at a b x (omega arith) in
    let end : at + length a + length b ≡ at + length (a ++ b) = omega (arith, length-append a b) in
    (λ i. put (end i) d (two i)) ∙ put_put at (a ++ b) d x (omega (arith, length-append a b)) ∙ ap (λ (own : List ℕ). put at own x) (append_assoc a b d)

pub put_four : (at : ℕ) (a b d e x : List ℕ) → at + length a + length b + length d + length e ≤ length x
    → put (at + length a + length b + length d) e (put (at + length a + length b) d (put (at + length a) b (put at a x))) ≡ put at ((a ++ (b ++ d)) ++ e) x
put_four at a b d e x le =
    let three = put_three at a b d x (omega arith) in
    let end : at + length a + length b + length d ≡ at + length (a ++ (b ++ d)) = omega (arith, length-append a (b ++ d), length-append b d) in
    (λ i. put (end i) e (three i)) ∙ put_put at (a ++ (b ++ d)) e x (omega (arith, length-append a (b ++ d), length-append b d))

pub put_nothing : (at : ℕ) (x : List ℕ) → x ≡ put at [] x
put_nothing at x = let same : at ≡ at + length {A = ℕ} [] = omega arith in sym (take-append-drop at x) ∙ ap (λ (n : ℕ). take at x ++ drop n x) same
