-- Blocks that are spliced where they lie.
use Rattle.std.proofs.Common.{◌≡◌, ℕ, ◌+◌, ◌-◌, ◌%◌, ◌≤◌, List, [], ◌∷◌, ◌++◌, length, take, drop, Option, Some, None, refl, sym, ap, ◌∙◌, append_assoc, arith}
use Rattle.std.proofs.lemmas.List.{length-append, length-drop, length-take-le, length-replicate, take_at, drop_at, drop-append-le, take-append-le}
use Rattle.std.proofs.Math.Seq.{drop-append-add, take-append-add}
use Rattle.dt_model.specs.Format.{word}
use Rattle.dt_model.specs.Lexing.{padded}
use Rattle.dt_model.specs.Names.{Name}
use Rattle.dt_read.specs.Cuts.{spliced}
use Rattle.std.specs.Option.{unwrap_or}
use Rattle.dt_model_format.specs.Strings.{place_in, terminated}
use Rattle.dt_write.proofs.Places.{place_within}
use Rattle.dt_edit.specs.Editable.{name_size}
use Rattle.dt_edit.specs.Plans.{brought_by, place_or}
use Rattle.dt_edit.specs.Moving.{put, begin_bytes, node_bytes, property_bytes, HasRoomMade, IsSpliced}
use Rattle.dt_write.specs.Written.{zeros_after}

-- what is put into the room that was made
pub spliced_room : (x b own : List ℕ) (at size end : ℕ) → at + size ≤ end → end ≤ length x → HasRoomMade x b at size (length own) end → IsSpliced x (put at own b) own at size end
spliced_room x b own at size end cut inside m =
    let front : List ℕ = take at x in
    let tail : List ℕ = drop (at + size) (take end x) ++ drop (end + length own - size) x in
    let len : length front ≡ at = length-take-le at x (omega arith) in
    let first : take at b ≡ front = ap (take at) m.is ∙ take_at front (m.gap ++ tail) at len in
    let whole : b ≡ (front ++ m.gap) ++ tail = m.is ∙ sym (append_assoc front m.gap tail) in
    let size_of : length (front ++ m.gap) ≡ at + length own = omega (arith, length-append front m.gap, len, m.wide) in
    let last : drop (at + length own) b ≡ tail = ap (drop (at + length own)) whole ∙ drop_at (front ++ m.gap) tail (at + length own) size_of in
    λ i. first i ++ (own ++ last i)

pub length_property : (offset : ℕ) (value : List ℕ) → length (property_bytes offset value) ≡ padded (12 + length value)
length_property offset value =
    let n : ℕ = length value in
    let zeros : List ℕ = zeros_after n in
    let pad : length zeros ≡ (4 - n % 4) % 4 = length-replicate ((4 - n % 4) % 4) 0 in
    omega (arith, pad, length-append value zeros)

pub length_node : (name : Name) → length (node_bytes name) ≡ padded (5 + length name) + 4
length_node name =
    let n : ℕ = length name in
    let zeros : List ℕ = zeros_after (n + 1) in
    let text : List ℕ = terminated name in
    let pad : length zeros ≡ (4 - (n + 1) % 4) % 4 = length-replicate ((4 - (n + 1) % 4) % 4) 0 in
    let long : length text ≡ n + 1 = length-append name (0 ∷ []) in
    omega (arith, pad, long, length-append text zeros, length-append (begin_bytes name) (word 2))

pub length_spliced : (cut size : ℕ) (own s : List ℕ) → cut + size ≤ length s → length (spliced cut size own s) ≡ length s + length own - size
length_spliced cut size own s le =
    omega (arith, length-append (take cut s) (own ++ drop (cut + size) s), length-append own (drop (cut + size) s), length-take-le cut s (omega arith), length-drop (cut + size) s)

-- a structure block, behind other bytes and in front of strings, of which a part is replaced
pub structure_spliced : (p s n rest x b own : List ℕ) (cut size at end : ℕ) → x ≡ (p ++ (s ++ n)) ++ rest → cut + size ≤ length s → at ≡ length p + cut → end ≡ length p + length s + length n → IsSpliced x b own at size end
    → b ≡ p ++ ((spliced cut size own s ++ n) ++ drop (end + length own - size) x)
structure_spliced p s n rest x b own cut size at end e le here ends m =
    let w : List ℕ = p ++ (s ++ n) in
    let long : length w ≡ end = omega (arith, length-append p (s ++ n), length-append s n, ends) in
    let counted : take end x ≡ w = ap (take end) e ∙ take_at w rest end long in
    let front : take at x ≡ p ++ take cut s =
    ap (take at) e ∙ take-append-le at w rest (omega arith) ∙ ap (λ (k : ℕ). take k w) here ∙ take-append-add p (s ++ n) cut ∙ ap (λ (y : List ℕ). p ++ y) (take-append-le cut s n (omega arith)) in
    let on : at + size ≡ length p + (cut + size) = omega arith in
    let behind : drop (at + size) (take end x) ≡ drop (cut + size) s ++ n = (λ i. drop (on i) (counted i)) ∙ drop-append-add p (s ++ n) (cut + size) ∙ drop-append-le (cut + size) s n le in
    let left : List ℕ = drop (end + length own - size) x in
    m ∙ (λ i. front i ++ (own ++ (behind i ++ left))) ∙ regroup p (take cut s) own (drop (cut + size) s) n left
  where
    regroup : (a b c d e f : List ℕ) → (a ++ b) ++ (c ++ ((d ++ e) ++ f)) ≡ a ++ (((b ++ (c ++ d)) ++ e) ++ f)
    regroup a b c d e f = simp append_assoc

-- bytes written behind the strings
pub strings_grown : (p s n more b own : List ℕ) (end : ℕ) → b ≡ p ++ ((s ++ n) ++ more) → end ≡ length p + length s + length n → end + length own ≤ length b → put end own b ≡ p ++ ((s ++ (n ++ own)) ++ drop (length own) more)
strings_grown p s n more b own end e ends room =
    let w : List ℕ = p ++ (s ++ n) in
    let whole : b ≡ w ++ more = e ∙ sym (append_assoc p (s ++ n) more) in
    let long : length w ≡ end = omega (arith, length-append p (s ++ n), length-append s n, ends) in
    let front : take end b ≡ w = ap (take end) whole ∙ take_at w more end long in
    let on : end + length own ≡ length w + length own = omega arith in
    let behind : drop (end + length own) b ≡ drop (length own) more = (λ i. drop (on i) (whole i)) ∙ drop-append-add w more (length own) in
    (λ i. front i ++ (own ++ behind i)) ∙ regroup p s n own (drop (length own) more)
  where
    regroup : (a b c d e : List ℕ) → (a ++ (b ++ c)) ++ (d ++ e) ≡ a ++ ((b ++ (c ++ d)) ++ e)
    regroup a b c d e = simp append_assoc

-- a header set anew before the reservations
pub header_set : (h k r s n rest b : List ℕ) → length h ≡ 40 → b ≡ (h ++ r) ++ ((s ++ n) ++ rest) → k ++ drop 40 b ≡ (((k ++ r) ++ s) ++ n) ++ rest
header_set h k r s n rest b len e =
    let whole : b ≡ h ++ (r ++ ((s ++ n) ++ rest)) = e ∙ append_assoc h r ((s ++ n) ++ rest) in
    ap (λ (y : List ℕ). k ++ y) (ap (drop 40) whole ∙ drop_at h (r ++ ((s ++ n) ++ rest)) 40 len) ∙ regroup k r s n rest
  where
    regroup : (a b c d e : List ℕ) → a ++ (b ++ ((c ++ d) ++ e)) ≡ (((a ++ b) ++ c) ++ d) ++ e
    regroup a b c d e = simp append_assoc

pub length_brought : (place : Option ℕ) (name : Name) → length (brought_by place name) ≡ name_size place name
length_brought None name = length-append name (0 ∷ [])
length_brought (Some place) name = refl

-- a name's place is no further than the end of the strings
pub place_small : (strings : List ℕ) (name : Name) → place_or (place_in strings name) (length strings) ≤ length strings
place_small strings name = step (place_in strings name) (place_within strings name)
  where
    step : (o : Option ℕ) → unwrap_or o 0 ≤ length strings → place_or o (length strings) ≤ length strings
    step None le = omega arith
    step (Some k) le = le
