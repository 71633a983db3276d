-- What a list is once the front of its rest from a place on was written over.
use Rattle.std.proofs.Common.{◌≡◌, ℕ, ◌+◌, ◌-◌, List, [], ◌++◌, take, drop, length, ap, ◌∙◌, append-nil, drop_of_length-le, drop-drop, length-drop, sym, append_assoc, arith}
use Rattle.std.proofs.lemmas.List.{take_rest}
use borrow.Rule.Slice.PartMut.{put_mid, mid_of, post_of}

pub placed : (old part piece : List ℕ) (at : ℕ) → part ≡ piece ++ drop 4 (mid_of at (length old - at) old)
    → put_mid at (length old - at) old part ≡ take at old ++ piece ++ drop (at + 4) old
placed old part piece at e =
    let behind : post_of at (length old - at) old ≡ [] = drop_of_length-le (drop at old) (omega (arith, length-drop at old)) in
    let whole : part ≡ piece ++ drop (at + 4) old =
    e ∙ ap (λ l. piece ++ drop 4 l) (take_rest old at) ∙ ap (λ l. piece ++ l) (drop-drop 4 at old) in
    ap (λ l. take at old ++ l) (ap (λ l. part ++ l) behind ∙ append-nil part ∙ whole)
    ∙ sym (append_assoc (take at old) piece (drop (at + 4) old))
