-- Labels that are read one by one.
use Rattle.std.proofs.Common.{◌≡◌, ◌≢◌, ℕ, ◌<◌, true, false, List, [], ◌∷◌, ◌++◌, map, length, Option, Some, None, refl, sym, ap, ◌∙◌, subst, append_assoc, arith}
use Rattle.std.proofs.lemmas.List.{append-nil}
use Rattle.dt_names.specs.declared.fault.FaultKind.{FaultKind}
use Rattle.dt_names.specs.declared.fault.FaultKind.TheVariants as fault
use Rattle.dt_lex.specs.declared.token.TokenKind.{TokenKind}
use Rattle.dt_lex.specs.declared.token.TokenKind.TheVariants as kind
use Rattle.dt_parse.specs.declared.stop.Stop.{Stop}
use Rattle.dt_grammar.specs.Words.{Words}
use Rattle.dt_grammar.specs.Unchecked.{all_but_last}
use Rattle.dt_grammar.specs.Strict.{IsLabelText, AreLabelTexts}
use Rattle.dt_grammar.specs.Wanted.{made_labels, labels_in, SomeLabels, Done, give, want, kind_at, bytes_at}
use Rattle.dt_grammar.specs.Moves.{at_labels}
use Rattle.dt_grammar.specs.Descent.{move_at, first, after, found, gives, Descends}
use Rattle.dt_grammar.specs.Faults.{Around, label_named, Passes, Shows, unnamed, Breaks, in_part}
use Rattle.dt_parse.specs.Reading.{IsRead, IsBroken}
use Rattle.dt_grammar.proofs.Stepping.{given, part_then}
use Rattle.dt_parse.proofs.Stopping.{stopped, stops_too}

-- some labels are read, and what is read on from here is read from the start
pub record LabelsRead (start now : Words) (names : List (List ℕ)) : Type 0 where
  pub raw : List (List ℕ)
  pub said : names ≡ map all_but_last raw
  pub texts : AreLabelTexts raw
  pub onward : (ms : List (List ℕ)) (left : Words) → Descends SomeLabels now (found (made_labels ms) left) → Descends SomeLabels start (found (made_labels (raw ++ ms)) left)
  pub breaks : (a : Around) (k : FaultKind) (left : Words) → Breaks a SomeLabels now k left → Breaks a SomeLabels start k left

pub none_read : (start : Words) → LabelsRead start start []
none_read start = record { raw = []; said = refl; texts = tt; onward = λ ms left d. d; breaks = λ a k left b. b }

texts_more : (raw : List (List ℕ)) (b : List ℕ) → AreLabelTexts raw → IsLabelText b → AreLabelTexts (raw ++ b ∷ [])
texts_more [] b h t = (t, tt)
texts_more (r ∷ raw) b h t = (h.0, texts_more raw b h.1 t)

said_more : (raw : List (List ℕ)) (b : List ℕ) → map all_but_last (raw ++ b ∷ []) ≡ map all_but_last raw ++ all_but_last b ∷ []
said_more [] b = refl
said_more (r ∷ raw) b = ap (λ (z : List (List ℕ)). all_but_last r ∷ z) (said_more raw b)

label_move : (now : Words) → kind_at (first now) ≡ Some kind.Label →
    move_at SomeLabels (first now) ≡ want true SomeLabels (λ x. Done (made_labels (bytes_at (first now) ∷ labels_in x)))
label_move now e = ap (at_labels (bytes_at (first now))) e

end_move : (b : List ℕ) (k : Option TokenKind) → k ≢ Some kind.Label → at_labels b k ≡ give false (made_labels [])
end_move b None h = refl
end_move b (Some kind.Label) h = absurd (h refl)
end_move b (Some _) h = refl

label_passes : (a : Around) (now : Words) → kind_at (first now) ≡ Some kind.Label → IsLabelText (bytes_at (first now)) → Passes a SomeLabels now
label_passes a now e t = record { named = subst (label_named (bytes_at (first now))) (sym e) t; placed = tt }

pub another_read : (start now : Words) (names more : List (List ℕ)) (l : List ℕ) → LabelsRead start now names → kind_at (first now) ≡ Some kind.Label →
    IsLabelText (bytes_at (first now)) → l ≡ all_but_last (bytes_at (first now)) → more ≡ names ++ l ∷ [] → LabelsRead start (after true now) more
another_read start now names more l r e t is added =
    let b = bytes_at (first now) in
    record {
      raw = r.raw ++ b ∷ [];
      said = added ∙ (λ i. r.said i ++ is i ∷ []) ∙ sym (said_more r.raw b);
      texts = texts_more r.raw b r.texts t;
      onward = λ ms left d.
          subst (λ (z : List (List ℕ)). Descends SomeLabels start (found (made_labels z) left)) (sym (append_assoc r.raw (b ∷ []) ms))
          (r.onward (b ∷ ms) left (part_then SomeLabels now true SomeLabels _ (made_labels ms) left (found (made_labels (b ∷ ms)) left) (label_move now e) d gives));
      breaks = λ a k left d. r.breaks a k left (in_part a SomeLabels now left k true SomeLabels _ tt (label_move now e) (label_passes a now e t) d);
    }

pub all_read : (start now : Words) (names : List (List ℕ)) → LabelsRead start now names → kind_at (first now) ≢ Some kind.Label →
    (ls : List (List ℕ)) × ((a : Around) → IsRead a SomeLabels start (made_labels ls) now) × (names ≡ map all_but_last ls)
all_read start now names r other =
    let here = given SomeLabels now false (made_labels []) (end_move (bytes_at (first now)) (kind_at (first now)) other) in
    let read = subst (λ (z : List (List ℕ)). Descends SomeLabels start (found (made_labels z) now)) (append-nil r.raw) (r.onward [] now here) in
    (r.raw, λ a. record { read = read; fine = r.texts }, r.said)

pub bad_label : (start now : Words) (names : List (List ℕ)) (stop : Stop) → LabelsRead start now names → kind_at (first now) ≡ Some kind.Label →
    ¬ IsLabelText (bytes_at (first now)) → stop.kind ≡ fault.BadName → stop.left ≡ length now → (a : Around) → IsBroken a SomeLabels start stop
bad_label start now names stop r e bad k left a =
    let shown : Shows a SomeLabels now fault.BadName = unnamed (λ h. bad (subst (label_named (bytes_at (first now))) e h)) in
    stops_too a a SomeLabels SomeLabels now start stop (r.breaks a) (stopped a SomeLabels now stop (subst (Shows a SomeLabels now) (sym k) shown) left)

pub fewer_left : (now : Words) → kind_at (first now) ≡ Some kind.Label → length (after true now) < length now
fewer_left [] e = cc
fewer_left (w ∷ now) e = omega arith
