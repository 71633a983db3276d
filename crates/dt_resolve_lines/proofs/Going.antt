-- Lines on their way, one after the other.
use Rattle.std.proofs.Common.{◌≡◌, ◌+◌, ◌++◌, ℕ, Bool, true, false, cond, List, [], ◌∷◌, refl, sym, ap, ◌∙◌, subst, append_assoc, append-nil}
use Rattle.std.specs.List.{concat}
use Rattle.std.specs.Prelude.{Result, Ok, Err, OnOk, IfErr}
use Rattle.dt_names.specs.declared.fault.Fault.{Fault}
use Rattle.dt_resolve_model.specs.Answers.{Answer}
use Rattle.dt_text_writer.specs.Written.{Written, IsWritten, IsCutOff}
use Rattle.dt_text_writer.proofs.Writing.{puts_none, puts_then, cut_at}
use Rattle.dt_resolve_lines.specs.AllLines.{Telling, EndsOr, AreUpTo, AreFrom, AreBegun}
use Rattle.dt_resolve_lines.specs.Given.{AreWritten, AreCutOff}

-- lines from an index on, behind some bytes, are all lines
abbrev Continues : {A : Type 0} → (ℕ → Type 0) → Telling A → ℕ → List ℕ → Type 0
Continues ends told i front = (lines : List (List ℕ)) → AreUpTo ends told i lines → (all : List (List ℕ)) × AreUpTo ends told 0 all × (concat all ≡ front ++ concat lines)

abbrev ends_silent : {A : Type 0} → Telling A → ℕ → Type 0
ends_silent {A} told i = (a : Answer A) × told.rule i a × (told.is_silent a ≡ true)

abbrev anywhere : ℕ → Type 0
anywhere i = Unit {0}

-- the lines of a node up to an index have been written
pub record IsGoing {A : Type 0} (told : Telling A) (i : ℕ) (old new : Written) : Type 0 where
  pub front : List ℕ
  pub whole : Continues (ends_silent told) told i front
  pub begun : Continues anywhere told i front
  pub written : IsWritten front old new

one_line : (l : List ℕ) → concat (l ∷ []) ≡ l
one_line l = append-nil l

ended : (b : Bool) (more : Type 0) → b ≡ true → EndsOr b [] more
ended true more e = refl
ended false more e = absurd (let z : false ≡ true = e in cc)

goes_on : (b : Bool) (lines : List (List ℕ)) (more : Type 0) → b ≡ false → more → EndsOr b lines more
goes_on true lines more e m = absurd (let z : true ≡ false = e in cc)
goes_on false lines more e m = m

either : (b : Bool) (more : Type 0) → more → EndsOr b [] more
either true more m = refl
either false more m = m

module _ {A : Type 0} (told : Telling A) where
  pub going_starts : (a : Written) → IsGoing told 0 a a
  going_starts a = record { front = []; whole = λ lines are. (lines, are, refl); begun = λ lines are. (lines, are, refl); written = puts_none a }

  module _ {i : ℕ} (x : Answer A) (rule : told.rule i x) where
    -- a line that isn't the last one
    one_more : (ends : ℕ → Type 0) (front : List ℕ) → told.is_silent x ≡ false → told.is_last x ≡ false → Continues ends told i front → Continues ends told (i + 1) (front ++ told.line i x)
    one_more ends front heard more continues lines are =
        let (all, these, is) = continues (told.line i x ∷ lines) (x, rule, heard, refl, goes_on (told.is_last x) lines (AreUpTo ends told (i + 1) lines) more are) in
        (all, these, is ∙ sym (append_assoc front (told.line i x) (concat lines)))

    module _ {a b : Written} (going : IsGoing told i a b) where
      pub going_on : {c : Written} → told.is_silent x ≡ false → told.is_last x ≡ false → IsWritten (told.line i x) b c → IsGoing told (i + 1) a c
      going_on heard more written = record {
        front = going.front ++ told.line i x;
        whole = one_more (ends_silent told) going.front heard more going.whole;
        begun = one_more anywhere going.front heard more going.begun;
        written = puts_then going.written written;
      }

      -- the lines end without another one
      pub going_ends : told.is_silent x ≡ true → AreWritten (AreFrom told 0) a b
      going_ends silent =
          let (all, these, is) = going.whole [] (x, rule, silent) in
          record { lines = all; are = these; written = subst (λ l. IsWritten l a b) (sym (is ∙ append-nil going.front)) going.written }

      -- the last line
      pub going_ends_behind : {c : Written} → told.is_silent x ≡ false → told.is_last x ≡ true → IsWritten (told.line i x) b c → AreWritten (AreFrom told 0) a c
      going_ends_behind {c} heard last written =
          let l = told.line i x in
          let (all, these, is) = going.whole (l ∷ []) (x, rule, heard, refl, ended (told.is_last x) (AreFrom told (i + 1) []) last) in
          record { lines = all; are = these; written = subst (λ l. IsWritten l a c) (sym (is ∙ ap (λ l. going.front ++ l) (one_line l))) (puts_then going.written written) }

      -- the sink fails at a line
      pub going_fails : {c : Written} {fault : Fault} → told.is_silent x ≡ false → IsCutOff fault (told.line i x) b c → AreCutOff (AreBegun told 0) fault a c
      going_fails {c} {fault} heard refused =
          let l = told.line i x in
          let (all, these, is) = going.begun (l ∷ []) (x, rule, heard, refl, either (told.is_last x) (Unit {0}) tt) in
          record { lines = all; are = these; cut = cut_at (concat all) l [] is going.written refused }

      -- the last line, as it ends a function
      pub last_passes : (c : Written) (r : Result (Unit {0}) Fault) → told.is_silent x ≡ false → told.is_last x ≡ true → OnOk r (IsWritten (told.line i x) b c) → OnOk r (AreWritten (AreFrom told 0) a c)
      last_passes c (Ok o) heard last written = going_ends_behind heard last written
      last_passes c (Err e) heard last written = tt

      pub last_fails : (c : Written) (r : Result (Unit {0}) Fault) → told.is_silent x ≡ false → IfErr r (λ fault. IsCutOff fault (told.line i x) b c) → IfErr r (λ fault. AreCutOff (AreBegun told 0) fault a c)
      last_fails c (Ok o) heard refused = tt
      last_fails c (Err e) heard refused = going_fails heard refused

      -- the last line, or none
      finished : {c : Written} (s : Bool) → told.is_silent x ≡ s → told.is_last x ≡ true → IsWritten (cond s [] (told.line i x)) b c → AreWritten (AreFrom told 0) a c
      finished {c} true silent last written =
          let (all, these, is) = going.whole [] (x, rule, silent) in
          record { lines = all; are = these; written = subst (λ l. IsWritten l a c) (sym is) (puts_then going.written written) }
      finished false heard last written = going_ends_behind heard last written

      cut : {c : Written} {fault : Fault} (s : Bool) → told.is_silent x ≡ s → IsCutOff fault (cond s [] (told.line i x)) b c → AreCutOff (AreBegun told 0) fault a c
      cut true silent refused =
          let (all, these, is) = going.begun [] tt in
          record { lines = all; are = these; cut = cut_at (concat all) [] [] is going.written refused }
      cut false heard refused = going_fails heard refused

      pub finish_passes : (c : Written) (r : Result (Unit {0}) Fault) → told.is_last x ≡ true → OnOk r (IsWritten (cond (told.is_silent x) [] (told.line i x)) b c) → OnOk r (AreWritten (AreFrom told 0) a c)
      finish_passes c (Ok o) last written = finished (told.is_silent x) refl last written
      finish_passes c (Err e) last written = tt

      pub finish_fails : (c : Written) (r : Result (Unit {0}) Fault) → IfErr r (λ fault. IsCutOff fault (cond (told.is_silent x) [] (told.line i x)) b c) → IfErr r (λ fault. AreCutOff (AreBegun told 0) fault a c)
      finish_fails c (Ok o) refused = tt
      finish_fails c (Err e) refused = cut (told.is_silent x) refl refused
