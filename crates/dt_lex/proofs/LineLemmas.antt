-- The rest of a line, to its line feed or to the text's end.
use Rattle.std.proofs.Common.{◌≡◌, ℕ, zero, suc, ◌-◌, ◌<◌, Bool, true, false, List, [], ◌∷◌, length, take, drop, refl, sym, ◌∙◌, ap, subst, arith}
use Rattle.std.specs.Prelude.{◌==◌, not}
use Rattle.std.proofs.lemmas.List.{take_all, length-drop, take-append-drop, append-nil}
use Rattle.std.proofs.Math.Seq.{drop-length}
use Rattle.memchr.specs.Find.{Passes, Nowhere, is_byte}
use Rattle.dt_lex.specs.declared.byte.Class.TheVariants as class
use Rattle.dt_lex.specs.Bytes.{is_in}
use Rattle.dt_lex.specs.Words.{Each, Stops, RunsTo}

is_not : (t : Bool) → (t ≡ true → ⊥) → not t ≡ true
is_not true h = absurd (h refl)
is_not false h = refl

each_before : (bytes : List ℕ) (k : ℕ) → Nowhere (Passes (is_byte 10) bytes) 0 k → Each (is_in class.Line) (take k bytes)
each_before bytes zero none = tt
each_before [] (suc k) none = tt
each_before (b ∷ bytes) (suc k) none = (is_not (b == 10) (none 0 (omega arith) (omega arith)), each_before bytes k (λ i low high. none (suc i) (omega arith) (omega (arith, high))))

stops_at : (bytes : List ℕ) (k : ℕ) → k < length bytes → Passes (is_byte 10) bytes k → Stops (is_in class.Line) (drop k bytes)
stops_at [] k lt here = absurd (omega arith)
stops_at (b ∷ bytes) zero lt here = ap not here
stops_at (b ∷ bytes) (suc k) lt here = stops_at bytes k (omega (arith, lt)) here

pub line_to : (bytes : List ℕ) (k : ℕ) → k < length bytes → Nowhere (Passes (is_byte 10) bytes) 0 k → Passes (is_byte 10) bytes k → RunsTo (is_in class.Line) bytes (take (length bytes - k) (drop k bytes))
line_to bytes k lt none here =
    subst (RunsTo (is_in class.Line) bytes) (sym (take_all (length bytes - k) (drop k bytes) (omega (arith, length-drop k bytes))))
    (take k bytes, sym (take-append-drop k bytes), each_before bytes k none, stops_at bytes k lt here)

pub line_whole : (bytes : List ℕ) → Nowhere (Passes (is_byte 10) bytes) 0 (length bytes) → RunsTo (is_in class.Line) bytes (take (length bytes - length bytes) (drop (length bytes) bytes))
line_whole bytes none =
    let n = length bytes in
    let all : take n bytes ≡ bytes = take_all n bytes (omega arith) in
    let rest : take (n - n) (drop n bytes) ≡ [] = ap (take (n - n)) (drop-length bytes) ∙ take_all (n - n) [] (omega arith) in
    subst (RunsTo (is_in class.Line) bytes) (sym rest) (bytes, sym (append-nil bytes), subst (Each (is_in class.Line)) all (each_before bytes n none), tt)
