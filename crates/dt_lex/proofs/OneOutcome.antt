-- A text has tokens or one fault, and not both.
use Rattle.std.proofs.Common.{◌≡◌, ℕ, ◌≤◌, List, length, Ok, Err, refl, sym, ◌∙◌, ap, arith}
use Rattle.dt_model.specs.Limits.{most_bytes}
use Rattle.dt_names.specs.declared.fault.Fault.{Fault}
use Rattle.dt_names.specs.declared.fault.FaultKind.TheVariants as fault
use Rattle.dt_lex.specs.declared.token.Token.{Token}
use Rattle.dt_lex.specs.declared.token.Flaw.TheVariants.{BadToken, BadInteger}
use Rattle.dt_lex.specs.Lexing.{FirstFlaw, Lexed, IsLexed, WhyNotLexed, no_memory, too_long, bad_token, bad_integer}
use Rattle.dt_lex.specs.Spans.{fault_of}
use Rattle.dt_lex.proofs.Lexed.{unique}

pub lexed_or_not : (text : List ℕ) (tokens : List Token) (e : Fault) → length text ≤ most_bytes → IsLexed text (Ok tokens) → WhyNotLexed text e → e.kind ≡ fault.NoMemory
lexed_or_not text tokens _ size l no_memory = refl
lexed_or_not text tokens _ size l (too_long h) = let never : ⊥ = omega (arith, size, h) in absurd never
lexed_or_not text tokens _ size l (bad_token at h m) = let same = unique l m in cc
lexed_or_not text tokens _ size l (bad_integer at h m) = let same = unique l m in cc

abbrev first_flaw : FirstFlaw → Lexed → FirstFlaw
first_flaw other (Ok tokens) = other
first_flaw other (Err f) = f

-- the fault tells of the first flaw of a text that isn't too long
record HasFlaw (text : List ℕ) (e : Fault) : Type 0 where
  flaw : FirstFlaw
  told : e ≡ fault_of flaw
  lexed : IsLexed text (Err flaw)

has_flaw : (text : List ℕ) (e : Fault) → length text ≤ most_bytes → WhyNotLexed text e → ¬ e.kind ≡ fault.NoMemory → HasFlaw text e
has_flaw text _ size no_memory n = absurd (n refl)
has_flaw text _ size (too_long h) n = let never : ⊥ = omega (arith, size, h) in absurd never
has_flaw text _ size (bad_token at h l) n = record { flaw = record { flaw = BadToken; at = at }; told = refl; lexed = l }
has_flaw text _ size (bad_integer at h l) n = record { flaw = record { flaw = BadInteger; at = at }; told = refl; lexed = l }

one_flaw : (text : List ℕ) (e f : Fault) → HasFlaw text e → HasFlaw text f → e ≡ f
one_flaw text e f a b = a.told ∙ ap fault_of (ap (first_flaw a.flaw) (unique a.lexed b.lexed)) ∙ sym b.told

by_flaw : (text : List ℕ) (e f : Fault) → length text ≤ most_bytes → WhyNotLexed text e → WhyNotLexed text f → ¬ e.kind ≡ fault.NoMemory → ¬ f.kind ≡ fault.NoMemory → e ≡ f
by_flaw text e f size w v n m = one_flaw text e f (has_flaw text e size w n) (has_flaw text f size v m)

-- beside memory, length comes first, and then the first flaw
pub one_fault : (text : List ℕ) (e f : Fault) → WhyNotLexed text e → WhyNotLexed text f → ¬ e.kind ≡ fault.NoMemory → ¬ f.kind ≡ fault.NoMemory → e ≡ f
one_fault text _ _ no_memory w n m = absurd (n refl)
one_fault text _ f (bad_token at h l) w n m = by_flaw text _ f h (bad_token at h l) w n m
one_fault text _ f (bad_integer at h l) w n m = by_flaw text _ f h (bad_integer at h l) w n m
one_fault text _ _ (too_long h) no_memory n m = absurd (m refl)
one_fault text _ _ (too_long h) (too_long i) n m = refl
one_fault text e _ (too_long h) (bad_token at i l) n m = by_flaw text _ _ i (too_long h) (bad_token at i l) n m
one_fault text e _ (too_long h) (bad_integer at i l) n m = by_flaw text _ _ i (too_long h) (bad_integer at i l) n m
