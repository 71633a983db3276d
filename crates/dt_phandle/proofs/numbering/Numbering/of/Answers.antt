use Rattle.std.proofs.Common.{◌≡◌, ℕ, zero, suc, ◌<◌, ◌≤◌, List, [], ◌∷◌, length, get_or, Option, Some, None, IfSome, MatchOption, Bor, refl, sym, ap, ◌∙◌, arith}
use Rattle.std.specs.Option.{option_copied, option_flatten}
use Rattle.dt_model.specs.Instance.{number_at}
use Rattle.dt_phandle.proofs.numbering.Numbering.of.Goals as goal

number_within : (numbers : List (Option ℕ)) (k : ℕ) (d : Option ℕ) → k < length numbers → get_or numbers k d ≡ number_at numbers k
number_within [] k d lt = absurd (omega arith)
number_within (n ∷ ns) zero d lt = refl
number_within (n ∷ ns) (suc k) d lt = number_within ns k d (omega arith)

number_past : (numbers : List (Option ℕ)) (k : ℕ) → length numbers ≤ k → number_at numbers k ≡ None
number_past [] k le = refl
number_past (n ∷ ns) zero le = absurd (omega arith)
number_past (n ∷ ns) (suc k) le = number_past ns k (omega arith)

found : (numbers : List (Option ℕ)) (k : ℕ) (r : Option (Bor (Option ℕ))) (P : Bor (Option ℕ) → Type 0) → IfSome r (λ x. x.now ≡ get_or numbers k x.now)
    → MatchOption r (length numbers ≤ k) (λ x. (k < length numbers) × P x) → option_flatten (option_copied r) ≡ number_at numbers k
found numbers k None P is there = sym (number_past numbers k there)
found numbers k (Some x) P is there = is ∙ number_within numbers k x.now there.0

pub returns : goal.returns
returns c =
    let numbers = c.deref.result.now in
    let k = c.args.node in
    let look = c.get.ensures.lookup in
    c.flatten.ensures ∙ ap option_flatten c.copied.ensures ∙ found numbers k c.get.result _ look.1 look.3
    ∙ ap (λ (ns : List (Option ℕ)). number_at ns k) (c.deref.ensures.value ∙ c.self.view_is)
