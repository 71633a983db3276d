-- The numbers after an application are a naming of the merged meaning that extends the base's.
use Rattle.std.proofs.Common.{◌≡◌, ℕ, ◌≤◌, Bool, true, false, List, refl, sym, ap, ◌∙◌, inl, inr, Option, Some, None, true≢false}
use Rattle.std.specs.Prelude.{unwrap_or}
use Rattle.std.specs.List.{list_any}
use Rattle.dt_model.specs.Path.{Path}
use Rattle.dt_model.specs.Lists.{last_of}
use Rattle.dt_model.specs.Meaning.{Meaning, IsMeaning, IsNaming, Extends}
use Rattle.dt_model.specs.Overlay.{inside, Overlay}
use Rattle.dt_model.specs.Merged.{Site, landing, sources, merged}
use Rattle.dt_model_laws.proofs.Joined.{IsJoined, number_after}
use Rattle.dt_model.specs.Valid.{AreDistinct}
use Rattle.dt_model.proofs.Tests.{or_cases, any_from}
use Rattle.dt_model_laws.proofs.Lands.{source_of, landing_of, last_from, last_one}
use Rattle.dt_model.proofs.Inside.{IsInside}
use Rattle.dt_model_laws.proofs.Placed.{site_names}

-- the tree's numbers stay, and each keyed node that lands has the number of the node on which it lands
pub record Follows (m : Meaning) (o : Overlay) (sites : List Site) (number number' : Path → ℕ) (new : Path → Option ℕ) : Type 0 where
  pub kept : (q : Path) → m.keyed q ≡ true → number' q ≡ number q
  pub given : (p q : Path) → o.keyed p ≡ true → landing sites p ≡ Some q → new p ≡ Some (number' q)
  pub none : (p : Path) (n : ℕ) → new p ≡ Some n → o.keyed p ≡ true

module _ (m : Meaning) (o : Overlay) (sites : List Site) (number : Path → ℕ) (new : Path → Option ℕ) (meaning : IsMeaning m) (naming : IsNaming m number) (distinct : AreDistinct (site_names sites)) (joined : IsJoined m o sites number new) (inside_of : (p q : Path) → o.keyed p ≡ true → landing sites p ≡ Some q → IsInside o (inside p)) where
  -- what landed on a keyed node of the base got its number
  old_number : (q : Path) → m.keyed q ≡ true → number_after sites number new q ≡ number q
  old_number q h = step (last_of new (sources sites q)) refl
    where
      step : (x : Option ℕ) → last_of new (sources sites q) ≡ x → unwrap_or (last_of new (sources sites q)) (number q) ≡ number q
      step None e = rw e refl
      step (Some n) e = let w = last_from new (sources sites q) n e in rw e (joined.tree w.0 q n w.2 (landing_of sites w.0 q distinct w.1) h)

  -- the node on which a keyed node lands has its new number
  landed_number : (p q : Path) (n : ℕ) → new p ≡ Some n → landing sites p ≡ Some q → number_after sites number new q ≡ n
  landed_number p q n e l =
      ap (λ x. unwrap_or x (number q)) (last_one new (sources sites q) p n (source_of sites p q l) e
      (λ p' z i e'. joined.one p' p q z n e' e (landing_of sites p' q distinct i) l))

  -- a keyed node of the result is one of the base, or one that landed where the base has none
  pub data Origin : Path → Type 0 where
    old : {q : Path} → m.keyed q ≡ true → Origin q
    landed : {q : Path} → (p : Path) (n : ℕ) → m.keyed q ≡ false → new p ≡ Some n → landing sites p ≡ Some q → Origin q

  origin : (q : Path) → (merged m o sites).keyed q ≡ true → Origin q
  origin q h = step (m.keyed q) refl
    where
      step : (b : Bool) → m.keyed q ≡ b → Origin q
      step true k = old k
      step false k = elim (or_cases (list_any o.keyed (sources sites q)) (m.keyed q) h) [
        | inl any ↦
            let x = any_from o.keyed (sources sites q) any in
            let l = landing_of sites x.0 q distinct x.1 in
            let y = joined.some x.0 (inside_of x.0 q x.2 l).1 x.2 in
            landed x.0 y.0 k y.1 l
        | inr z ↦ absurd (true≢false (sym z ∙ k))
      ]

  own_by : (q q' : Path) → Origin q → Origin q' → number_after sites number new q ≡ number_after sites number new q' → q ≡ q'
  own_by q q' (old h) (old h') e = naming.own q q' h h' (sym (old_number q h) ∙ e ∙ old_number q' h')
  own_by q q' (old h) (landed p n b k l) e = absurd (joined.free p q' q n k l b h (sym (old_number q h) ∙ e ∙ landed_number p q' n k l))
  own_by q q' (landed p n b k l) (old h) e = absurd (joined.free p q q' n k l b h (sym (old_number q' h) ∙ sym e ∙ landed_number p q n k l))
  own_by q q' (landed p n b k l) (landed p' n' b' k' l') e =
      let same : n ≡ n' = sym (landed_number p q n k l) ∙ e ∙ landed_number p' q' n' k' l' in
      joined.own p p' q q' n k (k' ∙ ap Some (sym same)) l l'

  low_by : (q : Path) → Origin q → 1 ≤ number_after sites number new q
  low_by q (old h) = rw (old_number q h) (naming.low q h)
  low_by q (landed p n b k l) = rw (landed_number p q n k l) (joined.low p n k)

  high_by : (q : Path) → Origin q → number_after sites number new q ≤ 0xfffffffe
  high_by q (old h) = rw (old_number q h) (naming.high q h)
  high_by q (landed p n b k l) = rw (landed_number p q n k l) (joined.high p n k)

  pub naming_after : IsNaming (merged m o sites) (number_after sites number new)
  naming_after = record {
    low = λ q h. low_by q (origin q h);
    high = λ q h. high_by q (origin q h);
    own = λ q q' h h' e. own_by q q' (origin q h) (origin q' h') e;
    written = λ q n e. old_number q (meaning.numbered q n e).0 ∙ naming.written q n e;
  }

  pub naming_extends : Extends m number (number_after sites number new)
  naming_extends = record { kept = old_number }

  pub follows : Follows m o sites number (number_after sites number new) new
  follows = record {
    kept = old_number;
    given = λ p q h l. let x = joined.some p (inside_of p q h l).1 h in x.1 ∙ ap Some (sym (landed_number p q x.0 x.1 l));
    none = joined.none;
  }
