-- An overlay that can be merged at some sites, by tests.
use Rattle.std.proofs.Common.{◌≡◌, Bool, true, false, not, List, [], Option, Some, None, is_some, sym, ap, ◌∙◌}
use Rattle.std.specs.List.{list_all}
use Rattle.dt_model.specs.Names.{Name}
use Rattle.dt_model.specs.Path.{Path, is_bookkeeping}
use Rattle.dt_model.specs.Meaning.{Meaning}
use Rattle.dt_model.specs.Overlay.{OverlayReference, inside, outside, Overlay}
use Rattle.dt_model.specs.Merged.{Site, landing, AreSites, IsGiven, IsDefined}
use Rattle.dt_model.proofs.Tests.{not_true, all_at}
use Rattle.dt_model_laws.proofs.CheckedWords.{implies, implied}
use Rattle.dt_model_laws.proofs.CheckedInstances.{IsWithin}
use Rattle.dt_model_laws.proofs.CheckedReferences.{references_pass, each_reference}
use Rattle.dt_model_laws.proofs.CheckedOverlays.{of_overlay}

abbrev is_given : Meaning → OverlayReference → Bool
is_given m (inside p) = true
is_given m (outside l) = is_some (m.label l)

given : (m : Meaning) (r : OverlayReference) → is_given m r ≡ true → IsGiven m r
given m (inside p) h = tt
given m (outside l) h = h

-- where a node lands, if it does
abbrev lands_plain : Option Path → Bool
lands_plain None = true
lands_plain (Some q) = not (is_bookkeeping q)

plain_is : (x : Option Path) (q : Path) → lands_plain x ≡ true → x ≡ Some q → is_bookkeeping q ≡ false
plain_is None q h e = cc
plain_is (Some p) q h e = let same : p ≡ q = cc in ap is_bookkeeping (sym same) ∙ not_true (is_bookkeeping p) h

pub record IsApplicable (qs : List Path) (ns : List Name) (m : Meaning) (o : Overlay) (sites : List Site) : Type 0 where
  pub given : references_pass qs ns o.value (λ p n x. is_given m x.1) ≡ true
  pub placed : AreSites m o [] o.fragments sites
  pub plain : list_all (λ p. implies (o.stands p) (lands_plain (landing sites p))) qs ≡ true

pub applicable : (qs : List Path) (ns : List Name) (m : Meaning) (o : Overlay) (sites : List Site) → IsWithin qs ns (of_overlay o) → IsApplicable qs ns m o sites → IsDefined m o sites
applicable qs ns m o sites within h = record {
  given = each_reference qs ns o.value within.values (is_given m) (IsGiven m) (given m) h.given;
  placed = h.placed;
  plain = λ p q k e.
      plain_is (landing sites p) q
      (implied (o.stands p) (lands_plain (landing sites p)) (all_at (λ p. implies (o.stands p) (lands_plain (landing sites p))) qs p h.plain (within.nodes p k)) k) e;
}
