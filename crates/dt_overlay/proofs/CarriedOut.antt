-- Landing an object whose fragments have sites is applying it.
use Rattle.std.proofs.Common.{◌≡◌, List, sym, ap, subst, ◌∙◌, inl, inr}
use Rattle.dt_model.specs.Path.{Path}
use Rattle.dt_model.specs.Tree.{Reading}
use Rattle.dt_model.specs.Valid.{IsValid, IsWithinLimits}
use Rattle.dt_model.specs.Merged.{Site}
use Rattle.dt_model.specs.Applied.{with_fragments, with_symbols_merged, landed_symbols, applied_at}
use Rattle.dt_names.specs.declared.fault.Fault.{Fault}
use Rattle.dt_overlay_model.specs.InTurn.{IsApplied}
use Rattle.dt_overlay_model.specs.Walk.{new_numbers}
use Rattle.dt_overlay_model.proofs.Walks.{walked}
use Rattle.dt_overlay_laws.specs.Laws.{AreShallow, FragmentsAreMerged}
use Rattle.dt_overlay_laws.specs.Objects.{HasCells, symbols_in}
use Rattle.dt_overlay_laws.specs.Outcomes.{MayBeApplied, SitedIsApplied}
use Rattle.dt_overlay_laws.specs.Refusals.{IsCrowded}
use Rattle.dt_overlay_laws.specs.Steps.{FullAtLanding, FullAtFragments, FullAtSymbols, MayLandFragments, land_fragments}
use Rattle.dt_overlay_object.specs.Stages.{IsReadFor, IsSitedFor, IsNumberedFor, seen_with}
use Rattle.dt_overlay_object.specs.Objects.{Seen, IsSeenAs, IsToLandOn, writes_of}
use Rattle.dt_overlay_object.specs.declared.object.Object.{Object}
use Rattle.dt_trees.specs.Placed.{PlacedTree}
use Rattle.dt_overlay_landing.proofs.LandingNodes.{want_whole}
use Rattle.dt_overlay_base.specs.Targets.{IsWant}

-- what an object is seen as, once its cells have their numbers
abbrev pub seen_of : {V : Type 0} (tree : V → PlacedTree) (base object : Reading) (o : Object V) (sites : List Path) → IsNumberedFor tree base object o sites → Seen
seen_of tree base object o sites n = seen_with base object n.fixups (new_numbers base object n.end)

-- what is known of an object that was read, once it has sites and its cells their numbers
pub numbered_for : {V : Type 0} (tree : V → PlacedTree) (base object : Reading) (first then now : Object V) (sites : List Path) (r : IsReadFor tree base object first)
    (t : IsSitedFor tree base object r.fixups then sites) → IsSeenAs tree now (seen_with base object r.fixups (new_numbers base object t.end)) → IsNumberedFor tree base object now sites
numbered_for tree base object first then now sites r t seen = record {
  valid = r.valid;
  few = r.few;
  fixups = r.fixups;
  listed = r.listed;
  well = r.well;
  end = t.end;
  sited = t.sited;
  at = t.at;
  seen = seen;
}

module _ (law : SitedIsApplied) (merge : FragmentsAreMerged) {V : Type 0} (tree : V → PlacedTree) (base object : Reading) (o : Object V) (sites : List Path) (n : IsNumberedFor tree base object o sites)
    (valid : IsValid base) (few : IsWithinLimits base) (cells : HasCells base) where
  abbrev seen : Seen
  seen = seen_of tree base object o sites n

  abbrev found : List Site
  found = n.end.sites

  passed : MayBeApplied base object n.fixups n.end
  passed = law base object n.fixups n.end valid n.valid few n.few cells n.listed n.well n.sited

  -- it may land
  pub sited_on : (qs : List Path) → qs ≡ sites → IsToLandOn tree o seen found qs
  sited_on qs are = record { seen = n.seen; named = (walked base object n.fixups n.valid n.end passed.walked).named; at = are ∙ n.at }

  pub may_land : MayLandFragments base object (writes_of seen) seen.numbers found
  may_land = passed.may

  pub shallow : AreShallow object found
  shallow = passed.shallow

  abbrev whole : Reading
  whole = applied_at base object n.fixups seen.numbers found

  whole_applied : IsApplied base object whole
  whole_applied = record { fixups = n.fixups; listed = n.listed; is = passed.applied }

  merged : land_fragments base object (writes_of seen) seen.numbers found ≡ with_fragments base object (writes_of seen) seen.numbers found
  merged = merge base object (writes_of seen) seen.numbers found

  -- once the labels are set, the object is applied
  pub carried : (t u : Reading) → t ≡ land_fragments base object (writes_of seen) seen.numbers found → u ≡ with_symbols_merged (landed_symbols object found (symbols_in object)) t → IsApplied base object u
  carried t u e h = subst (λ (v : Reading). IsApplied base object v) (sym (h ∙ ap (with_symbols_merged (landed_symbols object found (symbols_in object))) (e ∙ merged))) whole_applied

  -- want of room on the way
  module _ (full : Reading → Reading → Type 0) where
    crowded : FullAtLanding full base object n.fixups seen.numbers found (symbols_in object) → IsCrowded full base object
    crowded change = record {
      well = n.well;
      result = whole;
      applied = whole_applied;
      fixups = n.fixups;
      listed = n.listed;
      end = n.end;
      walked = passed.walked;
      change = change;
    }

    -- a fault while the fragments land
    pub told_landing : (e : Fault) → IsWant (FullAtFragments full base object (writes_of seen) seen.numbers found) e → IsWant (IsCrowded full base object) e
    told_landing e want = want_whole (FullAtFragments full base object (writes_of seen) seen.numbers found) (IsCrowded full base object) e (λ stuck. crowded (inl stuck)) want

    -- and while the labels are set
    pub told_symbols : (t : Reading) → t ≡ land_fragments base object (writes_of seen) seen.numbers found → (e : Fault)
        → IsWant (FullAtSymbols full (landed_symbols object found (symbols_in object)) t) e → IsWant (IsCrowded full base object) e
    told_symbols t is e want =
        want_whole (FullAtSymbols full (landed_symbols object found (symbols_in object)) t) (IsCrowded full base object) e
        (λ stuck. crowded (inr (subst (FullAtSymbols full (landed_symbols object found (symbols_in object))) is stuck))) want
