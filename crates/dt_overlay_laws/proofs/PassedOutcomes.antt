-- An object without faults is applied where its fragments have sites.
use Rattle.std.proofs.Common.{◌≡◌, ◌≤◌, Bool, true, false, not, ◌&&◌, List, [], ◌∷◌, ◌++◌, map, length, is_some, refl, sym, ap, subst, ◌∙◌, Option, Some, None}
use Rattle.std.specs.Prelude.{if◌then◌else◌, option_and_then}
use Rattle.std.specs.List.{list_all, AllByRecursion}
use Rattle.dt_model.specs.Names.{Name}
use Rattle.dt_model.specs.Limits.{most_names}
use Rattle.dt_model.specs.Path.{Path, is_bookkeeping}
use Rattle.dt_model.specs.Lists.{IsIn}
use Rattle.dt_model.specs.Merged.{Site, landing}
use Rattle.dt_model.specs.Object.{Cell, AreFixups, fragment_names}
use Rattle.dt_model.specs.Tree.{Property, Reading, Placed, nodes_of}
use Rattle.dt_model.specs.Valid.{IsValid}
use Rattle.dt_model.specs.Applied.{symbol, is_plain, applied_at}
use Rattle.dt_model.proofs.Tests.{and_both, all_from, each_in}
use Rattle.dt_model.proofs.Listed.{listed_stands}
use Rattle.dt_overlay_model.specs.Walk.{nothing_walked, new_numbers, may_land, applied_by}
use Rattle.dt_overlay_laws.specs.Landings.{MayLand, MayAllLand}
use Rattle.dt_overlay_model.specs.Walk.{landings}
use Rattle.dt_overlay_laws.specs.Laws.{AreShallow, AllowedMayLand}
use Rattle.dt_overlay_laws.specs.Objects.{IsFixup, fixups_in}
use Rattle.dt_overlay_laws.specs.Outcomes.{SitedIsApplied}
use Rattle.dt_overlay_laws.proofs.Landed.{lands_listed}
use Rattle.dt_overlay_laws.proofs.Sited.{sited_walks}

both : (a b : Bool) → a ≡ true → b ≡ true → (a && b) ≡ true
both true b e h = h
both false b e h = e

-- ---- each label of a fixup has a symbol

labels_of : (base : Reading) (l : Name) (cells : List Cell) (rest : List (Name × Cell)) → is_some (symbol base l) ≡ true → list_all (λ x. is_some (symbol base x.0)) rest ≡ true
    → list_all (λ x. is_some (symbol base x.0)) (map (λ c. (l, c)) cells ++ rest) ≡ true
labels_of base l [] rest e h = h
labels_of base l (c ∷ cells) rest e h =
    both (is_some (symbol base l)) (list_all (λ x. is_some (symbol base x.0)) (map (λ c. (l, c)) cells ++ rest)) e (labels_of base l cells rest e h)

labels_have_symbols : (base object : Reading) (ps : List Property) (fixups : List (Name × Cell)) → AreFixups ps fixups → AllByRecursion (IsFixup base object) ps
    → list_all (λ x. is_some (symbol base x.0)) fixups ≡ true
labels_have_symbols base object [] fixups e h = ap (λ (fs : List (Name × Cell)). list_all (λ x. is_some (symbol base x.0)) fs) e
labels_have_symbols base object (p ∷ ps) fixups (cells, rest, e, texts, more) h =
    let number = h.0.numbered in
    ap (λ (fs : List (Name × Cell)). list_all (λ x. is_some (symbol base x.0)) fs) e
    ∙ labels_of base p.name cells rest (ap is_some number.1) (labels_have_symbols base object ps rest more h.1)

-- ---- the outcome

module _ (object : Reading) (valid : IsValid object) (sites : List Site) (all : (x : Site) → IsIn x sites → MayAllLand (landings object x)) where
  -- each node that lands may
  lands_may : (p q : Path) → landing sites p ≡ Some q → (x : Site) (n : Placed) → IsIn x sites → IsIn n (landings object x) → n.path ≡ q → MayLand n
  lands_may p q l x n i j same = each_in MayLand (landings object x) n (all x i) j

  plain_landings : list_all (λ (n : Placed). is_plain (landing sites n.path)) (nodes_of object) ≡ true
  plain_landings = all_from (λ (n : Placed). is_plain (landing sites n.path)) (nodes_of object) (λ n i. step n i (landing sites n.path) refl)
    where
      step : (n : Placed) → IsIn n (nodes_of object) → (y : Option Path) → landing sites n.path ≡ y → is_plain y ≡ true
      step n i None e = refl
      step n i (Some q) e =
          let w = lands_listed object sites n.path q (listed_stands object n valid i) e in
          let may = lands_may n.path q e w.0 w.1 w.2 w.3 w.4 in
          ap not (ap (λ r. is_bookkeeping r) (sym w.4) ∙ may.plain)

  pub shallow_landings : AreShallow object sites
  shallow_landings p q h l =
      let w = lands_listed object sites p q h l in
      let may = lands_may p q l w.0 w.1 w.2 w.3 w.4 in
      subst (λ r. length r ≤ most_names) w.4 may.shallow

module _ (may : AllowedMayLand) where
  pub sited_is_applied : SitedIsApplied
  sited_is_applied base object fixups w valid_base valid few_in_base few cells listed well sited =
      let walks = sited_walks base object fixups valid (fragment_names object.children) nothing_walked w (λ f i. i) sited (λ x i. absurd i) in
      let shallow = shallow_landings object valid w.sites walks.1 in
      let allowed : may_land base object fixups w.sites ≡ true =
      and_both (list_all (λ (x : Name × Cell). is_some (symbol base x.0)) fixups) (list_all (λ (n : Placed). is_plain (landing w.sites n.path)) (nodes_of object))
      (labels_have_symbols base object (fixups_in object) fixups listed well.fixups) (plain_landings object valid w.sites walks.1) in
      record {
        applied = ap (option_and_then (applied_by base object fixups)) walks.0 ∙ ap (λ b. if b then Some (applied_at base object fixups (new_numbers base object w) w.sites) else None) allowed;
        walked = walks.0;
        may = may base object fixups w valid_base valid few_in_base few cells walks.0 allowed shallow;
        shallow = shallow;
      }
