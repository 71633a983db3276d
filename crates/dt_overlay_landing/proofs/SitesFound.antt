-- The sites of fragments, one after another.
use Rattle.std.proofs.Common.{◌≡◌, ℕ, ◌+◌, List, [], ◌∷◌, ◌++◌, drop, Some, None, refl, sym, ap, subst, ◌∙◌, inl, inr, append_assoc, append-nil, true≢false}
use Rattle.std.specs.List.{AllByRecursion}
use Rattle.std.proofs.lemmas.List.{map-append}
use Rattle.dt_model.specs.Names.{Name, IsNodeName}
use Rattle.dt_model.specs.Path.{Path}
use Rattle.dt_model.specs.Merged.{Site}
use Rattle.dt_model.specs.Object.{Cell, fragment_names}
use Rattle.dt_model.specs.Tree.{Reading}
use Rattle.dt_model.specs.Valid.{IsValid, IsWithinLimits}
use Rattle.dt_names.specs.declared.fault.FaultKind.{FaultKind}
use Rattle.dt_trees.specs.Placed.{PlacedTree, reading_of, HasPlacesApart}
use Rattle.dt_overlay_model.specs.Walk.{Walked, nothing_walked, new_numbers, site, landed_on}
use Rattle.dt_overlay_laws.specs.Landings.{AreSited, WhyNoSite, HasNoSite}
use Rattle.dt_overlay_object.specs.declared.kept.ObjectFragment.{ObjectFragment}
use Rattle.dt_overlay_landing.specs.declared.marks.TargetMark.{TargetMark}
use Rattle.dt_overlay_object.specs.declared.landing.Landing.{Landing}
use Rattle.dt_overlay_object.specs.declared.object.Object.{Object}
use Rattle.dt_overlay_object.specs.declared.brought.Brought.{Brought}
use Rattle.dt_overlay_landing.specs.Marks.{AreMarked}
use Rattle.dt_overlay_object.specs.Plans.{IsFragmentOf, AreFragmentsOf, AreBroughtBy}
use Rattle.dt_overlay_object.specs.Stages.{IsEmptyLanding}
use Rattle.dt_overlay_landing.specs.Turns.{Turn, AreNumberedBy, AreNumberedSoFar, IsTurnIn, IsTurnOf, IsSitedOn, HasAllSites, NumbersFragment}
use Rattle.dt_overlay_base.specs.NodeNumbers.{at_node}
use Rattle.dt_overlay_landing.proofs.NumbersLanded.{all_fit, all_numbered, brought_last, content_has, fit_before}
use Rattle.dt_overlay_landing.proofs.SitesTurns.{sited_behind, none_behind}

-- the fragments up to an index have sites
pub record AreFound (base : Reading) (fixups : List (Name × Cell)) (o : PlacedTree) (brought : Brought) (all : List ObjectFragment) (marks : List (ℕ × TargetMark)) (i : ℕ) (landing : Landing) : Type 0 where
  pub walked : Walked
  pub done : List Name
  pub later : List Name
  pub turn : IsTurnIn base o brought marks landing (record { fixups = fixups; walked = walked; done = done; later = later })
  pub left : AreFragmentsOf o (drop i all) later

pub found_begun : (base : Reading) (fixups : List (Name × Cell)) (o : PlacedTree) (brought : Brought) (all : List ObjectFragment) (marks : List (ℕ × TargetMark)) (landing : Landing)
    → AreBroughtBy o [] brought → AreMarked base fixups o marks → AreFragmentsOf o all (fragment_names (reading_of o).children) → IsEmptyLanding landing → AreFound base fixups o brought all marks 0 landing
found_begun base fixups o brought all marks landing is marked listed empty = record {
  walked = nothing_walked;
  done = [];
  later = fragment_names (reading_of o).children;
  turn = record {
    brought = is;
    marked = marked;
    names = refl;
    sited = refl;
    sites = empty.sites;
    good = subst (AllByRecursion (λ (q : Path). AllByRecursion IsNodeName q)) (sym empty.sites) tt;
    known = empty.places base;
    numbered = λ numbers fit. record {
      sound = λ p k n at e. absurd (let none : None ≡ Some n = sym (ap (λ (entries : List (ℕ × ℕ)). at_node entries k) empty.nodes) ∙ e in cc);
      own = λ p there brought. absurd (true≢false (sym brought));
    };
  };
  left = listed;
}

module _ (base : Reading) (fixups : List (Name × Cell)) (o : PlacedTree) (brought : Brought) (all : List ObjectFragment) (marks : List (ℕ × TargetMark)) (i : ℕ) (landing : Landing)
    (so_far : AreFound base fixups o brought all marks i landing) where
  abbrev names : List Name
  names = fragment_names (reading_of o).children

  module _ (x : ObjectFragment) (first : drop i all ≡ x ∷ drop (i + 1) all) where
    pub record IsNext : Type 0 where
      pub name : Name
      pub later : List Name
      pub is : so_far.later ≡ name ∷ later
      pub own : IsFragmentOf o x name
      pub left : AreFragmentsOf o (drop (i + 1) all) later

    -- the fragment of the index is the next
    pub next : IsNext
    next = step so_far.later refl (subst (λ (xs : List ObjectFragment). AreFragmentsOf o xs so_far.later) first so_far.left)
      where
        step : (fs : List Name) → so_far.later ≡ fs → AreFragmentsOf o (x ∷ drop (i + 1) all) fs → IsNext
        step [] e h = absurd h
        step (f ∷ fs) e h = record { name = f; later = fs; is = e; own = h.0; left = h.1 }

    abbrev pub this : Turn
    this = record { fixups = fixups; walked = so_far.walked; done = so_far.done; later = so_far.later }

    -- it is its turn
    abbrev pub turn_of : {V : Type 0} (tree : V → PlacedTree) (object : Object V) → tree object.tree.now ≡ o → object.brought ≡ brought → IsTurnOf tree base object marks landing x this
    turn_of tree object same own = record {
      turn = subst (λ (t : PlacedTree). IsTurnIn base t object.brought marks landing this) (sym same) (subst (λ (b : Brought). IsTurnIn base o b marks landing this) (sym own) so_far.turn);
      name = next.name;
      behind = next.later;
      next = next.is;
      fragment = subst (λ (t : PlacedTree). IsFragmentOf t x next.name) (sym same) next.own;
    }

    -- it has a site
    pub found_on : HasPlacesApart o → (q : Path) → AllByRecursion IsNodeName q → (then : Landing) → IsSitedOn base fixups (reading_of o) so_far.walked next.name q then.places
        → NumbersFragment base o so_far.walked next.name q x.content landing.places then.places → then.sites.items ≡ landing.sites.items ++ q ∷ [] → AreFound base fixups o brought all marks (i + 1) then
    found_on apart q good then h notes e = record {
      walked = landed_on base (reading_of o) so_far.walked next.name q;
      done = so_far.done ++ next.name ∷ [];
      later = next.later;
      turn = record {
        brought = so_far.turn.brought;
        marked = so_far.turn.marked;
        names = so_far.turn.names ∙ ap (λ (fs : List Name). so_far.done ++ fs) next.is ∙ sym (append_assoc so_far.done (next.name ∷ []) next.later);
        sited = sited_behind base (reading_of o) fixups so_far.done (next.name ∷ []) nothing_walked so_far.walked (landed_on base (reading_of o) so_far.walked next.name q) so_far.turn.sited (q, h.named, h.may, refl);
        sites = e ∙ ap (λ (ps : List Path). ps ++ q ∷ []) so_far.turn.sites ∙ sym (map-append (λ (s : Site). s.at) so_far.walked.sites (site next.name q ∷ []));
        good = subst (AllByRecursion (λ (p : Path). AllByRecursion IsNodeName p)) (sym e) (both_good landing.sites.items so_far.turn.good);
        known = h.known;
        numbered = numbered;
      };
      left = next.left;
    }
      where
        numbered : AreNumberedSoFar base o (landed_on base (reading_of o) so_far.walked next.name q) (so_far.done ++ next.name ∷ []) then.places.nodes
        numbered numbers fit =
            let before = so_far.turn.numbered numbers (fit_before base o so_far.walked next.name q numbers fit) in
            let more = notes numbers fit before.sound in
            record {
              sound = more.sound;
              own = λ p there is. elim (brought_last p so_far.done next.name is) [
                | inl earlier ↦ more.kept p (before.own p there earlier)
                | inr inside ↦ more.own p (content_has o apart next.name x.content p next.own.content there inside)
              ];
            }

        both_good : (ps : List Path) → AllByRecursion (λ (p : Path). AllByRecursion IsNodeName p) ps → AllByRecursion (λ (p : Path). AllByRecursion IsNodeName p) (ps ++ q ∷ [])
        both_good [] k = (good, tt)
        both_good (p ∷ ps) k = (k.0, both_good ps k.1)

    -- it has none
    pub found_refused : (kind : FaultKind) → WhyNoSite kind base (reading_of o) fixups so_far.walked next.name → HasNoSite kind base (reading_of o) fixups nothing_walked names
    found_refused kind why =
        subst (HasNoSite kind base (reading_of o) fixups nothing_walked) (sym (so_far.turn.names ∙ ap (λ (fs : List Name). so_far.done ++ fs) next.is))
        (none_behind base (reading_of o) fixups (HasNoSite kind base (reading_of o) fixups) (λ w f fs q named may more. inr (q, named, may, more)) so_far.done (next.name ∷ next.later) nothing_walked so_far.walked so_far.turn.sited (inl why))

  -- all have
  pub found_ended : IsValid (reading_of o) → IsWithinLimits base → IsWithinLimits (reading_of o) → drop i all ≡ [] → HasAllSites base fixups o landing
  found_ended valid few_base few over = record {
    end = so_far.walked;
    sited = sited;
    sites = so_far.turn.sites;
    numbered = all_numbered base o valid few_base few fixups so_far.walked sited landing.places.nodes
        (subst (λ (fs : List Name). AreNumberedBy o fs landing.places.nodes numbers) whole (so_far.turn.numbered numbers (all_fit base o valid few_base few fixups so_far.walked sited)));
  }
    where
      numbers : List (Path × ℕ)
      numbers = new_numbers base (reading_of o) so_far.walked

      none : (fs : List Name) → so_far.later ≡ fs → so_far.later ≡ []
      none [] e = e
      none (f ∷ fs) e = absurd (subst (λ (gs : List Name). AreFragmentsOf o [] gs) e (subst (λ (xs : List ObjectFragment). AreFragmentsOf o xs so_far.later) over so_far.left))

      whole : so_far.done ≡ names
      whole = sym (append-nil so_far.done) ∙ ap (λ (fs : List Name). so_far.done ++ fs) (sym (none so_far.later refl)) ∙ sym so_far.turn.names

      sited : AreSited base (reading_of o) fixups nothing_walked names so_far.walked
      sited = subst (λ (fs : List Name). AreSited base (reading_of o) fixups nothing_walked fs so_far.walked) whole so_far.turn.sited
