-- There is a result exactly where the overlay can be merged into the meaning, and it represents the merged meaning.
use Rattle.std.proofs.Common.{◌≡◌, ℕ, Bool, true, false, not, List, [], refl, sym, ap, ◌∙◌, Option, Some, None, true≢false}
use Rattle.std.specs.Prelude.{MatchOption, is_some, option_and_then, if◌then◌else◌}
use Rattle.std.specs.List.{list_all}
use Rattle.std.specs.Int.{w32, from_be_bytes}
use Rattle.std.proofs.lemmas.Nat.{from_be_bytes-to_be_bytes_4}
use Rattle.dt_model.specs.Names.{Name}
use Rattle.dt_model.specs.Path.{Path, is_bookkeeping}
use Rattle.dt_model.specs.Lists.{IsIn}
use Rattle.dt_model.specs.Meaning.{Item, EachReference, cell, Meaning}
use Rattle.dt_model.specs.Overlay.{OverlayReference, inside, outside, Overlay}
use Rattle.dt_model.specs.Merged.{Site, landing, AreSites, IsGiven, IsDefined}
use Rattle.dt_model.specs.Object.{Cell, references_from, HasFixups, fragment_names}
use Rattle.dt_model_laws.proofs.Joined.{number_after}
use Rattle.dt_model.specs.Numbers.{number_in}
use Rattle.dt_model.specs.Tree.{Reading, Placed, nodes_of}
use Rattle.dt_model.specs.Applied.{symbol, is_plain, applied_at}
use Rattle.dt_model.proofs.Tests.{and_left, and_right, and_both, not_true, all_at, all_from}
use Rattle.dt_model.proofs.Listed.{stands_listed, listed_stands}
use Rattle.dt_model_laws.specs.Applying.{AreOf}
use Rattle.dt_model.proofs.Inside.{each_from_references, plain_brought}
use Rattle.dt_model_laws.proofs.Given.{symbol_is, phandle_of, no_phandle}
use Rattle.dt_model_laws.proofs.Numbered.{small_number}
use Rattle.dt_model_laws.proofs.Facts.{exact, given_each}
use Rattle.dt_model_laws.proofs.Placed.{fragment_list, same_fragments, brought_at}
use Rattle.dt_model_laws.proofs.Merge.{joining_is_merging}
use Rattle.dt_overlay_model.specs.Walk.{Walked, nothing_walked, walk, new_numbers, may_land, applied_by, applied}
use Rattle.dt_overlay_model.specs.Joining.{IsResult, ApplyingIsMerging}
use Rattle.dt_overlay_model.proofs.Walks.{IsWalked, walked}
use Rattle.dt_overlay_model.proofs.NewNumbers.{joined_numbers}
use Rattle.dt_overlay_model.proofs.Sited.{walked_sites, sites_walked}
use Rattle.dt_overlay_model.proofs.ValidResult.{HasCells, valid_result}

module _ (base object : Reading) (m : Meaning) (o : Overlay) (number local : Path → ℕ) (fixups : List (Name × Cell))
    (are : AreOf base object m o number local) (has : HasFixups object fixups) where
  -- ---- the tests

  symbol_of : (l : Name) → symbol base l ≡ m.label l
  symbol_of l = symbol_is base m number are.represented are.meaning are.plain are.valid_base l

  abbrev labels : Bool
  labels = list_all (λ (x : Name × Cell). is_some (symbol base x.0)) fixups

  abbrev plains : List Site → Bool
  plains sites = list_all (λ (n : Placed). is_plain (landing sites n.path)) (nodes_of object)

  -- the labels of the list of fixups are all that the overlay needs
  given_all : labels ≡ true → (p : Path) (name : Name) (items : List (Item OverlayReference)) → o.value p name ≡ Some items → EachReference (IsGiven m) items
  given_all h p name items e = each_from_references (IsGiven m) 0 items one
    where
      one : (offset : ℕ) (r : OverlayReference) → IsIn (offset, r) (references_from 0 items) → IsGiven m r
      one offset (inside q) i = tt
      one offset (outside l) i =
          let c : Cell = record { path = p; property = name; offset = offset } in
          ap is_some (sym (symbol_of l)) ∙ all_at (λ (x : Name × Cell). is_some (symbol base x.0)) fixups (l, c) h ((exact base object m o number local fixups are has l c).1 (items, e, i))

  defined_from : (sites : List Site) → AreSites m o [] o.fragments sites → may_land base object fixups sites ≡ true → IsDefined m o sites
  defined_from sites placed h = record { given = given_all (and_left labels (plains sites) h); placed = placed; plain = plain_at }
    where
      plain_at : (p q : Path) → o.stands p ≡ true → landing sites p ≡ Some q → is_bookkeeping q ≡ false
      plain_at p q s l =
          let b = brought_at o sites p q (same_fragments m o [] o.fragments sites placed) l in
          let w = stands_listed object p (are.encoded.nodes p (plain_brought o are.overlay p b) ∙ s) in
          not_true (is_bookkeeping q)
          (sym (ap is_plain (ap (landing sites) w.2 ∙ l)) ∙ all_at (λ (n : Placed). is_plain (landing sites n.path)) (nodes_of object) w.0 (and_right labels (plains sites) h) w.1)

  tests_pass : (sites : List Site) → IsDefined m o sites → may_land base object fixups sites ≡ true
  tests_pass sites h =
      and_both labels (plains sites)
      (all_from (λ (x : Name × Cell). is_some (symbol base x.0)) fixups (λ x i. ap is_some (symbol_of x.0) ∙ given_each base object m o number local fixups sites are has h x.0 x.1 i))
      (all_from (λ (n : Placed). is_plain (landing sites n.path)) (nodes_of object) plain_at)
    where
      plain_at : (n : Placed) → IsIn n (nodes_of object) → is_plain (landing sites n.path) ≡ true
      plain_at n i = step (landing sites n.path) refl
        where
          step : (y : Option Path) → landing sites n.path ≡ y → is_plain y ≡ true
          step None e = refl
          step (Some q) e =
              let b = brought_at o sites n.path q (same_fragments m o [] o.fragments sites h.placed) e in
              ap not (h.plain n.path q (sym (are.encoded.nodes n.path (plain_brought o are.overlay n.path b)) ∙ listed_stands object n are.valid_object i) e)

  -- ---- the result

  abbrev walks : Option Walked
  walks = walk base object fixups nothing_walked (fragment_names object.children)

  abbrev Outcome : Option Reading → Type 0
  Outcome x = MatchOption x ((sites : List Site) → IsDefined m o sites → ⊥) (λ t. (sites : List Site) × IsResult base m o number t sites)

  same_names : walks ≡ walk base object fixups nothing_walked (fragment_list o.fragments)
  same_names = ap (walk base object fixups nothing_walked) are.encoded.fragments

  -- where the overlay can be merged at some sites, the walk comes to these
  found : (sites : List Site) → IsDefined m o sites → (end : Walked) × (walks ≡ Some end) × (end.sites ≡ sites)
  found sites h = let v = sites_walked base object m o number local fixups are has sites h.placed in (v.0, same_names ∙ v.1, v.2)

  -- a phandle of a tree that represents a meaning is the cell of its number
  cells : HasCells base
  cells q v plain e = step (m.keyed q) refl
    where
      step : (b : Bool) → m.keyed q ≡ b → v ≡ cell (from_be_bytes w32 v)
      step true k =
          let z : Some v ≡ Some (cell (number q)) = sym e ∙ phandle_of base m number are.represented are.meaning are.plain q k in
          let is : v ≡ cell (number q) = cc in
          let back : from_be_bytes w32 (cell (number q)) ≡ number q = from_be_bytes-to_be_bytes_4 (number q) (small_number (number q) (are.represented.naming.high q k)) in
          is ∙ ap cell (sym back ∙ ap (from_be_bytes w32) (sym is))
      step false k = absurd (let z : Some v ≡ None = sym e ∙ no_phandle base m number are.represented are.meaning are.plain q plain k in cc)

  result_is : (end : Walked) → walks ≡ Some end → IsDefined m o end.sites → IsResult base m o number (applied_at base object fixups (new_numbers base object end) end.sites) end.sites
  result_is end e h =
      let all : IsWalked base object (fragment_names object.children) end = walked base object fixups are.valid_object end e in
      let joined = joined_numbers base object are.valid_object are.few_in_base are.few_in_object end all m o number local are h in
      let r = joining_is_merging base object m o number local fixups (new_numbers base object end) end.sites are has h joined in
      record {
        defined = h;
        number' = number_after end.sites number (number_in (new_numbers base object end));
        represents = r.represents;
        extends = r.extends;
        valid = valid_result base object fixups are.valid_base are.valid_object are.few_in_base are.few_in_object cells end e (tests_pass end.sites h);
        boot_cpu = r.boot_cpu;
        bookkeeping = r.bookkeeping;
      }

  exactly : Outcome (applied base object fixups)
  exactly = step walks refl
    where
      step : (y : Option Walked) → walks ≡ y → Outcome (option_and_then (applied_by base object fixups) y)
      step None e = λ sites h. let v = found sites h in let z : ◌≡◌ {A = Option Walked} None (Some v.0) = sym e ∙ v.1 in cc
      step (Some end) e = inner (may_land base object fixups end.sites) refl
        where
          inner : (b : Bool) → may_land base object fixups end.sites ≡ b → Outcome (if b then Some (applied_at base object fixups (new_numbers base object end) end.sites) else None)
          inner true k =
              let placed : AreSites m o [] o.fragments end.sites = walked_sites base object m o number local fixups are has end (sym same_names ∙ e) in
              (end.sites, result_is end e (defined_from end.sites placed k))
          inner false k = λ sites h.
              let v = found sites h in
              let z : ◌≡◌ {A = Option Walked} (Some end) (Some v.0) = sym e ∙ v.1 in
              let same : v.0 ≡ end = cc in
              let at : sites ≡ end.sites = sym v.2 ∙ ap (λ (w : Walked). w.sites) same in
              true≢false (sym (ap (may_land base object fixups) (sym at) ∙ tests_pass sites h) ∙ k)

pub applying_is_merging : ApplyingIsMerging
unfolding exactly
applying_is_merging base object m o number local fixups are has = exactly base object m o number local fixups are has
