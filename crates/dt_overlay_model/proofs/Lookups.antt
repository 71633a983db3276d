-- What look-ups find after an application, whoever wrote the two trees.
use Rattle.std.proofs.Common.{◌≡◌, ◌≢◌, ℕ, true, false, ◌||◌, List, [], ◌∷◌, map, codes, refl, sym, ap, ◌∙◌, subst, Option, Some, None, true≢false}
use Rattle.std.specs.Prelude.{is_some, option_map, option_and_then}
use Rattle.std.specs.Option.{option_or}
use Rattle.std.specs.List.{list_any, list_all}
use Rattle.dt_model.specs.Names.{Name}
use Rattle.dt_model.specs.Path.{Path, path_value, is_bookkeeping}
use Rattle.dt_model.specs.Lists.{IsIn, last_of}
use Rattle.dt_model.specs.Merged.{landing, sources}
use Rattle.dt_model.specs.Object.{Cell, fragment_names, properties_of}
use Rattle.dt_model.specs.Tree.{Property, Reading, Node, Placed, value_of, root_of, node_at, nodes_of, stands_in, value_in}
use Rattle.dt_model.specs.Valid.{AreDistinct, IsValid}
use Rattle.dt_model.specs.Applied.{symbol, is_plain, node_named, writes, with_fragments, landed_symbols, applied_at}
use Rattle.dt_model.proofs.Tests.{and_right, not_true, all_at}
use Rattle.dt_model.proofs.Listed.{stands_listed, value_stands}
use Rattle.dt_model_laws.proofs.Brought.{written_value, apart_below, root_apart}
use Rattle.dt_model_laws.proofs.Landing.{AreThere, there_from, value-with_fragments, stands-with_fragments, reservations_stay, boot_cpu_stays}
use Rattle.dt_model_laws.proofs.Lands.{landing_of, last_none}
use Rattle.dt_model_laws.proofs.Placed.{site_names}
use Rattle.dt_model_laws.proofs.Symbols.{value_of-landed, landed_distinct, value-with_symbols_merged, stands-with_symbols_merged, symbols-with_symbols_merged, reservations-with_symbols_merged, boot_cpu-with_symbols_merged}
use Rattle.dt_overlay_model.specs.Walk.{Walked, nothing_walked, walk, new_numbers, may_land}
use Rattle.dt_overlay_model.proofs.Brought.{fragments_distinct}
use Rattle.dt_overlay_model.proofs.Standing.{in_turn}
use Rattle.dt_overlay_model.proofs.Walks.{IsWalked, walked}

module _ (base object : Reading) (fixups : List (Name × Cell)) (valid_base : IsValid base) (valid : IsValid object) (w : Walked)
    (ended : walk base object fixups nothing_walked (fragment_names object.children) ≡ Some w) (may : may_land base object fixups w.sites ≡ true) where
  abbrev numbers : List (Path × ℕ)
  numbers = new_numbers base object w

  pub all : IsWalked base object (fragment_names object.children) w
  all = walked base object fixups valid w ended

  pub distinct : AreDistinct (site_names w.sites)
  distinct = subst AreDistinct (sym all.named) (fragments_distinct object.children valid.siblings)

  -- nothing lands among the bookkeeping nodes
  pub lands_plain : (p q : Path) → stands_in object p ≡ true → landing w.sites p ≡ Some q → is_bookkeeping q ≡ false
  lands_plain p q s l =
      let x = stands_listed object p s in
      not_true (is_bookkeeping q)
      (sym (ap is_plain (ap (landing w.sites) x.2 ∙ l))
      ∙ all_at (λ (n : Placed). is_plain (landing w.sites n.path)) (nodes_of object) x.0
      (and_right (list_all (λ (y : Name × Cell). is_some (symbol base y.0)) fixups) (list_all (λ (n : Placed). is_plain (landing w.sites n.path)) (nodes_of object)) may) x.1)

  pub are_there : AreThere object (writes base object fixups numbers) numbers valid base w.sites
  are_there =
      there_from object (writes base object fixups numbers) numbers valid w.sites [] base base (λ q. refl)
      (in_turn base object fixups valid_base valid (writes base object fixups numbers) numbers w ended)

  -- ---- the properties of `__symbols__`

  abbrev pub listed : List Property
  listed = properties_of (node_at object (codes "__symbols__" ∷ []))

  pub listed_value : (l : Name) → value_of listed l ≡ value_in object (codes "__symbols__" ∷ []) l
  listed_value l = step (node_at object (codes "__symbols__" ∷ []))
    where
      step : (y : Option Node) → value_of (properties_of y) l ≡ option_and_then (λ (c : Node). value_of c.properties l) y
      step None = refl
      step (Some n) = refl

  pub listed_distinct : AreDistinct (map (λ (p : Property). p.name) listed)
  listed_distinct = step (node_at object (codes "__symbols__" ∷ [])) refl
    where
      step : (y : Option Node) → node_at object (codes "__symbols__" ∷ []) ≡ y → AreDistinct (map (λ (p : Property). p.name) (properties_of y))
      step None e = tt
      step (Some n) e = (apart_below (codes "__symbols__" ∷ []) (root_of object) n (root_apart object valid) e).properties

  landed_apart : AreDistinct (map (λ (p : Property). p.name) (landed_symbols object w.sites listed))
  landed_apart = landed_distinct object w.sites listed listed_distinct

  -- ---- look-ups

  abbrev merged_tree : Reading
  merged_tree = with_fragments base object (writes base object fixups numbers) numbers w.sites

  -- what a node of the object has of a property, as it lands
  abbrev pub as_landed : Name → Path → Option (List ℕ)
  as_landed name p = option_map (written_value (writes base object fixups (new_numbers base object w)) (new_numbers base object w) p name) (value_in object p name)

  pub value_at : (q : Path) (name : Name) → q ≢ codes "__symbols__" ∷ []
      → value_in (applied_at base object fixups (new_numbers base object w) w.sites) q name ≡ option_or (last_of (as_landed name) (sources w.sites q)) (value_in base q name)
  value_at q name ne =
      value-with_symbols_merged (landed_symbols object w.sites listed) merged_tree landed_apart q name ne
      ∙ value-with_fragments object (writes base object fixups numbers) numbers valid w.sites base q name are_there

  pub stands_at : (q : Path) → q ≢ codes "__symbols__" ∷ []
      → stands_in (applied_at base object fixups (new_numbers base object w) w.sites) q ≡ list_any (stands_in object) (sources w.sites q) || stands_in base q
  stands_at q ne =
      stands-with_symbols_merged (landed_symbols object w.sites listed) merged_tree landed_apart q ne
      ∙ stands-with_fragments object (writes base object fixups numbers) numbers valid w.sites base q are_there

  no_value_lands : (q : Path) (name : Name) → is_bookkeeping q ≡ true → last_of (as_landed name) (sources w.sites q) ≡ None
  no_value_lands q name book = last_none (as_landed name) (sources w.sites q) none
    where
      none : (p : Path) → IsIn p (sources w.sites q) → as_landed name p ≡ None
      none p i = step (value_in object p name) refl
        where
          step : (y : Option (List ℕ)) → value_in object p name ≡ y
              → option_map (written_value (writes base object fixups (new_numbers base object w)) (new_numbers base object w) p name) y ≡ None
          step None e = refl
          step (Some v) e = absurd (true≢false (sym book ∙ lands_plain p q (value_stands object p name v e) (landing_of w.sites p q distinct i)))

  -- the path on which a label of the object lands, if it is that of a node that does
  abbrev pub label_lands : Name → Option Path
  label_lands l = option_and_then (landing w.sites) (option_and_then (node_named (nodes_of object)) (value_in object (codes "__symbols__" ∷ []) l))

  pub symbol_at : (l : Name) → value_in (applied_at base object fixups (new_numbers base object w) w.sites) (codes "__symbols__" ∷ []) l
      ≡ option_or (option_map path_value (label_lands l)) (value_in base (codes "__symbols__" ∷ []) l)
  symbol_at l =
      symbols-with_symbols_merged (landed_symbols object w.sites listed) merged_tree landed_apart l
      ∙ ap (λ y. option_or y (value_in merged_tree (codes "__symbols__" ∷ []) l))
      (value_of-landed object w.sites listed l listed_distinct
      ∙ ap (λ y. option_map path_value (option_and_then (landing w.sites) (option_and_then (node_named (nodes_of object)) y))) (listed_value l))
      ∙ ap (option_or (option_map path_value (label_lands l)))
      (value-with_fragments object (writes base object fixups numbers) numbers valid w.sites base (codes "__symbols__" ∷ []) l are_there
      ∙ ap (λ y. option_or y (value_in base (codes "__symbols__" ∷ []) l)) (no_value_lands (codes "__symbols__" ∷ []) l refl))

  pub reservations_are : (applied_at base object fixups (new_numbers base object w) w.sites).reservations ≡ base.reservations
  reservations_are =
      reservations-with_symbols_merged (landed_symbols object w.sites listed) merged_tree
      ∙ reservations_stay object (writes base object fixups numbers) numbers valid w.sites base

  pub boot_cpu_is : (applied_at base object fixups (new_numbers base object w) w.sites).boot_cpu ≡ base.boot_cpu
  boot_cpu_is =
      boot_cpu-with_symbols_merged (landed_symbols object w.sites listed) merged_tree
      ∙ boot_cpu_stays object (writes base object fixups numbers) numbers valid w.sites base
