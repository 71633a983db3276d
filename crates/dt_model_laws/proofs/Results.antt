-- What look-ups find in the result of an application, in the words of the meaning and of the overlay.
use Rattle.std.proofs.Common.{◌≡◌, ◌≢◌, ℕ, Bool, true, false, ◌||◌, List, [], ◌∷◌, map, codes, refl, sym, ap, ◌∙◌, subst, Option, Some, None, true≢false}
use Rattle.std.specs.Prelude.{option_map, option_and_then, unwrap_or, if◌then◌else◌}
use Rattle.std.specs.Option.{option_or}
use Rattle.std.specs.List.{list_any}
use Rattle.std.specs.Str.{bytes_eq}
use Rattle.dt_model.specs.Names.{Name}
use Rattle.dt_model.specs.Path.{Path, path_value, is_bookkeeping}
use Rattle.dt_model.specs.Lists.{IsIn, last_of}
use Rattle.dt_model.specs.Meaning.{Item, cell, value_bytes, Meaning}
use Rattle.dt_model.specs.Overlay.{object_number, OverlayReference, Overlay, IsBrought}
use Rattle.dt_model.specs.Merged.{Site, landing, sources, IsDefined}
use Rattle.dt_model.specs.Object.{Cell, HasFixups, properties_of}
use Rattle.dt_model_laws.proofs.Joined.{IsJoined}
use Rattle.dt_model.specs.Numbers.{number_in}
use Rattle.dt_model.specs.Tree.{Property, Reading, Node, value_of, root_of, node_at, nodes_of, stands_in, value_in}
use Rattle.dt_model.specs.Valid.{AreDistinct}
use Rattle.dt_model.specs.Applied.{node_named, writes, value_after_writes, with_fragments, landed_symbols, applied_at}
use Rattle.dt_model_laws.specs.Applying.{AreOf, KeepsBookkeeping}
use Rattle.dt_model.proofs.Tests.{any_from, any_same}
use Rattle.dt_model_laws.proofs.Lands.{landing_of, last_same, last_none}
use Rattle.dt_model.proofs.Listed.{value_stands}
use Rattle.dt_model_laws.proofs.Brought.{written_value, apart_below, root_apart}
use Rattle.dt_model_laws.proofs.Landing.{AreThere, value-with_fragments, stands-with_fragments}
use Rattle.dt_model.proofs.Inside.{final_number, plain_brought, referred_inside}
use Rattle.dt_model_laws.proofs.Given.{base_value, base_phandle, object_phandle, object_value_is, label_is}
use Rattle.dt_model_laws.proofs.Facts.{exact, given_each}
use Rattle.dt_model_laws.proofs.Placed.{site_names, same_fragments, brought_at}
use Rattle.dt_model_laws.proofs.Writes.{value_written}
use Rattle.dt_model_laws.proofs.Symbols.{value_of-landed, landed_distinct, value-with_symbols_merged, stands-with_symbols_merged, symbols-with_symbols_merged}
use Rattle.dt_model_laws.proofs.Turns.{there}

module _ (base object : Reading) (m : Meaning) (o : Overlay) (number local : Path → ℕ) (fixups : List (Name × Cell)) (numbers : List (Path × ℕ))
    (are : AreOf base object m o number local) (has : HasFixups object fixups) (sites : List Site) (defined : IsDefined m o sites)
    (joined : IsJoined m o sites number (number_in numbers)) where
  pub distinct : AreDistinct (site_names sites)
  distinct = subst AreDistinct (sym (same_fragments m o [] o.fragments sites defined.placed)) are.overlay.distinct

  pub brought : (p q : Path) → landing sites p ≡ Some q → IsBrought o p
  brought p q l = brought_at o sites p q (same_fragments m o [] o.fragments sites defined.placed) l

  pub source_brought : (p q : Path) → IsIn p (sources sites q) → IsBrought o p
  source_brought p q i = brought p q (landing_of sites p q distinct i)

  source_plain : (p q : Path) → IsIn p (sources sites q) → is_bookkeeping p ≡ false
  source_plain p q i = plain_brought o are.overlay p (source_brought p q i)

  -- no node lands among the bookkeeping nodes
  nothing_lands : (p q : Path) → is_bookkeeping q ≡ true → IsIn p (sources sites q) → stands_in object p ≡ true → ⊥
  nothing_lands p q book i s =
      let l = landing_of sites p q distinct i in
      true≢false (sym book ∙ defined.plain p q (sym (are.encoded.nodes p (source_plain p q i)) ∙ s) l)

  -- ---- the properties of `__symbols__`

  abbrev listed : List Property
  listed = properties_of (node_at object (codes "__symbols__" ∷ []))

  listed_value : (l : Name) → value_of listed l ≡ value_in object (codes "__symbols__" ∷ []) l
  listed_value l = step (node_at object (codes "__symbols__" ∷ []))
    where
      step : (y : Option Node) → value_of (properties_of y) l ≡ option_and_then (λ (c : Node). value_of c.properties l) y
      step None = refl
      step (Some n) = refl

  listed_distinct : AreDistinct (map (λ (p : Property). p.name) listed)
  listed_distinct = step (node_at object (codes "__symbols__" ∷ [])) refl
    where
      step : (y : Option Node) → node_at object (codes "__symbols__" ∷ []) ≡ y → AreDistinct (map (λ (p : Property). p.name) (properties_of y))
      step None e = tt
      step (Some n) e = (apart_below (codes "__symbols__" ∷ []) (root_of object) n (root_apart object are.valid_object) e).properties

  landed_apart : AreDistinct (map (λ (p : Property). p.name) (landed_symbols object sites listed))
  landed_apart = landed_distinct object sites listed listed_distinct

  -- ---- elsewhere

  abbrev merged_tree : Reading
  merged_tree = with_fragments base object (writes base object fixups numbers) numbers sites

  abbrev from : Name → Path → Option (List ℕ)
  from name p = option_map (written_value (writes base object fixups numbers) numbers p name) (value_in object p name)

  are_there : AreThere object (writes base object fixups numbers) numbers are.valid_object base sites
  are_there = there base object m o number local are (writes base object fixups numbers) numbers sites defined.placed

  value_at : (q : Path) (name : Name) → q ≢ codes "__symbols__" ∷ [] → value_in (applied_at base object fixups numbers sites) q name ≡ option_or (last_of (from name) (sources sites q)) (value_in base q name)
  value_at q name ne =
      value-with_symbols_merged (landed_symbols object sites listed) merged_tree landed_apart q name ne
      ∙ value-with_fragments object (writes base object fixups numbers) numbers are.valid_object sites base q name are_there

  stands_at : (q : Path) → q ≢ codes "__symbols__" ∷ [] → stands_in (applied_at base object fixups numbers sites) q ≡ list_any (stands_in object) (sources sites q) || stands_in base q
  stands_at q ne =
      stands-with_symbols_merged (landed_symbols object sites listed) merged_tree landed_apart q ne
      ∙ stands-with_fragments object (writes base object fixups numbers) numbers are.valid_object sites base q are_there

  plain_other : (q : Path) → is_bookkeeping q ≡ false → q ≢ codes "__symbols__" ∷ []
  plain_other q plain e = true≢false (ap is_bookkeeping (sym e) ∙ plain)

  -- ---- bookkeeping nodes

  no_value_lands : (q : Path) (name : Name) → is_bookkeeping q ≡ true → last_of (from name) (sources sites q) ≡ None
  no_value_lands q name book = last_none (from name) (sources sites q) none
    where
      none : (p : Path) → IsIn p (sources sites q) → from name p ≡ None
      none p i = step (value_in object p name) refl
        where
          step : (y : Option (List ℕ)) → value_in object p name ≡ y → option_map (written_value (writes base object fixups numbers) numbers p name) y ≡ None
          step None e = refl
          step (Some v) e = absurd (nothing_lands p q book i (value_stands object p name v e))

  no_node_lands : (q : Path) → is_bookkeeping q ≡ true → list_any (stands_in object) (sources sites q) ≡ false
  no_node_lands q book = step (list_any (stands_in object) (sources sites q)) refl
    where
      step : (b : Bool) → list_any (stands_in object) (sources sites q) ≡ b → b ≡ false
      step true e = let w = any_from (stands_in object) (sources sites q) e in absurd (nothing_lands w.0 q book w.1 w.2)
      step false e = refl

  pub keeps : KeepsBookkeeping base (applied_at base object fixups numbers sites)
  keeps = record {
    nodes = λ x p book ne. stands_at (x ∷ p) ne ∙ ap (λ b. b || stands_in base (x ∷ p)) (no_node_lands (x ∷ p) book);
    values = λ x p name book ne. value_at (x ∷ p) name ne ∙ ap (λ y. option_or y (value_in base (x ∷ p) name)) (no_value_lands (x ∷ p) name book);
  }

  pub symbols_are : (l : Name) → value_in (applied_at base object fixups numbers sites) (codes "__symbols__" ∷ []) l ≡ option_or (option_map path_value (option_and_then (landing sites) (o.label l))) (option_map path_value (m.label l))
  symbols_are l =
      symbols-with_symbols_merged (landed_symbols object sites listed) merged_tree landed_apart l
      ∙ ap (λ y. option_or y (value_in merged_tree (codes "__symbols__" ∷ []) l)) (value_of-landed object sites listed l listed_distinct
      ∙ ap (λ y. option_map path_value (option_and_then (landing sites) (option_and_then (node_named (nodes_of object)) y))) (listed_value l)
      ∙ ap (λ y. option_map path_value (option_and_then (landing sites) y)) (label_is object o local are.encoded are.overlay are.valid_object l))
      ∙ ap (option_or (option_map path_value (option_and_then (landing sites) (o.label l))))
      (value-with_fragments object (writes base object fixups numbers) numbers are.valid_object sites base (codes "__symbols__" ∷ []) l are_there
      ∙ ap (λ y. option_or y (value_in base (codes "__symbols__" ∷ []) l)) (no_value_lands (codes "__symbols__" ∷ []) l refl)
      ∙ are.represented.symbols l)

  -- ---- plain nodes

  pub nodes_are : (q : Path) → is_bookkeeping q ≡ false → stands_in (applied_at base object fixups numbers sites) q ≡ list_any o.stands (sources sites q) || m.stands q
  nodes_are q plain =
      stands_at q (plain_other q plain)
      ∙ ap (λ b. b || stands_in base q) (any_same (stands_in object) o.stands (sources sites q) (λ p i. are.encoded.nodes p (source_plain p q i)))
      ∙ ap (λ b. list_any o.stands (sources sites q) || b) (are.represented.nodes q plain)

  -- what lands of a property, with its cells written
  landed : (p : Path) (name : Name) → IsBrought o p → bytes_eq name (codes "phandle") ≡ false
      → from name p ≡ option_map (value_bytes (final_number m number (number_in numbers))) (o.value p name)
  landed p name b other =
      ap (λ c. option_map (λ v. if c then cell (unwrap_or (number_in numbers p) 0) else value_after_writes p name (writes base object fixups numbers) v) (value_in object p name)) other
      ∙ step (o.value p name) refl
    where
      step : (y : Option (List (Item OverlayReference))) → o.value p name ≡ y → option_map (value_after_writes p name (writes base object fixups numbers)) (value_in object p name) ≡ option_map (value_bytes (final_number m number (number_in numbers))) y
      step None e =
          ap (option_map (value_after_writes p name (writes base object fixups numbers)))
          (object_value_is object o local are.encoded are.overlay p name (plain_brought o are.overlay p b) other ∙ ap (option_map (value_bytes (object_number local))) e)
      step (Some items) e =
          value_written base object m o number local fixups numbers are.represented are.meaning are.plain are.valid_base are.encoded are.overlay are.valid_object
          (exact base object m o number local fixups are has) (given_each base object m o number local fixups sites are has defined) (λ r h. joined.some r h.1 h.0)
          p name items (plain_brought o are.overlay p b) (referred_inside o are.overlay p name items b e) e

  pub values_are : (q : Path) (name : Name) → is_bookkeeping q ≡ false → bytes_eq name (codes "phandle") ≡ false
      → value_in (applied_at base object fixups numbers sites) q name
      ≡ option_or (last_of (λ p. option_map (value_bytes (final_number m number (number_in numbers))) (o.value p name)) (sources sites q)) (option_map (value_bytes number) (m.value q name))
  values_are q name plain other =
      value_at q name (plain_other q plain)
      ∙ ap (λ y. option_or y (value_in base q name)) (last_same (from name) (λ p. option_map (value_bytes (final_number m number (number_in numbers))) (o.value p name)) (sources sites q) (λ p i. landed p name (source_brought p q i) other))
      ∙ ap (option_or (last_of (λ p. option_map (value_bytes (final_number m number (number_in numbers))) (o.value p name)) (sources sites q))) (base_value base m number are.represented are.meaning are.plain q name plain other)

  -- a phandle that lands is its node's new number
  landed_phandle : (p : Path) → IsBrought o p → from (codes "phandle") p ≡ option_map cell (number_in numbers p)
  landed_phandle p b =
      ap (option_map (λ _. cell (unwrap_or (number_in numbers p) 0))) (object_phandle object o local are.encoded are.overlay p (plain_brought o are.overlay p b))
      ∙ step (o.keyed p) refl (number_in numbers p) refl
    where
      step : (c : Bool) → o.keyed p ≡ c → (y : Option ℕ) → number_in numbers p ≡ y → option_map (λ _. cell (unwrap_or y 0)) (if c then Some (cell (local p)) else None) ≡ option_map cell y
      step true k (Some n) e = refl
      step true k None e =
          let x = joined.some p b k in
          absurd (let z : None ≡ Some x.0 = sym e ∙ x.1 in cc)
      step false k (Some n) e = absurd (true≢false (sym (joined.none p n e) ∙ k))
      step false k None e = refl

  pub phandles_are : (q : Path) → is_bookkeeping q ≡ false
      → value_in (applied_at base object fixups numbers sites) q (codes "phandle")
      ≡ option_or (last_of (λ p. option_map cell (number_in numbers p)) (sources sites q)) (if m.keyed q then Some (cell (number q)) else None)
  phandles_are q plain =
      value_at q (codes "phandle") (plain_other q plain)
      ∙ ap (λ y. option_or y (value_in base q (codes "phandle"))) (last_same (from (codes "phandle")) (λ p. option_map cell (number_in numbers p)) (sources sites q) (λ p i. landed_phandle p (source_brought p q i)))
      ∙ ap (option_or (last_of (λ p. option_map cell (number_in numbers p)) (sources sites q))) (base_phandle base m number are.represented are.meaning are.plain q plain)
