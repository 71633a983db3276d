-- The result of an application with joined numbers represents the merged meaning.
use Rattle.std.proofs.Common.{◌≡◌, ℕ, Bool, true, false, ◌||◌, List, [], ◌∷◌, ◌++◌, map, codes, refl, sym, ap, ◌∙◌, Option, Some, None, true≢false}
use Rattle.std.specs.Prelude.{unwrap_or, option_map, option_and_then, if◌then◌else◌}
use Rattle.std.specs.List.{list_any}
use Rattle.std.specs.Option.{option_or}
use Rattle.std.specs.Str.{bytes_eq}
use Rattle.dt_model.specs.Names.{Name}
use Rattle.dt_model.specs.Path.{Path, path_value, is_bookkeeping}
use Rattle.dt_model.specs.Lists.{IsIn, last_of}
use Rattle.dt_model.specs.Meaning.{Item, byte, reference, cell, value_bytes, item_renamed, EachReference, Meaning, IsNaming, instance_value}
use Rattle.dt_model.specs.Overlay.{OverlayReference, inside, outside, Overlay}
use Rattle.dt_model.specs.Merged.{Site, landing, sources, merged, meant, IsGiven, IsDefined}
use Rattle.dt_model.specs.Object.{Cell, HasFixups, properties_of}
use Rattle.dt_model_laws.proofs.Joined.{IsJoined, IsJoinedResult, JoiningIsMerging, number_after}
use Rattle.dt_model.specs.Numbers.{number_in}
use Rattle.dt_model.specs.Represents.{Represents}
use Rattle.dt_model.specs.Tree.{Reading, node_at, value_in}
use Rattle.dt_model.specs.Applied.{writes, with_fragments, landed_symbols, applied_at}
use Rattle.dt_model_laws.specs.Applying.{AreOf}
use Rattle.dt_model.proofs.Tests.{bytes_eq_true, any_from, any_here}
use Rattle.dt_model_laws.proofs.Lands.{landing_of, last_from, last_one, last_map}
use Rattle.dt_model_laws.proofs.Landing.{reservations_stay, boot_cpu_stays}
use Rattle.dt_model.proofs.Inside.{IsInside, final_number, each_more, each_both, referred_inside}
use Rattle.dt_model_laws.proofs.Naming.{Follows, naming_after, naming_extends, follows}
use Rattle.dt_model_laws.proofs.Placed.{lands_at}
use Rattle.dt_model_laws.proofs.Results.{distinct, brought, source_brought, keeps, symbols_are, nodes_are, values_are, phandles_are}
use Rattle.dt_model_laws.proofs.Symbols.{reservations-with_symbols_merged, boot_cpu-with_symbols_merged}

pub same_value : {R : Type 0} (f g : R → ℕ) (items : List (Item R)) → EachReference (λ r. f r ≡ g r) items → value_bytes f items ≡ value_bytes g items
same_value f g [] same = refl
same_value f g (byte b ∷ items) same = ap (λ bs. b ∷ bs) (same_value f g items same)
same_value f g (reference r ∷ items) same = ap (λ n. cell n ++ value_bytes f items) same.0 ∙ ap (λ bs. cell (g r) ++ bs) (same_value f g items same.1)

renamed_value : {R S : Type 0} (f : S → ℕ) (h : R → S) (items : List (Item R)) → value_bytes f (map (item_renamed h) items) ≡ value_bytes (λ r. f (h r)) items
renamed_value f h [] = refl
renamed_value f h (byte b ∷ items) = ap (λ bs. b ∷ bs) (renamed_value f h items)
renamed_value f h (reference r ∷ items) = ap (λ bs. cell (f (h r)) ++ bs) (renamed_value f h items)

module _ (base object : Reading) (m : Meaning) (o : Overlay) (number local : Path → ℕ) (fixups : List (Name × Cell)) (numbers : List (Path × ℕ))
    (are : AreOf base object m o number local) (has : HasFixups object fixups) (sites : List Site) (defined : IsDefined m o sites)
    (joined : IsJoined m o sites number (number_in numbers)) where
  -- the numbers after the application
  abbrev after : Path → ℕ
  after = number_after sites number (number_in numbers)

  inside_of : (p q : Path) → o.keyed p ≡ true → landing sites p ≡ Some q → IsInside o (inside p)
  inside_of p q h l = (h, brought base object m o number local fixups numbers are has sites defined joined p q l)

  naming : IsNaming (merged m o sites) after
  naming = naming_after m o sites number (number_in numbers) are.meaning are.represented.naming (distinct base object m o number local fixups numbers are has sites defined joined) joined inside_of

  pub follow : Follows m o sites number after (number_in numbers)
  follow = follows m o sites number (number_in numbers) are.meaning are.represented.naming (distinct base object m o number local fixups numbers are has sites defined joined) joined inside_of

  lands_on : (p q : Path) → IsIn p (sources sites q) → landing sites p ≡ Some q
  lands_on p q i = landing_of sites p q (distinct base object m o number local fixups numbers are has sites defined joined) i

  -- a reference that lands has the number of the node that it means
  reference_number : (r : OverlayReference) → IsInside o r → IsGiven m r → final_number m number (number_in numbers) r ≡ after (meant m sites r)
  reference_number (inside p) h given =
      let w = lands_at m o [] o.fragments sites h.1.0 h.1.1 defined.placed h.1.2 in
      let l : landing sites p ≡ Some w.0 = ap (landing sites) h.1.3 ∙ w.1 in
      ap (λ n. unwrap_or n 0) (follow.given p w.0 h.0 l) ∙ ap (λ q. after (unwrap_or q [])) (sym l)
  reference_number (outside l) h given = step (m.label l) refl
    where
      step : (x : Option Path) → m.label l ≡ x → number (unwrap_or (m.label l) []) ≡ after (unwrap_or (m.label l) [])
      step None e = absurd (true≢false (sym (rw e at given)))
      step (Some q) e = rw e (sym (follow.kept q (are.meaning.labelled l q e).1))

  -- a value that lands
  landed_value : (p q : Path) (name : Name) (items : List (Item OverlayReference)) → IsIn p (sources sites q) → o.value p name ≡ Some items
      → value_bytes (final_number m number (number_in numbers)) items ≡ value_bytes after (map (item_renamed (meant m sites)) items)
  landed_value p q name items i e =
      let refs = referred_inside o are.overlay p name items (source_brought base object m o number local fixups numbers are has sites defined joined p q i) e in
      same_value (final_number m number (number_in numbers)) (λ r. after (meant m sites r)) items
      (each_both (IsInside o) (IsGiven m) (λ r. final_number m number (number_in numbers) r ≡ after (meant m sites r)) items reference_number refs (defined.given p name items e))
      ∙ sym (renamed_value after (meant m sites) items)

  value_after : (q : Path) (name : Name) → is_bookkeeping q ≡ false → bytes_eq name (codes "phandle") ≡ false
      → value_in (applied_at base object fixups numbers sites) q name ≡ option_map (value_bytes after) ((merged m o sites).value q name)
  value_after q name plain other =
      values_are base object m o number local fixups numbers are has sites defined joined q name plain other
      ∙ ap (λ x. option_or x (option_map (value_bytes number) (m.value q name))) (last_map (value_bytes (final_number m number (number_in numbers))) (λ p. o.value p name) (sources sites q))
      ∙ step (last_of (λ p. o.value p name) (sources sites q)) refl (m.value q name) refl
    where
      step : (x : Option (List (Item OverlayReference))) → last_of (λ p. o.value p name) (sources sites q) ≡ x → (y : Option (List (Item Path))) → m.value q name ≡ y
          → option_or (option_map (value_bytes (final_number m number (number_in numbers))) x) (option_map (value_bytes number) y) ≡ option_map (value_bytes after) (option_or (option_map (map (item_renamed (meant m sites))) x) y)
      step None e None e' = refl
      step None e (Some items) e' =
          ap Some (same_value number after items (each_more (λ r. m.keyed r ≡ true) (λ r. number r ≡ after r) items (λ r k. sym (follow.kept r k)) (are.meaning.referred q name items e')))
      step (Some items) e y e' =
          let w = last_from (λ p. o.value p name) (sources sites q) items e in
          ap Some (landed_value w.0 q name items w.1 w.2)

  phandle_after : (q : Path) → is_bookkeeping q ≡ false → value_in (applied_at base object fixups numbers sites) q (codes "phandle") ≡ (if (merged m o sites).keyed q then Some (cell (after q)) else None)
  phandle_after q plain =
      phandles_are base object m o number local fixups numbers are has sites defined joined q plain
      ∙ ap (λ x. option_or x (if m.keyed q then Some (cell (number q)) else None)) (last_map cell (number_in numbers) (sources sites q))
      ∙ step (last_of (number_in numbers) (sources sites q)) refl (list_any o.keyed (sources sites q)) refl (m.keyed q) refl
    where
      landed_here : (b : Bool) → list_any o.keyed (sources sites q) ≡ b → (n : ℕ) → last_of (number_in numbers) (sources sites q) ≡ Some n → (b ≡ true) × (n ≡ after q)
      landed_here b any n e =
          let w = last_from (number_in numbers) (sources sites q) n e in
          let k = follow.none w.0 n w.2 in
          let g : Some n ≡ Some (after q) = sym w.2 ∙ follow.given w.0 q k (lands_on w.0 q w.1) in
          (sym any ∙ any_here o.keyed (sources sites q) w.0 w.1 k, cc)

      not_none : list_any o.keyed (sources sites q) ≡ true → last_of (number_in numbers) (sources sites q) ≡ None → ⊥
      not_none any e =
          let x = any_from o.keyed (sources sites q) any in
          let g = follow.given x.0 q x.2 (lands_on x.0 q x.1) in
          let one = last_one (number_in numbers) (sources sites q) x.0 (after q) x.1 g (λ p' z i e'. let same : Some z ≡ Some (after q) = sym e' ∙ follow.given p' q (follow.none p' z e') (lands_on p' q i) in cc) in
          let z : None ≡ Some (after q) = sym e ∙ one in
          cc

      step : (x : Option ℕ) → last_of (number_in numbers) (sources sites q) ≡ x → (b : Bool) → list_any o.keyed (sources sites q) ≡ b → (c : Bool) → m.keyed q ≡ c
          → option_or (option_map cell x) (if c then Some (cell (number q)) else None) ≡ (if b || c then Some (cell (after q)) else None)
      step (Some n) e b any c key = let w = landed_here b any n e in ap (λ k. Some (cell k)) w.1 ∙ ap (λ b'. if b' || c then Some (cell (after q)) else None) (sym w.0)
      step None e true any c key = absurd (not_none any e)
      step None e false any true key = ap (λ k. Some (cell k)) (sym (follow.kept q key))
      step None e false any false key = refl

  values_after : (q : Path) (name : Name) → is_bookkeeping q ≡ false → value_in (applied_at base object fixups numbers sites) q name ≡ instance_value (merged m o sites) after q name
  values_after q name plain = step (bytes_eq name (codes "phandle")) refl
    where
      step : (b : Bool) → bytes_eq name (codes "phandle") ≡ b
          → value_in (applied_at base object fixups numbers sites) q name ≡ (if b then (if (merged m o sites).keyed q then Some (cell (after q)) else None) else option_map (value_bytes after) ((merged m o sites).value q name))
      step true e = ap (value_in (applied_at base object fixups numbers sites) q) (bytes_eq_true name (codes "phandle") e) ∙ phandle_after q plain
      step false e = value_after q name plain e

  symbols_after : (l : Name) → value_in (applied_at base object fixups numbers sites) (codes "__symbols__" ∷ []) l ≡ option_map path_value ((merged m o sites).label l)
  symbols_after l = symbols_are base object m o number local fixups numbers are has sites defined joined l ∙ either (option_and_then (landing sites) (o.label l)) (m.label l)
    where
      either : (x y : Option Path) → option_or (option_map path_value x) (option_map path_value y) ≡ option_map path_value (option_or x y)
      either None y = refl
      either (Some p) y = refl

  represents_after : Represents (applied_at base object fixups numbers sites) (merged m o sites) after
  represents_after = record {
    naming = naming;
    reservations =
        reservations-with_symbols_merged (landed_symbols object sites (properties_of (node_at object (codes "__symbols__" ∷ [])))) (with_fragments base object (writes base object fixups numbers) numbers sites)
        ∙ reservations_stay object (writes base object fixups numbers) numbers are.valid_object sites base ∙ are.represented.reservations;
    nodes = nodes_are base object m o number local fixups numbers are has sites defined joined;
    values = values_after;
    symbols = symbols_after;
  }

  joined_result : IsJoinedResult base m o number numbers sites (applied_at base object fixups numbers sites)
  joined_result = record {
    represents = represents_after;
    extends = naming_extends m o sites number (number_in numbers) are.meaning are.represented.naming (distinct base object m o number local fixups numbers are has sites defined joined) joined inside_of;
    boot_cpu =
        boot_cpu-with_symbols_merged (landed_symbols object sites (properties_of (node_at object (codes "__symbols__" ∷ [])))) (with_fragments base object (writes base object fixups numbers) numbers sites)
        ∙ boot_cpu_stays object (writes base object fixups numbers) numbers are.valid_object sites base;
    bookkeeping = keeps base object m o number local fixups numbers are has sites defined joined;
  }

pub joining_is_merging : JoiningIsMerging
unfolding joined_result
joining_is_merging base object m o number local fixups numbers sites are has defined joined = joined_result base object m o number local fixups numbers are has sites defined joined
