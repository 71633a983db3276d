-- What is found after an application, for the law.
use Rattle.std.proofs.Common.{◌≡◌, ◌⊎◌, ℕ, Bool, true, false, ◌||◌, List, [], ◌∷◌, refl, sym, ap, ◌∙◌, subst, inl, inr, Option, Some, None, true≢false}
use Rattle.std.specs.Prelude.{option_map, option_and_then, if◌then◌else◌}
use Rattle.std.specs.List.{list_any}
use Rattle.std.specs.Option.{option_or}
use Rattle.dt_model.specs.Names.{Name}
use Rattle.dt_model.specs.Path.{Path, path_value}
use Rattle.dt_model.specs.Merged.{landing, sources}
use Rattle.dt_model.specs.Object.{Cell, fragment_names}
use Rattle.dt_model.specs.Tree.{Property, Reading, nodes_of, value_of, stands_in, value_in}
use Rattle.dt_model.specs.Valid.{IsValid}
use Rattle.dt_model.specs.Applied.{writes, node_named, with_fragments, with_symbols_merged, landed_symbols, applied_at}
use Rattle.dt_model.proofs.Tests.{or_cases, any_from, any_here, bytes_eq_refl}
use Rattle.dt_model.proofs.Listed.{value_stands}
use Rattle.dt_model_laws.proofs.Landing.{stands-with_fragments}
use Rattle.dt_model_laws.proofs.Lands.{source_of, landing_of}
use Rattle.dt_model_laws.proofs.Symbols.{value_of-landed}
use Rattle.dt_overlay_model.specs.Found.{label_lands, symbols_path, IsFound, AppliedIsFound}
use Rattle.dt_overlay_model.specs.Walk.{Walked, nothing_walked, walk, new_numbers, may_land, applied_by}
use Rattle.dt_overlay_model.proofs.Lookups.{distinct, lands_plain, are_there, listed, listed_value, listed_distinct, value_at, stands_at, symbol_at, reservations_are, boot_cpu_is}

module _ (base object : Reading) (fixups : List (Name × Cell)) (valid_base : IsValid base) (valid : IsValid object) (w : Walked)
    (ended : walk base object fixups nothing_walked (fragment_names object.children) ≡ Some w) (may : may_land base object fixups w.sites ≡ true) where
  abbrev tree : Reading
  tree = applied_at base object fixups (new_numbers base object w) w.sites

  abbrev Lands : Path → Type 0
  Lands q = (p : Path) × (stands_in object p ≡ true) × (landing w.sites p ≡ Some q)

  -- where something lands, a path of the object leads there, and the other way round
  landed : (q : Path) → list_any (stands_in object) (sources w.sites q) || stands_in base q ≡ true → (stands_in base q ≡ true) ⊎ Lands q
  landed q h = elim (or_cases (list_any (stands_in object) (sources w.sites q)) (stands_in base q) h) [
    | inl some ↦
        let v = any_from (stands_in object) (sources w.sites q) some in
        inr (v.0, v.2, landing_of w.sites v.0 q (distinct base object fixups valid_base valid w ended may) v.1)
    | inr of_base ↦ inl of_base
  ]

  there : (q : Path) → (stands_in base q ≡ true) ⊎ Lands q → list_any (stands_in object) (sources w.sites q) || stands_in base q ≡ true
  there q (inl of_base) = right (list_any (stands_in object) (sources w.sites q)) (stands_in base q) of_base
    where
      right : (a b : Bool) → b ≡ true → a || b ≡ true
      right true b e = refl
      right false b e = e
  there q (inr v) = ap (λ (b : Bool). b || stands_in base q) (any_here (stands_in object) (sources w.sites q) v.0 (source_of w.sites v.0 q v.2) v.1)

  -- a label that lands
  label_found : (l : Name) (q : Path) → label_lands object w.sites l ≡ Some q → stands_in tree symbols_path ≡ true
  label_found l q e =
      value_stands tree symbols_path l (path_value q)
      (symbol_at base object fixups valid_base valid w ended may l ∙ ap (λ (o : Option Path). option_or (option_map path_value o) (value_in base symbols_path l)) e)

  -- none does
  no_labels : (ps : List Property) → landed_symbols object w.sites (listed base object fixups valid_base valid w ended may) ≡ ps → stands_in tree symbols_path ≡ true
      → (stands_in base symbols_path ≡ true) ⊎ ((l : Name) × (q : Path) × (label_lands object w.sites l ≡ Some q))
  no_labels [] e h =
      let bare = with_fragments base object (writes base object fixups (new_numbers base object w)) (new_numbers base object w) w.sites in
      let before : stands_in bare symbols_path ≡ true = ap (λ (ps : List Property). stands_in (with_symbols_merged ps bare) symbols_path) (sym e) ∙ h in
      elim (landed symbols_path (sym (stands-with_fragments object (writes base object fixups (new_numbers base object w)) (new_numbers base object w) valid w.sites base symbols_path (are_there base object fixups valid_base valid w ended may)) ∙ before)) [
        | inl of_base ↦ inl of_base
        | inr v ↦ absurd (true≢false (lands_plain base object fixups valid_base valid w ended may v.0 symbols_path v.1 v.2))
      ]
  no_labels (p ∷ ps) e h =
      let value : value_of (landed_symbols object w.sites (listed base object fixups valid_base valid w ended may)) p.name ≡ Some p.value =
      ap (λ (qs : List Property). value_of qs p.name) e ∙ ap (λ (b : Bool). if b then Some p.value else value_of ps p.name) (bytes_eq_refl p.name) in
      let is : option_map path_value (label_lands object w.sites p.name) ≡ Some p.value =
      ap (λ (y : Option (List ℕ)). option_map path_value (option_and_then (landing w.sites) (option_and_then (node_named (nodes_of object)) y))) (sym (listed_value base object fixups valid_base valid w ended may p.name))
      ∙ sym (value_of-landed object w.sites (listed base object fixups valid_base valid w ended may) p.name (listed_distinct base object fixups valid_base valid w ended may)) ∙ value in
      let v = some (label_lands object w.sites p.name) p.value is in
      inr (p.name, v.0, v.1)
    where
      some : (o : Option Path) (v : List ℕ) → option_map path_value o ≡ Some v → (q : Path) × (o ≡ Some q)
      some None v k = absurd (let z : None ≡ Some v = k in cc)
      some (Some q) v k = (q, refl)

  pub is_found : IsFound base object fixups w tree
  is_found = record {
    stands = λ q other. (
      (λ h. landed q (sym (stands_at base object fixups valid_base valid w ended may q other) ∙ h)),
      (λ h. stands_at base object fixups valid_base valid w ended may q other ∙ there q h),
    );
    labels = (
      no_labels (landed_symbols object w.sites (listed base object fixups valid_base valid w ended may)) refl,
      by,
    );
    values = λ q name other. value_at base object fixups valid_base valid w ended may q name other;
    symbols = λ l. symbol_at base object fixups valid_base valid w ended may l;
    reservations = reservations_are base object fixups valid_base valid w ended may;
    boot_cpu = boot_cpu_is base object fixups valid_base valid w ended may;
  }
    where
      by : (stands_in base symbols_path ≡ true) ⊎ ((l : Name) × (q : Path) × (label_lands object w.sites l ≡ Some q)) → stands_in tree symbols_path ≡ true
      by (inr v) = label_found v.0 v.1 v.2
      by (inl of_base) = step (landed_symbols object w.sites (listed base object fixups valid_base valid w ended may)) refl
        where
          step : (ps : List Property) → landed_symbols object w.sites (listed base object fixups valid_base valid w ended may) ≡ ps → stands_in tree symbols_path ≡ true
          step [] e =
              let bare = with_fragments base object (writes base object fixups (new_numbers base object w)) (new_numbers base object w) w.sites in
              ap (λ (ps : List Property). stands_in (with_symbols_merged ps bare) symbols_path) e
              ∙ stands-with_fragments object (writes base object fixups (new_numbers base object w)) (new_numbers base object w) valid w.sites base symbols_path (are_there base object fixups valid_base valid w ended may)
              ∙ there symbols_path (inl of_base)
          step (p ∷ ps) e =
              let value : value_of (landed_symbols object w.sites (listed base object fixups valid_base valid w ended may)) p.name ≡ Some p.value =
              ap (λ (qs : List Property). value_of qs p.name) e ∙ ap (λ (b : Bool). if b then Some p.value else value_of ps p.name) (bytes_eq_refl p.name) in
              let is : option_map path_value (label_lands object w.sites p.name) ≡ Some p.value =
              ap (λ (y : Option (List ℕ)). option_map path_value (option_and_then (landing w.sites) (option_and_then (node_named (nodes_of object)) y))) (sym (listed_value base object fixups valid_base valid w ended may p.name))
              ∙ sym (value_of-landed object w.sites (listed base object fixups valid_base valid w ended may) p.name (listed_distinct base object fixups valid_base valid w ended may)) ∙ value in
              value_stands tree symbols_path p.name p.value
              (symbol_at base object fixups valid_base valid w ended may p.name ∙ ap (λ (o : Option (List ℕ)). option_or o (value_in base symbols_path p.name)) is)

pub applied_is_found : AppliedIsFound
applied_is_found base object t h valid_base valid = step (walk base object h.fixups nothing_walked (fragment_names object.children)) refl h.is
  where
    step : (y : Option Walked) → walk base object h.fixups nothing_walked (fragment_names object.children) ≡ y → option_and_then (applied_by base object h.fixups) y ≡ Some t
        → (w : Walked) × (walk base object h.fixups nothing_walked (fragment_names object.children) ≡ Some w) × IsFound base object h.fixups w t
    step None e k = absurd (let z : ◌≡◌ {A = Option Reading} None (Some t) = k in cc)
    step (Some w) e k = (w, e, inner (may_land base object h.fixups w.sites) refl k)
      where
        inner : (b : Bool) → may_land base object h.fixups w.sites ≡ b
            → (if b then Some (applied_at base object h.fixups (new_numbers base object w) w.sites) else None) ≡ Some t → IsFound base object h.fixups w t
        inner false not_so j = absurd (let z : ◌≡◌ {A = Option Reading} None (Some t) = j in cc)
        inner true yes' j =
            let same : applied_at base object h.fixups (new_numbers base object w) w.sites ≡ t = let z : ◌≡◌ {A = Option Reading} (Some (applied_at base object h.fixups (new_numbers base object w) w.sites)) (Some t) = j in cc in
            subst (IsFound base object h.fixups w) same (is_found base object h.fixups valid_base valid w e yes')
