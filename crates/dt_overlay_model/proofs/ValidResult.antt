-- The result of an application is a tree that a blob may hold, whoever wrote the two trees.
use Rattle.std.proofs.Common.{◌≡◌, ◌≢◌, ℕ, ◌<◌, ◌≤◌, ◌^◌, Bool, true, false, List, [], ◌∷◌, codes, refl, sym, ap, subst, ◌∙◌, inl, inr, Option, Some, None, true≢false}
use Rattle.std.specs.Prelude.{option_map, unwrap_or}
use Rattle.std.specs.Option.{option_or}
use Rattle.std.specs.List.{AllByRecursion, flat_map}
use Rattle.std.specs.Int.{w32, from_be_bytes}
use Rattle.std.proofs.lemmas.Nat.{from_be_bytes-to_be_bytes_4}
use Rattle.dt_model.specs.Names.{Name}
use Rattle.dt_model.specs.Path.{Path, path_eq, path_value, is_bookkeeping}
use Rattle.dt_model.specs.Lists.{IsIn, last_of}
use Rattle.dt_model.specs.Meaning.{cell}
use Rattle.dt_model.specs.Merged.{landing, sources}
use Rattle.dt_model.specs.Object.{Cell, fragment_names}
use Rattle.dt_model.specs.Numbers.{number_in}
use Rattle.dt_model.specs.Tree.{Reading, Placed, value_of, root_of, nodes_of, value_in}
use Rattle.dt_model.specs.Valid.{AreDistinct, IsValid, IsWithinLimits, IsReservation, IsPhandle}
use Rattle.dt_model.specs.Applied.{applied_at}
use Rattle.dt_model.proofs.Tests.{each_from, path_eq_true}
use Rattle.dt_model.proofs.Listed.{listed_in, value_is_listed, value_stands}
use Rattle.dt_model.proofs.Preorder.{paths_apart, phandle_list, all_phandles, own_phandle}
use Rattle.dt_model_laws.proofs.Lands.{landing_of, last_from}
use Rattle.dt_model_laws.proofs.KeptNames.{IsGoodNode}
use Rattle.dt_model_laws.proofs.GoodResult.{result_good}
use Rattle.dt_model_laws.proofs.Numbered.{small_number}
use Rattle.dt_overlay_model.specs.Walk.{Walked, nothing_walked, walk, new_numbers, may_land}
use Rattle.dt_overlay_model.proofs.Brought.{source_is_new}
use Rattle.dt_overlay_model.proofs.Lookups.{all, distinct, lands_plain, as_landed, value_at, symbol_at, reservations_are, boot_cpu_is}
use Rattle.dt_overlay_model.proofs.NewNumbers.{there_cases, given_range, given_unused, given_own, number_given}
use Rattle.dt_overlay_model.proofs.Phandles.{flat_from, flat_distinct, phandle_is}
use Rattle.dt_overlay_model.proofs.PlainLabels.{no_label_phandle}

-- each phandle of a node that isn't a bookkeeping node is the cell of its number
abbrev pub HasCells : Reading → Type 0
HasCells base = (q : Path) (v : List ℕ) → is_bookkeeping q ≡ false → value_in base q (codes "phandle") ≡ Some v → v ≡ cell (from_be_bytes w32 v)

module _ (base object : Reading) (fixups : List (Name × Cell)) (valid_base : IsValid base) (valid : IsValid object) (few_base : IsWithinLimits base) (few_object : IsWithinLimits object)
    (cells : HasCells base) (w : Walked) (ended : walk base object fixups nothing_walked (fragment_names object.children) ≡ Some w) (may : may_land base object fixups w.sites ≡ true) where
  abbrev result : Reading
  result = applied_at base object fixups (new_numbers base object w) w.sites

  -- a phandle of the result is the base's, or was given
  pub data From : Path → List ℕ → Type 0 where
    kept : {q : Path} {v : List ℕ} → value_in base q (codes "phandle") ≡ Some v → From q v
    given : {q : Path} {v : List ℕ} (n : ℕ) → number_in w.given q ≡ Some n → v ≡ cell n → From q v

  -- that of a node that lands
  pub landed_from : (p q : Path) (u v : List ℕ) → value_in object p (codes "phandle") ≡ Some u → landing w.sites p ≡ Some q → as_landed base object fixups valid_base valid w ended may (codes "phandle") p ≡ Some v
      → From q v
  landed_from p q u v e l h =
      let new = source_is_new object valid w.sites p q u (λ f i. subst (IsIn f) (all base object fixups valid_base valid w ended may).named i) e l in
      let n = number_given base object valid few_base few_object w (all base object fixups valid_base valid w ended may) p q new l in
      let z : Some (cell (unwrap_or (number_in (new_numbers base object w) p) 0)) ≡ Some v =
      sym (ap (option_map (λ _. cell (unwrap_or (number_in (new_numbers base object w) p) 0))) e) ∙ h in
      let is : v ≡ cell n.0 = (let s : cell (unwrap_or (number_in (new_numbers base object w) p) 0) ≡ v = cc in sym s ∙ ap (λ y. cell (unwrap_or y 0)) n.2) in
      elim (there_cases base w.given q n.0 n.1) [
        | inl k ↦
            let plain = lands_plain base object fixups valid_base valid w ended may p q (value_stands object p (codes "phandle") u e) l in
            kept (k.1 ∙ ap Some (cells q k.0 plain k.1 ∙ ap cell (sym k.2) ∙ sym is))
        | inr k ↦ given n.0 k.1 is
      ]

  other_from : (q : Path) (v : List ℕ) → q ≢ codes "__symbols__" ∷ [] → value_in result q (codes "phandle") ≡ Some v → From q v
  other_from q v ne h = step (last_of (as_landed base object fixups valid_base valid w ended may (codes "phandle")) (sources w.sites q)) refl
    where
      at : option_or (last_of (as_landed base object fixups valid_base valid w ended may (codes "phandle")) (sources w.sites q)) (value_in base q (codes "phandle")) ≡ Some v
      at = sym (value_at base object fixups valid_base valid w ended may q (codes "phandle") ne) ∙ h

      step : (y : Option (List ℕ)) → last_of (as_landed base object fixups valid_base valid w ended may (codes "phandle")) (sources w.sites q) ≡ y → From q v
      step None e = kept (sym (ap (λ y. option_or y (value_in base q (codes "phandle"))) e) ∙ at)
      step (Some x) e =
          let z : Some x ≡ Some v = sym (ap (λ y. option_or y (value_in base q (codes "phandle"))) e) ∙ at in
          let u = last_from (as_landed base object fixups valid_base valid w ended may (codes "phandle")) (sources w.sites q) x e in
          landed u.0 u.1 (u.2 ∙ z)
        where
          landed : (p : Path) → IsIn p (sources w.sites q) → as_landed base object fixups valid_base valid w ended may (codes "phandle") p ≡ Some v → From q v
          landed p i k = value (value_in object p (codes "phandle")) refl
            where
              value : (y : Option (List ℕ)) → value_in object p (codes "phandle") ≡ y → From q v
              value None c =
                  absurd (let z : None ≡ Some v = sym (ap (option_map (λ _. cell (unwrap_or (number_in (new_numbers base object w) p) 0))) c) ∙ k in cc)
              value (Some u) c = landed_from p q u v c (landing_of w.sites p q (distinct base object fixups valid_base valid w ended may) i) k

  comes_from : (q : Path) (v : List ℕ) → value_in result q (codes "phandle") ≡ Some v → From q v
  comes_from q v h = step (path_eq q (codes "__symbols__" ∷ [])) refl
    where
      step : (b : Bool) → path_eq q (codes "__symbols__" ∷ []) ≡ b → From q v
      step true e =
          let same : q ≡ codes "__symbols__" ∷ [] = path_eq_true q (codes "__symbols__" ∷ []) e in
          kept (ap (λ p. value_in base p (codes "phandle")) same
          ∙ sym (ap (λ y. option_or (option_map path_value y) (value_in base (codes "__symbols__" ∷ []) (codes "phandle"))) (no_label_phandle object w.sites valid))
          ∙ sym (symbol_at base object fixups valid_base valid w ended may (codes "phandle"))
          ∙ ap (λ (p : Path). value_in result p (codes "phandle")) (sym same) ∙ h)
      step false e = other_from q v (λ same. true≢false (sym (ap (λ p. path_eq p (codes "__symbols__" ∷ [])) same) ∙ e)) h

  number_back : (q : Path) (n : ℕ) → number_in w.given q ≡ Some n → from_be_bytes w32 (cell n) ≡ n
  number_back q n e =
      from_be_bytes-to_be_bytes_4 n (small_number n (given_range base object valid few_base few_object w (all base object fixups valid_base valid w ended may) q n e).1)

  pub is_phandle : (q : Path) (v : List ℕ) → From q v → IsPhandle v
  is_phandle q v (kept h) = phandle_is base valid_base q v h
  is_phandle q v (given n e is) =
      let r = given_range base object valid few_base few_object w (all base object fixups valid_base valid w ended may) q n e in
      subst IsPhandle (sym is) (record { four = refl; low = subst (λ k. 1 ≤ k) (sym (number_back q n e)) r.0; high = subst (λ k. k ≤ 0xfffffffe) (sym (number_back q n e)) r.1 })

  pub one_path : (q r : Path) (v : List ℕ) → From q v → From r v → q ≡ r
  one_path q r v (kept h) (kept k) = own_phandle base q r v valid_base h k
  one_path q r v (kept h) (given n e is) = absurd (given_unused base object valid few_base few_object w (all base object fixups valid_base valid w ended may) r q n e (h ∙ ap Some is))
  one_path q r v (given n e is) (kept k) = absurd (given_unused base object valid few_base few_object w (all base object fixups valid_base valid w ended may) q r n e (k ∙ ap Some is))
  one_path q r v (given n e is) (given n' e' is') =
      let same : n ≡ n' = sym (number_back q n e) ∙ ap (from_be_bytes w32) (sym is ∙ is') ∙ number_back r n' e' in
      given_own base object valid few_base few_object w (all base object fixups valid_base valid w ended may) q r n e (e' ∙ ap Some (sym same))

  good : IsGoodNode (root_of result)
  good = result_good base object fixups (new_numbers base object w) w.sites valid_base valid

  listed_from : (n : Placed) (v : List ℕ) → IsIn n (nodes_of result) → value_of n.properties (codes "phandle") ≡ Some v → From n.path v
  listed_from n v i h = comes_from n.path v (value_is_listed result n (codes "phandle") (listed_in result n good.children.nodes good.children.distinct i) ∙ h)

  pub valid_result : IsValid (applied_at base object fixups (new_numbers base object w) w.sites)
  valid_result = record {
    boot_cpu = subst (λ n. n < 2 ^ 32) (sym (boot_cpu_is base object fixups valid_base valid w ended may)) valid_base.boot_cpu;
    reservations = subst (AllByRecursion IsReservation) (sym (reservations_are base object fixups valid_base valid w ended may)) valid_base.reservations;
    properties = good.properties;
    nodes = good.children.nodes;
    siblings = good.children.distinct;
    phandles_valid =
        subst (AllByRecursion IsPhandle) (all_phandles result)
        (each_from IsPhandle (flat_map phandle_list (nodes_of result)) (λ v i. let u = flat_from (nodes_of result) v i in is_phandle u.0.path v (listed_from u.0 v u.1 u.2)));
    phandles_distinct =
        subst AreDistinct (all_phandles result)
        (flat_distinct (nodes_of result) (paths_apart result good.children.nodes good.children.distinct) (λ n n' v i i' h h'. one_path n.path n'.path v (listed_from n v i h) (listed_from n' v i' h')));
  }
