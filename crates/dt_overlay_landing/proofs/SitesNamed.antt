-- The node of the tree so far that a path's text names.
use Rattle.std.proofs.Common.{◌≡◌, ◌≤◌, ◌<◌, ℕ, Bool, true, false, ◌||◌, List, [], ◌∷◌, length, Option, Some, None, refl, sym, ap, subst, ◌∙◌, ◌⊎◌, inl, inr, true≢false, arith}
use Rattle.std.specs.Prelude.{is_some, if◌then◌else◌}
use Rattle.std.specs.Option.{option_or}
use Rattle.std.specs.Str.{bytes_eq}
use Rattle.std.specs.List.{AllByRecursion}
use Rattle.dt_model.specs.Limits.{most_names}
use Rattle.dt_model.specs.Names.{IsNodeName}
use Rattle.dt_model.specs.Path.{Path, path_value}
use Rattle.dt_model.specs.Lists.{IsIn}
use Rattle.dt_model.specs.Tree.{Reading, Placed, nodes_of, stands_in}
use Rattle.dt_model.specs.Valid.{IsValid, IsWithinLimits}
use Rattle.dt_model.specs.Merged.{Site, landing}
use Rattle.dt_model.specs.Applied.{node_named, landed_named}
use Rattle.dt_names.specs.declared.fault.FaultKind.{FaultKind}
use Rattle.dt_names.specs.declared.fault.FaultKind.TheVariants.{NoMemory, Limit, BadSymbol}
use Rattle.dt_overlay_texts.specs.Texts.{IsPathValue, WhyNoSymbolPath}
use Rattle.dt_model.proofs.Tests.{or_cases}
use Rattle.dt_model.proofs.Texts.{one_value}
use Rattle.dt_model.proofs.Listed.{stands_listed, listed_stands}
use Rattle.dt_model.proofs.Finding.{node_of_text, landed_named_from, landed_named_some}
use Rattle.dt_overlay_laws.proofs.PlainSymbols.{named_text}
use Rattle.dt_model.proofs.Depths.{within_depth}
use Rattle.dt_overlay_base.specs.Known.{Known, kept_at, IsKnown, landed_paths}
use Rattle.dt_overlay_landing.specs.Turns.{AreLandings}
use Rattle.dt_overlay_base.proofs.LooksNames.{stands_named}

-- one of two
pub either_some : {A : Type 0} (a b : Option A) (x : A) → option_or a b ≡ Some x → (a ≡ Some x) ⊎ (b ≡ Some x)
either_some None b x e = inr e
either_some (Some y) b x e = inl e

first_some : {A : Type 0} (a b : Option A) (x : A) → a ≡ Some x → (y : A) × (option_or a b ≡ Some y)
first_some None b x e = absurd cc
first_some (Some y) b x e = (y, refl)

second_some : {A : Type 0} (a b : Option A) (x : A) → b ≡ Some x → (y : A) × (option_or a b ≡ Some y)
second_some None b x e = (x, e)
second_some (Some y) b x e = (y, refl)

named_listed : (nodes : List Placed) (value : List ℕ) (q : Path) → node_named nodes value ≡ Some q → (x : Placed) × IsIn x nodes × (x.path ≡ q)
named_listed [] value q h = absurd (let z : None ≡ Some q = h in cc)
named_listed (x ∷ nodes) value q h = step (named_listed nodes value q) (bytes_eq (path_value x.path) value) h
  where
    step : (node_named nodes value ≡ Some q → (y : Placed) × IsIn y nodes × (y.path ≡ q)) → (b : Bool) → (if b then Some x.path else node_named nodes value) ≡ Some q
        → (y : Placed) × IsIn y (x ∷ nodes) × (y.path ≡ q)
    step more true e = (x, inl refl, (let z : Some x.path ≡ Some q = e in cc))
    step more false e = let w = more e in (w.0, inr w.1, w.2)

module _ (base object : Reading) (valid_base : IsValid base) (valid : IsValid object) (within_base : IsWithinLimits base) (given : List (Path × ℕ)) (sites : List Site) (a : Known)
    (known : IsKnown base given (landed_paths object sites) a) (landings : AreLandings object sites) (value : List ℕ) where
  abbrev pub named : Option Path
  named = option_or (node_named (nodes_of base) value) (landed_named (nodes_of object) sites value)

  -- the path stands in the base, or something has landed there
  abbrev pub Stands : Path → Type 0
  Stands r = (stands_in base r ≡ true) ⊎ IsIn r (landed_paths object sites)

  -- what is named stands, and is named by its text
  named_is : (r : Path) → named ≡ Some r → Stands r × (path_value r ≡ value)
  named_is r e = elim (either_some (node_named (nodes_of base) value) (landed_named (nodes_of object) sites value) r e) [
    | inl of_base ↦ let w = named_listed (nodes_of base) value r of_base in (inl (ap (stands_in base) (sym w.2) ∙ listed_stands base w.0 valid_base w.1), named_text (nodes_of base) value r of_base)
    | inr landed ↦ let w = landed_named_from (nodes_of object) sites value r landed in (inr (landings.complete w.0.path r (listed_stands object w.0 valid w.1) w.2), w.3)
  ]

  stands_good : (r : Path) → Stands r → AllByRecursion IsNodeName r × (length r ≤ most_names)
  stands_good r (inl h) = (stands_named base r valid_base h, within_depth base r within_base h)
  stands_good r (inr i) = landings.good r i

  -- a text names one path
  one_path : (p r : Path) → IsPathValue value p → Stands r → path_value r ≡ value → r ≡ p
  one_path p r h there text = one_value r p (stands_good r there).0 h.named (text ∙ h.text)

  base_some : (p : Path) → IsPathValue value p → stands_in base p ≡ true → (r : Path) × (named ≡ Some r)
  base_some p h there =
      first_some (node_named (nodes_of base) value) (landed_named (nodes_of object) sites value) p (ap (node_named (nodes_of base)) h.text ∙ node_of_text base p valid_base there)

  named_some : (p : Path) → IsPathValue value p → Stands p → (r : Path) × (named ≡ Some r)
  named_some p h (inl there) = base_some p h there
  named_some p h (inr there) =
      let w = landings.sound p there in
      let n = stands_listed object w.0 w.1 in
      let landed = landed_named_some (nodes_of object) sites value n.0 p n.1 (ap (landing sites) n.2 ∙ w.2) (sym h.text) in
      second_some (node_named (nodes_of base) value) (landed_named (nodes_of object) sites value) landed.0 landed.1

  -- what is kept of a path tells whether it stands
  kept_stands : (p : Path) → AllByRecursion IsNodeName p → stands_in base p || is_some (kept_at a.landed p) ≡ true → Stands p
  kept_stands p good either = elim (or_cases (stands_in base p) (is_some (kept_at a.landed p)) either) [
    | inl of_base ↦ inl of_base
    | inr kept ↦ inr ((known.places p good).0 kept)
  ]

  -- a path that stands is found by its text
  pub named_found : (p : Path) → IsPathValue value p → stands_in base p || is_some (kept_at a.landed p) ≡ true → Some p ≡ named
  named_found p h either =
      let there : Stands p = kept_stands p h.named either in
      let w = named_some p h there in
      let is = named_is w.0 w.1 in
      sym (w.1 ∙ ap (λ r. Some r) (one_path p w.0 h is.0 is.1))

  -- nothing else is
  named_none : ((r : Path) → IsPathValue value r → length r ≤ most_names → Stands r → ⊥) → None ≡ named
  named_none never = step named refl
    where
      step : (y : Option Path) → named ≡ y → None ≡ named
      step None e = sym e
      step (Some r) e =
          let is = named_is r e in
          let good = stands_good r is.0 in
          absurd (never r (record { text = sym is.1; named = good.0 }) good.1 is.0)

  pub named_missed : (p : Path) → IsPathValue value p → stands_in base p || is_some (kept_at a.landed p) ≡ false → None ≡ named
  named_missed p h neither = named_none never
    where
      kept_of : Stands p → (stands_in base p ≡ true) ⊎ (is_some (kept_at a.landed p) ≡ true)
      kept_of (inl there) = inl there
      kept_of (inr there) = inr ((known.places p h.named).1 there)

      both : (a b : Bool) → a || b ≡ false → (a ≡ true) ⊎ (b ≡ true) → ⊥
      both true b e k = true≢false e
      both false b e (inl k) = true≢false (sym k)
      both false b e (inr k) = true≢false (sym k ∙ e)

      never : (r : Path) → IsPathValue value r → length r ≤ most_names → Stands r → ⊥
      never r k few there =
          let same : r ≡ p = one_path p r h there (sym k.text) in
          both (stands_in base p) (is_some (kept_at a.landed p)) neither (kept_of (subst Stands same there))

  pub named_refused : (kind : FaultKind) → WhyNoSymbolPath kind value → (kind ≡ NoMemory → ⊥) → None ≡ named
  named_refused NoMemory why other = absurd (other refl)
  named_refused Limit why other = named_none never
    where
      never : (r : Path) → IsPathValue value r → length r ≤ most_names → Stands r → ⊥
      never r k few there =
          let same : r ≡ why.0 = one_path why.0 r why.1 there (sym k.text) in
          let long : most_names < length r = subst (λ (p : Path). most_names < length p) (sym same) why.2 in
          omega (arith, long, few)
  named_refused BadSymbol why other = named_none (λ r k few there. why r k)
  named_refused _ why other = absurd why
