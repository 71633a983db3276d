-- An object is looked at in one order: what it has passed, and where it stops.
use Rattle.std.proofs.Common.{◌≡◌, ◌≢◌, ℕ, List, [], ◌∷◌, ◌++◌, codes, refl, sym, ap, subst, ◌∙◌, ◌⊎◌, inl, inr, Some, None}
use Rattle.std.specs.Prelude.{option_and_then}
use Rattle.std.specs.List.{AllByRecursion}
use Rattle.dt_model.specs.Names.{Name}
use Rattle.dt_model.specs.Object.{Cell, fragment_names, properties_of}
use Rattle.dt_model.specs.Tree.{Property, Reading, node_at, nodes_of, value_in}
use Rattle.dt_model.specs.Applied.{node_named}
use Rattle.dt_names.specs.declared.fault.FaultKind.{FaultKind}
use Rattle.dt_names.specs.declared.fault.FaultKind.TheVariants.{NoMemory, Limit, NoSymbol, BadSymbol, NoTarget, BadFixup, BadLocalFixup, NoFragmentTarget, ReservedPlace}
use Rattle.dt_model.proofs.Tests.{each_in}
use Rattle.dt_model_laws.proofs.CellTexts.{one_fixups}
use Rattle.dt_overlay_model.specs.Walk.{nothing_walked}
use Rattle.dt_overlay_laws.specs.Landings.{HasNoSite}
use Rattle.dt_overlay_laws.specs.Objects.{HasTarget, HaveTargets, SymbolHasNumber, AreCellsOf, IsFixup, AreFixedUp, AreMirrors, IsSymbol, AreSymbols, fixups_in, symbols_in, IsWellFormed}
use Rattle.dt_overlay_laws.specs.Refusals.{HasNoTarget, WhyNoFixup, HasNoFixup, HasNoMirror, HasNoSymbol, HasNoSites, IsCrowded, WhyNotApplied}
use Rattle.dt_overlay_laws.proofs.Sited.{none_one}

-- ---- the first property of `__fixups__` that gets no numbers

-- a label that has a number has a symbol
symbol_there : (base : Reading) (l : Name) (n : ℕ) → SymbolHasNumber base l n → value_in base (codes "__symbols__" ∷ []) l ≡ None → ⊥
symbol_there base l n h none =
    let z : None ≡ Some h.0 = sym (ap (option_and_then (node_named (nodes_of base))) none) ∙ h.1 in
    cc

module _ (base object : Reading) where
  abbrev Lists : Property → Type 0
  Lists x = (cells : List Cell) × AreCellsOf object x.value cells

  abbrev HasSymbol : Property → Type 0
  HasSymbol x = value_in base (codes "__symbols__" ∷ []) x.name ≢ None

  abbrev IsUnlisted : FaultKind → Property → Type 0
  IsUnlisted k x = (k ≡ BadFixup) × ((cells : List Cell) → AreCellsOf object x.value cells → ⊥)

  abbrev IsUnnamed : FaultKind → Property → Type 0
  IsUnnamed k x = (k ≡ NoSymbol) × Lists x × (value_in base (codes "__symbols__" ∷ []) x.name ≡ None)

  abbrev IsUnnumbered : FaultKind → Property → Type 0
  IsUnnumbered k x = (k ≡ BadSymbol) × Lists x × HasSymbol x × ((n : ℕ) → SymbolHasNumber base x.name n → ⊥)

  why_is : (k : FaultKind) (x : Property) → WhyNoFixup k base object x → IsUnlisted k x ⊎ (IsUnnamed k x ⊎ IsUnnumbered k x)
  why_is BadFixup x h = inl (refl, h)
  why_is NoSymbol x h = inr (inl (refl, h.0, h.1))
  why_is BadSymbol x h = inr (inr (refl, h.0, h.1, h.2))
  why_is _ x h = absurd h

  why_not : (k : FaultKind) (x : Property) → WhyNoFixup k base object x → IsFixup base object x → ⊥
  why_not k x h fixup = elim (why_is k x h) [
    | inl u ↦ u.1 fixup.cells fixup.listed
    | inr o ↦ elim o [
      | inl u ↦ symbol_there base x.name fixup.number fixup.numbered u.2
      | inr u ↦ u.3 fixup.number fixup.numbered
    ]
  ]

  why_one : (k k' : FaultKind) (x : Property) → WhyNoFixup k base object x → WhyNoFixup k' base object x → k ≡ k'
  why_one k k' x h h' = elim (why_is k x h) [
    | inl u ↦ elim (why_is k' x h') [
      | inl u' ↦ u.0 ∙ sym u'.0
      | inr o' ↦ elim o' [ inl u' ↦ absurd (u.1 u'.1.0 u'.1.1) | inr u' ↦ absurd (u.1 u'.1.0 u'.1.1) ]
    ]
    | inr o ↦ elim o [
      | inl u ↦ elim (why_is k' x h') [
        | inl u' ↦ absurd (u'.1 u.1.0 u.1.1)
        | inr o' ↦ elim o' [ inl u' ↦ u.0 ∙ sym u'.0 | inr u' ↦ absurd (u'.2 u.2) ]
      ]
      | inr u ↦ elim (why_is k' x h') [
        | inl u' ↦ absurd (u'.1 u.1.0 u.1.1)
        | inr o' ↦ elim o' [ inl u' ↦ absurd (u.2 u'.2) | inr u' ↦ u.0 ∙ sym u'.0 ]
      ]
    ]
  ]

  abbrev AllFixups : List Property → Type 0
  AllFixups xs = AllByRecursion (IsFixup base object) xs

  -- the first of these properties that gets no numbers
  abbrev Unfixed : FaultKind → List Property → Type 0
  Unfixed k [] = ⊥
  Unfixed k (x ∷ xs) = WhyNoFixup k base object x ⊎ (IsFixup base object x × Unfixed k xs)

  unfixed_not : (k : FaultKind) (xs : List Property) → Unfixed k xs → AllFixups xs → ⊥
  unfixed_not k [] h all = h
  unfixed_not k (x ∷ xs) (inl why) all = why_not k x why all.0
  unfixed_not k (x ∷ xs) (inr h) all = unfixed_not k xs h.1 all.1

  unfixed_one : (k k' : FaultKind) (xs : List Property) → Unfixed k xs → Unfixed k' xs → k ≡ k'
  unfixed_one k k' [] h h' = absurd h
  unfixed_one k k' (x ∷ xs) (inl why) (inl why') = why_one k k' x why why'
  unfixed_one k k' (x ∷ xs) (inl why) (inr h') = absurd (why_not k x why h'.0)
  unfixed_one k k' (x ∷ xs) (inr h) (inl why') = absurd (why_not k' x why' h.0)
  unfixed_one k k' (x ∷ xs) (inr h) (inr h') = unfixed_one k k' xs h.1 h'.1

  unfixed_from : (k : FaultKind) (front : List Property) (x : Property) (back : List Property) → AllFixups front → WhyNoFixup k base object x → Unfixed k (front ++ x ∷ back)
  unfixed_from k [] x back all why = inl why
  unfixed_from k (y ∷ front) x back all why = inr (all.0, unfixed_from k front x back all.1 why)

  unfixed_of : (k : FaultKind) → HasNoFixup k base object → Unfixed k (fixups_in object)
  unfixed_of k h = subst (Unfixed k) (sym h.are) (unfixed_from k h.front h.property h.back h.well h.why)

  -- ---- the stages, the last first

  abbrev pub AtSymbols : FaultKind → Type 0
  AtSymbols k = ((k ≡ BadSymbol) × HasNoSymbol object) ⊎ HasNoSites k base object

  abbrev pub AtMirrors : FaultKind → Type 0
  AtMirrors k = ((k ≡ BadLocalFixup) × HasNoMirror object) ⊎ (AreMirrors object × AtSymbols k)

  abbrev pub AtFixups : FaultKind → Type 0
  AtFixups k = HasNoFixup k base object ⊎ (AreFixedUp base object × AtMirrors k)

  abbrev pub AtTargets : FaultKind → Type 0
  AtTargets k = ((k ≡ NoFragmentTarget) × HasNoTarget object) ⊎ (HaveTargets object × AtFixups k)

  behind_all : (k : FaultKind) → HasNoSites k base object → AtTargets k
  behind_all k h = let w = h.well in inr (w.targets, inr (w.fixups, inr (w.mirror, inr h)))

  -- memory and want of room aside a refusal is at one of them
  pub stage_of : (full : Reading → Reading → Type 0) (k : FaultKind) → WhyNotApplied full k base object → k ≢ NoMemory → ((k ≡ Limit) × IsCrowded full base object) ⊎ AtTargets k
  stage_of full NoMemory h memory = absurd (memory refl)
  stage_of full Limit (inl h) memory = inr (behind_all Limit h)
  stage_of full Limit (inr h) memory = inl (refl, h)
  stage_of full NoFragmentTarget h memory = inr (inl (refl, h))
  stage_of full BadFixup h memory = inr (inr (h.0, inl h.1))
  stage_of full NoSymbol h memory = inr (inr (h.0, inl h.1))
  stage_of full BadSymbol h memory = inr (elim h.1 [
    | inl first ↦ inr (h.0, inl first)
    | inr w ↦ inr (h.0, inr (w.0, inr (w.1, inl (refl, w.2))))
  ])
  stage_of full BadLocalFixup h memory = inr (inr (h.0, inr (h.1, inl (refl, h.2))))
  stage_of full NoTarget h memory = inr (behind_all NoTarget h)
  stage_of full ReservedPlace h memory = inr (behind_all ReservedPlace h)
  stage_of full _ h memory = absurd h

  -- what is passed isn't where it stops
  target_not : HasNoTarget object → HaveTargets object → ⊥
  target_not h all = h.2 (each_in (HasTarget object) (fragment_names object.children) h.0 all h.1)

  fixup_not : (k : FaultKind) → HasNoFixup k base object → AreFixedUp base object → ⊥
  fixup_not k h all = unfixed_not k (fixups_in object) (unfixed_of k h) all

  mirror_not : HasNoMirror object → AreMirrors object → ⊥
  mirror_not h all = h.2 (all h.0 h.1)

  symbol_not : HasNoSymbol object → AreSymbols object → ⊥
  symbol_not h all = h.2 (each_in (λ (x : Property). IsSymbol object x.value) (symbols_in object) h.0 all h.1)

  -- an object that is as it has to be stops at its sites alone
  pub stops_at_sites : (k : FaultKind) → AtTargets k → IsWellFormed base object → HasNoSites k base object
  stops_at_sites k (inl h) well = absurd (target_not h.1 well.targets)
  stops_at_sites k (inr (t, inl h)) well = absurd (fixup_not k h well.fixups)
  stops_at_sites k (inr (t, inr (f, inl h))) well = absurd (mirror_not h.1 well.mirror)
  stops_at_sites k (inr (t, inr (f, inr (m, inl h)))) well = absurd (symbol_not h.1 well.symbols)
  stops_at_sites k (inr (t, inr (f, inr (m, inr h)))) well = h

  one_at_sites : (k k' : FaultKind) → HasNoSites k base object → HasNoSites k' base object → k ≡ k'
  one_at_sites k k' h h' =
      let fixups : h.fixups ≡ h'.fixups = one_fixups (properties_of (node_at object (codes "__fixups__" ∷ []))) h.fixups h'.fixups h.listed h'.listed in
      none_one base object h'.fixups k k' (fragment_names object.children) nothing_walked
      (subst (λ fs. HasNoSite k base object fs nothing_walked (fragment_names object.children)) fixups h.why) h'.why

  one_at_symbols : (k k' : FaultKind) → AtSymbols k → AtSymbols k' → k ≡ k'
  one_at_symbols k k' (inl h) (inl h') = h.0 ∙ sym h'.0
  one_at_symbols k k' (inl h) (inr h') = let w = h'.well in absurd (symbol_not h.1 w.symbols)
  one_at_symbols k k' (inr h) (inl h') = let w = h.well in absurd (symbol_not h'.1 w.symbols)
  one_at_symbols k k' (inr h) (inr h') = one_at_sites k k' h h'

  one_at_mirrors : (k k' : FaultKind) → AtMirrors k → AtMirrors k' → k ≡ k'
  one_at_mirrors k k' (inl h) (inl h') = h.0 ∙ sym h'.0
  one_at_mirrors k k' (inl h) (inr h') = absurd (mirror_not h.1 h'.0)
  one_at_mirrors k k' (inr h) (inl h') = absurd (mirror_not h'.1 h.0)
  one_at_mirrors k k' (inr h) (inr h') = one_at_symbols k k' h.1 h'.1

  one_at_fixups : (k k' : FaultKind) → AtFixups k → AtFixups k' → k ≡ k'
  one_at_fixups k k' (inl h) (inl h') = unfixed_one k k' (fixups_in object) (unfixed_of k h) (unfixed_of k' h')
  one_at_fixups k k' (inl h) (inr h') = absurd (fixup_not k h h'.0)
  one_at_fixups k k' (inr h) (inl h') = absurd (fixup_not k' h' h.0)
  one_at_fixups k k' (inr h) (inr h') = one_at_mirrors k k' h.1 h'.1

  pub one_at_targets : (k k' : FaultKind) → AtTargets k → AtTargets k' → k ≡ k'
  one_at_targets k k' (inl h) (inl h') = h.0 ∙ sym h'.0
  one_at_targets k k' (inl h) (inr h') = absurd (target_not h.1 h'.0)
  one_at_targets k k' (inr h) (inl h') = absurd (target_not h'.1 h.0)
  one_at_targets k k' (inr h) (inr h') = one_at_fixups k k' h.1 h'.1
