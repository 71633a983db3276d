-- What is told of `__fixups__` is what it lists.
use Rattle.std.proofs.Common.{◌≡◌, ◌≢◌, ℕ, ◌==◌, Bool, true, false, cond, codes, List, [], ◌∷◌, ◌++◌, Option, Some, None, Err, refl, sym, ap, subst, ◌∙◌, true≢false, inl, inr}
use Rattle.std.proofs.lemmas.Bool.{eqb-true, eqb-false}
use Rattle.dt_names.specs.Fault.{placeless}
use Rattle.dt_names.specs.declared.fault.Fault.{Fault}
use Rattle.dt_names.specs.declared.fault.FaultKind.TheVariants.{BadFixup}
use Rattle.dt_model.specs.Names.{Name}
use Rattle.dt_model.specs.Object.{properties_of}
use Rattle.dt_model.specs.Tree.{Property, node_at}
use Rattle.dt_model.specs.Valid.{IsValid}
use Rattle.dt_trees.specs.Placed.{PlacedTree, reading_of}
use Rattle.dt_overlay_texts.specs.Cuts.{texts_in}
use Rattle.dt_overlay_texts.specs.Texts.{AreTexts}
use Rattle.dt_marks_read.specs.Listed.{ListedCell, Fixup, AreTold, AreFixups, AreFixupsOf}
use Rattle.dt_marks_read.specs.FixupsLeft.{cell_in, told_next, told_of_texts, told_of, ends_with_nul, behind_label, fixups_left}
use Rattle.dt_overlay_texts.proofs.TextCuts.{texts_only, texts_there, none_of_nothing, none_of_other}
use Rattle.dt_marks_read.proofs.ListedCells.{found_is_told, told_is_found, listed_there}

-- ---- how a value ends

-- the last byte of a value
last_byte : (b : ℕ) (bytes : List ℕ) → (front : List ℕ) × (c : ℕ) × (b ∷ bytes ≡ front ++ c ∷ []) × (ends_with_nul (b ∷ bytes) ≡ (c == 0))
last_byte b [] = ([], b, refl, refl)
last_byte b (c ∷ bytes) = let more = last_byte c bytes in (b ∷ more.0, more.1, ap (λ (r : List ℕ). b ∷ r) more.2, more.3)

-- a value with a NUL at its end is some texts
nul_ends_texts : (value : List ℕ) → ends_with_nul value ≡ true → AreTexts value (texts_in value) × (texts_in value ≢ [])
nul_ends_texts [] e = absurd (true≢false (sym e))
nul_ends_texts (b ∷ bytes) e = let last = last_byte b bytes in texts_there (b ∷ bytes) last.0 last.1 last.2 (eqb-true last.1 0 (sym last.3 ∙ e))

-- another is none
other_ends_none : (value : List ℕ) → ends_with_nul value ≡ false → (xs : List (List ℕ)) → xs ≢ [] → ¬ AreTexts value xs
other_ends_none [] e = none_of_nothing [] refl
other_ends_none (b ∷ bytes) e = let last = last_byte b bytes in none_of_other (b ∷ bytes) last.0 last.1 last.2 (eqb-false last.1 0 (sym last.3 ∙ e))

-- ---- a step

-- what is told of a property that isn't texts
pub told_off : (t : PlacedTree) (p : Property) (ps : List Property) → ((xs : List (List ℕ)) → xs ≢ [] → ¬ AreTexts p.value xs) → told_of t (p ∷ ps) ≡ Err (placeless BadFixup) ∷ []
unfolding told_of
told_off t p ps none = step (ends_with_nul p.value) refl
  where
    step : (b : Bool) → ends_with_nul p.value ≡ b → cond b (told_of_texts t p.name (texts_in p.value) (told_of t ps)) (Err (placeless BadFixup) ∷ []) ≡ Err (placeless BadFixup) ∷ []
    step true e = let is = nul_ends_texts p.value e in absurd (none (texts_in p.value) is.1 is.0)
    step false e = refl

-- what is told of one that is
pub told_on : (t : PlacedTree) (p : Property) (ps : List Property) (xs : List (List ℕ)) → AreTexts p.value xs → xs ≢ [] → told_of t (p ∷ ps) ≡ told_of_texts t p.name xs (told_of t ps)
unfolding told_of
told_on t p ps xs are some = step (ends_with_nul p.value) refl
  where
    step : (b : Bool) → ends_with_nul p.value ≡ b → cond b (told_of_texts t p.name (texts_in p.value) (told_of t ps)) (Err (placeless BadFixup) ∷ []) ≡ told_of_texts t p.name xs (told_of t ps)
    step true e = ap (λ (ys : List (List ℕ)). told_of_texts t p.name ys (told_of t ps)) (texts_only xs p.value are)
    step false e = absurd (other_ends_none p.value e xs some are)

-- nothing is left
pub nothing_left : (t : PlacedTree) (rest : Option (List Property)) (label : Name) (texts : List (List ℕ)) → texts ≡ [] → behind_label rest ≡ [] → fixups_left t rest label texts ≡ []
unfolding told_of_texts told_of
nothing_left t rest label texts none last = ap (λ (xs : List (List ℕ)). told_of_texts t label xs (told_of t (behind_label rest))) none ∙ ap (told_of t) last

-- a text of no cell is the last
pub told_fault : (t : PlacedTree) (label : Name) (text : List ℕ) (more : List Fixup) (fault : Fault) (texts : List (List ℕ)) → cell_in t text ≡ None → fault ≡ placeless BadFixup → texts ≡ []
    → told_next label (cell_in t text) more ≡ Err fault ∷ fixups_left t None label texts
told_fault t label text more fault texts none is last =
    ap (λ (o : Option ListedCell). told_next label o more) none
    ∙ ap (λ (f : Fault). Err f ∷ []) (sym is)
    ∙ ap (λ (r : List Fixup). Err fault ∷ r) (sym (nothing_left t None label texts last refl))

-- so is a value that isn't texts
pub value_fault : (t : PlacedTree) (rest : Option (List Property)) (p : Property) (ps : List Property) (label : Name) (fault : Fault) (texts : List (List ℕ)) → texts ≡ [] → behind_label rest ≡ p ∷ ps → fault ≡ placeless BadFixup
    → ((xs : List (List ℕ)) → xs ≢ [] → ¬ AreTexts p.value xs) → fixups_left t rest label texts ≡ Err fault ∷ fixups_left t None label texts
unfolding told_of_texts
value_fault t rest p ps label fault texts last is fault_is none =
    ap (λ (xs : List (List ℕ)). told_of_texts t label xs (told_of t (behind_label rest))) last
    ∙ ap (told_of t) is
    ∙ told_off t p ps none
    ∙ ap (λ (f : Fault). Err f ∷ []) (sym fault_is)
    ∙ ap (λ (r : List Fixup). Err fault ∷ r) (sym (nothing_left t None label texts last refl))

-- the first text of the next label
pub next_told : (t : PlacedTree) (rest : Option (List Property)) (p : Property) (ps : List Property) (label : Name) (texts xs : List (List ℕ)) (text : List ℕ) (behind : List (List ℕ))
    → texts ≡ [] → behind_label rest ≡ p ∷ ps → AreTexts p.value xs → xs ≢ [] → xs ≡ text ∷ behind
    → fixups_left t rest label texts ≡ told_next p.name (cell_in t text) (fixups_left t (Some ps) p.name behind)
unfolding told_of_texts
next_told t rest p ps label texts xs text behind last is are some first =
    ap (λ (ys : List (List ℕ)). told_of_texts t label ys (told_of t (behind_label rest))) last
    ∙ ap (told_of t) is
    ∙ told_on t p ps xs are some
    ∙ ap (λ (ys : List (List ℕ)). told_of_texts t p.name ys (told_of t ps)) first

-- the next text of a label
pub text_told : (t : PlacedTree) (rest : Option (List Property)) (label : Name) (texts : List (List ℕ)) (text : List ℕ) (behind : List (List ℕ)) → texts ≡ text ∷ behind
    → fixups_left t rest label texts ≡ told_next label (cell_in t text) (fixups_left t rest label behind)
unfolding told_of_texts
text_told t rest label texts text behind first = ap (λ (ys : List (List ℕ)). told_of_texts t label ys (told_of t (behind_label rest))) first

-- ---- all of it

module _ (t : PlacedTree) (valid : IsValid (reading_of t)) where
  texts_told : (label : Name) (texts : List (List ℕ)) (more : List Fixup → Type 0) (rest : List Fixup) → more rest → AreTold t label texts more (told_of_texts t label texts rest)
  unfolding told_of_texts
  texts_told label [] more rest are = are
  texts_told label (text ∷ texts) more rest are = step (texts_told label texts more rest are) (cell_in t text) refl
    where
      behind : List Fixup
      behind = told_of_texts t label texts rest

      step : AreTold t label texts more behind → (o : Option ListedCell) → cell_in t text ≡ o → AreTold t label (text ∷ texts) more (told_next label o behind)
      step after None e = inr (λ c is has. let x = listed_there t valid c has in let z : None ≡ Some x.0 = sym e ∙ told_is_found t valid text c x.0 is x.1 in absurd cc, refl)
      step after (Some x) e = let told = found_is_told t valid text x e in inl (told.0, x, behind, refl, told.1, told.2, after)

  pub fixups_told : (ps : List Property) → AreFixups t ps (told_of t ps)
  unfolding told_of
  fixups_told [] = refl
  fixups_told (p ∷ ps) = step (fixups_told ps) (ends_with_nul p.value) refl
    where
      step : AreFixups t ps (told_of t ps) → (b : Bool) → ends_with_nul p.value ≡ b → AreFixups t (p ∷ ps) (cond b (told_of_texts t p.name (texts_in p.value) (told_of t ps)) (Err (placeless BadFixup) ∷ []))
      step after true e = let is = nul_ends_texts p.value e in inl (texts_in p.value, is.0, is.1, texts_told p.name (texts_in p.value) (AreFixups t ps) (told_of t ps) after)
      step after false e = inr (other_ends_none p.value e, refl)

  -- of all labels
  pub all_told : (rest : Option (List Property)) → behind_label rest ≡ properties_of (node_at (reading_of t) (codes "__fixups__" ∷ [])) → AreFixupsOf t (fixups_left t rest [] [])
  unfolding told_of_texts
  all_told rest is = subst (λ (ps : List Property). AreFixups t (properties_of (node_at (reading_of t) (codes "__fixups__" ∷ []))) (told_of t ps)) (sym is) (fixups_told (properties_of (node_at (reading_of t) (codes "__fixups__" ∷ []))))
