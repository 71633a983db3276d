-- What is told of `__local_fixups__` is what it lists.
use Rattle.std.proofs.Common.{◌⊎◌, ◌≡◌, ℕ, ◌+◌, ◌≤◌, ◌%◌, ◌==◌, nat_le, Bool, true, false, cond, codes, List, [], ◌∷◌, ◌++◌, length, drop, map, Option, Some, None, Ok, Err, refl, sym, ap, subst, ◌∙◌, append_assoc, inl, inr}
use Rattle.std.specs.Prelude.{is_some}
use Rattle.std.proofs.lemmas.Bool.{eqb-true, eqb-false, le-leb, leb-true, leb-false}
use Rattle.std.proofs.lemmas.Option.{same_Some}
use Rattle.dt_names.specs.Fault.{placeless}
use Rattle.dt_names.specs.declared.fault.Fault.{Fault}
use Rattle.dt_names.specs.declared.fault.FaultKind.TheVariants.{BadLocalFixup}
use Rattle.dt_model.specs.Names.{Name}
use Rattle.dt_model.specs.Object.{words_of, nodes_from}
use Rattle.dt_model.specs.Path.{Path}
use Rattle.dt_model.specs.Tree.{Property, Placed, preorder, stands_in, value_in}
use Rattle.dt_trees.specs.Placed.{Nodes, no_nodes, node, forest_of, PlacedTree, reading_of, place_of, IsAt, path_at}
use Rattle.dt_read.specs.Walked.{Step, opens, holds, closes, steps_of_nodes, WalkIn}
use Rattle.dt_marks_read.specs.Listed.{LocalFixup, AreOffsets, AreLocalProperties, AreLocalNodes, AreLocalFixupsOf}
use Rattle.dt_marks_read.specs.LocalFixupsLeft.{offsets_told, property_told, counterpart_told, step_told, walk_told, local_fixups_left}
use Rattle.dt_trees.proofs.NodePlaces.{stands_place, path_is}
use Rattle.dt_overlay_texts.proofs.NoNodes.{unplaced}

-- ---- offsets

offsets_are : (k : ℕ) (property : Name) (value offsets : List ℕ) (more : List LocalFixup → Type 0) (rest : List LocalFixup) → more rest → AreOffsets k property value offsets more (offsets_told k property value offsets rest)
unfolding offsets_told
offsets_are k property value [] more rest are = are
offsets_are k property value (offset ∷ offsets) more rest are =
    step (offsets_are k property value offsets more rest are) (nat_le (offset + 4) (length value)) refl
  where
    behind : List LocalFixup
    behind = offsets_told k property value offsets rest

    step : AreOffsets k property value offsets more behind → (b : Bool) → nat_le (offset + 4) (length value) ≡ b
        → AreOffsets k property value (offset ∷ offsets) more (cond b (Ok (record { node = k; property = property; offset = offset }) ∷ behind) (Err (placeless BadLocalFixup) ∷ []))
    step after true e = inl (leb-true (offset + 4) (length value) e, behind, refl, after)
    step after false e = inr (leb-false (offset + 4) (length value) e, refl)

-- ---- nodes, and then more

abbrev Then : PlacedTree → List Placed → (List LocalFixup → Type 0) → List LocalFixup → Type 0
Then t [] more told = more told
Then t (n ∷ ns) more told =
    ((k : ℕ) × IsAt t n.path k × AreLocalProperties t n.path k n.properties (Then t ns more) told)
    ⊎ ((stands_in (reading_of t) n.path ≡ false) × (told ≡ Err (placeless BadLocalFixup) ∷ []))

then_append : (t : PlacedTree) (xs ys : List Placed) (more : List LocalFixup → Type 0) → Then t (xs ++ ys) more ≡ Then t xs (Then t ys more)
then_append t [] ys more = refl
then_append t (n ∷ xs) ys more = ap (λ (later : List LocalFixup → Type 0). λ (told : List LocalFixup).
    ((k : ℕ) × IsAt t n.path k × AreLocalProperties t n.path k n.properties later told)
    ⊎ ((stands_in (reading_of t) n.path ≡ false) × (told ≡ Err (placeless BadLocalFixup) ∷ []))) (then_append t xs ys more)

then_nothing : (t : PlacedTree) (ns : List Placed) → Then t ns (λ told. told ≡ []) ≡ AreLocalNodes t ns
then_nothing t [] = refl
then_nothing t (n ∷ ns) = ap (λ (later : List LocalFixup → Type 0). λ (told : List LocalFixup).
    ((k : ℕ) × IsAt t n.path k × AreLocalProperties t n.path k n.properties later told)
    ⊎ ((stands_in (reading_of t) n.path ≡ false) × (told ≡ Err (placeless BadLocalFixup) ∷ []))) (then_nothing t ns)

-- behind the walk nothing is told
pub walk_ended : (t : PlacedTree) (steps : List Step) → walk_told t [] steps ≡ []
unfolding walk_told
walk_ended t [] = refl
walk_ended t (step ∷ steps) = refl

module _ (t : PlacedTree) (places : (p q : Path) (k : ℕ) → IsAt t p k → IsAt t q k → p ≡ q) where
  properties_are : (p : Path) (k : ℕ) → IsAt t p k → (ks : List ℕ) (xs : List Property) (steps : List Step) (more : List LocalFixup → Type 0) → more (walk_told t (k ∷ ks) steps)
      → AreLocalProperties t p k xs more (walk_told t (k ∷ ks) (map holds xs ++ steps))
  unfolding walk_told
  properties_are p k at ks [] steps more are = are
  properties_are p k at ks (x ∷ xs) steps more are =
      subst (λ (q : Path). AreLocalProperties t p k (x ∷ xs) more (property_told k x (value_in (reading_of t) q x.name) behind)) (sym (path_is t places p k at))
      (step (properties_are p k at ks xs steps more are) (value_in (reading_of t) p x.name) refl)
    where
      behind : List LocalFixup
      behind = walk_told t (k ∷ ks) (map holds xs ++ steps)

      whole : (v : List ℕ) → value_in (reading_of t) p x.name ≡ Some v → AreLocalProperties t p k xs more behind → (b : Bool) → (length x.value % 4 == 0) ≡ b
          → AreLocalProperties t p k (x ∷ xs) more (cond b (offsets_told k x.name v (words_of x.value) behind) (Err (placeless BadLocalFixup) ∷ []))
      whole v e after true is = inl ((v, e, eqb-true (length x.value % 4) 0 is), offsets_are k x.name v (words_of x.value) (AreLocalProperties t p k xs more) behind after)
      whole v e after false is = inr (λ has. eqb-false (length x.value % 4) 0 is has.2, refl)

      step : AreLocalProperties t p k xs more behind → (o : Option (List ℕ)) → value_in (reading_of t) p x.name ≡ o → AreLocalProperties t p k (x ∷ xs) more (property_told k x o behind)
      step after None e = inr (λ has. let z : None ≡ Some has.0 = sym e ∙ has.1 in absurd cc, refl)
      step after (Some v) e = whole v e after (length x.value % 4 == 0) refl

  nodes_are : (nodes : Nodes) (p : Path) (k : ℕ) → IsAt t p k → (ks : List ℕ) (steps : List Step) (more : List LocalFixup → Type 0) → more (walk_told t (k ∷ ks) steps)
      → Then t (preorder p (forest_of nodes)) more (walk_told t (k ∷ ks) (steps_of_nodes nodes ++ steps))
  unfolding walk_told
  nodes_are no_nodes p k at ks steps more are = are
  nodes_are (node place name properties children siblings) p k at ks steps more are =
      subst (λ (q : Path). Told (counterpart_told (place_of t (q ++ name ∷ [])) (λ j. walk_told t (j ∷ k ∷ ks) ((map holds properties ++ (steps_of_nodes children ++ closes ∷ steps_of_nodes siblings)) ++ steps)))) (sym (path_is t places p k at))
      (subst (λ (s : List Step). Told (counterpart_told (place_of t own) (λ j. walk_told t (j ∷ k ∷ ks) s))) (sym (regrouped (map holds properties) (steps_of_nodes children) (steps_of_nodes siblings) steps))
      (step (λ j e. nodes_are children own j e (k ∷ ks) (closes ∷ (steps_of_nodes siblings ++ steps)) (Then t (preorder p (forest_of siblings)) more) (nodes_are siblings p k at ks steps more are)) (place_of t own) refl))
    where
      own : Path
      own = p ++ name ∷ []

      Told : List LocalFixup → Type 0
      Told = Then t (preorder p (forest_of (node place name properties children siblings))) more

      regrouped : (a b c d : List Step) → (a ++ (b ++ closes ∷ c)) ++ d ≡ a ++ (b ++ closes ∷ (c ++ d))
      regrouped a b c d = simp append_assoc

      inside : List Step
      inside = steps_of_nodes children ++ closes ∷ (steps_of_nodes siblings ++ steps)

      step : ((j : ℕ) → place_of t own ≡ Some j → Then t (preorder own (forest_of children)) (Then t (preorder p (forest_of siblings)) more) (walk_told t (j ∷ k ∷ ks) inside))
          → (o : Option ℕ) → place_of t own ≡ o → Told (counterpart_told o (λ j. walk_told t (j ∷ k ∷ ks) (map holds properties ++ inside)))
      step later None e = inr (sym (stands_place t own) ∙ ap is_some e, refl)
      step later (Some j) e =
          let both = subst (λ (f : List LocalFixup → Type 0). f (walk_told t (j ∷ k ∷ ks) inside)) (sym (then_append t (preorder own (forest_of children)) (preorder p (forest_of siblings)) more)) (later j e) in
          inl (j, e, properties_are own j e (k ∷ ks) properties inside (Then t (preorder own (forest_of children) ++ preorder p (forest_of siblings)) more) both)

  -- the walk through the mirror tells what it lists
  pub local_fixups_are : (steps : List Step) → WalkIn t (codes "__local_fixups__" ∷ []) steps → AreLocalFixupsOf t (walk_told t (t.place ∷ []) steps)
  unfolding walk_told
  local_fixups_are steps w =
      let behind : AreLocalNodes t (preorder [] (forest_of w.children)) (walk_told t (t.place ∷ []) (steps_of_nodes w.children ++ closes ∷ w.behind)) =
      subst (λ (f : List LocalFixup → Type 0). f (walk_told t (t.place ∷ []) (steps_of_nodes w.children ++ closes ∷ w.behind))) (then_nothing t (preorder [] (forest_of w.children)))
      (nodes_are w.children [] t.place refl [] (closes ∷ w.behind) (λ told. told ≡ []) (walk_ended t w.behind)) in
      let all : AreLocalNodes t (record { path = []; properties = w.properties } ∷ preorder [] (forest_of w.children)) (walk_told t (t.place ∷ []) (map holds w.properties ++ (steps_of_nodes w.children ++ closes ∷ w.behind))) =
      inl (t.place, refl, properties_are [] t.place refl [] w.properties (steps_of_nodes w.children ++ closes ∷ w.behind) (AreLocalNodes t (preorder [] (forest_of w.children))) behind) in
      subst (λ (s : List Step). AreLocalFixupsOf t (walk_told t (t.place ∷ []) s)) (sym w.whole)
      (subst (λ n. AreLocalNodes t (nodes_from n) (walk_told t (t.place ∷ []) (map holds w.properties ++ (steps_of_nodes w.children ++ closes ∷ w.behind)))) (sym w.there) all)

  -- where its counterpart is the root
  pub mirror_told : (open_nodes : List ℕ) (root : ℕ) (steps : List Step) → open_nodes ≡ root ∷ [] → IsAt t [] root → WalkIn t (codes "__local_fixups__" ∷ []) steps → AreLocalFixupsOf t (walk_told t open_nodes steps)
  mirror_told open_nodes root steps is at w =
      let open_root : t.place ∷ [] ≡ open_nodes = ap (λ (k : ℕ). k ∷ []) (same_Some t.place root at) ∙ sym is in
      subst (λ (ks : List ℕ). AreLocalFixupsOf t (walk_told t ks steps)) open_root (local_fixups_are steps w)

  -- without a mirror nothing is listed
  pub no_local_fixups : (steps : List Step) → place_of t (codes "__local_fixups__" ∷ []) ≡ None → AreLocalFixupsOf t (walk_told t [] steps)
  no_local_fixups steps none = subst (λ n. AreLocalNodes t (nodes_from n) (walk_told t [] steps)) (sym (unplaced t (codes "__local_fixups__" ∷ []) none)) (walk_ended t steps)

-- ---- what is left

module _ (t : PlacedTree) where
  -- where no offset is left
  pub offsets_done : (k : ℕ) (property : Name) (value offsets : List ℕ) (open_nodes : List ℕ) (steps : List Step) → words_of offsets ≡ [] → local_fixups_left t k property value offsets open_nodes steps ≡ walk_told t open_nodes steps
  unfolding offsets_told
  offsets_done k property value offsets open_nodes steps none = ap (λ (ws : List ℕ). offsets_told k property value ws (walk_told t open_nodes steps)) none

  -- where no node is open either
  pub nothing_told : (k : ℕ) (property : Name) (value offsets : List ℕ) (open_nodes : List ℕ) (steps : List Step) → words_of offsets ≡ [] → open_nodes ≡ [] → local_fixups_left t k property value offsets open_nodes steps ≡ []
  nothing_told k property value offsets open_nodes steps none closed =
      offsets_done k property value offsets open_nodes steps none ∙ ap (λ (ks : List ℕ). walk_told t ks steps) closed ∙ walk_ended t steps

  -- a step is taken where some node is open
  pub next_step : (open_nodes : List ℕ) (steps behind : List Step) (step : Step) → steps ≡ step ∷ behind → walk_told t open_nodes steps ≡ step_told t open_nodes step (λ others. walk_told t others behind)
  unfolding walk_told
  next_step open_nodes steps behind step is = ap (walk_told t open_nodes) is

  pub no_step : (open_nodes : List ℕ) (steps : List Step) → steps ≡ [] → walk_told t open_nodes steps ≡ []
  unfolding walk_told
  no_step open_nodes steps is = ap (walk_told t open_nodes) is

  -- a node begins that has a counterpart
  pub node_begun : (open_nodes others : List ℕ) (k j : ℕ) (name : Name) (steps : List Step) → open_nodes ≡ k ∷ drop 1 open_nodes → place_of t (path_at t k ++ name ∷ []) ≡ Some j → others ≡ j ∷ open_nodes
      → step_told t open_nodes (opens 0 name) (λ ks. walk_told t ks steps) ≡ walk_told t others steps
  node_begun open_nodes others k j name steps is at new =
      ap (λ (ks : List ℕ). step_told t ks (opens 0 name) (λ (ls : List ℕ). walk_told t ls steps)) is
      ∙ ap (λ (o : Option ℕ). counterpart_told o (λ (i : ℕ). walk_told t (i ∷ k ∷ drop 1 open_nodes) steps)) at
      ∙ ap (λ (ks : List ℕ). walk_told t (j ∷ ks) steps) (sym is)
      ∙ ap (λ (ks : List ℕ). walk_told t ks steps) (sym new)

  -- an offset is told
  pub offset_told : (k : ℕ) (property : Name) (value offsets behind : List ℕ) (offset : ℕ) (open_nodes : List ℕ) (steps : List Step) → words_of offsets ≡ offset ∷ words_of behind → offset + 4 ≤ length value
      → local_fixups_left t k property value offsets open_nodes steps ≡ Ok (record { node = k; property = property; offset = offset }) ∷ local_fixups_left t k property value behind open_nodes steps
  unfolding offsets_told
  offset_told k property value offsets behind offset open_nodes steps is less =
      ap (λ (ws : List ℕ). offsets_told k property value ws (walk_told t open_nodes steps)) is ∙ rw (le-leb (offset + 4) (length value) less) refl

  -- or is outside the value
  pub offset_off : (k : ℕ) (property : Name) (value offsets behind : List ℕ) (offset : ℕ) (open_nodes : List ℕ) (steps : List Step) (fault : Fault) (rest : List LocalFixup) → words_of offsets ≡ offset ∷ words_of behind → ¬ (offset + 4 ≤ length value)
      → fault ≡ placeless BadLocalFixup → rest ≡ [] → local_fixups_left t k property value offsets open_nodes steps ≡ Err fault ∷ rest
  unfolding offsets_told
  offset_off k property value offsets behind offset open_nodes steps fault rest is more is_fault none =
      ap (λ (ws : List ℕ). offsets_told k property value ws (walk_told t open_nodes steps)) is ∙ outside (nat_le (offset + 4) (length value)) refl ∙ λ i. Err (sym is_fault i) ∷ sym none i
    where
      outside : (b : Bool) → nat_le (offset + 4) (length value) ≡ b
          → cond b (Ok (record { node = k; property = property; offset = offset }) ∷ offsets_told k property value (words_of behind) (walk_told t open_nodes steps)) (Err (placeless BadLocalFixup) ∷ []) ≡ Err (placeless BadLocalFixup) ∷ []
      outside true e = absurd (more (leb-true (offset + 4) (length value) e))
      outside false e = refl
