-- What the fragments bring lands by what the tables have as it does by what is seen of the object.
use Rattle.std.proofs.Common.{◌≡◌, ◌≢◌, ℕ, Bool, true, false, cond, List, [], ◌∷◌, ◌++◌, map, Option, Some, None, is_some, refl, sym, ap, subst, ◌∙◌, inl, inr, true≢false}
use Rattle.std.specs.Prelude.{codes, option_and_then, unwrap_or}
use Rattle.std.specs.List.{AllByRecursion}
use Rattle.std.specs.Str.{bytes_eq}
use Rattle.dt_model.specs.Lists.{IsIn}
use Rattle.dt_model.specs.Meaning.{cell}
use Rattle.dt_model.specs.Names.{Name}
use Rattle.dt_model.specs.Numbers.{number_in}
use Rattle.dt_model.specs.Path.{Path}
use Rattle.dt_model.specs.Overlay.{content}
use Rattle.dt_model.specs.Tree.{Property, Forest, no_nodes, branch, Reading, Node, node_at, value_in, value_of}
use Rattle.dt_model.specs.Merged.{Site}
use Rattle.dt_model.specs.Valid.{AreDistinct, IsValid}
use Rattle.dt_model.specs.Applied.{Write, brought, written_property, written_forest}
use Rattle.dt_model.proofs.Tests.{bytes_eq_refl, bytes_eq_other, each_in}
use Rattle.dt_overlay_base.proofs.LooksNames.{value_under}
use Rattle.dt_overlay_laws.specs.Steps.{land_node, land_fragments, MayLandNode, MayLandFragments, FullAtNode, FullAtFragments}
use Rattle.dt_overlay_object.specs.declared.kept.ObjectFragment.{ObjectFragment}
use Rattle.dt_overlay_base.specs.NodeNumbers.{at_node, IsNumbered}
use Rattle.dt_overlay_object.specs.Plans.{AreFragmentsOf}
use Rattle.dt_overlay_landing.specs.Landed.{number_at, property_landed, forest_landed, node_landed, land_each, MayLandEach, FullAtEach}
use Rattle.dt_overlay_landing.specs.Values.{Kept, AreKept, value_kept}
use Rattle.dt_overlay_landing.proofs.LandingNodes.{good_node}
use Rattle.dt_trees.specs.Placed.{PlacedTree, reading_of, place_of, path_at, properties_at, properties_found, forest_under, below_at, HasPlacesApart, IsAt, IsNode}
use Rattle.dt_trees.proofs.NodePlaces.{path_is, at_node as node_there, stands_place}
use Rattle.dt_trees.proofs.Walked.{IsTail, tail_whole, tail_later, child_there}

abbrev pub site_names : List Site → List Name
site_names found = map (λ (x : Site). x.fragment) found

abbrev pub site_paths : List Site → List Path
site_paths found = map (λ (x : Site). x.at) found

-- the nodes that the fragments bring are there
pub contents_there : (t : PlacedTree) → HasPlacesApart t → (xs : List ObjectFragment) (fs : List Name) → AreFragmentsOf t xs fs → AllByRecursion (λ x. IsNode t x.content) xs
contents_there t apart [] fs h = tt
contents_there t apart (x ∷ xs) [] h = absurd h
contents_there t apart (x ∷ xs) (f ∷ fs) h = (node_there t apart (content f) x.content h.0.content, contents_there t apart xs fs h.1)

-- where names differ, a property's name finds its value
own_value : (ps : List Property) (p : Property) → AreDistinct (map (λ (x : Property). x.name) ps) → IsIn p ps → value_of ps p.name ≡ Some p.value
own_value [] p d i = absurd i
own_value (x ∷ ps) p d (inl same) = ap (λ (b : Bool). cond b (Some x.value) (value_of ps p.name)) (ap (λ (y : Property). bytes_eq y.name x.name) same ∙ bytes_eq_refl x.name) ∙ ap (λ (y : Property). Some y.value) (sym same)
own_value (x ∷ ps) p d (inr i) =
    ap (λ (b : Bool). cond b (Some x.value) (value_of ps p.name)) (bytes_eq_other p.name x.name (each_in (λ y. y ≢ x.name) (map (λ (y : Property). y.name) ps) p.name d.0 (named ps i))) ∙ own_value ps p d.1 i
  where
    named : (qs : List Property) → IsIn p qs → IsIn p.name (map (λ (y : Property). y.name) qs)
    named [] j = absurd j
    named (y ∷ qs) (inl same) = inl (ap (λ (z : Property). z.name) same)
    named (y ∷ qs) (inr j) = inr (named qs j)

module _ (t : PlacedTree) (apart : HasPlacesApart t) (valid : IsValid (reading_of t)) (entries : List (ℕ × ℕ)) (vs : List Kept) (ws : List Write) (numbers : List (Path × ℕ))
    (numbered : (p : Path) → IsNumbered t numbers entries p) (kept : AreKept t vs ws) where
  property_same : (p : Path) (k : ℕ) (x : Property) → IsAt t p k → value_in (reading_of t) p x.name ≡ Some x.value → property_landed t entries vs p x ≡ written_property ws numbers p x
  property_same p k x at there = λ i. record { name = x.name; value = by (bytes_eq x.name (codes "phandle")) refl i }
    where
      number : number_at t entries p ≡ number_in numbers p
      number = ap (option_and_then (at_node entries)) at ∙ numbered p k at

      place : unwrap_or (place_of t p) 0 ≡ k
      place = ap (λ (o : Option ℕ). unwrap_or o 0) at

      by : (b : Bool) → bytes_eq x.name (codes "phandle") ≡ b → (property_landed t entries vs p x).value ≡ (written_property ws numbers p x).value
      by true e = rw e (ap (λ (o : Option ℕ). cell (unwrap_or o 0)) number)
      by false e = rw e (ap (λ (n : ℕ). unwrap_or (value_kept vs n x.name) x.value) place ∙ (kept p k x.name x.value at there).is e)

  properties_same : (p : Path) (k : ℕ) → IsAt t p k → map (property_landed t entries vs p) (properties_at t p) ≡ map (written_property ws numbers p) (properties_at t p)
  properties_same p k at = each (properties_at t p) (λ x i. i)
    where
      own : Path → Type 0
      own r = AreDistinct (map (λ (x : Property). x.name) (properties_at t r))

      distinct : AreDistinct (map (λ (x : Property). x.name) (properties_at t p))
      distinct =
          let n = good_node t k valid (node_there t apart p k at) in
          subst (λ (r : Path). AreDistinct (map (λ (x : Property). x.name) (properties_at t r))) (path_is t apart p k at)
          (subst (λ (o : Option Node). AreDistinct (map (λ (x : Property). x.name) (properties_found o))) (sym n.1) n.2.properties.distinct)

      each : (ps : List Property) → ((x : Property) → IsIn x ps → IsIn x (properties_at t p)) → map (property_landed t entries vs p) ps ≡ map (written_property ws numbers p) ps
      each [] among = refl
      each (x ∷ ps) among =
          let there = sym (value_under t p x.name) ∙ own_value (properties_at t p) x distinct (among x (inl refl)) in
          λ i. property_same p k x at there i ∷ each ps (λ y j. among y (inr j)) i

  forest_same : (p : Path) (f : Forest) → IsTail f (below_at t p) → forest_landed t entries vs p f ≡ written_forest ws numbers p f
  forest_same p no_nodes tail = refl
  forest_same p (branch x ps cs ss) tail =
      let q = p ++ x ∷ [] in
      let here = child_there t p x ps cs ss valid tail in
      let own : properties_at t q ≡ ps = ap properties_found here in
      let under : below_at t q ≡ cs = ap forest_under here in
      let at = some_place (place_of t q) refl (stands_place t q ∙ ap is_some here) in
      let properties = subst (λ (qs : List Property). map (property_landed t entries vs q) qs ≡ map (written_property ws numbers q) qs) own (properties_same q at.0 at.1) in
      let inside = forest_same q cs (subst (λ (g : Forest). IsTail g (below_at t q)) under (tail_whole (below_at t q))) in
      let beside = forest_same p ss (tail_later x ps cs ss (below_at t p) tail) in
      λ i. branch x (properties i) (inside i) (beside i)
    where
      some_place : (o : Option ℕ) → place_of t (p ++ x ∷ []) ≡ o → is_some (place_of t (p ++ x ∷ [])) ≡ true → (k : ℕ) × IsAt t (p ++ x ∷ []) k
      some_place None e some = absurd (true≢false (sym some ∙ ap is_some e))
      some_place (Some k) e some = (k, e)

  -- what one fragment brings
  content_same : (f : Name) (k : ℕ) → IsAt t (content f) k → node_landed t entries vs (path_at t k) ≡ brought ws numbers f (node_at (reading_of t) (content f))
  content_same f k at =
      ap (node_landed t entries vs) (path_is t apart (content f) k at)
      ∙ (λ i. record { properties = properties_same (content f) k at i; children = forest_same (content f) (below_at t (content f)) (tail_whole (below_at t (content f))) i })
      ∙ by (node_at (reading_of t) (content f)) (sym (stands_place t (content f)) ∙ ap is_some at)
    where
      by : (o : Option Node) → is_some o ≡ true
          → record { properties = map (written_property ws numbers (content f)) (properties_found o); children = written_forest ws numbers (content f) (forest_under o) } ≡ brought ws numbers f o
      by None some = absurd (true≢false (sym some))
      by (Some n) some = refl

  abbrev landed : ℕ → Node
  landed k = node_landed t entries vs (path_at t k)

  -- what fragments bring
  pub each_landed : (fragments : List ObjectFragment) (found : List Site) → AreFragmentsOf t fragments (site_names found) → (r : Reading)
      → land_each landed fragments (site_paths found) r ≡ land_fragments r (reading_of t) ws numbers found
  each_landed [] [] h r = refl
  each_landed [] (y ∷ found) h r = absurd h
  each_landed (x ∷ xs) [] h r = absurd h
  each_landed (x ∷ xs) (y ∷ found) h r =
      each_landed xs found h.1 (land_node y.at (landed x.content) r)
      ∙ ap (λ (n : Node). land_fragments (land_node y.at n r) (reading_of t) ws numbers found) (content_same y.fragment x.content h.0.content)

  -- may land
  pub each_may : (fragments : List ObjectFragment) (found : List Site) → AreFragmentsOf t fragments (site_names found) → (r : Reading)
      → MayLandFragments r (reading_of t) ws numbers found → MayLandEach landed fragments (site_paths found) r
  each_may [] [] h r may = tt
  each_may [] (y ∷ found) h r may = absurd h
  each_may (x ∷ xs) [] h r may = absurd h
  each_may (x ∷ xs) (y ∷ found) h r may =
      let same = sym (content_same y.fragment x.content h.0.content) in (
        may.0,
        subst (λ (n : Node). MayLandNode y.at n r) same may.1,
        each_may xs found h.1 (land_node y.at (landed x.content) r) (subst (λ (n : Node). MayLandFragments (land_node y.at n r) (reading_of t) ws numbers found) same may.2),
      )

  -- where there is no room on the way of the ones, there is none on that of the others
  pub each_stuck : (full : Reading → Reading → Type 0) (fragments : List ObjectFragment) (found : List Site) → AreFragmentsOf t fragments (site_names found) → (r : Reading)
      → FullAtEach full landed fragments (site_paths found) r → FullAtFragments full r (reading_of t) ws numbers found
  each_stuck full [] [] h r stuck = absurd stuck
  each_stuck full [] (y ∷ found) h r stuck = absurd h
  each_stuck full (x ∷ xs) [] h r stuck = absurd h
  each_stuck full (x ∷ xs) (y ∷ found) h r (inl stuck) = inl (subst (λ (n : Node). FullAtNode full y.at n r) (content_same y.fragment x.content h.0.content) stuck)
  each_stuck full (x ∷ xs) (y ∷ found) h r (inr stuck) =
      inr (subst (λ (n : Node). FullAtFragments full (land_node y.at n r) (reading_of t) ws numbers found) (content_same y.fragment x.content h.0.content)
      (each_stuck full xs found h.1 (land_node y.at (landed x.content) r) stuck))
