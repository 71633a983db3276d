-- The labels that are kept of an object are those of the nodes that land, in order.
use Rattle.std.proofs.Common.{◌≡◌, ◌≢◌, ◌<◌, ◌≤◌, ◌⊎◌, true, false, ◌||◌, List, [], ◌∷◌, ◌++◌, map, take, codes, length, Option, Some, None, refl, sym, ap, subst, ◌∙◌, inl, inr, arith}
use Rattle.std.specs.Prelude.{is_some, option_map, option_and_then}
use Rattle.std.specs.Option.{option_or}
use Rattle.std.specs.List.{AllByRecursion, flat_map}
use Rattle.std.proofs.lemmas.List.{take_all, length-map}
use Rattle.dt_model.specs.Limits.{most_names}
use Rattle.dt_model.specs.Names.{Name, IsPropertyName}
use Rattle.dt_model.specs.Path.{Path, below, path_value}
use Rattle.dt_model.specs.Overlay.{content}
use Rattle.dt_model.specs.Tree.{Property, Reading, nodes_of}
use Rattle.dt_model.specs.Merged.{Site, landing}
use Rattle.dt_model.specs.Numbers.{is_brought}
use Rattle.dt_model.specs.Object.{fragment_names}
use Rattle.dt_model.specs.Applied.{node_named, landed_symbol, landed_symbols}
use Rattle.dt_names.specs.declared.fault.FaultKind.{FaultKind}
use Rattle.dt_names.specs.declared.fault.FaultKind.TheVariants.{NoMemory}
use Rattle.dt_trees.specs.Placed.{PlacedTree, reading_of, HasPlacesApart}
use Rattle.dt_trees.proofs.NodePlaces.{path_is, at_node}
use Rattle.dt_overlay_laws.specs.Laws.{AreShallow}
use Rattle.dt_overlay_laws.specs.Objects.{symbols_in}
use Rattle.dt_overlay_laws.proofs.PlainSymbols.{symbols_are_plain}
use Rattle.dt_overlay_object.specs.declared.brought.Brought.{Brought}
use Rattle.dt_overlay_object.specs.declared.kept.Symbol.{Symbol}
use Rattle.dt_overlay_object.specs.Plans.{AreSymbolsOf, symbol_brought}
use Rattle.dt_overlay_landing.specs.SymbolLanding.{AreSitedAll, AreToLand, LandsAs, AreLanding}
use Rattle.dt_overlay_landing.specs.Turns.{IsTooDeep}
use Rattle.dt_model.specs.Valid.{IsValid}

-- ---- which nodes land

-- where all fragments have sites, what one of them brings lands
pub lands-brought : (found : List Site) (p : Path) → is_some (landing found p) ≡ is_brought (map (λ (x : Site). x.fragment) found) p
lands-brought [] p = refl
lands-brought (x ∷ found) p = step (below (content x.fragment) p) (lands-brought found p)
  where
    step : (y : Option Path) → is_some (landing found p) ≡ is_brought (map (λ (s : Site). s.fragment) found) p
        → is_some (option_or (option_map (λ rest. x.at ++ rest) y) (landing found p)) ≡ is_some y || is_brought (map (λ (s : Site). s.fragment) found) p
    step None more = more
    step (Some rest) more = refl

-- ---- a label

module _ (object : Reading) where
  abbrev node-of : Property → Option Path
  node-of p = node_named (nodes_of object) p.value

  none-brought : (p : Property) → node-of p ≡ None → symbol_brought object p ≡ []
  none-brought p e = rw e refl

  other-brought : (p : Property) (r : Path) → node-of p ≡ Some r → is_brought (fragment_names object.children) r ≡ false → symbol_brought object p ≡ []
  other-brought p r e k = rw (e, k) refl

  one-brought : (p : Property) (r : Path) → node-of p ≡ Some r → is_brought (fragment_names object.children) r ≡ true → symbol_brought object p ≡ (p.name, r) ∷ []
  one-brought p r e k = rw (e, k) refl

abbrev IsPlain : Property → Type 0
IsPlain x = IsPropertyName x.name × (x.name ≢ codes "phandle")

module _ (t : PlacedTree) (apart : HasPlacesApart t) (valid : IsValid (reading_of t)) (b : Brought) (sites : List Path) (found : List Site) (all : AreSitedAll t b sites found) where
  abbrev landed : List Property → List Property
  landed ps = landed_symbols (reading_of t) found ps

  abbrev kept : List Property → List (Name × Path)
  kept ps = flat_map (symbol_brought (reading_of t)) ps

  -- whether a node lands is whether it is brought
  brought-is : (r : Path) (y : Option Path) → landing found r ≡ y → is_brought (fragment_names (reading_of t).children) r ≡ is_some y
  brought-is r y e = ap (λ fs. is_brought fs r) (sym all.named) ∙ sym (lands-brought found r) ∙ ap is_some e

  -- the label of a node that lands
  label-lands : (p : Property) (r q : Path) (x : Symbol) → landing found r ≡ Some q → AreSymbolsOf t (x ∷ []) ((p.name, r) ∷ []) → IsPlain p
      → LandsAs t b sites x (record { name = p.name; value = path_value q })
  label-lands p r q x l h plain =
      let name : p.name ≡ x.label.now = sym h.0.label in
      record {
        at = q;
        lands = record {
          found = found;
          all = all;
          node = at_node t apart r x.node h.0.node;
          lands = ap (landing found) (path_is t apart r x.node h.0.node) ∙ l;
          label = subst IsPropertyName name plain.0;
          plain = subst (λ (n : Name). n ≢ codes "phandle") name plain.1;
        };
        name = name;
        value = refl;
      }

  -- the labels of nodes that land
  labels-land : (ps : List Property) (xs : List Symbol) → AllByRecursion IsPlain (landed ps) → AreSymbolsOf t xs (kept ps) → AreLanding t b sites xs (landed ps)
  labels-land [] [] plain h = tt
  labels-land [] (x ∷ xs) plain h = absurd h
  labels-land (p ∷ ps) xs plain h = by (λ ys. labels-land ps ys) (node-of (reading_of t) p) refl
    where
      More : Type 0
      More = (ys : List Symbol) → AllByRecursion IsPlain (landed ps) → AreSymbolsOf t ys (kept ps) → AreLanding t b sites ys (landed ps)

      -- no label is kept, and none lands
      skip : More → symbol_brought (reading_of t) p ≡ [] → option_and_then (landing found) (node-of (reading_of t) p) ≡ None → AreLanding t b sites xs (landed (p ∷ ps))
      skip more none e =
          let same : landed (p ∷ ps) ≡ landed ps = ap (λ y. landed_symbol p.name y (landed ps)) e in
          subst (AreLanding t b sites xs) (sym same) (more xs (subst (AllByRecursion IsPlain) same plain) (subst (λ (ys : List (Name × Path)). AreSymbolsOf t xs (ys ++ kept ps)) none h))

      first : More → (r q : Path) → landing found r ≡ Some q → (ys : List Symbol) → AreSymbolsOf t ys ((p.name, r) ∷ kept ps)
          → AllByRecursion IsPlain (record { name = p.name; value = path_value q } ∷ landed ps) → AreLanding t b sites ys (record { name = p.name; value = path_value q } ∷ landed ps)
      first more r q l [] k plains = absurd k
      first more r q l (y ∷ ys) k plains = (label-lands p r q y l (k.0, tt) plains.0, more ys plains.1 k.1)

      some : More → (r : Path) → node-of (reading_of t) p ≡ Some r → (z : Option Path) → landing found r ≡ z → AreLanding t b sites xs (landed (p ∷ ps))
      some more r e None l = skip more (other-brought (reading_of t) p r e (brought-is r None l)) (ap (option_and_then (landing found)) e ∙ l)
      some more r e (Some q) l =
          let same : landed (p ∷ ps) ≡ record { name = p.name; value = path_value q } ∷ landed ps = ap (λ y. landed_symbol p.name y (landed ps)) (ap (option_and_then (landing found)) e ∙ l) in
          let one = one-brought (reading_of t) p r e (brought-is r (Some q) l) in
          subst (AreLanding t b sites xs) (sym same)
          (first more r q l xs (subst (λ (ys : List (Name × Path)). AreSymbolsOf t xs (ys ++ kept ps)) one h) (subst (AllByRecursion IsPlain) same plain))

      by : More → (y : Option Path) → node-of (reading_of t) p ≡ y → AreLanding t b sites xs (landed (p ∷ ps))
      by more None e = skip more (none-brought (reading_of t) p e) (ap (option_and_then (landing found)) e)
      by more (Some r) e = some more r e (landing found r) refl

-- the labels that are kept land as the symbols of the object
pub labels_land : (t : PlacedTree) → HasPlacesApart t → IsValid (reading_of t) → (b : Brought) (sites : List Path) (found : List Site) (labels : List Symbol) → AreToLand t b sites found labels
    → AreLanding t b sites labels (landed_symbols (reading_of t) found (symbols_in (reading_of t)))
labels_land t apart valid b sites found labels to =
    labels-land t apart valid b sites found to.all (symbols_in (reading_of t)) labels (symbols_are_plain (reading_of t) found valid) to.symbols

-- ---- a label's own landing

-- all sites are a front of all fragments
pub whole_front : (found : List Site) (names : List Name) → map (λ (x : Site). x.fragment) found ≡ names → map (λ (x : Site). x.fragment) found ≡ take (length found) names
whole_front found names e =
    let count : length names ≤ length found = omega (arith, ap length e, length-map found (λ (x : Site). x.fragment)) in
    e ∙ sym (take_all (length found) names count)

-- a landing that isn't too deep is refused for memory only
pub only_memory : (object : Reading) (found : List Site) (kind : FaultKind) → AreShallow object found → (kind ≡ NoMemory) ⊎ IsTooDeep kind object found → kind ≡ NoMemory
only_memory object found kind shallow (inl memory) = memory
only_memory object found kind shallow (inr (limit, deep)) =
    let short = shallow deep.0 deep.1 deep.2 deep.3 in
    let long : most_names < length deep.1 = deep.4 in
    absurd (omega (arith, short, long))
