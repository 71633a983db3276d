-- No symbol that lands is a phandle: it would have the text of a path, which is longer.
use Rattle.std.proofs.Common.{◌≡◌, ◌≢◌, ℕ, ◌<◌, Bool, true, false, List, [], ◌∷◌, ◌++◌, map, length, length-append, codes, refl, sym, ap, subst, ◌∙◌, Option, Some, None, arith}
use Rattle.std.specs.Prelude.{option_and_then}
use Rattle.std.specs.List.{AllByRecursion}
use Rattle.std.specs.Str.{bytes_eq}
use Rattle.dt_model.specs.Names.{Name, IsPropertyName}
use Rattle.dt_model.specs.Path.{Path, path_text, path_value}
use Rattle.dt_model.specs.Lists.{IsIn}
use Rattle.dt_model.specs.Overlay.{content}
use Rattle.dt_model.specs.Merged.{Site, landing}
use Rattle.dt_model.specs.Object.{properties_of}
use Rattle.dt_model.specs.Tree.{Property, Reading, Node, Placed, value_of, root_of, node_at, nodes_of, value_in}
use Rattle.dt_model.specs.Valid.{AreDistinct, IsValid, IsPhandle, phandle_values, phandles}
use Rattle.dt_model.specs.Applied.{node_named, landed_symbol, landed_symbols}
use Rattle.dt_overlay_laws.specs.Laws.{SymbolsArePlain}
use Rattle.dt_model.proofs.Tests.{bytes_eq_true, bytes_eq_differ, each_in}
use Rattle.dt_model.proofs.Distinct.{in_flat}
use Rattle.dt_model_laws.proofs.Merging.{no_value}
use Rattle.dt_model_laws.proofs.Placed.{landing_from}
use Rattle.dt_model.proofs.Listed.{value_listed}
use Rattle.dt_model.proofs.Preorder.{phandle_list, all_phandles, value_in_list}
use Rattle.dt_model_laws.proofs.KeptNames.{good_below}
use Rattle.dt_model_laws.proofs.GoodResult.{good_root}

-- the phandle of a node of a valid tree is one
pub phandle_there : (t : Reading) (q : Path) (v : List ℕ) → IsValid t → value_in t q (codes "phandle") ≡ Some v → IsPhandle v
phandle_there t q v valid h =
    let w = value_listed t q (codes "phandle") v h in
    let i = in_flat phandle_list (nodes_of t) w.0 v w.1 (value_in_list w.0.properties v w.3) in
    each_in IsPhandle (phandle_values t.properties ++ phandles t.children) v valid.phandles_valid (subst (IsIn v) (all_phandles t) i)

-- a node that is found by a text has it
pub named_text : (nodes : List Placed) (value : List ℕ) (p : Path) → node_named nodes value ≡ Some p → path_value p ≡ value
named_text [] value p h = absurd (let z : None ≡ Some p = h in cc)
named_text (x ∷ nodes) value p h = step (named_text nodes value p) (bytes_eq (path_value x.path) value) refl
  where
    step : (node_named nodes value ≡ Some p → path_value p ≡ value) → (b : Bool) → bytes_eq (path_value x.path) value ≡ b → path_value p ≡ value
    step more true e = let z : Some x.path ≡ Some p = rw e at h in let is : x.path ≡ p = cc in ap path_value (sym is) ∙ bytes_eq_true (path_value x.path) value e
    step more false e = more (rw e at h)

-- the text of a path of what a fragment brings has more than four bytes
long_text : (f : Name) (rest : Path) → 4 < length (path_value (content f ++ rest))
long_text f [] =
    let a = length-append f (codes "/__overlay__") in
    let b = length-append (path_text (content f)) (0 ∷ []) in
    omega (arith, a, b)
long_text f (x ∷ rest) =
    let a = length-append f (codes "/__overlay__" ++ path_text (x ∷ rest)) in
    let b = length-append (path_text (content f ++ x ∷ rest)) (0 ∷ []) in
    let c = length-append (codes "/__overlay__") (path_text (x ∷ rest)) in
    omega (arith, a, b, c)

module _ (object : Reading) (sites : List Site) where
  abbrev lands : List ℕ → Option Path
  lands value = option_and_then (landing sites) (node_named (nodes_of object) value)

  -- what lands by a text has more than four bytes
  lands_long : (value : List ℕ) (q : Path) → lands value ≡ Some q → 4 < length value
  lands_long value q h = step (node_named (nodes_of object) value) refl
    where
      step : (y : Option Path) → node_named (nodes_of object) value ≡ y → 4 < length value
      step None e = absurd (let z : None ≡ Some q = sym (ap (option_and_then (landing sites)) e) ∙ h in cc)
      step (Some p) e =
          let w = landing_from sites p q (sym (ap (option_and_then (landing sites)) e) ∙ h) in
          subst (λ v. 4 < length v) (ap path_value (sym w.3) ∙ named_text (nodes_of object) value p e) (long_text w.0.fragment w.1)

  abbrev IsPlainSymbol : Property → Type 0
  IsPlainSymbol x = IsPropertyName x.name × (x.name ≢ codes "phandle")

  plain_from : (ps : List Property) → AllByRecursion (λ (p : Property). IsPropertyName p.name) ps → AreDistinct (map (λ (p : Property). p.name) ps)
      → ((v : List ℕ) → value_of ps (codes "phandle") ≡ Some v → IsPhandle v) → AllByRecursion IsPlainSymbol (landed_symbols object sites ps)
  plain_from [] named distinct h = tt
  plain_from (p ∷ ps) named distinct h = step (plain_from ps named.1 distinct.1) (bytes_eq (codes "phandle") p.name) refl (lands p.value) refl
    where
      step : (((v : List ℕ) → value_of ps (codes "phandle") ≡ Some v → IsPhandle v) → AllByRecursion IsPlainSymbol (landed_symbols object sites ps))
          → (b : Bool) → bytes_eq (codes "phandle") p.name ≡ b → (y : Option Path) → lands p.value ≡ y → AllByRecursion IsPlainSymbol (landed_symbol p.name y (landed_symbols object sites ps))
      step more true e None k =
          more (λ v z. absurd (let y : None ≡ Some v = sym (ap (value_of ps) (bytes_eq_true (codes "phandle") p.name e) ∙ no_value ps p.name distinct.0) ∙ z in cc))
      step more true e (Some q) k =
          let four = (h p.value (rw e refl)).four in
          let long = lands_long p.value q k in
          absurd (omega (arith, four, long))
      step more false e None k = more (λ v z. h v (rw e z))
      step more false e (Some q) k = ((named.0, λ same. bytes_eq_differ (codes "phandle") p.name e (sym same)), more (λ v z. h v (rw e z)))

pub symbols_are_plain : SymbolsArePlain
symbols_are_plain object sites valid = step (node_at object (codes "__symbols__" ∷ [])) refl
  where
    step : (y : Option Node) → node_at object (codes "__symbols__" ∷ []) ≡ y → AllByRecursion (IsPlainSymbol object sites) (landed_symbols object sites (properties_of y))
    step None e = tt
    step (Some n) e =
        let good = good_below (codes "__symbols__" ∷ []) (root_of object) n (good_root object valid) e in
        plain_from object sites n.properties good.properties.named good.properties.distinct
        (λ v z. phandle_there object (codes "__symbols__" ∷ []) v valid (ap (option_and_then (λ (c : Node). value_of c.properties (codes "phandle"))) e ∙ z))
