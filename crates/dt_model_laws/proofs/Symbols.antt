-- What look-ups find after the landed labels are set in `__symbols__`.
use Rattle.std.proofs.Common.{◌≡◌, ◌≢◌, ℕ, Bool, true, false, ◌||◌, List, [], ◌∷◌, map, codes, refl, sym, ap, ◌∙◌, Option, Some, None}
use Rattle.std.specs.Prelude.{is_some, option_map, option_and_then, if◌then◌else◌}
use Rattle.std.specs.Option.{option_or}
use Rattle.std.specs.List.{AllByRecursion}
use Rattle.std.specs.Str.{bytes_eq}
use Rattle.dt_model.specs.Names.{Name}
use Rattle.dt_model.specs.Path.{Path, path_value}
use Rattle.dt_model.specs.Merged.{Site, landing}
use Rattle.dt_model.specs.Tree.{Property, no_nodes, branch, Reading, value_of, Node, node_below, nodes_of, stands_in, value_in}
use Rattle.dt_model.specs.Valid.{AreDistinct}
use Rattle.dt_model.specs.Applied.{node_named, landed_symbol, landed_symbols, with_symbols_merged}
use Rattle.dt_model.proofs.Tests.{bytes_eq_true}
use Rattle.dt_model_laws.proofs.Merging.{IsApart, no_value, value_below}
use Rattle.dt_model_laws.proofs.Changing.{value-changed, stands-changed}

module _ (object : Reading) (sites : List Site) where
  -- where the node that a text names lands
  abbrev pub lands : List ℕ → Option Path
  lands value = option_and_then (landing sites) (node_named (nodes_of object) value)

  pub value_of-landed : (ps : List Property) (l : Name) → AreDistinct (map (λ (p : Property). p.name) ps)
      → value_of (landed_symbols object sites ps) l ≡ option_map path_value (option_and_then (landing sites) (option_and_then (node_named (nodes_of object)) (value_of ps l)))
  value_of-landed [] l d = refl
  value_of-landed (p ∷ ps) l d = step (value_of-landed ps l d.1) (lands p.value) refl (bytes_eq l p.name) refl
    where
      step : value_of (landed_symbols object sites ps) l ≡ option_map path_value (option_and_then (landing sites) (option_and_then (node_named (nodes_of object)) (value_of ps l)))
          → (y : Option Path) → lands p.value ≡ y → (b : Bool) → bytes_eq l p.name ≡ b
          → value_of (landed_symbol p.name (lands p.value) (landed_symbols object sites ps)) l ≡ option_map path_value (option_and_then (landing sites) (option_and_then (node_named (nodes_of object)) (if bytes_eq l p.name then Some p.value else value_of ps l)))
      step more (Some q) e true k = rw (e, k) (ap (option_map path_value) (sym e))
      step more (Some q) e false k = rw (e, k) more
      step more None e true k =
          let none : value_of ps l ≡ None = ap (value_of ps) (bytes_eq_true l p.name k) ∙ no_value ps p.name d.0 in
          rw (e, k) (more ∙ ap (λ z. option_map path_value (option_and_then (landing sites) (option_and_then (node_named (nodes_of object)) z))) none ∙ ap (option_map path_value) (sym e))
      step more None e false k = rw (e, k) more

  landed_names : (P : Name → Type 0) (ps : List Property) → AllByRecursion P (map (λ (p : Property). p.name) ps) → AllByRecursion P (map (λ (p : Property). p.name) (landed_symbols object sites ps))
  landed_names P [] h = tt
  landed_names P (p ∷ ps) h = step (landed_names P ps h.1) (lands p.value)
    where
      step : AllByRecursion P (map (λ (p : Property). p.name) (landed_symbols object sites ps)) → (y : Option Path) → AllByRecursion P (map (λ (p : Property). p.name) (landed_symbol p.name y (landed_symbols object sites ps)))
      step more None = more
      step more (Some q) = (h.0, more)

  pub landed_distinct : (ps : List Property) → AreDistinct (map (λ (p : Property). p.name) ps) → AreDistinct (map (λ (p : Property). p.name) (landed_symbols object sites ps))
  landed_distinct [] d = tt
  landed_distinct (p ∷ ps) d = step (landed_distinct ps d.1) (lands p.value)
    where
      step : AreDistinct (map (λ (p : Property). p.name) (landed_symbols object sites ps)) → (y : Option Path) → AreDistinct (map (λ (p : Property). p.name) (landed_symbol p.name y (landed_symbols object sites ps)))
      step more None = more
      step more (Some q) = (landed_names (λ z. z ≢ p.name) ps d.0, more)

-- a root whose only child is `__symbols__`
abbrev pub symbols_node : List Property → Node
symbols_node ps = record { properties = []; children = branch (codes "__symbols__") ps no_nodes no_nodes }

symbols_apart : (ps : List Property) → AreDistinct (map (λ (p : Property). p.name) ps) → IsApart (symbols_node ps)
symbols_apart ps d = record { properties = tt; children = (d, tt, tt, tt); names = (tt, tt) }

other_below : (ps : List Property) (x : Name) (p : Path) → x ∷ p ≢ codes "__symbols__" ∷ [] → node_below (symbols_node ps) (x ∷ p) ≡ None
other_below ps x p ne = step p (bytes_eq x (codes "__symbols__")) refl ne
  where
    step : (r : Path) (b : Bool) → bytes_eq x (codes "__symbols__") ≡ b → x ∷ r ≢ codes "__symbols__" ∷ [] → node_below (symbols_node ps) (x ∷ r) ≡ None
    step r false e other = rw e refl
    step [] true e other = absurd (other (ap (λ (z : Name). z ∷ []) (bytes_eq_true x (codes "__symbols__") e)))
    step (y ∷ r) true e other = rw e refl

module _ (ps : List Property) (t : Reading) (d : AreDistinct (map (λ (p : Property). p.name) ps)) where
  pub value-with_symbols_merged : (q : Path) (name : Name) → q ≢ codes "__symbols__" ∷ [] → value_in (with_symbols_merged ps t) q name ≡ value_in t q name
  value-with_symbols_merged q name ne = step ps d
    where
      none : (ps : List Property) (q : Path) → q ≢ codes "__symbols__" ∷ [] → value_below (symbols_node ps) q name ≡ None
      none ps [] other = refl
      none ps (x ∷ p) other = ap (option_and_then (λ (c : Node). value_of c.properties name)) (other_below ps x p other)

      step : (ps : List Property) → AreDistinct (map (λ (p : Property). p.name) ps) → value_in (with_symbols_merged ps t) q name ≡ value_in t q name
      step [] d = refl
      step (p ∷ ps) d = value-changed t [] (symbols_node (p ∷ ps)) (symbols_apart (p ∷ ps) d) refl q name ∙ ap (λ z. option_or z (value_in t q name)) (none (p ∷ ps) q ne)

  pub stands-with_symbols_merged : (q : Path) → q ≢ codes "__symbols__" ∷ [] → stands_in (with_symbols_merged ps t) q ≡ stands_in t q
  stands-with_symbols_merged q ne = step ps d q ne
    where
      step : (ps : List Property) → AreDistinct (map (λ (p : Property). p.name) ps) → (q : Path) → q ≢ codes "__symbols__" ∷ [] → stands_in (with_symbols_merged ps t) q ≡ stands_in t q
      step [] d q ne = refl
      step (p ∷ ps) d [] ne = refl
      step (p ∷ ps) d (x ∷ q) ne = stands-changed t [] (symbols_node (p ∷ ps)) (symbols_apart (p ∷ ps) d) refl (x ∷ q) ∙ ap (λ z. is_some z || stands_in t (x ∷ q)) (other_below (p ∷ ps) x q ne)

  pub symbols-with_symbols_merged : (l : Name) → value_in (with_symbols_merged ps t) (codes "__symbols__" ∷ []) l ≡ option_or (value_of ps l) (value_in t (codes "__symbols__" ∷ []) l)
  symbols-with_symbols_merged l = step ps d
    where
      step : (ps : List Property) → AreDistinct (map (λ (p : Property). p.name) ps) → value_in (with_symbols_merged ps t) (codes "__symbols__" ∷ []) l ≡ option_or (value_of ps l) (value_in t (codes "__symbols__" ∷ []) l)
      step [] d = refl
      step (p ∷ ps) d = value-changed t [] (symbols_node (p ∷ ps)) (symbols_apart (p ∷ ps) d) refl (codes "__symbols__" ∷ []) l

pub reservations-with_symbols_merged : (ps : List Property) (t : Reading) → (with_symbols_merged ps t).reservations ≡ t.reservations
reservations-with_symbols_merged [] t = refl
reservations-with_symbols_merged (p ∷ ps) t = refl

pub boot_cpu-with_symbols_merged : (ps : List Property) (t : Reading) → (with_symbols_merged ps t).boot_cpu ≡ t.boot_cpu
boot_cpu-with_symbols_merged [] t = refl
boot_cpu-with_symbols_merged (p ∷ ps) t = refl
