-- What look-ups find after all fragments have landed: the last that lands decides, else the tree before.
use Rattle.std.proofs.Common.{◌≡◌, ℕ, Bool, true, false, ◌||◌, List, [], ◌∷◌, ◌++◌, refl, sym, ap, ◌∙◌, Option, Some, None}
use Rattle.std.specs.Prelude.{is_some, option_map, option_and_then}
use Rattle.std.specs.Option.{option_or}
use Rattle.std.specs.List.{list_any}
use Rattle.dt_model.specs.Names.{Name}
use Rattle.dt_model.specs.Path.{Path, below}
use Rattle.dt_model.specs.Lists.{last_of}
use Rattle.dt_model.specs.Overlay.{content}
use Rattle.dt_model.specs.Merged.{Site, moved, with_first, sources}
use Rattle.dt_model.specs.Tree.{Reading, node_below, node_at, stands_in, value_in}
use Rattle.dt_model.specs.Valid.{IsValid}
use Rattle.dt_model.specs.Changes.{merged_node, changed_at}
use Rattle.dt_model.specs.Applied.{Write, brought, with_fragments}
use Rattle.dt_model_laws.proofs.Merging.{value_below}
use Rattle.dt_model_laws.proofs.Changing.{value-changed, stands-changed}
use Rattle.dt_model_laws.proofs.Brought.{written_value, value-brought, stands-brought, apart-brought}

module _ (object : Reading) (ws : List Write) (numbers : List (Path × ℕ)) (valid : IsValid object) where
  -- what a node of the object has of a property, with its cells written
  abbrev pub value_from : Name → Path → Option (List ℕ)
  value_from name p = option_map (written_value ws numbers p name) (value_in object p name)

  abbrev pub with_fragment : Reading → Site → Reading
  with_fragment t x = changed_at (λ n. merged_node n (brought ws numbers x.fragment (node_at object (content x.fragment)))) x.at t

  -- each site is a node of the tree when its turn comes, and what lands there is one of the object's
  abbrev pub AreThere : Reading → List Site → Type 0
  AreThere t [] = Unit {0}
  AreThere t (x ∷ sites) = (stands_in t x.at ≡ true) × (stands_in object (content x.fragment) ≡ true) × AreThere (with_fragment t x) sites

  pub value-with_fragments : (sites : List Site) (t : Reading) (q : Path) (name : Name) → AreThere t sites
      → value_in (with_fragments t object ws numbers sites) q name ≡ option_or (last_of (value_from name) (sources sites q)) (value_in t q name)
  value-with_fragments [] t q name h = refl
  value-with_fragments (x ∷ sites) t q name h =
      value-with_fragments sites (with_fragment t x) q name h.2
      ∙ ap (option_or (last_of (value_from name) (sources sites q))) (value-changed t x.at (brought ws numbers x.fragment (node_at object (content x.fragment))) (apart-brought object ws numbers x.fragment valid) h.0 q name)
      ∙ step (below x.at q) (last_of (value_from name) (sources sites q)) refl
    where
      step : (s : Option Path) (y : Option (List ℕ)) → last_of (value_from name) (sources sites q) ≡ y
          → option_or (last_of (value_from name) (sources sites q)) (option_or (option_and_then (λ r. value_below (brought ws numbers x.fragment (node_at object (content x.fragment))) r name) s) (value_in t q name))
          ≡ option_or (last_of (value_from name) (with_first (option_map (λ r. content x.fragment ++ r) s) (sources sites q))) (value_in t q name)
      step None y e = refl
      step (Some r) None e = rw e (ap (λ z. option_or z (value_in t q name)) (value-brought object ws numbers x.fragment r name))
      step (Some r) (Some v) e = rw e refl

  swap_or : (a b c : Bool) → a || (b || c) ≡ (b || a) || c
  swap_or true true c = refl
  swap_or true false c = refl
  swap_or false true c = refl
  swap_or false false c = refl

  or_assoc : (a b c : Bool) → a || (b || c) ≡ (a || b) || c
  or_assoc true b c = refl
  or_assoc false b c = refl

  -- one fragment more
  stands-with_fragment : (x : Site) (t : Reading) (q : Path) → stands_in t x.at ≡ true → stands_in object (content x.fragment) ≡ true
      → stands_in (with_fragment t x) q ≡ list_any (stands_in object) (with_first (moved x.at (content x.fragment) q) []) || stands_in t q
  stands-with_fragment x t q h there =
      stands-changed t x.at (brought ws numbers x.fragment (node_at object (content x.fragment))) (apart-brought object ws numbers x.fragment valid) h q
      ∙ step (below x.at q)
    where
      or_false : (b : Bool) → b ≡ b || false
      or_false true = refl
      or_false false = refl

      step : (s : Option Path) → is_some (option_and_then (λ r. node_below (brought ws numbers x.fragment (node_at object (content x.fragment))) r) s) || stands_in t q
          ≡ list_any (stands_in object) (with_first (option_map (λ r. content x.fragment ++ r) s) []) || stands_in t q
      step None = refl
      step (Some r) = ap (λ b. b || stands_in t q) (stands-brought object ws numbers x.fragment r there ∙ or_false (stands_in object (content x.fragment ++ r)))

  first_or : (s : Option Path) (ps : List Path) → list_any (stands_in object) (with_first s ps) ≡ list_any (stands_in object) (with_first s []) || list_any (stands_in object) ps
  first_or None ps = refl
  first_or (Some p) ps = or_cons (stands_in object p) (list_any (stands_in object) ps)
    where
      or_cons : (a b : Bool) → a || b ≡ (a || false) || b
      or_cons true b = refl
      or_cons false b = refl

  pub stands-with_fragments : (sites : List Site) (t : Reading) (q : Path) → AreThere t sites
      → stands_in (with_fragments t object ws numbers sites) q ≡ list_any (stands_in object) (sources sites q) || stands_in t q
  stands-with_fragments [] t q h = refl
  stands-with_fragments (x ∷ sites) t q h =
      let a = list_any (stands_in object) (sources sites q) in
      let b = list_any (stands_in object) (with_first (moved x.at (content x.fragment) q) []) in
      stands-with_fragments sites (with_fragment t x) q h.2
      ∙ ap (λ z. a || z) (stands-with_fragment x t q h.0 h.1)
      ∙ swap_or a b (stands_in t q)
      ∙ ap (λ z. z || stands_in t q) (sym (first_or (moved x.at (content x.fragment) q) (sources sites q)))

  -- each site is a node of the base, or of what the fragments before bring
  abbrev pub StandInTurn : Reading → List Site → List Site → Type 0
  StandInTurn base earlier [] = Unit {0}
  StandInTurn base earlier (x ∷ sites) =
      (list_any (stands_in object) (sources earlier x.at) || stands_in base x.at ≡ true) × (stands_in object (content x.fragment) ≡ true) × StandInTurn base (earlier ++ x ∷ []) sites

  any_last : (earlier : List Site) (x : Site) (q : Path)
      → list_any (stands_in object) (sources (earlier ++ x ∷ []) q) ≡ list_any (stands_in object) (with_first (moved x.at (content x.fragment) q) []) || list_any (stands_in object) (sources earlier q)
  any_last [] x q = or_false (list_any (stands_in object) (with_first (moved x.at (content x.fragment) q) []))
    where
      or_false : (b : Bool) → b ≡ b || false
      or_false true = refl
      or_false false = refl
  any_last (y ∷ earlier) x q =
      let a = list_any (stands_in object) (with_first (moved y.at (content y.fragment) q) []) in
      let b = list_any (stands_in object) (with_first (moved x.at (content x.fragment) q) []) in
      let c = list_any (stands_in object) (sources earlier q) in
      first_or (moved y.at (content y.fragment) q) (sources (earlier ++ x ∷ []) q)
      ∙ ap (λ z. a || z) (any_last earlier x q)
      ∙ swap_or a b c
      ∙ sym (or_assoc b a c)
      ∙ ap (λ z. b || z) (sym (first_or (moved y.at (content y.fragment) q) (sources earlier q)))

  pub there_from : (sites earlier : List Site) (base t : Reading) → ((q : Path) → stands_in t q ≡ list_any (stands_in object) (sources earlier q) || stands_in base q) → StandInTurn base earlier sites → AreThere t sites
  there_from [] earlier base t same h = tt
  there_from (x ∷ sites) earlier base t same h =
      let here : stands_in t x.at ≡ true = same x.at ∙ h.0 in (
        here,
        h.1,
        there_from sites (earlier ++ x ∷ []) base (with_fragment t x) (λ q.
            let a = list_any (stands_in object) (with_first (moved x.at (content x.fragment) q) []) in
            stands-with_fragment x t q here h.1 ∙ ap (λ z. a || z) (same q) ∙ or_assoc a (list_any (stands_in object) (sources earlier q)) (stands_in base q) ∙ ap (λ z. z || stands_in base q) (sym (any_last earlier x q))) h.2,
      )

  pub reservations_stay : (sites : List Site) (t : Reading) → (with_fragments t object ws numbers sites).reservations ≡ t.reservations
  reservations_stay [] t = refl
  reservations_stay (x ∷ sites) t = reservations_stay sites (with_fragment t x)

  pub boot_cpu_stays : (sites : List Site) (t : Reading) → (with_fragments t object ws numbers sites).boot_cpu ≡ t.boot_cpu
  boot_cpu_stays [] t = refl
  boot_cpu_stays (x ∷ sites) t = boot_cpu_stays sites (with_fragment t x)
