-- Each site is a node of the tree when its turn comes: of the base, or of what the fragments before bring.
use Rattle.std.proofs.Common.{◌≡◌, ℕ, Bool, true, false, ◌||◌, List, [], ◌∷◌, ◌++◌, codes, refl, sym, ap, subst, ◌∙◌, ◌⊎◌, inl, inr, Option, Some, None, append_assoc}
use Rattle.std.specs.Prelude.{is_some, option_and_then, if◌then◌else◌, nat_eq}
use Rattle.std.specs.Option.{option_or}
use Rattle.std.specs.List.{list_any}
use Rattle.std.specs.Str.{bytes_eq}
use Rattle.dt_model.specs.Names.{Name}
use Rattle.dt_model.specs.Path.{Path, path_value}
use Rattle.dt_model.specs.Lists.{IsIn}
use Rattle.dt_model.specs.Overlay.{content}
use Rattle.dt_model.specs.Merged.{Site, landing, sources}
use Rattle.dt_model.specs.Object.{Cell, fragment_names, local_cells}
use Rattle.dt_model.specs.Tree.{Reading, Placed, value_of, nodes_of, stands_in, value_in}
use Rattle.dt_model.specs.Valid.{IsValid}
use Rattle.dt_model.specs.Applied.{Write, number_at, is_cell, node_numbered, node_named, landed_named}
use Rattle.dt_model.proofs.Tests.{or_left, or_right, any_here, in_right}
use Rattle.dt_model.proofs.Listed.{listed_stands, value_stands}
use Rattle.dt_model.proofs.Finding.{landed_named_from}
use Rattle.dt_model_laws.proofs.FragmentOrder.{fragment_found}
use Rattle.dt_model_laws.proofs.Lands.{source_of}
use Rattle.dt_model_laws.proofs.Landing.{StandInTurn}
use Rattle.dt_overlay_model.specs.Walk.{Walked, nothing_walked, is_target, target_label, place_given, named_node, target_of, landed_on, walk_one, walk}
use Rattle.dt_overlay_model.proofs.Places.{places}
use Rattle.dt_overlay_model.proofs.Brought.{new_has}
use Rattle.dt_overlay_model.proofs.Walks.{IsWalked, nothing_is_walked, step_from, walked_more}

-- what a fragment brings is there
pub content_stands : (object : Reading) (f : Name) → IsValid object → IsIn f (fragment_names object.children) → stands_in object (content f) ≡ true
content_stands object f valid i = fragment_found object.children f valid.siblings i

-- ---- nodes that are found

either_some : {A : Type 0} (a b : Option A) (x : A) → option_or a b ≡ Some x → (a ≡ Some x) ⊎ (b ≡ Some x)
either_some None b x e = inr e
either_some (Some y) b x e = inl e

both_some : {A B : Type 0} (f : A → Option B) (a : Option A) (y : B) → option_and_then f a ≡ Some y → (x : A) × (a ≡ Some x) × (f x ≡ Some y)
both_some {A} {B} f None y e = absurd (let z : ◌≡◌ {A = Option B} None (Some y) = e in cc)
both_some f (Some x) y e = (x, refl, e)

numbered_listed : (nodes : List Placed) (n : ℕ) (q : Path) → node_numbered nodes n ≡ Some q → (x : Placed) × IsIn x nodes × (x.path ≡ q)
numbered_listed [] n q h = absurd (let z : None ≡ Some q = h in cc)
numbered_listed (x ∷ nodes) n q h = step (numbered_listed nodes n q) (is_cell n (value_of x.properties (codes "phandle"))) h
  where
    step : (node_numbered nodes n ≡ Some q → (y : Placed) × IsIn y nodes × (y.path ≡ q)) → (b : Bool) → (if b then Some x.path else node_numbered nodes n) ≡ Some q
        → (y : Placed) × IsIn y (x ∷ nodes) × (y.path ≡ q)
    step more true e = (x, inl refl, (let z : Some x.path ≡ Some q = e in cc))
    step more false e = let w = more e in (w.0, inr w.1, w.2)

named_listed : (nodes : List Placed) (value : List ℕ) (q : Path) → node_named nodes value ≡ Some q → (x : Placed) × IsIn x nodes × (x.path ≡ q)
named_listed [] value q h = absurd (let z : None ≡ Some q = h in cc)
named_listed (x ∷ nodes) value q h = step (named_listed nodes value q) (bytes_eq (path_value x.path) value) h
  where
    step : (node_named nodes value ≡ Some q → (y : Placed) × IsIn y nodes × (y.path ≡ q)) → (b : Bool) → (if b then Some x.path else node_named nodes value) ≡ Some q
        → (y : Placed) × IsIn y (x ∷ nodes) × (y.path ≡ q)
    step more true e = (x, inl refl, (let z : Some x.path ≡ Some q = e in cc))
    step more false e = let w = more e in (w.0, inr w.1, w.2)

given_place : (given : List (Path × ℕ)) (n : ℕ) (q : Path) → place_given given n ≡ Some q → IsIn q (places given)
given_place [] n q h = absurd (let z : None ≡ Some q = h in cc)
given_place ((r, k) ∷ given) n q h = step (given_place given n q) (nat_eq n k) h
  where
    step : (place_given given n ≡ Some q → IsIn q (places given)) → (b : Bool) → (if b then Some r else place_given given n) ≡ Some q → IsIn q (r ∷ places given)
    step more true e = inl (let z : Some r ≡ Some q = e in cc)
    step more false e = inr (more e)

listed_there : (t : Reading) → IsValid t → (q : Path) → (x : Placed) × IsIn x (nodes_of t) × (x.path ≡ q) → stands_in t q ≡ true
listed_there t valid q w = ap (stands_in t) (sym w.2) ∙ listed_stands t w.0 valid w.1

module _ (base object : Reading) (fixups : List (Name × Cell)) (valid_base : IsValid base) (valid : IsValid object) where
  -- the tree so far: the base with what the fragments before bring
  abbrev IsSoFar : List Site → Path → Type 0
  IsSoFar earlier q = list_any (stands_in object) (sources earlier q) || stands_in base q ≡ true

  in_base : (earlier : List Site) (q : Path) → stands_in base q ≡ true → IsSoFar earlier q
  in_base earlier q h = or_right (list_any (stands_in object) (sources earlier q)) (stands_in base q) h

  has_landed : (earlier : List Site) (p q : Path) → stands_in object p ≡ true → landing earlier p ≡ Some q → IsSoFar earlier q
  has_landed earlier p q h l = or_left (list_any (stands_in object) (sources earlier q)) (stands_in base q) (any_here (stands_in object) (sources earlier q) p (source_of earlier p q l) h)

  has_value : (y : Option (List ℕ)) → is_some y ≡ true → (v : List ℕ) × (y ≡ Some v)
  has_value None h = absurd (let z : false ≡ true = h in cc)
  has_value (Some v) h = (v, refl)

  by_number : (done : List Name) (w : Walked) → IsWalked base object done w → (l : Option Name) (own : Bool) (n : ℕ) (q : Path) → named_node base object w l own n ≡ Some q → IsSoFar w.sites q
  by_number done w h (Some l) own n q e =
      let v = both_some (node_named (nodes_of base)) (value_in base (codes "__symbols__" ∷ []) l) q e in
      in_base w.sites q (listed_there base valid_base q (named_listed (nodes_of base) v.0 q v.2))
  by_number done w h None true n q e =
      let v = both_some (landing w.sites) (node_numbered (nodes_of object) n) q e in
      has_landed w.sites v.0 q (listed_there object valid v.0 (numbered_listed (nodes_of object) n v.0 v.1)) v.2
  by_number done w h None false n q e = elim (either_some (node_numbered (nodes_of base) n) (place_given w.given n) q e) [
    | inl k ↦ in_base w.sites q (listed_there base valid_base q (numbered_listed (nodes_of base) n q k))
    | inr k ↦
        let v = h.of q (given_place w.given n q k) in
        let x = has_value (value_in object v.0 (codes "phandle")) (new_has object valid v.0 v.1) in
        has_landed w.sites v.0 q (value_stands object v.0 (codes "phandle") x.0 x.1) v.2
  ]

  target_there : (done : List Name) (w : Walked) → IsWalked base object done w → (f : Name) (y : Option (List ℕ)) (q : Path) → target_of base object fixups w f y ≡ Some q → IsSoFar w.sites q
  target_there done w h f (Some value) q e = by_number done w h (target_label f fixups) (list_any (is_target f) (local_cells object)) (number_at value 0) q e
  target_there done w h f None q e =
      let v = both_some (λ text. option_or (node_named (nodes_of base) text) (landed_named (nodes_of object) w.sites text)) (value_in object (f ∷ []) (codes "target-path")) q e in
      elim (either_some (node_named (nodes_of base) v.0) (landed_named (nodes_of object) w.sites v.0) q v.2) [
        | inl k ↦ in_base w.sites q (listed_there base valid_base q (named_listed (nodes_of base) v.0 q k))
        | inr k ↦
            let x = landed_named_from (nodes_of object) w.sites v.0 q k in
            has_landed w.sites x.0.path q (listed_stands object x.0 valid x.1) x.2
      ]

  module _ (ws : List Write) (numbers : List (Path × ℕ)) where
    in_turn_from : (fs done : List Name) (w end : Walked) → IsWalked base object done w → done ++ fs ≡ fragment_names object.children → walk base object fixups w fs ≡ Some end
        → (sites : List Site) × (end.sites ≡ w.sites ++ sites) × StandInTurn object ws numbers valid base w.sites sites
    in_turn_from [] done w end h all k =
        let same : w ≡ end = let z : ◌≡◌ {A = Option Walked} (Some w) (Some end) = k in cc in
        ([], ap (λ (z : Walked). z.sites) (sym same) ∙ nothing_behind w.sites, tt)
      where
        nothing_behind : (xs : List Site) → xs ≡ xs ++ []
        nothing_behind [] = refl
        nothing_behind (x ∷ xs) = ap (λ z. x ∷ z) (nothing_behind xs)
    in_turn_from (f ∷ fs) done w end h all k = step (λ next a b c. in_turn_from fs (done ++ f ∷ []) next end a b c) (walk_one base object fixups w f) refl k
      where
        in_all : IsIn f (fragment_names object.children)
        in_all = subst (IsIn f) all (in_right f done (f ∷ fs) (inl refl))

        step : ((next : Walked) → IsWalked base object (done ++ f ∷ []) next → (done ++ f ∷ []) ++ fs ≡ fragment_names object.children → walk base object fixups next fs ≡ Some end
            → (sites : List Site) × (end.sites ≡ next.sites ++ sites) × StandInTurn object ws numbers valid base next.sites sites)
            → (y : Option Walked) → walk_one base object fixups w f ≡ y → option_and_then (λ next. walk base object fixups next fs) y ≡ Some end
            → (sites : List Site) × (end.sites ≡ w.sites ++ sites) × StandInTurn object ws numbers valid base w.sites sites
        step more None e k = absurd (let z : ◌≡◌ {A = Option Walked} None (Some end) = k in cc)
        step more (Some next) e k =
            let one = step_from base object fixups w f next e in
            let here : IsWalked base object (done ++ f ∷ []) (landed_on base object w f one.at) = walked_more base object fixups valid done fs w f one.at h all one.plain in
            let rest = more (landed_on base object w f one.at) here (append_assoc done (f ∷ []) fs ∙ all) (subst (λ z. walk base object fixups z fs ≡ Some end) one.is k) in
            let x : Site = record { fragment = f; at = one.at } in
            (x ∷ rest.0, rest.1 ∙ append_assoc w.sites (x ∷ []) rest.0, (target_there done w h f (value_in object (f ∷ []) (codes "target")) one.at one.named, content_stands object f valid in_all, rest.2))

    -- the sites to which a walk comes
    pub in_turn : (end : Walked) → walk base object fixups nothing_walked (fragment_names object.children) ≡ Some end → StandInTurn object ws numbers valid base [] end.sites
    in_turn end k =
        let v = in_turn_from (fragment_names object.children) [] nothing_walked end (nothing_is_walked base object) refl k in
        subst (StandInTurn object ws numbers valid base []) (sym v.1) v.2
