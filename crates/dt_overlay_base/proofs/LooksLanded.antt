-- Nodes of an object that land one after another.
use Rattle.std.proofs.Common.{◌≡◌, ℕ, ◌≤◌, Bool, true, false, List, [], ◌∷◌, ◌++◌, length, map, refl, sym, ap, subst, ◌∙◌, inl, inr, append_assoc, append-nil, arith}
use Rattle.std.specs.Prelude.{is_some, if◌then◌else◌}
use Rattle.std.proofs.lemmas.List.{length-append, map-append}
use Rattle.dt_model.specs.Limits.{most_nodes}
use Rattle.dt_model.specs.Path.{Path}
use Rattle.dt_model.specs.Tree.{Reading, Placed}
use Rattle.dt_names.specs.declared.fault.FaultKind.{FaultKind}
use Rattle.dt_overlay_model.specs.Walk.{number_there, with_place, with_places, has_phandle, least_free}
use Rattle.dt_overlay_laws.specs.Landings.{MayAllLand, IsStuck}
use Rattle.dt_model.specs.Numbers.{numbers_of}
use Rattle.dt_overlay_base.specs.Known.{Known, IsKnown, HasRoom, paths_of}

-- ---- nodes behind others

pub with_places-append : (base : Reading) (xs ys : List Placed) (given : List (Path × ℕ)) → with_places base (xs ++ ys) given ≡ with_places base ys (with_places base xs given)
with_places-append base [] ys given = refl
with_places-append base (x ∷ xs) ys given = with_places-append base xs ys (if has_phandle x then with_place base x.path given else given)

pub all_land : (xs ys : List Placed) → MayAllLand xs → MayAllLand ys → MayAllLand (xs ++ ys)
all_land [] ys h k = k
all_land (x ∷ xs) ys h k = (h.0, all_land xs ys h.1 k)

pub stuck_first : (kind : FaultKind) (xs ys : List Placed) → IsStuck kind xs → IsStuck kind (xs ++ ys)
stuck_first kind [] ys h = absurd h
stuck_first kind (x ∷ xs) ys (inl why) = inl why
stuck_first kind (x ∷ xs) ys (inr h) = inr (h.0, stuck_first kind xs ys h.1)

pub stuck_behind : (kind : FaultKind) (xs ys : List Placed) → MayAllLand xs → IsStuck kind ys → IsStuck kind (xs ++ ys)
stuck_behind kind [] ys h k = k
stuck_behind kind (x ∷ xs) ys h k = inr (h.0, stuck_behind kind xs ys h.1 k)

-- ---- room

place_adds : (base : Reading) (q : Path) (given : List (Path × ℕ)) → length given ≤ length (with_place base q given)
place_adds base q given = step (is_some (number_there base given q))
  where
    more : List (Path × ℕ)
    more = (q, least_free (map (λ (x : Path × ℕ). x.1) given ++ numbers_of base)) ∷ []

    step : (b : Bool) → length given ≤ length (if b then given else given ++ more)
    step true = omega arith
    step false = let e = length-append given more in omega (arith, e)

places_add : (base : Reading) (nodes : List Placed) (given : List (Path × ℕ)) → length given ≤ length (with_places base nodes given)
places_add base [] given = omega arith
places_add base (n ∷ nodes) given = step (has_phandle n) (λ g. places_add base nodes g)
  where
    step : (b : Bool) → ((g : List (Path × ℕ)) → length g ≤ length (with_places base nodes g)) → length given ≤ length (with_places base nodes (if b then with_place base n.path given else given))
    step true more = let one = place_adds base n.path given in let rest = more (with_place base n.path given) in omega (arith, one, rest)
    step false more = more given

-- for the first of some nodes
pub room_first : (base : Reading) (xs ys : List Placed) (a : Known) → HasRoom base (xs ++ ys) a → HasRoom base xs a
room_first base xs ys a h = record {
  given = h.given;
  landed = h.landed;
  known = h.known;
  few =
      let same = ap length (with_places-append base xs ys h.given) in
      let more = places_add base ys (with_places base xs h.given) in
      let few = h.few in
      omega (arith, same, more, few);
}

-- and for those behind them, once they have landed
pub room_behind : (base : Reading) (xs ys : List Placed) (a b : Known) → HasRoom base (xs ++ ys) a
    → ((given : List (Path × ℕ)) (landed : List Path) → IsKnown base given landed a → IsKnown base (with_places base xs given) (landed ++ paths_of xs) b) → HasRoom base ys b
room_behind base xs ys a b h f = record {
  given = with_places base xs h.given;
  landed = h.landed ++ paths_of xs;
  known = f h.given h.landed h.known;
  few = subst (λ (g : List (Path × ℕ)). length g ≤ most_nodes) (with_places-append base xs ys h.given) h.few;
}

-- ---- one after another

-- nodes have landed, and these are left
pub record AreLeft (base : Reading) (all left : List Placed) (a b : Known) : Type 0 where
  pub known : (given : List (Path × ℕ)) (landed : List Path) → IsKnown base given landed a
      → (done : List Placed) × (all ≡ done ++ left) × IsKnown base (with_places base done given) (landed ++ paths_of done) b
  pub room : HasRoom base left b
  pub may : MayAllLand left → MayAllLand all
  pub stuck : (kind : FaultKind) → IsStuck kind left → IsStuck kind all

pub left_begun : (base : Reading) (all left : List Placed) (a : Known) → left ≡ all → HasRoom base all a → AreLeft base all left a a
left_begun base all left a e room = record {
  known = λ given landed k. ([], sym e, subst (λ (ps : List Path). IsKnown base given ps a) (sym (append-nil landed)) k);
  room = subst (λ (ns : List Placed). HasRoom base ns a) (sym e) room;
  may = λ h. subst MayAllLand e h;
  stuck = λ kind h. subst (IsStuck kind) e h;
}

-- what lands first lands behind what did
landed_more : (base : Reading) (first rest : List Placed) (given : List (Path × ℕ)) (landed : List Path) (done : List Placed) (b : Known)
    → IsKnown base (with_places base first (with_places base done given)) ((landed ++ paths_of done) ++ paths_of first) b
    → IsKnown base (with_places base (done ++ first) given) (landed ++ paths_of (done ++ first)) b
landed_more base first rest given landed done b h =
    subst (λ (g : List (Path × ℕ)). IsKnown base g (landed ++ paths_of (done ++ first)) b) (sym (with_places-append base done first given))
    (subst (λ (ps : List Path). IsKnown base (with_places base first (with_places base done given)) ps b)
    (append_assoc landed (paths_of done) (paths_of first) ∙ ap (λ (ps : List Path). landed ++ ps) (sym (map-append (λ (n : Placed). n.path) done first))) h)

pub left_on : (base : Reading) (all left first rest : List Placed) (a b c : Known) → left ≡ first ++ rest → AreLeft base all left a b
    → ((given : List (Path × ℕ)) (landed : List Path) → IsKnown base given landed b → IsKnown base (with_places base first given) (landed ++ paths_of first) c) → MayAllLand first
    → AreLeft base all rest a c
left_on base all left first rest a b c e w f may = record {
  known = λ given landed k.
      let before = w.known given landed k in (
        before.0 ++ first,
        before.1 ∙ ap (λ (ns : List Placed). before.0 ++ ns) e ∙ sym (append_assoc before.0 first rest),
        landed_more base first rest given landed before.0 c (f (with_places base before.0 given) (landed ++ paths_of before.0) before.2),
      );
  room = room_behind base first rest b c (subst (λ (ns : List Placed). HasRoom base ns b) e w.room) f;
  may = λ h. w.may (subst MayAllLand (sym e) (all_land first rest may h));
  stuck = λ kind h. w.stuck kind (subst (IsStuck kind) (sym e) (stuck_behind kind first rest may h));
}

pub left_failed : (base : Reading) (all left first rest : List Placed) (a b : Known) (kind : FaultKind) → left ≡ first ++ rest → AreLeft base all left a b → IsStuck kind first → IsStuck kind all
left_failed base all left first rest a b kind e w h = w.stuck kind (subst (IsStuck kind) (sym e) (stuck_first kind first rest h))

pub left_ended : (base : Reading) (all left : List Placed) (a b : Known) (given : List (Path × ℕ)) (landed : List Path) → left ≡ [] → AreLeft base all left a b → IsKnown base given landed a
    → IsKnown base (with_places base all given) (landed ++ paths_of all) b
left_ended base all left a b given landed e w known =
    let before = w.known given landed known in
    let whole : before.0 ≡ all = sym (append-nil before.0) ∙ ap (λ (ns : List Placed). before.0 ++ ns) (sym e) ∙ sym before.1 in
    subst (λ (ns : List Placed). IsKnown base (with_places base ns given) (landed ++ paths_of ns) b) whole before.2
