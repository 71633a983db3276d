-- The number of a place, and the next that is free.
use Rattle.std.proofs.Common.{◌≡◌, ◌↔◌, ℕ, ◌+◌, ◌*◌, ◌≤◌, Bool, false, List, ◌∷◌, ◌++◌, [], Option, Some, None, sym, ap, ◌∙◌, codes, true≢false, arith}
use Rattle.std.specs.Prelude.{is_some, option_map, if◌then◌else◌, IsSome, IfSome}
use Rattle.std.specs.Option.{option_copied, option_or}
use Rattle.std.specs.Borrow.{Bor}
use Rattle.std.specs.Int.{w32, from_be_bytes}
use Rattle.std.proofs.lemmas.List.{length-append, length-map}
use Rattle.dt_model.specs.Limits.{most_nodes}
use Rattle.dt_model.specs.Lists.{IsIn}
use Rattle.dt_model.specs.Names.{Name, IsNodeName}
use Rattle.dt_model.specs.Numbers.{numbers_of, number_in}
use Rattle.dt_model.specs.Path.{Path}
use Rattle.dt_model.specs.Tree.{Reading, value_in}
use Rattle.dt_model.specs.Valid.{IsValid, IsWithinLimits, IsPhandle}
use Rattle.dt_model_laws.proofs.Fresh.{few_below}
use Rattle.dt_model_laws.proofs.LeastNumbers.{one_least}
use Rattle.dt_model_laws.proofs.Numbered.{few_taken}
use Rattle.dt_overlay_model.specs.Walk.{number_there, with_place, least_free}
use Rattle.dt_overlay_model.proofs.Least.{least_is_free}
use Rattle.dt_overlay_model.proofs.Places.{none_there, numbers}
use Rattle.dt_overlay_laws.proofs.PlainSymbols.{phandle_there}
use Rattle.std.specs.List.{AllByRecursion}
use Rattle.dt_overlay_base.specs.Known.{Known, IsKnown, HasRoom}
use Rattle.dt_overlay_base.specs.Known.{IsNext}
use Rattle.dt_overlay_base.proofs.PlacesKept.{next_is_least}

-- ---- something is there

-- where a value is read by a path
pub prop_there : (t : Reading) (q : Path) (o : Option (Bor (List ℕ))) (name key : Name) → option_copied o ≡ value_in t q name → name ≡ key → is_some o ≡ is_some (value_in t q key)
prop_there t q None name key e same = ap is_some (e ∙ ap (value_in t q) same)
prop_there t q (Some x) name key e same = ap is_some (e ∙ ap (value_in t q) same)

-- ---- the number of a place

-- a phandle of the base is its number
pub number_read : (base : Reading) (given : List (Path × ℕ)) (q : Path) (v : List ℕ) (o : Option ℕ) → IsValid base → value_in base q (codes "phandle") ≡ Some v → (IsSome o ↔ IsPhandle v) → IfSome o (λ number. number ≡ from_be_bytes w32 v)
    → o ≡ number_there base given q
number_read base given q v None valid there valued number = absurd (true≢false (sym (valued.1 (phandle_there base q v valid there))))
number_read base given q v (Some n) valid there valued number = ap (λ (m : ℕ). Some m) number ∙ ap (λ (y : Option (List ℕ)). option_or (option_map (from_be_bytes w32) y) (number_in given q)) (sym there)

-- ---- the next number

-- the last number is small
pub last_low : (base : Reading) (a : Known) → IsWithinLimits base → HasRoom base [] a → a.last ≤ 2 * most_nodes
last_low base a within h =
    let known : IsKnown base h.given h.landed a = h.known in
    let le = few_below (numbers h.given ++ numbers_of base) (a.last + 1) (λ k one less. known.low k one (omega (arith, less))) in
    let whole = length-append (numbers h.given) (numbers_of base) in
    let same = length-map h.given (λ (x : Path × ℕ). x.1) in
    let few = h.few in
    omega (arith, le, whole, same, few, few_taken base within)

-- the place gets the least number
pub place_given_next : (base : Reading) (given : List (Path × ℕ)) (landed : List Path) (a : Known) (known : IsKnown base given landed a) (q : Path) → AllByRecursion IsNodeName q → IsIn q landed
    → (n : ℕ) → is_some (number_there base given q) ≡ false → IsNext (numbers_of base) a.last n → with_place base q given ≡ given ++ (q, n) ∷ []
place_given_next base given landed a known q named there n none next =
    let bare = none_there base given q none in
    let least : least_free (numbers given ++ numbers_of base) ≡ n =
    one_least (numbers given ++ numbers_of base) (least_free (numbers given ++ numbers_of base)) n (least_is_free (numbers given ++ numbers_of base)) (next_is_least base given landed a known q named n there bare.1 next) in
    ap (λ (b : Bool). if b then given else given ++ (q, least_free (numbers given ++ numbers_of base)) ∷ []) none
    ∙ ap (λ (m : ℕ). given ++ (q, m) ∷ []) least

-- a place that has a number keeps it
pub placed_there : (base : Reading) (given : List (Path × ℕ)) (q : Path) (n : ℕ) → number_there base given q ≡ Some n → with_place base q given ≡ given
placed_there base given q n there = ap (λ (b : Bool). if b then given else given ++ (q, least_free (numbers given ++ numbers_of base)) ∷ []) (ap is_some there)
