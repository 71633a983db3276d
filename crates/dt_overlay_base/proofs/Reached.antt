-- What is read of a tree in memory by path and by number.
use Rattle.std.proofs.Common.{◌≡◌, ℕ, ◌<◌, ◌≤◌, ◌^◌, Bool, true, false, cond, eqb, List, length, Option, Some, None, is_some, refl, sym, ap, ◌∙◌}
use Rattle.std.specs.Prelude.{◌↔◌, codes, nat_eq, option_map, option_and_then, IfSome, MatchOption}
use Rattle.std.specs.List.{list_any}
use Rattle.std.specs.Int.{w32, from_be_bytes}
use Rattle.std.proofs.lemmas.Bool.{eqb-true}
use Rattle.std.proofs.lemmas.Nat.{from_be_bytes-to_be_bytes_4}
use Rattle.dt_model.specs.Meaning.{cell}
use Rattle.dt_model.specs.Names.{Name}
use Rattle.dt_model.specs.Numbers.{numbers_of}
use Rattle.dt_model.specs.Path.{Path}
use Rattle.dt_model.specs.Tree.{Node, stands_in, value_in, value_of}
use Rattle.dt_flat.specs.Arena.{Arena, Slot, reading, properties, node_from, number_of_value, phandle_at}
use Rattle.dt_flat.specs.Sound.{AreCells}
use Rattle.dt_flat.proofs.AfterChild.{tested}
use Rattle.dt_flat.proofs.ByPath.{has, reading_at}
use Rattle.dt_model_laws.proofs.Numbered.{taken_all}
use Rattle.dt_overlay_laws.specs.Objects.{HasNumber, HasCells}

-- there is something of what is there
is_some-map : {X Y : Type 0} (f : X → Y) (o : Option X) → is_some (option_map f o) ≡ is_some o
is_some-map f None = refl
is_some-map f (Some x) = refl

-- a path stands in the reading where it leads to a node
pub stands-led : (a : Arena) (p : Path) → stands_in (reading a) p ≡ is_some (node_from a.slots 0 p)
stands-led a p = ap is_some (reading_at a p) ∙ is_some-map (has a.slots) (node_from a.slots 0 p)

-- the value of a property there
pub value-led : (a : Arena) (p : Path) (i : ℕ) (name : Name) → node_from a.slots 0 p ≡ Some i → value_in (reading a) p name ≡ value_of (properties a.slots i) name
value-led a p i name leads =
    ap (λ (o : Option Node). option_and_then (λ n. value_of n.properties name) o) (reading_at a p ∙ ap (λ (o : Option ℕ). option_map (has a.slots) o) leads)

-- where a path leads nowhere, there is no value
pub no-value-led : (a : Arena) (p : Path) (name : Name) → node_from a.slots 0 p ≡ None → value_in (reading a) p name ≡ None
no-value-led a p name leads =
    ap (λ (o : Option Node). option_and_then (λ n. value_of n.properties name) o) (reading_at a p ∙ ap (λ (o : Option ℕ). option_map (has a.slots) o) leads)

-- where a value is, there is a node
pub value-place : (a : Arena) (p : Path) (name : Name) (value : List ℕ) → value_in (reading a) p name ≡ Some value → (i : ℕ) × (node_from a.slots 0 p ≡ Some i) × (value_of (properties a.slots i) name ≡ Some value)
value-place a p name value e = by (node_from a.slots 0 p) refl
  where
    by : (o : Option ℕ) → node_from a.slots 0 p ≡ o → (i : ℕ) × (node_from a.slots 0 p ≡ Some i) × (value_of (properties a.slots i) name ≡ Some value)
    by None is = absurd (let none : None ≡ Some value = sym (no-value-led a p name is) ∙ e in cc)
    by (Some i) is = (i, is, sym (value-led a p i name is) ∙ e)

-- each phandle there is the cell of its number
pub cells-led : (a : Arena) → AreCells a.slots → HasCells (reading a)
cells-led a cells p value e = let at = value-place a p (codes "phandle") value e in cells at.0 value at.2

-- a node with a number has a value of four bytes
pub numbered-value : (slots : List Slot) (i n : ℕ) → phandle_at slots i ≡ Some n → (value : List ℕ) × (value_of (properties slots i) (codes "phandle") ≡ Some value) × (length value ≡ 4) × (from_be_bytes w32 value ≡ n)
numbered-value slots i n e = by (value_of (properties slots i) (codes "phandle")) refl e
  where
    by : (o : Option (List ℕ)) → value_of (properties slots i) (codes "phandle") ≡ o → number_of_value o ≡ Some n → (value : List ℕ) × (value_of (properties slots i) (codes "phandle") ≡ Some value) × (length value ≡ 4) × (from_be_bytes w32 value ≡ n)
    by None is f = absurd cc
    by (Some value) is f = four (eqb (length value) 4) refl f
      where
        four : (b : Bool) → eqb (length value) 4 ≡ b → cond b (Some (from_be_bytes w32 value)) None ≡ Some n → (value : List ℕ) × (value_of (properties slots i) (codes "phandle") ≡ Some value) × (length value ≡ 4) × (from_be_bytes w32 value ≡ n)
        four true t g = let same : from_be_bytes w32 value ≡ n = cc in (value, is, eqb-true (length value) 4 t, same)
        four false t g = absurd cc

-- a value of four bytes gives its node a number
pub value-numbered : (slots : List Slot) (i : ℕ) (value : List ℕ) → value_of (properties slots i) (codes "phandle") ≡ Some value → length value ≡ 4 → phandle_at slots i ≡ Some (from_be_bytes w32 value)
value-numbered slots i value is four = ap number_of_value is ∙ ap (λ (b : Bool). cond b (Some (from_be_bytes w32 value)) None) (tested (length value) 4 four)

-- the node of a number has it as its phandle
pub has-number : (a : Arena) (p : Path) (i n : ℕ) → node_from a.slots 0 p ≡ Some i → AreCells a.slots → phandle_at a.slots i ≡ Some n → HasNumber (reading a) p n
has-number a p i n leads cells number =
    let v = numbered-value a.slots i n number in
    value-led a p i (codes "phandle") leads ∙ v.1 ∙ ap (λ (w : List ℕ). Some w) (cells i v.0 v.1 ∙ ap cell v.3)

-- and no other
pub number-had : (a : Arena) (p : Path) (n : ℕ) → n < 2 ^ 32 → HasNumber (reading a) p n → (i : ℕ) × (phandle_at a.slots i ≡ Some n)
number-had a p n fits has =
    let at = value-place a p (codes "phandle") (cell n) has in
    (at.0, value-numbered a.slots at.0 (cell n) at.2 refl ∙ ap (λ (k : ℕ). Some k) (from_be_bytes-to_be_bytes_4 n fits))

-- the number of a node is taken
pub number-taken : (a : Arena) (n i : ℕ) → AreCells a.slots → ((i : ℕ) → i < length a.slots → (p : Path) × (node_from a.slots 0 p ≡ Some i)) → n ≤ 0xfffffffe
    → i < length a.slots → phandle_at a.slots i ≡ Some n → list_any (nat_eq n) (numbers_of (reading a)) ≡ true
number-taken a n i cells paths small lt number =
    let path = paths i lt in
    taken_all (reading a) path.0 n small (has-number a path.0 i n path.1 cells number)

-- the node that a number is looked for by, as a path
pub found-by : (a : Arena) (n : ℕ) (r : Option ℕ) → AreCells a.slots → ((i : ℕ) → i < length a.slots → (p : Path) × (node_from a.slots 0 p ≡ Some i)) → n < 2 ^ 32
    → ((i : ℕ) → (r ≡ Some i) ↔ (phandle_at a.slots i ≡ Some n)) → IfSome r (λ i. i < length a.slots)
    → (found : Option Path) × (is_some found ≡ is_some r) × MatchOption found ((p : Path) → HasNumber (reading a) p n → ⊥) (λ p. HasNumber (reading a) p n)
found-by a n None cells paths fits value there = (None, refl, λ p has. let at = number-had a p n fits has in let none : None ≡ Some at.0 = (value at.0).1 at.1 in cc)
found-by a n (Some i) cells paths fits value there =
    let path = paths i there in
    (Some path.0, refl, has-number a path.0 i n path.1 cells ((value i).0 refl))
