-- The nodes that are found by a number and by a text.
use Rattle.std.proofs.Common.{◌≡◌, ℕ, Bool, true, false, List, [], ◌∷◌, codes, refl, sym, ap, subst, ◌∙◌, inl, inr, Option, Some, None, true≢false}
use Rattle.std.specs.Prelude.{if◌then◌else◌}
use Rattle.std.specs.Option.{option_or}
use Rattle.std.specs.List.{AllByRecursion}
use Rattle.std.specs.Str.{bytes_eq}
use Rattle.dt_model.specs.Names.{IsNodeName}
use Rattle.dt_model.specs.Path.{Path, path_value}
use Rattle.dt_model.specs.Lists.{IsIn}
use Rattle.dt_model.specs.Meaning.{cell}
use Rattle.dt_model.specs.Merged.{Site, landing}
use Rattle.dt_model.specs.Tree.{Reading, Placed, value_of, nodes_of, stands_in, value_in}
use Rattle.dt_model.specs.Valid.{IsValid}
use Rattle.dt_model.specs.Applied.{is_cell, node_numbered, node_named, if_named, landed_named}
use Rattle.dt_model.proofs.Tests.{bytes_eq_refl, bytes_eq_true}
use Rattle.dt_model.proofs.Texts.{one_value}
use Rattle.dt_model.proofs.Listed.{stands_listed, listed_stands, listed_value, value_listed}
use Rattle.dt_model.proofs.Preorder.{listed_named, own_phandle}

-- ---- by a number

cell_is : (n : ℕ) (y : Option (List ℕ)) → is_cell n y ≡ true → y ≡ Some (cell n)
cell_is n None e = absurd (true≢false (sym e))
cell_is n (Some v) e = ap Some (bytes_eq_true v (cell n) e)

is_its_cell : (n : ℕ) (y : Option (List ℕ)) → y ≡ Some (cell n) → is_cell n y ≡ true
is_its_cell n y e = ap (is_cell n) e ∙ bytes_eq_refl (cell n)

numbered_from : (nodes : List Placed) (n : ℕ) (p : Path) → node_numbered nodes n ≡ Some p → (x : Placed) × IsIn x nodes × (x.path ≡ p) × (value_of x.properties (codes "phandle") ≡ Some (cell n))
numbered_from [] n p h = absurd (let z : None ≡ Some p = h in cc)
numbered_from (x ∷ nodes) n p h = step (λ k. numbered_from nodes n p k) (is_cell n (value_of x.properties (codes "phandle"))) refl
  where
    step : (node_numbered nodes n ≡ Some p → (y : Placed) × IsIn y nodes × (y.path ≡ p) × (value_of y.properties (codes "phandle") ≡ Some (cell n)))
        → (b : Bool) → is_cell n (value_of x.properties (codes "phandle")) ≡ b → (y : Placed) × IsIn y (x ∷ nodes) × (y.path ≡ p) × (value_of y.properties (codes "phandle") ≡ Some (cell n))
    step more true e = let z : Some x.path ≡ Some p = rw e at h in (x, inl refl, cc, cell_is n (value_of x.properties (codes "phandle")) e)
    step more false e = let w = more (rw e at h) in (w.0, inr w.1, w.2, w.3)

numbered_to : (nodes : List Placed) (n : ℕ) (x : Placed) → IsIn x nodes → value_of x.properties (codes "phandle") ≡ Some (cell n)
    → ((y : Placed) → IsIn y nodes → value_of y.properties (codes "phandle") ≡ Some (cell n) → y.path ≡ x.path) → node_numbered nodes n ≡ Some x.path
numbered_to [] n x i h one = absurd i
numbered_to (y ∷ nodes) n x i h one = step (λ j. numbered_to nodes n x j h (λ z k. one z (inr k))) (is_cell n (value_of y.properties (codes "phandle"))) refl
  where
    step : (IsIn x nodes → node_numbered nodes n ≡ Some x.path) → (b : Bool) → is_cell n (value_of y.properties (codes "phandle")) ≡ b → node_numbered (y ∷ nodes) n ≡ Some x.path
    step more true e = rw e (ap Some (one y (inl refl) (cell_is n (value_of y.properties (codes "phandle")) e)))
    step more false e = rw e (elim i [
      | inl same ↦ absurd (true≢false (sym (is_its_cell n (value_of y.properties (codes "phandle")) (ap (λ (z : Placed). value_of z.properties (codes "phandle")) (sym same) ∙ h)) ∙ e))
      | inr j ↦ more j
    ])

-- a node is found by its number
pub node_of_number : (t : Reading) (p : Path) (n : ℕ) → IsValid t → value_in t p (codes "phandle") ≡ Some (cell n) → node_numbered (nodes_of t) n ≡ Some p
node_of_number t p n valid e =
    let w = value_listed t p (codes "phandle") (cell n) e in
    numbered_to (nodes_of t) n w.0 w.1 w.3 (λ y i v. own_phandle t y.path w.0.path (cell n) valid (listed_value t y (codes "phandle") valid i ∙ v) (listed_value t w.0 (codes "phandle") valid w.1 ∙ w.3))
    ∙ ap Some w.2

-- a node that is found by a number has it
pub number_of_node : (t : Reading) (p : Path) (n : ℕ) → IsValid t → node_numbered (nodes_of t) n ≡ Some p → value_in t p (codes "phandle") ≡ Some (cell n)
number_of_node t p n valid e =
    let w = numbered_from (nodes_of t) n p e in
    ap (λ q. value_in t q (codes "phandle")) (sym w.2) ∙ listed_value t w.0 (codes "phandle") valid w.1 ∙ w.3

-- ---- by a text

named_from : (nodes : List Placed) (value : List ℕ) (p : Path) → node_named nodes value ≡ Some p → (x : Placed) × IsIn x nodes × (x.path ≡ p) × (path_value x.path ≡ value)
named_from [] value p h = absurd (let z : None ≡ Some p = h in cc)
named_from (x ∷ nodes) value p h = step (λ k. named_from nodes value p k) (bytes_eq (path_value x.path) value) refl
  where
    step : (node_named nodes value ≡ Some p → (y : Placed) × IsIn y nodes × (y.path ≡ p) × (path_value y.path ≡ value))
        → (b : Bool) → bytes_eq (path_value x.path) value ≡ b → (y : Placed) × IsIn y (x ∷ nodes) × (y.path ≡ p) × (path_value y.path ≡ value)
    step more true e = let z : Some x.path ≡ Some p = rw e at h in (x, inl refl, cc, bytes_eq_true (path_value x.path) value e)
    step more false e = let w = more (rw e at h) in (w.0, inr w.1, w.2, w.3)

named_some : (nodes : List Placed) (value : List ℕ) (x : Placed) → IsIn x nodes → path_value x.path ≡ value → (p : Path) × (node_named nodes value ≡ Some p)
named_some [] value x i h = absurd i
named_some (y ∷ nodes) value x i h = step (λ j. named_some nodes value x j h) (bytes_eq (path_value y.path) value) refl
  where
    step : (IsIn x nodes → (p : Path) × (node_named nodes value ≡ Some p)) → (b : Bool) → bytes_eq (path_value y.path) value ≡ b → (p : Path) × (node_named (y ∷ nodes) value ≡ Some p)
    step more true e = (y.path, rw e refl)
    step more false e = elim i [
      | inl same ↦ absurd (true≢false (sym (bytes_eq_refl value) ∙ ap (λ z. bytes_eq z value) (sym h ∙ ap (λ (z : Placed). path_value z.path) same) ∙ e))
      | inr j ↦ let w = more j in (w.0, rw e w.1)
    ]

-- the node of a path's text is the path's
pub text_of_node : (t : Reading) (p q : Path) → IsValid t → AllByRecursion IsNodeName p → node_named (nodes_of t) (path_value p) ≡ Some q → (q ≡ p) × (stands_in t q ≡ true)
text_of_node t p q valid named e =
    let w = named_from (nodes_of t) (path_value p) q e in
    (sym w.2 ∙ one_value w.0.path p (listed_named t w.0 valid w.1) named w.3, ap (stands_in t) (sym w.2) ∙ listed_stands t w.0 valid w.1)

-- a node is found by its path's text
pub node_of_text : (t : Reading) (p : Path) → IsValid t → stands_in t p ≡ true → node_named (nodes_of t) (path_value p) ≡ Some p
node_of_text t p valid h =
    let w = stands_listed t p h in
    let s = named_some (nodes_of t) (path_value p) w.0 w.1 (ap path_value w.2) in
    s.1 ∙ ap Some (text_of_node t p s.0 valid (subst (AllByRecursion IsNodeName) w.2 (listed_named t w.0 valid w.1)) s.1).0

-- ---- by the text of the path on which a node lands

pub landed_named_from : (nodes : List Placed) (earlier : List Site) (value : List ℕ) (q : Path) → landed_named nodes earlier value ≡ Some q → (x : Placed) × IsIn x nodes × (landing earlier x.path ≡ Some q) × (path_value q ≡ value)
landed_named_from [] earlier value q h = absurd (let z : None ≡ Some q = h in cc)
landed_named_from (x ∷ nodes) earlier value q h = step (λ k. landed_named_from nodes earlier value q k) (landing earlier x.path) refl
  where
    later : ((y : Placed) × IsIn y nodes × (landing earlier y.path ≡ Some q) × (path_value q ≡ value)) → (y : Placed) × IsIn y (x ∷ nodes) × (landing earlier y.path ≡ Some q) × (path_value q ≡ value)
    later w = (w.0, inr w.1, w.2, w.3)

    step : (landed_named nodes earlier value ≡ Some q → (y : Placed) × IsIn y nodes × (landing earlier y.path ≡ Some q) × (path_value q ≡ value))
        → (z : Option Path) → landing earlier x.path ≡ z → (y : Placed) × IsIn y (x ∷ nodes) × (landing earlier y.path ≡ Some q) × (path_value q ≡ value)
    step more None e = later (more (rw e at h))
    step more (Some r) e = inner (bytes_eq (path_value r) value) refl
      where
        h' : option_or (if bytes_eq (path_value r) value then Some r else None) (landed_named nodes earlier value) ≡ Some q
        h' = sym (ap (λ z. option_or (if_named value z) (landed_named nodes earlier value)) e) ∙ h

        inner : (b : Bool) → bytes_eq (path_value r) value ≡ b → (y : Placed) × IsIn y (x ∷ nodes) × (landing earlier y.path ≡ Some q) × (path_value q ≡ value)
        inner true k =
            let z : Some r ≡ Some q = rw k at h' in
            let is : r ≡ q = cc in
            (x, inl refl, e ∙ z, ap path_value (sym is) ∙ bytes_eq_true (path_value r) value k)
        inner false k = later (more (rw k at h'))

pub landed_named_some : (nodes : List Placed) (earlier : List Site) (value : List ℕ) (x : Placed) (q : Path) → IsIn x nodes → landing earlier x.path ≡ Some q → path_value q ≡ value → (r : Path) × (landed_named nodes earlier value ≡ Some r)
landed_named_some [] earlier value x q i e h = absurd i
landed_named_some (y ∷ nodes) earlier value x q (inl same) e h = (
  q,
  ap (λ z. option_or (if_named value z) (landed_named nodes earlier value)) (ap (λ (z : Placed). landing earlier z.path) (sym same) ∙ e)
      ∙ ap (λ z. option_or (if bytes_eq z value then Some q else None) (landed_named nodes earlier value)) h
      ∙ ap (λ b. option_or (if b then Some q else None) (landed_named nodes earlier value)) (bytes_eq_refl value),
)
landed_named_some (y ∷ nodes) earlier value x q (inr i) e h =
    let w = landed_named_some nodes earlier value x q i e h in
    step (if_named value (landing earlier y.path)) w
  where
    step : (z : Option Path) → (r : Path) × (landed_named nodes earlier value ≡ Some r) → (r : Path) × (option_or z (landed_named nodes earlier value) ≡ Some r)
    step None w = w
    step (Some r) w = (r, refl)
