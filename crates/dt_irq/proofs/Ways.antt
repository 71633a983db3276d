-- Ways to an interrupt parent, step by step.
use Rattle.std.proofs.Common.{◌≡◌, ℕ, suc, ◌+◌, Bool, true, false, List, [], ◌∷◌, map, length, refl, sym, ap, subst, ◌∙◌, inl, inr, Option, Some, None, arith}
use Rattle.std.specs.Prelude.{is_some, codes, option_map, option_and_then, if◌then◌else◌}
use Rattle.dt_model.specs.Lists as lists
use Rattle.dt_model.specs.Path.{Path}
use Rattle.dt_model.specs.Tree.{Reading, Placed, Node, sibling, node_below, root_of, nodes_of, stands_in, value_in, value_of}
use Rattle.dt_model.specs.Valid.{IsValid}
use Rattle.dt_model.specs.Applied.{is_cell, node_numbered}
use Rattle.dt_model.proofs.Listed.{stands_listed, listed_stands}
use Rattle.dt_names.specs.declared.fault.Fault.{Fault}
use Rattle.dt_names.specs.declared.fault.FaultKind.TheVariants.{NoParent, Loop, UnknownPhandle}
use Rattle.dt_resolve_model.specs.Above.{front}
use Rattle.dt_resolve_model.specs.Answers.{Answer, undetermined, refused, answer, refuse, ◌>>=◌}
use Rattle.dt_resolve_model.specs.World.{Quad, figure, pointer, torn, Value, World, tree_world, value_of_bytes, node_found, node_of_figure}
use Rattle.dt_resolve_model.specs.Regions.{only_cell}
use Rattle.dt_resolve_model.specs.Interrupts.{nowhere, arrived, onward, step_by, step_of, step_to, steps_from, after_step, ended, IsInterruptParent}
use Rattle.dt_resolve_model.proofs.Ending.{IsIn, AreClosed, never_ends, comes_again}
use Rattle.dt_resolve_model.proofs.InterruptsAgree.{ended_later}

-- so many steps lead from one node to another
abbrev pub Leads : World → ℕ → Path → Path → Type 0
Leads w n p q = (m : ℕ) → ended w (n + m) p ≡ ended w m q

pub here_first : (w : World) (p : Path) → Leads w 0 p p
here_first w p m = ap (λ i. ended w i p) (let e : 0 + m ≡ m = omega arith in e)

pub step_more : (w : World) (n : ℕ) (p q r : Path) → Leads w n p q → steps_from w q ≡ answer (onward r) → Leads w (n + 1) p r
step_more w n p q r leads e m =
    ap (λ i. ended w i p) (let z : n + 1 + m ≡ n + suc m = omega arith in z)
    ∙ leads (suc m)
    ∙ ap (after_step (ended w m)) e

-- where a step ends, the way ends
pub ends_here : (w : World) (n : ℕ) (p q : Path) (a : Answer Path) → Leads w n p q → ended w 1 q ≡ Some a → IsInterruptParent w p a
ends_here w n p q a leads e = inl (n + 1, leads 1 ∙ e)

-- where the way from a node on never ends, it never ends
all_none : (w : World) (n : ℕ) (p q : Path) → Leads w n p q → ((m : ℕ) → ended w m q ≡ None) → (m : ℕ) → ended w m p ≡ None
all_none w n p q leads none m = step (ended w m p) refl
  where
    step : (x : Option (Answer Path)) → ended w m p ≡ x → x ≡ None
    step None e = refl
    step (Some a) e =
        let z : Some a ≡ None = sym (ended_later w n m p a e) ∙ leads m ∙ none m in
        absurd cc

-- a way that leads to a node again
pub goes_round : (w : World) (j d : ℕ) (p q r : Path) → Leads w j p q → Leads w (d + 1) q r → q ≡ r → IsInterruptParent w p (refuse Loop)
goes_round w j d p q r to round same =
    let again : (m : ℕ) → ended w (suc d + m) q ≡ ended w m q = λ m. ap (λ i. ended w i q) (let z : suc d + m ≡ d + 1 + m = omega arith in z) ∙ round m ∙ ap (ended w m) (sym same) in
    inr (refl, all_none w j p q to (comes_again w d q again))

-- ---- the nodes of a tree are closed under steps

in_paths : (p : Path) (nodes : List Placed) (n : Placed) → lists.IsIn n nodes → n.path ≡ p → IsIn p (map (λ x. x.path) nodes)
in_paths p [] n i e = absurd i
in_paths p (y ∷ nodes) n (inl same) e = inl (sym e ∙ ap (λ x. x.path) same)
in_paths p (y ∷ nodes) n (inr i) e = inr (in_paths p nodes n i e)

of_paths : (p : Path) (nodes : List Placed) → IsIn p (map (λ x. x.path) nodes) → (n : Placed) × lists.IsIn n nodes × (n.path ≡ p)
of_paths p [] i = absurd i
of_paths p (y ∷ nodes) (inl same) = (y, inl refl, sym same)
of_paths p (y ∷ nodes) (inr i) = let r = of_paths p nodes i in (r.0, inr r.1, r.2)

pub listed : (t : Reading) (p : Path) → stands_in t p ≡ true → IsIn p (map (λ x. x.path) (nodes_of t))
listed t p stands = let n = stands_listed t p stands in in_paths p (nodes_of t) n.0 n.1 n.2

stands : (t : Reading) (p : Path) → IsValid t → IsIn p (map (λ x. x.path) (nodes_of t)) → stands_in t p ≡ true
stands t p valid i = let n = of_paths p (nodes_of t) i in ap (stands_in t) (sym n.2) ∙ listed_stands t n.0 valid n.1

above_stands : (n : Node) (p : Path) → is_some (node_below n p) ≡ true → is_some (node_below n (front p)) ≡ true
above_stands n [] s = refl
above_stands n (x ∷ []) s = refl
above_stands n (x ∷ y ∷ p) s = step (λ c. above_stands c (y ∷ p)) (sibling n.children x) refl
  where
    step : ((c : Node) → is_some (node_below c (y ∷ p)) ≡ true → is_some (node_below c (front (y ∷ p))) ≡ true) → (o : Option Node) → sibling n.children x ≡ o
        → is_some (option_and_then (λ c. node_below c (front (y ∷ p))) (sibling n.children x)) ≡ true
    step more None e = absurd (let z : false ≡ true = sym (ap (λ z. is_some (option_and_then (λ c. node_below c (y ∷ p)) z)) e) ∙ s in cc)
    step more (Some c) e = ap (λ z. is_some (option_and_then (λ c. node_below c (front (y ∷ p))) z)) e ∙ more c (sym (ap (λ z. is_some (option_and_then (λ c. node_below c (y ∷ p)) z)) e) ∙ s)

numbered_in : (nodes : List Placed) (n : ℕ) (q : Path) → node_numbered nodes n ≡ Some q → IsIn q (map (λ x. x.path) nodes)
numbered_in [] n q e = absurd (let z : None ≡ Some q = e in cc)
numbered_in (x ∷ nodes) n q e = step (λ f. numbered_in nodes n q f) (is_cell n (value_of x.properties (codes "phandle"))) refl
  where
    step : (node_numbered nodes n ≡ Some q → IsIn q (map (λ x. x.path) nodes)) → (b : Bool) → is_cell n (value_of x.properties (codes "phandle")) ≡ b → IsIn q (map (λ x. x.path) (x ∷ nodes))
    step more true is = let z : Some x.path ≡ Some q = rw is at e in inl (let same : x.path ≡ q = cc in sym same)
    step more false is = inr (more (rw is at e))

-- what `interrupt-parent` names is one of the nodes
named_in : (t : Reading) (q : Path) (x : Answer Quad) → (x >>= node_of_figure t) ≡ answer q → IsIn q (map (λ x. x.path) (nodes_of t))
named_in t q undetermined e = absurd cc
named_in t q (refused fault) e = absurd cc
named_in t q (answer torn) e = absurd cc
named_in t q (answer (pointer p)) e = absurd cc
named_in t q (answer (figure n)) e = step (node_numbered (nodes_of t) n) refl
  where
    step : (o : Option Path) → node_numbered (nodes_of t) n ≡ o → IsIn q (map (λ x. x.path) (nodes_of t))
    step None is = absurd (let z : refuse UnknownPhandle ≡ answer q = sym (ap node_found is) ∙ e in cc)
    step (Some p) is = let z : answer p ≡ answer q = sym (ap node_found is) ∙ e in numbered_in (nodes_of t) n q (is ∙ (let same : p ≡ q = cc in ap Some same))

-- one step leads to one of the nodes
step_in : (t : Reading) (p q : Path) → IsValid t → IsIn p (map (λ x. x.path) (nodes_of t)) → (o : Option (List ℕ)) → step_by (tree_world t) p (option_map value_of_bytes o) ≡ answer (Some q) → IsIn q (map (λ x. x.path) (nodes_of t))
step_in t [] q valid i None e = absurd (let z : answer None ≡ answer (Some q) = e in cc)
step_in t (x ∷ p) q valid i None e =
    let z : answer (Some (front (x ∷ p))) ≡ answer (Some q) = e in
    let same : front (x ∷ p) ≡ q = cc in
    subst (λ r. IsIn r (map (λ x. x.path) (nodes_of t))) same (listed t (front (x ∷ p)) (above_stands (root_of t) (x ∷ p) (stands t (x ∷ p) valid i)))
step_in t p q valid i (Some v) e = by (only_cell (value_of_bytes v) >>= node_of_figure t) refl
  where
    by : (x : Answer Path) → (only_cell (value_of_bytes v) >>= node_of_figure t) ≡ x → IsIn q (map (λ x. x.path) (nodes_of t))
    by undetermined f = absurd (let z : undetermined ≡ answer (Some q) = sym (ap (λ (x : Answer Path). x >>= λ r. answer (Some r)) f) ∙ e in cc)
    by (refused fault) f = absurd (let z : refused fault ≡ answer (Some q) = sym (ap (λ (x : Answer Path). x >>= λ r. answer (Some r)) f) ∙ e in cc)
    by (answer r) f =
        let z : answer (Some r) ≡ answer (Some q) = sym (ap (λ (x : Answer Path). x >>= λ r. answer (Some r)) f) ∙ e in
        named_in t q (only_cell (value_of_bytes v)) (f ∙ (let same : r ≡ q = cc in ap (λ (y : Path). answer y) same))

pub are_closed : (t : Reading) → IsValid t → AreClosed (tree_world t) (map (λ x. x.path) (nodes_of t))
are_closed t valid p q i e = by (step_of (tree_world t) p) refl
  where
    w : World
    w = tree_world t

    onward_is : (r : Path) (v : Option Value) → answer (if is_some v then arrived r else onward r) ≡ answer (onward q) → r ≡ q
    onward_is r None e = cc
    onward_is r (Some v) e = absurd (let z : answer (arrived r) ≡ answer (onward q) = e in cc)

    by : (x : Answer (Option Path)) → step_of w p ≡ x → IsIn q (map (λ x. x.path) (nodes_of t))
    by undetermined f = absurd (let z : undetermined ≡ answer (onward q) = sym (ap (λ (x : Answer (Option Path)). x >>= step_to w) f) ∙ e in cc)
    by (refused fault) f = absurd (let z : refused fault ≡ answer (onward q) = sym (ap (λ (x : Answer (Option Path)). x >>= step_to w) f) ∙ e in cc)
    by (answer None) f = absurd (let z : answer nowhere ≡ answer (onward q) = sym (ap (λ (x : Answer (Option Path)). x >>= step_to w) f) ∙ e in cc)
    by (answer (Some r)) f =
        let same = onward_is r (option_map value_of_bytes (value_in t r (codes "#interrupt-cells"))) (sym (ap (λ (x : Answer (Option Path)). x >>= step_to w) f) ∙ e) in
        step_in t p q valid i (value_in t p (codes "interrupt-parent")) (f ∙ ap (λ (y : Path). answer (Some y)) same)

-- a way that hasn't ended after as many steps as there are nodes never ends
pub too_many : (t : Reading) (p q : Path) (n : ℕ) → IsValid t → stands_in t p ≡ true → n ≡ length (nodes_of t) → Leads (tree_world t) n p q → IsInterruptParent (tree_world t) p (refuse Loop)
too_many t p q n valid there count leads =
    let nodes = map (λ x. x.path) (nodes_of t) in
    let all : n + 0 ≡ length nodes = omega (arith, count, same_length (nodes_of t)) in
    let none : ended (tree_world t) (length nodes) p ≡ None = ap (λ i. ended (tree_world t) i p) (sym all) ∙ leads 0 in
    inr (refl, never_ends (tree_world t) nodes (are_closed t valid) p (listed t p there) none)
  where
    same_length : (ns : List Placed) → length (map (λ x. x.path) ns) ≡ length ns
    same_length [] = refl
    same_length (n ∷ ns) = ap suc (same_length ns)

-- ---- where a step leads

pub leads_nowhere : (w : World) (p : Path) → step_of w p ≡ answer None → ended w 1 p ≡ Some (refuse NoParent)
leads_nowhere w p e = ap (λ (x : Answer (Option Path)). after_step (ended w 0) (x >>= step_to w)) e

pub is_refused : (w : World) (p : Path) (fault : Fault) → step_of w p ≡ refused fault → ended w 1 p ≡ Some (refused fault)
is_refused w p fault e = ap (λ (x : Answer (Option Path)). after_step (ended w 0) (x >>= step_to w)) e

step_is : (t : Reading) (p q : Path) → step_of (tree_world t) p ≡ answer (Some q) → steps_from (tree_world t) p ≡ answer (if is_some (option_map value_of_bytes (value_in t q (codes "#interrupt-cells"))) then arrived q else onward q)
step_is t p q e = ap (λ (x : Answer (Option Path)). x >>= step_to (tree_world t)) e

some_value : (o : Option (List ℕ)) → is_some (option_map value_of_bytes o) ≡ is_some o
some_value None = refl
some_value (Some v) = refl

pub leads_to : (t : Reading) (p q : Path) → step_of (tree_world t) p ≡ answer (Some q) → is_some (value_in t q (codes "#interrupt-cells")) ≡ true → ended (tree_world t) 1 p ≡ Some (answer q)
leads_to t p q e some =
    ap (after_step (ended (tree_world t) 0)) (step_is t p q e ∙ ap (λ b. answer (if b then arrived q else onward q)) (some_value (value_in t q (codes "#interrupt-cells")) ∙ some))

pub leads_on : (t : Reading) (p q : Path) → step_of (tree_world t) p ≡ answer (Some q) → is_some (value_in t q (codes "#interrupt-cells")) ≡ false → steps_from (tree_world t) p ≡ answer (onward q)
leads_on t p q e none = step_is t p q e ∙ ap (λ b. answer (if b then arrived q else onward q)) (some_value (value_in t q (codes "#interrupt-cells")) ∙ none)
