-- How many bytes a tree's tokens take, and which names they use, behind a change.
use Rattle.std.proofs.Common.{◌≡◌, ℕ, ◌+◌, Bool, true, false, List, [], ◌∷◌, ◌++◌, map, length, Option, Some, None, ◌⊎◌, inl, inr, refl, sym, ap, subst, ◌∙◌, option_and_then, arith}
use Rattle.std.specs.List.{flat_map}
use Rattle.std.specs.Str.{bytes_eq}
use Rattle.dt_model.specs.Changes.{set_property, with_child, with_child_at, with_property_at}
use Rattle.dt_model.specs.Format.{Token, end_node, prop, tokens_of_forest}
use Rattle.dt_model.specs.Lexing.{padded}
use Rattle.dt_model.specs.Lists.{IsIn}
use Rattle.dt_model.specs.Names.{Name}
use Rattle.dt_model.specs.Path.{Path}
use Rattle.dt_model.specs.Tree.{Property, Forest, no_nodes, branch, Node, Reading, sibling, stands_in, value_in, value_of}
use Rattle.dt_model.proofs.Tests.{in_left, in_right, in_append, bytes_eq_true}
use Rattle.dt_read.specs.Cuts.{property_size}
use Rattle.dt_edit.specs.Buffers.{tokens_size, tree_size, token_names, property_names}
use Rattle.dt_edit.proofs.ChildrenAdded.{fresh_sibling}
use Rattle.dt_edit.specs.Between.{node_tokens}
use Rattle.dt_edit.proofs.Between.{between}

-- ---- sums and names of several tokens

pub sizes_append : (xs ys : List Token) → tokens_size (xs ++ ys) ≡ tokens_size xs + tokens_size ys
sizes_append [] ys = omega arith
sizes_append (x ∷ xs) ys = let e = sizes_append xs ys in omega (arith, e)

around_size : (front own back : List Token) → tokens_size (front ++ (own ++ back)) ≡ tokens_size front + tokens_size own + tokens_size back
around_size front own back = omega (arith, sizes_append front (own ++ back), sizes_append own back)

pub names_append : (xs ys : List Token) → flat_map token_names (xs ++ ys) ≡ flat_map token_names xs ++ flat_map token_names ys
names_append [] ys = refl
names_append (x ∷ xs) ys = ap (λ (ns : List Name). token_names x ++ ns) (names_append xs ys) ∙ regroup (token_names x) (flat_map token_names xs) (flat_map token_names ys)
  where
    regroup : (a b c : List Name) → a ++ (b ++ c) ≡ (a ++ b) ++ c
    regroup [] b c = refl
    regroup (n ∷ a) b c = ap (λ (ns : List Name). n ∷ ns) (regroup a b c)

around_names : (front own back : List Token) → flat_map token_names (front ++ (own ++ back)) ≡ flat_map token_names front ++ (flat_map token_names own ++ flat_map token_names back)
around_names front own back = names_append front (own ++ back) ∙ ap (λ (ns : List Name). flat_map token_names front ++ ns) (names_append own back)

-- ---- a property

property_sizes : (ps : List Property) (name : Name) (value : List ℕ)
    → tokens_size (map prop (set_property ps name value)) + property_size (value_of ps name) ≡ tokens_size (map prop ps) + property_size (Some value)
property_sizes [] name value = omega arith
property_sizes (p ∷ ps) name value = step (property_sizes ps name value) (bytes_eq name p.name) refl
  where
    step : tokens_size (map prop (set_property ps name value)) + property_size (value_of ps name) ≡ tokens_size (map prop ps) + property_size (Some value)
        → (b : Bool) → bytes_eq name p.name ≡ b
        → tokens_size (map prop (set_property (p ∷ ps) name value)) + property_size (value_of (p ∷ ps) name) ≡ tokens_size (map prop (p ∷ ps)) + property_size (Some value)
    step later true is = rw is (omega arith)
    step later false is = rw is (omega (arith, later))

pub tree_with_property : (t : Reading) (p : Path) (name : Name) (value : List ℕ) → stands_in t p ≡ true
    → tree_size (with_property_at p name value t) + property_size (value_in t p name) ≡ tree_size t + property_size (Some value)
tree_with_property t p name value stands =
    let b = between t p stands in
    let n = b.2.node in
    let own : List Token = map prop (set_property n.properties name value) in
    let below : List Token = tokens_of_forest n.children in
    let old : List Token = map prop n.properties in
    let was = ap tokens_size b.2.now ∙ around_size b.0 (node_tokens n) b.1 in
    let is = ap tokens_size (b.2.around (λ m. record { properties = set_property m.properties name value; children = m.children })) ∙ around_size b.0 (own ++ below) b.1 in
    let held = ap (λ (o : Option Node). property_size (option_and_then (λ (m : Node). value_of m.properties name) o)) b.2.is in
    let set = property_sizes n.properties name value in
    omega (arith, was, is, held, set, sizes_append own below, sizes_append old below)

-- the names are those that there were, and that one
property_named : (ps : List Property) (name : Name) (value : List ℕ) (n : Name) → IsIn n (flat_map token_names (map prop (set_property ps name value))) → (n ≡ name) ⊎ IsIn n (flat_map token_names (map prop ps))
property_named [] name value n (inl e) = inl e
property_named [] name value n (inr e) = absurd e
property_named (p ∷ ps) name value n h = step (property_named ps name value n) (bytes_eq name p.name) refl h
  where
    step : (IsIn n (flat_map token_names (map prop (set_property ps name value))) → (n ≡ name) ⊎ IsIn n (flat_map token_names (map prop ps)))
        → (b : Bool) → bytes_eq name p.name ≡ b → IsIn n (flat_map token_names (map prop (set_property (p ∷ ps) name value))) → (n ≡ name) ⊎ IsIn n (flat_map token_names (map prop (p ∷ ps)))
    step later true is h = let k : IsIn n (p.name ∷ flat_map token_names (map prop ps)) = rw is at h in inr k
    step later false is h = let k : IsIn n (p.name ∷ flat_map token_names (map prop (set_property ps name value))) = rw is at h in other k
      where
        other : IsIn n (p.name ∷ flat_map token_names (map prop (set_property ps name value))) → (n ≡ name) ⊎ IsIn n (p.name ∷ flat_map token_names (map prop ps))
        other (inl e) = inr (inl e)
        other (inr e) = onward (later e)
          where
            onward : (n ≡ name) ⊎ IsIn n (flat_map token_names (map prop ps)) → (n ≡ name) ⊎ IsIn n (p.name ∷ flat_map token_names (map prop ps))
            onward (inl e) = inl e
            onward (inr e) = inr (inr e)

property_stays : (ps : List Property) (name : Name) (value : List ℕ) (n : Name) → IsIn n (flat_map token_names (map prop ps)) → IsIn n (flat_map token_names (map prop (set_property ps name value)))
property_stays [] name value n h = absurd h
property_stays (p ∷ ps) name value n h = step (property_stays ps name value n) (bytes_eq name p.name) refl h
  where
    step : (IsIn n (flat_map token_names (map prop ps)) → IsIn n (flat_map token_names (map prop (set_property ps name value))))
        → (b : Bool) → bytes_eq name p.name ≡ b → IsIn n (flat_map token_names (map prop (p ∷ ps))) → IsIn n (flat_map token_names (map prop (set_property (p ∷ ps) name value)))
    step later true is h = rw is h
    step later false is (inl e) = rw is (inl e)
    step later false is (inr e) = rw is (inr (later e))

property_there : (ps : List Property) (name : Name) (value : List ℕ) → IsIn name (flat_map token_names (map prop (set_property ps name value)))
property_there [] name value = inl refl
property_there (p ∷ ps) name value = step (property_there ps name value) (bytes_eq name p.name) refl
  where
    step : IsIn name (flat_map token_names (map prop (set_property ps name value))) → (b : Bool) → bytes_eq name p.name ≡ b → IsIn name (flat_map token_names (map prop (set_property (p ∷ ps) name value)))
    step later true is = rw is (inl (bytes_eq_true name p.name is))
    step later false is = rw is (inr later)

-- names of what is around a node stay
pub record AreNamesWith (old new : List Name) (name : Name) : Type 0 where
  pub from : (n : Name) → IsIn n new → (n ≡ name) ⊎ IsIn n old
  pub stay : (n : Name) → IsIn n old → IsIn n new
  pub there : IsIn name new

named_around : (front own was below back : List Name) (name : Name) → AreNamesWith was own name → AreNamesWith (front ++ ((was ++ below) ++ back)) (front ++ ((own ++ below) ++ back)) name
named_around front own was below back name h = record {
  from = λ n at. by-front n (in_append n front ((own ++ below) ++ back) at);
  stay = λ n at. keep-front n (in_append n front ((was ++ below) ++ back) at);
  there = in_right name front ((own ++ below) ++ back) (in_left name (own ++ below) back (in_left name own below h.there));
}
  where
    by-own : (n : Name) → IsIn n own ⊎ IsIn n below → (n ≡ name) ⊎ IsIn n (was ++ below)
    by-own n (inl e) = step (h.from n e)
      where
        step : (n ≡ name) ⊎ IsIn n was → (n ≡ name) ⊎ IsIn n (was ++ below)
        step (inl e) = inl e
        step (inr e) = inr (in_left n was below e)
    by-own n (inr e) = inr (in_right n was below e)

    by-back : (n : Name) → IsIn n (own ++ below) ⊎ IsIn n back → (n ≡ name) ⊎ IsIn n ((was ++ below) ++ back)
    by-back n (inl e) = step (by-own n (in_append n own below e))
      where
        step : (n ≡ name) ⊎ IsIn n (was ++ below) → (n ≡ name) ⊎ IsIn n ((was ++ below) ++ back)
        step (inl e) = inl e
        step (inr e) = inr (in_left n (was ++ below) back e)
    by-back n (inr e) = inr (in_right n (was ++ below) back e)

    by-front : (n : Name) → IsIn n front ⊎ IsIn n ((own ++ below) ++ back) → (n ≡ name) ⊎ IsIn n (front ++ ((was ++ below) ++ back))
    by-front n (inl e) = inr (in_left n front ((was ++ below) ++ back) e)
    by-front n (inr e) = step (by-back n (in_append n (own ++ below) back e))
      where
        step : (n ≡ name) ⊎ IsIn n ((was ++ below) ++ back) → (n ≡ name) ⊎ IsIn n (front ++ ((was ++ below) ++ back))
        step (inl e) = inl e
        step (inr e) = inr (in_right n front ((was ++ below) ++ back) e)

    keep-own : (n : Name) → IsIn n was ⊎ IsIn n below → IsIn n (own ++ below)
    keep-own n (inl e) = in_left n own below (h.stay n e)
    keep-own n (inr e) = in_right n own below e

    keep-back : (n : Name) → IsIn n (was ++ below) ⊎ IsIn n back → IsIn n ((own ++ below) ++ back)
    keep-back n (inl e) = in_left n (own ++ below) back (keep-own n (in_append n was below e))
    keep-back n (inr e) = in_right n (own ++ below) back e

    keep-front : (n : Name) → IsIn n front ⊎ IsIn n ((was ++ below) ++ back) → IsIn n (front ++ ((own ++ below) ++ back))
    keep-front n (inl e) = in_left n front ((own ++ below) ++ back) e
    keep-front n (inr e) = in_right n front ((own ++ below) ++ back) (keep-back n (in_append n (was ++ below) back e))

pub names_with_property : (t : Reading) (p : Path) (name : Name) (value : List ℕ) → stands_in t p ≡ true → AreNamesWith (property_names t) (property_names (with_property_at p name value t)) name
names_with_property t p name value stands =
    let b = between t p stands in
    let n = b.2.node in
    let own : List Token = map prop (set_property n.properties name value) in
    let below : List Token = tokens_of_forest n.children in
    let old : List Token = map prop n.properties in
    let front = flat_map token_names b.0 in
    let back = flat_map token_names b.1 in
    let was : property_names t ≡ front ++ ((flat_map token_names old ++ flat_map token_names below) ++ back) =
    ap (flat_map token_names) b.2.now ∙ around_names b.0 (node_tokens n) b.1 ∙ ap (λ (ns : List Name). front ++ (ns ++ back)) (names_append old below) in
    let is : property_names (with_property_at p name value t) ≡ front ++ ((flat_map token_names own ++ flat_map token_names below) ++ back) =
    ap (flat_map token_names) (b.2.around (λ m. record { properties = set_property m.properties name value; children = m.children }))
    ∙ around_names b.0 (own ++ below) b.1 ∙ ap (λ (ns : List Name). front ++ (ns ++ back)) (names_append own below) in
    let names : AreNamesWith (flat_map token_names old) (flat_map token_names own) name = record {
      from = λ m at. property_named n.properties name value m at;
      stay = λ m at. property_stays n.properties name value m at;
      there = property_there n.properties name value;
    } in
    subst (λ (ns : List Name). AreNamesWith ns (property_names (with_property_at p name value t)) name) (sym was)
    (subst (λ (ns : List Name). AreNamesWith (front ++ ((flat_map token_names old ++ flat_map token_names below) ++ back)) ns name) (sym is)
    (named_around front (flat_map token_names own) (flat_map token_names old) (flat_map token_names below) back name names))

-- ---- a child

child_size : (fs : Forest) (name : Name) → sibling fs name ≡ None
    → tokens_size (tokens_of_forest (with_child fs name [] (λ nodes. nodes))) ≡ tokens_size (tokens_of_forest fs) + padded (5 + length name) + 4
child_size no_nodes name e = omega arith
child_size (branch x ps cs ss) name e = step (child_size ss name) (bytes_eq name x) refl
  where
    step : (sibling ss name ≡ None → tokens_size (tokens_of_forest (with_child ss name [] (λ nodes. nodes))) ≡ tokens_size (tokens_of_forest ss) + padded (5 + length name) + 4)
        → (b : Bool) → bytes_eq name x ≡ b
        → tokens_size (tokens_of_forest (with_child (branch x ps cs ss) name [] (λ nodes. nodes))) ≡ tokens_size (tokens_of_forest (branch x ps cs ss)) + padded (5 + length name) + 4
    step later true is = absurd (let both : ◌≡◌ {A = Option Node} (Some (record { properties = ps; children = cs })) None = rw is at e in cc)
    step later false is =
        rw is (let l = later (rw is at e) in
        let more : List Token = tokens_of_forest (with_child ss name [] (λ nodes. nodes)) in
        let old : List Token = tokens_of_forest ss in
        omega (arith, l, around_size (map prop ps) (tokens_of_forest cs) (end_node ∷ more), around_size (map prop ps) (tokens_of_forest cs) (end_node ∷ old)))

child_names : (fs : Forest) (name : Name) → sibling fs name ≡ None → flat_map token_names (tokens_of_forest (with_child fs name [] (λ nodes. nodes))) ≡ flat_map token_names (tokens_of_forest fs)
child_names no_nodes name e = refl
child_names (branch x ps cs ss) name e = step (child_names ss name) (bytes_eq name x) refl
  where
    step : (sibling ss name ≡ None → flat_map token_names (tokens_of_forest (with_child ss name [] (λ nodes. nodes))) ≡ flat_map token_names (tokens_of_forest ss))
        → (b : Bool) → bytes_eq name x ≡ b → flat_map token_names (tokens_of_forest (with_child (branch x ps cs ss) name [] (λ nodes. nodes))) ≡ flat_map token_names (tokens_of_forest (branch x ps cs ss))
    step later true is = absurd (let both : ◌≡◌ {A = Option Node} (Some (record { properties = ps; children = cs })) None = rw is at e in cc)
    step later false is =
        rw is (let l = later (rw is at e) in
        let more : List Token = tokens_of_forest (with_child ss name [] (λ nodes. nodes)) in
        let old : List Token = tokens_of_forest ss in
        around_names (map prop ps) (tokens_of_forest cs) (end_node ∷ more)
        ∙ ap (λ (ns : List Name). flat_map token_names (map prop ps) ++ (flat_map token_names (tokens_of_forest cs) ++ ns)) l
        ∙ sym (around_names (map prop ps) (tokens_of_forest cs) (end_node ∷ old)))

pub tree_with_child : (t : Reading) (p : Path) (name : Name) → stands_in t p ≡ true → stands_in t (p ++ name ∷ []) ≡ false → tree_size (with_child_at p name t) ≡ tree_size t + padded (5 + length name) + 4
tree_with_child t p name stands fresh =
    let b = between t p stands in
    let n = b.2.node in
    let old : List Token = map prop n.properties in
    let below : List Token = tokens_of_forest n.children in
    let more : List Token = tokens_of_forest (with_child n.children name [] (λ nodes. nodes)) in
    let was = ap tokens_size b.2.now ∙ around_size b.0 (node_tokens n) b.1 in
    let is = ap tokens_size (b.2.around (λ m. record { properties = m.properties; children = with_child m.children name [] (λ nodes. nodes) })) ∙ around_size b.0 (old ++ more) b.1 in
    let longer = child_size n.children name (fresh_sibling t p name n fresh b.2.is) in
    omega (arith, was, is, longer, sizes_append old below, sizes_append old more)

pub names_with_child : (t : Reading) (p : Path) (name : Name) → stands_in t p ≡ true → stands_in t (p ++ name ∷ []) ≡ false → property_names (with_child_at p name t) ≡ property_names t
names_with_child t p name stands fresh =
    let b = between t p stands in
    let n = b.2.node in
    let old : List Token = map prop n.properties in
    let below : List Token = tokens_of_forest n.children in
    let more : List Token = tokens_of_forest (with_child n.children name [] (λ nodes. nodes)) in
    let same : flat_map token_names (old ++ more) ≡ flat_map token_names (old ++ below) =
    names_append old more ∙ ap (λ (ns : List Name). flat_map token_names old ++ ns) (child_names n.children name (fresh_sibling t p name n fresh b.2.is)) ∙ sym (names_append old below) in
    ap (flat_map token_names) (b.2.around (λ m. record { properties = m.properties; children = with_child m.children name [] (λ nodes. nodes) }))
    ∙ around_names b.0 (old ++ more) b.1
    ∙ ap (λ (ns : List Name). flat_map token_names b.0 ++ (ns ++ flat_map token_names b.1)) same
    ∙ sym (ap (flat_map token_names) b.2.now ∙ around_names b.0 (node_tokens n) b.1)
