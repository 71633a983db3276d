-- What look-ups find in a node into which another is merged.
use Rattle.std.proofs.Common.{◌≡◌, ◌≢◌, ℕ, Bool, true, false, ◌||◌, List, [], ◌∷◌, map, refl, sym, ap, subst, ◌∙◌, Option, Some, None, true≢false}
use Rattle.std.specs.Prelude.{is_some, option_map, option_and_then, unwrap_or, if◌then◌else◌}
use Rattle.std.specs.Option.{option_or}
use Rattle.std.specs.List.{AllByRecursion}
use Rattle.std.specs.Str.{bytes_eq}
use Rattle.dt_model.specs.Names.{Name}
use Rattle.dt_model.specs.Path.{Path}
use Rattle.dt_model.specs.Tree.{Property, Forest, no_nodes, branch, value_of, Node, sibling, node_below}
use Rattle.dt_model.specs.Valid.{AreDistinct, names}
use Rattle.dt_model.specs.Changes.{set_property, set_properties, with_child, merged_forest, merged_node}
use Rattle.dt_model.proofs.Tests.{bytes_eq_refl, bytes_eq_true, bytes_eq_other}
use Rattle.dt_model.proofs.Listed.{other_sibling}

-- ---- properties

pub value_of-set_property : (ps : List Property) (x name : Name) (v : List ℕ) → value_of (set_property ps x v) name ≡ (if bytes_eq name x then Some v else value_of ps name)
value_of-set_property [] x name v = refl
value_of-set_property (p ∷ ps) x name v = step (value_of-set_property ps x name v) (bytes_eq x p.name) refl (bytes_eq name p.name) refl (bytes_eq name x) refl
  where
    step : value_of (set_property ps x v) name ≡ (if bytes_eq name x then Some v else value_of ps name)
        → (b : Bool) → bytes_eq x p.name ≡ b → (c : Bool) → bytes_eq name p.name ≡ c → (d : Bool) → bytes_eq name x ≡ d
        → value_of (set_property (p ∷ ps) x v) name ≡ (if bytes_eq name x then Some v else value_of (p ∷ ps) name)
    step more true e c e' d e'' =
        let again : c ≡ d = sym e' ∙ ap (bytes_eq name) (sym (bytes_eq_true x p.name e)) ∙ e'' in
        rw (e, e', e'') (both c d again)
      where
        both : (c d : Bool) → c ≡ d → (if c then Some v else value_of ps name) ≡ (if d then Some v else (if c then Some p.value else value_of ps name))
        both true true k = refl
        both true false k = absurd (true≢false k)
        both false true k = absurd (true≢false (sym k))
        both false false k = refl
    step more false e true e' true e'' = absurd (true≢false (sym (ap (λ z. bytes_eq z p.name) (sym (bytes_eq_true name x e'')) ∙ e') ∙ e))
    step more false e true e' false e'' = rw (e, e', e'') refl
    step more false e false e' d e'' = rw (e, e') more

-- a property that isn't there
pub no_value : (ps : List Property) (name : Name) → AllByRecursion (λ y. y ≢ name) (map (λ (p : Property). p.name) ps) → value_of ps name ≡ None
no_value [] name d = refl
no_value (p ∷ ps) name d = rw (bytes_eq_other name p.name (λ e. d.0 (sym e))) (no_value ps name d.1)

pub value_of-set_properties : (xs ps : List Property) (name : Name) → AreDistinct (map (λ (p : Property). p.name) xs) → value_of (set_properties ps xs) name ≡ option_or (value_of xs name) (value_of ps name)
value_of-set_properties [] ps name d = refl
value_of-set_properties (x ∷ xs) ps name d =
    value_of-set_properties xs (set_property ps x.name x.value) name d.1
    ∙ ap (option_or (value_of xs name)) (value_of-set_property ps x.name name x.value)
    ∙ step (bytes_eq name x.name) refl
  where
    step : (b : Bool) → bytes_eq name x.name ≡ b → option_or (value_of xs name) (if b then Some x.value else value_of ps name) ≡ option_or (if b then Some x.value else value_of xs name) (value_of ps name)
    step true e = ap (λ y. option_or y (Some x.value)) (ap (value_of xs) (bytes_eq_true name x.name e) ∙ no_value xs x.name d.0)
    step false e = refl

-- ---- children

-- in each node of the siblings no two properties and no two children have one name
abbrev pub AreApart : Forest → Type 0
AreApart no_nodes = Unit {0}
AreApart (branch name properties children siblings) = AreDistinct (map (λ (p : Property). p.name) properties) × AreApart children × AreDistinct (names children) × AreApart siblings

pub record IsApart (n : Node) : Type 0 where
  pub properties : AreDistinct (map (λ (p : Property). p.name) n.properties)
  pub children : AreApart n.children
  pub names : AreDistinct (names n.children)

pub apart_sibling : (fs : Forest) (x : Name) (c : Node) → AreApart fs → sibling fs x ≡ Some c → IsApart c
apart_sibling no_nodes x c h e = absurd (let z : None ≡ Some c = e in cc)
apart_sibling (branch name properties children siblings) x c h e = step (λ k. apart_sibling siblings x c h.3 k) (bytes_eq x name) refl
  where
    step : (sibling siblings x ≡ Some c → IsApart c) → (b : Bool) → bytes_eq x name ≡ b → IsApart c
    step more true k =
        let z : ◌≡◌ {A = Option Node} (Some (record { properties = properties; children = children })) (Some c) = rw k at e in
        let is : ◌≡◌ {A = Node} (record { properties = properties; children = children }) c = cc in
        subst IsApart is (record { properties = h.0; children = h.1; names = h.2 })
    step more false k = more (rw k at e)

abbrev pub nothing : Node
nothing = record { properties = []; children = no_nodes }

-- a child whose properties are set, and whose children are changed
abbrev child_with : List Property → (Forest → Forest) → Node → Node
child_with ps change n = record { properties = set_properties n.properties ps; children = change n.children }

sibling-with_child : (c : Forest) (x y : Name) (ps : List Property) (change : Forest → Forest)
    → sibling (with_child c x ps change) y ≡ (if bytes_eq y x then Some (child_with ps change (unwrap_or (sibling c x) nothing)) else sibling c y)
sibling-with_child no_nodes x y ps change = refl
sibling-with_child (branch name properties children siblings) x y ps change = step (sibling-with_child siblings x y ps change) (bytes_eq x name) refl (bytes_eq y name) refl (bytes_eq y x) refl
  where
    step : sibling (with_child siblings x ps change) y ≡ (if bytes_eq y x then Some (child_with ps change (unwrap_or (sibling siblings x) nothing)) else sibling siblings y)
        → (b : Bool) → bytes_eq x name ≡ b → (c : Bool) → bytes_eq y name ≡ c → (d : Bool) → bytes_eq y x ≡ d
        → sibling (with_child (branch name properties children siblings) x ps change) y ≡ (if bytes_eq y x then Some (child_with ps change (unwrap_or (sibling (branch name properties children siblings) x) nothing)) else sibling (branch name properties children siblings) y)
    step more true e c e' d e'' =
        let again : c ≡ d = sym e' ∙ ap (bytes_eq y) (sym (bytes_eq_true x name e)) ∙ e'' in
        rw (e, e', e'') (both c d again)
      where
        both : (c d : Bool) → c ≡ d
            → ◌≡◌ {A = Option Node} (if c then Some (record { properties = set_properties properties ps; children = change children }) else sibling siblings y)
            (if d then Some (record { properties = set_properties properties ps; children = change children }) else (if c then Some (record { properties = properties; children = children }) else sibling siblings y))
        both true true k = refl
        both true false k = absurd (true≢false k)
        both false true k = absurd (true≢false (sym k))
        both false false k = refl
    step more false e true e' true e'' = absurd (true≢false (sym (ap (λ z. bytes_eq z name) (sym (bytes_eq_true y x e'')) ∙ e') ∙ e))
    step more false e true e' false e'' = rw (e, e', e'') refl
    step more false e false e' d e'' = rw (e, e') more

no_sibling : (fs : Forest) (x : Name) → AllByRecursion (λ z. z ≢ x) (names fs) → sibling fs x ≡ None
no_sibling fs x d = step (sibling fs x) refl
  where
    step : (y : Option Node) → sibling fs x ≡ y → sibling fs x ≡ None
    step None e = e
    step (Some c) e = absurd (true≢false (sym (bytes_eq_refl x) ∙ other_sibling fs x x c d e))

pub sibling-merged_forest : (d c : Forest) (y : Name) → AreDistinct (names d)
    → sibling (merged_forest c d) y ≡ option_or (option_map (merged_node (unwrap_or (sibling c y) nothing)) (sibling d y)) (sibling c y)
sibling-merged_forest no_nodes c y h = refl
sibling-merged_forest (branch x ps children siblings) c y h =
    sibling-merged_forest siblings (with_child c x ps (λ old. merged_forest old children)) y h.1
    ∙ ap (λ z. option_or (option_map (merged_node (unwrap_or z nothing)) (sibling siblings y)) z) (sibling-with_child c x y ps (λ old. merged_forest old children))
    ∙ step (bytes_eq y x) refl
  where
    step : (b : Bool) → bytes_eq y x ≡ b
        → option_or (option_map (merged_node (unwrap_or (if b then Some (child_with ps (λ old. merged_forest old children) (unwrap_or (sibling c x) nothing)) else sibling c y) nothing)) (sibling siblings y)) (if b then Some (child_with ps (λ old. merged_forest old children) (unwrap_or (sibling c x) nothing)) else sibling c y)
        ≡ option_or (option_map (merged_node (unwrap_or (sibling c y) nothing)) (if b then Some (record { properties = ps; children = children }) else sibling siblings y)) (sibling c y)
    step true e =
        let same = bytes_eq_true y x e in
        ap (λ z. option_or (option_map (merged_node (child_with ps (λ old. merged_forest old children) (unwrap_or (sibling c x) nothing))) z) (Some (child_with ps (λ old. merged_forest old children) (unwrap_or (sibling c x) nothing)))) (ap (sibling siblings) same ∙ no_sibling siblings x h.0)
        ∙ ap (λ z. Some (child_with ps (λ old. merged_forest old children) (unwrap_or (sibling c z) nothing))) (sym same)
    step false e = refl

-- ---- nodes

abbrev pub value_below : Node → Path → Name → Option (List ℕ)
value_below n p name = option_and_then (λ (c : Node). value_of c.properties name) (node_below n p)

abbrev pub stands_below : Node → Path → Bool
stands_below n p = is_some (node_below n p)

no_value_below : (p : Path) (name : Name) → value_below nothing p name ≡ None
no_value_below [] name = refl
no_value_below (x ∷ p) name = refl

pub value-merged : (p : Path) (n m : Node) (name : Name) → IsApart m → value_below (merged_node n m) p name ≡ option_or (value_below m p name) (value_below n p name)
value-merged [] n m name h = value_of-set_properties m.properties n.properties name h.properties
value-merged (x ∷ p) n m name h =
    ap (λ z. option_and_then (λ (c : Node). value_of c.properties name) (option_and_then (λ c. node_below c p) z)) (sibling-merged_forest m.children n.children x h.names)
    ∙ step (λ a b k. value-merged p a b name k) (sibling m.children x) refl (sibling n.children x)
  where
    step : ((a b : Node) → IsApart b → value_below (merged_node a b) p name ≡ option_or (value_below b p name) (value_below a p name))
        → (y : Option Node) → sibling m.children x ≡ y → (z : Option Node)
        → option_and_then (λ (c : Node). value_of c.properties name) (option_and_then (λ c. node_below c p) (option_or (option_map (merged_node (unwrap_or z nothing)) y) z))
        ≡ option_or (option_and_then (λ (c : Node). value_of c.properties name) (option_and_then (λ c. node_below c p) y)) (option_and_then (λ (c : Node). value_of c.properties name) (option_and_then (λ c. node_below c p) z))
    step more None e z = refl
    step more (Some b) e None = more nothing b (apart_sibling m.children x b h.children e) ∙ ap (option_or (value_below b p name)) (no_value_below p name)
    step more (Some b) e (Some a) = more a b (apart_sibling m.children x b h.children e)

pub stands-merged : (p : Path) (n m : Node) → IsApart m → stands_below (merged_node n m) p ≡ stands_below m p || stands_below n p
stands-merged [] n m h = refl
stands-merged (x ∷ p) n m h =
    ap (λ z. is_some (option_and_then (λ c. node_below c p) z)) (sibling-merged_forest m.children n.children x h.names)
    ∙ step (λ a b k. stands-merged p a b k) (sibling m.children x) refl (sibling n.children x)
  where
    only_root : (b : Node) → (p : Path) → stands_below b p || stands_below nothing p ≡ stands_below b p || false
    only_root b [] = refl
    only_root b (y ∷ p) = refl

    step : ((a b : Node) → IsApart b → stands_below (merged_node a b) p ≡ stands_below b p || stands_below a p)
        → (y : Option Node) → sibling m.children x ≡ y → (z : Option Node)
        → is_some (option_and_then (λ c. node_below c p) (option_or (option_map (merged_node (unwrap_or z nothing)) y) z))
        ≡ is_some (option_and_then (λ c. node_below c p) y) || is_some (option_and_then (λ c. node_below c p) z)
    step more None e z = refl
    step more (Some b) e None = more nothing b (apart_sibling m.children x b h.children e) ∙ only_root b p
    step more (Some b) e (Some a) = more a b (apart_sibling m.children x b h.children e)
