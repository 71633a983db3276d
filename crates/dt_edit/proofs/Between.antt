-- A node's tokens are at one place among a tree's, whatever it has.
use Rattle.std.proofs.Common.{◌≡◌, Bool, true, false, List, [], ◌∷◌, ◌++◌, map, Option, Some, None, is_some, option_and_then, refl, sym, ap, subst, ◌∙◌, append_assoc}
use Rattle.std.specs.Str.{bytes_eq}
use Rattle.std.proofs.lemmas.List.{append-nil}
use Rattle.dt_model.specs.Changes.{changed_below, changed_sibling, changed_at}
use Rattle.dt_model.specs.Format.{Token, begin_node, end_node, prop, tokens_of, tokens_of_forest}
use Rattle.dt_model.specs.Names.{Name}
use Rattle.dt_model.specs.Path.{Path}
use Rattle.dt_edit.specs.Between.{node_tokens, tokens_in, IsBetween}
use Rattle.dt_model.specs.Tree.{Forest, no_nodes, branch, Node, Reading, sibling, node_below, node_at, stands_in, root_of}

-- ---- a change that changes nothing

same_sibling : (f : Node → Node) (fs : Forest) (x : Name) → ((m : Node) → f m ≡ m) → changed_sibling f fs x ≡ fs
same_sibling f no_nodes x h = refl
same_sibling f (branch y properties children siblings) x h = step (same_sibling f siblings x h) (bytes_eq x y) refl
  where
    step : changed_sibling f siblings x ≡ siblings → (b : Bool) → bytes_eq x y ≡ b → changed_sibling f (branch y properties children siblings) x ≡ branch y properties children siblings
    step later true is = rw is (ap (λ (n : Node). branch y n.properties n.children siblings) (h (record { properties = properties; children = children })))
    step later false is = rw is (ap (branch y properties children) later)

same_below : (p : Path) (n : Node) → changed_below (λ m. m) p n ≡ n
same_below [] n = refl
same_below (x ∷ p) n = ap (λ (fs : Forest). record { properties = n.properties; children = fs }) (same_sibling (changed_below (λ m. m) p) n.children x (same_below p))

-- ---- siblings

record SiblingBetween (fs : Forest) (x : Name) (n : Node) : Type 0 where
  front : List Token
  back : List Token
  around : (change : Node → Node) → tokens_of_forest (changed_sibling change fs x) ≡ front ++ (node_tokens (change n) ++ back)

regroup : (a b c : List Token) → a ++ (b ++ c) ≡ (a ++ b) ++ c
regroup a b c = sym (append_assoc a b c)

between_sibling : (fs : Forest) (x : Name) (n : Node) → sibling fs x ≡ Some n → SiblingBetween fs x n
between_sibling no_nodes x n e = absurd cc
between_sibling (branch name ps cs ss) x n e = step (between_sibling ss x n) (bytes_eq x name) refl e
  where
    here : (m : Node) → m ≡ n → bytes_eq x name ≡ true → m ≡ record { properties = ps; children = cs } → SiblingBetween (branch name ps cs ss) x n
    here m same e own = record {
      front = begin_node name ∷ [];
      back = end_node ∷ tokens_of_forest ss;
      around = λ change. subst (λ (k : Node). tokens_of_forest (changed_sibling change (branch name ps cs ss) x) ≡ begin_node name ∷ (node_tokens (change k) ++ end_node ∷ tokens_of_forest ss)) (sym own ∙ same)
          (rw e (let k = change (record { properties = ps; children = cs }) in ap (λ (ts : List Token). begin_node name ∷ ts) (regroup (map prop k.properties) (tokens_of_forest k.children) (end_node ∷ tokens_of_forest ss))));
    }

    step : (sibling ss x ≡ Some n → SiblingBetween ss x n) → (b : Bool) → bytes_eq x name ≡ b → sibling (branch name ps cs ss) x ≡ Some n → SiblingBetween (branch name ps cs ss) x n
    step later true e found =
        let own : record { properties = ps; children = cs } ≡ n = cc in
        here (record { properties = ps; children = cs }) own e refl
    step later false e found =
        let rest = later cc in record {
          front = begin_node name ∷ (map prop ps ++ (tokens_of_forest cs ++ end_node ∷ rest.front));
          back = rest.back;
          around = λ change. rw e (ap (λ (ts : List Token). begin_node name ∷ (map prop ps ++ (tokens_of_forest cs ++ end_node ∷ ts))) (rest.around change)
              ∙ ap (λ (ts : List Token). begin_node name ∷ ts) (simp append_assoc));
        }

-- ---- nodes below

record BelowBetween (m : Node) (p : Path) (n : Node) : Type 0 where
  front : List Token
  back : List Token
  around : (change : Node → Node) → node_tokens (changed_below change p m) ≡ front ++ (node_tokens (change n) ++ back)

between_below : (p : Path) (m n : Node) → node_below m p ≡ Some n → BelowBetween m p n
between_below [] m n e = record {
  front = [];
  back = [];
  around = λ change. let same : m ≡ n = cc in ap (λ (k : Node). node_tokens (change k)) same ∙ sym (append-nil (node_tokens (change n)));
}
between_below (x ∷ p) m n e = step (λ c f. between_below p c n f) (sibling m.children x) refl e
  where
    grouped : (a b c d e f : List Token) → a ++ (b ++ ((c ++ (d ++ e)) ++ f)) ≡ (a ++ (b ++ c)) ++ (d ++ (e ++ f))
    grouped a b c d e f = simp append_assoc

    step : ((c : Node) → node_below c p ≡ Some n → BelowBetween c p n) → (s : Option Node) → sibling m.children x ≡ s → option_and_then (λ c. node_below c p) s ≡ Some n → BelowBetween m (x ∷ p) n
    step below None found e = absurd cc
    step below (Some c) found e =
        let outer = between_sibling m.children x c found in
        let inner = below c e in record {
          front = map prop m.properties ++ (outer.front ++ inner.front);
          back = inner.back ++ outer.back;
          around = λ change. ap (λ (ts : List Token). map prop m.properties ++ ts) (outer.around (changed_below change p) ∙ ap (λ (ts : List Token). outer.front ++ (ts ++ outer.back)) (inner.around change))
              ∙ grouped (map prop m.properties) outer.front inner.front (node_tokens (change n)) inner.back outer.back;
        }

-- ---- a tree

pub between : (t : Reading) (p : Path) → stands_in t p ≡ true → (front back : List Token) × IsBetween t p front back
between t p stands = step (node_at t p) refl stands
  where
    last : (a b c d : List Token) → (a ++ (b ++ c)) ++ d ≡ a ++ (b ++ (c ++ d))
    last a b c d = simp append_assoc

    step : (o : Option Node) → node_at t p ≡ o → is_some o ≡ true → (front back : List Token) × IsBetween t p front back
    step None found e = absurd cc
    step (Some n) found e =
        let b = between_below p (root_of t) n found in
        let around : (change : Node → Node) → tokens_in (changed_at change p t) ≡ (begin_node [] ∷ b.front) ++ (node_tokens (change n) ++ (b.back ++ end_node ∷ [])) =
        λ change. let k = changed_below change p (root_of t) in
        ap (λ (ts : List Token). begin_node [] ∷ ts) (regroup (map prop k.properties) (tokens_of_forest k.children) (end_node ∷ [])
        ∙ ap (λ (ts : List Token). ts ++ end_node ∷ []) (b.around change) ∙ last b.front (node_tokens (change n)) b.back (end_node ∷ [])) in (
          begin_node [] ∷ b.front,
          b.back ++ end_node ∷ [],
          record {
            node = n;
            is = found;
            now = sym (ap (λ (m : Node). tokens_of m.properties m.children) (same_below p (root_of t))) ∙ around (λ m. m);
            around = around;
          },
        )
