-- A changed node stands at one place among the tokens of a tree, whatever it then has.
use Rattle.std.proofs.Common.{◌≡◌, ℕ, Bool, true, false, cond, List, [], ◌∷◌, ◌++◌, map, Some, refl, sym, ap, ◌∙◌, append_assoc}
use Rattle.std.specs.Str.{bytes_eq}
use Rattle.std.proofs.lemmas.List.{map-append}
use Rattle.std.proofs.lemmas.Option.{same_Some}
use Rattle.dt_model.specs.Names.{Name}
use Rattle.dt_model.specs.Path.{Path}
use Rattle.dt_model.specs.Tree.{Property}
use Rattle.dt_read.specs.Cuts.{Content, changed_named, changed_content, content_of, changed_root, moved_nodes, moved_content, moved_root, marks_of_content}
use Rattle.dt_read.specs.Marks.{Mark, begin_mark, end_mark, prop_mark, nop_mark, last_mark, Root, marks_of_nodes, marks_of}
use Rattle.dt_trees.specs.Placed.{Nodes, no_nodes, node, place_below}

-- a token whose place moves
abbrev pub moved_mark : (ℕ → ℕ) → Mark → Mark
moved_mark f (begin_mark place name) = begin_mark (f place) name
moved_mark f end_mark = end_mark
moved_mark f (prop_mark p) = prop_mark p
moved_mark f nop_mark = nop_mark
moved_mark f last_mark = last_mark

pub moved_properties : (f : ℕ → ℕ) (ps : List Property) → map (moved_mark f) (map prop_mark ps) ≡ map prop_mark ps
moved_properties f [] = refl
moved_properties f (p ∷ ps) = ap (λ (x : List Mark). prop_mark p ∷ x) (moved_properties f ps)

-- the tokens of nodes whose places move are those tokens moved
pub moved_marks : (f : ℕ → ℕ) (nodes : Nodes) → marks_of_nodes (moved_nodes f nodes) ≡ map (moved_mark f) (marks_of_nodes nodes)
moved_marks f no_nodes = refl
moved_marks f (node place name properties children siblings) =
    ap (λ (x : List Mark). begin_mark (f place) name ∷ x)
    (ap (λ (x : List Mark). map prop_mark properties ++ (x ++ end_mark ∷ marks_of_nodes (moved_nodes f siblings))) (moved_marks f children)
    ∙ ap (λ (x : List Mark). map prop_mark properties ++ (map (moved_mark f) (marks_of_nodes children) ++ end_mark ∷ x)) (moved_marks f siblings)
    ∙ ap (λ (x : List Mark). x ++ (map (moved_mark f) (marks_of_nodes children) ++ end_mark ∷ map (moved_mark f) (marks_of_nodes siblings))) (sym (moved_properties f properties))
    ∙ ap (λ (x : List Mark). map (moved_mark f) (map prop_mark properties) ++ x) (sym (map-append (moved_mark f) (marks_of_nodes children) (end_mark ∷ marks_of_nodes siblings)))
    ∙ sym (map-append (moved_mark f) (map prop_mark properties) (marks_of_nodes children ++ end_mark ∷ marks_of_nodes siblings)))

-- where the node of a path stands among some tokens, which are others when its tree changes
pub record Stands (tokens : List Mark) (changed : (ℕ → ℕ) → (Content → Content) → List Mark) (k : ℕ) : Type 0 where
  pub name : Name
  pub content : Content
  pub before : List Mark
  pub more : List Mark
  pub whole : tokens ≡ before ++ begin_mark k name ∷ marks_of_content content (end_mark ∷ more)
  pub around : (f : ℕ → ℕ) (change : Content → Content) → changed f change
      ≡ map (moved_mark f) before ++ begin_mark (f k) name ∷ marks_of_content (change (moved_content f content)) (end_mark ∷ map (moved_mark f) more)

abbrev among_siblings : Name → Path → Nodes → (ℕ → ℕ) → (Content → Content) → List Mark
among_siblings x p nodes f change = marks_of_nodes (changed_named (changed_content change p) (moved_nodes f nodes) x)

abbrev pub in_tree : Path → Root → (ℕ → ℕ) → (Content → Content) → List Mark
in_tree p t f change = marks_of (changed_root change p (moved_root f t))

-- properties before moved tokens are tokens moved
with_properties : (f : ℕ → ℕ) (ps : List Property) (marks : List Mark) → map (moved_mark f) (map prop_mark ps ++ marks) ≡ map prop_mark ps ++ map (moved_mark f) marks
with_properties f ps marks = map-append (moved_mark f) (map prop_mark ps) marks ∙ ap (λ (x : List Mark). x ++ map (moved_mark f) marks) (moved_properties f ps)

-- a node among the children of another, behind which there are more tokens
inside : (place : ℕ) (name : Name) (ps : List Property) (children : Nodes) (y : Name) (q : Path) (k : ℕ) (tail : List Mark)
    → Stands (marks_of_nodes children) (among_siblings y q children) k
    → Stands (begin_mark place name ∷ (map prop_mark ps ++ (marks_of_nodes children ++ tail)))
    (λ f change. begin_mark (f place) name ∷ (map prop_mark ps ++ (among_siblings y q children f change ++ map (moved_mark f) tail))) k
inside place name ps children y q k tail inner = record {
  name = inner.name;
  content = inner.content;
  before = begin_mark place name ∷ (map prop_mark ps ++ inner.before);
  more = inner.more ++ tail;
  whole = ap (λ (x : List Mark). begin_mark place name ∷ (map prop_mark ps ++ (x ++ tail))) inner.whole
      ∙ ap (λ (x : List Mark). begin_mark place name ∷ x)
      (grouped (map prop_mark ps) inner.before (begin_mark k inner.name ∷ []) (map prop_mark inner.content.properties) (marks_of_nodes inner.content.children) (end_mark ∷ []) inner.more tail);
  around = λ f change.
      let c : Content = change (moved_content f inner.content) in
      ap (λ (x : List Mark). begin_mark (f place) name ∷ (map prop_mark ps ++ (x ++ map (moved_mark f) tail))) (inner.around f change)
      ∙ ap (λ (x : List Mark). begin_mark (f place) name ∷ x)
      (grouped (map prop_mark ps) (map (moved_mark f) inner.before) (begin_mark (f k) inner.name ∷ []) (map prop_mark c.properties) (marks_of_nodes c.children) (end_mark ∷ [])
      (map (moved_mark f) inner.more) (map (moved_mark f) tail))
      ∙ ap (λ (x : List Mark). begin_mark (f place) name ∷ (x ++ begin_mark (f k) inner.name ∷ marks_of_content c (end_mark ∷ (map (moved_mark f) inner.more ++ map (moved_mark f) tail))))
      (sym (with_properties f ps inner.before))
      ∙ ap (λ (x : List Mark). (begin_mark (f place) name ∷ map (moved_mark f) (map prop_mark ps ++ inner.before)) ++ begin_mark (f k) inner.name ∷ marks_of_content c (end_mark ∷ x))
      (sym (map-append (moved_mark f) inner.more tail));
}
  where
    grouped : (p b k a n e m t : List Mark) → p ++ ((b ++ (k ++ (a ++ (n ++ (e ++ m))))) ++ t) ≡ (p ++ b) ++ (k ++ (a ++ (n ++ (e ++ (m ++ t)))))
    grouped p b k a n e m t = simp append_assoc

-- a node among the siblings of another
further : (place : ℕ) (name : Name) (ps : List Property) (children siblings : Nodes) (x : Name) (p : Path) (k : ℕ)
    → Stands (marks_of_nodes siblings) (among_siblings x p siblings) k
    → Stands (marks_of_nodes (node place name ps children siblings))
    (λ f change. begin_mark (f place) name ∷ (map prop_mark ps ++ (marks_of_nodes (moved_nodes f children) ++ end_mark ∷ among_siblings x p siblings f change))) k
further place name ps children siblings x p k rest = record {
  name = rest.name;
  content = rest.content;
  before = begin_mark place name ∷ (map prop_mark ps ++ (marks_of_nodes children ++ end_mark ∷ rest.before));
  more = rest.more;
  whole = ap (λ (y : List Mark). begin_mark place name ∷ (map prop_mark ps ++ (marks_of_nodes children ++ end_mark ∷ y))) rest.whole
      ∙ ap (λ (y : List Mark). begin_mark place name ∷ y)
      (grouped (map prop_mark ps) (marks_of_nodes children) (end_mark ∷ []) rest.before (begin_mark k rest.name ∷ marks_of_content rest.content (end_mark ∷ rest.more)));
  around = λ f change.
      let own : List Mark = begin_mark (f k) rest.name ∷ marks_of_content (change (moved_content f rest.content)) (end_mark ∷ map (moved_mark f) rest.more) in
      ap (λ (y : List Mark). begin_mark (f place) name ∷ (map prop_mark ps ++ (marks_of_nodes (moved_nodes f children) ++ end_mark ∷ y))) (rest.around f change)
      ∙ ap (λ (y : List Mark). begin_mark (f place) name ∷ (map prop_mark ps ++ (y ++ end_mark ∷ (map (moved_mark f) rest.before ++ own)))) (moved_marks f children)
      ∙ ap (λ (y : List Mark). begin_mark (f place) name ∷ y)
      (grouped (map prop_mark ps) (map (moved_mark f) (marks_of_nodes children)) (end_mark ∷ []) (map (moved_mark f) rest.before) own)
      ∙ ap (λ (y : List Mark). begin_mark (f place) name ∷ ((map prop_mark ps ++ y) ++ own)) (sym (map-append (moved_mark f) (marks_of_nodes children) (end_mark ∷ rest.before)))
      ∙ ap (λ (y : List Mark). begin_mark (f place) name ∷ (y ++ own)) (sym (with_properties f ps (marks_of_nodes children ++ end_mark ∷ rest.before)));
}
  where
    grouped : (a b c d e : List Mark) → a ++ (b ++ (c ++ (d ++ e))) ≡ (a ++ (b ++ (c ++ d))) ++ e
    grouped a b c d e = simp append_assoc

stands_below : (nodes : Nodes) (at : ℕ) (x : Name) (p : Path) (k : ℕ) → place_below at nodes (x ∷ p) ≡ Some k → Stands (marks_of_nodes nodes) (among_siblings x p nodes) k
stands_below no_nodes at x p k e = absurd cc
stands_below (node place name ps children siblings) at x p k e =
    by_name (bytes_eq x name) refl e (λ y q f. stands_below children place y q k f) (λ f. stands_below siblings at x p k f)
  where
    own : (q : Path) → place_below place children q ≡ Some k → ((y : Name) (q : Path) → place_below place children (y ∷ q) ≡ Some k → Stands (marks_of_nodes children) (among_siblings y q children) k)
        → Stands (marks_of_nodes (node place name ps children siblings))
        (λ f change. let c : Content = changed_content change q (record { properties = ps; children = moved_nodes f children }) in
        begin_mark (f place) name ∷ (map prop_mark c.properties ++ (marks_of_nodes c.children ++ end_mark ∷ map (moved_mark f) (marks_of_nodes siblings)))) k
    own [] e deeper =
        let same : place ≡ k = same_Some place k e in record {
          name = name;
          content = record { properties = ps; children = children };
          before = [];
          more = marks_of_nodes siblings;
          whole = ap (λ (i : ℕ). begin_mark i name ∷ (map prop_mark ps ++ (marks_of_nodes children ++ end_mark ∷ marks_of_nodes siblings))) same;
          around = λ f change. let c : Content = change (record { properties = ps; children = moved_nodes f children }) in
              ap (λ (i : ℕ). begin_mark (f i) name ∷ marks_of_content c (end_mark ∷ map (moved_mark f) (marks_of_nodes siblings))) same;
        }
    own (y ∷ q) e deeper = inside place name ps children y q k (end_mark ∷ marks_of_nodes siblings) (deeper y q e)

    by_name : (b : Bool) → bytes_eq x name ≡ b → cond b (place_below place children p) (place_below at siblings (x ∷ p)) ≡ Some k
        → ((y : Name) (q : Path) → place_below place children (y ∷ q) ≡ Some k → Stands (marks_of_nodes children) (among_siblings y q children) k)
        → (place_below at siblings (x ∷ p) ≡ Some k → Stands (marks_of_nodes siblings) (among_siblings x p siblings) k)
        → Stands (marks_of_nodes (node place name ps children siblings)) (among_siblings x p (node place name ps children siblings)) k
    by_name true is e deeper later =
        let s = own p e deeper in record {
          name = s.name;
          content = s.content;
          before = s.before;
          more = s.more;
          whole = s.whole;
          around = λ f change. let c : Content = changed_content change p (record { properties = ps; children = moved_nodes f children }) in
              rw is (ap (λ (y : List Mark). begin_mark (f place) name ∷ (map prop_mark c.properties ++ (marks_of_nodes c.children ++ end_mark ∷ y))) (moved_marks f siblings) ∙ s.around f change);
        }
    by_name false is e deeper later =
        let s = further place name ps children siblings x p k (later e) in record {
          name = s.name;
          content = s.content;
          before = s.before;
          more = s.more;
          whole = s.whole;
          around = λ f change. rw is (s.around f change);
        }

-- where the node of a path stands among the tokens of a tree
pub stands_in_tree : (t : Root) (p : Path) (k : ℕ) → place_below t.place t.children p ≡ Some k → Stands (marks_of t) (in_tree p t) k
stands_in_tree t [] k e =
    let same : t.place ≡ k = same_Some t.place k e in record {
      name = [];
      content = content_of t;
      before = [];
      more = [];
      whole = ap (λ (i : ℕ). begin_mark i [] ∷ (map prop_mark t.properties ++ (marks_of_nodes t.children ++ end_mark ∷ []))) same;
      around = λ f change. let c : Content = change (moved_content f (content_of t)) in
          ap (λ (i : ℕ). begin_mark (f i) [] ∷ marks_of_content c (end_mark ∷ [])) same;
    }
stands_in_tree t (x ∷ p) k e = inside t.place [] t.properties t.children x p k (end_mark ∷ []) (stands_below t.children t.place x p k e)
