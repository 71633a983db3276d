-- What the nodes of a list have is what those of its tree have.
use Rattle.std.proofs.Common.{◌≡◌, ℕ, suc, ◌+◌, ◌≤◌, List, [], ◌∷◌, ◌++◌, length, map, Option, refl, sym, ap, ◌∙◌, subst, arith}
use Rattle.std.specs.List.{AllByRecursion}
use Rattle.std.proofs.lemmas.List.{length-map, map-append}
use Rattle.dt_model.specs.Limits.{most_nodes}
use Rattle.dt_model.specs.Numbering as model
use Rattle.dt_model.specs.Path.{Path}
use Rattle.dt_model.specs.Named.{NodeReference, Content, NamedForest, no_nodes, branch, Named, NamedPlaced, Listed, NamedList, node_count, preorder, nodes_of, listed, list_of, tree_of}
use Rattle.dt_model.specs.NamedOf.{contents_of, asked_from, asked_in, RefersBelow, AreNamedNodes, IsNamed}
use Rattle.dt_model_laws.proofs.NamedListed.{length-nodes}
use Rattle.dt_flat.proofs.Distinctness.{all-append}
use Rattle.dt_source_named_tree.specs.Said.{node_said}
use Rattle.dt_source_named_tree.specs.declared.named.NamedNode.{NamedNode}
use Rattle.dt_phandle.specs.declared.asked.Asked.{Asked}
use Rattle.dt_phandle.specs.Asking.{asked_said, content_said}

abbrev listed_content : Listed NodeReference → Content NodeReference
listed_content n = n.content

abbrev placed_content : NamedPlaced NodeReference → Content NodeReference
placed_content n = n.content

contents_listed : (k p : ℕ) (path : Path) (f : NamedForest NodeReference) → map listed_content (listed k p f) ≡ map placed_content (preorder path f)
contents_listed k p path no_nodes = refl
contents_listed k p path (branch name content children siblings) =
    let inner = listed (suc k) k children in
    let outer = listed (suc k + node_count children) p siblings in
    let own : Path = path ++ name ∷ [] in
    ap (λ (cs : List (Content NodeReference)). content ∷ cs) (
    map-append listed_content inner outer
    ∙ (λ i. contents_listed (suc k) k own children i ++ contents_listed (suc k + node_count children) p path siblings i)
    ∙ sym (map-append placed_content (preorder own children) (preorder path siblings))
    )

contents_are : (t : Named NodeReference) → map listed_content (list_of t) ≡ contents_of t
contents_are t = ap (λ (cs : List (Content NodeReference)). t.content ∷ cs) (contents_listed 1 0 [] t.children)

contents_said : (nodes : List NamedNode) → map content_said nodes ≡ map listed_content (map node_said nodes)
contents_said [] = refl
contents_said (n ∷ ns) = ap (λ (cs : List (Content NodeReference)). content_said n ∷ cs) (contents_said ns)

-- what the nodes of a list have
pub contents : (l : NamedList NodeReference) (nodes : List NamedNode) → list_of (tree_of l) ≡ l.nodes → map node_said nodes ≡ l.nodes → map content_said nodes ≡ contents_of (tree_of l)
contents l nodes preorder are = contents_said nodes ∙ ap (map listed_content) (are ∙ sym preorder) ∙ contents_are (tree_of l)

-- ---- how many there are

pub counted : (l : NamedList NodeReference) (nodes : List NamedNode) → list_of (tree_of l) ≡ l.nodes → map node_said nodes ≡ l.nodes → length nodes ≡ 1 + node_count (tree_of l).children
counted l nodes preorder are =
    sym (length-map nodes content_said) ∙ ap length (contents l nodes preorder are) ∙ length-map (nodes_of (tree_of l)) placed_content ∙ length-nodes (tree_of l)

-- ---- references are to nodes

refer_below : (n d k p : ℕ) (f : NamedForest NodeReference) → AreNamedNodes n d f → AllByRecursion (RefersBelow n) (map listed_content (listed k p f))
refer_below n d k p no_nodes h = tt
refer_below n d k p (branch name content children siblings) h =
    let inner = listed (suc k) k children in
    let outer = listed (suc k + node_count children) p siblings in (
      h.1.referred,
      subst (AllByRecursion (RefersBelow n)) (sym (map-append listed_content inner outer))
          (all-append (RefersBelow n) (map listed_content inner) (map listed_content outer) (refer_below n (suc d) (suc k) k children h.4) (refer_below n d (suc k + node_count children) p siblings h.5)),
    )

all_refer : (t : Named NodeReference) → IsNamed t → AllByRecursion (RefersBelow (1 + node_count t.children)) (contents_of t)
all_refer t i =
    let n = 1 + node_count t.children in
    subst (AllByRecursion (RefersBelow n)) (contents_are t) (i.root.referred, refer_below n 1 1 0 t.children i.nodes)

pub references : (l : NamedList NodeReference) (nodes : List NamedNode) → list_of (tree_of l) ≡ l.nodes → IsNamed (tree_of l) → map node_said nodes ≡ l.nodes
    → AllByRecursion (RefersBelow (length nodes)) (map content_said nodes)
references l nodes preorder named are =
    subst (AllByRecursion (RefersBelow (length nodes))) (sym (contents l nodes preorder are))
    (subst (λ (n : ℕ). AllByRecursion (RefersBelow n) (contents_of (tree_of l))) (sym (counted l nodes preorder are)) (all_refer (tree_of l) named))

-- ---- what nodes ask for

length-asked : (all : List (Content NodeReference)) (k : ℕ) (cs : List (Content NodeReference)) → length (asked_from all k cs) ≡ length cs
length-asked all k [] = refl
length-asked all k (c ∷ cs) = ap suc (length-asked all (suc k) cs)

pub asked_few : (l : NamedList NodeReference) (nodes : List NamedNode) (asked lent : List Asked) → list_of (tree_of l) ≡ l.nodes → IsNamed (tree_of l) → map node_said nodes ≡ l.nodes
    → lent ≡ asked → map asked_said asked ≡ asked_from (map content_said nodes) 0 (map content_said nodes) → length lent ≤ most_nodes
asked_few l nodes asked lent preorder named are lends is =
    let all = map content_said nodes in
    let asks = ap length is in
    let few = named.few in
    let same = counted l nodes preorder are in
    let lengths = ap length lends in
    omega (arith, length-asked all 0 all, length-map nodes content_said, length-map asked asked_said)

pub asked_all : (l : NamedList NodeReference) (nodes : List NamedNode) (asked lent : List Asked) (numbers : List (Option ℕ)) → list_of (tree_of l) ≡ l.nodes → map node_said nodes ≡ l.nodes
    → lent ≡ asked → map asked_said asked ≡ asked_from (map content_said nodes) 0 (map content_said nodes) → model.IsNumbering (map asked_said lent) numbers
    → model.IsNumbering (asked_in (tree_of l)) numbers
asked_all l nodes asked lent numbers preorder are lends is h =
    subst (λ (xs : List model.Asked). model.IsNumbering xs numbers)
    (ap (map asked_said) lends ∙ is ∙ ap (λ (cs : List (Content NodeReference)). asked_from cs 0 cs) (contents l nodes preorder are)) h
