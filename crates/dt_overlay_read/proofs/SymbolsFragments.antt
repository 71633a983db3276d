-- Texts that begin with the path of what a fragment brings.
use Rattle.std.proofs.Common.{◌≡◌, ◌≢◌, ◌⊎◌, ℕ, Bool, true, false, List, [], ◌∷◌, ◌++◌, ◌↔◌, Option, Some, None, MatchOption, IsTrue, is_some, refl, sym, ap, subst, ◌∙◌, inl, inr, append_assoc, codes, true≢false, arith}
use Rattle.std.specs.Prelude.{if◌then◌else◌}
use Rattle.std.specs.List.{AllByRecursion}
use Rattle.std.specs.Str.{bytes_eq}
use Rattle.dt_model.specs.Lists.{IsIn}
use Rattle.dt_model.specs.Names.{Name, IsNodeName}
use Rattle.dt_model.specs.Object.{is_fragment, fragment_names}
use Rattle.dt_model.specs.Overlay.{content}
use Rattle.dt_model.specs.Path.{Path, path_text}
use Rattle.dt_model.specs.Tree.{Forest, no_nodes, branch, Node, Reading, node_at, root_of, sibling}
use Rattle.dt_model.specs.Valid.{AreDistinct, AreNodes, IsValid, names}
use Rattle.dt_trees.specs.Placed.{PlacedTree, reading_of, place_of, path_at, last_name, forest_under, below_at, below_in, IsAt}
use Rattle.dt_trees.proofs.NodePlaces.{stands_place}
use Rattle.dt_trees.proofs.Walked.{below_last}
use Rattle.dt_model.proofs.Tests.{bytes_eq_refl, bytes_eq_true, bytes_eq_other, each_in}
use Rattle.dt_model.proofs.Texts.{node_name_has_no}
use Rattle.dt_model_laws.proofs.FragmentOrder.{each_fragment}
use Rattle.dt_overlay_texts.specs.Cuts.{Lacks, IsCut}
use Rattle.dt_overlay_texts.proofs.TextCuts.{cut_once, never_cut}
use Rattle.dt_overlay_laws.specs.Objects.{IsOfFragment}
use Rattle.dt_overlay_read.specs.Symbols.{IsFirstName}

-- ---- fragments among the root's children

-- a fragment is the sibling of its name
fragment_found : (f : Forest) (x : Name) → AreDistinct (names f) → IsIn x (fragment_names f) → (n : Node) × (sibling f x ≡ Some n) × (is_fragment x n.children ≡ true)
fragment_found no_nodes x d i = absurd i
fragment_found (branch y ps c s) x d i = step (is_fragment y c) refl (fragment_found s x d.1) i
  where
    other : IsIn x (fragment_names s) → x ≢ y
    other k = each_in (λ z. z ≢ y) (fragment_names s) x (each_fragment (λ z. z ≢ y) s d.0) k

    later : IsIn x (fragment_names s) → ((n : Node) × (sibling s x ≡ Some n) × (is_fragment x n.children ≡ true)) → (n : Node) × (sibling (branch y ps c s) x ≡ Some n) × (is_fragment x n.children ≡ true)
    later k w = (w.0, rw (bytes_eq_other x y (other k)) w.1, w.2)

    step : (b : Bool) → is_fragment y c ≡ b → (IsIn x (fragment_names s) → (n : Node) × (sibling s x ≡ Some n) × (is_fragment x n.children ≡ true)) → IsIn x (if b then y ∷ fragment_names s else fragment_names s)
        → (n : Node) × (sibling (branch y ps c s) x ≡ Some n) × (is_fragment x n.children ≡ true)
    step true e more (inl same) = (record { properties = ps; children = c }, rw (same, bytes_eq_refl y) refl, ap (λ (z : Name). is_fragment z c) same ∙ e)
    step true e more (inr k) = later k (more k)
    step false e more k = later k (more k)

-- a sibling that is a fragment is among them
found_fragment : (f : Forest) (x : Name) (n : Node) → sibling f x ≡ Some n → is_fragment x n.children ≡ true → IsIn x (fragment_names f)
found_fragment no_nodes x n e h = absurd cc
found_fragment (branch y ps c s) x n e h = step (bytes_eq x y) refl e (found_fragment s x n)
  where
    first : (b : Bool) → b ≡ true → x ≡ y → IsIn x (if b then y ∷ fragment_names s else fragment_names s)
    first true t same = inl same
    first false t same = absurd cc

    behind : (b : Bool) → IsIn x (fragment_names s) → IsIn x (if b then y ∷ fragment_names s else fragment_names s)
    behind true i = inr i
    behind false i = i

    step : (b : Bool) → bytes_eq x y ≡ b → (if b then Some (record { properties = ps; children = c }) else sibling s x) ≡ Some n → (sibling s x ≡ Some n → is_fragment x n.children ≡ true → IsIn x (fragment_names s))
        → IsIn x (if is_fragment y c then y ∷ fragment_names s else fragment_names s)
    step true t here more =
        let same : x ≡ y = bytes_eq_true x y t in
        let node : record { properties = ps; children = c } ≡ n = cc in
        let is : is_fragment y c ≡ true = ap (λ (z : Name). is_fragment z c) (sym same) ∙ ap (λ (m : Node). is_fragment x m.children) node ∙ h in
        first (is_fragment y c) is same
    step false t later more = behind (is_fragment y c) (more later h)

module _ (t : PlacedTree) (x : Name) where
  root_sibling : node_at (reading_of t) (x ∷ []) ≡ sibling (reading_of t).children x
  root_sibling = below_last [] (root_of (reading_of t)) x

  -- a child of the root is a fragment where it is one by what is below it
  pub child_fragment : (i : ℕ) → IsAt t (x ∷ []) i → is_fragment x (below_at t (x ∷ [])) ≡ true → IsIn x (fragment_names (reading_of t).children)
  child_fragment i at h = by (node_at (reading_of t) (x ∷ [])) refl h
    where
      by : (o : Option Node) → node_at (reading_of t) (x ∷ []) ≡ o → is_fragment x (forest_under o) ≡ true → IsIn x (fragment_names (reading_of t).children)
      by None e h = absurd (true≢false (sym (ap is_some at) ∙ stands_place t (x ∷ []) ∙ ap is_some e))
      by (Some n) e h = found_fragment (reading_of t).children x n (sym root_sibling ∙ e) h

  -- a fragment is there, with what makes it one below it
  pub fragment_child : AreDistinct (names (reading_of t).children) → IsIn x (fragment_names (reading_of t).children) → (is_some (place_of t (x ∷ [])) ≡ true) × (is_fragment x (below_at t (x ∷ [])) ≡ true)
  fragment_child d i =
      let found = fragment_found (reading_of t).children x d i in
      let e = root_sibling ∙ found.1 in
      (stands_place t (x ∷ []) ∙ ap is_some e, ap (λ (o : Option Node). is_fragment x (forest_under o)) e ∙ found.2)

-- the names of the root's children are names
each_named : (f : Forest) → AreNodes f → AllByRecursion IsNodeName (names f)
each_named no_nodes h = tt
each_named (branch x ps c s) h = (h.0, each_named s h.4)

-- so a fragment's has no slash
pub fragment_without_slash : (t : Reading) (f : Name) → IsValid t → IsIn f (fragment_names t.children) → Lacks 47 f
fragment_without_slash t f valid i =
    node_name_has_no 47 f (each_in IsNodeName (fragment_names t.children) f (each_fragment IsNodeName t.children (each_named t.children valid.nodes)) i) refl

-- ---- texts

-- what is behind a fragment's name in a text of what it brings
pub data IsContentText : List ℕ → Type 0 where
  alone : IsContentText (codes "__overlay__")
  longer : (rest : List ℕ) → IsContentText (codes "__overlay__" ++ 47 ∷ rest)

pub overlay_without_slash : Lacks 47 (codes "__overlay__")
overlay_without_slash = ((λ e. absurd (omega arith)), ((λ e. absurd (omega arith)), ((λ e. absurd (omega arith)), ((λ e. absurd (omega arith)), ((λ e. absurd (omega arith)), ((λ e. absurd (omega arith)), ((λ e. absurd (omega arith)), ((λ e. absurd (omega arith)), ((λ e. absurd (omega arith)), ((λ e. absurd (omega arith)), ((λ e. absurd (omega arith)), tt)))))))))))

-- a text of what a fragment brings begins with its name between slashes
pub parts_of : (t : Reading) (text : List ℕ) → IsOfFragment t text → (f : Name) × IsIn f (fragment_names t.children) × ((behind : List ℕ) × (text ≡ 47 ∷ (f ++ 47 ∷ behind)) × IsContentText behind)
parts_of t text of = by of.2
  where
    by : ((text ≡ path_text (content of.0)) ⊎ ((rest : List ℕ) × (text ≡ path_text (content of.0) ++ (codes "/" ++ rest))))
        → (f : Name) × IsIn f (fragment_names t.children) × ((behind : List ℕ) × (text ≡ 47 ∷ (f ++ 47 ∷ behind)) × IsContentText behind)
    by (inl e) = (of.0, of.1, (codes "__overlay__", e, alone))
    by (inr more) = (of.0, of.1, (codes "__overlay__" ++ 47 ∷ more.0, more.1 ∙ ap (λ (z : List ℕ). 47 ∷ z) (append_assoc of.0 (47 ∷ codes "__overlay__") (47 ∷ more.0)), longer more.0))

-- and the other way round
pub of_parts : (t : Reading) (text : List ℕ) (f : Name) (behind : List ℕ) → IsIn f (fragment_names t.children) → text ≡ 47 ∷ (f ++ 47 ∷ behind) → IsContentText behind → IsOfFragment t text
of_parts t text f _ i e alone = (f, i, inl e)
of_parts t text f _ i e (longer rest) = (f, i, inr (rest, e ∙ ap (λ (z : List ℕ). 47 ∷ z) (sym (append_assoc f (47 ∷ codes "__overlay__") (47 ∷ rest)))))

-- the first name tells
pub content_named : (bytes name : List ℕ) → IsFirstName bytes name → name ≡ codes "__overlay__" → IsContentText bytes
content_named bytes name first same = by first.whole
  where
    by : ((bytes ≡ name) ⊎ ((rest : List ℕ) × (bytes ≡ name ++ 47 ∷ rest))) → IsContentText bytes
    by (inl e) = subst IsContentText (sym (e ∙ same)) alone
    by (inr more) = subst IsContentText (sym (more.1 ∙ ap (λ (z : List ℕ). z ++ 47 ∷ more.0) same)) (longer more.0)

pub named_content : (bytes name : List ℕ) → IsFirstName bytes name → IsContentText bytes → name ≡ codes "__overlay__"
named_content bytes name first is = by bytes is first.whole
  where
    by : (xs : List ℕ) → IsContentText xs → ((xs ≡ name) ⊎ ((rest : List ℕ) × (xs ≡ name ++ 47 ∷ rest))) → name ≡ codes "__overlay__"
    by _ alone (inl e) = sym e
    by _ alone (inr more) = absurd (never_cut 47 name more.0 (subst (Lacks 47) more.1 overlay_without_slash))
    by _ (longer rest) (inl e) = absurd (never_cut 47 (codes "__overlay__") rest (subst (Lacks 47) (sym e) first.lacks))
    by _ (longer rest) (inr more) = (cut_once 47 name (codes "__overlay__") more.0 rest first.lacks overlay_without_slash (sym more.1)).0

-- ---- a text by its parts

-- a text with one slash isn't one of what a fragment brings
pub no_slashes : (t : Reading) (text others : List ℕ) → text ≡ 47 ∷ others → Lacks 47 others → ¬ IsOfFragment t text
no_slashes t text others whole lacks of =
    let parts = parts_of t text of in
    let same : 47 ∷ others ≡ 47 ∷ (parts.0 ++ 47 ∷ parts.2.0) = sym whole ∙ parts.2.1 in
    let others_are : others ≡ parts.0 ++ 47 ∷ parts.2.0 = cc in
    never_cut 47 parts.0 parts.2.0 (subst (Lacks 47) others_are lacks)

module _ (t : Reading) (valid : IsValid t) (text others name rest : List ℕ) (whole : text ≡ 47 ∷ others) (cut : IsCut 47 others name rest) where
  -- a text of what a fragment brings has its name between the first slashes
  pub its_parts : IsOfFragment t text → IsIn name (fragment_names t.children) × IsContentText rest
  its_parts of =
      let parts = parts_of t text of in
      let same : 47 ∷ others ≡ 47 ∷ (parts.0 ++ 47 ∷ parts.2.0) = sym whole ∙ parts.2.1 in
      let others_are : others ≡ parts.0 ++ 47 ∷ parts.2.0 = cc in
      let once = cut_once 47 name parts.0 rest parts.2.0 cut.lacks (fragment_without_slash t parts.0 valid parts.1) (sym cut.whole ∙ others_are) in
      (subst (λ (x : Name). IsIn x (fragment_names t.children)) (sym once.0) parts.1, subst IsContentText (sym once.1) parts.2.2)

  -- one that goes on otherwise isn't
  pub of_other : (next : List ℕ) → IsFirstName rest next → next ≢ codes "__overlay__" → ¬ IsOfFragment t text
  of_other next first other of = other (named_content rest next first (its_parts of).1)

  -- one of no fragment isn't
  pub of_none : ¬ IsIn name (fragment_names t.children) → ¬ IsOfFragment t text
  of_none missing of = missing (its_parts of).0

  -- and one of a fragment that goes on so is
  pub of_child : (next : List ℕ) → IsFirstName rest next → next ≡ codes "__overlay__" → IsIn name (fragment_names t.children) → IsOfFragment t text
  of_child next first same i =
      of_parts t text name rest i (whole ∙ ap (λ (z : List ℕ). 47 ∷ z) cut.whole) (content_named rest next first same)

-- ---- a child of the root

-- where the root has no child of the name there is no such fragment
pub no_child : (t : PlacedTree) (x : Name) → IsValid (reading_of t) → place_of t (x ∷ []) ≡ None → ¬ IsIn x (fragment_names (reading_of t).children)
no_child t x valid none i = true≢false (sym (fragment_child t x valid.siblings i).0 ∙ ap is_some none)

-- where it has one, this says whether there is
pub child_says : (t : PlacedTree) (x : Name) (i : ℕ) (b : Bool) (o : Option ℕ) (content : ℕ → Type 0) → IsValid (reading_of t) → IsAt t (x ∷ []) i → path_at t i ≡ x ∷ [] → b ≡ is_some o
    → MatchOption o (is_fragment (last_name (path_at t i)) (below_in t i) ≡ false) (λ k. (is_fragment (last_name (path_at t i)) (below_in t i) ≡ true) × content k)
    → IsTrue b ↔ IsIn x (fragment_names (reading_of t).children)
child_says t x i b o content valid at path is m = by o is m
  where
    same : is_fragment (last_name (path_at t i)) (below_in t i) ≡ is_fragment x (below_at t (x ∷ []))
    same = ap (λ (p : Path). is_fragment (last_name p) (below_at t p)) path

    by : (o : Option ℕ) → b ≡ is_some o → MatchOption o (is_fragment (last_name (path_at t i)) (below_in t i) ≡ false) (λ k. (is_fragment (last_name (path_at t i)) (below_in t i) ≡ true) × content k)
        → IsTrue b ↔ IsIn x (fragment_names (reading_of t).children)
    by None is m = (λ h. absurd (true≢false (sym h ∙ is)), λ j. absurd (true≢false (sym (same ∙ (fragment_child t x valid.siblings j).1) ∙ m)))
    by (Some k) is m = (λ h. child_fragment t x i at (sym same ∙ m.0), λ j. is)
