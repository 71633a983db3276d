-- The nodes that texts name, and whether fragments bring them.
use Rattle.std.proofs.Common.{◌≡◌, ℕ, true, List, [], ◌∷◌, ◌++◌, Option, Some, None, is_some, refl, sym, ap, subst, ◌∙◌, codes, true≢false}
use Rattle.std.proofs.lemmas.List.{append_cancel_right}
use Rattle.std.specs.List.{AllByRecursion}
use Rattle.dt_model.specs.Lists.{IsIn}
use Rattle.dt_model.specs.Names.{Name, IsNodeName}
use Rattle.dt_model.specs.Numbers.{is_brought}
use Rattle.dt_model.specs.Object.{fragment_names}
use Rattle.dt_model.specs.Overlay.{content}
use Rattle.dt_model.specs.Path.{Path, path_text, below}
use Rattle.dt_model.specs.Tree.{Reading, nodes_of, stands_in}
use Rattle.dt_model.specs.Valid.{IsValid}
use Rattle.dt_model.specs.Applied.{node_named}
use Rattle.dt_names.specs.Paths.{IsPathOf}
use Rattle.dt_trees.specs.Placed.{PlacedTree, reading_of, place_of, IsAt}
use Rattle.dt_trees.proofs.NodePlaces.{stands_place}
use Rattle.dt_model.proofs.Finding.{node_of_text}
use Rattle.dt_model_laws.proofs.Lands.{below-append, append-below}
use Rattle.dt_model.proofs.Tests.{any_from, any_here}
use Rattle.dt_model.proofs.Texts.{one_text, node_name_has_no}
use Rattle.dt_overlay_texts.specs.Cuts.{Lacks}
use Rattle.dt_overlay_texts.proofs.TextCuts.{cut_once, never_cut}
use Rattle.dt_overlay_laws.specs.Objects.{IsOfFragment}
use Rattle.dt_overlay_read.proofs.FixupsNumbers.{found_by_text}
use Rattle.dt_overlay_read.proofs.SymbolsFragments.{IsContentText, alone, longer, overlay_without_slash, fragment_without_slash, parts_of, of_parts}

-- ---- by a text

-- a node that a text names stands, and the text is its path's
pub text_names : (t : Reading) (text : List ℕ) (q : Path) → IsValid t → node_named (nodes_of t) (text ++ 0 ∷ []) ≡ Some q → (stands_in t q ≡ true) × IsPathOf text q
text_names t text q valid e =
    let found = found_by_text t (text ++ 0 ∷ []) q valid e in
    (found.0, record { written = append_cancel_right text (path_text q) (0 ∷ []) found.1.text; named = found.1.named })

-- a text of no path names none
pub no_path_named : (t : Reading) (text : List ℕ) → IsValid t → ((p : Path) → ¬ IsPathOf text p) → node_named (nodes_of t) (text ++ 0 ∷ []) ≡ None
no_path_named t text valid never = by (node_named (nodes_of t) (text ++ 0 ∷ [])) refl
  where
    by : (o : Option Path) → node_named (nodes_of t) (text ++ 0 ∷ []) ≡ o → node_named (nodes_of t) (text ++ 0 ∷ []) ≡ None
    by None e = e
    by (Some q) e = absurd (never q (text_names t text q valid e).1)

-- a text of a path that leads nowhere names none
pub nowhere_named : (a : PlacedTree) (text : List ℕ) (p : Path) → IsValid (reading_of a) → IsPathOf text p → place_of a p ≡ None → node_named (nodes_of (reading_of a)) (text ++ 0 ∷ []) ≡ None
nowhere_named a text p valid of none = by (node_named (nodes_of (reading_of a)) (text ++ 0 ∷ [])) refl
  where
    by : (o : Option Path) → node_named (nodes_of (reading_of a)) (text ++ 0 ∷ []) ≡ o → node_named (nodes_of (reading_of a)) (text ++ 0 ∷ []) ≡ None
    by None e = e
    by (Some q) e =
        let found = text_names (reading_of a) text q valid e in
        let same : q ≡ p = one_text q p found.1.named of.named (sym found.1.written ∙ of.written) in
        let stands : is_some (place_of a p) ≡ true = stands_place a p ∙ ap (stands_in (reading_of a)) (sym same) ∙ found.0 in
        absurd (true≢false (sym stands ∙ ap is_some none))

-- one of a path that leads to a node names that
pub led_named : (a : PlacedTree) (text : List ℕ) (p : Path) (i : ℕ) → IsValid (reading_of a) → IsPathOf text p → IsAt a p i → node_named (nodes_of (reading_of a)) (text ++ 0 ∷ []) ≡ Some p
led_named a text p i valid of leads =
    ap (λ (x : List ℕ). node_named (nodes_of (reading_of a)) (x ++ 0 ∷ [])) of.written
    ∙ node_of_text (reading_of a) p valid (sym (stands_place a p) ∙ ap is_some leads)

-- ---- whether a fragment brings the node

-- what is behind the slash in front of a path's text
abbrev behind_slash : Name → Path → List ℕ
behind_slash x [] = x
behind_slash x (y ∷ p) = x ++ path_text (y ∷ p)

path_text-slash : (x : Name) (p : Path) → path_text (x ∷ p) ≡ 47 ∷ behind_slash x p
path_text-slash x [] = refl
path_text-slash x (y ∷ p) = refl

-- the second name of such a text
content_first : (y : Name) (q : Path) → Lacks 47 y → IsContentText (behind_slash y q) → y ≡ codes "__overlay__"
content_first y [] lacks is = by y is lacks
  where
    by : (x : List ℕ) → IsContentText x → Lacks 47 x → x ≡ codes "__overlay__"
    by _ alone lacks = refl
    by _ (longer rest) lacks = absurd (never_cut 47 (codes "__overlay__") rest lacks)
content_first y (z ∷ q) lacks is = by (y ++ path_text (z ∷ q)) is (ap (λ (x : List ℕ). y ++ x) (path_text-slash z q))
  where
    by : (x : List ℕ) → IsContentText x → x ≡ y ++ 47 ∷ behind_slash z q → y ≡ codes "__overlay__"
    by _ alone e = absurd (never_cut 47 y (behind_slash z q) (subst (Lacks 47) e overlay_without_slash))
    by _ (longer rest) e = (cut_once 47 y (codes "__overlay__") (behind_slash z q) rest lacks overlay_without_slash (sym e)).0

-- a path whose text is one of what a fragment brings leads into it
content_path : (p : Path) (f : Name) (behind : List ℕ) → AllByRecursion IsNodeName p → Lacks 47 f → path_text p ≡ 47 ∷ (f ++ 47 ∷ behind) → IsContentText behind → (q : Path) × (p ≡ content f ++ q)
content_path [] f behind named lacks e is = absurd (none f (let same : [] ≡ f ++ 47 ∷ behind = cc in same))
  where
    none : (x : List ℕ) → [] ≡ x ++ 47 ∷ behind → ⊥
    none [] k = cc
    none (b ∷ x) k = cc
content_path (x ∷ []) f behind named lacks e is =
    let same : x ≡ f ++ 47 ∷ behind = cc in
    absurd (never_cut 47 f behind (subst (Lacks 47) same (node_name_has_no 47 x named.0 refl)))
content_path (x ∷ y ∷ q) f behind named lacks e is =
    let same : x ++ path_text (y ∷ q) ≡ f ++ 47 ∷ behind = cc in
    let slashed : x ++ 47 ∷ behind_slash y q ≡ f ++ 47 ∷ behind = ap (λ (z : List ℕ). x ++ z) (sym (path_text-slash y q)) ∙ same in
    let once = cut_once 47 x f (behind_slash y q) behind (node_name_has_no 47 x named.0 refl) lacks slashed in
    let second : y ≡ codes "__overlay__" = content_first y q (node_name_has_no 47 y named.1.0 refl) (subst IsContentText (sym once.1) is) in
    (q, λ i. once.0 i ∷ second i ∷ q)

-- where a text begins as that of what a fragment brings, a fragment brings the node that it names
pub named_is_brought : (t : Reading) (text : List ℕ) (p : Path) → IsValid t → IsPathOf text p → IsOfFragment t text → is_brought (fragment_names t.children) p ≡ true
named_is_brought t text p valid path of =
    let parts = parts_of t text of in
    let into = content_path p parts.0 parts.2.0 path.named (fragment_without_slash t parts.0 valid parts.1) (sym path.written ∙ parts.2.1) parts.2.2 in
    any_here (λ g. is_some (below (content g) p)) (fragment_names t.children) parts.0 parts.1
    (ap (λ (r : Path). is_some (below (content parts.0) r)) into.1 ∙ ap is_some (below-append (content parts.0) into.0))

-- and the other way round
pub brought_is_named : (t : Reading) (text : List ℕ) (p : Path) → IsPathOf text p → is_brought (fragment_names t.children) p ≡ true → IsOfFragment t text
brought_is_named t text p path brought =
    let any = any_from (λ g. is_some (below (content g) p)) (fragment_names t.children) brought in
    by any.0 any.1 (below (content any.0) p) refl any.2
  where
    begins : (f : Name) (q : Path) → IsIn f (fragment_names t.children) → p ≡ content f ++ q → IsOfFragment t text
    begins f [] i e = of_parts t text f (codes "__overlay__") i (path.written ∙ ap path_text e) alone
    begins f (z ∷ q) i e =
        of_parts t text f (codes "__overlay__" ++ 47 ∷ behind_slash z q) i
        (path.written ∙ ap path_text e ∙ ap (λ (x : List ℕ). 47 ∷ (f ++ 47 ∷ (codes "__overlay__" ++ x))) (path_text-slash z q)) (longer (behind_slash z q))

    by : (f : Name) → IsIn f (fragment_names t.children) → (o : Option Path) → below (content f) p ≡ o → is_some (below (content f) p) ≡ true → IsOfFragment t text
    by f i None e some = absurd (true≢false (sym some ∙ ap is_some e))
    by f i (Some q) e some = begins f q i (append-below (content f) p q e)
