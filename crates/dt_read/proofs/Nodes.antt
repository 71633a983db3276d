-- A node's place is where its tokens stand in the block.
use Rattle.std.proofs.Common.{◌⊎◌, ◌≡◌, ℕ, ◌+◌, ◌-◌, ◌^◌, ◌<◌, ◌≤◌, List, [], ◌∷◌, ◌++◌, length, map, drop, Option, Some, None, refl, sym, ap, subst, ◌∙◌, append_assoc, arith, inl, inr, add-zero}
use Rattle.std.proofs.Math.Dec.{eqb}
use Rattle.std.proofs.lemmas.Bool.{eqb-true}
use Rattle.std.specs.Prelude.{IsSome, IfSome}
use Rattle.std.proofs.lemmas.List.{length-append, length-drop, drop_at, drop-drop, append-nil}
use Rattle.dt_trees.specs.Placed.{Nodes, no_nodes, node}
use Rattle.dt_read.specs.Marks.{Mark, begin_mark, end_mark, prop_mark, nop_mark, last_mark, SpellsMarks, Root, marks_of_nodes, marks_of, without_nop_marks}
use Rattle.dt_read.specs.Parsing.{root_left, tree_in, tree_of_marks}
use Rattle.dt_read.specs.TreeCode.{tree_again}
use Rattle.dt_read.specs.TreeTokens.{AreTokens, marks_in, Parts, or_else, find_in, node_of, marks_of_parts, IsEnd, FollowsNode, BeginsNode, HasTree, IsStructure}
use Rattle.dt_read.proofs.Tokens.{chosen}
use Rattle.dt_read.proofs.Trees.{lexed_is, left_by-without_nop_marks, place_is}

-- ---- the tree that is read is the tree that is spelled

pub without_nop_marks-append : (xs ys : List Mark) → without_nop_marks (xs ++ ys) ≡ without_nop_marks xs ++ without_nop_marks ys
without_nop_marks-append [] ys = refl
without_nop_marks-append (last_mark ∷ xs) ys = ap (λ (x : List Mark). last_mark ∷ x) (without_nop_marks-append xs ys)
without_nop_marks-append (end_mark ∷ xs) ys = ap (λ (x : List Mark). end_mark ∷ x) (without_nop_marks-append xs ys)
without_nop_marks-append (nop_mark ∷ xs) ys = without_nop_marks-append xs ys
without_nop_marks-append (prop_mark p ∷ xs) ys = ap (λ (x : List Mark). prop_mark p ∷ x) (without_nop_marks-append xs ys)
without_nop_marks-append (begin_mark place name ∷ xs) ys = ap (λ (x : List Mark). begin_mark place name ∷ x) (without_nop_marks-append xs ys)

pub tree_in_is : (strings : List ℕ) (at : ℕ) (block : List ℕ) (tree : Root) → HasTree strings at block tree → tree_in strings at block ≡ tree
tree_in_is strings at block tree s =
    ap tree_of_marks (lexed_is strings at (s.marks ++ last_mark ∷ []) block s.spelled)
    ∙ ap (λ l. root_left l.levels) (sym (left_by-without_nop_marks s.marks (last_mark ∷ [])))
    ∙ ap (λ (x : List Mark). tree_of_marks (x ++ last_mark ∷ [])) s.whole
    ∙ tree_again tree (last_mark ∷ [])

pub structure_from_tree : (strings : List ℕ) (at : ℕ) (block : List ℕ) (tree : Root) → at + length block < 2 ^ 32 → HasTree strings at block tree → IsStructure strings at block
structure_from_tree strings at block tree small s = record { tree = subst (HasTree strings at block) (sym (tree_in_is strings at block tree s)) s; small = small }

-- ---- where a node stands among the tokens

-- the tokens before a node, the node, and the tokens behind it
pub record Among (marks : List Mark) (place : ℕ) (parts : Parts) : Type 0 where
  pub before : List Mark
  pub more : List Mark
  pub whole : marks ≡ before ++ begin_mark place parts.name ∷ marks_of_parts parts more
  pub follows : FollowsNode more parts.siblings

pub or_else_some : (a b : Option Parts) (p : Parts) → or_else a b ≡ Some p → (a ≡ Some p) ⊎ (b ≡ Some p)
or_else_some None b p e = inr e
or_else_some (Some q) b p e = inl e

marks_of_parts-append : (parts : Parts) (more rest : List Mark) → marks_of_parts parts more ++ rest ≡ marks_of_parts parts (more ++ rest)
marks_of_parts-append parts more rest = simp append_assoc

ends_on : (marks more : List Mark) → IsEnd marks → IsEnd more → IsEnd (marks ++ more)
ends_on [] more e f = f
ends_on (begin_mark place name ∷ marks) more e f = e
ends_on (end_mark ∷ marks) more e f = tt
ends_on (prop_mark p ∷ marks) more e f = tt
ends_on (nop_mark ∷ marks) more e f = tt
ends_on (last_mark ∷ marks) more e f = tt

widen : (left marks right whole : List Mark) (place : ℕ) (parts : Parts) → whole ≡ left ++ (marks ++ right) → IsEnd right → Among marks place parts → Among whole place parts
widen left marks right whole place parts e ends a = record {
  before = left ++ a.before;
  more = a.more ++ right;
  whole = e ∙ ap (λ (x : List Mark). left ++ (x ++ right)) a.whole
      ∙ ap (λ (x : List Mark). left ++ x) (append_assoc a.before (begin_mark place parts.name ∷ marks_of_parts parts a.more) right)
      ∙ sym (append_assoc left a.before ((begin_mark place parts.name ∷ marks_of_parts parts a.more) ++ right))
      ∙ ap (λ (x : List Mark). (left ++ a.before) ++ begin_mark place parts.name ∷ x) (marks_of_parts-append parts a.more right);
  follows = record {
    rest = a.follows.rest ++ right;
    whole = ap (λ (x : List Mark). x ++ right) a.follows.whole ∙ append_assoc (marks_of_nodes parts.siblings) a.follows.rest right;
    ends = ends_on a.follows.rest right a.follows.ends ends;
  };
}

among_nodes : (place : ℕ) (nodes : Nodes) (parts : Parts) → find_in place nodes ≡ Some parts → Among (marks_of_nodes nodes) place parts
among_nodes place no_nodes parts e = absurd cc
among_nodes place (node other name properties children siblings) parts e =
    elim (chosen (eqb other place) _ _ _ e) [
      | inl here ↦
          let same : other ≡ place = eqb-true other place here.0 in
          let is : ◌≡◌ {A = Parts} (record { name = name; properties = properties; children = children; siblings = siblings }) parts = cc in
          subst (λ (p : Parts). Among (marks_of_nodes (node other name properties children siblings)) place p) is (record {
            before = [];
            more = marks_of_nodes siblings;
            whole = ap (λ (i : ℕ). begin_mark i name ∷ (map prop_mark properties ++ (marks_of_nodes children ++ end_mark ∷ marks_of_nodes siblings))) same;
            follows = record { rest = []; whole = sym (append-nil (marks_of_nodes siblings)); ends = tt };
          })
      | inr further ↦ elim (or_else_some (find_in place children) (find_in place siblings) parts further.1) [
        | inl inside ↦ widen (begin_mark other name ∷ map prop_mark properties) (marks_of_nodes children) (end_mark ∷ marks_of_nodes siblings) (marks_of_nodes (node other name properties children siblings)) place parts refl tt (among_nodes place children parts inside)
        | inr after ↦ widen (begin_mark other name ∷ (map prop_mark properties ++ (marks_of_nodes children ++ end_mark ∷ []))) (marks_of_nodes siblings) [] (marks_of_nodes (node other name properties children siblings)) place parts (simp (append_assoc, append-nil)) tt (among_nodes place siblings parts after)
      ]
    ]

pub among_tree : (place : ℕ) (tree : Root) (parts : Parts) → node_of tree place ≡ Some parts → Among (marks_of tree ++ last_mark ∷ []) place parts
among_tree place tree parts e =
    elim (chosen (eqb tree.place place) _ _ _ e) [
      | inl here ↦
          let same : tree.place ≡ place = eqb-true tree.place place here.0 in
          let is : ◌≡◌ {A = Parts} (record { name = []; properties = tree.properties; children = tree.children; siblings = no_nodes }) parts = cc in
          subst (λ (p : Parts). Among (marks_of tree ++ last_mark ∷ []) place p) is (record {
            before = [];
            more = last_mark ∷ [];
            whole = ap (λ (i : ℕ). begin_mark i [] ∷ ((map prop_mark tree.properties ++ (marks_of_nodes tree.children ++ end_mark ∷ [])) ++ last_mark ∷ [])) same
                ∙ ap (λ (x : List Mark). begin_mark place [] ∷ x) (simp append_assoc);
            follows = record { rest = last_mark ∷ []; whole = refl; ends = tt };
          })
      | inr further ↦ widen (begin_mark tree.place [] ∷ map prop_mark tree.properties) (marks_of_nodes tree.children) (end_mark ∷ (last_mark ∷ [])) (marks_of tree ++ last_mark ∷ []) place parts (simp append_assoc) tt (among_nodes place tree.children parts further.1)
    ]

-- ---- NOPs between

pub record Split (marks pre : List Mark) (mark : Mark) (post : List Mark) : Type 0 where
  pub front : List Mark
  pub later : List Mark
  pub whole : marks ≡ front ++ mark ∷ later
  pub before : without_nop_marks front ≡ pre
  pub same : without_nop_marks later ≡ post

split_more : (x : Mark) (marks pre : List Mark) (mark : Mark) (post : List Mark) → ((ms : List Mark) → without_nop_marks (x ∷ ms) ≡ x ∷ without_nop_marks ms)
    → ((pre' : List Mark) → without_nop_marks marks ≡ pre' ++ mark ∷ post → Split marks pre' mark post)
    → x ∷ without_nop_marks marks ≡ pre ++ mark ∷ post → Split (x ∷ marks) pre mark post
split_more x marks [] mark post stays further e =
    let head : x ≡ mark = cc in
    let tail : without_nop_marks marks ≡ post = cc in
    record { front = []; later = marks; whole = ap (λ (y : Mark). y ∷ marks) head; before = refl; same = tail }
split_more x marks (y ∷ pre) mark post stays further e =
    let head : x ≡ y = cc in
    let tail : without_nop_marks marks ≡ pre ++ mark ∷ post = cc in
    let s = further pre tail in
    record {
      front = x ∷ s.front;
      later = s.later;
      whole = ap (λ (z : List Mark). x ∷ z) s.whole;
      before = stays s.front ∙ (λ i. head i ∷ s.before i);
      same = s.same;
    }

split_nothing : (pre : List Mark) (mark : Mark) (post : List Mark) → [] ≡ pre ++ mark ∷ post → ⊥
split_nothing [] mark post e = cc
split_nothing (x ∷ pre) mark post e = cc

pub split : (marks pre : List Mark) (mark : Mark) (post : List Mark) → without_nop_marks marks ≡ pre ++ mark ∷ post → Split marks pre mark post
split [] pre mark post e = absurd (split_nothing pre mark post e)
split (nop_mark ∷ marks) pre mark post e =
    let s = split marks pre mark post e in
    record { front = nop_mark ∷ s.front; later = s.later; whole = ap (λ (z : List Mark). nop_mark ∷ z) s.whole; before = s.before; same = s.same }
split (last_mark ∷ marks) pre mark post e = split_more last_mark marks pre mark post (λ ms. refl) (λ p. split marks p mark post) e
split (end_mark ∷ marks) pre mark post e = split_more end_mark marks pre mark post (λ ms. refl) (λ p. split marks p mark post) e
split (prop_mark p ∷ marks) pre mark post e = split_more (prop_mark p) marks pre mark post (λ ms. refl) (λ p. split marks p mark post) e
split (begin_mark place name ∷ marks) pre mark post e = split_more (begin_mark place name) marks pre mark post (λ ms. refl) (λ p. split marks p mark post) e

-- ---- where tokens stand among the bytes

record Later (strings : List ℕ) (at : ℕ) (later : List Mark) (bytes : List ℕ) : Type 0 where
  skip : ℕ
  within : skip ≤ length bytes
  spelled : SpellsMarks strings (at + skip) later (drop skip bytes)

later_from : (strings : List ℕ) (at : ℕ) (front later : List Mark) (bytes : List ℕ) → SpellsMarks strings at (front ++ later) bytes → Later strings at later bytes
later_from strings at [] later bytes s = record { skip = 0; within = omega arith; spelled = subst (λ (n : ℕ). SpellsMarks strings n later bytes) (sym (add-zero at)) s }
later_from strings at (mark ∷ front) later bytes s =
    let l = later_from strings (at + length s.0) front later s.1 s.4 in
    let w = l.within in
    let e = ap length s.2 in
    let n = length-append s.0 s.1 in
    let rest : drop (length s.0 + l.skip) bytes ≡ drop l.skip s.1 = sym (drop-drop l.skip (length s.0) bytes) ∙ ap (drop l.skip) (ap (drop (length s.0)) s.2 ∙ drop_at s.0 s.1 (length s.0) refl) in
    record {
      skip = length s.0 + l.skip;
      within = omega arith;
      spelled = subst (λ (x : List ℕ). SpellsMarks strings (at + (length s.0 + l.skip)) later x) (sym rest) (subst (λ (n : ℕ). SpellsMarks strings n later (drop l.skip s.1)) (omega arith) l.spelled);
    }

-- a node's place in the block
pub record Place (strings : List ℕ) (at : ℕ) (block : List ℕ) (place : ℕ) (parts : Parts) : Type 0 where
  pub behind : at ≤ place
  pub within : place - at ≤ length block
  pub tokens : AreTokens strings place (drop (place - at) block)
  pub begins : BeginsNode (marks_in strings place (drop (place - at) block)) place parts

pub place_of : (strings : List ℕ) (at : ℕ) (block : List ℕ) (place : ℕ) (parts : Parts) → IsStructure strings at block → node_of (tree_in strings at block) place ≡ Some parts → Place strings at block place parts
place_of strings at block place parts i e =
    let s = i.tree in
    let a = among_tree place (tree_in strings at block) parts e in
    let tokens : without_nop_marks (s.marks ++ last_mark ∷ []) ≡ a.before ++ begin_mark place parts.name ∷ marks_of_parts parts a.more = without_nop_marks-append s.marks (last_mark ∷ []) ∙ ap (λ (x : List Mark). x ++ last_mark ∷ []) s.whole ∙ a.whole in
    let p = split (s.marks ++ last_mark ∷ []) a.before (begin_mark place parts.name) (marks_of_parts parts a.more) tokens in
    let l = later_from strings at p.front (begin_mark place parts.name ∷ p.later) block (subst (λ (x : List Mark). SpellsMarks strings at x block) p.whole s.spelled) in
    let here : place ≡ at + l.skip = place_is strings (at + l.skip) place parts.name l.spelled.0 l.spelled.3 in
    let w = l.within in
    let small = i.small in
    let skip : l.skip ≡ place - at = omega arith in
    let spelled : SpellsMarks strings place (begin_mark place parts.name ∷ p.later) (drop (place - at) block) =
    subst (λ (n : ℕ). SpellsMarks strings place (begin_mark place parts.name ∷ p.later) (drop n block)) skip (subst (λ (n : ℕ). SpellsMarks strings n (begin_mark place parts.name ∷ p.later) (drop l.skip block)) (sym here) l.spelled) in
    record {
      behind = omega arith;
      within = omega arith;
      tokens = record { marks = begin_mark place parts.name ∷ p.later; spelled = spelled; small = omega (arith, length-drop (place - at) block) };
      begins = record { more = a.more; whole = ap without_nop_marks (lexed_is strings place (begin_mark place parts.name ∷ p.later) (drop (place - at) block) spelled) ∙ ap (λ (x : List Mark). begin_mark place parts.name ∷ x) p.same; follows = a.follows };
    }

pub is_some_node : (o : Option Parts) → IsSome o → (parts : Parts) × (o ≡ Some parts)
is_some_node None h = absurd cc
is_some_node (Some parts) h = (parts, refl)

pub if_some_node : (P : Parts → Type 0) (o : Option Parts) (parts : Parts) → o ≡ Some parts → P parts → IfSome o P
if_some_node P None parts e p = tt
if_some_node P (Some other) parts e p = let same : parts ≡ other = cc in subst P same p

pub at_node : (P : Parts → Type 0) (o : Option Parts) (parts : Parts) → o ≡ Some parts → IfSome o P → P parts
at_node P None parts e h = absurd cc
at_node P (Some other) parts e h = let same : other ≡ parts = cc in subst P same h

pub marks_in_is : (strings : List ℕ) (at : ℕ) (block : List ℕ) → IsStructure strings at block → marks_in strings at block ≡ marks_of (tree_in strings at block) ++ last_mark ∷ []
marks_in_is strings at block i =
    ap without_nop_marks (lexed_is strings at (i.tree.marks ++ last_mark ∷ []) block i.tree.spelled)
    ∙ without_nop_marks-append i.tree.marks (last_mark ∷ []) ∙ ap (λ (x : List Mark). x ++ last_mark ∷ []) i.tree.whole
