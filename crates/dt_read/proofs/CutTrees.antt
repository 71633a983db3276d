-- What a block spells whose tokens are cut at a node, with others put between.
use Rattle.std.proofs.Common.{◌≡◌, ℕ, ◌+◌, ◌-◌, ◌≤◌, List, [], ◌∷◌, ◌++◌, length, take, drop, map, refl, sym, ap, subst, ◌∙◌, append_assoc, arith}
use Rattle.std.proofs.lemmas.List.{append_cancel_right, length-take-le, map-append, take-append-drop}
use Rattle.dt_model.specs.Checks.{number, strings_of, structure_of}
use Rattle.dt_read.specs.Checked.{IsBlob, placed_of, root_of}
use Rattle.dt_read.specs.Cuts.{Content, changed_root, moved, moved_content, moved_root, spliced, marks_of_content, SpellsRoot}
use Rattle.dt_read.specs.Marks.{Mark, begin_mark, end_mark, prop_mark, nop_mark, last_mark, SpellsMarks, marks_of_nodes, marks_of, without_nop_marks}
use Rattle.dt_trees.specs.Placed.{path_at, IsNode}
use Rattle.dt_read.specs.TreeTokens.{marks_in, HasTree}
use Rattle.dt_read.proofs.ChangedTrees.{moved_mark, Stands, in_tree, stands_in_tree}
use Rattle.dt_read.proofs.CheckedBytes.{root_is_read}
use Rattle.dt_read.proofs.Nodes.{without_nop_marks-append, split}
use Rattle.dt_read.proofs.Splices.{marks_still, marks_append, cut_marks, marks_moved, marks_kept}
use Rattle.dt_read.proofs.Trees.{lexed_is, place_is}

-- ---- the tokens round a node

-- the tokens before a node of a blob, and from it on
pub record CutNode (bytes : List ℕ) (node : ℕ) : Type 0 where
  pub tree : HasTree (strings_of bytes) (number bytes 8) (structure_of bytes) (root_of bytes)
  pub stands : Stands (marks_of (root_of bytes)) (in_tree (path_at (placed_of bytes) node) (root_of bytes)) node
  pub front : List Mark
  pub ahead : SpellsMarks (strings_of bytes) (number bytes 8) front (take (node - number bytes 8) (structure_of bytes))
  pub before : without_nop_marks front ≡ stands.before
  pub from : number bytes 8 ≤ node
  pub within : node - number bytes 8 ≤ length (structure_of bytes)
  pub marks : marks_in (strings_of bytes) node (drop (node - number bytes 8) (structure_of bytes))
      ≡ begin_mark node stands.name ∷ marks_of_content stands.content (end_mark ∷ (stands.more ++ last_mark ∷ []))

pub cut_node : (bytes : List ℕ) (node : ℕ) → IsBlob bytes → IsNode (placed_of bytes) node → CutNode bytes node
unfolding placed_of
cut_node bytes node is at =
    let strings = strings_of bytes in
    let block = structure_of bytes in
    let start = number bytes 8 in
    let h = (root_is_read bytes is.0 is.1 is.2).tree in
    let s = stands_in_tree (root_of bytes) (path_at (placed_of bytes) node) node at in
    let tokens : without_nop_marks (h.marks ++ last_mark ∷ []) ≡ s.before ++ begin_mark node s.name ∷ marks_of_content s.content (end_mark ∷ (s.more ++ last_mark ∷ [])) =
    without_nop_marks-append h.marks (last_mark ∷ []) ∙ ap (λ (x : List Mark). x ++ last_mark ∷ []) (h.whole ∙ s.whole)
    ∙ regroup s.before (begin_mark node s.name ∷ []) (map prop_mark s.content.properties) (marks_of_nodes s.content.children) (end_mark ∷ []) s.more (last_mark ∷ []) in
    let p = split (h.marks ++ last_mark ∷ []) s.before (begin_mark node s.name) (marks_of_content s.content (end_mark ∷ (s.more ++ last_mark ∷ []))) tokens in
    let c = cut_marks strings start p.front (begin_mark node s.name ∷ p.later) block (subst (λ (x : List Mark). SpellsMarks strings start x block) p.whole h.spelled) in
    let here : node ≡ start + c.skip = place_is strings (start + c.skip) node s.name c.behind.0 c.behind.3 in
    let skip : c.skip ≡ node - start = omega arith in
    let w = c.within in
    let behind : SpellsMarks strings node (begin_mark node s.name ∷ p.later) (drop (node - start) block) =
    subst (λ (n : ℕ). SpellsMarks strings node (begin_mark node s.name ∷ p.later) (drop n block)) skip
    (subst (λ (n : ℕ). SpellsMarks strings n (begin_mark node s.name ∷ p.later) (drop c.skip block)) (sym here) c.behind) in
    record {
      tree = h;
      stands = s;
      front = p.front;
      ahead = subst (λ (n : ℕ). SpellsMarks strings start p.front (take n block)) skip c.ahead;
      before = p.before;
      from = omega arith;
      within = omega arith;
      marks = ap without_nop_marks (lexed_is strings node (begin_mark node s.name ∷ p.later) (drop (node - start) block) behind) ∙ ap (λ (x : List Mark). begin_mark node s.name ∷ x) p.same;
    }
  where
    regroup : (a b c d e f g : List Mark) → (a ++ (b ++ (c ++ (d ++ (e ++ f))))) ++ g ≡ a ++ (b ++ (c ++ (d ++ (e ++ (f ++ g)))))
    regroup a b c d e f g = simp append_assoc

-- ---- the last token

last_of : (xs ms ys : List Mark) (x : Mark) → xs ++ ms ≡ ys ++ x ∷ [] → (ms ≡ [] → ⊥) → (front : List Mark) × (ms ≡ front ++ x ∷ [])
last_of [] ms ys x e some = (ys, e)
last_of (y ∷ xs) ms [] x e some =
    let none : xs ++ ms ≡ [] = cc in absurd (some (nothing xs none))
  where
    nothing : (zs : List Mark) → zs ++ ms ≡ [] → ms ≡ []
    nothing [] n = n
    nothing (z ∷ zs) n = absurd cc
last_of (y ∷ xs) ms (z ∷ ys) x e some = let tail : xs ++ ms ≡ ys ++ x ∷ [] = cc in last_of xs ms ys x tail some

not_nothing : (ms zs : List Mark) → without_nop_marks ms ≡ zs ++ last_mark ∷ [] → ms ≡ [] → ⊥
not_nothing ms zs e none = absent zs (sym e ∙ ap without_nop_marks none)
  where
    absent : (zs : List Mark) → zs ++ last_mark ∷ [] ≡ [] → ⊥
    absent [] n = cc
    absent (z ∷ zs) n = cc

-- ---- tokens that are moved, without NOPs

without_moved : (f : ℕ → ℕ) (ms : List Mark) → without_nop_marks (map (moved_mark f) ms) ≡ map (moved_mark f) (without_nop_marks ms)
without_moved f [] = refl
without_moved f (begin_mark place name ∷ ms) = ap (λ (x : List Mark). begin_mark (f place) name ∷ x) (without_moved f ms)
without_moved f (end_mark ∷ ms) = ap (λ (x : List Mark). end_mark ∷ x) (without_moved f ms)
without_moved f (prop_mark p ∷ ms) = ap (λ (x : List Mark). prop_mark p ∷ x) (without_moved f ms)
without_moved f (nop_mark ∷ ms) = without_moved f ms
without_moved f (last_mark ∷ ms) = ap (λ (x : List Mark). last_mark ∷ x) (without_moved f ms)

-- ---- the block with other tokens at a cut

-- a cut behind a node's beginning: the tokens before it, and from behind so many bytes on
pub record CutTokens (bytes : List ℕ) (node cut size : ℕ) (c : CutNode bytes node) : Type 0 where
  pub inside : cut + size ≤ length (structure_of bytes)
  pub front : List Mark
  pub ahead : SpellsMarks (strings_of bytes) (number bytes 8) front (take cut (structure_of bytes))
  pub passed : List Mark
  pub fronts : without_nop_marks front ≡ c.stands.before ++ begin_mark node c.stands.name ∷ passed
  pub over : List Mark
  pub beyond : SpellsMarks (strings_of bytes) (number bytes 8) over (take (cut + size) (structure_of bytes))
  pub back : List Mark
  pub behind : SpellsMarks (strings_of bytes) (number bytes 8 + cut + size) back (drop (cut + size) (structure_of bytes))
  pub left : List Mark
  pub backs : without_nop_marks back ≡ left ++ last_mark ∷ []

-- the tree whose tokens are those with others between
pub spliced_tree : (bytes : List ℕ) (node cut size : ℕ) (c : CutNode bytes node) (t : CutTokens bytes node cut size c) (more own : List ℕ) (mid : List Mark) (change : Content → Content)
    → SpellsMarks (strings_of bytes ++ more) (number bytes 8 + cut) mid own
    → (let f : ℕ → ℕ = moved (number bytes 8 + cut) size (length own) in
    marks_of_content (change (moved_content f c.stands.content)) (end_mark ∷ map (moved_mark f) c.stands.more) ≡ map (moved_mark f) t.passed ++ (without_nop_marks mid ++ map (moved_mark f) t.left))
    → SpellsRoot (strings_of bytes ++ more) (number bytes 8) (spliced cut size own (structure_of bytes))
    (changed_root change (path_at (placed_of bytes) node) (moved_root (moved (number bytes 8 + cut) size (length own)) (root_of bytes)))
spliced_tree bytes node cut size c t more own mid change spelled e =
    let strings = strings_of bytes in
    let block = structure_of bytes in
    let start = number bytes 8 in
    let f : ℕ → ℕ = moved (start + cut) size (length own) in
    let inside = t.inside in
    let h = c.tree in
    let s = c.stands in
    let over_len : start + length (take (cut + size) block) ≡ start + cut + size = omega (arith, length-take-le (cut + size) block inside) in
    let all : SpellsMarks strings start (t.over ++ t.back) block =
    subst (SpellsMarks strings start (t.over ++ t.back)) (take-append-drop (cut + size) block)
    (marks_append strings start t.over t.back (take (cut + size) block) (drop (cut + size) block) t.beyond (subst (λ (n : ℕ). SpellsMarks strings n t.back (drop (cut + size) block)) (sym over_len) t.behind)) in
    let one : t.over ++ t.back ≡ h.marks ++ last_mark ∷ [] = sym (lexed_is strings start (t.over ++ t.back) block all) ∙ lexed_is strings start (h.marks ++ last_mark ∷ []) block h.spelled in
    let l = last_of t.over t.back h.marks last_mark one (not_nothing t.back t.left t.backs) in
    let left : without_nop_marks l.0 ≡ t.left =
    append_cancel_right (without_nop_marks l.0) t.left (last_mark ∷ []) (sym (without_nop_marks-append l.0 (last_mark ∷ [])) ∙ ap without_nop_marks (sym l.1) ∙ t.backs) in
    let cut_len : start + length (take cut block) ≡ start + cut = omega (arith, length-take-le cut block (omega arith)) in
    let on : start + cut + size + length own - size ≡ start + cut + length own = omega arith in
    let tail : SpellsMarks (strings ++ more) (start + cut + length own) (map (moved_mark f) t.back) (drop (cut + size) block) =
    subst (λ (n : ℕ). SpellsMarks (strings ++ more) n (map (moved_mark f) t.back) (drop (cut + size) block)) on
    (marks_moved (strings ++ more) (start + cut) size (length own) (start + cut + size) t.back (drop (cut + size) block) (omega arith) (omega arith) (marks_still strings more (start + cut + size) t.back (drop (cut + size) block) t.behind)) in
    let new : SpellsMarks (strings ++ more) start (t.front ++ (mid ++ map (moved_mark f) t.back)) (spliced cut size own block) =
    marks_append (strings ++ more) start t.front (mid ++ map (moved_mark f) t.back) (take cut block) (own ++ drop (cut + size) block) (marks_still strings more start t.front (take cut block) t.ahead)
    (subst (λ (n : ℕ). SpellsMarks (strings ++ more) n (mid ++ map (moved_mark f) t.back) (own ++ drop (cut + size) block)) (sym cut_len)
    (marks_append (strings ++ more) (start + cut) mid (map (moved_mark f) t.back) own (drop (cut + size) block) spelled tail)) in
    let ended : t.front ++ (mid ++ map (moved_mark f) t.back) ≡ (t.front ++ (mid ++ map (moved_mark f) l.0)) ++ last_mark ∷ [] =
    ap (λ (x : List Mark). t.front ++ (mid ++ map (moved_mark f) x)) l.1 ∙ ap (λ (x : List Mark). t.front ++ (mid ++ x)) (map-append (moved_mark f) l.0 (last_mark ∷ []))
    ∙ behind_all t.front mid (map (moved_mark f) l.0) (last_mark ∷ []) in
    let kept : map (moved_mark f) t.front ≡ t.front = marks_kept strings (start + cut) size (length own) start t.front (take cut block) (omega arith) t.ahead in
    let fronts : without_nop_marks t.front ≡ map (moved_mark f) s.before ++ begin_mark (f node) s.name ∷ map (moved_mark f) t.passed =
    sym (ap without_nop_marks kept) ∙ without_moved f t.front ∙ ap (map (moved_mark f)) t.fronts ∙ map-append (moved_mark f) s.before (begin_mark node s.name ∷ t.passed) in
    record {
      marks = t.front ++ (mid ++ map (moved_mark f) l.0);
      spelled = subst (λ (x : List Mark). SpellsMarks (strings ++ more) start x (spliced cut size own block)) ended new;
      whole = without_nop_marks-append t.front (mid ++ map (moved_mark f) l.0)
          ∙ ap (λ (x : List Mark). without_nop_marks t.front ++ x) (without_nop_marks-append mid (map (moved_mark f) l.0) ∙ ap (λ (x : List Mark). without_nop_marks mid ++ x) (without_moved f l.0 ∙ ap (map (moved_mark f)) left))
          ∙ ap (λ (x : List Mark). x ++ (without_nop_marks mid ++ map (moved_mark f) t.left)) fronts
          ∙ in_front (map (moved_mark f) s.before) (begin_mark (f node) s.name ∷ []) (map (moved_mark f) t.passed) (without_nop_marks mid ++ map (moved_mark f) t.left)
          ∙ ap (λ (x : List Mark). map (moved_mark f) s.before ++ begin_mark (f node) s.name ∷ x) (sym e)
          ∙ sym (s.around f change);
    }
  where
    behind_all : (a b c d : List Mark) → a ++ (b ++ (c ++ d)) ≡ (a ++ (b ++ c)) ++ d
    behind_all a b c d = simp append_assoc

    in_front : (a b c d : List Mark) → (a ++ (b ++ c)) ++ d ≡ a ++ (b ++ (c ++ d))
    in_front a b c d = simp append_assoc
