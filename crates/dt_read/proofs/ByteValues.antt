-- The phandles that a block spells are bytes, so that two of one number are the same.
use Rattle.std.proofs.Common.{◌≡◌, ◌≢◌, ℕ, ◌+◌, Bool, true, false, cond, List, [], ◌∷◌, ◌++◌, length, refl, sym, ap, subst, ◌∙◌, codes}
use Rattle.std.specs.List.{AllByRecursion}
use Rattle.std.specs.Int.{w32, from_be_bytes, to_be_bytes}
use Rattle.std.specs.Str.{bytes_eq}
use Rattle.std.proofs.lemmas.List.{take_at, drop_at}
use Rattle.std.proofs.lemmas.Nat.{be_bytes_4}
use Rattle.dt_model.specs.Format.{word}
use Rattle.dt_model.specs.Valid.{AreDistinct, IsPhandle, phandle_values, phandles}
use Rattle.dt_model.specs.Checks.{AreApart}
use Rattle.dt_flat.specs.Planted.{numbers, HasOwnNumbers}
use Rattle.dt_trees.specs.Placed.{forest_of}
use Rattle.dt_read.specs.Marks.{Mark, begin_mark, end_mark, prop_mark, nop_mark, last_mark, SpellsMark, SpellsMarks, Root, without_nop_marks}
use Rattle.dt_read.specs.TreeTokens.{HasTree}
use Rattle.dt_read.specs.Phandle.{phandles_in}
use Rattle.dt_read.proofs.Numbers.{IsBytes, IsBytes-take, IsBytes-drop}
use Rattle.dt_read.proofs.Apart.{tree_phandles}

bytes_front : (xs ys : List ℕ) → IsBytes (xs ++ ys) → IsBytes xs
bytes_front xs ys h = subst IsBytes (take_at xs ys (length xs) refl) (IsBytes-take (length xs) (xs ++ ys) h)

bytes_back : (xs ys : List ℕ) → IsBytes (xs ++ ys) → IsBytes ys
bytes_back xs ys h = subst IsBytes (drop_at xs ys (length xs) refl) (IsBytes-drop (length xs) (xs ++ ys) h)

value_bytes : (strings : List ℕ) (at : ℕ) (p : _) (own : List ℕ) → SpellsMark strings at (prop_mark p) own → IsBytes own → IsBytes p.value
value_bytes strings at p own s h =
    let t = s.token in
    let value = word t.offset ++ p.value in
    let sized = word (length p.value) ++ value in
    let content = bytes_front (word 3 ++ sized) t.bytes.padding (subst IsBytes t.bytes.whole h) in
    bytes_back (word t.offset) p.value (bytes_back (word (length p.value)) value (bytes_back (word 3) sized content))

phandle_bytes : (strings : List ℕ) (at : ℕ) (marks : List Mark) (bytes : List ℕ) → IsBytes bytes → SpellsMarks strings at marks bytes
    → AllByRecursion IsBytes (phandles_in marks)
phandle_bytes strings at [] bytes h s = tt
phandle_bytes strings at (mark ∷ marks) bytes h s =
    let whole = subst IsBytes s.2 h in
    by mark s.3 (bytes_front s.0 s.1 whole) (phandle_bytes strings (at + length s.0) marks s.1 (bytes_back s.0 s.1 whole) s.4)
  where
    by : (m : Mark) → SpellsMark strings at m s.0 → IsBytes s.0 → AllByRecursion IsBytes (phandles_in marks)
        → AllByRecursion IsBytes (phandles_in (m ∷ marks))
    by (begin_mark place name) t own rest = rest
    by end_mark t own rest = rest
    by nop_mark t own rest = rest
    by last_mark t own rest = rest
    by (prop_mark p) t own rest = named (bytes_eq (codes "phandle") p.name)
      where
        named : (b : Bool) → AllByRecursion IsBytes (cond b (p.value ∷ phandles_in marks) (phandles_in marks))
        named true = (value_bytes strings at p s.0 t own, rest)
        named false = rest

without_nops_same : (marks rest : List Mark) → phandles_in (without_nop_marks marks ++ rest) ≡ phandles_in (marks ++ rest)
without_nops_same [] rest = refl
without_nops_same (begin_mark place name ∷ marks) rest = without_nops_same marks rest
without_nops_same (end_mark ∷ marks) rest = without_nops_same marks rest
without_nops_same (nop_mark ∷ marks) rest = without_nops_same marks rest
without_nops_same (last_mark ∷ marks) rest = without_nops_same marks rest
without_nops_same (prop_mark p ∷ marks) rest = ap (λ (vs : List (List ℕ)). cond (bytes_eq (codes "phandle") p.name) (p.value ∷ vs) vs) (without_nops_same marks rest)

tree_bytes : (strings : List ℕ) (at : ℕ) (block : List ℕ) (tree : Root) → IsBytes block → HasTree strings at block tree
    → AreApart tree.properties (forest_of tree.children)
    → AllByRecursion IsBytes (phandle_values tree.properties ++ phandles (forest_of tree.children))
tree_bytes strings at block tree fits h a =
    let all = phandle_bytes strings at (h.marks ++ last_mark ∷ []) block fits h.spelled in
    let same : phandles_in (h.marks ++ last_mark ∷ []) ≡ phandle_values tree.properties ++ phandles (forest_of tree.children) =
    sym (without_nops_same h.marks (last_mark ∷ [])) ∙ ap (λ (ms : List Mark). phandles_in (ms ++ last_mark ∷ [])) h.whole ∙ tree_phandles tree a in
    subst (AllByRecursion IsBytes) same all

one_value : (v w : List ℕ) → IsPhandle v → IsPhandle w → IsBytes v → IsBytes w → from_be_bytes w32 v ≡ from_be_bytes w32 w → v ≡ w
one_value v w p q a b e = sym (be_bytes_4 v (from_be_bytes w32 v) p.four a refl) ∙ ap (to_be_bytes w32) e ∙ be_bytes_4 w (from_be_bytes w32 w) q.four b refl

own_numbers : (vs : List (List ℕ)) → AllByRecursion IsPhandle vs → AllByRecursion IsBytes vs → AreDistinct vs → AreDistinct (numbers vs)
own_numbers [] p b d = tt
own_numbers (v ∷ vs) p b d = (differ vs p.1 b.1 d.0, own_numbers vs p.1 b.1 d.1)
  where
    differ : (ws : List (List ℕ)) → AllByRecursion IsPhandle ws → AllByRecursion IsBytes ws → AllByRecursion (λ w. w ≢ v) ws
        → AllByRecursion (λ n. n ≢ from_be_bytes w32 v) (numbers ws)
    differ [] q c e = tt
    differ (w ∷ ws) q c e = ((λ f. e.0 (one_value w v q.0 p.0 c.0 b.0 f)), differ ws q.1 c.1 e.1)

-- no two nodes of a tree that a block spells have one number
pub has_own_numbers : (strings : List ℕ) (at : ℕ) (block : List ℕ) (tree : Root) → IsBytes block → HasTree strings at block tree
    → AreApart tree.properties (forest_of tree.children)
    → AllByRecursion IsPhandle (phandle_values tree.properties ++ phandles (forest_of tree.children))
    → AreDistinct (phandle_values tree.properties ++ phandles (forest_of tree.children)) → HasOwnNumbers tree.properties (forest_of tree.children)
has_own_numbers strings at block tree fits h a valid differ = own_numbers (phandle_values tree.properties ++ phandles (forest_of tree.children)) valid (tree_bytes strings at block tree fits h a) differ
