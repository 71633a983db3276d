-- How far a scan has come, and where it ends.
use Rattle.std.proofs.Common.{◌≡◌, ℕ, ◌+◌, ◌-◌, ◌≤◌, Bool, true, false, cond, not, ◌&&◌, ◌||◌, List, [], ◌∷◌, ◌++◌, length, take, drop, map, Option, Some, None, refl, sym, ap, subst, ◌∙◌, append_assoc, drop_of_length-le, arith, inl, inr}
use Rattle.std.specs.Prelude.{option_and_then}
use Rattle.std.specs.Option.{option_map}
use Rattle.std.proofs.Math.Dec.{eqb}
use Rattle.std.proofs.lemmas.Bool.{eqb-true, le-leb}
use Rattle.std.proofs.lemmas.Bool.Decides.{eqb_tells}
use Rattle.std.proofs.lemmas.Option.{same_Some}
use Rattle.std.proofs.lemmas.List.{length-append, length-take, append-nil, take-append-drop, drop_at}
use Rattle.dt_model.specs.Names.{Name, is_property_name}
use Rattle.dt_model.specs.Tree.{Property}
use Rattle.dt_model.specs.Format.{Token, begin_node, end_node, prop, nop, end_tree, word, word_at, Spells, SpellsAll, tokens_of_forest, tokens_of, without_nops}
use Rattle.dt_model.specs.Lexing.{padded, text_in, begin_in, property_in, token_in}
use Rattle.dt_model.specs.Checks.{BlobFault, Position, front, is_behind, may_be_called, has_room, lead, lead_all, fits, begin_fault, name_fault, property_fault, tag_fault, token_fault, StopsAt, IsSpelled}
use Rattle.dt_read.specs.Marks.{Mark, begin_mark, end_mark, prop_mark, nop_mark, last_mark, token_of, mark_at, SpellsMark, SpellsMarks, Root, marks_of_nodes, marks_of, without_nop_marks}
use Rattle.dt_trees.specs.Placed.{Nodes, no_nodes, node, forest_of}
use Rattle.dt_read.specs.TreeTokens.{HasTree}
use Rattle.dt_read.specs.Known.{HasNameAt}
use Rattle.dt_read.specs.Scan.{IsStuck, MovesTo, Reaches}
use Rattle.dt_read.proofs.Numbers.{IsBytes, IsBytes-drop, number_takes}
use Rattle.dt_read.proofs.Tokens.{chosen, token_takes}
use Rattle.dt_read.proofs.Nesting.{then_some, tree_of_led}

-- ---- what a result says of what it is made of

pub none_made : {A B : Type 0} (f : A → B) (o : Option A) → None ≡ option_map f o → o ≡ None
none_made f None e = refl
none_made f (Some x) e = absurd cc

pub some_made : {A B : Type 0} (f : A → B) (o : Option A) (y : B) → Some y ≡ option_map f o → (x : A) × (o ≡ Some x) × (y ≡ f x)
some_made f None y e = absurd cc
some_made f (Some x) y e = (x, refl, same_Some y (f x) e)

-- ---- how far the scan has come

pub spells_push : (strings : List ℕ) (tokens : List Token) (before own : List ℕ) (token : Token) → SpellsAll strings tokens before → Spells strings token own → SpellsAll strings (tokens ++ token ∷ []) (before ++ own)
spells_push strings [] before own token s t = (own, [], ap (λ (x : List ℕ). x ++ own) s ∙ sym (append-nil own), t, refl)
spells_push strings (first ∷ tokens) before own token s t =
    (s.0, s.1 ++ own, ap (λ (x : List ℕ). x ++ own) s.2 ∙ append_assoc s.0 s.1 own, s.3, spells_push strings tokens s.1 own token s.4 t)

lead_push : (tokens : List Token) (token : Token) (p q r : Position) → lead_all tokens p ≡ Some q → lead token q ≡ Some r → lead_all (tokens ++ token ∷ []) p ≡ Some r
lead_push [] token p q r l e = ap (option_and_then (lead_all [])) (ap (lead token) (same_Some p q l) ∙ e)
lead_push (first ∷ tokens) token p q r l e =
    let s = then_some (lead_all tokens) (lead first p) q l in
    ap (option_and_then (lead_all (tokens ++ token ∷ []))) s.1 ∙ lead_push tokens token s.0 q r s.2 e

pub reaches_more : (strings block : List ℕ) (here : ℕ) (rest : List ℕ) (p q : Position) (n : ℕ) → MovesTo strings p rest q n → Reaches strings block here rest p → Reaches strings block (here + n) (drop n rest) q
reaches_more strings block here rest p q n l r =
    let len : length (take n rest) ≡ n = omega (arith, length-take n rest, l.takes.within) in
    let both = length-append r.before (take n rest) in
    let is = r.place in
    record {
      tokens = r.tokens ++ l.token ∷ [];
      before = r.before ++ take n rest;
      whole = r.whole ∙ ap (λ (x : List ℕ). r.before ++ x) (sym (take-append-drop n rest)) ∙ sym (append_assoc r.before (take n rest) (drop n rest));
      place = omega arith;
      spelled = spells_push strings r.tokens r.before (take n rest) l.token r.spelled l.takes.spelled;
      led = lead_push r.tokens l.token front p q r.led l.led;
    }

pub stops : (strings block : List ℕ) (here : ℕ) (rest : List ℕ) (p : Position) (fault : BlobFault) → Reaches strings block here rest p → token_fault strings p rest ≡ Some fault → StopsAt strings block here fault
stops strings block here rest p fault r e =
    record { tokens = r.tokens; before = r.before; rest = rest; position = p; whole = r.whole; place = r.place; spelled = r.spelled; led = r.led; wrong = e }

-- ---- a token with no fault leads on, or is END

pub passes : (b : Bool) (f : BlobFault) (x : Option BlobFault) → cond (not b) (Some f) x ≡ None → (b ≡ true) × (x ≡ None)
passes true f x e = (refl, e)
passes false f x e = absurd cc

pub passes_not : (b : Bool) (f : BlobFault) (x : Option BlobFault) → cond b (Some f) x ≡ None → (b ≡ false) × (x ≡ None)
passes_not true f x e = absurd cc
passes_not false f x e = (refl, e)

-- the last token, where the root has ended
pub record IsLast (strings : List ℕ) (p : Position) (rest : List ℕ) : Type 0 where
  pub tag : word_at rest 0 ≡ Some 9
  pub behind : is_behind p ≡ true
  pub last : length rest ≡ 4

begin_goes : (strings : List ℕ) (p : Position) (rest : List ℕ) (t : Option Name) → text_in (drop 4 rest) ≡ t → begin_fault p rest t ≡ None → token_in strings rest ≡ begin_in rest → IsStuck strings p rest → ⊥
unfolding begin_in
begin_goes strings p rest None u e found stuck = absurd cc
begin_goes strings p rest (Some name) u e found stuck =
    let a = passes (fits rest (4 + length name + 1)) _ _ e in
    let b = passes_not (is_behind p) _ _ a.1 in
    let c = passes (may_be_called p name) _ _ b.1 in
    let d = passes (has_room p) _ _ c.1 in
    let size : ℕ = padded (4 + length name + 1) in
    let begun : begin_in rest ≡ Some (begin_node name, size) = rw u (λ i. cond (a.0 i) (Some (begin_node name, size)) None) in
    let no = stuck (begin_node name) size (found ∙ begun) in
    let led : lead (begin_node name) p ≡ Some (record { depth = p.depth + 1; late = false; nodes = p.nodes + 1 }) =
    (λ i. cond (b.0 i || not (c.0 i && d.0 i)) None (Some (record { depth = p.depth + 1; late = false; nodes = p.nodes + 1 }))) in
    absurd cc

named_goes : (strings : List ℕ) (p : Position) (rest : List ℕ) (size offset : ℕ) (t : Option Name) → text_in (drop offset strings) ≡ t → name_fault t ≡ None → (name : Name) × (text_in (drop offset strings) ≡ Some name) × (is_property_name name ≡ true)
named_goes strings p rest size offset None u e = absurd cc
named_goes strings p rest size offset (Some name) u e = by_test (is_property_name name) refl e
  where
    by_test : (b : Bool) → is_property_name name ≡ b → cond b None (Some Rattle.dt_model.specs.Checks.bad_name) ≡ None → (name : Name) × (text_in (drop offset strings) ≡ Some name) × (is_property_name name ≡ true)
    by_test true is e = (name, u, is)
    by_test false is e = absurd cc

property_read : (strings rest : List ℕ) (size offset : ℕ) (name : Name) → word_at rest 4 ≡ Some size → word_at rest 8 ≡ Some offset → text_in (drop offset strings) ≡ Some name → fits rest (12 + size) ≡ true
    → property_in strings rest ≡ Some (prop (record { name = name; value = take size (drop 12 rest) }), padded (12 + size))
unfolding property_in
property_read strings rest size offset name u v w f = rw (u, v, w) (λ i. cond (f i) (Some (prop (record { name = name; value = take size (drop 12 rest) }), padded (12 + size))) None)

unequal : (a b : ℕ) → (a ≡ b → ⊥) → eqb a b ≡ false
unequal a b ne = elim (eqb_tells a b) [
  | inl is ↦ absurd (ne is.1)
  | inr is ↦ is.0
]

-- a property whose name is known may stand there
pub known_moves : (strings : List ℕ) (p : Position) (rest : List ℕ) (size offset : ℕ) → IsBytes rest → word_at rest 0 ≡ Some 3 → word_at rest 4 ≡ Some size → word_at rest 8 ≡ Some offset → padded (12 + size) ≤ length rest
    → HasNameAt strings offset → (p.depth ≡ 0 → ⊥) → p.late ≡ false → MovesTo strings p rest p (padded (12 + size))
unfolding token_in
known_moves strings p rest size offset fits tag u v within named deep early =
    let x : Property = record { name = named.0; value = take size (drop 12 rest) } in
    let found : token_in strings rest ≡ property_in strings rest = rw tag refl in
    let read : token_in strings rest ≡ Some (prop x, padded (12 + size)) = found ∙ property_read strings rest size offset named.0 u v named.1 (le-leb _ _ within) in
    let depth : eqb p.depth 0 ≡ false = unequal p.depth 0 deep in
    record { token = prop x; takes = token_takes strings rest (prop x) (padded (12 + size)) fits read; led = (λ i. cond (depth i || early i || not (named.2 i)) None (Some p)) }

property_goes : (strings : List ℕ) (p : Position) (rest : List ℕ) (a b : Option ℕ) → word_at rest 4 ≡ a → word_at rest 8 ≡ b → property_fault strings p rest a b ≡ None → token_in strings rest ≡ property_in strings rest → IsStuck strings p rest → ⊥
property_goes strings p rest None b u v e found stuck = absurd cc
property_goes strings p rest (Some size) None u v e found stuck = absurd cc
property_goes strings p rest (Some size) (Some offset) u v e found stuck =
    let a = passes (fits rest (12 + size)) _ _ e in
    let b = passes_not (eqb p.depth 0) _ _ a.1 in
    let c = passes_not p.late _ _ b.1 in
    let d = named_goes strings p rest size offset (text_in (drop offset strings)) refl c.1 in
    let x : Property = record { name = d.0; value = take size (drop 12 rest) } in
    let n : ℕ = padded (12 + size) in
    let read = property_read strings rest size offset d.0 u v d.1 a.0 in
    let no = stuck (prop x) n (found ∙ read) in
    let led : lead (prop x) p ≡ Some p = (λ i. cond (b.0 i || c.0 i || not (d.2 i)) None (Some p)) in
    absurd cc

last_four : (n : ℕ) → cond (eqb n 4) None (Some Rattle.dt_model.specs.Checks.bad_end) ≡ None → n ≡ 4
last_four n e =
    elim (chosen (eqb n 4) _ _ _ e) [
      | inl four ↦ eqb-true n 4 four.0
      | inr other ↦ absurd cc
    ]

pub ended : (strings : List ℕ) (p : Position) (rest : List ℕ) → token_fault strings p rest ≡ None → IsStuck strings p rest → IsLast strings p rest
unfolding token_in
ended strings p rest e stuck = by_tag (word_at rest 0) refl e
  where
    by_tag : (o : Option ℕ) → word_at rest 0 ≡ o → tag_fault strings p rest o ≡ None → IsLast strings p rest
    by_tag None u e = absurd cc
    by_tag (Some tag) u e =
        elim (chosen (eqb tag 1) _ _ _ e) [
          | inl one ↦
              let w : word_at rest 0 ≡ Some 1 = u ∙ ap (λ (n : ℕ). Some n) (eqb-true tag 1 one.0) in
              absurd (begin_goes strings p rest (text_in (drop 4 rest)) refl one.1 (rw w refl) stuck)
          | inr not1 ↦ elim (chosen (eqb tag 2) _ _ _ not1.1) [
            | inl two ↦
                let w : word_at rest 0 ≡ Some 2 = u ∙ ap (λ (n : ℕ). Some n) (eqb-true tag 2 two.0) in
                let open_one = passes_not (eqb p.depth 0) _ _ two.1 in
                let no = stuck end_node 4 (rw w refl) in
                let led : lead end_node p ≡ Some (record { depth = p.depth - 1; late = true; nodes = p.nodes }) = (λ i. cond (open_one.0 i) None (Some (record { depth = p.depth - 1; late = true; nodes = p.nodes }))) in
                absurd cc
            | inr not2 ↦ elim (chosen (eqb tag 3) _ _ _ not2.1) [
              | inl three ↦
                  let w : word_at rest 0 ≡ Some 3 = u ∙ ap (λ (n : ℕ). Some n) (eqb-true tag 3 three.0) in
                  absurd (property_goes strings p rest (word_at rest 4) (word_at rest 8) refl refl three.1 (rw w refl) stuck)
              | inr not3 ↦ elim (chosen (eqb tag 4) _ _ _ not3.1) [
                | inl four ↦
                    let w : word_at rest 0 ≡ Some 4 = u ∙ ap (λ (n : ℕ). Some n) (eqb-true tag 4 four.0) in
                    let no = stuck nop 4 (rw w refl) in
                    absurd cc
                | inr not4 ↦ elim (chosen (eqb tag 9) _ _ _ not4.1) [
                  | inl nine ↦
                      let a = passes (is_behind p) _ _ nine.1 in
                      record { tag = u ∙ ap (λ (n : ℕ). Some n) (eqb-true tag 9 nine.0); behind = a.0; last = last_four (length rest) a.1 }
                  | inr none ↦ absurd cc
                ]
              ]
            ]
          ]
        ]

-- ---- the tree of the tokens

mark_again : (at : ℕ) (token : Token) → token_of (mark_at at token) ≡ token
mark_again at (begin_node name) = refl
mark_again at end_node = refl
mark_again at (prop x) = refl
mark_again at nop = refl
mark_again at end_tree = refl

pub marked : (strings : List ℕ) (at : ℕ) (token : Token) (own : List ℕ) → Spells strings token own → SpellsMark strings at (mark_at at token) own
marked strings at token own s = record { placed = ap (mark_at at) (mark_again at token); token = subst (λ (t : Token). Spells strings t own) (sym (mark_again at token)) s }

pub tokens_of_marks : (marks : List Mark) → map token_of (without_nop_marks marks) ≡ without_nops (map token_of marks)
tokens_of_marks [] = refl
tokens_of_marks (begin_mark place name ∷ marks) = ap (λ (x : List Token). begin_node name ∷ x) (tokens_of_marks marks)
tokens_of_marks (end_mark ∷ marks) = ap (λ (x : List Token). end_node ∷ x) (tokens_of_marks marks)
tokens_of_marks (prop_mark p ∷ marks) = ap (λ (x : List Token). prop p ∷ x) (tokens_of_marks marks)
tokens_of_marks (nop_mark ∷ marks) = tokens_of_marks marks
tokens_of_marks (last_mark ∷ marks) = ap (λ (x : List Token). end_tree ∷ x) (tokens_of_marks marks)

pub tokens_append : (xs ys : List Mark) → map token_of (xs ++ ys) ≡ map token_of xs ++ map token_of ys
tokens_append [] ys = refl
tokens_append (x ∷ xs) ys = ap (λ (t : List Token). token_of x ∷ t) (tokens_append xs ys)

tokens_of_properties : (properties : List Property) → map token_of (map prop_mark properties) ≡ map prop properties
tokens_of_properties [] = refl
tokens_of_properties (p ∷ properties) = ap (λ (t : List Token). prop p ∷ t) (tokens_of_properties properties)

tokens_of_nodes : (nodes : Nodes) → map token_of (marks_of_nodes nodes) ≡ tokens_of_forest (forest_of nodes)
tokens_of_nodes no_nodes = refl
tokens_of_nodes (node place name properties children siblings) =
    let behind = tokens_append (marks_of_nodes children) (end_mark ∷ marks_of_nodes siblings) in
    let whole = tokens_append (map prop_mark properties) (marks_of_nodes children ++ end_mark ∷ marks_of_nodes siblings) in
    let inside = tokens_of_nodes children in
    let after = tokens_of_nodes siblings in
    ap (λ (t : List Token). begin_node name ∷ t)
    (whole ∙ ap (λ (t : List Token). t ++ map token_of (marks_of_nodes children ++ end_mark ∷ marks_of_nodes siblings)) (tokens_of_properties properties)
    ∙ ap (λ (t : List Token). map prop properties ++ t) (behind ∙ (λ i. inside i ++ end_node ∷ after i)))

pub tokens_of_root : (tree : Root) → map token_of (marks_of tree) ≡ tokens_of tree.properties (forest_of tree.children)
tokens_of_root tree = tokens_of_nodes (node tree.place [] tree.properties tree.children no_nodes)

-- a word and nothing behind it
only_word : (n : ℕ) (rest : List ℕ) → IsBytes rest → word_at rest 0 ≡ Some n → length rest ≡ 4 → rest ≡ word n
only_word n rest bytes tag four =
    let t = number_takes 0 rest n bytes tag in
    let nothing : drop 4 rest ≡ [] = drop_of_length-le rest {i = 4} (omega arith) in
    t.0 ∙ ap (λ (x : List ℕ). word n ++ x) nothing ∙ append-nil (word n)

-- the tokens up to END, with their places
pub record MarkedWhole (strings : List ℕ) (at : ℕ) (tokens : List Token) (bytes : List ℕ) : Type 0 where
  pub marks : List Mark
  pub same : map token_of marks ≡ tokens
  pub spelled : SpellsMarks strings at (marks ++ last_mark ∷ []) bytes

marked_whole : (strings : List ℕ) (at : ℕ) (tokens : List Token) (bytes : List ℕ) → SpellsAll strings (tokens ++ end_tree ∷ []) bytes → MarkedWhole strings at tokens bytes
marked_whole strings at [] bytes s = record { marks = []; same = refl; spelled = (s.0, s.1, s.2, marked strings at end_tree s.0 s.3, s.4) }
marked_whole strings at (token ∷ tokens) bytes s =
    let m = marked_whole strings (at + length s.0) tokens s.1 s.4 in
    record {
      marks = mark_at at token ∷ m.marks;
      same = (λ i. mark_again at token i ∷ m.same i);
      spelled = (s.0, s.1, s.2, marked strings at token s.0 s.3, m.spelled);
    }

-- a block whose tokens lead to the end of the root spells a tree
pub tree_spelled : (strings block : List ℕ) (at : ℕ) (tokens : List Token) (end : Position) → SpellsAll strings (tokens ++ end_tree ∷ []) block → lead_all tokens front ≡ Some end → end.depth ≡ 0 → end.late ≡ true
    → (tree : Root) × HasTree strings at block tree
tree_spelled strings block at tokens end spelled led closed ended =
    let m = marked_whole strings at tokens block spelled in
    let t = tree_of_led m.marks end (ap (λ (ts : List Token). lead_all ts front) m.same ∙ led) closed ended in
    let whole : without_nops tokens ≡ tokens_of t.tree.properties (forest_of t.tree.children) =
    ap without_nops (sym m.same) ∙ sym (tokens_of_marks m.marks) ∙ ap (map token_of) t.tokens ∙ tokens_of_root t.tree in (
      t.tree,
      record {
        marks = m.marks;
        spelled = m.spelled;
        whole = t.tokens;
        checked = record { tokens = tokens; end = end; spelled = spelled; whole = whole; led = led; closed = closed; ended = ended };
        properties = t.properties;
        nodes = t.nodes;
        count = t.count;
        depth = t.depth;
      },
    )

-- at the last token the block is a tree's
pub over : (strings block : List ℕ) (at here : ℕ) (rest : List ℕ) (p : Position) → IsBytes block → Reaches strings block here rest p → IsLast strings p rest → (tree : Root) × HasTree strings at block tree
over strings block at here rest p bytes r last =
    let fit : IsBytes rest = subst IsBytes (ap (drop (length r.before)) r.whole ∙ drop_at r.before rest (length r.before) refl) (IsBytes-drop (length r.before) block bytes) in
    let end : rest ≡ word 9 = only_word 9 rest fit last.tag last.last in
    let whole : block ≡ r.before ++ word 9 = r.whole ∙ ap (λ (x : List ℕ). r.before ++ x) end in
    let closed = both_true (eqb p.depth 0) p.late last.behind in
    let spelled : SpellsAll strings (r.tokens ++ end_tree ∷ []) block = subst (SpellsAll strings (r.tokens ++ end_tree ∷ [])) (sym whole) (spells_push strings r.tokens r.before (word 9) end_tree r.spelled refl) in
    tree_spelled strings block at r.tokens p spelled r.led (eqb-true p.depth 0 closed.0) closed.1
  where
    both_true : (a b : Bool) → a && b ≡ true → (a ≡ true) × (b ≡ true)
    both_true true true e = (refl, refl)
    both_true true false e = absurd cc
    both_true false b e = absurd cc
