-- Where a property of a node is cut out, and where a child of it is put in.
use Rattle.std.proofs.Common.{◌≡◌, ℕ, ◌+◌, ◌-◌, ◌<◌, ◌≤◌, true, false, List, [], ◌∷◌, ◌++◌, length, take, drop, map, Some, refl, sym, ap, subst, ◌∙◌, append_assoc, arith}
use Rattle.std.proofs.lemmas.List.{append-nil, length-drop, length-take-le, map-append, drop-drop}
use Rattle.std.proofs.Math.Seq.{take-add}
use Rattle.std.specs.List.{AllByRecursion}
use Rattle.std.specs.Str.{bytes_eq}
use Rattle.std.proofs.lemmas.Slice.Eq.{bytes_eq-Decides}
use Rattle.dt_model.specs.Changes.{set_property}
use Rattle.dt_model.specs.Checks.{number, strings_of, structure_of}
use Rattle.dt_model.specs.Format.{word, SpellsProperty}
use Rattle.dt_model.specs.Names.{Name}
use Rattle.dt_model.specs.Tree.{Property, value_of, value_in}
use Rattle.dt_read.specs.Checked.{placed_of}
use Rattle.dt_read.specs.Cuts.{Content, with_value, appended, with_node, moved, moved_nodes, moved_content, marks_of_content, Passes, HasNoProperty, IsFoundProperty, property_size, found_size, IsFoundToken, IsTokenOf, IsPropertyExtent, opened, IsEndPlace, IsPropertyCut, IsEndCut}
use Rattle.dt_read.specs.Lying.{IsLater, TokenLies}
use Rattle.dt_read.specs.declared.token.Token.{Token as CodeToken}
use Rattle.dt_read.specs.declared.token.Token.TheVariants as code
use Rattle.dt_read.specs.View.{view, view_at}
use Rattle.dt_read.specs.Marks.{Mark, begin_mark, end_mark, prop_mark, last_mark, SpellsMarks, marks_of_nodes, without_nop_marks}
use Rattle.dt_read.specs.Parsing.{Left, left_by}
use Rattle.dt_trees.specs.Placed as placed
use Rattle.dt_trees.specs.Placed.{Nodes, path_at, reading_of}
use Rattle.dt_read.specs.TreeCode.{left_by_properties, left_by_nodes}
use Rattle.dt_read.specs.TreeTokens.{marks_in}
use Rattle.dt_read.proofs.ChangedTrees.{moved_mark, moved_properties, moved_marks}
use Rattle.dt_read.proofs.CutTrees.{CutNode, CutTokens, spliced_tree}
use Rattle.dt_read.proofs.Endings.{opened_content, one_end}
use Rattle.dt_read.proofs.Nodes.{without_nop_marks-append}
use Rattle.dt_read.proofs.Cursors.{kept}
use Rattle.dt_read.proofs.Lying.{behind_later, later_first}
use Rattle.dt_read.proofs.Passing.{passes_none, passes_on, passes_found}
use Rattle.dt_read.proofs.Splices.{marks_append}
use Rattle.dt_read.proofs.Trees.{lexed_is}

-- ---- from a node's beginning on

-- what a look at a node's BEGIN_NODE finds
pub record HeadOf (strings : List ℕ) (node : ℕ) (left : List ℕ) (next : ℕ) (rest : List ℕ) : Type 0 where
  pub mark : Mark
  pub marks : marks_in strings node left ≡ mark ∷ marks_in strings next rest
  pub passes : Passes strings node left next (mark ∷ [])
  pub later : IsLater node left next rest
  pub begun : node < next

pub head_found : (strings : List ℕ) (node : ℕ) (left : List ℕ) (there : ℕ) (token : CodeToken) (next : ℕ) (rest : List ℕ) → (token ≡ code.Nop → ⊥)
    → marks_in strings node left ≡ view_at there token ∷ marks_in strings next rest → TokenLies strings node left there (view token) next rest → Passes strings node left there [] → HeadOf strings node left next rest
head_found strings node left there token next rest no_nop marks lies nops =
    let both = passes_found strings node left node left there (view token) next rest [] (passes_none strings node left) (later_first node left) lies nops in
    let from = lies.later.from in
    let size = lies.takes.positive in
    let on = lies.behind in
    record {
      mark = view_at there token;
      marks = marks;
      passes = subst (Passes strings node left next) (kept there token [] no_nop) both.1;
      later = behind_later strings node left there (view token) next rest lies;
      begun = omega arith;
    }

-- the bytes from a node on
abbrev pub from_node : List ℕ → ℕ → List ℕ
from_node bytes node = drop (node - number bytes 8) (structure_of bytes)

-- the tokens in front of a place behind a node's beginning
record Ahead (bytes : List ℕ) (node here : ℕ) (c : CutNode bytes node) (ms : List Mark) : Type 0 where
  front : List Mark
  spelled : SpellsMarks (strings_of bytes) (number bytes 8) front (take (here - number bytes 8) (structure_of bytes))
  are : without_nop_marks front ≡ c.stands.before ++ ms

ahead_of : (bytes : List ℕ) (node here : ℕ) (c : CutNode bytes node) (ms : List Mark) → node ≤ here → Passes (strings_of bytes) node (from_node bytes node) here ms → Ahead bytes node here c ms
ahead_of bytes node here c ms le p =
    let strings = strings_of bytes in
    let block = structure_of bytes in
    let start = number bytes 8 in
    let from = c.from in
    let reached : start + length (take (node - start) block) ≡ node = omega (arith, length-take-le (node - start) block c.within) in
    let size : node - start + (here - node) ≡ here - start = omega arith in
    let joined : take (node - start) block ++ take (here - node) (drop (node - start) block) ≡ take (here - start) block = sym (take-add (node - start) (here - node) block) ∙ ap (λ (n : ℕ). take n block) size in
    record {
      front = c.front ++ p.front;
      spelled = subst (SpellsMarks strings start (c.front ++ p.front)) joined
          (marks_append strings start c.front p.front (take (node - start) block) (take (here - node) (drop (node - start) block)) c.ahead
          (subst (λ (n : ℕ). SpellsMarks strings n p.front (take (here - node) (drop (node - start) block))) (sym reached) p.spelled));
      are = without_nop_marks-append c.front p.front ∙ (λ i. c.before i ++ p.are i);
    }

-- the bytes from a place behind a node's beginning on
behind_of : (bytes : List ℕ) (node next here : ℕ) (rest : List ℕ) → number bytes 8 ≤ node → next ≤ here → IsLater node (from_node bytes node) next rest → drop (here - next) rest ≡ drop (here - number bytes 8) (structure_of bytes)
behind_of bytes node next here rest from le l =
    let first = l.from in
    let one : node - number bytes 8 + (next - node) ≡ next - number bytes 8 = omega arith in
    let two : next - number bytes 8 + (here - next) ≡ here - number bytes 8 = omega arith in
    let is : rest ≡ drop (next - number bytes 8) (structure_of bytes) = l.is ∙ drop-drop (next - node) (node - number bytes 8) (structure_of bytes) ∙ ap (λ (n : ℕ). drop n (structure_of bytes)) one in
    ap (drop (here - next)) is ∙ drop-drop (here - next) (next - number bytes 8) (structure_of bytes) ∙ ap (λ (n : ℕ). drop n (structure_of bytes)) two

length_of : (bytes : List ℕ) (node next : ℕ) (rest : List ℕ) (c : CutNode bytes node) → IsLater node (from_node bytes node) next rest → length rest ≡ length (structure_of bytes) - (next - number bytes 8)
length_of bytes node next rest c l =
    let first = l.from in
    let within = l.within in
    let from = c.from in
    let inside = c.within in
    omega (arith, ap (λ (x : List ℕ). length x) l.is, length-drop (next - node) (from_node bytes node), length-drop (node - number bytes 8) (structure_of bytes))

-- the token of a node's beginning, and those behind it
head_is : (bytes : List ℕ) (node next : ℕ) (rest : List ℕ) (c : CutNode bytes node) → (h : HeadOf (strings_of bytes) node (from_node bytes node) next rest)
    → (h.mark ≡ begin_mark node c.stands.name) × (marks_in (strings_of bytes) next rest ≡ marks_of_content c.stands.content (end_mark ∷ (c.stands.more ++ last_mark ∷ [])))
head_is bytes node next rest c h = heads (sym h.marks ∙ c.marks)
  where
    heads : {x y : Mark} {xs ys : List Mark} → x ∷ xs ≡ y ∷ ys → (x ≡ y) × (xs ≡ ys)
    heads e = (cc, cc)

-- ---- a property

-- a property among those of a node, and those behind it
record Held (name : Name) (value : List ℕ) (before ps : List Property) (left tail : List Mark) : Type 0 where
  behind : List Property
  set : set_property ps name value ≡ before ++ record { name = name; value = value } ∷ behind
  is : left ≡ map prop_mark behind ++ tail

first_is_none : (nodes : Nodes) (more marks : List Mark) (p : Property) → prop_mark p ∷ marks ≡ marks_of_nodes nodes ++ end_mark ∷ more → ⊥
first_is_none placed.no_nodes more marks p e = cc
first_is_none (placed.node place name properties children siblings) more marks p e = cc

held : (name : Name) (value : List ℕ) (before own : List Property) (left : List Mark) (ps : List Property) (nodes : Nodes) (more : List Mark) → IsFoundProperty name own left
    → AllByRecursion (λ p. bytes_eq name p.name ≡ false) before → map prop_mark before ++ (map prop_mark own ++ left) ≡ map prop_mark ps ++ (marks_of_nodes nodes ++ end_mark ∷ more)
    → Held name value before ps left (marks_of_nodes nodes ++ end_mark ∷ more)
held name value [] [] left [] nodes more f o e = record { behind = []; set = refl; is = e }
held name value [] [] left (p ∷ ps) nodes more f o e = absurd (subst HasNoProperty e f)
held name value [] (q ∷ []) left [] nodes more f o e = absurd (first_is_none nodes more left q e)
held name value [] (q ∷ []) left (p ∷ ps) nodes more f o e =
    let same : q ≡ p = cc in
    let tail : left ≡ map prop_mark ps ++ (marks_of_nodes nodes ++ end_mark ∷ more) = cc in
    let test : bytes_eq name p.name ≡ true = ap (λ (x : Property). bytes_eq name x.name) (sym same) ∙ f in
    let named : name ≡ p.name = (bytes_eq-Decides name p.name).0 test in
    record { behind = ps; set = rw test (ap (λ (n : Name). record { name = n; value = value } ∷ ps) (sym named)); is = tail }
held name value [] (q ∷ r ∷ own) left ps nodes more f o e = absurd f
held name value (b ∷ before) own left [] nodes more f o e = absurd (first_is_none nodes more (map prop_mark before ++ (map prop_mark own ++ left)) b e)
held name value (b ∷ before) own left (p ∷ ps) nodes more f o e =
    let same : b ≡ p = cc in
    let tail : map prop_mark before ++ (map prop_mark own ++ left) ≡ map prop_mark ps ++ (marks_of_nodes nodes ++ end_mark ∷ more) = cc in
    let test : bytes_eq name p.name ≡ false = ap (λ (x : Property). bytes_eq name x.name) (sym same) ∙ o.0 in
    let h = held name value before own left ps nodes more f o.1 tail in
    record { behind = h.behind; set = rw test (λ i. sym same i ∷ h.set i); is = h.is }

-- the property that is found is the node's, and takes as many bytes as its value needs
found_value : (name : Name) (before own : List Property) (left : List Mark) (ps : List Property) (nodes : Nodes) (more : List Mark) → IsFoundProperty name own left
    → AllByRecursion (λ p. bytes_eq name p.name ≡ false) before → map prop_mark before ++ (map prop_mark own ++ left) ≡ map prop_mark ps ++ (marks_of_nodes nodes ++ end_mark ∷ more)
    → found_size own ≡ property_size (value_of ps name)
found_value name [] [] left [] nodes more f o e = refl
found_value name [] [] left (p ∷ ps) nodes more f o e = absurd (subst HasNoProperty e f)
found_value name [] (q ∷ []) left [] nodes more f o e = absurd (first_is_none nodes more left q e)
found_value name [] (q ∷ []) left (p ∷ ps) nodes more f o e =
    let same : q ≡ p = cc in
    let test : bytes_eq name p.name ≡ true = ap (λ (x : Property). bytes_eq name x.name) (sym same) ∙ f in
    rw test (ap (λ (x : Property). property_size (Some x.value)) same)
found_value name [] (q ∷ r ∷ own) left ps nodes more f o e = absurd f
found_value name (b ∷ before) own left [] nodes more f o e = absurd (first_is_none nodes more (map prop_mark before ++ (map prop_mark own ++ left)) b e)
found_value name (b ∷ before) own left (p ∷ ps) nodes more f o e =
    let same : b ≡ p = cc in
    let tail : map prop_mark before ++ (map prop_mark own ++ left) ≡ map prop_mark ps ++ (marks_of_nodes nodes ++ end_mark ∷ more) = cc in
    let test : bytes_eq name p.name ≡ false = ap (λ (x : Property). bytes_eq name x.name) (sym same) ∙ o.0 in
    rw test (found_value name before own left ps nodes more f o.1 tail)

-- and its token is that of the value
found_token : (strings block : List ℕ) (cut size : ℕ) (name : Name) (before own : List Property) (left : List Mark) (ps : List Property) (nodes : Nodes) (more : List Mark) → IsFoundProperty name own left
    → AllByRecursion (λ p. bytes_eq name p.name ≡ false) before → map prop_mark before ++ (map prop_mark own ++ left) ≡ map prop_mark ps ++ (marks_of_nodes nodes ++ end_mark ∷ more)
    → size ≡ found_size own → IsFoundToken strings (drop cut block) own → IsTokenOf strings block cut size name (value_of ps name)
found_token strings block cut size name [] [] left [] nodes more f o e s t = tt
found_token strings block cut size name [] [] left (p ∷ ps) nodes more f o e s t = absurd (subst HasNoProperty e f)
found_token strings block cut size name [] (q ∷ []) left [] nodes more f o e s t = absurd (first_is_none nodes more left q e)
found_token strings block cut size name [] (q ∷ []) left (p ∷ ps) nodes more f o e s t =
    let same : q ≡ p = cc in
    let test : bytes_eq name p.name ≡ true = ap (λ (x : Property). bytes_eq name x.name) (sym same) ∙ f in
    let named : p.name ≡ name = sym ((bytes_eq-Decides name p.name).0 test) in
    rw test (subst (λ (n : Name). SpellsProperty strings (record { name = n; value = p.value }) (take size (drop cut block))) named
    (subst (λ (x : Property). SpellsProperty strings x (take size (drop cut block))) same (subst (λ (n : ℕ). SpellsProperty strings q (take n (drop cut block))) (sym s) t)))
found_token strings block cut size name [] (q ∷ r ∷ own) left ps nodes more f o e s t = absurd f
found_token strings block cut size name (b ∷ before) own left [] nodes more f o e s t = absurd (first_is_none nodes more (map prop_mark before ++ (map prop_mark own ++ left)) b e)
found_token strings block cut size name (b ∷ before) own left (p ∷ ps) nodes more f o e s t =
    let same : b ≡ p = cc in
    let tail : map prop_mark before ++ (map prop_mark own ++ left) ≡ map prop_mark ps ++ (marks_of_nodes nodes ++ end_mark ∷ more) = cc in
    let test : bytes_eq name p.name ≡ false = ap (λ (x : Property). bytes_eq name x.name) (sym same) ∙ o.0 in
    rw test (found_token strings block cut size name before own left ps nodes more f o.1 tail s t)

-- a property set among the tokens of a node, of which those behind it move
value_between : (f : ℕ → ℕ) (name : Name) (value : List ℕ) (ps before behind : List Property) (nodes : Nodes) (more : List Mark) → set_property ps name value ≡ before ++ record { name = name; value = value } ∷ behind
    → marks_of_content (with_value name value (moved_content f (record { properties = ps; children = nodes }))) (end_mark ∷ map (moved_mark f) more)
    ≡ map (moved_mark f) (map prop_mark before) ++ (prop_mark (record { name = name; value = value }) ∷ map (moved_mark f) (map prop_mark behind ++ (marks_of_nodes nodes ++ end_mark ∷ more)))
value_between f name value ps before behind nodes more set =
    let p : Property = record { name = name; value = value } in
    let tail : List Mark = map (moved_mark f) (marks_of_nodes nodes) ++ end_mark ∷ map (moved_mark f) more in
    let moved_tail : map (moved_mark f) (map prop_mark behind ++ (marks_of_nodes nodes ++ end_mark ∷ more)) ≡ map prop_mark behind ++ tail =
    map-append (moved_mark f) (map prop_mark behind) (marks_of_nodes nodes ++ end_mark ∷ more)
    ∙ (λ i. moved_properties f behind i ++ map-append (moved_mark f) (marks_of_nodes nodes) (end_mark ∷ more) i) in
    ap (λ (x : List Property). map prop_mark x ++ (marks_of_nodes (moved_nodes f nodes) ++ end_mark ∷ map (moved_mark f) more)) set
    ∙ ap (λ (x : List Mark). map prop_mark (before ++ p ∷ behind) ++ (x ++ end_mark ∷ map (moved_mark f) more)) (moved_marks f nodes)
    ∙ ap (λ (x : List Mark). x ++ tail) (map-append prop_mark before (p ∷ behind))
    ∙ append_assoc (map prop_mark before) (prop_mark p ∷ map prop_mark behind) tail
    ∙ (λ i. sym (moved_properties f before) i ++ prop_mark p ∷ sym moved_tail i)

-- the values of a node are those of the properties in front of what it has
abbrev pub HasValues : (bytes : List ℕ) (node : ℕ) (strings : List ℕ) (next : ℕ) (rest : List ℕ) → Type 0
HasValues bytes node strings next rest =
    (x : Name) → value_in (reading_of (placed_of bytes)) (path_at (placed_of bytes) node) x ≡ value_of (left_by (marks_in strings next rest)).properties x

content_properties : (c : Content) (more : List Mark) → (left_by (marks_of_content c (end_mark ∷ more))).properties ≡ c.properties
content_properties c more =
    let inside = left_by_nodes c.children more in
    ap (λ (l : Left). l.properties) (left_by_properties c.properties (marks_of_nodes c.children ++ end_mark ∷ more) (ap (λ (l : Left). l.properties) inside))

property_tokens : (bytes : List ℕ) (node : ℕ) (name : Name) (value : List ℕ) (next : ℕ) (rest : List ℕ) (from to : ℕ) (c : CutNode bytes node) → HeadOf (strings_of bytes) node (from_node bytes node) next rest
    → (e : IsPropertyExtent (strings_of bytes) next rest name from to)
    → (t : CutTokens bytes node (from - number bytes 8) (to - from) c) × (behind : List Property) × (t.passed ≡ map prop_mark e.before)
    × (t.left ≡ map prop_mark behind ++ (marks_of_nodes c.stands.content.children ++ end_mark ∷ c.stands.more))
    × (set_property c.stands.content.properties name value ≡ e.before ++ record { name = name; value = value } ∷ behind)
property_tokens bytes node name value next rest from to c h e =
    let strings = strings_of bytes in
    let block = structure_of bytes in
    let start = number bytes 8 in
    let s = c.stands in
    let own = head_is bytes node next rest c h in
    let begun = h.begun in
    let begins = c.from in
    let first = e.first in
    let order = e.size in
    let within = e.within in
    let later = h.later.from in
    let inner = h.later.within in
    let size = length_of bytes node next rest c h.later in
    let from_len = length-drop (node - start) block in
    let cut_size : from - start + (to - from) ≡ to - start = omega arith in
    let cut_place : start + (from - start) + (to - from) ≡ to = omega arith in
    let held_one = held name value e.before e.own e.left s.content.properties s.content.children (s.more ++ last_mark ∷ []) e.is e.others (sym e.whole ∙ own.1) in
    let up = ahead_of bytes node from c (h.mark ∷ map prop_mark e.before) (omega arith) (passes_on strings node (from_node bytes node) next rest from (h.mark ∷ []) (map prop_mark e.before) h.passes h.later e.first e.passes) in
    let over = ahead_of bytes node to c (h.mark ∷ (map prop_mark e.before ++ map prop_mark e.own)) (omega arith)
    (passes_on strings node (from_node bytes node) next rest to (h.mark ∷ []) (map prop_mark e.before ++ map prop_mark e.own) h.passes h.later (omega arith) e.passed) in
    let back : drop (to - next) rest ≡ drop (to - start) block = behind_of bytes node next to rest c.from (omega arith) h.later in
    let left : e.left ≡ (map prop_mark held_one.behind ++ (marks_of_nodes s.content.children ++ end_mark ∷ s.more)) ++ last_mark ∷ [] =
    held_one.is ∙ regroup (map prop_mark held_one.behind) (marks_of_nodes s.content.children) (end_mark ∷ []) s.more (last_mark ∷ []) in (
      record {
        inside = omega arith;
        front = up.front;
        ahead = up.spelled;
        passed = map prop_mark e.before;
        fronts = up.are ∙ ap (λ (m : Mark). s.before ++ m ∷ map prop_mark e.before) own.0;
        over = over.front;
        beyond = subst (λ (n : ℕ). SpellsMarks strings start over.front (take n block)) (sym cut_size) over.spelled;
        back = e.tokens.marks;
        behind = subst (λ (n : ℕ). SpellsMarks strings (start + (from - start) + (to - from)) e.tokens.marks (drop n block)) (sym cut_size)
            (subst (λ (n : ℕ). SpellsMarks strings n e.tokens.marks (drop (to - start) block)) (sym cut_place) (subst (SpellsMarks strings to e.tokens.marks) back e.tokens.spelled));
        left = map prop_mark held_one.behind ++ (marks_of_nodes s.content.children ++ end_mark ∷ s.more);
        backs = sym (ap without_nop_marks (lexed_is strings to e.tokens.marks (drop (to - next) rest) e.tokens.spelled)) ∙ e.behind ∙ left;
      },
      held_one.behind,
      refl,
      refl,
      held_one.set,
    )
  where
    regroup : (a b c d e : List Mark) → a ++ (b ++ (c ++ (d ++ e))) ≡ (a ++ (b ++ (c ++ d))) ++ e
    regroup a b c d e = simp append_assoc

property_becomes : (bytes : List ℕ) (node : ℕ) (name : Name) (next : ℕ) (rest : List ℕ) (from to : ℕ) (c : CutNode bytes node) → HeadOf (strings_of bytes) node (from_node bytes node) next rest
    → HasValues bytes node (strings_of bytes) next rest → IsPropertyExtent (strings_of bytes) next rest name from to → IsPropertyCut bytes node name (from - number bytes 8) (to - from)
property_becomes bytes node name next rest from to c h values e =
    let own = head_is bytes node next rest c h in
    let found = found_value name e.before e.own e.left c.stands.content.properties c.stands.content.children (c.stands.more ++ last_mark ∷ []) e.is e.others (sym e.whole ∙ own.1) in
    let taken = e.size in
    let values_are : value_in (reading_of (placed_of bytes)) (path_at (placed_of bytes) node) name ≡ value_of c.stands.content.properties name =
    values name ∙ ap (λ (x : List Property). value_of x name) (ap (λ (x : List Mark). (left_by x).properties) own.1 ∙ content_properties c.stands.content (c.stands.more ++ last_mark ∷ [])) in
    let begun = h.begun in
    let begins = c.from in
    let first = e.first in
    let inside = (property_tokens bytes node name [] next rest from to c h e).0.inside in
    record {
      behind = record { begun = omega arith; inside = inside };
      taken = omega arith ∙ found ∙ ap property_size (sym values_are);
      token = subst (IsTokenOf (strings_of bytes) (structure_of bytes) (from - number bytes 8) (to - from) name) (sym values_are)
          (found_token (strings_of bytes) (structure_of bytes) (from - number bytes 8) (to - from) name e.before e.own e.left c.stands.content.properties c.stands.content.children (c.stands.more ++ last_mark ∷ []) e.is e.others
          (sym e.whole ∙ own.1) (omega arith) (subst (λ (x : List ℕ). IsFoundToken (strings_of bytes) x e.own) (behind_of bytes node next from rest c.from e.first h.later) e.token));
      becomes = λ value own more spelled.
          let t = property_tokens bytes node name value next rest from to c h e in
          let p : Property = record { name = name; value = value } in
          let f : ℕ → ℕ = moved (number bytes 8 + (from - number bytes 8)) (to - from) (length own) in
          spliced_tree bytes node (from - number bytes 8) (to - from) c t.0 more own (prop_mark p ∷ []) (with_value name value)
          (own, [], sym (append-nil own), record { placed = refl; token = spelled }, refl)
          (value_between f name value c.stands.content.properties e.before t.1 c.stands.content.children c.stands.more t.4
          ∙ (λ i. map (moved_mark f) (sym t.2 i) ++ prop_mark p ∷ map (moved_mark f) (sym t.3 i)));
    }

-- where a property is cut out of the bytes from its node on
pub property_cut_is : (bytes : List ℕ) (node : ℕ) (name : Name) (strings left : List ℕ) (next : ℕ) (rest : List ℕ) (from to : ℕ) → CutNode bytes node → strings ≡ strings_of bytes
    → left ≡ drop (node - number bytes 8) (structure_of bytes) → HeadOf strings node left next rest → HasValues bytes node strings next rest → IsPropertyExtent strings next rest name from to
    → IsPropertyCut bytes node name (from - number bytes 8) (to - from)
property_cut_is bytes node name strings left next rest from to c names block =
    subst (λ (s : List ℕ). HeadOf s node left next rest → HasValues bytes node s next rest → IsPropertyExtent s next rest name from to → IsPropertyCut bytes node name (from - number bytes 8) (to - from)) (sym names)
    (subst (λ (l : List ℕ). HeadOf (strings_of bytes) node l next rest → HasValues bytes node (strings_of bytes) next rest → IsPropertyExtent (strings_of bytes) next rest name from to → IsPropertyCut bytes node name (from - number bytes 8) (to - from)) (sym block)
    (property_becomes bytes node name next rest from to c))

-- ---- a child

marks_appended : (nodes : Nodes) (place : ℕ) (name : Name) → marks_of_nodes (appended nodes place name) ≡ marks_of_nodes nodes ++ begin_mark place name ∷ end_mark ∷ []
marks_appended placed.no_nodes place name = refl
marks_appended (placed.node other x properties children siblings) place name =
    ap (λ (y : List Mark). begin_mark other x ∷ (map prop_mark properties ++ (marks_of_nodes children ++ end_mark ∷ y))) (marks_appended siblings place name)
    ∙ ap (λ (y : List Mark). begin_mark other x ∷ y) (regroup (map prop_mark properties) (marks_of_nodes children) (end_mark ∷ marks_of_nodes siblings) (begin_mark place name ∷ end_mark ∷ []))
  where
    regroup : (a b c d : List Mark) → a ++ (b ++ (c ++ d)) ≡ (a ++ (b ++ c)) ++ d
    regroup a b c d = simp append_assoc

node_between : (f : ℕ → ℕ) (place : ℕ) (name : Name) (ps : List Property) (nodes : Nodes) (more : List Mark)
    → marks_of_content (with_node place name (moved_content f (record { properties = ps; children = nodes }))) (end_mark ∷ map (moved_mark f) more)
    ≡ map (moved_mark f) (map prop_mark ps ++ marks_of_nodes nodes) ++ (begin_mark place name ∷ end_mark ∷ map (moved_mark f) (end_mark ∷ more))
node_between f place name ps nodes more =
    let tail : List Mark = end_mark ∷ map (moved_mark f) more in
    ap (λ (x : List Mark). map prop_mark ps ++ (x ++ tail)) (marks_appended (moved_nodes f nodes) place name)
    ∙ ap (λ (x : List Mark). map prop_mark ps ++ ((x ++ begin_mark place name ∷ end_mark ∷ []) ++ tail)) (moved_marks f nodes)
    ∙ ap (λ (x : List Mark). x ++ ((map (moved_mark f) (marks_of_nodes nodes) ++ begin_mark place name ∷ end_mark ∷ []) ++ tail)) (sym (moved_properties f ps))
    ∙ regroup (map (moved_mark f) (map prop_mark ps)) (map (moved_mark f) (marks_of_nodes nodes)) (begin_mark place name ∷ end_mark ∷ []) tail
    ∙ ap (λ (x : List Mark). x ++ (begin_mark place name ∷ end_mark ∷ tail)) (sym (map-append (moved_mark f) (map prop_mark ps) (marks_of_nodes nodes)))
  where
    regroup : (a b c d : List Mark) → a ++ ((b ++ c) ++ d) ≡ (a ++ b) ++ (c ++ d)
    regroup a b c d = simp append_assoc

end_tokens : (bytes : List ℕ) (node : ℕ) (next : ℕ) (rest : List ℕ) (here : ℕ) (c : CutNode bytes node) → HeadOf (strings_of bytes) node (from_node bytes node) next rest
    → IsEndPlace (strings_of bytes) next rest here
    → (t : CutTokens bytes node (here - number bytes 8) 0 c) × (t.passed ≡ map prop_mark c.stands.content.properties ++ marks_of_nodes c.stands.content.children) × (t.left ≡ end_mark ∷ c.stands.more)
end_tokens bytes node next rest here c h e =
    let strings = strings_of bytes in
    let block = structure_of bytes in
    let start = number bytes 8 in
    let s = c.stands in
    let content : List Mark = map prop_mark s.content.properties ++ marks_of_nodes s.content.children in
    let own = head_is bytes node next rest c h in
    let begun = h.begun in
    let begins = c.from in
    let first = e.first in
    let within = e.within in
    let later = h.later.from in
    let inner = h.later.within in
    let size = length_of bytes node next rest c h.later in
    let from_len = length-drop (node - start) block in
    let no_more : here - start + 0 ≡ here - start = omega arith in
    let cut_place : start + (here - start) + 0 ≡ here = omega arith in
    let level : opened content 0 ≡ Some 0 = ap (λ (x : List Mark). opened (map prop_mark s.content.properties ++ x) 0) (sym (append-nil (marks_of_nodes s.content.children))) ∙ opened_content s.content [] 0 in
    let one = one_end e.inside content e.left (s.more ++ last_mark ∷ []) 0 e.balanced level
    (sym e.whole ∙ own.1 ∙ sym (append_assoc (map prop_mark s.content.properties) (marks_of_nodes s.content.children) (end_mark ∷ (s.more ++ last_mark ∷ [])))) in
    let up = ahead_of bytes node here c (h.mark ∷ e.inside) (omega arith) (passes_on strings node (from_node bytes node) next rest here (h.mark ∷ []) e.inside h.passes h.later e.first e.passes) in
    let back : drop (here - next) rest ≡ drop (here - start) block = behind_of bytes node next here rest c.from e.first h.later in (
      record {
        inside = omega arith;
        front = up.front;
        ahead = up.spelled;
        passed = e.inside;
        fronts = up.are ∙ ap (λ (m : Mark). s.before ++ m ∷ e.inside) own.0;
        over = up.front;
        beyond = subst (λ (n : ℕ). SpellsMarks strings start up.front (take n block)) (sym no_more) up.spelled;
        back = e.tokens.marks;
        behind = subst (λ (n : ℕ). SpellsMarks strings (start + (here - start) + 0) e.tokens.marks (drop n block)) (sym no_more)
            (subst (λ (n : ℕ). SpellsMarks strings n e.tokens.marks (drop (here - start) block)) (sym cut_place) (subst (SpellsMarks strings here e.tokens.marks) back e.tokens.spelled));
        left = end_mark ∷ s.more;
        backs = sym (ap without_nop_marks (lexed_is strings here e.tokens.marks (drop (here - next) rest) e.tokens.spelled)) ∙ e.behind ∙ ap (λ (x : List Mark). end_mark ∷ x) one.1;
      },
      one.0,
      refl,
    )

end_becomes : (bytes : List ℕ) (node : ℕ) (next : ℕ) (rest : List ℕ) (here : ℕ) (c : CutNode bytes node) → HeadOf (strings_of bytes) node (from_node bytes node) next rest
    → IsEndPlace (strings_of bytes) next rest here → IsEndCut bytes node (here - number bytes 8)
end_becomes bytes node next rest here c h e =
    let begun = h.begun in
    let begins = c.from in
    let first = e.first in
    let t = end_tokens bytes node next rest here c h e in
    let inside = t.0.inside in
    record {
      behind = record { begun = omega arith; inside = inside };
      becomes = λ name own more spelled.
          let place : ℕ = number bytes 8 + (here - number bytes 8) in
          let f : ℕ → ℕ = moved place 0 (length (own ++ word 2)) in
          spliced_tree bytes node (here - number bytes 8) 0 c t.0 more (own ++ word 2) (begin_mark place name ∷ end_mark ∷ []) (with_node place name)
          (own, word 2, refl, record { placed = refl; token = spelled }, (word 2, [], sym (append-nil (word 2)), record { placed = refl; token = refl }, refl))
          (node_between f place name c.stands.content.properties c.stands.content.children c.stands.more
          ∙ (λ i. map (moved_mark f) (sym t.1 i) ++ (begin_mark place name ∷ end_mark ∷ map (moved_mark f) (sym t.2 i))));
    }

-- where a child is put into the bytes from a node on
pub end_cut_is : (bytes : List ℕ) (node : ℕ) (strings left : List ℕ) (next : ℕ) (rest : List ℕ) (here : ℕ) → CutNode bytes node → strings ≡ strings_of bytes
    → left ≡ drop (node - number bytes 8) (structure_of bytes) → HeadOf strings node left next rest → IsEndPlace strings next rest here → IsEndCut bytes node (here - number bytes 8)
end_cut_is bytes node strings left next rest here c names block =
    subst (λ (s : List ℕ). HeadOf s node left next rest → IsEndPlace s next rest here → IsEndCut bytes node (here - number bytes 8)) (sym names)
    (subst (λ (l : List ℕ). HeadOf (strings_of bytes) node l next rest → IsEndPlace (strings_of bytes) next rest here → IsEndCut bytes node (here - number bytes 8)) (sym block)
    (end_becomes bytes node next rest here c))

-- what a node has stands behind its beginning
pub content_behind : (bytes : List ℕ) (node : ℕ) (strings left : List ℕ) (next : ℕ) (rest : List ℕ) → CutNode bytes node → strings ≡ strings_of bytes
    → left ≡ drop (node - number bytes 8) (structure_of bytes) → HeadOf strings node left next rest → (content : Content) × (more : List Mark) × (marks_in strings next rest ≡ marks_of_content content (end_mark ∷ more))
content_behind bytes node strings left next rest c names block =
    subst (λ (s : List ℕ). HeadOf s node left next rest → (content : Content) × (more : List Mark) × (marks_in s next rest ≡ marks_of_content content (end_mark ∷ more))) (sym names)
    (subst (λ (l : List ℕ). HeadOf (strings_of bytes) node l next rest → (content : Content) × (more : List Mark) × (marks_in (strings_of bytes) next rest ≡ marks_of_content content (end_mark ∷ more))) (sym block)
    (λ h. (c.stands.content, c.stands.more ++ last_mark ∷ [], (head_is bytes node next rest c h).1)))
