-- A walk to the END_NODE of a node.
use Rattle.std.proofs.Common.{◌≡◌, ℕ, zero, suc, ◌+◌, ◌-◌, ◌^◌, ◌<◌, ◌≤◌, List, [], ◌∷◌, ◌++◌, length, take, drop, map, Some, None, refl, sym, ap, subst, ◌∙◌, append_assoc, arith}
use Rattle.std.specs.Prelude.{option_and_then}
use Rattle.std.proofs.lemmas.List.{append-nil, length-append, length-drop, length-take-le, take-append-drop}
use Rattle.dt_model.specs.Tree.{Property}
use Rattle.std.specs.Borrow.{Bor}
use Rattle.std.proofs.lemmas.Option.{same_Some}
use Rattle.dt_model.specs.Format.{Token}
use Rattle.dt_read.specs.declared.token.Token.{Token as CodeToken}
use Rattle.dt_read.specs.declared.token.Token.TheVariants as code
use Rattle.dt_read.specs.View.{view, view_at}
use Rattle.dt_read.specs.Cuts.{Content, marks_of_content, Passes, opened, IsEndPlace}
use Rattle.dt_read.specs.Lying.{IsLater, TokenLies}
use Rattle.dt_read.specs.Marks.{Mark, begin_mark, end_mark, prop_mark, nop_mark, last_mark, token_of, mark_at, SpellsMarks, marks_of_nodes, without_nop_marks}
use Rattle.dt_trees.specs.Placed.{Nodes, no_nodes, node}
use Rattle.dt_read.specs.TreeTokens.{AreTokens, marks_in}
use Rattle.dt_read.proofs.Lying.{behind_later, later_first, later_trans, token_later}
use Rattle.dt_read.proofs.Trees.{lexed_is}
use Rattle.dt_read.proofs.Cursors.{few_marks, kept}
use Rattle.dt_read.proofs.Passing.{token_again, passes_none, passes_found}

-- ---- how many nodes are open

opened_append : (xs ys : List Mark) (depth : ℕ) → opened (xs ++ ys) depth ≡ option_and_then (opened ys) (opened xs depth)
opened_append [] ys depth = refl
opened_append (begin_mark place name ∷ xs) ys depth = opened_append xs ys (suc depth)
opened_append (end_mark ∷ xs) ys zero = refl
opened_append (end_mark ∷ xs) ys (suc depth) = opened_append xs ys depth
opened_append (prop_mark p ∷ xs) ys depth = opened_append xs ys depth
opened_append (nop_mark ∷ xs) ys depth = opened_append xs ys depth
opened_append (last_mark ∷ xs) ys depth = opened_append xs ys depth

opened_properties : (ps : List Property) (rest : List Mark) (depth : ℕ) → opened (map prop_mark ps ++ rest) depth ≡ opened rest depth
opened_properties [] rest depth = refl
opened_properties (p ∷ ps) rest depth = opened_properties ps rest depth

opened_nodes : (nodes : Nodes) (rest : List Mark) (depth : ℕ) → opened (marks_of_nodes nodes ++ rest) depth ≡ opened rest depth
opened_nodes no_nodes rest depth = refl
opened_nodes (node place name properties children siblings) rest depth =
    let regroup : (map prop_mark properties ++ (marks_of_nodes children ++ end_mark ∷ marks_of_nodes siblings)) ++ rest ≡ map prop_mark properties ++ (marks_of_nodes children ++ end_mark ∷ (marks_of_nodes siblings ++ rest)) = simp append_assoc in
    ap (λ (x : List Mark). opened x (suc depth)) regroup
    ∙ opened_properties properties (marks_of_nodes children ++ end_mark ∷ (marks_of_nodes siblings ++ rest)) (suc depth)
    ∙ opened_nodes children (end_mark ∷ (marks_of_nodes siblings ++ rest)) (suc depth)
    ∙ opened_nodes siblings rest depth

-- what a node has opens none
pub opened_content : (c : Content) (rest : List Mark) (depth : ℕ) → opened (marks_of_content c rest) depth ≡ opened rest depth
opened_content c rest depth = opened_properties c.properties (marks_of_nodes c.children ++ rest) depth ∙ opened_nodes c.children rest depth

-- the tokens before the END_NODE of a node are the same ones
pub one_end : (xs ys ms ns : List Mark) (depth : ℕ) → opened xs depth ≡ Some 0 → opened ys depth ≡ Some 0 → xs ++ end_mark ∷ ms ≡ ys ++ end_mark ∷ ns → (xs ≡ ys) × (ms ≡ ns)
one_end [] [] ms ns depth o p e = let same : ms ≡ ns = cc in (refl, same)
one_end [] (y ∷ ys) ms ns depth o p e =
    let none : depth ≡ 0 = cc in
    let head : y ≡ end_mark = cc in
    let absent : opened (end_mark ∷ ys) 0 ≡ Some 0 = (λ i. opened (sym head i ∷ ys) (sym none i)) ∙ p in
    absurd cc
one_end (x ∷ xs) [] ms ns depth o p e =
    let none : depth ≡ 0 = cc in
    let head : x ≡ end_mark = cc in
    let absent : opened (end_mark ∷ xs) 0 ≡ Some 0 = (λ i. opened (sym head i ∷ xs) (sym none i)) ∙ o in
    absurd cc
one_end (x ∷ xs) (y ∷ ys) ms ns depth o p e =
    let head : x ≡ y = cc in
    let tail : xs ++ end_mark ∷ ms ≡ ys ++ end_mark ∷ ns = cc in
    let other : opened (x ∷ ys) depth ≡ Some 0 = ap (λ (m : Mark). opened (m ∷ ys) depth) head ∙ p in
    let rest = by_mark (λ d o p. one_end xs ys ms ns d o p tail) x depth o other in
    (λ i. head i ∷ rest.0 i, rest.1)
  where
    by_mark : ((d : ℕ) → opened xs d ≡ Some 0 → opened ys d ≡ Some 0 → (xs ≡ ys) × (ms ≡ ns)) → (x : Mark) (depth : ℕ) → opened (x ∷ xs) depth ≡ Some 0 → opened (x ∷ ys) depth ≡ Some 0 → (xs ≡ ys) × (ms ≡ ns)
    by_mark later (begin_mark place name) depth o p = later (suc depth) o p
    by_mark later end_mark zero o p = absurd cc
    by_mark later end_mark (suc depth) o p = later depth o p
    by_mark later (prop_mark q) depth o p = later depth o p
    by_mark later nop_mark depth o p = later depth o p
    by_mark later last_mark depth o p = later depth o p

-- ---- the walk

-- the tokens from the front up to a place, behind which so many nodes are open
pub record Nests (strings : List ℕ) (at : ℕ) (bytes : List ℕ) (here : ℕ) (rest : List ℕ) (depth : ℕ) : Type 0 where
  pub inside : List Mark
  pub whole : marks_in strings at bytes ≡ inside ++ marks_in strings here rest
  pub open_nodes : opened inside 0 ≡ Some depth
  pub tokens : AreTokens strings here rest
  pub later : IsLater at bytes here rest
  pub passes : Passes strings at bytes here inside

pub nests_first : (strings : List ℕ) (at : ℕ) (bytes : List ℕ) → AreTokens strings at bytes → Nests strings at bytes at bytes 0
nests_first strings at bytes tokens =
    record { inside = []; whole = refl; open_nodes = refl; tokens = tokens; later = later_first at bytes; passes = passes_none strings at bytes }

-- what a look at the next token finds
pub record FindsMark (strings : List ℕ) (here : ℕ) (rest : List ℕ) (mark : Mark) (there next : ℕ) (left : List ℕ) : Type 0 where
  pub lies : TokenLies strings here rest there (token_of mark) next left
  pub nops : Passes strings here rest there []
  pub marks : marks_in strings here rest ≡ mark ∷ marks_in strings next left
  pub own : without_nop_marks (mark_at there (token_of mark) ∷ []) ≡ mark ∷ []
  pub tokens : AreTokens strings next left

-- a token that is no NOP
pub finds_mark : (strings : List ℕ) (here : ℕ) (rest : List ℕ) (token : CodeToken) (there next : ℕ) (left : List ℕ) → (token ≡ code.Nop → ⊥) → TokenLies strings here rest there (view token) next left
    → Passes strings here rest there [] → marks_in strings here rest ≡ view_at there token ∷ marks_in strings next left → AreTokens strings next left
    → FindsMark strings here rest (view_at there token) there next left
finds_mark strings here rest token there next left no_nop lies nops marks tokens =
    let again = token_again there (view token) in record {
      lies = subst (λ (t : Token). TokenLies strings here rest there t next left) (sym again) lies;
      nops = nops;
      marks = marks;
      own = ap (λ (t : Token). without_nop_marks (mark_at there t ∷ [])) again ∙ kept there token [] no_nop;
      tokens = tokens;
    }

-- a token that neither begins nor ends a node
pub level_same : (at : ℕ) (token : CodeToken) (depth : ℕ) → ((name : Bor (List ℕ)) → token ≡ code.BeginNode name → ⊥) → (token ≡ code.EndNode → ⊥) → opened (view_at at token ∷ []) depth ≡ Some depth
level_same at (code.BeginNode name) depth b e = absurd (b name refl)
level_same at code.EndNode depth b e = absurd (e refl)
level_same at (code.Property name value) depth b e = refl
level_same at code.Nop depth b e = refl
level_same at code.End depth b e = refl

pub level_down : (depth : ℕ) → 0 < depth → opened (end_mark ∷ []) depth ≡ Some (depth - 1)
level_down zero lt = absurd (omega arith)
level_down (suc depth) lt = ap (λ (n : ℕ). Some n) (omega arith)

opened_few : (ms : List Mark) (depth e : ℕ) → opened ms depth ≡ Some e → e ≤ depth + length ms
opened_few [] depth e o = let same : depth ≡ e = same_Some depth e o in omega arith
opened_few (begin_mark place name ∷ ms) depth e o = omega (arith, opened_few ms (suc depth) e o)
opened_few (end_mark ∷ ms) zero e o = absurd cc
opened_few (end_mark ∷ ms) (suc depth) e o = omega (arith, opened_few ms depth e o)
opened_few (prop_mark p ∷ ms) depth e o = omega (arith, opened_few ms depth e o)
opened_few (nop_mark ∷ ms) depth e o = omega (arith, opened_few ms depth e o)
opened_few (last_mark ∷ ms) depth e o = omega (arith, opened_few ms depth e o)

pub nests_few : (strings : List ℕ) (at : ℕ) (bytes : List ℕ) (here : ℕ) (rest : List ℕ) (depth : ℕ) → AreTokens strings at bytes → Nests strings at bytes here rest depth → depth < 2 ^ 32
nests_few strings at bytes here rest depth tokens n =
    omega (arith, few_marks strings at bytes tokens, ap (λ (x : List Mark). length x) n.whole, length-append n.inside (marks_in strings here rest), opened_few n.inside 0 depth n.open_nodes)

pub nests_more : (strings : List ℕ) (at : ℕ) (bytes : List ℕ) (here : ℕ) (rest : List ℕ) (depth : ℕ) (mark : Mark) (there next : ℕ) (left : List ℕ) (deeper : ℕ) → Nests strings at bytes here rest depth
    → FindsMark strings here rest mark there next left → opened (mark ∷ []) depth ≡ Some deeper → Nests strings at bytes next left deeper
nests_more strings at bytes here rest depth mark there next left deeper n f o =
    let both = passes_found strings at bytes here rest there (token_of mark) next left n.inside n.passes n.later f.lies f.nops in record {
      inside = n.inside ++ mark ∷ [];
      whole = n.whole ∙ ap (λ (x : List Mark). n.inside ++ x) f.marks ∙ sym (append_assoc n.inside (mark ∷ []) (marks_in strings next left));
      open_nodes = opened_append n.inside (mark ∷ []) 0 ∙ ap (option_and_then (opened (mark ∷ []))) n.open_nodes ∙ o;
      tokens = f.tokens;
      later = behind_later strings at bytes there (token_of mark) next left (token_later strings at bytes here rest there (token_of mark) next left n.later f.lies);
      passes = subst (λ (x : List Mark). Passes strings at bytes next (n.inside ++ x)) f.own both.1;
    }

-- the tokens from an END_NODE on
tokens_there : (strings : List ℕ) (here : ℕ) (rest : List ℕ) (there next : ℕ) (left : List ℕ) → AreTokens strings here rest → (f : FindsMark strings here rest end_mark there next left)
    → AreTokens strings there f.lies.own × (marks_in strings there f.lies.own ≡ end_mark ∷ marks_in strings next left)
tokens_there strings here rest there next left tokens f =
    let own = f.lies.own in
    let size = f.lies.size in
    let within = f.lies.takes.within in
    let from = f.lies.later.from in
    let inside = f.lies.later.within in
    let small = tokens.small in
    let len : length own ≡ length rest - (there - here) = ap length f.lies.later.is ∙ length-drop (there - here) rest in
    let on : next ≡ there + length (take size own) = f.lies.behind ∙ sym (ap (λ (n : ℕ). there + n) (length-take-le size own within)) in
    let later : SpellsMarks strings (there + length (take size own)) f.tokens.marks (drop size own) =
    subst (λ (n : ℕ). SpellsMarks strings n f.tokens.marks (drop size own)) on (subst (SpellsMarks strings next f.tokens.marks) f.lies.left f.tokens.spelled) in
    let spelled : SpellsMarks strings there (end_mark ∷ f.tokens.marks) own =
    (take size own, drop size own, sym (take-append-drop size own), record { placed = refl; token = f.lies.takes.spelled }, later) in (
      record { marks = end_mark ∷ f.tokens.marks; spelled = spelled; small = omega arith },
      ap without_nop_marks (lexed_is strings there (end_mark ∷ f.tokens.marks) own spelled)
          ∙ ap (λ (x : List Mark). end_mark ∷ without_nop_marks x) (sym (lexed_is strings next f.tokens.marks left f.tokens.spelled)),
    )

-- the END_NODE of the node that the walk began in
pub end_found : (strings : List ℕ) (at : ℕ) (bytes : List ℕ) (here : ℕ) (rest : List ℕ) (there next : ℕ) (left : List ℕ) → Nests strings at bytes here rest 0
    → FindsMark strings here rest end_mark there next left → IsEndPlace strings at bytes there
end_found strings at bytes here rest there next left n f =
    let both = passes_found strings at bytes here rest there (token_of end_mark) next left n.inside n.passes n.later f.lies f.nops in
    let own = later_trans at bytes here rest there f.lies.own n.later f.lies.later in
    let from = own.from in
    let within = own.within in
    let on = tokens_there strings here rest there next left n.tokens f in record {
      inside = n.inside;
      left = marks_in strings next left;
      whole = n.whole ∙ ap (λ (x : List Mark). n.inside ++ x) f.marks;
      balanced = n.open_nodes;
      passes = both.0;
      first = from;
      within = within;
      tokens = subst (AreTokens strings there) own.is on.0;
      behind = ap (marks_in strings there) (sym own.is) ∙ on.1;
    }

-- a walk can't go past the end of the node
pub ends_before : (strings : List ℕ) (at : ℕ) (bytes : List ℕ) (here : ℕ) (rest : List ℕ) (depth : ℕ) (c : Content) (more : List Mark) → Nests strings at bytes here rest depth
    → marks_in strings at bytes ≡ marks_of_content c (end_mark ∷ more) → marks_in strings here rest ≡ [] → ⊥
ends_before strings at bytes here rest depth c more n e none =
    let same : n.inside ≡ marks_of_content c (end_mark ∷ more) = sym (append-nil n.inside) ∙ ap (λ (x : List Mark). n.inside ++ x) (sym none) ∙ sym n.whole ∙ e in
    let absent : opened (marks_of_content c (end_mark ∷ more)) 0 ≡ None = opened_content c (end_mark ∷ more) 0 in
    let both : Some depth ≡ None = sym n.open_nodes ∙ ap (λ (x : List Mark). opened x 0) same ∙ absent in
    cc
