-- Tokens give back the tree, and bytes the tokens.
use Rattle.std.proofs.Common.{◌≡◌, ℕ, zero, suc, ◌+◌, ◌≤◌, List, [], ◌∷◌, ◌++◌, length, drop, Option, Some, None, refl, sym, ap, subst, ◌∙◌, arith}
use Rattle.std.proofs.lemmas.List.{length-append, drop_at}
use Rattle.dt_model.specs.Names.{Name}
use Rattle.dt_model.specs.Format.{Token, begin_node, end_node, prop, nop, end_tree, word, Spells}
use Rattle.dt_model.specs.Lexing.{token_in}
use Rattle.dt_model.proofs.Lexed.{token_again, no_token}
use Rattle.dt_trees.specs.Placed.{no_nodes}
use Rattle.dt_read.specs.Marks.{Mark, begin_mark, end_mark, prop_mark, nop_mark, last_mark, token_of, mark_at, SpellsMark, SpellsMarks, without_nop_marks}
use Rattle.dt_read.specs.Parsing.{behind, lexed, Left, begun, left_by}
use Rattle.dt_read.proofs.Tokens.{token_is}

pub left_by-without_nop_marks : (marks rest : List Mark) → left_by (without_nop_marks marks ++ rest) ≡ left_by (marks ++ rest)
left_by-without_nop_marks [] rest = refl
left_by-without_nop_marks (last_mark ∷ marks) rest = refl
left_by-without_nop_marks (nop_mark ∷ marks) rest = left_by-without_nop_marks marks rest
left_by-without_nop_marks (end_mark ∷ marks) rest = ap (λ (l : Left). record { properties = []; levels = no_nodes ∷ l.levels }) (left_by-without_nop_marks marks rest)
left_by-without_nop_marks (prop_mark p ∷ marks) rest = ap (λ (l : Left). record { properties = p ∷ l.properties; levels = l.levels }) (left_by-without_nop_marks marks rest)
left_by-without_nop_marks (begin_mark place name ∷ marks) rest = ap (λ (l : Left). record { properties = []; levels = begun place name l.properties l.levels }) (left_by-without_nop_marks marks rest)

-- ---- bytes and tokens

-- a token that is spelled is read
pub read_again : (strings : List ℕ) (at : ℕ) (mark : Mark) (own more : List ℕ) → SpellsMark strings at mark own → token_in strings (own ++ more) ≡ Some (token_of mark, length own)
read_again strings at mark own more s = token_again strings (token_of mark) own more s.token

pub place_is : (strings : List ℕ) (at place : ℕ) (name : Name) (own : List ℕ) → SpellsMark strings at (begin_mark place name) own → place ≡ at
place_is strings at place name own s = let e = s.placed in cc

-- the tokens behind the first
pub record Behind (strings : List ℕ) (at : ℕ) (bytes : List ℕ) (token : Token) (n : ℕ) (marks : List Mark) : Type 0 where
  pub later : List Mark
  pub whole : marks ≡ mark_at at token ∷ later
  pub spelled : SpellsMarks strings (at + n) later (drop n bytes)

pub first_mark : (strings : List ℕ) (at : ℕ) (bytes : List ℕ) (token : Token) (n : ℕ) → token_in strings bytes ≡ Some (token, n) → (marks : List Mark) → SpellsMarks strings at marks bytes → Behind strings at bytes token n marks
first_mark strings at bytes token n e [] s = let none = no_token strings in let same = ap (token_in strings) s in absurd cc
first_mark strings at bytes token n e (other ∷ later) s =
    let again : token_in strings bytes ≡ Some (token_of other, length s.0) = ap (token_in strings) s.2 ∙ read_again strings at other s.0 s.1 s.3 in
    let same_pair : ◌≡◌ {A = Token × ℕ} (token_of other, length s.0) (token, n) = cc in
    let same = token_is (token_of other) (length s.0) token n same_pair in
    let rest : drop n bytes ≡ s.1 = ap (drop n) s.2 ∙ drop_at s.0 s.1 n same.1 in
    record {
      later = later;
      whole = ap (λ (x : Mark). x ∷ later) (sym (s.3).placed ∙ ap (mark_at at) same.0);
      spelled = subst (λ (x : List ℕ). SpellsMarks strings (at + n) later x) (sym rest) (subst (λ (m : ℕ). SpellsMarks strings (at + m) later s.1) same.1 s.4);
    }

spelled_size : (strings : List ℕ) (token : Token) (own : List ℕ) → Spells strings token own → 4 ≤ length own
spelled_size strings (begin_node name) own s = let e = ap length s.bytes.whole in let l = length-append (word 1 ++ (name ++ 0 ∷ [])) s.bytes.padding in let m = length-append (word 1) (name ++ 0 ∷ []) in omega arith
spelled_size strings end_node own s = let e = ap length s in omega arith
spelled_size strings (prop p) own s =
    let content = word 3 ++ (word (length p.value) ++ (word s.offset ++ p.value)) in
    let e = ap length s.bytes.whole in let l = length-append content s.bytes.padding in let m = length-append (word 3) (word (length p.value) ++ (word s.offset ++ p.value)) in omega arith
spelled_size strings nop own s = let e = ap length s in omega arith
spelled_size strings end_tree own s = let e = ap length s in omega arith

pub spelled_len : (strings : List ℕ) (at : ℕ) (mark : Mark) (own : List ℕ) → SpellsMark strings at mark own → 4 ≤ length own
spelled_len strings at mark own s = spelled_size strings (token_of mark) own s.token

lexed_enough : (fuel : ℕ) (strings : List ℕ) (at : ℕ) (marks : List Mark) (bytes : List ℕ) → length bytes ≤ fuel → SpellsMarks strings at marks bytes → lexed fuel strings at bytes ≡ marks
unfolding lexed
lexed_enough zero strings at [] bytes le s = refl
lexed_enough zero strings at (mark ∷ marks) bytes le s =
    let long = spelled_len strings at mark s.0 s.3 in let e = ap length s.2 in let l = length-append s.0 s.1 in absurd (omega arith)
lexed_enough (suc fuel) strings at [] bytes le s =
    let none : token_in strings bytes ≡ None = ap (token_in strings) s ∙ no_token strings in
    ap (λ (o : Option (Token × ℕ)). behind o at (λ n. lexed fuel strings (at + n) (drop n bytes))) none
lexed_enough (suc fuel) strings at (mark ∷ marks) bytes le s =
    let again : token_in strings bytes ≡ Some (token_of mark, length s.0) = ap (token_in strings) s.2 ∙ read_again strings at mark s.0 s.1 s.3 in
    let rest : drop (length s.0) bytes ≡ s.1 = ap (drop (length s.0)) s.2 ∙ drop_at s.0 s.1 (length s.0) refl in
    let long = spelled_len strings at mark s.0 s.3 in
    let e = ap length s.2 in let l = length-append s.0 s.1 in
    ap (λ (o : Option (Token × ℕ)). behind o at (λ n. lexed fuel strings (at + n) (drop n bytes))) again
    ∙ ap (λ (x : Mark). x ∷ lexed fuel strings (at + length s.0) (drop (length s.0) bytes)) (s.3).placed
    ∙ ap (λ (x : List Mark). mark ∷ x) (ap (lexed fuel strings (at + length s.0)) rest ∙ lexed_enough fuel strings (at + length s.0) marks s.1 (omega arith) s.4)

-- reading the bytes gives the tokens that they spell
pub lexed_is : (strings : List ℕ) (at : ℕ) (marks : List Mark) (bytes : List ℕ) → SpellsMarks strings at marks bytes → lexed (length bytes) strings at bytes ≡ marks
lexed_is strings at marks bytes s = lexed_enough (length bytes) strings at marks bytes (omega arith) s
