-- The tokens that a walk passes.
use Rattle.std.proofs.Common.{◌≡◌, ℕ, ◌+◌, ◌-◌, ◌≤◌, List, [], ◌∷◌, ◌++◌, length, take, drop, refl, sym, ap, subst, ◌∙◌, arith}
use Rattle.std.proofs.lemmas.List.{append-nil, length-take-le}
use Rattle.std.proofs.Math.Seq.{take-add}
use Rattle.dt_model.specs.Format.{Token, begin_node, end_node, prop, nop, end_tree, Spells}
use Rattle.dt_read.specs.Cuts.{Passes}
use Rattle.dt_read.specs.Lying.{IsLater, TokenLies}
use Rattle.dt_read.specs.Marks.{Mark, token_of, mark_at, SpellsMarks, Takes, without_nop_marks}
use Rattle.dt_read.proofs.Lying.{behind_later, token_later}
use Rattle.dt_read.proofs.Nodes.{without_nop_marks-append}
use Rattle.dt_read.proofs.Splices.{marks_append}

pub passes_none : (strings : List ℕ) (at : ℕ) (bytes : List ℕ) → Passes strings at bytes at []
passes_none strings at bytes =
    let none : at - at ≡ 0 = omega arith in
    record { front = []; spelled = ap (λ (n : ℕ). take n bytes) none; are = refl }

pub token_again : (at : ℕ) (token : Token) → token_of (mark_at at token) ≡ token
token_again at (begin_node name) = refl
token_again at end_node = refl
token_again at (prop p) = refl
token_again at nop = refl
token_again at end_tree = refl

-- a walk that goes on where another one ended
pub passes_on : (strings : List ℕ) (at : ℕ) (bytes : List ℕ) (here : ℕ) (rest : List ℕ) (there : ℕ) (ms ns : List Mark) → Passes strings at bytes here ms → IsLater at bytes here rest → here ≤ there
    → Passes strings here rest there ns → Passes strings at bytes there (ms ++ ns)
passes_on strings at bytes here rest there ms ns p l le q =
    let from = l.from in
    let within = l.within in
    let reached : at + length (take (here - at) bytes) ≡ here = omega (arith, length-take-le (here - at) bytes within) in
    let second : SpellsMarks strings (at + length (take (here - at) bytes)) q.front (take (there - here) (drop (here - at) bytes)) =
    subst (λ (n : ℕ). SpellsMarks strings n q.front (take (there - here) (drop (here - at) bytes))) (sym reached)
    (subst (λ (x : List ℕ). SpellsMarks strings here q.front (take (there - here) x)) l.is q.spelled) in
    let size : here - at + (there - here) ≡ there - at = omega arith in
    let joined : take (here - at) bytes ++ take (there - here) (drop (here - at) bytes) ≡ take (there - at) bytes = sym (take-add (here - at) (there - here) bytes) ∙ ap (λ (n : ℕ). take n bytes) size in
    record {
      front = p.front ++ q.front;
      spelled = subst (SpellsMarks strings at (p.front ++ q.front)) joined (marks_append strings at p.front q.front (take (here - at) bytes) (take (there - here) (drop (here - at) bytes)) p.spelled second);
      are = without_nop_marks-append p.front q.front ∙ (λ i. p.are i ++ q.are i);
    }

-- a walk of one token
passes_one : (strings : List ℕ) (at : ℕ) (bytes : List ℕ) (token : Token) (n : ℕ) → Takes strings bytes token n → Passes strings at bytes (at + n) (without_nop_marks (mark_at at token ∷ []))
passes_one strings at bytes token n t =
    let size : at + n - at ≡ n = omega arith in
    let own : SpellsMarks strings at (mark_at at token ∷ []) (take n bytes) =
    (take n bytes, [], sym (append-nil (take n bytes)), record { placed = ap (mark_at at) (token_again at token); token = subst (λ (k : Token). Spells strings k (take n bytes)) (sym (token_again at token)) t.spelled }, refl) in
    record { front = mark_at at token ∷ []; spelled = subst (λ (k : ℕ). SpellsMarks strings at (mark_at at token ∷ []) (take k bytes)) (sym size) own; are = refl }

-- a walk with one token more
pub passes_token : (strings : List ℕ) (at : ℕ) (bytes : List ℕ) (here : ℕ) (rest : List ℕ) (token : Token) (n : ℕ) (ms : List Mark) → Passes strings at bytes here ms → IsLater at bytes here rest
    → Takes strings rest token n → Passes strings at bytes (here + n) (ms ++ without_nop_marks (mark_at here token ∷ []))
passes_token strings at bytes here rest token n ms p l t =
    passes_on strings at bytes here rest (here + n) ms (without_nop_marks (mark_at here token ∷ [])) p l (omega arith) (passes_one strings here rest token n t)

-- a walk with a NOP more
pub passes_nop : (strings : List ℕ) (at : ℕ) (bytes : List ℕ) (here : ℕ) (rest : List ℕ) (token : Token) (n : ℕ) → token ≡ nop → Passes strings at bytes here [] → IsLater at bytes here rest
    → Takes strings rest token n → Passes strings at bytes (here + n) []
passes_nop strings at bytes here rest token n is p l t =
    subst (λ (k : Token). Passes strings at bytes (here + n) (without_nop_marks (mark_at here k ∷ []))) is (passes_token strings at bytes here rest token n [] p l t)

-- the places of a token that a walk finds
pub record Found (at : ℕ) (bytes : List ℕ) (here there next : ℕ) : Type 0 where
  pub from : at ≤ here
  pub on : here ≤ there
  pub ahead : there ≤ next
  pub within : next - at ≤ length bytes

pub found_places : (strings : List ℕ) (at : ℕ) (bytes : List ℕ) (here : ℕ) (rest : List ℕ) (there : ℕ) (token : Token) (next : ℕ) (left : List ℕ) → IsLater at bytes here rest
    → TokenLies strings here rest there token next left → Found at bytes here there next
found_places strings at bytes here rest there token next left l t =
    let a = l.from in
    let b = t.later.from in
    let n = behind_later strings at bytes there token next left (token_later strings at bytes here rest there token next left l t) in
    let w = n.within in
    let e = t.behind in
    record { from = a; on = b; ahead = omega arith; within = w }

-- a walk up to a token that is found, and behind it
pub passes_found : (strings : List ℕ) (at : ℕ) (bytes : List ℕ) (here : ℕ) (rest : List ℕ) (there : ℕ) (token : Token) (next : ℕ) (left : List ℕ) (ms : List Mark) → Passes strings at bytes here ms
    → IsLater at bytes here rest → TokenLies strings here rest there token next left → Passes strings here rest there []
    → Passes strings at bytes there ms × Passes strings at bytes next (ms ++ without_nop_marks (mark_at there token ∷ []))
passes_found strings at bytes here rest there token next left ms p l t nops =
    let up : Passes strings at bytes there ms = subst (Passes strings at bytes there) (append-nil ms) (passes_on strings at bytes here rest there ms [] p l t.later.from nops) in
    let own = token_later strings at bytes here rest there token next left l t in
    (up, subst (λ (n : ℕ). Passes strings at bytes n (ms ++ without_nop_marks (mark_at there token ∷ []))) (sym own.behind) (passes_token strings at bytes there own.own token own.size ms up own.later own.takes))
