-- The two stacks before and after a turn.
use Rattle.std.proofs.Common.{true, false, true≢false, ◌==◌, ◌≡◌, ℕ, ◌+◌, List, [], ◌∷◌, ◌++◌, length, Option, Some, None, refl, sym, ◌∙◌, ap, subst, arith, length-append}
use Rattle.std.proofs.lemmas.Bool.{eqb-true}
use Rattle.dt_grammar.specs.Words.{Words}
use Rattle.dt_grammar.specs.Wanted.{Prim}
use Rattle.dt_grammar.specs.Descent.{Outcome, stuck, Descends}
use Rattle.dt_lex.specs.declared.token.Token.{Token}
use Rattle.dt_lex.specs.declared.token.TokenKind.{TokenKind}
use Rattle.dt_expr.specs.declared.step.Step.{Step}
use Rattle.dt_parse.specs.declared.expression.Pending.{Pending}
use Rattle.dt_parse.specs.declared.expression.Stage.{Stage}
use Rattle.dt_parse.specs.declared.expression.Stage.TheVariants as stage
use Rattle.dt_parse.specs.declared.expression.Turn.{Turn}
use Rattle.dt_parse.specs.Machine.{Frame, unary_frame, binary_frame, open_frame, question_frame, colon_frame, goes, stops, LeadsOn, conts_of}
use Rattle.dt_parse.specs.Turns.{turn_at, kind_in}
use Rattle.dt_parse.specs.Standing.{top_of, pending_of, stacked, AreFrames, IsDone, Behind, Pushed, Popped, After, Turning}
use Rattle.dt_parse.proofs.Turned.{turned}

top_is : (fs : List Frame) (waiting : List Pending) (top : Option Pending) → waiting ≡ stacked fs → ((ps : List Pending) (p : Pending) → waiting ≡ ps ++ p ∷ [] → top ≡ Some p) → (waiting ≡ [] → top ≡ None) → top ≡ top_of fs
top_is [] waiting top e l n = n e
top_is (f ∷ fs) waiting top e l n = l (stacked fs) (pending_of f) e

pub after_turn : {tokens : List Token} {at : Stage} {waiting : List Pending} {out : List Step} {rest : List Token} (i : Turning tokens at waiting out rest) (top : Option Pending) (k : Option TokenKind) (t : Turn)
    → ((ps : List Pending) (p : Pending) → waiting ≡ ps ++ p ∷ [] → top ≡ Some p) → (waiting ≡ [] → top ≡ None) → k ≡ kind_in rest → t ≡ turn_at at top k → After at tokens i.fs out rest t
after_turn {tokens = tokens} {at = at} {waiting = waiting} {out = out} {rest = rest} i top k t l n e f =
    let same = top_is i.fs waiting top i.stack l n in
    let path : turn_at at top k ≡ turn_at at (top_of i.fs) (kind_in rest) = λ j. turn_at at (same j) (e j) in
    subst (After at tokens i.fs out rest) (sym (f ∙ path)) (turned at tokens i.fs out rest i.frames i.stands)

not_nil : (ps : List Pending) (p : Pending) → ps ++ p ∷ [] ≡ [] → ⊥
not_nil [] p e = cc
not_nil (q ∷ ps) p e = cc

-- what stands behind an operand, where nothing is pending and where something is
pub behind_done : (tokens : List Token) (fs : List Frame) (waiting : List Pending) (out : List Step) (rest : List Token) → waiting ≡ stacked fs → waiting ≡ [] → Behind tokens fs out rest → IsDone tokens out rest
behind_done tokens [] waiting out rest e none h = h
behind_done tokens (f ∷ fs) waiting out rest e none h = absurd (not_nil (stacked fs) (pending_of f) (sym e ∙ none))

pub behind_more : (tokens : List Token) (fs : List Frame) (waiting : List Pending) (out : List Step) (rest : List Token) → waiting ≡ stacked fs → (waiting ≡ [] → ⊥) → AreFrames fs → Behind tokens fs out rest → Turning tokens stage.Operand waiting out rest
behind_more tokens [] waiting out rest e some g h = absurd (some e)
behind_more tokens (f ∷ fs) waiting out rest e some g h = record { fs = f ∷ fs; stack = e; frames = g; stands = h }

pub done_as : (tokens : List Token) (out new : List Step) (rest left : List Token) → new ≡ out → left ≡ rest → IsDone tokens out rest → IsDone tokens new left
done_as tokens out new rest left e f h = subst (λ (z : List Step). IsDone tokens z left) (sym e) (subst (IsDone tokens out) (sym f) h)

pub turning_as : (tokens : List Token) (at : Stage) (waiting others : List Pending) (out new : List Step) (rest left : List Token) → others ≡ waiting → new ≡ out → left ≡ rest → Turning tokens at waiting out rest → Turning tokens at others new left
turning_as tokens at waiting others out new rest left d e f h =
    subst (λ (z : List Pending). Turning tokens at z new left) (sym d) (subst (λ (z : List Step). Turning tokens at waiting z left) (sym e) (subst (Turning tokens at waiting out) (sym f) h))

pub pushed_turning : (tokens : List Token) (fs : List Frame) (waiting : List Pending) (out : List Step) (rest : List Token) (p : Pending) → waiting ≡ stacked fs → Pushed tokens fs out rest p → Turning tokens stage.Wanted (waiting ++ p ∷ []) out rest
pushed_turning tokens fs waiting out rest p e h = record { fs = h.frame ∷ fs; stack = λ j. e j ++ sym h.is j ∷ []; frames = h.frames; stands = h.stands }

-- what is pending below a frame
pub popped_stack : (fs : List Frame) (P : List Frame → Type 0) (waiting others : List Pending) (h : Popped fs P) → waiting ≡ stacked fs → ((ps : List Pending) (p : Pending) → waiting ≡ ps ++ p ∷ [] → others ≡ ps) → (others ≡ stacked h.others) × (length waiting ≡ length others + 1)
popped_stack fs P waiting others h e f =
    let split : waiting ≡ stacked h.others ++ pending_of h.frame ∷ [] = e ∙ ap stacked h.split in
    let same = f (stacked h.others) (pending_of h.frame) split in
    (same, ap length split ∙ length-append (stacked h.others) (pending_of h.frame ∷ []) ∙ ap (λ (z : List Pending). length z + 1) (sym same))

frames_below : (f : Frame) (fs : List Frame) → AreFrames (f ∷ fs) → AreFrames fs
frames_below (unary_frame op) fs g = g.1
frames_below (binary_frame op x) fs g = g.2
frames_below open_frame fs g = g
frames_below (question_frame c) fs g = g.1
frames_below (colon_frame c x) fs g = g.1

pub popped_frames : (fs : List Frame) (P : List Frame → Type 0) (h : Popped fs P) → AreFrames fs → AreFrames h.others
popped_frames fs P h g = frames_below h.frame h.others (subst AreFrames h.split g)

pub start_from : (s : Words) (o : Outcome) → LeadsOn (conts_of []).operand Prim s o → Descends Prim s o
start_from s o (goes x r o' d e) = subst (λ (q : Outcome). Descends Prim s q) (sym e) d
start_from s (stuck l) (stops l' d) = d

nil_of : (ps : List Pending) → length ps ≡ 0 → ps ≡ []
nil_of [] e = refl
nil_of (p ∷ ps) e = absurd (omega arith)

pub none_waits : (ps : List Pending) (n : ℕ) → n ≡ length ps → true ≡ (n == 0) → ps ≡ []
none_waits ps n l e = nil_of ps (sym l ∙ eqb-true n 0 (sym e))

pub one_waits : (ps : List Pending) (n : ℕ) → n ≡ length ps → false ≡ (n == 0) → ps ≡ [] → ⊥
one_waits ps n l e q = true≢false (sym (ap (λ (z : ℕ). z == 0) (l ∙ ap length q)) ∙ sym e)
