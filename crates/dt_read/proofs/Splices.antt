-- Tokens that are cut, put one behind the other, and moved.
use Rattle.std.proofs.Common.{◌≡◌, ℕ, ◌+◌, ◌-◌, ◌<◌, ◌≤◌, List, [], ◌∷◌, ◌++◌, length, take, drop, map, refl, sym, ap, subst, ◌∙◌, append_assoc, arith, add-zero}
use Rattle.std.proofs.lemmas.List.{length-append, length-drop, length-take-le, drop_at, take_at, drop-drop, drop-append-le, take-append-drop}
use Rattle.std.proofs.lemmas.Bool.{lt-ltb, le-ltb}
use Rattle.dt_model.specs.Format.{Token, begin_node, end_node, prop, nop, end_tree, HoldsName, Spells}
use Rattle.dt_model.specs.Names.{Name}
use Rattle.dt_read.specs.Cuts.{moved}
use Rattle.dt_read.specs.Marks.{Mark, begin_mark, end_mark, prop_mark, nop_mark, last_mark, token_of, SpellsMark, SpellsMarks}
use Rattle.dt_read.proofs.ChangedTrees.{moved_mark}
use Rattle.dt_read.proofs.Trees.{spelled_len, place_is}

-- ---- strings that grow

-- a name that strings hold is held when they grow
pub holds_still : (strings more : List ℕ) (offset : ℕ) (name : Name) → HoldsName strings offset name → HoldsName (strings ++ more) offset name
holds_still strings more offset name h =
    let long = ap length h.stands in
    let l = length-append name (0 ∷ h.rest) in
    let d = length-drop offset strings in record {
      rest = h.rest ++ more;
      stands = drop-append-le offset strings more (omega arith) ∙ ap (λ (x : List ℕ). x ++ more) h.stands ∙ append_assoc name (0 ∷ h.rest) more;
      text = h.text;
    }

spelled_still : (strings more : List ℕ) (token : Token) (own : List ℕ) → Spells strings token own → Spells (strings ++ more) token own
spelled_still strings more (begin_node name) own s = s
spelled_still strings more end_node own s = s
spelled_still strings more (prop p) own s =
    record { offset = s.offset; offset_fits = s.offset_fits; length_fits = s.length_fits; named = holds_still strings more s.offset p.name s.named; bytes = s.bytes }
spelled_still strings more nop own s = s
spelled_still strings more end_tree own s = s

pub marks_still : (strings more : List ℕ) (at : ℕ) (marks : List Mark) (bytes : List ℕ) → SpellsMarks strings at marks bytes → SpellsMarks (strings ++ more) at marks bytes
marks_still strings more at [] bytes s = s
marks_still strings more at (mark ∷ marks) bytes s =
    (s.0, s.1, s.2, record { placed = (s.3).placed; token = spelled_still strings more (token_of mark) s.0 (s.3).token }, marks_still strings more (at + length s.0) marks s.1 s.4)

-- ---- tokens one behind the other

pub marks_append : (strings : List ℕ) (at : ℕ) (ms ns : List Mark) (bs cs : List ℕ) → SpellsMarks strings at ms bs → SpellsMarks strings (at + length bs) ns cs → SpellsMarks strings at (ms ++ ns) (bs ++ cs)
marks_append strings at [] ns bs cs s t =
    let none : at + length bs ≡ at = ap (λ (x : List ℕ). at + length x) s ∙ add-zero at in
    subst (λ (x : List ℕ). SpellsMarks strings at ns (x ++ cs)) (sym s) (subst (λ (n : ℕ). SpellsMarks strings n ns cs) none t)
marks_append strings at (mark ∷ ms) ns bs cs s t =
    let size : at + length bs ≡ at + length s.0 + length s.1 = omega (arith, ap length s.2, length-append s.0 s.1) in (
      s.0,
      s.1 ++ cs,
      ap (λ (x : List ℕ). x ++ cs) s.2 ∙ append_assoc s.0 s.1 cs,
      s.3,
      marks_append strings (at + length s.0) ms ns s.1 cs s.4 (subst (λ (n : ℕ). SpellsMarks strings n ns cs) size t),
    )

-- bytes cut where tokens are cut
pub record CutMarks (strings : List ℕ) (at : ℕ) (front later : List Mark) (bytes : List ℕ) : Type 0 where
  pub skip : ℕ
  pub within : skip ≤ length bytes
  pub ahead : SpellsMarks strings at front (take skip bytes)
  pub behind : SpellsMarks strings (at + skip) later (drop skip bytes)

pub cut_marks : (strings : List ℕ) (at : ℕ) (front later : List Mark) (bytes : List ℕ) → SpellsMarks strings at (front ++ later) bytes → CutMarks strings at front later bytes
cut_marks strings at [] later bytes s =
    record { skip = 0; within = omega arith; ahead = refl; behind = subst (λ (n : ℕ). SpellsMarks strings n later bytes) (sym (add-zero at)) s }
cut_marks strings at (mark ∷ front) later bytes s =
    let l = cut_marks strings (at + length s.0) front later s.1 s.4 in
    let w = l.within in
    let e = ap length s.2 in
    let n = length-append s.0 s.1 in
    let rest : drop (length s.0 + l.skip) bytes ≡ drop l.skip s.1 = sym (drop-drop l.skip (length s.0) bytes) ∙ ap (drop l.skip) (ap (drop (length s.0)) s.2 ∙ drop_at s.0 s.1 (length s.0) refl) in
    let ahead : take (length s.0 + l.skip) bytes ≡ s.0 ++ take l.skip s.1 =
    ap (take (length s.0 + l.skip)) (s.2 ∙ ap (λ (x : List ℕ). s.0 ++ x) (sym (take-append-drop l.skip s.1)) ∙ sym (append_assoc s.0 (take l.skip s.1) (drop l.skip s.1)))
    ∙ take_at (s.0 ++ take l.skip s.1) (drop l.skip s.1) (length s.0 + l.skip) (omega (arith, length-append s.0 (take l.skip s.1), length-take-le l.skip s.1 w)) in
    record {
      skip = length s.0 + l.skip;
      within = omega arith;
      ahead = (s.0, take l.skip s.1, ahead, s.3, l.ahead);
      behind = subst (λ (x : List ℕ). SpellsMarks strings (at + (length s.0 + l.skip)) later x) (sym rest) (subst (λ (n : ℕ). SpellsMarks strings n later (drop l.skip s.1)) (omega arith) l.behind);
    }

-- ---- tokens moved

moves_on : (from was is place : ℕ) → from ≤ place → moved from was is place ≡ place + is - was
moves_on from was is place le = rw (le-ltb place from le) refl

pub stays_there : (from was is place : ℕ) → place < from → moved from was is place ≡ place
stays_there from was is place lt = rw (lt-ltb place from lt) refl

moved_token : (f : ℕ → ℕ) (mark : Mark) → token_of (moved_mark f mark) ≡ token_of mark
moved_token f (begin_mark place name) = refl
moved_token f end_mark = refl
moved_token f (prop_mark p) = refl
moved_token f nop_mark = refl
moved_token f last_mark = refl

moved_spelled : (strings : List ℕ) (from was is at : ℕ) (mark : Mark) (own : List ℕ) → from ≤ at → SpellsMark strings at mark own → SpellsMark strings (at + is - was) (moved_mark (moved from was is) mark) own
moved_spelled strings from was is at (begin_mark place name) own le s =
    let here : at ≡ place = sym (place_is strings at place name own s) in
    record { placed = ap (λ (n : ℕ). begin_mark n name) (sym (moves_on from was is at le) ∙ ap (moved from was is) here); token = s.token }
moved_spelled strings from was is at end_mark own le s = record { placed = refl; token = s.token }
moved_spelled strings from was is at (prop_mark p) own le s = record { placed = refl; token = s.token }
moved_spelled strings from was is at nop_mark own le s = record { placed = refl; token = s.token }
moved_spelled strings from was is at last_mark own le s = record { placed = refl; token = s.token }

pub marks_moved : (strings : List ℕ) (from was is at : ℕ) (marks : List Mark) (bytes : List ℕ) → from ≤ at → was ≤ at → SpellsMarks strings at marks bytes
    → SpellsMarks strings (at + is - was) (map (moved_mark (moved from was is)) marks) bytes
marks_moved strings from was is at [] bytes le less s = s
marks_moved strings from was is at (mark ∷ marks) bytes le less s =
    let on : at + length s.0 + is - was ≡ at + is - was + length s.0 = omega arith in (
      s.0,
      s.1,
      s.2,
      moved_spelled strings from was is at mark s.0 le s.3,
      subst (λ (n : ℕ). SpellsMarks strings n (map (moved_mark (moved from was is)) marks) s.1) on (marks_moved strings from was is (at + length s.0) marks s.1 (omega arith) (omega arith) s.4),
    )

-- tokens before the place from which on places move
pub marks_kept : (strings : List ℕ) (from was is at : ℕ) (marks : List Mark) (bytes : List ℕ) → at + length bytes ≤ from → SpellsMarks strings at marks bytes
    → map (moved_mark (moved from was is)) marks ≡ marks
marks_kept strings from was is at [] bytes le s = refl
marks_kept strings from was is at (mark ∷ marks) bytes le s =
    let long = spelled_len strings at mark s.0 s.3 in
    let size : length bytes ≡ length s.0 + length s.1 = ap length s.2 ∙ length-append s.0 s.1 in
    let rest = marks_kept strings from was is (at + length s.0) marks s.1 (omega arith) s.4 in
    λ i. kept mark s.3 (omega arith) i ∷ rest i
  where
    kept : (mark : Mark) → SpellsMark strings at mark s.0 → at < from → moved_mark (moved from was is) mark ≡ mark
    kept (begin_mark place name) t lt =
        let here : place ≡ at = place_is strings at place name s.0 t in
        ap (λ (n : ℕ). begin_mark n name) (stays_there from was is place (omega arith))
    kept end_mark t lt = refl
    kept (prop_mark p) t lt = refl
    kept nop_mark t lt = refl
    kept last_mark t lt = refl
