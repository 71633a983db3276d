-- Bytes that are put one behind the other.
use Rattle.std.proofs.Common.{◌≡◌, ℕ, ◌+◌, ◌<◌, ◌≤◌, true, false, Option, Some, None, codes, List, [], ◌∷◌, ◌++◌, length, take, drop, reverse, refl, sym, ap, subst, ◌∙◌, append_assoc, arith}
use Rattle.std.proofs.lemmas.List.{append-nil, length-append, length-drop, length-reverse, drop-drop, drop_at, reverse-append, reverse-reverse, take_at}
use Rattle.std.specs.Prelude.{is_some}
use Rattle.std.specs.Option.{MatchOption}
use Rattle.std.specs.Bool.{OnTrue}
use Rattle.dt_model.specs.Path.{Path, path_text}
use Rattle.dt_trees.specs.Placed.{PlacedTree, last_name, path_at, IsNode}
use Rattle.dt_trees.specs.Views.{IsAbove, AreAbove}
use Rattle.dt_view.specs.Ways.{names_text}
use Rattle.dt_view.proofs.PathTexts.{names_are, one_name_less}

-- the text is at the front, and behind it the bytes are as they were
pub record IsPut (text : List ℕ) (end : ℕ) (old new : List ℕ) : Type 0 where
  pub size : end ≡ length text
  pub room : end ≤ length old
  pub whole : new ≡ text ++ drop end old

pub same_length : (text : List ℕ) (end : ℕ) (old new : List ℕ) → IsPut text end old new → length new ≡ length old
same_length text end old new p =
    let size = p.size in
    let room = p.room in
    omega (arith, ap length p.whole, length-append text (drop end old), length-drop end old)

-- one piece more
pub one_put : (text piece : List ℕ) (end behind : ℕ) (old mid new : List ℕ) → IsPut text end old mid → behind ≡ end + length piece → behind ≤ length mid → new ≡ take end mid ++ (piece ++ drop behind mid)
    → IsPut (text ++ piece) behind old new
one_put text piece end behind old mid new p is fits e =
    let size = p.size in
    let same = same_length text end old mid p in
    let front : take end mid ≡ text = ap (take end) p.whole ∙ take_at text (drop end old) end (sym size) in
    let more : end + length piece ≡ behind = sym is in
    let rest : drop behind mid ≡ drop behind old =
    ap (λ (n : ℕ). drop n mid) is ∙ sym (drop-drop (length piece) end mid) ∙ ap (λ (l : List ℕ). drop (length piece) (drop end l)) p.whole
    ∙ ap (drop (length piece)) (drop_at text (drop end old) end (sym size)) ∙ drop-drop (length piece) end old ∙ ap (λ (n : ℕ). drop n old) more in
    record {
      size = omega (arith, length-append text piece);
      room = omega arith;
      whole = e ∙ (λ i. front i ++ (piece ++ rest i)) ∙ sym (append_assoc text piece (drop behind old));
    }

-- ---- up to a node

-- the names of the nodes from here up are left, and those below are put, the last byte first
pub record AreNamesPut (t : PlacedTree) (node here end : ℕ) (above old new : List ℕ) : Type 0 where
  pub there : IsNode t here
  pub more : AreAbove t here above
  pub text : List ℕ
  pub whole : names_text (path_at t here) ++ text ≡ names_text (path_at t node)
  pub put : IsPut (reverse text) end old new

pub nothing_put : (t : PlacedTree) (node : ℕ) (above old : List ℕ) → IsNode t node → AreAbove t node above → AreNamesPut t node node 0 above old old
nothing_put t node above old there more = record {
  there = there;
  more = more;
  text = [];
  whole = append-nil (names_text (path_at t node));
  put = record { size = refl; room = omega arith; whole = refl };
}

-- the node above, where one is
pub next_above : (t : PlacedTree) (here a : ℕ) (above : List ℕ) → above ≡ a ∷ drop 1 above → AreAbove t here above → IsAbove t here (Some a) × AreAbove t a (drop 1 above)
next_above t here a above is more = subst (AreAbove t here) is more

-- how long the names are from a node up
pub longer_by : (t : PlacedTree) (here a : ℕ) → IsAbove t here (Some a) → length (names_text (path_at t here)) ≡ length (names_text (path_at t a)) + (1 + length (last_name (path_at t here)))
longer_by t here a above =
    let less = one_name_less (path_at t here) (path_at t a) [] above.2 above.1 in
    let last = last_name (path_at t here) in
    let texts = sym less ∙ ap (λ (l : List ℕ). names_text (path_at t a) ++ (codes "/" ++ l)) (append-nil last) in
    let long = ap length (append-nil (names_text (path_at t here))) in
    omega (arith, ap length texts, long, length-append (names_text (path_at t a)) (codes "/" ++ last))

pub one_name_put : (t : PlacedTree) (node here a end mid_end behind : ℕ) (above old out mid new name : List ℕ) → name ≡ last_name (path_at t here) → above ≡ a ∷ drop 1 above → (h : AreNamesPut t node here end above old out)
    → IsPut (reverse h.text ++ reverse name) mid_end old mid → IsPut ((reverse h.text ++ reverse name) ++ codes "/") behind old new → AreNamesPut t node a behind (drop 1 above) old new
one_name_put t node here a end mid_end behind above old out mid new name is some h first both =
    let up = next_above t here a above some h.more in
    let text = codes "/" ++ (name ++ h.text) in record {
      there = up.0.0;
      more = up.1;
      text = text;
      whole =
          ap (λ (n : List ℕ). names_text (path_at t a) ++ (codes "/" ++ (n ++ h.text))) is
          ∙ one_name_less (path_at t here) (path_at t a) h.text up.0.2 up.0.1
          ∙ h.whole;
      put = subst (λ (l : List ℕ). IsPut l behind old new) (sym (reverse-append (codes "/") (name ++ h.text) ∙ ap (λ (l : List ℕ). l ++ codes "/") (reverse-append name h.text))) both;
    }

-- there is no room for a part of the names
pub no_room : (t : PlacedTree) (node here a end : ℕ) (above old out new name : List ℕ) → name ≡ last_name (path_at t here) → above ≡ a ∷ drop 1 above → (h : AreNamesPut t node here end above old out)
    → length new ≡ length out → length out < end + length name + 1 → (length old < length (names_text (path_at t node))) × (length new ≡ length old)
no_room t node here a end above old out new name is some h long lt =
    let up = next_above t here a above some h.more in
    let same = same_length (reverse h.text) end old out h.put in
    let whole = ap length h.whole in
    let both = length-append (names_text (path_at t here)) h.text in
    let own = longer_by t here a up.0 in
    let size = h.put.size in
    let turned = length-reverse h.text in
    (omega (arith, same, whole, both, own, size, turned, ap length is, lt), long ∙ same)

pub all_put : (t : PlacedTree) (node here end : ℕ) (old new : List ℕ) → (h : AreNamesPut t node here end [] old new) → IsPut (reverse (names_text (path_at t node))) end old new
all_put t node here end old new h = subst (λ (l : List ℕ). IsPut (reverse l) end old new) (ap (λ (p : Path). names_text p ++ h.text) (sym h.more) ∙ h.whole) h.put

-- ---- the whole path

pub is_root : (o : Option ℕ) (above : List ℕ) → is_some o ≡ false → MatchOption o (above ≡ []) (λ k. above ≡ k ∷ drop 1 above) → above ≡ []
is_root None above e none = none
is_root (Some k) above e some = absurd cc

pub is_below : (t : PlacedTree) (node : ℕ) (o : Option ℕ) (above : List ℕ) → is_some o ≡ true → MatchOption o (above ≡ []) (λ k. above ≡ k ∷ drop 1 above) → AreAbove t node above → path_text (path_at t node) ≡ names_text (path_at t node)
is_below t node None above e none more = absurd cc
is_below t node (Some k) above e some more = names_are (path_at t node) (next_above t node k above some more).0.2

-- the root's path
pub root_put : (r : Option ℕ) (old new text : List ℕ) → text ≡ codes "/" → MatchOption r ((length old < 1) × (new ≡ old)) (λ end. (end ≡ 1) × (end ≤ length old) × (new ≡ codes "/" ++ drop end old))
    → MatchOption r (length old < length text) (λ end. (end ≡ length text) × (end ≤ length old) × (new ≡ text ++ drop end old))
root_put None old new text e none = let room = none.0 in omega (arith, ap length e)
root_put (Some end) old new text e put = (put.0 ∙ sym (ap length e), put.1, put.2 ∙ ap (λ (l : List ℕ). l ++ drop end old) (sym e))

-- turned round, the names are the path
pub turned : (text names old mid new : List ℕ) (end : ℕ) → text ≡ names → end ≡ length names → mid ≡ reverse names ++ drop end old → new ≡ reverse (take end mid) ++ drop end mid → new ≡ text ++ drop end old
turned text names old mid new end e size put turn =
    let long : length (reverse names) ≡ end = length-reverse names ∙ sym size in
    let front : take end mid ≡ reverse names = ap (take end) put ∙ take_at (reverse names) (drop end old) end long in
    let rest : drop end mid ≡ drop end old = ap (drop end) put ∙ drop_at (reverse names) (drop end old) end long in
    turn ∙ (λ i. reverse (front i) ++ rest i) ∙ ap (λ (l : List ℕ). l ++ drop end old) (reverse-reverse names ∙ sym e)

-- a NUL behind a text
pub ended_put : (r : Option ℕ) (text : List ℕ) (end : ℕ) (old mid new : List ℕ) → IsPut text end old mid
    → MatchOption r ((length mid < end + 1) × (new ≡ mid)) (λ behind. (behind ≡ end + 1) × (behind ≤ length mid) × (new ≡ take end mid ++ (0 ∷ [] ++ drop behind mid)))
    → OnTrue (is_some r) (new ≡ (text ++ 0 ∷ []) ++ drop (length (text ++ 0 ∷ [])) old)
ended_put None text end old mid new put none = tt
ended_put (Some behind) text end old mid new put some =
    let ended = one_put text (0 ∷ []) end behind old mid new put some.0 some.1 some.2 in
    ended.whole ∙ ap (λ (n : ℕ). (text ++ 0 ∷ []) ++ drop n old) ended.size
