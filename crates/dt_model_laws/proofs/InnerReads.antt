-- What reading a body's places leaves of the open bodies, and which place is a second one in its body.
use Rattle.std.proofs.Common.{◌≡◌, false, List, [], ◌∷◌, ◌++◌, drop, inl, inr, Ok, refl, sym, ap, subst, ◌∙◌}
use Rattle.dt_model.specs.Names.{Name}
use Rattle.dt_model.specs.Lists.{IsIn}
use Rattle.dt_model.specs.Source.{Place, root, block, delete_node, child, label, property, delete_property, delete_child, close, Mode, Body, SoFar, nothing, is_reserved, and_if_read, read, read_all}
use Rattle.dt_model_laws.specs.Bodies.{IsOpener, IsSimple, Inner, finished, next, nested, AreInnermost}
use Rattle.dt_model_laws.proofs.Making.{with_child, with_property, Makes, makes}
use Rattle.dt_model_laws.proofs.ReadAll.{if_read_ok}
use Rattle.dt_model_laws.proofs.Balanced.{LeaveOpen, leave_all}
use Rattle.dt_model_laws.proofs.OwnPlaces.{after_one, after}

abbrev no_names : Body
no_names = record { properties = []; children = [] }

read_append : (mode : Mode) (s t : SoFar) (xs ys : List Place) → read_all mode s (xs ++ ys) ≡ Ok t → (u : SoFar) × (read_all mode s xs ≡ Ok u) × (read_all mode u ys ≡ Ok t)
read_append mode s t [] ys h = (s, refl, h)
read_append mode s t (x ∷ xs) ys h =
    let step = if_read_ok (read mode s x) (λ u. read_all mode u (xs ++ ys)) t h in
    let rest = read_append mode step.0 t xs ys step.2 in
    (rest.0, ap (λ o. and_if_read o (λ u. read_all mode u xs)) step.1 ∙ rest.1, rest.2)

-- the places of a body, read in it, leave its node and those around it as they were
record Within (mode : Mode) (s t : SoFar) (b : Body) (bs : List Body) (own : List Place) : Type 0 where
  same : t.node ≡ s.node
  left : t.bodies ≡ after b own ∷ bs
  free : (n : Name) → IsIn (child n) own → is_reserved mode s.node n ≡ false

same_body : (bodies : List Body) (b c : Body) (bs cs : List Body) → bodies ≡ b ∷ bs → bodies ≡ c ∷ cs → (c ≡ b) × (cs ≡ bs)
same_body bodies b c bs cs h k = (cc, cc)

simple_read : (mode : Mode) (s t : SoFar) (b : Body) (bs : List Body) (x : Place) → IsSimple x → s.bodies ≡ b ∷ bs → Makes mode s x t → (t.node ≡ s.node) × (t.bodies ≡ after_one x b ∷ bs)
simple_read mode s t b bs root simple h m = absurd simple
simple_read mode s t b bs (block r) simple h m = absurd simple
simple_read mode s t b bs (delete_node r) simple h m = absurd simple
simple_read mode s t b bs (child n) simple h m = absurd simple
simple_read mode s t b bs (label l) simple h m = (ap (λ (u : SoFar). u.node) m.3.1, ap (λ (u : SoFar). u.bodies) m.3.1 ∙ h)
simple_read mode s t b bs (property n v) simple h m =
    let same = same_body s.bodies b m.0 bs m.1 h m.2 in
    (ap (λ (u : SoFar). u.node) m.3.1, ap (λ (u : SoFar). u.bodies) m.3.1 ∙ ap (λ c. with_property n c ∷ m.1) same.0 ∙ ap (λ cs. with_property n b ∷ cs) same.1)
simple_read mode s t b bs (delete_property n) simple h m = (ap (λ (u : SoFar). u.node) m.3, ap (λ (u : SoFar). u.bodies) m.3 ∙ h)
simple_read mode s t b bs (delete_child n) simple h m = (ap (λ (u : SoFar). u.node) m.3, ap (λ (u : SoFar). u.bodies) m.3 ∙ h)
simple_read mode s t b bs close simple h m = absurd simple

within : (inner own : List Place) → Inner inner own → (mode : Mode) (s t : SoFar) (b : Body) (bs : List Body) → s.bodies ≡ b ∷ bs → read_all mode s inner ≡ Ok t → Within mode s t b bs own
within inner own finished mode s t b bs h e =
    let same : s ≡ t = cc in
    record { same = sym (ap (λ (u : SoFar). u.node) same); left = ap (λ (u : SoFar). u.bodies) (sym same) ∙ h; free = λ n k. absurd k }
within inner own (next x rest others simple i) mode s t b bs h e =
    let step = if_read_ok (read mode s x) (λ u. read_all mode u rest) t e in
    let u = step.0 in
    let one = simple_read mode s u b bs x simple h (makes mode s x u step.1) in
    let more = within rest others i mode u t (after_one x b) bs one.1 step.2 in
    record {
      same = more.same ∙ one.0;
      left = more.left;
      free = λ n k. elim k [ inl c ↦ absurd (subst IsSimple (sym c) simple) | inr r ↦ ap (λ p. is_reserved mode p n) (sym one.0) ∙ more.free n r ];
    }
within inner own (nested n inside_ its rest others i j) mode s t b bs h e =
    let step = if_read_ok (read mode s (child n)) (λ u. read_all mode u (inside_ ++ close ∷ rest)) t e in
    let u = step.0 in
    let m = makes mode s (child n) u step.1 in
    let same = same_body s.bodies b m.0 bs m.1 h m.2 in
    let node_u : u.node ≡ n ∷ s.node = ap (λ (x : SoFar). x.node) m.3.2 in
    let bodies_u : u.bodies ≡ no_names ∷ with_child n b ∷ bs = ap (λ (x : SoFar). x.bodies) m.3.2 ∙ ap (λ c. no_names ∷ with_child n c ∷ m.1) same.0 ∙ ap (λ cs. no_names ∷ with_child n b ∷ cs) same.1 in
    let split = read_append mode u t inside_ (close ∷ rest) step.2 in
    let v = split.0 in
    let first = within inside_ its i mode u v no_names (with_child n b ∷ bs) bodies_u split.1 in
    let last = if_read_ok (read mode v close) (λ x. read_all mode x rest) t split.2 in
    let w = last.0 in
    let k = makes mode v close w last.1 in
    let outer = same_body v.bodies (after no_names its) k.0 (with_child n b ∷ bs) k.1 first.left k.2 in
    let node_w : w.node ≡ s.node = ap (λ (x : SoFar). x.node) k.3 ∙ ap (drop 1) (first.same ∙ node_u) in
    let bodies_w : w.bodies ≡ with_child n b ∷ bs = ap (λ (x : SoFar). x.bodies) k.3 ∙ outer.1 in
    let more = within rest others j mode w t (with_child n b) bs bodies_w last.2 in
    record {
      same = more.same ∙ node_w;
      left = more.left;
      free = λ a c. elim c [
        | inl d ↦ let an : n ≡ a = cc in subst (λ x. is_reserved mode s.node x ≡ false) an m.3.0
        | inr r ↦ ap (λ p. is_reserved mode p a) (sym node_w) ∙ more.free a r
      ];
    }

opener_read : (mode : Mode) (s t : SoFar) (x : Place) → IsOpener x → Makes mode s x t → (bs : List Body) × (t.bodies ≡ no_names ∷ bs)
opener_read mode s t root o m = ([], ap (λ (u : SoFar). u.bodies) m.1)
opener_read mode s t (block r) o m = ([], ap (λ (u : SoFar). u.bodies) m.1.2)
opener_read mode s t (delete_node r) o m = absurd o
opener_read mode s t (child n) o m = (with_child n m.0 ∷ m.1, ap (λ (u : SoFar). u.bodies) m.3.2)
opener_read mode s t (label l) o m = absurd o
opener_read mode s t (property n v) o m = absurd o
opener_read mode s t (delete_property n) o m = absurd o
opener_read mode s t (delete_child n) o m = absurd o
opener_read mode s t close o m = absurd o

-- the innermost open body has the names of its own places
pub innermost : (mode : Mode) (places own : List Place) (s : SoFar) → read_all mode nothing places ≡ Ok s → AreInnermost places own
    → (bs : List Body) × (s.bodies ≡ after no_names own ∷ bs) × ((n : Name) → IsIn (child n) own → is_reserved mode s.node n ≡ false)
innermost mode places own s e h =
    let e2 : read_all mode nothing (h.before ++ h.opener ∷ h.inner) ≡ Ok s = ap (read_all mode nothing) (sym h.split) ∙ e in
    let first = read_append mode nothing s h.before (h.opener ∷ h.inner) e2 in
    let opened = if_read_ok (read mode first.0 h.opener) (λ u. read_all mode u h.inner) s first.2 in
    let o = opener_read mode first.0 opened.0 h.opener h.opens (makes mode first.0 h.opener opened.0 opened.1) in
    let w = within h.inner own h.closed mode opened.0 s no_names o.0 o.1 opened.2 in
    (o.0, w.left, λ n k. ap (λ p. is_reserved mode p n) w.same ∙ w.free n k)

pub some_innermost : (mode : Mode) (places : List Place) (s : SoFar) (b : Body) (bs : List Body) → read_all mode nothing places ≡ Ok s → s.bodies ≡ b ∷ bs → (own : List Place) × AreInnermost places own
some_innermost mode places s b bs e h =
    let o : LeaveOpen (b ∷ bs) places = subst (λ cs. LeaveOpen cs places) h (leave_all mode nothing s [] places tt e) in
    (o.0, o.1)
