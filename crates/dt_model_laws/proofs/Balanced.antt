-- A body's own places, and what reading them leaves of the open bodies.
use Rattle.std.proofs.Common.{◌≡◌, List, [], ◌∷◌, ◌++◌, append_assoc, append-nil, Ok, refl, sym, ap, subst, ◌∙◌}
use Rattle.dt_model.specs.Names.{Name}
use Rattle.dt_model.specs.Source.{Place, root, block, delete_node, child, label, property, delete_property, delete_child, close, Mode, Body, SoFar, read, read_all}
use Rattle.dt_model_laws.specs.Bodies.{IsOpener, IsSimple, Inner, finished, next, nested, AreInnermost}
use Rattle.dt_model_laws.proofs.Making.{with_property, Makes, makes}
use Rattle.dt_model_laws.proofs.ReadAll.{if_read_ok}

-- ---- one more place

pub inner_append : (a own_a b own_b : List Place) → Inner a own_a → Inner b own_b → Inner (a ++ b) (own_a ++ own_b)
inner_append a own_a b own_b finished k = k
inner_append a own_a b own_b (next x inner own simple h) k = next x (inner ++ b) (own ++ own_b) simple (inner_append inner own b own_b h k)
inner_append a own_a b own_b (nested n inside its inner own h rest) k =
    let more : Inner (child n ∷ (inside ++ close ∷ (inner ++ b))) (child n ∷ (own ++ own_b)) = nested n inside its (inner ++ b) (own ++ own_b) h (inner_append inner own b own_b rest k) in
    subst (λ xs. Inner (child n ∷ xs) (child n ∷ (own ++ own_b))) (sym (append_assoc inside (close ∷ inner) b)) more

-- inside another body only a child's is opened
abbrev pub OpensIn : List Body → Place → Type 0
OpensIn [] opener = Unit {0}
OpensIn (b ∷ bs) opener = (n : Name) × (opener ≡ child n)

-- the places leave these bodies open
abbrev pub LeaveOpen : List Body → List Place → Type 0
LeaveOpen [] places = Unit {0}
LeaveOpen (b ∷ bs) places = (own : List Place) × (h : AreInnermost places own) × OpensIn bs h.opener × LeaveOpen bs h.before

abbrev opened_body : (x : Place) (done : List Place) → IsOpener x → AreInnermost (done ++ x ∷ []) []
opened_body x done opens = record { before = done; opener = x; inner = []; split = refl; opens = opens; closed = finished }

regroup : (x : List Place) (o : Place) (i : List Place) (c : Place) (j : List Place) → ((x ++ o ∷ i) ++ c ∷ j) ++ close ∷ [] ≡ x ++ o ∷ (i ++ c ∷ (j ++ close ∷ []))
regroup x o i c j = append_assoc (x ++ o ∷ i) (c ∷ j) (close ∷ []) ∙ append_assoc x (o ∷ i) (c ∷ (j ++ close ∷ []))

module _ (done : List Place) where
  leave_simple : (x : Place) (b c : Body) (bs : List Body) → IsSimple x → LeaveOpen (b ∷ bs) done → LeaveOpen (c ∷ bs) (done ++ x ∷ [])
  leave_simple x b c bs simple o =
      let h = o.1 in (
        o.0 ++ x ∷ [],
        record {
          before = h.before;
          opener = h.opener;
          inner = h.inner ++ x ∷ [];
          split = ap (λ xs. xs ++ x ∷ []) h.split ∙ append_assoc h.before (h.opener ∷ h.inner) (x ∷ []);
          opens = h.opens;
          closed = inner_append h.inner o.0 (x ∷ []) (x ∷ []) h.closed (next x [] [] simple finished);
        },
        o.2,
        o.3,
      )

  leave_close : (b : Body) (bs : List Body) → LeaveOpen (b ∷ bs) done → LeaveOpen bs (done ++ close ∷ [])
  leave_close b [] o = tt
  leave_close b (c ∷ cs) o =
      let h = o.1 in
      let outer = o.3 in
      let g = outer.1 in
      let n = o.2.0 in
      let body : List Place = child n ∷ (h.inner ++ close ∷ []) in
      let parts : done ≡ (g.before ++ g.opener ∷ g.inner) ++ child n ∷ h.inner = h.split ∙ ap (λ xs. xs ++ h.opener ∷ h.inner) g.split ∙ ap (λ x. (g.before ++ g.opener ∷ g.inner) ++ x ∷ h.inner) o.2.1 in (
        outer.0 ++ child n ∷ [],
        record {
          before = g.before;
          opener = g.opener;
          inner = g.inner ++ body;
          split = ap (λ xs. xs ++ close ∷ []) parts ∙ regroup g.before g.opener g.inner (child n) h.inner;
          opens = g.opens;
          closed = inner_append g.inner outer.0 body (child n ∷ []) g.closed (nested n h.inner o.0 [] [] h.closed finished);
        },
        outer.2,
        outer.3,
      )

  leave_made : (mode : Mode) (s t : SoFar) (x : Place) → Makes mode s x t → LeaveOpen s.bodies done → LeaveOpen t.bodies (done ++ x ∷ [])
  leave_made mode s t root m o = subst (λ (u : SoFar). LeaveOpen u.bodies (done ++ root ∷ [])) (sym m.1) ([], opened_body root done tt, tt, tt)
  leave_made mode s t (block r) m o = subst (λ (u : SoFar). LeaveOpen u.bodies (done ++ block r ∷ [])) (sym m.1.2) ([], opened_body (block r) done tt, tt, tt)
  leave_made mode s t (delete_node r) m o =
      subst (λ (u : SoFar). LeaveOpen u.bodies (done ++ delete_node r ∷ [])) (sym m.1.3) (subst (λ bs. LeaveOpen bs (done ++ delete_node r ∷ [])) (sym m.0) tt)
  leave_made mode s t (child n) m o =
      let here : LeaveOpen (m.0 ∷ m.1) done = subst (λ bs. LeaveOpen bs done) m.2 o in
      subst (λ (u : SoFar). LeaveOpen u.bodies (done ++ child n ∷ [])) (sym m.3.2) ([], opened_body (child n) done tt, (n, refl), here)
  leave_made mode s t (label l) m o =
      subst (λ (u : SoFar). LeaveOpen u.bodies (done ++ label l ∷ [])) (sym m.3.1)
      (subst (λ bs. LeaveOpen bs (done ++ label l ∷ [])) (sym m.2) (leave_simple (label l) m.0 m.0 m.1 tt (subst (λ bs. LeaveOpen bs done) m.2 o)))
  leave_made mode s t (property n v) m o =
      subst (λ (u : SoFar). LeaveOpen u.bodies (done ++ property n v ∷ [])) (sym m.3.1) (leave_simple (property n v) m.0 (with_property n m.0) m.1 tt (subst (λ bs. LeaveOpen bs done) m.2 o))
  leave_made mode s t (delete_property n) m o =
      subst (λ (u : SoFar). LeaveOpen u.bodies (done ++ delete_property n ∷ [])) (sym m.3)
      (subst (λ bs. LeaveOpen bs (done ++ delete_property n ∷ [])) (sym m.2) (leave_simple (delete_property n) m.0 m.0 m.1 tt (subst (λ bs. LeaveOpen bs done) m.2 o)))
  leave_made mode s t (delete_child n) m o =
      subst (λ (u : SoFar). LeaveOpen u.bodies (done ++ delete_child n ∷ [])) (sym m.3)
      (subst (λ bs. LeaveOpen bs (done ++ delete_child n ∷ [])) (sym m.2) (leave_simple (delete_child n) m.0 m.0 m.1 tt (subst (λ bs. LeaveOpen bs done) m.2 o)))
  leave_made mode s t close m o = subst (λ (u : SoFar). LeaveOpen u.bodies (done ++ close ∷ [])) (sym m.3) (leave_close m.0 m.1 (subst (λ bs. LeaveOpen bs done) m.2 o))

pub leave_all : (mode : Mode) (s t : SoFar) (done places : List Place) → LeaveOpen s.bodies done → read_all mode s places ≡ Ok t → LeaveOpen t.bodies (done ++ places)
leave_all mode s t done [] o e = let same : s ≡ t = cc in subst (λ (u : SoFar). LeaveOpen u.bodies (done ++ [])) same (subst (LeaveOpen s.bodies) (sym (append-nil done)) o)
leave_all mode s t done (x ∷ places) o e =
    let step = if_read_ok (read mode s x) (λ u. read_all mode u places) t e in
    subst (LeaveOpen t.bodies) (append_assoc done (x ∷ []) places)
    (leave_all mode step.0 t (done ++ x ∷ []) places (leave_made done mode s step.0 x (makes mode s x step.0 step.1) o) step.2)
