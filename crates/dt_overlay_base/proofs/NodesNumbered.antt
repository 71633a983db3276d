-- Numbers of an object's nodes, which land one after another.
use Rattle.std.proofs.Common.{◌≡◌, ℕ, Bool, true, false, cond, List, [], ◌∷◌, ◌++◌, Option, Some, None, refl, sym, ap, subst, ◌∙◌, ◌⊎◌, inl, inr, append_assoc, append-nil, true≢false}
use Rattle.std.specs.Prelude.{nat_eq}
use Rattle.std.proofs.lemmas.Bool.{eqb-true, eq-eqb}
use Rattle.std.proofs.lemmas.List.{map-append}
use Rattle.dt_model.specs.Lists.{IsIn}
use Rattle.dt_model.specs.Names.{Name}
use Rattle.dt_model.specs.Numbers.{number_in}
use Rattle.dt_model.specs.Path.{Path}
use Rattle.dt_model.specs.Tree.{Forest, Reading, Placed, preorder}
use Rattle.dt_model.proofs.Tests.{in_append}
use Rattle.dt_overlay_model.specs.Walk.{number_there, with_places}
use Rattle.dt_overlay_model.proofs.Places.{places_kept}
use Rattle.dt_trees.specs.Placed.{PlacedTree, path_at, last_name, below_at, below_in, HasPlacesApart, IsAt}
use Rattle.dt_trees.proofs.Walked.{last_of, node_before, walked_first}
use Rattle.dt_overlay_base.specs.Known.{Known, IsKnown, alone, paths_of}
use Rattle.dt_overlay_base.specs.NodeNumbers.{at_node, PutsAt, IsNumbered, AreNumbers, NumbersMore, NotesNumbers, FitBelow, has_phandle_at, paths_below, paths_in}
use Rattle.dt_overlay_base.proofs.LooksLanded.{AreLeft, with_places-append}

-- ---- numbers that fit

module _ (base : Reading) (t : PlacedTree) (numbers : List (Path × ℕ)) where
  -- they fitted before other nodes landed
  pub fitted : (nodes : List Placed) (given : List (Path × ℕ)) (k : ℕ) (q : Path) → FitBelow base t (with_places base nodes given) k q numbers → FitBelow base t given k q numbers
  fitted nodes given k q fit = record { keyed = λ r n has there. fit.keyed r n has (places_kept base nodes given (q ++ r) n there); bare = fit.bare }

  -- they fit a child
  pub fit_child : (given : List (Path × ℕ)) (k child : ℕ) (q : Path) (x : Name) → path_at t child ≡ path_at t k ++ x ∷ [] → FitBelow base t given k q numbers → FitBelow base t given child (q ++ x ∷ []) numbers
  fit_child given k child q x path fit = record {
    keyed = λ r n has there.
        let below : path_at t child ++ r ≡ path_at t k ++ x ∷ r = ap (λ (p : Path). p ++ r) path ∙ append_assoc (path_at t k) (x ∷ []) r in
        ap (number_in numbers) below
        ∙ fit.keyed (x ∷ r) n (subst (λ (p : Path). has_phandle_at t p ≡ true) below has) (ap (number_there base given) (sym (append_assoc q (x ∷ []) r)) ∙ there);
    bare = fit.bare;
  }

  -- the node's own number
  pub fit_own : (given : List (Path × ℕ)) (k n : ℕ) (q : Path) → FitBelow base t given k q numbers → has_phandle_at t (path_at t k) ≡ true → number_there base given q ≡ Some n → number_in numbers (path_at t k) ≡ Some n
  fit_own given k n q fit has there =
      ap (number_in numbers) (sym (append-nil (path_at t k)))
      ∙ fit.keyed [] n (subst (λ (p : Path). has_phandle_at t p ≡ true) (sym (append-nil (path_at t k))) has) (ap (number_there base given) (append-nil q) ∙ there)

  -- they fit the next of a node's children, where others have landed, and more will
  pub fit_next : (all done left first rest : List Placed) (given : List (Path × ℕ)) (k child : ℕ) (q : Path) (x : Name) → all ≡ done ++ left → left ≡ first ++ rest → path_at t child ≡ path_at t k ++ x ∷ []
      → FitBelow base t (with_places base all given) k q numbers → FitBelow base t (with_places base first (with_places base done given)) child (q ++ x ∷ []) numbers
  fit_next all done left first rest given k child q x whole split path fit =
      let now = with_places base first (with_places base done given) in
      let same : with_places base all given ≡ with_places base rest now =
      ap (λ (ns : List Placed). with_places base ns given) (whole ∙ ap (λ (ns : List Placed). done ++ ns) split) ∙ with_places-append base done (first ++ rest) given ∙ with_places-append base first rest (with_places base done given) in
      fit_child now k child q x path (fitted rest now k q (subst (λ (g : List (Path × ℕ)). FitBelow base t g k q numbers) same fit))

-- ---- one node after another

-- of these paths, the nodes of those that are left have no number so far, perhaps
pub record NumbersLeft (t : PlacedTree) (numbers : List (Path × ℕ)) (all left : List Path) (old now : List (ℕ × ℕ)) : Type 0 where
  pub sound : AreNumbers t numbers now
  pub own : (p : Path) → IsIn p all → IsIn p left ⊎ IsNumbered t numbers now p
  pub kept : (p : Path) → IsNumbered t numbers old p → IsNumbered t numbers now p

module _ (t : PlacedTree) (numbers : List (Path × ℕ)) where
  -- a node that gets no number has none
  pub numbered_none : (entries : List (ℕ × ℕ)) (p : Path) → AreNumbers t numbers entries → number_in numbers p ≡ None → IsNumbered t numbers entries p
  numbered_none entries p sound none k at = step (at_node entries k) refl
    where
      step : (o : Option ℕ) → at_node entries k ≡ o → at_node entries k ≡ number_in numbers p
      step None e = e ∙ sym none
      step (Some n) e = absurd (let both : None ≡ Some n = sym none ∙ sound p k n at e in cc)

  pub more_none : (entries : List (ℕ × ℕ)) (p : Path) → AreNumbers t numbers entries → number_in numbers p ≡ None → NumbersMore t numbers (p ∷ []) entries entries
  more_none entries p sound none = record {
    sound = sound;
    own = λ q i. elim i [ inl same ↦ subst (IsNumbered t numbers entries) (sym same) (numbered_none entries p sound none) | inr nowhere ↦ absurd nowhere ];
    kept = λ q h. h;
  }

  -- one that gets one has it
  pub more_put : HasPlacesApart t → (old new : List (ℕ × ℕ)) (p : Path) (node number : ℕ) → AreNumbers t numbers old → IsAt t p node → number_in numbers p ≡ Some number → PutsAt old new node number → NumbersMore t numbers (p ∷ []) old new
  more_put apart old new p node number sound at is puts = record { sound = all; own = λ q i. elim i [ inl same ↦ subst (IsNumbered t numbers new) (sym same) own | inr none ↦ absurd none ]; kept = kept }
    where
      all : AreNumbers t numbers new
      all q k n here e = by (nat_eq node k) refl (sym (puts k) ∙ e)
        where
          by : (b : Bool) → nat_eq node k ≡ b → cond b (Some number) (at_node old k) ≡ Some n → number_in numbers q ≡ Some n
          by true same f = ap (number_in numbers) (apart q p k here (at ∙ ap (λ (m : ℕ). Some m) (eqb-true node k same))) ∙ is ∙ f
          by false other f = sound q k n here f

      kept : (q : Path) → IsNumbered t numbers old q → IsNumbered t numbers new q
      kept q h k here = puts k ∙ by (nat_eq node k) refl
        where
          by : (b : Bool) → nat_eq node k ≡ b → cond b (Some number) (at_node old k) ≡ number_in numbers q
          by true same = sym is ∙ ap (number_in numbers) (apart p q k (at ∙ ap (λ (m : ℕ). Some m) (eqb-true node k same)) here)
          by false other = h k here

      own : IsNumbered t numbers new p
      own k here = puts k ∙ by (nat_eq node k) refl
        where
          by : (b : Bool) → nat_eq node k ≡ b → cond b (Some number) (at_node old k) ≡ number_in numbers p
          by true same = sym is
          by false other = absurd (true≢false (sym (eq-eqb node k (let one : Some node ≡ Some k = sym at ∙ here in cc)) ∙ other))

  pub more_behind : (first rest : List Path) (old mid new : List (ℕ × ℕ)) → NumbersMore t numbers first old mid → NumbersMore t numbers rest mid new → NumbersMore t numbers (first ++ rest) old new
  more_behind first rest old mid new more later = record {
    sound = later.sound;
    own = λ p i. elim (in_append p first rest i) [ inl here ↦ later.kept p (more.own p here) | inr behind ↦ later.own p behind ];
    kept = λ p h. later.kept p (more.kept p h);
  }

  pub numbers_begun : (all : List Path) (old : List (ℕ × ℕ)) → AreNumbers t numbers old → NumbersLeft t numbers all all old old
  numbers_begun all old sound = record { sound = sound; own = λ p i. inl i; kept = λ p h. h }

  pub numbers_on : (all left first rest : List Path) (old now next : List (ℕ × ℕ)) → left ≡ first ++ rest → NumbersLeft t numbers all left old now → NumbersMore t numbers first now next → NumbersLeft t numbers all rest old next
  numbers_on all left first rest old now next e so_far more = record {
    sound = more.sound;
    own = λ p i. elim (so_far.own p i) [
      | inl later ↦ elim (in_append p first rest (subst (IsIn p) e later)) [ inl here ↦ inr (more.own p here) | inr behind ↦ inl behind ]
      | inr done ↦ inr (more.kept p done)
    ];
    kept = λ p h. more.kept p (so_far.kept p h);
  }

  pub numbers_over : (all left : List Path) (old now : List (ℕ × ℕ)) → left ≡ [] → NumbersLeft t numbers all left old now → NumbersMore t numbers all old now
  numbers_over all left old now none so_far = record {
    sound = so_far.sound;
    own = λ p i. elim (so_far.own p i) [ inl later ↦ absurd (subst (IsIn p) none later) | inr done ↦ done ];
    kept = so_far.kept;
  }

-- ---- paths

-- those of the nodes below a node, the first of them first
pub paths_first : (t : PlacedTree) (p : Path) (k : ℕ) (x : Name) (rest : Forest) → path_at t k ≡ p ++ x ∷ [] → last_name (path_at t k) ≡ x
    → paths_of (preorder p (node_before t k rest)) ≡ paths_in t k ++ paths_of (preorder p rest)
paths_first t p k x rest path named =
    let here : p ++ last_name (path_at t k) ∷ [] ≡ path_at t k = ap (λ (y : Name). p ++ y ∷ []) named ∙ sym path in
    (λ i. here i ∷ paths_of (preorder (here i) (below_at t (path_at t k)) ++ preorder p rest))
    ∙ ap (λ (ps : List Path). path_at t k ∷ ps) (map-append (λ (n : Placed). n.path) (preorder (path_at t k) (below_at t (path_at t k))) (preorder p rest))

-- ---- nodes behind others

pub notes_behind : (base : Reading) (t : PlacedTree) (xs ys : List Placed) (k : ℕ) (q : Path) (first rest : List Path) (given : List (Path × ℕ)) (old mid new : Known) → NotesNumbers base t xs k q first given old mid
    → NotesNumbers base t ys k q rest (with_places base xs given) mid new → NotesNumbers base t (xs ++ ys) k q (first ++ rest) given old new
notes_behind base t xs ys k q first rest given old mid new notes later numbers fit sound =
    let whole : FitBelow base t (with_places base ys (with_places base xs given)) k q numbers = subst (λ (g : List (Path × ℕ)). FitBelow base t g k q numbers) (with_places-append base xs ys given) fit in
    let more = notes numbers (fitted base t numbers ys (with_places base xs given) k q whole) sound in
    more_behind t numbers first rest old.nodes mid.nodes new.nodes more (later numbers whole more.sound)

-- what is left of the nodes below a node, where its children land one after another
abbrev pub LeftNumbers : Reading → PlacedTree → ℕ → Path → List Placed → Forest → Known → Known → Type 0
LeftNumbers base t k q all left old now =
    (given : List (Path × ℕ)) (landed : List Path) → IsKnown base given landed old → (numbers : List (Path × ℕ)) → FitBelow base t (with_places base all given) k q numbers → AreNumbers t numbers old.nodes
    → NumbersLeft t numbers (paths_below t k) (paths_of (preorder (path_at t k) left)) old.nodes now.nodes

-- the next of its children lands
pub left_noted : (base : Reading) (t : PlacedTree) (k child : ℕ) (q : Path) (x : Name) (left rest : Forest) (old now new : Known) → path_at t child ≡ path_at t k ++ x ∷ [] → left ≡ node_before t child rest
    → AreLeft base (preorder q (below_in t k)) (preorder q left) old now → LeftNumbers base t k q (preorder q (below_in t k)) left old now
    → ((given : List (Path × ℕ)) (landed : List Path) → IsKnown base given landed now → NotesNumbers base t (preorder q (alone t child)) child (q ++ last_name (path_at t child) ∷ []) (paths_in t child) given now new)
    → LeftNumbers base t k q (preorder q (below_in t k)) rest old new
left_noted base t k child q x left rest old now new path split w so_far notes given landed known numbers fit sound =
    let all = preorder q (below_in t k) in
    let before = w.known given landed known in
    let named : last_name (path_at t child) ≡ x = ap last_name path ∙ last_of (path_at t k) x in
    let here : path_at t child ≡ path_at t k ++ last_name (path_at t child) ∷ [] = path ∙ ap (λ (y : Name). path_at t k ++ y ∷ []) (sym named) in
    let first : preorder q left ≡ preorder q (alone t child) ++ preorder q rest = ap (preorder q) split ∙ walked_first q t child rest in
    let done = so_far given landed known numbers fit sound in
    let more = notes (with_places base before.0 given) (landed ++ paths_of before.0) before.2 numbers
    (fit_next base t numbers all before.0 (preorder q left) (preorder q (alone t child)) (preorder q rest) given k child q (last_name (path_at t child)) before.1 first here fit) done.sound in
    numbers_on t numbers (paths_below t k) (paths_of (preorder (path_at t k) left)) (paths_in t child) (paths_of (preorder (path_at t k) rest)) old.nodes now.nodes new.nodes
    (ap (λ (f : Forest). paths_of (preorder (path_at t k) f)) split ∙ paths_first t (path_at t k) child x rest path named) done more
