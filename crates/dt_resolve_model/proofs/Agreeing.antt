-- What agrees with what, through the steps of the rules.
use Rattle.std.proofs.Common.{◌≡◌, ℕ, suc, zero, List, [], ◌∷◌, ◌++◌, take, drop, length, refl, sym, ap, subst, Option, Some, None}
use Rattle.dt_model.specs.Names.{Name}
use Rattle.dt_model.specs.Path.{Path}
use Rattle.dt_resolve_model.specs.Answers.{Answer, undetermined, refused, answer, ◌>>=◌, Agrees}
use Rattle.dt_resolve_model.specs.World.{Quad, figure, pointer, torn, Value, World}
use Rattle.dt_resolve_model.specs.Regions.{figure_of}

-- the same value
abbrev pub Same : (A : Type 0) → A → A → Type 0
Same A a b = a ≡ b

pub agree_bind : {A B C D : Type 0} (R : A → B → Type 0) (S : C → D → Type 0) (x : Answer A) (y : Answer B) (f : A → Answer C) (g : B → Answer D) → Agrees R x y → ((a : A) (b : B) → R a b → Agrees S (f a) (g b)) → Agrees S (x >>= f) (y >>= g)
agree_bind R S undetermined y f g h k = tt
agree_bind R S (refused fault) y f g h k = rw h refl
agree_bind {A} {B} {C} {D} R S (answer a) y f g h k = subst (λ (z : Answer B). Agrees S (f a) (z >>= g)) (sym h.1) (k a h.0 h.2)

pub agree_refl : {A : Type 0} (x : Answer A) → Agrees (Same A) x x
agree_refl undetermined = tt
agree_refl (refused fault) = refl
agree_refl (answer a) = (a, refl, refl)

-- the same rule after two answers that agree
pub agree_same : {A B : Type 0} (x y : Answer A) (f g : A → Answer B) → Agrees (Same A) x y → ((a : A) → Agrees (Same B) (f a) (g a)) → Agrees (Same B) (x >>= f) (y >>= g)
agree_same {A} {B} x y f g h k = agree_bind (Same A) (Same B) x y f g h (λ a b e. subst (λ (z : A). Agrees (Same B) (f a) (g z)) e (k a))

-- a cell of a meaning and the cell of a blob at its place
abbrev pub IsSeen : World → Quad → Quad → Type 0
IsSeen w (figure n) c = c ≡ figure n
IsSeen w (pointer p) c = w.node c ≡ answer p
IsSeen w torn c = Unit {0}

abbrev pub AreSeen : World → List Quad → List Quad → Type 0
AreSeen w [] [] = Unit {0}
AreSeen w [] (d ∷ ds) = ⊥
AreSeen w (c ∷ cs) [] = ⊥
AreSeen w (c ∷ cs) (d ∷ ds) = IsSeen w c d × AreSeen w cs ds

pub record IsValueSeen (w : World) (a b : Value) : Type 0 where
  pub size : b.size ≡ a.size
  pub cells : AreSeen w a.cells b.cells

abbrev pub IsMaybeSeen : World → Option Value → Option Value → Type 0
IsMaybeSeen w None None = Unit {0}
IsMaybeSeen w None (Some b) = ⊥
IsMaybeSeen w (Some a) None = ⊥
IsMaybeSeen w (Some a) (Some b) = IsValueSeen w a b

-- what the first world determines is so in the second
pub record Refines (v w : World) : Type 0 where
  pub value : (p : Path) (name : Name) → Agrees (IsMaybeSeen w) (v.value p name) (w.value p name)
  pub node : (c d : Quad) → IsSeen w c d → Agrees (Same Path) (v.node c) (w.node d)

pub seen_figure : (w : World) (c d : Quad) → IsSeen w c d → Agrees (Same ℕ) (figure_of c) (figure_of d)
seen_figure w (figure n) d h = (n, ap figure_of h, refl)
seen_figure w (pointer p) d h = tt
seen_figure w torn d h = tt

pub seen_take : (w : World) (n : ℕ) (cs ds : List Quad) → AreSeen w cs ds → AreSeen w (take n cs) (take n ds)
seen_take w zero cs ds h = tt
seen_take w (suc n) [] [] h = tt
seen_take w (suc n) [] (d ∷ ds) h = absurd h
seen_take w (suc n) (c ∷ cs) [] h = absurd h
seen_take w (suc n) (c ∷ cs) (d ∷ ds) h = (h.0, seen_take w n cs ds h.1)

pub seen_drop : (w : World) (n : ℕ) (cs ds : List Quad) → AreSeen w cs ds → AreSeen w (drop n cs) (drop n ds)
seen_drop w zero cs ds h = h
seen_drop w (suc n) [] [] h = tt
seen_drop w (suc n) [] (d ∷ ds) h = absurd h
seen_drop w (suc n) (c ∷ cs) [] h = absurd h
seen_drop w (suc n) (c ∷ cs) (d ∷ ds) h = seen_drop w n cs ds h.1

pub seen_length : (w : World) (cs ds : List Quad) → AreSeen w cs ds → length ds ≡ length cs
seen_length w [] [] h = refl
seen_length w [] (d ∷ ds) h = absurd h
seen_length w (c ∷ cs) [] h = absurd h
seen_length w (c ∷ cs) (d ∷ ds) h = ap suc (seen_length w cs ds h.1)

pub seen_append : (w : World) (cs ds cs' ds' : List Quad) → AreSeen w cs ds → AreSeen w cs' ds' → AreSeen w (cs ++ cs') (ds ++ ds')
seen_append w [] [] cs' ds' h k = k
seen_append w [] (d ∷ ds) cs' ds' h k = absurd h
seen_append w (c ∷ cs) [] cs' ds' h k = absurd h
seen_append w (c ∷ cs) (d ∷ ds) cs' ds' h k = (h.0, seen_append w cs ds cs' ds' h.1 k)
