-- What is left of the names for new fragments.
use Rattle.std.proofs.Common.{◌≡◌, ℕ, zero, suc, ◌+◌, Bool, true, false, cond, List, [], ◌∷◌, map, length, drop, None, Some, slice_get, Result, Ok, Err, inl, inr, refl, sym, ◌∙◌, ap, subst, arith}
use Rattle.std.specs.Global.{Vec}
use Rattle.dt_model.specs.Names.{Name}
use Rattle.dt_model.specs.Source.{Reference, Place, root, block, delete_node, child, label, property, delete_property, delete_child, close}
use Rattle.dt_model.specs.OverlaySource.{root_children, fragment_name, free_from, OverlayRefusal, OverlaySoFar, read_overlay, and_if_read, read_overlays}
use Rattle.dt_names.specs.declared.fault.Fault.{Fault}
use Rattle.dt_source_bodies.specs.declared.arena.Arena.{Arena}
use Rattle.dt_source_bodies.specs.declared.reading.Reading.{Reading}
use Rattle.dt_source_bodies.specs.Reading.{Holds}
use Rattle.dt_source_bodies.specs.OverlayReading.{TellsOverlayRefusal, OverlayGoesOn, IsNoBlock, free_number}
use Rattle.dt_source_fragments.specs.FragmentNames.{made_names}
use Rattle.dt_source_bodies.specs.Arena.{block_references, IsArena, IsLeft, GoesOnWith}

-- what is behind some elements begins with one
past : {A B : Type 0} (f : A → B) (xs : List A) (i : ℕ) (ys : List B) → drop (suc i) (map f xs) ≡ ys → drop (i + 1) (map f xs) ≡ ys
past f xs i ys h = ap (λ k. drop k (map f xs)) (let e : i + 1 ≡ suc i = omega arith in e) ∙ h

head_there : {A B : Type 0} (f : A → B) (xs : List A) (i : ℕ) (y : B) (ys : List B) → drop i (map f xs) ≡ y ∷ ys → (x : A) × (slice_get xs i ≡ Some x) × (f x ≡ y) × (drop (suc i) (map f xs) ≡ ys)
head_there f [] i y ys h = absurd (nothing i h)
  where
    nothing : (i : ℕ) → drop i [] ≡ y ∷ ys → ⊥
    nothing zero e = cc
    nothing (suc i) e = cc
head_there f (x ∷ xs) zero y ys h = let first : f x ≡ y = cc in let rest : map f xs ≡ ys = cc in (x, refl, first, rest)
head_there f (x ∷ xs) (suc i) y ys h = head_there f xs i y ys h

-- a place that is no block uses nothing
pub no_references : (place : Place) (rest : List Place) → IsNoBlock place → block_references (place ∷ rest) ≡ block_references rest
no_references root rest h = refl
no_references (block r) rest h = absurd h
no_references (delete_node r) rest h = refl
no_references (child n) rest h = refl
no_references (label l) rest h = refl
no_references (property n v) rest h = refl
no_references (delete_property n) rest h = refl
no_references (delete_child n) rest h = refl
no_references close rest h = refl

pub left_behind : (written : List Name) (arena : Arena) (used : ℕ) (next : ℕ) (place : Place) (rest : List Place) → IsNoBlock place → IsLeft written arena used next (place ∷ rest) → IsLeft written arena used next rest
left_behind written arena used next place rest none left =
    let same = no_references place rest none in record {
      spare = left.spare;
      names = left.names ∙ ap (λ (rs : List Reference). made_names written (length rs + left.spare) next) same;
    }

-- one name for the block, and those for the places behind it
names_left : (written : List Name) (arena : Arena) (used : ℕ) (next : ℕ) (r : Reference) (rest : List Place) → (left : IsLeft written arena used next (block r ∷ rest)) →
    drop used (map (λ (v : Vec ℕ). v.items) arena.names.items)
    ≡ fragment_name (free_from written (length written) next) ∷ made_names written (length (block_references rest) + left.spare) (free_from written (length written) next + 1)
names_left written arena used next r rest left =
    left.names ∙ ap (λ (k : ℕ). made_names written k next) (let e : length (block_references (block r ∷ rest)) + left.spare ≡ suc (length (block_references rest) + left.spare) = omega arith in e)

-- the next name
pub record NextMade (written : List Name) (arena : Arena) (used : ℕ) (next : ℕ) (r : Reference) (rest : List Place) : Type 0 where
  pub name : Vec ℕ
  pub named : slice_get arena.names.items used ≡ Some name

pub next_made : (written : List Name) (arena : Arena) (used : ℕ) (next : ℕ) (r : Reference) (rest : List Place) → IsLeft written arena used next (block r ∷ rest) → NextMade written arena used next r rest
next_made written arena used next r rest left =
    let n = head_there (λ (v : Vec ℕ). v.items) arena.names.items used _ _ (names_left written arena used next r rest left) in
    record { name = n.0; named = n.1 }

-- the name is that of the first free number
pub next_name : (written : List Name) (arena : Arena) (used : ℕ) (s : OverlaySoFar) (r : Reference) (rest : List Place) (name : Vec ℕ) → IsLeft written arena used s.next (block r ∷ rest) →
    slice_get arena.names.items used ≡ Some name → name.items ≡ fragment_name (free_number written s)
next_name written arena used s r rest name left there =
    let n = head_there (λ (v : Vec ℕ). v.items) arena.names.items used _ _ (names_left written arena used s.next r rest left) in
    let at = n.1 in
    let same : n.0 ≡ name = cc in
    ap (λ (v : Vec ℕ). v.items) (sym same) ∙ n.2

-- what is left behind a block
pub left_after : (written : List Name) (arena : Arena) (used : ℕ) (s : OverlaySoFar) (r : Reference) (rest : List Place) (made : Bool) → IsLeft written arena used s.next (block r ∷ rest) →
    IsLeft written arena (cond made (used + 1) used) (cond made (free_number written s + 1) s.next) rest
left_after written arena used s r rest true left =
    let n = head_there (λ (v : Vec ℕ). v.items) arena.names.items used _ _ (names_left written arena used s.next r rest left) in
    record { spare = left.spare; names = past (λ (w : Vec ℕ). w.items) arena.names.items used _ n.3 }
left_after written arena used s r rest false left =
    record {
      spare = left.spare + 1;
      names = left.names ∙ ap (λ (k : ℕ). made_names written k s.next) (omega arith);
    }

-- ---- one item

-- after a block
pub block_goes : (written : List Name) (o : Result OverlaySoFar OverlayRefusal) (s : OverlaySoFar) (r : Reference) (rest : List Place) (new : Reading) (n : ℕ) (arena : Arena) (used : ℕ) (made : Bool) →
    IsLeft written arena used s.next (block r ∷ rest) → OverlayGoesOn o new n (cond made (free_number written s + 1) s.next) →
    GoesOnWith written o new n arena (cond made (used + 1) used) rest
block_goes written (Ok t) s r rest new n arena used made left g =
    (g.0, subst (λ (k : ℕ). IsLeft written arena (cond made (used + 1) used) k rest) (sym g.1) (left_after written arena used s r rest made left))
block_goes written (Err e) s r rest new n arena used made left g = absurd g

-- after any other place
pub other_goes : (written : List Name) (o : Result OverlaySoFar OverlayRefusal) (s : OverlaySoFar) (place : Place) (rest : List Place) (new : Reading) (n : ℕ) (arena : Arena) (used : ℕ) →
    IsNoBlock place → IsLeft written arena used s.next (place ∷ rest) → OverlayGoesOn o new n s.next → GoesOnWith written o new n arena used rest
other_goes written (Ok t) s place rest new n arena used none left g =
    (g.0, subst (λ (k : ℕ). IsLeft written arena used k rest) (sym g.1) (left_behind written arena used s.next place rest none left))
other_goes written (Err e) s place rest new n arena used none left g = absurd g

-- ---- all items

-- where what is left decides as the whole does
pub goes_with : (written : List Name) (o : Result OverlaySoFar OverlayRefusal) (r : Reading) (n : ℕ) (arena : Arena) (used : ℕ) (rest : List Place) → GoesOnWith written o r n arena used rest →
    (t : OverlaySoFar) × (o ≡ Ok t) × Holds r n t.source × IsLeft written arena used t.next rest
goes_with written (Ok t) r n arena used rest g = (t, refl, g.0, g.1)
goes_with written (Err e) r n arena used rest g = absurd g

pub tells_first : (written : List Name) (s : OverlaySoFar) (place : Place) (rest : List Place) (fault : Fault) → TellsOverlayRefusal (read_overlay written s place) fault → TellsOverlayRefusal (read_overlays written s (place ∷ rest)) fault
tells_first written s place rest fault (at, inl memory) = (at, inl memory)
tells_first written s place rest fault (at, inr (r, e, kind)) = (at, inr (r, ap (λ (o : Result OverlaySoFar OverlayRefusal). and_if_read o (λ t. read_overlays written t rest)) e, kind))

pub read_on : (written : List Name) (s t : OverlaySoFar) (place : Place) (rest : List Place) → read_overlay written s place ≡ Ok t → read_overlays written s (place ∷ rest) ≡ read_overlays written t rest
read_on written s t place rest e = ap (λ (o : Result OverlaySoFar OverlayRefusal). and_if_read o (λ t. read_overlays written t rest)) e

-- before the first item all is left
pub all_left : (places : List Place) (arena : Arena) → IsArena places arena → IsLeft (root_children None places) arena 0 0 places
all_left places arena h = record {
  spare = 0;
  names = h ∙ ap (λ (k : ℕ). made_names (root_children None places) k 0) (let e : length (block_references places) ≡ length (block_references places) + 0 = omega arith in e);
}
