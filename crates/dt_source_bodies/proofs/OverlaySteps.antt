-- From the steps of reading to those of an overlay's items.
use Rattle.std.proofs.Common.{◌≡◌, ℕ, ◌+◌, Bool, false, not, ◌||◌, cond, List, [], ◌∷◌, ◌++◌, drop, map, take, Option, Some, None, Result, Ok, Err, MatchResult, inl, inr, codes, refl, sym, ◌∙◌, ap, subst}
use Rattle.std.specs.Option.{option_map_or}
use Rattle.std.specs.List.{list_any}
use Rattle.std.specs.Str.{bytes_eq}
use Rattle.dt_model.specs.Names.{Name}
use Rattle.dt_model.specs.Event.{Stack}
use Rattle.dt_model.specs.Source.{by_label, Part, one, number_of, Place, block, property, base, Refusal, no_such_target, SoFar, labelled, enter, read, outside}
use Rattle.dt_model.specs.OverlaySource.{fragment_name, is_overlay_part, open_fragment, OverlayRefusal, as_any, overlay_phandle, overlay_path, OverlaySoFar, with_next, read_overlay}
use Rattle.dt_names.specs.declared.fault.Fault.{Fault}
use Rattle.dt_source_items.specs.declared.source.Piece.{Piece}
use Rattle.dt_source_items.specs.Said.{reference_of, referring, parts_said}
use Rattle.dt_source_bodies.specs.Reading.{GoesOn}
use Rattle.dt_source_bodies.specs.Refusals.{TellsRefusal}
use Rattle.dt_source_bodies.specs.OverlayReading.{TellsOverlayRefusal, OverlayGoesOn, free_number}
use Rattle.dt_source_bodies.specs.declared.reading.Reading.{Reading}

pub next_goes : (o : Result SoFar Refusal) (r : Reading) (n next : ℕ) → GoesOn o r n → OverlayGoesOn (with_next next o) r n next
next_goes (Ok s) r n next g = (g, refl)
next_goes (Err e) r n next g = absurd g

pub next_tells : (o : Result SoFar Refusal) (next : ℕ) (fault : Fault) → TellsRefusal o fault → TellsOverlayRefusal (with_next next o) fault
next_tells o next fault (at, inl memory) = (at, inl memory)
next_tells o next fault (at, inr (r, e, kind)) = (at, inr (as_any r, ap (with_next next) e, kind))

pub next_result : (o : Result SoFar Refusal) (r : Reading) (n next : ℕ) (result : Result (Unit {0}) Fault) → MatchResult result (λ _. GoesOn o r n) (TellsRefusal o) →
    MatchResult result (λ _. OverlayGoesOn (with_next next o) r n next) (TellsOverlayRefusal (with_next next o))
next_result o r n next (Ok u) g = next_goes o r n next g
next_result o r n next (Err e) t = next_tells o next e t

pub step_result : (written : List Name) (s : OverlaySoFar) (x y : Place) (r : Reading) (n : ℕ) (result : Result (Unit {0}) Fault) → x ≡ y →
    read_overlay written s x ≡ with_next s.next (read base s.source x) → MatchResult result (λ _. GoesOn (read base s.source x) r n) (TellsRefusal (read base s.source x)) →
    MatchResult result (λ _. OverlayGoesOn (read_overlay written s y) r n s.next) (TellsOverlayRefusal (read_overlay written s y))
step_result written s x y r n result same e h =
    subst (λ (z : Place). MatchResult result (λ _. OverlayGoesOn (read_overlay written s z) r n s.next) (TellsOverlayRefusal (read_overlay written s z))) same
    (subst (λ (o : Result OverlaySoFar OverlayRefusal). MatchResult result (λ _. OverlayGoesOn o r n s.next) (TellsOverlayRefusal o)) (sym e) (next_result (read base s.source x) r n s.next result h))

-- a property that an overlay may have
pub plain_property : (written : List Name) (s : OverlaySoFar) (n : Name) (v : List Part) → bytes_eq n (codes "phandle") ≡ false → list_any (λ x. not (is_overlay_part x)) v ≡ false →
    read_overlay written s (property n v) ≡ with_next s.next (read base s.source (property n v))
plain_property written s n v own fine =
    ap (λ b. cond b (Err overlay_phandle) (cond (list_any (λ x. not (is_overlay_part x)) v) (Err overlay_path) (with_next s.next (read base s.source (property n v))))) own
    ∙ ap (λ b. cond b (Err overlay_path) (with_next s.next (read base s.source (property n v)))) fine

-- ---- blocks

-- a label that the source has given
pub known_block : (written : List Name) (s : OverlaySoFar) (l : Name) (p : Stack) → labelled s.source.events l ≡ Some p →
    read_overlay written s (block (by_label l)) ≡ with_next s.next (read base s.source (block (by_label l)))
known_block written s l p e =
    ap (λ (o : Option Stack). option_map_or (λ p. with_next s.next (outside s.source.bodies (Ok (enter s.source p [])))) o (made)) e
    ∙ sym (ap (λ (o : Option Stack). with_next s.next (outside s.source.bodies (option_map_or {U = Result SoFar Refusal} (λ p. Ok (enter s.source p [])) o (Err no_such_target)))) e)
  where
    made : Result OverlaySoFar OverlayRefusal
    made = with_next (free_number written s + 1) (outside s.source.bodies (Ok (open_fragment (fragment_name (free_number written s)) (codes "target") (number_of (by_label l) ∷ []) s.source)))

-- a label of some other tree
pub unknown_block : (written : List Name) (s : OverlaySoFar) (l : Name) → labelled s.source.events l ≡ None →
    read_overlay written s (block (by_label l))
    ≡ with_next (free_number written s + 1) (outside s.source.bodies (Ok (open_fragment (fragment_name (free_number written s)) (codes "target") (number_of (by_label l) ∷ []) s.source)))
unknown_block written s l e =
    ap (λ (o : Option Stack). option_map_or (λ p. with_next s.next (outside s.source.bodies (Ok (enter s.source p [])))) o
    (with_next (free_number written s + 1) (outside s.source.bodies (Ok (open_fragment (fragment_name (free_number written s)) (codes "target") (number_of (by_label l) ∷ []) s.source))))) e

-- a new fragment's step, with the name and the value that are there
pub fragment_step : (s : OverlaySoFar) (f g m : Name) (v w : List Part) (P : Result SoFar Refusal → Type 0) → f ≡ g → v ≡ w →
    P (outside s.source.bodies (Ok (open_fragment f m v s.source))) → P (outside s.source.bodies (Ok (open_fragment g m w s.source)))
fragment_step s f g m v w P e d h = subst (λ (x : List Part). P (outside s.source.bodies (Ok (open_fragment g m x s.source)))) d (subst (λ (x : Name). P (outside s.source.bodies (Ok (open_fragment x m v s.source)))) e h)

-- ---- values

abbrev pub is_other : Part → Bool
is_other x = not (is_overlay_part x)

bytes_past : (bs : List ℕ) (rest : List Part) → list_any (λ x. not (is_overlay_part x)) (map one bs ++ rest) ≡ list_any (λ x. not (is_overlay_part x)) rest
bytes_past [] rest = refl
bytes_past (b ∷ bs) rest = bytes_past bs rest

pub bytes_fine : (bs : List ℕ) → list_any (λ x. not (is_overlay_part x)) (map one bs) ≡ false
bytes_fine [] = refl
bytes_fine (b ∷ bs) = bytes_fine bs

-- a reference that no overlay may have in a value
abbrev pub is_refused : Piece → Bool
is_refused p = not (is_overlay_part (referring p.form (reference_of p.reference)))

-- the pieces alone decide
pub by_pieces : (ps : List Piece) (bs : List ℕ) → list_any (λ x. not (is_overlay_part x)) (parts_said ps bs) ≡ list_any is_refused ps
by_pieces [] bs = bytes_fine bs
by_pieces (p ∷ ps) bs =
    bytes_past (take p.before bs) (referring p.form (reference_of p.reference) ∷ parts_said ps (drop p.before bs)) ∙ ap (λ b. is_refused p || b) (by_pieces ps (drop p.before bs))
