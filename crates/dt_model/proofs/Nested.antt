-- Places that are well nested are read in bodies that are open as they say.
use Rattle.std.proofs.Common.{◌≡◌, ◌≢◌, ℕ, suc, Bool, true, false, List, [], ◌∷◌, length, drop, Option, Some, None, Result, Ok, Err, refl, sym, subst}
use Rattle.std.specs.Prelude.{if◌then◌else◌, nat_le}
use Rattle.std.specs.Option.{option_map_or}
use Rattle.dt_model.specs.Limits.{most_names}
use Rattle.dt_model.specs.Path.{path_eq}
use Rattle.dt_model.specs.Event.{Stack, giving, undefinition, deletion}
use Rattle.dt_model.specs.Source.{Place, root, block, delete_node, child, label, property, delete_property, delete_child, close, Mode, Refusal, duplicate_property, duplicate_node, duplicate_label, no_such_target, reserved_name, too_deep, misplaced, labelled, referent, Body, SoFar, is_among, nothing, and_then, enter, outside, inside, delete_at, is_reserved, open_child, define, read, and_if_read, read_all}
use Rattle.dt_model.specs.Nested.{AtTopLevel, InBody, AreNested}

-- nothing was misplaced, and the rest closes as many bodies as are open
abbrev pub GoesOn : List Place → Result SoFar Refusal → Type 0
GoesOn rest (Ok s) = AreNested (length s.bodies) rest
GoesOn rest (Err refusal) = refusal ≢ misplaced

-- ---- one place

at_top_level : (bodies : List Body) (fits : Type 0) (rest : List Place) (answer : Result SoFar Refusal)
    → (bodies ≡ [] → fits → GoesOn rest answer) → AtTopLevel (length bodies) fits → GoesOn rest (outside bodies answer)
at_top_level [] fits rest answer f h = f refl h
at_top_level (b ∷ bs) fits rest answer f h = absurd h

in_body : (bodies : List Body) (fits : ℕ → Type 0) (rest : List Place) (answer : Body → List Body → Result SoFar Refusal)
    → ((b : Body) (bs : List Body) → bodies ≡ b ∷ bs → fits (length bs) → GoesOn rest (answer b bs)) → InBody (length bodies) fits → GoesOn rest (inside bodies answer)
in_body [] fits rest answer f h = absurd h
in_body (b ∷ bs) fits rest answer f h = f b bs refl h

-- the same bodies are open behind the place
as_many : (rest : List Place) (s : SoFar) (bodies : List Body) → s.bodies ≡ bodies → AreNested (length bodies) rest → AreNested (length s.bodies) rest
as_many rest s bodies e g = subst (λ (bs : List Body). AreNested (length bs) rest) (sym e) g

at_target : (rest : List Place) (answer : Stack → Result SoFar Refusal) → ((p : Stack) → GoesOn rest (answer p))
    → (target : Option Stack) → GoesOn rest (option_map_or answer target (Err no_such_target))
at_target rest answer f None = λ e. cc
at_target rest answer f (Some p) = f p

chosen : (rest : List Place) (x y : Result SoFar Refusal) → GoesOn rest x → GoesOn rest y → (test : Bool) → GoesOn rest (if test then x else y)
chosen rest x y f g true = f
chosen rest x y f g false = g

deleted : (rest : List Place) (s : SoFar) → AreNested (length s.bodies) rest → (p : Stack) → GoesOn rest (delete_at s p)
deleted rest s h [] = λ e. cc
deleted rest s h (x ∷ p) = h

-- a place is read as its nesting says, whatever was read before
pub read_one : (mode : Mode) (s : SoFar) (i : Place) (rest : List Place) → AreNested (length s.bodies) (i ∷ rest) → GoesOn rest (read mode s i)
read_one mode s root rest h = at_top_level s.bodies (AreNested 1 rest) rest (Ok (enter s [] [])) (λ e g. g) h
read_one mode s (block r) rest h =
    at_top_level s.bodies (AreNested 1 rest) rest (option_map_or (λ p. Ok (enter s p [])) (referent s.events r) (Err no_such_target))
    (λ e g. at_target rest (λ p. Ok (enter s p [])) (λ p. g) (referent s.events r)) h
read_one mode s (delete_node r) rest h =
    at_top_level s.bodies (AreNested 0 rest) rest (option_map_or (delete_at s) (referent s.events r) (Err no_such_target))
    (λ e g. at_target rest (delete_at s) (deleted rest s (as_many rest s [] e g)) (referent s.events r)) h
read_one mode s (child n) rest h =
    in_body s.bodies (λ outer. AreNested (suc (suc outer)) rest) rest (open_child mode s n)
    (λ b bs e g. chosen rest (Err reserved_name) _ (λ e. cc) (chosen rest (Err duplicate_node) _ (λ e. cc) (chosen rest (Err too_deep) _ (λ e. cc) g
    (nat_le most_names (length s.node))) (is_among n b.children)) (is_reserved mode s.node n)) h
read_one mode s (label l) rest h =
    in_body s.bodies (λ outer. AreNested (suc outer) rest) rest
    (λ b bs. if option_map_or (λ p. path_eq p s.node) (labelled s.events l) true then Ok (and_then s (giving l s.node)) else Err duplicate_label)
    (λ b bs e g. chosen rest (Ok (and_then s (giving l s.node))) (Err duplicate_label) (as_many rest s (b ∷ bs) e g) (λ e. cc)
    (option_map_or (λ p. path_eq p s.node) (labelled s.events l) true)) h
read_one mode s (property n v) rest h =
    in_body s.bodies (λ outer. AreNested (suc outer) rest) rest (define s n v)
    (λ b bs e g. chosen rest (Err duplicate_property) _ (λ e. cc) g (is_among n b.properties)) h
read_one mode s (delete_property n) rest h =
    in_body s.bodies (λ outer. AreNested (suc outer) rest) rest (λ b bs. Ok (and_then s (undefinition s.node n))) (λ b bs e g. as_many rest s (b ∷ bs) e g) h
read_one mode s (delete_child n) rest h =
    in_body s.bodies (λ outer. AreNested (suc outer) rest) rest (λ b bs. Ok (and_then s (deletion (n ∷ s.node)))) (λ b bs e g. as_many rest s (b ∷ bs) e g) h
read_one mode s close rest h =
    in_body s.bodies (λ outer. AreNested outer rest) rest (λ b bs. Ok (record { events = s.events; node = drop 1 s.node; bodies = bs })) (λ b bs e g. g) h

-- ---- all of them

read_rest : (rest : List Place) (next : SoFar → Result SoFar Refusal) → ((s : SoFar) → AreNested (length s.bodies) rest → GoesOn [] (next s))
    → (answer : Result SoFar Refusal) → GoesOn rest answer → GoesOn [] (and_if_read answer next)
read_rest rest next f (Ok s) g = f s g
read_rest rest next f (Err refusal) g = g

-- so are several, one after another
pub all_read : (mode : Mode) (s : SoFar) (places : List Place) → AreNested (length s.bodies) places → GoesOn [] (read_all mode s places)
all_read mode s [] h = h
all_read mode s (i ∷ is) h = read_rest is (λ t. read_all mode t is) (λ t g. all_read mode t is g) (read mode s i) (read_one mode s i is h)

none_open : (bodies : List Body) → AtTopLevel (length bodies) (Unit {0}) → bodies ≡ []
none_open [] h = refl
none_open (b ∷ bs) h = absurd h

pub never_misplaced : (mode : Mode) (places : List Place) → AreNested 0 places → read_all mode nothing places ≡ Err misplaced → ⊥
never_misplaced mode places h e = subst (GoesOn []) e (all_read mode nothing places h) refl

pub closes_all : (mode : Mode) (places : List Place) (s : SoFar) → AreNested 0 places → read_all mode nothing places ≡ Ok s → s.bodies ≡ []
closes_all mode places s h e = none_open s.bodies (subst (GoesOn []) e (all_read mode nothing places h))
