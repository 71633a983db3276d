-- The names of a tree, each once.
use Rattle.std.proofs.Common.{◌≡◌, ℕ, zero, suc, slice_get, Bool, true, false, cond, ◌||◌, List, [], ◌∷◌, ◌++◌, ◌<◌, length, map, get_or, Option, Some, None, is_some, inl, inr, refl, sym, ap, subst, ◌∙◌, arith}
use Rattle.std.specs.Prelude.{IfSome, IfNone}
use Rattle.std.specs.Borrow.{Bor}
use Rattle.std.specs.List.{AllByRecursion, list_any, position}
use Rattle.std.specs.Str.{bytes_eq}
use Rattle.std.proofs.lemmas.List.{map-append, length-map, get_or-map}
use Rattle.std.proofs.lemmas.List.Quantifiers.{position-Some}
use Rattle.dt_model.specs.Format.{IsText}
use Rattle.dt_model.specs.Lists.{IsIn}
use Rattle.dt_model.specs.Names.{Name}
use Rattle.dt_model.specs.Tree.{Property, Forest, no_nodes, branch}
use Rattle.dt_model.specs.Valid.{AreDistinct}
use Rattle.dt_model.proofs.Tests.{bytes_eq_refl, bytes_eq_true, in_right}
use Rattle.dt_model.proofs.Distinct.{distinct_append}
use Rattle.dt_write.specs.Written.{has, used, used_by, used_below}
use Rattle.dt_write.specs.Parts.{HasAll, HasBelow}
use Rattle.dt_write.proofs.Ends.{or_true}

-- ---- which names are there

pub in_from_has : (names : List Name) (n : Name) → has names n ≡ true → IsIn n names
in_from_has [] n e = absurd cc
in_from_has (m ∷ names) n e = step (bytes_eq n m) refl e (in_from_has names n)
  where
    step : (b : Bool) → bytes_eq n m ≡ b → (b || has names n) ≡ true → (has names n ≡ true → IsIn n names) → IsIn n (m ∷ names)
    step true same e more = inl (bytes_eq_true n m same)
    step false same e more = inr (more e)

has_from_in : (names : List Name) (n : Name) → IsIn n names → has names n ≡ true
has_from_in [] n i = absurd i
has_from_in (m ∷ names) n (inl same) = subst (λ (x : Name). (bytes_eq n x || has names n) ≡ true) same (rw (bytes_eq_refl n) refl)
has_from_in (m ∷ names) n (inr i) = or_true (bytes_eq n m) (has names n) (has_from_in names n i)

has_append : (names more : List Name) (n : Name) → has names n ≡ true → has (names ++ more) n ≡ true
has_append [] more n e = absurd cc
has_append (m ∷ names) more n e = step (bytes_eq n m) e (has_append names more n)
  where
    step : (b : Bool) → (b || has names n) ≡ true → (has names n ≡ true → has (names ++ more) n ≡ true) → (b || has (names ++ more) n) ≡ true
    step true e h = refl
    step false e h = h e

has_used : (names : List Name) (n : Name) → has (used names n) n ≡ true
has_used names n = step (has names n) refl
  where
    step : (b : Bool) → has names n ≡ b → has (cond b names (names ++ n ∷ [])) n ≡ true
    step true e = e
    step false e = has_from_in (names ++ n ∷ []) n (in_right n names (n ∷ []) (inl refl))

-- a name that is there is used again
pub used_already : (names : List Name) (k : ℕ) (n : Name) → k < length names → get_or names k [] ≡ n → used names n ≡ names
used_already names k n lt is = ap (λ (b : Bool). cond b names (names ++ n ∷ [])) (there names k lt is)
  where
    there : (ns : List Name) (k : ℕ) → k < length ns → get_or ns k [] ≡ n → has ns n ≡ true
    there [] k lt is = absurd (omega (arith, lt))
    there (m ∷ ns) zero lt is = subst (λ (x : Name). (bytes_eq n x || has ns n) ≡ true) (sym is) (rw (bytes_eq_refl n) refl)
    there (m ∷ ns) (suc k) lt is = or_true (bytes_eq n m) (has ns n) (there ns k (omega (arith, lt)) is)

stays_used : (names : List Name) (m n : Name) → has names n ≡ true → has (used names m) n ≡ true
stays_used names m n h = step (has names m)
  where
    step : (b : Bool) → has (cond b names (names ++ m ∷ [])) n ≡ true
    step true = h
    step false = has_append names (m ∷ []) n h

stays_used_by : (names : List Name) (ps : List Property) (n : Name) → has names n ≡ true → has (used_by names ps) n ≡ true
stays_used_by names [] n h = h
stays_used_by names (p ∷ ps) n h = stays_used_by (used names p.name) ps n (stays_used names p.name n h)

stays_used_below : (names : List Name) (f : Forest) (n : Name) → has names n ≡ true → has (used_below names f) n ≡ true
stays_used_below names no_nodes n h = h
stays_used_below names (branch name ps cs ss) n h = stays_used_below (used_below (used_by names ps) cs) ss n (stays_used_below (used_by names ps) cs n (stays_used_by names ps n h))

stay_all : (old new : List Name) → ((n : Name) → has old n ≡ true → has new n ≡ true) → (ps : List Property) → HasAll old ps → HasAll new ps
stay_all old new more [] h = tt
stay_all old new more (p ∷ ps) h = (more p.name h.0, stay_all old new more ps h.1)

stay_below : (old new : List Name) → ((n : Name) → has old n ≡ true → has new n ≡ true) → (f : Forest) → HasBelow old f → HasBelow new f
stay_below old new more no_nodes h = tt
stay_below old new more (branch name ps cs ss) h = (stay_all old new more ps h.0, stay_below old new more cs h.1, stay_below old new more ss h.2)

has_all : (names : List Name) (ps : List Property) → HasAll (used_by names ps) ps
has_all names [] = tt
has_all names (p ∷ ps) = (stays_used_by (used names p.name) ps p.name (has_used names p.name), has_all (used names p.name) ps)

pub has_below : (names : List Name) (f : Forest) → HasBelow (used_below names f) f
has_below names no_nodes = tt
has_below names (branch name ps cs ss) =
    let own = used_by names ps in
    let mid = used_below own cs in
    let all = used_below mid ss in (
      stay_all own all (λ n h. stays_used_below mid ss n (stays_used_below own cs n h)) ps (has_all names ps),
      stay_below mid all (λ n h. stays_used_below mid ss n h) cs (has_below own cs),
      has_below mid ss,
    )

-- ---- what they are

-- the names have no NUL
abbrev pub AreTexts : Forest → Type 0
AreTexts no_nodes = Unit {0}
AreTexts (branch name ps cs ss) = IsText name × AllByRecursion (λ p. IsText p.name) ps × AreTexts cs × AreTexts ss

all_push : (P : Name → Type 0) (names : List Name) (n : Name) → AllByRecursion P names → P n → AllByRecursion P (names ++ n ∷ [])
all_push P [] n h own = (own, tt)
all_push P (m ∷ names) n h own = (h.0, all_push P names n h.1 own)

texts_used : (names : List Name) (n : Name) → AllByRecursion IsText names → IsText n → AllByRecursion IsText (used names n)
texts_used names n h own = step (has names n)
  where
    step : (b : Bool) → AllByRecursion IsText (cond b names (names ++ n ∷ []))
    step true = h
    step false = all_push IsText names n h own

texts_used_by : (names : List Name) (ps : List Property) → AllByRecursion IsText names → AllByRecursion (λ p. IsText p.name) ps → AllByRecursion IsText (used_by names ps)
texts_used_by names [] h own = h
texts_used_by names (p ∷ ps) h own = texts_used_by (used names p.name) ps (texts_used names p.name h own.0) own.1

pub texts_used_below : (names : List Name) (f : Forest) → AllByRecursion IsText names → AreTexts f → AllByRecursion IsText (used_below names f)
texts_used_below names no_nodes h own = h
texts_used_below names (branch name ps cs ss) h own =
    texts_used_below (used_below (used_by names ps) cs) ss (texts_used_below (used_by names ps) cs (texts_used_by names ps h own.1) own.2) own.3

pub distinct_used : (names : List Name) (n : Name) → AreDistinct names → AreDistinct (used names n)
distinct_used names n d = step (has names n) refl
  where
    apart : has names n ≡ false → (x : Name) → IsIn x names → IsIn x (n ∷ []) → ⊥
    apart e x i (inl same) = let f = has_from_in names n (subst (λ (m : Name). IsIn m names) same i) in absurd (let g : true ≡ false = sym f ∙ e in cc)
    apart e x i (inr never) = never

    step : (b : Bool) → has names n ≡ b → AreDistinct (cond b names (names ++ n ∷ []))
    step true e = d
    step false e = distinct_append names (n ∷ []) d (tt, tt) (apart e)

distinct_by : (names : List Name) (ps : List Property) → AreDistinct names → AreDistinct (used_by names ps)
distinct_by names [] d = d
distinct_by names (p ∷ ps) d = distinct_by (used names p.name) ps (distinct_used names p.name d)

pub distinct_below : (names : List Name) (f : Forest) → AreDistinct names → AreDistinct (used_below names f)
distinct_below names no_nodes d = d
distinct_below names (branch name ps cs ss) d = distinct_below (used_below (used_by names ps) cs) ss (distinct_below (used_by names ps) cs (distinct_by names ps d))

-- ---- as keys of a set

any_key : (keys : List (Bor (List ℕ))) (n : Name) → list_any (λ (k : Bor (List ℕ)). bytes_eq n k.now) keys ≡ has (map (λ name. name.now) keys) n
any_key [] n = refl
any_key (k ∷ keys) n = ap (λ (b : Bool). bytes_eq n k.now || b) (any_key keys n)

pub one_more_key : (keys new : List (Bor (List ℕ))) (key : Bor (List ℕ)) → new ≡ cond (list_any (λ (k : Bor (List ℕ)). bytes_eq key.now k.now) keys) keys (keys ++ key ∷ [])
    → map (λ name. name.now) new ≡ used (map (λ name. name.now) keys) key.now
one_more_key keys new key e = ap (map (λ (name : Bor (List ℕ)). name.now)) e ∙ step (list_any (λ (k : Bor (List ℕ)). bytes_eq key.now k.now) keys) ∙ ap (λ (b : Bool). cond b names (names ++ key.now ∷ [])) (any_key keys key.now)
  where
    names : List Name
    names = map (λ (name : Bor (List ℕ)). name.now) keys

    step : (b : Bool) → map (λ (name : Bor (List ℕ)). name.now) (cond b keys (keys ++ key ∷ [])) ≡ cond b names (names ++ key.now ∷ [])
    step true = refl
    step false = map-append (λ (name : Bor (List ℕ)). name.now) keys (key ∷ [])

pub key_found : (keys : List (Bor (List ℕ))) (key : Bor (List ℕ)) (r : Option ℕ) → r ≡ position (λ (k : Bor (List ℕ)). bytes_eq key.now k.now) keys
    → IfSome r (λ i. (i < length (map (λ name. name.now) keys)) × (get_or (map (λ name. name.now) keys) i [] ≡ key.now))
key_found keys key None e = tt
key_found keys key (Some i) e =
    let p = position-Some (λ (k : Bor (List ℕ)). bytes_eq key.now k.now) keys i key (sym e) in (
      omega (arith, p.0, length-map keys (λ (name : Bor (List ℕ)). name.now)),
      get_or-map (λ (name : Bor (List ℕ)). name.now) keys i key [] p.0 ∙ sym (bytes_eq_true key.now (get_or keys i key).now p.1),
    )

pub key_at : (keys : List (Bor (List ℕ))) (i : ℕ) (key : Bor (List ℕ)) → slice_get keys i ≡ Some key
    → (i < length (map (λ name. name.now) keys)) × (get_or (map (λ name. name.now) keys) i [] ≡ key.now)
key_at [] i key e = cc
key_at (k ∷ keys) zero key e = let same : k ≡ key = cc in (omega arith, ap (λ (name : Bor (List ℕ)). name.now) same)
key_at (k ∷ keys) (suc i) key e = let at = key_at keys i key e in (omega (arith, at.0), at.1)

pub key_missing : (keys : List (Bor (List ℕ))) (n : Name) (r : Option ℕ) → is_some r ≡ list_any (λ (k : Bor (List ℕ)). bytes_eq n k.now) keys → IfNone r (has (map (λ name. name.now) keys) n ≡ false)
key_missing keys n None e = sym (e ∙ any_key keys n)
key_missing keys n (Some i) e = tt
