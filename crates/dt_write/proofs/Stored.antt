-- The names that are stored, one after the other, and the offsets of all.
use Rattle.std.proofs.Common.{◌≡◌, ◌≢◌, ℕ, ◌+◌, ◌-◌, ◌<◌, ◌≤◌, Bool, true, false, cond, ◌||◌, List, [], ◌∷◌, ◌++◌, length, take, drop, get_or, inl, refl, sym, ap, subst, ◌∙◌, append_assoc, arith}
use Rattle.std.specs.Prelude.{nat_lt}
use Rattle.std.specs.Borrow.{Bor}
use Rattle.std.specs.List.{flat_map, list_any, AllByRecursion}
use Rattle.std.specs.Str.{bytes_eq}
use Rattle.std.proofs.lemmas.List.{append-nil, length-append, length_push, take-append-drop, take_at, take_all, take_more, get_or_at, get_or_push, get_or_append_left, get_or_default, length-map}
use Rattle.std.proofs.lemmas.List.Concat.{flat_map-append}
use Rattle.dt_model.specs.Format.{IsText}
use Rattle.dt_model.specs.Lists.{IsIn}
use Rattle.dt_model.specs.Names.{Name}
use Rattle.dt_model.specs.Valid.{AreDistinct}
use Rattle.dt_model.proofs.Tests.{bytes_eq_true, each_in, in_right}
use Rattle.dt_model_format.specs.Strings.{terminated}
use Rattle.dt_write.specs.Written.{is_end, kept_of, strings_block, offset_of}
use Rattle.dt_write.specs.Sharing.{ends, IsHolder, IsInFirst}
use Rattle.dt_write.specs.Rows.{AreHolders, AreStarts}
use Rattle.dt_write.proofs.Ends.{Ends, ends_of}
use Rattle.dt_write.proofs.Kept.{offset_in_first}
use Rattle.dt_write.proofs.Shortest.{not_end}
use Rattle.dt_write.proofs.Holders.{names_of_all, lent_at, in_at, one_place}

pub kept-append : (all xs ys : List Name) → kept_of all (xs ++ ys) ≡ kept_of all xs ++ kept_of all ys
kept-append all [] ys = refl
kept-append all (x ∷ xs) ys = step (list_any (is_end x) all) (kept-append all xs ys)
  where
    step : (b : Bool) → kept_of all (xs ++ ys) ≡ kept_of all xs ++ kept_of all ys → cond b (kept_of all (xs ++ ys)) (x ∷ kept_of all (xs ++ ys)) ≡ cond b (kept_of all xs) (x ∷ kept_of all xs) ++ kept_of all ys
    step true h = h
    step false h = ap (λ (l : List Name). x ∷ l) h

-- how many bytes the stored names of some take
abbrev pub taken_by : List Name → List Name → ℕ
taken_by all some = length (flat_map terminated (kept_of all some))

taken-append : (all xs ys : List Name) → taken_by all (xs ++ ys) ≡ taken_by all xs + taken_by all ys
taken-append all xs ys =
    ap (λ (l : List Name). length (flat_map terminated l)) (kept-append all xs ys) ∙ ap length (flat_map-append terminated (kept_of all xs) (kept_of all ys))
    ∙ length-append (flat_map terminated (kept_of all xs)) (flat_map terminated (kept_of all ys))

one_kept : (all : List Name) (x : Name) → list_any (is_end x) all ≡ false → kept_of all (x ∷ []) ≡ x ∷ []
one_kept all x e = rw e refl

none_kept : (all : List Name) (x : Name) → list_any (is_end x) all ≡ true → kept_of all (x ∷ []) ≡ []
none_kept all x e = rw e refl

one_taken : (all : List Name) (x : Name) → list_any (is_end x) all ≡ false → taken_by all (x ∷ []) ≡ length x + 1
one_taken all x e = ap (λ (l : List Name). length (flat_map terminated l)) (one_kept all x e) ∙ omega (arith, length-append (terminated x) [], length-append x (0 ∷ []))

-- ---- which are stored

pub own_stored : (names : List Name) (holders : List ℕ) (i : ℕ) → AreHolders names holders → i < length names → get_or holders i 0 ≡ i → list_any (is_end (get_or names i [])) names ≡ false
own_stored names holders i are lt e =
    let h = are.each i lt in
    let at : get_or names i [] ≡ h.holder = ap (λ (l : List Name). get_or l i []) h.all ∙ get_or_at h.before h.holder h.behind [] i (sym h.numbered ∙ e) in
    subst (λ (n : Name). list_any (is_end n) names ≡ false) (sym at) h.stored

pub other_stored : (names : List Name) (holders : List ℕ) (i : ℕ) → AreDistinct names → AreHolders names holders → i < length names → get_or holders i 0 ≢ i → list_any (is_end (get_or names i [])) names ≡ true
other_stored names holders i distinct are lt differs = by (list_any (is_end x) names) refl
  where
    x : Name
    x = get_or names i []

    h : IsHolder names x (get_or holders i 0)
    h = are.each i lt

    there : IsIn h.holder names
    there = subst (IsIn h.holder) (sym h.all) (in_right h.holder h.before (h.holder ∷ h.behind) (inl refl))

    same : (b : Bool) → list_any (is_end x) names ≡ false → bytes_eq x h.holder ≡ b → (b || is_end x h.holder) ≡ true → x ≡ h.holder
    same true k e f = bytes_eq_true x h.holder e
    same false k e f = absurd (let g : true ≡ false = sym f ∙ not_end x h.holder names there k in cc)

    by : (b : Bool) → list_any (is_end x) names ≡ b → list_any (is_end x) names ≡ true
    by true e = e
    by false e =
        let place : get_or holders i 0 < length names = omega (arith, h.numbered, ap length h.all, length-append h.before (h.holder ∷ h.behind)) in
        let at : get_or names (get_or holders i 0) [] ≡ h.holder = ap (λ (l : List Name). get_or l (get_or holders i 0) []) h.all ∙ get_or_at h.before h.holder h.behind [] (get_or holders i 0) (sym h.numbered) in
        absurd (differs (one_place names (get_or holders i 0) i [] distinct place lt (at ∙ sym (same (bytes_eq x h.holder) e refl h.ended))))

-- ---- storing one after the other

-- of so many names: where each starts, and how many bytes the stored ones take
pub record AreStored (names : List Name) (count : ℕ) (starts : List ℕ) (bytes : ℕ) : Type 0 where
  pub begun : length starts ≡ count
  pub each : (i : ℕ) → i < count → get_or starts i 0 ≡ taken_by names (take i names)
  pub size : bytes ≡ taken_by names (take count names)
  pub short : bytes ≤ 16777216

pub none_stored : (names : List Name) → AreStored names 0 [] 0
none_stored names = record { begun = refl; each = λ i lt. absurd (omega (arith, lt)); size = refl; short = omega arith }

starts_more : (names : List Name) (count : ℕ) (starts : List ℕ) (size : ℕ) → AreStored names count starts size → (i : ℕ) → i < count + 1 → get_or (starts ++ size ∷ []) i 0 ≡ taken_by names (take i names)
starts_more names count starts size so_far i lt = by (nat_lt i count) refl
  where
    by : (b : Bool) → nat_lt i count ≡ b → get_or (starts ++ size ∷ []) i 0 ≡ taken_by names (take i names)
    by true e = let less : i < count = grind (arith, e) in get_or_append_left starts (size ∷ []) 0 i (omega (arith, less, so_far.begun)) ∙ so_far.each i less
    by false e =
        let is : i ≡ count = grind (arith, e, lt) in
        get_or_push starts size 0 i (so_far.begun ∙ sym is) ∙ so_far.size ∙ ap (λ (k : ℕ). taken_by names (take k names)) (sym is)

more_taken : (names : List Name) (i : ℕ) → i < length names → taken_by names (take (i + 1) names) ≡ taken_by names (take i names) + taken_by names (get_or names i [] ∷ [])
more_taken names i lt = ap (taken_by names) (take_more names i [] lt) ∙ taken-append names (take i names) (get_or names i [] ∷ [])

pub one_stored : (names : List Name) (i : ℕ) (x : Name) (starts : List ℕ) (size : ℕ) → i < length names → get_or names i [] ≡ x → list_any (is_end x) names ≡ false → size + (length x + 1) ≤ 16777216
    → AreStored names i starts size → AreStored names (i + 1) (starts ++ size ∷ []) (size + (length x + 1))
one_stored names i x starts size lt at e fits so_far = record {
  begun = length_push starts size ∙ ap (λ (k : ℕ). k + 1) so_far.begun;
  each = starts_more names i starts size so_far;
  size = omega (arith, so_far.size, more_taken names i lt, ap (λ (n : Name). taken_by names (n ∷ [])) at, one_taken names x e);
  short = fits;
}

pub one_passed : (names : List Name) (i : ℕ) (starts : List ℕ) (size : ℕ) → i < length names → list_any (is_end (get_or names i [])) names ≡ true → AreStored names i starts size → AreStored names (i + 1) (starts ++ size ∷ []) size
one_passed names i starts size lt e so_far = record {
  begun = length_push starts size ∙ ap (λ (k : ℕ). k + 1) so_far.begun;
  each = starts_more names i starts size so_far;
  size = omega (arith, so_far.size, more_taken names i lt, ap (λ (l : List Name). length (flat_map terminated l)) (none_kept names (get_or names i []) e));
  short = so_far.short;
}

-- with the next one the names that are stored are no more than all
pub no_more_than_all : (names : List Name) (i : ℕ) (starts : List ℕ) (size : ℕ) → i < length names → list_any (is_end (get_or names i [])) names ≡ false → AreStored names i starts size
    → size + (length (get_or names i []) + 1) ≤ length (strings_block names)
no_more_than_all names i starts size lt e so_far =
    let x = get_or names i [] in
    let split : taken_by names names ≡ taken_by names (take (i + 1) names) + taken_by names (drop (i + 1) names) = ap (taken_by names) (sym (take-append-drop (i + 1) names)) ∙ taken-append names (take (i + 1) names) (drop (i + 1) names) in
    omega (arith, so_far.size, more_taken names i lt, one_taken names x e, split)

pub all_stored : (names : List Name) (i : ℕ) (starts : List ℕ) (size : ℕ) → i ≡ length names → AreStored names i starts size → AreStarts names starts × (size ≡ length (strings_block names))
all_stored names i starts size e so_far =
    let all : take i names ≡ names = take_all i names (omega (arith, e)) in
    (record { count = so_far.begun ∙ e; each = λ k lt. so_far.each k (omega (arith, lt, e)) }, so_far.size ∙ ap (taken_by names) all)

-- ---- the strings, one after the other

-- what is put of so many names
abbrev pub strings_to : List Name → ℕ → List ℕ
strings_to names count = flat_map terminated (kept_of names (take count names))

strings_more : (names : List Name) (i : ℕ) → i < length names → strings_to names (i + 1) ≡ strings_to names i ++ flat_map terminated (kept_of names (get_or names i [] ∷ []))
strings_more names i lt =
    ap (λ (l : List Name). flat_map terminated l) (ap (kept_of names) (take_more names i [] lt) ∙ kept-append names (take i names) (get_or names i [] ∷ []))
    ∙ flat_map-append terminated (kept_of names (take i names)) (kept_of names (get_or names i [] ∷ []))

pub one_string : (names : List Name) (i : ℕ) (x : Name) (old before named after : List ℕ) → i < length names → get_or names i [] ≡ x → list_any (is_end x) names ≡ false → before ≡ old ++ strings_to names i
    → named ≡ before ++ x → after ≡ named ++ 0 ∷ [] → after ≡ old ++ strings_to names (i + 1)
one_string names i x old before named after lt at e is put ended =
    let own : flat_map terminated (kept_of names (get_or names i [] ∷ [])) ≡ terminated x =
    ap (λ (n : Name). flat_map terminated (kept_of names (n ∷ []))) at ∙ ap (flat_map terminated) (one_kept names x e) ∙ append-nil (terminated x) in
    ended ∙ ap (λ (w : List ℕ). w ++ 0 ∷ []) (put ∙ ap (λ (w : List ℕ). w ++ x) is) ∙ regroup old (strings_to names i) x (0 ∷ [])
    ∙ ap (λ (w : List ℕ). old ++ w) (sym (strings_more names i lt ∙ ap (λ (w : List ℕ). strings_to names i ++ w) own))
  where
    regroup : (a b c d : List ℕ) → ((a ++ b) ++ c) ++ d ≡ a ++ (b ++ (c ++ d))
    regroup a b c d = simp append_assoc

pub no_string : (names : List Name) (i : ℕ) (old before : List ℕ) → i < length names → list_any (is_end (get_or names i [])) names ≡ true → before ≡ old ++ strings_to names i → before ≡ old ++ strings_to names (i + 1)
no_string names i old before lt e is =
    is ∙ ap (λ (w : List ℕ). old ++ w)
    (sym (strings_more names i lt ∙ ap (λ (l : List Name). strings_to names i ++ flat_map terminated l) (none_kept names (get_or names i []) e) ∙ append-nil (strings_to names i)))

pub all_strings : (names : List Name) (i : ℕ) → i ≡ length names → strings_to names i ≡ strings_block names
all_strings names i e = ap (λ (l : List Name). flat_map terminated (kept_of names l)) (take_all i names (omega (arith, e)))

-- ---- offsets

none_kept_ends : (x : Name) (all some : List Name) → AllByRecursion (λ o. list_any (is_end o) all ≡ false → ends x o ≡ false) some → AllByRecursion (λ o. ends x o ≡ false) (kept_of all some)
none_kept_ends x all [] f = tt
none_kept_ends x all (o ∷ some) f = by (list_any (is_end o) all) refl (none_kept_ends x all some f.1)
  where
    by : (b : Bool) → list_any (is_end o) all ≡ b → AllByRecursion (λ o. ends x o ≡ false) (kept_of all some) → AllByRecursion (λ o. ends x o ≡ false) (cond b (kept_of all some) (o ∷ kept_of all some))
    by true k more = more
    by false k more = (f.0 k, more)

-- where a name begins, from where its holder starts
pub record IsPlaced (names : List Name) (starts : List ℕ) (i h : ℕ) : Type 0 where
  pub within : h < length names
  pub longer : length (get_or names i []) ≤ length (get_or names h [])
  pub inside : get_or starts h 0 + length (get_or names h []) ≤ length (strings_block names)
  pub is : get_or starts h 0 + length (get_or names h []) - length (get_or names i []) ≡ offset_of names (get_or names i [])

pub placed : (names : List Name) (holders starts : List ℕ) (i : ℕ) → AllByRecursion IsText names → AreHolders names holders → AreStarts names starts → i < length names → IsPlaced names starts i (get_or holders i 0)
placed names holders starts i texts held begun lt = record {
  within = within;
  longer = omega (arith, lengths, ap length at);
  inside = omega (arith, begins, split, ap length at, ap length (flat_map-append terminated (kept_of names h.before) (h.holder ∷ kept_of names h.behind)), parts);
  is = omega (arith, begins, ap length at, lengths) ∙ offset_in_first names x (taken_by names h.before + length e.front) text texts first;
}
  where
    x : Name
    x = get_or names i []

    h : IsHolder names x (get_or holders i 0)
    h = held.each i lt

    e : Ends x h.holder
    e = ends_of x h.holder h.ended

    lengths : length h.holder ≡ length e.front + length x
    lengths = ap length e.is ∙ length-append e.front x

    within : get_or holders i 0 < length names
    within = omega (arith, h.numbered, ap length h.all, length-append h.before (h.holder ∷ h.behind))

    at : get_or names (get_or holders i 0) [] ≡ h.holder
    at = ap (λ (l : List Name). get_or l (get_or holders i 0) []) h.all ∙ get_or_at h.before h.holder h.behind [] (get_or holders i 0) (sym h.numbered)

    front : take (get_or holders i 0) names ≡ h.before
    front = ap (take (get_or holders i 0)) h.all ∙ take_at h.before (h.holder ∷ h.behind) (get_or holders i 0) (sym h.numbered)

    begins : get_or starts (get_or holders i 0) 0 ≡ taken_by names h.before
    begins = begun.each (get_or holders i 0) within ∙ ap (taken_by names) front

    stored : kept_of names names ≡ kept_of names h.before ++ h.holder ∷ kept_of names h.behind
    stored =
        ap (kept_of names) h.all ∙ kept-append names h.before (h.holder ∷ h.behind)
        ∙ ap (λ (b : Bool). kept_of names h.before ++ cond b (kept_of names h.behind) (h.holder ∷ kept_of names h.behind)) h.stored

    split : length (strings_block names) ≡ length (flat_map terminated (kept_of names h.before ++ h.holder ∷ kept_of names h.behind))
    split = ap (λ (l : List Name). length (flat_map terminated l)) stored

    parts : length (flat_map terminated (kept_of names h.before) ++ flat_map terminated (h.holder ∷ kept_of names h.behind)) ≡ taken_by names h.before + (length h.holder + 1) + length (flat_map terminated (kept_of names h.behind))
    parts = omega (arith, length-append (flat_map terminated (kept_of names h.before)) (flat_map terminated (h.holder ∷ kept_of names h.behind)), length-append (terminated h.holder) (flat_map terminated (kept_of names h.behind)), length-append h.holder (0 ∷ []))

    text : IsText x
    text = each_in IsText names x texts (in_at names i [] lt)

    first : IsInFirst names x (taken_by names h.before + length e.front)
    first = record {
      before = kept_of names h.before;
      holder = h.holder;
      behind = kept_of names h.behind;
      front = e.front;
      stored = stored;
      ended = e.is;
      first = none_kept_ends x names h.before h.first;
      is = refl;
    }

-- what the code adds and takes to find where a name begins
pub record IsOffset (names : List Name) (name : Name) (start size : ℕ) : Type 0 where
  pub inside : start + size ≤ length (strings_block names)
  pub longer : length name ≤ size
  pub is : start + size - length name ≡ offset_of names name

pub offset_by : (names : List Name) (holders starts : List ℕ) (lent : List (Bor (List ℕ))) (i h s : ℕ) (name : Name) → AllByRecursion IsText names → AreHolders names holders → AreStarts names starts
    → names_of_all lent ≡ names → i < length names → get_or names i [] ≡ name → h ≡ get_or holders i h → s ≡ get_or starts h s → IsOffset names name s (length (get_or lent h (record { ref_ptr = (0, 0); now = [] })).now)
offset_by names holders starts lent i h s name texts held begun all lt at own first = record {
  inside = omega (arith, start, size, p.inside);
  longer = omega (arith, size, p.longer, ap length at);
  is = omega (arith, start, size, ap length at) ∙ p.is ∙ ap (offset_of names) at;
}
  where
    p : IsPlaced names starts i (get_or holders i 0)
    p = placed names holders starts i texts held begun lt

    holder : h ≡ get_or holders i 0
    holder = own ∙ get_or_default holders i h 0 (omega (arith, lt, held.count))

    start : s ≡ get_or starts (get_or holders i 0) 0
    start = first ∙ ap (λ (k : ℕ). get_or starts k s) holder ∙ get_or_default starts (get_or holders i 0) s 0 (omega (arith, p.within, begun.count))

    there : h < length lent
    there = omega (arith, holder, p.within, ap length all, length-map lent (λ (name : Bor (List ℕ)). name.now))

    size : length (get_or lent h (record { ref_ptr = (0, 0); now = [] })).now ≡ length (get_or names (get_or holders i 0) [])
    size = ap length (sym (lent_at lent h there) ∙ (λ j. get_or (all j) (holder j) []))

-- what the code reads as a name's holder
pub owner_is : (names : List Name) (holders : List ℕ) (i h : ℕ) → AreHolders names holders → i < length names → h ≡ get_or holders i h → h ≡ get_or holders i 0
owner_is names holders i h held lt e = e ∙ get_or_default holders i h 0 (omega (arith, lt, held.count))
