-- Names and their numbers, as the set of names has them.
use Rattle.std.proofs.Common.{◌≡◌, ◌⊎◌, ℕ, zero, suc, ◌+◌, ◌<◌, Bool, true, false, not, cond, ◌||◌, List, [], ◌∷◌, ◌++◌, length, map, slice_get, position, Option, Some, None, refl, sym, ap, subst, ◌∙◌, true≢false, append-nil, inl, inr, arith}
use Rattle.std.specs.List.{list_any, prefix_len}
use Rattle.std.specs.Str.{bytes_eq}
use Rattle.std.specs.Prelude.{nat_lt, MatchOption, if◌then◌else◌}
use Rattle.std.proofs.lemmas.Bool.{cases_eq, ltb-true, lt-ltb}
use Rattle.dt_model.specs.Names.{Name}
use Rattle.dt_model.proofs.Tests.{bytes_eq_true, bytes_eq_differ}
use Rattle.dt_flat.specs.Names.{text, AreOwn, IsUnknown}
use Rattle.dt_flat.specs.declared.names.OwnName.{OwnName}

-- the names that a set keeps
abbrev pub names_kept : List OwnName → List Name
names_kept ks = map (λ name. name.bytes.items) ks

pub text-get : (ks : List OwnName) (k : ℕ) (v : OwnName) → slice_get ks k ≡ Some v → text (names_kept ks) k ≡ v.bytes.items
text-get [] k v e = cc
text-get (x ∷ xs) zero v e = let same : x ≡ v = cc in ap (λ (y : OwnName). y.bytes.items) same
text-get (x ∷ xs) (suc k) v e = text-get xs k v e

-- the name at a number that has one
pub text-there : (ks : List OwnName) (names : List Name) (k : ℕ) (v : OwnName) → names_kept ks ≡ names → slice_get ks k ≡ Some v → (k < length names) × (text names k ≡ v.bytes.items)
text-there ks names k v view e = subst (λ (ns : List Name). (k < length ns) × (text ns k ≡ v.bytes.items)) view (within ks k e, text-get ks k v e)
  where
    within : (ks : List OwnName) (k : ℕ) → slice_get ks k ≡ Some v → k < length (names_kept ks)
    within [] k e = cc
    within (x ∷ xs) zero e = omega arith
    within (x ∷ xs) (suc k) e = let lt = within xs k e in omega (arith, lt)

pub length-names : (ks : List OwnName) → length (names_kept ks) ≡ length ks
length-names [] = refl
length-names (x ∷ xs) = ap suc (length-names xs)

-- ---- a name is looked for

-- how many names stand before it
abbrev before : List OwnName → Name → ℕ
before ks name = prefix_len (λ v. not (bytes_eq name v.bytes.items)) ks

text-before : (ks : List OwnName) (name : Name) → before ks name < length ks → text (names_kept ks) (before ks name) ≡ name
text-before [] name lt = absurd (omega arith)
text-before (x ∷ xs) name lt = by (bytes_eq name x.bytes.items) refl (before xs name) (text-before xs name) lt
  where
    by : (b : Bool) → bytes_eq name x.bytes.items ≡ b → (n : ℕ) → (n < length xs → text (names_kept xs) n ≡ name)
        → cond (not b) (1 + n) 0 < suc (length xs) → text (x.bytes.items ∷ names_kept xs) (cond (not b) (1 + n) 0) ≡ name
    by true e n rec l = sym (bytes_eq_true name x.bytes.items e)
    by false e n rec l = let s : 1 + n ≡ suc n = omega arith in ap (text (x.bytes.items ∷ names_kept xs)) s ∙ rec (omega (arith, l))

unknown-before : (ks : List OwnName) (name : Name) → (before ks name < length ks → ⊥) → IsUnknown (names_kept ks) name
unknown-before [] name none = λ i lt. absurd (omega (arith, lt))
unknown-before (x ∷ xs) name none = by (bytes_eq name x.bytes.items) refl (before xs name) (unknown-before xs name) none
  where
    by : (b : Bool) → bytes_eq name x.bytes.items ≡ b → (n : ℕ) → ((n < length xs → ⊥) → IsUnknown (names_kept xs) name)
        → (cond (not b) (1 + n) 0 < suc (length xs) → ⊥) → IsUnknown (x.bytes.items ∷ names_kept xs) name
    by true e n rec l i lt = absurd (l (omega arith))
    by false e n rec l zero lt = λ same. bytes_eq_differ name x.bytes.items e (sym same)
    by false e n rec l (suc i) lt = rec (λ h. l (omega (arith, h))) i (omega (arith, lt))

pub found : (ks : List OwnName) (name : Name) (r : Option ℕ) → r ≡ position (λ (v : OwnName). bytes_eq name v.bytes.items) ks
    → MatchOption r (IsUnknown (names_kept ks) name) (λ id. (id < length (names_kept ks)) × (text (names_kept ks) id ≡ name))
found ks name r is = by (nat_lt (before ks name) (length ks)) refl r is
  where
    by : (b : Bool) → nat_lt (before ks name) (length ks) ≡ b → (r : Option ℕ) → r ≡ cond b (Some (before ks name)) None
        → MatchOption r (IsUnknown (names_kept ks) name) (λ id. (id < length (names_kept ks)) × (text (names_kept ks) id ≡ name))
    by true e None is = cc
    by true e (Some id) is =
        let at : id ≡ before ks name = cc in
        let lt : before ks name < length ks = ltb-true (before ks name) (length ks) e in
        (omega (arith, at, lt, length-names ks), ap (text (names_kept ks)) at ∙ text-before ks name lt)
    by false e (Some id) is = cc
    by false e None is = unknown-before ks name (λ lt. true≢false (sym (lt-ltb (before ks name) (length ks) lt) ∙ e))

-- ---- one more name

-- a name that a set hasn't is none of its names
pub any-unknown : (ks : List OwnName) (name : Name) → list_any (λ (k : OwnName). bytes_eq name k.bytes.items) ks ≡ false → IsUnknown (names_kept ks) name
any-unknown [] name none = λ i lt. absurd (omega (arith, lt))
any-unknown (x ∷ xs) name none = by (bytes_eq name x.bytes.items) refl (list_any (λ (k : OwnName). bytes_eq name k.bytes.items) xs) (any-unknown xs name) none
  where
    by : (b : Bool) → bytes_eq name x.bytes.items ≡ b → (others : Bool) → (others ≡ false → IsUnknown (names_kept xs) name) → (b || others) ≡ false → IsUnknown (x.bytes.items ∷ names_kept xs) name
    by true e others rec h i lt = absurd (true≢false h)
    by false e others rec h zero lt = λ same. bytes_eq_differ name x.bytes.items e (sym same)
    by false e others rec h (suc i) lt = rec h i (omega (arith, lt))

names-push : (ks : List OwnName) (v : OwnName) → names_kept (ks ++ v ∷ []) ≡ names_kept ks ++ v.bytes.items ∷ []
names-push [] v = refl
names-push (x ∷ xs) v = ap (λ (ns : List Name). x.bytes.items ∷ ns) (names-push xs v)

-- the names once one is inserted
pub record AreInserted (old new : List Name) (name : Name) : Type 0 where
  pub more : List Name
  pub few : (more ≡ []) ⊎ ((more ≡ name ∷ []) × IsUnknown old name)
  pub kept : new ≡ old ++ more

pub names-insert : (ks new : List OwnName) (v : OwnName)
    → new ≡ (if list_any (λ (k : OwnName). bytes_eq v.bytes.items k.bytes.items) ks then ks else ks ++ v ∷ []) → AreInserted (names_kept ks) (names_kept new) v.bytes.items
names-insert ks new v is = by (list_any (λ (k : OwnName). bytes_eq v.bytes.items k.bytes.items) ks) refl is
  where
    by : (b : Bool) → list_any (λ (k : OwnName). bytes_eq v.bytes.items k.bytes.items) ks ≡ b → new ≡ cond b ks (ks ++ v ∷ []) → AreInserted (names_kept ks) (names_kept new) v.bytes.items
    by true e is = record { more = []; few = inl refl; kept = ap names_kept is ∙ sym (append-nil (names_kept ks)) }
    by false e is = record { more = v.bytes.items ∷ []; few = inr (refl, any-unknown ks v.bytes.items e); kept = ap names_kept is ∙ names-push ks v }

pub text-append : (names more : List Name) (i : ℕ) → i < length names → text (names ++ more) i ≡ text names i
text-append [] more i lt = absurd (omega arith)
text-append (x ∷ xs) more zero lt = refl
text-append (x ∷ xs) more (suc i) lt = text-append xs more i (omega arith)

text-last : (names : List Name) (x : Name) → text (names ++ x ∷ []) (length names) ≡ x
text-last [] x = refl
text-last (n ∷ ns) x = text-last ns x

length-push : (names : List Name) (x : Name) → length (names ++ x ∷ []) ≡ suc (length names)
length-push [] x = refl
length-push (n ∷ ns) x = ap suc (length-push ns x)

AreOwn-push : (names : List Name) (x : Name) → AreOwn names → IsUnknown names x → AreOwn (names ++ x ∷ [])
AreOwn-push names x own none i j li lj e =
    let n = length names in
    let size = length-push names x in
    elim (cases_eq i n) [
      | inl at ↦
          elim (cases_eq j n) [
            | inl bt ↦ at ∙ sym bt
            | inr other ↦
                let before : j < n = omega (arith, size, lj, other) in
                absurd (none j before (sym (text-append names (x ∷ []) j before) ∙ sym e ∙ ap (text (names ++ x ∷ [])) at ∙ text-last names x))
          ]
      | inr before_n ↦
          let li' : i < n = omega (arith, size, li, before_n) in
          elim (cases_eq j n) [
            | inl bt ↦ absurd (none i li' (sym (text-append names (x ∷ []) i li') ∙ e ∙ ap (text (names ++ x ∷ [])) bt ∙ text-last names x))
            | inr other ↦
                let lj' : j < n = omega (arith, size, lj, other) in
                own i j li' lj' (sym (text-append names (x ∷ []) i li') ∙ e ∙ text-append names (x ∷ []) j lj')
          ]
    ]

pub AreOwn-inserted : (old new : List Name) (name : Name) → AreOwn old → AreInserted old new name → AreOwn new
AreOwn-inserted old new name own inserted = subst AreOwn (sym inserted.kept) (by inserted.more inserted.few)
  where
    by : (more : List Name) → (more ≡ []) ⊎ ((more ≡ name ∷ []) × IsUnknown old name) → AreOwn (old ++ more)
    by more (inl none) = subst (λ (x : List Name). AreOwn (old ++ x)) (sym none) (subst AreOwn (sym (append-nil old)) own)
    by more (inr one) = subst (λ (x : List Name). AreOwn (old ++ x)) (sym one.0) (AreOwn-push old name own one.1)
