-- Texts of paths, cut at their slashes.
use Rattle.std.proofs.Common.{◌≡◌, ◌≢◌, ℕ, suc, ◌+◌, ◌-◌, ◌<◌, ◌==◌, Bool, true, false, cond, codes, List, [], ◌∷◌, ◌++◌, Option, Some, Bor, length, slice_get, get_or, take, drop, refl, sym, ap, ◌∙◌, subst, arith, length-append, append_assoc, All}
use Rattle.std.specs.List.{AllByRecursion, slice_split, onto_first, join_with_byte}
use Rattle.std.proofs.lemmas.Bool.{ne_eqb}
use Rattle.std.proofs.lemmas.List.{take-append-drop, drop_more}
use Rattle.std.proofs.lemmas.List.Sums.{count_by-le-length}
use Rattle.std.proofs.lemmas.List.Elements.{All-weaker}
use Rattle.std.proofs.lemmas.Slice.Eq.{bytes_eq-Decides}
use Rattle.std.specs.Str.{bytes_eq}
use Rattle.std.proofs.lemmas.List.Splits.{slice_split_none, slice_split_at, slice_split-cons_yes, length-slice_split, join_with_byte-slice_split}
use Rattle.dt_model.specs.Names.{Name, IsNodeName}
use Rattle.dt_model.specs.Path.{Path, path_text}
use Rattle.dt_names.specs.Paths.{IsPathOf, behind_first, parts, parts_left, names_in, path_in, AreNames, IsKept}
use Rattle.dt_names.proofs.Names.{Allowed}

abbrev is_slash : ℕ → Bool
is_slash b = b == 47

abbrev AllNamed : Path → Type 0
AllNamed p = AllByRecursion IsNodeName p

-- ---- what stands between slashes

slash_is_none : Allowed 47 → ⊥
slash_is_none h = cc

other : (b : ℕ) → Allowed b → (b == 47) ≡ false
other b h = ne_eqb b 47 (λ e. slash_is_none (subst Allowed e h))

lacks_slash : (x : Name) → IsNodeName x → All (λ b. (b == 47) ≡ false) x
lacks_slash x n = All-weaker Allowed (λ b. (b == 47) ≡ false) other x n.allowed

parts_at : (x : Name) (ys : List ℕ) → IsNodeName x → parts (x ++ 47 ∷ ys) ≡ x ∷ parts ys
unfolding parts
parts_at x ys n = slice_split_at is_slash x 47 ys (lacks_slash x n) refl

parts_slash : (ys : List ℕ) → parts (47 ∷ ys) ≡ [] ∷ parts ys
unfolding parts
parts_slash ys = slice_split-cons_yes is_slash 47 ys refl

-- up to a slash that is the first
pub parts_read : (xs : List ℕ) (i : ℕ) → i < length xs → get_or xs i 0 ≡ 47 → All (λ b. (b == 47) ≡ false) (take i xs) → parts xs ≡ take i xs ∷ parts (drop (i + 1) xs)
unfolding parts
parts_read xs i less is lacks =
    let split : xs ≡ take i xs ++ 47 ∷ drop (i + 1) xs =
    sym (take-append-drop i xs) ∙ ap (λ r. take i xs ++ r) (drop_more xs i 0 less ∙ ap (λ b. b ∷ drop (i + 1) xs) is) in
    ap (slice_split is_slash) split ∙ slice_split_at is_slash (take i xs) 47 (drop (i + 1) xs) lacks refl

-- without a slash
pub parts_none : (xs : List ℕ) → All (λ b. (b == 47) ≡ false) xs → parts xs ≡ xs ∷ []
unfolding parts
parts_none xs lacks = slice_split_none is_slash xs lacks

parts_name : (x : Name) → IsNodeName x → parts x ≡ x ∷ []
parts_name x n = parts_none x (lacks_slash x n)

onto_append : (b : Bool) (x : ℕ) (xs ys zs : List Name) → zs ≡ xs ++ ys → 0 < length xs → cond b ([] ∷ zs) (onto_first x zs) ≡ cond b ([] ∷ xs) (onto_first x xs) ++ ys
onto_append true x xs ys zs e some = ap (λ q. [] ∷ q) e
onto_append false x [] ys zs e some = absurd (omega arith)
onto_append false x (a ∷ xs) ys zs e some = ap (onto_first x) e

parts_push : (xs ys : List ℕ) → parts (xs ++ 47 ∷ ys) ≡ parts xs ++ parts ys
unfolding parts
parts_push [] ys = slice_split-cons_yes is_slash 47 ys refl
parts_push (x ∷ xs) ys = onto_append (x == 47) x (slice_split is_slash xs) (slice_split is_slash ys) _ (parts_push xs ys) (omega (arith, length-slice_split is_slash xs))

-- ---- the text of a path and its parts

path_joined : (x : Name) (p : Path) → path_text (x ∷ p) ≡ 47 ∷ join_with_byte 47 (x ∷ p)
path_joined x [] = refl
path_joined x (y ∷ p) = ap (λ t. 47 ∷ (x ++ t)) (path_joined y p)

parts_joined : (x : Name) (p : Path) → AllNamed (x ∷ p) → parts (join_with_byte 47 (x ∷ p)) ≡ x ∷ p
parts_joined x [] h = parts_name x h.0
parts_joined x (y ∷ p) h = parts_at x (join_with_byte 47 (y ∷ p)) h.0 ∙ ap (λ q. x ∷ q) (parts_joined y p h.1)

parts_text : (x : Name) (p : Path) → AllNamed (x ∷ p) → parts (path_text (x ∷ p)) ≡ [] ∷ x ∷ p
parts_text x p h =
    ap parts (path_joined x p) ∙ parts_slash (join_with_byte 47 (x ∷ p)) ∙ ap (λ q. [] ∷ q) (parts_joined x p h)

whole : (text : List ℕ) (p : Path) → parts text ≡ [] ∷ p → 0 < length text → text ≡ path_text p
unfolding parts
whole text [] e some =
    let none : text ≡ [] = sym (join_with_byte-slice_split 47 text) ∙ ap (join_with_byte 47) e in
    absurd (omega (arith, ap length none, some))
whole text (x ∷ p) e some = sym (join_with_byte-slice_split 47 text) ∙ ap (join_with_byte 47) e ∙ sym (path_joined x p)

pub names_from : (text : List ℕ) (before : Name) (p : Path) → parts text ≡ before ∷ p → names_in text ≡ p
unfolding names_in
names_from text before p e = ap behind_first e

-- ---- the paths of a text

pub path_some : (p : Path) → 0 < length (path_text p)
path_some [] = omega arith
path_some (x ∷ p) = omega (arith, ap length (path_joined x p))

-- what is kept, where it isn't nothing, is the text of its path
pub path_of_names : (text : List ℕ) → AreNames text → 0 < length text → IsPathOf text (names_in text)
path_of_names text a some = record { written = whole text (names_in text) a.begins some; named = a.named }

-- the text of any path but the root's is kept
pub names_of_path : (text : List ℕ) (p : Path) → IsPathOf text p → text ≢ codes "/" → AreNames text
names_of_path text [] i other = absurd (other i.written)
names_of_path text (x ∷ p) i other =
    let e : parts text ≡ [] ∷ x ∷ p = ap parts i.written ∙ parts_text x p i.named in
    let n : names_in text ≡ x ∷ p = names_from text [] (x ∷ p) e in
    record { begins = e ∙ ap (λ q. [] ∷ q) (sym n); named = subst AllNamed (sym n) i.named }

pub root_path : IsPathOf (codes "/") (path_in (codes "/"))
root_path = record { written = refl; named = tt }

-- the path of any other text that is kept
pub other_path : (text : List ℕ) → AreNames text → 0 < length text → text ≢ codes "/" → IsPathOf text (path_in text)
other_path text a some other = by (bytes_eq text (codes "/")) refl
  where
    by : (b : Bool) → bytes_eq text (codes "/") ≡ b → IsPathOf text (cond b [] (names_in text))
    by true e = absurd (other ((bytes_eq-Decides text (codes "/")).0 e))
    by false e = path_of_names text a some

root_alone : (y : Name) (q : Path) → AllNamed (y ∷ q) → codes "/" ≡ path_text (y ∷ q) → ⊥
unfolding parts
root_alone y q h e =
    let two : [] ∷ [] ∷ [] ≡ [] ∷ y ∷ q = ap parts e ∙ parts_text y q h in
    let none : y ≡ [] = cc in
    omega (arith, ap length none, h.0.not_empty)

pub same_path : (p q : Path) → AllNamed p → AllNamed q → path_text p ≡ path_text q → p ≡ q
same_path [] [] a b e = refl
same_path [] (y ∷ q) a b e = absurd (root_alone y q b e)
same_path (x ∷ p) [] a b e = absurd (root_alone x p a (sym e))
same_path (x ∷ p) (y ∷ q) a b e =
    let two : [] ∷ x ∷ p ≡ [] ∷ y ∷ q = sym (parts_text x p a) ∙ ap parts e ∙ parts_text y q b in
    cc

-- ---- names that are added

named_push : (p : Path) (x : Name) → AllNamed p → IsNodeName x → AllNamed (p ++ x ∷ [])
named_push [] x h n = (n, tt)
named_push (y ∷ p) x h n = (h.0, named_push p x h.1 n)

pub named_part : (p : Path) (x : Name) (q : Path) → AllNamed (p ++ x ∷ q) → IsNodeName x
named_part [] x q h = h.0
named_part (y ∷ p) x q h = named_part p x q h.1

parts_pushed : (text new : List ℕ) (name : Name) → AreNames text → IsNodeName name → new ≡ text ++ 47 ∷ name → parts new ≡ [] ∷ (names_in text ++ name ∷ [])
parts_pushed text new name a n e =
    ap parts e ∙ parts_push text name ∙ ap (λ q. q ++ parts name) a.begins ∙ ap (λ q. [] ∷ (names_in text ++ q)) (parts_name name n)

pub names_pushed : (text new : List ℕ) (name : Name) → AreNames text → IsNodeName name → new ≡ text ++ 47 ∷ name → names_in new ≡ names_in text ++ name ∷ []
names_pushed text new name a n e = names_from new [] (names_in text ++ name ∷ []) (parts_pushed text new name a n e)

pub kept_pushed : (text new : List ℕ) (name : Name) (count : ℕ) → IsKept text count → IsNodeName name → new ≡ text ++ 47 ∷ name → count < 64 → IsKept new (count + 1)
kept_pushed text new name count k n e less =
    let is = names_pushed text new name k.names n e in
    record {
      names = record {
        begins = parts_pushed text new name k.names n e ∙ ap (λ q. [] ∷ q) (sym is);
        named = subst AllNamed (sym is) (named_push (names_in text) name k.names.named n);
      };
      counted = omega (arith, k.counted, ap length is, length-append (names_in text) (name ∷ []));
      few = omega arith;
    }

pub kept_root : IsKept [] 0
unfolding parts names_in
kept_root = record { names = record { begins = refl; named = tt }; counted = refl; few = omega arith }

pub root_names : names_in [] ≡ []
unfolding parts names_in
root_names = refl

-- ---- names that are counted

-- count names are gone, and the others are left
pub record Counted (text : List ℕ) (count : ℕ) (left : Path) : Type 0 where
  pub front : Path
  pub split : names_in text ≡ front ++ left
  pub begins : parts text ≡ [] ∷ names_in text
  pub named : AllNamed front
  pub counted : count ≡ length front

pub none_counted : (text : List ℕ) (before : Name) (left : Path) → parts text ≡ before ∷ left → length before ≡ 0 → Counted text 0 left
none_counted text [] left e none =
    let is = names_from text [] left e in
    record { front = []; split = is; begins = e ∙ ap (λ q. [] ∷ q) (sym is); named = tt; counted = refl }
none_counted text (b ∷ before) left e none = absurd (omega arith)

-- what is left begins with a name
pub counted_before : (text : List ℕ) (count : ℕ) (rest : Option (Bor (List ℕ))) (names : Bor (List ℕ)) (name : Name) (left : Path) → Counted text count (parts_left rest) → rest ≡ Some names → parts names.now ≡ name ∷ left → Counted text count (name ∷ left)
counted_before text count rest names name left c some e = subst (Counted text count) (ap parts_left some ∙ e) c

pub one_counted : (text : List ℕ) (count : ℕ) (name : Name) (left : Path) → Counted text count (name ∷ left) → IsNodeName name → Counted text (count + 1) left
one_counted text count name left c n =
    record {
      front = c.front ++ name ∷ [];
      split = c.split ∙ sym (append_assoc c.front (name ∷ []) left);
      begins = c.begins;
      named = named_push c.front name c.named n;
      counted = omega (arith, c.counted, length-append c.front (name ∷ []));
    }

pub counted_few : (text : List ℕ) (count : ℕ) (name : Name) (left : Path) → Counted text count (name ∷ left) → count < length text
unfolding parts
counted_few text count name left c =
    omega (
      arith,
      length-slice_split is_slash text,
      count_by-le-length is_slash text,
      ap length c.begins,
      ap length c.split,
      length-append c.front (name ∷ left),
      c.counted,
    )

pub name_refused : (text : List ℕ) (count : ℕ) (name : Name) (left : Path) → Counted text count (name ∷ left) → ¬ IsNodeName name → ¬ AreNames text
name_refused text count name left c none a = none (named_part c.front name left (subst AllNamed c.split a.named))

-- ---- a name that is looked for

-- the name at the index is the one at another index of what is left
pub record IsLeft (names : Path) (index left : ℕ) (rest : Path) : Type 0 where
  pub same : slice_get names index ≡ slice_get rest left
  pub named : AllNamed rest

pub left_at_start : (text : List ℕ) (index : ℕ) (before : Name) (rest : Path) → AreNames text → parts text ≡ before ∷ rest → IsLeft (names_in text) index index rest
left_at_start text index before rest a e =
    let is = names_from text before rest e in
    record { same = ap (λ p. slice_get p index) is; named = subst AllNamed is a.named }

-- the same of what is left where a name is looked for
pub left_before : (all : Path) (index at : ℕ) (rest : Option (Bor (List ℕ))) (names : Bor (List ℕ)) (name : Name) (left : Path) → IsLeft all index at (parts_left rest) → rest ≡ Some names → parts names.now ≡ name ∷ left → IsLeft all index at (name ∷ left)
left_before all index at rest names name left l some e = subst (IsLeft all index at) (ap parts_left some ∙ e) l

pub left_behind : (names : Path) (index left : ℕ) (x : Name) (rest : Path) → IsLeft names index left (x ∷ rest) → left ≢ 0 → IsLeft names index (left - 1) rest
left_behind names index left x rest l some =
    let is : left ≡ suc (left - 1) = omega arith in
    record { same = l.same ∙ ap (slice_get (x ∷ rest)) is; named = l.named.1 }
