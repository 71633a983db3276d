-- The ranks of an owner's things, and the links after one more.
use Rattle.std.proofs.Common.{◌≡◌, ◌≢◌, ℕ, zero, suc, ◌+◌, ◌-◌, ◌<◌, ◌≤◌, Bool, true, false, cond, eqb, List, [], ◌∷◌, ◌++◌, length, drop, slice_index, get_or, set, ◌↔◌, refl, sym, ap, ◌∙◌, inl, inr, arith}
use Rattle.std.proofs.lemmas.Bool.{cases_eq, eqb-true}
use Rattle.std.proofs.lemmas.List.{get_or-set_same, get_or-set_other, length-drop}
use Rattle.dt_flat.specs.declared.chain.Link.{Link}
use Rattle.dt_flat.specs.declared.chain.Ends.{Ends}
use Rattle.dt_flat.specs.Chain.{ranks, rank_or, first_rank, last_rank, ranks_left, owners_kept, linked, ends_at, ends_with, mark, IsLinked}
use Rattle.dt_flat.proofs.AfterChild.{tested, differs}

-- ---- one more thing

pub first-push : (i : ℕ) (os : List ℕ) (p q : ℕ) → first_rank (suc i) (os ++ p ∷ []) q ≡ rank_or (first_rank (suc i) os q) (cond (eqb p q) (suc i + length os) 0)
first-push i [] p q =
    let e : suc i ≡ suc i + 0 = omega arith in
    ap (λ (n : ℕ). cond (eqb p q) n 0) e
first-push i (o ∷ os) p q = by (eqb o q) (first-push (suc i) os p q)
  where
    by : (b : Bool)
        → first_rank (suc (suc i)) (os ++ p ∷ []) q ≡ rank_or (first_rank (suc (suc i)) os q) (cond (eqb p q) (suc (suc i) + length os) 0)
        → cond b (suc i) (first_rank (suc (suc i)) (os ++ p ∷ []) q)
        ≡ rank_or (cond b (suc i) (first_rank (suc (suc i)) os q)) (cond (eqb p q) (suc i + suc (length os)) 0)
    by true h = refl
    by false h =
        let e : suc (suc i) + length os ≡ suc i + suc (length os) = omega arith in
        h ∙ ap (λ (n : ℕ). rank_or (first_rank (suc (suc i)) os q) (cond (eqb p q) n 0)) e

pub last-push : (i : ℕ) (os : List ℕ) (p q : ℕ) → last_rank (suc i) (os ++ p ∷ []) q ≡ cond (eqb p q) (suc i + length os) (last_rank (suc i) os q)
last-push i [] p q =
    let e : suc i ≡ suc i + 0 = omega arith in
    ap (λ (n : ℕ). cond (eqb p q) n 0) e
last-push i (o ∷ os) p q =
    ap (λ (l : ℕ). rank_or l (cond (eqb o q) (suc i) 0)) (last-push (suc i) os p q) ∙ by (eqb p q)
  where
    by : (b : Bool)
        → rank_or (cond b (suc (suc i) + length os) (last_rank (suc (suc i)) os q)) (cond (eqb o q) (suc i) 0)
        ≡ cond b (suc i + suc (length os)) (rank_or (last_rank (suc (suc i)) os q) (cond (eqb o q) (suc i) 0))
    by true =
        let e : suc (suc i) + length os ≡ suc (suc (i + length os)) = omega arith in
        let f : suc (suc (i + length os)) ≡ suc i + suc (length os) = omega arith in
        ap (λ (l : ℕ). rank_or l (cond (eqb o q) (suc i) 0)) e ∙ f
    by false = refl

abbrev is_none : ℕ → Bool
is_none zero = true
is_none (suc k) = false

-- an owner has a first thing where it has a last one
none-alike : (i : ℕ) (os : List ℕ) (q : ℕ) → is_none (first_rank (suc i) os q) ≡ is_none (last_rank (suc i) os q)
none-alike i [] q = refl
none-alike i (o ∷ os) q = by (eqb o q) (last_rank (suc (suc i)) os q) (none-alike (suc i) os q)
  where
    by : (b : Bool) (l : ℕ) → is_none (first_rank (suc (suc i)) os q) ≡ is_none l
        → is_none (cond b (suc i) (first_rank (suc (suc i)) os q)) ≡ is_none (rank_or l (cond b (suc i) 0))
    by true zero h = refl
    by true (suc l) h = refl
    by false zero h = h
    by false (suc l) h = h

zero-none : (k : ℕ) → is_none k ≡ true → k ≡ 0
zero-none zero e = refl
zero-none (suc k) e = cc

pub alike : (i : ℕ) (os : List ℕ) (q : ℕ) → (first_rank (suc i) os q ≡ 0) ↔ (last_rank (suc i) os q ≡ 0)
alike i os q = (
  (λ e. zero-none (last_rank (suc i) os q) (sym (none-alike i os q) ∙ ap is_none e)),
  (λ e. zero-none (first_rank (suc i) os q) (none-alike i os q ∙ ap is_none e)),
)

-- the last rank is that of none, or one of these
last-low : (i : ℕ) (os : List ℕ) (q l : ℕ) → last_rank (suc i) os q ≡ suc l → i ≤ l
last-low i [] q l e = cc
last-low i (o ∷ os) q l e = by (eqb o q) (last_rank (suc (suc i)) os q) (λ k is. last-low (suc i) os q k is) refl e
  where
    by : (b : Bool) (k : ℕ) → ((m : ℕ) → last_rank (suc (suc i)) os q ≡ suc m → suc i ≤ m) → last_rank (suc (suc i)) os q ≡ k → rank_or k (cond b (suc i) 0) ≡ suc l → i ≤ l
    by true zero rec is h = omega (arith, h)
    by false zero rec is h = cc
    by b (suc k) rec is h = let m : suc i ≤ k = rec k is in omega (arith, m, h)

pub last-high : (i : ℕ) (os : List ℕ) (q : ℕ) → last_rank (suc i) os q ≤ i + length os
last-high i [] q = omega arith
last-high i (o ∷ os) q = by (eqb o q) (last_rank (suc (suc i)) os q) (last-high (suc i) os q)
  where
    by : (b : Bool) (k : ℕ) → k ≤ suc i + length os → rank_or k (cond b (suc i) 0) ≤ i + suc (length os)
    by true zero h = omega arith
    by false zero h = omega arith
    by b (suc k) h = omega (arith, h)

-- a mark at no rank, or at one behind these, changes nothing
mark-before : (i k r : ℕ) (ls : List Link) → k < i → mark i ls k r ≡ ls
mark-before i k r [] lt = refl
mark-before i k r (l ∷ ls) lt =
    let no : eqb k i ≡ false = differs k i (omega arith) in
    ap (λ (b : Bool). cond b (record l { next = r } ∷ ls) (l ∷ mark (suc i) ls k r)) no ∙ ap (λ (ms : List Link). l ∷ ms) (mark-before (suc i) k r ls (omega arith))

unmoved : (k : ℕ) → rank_or k 0 ≡ k
unmoved zero = refl
unmoved (suc k) = refl

same-some : (k other : ℕ) → is_none k ≡ false → rank_or k other ≡ k
same-some zero other e = cc
same-some (suc k) other e = refl

-- the next thing of the first one's owner stays, where the one that comes has another owner or that owner has one here
next-other : (i : ℕ) (os : List ℕ) (p o : ℕ) → o ≢ p → first_rank (suc i) (os ++ p ∷ []) o ≡ first_rank (suc i) os o
next-other i os p o ne =
    let f = first_rank (suc i) os o in
    first-push i os p o ∙ ap (λ (b : Bool). rank_or f (cond b (suc i + length os) 0)) (differs p o (λ e. ne (sym e))) ∙ unmoved f

next-there : (i : ℕ) (os : List ℕ) (p o l : ℕ) → last_rank (suc i) os o ≡ suc l → first_rank (suc i) (os ++ p ∷ []) o ≡ first_rank (suc i) os o
next-there i os p o l is =
    let f = first_rank (suc i) os o in
    first-push i os p o ∙ same-some f (cond (eqb p o) (suc i + length os) 0) (none-alike i os o ∙ ap is_none is)

next-new : (i : ℕ) (os : List ℕ) (p o : ℕ) → o ≡ p → last_rank (suc i) os p ≡ 0 → first_rank (suc i) (os ++ p ∷ []) o ≡ suc i + length os
next-new i os p o e is =
    first-push i os p o
    ∙ ap (λ (k : ℕ). rank_or k (cond (eqb p o) (suc i + length os) 0)) ((alike i os o).1 (ap (last_rank (suc i) os) e ∙ is))
    ∙ ap (λ (b : Bool). cond b (suc i + length os) 0) (tested p o (sym e))

-- the links after one more thing
pub linked-push : (i : ℕ) (os : List ℕ) (p : ℕ)
    → linked (suc i) (os ++ p ∷ []) ≡ mark (suc i) (linked (suc i) os) (last_rank (suc i) os p) (suc i + length os) ++ record { owner = p; next = 0 } ∷ []
linked-push i [] p = refl
linked-push i (o ∷ os) p = by (last_rank (suc (suc i)) os p) refl (linked-push (suc i) os p)
  where
    by : (l : ℕ) → last_rank (suc (suc i)) os p ≡ l
        → linked (suc (suc i)) (os ++ p ∷ []) ≡ mark (suc (suc i)) (linked (suc (suc i)) os) (last_rank (suc (suc i)) os p) (suc (suc i) + length os) ++ record { owner = p; next = 0 } ∷ []
        → record { owner = o; next = first_rank (suc (suc i)) (os ++ p ∷ []) o } ∷ linked (suc (suc i)) (os ++ p ∷ [])
        ≡ mark (suc i) (record { owner = o; next = first_rank (suc (suc i)) os o } ∷ linked (suc (suc i)) os) (rank_or l (cond (eqb o p) (suc i) 0)) (suc i + suc (length os)) ++ record { owner = p; next = 0 } ∷ []
    by zero is h =
        let end : List Link = record { owner = p; next = 0 } ∷ [] in
        let rest : List Link = linked (suc (suc i)) os in
        let first : ℕ = first_rank (suc (suc i)) os o in
        let n : ℕ = suc i + suc (length os) in
        let sum : suc (suc i) + length os ≡ n = omega arith in
        let tail : linked (suc (suc i)) (os ++ p ∷ []) ≡ rest ++ end =
        h ∙ ap (λ (k : ℕ). mark (suc (suc i)) rest k (suc (suc i) + length os) ++ end) is ∙ ap (λ (ms : List Link). ms ++ end) (mark-before (suc (suc i)) 0 (suc (suc i) + length os) rest (omega arith)) in
        elim (cases_eq o p) [
          | inl e ↦
              let new = next-new (suc i) os p o e is ∙ sum in
              let marked : mark (suc i) (record { owner = o; next = first } ∷ rest) (cond (eqb o p) (suc i) 0) n ≡ record { owner = o; next = n } ∷ rest =
              ap (λ (b : Bool). mark (suc i) (record { owner = o; next = first } ∷ rest) (cond b (suc i) 0) n) (tested o p e)
              ∙ ap (λ (b : Bool). cond b (record { owner = o; next = n } ∷ rest) (record { owner = o; next = first } ∷ mark (suc (suc i)) rest (suc i) n)) (tested (suc i) (suc i) refl) in
              (λ j. record { owner = o; next = new j } ∷ tail j) ∙ ap (λ (ms : List Link). ms ++ end) (sym marked)
          | inr d ↦
              let new = next-other (suc i) os p o d in
              let marked : mark (suc i) (record { owner = o; next = first } ∷ rest) (cond (eqb o p) (suc i) 0) n ≡ record { owner = o; next = first } ∷ rest =
              ap (λ (b : Bool). mark (suc i) (record { owner = o; next = first } ∷ rest) (cond b (suc i) 0) n) (differs o p d)
              ∙ mark-before (suc i) 0 n (record { owner = o; next = first } ∷ rest) (omega arith) in
              (λ j. record { owner = o; next = new j } ∷ tail j) ∙ ap (λ (ms : List Link). ms ++ end) (sym marked)
        ]
    by (suc l) is h =
        let end : List Link = record { owner = p; next = 0 } ∷ [] in
        let rest : List Link = linked (suc (suc i)) os in
        let first : ℕ = first_rank (suc (suc i)) os o in
        let n : ℕ = suc i + suc (length os) in
        let sum : suc (suc i) + length os ≡ n = omega arith in
        let low : suc i ≤ l = last-low (suc i) os p l is in
        let apart : eqb (suc l) (suc i) ≡ false = differs (suc l) (suc i) (omega (arith, low)) in
        let tail : linked (suc (suc i)) (os ++ p ∷ []) ≡ mark (suc (suc i)) rest (suc l) n ++ end = h ∙ (λ j. mark (suc (suc i)) rest (is j) (sum j) ++ end) in
        let new : first_rank (suc (suc i)) (os ++ p ∷ []) o ≡ first =
        elim (cases_eq o p) [
          | inl e ↦ next-there (suc i) os p o l (ap (last_rank (suc (suc i)) os) e ∙ is)
          | inr d ↦ next-other (suc i) os p o d
        ] in
        (λ j. record { owner = o; next = new j } ∷ tail j)
        ∙ ap (λ (b : Bool). cond b (record { owner = o; next = n } ∷ rest) (record { owner = o; next = first } ∷ mark (suc (suc i)) rest (suc l) n) ++ end) (sym apart)

-- ---- what is kept

pub owners-linked : (i : ℕ) (os : List ℕ) → owners_kept (linked i os) ≡ os
owners-linked i [] = refl
owners-linked i (o ∷ os) = ap (λ (ps : List ℕ). o ∷ ps) (owners-linked (suc i) os)

owners-append : (ls ms : List Link) → owners_kept (ls ++ ms) ≡ owners_kept ls ++ owners_kept ms
owners-append [] ms = refl
owners-append (l ∷ ls) ms = ap (λ (ps : List ℕ). l.owner ∷ ps) (owners-append ls ms)

owners-mark : (i k r : ℕ) (ls : List Link) → owners_kept (mark i ls k r) ≡ owners_kept ls
owners-mark i k r [] = refl
owners-mark i k r (l ∷ ls) = by (eqb k i) (owners-mark (suc i) k r ls)
  where
    by : (b : Bool) → owners_kept (mark (suc i) ls k r) ≡ owners_kept ls → owners_kept (cond b (record l { next = r } ∷ ls) (l ∷ mark (suc i) ls k r)) ≡ l.owner ∷ owners_kept ls
    by true h = refl
    by false h = ap (λ (ps : List ℕ). l.owner ∷ ps) h

pub owners-push : (k r p : ℕ) (ls : List Link) → owners_kept (mark 1 ls k r ++ record { owner = p; next = 0 } ∷ []) ≡ owners_kept ls ++ p ∷ []
owners-push k r p ls = owners-append (mark 1 ls k r) (record { owner = p; next = 0 } ∷ []) ∙ ap (λ (ps : List ℕ). ps ++ p ∷ []) (owners-mark 1 k r ls)

pub length-owners : (ls : List Link) → length (owners_kept ls) ≡ length ls
length-owners [] = refl
length-owners (l ∷ ls) = ap suc (length-owners ls)

-- a mark at a rank is a write to its place
pub mark-set : (i k r : ℕ) (ls : List Link) (d : Link) → k < length ls → mark i ls (i + k) r ≡ set ls k (record (get_or ls k d) { next = r })
mark-set i k r [] d lt = absurd (omega arith)
mark-set i zero r (l ∷ ls) d lt =
    ap (λ (b : Bool). cond b (record l { next = r } ∷ ls) (l ∷ mark (suc i) ls (i + 0) r)) (tested (i + 0) i (omega arith))
mark-set i (suc k) r (l ∷ ls) d lt =
    let at : suc i + k ≡ i + suc k = omega arith in
    ap (λ (b : Bool). cond b (record l { next = r } ∷ ls) (l ∷ mark (suc i) ls (i + suc k) r)) (differs (i + suc k) i (omega arith))
    ∙ ap (λ (ms : List Link). l ∷ ms) (ap (λ (m : ℕ). mark (suc i) ls m r) (sym at) ∙ mark-set (suc i) k r ls d (omega arith))

-- a mark at no rank
pub mark-none : (r : ℕ) (ls : List Link) → mark 1 ls 0 r ≡ ls
mark-none r ls = mark-before 1 0 r ls (omega arith)

-- ---- the ranks that are left

-- those of an owner are those from its first on
pub ranks-first : (i : ℕ) (os : List ℕ) (p : ℕ) (whole : List ℕ) → drop i whole ≡ os → ranks (suc i) os p ≡ ranks_left whole (first_rank (suc i) os p)
ranks-first i [] p whole is = refl
ranks-first i (o ∷ os) p whole is = by (eqb o p) refl (ranks-first (suc i) os p whole (drop-suc i whole o os is))
  where
    drop-suc : (i : ℕ) (whole : List ℕ) (o : ℕ) (os : List ℕ) → drop i whole ≡ o ∷ os → drop (suc i) whole ≡ os
    drop-suc zero [] o os e = cc
    drop-suc zero (x ∷ xs) o os e = cc
    drop-suc (suc i) [] o os e = cc
    drop-suc (suc i) (x ∷ xs) o os e = drop-suc i xs o os e

    index : (i : ℕ) (whole : List ℕ) (o : ℕ) (os : List ℕ) → drop i whole ≡ o ∷ os → slice_index whole i ≡ o
    index zero [] o os e = cc
    index zero (x ∷ xs) o os e = cc
    index (suc i) [] o os e = cc
    index (suc i) (x ∷ xs) o os e = index i xs o os e

    by : (b : Bool) → eqb o p ≡ b → ranks (suc (suc i)) os p ≡ ranks_left whole (first_rank (suc (suc i)) os p)
        → cond b (suc i ∷ ranks (suc (suc i)) os p) (ranks (suc (suc i)) os p) ≡ ranks_left whole (cond b (suc i) (first_rank (suc (suc i)) os p))
    by true e h =
        let same : p ≡ slice_index whole i = sym (eqb-true o p e) ∙ sym (index i whole o os is) in
        let left : os ≡ drop (suc i) whole = sym (drop-suc i whole o os is) in
        λ j. suc i ∷ ranks (suc (suc i)) (left j) (same j)
    by false e h = h

-- what the link of a place says
pub next-linked : (i : ℕ) (os : List ℕ) (k : ℕ) (d : Link) → k < length os → (get_or (linked i os) k d).next ≡ first_rank (i + suc k) (drop (suc k) os) (slice_index os k)
next-linked i [] k d lt = absurd (omega arith)
next-linked i (o ∷ os) zero d lt =
    let e : suc i ≡ i + 1 = omega arith in
    ap (λ (n : ℕ). first_rank n os o) e
next-linked i (o ∷ os) (suc k) d lt =
    let e : suc i + suc k ≡ i + suc (suc k) = omega arith in
    next-linked (suc i) os k d (omega arith) ∙ ap (λ (n : ℕ). first_rank n (drop (suc k) os) (slice_index os k)) e

-- a first rank is that of none, or of one of these
pub first-high : (i : ℕ) (os : List ℕ) (q : ℕ) → first_rank (suc i) os q ≤ i + length os
first-high i [] q = omega arith
first-high i (o ∷ os) q = by (eqb o q) (first-high (suc i) os q)
  where
    by : (b : Bool) → first_rank (suc (suc i)) os q ≤ suc i + length os → cond b (suc i) (first_rank (suc (suc i)) os q) ≤ i + suc (length os)
    by true h = omega arith
    by false h = omega (arith, h)

pub ends-there : (es : List Ends) (p : ℕ) (d : Ends) → p < length es → ends_at es p ≡ get_or es p d
ends-there [] p d lt = absurd (omega arith)
ends-there (x ∷ xs) zero d lt = refl
ends-there (x ∷ xs) (suc p) d lt = ends-there xs p d (omega arith)

pub ends-absent : (es : List Ends) (p : ℕ) → length es ≤ p → (ends_at es p).first ≡ 0
ends-absent [] p le = refl
ends-absent (x ∷ xs) zero le = absurd (omega arith)
ends-absent (x ∷ xs) (suc p) le = ends-absent xs p (omega arith)

pub ends-set : (es : List Ends) (o p : ℕ) (e : Ends) → o < length es → ends_at (set es o e) p ≡ cond (eqb o p) e (ends_at es p)
ends-set es o p e lt =
    elim (cases_eq o p) [
      | inl at ↦ ap (λ (q : ℕ). ends_at (set es o e) q) (sym at) ∙ get_or-set_same es o e (record { first = 0; last = 0 }) lt ∙ ap (λ (b : Bool). cond b e (ends_at es p)) (sym (tested o p at))
      | inr ne ↦ get_or-set_other es o p e (record { first = 0; last = 0 }) (λ q. ne (sym q)) ∙ ap (λ (b : Bool). cond b e (ends_at es p)) (sym (differs o p ne))
    ]

-- the ends after one more thing
pub ends-note : (es : List Ends) (o p r first last : ℕ) → o < length es → (ends_at es o).first ≡ first → rank_or first r ≡ last
    → ends_at (set es o (record { first = last; last = r })) p ≡ cond (eqb o p) (ends_with (ends_at es p) r) (ends_at es p)
ends-note es o p r first last lt is or =
    let new : Ends = record { first = last; last = r } in
    ends-set es o p new lt
    ∙ elim (cases_eq o p) [
      | inl at ↦
          let e : new ≡ ends_with (ends_at es p) r = λ i. record { first = (sym or ∙ ap (λ (k : ℕ). rank_or k r) (sym is) ∙ ap (λ (q : ℕ). rank_or (ends_at es q).first r) at) i; last = r } in
          ap (λ (x : Ends). cond (eqb o p) x (ends_at es p)) e
      | inr ne ↦ ap (λ (b : Bool). cond b new (ends_at es p)) (differs o p ne) ∙ ap (λ (b : Bool). cond b (ends_with (ends_at es p) r) (ends_at es p)) (sym (differs o p ne))
    ]

pub rank_or-some : (k r : ℕ) → (k ≡ 0 → ⊥) → rank_or k r ≡ k
rank_or-some zero r some = absurd (some refl)
rank_or-some (suc k) r some = refl

-- links and ends after one more thing
pub IsLinked-push : (ls new : List Link) (es after : List Ends) (p : ℕ) → IsLinked ls es
    → new ≡ mark 1 ls (ends_at es p).last (length ls + 1) ++ record { owner = p; next = 0 } ∷ []
    → ((q : ℕ) → ends_at after q ≡ cond (eqb p q) (ends_with (ends_at es q) (length ls + 1)) (ends_at es q)) → IsLinked new after
IsLinked-push ls new es after p ok is ends =
    let os = owners_kept ls in
    let rank : 1 + length os ≡ length ls + 1 = omega (arith, length-owners ls) in
    let owners : owners_kept new ≡ os ++ p ∷ [] = ap owners_kept is ∙ owners-push (ends_at es p).last (length ls + 1) p ls in
    let marked : new ≡ mark 1 (linked 1 os) (last_rank 1 os p) (1 + length os) ++ record { owner = p; next = 0 } ∷ [] =
    is ∙ (λ i. mark 1 (ok.links i) (ok.last p i) (sym rank i) ++ record { owner = p; next = 0 } ∷ []) in
    record {
      links = marked ∙ sym (linked-push 0 os p) ∙ ap (linked 1) (sym owners);
      first = λ q. ap (λ (e : Ends). e.first) (ends q) ∙ first-ends p q (ends_at es q) os (length ls + 1) (ok.first q) rank ∙ sym (first-push 0 os p q) ∙ ap (λ (xs : List ℕ). first_rank 1 xs q) (sym owners);
      last = λ q. ap (λ (e : Ends). e.last) (ends q) ∙ last-ends p q (ends_at es q) os (length ls + 1) (ok.last q) rank ∙ sym (last-push 0 os p q) ∙ ap (λ (xs : List ℕ). last_rank 1 xs q) (sym owners);
    }
  where
    first-ends : (p q : ℕ) (e : Ends) (os : List ℕ) (r : ℕ) → e.first ≡ first_rank 1 os q → 1 + length os ≡ r
        → (cond (eqb p q) (ends_with e r) e).first ≡ rank_or (first_rank 1 os q) (cond (eqb p q) (1 + length os) 0)
    first-ends p q e os r is rank = by (eqb p q)
      where
        none : (k : ℕ) → k ≡ rank_or k 0
        none zero = refl
        none (suc k) = refl

        by : (b : Bool) → (cond b (ends_with e r) e).first ≡ rank_or (first_rank 1 os q) (cond b (1 + length os) 0)
        by true = λ i. rank_or (is i) (sym rank i)
        by false = is ∙ none (first_rank 1 os q)

    last-ends : (p q : ℕ) (e : Ends) (os : List ℕ) (r : ℕ) → e.last ≡ last_rank 1 os q → 1 + length os ≡ r
        → (cond (eqb p q) (ends_with e r) e).last ≡ cond (eqb p q) (1 + length os) (last_rank 1 os q)
    last-ends p q e os r is rank = by (eqb p q)
      where
        by : (b : Bool) → (cond b (ends_with e r) e).last ≡ cond b (1 + length os) (last_rank 1 os q)
        by true = sym rank
        by false = is

-- the ranks that are left behind the first of them
pub left-step : (os : List ℕ) (r next : ℕ) → 0 < r → next ≡ first_rank (r + 1) (drop r os) (slice_index os (r - 1)) → ranks_left os r ≡ r ∷ ranks_left os next
left-step os zero next lt is = absurd (omega arith)
left-step os (suc k) next lt is =
    let at : suc k - 1 ≡ k = omega arith in
    let n : suc k + 1 ≡ suc (suc k) = omega arith in
    ap (λ (rs : List ℕ). suc k ∷ rs) (ranks-first (suc k) (drop (suc k) os) (slice_index os k) os refl
    ∙ ap (ranks_left os) (sym (is ∙ (λ i. first_rank (n i) (drop (suc k) os) (slice_index os (at i))))))

pub next-within : (os : List ℕ) (r next : ℕ) → r ≤ length os → next ≡ first_rank (r + 1) (drop r os) (slice_index os (r - 1)) → next ≤ length os
next-within os r next le is =
    let n : r + 1 ≡ suc r = omega arith in
    let same : next ≡ first_rank (suc r) (drop r os) (slice_index os (r - 1)) = is ∙ ap (λ (m : ℕ). first_rank m (drop r os) (slice_index os (r - 1))) n in
    omega (arith, same, first-high r (drop r os) (slice_index os (r - 1)), length-drop r os, le)

-- a write to the place of a rank is a mark
pub marked : (ls : List Link) (l : Link) (k r : ℕ) → 0 < k → k ≤ length ls → l ≡ get_or ls (k - 1) l → set ls (k - 1) (record { owner = l.owner; next = r }) ≡ mark 1 ls k r
marked ls l k r lt le is =
    let at : 1 + (k - 1) ≡ k = omega (arith, lt) in
    ap (λ (x : Link). set ls (k - 1) (record { owner = x.owner; next = r })) is ∙ sym (mark-set 1 (k - 1) r ls l (omega (arith, lt, le))) ∙ ap (λ (n : ℕ). mark 1 ls n r) at

pub IsLinked-same : (ls new : List Link) (es after : List Ends) → new ≡ ls → ((p : ℕ) → ends_at after p ≡ ends_at es p) → IsLinked ls es → IsLinked new after
IsLinked-same ls new es after links ends ok = record {
  links = links ∙ ok.links ∙ ap (λ (ms : List Link). linked 1 (owners_kept ms)) (sym links);
  first = λ p. ap (λ (e : Ends). e.first) (ends p) ∙ ok.first p ∙ ap (λ (ms : List Link). first_rank 1 (owners_kept ms) p) (sym links);
  last = λ p. ap (λ (e : Ends). e.last) (ends p) ∙ ok.last p ∙ ap (λ (ms : List Link). last_rank 1 (owners_kept ms) p) (sym links);
}
