-- Values in one buffer after one of them is written anew.
use Rattle.std.proofs.Common.{◌≡◌, ℕ, zero, suc, ◌+◌, ◌<◌, ◌≤◌, List, [], ◌∷◌, ◌++◌, length, take, drop, get_or, set, slice_get, Some, refl, sym, ap, subst, ◌∙◌, inl, inr, arith}
use Rattle.std.specs.List.{AllByRecursion}
use Rattle.std.proofs.lemmas.List.{append_assoc, take-append-drop, take-append-le, drop-append-le, drop-take, length-take-le, length-drop, length-append, set-get_or}
use Rattle.std.proofs.lemmas.Slice.{drop-append-drop}
use Rattle.std.proofs.Math.ListN.{drop_of_length-le}
use Rattle.std.proofs.Math.Seq.{take-append_seam}
use Rattle.dt_flat.specs.declared.values.Span.{Span}
use Rattle.dt_flat.specs.Values.{cut, cuts, AreApart, AreAllApart, AreCuts}

-- bytes with others from a place on
abbrev pub with_bytes : List ℕ → ℕ → List ℕ → List ℕ
with_bytes b o w = take o b ++ (w ++ drop (o + length w) b)

drop-drop : (n m : ℕ) (xs : List ℕ) → drop m (drop n xs) ≡ drop (n + m) xs
drop-drop zero m xs = let e : m ≡ 0 + m = omega arith in ap (λ (k : ℕ). drop k xs) e
drop-drop (suc n) m [] = drop_of_length-le [] {i = m} (omega arith) ∙ sym (drop_of_length-le [] {i = suc n + m} (omega arith))
drop-drop (suc n) m (x ∷ xs) = let e : suc (n + m) ≡ suc n + m = omega arith in drop-drop n m xs ∙ ap (λ (k : ℕ). drop k (x ∷ xs)) e

pub length-with : (b : List ℕ) (o : ℕ) (w : List ℕ) → o + length w ≤ length b → length (with_bytes b o w) ≡ length b
length-with b o w le =
    omega (arith, le, length-append (take o b) (w ++ drop (o + length w) b), length-append w (drop (o + length w) b), length-take-le o b (omega (arith, le)), length-drop (o + length w) b)

-- what is written in the front part of some bytes
with-front : (v e : List ℕ) (o : ℕ) (w : List ℕ) → o + length w ≤ length v → with_bytes (v ++ e) o w ≡ with_bytes v o w ++ e
with-front v e o w le =
    (λ i. take-append-le o v e (omega (arith, le)) i ++ (w ++ drop-append-le (o + length w) v e le i))
    ∙ ap (λ (xs : List ℕ). take o v ++ xs) (sym (append_assoc w (drop (o + length w) v) e))
    ∙ sym (append_assoc (take o v) (w ++ drop (o + length w) v) e)

-- and behind a place
with-behind : (b : List ℕ) (n o : ℕ) (w : List ℕ) → n + o + length w ≤ length b → drop n (with_bytes b (n + o) w) ≡ with_bytes (drop n b) o w
with-behind b n o w le =
    let sum : n + o + length w ≡ n + (o + length w) = omega arith in
    drop-append-le n (take (n + o) b) (w ++ drop (n + o + length w) b) (omega (arith, le, length-take-le (n + o) b (omega (arith, le))))
    ∙ (λ i. drop-take n o b i ++ (w ++ (ap (λ (k : ℕ). drop k b) sum ∙ sym (drop-drop n (o + length w) b)) i))

length-cut : (b : List ℕ) (s : Span) → s.start + s.len ≤ length b → length (cut b s) ≡ s.len
length-cut b s le = length-take-le s.len (drop s.start b) (omega (arith, le, length-drop s.start b))

pub cut-length : (b : List ℕ) (s : Span) → s.start + s.len ≤ length b → length (cut b s) ≡ s.len
cut-length b s le = length-cut b s le

-- the span in which it is written
pub cut-inner : (b : List ℕ) (s : Span) (o : ℕ) (w : List ℕ) → s.start + s.len ≤ length b → o + length w ≤ s.len → cut (with_bytes b (s.start + o) w) s ≡ with_bytes (cut b s) o w
cut-inner b s o w within le =
    let d = drop s.start b in
    let v = cut b s in
    let size : length v ≡ s.len = length-cut b s within in
    let whole : length (with_bytes v o w) ≡ s.len = length-with v o w (omega (arith, le, size)) ∙ size in
    ap (take s.len) (with-behind b s.start o w (omega (arith, within, le)) ∙ ap (λ (xs : List ℕ). with_bytes xs o w) (sym (take-append-drop s.len d)) ∙ with-front v (drop s.len d) o w (omega (arith, le, size)))
    ∙ ap (λ (n : ℕ). take n (with_bytes v o w ++ drop s.len d)) (sym whole) ∙ take-append_seam (with_bytes v o w) (drop s.len d)

-- the bytes themselves
pub cut-written : (b : List ℕ) (s : Span) (w : List ℕ) → s.start + s.len ≤ length b → length w ≤ s.len → cut (with_bytes b s.start w) (record { start = s.start; len = length w }) ≡ w
cut-written b s w within le =
    let z : s.start ≡ s.start + 0 = omega arith in
    ap (λ (n : ℕ). take (length w) (drop s.start (with_bytes b n w))) z ∙ ap (take (length w)) (with-behind b s.start 0 w (omega (arith, within, le))) ∙ take-append_seam w (drop (0 + length w) (drop s.start b))

-- another span before what is written, or behind it
cut-front : (p r q : List ℕ) (t : Span) → t.start + t.len ≤ length p → cut (p ++ r) t ≡ cut (p ++ q) t
cut-front p r q t le = one r ∙ sym (one q)
  where
    one : (r : List ℕ) → cut (p ++ r) t ≡ take t.len (drop t.start p)
    one r = ap (take t.len) (drop-append-le t.start p r (omega (arith, le))) ∙ take-append-le t.len (drop t.start p) r (omega (arith, le, length-drop t.start p))

pub cut-other : (b : List ℕ) (s t : Span) (o : ℕ) (w : List ℕ) → s.start + s.len ≤ length b → o + length w ≤ s.len → AreApart s t → cut (with_bytes b (s.start + o) w) t ≡ cut b t
cut-other b s t o w within le (inl before) =
    let a = s.start + o in
    let e = a + length w in
    let size : length (take a b ++ w) ≡ e = length-append (take a b) w ∙ ap (λ (n : ℕ). n + length w) (length-take-le a b (omega (arith, within, le))) in
    ap (λ (xs : List ℕ). take t.len (drop t.start xs)) (sym (append_assoc (take a b) w (drop e b))) ∙ ap (take t.len) (drop-append-drop e b (take a b ++ w) t.start (omega (arith, within, le, before)) size)
cut-other b s t o w within le (inr behind) =
    let a = s.start + o in
    cut-front (take a b) (w ++ drop (a + length w) b) (drop a b) t (omega (arith, behind, length-take-le a b (omega (arith, within, le)))) ∙ ap (λ (xs : List ℕ). cut xs t) (take-append-drop a b)

-- a span of bytes that others come behind
pub cut-pushed : (b w : List ℕ) (t : Span) → t.start + t.len ≤ length b → cut (b ++ w) t ≡ cut b t
cut-pushed b w t le = cut-front b w [] t le ∙ ap (λ (xs : List ℕ). cut xs t) (append-none b)
  where
    append-none : (xs : List ℕ) → xs ++ [] ≡ xs
    append-none [] = refl
    append-none (x ∷ xs) = ap (λ (ys : List ℕ). x ∷ ys) (append-none xs)

-- and the span of those
pub cut-last : (b w : List ℕ) → cut (b ++ w) (record { start = length b; len = length w }) ≡ w
cut-last b w =
    ap (take (length w)) (drop-seam b w) ∙ take-all w
  where
    drop-seam : (b w : List ℕ) → drop (length b) (b ++ w) ≡ w
    drop-seam [] w = refl
    drop-seam (x ∷ xs) w = drop-seam xs w

    take-all : (w : List ℕ) → take (length w) w ≡ w
    take-all [] = refl
    take-all (x ∷ xs) = ap (λ (ys : List ℕ). x ∷ ys) (take-all xs)

-- ---- all spans

pub length-cuts : (b : List ℕ) (ss : List Span) → length (cuts b ss) ≡ length ss
length-cuts b [] = refl
length-cuts b (s ∷ ss) = ap suc (length-cuts b ss)

pub cut-at : (b : List ℕ) (ss : List Span) (k : ℕ) (s : Span) → k < length ss → s ≡ get_or ss k s → slice_get (cuts b ss) k ≡ Some (cut b s)
cut-at b [] k s lt is = absurd (omega (arith, lt))
cut-at b (x ∷ xs) zero s lt is = ap (λ (y : Span). Some (cut b y)) (sym is)
cut-at b (x ∷ xs) (suc k) s lt is = cut-at b xs k s (omega (arith, lt)) is

pub span-within : (n : ℕ) (ss : List Span) (k : ℕ) (s : Span) → k < length ss → s ≡ get_or ss k s → AllByRecursion (λ s. s.start + s.len ≤ n) ss → s.start + s.len ≤ n
span-within n [] k s lt is ok = absurd (omega (arith, lt))
span-within n (x ∷ xs) zero s lt is ok = subst (λ (y : Span). y.start + y.len ≤ n) (sym is) ok.0
span-within n (x ∷ xs) (suc k) s lt is ok = span-within n xs k s (omega (arith, lt)) is ok.1

apart_sym : (s t : Span) → AreApart s t → AreApart t s
apart_sym s t (inl e) = inr e
apart_sym s t (inr e) = inl e

apart-at : (x s : Span) (ss : List Span) (k : ℕ) → k < length ss → s ≡ get_or ss k s → AllByRecursion (AreApart x) ss → AreApart s x
apart-at x s [] k lt is ok = absurd (omega (arith, lt))
apart-at x s (y ∷ ys) zero lt is ok = subst (λ (z : Span). AreApart z x) (sym is) (apart_sym x y ok.0)
apart-at x s (y ∷ ys) (suc k) lt is ok = apart-at x s ys k (omega (arith, lt)) is ok.1

cuts-same : (b c : List ℕ) (n : ℕ) (P : Span → Type 0) (ts : List Span) → ((t : Span) → P t → t.start + t.len ≤ n → cut c t ≡ cut b t) → AllByRecursion P ts → AllByRecursion (λ s. s.start + s.len ≤ n) ts → cuts c ts ≡ cuts b ts
cuts-same b c n P [] same ok within = refl
cuts-same b c n P (t ∷ ts) same ok within = λ i. same t ok.0 within.0 i ∷ cuts-same b c n P ts same ok.1 within.1 i

-- one span of other bytes, where those apart from it have the bytes that they had
pub cuts-set : (b c : List ℕ) (n : ℕ) (ss : List Span) (k : ℕ) (s new : Span) (w : List ℕ) → k < length ss → s ≡ get_or ss k s → ((t : Span) → AreApart s t → t.start + t.len ≤ n → cut c t ≡ cut b t) → cut c new ≡ w
    → AllByRecursion (λ s. s.start + s.len ≤ n) ss → AreAllApart ss → cuts c (set ss k new) ≡ set (cuts b ss) k w
cuts-set b c n [] k s new w lt is same written within apart = absurd (omega (arith, lt))
cuts-set b c n (x ∷ xs) zero s new w lt is same written within apart =
    λ i. written i ∷ cuts-same b c n (AreApart s) xs same (subst (λ (y : Span). AllByRecursion (AreApart y) xs) (sym is) apart.0) within.1 i
cuts-set b c n (x ∷ xs) (suc k) s new w lt is same written within apart =
    λ i. same x (apart-at x s xs k (omega (arith, lt)) is apart.0) within.0 i ∷ cuts-set b c n xs k s new w (omega (arith, lt)) is same written within.1 apart.1 i

all-set : (P : Span → Type 0) (ss : List Span) (k : ℕ) (new : Span) → P new → AllByRecursion P ss → AllByRecursion P (set ss k new)
all-set P [] k new here ok = tt
all-set P (x ∷ xs) zero new here ok = (here, ok.1)
all-set P (x ∷ xs) (suc k) new here ok = (ok.0, all-set P xs k new here ok.1)

all-map : (P Q : Span → Type 0) (ss : List Span) → ((t : Span) → P t → Q t) → AllByRecursion P ss → AllByRecursion Q ss
all-map P Q [] f ok = tt
all-map P Q (x ∷ xs) f ok = (f x ok.0, all-map P Q xs f ok.1)

all-both : (P Q R : Span → Type 0) (ss : List Span) → ((t : Span) → P t → Q t → R t) → AllByRecursion P ss → AllByRecursion Q ss → AllByRecursion R ss
all-both P Q R [] f p q = tt
all-both P Q R (x ∷ xs) f p q = (f x p.0 q.0, all-both P Q R xs f p.1 q.1)

apart-set : (n : ℕ) (ss : List Span) (k : ℕ) (s new : Span) → k < length ss → s ≡ get_or ss k s → ((t : Span) → AreApart s t → t.start + t.len ≤ n → AreApart new t)
    → AllByRecursion (λ s. s.start + s.len ≤ n) ss → AreAllApart ss → AreAllApart (set ss k new)
apart-set n [] k s new lt is away within apart = absurd (omega (arith, lt))
apart-set n (x ∷ xs) zero s new lt is away within apart =
    (all-both (AreApart s) (λ s. s.start + s.len ≤ n) (AreApart new) xs away (subst (λ (y : Span). AllByRecursion (AreApart y) xs) (sym is) apart.0) within.1, apart.1)
apart-set n (x ∷ xs) (suc k) s new lt is away within apart =
    let here = away x (apart-at x s xs k (omega (arith, lt)) is apart.0) within.0 in
    (all-set (AreApart x) xs k new (apart_sym new x here) apart.0, apart-set n xs k s new (omega (arith, lt)) is away within.1 apart.1)

-- ---- the changes

-- the last value put in the place of another
pub last-moved : (b : List ℕ) (ss : List Span) (k : ℕ) (x : Span) (vs : List (List ℕ)) (v : List ℕ) → AreCuts b (ss ++ x ∷ []) → cuts b (ss ++ x ∷ []) ≡ vs ++ v ∷ []
    → (cuts b (set ss k x) ≡ set vs k v) × AreCuts b (set ss k x)
last-moved b ss k x vs v ok is =
    let ends = same_ends (cuts b ss) vs (cut b x) v (sym (cuts-end ss) ∙ is) in (
      cuts-moved ss k ∙ (λ i. set (ends.0 i) k (ends.1 i)),
      record {
        within = all-set (λ s. s.start + s.len ≤ length b) ss k x (all-last (λ s. s.start + s.len ≤ length b) ss ok.within) (all-front (λ s. s.start + s.len ≤ length b) ss ok.within);
        apart = apart-moved ss k ok.apart;
      },
    )
  where
    cuts-end : (ss : List Span) → cuts b (ss ++ x ∷ []) ≡ cuts b ss ++ cut b x ∷ []
    cuts-end [] = refl
    cuts-end (s ∷ ss) = ap (λ (vs : List (List ℕ)). cut b s ∷ vs) (cuts-end ss)

    cuts-moved : (ss : List Span) (k : ℕ) → cuts b (set ss k x) ≡ set (cuts b ss) k (cut b x)
    cuts-moved [] k = refl
    cuts-moved (s ∷ ss) zero = refl
    cuts-moved (s ∷ ss) (suc k) = ap (λ (vs : List (List ℕ)). cut b s ∷ vs) (cuts-moved ss k)

    same_ends : (xs ys : List (List ℕ)) (p q : List ℕ) → xs ++ p ∷ [] ≡ ys ++ q ∷ [] → (xs ≡ ys) × (p ≡ q)
    same_ends [] [] p q e = (refl, (let h : p ≡ q = cc in h))
    same_ends [] (y ∷ []) p q e = cc
    same_ends [] (y ∷ z ∷ ys) p q e = cc
    same_ends (z ∷ []) [] p q e = cc
    same_ends (z ∷ w ∷ xs) [] p q e = cc
    same_ends (z ∷ xs) (y ∷ ys) p q e =
        let head : z ≡ y = cc in
        let rest : xs ++ p ∷ [] ≡ ys ++ q ∷ [] = cc in
        let more = same_ends xs ys p q rest in
        ((λ i. head i ∷ more.0 i), more.1)

    all-front : (P : Span → Type 0) (ss : List Span) → AllByRecursion P (ss ++ x ∷ []) → AllByRecursion P ss
    all-front P [] ok = tt
    all-front P (s ∷ ss) ok = (ok.0, all-front P ss ok.1)

    all-last : (P : Span → Type 0) (ss : List Span) → AllByRecursion P (ss ++ x ∷ []) → P x
    all-last P [] ok = ok.0
    all-last P (s ∷ ss) ok = all-last P ss ok.1

    apart-front : (ss : List Span) → AreAllApart (ss ++ x ∷ []) → AllByRecursion (AreApart x) ss × AreAllApart ss
    apart-front [] ok = (tt, tt)
    apart-front (s ∷ ss) ok = let rest = apart-front ss ok.1 in ((apart_sym s x (all-last (AreApart s) ss ok.0), rest.0), (all-front (AreApart s) ss ok.0, rest.1))

    apart-moved : (ss : List Span) (k : ℕ) → AreAllApart (ss ++ x ∷ []) → AreAllApart (set ss k x)
    apart-moved [] k ok = tt
    apart-moved (s ∷ ss) zero ok = apart-front ss ok.1
    apart-moved (s ∷ ss) (suc k) ok = (all-set (AreApart s) ss k x (all-last (AreApart s) ss ok.0) (all-front (AreApart s) ss ok.0), apart-moved ss k ok.1)

-- one more value
pub pushed : (b c : List ℕ) (ss : List Span) (w : List ℕ) → c ≡ b ++ w → AreCuts b ss
    → (cuts c (ss ++ record { start = length b; len = length w } ∷ []) ≡ cuts b ss ++ w ∷ []) × AreCuts c (ss ++ record { start = length b; len = length w } ∷ [])
pushed b c ss w made ok =
    let n = length b in
    let new : Span = record { start = length b; len = length w } in
    let size : length c ≡ n + length w = ap (λ (xs : List ℕ). length xs) made ∙ length-append b w in (
      cuts-push ss ok.within,
      record {
        within = all-push (λ s. s.start + s.len ≤ length c) ss new (all-map (λ s. s.start + s.len ≤ n) (λ s. s.start + s.len ≤ length c) ss (λ t fits. omega (arith, fits, size)) ok.within) (omega (arith, size));
        apart = apart-push ss ok.within ok.apart;
      },
    )
  where
    cuts-push : (ss : List Span) → AllByRecursion (λ s. s.start + s.len ≤ length b) ss → cuts c (ss ++ record { start = length b; len = length w } ∷ []) ≡ cuts b ss ++ w ∷ []
    cuts-push [] ok = ap (λ (v : List ℕ). v ∷ []) (ap (λ (xs : List ℕ). cut xs (record { start = length b; len = length w })) made ∙ cut-last b w)
    cuts-push (s ∷ ss) ok = λ i. (ap (λ (xs : List ℕ). cut xs s) made ∙ cut-pushed b w s ok.0) i ∷ cuts-push ss ok.1 i

    all-push : (P : Span → Type 0) (ss : List Span) (x : Span) → AllByRecursion P ss → P x → AllByRecursion P (ss ++ x ∷ [])
    all-push P [] x ok here = (here, tt)
    all-push P (y ∷ ys) x ok here = (ok.0, all-push P ys x ok.1 here)

    apart-push : (ss : List Span) → AllByRecursion (λ s. s.start + s.len ≤ length b) ss → AreAllApart ss → AreAllApart (ss ++ record { start = length b; len = length w } ∷ [])
    apart-push [] ok apart = (tt, tt)
    apart-push (s ∷ ss) ok apart = (behind s ss ok.0 apart.0, apart-push ss ok.1 apart.1)
      where
        behind : (s : Span) (ss : List Span) → s.start + s.len ≤ length b → AllByRecursion (AreApart s) ss → AllByRecursion (AreApart s) (ss ++ record { start = length b; len = length w } ∷ [])
        behind s [] le ok = (inl le, tt)
        behind s (t ∷ ts) le ok = (ok.0, behind s ts le ok.1)

-- a part of a value
pub patched : (b c : List ℕ) (ss : List Span) (k : ℕ) (s : Span) (o : ℕ) (w : List ℕ) → k < length ss → s ≡ get_or ss k s → o + length w ≤ s.len → c ≡ with_bytes b (s.start + o) w → AreCuts b ss
    → (cuts c ss ≡ set (cuts b ss) k (with_bytes (cut b s) o w)) × AreCuts c ss
patched b c ss k s o w lt is le made ok =
    let n = length b in
    let within = span-within n ss k s lt is ok.within in
    let size : length c ≡ n = ap (λ (xs : List ℕ). length xs) made ∙ length-with b (s.start + o) w (omega (arith, within, le)) in
    let stays : set ss k s ≡ ss = ap (set ss k) is ∙ set-get_or ss k s in (
      ap (cuts c) (sym stays)
          ∙ cuts-set b c n ss k s s (with_bytes (cut b s) o w) lt is (λ t apart le'. ap (λ (xs : List ℕ). cut xs t) made ∙ cut-other b s t o w within le apart) (ap (λ (xs : List ℕ). cut xs s) made ∙ cut-inner b s o w within le) ok.within ok.apart,
      record { within = all-map (λ s. s.start + s.len ≤ n) (λ s. s.start + s.len ≤ length c) ss (λ t fits. omega (arith, fits, size)) ok.within; apart = ok.apart },
    )

-- the first values alone
pub cuts-take : (b : List ℕ) (ss : List Span) (n : ℕ) → cuts b (take n ss) ≡ take n (cuts b ss)
cuts-take b ss zero = refl
cuts-take b [] (suc n) = refl
cuts-take b (s ∷ ss) (suc n) = ap (λ (vs : List (List ℕ)). cut b s ∷ vs) (cuts-take b ss n)

all-take : (P : Span → Type 0) (ss : List Span) (n : ℕ) → AllByRecursion P ss → AllByRecursion P (take n ss)
all-take P ss zero ok = tt
all-take P [] (suc n) ok = tt
all-take P (s ∷ ss) (suc n) ok = (ok.0, all-take P ss n ok.1)

apart-take : (ss : List Span) (n : ℕ) → AreAllApart ss → AreAllApart (take n ss)
apart-take ss zero ok = tt
apart-take [] (suc n) ok = tt
apart-take (s ∷ ss) (suc n) ok = (all-take (AreApart s) ss n ok.0, apart-take ss n ok.1)

pub taken : (b : List ℕ) (ss new : List Span) (n : ℕ) → new ≡ take n ss → AreCuts b ss → AreCuts b new
taken b ss new n is ok = subst (AreCuts b) (sym is) (record { within = all-take (λ s. s.start + s.len ≤ length b) ss n ok.within; apart = apart-take ss n ok.apart })

pub take-last : (vs : List (List ℕ)) (v : List ℕ) (n : ℕ) → n ≡ length vs → take n (vs ++ v ∷ []) ≡ vs
take-last vs v n is = ap (λ (k : ℕ). take k (vs ++ v ∷ [])) is ∙ take-append_seam vs (v ∷ [])

pub length-last : (vs : List (List ℕ)) (v : List ℕ) → length (vs ++ v ∷ []) ≡ suc (length vs)
length-last [] v = refl
length-last (x ∷ xs) v = ap suc (length-last xs v)

pub index-of : (vs : List (List ℕ)) (k : ℕ) (v : List ℕ) → slice_get vs k ≡ Some v → (n : ℕ) → length vs ≡ n → k < n
index-of [] k v e n is = cc
index-of (x ∷ xs) zero v e n is = omega (arith, is)
index-of (x ∷ xs) (suc k) v e zero is = absurd (omega (arith, is))
index-of (x ∷ xs) (suc k) v e (suc n) is = let lt : k < n = index-of xs k v e n (omega (arith, is)) in omega (arith, lt)

pub same_some : (x y : List ℕ) → Some x ≡ Some y → x ≡ y
same_some x y e = cc
