-- What is kept of places after a node lands, and after a place gets its number.
use Rattle.std.proofs.Common.{◌≡◌, ℕ, ◌≤◌, Bool, true, false, ◌||◌, List, [], ◌∷◌, ◌++◌, Option, Some, None, refl, sym, ap, subst, ◌∙◌, inl, inr, true≢false, arith}
use Rattle.std.specs.Prelude.{is_some, option_and_then, nat_eq, if◌then◌else◌}
use Rattle.std.specs.Global.{Vec}
use Rattle.std.specs.HashMap.{HashMap, UpdatesBy}
use Rattle.std.specs.List.{AllByRecursion, list_any}
use Rattle.std.specs.Map.{KeepsOthers}
use Rattle.std.specs.Option.{option_or}
use Rattle.std.specs.Str.{bytes_eq}
use Rattle.std.proofs.lemmas.Bool.{cases_lt, eqb-true}
use Rattle.std.proofs.lemmas.Bool.Decides.{Decides-eqb}
use Rattle.std.proofs.lemmas.List.Folds.{list_any-append}
use Rattle.dt_model.specs.Lists.{IsIn}
use Rattle.dt_model.specs.Names.{IsNodeName}
use Rattle.dt_model.specs.Numbers.{numbers_of, number_in, IsLeastFree}
use Rattle.dt_model.specs.Path.{Path, path_eq, path_value}
use Rattle.dt_model.specs.Tree.{Reading}
use Rattle.dt_model.proofs.Tests.{bytes_eq_refl, bytes_eq_true, path_eq_refl, path_eq_true, any_from, any_here, in_left, in_right, in_append}
use Rattle.dt_model.proofs.Texts.{one_value}
use Rattle.dt_overlay_model.specs.Walk.{place_given}
use Rattle.dt_overlay_model.proofs.Places.{numbers, number_in-last, in_last}
use Rattle.dt_overlay_base.specs.Known.{Known, kept_at, place_of_number, IsKnown}
use Rattle.dt_overlay_base.specs.Known.{IsNext}

-- ---- one entry changes

by_bool : {A : Type 0} (b : Bool) → (b ≡ true → A) → (b ≡ false → A) → A
by_bool true f g = f refl
by_bool false f g = g refl

pub kept_after : {S : Type 0} (m n : HashMap (Vec ℕ) (Option ℕ) S) (k : Vec ℕ) (w : Option ℕ) (p q : Path) → AllByRecursion IsNodeName p → AllByRecursion IsNodeName q → k.items ≡ path_value p
    → UpdatesBy (λ (a b : Vec ℕ). bytes_eq a.items b.items) (λ (b : Vec ℕ). bytes_eq k.items b.items) m n (Some w)
    → kept_at n.entries q ≡ (if path_eq p q then Some w else kept_at m.entries q)
unfolding KeepsOthers
kept_after m n k w p q named_p named_q text u =
    by_bool (bytes_eq k.items (path_value q))
    (λ yes.
    let e : k.items ≡ path_value q = bytes_eq_true k.items (path_value q) yes in
    let same : p ≡ q = one_value p q named_p named_q (sym text ∙ e) in
    let eq : path_eq p q ≡ true = ap (path_eq p) (sym same) ∙ path_eq_refl p in
    rw eq (rw (← e) u.1))
    (λ no.
    let eq : path_eq p q ≡ false = differ (path_eq p q) refl no in
    rw eq
    (u.3 (λ (b : Vec ℕ). bytes_eq (path_value q) b.items)
    (λ a b yes. let e : path_value q ≡ a.items = bytes_eq_true (path_value q) a.items yes in rw e refl)
    (λ a yes.
    let e : k.items ≡ a.items = bytes_eq_true k.items a.items yes in
    by_bool (bytes_eq (path_value q) a.items)
    (λ yes'.
    let e' : path_value q ≡ a.items = bytes_eq_true (path_value q) a.items yes' in
    let same : bytes_eq k.items (path_value q) ≡ true = rw (e, e') (bytes_eq_refl a.items) in
    cc)
    (λ no'. no'))))
  where
    differ : (b : Bool) → path_eq p q ≡ b → bytes_eq k.items (path_value q) ≡ false → b ≡ false
    differ false e other = refl
    differ true e other =
        let same : k.items ≡ path_value q = text ∙ ap path_value (path_eq_true p q e) in
        absurd (true≢false (sym (ap (bytes_eq k.items) (sym same) ∙ bytes_eq_refl k.items) ∙ other))

-- ---- a node lands

module _ (base : Reading) (given : List (Path × ℕ)) (landed : List Path) (a : Known) (known : IsKnown base given landed a) (p : Path) (named : AllByRecursion IsNodeName p) where
  -- where something landed before
  pub entered_there : is_some (kept_at a.landed p) ≡ true → IsKnown base given (landed ++ p ∷ []) a
  entered_there there = record {
    places = λ q named_q. (
      (λ e. in_left q landed (p ∷ []) ((known.places q named_q).0 e)),
      (λ i. elim (in_last q p landed i) [
        | inl j ↦ (known.places q named_q).1 j
        | inr same ↦ ap (λ r. is_some (kept_at a.landed r)) same ∙ there
      ]),
    );
    numbers = known.numbers;
    paths = known.paths;
    low = known.low;
    high = known.high;
  }

  -- and where nothing did
  pub entered : (b : Known) → is_some (kept_at a.landed p) ≡ false → ((q : Path) → AllByRecursion IsNodeName q → kept_at b.landed q ≡ (if path_eq p q then Some None else kept_at a.landed q))
      → ((m : ℕ) → place_of_number b m ≡ place_of_number a m) → b.last ≡ a.last → IsKnown base given (landed ++ p ∷ []) b
  entered b nothing after same_paths same_last = record {
    places = λ q named_q. place q named_q (path_eq p q) refl;
    numbers = λ q named_q. number q named_q (path_eq p q) refl;
    paths = λ n. same_paths n ∙ known.paths n;
    low = λ n one le. known.low n one (omega (arith, le, same_last));
    high = λ n i. let le = known.high n i in omega (arith, le, same_last);
  }
    where
      here : (q : Path) → AllByRecursion IsNodeName q → (t : Bool) → path_eq p q ≡ t → kept_at b.landed q ≡ (if t then Some None else kept_at a.landed q)
      here q named_q t e = after q named_q ∙ ap (λ (c : Bool). if c then Some None else kept_at a.landed q) e

      place : (q : Path) → AllByRecursion IsNodeName q → (t : Bool) → path_eq p q ≡ t → (is_some (kept_at b.landed q) ≡ true → IsIn q (landed ++ p ∷ [])) × (IsIn q (landed ++ p ∷ []) → is_some (kept_at b.landed q) ≡ true)
      place q named_q true e = (
        (λ k. in_right q landed (p ∷ []) (inl (sym (path_eq_true p q e)))),
        (λ i. ap is_some (here q named_q true e)),
      )
      place q named_q false e = (
        (λ k. in_left q landed (p ∷ []) ((known.places q named_q).0 (sym (ap is_some (here q named_q false e)) ∙ k))),
        (λ i. elim (in_last q p landed i) [
          | inl j ↦ ap is_some (here q named_q false e) ∙ (known.places q named_q).1 j
          | inr same ↦ absurd (true≢false (sym (ap (path_eq p) same ∙ path_eq_refl p) ∙ e))
        ]),
      )

      number : (q : Path) → AllByRecursion IsNodeName q → (t : Bool) → path_eq p q ≡ t → option_and_then (λ n. n) (kept_at b.landed q) ≡ number_in given q
      number q named_q false e = ap (option_and_then (λ n. n)) (here q named_q false e) ∙ known.numbers q named_q
      number q named_q true e =
          let same : p ≡ q = path_eq_true p q e in
          ap (option_and_then (λ n. n)) (here q named_q true e) ∙ none (kept_at a.landed p) nothing ∙ known.numbers p named ∙ ap (number_in given) same
        where
          none : (o : Option (Option ℕ)) → is_some o ≡ false → None ≡ option_and_then (λ n. n) o
          none None k = refl
          none (Some m) k = absurd (true≢false k)

-- ---- a place gets a number

place_given-last : (given : List (Path × ℕ)) (p : Path) (n m : ℕ) → place_given (given ++ (p, n) ∷ []) m ≡ option_or (place_given given m) (if nat_eq m n then Some p else None)
place_given-last [] p n m = refl
place_given-last ((q, k) ∷ given) p n m = step (nat_eq m k) (place_given-last given p n m)
  where
    step : (b : Bool) → place_given (given ++ (p, n) ∷ []) m ≡ option_or (place_given given m) (if nat_eq m n then Some p else None)
        → (if b then Some q else place_given (given ++ (p, n) ∷ []) m) ≡ option_or (if b then Some q else place_given given m) (if nat_eq m n then Some p else None)
    step true more = refl
    step false more = more

-- a place that a number finds got it
pub given_number : (given : List (Path × ℕ)) (m : ℕ) (p : Path) → place_given given m ≡ Some p → IsIn m (numbers given)
given_number [] m p e = absurd (let z : None ≡ Some p = e in cc)
given_number ((q, k) ∷ given) m p e = step (nat_eq m k) refl e (λ h. given_number given m p h)
  where
    step : (b : Bool) → nat_eq m k ≡ b → (if b then Some q else place_given given m) ≡ Some p → (place_given given m ≡ Some p → IsIn m (numbers given)) → IsIn m (k ∷ numbers given)
    step true t h more = inl (eqb-true m k t)
    step false t h more = inr (more h)

numbers_last : (given : List (Path × ℕ)) (p : Path) (n : ℕ) → numbers (given ++ (p, n) ∷ []) ≡ numbers given ++ n ∷ []
numbers_last [] p n = refl
numbers_last (x ∷ given) p n = ap (λ ns. x.1 ∷ ns) (numbers_last given p n)

module _ (base : Reading) (given : List (Path × ℕ)) (landed : List Path) (a : Known) (known : IsKnown base given landed a) (p : Path) (named : AllByRecursion IsNodeName p) (n : ℕ)
    (there : IsIn p landed) (bare : number_in given p ≡ None) (next : IsNext (numbers_of base) a.last n) where
  abbrev taken : List ℕ
  taken = numbers given ++ numbers_of base

  -- nobody has the number, and each below it is somebody's
  pub next_is_least : IsLeastFree taken n
  next_is_least = record {
    low = let above = next.above in omega (arith, above);
    free = list_any-append (nat_eq n) (numbers given) (numbers_of base) ∙ free (list_any (nat_eq n) (numbers given)) refl;
    least = λ k one less. elim (cases_lt a.last k) [
      | inl above ↦ in_base k (next.between k above less)
      | inr within ↦ known.low k one within
    ];
  }
    where
      in_base : (k : ℕ) → list_any (nat_eq k) (numbers_of base) ≡ true → list_any (nat_eq k) taken ≡ true
      in_base k e = let w = any_from (nat_eq k) (numbers_of base) e in any_here (nat_eq k) taken w.0 (in_right w.0 (numbers given) (numbers_of base) w.1) w.2

      free : (t : Bool) → list_any (nat_eq n) (numbers given) ≡ t → t || list_any (nat_eq n) (numbers_of base) ≡ false
      free false e = next.free
      free true e =
          let w = any_from (nat_eq n) (numbers given) e in
          let same : n ≡ w.0 = eqb-true n w.0 w.2 in
          let le = known.high w.0 w.1 in
          absurd (omega (arith, same, le, next.above))

  pub given_more : (b : Known) → ((q : Path) → AllByRecursion IsNodeName q → kept_at b.landed q ≡ (if path_eq p q then Some (Some n) else kept_at a.landed q))
      → ((m : ℕ) → place_of_number b m ≡ (if nat_eq n m then Some p else place_of_number a m)) → b.last ≡ n → IsKnown base (given ++ (p, n) ∷ []) landed b
  given_more b after paths last = record {
    places = λ q named_q. place q named_q (path_eq p q) refl;
    numbers = λ q named_q. number q named_q (path_eq p q) refl ∙ sym (number_in-last given p q n);
    paths = λ m. path m (nat_eq n m) refl ∙ sym (place_given-last given p n m);
    low = λ m one le. low m one (omega (arith, le, last));
    high = λ m i. high m (subst (IsIn m) (numbers_last given p n) i);
  }
    where
      here : (q : Path) → AllByRecursion IsNodeName q → (t : Bool) → path_eq p q ≡ t → kept_at b.landed q ≡ (if t then Some (Some n) else kept_at a.landed q)
      here q named_q t e = after q named_q ∙ ap (λ (c : Bool). if c then Some (Some n) else kept_at a.landed q) e

      place : (q : Path) → AllByRecursion IsNodeName q → (t : Bool) → path_eq p q ≡ t → (is_some (kept_at b.landed q) ≡ true → IsIn q landed) × (IsIn q landed → is_some (kept_at b.landed q) ≡ true)
      place q named_q true e = (
        (λ k. subst (λ r. IsIn r landed) (path_eq_true p q e) there),
        (λ i. ap is_some (here q named_q true e)),
      )
      place q named_q false e = (
        (λ k. (known.places q named_q).0 (sym (ap is_some (here q named_q false e)) ∙ k)),
        (λ i. ap is_some (here q named_q false e) ∙ (known.places q named_q).1 i),
      )

      number : (q : Path) → AllByRecursion IsNodeName q → (t : Bool) → path_eq p q ≡ t → option_and_then (λ (m : Option ℕ). m) (kept_at b.landed q) ≡ option_or (number_in given q) (if path_eq p q then Some n else None)
      number q named_q false e =
          ap (option_and_then (λ (m : Option ℕ). m)) (here q named_q false e) ∙ known.numbers q named_q
          ∙ none_behind (number_in given q) ∙ ap (λ (c : Bool). option_or (number_in given q) (if c then Some n else None)) (sym e)
        where
          none_behind : (o : Option ℕ) → o ≡ option_or o None
          none_behind None = refl
          none_behind (Some m) = refl
      number q named_q true e =
          let none : number_in given q ≡ None = ap (number_in given) (sym (path_eq_true p q e)) ∙ bare in
          ap (option_and_then (λ (m : Option ℕ). m)) (here q named_q true e)
          ∙ ap (λ (o : Option ℕ). option_or o (Some n)) (sym none) ∙ ap (λ (c : Bool). option_or (number_in given q) (if c then Some n else None)) (sym e)

      path : (m : ℕ) (t : Bool) → nat_eq n m ≡ t → place_of_number b m ≡ option_or (place_given given m) (if nat_eq m n then Some p else None)
      path m true t =
          let same : n ≡ m = eqb-true n m t in
          paths m ∙ ap (λ (c : Bool). if c then Some p else place_of_number a m) t
          ∙ ap (λ (o : Option Path). option_or o (Some p)) (sym (fresh m same))
          ∙ ap (λ (c : Bool). option_or (place_given given m) (if c then Some p else None)) (sym ((Decides-eqb m n).1 (sym same)))
        where
          fresh : (m : ℕ) → n ≡ m → place_given given m ≡ None
          fresh m same = step (place_given given m) refl
            where
              step : (o : Option Path) → place_given given m ≡ o → o ≡ None
              step None e = refl
              step (Some q) e = let le = known.high m (given_number given m q e) in absurd (omega (arith, same, le, next.above))
      path m false t =
          paths m ∙ ap (λ (c : Bool). if c then Some p else place_of_number a m) t ∙ known.paths m
          ∙ none_behind (place_given given m) ∙ ap (λ (c : Bool). option_or (place_given given m) (if c then Some p else None)) (sym (other (nat_eq m n) refl))
        where
          none_behind : (o : Option Path) → o ≡ option_or o None
          none_behind None = refl
          none_behind (Some q) = refl

          other : (c : Bool) → nat_eq m n ≡ c → c ≡ false
          other false e = refl
          other true e = absurd (true≢false (sym ((Decides-eqb n m).1 (sym (eqb-true m n e))) ∙ t))

      among : (m : ℕ) → list_any (nat_eq m) (numbers given ++ numbers_of base) ≡ true → list_any (nat_eq m) (numbers (given ++ (p, n) ∷ []) ++ numbers_of base) ≡ true
      among m e =
          let w = any_from (nat_eq m) taken e in
          any_here (nat_eq m) (numbers (given ++ (p, n) ∷ []) ++ numbers_of base) w.0 (elim (in_append w.0 (numbers given) (numbers_of base) w.1) [
            | inl i ↦ in_left w.0 (numbers (given ++ (p, n) ∷ [])) (numbers_of base) (subst (IsIn w.0) (sym (numbers_last given p n)) (in_left w.0 (numbers given) (n ∷ []) i))
            | inr i ↦ in_right w.0 (numbers (given ++ (p, n) ∷ [])) (numbers_of base) i
          ]) w.2

      low : (m : ℕ) → 1 ≤ m → m ≤ n → list_any (nat_eq m) (numbers (given ++ (p, n) ∷ []) ++ numbers_of base) ≡ true
      low m one le = elim (cases_lt m n) [
        | inl less ↦ among m (next_is_least.least m one less)
        | inr past ↦
            let same : m ≡ n = omega (arith, le, past) in
            any_here (nat_eq m) (numbers (given ++ (p, n) ∷ []) ++ numbers_of base) n
            (in_left n (numbers (given ++ (p, n) ∷ [])) (numbers_of base) (subst (IsIn n) (sym (numbers_last given p n)) (in_right n (numbers given) (n ∷ []) (inl refl)))) ((Decides-eqb m n).1 same)
      ]

      high : (m : ℕ) → IsIn m (numbers given ++ n ∷ []) → m ≤ b.last
      high m i = elim (in_last m n (numbers given) i) [
        | inl j ↦ let le = known.high m j in omega (arith, le, next.above, last)
        | inr same ↦ omega (arith, same, last)
      ]
