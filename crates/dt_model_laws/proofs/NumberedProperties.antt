-- The properties of a node of an instance: their names, their values, and the node's phandle.
use Rattle.std.proofs.Common.{◌≡◌, ℕ, zero, suc, ◌<◌, ◌≤◌, Bool, true, false, not, ◌&&◌, List, [], ◌∷◌, ◌++◌, map, get_or, codes, is_some, refl, sym, ap, subst, ◌∙◌, inl, inr, Option, Some, None, option_to_list, true≢false, arith}
use Rattle.std.specs.Prelude.{if◌then◌else◌}
use Rattle.std.specs.List.{AllByRecursion}
use Rattle.std.specs.Option.{option_map, option_and_then, option_or}
use Rattle.std.specs.Int.{w32, from_be_bytes}
use Rattle.std.specs.Str.{bytes_eq}
use Rattle.std.proofs.lemmas.Nat.{be_bytes_4, from_be_bytes-to_be_bytes_4}
use Rattle.dt_model.specs.Names.{Name, IsPropertyName}
use Rattle.dt_model.specs.Lists.{IsIn}
use Rattle.dt_model.specs.Meaning.{Item, byte, AreBytes, cell, value_bytes}
use Rattle.dt_model.specs.Source.{one}
use Rattle.dt_model.specs.Tree.{Property, value_of}
use Rattle.dt_model.specs.Valid.{AreDistinct, AreProperties, IsPhandle, phandle_values}
use Rattle.dt_model.specs.Named as named
use Rattle.dt_model.specs.Named.{NodeReference, NamedProperty, Content, number_of, written_in}
use Rattle.dt_model.specs.NamedOf.{IsContent}
use Rattle.dt_model.specs.Instance.{number_at, number_for, numbered, phandle_of, numbered_properties}
use Rattle.dt_model.proofs.Tests.{each_in, each_from, each_append, in_map_from}
use Rattle.dt_model.proofs.Cases.{some_there}
use Rattle.dt_model.proofs.Distinct.{distinct_append}
use Rattle.dt_model_laws.proofs.Bound.{written_range}
use Rattle.dt_model_laws.proofs.CheckedNames.{property_name}
use Rattle.dt_model_laws.proofs.Numbered.{small_number}
use Rattle.dt_model.proofs.Flat.{map_append}
use Rattle.dt_model_laws.proofs.NamedValues.{property_names, value_listed, listed_value}

-- the bytes of a value under the nodes' numbers
abbrev pub numbered_value : List (Option ℕ) → List (Item NodeReference) → List ℕ
numbered_value numbers v = value_bytes (number_for numbers) v

-- ---- the number that a value writes

four_bytes : (v : List (Item NodeReference)) (n : ℕ) → number_of v ≡ Some n → (a b c d : ℕ) × (v ≡ byte a ∷ byte b ∷ byte c ∷ byte d ∷ [])
four_bytes (byte a ∷ byte b ∷ byte c ∷ byte d ∷ []) n h = (a, b, c, d, refl)
four_bytes _ n h = absurd (let z : None ≡ Some n = h in cc)

pub number_range : (v : List (Item NodeReference)) (n : ℕ) → number_of v ≡ Some n → (1 ≤ n) × (n ≤ 0xfffffffe)
number_range v n h =
    let w = four_bytes v n h in
    written_range (one w.0 ∷ one w.1 ∷ one w.2 ∷ one w.3 ∷ []) n (ap number_of (sym w.4) ∙ h)

four_small : (a b c d i : ℕ) → a < 256 → b < 256 → c < 256 → d < 256 → get_or (a ∷ b ∷ c ∷ d ∷ []) i 0 < 256
four_small a b c d zero ha hb hc hd = ha
four_small a b c d (suc zero) ha hb hc hd = hb
four_small a b c d (suc (suc zero)) ha hb hc hd = hc
four_small a b c d (suc (suc (suc zero))) ha hb hc hd = hd
four_small a b c d (suc (suc (suc (suc i)))) ha hb hc hd = omega arith

four_are : (a b c d : ℕ) → AreBytes {R = NodeReference} (byte a ∷ byte b ∷ byte c ∷ byte d ∷ []) → cell (from_be_bytes w32 (a ∷ b ∷ c ∷ d ∷ [])) ≡ a ∷ b ∷ c ∷ d ∷ []
four_are a b c d h = be_bytes_4 (a ∷ b ∷ c ∷ d ∷ []) (from_be_bytes w32 (a ∷ b ∷ c ∷ d ∷ [])) refl (λ i. four_small a b c d i h.0 h.1.0 h.1.1.0 h.1.1.1.0) refl

in_range-same : (b : Bool) (m n : ℕ) → ◌≡◌ {A = Option ℕ} (if b then Some m else None) (Some n) → m ≡ n
in_range-same true m n h = cc
in_range-same false m n h = cc

-- a value that writes a number is its cell, whatever the nodes' numbers are
pub written_cell : (numbers : List (Option ℕ)) (v : List (Item NodeReference)) (n : ℕ) → AreBytes v → number_of v ≡ Some n → numbered_value numbers v ≡ cell n
written_cell numbers v n ok h =
    let w = four_bytes v n h in
    let a = w.0 in
    let b = w.1 in
    let c = w.2 in
    let d = w.3 in
    let same : from_be_bytes w32 (a ∷ b ∷ c ∷ d ∷ []) ≡ n = in_range-same _ _ n (ap number_of (sym w.4) ∙ h) in
    ap (numbered_value numbers) w.4 ∙ sym (four_are a b c d (subst AreBytes w.4 ok)) ∙ ap cell same

-- ---- look-ups

value_either : (xs ys : List Property) (x : Name) → value_of (xs ++ ys) x ≡ option_or (value_of xs x) (value_of ys x)
value_either [] ys x = refl
value_either (p ∷ xs) ys x = step (bytes_eq x p.name) (value_either xs ys x)
  where
    step : (b : Bool) → value_of (xs ++ ys) x ≡ option_or (value_of xs x) (value_of ys x)
        → (if b then Some p.value else value_of (xs ++ ys) x) ≡ option_or (if b then Some p.value else value_of xs x) (value_of ys x)
    step true more = refl
    step false more = more

value_numbered : (numbers : List (Option ℕ)) (ps : List (NamedProperty NodeReference)) (x : Name) → value_of (map (numbered numbers) ps) x ≡ option_map (numbered_value numbers) (named.value_of ps x)
value_numbered numbers [] x = refl
value_numbered numbers (p ∷ ps) x = step (bytes_eq x p.name) (value_numbered numbers ps x)
  where
    step : (b : Bool) → value_of (map (numbered numbers) ps) x ≡ option_map (numbered_value numbers) (named.value_of ps x)
        → (if b then Some (numbered_value numbers p.value) else value_of (map (numbered numbers) ps) x)
        ≡ option_map (numbered_value numbers) (if b then Some p.value else named.value_of ps x)
    step true more = refl
    step false more = more

or_none : {A : Type 0} (o : Option A) → option_or o None ≡ o
or_none None = refl
or_none (Some x) = refl

-- ---- of a node

module _ (numbers : List (Option ℕ)) (k : ℕ) (c : Content NodeReference) where
  -- the value of a property other than the phandle
  no_phandle : (number : Option ℕ) (b : Bool) (x : Name) → is_some (named.value_of c.properties (codes "phandle")) ≡ b → bytes_eq x (codes "phandle") ≡ false → value_of (phandle_of c number) x ≡ None
  no_phandle None b x e h = refl
  no_phandle (Some n) true x e h = rw e refl
  no_phandle (Some n) false x e h = rw e (rw h refl)

  pub other_value : (x : Name) → bytes_eq x (codes "phandle") ≡ false → value_of (numbered_properties numbers k c) x ≡ option_map (numbered_value numbers) (named.value_of c.properties x)
  other_value x h =
      value_either (map (numbered numbers) c.properties) (phandle_of c (number_at numbers k)) x
      ∙ ap (λ o. option_or (value_of (map (numbered numbers) c.properties) x) o) (no_phandle (number_at numbers k) (is_some (named.value_of c.properties (codes "phandle"))) x refl h)
      ∙ or_none (value_of (map (numbered numbers) c.properties) x)
      ∙ value_numbered numbers c.properties x

  phandle_alone : (number : Option ℕ) → named.value_of c.properties (codes "phandle") ≡ None → value_of (phandle_of c number) (codes "phandle") ≡ option_map cell number
  phandle_alone None e = refl
  phandle_alone (Some n) e = rw e refl

  -- the phandle is the node's number
  pub phandle_value : (nodes : ℕ) → IsContent nodes c → ((n : ℕ) → written_in c ≡ Some n → number_at numbers k ≡ Some n)
      → value_of (numbered_properties numbers k c) (codes "phandle") ≡ option_map cell (number_at numbers k)
  phandle_value nodes ok is =
      value_either (map (numbered numbers) c.properties) (phandle_of c (number_at numbers k)) (codes "phandle")
      ∙ ap (λ o. option_or o (value_of (phandle_of c (number_at numbers k)) (codes "phandle"))) (value_numbered numbers c.properties (codes "phandle"))
      ∙ step (named.value_of c.properties (codes "phandle")) refl
    where
      step : (o : Option (List (Item NodeReference))) → named.value_of c.properties (codes "phandle") ≡ o
          → option_or (option_map (numbered_value numbers) (named.value_of c.properties (codes "phandle"))) (value_of (phandle_of c (number_at numbers k)) (codes "phandle"))
          ≡ option_map cell (number_at numbers k)
      step None e =
          ap (λ o. option_or (option_map (numbered_value numbers) o) (value_of (phandle_of c (number_at numbers k)) (codes "phandle"))) e
          ∙ phandle_alone (number_at numbers k) e
      step (Some v) e =
          let n = some_there (number_of v) (ok.numbered v e) in
          let i = value_listed c.properties (codes "phandle") v e in
          let bytes = each_in (λ (p : NamedProperty NodeReference). AreBytes p.value) c.properties (record { name = codes "phandle"; value = v }) ok.bytes i in
          ap (λ o. option_or (option_map (numbered_value numbers) o) (value_of (phandle_of c (number_at numbers k)) (codes "phandle"))) e
          ∙ ap (λ (v : List ℕ). Some v) (written_cell numbers v n.0 bytes n.1)
          ∙ ap (option_map cell) (sym (is n.0 (ap (option_and_then number_of) e ∙ n.1)))

  -- ---- names

  pub phandle_names : List Name
  phandle_names = map (λ (p : Property). p.name) (phandle_of c (number_at numbers k))

  same_names : (ps : List (NamedProperty NodeReference)) → map (λ (p : Property). p.name) (map (numbered numbers) ps) ≡ property_names ps
  same_names [] = refl
  same_names (p ∷ ps) = ap (λ z. p.name ∷ z) (same_names ps)

  pub names_numbered : map (λ (p : Property). p.name) (numbered_properties numbers k c) ≡ property_names c.properties ++ phandle_names
  unfolding phandle_names
  names_numbered =
      map_append (λ (p : Property). p.name) (map (numbered numbers) c.properties) (phandle_of c (number_at numbers k))
      ∙ ap (λ z. z ++ map (λ (p : Property). p.name) (phandle_of c (number_at numbers k))) (same_names c.properties)

  -- a node's phandle, if none is written there
  phandle_new : (number : Option ℕ) (b : Bool) (p : Property) → is_some (named.value_of c.properties (codes "phandle")) ≡ b → IsIn p (phandle_of c number) → (p.name ≡ codes "phandle") × (b ≡ false)
  phandle_new None b p e i = absurd i
  phandle_new (Some n) true p e i = absurd (rw e at i)
  phandle_new (Some n) false p e i =
      let w : IsIn p ((record { name = codes "phandle"; value = cell n }) ∷ []) = rw e at i in
      elim w [ inl same ↦ (ap (λ x. x.name) same, refl) | inr j ↦ absurd j ]

  names_of_phandle : (number : Option ℕ) (written : Bool) → is_some (named.value_of c.properties (codes "phandle")) ≡ written
      → map (λ (p : Property). p.name) (phandle_of c number) ≡ (if is_some number && not written then codes "phandle" ∷ [] else [])
  names_of_phandle None written e = refl
  names_of_phandle (Some n) true e = rw e refl
  names_of_phandle (Some n) false e = rw e refl

  -- a number that isn't written has a property of its own
  pub phandle_names_are : (written : Bool) → is_some (named.value_of c.properties (codes "phandle")) ≡ written
      → phandle_names ≡ (if is_some (number_at numbers k) && not written then codes "phandle" ∷ [] else [])
  unfolding phandle_names
  phandle_names_are written e = names_of_phandle (number_at numbers k) written e

  -- a node with a property `phandle` writes a number
  pub phandle_written : (nodes : ℕ) → IsContent nodes c → is_some (named.value_of c.properties (codes "phandle")) ≡ is_some (written_in c)
  phandle_written nodes ok = step (named.value_of c.properties (codes "phandle")) refl
    where
      step : (o : Option (List (Item NodeReference))) → named.value_of c.properties (codes "phandle") ≡ o → is_some (named.value_of c.properties (codes "phandle")) ≡ is_some (written_in c)
      step None e = rw e refl
      step (Some v) e = ap is_some e ∙ sym (ok.numbered v e) ∙ ap (λ o. is_some (option_and_then number_of o)) (sym e)

  numbered_named : (ps : List (NamedProperty NodeReference)) → AllByRecursion (λ (p : NamedProperty NodeReference). IsPropertyName p.name) ps
      → AllByRecursion (λ (p : Property). IsPropertyName p.name) (map (numbered numbers) ps)
  numbered_named [] h = tt
  numbered_named (p ∷ ps) h = (h.0, numbered_named ps h.1)

  phandle_named : (p : Property) → IsIn p (phandle_of c (number_at numbers k)) → IsPropertyName p.name
  phandle_named p i = subst IsPropertyName (sym (phandle_new (number_at numbers k) (is_some (named.value_of c.properties (codes "phandle"))) p refl i).0) (property_name (codes "phandle") refl)

  one_phandle : (number : Option ℕ) (b : Bool) → is_some (named.value_of c.properties (codes "phandle")) ≡ b → AreDistinct (map (λ (p : Property). p.name) (phandle_of c number))
  one_phandle None b e = tt
  one_phandle (Some n) true e = rw e tt
  one_phandle (Some n) false e = rw e (tt, tt)

  pub are_properties : (nodes : ℕ) → IsContent nodes c → AreProperties (numbered_properties numbers k c)
  unfolding phandle_names
  are_properties nodes ok = record {
    named = each_append (λ (p : Property). IsPropertyName p.name) (map (numbered numbers) c.properties) (phandle_of c (number_at numbers k)) (numbered_named c.properties ok.named)
        (each_from (λ (p : Property). IsPropertyName p.name) (phandle_of c (number_at numbers k)) phandle_named);
    distinct = subst AreDistinct (sym names_numbered) (distinct_append (property_names c.properties) phandle_names ok.distinct (one_phandle (number_at numbers k) (is_some (named.value_of c.properties (codes "phandle"))) refl)
        (λ x i j.
        let w = in_map_from (λ (p : Property). p.name) (phandle_of c (number_at numbers k)) x j in
        let p = phandle_new (number_at numbers k) (is_some (named.value_of c.properties (codes "phandle"))) w.0 refl w.1 in
        let y = in_map_from (λ (p : NamedProperty NodeReference). p.name) c.properties x i in
        let v = listed_value c.properties y.0 ok.distinct y.1 in
        true≢false (ap is_some (sym v) ∙ ap (λ z. is_some (named.value_of c.properties z)) (sym y.2 ∙ w.2 ∙ p.0) ∙ p.1)));
  }

  -- ---- phandles

  pub are_phandles : (nodes : ℕ) → IsContent nodes c → ((n : ℕ) → written_in c ≡ Some n → number_at numbers k ≡ Some n)
      → phandle_values (numbered_properties numbers k c) ≡ option_to_list (option_map cell (number_at numbers k))
  are_phandles nodes ok is = ap option_to_list (phandle_value nodes ok is)

-- ---- cells

pub cell_back : (n : ℕ) → n ≤ 0xfffffffe → from_be_bytes w32 (cell n) ≡ n
cell_back n h = from_be_bytes-to_be_bytes_4 n (small_number n h)

pub cell_phandle : (n : ℕ) → 1 ≤ n → n ≤ 0xfffffffe → IsPhandle (cell n)
cell_phandle n low high = let e = cell_back n high in record { four = refl; low = omega (arith, e); high = omega (arith, e) }
