-- A tree that a blob may hold, within the limits, may be planted.
use Rattle.std.proofs.Common.{◌≡◌, ◌≢◌, ℕ, zero, suc, ◌+◌, ◌<◌, ◌≤◌, Bool, true, false, cond, eqb, ◌&&◌, List, [], ◌∷◌, ◌++◌, length, drop, map, Option, Some, None, refl, sym, ap, subst, ◌∙◌, arith, inl, inr}
use Rattle.std.specs.Prelude.{codes}
use Rattle.std.specs.List.{AllByRecursion}
use Rattle.std.specs.Option.{option_to_list}
use Rattle.std.specs.Int.{w32, from_be_bytes}
use Rattle.std.specs.Str.{bytes_eq}
use Rattle.std.proofs.lemmas.Bool.{eqb-true}
use Rattle.std.proofs.lemmas.List.{length-append, drop-append-le, map-append}
use Rattle.std.proofs.lemmas.Slice.Eq.{bytes_eq-Decides}
use Rattle.dt_model.specs.Names.{Name}
use Rattle.dt_model.specs.Tree.{Property, Forest, no_nodes, branch, Reading, value_of}
use Rattle.dt_model.specs.Valid.{AreDistinct, AreProperties, AreNodes, names, phandle_values, phandles, IsPhandle, IsNoDeeper, node_count, IsValid, IsWithinLimits}
use Rattle.dt_flat.specs.Arena.{Slot, root_alone, named_among, named_children, child_of, properties, depth_of, number_of_value, phandle_at, with_child, with_property}
use Rattle.dt_flat.specs.Refusals.{MayAdd, MaySet}
use Rattle.dt_flat.specs.Planted.{with_properties, planted, MaySetAll, MayPlant, MayMake, numbers, HasOwnNumbers}
use Rattle.dt_flat.proofs.AfterChild.{tested, differs, properties-push, length-with_child, bare-with_child, child-with_child, childless-with_child}
use Rattle.dt_flat.proofs.AfterProperty.{length-with_property, children-with_property, value-with_property}
use Rattle.dt_flat.proofs.Distinctness.{Apart, all-append, all-front, all-back, distinct-front, distinct-back, distinct-apart, apart-flip}
use Rattle.dt_flat.proofs.Numbering.{phandle_of, phandle-other}
use Rattle.dt_flat.proofs.Rooting.{depth-append, depth-last}
use Rattle.dt_flat.proofs.PlantedNodes.{not_equal, rows, length-rows, made, made_last, length-made, planted_rows, AreBelow, rows_below, root_with, root_set}

-- ---- properties in their turn

-- what holds of the value of the property phandle holds of each property of that name
each_phandle : (P : List ℕ → Type 0) (ps : List Property) → AreDistinct (map (λ p. p.name) ps) → AllByRecursion P (phandle_values ps)
    → AllByRecursion (λ p. p.name ≡ codes "phandle" → P p.value) ps
each_phandle P [] d h = tt
each_phandle P (p ∷ ps) d h = by (bytes_eq (codes "phandle") p.name) refl h (λ rest. each_phandle P ps d.1 rest)
  where
    unnamed : (qs : List Property) → p.name ≡ codes "phandle" → AllByRecursion (λ y. y ≢ p.name) (map (λ q. q.name) qs)
        → AllByRecursion (λ q. q.name ≡ codes "phandle" → P q.value) qs
    unnamed [] e a = tt
    unnamed (q ∷ qs) e a = ((λ f. absurd (a.0 (f ∙ sym e))), unnamed qs e a.1)

    by : (b : Bool) → bytes_eq (codes "phandle") p.name ≡ b → AllByRecursion P (option_to_list (cond b (Some p.value) (value_of ps (codes "phandle"))))
        → (AllByRecursion P (phandle_values ps) → AllByRecursion (λ q. q.name ≡ codes "phandle" → P q.value) ps)
        → AllByRecursion (λ q. q.name ≡ codes "phandle" → P q.value) (p ∷ ps)
    by true e x f = ((λ n. x.0), unnamed ps (sym ((bytes_eq-Decides (codes "phandle") p.name).0 e)) d.0)
    by false e x f = ((λ n. let t : bytes_eq (codes "phandle") p.name ≡ true = (bytes_eq-Decides (codes "phandle") p.name).1 (sym n) in absurd cc), f x)

-- no node but that one has the number of a phandle
abbrev IsOnlyAt : List Slot → ℕ → List ℕ → Type 0
IsOnlyAt slots p value = (q : ℕ) → q ≢ p → phandle_at slots q ≢ Some (from_be_bytes w32 value)

only_kept : (slots : List Slot) (p : ℕ) (name value other : List ℕ) → IsOnlyAt slots p other → IsOnlyAt (with_property slots p name value) p other
only_kept slots p name value other h q d e = h q d (sym (phandle-other slots p name value q d) ∙ e)

-- what a property phandle is to be
abbrev IsGood : List Slot → ℕ → Property → Type 0
IsGood slots p x = x.name ≡ codes "phandle" → IsPhandle x.value × IsOnlyAt slots p x.value

good_kept : (slots : List Slot) (p : ℕ) (name value : List ℕ) (xs : List Property) → AllByRecursion (IsGood slots p) xs
    → AllByRecursion (IsGood (with_property slots p name value) p) xs
good_kept slots p name value [] h = tt
good_kept slots p name value (x ∷ xs) h = ((λ e. ((h.0 e).0, only_kept slots p name value x.value (h.0 e).1)), good_kept slots p name value xs h.1)

may_set : (slots : List Slot) (p : ℕ) (x : Property) → IsGood slots p x → MaySet slots p x.name x.value
may_set slots p x h = record { valid = λ e. (h e).0; own = λ e q f. at (eqb q p) refl (λ d. (h e).1 q d f) }
  where
    at : {q : ℕ} (b : Bool) → eqb q p ≡ b → (q ≢ p → ⊥) → q ≡ p
    at {q = q} true e f = eqb-true q p e
    at {q = q} false e f = absurd (f (λ s. let t : eqb q p ≡ true = tested q p s in absurd cc))

-- the node has no property of these names
abbrev AreUnset : List Slot → ℕ → List Property → Type 0
AreUnset slots p xs = AllByRecursion (λ x. value_of (properties slots p) x.name ≡ None) xs

unset : (slots : List Slot) (p : ℕ) (xs : List Property) → properties slots p ≡ [] → AreUnset slots p xs
unset slots p [] e = tt
unset slots p (x ∷ xs) e = (ap (λ (ps : List Property). value_of ps x.name) e, unset slots p xs e)

still_unset : (slots : List Slot) (p : ℕ) (name : Name) (value : List ℕ) (xs : List Property) → p < length slots → AllByRecursion (λ y. y ≢ name) (map (λ x. x.name) xs)
    → AreUnset slots p xs → AreUnset (with_property slots p name value) p xs
still_unset slots p name value [] lt d u = tt
still_unset slots p name value (x ∷ xs) lt d u = (
  value-with_property slots p name value p x.name lt ∙ other (eqb p p) (bytes_eq x.name name) (not_equal x.name name d.0) ∙ u.0,
  still_unset slots p name value xs lt d.1 u.1,
)
  where
    other : (a b : Bool) → b ≡ false → cond (a && b) (Some value) (value_of (properties slots p) x.name) ≡ value_of (properties slots p) x.name
    other true b e = ap (λ (t : Bool). cond t (Some value) (value_of (properties slots p) x.name)) e
    other false b e = refl

may_set_all : (slots : List Slot) (p : ℕ) (xs : List Property) → p < length slots → AreDistinct (map (λ x. x.name) xs) → AreUnset slots p xs → AllByRecursion (IsGood slots p) xs → MaySetAll slots p xs
may_set_all slots p [] lt d u h = tt
may_set_all slots p (x ∷ xs) lt d u h = (
  record { fresh = u.0; may = may_set slots p x h.0 },
  may_set_all (with_property slots p x.name x.value) p xs (omega (arith, length-with_property slots p x.name x.value, lt)) d.1 (still_unset slots p x.name x.value xs lt d.0 u.1) (good_kept slots p x.name x.value xs h.1),
)

-- the same of a node without properties, where none is a phandle
pub may_set_plain : (slots : List Slot) (p : ℕ) (xs : List Property) → p < length slots → properties slots p ≡ [] → AreDistinct (map (λ x. x.name) xs)
    → AllByRecursion (λ x. x.name ≢ codes "phandle") xs → MaySetAll slots p xs
may_set_plain slots p xs lt none d plain = may_set_all slots p xs lt d (unset slots p xs none) (good_plain xs plain)
  where
    good_plain : (ys : List Property) → AllByRecursion (λ y. y.name ≢ codes "phandle") ys → AllByRecursion (IsGood slots p) ys
    good_plain [] h = tt
    good_plain (y ∷ ys) h = ((λ e. absurd (h.0 e)), good_plain ys h.1)

pub may_set_parts : (slots : List Slot) (p : ℕ) (xs ys : List Property) → MaySetAll slots p (xs ++ ys) → MaySetAll slots p xs × MaySetAll (with_properties slots p xs) p ys
may_set_parts slots p [] ys may = (tt, may)
may_set_parts slots p (x ∷ xs) ys may =
    let rest = may_set_parts (with_property slots p x.name x.value) p xs ys may.1 in
    ((may.0, rest.0), rest.1)

-- ---- numbers that are free

-- no node has the number
abbrev pub IsFree : List Slot → ℕ → Type 0
IsFree slots n = AllByRecursion (λ m. AllByRecursion (λ k. k ≢ n) (numbers (phandle_values m.properties))) slots

number_other : (o : Option (List ℕ)) (n : ℕ) → AllByRecursion (λ k. k ≢ n) (numbers (option_to_list o)) → number_of_value o ≢ Some n
number_other None n h e = absurd cc
number_other (Some w) n h e = by (eqb (length w) 4) e
  where
    by : (b : Bool) → cond b (Some (from_be_bytes w32 w)) None ≡ Some n → ⊥
    by true f = let same : from_be_bytes w32 w ≡ n = cc in h.0 same
    by false f = absurd cc

free_nowhere : (slots : List Slot) (n q : ℕ) → IsFree slots n → phandle_at slots q ≢ Some n
free_nowhere [] n q h e = absurd cc
free_nowhere (m ∷ ms) n zero h e = number_other (value_of m.properties (codes "phandle")) n h.0 e
free_nowhere (m ∷ ms) n (suc q) h e = free_nowhere ms n q h.1 e

rows_free : (i p d : ℕ) (f : Forest) (n : ℕ) → AllByRecursion (λ k. k ≢ n) (numbers (phandles f)) → IsFree (rows i p d f) n
rows_free i p d no_nodes n h = tt
rows_free i p d (branch name properties children siblings) n h =
    let own = phandle_values properties in
    let both = own ++ phandles children in
    let whole = subst (AllByRecursion (λ k. k ≢ n)) (map-append (λ v. from_be_bytes w32 v) both (phandles siblings)) h in
    let front = subst (AllByRecursion (λ k. k ≢ n)) (map-append (λ v. from_be_bytes w32 v) own (phandles children)) (all-front (λ k. k ≢ n) (numbers both) (numbers (phandles siblings)) whole) in (
      all-front (λ k. k ≢ n) (numbers own) (numbers (phandles children)) front,
      all-append (λ m. AllByRecursion (λ k. k ≢ n) (numbers (phandle_values m.properties))) (rows (suc i) i (d + 1) children) (rows (suc i + node_count children) p d siblings)
          (rows_free (suc i) i (d + 1) children n (all-back (λ k. k ≢ n) (numbers own) (numbers (phandles children)) front))
          (rows_free (suc i + node_count children) p d siblings n (all-back (λ k. k ≢ n) (numbers both) (numbers (phandles siblings)) whole)),
    )

-- numbers that are free stay so where nodes come that have none of them
still_free : (slots ms : List Slot) (ns : List ℕ) → AllByRecursion (IsFree slots) ns → AllByRecursion (IsFree ms) ns
    → AllByRecursion (IsFree (slots ++ ms)) ns
still_free slots ms [] a b = tt
still_free slots ms (n ∷ ns) a b = (all-append (λ m. AllByRecursion (λ k. k ≢ n) (numbers (phandle_values m.properties))) slots ms a.0 b.0, still_free slots ms ns a.1 b.1)

apart_free : (m : Slot) (ns : List ℕ) → Apart ns (numbers (phandle_values m.properties)) → AllByRecursion (IsFree (m ∷ [])) ns
apart_free m [] h = tt
apart_free m (n ∷ ns) h = ((h.0, tt), apart_free m ns h.1)

apart_rows : (i p d : ℕ) (f : Forest) (ns : List ℕ) → Apart ns (numbers (phandles f)) → AllByRecursion (IsFree (rows i p d f)) ns
apart_rows i p d f [] h = tt
apart_rows i p d f (n ∷ ns) h = (rows_free i p d f n h.0, apart_rows i p d f ns h.1)

-- ---- names that are new

abbrev AreFresh : List Slot → ℕ → List Name → Type 0
AreFresh slots p xs = AllByRecursion (λ x. child_of (named_children slots p) x ≡ None) xs

bare : (slots : List Slot) (p : ℕ) (xs : List Name) → named_children slots p ≡ [] → AreFresh slots p xs
bare slots p [] e = tt
bare slots p (x ∷ xs) e = (ap (λ cs. child_of cs x) e, bare slots p xs e)

named_among-append : (i : ℕ) (ns ms : List Slot) (p : ℕ) → AllByRecursion (λ m. m.parent ≢ p) ms → named_among i (ns ++ ms) p ≡ named_among i ns p
named_among-append i [] [] p h = refl
named_among-append i [] (m ∷ ms) p h =
    ap (λ (b : Bool). cond b (record { name = m.name; node = i } ∷ named_among (suc i) ms p) (named_among (suc i) ms p)) (differs m.parent p h.0) ∙ named_among-append (suc i) [] ms p h.1
named_among-append i (n ∷ ns) ms p h =
    let rest = named_among-append (suc i) ns ms p h in
    λ j. cond (eqb n.parent p) (record { name = n.name; node = i } ∷ rest j) (rest j)

named_children-append : (slots ms : List Slot) (p : ℕ) → p < length slots → AllByRecursion (λ m. m.parent ≢ p) ms
    → named_children (slots ++ ms) p ≡ named_children slots p
named_children-append slots ms p lt h =
    ap (λ (ns : List Slot). named_among (suc p) ns p) (drop-append-le (suc p) slots ms (omega arith)) ∙ named_among-append (suc p) (drop (suc p) slots) ms p h

children-with_properties : (slots : List Slot) (p : ℕ) (xs : List Property) (i : ℕ)
    → named_children (with_properties slots p xs) i ≡ named_children slots i
children-with_properties slots p [] i = refl
children-with_properties slots p (x ∷ xs) i = children-with_properties (with_property slots p x.name x.value) p xs i ∙ children-with_property slots p x.name x.value i

-- the children after a node with properties is made
children_made : (slots : List Slot) (p : ℕ) (name : Name) (ps : List Property) (i : ℕ) → AreProperties ps
    → named_children (slots ++ made slots p name ps ∷ []) i ≡ named_children (with_child slots p name) i
children_made slots p name ps i h = ap (λ (ns : List Slot). named_children ns i) (sym (made_last slots p name ps h)) ∙ children-with_properties (with_child slots p name) (length slots) ps i

fresh_beside : (slots : List Slot) (p : ℕ) (name : Name) (ps : List Property) (xs : List Name) → p < length slots → AreProperties ps
    → child_of (named_children slots p) name ≡ None → AllByRecursion (λ y. y ≢ name) xs → AreFresh slots p xs
    → AreFresh (slots ++ made slots p name ps ∷ []) p xs
fresh_beside slots p name ps [] lt h none d f = tt
fresh_beside slots p name ps (x ∷ xs) lt h none d f =
    let is : bytes_eq x name ≡ false = not_same x d.0 in (
      ap (λ cs. child_of cs x) (children_made slots p name ps p h) ∙ child-with_child slots p name p x lt none
          ∙ ap (λ (b : Bool). cond b (Some (length slots)) (child_of (named_children slots p) x)) (both (eqb p p) (bytes_eq x name) is) ∙ f.0,
      fresh_beside slots p name ps xs lt h none d.1 f.1,
    )
  where
    not_same : (x : Name) → x ≢ name → bytes_eq x name ≡ false
    not_same x ne = by (bytes_eq x name) refl
      where
        by : (t : Bool) → bytes_eq x name ≡ t → t ≡ false
        by true e = absurd (ne ((bytes_eq-Decides x name).0 e))
        by false e = refl

    both : (a b : Bool) → b ≡ false → (a && b) ≡ false
    both true b e = e
    both false b e = refl

fresh_further : (slots ms : List Slot) (p : ℕ) (xs : List Name) → p < length slots → AllByRecursion (λ m. m.parent ≢ p) ms → AreFresh slots p xs
    → AreFresh (slots ++ ms) p xs
fresh_further slots ms p [] lt h f = tt
fresh_further slots ms p (x ∷ xs) lt h f = (ap (λ cs. child_of cs x) (named_children-append slots ms p lt h) ∙ f.0, fresh_further slots ms p xs lt h f.1)

-- ---- a forest that fits below a node

pub record Fits (slots : List Slot) (p : ℕ) (f : Forest) : Type 0 where
  pub within : p < length slots
  pub nodes : AreNodes f
  pub siblings : AreDistinct (names f)
  pub fresh : AreFresh slots p (names f)
  pub few : length slots + node_count f ≤ 65536
  pub shallow : IsNoDeeper 64 (depth_of slots p + 1) f
  pub valid : AllByRecursion IsPhandle (phandles f)
  pub numbered : AreDistinct (numbers (phandles f))
  pub free : AllByRecursion (IsFree slots) (numbers (phandles f))

-- the numbers of a branch
parted : (P : List ℕ → Type 0) (own inner outer : List (List ℕ)) → P (numbers ((own ++ inner) ++ outer))
    → P ((numbers own ++ numbers inner) ++ numbers outer)
parted P own inner outer h =
    subst P (map-append (λ v. from_be_bytes w32 v) (own ++ inner) outer ∙ ap (λ (ns : List ℕ). ns ++ numbers outer) (map-append (λ v. from_be_bytes w32 v) own inner)) h

fits_inside : (slots : List Slot) (p : ℕ) (name : Name) (properties : List Property) (children siblings : Forest)
    → Fits slots p (branch name properties children siblings) → Fits (slots ++ made slots p name properties ∷ []) (length slots) children
fits_inside slots p name properties children siblings f =
    let m = made slots p name properties in
    let h = f.nodes in
    let own = phandle_values properties in
    let inner = phandles children in
    let outer = phandles siblings in
    let more = length-made slots m in
    let differ = distinct-front (numbers own ++ numbers inner) (numbers outer) (parted AreDistinct own inner outer f.numbered) in
    let free = all-back (IsFree slots) (numbers own) (numbers inner) (all-front (IsFree slots) (numbers own ++ numbers inner) (numbers outer) (parted (AllByRecursion (IsFree slots)) own inner outer f.free)) in
    record {
      within = omega arith;
      nodes = h.2;
      siblings = h.3;
      fresh = bare (slots ++ m ∷ []) (length slots) (names children) (children_made slots p name properties (length slots) h.1 ∙ childless-with_child slots p name);
      few = omega (arith, f.few, more);
      shallow = subst (λ (d : ℕ). IsNoDeeper 64 (d + 1) children) (sym (depth-last slots m)) (f.shallow).1;
      valid = all-back IsPhandle own inner (all-front IsPhandle (own ++ inner) outer f.valid);
      numbered = distinct-back (numbers own) (numbers inner) differ;
      free = still_free slots (m ∷ []) (numbers inner) free (apart_free m (numbers inner) (apart-flip (numbers own) (numbers inner) (distinct-apart (numbers own) (numbers inner) differ)));
    }

rows_elsewhere : (i p q : ℕ) (ns : List Slot) → AreBelow i q ns → p < i → q ≢ p → AllByRecursion (λ n. n.parent ≢ p) ns
rows_elsewhere i p q [] h lt d = tt
rows_elsewhere i p q (n ∷ ns) h lt d = (elim h.0 [ inl e ↦ (λ f. d (sym e ∙ f)) | inr e ↦ (λ f. omega arith) ], rows_elsewhere i p q ns h.1 lt d)

-- the nodes after a branch is made, without its siblings
after_branch : List Slot → ℕ → Name → List Property → Forest → List Slot
after_branch slots p name properties children =
    (slots ++ made slots p name properties ∷ []) ++ rows (suc (length slots)) (length slots) (depth_of slots p + 1 + 1) children

fits_beside : (slots : List Slot) (p : ℕ) (name : Name) (properties : List Property) (children siblings : Forest) → MayAdd slots p name
    → Fits slots p (branch name properties children siblings) → Fits (after_branch slots p name properties children) p siblings
unfolding after_branch
fits_beside slots p name properties children siblings may f =
    let m = made slots p name properties in
    let h = f.nodes in
    let i = length slots in
    let d = depth_of slots p + 1 in
    let ns : List Slot = slots ++ m ∷ [] in
    let ms = rows (suc i) i (d + 1) children in
    let own = phandle_values properties in
    let inner = phandles children in
    let outer = phandles siblings in
    let more = length-made slots m in
    let lt = f.within in
    let differ = parted AreDistinct own inner outer f.numbered in
    let apart = apart_both (numbers own) (numbers inner) (numbers outer) (apart-flip (numbers own ++ numbers inner) (numbers outer) (distinct-apart (numbers own ++ numbers inner) (numbers outer) differ)) in
    let free = all-back (IsFree slots) (numbers own ++ numbers inner) (numbers outer) (parted (AllByRecursion (IsFree slots)) own inner outer f.free) in
    record {
      within = omega (arith, length-append ns ms, more, lt);
      nodes = h.4;
      siblings = (f.siblings).1;
      fresh = fresh_further ns ms p (names siblings) (omega arith) (rows_elsewhere (suc i) p i ms (rows_below (suc i) i (d + 1) children) (omega arith) (omega arith))
          (fresh_beside slots p name properties (names siblings) lt h.1 may.fresh (f.siblings).0 (f.fresh).1);
      few = omega (arith, f.few, more, length-append ns ms, length-rows (suc i) i (d + 1) children);
      shallow = subst (λ (e : ℕ). IsNoDeeper 64 (e + 1) siblings) (sym (depth-append ns ms p (omega arith) ∙ depth-append slots (m ∷ []) p lt)) (f.shallow).2;
      valid = all-back IsPhandle (own ++ inner) outer f.valid;
      numbered = distinct-back (numbers own ++ numbers inner) (numbers outer) differ;
      free = still_free ns ms (numbers outer) (still_free slots (m ∷ []) (numbers outer) free (apart_free m (numbers outer) apart.0)) (apart_rows (suc i) i (d + 1) children (numbers outer) apart.1);
    }
  where
    apart_both : (xs ys zs : List ℕ) → Apart zs (xs ++ ys) → Apart zs xs × Apart zs ys
    apart_both xs ys [] a = (tt, tt)
    apart_both xs ys (z ∷ zs) a = let rest = apart_both xs ys zs a.1 in ((all-front (λ y. y ≢ z) xs ys a.0, rest.0), (all-back (λ y. y ≢ z) xs ys a.0, rest.1))

-- ---- what fits may be planted

good : (slots : List Slot) (p : ℕ) (ps : List Property) → AreProperties ps → AllByRecursion IsPhandle (phandle_values ps)
    → AllByRecursion (IsFree slots) (numbers (phandle_values ps)) → (new : List Slot) → ((q : ℕ) → q ≢ p → phandle_at new q ≡ phandle_at slots q)
    → AllByRecursion (IsGood new p) ps
good slots p ps h valid free new same =
    each_phandle (λ v. IsPhandle v × IsOnlyAt new p v) ps h.distinct (both (phandle_values ps) valid free)
  where
    both : (vs : List (List ℕ)) → AllByRecursion IsPhandle vs → AllByRecursion (IsFree slots) (numbers vs)
        → AllByRecursion (λ v. IsPhandle v × IsOnlyAt new p v) vs
    both [] a b = tt
    both (v ∷ vs) a b = ((a.0, λ q d e. free_nowhere slots (from_be_bytes w32 v) q b.0 (sym (same q d) ∙ e)), both vs a.1 b.1)

plant : (f : Forest) (slots : List Slot) (p : ℕ) → Fits slots p f → MayPlant slots p f
unfolding after_branch
plant no_nodes slots p f = tt
plant (branch name properties children siblings) slots p f =
    let m = made slots p name properties in
    let h = f.nodes in
    let i = length slots in
    let own = phandle_values properties in
    let inner = phandles children in
    let outer = phandles siblings in
    let ns : List Slot = slots ++ m ∷ [] in
    let may : MayAdd slots p name = record { fresh = (f.fresh).0; few = omega (arith, f.few); shallow = omega (arith, (f.shallow).0) } in
    let free = all-front (IsFree slots) (numbers own) (numbers inner) (all-front (IsFree slots) (numbers own ++ numbers inner) (numbers outer) (parted (AllByRecursion (IsFree slots)) own inner outer f.free)) in
    let valid = all-front IsPhandle own inner (all-front IsPhandle (own ++ inner) outer f.valid) in
    let set = may_set_all (with_child slots p name) i properties (omega (arith, length-with_child slots p name)) h.1.distinct (unset (with_child slots p name) i properties (bare-with_child slots p name)) (good slots i properties h.1 valid free (with_child slots p name) (λ q d. ap phandle_of (properties-push slots (made slots p name []) q refl))) in
    let inside = fits_inside slots p name properties children siblings f in
    let is : planted ns i children ≡ after_branch slots p name properties children =
    planted_rows children ns i (inside.within) h.2 ∙ (λ j. ns ++ rows (length-made slots m j) i (depth-last slots m j + 1) children) in
    let beside = plant siblings (after_branch slots p name properties children) p (fits_beside slots p name properties children siblings may f) in
    let further : MayPlant ns i children × MayPlant (planted ns i children) p siblings = (plant children ns i inside, subst (λ (x : List Slot). MayPlant x p siblings) (sym is) beside) in
    let both = subst (λ (x : List Slot). MayPlant x i children × MayPlant (planted x i children) p siblings) (sym (made_last slots p name properties h.1)) further in
    (may, set, both.0, both.1)

pub may_make : (t : Reading) → IsValid t → IsWithinLimits t → HasOwnNumbers t.properties t.children → MayMake t.properties t.children
may_make t v w own =
    let root = (root_alone 0).slots in
    let mine = phandle_values t.properties in
    let others = phandles t.children in
    let differ = subst AreDistinct (map-append (λ v. from_be_bytes w32 v) mine others) own in
    let fits : Fits (root_with t.properties) 0 t.children =
    record {
      within = omega arith;
      nodes = v.nodes;
      siblings = v.siblings;
      fresh = bare (root_with t.properties) 0 (names t.children) refl;
      few = omega (arith, w.count);
      shallow = w.depth;
      valid = all-back IsPhandle mine others v.phandles_valid;
      numbered = distinct-back (numbers mine) (numbers others) differ;
      free = apart_free (record { parent = 0; depth = 0; name = []; properties = t.properties }) (numbers others) (apart-flip (numbers mine) (numbers others) (distinct-apart (numbers mine) (numbers others) differ));
    } in
    record {
      set = may_set_all root 0 t.properties (omega arith) v.properties.distinct (unset root 0 t.properties refl) (good root 0 t.properties v.properties (all-front IsPhandle mine others v.phandles_valid) (unused (numbers mine)) root (λ q d. refl));
      plant = subst (λ (x : List Slot). MayPlant x 0 t.children) (sym (root_set t.properties v.properties)) (plant t.children (root_with t.properties) 0 fits);
    }
  where
    unused : (ns : List ℕ) → AllByRecursion (IsFree (root_alone 0).slots) ns
    unused [] = tt
    unused (n ∷ ns) = ((tt, tt), unused ns)
