-- The nodes of a tree's list that are needed, made again one after another, are the mirror of the tree.
use Rattle.std.proofs.Common.{◌≡◌, ◌≢◌, ℕ, suc, ◌+◌, ◌<◌, ◌≤◌, Bool, true, false, cond, ◌||◌, ◌&&◌, List, [], ◌∷◌, ◌++◌, length, get_or, Some, None, refl, sym, ap, ◌∙◌, subst, arith, append_assoc}
use Rattle.std.specs.List.{AllByRecursion}
use Rattle.std.specs.Str.{bytes_eq}
use Rattle.std.proofs.lemmas.List.{append-nil, length_push, get_or_append_left, get_or_push}
use Rattle.std.proofs.lemmas.Slice.Eq.{bytes_eq-Decides}
use Rattle.dt_model.specs.Fixups.{local_properties, mirror, unless_empty}
use Rattle.dt_model.specs.Names.{Name}
use Rattle.dt_model.specs.Named as named
use Rattle.dt_model.specs.Named.{NodeReference, NamedForest, Listed, node_count, listed}
use Rattle.dt_model.specs.NamedOf.{AreNamedNodes}
use Rattle.dt_model.specs.Tree.{Property, Forest, no_nodes, branch}
use Rattle.dt_model.specs.Valid.{AreDistinct}
use Rattle.dt_flat.specs.Arena.{Slot, Child, named_children, child_of, with_child, with_property, depth_of}
use Rattle.dt_flat.specs.Planted.{with_properties, planted}
use Rattle.dt_flat.proofs.AfterChild.{tested, differs, length-with_child, named_children-push, child-with_child, childless-with_child}
use Rattle.dt_flat.proofs.AfterProperty.{children-with_property}
use Rattle.dt_flat.proofs.ManyProperties.{length-with_properties}
use Rattle.dt_marks.specs.Mirrored.{has_some, copied, mirrored, MayMirror}
use Rattle.dt_marks.proofs.Needed.{has_nodes, unless, nodes_of_both, AreNeeded}
use Rattle.dt_marks.proofs.PlainCells.{plain_local}

-- ---- what planting leaves

pub children-with_properties : (slots : List Slot) (k : ℕ) (xs : List Property) (i : ℕ) → named_children (with_properties slots k xs) i ≡ named_children slots i
children-with_properties slots k xs i = by xs slots
  where
    by : (xs : List Property) (slots : List Slot) → named_children (with_properties slots k xs) i ≡ named_children slots i
    by [] slots = refl
    by (x ∷ xs) slots = by xs (with_property slots k x.name x.value) ∙ children-with_property slots k x.name x.value i

pub length-made_node : (slots : List Slot) (p : ℕ) (name : Name) (ps : List Property) → length (with_properties (with_child slots p name) (length slots) ps) ≡ suc (length slots)
length-made_node slots p name ps = omega (arith, length-with_properties (with_child slots p name) (length slots) ps, length-with_child slots p name)

pub no_fewer : (f : Forest) (slots : List Slot) (p : ℕ) → length slots ≤ length (planted slots p f)
no_fewer no_nodes slots p = omega arith
no_fewer (branch name ps children siblings) slots p =
    let one = with_properties (with_child slots p name) (length slots) ps in
    let under = no_fewer children one (length slots) in
    let beside = no_fewer siblings (planted one (length slots) children) p in
    omega (arith, length-made_node slots p name ps, under, beside)

elsewhere : (f : Forest) (slots : List Slot) (p i : ℕ) → i < length slots → p ≢ i → named_children (planted slots p f) i ≡ named_children slots i
elsewhere no_nodes slots p i lt d = refl
elsewhere (branch name ps children siblings) slots p i lt d =
    let one = with_properties (with_child slots p name) (length slots) ps in
    let size = length-made_node slots p name ps in
    let under = elsewhere children one (length slots) i (omega arith) (λ e. omega arith) in
    let beside = elsewhere siblings (planted one (length slots) children) p i (omega (arith, no_fewer children one (length slots))) d in
    beside ∙ under
    ∙ children-with_properties (with_child slots p name) (length slots) ps i
    ∙ named_children-push slots (record { parent = p; depth = depth_of slots p + 1; name = name; properties = [] }) i lt
    ∙ ap (λ (b : Bool). named_children slots i ++ cond b (record { name = name; node = length slots } ∷ []) []) (differs p i d)
    ∙ append-nil (named_children slots i)

-- ---- names that are free

abbrev pub AreFree : List Slot → ℕ → List Name → Type 0
AreFree slots p xs = AllByRecursion (λ x. child_of (named_children slots p) x ≡ None) xs

not_same : (x y : Name) → x ≢ y → bytes_eq x y ≡ false
not_same x y d = by (bytes_eq x y) refl
  where
    by : (b : Bool) → bytes_eq x y ≡ b → b ≡ false
    by true e = absurd (d ((bytes_eq-Decides x y).0 e))
    by false e = refl

free_still : (slots more : List Slot) (p : ℕ) (xs : List Name) → named_children more p ≡ named_children slots p → AreFree slots p xs → AreFree more p xs
free_still slots more p [] e h = tt
free_still slots more p (x ∷ xs) e h = (ap (λ (cs : List Child). child_of cs x) e ∙ h.0, free_still slots more p xs e h.1)

pub free_childless : (slots : List Slot) (p : ℕ) (xs : List Name) → named_children slots p ≡ [] → AreFree slots p xs
free_childless slots p [] e = tt
free_childless slots p (x ∷ xs) e = (ap (λ (cs : List Child). child_of cs x) e, free_childless slots p xs e)

free_behind : (slots : List Slot) (p : ℕ) (name : Name) (xs : List Name) → p < length slots → child_of (named_children slots p) name ≡ None → AllByRecursion (λ y. y ≢ name) xs
    → AreFree slots p xs → AreFree (with_child slots p name) p xs
free_behind slots p name [] lt none d h = tt
free_behind slots p name (x ∷ xs) lt none d h = (
  child-with_child slots p name p x lt none
      ∙ (λ t. cond (tested p p refl t && not_same x name d.0 t) (Some (length slots)) (child_of (named_children slots p) x))
      ∙ h.0,
  free_behind slots p name xs lt none d.1 h.1,
)

-- ---- the walk

-- the copies so far, and where the copies of a forest go
pub record State (k p q : ℕ) (slots : List Slot) (copies : List ℕ) (f : NamedForest NodeReference) : Type 0 where
  pub counted : length copies ≡ k
  pub at : get_or copies p 0 ≡ q
  pub there : q < length slots
  pub free : has_nodes (mirror f) ≡ true → AreFree slots q (named.names f)

-- behind a forest its mirror was made
pub record Copied (needed : ℕ → Bool) (whole rest : List (Listed NodeReference)) (k end q : ℕ) (slots : List Slot) (copies : List ℕ) (f : Forest) : Type 0 where
  pub more : List ℕ
  pub counted : length (copies ++ more) ≡ end
  pub is : mirrored needed k slots copies whole ≡ mirrored needed end (planted slots q f) (copies ++ more) rest
  pub may : MayMirror needed end (planted slots q f) (copies ++ more) rest → MayMirror needed k slots copies whole

kept_at : (copies more : List ℕ) (p q : ℕ) → p < length copies → get_or copies p 0 ≡ q → get_or (copies ++ more) p 0 ≡ q
kept_at copies more p q lt at = get_or_append_left copies more 0 p lt ∙ at

none_there : (f : Forest) → has_nodes f ≡ false → f ≡ no_nodes
none_there no_nodes e = refl
none_there (branch name ps children siblings) e = absurd cc

parts_false : (a b : Bool) → (a || b) ≡ false → (a ≡ false) × (b ≡ false)
parts_false true b e = absurd cc
parts_false false b e = (refl, e)

pub walk_copies : (needed : ℕ → Bool) (n d : ℕ) (f : NamedForest NodeReference) (rest : List (Listed NodeReference)) (k p : ℕ) → p < k → AreNeeded needed k f → AreNamedNodes n d f → AreDistinct (named.names f)
    → (q : ℕ) (slots : List Slot) (copies : List ℕ) → State k p q slots copies f → Copied needed (listed k p f ++ rest) rest k (k + node_count f) q slots copies (mirror f)
walk_copies needed n d named.no_nodes rest k p lt wants valid distinct q slots copies s =
    let e : k ≡ k + 0 = omega arith in
    record {
      more = [];
      counted = omega (arith, ap length (append-nil copies), s.counted);
      is = (λ t. mirrored needed (e t) slots (sym (append-nil copies) t) rest);
      may = λ h. subst (λ (m : ℕ). MayMirror needed m slots copies rest) (sym e) (subst (λ (cs : List ℕ). MayMirror needed (k + 0) slots cs rest) (append-nil copies) h);
    }
walk_copies needed n d (named.branch name content children siblings) rest k p lt wants valid distinct q slots copies s =
    by (needed k) refl
    (λ q slots copies. walk_copies needed n (suc d) children (listed (suc k + node_count children) p siblings ++ rest) (suc k) k (omega arith) wants.1 valid.4 valid.3 q slots copies)
    (λ q slots copies. walk_copies needed n d siblings rest (suc k + node_count children) p (omega arith) wants.2 valid.5 distinct.1 q slots copies)
  where
    m : ℕ
    m = suc k + node_count children

    inner : List (Listed NodeReference)
    inner = listed (suc k) k children

    outer : List (Listed NodeReference)
    outer = listed m p siblings

    one : Listed NodeReference
    one = record { parent = p; name = name; content = content }

    ps : List Property
    ps = local_properties content

    whole : Forest
    whole = unless_empty name ps (mirror children) (mirror siblings)

    end_is : m + node_count siblings ≡ k + (1 + node_count children + node_count siblings)
    end_is = omega arith

    by : (b : Bool) → needed k ≡ b
        → ((q : ℕ) (slots : List Slot) (copies : List ℕ) → State (suc k) k q slots copies children → Copied needed (inner ++ (outer ++ rest)) (outer ++ rest) (suc k) m q slots copies (mirror children))
        → ((q : ℕ) (slots : List Slot) (copies : List ℕ) → State m p q slots copies siblings → Copied needed (outer ++ rest) rest m (m + node_count siblings) q slots copies (mirror siblings))
        → Copied needed (one ∷ ((inner ++ outer) ++ rest)) rest k (k + (1 + node_count children + node_count siblings)) q slots copies whole
    by true on inside beside =
        let wanted : (has_some ps || has_nodes (mirror children)) ≡ true = sym wants.0 ∙ on in
        let is_whole : whole ≡ branch name ps (mirror children) (mirror siblings) =
        unless name ps (mirror children) (mirror siblings) ∙ ap (λ (b : Bool). cond b (branch name ps (mirror children) (mirror siblings)) (mirror siblings)) wanted in
        let all_free = s.free (nodes_of_both name ps (mirror children) (mirror siblings) ∙ ap (λ (b : Bool). b || has_nodes (mirror siblings)) wanted) in
        let i = length slots in
        let slots1 = with_properties (with_child slots q name) i ps in
        let size1 = length-made_node slots q name ps in
        let copies1 = copies ++ i ∷ [] in
        let u = inside i slots1 copies1 (record {
          counted = omega (arith, length_push copies i, s.counted);
          at = get_or_push copies i 0 k s.counted;
          there = omega arith;
          free = λ some. free_childless slots1 i (named.names children) (children-with_properties (with_child slots q name) i ps i ∙ childless-with_child slots q name);
        }) in
        let slots2 = planted slots1 i (mirror children) in
        let before : p < length copies = omega (arith, s.counted) in
        let stands : q < length slots1 = omega (arith, s.there) in
        let free1 : AreFree slots1 q (named.names siblings) =
        free_still (with_child slots q name) slots1 q (named.names siblings) (children-with_properties (with_child slots q name) i ps q)
        (free_behind slots q name (named.names siblings) s.there all_free.0 distinct.0 all_free.1) in
        let v = beside q slots2 (copies1 ++ u.more) (record {
          counted = u.counted;
          at = ap (λ (cs : List ℕ). get_or cs p 0) (append_assoc copies (i ∷ []) u.more) ∙ kept_at copies (i ∷ u.more) p q before s.at;
          there = omega (arith, no_fewer (mirror children) slots1 i);
          free = λ some. free_still slots1 slots2 q (named.names siblings) (elsewhere (mirror children) slots1 i q stands (λ e. omega (arith, s.there))) free1;
        }) in
        let regroup : (copies1 ++ u.more) ++ v.more ≡ copies ++ i ∷ (u.more ++ v.more) = append_assoc copies1 u.more v.more ∙ append_assoc copies (i ∷ []) (u.more ++ v.more) in
        let at_q : copied slots (get_or copies p 0) one ≡ slots1 = ap (λ (x : ℕ). copied slots x one) s.at in
        let final = planted slots2 q (mirror siblings) in
        let planted_is : planted slots q whole ≡ final = ap (planted slots q) is_whole in
        let tail : inner ++ (outer ++ rest) ≡ (inner ++ outer) ++ rest = sym (append_assoc inner outer rest) in
        record {
          more = i ∷ (u.more ++ v.more);
          counted = ap length (sym regroup) ∙ v.counted ∙ end_is;
          is = ap (λ (b : Bool). cond b (mirrored needed (suc k) (copied slots (get_or copies p 0) one) copies1 ((inner ++ outer) ++ rest)) (mirrored needed (suc k) slots (copies ++ 0 ∷ []) ((inner ++ outer) ++ rest))) on
              ∙ (λ t. mirrored needed (suc k) (at_q t) copies1 (sym tail t))
              ∙ u.is ∙ v.is
              ∙ (λ t. mirrored needed (end_is t) (sym planted_is t) (regroup t) rest);
          may = λ h.
              let later : MayMirror needed (m + node_count siblings) final ((copies1 ++ u.more) ++ v.more) rest =
              subst (λ (cs : List ℕ). MayMirror needed (m + node_count siblings) final cs rest) (sym regroup)
              (subst (λ (ss : List Slot). MayMirror needed (m + node_count siblings) ss (copies ++ i ∷ (u.more ++ v.more)) rest) planted_is
              (subst (λ (x : ℕ). MayMirror needed x (planted slots q whole) (copies ++ i ∷ (u.more ++ v.more)) rest) (sym end_is) h)) in
              let next : MayMirror needed (suc k) (copied slots (get_or copies p 0) one) copies1 ((inner ++ outer) ++ rest) =
              subst (λ (ss : List Slot). MayMirror needed (suc k) ss copies1 ((inner ++ outer) ++ rest)) (sym at_q)
              (subst (λ (ns : List (Listed NodeReference)). MayMirror needed (suc k) slots1 copies1 ns) tail (u.may (v.may later))) in (
                (λ yes. (
                  record {
                    known = before;
                    there = subst (λ (x : ℕ). x < length slots) (sym s.at) s.there;
                    absent = ap (λ (x : ℕ). child_of (named_children slots x) name) s.at ∙ all_free.0;
                    named = valid.0;
                    plain = plain_local n content valid.1;
                  },
                  next,
                )),
                (λ no. let clash : true ≡ false = sym on ∙ no in absurd cc),
              );
        }
    by false off inside beside =
        let unwanted = parts_false (has_some ps) (has_nodes (mirror children)) (sym wants.0 ∙ off) in
        let empty : mirror children ≡ no_nodes = none_there (mirror children) unwanted.1 in
        let is_whole : whole ≡ mirror siblings =
        unless name ps (mirror children) (mirror siblings) ∙ ap (λ (b : Bool). cond b (branch name ps (mirror children) (mirror siblings)) (mirror siblings)) (sym wants.0 ∙ off) in
        let copies1 = copies ++ 0 ∷ [] in
        let u = inside 0 slots copies1 (record {
          counted = omega (arith, length_push copies 0, s.counted);
          at = get_or_push copies 0 0 k s.counted;
          there = omega (arith, s.there);
          free = λ some. let clash : true ≡ false = sym some ∙ unwanted.1 in absurd cc;
        }) in
        let same : planted slots 0 (mirror children) ≡ slots = ap (planted slots 0) empty in
        let before : p < length copies = omega (arith, s.counted) in
        let v = beside q slots (copies1 ++ u.more) (record {
          counted = u.counted;
          at = ap (λ (cs : List ℕ). get_or cs p 0) (append_assoc copies (0 ∷ []) u.more) ∙ kept_at copies (0 ∷ u.more) p q before s.at;
          there = s.there;
          free = λ some. (s.free (ap has_nodes is_whole ∙ some)).1;
        }) in
        let regroup : (copies1 ++ u.more) ++ v.more ≡ copies ++ 0 ∷ (u.more ++ v.more) = append_assoc copies1 u.more v.more ∙ append_assoc copies (0 ∷ []) (u.more ++ v.more) in
        let tail : inner ++ (outer ++ rest) ≡ (inner ++ outer) ++ rest = sym (append_assoc inner outer rest) in
        let final = planted slots q (mirror siblings) in
        let planted_is : planted slots q whole ≡ final = ap (planted slots q) is_whole in
        record {
          more = 0 ∷ (u.more ++ v.more);
          counted = ap length (sym regroup) ∙ v.counted ∙ end_is;
          is = ap (λ (b : Bool). cond b (mirrored needed (suc k) (copied slots (get_or copies p 0) one) (copies ++ length slots ∷ []) ((inner ++ outer) ++ rest)) (mirrored needed (suc k) slots copies1 ((inner ++ outer) ++ rest))) off
              ∙ ap (mirrored needed (suc k) slots copies1) (sym tail)
              ∙ u.is ∙ ap (λ (ss : List Slot). mirrored needed m ss (copies1 ++ u.more) (outer ++ rest)) same ∙ v.is
              ∙ (λ t. mirrored needed (end_is t) (sym planted_is t) (regroup t) rest);
          may = λ h.
              let later : MayMirror needed (m + node_count siblings) final ((copies1 ++ u.more) ++ v.more) rest =
              subst (λ (cs : List ℕ). MayMirror needed (m + node_count siblings) final cs rest) (sym regroup)
              (subst (λ (ss : List Slot). MayMirror needed (m + node_count siblings) ss (copies ++ 0 ∷ (u.more ++ v.more)) rest) planted_is
              (subst (λ (x : ℕ). MayMirror needed x (planted slots q whole) (copies ++ 0 ∷ (u.more ++ v.more)) rest) (sym end_is) h)) in
              let next : MayMirror needed (suc k) slots copies1 ((inner ++ outer) ++ rest) =
              subst (λ (ns : List (Listed NodeReference)). MayMirror needed (suc k) slots copies1 ns) tail
              (u.may (subst (λ (ss : List Slot). MayMirror needed m ss (copies1 ++ u.more) (outer ++ rest)) (sym same) (v.may later))) in (
                (λ yes. let clash : true ≡ false = sym yes ∙ off in absurd cc),
                (λ no. next),
              );
        }
