-- Values with places for paths: they are read exactly where the values are, and mean the same.
use Rattle.std.proofs.Common.{◌≡◌, ℕ, Bool, true, false, cond, List, [], ◌∷◌, ◌++◌, map, reverse, Option, None, Some, is_some, option_map, refl, sym, ap, subst, ◌∙◌, append_assoc, append-nil}
use Rattle.std.specs.List.{AllByRecursion}
use Rattle.std.specs.Option.{option_and_then, option_or}
use Rattle.std.proofs.lemmas.List.{map-append}
use Rattle.dt_model.specs.Names.{Name, IsLabel}
use Rattle.dt_model.specs.Path.{Path, path_value}
use Rattle.dt_model.specs.Meaning.{Item, byte, reference, item_renamed, EachReference}
use Rattle.dt_model.specs.Event.{Stack, stands}
use Rattle.dt_model.specs.Overlay.{ReferenceBy, inside, outside, OverlayReference, reference_renamed}
use Rattle.dt_model.specs.Source.{Part, one, number_of, text_of, Reference, by_label, by_path, Events, referent, bound, all_bound}
use Rattle.dt_model.specs.Named.{NodeReference}
use Rattle.dt_model.proofs.Labels.{labelled_names}
use Rattle.dt_model.proofs.Cases.{map_some, then_some}
use Rattle.dt_source_growing.specs.declared.growing.Node.{Node}
use Rattle.dt_source_growing.specs.declared.growing.Property.{Property}
use Rattle.dt_source_growing.specs.declared.growing.Giving.{Giving}
use Rattle.dt_source_growing.specs.declared.referring.Unnamed.{Unnamed}
use Rattle.dt_source_growing.specs.declared.referring.Unnamed.TheVariants.{Refused}
use Rattle.dt_source_growing.specs.Grown.{StandsUnder, IsGrown}
use Rattle.dt_source_nodes.specs.Contents.{kept_label, named_cell, named_part, named_parts, IsLabelledPart, all_read}

module _ {R S : Type 0} (f : R → S) where
  bytes_renamed : (bs : List ℕ) → map (item_renamed f) (map byte bs) ≡ map byte bs
  bytes_renamed [] = refl
  bytes_renamed (b ∷ bs) = ap (λ (xs : List (Item S)). byte b ∷ xs) (bytes_renamed bs)

-- what a reference names stands
pub referent_stands : (nodes : List Node) (properties : List Property) (givings : List Giving) (es : Events) → IsGrown nodes properties givings es →
    (r : Reference) (p : Stack) → referent es r ≡ Some p → (k : ℕ) × StandsUnder nodes p k
referent_stands nodes properties givings es grown (by_label l) p h =
    let label = grown.labels_are l p (labelled_names es l p h) in
    (label.1.giving.node, label.1.node)
referent_stands nodes properties givings es grown (by_path path) p h = step (stands es (reverse path)) refl h
  where
    step : (b : Bool) → stands es (reverse path) ≡ b → cond b (Some (reverse path)) None ≡ Some p → (k : ℕ) × StandsUnder nodes p k
    step true e g = let same : reverse path ≡ p = cc in subst (λ (q : Stack). (k : ℕ) × StandsUnder nodes q k) same (grown.nodes_are (reverse path) e)
    step false e g = cc

-- two values, one behind the other
module _ {R : Type 0} where
  abbrev pub behind : Option (List (Item R)) → Option (List (Item R)) → Option (List (Item R))
  behind o os = option_and_then (λ items. option_map (λ others. items ++ others) os) o

  behind_nothing : (o : Option (List (Item R))) → behind (Some []) o ≡ o
  behind_nothing None = refl
  behind_nothing (Some items) = refl

  behind_assoc : (a b c : Option (List (Item R))) → behind a (behind b c) ≡ behind (behind a b) c
  behind_assoc None b c = refl
  behind_assoc (Some x) None c = refl
  behind_assoc (Some x) (Some y) None = refl
  behind_assoc (Some x) (Some y) (Some z) = ap (λ (items : List (Item R)). Some items) (sym (append_assoc x y z))

  behind_none : (o : Option (List (Item R))) → behind o None ≡ None
  behind_none None = refl
  behind_none (Some items) = refl

-- renamed one behind the other
behind_renamed : {R S : Type 0} (f : R → S) (o os : Option (List (Item R))) →
    option_map (map (item_renamed f)) (behind o os) ≡ behind (option_map (map (item_renamed f)) o) (option_map (map (item_renamed f)) os)
behind_renamed f None os = refl
behind_renamed f (Some items) None = refl
behind_renamed {S} f (Some items) (Some others) = ap (λ (xs : List (Item S)). Some xs) (map-append (item_renamed f) items others)

-- ---- with nodes told in another way

module _ {N M : Type 0} (unnamed : Unnamed) (es : Events) (tell : Stack → N) (told : Stack → M) (f : N → M)
    (is : (r : Reference) (p : Stack) → referent es r ≡ Some p → f (tell p) ≡ told p) where
  cell_told : (r : Reference) → option_map (reference_renamed f) (named_cell unnamed es tell r) ≡ named_cell unnamed es told r
  cell_told r = step (referent es r) refl (kept_label unnamed r)
    where
      step : (o : Option Stack) → referent es r ≡ o → (k : Option Name) →
          option_map (reference_renamed f) (option_or (option_map (λ p. inside (tell p)) o) (option_map outside k)) ≡ option_or (option_map (λ p. inside (told p)) o) (option_map outside k)
      step None e None = refl
      step None e (Some l) = refl
      step (Some p) e k = ap (λ (m : M). Some (inside m)) (is r p e)

  part_told : (x : Part) → option_map (map (item_renamed (reference_renamed f))) (named_part unnamed es tell x) ≡ named_part unnamed es told x
  part_told (one b) = refl
  part_told (number_of r) = step (named_cell unnamed es tell r) ∙ ap (option_map (λ q. reference q ∷ [])) (cell_told r)
    where
      step : (o : Option (ReferenceBy N)) →
          option_map (map (item_renamed (reference_renamed f))) (option_map (λ q. reference q ∷ []) o) ≡ option_map (λ q. reference q ∷ []) (option_map (reference_renamed f) o)
      step None = refl
      step (Some q) = refl
  part_told (text_of r) = step (referent es r)
    where
      step : (o : Option Stack) →
          option_map (map (item_renamed (reference_renamed f))) (option_map (λ p. map byte (path_value (reverse p))) o) ≡ option_map (λ p. map byte (path_value (reverse p))) o
      step None = refl
      step (Some p) = ap (λ (xs : List (Item (ReferenceBy M))). Some xs) (bytes_renamed (reference_renamed f) (path_value (reverse p)))

  pub parts_told : (xs : List Part) → option_map (map (item_renamed (reference_renamed f))) (named_parts unnamed es tell xs) ≡ named_parts unnamed es told xs
  parts_told [] = refl
  parts_told (x ∷ xs) =
      behind_renamed (reference_renamed f) (named_part unnamed es tell x) (named_parts unnamed es tell xs)
      ∙ (ap (λ (o : Option (List (Item (ReferenceBy M)))). behind o (option_map (map (item_renamed (reference_renamed f))) (named_parts unnamed es tell xs))) (part_told x)
      ∙ ap (behind (named_part unnamed es told x)) (parts_told xs))

-- ---- a base's values

module _ (es : Events) where
  part_bound : (x : Part) → option_map (map (item_renamed inside)) (bound es x) ≡ named_part Refused es reverse x
  part_bound (one b) = refl
  part_bound (number_of r) = step (referent es r)
    where
      step : (o : Option Stack) → option_map (map (item_renamed inside)) (option_map (λ p. reference (reverse p) ∷ []) o)
          ≡ option_map {U = List (Item OverlayReference)} (λ q. reference q ∷ []) (option_or (option_map (λ p. inside (reverse p)) o) None)
      step None = refl
      step (Some p) = refl
  part_bound (text_of r) = step (referent es r)
    where
      step : (o : Option Stack) → option_map (map (item_renamed inside)) (option_map (λ p. map byte (path_value (reverse p))) o)
          ≡ option_map {U = List (Item OverlayReference)} (λ p. map byte (path_value (reverse p))) o
      step None = refl
      step (Some p) = ap (λ (xs : List (Item OverlayReference)). Some xs) (bytes_renamed inside (path_value (reverse p)))

  -- are read as they are bound
  pub parts_bound : (xs : List Part) → option_map (map (item_renamed inside)) (all_bound es xs) ≡ all_read Refused es xs
  parts_bound [] = refl
  parts_bound (x ∷ xs) =
      behind_renamed inside (bound es x) (all_bound es xs)
      ∙ (ap (λ (o : Option (List (Item OverlayReference))). behind o (option_map (map (item_renamed inside)) (all_bound es xs))) (part_bound x)
      ∙ ap (behind (named_part Refused es reverse x)) (parts_bound xs))

-- ---- what values refer to

module _ (unnamed : Unnamed) (es : Events) (place : Stack → ℕ) (P : NodeReference → Type 0) (holds : (r : Reference) (p : Stack) → referent es r ≡ Some p → P (inside (place p)))
    (labels : (l : Name) → IsLabel l → P (outside l)) where
  bytes_refer : (bs : List ℕ) → EachReference P (map byte bs)
  bytes_refer [] = tt
  bytes_refer (b ∷ bs) = bytes_refer bs

  each_append : (xs ys : List (Item NodeReference)) → EachReference P xs → EachReference P ys → EachReference P (xs ++ ys)
  each_append [] ys h g = g
  each_append (byte b ∷ xs) ys h g = each_append xs ys h g
  each_append (reference r ∷ xs) ys h g = (h.0, each_append xs ys h.1 g)

  cell_refers : (r : Reference) → IsLabelledPart unnamed (number_of r) → (q : NodeReference) → named_cell unnamed es place r ≡ Some q → P q
  cell_refers r labelled q h = step (referent es r) refl (kept_label unnamed r) refl h
    where
      step : (o : Option Stack) → referent es r ≡ o → (k : Option Name) → kept_label unnamed r ≡ k →
          option_or (option_map (λ p. inside (place p)) o) (option_map outside k) ≡ Some q → P q
      step None e None f g = cc
      step None e (Some l) f g = let same : outside l ≡ q = cc in subst P same (labels l (labelled l f))
      step (Some p) e k f g = let same : inside (place p) ≡ q = cc in subst P same (holds r p e)

  part_refers : (x : Part) → IsLabelledPart unnamed x → (items : List (Item NodeReference)) → named_part unnamed es place x ≡ Some items → EachReference P items
  part_refers (one b) labelled items h = let same : byte b ∷ [] ≡ items = cc in subst (EachReference P) same tt
  part_refers (number_of r) labelled items h =
      let found = map_some (λ q. reference q ∷ []) (named_cell unnamed es place r) items h in
      subst (EachReference P) found.2 (cell_refers r labelled found.0 found.1, tt)
  part_refers (text_of r) labelled items h =
      let found = map_some (λ p. map byte (path_value (reverse p))) (referent es r) items h in
      subst (EachReference P) found.2 (bytes_refer (path_value (reverse found.0)))

  pub parts_refer : (xs : List Part) → AllByRecursion (IsLabelledPart unnamed) xs → (items : List (Item NodeReference)) → named_parts unnamed es place xs ≡ Some items → EachReference P items
  parts_refer [] labelled items h = let same : [] ≡ items = cc in subst (EachReference P) same tt
  parts_refer (x ∷ xs) labelled items h =
      let more : List (Item NodeReference) → Option (List (Item NodeReference)) = λ first. option_map (λ others. first ++ others) (named_parts unnamed es place xs) in
      let first = then_some more (named_part unnamed es place x) items h in
      let rest = map_some (λ others. first.0 ++ others) (named_parts unnamed es place xs) items first.2 in
      subst (EachReference P) rest.2 (each_append first.0 rest.0 (part_refers x labelled.0 first.0 first.1) (parts_refer xs labelled.1 rest.0 rest.1))

-- ---- parts behind parts

module _ {N : Type 0} (unnamed : Unnamed) (es : Events) (tell : Stack → N) where
  pub named_behind : (xs ys : List Part) → named_parts unnamed es tell (xs ++ ys) ≡ behind (named_parts unnamed es tell xs) (named_parts unnamed es tell ys)
  named_behind [] ys = sym (behind_nothing (named_parts unnamed es tell ys))
  named_behind (x ∷ xs) ys =
      ap (behind (named_part unnamed es tell x)) (named_behind xs ys) ∙ behind_assoc (named_part unnamed es tell x) (named_parts unnamed es tell xs) (named_parts unnamed es tell ys)

  -- what isn't read isn't read among others
  pub unread_before : (xs ys : List Part) → named_parts unnamed es tell xs ≡ None → named_parts unnamed es tell (xs ++ ys) ≡ None
  unread_before xs ys e = named_behind xs ys ∙ ap (λ (o : Option (List (Item (ReferenceBy N)))). behind o (named_parts unnamed es tell ys)) e

  pub unread_behind : (xs ys : List Part) → named_parts unnamed es tell ys ≡ None → named_parts unnamed es tell (xs ++ ys) ≡ None
  unread_behind xs ys e = named_behind xs ys ∙ (ap (behind (named_parts unnamed es tell xs)) e ∙ behind_none (named_parts unnamed es tell xs))

  pub bytes_named : (bs : List ℕ) → named_parts unnamed es tell (map one bs) ≡ Some (map byte bs)
  bytes_named [] = refl
  bytes_named (b ∷ bs) = ap (behind (Some (byte b ∷ []))) (bytes_named bs)

  -- bytes and a part behind them
  pub piece_named : (bs : List ℕ) (x : Part) (items : List (Item (ReferenceBy N))) → named_part unnamed es tell x ≡ Some items →
      named_parts unnamed es tell (map one bs ++ x ∷ []) ≡ Some (map byte bs ++ items)
  piece_named bs x items e =
      named_behind (map one bs) (x ∷ [])
      ∙ (ap (λ (o : Option (List (Item (ReferenceBy N)))). behind o (named_parts unnamed es tell (x ∷ []))) (bytes_named bs)
      ∙ (ap (λ (o : Option (List (Item (ReferenceBy N)))). behind (Some (map byte bs)) (behind o (Some []))) e ∙ ap (λ (xs : List (Item (ReferenceBy N))). Some (map byte bs ++ xs)) (append-nil items)))

-- ---- what is read is read however nodes are told

pub map_keeps : {A B : Type 0} (f : A → B) (o : Option A) → is_some (option_map f o) ≡ is_some o
map_keeps f None = refl
map_keeps f (Some x) = refl

pub parts_some : (unnamed : Unnamed) (es : Events) (place : Stack → ℕ) (xs : List Part) → is_some (named_parts unnamed es place xs) ≡ is_some (all_read unnamed es xs)
parts_some unnamed es place xs =
    let nothing : ℕ → Unit {0} = λ k. tt in
    let read : Path → Unit {0} = λ p. tt in
    sym (map_keeps (map (item_renamed (reference_renamed nothing))) (named_parts unnamed es place xs))
    ∙ (ap is_some (parts_told unnamed es place (λ p. tt) nothing (λ r p e. refl) xs ∙ sym (parts_told unnamed es reverse (λ p. tt) read (λ r p e. refl) xs))
    ∙ map_keeps (map (item_renamed (reference_renamed read))) (all_read unnamed es xs))
