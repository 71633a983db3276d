-- The merged meaning is a meaning.
use Rattle.std.proofs.Common.{◌≡◌, true, false, ◌||◌, List, [], ◌∷◌, map, codes, refl, sym, ap, ◌∙◌, inl, inr, subst, Option, Some, None, true≢false}
use Rattle.std.specs.Prelude.{unwrap_or, IsSome, is_some}
use Rattle.std.specs.List.{list_any}
use Rattle.std.specs.Str.{bytes_eq}
use Rattle.dt_model.specs.Names.{Name, IsPropertyName, IsLabel}
use Rattle.dt_model.specs.Path.{Path}
use Rattle.dt_model.specs.Lists.{IsIn, last_of}
use Rattle.dt_model.specs.Meaning.{Item, byte, reference, item_renamed, EachReference, AreBytes, Meaning, IsMeaning, IsPlain}
use Rattle.dt_model.specs.Overlay.{OverlayReference, inside, outside, Overlay, IsOverlay, IsBrought}
use Rattle.dt_model.specs.Merged.{Site, landing, sources, merged, meant, IsGiven, IsDefined}
use Rattle.dt_model.specs.Valid.{AreDistinct}
use Rattle.dt_model_laws.specs.Merging.{MergedIsMeaning}
use Rattle.dt_model.proofs.Tests.{or_cases, or_left, or_right, any_from, any_here}
use Rattle.dt_model_laws.proofs.Lands.{source_of, landing_of, last_from}
use Rattle.dt_model.proofs.Inside.{IsInside, each_more, each_both, referred_inside}
use Rattle.dt_model_laws.proofs.Placed.{site_names, same_fragments, brought_at, lands_at}
use Rattle.dt_model_laws.proofs.MergedTree.{merged_tree}

each_renamed : {R S : Type 0} (P : S → Type 0) (h : R → S) (items : List (Item R)) → EachReference (λ r. P (h r)) items → EachReference P (map (item_renamed h) items)
each_renamed P h [] k = tt
each_renamed P h (byte b ∷ items) k = each_renamed P h items k
each_renamed P h (reference r ∷ items) k = (k.0, each_renamed P h items k.1)

bytes_renamed : {R S : Type 0} (h : R → S) (items : List (Item R)) → AreBytes items → AreBytes (map (item_renamed h) items)
bytes_renamed h [] k = tt
bytes_renamed h (byte b ∷ items) k = (k.0, bytes_renamed h items k.1)
bytes_renamed h (reference r ∷ items) k = bytes_renamed h items k

module _ (m : Meaning) (o : Overlay) (sites : List Site) (meaning : IsMeaning m) (plain : IsPlain m) (overlay : IsOverlay o) (defined : IsDefined m o sites) where
  distinct : AreDistinct (site_names sites)
  distinct = subst AreDistinct (sym (same_fragments m o [] o.fragments sites defined.placed)) overlay.distinct

  lands_on : (p q : Path) → IsIn p (sources sites q) → landing sites p ≡ Some q
  lands_on p q i = landing_of sites p q distinct i

  brought : (p q : Path) → IsIn p (sources sites q) → IsBrought o p
  brought p q i = brought_at o sites p q (same_fragments m o [] o.fragments sites defined.placed) (lands_on p q i)

  -- a value is the tree's, or one that landed
  pub data Value : Path → Name → List (Item Path) → Type 0 where
    old : {q : Path} {name : Name} {items : List (Item Path)} → m.value q name ≡ Some items → Value q name items
    landed : {q : Path} {name : Name} (p : Path) (items : List (Item OverlayReference)) → IsIn p (sources sites q) → o.value p name ≡ Some items → Value q name (map (item_renamed (meant m sites)) items)

  value_cases : (q : Path) (name : Name) (items : List (Item Path)) → (merged m o sites).value q name ≡ Some items → Value q name items
  value_cases q name items h = step (last_of (λ p. o.value p name) (sources sites q)) refl
    where
      step : (x : Option (List (Item OverlayReference))) → last_of (λ p. o.value p name) (sources sites q) ≡ x → Value q name items
      step None e = old (rw e at h)
      step (Some own) e =
          let same : Some (map (item_renamed (meant m sites)) own) ≡ Some items = rw e at h in
          let is : map (item_renamed (meant m sites)) own ≡ items = cc in
          let w = last_from (λ p. o.value p name) (sources sites q) own e in
          subst (Value q name) is (landed w.0 own w.1 w.2)

  some_value : (q : Path) (name : Name) → IsSome ((merged m o sites).value q name) → (items : List (Item Path)) × ((merged m o sites).value q name ≡ Some items)
  some_value q name h = step ((merged m o sites).value q name) refl
    where
      step : (y : Option (List (Item Path))) → (merged m o sites).value q name ≡ y → (items : List (Item Path)) × ((merged m o sites).value q name ≡ Some items)
      step None e = absurd (true≢false (sym h ∙ ap is_some e))
      step (Some items) e = (items, e)

  -- a node on which a keyed node of the overlay lands is keyed
  keyed_landing : (p q : Path) → o.keyed p ≡ true → landing sites p ≡ Some q → (merged m o sites).keyed q ≡ true
  keyed_landing p q h l = or_left (list_any o.keyed (sources sites q)) (m.keyed q) (any_here o.keyed (sources sites q) p (source_of sites p q l) h)

  keyed_before : (q : Path) → m.keyed q ≡ true → (merged m o sites).keyed q ≡ true
  keyed_before q h = or_right (list_any o.keyed (sources sites q)) (m.keyed q) h

  -- what the references of a value that lands mean is keyed
  meant_keyed : (r : OverlayReference) → IsInside o r → IsGiven m r → (merged m o sites).keyed (meant m sites r) ≡ true
  meant_keyed (inside p) h given =
      let w = lands_at m o [] o.fragments sites h.1.0 h.1.1 defined.placed h.1.2 in
      let l : landing sites p ≡ Some w.0 = ap (landing sites) h.1.3 ∙ w.1 in
      ap (λ q. list_any o.keyed (sources sites (unwrap_or q [])) || m.keyed (unwrap_or q [])) l ∙ keyed_landing p w.0 h.0 l
  meant_keyed (outside l) h given = step (m.label l) refl
    where
      step : (x : Option Path) → m.label l ≡ x → (merged m o sites).keyed (unwrap_or (m.label l) []) ≡ true
      step None e = absurd (true≢false (sym (rw e at given)))
      step (Some q) e =
          ap (λ q'. list_any o.keyed (sources sites (unwrap_or q' [])) || m.keyed (unwrap_or q' [])) e
          ∙ keyed_before q (meaning.labelled l q e).1

  value_stands : (q : Path) (name : Name) (items : List (Item Path)) → Value q name items → (merged m o sites).stands q ≡ true
  value_stands q name items (old e) = or_right (list_any o.stands (sources sites q)) (m.stands q) (meaning.values_stand q name (ap is_some e))
  value_stands q name items (landed p own i e) = or_left (list_any o.stands (sources sites q)) (m.stands q) (any_here o.stands (sources sites q) p i (overlay.values_stand p name (ap is_some e)))

  value_named : (q : Path) (name : Name) (items : List (Item Path)) → Value q name items → IsPropertyName name × (bytes_eq name (codes "phandle") ≡ false)
  value_named q name items (old e) = meaning.values_named q name (ap is_some e)
  value_named q name items (landed p own i e) = overlay.values_named p name (ap is_some e)

  value_bytes_are : (q : Path) (name : Name) (items : List (Item Path)) → Value q name items → AreBytes items
  value_bytes_are q name items (old e) = meaning.bytes q name items e
  value_bytes_are q name items (landed p own i e) = bytes_renamed (meant m sites) own (overlay.bytes p name own e)

  value_referred : (q : Path) (name : Name) (items : List (Item Path)) → Value q name items → EachReference (λ q'. (merged m o sites).keyed q' ≡ true) items
  value_referred q name items (old e) = each_more (λ q'. m.keyed q' ≡ true) (λ q'. (merged m o sites).keyed q' ≡ true) items keyed_before (meaning.referred q name items e)
  value_referred q name items (landed p own i e) =
      each_renamed (λ q'. (merged m o sites).keyed q' ≡ true) (meant m sites) own
      (each_both (IsInside o) (IsGiven m) (λ r. (merged m o sites).keyed (meant m sites r) ≡ true) own meant_keyed (referred_inside o overlay p name own (brought p q i) e) (defined.given p name own e))

  labelled_after : (l : Name) (q : Path) → (merged m o sites).label l ≡ Some q → IsLabel l × ((merged m o sites).keyed q ≡ true)
  labelled_after l q h = step (o.label l) refl
    where
      before : m.label l ≡ Some q → IsLabel l × ((merged m o sites).keyed q ≡ true)
      before e = let w = meaning.labelled l q e in (w.0, keyed_before q w.1)

      step : (x : Option Path) → o.label l ≡ x → IsLabel l × ((merged m o sites).keyed q ≡ true)
      step None e = before (rw e at h)
      step (Some p) e = inner (landing sites p) refl
        where
          inner : (y : Option Path) → landing sites p ≡ y → IsLabel l × ((merged m o sites).keyed q ≡ true)
          inner None e' = before (rw (e, e') at h)
          inner (Some q') e' =
              let same : Some q' ≡ Some q = rw (e, e') at h in
              let w = overlay.labelled l p e in
              (w.0, keyed_landing p q w.1 (e' ∙ same))

  keyed_stands : (q : Path) → (merged m o sites).keyed q ≡ true → (merged m o sites).stands q ≡ true
  keyed_stands q h = elim (or_cases (list_any o.keyed (sources sites q)) (m.keyed q) h) [
    | inl any ↦
        let w = any_from o.keyed (sources sites q) any in
        or_left (list_any o.stands (sources sites q)) (m.stands q) (any_here o.stands (sources sites q) w.0 w.1 (overlay.keyed_stand w.0 w.2))
    | inr k ↦ or_right (list_any o.stands (sources sites q)) (m.stands q) (meaning.keyed_stand q k)
  ]

  meaning_after : IsMeaning (merged m o sites)
  meaning_after =
      let tree = merged_tree m o meaning overlay o.fragments sites defined.placed in
      record {
        reservations = meaning.reservations;
        rooted = or_right (list_any o.stands (sources sites [])) (m.stands []) meaning.rooted;
        parents = tree.parents;
        named = tree.named;
        values_stand = λ p name h. let w = some_value p name h in value_stands p name w.0 (value_cases p name w.0 w.1);
        values_named = λ p name h. let w = some_value p name h in value_named p name w.0 (value_cases p name w.0 w.1);
        bytes = λ p name items h. value_bytes_are p name items (value_cases p name items h);
        keyed_stand = keyed_stands;
        labelled = labelled_after;
        referred = λ p name items h. value_referred p name items (value_cases p name items h);
        numbered = λ p n h. let w = meaning.numbered p n h in (keyed_before p w.0, w.1, w.2);
        own = meaning.own;
      }

  plain_after : IsPlain (merged m o sites)
  plain_after = record {
    plain = λ q h. elim (or_cases (list_any o.stands (sources sites q)) (m.stands q) h) [
      | inl any ↦ let w = any_from o.stands (sources sites q) any in defined.plain w.0 q w.2 (lands_on w.0 q w.1)
      | inr k ↦ plain.plain q k
    ];
  }

pub merged_is_a_meaning : MergedIsMeaning
merged_is_a_meaning m o sites meaning plain overlay defined = (meaning_after m o sites meaning plain overlay defined, plain_after m o sites meaning plain overlay defined)
