-- Each body and each statement that the grammar spells is a relaxed one that says it.
use Rattle.std.specs.List.{AllByRecursion}
use Rattle.std.proofs.Common.{suc, Bool, true, false, ◌<◌, length}
use Rattle.dt_model.specs.Names.{IsNodeName, IsPropertyName}
use Rattle.dt_grammar.specs.Strict.{AreLabelTexts, IsComponent, IsSoundPlace, IsOrdered}
use Rattle.std.proofs.Common.{◌≡◌, ℕ, List, [], ◌∷◌, ◌++◌, map, refl, sym, ◌∙◌, ap, subst, append_assoc}
use Rattle.std.proofs.lemmas.List.{map-append}
use Rattle.dt_model.specs.Names.{Name}
use Rattle.dt_model.specs.Source.{Part, Place, child, label, property, delete_property, delete_child, close}
use Rattle.dt_lex.specs.declared.token.Mark.TheVariants as mark
use Rattle.dt_grammar.specs.Words.{Word, Words, IsMark, IsPropertyWord}
use Rattle.dt_grammar.specs.Grammar.{SpellsAssigned, empty, assigned, SpellsProperties, no_properties, defined, deleted, SpellsChildren, no_children, opened, removed}
use Rattle.dt_grammar.specs.Unchecked.{RawComponent, RawPlace, raw_child, raw_label, raw_property, raw_delete_property, raw_delete_child, raw_close, value_parts, place_meant}
use Rattle.dt_grammar.specs.Relaxed.{Labels, Members, no_more_members, a_flag, a_property, a_deleted_property, a_child, a_deleted_child}
use Rattle.dt_grammar.proofs.Names.{word_is, labels_of, labels_say}
use Rattle.dt_grammar.proofs.StrictValues.{value_of}

-- ---- properties

record DefinedOf (us vs xs : Words) (w semicolon : Word) (ls : List (List ℕ)) (parts : List Part) (raw : List RawPlace) : Type 0 where
  value : List RawComponent
  relaxed : Members (us ++ w ∷ (vs ++ semicolon ∷ xs)) (raw_property ls w.bytes value ∷ raw)
  says : value_parts value ≡ parts
  strict : AllByRecursion IsComponent value

defined_of : {vs : Words} {parts : List Part} → SpellsAssigned vs parts → (us xs : Words) (w s : Word) (n : Name) (ls : List (List ℕ)) (raw : List RawPlace) → Labels us ls → IsPropertyWord w n → IsMark mark.Semicolon s → Members xs raw → DefinedOf us vs xs w s ls parts raw
defined_of empty us xs w s n ls raw l is e m = record {
  value = [];
  relaxed = subst (λ (x : Words). Members x (raw_property ls w.bytes [] ∷ raw)) (λ i. us ++ sym (word_is w _ is.kind) i ∷ sym (word_is s _ e) i ∷ xs) (a_flag us xs w.bytes s.bytes ls raw l m);
  says = refl;
  strict = tt;
}
defined_of (assigned q vs parts f v) us xs w s n ls raw l is e m =
    let r = value_of v in
    record {
      value = r.raw;
      relaxed = subst (λ (x : Words). Members x (raw_property ls w.bytes r.raw ∷ raw)) (λ i. us ++ sym (word_is w _ is.kind) i ∷ sym (word_is q _ f) i ∷ (vs ++ sym (word_is s _ e) i ∷ xs))
          (a_property us vs xs w.bytes q.bytes s.bytes ls r.raw raw l r.relaxed m);
      says = r.says;
      strict = r.strict;
    }

-- what properties and the members behind them say
pub record PropertiesOf (us : Words) (ps : List Place) (xs : Words) (qs : List RawPlace) : Type 0 where
  pub raw : List RawPlace
  pub relaxed : Members (us ++ xs) raw
  pub says : map place_meant raw ≡ ps ++ map place_meant qs
  pub sound : AllByRecursion IsSoundPlace qs → AllByRecursion IsSoundPlace raw
  pub ordered : (bodies : List Bool) (rest : List RawPlace) → IsOrdered (false ∷ bodies) (qs ++ rest) → IsOrdered (false ∷ bodies) (raw ++ rest)

pub properties_of : {us : Words} {ps : List Place} → SpellsProperties us ps → (xs : Words) (qs : List RawPlace) → Members xs qs → PropertiesOf us ps xs qs
properties_of no_properties xs qs m = record { raw = qs; relaxed = m; says = refl; sound = λ h. h; ordered = λ bodies rest h. h }
properties_of (defined us vs ws w s n ls parts places l is a e t) xs qs m =
    let labels = labels_of l in
    let r = properties_of t xs qs m in
    let d = defined_of a us (ws ++ xs) w s n labels.raw r.raw labels.relaxed is e r.relaxed in
    record {
      raw = raw_property labels.raw w.bytes d.value ∷ r.raw;
      relaxed = subst (λ (x : Words). Members x (raw_property labels.raw w.bytes d.value ∷ r.raw))
          (sym (append_assoc us (w ∷ (vs ++ s ∷ ws)) xs ∙ ap (λ (x : Words). us ++ w ∷ x) (append_assoc vs (s ∷ ws) xs))) d.relaxed;
      says = λ i. property (is.bytes i) (d.says i) ∷ r.says i;
      sound = λ h. ((labels.strict, subst IsPropertyName (sym is.bytes) is.valid, d.strict), r.sound h);
      ordered = λ bodies rest h. (refl, r.ordered bodies rest h);
    }
properties_of (deleted us ws k w s n ls places l g is e t) xs qs m =
    let labels = labels_of l in
    let r = properties_of t xs qs m in
    record {
      raw = raw_delete_property labels.raw w.bytes ∷ r.raw;
      relaxed = subst (λ (x : Words). Members x (raw_delete_property labels.raw w.bytes ∷ r.raw))
          ((λ i. us ++ sym (word_is k _ g) i ∷ sym (word_is w _ is.kind) i ∷ sym (word_is s _ e) i ∷ (ws ++ xs)) ∙ sym (append_assoc us (k ∷ w ∷ s ∷ ws) xs))
          (a_deleted_property us (ws ++ xs) k.bytes w.bytes s.bytes labels.raw r.raw labels.relaxed r.relaxed);
      says = λ i. delete_property (is.bytes i) ∷ r.says i;
      sound = λ h. ((labels.strict, subst IsPropertyName (sym is.bytes) is.valid), r.sound h);
      ordered = λ bodies rest h. (refl, r.ordered bodies rest h);
    }

-- ---- children

pub record MembersOf (around : ℕ) (ws : Words) (ps : List Place) : Type 0 where
  pub raw : List RawPlace
  pub relaxed : Members ws raw
  pub says : map place_meant raw ≡ ps
  pub sound : AllByRecursion IsSoundPlace raw
  pub ordered : (b : Bool) (bodies : List Bool) (rest : List RawPlace) → length (b ∷ bodies) ≡ around → ((c : Bool) → IsOrdered (c ∷ bodies) rest) → IsOrdered (b ∷ bodies) (raw ++ rest)

pub all_append : {X : Type 0} (P : X → Type 0) (xs ys : List X) → AllByRecursion P xs → AllByRecursion P ys → AllByRecursion P (xs ++ ys)
all_append P [] ys h k = k
all_append P (x ∷ xs) ys h k = (h.0, all_append P xs ys h.1 k)

pub labels_sound : (ls : List (List ℕ)) → AreLabelTexts ls → AllByRecursion IsSoundPlace (map raw_label ls)
labels_sound [] h = tt
labels_sound (l ∷ ls) h = (h.0, labels_sound ls h.1)

pub labels_ordered : (ls : List (List ℕ)) (bodies : List Bool) (ps : List RawPlace) → IsOrdered bodies ps → IsOrdered bodies (map raw_label ls ++ ps)
labels_ordered [] bodies ps h = h
labels_ordered (l ∷ ls) bodies ps h = labels_ordered ls bodies ps h

pub child_regroup : (fs bs rs rest : List RawPlace) → (fs ++ (bs ++ raw_close ∷ rs)) ++ rest ≡ fs ++ (bs ++ raw_close ∷ (rs ++ rest))
child_regroup fs bs rs rest = append_assoc fs (bs ++ raw_close ∷ rs) rest ∙ ap (λ (z : List RawPlace). fs ++ z) (append_assoc bs (raw_close ∷ rs) rest)

pub body_says : (fs bs rs : List RawPlace) (ls ps cs places : List Place) → map place_meant fs ≡ ls → map place_meant bs ≡ ps ++ cs → map place_meant rs ≡ places → map place_meant (fs ++ (bs ++ raw_close ∷ rs)) ≡ ls ++ (ps ++ (cs ++ close ∷ places))
body_says fs bs rs ls ps cs places h k m =
    map-append place_meant fs (bs ++ raw_close ∷ rs) ∙ ap (λ (z : List Place). map place_meant fs ++ z) (map-append place_meant bs (raw_close ∷ rs))
    ∙ (λ i. h i ++ (k i ++ close ∷ m i)) ∙ ap (λ (z : List Place). ls ++ z) (append_assoc ps cs (close ∷ places))

pub children_of : {around : ℕ} {ws : Words} {ps : List Place} → SpellsChildren around ws ps → MembersOf around ws ps
children_of (no_children around) = record { raw = []; relaxed = no_more_members; says = refl; sound = tt; ordered = λ b bodies rest e h. h b }
children_of (opened around us properties children ws w o c s n ls ps cs places l is e lt p ch f g t) =
    let labels = labels_of l in
    let inner = children_of ch in
    let body = properties_of p children inner.raw inner.relaxed in
    let r = children_of t in
    let raw : List RawPlace = raw_child w.bytes ∷ (map raw_label labels.raw ++ (body.raw ++ raw_close ∷ r.raw)) in
    let inside : map place_meant body.raw ≡ ps ++ cs = body.says ∙ ap (λ (z : List Place). ps ++ z) inner.says in
    let said = body_says (map raw_label labels.raw) body.raw r.raw (map label ls) ps cs places (labels_say labels) inside r.says in
    record {
      raw = raw;
      relaxed = subst (λ (x : Words). Members x raw)
          ((λ i. us ++ sym (word_is w _ is.kind) i ∷ sym (word_is o _ e) i ∷ ((properties ++ children) ++ sym (word_is c _ f) i ∷ sym (word_is s _ g) i ∷ ws))
          ∙ ap (λ (x : Words). us ++ w ∷ o ∷ x) (append_assoc properties children (c ∷ s ∷ ws)))
          (a_child us (properties ++ children) ws w.bytes o.bytes c.bytes s.bytes labels.raw body.raw r.raw labels.relaxed body.relaxed r.relaxed);
      says = λ i. child (is.bytes i) ∷ said i;
      sound = (subst IsNodeName (sym is.bytes) is.valid, all_append IsSoundPlace (map raw_label labels.raw) _ (labels_sound labels.raw labels.strict) (all_append IsSoundPlace body.raw _ (body.sound inner.sound) (tt, r.sound)));
      ordered = λ b bodies rest same h. (
        subst (λ (n : ℕ). n < 65) (sym same) lt,
        subst (IsOrdered (false ∷ true ∷ bodies)) (sym (child_regroup (map raw_label labels.raw) body.raw r.raw rest))
            (labels_ordered labels.raw (false ∷ true ∷ bodies) (body.raw ++ raw_close ∷ (r.raw ++ rest))
            (body.ordered (true ∷ bodies) (raw_close ∷ (r.raw ++ rest))
            (inner.ordered false (true ∷ bodies) (raw_close ∷ (r.raw ++ rest)) (ap suc same) (λ c. r.ordered true bodies rest same h)))),
      );
    }
children_of (removed around us ws k w s n ls places l g is e t) =
    let labels = labels_of l in
    let r = children_of t in
    record {
      raw = raw_delete_child labels.raw w.bytes ∷ r.raw;
      relaxed = subst (λ (x : Words). Members x (raw_delete_child labels.raw w.bytes ∷ r.raw))
          (λ i. us ++ sym (word_is k _ g) i ∷ sym (word_is w _ is.kind) i ∷ sym (word_is s _ e) i ∷ ws)
          (a_deleted_child us ws k.bytes w.bytes s.bytes labels.raw r.raw labels.relaxed r.relaxed);
      says = λ i. delete_child (is.bytes i) ∷ r.says i;
      sound = ((labels.strict, subst IsNodeName (sym is.bytes) is.valid), r.sound);
      ordered = λ b bodies rest same h. r.ordered true bodies rest same h;
    }
