-- A relaxed body that passes the checks is one that the grammar spells.
use Rattle.std.proofs.Common.{◌≡◌, ℕ, Bool, true, false, true≢false, List, [], ◌∷◌, ◌++◌, length, map, refl, sym, ◌∙◌, ap, subst, append_assoc}
use Rattle.std.specs.List.{AllByRecursion}
use Rattle.dt_model.specs.Source.{Place, child, label, property, delete_property}
use Rattle.dt_lex.specs.declared.token.TokenKind.TheVariants as kind
use Rattle.dt_lex.specs.declared.token.Mark.TheVariants as mark
use Rattle.dt_lex.specs.declared.token.Keyword.TheVariants as keyword
use Rattle.dt_grammar.specs.Words.{Words}
use Rattle.dt_grammar.specs.Grammar.{empty, assigned, SpellsProperties, no_properties, defined, deleted, SpellsChildren, no_children, opened, removed}
use Rattle.dt_grammar.specs.Unchecked.{RawPlace, raw_child, raw_label, raw_close, all_but_last, value_parts, place_meant}
use Rattle.dt_grammar.specs.Relaxed.{word, a_mark, a_keyword, Members, no_more_members, a_flag, a_property, a_deleted_property, a_child, a_deleted_child}
use Rattle.dt_grammar.specs.Strict.{AreLabelTexts, IsSoundPlace, IsOrdered}
use Rattle.dt_grammar.proofs.Names.{label_places}
use Rattle.dt_grammar.proofs.StrictBodies.{body_says, child_regroup}
use Rattle.dt_grammar.proofs.CheckedValues.{labels_back, value_back}

pub all_front : {X : Type 0} (P : X → Type 0) (xs ys : List X) → AllByRecursion P (xs ++ ys) → AllByRecursion P xs
all_front P [] ys h = tt
all_front P (x ∷ xs) ys h = (h.0, all_front P xs ys h.1)

pub all_behind : {X : Type 0} (P : X → Type 0) (xs ys : List X) → AllByRecursion P (xs ++ ys) → AllByRecursion P ys
all_behind P [] ys h = h
all_behind P (x ∷ xs) ys h = all_behind P xs ys h.1

pub label_texts : (ls : List (List ℕ)) → AllByRecursion IsSoundPlace (map raw_label ls) → AreLabelTexts ls
label_texts [] h = tt
label_texts (l ∷ ls) h = (h.0, label_texts ls h.1)

pub behind_labels : (ls : List (List ℕ)) (bodies : List Bool) (ps : List RawPlace) → IsOrdered bodies (map raw_label ls ++ ps) → IsOrdered bodies ps
behind_labels [] bodies ps h = h
behind_labels (l ∷ ls) bodies ps h = behind_labels ls bodies ps h

-- properties, and children behind them; no properties where a child stood before
pub record Split (b : Bool) (bodies : List Bool) (ws : Words) (ps rest : List RawPlace) : Type 0 where
  pub us : Words
  pub vs : Words
  pub properties : List Place
  pub children : List Place
  pub together : ws ≡ us ++ vs
  pub spelled_properties : SpellsProperties us properties
  pub spelled_children : SpellsChildren (length (b ∷ bodies)) vs children
  pub says : map place_meant ps ≡ properties ++ children
  pub alone : b ≡ true → (us ≡ []) × (properties ≡ [])
  pub stood : Bool
  pub ordered : IsOrdered (stood ∷ bodies) rest

children_alone : (bodies : List Bool) (ws : Words) (ps rest : List RawPlace) → Split true bodies ws ps rest → SpellsChildren (length (true ∷ bodies)) ws (map place_meant ps)
children_alone bodies ws ps rest s =
    let a = s.alone refl in
    subst (λ (x : Words). SpellsChildren (length (true ∷ bodies)) x (map place_meant ps)) (sym (s.together ∙ ap (λ (x : Words). x ++ s.vs) a.0))
    (subst (SpellsChildren (length (true ∷ bodies)) s.vs) (sym (s.says ∙ ap (λ (x : List Place). x ++ s.children) a.1)) s.spelled_children)

-- a child or its deletion, and children behind it
child_first : (b : Bool) (bodies : List Bool) (ws : Words) (p : RawPlace) (qs rest : List RawPlace) (stood : Bool) → SpellsChildren (length (b ∷ bodies)) ws (map place_meant (p ∷ qs)) → IsOrdered (stood ∷ bodies) rest → Split b bodies ws (p ∷ qs) rest
child_first b bodies ws p qs rest stood s h = record {
  us = [];
  vs = ws;
  properties = [];
  children = map place_meant (p ∷ qs);
  together = refl;
  spelled_properties = no_properties;
  spelled_children = s;
  says = refl;
  alone = λ e. (refl, refl);
  stood = stood;
  ordered = h;
}

pub members_back : {ws : Words} {ps : List RawPlace} → Members ws ps → AllByRecursion IsSoundPlace ps → (b : Bool) (bodies : List Bool) (rest : List RawPlace) → IsOrdered (b ∷ bodies) (ps ++ rest) → Split b bodies ws ps rest
members_back no_more_members g b bodies rest h = record {
  us = [];
  vs = [];
  properties = [];
  children = [];
  together = refl;
  spelled_properties = no_properties;
  spelled_children = no_children (length (b ∷ bodies));
  says = refl;
  alone = λ e. (refl, refl);
  stood = b;
  ordered = h;
}
members_back (a_flag us ws n s ls ps l m) g b bodies rest h =
    let r = members_back m g.1 false bodies rest h.1 in
    let here = word kind.Name n ∷ a_mark mark.Semicolon s ∷ r.us in
    record {
      us = us ++ here;
      vs = r.vs;
      properties = property n [] ∷ r.properties;
      children = r.children;
      together = ap (λ (x : Words). us ++ word kind.Name n ∷ a_mark mark.Semicolon s ∷ x) r.together ∙ sym (append_assoc us here r.vs);
      spelled_properties = defined us [] r.us (word kind.Name n) (a_mark mark.Semicolon s) n (map all_but_last ls) [] r.properties (labels_back l g.0.0) (record { kind = refl; bytes = refl; valid = g.0.1 }) empty refl r.spelled_properties;
      spelled_children = r.spelled_children;
      says = ap (λ (x : List Place). property n [] ∷ x) r.says;
      alone = λ e. absurd (true≢false (sym e ∙ h.0));
      stood = r.stood;
      ordered = r.ordered;
    }
members_back (a_property us vs ws n e s ls v ps l t m) g b bodies rest h =
    let r = members_back m g.1 false bodies rest h.1 in
    let equals = a_mark mark.Equals e in
    let here = word kind.Name n ∷ equals ∷ (vs ++ a_mark mark.Semicolon s ∷ r.us) in
    record {
      us = us ++ here;
      vs = r.vs;
      properties = property n (value_parts v) ∷ r.properties;
      children = r.children;
      together = ap (λ (x : Words). us ++ word kind.Name n ∷ equals ∷ (vs ++ a_mark mark.Semicolon s ∷ x)) r.together
          ∙ sym (append_assoc us here r.vs ∙ ap (λ (x : Words). us ++ word kind.Name n ∷ equals ∷ x) (append_assoc vs (a_mark mark.Semicolon s ∷ r.us) r.vs));
      spelled_properties = defined us (equals ∷ vs) r.us (word kind.Name n) (a_mark mark.Semicolon s) n (map all_but_last ls) (value_parts v) r.properties (labels_back l g.0.0) (record { kind = refl; bytes = refl; valid = g.0.1 })
          (assigned equals vs (value_parts v) refl (value_back t g.0.2)) refl r.spelled_properties;
      spelled_children = r.spelled_children;
      says = ap (λ (x : List Place). property n (value_parts v) ∷ x) r.says;
      alone = λ q. absurd (true≢false (sym q ∙ h.0));
      stood = r.stood;
      ordered = r.ordered;
    }
members_back (a_deleted_property us ws k n s ls ps l m) g b bodies rest h =
    let r = members_back m g.1 false bodies rest h.1 in
    let deletion = a_keyword keyword.DeleteProperty k in
    let here = deletion ∷ word kind.Name n ∷ a_mark mark.Semicolon s ∷ r.us in
    record {
      us = us ++ here;
      vs = r.vs;
      properties = delete_property n ∷ r.properties;
      children = r.children;
      together = ap (λ (x : Words). us ++ deletion ∷ word kind.Name n ∷ a_mark mark.Semicolon s ∷ x) r.together ∙ sym (append_assoc us here r.vs);
      spelled_properties = deleted us r.us deletion (word kind.Name n) (a_mark mark.Semicolon s) n (map all_but_last ls) r.properties (labels_back l g.0.0) refl (record { kind = refl; bytes = refl; valid = g.0.1 }) refl r.spelled_properties;
      spelled_children = r.spelled_children;
      says = ap (λ (x : List Place). delete_property n ∷ x) r.says;
      alone = λ e. absurd (true≢false (sym e ∙ h.0));
      stood = r.stood;
      ordered = r.ordered;
    }
members_back (a_child us vs ws n a z s ls cs ps l c m) g b bodies rest h =
    let texts = label_texts ls (all_front IsSoundPlace (map raw_label ls) (cs ++ raw_close ∷ ps) g.1) in
    let inside = all_behind IsSoundPlace (map raw_label ls) (cs ++ raw_close ∷ ps) g.1 in
    let inner = members_back c (all_front IsSoundPlace cs (raw_close ∷ ps) inside) false (true ∷ bodies) (raw_close ∷ (ps ++ rest))
    (behind_labels ls (false ∷ true ∷ bodies) (cs ++ raw_close ∷ (ps ++ rest)) (subst (IsOrdered (false ∷ true ∷ bodies)) (child_regroup (map raw_label ls) cs ps rest) h.1)) in
    let r = members_back m (all_behind IsSoundPlace cs (raw_close ∷ ps) inside).1 true bodies rest inner.ordered in
    let said = body_says (map raw_label ls) cs ps (map label (map all_but_last ls)) inner.properties inner.children (map place_meant ps) (label_places ls) inner.says refl in
    let end = a_mark mark.CloseBrace z ∷ a_mark mark.Semicolon s ∷ ws in
    let front = λ (x : Words). us ++ word kind.Name n ∷ a_mark mark.OpenBrace a ∷ x in
    let whole = opened (length (b ∷ bodies)) us inner.us inner.vs ws (word kind.Name n) (a_mark mark.OpenBrace a) (a_mark mark.CloseBrace z) (a_mark mark.Semicolon s) n (map all_but_last ls)
    inner.properties inner.children (map place_meant ps) (labels_back l texts) (record { kind = refl; bytes = refl; valid = g.0 }) refl h.0 inner.spelled_properties inner.spelled_children refl refl
    (children_alone bodies ws ps rest r) in
    child_first b bodies (front (vs ++ end)) (raw_child n) (map raw_label ls ++ (cs ++ raw_close ∷ ps)) rest r.stood
    (subst (λ (x : Words). SpellsChildren (length (b ∷ bodies)) x (child n ∷ map place_meant (map raw_label ls ++ (cs ++ raw_close ∷ ps))))
    (ap front (sym (append_assoc inner.us inner.vs end)) ∙ ap (λ (x : Words). front (x ++ end)) (sym inner.together))
    (subst (λ (x : List Place). SpellsChildren (length (b ∷ bodies)) (front (inner.us ++ (inner.vs ++ end))) (child n ∷ x)) (sym said) whole))
    r.ordered
members_back (a_deleted_child us ws k n s ls ps l m) g b bodies rest h =
    let r = members_back m g.1 true bodies rest h in
    let deletion = a_keyword keyword.DeleteNode k in
    child_first b bodies (us ++ deletion ∷ word kind.Name n ∷ a_mark mark.Semicolon s ∷ ws) _ ps rest r.stood
    (removed (length (b ∷ bodies)) us ws deletion (word kind.Name n) (a_mark mark.Semicolon s) n (map all_but_last ls) (map place_meant ps) (labels_back l g.0.0) refl (record { kind = refl; bytes = refl; valid = g.0.1 }) refl
    (children_alone bodies ws ps rest r))
    r.ordered
