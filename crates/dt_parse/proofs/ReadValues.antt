-- Components that are read one by one.
use Rattle.std.proofs.Common.{◌≡◌, ◌≢◌, ◌<◌, ◌≤◌, true, false, List, [], ◌∷◌, ◌++◌, length, Option, Some, refl, sym, ◌∙◌, ap, subst, arith, append_assoc, ℕ}
use Rattle.std.proofs.lemmas.List.{append-nil}
use Rattle.dt_lex.specs.declared.token.TokenKind.{TokenKind}
use Rattle.dt_lex.specs.declared.token.TokenKind.TheVariants as kind
use Rattle.dt_lex.specs.declared.token.Mark.TheVariants as mark
use Rattle.dt_model.specs.Source.{Part}
use Rattle.dt_source_items.specs.Gathered.{Gathered, with_parts, with_value}
use Rattle.dt_parse.specs.declared.stop.Stop.{Stop}
use Rattle.dt_grammar.specs.Words.{Words}
use Rattle.dt_grammar.specs.Unchecked.{RawItem, RawComponent, item_parts, value_parts}
use Rattle.dt_grammar.specs.Strict.{IsComponent}
use Rattle.dt_grammar.specs.Wanted.{made_labels, made_item, made_value, labels_in, item_in, components_in, Done, SomeLabels, OneItem, OneValue, AfterComponentLabels, BehindItem, AfterComponent, give, kind_at}
use Rattle.dt_grammar.specs.Moves.{at_comma, component_of}
use Rattle.dt_grammar.specs.Descent.{found, gives, Descends, first, after}
use Rattle.dt_grammar.specs.Faults.{Around, outside, Breaks, in_part}
use Rattle.dt_parse.specs.Reading.{IsRead, IsBroken}
use Rattle.dt_parse.specs.Leading.{ReadsOn}
use Rattle.dt_grammar.proofs.Stepping.{part_then}
use Rattle.dt_parse.proofs.Leading.{Goes, leads_behind, leads_then, leads_stop, leads_to_end, part_stop, shorter}
use Rattle.dt_parse.proofs.ReadCells.{no_more}

-- ---- a component, part by part

pub labels_stop : (ws : Words) (stop : Stop) → ((a : Around) → IsBroken a SomeLabels ws stop) → (a : Around) → IsBroken a OneValue ws stop
labels_stop ws stop d a = part_stop a OneValue ws false SomeLabels (λ x. AfterComponentLabels (labels_in x)) ws stop tt refl (record { named = tt; placed = tt }) refl (d a)

labels_lead : (ws vs : Words) (ls : List (List ℕ)) → ((a : Around) → IsRead a SomeLabels ws (made_labels ls) vs) → (a : Around) → ReadsOn a OneValue ws a (AfterComponentLabels ls) vs
labels_lead ws vs ls r a =
    leads_behind a OneValue ws false SomeLabels (λ x. AfterComponentLabels (labels_in x)) ws (made_labels ls) vs tt refl (record { named = tt; placed = tt }) refl (r a)

pub item_breaks : (ws vs : Words) (ls : List (List ℕ)) (stop : Stop) → ((a : Around) → IsRead a SomeLabels ws (made_labels ls) vs) →
    ((a : Around) → IsBroken a OneItem vs stop) → (a : Around) → IsBroken a OneValue ws stop
item_breaks ws vs ls stop r d a =
    leads_stop a OneValue ws a (AfterComponentLabels ls) vs stop (labels_lead ws vs ls r a)
    (part_stop a (AfterComponentLabels ls) vs false OneItem (λ x. BehindItem ls (item_in x)) vs stop tt refl (record { named = tt; placed = tt }) refl (d a))

item_leads : (ws vs us : Words) (ls : List (List ℕ)) (i : RawItem) → ((a : Around) → IsRead a SomeLabels ws (made_labels ls) vs) →
    ((a : Around) → IsRead a OneItem vs (made_item i) us) → (a : Around) → ReadsOn a OneValue ws a (BehindItem ls i) us
item_leads ws vs us ls i r q a =
    leads_then a OneValue ws a (AfterComponentLabels ls) vs a (BehindItem ls i) us (labels_lead ws vs ls r a)
    (leads_behind a (AfterComponentLabels ls) vs false OneItem (λ x. BehindItem ls (item_in x)) vs (made_item i) us tt refl (record { named = tt; placed = tt }) refl (q a))

pub behind_stop : (ws vs us : Words) (ls : List (List ℕ)) (i : RawItem) (stop : Stop) → ((a : Around) → IsRead a SomeLabels ws (made_labels ls) vs) →
    ((a : Around) → IsRead a OneItem vs (made_item i) us) → ((a : Around) → IsBroken a SomeLabels us stop) → (a : Around) → IsBroken a OneValue ws stop
behind_stop ws vs us ls i stop r q d a =
    leads_stop a OneValue ws a (BehindItem ls i) us stop (item_leads ws vs us ls i r q a)
    (part_stop a (BehindItem ls i) us false SomeLabels (λ x. AfterComponent (component_of ls i x)) us stop tt refl (record { named = tt; placed = tt }) refl (d a))

-- a component was read, from the first of these places to the second
pub record ComponentRead (ws vs : Words) (c : RawComponent) : Type 0 where
  pub leads : (a : Around) → ReadsOn a OneValue ws a (AfterComponent c) vs
  pub fine : IsComponent c
  pub shorter : length vs ≤ length ws

pub component_read : (ws vs us ts : Words) (ls : List (List ℕ)) (i : RawItem) (ms : List (List ℕ)) → ((a : Around) → IsRead a SomeLabels ws (made_labels ls) vs) →
    ((a : Around) → IsRead a OneItem vs (made_item i) us) → ((a : Around) → IsRead a SomeLabels us (made_labels ms) ts) →
    ComponentRead ws ts (record { before = ls; item = i; behind = ms })
component_read ws vs us ts ls i ms r q s =
    let one = no_more (r outside).read in
    let two = no_more (q outside).read in
    let three = no_more (s outside).read in
    record {
      leads = λ a.
          leads_then a OneValue ws a (BehindItem ls i) us a (AfterComponent (record { before = ls; item = i; behind = ms })) ts (item_leads ws vs us ls i r q a)
          (leads_behind a (BehindItem ls i) us false SomeLabels (λ x. AfterComponent (component_of ls i x)) us (made_labels ms) ts tt refl (record { named = tt; placed = tt }) refl (s a));
      fine = record { before = (r outside).fine; item = (q outside).fine; behind = (s outside).fine };
      shorter = omega (arith, one, two, three);
    }

-- ---- what stands behind it

no_comma : (c : RawComponent) (k : Option TokenKind) → k ≢ Some (kind.Mark mark.Comma) → at_comma c k ≡ give false (made_value (c ∷ []))
no_comma c (Some (kind.Mark mark.Comma)) n = absurd (n refl)
no_comma c _ n = refl

pub last_read : (ws vs : Words) (c : RawComponent) → ComponentRead ws vs c → kind_at (first vs) ≢ Some (kind.Mark mark.Comma) →
    (a : Around) → IsRead a OneValue ws (made_value (c ∷ [])) vs
last_read ws vs c r n a =
    leads_to_end a OneValue ws a (AfterComponent c) vs false (made_value (c ∷ [])) vs (r.leads a) (no_comma c (kind_at (first vs)) n) refl (r.fine, tt)

pub component_goes : (ws vs us : Words) (c : RawComponent) → ComponentRead ws vs c → kind_at (first vs) ≡ Some (kind.Mark mark.Comma) → us ≡ after true vs →
    Goes made_value OneValue (λ a. a) ws us (c ∷ [])
component_goes ws vs us c r e u = record {
  reads = λ a xs left q. record {
    read = (r.leads a).follows (found (made_value (c ∷ xs)) left)
        (part_then (AfterComponent c) vs true OneValue (λ x. Done (made_value (c ∷ components_in x))) (made_value xs) left (found (made_value (c ∷ xs)) left) (ap (at_comma c) e)
        (subst (λ (ts : Words). Descends OneValue ts (found (made_value xs) left)) u q.read) gives);
    fine = (r.fine, q.fine);
  };
  breaks = λ a k left h.
      (r.leads a).breaks k left
      (in_part a (AfterComponent c) vs left k true OneValue (λ x. Done (made_value (c ∷ components_in x))) tt (ap (at_comma c) e) (record { named = tt; placed = tt })
      (subst (λ (ts : Words). Breaks a OneValue ts k left) u h));
}

pub component_shorter : (ws vs us : Words) (c : RawComponent) → ComponentRead ws vs c → kind_at (first vs) ≡ Some (kind.Mark mark.Comma) → us ≡ after true vs → length us < length ws
component_shorter ws vs us c r e u = let less = shorter vs us _ e u in let least = r.shorter in omega (arith, less, least)

-- ---- what components say

values_more : (cs : List RawComponent) (c : RawComponent) → value_parts (cs ++ c ∷ []) ≡ value_parts cs ++ item_parts c.item
values_more [] c = append-nil (item_parts c.item)
values_more (d ∷ cs) c = ap (λ (z : List Part). item_parts d.item ++ z) (values_more cs c) ∙ sym (append_assoc (item_parts d.item) (value_parts cs) (item_parts c.item))

pub value_more : (old : Gathered) (cs : List RawComponent) (c : RawComponent) (now new : Gathered) → now ≡ with_parts old (value_parts cs) → new ≡ with_parts now (item_parts c.item) →
    new ≡ with_parts old (value_parts (cs ++ c ∷ []))
value_more old cs c now new e f =
    f ∙ ap (λ (g : Gathered). with_parts g (item_parts c.item)) e ∙ ap (with_value old) (append_assoc old.value (value_parts cs) (item_parts c.item)) ∙ ap (with_parts old) (sym (values_more cs c))
