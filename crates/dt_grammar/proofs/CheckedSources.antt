-- A relaxed source that passes the checks is one that the grammar spells.
use Rattle.std.proofs.Common.{◌≡◌, ℕ, false, List, [], ◌∷◌, ◌++◌, map, refl, sym, ◌∙◌, ap, subst, append_assoc}
use Rattle.std.specs.List.{AllByRecursion}
use Rattle.std.proofs.lemmas.List.{append-nil, map-append}
use Rattle.dt_model.specs.Source.{Place, block, label}
use Rattle.dt_lex.specs.declared.token.Mark.TheVariants as mark
use Rattle.dt_lex.specs.declared.token.Keyword.TheVariants as keyword
use Rattle.dt_grammar.specs.Words.{Words}
use Rattle.dt_grammar.specs.Grammar.{SpellsBody, SpellsStatement, root_block, node_block, node_deleted, SpellsStatements, last_statement, more_statements, SpellsReservations, no_reservations, reserved, SpellsSource}
use Rattle.dt_grammar.specs.Unchecked.{RawPlace, raw_label, raw_close, RawReserve, RawSource, all_but_last, value_or_zero, reference_in, place_meant, reserve_of, says_of}
use Rattle.dt_grammar.specs.Relaxed.{a_mark, a_keyword, a_reference, Labels, Members, Statement, a_root_block, a_node_block, a_deleted_node, Statements, only_statement, first_statement, Behind, no_more_reserves, another_reserve, RelaxedSource}
use Rattle.dt_grammar.specs.Strict.{IsSoundPlace, IsOrdered, IsReserve, IsStrict}
use Rattle.dt_grammar.proofs.Names.{label_places}
use Rattle.dt_grammar.proofs.StrictBodies.{body_says}
use Rattle.dt_grammar.proofs.SoundBodies.{unlabelled}
use Rattle.dt_grammar.proofs.CheckedValues.{labels_back, number_back}
use Rattle.dt_grammar.proofs.CheckedBodies.{all_front, all_behind, label_texts, behind_labels, members_back}

-- a body at top level, and what stands behind it
record BodyBack (ws : Words) (a z s : List ℕ) (cs rest : List RawPlace) : Type 0 where
  spelled : SpellsBody (a_mark mark.OpenBrace a ∷ (ws ++ a_mark mark.CloseBrace z ∷ a_mark mark.Semicolon s ∷ [])) (map place_meant (cs ++ raw_close ∷ []))
  ordered : IsOrdered [] rest

body_back : (ws : Words) (a z s : List ℕ) (cs rest : List RawPlace) → Members ws cs → AllByRecursion IsSoundPlace cs → IsOrdered (false ∷ []) ((cs ++ raw_close ∷ []) ++ rest) → BodyBack ws a z s cs rest
body_back ws a z s cs rest m g h =
    let r = members_back m g false [] (raw_close ∷ rest) (subst (IsOrdered (false ∷ [])) (append_assoc cs (raw_close ∷ []) rest) h) in
    let end = a_mark mark.CloseBrace z ∷ a_mark mark.Semicolon s ∷ [] in
    record {
      spelled = record {
        properties = r.us;
        children = r.vs;
        opening = a_mark mark.OpenBrace a;
        closing = a_mark mark.CloseBrace z;
        semicolon = a_mark mark.Semicolon s;
        ps = r.properties;
        cs = r.children;
        together = ap (λ (x : Words). a_mark mark.OpenBrace a ∷ x) (ap (λ (x : Words). x ++ end) r.together ∙ append_assoc r.us r.vs end);
        opened_by = refl;
        spelled_properties = r.spelled_properties;
        spelled_children = r.spelled_children;
        closed_by = refl;
        ended_by = refl;
        says = body_says [] cs [] [] r.properties r.children [] refl r.says refl;
      };
      ordered = r.ordered;
    }

record StatementBack (ws : Words) (ps rest : List RawPlace) : Type 0 where
  spelled : SpellsStatement ws (map place_meant ps)
  ordered : IsOrdered [] rest

unlabelled_statement : (us vs : Words) (ps : List Place) → us ≡ [] → SpellsStatement vs ps → SpellsStatement (us ++ vs) ps
unlabelled_statement us vs ps e s = subst (λ (x : Words). SpellsStatement (x ++ vs) ps) (sym e) s

statement_back : {us : Words} {ls : List (List ℕ)} {vs : Words} {ps : List RawPlace} → Labels us ls → Statement ls vs ps → AllByRecursion IsSoundPlace ps → (rest : List RawPlace) → IsOrdered [] (ps ++ rest) → StatementBack (us ++ vs) ps rest
statement_back {us = us} l (a_root_block c a z s ws cs m) g rest h =
    let b = body_back ws a z s cs rest m (all_front IsSoundPlace cs (raw_close ∷ []) g.1) h in
    record { spelled = unlabelled_statement us _ _ (unlabelled l refl) (root_block (a_mark mark.Slash c) _ (map place_meant (cs ++ raw_close ∷ [])) refl b.spelled); ordered = b.ordered }
statement_back {us = us} l (a_node_block ls t b a z s ws cs m) g rest h =
    let texts = label_texts ls (all_front IsSoundPlace (map raw_label ls) (cs ++ raw_close ∷ []) g.1) in
    let inside = all_front IsSoundPlace cs (raw_close ∷ []) (all_behind IsSoundPlace (map raw_label ls) (cs ++ raw_close ∷ []) g.1) in
    let r = body_back ws a z s cs rest m inside (behind_labels ls (false ∷ []) ((cs ++ raw_close ∷ []) ++ rest) (subst (IsOrdered (false ∷ [])) (append_assoc (map raw_label ls) (cs ++ raw_close ∷ []) rest) h)) in
    let said : map label (map all_but_last ls) ++ map place_meant (cs ++ raw_close ∷ []) ≡ map place_meant (map raw_label ls ++ (cs ++ raw_close ∷ [])) =
    ap (λ (x : List Place). x ++ map place_meant (cs ++ raw_close ∷ [])) (sym (label_places ls)) ∙ sym (map-append place_meant (map raw_label ls) (cs ++ raw_close ∷ [])) in
    record {
      spelled = subst (λ (x : List Place). SpellsStatement (us ++ a_reference t b ∷ a_mark mark.OpenBrace a ∷ (ws ++ a_mark mark.CloseBrace z ∷ a_mark mark.Semicolon s ∷ [])) (block (reference_in t b) ∷ x)) said
          (node_block us _ (a_reference t b) (reference_in t b) (map all_but_last ls) (map place_meant (cs ++ raw_close ∷ [])) (labels_back l texts) g.0 r.spelled);
      ordered = r.ordered;
    }
statement_back {us = us} l (a_deleted_node t k b s) g rest h = record {
  spelled = unlabelled_statement us _ _ (unlabelled l refl) (node_deleted (a_keyword keyword.DeleteNode k) (a_reference t b) (a_mark mark.Semicolon s) (reference_in t b) refl g.0 refl);
  ordered = h;
}

statements_back : {ws : Words} {ps : List RawPlace} → Statements ws ps → AllByRecursion IsSoundPlace ps → (rest : List RawPlace) → IsOrdered [] (ps ++ rest) → SpellsStatements ws (map place_meant ps)
statements_back (only_statement us vs ls ps l s) g rest h = last_statement (us ++ vs) (map place_meant ps) (statement_back l s g rest h).spelled
statements_back (first_statement us vs ws ls ps others l s t) g rest h =
    let r = statement_back l s (all_front IsSoundPlace ps others g) (others ++ rest) (subst (IsOrdered []) (append_assoc ps others rest) h) in
    subst (λ (x : Words). SpellsStatements x (map place_meant (ps ++ others))) (append_assoc us vs ws)
    (subst (SpellsStatements ((us ++ vs) ++ ws)) (sym (map-append place_meant ps others))
    (more_statements (us ++ vs) ws (map place_meant ps) (map place_meant others) r.spelled (statements_back t (all_behind IsSoundPlace ps others g) rest r.ordered)))

record BehindBack (ws : Words) (rs : List RawReserve) (ps : List RawPlace) : Type 0 where
  us : Words
  vs : Words
  together : ws ≡ us ++ vs
  reservations : SpellsReservations us (map reserve_of rs)
  statements : Statements vs ps

behind_back : {ws : Words} {rs : List RawReserve} {ps : List RawPlace} → Behind ws rs ps → AllByRecursion IsReserve rs → BehindBack ws rs ps
behind_back (no_more_reserves ws ps s) h = record { us = []; vs = ws; together = refl; reservations = no_reservations; statements = s }
behind_back (another_reserve us vs ws xs k s ls d e rs ps l c f b) h =
    let r = behind_back b h.1 in
    let semicolon = a_mark mark.Semicolon s in
    let memreserve = a_keyword keyword.Memreserve k in
    record {
      us = us ++ memreserve ∷ (vs ++ (ws ++ semicolon ∷ r.us));
      vs = r.vs;
      together = ap (λ (x : Words). us ++ memreserve ∷ (vs ++ (ws ++ semicolon ∷ x))) r.together
          ∙ sym (append_assoc us (memreserve ∷ (vs ++ (ws ++ semicolon ∷ r.us))) r.vs
          ∙ ap (λ (x : Words). us ++ memreserve ∷ x) (append_assoc vs (ws ++ semicolon ∷ r.us) r.vs ∙ ap (λ (x : Words). vs ++ x) (append_assoc ws (semicolon ∷ r.us) r.vs)));
      reservations = reserved us vs ws r.us memreserve semicolon (map all_but_last ls) (value_or_zero d) (value_or_zero e) (map reserve_of rs)
          (labels_back l h.0.labels) refl (number_back vs d c h.0.address) (number_back ws e f h.0.length) refl h.0.valid r.reservations;
      statements = r.statements;
    }

pub source_back : (ws : Words) (s : RawSource) → RelaxedSource ws s → IsStrict s → SpellsSource ws (says_of s)
source_back ws s r h =
    let b = behind_back r.behind h.reserves in
    record {
      headers = r.headers;
      reserves = b.us;
      statements = b.vs;
      together = r.together ∙ ap (λ (x : Words). r.headers ++ x) b.together;
      spelled_headers = r.spelled_headers;
      spelled_reservations = b.reservations;
      spelled_statements = statements_back b.statements h.places [] (subst (IsOrdered []) (sym (append-nil s.places)) h.ordered);
    }
