-- The tokens of a tree are spelled by the grammar as what the tree's text says.
use Rattle.std.proofs.Common.{◌≡◌, ℕ, suc, ◌+◌, ◌≤◌, List, [], ◌∷◌, ◌++◌, refl, subst, arith}
use Rattle.std.specs.List.{AllByRecursion}
use Rattle.dt_model.specs.Limits.{most_names}
use Rattle.dt_model.specs.Names.{IsPropertyName}
use Rattle.dt_model.specs.Source.{close}
use Rattle.dt_model.specs.Tree.{Property, Forest, no_nodes, branch}
use Rattle.dt_model.specs.Valid.{IsReservation, AreNodes, IsNoDeeper}
use Rattle.dt_lex.specs.declared.token.Keyword.TheVariants as keyword
use Rattle.dt_lex.specs.declared.token.Mark.TheVariants as mark
use Rattle.dt_grammar.specs.Grammar.{no_labels, SpellsProperties, no_properties, defined, SpellsChildren, no_children, opened, SpellsBody, root_block, last_statement, SpellsReservations, no_reservations, reserved, base_header}
use Rattle.dt_decompile_laws.specs.Laws.{TokensAreSource}
use Rattle.dt_decompile_laws.specs.Said.{property_places, node_places, places_of, HoldBytes, NodesHoldBytes}
use Rattle.dt_decompile_laws.specs.Words.{mark_word, keyword_word, name_word, long_word, value_words, property_words, node_words, reservation_words}
use Rattle.dt_decompile_laws.proofs.SpelledValues.{spelled_number, value_spelled}

properties_spelled : (ps : List Property) → AllByRecursion (λ p. IsPropertyName p.name) ps → HoldBytes ps → SpellsProperties (property_words ps) (property_places ps)
properties_spelled [] named h = no_properties
properties_spelled (p ∷ ps) named h =
    defined [] (value_words p.value) (property_words ps) (name_word p.name) (mark_word mark.Semicolon) p.name [] _ (property_places ps)
    no_labels (record { kind = refl; bytes = refl; valid = named.0 }) (value_spelled p.value h.0) refl (properties_spelled ps named.1 h.1)

children_spelled : (depth : ℕ) (f : Forest) → AreNodes f → NodesHoldBytes f → IsNoDeeper most_names depth f → SpellsChildren depth (node_words f) (node_places f)
children_spelled depth no_nodes ok h low = no_children depth
children_spelled depth (branch name properties children siblings) ok h low =
    let here : depth ≤ 64 = low.0 in
    let same : depth + 1 ≡ suc depth = omega arith in
    let deeper = subst (λ (d : ℕ). IsNoDeeper most_names d children) same low.1 in
    opened depth [] (property_words properties) (node_words children) (node_words siblings) (name_word name) (mark_word mark.OpenBrace) (mark_word mark.CloseBrace)
    (mark_word mark.Semicolon) name [] (property_places properties) (node_places children) (node_places siblings) no_labels (record { kind = refl; bytes = refl; valid = ok.0 }) refl (omega (arith, here))
    (properties_spelled properties ok.1.named h.0) (children_spelled (suc depth) children ok.2 h.1 deeper) refl refl (children_spelled depth siblings ok.4 h.2 low.2)

reservations_spelled : (rs : List (ℕ × ℕ)) → AllByRecursion IsReservation rs → SpellsReservations (reservation_words rs) rs
reservations_spelled [] h = no_reservations
reservations_spelled (r ∷ rs) h =
    reserved [] (long_word r.0 ∷ []) (long_word r.1 ∷ []) (reservation_words rs) (keyword_word keyword.Memreserve) (mark_word mark.Semicolon) [] r.0 r.1 rs no_labels refl
    (spelled_number (long_word r.0) r.0 refl) (spelled_number (long_word r.1) r.1 refl) refl h.0 (reservations_spelled rs h.1)

pub tokens_are_source : TokensAreSource
tokens_are_source t valid h within = record {
  headers = keyword_word keyword.Version ∷ mark_word mark.Semicolon ∷ [];
  reserves = reservation_words t.reservations;
  statements = mark_word mark.Slash ∷ mark_word mark.OpenBrace ∷ (property_words t.properties ++ (node_words t.children ++ mark_word mark.CloseBrace ∷ mark_word mark.Semicolon ∷ []));
  together = refl;
  spelled_headers = base_header (keyword_word keyword.Version) (mark_word mark.Semicolon) refl refl;
  spelled_reservations = reservations_spelled t.reservations valid.reservations;
  spelled_statements = last_statement _ (places_of t) (root_block (mark_word mark.Slash) _ _ refl body);
}
  where
    body : SpellsBody (mark_word mark.OpenBrace ∷ (property_words t.properties ++ (node_words t.children ++ mark_word mark.CloseBrace ∷ mark_word mark.Semicolon ∷ []))) (property_places t.properties ++ (node_places t.children ++ close ∷ []))
    body = record {
      properties = property_words t.properties;
      children = node_words t.children;
      opening = mark_word mark.OpenBrace;
      closing = mark_word mark.CloseBrace;
      semicolon = mark_word mark.Semicolon;
      ps = property_places t.properties;
      cs = node_places t.children;
      together = refl;
      opened_by = refl;
      spelled_properties = properties_spelled t.properties valid.properties.named h.properties;
      spelled_children = children_spelled 1 t.children valid.nodes h.nodes within.depth;
      closed_by = refl;
      ended_by = refl;
      says = refl;
    }
