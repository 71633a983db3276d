-- The descent reads each relaxed source.
use Rattle.std.proofs.Common.{◌≡◌, ℕ, false, List, [], ◌∷◌, ◌++◌, Option, refl, sym, subst}
use Rattle.std.proofs.lemmas.List.{append-nil}
use Rattle.dt_lex.specs.declared.token.Mark.TheVariants as mark
use Rattle.dt_lex.specs.declared.token.Keyword.TheVariants as keyword
use Rattle.dt_grammar.specs.Words.{Word, Words}
use Rattle.dt_grammar.specs.Unchecked.{a_label, a_path, RawPlace, RawReserve}
use Rattle.dt_grammar.specs.Relaxed.{a_mark, a_keyword, Labels, no_more_labels, another_label, Statement, a_root_block, a_node_block, a_deleted_node, Statements, only_statement, first_statement, Behind, no_more_reserves, another_reserve}
use Rattle.dt_grammar.specs.Wanted.{made_places, made_behind, places_in, SomeStatements, StatementThen, Top, Done, kind_at, want}
use Rattle.dt_grammar.specs.Moves.{at_more_statements, at_top}
use Rattle.dt_grammar.specs.Descent.{first, found, gives, part_found, Descends}
use Rattle.dt_grammar.proofs.Descent.{by_move, on}
use Rattle.dt_grammar.proofs.Expressions.{complete}
use Rattle.dt_grammar.proofs.Values.{NoLabel, complete_labels}
use Rattle.dt_grammar.proofs.Bodies.{complete_statement}

-- one more statement stands there
abbrev pub IsMore : Option Word → Type 0
IsMore k = (ps : List RawPlace) → at_more_statements ps (kind_at k) ≡ want false SomeStatements (λ x. Done (made_places (ps ++ places_in x)))

-- a statement without labels stands there
abbrev pub BeginsStatement : Option Word → Type 0
BeginsStatement k = NoLabel k × ((ls : List (List ℕ)) → at_top ls (kind_at k) ≡ want false (StatementThen ls) (λ x. Done (made_behind [] (places_in x)))) × IsMore k

pub statement_first : {ls : List (List ℕ)} {ws : Words} {ps : List RawPlace} → Statement ls ws ps → (rest : Words) → BeginsStatement (first (ws ++ rest))
statement_first (a_root_block c a z s ws cs m) rest = (λ b. refl, λ l. refl, λ p. refl)
statement_first (a_node_block ls a_label b a z s ws cs m) rest = (λ b. refl, λ l. refl, λ p. refl)
statement_first (a_node_block ls a_path b a z s ws cs m) rest = (λ b. refl, λ l. refl, λ p. refl)
statement_first (a_deleted_node t k b s) rest = (λ b. refl, λ l. refl, λ p. refl)

pub labels_more : {us : Words} {ls : List (List ℕ)} → Labels us ls → (vs : Words) → IsMore (first vs) → IsMore (first (us ++ vs))
labels_more no_more_labels vs h = h
labels_more (another_label b ws ls s) vs h = λ p. refl

-- statements, of which the labels of the first were read
pub record Started (ws : Words) (ps : List RawPlace) : Type 0 where
  pub us : Words
  pub vs : Words
  pub ls : List (List ℕ)
  pub split : ws ≡ us ++ vs
  pub labelled : Labels us ls
  pub begins : BeginsStatement (first vs)
  pub goes : Descends (StatementThen ls) vs (found (made_places ps) [])

statements_read : (ws : Words) (ps : List RawPlace) → Started ws ps → Descends SomeStatements ws (found (made_places ps) [])
statements_read ws ps s = on SomeStatements ws (s.us ++ s.vs) _ s.split (part_found (complete_labels s.labelled s.vs s.begins.0) s.goes)

pub started : {ws : Words} {ps : List RawPlace} → Statements ws ps → Started ws ps
started (only_statement us vs ls ps l s) = record {
  us = us;
  vs = vs;
  ls = ls;
  split = refl;
  labelled = l;
  begins = subst (λ (x : Words). BeginsStatement (first x)) (append-nil vs) (statement_first s []);
  goes = on (StatementThen ls) vs (vs ++ []) _ (sym (append-nil vs)) (part_found (complete_statement s []) gives);
}
started (first_statement us vs ws ls ps others l s t) =
    let more = started t in
    let is_more : IsMore (first ws) = subst (λ (x : Words). IsMore (first x)) (sym more.split) (labels_more more.labelled more.vs more.begins.2) in
    record {
      us = us;
      vs = vs ++ ws;
      ls = ls;
      split = refl;
      labelled = l;
      begins = statement_first s ws;
      goes = part_found (complete_statement s ws) (by_move _ _ ws _ (is_more ps) (part_found (statements_read ws others more) gives));
    }

pub complete_behind : {ws : Words} {rs : List RawReserve} {ps : List RawPlace} → Behind ws rs ps → Descends Top ws (found (made_behind rs ps) [])
complete_behind (no_more_reserves ws ps t) =
    let s = started t in
    on Top ws (s.us ++ s.vs) _ s.split
    (part_found (complete_labels s.labelled s.vs s.begins.0) (by_move _ _ s.vs _ (s.begins.1 s.ls) (part_found s.goes gives)))
complete_behind (another_reserve us vs ws xs k s ls d e rs ps l c f b) =
    let semicolon = a_mark mark.Semicolon s ∷ xs in
    part_found (complete_labels l (a_keyword keyword.Memreserve k ∷ (vs ++ (ws ++ semicolon))) (λ x. refl))
    (part_found (complete c (ws ++ semicolon)).2 (part_found (complete f semicolon).2 (part_found (complete_behind b) gives)))
