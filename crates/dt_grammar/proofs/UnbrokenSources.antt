-- A source that the grammar spells is read with no fault, so that it breaks nowhere.
use Rattle.std.proofs.Common.{◌≡◌, ℕ, inl, Bool, true, false, List, [], ◌∷◌, ◌++◌, length, map, Some, refl, sym, ap, subst, append_assoc}
use Rattle.std.specs.List.{AllByRecursion}
use Rattle.std.proofs.lemmas.List.{append-nil}
use Rattle.dt_names.specs.declared.fault.FaultKind.{FaultKind}
use Rattle.dt_model.specs.Valid.{IsReservation}
use Rattle.dt_lex.specs.declared.token.TokenKind.{TokenKind}
use Rattle.dt_lex.specs.declared.token.Mark.TheVariants as mark
use Rattle.dt_lex.specs.declared.token.Keyword.TheVariants as keyword
use Rattle.dt_grammar.specs.Words.{Words}
use Rattle.dt_grammar.specs.Grammar.{Says, SpellsSource, SpellsHeaders, base_header, plugin_header, more_headers}
use Rattle.dt_grammar.specs.Unchecked.{RawPlace, raw_label, raw_close, RawReserve, RawSource, value_or_zero}
use Rattle.dt_grammar.specs.Relaxed.{a_mark, a_keyword, Labels, Statement, a_root_block, a_node_block, a_deleted_node, Statements, only_statement, first_statement, Behind, no_more_reserves, another_reserve, RelaxedSource}
use Rattle.dt_grammar.specs.Strict.{AreLabelTexts, IsSoundPlace, IsOrdered, IsReserve, IsStrict}
use Rattle.dt_grammar.specs.Wanted.{Made, made_expression, made_places, made_behind, made_source, expression_in, SomeStatements, StatementThen, Top, Prim, Whole, AfterVersion, AfterHeader, MoreHeaders, NextHeader}
use Rattle.dt_grammar.specs.Moves.{at_version, at_semicolon, at_first_plugin, at_next_plugin, at_header}
use Rattle.dt_grammar.specs.Descent.{Outcome, first, found, Descends}
use Rattle.dt_grammar.specs.Faults.{outside, Breaks, IsReservedWith}
use Rattle.dt_grammar.proofs.Descent.{deterministic}
use Rattle.dt_grammar.proofs.Expressions.{complete}
use Rattle.dt_grammar.proofs.Sources.{BeginsStatement, statement_first, IsMore, labels_more}
use Rattle.dt_grammar.proofs.Headers.{NoPlugin, headers_first, behind_then}
use Rattle.dt_grammar.proofs.CheckedBodies.{all_front, all_behind, label_texts}
use Rattle.dt_grammar.proofs.OneSource.{source_of}
use Rattle.dt_grammar.proofs.Unbroken.{Unbroken, number_read, given_here, read_on, done, unbroken_on, made_of, clash}
use Rattle.dt_grammar.proofs.UnbrokenValues.{unbroken_labels}
use Rattle.dt_grammar.proofs.UnbrokenBodies.{unbroken_statement}

-- statements, of which the labels of the first were read
record Begun (ws : Words) (ps : List RawPlace) : Type 0 where
  us : Words
  vs : Words
  ls : List (List ℕ)
  split : ws ≡ us ++ vs
  labelled : Labels us ls
  texts : AreLabelTexts ls
  begins : BeginsStatement (first vs)
  goes : Unbroken outside (StatementThen ls) vs (made_places ps) []

-- the labels of a statement are texts of labels
statement_texts : {ls : List (List ℕ)} {vs : Words} {ps : List RawPlace} → Statement ls vs ps → AllByRecursion IsSoundPlace ps → AreLabelTexts ls
statement_texts (a_root_block c a z s ws cs m) g = tt
statement_texts (a_node_block ls t b a z s ws cs m) g = label_texts ls (all_front IsSoundPlace (map raw_label ls) (cs ++ raw_close ∷ []) g.1)
statement_texts (a_deleted_node t k b s) g = tt

statements_read : (ws : Words) (ps : List RawPlace) → Begun ws ps → Unbroken outside SomeStatements ws (made_places ps) []
statements_read ws ps s =
    unbroken_on outside SomeStatements ws (s.us ++ s.vs) _ _ s.split (read_on refl (tt, tt, tt) (unbroken_labels outside s.labelled s.texts s.vs s.begins.0) s.goes)

begun : {ws : Words} {ps : List RawPlace} → Statements ws ps → AllByRecursion IsSoundPlace ps → (more : List RawPlace) → IsOrdered [] (ps ++ more) → Begun ws ps
begun (only_statement us vs ls ps l s) g more h =
    let r = unbroken_statement s g more h in
    record {
      us = us;
      vs = vs;
      ls = ls;
      split = refl;
      labelled = l;
      texts = statement_texts s g;
      begins = subst (λ (x : Words). BeginsStatement (first x)) (append-nil vs) (statement_first s []);
      goes = unbroken_on outside (StatementThen ls) vs (vs ++ []) _ [] (sym (append-nil vs)) (read_on refl (tt, tt, tt) (r.read []) (given_here {taken = false} refl (tt, tt, tt)));
    }
begun (first_statement us vs ws ls ps others l s t) g more h =
    let front = all_front IsSoundPlace ps others g in
    let r = unbroken_statement s front (others ++ more) (subst (IsOrdered []) (append_assoc ps others more) h) in
    let next = begun t (all_behind IsSoundPlace ps others g) more r.ordered in
    let is_more : IsMore (first ws) = subst (λ (x : Words). IsMore (first x)) (sym next.split) (labels_more next.labelled next.vs next.begins.2) in
    record {
      us = us;
      vs = vs ++ ws;
      ls = ls;
      split = refl;
      labelled = l;
      texts = statement_texts s front;
      begins = statement_first s ws;
      goes = read_on refl (tt, tt, tt) (r.read ws) (read_on (is_more ps) (tt, tt, tt) (statements_read ws others next) done);
    }

-- two numbers that are a reservation's are one whatever is read as the second
reserved_with : (d : Made) (ws left : Words) (e : Made) → Descends Prim ws (found e left) → IsReservation (value_or_zero (expression_in d), value_or_zero (expression_in e)) → IsReservedWith d ws
reserved_with d ws left e r h y left' s n =
    subst (λ (x : Outcome). IsReservation (value_or_zero (expression_in d), value_or_zero (expression_in (made_of e x)))) (deterministic r s) h

unbroken_behind : {ws : Words} {rs : List RawReserve} {ps : List RawPlace} → Behind ws rs ps → AllByRecursion IsReserve rs → AllByRecursion IsSoundPlace ps → IsOrdered [] (ps ++ []) → Unbroken outside Top ws (made_behind rs ps) []
unbroken_behind (no_more_reserves ws ps t) r g h =
    let s = begun t g [] h in
    unbroken_on outside Top ws (s.us ++ s.vs) _ [] s.split
    (read_on refl (tt, tt, tt) (unbroken_labels outside s.labelled s.texts s.vs s.begins.0) (read_on (s.begins.1 s.ls) (tt, tt, tt) s.goes done))
unbroken_behind (another_reserve us vs ws xs k s ls d e rs ps l c f b) r g h =
    let semicolon = a_mark mark.Semicolon s ∷ xs in
    let valid = r.0.valid in
    let second = (complete f semicolon).2 in
    read_on refl (tt, tt, tt) (unbroken_labels outside l r.0.labels (a_keyword keyword.Memreserve k ∷ (vs ++ (ws ++ semicolon))) (λ x. refl))
    (read_on refl (tt, tt, tt) (number_read (complete c (ws ++ semicolon)).2 r.0.address (inl valid.address))
    (read_on refl (tt, tt, reserved_with (made_expression (length vs) d) (ws ++ semicolon) semicolon (made_expression (length ws) e) second valid)
    (number_read second r.0.length (inl valid.size))
    (read_on refl (tt, tt, tt) (unbroken_behind b r.1 g h) done)))

-- ---- headers

next_headers : {plugin : Bool} {us : Words} → SpellsHeaders plugin us → (rest : Words) (m : Made) → Unbroken outside (MoreHeaders plugin) rest m [] → Unbroken outside (MoreHeaders plugin) (us ++ rest) m []
next_headers (base_header k s e f) rest m u =
    read_on (ap (λ (x : TokenKind). at_header false (Some x)) e) (tt, tt, tt)
    (read_on (ap (λ (x : TokenKind). at_semicolon (NextHeader false) (Some x)) f) (tt, tt, tt) (read_on refl (tt, tt, tt) u done) done)
    done
next_headers (plugin_header k s p t e f g h) rest m u =
    read_on (ap (λ (x : TokenKind). at_header true (Some x)) e) (tt, tt, tt)
    (read_on (ap (λ (x : TokenKind). at_semicolon (NextHeader true) (Some x)) f) (tt, tt, tt)
    (read_on (ap (λ (x : TokenKind). at_next_plugin true (Some x)) g) (tt, tt, tt)
    (read_on (ap (λ (x : TokenKind). at_semicolon (MoreHeaders true) (Some x)) h) (tt, tt, tt) u done) done) done)
    done
next_headers (more_headers plugin us ws h l) rest m u =
    unbroken_on outside (MoreHeaders plugin) _ (us ++ (ws ++ rest)) _ [] (append_assoc us ws rest) (next_headers h (ws ++ rest) m (next_headers l rest m u))

first_headers : {plugin : Bool} {us : Words} → SpellsHeaders plugin us → (rest : Words) (m : Made) → NoPlugin (first rest) → Unbroken outside (MoreHeaders plugin) rest m [] → Unbroken outside Whole (us ++ rest) m []
first_headers (base_header k s e f) rest m fine u =
    read_on (ap (λ (x : TokenKind). at_version AfterVersion (Some x)) e) (tt, tt, tt)
    (read_on (ap (λ (x : TokenKind). at_semicolon AfterHeader (Some x)) f) (tt, tt, tt) (read_on fine (tt, tt, tt) u done) done)
    done
first_headers (plugin_header k s p t e f g h) rest m fine u =
    read_on (ap (λ (x : TokenKind). at_version AfterVersion (Some x)) e) (tt, tt, tt)
    (read_on (ap (λ (x : TokenKind). at_semicolon AfterHeader (Some x)) f) (tt, tt, tt)
    (read_on (ap (λ (x : TokenKind). at_first_plugin (Some x)) g) (tt, tt, tt)
    (read_on (ap (λ (x : TokenKind). at_semicolon (MoreHeaders true) (Some x)) h) (tt, tt, tt) u done) done) done)
    done
first_headers (more_headers plugin us ws h l) rest m fine u =
    unbroken_on outside Whole _ (us ++ (ws ++ rest)) _ [] (append_assoc us ws rest) (first_headers h (ws ++ rest) m (headers_first l rest) (next_headers l rest m u))

-- ---- the whole

pub unbroken_source : (ws : Words) (s : RawSource) → RelaxedSource ws s → IsStrict s → Unbroken outside Whole ws (made_source s) []
unbroken_source ws s r h =
    let there = behind_then r.behind in
    let behind = unbroken_behind r.behind h.reserves h.places (subst (IsOrdered []) (sym (append-nil s.places)) h.ordered) in
    unbroken_on outside Whole ws (r.headers ++ r.others) (made_source s) [] r.together
    (first_headers r.spelled_headers r.others (made_source s) there.0 (read_on (there.1 s.plugin) (tt, tt, tt) behind done))

pub no_fault : (ws left : Words) (s : Says) (k : FaultKind) → SpellsSource ws s → Breaks outside Whole ws k left → ⊥
no_fault ws left s k h b = let r = source_of ws s h in clash b (unbroken_source ws r.raw r.relaxed r.strict)
