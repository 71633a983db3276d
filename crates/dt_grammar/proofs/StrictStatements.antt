-- Each statement that the grammar spells is a relaxed one that says it, and passes the checks.
use Rattle.std.specs.List.{AllByRecursion}
use Rattle.std.proofs.Common.{false}
use Rattle.dt_grammar.specs.Strict.{IsSoundPlace, IsOrdered}
use Rattle.dt_grammar.proofs.StrictBodies.{properties_of, children_of, body_says, all_append, labels_sound, labels_ordered, child_regroup}
use Rattle.std.proofs.Common.{◌≡◌, ℕ, List, [], ◌∷◌, ◌++◌, map, refl, sym, ◌∙◌, ap, subst, append_assoc}
use Rattle.std.proofs.lemmas.List.{map-append}
use Rattle.dt_model.specs.Source.{Place, root, block, delete_node, label}
use Rattle.dt_lex.specs.declared.token.Mark.TheVariants as mark
use Rattle.dt_grammar.specs.Words.{Words}
use Rattle.dt_grammar.specs.Grammar.{SpellsBody, SpellsStatement, root_block, node_block, node_deleted, SpellsStatements, last_statement, more_statements}
use Rattle.dt_grammar.specs.Unchecked.{RawPlace, raw_root, raw_block, raw_delete_node, raw_label, raw_close, place_meant}
use Rattle.dt_grammar.specs.Relaxed.{a_mark, Labels, no_more_labels, Members, Statement, a_root_block, a_node_block, a_deleted_node, Statements, only_statement, first_statement}
use Rattle.dt_grammar.proofs.Names.{spelled_reference, word_is, reference_word, labels_of, labels_say}

-- ---- statements

record BodyOf (ws : Words) (places : List Place) : Type 0 where
  inner : Words
  raw : List RawPlace
  relaxed : Members inner raw
  o : List ℕ
  z : List ℕ
  s : List ℕ
  same : a_mark mark.OpenBrace o ∷ (inner ++ a_mark mark.CloseBrace z ∷ a_mark mark.Semicolon s ∷ []) ≡ ws
  says : (fs : List RawPlace) (ls : List Place) → map place_meant fs ≡ ls → map place_meant (fs ++ (raw ++ raw_close ∷ [])) ≡ ls ++ places
  sound : AllByRecursion IsSoundPlace (raw ++ raw_close ∷ [])
  ordered : (labels : List (List ℕ)) (rest : List RawPlace) → IsOrdered [] rest → IsOrdered (false ∷ []) ((map raw_label labels ++ (raw ++ raw_close ∷ [])) ++ rest)

body_of : (ws : Words) (places : List Place) → SpellsBody ws places → BodyOf ws places
body_of ws places b =
    let inner = children_of b.spelled_children in
    let body = properties_of b.spelled_properties b.children inner.raw inner.relaxed in
    let inside : map place_meant body.raw ≡ b.ps ++ b.cs = body.says ∙ ap (λ (z : List Place). b.ps ++ z) inner.says in
    record {
      inner = b.properties ++ b.children;
      raw = body.raw;
      relaxed = body.relaxed;
      o = b.opening.bytes;
      z = b.closing.bytes;
      s = b.semicolon.bytes;
      same = (λ i. sym (word_is b.opening _ b.opened_by) i ∷ ((b.properties ++ b.children) ++ sym (word_is b.closing _ b.closed_by) i ∷ sym (word_is b.semicolon _ b.ended_by) i ∷ []))
          ∙ ap (λ (x : Words). b.opening ∷ x) (append_assoc b.properties b.children (b.closing ∷ b.semicolon ∷ [])) ∙ sym b.together;
      says = λ fs ls h. body_says fs body.raw [] ls b.ps b.cs [] h inside refl ∙ ap (λ (z : List Place). ls ++ z) (sym b.says);
      sound = all_append IsSoundPlace body.raw (raw_close ∷ []) (body.sound inner.sound) (tt, tt);
      ordered = λ labels rest h.
          subst (IsOrdered (false ∷ [])) (sym (child_regroup (map raw_label labels) body.raw [] rest))
          (labels_ordered labels (false ∷ []) (body.raw ++ raw_close ∷ rest)
          (body.ordered [] (raw_close ∷ rest) (inner.ordered false [] (raw_close ∷ rest) refl (λ c. h))));
    }

record StatementOf (ws : Words) (places : List Place) : Type 0 where
  us : Words
  vs : Words
  ls : List (List ℕ)
  raw : List RawPlace
  labelled : Labels us ls
  relaxed : Statement ls vs raw
  same : us ++ vs ≡ ws
  says : map place_meant raw ≡ places
  sound : AllByRecursion IsSoundPlace raw
  ordered : (rest : List RawPlace) → IsOrdered [] rest → IsOrdered [] (raw ++ rest)

statement_of : {ws : Words} {places : List Place} → SpellsStatement ws places → StatementOf ws places
statement_of (root_block slash ws places e b) =
    let r = body_of ws places b in
    record {
      us = [];
      vs = a_mark mark.Slash slash.bytes ∷ a_mark mark.OpenBrace r.o ∷ (r.inner ++ a_mark mark.CloseBrace r.z ∷ a_mark mark.Semicolon r.s ∷ []);
      ls = [];
      raw = raw_root ∷ (r.raw ++ raw_close ∷ []);
      labelled = no_more_labels;
      relaxed = a_root_block slash.bytes r.o r.z r.s r.inner r.raw r.relaxed;
      same = λ i. sym (word_is slash _ e) i ∷ r.same i;
      says = r.says (raw_root ∷ []) (root ∷ []) refl;
      sound = (tt, r.sound);
      ordered = λ rest h. r.ordered [] rest h;
    }
statement_of (node_block us ws w to ls places l h b) =
    let labels = labels_of l in
    let f = reference_word h in
    let r = body_of ws places b in
    record {
      us = us;
      vs = w ∷ ws;
      ls = labels.raw;
      raw = raw_block f.target w.bytes ∷ (map raw_label labels.raw ++ (r.raw ++ raw_close ∷ []));
      labelled = labels.relaxed;
      relaxed = subst (λ (x : Words). Statement labels.raw x (raw_block f.target w.bytes ∷ (map raw_label labels.raw ++ (r.raw ++ raw_close ∷ [])))) (λ i. sym f.is i ∷ r.same i)
          (a_node_block labels.raw f.target w.bytes r.o r.z r.s r.inner r.raw r.relaxed);
      same = refl;
      says = λ i. block (f.says i) ∷ r.says (map raw_label labels.raw) (map label ls) (labels_say labels) i;
      sound = (spelled_reference h f, all_append IsSoundPlace (map raw_label labels.raw) _ (labels_sound labels.raw labels.strict) r.sound);
      ordered = λ rest k. r.ordered labels.raw rest k;
    }
statement_of (node_deleted k w s to g h e) =
    let f = reference_word h in
    record {
      us = [];
      vs = k ∷ w ∷ s ∷ [];
      ls = [];
      raw = raw_delete_node f.target w.bytes ∷ [];
      labelled = no_more_labels;
      relaxed = subst (λ (x : Words). Statement [] x (raw_delete_node f.target w.bytes ∷ [])) (λ i. sym (word_is k _ g) i ∷ sym f.is i ∷ sym (word_is s _ e) i ∷ []) (a_deleted_node f.target k.bytes w.bytes s.bytes);
      same = refl;
      says = λ i. delete_node (f.says i) ∷ [];
      sound = (spelled_reference h f, tt);
      ordered = λ rest k. k;
    }

pub record StatementsOf (ws : Words) (places : List Place) : Type 0 where
  pub raw : List RawPlace
  pub relaxed : Statements ws raw
  pub says : map place_meant raw ≡ places
  pub sound : AllByRecursion IsSoundPlace raw
  pub ordered : (rest : List RawPlace) → IsOrdered [] rest → IsOrdered [] (raw ++ rest)

pub statements_of : {ws : Words} {places : List Place} → SpellsStatements ws places → StatementsOf ws places
statements_of (last_statement ws places s) =
    let r = statement_of s in
    record { raw = r.raw; relaxed = subst (λ (x : Words). Statements x r.raw) r.same (only_statement r.us r.vs r.ls r.raw r.labelled r.relaxed); says = r.says; sound = r.sound; ordered = r.ordered }
statements_of (more_statements us ws places others s t) =
    let r = statement_of s in
    let m = statements_of t in
    record {
      raw = r.raw ++ m.raw;
      relaxed = subst (λ (x : Words). Statements x (r.raw ++ m.raw)) (sym (append_assoc r.us r.vs ws) ∙ ap (λ (x : Words). x ++ ws) r.same) (first_statement r.us r.vs ws r.ls r.raw m.raw r.labelled r.relaxed m.relaxed);
      says = map-append place_meant r.raw m.raw ∙ (λ i. r.says i ++ m.says i);
      sound = all_append IsSoundPlace r.raw m.raw r.sound m.sound;
      ordered = λ rest h. subst (IsOrdered []) (sym (append_assoc r.raw m.raw rest)) (r.ordered (m.raw ++ rest) (m.ordered rest h));
    }
