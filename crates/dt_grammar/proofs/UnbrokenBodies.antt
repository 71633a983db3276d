-- A body and a statement that the grammar spells are read with no fault.
use Rattle.std.proofs.Common.{◌≡◌, ℕ, suc, ◌<◌, Bool, true, false, List, [], ◌∷◌, ◌++◌, length, map, Option, Some, refl, sym, ◌∙◌, ap, subst, append_assoc, arith}
use Rattle.std.specs.List.{AllByRecursion}
use Rattle.dt_lex.specs.declared.token.TokenKind.{TokenKind}
use Rattle.dt_lex.specs.declared.token.TokenKind.TheVariants as kind
use Rattle.dt_lex.specs.declared.token.Mark.TheVariants as mark
use Rattle.dt_lex.specs.declared.token.Keyword.TheVariants as keyword
use Rattle.dt_grammar.specs.Words.{Word, Words}
use Rattle.dt_grammar.specs.Unchecked.{Target, a_label, a_path, RawPlace, raw_root, raw_block, raw_child, raw_label, raw_close}
use Rattle.dt_grammar.specs.Relaxed.{no_more_labels, word, a_mark, a_keyword, a_reference, Members, no_more_members, a_flag, a_property, a_deleted_property, a_child, a_deleted_child, Statement, a_root_block, a_node_block, a_deleted_node}
use Rattle.dt_grammar.specs.Strict.{IsSoundPlace, IsOrdered}
use Rattle.dt_grammar.specs.Wanted.{made_places, SomeMembers, BlockOpen, OneStatement, give, kind_at, bytes_at}
use Rattle.dt_grammar.specs.Moves.{at_member}
use Rattle.dt_grammar.specs.Descent.{first, after}
use Rattle.dt_grammar.proofs.Values.{NoLabel}
use Rattle.dt_grammar.specs.Faults.{Around, outside, member_named, member_placed}
use Rattle.dt_grammar.proofs.Bodies.{closing, child_then}
use Rattle.dt_grammar.proofs.StrictBodies.{child_regroup}
use Rattle.dt_grammar.proofs.CheckedBodies.{all_front, all_behind, label_texts, behind_labels}
use Rattle.dt_grammar.proofs.Unbroken.{Unbroken, given_here, read_on, done, unbroken_on}
use Rattle.dt_grammar.proofs.UnbrokenValues.{unbroken_labels, unbroken_value}

abbrev pub around : ℕ → List Bool → Around
around bits bodies = record { bits = bits; bodies = bodies }

-- no member stands there
abbrev pub NoMember : Option Word → Type 0
NoMember k = (b : List ℕ) → at_member [] b (kind_at k) ≡ give false (made_places [])

no_member_named : (bodies : List Bool) (b : List ℕ) (k next : Option TokenKind) → at_member [] b k ≡ give false (made_places []) → member_named b k next × member_placed bodies k
no_member_named bodies b (Some kind.Name) next h = cc
no_member_named bodies b (Some (kind.Keyword keyword.DeleteProperty)) next h = cc
no_member_named bodies b _ next h = (tt, tt)

-- a body's members are read in these bodies with no fault, whatever tokens stand behind them that are no member
abbrev pub ReadsMembers : ℕ → List Bool → Words → List RawPlace → Type 0
ReadsMembers bits bodies ws ps = (rest : Words) → NoLabel (first rest) → NoMember (first rest) → Unbroken (around bits bodies) SomeMembers (ws ++ rest) (made_places ps) rest

pub unbroken_block : (bits : ℕ) (outer : List Bool) (ps cs : List RawPlace) (a z s : List ℕ) (ws rest : Words) → length outer < 65 → ReadsMembers bits (false ∷ outer) ws cs →
    Unbroken (around bits outer) (BlockOpen ps) (a_mark mark.OpenBrace a ∷ (ws ++ closing z s rest)) (made_places (ps ++ (cs ++ raw_close ∷ []))) rest
unbroken_block bits outer ps cs a z s ws rest few d =
    read_on refl (tt, tt, few) (d (closing z s rest) (λ b. refl) (λ b. refl)) (read_on refl (tt, tt, tt) (given_here {taken = true} refl (tt, tt, tt)) done)

-- the members of a body, and the order of what stands behind them
pub record ReadsInside (bits : ℕ) (b : Bool) (outer bodies : List Bool) (ws : Words) (ps more : List RawPlace) : Type 0 where
  pub read : ReadsMembers bits (b ∷ outer) ws ps
  pub stood : Bool
  pub ordered : IsOrdered (stood ∷ bodies) more

pub unbroken_members : {ws : Words} {ps : List RawPlace} → Members ws ps → AllByRecursion IsSoundPlace ps → (bits : ℕ) (b : Bool) (outer bodies : List Bool) → length outer ≡ length bodies →
    (more : List RawPlace) → IsOrdered (b ∷ bodies) (ps ++ more) → ReadsInside bits b outer bodies ws ps more
unbroken_members no_more_members g bits b outer bodies same more h = record {
  read = λ rest e n.
      let m = no_member_named (b ∷ outer) (bytes_at (first rest)) (kind_at (first rest)) (kind_at (first (after true rest))) (n _) in
      read_on refl (tt, tt, tt) (unbroken_labels (around bits (b ∷ outer)) no_more_labels tt rest e) (given_here {taken = false} (n _) (tt, m.0, m.1));
  stood = b;
  ordered = h;
}
unbroken_members (a_flag us ws n s ls ps l m) g bits b outer bodies same more h =
    let r = unbroken_members m g.1 bits b outer bodies same more (subst (λ (x : Bool). IsOrdered (x ∷ bodies) (ps ++ more)) (sym h.0) h.1) in
    record {
      read = λ end no_label none.
          let here = word kind.Name n ∷ a_mark mark.Semicolon s ∷ ws in
          unbroken_on (around bits (b ∷ outer)) SomeMembers _ (us ++ (here ++ end)) _ end (append_assoc us here end)
          (read_on refl (tt, tt, tt) (unbroken_labels (around bits (b ∷ outer)) l g.0.0 (here ++ end) (λ x. refl))
          (read_on refl (tt, g.0.1, tt) (given_here {taken = true} refl (tt, tt, h.0)) (read_on refl (tt, tt, tt) (r.read end no_label none) done)));
      stood = r.stood;
      ordered = r.ordered;
    }
unbroken_members (a_property us vs ws n e s ls v ps l t m) g bits b outer bodies same more h =
    let r = unbroken_members m g.1 bits b outer bodies same more (subst (λ (x : Bool). IsOrdered (x ∷ bodies) (ps ++ more)) (sym h.0) h.1) in
    record {
      read = λ end no_label none.
          let here = word kind.Name n ∷ a_mark mark.Equals e ∷ (vs ++ a_mark mark.Semicolon s ∷ (ws ++ end)) in
          unbroken_on (around bits (b ∷ outer)) SomeMembers _ (us ++ here) _ end
          (append_assoc us (word kind.Name n ∷ a_mark mark.Equals e ∷ (vs ++ a_mark mark.Semicolon s ∷ ws)) end ∙ ap (λ (x : Words). us ++ word kind.Name n ∷ a_mark mark.Equals e ∷ x) (append_assoc vs (a_mark mark.Semicolon s ∷ ws) end))
          (read_on refl (tt, tt, tt) (unbroken_labels (around bits (b ∷ outer)) l g.0.0 here (λ x. refl))
          (read_on refl (tt, g.0.1, tt)
          (read_on refl (tt, tt, h.0) (unbroken_value (around bits (b ∷ outer)) t g.0.2 (a_mark mark.Semicolon s ∷ (ws ++ end)) (λ x. refl) (λ x. refl)) (given_here {taken = true} refl (tt, tt, tt)))
          (read_on refl (tt, tt, tt) (r.read end no_label none) done)));
      stood = r.stood;
      ordered = r.ordered;
    }
unbroken_members (a_deleted_property us ws k n s ls ps l m) g bits b outer bodies same more h =
    let r = unbroken_members m g.1 bits b outer bodies same more (subst (λ (x : Bool). IsOrdered (x ∷ bodies) (ps ++ more)) (sym h.0) h.1) in
    record {
      read = λ end no_label none.
          let here = a_keyword keyword.DeleteProperty k ∷ word kind.Name n ∷ a_mark mark.Semicolon s ∷ ws in
          unbroken_on (around bits (b ∷ outer)) SomeMembers _ (us ++ (here ++ end)) _ end (append_assoc us here end)
          (read_on refl (tt, tt, tt) (unbroken_labels (around bits (b ∷ outer)) l g.0.0 (here ++ end) (λ x. refl))
          (read_on refl (tt, tt, h.0) (read_on refl (tt, g.0.1, tt) (given_here {taken = true} refl (tt, tt, tt)) done)
          (read_on refl (tt, tt, tt) (r.read end no_label none) done)));
      stood = r.stood;
      ordered = r.ordered;
    }
unbroken_members (a_child us vs ws n a z s ls cs ps l c m) g bits b outer bodies same more h =
    let texts = label_texts ls (all_front IsSoundPlace (map raw_label ls) (cs ++ raw_close ∷ ps) g.1) in
    let within_it = all_behind IsSoundPlace (map raw_label ls) (cs ++ raw_close ∷ ps) g.1 in
    let inner = unbroken_members c (all_front IsSoundPlace cs (raw_close ∷ ps) within_it) bits false (b ∷ outer) (true ∷ bodies) (ap suc same) (raw_close ∷ (ps ++ more))
    (behind_labels ls (false ∷ true ∷ bodies) (cs ++ raw_close ∷ (ps ++ more)) (subst (IsOrdered (false ∷ true ∷ bodies)) (child_regroup (map raw_label ls) cs ps more) h.1)) in
    let r = unbroken_members m (all_behind IsSoundPlace cs (raw_close ∷ ps) within_it).1 bits true outer bodies same more inner.ordered in
    record {
      read = λ end no_label none.
          let here = word kind.Name n ∷ a_mark mark.OpenBrace a ∷ (vs ++ closing z s (ws ++ end)) in
          let few : length (b ∷ outer) < 65 = omega (arith, h.0, same) in
          subst (λ (x : List RawPlace). Unbroken (around bits (b ∷ outer)) SomeMembers ((us ++ word kind.Name n ∷ a_mark mark.OpenBrace a ∷ (vs ++ a_mark mark.CloseBrace z ∷ a_mark mark.Semicolon s ∷ ws)) ++ end) (made_places x) end)
          (child_then (raw_child n) (map raw_label ls) cs ps)
          (unbroken_on (around bits (b ∷ outer)) SomeMembers _ (us ++ here) _ end
          (append_assoc us (word kind.Name n ∷ a_mark mark.OpenBrace a ∷ (vs ++ closing z s ws)) end ∙ ap (λ (x : Words). us ++ word kind.Name n ∷ a_mark mark.OpenBrace a ∷ x) (append_assoc vs (closing z s ws) end))
          (read_on refl (tt, tt, tt) (unbroken_labels (around bits (b ∷ outer)) l texts here (λ x. refl))
          (read_on refl (tt, g.0, tt)
          (read_on refl (tt, tt, tt) (unbroken_block bits (b ∷ outer) (raw_child n ∷ map raw_label ls) cs a z s vs (ws ++ end) few inner.read) done)
          (read_on refl (tt, tt, tt) (r.read end no_label none) done))));
      stood = r.stood;
      ordered = r.ordered;
    }
unbroken_members (a_deleted_child us ws k n s ls ps l m) g bits b outer bodies same more h =
    let r = unbroken_members m g.1 bits true outer bodies same more h in
    record {
      read = λ end no_label none.
          let here = a_keyword keyword.DeleteNode k ∷ word kind.Name n ∷ a_mark mark.Semicolon s ∷ ws in
          unbroken_on (around bits (b ∷ outer)) SomeMembers _ (us ++ (here ++ end)) _ end (append_assoc us here end)
          (read_on refl (tt, tt, tt) (unbroken_labels (around bits (b ∷ outer)) l g.0.0 (here ++ end) (λ x. refl))
          (read_on refl (tt, tt, tt) (read_on refl (tt, g.0.1, tt) (given_here {taken = true} refl (tt, tt, tt)) done)
          (read_on refl (tt, tt, tt) (r.read end no_label none) done)));
      stood = r.stood;
      ordered = r.ordered;
    }

-- ---- statements

-- a body inside no other, and what stands behind it
record ReadsBlock (ps cs more : List RawPlace) (a z s : List ℕ) (ws : Words) : Type 0 where
  read : (rest : Words) → Unbroken outside (BlockOpen ps) (a_mark mark.OpenBrace a ∷ (ws ++ closing z s rest)) (made_places (ps ++ (cs ++ raw_close ∷ []))) rest
  ordered : IsOrdered [] more

outer_block : (ps cs more : List RawPlace) (a z s : List ℕ) (ws : Words) → Members ws cs → AllByRecursion IsSoundPlace cs → IsOrdered (false ∷ []) ((cs ++ raw_close ∷ []) ++ more) → ReadsBlock ps cs more a z s ws
outer_block ps cs more a z s ws m g h =
    let r = unbroken_members m g 64 false [] [] refl (raw_close ∷ more) (subst (IsOrdered (false ∷ [])) (append_assoc cs (raw_close ∷ []) more) h) in
    record { read = λ rest. unbroken_block 64 [] ps cs a z s ws rest (omega arith) r.read; ordered = r.ordered }

-- a statement behind its labels, and what stands behind it
pub record ReadsStatement (ls : List (List ℕ)) (ws : Words) (ps more : List RawPlace) : Type 0 where
  pub read : (rest : Words) → Unbroken outside (OneStatement ls) (ws ++ rest) (made_places ps) rest
  pub ordered : IsOrdered [] more

node_block : (ls : List (List ℕ)) (t : Target) (b a z s : List ℕ) (ws : Words) (cs : List RawPlace) → Members ws cs → AllByRecursion IsSoundPlace (raw_block t b ∷ (map raw_label ls ++ (cs ++ raw_close ∷ []))) →
    (more : List RawPlace) → IsOrdered [] ((raw_block t b ∷ (map raw_label ls ++ (cs ++ raw_close ∷ []))) ++ more) → ReadsBlock (raw_block t b ∷ map raw_label ls) cs more a z s ws
node_block ls t b a z s ws cs m g more h =
    let inside = all_front IsSoundPlace cs (raw_close ∷ []) (all_behind IsSoundPlace (map raw_label ls) (cs ++ raw_close ∷ []) g.1) in
    outer_block (raw_block t b ∷ map raw_label ls) cs more a z s ws m inside
    (behind_labels ls (false ∷ []) ((cs ++ raw_close ∷ []) ++ more) (subst (IsOrdered (false ∷ [])) (append_assoc (map raw_label ls) (cs ++ raw_close ∷ []) more) h))

pub unbroken_statement : {ls : List (List ℕ)} {ws : Words} {ps : List RawPlace} → Statement ls ws ps → AllByRecursion IsSoundPlace ps → (more : List RawPlace) → IsOrdered [] (ps ++ more) → ReadsStatement ls ws ps more
unbroken_statement (a_root_block c a z s ws cs m) g more h =
    let r = outer_block (raw_root ∷ []) cs more a z s ws m (all_front IsSoundPlace cs (raw_close ∷ []) g.1) h in
    record {
      read = λ rest. unbroken_on outside (OneStatement []) _ (a_mark mark.Slash c ∷ a_mark mark.OpenBrace a ∷ (ws ++ closing z s rest)) _ rest (ap (λ (x : Words). a_mark mark.Slash c ∷ a_mark mark.OpenBrace a ∷ x) (append_assoc ws (closing z s []) rest))
          (read_on refl (tt, tt, tt) (r.read rest) done);
      ordered = r.ordered;
    }
unbroken_statement (a_node_block ls a_label b a z s ws cs m) g more h =
    let r = node_block ls a_label b a z s ws cs m g more h in
    record {
      read = λ rest. unbroken_on outside (OneStatement ls) _ (a_reference a_label b ∷ a_mark mark.OpenBrace a ∷ (ws ++ closing z s rest)) _ rest (ap (λ (x : Words). a_reference a_label b ∷ a_mark mark.OpenBrace a ∷ x) (append_assoc ws (closing z s []) rest))
          (read_on refl (tt, g.0, tt) (r.read rest) done);
      ordered = r.ordered;
    }
unbroken_statement (a_node_block ls a_path b a z s ws cs m) g more h =
    let r = node_block ls a_path b a z s ws cs m g more h in
    record {
      read = λ rest. unbroken_on outside (OneStatement ls) _ (a_reference a_path b ∷ a_mark mark.OpenBrace a ∷ (ws ++ closing z s rest)) _ rest (ap (λ (x : Words). a_reference a_path b ∷ a_mark mark.OpenBrace a ∷ x) (append_assoc ws (closing z s []) rest))
          (read_on refl (tt, g.0, tt) (r.read rest) done);
      ordered = r.ordered;
    }
unbroken_statement (a_deleted_node a_label k b s) g more h = record {
  read = λ rest. read_on refl (tt, tt, tt) (read_on refl (tt, g.0, tt) (given_here {taken = true} refl (tt, tt, tt)) done) done;
  ordered = h;
}
unbroken_statement (a_deleted_node a_path k b s) g more h = record {
  read = λ rest. read_on refl (tt, tt, tt) (read_on refl (tt, g.0, tt) (given_here {taken = true} refl (tt, tt, tt)) done) done;
  ordered = h;
}
