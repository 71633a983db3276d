-- What is read as a body or a statement is a relaxed one.
use Rattle.std.proofs.Common.{◌≡◌, ℕ, true, List, [], ◌∷◌, ◌++◌, map, Option, Some, None, refl, sym, ◌∙◌, ap, subst, append_assoc}
use Rattle.std.proofs.lemmas.List.{append-nil}
use Rattle.dt_lex.specs.declared.token.TokenKind.{TokenKind}
use Rattle.dt_lex.specs.declared.token.TokenKind.TheVariants as kind
use Rattle.dt_lex.specs.declared.token.Mark.TheVariants as mark
use Rattle.dt_lex.specs.declared.token.Keyword.TheVariants as keyword
use Rattle.dt_grammar.specs.Words.{Word, Words}
use Rattle.dt_grammar.specs.Unchecked.{Target, a_label, a_path, RawPlace, raw_root, raw_block, raw_delete_node, raw_child, raw_label}
use Rattle.dt_grammar.specs.Relaxed.{word, a_mark, a_keyword, a_reference, Labels, no_more_labels, another_label, Members, no_more_members, a_flag, a_property, a_deleted_property, a_child, a_deleted_child, Statement, a_root_block, a_node_block, a_deleted_node, Statements, only_statement, first_statement}
use Rattle.dt_grammar.specs.Wanted.{Made, made_places, components_in, places_in, SomeMembers, AfterMemberLabels, More, AfterName, DeletedProperty, DeletedChild, BlockOpen, BlockClose, Ending, OneStatement, DeletedNode, SomeStatements, StatementThen, MoreStatements, Done, want}
use Rattle.dt_grammar.specs.Moves.{no_member, without_labels}
use Rattle.dt_grammar.proofs.Bodies.{child_then}
use Rattle.dt_grammar.proofs.Means.{Sound, SoundAt, at_each, at_nothing}

members_as : (ws xs : Words) (ps qs : List RawPlace) → ws ≡ xs → ps ≡ qs → Members ws ps → Members xs qs
members_as ws xs ps qs e f m = subst (λ (l : Words). Members l qs) e (subst (λ (l : List RawPlace). Members ws l) f m)

statement_as : (ls : List (List ℕ)) (ws xs : Words) (ps qs : List RawPlace) → ws ≡ xs → ps ≡ qs → Statement ls ws ps → Statement ls xs qs
statement_as ls ws xs ps qs e f m = subst (λ (l : Words). Statement ls l qs) e (subst (λ (l : List RawPlace). Statement ls ws l) f m)

pub sound_members : (k : Option Word) → SoundAt SomeMembers k
sound_members k = λ u v x y h f. f u h

pub unlabelled : {u : Words} {ls : List (List ℕ)} → Labels u ls → ls ≡ [] → u ≡ []
unlabelled no_more_labels e = refl
unlabelled (another_label b ws ls s) e = absurd (cc)

no_more : (ls : List (List ℕ)) (k : Option Word) → Sound (AfterMemberLabels ls) k (no_member ls)
no_more [] k = λ u s. subst (λ (l : Words). Members (l ++ []) []) (sym (unlabelled s refl)) no_more_members
no_more (l ∷ ls) k = tt

pub sound_member_labels : (ls : List (List ℕ)) (k : Option Word) → SoundAt (AfterMemberLabels ls) k
sound_member_labels ls = at_each (SoundAt (AfterMemberLabels ls)) (no_more ls None) at
  where
    at : (k : TokenKind) (b : List ℕ) → SoundAt (AfterMemberLabels ls) (Some (word k b))
    at kind.Name b = λ u v x y h f t s. subst (λ (z : List RawPlace). Members (t ++ word kind.Name b ∷ (u ++ v)) z) (sym f.2) (h t v f.0 s f.1)
    at (kind.Keyword keyword.DeleteProperty) b = λ u v x y h f t s. subst (λ (z : List RawPlace). Members (t ++ a_keyword keyword.DeleteProperty b ∷ (u ++ v)) z) (sym f.2) (h t v b f.0 s f.1)
    at (kind.Keyword keyword.DeleteNode) b = λ u v x y h f t s. subst (λ (z : List RawPlace). Members (t ++ a_keyword keyword.DeleteNode b ∷ (u ++ v)) z) (sym f.2) (h t v b f.0 s f.1)
    at k b = no_more ls (Some (word k b))

pub sound_more : (ps : List RawPlace) (k : Option Word) → SoundAt (More ps) k
sound_more ps k = λ u v x y h f. (places_in x, at_nothing (λ (l : Words) (e : Made). Members l (places_in x)) u v x x (f.0, refl) h, ap places_in f.1)

pub sound_name : (ls : List (List ℕ)) (n : List ℕ) (k : Option Word) → SoundAt (AfterName ls n) k
sound_name ls n = at_each (SoundAt (AfterName ls n)) tt at
  where
    at : (k : TokenKind) (b : List ℕ) → SoundAt (AfterName ls n) (Some (word k b))
    at (kind.Mark mark.Semicolon) b = λ u v qs s t. a_flag u v n b ls qs s t
    at (kind.Mark mark.Equals) b = λ u v x y h f p q qs s t.
        let front = λ (l : Words). p ++ word kind.Name n ∷ a_mark mark.Equals b ∷ l in
        members_as _ _ _ _
        (ap front (sym (append_assoc u (a_mark mark.Semicolon f.0.bytes ∷ []) q)) ∙ ap (λ (l : Words). front ((u ++ l) ++ q)) (sym f.0.together))
        (ap (λ (l : List RawPlace). l ++ qs) (sym f.1))
        (a_property p u q n b f.0.bytes ls (components_in x) qs s h t)
    at (kind.Mark mark.OpenBrace) b = λ u v x y h f p q qs s t.
        let front = λ (l : Words). p ++ word kind.Name n ∷ l in
        at_nothing (λ (l : Words) (e : Made). Members (p ++ word kind.Name n ∷ (l ++ q)) (places_in e ++ qs)) u v x y f
        (members_as _ _ _ _
        (ap (λ (l : Words). front (a_mark mark.OpenBrace h.a ∷ l)) (sym (append_assoc h.inner (a_mark mark.CloseBrace h.z ∷ a_mark mark.Semicolon h.s ∷ []) q)) ∙ ap (λ (l : Words). front (l ++ q)) (sym h.together))
        (sym (ap (λ (l : List RawPlace). l ++ qs) h.made ∙ child_then (raw_child n) (map raw_label ls) h.cs qs))
        (a_child p h.inner q n h.a h.z h.s ls h.cs qs s h.members t))
    at _ b = tt

pub sound_deleted_property : (ls : List (List ℕ)) (k : Option Word) → SoundAt (DeletedProperty ls) k
sound_deleted_property ls = at_each (SoundAt (DeletedProperty ls)) tt at
  where
    at : (k : TokenKind) (b : List ℕ) → SoundAt (DeletedProperty ls) (Some (word k b))
    at kind.Name b = λ u v x y h f p q k qs s t.
        at_nothing (λ (l : Words) (e : Made). Members (p ++ a_keyword keyword.DeleteProperty k ∷ word kind.Name b ∷ (l ++ q)) (places_in e ++ qs)) u v x y f
        (members_as _ _ _ _ (ap (λ (l : Words). p ++ a_keyword keyword.DeleteProperty k ∷ word kind.Name b ∷ (l ++ q)) (sym h.0.together)) (ap (λ (l : List RawPlace). l ++ qs) (sym h.1))
        (a_deleted_property p q k b h.0.bytes ls qs s t))
    at _ b = tt

pub sound_deleted_child : (ls : List (List ℕ)) (k : Option Word) → SoundAt (DeletedChild ls) k
sound_deleted_child ls = at_each (SoundAt (DeletedChild ls)) tt at
  where
    at : (k : TokenKind) (b : List ℕ) → SoundAt (DeletedChild ls) (Some (word k b))
    at kind.Name b = λ u v x y h f p q k qs s t.
        at_nothing (λ (l : Words) (e : Made). Members (p ++ a_keyword keyword.DeleteNode k ∷ word kind.Name b ∷ (l ++ q)) (places_in e ++ qs)) u v x y f
        (members_as _ _ _ _ (ap (λ (l : Words). p ++ a_keyword keyword.DeleteNode k ∷ word kind.Name b ∷ (l ++ q)) (sym h.0.together)) (ap (λ (l : List RawPlace). l ++ qs) (sym h.1))
        (a_deleted_child p q k b h.0.bytes ls qs s t))
    at _ b = tt

pub sound_block_open : (ps : List RawPlace) (k : Option Word) → SoundAt (BlockOpen ps) k
sound_block_open ps = at_each (SoundAt (BlockOpen ps)) tt at
  where
    at : (k : TokenKind) (b : List ℕ) → SoundAt (BlockOpen ps) (Some (word k b))
    at (kind.Mark mark.OpenBrace) b = λ u v x y h f. record { a = b; z = f.z; s = f.s; inner = u; cs = places_in x; members = h; together = ap (λ (l : Words). a_mark mark.OpenBrace b ∷ (u ++ l)) f.together; made = f.made }
    at _ b = tt

pub sound_block_close : (ps : List RawPlace) (k : Option Word) → SoundAt (BlockClose ps) k
sound_block_close ps = at_each (SoundAt (BlockClose ps)) tt at
  where
    at : (k : TokenKind) (b : List ℕ) → SoundAt (BlockClose ps) (Some (word k b))
    at (kind.Mark mark.CloseBrace) b = λ u v x y h f. record { z = b; s = h.0.bytes; together = λ i. a_mark mark.CloseBrace b ∷ (h.0.together i ++ f.0 i); made = ap places_in f.1 ∙ h.1 }
    at _ b = tt

pub sound_ending : (ps : List RawPlace) (k : Option Word) → SoundAt (Ending ps) k
sound_ending ps = at_each (SoundAt (Ending ps)) tt at
  where
    at : (k : TokenKind) (b : List ℕ) → SoundAt (Ending ps) (Some (word k b))
    at (kind.Mark mark.Semicolon) b = (record { bytes = b; together = refl }, refl)
    at _ b = tt

-- ---- statements

root_alone : (ls : List (List ℕ)) (b : List ℕ) → Sound (OneStatement ls) (Some (a_mark mark.Slash b)) (without_labels ls (want true (BlockOpen (raw_root ∷ [])) Done))
root_alone [] b = λ u v x y h f. at_nothing (λ (l : Words) (e : Made). Statement [] (a_mark mark.Slash b ∷ l) (places_in e)) u v x y f
    (statement_as _ _ _ _ _ (ap (λ (l : Words). a_mark mark.Slash b ∷ l) (sym h.together)) (sym h.made) (a_root_block b h.a h.z h.s h.inner h.cs h.members))
root_alone (l ∷ ls) b = tt

deletion_alone : (ls : List (List ℕ)) (b : List ℕ) → Sound (OneStatement ls) (Some (a_keyword keyword.DeleteNode b)) (without_labels ls (want true DeletedNode Done))
deletion_alone [] b = λ u v x y h f. at_nothing (λ (l : Words) (e : Made). Statement [] (a_keyword keyword.DeleteNode b ∷ l) (places_in e)) u v x y f (h b)
deletion_alone (l ∷ ls) b = tt

block_by : (ls : List (List ℕ)) (t : Target) (b : List ℕ) → Sound (OneStatement ls) (Some (a_reference t b)) (want true (BlockOpen (raw_block t b ∷ map raw_label ls)) Done)
block_by ls t b = λ u v x y h f. at_nothing (λ (l : Words) (e : Made). Statement ls (a_reference t b ∷ l) (places_in e)) u v x y f
    (statement_as _ _ _ _ _ (ap (λ (l : Words). a_reference t b ∷ l) (sym h.together)) (sym h.made) (a_node_block ls t b h.a h.z h.s h.inner h.cs h.members))

pub sound_statement : (ls : List (List ℕ)) (k : Option Word) → SoundAt (OneStatement ls) k
sound_statement ls = at_each (SoundAt (OneStatement ls)) tt at
  where
    at : (k : TokenKind) (b : List ℕ) → SoundAt (OneStatement ls) (Some (word k b))
    at (kind.Mark mark.Slash) b = root_alone ls b
    at (kind.Keyword keyword.DeleteNode) b = deletion_alone ls b
    at kind.LabelReference b = block_by ls a_label b
    at kind.PathReference b = block_by ls a_path b
    at _ b = tt

deleted_by : (t : Target) (b : List ℕ) → Sound DeletedNode (Some (a_reference t b)) (want true (Ending (raw_delete_node t b ∷ [])) Done)
deleted_by t b = λ u v x y h f k. at_nothing (λ (l : Words) (e : Made). Statement [] (a_keyword keyword.DeleteNode k ∷ a_reference t b ∷ l) (places_in e)) u v x y f
    (statement_as _ _ _ _ _ (ap (λ (l : Words). a_keyword keyword.DeleteNode k ∷ a_reference t b ∷ l) (sym h.0.together)) (sym h.1) (a_deleted_node t k b h.0.bytes))

pub sound_deleted_node : (k : Option Word) → SoundAt DeletedNode k
sound_deleted_node = at_each (SoundAt DeletedNode) tt at
  where
    at : (k : TokenKind) (b : List ℕ) → SoundAt DeletedNode (Some (word k b))
    at kind.LabelReference b = deleted_by a_label b
    at kind.PathReference b = deleted_by a_path b
    at _ b = tt

pub sound_statements : (k : Option Word) → SoundAt SomeStatements k
sound_statements k = λ u v x y h f. f u h

pub sound_statement_then : (ls : List (List ℕ)) (k : Option Word) → SoundAt (StatementThen ls) k
sound_statement_then ls k = λ u v x y h f t s. f t u ls s h

pub sound_more_statements : (ps : List RawPlace) (k : Option Word) → SoundAt (MoreStatements ps) k
sound_more_statements ps None = λ u v ls s t. subst (λ (l : Words). Statements (u ++ l) ps) (sym (append-nil v)) (only_statement u v ls ps s t)
sound_more_statements ps (Some k) = λ u v x y h f p q ls s t.
    at_nothing (λ (l : Words) (e : Made). Statements (p ++ (q ++ l)) (places_in e)) u v (made_places (ps ++ places_in x)) y f (first_statement p q u ls ps (places_in x) s t h)
