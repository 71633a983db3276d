-- The places of a source are well nested, there is one, and its reservations are ones.
use Rattle.std.proofs.Common.{ℕ, suc, ◌<◌, List, [], ◌∷◌, ◌++◌, length, map, sym, ap, subst, ◌∙◌, ◌≡◌, append_assoc, length-append, arith}
use Rattle.std.specs.List.{AllByRecursion}
use Rattle.std.proofs.lemmas.List.{append-nil}
use Rattle.dt_model.specs.Names.{Name}
use Rattle.dt_model.specs.Valid.{IsReservation}
use Rattle.dt_model.specs.Source.{Place, label, close}
use Rattle.dt_model.specs.Nested.{AreNested}
use Rattle.dt_grammar.specs.Words.{Words}
use Rattle.dt_grammar.specs.Grammar.{SpellsProperties, no_properties, defined, deleted, SpellsChildren, no_children, opened, removed, SpellsBody, SpellsStatement, root_block, node_block, node_deleted, SpellsStatements, last_statement, more_statements, SpellsReservations, no_reservations, reserved, SpellsSource, Says}

-- ---- bodies

labels_nest : (outer : ℕ) (ls : List Name) (rest : List Place) → AreNested (suc outer) rest → AreNested (suc outer) (map label ls ++ rest)
labels_nest outer [] rest h = h
labels_nest outer (l ∷ ls) rest h = labels_nest outer ls rest h

properties_nest : (outer : ℕ) {ws : Words} {ps : List Place} → SpellsProperties ws ps → (rest : List Place) → AreNested (suc outer) rest → AreNested (suc outer) (ps ++ rest)
properties_nest outer no_properties rest h = h
properties_nest outer (defined us vs ws w s n ls parts places l p a m more) rest h = properties_nest outer more rest h
properties_nest outer (deleted us ws k w s n ls places l d p m more) rest h = properties_nest outer more rest h

regroup : (ls ps cs places rest : List Place) → (ls ++ (ps ++ (cs ++ close ∷ places))) ++ rest ≡ ls ++ (ps ++ (cs ++ close ∷ (places ++ rest)))
regroup ls ps cs places rest =
    append_assoc ls (ps ++ (cs ++ close ∷ places)) rest
    ∙ ap (λ (x : List Place). ls ++ x) (append_assoc ps (cs ++ close ∷ places) rest ∙ ap (λ (x : List Place). ps ++ x) (append_assoc cs (close ∷ places) rest))

children_nest : (outer : ℕ) {around : ℕ} {ws : Words} {cs : List Place} → SpellsChildren around ws cs → (rest : List Place) → AreNested (suc outer) rest → AreNested (suc outer) (cs ++ rest)
children_nest outer (no_children around) rest h = h
children_nest outer (opened around us properties children ws w o c s n ls ps cs places l p b few sp sc cb e more) rest h =
    let behind = children_nest outer more rest h in
    let in_children = children_nest (suc outer) sc (close ∷ (places ++ rest)) behind in
    let in_properties = properties_nest (suc outer) sp (cs ++ close ∷ (places ++ rest)) in_children in
    let in_labels = labels_nest (suc outer) ls (ps ++ (cs ++ close ∷ (places ++ rest))) in_properties in
    subst (AreNested (suc (suc outer))) (sym (regroup (map label ls) ps cs places rest)) in_labels
children_nest outer (removed around us ws k w s n ls places l d p m more) rest h = children_nest outer more rest h

body_nests : {ws : Words} {places : List Place} → SpellsBody ws places → (rest : List Place) → AreNested 0 rest → AreNested 1 (places ++ rest)
body_nests b rest h =
    let inside : AreNested 1 (b.ps ++ (b.cs ++ close ∷ rest)) = properties_nest 0 b.spelled_properties (b.cs ++ close ∷ rest) (children_nest 0 b.spelled_children (close ∷ rest) h) in
    let together = ap (λ (x : List Place). x ++ rest) b.says ∙ regroup [] b.ps b.cs [] rest in
    subst (AreNested 1) (sym together) inside

-- ---- statements

statement_nests : {ws : Words} {places : List Place} → SpellsStatement ws places → (rest : List Place) → AreNested 0 rest → AreNested 0 (places ++ rest)
statement_nests (root_block w ws places m b) rest h = body_nests b rest h
statement_nests (node_block us ws w r ls places l i b) rest h =
    subst (AreNested 1) (sym (append_assoc (map label ls) places rest)) (labels_nest 0 ls (places ++ rest) (body_nests b rest h))
statement_nests (node_deleted k w s r d i m) rest h = h

statements_nest : {ws : Words} {places : List Place} → SpellsStatements ws places → AreNested 0 places
statements_nest (last_statement ws places st) = subst (AreNested 0) (append-nil places) (statement_nests st [] tt)
statements_nest (more_statements us ws places others st more) = statement_nests st others (statements_nest more)

pub source_nests : (ws : Words) (s : Says) → SpellsSource ws s → AreNested 0 s.places
source_nests ws s spelled = statements_nest spelled.spelled_statements

-- ---- one place at least

statement_says : {ws : Words} {places : List Place} → SpellsStatement ws places → 0 < length places
statement_says (root_block w ws places m b) = omega arith
statement_says (node_block us ws w r ls places l i b) = omega arith
statement_says (node_deleted k w s r d i m) = omega arith

statements_say : {ws : Words} {places : List Place} → SpellsStatements ws places → 0 < length places
statements_say (last_statement ws places st) = statement_says st
statements_say (more_statements us ws places others st more) =
    let some : 0 < length places = statement_says st in
    simp length-append (omega arith)

pub source_says : (ws : Words) (s : Says) → SpellsSource ws s → 0 < length s.places
source_says ws s spelled = statements_say spelled.spelled_statements

-- ---- reservations

reservations_valid : {ws : Words} {rs : List (ℕ × ℕ)} → SpellsReservations ws rs → AllByRecursion IsReservation rs
reservations_valid no_reservations = tt
reservations_valid (reserved us vs ws xs k s ls address size others l m a b e valid more) = (valid, reservations_valid more)

pub source_reserves : (ws : Words) (s : Says) → SpellsSource ws s → AllByRecursion IsReservation s.reservations
source_reserves ws s spelled = reservations_valid spelled.spelled_reservations
