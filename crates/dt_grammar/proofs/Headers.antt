-- The descent reads each relaxed source with its headers, so that tokens are one relaxed source's alone.
use Rattle.std.proofs.Common.{◌≡◌, ℕ, Bool, true, false, List, [], ◌∷◌, ◌++◌, Option, Some, refl, sym, ap, subst, append_assoc}
use Rattle.std.proofs.lemmas.List.{append-nil}
use Rattle.dt_lex.specs.declared.token.TokenKind.{TokenKind}
use Rattle.dt_lex.specs.declared.token.Mark.TheVariants as mark
use Rattle.dt_lex.specs.declared.token.Keyword.TheVariants as keyword
use Rattle.dt_grammar.specs.Words.{Word, Words, IsKeyword, IsMark}
use Rattle.dt_grammar.specs.Grammar.{SpellsHeaders, base_header, plugin_header, more_headers}
use Rattle.dt_grammar.specs.Unchecked.{a_label, a_path, RawPlace, RawReserve, RawSource}
use Rattle.dt_grammar.specs.Relaxed.{Labels, no_more_labels, another_label, Statement, a_root_block, a_node_block, a_deleted_node, Statements, only_statement, first_statement, Behind, no_more_reserves, another_reserve, RelaxedSource}
use Rattle.dt_grammar.specs.Wanted.{Made, made_source, Wanted, Whole, AfterVersion, AfterHeader, PluginEnd, MoreHeaders, NextVersion, NextHeader, Top, Done, kind_at, want}
use Rattle.dt_grammar.specs.Moves.{at_version, at_semicolon, at_first_plugin, at_next_plugin, at_header, source_with}
use Rattle.dt_grammar.specs.Descent.{first, found, Does, gives, part_found, Descends}
use Rattle.dt_grammar.proofs.Descent.{deterministic, by_move, on}
use Rattle.dt_grammar.proofs.Sources.{complete_behind}

-- a token that is used up, and nothing more than what is wanted behind it
passed : (g : Wanted) (w : Word) (rest : Words) (m : Made) → Descends g rest (found m []) → Does (want true g Done) (w ∷ rest) (found m [])
passed g w rest m d = part_found d gives

over_version : (g : Wanted) (w : Word) (rest : Words) (m : Made) → IsKeyword keyword.Version w → Descends g rest (found m []) → Does (at_version g (Some w.kind)) (w ∷ rest) (found m [])
over_version g w rest m e d = by_move _ _ (w ∷ rest) _ (ap (λ (k : TokenKind). at_version g (Some k)) e) (passed g w rest m d)

over_semicolon : (g : Wanted) (w : Word) (rest : Words) (m : Made) → IsMark mark.Semicolon w → Descends g rest (found m []) → Does (at_semicolon g (Some w.kind)) (w ∷ rest) (found m [])
over_semicolon g w rest m e d = by_move _ _ (w ∷ rest) _ (ap (λ (k : TokenKind). at_semicolon g (Some k)) e) (passed g w rest m d)

over_header : (plugin : Bool) (w : Word) (rest : Words) (m : Made) → IsKeyword keyword.Version w → Descends (NextVersion plugin) rest (found m []) → Descends (MoreHeaders plugin) (w ∷ rest) (found m [])
over_header plugin w rest m e d = by_move _ _ (w ∷ rest) _ (ap (λ (k : TokenKind). at_header plugin (Some k)) e) (passed (NextVersion plugin) w rest m d)

-- no `/plugin/` stands there
abbrev pub NoPlugin : Option Word → Type 0
NoPlugin k = at_first_plugin (kind_at k) ≡ want false (MoreHeaders false) Done

pub headers_first : {plugin : Bool} {us : Words} → SpellsHeaders plugin us → (rest : Words) → NoPlugin (first (us ++ rest))
headers_first (base_header k s e f) rest = ap (λ (x : TokenKind). at_first_plugin (Some x)) e
headers_first (plugin_header k s p t e f g h) rest = ap (λ (x : TokenKind). at_first_plugin (Some x)) e
headers_first (more_headers plugin us ws h l) rest = subst (λ (x : Words). NoPlugin (first x)) (sym (append_assoc us ws rest)) (headers_first h (ws ++ rest))

next_headers : {plugin : Bool} {us : Words} → SpellsHeaders plugin us → (rest : Words) (m : Made) → Descends (MoreHeaders plugin) rest (found m []) → Descends (MoreHeaders plugin) (us ++ rest) (found m [])
next_headers (base_header k s e f) rest m d =
    over_header false k (s ∷ rest) m e (over_semicolon (NextHeader false) s rest m f (part_found d gives))
next_headers (plugin_header k s p t e f g h) rest m d =
    over_header true k (s ∷ p ∷ t ∷ rest) m e (over_semicolon (NextHeader true) s (p ∷ t ∷ rest) m f
    (by_move _ _ (p ∷ t ∷ rest) _ (ap (λ (x : TokenKind). at_next_plugin true (Some x)) g) (passed PluginEnd p (t ∷ rest) m (over_semicolon (MoreHeaders true) t rest m h d))))
next_headers (more_headers plugin us ws h l) rest m d =
    on (MoreHeaders plugin) _ (us ++ (ws ++ rest)) _ (append_assoc us ws rest) (next_headers h (ws ++ rest) m (next_headers l rest m d))

first_headers : {plugin : Bool} {us : Words} → SpellsHeaders plugin us → (rest : Words) (m : Made) → NoPlugin (first rest) → Descends (MoreHeaders plugin) rest (found m []) → Descends Whole (us ++ rest) (found m [])
first_headers (base_header k s e f) rest m fine d =
    over_version AfterVersion k (s ∷ rest) m e (over_semicolon AfterHeader s rest m f (by_move _ _ rest _ fine (part_found d gives)))
first_headers (plugin_header k s p t e f g h) rest m fine d =
    over_version AfterVersion k (s ∷ p ∷ t ∷ rest) m e (over_semicolon AfterHeader s (p ∷ t ∷ rest) m f
    (by_move _ _ (p ∷ t ∷ rest) _ (ap (λ (x : TokenKind). at_first_plugin (Some x)) g) (passed PluginEnd p (t ∷ rest) m (over_semicolon (MoreHeaders true) t rest m h d))))
first_headers (more_headers plugin us ws h l) rest m fine d =
    on Whole _ (us ++ (ws ++ rest)) _ (append_assoc us ws rest) (first_headers h (ws ++ rest) m (headers_first l rest) (next_headers l rest m d))

-- neither a header nor `/plugin/` stands there
abbrev pub NoHeader : Option Word → Type 0
NoHeader k = NoPlugin k × ((plugin : Bool) → at_header plugin (kind_at k) ≡ want false Top (λ x. Done (source_with plugin x)))

labels_then : {us : Words} {ls : List (List ℕ)} → Labels us ls → (vs : Words) → NoHeader (first vs) → NoHeader (first (us ++ vs))
labels_then no_more_labels vs h = h
labels_then (another_label b ws ls s) vs h = (refl, λ p. refl)

statement_then : {ls : List (List ℕ)} {ws : Words} {ps : List RawPlace} → Statement ls ws ps → (rest : Words) → NoHeader (first (ws ++ rest))
statement_then (a_root_block c a z s ws cs m) rest = (refl, λ p. refl)
statement_then (a_node_block ls a_label b a z s ws cs m) rest = (refl, λ p. refl)
statement_then (a_node_block ls a_path b a z s ws cs m) rest = (refl, λ p. refl)
statement_then (a_deleted_node t k b s) rest = (refl, λ p. refl)

statements_then : {ws : Words} {ps : List RawPlace} → Statements ws ps → NoHeader (first ws)
statements_then (only_statement us vs ls ps l s) = labels_then l vs (subst (λ (x : Words). NoHeader (first x)) (append-nil vs) (statement_then s []))
statements_then (first_statement us vs ws ls ps others l s t) = labels_then l (vs ++ ws) (statement_then s ws)

pub behind_then : {ws : Words} {rs : List RawReserve} {ps : List RawPlace} → Behind ws rs ps → NoHeader (first ws)
behind_then (no_more_reserves ws ps t) = statements_then t
behind_then (another_reserve us vs ws xs k s ls d e rs ps l c f b) = labels_then l _ (refl, λ p. refl)

-- what is spelled so is read
pub complete_source : (ws : Words) (s : RawSource) → RelaxedSource ws s → Descends Whole ws (found (made_source s) [])
complete_source ws s r =
    let there = behind_then r.behind in
    on Whole ws (r.headers ++ r.others) _ r.together
    (first_headers r.spelled_headers r.others (made_source s) there.0
    (by_move _ _ r.others _ (there.1 s.plugin) (part_found (complete_behind r.behind) gives)))

pub one_relaxed : (ws : Words) (s t : RawSource) → RelaxedSource ws s → RelaxedSource ws t → s ≡ t
one_relaxed ws s t a b = let same = deterministic (complete_source ws s a) (complete_source ws t b) in cc
