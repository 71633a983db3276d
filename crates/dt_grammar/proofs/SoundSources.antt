-- What is read as reservations and headers is a relaxed source's.
use Rattle.std.proofs.Common.{◌≡◌, ℕ, Bool, true, false, List, [], ◌∷◌, ◌++◌, length, Option, Some, None, refl, sym, ◌∙◌, ap, subst, append_assoc}
use Rattle.dt_lex.specs.declared.token.TokenKind.{TokenKind}
use Rattle.dt_lex.specs.declared.token.TokenKind.TheVariants as kind
use Rattle.dt_lex.specs.declared.token.Mark.TheVariants as mark
use Rattle.dt_lex.specs.declared.token.Keyword.TheVariants as keyword
use Rattle.dt_grammar.specs.Words.{Word, Words}
use Rattle.dt_grammar.specs.Grammar.{SpellsHeaders, base_header, plugin_header, more_headers}
use Rattle.dt_grammar.specs.Unchecked.{RawPlace, RawReserve}
use Rattle.dt_grammar.specs.Relaxed.{word, a_mark, a_keyword, Behind, no_more_reserves, another_reserve}
use Rattle.dt_grammar.specs.Wanted.{Made, made_behind, expression_in, places_in, reserves_in, Top, AfterTopLabels, AfterAddress, ReserveEnd, StatementThen, Whole, AfterVersion, AfterHeader, PluginEnd, MoreHeaders, NextVersion, NextHeader, Done, want}
use Rattle.dt_grammar.specs.Moves.{source_with}
use Rattle.dt_grammar.proofs.Means.{IsSource, Sound, SoundAt, at_each, at_nothing}

pub sound_top : (k : Option Word) → SoundAt Top k
sound_top k = λ u v x y h f. f u h

without_reserve : (ls : List (List ℕ)) (k : Option Word) → Sound (AfterTopLabels ls) k (want false (StatementThen ls) (λ x. Done (made_behind [] (places_in x))))
without_reserve ls k = λ u v x y h f t s.
    at_nothing (λ (l : Words) (e : Made). Behind (t ++ l) (reserves_in e) (places_in e)) u v (made_behind [] (places_in x)) y f (no_more_reserves (t ++ u) (places_in x) (h t s))

pub sound_top_labels : (ls : List (List ℕ)) (k : Option Word) → SoundAt (AfterTopLabels ls) k
sound_top_labels ls = at_each (SoundAt (AfterTopLabels ls)) (without_reserve ls None) at
  where
    at : (k : TokenKind) (b : List ℕ) → SoundAt (AfterTopLabels ls) (Some (word k b))
    at (kind.Keyword keyword.Memreserve) b = λ u v x y h f t s. f t u b s h
    at k b = without_reserve ls (Some (word k b))

behind_as : (ws xs : Words) (rs qs : List RawReserve) (ps : List RawPlace) → ws ≡ xs → rs ≡ qs → Behind ws rs ps → Behind xs qs ps
behind_as ws xs rs qs ps e f b = subst (λ (l : Words). Behind l qs ps) e (subst (λ (l : List RawReserve). Behind ws l ps) f b)

pub sound_address : (ls : List (List ℕ)) (x : Made) (k : Option Word) → SoundAt (AfterAddress ls x) k
sound_address ls x k = λ u v z y h f p q w s t.
    let sized : List RawReserve = record { labels = ls; address_size = length q; address = expression_in x; length_size = length u; length = expression_in z } ∷ f.rs in
    behind_as _ _ sized _ (places_in y)
    (ap (λ (l : Words). p ++ a_keyword keyword.Memreserve w ∷ (q ++ (u ++ l))) (sym f.together))
    ((λ i. record { labels = ls; address_size = sym t.size i; address = expression_in x; length_size = sym h.size i; length = expression_in z } ∷ f.rs) ∙ sym f.made)
    (another_reserve p q u f.others w f.s ls (expression_in x) (expression_in z) f.rs (places_in y) s t.expression h.expression f.behind)

pub sound_reserve_end : (r : RawReserve) (k : Option Word) → SoundAt (ReserveEnd r) k
sound_reserve_end r = at_each (SoundAt (ReserveEnd r)) tt at
  where
    at : (k : TokenKind) (b : List ℕ) → SoundAt (ReserveEnd r) (Some (word k b))
    at (kind.Mark mark.Semicolon) b = λ u v x y h f. record {
      s = b;
      others = u ++ v;
      rs = reserves_in x;
      together = refl;
      behind = at_nothing (λ (l : Words) (e : Made). Behind l (reserves_in x) (places_in e)) u v (made_behind (r ∷ reserves_in x) (places_in x)) y f h;
      made = ap reserves_in f.1;
    }
    at _ b = tt

-- ---- headers

abbrev header : List ℕ → List ℕ → Words
header k s = a_keyword keyword.Version k ∷ a_mark mark.Semicolon s ∷ []

abbrev with_plugin : List ℕ → List ℕ → List ℕ → Words
with_plugin k s p = a_keyword keyword.Version k ∷ a_mark mark.Semicolon s ∷ a_keyword keyword.Plugin p ∷ []

is_header : (k s : List ℕ) → SpellsHeaders false (header k s)
is_header k s = base_header (a_keyword keyword.Version k) (a_mark mark.Semicolon s) refl refl

is_plugin : (k s p t : List ℕ) → SpellsHeaders true (with_plugin k s p ++ a_mark mark.Semicolon t ∷ [])
is_plugin k s p t = plugin_header (a_keyword keyword.Version k) (a_mark mark.Semicolon s) (a_keyword keyword.Plugin p) (a_mark mark.Semicolon t) refl refl refl refl

pub sound_whole : (k : Option Word) → SoundAt Whole k
sound_whole = at_each (SoundAt Whole) tt at
  where
    at : (k : TokenKind) (b : List ℕ) → SoundAt Whole (Some (word k b))
    at (kind.Keyword keyword.Version) b = λ u v x y h f. at_nothing (λ (l : Words) (e : Made). IsSource (a_keyword keyword.Version b ∷ l) e) u v x y f (h b)
    at _ b = tt

pub sound_version : (k : Option Word) → SoundAt AfterVersion k
sound_version = at_each (SoundAt AfterVersion) tt at
  where
    at : (k : TokenKind) (b : List ℕ) → SoundAt AfterVersion (Some (word k b))
    at (kind.Mark mark.Semicolon) b = λ u v x y h f k. at_nothing (λ (l : Words) (e : Made). IsSource (a_keyword keyword.Version k ∷ a_mark mark.Semicolon b ∷ l) e) u v x y f (h k b)
    at _ b = tt

no_plugin : (k : Option Word) → Sound AfterHeader k (want false (MoreHeaders false) Done)
no_plugin w = λ u v x y h f k s. at_nothing (λ (l : Words) (e : Made). IsSource (header k s ++ l) e) u v x y f (h (header k s) (is_header k s))

pub sound_header : (k : Option Word) → SoundAt AfterHeader k
sound_header = at_each (SoundAt AfterHeader) (no_plugin None) at
  where
    at : (k : TokenKind) (b : List ℕ) → SoundAt AfterHeader (Some (word k b))
    at (kind.Keyword keyword.Plugin) b = λ u v x y h f k s. at_nothing (λ (l : Words) (e : Made). IsSource (with_plugin k s b ++ l) e) u v x y f (h (with_plugin k s b) (is_plugin k s b))
    at k b = no_plugin (Some (word k b))

pub sound_plugin : (k : Option Word) → SoundAt PluginEnd k
sound_plugin = at_each (SoundAt PluginEnd) tt at
  where
    at : (k : TokenKind) (b : List ℕ) → SoundAt PluginEnd (Some (word k b))
    at (kind.Mark mark.Semicolon) b = λ u v x y h f p g.
        at_nothing (λ (l : Words) (e : Made). IsSource (p ++ a_mark mark.Semicolon b ∷ l) e) u v x y f
        (subst (λ (l : Words). IsSource l x) (append_assoc p (a_mark mark.Semicolon b ∷ []) u) (h (p ++ a_mark mark.Semicolon b ∷ []) (g b)))
    at _ b = tt

no_header : (plugin : Bool) (k : Option Word) → Sound (MoreHeaders plugin) k (want false Top (λ x. Done (source_with plugin x)))
no_header plugin k = λ u v x y h f q s.
    at_nothing (λ (l : Words) (e : Made). IsSource (q ++ l) e) u v (source_with plugin x) y f (record { headers = q; others = u; together = refl; spelled_headers = s; behind = h })

pub sound_more_headers : (plugin : Bool) (k : Option Word) → SoundAt (MoreHeaders plugin) k
sound_more_headers plugin = at_each (SoundAt (MoreHeaders plugin)) (no_header plugin None) at
  where
    at : (k : TokenKind) (b : List ℕ) → SoundAt (MoreHeaders plugin) (Some (word k b))
    at (kind.Keyword keyword.Version) b = λ u v x y h f q s. at_nothing (λ (l : Words) (e : Made). IsSource (q ++ a_keyword keyword.Version b ∷ l) e) u v x y f (h q b s)
    at k b = no_header plugin (Some (word k b))

pub sound_next_version : (plugin : Bool) (k : Option Word) → SoundAt (NextVersion plugin) k
sound_next_version plugin = at_each (SoundAt (NextVersion plugin)) tt at
  where
    at : (k : TokenKind) (b : List ℕ) → SoundAt (NextVersion plugin) (Some (word k b))
    at (kind.Mark mark.Semicolon) b = λ u v x y h f q k s. at_nothing (λ (l : Words) (e : Made). IsSource (q ++ a_keyword keyword.Version k ∷ a_mark mark.Semicolon b ∷ l) e) u v x y f (h q k b s)
    at _ b = tt

next_plain : (k : Option Word) → SoundAt (NextHeader false) k
next_plain w = λ u v x y h f q k s g.
    at_nothing (λ (l : Words) (e : Made). IsSource (q ++ (header k s ++ l)) e) u v x y f
    (subst (λ (l : Words). IsSource l x) (append_assoc q (header k s) u) (h (q ++ header k s) (more_headers false q (header k s) g (is_header k s))))

next_plugin : (k : Option Word) → SoundAt (NextHeader true) k
next_plugin = at_each (SoundAt (NextHeader true)) tt at
  where
    at : (k : TokenKind) (b : List ℕ) → SoundAt (NextHeader true) (Some (word k b))
    at (kind.Keyword keyword.Plugin) b = λ u v x y h f q k s g.
        at_nothing (λ (l : Words) (e : Made). IsSource (q ++ (with_plugin k s b ++ l)) e) u v x y f
        (subst (λ (l : Words). IsSource l x) (append_assoc q (with_plugin k s b) u)
        (h (q ++ with_plugin k s b) (λ t. subst (λ (l : Words). SpellsHeaders true l) (sym (append_assoc q (with_plugin k s b) (a_mark mark.Semicolon t ∷ []))) (more_headers true q (with_plugin k s b ++ a_mark mark.Semicolon t ∷ []) g (is_plugin k s b t)))))
    at _ b = tt

pub sound_next_header : (plugin : Bool) (k : Option Word) → SoundAt (NextHeader plugin) k
sound_next_header false k = next_plain k
sound_next_header true k = next_plugin k
