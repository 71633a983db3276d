-- Each source that the grammar spells is a relaxed one that says it, so that tokens are one source's alone.
use Rattle.std.specs.List.{AllByRecursion}
use Rattle.std.proofs.lemmas.List.{append-nil}
use Rattle.dt_model.specs.Valid.{IsReservation}
use Rattle.dt_grammar.specs.Strict.{IsReserve, IsOrdered, IsStrict}
use Rattle.std.proofs.Common.{◌≡◌, ℕ, List, [], ◌∷◌, ◌++◌, length, map, refl, sym, ◌∙◌, ap, subst, append_assoc}
use Rattle.dt_model.specs.Source.{Reference, Part}
use Rattle.dt_lex.specs.declared.token.TokenKind.{TokenKind}
use Rattle.dt_lex.specs.declared.token.TokenKind.TheVariants as kind
use Rattle.dt_grammar.specs.Words.{Word, Words, IsReferenceWord}
use Rattle.dt_grammar.specs.Grammar.{primary, SpellsNumber, SpellsValue, Says, SpellsReservations, no_reservations, reserved, SpellsSource}
use Rattle.dt_grammar.specs.Unchecked.{Target, a_label, a_path, value_or_zero, value_parts, reference_in, RawPlace, RawReserve, RawSource, reserve_of, says_of}
use Rattle.dt_grammar.specs.Relaxed.{a_reference, Behind, no_more_reserves, another_reserve, RelaxedSource}
use Rattle.dt_grammar.proofs.Descent.{deterministic}
use Rattle.dt_grammar.proofs.Expressions.{one_reading}
use Rattle.dt_grammar.proofs.Values.{complete_value}
use Rattle.dt_grammar.proofs.Names.{word_is, labels_of, reference_word}
use Rattle.dt_grammar.proofs.StrictValues.{number_is, strict_number, value_of}
use Rattle.dt_grammar.proofs.StrictStatements.{statements_of}
use Rattle.dt_grammar.proofs.Headers.{one_relaxed}

record BehindOf (us : Words) (rs : List (ℕ × ℕ)) (xs : Words) (ps : List RawPlace) : Type 0 where
  raw : List RawReserve
  relaxed : Behind (us ++ xs) raw ps
  says : map reserve_of raw ≡ rs
  strict : AllByRecursion IsReserve raw

behind_of : {us : Words} {rs : List (ℕ × ℕ)} → SpellsReservations us rs → (xs : Words) (ps : List RawPlace) → Behind xs [] ps → BehindOf us rs xs ps
behind_of no_reservations xs ps b = record { raw = []; relaxed = b; says = refl; strict = tt }
behind_of (reserved us vs ws others k s ls address size rs l g a z e is t) xs ps b =
    let labels = labels_of l in
    let r = behind_of t xs ps b in
    let first : ◌≡◌ {A = ℕ} _ address = number_is a in
    let second : ◌≡◌ {A = ℕ} _ size = number_is z in
    let raw : List RawReserve = record { labels = labels.raw; address_size = length vs; address = a.expression; length_size = length ws; length = z.expression } ∷ r.raw in
    record {
      raw = raw;
      relaxed = subst (λ (x : Words). Behind x raw ps)
          ((λ i. us ++ sym (word_is k _ g) i ∷ (vs ++ (ws ++ sym (word_is s _ e) i ∷ (others ++ xs))))
          ∙ sym (append_assoc us (k ∷ (vs ++ (ws ++ s ∷ others))) xs ∙ ap (λ (x : Words). us ++ k ∷ x) (append_assoc vs (ws ++ s ∷ others) xs ∙ ap (λ (x : Words). vs ++ x) (append_assoc ws (s ∷ others) xs))))
          (another_reserve us vs ws (others ++ xs) k.bytes s.bytes labels.raw a.expression z.expression r.raw ps labels.relaxed a.spelled z.spelled r.relaxed);
      says = λ i. (first i, second i) ∷ r.says i;
      strict = (
        record { labels = labels.strict; address = strict_number a; length = strict_number z; valid = subst IsReservation (λ i. (sym first i, sym second i)) is },
        r.strict,
      );
    }

pub record SourceOf (ws : Words) (s : Says) : Type 0 where
  pub raw : RawSource
  pub relaxed : RelaxedSource ws raw
  pub says : says_of raw ≡ s
  pub strict : IsStrict raw

pub source_of : (ws : Words) (s : Says) → SpellsSource ws s → SourceOf ws s
source_of ws s h =
    let places = statements_of h.spelled_statements in
    let reserves = behind_of h.spelled_reservations h.statements places.raw (no_more_reserves h.statements places.raw places.relaxed) in
    record {
      raw = record { plugin = s.plugin; reserves = reserves.raw; places = places.raw };
      relaxed = record { headers = h.headers; others = h.reserves ++ h.statements; together = h.together; spelled_headers = h.spelled_headers; behind = reserves.relaxed };
      says = λ i. record { plugin = s.plugin; reservations = reserves.says i; places = places.says i };
      strict = record { reserves = reserves.strict; places = places.sound; ordered = subst (IsOrdered []) (append-nil places.raw) (places.ordered [] tt) };
    }

pub one_source : (ws : Words) (s t : Says) → SpellsSource ws s → SpellsSource ws t → s ≡ t
one_source ws s t h k =
    let a = source_of ws s h in
    let b = source_of ws t k in
    sym a.says ∙ ap says_of (one_relaxed ws a.raw b.raw a.relaxed b.relaxed) ∙ b.says

-- ---- its parts

pub one_number : (ws : Words) (m n : ℕ) → SpellsNumber ws m → SpellsNumber ws n → m ≡ n
one_number ws m n s t = sym (number_is s) ∙ ap value_or_zero (one_reading primary ws s.expression t.expression s.spelled t.spelled) ∙ number_is t

pub one_value : (ws : Words) (v u : List Part) → SpellsValue ws v → SpellsValue ws u → v ≡ u
one_value ws v u s t =
    let a = value_of s in
    let b = value_of t in
    let same = deterministic (complete_value a.relaxed [] []) (complete_value b.relaxed [] []) in
    let raw : a.raw ≡ b.raw = cc in
    sym a.says ∙ ap value_parts raw ∙ b.says

target_of : (k : TokenKind) → Target
target_of kind.LabelReference = a_label
target_of _ = a_path

target_is : (w : Word) (t : Target) → w ≡ a_reference t w.bytes → target_of w.kind ≡ t
unfolding target_of
target_is w a_label e = ap (λ (x : Word). target_of x.kind) e
target_is w a_path e = ap (λ (x : Word). target_of x.kind) e

pub one_reference : (w : Word) (r s : Reference) → IsReferenceWord w r → IsReferenceWord w s → r ≡ s
one_reference w r s h k =
    let a = reference_word h in
    let b = reference_word k in
    let same : a.target ≡ b.target = sym (target_is w a.target a.is) ∙ target_is w b.target b.is in
    sym a.says ∙ ap (λ (t : Target). reference_in t w.bytes) same ∙ b.says
