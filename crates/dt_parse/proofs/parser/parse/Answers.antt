use Rattle.std.proofs.Common.{subst, sym, ap, arith, ◌∙◌, rules, ◌≡◌, ◌-◌, [], List, drop, length}
use Rattle.std.specs.List.{AllByRecursion}
use Rattle.dt_names.specs.declared.fault.FaultKind.TheVariants.{NoMemory}
use Rattle.dt_grammar.specs.Words.{Words, words_of}
use Rattle.dt_grammar.specs.Wanted.{made_source, Whole}
use Rattle.dt_grammar.specs.Descent.{found, Descends}
use Rattle.dt_grammar.specs.Faults.{outside}
use Rattle.dt_parse.specs.Reading.{IsInside, IsBroken, IsBroken}
use Rattle.dt_grammar.specs.Parsed.{IsTagged, token_place, told_at, unlexed}
use Rattle.dt_parse.proofs.parser.parse.Goals as goal
use Rattle.dt_lex.specs.declared.token.Token.{Token}
use Rattle.dt_lex.specs.Lexing.{WhyNotLexed}
use Rattle.dt_grammar.specs.Grammar.{SpellsSource}
use Rattle.std.proofs.lemmas.Result.{err_from_is_err_and}
use Rattle.dt_grammar.specs.WordBytes.{HaveBytes}
use Rattle.dt_parse.proofs.LexedBytes.{lexed_have_bytes}
use Rattle.dt_parse.proofs.Parsing.{all_inside, source_spelled, why_untagged, why_broken, source_kind}

pub returns-in_err-tokens-clause-err : goal.returns-in_err-tokens-clause-err
returns-in_err-tokens-clause-err c =
    let e = err_from_is_err_and c.from_residual.result c.from_residual.ensures.1 in
    rw e.1 (unlexed e.0 (subst (WhyNotLexed c.args.text.now) (sym e.2) c.in_err-tokens.ensures.err))

pub new-cursor-requires : goal.new-cursor-requires
new-cursor-requires c = subst (AllByRecursion (IsInside (length c.args.text.now))) (sym c.as_slice.ensures.value) (all_inside 0 (length c.args.text.now) c.in_ok-tokens.tokens.items c.in_ok-tokens.ensures.spans)

pub returns-then-not-is_tagged-clause-err : goal.returns-then-not-is_tagged-clause-err
returns-then-not-is_tagged-clause-err c =
    let ws = c.new-cursor.ensures ∙ ap (words_of c.args.text.now) c.as_slice.ensures.value in
    why_untagged c.args.text.now c.in_ok-tokens.tokens.items c.at.result c.in_ok-tokens.ensures.ok.0 c.in_ok-tokens.ensures.ok.1
    (λ t. search (rules, c.is_tagged.ensures.1 (subst IsTagged (sym ws) t), c.if-not-is_tagged.true)) c.at.ensures.kind c.at.ensures.at

pub source-requires : goal.source-requires
source-requires c =
    let ws = c.new-cursor.ensures ∙ ap (words_of c.args.text.now) c.as_slice.ensures.value in
    subst HaveBytes (sym ws) (lexed_have_bytes c.args.text.now c.in_ok-tokens.tokens.items (λ i. omega (arith, c.type_inv.text i)) c.in_ok-tokens.ensures.ok.1)

pub returns-in-Ok-clause-ok : goal.returns-in-Ok-clause-ok
returns-in-Ok-clause-ok c =
    let ws = c.new-cursor.ensures ∙ ap (words_of c.args.text.now) c.as_slice.ensures.value in
    let r = c.in-Ok.ensures.ok in
    record {
      size = c.in_ok-tokens.ensures.ok.0;
      tokens = c.in_ok-tokens.tokens.items;
      lexed = c.in_ok-tokens.ensures.ok.1;
      spelled = subst (SpellsSource (words_of c.args.text.now c.in_ok-tokens.tokens.items)) (sym r.2)
          (source_spelled _ r.0 (subst (λ (x : Words). Descends Whole x (found (made_source r.0) [])) ws r.1.read) r.1.fine);
    }

pub returns-clause-err : goal.returns-clause-err
returns-clause-err c =
    let ws = c.new-cursor.ensures ∙ ap (words_of c.args.text.now) c.as_slice.ensures.value in
    let tagged = subst IsTagged ws (c.is_tagged.ensures.0 (search (rules, c.if-not-is_tagged.false))) in
    let broken = subst (λ (x : Words). IsBroken outside Whole x c.in-Err.stop) ws c.in-Err.ensures.err in
    let told = λ (h : ¬ c.in-Err.stop.kind ≡ NoMemory). c.fault_of.ensures.told h ∙ ap (λ (ts : List Token). record { kind = c.in-Err.stop.kind; at = told_at c.in-Err.stop.kind (token_place c.args.text.now (drop (length ts - c.in-Err.stop.left) ts)) }) c.as_slice-in-Err.ensures.value in
    why_broken c.args.text.now c.in_ok-tokens.tokens.items c.in-Err.stop c.fault_of.result c.in_ok-tokens.ensures.ok.0 c.in_ok-tokens.ensures.ok.1 tagged broken
    (record { memory = c.fault_of.ensures.memory; told = told })

-- ---- the kinds of its faults

pub returns-in_err-tokens-clause-kinds : goal.returns-in_err-tokens-clause-kinds
returns-in_err-tokens-clause-kinds c =
    let e = err_from_is_err_and c.from_residual.result c.from_residual.ensures.1 in
    rw e.1 (source_kind c.args.text.now e.0 (unlexed e.0 (subst (WhyNotLexed c.args.text.now) (sym e.2) c.in_err-tokens.ensures.err)))

pub returns-then-not-is_tagged-clause-kinds : goal.returns-then-not-is_tagged-clause-kinds
returns-then-not-is_tagged-clause-kinds c = source_kind c.args.text.now c.at.result (returns-then-not-is_tagged-clause-err c)

pub returns-clause-kinds : goal.returns-clause-kinds
returns-clause-kinds c = source_kind c.args.text.now c.fault_of.result (returns-clause-err c)
