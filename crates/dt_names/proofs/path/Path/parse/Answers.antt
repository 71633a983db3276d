use Rattle.std.proofs.Common.{rules, ◌≡◌, ◌≢◌, ℕ, ◌<◌, ◌≤◌, List, length, codes, sym, ap, ◌∙◌, subst, arith}
use Rattle.std.proofs.lemmas.Result.{err_from_is_err_and}
use Rattle.dt_model.specs.Path.{Path, path_text}
use Rattle.dt_names.specs.Paths.{IsPathOf, WhyNoPath, names_in}
use Rattle.dt_names.specs.declared.fault.FaultKind.{FaultKind}
use Rattle.dt_names.proofs.PathTexts.{path_some, path_of_names, names_of_path}
use Rattle.dt_names.proofs.path.Path.parse.Goals as goal

pub returns-then-is_empty-clause-refused : goal.returns-then-is_empty-clause-refused
returns-then-is_empty-clause-refused c =
    let text = c.args.text.now in
    let none : length text ≡ 0 = search rules in
    let no_path : (p : Path) → IsPathOf text p → ⊥ = λ p i. omega (arith, none, path_some p, ap length i.written) in
    (subst (λ (kind : FaultKind). WhyNoPath kind text) (sym c.of.ensures.kind) no_path, c.of.ensures.at)

pub returns-in_default-clause-refused : goal.returns-in_default-clause-refused
returns-in_default-clause-refused c =
    let text = c.args.text.now in
    let other : text ≢ codes "/" = search rules in
    let no_path : (p : Path) → IsPathOf text p → ⊥ = λ p i. c.in_default.ensures (names_of_path text p i other) in
    (subst (λ (kind : FaultKind). WhyNoPath kind text) (sym c.of-in_default.ensures.kind) no_path, c.of-in_default.ensures.at)

pub returns-then-count-gt-MOST_NAMES-clause-refused : goal.returns-then-count-gt-MOST_NAMES-clause-refused
returns-then-count-gt-MOST_NAMES-clause-refused c =
    let text = c.args.text.now in
    let some : 0 < length text = search rules in
    let more : 64 < length (names_in text) = omega (arith, c.in-Some.ensures.1, c.if-count-gt-MOST_NAMES.true) in
    let long : (p : Path) × IsPathOf text p × (64 < length p) =
    (names_in text, path_of_names text c.in-Some.ensures.0 some, more) in
    (subst (λ (kind : FaultKind). WhyNoPath kind text) (sym c.of-then-count-gt-MOST_NAMES.ensures.kind) long, c.of-then-count-gt-MOST_NAMES.ensures.at)

pub returns-in_err-text-clause-refused : goal.returns-in_err-text-clause-refused
returns-in_err-text-clause-refused c =
    let text = c.args.text.now in
    let some : 0 < length text = search rules in
    let few : length (names_in text) ≤ 64 = omega (arith, c.in-Some.ensures.1, c.if-count-gt-MOST_NAMES.false) in
    let fits : (p : Path) × IsPathOf text p × (length p ≤ 64) =
    (names_in text, path_of_names text c.in-Some.ensures.0 some, few) in
    let e = err_from_is_err_and c.from_residual.result c.from_residual.ensures.1 in
    rw e.1 (subst (λ (kind : FaultKind). WhyNoPath kind text) (sym e.2.0) fits, e.2.1)

pub returns-clause-text : goal.returns-clause-text
returns-clause-text c =
    let text = c.args.text.now in
    let some : 0 < length text = search rules in
    (path_of_names text c.in-Some.ensures.0 some).written ∙ ap (λ (t : List ℕ). path_text (names_in t)) (sym c.in_ok-text.ensures.items)
