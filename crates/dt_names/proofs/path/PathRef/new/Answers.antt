use Rattle.std.proofs.Common.{rules, ◌≡◌, ◌≢◌, ◌<◌, length, codes, ap, arith}
use Rattle.dt_names.proofs.PathTexts.{path_some, names_of_path, other_path}
use Rattle.dt_names.proofs.path.PathRef.new.Goals as goal

pub returns-then-is_empty : goal.returns-then-is_empty
returns-then-is_empty c =
    let text = c.args.text.now in
    let none : length text ≡ 0 = search rules in
    λ path i. omega (arith, none, path_some path, ap length i.written)

pub returns-in_err-count_names : goal.returns-in_err-count_names
returns-in_err-count_names c =
    let text = c.args.text.now in
    let other : text ≢ codes "/" = search rules in
    rw c.from_residual.ensures (λ path i. c.in_err-count_names.ensures (names_of_path text path i other))

pub invariant_of-result-2 : goal.invariant_of-result-2
invariant_of-result-2 c =
    let text = c.args.text.now in
    let some : 0 < length text = search rules in
    let other : text ≢ codes "/" = search rules in
    other_path text (search rules) some other

pub returns : goal.returns
returns c =
    let text = c.args.text.now in
    let some : 0 < length text = search rules in
    let other : text ≢ codes "/" = search rules in
    other_path text (search rules) some other
