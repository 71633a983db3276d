use Rattle.std.proofs.Common.{◌≡◌, ◌∙◌, sym, ap, ℕ, arith}
use Rattle.dt_flat.specs.declared.chain.Ends.{Ends}
use Rattle.dt_flat.specs.Chain.{mark, ends_at}
use Rattle.dt_flat.proofs.ChainLemmas.{ends-there, mark-none, marked}
use Rattle.dt_flat.proofs.chain.note.Goals as goal

pub returns-then-first-eq0-clause-links : goal.returns-then-first-eq0-clause-links
returns-then-first-eq0-clause-links c =
    let ls = c.args.links.now.items in
    let es = c.args.ends.now.items in
    let o = c.args.owner in
    let here : ends_at es o ≡ c.index.result.now = ends-there es o c.index.result.now (omega (arith, c.requires.owner)) ∙ sym c.index.ensures in
    let none : (ends_at es o).last ≡ 0 = c.requires.alike.0 (ap (λ (e : Ends). e.first) here ∙ c.if-first-eq0.true) in
    sym (ap (λ (k : ℕ). mark 1 ls k c.args.rank) none ∙ mark-none c.args.rank ls)

pub returns-else-first-eq0-clause-links : goal.returns-else-first-eq0-clause-links
returns-else-first-eq0-clause-links c =
    let ls = c.args.links.now.items in
    let es = c.args.ends.now.items in
    let o = c.args.owner in
    let here : ends_at es o ≡ c.index.result.now = ends-there es o c.index.result.now (omega (arith, c.requires.owner)) ∙ sym c.index.ensures in
    let last : (ends_at es o).last ≡ c.index.result.now.last = ap (λ (e : Ends). e.last) here in
    let some : c.index.result.now.last ≡ 0 → ⊥ = λ z. c.if-first-eq0.false (ap (λ (e : Ends). e.first) (sym here) ∙ c.requires.alike.1 (last ∙ z)) in
    marked ls c.index_mut-else-first-eq0.result.now c.index.result.now.last c.args.rank (omega (arith, some)) (omega (arith, last, c.requires.last)) c.index_mut-else-first-eq0.ensures.value
    ∙ ap (λ (k : ℕ). mark 1 ls k c.args.rank) (sym last)
