use Rattle.std.proofs.Common.{◌≡◌, ◌∙◌, List, ℕ, Bor, true, Some, ap, sym, subst, refl, codes, get_or, []}
use Rattle.std.specs.Str.{bytes_eq}
use Rattle.dt_model.proofs.EventSteps.{bytes_eq-is}
use Rattle.dt_run_streams.proofs.Loading.{any_before, at_name, found_before, name_at}
use Rattle.dt_run_streams.proofs.files.is_again.Goals as goal

none : Bor (List ℕ)
none = record { ref_ptr = (0, 0); now = [] }

is_stdin : (x : Bor (List ℕ)) → x.now ≡ codes "stdin" → bytes_eq x.now (codes "stdin") ≡ true
is_stdin x same = subst (λ (name : List ℕ). bytes_eq name (codes "stdin") ≡ true) (sym same) refl

pub returns-then-eq-clause-again : goal.returns-then-eq-clause-again
returns-then-eq-clause-again c = λ again.
    c.contains.ensures.value ∙ any_before _ c.args.names.now again.earlier c.args.k (codes "stdin") is_stdin again.before again.first

pub returns-then-eq-clause-only : goal.returns-then-eq-clause-only
unfolding none
returns-then-eq-clause-only c = λ contains.
    let found = found_before _ c.args.names.now c.args.k (sym c.contains.ensures.value ∙ contains) in
    let first : found.name.now ≡ codes "stdin" = bytes_eq-is _ _ found.passes in
    let own : (get_or c.args.names.now c.args.k none).now ≡ codes "stdin" = bytes_eq-is _ _ (sym c.eq.ensures ∙ c.if-eq.true) in
    record {
      earlier = found.earlier;
      before = found.before;
      first = found.there ∙ ap Some first;
      again = name_at c.args.names.now c.args.k none c.requires ∙ ap Some own;
    }

pub returns-else-eq-clause-again : goal.returns-else-eq-clause-again
unfolding none
returns-else-eq-clause-again c = λ again. c.eq.ensures ∙ is_stdin (get_or c.args.names.now c.args.k none) (at_name c.args.names.now c.args.k none (codes "stdin") again.again)
