use Rattle.std.proofs.Common.{ℕ, List, ◌++◌, ◌∷◌, [], ap, ◌∙◌}
use Rattle.dt_names.proofs.PathTexts.{kept_pushed, names_pushed}
use Rattle.dt_names.proofs.path.Path.push.Goals as goal

pub invariant_of-self-2 : goal.invariant_of-self-2
invariant_of-self-2 c =
    kept_pushed c.self.inside.text.items c.add.new.text.items c.args.name.now c.self.inside.count c.self.invariant c.as_bytes.ensures.valid (c.in_ok-add.ensures.ok ∙ ap (λ (n : List ℕ). c.self.inside.text.items ++ 47 ∷ n) c.as_bytes.ensures.value) c.if-self-ge-MOST_NAMES.false

pub returns-clause-ok : goal.returns-clause-ok
returns-clause-ok c =
    names_pushed c.self.inside.text.items c.add.new.text.items c.args.name.now c.self.invariant.names c.as_bytes.ensures.valid (c.in_ok-add.ensures.ok ∙ ap (λ (n : List ℕ). c.self.inside.text.items ++ 47 ∷ n) c.as_bytes.ensures.value)
    ∙ ap (λ (p : List (List ℕ)). p ++ c.args.name.now ∷ []) c.self.view_is
