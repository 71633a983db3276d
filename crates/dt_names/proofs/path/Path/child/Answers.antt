use Rattle.std.proofs.Common.{◌≡◌, ℕ, List, ◌++◌, ◌∷◌, [], ap, ◌∙◌}
use Rattle.dt_names.proofs.PathTexts.{kept_pushed, names_pushed}
use Rattle.dt_names.proofs.path.Path.child.Goals as goal

-- the text that was made is the path's own with the name behind it
with_name : (longer copied text own name : List ℕ) → longer ≡ copied ++ 47 ∷ own → copied ≡ text → own ≡ name → longer ≡ text ++ 47 ∷ name
with_name longer copied text own name e f g = e ∙ ap (λ (t : List ℕ). t ++ 47 ∷ own) f ∙ ap (λ (n : List ℕ). text ++ 47 ∷ n) g

pub invariant_of-result : goal.invariant_of-result
invariant_of-result c =
    let text = c.self.inside.text.items in
    let longer = with_name c.in_ok-text.text.items c.deref.result.now text c.as_bytes.result.now c.args.name.now c.in_ok-text.ensures c.deref.ensures.value c.as_bytes.ensures.value in
    kept_pushed text c.in_ok-text.text.items c.args.name.now c.self.inside.count c.self.invariant c.as_bytes.ensures.valid longer c.if-self-ge-MOST_NAMES.false

pub returns-clause-ok : goal.returns-clause-ok
returns-clause-ok c =
    let text = c.self.inside.text.items in
    let longer = with_name c.in_ok-text.text.items c.deref.result.now text c.as_bytes.result.now c.args.name.now c.in_ok-text.ensures c.deref.ensures.value c.as_bytes.ensures.value in
    names_pushed text c.in_ok-text.text.items c.args.name.now c.self.invariant.names c.as_bytes.ensures.valid longer
    ∙ ap (λ (p : List (List ℕ)). p ++ c.args.name.now ∷ []) c.self.view_is
