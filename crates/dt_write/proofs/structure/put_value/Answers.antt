use Rattle.std.proofs.Common.{◌≡◌, ◌++◌, [], List, ℕ, length, append_assoc, ap, ◌∙◌}
use Rattle.std.proofs.lemmas.List.{append-nil}
use Rattle.std.proofs.lemmas.Result.{on_ok_weaker}
use Rattle.dt_model.specs.Format.{word}
use Rattle.dt_write.specs.Written.{zeros_after}
use Rattle.dt_write.proofs.structure.put_value.Goals as goal

three_put : (a w1 w2 w3 value zeros x1 x2 x3 : List ℕ) → x1 ≡ a ++ (w1 ++ (w2 ++ (w3 ++ []))) → x2 ≡ x1 ++ value → x3 ≡ x2 ++ zeros → x3 ≡ a ++ (w1 ++ w2 ++ w3 ++ value ++ zeros)
three_put a w1 w2 w3 value zeros x1 x2 x3 e1 e2 e3 =
    e3 ∙ ap (λ (t : List ℕ). t ++ zeros) (e2 ∙ ap (λ (t : List ℕ). t ++ value) (e1 ∙ ap (λ (t : List ℕ). a ++ (w1 ++ (w2 ++ t))) (append-nil w3))) ∙ simp append_assoc

pub returns : goal.returns
returns c =
    let size = length c.args.value.now in
    on_ok_weaker c.put_zeros.result (λ e. three_put c.args.out.now.items (word 3) (word size) (word c.args.offset) c.args.value.now (zeros_after size)
    c.put_words.new.out.items c.extend_from_slice.new.self.items c.put_zeros.new.out.items
    c.in_ok-put_words.ensures c.in_ok-extend_from_slice.ensures.items e) c.put_zeros.ensures
