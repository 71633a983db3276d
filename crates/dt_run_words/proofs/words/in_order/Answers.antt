use Rattle.std.proofs.Common.{rules, ◌≡◌, ◌∷◌, Bor, ap, map, option_map}
use Rattle.clap.specs.Words.{Text}
use Rattle.dt_run_words.proofs.words.in_order.Goals as goal

pub returns : goal.returns
returns c =
    let items : c.extend_from_slice.new.self.items ≡ c.in-Some.first ∷ c.args.others.now = search rules in
    (c.in-Some.first.now, ap (option_map (λ (file : Bor Text). file.now)) c.in-Some.is, ap (map (λ (file : Bor Text). file.now)) items)
