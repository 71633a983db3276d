use Rattle.std.proofs.Common.{◌≡◌, ℕ, [], ◌∷◌, ◌++◌, bit_xor, refl, ap, ◌∙◌}
use Rattle.std.specs.Hash as fed
use Rattle.std.specs.Hash.FoldHasher as folding
use Rattle.std.specs.List.{fold}
use Rattle.dt_read.specs.Keys.{number_of}
use Rattle.dt_read.specs.Classes.{hash_of}
use Rattle.dt_read.specs.declared.keys.Sort.{Sort}
use Rattle.dt_read.specs.declared.keys.Sort.TheVariants.{Child, Property, Phandle}
use Rattle.dt_read.specs.contracts.keys.Sort as sort
use Rattle.dt_read.specs.declared.keys.Key.{Key}
use denote.Enum.Declared.{tag_of}
use Rattle.dt_read.proofs.distinct.hashed.Goals as goal

number_is : (s : Sort) → tag_of sort.the_type s ≡ number_of s
number_is Child = refl
number_is Property = refl
number_is Phandle = refl

abbrev feed : ℕ → Key → ℕ → fed.HashWrites
feed seed k n = fed.u64 (bit_xor seed k.owner) ++ (fed.usize n ++ k.bytes.now ∷ [])

pub returns : goal.returns
unfolding hash_of
returns c =
    let k = c.args.key.now in
    let tag = tag_of sort.the_type k.sort in
    c.finish.ensures
    ∙ ap folding.finish c.write.ensures
    ∙ ap (λ s. folding.finish (folding.write s k.bytes.now)) c.hash.ensures
    ∙ ap (λ s. folding.finish (fold folding.write s (fed.usize tag ++ k.bytes.now ∷ []))) c.write_u64.ensures
    ∙ ap (λ s. folding.finish (fold folding.write s (feed c.args.seed k tag))) c.default-hasher.ensures
    ∙ ap (λ n. folding.finish (fold folding.write folding.initial (feed c.args.seed k n))) (number_is k.sort)
