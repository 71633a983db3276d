use Rattle.std.proofs.Common.{ℕ, List, [], ◌∷◌, inl, inr, refl, arith}
use Rattle.dt_lex.specs.Words.{AnyOf, Word, IsLongestWord}
use Rattle.dt_lex.specs.Vocabulary.{IntegerSuffix, suffixes}
use Rattle.dt_lex.proofs.WordLemmas.{word_split, NoneLonger, any_longest}
use Rattle.dt_lex.proofs.word.after_suffix.Goals as goal

is_suffix : (k s t : List ℕ) → (w : List ℕ) × IsLongestWord (Word k) s w t → AnyOf suffixes k → NoneLonger k s suffixes → (w : List ℕ) × IsLongestWord IntegerSuffix s w t
is_suffix k s t l f h = (k, any_longest k s t suffixes (word_split k s t l) f h)

pub returns-in-Some-clause-exact : goal.returns-in-Some-clause-exact
returns-in-Some-clause-exact c = is_suffix (85 ∷ 76 ∷ 76 ∷ []) c.args.text.now c.in-Some.rest.now c.in-Some.ensures.exact (inl refl) (inr (omega arith), (inr (omega arith), (inr (omega arith), (inr (omega arith), (inr (omega arith), (inr (omega arith), tt))))))

pub returns-in-Some-after_word-clause-exact : goal.returns-in-Some-after_word-clause-exact
returns-in-Some-after_word-clause-exact c = is_suffix (85 ∷ 76 ∷ []) c.args.text.now c.in-Some-after_word.rest.now c.in-Some-after_word.ensures.exact (inr (inl refl)) (inl c.in_default.ensures.exact, (inr (omega arith), (inr (omega arith), (inr (omega arith), (inr (omega arith), (inr (omega arith), tt))))))

pub returns-in-Some-after_word-2-clause-exact : goal.returns-in-Some-after_word-2-clause-exact
returns-in-Some-after_word-2-clause-exact c = is_suffix (76 ∷ 76 ∷ []) c.args.text.now c.in-Some-after_word-2.rest.now c.in-Some-after_word-2.ensures.exact (inr (inr (inl refl))) (inl c.in_default.ensures.exact, (inr (omega arith), (inr (omega arith), (inr (omega arith), (inr (omega arith), (inr (omega arith), tt))))))

pub returns-in-Some-after_word-3-clause-exact : goal.returns-in-Some-after_word-3-clause-exact
returns-in-Some-after_word-3-clause-exact c = is_suffix (85 ∷ []) c.args.text.now c.in-Some-after_word-3.rest.now c.in-Some-after_word-3.ensures.exact (inr (inr (inr (inl refl)))) (inl c.in_default.ensures.exact, (inl c.in_default-after_word.ensures.exact, (inl c.in_default-after_word-2.ensures.exact, (inr (omega arith), (inr (omega arith), (inr (omega arith), tt))))))

pub returns-in-Some-after_word-4-clause-exact : goal.returns-in-Some-after_word-4-clause-exact
returns-in-Some-after_word-4-clause-exact c = is_suffix (76 ∷ []) c.args.text.now c.in-Some-after_word-4.rest.now c.in-Some-after_word-4.ensures.exact (inr (inr (inr (inr (inl refl))))) (inl c.in_default.ensures.exact, (inl c.in_default-after_word.ensures.exact, (inl c.in_default-after_word-2.ensures.exact, (inr (omega arith), (inr (omega arith), (inr (omega arith), tt))))))

pub returns-clause-exact : goal.returns-clause-exact
returns-clause-exact c = ([], any_longest [] c.args.text.now c.args.text.now suffixes refl (inr (inr (inr (inr (inr (inl refl)))))) (inl c.in_default.ensures.exact, (inl c.in_default-after_word.ensures.exact, (inl c.in_default-after_word-2.ensures.exact, (inl c.in_default-after_word-3.ensures.exact, (inl c.in_default-after_word-4.ensures.exact, (inr (omega arith), tt)))))))
