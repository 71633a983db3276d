-- Blobs with a tree that no blob may hold.
use Rattle.std.proofs.Common.{ℕ, ◌≤◌, true, List, [], ◌∷◌, ◌++◌, codes, None, refl, arith}
use Rattle.dt_model.specs.Tree.{Property, no_nodes}
use Rattle.dt_model.specs.Format.{begin_node, end_node, prop, word, IsText, Spells}
use Rattle.dt_model.specs.Samples.{words, blob_of}
use Rattle.dt_model.specs.Checks.{duplicate, bad_phandle, IsSpelled, AreApart, AreNumbered, IsFirstFault, in_names, in_phandles}
use Rattle.dt_model.proofs.NameTests.{property_tests}
use Rattle.dt_model_format.proofs.Leads.{at}
use Rattle.dt_model_format.proofs.DamagedTokens.{root_spelled}
use Rattle.dt_model_format.proofs.DamagedNesting.{a_strings, a_flag, a_flag_spelled}

-- ---- two properties of one name

twice_spelled : IsSpelled a_strings (words (1 ∷ 0 ∷ 3 ∷ 0 ∷ 0 ∷ 3 ∷ 0 ∷ 0 ∷ 2 ∷ 9 ∷ [])) (a_flag ∷ a_flag ∷ []) no_nodes
twice_spelled = record {
  tokens = begin_node [] ∷ prop a_flag ∷ prop a_flag ∷ end_node ∷ [];
  end = at 0 true 1;
  spelled = (
    words (1 ∷ 0 ∷ []),
    words (3 ∷ 0 ∷ 0 ∷ 3 ∷ 0 ∷ 0 ∷ 2 ∷ 9 ∷ []),
    refl,
    root_spelled a_strings,
    (
      words (3 ∷ 0 ∷ 0 ∷ []),
      words (3 ∷ 0 ∷ 0 ∷ 2 ∷ 9 ∷ []),
      refl,
      a_flag_spelled,
      (words (3 ∷ 0 ∷ 0 ∷ []), words (2 ∷ 9 ∷ []), refl, a_flag_spelled, (word 2, words (9 ∷ []), refl, refl, (word 9, [], refl, refl, refl))),
    ),
  );
  whole = refl;
  led = refl;
  closed = refl;
  ended = refl;
}

not_apart_twice : AreApart (a_flag ∷ a_flag ∷ []) no_nodes → ⊥
not_apart_twice h = ((h.properties_apart).distinct).0.0 refl

pub twice_faulted : IsFirstFault (blob_of (words (1 ∷ 0 ∷ 3 ∷ 0 ∷ 0 ∷ 3 ∷ 0 ∷ 0 ∷ 2 ∷ 9 ∷ [])) (codes "a" ++ 0 ∷ [])) duplicate None
twice_faulted = in_names refl ([], words (1 ∷ 0 ∷ 3 ∷ 0 ∷ 0 ∷ 3 ∷ 0 ∷ 0 ∷ 2 ∷ 9 ∷ []) ++ a_strings, tt, refl) (a_flag ∷ a_flag ∷ []) no_nodes twice_spelled not_apart_twice

-- ---- a property `phandle` with the number 0

abbrev phandle_strings : List ℕ
phandle_strings = codes "phandle" ++ 0 ∷ []

abbrev zero_phandle : Property
zero_phandle = record { name = codes "phandle"; value = word 0 }

phandle_text : IsText (codes "phandle")
phandle_text = (λ e. absurd (omega arith), (λ e. absurd (omega arith), (λ e. absurd (omega arith), (λ e. absurd (omega arith), (λ e. absurd (omega arith), (λ e. absurd (omega arith), (λ e. absurd (omega arith), tt)))))))

zero_phandle_spelled : Spells phandle_strings (prop zero_phandle) (words (3 ∷ 4 ∷ 0 ∷ 0 ∷ []))
zero_phandle_spelled = record {
  offset = 0;
  offset_fits = omega arith;
  length_fits = omega arith;
  named = record { rest = []; stands = refl; text = phandle_text };
  bytes = record { padding = []; whole = refl; short = omega arith; aligned = refl };
}

phandle_spelled : IsSpelled phandle_strings (words (1 ∷ 0 ∷ 3 ∷ 4 ∷ 0 ∷ 0 ∷ 2 ∷ 9 ∷ [])) (zero_phandle ∷ []) no_nodes
phandle_spelled = record {
  tokens = begin_node [] ∷ prop zero_phandle ∷ end_node ∷ [];
  end = at 0 true 1;
  spelled = (
    words (1 ∷ 0 ∷ []),
    words (3 ∷ 4 ∷ 0 ∷ 0 ∷ 2 ∷ 9 ∷ []),
    refl,
    root_spelled phandle_strings,
    (words (3 ∷ 4 ∷ 0 ∷ 0 ∷ []), words (2 ∷ 9 ∷ []), refl, zero_phandle_spelled, (word 2, words (9 ∷ []), refl, refl, (word 9, [], refl, refl, refl))),
  );
  whole = refl;
  led = refl;
  closed = refl;
  ended = refl;
}

phandle_apart : AreApart (zero_phandle ∷ []) no_nodes
phandle_apart = record {
  properties_apart = record { named = ((property_tests (codes "phandle")).0 refl, tt); distinct = (tt, tt) };
  nodes_apart = tt;
  siblings_apart = tt;
}

not_numbered : AreNumbered (zero_phandle ∷ []) no_nodes → ⊥
not_numbered h = let low : ◌≤◌ 1 0 = ((h.valid).0).low in omega arith

pub phandle_faulted : IsFirstFault (blob_of (words (1 ∷ 0 ∷ 3 ∷ 4 ∷ 0 ∷ 0 ∷ 2 ∷ 9 ∷ [])) (codes "phandle" ++ 0 ∷ [])) bad_phandle None
phandle_faulted = in_phandles refl ([], words (1 ∷ 0 ∷ 3 ∷ 4 ∷ 0 ∷ 0 ∷ 2 ∷ 9 ∷ []) ++ phandle_strings, tt, refl) (zero_phandle ∷ []) no_nodes phandle_spelled phandle_apart not_numbered
