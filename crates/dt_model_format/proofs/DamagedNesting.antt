-- Blobs with a token that may not stand behind those before it.
use Rattle.std.proofs.Common.{ℕ, true, false, List, [], ◌∷◌, ◌++◌, drop, codes, Some, refl, arith}
use Rattle.dt_model.specs.Tree.{Property}
use Rattle.dt_model.specs.Format.{begin_node, end_node, prop, nop, word, IsText, Spells}
use Rattle.dt_model.specs.Samples.{words, blob_with_late_property}
use Rattle.dt_model.specs.Checks.{structure_cut, bad_nesting, late_property, structure_of, StopsAt, IsFirstFault}
use Rattle.dt_model_format.specs.Samples.{one_cell_blob, with_word}
use Rattle.dt_model_format.proofs.Leads.{at}
use Rattle.dt_model_format.proofs.DamagedTokens.{stopped, root_spelled}

-- a strings block that has the name a, and nothing else
abbrev pub a_strings : List ℕ
a_strings = codes "a" ++ 0 ∷ []

abbrev a_cell : Property
a_cell = record { name = codes "a"; value = word 1 }

a_text : IsText (codes "a")
a_text = (λ e. absurd (omega arith), tt)

a_cell_spelled : Spells a_strings (prop a_cell) (words (3 ∷ 4 ∷ 0 ∷ 1 ∷ []))
a_cell_spelled = record {
  offset = 0;
  offset_fits = omega arith;
  length_fits = omega arith;
  named = record { rest = []; stands = refl; text = a_text };
  bytes = record { padding = []; whole = refl; short = omega arith; aligned = refl };
}

abbrev pub a_flag : Property
a_flag = record { name = codes "a"; value = [] }

pub a_flag_spelled : Spells a_strings (prop a_flag) (words (3 ∷ 0 ∷ 0 ∷ []))
a_flag_spelled = record {
  offset = 0;
  offset_fits = omega arith;
  length_fits = omega arith;
  named = record { rest = []; stands = refl; text = a_text };
  bytes = record { padding = []; whole = refl; short = omega arith; aligned = refl };
}

-- END while the root is open
open_at_end : StopsAt a_strings (structure_of (with_word 80 9 one_cell_blob)) 24 bad_nesting
open_at_end = record {
  tokens = begin_node [] ∷ prop a_cell ∷ [];
  before = words (1 ∷ 0 ∷ 3 ∷ 4 ∷ 0 ∷ 1 ∷ []);
  rest = words (9 ∷ 9 ∷ []);
  position = at 1 false 1;
  whole = refl;
  place = refl;
  spelled = (words (1 ∷ 0 ∷ []), words (3 ∷ 4 ∷ 0 ∷ 1 ∷ []), refl, root_spelled a_strings, (words (3 ∷ 4 ∷ 0 ∷ 1 ∷ []), [], refl, a_cell_spelled, refl));
  led = refl;
  wrong = refl;
}

pub nesting_faulted : IsFirstFault (with_word 80 9 one_cell_blob) bad_nesting (Some 80)
nesting_faulted = stopped (with_word 80 9 one_cell_blob) (drop 56 (with_word 80 9 one_cell_blob)) bad_nesting 24 refl refl (λ e. cc) open_at_end

-- a NOP in the place of END
no_end : StopsAt a_strings (structure_of (with_word 84 4 one_cell_blob)) 32 structure_cut
no_end = record {
  tokens = begin_node [] ∷ prop a_cell ∷ end_node ∷ nop ∷ [];
  before = words (1 ∷ 0 ∷ 3 ∷ 4 ∷ 0 ∷ 1 ∷ 2 ∷ 4 ∷ []);
  rest = [];
  position = at 0 true 1;
  whole = refl;
  place = refl;
  spelled = (
    words (1 ∷ 0 ∷ []),
    words (3 ∷ 4 ∷ 0 ∷ 1 ∷ 2 ∷ 4 ∷ []),
    refl,
    root_spelled a_strings,
    (words (3 ∷ 4 ∷ 0 ∷ 1 ∷ []), words (2 ∷ 4 ∷ []), refl, a_cell_spelled, (word 2, word 4, refl, refl, (word 4, [], refl, refl, refl))),
  );
  led = refl;
  wrong = refl;
}

pub no_end_faulted : IsFirstFault (with_word 84 4 one_cell_blob) structure_cut (Some 88)
no_end_faulted = stopped (with_word 84 4 one_cell_blob) (drop 56 (with_word 84 4 one_cell_blob)) structure_cut 32 refl refl (λ e. cc) no_end

-- BEGIN_NODE of a child n
abbrev child_begins : List ℕ
child_begins = words (1 ∷ []) ++ (codes "n" ++ (0 ∷ 0 ∷ 0 ∷ []))

child_spelled : Spells a_strings (begin_node (codes "n")) child_begins
child_spelled = record { text = (λ e. absurd (omega arith), tt); bytes = record { padding = 0 ∷ 0 ∷ []; whole = refl; short = omega arith; aligned = refl } }

behind_child : StopsAt a_strings (structure_of blob_with_late_property) 20 late_property
behind_child = record {
  tokens = begin_node [] ∷ begin_node (codes "n") ∷ end_node ∷ [];
  before = words (1 ∷ 0 ∷ []) ++ (child_begins ++ word 2);
  rest = words (3 ∷ 0 ∷ 0 ∷ 2 ∷ 9 ∷ []);
  position = at 1 true 2;
  whole = refl;
  place = refl;
  spelled = (words (1 ∷ 0 ∷ []), child_begins ++ word 2, refl, root_spelled a_strings, (child_begins, word 2, refl, child_spelled, (word 2, [], refl, refl, refl)));
  led = refl;
  wrong = refl;
}

pub late_faulted : IsFirstFault blob_with_late_property late_property (Some 76)
late_faulted = stopped blob_with_late_property (drop 56 blob_with_late_property) late_property 20 refl refl (λ e. cc) behind_child
