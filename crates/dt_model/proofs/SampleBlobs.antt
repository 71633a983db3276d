-- What the definition of the format says of some blobs.
use Rattle.std.proofs.Common.{◌≡◌, ℕ, List, [], ◌∷◌, ◌++◌, length, codes, refl, ap, subst, ◌∙◌, arith}
use Rattle.std.proofs.lemmas.List.Elements.{All-from_recursion}
use Rattle.std.proofs.lemmas.List.{append_cancel_right}
use Rattle.std.specs.Prelude.{IsTrue}
use Rattle.dt_model.specs.Names.{IsPropertyName, is_name_byte}
use Rattle.dt_model.specs.Tree.{Property, Forest, no_nodes, branch, Node, Reading}
use Rattle.dt_model.specs.Valid.{IsValid}
use Rattle.dt_model.specs.Format.{Token, begin_node, end_node, prop, nop, end_tree, word, IsText, Spells, SpellsAll, SpellsTree, tokens_of, without_nops, part, Header, HasHeader, Reads}
use Rattle.dt_model.specs.Parsing.{tree_of_tokens}
use Rattle.dt_model.specs.Samples.{words, one_cell, blob_with_nops, blob_with_suffix, blob_with_late_property}
use Rattle.dt_model.proofs.Lexed.{spelled_once}
use Rattle.dt_model.proofs.Parsed.{tree_again}
use Rattle.dt_model.proofs.Blobs.{same_header}

a_name : IsPropertyName (codes "a")
a_name = record {
  not_empty = omega arith;
  short = omega arith;
  allowed = All-from_recursion (λ b. IsTrue (is_name_byte b)) (codes "a") (refl, tt);
}

one_cell_valid : IsValid one_cell
one_cell_valid = record {
  boot_cpu = omega arith;
  reservations = tt;
  properties = record { named = (a_name, tt); distinct = (tt, tt) };
  nodes = tt;
  siblings = tt;
  phandles_valid = tt;
  phandles_distinct = tt;
}

a_text : IsText (codes "a")
a_text = (λ e. absurd (omega arith), tt)

root_spelled : (strings : List ℕ) → Spells strings (begin_node []) (words (1 ∷ 0 ∷ []))
root_spelled strings = record { text = tt; bytes = record { padding = 0 ∷ 0 ∷ 0 ∷ []; whole = refl; short = omega arith; aligned = refl } }

pub nops_read : Reads blob_with_nops one_cell
nops_read = record {
  header = record { total_size = 106; structure_offset = 56; strings_offset = 104; reservations_offset = 40; version = 17; last_compatible_version = 16; boot_cpu = 0; strings_size = 2; structure_size = 48 };
  words = record { magic = refl; total_size = refl; structure_offset = refl; strings_offset = refl; reservations_offset = refl; version = refl; last_compatible_version = refl; boot_cpu = refl; strings_size = refl; structure_size = refl };
  sound = record { holds_header = omega arith; inside = omega arith; version = omega arith; last_compatible_version = omega arith; reservations_aligned = refl; structure_aligned = refl; structure_inside = omega arith; strings_inside = omega arith };
  boot_cpu = refl;
  behind = words (4 ∷ 1 ∷ 0 ∷ 4 ∷ 3 ∷ 4 ∷ 0 ∷ 1 ∷ 4 ∷ 2 ∷ 4 ∷ 9 ∷ []) ++ (codes "a" ++ 0 ∷ []);
  reservations = refl;
  structure = record {
    tokens = nop ∷ begin_node [] ∷ nop ∷ prop (record { name = codes "a"; value = word 1 }) ∷ nop ∷ end_node ∷ nop ∷ [];
    spelled = (
      word 4,
      words (1 ∷ 0 ∷ 4 ∷ 3 ∷ 4 ∷ 0 ∷ 1 ∷ 4 ∷ 2 ∷ 4 ∷ 9 ∷ []),
      refl,
      refl,
      (
        words (1 ∷ 0 ∷ []),
        words (4 ∷ 3 ∷ 4 ∷ 0 ∷ 1 ∷ 4 ∷ 2 ∷ 4 ∷ 9 ∷ []),
        refl,
        root_spelled (codes "a" ++ 0 ∷ []),
        (
          word 4,
          words (3 ∷ 4 ∷ 0 ∷ 1 ∷ 4 ∷ 2 ∷ 4 ∷ 9 ∷ []),
          refl,
          refl,
          (
            words (3 ∷ 4 ∷ 0 ∷ 1 ∷ []),
            words (4 ∷ 2 ∷ 4 ∷ 9 ∷ []),
            refl,
            property_at_0,
            (
              word 4,
              words (2 ∷ 4 ∷ 9 ∷ []),
              refl,
              refl,
              (
                word 2,
                words (4 ∷ 9 ∷ []),
                refl,
                refl,
                (
                  word 4,
                  words (9 ∷ []),
                  refl,
                  refl,
                  (word 9, [], refl, refl, refl),
                ),
              ),
            ),
          ),
        ),
      ),
    );
    whole = refl;
  };
  valid = one_cell_valid;
}
  where
    property_at_0 : Spells (codes "a" ++ 0 ∷ []) (prop (record { name = codes "a"; value = word 1 })) (words (3 ∷ 4 ∷ 0 ∷ 1 ∷ []))
    property_at_0 = record {
      offset = 0;
      offset_fits = omega arith;
      length_fits = omega arith;
      named = record { rest = []; stands = refl; text = a_text };
      bytes = record { padding = []; whole = refl; short = omega arith; aligned = refl };
    }

pub suffix_read : Reads blob_with_suffix one_cell
suffix_read = record {
  header = record { total_size = 91; structure_offset = 56; strings_offset = 88; reservations_offset = 40; version = 17; last_compatible_version = 16; boot_cpu = 0; strings_size = 3; structure_size = 32 };
  words = record { magic = refl; total_size = refl; structure_offset = refl; strings_offset = refl; reservations_offset = refl; version = refl; last_compatible_version = refl; boot_cpu = refl; strings_size = refl; structure_size = refl };
  sound = record { holds_header = omega arith; inside = omega arith; version = omega arith; last_compatible_version = omega arith; reservations_aligned = refl; structure_aligned = refl; structure_inside = omega arith; strings_inside = omega arith };
  boot_cpu = refl;
  behind = words (1 ∷ 0 ∷ 3 ∷ 4 ∷ 1 ∷ 1 ∷ 2 ∷ 9 ∷ []) ++ (codes "ba" ++ 0 ∷ []);
  reservations = refl;
  structure = record {
    tokens = begin_node [] ∷ prop (record { name = codes "a"; value = word 1 }) ∷ end_node ∷ [];
    spelled = (
      words (1 ∷ 0 ∷ []),
      words (3 ∷ 4 ∷ 1 ∷ 1 ∷ 2 ∷ 9 ∷ []),
      refl,
      root_spelled (codes "ba" ++ 0 ∷ []),
      (
        words (3 ∷ 4 ∷ 1 ∷ 1 ∷ []),
        words (2 ∷ 9 ∷ []),
        refl,
        property_at_1,
        (
          word 2,
          words (9 ∷ []),
          refl,
          refl,
          (word 9, [], refl, refl, refl),
        ),
      ),
    );
    whole = refl;
  };
  valid = one_cell_valid;
}
  where
    property_at_1 : Spells (codes "ba" ++ 0 ∷ []) (prop (record { name = codes "a"; value = word 1 })) (words (3 ∷ 4 ∷ 1 ∷ 1 ∷ []))
    property_at_1 = record {
      offset = 1;
      offset_fits = omega arith;
      length_fits = omega arith;
      named = record { rest = []; stands = refl; text = a_text };
      bytes = record { padding = []; whole = refl; short = omega arith; aligned = refl };
    }

-- the blob with a property behind a child

late_header : Header
late_header = record { total_size = 98; structure_offset = 56; strings_offset = 96; reservations_offset = 40; version = 17; last_compatible_version = 16; boot_cpu = 0; strings_size = 2; structure_size = 40 }

late_words : HasHeader blob_with_late_property late_header
unfolding late_header
late_words = record { magic = refl; total_size = refl; structure_offset = refl; strings_offset = refl; reservations_offset = refl; version = refl; last_compatible_version = refl; boot_cpu = refl; strings_size = refl; structure_size = refl }

abbrev late_tokens : List Token
late_tokens = begin_node [] ∷ begin_node (codes "n") ∷ end_node ∷ prop (record { name = codes "a"; value = [] }) ∷ end_node ∷ []

abbrev late_structure : List ℕ
late_structure = words (1 ∷ 0 ∷ 1 ∷ []) ++ (codes "n" ++ (0 ∷ 0 ∷ 0 ∷ words (2 ∷ 3 ∷ 0 ∷ 0 ∷ 2 ∷ 9 ∷ [])))

late_spelled : SpellsAll (codes "a" ++ 0 ∷ []) (late_tokens ++ end_tree ∷ []) late_structure
late_spelled = (
  words (1 ∷ 0 ∷ []),
  words (1 ∷ []) ++ (codes "n" ++ (0 ∷ 0 ∷ 0 ∷ words (2 ∷ 3 ∷ 0 ∷ 0 ∷ 2 ∷ 9 ∷ []))),
  refl,
  root_spelled (codes "a" ++ 0 ∷ []),
  (
    words (1 ∷ []) ++ (codes "n" ++ (0 ∷ 0 ∷ 0 ∷ [])),
    words (2 ∷ 3 ∷ 0 ∷ 0 ∷ 2 ∷ 9 ∷ []),
    refl,
    child,
    (
      word 2,
      words (3 ∷ 0 ∷ 0 ∷ 2 ∷ 9 ∷ []),
      refl,
      refl,
      (
        words (3 ∷ 0 ∷ 0 ∷ []),
        words (2 ∷ 9 ∷ []),
        refl,
        late,
        (
          word 2,
          words (9 ∷ []),
          refl,
          refl,
          (word 9, [], refl, refl, refl),
        ),
      ),
    ),
  ),
)
  where
    child : Spells (codes "a" ++ 0 ∷ []) (begin_node (codes "n")) (words (1 ∷ []) ++ (codes "n" ++ (0 ∷ 0 ∷ 0 ∷ [])))
    child = record { text = (λ e. absurd (omega arith), tt); bytes = record { padding = 0 ∷ 0 ∷ []; whole = refl; short = omega arith; aligned = refl } }

    late : Spells (codes "a" ++ 0 ∷ []) (prop (record { name = codes "a"; value = [] })) (words (3 ∷ 0 ∷ 0 ∷ []))
    late = record {
      offset = 0;
      offset_fits = omega arith;
      length_fits = omega arith;
      named = record { rest = []; stands = refl; text = a_text };
      bytes = record { padding = []; whole = refl; short = omega arith; aligned = refl };
    }

-- these tokens are no tree's
late_no_tree : (ps : List Property) (cs : Forest) → late_tokens ≡ tokens_of ps cs → ⊥
late_no_tree ps cs e =
    let root : ◌≡◌ {A = Node} (tree_of_tokens (late_tokens ++ [])) (record { properties = ps; children = cs }) = ap (λ (s : List Token). tree_of_tokens (s ++ [])) e ∙ tree_again ps cs [] in
    let properties : [] ≡ ps = ap (λ (n : Node). n.properties) root in
    let children : branch (codes "n") [] no_nodes no_nodes ≡ cs = ap (λ (n : Node). n.children) root in
    let five : 5 ≡ length (tokens_of ps cs) = ap length e in
    let four : 4 ≡ length (tokens_of ps cs) = ap (λ (qs : List Property). length (tokens_of qs (branch (codes "n") [] no_nodes no_nodes))) properties ∙ ap (λ (f : Forest). length (tokens_of ps f)) children in
    omega arith

pub late_unread : (t : Reading) → Reads blob_with_late_property t → ⊥
unfolding late_header
late_unread t r =
    let same : r.header ≡ late_header = same_header blob_with_late_property r.header late_header r.words late_words in
    let s : SpellsTree (codes "a" ++ 0 ∷ []) t.properties t.children late_structure =
    subst (λ (h : Header). SpellsTree (part h.strings_offset h.strings_size blob_with_late_property) t.properties t.children (part h.structure_offset h.structure_size blob_with_late_property)) same r.structure in
    let tokens : late_tokens ≡ s.tokens = append_cancel_right late_tokens s.tokens (end_tree ∷ []) (spelled_once (codes "a" ++ 0 ∷ []) (late_tokens ++ end_tree ∷ []) (s.tokens ++ end_tree ∷ []) late_structure late_spelled s.spelled) in
    late_no_tree t.properties t.children (ap without_nops tokens ∙ s.whole)
