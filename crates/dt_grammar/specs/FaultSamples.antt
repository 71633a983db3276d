-- Small sources with a fault, cut in two at its place: the tokens before it, and those from there on.
use Rattle.std.specs.Prelude.{ℕ, zero, suc, List, [], ◌∷◌, ◌++◌, codes}
use Rattle.dt_names.specs.declared.fault.FaultKind.{FaultKind}
use Rattle.dt_names.specs.declared.fault.FaultKind.TheVariants as fault
use Rattle.dt_lex.specs.declared.token.TokenKind.TheVariants as kind
use Rattle.dt_lex.specs.declared.token.Mark.TheVariants as mark
use Rattle.dt_lex.specs.declared.token.Keyword.TheVariants as keyword
use Rattle.dt_grammar.specs.Words.{Word, Words}
use Rattle.dt_grammar.specs.Relaxed.{word, a_mark, a_keyword}
use Rattle.dt_grammar.specs.Wanted.{Whole}
use Rattle.dt_grammar.specs.Faults.{outside, Breaks}

-- read from left to right, the tokens of both lists have this fault first, and it shows at the first token of the second list
abbrev pub FirstFault : Words → Words → FaultKind → Type 0
FirstFault before left k = Breaks outside Whole (before ++ left) k left

-- ---- tokens

abbrev pub version : Word
version = a_keyword keyword.Version (codes "/dts-v1/")

abbrev pub memreserve : Word
memreserve = a_keyword keyword.Memreserve (codes "/memreserve/")

abbrev pub bits : Word
bits = a_keyword keyword.Bits (codes "/bits/")

abbrev pub delete_property : Word
delete_property = a_keyword keyword.DeleteProperty (codes "/delete-property/")

abbrev pub delete_node : Word
delete_node = a_keyword keyword.DeleteNode (codes "/delete-node/")

abbrev pub semicolon : Word
semicolon = a_mark mark.Semicolon (codes ";")

abbrev pub slash : Word
slash = a_mark mark.Slash (codes "/")

abbrev pub equals : Word
equals = a_mark mark.Equals (codes "=")

abbrev pub opening : Word
opening = a_mark mark.OpenBrace (codes "{")

abbrev pub closing : Word
closing = a_mark mark.CloseBrace (codes "}")

abbrev pub less : Word
less = a_mark mark.Less (codes "<")

abbrev pub greater : Word
greater = a_mark mark.Greater (codes ">")

abbrev pub left_bracket : Word
left_bracket = a_mark mark.OpenBracket (codes "[")

abbrev pub right_bracket : Word
right_bracket = a_mark mark.CloseBracket (codes "]")

abbrev pub left_parenthesis : Word
left_parenthesis = a_mark mark.OpenParenthesis (codes "(")

abbrev pub right_parenthesis : Word
right_parenthesis = a_mark mark.CloseParenthesis (codes ")")

abbrev pub plus : Word
plus = a_mark mark.Plus (codes "+")

abbrev pub minus : Word
minus = a_mark mark.Minus (codes "-")

abbrev pub name : List ℕ → Word
name bytes = word kind.Name bytes

abbrev pub number : ℕ → List ℕ → Word
number n digits = word (kind.Integer n) digits

abbrev pub label : List ℕ → Word
label bytes = word kind.Label bytes

abbrev pub reference : List ℕ → Word
reference bytes = word kind.LabelReference bytes

-- ---- pieces of sources

-- `/dts-v1/; / {`
abbrev pub in_root : Words
in_root = version ∷ semicolon ∷ slash ∷ opening ∷ []

-- `};`
abbrev pub end_of_body : Words
end_of_body = closing ∷ semicolon ∷ []

-- `/dts-v1/; / { b { };`
abbrev pub behind_child : Words
behind_child = in_root ++ name (codes "b") ∷ opening ∷ end_of_body

-- `/dts-v1/; / { a =`
abbrev pub in_value : Words
in_value = in_root ++ name (codes "a") ∷ equals ∷ []

-- `/dts-v1/; / { a = <`
abbrev pub in_cells : Words
in_cells = in_value ++ less ∷ []

-- `>; };`
abbrev pub end_of_cells : Words
end_of_cells = greater ∷ semicolon ∷ end_of_body

-- so many children, each inside the one before: `a { a { ..`
abbrev pub nested : ℕ → Words
nested zero = []
nested (suc n) = name (codes "a") ∷ opening ∷ nested n

-- so many signs: `- - ..`
abbrev pub signs : ℕ → Words
signs zero = []
signs (suc n) = minus ∷ signs n

-- ---- the faults

pub record FirstFaults : Type 0 where
  -- a body that isn't closed; a name with neither a property nor a child behind it, whatever the name is; elements of 12
  -- bits; a sum without its second number
  pub unended : FirstFault in_root [] fault.Syntax
  pub name_alone : FirstFault (in_root ++ name (codes "a@1@2") ∷ []) end_of_body fault.Syntax
  pub width : FirstFault (in_value ++ bits ∷ []) (number 12 (codes "12") ∷ less ∷ end_of_cells) fault.Syntax
  pub sum : FirstFault (in_cells ++ left_parenthesis ∷ number 1 (codes "1") ∷ plus ∷ []) (right_parenthesis ∷ end_of_cells) fault.Syntax
  -- a property, a child, labels, a reference to a path, references to labels, and deletions, each with a name that is none
  pub property_name : FirstFault in_root (name (codes "a@1") ∷ semicolon ∷ end_of_body) fault.BadName
  pub child_name : FirstFault in_root (name (codes "a@1@2") ∷ opening ∷ closing ∷ semicolon ∷ end_of_body) fault.BadName
  pub label_name : FirstFault in_root (label (codes "phandle:") ∷ name (codes "a") ∷ semicolon ∷ end_of_body) fault.BadName
  pub byte_label : FirstFault (in_value ++ left_bracket ∷ []) (label (codes "phandle:") ∷ right_bracket ∷ semicolon ∷ end_of_body) fault.BadName
  pub path : FirstFault in_value (word kind.PathReference (codes "&{/b/}") ∷ semicolon ∷ end_of_body) fault.BadName
  pub cell : FirstFault in_cells (reference (codes "&phandle") ∷ end_of_cells) fault.BadName
  pub block : FirstFault (version ∷ semicolon ∷ []) (reference (codes "&phandle") ∷ opening ∷ end_of_body) fault.BadName
  pub deleted_property : FirstFault (in_root ++ delete_property ∷ []) (name (codes "a@1") ∷ semicolon ∷ end_of_body) fault.BadName
  pub deleted_child : FirstFault (in_root ++ delete_node ∷ []) (name (codes "a@1@2") ∷ semicolon ∷ end_of_body) fault.BadName
  pub deleted_node : FirstFault (version ∷ semicolon ∷ delete_node ∷ []) (reference (codes "&phandle") ∷ semicolon ∷ []) fault.BadName
  -- a property behind a child shows at its `;` or its `=`, its deletion at once; a deleted child counts
  pub flag_behind : FirstFault (behind_child ++ name (codes "a") ∷ []) (semicolon ∷ end_of_body) fault.PropertyAfterNode
  pub property_behind : FirstFault (behind_child ++ name (codes "a") ∷ []) (equals ∷ less ∷ end_of_cells) fault.PropertyAfterNode
  pub deletion_behind : FirstFault behind_child (delete_property ∷ name (codes "a") ∷ semicolon ∷ end_of_body) fault.PropertyAfterNode
  pub behind_deletion : FirstFault (in_root ++ delete_node ∷ name (codes "b") ∷ semicolon ∷ name (codes "a") ∷ []) (semicolon ∷ end_of_body) fault.PropertyAfterNode
  -- a reference among elements of 16 bits
  pub reference_width : FirstFault (in_value ++ bits ∷ number 16 (codes "16") ∷ less ∷ []) (reference (codes "&b") ∷ end_of_cells) fault.BadReferenceWidth
  -- a division by 0, at its first token
  pub division : FirstFault in_cells (left_parenthesis ∷ number 1 (codes "1") ∷ slash ∷ number 0 (codes "0") ∷ right_parenthesis ∷ end_of_cells) fault.DivideByZero
  -- 256 in 8 bits; a reservation of two zeros, at the second
  pub range : FirstFault (in_value ++ bits ∷ number 8 (codes "8") ∷ less ∷ []) (number 256 (codes "256") ∷ end_of_cells) fault.OutOfRange
  pub reservation : FirstFault (version ∷ semicolon ∷ memreserve ∷ number 0 (codes "0") ∷ []) (number 0 (codes "0") ∷ semicolon ∷ slash ∷ opening ∷ end_of_body) fault.OutOfRange
  -- 65 bodies may stand inside each other, and a 66th not; an expression may have 1,024 tokens, and a 1,025th not, whether
  -- it ends there or not
  pub deepest : FirstFault (in_root ++ nested 64) [] fault.Syntax
  pub too_deep : FirstFault (in_root ++ nested 64 ++ name (codes "a") ∷ []) (opening ∷ []) fault.Limit
  pub longest : FirstFault (in_cells ++ left_parenthesis ∷ (signs 1021 ++ number 1 (codes "1") ∷ right_parenthesis ∷ [])) [] fault.Syntax
  pub too_long : FirstFault (in_cells ++ left_parenthesis ∷ (signs 1022 ++ number 1 (codes "1") ∷ [])) (right_parenthesis ∷ end_of_cells) fault.Limit
  pub too_long_cut_off : FirstFault (in_cells ++ left_parenthesis ∷ signs 1023) (minus ∷ semicolon ∷ []) fault.Limit
  -- of two faults the first: the name before its order, and the division before the missing `>`
  pub name_first : FirstFault behind_child (name (codes "a@1") ∷ semicolon ∷ end_of_body) fault.BadName
  pub division_first : FirstFault in_cells (left_parenthesis ∷ number 1 (codes "1") ∷ slash ∷ number 0 (codes "0") ∷ right_parenthesis ∷ semicolon ∷ end_of_body) fault.DivideByZero
