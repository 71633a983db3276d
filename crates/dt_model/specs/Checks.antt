-- What is wrong with bytes that are no blob, or one beyond this project's limits: the first fault, in the order in which a
-- reader checks (Devicetree Specification v0.4, chapter 5; the order is this project's).
use Rattle.std.specs.Prelude.{◌≡◌, ◌≢◌, ℕ, ◌+◌, ◌-◌, ◌%◌, Bool, true, false, not, ◌&&◌, ◌||◌, List, [], ◌∷◌, ◌++◌, length, take, drop, Option, Some, None, unwrap_or, nat_le, nat_lt, option_and_then, ◌==◌, if◌then◌else◌}
use Rattle.std.specs.List.{AllByRecursion}
use Rattle.dt_model.specs.Limits.{most_bytes, most_names, most_nodes}
use Rattle.dt_model.specs.Names.{Name, is_node_name, is_property_name}
use Rattle.dt_model.specs.Tree.{Property, Forest}
use Rattle.dt_model.specs.Valid.{AreDistinct, AreProperties, AreNodes, IsPhandle, IsReservation, names, phandle_values, phandles}
use Rattle.dt_model.specs.Format.{Token, begin_node, end_node, prop, nop, end_tree, SpellsAll, tokens_of, without_nops, reservation_block, part, word_at}
use Rattle.dt_model.specs.Lexing.{padded, text_in}

pub data BlobFault : Type 0 where
  -- fewer than 40 bytes
  short_header : BlobFault
  bad_magic : BlobFault
  -- a total size below 40 or above the number of bytes
  bad_total : BlobFault
  -- more than 16 MiB, more than 65,536 nodes, or a node more than 64 below the root
  over_limit : BlobFault
  -- a version below 17, or a last compatible version above 17
  bad_version : BlobFault
  -- the reservations not at a multiple of eight, or the structure block not at one of four
  misaligned : BlobFault
  -- a block that passes the total size
  block_outside : BlobFault
  -- no pair of zeros among the reservations
  no_reservation_end : BlobFault
  -- a word that is no token's
  bad_tag : BlobFault
  -- a token that passes the structure block's end
  structure_cut : BlobFault
  -- a name that is none
  bad_name : BlobFault
  -- no name at an offset of the strings block
  bad_name_offset : BlobFault
  -- a token where none of its kind may stand
  bad_nesting : BlobFault
  -- a property behind a child of its node
  late_property : BlobFault
  -- something behind END
  bad_end : BlobFault
  -- two properties of a node, or two siblings, of one name
  duplicate : BlobFault
  -- a `phandle` that is none, or that an earlier node has
  bad_phandle : BlobFault

-- ---- the header

abbrev pub number : List ℕ → ℕ → ℕ
number bytes at = unwrap_or (word_at bytes at) 0

-- the first condition of the header that fails
abbrev pub header_fault : List ℕ → Option BlobFault
header_fault bytes =
    if nat_lt (length bytes) 40 then Some short_header
    else if not (number bytes 0 == 0xd00dfeed) then Some bad_magic
    else if not (nat_le 40 (number bytes 4) && nat_le (number bytes 4) (length bytes)) then Some bad_total
    else if not (nat_le (number bytes 4) most_bytes) then Some over_limit
    else if not (nat_le 17 (number bytes 20) && nat_le (number bytes 24) 17) then Some bad_version
    else if not ((number bytes 16 % 8 == 0) && (number bytes 8 % 4 == 0)) then Some misaligned
    else if not (nat_le (number bytes 16) (number bytes 4) && nat_le (number bytes 8 + number bytes 36) (number bytes 4)
    && nat_le (number bytes 12 + number bytes 32) (number bytes 4)) then Some block_outside
    else None

-- the bytes of the blob, and its blocks
abbrev pub counted : List ℕ → List ℕ
counted bytes = take (number bytes 4) bytes

abbrev pub structure_of : List ℕ → List ℕ
structure_of bytes = part (number bytes 8) (number bytes 36) bytes

abbrev pub strings_of : List ℕ → List ℕ
strings_of bytes = part (number bytes 12) (number bytes 32) bytes

-- pairs of numbers, none of them two zeros, and a pair of zeros stand where the reservations do
abbrev pub HasReservations : List ℕ → Type 0
HasReservations bytes =
    (reservations : List (ℕ × ℕ)) × (behind : List ℕ) × AllByRecursion IsReservation reservations
    × (drop (number bytes 16) (counted bytes) ≡ reservation_block reservations ++ behind)

-- ---- the tokens

-- Where a token is: how many nodes are open; whether the innermost of them has a child already, or with none open
-- whether the root has ended; and how many nodes have begun.
pub record Position : Type 0 where
  pub depth : ℕ
  pub late : Bool
  pub nodes : ℕ

abbrev pub front : Position
front = record { depth = 0; late = false; nodes = 0 }

-- a node that begins there may be called so: the root has no name
abbrev pub may_be_called : Position → Name → Bool
may_be_called p name = if p.depth == 0 then length name == 0 else is_node_name name

-- one more node may begin there
abbrev pub has_room : Position → Bool
has_room p = nat_le p.depth most_names && nat_lt p.nodes most_nodes

-- the root has ended
abbrev pub is_behind : Position → Bool
is_behind p = (p.depth == 0) && p.late

-- where the next token is, if this one is allowed there
abbrev pub lead : Token → Position → Option Position
lead (begin_node name) p =
    if is_behind p || not (may_be_called p name && has_room p) then None
    else Some (record { depth = p.depth + 1; late = false; nodes = p.nodes + 1 })
lead end_node p = if p.depth == 0 then None else Some (record { depth = p.depth - 1; late = true; nodes = p.nodes })
lead (prop x) p = if (p.depth == 0) || p.late || not (is_property_name x.name) then None else Some p
lead nop p = Some p
lead end_tree p = None

-- the tokens are allowed there one after another, and the next one is where they lead
abbrev pub lead_all : List Token → Position → Option Position
lead_all [] p = Some p
lead_all (token ∷ tokens) p = option_and_then (lead_all tokens) (lead token p)

-- ---- what is wrong with the token at the front of some bytes

-- the bytes reach to the end of a token of this size and its padding
abbrev pub fits : List ℕ → ℕ → Bool
fits rest size = nat_le (padded size) (length rest)

-- BEGIN_NODE: its name or its padding passes the end; it comes after the root; its name is none; it is one node too many
abbrev pub begin_fault : Position → List ℕ → Option Name → Option BlobFault
begin_fault p rest None = Some structure_cut
begin_fault p rest (Some name) =
    if not (fits rest (4 + length name + 1)) then Some structure_cut
    else if is_behind p then Some bad_nesting
    else if not (may_be_called p name) then Some bad_name
    else if not (has_room p) then Some over_limit
    else None

-- the name at a property's offset: there is none, or it is none
abbrev pub name_fault : Option Name → Option BlobFault
name_fault None = Some bad_name_offset
name_fault (Some name) = if is_property_name name then None else Some bad_name

-- PROP: its numbers, its value or its padding pass the end; it is outside a node, or behind a child; its name
abbrev pub property_fault : List ℕ → Position → List ℕ → Option ℕ → Option ℕ → Option BlobFault
property_fault strings p rest None offset = Some structure_cut
property_fault strings p rest (Some size) None = Some structure_cut
property_fault strings p rest (Some size) (Some offset) =
    if not (fits rest (12 + size)) then Some structure_cut
    else if p.depth == 0 then Some bad_nesting
    else if p.late then Some late_property
    else name_fault (text_in (drop offset strings))

-- END: a node is open, or the root hasn't come; it isn't the last
abbrev pub end_fault : Position → List ℕ → Option BlobFault
end_fault p rest = if not (is_behind p) then Some bad_nesting else if length rest == 4 then None else Some bad_end

abbrev pub tag_fault : List ℕ → Position → List ℕ → Option ℕ → Option BlobFault
tag_fault strings p rest None = Some structure_cut
tag_fault strings p rest (Some tag) =
    if tag == 1 then begin_fault p rest (text_in (drop 4 rest))
    else if tag == 2 then (if p.depth == 0 then Some bad_nesting else None)
    else if tag == 3 then property_fault strings p rest (word_at rest 4) (word_at rest 8)
    else if tag == 4 then None
    else if tag == 9 then end_fault p rest
    else Some bad_tag

-- the first row of its kind that holds of the token, if one does
abbrev pub token_fault : List ℕ → Position → List ℕ → Option BlobFault
token_fault strings p rest = tag_fault strings p rest (word_at rest 0)

-- The first token of a structure block that is wrong, so many bytes behind its front: the tokens before it lead there.
pub record StopsAt (strings block : List ℕ) (offset : ℕ) (fault : BlobFault) : Type 0 where
  pub tokens : List Token
  pub before : List ℕ
  pub rest : List ℕ
  pub position : Position
  pub whole : block ≡ before ++ rest
  pub place : offset ≡ length before
  pub spelled : SpellsAll strings tokens before
  pub led : lead_all tokens front ≡ Some position
  pub wrong : token_fault strings position rest ≡ Some fault

-- ---- the whole

-- The structure block spells a tree of these properties and children, and its tokens lead to the end of the root.
pub record IsSpelled (strings block : List ℕ) (properties : List Property) (children : Forest) : Type 0 where
  pub tokens : List Token
  pub end : Position
  pub spelled : SpellsAll strings (tokens ++ end_tree ∷ []) block
  pub whole : without_nops tokens ≡ tokens_of properties children
  pub led : lead_all tokens front ≡ Some end
  pub closed : end.depth ≡ 0
  pub ended : end.late ≡ true

-- a node's properties, and siblings, have names of their own, at each node
pub record AreApart (properties : List Property) (children : Forest) : Type 0 where
  pub properties_apart : AreProperties properties
  pub nodes_apart : AreNodes children
  pub siblings_apart : AreDistinct (names children)

-- the phandles of all nodes are phandles, and no two are the same
pub record AreNumbered (properties : List Property) (children : Forest) : Type 0 where
  pub valid : AllByRecursion IsPhandle (phandle_values properties ++ phandles children)
  pub own : AreDistinct (phandle_values properties ++ phandles children)

-- the first fault of some bytes, and the offset of its token where it has a place
pub data IsFirstFault (bytes : List ℕ) : BlobFault → Option ℕ → Type 0 where
  in_header : (fault : BlobFault) → header_fault bytes ≡ Some fault → IsFirstFault bytes fault None
  in_reservations : header_fault bytes ≡ None → ¬ HasReservations bytes → IsFirstFault bytes no_reservation_end None
  at_a_limit : header_fault bytes ≡ None → HasReservations bytes → (offset : ℕ)
      → StopsAt (strings_of bytes) (structure_of bytes) offset over_limit → IsFirstFault bytes over_limit None
  at_a_token : header_fault bytes ≡ None → HasReservations bytes → (fault : BlobFault) (offset : ℕ) → fault ≢ over_limit
      → StopsAt (strings_of bytes) (structure_of bytes) offset fault → IsFirstFault bytes fault (Some (number bytes 8 + offset))
  in_names : header_fault bytes ≡ None → HasReservations bytes → (properties : List Property) (children : Forest)
      → IsSpelled (strings_of bytes) (structure_of bytes) properties children → ¬ AreApart properties children → IsFirstFault bytes duplicate None
  in_phandles : header_fault bytes ≡ None → HasReservations bytes → (properties : List Property) (children : Forest)
      → IsSpelled (strings_of bytes) (structure_of bytes) properties children → AreApart properties children → ¬ AreNumbered properties children
      → IsFirstFault bytes bad_phandle None
