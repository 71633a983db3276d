-- Bytes have one first fault at most.
use Rattle.std.proofs.Common.{◌≡◌, ℕ, ◌+◌, true, List, [], ◌∷◌, ◌++◌, length, Option, Some, None, nat_eq, not, ◌&&◌, if◌then◌else◌, refl, sym, ap, subst, ◌∙◌, append_assoc, arith}
use Rattle.std.proofs.lemmas.List.{length-append}
use Rattle.dt_model.specs.Tree.{Property, Forest}
use Rattle.dt_model.specs.Format.{Token, end_tree, word, SpellsAll, SpellsTree}
use Rattle.dt_model.specs.Lexing.{token_in}
use Rattle.dt_model.specs.Checks.{BlobFault, over_limit, bad_nesting, number, strings_of, structure_of, Position, front, lead, token_fault, StopsAt, IsSpelled, AreApart, header_fault, IsFirstFault, in_header, in_reservations, at_a_limit, at_a_token, in_names, in_phandles}
use Rattle.dt_model.proofs.Lexed.{token_again}
use Rattle.dt_model.proofs.Parsed.{one_tree}
use Rattle.dt_model_format.proofs.Fronts.{no_fault}
use Rattle.dt_model_format.proofs.Stops.{Goes, GoesOn, Meet, together, first_ends, second_ends, meeting}

-- ---- a token that is wrong, and the end of the tree

goes_to_stop : (strings block : List ℕ) (offset : ℕ) (fault : BlobFault) (s : StopsAt strings block offset fault) → Goes strings front s.tokens block s.position s.rest
goes_to_stop strings block offset fault s = record { before = s.before; whole = s.whole; spelled = s.spelled; led = s.led }

-- where a token is wrong, none goes on
stuck : (strings : List ℕ) (p : Position) (rest : List ℕ) (fault : BlobFault) → token_fault strings p rest ≡ Some fault → GoesOn strings p rest → ⊥
stuck strings p rest fault e g = let fine = no_fault strings p g.next rest g.token g.size g.found g.led in cc

-- a block has one first token that is wrong
pub one_stop : (strings block : List ℕ) (k l : ℕ) (f g : BlobFault) → StopsAt strings block k f → StopsAt strings block l g → (f ≡ g) × (k ≡ l)
one_stop strings block k l f g a b =
    by_meeting (meeting strings front a.tokens b.tokens block a.position a.rest b.position b.rest (goes_to_stop strings block k f a) (goes_to_stop strings block l g b))
  where
    by_meeting : Meet strings a.position a.rest b.position b.rest → (f ≡ g) × (k ≡ l)
    by_meeting (together p r) =
        let same : token_fault strings a.position a.rest ≡ token_fault strings b.position b.rest = λ i. token_fault strings (p i) (r i) in
        let one = a.wrong in
        let two = b.wrong in
        let lengths : length a.before + length a.rest ≡ length b.before + length b.rest = sym (length-append a.before a.rest) ∙ ap length (sym a.whole ∙ b.whole) ∙ length-append b.before b.rest in
        let rests : length a.rest ≡ length b.rest = ap length r in
        let here = a.place in
        let there = b.place in
        (cc, omega arith)
    by_meeting (first_ends on) = absurd (stuck strings a.position a.rest f a.wrong on)
    by_meeting (second_ends on) = absurd (stuck strings b.position b.rest g b.wrong on)

-- tokens with END last end before it
before_end : (strings : List ℕ) (tokens : List Token) (bytes : List ℕ) → SpellsAll strings (tokens ++ end_tree ∷ []) bytes → (before : List ℕ) × (bytes ≡ before ++ word 9) × SpellsAll strings tokens before
before_end strings [] bytes s = ([], s.2 ∙ (λ i. s.3 i ++ s.4 i), refl)
before_end strings (token ∷ tokens) bytes s =
    let later = before_end strings tokens s.1 s.4 in
    (s.0 ++ later.0, s.2 ∙ ap (λ (x : List ℕ). s.0 ++ x) later.1 ∙ sym (append_assoc s.0 later.0 (word 9)), (s.0, later.0, refl, s.3, later.2))

goes_to_end : (strings block : List ℕ) (properties : List Property) (children : Forest) (s : IsSpelled strings block properties children) → Goes strings front s.tokens block s.end (word 9)
goes_to_end strings block properties children s =
    let split = before_end strings s.tokens block s.spelled in
    record { before = split.0; whole = split.1; spelled = split.2; led = s.led }

-- END is not wrong where the root has ended
end_fine : (strings : List ℕ) (p : Position) → p.depth ≡ 0 → p.late ≡ true → token_fault strings p (word 9) ≡ None
end_fine strings p depth late = λ i. if not (nat_eq (depth i) 0 && late i) then Some bad_nesting else None

-- nothing goes on from END
end_last : (strings : List ℕ) (p : Position) → GoesOn strings p (word 9) → ⊥
end_last strings p g =
    let again : token_in strings (word 9) ≡ Some (end_tree, 4) = token_again strings end_tree (word 9) [] refl in
    let found = g.found in
    let pair : ◌≡◌ {A = Token × ℕ} (end_tree, 4) (g.token, g.size) = cc in
    let led : lead end_tree p ≡ Some g.next = ap (λ (x : Token × ℕ). lead x.0 p) pair ∙ g.led in
    absurd cc

-- and none where it spells a tree
pub no_stop : (strings block : List ℕ) (offset : ℕ) (fault : BlobFault) (properties : List Property) (children : Forest) → StopsAt strings block offset fault → IsSpelled strings block properties children → ⊥
no_stop strings block offset fault properties children a b =
    by_meeting (meeting strings front a.tokens b.tokens block a.position a.rest b.end (word 9) (goes_to_stop strings block offset fault a) (goes_to_end strings block properties children b))
  where
    by_meeting : Meet strings a.position a.rest b.end (word 9) → ⊥
    by_meeting (together p r) =
        let same : token_fault strings a.position a.rest ≡ token_fault strings b.end (word 9) = λ i. token_fault strings (p i) (r i) in
        let fine = end_fine strings b.end b.closed b.ended in
        let wrong = a.wrong in
        absurd cc
    by_meeting (first_ends on) = stuck strings a.position a.rest fault a.wrong on
    by_meeting (second_ends on) = end_last strings b.end on

-- ---- the tree

pub spelled_tree : (strings block : List ℕ) (properties : List Property) (children : Forest) → IsSpelled strings block properties children → SpellsTree strings properties children block
spelled_tree strings block properties children s = record { tokens = s.tokens; spelled = s.spelled; whole = s.whole }

pub one_spelled : (strings block : List ℕ) (ps qs : List Property) (cs ds : Forest) → IsSpelled strings block ps cs → SpellsTree strings qs ds block → (ps ≡ qs) × (cs ≡ ds)
one_spelled strings block ps qs cs ds a b = one_tree strings block ps qs cs ds (spelled_tree strings block ps cs a) b

pub not_apart : (strings block : List ℕ) (ps qs : List Property) (cs ds : Forest) → IsSpelled strings block ps cs → ¬ AreApart ps cs → IsSpelled strings block qs ds → AreApart qs ds → ⊥
not_apart strings block ps qs cs ds a differ b apart =
    let same = one_spelled strings block ps qs cs ds a (spelled_tree strings block qs ds b) in
    differ (subst (λ (c : Forest). AreApart ps c) (sym same.1) (subst (λ (p : List Property). AreApart p ds) (sym same.0) apart))

-- ---- the whole

same_header_fault : (bytes : List ℕ) (f g : BlobFault) → header_fault bytes ≡ Some f → header_fault bytes ≡ Some g → f ≡ g
same_header_fault bytes f g a b = cc

-- a header with a fault doesn't pass
passed : (bytes : List ℕ) (f : BlobFault) → header_fault bytes ≡ Some f → header_fault bytes ≡ None → ⊥
passed bytes f a b = cc

pub one_first_fault : (bytes : List ℕ) (f g : BlobFault) (at at' : Option ℕ) → IsFirstFault bytes f at → IsFirstFault bytes g at' → (f ≡ g) × (at ≡ at')
one_first_fault bytes f g _ _ (in_header _ a) (in_header _ b) = (same_header_fault bytes f g a b, refl)
one_first_fault bytes f _ _ _ (in_header _ a) (in_reservations b _) = absurd (passed bytes f a b)
one_first_fault bytes f _ _ _ (in_header _ a) (at_a_limit b _ _ _) = absurd (passed bytes f a b)
one_first_fault bytes f g _ _ (in_header _ a) (at_a_token b _ _ _ _ _) = absurd (passed bytes f a b)
one_first_fault bytes f _ _ _ (in_header _ a) (in_names b _ _ _ _ _) = absurd (passed bytes f a b)
one_first_fault bytes f _ _ _ (in_header _ a) (in_phandles b _ _ _ _ _ _) = absurd (passed bytes f a b)
one_first_fault bytes _ g _ _ (in_reservations a _) (in_header _ b) = absurd (passed bytes g b a)
one_first_fault bytes _ _ _ _ (in_reservations _ _) (in_reservations _ _) = (refl, refl)
one_first_fault bytes _ _ _ _ (in_reservations _ absent) (at_a_limit _ has _ _) = absurd (absent has)
one_first_fault bytes _ g _ _ (in_reservations _ absent) (at_a_token _ has _ _ _ _) = absurd (absent has)
one_first_fault bytes _ _ _ _ (in_reservations _ absent) (in_names _ has _ _ _ _) = absurd (absent has)
one_first_fault bytes _ _ _ _ (in_reservations _ absent) (in_phandles _ has _ _ _ _ _) = absurd (absent has)
one_first_fault bytes _ g _ _ (at_a_limit a _ _ _) (in_header _ b) = absurd (passed bytes g b a)
one_first_fault bytes _ _ _ _ (at_a_limit _ has _ _) (in_reservations _ absent) = absurd (absent has)
one_first_fault bytes _ _ _ _ (at_a_limit _ _ _ _) (at_a_limit _ _ _ _) = (refl, refl)
one_first_fault bytes _ g _ _ (at_a_limit _ _ k x) (at_a_token _ _ _ l other y) = absurd (other (sym (one_stop (strings_of bytes) (structure_of bytes) k l over_limit g x y).0))
one_first_fault bytes _ _ _ _ (at_a_limit _ _ k x) (in_names _ _ qs ds y _) = absurd (no_stop (strings_of bytes) (structure_of bytes) k over_limit qs ds x y)
one_first_fault bytes _ _ _ _ (at_a_limit _ _ k x) (in_phandles _ _ qs ds y _ _) = absurd (no_stop (strings_of bytes) (structure_of bytes) k over_limit qs ds x y)
one_first_fault bytes f g _ _ (at_a_token a _ _ _ _ _) (in_header _ b) = absurd (passed bytes g b a)
one_first_fault bytes f _ _ _ (at_a_token _ has _ _ _ _) (in_reservations _ absent) = absurd (absent has)
one_first_fault bytes f _ _ _ (at_a_token _ _ _ k other x) (at_a_limit _ _ l y) = absurd (other (one_stop (strings_of bytes) (structure_of bytes) k l f over_limit x y).0)
one_first_fault bytes f g _ _ (at_a_token _ _ _ k _ x) (at_a_token _ _ _ l _ y) = let same = one_stop (strings_of bytes) (structure_of bytes) k l f g x y in (same.0, ap (λ (n : ℕ). Some (number bytes 8 + n)) same.1)
one_first_fault bytes f _ _ _ (at_a_token _ _ _ k _ x) (in_names _ _ qs ds y _) = absurd (no_stop (strings_of bytes) (structure_of bytes) k f qs ds x y)
one_first_fault bytes f _ _ _ (at_a_token _ _ _ k _ x) (in_phandles _ _ qs ds y _ _) = absurd (no_stop (strings_of bytes) (structure_of bytes) k f qs ds x y)
one_first_fault bytes _ g _ _ (in_names a _ _ _ _ _) (in_header _ b) = absurd (passed bytes g b a)
one_first_fault bytes _ _ _ _ (in_names _ has _ _ _ _) (in_reservations _ absent) = absurd (absent has)
one_first_fault bytes _ _ _ _ (in_names _ _ ps cs x _) (at_a_limit _ _ l y) = absurd (no_stop (strings_of bytes) (structure_of bytes) l over_limit ps cs y x)
one_first_fault bytes _ g _ _ (in_names _ _ ps cs x _) (at_a_token _ _ _ l _ y) = absurd (no_stop (strings_of bytes) (structure_of bytes) l g ps cs y x)
one_first_fault bytes _ _ _ _ (in_names _ _ _ _ _ _) (in_names _ _ _ _ _ _) = (refl, refl)
one_first_fault bytes _ _ _ _ (in_names _ _ ps cs x differ) (in_phandles _ _ qs ds y apart _) = absurd (not_apart (strings_of bytes) (structure_of bytes) ps qs cs ds x differ y apart)
one_first_fault bytes _ g _ _ (in_phandles a _ _ _ _ _ _) (in_header _ b) = absurd (passed bytes g b a)
one_first_fault bytes _ _ _ _ (in_phandles _ has _ _ _ _ _) (in_reservations _ absent) = absurd (absent has)
one_first_fault bytes _ _ _ _ (in_phandles _ _ ps cs x _ _) (at_a_limit _ _ l y) = absurd (no_stop (strings_of bytes) (structure_of bytes) l over_limit ps cs y x)
one_first_fault bytes _ g _ _ (in_phandles _ _ ps cs x _ _) (at_a_token _ _ _ l _ y) = absurd (no_stop (strings_of bytes) (structure_of bytes) l g ps cs y x)
one_first_fault bytes _ _ _ _ (in_phandles _ _ ps cs x apart _) (in_names _ _ qs ds y differ) = absurd (not_apart (strings_of bytes) (structure_of bytes) qs ps ds cs y differ x apart)
one_first_fault bytes _ _ _ _ (in_phandles _ _ _ _ _ _ _) (in_phandles _ _ _ _ _ _ _) = (refl, refl)
