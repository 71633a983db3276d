-- A value is the texts of one list of cells at most, so an object has one list of fixups.
use Rattle.std.proofs.Common.{◌≡◌, ◌≢◌, ℕ, ◌<◌, List, [], ◌∷◌, ◌++◌, map, refl, sym, ap, subst, ◌∙◌, arith}
use Rattle.std.specs.Char.{digit_value}
use Rattle.std.specs.Str.Parse.{AllDigits, digits_value}
use Rattle.dt_model.specs.Names.{Name}
use Rattle.dt_model.specs.Path.{path_text}
use Rattle.dt_model.specs.Object.{Cell, IsCellText, AreCellTexts, AreFixups}
use Rattle.dt_model.specs.Tree.{Property}
use Rattle.dt_model.proofs.Tests.{each_append}
use Rattle.dt_model.proofs.Texts.{HasNo, first_part, property_name_has_no, path_text_has_no, one_text}

digits_text : (digits : List ℕ) → AllDigits 10 digits → HasNo 0 digits
digits_text [] h = tt
digits_text (c ∷ digits) h = (λ e. (let z : 36 < 10 = subst (λ d. digit_value d < 10) e h.0 in omega arith), digits_text digits h.1)

cell_text : (text : List ℕ) (c : Cell) → IsCellText text c → HasNo 0 text
cell_text text c h =
    subst (HasNo 0) (sym h.whole)
    (each_append (λ b. b ≢ 0) (path_text c.path) (58 ∷ (c.property ++ (58 ∷ h.digits))) (path_text_has_no 0 c.path h.path (λ z. (let y : 0 ≡ 47 = z in omega arith)) refl) (
      (λ z. (let y : 58 ≡ 0 = z in omega arith)),
      each_append (λ b. b ≢ 0) c.property (58 ∷ h.digits) (property_name_has_no 0 c.property h.property refl)
          ((λ z. (let y : 58 ≡ 0 = z in omega arith)), digits_text h.digits h.numeral.1),
    ))

one_cell_text : (text : List ℕ) (c d : Cell) → IsCellText text c → IsCellText text d → c ≡ d
one_cell_text text c d h k =
    let a = first_part 58 (path_text c.path) (c.property ++ (58 ∷ h.digits)) (path_text d.path) (d.property ++ (58 ∷ k.digits))
    (path_text_has_no 58 c.path h.path (λ z. (let y : 58 ≡ 47 = z in omega arith)) refl) (path_text_has_no 58 d.path k.path (λ z. (let y : 58 ≡ 47 = z in omega arith)) refl) (sym h.whole ∙ k.whole) in
    let b = first_part 58 c.property h.digits d.property k.digits (property_name_has_no 58 c.property h.property refl) (property_name_has_no 58 d.property k.property refl) a.1 in
    let path : c.path ≡ d.path = one_text c.path d.path h.path k.path a.0 in
    let property : c.property ≡ d.property = b.0 in
    let offset : c.offset ≡ d.offset = sym h.offset ∙ ap (digits_value 10) b.1 ∙ k.offset in
    ap (λ z. record { path = z; property = c.property; offset = c.offset }) path
    ∙ ap (λ z. record { path = d.path; property = z; offset = c.offset }) property
    ∙ ap (λ z. record { path = d.path; property = d.property; offset = z }) offset

not_a_text : (text rest : List ℕ) → [] ≡ text ++ 0 ∷ rest → ⊥
not_a_text [] rest e = cc
not_a_text (b ∷ text) rest e = cc

pub one_cells : (value : List ℕ) (cells others : List Cell) → AreCellTexts value cells → AreCellTexts value others → cells ≡ others
one_cells value [] [] h k = refl
one_cells value [] (d ∷ others) h k = absurd (not_a_text k.0 k.1 (sym h ∙ k.2))
one_cells value (c ∷ cells) [] h k = absurd (not_a_text h.0 h.1 (sym k ∙ h.2))
one_cells value (c ∷ cells) (d ∷ others) h k =
    let w = first_part 0 h.0 h.1 k.0 k.1 (cell_text h.0 c h.3) (cell_text k.0 d k.3) (sym h.2 ∙ k.2) in
    let first : c ≡ d = one_cell_text k.0 c d (subst (λ t. IsCellText t c) w.0 h.3) k.3 in
    let rest : cells ≡ others = one_cells k.1 cells others (subst (λ t. AreCellTexts t cells) w.1 h.4) k.4 in
    ap (λ z. z ∷ cells) first ∙ ap (λ z. d ∷ z) rest

pub one_fixups : (ps : List Property) (fixups others : List (Name × Cell)) → AreFixups ps fixups → AreFixups ps others → fixups ≡ others
one_fixups [] fixups others h k = h ∙ sym k
one_fixups (p ∷ ps) fixups others h k =
    let cells : h.0 ≡ k.0 = one_cells p.value h.0 k.0 h.3 k.3 in
    let rest : h.1 ≡ k.1 = one_fixups ps h.1 k.1 h.4 k.4 in
    h.2 ∙ ap (λ (z : List Cell). map (λ (c : Cell). (p.name, c)) z ++ h.1) cells ∙ ap (λ (z : List (Name × Cell)). map (λ (c : Cell). (p.name, c)) k.0 ++ z) rest ∙ sym k.2
