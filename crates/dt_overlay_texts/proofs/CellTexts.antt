-- The text of a cell is cut at its colons in one way, and holds no NUL.
use Rattle.std.proofs.Common.{◌≡◌, ◌≢◌, ℕ, zero, suc, ◌<◌, ◌==◌, ◌||◌, Bool, IsTrue, List, [], ◌∷◌, ◌++◌, refl, sym, ap, ◌∙◌, subst, arith}
use Rattle.std.specs.Char.{digit_value}
use Rattle.std.specs.Str.{IsAscii, IsUtf8}
use Rattle.std.proofs.lemmas.Str.{IsUtf8-from_ascii}
use Rattle.std.proofs.lemmas.Str.Parse.{digit_from_value}
use Rattle.std.specs.List.{All, AllByRecursion}
use Rattle.std.specs.Str.Parse.{AllDigits, digits_value}
use Rattle.std.proofs.lemmas.List.Elements.{All-weaker, recursion_from_All}
use Rattle.dt_model.specs.Names.{is_name_byte, IsNodeName}
use Rattle.dt_model.specs.Path.{Path, path_text}
use Rattle.dt_model.specs.Object.{Cell, IsCellText, AreCellTexts}
use Rattle.dt_overlay_texts.specs.Cuts.{Lacks, IsCut, IsNumeralOf}
use Rattle.dt_overlay_texts.specs.Texts.{AreTexts, TellCells}
use Rattle.dt_overlay_texts.proofs.TextCuts.{cut_once, lacks_both, never_cut}

-- ---- what the parts of a cell's text lack

-- bytes that all pass a test lack a byte that doesn't
passed_lacks : (s : ℕ) (test : ℕ → Bool) → ¬ IsTrue (test s) → (x : List ℕ) → All (λ b. IsTrue (test b)) x → Lacks s x
passed_lacks s test unfit x h =
    recursion_from_All (λ b. b ≢ s) x (All-weaker (λ b. IsTrue (test b)) (λ b. b ≢ s) (λ b t e. unfit (subst (λ (n : ℕ). IsTrue (test n)) e t)) x h)

-- so does a path's text, unless the byte is a slash
path_lacks : (s : ℕ) → 47 ≢ s → ¬ IsTrue (is_name_byte s || (s == 64)) → (p : Path) → AllByRecursion IsNodeName p → Lacks s (path_text p)
path_lacks s slash unfit [] h = (slash, tt)
path_lacks s slash unfit (x ∷ []) h = (slash, passed_lacks s (λ b. is_name_byte b || (b == 64)) unfit x h.0.allowed)
path_lacks s slash unfit (x ∷ y ∷ p) h = (
  slash,
  lacks_both s x (path_text (y ∷ p)) (passed_lacks s (λ b. is_name_byte b || (b == 64)) unfit x h.0.allowed) (path_lacks s slash unfit (y ∷ p) h.1),
)

-- and so do digits, of a byte that is none
digits_lack : (s : ℕ) → ¬ (digit_value s < 10) → (ds : List ℕ) → AllDigits 10 ds → Lacks s ds
digits_lack s unfit [] h = tt
digits_lack s unfit (d ∷ ds) h = (λ e. unfit (subst (λ (n : ℕ). digit_value n < 10) e h.0), digits_lack s unfit ds h.1)

-- a path's text has no colon
pub path_without_colon : (p : Path) → AllByRecursion IsNodeName p → Lacks 58 (path_text p)
path_without_colon = path_lacks 58 (λ e. absurd (omega arith)) (λ h. cc)

-- a property's name has none
pub property_without_colon : (x : List ℕ) → All (λ b. IsTrue (is_name_byte b)) x → Lacks 58 x
property_without_colon = passed_lacks 58 is_name_byte (λ h. cc)

-- the text of a cell has no NUL
pub text_without_nul : (text : List ℕ) (c : Cell) → IsCellText text c → Lacks 0 text
text_without_nul text c is =
    subst (Lacks 0) (sym is.whole)
    (lacks_both 0 (path_text c.path) (58 ∷ (c.property ++ 58 ∷ is.digits))
    (path_lacks 0 (λ e. absurd (omega arith)) (λ h. cc) c.path is.path) (
      λ e. absurd (omega arith),
      lacks_both 0 c.property (58 ∷ is.digits) (passed_lacks 0 is_name_byte (λ h. cc) c.property is.property.allowed)
          (λ e. absurd (omega arith), digits_lack 0 (λ h. absurd (omega arith)) is.digits is.numeral.1),
    ))

-- ---- the colons

-- the first colon is behind the path
pub path_first : (text front rest : List ℕ) (c : Cell) (is : IsCellText text c) → IsCut 58 text front rest
    → (front ≡ path_text c.path) × (rest ≡ c.property ++ 58 ∷ is.digits)
path_first text front rest c is cut =
    cut_once 58 front (path_text c.path) rest (c.property ++ 58 ∷ is.digits) cut.lacks (path_without_colon c.path is.path) (sym cut.whole ∙ is.whole)

-- the second one is behind the property
pub property_second : (text front rest property digits : List ℕ) (c : Cell) (is : IsCellText text c) → IsCut 58 text front rest → IsCut 58 rest property digits
    → (property ≡ c.property) × (digits ≡ is.digits)
property_second text front rest property digits c is first second =
    cut_once 58 property c.property digits is.digits second.lacks (property_without_colon c.property is.property.allowed) (sym second.whole ∙ (path_first text front rest c is first).1)

-- a text tells one cell, where a path has one text
pub one_cell : ((p q : Path) → AllByRecursion IsNodeName p → AllByRecursion IsNodeName q → path_text p ≡ path_text q → p ≡ q)
    → (text : List ℕ) (c d : Cell) → IsCellText text c → IsCellText text d → c ≡ d
one_cell one text c d is also =
    let first : IsCut 58 text (path_text d.path) (d.property ++ 58 ∷ also.digits) = record { whole = also.whole; lacks = path_without_colon d.path also.path } in
    let second : IsCut 58 (d.property ++ 58 ∷ also.digits) d.property also.digits = record { whole = refl; lacks = property_without_colon d.property also.property.allowed } in
    let front = path_first text (path_text d.path) (d.property ++ 58 ∷ also.digits) c is first in
    let behind = property_second text (path_text d.path) (d.property ++ 58 ∷ also.digits) d.property also.digits c is first second in
    let path : c.path ≡ d.path = one c.path d.path is.path also.path (sym front.0) in
    let offset : c.offset ≡ d.offset = sym is.offset ∙ ap (digits_value 10) (sym behind.1) ∙ also.offset in
    λ i. record { path = path i; property = sym behind.0 i; offset = offset i }

-- ---- the texts of cells

-- the texts of cells are texts, each with its cell
pub cells_told : (value : List ℕ) (cells : List Cell) → AreCellTexts value cells → (xs : List (List ℕ)) × AreTexts value xs × TellCells xs cells
cells_told value [] none = ([], none, tt)
cells_told value (c ∷ cells) a =
    let more = cells_told a.1 cells a.4 in
    (a.0 ∷ more.0, (a.1, a.2, text_without_nul a.0 c a.3, more.1), (a.3, more.2))

-- texts, each with its cell, are the texts of the cells
pub texts_tell : (value : List ℕ) (xs : List (List ℕ)) (cells : List Cell) → AreTexts value xs → TellCells xs cells → AreCellTexts value cells
texts_tell value [] [] none told = none
texts_tell value [] (c ∷ cells) none told = absurd told
texts_tell value (x ∷ xs) [] a told = absurd told
texts_tell value (x ∷ xs) (c ∷ cells) a told = (x, a.0, a.1, told.0, texts_tell a.0 xs cells a.3 told.1)

-- ---- what is no cell's text

-- a text without a colon
pub no_colon : (text : List ℕ) → Lacks 58 text → (c : Cell) → ¬ IsCellText text c
no_colon text lacks c is = never_cut 58 (path_text c.path) (c.property ++ 58 ∷ is.digits) (subst (Lacks 58) is.whole lacks)

-- one without a second colon
pub no_second : (text front rest : List ℕ) → IsCut 58 text front rest → Lacks 58 rest → (c : Cell) → ¬ IsCellText text c
no_second text front rest first lacks c is =
    never_cut 58 c.property is.digits (subst (Lacks 58) (path_first text front rest c is first).1 lacks)

-- digits are UTF-8
pub digits_are_text : (digits : List ℕ) (n : ℕ) → IsNumeralOf digits n → IsUtf8 digits
digits_are_text digits n is = IsUtf8-from_ascii digits (below digits is.numeral.1)
  where
    below : (ds : List ℕ) → AllDigits 10 ds → IsAscii ds
    below [] h i = omega arith
    below (d ∷ ds) h zero = let digit = digit_from_value d h.0 in omega (arith, digit.1)
    below (d ∷ ds) h (suc i) = below ds h.1 i
