-- What the compiler's steps give.
use Rattle.std.specs.Prelude.{◌≡◌, ℕ, ◌<◌, ◌≤◌, true, List, [], Option, None, length, codes}
use Rattle.std.specs.List.{AllByRecursion}
use Rattle.dt_model.specs.Fixups.{with_fixups}
use Rattle.dt_model.specs.Instance.{instance_of, symbols_of, with_symbols, added}
use Rattle.dt_model.specs.Limits.{most_nodes}
use Rattle.dt_model.specs.Named.{NodeReference, Named, sibling, list_of}
use Rattle.dt_model.specs.NamedOf.{asked_in}
use Rattle.dt_model.specs.NamedOverlay.{NamedFragment, IsNamedOverlayOf}
use Rattle.dt_model.specs.Numbering.{IsNumbering}
use Rattle.dt_model.specs.Source.{Mode, IsPlace}
use Rattle.dt_model.specs.Tree.{Reading}
use Rattle.dt_model.specs.Valid.{IsReservation, IsWithinLimits}
use Rattle.dt_names.specs.declared.fault.FaultKind.{FaultKind}
use Rattle.dt_names.specs.declared.fault.FaultKind.TheVariants.{NoMemory, Limit}
use Rattle.dt_grammar.specs.Grammar.{Says}
use Rattle.dt_grammar.specs.Parsed.{IsParsed}
use Rattle.dt_source.specs.Meant.{HasTree}

-- what holds of each text that says this
abbrev pub OfEachText : Says → (List ℕ → Type 0) → Type 0
OfEachText s P = (text : List ℕ) → IsParsed text s → P text

-- the source has this tree, and its places are places
pub record HasNamed (mode : Mode) (says : Says) (t : Named NodeReference) : Type 0 where
  pub tree : HasTree mode says t
  pub places : AllByRecursion IsPlace says.places
  pub some : 0 < length says.places
  pub reservations : AllByRecursion IsReservation says.reservations

-- the source is an overlay's, and its places, which are places, mean this tree with some fragments
pub record HasOverlay (says : Says) (t : Named NodeReference) : Type 0 where
  pub plugin : says.plugin ≡ true
  pub reservations : says.reservations ≡ []
  pub places : AllByRecursion IsPlace says.places
  pub fragments : List NamedFragment
  pub named : IsNamedOverlayOf says.places t fragments

-- the reading is the tree under some numbering, with what is added to it
pub record IsNumbered (mode : Mode) (t : Named NodeReference) (r : Reading) : Type 0 where
  pub numbers : List (Option ℕ)
  pub numbering : IsNumbering (asked_in t) numbers
  pub is : r ≡ added mode (symbols_of t) (instance_of numbers t)

-- the root has no child in which a base's labels are kept
pub record HasRoom (t : Named NodeReference) : Type 0 where
  pub free : sibling t.children (codes "__symbols__") ≡ None

-- why a named tree gets no labels: memory may be refused at any time; or there is a label, and no room for their node
abbrev pub WhyNotLabelled : FaultKind → Named NodeReference → Type 0
WhyNotLabelled NoMemory t = Unit {0}
WhyNotLabelled Limit t =
    (0 < length (symbols_of t)) × (most_nodes ≤ length (list_of t)) × (numbers : List (Option ℕ)) × IsNumbering (asked_in t) numbers
WhyNotLabelled _ t = ⊥

-- the root has no child that lists an overlay's labels or cells
pub record HasRooms (t : Named NodeReference) : Type 0 where
  pub symbols : HasRoom t
  pub fixups : sibling t.children (codes "__fixups__") ≡ None
  pub locals : sibling t.children (codes "__local_fixups__") ≡ None

-- the reading is the object of the tree under some numbering
pub record IsMarked (t : Named NodeReference) (r : Reading) : Type 0 where
  pub numbers : List (Option ℕ)
  pub numbering : IsNumbering (asked_in t) numbers
  pub is : r ≡ with_fixups t (with_symbols (symbols_of t) (instance_of numbers t))

-- why there is no object of a named tree: memory may be refused at any time; or the object would be beyond the limits
abbrev pub WhyNotMarked : FaultKind → Named NodeReference → Type 0
WhyNotMarked NoMemory t = Unit {0}
WhyNotMarked Limit t =
    (numbers : List (Option ℕ)) × IsNumbering (asked_in t) numbers × ¬ IsWithinLimits (with_fixups t (with_symbols (symbols_of t) (instance_of numbers t)))
WhyNotMarked _ t = ⊥
