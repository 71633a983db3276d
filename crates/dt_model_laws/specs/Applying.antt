-- Trees and objects as they are read, and the meanings and overlays that they are of.
use Rattle.std.specs.Prelude.{◌≡◌, ◌≢◌, ℕ, true, List, [], ◌∷◌, codes}
use Rattle.dt_model.specs.Names.{Name}
use Rattle.dt_model.specs.Path.{Path, is_bookkeeping}
use Rattle.dt_model.specs.Meaning.{Meaning, IsMeaning, IsPlain}
use Rattle.dt_model.specs.Tree.{Reading, stands_in, value_in}
use Rattle.dt_model.specs.Valid.{IsValid, IsWithinLimits}
use Rattle.dt_model.specs.Represents.{Represents}
use Rattle.dt_model.specs.Overlay.{Overlay, IsOverlay}
use Rattle.dt_model.specs.Object.{Encodes}

-- a base and an object, as they are read, are those of the meaning and of the overlay, by these numbers
pub record AreOf (base object : Reading) (m : Meaning) (o : Overlay) (number local : Path → ℕ) : Type 0 where
  pub represented : Represents base m number
  pub encoded : Encodes object o local
  pub meaning : IsMeaning m
  pub plain : IsPlain m
  pub overlay : IsOverlay o
  pub valid_base : IsValid base
  pub valid_object : IsValid object
  pub few_in_base : IsWithinLimits base
  pub few_in_object : IsWithinLimits object

-- the bookkeeping nodes stay as they were, `/__symbols__` itself aside
pub record KeepsBookkeeping (base t : Reading) : Type 0 where
  pub nodes : (x : Name) (p : Path) → is_bookkeeping (x ∷ p) ≡ true → x ∷ p ≢ codes "__symbols__" ∷ [] → stands_in t (x ∷ p) ≡ stands_in base (x ∷ p)
  pub values : (x : Name) (p : Path) (name : Name) → is_bookkeeping (x ∷ p) ≡ true → x ∷ p ≢ codes "__symbols__" ∷ []
      → value_in t (x ∷ p) name ≡ value_in base (x ∷ p) name

-- an object is an overlay's, by numbers of its own
pub record IsObject (object : Reading) (o : Overlay) : Type 0 where
  pub local : Path → ℕ
  pub encodes : Encodes object o local
  pub overlay : IsOverlay o
  pub valid : IsValid object
  pub few : IsWithinLimits object

abbrev pub AreObjects : List Reading → List Overlay → Type 0
AreObjects [] [] = Unit {0}
AreObjects [] (o ∷ overlays) = ⊥
AreObjects (x ∷ objects) [] = ⊥
AreObjects (x ∷ objects) (o ∷ overlays) = IsObject x o × AreObjects objects overlays
