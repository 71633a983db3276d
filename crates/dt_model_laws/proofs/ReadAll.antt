-- What is true after all places of a source.
use Rattle.std.proofs.Common.{◌≡◌, length, arith, true, false, List, [], ◌∷◌, ◌⊎◌, inl, inr, Some, None, Result, Ok, Err, refl, sym, ap, subst, ◌∙◌}
use Rattle.std.specs.List.{AllByRecursion}
use Rattle.dt_model.specs.Names.{Name}
use Rattle.dt_model.specs.Event.{Stack, names}
use Rattle.dt_model.specs.Source.{by_label, by_path, Place, root, block, delete_node, child, label, property, delete_property, delete_child, close, Mode, Refusal, SoFar, nothing, enter, and_if_read, read, read_all}
use Rattle.dt_model_laws.specs.NamedTrees.{RootStands}
use Rattle.dt_model.proofs.Cases.{all_from}
use Rattle.dt_model_laws.proofs.Sound.{sound-start}
use Rattle.dt_model_laws.proofs.Making.{Makes, makes}
use Rattle.dt_model_laws.proofs.Holding.{Rules, Obeys, Holds, holds-read}

-- nothing but a block of the root stands first
pub first_is : (mode : Mode) (place : Place) (t : SoFar) → Makes mode nothing place t → t ≡ enter nothing [] []
first_is mode root t m = m.1
first_is mode (block (by_label l)) t m = let z : None ≡ Some m.1.0 = m.1.1 in cc
first_is mode (block (by_path p)) t m = let z : None ≡ Some m.1.0 = m.1.1 in cc
first_is mode (delete_node (by_label l)) t m = let z : None ≡ Some (m.1.0 ∷ m.1.1) = m.1.2 in cc
first_is mode (delete_node (by_path p)) t m = let z : None ≡ Some (m.1.0 ∷ m.1.1) = m.1.2 in cc
first_is mode (child n) t m = let z : [] ≡ m.0 ∷ m.1 = m.2 in cc
first_is mode (label l) t m = let z : [] ≡ m.0 ∷ m.1 = m.2 in cc
first_is mode (property n v) t m = let z : [] ≡ m.0 ∷ m.1 = m.2 in cc
first_is mode (delete_property n) t m = let z : [] ≡ m.0 ∷ m.1 = m.2 in cc
first_is mode (delete_child n) t m = let z : [] ≡ m.0 ∷ m.1 = m.2 in cc
first_is mode close t m = let z : [] ≡ m.0 ∷ m.1 = m.2 in cc

pub if_read_ok : (o : Result SoFar Refusal) (next : SoFar → Result SoFar Refusal) (t : SoFar) → and_if_read o next ≡ Ok t → (s : SoFar) × (o ≡ Ok s) × (next s ≡ Ok t)
if_read_ok (Ok s) next t h = (s, refl, h)
if_read_ok (Err e) next t h = cc

pub holds-first : (r : Rules) → r.node [] → Holds r (enter nothing [] [])
holds-first r follows = record {
  sound = sound-start;
  here = λ b bs e. refl;
  each = (follows, tt);
}

holds-all : (r : Rules) (mode : Mode) (s t : SoFar) (places : List Place) → Holds r s → AllByRecursion (Obeys r mode) places → read_all mode s places ≡ Ok t → Holds r t
holds-all r mode s t [] h o e = let same : s ≡ t = cc in subst (Holds r) same h
holds-all r mode s t (place ∷ places) h o e =
    let step = if_read_ok (read mode s place) (λ u. read_all mode u places) t e in
    holds-all r mode step.0 t places (holds-read r mode s step.0 place h o.0 step.1) o.1 step.2

-- after the places of a source, unless there are none
pub holds-source : (r : Rules) (mode : Mode) (t : SoFar) (places : List Place) → r.node [] → AllByRecursion (Obeys r mode) places → read_all mode nothing places ≡ Ok t
    → ((places ≡ []) × (t ≡ nothing)) ⊎ Holds r t
holds-source r mode t [] top o e = let same : t ≡ nothing = cc in inl (refl, same)
holds-source r mode t (place ∷ places) top o e =
    let step = if_read_ok (read mode nothing place) (λ u. read_all mode u places) t e in
    let first : step.0 ≡ enter nothing [] [] = first_is mode place step.0 (makes mode nothing place step.0 step.1) in
    inr (holds-all r mode step.0 t places (subst (Holds r) (sym first) (holds-first r top)) o.1 step.2)

-- ---- a label names one node

abbrev pub no_rules : Rules
no_rules = record { node = λ p. Unit {0}; label = λ l. Unit {0}; value = λ n v. Unit {0} }

pub any_obeys : (mode : Mode) (place : Place) → Obeys no_rules mode place
any_obeys mode root = tt
any_obeys mode (block b) = tt
any_obeys mode (delete_node b) = tt
any_obeys mode (child n) = λ p h e. tt
any_obeys mode (label l) = tt
any_obeys mode (property n v) = tt
any_obeys mode (delete_property n) = tt
any_obeys mode (delete_child n) = tt
any_obeys mode close = tt

pub one_node : (mode : Mode) (places : List Place) (s : SoFar) → read_all mode nothing places ≡ Ok s → (l : Name) (p q : Stack) → names s.events l p ≡ true → names s.events l q ≡ true → p ≡ q
one_node mode places s e l p q h k =
    elim (holds-source no_rules mode s places tt (all_from (Obeys no_rules mode) (any_obeys mode) places) e) [
      | inl none ↦ let z : false ≡ true = ap (λ (t : SoFar). names t.events l p) (sym none.1) ∙ h in cc
      | inr holds ↦ holds.sound.one l p q h k
    ]

pub root_stands : RootStands
root_stands mode places s some e =
    elim (holds-source no_rules mode s places tt (all_from (Obeys no_rules mode) (any_obeys mode) places) e) [
      | inl none ↦ let l : length places ≡ 0 = ap length none.0 in absurd (omega arith)
      | inr holds ↦ holds.sound.rooted
    ]
