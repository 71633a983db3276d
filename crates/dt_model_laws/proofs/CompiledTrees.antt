-- What places are compiled to is a tree that a blob may hold, and a base's represents its meaning.
use Rattle.std.proofs.Common.{◌≡◌, ℕ, Bool, true, false, List, [], ◌∷◌, codes, refl, sym, ap, subst, ◌∙◌, inl, inr, Ok}
use Rattle.std.specs.List.{AllByRecursion}
use Rattle.std.specs.Option.{option_map}
use Rattle.dt_model.specs.Names.{Name, IsLabel}
use Rattle.dt_model.specs.Path.{path_value}
use Rattle.dt_model.specs.Meaning.{Meaning}
use Rattle.dt_model.specs.Event.{Stack, names}
use Rattle.dt_model.specs.Source.{Events, Place, IsPlace, Mode, base, raw, SoFar, nothing, read_all}
use Rattle.dt_model.specs.Tree.{Property, Reading, stands_in, value_of}
use Rattle.dt_model.specs.Valid.{IsValid, AreDistinct}
use Rattle.dt_model.specs.Numbers.{paths_of}
use Rattle.dt_model.specs.Represents.{Represents}
use Rattle.dt_model.specs.Instance.{IsInstanceOf, AreSymbols, with_symbols}
use Rattle.dt_model_laws.specs.CompiledTrees.{TreeIsValid, BaseTreeRepresents}
use Rattle.dt_model.proofs.Cases.{all_map}
use Rattle.dt_model_laws.proofs.AddedNode.{value_of_label, stands_elsewhere, value_elsewhere, valid_with_symbols}
use Rattle.dt_model_laws.proofs.Bound.{named_rules, named_obeys}
use Rattle.dt_model_laws.proofs.Holding.{Obeys, label_follows}
use Rattle.dt_model_laws.proofs.LabelSymbols.{symbols_are, symbol_value, no_phandle}
use Rattle.dt_model_laws.proofs.OneTree.{is_meant, meant_sound}
use Rattle.dt_model_laws.proofs.Plain.{source_plain}
use Rattle.dt_model.proofs.Preorder.{paths_distinct}
use Rattle.dt_model_laws.proofs.ReadAll.{holds-source}
use Rattle.dt_model_laws.proofs.Sound.{Sound}
use Rattle.dt_model_laws.proofs.StandingNodes.{stands_among}

-- the labels that name nodes are labels
labels_named : (mode : Mode) (places : List Place) (s : SoFar) → AllByRecursion IsPlace places → read_all mode nothing places ≡ Ok s → (l : Name) (p : Stack) → names s.events l p ≡ true → IsLabel l
labels_named mode places s valid read l p named =
    elim (holds-source named_rules mode s places tt (all_map IsPlace (Obeys named_rules mode) (named_obeys mode) places valid) read) [
      | inl none ↦ let z : false ≡ true = ap (λ (x : SoFar). names x.events l p) (sym none.1) ∙ named in cc
      | inr holds ↦ label_follows named_rules s.events l p holds.each named
    ]

module _ (reservations : List (ℕ × ℕ)) (places : List Place) (t : Reading) (i : IsInstanceOf base reservations places t) (valid : AllByRecursion IsPlace places)
    (symbols : List Property) (are : AreSymbols i.means.so_far.events (paths_of t) symbols) where
  abbrev es : Events
  es = i.means.so_far.events

  sound : Sound es
  sound = meant_sound base reservations places t i

  distinct : AreDistinct (paths_of t)
  distinct = paths_distinct t i.valid

  labels : (l : Name) (p : Stack) → names es l p ≡ true → IsLabel l
  labels = labels_named base places i.means.so_far valid i.means.all_read

  -- a base has no node for labels
  no_node : stands_in t (codes "__symbols__" ∷ []) ≡ false
  no_node = step (stands_in t (codes "__symbols__" ∷ [])) refl
    where
      step : (b : Bool) → stands_in t (codes "__symbols__" ∷ []) ≡ b → b ≡ false
      step false e = refl
      step true e = (source_plain reservations places i.meaning i.means).plain (codes "__symbols__" ∷ []) (sym (i.instance.nodes (codes "__symbols__" ∷ [])) ∙ e)

  pub symbols_valid : IsValid (with_symbols symbols t)
  symbols_valid =
      valid_with_symbols t symbols no_node i.valid (symbols_are es sound (paths_of t) symbols distinct are labels) (no_phandle es sound (paths_of t) symbols distinct are labels)

  label_value : (l : Name) → value_of symbols l ≡ option_map path_value (i.meaning.label l)
  label_value l =
      symbol_value es sound (paths_of t) symbols distinct are
      (λ p there. stands_among t p ((is_meant base reservations places t i).instance.nodes p ∙ there)) l
      ∙ ap (λ (m : Meaning). option_map path_value (m.label l)) (sym i.means.means)

  pub symbols_represent : Represents (with_symbols symbols t) i.meaning i.number
  symbols_represent = record {
    naming = i.instance.naming;
    reservations = kept symbols ∙ i.instance.reservations;
    nodes = λ p other. stands_elsewhere t symbols p other ∙ i.instance.nodes p;
    values = λ p n other. value_elsewhere t symbols p n other ∙ i.instance.values p n;
    symbols = λ l. value_of_label t no_node symbols l ∙ label_value l;
  }
    where
      kept : (symbols : List Property) → (with_symbols symbols t).reservations ≡ t.reservations
      kept [] = refl
      kept (s ∷ symbols) = refl

pub tree_valid : TreeIsValid
tree_valid base reservations places t some valid w = subst IsValid (sym w.is) (symbols_valid reservations places w.bare w.instance valid w.symbols w.labels)
tree_valid raw reservations places t some valid w = subst IsValid (sym w.is) w.instance.valid

pub base_tree_represents : BaseTreeRepresents
base_tree_represents reservations places t valid w = (
  w.instance.meaning,
  w.instance.number,
  w.instance.means,
  subst (λ (x : Reading). Represents x w.instance.meaning w.instance.number) (sym w.is) (symbols_represent reservations places w.bare w.instance valid w.symbols w.labels),
)
