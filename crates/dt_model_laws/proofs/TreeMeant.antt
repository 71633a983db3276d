-- The instance of the named tree that places mean, with its labels, is the tree that they are compiled to.
use Rattle.std.proofs.Common.{◌≡◌, List, [], ◌∷◌, ◌++◌, map, refl, sym, subst, inl, inr}
use Rattle.dt_model.specs.Lists.{IsIn}
use Rattle.dt_model.specs.Source.{Events}
use Rattle.dt_model.specs.Tree.{Property}
use Rattle.dt_model.specs.Ordered.{AreLabelsInOrder}
use Rattle.dt_model.specs.Named.{NodeReference, Content, Named, NamedPlaced, nodes_of, paths_of}
use Rattle.dt_model.specs.Instance.{symbol, AreSymbols, symbols_of, instance_of}
use Rattle.dt_model_laws.specs.NamedTrees.{TreeIsMeant}
use Rattle.dt_model_laws.proofs.AskedNumbers.{named_apart}
use Rattle.dt_model_laws.proofs.InstanceMeant.{is_instance_of}
use Rattle.dt_model_laws.proofs.NamedListed.{listed_at}
use Rattle.dt_model_laws.proofs.NamedSources.{events}
use Rattle.dt_model_laws.proofs.NumberedTrees.{paths_numbered}

-- the labels of these nodes with their paths
abbrev symbols_among : List (NamedPlaced NodeReference) → List Property
symbols_among [] = []
symbols_among (n ∷ ns) = map (symbol n.path) n.content.labels ++ symbols_among ns

symbols_are : (es : Events) (ns : List (NamedPlaced NodeReference)) → ((n : NamedPlaced NodeReference) → IsIn n ns → AreLabelsInOrder es n.path n.content.labels)
    → AreSymbols es (map (λ (n : NamedPlaced NodeReference). n.path) ns) (symbols_among ns)
symbols_are es [] order = refl
symbols_are es (n ∷ ns) order = (n.content.labels, symbols_among ns, refl, order n (inl refl), symbols_are es ns (λ x i. order x (inr i)))

symbols_same : (t : Named NodeReference) → symbols_among (nodes_of t) ≡ symbols_of t
symbols_same t = refl

pub tree_is_meant : TreeIsMeant
tree_is_meant mode reservations places t numbers some valid_places reserved n is_named given =
    let es = events mode reservations places t n in
    record {
      bare = instance_of numbers t;
      instance = is_instance_of mode reservations places t numbers some valid_places reserved n is_named given;
      symbols = symbols_of t;
      labels = subst (λ ps. AreSymbols es ps (symbols_of t)) (sym (paths_numbered numbers t))
          (subst (AreSymbols es (paths_of t)) (symbols_same t) (symbols_are es (nodes_of t)
          (λ x i.
          let a = listed_at t x (named_apart t is_named) i in
          subst (λ (c : Content NodeReference). AreLabelsInOrder es x.path c.labels) a.same (n.tree.order.labels x.path a.node a.is))));
      is = refl;
    }
