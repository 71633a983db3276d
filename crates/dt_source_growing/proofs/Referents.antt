-- To what labels and paths refer, by the events and by the tables.
use Rattle.std.proofs.Common.{◌≡◌, ℕ, true, false, Option, Some, None, reverse, cond, slice_get, refl, sym, ◌∙◌, ap, subst}
use Rattle.dt_model.specs.Names.{Name}
use Rattle.dt_model.specs.Path.{Path}
use Rattle.dt_model.specs.Event.{Stack, stands, names}
use Rattle.dt_model.specs.Source.{Events, labelled, referent, by_path}
use Rattle.dt_model.proofs.Labels.{labelled_names, labelled_none}
use Rattle.dt_source_growing.specs.Shape.{given_at}
use Rattle.dt_source_growing.specs.Grown.{StandsUnder, HasLabel, IsGrown}
use Rattle.dt_source_growing.specs.Growing.{shape, IsSoundGrowing}
use Rattle.dt_source_growing.specs.Table.{name_entry}
use Rattle.dt_source_growing.specs.declared.growing.Giving.{Giving}
use Rattle.dt_source_growing.specs.declared.growing.Growing.{Growing}
use Rattle.dt_model.proofs.Cases.{bool_cases}
use Rattle.dt_source_growing.proofs.Listings.{giving_of}
use Rattle.dt_source_growing.proofs.Walks.{option_cases, node_at_once}
use Rattle.dt_source_growing.proofs.Soundness.{forest}
use Rattle.dt_source_growing.proofs.Leading.{leads_to}
use Rattle.dt_source_growing.proofs.Grows.{label_to, label_from}

stack_cases : (o : Option Stack) (P : Type 0) → (o ≡ None → P) → ((p : Stack) → o ≡ Some p → P) → P
stack_cases None P f g = f refl
stack_cases (Some p) P f g = g p refl

-- two stacks of names that lead to one node are one
pub leads_once : (g : Growing) → IsSoundGrowing g → (p q : Stack) (k : ℕ) → StandsUnder g.nodes.items p k → StandsUnder g.nodes.items q k → p ≡ q
leads_once g h p q k l m = node_at_once (shape g) (forest g h) p q k (leads_to g h p k l) (leads_to g h q k m)

module _ (g : Growing) (h : IsSoundGrowing g) (es : Events) (w : IsGrown g.nodes.items g.properties.items g.givings.items es) where
  -- what a label names has the giving that is found
  named_by : (l : Name) (p : Stack) → labelled es l ≡ Some p → (i : ℕ) × (name_entry g.labels.map.entries l ≡ Some i) × HasLabel g.nodes.items g.givings.items l p i
  named_by l p e =
      let i = w.labels_are l p (labelled_names es l p e) in
      (i.0, (label_to g h l p i.0 i.1).1, i.1)

  pub label_unknown : (l : Name) → name_entry g.labels.map.entries l ≡ None → labelled es l ≡ None
  label_unknown l none =
      stack_cases (labelled es l) _ (λ e. e)
      (λ p there. let n = named_by l p there in let clash : None ≡ Some n.0 = sym none ∙ n.1 in cc)

  -- the giving of the label's node is the one that was found
  its_giving : (l : Name) (i : ℕ) (x : Giving) → name_entry g.labels.map.entries l ≡ Some i → slice_get g.givings.items i ≡ Some x → (p : Stack) → labelled es l ≡ Some p → StandsUnder g.nodes.items p x.node
  its_giving l i x e at p there =
      let n = named_by l p there in
      let same : Some i ≡ Some n.0 = sym e ∙ n.1 in
      let ij : i ≡ n.0 = cc in
      let s : Some x ≡ Some n.2.giving = sym at ∙ ap (slice_get g.givings.items) ij ∙ n.2.there in
      let xy : n.2.giving ≡ x = cc in
      subst (λ (y : Giving). StandsUnder g.nodes.items p y.node) xy n.2.node

  pub label_gone : (l : Name) (i : ℕ) (x : Giving) → name_entry g.labels.map.entries l ≡ Some i → slice_get g.givings.items i ≡ Some x → ((p : Stack) → ¬ StandsUnder g.nodes.items p x.node) → labelled es l ≡ None
  label_gone l i x e at gone = stack_cases (labelled es l) _ (λ none. none) (λ p there. absurd (gone p (its_giving l i x e at p there)))

  pub label_there : (l : Name) (i : ℕ) (x : Giving) → name_entry g.labels.map.entries l ≡ Some i → slice_get g.givings.items i ≡ Some x → (p : Stack) → StandsUnder g.nodes.items p x.node → labelled es l ≡ Some p
  label_there l i x e at p leads =
      let s = giving_of g.givings.items i l (h.has_labels.sound l i e) in
      let same : Some s.0 ≡ Some x = sym s.1 ∙ at in
      let sx : s.0 ≡ x = cc in
      let has : HasLabel g.nodes.items g.givings.items l p i = record { giving = x; there = at; label = ap (λ (y : Giving). y.label.now) (sym sx) ∙ s.2; node = leads } in
      let named : names es l p ≡ true = w.labels_stand l p i has in
      stack_cases (labelled es l) _
      (λ none. let not : names es l p ≡ false = labelled_none es l p none in cc)
      (λ q there. there ∙ ap Some (leads_once g h q p x.node (its_giving l i x e at q there) leads))

  pub path_there : (p : Path) (k : ℕ) → StandsUnder g.nodes.items (reverse p) k → referent es (by_path p) ≡ Some (reverse p)
  path_there p k leads = ap (λ b. cond b (Some (reverse p)) None) (w.nodes_stand (reverse p) k leads)

  pub path_lost : (p : Path) → ((k : ℕ) → ¬ StandsUnder g.nodes.items (reverse p) k) → referent es (by_path p) ≡ None
  path_lost p lost =
      bool_cases (stands es (reverse p)) _
      (λ y. let k = w.nodes_are (reverse p) y in absurd (lost k.0 k.1))
      (λ n. ap (λ b. cond b (Some (reverse p)) None) n)

module _ (g : Growing) (h : IsSoundGrowing g) where
  -- a label that isn't found, or whose node is gone, is given to no node that stands
  pub given_unknown : (l : Name) → name_entry g.labels.map.entries l ≡ None → (p : Stack) → given_at (shape g) (p, l) ≡ None
  given_unknown l none p =
      option_cases (given_at (shape g) (p, l)) _ (λ e. e)
      (λ i there. let e : None ≡ Some i = sym none ∙ (label_to g h l p i (label_from g h l p i there)).1 in cc)

  pub given_gone : (l : Name) (i : ℕ) (x : Giving) → name_entry g.labels.map.entries l ≡ Some i → slice_get g.givings.items i ≡ Some x → ((p : Stack) → ¬ StandsUnder g.nodes.items p x.node)
      → (p : Stack) → given_at (shape g) (p, l) ≡ None
  given_gone l i x e at gone p =
      option_cases (given_at (shape g) (p, l)) _ (λ e. e)
      (λ j there.
      let has = label_from g h l p j there in
      let same : Some i ≡ Some j = sym e ∙ (label_to g h l p j has).1 in
      let ij : i ≡ j = cc in
      let s : Some x ≡ Some has.giving = sym at ∙ ap (slice_get g.givings.items) ij ∙ has.there in
      let xy : has.giving ≡ x = cc in
      absurd (gone p (subst (λ (y : Giving). StandsUnder g.nodes.items p y.node) xy has.node)))
