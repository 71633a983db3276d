-- The tree that a source is compiled to, by tests.
use Rattle.std.proofs.Common.{◌≡◌, ℕ, Bool, true, false, not, List, [], ◌∷◌, Option, Some, None, is_some, codes, refl, sym, ap, subst, ◌∙◌, inl, inr, true≢false}
use Rattle.std.specs.Prelude.{option_and_then, if◌then◌else◌}
use Rattle.std.specs.List.{list_all}
use Rattle.std.specs.Option.{option_map}
use Rattle.std.specs.Str.{bytes_eq}
use Rattle.dt_model.specs.Names.{Name}
use Rattle.dt_model.specs.Path.{Path, is_bookkeeping, is_bookkeeping_name}
use Rattle.dt_model.specs.Meaning.{Item, cell, value_bytes, Meaning, IsMeaning, IsPlain, instance_value}
use Rattle.dt_model.specs.Source.{base, SourceMeans}
use Rattle.dt_model.specs.Lists.{IsIn}
use Rattle.dt_model.specs.Tree.{Property, Forest, no_nodes, branch, Reading, Node, sibling, node_below, value_of, node_at, stands_in, value_in}
use Rattle.dt_model.specs.Valid.{names}
use Rattle.dt_model.specs.Numbers.{paths_of}
use Rattle.dt_model.specs.Numbering.{HasLeastNumbers}
use Rattle.dt_model.specs.Ordered.{IsInOrder}
use Rattle.dt_model.specs.Represents.{Represents}
use Rattle.dt_model.specs.Instance.{IsInstance, IsTreeOf, AreSymbols, with_symbols}
use Rattle.dt_model.specs.Rows.{events, events_of}
use Rattle.dt_model_laws.specs.Premises.{numbering, Base, base_meaning}
use Rattle.dt_model_laws.proofs.AddedNode.{stands_elsewhere, value_elsewhere}
use Rattle.dt_model.proofs.Cases.{some_there, then_some}
use Rattle.dt_model_laws.proofs.CheckedCases.{IsCheckedBase, base_means, base_is}
use Rattle.dt_model_laws.proofs.CheckedOrders.{is_ordered, ordered, listed_by, are_labels, symbols_listed}
use Rattle.dt_model_laws.proofs.CheckedSources.{read_meaning, read_plain}
use Rattle.dt_model_laws.proofs.CheckedTrees.{IsChecked, checked_valid}
use Rattle.dt_model.proofs.Tests.{all_at, not_true, bytes_eq_true}

-- ---- the instance of a plain meaning, from a tree that represents it

module _ (m : Meaning) (number : Path → ℕ) (is : IsMeaning m) where
  -- what doesn't stand has no value
  no_value_of : (p : Path) (n : Name) → m.stands p ≡ false → m.value p n ≡ None
  no_value_of p n out = step (m.value p n) refl
    where
      step : (o : Option (List (Item Path))) → m.value p n ≡ o → o ≡ None
      step None e = refl
      step (Some items) e = absurd (true≢false (sym (is.values_stand p n (ap is_some e)) ∙ out))

  not_keyed : (p : Path) → m.stands p ≡ false → m.keyed p ≡ false
  not_keyed p out = step (m.keyed p) refl
    where
      step : (b : Bool) → m.keyed p ≡ b → b ≡ false
      step false e = refl
      step true e = absurd (true≢false (sym (is.keyed_stand p e) ∙ out))

  no_instance_value : (p : Path) (n : Name) → m.stands p ≡ false → instance_value m number p n ≡ None
  no_instance_value p n out = step (bytes_eq n (codes "phandle")) refl
    where
      step : (b : Bool) → bytes_eq n (codes "phandle") ≡ b → instance_value m number p n ≡ None
      step true e = rw e (ap (λ (b : Bool). if b then Some (cell (number p)) else None) (not_keyed p out))
      step false e = rw e (ap (option_map (value_bytes number)) (no_value_of p n out))

-- ---- no bookkeeping node

sibling_in : (fs : Forest) (x : Name) (c : Node) → sibling fs x ≡ Some c → IsIn x (names fs)
sibling_in no_nodes x c h = cc
sibling_in (branch y ps cs s) x c h = step (λ k. sibling_in s x c k) (bytes_eq x y) refl
  where
    step : (sibling s x ≡ Some c → IsIn x (names s)) → (b : Bool) → bytes_eq x y ≡ b → IsIn x (y ∷ names s)
    step more true e = inl (bytes_eq_true x y e)
    step more false e = inr (more (rw e at h))

no_bookkeeping : (t : Reading) → list_all (λ x. not (is_bookkeeping_name x)) (names t.children) ≡ true → (p : Path) → is_bookkeeping p ≡ true → stands_in t p ≡ false
no_bookkeeping t h [] book = cc
no_bookkeeping t h (x ∷ p) book = step (stands_in t (x ∷ p)) refl
  where
    step : (b : Bool) → stands_in t (x ∷ p) ≡ b → b ≡ false
    step false e = refl
    step true e =
        let n = some_there (node_at t (x ∷ p)) e in
        let c = then_some (λ c. node_below c p) (sibling t.children x) n.0 n.1 in
        absurd (true≢false (sym book ∙ not_true (is_bookkeeping_name x) (all_at (λ x. not (is_bookkeeping_name x)) (names t.children) x h (sibling_in t.children x c.0 c.1))))

no_value_in : (t : Reading) (p : Path) (n : Name) → stands_in t p ≡ false → value_in t p n ≡ None
no_value_in t p n out = step (node_at t p) refl
  where
    step : (o : Option Node) → node_at t p ≡ o → value_in t p n ≡ None
    step None e = ap (option_and_then (λ (c : Node). value_of c.properties n)) e
    step (Some c) e = absurd (true≢false (sym (ap is_some e) ∙ out))

module _ (m : Meaning) (number : Path → ℕ) (is : IsMeaning m) (plain : IsPlain m) (t : Reading) (symbols : List Property) (represents : Represents (with_symbols symbols t) m number)
    (kept : t.reservations ≡ m.reservations) (no_book : list_all (λ x. not (is_bookkeeping_name x)) (names t.children) ≡ true) where
  not_meant : (p : Path) → is_bookkeeping p ≡ true → m.stands p ≡ false
  not_meant p book = step (m.stands p) refl
    where
      step : (b : Bool) → m.stands p ≡ b → b ≡ false
      step false e = refl
      step true e = absurd (true≢false (sym book ∙ plain.plain p e))

  bare_instance : IsInstance t m number
  bare_instance = record {
    naming = represents.naming;
    reservations = kept;
    nodes = λ p. nodes p (is_bookkeeping p) refl;
    values = λ p n. values p n (is_bookkeeping p) refl;
  }
    where
      nodes : (p : Path) (b : Bool) → is_bookkeeping p ≡ b → stands_in t p ≡ m.stands p
      nodes p false e = sym (stands_elsewhere t symbols p e) ∙ represents.nodes p e
      nodes p true e = no_bookkeeping t no_book p e ∙ sym (not_meant p e)

      values : (p : Path) (n : Name) (b : Bool) → is_bookkeeping p ≡ b → value_in t p n ≡ instance_value m number p n
      values p n false e = sym (value_elsewhere t symbols p n e) ∙ represents.values p n e
      values p n true e = no_value_in t p n (no_bookkeeping t no_book p e) ∙ sym (no_instance_value m number is p n (not_meant p e))

-- ---- the tests

-- the tree without its labels, and its labels
pub record IsCheckedTree (b : Base) (t : Reading) (symbols : List Property) : Type 0 where
  pub labelled : with_symbols symbols t ≡ b.tree
  pub valid : IsChecked t
  pub no_bookkeeping : list_all (λ x. not (is_bookkeeping_name x)) (names t.children) ≡ true
  pub least : HasLeastNumbers t (base_meaning b) (numbering b.numbers)
  pub ordered : is_ordered (events b.places) (base_meaning b) t ≡ true
  pub labels : are_labels (events b.places) symbols (paths_of t) ≡ true
  pub listed : listed_by symbols (paths_of t) ≡ symbols

pub tree_is : (b : Base) (ns : List Name) (t : Reading) (symbols : List Property) → IsCheckedBase b ns → IsCheckedTree b t symbols → IsTreeOf base [] b.places b.tree
tree_is b ns t symbols h k = record {
  bare = t;
  instance = record {
    meaning = base_meaning b;
    means = means;
    number = numbering b.numbers;
    instance = bare_instance (base_meaning b) (numbering b.numbers) (read_meaning b.places (events b.places) (paths_of b.tree) ns h.base.read) (read_plain b.places (events b.places) (paths_of b.tree) ns h.base.read) t symbols
        (subst (λ (x : Reading). Represents x (base_meaning b) (numbering b.numbers)) (sym k.labelled) (base_is b ns h)) k.valid.reservations k.no_bookkeeping;
    least = k.least;
    order = subst (λ es. IsInOrder es (base_meaning b) t) end (ordered (events b.places) (base_meaning b) t k.ordered);
    valid = checked_valid t k.valid;
    boot_cpu = k.valid.boot_cpu;
  };
  symbols = symbols;
  labels = subst (λ es. AreSymbols es (paths_of t) symbols) end (subst (AreSymbols (events b.places) (paths_of t)) k.listed (symbols_listed (events b.places) symbols (paths_of t) k.labels));
  is = sym k.labelled;
}
  where
    means : SourceMeans base [] b.places (base_meaning b)
    means = base_means b ns h

    end : events b.places ≡ means.so_far.events
    end = ap events_of means.all_read
