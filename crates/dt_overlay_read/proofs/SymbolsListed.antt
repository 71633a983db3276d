-- What is listed for the labels of an object, as a loop goes over the properties of `__symbols__`.
use Rattle.std.proofs.Common.{◌≡◌, ℕ, Bool, true, false, List, [], ◌∷◌, ◌++◌, Option, Some, None, refl, sym, ap, subst, ◌∙◌, inl, inr, append_assoc}
use Rattle.std.specs.List.{flat_map}
use Rattle.std.proofs.lemmas.List.{append-nil, append_cancel_right}
use Rattle.dt_model.specs.Lists.{IsIn}
use Rattle.dt_model.specs.Names.{Name}
use Rattle.dt_model.specs.Numbers.{is_brought}
use Rattle.dt_model.specs.Object.{fragment_names}
use Rattle.dt_model.specs.Path.{Path}
use Rattle.dt_model.specs.Tree.{Property, Reading, nodes_of}
use Rattle.dt_model.specs.Valid.{IsValid}
use Rattle.dt_model.specs.Applied.{node_named}
use Rattle.dt_trees.specs.Placed.{PlacedTree, reading_of}
use Rattle.dt_overlay_texts.specs.Cuts.{IsCut}
use Rattle.dt_overlay_laws.specs.Objects.{IsOfFragment, IsSymbol, symbols_in}
use Rattle.dt_overlay_object.specs.declared.kept.Symbol.{Symbol}
use Rattle.dt_overlay_object.specs.Plans.{IsSymbolOf, AreSymbolsOf, symbol_brought, ListsSymbols}
use Rattle.dt_overlay_read.specs.Symbols.{ListsNamed}
use Rattle.dt_overlay_read.proofs.SymbolsNodes.{text_names, named_is_brought, brought_is_named}

-- ---- one label

-- a value is one text with its NUL
pub text_is_one : (object : Reading) (value text : List ℕ) → IsCut 0 value text [] → (s : IsSymbol object value) → s.text ≡ text
text_is_one object value text cut s = append_cancel_right s.text text (0 ∷ []) (sym s.whole ∙ cut.whole)

-- a value that is no such text is no symbol
pub no_symbol : (object : Reading) (value : List ℕ) → ((text : List ℕ) → ¬ IsCut 0 value text []) → ¬ IsSymbol object value
no_symbol object value never s = never s.text (record { whole = s.whole; lacks = s.one })

-- nor is one that names no node where a fragment would bring one
pub missing_symbol : (object : Reading) (value text : List ℕ) → IsCut 0 value text [] → IsOfFragment object text → node_named (nodes_of object) (text ++ 0 ∷ []) ≡ None → ¬ IsSymbol object value
missing_symbol object value text cut of none s =
    let named = s.named (subst (IsOfFragment object) (sym (text_is_one object value text cut s)) of) in
    let both : None ≡ Some named.0 = sym none ∙ ap (node_named (nodes_of object)) (sym cut.whole) ∙ named.1 in
    cc

-- what a label brings, where its value names no node of a fragment
brought_nothing : (object : Reading) (x : Property) (text : List ℕ) → IsValid object → IsCut 0 x.value text [] → ¬ IsOfFragment object text → symbol_brought object x ≡ []
brought_nothing object x text valid cut not = by (node_named (nodes_of object) x.value) refl
  where
    by : (o : Option Path) → node_named (nodes_of object) x.value ≡ o → symbol_brought object x ≡ []
    by None e = rw e refl
    by (Some p) e = test (is_brought (fragment_names object.children) p) refl
      where
        test : (b : Bool) → is_brought (fragment_names object.children) p ≡ b → symbol_brought object x ≡ []
        test false h = rw (e, h) refl
        test true h =
            let found = text_names object text p valid (ap (node_named (nodes_of object)) (sym cut.whole) ∙ e) in
            absurd (not (brought_is_named object text p found.1 h))

-- and where it does
brought_one : (object : Reading) (x : Property) (text : List ℕ) (p : Path) → IsValid object → IsCut 0 x.value text [] → IsOfFragment object text → node_named (nodes_of object) (text ++ 0 ∷ []) ≡ Some p
    → symbol_brought object x ≡ (x.name, p) ∷ []
brought_one object x text p valid cut of named =
    let e : node_named (nodes_of object) x.value ≡ Some p = ap (node_named (nodes_of object)) cut.whole ∙ named in
    let found = text_names object text p valid named in
    let brought : is_brought (fragment_names object.children) p ≡ true = named_is_brought object text p valid found.1 of in
    rw (e, brought) refl

-- a label of a node that doesn't land isn't listed
pub ListsNamed-nothing : (a : PlacedTree) (x : Property) (text : List ℕ) (out : List Symbol) → IsValid (reading_of a) → IsCut 0 x.value text [] → ¬ IsOfFragment (reading_of a) text → ListsNamed a (x ∷ []) out out
ListsNamed-nothing a x text out valid cut not = record {
  more = [];
  appended = sym (append-nil out);
  symbols = subst (λ (ys : List (Name × Path)). AreSymbolsOf a [] ys) (sym (append-nil (symbol_brought (reading_of a) x) ∙ brought_nothing (reading_of a) x text valid cut not)) tt;
  well = (record { text = text; whole = cut.whole; one = cut.lacks; named = λ of. absurd (not of) }, tt);
}

-- that of one that lands is
pub ListsNamed-node : (a : PlacedTree) (x : Property) (text : List ℕ) (p : Path) (y : Symbol) (old new : List Symbol) → IsValid (reading_of a) → IsCut 0 x.value text [] → IsOfFragment (reading_of a) text
    → node_named (nodes_of (reading_of a)) (text ++ 0 ∷ []) ≡ Some p → IsSymbolOf a y (x.name, p) → new ≡ old ++ y ∷ [] → ListsNamed a (x ∷ []) old new
ListsNamed-node a x text p y old new valid cut of named is appended = record {
  more = y ∷ [];
  appended = appended;
  symbols = subst (λ (ys : List (Name × Path)). AreSymbolsOf a (y ∷ []) ys) (sym (append-nil (symbol_brought (reading_of a) x) ∙ brought_one (reading_of a) x text p valid cut of named)) (is, tt);
  well = (record { text = text; whole = cut.whole; one = cut.lacks; named = λ also. (p, ap (node_named (nodes_of (reading_of a))) cut.whole ∙ named) }, tt);
}

-- ---- several

AreSymbolsOf-append : (slots : PlacedTree) (xs ys : List Symbol) (ps qs : List (Name × Path)) → AreSymbolsOf slots xs ps → AreSymbolsOf slots ys qs → AreSymbolsOf slots (xs ++ ys) (ps ++ qs)
AreSymbolsOf-append slots [] ys [] qs h k = k
AreSymbolsOf-append slots [] ys (p ∷ ps) qs h k = absurd h
AreSymbolsOf-append slots (x ∷ xs) ys [] qs h k = absurd h
AreSymbolsOf-append slots (x ∷ xs) ys (p ∷ ps) qs h k = (h.0, AreSymbolsOf-append slots xs ys ps qs h.1 k)

pub ListsNamed-none : (a : PlacedTree) (out : List Symbol) → ListsNamed a [] out out
ListsNamed-none a out = record { more = []; appended = sym (append-nil out); symbols = tt; well = tt }

-- what is listed for one, and then for others
pub ListsNamed-more : (a : PlacedTree) (x : Property) (rest : List Property) (old mid new : List Symbol) → ListsNamed a (x ∷ []) old mid → ListsNamed a rest mid new → ListsNamed a (x ∷ rest) old new
ListsNamed-more a x rest old mid new first others = record {
  more = first.more ++ others.more;
  appended = others.appended ∙ ap (λ (xs : List Symbol). xs ++ others.more) first.appended ∙ append_assoc old first.more others.more;
  symbols = AreSymbolsOf-append a first.more others.more (symbol_brought (reading_of a) x) (flat_map (symbol_brought (reading_of a)) rest)
      (subst (λ (ys : List (Name × Path)). AreSymbolsOf a first.more ys) (append-nil (symbol_brought (reading_of a) x)) first.symbols) others.symbols;
  well = (first.well.0, others.well);
}

-- ---- as a loop goes on

-- what is listed for the properties that are left completes what is listed for all
pub record NamedLeft (a : PlacedTree) (all left : List Property) (before after : List Symbol) : Type 0 where
  pub listed : (new : List Symbol) → ListsNamed a left after new → ListsNamed a all before new
  pub among : (x : Property) → IsIn x left → IsIn x all

pub named_begin : (a : PlacedTree) (all left : List Property) (out : List Symbol) → left ≡ all → NamedLeft a all left out out
named_begin a all left out e = record {
  listed = λ new l. subst (λ (ps : List Property). ListsNamed a ps out new) e l;
  among = λ x i. subst (IsIn x) e i;
}

pub named_step : (a : PlacedTree) (all left rest : List Property) (x : Property) (before after out : List Symbol) → left ≡ x ∷ rest → NamedLeft a all left before after → ListsNamed a (x ∷ []) after out
    → NamedLeft a all rest before out
named_step a all left rest x before after out e so_far first = record {
  listed = λ new others. so_far.listed new (subst (λ (ps : List Property). ListsNamed a ps after new) (sym e) (ListsNamed-more a x rest after out new first others));
  among = λ y i. so_far.among y (subst (IsIn y) (sym e) (inr i));
}

pub named_among : (a : PlacedTree) (all left rest : List Property) (x : Property) (before after : List Symbol) → left ≡ x ∷ rest → NamedLeft a all left before after → IsIn x all
named_among a all left rest x before after e so_far = so_far.among x (subst (IsIn x) (sym e) (inl refl))

-- ---- all of them

pub symbols_listed : (a : PlacedTree) (ps : List Property) (old new : List Symbol) → symbols_in (reading_of a) ≡ ps → ListsNamed a ps old new → ListsSymbols a old new
symbols_listed a ps old new e named =
    let l : ListsNamed a (symbols_in (reading_of a)) old new = subst (λ (qs : List Property). ListsNamed a qs old new) (sym e) named in
    record { more = l.more; appended = l.appended; symbols = l.symbols; well = l.well }

pub named_over : (a : PlacedTree) (all left : List Property) (before after : List Symbol) → symbols_in (reading_of a) ≡ all → left ≡ [] → NamedLeft a all left before after → ListsSymbols a before after
named_over a all left before after is e so_far =
    symbols_listed a all before after is (so_far.listed after (subst (λ (ps : List Property). ListsNamed a ps after after) (sym e) (ListsNamed-none a after)))
