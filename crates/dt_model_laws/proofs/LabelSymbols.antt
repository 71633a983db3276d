-- The labels of a tree as properties: their names are names, no two the same, and each has the path of the node that it names.
use Rattle.std.proofs.Common.{◌≡◌, ◌≢◌, ℕ, true, ◌||◌, ◌==◌, List, [], ◌∷◌, ◌++◌, map, reverse, codes, refl, sym, ap, subst, ◌∙◌, inl, inr, Option, Some, None, arith, IsTrue, true≢false}
use Rattle.std.specs.List.{AllByRecursion}
use Rattle.std.specs.Option.{option_map}
use Rattle.std.proofs.lemmas.List.{map-append}
use Rattle.std.proofs.lemmas.List.Elements.{recursion_from_All, All-from_recursion}
use Rattle.std.proofs.lemmas.Bool.Decides.{nat_tests}
use Rattle.dt_model.specs.Names.{Name, is_letter, is_digit, is_name_byte, IsPropertyName, IsLabel}
use Rattle.dt_model.specs.Path.{Path, path_value}
use Rattle.dt_model.specs.Lists.{IsIn}
use Rattle.dt_model.specs.Event.{Stack, stands, names, label_age}
use Rattle.dt_model.specs.Source.{Events, labelled}
use Rattle.dt_model.specs.Tree.{Property, value_of}
use Rattle.dt_model.specs.Valid.{AreDistinct, AreProperties}
use Rattle.dt_model.specs.Instance.{symbol, AreSymbols}
use Rattle.dt_model.proofs.Cases.{all_map}
use Rattle.dt_model.proofs.Distinct.{distinct_append}
use Rattle.dt_model.proofs.Labels.{labelled_names, labelled_none}
use Rattle.dt_model_laws.proofs.Meanings.{at_path, no_twice}
use Rattle.dt_model_laws.proofs.Merging.{no_value}
use Rattle.dt_model_laws.proofs.Orders.{falls_distinct}
use Rattle.dt_model_laws.proofs.Sound.{Sound}
use Rattle.dt_model.proofs.Tests.{each_in, each_from, in_left, in_right, in_append, in_map, bytes_eq_refl, bytes_eq_other}

-- a label is a property's name
byte_is : (b : ℕ) → IsTrue (is_letter b || is_digit b || (b == 95)) → IsTrue (is_name_byte b)
byte_is b h = grind (arith, nat_tests)

pub label_is_name : (l : Name) → IsLabel l → IsPropertyName l
label_is_name l h = record {
  not_empty = h.not_empty;
  short = h.short;
  allowed = All-from_recursion (λ b. IsTrue (is_name_byte b)) l
      (all_map (λ b. IsTrue (is_letter b || is_digit b || (b == 95))) (λ b. IsTrue (is_name_byte b)) byte_is l (recursion_from_All (λ b. IsTrue (is_letter b || is_digit b || (b == 95))) l h.allowed));
}

abbrev pub names_of : List Property → List Name
names_of ps = map (λ (x : Property). x.name) ps

names_of_symbols : (p : Path) (ls : List Name) → names_of (map (symbol p) ls) ≡ ls
names_of_symbols p [] = refl
names_of_symbols p (l ∷ ls) = ap (λ xs. l ∷ xs) (names_of_symbols p ls)

names_of_all : (p : Path) (ls : List Name) (others symbols : List Property) → symbols ≡ map (symbol p) ls ++ others → names_of symbols ≡ ls ++ names_of others
names_of_all p ls others symbols e =
    ap names_of e ∙ map-append (λ (x : Property). x.name) (map (symbol p) ls) others ∙ ap (λ xs. xs ++ names_of others) (names_of_symbols p ls)

-- a property that is in the list is the one that is found, where names differ
found_value : (ps : List Property) (x : Property) → AreDistinct (names_of ps) → IsIn x ps → value_of ps x.name ≡ Some x.value
found_value [] x d i = absurd i
found_value (p ∷ ps) x d (inl same) = subst (λ (y : Property). value_of (p ∷ ps) y.name ≡ Some y.value) (sym same) (rw (bytes_eq_refl p.name) refl)
found_value (p ∷ ps) x d (inr i) =
    let other : x.name ≢ p.name = each_in (λ y. y ≢ p.name) (names_of ps) x.name d.0 (in_map (λ (y : Property). y.name) ps x i) in
    rw (bytes_eq_other x.name p.name other) (found_value ps x d.1 i)

module _ (es : Events) (s : Sound es) where
  -- a label that is listed names one of the nodes
  pub symbol_from : (ps : List Path) (symbols : List Property) (l : Name) → AreSymbols es ps symbols → IsIn l (names_of symbols) → (p : Path) × IsIn p ps × (names es l (reverse p) ≡ true)
  symbol_from [] symbols l h i = absurd (subst (λ (xs : List Property). IsIn l (names_of xs)) h i)
  symbol_from (p ∷ ps) symbols l h i =
      elim (in_append l h.0 (names_of h.1) (subst (IsIn l) (names_of_all p h.0 h.1 symbols h.2) i)) [
        | inl k ↦ (p, inl refl, each_in (λ l. names es l (reverse p) ≡ true) h.0 l h.3.sound k)
        | inr k ↦ let w = symbol_from ps h.1 l h.4 k in (w.0, inr w.1, w.2)
      ]

  -- a label that names one of the nodes is listed with its path
  pub symbol_in : (ps : List Path) (symbols : List Property) (p : Path) (l : Name) → AreSymbols es ps symbols → IsIn p ps → names es l (reverse p) ≡ true → IsIn (symbol p l) symbols
  symbol_in [] symbols p l h i named = absurd i
  symbol_in (q ∷ ps) symbols p l h (inl same) named =
      let there : names es l (reverse q) ≡ true = ap (λ r. names es l (reverse r)) (sym same) ∙ named in
      subst (IsIn (symbol p l)) (sym h.2)
      (in_left (symbol p l) (map (symbol q) h.0) h.1 (subst (λ r. IsIn (symbol r l) (map (symbol q) h.0)) (sym same) (in_map (symbol q) h.0 l (h.3.complete l there))))
  symbol_in (q ∷ ps) symbols p l h (inr i) named =
      subst (IsIn (symbol p l)) (sym h.2) (in_right (symbol p l) (map (symbol q) h.0) h.1 (symbol_in ps h.1 p l h.4 i named))

  pub symbols_distinct : (ps : List Path) (symbols : List Property) → AreDistinct ps → AreSymbols es ps symbols → AreDistinct (names_of symbols)
  symbols_distinct [] symbols d h = subst (λ (xs : List Property). AreDistinct (names_of xs)) (sym h) tt
  symbols_distinct (p ∷ ps) symbols d h =
      subst AreDistinct (sym (names_of_all p h.0 h.1 symbols h.2))
      (distinct_append h.0 (names_of h.1) (falls_distinct (λ l. label_age es l (reverse p)) h.0 h.3.sorted) (symbols_distinct ps h.1 d.1 h.4)
      (λ l i j.
      let w = symbol_from ps h.1 l h.4 j in
      let here : names es l (reverse p) ≡ true = each_in (λ l. names es l (reverse p) ≡ true) h.0 l h.3.sound i in
      each_in (λ q. q ≢ p) ps w.0 d.0 w.1 (no_twice w.0 p (s.one l (reverse w.0) (reverse p) w.2 here))))

  module _ (ps : List Path) (symbols : List Property) (d : AreDistinct ps) (h : AreSymbols es ps symbols) where
    pub symbols_are : ((l : Name) (p : Stack) → names es l p ≡ true → IsLabel l) → AreProperties symbols
    symbols_are labels = record {
      named = named;
      distinct = symbols_distinct ps symbols d h;
    }
      where
        named : AllByRecursion (λ (x : Property). IsPropertyName x.name) symbols
        named = each_from (λ (x : Property). IsPropertyName x.name) symbols (λ x i.
            let w = symbol_from ps symbols x.name h (in_map (λ (y : Property). y.name) symbols x i) in
            label_is_name x.name (labels x.name (reverse w.0) w.2))

    no_symbol : (l : Name) → ((p : Path) → IsIn p ps → names es l (reverse p) ≡ true → ⊥) → value_of symbols l ≡ None
    no_symbol l none = no_value symbols l (each_from (λ y. y ≢ l) (names_of symbols) (λ y i same.
        let w = symbol_from ps symbols y h i in none w.0 w.1 (ap (λ k. names es k (reverse w.0)) (sym same) ∙ w.2)))

    -- the value of a label is the path of the node that it names
    pub symbol_value : ((p : Path) → stands es (reverse p) ≡ true → IsIn p ps) → (l : Name) → value_of symbols l ≡ option_map path_value (option_map reverse (labelled es l))
    symbol_value all l = step (labelled es l) refl
      where
        step : (o : Option Stack) → labelled es l ≡ o → value_of symbols l ≡ option_map path_value (option_map reverse o)
        step None e = no_symbol l (λ p i named. true≢false (sym named ∙ labelled_none es l (reverse p) e))
        step (Some q) e =
            let named : names es l (reverse (reverse q)) ≡ true = at_path (λ x. names es l x ≡ true) (reverse q) q refl (labelled_names es l q e) in
            let there : IsIn (reverse q) ps = all (reverse q) (s.labels l (reverse (reverse q)) named) in
            found_value symbols (symbol (reverse q) l) (symbols_distinct ps symbols d h) (symbol_in ps symbols (reverse q) l h there named)

    pub no_phandle : ((l : Name) (p : Stack) → names es l p ≡ true → IsLabel l) → value_of symbols (codes "phandle") ≡ None
    no_phandle labels = no_symbol (codes "phandle") (λ p i named. (labels (codes "phandle") (reverse p) named).not_phandle refl)
