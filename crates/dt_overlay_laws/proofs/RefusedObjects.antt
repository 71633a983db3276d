-- An object of an overlay is as it has to be so that it is applied, where the base gives the labels that it waits for.
use Rattle.std.proofs.Common.{◌≡◌, ℕ, ◌+◌, ◌≤◌, true, false, List, [], ◌∷◌, map, codes, length, refl, sym, ap, subst, ◌∙◌, inl, inr, Option, Some, None, true≢false, arith}
use Rattle.std.specs.Prelude.{is_some, IsSome, option_map, if◌then◌else◌}
use Rattle.dt_model.specs.Names.{Name}
use Rattle.dt_model.specs.Path.{Path, path_text, path_value, is_bookkeeping}
use Rattle.dt_model.specs.Lists.{IsIn}
use Rattle.dt_model.specs.Meaning.{byte, reference, cell, value_bytes, Meaning}
use Rattle.dt_model.specs.Overlay.{object_number, OverlayReference, inside, outside, Target, at_reference, at_path, Fragment, Overlay, IsOverlay, IsBrought, IsReferent, IsContained, HoldsTarget}
use Rattle.dt_model.specs.Merged.{Site, IsDefined}
use Rattle.dt_model.specs.Object.{Cell, IsCellOf, fragment_names, properties_of, words_of, Encodes, HasCell}
use Rattle.dt_model.specs.Numbers.{is_brought}
use Rattle.dt_model.specs.Tree.{Property, Reading, node_at, nodes_of, stands_in, value_in}
use Rattle.dt_model.specs.Valid.{IsValid}
use Rattle.dt_model.specs.Applied.{node_named, node_numbered}
use Rattle.dt_model_laws.specs.Applying.{AreOf}
use Rattle.dt_overlay_laws.specs.Objects.{HasTarget, fixups_in, AreCellsOf, SymbolHasNumber, IsFixup, IsLocalCell, IsLocalFixup, IsMirror, symbols_in, IsSymbol, IsWellFormed}
use Rattle.dt_model.proofs.Tests.{each_from, in_map_from}
use Rattle.dt_model.proofs.Texts.{path_text_has_no}
use Rattle.dt_model_laws.proofs.ReferenceCells.{offset_within}
use Rattle.dt_model.proofs.Finding.{node_of_number, node_of_text}
use Rattle.dt_model_laws.proofs.Given.{phandle_of, symbol_is, object_value_is, object_items, object_phandle}
use Rattle.dt_model.proofs.Inside.{each_at, plain_fragment}
use Rattle.dt_model_laws.proofs.Numbered.{small_number, brought_from, brought_to}
use Rattle.dt_model_laws.proofs.Facts.{given_each}
use Rattle.dt_model_laws.proofs.Writes.{read_value}
use Rattle.dt_overlay_laws.proofs.RefusedValues.{names_differ, property_value, fixup_texts, cell_of, listed_cell}

-- bytes without references
plain_value : {R : Type 0} (f : R → ℕ) (bytes : List ℕ) → value_bytes f (map byte bytes) ≡ bytes
plain_value f [] = refl
plain_value f (b ∷ bytes) = ap (λ z. b ∷ z) (plain_value f bytes)

module _ (object : Reading) (o : Overlay) (local : Path → ℕ) (encodes : Encodes object o local) (overlay : IsOverlay o) (valid : IsValid object) where
  -- ---- fragments

  fragment_target : (f : Fragment) → IsIn f o.fragments → HasTarget object f.name
  fragment_target f i = step f.target refl
    where
      plain : is_bookkeeping (f.name ∷ []) ≡ false
      plain = plain_fragment o overlay f [] i

      step : (t : Target) → f.target ≡ t → HasTarget object f.name
      step (at_reference r) e =
          let held = subst (λ t. HoldsTarget o f.name t) e (overlay.targeted f i) in
          inl (value_bytes (object_number local) (reference r ∷ []), object_items object o local encodes overlay (f.name ∷ []) (codes "target") (reference r ∷ []) plain held, refl)
      step (at_path p) e =
          let held = subst (λ t. HoldsTarget o f.name t) e (overlay.targeted f i) in
          let none : value_in object (f.name ∷ []) (codes "target") ≡ None = object_value_is object o local encodes overlay (f.name ∷ []) (codes "target") plain refl ∙ ap (option_map (value_bytes (object_number local))) held.0 in
          let text : value_in object (f.name ∷ []) (codes "target-path") ≡ Some (path_value p) =
          object_value_is object o local encodes overlay (f.name ∷ []) (codes "target-path") plain refl ∙ ap (option_map (value_bytes (object_number local))) held.1 ∙ ap Some (plain_value (object_number local) (path_value p)) in
          inr (none, (p, text, held.2))

  -- its fragments hold targets
  has_target : (f : Name) → IsIn f (fragment_names object.children) → HasTarget object f
  has_target f i =
      let w = in_map_from (λ (g : Fragment). g.name) o.fragments f (subst (IsIn f) encodes.fragments i) in
      subst (HasTarget object) (sym w.2) (fragment_target w.0 w.1)

  -- ---- cells of references

  value_at : (c : Cell) (r : OverlayReference) (h : IsCellOf o c r) → value_in object c.path c.property ≡ Some (value_bytes (object_number local) h.0)
  value_at c r h = object_items object o local encodes overlay c.path c.property h.0 (overlay.plain c.path (overlay.values_stand c.path c.property (ap is_some h.1))) h.1

  within : (c : Cell) (r : OverlayReference) (h : IsCellOf o c r) → c.offset + 4 ≤ length (value_bytes (object_number local) h.0)
  within c r h = let w = offset_within (object_number local) 0 h.0 (c.offset, r) h.2 in omega (arith, w)

  has_cell : (c : Cell) (r : OverlayReference) → IsCellOf o c r → HasCell object c
  has_cell c r h = (value_bytes (object_number local) h.0, value_at c r h, within c r h)

  -- a cell waits for the name of each fixup
  waiting : (x : Property) → IsIn x (fixups_in object) → (c : Cell) × IsIn (x.name, c) encodes.fixups
  waiting x i = encodes.fixups_used x.name (ap is_some (property_value object (codes "__fixups__" ∷ []) x valid i))

  -- a fixup lists cells that the object has
  fixup_cells : (x : Property) → IsIn x (fixups_in object) → (cells : List Cell) × AreCellsOf object x.value cells
  fixup_cells x i =
      let w = fixup_texts (fixups_in object) encodes.fixups x (names_differ object (codes "__fixups__" ∷ []) valid) encodes.fixups_listed i in
      let u = waiting x i in (
        w.0,
        record {
          texts = w.1;
          some = λ none. subst (IsIn u.0) none (w.3 u.0 u.1);
          there = each_from (HasCell object) w.0 (λ c j. has_cell c (outside x.name) ((encodes.fixups_exact x.name c).0 (w.2 c j)));
        },
      )

  -- ---- local fixups

  -- the cell of a reference to a node of the object
  inside_cell : (p : Path) (name : Name) (offset : ℕ) (r : Path) (h : IsCellOf o (cell_of p name offset) (inside r)) → IsLocalCell object p (value_bytes (object_number local) h.0) offset
  inside_cell p name offset r h = record {
    there = within (cell_of p name offset) (inside r) h;
    named = r;
    numbered =
        ap (node_numbered (nodes_of object)) (read_value (object_number local) h.0 offset (inside r) h.2 (small_number (local r) (encodes.high r keyed)))
        ∙ node_of_number object r (local r) valid phandle;
    brought = brought;
  }
    where
      keyed : o.keyed r ≡ true
      keyed = each_at (IsReferent o) 0 h.0 offset (inside r) (overlay.referred p name h.0 h.1) h.2

      phandle : value_in object r (codes "phandle") ≡ Some (cell (local r))
      phandle = object_phandle object o local encodes overlay r (overlay.plain r (overlay.keyed_stand r keyed)) ∙ ap (λ b. if b then Some (cell (local r)) else None) keyed

      brought : is_brought (fragment_names object.children) p ≡ true → is_brought (fragment_names object.children) r ≡ true
      brought b =
          let from : IsBrought o p = brought_from o.fragments p (ap (λ fs. is_brought fs p) (sym encodes.fragments) ∙ b) in
          let to : IsBrought o r = each_at (IsContained o) 0 h.0 offset (inside r) (overlay.contained p name h.0 from h.1) h.2 in
          ap (λ fs. is_brought fs r) encodes.fragments ∙ ap (is_brought (map (λ (f : Fragment). f.name) o.fragments)) to.3 ∙ brought_to o.fragments to.0 to.1 to.2

  local_cell : (p : Path) (x : Property) (offset : ℕ) (value : List ℕ) → IsIn x (properties_of (node_at object (codes "__local_fixups__" ∷ p))) → value_in object p x.name ≡ Some value
      → IsIn offset (words_of x.value) → IsLocalCell object p value offset
  local_cell p x offset value i v j =
      let w = (encodes.locals_exact (cell_of p x.name offset)).0 (listed_cell object p x offset i j) in
      let z : Some (value_bytes (object_number local) w.1.0) ≡ Some value = sym (value_at (cell_of p x.name offset) (inside w.0) w.1) ∙ v in
      let is : value_bytes (object_number local) w.1.0 ≡ value = cc in
      subst (λ bytes. IsLocalCell object p bytes offset) is (inside_cell p x.name offset w.0 w.1)

  local_fixup : (p : Path) (x : Property) → IsIn x (properties_of (node_at object (codes "__local_fixups__" ∷ p))) → IsLocalFixup object p x
  local_fixup p x i = step (value_in object p x.name) refl
    where
      here : value_in object (codes "__local_fixups__" ∷ p) x.name ≡ Some x.value
      here = property_value object (codes "__local_fixups__" ∷ p) x valid i

      step : (y : Option (List ℕ)) → value_in object p x.name ≡ y → IsLocalFixup object p x
      step None e = absurd (true≢false (sym (encodes.locals_values p x.name (ap is_some here)) ∙ ap is_some e))
      step (Some value) e = record {
        value = value;
        there = e;
        words = encodes.locals_words p x.name x.value here;
        cells = each_from (IsLocalCell object p value) (words_of x.value) (λ offset j. local_cell p x offset value i e j);
      }

  -- each node of the mirror is as it has to be
  is_mirror : (p : Path) → stands_in object (codes "__local_fixups__" ∷ p) ≡ true → IsMirror object p
  is_mirror p h = record {
    stands = encodes.locals_nodes p h;
    properties = each_from (IsLocalFixup object p) (properties_of (node_at object (codes "__local_fixups__" ∷ p))) (λ x i. local_fixup p x i);
  }

  -- ---- symbols

  -- each symbol is the text of a node's path
  is_symbol : (x : Property) → IsIn x (symbols_in object) → IsSymbol object x.value
  is_symbol x i = step (o.label x.name) refl
    where
      here : Some x.value ≡ option_map path_value (o.label x.name)
      here = sym (property_value object (codes "__symbols__" ∷ []) x valid i) ∙ encodes.symbols x.name

      step : (y : Option Path) → o.label x.name ≡ y → IsSymbol object x.value
      step None e = absurd (let z : Some x.value ≡ None = here ∙ ap (option_map path_value) e in cc)
      step (Some q) e =
          let z : Some x.value ≡ Some (path_value q) = here ∙ ap (option_map path_value) e in
          let whole : x.value ≡ path_value q = cc in
          let stands = overlay.keyed_stand q (overlay.labelled x.name q e).1 in
          let found = node_of_text object q valid (encodes.nodes q (overlay.plain q stands) ∙ stands) in
          record {
            text = path_text q;
            whole = whole;
            one = path_text_has_no 0 q (overlay.named q stands) (λ z. (let y : 0 ≡ 47 = z in omega arith)) refl;
            named = λ of. (q, ap (node_named (nodes_of object)) whole ∙ found);
          }

module _ (base object : Reading) (m : Meaning) (o : Overlay) (number local : Path → ℕ) (sites : List Site) (are : AreOf base object m o number local) (defined : IsDefined m o sites) where
  -- the base has a node with a number for the label of a fixup
  fixup_symbol : (x : Property) → IsIn x (fixups_in object) → (n : ℕ) × SymbolHasNumber base x.name n
  fixup_symbol x i = step (m.label x.name) refl
    where
      given : IsSome (m.label x.name)
      given =
          let w = waiting object o local are.encoded are.overlay are.valid_object x i in
          given_each base object m o number local are.encoded.fixups sites are are.encoded.fixups_listed defined x.name w.0 w.1

      step : (y : Option Path) → m.label x.name ≡ y → (n : ℕ) × SymbolHasNumber base x.name n
      step None e = absurd (true≢false (sym given ∙ ap is_some e))
      step (Some q) e = (
        number q,
        (
          q,
          symbol_is base m number are.represented are.meaning are.plain are.valid_base x.name ∙ e,
          phandle_of base m number are.represented are.meaning are.plain q (are.meaning.labelled x.name q e).1,
        ),
      )

  is_fixup : (x : Property) → IsIn x (fixups_in object) → IsFixup base object x
  is_fixup x i =
      let c = fixup_cells object o local are.encoded are.overlay are.valid_object x i in
      let s = fixup_symbol x i in
      record { cells = c.0; listed = c.1; number = s.0; numbered = s.1 }

  pub well_formed : IsWellFormed base object
  well_formed = record {
    targets = each_from (HasTarget object) (fragment_names object.children) (λ f i. has_target object o local are.encoded are.overlay are.valid_object f i);
    fixups = each_from (IsFixup base object) (fixups_in object) (λ x i. is_fixup x i);
    mirror = λ p h. is_mirror object o local are.encoded are.overlay are.valid_object p h;
    symbols = each_from (λ (x : Property). IsSymbol object x.value) (symbols_in object) (λ x i. is_symbol object o local are.encoded are.overlay are.valid_object x i);
  }
