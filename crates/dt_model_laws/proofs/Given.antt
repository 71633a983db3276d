-- What a tree of a meaning and an object of an overlay hold, one property at a time.
use Rattle.std.proofs.Common.{◌≡◌, ℕ, true, false, List, [], ◌∷◌, codes, refl, ap, ◌∙◌, Option, Some, None}
use Rattle.std.specs.Prelude.{option_map, option_and_then, is_some, if◌then◌else◌}
use Rattle.std.specs.Str.{bytes_eq}
use Rattle.dt_model.specs.Names.{Name}
use Rattle.dt_model.specs.Path.{Path, path_value, is_bookkeeping}
use Rattle.dt_model.specs.Meaning.{Item, cell, value_bytes, Meaning, IsMeaning, IsPlain}
use Rattle.dt_model.specs.Overlay.{object_number, OverlayReference, Overlay, IsOverlay}
use Rattle.dt_model.specs.Object.{Encodes}
use Rattle.dt_model.specs.Represents.{Represents}
use Rattle.dt_model.specs.Tree.{Reading, nodes_of, value_in}
use Rattle.dt_model.specs.Valid.{IsValid}
use Rattle.dt_model.specs.Applied.{node_named, symbol}
use Rattle.dt_model.proofs.Finding.{node_of_text}

module _ (t : Reading) (m : Meaning) (number : Path → ℕ) (holds : Represents t m number) (meaning : IsMeaning m) (plain : IsPlain m) where
  pub base_value : (p : Path) (name : Name) → is_bookkeeping p ≡ false → bytes_eq name (codes "phandle") ≡ false → value_in t p name ≡ option_map (value_bytes number) (m.value p name)
  base_value p name h other = holds.values p name h ∙ ap (λ b. if b then (if m.keyed p then Some (cell (number p)) else None) else option_map (value_bytes number) (m.value p name)) other

  pub base_phandle : (p : Path) → is_bookkeeping p ≡ false → value_in t p (codes "phandle") ≡ (if m.keyed p then Some (cell (number p)) else None)
  base_phandle p h = holds.values p (codes "phandle") h

  pub keyed_plain : (p : Path) → m.keyed p ≡ true → is_bookkeeping p ≡ false
  keyed_plain p h = plain.plain p (meaning.keyed_stand p h)

  pub phandle_of : (p : Path) → m.keyed p ≡ true → value_in t p (codes "phandle") ≡ Some (cell (number p))
  phandle_of p h = base_phandle p (keyed_plain p h) ∙ ap (λ b. if b then Some (cell (number p)) else None) h

  pub no_phandle : (p : Path) → is_bookkeeping p ≡ false → m.keyed p ≡ false → value_in t p (codes "phandle") ≡ None
  no_phandle p h k = base_phandle p h ∙ ap (λ b. if b then Some (cell (number p)) else None) k

  -- a label's node is found by the text that the tree has for it
  pub symbol_is : IsValid t → (l : Name) → symbol t l ≡ m.label l
  symbol_is valid l = ap (option_and_then (node_named (nodes_of t))) (holds.symbols l) ∙ step (m.label l) refl
    where
      step : (y : Option Path) → m.label l ≡ y → option_and_then (node_named (nodes_of t)) (option_map path_value y) ≡ y
      step None e = refl
      step (Some q) e =
          let key = (meaning.labelled l q e).1 in
          node_of_text t q valid (holds.nodes q (keyed_plain q key) ∙ meaning.keyed_stand q key)

module _ (t : Reading) (o : Overlay) (number : Path → ℕ) (encodes : Encodes t o number) (overlay : IsOverlay o) where
  pub object_value_is : (p : Path) (name : Name) → is_bookkeeping p ≡ false → bytes_eq name (codes "phandle") ≡ false → value_in t p name ≡ option_map (value_bytes (object_number number)) (o.value p name)
  object_value_is p name h other = encodes.values p name h ∙ ap (λ b. if b then (if o.keyed p then Some (cell (number p)) else None) else option_map (value_bytes (object_number number)) (o.value p name)) other

  pub object_items : (p : Path) (name : Name) (items : List (Item OverlayReference)) → is_bookkeeping p ≡ false → o.value p name ≡ Some items → value_in t p name ≡ Some (value_bytes (object_number number) items)
  object_items p name items h e = object_value_is p name h (overlay.values_named p name (ap is_some e)).1 ∙ ap (option_map (value_bytes (object_number number))) e

  pub object_phandle : (p : Path) → is_bookkeeping p ≡ false → value_in t p (codes "phandle") ≡ (if o.keyed p then Some (cell (number p)) else None)
  object_phandle p h = encodes.values p (codes "phandle") h

  -- a label's node is found by the text that the object has for it
  pub label_is : IsValid t → (l : Name) → option_and_then (node_named (nodes_of t)) (value_in t (codes "__symbols__" ∷ []) l) ≡ o.label l
  label_is valid l = ap (option_and_then (node_named (nodes_of t))) (encodes.symbols l) ∙ step (o.label l) refl
    where
      step : (y : Option Path) → o.label l ≡ y → option_and_then (node_named (nodes_of t)) (option_map path_value y) ≡ y
      step None e = refl
      step (Some q) e =
          let stands = overlay.keyed_stand q (overlay.labelled l q e).1 in
          node_of_text t q valid (encodes.nodes q (overlay.plain q stands) ∙ stands)
