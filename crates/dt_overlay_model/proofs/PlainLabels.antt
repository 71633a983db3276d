-- No label that lands is called `phandle`: its value would be the text of a path, which is longer.
use Rattle.std.proofs.Common.{◌≡◌, ℕ, ◌<◌, Bool, true, false, List, [], ◌∷◌, ◌++◌, length, length-append, codes, refl, sym, ap, subst, ◌∙◌, Option, Some, None, arith}
use Rattle.std.specs.Prelude.{option_and_then}
use Rattle.std.specs.Str.{bytes_eq}
use Rattle.dt_model.specs.Names.{Name}
use Rattle.dt_model.specs.Path.{Path, path_text, path_value}
use Rattle.dt_model.specs.Overlay.{content}
use Rattle.dt_model.specs.Merged.{Site, landing}
use Rattle.dt_model.specs.Tree.{Reading, Placed, nodes_of, value_in}
use Rattle.dt_model.specs.Valid.{IsValid}
use Rattle.dt_model.specs.Applied.{node_named}
use Rattle.dt_model.proofs.Tests.{bytes_eq_true}
use Rattle.dt_model_laws.proofs.Placed.{landing_from}
use Rattle.dt_overlay_model.proofs.Phandles.{phandle_is}

-- a node that is found by a text has it
named_text : (nodes : List Placed) (value : List ℕ) (p : Path) → node_named nodes value ≡ Some p → path_value p ≡ value
named_text [] value p h = absurd (let z : None ≡ Some p = h in cc)
named_text (x ∷ nodes) value p h = step (named_text nodes value p) (bytes_eq (path_value x.path) value) refl
  where
    step : (node_named nodes value ≡ Some p → path_value p ≡ value) → (b : Bool) → bytes_eq (path_value x.path) value ≡ b → path_value p ≡ value
    step more true e = let z : Some x.path ≡ Some p = rw e at h in let is : x.path ≡ p = cc in ap path_value (sym is) ∙ bytes_eq_true (path_value x.path) value e
    step more false e = more (rw e at h)

-- the text of a path of what a fragment brings has more than four bytes
long_text : (f : Name) (rest : Path) → 4 < length (path_value (content f ++ rest))
long_text f [] =
    let a = length-append f (codes "/__overlay__") in
    let b = length-append (path_text (content f)) (0 ∷ []) in
    omega (arith, a, b)
long_text f (x ∷ rest) =
    let a = length-append f (codes "/__overlay__" ++ path_text (x ∷ rest)) in
    let b = length-append (path_text (content f ++ x ∷ rest)) (0 ∷ []) in
    let c = length-append (codes "/__overlay__") (path_text (x ∷ rest)) in
    omega (arith, a, b, c)

-- no node lands by the value of a `phandle`
pub no_label_phandle : (object : Reading) (sites : List Site) → IsValid object
    → option_and_then (landing sites) (option_and_then (node_named (nodes_of object)) (value_in object (codes "__symbols__" ∷ []) (codes "phandle"))) ≡ None
no_label_phandle object sites valid = step (value_in object (codes "__symbols__" ∷ []) (codes "phandle")) refl
  where
    step : (y : Option (List ℕ)) → value_in object (codes "__symbols__" ∷ []) (codes "phandle") ≡ y → option_and_then (landing sites) (option_and_then (node_named (nodes_of object)) y) ≡ None
    step None e = refl
    step (Some v) e = named (node_named (nodes_of object) v) refl
      where
        named : (y : Option Path) → node_named (nodes_of object) v ≡ y → option_and_then (landing sites) y ≡ None
        named None k = refl
        named (Some p) k = lands (landing sites p) refl
          where
            lands : (y : Option Path) → landing sites p ≡ y → y ≡ None
            lands None l = refl
            lands (Some q) l =
                let w = landing_from sites p q l in
                let four = (phandle_is object valid (codes "__symbols__" ∷ []) v e).four in
                let long : 4 < length v = subst (λ z. 4 < length z) (ap path_value (sym w.3) ∙ named_text (nodes_of object) v p k) (long_text w.0.fragment w.1) in
                absurd (omega (arith, four, long))
