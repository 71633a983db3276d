-- References of an overlay: which nodes they name, and what numbers they get.
use Rattle.std.proofs.Common.{◌≡◌, ℕ, ◌+◌, true, false, List, [], ◌∷◌, codes, refl, sym, ap, ◌∙◌, inl, inr, subst, Option, Some}
use Rattle.std.specs.Prelude.{unwrap_or}
use Rattle.dt_model.specs.Names.{Name}
use Rattle.dt_model.specs.Path.{Path, is_bookkeeping}
use Rattle.dt_model.specs.Lists.{IsIn}
use Rattle.dt_model.specs.Meaning.{Item, byte, reference, EachReference, Meaning}
use Rattle.dt_model.specs.Object.{references_from}
use Rattle.dt_model.specs.Overlay.{OverlayReference, inside, outside, at_reference, Fragment, Overlay, IsOverlay, content, IsBrought, IsReferent, IsContained, HoldsTarget}

-- a reference that names a node of the overlay names a keyed one that a fragment brings
abbrev pub IsInside : Overlay → OverlayReference → Type 0
IsInside o (inside p) = (o.keyed p ≡ true) × IsBrought o p
IsInside o (outside l) = Unit {0}

-- the numbers that references get: a node's new number, and the number of the node that a label names
abbrev pub final_number : Meaning → (Path → ℕ) → (Path → Option ℕ) → OverlayReference → ℕ
final_number m number new (inside p) = unwrap_or (new p) 0
final_number m number new (outside l) = number (unwrap_or (m.label l) [])

-- ---- the references of a value

module _ {R : Type 0} (P : R → Type 0) where
  pub each_from_references : (k : ℕ) (items : List (Item R)) → ((o : ℕ) (r : R) → IsIn (o, r) (references_from k items) → P r) → EachReference P items
  each_from_references k [] all = tt
  each_from_references k (byte b ∷ items) all = each_from_references (k + 1) items all
  each_from_references k (reference r ∷ items) all = (all k r (inl refl), each_from_references (k + 4) items (λ o s i. all o s (inr i)))

  pub each_at : (k : ℕ) (items : List (Item R)) (o : ℕ) (r : R) → EachReference P items → IsIn (o, r) (references_from k items) → P r
  each_at k [] o r each i = absurd i
  each_at k (byte b ∷ items) o r each i = each_at (k + 1) items o r each i
  each_at k (reference s ∷ items) o r each (inl same) = subst P (sym (ap (λ c. c.1) same)) each.0
  each_at k (reference s ∷ items) o r each (inr i) = each_at (k + 4) items o r each.1 i

pub each_more : {R : Type 0} (P Q : R → Type 0) (items : List (Item R)) → ((r : R) → P r → Q r) → EachReference P items → EachReference Q items
each_more P Q [] more h = tt
each_more P Q (byte b ∷ items) more h = each_more P Q items more h
each_more P Q (reference r ∷ items) more h = (more r h.0, each_more P Q items more h.1)

pub each_both : {R : Type 0} (P Q S : R → Type 0) (items : List (Item R)) → ((r : R) → P r → Q r → S r) → EachReference P items → EachReference Q items → EachReference S items
each_both P Q S [] more h k = tt
each_both P Q S (byte b ∷ items) more h k = each_both P Q S items more h k
each_both P Q S (reference r ∷ items) more h k = (more r h.0 k.0, each_both P Q S items more h.1 k.1)

-- ---- what is true of an overlay

module _ (o : Overlay) (overlay : IsOverlay o) where
  inside_both : (r : OverlayReference) → IsReferent o r → IsContained o r → IsInside o r
  inside_both (inside p) h k = (h, k)
  inside_both (outside l) h k = tt

  -- a value that a fragment brings refers to nodes that fragments bring
  pub referred_inside : (p : Path) (name : Name) (items : List (Item OverlayReference)) → IsBrought o p → o.value p name ≡ Some items → EachReference (IsInside o) items
  referred_inside p name items b e = each_both (IsReferent o) (IsContained o) (IsInside o) items inside_both (overlay.referred p name items e) (overlay.contained p name items b e)

  -- a fragment's node isn't a bookkeeping node
  pub plain_fragment : (f : Fragment) (rest : Path) → IsIn f o.fragments → is_bookkeeping (f.name ∷ rest) ≡ false
  plain_fragment f rest i = overlay.plain (content f.name) ((overlay.fragments f.name).1 (f.target, i))

  pub plain_brought : (p : Path) → IsBrought o p → is_bookkeeping p ≡ false
  plain_brought p b = ap is_bookkeeping b.3 ∙ plain_fragment b.0 [] b.2

  -- a reference in a fragment's target
  pub target_inside : (f : Fragment) (r : OverlayReference) → IsIn f o.fragments → f.target ≡ at_reference r → IsInside o r
  target_inside f r i e =
      let held = subst (λ t. HoldsTarget o f.name t) e (overlay.targeted f i) in
      inside_both r (overlay.referred (f.name ∷ []) (codes "target") (reference r ∷ []) held).0 (overlay.targets_contained f r i e)
