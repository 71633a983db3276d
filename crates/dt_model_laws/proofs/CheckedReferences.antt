-- Claims on the references of all values, by tests at finitely many paths and names.
use Rattle.std.proofs.Common.{◌≡◌, ℕ, ◌+◌, Bool, true, List, [], ◌∷◌, inl, inr, Option, Some, None, refl, sym, ap, ◌∙◌}
use Rattle.std.specs.List.{list_all, list_any}
use Rattle.std.specs.Prelude.{is_some}
use Rattle.dt_model.specs.Names.{Name}
use Rattle.dt_model.specs.Path.{Path, below}
use Rattle.dt_model.specs.Lists.{IsIn}
use Rattle.dt_model.specs.Meaning.{Item, byte, reference, EachReference}
use Rattle.dt_model.specs.Object.{references_from}
use Rattle.dt_model.specs.Overlay.{OverlayReference, inside, outside, Fragment, Overlay, content, IsContained}
use Rattle.dt_model.proofs.Tests.{all_at, any_from}
use Rattle.dt_model.proofs.Cases.{some_there}
use Rattle.dt_model_laws.proofs.Lands.{append-below}

-- the references of a value with their offsets, where there is a value
abbrev pub listed_references : {R : Type 0} → Option (List (Item R)) → List (ℕ × R)
listed_references None = []
listed_references (Some items) = references_from 0 items

-- each reference with its offset passes the test, at each path and name
abbrev pub references_pass : {R : Type 0} → List Path → List Name → (Path → Name → Option (List (Item R))) → (Path → Name → ℕ × R → Bool) → Bool
references_pass qs ns value test = list_all (λ p. list_all (λ n. list_all (test p n) (listed_references (value p n))) ns) qs

-- the value is at one of these paths, under one of these names
abbrev pub IsThere : {R : Type 0} → List Path → List Name → (Path → Name → Option (List (Item R))) → Type 0
IsThere {R} qs ns value = (p : Path) (n : Name) (items : List (Item R)) → value p n ≡ Some items → IsIn p qs × IsIn n ns

module _ {R : Type 0} (qs : List Path) (ns : List Name) (value : Path → Name → Option (List (Item R))) (within : IsThere qs ns value) where
  pub reference_passes : (test : Path → Name → ℕ × R → Bool) → references_pass qs ns value test ≡ true
      → (p : Path) (n : Name) (items : List (Item R)) (x : ℕ × R) → value p n ≡ Some items → IsIn x (references_from 0 items) → test p n x ≡ true
  reference_passes test h p n items x e i =
      let at = within p n items e in
      let row = all_at (λ p. list_all (λ n. list_all (test p n) (listed_references (value p n))) ns) qs p h at.0 in
      let here = all_at (λ n. list_all (test p n) (listed_references (value p n))) ns n row at.1 in
      all_at (test p n) (references_from 0 items) x (ap (λ o. list_all (test p n) (listed_references o)) (sym e) ∙ here) i

each_from : {R : Type 0} (P : R → Type 0) (k : ℕ) (items : List (Item R)) → ((x : ℕ × R) → IsIn x (references_from k items) → P x.1) → EachReference P items
each_from P k [] f = tt
each_from P k (byte b ∷ items) f = each_from P (k + 1) items f
each_from P k (reference r ∷ items) f = (f (k, r) (inl refl), each_from P (k + 4) items (λ x i. f x (inr i)))

-- P of each reference, by a test of references
pub each_reference : {R : Type 0} (qs : List Path) (ns : List Name) (value : Path → Name → Option (List (Item R))) → IsThere qs ns value → (test : R → Bool) (P : R → Type 0) → ((r : R) → test r ≡ true → P r)
    → references_pass qs ns value (λ p n x. test x.1) ≡ true → (p : Path) (n : Name) (items : List (Item R)) → value p n ≡ Some items → EachReference P items
each_reference qs ns value within test P f h p n items e = each_from P 0 items (λ x i. f x.1 (reference_passes qs ns value within (λ p n x. test x.1) h p n items x e i))

-- ---- references to what fragments bring

abbrev is_brought_by : List Fragment → Path → Bool
is_brought_by fragments p = list_any (λ (f : Fragment). is_some (below (content f.name) p)) fragments

abbrev pub is_contained : List Fragment → OverlayReference → Bool
is_contained fragments (inside p) = is_brought_by fragments p
is_contained fragments (outside l) = true

pub contained : (o : Overlay) (r : OverlayReference) → is_contained o.fragments r ≡ true → IsContained o r
contained o (inside p) h =
    let w = any_from (λ (f : Fragment). is_some (below (content f.name) p)) o.fragments h in
    let rest = some_there (below (content w.0.name) p) w.2 in
    (w.0, rest.0, w.1, append-below (content w.0.name) p rest.0 rest.1)
contained o (outside l) h = tt
