-- Marks of nodes, one after another.
use Rattle.std.proofs.Common.{◌≡◌, ◌≢◌, ℕ, zero, suc, ◌+◌, ◌<◌, ◌≤◌, Bool, true, false, not, ◌||◌, cond, List, [], ◌∷◌, ◌++◌, Some, length, nat_eq, slice_get, codes, refl, sym, ap, subst, ◌∙◌, inl, inr, arith}
use Rattle.std.specs.Str.{bytes_eq}
use Rattle.std.proofs.lemmas.List.{length_push}
use Rattle.std.proofs.lemmas.Bool.{cases_lt, eqb-false}
use Rattle.std.proofs.lemmas.Option.{slice_get_within}
use Rattle.dt_model.specs.Named.{NodeReference, Listed}
use Rattle.dt_model_laws.specs.OverlayChecks.{is_first, is_marked, is_brought, refer_within, AreBrought, AreBehind, AreContained}

-- the nodes before number i are marked where a fragment brings them, and no others
pub record AreMarkedBefore (ns : List (Listed NodeReference)) (marks : List Bool) (i : ℕ) : Type 0 where
  pub size : length marks ≡ i
  pub each : (k : ℕ) (n : Listed NodeReference) → k < i → slice_get ns k ≡ Some n → is_marked marks k ≡ is_brought ns marks n

marked_left : (marks more : List Bool) (k : ℕ) → k < length marks → is_marked (marks ++ more) k ≡ is_marked marks k
marked_left [] more k l = absurd (omega arith)
marked_left (m ∷ marks) more zero l = refl
marked_left (m ∷ marks) more (suc k) l = marked_left marks more k (omega arith)

marked_last : (marks : List Bool) (m : Bool) → is_marked (marks ++ m ∷ []) (length marks) ≡ m
marked_last [] m = refl
marked_last (x ∷ marks) m = marked_last marks m

-- what a node is marked by its parent doesn't change
brought_left : (ns : List (Listed NodeReference)) (marks more : List Bool) (n : Listed NodeReference) → (n.parent ≢ 0 → n.parent < length marks) → is_brought ns (marks ++ more) n ≡ is_brought ns marks n
brought_left ns marks more n inside = by (nat_eq n.parent 0) refl
  where
    by : (b : Bool) → nat_eq n.parent 0 ≡ b
        → cond b false (cond (is_first ns n.parent) (bytes_eq n.name (codes "__overlay__")) (is_marked (marks ++ more) n.parent))
        ≡ cond b false (cond (is_first ns n.parent) (bytes_eq n.name (codes "__overlay__")) (is_marked marks n.parent))
    by true e = refl
    by false e = ap (λ b. cond (is_first ns n.parent) (bytes_eq n.name (codes "__overlay__")) b) (marked_left marks more n.parent (inside (λ z. eqb-false n.parent 0 e z)))

pub none_marked : (ns : List (Listed NodeReference)) (marks : List Bool) → marks ≡ [] → AreMarkedBefore ns marks 0
none_marked ns marks e = record { size = ap length e; each = λ k n l there. absurd (omega (arith, l)) }

pub one_more_marked : (ns : List (Listed NodeReference)) (marks more : List Bool) (m : Bool) (i : ℕ) (n : Listed NodeReference) → AreBehind ns → AreMarkedBefore ns marks i → slice_get ns i ≡ Some n
    → m ≡ is_brought ns marks n → more ≡ marks ++ m ∷ [] → AreMarkedBefore ns more (i + 1)
one_more_marked ns marks more m i n behind h there is e = subst (λ ms. AreMarkedBefore ns ms (i + 1)) (sym e) (record {
  size = omega (arith, length_push marks m, h.size);
  each = λ k o l at. elim (cases_lt k i) [
    | inl low ↦
        marked_left marks (m ∷ []) k (omega (arith, low, h.size)) ∙ h.each k o low at
        ∙ sym (brought_left ns marks (m ∷ []) o (λ some. omega (arith, behind k o at some, low, h.size)))
    | inr high ↦
        let here : k ≡ i = omega (arith, high, l) in
        let same : n ≡ o = let two : Some n ≡ Some o = sym there ∙ ap (λ j. slice_get ns j) (sym here) ∙ at in cc in
        ap (is_marked (marks ++ m ∷ [])) (here ∙ sym h.size) ∙ marked_last marks m ∙ is
        ∙ sym (brought_left ns marks (m ∷ []) n (λ some. omega (arith, behind i n there some, h.size)))
        ∙ ap (is_brought ns (marks ++ m ∷ [])) same
  ];
})

pub all_marked : (ns : List (Listed NodeReference)) (marks : List Bool) (i : ℕ) → AreMarkedBefore ns marks i → i ≡ length ns → AreBrought ns marks
all_marked ns marks i h e = record { size = h.size ∙ e; each = λ k n there. h.each k n (omega (arith, slice_get_within ns k n there, e)) there }

-- ---- what marked nodes refer to

-- the nodes before number i refer to no node but marked ones, where they are marked
abbrev pub AreContainedBefore : List (Listed NodeReference) → List Bool → ℕ → Type 0
AreContainedBefore ns marks i = (k : ℕ) (n : Listed NodeReference) → k < i → slice_get ns k ≡ Some n → is_marked marks k ≡ true → refer_within marks n.content.properties ≡ true

pub one_more_contained : (ns : List (Listed NodeReference)) (marks : List Bool) (i : ℕ) (n : Listed NodeReference) → slice_get ns i ≡ Some n
    → (not (is_marked marks i) || refer_within marks n.content.properties) ≡ true → AreContainedBefore ns marks i → AreContainedBefore ns marks (i + 1)
one_more_contained ns marks i n there is h k o l at marked = elim (cases_lt k i) [
  | inl low ↦ h k o low at marked
  | inr high ↦
      let here : k ≡ i = omega (arith, high, l) in
      let same : n ≡ o = let two : Some n ≡ Some o = sym there ∙ ap (λ j. slice_get ns j) (sym here) ∙ at in cc in
      let own : is_marked marks i ≡ true = ap (is_marked marks) (sym here) ∙ marked in
      ap (λ (m : Listed NodeReference). refer_within marks m.content.properties) (sym same) ∙ sym (ap (λ b. not b || refer_within marks n.content.properties) own) ∙ is
]

pub not_contained : (marks : List Bool) (i : ℕ) (n : Listed NodeReference) → (not (is_marked marks i) || refer_within marks n.content.properties) ≡ false
    → (is_marked marks i ≡ true) × (refer_within marks n.content.properties ≡ false)
not_contained marks i n e = by (is_marked marks i) refl
  where
    by : (b : Bool) → is_marked marks i ≡ b → (is_marked marks i ≡ true) × (refer_within marks n.content.properties ≡ false)
    by true m = (m, ap (λ b. not b || refer_within marks n.content.properties) (sym m) ∙ e)
    by false m = let no : true ≡ false = ap (λ b. not b || refer_within marks n.content.properties) (sym m) ∙ e in cc

pub all_contained : (ns : List (Listed NodeReference)) (marks : List Bool) (i : ℕ) → AreContainedBefore ns marks i → length ns ≤ i → AreContained ns marks
all_contained ns marks i h l k n there = h k n (omega (arith, slice_get_within ns k n there, l)) there
