-- A blob has one list of lines.
use Rattle.std.proofs.Common.{◌≡◌, inl, inr, append_assoc, ◌+◌, ◌++◌, ℕ, Bool, true, false, true≢false, List, [], ◌∷◌, refl, sym, ap, ◌∙◌, subst}
use Rattle.dt_model.specs.Path.{Path}
use Rattle.dt_model.specs.Tree.{Reading, Placed, nodes_of}
use Rattle.dt_model.specs.Format.{Reads}
use Rattle.dt_resolve_model.specs.Answers.{Answer}
use Rattle.dt_resolve_model.specs.World.{tree_world}
use Rattle.dt_resolve_model.proofs.OneRoute.{one_route}
use Rattle.dt_resolve_lines.specs.AllLines.{Telling, EndsOr, AreBegun, AreFrom, AreOfAll, AreBegunOfAll, regions_told, routes_told}
use Rattle.dt_resolve_lines.specs.Listed.{AreAll, AreAllBegun, AreFirstOf, AreLinesOf, AreOwn, AreOwnBegun}
use Rattle.dt_resolve_lines.specs.declared.listing.Listing.{Listing}
use Rattle.dt_resolve_lines.specs.declared.listing.Listing.TheVariants.{Regions, Routes}

module _ {A : Type 0} (told : Telling A) (one : (i : ℕ) (a b : Answer A) → told.rule i a → told.rule i b → a ≡ b) where
  silent_and_not : (i : ℕ) (a b : Answer A) → told.rule i a → told.rule i b → told.is_silent a ≡ true → told.is_silent b ≡ false → ⊥
  silent_and_not i a b p q silent heard = true≢false (sym silent ∙ ap told.is_silent (one i a b p q) ∙ heard)

  ends : (i : ℕ) (last : Bool) (ls ms : List (List ℕ)) → (AreFrom told i ls → AreFrom told i ms → ls ≡ ms) → EndsOr last ls (AreFrom told i ls) → EndsOr last ms (AreFrom told i ms) → ls ≡ ms
  ends i true ls ms one p q = p ∙ sym q
  ends i false ls ms one p q = one p q

  one_from : (i : ℕ) (ls ms : List (List ℕ)) → AreFrom told i ls → AreFrom told i ms → ls ≡ ms
  one_from i [] [] p q = refl
  one_from i [] (m ∷ ms) (a, p, silent) (b, q, heard, is, more) = absurd (silent_and_not i a b p q silent heard)
  one_from i (l ∷ ls) [] (a, p, heard, is, more) (b, q, silent) = absurd (silent_and_not i b a q p silent heard)
  one_from i (l ∷ ls) (m ∷ ms) (a, p, heard, is, more) (b, q, heard', is', more') =
      let same = one i a b p q in
      let rest = ends (i + 1) (told.is_last a) ls ms (one_from (i + 1) ls ms) more (subst (λ z. EndsOr z ms (AreFrom told (i + 1) ms)) (ap told.is_last (sym same)) more') in
      ap (λ x. x ∷ ls) (is ∙ ap (told.line i) same ∙ sym is') ∙ ap (λ x. m ∷ x) rest

  begun_ends : (last : Bool) (ls ms : List (List ℕ)) (Begun From : Type 0) → (Begun → From → (rest : List (List ℕ)) × (ms ≡ ls ++ rest)) → EndsOr last ls Begun → EndsOr last ms From
      → (rest : List (List ℕ)) × (ms ≡ ls ++ rest)
  begun_ends true ls ms Begun From further p q = ([], q ∙ sym (ap (λ x. x ++ []) p))
  begun_ends false ls ms Begun From further p q = further p q

  -- lines that are begun are a front of all
  begun_from : (i : ℕ) (ls ms : List (List ℕ)) → AreBegun told i ls → AreFrom told i ms → (rest : List (List ℕ)) × (ms ≡ ls ++ rest)
  begun_from i [] ms p q = (ms, refl)
  begun_from i (l ∷ ls) [] (a, p, heard, is, more) (b, q, silent) = absurd (silent_and_not i b a q p silent heard)
  begun_from i (l ∷ ls) (m ∷ ms) (a, p, heard, is, more) (b, q, heard', is', more') =
      let same = one i a b p q in
      let w = begun_ends (told.is_last a) ls ms (AreBegun told (i + 1) ls) (AreFrom told (i + 1) ms) (begun_from (i + 1) ls ms) more
      (subst (λ z. EndsOr z ms (AreFrom told (i + 1) ms)) (ap told.is_last (sym same)) more') in
      (w.0, ap (λ x. x ∷ ms) (is' ∙ ap (told.line i) (sym same) ∙ sym is) ∙ ap (λ x. l ∷ x) w.1)

one_own : (listing : Listing) (t : Reading) (p : Path) (ls ms : List (List ℕ)) → AreOwn listing t p ls → AreOwn listing t p ms → ls ≡ ms
one_own Regions t p = one_from (regions_told t p) (λ i a b h k. sym h ∙ k) 0
one_own Routes t p = one_from (routes_told t p) (λ i a b h k. one_route (tree_world t) p i a b h k) 0

one_of_all : (Own : Path → List (List ℕ) → Type 0) → ((p : Path) (ls ms : List (List ℕ)) → Own p ls → Own p ms → ls ≡ ms) → (nodes : List Placed) (ls ms : List (List ℕ)) → AreOfAll Own nodes ls → AreOfAll Own nodes ms → ls ≡ ms
one_of_all Own one [] ls ms p q = p ∙ sym q
one_of_all Own one (n ∷ nodes) ls ms (own, rest, is, are, others) (own', rest', is', are', others') =
    is ∙ ap (λ l. l ++ rest) (one n.path own own' are are') ∙ ap (λ l. own' ++ l) (one_of_all Own one nodes rest rest' others others') ∙ sym is'

begun_own : (listing : Listing) (t : Reading) (p : Path) (ls ms : List (List ℕ)) → AreOwnBegun listing t p ls → AreOwn listing t p ms → (rest : List (List ℕ)) × (ms ≡ ls ++ rest)
begun_own Regions t p = begun_from (regions_told t p) (λ i a b h k. sym h ∙ k) 0
begun_own Routes t p = begun_from (routes_told t p) (λ i a b h k. one_route (tree_world t) p i a b h k) 0

module _ (Own Begun : Path → List (List ℕ) → Type 0) (one : (p : Path) (ls ms : List (List ℕ)) → Own p ls → Own p ms → ls ≡ ms)
    (begun : (p : Path) (ls ms : List (List ℕ)) → Begun p ls → Own p ms → (rest : List (List ℕ)) × (ms ≡ ls ++ rest)) where
  begun_of_all : (nodes : List Placed) (ls ms : List (List ℕ)) → AreBegunOfAll Own Begun nodes ls → AreOfAll Own nodes ms → (rest : List (List ℕ)) × (ms ≡ ls ++ rest)
  begun_of_all [] ls ms p q = ([], q ∙ sym (ap (λ x. x ++ []) p))
  begun_of_all (n ∷ nodes) ls ms (inl here) (own, rest, is, are, others) =
      let w = begun n.path ls own here are in
      (w.0 ++ rest, is ∙ ap (λ l. l ++ rest) w.1 ∙ append_assoc ls w.0 rest)
  begun_of_all (n ∷ nodes) ls ms (inr (own, rest, is, are, others)) (own', rest', is', are', others') =
      let w = begun_of_all nodes rest rest' others others' in
      let same = one n.path own' own are' are in
      (w.0, is' ∙ ap (λ l. l ++ rest') same ∙ ap (λ l. own ++ l) w.1 ∙ sym (append_assoc own rest w.0) ∙ ap (λ l. l ++ w.0) (sym is))

-- some first lines are a front of all
pub first_lines : ((bytes : List ℕ) (t u : Reading) → Reads bytes t → Reads bytes u → t ≡ u) → (listing : Listing) (bytes : List ℕ) (some all : List (List ℕ)) → AreFirstOf listing bytes some
    → AreLinesOf listing bytes all → (rest : List (List ℕ)) × (all ≡ some ++ rest)
first_lines read listing bytes some all these are =
    let same = read bytes these.tree are.tree these.reads are.reads in
    begun_of_all (AreOwn listing are.tree) (AreOwnBegun listing are.tree) (one_own listing are.tree) (begun_own listing are.tree) (nodes_of are.tree) some all
    (subst (λ t. AreAllBegun listing t some) same these.are) are.are

pub one_list : ((bytes : List ℕ) (t u : Reading) → Reads bytes t → Reads bytes u → t ≡ u) → (listing : Listing) (bytes : List ℕ) (lines others : List (List ℕ)) → AreLinesOf listing bytes lines → AreLinesOf listing bytes others → lines ≡ others
one_list read listing bytes lines others are these =
    let same = read bytes these.tree are.tree these.reads are.reads in
    one_of_all (AreOwn listing are.tree) (one_own listing are.tree) (nodes_of are.tree) lines others are.are (subst (λ t. AreAll listing t others) same these.are)
