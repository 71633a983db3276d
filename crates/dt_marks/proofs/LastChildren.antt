-- What is read of a tree whose root got some last children.
use Rattle.std.proofs.Common.{◌≡◌, ◌≢◌, ℕ, suc, ◌+◌, ◌<◌, Bool, true, false, cond, eqb, List, [], ◌∷◌, ◌++◌, length, inl, inr, refl, sym, ap, ◌∙◌, arith}
use Rattle.dt_model.specs.Instance.{followed_by}
use Rattle.dt_model.specs.Tree.{Forest, no_nodes, branch}
use Rattle.dt_flat.specs.Arena.{Arena, Slot, forest_among, reading}
use Rattle.dt_flat.proofs.AfterChild.{differs}
use Rattle.dt_flat.proofs.PlantedNodes.{rows, AreBelow, rows_below, rows_read}

none_among : (i j p q : ℕ) (ns : List Slot) → AreBelow j p ns → q ≢ p → q < j → forest_among i ns q ≡ no_nodes
none_among i j p q [] h d lt = refl
none_among i j p q (n ∷ ns) h d lt =
    let other : n.parent ≢ q = elim h.0 [ inl e ↦ (λ f. d (sym f ∙ e)) | inr e ↦ (λ f. omega arith) ] in
    ap (λ (b : Bool). cond b (branch n.name n.properties (forest_among (suc i) ns i) (forest_among (suc i) ns q)) (forest_among (suc i) ns q)) (differs n.parent q other)
    ∙ none_among (suc i) j p q ns h.1 d lt

rows_elsewhere : (i j p d q : ℕ) (ns : List Slot) (f : Forest) → j ≡ i + length ns → p < i → q < i → q ≢ p → forest_among i (ns ++ rows j p d f) q ≡ forest_among i ns q
rows_elsewhere i j p d q [] f at above lt other = none_among i j p q (rows j p d f) (rows_below j p d f) other (omega arith)
rows_elsewhere i j p d q (n ∷ ns) f at above lt other =
    let further : j ≡ suc i + length ns = omega arith in
    let under = rows_elsewhere (suc i) j p d i ns f further (omega arith) (omega arith) (λ e. omega arith) in
    let beside = rows_elsewhere (suc i) j p d q ns f further (omega arith) (omega arith) other in
    λ t. cond (eqb n.parent q) (branch n.name n.properties (under t) (beside t)) (beside t)

rows_last : (i j p d : ℕ) (ns : List Slot) (f : Forest) → j ≡ i + length ns → p < i → forest_among i (ns ++ rows j p d f) p ≡ followed_by (forest_among i ns p) f
rows_last i j p d [] f at above =
    let here : j ≡ i = omega arith in
    ap (λ (k : ℕ). forest_among i (rows k p d f) p) here ∙ rows_read i p d f above
rows_last i j p d (n ∷ ns) f at above =
    let further : j ≡ suc i + length ns = omega arith in
    let under = rows_elsewhere (suc i) j p d i ns f further (omega arith) (omega arith) (λ e. omega arith) in
    let beside = rows_last (suc i) j p d ns f further (omega arith) in
    (λ t. cond (eqb n.parent p) (branch n.name n.properties (under t) (beside t)) (beside t))
    ∙ by (eqb n.parent p)
  where
    by : (b : Bool) → cond b (branch n.name n.properties (forest_among (suc i) ns i) (followed_by (forest_among (suc i) ns p) f)) (followed_by (forest_among (suc i) ns p) f)
        ≡ followed_by (cond b (branch n.name n.properties (forest_among (suc i) ns i) (forest_among (suc i) ns p)) (forest_among (suc i) ns p)) f
    by true = refl
    by false = refl

pub read_rows : (a : Arena) (d : ℕ) (f : Forest) → 0 < length a.slots
    → reading (record a { slots = a.slots ++ rows (length a.slots) 0 d f }) ≡ record (reading a) { children = followed_by (reading a).children f }
read_rows a d f rooted = by a.slots rooted
  where
    by : (slots : List Slot) → 0 < length slots
        → reading (record { boot_cpu = a.boot_cpu; reservations = a.reservations; slots = slots ++ rows (length slots) 0 d f })
        ≡ record (reading (record { boot_cpu = a.boot_cpu; reservations = a.reservations; slots = slots })) {
          children = followed_by (reading (record { boot_cpu = a.boot_cpu; reservations = a.reservations; slots = slots })).children f;
        }
    by [] rooted = absurd (omega arith)
    by (s ∷ slots) rooted =
        ap (λ (g : Forest). record { boot_cpu = a.boot_cpu; reservations = a.reservations; properties = s.properties; children = g })
        (rows_last 1 (suc (length slots)) 0 d slots f (omega arith) (omega arith))
