-- A base has no bookkeeping nodes.
use Rattle.std.proofs.Common.{◌≡◌, ℕ, ◌<◌, true, false, List, [], ◌∷◌, ◌++◌, length, inl, inr, reverse, refl, sym, ap, subst, ◌∙◌, arith}
use Rattle.std.proofs.lemmas.Grind.{reverse_onto}
use Rattle.std.proofs.lemmas.List.{reverse-reverse, length-reverse}
use Rattle.dt_model.specs.Names.{Name}
use Rattle.dt_model.specs.Path.{Path, is_bookkeeping}
use Rattle.dt_model.specs.Meaning.{Meaning, IsPlain}
use Rattle.dt_model.specs.Event.{Stack, stands}
use Rattle.dt_model.specs.Source.{Place, root, block, delete_node, child, label, property, delete_property, delete_child, close, base, SoFar, is_reserved, meaning_of, SourceMeans}
use Rattle.dt_model.proofs.Cases.{all_from}
use Rattle.dt_model_laws.proofs.Holding.{Rules, Obeys, node_follows}
use Rattle.dt_model_laws.proofs.ReadAll.{holds-source}

front_stays : (p : Path) (n : Name) → 0 < length p → is_bookkeeping p ≡ false → is_bookkeeping (p ++ n ∷ []) ≡ false
front_stays [] n l h = absurd (omega arith)
front_stays (x ∷ p) n l h = h

pub plain_child : (p : Stack) (n : Name) → is_bookkeeping (reverse p) ≡ false → is_reserved base p n ≡ false → is_bookkeeping (reverse (n ∷ p)) ≡ false
plain_child [] n h k = k
plain_child (x ∷ p) n h k =
    let l : length (reverse (x ∷ p)) ≡ length (x ∷ p) = length-reverse (x ∷ p) in
    ap is_bookkeeping (reverse_onto (x ∷ p) n []) ∙ front_stays (reverse (x ∷ p)) n (omega arith) h

abbrev plain_rules : Rules
plain_rules = record { node = λ p. is_bookkeeping (reverse p) ≡ false; label = λ l. Unit {0}; value = λ n v. Unit {0} }

plain_obeys : (place : Place) → Obeys plain_rules base place
plain_obeys root = tt
plain_obeys (block b) = tt
plain_obeys (delete_node b) = tt
plain_obeys (child n) = λ p h e. plain_child p n h e
plain_obeys (label l) = tt
plain_obeys (property n v) = tt
plain_obeys (delete_property n) = tt
plain_obeys (delete_child n) = tt
plain_obeys close = tt

plain_meaning : (reservations : List (ℕ × ℕ)) (places : List Place) (m : Meaning) (w : SourceMeans base reservations places m) → IsPlain (meaning_of reservations w.so_far.events)
plain_meaning reservations places m w =
    elim (holds-source plain_rules base w.so_far places refl (all_from (Obeys plain_rules base) plain_obeys places) w.all_read) [
      | inl none ↦ record { plain = λ p h. let z : false ≡ true = ap (λ (t : SoFar). stands t.events (reverse p)) (sym none.1) ∙ h in cc }
      | inr holds ↦ record { plain = λ p h. ap is_bookkeeping (sym (reverse-reverse p)) ∙ node_follows plain_rules w.so_far.events (reverse p) holds.each h }
    ]

pub source_plain : (reservations : List (ℕ × ℕ)) (places : List Place) (m : Meaning) → SourceMeans base reservations places m → IsPlain m
source_plain reservations places m w = subst IsPlain (sym w.means) (plain_meaning reservations places m w)
