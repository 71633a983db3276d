-- What holds of each tree holds of the first one, and goes on to.
use Rattle.std.proofs.Common.{◌≡◌, ◌≢◌, ℕ, zero, suc, ◌+◌, ◌<◌, ◌≤◌, ◌^◌, eqb, List, [], ◌∷◌, ◌++◌, length, map, None, Some, arith, refl, sym, ap, subst, ◌∙◌}
use Rattle.std.specs.Prelude.{codes, IsTrue}
use Rattle.std.specs.Int.{w32, from_be_bytes}
use Rattle.std.specs.Map.{lookup}
use Rattle.std.proofs.lemmas.List.{drop_all}
use Rattle.std.proofs.lemmas.List.Elements.{All-from_recursion}
use Rattle.dt_model.specs.Meaning.{cell}
use Rattle.dt_model.specs.Names.{Name, is_name_byte, IsNodeName, IsPropertyName}
use Rattle.dt_model.specs.Valid.{AreDistinct, IsReservation}
use Rattle.dt_flat.specs.Arena.{Arena, Slot, root_alone, named_among, named_children, child_of, depth_of, phandle_at, with_child, with_property}
use Rattle.dt_flat.specs.Numbers.{Table, holder, given, MayGive}
use Rattle.dt_flat.specs.Sound.{AreCells, IsSoundArena}
use Rattle.dt_flat.proofs.Numbering.{IsNumbered-added, IsNumbered-kept, IsNumbered-same, IsNumbered-set, AreCells-added, AreCells-kept, AreCells-set}
use Rattle.dt_flat.proofs.Rooting.{IsRooted-child, IsRooted-property}
use Rattle.dt_flat.proofs.Validity.{AreValid-added, AreValid-set, reserved}

pub IsSound-reservation : (a : Arena) (table : Table) (r : ℕ × ℕ) → IsReservation r → IsSoundArena a table → IsSoundArena (record a { reservations = a.reservations ++ r ∷ [] }) table
IsSound-reservation a table r one sound = record {
  boot_cpu = sound.boot_cpu;
  reservations = reserved a.reservations r one sound.reservations;
  rooted = sound.rooted;
  numbered = sound.numbered;
  valid = sound.valid;
  cells = sound.cells;
}

pub IsSound-child : (a : Arena) (table : Table) (p : ℕ) (name : Name) → p < length a.slots → length a.slots < 65536 → depth_of a.slots p < 64 → IsNodeName name → child_of (named_children a.slots p) name ≡ None → IsSoundArena a table
    → IsSoundArena (record a { slots = with_child a.slots p name }) table
IsSound-child a table p name lt few shallow named fresh sound =
    let made : Slot = record { parent = p; depth = depth_of a.slots p + 1; name = name; properties = [] } in
    record {
      boot_cpu = sound.boot_cpu;
      reservations = sound.reservations;
      rooted = IsRooted-child a.slots p name lt few shallow sound.rooted;
      numbered = IsNumbered-added a.slots made table refl sound.numbered;
      valid = AreValid-added a.slots made sound.rooted.some refl named fresh sound.valid;
      cells = AreCells-added a.slots made refl sound.cells;
    }

-- a property of another name than phandle
pub IsSound-property : (a : Arena) (table : Table) (p : ℕ) (name : Name) (value : List ℕ) → p < length a.slots → IsPropertyName name → name ≢ codes "phandle" → IsSoundArena a table → IsSoundArena (record a { slots = with_property a.slots p name value }) table
IsSound-property a table p name value lt named ne sound = record {
  boot_cpu = sound.boot_cpu;
  reservations = sound.reservations;
  rooted = IsRooted-property a.slots p name value sound.rooted;
  numbered = IsNumbered-kept a.slots p name value table lt ne sound.numbered;
  valid = AreValid-set a.slots p name value named (λ e. absurd (ne e)) sound.valid;
  cells = AreCells-kept a.slots p name value lt ne sound.cells;
}

-- a table of the same entries
pub IsSound-same : (a : Arena) (old new : Table) → new.entries ≡ old.entries → IsSoundArena a old → IsSoundArena a new
IsSound-same a old new e sound = record {
  boot_cpu = sound.boot_cpu;
  reservations = sound.reservations;
  rooted = sound.rooted;
  numbered = IsNumbered-same a.slots old new e sound.numbered;
  valid = sound.valid;
  cells = sound.cells;
}

-- a phandle that no other node has
pub IsSound-phandle : (a : Arena) (old table : Table) (p number : ℕ) (value : List ℕ) → p < length a.slots → MayGive old p value → number ≡ from_be_bytes w32 value → value ≡ cell number
    → ((n : ℕ) → holder table n ≡ given old (phandle_at a.slots p) number p n) → IsSoundArena a old
    → IsSoundArena (record a { slots = with_property a.slots p (codes "phandle") value }) table
IsSound-phandle a old table p number value lt may is whole gives sound = record {
  boot_cpu = sound.boot_cpu;
  reservations = sound.reservations;
  rooted = IsRooted-property a.slots p (codes "phandle") value sound.rooted;
  numbered = IsNumbered-set a.slots p number value old table lt may.valid.four is (λ i e. may.own i (ap (holder old) (sym is) ∙ e)) gives sound.numbered;
  valid = AreValid-set a.slots p (codes "phandle") value phandle_named (λ e. may.valid) sound.valid;
  cells = AreCells-set a.slots p value lt (whole ∙ ap cell is) sound.cells;
}
  where
    phandle_named : IsPropertyName (codes "phandle")
    phandle_named = record {
      not_empty = omega arith;
      short = omega arith;
      allowed = All-from_recursion (λ b. IsTrue (is_name_byte b)) (codes "phandle") (refl, (refl, (refl, (refl, (refl, (refl, (refl, tt)))))));
    }

pub IsSound-root : (boot_cpu : ℕ) (table : Table) → boot_cpu < 2 ^ 32 → table.entries ≡ [] → IsSoundArena (root_alone boot_cpu) table
IsSound-root boot_cpu table fits none = record {
  boot_cpu = fits;
  reservations = tt;
  rooted = record {
    some = omega arith;
    few = omega arith;
    unnamed = refl;
    top = refl;
    above = λ i pos l. absurd (omega arith);
    deeper = λ i pos l. absurd (omega arith);
    shallow = λ i l. let e : i ≡ 0 = omega arith in subst (λ (k : ℕ). depth_of (root_alone boot_cpu).slots k ≤ 64) (sym e) (omega arith);
  };
  numbered = record { sound = λ n i e. absurd (nothing n i e); whole = λ n i e. absurd (unnumbered i n e) };
  valid = record {
    properties = (record { named = tt; distinct = tt }, tt);
    named = tt;
    siblings = λ p. subst (λ (ns : List Slot). AreDistinct (map (λ c. c.name) (named_among (suc p) ns p))) (sym (drop_all (suc p) (root_alone boot_cpu).slots (omega arith))) tt;
    phandles = (tt, tt);
  };
  cells = uncelled;
}
  where
    nothing : (n i : ℕ) → holder table n ≡ Some i → ⊥
    nothing n i e = let f : None ≡ Some i = sym (ap (λ es. lookup (eqb n) es) none) ∙ e in absurd cc

    unnumbered : (i n : ℕ) → phandle_at (root_alone boot_cpu).slots i ≡ Some n → ⊥
    unnumbered zero n e = absurd cc
    unnumbered (suc i) n e = absurd cc

    uncelled : AreCells (root_alone boot_cpu).slots
    uncelled zero value e = absurd cc
    uncelled (suc q) value e = absurd cc
