-- What is kept of values, and the nodes with them, after a value is put.
use Rattle.std.proofs.Common.{◌≡◌, ℕ, ◌+◌, ◌≤◌, Bool, true, false, cond, ◌&&◌, List, [], ◌∷◌, ◌++◌, length, take, drop, codes, Option, Some, refl, sym, ap, subst, ◌∙◌, arith, true≢false, append_assoc, append-nil, length-append, length-drop}
use Rattle.std.specs.Prelude.{nat_eq, option_map, unwrap_or, if◌then◌else◌}
use Rattle.std.specs.Global.{Vec}
use Rattle.std.specs.HashMap.{HashMap, UpdatesBy}
use Rattle.std.specs.Map.{lookup}
use Rattle.std.specs.Str.{bytes_eq}
use Rattle.std.proofs.lemmas.Bool.{eqb-true, eq-eqb}
use Rattle.std.proofs.lemmas.List.{length-take-le}
use Rattle.dt_model.specs.Applied.{Write, is_at, value_after_writes, with_cell}
use Rattle.dt_model.specs.Meaning.{cell}
use Rattle.dt_model.specs.Names.{Name}
use Rattle.dt_model.specs.Path.{Path, path_eq}
use Rattle.dt_model.specs.Tree.{value_in}
use Rattle.dt_model.proofs.Tests.{bytes_eq_true, bytes_eq_refl, path_eq_refl, path_eq_true}
use Rattle.dt_overlay_landing.specs.Values.{Kept, IsKept, AreKept, MayWrite, MayWriteAll, value_kept, Keeps, Key, values_kept}
use Rattle.dt_overlay_object.specs.declared.kept.Write.{Write as KeptWrite}
use Rattle.dt_trees.specs.Placed.{PlacedTree, place_of, reading_of, HasPlacesApart}

-- ---- the table

-- the value that is kept is the one that the table has
pub kept_found : (es : List (Key × Vec ℕ)) (k : ℕ) (x : Name) → value_kept (values_kept es) k x ≡ option_map (λ (v : Vec ℕ). v.items) (lookup (λ (key : Key). nat_eq k key.0 && bytes_eq x key.1.now) es)
kept_found [] k x = refl
kept_found (e ∷ es) k x = by (nat_eq k e.0.0 && bytes_eq x e.0.1.now) (kept_found es k x)
  where
    by : (b : Bool) → value_kept (values_kept es) k x ≡ option_map (λ (v : Vec ℕ). v.items) (lookup (λ (key : Key). nat_eq k key.0 && bytes_eq x key.1.now) es)
        → cond b (Some e.1.items) (value_kept (values_kept es) k x) ≡ option_map (λ (v : Vec ℕ). v.items) (cond b (Some e.1) (lookup (λ (key : Key). nat_eq k key.0 && bytes_eq x key.1.now) es))
    by true more = refl
    by false more = more

-- what the table keeps after a change
pub kept_after : {S : Type 0} (m n : HashMap Key (Vec ℕ) S) (k : Key) (w : Option (Vec ℕ))
    → UpdatesBy (λ (a b : Key). nat_eq a.0 b.0 && bytes_eq a.1.now b.1.now) (λ (b : Key). nat_eq k.0 b.0 && bytes_eq k.1.now b.1.now) m n w
    → Keeps (values_kept m.entries) (values_kept n.entries) k.0 k.1.now (option_map (λ (v : Vec ℕ). v.items) w)
kept_after m n k w u j y =
    kept_found n.entries j y ∙ ap (option_map (λ (v : Vec ℕ). v.items)) (u.0 (j, record k.1 { now = y }))
    ∙ by (nat_eq k.0 j && bytes_eq k.1.now y)
    ∙ ap (λ (o : Option (List ℕ)). cond (nat_eq k.0 j && bytes_eq k.1.now y) (option_map (λ (v : Vec ℕ). v.items) w) o) (sym (kept_found m.entries j y))
  where
    by : (b : Bool) → option_map (λ (v : Vec ℕ). v.items) (cond b w (lookup (λ (key : Key). nat_eq j key.0 && bytes_eq y key.1.now) m.entries))
        ≡ cond b (option_map (λ (v : Vec ℕ). v.items) w) (option_map (λ (v : Vec ℕ). v.items) (lookup (λ (key : Key). nat_eq j key.0 && bytes_eq y key.1.now) m.entries))
    by true = refl
    by false = refl

-- what is kept of a property is changed twice
pub keeps_again : (a b c : List Kept) (k : ℕ) (x : Name) (w v : Option (List ℕ)) → Keeps a b k x w → Keeps b c k x v → Keeps a c k x v
keeps_again a b c k x w v first last j y = last j y ∙ ap (λ (o : Option (List ℕ)). cond (nat_eq k j && bytes_eq x y) v o) (first j y) ∙ by (nat_eq k j && bytes_eq x y)
  where
    by : (t : Bool) → cond t v (cond t w (value_kept a j y)) ≡ cond t v (value_kept a j y)
    by true = refl
    by false = refl

-- ---- a value is put

-- a value with a cell written is as long as before
length-with_cell : (bytes : List ℕ) (offset n : ℕ) → offset + 4 ≤ length bytes → length (with_cell bytes offset n) ≡ length bytes
length-with_cell bytes offset n room =
    let four : length (cell n) ≡ 4 = refl in
    omega (arith, room, length-append (take offset bytes) (cell n ++ drop (offset + 4) bytes), length-append (cell n) (drop (offset + 4) bytes), length-take-le offset bytes (omega (arith, room)), length-drop (offset + 4) bytes)

-- the last write comes last
after_last : (p : Path) (x : Name) (ws : List Write) (w : Write) (v : List ℕ)
    → value_after_writes p x (ws ++ w ∷ []) v ≡ (if is_at p x w then with_cell (value_after_writes p x ws v) w.cell.offset w.number else value_after_writes p x ws v)
after_last p x [] w v = refl
after_last p x (u ∷ ws) w v = after_last p x ws w (if is_at p x u then with_cell v u.cell.offset u.number else v)

-- where nothing is kept, nothing is written
pub kept_begun : (t : PlacedTree) (vs : List Kept) → vs ≡ [] → AreKept t vs []
kept_begun t vs none = subst (λ (es : List Kept). AreKept t es []) (sym none) (λ p k x v at there. record { is = λ plain. refl; long = refl })

both_true : (a b : Bool) → a && b ≡ true → (a ≡ true) × (b ≡ true)
both_true true b h = (refl, h)
both_true false b h = absurd (true≢false (sym h))

other_name : (x y : Name) → x ≡ codes "phandle" → bytes_eq y (codes "phandle") ≡ false → bytes_eq x y ≡ false
other_name x y same plain = by (bytes_eq x y) refl
  where
    by : (b : Bool) → bytes_eq x y ≡ b → b ≡ false
    by true e = absurd (true≢false (sym (ap (λ (z : Name). bytes_eq z (codes "phandle")) (sym (bytes_eq_true x y e)) ∙ ap (λ (z : Name). bytes_eq z (codes "phandle")) same ∙ bytes_eq_refl (codes "phandle")) ∙ plain))
    by false e = refl

no_and : (a b : Bool) → b ≡ false → a && b ≡ false
no_and true b none = none
no_and false b none = refl

-- a write into a `phandle` leaves what is kept
pub kept_phandle : (t : PlacedTree) (vs : List Kept) (ws : List Write) (w : Write) → AreKept t vs ws → w.cell.property ≡ codes "phandle" → AreKept t vs (ws ++ w ∷ [])
kept_phandle t vs ws w kept phandle p k x v at there =
    let old = kept p k x v at there in
    record {
      is = λ plain. old.is plain
          ∙ sym (after_last p x ws w v ∙ ap (λ (b : Bool). if b then with_cell (value_after_writes p x ws v) w.cell.offset w.number else value_after_writes p x ws v)
          (no_and (path_eq w.cell.path p) (bytes_eq w.cell.property x) (other_name w.cell.property x phandle plain)));
      long = old.long;
    }

module _ (t : PlacedTree) (apart : HasPlacesApart t) (old new : List Kept) (ws : List Write) (x : KeptWrite) (w : Write) (may : MayWrite t old ws x w) where
  abbrev pub so_far : List ℕ
  so_far = unwrap_or (value_kept old x.node x.property.now) may.cell.0

  own : IsKept old ws w.cell.path x.node w.cell.property may.cell.0
  own = may.kept w.cell.path x.node w.cell.property may.cell.0 may.is.node may.cell.1

  named : unwrap_or (value_kept old x.node w.cell.property) may.cell.0 ≡ so_far
  named = ap (λ (y : Name). unwrap_or (value_kept old x.node y) may.cell.0) (sym may.is.property)

  -- the cell is within the value that it has so far
  pub cell_within : x.offset + 4 ≤ length so_far
  cell_within = omega (arith, may.cell.2, own.long, ap length named, may.is.offset)

  abbrev pub written : List ℕ
  written = with_cell so_far x.offset x.number

  pub kept_more : Keeps old new x.node x.property.now (Some written) → AreKept t new (ws ++ w ∷ [])
  kept_more puts p k y v at there = by (nat_eq x.node k && bytes_eq x.property.now y) refl
    where
      seen : Bool → Option (List ℕ)
      seen b = if b then Some written else value_kept old k y

      step : Bool → List ℕ
      step b = if b then with_cell (value_after_writes p y ws v) w.cell.offset w.number else value_after_writes p y ws v

      by : (b : Bool) → nat_eq x.node k && bytes_eq x.property.now y ≡ b → IsKept new (ws ++ w ∷ []) p k y v
      by true e =
          let both = both_true (nat_eq x.node k) (bytes_eq x.property.now y) e in
          let node : x.node ≡ k = eqb-true x.node k both.0 in
          let name : w.cell.property ≡ y = sym may.is.property ∙ bytes_eq_true x.property.now y both.1 in
          let path : w.cell.path ≡ p = apart w.cell.path p k (may.is.node ∙ ap (λ (n : ℕ). Some n) node) at in
          let same : Some may.cell.0 ≡ Some v = sym may.cell.1 ∙ (λ i. value_in (reading_of t) (path i) (name i)) ∙ there in
          let value : may.cell.0 ≡ v = cc in
          let now : unwrap_or (value_kept new k y) v ≡ written = ap (λ (o : Option (List ℕ)). unwrap_or o v) (puts k y ∙ ap seen e) in
          let here : is_at p y w ≡ true = (λ i. path_eq (path i) p && bytes_eq (name i) y) ∙ (λ i. path_eq_refl p i && bytes_eq_refl y i) in
          let had : so_far ≡ unwrap_or (value_kept old k y) v = λ i. unwrap_or (value_kept old (node i) ((may.is.property ∙ name) i)) (value i) in
          let before = may.kept p k y v at there in
          record {
            is = λ plain. now ∙ (λ i. with_cell ((had ∙ before.is plain) i) (may.is.offset i) (may.is.number i)) ∙ sym (after_last p y ws w v ∙ ap step here);
            long = ap length now ∙ length-with_cell so_far x.offset x.number cell_within ∙ ap length had ∙ before.long;
          }
      by false e =
          let before = may.kept p k y v at there in
          let now : unwrap_or (value_kept new k y) v ≡ unwrap_or (value_kept old k y) v = ap (λ (o : Option (List ℕ)). unwrap_or o v) (puts k y ∙ ap seen e) in
          record { is = λ plain. now ∙ before.is plain ∙ sym (after_last p y ws w v ∙ ap step (elsewhere (is_at p y w) refl)); long = ap length now ∙ before.long }
        where
          elsewhere : (b : Bool) → is_at p y w ≡ b → is_at p y w ≡ false
          elsewhere false f = f
          elsewhere true f =
              let both = both_true (path_eq w.cell.path p) (bytes_eq w.cell.property y) f in
              let path : w.cell.path ≡ p = path_eq_true w.cell.path p both.0 in
              let one : Some x.node ≡ Some k = sym may.is.node ∙ ap (place_of t) path ∙ at in
              let node : x.node ≡ k = cc in
              let name : x.property.now ≡ y = may.is.property ∙ bytes_eq_true w.cell.property y both.1 in
              absurd (true≢false (sym ((λ i. nat_eq (node i) k && bytes_eq (name i) y) ∙ (λ i. eq-eqb k k refl i && bytes_eq_refl y i)) ∙ e))

-- ---- the writes that are left

pub record WritesLeft (t : PlacedTree) (vs : List Kept) (written : List Write) (left : List KeptWrite) (all : List Write) : Type 0 where
  pub done : List Write
  pub behind : List Write
  pub may : MayWriteAll t vs done left behind
  pub whole : done ++ behind ≡ written ++ all

pub writes_begun : (t : PlacedTree) (vs : List Kept) (written : List Write) (xs : List KeptWrite) (all : List Write) → MayWriteAll t vs written xs all → WritesLeft t vs written xs all
writes_begun t vs written xs all may = record { done = written; behind = all; may = may; whole = refl }

-- the next one
pub record IsNextWrite (t : PlacedTree) (vs : List Kept) (written : List Write) (x : KeptWrite) (rest : List KeptWrite) (all : List Write) : Type 0 where
  pub done : List Write
  pub write : Write
  pub may : MayWrite t vs done x write
  pub on : (new : List Kept) → AreKept t new (done ++ write ∷ []) → WritesLeft t new written rest all

pub next_write : (t : PlacedTree) (vs : List Kept) (written : List Write) (left rest : List KeptWrite) (x : KeptWrite) (all : List Write) → left ≡ x ∷ rest → WritesLeft t vs written left all → IsNextWrite t vs written x rest all
next_write t vs written left rest x all e so_far = by so_far.behind (subst (λ (xs : List KeptWrite). MayWriteAll t vs so_far.done xs so_far.behind) e so_far.may) so_far.whole
  where
    by : (ws : List Write) → MayWriteAll t vs so_far.done (x ∷ rest) ws → so_far.done ++ ws ≡ written ++ all → IsNextWrite t vs written x rest all
    by [] may whole = absurd may.are
    by (w ∷ ws) may whole = record {
      done = so_far.done;
      write = w;
      may = record { kept = may.kept; is = may.are.0; cell = may.cells.0 };
      on = λ new kept. record {
        done = so_far.done ++ w ∷ [];
        behind = ws;
        may = record { kept = kept; are = may.are.1; cells = may.cells.1 };
        whole = append_assoc so_far.done (w ∷ []) ws ∙ whole;
      };
    }

pub writes_over : (t : PlacedTree) (vs : List Kept) (written : List Write) (left : List KeptWrite) (all : List Write) → left ≡ [] → WritesLeft t vs written left all → AreKept t vs (written ++ all)
writes_over t vs written left all none so_far = by so_far.behind (subst (λ (xs : List KeptWrite). MayWriteAll t vs so_far.done xs so_far.behind) none so_far.may) so_far.whole
  where
    by : (ws : List Write) → MayWriteAll t vs so_far.done [] ws → so_far.done ++ ws ≡ written ++ all → AreKept t vs (written ++ all)
    by [] may whole = subst (AreKept t vs) (sym (append-nil so_far.done) ∙ whole) may.kept
    by (w ∷ ws) may whole = absurd may.are
