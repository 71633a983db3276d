-- A part that was read, and in which no fault shows, doesn't break.
use Rattle.std.proofs.Common.{◌≡◌, ℕ, inl, Bool, true, false, List, [], ◌∷◌, ◌++◌, map, Option, Some, refl, sym, ◌∙◌, ap, subst, append_assoc, arith, pow_pos}
use Rattle.std.specs.List.{AllByRecursion}
use Rattle.std.proofs.lemmas.List.{append-nil}
use Rattle.dt_names.specs.declared.fault.FaultKind.{FaultKind}
use Rattle.dt_model.specs.Names.{IsPropertyName, IsNodeName}
use Rattle.dt_lex.specs.declared.token.TokenKind.{TokenKind}
use Rattle.dt_lex.specs.declared.token.TokenKind.TheVariants as kind
use Rattle.dt_lex.specs.declared.token.Mark.TheVariants as mark
use Rattle.dt_expr.specs.Fits.{Fits}
use Rattle.dt_grammar.specs.Words.{Words}
use Rattle.dt_grammar.specs.Unchecked.{RawCell, RawComponent, RawPlace, raw_child, raw_label, raw_property, raw_close, raw_delete_property, raw_delete_child, value_or_zero}
use Rattle.dt_grammar.specs.Relaxed.{a_mark, Bytes, no_more_bytes, a_label_byte, another_byte}
use Rattle.dt_grammar.specs.Strict.{AreLabelTexts, IsNumber, IsCell, IsItem, IsComponent, IsSoundPlace, IsOrdered}
use Rattle.dt_grammar.specs.Wanted.{Made, made_expression, made_labels, made_cells, made_item, made_value, made_places, made_behind, size_in, expression_in, labels_in, cells_in, item_in, components_in, places_in, Wanted, AfterName, BlockOpen, DeletedChild, DeletedProperty, Ending, OneItem, OneStatement, OneValue, Prim, SomeBytes, SomeCells, SomeLabels, SomeMembers, refuse, kind_at, bytes_at}
use Rattle.dt_grammar.specs.Moves.{at_name, at_ending, at_deleted_property, at_deleted_child}
use Rattle.dt_grammar.specs.Descent.{first, after, found, Does, gives, refuses, part_found, Descends}
use Rattle.dt_grammar.specs.Faults.{Around, outside, IsBeforeChildren, name_placed, deleted_named, IsFine, Breaks}
use Rattle.dt_grammar.proofs.Descent.{deterministic}
use Rattle.dt_grammar.proofs.Bodies.{closing}
use Rattle.dt_grammar.proofs.Sound.{sound}
use Rattle.dt_grammar.proofs.CheckedBodies.{all_front, all_behind, behind_labels}
use Rattle.dt_grammar.proofs.Unbroken.{Unbroken, number_read, given_here, read_on, done, unbroken_on, clash}
use Rattle.dt_grammar.proofs.UnbrokenValues.{unbroken_labels, unbroken_cells, unbroken_bytes, unbroken_item, unbroken_value}
use Rattle.dt_grammar.proofs.UnbrokenBodies.{around, unbroken_block, unbroken_members, unbroken_statement}
use Rattle.dt_grammar.proofs.Stops.{stops}

-- ---- what is fine in what was made

fine_labels : (a : Around) (m : Made) → IsFine a m → AreLabelTexts (labels_in m)
fine_labels a (made_labels ls) f = f
fine_labels a _ f = tt

fine_cells : (a : Around) (m : Made) → IsFine a m → AllByRecursion (IsCell a.bits) (cells_in m)
fine_cells a (made_cells cs) f = f
fine_cells a _ f = tt

fine_item : (a : Around) (m : Made) → IsFine a m → IsItem (item_in m)
fine_item a (made_item i) f = f
fine_item a _ f = tt

fine_value : (a : Around) (m : Made) → IsFine a m → AllByRecursion IsComponent (components_in m)
fine_value a (made_value cs) f = f
fine_value a _ f = tt

fine_places : (a : Around) (m : Made) → IsFine a m → AllByRecursion IsSoundPlace (places_in m) × IsOrdered a.bodies (places_in m)
fine_places a (made_places ps) f = f
fine_places a (made_behind rs ps) f = (f.1, f.2)
fine_places a _ f = (tt, tt)

fine_number : (a : Around) (m : Made) → IsFine a m → IsNumber (size_in m) (expression_in m) × Fits a.bits (value_or_zero (expression_in m))
fine_number a (made_expression n e) f = f
fine_number a _ f = (record { few = omega arith; evaluated = refl }, inl (pow_pos a.bits))

fine_bytes : (bits : ℕ) {ws : Words} {cs : List RawCell} → Bytes ws cs → AllByRecursion (IsCell bits) cs → AllByRecursion (IsCell 8) cs
fine_bytes bits no_more_bytes f = tt
fine_bytes bits (a_label_byte b ws cs s) f = (f.0, fine_bytes bits s f.1)
fine_bytes bits (another_byte n b ws cs s) f = (tt, fine_bytes bits s f.1)

-- ---- parts

abbrev pub NoBreak : Around → Wanted → Type 0
NoBreak a g = (ws rest left : Words) (k : FaultKind) (m : Made) → Descends g ws (found m rest) → IsFine a m → Breaks a g ws k left → ⊥

pub no_break_number : (a : Around) → NoBreak a Prim
no_break_number a ws rest left k m d f b = let n = fine_number a m f in clash b (number_read d n.0 n.1)

pub no_break_labels : (a : Around) → NoBreak a SomeLabels
no_break_labels a ws rest left k m d f b =
    let r = sound SomeLabels ws (found m rest) d in
    clash b (unbroken_on a SomeLabels ws (r.0 ++ rest) _ rest r.1 (unbroken_labels a r.2 (fine_labels a m f) rest (stops SomeLabels ws rest m d)))

pub no_break_cells : (a : Around) → NoBreak a SomeCells
no_break_cells a ws rest left k m d f b =
    let r = sound SomeCells ws (found m rest) d in
    clash b (unbroken_on a SomeCells ws (r.0 ++ rest) _ rest r.1 (unbroken_cells a r.2 (fine_cells a m f) rest (stops SomeCells ws rest m d)))

pub no_break_bytes : (a : Around) → NoBreak a SomeBytes
no_break_bytes a ws rest left k m d f b =
    let r = sound SomeBytes ws (found m rest) d in
    clash b (unbroken_on a SomeBytes ws (r.0 ++ rest) _ rest r.1 (unbroken_bytes a r.2 (fine_bytes a.bits r.2 (fine_cells a m f)) rest (stops SomeBytes ws rest m d)))

pub no_break_item : (a : Around) → NoBreak a OneItem
no_break_item a ws rest left k m d f b =
    let r = sound OneItem ws (found m rest) d in
    clash b (unbroken_on a OneItem ws (r.0 ++ rest) _ rest r.1 (unbroken_item a r.2 (fine_item a m f) rest))

pub no_break_value : (a : Around) → NoBreak a OneValue
no_break_value a ws rest left k m d f b =
    let r = sound OneValue ws (found m rest) d in
    let s = stops OneValue ws rest m d in
    clash b (unbroken_on a OneValue ws (r.0 ++ rest) _ rest r.1 (unbroken_value a r.2 (fine_value a m f) rest s.0 s.1))

pub no_break_members : (bits : ℕ) (b : Bool) (outer : List Bool) → NoBreak (around bits (b ∷ outer)) SomeMembers
no_break_members bits b outer ws rest left k m d f broken =
    let r = sound SomeMembers ws (found m rest) d in
    let s = stops SomeMembers ws rest m d in
    let g = fine_places (around bits (b ∷ outer)) m f in
    let u = unbroken_members r.2 g.0 bits b outer outer refl [] (subst (IsOrdered (b ∷ outer)) (sym (append-nil (places_in m))) g.1) in
    clash broken (unbroken_on (around bits (b ∷ outer)) SomeMembers ws (r.0 ++ rest) _ rest r.1 (u.read rest s.0 s.1))

pub no_break_statement : (ls : List (List ℕ)) → NoBreak outside (OneStatement ls)
no_break_statement ls ws rest left k m d f broken =
    let r = sound (OneStatement ls) ws (found m rest) d in
    let g = fine_places outside m f in
    let u = unbroken_statement r.2 g.0 [] (subst (IsOrdered []) (sym (append-nil (places_in m))) g.1) in
    clash broken (unbroken_on outside (OneStatement ls) ws (r.0 ++ rest) _ rest r.1 (u.read rest))

-- ---- members

refused_found : (s rest : Words) (m : Made) → Does refuse s (found m rest) → ⊥
refused_found s rest m d = let same = deterministic d (refuses {s = s}) in cc

unbroken_ending : (a : Around) (ps : List RawPlace) (k : Option TokenKind) (s rest : Words) (m : Made) → kind_at (first s) ≡ k → Does (at_ending ps k) s (found m rest) → Unbroken a (Ending ps) s m rest
unbroken_ending a ps (Some (kind.Mark mark.Semicolon)) s rest m e gives = given_here {taken = true} (ap (at_ending ps) e) (tt, tt, tt)
unbroken_ending a ps _ s rest m e d = absurd (refused_found s rest m d)

before_children : (bodies : List Bool) (ls : List (List ℕ)) (n : List ℕ) (v : List RawComponent) (ps : List RawPlace) → IsOrdered bodies (raw_property ls n v ∷ ps) → IsBeforeChildren bodies
before_children [] ls n v ps h = tt
before_children (b ∷ bodies) ls n v ps h = h.0

unbroken_child : (bits : ℕ) (bodies : List Bool) (ls : List (List ℕ)) (n : List ℕ) (ws rest : Words) (m : Made) → Descends (BlockOpen (raw_child n ∷ map raw_label ls)) ws (found m rest) →
    AllByRecursion IsSoundPlace (places_in m) → IsOrdered bodies (places_in m) → (y : Made) × Unbroken (around bits bodies) (BlockOpen (raw_child n ∷ map raw_label ls)) ws y rest
unbroken_child bits [] ls n ws rest m d g o = absurd (subst (IsOrdered []) (sound (BlockOpen (raw_child n ∷ map raw_label ls)) ws (found m rest) d).2.made o)
unbroken_child bits (b ∷ outer) ls n ws rest m d g o =
    let r = sound (BlockOpen (raw_child n ∷ map raw_label ls)) ws (found m rest) d in
    let h = r.2 in
    let sound_places = subst (AllByRecursion IsSoundPlace) h.made g in
    let ordered = subst (IsOrdered (b ∷ outer)) h.made o in
    let inside = all_front IsSoundPlace h.cs (raw_close ∷ []) (all_behind IsSoundPlace (map raw_label ls) (h.cs ++ raw_close ∷ []) sound_places.1) in
    let inner = unbroken_members h.members inside bits false (b ∷ outer) (true ∷ outer) refl (raw_close ∷ []) (behind_labels ls (false ∷ true ∷ outer) (h.cs ++ raw_close ∷ []) ordered.1) in (
      _,
      unbroken_on (around bits (b ∷ outer)) (BlockOpen (raw_child n ∷ map raw_label ls)) ws (a_mark mark.OpenBrace h.a ∷ (h.inner ++ closing h.z h.s rest)) _ rest
          (r.1 ∙ ap (λ (x : Words). x ++ rest) h.together ∙ ap (λ (x : Words). a_mark mark.OpenBrace h.a ∷ x) (append_assoc h.inner (closing h.z h.s []) rest))
          (unbroken_block bits (b ∷ outer) (raw_child n ∷ map raw_label ls) h.cs h.a h.z h.s h.inner rest ordered.0 inner.read),
    )

unbroken_name : (bits : ℕ) (bodies : List Bool) (ls : List (List ℕ)) (n : List ℕ) (k : Option TokenKind) (ws rest : Words) (m : Made) → kind_at (first ws) ≡ k → Does (at_name ls n k) ws (found m rest) →
    AllByRecursion IsSoundPlace (places_in m) → IsOrdered bodies (places_in m) → (y : Made) × Unbroken (around bits bodies) (AfterName ls n) ws y rest
unbroken_name bits bodies ls n (Some (kind.Mark mark.Semicolon)) ws rest m e gives g o =
    (_, given_here {taken = true} (ap (at_name ls n) e) (tt, tt, subst (name_placed bodies) (sym e) (before_children bodies ls n [] [] o)))
unbroken_name bits bodies ls n (Some (kind.Mark mark.Equals)) ws rest m e (part_found {left = left} {made = x} d f) g o =
    let r = sound OneValue (after true ws) (found x left) d in
    let s = stops OneValue (after true ws) left x d in
    let made = (sound (Ending (raw_property ls n (components_in x) ∷ [])) left (found m rest) f).2.1 in
    let fine = subst (AllByRecursion IsSoundPlace) made g in
    let before = before_children bodies ls n (components_in x) [] (subst (IsOrdered bodies) made o) in (
      _,
      read_on (ap (at_name ls n) e) (tt, tt, subst (name_placed bodies) (sym e) before)
          (unbroken_on (around bits bodies) OneValue (after true ws) (r.0 ++ left) _ left r.1 (unbroken_value (around bits bodies) r.2 fine.0.2 left s.0 s.1))
          (unbroken_ending (around bits bodies) (raw_property ls n (components_in x) ∷ []) (kind_at (first left)) left rest m refl f),
    )
unbroken_name bits bodies ls n (Some (kind.Mark mark.OpenBrace)) ws rest m e (part_found d gives) g o =
    let u = unbroken_child bits bodies ls n ws rest m d g o in
    (_, read_on (ap (at_name ls n) e) (tt, tt, subst (name_placed bodies) (sym e) tt) u.1 done)
unbroken_name bits bodies ls n _ ws rest m e d g o = absurd (refused_found ws rest m d)

pub no_break_name : (a : Around) (ls : List (List ℕ)) (n : List ℕ) → NoBreak a (AfterName ls n)
no_break_name a ls n ws rest left k m d f b =
    let g = fine_places a m f in
    clash b (unbroken_name a.bits a.bodies ls n (kind_at (first ws)) ws rest m refl d g.0 g.1).1

named_anyway : (P : List ℕ → Type 0) (b : List ℕ) (k next : Option TokenKind) → P b → deleted_named P b k next
named_anyway P b (Some kind.Name) (Some (kind.Mark mark.Semicolon)) p = p
named_anyway P b _ _ p = tt

unbroken_deleted_property : (a : Around) (ls : List (List ℕ)) (k : Option TokenKind) (ws rest : Words) (m : Made) → kind_at (first ws) ≡ k → Does (at_deleted_property ls (bytes_at (first ws)) k) ws (found m rest) →
    AllByRecursion IsSoundPlace (places_in m) → Unbroken a (DeletedProperty ls) ws m rest
unbroken_deleted_property a ls (Some kind.Name) ws rest m e (part_found d gives) g =
    let made = (sound (Ending (raw_delete_property ls (bytes_at (first ws)) ∷ [])) (after true ws) (found m rest) d).2.1 in
    let fine = subst (AllByRecursion IsSoundPlace) made g in
    read_on (ap (at_deleted_property ls (bytes_at (first ws))) e) (tt, named_anyway IsPropertyName (bytes_at (first ws)) (kind_at (first ws)) (kind_at (first (after true ws))) fine.0.1, tt)
    (unbroken_ending a (raw_delete_property ls (bytes_at (first ws)) ∷ []) (kind_at (first (after true ws))) (after true ws) rest m refl d) done
unbroken_deleted_property a ls _ ws rest m e d g = absurd (refused_found ws rest m d)

pub no_break_deleted_property : (a : Around) (ls : List (List ℕ)) → NoBreak a (DeletedProperty ls)
no_break_deleted_property a ls ws rest left k m d f b = clash b (unbroken_deleted_property a ls (kind_at (first ws)) ws rest m refl d (fine_places a m f).0)

unbroken_deleted_child : (a : Around) (ls : List (List ℕ)) (k : Option TokenKind) (ws rest : Words) (m : Made) → kind_at (first ws) ≡ k → Does (at_deleted_child ls (bytes_at (first ws)) k) ws (found m rest) →
    AllByRecursion IsSoundPlace (places_in m) → Unbroken a (DeletedChild ls) ws m rest
unbroken_deleted_child a ls (Some kind.Name) ws rest m e (part_found d gives) g =
    let made = (sound (Ending (raw_delete_child ls (bytes_at (first ws)) ∷ [])) (after true ws) (found m rest) d).2.1 in
    let fine = subst (AllByRecursion IsSoundPlace) made g in
    read_on (ap (at_deleted_child ls (bytes_at (first ws))) e) (tt, named_anyway IsNodeName (bytes_at (first ws)) (kind_at (first ws)) (kind_at (first (after true ws))) fine.0.1, tt)
    (unbroken_ending a (raw_delete_child ls (bytes_at (first ws)) ∷ []) (kind_at (first (after true ws))) (after true ws) rest m refl d) done
unbroken_deleted_child a ls _ ws rest m e d g = absurd (refused_found ws rest m d)

pub no_break_deleted_child : (a : Around) (ls : List (List ℕ)) → NoBreak a (DeletedChild ls)
no_break_deleted_child a ls ws rest left k m d f b = clash b (unbroken_deleted_child a ls (kind_at (first ws)) ws rest m refl d (fine_places a m f).0)
