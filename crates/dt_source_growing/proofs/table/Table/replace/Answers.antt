use Rattle.std.proofs.Common.{◌≡◌, ◌∙◌, ◌++◌, ◌∷◌, [], Bool, ◌&&◌, nat_eq, cond, refl, sym, ap, subst, set, List, length, Some, None, arith}
use Rattle.std.specs.Str.{bytes_eq}
use Rattle.dt_source_growing.specs.Table.{Key, entry, span_at, Puts, IsFirstOf, HasRoom, longer, AreSpans}
use Rattle.dt_source_growing.specs.declared.table.Last.{Last}
use Rattle.dt_source_growing.specs.declared.table.Span.{Span}
use Rattle.dt_source_growing.proofs.TableLemmas.{on_err, row_is, key-refl, first_entry, set_entry, entry-front, entry-behind, puts-front, puts-behind, puts-row, spilled, spans-row, spans-hashed}
use Rattle.dt_source_growing.proofs.table.Table.replace.Goals as goal

pub returns-in-Some-clause-before : goal.returns-in-Some-clause-before
returns-in-Some-clause-before c =
    let i = c.args.owner in
    let x = c.args.name.now in
    let rows = c.self.inside.rows.items in
    let first = subst (λ (rs : List (Key × Last)). IsFirstOf rs i x c.in-Some.place) c.deref-2.ensures.value c.in-Some.ensures in
    ap (λ (e : Key × Last). Some e.1) (c.index.ensures ∙ sym (row_is rows c.in-Some.place first.0 _ first.1))
    ∙ sym (entry-front rows c.self.inside.hashed.entries i x first.0.1 (first_entry rows i x c.in-Some.place first)) ∙ ap (λ (es : List (Key × Last)). entry es i x) c.self.view_is

pub returns-in-Some-clause-ok : goal.returns-in-Some-clause-ok
returns-in-Some-clause-ok c =
    let i = c.args.owner in
    let x = c.args.name.now in
    let rows = c.self.inside.rows.items in
    let place = c.in-Some.place in
    let w = c.args.last in
    let first = subst (λ (rs : List (Key × Last)). IsFirstOf rs i x place) c.deref-2.ensures.value c.in-Some.ensures in
    let mine : first.0 ≡ c.index_mut.result.now = row_is rows place first.0 _ first.1 ∙ sym c.index_mut.ensures.value in
    let put : Puts rows (set rows place (c.index_mut.result.now.0, w)) i x w = subst (λ (e : Key × Last). Puts rows (set rows place (e.0, w)) i x w) mine (set_entry rows i x place w first) in
    subst (λ (es : List (Key × Last)). Puts es (set rows place (c.index_mut.result.now.0, w) ++ c.self.inside.hashed.entries) i x w) c.self.view_is
    (puts-front rows (set rows place (c.index_mut.result.now.0, w)) c.self.inside.hashed.entries i x w put)

pub returns-in_err-reserve-clause-absent : goal.returns-in_err-reserve-clause-absent
returns-in_err-reserve-clause-absent c =
    let i = c.args.owner in
    let x = c.args.name.now in
    let rows = c.self.inside.rows.items in
    let hashed = c.self.inside.hashed.entries in
    let span : c.span_of-span.result ≡ span_at c.self.inside.spans.items i = c.span_of-span.ensures ∙ ap (λ (ss : List Span). span_at ss i) c.deref.ensures.value in
    let none : entry rows i x ≡ None = ap (λ (rs : List (Key × Last)). entry rs i x) (sym c.deref-2.ensures.value) ∙ c.in_default.ensures in
    let alone : entry hashed i x ≡ None = c.self.invariant.alone i x (ap (λ (s : Span). s.spills) (sym span) ∙ (c.if-has_room.ensures refl).alone) in
    let absent : entry c.args.self.now i x ≡ None = ap (λ (es : List (Key × Last)). entry es i x) (sym c.self.view_is) ∙ entry-behind rows hashed i x none ∙ alone in
    on_err c.from_residual.result _ absent

pub returns-in_err-set_span-clause-absent : goal.returns-in_err-set_span-clause-absent
returns-in_err-set_span-clause-absent c =
    let i = c.args.owner in
    let x = c.args.name.now in
    let rows = c.self.inside.rows.items in
    let hashed = c.self.inside.hashed.entries in
    let span : c.span_of-span.result ≡ span_at c.self.inside.spans.items i = c.span_of-span.ensures ∙ ap (λ (ss : List Span). span_at ss i) c.deref.ensures.value in
    let none : entry rows i x ≡ None = ap (λ (rs : List (Key × Last)). entry rs i x) (sym c.deref-2.ensures.value) ∙ c.in_default.ensures in
    let alone : entry hashed i x ≡ None = c.self.invariant.alone i x (ap (λ (s : Span). s.spills) (sym span) ∙ (c.if-has_room.ensures refl).alone) in
    let absent : entry c.args.self.now i x ≡ None = ap (λ (es : List (Key × Last)). entry es i x) (sym c.self.view_is) ∙ entry-behind rows hashed i x none ∙ alone in
    on_err c.from_residual-in_err-set_span.result _ absent

pub invariant_of-self-then-has_room : goal.invariant_of-self-then-has_room
invariant_of-self-then-has_room c =
    let i = c.args.owner in
    let x = c.args.name.now in
    let rows = c.self.inside.rows.items in
    let hashed = c.self.inside.hashed.entries in
    let span : c.span_of-span.result ≡ span_at c.self.inside.spans.items i = c.span_of-span.ensures ∙ ap (λ (ss : List Span). span_at ss i) c.deref.ensures.value in
    let none : entry rows i x ≡ None = ap (λ (rs : List (Key × Last)). entry rs i x) (sym c.deref-2.ensures.value) ∙ c.in_default.ensures in
    let w = c.args.last in
    let k : Key = (i, record { bytes = c.args.name }) in
    let items : c.push_reserved.new.self.items ≡ rows ++ (k, w) ∷ [] = c.push_reserved.ensures.items ∙ ap (λ (rs : List (Key × Last)). rs ++ (k, w) ∷ []) c.reserve.ensures.items in
    let size : c.len.result ≡ length rows = omega (arith, c.len.ensures) in
    let size-2 : c.len-then-has_room.result ≡ length rows = omega (arith, c.len-then-has_room.ensures, ap (λ (rs : List (Key × Last)). length rs) c.reserve.ensures.items) in
    let room : HasRoom (span_at c.self.inside.spans.items i) (length rows) = subst (HasRoom (span_at c.self.inside.spans.items i)) size (subst (λ (s : Span). HasRoom s c.len.result) span (c.if-has_room.ensures refl)) in
    let grown : c.longer.result ≡ longer (span_at c.self.inside.spans.items i) (length rows) = c.longer.ensures ∙ (λ t. longer (span t) (size-2 t)) in
    subst (λ (rs : List (Key × Last)). AreSpans rs c.set_span.new.spans.items hashed) (sym items)
    (spans-row rows c.self.inside.spans.items c.set_span.new.spans.items hashed k w room c.self.invariant
    (λ j. c.in_ok-set_span.ensures.ok j ∙ ap (λ (s : Span). cond (nat_eq i j) s (span_at c.self.inside.spans.items j)) grown))

pub returns-then-has_room-clause-before : goal.returns-then-has_room-clause-before
returns-then-has_room-clause-before c =
    let i = c.args.owner in
    let x = c.args.name.now in
    let rows = c.self.inside.rows.items in
    let hashed = c.self.inside.hashed.entries in
    let span : c.span_of-span.result ≡ span_at c.self.inside.spans.items i = c.span_of-span.ensures ∙ ap (λ (ss : List Span). span_at ss i) c.deref.ensures.value in
    let none : entry rows i x ≡ None = ap (λ (rs : List (Key × Last)). entry rs i x) (sym c.deref-2.ensures.value) ∙ c.in_default.ensures in
    let alone : entry hashed i x ≡ None = c.self.invariant.alone i x (ap (λ (s : Span). s.spills) (sym span) ∙ (c.if-has_room.ensures refl).alone) in
    let absent : entry c.args.self.now i x ≡ None = ap (λ (es : List (Key × Last)). entry es i x) (sym c.self.view_is) ∙ entry-behind rows hashed i x none ∙ alone in
    sym absent

pub returns-then-has_room-clause-ok : goal.returns-then-has_room-clause-ok
returns-then-has_room-clause-ok c =
    let i = c.args.owner in
    let x = c.args.name.now in
    let rows = c.self.inside.rows.items in
    let hashed = c.self.inside.hashed.entries in
    let span : c.span_of-span.result ≡ span_at c.self.inside.spans.items i = c.span_of-span.ensures ∙ ap (λ (ss : List Span). span_at ss i) c.deref.ensures.value in
    let none : entry rows i x ≡ None = ap (λ (rs : List (Key × Last)). entry rs i x) (sym c.deref-2.ensures.value) ∙ c.in_default.ensures in
    let w = c.args.last in
    let k : Key = (i, record { bytes = c.args.name }) in
    let items : c.push_reserved.new.self.items ≡ rows ++ (k, w) ∷ [] = c.push_reserved.ensures.items ∙ ap (λ (rs : List (Key × Last)). rs ++ (k, w) ∷ []) c.reserve.ensures.items in
    subst (λ (es : List (Key × Last)). Puts es (c.push_reserved.new.self.items ++ hashed) i x w) c.self.view_is
    (subst (λ (rs : List (Key × Last)). Puts (rows ++ hashed) (rs ++ hashed) i x w) (sym items)
    (puts-front rows (rows ++ (k, w) ∷ []) hashed i x w (puts-row rows k i x w none (key-refl i x))))

pub returns-in_err-set_span-2-clause-absent : goal.returns-in_err-set_span-2-clause-absent
returns-in_err-set_span-2-clause-absent c =
    let i = c.args.owner in
    let x = c.args.name.now in
    let rows = c.self.inside.rows.items in
    let hashed = c.self.inside.hashed.entries in
    let span : c.span_of-span.result ≡ span_at c.self.inside.spans.items i = c.span_of-span.ensures ∙ ap (λ (ss : List Span). span_at ss i) c.deref.ensures.value in
    let none : entry rows i x ≡ None = ap (λ (rs : List (Key × Last)). entry rs i x) (sym c.deref-2.ensures.value) ∙ c.in_default.ensures in
    let alone : entry hashed i x ≡ None = c.self.invariant.alone i x c.in_err-set_span-2.ensures.absent in
    on_err c.from_residual-in_err-set_span-2.result _ (ap (λ (es : List (Key × Last)). entry es i x) (sym c.self.view_is) ∙ entry-behind rows hashed i x none ∙ alone)

pub returns-in_err-before-clause-absent : goal.returns-in_err-before-clause-absent
returns-in_err-before-clause-absent c =
    let i = c.args.owner in
    let x = c.args.name.now in
    let rows = c.self.inside.rows.items in
    let hashed = c.self.inside.hashed.entries in
    let span : c.span_of-span.result ≡ span_at c.self.inside.spans.items i = c.span_of-span.ensures ∙ ap (λ (ss : List Span). span_at ss i) c.deref.ensures.value in
    let none : entry rows i x ≡ None = ap (λ (rs : List (Key × Last)). entry rs i x) (sym c.deref-2.ensures.value) ∙ c.in_default.ensures in
    on_err c.from_residual-in_err-before.result _ (ap (λ (es : List (Key × Last)). entry es i x) (sym c.self.view_is) ∙ entry-behind rows hashed i x none ∙ c.in_err-before.ensures.absent)

pub invariant_of-self-2 : goal.invariant_of-self-2
invariant_of-self-2 c =
    let i = c.args.owner in
    let x = c.args.name.now in
    let rows = c.self.inside.rows.items in
    let hashed = c.self.inside.hashed.entries in
    let span : c.span_of-span.result ≡ span_at c.self.inside.spans.items i = c.span_of-span.ensures ∙ ap (λ (ss : List Span). span_at ss i) c.deref.ensures.value in
    let none : entry rows i x ≡ None = ap (λ (rs : List (Key × Last)). entry rs i x) (sym c.deref-2.ensures.value) ∙ c.in_default.ensures in
    let w = c.args.last in
    let put : Puts hashed c.replace_hashed.new.hashed.entries i x w = c.in_ok-before.ensures.ok in
    spans-hashed rows c.self.inside.spans.items c.set_span-2.new.spans.items hashed c.replace_hashed.new.hashed.entries i
    (λ j. c.in_ok-set_span-2.ensures.ok j ∙ ap (λ (s : Span). cond (nat_eq i j) (spilled s) (span_at c.self.inside.spans.items j)) span)
    (λ j y other. put j y ∙ ap (λ (b : Bool). cond (b && bytes_eq x y) (Some w) (entry hashed j y)) other) c.self.invariant

pub returns-clause-before : goal.returns-clause-before
returns-clause-before c =
    let i = c.args.owner in
    let x = c.args.name.now in
    let rows = c.self.inside.rows.items in
    let hashed = c.self.inside.hashed.entries in
    let span : c.span_of-span.result ≡ span_at c.self.inside.spans.items i = c.span_of-span.ensures ∙ ap (λ (ss : List Span). span_at ss i) c.deref.ensures.value in
    let none : entry rows i x ≡ None = ap (λ (rs : List (Key × Last)). entry rs i x) (sym c.deref-2.ensures.value) ∙ c.in_default.ensures in
    c.in_ok-before.ensures.before ∙ sym (entry-behind rows hashed i x none) ∙ ap (λ (es : List (Key × Last)). entry es i x) c.self.view_is

pub returns-clause-ok : goal.returns-clause-ok
returns-clause-ok c =
    let i = c.args.owner in
    let x = c.args.name.now in
    let rows = c.self.inside.rows.items in
    let hashed = c.self.inside.hashed.entries in
    let span : c.span_of-span.result ≡ span_at c.self.inside.spans.items i = c.span_of-span.ensures ∙ ap (λ (ss : List Span). span_at ss i) c.deref.ensures.value in
    let none : entry rows i x ≡ None = ap (λ (rs : List (Key × Last)). entry rs i x) (sym c.deref-2.ensures.value) ∙ c.in_default.ensures in
    let w = c.args.last in
    let put : Puts hashed c.replace_hashed.new.hashed.entries i x w = c.in_ok-before.ensures.ok in
    subst (λ (es : List (Key × Last)). Puts es (rows ++ c.replace_hashed.new.hashed.entries) i x w) c.self.view_is (puts-behind rows hashed c.replace_hashed.new.hashed.entries i x w none put)
