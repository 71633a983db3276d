use Rattle.std.proofs.Common.{◌≡◌, ◌∙◌, sym, ap, subst, List, None, Some}
use Rattle.dt_source_growing.specs.Table.{Key, entry, span_at, IsFirstOf}
use Rattle.dt_source_growing.specs.declared.table.Last.{Last}
use Rattle.dt_source_growing.specs.declared.table.Span.{Span}
use Rattle.dt_source_growing.proofs.TableLemmas.{row_is, not_true, first_entry, entry-front, entry-behind}
use Rattle.dt_source_growing.proofs.table.Table.get.Goals as goal

pub returns-in-Some : goal.returns-in-Some
returns-in-Some c =
    let i = c.args.owner in
    let x = c.args.name.now in
    let rows = c.self.inside.rows.items in
    let first = subst (λ (rs : List (Key × Last)). IsFirstOf rs i x c.in-Some.place) c.deref-2.ensures.value c.in-Some.ensures in
    ap (λ (e : Key × Last). Some e.1) (c.index.ensures ∙ sym (row_is rows c.in-Some.place first.0 _ first.1))
    ∙ sym (entry-front rows c.self.inside.hashed.entries i x first.0.1 (first_entry rows i x c.in-Some.place first)) ∙ ap (λ (es : List (Key × Last)). entry es i x) c.self.view_is

pub returns-then-not-span : goal.returns-then-not-span
returns-then-not-span c =
    let i = c.args.owner in
    let x = c.args.name.now in
    let rows = c.self.inside.rows.items in
    let span : c.span_of-span.result ≡ span_at c.self.inside.spans.items i = c.span_of-span.ensures ∙ ap (λ (ss : List Span). span_at ss i) c.deref.ensures.value in
    let none : entry rows i x ≡ None = ap (λ (rs : List (Key × Last)). entry rs i x) (sym c.deref-2.ensures.value) ∙ c.in_default.ensures in
    sym (c.self.invariant.alone i x (ap (λ (s : Span). s.spills) (sym span) ∙ not_true c.span_of-span.result.spills c.if-not-span.true)) ∙ sym (entry-behind rows c.self.inside.hashed.entries i x none)
    ∙ ap (λ (es : List (Key × Last)). entry es i x) c.self.view_is

pub returns : goal.returns
returns c =
    let i = c.args.owner in
    let x = c.args.name.now in
    let rows = c.self.inside.rows.items in
    let none : entry rows i x ≡ None = ap (λ (rs : List (Key × Last)). entry rs i x) (sym c.deref-2.ensures.value) ∙ c.in_default.ensures in
    c.copied.ensures ∙ c.get.ensures.value ∙ sym (entry-behind rows c.self.inside.hashed.entries i x none) ∙ ap (λ (es : List (Key × Last)). entry es i x) c.self.view_is
