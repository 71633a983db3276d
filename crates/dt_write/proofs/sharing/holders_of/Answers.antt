use Rattle.std.proofs.Common.{◌≡◌, ◌∙◌, ◌∷◌, [], List, ℕ, length, get_or, refl, sym, ap, subst, reverse, arith}
use Rattle.std.proofs.lemmas.List.{length-map, reverse-append, get_or_default}
use Rattle.dt_write.specs.declared.sharing.Row.{Row}
use Rattle.dt_write.specs.Rows.{AreRows, left}
use Rattle.dt_write.proofs.Holders.{names_of_all, AreHeld, none_held, one_held, holders_over, row_within}
use Rattle.dt_write.proofs.sharing.holders_of.Goals as goal

pub loop-row-init : goal.loop-row-init
loop-row-init c =
    subst (λ (stack : List Row). AreHeld (names_of_all c.args.names.now) c.deref-row-items.result.now 0 stack c.in_ok-holders.holders.items) (sym c.new-stack.ensures.items)
    (none_held (names_of_all c.args.names.now) c.deref-row-items.result.now c.in_ok-holders.holders.items
    (omega (arith, c.in_ok-holders.ensures.len, c.in_ok-holders.holders.ok, length-map c.args.names.now (λ name. name.now))))

pub index_mut-requires : goal.index_mut-requires
index_mut-requires c =
    let rows = c.deref-row-items.result.now in
    let are : AreRows c.args.names.now rows = subst (AreRows c.args.names.now) (sym c.deref-row-items.ensures.value) c.in_ok-rows.ensures in
    omega (arith, row_within c.args.names.now rows c.loop-row.row-index (record { name = record { ref_ptr = (0, 0); now = [] }; number = 0; tail = 0 }) are c.loop-row-test.true, c.loop-row.invariant.size, c.loop-row.holders.ok)

pub loop-row-preserved : goal.loop-row-preserved
loop-row-preserved c =
    let rows = c.deref-row-items.result.now in
    let i = c.loop-row.row-index in
    let none : Row = record { name = record { ref_ptr = (0, 0); now = [] }; number = 0; tail = 0 } in
    let x : Row = get_or rows i none in
    let top : Row = record { name = x.name; number = c.take_ended-holder.result; tail = x.tail } in
    let are : AreRows c.args.names.now rows = subst (AreRows c.args.names.now) (sym c.deref-row-items.ensures.value) c.in_ok-rows.ensures in
    let turned : reverse c.push.new.self.items ≡ top ∷ left x.name.now (reverse c.loop-row.stack.items) =
    ap reverse c.in_ok-push.ensures.items ∙ reverse-append c.take_ended-holder.new.stack.items (top ∷ []) ∙ ap (λ (s : List Row). top ∷ s) c.take_ended-holder.ensures.left in
    one_held c.args.names.now rows i x top c.loop-row.stack.items c.push.new.self.items c.loop-row.holders.items c.requires are c.loop-row-test.true (get_or_default rows i x none c.loop-row-test.true)
    c.loop-row.invariant refl c.take_ended-holder.ensures.least turned

pub returns : goal.returns
returns c =
    let rows = c.deref-row-items.result.now in
    let are : AreRows c.args.names.now rows = subst (AreRows c.args.names.now) (sym c.deref-row-items.ensures.value) c.in_ok-rows.ensures in
    let all : c.loop-row.row-index ≡ length rows = omega (arith, c.loop-row-test.false, c.loop-row.auto.row-index-end) in
    holders_over c.args.names.now rows c.loop-row.stack.items c.loop-row.holders.items are
    (subst (λ (k : ℕ). AreHeld (names_of_all c.args.names.now) rows k c.loop-row.stack.items c.loop-row.holders.items) all c.loop-row.invariant)
