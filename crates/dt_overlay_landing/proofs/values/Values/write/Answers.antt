use Rattle.std.proofs.Common.{◌≡◌, ◌+◌, ◌++◌, ◌∙◌, ◌&&◌, ℕ, Bool, true, cond, List, [], length, take, drop, Option, Some, None, sym, ap, subst, append_assoc, arith}
use Rattle.std.specs.Prelude.{nat_eq, unwrap_or}
use Rattle.std.specs.Str.{bytes_eq}
use Rattle.std.specs.Bool.{OnTrue}
use Rattle.std.proofs.Math.Seq.{take-append_seam}
use Rattle.std.proofs.lemmas.Result.{on_ok_weaker}
use Rattle.dt_model.specs.Applied.{with_cell}
use Rattle.dt_model.specs.Meaning.{cell}
use Rattle.dt_model.specs.Tree.{value_in}
use Rattle.dt_model.proofs.Tests.{bytes_eq_true}
use Rattle.dt_trees.specs.Placed.{reading_of, path_at}
use Rattle.dt_trees.proofs.NodePlaces.{path_is, at_node}
use Rattle.dt_overlay_landing.specs.Values.{Keeps, value_kept}
use Rattle.dt_overlay_landing.proofs.ValuesKept.{so_far, keeps_again, kept_phandle, cell_within, kept_more}
use Rattle.dt_overlay_landing.proofs.values.Values.write.Goals as goal

pub returns-then-eq : goal.returns-then-eq
returns-then-eq g c written w may =
    kept_phandle (g.V.TreeView.tree c.args.object.now) c.args.self.now written w may.kept
    (sym may.is.property ∙ bytes_eq_true c.args.write.now.property.now c.as_slice.result.now (sym c.if-eq.ensures) ∙ c.as_slice.ensures)

pub take_value-requires : goal.take_value-requires
take_value-requires g c = let may = c.requires.2 in at_node (g.V.TreeView.tree c.args.object.now) c.validity.ensures.places c.requires.1.cell.path c.args.write.now.node may.is.node

pub returns : goal.returns
returns g c written w may =
    let t = g.V.TreeView.tree c.args.object.now in
    let apart = c.validity.ensures.places in
    let vs = c.args.self.now in
    let x = c.args.write.now in
    let new = c.put.new.self in
    let value = so_far t apart vs new written x w may in
    let at : path_at t x.node ≡ w.cell.path = path_is t apart w.cell.path x.node may.is.node in
    let there : value_in (reading_of t) (path_at t x.node) x.property.now ≡ Some may.cell.0 = (λ i. value_in (reading_of t) (at i) (may.is.property i)) ∙ may.cell.1 in
    let had : c.in_ok-value.value.items ≡ value = c.in_ok-value.ensures.value ∙ ap (λ (o : Option (List ℕ)). unwrap_or (value_kept vs x.node x.property.now) (unwrap_or o [])) there in
    let old : c.deref_mut.result.now ≡ value = c.deref_mut.ensures.value ∙ had in
    let within = cell_within t apart vs new written x w may in
    let fits : c.put32.result ≡ true = c.put32.ensures.written.1 (omega (arith, within, ap (λ (bytes : List ℕ). length bytes) old)) in
    let put_bytes : c.put32.new.bytes ≡ with_cell value x.offset x.number =
    subst (λ (b : Bool). OnTrue b (c.put32.new.bytes ≡ take x.offset c.deref_mut.result.now ++ cell x.number ++ drop (x.offset + 4) c.deref_mut.result.now)) fits c.put32.ensures.number
    ∙ append_assoc (take x.offset c.deref_mut.result.now) (cell x.number) (drop (x.offset + 4) c.deref_mut.result.now) ∙ ap (λ (bytes : List ℕ). with_cell bytes x.offset x.number) old in
    let count : c.in_ok-value.value.len ≡ length c.put32.new.bytes = let lens = c.deref_mut.ensures.len in let kept = c.put32.auto.bytes in omega (arith, lens, kept) in
    let whole : take c.in_ok-value.value.len (c.put32.new.bytes ++ drop (length c.put32.new.bytes) c.in_ok-value.value.items) ≡ with_cell value x.offset x.number =
    ap (λ (n : ℕ). take n (c.put32.new.bytes ++ drop (length c.put32.new.bytes) c.in_ok-value.value.items)) count ∙ take-append_seam c.put32.new.bytes (drop (length c.put32.new.bytes) c.in_ok-value.value.items) ∙ put_bytes in
    on_ok_weaker c.put.result
    (λ keeps.
    let puts : Keeps c.take_value.new.self new x.node x.property.now (Some (with_cell value x.offset x.number)) =
    λ j y. keeps j y ∙ (λ i. cond (nat_eq x.node j && bytes_eq x.property.now y) (Some (whole i)) (value_kept c.take_value.new.self j y)) in
    kept_more t apart vs new written x w may
    (keeps_again vs c.take_value.new.self new x.node x.property.now None (Some (with_cell value x.offset x.number)) c.in_ok-value.ensures.others puts))
    c.put.ensures
