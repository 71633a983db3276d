use Rattle.std.proofs.Common.{◌≡◌, ◌∙◌, ◌<◌, [], ◌++◌, List, ℕ, length, get_or, false, sym, ap, subst}
use Rattle.std.specs.List.{list_any}
use Rattle.dt_model.specs.Names.{Name}
use Rattle.dt_model.specs.Valid.{AreDistinct}
use Rattle.dt_write.specs.Written.{is_end, strings_block}
use Rattle.dt_write.proofs.Holders.{lent_at, lent_within, lent_all}
use Rattle.dt_write.proofs.Stored.{own_stored, other_stored, one_string, no_string, all_strings, owner_is}
use Rattle.dt_write.proofs.strings.Strings.put.Goals.{then-index-number+in_ok-extend_from_slice+in_ok-push, else-index-number}
use Rattle.dt_write.proofs.strings.Strings.put.Goals as goal

pub loop-number-preserved : goal.loop-number-preserved
loop-number-preserved c =
    let names = c.self.inside.names in
    let lent = c.as_slice-name-items.result.now in
    let i = c.loop-number.number in
    let old = c.args.out.now.items in
    let lt : i < length names = subst (λ (ns : List Name). i < length ns) c.as_slice-name-items.ensures.names (lent_within lent i c.loop-number-test.true) in
    let at : get_or names i [] ≡ (get_or lent i (record { ref_ptr = (0, 0); now = [] })).now = ap (λ (ns : List Name). get_or ns i []) (sym c.as_slice-name-items.ensures.names) ∙ lent_at lent i c.loop-number-test.true in
    let distinct : AreDistinct names = subst AreDistinct c.as_slice-name-items.ensures.names c.as_slice-name-items.ensures.distinct in
    let owner = owner_is names c.self.inside.holders.items i c.index.result.now c.self.invariant.holders lt c.index.ensures in
    elim c.if-index-number.branch [
      | then-index-number+in_ok-extend_from_slice+in_ok-push w ↦
          let own = own_stored names c.self.inside.holders.items i c.self.invariant.holders lt (sym owner ∙ w.if-index-number.true) in
          ap (λ v. v.items) w.out-is
          ∙ one_string names i (get_or lent i (record { ref_ptr = (0, 0); now = [] })).now old c.loop-number.out.items w.extend_from_slice.new.self.items w.push.new.self.items lt at
          (subst (λ (n : Name). list_any (is_end n) names ≡ false) at own) c.loop-number.invariant w.in_ok-extend_from_slice.ensures.items w.in_ok-push.ensures.items
      | else-index-number w ↦
          ap (λ v. v.items) w.out-is
          ∙ no_string names i old c.loop-number.out.items lt (other_stored names c.self.inside.holders.items i distinct c.self.invariant.holders lt (λ s. w.if-index-number.false (owner ∙ s))) c.loop-number.invariant
    ]

pub returns : goal.returns
returns c =
    let all = lent_all c.as_slice-name-items.result.now c.loop-number.number c.loop-number-test.false c.loop-number.auto.number-end in
    c.loop-number.invariant ∙ ap (λ (w : List ℕ). c.args.out.now.items ++ w) (all_strings c.self.inside.names c.loop-number.number (all ∙ ap length c.as_slice-name-items.ensures.names) ∙ ap strings_block c.self.view_is)
