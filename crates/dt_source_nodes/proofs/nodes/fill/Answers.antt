use Rattle.std.proofs.Common.{◌≡◌, ℕ, Option, List, map, inr, sym, subst, ◌∙◌}
use Rattle.dt_source_growing.specs.declared.growing.Property.{Property}
use Rattle.dt_source_growing.specs.declared.referring.Unnamed.{Unnamed}
use Rattle.dt_source_growing.specs.declared.referring.Unnamed.TheVariants.{Refused, Kept}
use Rattle.dt_source_named_tree.specs.Said.{node_said}
use Rattle.dt_source_nodes.specs.Phandles.{AreWritten, AreOwn, WhyNotNumbered}
use Rattle.dt_source_nodes.specs.Nodes.{AreFilled, IsUnfilled}
use Rattle.dt_source_nodes.proofs.ValueSteps.{result_map}
use Rattle.dt_source_nodes.proofs.nodes.fill.Goals as goal

pub returns-in-Refused : goal.returns-in-Refused
returns-in-Refused c =
    let r = c.args.resolver.now in
    let g = r.growing.now in
    let b = r.belongings.now in
    let rows = c.args.rows.now in
    let ns = c.deref-in-Refused.result.now in
    let qs = c.deref.result.now in
    result_map c.check_phandles.result (λ _. AreWritten ns qs × AreOwn ns qs) (λ _. AreFilled r.unnamed g b rows (map node_said c.add_nodes.new.nodes.items))
    (WhyNotNumbered ns qs) (IsUnfilled r.unnamed g b rows)
    (λ _ h. record {
      read = c.in_ok-add_nodes.ensures;
      written = λ _. subst (λ (ps : List Property). AreWritten b.places.items ps) c.deref.ensures.value (subst (λ (ms : List (Option ℕ)). AreWritten ms qs) c.deref-in-Refused.ensures.value h.0);
      own = λ _. subst (λ (ps : List Property). AreOwn b.places.items ps) c.deref.ensures.value (subst (λ (ms : List (Option ℕ)). AreOwn ms qs) c.deref-in-Refused.ensures.value h.1);
    })
    (λ e h. inr (
      c.in-Refused.is,
      λ es place limit of by. (c.in_ok-add_nodes.ensures es place limit of by).1,
      subst (λ (ps : List Property). WhyNotNumbered b.places.items ps e) c.deref.ensures.value (subst (λ (ms : List (Option ℕ)). WhyNotNumbered ms qs e) c.deref-in-Refused.ensures.value h),
    ))
    c.check_phandles.ensures

-- an overlay's phandles aren't looked at
kept : (u : Unnamed) → u ≡ Kept → u ≡ Refused → ⊥
kept u k r = let both : Kept ≡ Refused = sym k ∙ r in cc

pub returns-in-Kept : goal.returns-in-Kept
returns-in-Kept c = record {
  read = c.in_ok-add_nodes.ensures;
  written = λ r. absurd (kept c.args.resolver.now.unnamed c.in-Kept.is r);
  own = λ r. absurd (kept c.args.resolver.now.unnamed c.in-Kept.is r);
}
