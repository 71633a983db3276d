use Rattle.std.proofs.Common.{◌++◌, ◌∷◌, [], ◌∙◌, sym, ap, subst, inl, inr, List, arith}
use Rattle.dt_model.specs.Names.{Name}
use Rattle.dt_model.proofs.Tests.{bytes_eq_true}
use Rattle.dt_flat.specs.Names.{IsUnknown}
use Rattle.dt_flat.proofs.NameLemmas.{AreOwn-inserted, any-unknown, length-names, names-insert, names_kept, text-get}
use Rattle.dt_flat.proofs.PlaceLemmas.{on_err}
use Rattle.dt_flat.specs.declared.names.OwnName.{OwnName}
use Rattle.dt_flat.proofs.names.NameTable.enter.Goals as goal

pub returns-in_err-id-clause-unknown : goal.returns-in_err-id-clause-unknown
returns-in_err-id-clause-unknown c =
    let ks = c.self.inside.names.keys in
    let none : IsUnknown (names_kept ks) c.in-Ok.bytes.items = any-unknown ks c.in-Ok.bytes.items c.in_err-id.ensures.absent in
    on_err c.from_residual.result (IsUnknown c.args.self.now c.args.name.now) (subst (λ (names : List Name). IsUnknown names c.args.name.now) c.self.view_is (subst (IsUnknown (names_kept ks)) c.in-Ok.ensures.ok none))

pub invariant_of-self-2 : goal.invariant_of-self-2
invariant_of-self-2 c =
    let ks = c.self.inside.names.keys in
    let v : OwnName = (record { bytes = c.in-Ok.bytes }) in
    AreOwn-inserted (names_kept ks) (names_kept c.insert_full.new.self.keys) v.bytes.items c.self.invariant (names-insert ks c.insert_full.new.self.keys v c.in_ok-id.ensures.keys)

pub returns-clause-noted : goal.returns-clause-noted
returns-clause-noted c =
    let ks = c.self.inside.names.keys in
    let new = c.insert_full.new.self.keys in
    let v : OwnName = (record { bytes = c.in-Ok.bytes }) in
    let inserted = names-insert ks new v c.in_ok-id.ensures.keys in
    let stored = c.in_ok-id.ensures.stored in
    record {
      more = inserted.more;
      few = elim inserted.few [
        | inl none ↦ inl none
        | inr one ↦ inr (one.0 ∙ ap (λ (w : Name). w ∷ []) c.in-Ok.ensures.ok)
      ];
      kept = inserted.kept ∙ ap (λ (names : List Name). names ++ inserted.more) c.self.view_is;
      there = omega (arith, length-names new, c.in_ok-id.ensures.within);
      text = text-get new c.in_ok-id.id stored.0 stored.1 ∙ sym (bytes_eq_true v.bytes.items stored.0.bytes.items stored.2) ∙ c.in-Ok.ensures.ok;
    }
