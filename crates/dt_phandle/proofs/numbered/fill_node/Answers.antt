use Rattle.std.proofs.Common.{List, map, sym, ap, ◌∙◌, subst}
use Rattle.std.proofs.lemmas.Result.{on_ok_weaker}
use Rattle.dt_model.specs.Instance.{number_at, numbered, phandle_of}
use Rattle.dt_model.specs.Tree.{Property}
use Rattle.dt_source_named_tree.specs.Said.{property_said}
use Rattle.dt_source_named_tree.specs.declared.named.NamedProperty.{NamedProperty}
use Rattle.dt_flat.specs.Arena.{Arena, Slot}
use Rattle.dt_flat.specs.Planted.{with_properties}
use Rattle.dt_flat.proofs.ManyProperties.{properties-append}
use Rattle.dt_phandle.specs.Asking.{content_said}
use Rattle.dt_phandle.specs.Growth.{MayHave}
use Rattle.dt_phandle.proofs.Growing.{may_parts}
use Rattle.dt_phandle.proofs.numbered.fill_node.Goals as goal

pub set_properties-requires : goal.set_properties-requires
set_properties-requires c =
    let old = c.args.tree.now.slots in
    let k = c.args.id in
    let numbers = c.args.numbering.now in
    let content = content_said c.args.node.now in
    let both = may_parts old k (map (numbered numbers) content.properties) (phandle_of content (number_at numbers k)) c.requires in
    subst (λ (ps : List NamedProperty). MayHave old k (map (numbered numbers) (map property_said ps))) (sym c.deref.ensures.value) both.0

pub set_number-requires : goal.set_number-requires
set_number-requires c =
    let old = c.args.tree.now.slots in
    let k = c.args.id in
    let numbers = c.args.numbering.now in
    let content = content_said c.args.node.now in
    let last = phandle_of content (number_at numbers k) in
    let both = may_parts old k (map (numbered numbers) content.properties) last c.requires in
    let same = ap (λ (a : Arena). a.slots) c.in_ok-set_properties.ensures.tree
    ∙ ap (λ (ps : List NamedProperty). with_properties old k (map (numbered numbers) (map property_said ps))) c.deref.ensures.value in
    subst (λ (slots : List Slot). MayHave slots k last) (sym same) both.1

pub returns-clause-tree : goal.returns-clause-tree
returns-clause-tree c =
    let tree = c.args.tree.now in
    let k = c.args.id in
    let numbers = c.args.numbering.now in
    let content = content_said c.args.node.now in
    let last = phandle_of content (number_at numbers k) in
    let first : List Property = map (numbered numbers) content.properties in
    on_ok_weaker c.set_number.result
    (λ made. made
    ∙ ap (λ (a : Arena). record a { slots = with_properties a.slots k last }) c.in_ok-set_properties.ensures.tree
    ∙ ap (λ (ps : List NamedProperty). record tree { slots = with_properties (with_properties tree.slots k (map (numbered numbers) (map property_said ps))) k last }) c.deref.ensures.value
    ∙ ap (λ (slots : List Slot). record tree { slots = slots }) (sym (properties-append tree.slots k first last)))
    c.set_number.ensures.tree
