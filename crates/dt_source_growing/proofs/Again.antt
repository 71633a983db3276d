-- What is sound after a call that memory may be refused to: the root made, a child opened again.
use Rattle.std.proofs.Common.{◌≡◌, ℕ, Bool, List, [], ◌∷◌, ◌++◌, Some, length, sym, ap, ◌∙◌, subst, arith}
use Rattle.std.specs.Prelude.{Result, Ok, Err, is_ok, IsOk, if◌then◌else◌}
use Rattle.dt_model.specs.Names.{Name}
use Rattle.dt_source_growing.specs.Table.{Key, Puts}
use Rattle.dt_source_growing.specs.Shape.{MakesRoot, OpensChild}
use Rattle.dt_source_growing.specs.Listing.{shape_of, IsSound}
use Rattle.dt_source_growing.specs.Growing.{shape, IsSoundGrowing}
use Rattle.dt_source_growing.specs.declared.table.Last.{Last}
use Rattle.dt_source_growing.specs.declared.growing.Node.{Node}
use Rattle.dt_source_growing.specs.declared.growing.Growing.{Growing}
use Rattle.dt_source_growing.proofs.Growths.{makes_root, opens_child}
use Rattle.dt_source_growing.proofs.Soundness.{forest, root-pushed, child-again, properties-kept, labels-kept}
use Rattle.dt_source_growing.proofs.Changes.{stood-root, stood-again}

pub sound-again : (g : Growing) → IsSoundGrowing g → (parent : ℕ) (name : Name) (item : ℕ) (entries : List (Key × Last)) {node : ℕ}
    → (shape g).child parent name ≡ Some node → Puts g.children entries parent name (record { index = node; item = item })
    → IsSound g.nodes.items entries g.properties.items g.indices g.givings.items g.labels.map.entries
sound-again g h parent name item entries there puts =
    let s = shape g in
    let t = shape_of g.nodes.items entries g.properties.items g.indices g.givings.items g.labels.map.entries in
    let made : OpensChild s t parent name item =
    opens_child g.properties.items g.indices g.givings.items g.labels.map.entries g.nodes.items g.children entries parent name _ puts there in
    record {
      has_nodes = child-again g.nodes.items g.children entries parent name _ h.has_nodes puts there;
      has_properties = h.has_properties;
      has_labels = labels-kept s t g.givings.items g.labels.map.entries (omega arith) (stood-again s t (forest g h) parent name item made) h.has_labels;
    }

pub sound-root : (g : Growing) → IsSoundGrowing g → length g.nodes.items ≡ 0 → (nodes : List Node) {T E : Type 0} (r : Result T E) (n : Node)
    → nodes ≡ (if is_ok r then g.nodes.items ++ n ∷ [] else g.nodes.items)
    → IsSound nodes g.children g.properties.items g.indices g.givings.items g.labels.map.entries
sound-root g h empty nodes (Err e) n same =
    subst (λ (ns : List Node). IsSound ns g.children g.properties.items g.indices g.givings.items g.labels.map.entries) (sym same) h
sound-root g h empty nodes (Ok x) n pushed =
    let s = shape g in
    let t = shape_of nodes g.children g.properties.items g.indices g.givings.items g.labels.map.entries in
    let made : MakesRoot s t =
    makes_root g.properties.items g.indices g.givings.items g.labels.map.entries g.nodes.items nodes g.children _ h.has_nodes empty pushed in
    record {
      has_nodes = root-pushed g.nodes.items nodes _ g.children h.has_nodes empty pushed;
      has_properties = properties-kept (length g.nodes.items) (length nodes) g.properties.items g.indices (omega (arith, empty)) h.has_properties;
      has_labels = labels-kept s t g.givings.items g.labels.map.entries (omega (arith, empty)) (stood-root s t (forest g h) made) h.has_labels;
    }

-- ---- a thing for which there is room

pub room_pushed : {X T E : Type 0} (r : Result T E) {xs ys new : List X} (x : X) → new ≡ (if is_ok r then ys ++ x ∷ [] else ys) → IsOk r → ys ≡ xs → new ≡ xs ++ x ∷ []
room_pushed r {ys = ys} x pushed ok same = pushed ∙ ap (λ (b : Bool). if b then ys ++ x ∷ [] else ys) ok ∙ ap (λ l. l ++ x ∷ []) same
