-- The steps of the compiler for an overlay's source, one behind the other.
use Rattle.std.proofs.Common.{◌≡◌, ℕ, ◌+◌, ◌≤◌, List, ◌∷◌, [], None, Some, length, refl, sym, ap, subst, ◌∙◌, Bool, true, false, true≢false, codes, arith}
use Rattle.std.specs.Prelude.{is_some}
use Rattle.std.specs.Str.{bytes_eq}
use Rattle.dt_names.specs.declared.fault.Fault.{Fault}
use Rattle.dt_names.specs.declared.fault.FaultKind.{FaultKind}
use Rattle.dt_names.specs.declared.fault.FaultKind.TheVariants.{NoMemory, Limit}
use Rattle.dt_model.specs.Limits.{most_nodes, most_bytes}
use Rattle.dt_model.specs.Format.{Reads, IsWithin}
use Rattle.dt_model.specs.Names.{Name}
use Rattle.dt_model.specs.Path.{is_bookkeeping_name}
use Rattle.dt_model.specs.Tree as tree
use Rattle.dt_model.specs.Tree.{Property, Forest, Reading}
use Rattle.dt_model.specs.Valid.{node_count, IsValid, IsWithinLimits}
use Rattle.dt_model.specs.Overlay.{Overlay}
use Rattle.dt_model.specs.Source.{base}
use Rattle.dt_model.specs.Named as named
use Rattle.dt_model.specs.Named.{NodeReference, Named, sibling, node_at, list_of}
use Rattle.dt_model.specs.Instance.{instance_of, symbols_of, with_symbols, followed_by}
use Rattle.dt_model.specs.Fixups.{fixup_nodes, with_fixups}
use Rattle.dt_model_laws.specs.Sources.{OverlaySourceIsOverlay}
use Rattle.dt_grammar.specs.Grammar.{Says}
use Rattle.dt_source.specs.Refusals.{WhyNoOverlay, fault_place}
use Rattle.dt_flat.specs.Arena.{Arena, named_children, child_of, reading}
use Rattle.dt_marks.specs.Refusals.{WhyNoFixups}
use Rattle.dt_write.specs.Written.{written}
use Rattle.dt_write.specs.Refusals.{WhyNoBytes}
use Rattle.dt_chain_promises.specs.Apply.{IsRead}
use Rattle.dt_chain_promises.specs.Build.{HasObject}
use Rattle.dt_chain_promises.specs.Compile.{OverlayTextHasTree, IsCompiledOverlay, WhyNotCompiledOverlay, no_memory, refused, large, big}
use Rattle.dt_names.specs.Fault.{placeless}
use Rattle.dt_chain.specs.Steps.{OfEachText, HasOverlay, IsNumbered, WhyNotLabelled, HasRooms, IsMarked, WhyNotMarked}
use Rattle.dt_chain.proofs.Stages.{fault_is, no_sibling, no_child, not_there, too_many}

-- ---- room for the bookkeeping nodes

-- an overlay has no child of a bookkeeping name
overlay_has_none : OverlaySourceIsOverlay → (s : Says) (t : Named NodeReference) → HasOverlay s t → (x : Name) → is_bookkeeping_name x ≡ true → sibling t.children x ≡ None
overlay_has_none law s t h x kept = not_there (named.root_of t) x (step (is_some (node_at t (x ∷ []))) refl)
  where
    step : (b : Bool) → is_some (node_at t (x ∷ [])) ≡ b → is_some (node_at t (x ∷ [])) ≡ false
    step false e = e
    step true e =
        let o = h.named.overlay in
        let is = law s.places o h.places h.named.means in
        let stands : o.stands (x ∷ []) ≡ true =
        ap (λ (q : Overlay). q.stands (x ∷ [])) h.named.means.means ∙ sym (h.named.tree.nodes (x ∷ [])) ∙ e in
        absurd (true≢false (sym kept ∙ is.plain (x ∷ []) stands))

pub overlay_has_rooms : OverlaySourceIsOverlay → (s : Says) (t : Named NodeReference) → HasOverlay s t → HasRooms t
overlay_has_rooms law s t h = record {
  symbols = record { free = overlay_has_none law s t h (codes "__symbols__") refl };
  fixups = overlay_has_none law s t h (codes "__fixups__") refl;
  locals = overlay_has_none law s t h (codes "__local_fixups__") refl;
}

sibling_behind : (f g : Forest) (x : Name) → tree.sibling f x ≡ None → tree.sibling g x ≡ None → tree.sibling (followed_by f g) x ≡ None
sibling_behind tree.no_nodes g x e h = h
sibling_behind (tree.branch name properties children siblings) g x e h = step (sibling_behind siblings g x) (bytes_eq x name) refl
  where
    step : (tree.sibling siblings x ≡ None → tree.sibling g x ≡ None → tree.sibling (followed_by siblings g) x ≡ None)
        → (b : Bool) → bytes_eq x name ≡ b → tree.sibling (followed_by (tree.branch name properties children siblings) g) x ≡ None
    step more true i = absurd (let z : Some (record { properties = properties; children = children }) ≡ None = rw i at e in cc)
    step more false i = rw i (more (rw i at e) h)

-- behind the labels there is no other child either
behind_symbols : (symbols : List Property) (t : Reading) (x : Name) → bytes_eq x (codes "__symbols__") ≡ false → tree.sibling t.children x ≡ None
    → tree.sibling (with_symbols symbols t).children x ≡ None
behind_symbols [] t x other none = none
behind_symbols (s ∷ symbols) t x other none =
    sibling_behind t.children (tree.branch (codes "__symbols__") (s ∷ symbols) tree.no_nodes tree.no_nodes) x none (rw other refl)

pub room_behind : (t : Named NodeReference) (a : Arena) (x : Name) → bytes_eq x (codes "__symbols__") ≡ false → sibling t.children x ≡ None → IsNumbered base t (reading a)
    → child_of (named_children a.slots 0) x ≡ None
room_behind t a x other none n =
    no_child a x
    (subst (λ (u : Reading). tree.sibling u.children x ≡ None) (sym n.is)
    (behind_symbols (symbols_of t) (instance_of n.numbers t) x other (no_sibling n.numbers 1 t.children x none)))

-- ---- the object

pub is_marked : (t : Named NodeReference) (r u : Reading) → IsNumbered base t r → u ≡ with_fixups t r → IsMarked t u
is_marked t r u n e = record { numbers = n.numbers; numbering = n.numbering; is = e ∙ ap (with_fixups t) n.is }

count_behind : (f g : Forest) → node_count (followed_by f g) ≡ node_count f + node_count g
count_behind tree.no_nodes g = let e : node_count g ≡ 0 + node_count g = omega arith in e
count_behind (tree.branch name properties children siblings) g = let e = count_behind siblings g in omega (arith, e)

no_label : (t : Named NodeReference) (kind : FaultKind) → WhyNotLabelled kind t → WhyNotMarked kind t
no_label t NoMemory why = tt
no_label t Limit why = (
  why.2,
  why.3,
  λ within.
      let many = too_many t why.2 (length (list_of t)) refl why.0 why.1 in
      let both = count_behind (with_symbols (symbols_of t) (instance_of why.2 t)).children (fixup_nodes t) in
      let few : 1 + node_count (followed_by (with_symbols (symbols_of t) (instance_of why.2 t)).children (fixup_nodes t)) ≤ most_nodes = within.count in
      absurd (omega (arith, many, both, few)),
)
no_label t _ why = absurd why

pub not_labelled : (t : Named NodeReference) (fault : Fault) → WhyNotLabelled fault.kind t × (fault.at ≡ None) → WhyNotMarked fault.kind t × (fault.at ≡ None)
not_labelled t fault why = (no_label t fault.kind why.0, why.1)

no_fixups : (t : Named NodeReference) (r : Reading) (kind : FaultKind) → IsNumbered base t r → WhyNoFixups kind (with_fixups t r) → WhyNotMarked kind t
no_fixups t r NoMemory n why = tt
no_fixups t r Limit n why = (n.numbers, n.numbering, subst (λ (u : Reading). ¬ IsWithinLimits (with_fixups t u)) n.is why)
no_fixups t r _ n why = absurd why

pub not_marked : (t : Named NodeReference) (r : Reading) (fault : Fault) → IsNumbered base t r → WhyNoFixups fault.kind (with_fixups t r) × (fault.at ≡ None)
    → WhyNotMarked fault.kind t × (fault.at ≡ None)
not_marked t r fault n why = (no_fixups t r fault.kind n why.0, why.1)

-- ---- the whole tree

-- the text has the tree, whatever text says this
abbrev pub HasTree : Says → Reading → Type 0
HasTree s r = OfEachText s (λ text. OverlayTextHasTree text r)

pub object_of_text : (s : Says) (t : Named NodeReference) (r : Reading) → HasOverlay s t → IsMarked t r → HasTree s r
object_of_text s t r h m text parsed = record {
  says = s;
  parsed = parsed;
  plugin = h.plugin;
  reservations = h.reservations;
  tree = record { named = t; fragments = h.fragments; of_places = h.named; numbers = m.numbers; numbering = m.numbering; is = m.is };
}

pub not_built : (s : Says) (fault : Fault) → WhyNoOverlay fault.kind s × (fault.at ≡ fault_place fault.kind) → OfEachText s (λ text. WhyNotCompiledOverlay text fault)
not_built s fault why text parsed =
    subst (WhyNotCompiledOverlay text) (fault_is fault (fault_place fault.kind) why.1) (refused s fault.kind parsed why.0)

unmarked : (s : Says) (t : Named NodeReference) (kind : FaultKind) → HasOverlay s t → WhyNotMarked kind t → OfEachText s (λ text. WhyNotCompiledOverlay text (placeless kind))
unmarked s t NoMemory h why text parsed = no_memory
unmarked s t Limit h why text parsed =
    large (with_fixups t (with_symbols (symbols_of t) (instance_of why.0 t)))
    (object_of_text s t _ h (record { numbers = why.0; numbering = why.1; is = refl }) text parsed) why.2
unmarked s t _ h why text parsed = absurd why

pub not_whole : (s : Says) (t : Named NodeReference) (fault : Fault) → HasOverlay s t → WhyNotMarked fault.kind t × (fault.at ≡ None)
    → OfEachText s (λ text. WhyNotCompiledOverlay text fault)
not_whole s t fault h why text parsed = subst (WhyNotCompiledOverlay text) (fault_is fault None why.1) (unmarked s t fault.kind h why.0 text parsed)

-- ---- the blob

unwritten : (text : List ℕ) (r : Reading) (kind : FaultKind) → OverlayTextHasTree text r → WhyNoBytes kind (length (written r)) → WhyNotCompiledOverlay text (placeless kind)
unwritten text r NoMemory h why = no_memory
unwritten text r Limit h why = big r h why
unwritten text r _ h why = absurd why

pub not_written : (s : Says) (r : Reading) (fault : Fault) → HasTree s r → WhyNoBytes fault.kind (length (written r)) × (fault.at ≡ None)
    → OfEachText s (λ text. WhyNotCompiledOverlay text fault)
not_written s r fault h why text parsed = subst (WhyNotCompiledOverlay text) (fault_is fault None why.1) (unwritten text r fault.kind (h text parsed) why.0)

pub is_written : (s : Says) (r : Reading) (blob : List ℕ) → HasTree s r → IsWithinLimits r → blob ≡ written r → length blob ≤ most_bytes
    → OfEachText s (λ text. IsCompiledOverlay text blob)
is_written s r blob h within is size text parsed = record { tree = r; of_text = h text parsed; is = is; within = within; size = size }

-- the text has an object, and this is its blob
abbrev pub HasObjectBlob : (text blob : List ℕ) → Type 0
HasObjectBlob text blob = (t : Reading) × HasObject text t × IsRead blob t

pub object_written : (s : Says) (t : Reading) (blob : List ℕ) → HasTree s t → IsValid t → IsWithinLimits t → blob ≡ written t → length blob ≤ most_bytes → Reads blob t → IsWithin blob t
    → OfEachText s (λ text. HasObjectBlob text blob)
object_written s t blob h valid within is size reads inside text parsed = (
  t,
  record { of_text = h text parsed; valid = valid; within = within; size = subst (λ (b : List ℕ). length b ≤ most_bytes) is size },
  record { reads = reads; within = inside },
)
