-- The steps of the compiler, one behind the other.
use Rattle.std.proofs.Common.{◌≡◌, ℕ, suc, ◌+◌, ◌<◌, ◌≤◌, List, ◌∷◌, [], Option, None, Some, length, length-append, refl, sym, ap, subst, ◌∙◌, Bool, true, false, true≢false, codes, arith}
use Rattle.std.specs.Prelude.{is_some, option_map, Result, Ok, Err, IfOk, IfErr}
use Rattle.std.specs.Str.{bytes_eq}
use Rattle.dt_names.specs.declared.fault.Fault.{Fault}
use Rattle.dt_names.specs.declared.fault.FaultKind.{FaultKind}
use Rattle.dt_names.specs.declared.fault.FaultKind.TheVariants.{NoMemory, Limit}
use Rattle.dt_model.specs.Limits.{most_nodes, most_bytes}
use Rattle.dt_model.specs.Names.{Name}
use Rattle.dt_model.specs.Tree as tree
use Rattle.dt_model.specs.Tree.{Property, Reading}
use Rattle.dt_model.specs.Valid as valid
use Rattle.dt_model.specs.Valid.{IsWithinLimits}
use Rattle.dt_model.specs.Source.{Mode, base, raw}
use Rattle.dt_model.specs.Named as named
use Rattle.dt_model.specs.Named.{NodeReference, Named, NamedForest, NamedNode, no_nodes, branch, sibling, node_at, list_of, listed, node_count}
use Rattle.dt_model.specs.Instance.{numbered_forest, instance_of, symbols_of, with_symbols}
use Rattle.dt_model_laws.specs.Sources.{SourceIsPlain}
use Rattle.dt_model_laws.specs.NamedTrees.{TreeIsMeant}
use Rattle.dt_grammar.specs.Grammar.{Says}
use Rattle.dt_source.specs.Refusals.{WhyNotNamed, fault_place}
use Rattle.dt_flat.specs.Arena.{Arena, Slot, named_children, child_of, reading}
use Rattle.dt_flat.proofs.ByPath.{has, sibling_below}
use Rattle.dt_marks.specs.Refusals.{WhyNoSymbols}
use Rattle.dt_write.specs.Written.{written}
use Rattle.dt_write.specs.Refusals.{WhyNoBytes}
use Rattle.dt_chain_promises.specs.Compile.{TextHasTree, IsCompiled, WhyNoTree, WhyNotCompiled, no_memory, unnamed, many, big}
use Rattle.dt_names.specs.Fault.{placeless}
use Rattle.dt_chain_promises.proofs.Outcomes.{one_more}
use Rattle.dt_chain.specs.Steps.{OfEachText, HasNamed, IsNumbered, HasRoom, WhyNotLabelled}

-- a fault is told by its kind and its place
pub fault_is : (fault : Fault) (at : Option ℕ) → fault.at ≡ at → record { kind = fault.kind; at = at } ≡ fault
fault_is fault at e = sym (ap (λ (x : Option ℕ). let f : Fault = record { kind = fault.kind; at = x } in f) e)

pub not_named : (mode : Mode) (s : Says) (fault : Fault) → WhyNotNamed mode fault.kind s × (fault.at ≡ fault_place fault.kind)
    → OfEachText s (λ text. WhyNoTree mode text fault)
not_named mode s fault why text parsed = subst (WhyNoTree mode text) (fault_is fault (fault_place fault.kind) why.1) (unnamed s fault.kind parsed why.0)

-- ---- room for the labels

pub no_sibling : (numbers : List (Option ℕ)) (k : ℕ) (f : NamedForest NodeReference) (x : Name) → sibling f x ≡ None → tree.sibling (numbered_forest numbers k f) x ≡ None
no_sibling numbers k no_nodes x e = refl
no_sibling numbers k (branch name content children siblings) x e = step (no_sibling numbers (suc k + node_count children) siblings x) (bytes_eq x name) refl
  where
    step : (sibling siblings x ≡ None → tree.sibling (numbered_forest numbers (suc k + node_count children) siblings) x ≡ None)
        → (b : Bool) → bytes_eq x name ≡ b → tree.sibling (numbered_forest numbers k (branch name content children siblings)) x ≡ None
    step more true h = absurd (let z : Some (record { content = content; children = children }) ≡ None = rw h at e in cc)
    step more false h = rw h (more (rw h at e))

none_mapped : {X Y : Type 0} (f : X → Y) (o : Option X) → option_map f o ≡ None → o ≡ None
none_mapped f None e = refl
none_mapped f (Some x) e = absurd (let z : Some (f x) ≡ None = e in cc)

-- a child that the reading hasn't the arena hasn't
pub no_child : (a : Arena) (x : Name) → tree.sibling (reading a).children x ≡ None → child_of (named_children a.slots 0) x ≡ None
no_child a x none = none_mapped (has a.slots) (child_of (named_children a.slots 0) x) (sym (sibling_below a.slots 0 x) ∙ none)

pub room : (t : Named NodeReference) (a : Arena) → HasRoom t → IsNumbered raw t (reading a) → child_of (named_children a.slots 0) (codes "__symbols__") ≡ None
room t a h n =
    no_child a (codes "__symbols__")
    (subst (λ (u : Reading). tree.sibling u.children (codes "__symbols__") ≡ None) (sym n.is) (no_sibling n.numbers 1 t.children (codes "__symbols__") h.free))

pub not_there : (n : NamedNode NodeReference) (x : Name) → is_some (named.node_below n (x ∷ [])) ≡ false → sibling n.children x ≡ None
not_there n x e = step (sibling n.children x) refl
  where
    step : (o : Option (NamedNode NodeReference)) → sibling n.children x ≡ o → sibling n.children x ≡ None
    step None h = h
    step (Some c) h = absurd (true≢false (rw h at e))

-- a base has no child in which its labels are kept
pub base_has_room : SourceIsPlain → (s : Says) (t : Named NodeReference) → HasNamed base s t → HasRoom t
base_has_room plain s t h = record { free = not_there (named.root_of t) (codes "__symbols__") (step (is_some (node_at t (codes "__symbols__" ∷ []))) refl) }
  where
    step : (b : Bool) → is_some (node_at t (codes "__symbols__" ∷ [])) ≡ b → is_some (node_at t (codes "__symbols__" ∷ [])) ≡ false
    step false e = e
    step true e =
        let p = plain s.reservations s.places h.tree.means.meaning h.tree.means.means in
        let stands : h.tree.means.meaning.stands (codes "__symbols__" ∷ []) ≡ true =
        ap (λ (m : Rattle.dt_model.specs.Meaning.Meaning). m.stands (codes "__symbols__" ∷ [])) h.tree.means.means.means ∙ sym (h.tree.means.tree.nodes (codes "__symbols__" ∷ [])) ∙ e in
        absurd (true≢false (p.plain (codes "__symbols__" ∷ []) stands))

-- ---- the whole tree

pub tree_of_text : TreeIsMeant → (mode : Mode) (s : Says) (t : Named NodeReference) (r : Reading) → HasNamed mode s t → IsNumbered mode t r
    → OfEachText s (λ text. TextHasTree mode text r)
tree_of_text meant mode s t r h n text parsed = record {
  says = s;
  parsed = parsed;
  plain = h.tree.plain;
  tree = subst (Rattle.dt_model.specs.Instance.IsTreeOf mode s.reservations s.places) (sym n.is)
      (meant mode s.reservations s.places t n.numbers h.some h.places h.reservations h.tree.means h.tree.named n.numbering);
}

-- ---- too many nodes

pub forest_count : (numbers : List (Option ℕ)) (k : ℕ) (f : NamedForest NodeReference) → valid.node_count (numbered_forest numbers k f) ≡ node_count f
forest_count numbers k no_nodes = refl
forest_count numbers k (branch name content children siblings) =
    let inner = forest_count numbers (suc k) children in
    let outer = forest_count numbers (suc k + node_count children) siblings in
    omega (arith, inner, outer)

list_count : (number parent : ℕ) (f : NamedForest NodeReference) → length (listed number parent f) ≡ node_count f
list_count number parent no_nodes = refl
list_count number parent (branch name content children siblings) =
    let inner = list_count (suc number) number children in
    let outer = list_count (suc number + node_count children) parent siblings in
    omega (arith, inner, outer, length-append (listed (suc number) number children) (listed (suc number + node_count children) parent siblings))

many_with : (symbols : List Property) (t : Reading) → 0 < length symbols → valid.node_count (with_symbols symbols t).children ≡ valid.node_count t.children + 1
many_with [] t h = absurd (omega arith)
many_with (s ∷ symbols) t h = one_more t.children (codes "__symbols__") (s ∷ symbols)

pub too_many : (t : Named NodeReference) (numbers : List (Option ℕ)) (count : ℕ) → count ≡ length (list_of t) → 0 < length (symbols_of t) → most_nodes ≤ count
    → most_nodes < 1 + valid.node_count (with_symbols (symbols_of t) (instance_of numbers t)).children
too_many t numbers count e some h =
    let a = many_with (symbols_of t) (instance_of numbers t) some in
    let b = forest_count numbers 1 t.children in
    let c = list_count 1 0 t.children in
    omega (arith, e, a, b, c)

pub no_labels : (t : Named NodeReference) (r : Reading) (slots : List Slot) (kind : FaultKind) → IsNumbered raw t r → length slots ≡ length (list_of t) → WhyNoSymbols kind slots (symbols_of t) → WhyNotLabelled kind t
no_labels t r slots NoMemory n e why = tt
no_labels t r slots Limit n e why = (why.0, subst (λ (k : ℕ). most_nodes ≤ k) e why.1, n.numbers, n.numbering)
no_labels t r slots _ n e why = absurd why

unlabelled : TreeIsMeant → (s : Says) (t : Named NodeReference) (kind : FaultKind) → HasNamed base s t → WhyNotLabelled kind t
    → OfEachText s (λ text. WhyNoTree base text (placeless kind))
unlabelled meant s t NoMemory h why text parsed = no_memory
unlabelled meant s t Limit h why text parsed =
    many (with_symbols (symbols_of t) (instance_of why.2 t))
    (tree_of_text meant base s t _ h (record { numbers = why.2; numbering = why.3; is = refl }) text parsed) (too_many t why.2 (length (list_of t)) refl why.0 why.1)
unlabelled meant s t _ h why text parsed = absurd why

pub not_labelled : TreeIsMeant → (s : Says) (t : Named NodeReference) (fault : Fault) → HasNamed base s t → WhyNotLabelled fault.kind t × (fault.at ≡ None)
    → OfEachText s (λ text. WhyNoTree base text fault)
not_labelled meant s t fault h why text parsed = subst (WhyNoTree base text) (fault_is fault None why.1) (unlabelled meant s t fault.kind h why.0 text parsed)

pub not_numbered : (mode : Mode) (s : Says) (fault : Fault) → (fault.kind ≡ NoMemory) × (fault.at ≡ None) → OfEachText s (λ text. WhyNoTree mode text fault)
not_numbered mode s fault why text parsed =
    subst (WhyNoTree mode text) (ap placeless (sym why.0) ∙ fault_is fault None why.1) no_memory

-- ---- the blob

unwritten : (mode : Mode) (text : List ℕ) (r : Reading) (kind : FaultKind) → TextHasTree mode text r → WhyNoBytes kind (length (written r)) → WhyNotCompiled mode text (placeless kind)
unwritten mode text r NoMemory h why = no_memory
unwritten mode text r Limit h why = big r h why
unwritten mode text r _ h why = absurd why

-- the text has the tree, whatever text says this
abbrev pub HasTree : Mode → Says → Reading → Type 0
HasTree mode s r = OfEachText s (λ text. TextHasTree mode text r)

pub not_written : (mode : Mode) (s : Says) (r : Reading) (fault : Fault) → HasTree mode s r → WhyNoBytes fault.kind (length (written r)) × (fault.at ≡ None)
    → OfEachText s (λ text. WhyNotCompiled mode text fault)
not_written mode s r fault h why text parsed = subst (WhyNotCompiled mode text) (fault_is fault None why.1) (unwritten mode text r fault.kind (h text parsed) why.0)

pub is_written : (mode : Mode) (s : Says) (r : Reading) (blob : List ℕ) → HasTree mode s r → IsWithinLimits r → blob ≡ written r → length blob ≤ most_bytes
    → OfEachText s (λ text. IsCompiled mode text blob)
is_written mode s r blob h within is size text parsed = record { tree = r; of_text = h text parsed; is = is; within = within; size = size }

-- ---- results

pub if_ok : {A E : Type 0} (P Q : A → Type 0) → ((a : A) → P a → Q a) → (r : Result A E) → IfOk r P → IfOk r Q
if_ok P Q f (Ok a) p = f a p
if_ok P Q f (Err e) p = tt

pub if_err : {A E : Type 0} (P Q : E → Type 0) → ((e : E) → P e → Q e) → (r : Result A E) → IfErr r P → IfErr r Q
if_err P Q f (Ok a) p = tt
if_err P Q f (Err e) p = f e p

pub if_ok_both : {A E : Type 0} (P Q R : A → Type 0) → ((a : A) → P a → Q a → R a) → (r : Result A E) → IfOk r P → IfOk r Q → IfOk r R
if_ok_both P Q R f (Ok a) p q = f a p q
if_ok_both P Q R f (Err e) p q = tt

pub if_ok_all : {A E : Type 0} (P Q R S T : A → Type 0) → ((a : A) → P a → Q a → R a → S a → T a) → (r : Result A E) → IfOk r P → IfOk r Q → IfOk r R → IfOk r S → IfOk r T
if_ok_all P Q R S T f (Ok a) p q r s = f a p q r s
if_ok_all P Q R S T f (Err e) p q r s = tt
