-- A blob with a child added is read as the tree with that child.
use Rattle.std.proofs.Common.{◌≡◌, ℕ, ◌+◌, ◌-◌, ◌%◌, ◌<◌, Bool, true, false, List, [], ◌∷◌, ◌++◌, length, Option, Some, None, refl, sym, ap, subst, ◌∙◌, append_assoc, arith}
use Rattle.std.specs.Option.{option_map}
use Rattle.std.specs.Prelude.{is_some, option_and_then}
use Rattle.std.specs.Str.{bytes_eq}
use Rattle.std.proofs.lemmas.List.{append-nil, length-append, length-replicate}
use Rattle.dt_model.specs.Changes.{with_child, changed_sibling, changed_below, with_child_at}
use Rattle.dt_model.specs.Checks.{number, strings_of, structure_of}
use Rattle.dt_model.specs.Format.{word, IsText, SpellsBegin, reservation_block}
use Rattle.dt_model.specs.Names.{Name, IsNodeName}
use Rattle.dt_model.specs.Path.{Path}
use Rattle.dt_model.specs.Tree as tree
use Rattle.dt_model.specs.Tree.{Forest, no_nodes, branch, Node, Reading, sibling, node_below, stands_in}
use Rattle.dt_model_format.specs.Strings.{terminated}
use Rattle.dt_read.specs.Checked.{placed_of, root_of}
use Rattle.dt_read.specs.Cuts.{content_of, changed_root, with_node, moved, moved_root, spliced, SpellsRoot}
use Rattle.dt_read.specs.Marks.{Root}
use Rattle.dt_trees.specs.Placed.{place_below, IsAt, IsNode}
use Rattle.dt_read.proofs.ChangedPlaces.{appended_branch, appended_forest, appended_keeps, moved_place, new_place}
use Rattle.dt_trees.proofs.NodePlaces.{stands_place}
use Rattle.dt_read.proofs.Splices.{stays_there}
use Rattle.dt_write.specs.Written.{zeros_after, assembled}
use Rattle.dt_write.proofs.WrittenReads.{node_text}
use Rattle.dt_edit.specs.declared.children.NodePlan.{NodePlan}
use Rattle.dt_edit.specs.Editable.{reading_in, path_in, size_with_node, IsEditable, MayAddWithin}
use Rattle.dt_edit.specs.Moving.{begin_bytes, node_bytes}
use Rattle.dt_edit.specs.Plans.{IsNodePlan}
use Rattle.dt_edit.proofs.Assembling.{edits_of, IsEdited, edited}
use Rattle.dt_edit.proofs.Carrying.{length_node, length_spliced}
use Rattle.dt_edit.proofs.PropertiesSet.{changed_reads, changed_places, place_in_root}
use Rattle.dt_edit.proofs.ValidChanges.{valid_with_child, within_with_child}

-- ---- a new child is appended

child_appended : (fs : Forest) (name : Name) → sibling fs name ≡ None → appended_branch fs name ≡ with_child fs name [] (λ nodes. nodes)
child_appended no_nodes name e = refl
child_appended (branch x properties children siblings) name e = step (child_appended siblings name) (bytes_eq name x) refl
  where
    step : (sibling siblings name ≡ None → appended_branch siblings name ≡ with_child siblings name [] (λ nodes. nodes)) → (b : Bool) → bytes_eq name x ≡ b
        → appended_branch (branch x properties children siblings) name ≡ with_child (branch x properties children siblings) name [] (λ nodes. nodes)
    step later true is = absurd (let both : ◌≡◌ {A = Option Node} (Some (record { properties = properties; children = children })) None = rw is at e in cc)
    step later false is = rw is (ap (branch x properties children) (later (rw is at e)))

-- changes that agree at the node of a path are one
agree_among : (f g : Node → Node) (fs : Forest) (x : Name) → ((m : Node) → sibling fs x ≡ Some m → f m ≡ g m) → changed_sibling f fs x ≡ changed_sibling g fs x
agree_among f g no_nodes x h = refl
agree_among f g (branch y properties children siblings) x h = step (agree_among f g siblings x) (bytes_eq x y) refl
  where
    step : (((m : Node) → sibling siblings x ≡ Some m → f m ≡ g m) → changed_sibling f siblings x ≡ changed_sibling g siblings x) → (b : Bool) → bytes_eq x y ≡ b
        → changed_sibling f (branch y properties children siblings) x ≡ changed_sibling g (branch y properties children siblings) x
    step later true is = rw is (ap (λ (n : Node). branch y n.properties n.children siblings) (h (record { properties = properties; children = children }) (rw is refl)))
    step later false is = rw is (ap (branch y properties children) (later (λ m e. h m (rw is e))))

agree_below : (f g : Node → Node) (p : Path) (n : Node) → ((m : Node) → node_below n p ≡ Some m → f m ≡ g m) → changed_below f p n ≡ changed_below g p n
agree_below f g [] n h = h n refl
agree_below f g (x ∷ p) n h =
    ap (λ (fs : Forest). record { properties = n.properties; children = fs })
    (agree_among (changed_below f p) (changed_below g p) n.children x (λ c e. agree_below f g p c (λ m k. h m (ap (option_and_then (λ (d : Node). node_below d p)) e ∙ k))))

-- a path with one name more leads to the node's child
further_below : (p : Path) (name : Name) (n m : Node) → node_below n p ≡ Some m → node_below n (p ++ name ∷ []) ≡ option_and_then (λ (c : Node). node_below c []) (sibling m.children name)
further_below [] name n m e = let same : n ≡ m = cc in ap (λ (k : Node). option_and_then (λ (c : Node). node_below c []) (sibling k.children name)) same
further_below (x ∷ p) name n m e = step (λ c k. further_below p name c m k) (sibling n.children x) refl
  where
    step : ((c : Node) → node_below c p ≡ Some m → node_below c (p ++ name ∷ []) ≡ option_and_then (λ (c : Node). node_below c []) (sibling m.children name)) → (o : Option Node) → sibling n.children x ≡ o → node_below n ((x ∷ p) ++ name ∷ []) ≡ option_and_then (λ (c : Node). node_below c []) (sibling m.children name)
    step more None is = absurd (let none : None ≡ Some m = sym (ap (option_and_then (λ (d : Node). node_below d p)) is) ∙ e in cc)
    step more (Some c) is =
        ap (option_and_then (λ (d : Node). node_below d (p ++ name ∷ []))) is ∙ more c (sym (ap (option_and_then (λ (d : Node). node_below d p)) is) ∙ e)

pub fresh_sibling : (t : Reading) (p : Path) (name : Name) (m : Node) → stands_in t (p ++ name ∷ []) ≡ false → node_below (tree.root_of t) p ≡ Some m → sibling m.children name ≡ None
fresh_sibling t p name m fresh e = step (sibling m.children name) (sym (ap is_some (further_below p name (tree.root_of t) m e)) ∙ fresh)
  where
    step : (o : Option Node) → is_some (option_and_then (λ (c : Node). node_below c []) o) ≡ false → o ≡ None
    step None h = refl
    step (Some c) h = absurd (let no : true ≡ false = h in cc)

-- ---- the token

begin_spelled : (name : Name) → IsText name → SpellsBegin name (begin_bytes name)
begin_spelled name text =
    let zeros : List ℕ = zeros_after (length name + 1) in
    let pad : length zeros ≡ (4 - (length name + 1) % 4) % 4 = length-replicate ((4 - (length name + 1) % 4) % 4) 0 in
    let own : List ℕ = terminated name in
    let long : length own ≡ length name + 1 = length-append name (0 ∷ []) in
    record {
      text = text;
      bytes = record {
        padding = zeros;
        whole = sym (append_assoc (word 1) own zeros);
        short = omega (arith, pad);
        aligned = omega (arith, pad, long, length-append own zeros);
      };
    }

-- ---- the blob

-- the tree with the child, with its places
abbrev pub root_with_node : List ℕ → ℕ → ℕ → Name → Root
root_with_node bytes node cut name =
    changed_root (with_node (number bytes 8 + cut) name) (path_in bytes node) (moved_root (moved (number bytes 8 + cut) 0 (length (node_bytes name))) (root_of bytes))

pub node_added : (old new rest : List ℕ) (node room : ℕ) (name : Name) (p : NodePlan) → IsEditable old → IsNode (placed_of old) node → IsNodeName name → MayAddWithin room old node name → IsNodePlan old node p
    → new ≡ assembled (number old 28) (reservation_block (placed_of old).reservations) (spliced p.cut 0 (node_bytes name) (structure_of old)) (strings_of old ++ []) ++ rest
    → IsEdited new (with_child_at (path_in old node) name (reading_in old)) (root_with_node old node p.cut name) (spliced p.cut 0 (node_bytes name) (structure_of old)) (strings_of old ++ [])
node_added old new rest node room name p e at named may plan other =
    let edits = edits_of old e in
    let path = path_in old node in
    let own : List ℕ = node_bytes name in
    let wide = length_node name in
    let place : ℕ = number old 8 + p.cut in
    let f : ℕ → ℕ = moved place 0 (length own) in
    let root : Root = root_with_node old node p.cut name in
    let before : Reading = reading_in old in
    let t : Reading = with_child_at path name before in
    let s : List ℕ = spliced p.cut 0 own (structure_of old) in
    let n : List ℕ = strings_of old ++ [] in
    let structure_at = edits.blocks.structure_at in
    let total = edits.blocks.total in
    let limit = may.fits.limit in
    let inside = plan.cut.behind.inside in
    let longer = length_spliced p.cut 0 own (structure_of old) inside in
    let names = ap (λ (x : List ℕ). length x) (append-nil (strings_of old)) in
    let there : stands_in before path ≡ true = sym (stands_place (placed_of old) path) ∙ ap is_some at in
    let spelled : SpellsRoot n (number old 8) s root = plan.cut.becomes name (begin_bytes name) [] (begin_spelled name (node_text name named)) in
    let appends : Node → Node = λ m. record { properties = m.properties; children = appended_branch m.children name } in
    let adds : Node → Node = λ m. record { properties = m.properties; children = with_child m.children name [] (λ nodes. nodes) } in
    let reads = changed_reads old (with_node place name) appends f path (λ c. ap (λ (fs : Forest). record { properties = c.properties; children = fs }) (appended_forest c.children place name)) in
    let same : changed_below appends path (tree.root_of before) ≡ changed_below adds path (tree.root_of before) =
    agree_below appends adds path (tree.root_of before) (λ m k. ap (λ (fs : Forest). record { properties = m.properties; children = fs }) (child_appended m.children name (fresh_sibling before path name m may.fresh k))) in
    let plain = reads ∙ same in
    let few = may.few in
    let done = edited t root s n rest (valid_with_child before path name edits.valid named) (within_with_child before path name edits.within there may.fresh (omega arith) may.shallow) (omega arith)
    (sym (ap (λ (m : Node). m.properties) plain)) (sym (ap (λ (m : Node). m.children) plain)) (subst (λ (k : ℕ). SpellsRoot n k s root) structure_at spelled) in
    subst (λ (x : List ℕ). IsEdited x t root s n) (sym (other ∙ ap (λ (cpu : ℕ). assembled cpu (reservation_block (placed_of old).reservations) s n ++ rest) (sym edits.cpu))) done

pub node_total : (old new : List ℕ) (node : ℕ) (name : Name) (p : NodePlan) (t : Reading) (root : Root) → IsEditable old → IsNodePlan old node p → t.reservations ≡ (placed_of old).reservations
    → IsEdited new t root (spliced p.cut 0 (node_bytes name) (structure_of old)) (strings_of old ++ []) → number new 4 ≡ size_with_node old name
node_total old new node name p t root e plan same done =
    let edits = edits_of old e in
    let total = edits.blocks.total in
    let wide = length_node name in
    let longer = length_spliced p.cut 0 (node_bytes name) (structure_of old) plan.cut.behind.inside in
    let names = ap (λ (x : List ℕ). length x) (append-nil (strings_of old)) in
    let reserved = ap (λ rs. length (reservation_block rs)) same in
    let now = done.is.total in
    omega arith

-- the nodes before the child stay where they are
pub node_places : (old new : List ℕ) (node cut : ℕ) (name : Name) (t : Reading) (s n : List ℕ) (q : Path) (place : ℕ) → IsEdited new t (root_with_node old node cut name) s n → IsAt (placed_of old) q place
    → place < number old 8 + cut → IsAt (placed_of new) q place
node_places old new node cut name t s n q place done at lt =
    let f : ℕ → ℕ = moved (number old 8 + cut) 0 (length (node_bytes name)) in
    let there = changed_places old (with_node (number old 8 + cut) name) f (path_in old node) q place (λ c k p j e. appended_keeps c.children (number old 8 + cut) name k p j e) at in
    place_in_root new (root_with_node old node cut name) q place done.rooted (there ∙ ap (λ (k : ℕ). Some k) (stays_there (number old 8 + cut) 0 (length (node_bytes name)) place lt))

-- and the child is there
pub node_there : (old new : List ℕ) (node cut : ℕ) (name : Name) (t : Reading) (s n : List ℕ) → IsEdited new t (root_with_node old node cut name) s n → IsNode (placed_of old) node
    → stands_in (reading_in old) (path_in old node ++ name ∷ []) ≡ false → IsAt (placed_of new) (path_in old node ++ name ∷ []) (number old 8 + cut)
unfolding placed_of
node_there old new node cut name t s n done at fresh =
    let f : ℕ → ℕ = moved (number old 8 + cut) 0 (length (node_bytes name)) in
    let root = root_of old in
    let path = path_in old node in
    let none : place_below root.place root.children (path ++ name ∷ []) ≡ None = nothing (place_below root.place root.children (path ++ name ∷ [])) (stands_place (placed_of old) (path ++ name ∷ []) ∙ fresh) in
    place_in_root new (root_with_node old node cut name) (path ++ name ∷ []) (number old 8 + cut) done.rooted
    (new_place (content_of (moved_root f root)) (f root.place) path (number old 8 + cut) name (f node)
    (moved_place f root.children root.place path ∙ ap (option_map f) at)
    (moved_place f root.children root.place (path ++ name ∷ []) ∙ ap (option_map f) none))
  where
    nothing : (o : Option ℕ) → is_some o ≡ false → o ≡ None
    nothing None h = refl
    nothing (Some k) h = absurd (let no : true ≡ false = h in cc)
