-- The tokens of a tree are the steps of a walk through it.
use Rattle.std.proofs.Common.{◌≡◌, ℕ, ◌+◌, List, [], ◌∷◌, ◌++◌, length, drop, map, Option, Some, None, refl, sym, ap, subst, ◌∙◌, append_assoc, inl, inr}
use Rattle.std.specs.Option.{IfSome}
use Rattle.dt_model.specs.Format.{Token, begin_node, word_at}
use Rattle.dt_model.specs.Lexing.{begin_in}
use Rattle.dt_model.specs.Tree.{Property}
use Rattle.dt_trees.specs.Placed.{Nodes, no_nodes, node}
use Rattle.dt_read.specs.Marks.{Mark, begin_mark, end_mark, prop_mark, last_mark, mark_at, Root, marks_of_nodes, marks_of, without_nop_marks}
use Rattle.dt_read.specs.Parsing.{lexed}
use Rattle.dt_read.specs.TreeTokens.{AreTokens, marks_in, Parts, marks_of_parts}
use Rattle.dt_read.specs.StepsLeft.{steps_left}
use Rattle.dt_read.specs.Walked.{Step, opens, holds, closes, leading, steps_of_nodes, steps_of}
use Rattle.dt_read.proofs.Cursors.{first_token, next_from}
use Rattle.dt_read.proofs.Tags.{of_begin, of_number}

-- of properties
steps_of_properties : (properties : List Property) (rest : List Mark) → steps_left (map prop_mark properties ++ rest) ≡ map holds properties ++ steps_left rest
steps_of_properties [] rest = refl
steps_of_properties (p ∷ properties) rest = ap (λ (s : List Step). holds p ∷ s) (steps_of_properties properties rest)

regrouped : (properties : List Property) (children siblings rest : List Mark)
    → (map prop_mark properties ++ (children ++ end_mark ∷ siblings)) ++ rest ≡ map prop_mark properties ++ (children ++ end_mark ∷ (siblings ++ rest))
regrouped properties children siblings rest = simp append_assoc

joined : (properties children siblings rest : List Step) → properties ++ (children ++ closes ∷ (siblings ++ rest)) ≡ (properties ++ (children ++ closes ∷ siblings)) ++ rest
joined properties children siblings rest = simp append_assoc

-- of siblings
steps_of_siblings : (nodes : Nodes) (rest : List Mark) → steps_left (marks_of_nodes nodes ++ rest) ≡ steps_of_nodes nodes ++ steps_left rest
steps_of_siblings no_nodes rest = refl
steps_of_siblings (node place name properties children siblings) rest =
    let behind = marks_of_nodes siblings ++ rest in
    ap (λ (s : List Step). opens place name ∷ s) (
    ap steps_left (regrouped properties (marks_of_nodes children) (marks_of_nodes siblings) rest)
    ∙ steps_of_properties properties (marks_of_nodes children ++ end_mark ∷ behind)
    ∙ ap (λ (s : List Step). map holds properties ++ s) (steps_of_siblings children (end_mark ∷ behind))
    ∙ ap (λ (s : List Step). map holds properties ++ (steps_of_nodes children ++ closes ∷ s)) (steps_of_siblings siblings rest)
    ∙ joined (map holds properties) (steps_of_nodes children) (steps_of_nodes siblings) (steps_left rest))

-- of what a node has
pub steps_of_parts : (parts : Parts) (more marks : List Mark) → marks ≡ marks_of_parts parts more → steps_left marks ≡ map holds parts.properties ++ (steps_of_nodes parts.children ++ closes ∷ steps_left more)
steps_of_parts parts more marks e =
    ap steps_left e
    ∙ steps_of_properties parts.properties (marks_of_nodes parts.children ++ end_mark ∷ more)
    ∙ ap (λ (s : List Step). map holds parts.properties ++ s) (steps_of_siblings parts.children (end_mark ∷ more))

-- of the whole tree
pub steps_of_tree : (boot_cpu : ℕ) (reservations : List (ℕ × ℕ)) (root : Root)
    → steps_left (marks_of root ++ last_mark ∷ []) ≡ steps_of (record { boot_cpu = boot_cpu; reservations = reservations; place = root.place; properties = root.properties; children = root.children })
steps_of_tree boot_cpu reservations root =
    ap (λ (s : List Step). opens root.place [] ∷ s) (
    ap steps_left (regrouped root.properties (marks_of_nodes root.children) [] (last_mark ∷ []))
    ∙ steps_of_properties root.properties (marks_of_nodes root.children ++ end_mark ∷ last_mark ∷ [])
    ∙ ap (λ (s : List Step). map holds root.properties ++ s) (steps_of_siblings root.children (end_mark ∷ last_mark ∷ [])))

-- a node begins where the number of its token comes
pub begins_mark : (strings : List ℕ) (at : ℕ) (bytes : List ℕ) → AreTokens strings at bytes → word_at bytes 0 ≡ Some 1 → (name : List ℕ) × (later : List Mark) × (marks_in strings at bytes ≡ begin_mark at name ∷ later)
unfolding lexed
begins_mark strings at bytes a e = elim (first_token strings at bytes a) [
  | inl none ↦ absurd (let z : None ≡ Some 1 = sym (ap (λ (b : List ℕ). word_at b 0) none) ∙ e in cc)
  | inr f ↦
      let Begins : Token × ℕ → Type 0 = λ r. (name : List ℕ) × (r.0 ≡ begin_node name) in
      let begins : Begins (f.0, f.1) = subst (λ (o : Option (Token × ℕ)). IfSome o Begins) f.2 (of_number strings bytes 1 (begin_in bytes) Begins e refl (of_begin bytes)) in
      let later : List Mark = lexed (length (drop f.1 bytes)) strings (at + f.1) (drop f.1 bytes) in (
        begins.0,
        without_nop_marks later,
        (next_from strings at bytes f.0 f.1 a f.2 f.3).marks ∙ ap (λ (token : Token). without_nop_marks (mark_at at token ∷ later)) begins.1,
      )
]

-- no property leads there
pub none_leads : (strings : List ℕ) (at : ℕ) (bytes : List ℕ) → AreTokens strings at bytes → word_at bytes 0 ≡ Some 1 → leading (steps_left (marks_in strings at bytes)) ≡ []
none_leads strings at bytes a e = let b = begins_mark strings at bytes a e in ap (λ (marks : List Mark). leading (steps_left marks)) b.2
