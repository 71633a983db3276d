-- Going over siblings and properties.
use Rattle.std.proofs.Common.{◌≡◌, ℕ, List, [], ◌∷◌, ◌++◌, map, Option, Some, None, refl, sym, ap, ◌∙◌, append_assoc, Bor}
use Rattle.std.specs.Option.{MatchOption}
use Rattle.dt_model.specs.Tree.{Property}
use Rattle.dt_read.specs.declared.token.Tag.{Tag}
use Rattle.dt_read.specs.declared.token.Tag.TheVariants as tags
use Rattle.dt_read.specs.declared.token.Token.{Token}
use Rattle.dt_read.specs.declared.token.Token.TheVariants as code
use Rattle.dt_read.specs.View.{tag_mark, view_at}
use Rattle.dt_trees.specs.Placed.{Nodes, no_nodes, node}
use Rattle.dt_read.specs.Marks.{Mark, begin_mark, end_mark, prop_mark, marks_of_nodes}
use Rattle.dt_read.specs.Parsing.{left_by}
use Rattle.dt_read.specs.TreeCode.{left_by_nodes, left_by_properties}
use Rattle.dt_read.specs.TreeTokens.{AreSiblings, Parts, marks_of_parts, BeginsNode, heads_of, first_heads, heads_left, past, past_properties}
use Rattle.dt_read.proofs.Cursors.{past_node, past_properties_at}

pub heads_left_is : (siblings : Nodes) (more : List Mark) → heads_left (marks_of_nodes siblings ++ end_mark ∷ more) ≡ heads_of siblings
heads_left_is siblings more = ap (λ l. first_heads l.levels) (left_by_nodes siblings more)

-- the siblings behind the first
pub record GoesBehind (marks : List Mark) (at : ℕ) (name : List ℕ) (rest : List Mark) : Type 0 where
  pub siblings : AreSiblings (past rest 1)
  pub heads : heads_left marks ≡ (at, name) ∷ heads_left (past rest 1)

regrouped : (properties : List Property) (children siblings : Nodes) (more : List Mark) → map prop_mark properties ++ (marks_of_nodes children ++ end_mark ∷ (marks_of_nodes siblings ++ end_mark ∷ more)) ≡ (map prop_mark properties ++ (marks_of_nodes children ++ end_mark ∷ marks_of_nodes siblings)) ++ end_mark ∷ more
regrouped properties children siblings more = simp append_assoc

goes_behind : (siblings : Nodes) (more marks : List Mark) (at : ℕ) (name : List ℕ) (rest : List Mark) → marks ≡ marks_of_nodes siblings ++ end_mark ∷ more → marks ≡ begin_mark at name ∷ rest → GoesBehind marks at name rest
goes_behind no_nodes more marks at name rest e f = absurd cc
goes_behind (node place other properties children siblings) more marks at name rest e f =
    let tail : (map prop_mark properties ++ (marks_of_nodes children ++ end_mark ∷ marks_of_nodes siblings)) ++ end_mark ∷ more ≡ rest = cc in
    let same : place ≡ at = cc in
    let named : other ≡ name = cc in
    let parts : Parts = record { name = other; properties = properties; children = children; siblings = siblings } in
    let regroup : marks_of_parts parts (marks_of_nodes siblings ++ end_mark ∷ more) ≡ rest = regrouped properties children siblings more ∙ tail in
    let behind : past rest 1 ≡ marks_of_nodes siblings ++ end_mark ∷ more = ap (λ (x : List Mark). past x 1) (sym regroup) ∙ past_node parts (marks_of_nodes siblings ++ end_mark ∷ more) in
    record {
      siblings = record { siblings = siblings; more = more; whole = behind };
      heads = ap heads_left e ∙ heads_left_is (node place other properties children siblings) more ∙ ap (λ (i : ℕ). (i, other) ∷ heads_of siblings) same ∙ ap (λ (n : List ℕ). (at, n) ∷ heads_of siblings) named ∙ ap (λ (x : List (ℕ × List ℕ)). (at, name) ∷ x) (sym (heads_left_is siblings more) ∙ sym (ap heads_left behind));
    }

pub next_sibling_behind : (marks : List Mark) (at : ℕ) (name : List ℕ) (rest : List Mark) → AreSiblings marks → marks ≡ begin_mark at name ∷ rest → GoesBehind marks at name rest
next_sibling_behind marks at name rest a e = goes_behind a.siblings a.more marks at name rest a.whole e

none_begins : (siblings : Nodes) (more : List Mark) (mark : Mark) (rest : List Mark) → ((place : ℕ) (name : List ℕ) → mark ≡ begin_mark place name → ⊥) → marks_of_nodes siblings ++ end_mark ∷ more ≡ mark ∷ rest → heads_of siblings ≡ []
none_begins no_nodes more mark rest bars e = refl
none_begins (node place name properties children siblings) more mark rest bars e = let is : mark ≡ begin_mark place name = cc in absurd (bars place name is)

-- where no node begins, there is no sibling
pub no_sibling : (marks : List Mark) (mark : Mark) (rest : List Mark) → AreSiblings marks → marks ≡ mark ∷ rest → ((place : ℕ) (name : List ℕ) → mark ≡ begin_mark place name → ⊥) → heads_left marks ≡ []
no_sibling marks mark rest a e bars = ap heads_left a.whole ∙ heads_left_is a.siblings a.more ∙ none_begins a.siblings a.more mark rest bars (sym a.whole ∙ e)

-- ---- where a node begins

pub siblings_of_parts : (parts : Parts) (more marks : List Mark) → marks ≡ marks_of_parts parts more → AreSiblings (past_properties marks) × (heads_left (past_properties marks) ≡ heads_of parts.children)
siblings_of_parts parts more marks e =
    let same : past_properties marks ≡ marks_of_nodes parts.children ++ end_mark ∷ more = ap past_properties e ∙ past_properties_at parts.properties parts.children more in
    (record { siblings = parts.children; more = more; whole = same }, ap heads_left same ∙ heads_left_is parts.children more)

pub properties_of_parts : (parts : Parts) (more marks : List Mark) → marks ≡ marks_of_parts parts more → (left_by marks).properties ≡ parts.properties
properties_of_parts parts more marks e =
    ap (λ (x : List Mark). (left_by x).properties) e
    ∙ ap (λ l. l.properties) (left_by_properties parts.properties (marks_of_nodes parts.children ++ end_mark ∷ more) (ap (λ l. l.properties) (left_by_nodes parts.children more)))

begin_only : (token : Token) → ((name : Bor (List ℕ)) → token ≡ code.BeginNode name → ⊥) → (at place : ℕ) (name : List ℕ) → view_at at token ≡ begin_mark place name → ⊥
begin_only (code.BeginNode text) h at place name e = h text refl
begin_only code.EndNode h at place name e = cc
begin_only (code.Property text value) h at place name e = cc
begin_only code.Nop h at place name e = cc
begin_only code.End h at place name e = cc

pub no_sibling_at : (marks : List Mark) (at : ℕ) (token : Token) (rest : List Mark) → AreSiblings marks → marks ≡ view_at at token ∷ rest → ((name : Bor (List ℕ)) → token ≡ code.BeginNode name → ⊥) → heads_left marks ≡ []
no_sibling_at marks at token rest a e h = no_sibling marks (view_at at token) rest a e (begin_only token h at)

-- the same by a tag
begin_tag_only : (tag : Tag) (p : Property) → ((name : Bor (List ℕ)) → tag ≡ tags.BeginNode name → ⊥) → (at place : ℕ) (name : List ℕ) → tag_mark at tag p ≡ begin_mark place name → ⊥
begin_tag_only (tags.BeginNode text) p h at place name e = h text refl
begin_tag_only tags.EndNode p h at place name e = cc
begin_tag_only (tags.Property bytes) p h at place name e = cc
begin_tag_only tags.Nop p h at place name e = cc
begin_tag_only tags.End p h at place name e = cc

pub no_sibling_by : (marks : List Mark) (at : ℕ) (tag : Tag) (p : Property) (rest : List Mark) → AreSiblings marks → marks ≡ tag_mark at tag p ∷ rest → ((name : Bor (List ℕ)) → tag ≡ tags.BeginNode name → ⊥) → heads_left marks ≡ []
no_sibling_by marks at tag p rest a e h = no_sibling marks (tag_mark at tag p) rest a e (begin_tag_only tag p h at)

pub no_property_at : (marks : List Mark) (at : ℕ) (token : Token) (rest : List Mark) → marks ≡ view_at at token ∷ rest → (token ≡ code.Nop → ⊥) → ((name value : Bor (List ℕ)) → token ≡ code.Property name value → ⊥) → (left_by marks).properties ≡ []
no_property_at marks at (code.BeginNode name) rest e n h = ap (λ (x : List Mark). (left_by x).properties) e
no_property_at marks at code.EndNode rest e n h = ap (λ (x : List Mark). (left_by x).properties) e
no_property_at marks at (code.Property name value) rest e n h = absurd (h name value refl)
no_property_at marks at code.Nop rest e n h = absurd (n refl)
no_property_at marks at code.End rest e n h = ap (λ (x : List Mark). (left_by x).properties) e

pub root_stands : (place at : ℕ) (token : Token) (later rest : List Mark) → begin_mark place [] ∷ later ≡ view_at at token ∷ rest → at ≡ place
root_stands place at (code.BeginNode name) later rest e = cc
root_stands place at code.EndNode later rest e = absurd cc
root_stands place at (code.Property name value) later rest e = absurd cc
root_stands place at code.Nop later rest e = absurd cc
root_stands place at code.End later rest e = absurd cc

-- the tokens behind BEGIN_NODE
pub past_begin : (place : ℕ) (parts : Parts) (marks rest : List Mark) (result : Option (ℕ × Tag)) (b : BeginsNode marks place parts)
    → MatchOption result ((marks ≡ []) × (rest ≡ [])) (λ found. (p : Property) × (marks ≡ tag_mark found.0 found.1 p ∷ rest)) → rest ≡ marks_of_parts parts b.more
past_begin place parts marks rest None b h = let e = b.whole in let n = h.0 in absurd cc
past_begin place parts marks rest (Some found) b h = let e = b.whole in let t = h.1 in cc

pub next_of_node : (place : ℕ) (parts : Parts) (marks rest : List Mark) (result : Option (ℕ × Token)) (b : BeginsNode marks place parts)
    → MatchOption result ((marks ≡ []) × (rest ≡ [])) (λ found. marks ≡ view_at found.0 found.1 ∷ rest) → rest ≡ marks_of_parts parts b.more
next_of_node place parts marks rest None b h = let e = b.whole in let n = h.0 in absurd cc
next_of_node place parts marks rest (Some found) b h = let e = b.whole in cc
