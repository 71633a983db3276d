-- Reading tokens one after another.
use Rattle.std.proofs.Common.{◌≡◌, ◌⊎◌, ℕ, suc, ◌+◌, ◌^◌, ◌<◌, ◌≤◌, List, [], ◌∷◌, ◌++◌, length, map, take, drop, Bool, true, false, Option, Some, None, refl, sym, ap, subst, ◌∙◌, append_assoc, inl, inr, arith}
use Rattle.std.specs.Option.{IfSome}
use Rattle.std.proofs.lemmas.List.{length-append, length-drop, take_at}
use Rattle.std.specs.Str.{bytes_eq}
use Rattle.dt_model.specs.Tree.{Property, value_of}
use Rattle.dt_model.specs.Format as model
use Rattle.dt_model.specs.Lexing.{token_in}
use Rattle.dt_read.specs.declared.token.Token.{Token}
use Rattle.dt_read.specs.declared.token.Token.TheVariants as code
use Rattle.dt_read.specs.declared.token.Tag.{Tag}
use Rattle.dt_read.specs.declared.token.Tag.TheVariants as tags
use Rattle.dt_read.specs.View.{view_at, sought_view, tag_view, tag_mark, HasToken, IsInFront, IsSought, IsTagIn}
use Rattle.dt_read.specs.declared.property.Sought.{Sought}
use Rattle.dt_read.specs.declared.property.Sought.TheVariants as seen
use Rattle.std.specs.Prelude.{if◌then◌else◌}
use Rattle.dt_trees.specs.Placed.{Nodes, no_nodes, node}
use Rattle.dt_read.specs.Marks.{Mark, begin_mark, end_mark, prop_mark, nop_mark, last_mark, token_of, mark_at, SpellsMarks, Takes, marks_of_nodes, without_nop_marks}
use Rattle.dt_read.specs.Parsing.{lexed, left_by}
use Rattle.dt_read.specs.TreeTokens.{AreTokens, marks_in, past, past_others, past_properties, Parts, marks_of_parts}
use Rattle.dt_read.proofs.Trees.{read_again, first_mark, lexed_is, spelled_len}

-- the tokens behind the first
pub record Next (strings : List ℕ) (at : ℕ) (bytes : List ℕ) (mark : Mark) (n : ℕ) : Type 0 where
  pub tokens : AreTokens strings (at + n) (drop n bytes)
  pub marks : marks_in strings at bytes ≡ without_nop_marks (mark ∷ lexed (length (drop n bytes)) strings (at + n) (drop n bytes))

pub next_from : (strings : List ℕ) (at : ℕ) (bytes : List ℕ) (token : model.Token) (n : ℕ) → AreTokens strings at bytes → token_in strings bytes ≡ Some (token, n) → Takes strings bytes token n → Next strings at bytes (mark_at at token) n
next_from strings at bytes token n a e t =
    let b = first_mark strings at bytes token n e a.marks a.spelled in
    let within = t.within in
    let small = a.small in
    record {
      tokens = record { marks = b.later; spelled = b.spelled; small = omega (arith, length-drop n bytes) };
      marks = ap without_nop_marks (lexed_is strings at a.marks bytes a.spelled ∙ b.whole ∙ ap (λ (x : List Mark). mark_at at token ∷ x) (sym (lexed_is strings (at + n) b.later (drop n bytes) b.spelled)));
    }

pub nothing_left : (strings : List ℕ) (at : ℕ) (bytes : List ℕ) → AreTokens strings at bytes → token_in strings bytes ≡ None → marks_in strings at bytes ≡ []
nothing_left strings at bytes a e = ap without_nop_marks (lexed_is strings at a.marks bytes a.spelled) ∙ ap without_nop_marks (empty a.marks a.spelled)
  where
    empty : (marks : List Mark) → SpellsMarks strings at marks bytes → marks ≡ []
    empty [] s = refl
    empty (mark ∷ marks) s =
        let again : token_in strings bytes ≡ Some (token_of mark, length s.0) = ap (token_in strings) s.2 ∙ read_again strings at mark s.0 s.1 s.3 in
        absurd cc

pub kept : (at : ℕ) (token : Token) (marks : List Mark) → (token ≡ code.Nop → ⊥) → without_nop_marks (view_at at token ∷ marks) ≡ view_at at token ∷ without_nop_marks marks
kept at (code.BeginNode name) marks h = refl
kept at code.EndNode marks h = refl
kept at (code.Property name value) marks h = refl
kept at code.Nop marks h = absurd (h refl)
kept at code.End marks h = refl

pub skipped : (at : ℕ) (token : Token) (marks : List Mark) → token ≡ code.Nop → without_nop_marks (view_at at token ∷ marks) ≡ without_nop_marks marks
skipped at token marks h = ap (λ (t : Token). without_nop_marks (view_at at t ∷ marks)) h

tokens_within : (strings : List ℕ) (at : ℕ) (marks : List Mark) (bytes : List ℕ) → SpellsMarks strings at marks bytes → length marks ≤ length bytes
tokens_within strings at [] bytes s = omega arith
tokens_within strings at (mark ∷ marks) bytes s =
    let own = spelled_len strings at mark s.0 s.3 in
    let rest = tokens_within strings (at + length s.0) marks s.1 s.4 in
    let e = ap length s.2 in let l = length-append s.0 s.1 in omega arith

length-without_nop_marks : (marks : List Mark) → length (without_nop_marks marks) ≤ length marks
length-without_nop_marks [] = omega arith
length-without_nop_marks (last_mark ∷ marks) = omega (arith, length-without_nop_marks marks)
length-without_nop_marks (end_mark ∷ marks) = omega (arith, length-without_nop_marks marks)
length-without_nop_marks (nop_mark ∷ marks) = omega (arith, length-without_nop_marks marks)
length-without_nop_marks (prop_mark p ∷ marks) = omega (arith, length-without_nop_marks marks)
length-without_nop_marks (begin_mark place name ∷ marks) = omega (arith, length-without_nop_marks marks)

pub few_marks : (strings : List ℕ) (at : ℕ) (bytes : List ℕ) → AreTokens strings at bytes → length (marks_in strings at bytes) < 2 ^ 32
few_marks strings at bytes a =
    let e = ap (λ (x : List Mark). length (without_nop_marks x)) (lexed_is strings at a.marks bytes a.spelled) in
    let w = tokens_within strings at a.marks bytes a.spelled in
    let n = length-without_nop_marks a.marks in
    let s = a.small in
    omega arith

pub past_none : (marks : List Mark) → past marks 0 ≡ marks
past_none [] = refl
past_none (last_mark ∷ marks) = refl
past_none (end_mark ∷ marks) = refl
past_none (nop_mark ∷ marks) = refl
past_none (prop_mark p ∷ marks) = refl
past_none (begin_mark place name ∷ marks) = refl

past_properties_of : (properties : List Property) (rest : List Mark) (open_nodes : ℕ) → past (map prop_mark properties ++ rest) (suc open_nodes) ≡ past rest (suc open_nodes)
past_properties_of [] rest open_nodes = refl
past_properties_of (p ∷ properties) rest open_nodes = past_properties_of properties rest open_nodes

past_nodes : (nodes : Nodes) (rest : List Mark) (open_nodes : ℕ) → past (marks_of_nodes nodes ++ rest) (suc open_nodes) ≡ past rest (suc open_nodes)
past_nodes no_nodes rest open_nodes = refl
past_nodes (node place name properties children siblings) rest open_nodes =
    let regroup : (map prop_mark properties ++ (marks_of_nodes children ++ end_mark ∷ marks_of_nodes siblings)) ++ rest ≡ map prop_mark properties ++ (marks_of_nodes children ++ end_mark ∷ (marks_of_nodes siblings ++ rest)) = simp append_assoc in
    ap (λ (x : List Mark). past x (suc (suc open_nodes))) regroup
    ∙ past_properties_of properties (marks_of_nodes children ++ end_mark ∷ (marks_of_nodes siblings ++ rest)) (suc open_nodes)
    ∙ past_nodes children (end_mark ∷ (marks_of_nodes siblings ++ rest)) (suc open_nodes)
    ∙ past_nodes siblings rest open_nodes

-- what stands behind a node
pub past_node : (parts : Parts) (more : List Mark) → past (marks_of_parts parts more) 1 ≡ more
past_node parts more =
    past_properties_of parts.properties (marks_of_nodes parts.children ++ end_mark ∷ more) 0
    ∙ past_nodes parts.children (end_mark ∷ more) 0
    ∙ past_none more

-- what stands behind a node's properties
pub past_properties_at : (properties : List Property) (children : Nodes) (more : List Mark) → past_properties (map prop_mark properties ++ (marks_of_nodes children ++ end_mark ∷ more)) ≡ marks_of_nodes children ++ end_mark ∷ more
past_properties_at [] no_nodes more = refl
past_properties_at [] (node place name properties children siblings) more = refl
past_properties_at (p ∷ properties) children more = past_properties_at properties children more

-- ---- tokens without the texts of properties

-- the token at the front, where there is one
abbrev pub FirstToken : List ℕ → List ℕ → Type 0
FirstToken strings bytes = (token : model.Token) × (n : ℕ) × (token_in strings bytes ≡ Some (token, n)) × Takes strings bytes token n

pub first_token : (strings : List ℕ) (at : ℕ) (bytes : List ℕ) → AreTokens strings at bytes → (bytes ≡ []) ⊎ FirstToken strings bytes
first_token strings at bytes a = by a.marks a.spelled
  where
    by : (marks : List Mark) → SpellsMarks strings at marks bytes → (bytes ≡ []) ⊎ FirstToken strings bytes
    by [] s = inl s
    by (mark ∷ marks) s =
        let own : take (length s.0) bytes ≡ s.0 = ap (take (length s.0)) s.2 ∙ take_at s.0 s.1 (length s.0) refl in
        let long = spelled_len strings at mark s.0 s.3 in
        let size = ap length s.2 ∙ length-append s.0 s.1 in
        inr (
          token_of mark,
          length s.0,
          ap (token_in strings) s.2 ∙ read_again strings at mark s.0 s.1 s.3,
          record {
            spelled = subst (model.Spells strings (token_of mark)) (sym own) s.3.token;
            within = omega arith;
            positive = omega arith;
          },
        )

-- the tokens behind a tag
pub record NextTag (strings : List ℕ) (at : ℕ) (bytes : List ℕ) (tag : Tag) (n : ℕ) : Type 0 where
  pub p : Property
  pub next : Next strings at bytes (tag_mark at tag p) n
  pub own : HasToken strings tag p

pub next_tag_from : (strings : List ℕ) (at : ℕ) (bytes : List ℕ) (tag : Tag) (n : ℕ) → AreTokens strings at bytes → IfSome (token_in strings bytes) (IsTagIn (Some (tag, n))) → (4 ≤ n) × (n ≤ length bytes) → IsInFront tag bytes → NextTag strings at bytes tag n
next_tag_from strings at bytes tag n a is within front = elim (first_token strings at bytes a) [
  | inl none ↦ absurd (let e = ap length none in let l = within.0 in let w = within.1 in omega arith)
  | inr f ↦ (
      let t : IsTagIn (Some (tag, n)) (f.0, f.1) = subst (λ (o : Option (model.Token × ℕ)). IfSome o (IsTagIn (Some (tag, n)))) f.2 is in
      let next : Next strings at bytes (mark_at at f.0) f.1 = next_from strings at bytes f.0 f.1 a f.2 f.3 in
      record {
        p = t.0;
        next = subst (λ (k : ℕ). Next strings at bytes (tag_mark at tag t.0) k) (sym t.2) (subst (λ (k : model.Token). Next strings at bytes (mark_at at k) f.1) (sym t.1) next);
        own = has_token tag t.0 front (subst (λ (k : model.Token). Takes strings bytes k f.1) (sym t.1) f.3);
      })
]
  where
    has_token : (tag : Tag) (p : Property) → IsInFront tag bytes → {m : ℕ} → Takes strings bytes (tag_view tag p) m → HasToken strings tag p
    has_token (tags.BeginNode name) p front t = tt
    has_token tags.EndNode p front t = tt
    has_token (tags.Property own) p front {m} t = (m, subst (λ (x : List ℕ). Takes strings x (model.prop p) m) (sym front) t)
    has_token tags.Nop p front t = tt
    has_token tags.End p front t = tt

pub no_tag : (strings : List ℕ) (at : ℕ) (bytes : List ℕ) → AreTokens strings at bytes → IfSome (token_in strings bytes) (IsTagIn None) → marks_in strings at bytes ≡ []
no_tag strings at bytes a is = nothing_left strings at bytes a (by (token_in strings bytes) is)
  where
    by : (o : Option (model.Token × ℕ)) → IfSome o (IsTagIn None) → o ≡ None
    by None h = refl
    by (Some t) h = absurd h

pub kept_tag : (at : ℕ) (tag : Tag) (p : Property) (marks : List Mark) → (tag ≡ tags.Nop → ⊥) → without_nop_marks (tag_mark at tag p ∷ marks) ≡ tag_mark at tag p ∷ without_nop_marks marks
kept_tag at (tags.BeginNode name) p marks h = refl
kept_tag at tags.EndNode p marks h = refl
kept_tag at (tags.Property own) p marks h = refl
kept_tag at tags.Nop p marks h = absurd (h refl)
kept_tag at tags.End p marks h = refl

pub skipped_tag : (at : ℕ) (tag : Tag) (p : Property) (marks : List Mark) → tag ≡ tags.Nop → without_nop_marks (tag_mark at tag p ∷ marks) ≡ without_nop_marks marks
skipped_tag at tag p marks h = ap (λ (t : Tag). without_nop_marks (tag_mark at t p ∷ marks)) h

-- ---- behind properties of other names

value_of_first : (name : List ℕ) (p : Property) (marks : List Mark) (b : Bool) → bytes_eq name p.name ≡ b → value_of (left_by (past_others name marks)).properties name ≡ value_of (left_by marks).properties name
    → value_of (left_by (if b then prop_mark p ∷ marks else past_others name marks)).properties name ≡ (if b then Some p.value else value_of (left_by marks).properties name)
value_of_first name p marks true is e = rw is refl
value_of_first name p marks false is e = e

pub value_past : (name : List ℕ) (marks : List Mark) → value_of (left_by (past_others name marks)).properties name ≡ value_of (left_by marks).properties name
value_past name [] = refl
value_past name (last_mark ∷ marks) = refl
value_past name (end_mark ∷ marks) = refl
value_past name (nop_mark ∷ marks) = refl
value_past name (begin_mark place x ∷ marks) = refl
value_past name (prop_mark p ∷ marks) = value_of_first name p marks (bytes_eq name p.name) refl (value_past name marks)

-- what a search finds is the value, or there is none
pub value_sought : (name : List ℕ) (at : ℕ) (value : _) (p : Property) (marks behind : List Mark) → IsSought name (seen.Named value) p → past_others name marks ≡ mark_at at (sought_view (seen.Named value) p) ∷ behind
    → Some value.now ≡ value_of (left_by marks).properties name
value_sought name at value p marks behind is e =
    ap Some is.1 ∙ sym (ap (λ b. if b then Some p.value else value_of (left_by behind).properties name) is.0) ∙ sym (ap (λ m. value_of (left_by m).properties name) e) ∙ value_past name marks

pub no_value : (name : List ℕ) (at : ℕ) (sought : Sought) (p : Property) (marks behind : List Mark) → ((value : _) → sought ≡ seen.Named value → ⊥) → past_others name marks ≡ mark_at at (sought_view sought p) ∷ behind
    → None ≡ value_of (left_by marks).properties name
no_value name at (seen.BeginNode x) p marks behind other e = sym (ap (λ m. value_of (left_by m).properties name) e) ∙ value_past name marks
no_value name at seen.EndNode p marks behind other e = sym (ap (λ m. value_of (left_by m).properties name) e) ∙ value_past name marks
no_value name at (seen.Named value) p marks behind other e = absurd (other value refl)
no_value name at seen.End p marks behind other e = sym (ap (λ m. value_of (left_by m).properties name) e) ∙ value_past name marks
