-- A walk through the properties in front of some tokens.
use Rattle.std.proofs.Common.{◌≡◌, ℕ, ◌+◌, ◌-◌, true, false, List, [], ◌∷◌, ◌++◌, length, take, drop, map, Some, refl, sym, ap, subst, ◌∙◌, append_assoc, arith}
use Rattle.std.proofs.lemmas.List.{append-nil, length-append, length-take-le, map-append}
use Rattle.std.specs.List.{AllByRecursion}
use Rattle.std.specs.Str.{bytes_eq}
use Rattle.dt_model.proofs.Words.{length-padded}
use Rattle.dt_model.specs.Format.{prop, word, SpellsProperty}
use Rattle.dt_model.specs.Lexing.{padded}
use Rattle.dt_model.specs.Names.{Name}
use Rattle.dt_model.specs.Tree.{Property}
use Rattle.std.specs.Borrow.{Bor}
use Rattle.dt_read.specs.declared.token.Token.{Token as CodeToken}
use Rattle.dt_read.specs.declared.token.Token.TheVariants as code
use Rattle.dt_read.specs.View.{view_at}
use Rattle.dt_read.specs.Cuts.{Passes, HasNoProperty, property_size, IsPropertyExtent}
use Rattle.dt_read.specs.Lying.{IsLater, TokenLies}
use Rattle.dt_read.specs.Marks.{Mark, prop_mark}
use Rattle.dt_read.specs.TreeTokens.{AreTokens, marks_in}
use Rattle.dt_read.proofs.Lying.{behind_later, later_first, later_trans, token_later}
use Rattle.dt_read.proofs.Passing.{passes_none, found_places, passes_found}

-- the properties from the front up to a place, none of which has the name
pub record Extends (strings : List ℕ) (at : ℕ) (bytes : List ℕ) (name : Name) (here : ℕ) (rest : List ℕ) : Type 0 where
  pub before : List Property
  pub others : AllByRecursion (λ p. bytes_eq name p.name ≡ false) before
  pub whole : marks_in strings at bytes ≡ map prop_mark before ++ marks_in strings here rest
  pub tokens : AreTokens strings here rest
  pub later : IsLater at bytes here rest
  pub passes : Passes strings at bytes here (map prop_mark before)

pub extends_first : (strings : List ℕ) (at : ℕ) (bytes : List ℕ) (name : Name) → AreTokens strings at bytes → Extends strings at bytes name at bytes
extends_first strings at bytes name tokens =
    record { before = []; others = tt; whole = refl; tokens = tokens; later = later_first at bytes; passes = passes_none strings at bytes }

all_more : (P : Property → Type 0) (ps : List Property) (p : Property) → AllByRecursion P ps → P p → AllByRecursion P (ps ++ p ∷ [])
all_more P [] p a h = (h, tt)
all_more P (q ∷ ps) p a h = (a.0, all_more P ps p a.1 h)

-- what a look at the next token finds
pub record FindsProperty (strings : List ℕ) (here : ℕ) (rest : List ℕ) (p : Property) (there next : ℕ) (left : List ℕ) : Type 0 where
  pub lies : TokenLies strings here rest there (prop p) next left
  pub nops : Passes strings here rest there []
  pub marks : marks_in strings here rest ≡ prop_mark p ∷ marks_in strings next left
  pub tokens : AreTokens strings next left

pub extends_more : (strings : List ℕ) (at : ℕ) (bytes : List ℕ) (name : Name) (here : ℕ) (rest : List ℕ) (p : Property) (there next : ℕ) (left : List ℕ) → Extends strings at bytes name here rest
    → FindsProperty strings here rest p there next left → bytes_eq name p.name ≡ false → Extends strings at bytes name next left
extends_more strings at bytes name here rest p there next left e f other =
    let both = passes_found strings at bytes here rest there (prop p) next left (map prop_mark e.before) e.passes e.later f.lies f.nops in
    let more : map prop_mark (e.before ++ p ∷ []) ≡ map prop_mark e.before ++ prop_mark p ∷ [] = map-append prop_mark e.before (p ∷ []) in record {
      before = e.before ++ p ∷ [];
      others = all_more (λ q. bytes_eq name q.name ≡ false) e.before p e.others other;
      whole = e.whole ∙ ap (λ (x : List Mark). map prop_mark e.before ++ x) f.marks ∙ sym (append_assoc (map prop_mark e.before) (prop_mark p ∷ []) (marks_in strings next left))
          ∙ ap (λ (x : List Mark). x ++ marks_in strings next left) (sym more);
      tokens = f.tokens;
      later = behind_later strings at bytes there (prop p) next left (token_later strings at bytes here rest there (prop p) next left e.later f.lies);
      passes = subst (Passes strings at bytes next) (sym more) both.1;
    }

-- a property's token takes as many bytes as its value needs
property_ends : (strings : List ℕ) (here : ℕ) (rest : List ℕ) (p : Property) (there next : ℕ) (left : List ℕ) → TokenLies strings here rest there (prop p) next left → next ≡ there + property_size (Some p.value)
property_ends strings here rest p there next left t =
    let s = t.takes.spelled in
    let content = word 3 ++ (word (length p.value) ++ (word s.offset ++ p.value)) in
    let twelve : length content ≡ 12 + length p.value = omega (arith, length-append (word 3) (word (length p.value) ++ (word s.offset ++ p.value)), length-append (word (length p.value)) (word s.offset ++ p.value), length-append (word s.offset) p.value) in
    let size : t.size ≡ padded (12 + length p.value) = sym (length-take-le t.size t.own t.takes.within) ∙ length-padded content (take t.size t.own) s.bytes ∙ ap padded twelve in
    t.behind ∙ ap (λ (n : ℕ). there + n) size

-- and its bytes are the token
property_token : (strings : List ℕ) (at : ℕ) (bytes : List ℕ) (here : ℕ) (rest : List ℕ) (p : Property) (there next : ℕ) (left : List ℕ) → IsLater at bytes here rest
    → TokenLies strings here rest there (prop p) next left → SpellsProperty strings p (take (property_size (Some p.value)) (drop (there - at) bytes))
property_token strings at bytes here rest p there next left later t =
    let ends = property_ends strings here rest p there next left t in
    let behind = t.behind in
    let size : t.size ≡ property_size (Some p.value) = omega arith in
    let own : t.own ≡ drop (there - at) bytes = (later_trans at bytes here rest there t.own later t.later).is in
    subst (λ (n : ℕ). SpellsProperty strings p (take n (drop (there - at) bytes))) size (subst (λ (x : List ℕ). SpellsProperty strings p (take t.size x)) own t.takes.spelled)

-- there is none of that name
pub extent_none : (strings : List ℕ) (at : ℕ) (bytes : List ℕ) (name : Name) (here : ℕ) (rest : List ℕ) → Extends strings at bytes name here rest → HasNoProperty (marks_in strings here rest)
    → IsPropertyExtent strings at bytes name here here
extent_none strings at bytes name here rest e none =
    let w = e.later.within in record {
      before = e.before;
      own = [];
      left = marks_in strings here rest;
      whole = e.whole;
      others = e.others;
      is = none;
      passes = e.passes;
      passed = subst (Passes strings at bytes here) (sym (append-nil (map prop_mark e.before))) e.passes;
      first = e.later.from;
      size = omega arith;
      token = tt;
      within = w;
      tokens = subst (AreTokens strings here) e.later.is e.tokens;
      behind = ap (marks_in strings here) (sym e.later.is);
    }

-- there is one
pub extent_some : (strings : List ℕ) (at : ℕ) (bytes : List ℕ) (name : Name) (here : ℕ) (rest : List ℕ) (p : Property) (there next : ℕ) (left : List ℕ) → Extends strings at bytes name here rest
    → FindsProperty strings here rest p there next left → bytes_eq name p.name ≡ true → IsPropertyExtent strings at bytes name there next
extent_some strings at bytes name here rest p there next left e f own =
    let both = passes_found strings at bytes here rest there (prop p) next left (map prop_mark e.before) e.passes e.later f.lies f.nops in
    let later = behind_later strings at bytes there (prop p) next left (token_later strings at bytes here rest there (prop p) next left e.later f.lies) in
    let places = found_places strings at bytes here rest there (prop p) next left e.later f.lies in
    let from = places.from in
    let on = places.on in record {
      before = e.before;
      own = p ∷ [];
      left = marks_in strings next left;
      whole = e.whole ∙ ap (λ (x : List Mark). map prop_mark e.before ++ x) f.marks;
      others = e.others;
      is = own;
      passes = both.0;
      passed = both.1;
      first = omega arith;
      size = property_ends strings here rest p there next left f.lies;
      token = property_token strings at bytes here rest p there next left e.later f.lies;
      within = places.within;
      tokens = subst (AreTokens strings next) later.is f.tokens;
      behind = ap (marks_in strings next) (sym later.is);
    }

-- a token that is no property
pub no_property : (at : ℕ) (token : CodeToken) (more : List Mark) → ((name value : Bor (List ℕ)) → token ≡ code.Property name value → ⊥) → HasNoProperty (view_at at token ∷ more)
no_property at (code.BeginNode name) more none = tt
no_property at code.EndNode more none = tt
no_property at (code.Property name value) more none = none name value refl
no_property at code.Nop more none = tt
no_property at code.End more none = tt
