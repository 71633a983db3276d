-- Strings once names are used: those that they hold bring nothing.
use Rattle.std.proofs.Common.{◌≡◌, ℕ, suc, ◌≤◌, Bool, true, false, List, [], ◌∷◌, ◌++◌, length, take, Option, Some, None, is_some, ◌⊎◌, inl, inr, refl, sym, ap, subst, ◌∙◌, append_assoc, arith}
use Rattle.std.specs.List.{flat_map}
use Rattle.std.specs.Option.{option_map}
use Rattle.std.proofs.lemmas.List.{append-nil, length-append, take-append-drop}
use Rattle.dt_model.specs.Format.{Token, begin_node, end_node, prop, nop, end_tree, without_nops, word, HoldsName, IsPadded, SpellsAll, Spells, SpellsTree}
use Rattle.dt_model.specs.Lexing.{padded}
use Rattle.dt_model.specs.Lists.{IsIn}
use Rattle.dt_model.specs.Names.{Name}
use Rattle.dt_model.specs.Tree.{Reading}
use Rattle.dt_model.proofs.Tests.{in_left}
use Rattle.dt_model_format.specs.Strings.{terminated, begins, place_in}
use Rattle.dt_write.proofs.Places.{begun, begins_own}
use Rattle.dt_edit.specs.Buffers.{token_size, tokens_size, token_names, tree_size, property_names, strings_with}
use Rattle.dt_edit.specs.Plans.{brought_by}
use Rattle.dt_edit.proofs.TreeSizes.{sizes_append, names_append}

-- the strings hold a name and its NUL
abbrev pub AreHolding : List ℕ → Name → Type 0
AreHolding strings name = is_some (place_in strings name) ≡ true

-- ---- held names

some_map : (o : Option ℕ) → is_some o ≡ true → is_some (option_map (λ k. suc k) o) ≡ true
some_map None e = absurd cc
some_map (Some k) e = refl

some_mapped : (o : Option ℕ) → is_some (option_map (λ k. suc k) o) ≡ true → is_some o ≡ true
some_mapped None e = absurd cc
some_mapped (Some k) e = refl

-- some bytes that begin with the name hold it; so do those with one more before them
first_held : (b : ℕ) (strings : List ℕ) (name : Name) → begins (terminated name) (b ∷ strings) ≡ true → AreHolding (b ∷ strings) name
first_held b strings name e = rw e refl

behind_held : (b : ℕ) (strings : List ℕ) (name : Name) → AreHolding strings name → AreHolding (b ∷ strings) name
behind_held b strings name h = step (begins (terminated name) (b ∷ strings)) refl
  where
    step : (t : Bool) → begins (terminated name) (b ∷ strings) ≡ t → AreHolding (b ∷ strings) name
    step true e = rw e refl
    step false e = rw e (some_map (place_in strings name) h)

front_held : (name : Name) (rest : List ℕ) → AreHolding (name ++ 0 ∷ rest) name
front_held name rest = by name refl
  where
    whole : (n : Name) → terminated n ++ rest ≡ n ++ 0 ∷ rest
    whole n = append_assoc n (0 ∷ []) rest

    by : (n : Name) → n ≡ name → AreHolding (n ++ 0 ∷ rest) n
    by [] e = refl
    by (c ∷ n) e = first_held c (n ++ 0 ∷ rest) (c ∷ n) (subst (λ (ys : List ℕ). begins (terminated (c ∷ n)) ys ≡ true) (whole (c ∷ n)) (begins_own (terminated (c ∷ n)) rest))

pub held_within : (front : List ℕ) (name : Name) (rest : List ℕ) → AreHolding (front ++ (name ++ 0 ∷ rest)) name
held_within [] name rest = front_held name rest
held_within (b ∷ front) name rest = behind_held b (front ++ (name ++ 0 ∷ rest)) name (held_within front name rest)

pub held_by : (strings : List ℕ) (offset : ℕ) (name : Name) → HoldsName strings offset name → AreHolding strings name
held_by strings offset name h =
    subst (λ (s : List ℕ). AreHolding s name) (sym (sym (take-append-drop offset strings) ∙ ap (λ (back : List ℕ). take offset strings ++ back) h.stands))
    (held_within (take offset strings) name h.rest)

pub held_longer : (strings more : List ℕ) (name : Name) → AreHolding strings name → AreHolding (strings ++ more) name
held_longer [] more name h = absurd cc
held_longer (b ∷ strings) more name h = step (begins (terminated name) (b ∷ strings)) refl (held_longer strings more name)
  where
    step : (t : Bool) → begins (terminated name) (b ∷ strings) ≡ t → (AreHolding strings name → AreHolding (strings ++ more) name) → AreHolding ((b ∷ strings) ++ more) name
    step true e later =
        let m = begun (terminated name) (b ∷ strings) e in
        let whole : (b ∷ strings) ++ more ≡ terminated name ++ (m.rest ++ more) = ap (λ (s : List ℕ). s ++ more) m.is ∙ append_assoc (terminated name) m.rest more in
        first_held b (strings ++ more) name (subst (λ (ys : List ℕ). begins (terminated name) ys ≡ true) (sym whole) (begins_own (terminated name) (m.rest ++ more)))
    step false e later = behind_held b (strings ++ more) name (later (some_mapped (place_in strings name) (rw e at h)))

-- ---- strings with names

held_brings : (strings : List ℕ) (name : Name) → AreHolding strings name → strings ++ brought_by (place_in strings name) name ≡ strings
held_brings strings name h = step (place_in strings name) h
  where
    step : (o : Option ℕ) → is_some o ≡ true → strings ++ brought_by o name ≡ strings
    step None e = absurd cc
    step (Some k) e = append-nil strings

pub with_held : (strings : List ℕ) (names : List Name) → ((n : Name) → IsIn n names → AreHolding strings n) → strings_with strings names ≡ strings
with_held strings [] h = refl
with_held strings (n ∷ names) h =
    ap (λ (s : List ℕ). strings_with s names) (held_brings strings n (h n (inl refl))) ∙ with_held strings names (λ m at. h m (inr at))

-- a name that they don't hold, among others that they hold
brought : (strings : List ℕ) (name : Name) → place_in strings name ≡ None → (ns : List Name) → ((n : Name) → IsIn n ns → (n ≡ name) ⊎ AreHolding strings n) → IsIn name ns
    → strings_with strings ns ≡ strings ++ terminated name
brought strings name none [] h at = absurd at
brought strings name none (n ∷ ns) h at = step (brought strings name none ns (λ m in-ns. h m (inr in-ns))) (h n (inl refl)) at
  where
    grown : List ℕ
    grown = strings ++ terminated name

    now : (m : Name) → (m ≡ name) ⊎ AreHolding strings m → AreHolding grown m
    now m (inl e) = subst (AreHolding grown) (sym e) (held_within strings name [])
    now m (inr e) = held_longer strings (terminated name) m e

    step : (IsIn name ns → strings_with strings ns ≡ strings ++ terminated name) → (n ≡ name) ⊎ AreHolding strings n → IsIn name (n ∷ ns) → strings_with strings (n ∷ ns) ≡ strings ++ terminated name
    step later (inl e) at =
        ap (λ (m : Name). strings_with (strings ++ brought_by (place_in strings m) m) ns) e
        ∙ ap (λ (o : Option ℕ). strings_with (strings ++ brought_by o name) ns) none
        ∙ with_held grown ns (λ m in-ns. now m (h m (inr in-ns)))
    step later (inr held) (inl e) = absurd (let some : false ≡ true = sym (ap is_some none) ∙ subst (AreHolding strings) (sym e) held in cc)
    step later (inr held) (inr at) = ap (λ (s : List ℕ). strings_with s ns) (held_brings strings n held) ∙ later at

pub with_name : (strings : List ℕ) (name : Name) (names : List Name) → ((n : Name) → IsIn n names → (n ≡ name) ⊎ AreHolding strings n) → IsIn name names
    → strings_with strings names ≡ strings ++ brought_by (place_in strings name) name
with_name strings name names h there = whole (place_in strings name) refl
  where
    held_all : AreHolding strings name → (n : Name) → (n ≡ name) ⊎ AreHolding strings n → AreHolding strings n
    held_all held n (inl e) = subst (AreHolding strings) (sym e) held
    held_all held n (inr e) = e

    whole : (o : Option ℕ) → place_in strings name ≡ o → strings_with strings names ≡ strings ++ brought_by (place_in strings name) name
    whole None e = brought strings name e names h there ∙ sym (ap (λ (o : Option ℕ). strings ++ brought_by o name) e)
    whole (Some k) e =
        let held : AreHolding strings name = ap is_some e in
        with_held strings names (λ n at. held_all held n (h n at)) ∙ sym (held_brings strings name held)

-- ---- spelled tokens

padded_length : (content own : List ℕ) → IsPadded content own → length own ≡ padded (length content)
padded_length content own p =
    let long = ap (λ (b : List ℕ). length b) p.whole ∙ length-append content p.padding in
    let short = p.short in
    let aligned = p.aligned in
    omega (arith, long, short, aligned)

token_long : (strings : List ℕ) (token : Token) (own : List ℕ) → Spells strings token own → length own ≡ token_size token
token_long strings (begin_node name) own s = padded_length (word 1 ++ (name ++ 0 ∷ [])) own s.bytes ∙ ap padded (omega (arith, length-append (word 1) (name ++ 0 ∷ []), length-append name (0 ∷ [])))
token_long strings end_node own s = ap (λ (b : List ℕ). length b) s
token_long strings (prop p) own s =
    padded_length (word 3 ++ (word (length p.value) ++ (word s.offset ++ p.value))) own s.bytes
    ∙ ap padded (omega (arith, length-append (word 3) (word (length p.value) ++ (word s.offset ++ p.value)), length-append (word (length p.value)) (word s.offset ++ p.value), length-append (word s.offset) p.value))
token_long strings nop own s = ap (λ (b : List ℕ). length b) s
token_long strings end_tree own s = ap (λ (b : List ℕ). length b) s

all_long : (strings : List ℕ) (tokens : List Token) (bytes : List ℕ) → SpellsAll strings tokens bytes → length bytes ≡ tokens_size tokens
all_long strings [] bytes s = ap (λ (b : List ℕ). length b) s
all_long strings (token ∷ tokens) bytes s =
    let own = token_long strings token s.0 s.3 in
    let rest = all_long strings tokens s.1 s.4 in
    omega (arith, own, rest, ap (λ (b : List ℕ). length b) s.2, length-append s.0 s.1)

without_less : (tokens : List Token) → tokens_size (without_nops tokens) ≤ tokens_size tokens
without_less [] = omega arith
without_less (nop ∷ tokens) = omega (arith, without_less tokens)
without_less (begin_node name ∷ tokens) = omega (arith, without_less tokens)
without_less (end_node ∷ tokens) = omega (arith, without_less tokens)
without_less (prop p ∷ tokens) = omega (arith, without_less tokens)
without_less (end_tree ∷ tokens) = omega (arith, without_less tokens)

without_named : (tokens : List Token) → flat_map token_names (without_nops tokens) ≡ flat_map token_names tokens
without_named [] = refl
without_named (nop ∷ tokens) = without_named tokens
without_named (begin_node name ∷ tokens) = without_named tokens
without_named (end_node ∷ tokens) = without_named tokens
without_named (prop p ∷ tokens) = ap (λ (ns : List Name). p.name ∷ ns) (without_named tokens)
without_named (end_tree ∷ tokens) = without_named tokens

all_held : (strings : List ℕ) (tokens : List Token) (bytes : List ℕ) → SpellsAll strings tokens bytes → (n : Name) → IsIn n (flat_map token_names tokens) → AreHolding strings n
all_held strings [] bytes s n at = absurd at
all_held strings (begin_node name ∷ tokens) bytes s n at = all_held strings tokens s.1 s.4 n at
all_held strings (end_node ∷ tokens) bytes s n at = all_held strings tokens s.1 s.4 n at
all_held strings (prop p ∷ tokens) bytes s n (inl e) = subst (AreHolding strings) (sym e) (held_by strings s.3.offset p.name s.3.named)
all_held strings (prop p ∷ tokens) bytes s n (inr at) = all_held strings tokens s.1 s.4 n at
all_held strings (nop ∷ tokens) bytes s n at = all_held strings tokens s.1 s.4 n at
all_held strings (end_tree ∷ tokens) bytes s n at = all_held strings tokens s.1 s.4 n at

-- a tree's tokens are no longer than its block, whose strings hold their names
pub spelled_tree_size : (strings : List ℕ) (t : Reading) (block : List ℕ) → SpellsTree strings t.properties t.children block → tree_size t ≤ length block
spelled_tree_size strings t block s =
    let long = all_long strings (s.tokens ++ end_tree ∷ []) block s.spelled in
    let more = sizes_append s.tokens (end_tree ∷ []) in
    let less = without_less s.tokens in
    let whole = ap tokens_size s.whole in
    omega (arith, long, more, less, whole)

pub spelled_names : (strings : List ℕ) (t : Reading) (block : List ℕ) → SpellsTree strings t.properties t.children block → (n : Name) → IsIn n (property_names t) → AreHolding strings n
spelled_names strings t block s n at =
    let all : property_names t ≡ flat_map token_names s.tokens = sym (ap (flat_map token_names) s.whole) ∙ without_named s.tokens in
    let here = in_left n (flat_map token_names s.tokens) [] (subst (IsIn n) all at) in
    all_held strings (s.tokens ++ end_tree ∷ []) block s.spelled n (subst (IsIn n) (sym (names_append s.tokens (end_tree ∷ []))) here)
