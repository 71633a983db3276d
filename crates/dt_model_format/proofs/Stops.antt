-- Tokens of one block lead on where no token is wrong, so a block has one first token that is wrong at most.
use Rattle.std.proofs.Common.{◌≡◌, ℕ, List, [], ◌∷◌, ◌++◌, length, drop, Option, Some, None, refl, sym, ap, subst, ◌∙◌, append_assoc}
use Rattle.std.specs.Prelude.{option_and_then}
use Rattle.std.proofs.lemmas.List.{drop_at}
use Rattle.dt_model.specs.Format.{Token, SpellsAll}
use Rattle.dt_model.specs.Lexing.{token_in}
use Rattle.dt_model.specs.Checks.{Position, lead, lead_all}
use Rattle.dt_model.proofs.Lexed.{token_again}

-- from one position at the front of a block, these tokens lead to another at the front of the rest
pub record Goes (strings : List ℕ) (p : Position) (tokens : List Token) (block : List ℕ) (end : Position) (rest : List ℕ) : Type 0 where
  pub before : List ℕ
  pub whole : block ≡ before ++ rest
  pub spelled : SpellsAll strings tokens before
  pub led : lead_all tokens p ≡ Some end

-- a token stands at the front of the bytes, and may stand there
pub record GoesOn (strings : List ℕ) (p : Position) (block : List ℕ) : Type 0 where
  pub token : Token
  pub size : ℕ
  pub found : token_in strings block ≡ Some (token, size)
  pub next : Position
  pub led : lead token p ≡ Some next

-- the first token, and the others behind it
pub record First (strings : List ℕ) (p : Position) (token : Token) (tokens : List Token) (block : List ℕ) (end : Position) (rest : List ℕ) : Type 0 where
  pub size : ℕ
  pub found : token_in strings block ≡ Some (token, size)
  pub next : Position
  pub led : lead token p ≡ Some next
  pub later : Goes strings next tokens (drop size block) end rest

-- a step that gives something
led_on : (tokens : List Token) (o : Option Position) (end : Position) → option_and_then (lead_all tokens) o ≡ Some end → (next : Position) × (o ≡ Some next) × (lead_all tokens next ≡ Some end)
led_on tokens None end e = absurd cc
led_on tokens (Some next) end e = (next, refl, e)

first_of : (strings : List ℕ) (p : Position) (token : Token) (tokens : List Token) (block : List ℕ) (end : Position) (rest : List ℕ) → Goes strings p (token ∷ tokens) block end rest → First strings p token tokens block end rest
first_of strings p token tokens block end rest g =
    let s = g.spelled in
    let whole : block ≡ s.0 ++ (s.1 ++ rest) = g.whole ∙ ap (λ (x : List ℕ). x ++ rest) s.2 ∙ append_assoc s.0 s.1 rest in
    let on = led_on tokens (lead token p) end g.led in
    record {
      size = length s.0;
      found = ap (token_in strings) whole ∙ token_again strings token s.0 (s.1 ++ rest) s.3;
      next = on.0;
      led = on.1;
      later = record {
        before = s.1;
        whole = ap (drop (length s.0)) whole ∙ drop_at s.0 (s.1 ++ rest) (length s.0) refl;
        spelled = s.4;
        led = on.2;
      };
    }

-- Where two lists of tokens of a block end: at the same place, or one of them where the other goes on.
pub data Meet (strings : List ℕ) (a : Position) (r : List ℕ) (b : Position) (s : List ℕ) : Type 0 where
  together : a ≡ b → r ≡ s → Meet strings a r b s
  first_ends : GoesOn strings a r → Meet strings a r b s
  second_ends : GoesOn strings b s → Meet strings a r b s

-- with no tokens one stays where one is
stays : (strings : List ℕ) (p : Position) (block : List ℕ) (end : Position) (rest : List ℕ) → Goes strings p [] block end rest → (p ≡ end) × (block ≡ rest)
stays strings p block end rest g = (let e = g.led in cc, g.whole ∙ ap (λ (x : List ℕ). x ++ rest) g.spelled)

goes_from : (strings : List ℕ) (p : Position) (token : Token) (tokens : List Token) (block : List ℕ) (end : Position) (rest : List ℕ) (q : Position) (start : List ℕ) → Goes strings p (token ∷ tokens) block end rest → p ≡ q → block ≡ start → GoesOn strings q start
goes_from strings p token tokens block end rest q start g same whole =
    let f = first_of strings p token tokens block end rest g in
    record {
      token = token;
      size = f.size;
      found = ap (token_in strings) (sym whole) ∙ f.found;
      next = f.next;
      led = ap (lead token) (sym same) ∙ f.led;
    }

same_pair : (t u : Token) (m n : ℕ) → ◌≡◌ {A = Token × ℕ} (t, m) (u, n) → (t ≡ u) × (m ≡ n)
same_pair t u m n e = (ap (λ (x : Token × ℕ). x.0) e, ap (λ (x : Token × ℕ). x.1) e)

-- both lists are the front of one list, since the token at the front of some bytes is one
pub meeting : (strings : List ℕ) (p : Position) (xs ys : List Token) (block : List ℕ) (a : Position) (r : List ℕ) (b : Position) (s : List ℕ) → Goes strings p xs block a r → Goes strings p ys block b s → Meet strings a r b s
meeting strings p [] [] block a r b s g h =
    let one = stays strings p block a r g in
    let two = stays strings p block b s h in
    together (sym one.0 ∙ two.0) (sym one.1 ∙ two.1)
meeting strings p [] (y ∷ ys) block a r b s g h =
    let one = stays strings p block a r g in
    first_ends (goes_from strings p y ys block b s a r h one.0 one.1)
meeting strings p (x ∷ xs) [] block a r b s g h =
    let two = stays strings p block b s h in
    second_ends (goes_from strings p x xs block a r b s g two.0 two.1)
meeting strings p (x ∷ xs) (y ∷ ys) block a r b s g h =
    let one = first_of strings p x xs block a r g in
    let two = first_of strings p y ys block b s h in
    let pair : ◌≡◌ {A = Token × ℕ} (y, two.size) (x, one.size) = let e = one.found in let f = two.found in cc in
    let same = same_pair y x two.size one.size pair in
    let led : lead x p ≡ Some two.next = ap (λ (t : Token). lead t p) (sym same.0) ∙ two.led in
    let next : two.next ≡ one.next = let e = one.led in cc in
    let later = subst (λ (n : ℕ). Goes strings one.next ys (drop n block) b s) same.1 (subst (λ (q : Position). Goes strings q ys (drop two.size block) b s) next two.later) in
    meeting strings one.next xs ys (drop one.size block) a r b s one.later later
