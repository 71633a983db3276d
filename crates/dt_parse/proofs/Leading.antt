-- Reading goes on from one place at another: through a part, behind one, and over the elements of a list.
use Rattle.std.proofs.Common.{◌≡◌, ◌≤◌, ◌<◌, Some, ap, arith, Bool, true, List, [], ◌∷◌, ◌++◌, length, sym, subst, append_assoc}
use Rattle.std.specs.Prelude.{Result, IfErr}
use Rattle.std.specs.Result.{IsErrAnd}
use Rattle.std.proofs.lemmas.Result.{err_from_is_err_and}
use Rattle.std.proofs.lemmas.List.{append-nil}
use Rattle.dt_names.specs.declared.fault.FaultKind.{FaultKind}
use Rattle.dt_names.specs.declared.fault.FaultKind.TheVariants as fault
use Rattle.dt_parse.specs.declared.stop.Stop.{Stop}
use Rattle.dt_lex.specs.declared.token.TokenKind.{TokenKind}
use Rattle.dt_grammar.specs.Words.{Words}
use Rattle.dt_grammar.specs.Wanted.{Made, Wanted, Done, kind_at, refuse, give, want}
use Rattle.dt_grammar.specs.Descent.{Outcome, found, stuck, gives, part_stuck, Descends, move_at, first, after}
use Rattle.dt_grammar.specs.Faults.{Around, within, Shows, unwanted, Passes, IsFine, IsNoNumber, Breaks, in_part, behind_part}
use Rattle.dt_parse.specs.Reading.{IsRead, IsBroken}
use Rattle.dt_parse.specs.Leading.{ReadsOn}
use Rattle.dt_grammar.proofs.Descent.{by_move}
use Rattle.dt_grammar.proofs.Stepping.{given, part_then}
use Rattle.dt_parse.proofs.Stopping.{stopped, stops_too}

-- the next token can't stand there
pub unexpected : (a : Around) (g : Wanted) (ws : Words) (stop : Stop) → move_at g (first ws) ≡ refuse → stop.kind ≡ fault.Syntax → stop.left ≡ length ws → IsBroken a g ws stop
unexpected a g ws stop e k l = stopped a g ws stop (subst (Shows a g ws) (sym k) (unwanted e)) l

-- the part that is wanted next is all that is
pub leads_on : (a : Around) (g : Wanted) (ws : Words) (taken : Bool) (part : Wanted) (vs : Words) → IsNoNumber g → move_at g (first ws) ≡ want taken part Done → Passes a g ws →
    vs ≡ after taken ws → ReadsOn a g ws (within g a) part vs
leads_on a g ws taken part vs n e p v = subst (λ (us : Words). ReadsOn a g ws (within g a) part us) (sym v) (record {
  follows = along;
  breaks = λ k left h. in_part a g ws left k taken part Done n e p h;
})
  where
    along : (o : Outcome) → Descends part (after taken ws) o → Descends g ws o
    along (found m left) d = part_then g ws taken part Done m left (found m left) e d gives
    along (stuck left) d = by_move _ _ ws _ e (part_stuck d)

-- behind a part that was read
pub leads_behind : (a : Around) (g : Wanted) (ws : Words) (taken : Bool) (part : Wanted) (whole : Made → Wanted) (vs : Words) (m : Made) (rest : Words) → IsNoNumber g →
    move_at g (first ws) ≡ want taken part whole → Passes a g ws → vs ≡ after taken ws → IsRead (within g a) part vs m rest → ReadsOn a g ws a (whole m) rest
leads_behind a g ws taken part whole vs m rest n e p v r =
    let here : IsRead (within g a) part (after taken ws) m rest = subst (λ (us : Words). IsRead (within g a) part us m rest) v r in
    record {
      follows = λ o d. part_then g ws taken part whole m rest o e here.read d;
      breaks = λ k left h. behind_part a g ws rest left k taken part whole m n e p here.read here.fine h;
    }

pub leads_then : (a : Around) (g : Wanted) (ws : Words) (b : Around) (h : Wanted) (vs : Words) (c : Around) (i : Wanted) (us : Words) →
    ReadsOn a g ws b h vs → ReadsOn b h vs c i us → ReadsOn a g ws c i us
leads_then a g ws b h vs c i us p q = record {
  follows = λ o d. p.follows o (q.follows o d);
  breaks = λ k left d. p.breaks k left (q.breaks k left d);
}

pub leads_stop : (a : Around) (g : Wanted) (ws : Words) (b : Around) (h : Wanted) (vs : Words) (stop : Stop) → ReadsOn a g ws b h vs → IsBroken b h vs stop → IsBroken a g ws stop
leads_stop a g ws b h vs stop p d = stops_too b a h g vs ws stop p.breaks d

-- what is wanted is complete here
pub leads_to_end : (a : Around) (g : Wanted) (ws : Words) (b : Around) (h : Wanted) (vs : Words) (taken : Bool) (m : Made) (left : Words) → ReadsOn a g ws b h vs →
    move_at h (first vs) ≡ give taken m → left ≡ after taken vs → IsFine a m → IsRead a g ws m left
leads_to_end a g ws b h vs taken m left p e l fine =
    record { read = p.follows (found m left) (subst (λ (us : Words). Descends h vs (found m us)) (sym l) (given h vs taken m e)); fine = fine }

-- the part that is wanted next breaks
pub part_stop : (a : Around) (g : Wanted) (ws : Words) (taken : Bool) (part : Wanted) (whole : Made → Wanted) (vs : Words) (stop : Stop) → IsNoNumber g →
    move_at g (first ws) ≡ want taken part whole → Passes a g ws → vs ≡ after taken ws → IsBroken (within g a) part vs stop → IsBroken a g ws stop
part_stop a g ws taken part whole vs stop n e p v d =
    stops_too (within g a) a part g (after taken ws) ws stop (λ k left h. in_part a g ws left k taken part whole n e p h) (subst (λ (us : Words). IsBroken (within g a) part us stop) v d)

-- ---- how many tokens are left

pub no_longer : (ws vs : Words) → vs ≡ after true ws → length vs ≤ length ws
no_longer [] vs v = let l = ap length v in omega (arith, l)
no_longer (w ∷ ws) vs v = let l = ap length v in omega (arith, l)

pub shorter : (ws vs : Words) (k : TokenKind) → kind_at (first ws) ≡ Some k → vs ≡ after true ws → length vs < length ws
shorter [] vs k e v = absurd (cc)
shorter (w ∷ ws) vs k e v = let l = ap length v in omega (arith, l)

-- ---- what `?` hands on

pub handed_on : {T : Type 0} (r : Result T Stop) (s : Stop) (Q : Stop → Type 0) → IsErrAnd r (λ e. e ≡ s) → Q s → IfErr r Q
handed_on r s Q h q = let p = err_from_is_err_and r h in subst (λ z. IfErr z Q) (sym p.1) (subst Q (sym p.2) q)

-- ---- lists

-- with these elements in front, what is read on from the second place is read from the first, and what breaks there breaks here
pub record Goes {X : Type 0} (make : List X → Made) (g : Wanted) (f : Around → Around) (start now : Words) (done : List X) : Type 0 where
  pub reads : (a : Around) (xs : List X) (left : Words) → IsRead (f a) g now (make xs) left → IsRead (f a) g start (make (done ++ xs)) left
  pub breaks : (a : Around) (k : FaultKind) (left : Words) → Breaks (f a) g now k left → Breaks (f a) g start k left

pub goes_nowhere : {X : Type 0} (make : List X → Made) (g : Wanted) (f : Around → Around) (start : Words) → Goes make g f start start []
goes_nowhere make g f start = record { reads = λ a xs left r. r; breaks = λ a k left h. h }

pub goes_on : {X : Type 0} (make : List X → Made) (g : Wanted) (f : Around → Around) (start now next : Words) (done : List X) (x : X) →
    Goes make g f start now done → Goes make g f now next (x ∷ []) → Goes make g f start next (done ++ x ∷ [])
goes_on make g f start now next done x p q = record {
  reads = λ a xs left r. subst (λ ys. IsRead (f a) g start (make ys) left) (sym (append_assoc done (x ∷ []) xs)) (p.reads a (x ∷ xs) left (q.reads a xs left r));
  breaks = λ a k left h. p.breaks a k left (q.breaks a k left h);
}

pub goes_to_end : {X : Type 0} (make : List X → Made) (g : Wanted) (f : Around → Around) (start now : Words) (done : List X) (left : Words) →
    Goes make g f start now done → ((a : Around) → IsRead (f a) g now (make []) left) → (a : Around) → IsRead (f a) g start (make done) left
goes_to_end make g f start now done left p r a = subst (λ ys. IsRead (f a) g start (make ys) left) (append-nil done) (p.reads a [] left (r a))

pub goes_stop : {X : Type 0} (make : List X → Made) (g : Wanted) (f : Around → Around) (start now : Words) (done : List X) (stop : Stop) →
    Goes make g f start now done → ((a : Around) → IsBroken (f a) g now stop) → (a : Around) → IsBroken (f a) g start stop
goes_stop make g f start now done stop p d a = stops_too (f a) (f a) g g now start stop (p.breaks a) (d a)
