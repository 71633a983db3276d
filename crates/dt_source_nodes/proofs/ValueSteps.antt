-- Reading a value piece by piece.
use Rattle.std.proofs.Common.{◌≡◌, ℕ, ◌+◌, ◌<◌, List, [], ◌∷◌, ◌++◌, map, length, take, drop, get_or, reverse, Option, None, Some, Result, Ok, Err, MatchResult, sym, ap, ◌∙◌, append_assoc}
use Rattle.std.proofs.lemmas.List.{drop_more}
use Rattle.dt_model.specs.Meaning.{Item, byte}
use Rattle.dt_model.specs.Source.{Part, one, Events}
use Rattle.dt_model.specs.Named.{NodeReference}
use Rattle.dt_names.specs.declared.fault.Fault.{Fault}
use Rattle.dt_names.specs.declared.fault.FaultKind.{FaultKind}
use Rattle.dt_names.specs.declared.fault.FaultKind.TheVariants as fault
use Rattle.dt_source_items.specs.declared.source.Piece.{Piece}
use Rattle.dt_source_items.specs.Said.{parts_said, reference_of, referring}
use Rattle.dt_source_growing.specs.declared.growing.Growing.{Growing}
use Rattle.dt_source_growing.specs.declared.referring.Unnamed.{Unnamed}
use Rattle.dt_source_nodes.specs.Contents.{named_part, named_parts, all_read, piece_parts}
use Rattle.dt_source_nodes.specs.Resolving.{EachNaming, IsAdded, WhyUnread, IsUnread}
use Rattle.dt_source_nodes.proofs.Binding.{behind, named_behind, unread_before, unread_behind, bytes_named, piece_named}

pub result_map : {T E : Type 0} (r : Result T E) (P P' : T → Type 0) (Q Q' : E → Type 0) → ((x : T) → P x → P' x) → ((e : E) → Q e → Q' e) → MatchResult r P Q → MatchResult r P' Q'
result_map (Ok x) P P' Q Q' f g h = f x h
result_map (Err e) P P' Q Q' f g h = g e h

-- ---- why a value isn't read

why_more : (unnamed : Unnamed) (es : Events) (xs ys : List Part) (kind : FaultKind) → (all_read unnamed es xs ≡ None → all_read unnamed es ys ≡ None) → WhyUnread unnamed es xs kind → WhyUnread unnamed es ys kind
why_more unnamed es xs ys fault.NoMemory more h = tt
why_more unnamed es xs ys fault.UnresolvedReference more h = more h
why_more unnamed es xs ys kind more h = absurd h

unread_more : (unnamed : Unnamed) (g : Growing) (xs ys : List Part) (e : Fault) → ((es : Events) → all_read unnamed es xs ≡ None → all_read unnamed es ys ≡ None) → IsUnread unnamed g xs e → IsUnread unnamed g ys e
unread_more unnamed g xs ys e more h = (h.0, λ es is. why_more unnamed es xs ys e.kind (more es) (h.1 es is))

-- a part that isn't read behind bytes
pub unread_piece : (unnamed : Unnamed) (g : Growing) (bs : List ℕ) (x : Part) (e : Fault) → IsUnread unnamed g (x ∷ []) e → IsUnread unnamed g (map one bs ++ x ∷ []) e
unread_piece unnamed g bs x e h = unread_more unnamed g (x ∷ []) (map one bs ++ x ∷ []) e (λ es. unread_behind unnamed es reverse (map one bs) (x ∷ [])) h

-- a piece that isn't read
pub unread_value : (unnamed : Unnamed) (g : Growing) (whole before here rest : List Part) (e : Fault) → whole ≡ before ++ (here ++ rest) → IsUnread unnamed g here e → IsUnread unnamed g whole e
unread_value unnamed g whole before here rest e is h =
    unread_more unnamed g here whole e
    (λ es none. ap (all_read unnamed es) is ∙ unread_behind unnamed es reverse before (here ++ rest) (unread_before unnamed es reverse here rest none)) h

-- what is left of a value is a piece and what is left behind it
pub piece_split : (ps : List Piece) (i : ℕ) (p : Piece) (bs : List ℕ) → i < length ps → p ≡ get_or ps i p →
    parts_said (drop i ps) bs ≡ piece_parts (take p.before bs) p ++ parts_said (drop (i + 1) ps) (drop p.before bs)
piece_split ps i p bs near is =
    ap (λ (qs : List Piece). parts_said qs bs) (drop_more ps i p near ∙ ap (λ (q : Piece). q ∷ drop (i + 1) ps) (sym is))
    ∙ sym (append_assoc (map one (take p.before bs)) (referring p.form (reference_of p.reference) ∷ []) (parts_said (drop (i + 1) ps) (drop p.before bs)))

-- ---- what is read

-- bytes and the reference behind them
pub piece_added : (unnamed : Unnamed) (g : Growing) (places : List (Option ℕ)) (bs : List ℕ) (x : Part) (old mid new : List (Item NodeReference)) →
    mid ≡ old ++ map byte bs → EachNaming g places (λ es place. IsAdded mid (named_part unnamed es place x) new) →
    EachNaming g places (λ es place. IsAdded old (named_parts unnamed es place (map one bs ++ x ∷ [])) new)
piece_added unnamed g places bs x old mid new e h es place limit of by =
    let added = h es place limit of by in
    let items = added.0 in (
      map byte bs ++ items,
      piece_named unnamed es place bs x items added.1,
      added.2 ∙ (ap (λ (xs : List (Item NodeReference)). xs ++ items) e ∙ append_assoc old (map byte bs) items),
    )

-- one piece more
pub pieces_more : (unnamed : Unnamed) (g : Growing) (places : List (Option ℕ)) (before here : List Part) (old new : List (Item NodeReference)) →
    EachNaming g places (λ es place. named_parts unnamed es place before ≡ Some old) →
    EachNaming g places (λ es place. IsAdded old (named_parts unnamed es place here) new) →
    EachNaming g places (λ es place. named_parts unnamed es place (before ++ here) ≡ Some new)
pieces_more unnamed g places before here old new read added es place limit of by =
    let more = added es place limit of by in
    named_behind unnamed es place before here
    ∙ (ap (λ (o : Option (List (Item NodeReference))). behind o (named_parts unnamed es place here)) (read es place limit of by)
    ∙ (ap (behind (Some old)) more.1 ∙ ap (λ (xs : List (Item NodeReference)). Some xs) (sym more.2)))

-- and the bytes behind them
pub value_read : (unnamed : Unnamed) (g : Growing) (places : List (Option ℕ)) (whole before : List Part) (bs : List ℕ) (old new : List (Item NodeReference)) → whole ≡ before ++ map one bs →
    EachNaming g places (λ es place. named_parts unnamed es place before ≡ Some old) → new ≡ old ++ map byte bs →
    EachNaming g places (λ es place. named_parts unnamed es place whole ≡ Some new)
value_read unnamed g places whole before bs old new is read e es place limit of by =
    ap (named_parts unnamed es place) is
    ∙ (named_behind unnamed es place before (map one bs)
    ∙ (ap (λ (o : Option (List (Item NodeReference))). behind o (named_parts unnamed es place (map one bs))) (read es place limit of by)
    ∙ (ap (behind (Some old)) (bytes_named unnamed es place bs) ∙ ap (λ (xs : List (Item NodeReference)). Some xs) (sym e))))
