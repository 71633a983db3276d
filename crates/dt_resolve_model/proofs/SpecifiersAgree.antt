-- The route of a specifier that a world determines is the one of each world that refines it.
use Rattle.std.proofs.Common.{◌≡◌, ℕ, suc, zero, ◌+◌, ◌%◌, Bool, true, false, not, ◌==◌, List, [], ◌∷◌, length, refl, sym, ap, subst, Option, Some, None}
use Rattle.std.specs.Prelude.{if◌then◌else◌}
use Rattle.dt_names.specs.declared.fault.FaultKind.TheVariants.{Loop}
use Rattle.dt_model.specs.Names.{Name}
use Rattle.dt_model.specs.Path.{Path}
use Rattle.dt_resolve_model.specs.Answers.{Answer, answer, refuse, ◌>>=◌, Agrees}
use Rattle.dt_resolve_model.specs.World.{Quad, figure, Value, World}
use Rattle.dt_resolve_model.specs.Regions.{figure_of}
use Rattle.dt_resolve_model.specs.Interrupts.{Sent, entry_sent, is_ragged, MapRow, as_numbers, first_match, mask_of, Route, most_hops}
use Rattle.dt_resolve_model.specs.Specifiers.{cells_name, map_name, mask_name, pass_name, provider_count, provider_of, provider_row_cells, passed, passed_cell, merged, led_by, provider_hop, provided_at, provision, provided, specifier_route, provider_at, specifier_at}
use Rattle.dt_resolve_model.proofs.Agreeing.{Same, agree_bind, agree_refl, agree_same, IsSeen, AreSeen, IsValueSeen, IsMaybeSeen, Refines, seen_figure, seen_length}
use Rattle.dt_resolve_model.proofs.InterruptsAgree.{IsSentSeen, IsRowSeen, AreWidthsSame, agree_at, size_agrees, entry_sent_agrees, sent_at_agrees, first_match_agrees, mask_of_agrees, as_numbers_agree}

count_agrees : (v w : World) → Refines v w → (kind : Name) (p : Path) → Agrees (Same ℕ) (provider_count v kind p) (provider_count w kind p)
count_agrees v w r kind p = size_agrees v w r 0 (cells_name kind) p

ragged_same : (w : World) (a b : Value) → IsValueSeen w a b → is_ragged b ≡ is_ragged a
ragged_same w a b h = ap (λ (n : ℕ). not (n % 4 == 0)) h.size

provider_agrees : (v w : World) → Refines v w → (kind : Name) (index : ℕ) (a b : Option Value) → IsMaybeSeen w a b → Agrees (IsSentSeen w) (provider_of v kind index a) (provider_of w kind index b)
provider_agrees v w r kind index None None h = refl
provider_agrees v w r kind index None (Some b) h = absurd h
provider_agrees v w r kind index (Some a) None h = absurd h
provider_agrees v w r kind index (Some a) (Some b) h =
    subst (λ (t : Bool). Agrees (IsSentSeen w) (entry_sent v (provider_count v kind) (is_ragged a) index a.cells) (entry_sent w (provider_count w kind) t index b.cells)) (sym (ragged_same w a b h))
    (entry_sent_agrees v w r (provider_count v kind) (provider_count w kind) (count_agrees v w r kind) (is_ragged a) index a.cells b.cells h.cells)

widths_agree : (v w : World) → Refines v w → (kind : Name) → AreWidthsSame (provider_row_cells v kind) (provider_row_cells w kind)
widths_agree v w r kind q = agree_same (provider_count v kind q) (provider_count w kind q) _ _ (count_agrees v w r kind q) (λ n. agree_refl (answer (record { address = 0; specifier = n })))

passed_agrees : (w : World) (c d k l : Quad) → IsSeen w c d → IsSeen w k l → (mask : ℕ) → Agrees (IsSeen w) (passed_cell c k mask) (passed_cell d l mask)
passed_agrees w c d k l h i mask = none (mask == 0)
  where
    both : Agrees (IsSeen w) (figure_of c >>= λ r. figure_of k >>= λ x. answer (figure (passed r x mask))) (figure_of d >>= λ r. figure_of l >>= λ x. answer (figure (passed r x mask)))
    both =
        agree_at (IsSeen w) (figure_of c) (figure_of d) _ _ (seen_figure w c d h)
        (λ r. agree_at (IsSeen w) (figure_of k) (figure_of l) _ _ (seen_figure w k l i)
        (λ x. (figure (passed r x mask), refl, refl)))

    all : (t : Bool) → Agrees (IsSeen w) (if t then answer k else (figure_of c >>= λ r. figure_of k >>= λ x. answer (figure (passed r x mask)))) (if t then answer l else (figure_of d >>= λ r. figure_of l >>= λ x. answer (figure (passed r x mask))))
    all true = (l, refl, i)
    all false = both

    none : (t : Bool) → Agrees (IsSeen w) (if t then answer c else if mask == 0xffffffff then answer k else (figure_of c >>= λ r. figure_of k >>= λ x. answer (figure (passed r x mask)))) (if t then answer d else if mask == 0xffffffff then answer l else (figure_of d >>= λ r. figure_of l >>= λ x. answer (figure (passed r x mask))))
    none true = (d, refl, h)
    none false = all (mask == 0xffffffff)

merged_agrees : (w : World) (cs ds ks ls ms ns : List Quad) → AreSeen w cs ds → AreSeen w ks ls → AreSeen w ms ns → Agrees (AreSeen w) (merged cs ks ms) (merged ds ls ns)
merged_agrees w [] [] ks ls ms ns h i j = ([], refl, tt)
merged_agrees w [] (d ∷ ds) ks ls ms ns h i j = absurd h
merged_agrees w (c ∷ cs) [] ks ls ms ns h i j = absurd h
merged_agrees w (c ∷ cs) (d ∷ ds) [] [] ms ns h i j = (d ∷ ds, refl, h)
merged_agrees w (c ∷ cs) (d ∷ ds) [] (l ∷ ls) ms ns h i j = absurd i
merged_agrees w (c ∷ cs) (d ∷ ds) (k ∷ ks) [] ms ns h i j = absurd i
merged_agrees w (c ∷ cs) (d ∷ ds) (k ∷ ks) (l ∷ ls) [] [] h i j = (d ∷ ds, refl, h)
merged_agrees w (c ∷ cs) (d ∷ ds) (k ∷ ks) (l ∷ ls) [] (n ∷ ns) h i j = absurd j
merged_agrees w (c ∷ cs) (d ∷ ds) (k ∷ ks) (l ∷ ls) (m ∷ ms) [] h i j = absurd j
merged_agrees w (c ∷ cs) (d ∷ ds) (k ∷ ks) (l ∷ ls) (m ∷ ms) (n ∷ ns) h i j =
    agree_bind (IsSeen w) (AreSeen w) (figure_of m >>= passed_cell c k) (figure_of n >>= passed_cell d l) _ _
    (agree_at (IsSeen w) (figure_of m) (figure_of n) (passed_cell c k) (passed_cell d l) (seen_figure w m n j.0) (passed_agrees w c d k l h.0 i.0))
    (λ x y e. agree_bind (AreSeen w) (AreSeen w) (merged cs ks ms) (merged ds ls ns) _ _ (merged_agrees w cs ds ks ls ms ns h.1 i.1 j.1)
    (λ xs ys es. (y ∷ ys, refl, (e, es))))

led_by_agrees : (w : World) (s s' : Sent) → IsSentSeen w s s' → (ms ns : List Quad) → AreSeen w ms ns → (a b : MapRow) → IsRowSeen w a b → Agrees (IsSentSeen w) (led_by s ms a) (led_by s' ns b)
led_by_agrees w s s' k ms ns j a b h =
    agree_bind (AreSeen w) (IsSentSeen w) (merged a.specifier s.specifier ms) (merged b.specifier s'.specifier ns) _ _ (merged_agrees w a.specifier b.specifier s.specifier s'.specifier ms ns h.specifier k.specifier j)
    (λ x y e. (record { node = b.parent; specifier = y }, refl, record { node = h.parent; specifier = e }))

mask_agrees : (v w : World) → Refines v w → (q : Path) (name : Name) (width : ℕ) → Agrees (AreSeen w) (v.value q name >>= mask_of width) (w.value q name >>= mask_of width)
mask_agrees v w r q name width = agree_bind (IsMaybeSeen w) (AreSeen w) (v.value q name) (w.value q name) (mask_of width) (mask_of width) (r.value q name) (mask_of_agrees w width)

-- at one node, and with specifiers of one width
hop_agrees_at : (v w : World) → Refines v w → (kind : Name) (s s' : Sent) → IsSentSeen w s s' → (a b : Value) → IsValueSeen w a b → (n : ℕ)
    → Agrees (IsSentSeen w)
    (v.value s.node (mask_name kind) >>= mask_of n >>= λ mask. v.value s.node (pass_name kind) >>= mask_of n >>= λ pass. first_match v (provider_row_cells v kind) (is_ragged a) n s.specifier mask 0 a.cells >>= led_by s pass)
    (w.value s.node (mask_name kind) >>= mask_of n >>= λ mask. w.value s.node (pass_name kind) >>= mask_of n >>= λ pass. first_match w (provider_row_cells w kind) (is_ragged a) n s'.specifier mask 0 b.cells >>= led_by s' pass)
hop_agrees_at v w r kind s s' k a b h n =
    agree_bind (AreSeen w) (IsSentSeen w) (v.value s.node (mask_name kind) >>= mask_of n) (w.value s.node (mask_name kind) >>= mask_of n) _ _ (mask_agrees v w r s.node (mask_name kind) n)
    (λ ms ns j. agree_bind (AreSeen w) (IsSentSeen w) (v.value s.node (pass_name kind) >>= mask_of n) (w.value s.node (pass_name kind) >>= mask_of n) _ _ (mask_agrees v w r s.node (pass_name kind) n)
    (λ ps qs l. agree_bind (IsRowSeen w) (IsSentSeen w) (first_match v (provider_row_cells v kind) (is_ragged a) n s.specifier ms 0 a.cells) (first_match w (provider_row_cells w kind) (is_ragged a) n s'.specifier ns 0 b.cells) (led_by s ps) (led_by s' qs)
    (first_match_agrees v w r (provider_row_cells v kind) (provider_row_cells w kind) (widths_agree v w r kind) (is_ragged a) n s.specifier s'.specifier ms ns k.specifier j 0 a.cells b.cells h.cells)
    (led_by_agrees w s s' k ps qs l)))

provider_hop_agrees : (v w : World) → Refines v w → (kind : Name) (s s' : Sent) → IsSentSeen w s s' → (a b : Value) → IsValueSeen w a b → Agrees (IsSentSeen w) (provider_hop v kind s a) (provider_hop w kind s' b)
provider_hop_agrees v w r kind s s' k a b h = rw k.node (rw (seen_length w s.specifier s'.specifier k.specifier) (rw (ragged_same w a b h) (hop_agrees_at v w r kind s s' k a b h (length s.specifier))))

provided_at_agrees : (w : World) (f g : Value → Answer Route) → ((a b : Value) → IsValueSeen w a b → Agrees (Same Route) (f a) (g b)) → (hops : ℕ) (s s' : Sent) → IsSentSeen w s s' → (m m' : Option Value) → IsMaybeSeen w m m' → Agrees (Same Route) (provided_at f hops s m) (provided_at g hops s' m')
provided_at_agrees w f g h hops s s' k None (Some m') i = absurd i
provided_at_agrees w f g h hops s s' k (Some m) None i = absurd i
provided_at_agrees w f g h hops s s' k (Some m) (Some m') i = h m m' i
provided_at_agrees w f g h hops s s' k None None i =
    agree_same (as_numbers s.specifier) (as_numbers s'.specifier) _ _ (as_numbers_agree w s.specifier s'.specifier k.specifier)
    (λ ns. (record { controller = s'.node; cells = ns; hops = hops }, refl, ap (λ (q : Path). record { controller = q; cells = ns; hops = hops }) (sym k.node)))

provision_agrees : (v w : World) → Refines v w → (kind : Name) (f g : Value → Answer Route) → ((a b : Value) → IsValueSeen w a b → Agrees (Same Route) (f a) (g b)) → (hops : ℕ) (s s' : Sent) → IsSentSeen w s s' → Agrees (Same Route) (provision v kind f hops s) (provision w kind g hops s')
provision_agrees v w r kind f g h hops s s' k =
    subst (λ (q : Path). Agrees (Same Route) (provision v kind f hops s) (w.value q (map_name kind) >>= provided_at g hops s')) (sym k.node)
    (agree_bind (IsMaybeSeen w) (Same Route) (v.value s.node (map_name kind)) (w.value s.node (map_name kind)) _ _ (r.value s.node (map_name kind)) (provided_at_agrees w f g h hops s s' k))

provided_agrees : (v w : World) → Refines v w → (kind : Name) (left hops : ℕ) (s s' : Sent) → IsSentSeen w s s' → Agrees (Same Route) (provided v kind left hops s) (provided w kind left hops s')
unfolding provided
provided_agrees v w r kind zero hops s s' k = provision_agrees v w r kind (λ a. refuse Loop) (λ b. refuse Loop) (λ a b h. refl) hops s s' k
provided_agrees v w r kind (suc left) hops s s' k =
    provision_agrees v w r kind (λ a. provider_hop v kind s a >>= provided v kind left (hops + 1)) (λ b. provider_hop w kind s' b >>= provided w kind left (hops + 1))
    (λ a b h. agree_bind (IsSentSeen w) (Same Route) (provider_hop v kind s a) (provider_hop w kind s' b) (provided v kind left (hops + 1)) (provided w kind left (hops + 1)) (provider_hop_agrees v w r kind s s' k a b h) (provided_agrees v w r kind left (hops + 1)))
    hops s s' k

-- what a world determines of a specifier's route is so in each world that refines it
pub specifier_route_agrees : (v w : World) → Refines v w → (p : Path) (property kind : Name) (index : ℕ) → Agrees (Same Route) (specifier_route v p property kind index) (specifier_route w p property kind index)
specifier_route_agrees v w r p property kind index =
    agree_bind (IsSentSeen w) (Same Route) (v.value p property >>= provider_of v kind index) (w.value p property >>= provider_of w kind index) (provided v kind most_hops 0) (provided w kind most_hops 0)
    (agree_bind (IsMaybeSeen w) (IsSentSeen w) (v.value p property) (w.value p property) (provider_of v kind index) (provider_of w kind index) (r.value p property) (provider_agrees v w r kind index))
    (provided_agrees v w r kind most_hops 0)

provider_at_agrees : (v w : World) → Refines v w → (kind : Name) (at : ℕ) (a b : Option Value) → IsMaybeSeen w a b → Agrees (IsSentSeen w) (provider_at v kind at a) (provider_at w kind at b)
provider_at_agrees v w r kind at None None h = refl
provider_at_agrees v w r kind at None (Some b) h = absurd h
provider_at_agrees v w r kind at (Some a) None h = absurd h
provider_at_agrees v w r kind at (Some a) (Some b) h = sent_at_agrees v w r (provider_count v kind) (provider_count w kind) (count_agrees v w r kind) at a b h

-- the same of the specifier that begins at a byte
pub specifier_at_agrees : (v w : World) → Refines v w → (p : Path) (property kind : Name) (at : ℕ) → Agrees (Same Route) (specifier_at v p property kind at) (specifier_at w p property kind at)
specifier_at_agrees v w r p property kind at =
    agree_bind (IsSentSeen w) (Same Route) (v.value p property >>= provider_at v kind at) (w.value p property >>= provider_at w kind at) (provided v kind most_hops 0) (provided w kind most_hops 0)
    (agree_bind (IsMaybeSeen w) (IsSentSeen w) (v.value p property) (w.value p property) (provider_at v kind at) (provider_at w kind at) (r.value p property) (provider_at_agrees v w r kind at))
    (provided_agrees v w r kind most_hops 0)
