-- What a table of texts stands for, after one more text.
use Rattle.std.proofs.Common.{◌≡◌, ℕ, zero, suc, ◌+◌, Bool, true, false, cond, not, List, [], ◌∷◌, ◌++◌, length, slice_get, option_map, refl, Some, None, Result, Ok, Err, OnOk, is_ok, if◌then◌else◌, sym, ap, ◌∙◌, arith}
use Rattle.std.specs.Global.{Vec}
use Rattle.std.specs.List.{position_or_len}
use Rattle.std.specs.Map.{lookup, keys_of}
use Rattle.std.specs.Str.{bytes_eq}
use Rattle.indexmap.specs.IndexMap.{insert_entry, set_value_at}
use Rattle.dt_model.specs.Tree.{Property}
use Rattle.dt_marks.specs.Waiting.{properties_kept, with_text}

pub length-kept : (es : List (Vec ℕ × Vec ℕ)) → length (properties_kept es) ≡ length es
length-kept [] = refl
length-kept (e ∷ es) = ap suc (length-kept es)

pub at-kept : (es : List (Vec ℕ × Vec ℕ)) (i : ℕ) → slice_get (properties_kept es) i ≡ option_map (λ e. record { name = e.0.items; value = e.1.items }) (slice_get es i)
at-kept [] i = refl
at-kept (e ∷ es) zero = refl
at-kept (e ∷ es) (suc i) = at-kept es i

-- it goes behind those of its label
pub text_behind_others : (es : List (Vec ℕ × Vec ℕ)) (i : ℕ) (k w v : Vec ℕ) (label text : List ℕ) → position_or_len (λ (x : Vec ℕ). bytes_eq label x.items) (keys_of es) ≡ i
    → slice_get es i ≡ Some (k, w) → v.items ≡ w.items ++ text → properties_kept (set_value_at es i v) ≡ with_text (properties_kept es) label text
text_behind_others [] i k w v label text first at is = absurd cc
text_behind_others (e ∷ es) i k w v label text first at is = by (bytes_eq label e.0.items) i first at (λ j. text_behind_others es j k w v label text)
  where
    by : (b : Bool) (i : ℕ) → cond (not b) (1 + position_or_len (λ (x : Vec ℕ). bytes_eq label x.items) (keys_of es)) 0 ≡ i → slice_get (e ∷ es) i ≡ Some (k, w)
        → ((j : ℕ) → position_or_len (λ (x : Vec ℕ). bytes_eq label x.items) (keys_of es) ≡ j → slice_get es j ≡ Some (k, w) → v.items ≡ w.items ++ text
        → properties_kept (set_value_at es j v) ≡ with_text (properties_kept es) label text)
        → properties_kept (set_value_at (e ∷ es) i v)
        ≡ cond b (record { name = e.0.items; value = e.1.items ++ text } ∷ properties_kept es) (record { name = e.0.items; value = e.1.items } ∷ with_text (properties_kept es) label text)
    by true zero first at more =
        let own : e.1 ≡ w = cc in
        ap (λ (t : List ℕ). record { name = e.0.items; value = t } ∷ properties_kept es) (is ∙ ap (λ (x : Vec ℕ). x.items ++ text) (sym own))
    by true (suc i) first at more = absurd (omega arith)
    by false zero first at more = absurd (omega arith)
    by false (suc i) first at more = ap (λ (ps : List Property). record { name = e.0.items; value = e.1.items } ∷ ps) (more i (omega arith) at is)

-- a label that isn't there goes last
pub text_of_new : (es : List (Vec ℕ × Vec ℕ)) (k v : Vec ℕ) (label text : List ℕ) → lookup (λ (x : Vec ℕ). bytes_eq label x.items) es ≡ None → k.items ≡ label → v.items ≡ text
    → properties_kept (insert_entry (λ x y. bytes_eq x.items y.items) es k v) ≡ with_text (properties_kept es) label text
text_of_new [] k v label text none named is = λ i. record { name = named i; value = is i } ∷ []
text_of_new (e ∷ es) k v label text none named is =
    ap (λ (l : List ℕ). properties_kept (cond (bytes_eq l e.0.items) ((e.0, v) ∷ es) (e ∷ insert_entry (λ x y. bytes_eq x.items y.items) es k v))) named
    ∙ by (bytes_eq label e.0.items) none (λ rest. text_of_new es k v label text rest named is)
  where
    by : (b : Bool) → cond b (Some e.1) (lookup (λ (x : Vec ℕ). bytes_eq label x.items) es) ≡ None
        → (lookup (λ (x : Vec ℕ). bytes_eq label x.items) es ≡ None → properties_kept (insert_entry (λ x y. bytes_eq x.items y.items) es k v) ≡ with_text (properties_kept es) label text)
        → properties_kept (cond b ((e.0, v) ∷ es) (e ∷ insert_entry (λ x y. bytes_eq x.items y.items) es k v))
        ≡ cond b (record { name = e.0.items; value = e.1.items ++ text } ∷ properties_kept es) (record { name = e.0.items; value = e.1.items } ∷ with_text (properties_kept es) label text)
    by true none more = absurd cc
    by false none more = ap (λ (ps : List Property). record { name = e.0.items; value = e.1.items } ∷ ps) (more none)

-- what a call writes where it goes well
pub where_ok : {T E X : Type 0} (r : Result T E) (x a b : X) → x ≡ (if is_ok r then a else b) → OnOk r (x ≡ a)
where_ok (Ok t) x a b e = e
where_ok (Err d) x a b e = tt
