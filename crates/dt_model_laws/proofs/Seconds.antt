-- Which property and which child is a second one in its body.
use Rattle.std.proofs.Common.{◌≡◌, Bool, true, false, cond, nat_le, length, List, [], ◌∷◌, inl, inr, Result, Ok, Err, refl, sym, ap, ◌∙◌}
use Rattle.dt_model.specs.Names.{Name}
use Rattle.dt_model.specs.Source.{Part, Mode, Refusal, duplicate_property, duplicate_node, reserved_name, too_deep, Body, SoFar, is_reserved, is_among, inside, define, open_child}
use Rattle.dt_model_laws.specs.Bodies.{SecondProperty, SecondChild}
use Rattle.dt_model_laws.proofs.OwnPlaces.{after, property_found, property_there, child_found, child_there}
use Rattle.dt_model_laws.proofs.InnerReads.{innermost, some_innermost}

abbrev no_names : Body
no_names = record { properties = []; children = [] }

refused_property : (s : SoFar) (n : Name) (v : List Part) (bodies : List Body) → inside bodies (define s n v) ≡ Err duplicate_property → (b : Body) × (bs : List Body) × (bodies ≡ b ∷ bs) × (is_among n b.properties ≡ true)
refused_property s n v [] h = cc
refused_property s n v (b ∷ bs) h = (b, bs, refl, refused (is_among n b.properties) _ h)
  where
    refused : (t : Bool) (x : SoFar) → cond t (Err duplicate_property) (Ok x) ≡ Err duplicate_property → t ≡ true
    refused true x e = refl
    refused false x e = cc

refused_child : (mode : Mode) (s : SoFar) (n : Name) (bodies : List Body) → inside bodies (open_child mode s n) ≡ Err duplicate_node → (b : Body) × (bs : List Body) × (bodies ≡ b ∷ bs) × (is_among n b.children ≡ true)
refused_child mode s n [] h = cc
refused_child mode s n (b ∷ bs) h = (b, bs, refl, refused (is_reserved mode s.node n) (is_among n b.children) (nat_le 64 (length s.node)) _ h)
  where
    refused : (r t d : Bool) (x : SoFar) → cond r (Err reserved_name) (cond t (Err duplicate_node) (cond d (Err too_deep) (Ok x))) ≡ Err duplicate_node → t ≡ true
    refused true t d x e = cc
    refused false true d x e = refl
    refused false false true x e = cc
    refused false false false x e = cc

met : (t : Bool) (e : Refusal) (x : Result SoFar Refusal) → t ≡ true → cond t (Err e) x ≡ Err e
met true e x h = refl
met false e x h = cc

missed : (t : Bool) (e d : Refusal) (x : Result SoFar Refusal) → t ≡ false → x ≡ Err d → cond t (Err e) x ≡ Err d
missed true e d x h k = cc
missed false e d x h k = k

property_refused : (s : SoFar) (n : Name) (v : List Part) (b : Body) (bs : List Body) → is_among n b.properties ≡ true → inside (b ∷ bs) (define s n v) ≡ Err duplicate_property
property_refused s n v b bs h = met (is_among n b.properties) duplicate_property _ h

child_refused : (mode : Mode) (s : SoFar) (n : Name) (b : Body) (bs : List Body) → is_reserved mode s.node n ≡ false → is_among n b.children ≡ true
    → inside (b ∷ bs) (open_child mode s n) ≡ Err duplicate_node
child_refused mode s n b bs free h = missed (is_reserved mode s.node n) reserved_name duplicate_node _ free (met (is_among n b.children) duplicate_node _ h)

pub second_property : SecondProperty
second_property mode places s e n v = (
  λ h.
      let r = refused_property s n v s.bodies h in
      let some = some_innermost mode places s r.0 r.1 e r.2 in
      let i = innermost mode places some.0 s e some.1 in
      let same : r.0 ≡ after no_names some.0 = let z : r.0 ∷ r.1 ≡ after no_names some.0 ∷ i.0 = sym r.2 ∙ i.1 in cc in
      let among : is_among n (after no_names some.0).properties ≡ true = ap (λ (b : Body). is_among n b.properties) (sym same) ∙ r.3 in
      (some.0, some.1, elim (property_found n some.0 no_names among) [ inl z ↦ cc | inr w ↦ w ]),
  λ h.
      let i = innermost mode places h.0 s e h.1 in
      ap (λ bs. inside bs (define s n v)) i.1 ∙ property_refused s n v (after no_names h.0) i.0 (property_there n h.2.0 h.0 no_names h.2.1),
)

pub second_child : SecondChild
second_child mode places s e n = (
  λ h.
      let r = refused_child mode s n s.bodies h in
      let some = some_innermost mode places s r.0 r.1 e r.2 in
      let i = innermost mode places some.0 s e some.1 in
      let same : r.0 ≡ after no_names some.0 = let z : r.0 ∷ r.1 ≡ after no_names some.0 ∷ i.0 = sym r.2 ∙ i.1 in cc in
      let among : is_among n (after no_names some.0).children ≡ true = ap (λ (b : Body). is_among n b.children) (sym same) ∙ r.3 in
      (some.0, some.1, elim (child_found n some.0 no_names among) [ inl z ↦ cc | inr w ↦ w ]),
  λ h.
      let i = innermost mode places h.0 s e h.1 in
      ap (λ bs. inside bs (open_child mode s n)) i.1 ∙ child_refused mode s n (after no_names h.0) i.0 (i.2 n h.2) (child_there n h.0 no_names h.2),
)
