use Rattle.std.proofs.Common.{rules, ◌≡◌, ◌⊎◌, ◌∷◌, [], ◌∙◌, ◌<◌, inl, inr, ℕ, List, Option, Some, None, Result, MatchOption, length, sym, ap, subst, codes, IfErr, IfOk}
use Rattle.std.proofs.lemmas.Result.{IfErr-weaker}
use Rattle.dt_model.specs.Limits.{most_names}
use Rattle.dt_model.specs.Meaning.{cell}
use Rattle.std.specs.Option.{ok_or}
use Rattle.dt_model.specs.Names.{Name}
use Rattle.dt_model.specs.Path.{Path}
use Rattle.dt_model.specs.Tree.{Reading, value_in}
use Rattle.dt_model.specs.Valid.{IsValid, IsPhandle}
use Rattle.dt_overlay_laws.specs.Objects.{SymbolHasNumber}
use Rattle.dt_names.specs.declared.fault.Fault.{Fault}
use Rattle.dt_names.specs.declared.fault.FaultKind.{FaultKind}
use Rattle.dt_names.specs.declared.fault.FaultKind.TheVariants.{NoMemory, BadSymbol}
use Rattle.dt_overlay_texts.specs.Texts.{IsPathValue}
use Rattle.dt_overlay_laws.proofs.PlainSymbols.{phandle_there}
use Rattle.dt_overlay_read.specs.Fixups.{WhyNoNumber}
use Rattle.dt_overlay_read.proofs.FixupsNumbers.{label_there, too_long, no_phandle, has_number}
use Rattle.dt_overlay_read.proofs.fixups.number_of.Goals as goal

-- the value of the label
label_at : (t : Reading) (symbols : Path) (l : Name) (value : List ℕ) → symbols ≡ codes "__symbols__" ∷ [] → Some value ≡ value_in t symbols l → value_in t (codes "__symbols__" ∷ []) l ≡ Some value
label_at t symbols l value at e = sym (e ∙ ap (λ (p : Path). value_in t p l) at)

-- that of the phandle
phandle_at : (t : Reading) (path : Path) (name : Name) (o : Option (List ℕ)) → name ≡ codes "phandle" → o ≡ value_in t path name → value_in t path (codes "phandle") ≡ o
phandle_at t path name o at e = sym (e ∙ ap (value_in t path) at)

pub returns-in_err-path-clause-refused : goal.returns-in_err-path-clause-refused
returns-in_err-path-clause-refused g c =
    let t = g.T.Target.reading c.args.target.now in
    let l = c.args.label.now in
    let value = c.in-Some.value.now in
    let there = label_at t c.path.result.now l value c.path.ensures c.in-Some.ensures in
    let told : IfErr c.from_residual.result (λ (fault : Fault). (fault.at ≡ None) × ((fault.kind ≡ NoMemory) ⊎ ((fault.kind ≡ BadSymbol) × ((path : Path) → IsPathValue value path → most_names < length path)))) = search rules in
    IfErr-weaker c.from_residual.result (λ (fault : Fault). (fault.at ≡ None) × ((fault.kind ≡ NoMemory) ⊎ ((fault.kind ≡ BadSymbol) × ((path : Path) → IsPathValue value path → most_names < length path))))
    (λ (fault : Fault). (fault.at ≡ None) × WhyNoNumber fault.kind t l)
    (λ fault why. (
      why.0,
      elim why.1 [
        | inl memory ↦ subst (λ (k : FaultKind). WhyNoNumber k t l) (sym memory) tt
        | inr bad ↦ subst (λ (k : FaultKind). WhyNoNumber k t l) (sym bad.0) (label_there t l value c.validity.ensures.valid there, too_long t l value c.validity.ensures.valid there c.validity.ensures.within bad.1)
      ],
    )) told

-- the phandle's number is the label's
found_number : (t : Reading) (l : Name) (value : List ℕ) (path : Path) (v : List ℕ) → IsValid t → value_in t (codes "__symbols__" ∷ []) l ≡ Some value → IsPathValue value path
    → value_in t path (codes "phandle") ≡ Some v → (o : Option ℕ) (fault : Fault) → MatchOption o (¬ IsPhandle v) (λ n. v ≡ cell n) → IfOk (ok_or o fault) (SymbolHasNumber t l)
found_number t l value path v valid there is at None fault m = tt
found_number t l value path v valid there is at (Some n) fault m = has_number t l value valid there path n is (at ∙ ap Some m)

-- each phandle is a number
always_number : (t : Reading) (l : Name) (path : Path) (v : List ℕ) → IsValid t
    → value_in t path (codes "phandle") ≡ Some v → (o : Option ℕ) (fault : Fault) → MatchOption o (¬ IsPhandle v) (λ n. v ≡ cell n) → IfErr (ok_or o fault) (λ (f : Fault). (f.at ≡ None) × WhyNoNumber f.kind t l)
always_number t l path v valid at None fault m = absurd (m (phandle_there t path v valid at))
always_number t l path v valid at (Some n) fault m = tt

pub returns-in-Some-prop-clause-number : goal.returns-in-Some-prop-clause-number
returns-in-Some-prop-clause-number g c =
    let t = g.T.Target.reading c.args.target.now in
    let l = c.args.label.now in
    let value = c.in-Some.value.now in
    let path = c.in_ok-path.path in
    let v = c.in-Some-prop.value.now in
    let there = label_at t c.path.result.now l value c.path.ensures c.in-Some.ensures in
    let at = phandle_at t path c.as_slice.result.now (Some v) c.as_slice.ensures c.in-Some-prop.ensures in
    subst (λ (r : Result ℕ Fault). IfOk r (SymbolHasNumber t l)) (sym c.ok_or.ensures.value)
    (found_number t l value path v c.validity.ensures.valid there c.in_ok-path.ensures.value at c.cell_number.result c.of-in-Some-prop.result c.cell_number.ensures)

pub returns-in-Some-prop-clause-refused : goal.returns-in-Some-prop-clause-refused
returns-in-Some-prop-clause-refused g c =
    let t = g.T.Target.reading c.args.target.now in
    let l = c.args.label.now in
    let path = c.in_ok-path.path in
    let v = c.in-Some-prop.value.now in
    let at = phandle_at t path c.as_slice.result.now (Some v) c.as_slice.ensures c.in-Some-prop.ensures in
    subst (λ (r : Result ℕ Fault). IfErr r (λ (f : Fault). (f.at ≡ None) × WhyNoNumber f.kind t l)) (sym c.ok_or.ensures.value)
    (always_number t l path v c.validity.ensures.valid at c.cell_number.result c.of-in-Some-prop.result c.cell_number.ensures)

pub returns-clause-refused : goal.returns-clause-refused
returns-clause-refused g c =
    let t = g.T.Target.reading c.args.target.now in
    let l = c.args.label.now in
    let value = c.in-Some.value.now in
    let path = c.in_ok-path.path in
    let there = label_at t c.path.result.now l value c.path.ensures c.in-Some.ensures in
    let none = phandle_at t path c.as_slice.result.now None c.as_slice.ensures c.in-None.ensures in (
      c.of-in-None.ensures.at,
      subst (λ (k : FaultKind). WhyNoNumber k t l) (sym c.of-in-None.ensures.kind)
          (label_there t l value c.validity.ensures.valid there, no_phandle t l value c.validity.ensures.valid there path c.in_ok-path.ensures.value none),
    )
