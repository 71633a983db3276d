-- Applying the objects of inputs one after another has one outcome, or is refused at one input for one fault, and not both.
use Rattle.std.proofs.Common.{◌≡◌, ◌≢◌, ◌⊎◌, inl, inr, ℕ, ◌<◌, ◌≤◌, suc, List, [], ◌∷◌, ◌++◌, length, refl, sym, ap, subst, ◌∙◌, arith}
use Rattle.dt_model.specs.Limits.{most_bytes}
use Rattle.dt_model.specs.Tree.{Reading}
use Rattle.dt_model.specs.Valid.{IsValid, IsWithinLimits}
use Rattle.dt_names.specs.declared.fault.Fault.{Fault}
use Rattle.dt_names.specs.declared.fault.FaultKind.{FaultKind}
use Rattle.dt_names.specs.declared.fault.FaultKind.TheVariants.{NoMemory, Limit}
use Rattle.dt_overlay_model.specs.InTurn.{IsApplied, AppliedIsOne}
use Rattle.dt_overlay_laws.specs.Outcomes.{AppliedIsNotRefused, LimitIsExceeded, OneRefusal}
use Rattle.dt_overlay_laws.specs.Refusals.{has_many, WhyNotApplied}
use Rattle.dt_write.specs.Written.{written}
use Rattle.dt_names.specs.Fault.{placeless}
use Rattle.dt_chain_promises.specs.Apply as inputs
use Rattle.dt_chain_promises.specs.Apply.{IsStep, AreSteps, IsOutcome, IsBlobOfAll, WhyNoStep, IsStopped, WhyNoneOfAll}

-- a tree to which objects may be applied
pub record IsFine (t : Reading) : Type 0 where
  pub valid : IsValid t
  pub within : IsWithinLimits t

-- ---- of inputs

-- an input has one tree
abbrev pub HasOne : (List ℕ → Reading → Type 0) → Type 0
HasOne has = (input : List ℕ) (t u : Reading) → has input t → has input u → t ≡ u

-- which may be applied, or have objects applied to it
abbrev pub HasFine : (List ℕ → Reading → Type 0) → Type 0
HasFine has = (input : List ℕ) (t : Reading) → has input t → IsFine t

-- and isn't refused, unless memory is wanted
abbrev pub HasOrLacks : (List ℕ → Reading → Type 0) → (List ℕ → Fault → Type 0) → Type 0
HasOrLacks has lacks = (input : List ℕ) (t : Reading) (e : Fault) → has input t → lacks input e → e.kind ≡ NoMemory

-- one that has none is refused for one fault, unless memory is wanted
abbrev pub LacksOnce : (List ℕ → Fault → Type 0) → Type 0
LacksOnce lacks = (input : List ℕ) (e f : Fault) → lacks input e → lacks input f → e.kind ≢ NoMemory → f.kind ≢ NoMemory → e ≡ f

-- ---- why an object isn't applied

abbrev Sorted : FaultKind → Reading → Reading → Type 0
Sorted kind t object = (kind ≡ NoMemory) ⊎ ((kind ≡ Limit) × WhyNotApplied has_many Limit t object) ⊎ ((kind ≢ NoMemory) × (kind ≢ Limit))

sorted : (kind : FaultKind) (t object : Reading) → WhyNotApplied has_many kind t object → Sorted kind t object
sorted NoMemory t object why = inl refl
sorted Limit t object why = inr (inl (refl, why))
sorted _ t object why = inr (inr ((λ e. cc), (λ e. cc)))

-- one that is applied isn't refused, unless memory is wanted
pub applied_not_refused : AppliedIsNotRefused → LimitIsExceeded → (t object next : Reading) (kind : FaultKind)
    → IsFine t → IsValid object → IsStep t object next → WhyNotApplied has_many kind t object → kind ≡ NoMemory
applied_not_refused not limit t object next kind fine valid step why = elim (sorted kind t object why) [
  | inl e ↦ e
  | inr (inl e) ↦ absurd (limit t object next fine.valid valid step.applied e.1 step.within)
  | inr (inr e) ↦ absurd (not t object next kind valid step.applied step.well why e.0 e.1)
]

-- ---- lists

pub same_head : {X : Type 0} (x y : X) (xs ys : List X) → x ∷ xs ≡ y ∷ ys → x ≡ y
same_head x y xs ys e = cc

pub same_tail : {X : Type 0} (x y : X) (xs ys : List X) → x ∷ xs ≡ y ∷ ys → xs ≡ ys
same_tail x y xs ys e = cc

-- ---- one outcome

module _ (has_base has_object : List ℕ → Reading → Type 0) where
  module _ (base_one : HasOne has_base) (object_one : HasOne has_object) (one : AppliedIsOne) where
    -- a step is made to one tree
    step_once : (t object next object' next' : Reading) (x : List ℕ) → has_object x object → IsStep t object next → has_object x object' → IsStep t object' next' → next ≡ next'
    step_once t object next object' next' x h s h' s' =
        let same : object ≡ object' = object_one x object object' h h' in
        one t object' next next' (subst (λ (o : Reading). IsApplied t o next) same s.applied) s'.applied

    pub steps_once : (t : Reading) (xs : List (List ℕ)) (a b : Reading) → AreSteps has_object t xs a → AreSteps has_object t xs b → a ≡ b
    steps_once t [] a b h k = h ∙ sym k
    steps_once t (x ∷ xs) a b h k =
        let same : h.1 ≡ k.1 = step_once t h.0 h.1 k.0 k.1 x h.2 h.3 k.2 k.3 in
        steps_once k.1 xs a b (subst (λ (u : Reading). AreSteps has_object u xs a) same h.4) k.4

    pub outcome_once : (base : List ℕ) (xs : List (List ℕ)) (a b : Reading) → IsOutcome has_base has_object base xs a → IsOutcome has_base has_object base xs b → a ≡ b
    outcome_once base xs a b h k =
        let same : h.tree ≡ k.tree = base_one base h.tree k.tree h.of_base k.of_base in
        steps_once k.tree xs a b (subst (λ (u : Reading). AreSteps has_object u xs a) same h.steps) k.steps

    pub blob_once : (base : List ℕ) (xs : List (List ℕ)) (blob other : List ℕ) → IsBlobOfAll has_base has_object base xs blob → IsBlobOfAll has_base has_object base xs other → blob ≡ other
    blob_once base xs blob other h k = h.is ∙ ap written (outcome_once base xs h.result k.result h.outcome k.outcome) ∙ sym k.is

  -- ---- what comes of steps may take objects

  pub steps_fine : (t : Reading) (xs : List (List ℕ)) (result : Reading) → IsFine t → AreSteps has_object t xs result → IsFine result
  steps_fine t [] result fine h = subst IsFine (sym h) fine
  steps_fine t (x ∷ xs) result fine h = steps_fine h.1 xs result (record { valid = h.3.valid; within = h.3.within }) h.4

  -- ---- answered, or refused

  -- the object of an input is applied to a tree
  pub record IsTaken (t : Reading) (x : List ℕ) : Type 0 where
    pub object : Reading
    pub next : Reading
    pub of_input : has_object x object
    pub step : IsStep t object next

  -- steps through a list pass each of its inputs
  record Passes (t : Reading) (front : List (List ℕ)) (x : List ℕ) : Type 0 where
    before : Reading
    steps : AreSteps has_object t front before
    taken : IsTaken before x

  passes : (t : Reading) (front back : List (List ℕ)) (x : List ℕ) (result : Reading) → AreSteps has_object t (front ++ x ∷ back) result → Passes t front x
  passes t [] back x result h = record { before = t; steps = refl; taken = record { object = h.0; next = h.1; of_input = h.2; step = h.3 } }
  passes t (y ∷ front) back x result h =
      let p = passes h.1 front back x result h.4 in
      record { before = p.before; steps = (h.0, h.1, h.2, h.3, p.steps); taken = p.taken }

  module _ (lacks_base lacks_object : List ℕ → Fault → Type 0)
      (base_one : HasOne has_base) (object_one : HasOne has_object) (one : AppliedIsOne)
      (base_fine : HasFine has_base) (object_fine : HasFine has_object)
      (base_not : HasOrLacks has_base lacks_base) (object_not : HasOrLacks has_object lacks_object)
      (not : AppliedIsNotRefused) (limit : LimitIsExceeded) where
    -- an input whose object is applied isn't refused
    pub taken_not_refused : (t : Reading) (x : List ℕ) (e : Fault) → IsFine t → IsTaken t x → WhyNoStep has_object lacks_object t x e → e.kind ≡ NoMemory
    taken_not_refused t x _ fine taken inputs.no_memory = refl
    taken_not_refused t x _ fine taken (inputs.no_object e why) = object_not x taken.object e taken.of_input why
    taken_not_refused t x _ fine taken (inputs.not_applied object kind h why) =
        let same : object ≡ taken.object = object_one x object taken.object h taken.of_input in
        applied_not_refused not limit t taken.object taken.next kind fine (object_fine x taken.object taken.of_input).valid taken.step
        (subst (λ (o : Reading). WhyNotApplied has_many kind t o) same why)

    -- nor are inputs of which all are applied
    steps_not_stopped : (t : Reading) (xs : List (List ℕ)) (result : Reading) (k : ℕ) (e : Fault) → IsFine t
        → AreSteps has_object t xs result → IsStopped has_object lacks_object t xs k e → e.kind ≡ NoMemory
    steps_not_stopped t xs result k e fine h stop =
        let p = passes t stop.front stop.back stop.input result (subst (λ (ys : List (List ℕ)). AreSteps has_object t ys result) stop.are h) in
        let same : stop.before ≡ p.before = steps_once base_one object_one one t stop.front stop.before p.before stop.steps p.steps in
        taken_not_refused p.before stop.input e (steps_fine t stop.front p.before fine p.steps) p.taken
        (subst (λ (u : Reading). WhyNoStep has_object lacks_object u stop.input e) same stop.why)

    pub blob_not_refused : (base : List ℕ) (xs : List (List ℕ)) (blob : List ℕ) (k : ℕ) (e : Fault)
        → IsBlobOfAll has_base has_object base xs blob → WhyNoneOfAll has_base has_object lacks_base lacks_object base xs k e → e.kind ≡ NoMemory
    blob_not_refused base xs blob k _ h (inputs.no_memory _ few) = refl
    blob_not_refused base xs blob _ e h (inputs.no_base _ why) = base_not base h.outcome.tree e h.outcome.of_base why
    blob_not_refused base xs blob k e h (inputs.stopped t _ _ of_base stop) =
        let same : h.outcome.tree ≡ t = base_one base h.outcome.tree t h.outcome.of_base of_base in
        steps_not_stopped t xs h.result k e (base_fine base t of_base) (subst (λ (u : Reading). AreSteps has_object u xs h.result) same h.outcome.steps) stop
    blob_not_refused base xs blob _ _ h (inputs.big t outcome more) =
        let same : t ≡ h.result = outcome_once base_one object_one one base xs t h.result outcome h.outcome in
        let less : length (written h.result) ≤ most_bytes = subst (λ (b : List ℕ). length b ≤ most_bytes) h.is h.size in
        let more' : most_bytes < length (written h.result) = subst (λ (u : Reading). most_bytes < length (written u)) same more in
        absurd (omega (arith, less, more'))

    -- ---- one refusal

    module _ (base_refused_once : LacksOnce lacks_base) (object_refused_once : LacksOnce lacks_object) (refusal : OneRefusal) where
      -- an input is refused for one fault
      step_refused_once : (t : Reading) (x : List ℕ) (e f : Fault) → WhyNoStep has_object lacks_object t x e → WhyNoStep has_object lacks_object t x f
          → e.kind ≢ NoMemory → f.kind ≢ NoMemory → e ≡ f
      step_refused_once t x _ f inputs.no_memory also wanted wanted' = absurd (wanted refl)
      step_refused_once t x _ f (inputs.no_object e why) also wanted wanted' = step f also wanted'
        where
          step : (f : Fault) → WhyNoStep has_object lacks_object t x f → f.kind ≢ NoMemory → e ≡ f
          step _ inputs.no_memory w = absurd (w refl)
          step _ (inputs.no_object g other) w = object_refused_once x e g why other wanted w
          step _ (inputs.not_applied object kind h other) w = absurd (wanted (object_not x object e h why))
      step_refused_once t x _ f (inputs.not_applied object kind h why) also wanted wanted' = step f also wanted'
        where
          step : (f : Fault) → WhyNoStep has_object lacks_object t x f → f.kind ≢ NoMemory → placeless kind ≡ f
          step _ inputs.no_memory w = absurd (w refl)
          step _ (inputs.no_object g other) w = absurd (w (object_not x object g h other))
          step _ (inputs.not_applied object' kind' h' other) w =
              let same : object' ≡ object = object_one x object' object h' h in
              ap placeless (refusal t object kind kind' (object_fine x object h).valid why (subst (λ (o : Reading). WhyNotApplied has_many kind' t o) same other) wanted w)

      -- of two refusals after the first inputs neither comes first
      stops_once : (t : Reading) (front front' back back' : List (List ℕ)) (x x' : List ℕ) (before before' : Reading) (e f : Fault)
          → IsFine t → front ++ x ∷ back ≡ front' ++ x' ∷ back'
          → AreSteps has_object t front before → WhyNoStep has_object lacks_object before x e
          → AreSteps has_object t front' before' → WhyNoStep has_object lacks_object before' x' f
          → e.kind ≢ NoMemory → f.kind ≢ NoMemory → (length front ≡ length front') × (e ≡ f)
      stops_once t [] [] back back' x x' before before' e f fine split h why h' why' wanted wanted' =
          let same : x ≡ x' = same_head x x' back back' split in
          let first : WhyNoStep has_object lacks_object t x' e = subst (λ (u : Reading). WhyNoStep has_object lacks_object u x' e) h (subst (λ (y : List ℕ). WhyNoStep has_object lacks_object before y e) same why) in
          let second : WhyNoStep has_object lacks_object t x' f = subst (λ (u : Reading). WhyNoStep has_object lacks_object u x' f) h' why' in
          (refl, step_refused_once t x' e f first second wanted wanted')
      stops_once t [] (y ∷ front') back back' x x' before before' e f fine split h why h' why' wanted wanted' =
          let same : x ≡ y = same_head x y back (front' ++ x' ∷ back') split in
          let first : WhyNoStep has_object lacks_object t y e = subst (λ (u : Reading). WhyNoStep has_object lacks_object u y e) h (subst (λ (z : List ℕ). WhyNoStep has_object lacks_object before z e) same why) in
          absurd (wanted (taken_not_refused t y e fine (record { object = h'.0; next = h'.1; of_input = h'.2; step = h'.3 }) first))
      stops_once t (y ∷ front) [] back back' x x' before before' e f fine split h why h' why' wanted wanted' =
          let same : x' ≡ y = sym (same_head y x' (front ++ x ∷ back) back' split) in
          let second : WhyNoStep has_object lacks_object t y f = subst (λ (u : Reading). WhyNoStep has_object lacks_object u y f) h' (subst (λ (z : List ℕ). WhyNoStep has_object lacks_object before' z f) same why') in
          absurd (wanted' (taken_not_refused t y f fine (record { object = h.0; next = h.1; of_input = h.2; step = h.3 }) second))
      stops_once t (y ∷ front) (y' ∷ front') back back' x x' before before' e f fine split h why h' why' wanted wanted' =
          let same : y' ≡ y = sym (same_head y y' (front ++ x ∷ back) (front' ++ x' ∷ back') split) in
          let next : h'.1 ≡ h.1 = step_once base_one object_one one t h'.0 h'.1 h.0 h.1 y (subst (λ (z : List ℕ). has_object z h'.0) same h'.2) h'.3 h.2 h.3 in
          let w = stops_once h.1 front front' back back' x x' before before' e f (record { valid = h.3.valid; within = h.3.within })
          (same_tail y y' (front ++ x ∷ back) (front' ++ x' ∷ back') split) h.4 why
          (subst (λ (u : Reading). AreSteps has_object u front' before') next h'.4) why' wanted wanted' in
          (ap suc w.0, w.1)

      -- an input that is refused is before the end
      not_at_the_end : (base : List ℕ) (xs : List (List ℕ)) (t u : Reading) (k : ℕ) (e : Fault)
          → has_base base t → IsStopped has_object lacks_object t xs k e → IsOutcome has_base has_object base xs u → e.kind ≡ NoMemory
      not_at_the_end base xs t u k e of_base stop outcome =
          let same : outcome.tree ≡ t = base_one base outcome.tree t outcome.of_base of_base in
          steps_not_stopped t xs u k e (base_fine base t of_base) (subst (λ (v : Reading). AreSteps has_object v xs u) same outcome.steps) stop

      pub refused_once : (base : List ℕ) (xs : List (List ℕ)) (k j : ℕ) (e f : Fault)
          → WhyNoneOfAll has_base has_object lacks_base lacks_object base xs k e → WhyNoneOfAll has_base has_object lacks_base lacks_object base xs j f
          → e.kind ≢ NoMemory → f.kind ≢ NoMemory → (k ≡ j) × (e ≡ f)
      refused_once base xs k j _ f (inputs.no_memory _ few) also wanted wanted' = absurd (wanted refl)
      refused_once base xs _ j e f (inputs.no_base _ why) also wanted wanted' = step j f also wanted'
        where
          step : (j : ℕ) (f : Fault) → WhyNoneOfAll has_base has_object lacks_base lacks_object base xs j f → f.kind ≢ NoMemory → (0 ≡ j) × (e ≡ f)
          step j _ (inputs.no_memory _ few) w = absurd (w refl)
          step _ f (inputs.no_base _ other) w = (refl, base_refused_once base e f why other wanted w)
          step j f (inputs.stopped t _ _ of_base stop) w = absurd (wanted (base_not base t e of_base why))
          step _ _ (inputs.big t outcome more) w = absurd (wanted (base_not base outcome.tree e outcome.of_base why))
      refused_once base xs k j e f (inputs.stopped t _ _ of_base stop) also wanted wanted' = step j f also wanted'
        where
          step : (j : ℕ) (f : Fault) → WhyNoneOfAll has_base has_object lacks_base lacks_object base xs j f → f.kind ≢ NoMemory → (k ≡ j) × (e ≡ f)
          step j _ (inputs.no_memory _ few) w = absurd (w refl)
          step _ f (inputs.no_base _ other) w = absurd (w (base_not base t f of_base other))
          step j f (inputs.stopped t' _ _ of_base' stop') w =
              let same : t' ≡ t = base_one base t' t of_base' of_base in
              let s = stops_once t stop.front stop'.front stop.back stop'.back stop.input stop'.input stop.before stop'.before e f (base_fine base t of_base)
              (sym stop.are ∙ stop'.are) stop.steps stop.why (subst (λ (u : Reading). AreSteps has_object u stop'.front stop'.before) same stop'.steps) stop'.why wanted w in
              (stop.number ∙ ap suc s.0 ∙ sym stop'.number, s.1)
          step _ _ (inputs.big u outcome more) w = absurd (wanted (not_at_the_end base xs t u k e of_base stop outcome))
      refused_once base xs _ j _ f (inputs.big u outcome more) also wanted wanted' = step j f also wanted'
        where
          step : (j : ℕ) (f : Fault) → WhyNoneOfAll has_base has_object lacks_base lacks_object base xs j f → f.kind ≢ NoMemory → (length xs ≡ j) × (placeless Limit ≡ f)
          step j _ (inputs.no_memory _ few) w = absurd (w refl)
          step _ f (inputs.no_base _ other) w = absurd (w (base_not base outcome.tree f outcome.of_base other))
          step j f (inputs.stopped t _ _ of_base stop) w = absurd (w (not_at_the_end base xs t u j f of_base stop outcome))
          step _ _ (inputs.big t also more') w = (refl, refl)
