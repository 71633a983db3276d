-- What is loaded of files, and why one isn't.
use Rattle.std.specs.Prelude.{◌≡◌, ◌<◌, ◌≤◌, ℕ, suc, List, [], ◌∷◌, Some, Result, Ok, Err, codes, length, slice_get}
use Rattle.dt_model.specs.Limits.{most_bytes}
use Rattle.dt_names.specs.declared.fault.FaultKind.{FaultKind}
use Rattle.dt_names.specs.declared.fault.FaultKind.TheVariants.{NoMemory, Limit, ReadFault}

-- The files as they were, a name, its bytes or the kind of a fault, and the files behind it: what asking for the name may answer.
abbrev pub Loads : Type 0 → Type 1
Loads F = F → List ℕ → Result (List ℕ) FaultKind → F → Type 0

-- the name of this number is `stdin`, and one before it is
pub record IsAgain (names : List (List ℕ)) (k : ℕ) : Type 0 where
  pub earlier : ℕ
  pub before : earlier < k
  pub first : slice_get names earlier ≡ Some (codes "stdin")
  pub again : slice_get names k ≡ Some (codes "stdin")

-- the name of this number is asked for, and this is answered
pub record IsAsked {F : Type 0} (loads : Loads F) (names : List (List ℕ)) (k : ℕ) (before : F) (answer : Result (List ℕ) FaultKind) (behind : F) : Type 0 where
  pub name : List ℕ
  pub named : slice_get names k ≡ Some name
  pub answered : loads before name answer behind

-- The text is what is loaded for the name of this number: it isn't too long, and it is what is answered; but a second standard input is empty, and isn't
-- asked for.
pub record IsLoaded {F : Type 0} (loads : Loads F) (names : List (List ℕ)) (k : ℕ) (before : F) (text : List ℕ) (behind : F) : Type 0 where
  pub size : length text ≤ most_bytes
  pub again : IsAgain names k → (text ≡ []) × (behind ≡ before)
  pub asked : ¬ IsAgain names k → IsAsked loads names k before (Ok text) behind

-- the texts are what is loaded for the names from this number on, one after another
abbrev pub AreLoadedFrom : {F : Type 0} → Loads F → (names : List (List ℕ)) → ℕ → (before : F) → (texts : List (List ℕ)) → (behind : F) → Type 0
AreLoadedFrom loads names k before [] behind = behind ≡ before
AreLoadedFrom {F} loads names k before (text ∷ texts) behind = (next : F) × IsLoaded loads names k before text next
    × AreLoadedFrom loads names (suc k) next texts behind

-- for the first so many names
pub record AreLoadedTo {F : Type 0} (loads : Loads F) (names : List (List ℕ)) (k : ℕ) (before : F) (texts : List (List ℕ)) (behind : F) : Type 0 where
  pub count : length texts ≡ k
  pub each : AreLoadedFrom loads names 0 before texts behind

-- for all of the names, and nothing else is asked for
abbrev pub AreLoaded : {F : Type 0} → Loads F → (names : List (List ℕ)) → (before : F) → (texts : List (List ℕ)) → (behind : F) → Type 0
AreLoaded loads names before texts behind = AreLoadedTo loads names (length names) before texts behind

-- the kinds of fault that loading a file has
abbrev pub IsOfLoading : FaultKind → Type 0
IsOfLoading NoMemory = Unit {0}
IsOfLoading Limit = Unit {0}
IsOfLoading ReadFault = Unit {0}
IsOfLoading _ = ⊥

-- why the file of the name of this number isn't loaded: it is asked for, and this is answered; or there was no memory to keep its text
pub data WhyNotNext {F : Type 0} (loads : Loads F) (names : List (List ℕ)) (k : ℕ) (before : F) : FaultKind → F → Type 0 where
  unkept : (text : List ℕ) (behind : F) → IsLoaded loads names k before text behind → WhyNotNext loads names k before NoMemory behind
  refused : (kind : FaultKind) (behind : F) → IsOfLoading kind → ¬ IsAgain names k → IsAsked loads names k before (Err kind) behind →
      WhyNotNext loads names k before kind behind

-- why the files aren't all loaded: those before one of this number are, and it isn't, and none behind it is asked for
pub record WhyNotLoaded {F : Type 0} (loads : Loads F) (names : List (List ℕ)) (k : ℕ) (before : F) (kind : FaultKind) (behind : F) : Type 0 where
  pub early : k < length names
  pub texts : List (List ℕ)
  pub next : F
  pub loaded : AreLoadedTo loads names k before texts next
  pub why : WhyNotNext loads names k next kind behind
