-- What clap's matches say of the tool's words.
use Rattle.std.proofs.Common.{◌≡◌, ◌≢◌, ◌<◌, ◌^◌, get_or, arith, ℕ, List, [], Bool, Option, Some, None, true, false, if◌then◌else◌, refl, sym, ap, subst, ◌∙◌, inl, inr, option_map, unwrap_or, map, codes, Bor, Vec, Result, Ok, Err, IfOk, MatchOption, ◌∷◌}
use Rattle.std.specs.Str.Parse.{IsNumeral, ParsesUnsigned, digits_value, without_leading_plus}
use Rattle.clap.specs.Words.{App, HasKind, HasMatchesOf, IsAmong, Row, Text, all_of, fault_of, first_of, first_value, ReadsOne, one_of, is_simple, is_simple_and_free, kind_of, matched_of, one_text, raw_values, rows_of, subcommand_of, subcommand_rows_of}
use Rattle.clap.specs.declared.error.Error.{Error}
use Rattle.clap.specs.declared.parser.matches.ArgMatches.{ArgMatches}
use Rattle.clap.specs.declared.parser.matches.Found.{Found}
use Rattle.clap.proofs.OnLiterals.{clap_on_literals}
use Rattle.clap.proofs.WalkLemmas.{first_value-rows, one_text-rows, raw_values-rows}
use Rattle.dt_run_words.specs.Words.{AreFiles, AsksOneNode, HasFlags, HasWords, IsFlag, IsNumber, LacksDma, LacksSpec, command_of, Names, NamesNone, IsLine, Tells, WhyNoLine, dtool, first_word, other_files, takes_overlays}
use Rattle.dt_run_words.specs.declared.command_line.Job.{Job}
use Rattle.dt_run_words.specs.declared.command_line.Job.TheVariants.{Compile, CompileRaw, Apply, Build, Print, Check, Regs, Irqs, Dma, Spec}
use Rattle.dt_run_words.specs.declared.command_line.Line.{Line}
use Rattle.dt_run_words.specs.declared.words.LineFault.{LineFault}
use Rattle.dt_run_words.specs.declared.words.LineFault.TheVariants.{Memory, Words}

-- no text
abbrev pub nothing : Bor Text
nothing = record { ref_ptr = (0, 0); now = [] }

dtool_is_simple : is_simple dtool ≡ true
unfolding clap_on_literals
dtool_is_simple = refl

dtool_is_free : is_simple_and_free dtool ≡ true
unfolding clap_on_literals
dtool_is_free = refl

module _ (app : App) (same : app ≡ dtool) (words : List Text) where
  faults : (P : List _ → Type 0) → (is_simple_and_free app ≡ true → P (fault_of app words)) → P (fault_of dtool words)
  faults P h = subst (λ (a : App). is_simple_and_free a ≡ true → P (fault_of a words)) same h dtool_is_free

  found : (m : ArgMatches) → HasMatchesOf app words m → subcommand_rows_of m ≡ subcommand_of dtool words
  found m h = (subst (λ (a : App). HasMatchesOf a words m) same h dtool_is_simple).1

  pub asked : (m : ArgMatches) (line : Line) → (is_simple_and_free app ≡ true → fault_of app words ≡ []) → HasMatchesOf app words m → Names (subcommand_rows_of m) line → IsLine words line
  asked m line faultless matches names = (
    faults (λ faults. faults ≡ []) faultless,
    subst (λ (x : Option (Text × List Row)). Names x line) (found m matches) names,
  )

  pub not_asked : (m : ArgMatches) → HasMatchesOf app words m → NamesNone (subcommand_rows_of m) → NamesNone (subcommand_of dtool words)
  not_asked m matches none = subst NamesNone (found m matches) none

  pub told : (error : Error) (fault : LineFault) → (is_simple_and_free app ≡ true → HasKind (fault_of app words) error) → Tells error fault → WhyNoLine words fault
  told error Memory kinds tells = tt
  told error (Words passed) kinds tells = at (faults (λ faults. HasKind faults error) kinds)
    where
      at : HasKind (fault_of dtool words) error → WhyNoLine words (Words passed)
      at (inl memory) = absurd (tells.1 memory)
      at (inr among) = inl (subst (λ (e : Error). IsAmong (kind_of e) (fault_of dtool words)) (sym tells.0) among)

-- ---- what is found

pub is_flag : (f : Found) (flag : Text) (is : Bool) → (one_text f flag ≡ None → is ≡ false) → (one_text f flag ≡ Some (codes "true") → is ≡ true) → (one_text f flag ≡ Some (codes "false") → is ≡ false) → IsFlag flag (rows_of f) is
is_flag f flag is none there not_there = record {
  none = λ e. none (one_text-rows f flag ∙ e);
  there = λ e. there (one_text-rows f flag ∙ e);
  not_there = λ e. not_there (one_text-rows f flag ∙ e);
}

-- ---- files

pub first_by : (job : Job) (takes : Bool) → takes_overlays job ≡ takes → first_word job ≡ (if takes then codes "BASE" else codes "FILE")
first_by job takes is = ap (λ (b : Bool). if b then codes "BASE" else codes "FILE") is

pub others_by : (job : Job) (rows : List Row) (takes : Bool) → takes_overlays job ≡ takes → other_files job rows ≡ (if takes then unwrap_or (all_of (codes "OVERLAY") rows) [] else [])
others_by job rows takes is = ap (λ (b : Bool). if b then unwrap_or (all_of (codes "OVERLAY") rows) [] else []) is

module _ (job : Job) (f : Found) (word : Text) (same : first_word job ≡ word) (first : Option (Bor Text)) (is : option_map (λ (file : Bor Text). file.now) first ≡ first_value f word) where
  is_first : option_map (λ (file : Bor Text). file.now) first ≡ first_of (first_word job) (rows_of f)
  is_first = is ∙ first_value-rows f word ∙ ap (λ (w : Text). first_of w (rows_of f)) (sym same)

  pub are_files : {Z E : Type 0} (r : Result (Option (Vec (Bor Text) Z)) E) (others : List (Bor Text)) → map (λ file. file.now) others ≡ other_files job (rows_of f) →
      IfOk r (λ files. MatchOption files (option_map (λ file. file.now) first ≡ None) (λ files. (file : Text) × (option_map (λ file. file.now) first ≡ Some file)
      × (map (λ file. file.now) files.items ≡ file ∷ map (λ file. file.now) others))) →
      IfOk r (λ files. MatchOption files (first_of (first_word job) (rows_of f) ≡ None) (λ files. AreFiles job (rows_of f) (map (λ file. file.now) files.items)))
  are_files (Err e) others more h = tt
  are_files (Ok None) others more h = sym is_first ∙ h
  are_files (Ok (Some files)) others more (file, given, are) = record {
    first = file;
    is_first = sym is_first ∙ given;
    are = are ∙ ap (λ (rest : List Text). file ∷ rest) more;
  }

-- the values of `OVERLAY`, or none
unwrapped : (o : Option (Bor (List (Bor Text)))) (d : Bor (List (Bor Text))) → d.now ≡ [] →
    map (λ x. x.now) (unwrap_or o d).now ≡ unwrap_or (option_map (λ s. map (λ x. x.now) s.now) o) []
unwrapped None d none = ap (map (λ x. x.now)) none
unwrapped (Some values) d none = refl

pub all_overlays : (f : Found) (o : Option (Bor (List (Bor Text)))) (d : Bor (List (Bor Text))) → d.now ≡ [] →
    option_map (λ s. map (λ x. x.now) s.now) o ≡ option_map raw_values (matched_of f (codes "OVERLAY")) →
    map (λ x. x.now) (unwrap_or o d).now ≡ unwrap_or (all_of (codes "OVERLAY") (rows_of f)) []
all_overlays f o d none is = unwrapped o d none ∙ ap (λ (values : Option (List Text)). unwrap_or values []) (is ∙ raw_values-rows f (codes "OVERLAY"))

-- ---- words behind the file

pub no_text : (f : Found) (id word : Text) → None ≡ first_value f id → first_of id (rows_of f) ≡ Some word → ⊥
no_text f id word none some = let z : None ≡ Some word = none ∙ first_value-rows f id ∙ some in cc

pub is_text : (f : Found) (id word : Text) → Some word ≡ first_value f id → first_of id (rows_of f) ≡ Some word
is_text f id word is = sym (is ∙ first_value-rows f id)

-- a number, as `u64` is read
module _ {E : Type 0} (gives : Text → Result ℕ E → Type 0) (parses : (t : Text) (x : Result ℕ E) → gives t x → ParsesUnsigned 64 10 t x) (f : Found) (id : Text) where
  abbrev IsNumberOrNone : Option ℕ → Type 0
  IsNumberOrNone r = MatchOption r ((n : ℕ) → IsNumber id (rows_of f) n → ⊥) (λ n. IsNumber id (rows_of f) n)

  same : one_text f id ≡ one_of id (rows_of f)
  same = one_text-rows f id

  pub number_is : (r : Option ℕ) → (one_text f id ≡ None → r ≡ None) → ((t : Text) → one_text f id ≡ Some t → ReadsOne gives t r) → IsNumberOrNone r
  number_is r none some = by (one_text f id) refl r none some
    where
      by : (o : Option Text) → one_text f id ≡ o → (r : Option ℕ) → (one_text f id ≡ None → r ≡ None) → ((t : Text) → one_text f id ≡ Some t → ReadsOne gives t r) → IsNumberOrNone r
      by None e None none some = λ n is. let z : None ≡ Some is.text = sym e ∙ same ∙ is.is in cc
      by None e (Some v) none some = absurd (let z : Some v ≡ None = none e in cc)
      by (Some t) e (Some v) none some =
          let p = parses t (Ok v) (some t e) in
          record { text = t; is = sym same ∙ e; digits = p.0.0; small = subst (λ x. x < 2 ^ 64) (sym p.1) p.0.1; value = p.1 }
      by (Some t) e None none some = λ n is.
          let read = some t e in
          let z : Some is.text ≡ Some t = sym is.is ∙ sym same ∙ e in
          let text : is.text ≡ t = cc in
          parses t (Err read.0) read.1
          (subst (λ x. IsNumeral 10 (without_leading_plus x)) text is.digits, subst (λ x. digits_value 10 (without_leading_plus x) < 2 ^ 64) text (subst (λ x. x < 2 ^ 64) is.value is.small))

-- what `dma` asks for lacks a word, and so no job of the words is there
pub no_dma : (command : Text) (rows : List Row) → command ≡ codes "dma" → LacksDma rows → (job : Job) → command ≡ command_of job → HasWords job rows → ⊥
no_dma command rows is lacks job e words = by job (sym e ∙ is) words
  where
    by : (job : Job) → command_of job ≡ codes "dma" → HasWords job rows → ⊥
    by (Dma path address size) e words = lacks path address size words
    by Compile e words = let bad : ◌≡◌ {A = ℕ} 99 100 = ap (λ (t : Text). get_or t 0 0) e in omega arith
    by CompileRaw e words = let bad : ◌≡◌ {A = ℕ} 99 100 = ap (λ (t : Text). get_or t 0 0) e in omega arith
    by Apply e words = let bad : ◌≡◌ {A = ℕ} 97 100 = ap (λ (t : Text). get_or t 0 0) e in omega arith
    by Build e words = let bad : ◌≡◌ {A = ℕ} 98 100 = ap (λ (t : Text). get_or t 0 0) e in omega arith
    by Print e words = let bad : ◌≡◌ {A = ℕ} 112 100 = ap (λ (t : Text). get_or t 0 0) e in omega arith
    by Check e words = let bad : ◌≡◌ {A = ℕ} 99 100 = ap (λ (t : Text). get_or t 0 0) e in omega arith
    by Regs e words = let bad : ◌≡◌ {A = ℕ} 114 100 = ap (λ (t : Text). get_or t 0 0) e in omega arith
    by Irqs e words = let bad : ◌≡◌ {A = ℕ} 105 100 = ap (λ (t : Text). get_or t 0 0) e in omega arith
    by (Spec path property kind index) e words = let bad : ◌≡◌ {A = ℕ} 115 100 = ap (λ (t : Text). get_or t 0 0) e in omega arith

pub no_spec : (command : Text) (rows : List Row) → command ≡ codes "spec" → LacksSpec rows → (job : Job) → command ≡ command_of job → HasWords job rows → ⊥
no_spec command rows is lacks job e words = by job (sym e ∙ is) words
  where
    by : (job : Job) → command_of job ≡ codes "spec" → HasWords job rows → ⊥
    by (Spec path property kind index) e words = lacks path property kind index words
    by Compile e words = let bad : ◌≡◌ {A = ℕ} 99 115 = ap (λ (t : Text). get_or t 0 0) e in omega arith
    by CompileRaw e words = let bad : ◌≡◌ {A = ℕ} 99 115 = ap (λ (t : Text). get_or t 0 0) e in omega arith
    by Apply e words = let bad : ◌≡◌ {A = ℕ} 97 115 = ap (λ (t : Text). get_or t 0 0) e in omega arith
    by Build e words = let bad : ◌≡◌ {A = ℕ} 98 115 = ap (λ (t : Text). get_or t 0 0) e in omega arith
    by Print e words = let bad : ◌≡◌ {A = ℕ} 112 115 = ap (λ (t : Text). get_or t 0 0) e in omega arith
    by Check e words = let bad : ◌≡◌ {A = ℕ} 99 115 = ap (λ (t : Text). get_or t 0 0) e in omega arith
    by Regs e words = let bad : ◌≡◌ {A = ℕ} 114 115 = ap (λ (t : Text). get_or t 0 0) e in omega arith
    by Irqs e words = let bad : ◌≡◌ {A = ℕ} 105 115 = ap (λ (t : Text). get_or t 0 0) e in omega arith
    by (Dma path address size) e words = let bad : ◌≡◌ {A = ℕ} 100 115 = ap (λ (t : Text). get_or t 0 0) e in omega arith

-- a command that is neither has no other job than those that it has
pub no_other : (command : Text) (rows : List Row) → command ≢ codes "dma" → command ≢ codes "spec" → ((job : Job) → command ≡ command_of job → AsksOneNode job) → (job : Job) → command ≡ command_of job → HasWords job rows → ⊥
no_other command rows no_dma no_spec only (Dma path address size) e words = no_dma e
no_other command rows no_dma no_spec only (Spec path property kind index) e words = no_spec e
no_other command rows no_dma no_spec only Compile e words = only Compile e
no_other command rows no_dma no_spec only CompileRaw e words = only CompileRaw e
no_other command rows no_dma no_spec only Apply e words = only Apply e
no_other command rows no_dma no_spec only Build e words = only Build e
no_other command rows no_dma no_spec only Print e words = only Print e
no_other command rows no_dma no_spec only Check e words = only Check e
no_other command rows no_dma no_spec only Regs e words = only Regs e
no_other command rows no_dma no_spec only Irqs e words = only Irqs e

-- a job that writes no blob is the command's
module _ (command : Text) (rows : List Row) where
  abbrev IsCommands : Option (Job × Bool) → Type 0
  IsCommands r = MatchOption r ((job : Job) → command ≡ command_of job → HasWords job rows → ⊥) (λ asked. (command ≡ command_of asked.0) × HasFlags asked.0 rows asked.1 × HasWords asked.0 rows)

  pub is_commands : (word : Text) {Lacks : Type 0} → command ≡ word → (Lacks → (job : Job) → command ≡ command_of job → HasWords job rows → ⊥) → (o : Option Job) (r : Option (Job × Bool))
      → MatchOption o (r ≡ None) (λ job. r ≡ Some (job, false)) → MatchOption o Lacks (λ job. (command_of job ≡ word) × HasFlags job rows false × HasWords job rows) → IsCommands r
  is_commands word is none None r same h = subst IsCommands (sym same) (none h)
  is_commands word is none (Some job) r same h = subst IsCommands (sym same) (is ∙ sym h.0, h.1, h.2)
