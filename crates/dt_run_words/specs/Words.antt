-- What the words of a command line ask for, as clap reads them.
use Rattle.std.specs.Prelude.{◌≡◌, ◌≢◌, ◌⊎◌, ◌<◌, ◌-◌, ◌^◌, ℕ, [], ◌∷◌, List, Bool, Option, Some, None, true, false, codes, map, unwrap_or, if◌then◌else◌}
use Rattle.std.specs.Borrow.{Bor}
use Rattle.std.specs.Str.Parse.{IsNumeral, digits_value, without_leading_plus}
use Rattle.clap.specs.declared.builder.command.Command.{Command, out-Command}
use Rattle.clap.specs.Words.{App, Row, Rule, Text, IsAmong, all_of, app_of, fault_of, first_of, kind_of, new_app, new_rule, one_of, subcommand_of, with_rule, with_subcommand}
use Rattle.clap.specs.declared.builder.action.ArgAction.TheVariants.{Append, SetTrue}
use Rattle.clap.specs.declared.builder.value_parser.ValueParser.TheVariants.{Unsigned}
use Rattle.clap.specs.declared.error.kind.ErrorKind.TheVariants.{MissingSubcommand, OutOfMemory}
use Rattle.clap.specs.declared.error.Error.{Error}
use Rattle.dt_run_words.specs.declared.command_line.Job.{Job}
use Rattle.dt_run_words.specs.declared.command_line.Job.TheVariants.{Compile, CompileRaw, Apply, Build, Print, Check, Regs, Irqs, Dma, Spec}
use Rattle.dt_run_words.specs.declared.command_line.Line.{Line}
use Rattle.dt_run_words.specs.declared.words.LineFault.{LineFault}
use Rattle.dt_run_words.specs.declared.words.LineFault.TheVariants.{Memory, Words}

-- `--ID`, which is there or not
abbrev pub flag : Text → Rule
flag id = record (new_rule id) { long = Some id; action = Some SetTrue }

-- a word that must be there
abbrev pub text_word : Text → Rule
text_word id = record (new_rule id) { required = true }

-- one that must be a number too, from 0 to 2^64 - 1
abbrev pub number_word : Text → Rule
number_word id = record (new_rule id) { required = true; parser = Some (Unsigned 0 (2 ^ 64 - 1)) }

-- as many words as there are
abbrev pub each_word : Text → Rule
each_word id = record (new_rule id) { action = Some Append }

-- a command of this shape; no word of it is one of the commands below it too
abbrev pub IsCommand : App → Command → Type 0
IsCommand app command = (app_of command ≡ app) × ((out-Command command).has_globals ≡ false)

-- `compile [--hex] [--raw] FILE`
abbrev pub compile_command : App
compile_command = with_rule (with_rule (with_rule (new_app (codes "compile")) (flag (codes "hex"))) (flag (codes "raw"))) (text_word (codes "FILE"))

-- a command of this name with `[--hex] BASE [OVERLAY..]`
abbrev pub overlay_command : Text → App
overlay_command name = with_rule (with_rule (with_rule (new_app name) (flag (codes "hex"))) (text_word (codes "BASE"))) (each_word (codes "OVERLAY"))

-- `apply [--hex] BASE [OVERLAY..]`
abbrev pub apply_command : App
apply_command = overlay_command (codes "apply")

-- `build [--hex] BASE [OVERLAY..]`
abbrev pub build_command : App
build_command = overlay_command (codes "build")

-- a command of this name with `FILE`
abbrev pub blob_command : Text → App
blob_command name = with_rule (new_app name) (text_word (codes "FILE"))

-- `dma FILE PATH ADDRESS SIZE`
abbrev pub dma_command : App
dma_command = with_rule (with_rule (with_rule (blob_command (codes "dma")) (text_word (codes "PATH"))) (number_word (codes "ADDRESS")))
    (number_word (codes "SIZE"))

-- `spec FILE PATH PROP KIND INDEX`
abbrev pub spec_command : App
spec_command =
    with_rule (with_rule (with_rule (with_rule (blob_command (codes "spec")) (text_word (codes "PATH"))) (text_word (codes "PROP")))
    (text_word (codes "KIND"))) (number_word (codes "INDEX"))

-- `dtool [--version]` without its commands; it needs one
abbrev pub bare : App
bare = let new = new_app (codes "dtool") in record new { top = record new.top { has_version = true; subcommand_required = true } }

-- with the commands that make blobs
abbrev pub with_makers : App
with_makers = with_subcommand (with_subcommand (with_subcommand bare compile_command.top) apply_command.top) build_command.top

-- and with those that print of a whole blob
abbrev pub with_tellers : App
with_tellers =
    with_subcommand (with_subcommand (with_subcommand (with_subcommand with_makers (blob_command (codes "print")).top)
    (blob_command (codes "check")).top) (blob_command (codes "regs")).top)
    (blob_command (codes "irqs")).top

-- `dtool`, with one of its commands
abbrev pub dtool : App
dtool = with_subcommand (with_subcommand with_tellers dma_command.top) spec_command.top

-- a job's command
abbrev pub command_of : Job → Text
command_of Compile = codes "compile"
command_of CompileRaw = codes "compile"
command_of Apply = codes "apply"
command_of Build = codes "build"
command_of Print = codes "print"
command_of Check = codes "check"
command_of Regs = codes "regs"
command_of Irqs = codes "irqs"
command_of (Dma path address size) = codes "dma"
command_of (Spec path property kind index) = codes "spec"

-- a flag is there or not, as this says
pub record IsFlag (flag : Text) (rows : List Row) (is : Bool) : Type 0 where
  pub none : one_of flag rows ≡ None → is ≡ false
  pub there : one_of flag rows ≡ Some (codes "true") → is ≡ true
  pub not_there : one_of flag rows ≡ Some (codes "false") → is ≡ false

-- the flags are there or not, as the job and its line say; a job that writes no blob has none
abbrev pub HasFlags : Job → List Row → Bool → Type 0
HasFlags Compile rows hex = IsFlag (codes "hex") rows hex × IsFlag (codes "raw") rows false
HasFlags CompileRaw rows hex = IsFlag (codes "hex") rows hex × IsFlag (codes "raw") rows true
HasFlags Apply rows hex = IsFlag (codes "hex") rows hex
HasFlags Build rows hex = IsFlag (codes "hex") rows hex
HasFlags Print rows hex = hex ≡ false
HasFlags Check rows hex = hex ≡ false
HasFlags Regs rows hex = hex ≡ false
HasFlags Irqs rows hex = hex ≡ false
HasFlags (Dma path address size) rows hex = hex ≡ false
HasFlags (Spec path property kind index) rows hex = hex ≡ false

-- the word of this id is a number in decimal digits, behind a plus or without one
pub record IsNumber (id : Text) (rows : List Row) (n : ℕ) : Type 0 where
  pub text : Text
  pub is : one_of id rows ≡ Some text
  pub digits : IsNumeral 10 (without_leading_plus text)
  pub small : n < 2 ^ 64
  pub value : n ≡ digits_value 10 (without_leading_plus text)

-- the words behind the file are those of the job
abbrev pub HasWords : Job → List Row → Type 0
HasWords (Dma path address size) rows = (first_of (codes "PATH") rows ≡ Some path.now) × IsNumber (codes "ADDRESS") rows address
    × IsNumber (codes "SIZE") rows size
HasWords (Spec path property kind index) rows =
    (first_of (codes "PATH") rows ≡ Some path.now) × (first_of (codes "PROP") rows ≡ Some property.now)
    × (first_of (codes "KIND") rows ≡ Some kind.now) × IsNumber (codes "INDEX") rows index
HasWords _ rows = Unit {0}

-- the job takes overlays, beside a base
abbrev pub takes_overlays : Job → Bool
takes_overlays Apply = true
takes_overlays Build = true
takes_overlays _ = false

-- the word for its first file
abbrev pub first_word : Job → Text
first_word job = if takes_overlays job then codes "BASE" else codes "FILE"

-- its other files: all that are given for `OVERLAY`, where it takes any
abbrev pub other_files : Job → List Row → List Text
other_files job rows = if takes_overlays job then unwrap_or (all_of (codes "OVERLAY") rows) [] else []

-- these are the job's files, in the order of the words
pub record AreFiles (job : Job) (rows : List Row) (files : List Text) : Type 0 where
  pub first : Text
  pub is_first : first_of (first_word job) rows ≡ Some first
  pub are : files ≡ first ∷ other_files job rows

-- the job asks one node, and has words behind its file
abbrev pub AsksOneNode : Job → Type 0
AsksOneNode (Dma path address size) = Unit {0}
AsksOneNode (Spec path property kind index) = Unit {0}
AsksOneNode _ = ⊥

-- a word of `dma`, or of `spec`, isn't there
abbrev pub LacksDma : List Row → Type 0
LacksDma rows = (path : Bor Text) (address size : ℕ) → HasWords (Dma path address size) rows → ⊥

abbrev pub LacksSpec : List Row → Type 0
LacksSpec rows = (path property kind : Bor Text) (index : ℕ) → HasWords (Spec path property kind index) rows → ⊥

-- a command that was found is the job's, with its files, its flags and its words
pub record Names (found : Option (Text × List Row)) (line : Line) : Type 0 where
  pub rows : List Row
  pub command : found ≡ Some (command_of line.job, rows)
  pub files : AreFiles line.job rows (map (λ file. file.now) line.files.items)
  pub flags : HasFlags line.job rows line.hex
  pub words : HasWords line.job rows

-- it is no job's, or has no first file, or not the job's words
abbrev pub NamesNone : Option (Text × List Row) → Type 0
NamesNone found =
    (job : Job) (rows : List Row) (file : Text) → found ≡ Some (command_of job, rows) → first_of (first_word job) rows ≡ Some file → HasWords job rows → ⊥

-- clap finds no fault in the words, and they ask for the line
abbrev pub IsLine : List Text → Line → Type 0
IsLine words line = (fault_of dtool words ≡ []) × Names (subcommand_of dtool words) line

-- clap finds such a fault in the words, or no file
abbrev pub WhyNoLine : List Text → LineFault → Type 0
WhyNoLine words Memory = Unit {0}
WhyNoLine words (Words error) =
    IsAmong (kind_of error) (fault_of dtool words)
    ⊎ ((kind_of error ≡ MissingSubcommand) × NamesNone (subcommand_of dtool words))

-- how clap's error is passed on
abbrev pub Tells : Error → LineFault → Type 0
Tells error Memory = kind_of error ≡ OutOfMemory
Tells error (Words same) = (same ≡ error) × (kind_of error ≢ OutOfMemory)
