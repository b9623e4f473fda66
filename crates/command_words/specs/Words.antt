-- The commands of the command line. Source: this project. The arguments after the first are read as clap's contract of
-- `try_get_matches_from` states for a simple command.
use Rattle.std.specs.Prelude.{◌≤◌, ⊤, true, false, Bool, List, [], ◌∷◌, codes, Option, Some, None, ◌==◌, if◌then◌else◌}
use Rattle.std.specs.Str.{bytes_eq}
use Rattle.clap.specs.Words.{App, Kinds, Rule, Text, fault_of, first_of, matches_of, new_app, new_rule, with_rule}
use Rattle.clap.specs.declared.builder.ArgAction.TheVariants.{Set, SetTrue}
use Rattle.command_words.specs.Numerals.{numeral_in, ◌>>=◌}
use Rattle.command_words.specs.declared.command.Command.{Command}
use Rattle.command_words.specs.declared.command.Command.TheVariants.{Run, Generate, Check}
use Rattle.command_words.specs.declared.command.Name.{Name}
use Rattle.command_words.specs.declared.command.Name.TheVariants as name

-- a required text, known by its position
abbrev pub positional : Text → Rule
positional name = record (new_rule name) { required = true; action = Some Set }

-- a flag, which has no value and occurs at most once
abbrev pub flag : Text → Rule
flag name = record (new_rule name) { long = Some name; action = Some SetTrue }

-- a simple command with the flag `--strict`
unfoldable pub strict_app : Text → App
strict_app name = with_rule (new_app name) (flag (codes "strict"))

abbrev pub run_app : App
run_app = strict_app (codes "run")

abbrev pub check_app : App
check_app = strict_app (codes "check")

-- the simple command `gen SEED CALLS`
unfoldable pub gen_app : App
gen_app = with_rule (with_rule (new_app (codes "gen")) (positional (codes "SEED"))) (positional (codes "CALLS"))

-- there is no error
abbrev pub is_faultless : Kinds → Bool
is_faultless [] = true
is_faultless (kind ∷ others) = false

-- clap finds no error in the arguments, of which the first is the command's name
unfoldable pub takes_words : App → List Text → Bool
takes_words app words = is_faultless (fault_of app words)

-- the text that clap reads for one of the command's names
unfoldable pub text_for : Text → App → List Text → Option Text
text_for name app words = first_of name (matches_of app words)

-- the command of the texts for SEED and CALLS, each of which is a decimal number in its range
abbrev pub generation : Option Text → Option Text → Option Command
generation seed_text calls_text = do
  seed_word ← seed_text
  seed ← numeral_in 0 4294967295 seed_word
  calls_word ← calls_text
  calls ← numeral_in 1 2000 calls_word
  Some (Generate seed calls)

-- the number of calls of a command that has one: 1 to 2000
abbrev pub IsInRange : Command → Type 0
IsInRange (Run strict) = ⊤
IsInRange (Generate seed calls) = (1 ≤ calls) × (calls ≤ 2000)
IsInRange (Check strict) = ⊤

-- whether the text that clap reads for a flag states that it was given
abbrev pub is_true : Option Text → Bool
is_true None = false
is_true (Some text) = bytes_eq text (codes "true")

-- the command of arguments that begin with `run`
abbrev pub run_of : List Text → Option Command
run_of words = if takes_words run_app words then Some (Run (is_true (text_for (codes "strict") run_app words))) else None

-- the command of arguments that begin with `check`
abbrev pub check_of : List Text → Option Command
check_of words = if takes_words check_app words then Some (Check (is_true (text_for (codes "strict") check_app words))) else None

-- the command of arguments that begin with `gen`
abbrev pub generation_of : List Text → Option Command
generation_of words =
    if takes_words gen_app words
    then generation (text_for (codes "SEED") gen_app words) (text_for (codes "CALLS") gen_app words)
    else None

-- the command with the first argument as its name
abbrev pub name_in : List Text → Option Name
name_in [] = None
name_in (word ∷ others) =
    if bytes_eq word (codes "run") then Some name.Run
    else if bytes_eq word (codes "gen") then Some name.Gen
    else if bytes_eq word (codes "check") then Some name.Check
    else None

-- the command of arguments that begin with this name, or none
abbrev pub asked_as : Option Name → List Text → Option Command
asked_as None words = None
asked_as (Some name.Run) words = run_of words
asked_as (Some name.Gen) words = generation_of words
asked_as (Some name.Check) words = check_of words

-- the command of these arguments: the first is its name, and clap reads the others
unfoldable pub command_of : List Text → Option Command
command_of words = asked_as (name_in words) words

abbrev pub follow_app : App
follow_app = strict_app (codes "follow")

-- the first argument is `follow`
abbrev pub is_follow : List Text → Bool
is_follow [] = false
is_follow (word ∷ others) = bytes_eq word (codes "follow")

-- whether the flag is among the arguments of `follow`
abbrev pub flag_of_follow : List Text → Option Bool
flag_of_follow words = if takes_words follow_app words then Some (is_true (text_for (codes "strict") follow_app words)) else None

-- whether a trace is followed on a strict fabric, if the arguments request that a trace is followed
unfoldable pub follow_of : List Text → Option Bool
follow_of words = if is_follow words then flag_of_follow words else None

-- whether the text's first octet is a hyphen
abbrev pub begins_with_hyphen : Text → Bool
begins_with_hyphen [] = false
begins_with_hyphen (octet ∷ octets) = octet == 45
