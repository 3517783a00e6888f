-- What words denote: how clap reads them, and the table of the commands.
use Rattle.std.specs.Prelude.{◌≡◌, ℕ, Bool, true, false, ◌||◌, not, ◌==◌, nat_le, if◌then◌else◌, List, [], ◌∷◌, ◌++◌, length, find, codes, Option, Some, None, option_map}
use Rattle.std.specs.List.{list_any, list_all}
use Rattle.std.specs.Str.{bytes_eq}
use Rattle.std.specs.Str.Parse.{digits_value, without_leading_plus}
use Rattle.clap.specs.Words.{App, Row, Rule, Text, first_of, one_of, fault_of, matches_of, new_rule}
use Rattle.clap.specs.Simple.{new_shape}
use Rattle.clap.specs.Takes.{is_given}
use Rattle.clap.specs.ValueTests.{accepts}
use Rattle.clap.specs.declared.builder.value_parser.ValueParser.{ValueParser}
use Rattle.clap.specs.declared.builder.value_parser.ValueParser.TheVariants as parser
use Rattle.clap.specs.declared.builder.action.ArgAction.TheVariants.{SetTrue}
use Rattle.definitions_outcomes.specs.Computed.{and_then}
use Rattle.stream_core.specs.Names.{is_name}
use Rattle.command_words.specs.Commands.{Command, import, export, reformat, check, explain, help, query, demo}

-- ---- how the words are read

-- an argument by its place, an option that takes a text, one that takes a u64, and one that takes nothing
abbrev pub placed : Text → Bool → Rule
placed id required = record (new_rule id) { required = required }

abbrev pub text_option : Text → Rule
text_option id = record (new_rule id) { long = Some id }

abbrev pub u64_parser : ValueParser
u64_parser = parser.Unsigned 0 18446744073709551615

abbrev pub number_option : Text → Rule
number_option id = record (text_option id) { parser = Some u64_parser }

abbrev pub flag : Text → Rule
flag id = record (text_option id) { action = Some SetTrue }

-- what a line may hold, whatever the command
abbrev pub arguments : List Rule
arguments =
    placed (codes "command") true
    ∷ placed (codes "table") false
    ∷ number_option (codes "lanes")
    ∷ number_option (codes "dump")
    ∷ number_option (codes "seed")
    ∷ number_option (codes "rows")
    ∷ text_option (codes "strategy")
    ∷ flag (codes "trace")
    ∷ []

-- one simple command, whose words stand after the program's name or without it
unfoldable pub named_program : App
named_program = record { top = record (new_shape (codes "morphq")) { rules = arguments }; subs = [] }

unfoldable pub program : App
program = record { top = record (new_shape (codes "morphq")) { rules = arguments; no_binary_name = true }; subs = [] }

-- ---- what was given

-- the number under an id
abbrev pub number_of : Text → Option ℕ
number_of text = if accepts false u64_parser text then Some (digits_value 10 (without_leading_plus text)) else None

abbrev pub number_at : Text → List Row → Option ℕ
number_at id given = and_then (one_of id given) number_of

-- whether the words give no argument but the command's word and these; a flag that they don't give has a row too
abbrev pub is_among : List Text → Text → Bool
is_among ids id = list_any (λ one. bytes_eq one id) ids

abbrev pub may_stand : List Text → List Row → Text → Bool
may_stand ids given id = bytes_eq id (codes "command") || is_among ids id || not (is_given id given)

abbrev pub has_only : List Text → List Row → Bool
has_only ids given = list_all (λ row. may_stand ids given row.id) given

-- the value if it passes, and the default if there is none
abbrev pub or_default : {A : Type 0} → A → (A → Bool) → Option A → Option A
or_default default passes None = Some default
or_default default passes (Some value) = if passes value then Some value else None

-- the value if it passes, and none if there is none
abbrev pub if_given : {A : Type 0} → (A → Bool) → Option A → Option (Option A)
if_given passes None = Some None
if_given passes (Some value) = if passes value then Some (Some value) else None

-- ---- the options

abbrev pub is_lanes : ℕ → Bool
is_lanes lanes = lanes == 1 || lanes == 2 || lanes == 4 || lanes == 8 || lanes == 16

abbrev pub lanes_in : List Row → Option ℕ
lanes_in given = or_default 8 is_lanes (number_at (codes "lanes") given)

abbrev pub strategy_in : List Row → Option (Option Text)
strategy_in given = if_given is_name (first_of (codes "strategy") given)

abbrev pub dump_in : List Row → Option (Option ℕ)
dump_in given = if_given (λ number. nat_le 1 number) (number_at (codes "dump") given)

abbrev pub seed_in : List Row → Option ℕ
seed_in given = or_default 1 (λ seed. true) (number_at (codes "seed") given)

abbrev pub rows_in : List Row → Option ℕ
rows_in given = or_default 1000 (λ rows. nat_le rows 1000000) (number_at (codes "rows") given)

abbrev pub query_in : List Row → Option Command
query_in given =
    and_then (lanes_in given) (λ lanes.
    and_then (strategy_in given) (λ strategy.
    and_then (dump_in given) (λ dump.
    Some (query (record { lanes = lanes; strategy = strategy; trace = is_given (codes "trace") given; dump = dump })))))

abbrev pub demo_in : List Row → Option Command
demo_in given =
    and_then (lanes_in given) (λ lanes.
    and_then (strategy_in given) (λ strategy.
    and_then (seed_in given) (λ seed.
    and_then (rows_in given) (λ rows.
    Some (demo (record { lanes = lanes; strategy = strategy; seed = seed; rows = rows }))))))

-- ---- the commands

-- a command's word, the arguments that may stand beside it, and what is made of them
pub record Form : Type 0 where
  pub word : Text
  pub arguments : List Text
  pub made : List Row → Option Command

-- a command alone, one of a table, and one that takes these arguments
abbrev pub alone : Text → Command → Form
alone word command = record { word = word; arguments = []; made = λ given. Some command }

abbrev pub of_table : Text → (Text → Command) → Form
of_table word command =
    record { word = word; arguments = codes "table" ∷ []; made = λ given. option_map command (first_of (codes "table") given) }

abbrev pub taking : Text → List Text → (List Row → Option Command) → Form
taking word arguments made = record { word = word; arguments = arguments; made = made }

abbrev pub commands : List Form
commands =
    of_table (codes "import") import
    ∷ of_table (codes "export") export
    ∷ of_table (codes "reformat") reformat
    ∷ alone (codes "check") check
    ∷ alone (codes "explain") explain
    ∷ taking (codes "query") (codes "lanes" ∷ codes "strategy" ∷ codes "trace" ∷ codes "dump" ∷ []) query_in
    ∷ taking (codes "demo") (codes "lanes" ∷ codes "strategy" ∷ codes "seed" ∷ codes "rows" ∷ []) demo_in
    ∷ alone (codes "help") help
    ∷ []

-- what the form makes of what was given, if nothing else was given
abbrev pub made_by : Form → List Row → Option Command
made_by form given = if has_only form.arguments given then form.made given else None

-- the command of this word
abbrev pub command_at : Text → List Row → Option Command
command_at word given = and_then (find (λ form. bytes_eq word form.word) commands) (λ form. made_by form given)

abbrev pub denoted : List Row → Option Command
denoted given = and_then (first_of (codes "command") given) (λ word. command_at word given)

-- clap takes the words, and what it reads is of a command's form
abbrev pub command_by : App → List Text → Option Command
command_by app words = if length (fault_of app words) == 0 then denoted (matches_of app words) else None

-- the command that the words after the program's name denote, if any
abbrev pub command_in : List Text → Option Command
command_in = command_by program

-- the law of the program's name: read with it, the words denote the same
abbrev pub NameChangesNothing : Type 0
NameChangesNothing = (words : List Text) → command_by named_program (codes "morphq" ∷ words) ≡ command_in words

-- ---- the text of `help`

abbrev pub help_text : Text
help_text =
    codes "morphq import TABLE\n"
    ++ codes "morphq export TABLE\n"
    ++ codes "morphq reformat TABLE\n"
    ++ codes "morphq check\n"
    ++ codes "morphq explain\n"
    ++ codes "morphq query [--lanes N] [--strategy NAME] [--trace] [--dump N]\n"
    ++ codes "morphq demo [--lanes N] [--strategy NAME] [--seed N] [--rows N]\n"
    ++ codes "morphq help\n"
