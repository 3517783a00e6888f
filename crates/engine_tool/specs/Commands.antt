-- The commands that are built, and what each of them reads and saves.
use Rattle.std.specs.Prelude.{ℕ, Bool, true, false, ◌&&◌, not, ◌==◌, List, Option, Some, None, is_some, if◌then◌else◌}
use Rattle.definitions_outcomes.specs.Computed.{and_then}
use Rattle.command_words.specs.Commands as command
use Rattle.command_words.specs.Commands.{Command, QueryOptions}
use Rattle.command_words.specs.Words as words

-- whether a query has no options: none is built yet
abbrev pub has_defaults : QueryOptions → Bool
has_defaults options = options.lanes == 8 && not (is_some options.strategy) && not options.trace && not (is_some options.dump)

-- whether the command is built
abbrev pub is_built : Command → Bool
is_built (command.import table) = true
is_built (command.export table) = true
is_built (command.reformat table) = true
is_built command.check = true
is_built command.explain = true
is_built command.help = true
is_built (command.query options) = has_defaults options
is_built (command.demo options) = false

-- the command that the words denote, if any, and if it is built
abbrev pub if_built : Command → Option Command
if_built command = if is_built command then Some command else None

abbrev pub command_in : List (List ℕ) → Option Command
command_in given = and_then (words.command_in given) if_built

-- whether the command loads files; for words that denote no command none is loaded
abbrev pub reads_files : Option Command → Bool
reads_files None = false
reads_files (Some (command.import table)) = true
reads_files (Some (command.export table)) = true
reads_files (Some (command.reformat table)) = true
reads_files (Some command.check) = true
reads_files (Some command.explain) = true
reads_files (Some command.help) = false
reads_files (Some (command.query options)) = true
reads_files (Some (command.demo options)) = false

-- whether the command reads the input
abbrev pub reads_input : Option Command → Bool
reads_input None = false
reads_input (Some (command.import table)) = true
reads_input (Some (command.export table)) = false
reads_input (Some (command.reformat table)) = false
reads_input (Some command.check) = false
reads_input (Some command.explain) = true
reads_input (Some command.help) = false
reads_input (Some (command.query options)) = true
reads_input (Some (command.demo options)) = false

-- the name of the table that the command saves, if it saves one
abbrev pub saves : Option Command → Option (List ℕ)
saves None = None
saves (Some (command.import table)) = Some table
saves (Some (command.export table)) = None
saves (Some (command.reformat table)) = Some table
saves (Some command.check) = None
saves (Some command.explain) = None
saves (Some command.help) = None
saves (Some (command.query options)) = None
saves (Some (command.demo options)) = None
