-- What the code's commands say.
use Rattle.std.specs.Prelude.{option_map}
use Rattle.command_words.specs.Commands as spec
use Rattle.command_words.specs.declared.commands.Command.{Command}
use Rattle.command_words.specs.declared.commands.Command.TheVariants as command
use Rattle.command_words.specs.declared.commands.QueryOptions.{QueryOptions}
use Rattle.command_words.specs.declared.commands.DemoOptions.{DemoOptions}

abbrev pub query_view : QueryOptions → spec.QueryOptions
query_view options = record {
  lanes = options.lanes;
  strategy = option_map (λ name. name.now) options.strategy;
  trace = options.trace;
  dump = options.dump;
}

abbrev pub demo_view : DemoOptions → spec.DemoOptions
demo_view options = record {
  lanes = options.lanes;
  strategy = option_map (λ name. name.now) options.strategy;
  seed = options.seed;
  rows = options.rows;
}

abbrev pub command_view : Command → spec.Command
command_view (command.Import table) = spec.import table.now
command_view (command.Export table) = spec.export table.now
command_view (command.Reformat table) = spec.reformat table.now
command_view command.Check = spec.check
command_view command.Explain = spec.explain
command_view command.Help = spec.help
command_view (command.Query options) = spec.query (query_view options)
command_view (command.Demo options) = spec.demo (demo_view options)
