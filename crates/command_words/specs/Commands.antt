-- The commands, each with what it was given.
use Rattle.std.specs.Prelude.{ℕ, Bool, Option}
use Rattle.clap.specs.Words.{Text}

-- how a query is run, and what is written beside its rows: the trace, and the intermediate of this number
pub record QueryOptions : Type 0 where
  pub lanes : ℕ
  pub strategy : Option Text
  pub trace : Bool
  pub dump : Option ℕ

-- how the demo is run, and the size of its fact table
pub record DemoOptions : Type 0 where
  pub lanes : ℕ
  pub strategy : Option Text
  pub seed : ℕ
  pub rows : ℕ

pub data Command : Type 0 where
  -- with the word that stands for the table, whatever it is
  import : Text → Command
  export : Text → Command
  reformat : Text → Command
  check : Command
  explain : Command
  help : Command
  query : QueryOptions → Command
  demo : DemoOptions → Command
