use Rattle.command_words.proofs.NameLemmas.{name_changes_nothing}
use Rattle.command_words.proofs.laws.name_changes_nothing.Goals as goal

pub returns : goal.returns
returns c = name_changes_nothing
