use Rattle.chain_table.proofs.WalkLaws.{walks_meet_entries, walks_end}
use Rattle.chain_table.proofs.laws.walks.Goals as goal

pub returns-clause-meet : goal.returns-clause-meet
returns-clause-meet c = walks_meet_entries

pub returns-clause-end : goal.returns-clause-end
returns-clause-end c = walks_end
