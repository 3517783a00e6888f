use Rattle.definitions_operators.proofs.PlaceLaws.{one_position_list}
use Rattle.scan_ops.proofs.laws.one_position_list.Goals as goal

pub returns : goal.returns
returns c = one_position_list
