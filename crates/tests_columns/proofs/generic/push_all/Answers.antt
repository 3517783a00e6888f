use Rattle.std.proofs.Common.{[], arith}
use Rattle.tests_columns.proofs.generic.push_all.Goals as goal

pub extend-requires : goal.extend-requires
extend-requires g c = ([], c.requires.empty, omega (arith, c.requires.few), c.requires.in_scope)
