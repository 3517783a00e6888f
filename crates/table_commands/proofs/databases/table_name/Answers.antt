use Rattle.std.proofs.Common.{length, ap, arith}
use Rattle.table_commands.proofs.CheckLemmas.{table_name_at}
use Rattle.table_commands.proofs.databases.table_name.Goals as goal

pub bounds-as_slice-table : goal.bounds-as_slice-table
bounds-as_slice-table c = omega (arith, c.requires, ap length c.as_slice.ensures)

pub returns : goal.returns
returns c = rw c.as_slice.ensures (table_name_at c.args.schema.now c.args.table c.index-as_slice-table.result c.requires)
