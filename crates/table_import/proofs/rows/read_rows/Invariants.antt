use Rattle.std.proofs.Common.{◌≡◌, List, map}
use Rattle.table_import.specs.Records.{Record}
use Rattle.table_import.specs.Reads.{Gives}
use Rattle.table_import.specs.Growing.{kind_of, kinds_of}
use Rattle.table_import.proofs.ReadLemmas.{rows_of, Standing}
use Rattle.table_import.proofs.rows.read_rows.Given as goal

-- the rows so far are in the columns, whatever records the reader gives
abbrev pub invariant-loop-done : goal.invariant-loop-done
invariant-loop-done l = record {
  kinds : map kind_of l.columns ≡ kinds_of l.table;
  standing : (records : List Record) → Gives l.table.separator l.initial.reader records → Standing l.table l.limit (rows_of l.table l.limit records) l.columns l.keys.keys l.reader l.done;
}
