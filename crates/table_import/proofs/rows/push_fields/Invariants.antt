use Rattle.csv.specs.Records.{fields_of}
use Rattle.table_import.proofs.PushLemmas.{Pushed}
use Rattle.table_import.proofs.rows.push_fields.Given as goal

-- the columns below the place have the fields so far
abbrev pub invariant-loop-place : goal.invariant-loop-place
invariant-loop-place l = Pushed l.row (fields_of l.record) l.initial.columns l.columns l.place
