use Rattle.std.proofs.Common.{◌≡◌, refl, [], arith}
use Rattle.table_import.specs.Reads.{Gives}
use Rattle.table_import.specs.Records.{records_in, without_header}
use Rattle.table_import.proofs.rows.import_rows.Goals as goal

pub returns-then-not-branch-clause-rows : goal.returns-then-not-branch-clause-rows
returns-then-not-branch-clause-rows c =
    let table = c.args.table.now in
    let records = records_in table.separator c.args.text.now in
    let none : without_header table.header records ≡ [] = rw c.if-not-branch.true at (c.in_ok-pass_header.ensures.passed table.separator records c.reader_of-reader.ensures) in
    record { all = []; gives = rw none refl; few = omega arith; rows = c.requires.begun }

pub returns-clause-rows : goal.returns-clause-rows
returns-clause-rows c =
    let table = c.args.table.now in
    let records = records_in table.separator c.args.text.now in
    let gives : Gives table.separator c.pass_header.new.reader (without_header table.header records) = rw c.if-not-branch.false at (c.in_ok-pass_header.ensures.passed table.separator records c.reader_of-reader.ensures) in
    c.read_rows.ensures.rows (without_header table.header records) gives

pub returns-clause-refused : goal.returns-clause-refused
returns-clause-refused c =
    let table = c.args.table.now in
    let records = records_in table.separator c.args.text.now in
    let gives : Gives table.separator c.pass_header.new.reader (without_header table.header records) = rw c.if-not-branch.false at (c.in_ok-pass_header.ensures.passed table.separator records c.reader_of-reader.ensures) in
    c.read_rows.ensures.refused (without_header table.header records) gives
