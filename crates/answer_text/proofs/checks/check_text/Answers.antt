use Rattle.std.proofs.Common.{◌≡◌, ◌∙◌, ◌+◌, ◌<◌, ◌≤◌, ◌++◌, [], Some, None, refl, ap, get_or, slice_get, length, arith}
use Rattle.std.proofs.lemmas.Option.{slice_get_read}
use Rattle.catalog_core.specs.declared.schemas.TableDef.{TableDef}
use Rattle.table_core.specs.Tables.{TableState}
use Rattle.answer_text.specs.Checks.{table_lines, check_text}
use Rattle.answer_text.proofs.LineLemmas.{lines_from, one_line_more, all_lines, same_count, same_columns, lines_there}
use Rattle.answer_text.proofs.checks.check_text.Goals as goal

no_table : TableState
no_table = record { key = None; rows = None; columns = [] }

pub push_table-requires-clause-same : goal.push_table-requires-clause-same
push_table-requires-clause-same c =
    let is : slice_get c.args.schema.now.tables c.loop-table.table ≡ Some c.index-definitions-table.result =
    rw (← c.as_slice-definitions.ensures) (slice_get_read c.as_slice-definitions.result.now _ c.loop-table.table c.index-definitions-table.result refl c.loop-table-test.true c.index-definitions-table.is) in
    same_columns c.args.schema.now c.args.tables.now c.loop-table.table c.index-definitions-table.result c.requires.held.of is

pub loop-table-preserved : goal.loop-table-preserved
loop-table-preserved c =
    let l = c.loop-table in
    let schema = c.args.schema.now in
    let tables = c.args.tables.now in
    let here : l.table < length schema.tables = rw (← c.as_slice-definitions.ensures) c.loop-table-test.true in
    let count = same_count schema tables c.requires.held.of in
    let one : c.index-definitions-table.result ≡ get_or schema.tables l.table c.index-definitions-table.result = rw (← c.as_slice-definitions.ensures) c.index-definitions-table.is in
    let written : c.push_table.new.text.items ≡ l.text.items ++ table_lines (get_or schema.tables l.table c.index-definitions-table.result) (get_or tables l.table no_table) =
    c.in_ok-push_table.ensures
    ∙ ap (λ lines. l.text.items ++ lines) (lines_there c.index-definitions-table.result tables l.table no_table (omega (arith, here, count)))
    ∙ ap (λ (definition : TableDef). l.text.items ++ table_lines definition (get_or tables l.table no_table)) one in
    ap (λ text. text ++ lines_from table_lines schema.tables tables (l.table + 1)) written
    ∙ one_line_more table_lines schema.tables tables l.table count [] l.text.items (check_text schema tables) c.index-definitions-table.result no_table here l.invariant

pub returns : goal.returns
returns c =
    let l = c.loop-table in
    let schema = c.args.schema.now in
    let tables = c.args.tables.now in
    let past : length schema.tables ≤ l.table = omega (arith, c.loop-table-test.false, ap length c.as_slice-definitions.ensures) in
    c.from_vec.ensures
    ∙ all_lines table_lines schema.tables tables l.table (same_count schema tables c.requires.held.of) [] l.text.items (check_text schema tables) past l.invariant
