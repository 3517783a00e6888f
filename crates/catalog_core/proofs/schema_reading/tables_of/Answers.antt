use Rattle.std.proofs.Common.{rules, arith, ◌≡◌, true}
use Rattle.std.specs.Result.{is_ok}
use Rattle.toml.specs.View.{view}
use Rattle.catalog_core.specs.Schemas.{table_of}
use Rattle.definitions_outcomes.proofs.ComputedLaws.{loop_goes, loop_stops, handed_on}
use Rattle.catalog_core.proofs.schema_reading.tables_of.Goals as goal

pub returns-in_err-table-clause-refused : goal.returns-in_err-table-clause-refused
returns-in_err-table-clause-refused c =
    let l = c.loop-value in
    let refusal = c.in_err-table.field-0.0 in
    handed_on c.from_residual.result refusal _ c.from_residual.ensures.1
    (λ other. loop_stops table_of view c.args.values.now _ l.tables.items l.number l.value-index c.value-item.result
    (search rules) c.value-item.is refusal (c.in_err-table.ensures other) l.invariant.walked)

pub loop-value-preserved : goal.loop-value-preserved
loop-value-preserved c =
    let l = c.loop-value in
    let good : is_ok c.push.result ≡ true = search rules in
    let items = rw good at c.push.ensures.items in
    record {
      place = omega (arith, l.invariant.place);
      walked = rw items (loop_goes table_of view c.args.values.now _ l.tables.items l.number l.value-index c.value-item.result
          (search rules) c.value-item.is c.in_ok-table.table c.in_ok-table.ensures l.invariant.walked);
    }
