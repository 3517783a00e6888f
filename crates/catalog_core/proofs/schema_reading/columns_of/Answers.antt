use Rattle.std.proofs.Common.{rules, arith, ◌≡◌, ◌∙◌, sym, ap, true, ◌∷◌, []}
use Rattle.std.proofs.lemmas.List.{length-append}
use Rattle.std.specs.Prelude.{Ok, Err, Option, ok_or}
use Rattle.std.specs.Result.{is_ok}
use Rattle.toml.specs.View.{view}
use Rattle.catalog_core.specs.Schemas.{numbered_column}
use Rattle.catalog_core.specs.declared.schemas.ColumnDef.{ColumnDef}
use Rattle.catalog_core.specs.declared.errors.SchemaError.TheVariants.{Shape}
use Rattle.definitions_outcomes.proofs.ComputedLaws.{loop_goes, loop_stops}
use Rattle.catalog_core.proofs.schema_reading.columns_of.Goals as goal

pub returns-in_default : goal.returns-in_default
returns-in_default c =
    let l = c.loop-value in
    let refusal = Shape c.args.table l.place in
    let refuses : numbered_column c.args.table l.place (view c.value-item.result) ≡ Err refusal =
    ap (λ (o : Option ColumnDef). ok_or o refusal) (sym c.column_of.ensures ∙ c.in_default.is) in
    record {
      columns = λ _. loop_stops (numbered_column c.args.table) view c.args.values.now _ l.columns.items l.place l.value-index c.value-item.result
          (search rules) c.value-item.is refusal refuses l.invariant.walked;
      few = tt;
    }

pub loop-value-preserved : goal.loop-value-preserved
loop-value-preserved c =
    let l = c.loop-value in
    let refusal = Shape c.args.table l.place in
    let gives : numbered_column c.args.table l.place (view c.value-item.result) ≡ Ok c.in-Some.column =
    ap (λ (o : Option ColumnDef). ok_or o refusal) (sym c.column_of.ensures ∙ c.in-Some.is) in
    let good : is_ok c.push.result ≡ true = search rules in
    let items = rw good at c.push.ensures.items in
    record {
      place = omega (arith, l.invariant.place);
      few = rw (items, length-append l.columns.items (c.in-Some.column ∷ [])) (omega (arith, l.invariant.few));
      walked = rw items (loop_goes (numbered_column c.args.table) view c.args.values.now _ l.columns.items l.place l.value-index c.value-item.result
          (search rules) c.value-item.is c.in-Some.column gives l.invariant.walked);
    }

pub returns-clause-few : goal.returns-clause-few
returns-clause-few c = rw c.from_vec.ensures (omega (arith, c.loop-value.invariant.few))
