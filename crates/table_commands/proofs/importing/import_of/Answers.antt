use Rattle.std.proofs.Common.{map}
use Rattle.table_core.specs.Views.{stored_of}
use Rattle.table_commands.specs.Databases.{definition_of}
use Rattle.table_commands.proofs.ImportLemmas.{few_values, stored_fit}
use Rattle.table_commands.proofs.importing.import_of.Goals as goal

pub stored_columns-requires-clause-few : goal.stored_columns-requires-clause-few
stored_columns-requires-clause-few c =
    let has = c.in_ok-imported.ensures.step in
    few_values has.count (definition_of c.args.found).columns c.in_ok-imported.imported.columns has.few has.fits.count has.fits.each

pub prepare-requires-clause-fits : goal.prepare-requires-clause-fits
prepare-requires-clause-fits c =
    let has = c.in_ok-imported.ensures.step in
    let are = rw (c.as_slice.ensures, c.definition.ensures) at c.in_ok-columns.ensures in
    stored_fit has.count (definition_of c.args.found).columns c.in_ok-imported.imported.columns (map stored_of c.in_ok-columns.columns) has.fits.each are
