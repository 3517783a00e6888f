use Rattle.std.proofs.Common.{◌≡◌, true, [], ◌∷◌, ◌++◌, get_or, sym, subst}
use Rattle.definitions_blocks.specs.Formats.{IsColumnWidth}
use Rattle.definitions_columns.specs.ColumnFiles.{static_width_of, fits_columns}
use Rattle.definitions_columns.proofs.WidthLaws.{static_width_of-lawful, static_width_of-fits, fits_columns-front}
use Rattle.block_core.specs.Formats.{format_of}
use Rattle.block_core.proofs.PrefixLemmas.{next_holds}
use Rattle.column_core.specs.Columns.{Encoding}
use Rattle.bench_columns.proofs.writing.build.Goals as goal

pub new-requires : goal.new-requires
new-requires c =
    let lawful = static_width_of-lawful (format_of c.args.format) c.args.values.now (λ i within. (c.type_inv.values i).fits) in
    subst (IsColumnWidth (format_of c.args.format)) (sym c.requires.width) lawful

pub push-requires-clause-in_scope : goal.push-requires-clause-in_scope
push-requires-clause-in_scope c =
    let format = format_of c.args.format in
    let values = c.args.values.now in
    let number = c.loop-value.value-index in
    let all = static_width_of-fits format values (λ i within. (c.type_inv.values i).fits) in
    let next = next_holds (fits_columns format) (fits_columns-front format) c.args.static_width (static_width_of format values) c.requires.width number [] values c.loop-value-test.true all in
    subst (λ (e : Encoding). fits_columns (format_of e.format) e.width (e.values ++ get_or values number 0 ∷ []) ≡ true) (sym c.loop-value.invariant) next
