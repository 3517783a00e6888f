use Rattle.std.proofs.Common.{sym, ◌∙◌}
use Rattle.definitions_columns.specs.ColumnFiles.{second}
use Rattle.definitions_columns.proofs.FileLaws.{one_file}
use Rattle.block_core.specs.Formats.{format_of}
use Rattle.column_core.proofs.ColumnLemmas.{held}
use Rattle.column_core.proofs.columns.Column.encoded.Goals as goal

pub returns-clause-one : goal.returns-clause-one
returns-clause-one c = λ bytes file.
    let is = held c.self.inside.format c.self.inside.stored.0 c.args.self.now c.self.inside.static_width c.self.inside.tail_width c.self.inside.count c.self.inside.bytes.items c.self.view_is c.self.invariant in
    one_file second (format_of c.args.self.now.format) c.args.self.now.values bytes c.self.inside.bytes.items file is.file ∙ sym c.as_slice.ensures.value
