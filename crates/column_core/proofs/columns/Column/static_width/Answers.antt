use Rattle.std.proofs.Common.{◌≡◌, true, sym, subst}
use Rattle.definitions_blocks.specs.Formats.{IsColumnWidth}
use Rattle.definitions_columns.specs.ColumnFiles.{fits_columns}
use Rattle.block_core.specs.Formats.{format_of}
use Rattle.column_core.proofs.ColumnLemmas.{held, lawful_width, fitting_width}
use Rattle.column_core.proofs.columns.Column.static_width.Goals as goal

pub returns-clause-lawful : goal.returns-clause-lawful
returns-clause-lawful c =
    let is = held c.self.inside.format c.self.inside.stored.0 c.args.self.now c.self.inside.static_width c.self.inside.tail_width c.self.inside.count c.self.inside.bytes.items c.self.view_is c.self.invariant in
    let f = format_of c.args.self.now.format in
    subst (IsColumnWidth f) (sym is.width_is) (lawful_width f c.args.self.now.values c.self.inside.bytes.items is.file)

pub returns-clause-fits : goal.returns-clause-fits
returns-clause-fits c =
    let is = held c.self.inside.format c.self.inside.stored.0 c.args.self.now c.self.inside.static_width c.self.inside.tail_width c.self.inside.count c.self.inside.bytes.items c.self.view_is c.self.invariant in
    let f = format_of c.args.self.now.format in
    subst (λ width. fits_columns f width c.args.self.now.values ≡ true) (sym is.width_is) (fitting_width f c.args.self.now.values c.self.inside.bytes.items is.file)
