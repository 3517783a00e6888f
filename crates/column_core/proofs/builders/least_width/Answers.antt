use Rattle.std.proofs.Common.{◌≡◌, ◌*◌, ◌/◌, length, sym, ap, ◌∙◌, arith}
use Rattle.std.proofs.lemmas.List.{take_all}
use Rattle.definitions_blocks.specs.Blocks.{block_values}
use Rattle.definitions_blocks.specs.Encodings.{width_of}
use Rattle.definitions_columns.specs.ColumnFiles.{whole_blocks}
use Rattle.definitions_blocks.proofs.WidthLaws.{width_of-is}
use Rattle.column_core.proofs.builders.least_width.Goals as goal

pub returns-in-Static-clause-width : goal.returns-in-Static-clause-width
returns-in-Static-clause-width c =
    let values = c.args.whole.now in
    let all : whole_blocks values ≡ values = take_all (length values / block_values * block_values) values (omega (arith, c.requires)) in
    rw c.in-Static.is (sym (width_of-is c.width_of_values.result values c.width_of_values.ensures.least c.width_of_values.ensures.narrow) ∙ ap width_of (sym all))
