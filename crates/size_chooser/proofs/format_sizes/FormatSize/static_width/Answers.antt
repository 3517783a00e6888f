use Rattle.std.proofs.Common.{ap, ◌∙◌}
use Rattle.definitions_columns.specs.ColumnFiles.{fits_columns}
use Rattle.block_core.specs.Formats.{format_of}
use Rattle.size_chooser.proofs.FormatSumLemmas.{told}
use Rattle.size_chooser.proofs.format_sizes.FormatSize.static_width.Goals as goal

pub returns-clause-width : goal.returns-clause-width
returns-clause-width c = λ values is. ap (λ k. k.sum.width) c.self.view_is ∙ (told c.args.self.now values is).width

pub returns-clause-fits : goal.returns-clause-fits
returns-clause-fits c = λ values is. ap (λ k. fits_columns (format_of c.args.self.now.sum.format) k.sum.width values) c.self.view_is ∙ (told c.args.self.now values is).fits
