use Rattle.std.proofs.Common.{ap, ◌∙◌}
use Rattle.definitions_blocks.specs.Encodings.{fits_width}
use Rattle.definitions_columns.specs.ColumnFiles.{whole_blocks}
use Rattle.size_chooser.proofs.ProfileLemmas.{tells}
use Rattle.size_chooser.proofs.profiles.Profile.static_width.Goals as goal

pub returns-clause-width : goal.returns-clause-width
returns-clause-width c = λ values is. ap (λ k. k.sums.width) c.self.view_is ∙ (tells c.args.self.now values is).width

pub returns-clause-fits : goal.returns-clause-fits
returns-clause-fits c = λ values is. ap (λ k. fits_width (whole_blocks values) k.sums.width) c.self.view_is ∙ (tells c.args.self.now values is).fits
