use Rattle.std.proofs.Common.{sym, ◌∙◌, subst}
use Rattle.definitions_blocks.specs.Formats.{plain}
use Rattle.definitions_columns.specs.ColumnFiles.{first, IsFileOf}
use Rattle.block_core.specs.declared.formats.Format.TheVariants as format
use Rattle.tests_columns.specs.Tens.{tens}
use Rattle.tests_columns.proofs.FirstFiles.{tens_are_a_file}
use Rattle.tests_columns.proofs.versions.upgraded.Goals as goal

pub upgrade-requires : goal.upgrade-requires
upgrade-requires c = (format.Plain, tens, subst (IsFileOf first plain tens) (sym (c.from_vec.ensures ∙ c.in_ok-from_slice.ensures.items)) tens_are_a_file)

pub returns : goal.returns
returns c = c.upgrade.ensures format.Plain tens (subst (IsFileOf first plain tens) (sym (c.from_vec.ensures ∙ c.in_ok-from_slice.ensures.items)) tens_are_a_file)
