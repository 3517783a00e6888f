-- The formats of the code.
use Rattle.std.specs.Prelude.{ℕ, List}
use Rattle.definitions_blocks.specs.Formats as formats
use Rattle.block_core.specs.declared.formats.Format.{Format}
use Rattle.block_core.specs.declared.formats.Format.TheVariants as format

-- what a variant stands for
abbrev pub format_of : Format → formats.Format
format_of format.Plain = formats.plain
format_of format.Static = formats.static
format_of format.Dynamic = formats.dynamic
format_of format.Runs = formats.runs
format_of format.Delta1Dynamic = formats.delta1_dynamic
format_of format.Delta16Dynamic = formats.delta16_dynamic
format_of format.ReferenceDynamic = formats.reference_dynamic
format_of format.Delta1Runs = formats.delta1_runs

abbrev pub tag_of : Format → ℕ
tag_of format = formats.tag_of (format_of format)

abbrev pub name_of : Format → List ℕ
name_of format = formats.name_of (format_of format)
