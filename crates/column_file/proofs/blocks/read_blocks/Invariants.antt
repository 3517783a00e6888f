-- the blocks so far were read, each where the directory says
use Rattle.block_core.specs.Formats.{format_of}
use Rattle.column_core.specs.Heads.{version_of}
use Rattle.column_file.specs.Reading.{ReadSo}
use Rattle.column_file.proofs.blocks.read_blocks.Given as goal

abbrev pub invariant-loop-block : goal.invariant-loop-block
invariant-loop-block l = ReadSo (version_of l.head.version) (format_of l.head.format) l.head.static_width l.head.count l.block l.end l.widest l.bytes
