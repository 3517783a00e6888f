use Rattle.std.proofs.Common.{ℕ, List, drop, length, Option, Some, None, MatchOption, refl}
use Rattle.std.specs.Option.{IsSome}
use Rattle.definitions_columns.specs.ColumnFiles as files
use Rattle.definitions_columns.specs.ColumnFiles.{IsFileOf}
use Rattle.block_core.specs.declared.formats.Format.{Format}
use Rattle.block_core.specs.Formats.{format_of}
use Rattle.column_core.specs.declared.heads.Head.{Head}
use Rattle.column_core.specs.Heads.{version_of, LacksHead, BeginsWithHead}
use Rattle.column_core.proofs.FileHeadLemmas.{file_head, head_is}
use Rattle.column_core.proofs.heads.head_of.Goals as goal

-- bytes that are a file begin with a head
some : (found : Option Head) (version : files.Version) (format : Format) (values bytes : List ℕ) → IsFileOf version (format_of format) values bytes
    → MatchOption found (LacksHead bytes) (λ head. BeginsWithHead (version_of head.version) (format_of head.format) head.static_width head.tail_width head.count bytes) → IsSome found
some None version format values bytes is lacks =
    let begins = file_head version (format_of format) values bytes is in
    absurd (lacks version (format_of format) _ _ (length values) (drop 16 bytes) begins.head begins.bytes_are)
some (Some head) version format values bytes is begins = refl

pub unwrap-requires : goal.unwrap-requires
unwrap-requires c = some c.read_head.result c.requires.0 c.requires.1 c.requires.2 c.args.file.now c.requires.3 c.read_head.ensures

pub returns : goal.returns
returns c = λ version format values is. head_is c.unwrap.result version format values c.args.file.now is (rw c.unwrap.ensures at c.read_head.ensures)
