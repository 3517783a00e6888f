use Rattle.std.proofs.Common.{ℕ, List, take, drop, Option, Some, None, MatchOption, refl, sym}
use Rattle.std.specs.Option.{IsSome}
use Rattle.std.proofs.lemmas.List.{take-append-drop}
use Rattle.definitions_blocks.specs.Formats.{Format, LacksBlock, BeginsWithBlock}
use Rattle.block_core.specs.Formats.{format_of}
use Rattle.column_core.proofs.upgrades.len_of_block.Goals as goal

-- bytes that begin with a block do not lack one
some : (found : Option ℕ) (format : Format) (width : ℕ) (bytes : List ℕ) (count : ℕ) → BeginsWithBlock format width bytes count
    → MatchOption found (LacksBlock format width bytes) (λ n. BeginsWithBlock format width bytes n) → IsSome found
some None format width bytes count begins lacks = absurd (lacks begins.values (take count bytes) (drop count bytes) begins.encoded (sym (take-append-drop count bytes)))
some (Some n) format width bytes count begins found = refl

pub unwrap-requires : goal.unwrap-requires
unwrap-requires c = some c.check_block.result (format_of c.args.format) c.args.static_width c.args.bytes.now c.requires.begins.0 c.requires.begins.1 c.check_block.ensures
