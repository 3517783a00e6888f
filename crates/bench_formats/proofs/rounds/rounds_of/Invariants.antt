use Rattle.std.proofs.Common.{All}
use Rattle.definitions_blocks.specs.Packings.{IsBlock}
use Rattle.bench_formats.proofs.rounds.rounds_of.Given as goal

-- each block so far is encoded, under its head
abbrev pub invariant-loop-number : goal.invariant-loop-number
invariant-loop-number g l = All (λ block. IsBlock g.P.Packing.encodes g.P.Packing.block_head l.param block.head block.bytes.items) l.blocks.items
