use Rattle.std.proofs.Common.{[], length, ap, arith}
use Rattle.definitions_columns.specs.ColumnFiles.{head_len}
use Rattle.block_core.specs.Formats.{format_of}
use Rattle.column_core.specs.Columns.{encoding_of, reserve}
use Rattle.column_core.proofs.EncodedLemmas.{stored_is, blocks_as, no_blocks}
use Rattle.column_core.proofs.encodings.Encoded.new.Goals as goal

pub invariant_of-result-2 : goal.invariant_of-result-2
invariant_of-result-2 c =
    let size = ap length (rw c.in_ok-bytes.ensures.items at c.in_ok-extend_from_slice.ensures.items) in
    let none = no_blocks (format_of c.args.format) c.args.width c.extend_from_slice.new.self.items c.new.result.items size c.new.ensures.items in
    (blocks_as c.args.format c.args.width c.extend_from_slice.new.self.items c.new.result.items c.result-1.given.0 [] none, omega arith, omega arith)

pub returns : goal.returns
returns c =
    let size = ap length (rw c.in_ok-bytes.ensures.items at c.in_ok-extend_from_slice.ensures.items) in
    let none = no_blocks (format_of c.args.format) c.args.width c.extend_from_slice.new.self.items c.new.result.items size c.new.ensures.items in
    ap (encoding_of c.args.format c.args.width (reserve 0 0)) (stored_is c.args.format c.args.width c.extend_from_slice.new.self.items c.new.result.items c.result-1.given.0 [] none)
