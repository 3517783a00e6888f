use Rattle.std.proofs.Common.{ap, arith}
use Rattle.column_core.specs.Columns.{encoding_of, reserve}
use Rattle.column_core.proofs.EncodedLemmas.{stored_is, blocks_as}
use Rattle.column_core.proofs.encodings.Encoded.adopt.Goals as goal

pub invariant_of-result-2 : goal.invariant_of-result-2
invariant_of-result-2 c =
    (blocks_as c.args.format c.args.width c.args.bytes.items c.args.starts.items c.result-1.given.0 c.requires.0 c.requires.1, omega arith, omega arith)

pub returns : goal.returns
returns c = λ values are. ap (encoding_of c.args.format c.args.width (reserve 0 0)) (stored_is c.args.format c.args.width c.args.bytes.items c.args.starts.items c.result-1.given.0 values are)
