use Rattle.std.proofs.Common.{◌≡◌, ◌-◌, length, drop, arith}
use Rattle.std.proofs.lemmas.List.{length-take, length-drop}
use Rattle.column_core.proofs.blocks.append.Goals as goal

pub encode-requires-clause-encoded : goal.encode-requires-clause-encoded
encode-requires-clause-encoded g c =
    let encoding = c.requires.0 in
    let size : c.byte_len.result ≡ length encoding = c.byte_len.ensures encoding (record { values = c.args.full.now; encoded = c.requires.2; headed = c.head_of-head.ensures }) in
    let all = c.deref_mut.result.now in
    let grown = c.in_ok-resize.ensures.len in
    (encoding, c.requires.2, omega (arith, size, grown, c.deref_mut.ensures.len, length-take (length all - c.len-start.result) (drop c.len-start.result all), length-drop c.len-start.result all))
