use Rattle.std.proofs.Common.{take, refl, ap, length, arith, length-append}
use Rattle.std.proofs.lemmas.List.{length-take}
use Rattle.definitions_blocks.proofs.WordListLaws.{words_in}
use Rattle.definitions_blocks.proofs.WordLaws.{AreOctets-take}
use Rattle.definitions_blocks.proofs.PlainLaws.{IsPlainBlock-size, IsPlainBlock-words_in}
use Rattle.block_formats.proofs.plain_blocks.WordsPacking.check.Goals as goal

pub returns-then-bytes-lt-BLOCK_BYTES : goal.returns-then-bytes-lt-BLOCK_BYTES
returns-then-bytes-lt-BLOCK_BYTES c = λ values encoding rest is e. omega (arith, ap length e, length-append encoding rest, IsPlainBlock-size values encoding is)

pub returns : goal.returns
returns c =
    let bytes = c.args.bytes.now in
    let front = take 8192 bytes in
    record {
      values = words_in 1024 front;
      encoded = IsPlainBlock-words_in front (omega (arith, length-take 8192 bytes)) (AreOctets-take 8192 bytes (λ k. (c.type_inv.bytes k).fits));
      headed = refl;
      within = omega arith;
    }
