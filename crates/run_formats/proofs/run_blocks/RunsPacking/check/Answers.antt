use Rattle.std.proofs.Common.{◌≡◌, ◌+◌, ◌*◌, map, take, sym, ap, ◌∙◌, subst, arith}
use Rattle.definitions_blocks.specs.Runs.{run_values, IsRunsBlock}
use Rattle.definitions_blocks.specs.Words.{AreOctets}
use Rattle.run_formats.specs.Cells.{count_in, run_in, cells_in, BeginsWithRuns}
use Rattle.run_formats.proofs.FrontLaws.{FrontBlock, block_in_front, begins_with_block}
use Rattle.run_formats.proofs.run_blocks.RunsPacking.check.Goals as goal

pub returns-in-Some : goal.returns-in-Some
returns-in-Some c =
    let bytes = c.args.bytes.now in
    let octets : AreOctets bytes = λ k. (c.type_inv.bytes k).fits in
    let begins : BeginsWithRuns bytes = c.in-Some.ensures.0 in
    let runs : c.in-Some.runs ≡ count_in bytes = c.in-Some.ensures.1 in
    let values = run_values (map run_in (cells_in (count_in bytes) bytes)) in
    let front : FrontBlock bytes values = block_in_front bytes octets begins in
    let size : c.block_size.result ≡ 2 + 10 * count_in bytes = c.block_size.ensures ∙ ap (λ n. 2 + 10 * n) runs in
    record {
      values = values;
      encoded = subst (λ n. IsRunsBlock values (take n bytes)) (sym size) front.block;
      headed = runs ∙ front.headed;
      within = omega (arith, begins.whole);
    }

pub returns-in-None : goal.returns-in-None
returns-in-None c = λ values encoding rest is e. c.in-None.ensures (begins_with_block values encoding rest c.args.bytes.now is e)
