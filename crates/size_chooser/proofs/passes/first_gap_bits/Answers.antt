use Rattle.std.proofs.Common.{◌≡◌, bit_or, get_or, take, ap, ◌∙◌, arith}
use Rattle.definitions_blocks.specs.Differences.{difference, delta16_of}
use Rattle.definitions_blocks.proofs.DeltaLaws.{delta16_of-early}
use Rattle.size_chooser.specs.Surveys.{bits_of}
use Rattle.size_chooser.proofs.SurveyLemmas.{bits_of-more}
use Rattle.size_chooser.proofs.passes.first_gap_bits.Goals as goal

pub loop-place-preserved : goal.loop-place-preserved
loop-place-preserved c =
    let values = c.args.values.now in
    let place = c.loop-place.place in
    let all = c.loop-place.all in
    bits_of-more 16 values place all (bit_or all c.difference_of-all.result) (difference (get_or values place 0) (get_or values 0 0)) (omega arith) (omega arith) c.loop-place.invariant
    (ap (bit_or all) c.difference_of-all.ensures) (delta16_of-early values place (omega arith) (omega arith))

pub returns : goal.returns
returns c =
    let end : c.loop-place.place ≡ 16 = omega arith in
    c.loop-place.invariant ∙ ap (λ n. bits_of (delta16_of (take n c.args.values.now))) end
