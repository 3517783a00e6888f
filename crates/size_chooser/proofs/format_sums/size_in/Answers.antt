use Rattle.std.proofs.Common.{◌≡◌, ◌-◌, ℕ, refl, sym, ap, ◌∙◌, arith, rules}
use Rattle.std.specs.Int.{leading_zeros, w64}
use Rattle.definitions_blocks.specs.Blocks.{IsFull}
use Rattle.definitions_blocks.specs.Differences.{delta1_of, delta16_of, least_of, reference_of}
use Rattle.definitions_blocks.specs.Encodings.{width_of}
use Rattle.definitions_blocks.proofs.WordListLaws.{full_from}
use Rattle.definitions_blocks.proofs.WidthLaws.{width_of-is}
use Rattle.definitions_blocks.proofs.DeltaLaws.{delta1_of-full, delta16_of-full}
use Rattle.size_chooser.specs.Surveys.{greatest_of}
use Rattle.size_chooser.proofs.BitLemmas.{width_from_bits, width_from_spread}
use Rattle.size_chooser.proofs.format_sums.size_in.Goals as goal

pub returns-in-Dynamic-clause-size : goal.returns-in-Dynamic-clause-size
returns-in-Dynamic-clause-size c =
    let values = c.args.block.now in
    let width : width_of values ≡ c.width_of_values.result = width_of-is c.width_of_values.result values c.width_of_values.ensures.least c.width_of_values.ensures.narrow in
    let read : c.from.result ≡ c.width_of_values.result = search rules in
    rw c.in-Dynamic.is (omega arith)

pub returns-in-Delta1Dynamic-clause-size : goal.returns-in-Delta1Dynamic-clause-size
returns-in-Delta1Dynamic-clause-size c =
    let values = c.args.block.now in
    let full : IsFull values = full_from values values refl c.words_fit.ensures c.requires in
    let width : width_of (delta1_of values) ≡ 64 - leading_zeros w64 c.step_bits.result = width_from_bits (delta1_of values) c.step_bits.result (delta1_of-full values full) c.step_bits.ensures in
    rw c.in-Delta1Dynamic.is (omega (arith, c.packed_size.ensures))

pub returns-in-Delta16Dynamic-clause-size : goal.returns-in-Delta16Dynamic-clause-size
returns-in-Delta16Dynamic-clause-size c =
    let values = c.args.block.now in
    let full : IsFull values = full_from values values refl c.words_fit.ensures c.requires in
    let width : width_of (delta16_of values) ≡ 64 - leading_zeros w64 c.gap_bits.result = width_from_bits (delta16_of values) c.gap_bits.result (delta16_of-full values full) c.gap_bits.ensures in
    rw c.in-Delta16Dynamic.is (omega (arith, c.packed_size-in-Delta16Dynamic.ensures))

pub returns-in-ReferenceDynamic-clause-size : goal.returns-in-ReferenceDynamic-clause-size
returns-in-ReferenceDynamic-clause-size c =
    let values = c.args.block.now in
    let full : IsFull values = full_from values values refl c.words_fit.ensures c.requires in
    let width : width_of (reference_of values) ≡ 64 - leading_zeros w64 c.spread_of.result =
    width_from_spread values (least_of values) (greatest_of values) full refl refl ∙ ap (λ (n : ℕ). 64 - leading_zeros w64 n) (sym c.spread_of.ensures) in
    rw c.in-ReferenceDynamic.is (omega (arith, c.packed_size-in-ReferenceDynamic.ensures))
