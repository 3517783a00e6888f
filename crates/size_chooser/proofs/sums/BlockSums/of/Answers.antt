use Rattle.std.proofs.Common.{◌≡◌, refl, sym, subst, arith}
use Rattle.definitions_blocks.specs.Packed.{IsWidth}
use Rattle.definitions_blocks.specs.Formats.{Format, dynamic, runs, delta1_dynamic, delta16_dynamic, reference_dynamic, delta1_runs}
use Rattle.definitions_blocks.proofs.WordListLaws.{full_from}
use Rattle.definitions_columns.specs.Sizes.{block_size, blocks_size, whole_count}
use Rattle.size_chooser.proofs.SumLemmas.{blocks_size-one}
use Rattle.size_chooser.proofs.MeasureLemmas.{Says, says}
use Rattle.size_chooser.proofs.sums.BlockSums.of.Goals as goal

pub returns : goal.returns
returns c =
    let values = c.args.block.now in
    let is : Says c.survey_of-found.result values = says c.survey_of-found.result values (full_from values values refl c.words_fit.ensures c.requires) c.survey_of-found.ensures.survey in
    let one : (format : Format) → blocks_size format 0 values ≡ block_size format 0 values = λ format. blocks_size-one format 0 values c.requires in
    let count : whole_count values ≡ 1 = omega (arith, c.requires) in
    record {
      whole = omega (arith, c.requires);
      narrow = omega (arith, c.width_of_bits.ensures);
      widest = subst (λ w. IsWidth w values) (sym c.width_of_bits.ensures) is.widest;
      sizes = record {
        in_dynamic = omega (arith, c.packed_size.ensures, is.width, one dynamic);
        in_runs = omega (arith, c.survey_of-found.ensures.survey.runs_is, one runs);
        in_delta1_dynamic = omega (arith, c.packed_size-2.ensures, is.step_width, one delta1_dynamic);
        in_delta16_dynamic = omega (arith, c.packed_size-3.ensures, is.gap_width, one delta16_dynamic);
        in_reference_dynamic = omega (arith, c.packed_size-4.ensures, is.spread_width, one reference_dynamic);
        in_delta1_runs = omega (arith, c.survey_of-found.ensures.survey.step_runs_is, one delta1_runs);
      };
      bounded = record {
        dynamic = omega (arith, c.packed_size.ensures, count);
        runs = omega (arith, c.survey_of-found.ensures.few_runs, count);
        delta1_dynamic = omega (arith, c.packed_size-2.ensures, count);
        delta16_dynamic = omega (arith, c.packed_size-3.ensures, count);
        reference_dynamic = omega (arith, c.packed_size-4.ensures, count);
        delta1_runs = omega (arith, c.survey_of-found.ensures.few_step_runs, count);
      };
    }
