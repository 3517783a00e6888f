use Rattle.std.proofs.Common.{◌≡◌, length, get_or, sym, ap, ◌∙◌, arith}
use Rattle.definitions_blocks.specs.Differences.{least_of}
use Rattle.definitions_blocks.proofs.WordListLaws.{full_from}
use Rattle.cascade_formats.proofs.ReferenceBlocks.{reference_split, reference_zero, reference_fits}
use Rattle.cascade_formats.proofs.references.ReferenceTransform.allowed.Goals as goal

pub returns-then-values-eq-BLOCK_LEN : goal.returns-then-values-eq-BLOCK_LEN
returns-then-values-eq-BLOCK_LEN g c =
    let slice = c.as_slice-values.result.now in
    let ds = c.args.differences.now in
    let same : slice ≡ ds = c.as_slice-values.ensures.values in
    let long : length slice ≡ length ds = ap length same in (
      λ t.
          let can = c.can_be_raised.ensures.0 t in
          reference_split c.args.base ds (full_from slice ds same c.words_fit.ensures (omega arith)) (ap least_of (sym same) ∙ can.0)
          (λ i within. let small = can.1 i (omega arith) in let at : get_or slice i 0 ≡ get_or ds i 0 = ap (λ l. get_or l i 0) same in omega arith),
      λ s.
          c.can_be_raised.ensures.1 (
            ap least_of same ∙ reference_zero c.args.base s.0 ds s.1,
            λ i within. let small = reference_fits c.args.base s.0 ds s.1 i (omega arith) in let at : get_or slice i 0 ≡ get_or ds i 0 = ap (λ l. get_or l i 0) same in omega arith,
          ),
    )
