use Rattle.std.proofs.Common.{◌≡◌, ◌∙◌, ℕ, Bool, true, false, nat_lt, sym, ap, rules}
use Rattle.std.specs.List.{list_all}
use Rattle.definitions_blocks.specs.Blocks.{block_at}
use Rattle.table_core.proofs.CodeLemmas.{passed_more, failed_at}
use Rattle.table_core.proofs.codes.is_below.Goals as goal

pub returns-then-not-are_below : goal.returns-then-not-are_below
returns-then-not-are_below c =
    let test : ℕ → Bool = λ value. nat_lt value c.args.bound in
    let values = c.args.column.now.values in
    let block : c.as_slice.result.now ≡ block_at values c.loop-number.number =
    c.as_slice.ensures.values ∙ c.block.ensures.values ∙ ap (λ l. block_at l c.loop-number.number) c.loop-number.invariant.source in
    let failed : c.are_below.result ≡ false = search rules in
    sym (failed_at test values c.loop-number.number (ap (list_all test) (sym block) ∙ sym c.are_below.ensures ∙ failed))

pub loop-number-preserved : goal.loop-number-preserved
loop-number-preserved c =
    let test : ℕ → Bool = λ value. nat_lt value c.args.bound in
    let values = c.args.column.now.values in
    let block : c.as_slice.result.now ≡ block_at values c.loop-number.number =
    c.as_slice.ensures.values ∙ c.block.ensures.values ∙ ap (λ l. block_at l c.loop-number.number) c.loop-number.invariant.source in
    let passed : c.are_below.result ≡ true = search rules in
    record {
      below = passed_more test values c.loop-number.number c.loop-number.invariant.below (ap (list_all test) (sym block) ∙ sym c.are_below.ensures ∙ passed);
      source = c.block.ensures.list ∙ c.loop-number.invariant.source;
    }
