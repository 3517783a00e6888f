use Rattle.std.proofs.Common.{◌≡◌, ◌+◌, ◌*◌, ◌/◌, ℕ, List, length, sym, ap, ◌∙◌, subst, rules}
use Rattle.block_core.specs.Formats.{format_of}
use Rattle.definitions_columns.specs.Tails.{packed_len}
use Rattle.definitions_columns.specs.ColumnFiles.{second, tail_width_of}
use Rattle.definitions_columns.specs.Sizes.{size_of}
use Rattle.definitions_columns.proofs.SizeLaws.{IsColumnFile-size}
use Rattle.size_chooser.specs.FormatSizes.{FormatKept, format_kept, IsFormatSizeOf}
use Rattle.size_chooser.proofs.FormatSumLemmas.{size_is}
use Rattle.size_chooser.proofs.format_sizes.FormatSize.size.Goals as goal

pub returns : goal.returns
returns c =
    let tally = c.self.inside.tally in
    let sum = tally.meter in
    let own : FormatKept = format_kept tally.count tally.block sum in
    let waiting : c.as_slice-waiting.result.now ≡ tally.block = c.as_slice-waiting.ensures.values in
    let end : c.packed_len-tail.result ≡ packed_len (length tally.block) (tail_width_of second (format_of sum.format) tally.block) =
    c.packed_len-tail.ensures.size ∙ ap (packed_len (length c.as_slice-waiting.result.now)) c.tail_width.ensures.width
    ∙ ap (λ (l : List ℕ). packed_len (length l) (tail_width_of second (format_of sum.format) l)) waiting in
    let made : (values : List ℕ) → IsFormatSizeOf c.args.self.now values
    → c.start_of.result + (128 * c.from.result * (tally.count / 1024) + sum.size) + c.packed_len-tail.result ≡ size_of (format_of c.args.self.now.sum.format) values = λ values is.
    size_is own values c.start_of.result c.from.result c.packed_len-tail.result (subst (λ k. IsFormatSizeOf k values) (sym c.self.view_is) is) (search rules) c.start_of.ensures.start end
    ∙ ap (λ k. size_of (format_of k.sum.format) values) c.self.view_is in
    record {
      size = made;
      length = λ values bytes is file. made values is ∙ sym (IsColumnFile-size (format_of c.args.self.now.sum.format) values bytes file);
    }
