use Rattle.std.proofs.Common.{◌≡◌, Bool, false, if◌then◌else◌, sym, ap, ◌∙◌, refl}
use Rattle.definitions_blocks.specs.Encodings.{width_of}
use Rattle.definitions_blocks.proofs.WidthLaws.{width_of-is}
use Rattle.definitions_columns.specs.ColumnFiles.{second, has_word_tail}
use Rattle.block_core.specs.declared.formats.Format.{Format}
use Rattle.block_core.specs.declared.formats.Format.TheVariants as format
use Rattle.block_core.specs.Formats.{format_of}
use Rattle.size_chooser.proofs.format_sizes.tail_width.Goals as goal

packed : (f : Format) → (f ≡ format.Plain → ⊥) → has_word_tail second (format_of f) ≡ false
packed format.Plain other = absurd (other refl)
packed format.Static other = refl
packed format.Dynamic other = refl
packed format.Runs other = refl
packed format.Delta1Dynamic other = refl
packed format.Delta16Dynamic other = refl
packed format.ReferenceDynamic other = refl
packed format.Delta1Runs other = refl

pub returns-in_default : goal.returns-in_default
returns-in_default c =
    let tail = c.args.tail.now in
    let least = sym (width_of-is c.width_of_values.result tail c.width_of_values.ensures.least c.width_of_values.ensures.narrow) in
    record {
      narrow = c.width_of_values.ensures.narrow;
      width = least ∙ sym (ap (λ b. if b then 64 else width_of tail) (packed c.args.format c.in_default.not-Plain));
    }
