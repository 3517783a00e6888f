use Rattle.std.proofs.Common.{◌≡◌, ℕ, ◌%◌, List, length, true, false, sym, ◌∙◌, subst, eq-eqb}
use Rattle.std.proofs.lemmas.Bool.{eqb-true}
use Rattle.definitions_blocks.specs.Blocks.{block_values}
use Rattle.definitions_blocks.specs.Packed.{IsWidth}
use Rattle.definitions_blocks.proofs.WidthLaws.{width_of-is}
use Rattle.definitions_columns.specs.Tails.{IsPackedTail}
use Rattle.definitions_columns.specs.ColumnFiles.{has_word_tail, tail_width_of}
use Rattle.block_core.specs.Formats.{format_of}
use Rattle.column_core.specs.Heads.{version_of}
use Rattle.column_file.proofs.EntryLemmas.{packed_width}
use Rattle.column_file.proofs.tails.is_tail.Goals as goal

-- the width that was found is the tail's
found : (c : goal.After-width_of) (tail : List ℕ) → length tail ≡ c.args.head.count % block_values → IsPackedTail c.args.head.tail_width tail c.args.bytes.now
    → tail_width_of (version_of c.args.head.version) (format_of c.args.head.format) tail ≡ c.width_of.result
found c tail long packed =
    let packs : has_word_tail (version_of c.args.head.version) (format_of c.args.head.format) ≡ false = cc in
    packed_width (has_word_tail (version_of c.args.head.version) (format_of c.args.head.format)) tail packs
    ∙ width_of-is c.width_of.result tail (subst (IsWidth c.width_of.result) (c.unpack.ensures tail packed long) c.width_of.ensures.least) c.width_of.ensures.narrow

pub returns : goal.returns
returns c = (
  λ same.
      let checked : c.check.result ≡ true = cc in
      let tail = c.check.ensures.0 checked in
      (tail.0, tail.1, tail.2, sym (found c tail.0 tail.1 tail.2 ∙ eqb-true c.width_of.result c.args.head.tail_width same)),
  λ tail. eq-eqb c.width_of.result c.args.head.tail_width (sym (tail.3 ∙ found c tail.0 tail.1 tail.2)),
)
