-- A file of the first version, whose bytes were worked out by hand.
use Rattle.std.proofs.Common.{[], ◌∷◌, refl, arith}
use Rattle.definitions_blocks.specs.Words.{word_bytes, words_of}
use Rattle.definitions_blocks.specs.Formats.{plain}
use Rattle.definitions_columns.specs.ColumnFiles.{first, IsFileOf}
use Rattle.definitions_columns.proofs.TailLaws.{IsPackedTail-words}
use Rattle.tests_columns.specs.Tens.{tens}

-- a head and five words
pub tens_are_a_file : IsFileOf first plain tens
    (77 ∷ 67 ∷ 79 ∷ 76 ∷ 1 ∷ 0 ∷ 0 ∷ 0 ∷ 5 ∷ 0 ∷ 0 ∷ 0 ∷ 0 ∷ 0 ∷ 0 ∷ 0
    ∷ 10 ∷ 0 ∷ 0 ∷ 0 ∷ 0 ∷ 0 ∷ 0 ∷ 0 ∷ 20 ∷ 0 ∷ 0 ∷ 0 ∷ 0 ∷ 0 ∷ 0 ∷ 0 ∷ 30 ∷ 0 ∷ 0 ∷ 0 ∷ 0 ∷ 0 ∷ 0 ∷ 0
    ∷ 40 ∷ 0 ∷ 0 ∷ 0 ∷ 0 ∷ 0 ∷ 0 ∷ 0 ∷ 50 ∷ 0 ∷ 0 ∷ 0 ∷ 0 ∷ 0 ∷ 0 ∷ 0 ∷ [])
unfolding word_bytes
tens_are_a_file = record {
  column = record { few = omega arith; words = (omega arith, (omega arith, (omega arith, (omega arith, (omega arith, tt))))) };
  pieces = [];
  tail = tens;
  tail_bytes = words_of tens;
  blocks = tt;
  short = omega arith;
  packed = IsPackedTail-words tens (omega arith, (omega arith, (omega arith, (omega arith, (omega arith, tt)))));
  values_are = refl;
  bytes_are = refl;
}
