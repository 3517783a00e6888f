-- The static width of a list is that of its whole blocks.
use Rattle.std.proofs.Common.{◌≡◌, ◌*◌, ◌/◌, ℕ, List, length, take, if◌then◌else◌, ap, ◌∙◌, arith}
use Rattle.std.proofs.lemmas.List.{take-take, length-take}
use Rattle.definitions_blocks.specs.Blocks.{block_values}
use Rattle.definitions_blocks.specs.Encodings.{width_of}
use Rattle.definitions_blocks.specs.Formats.{Format, has_static_width}
use Rattle.definitions_columns.specs.ColumnFiles.{whole_blocks, static_width_of}

whole_blocks-whole : (values : List ℕ) → whole_blocks (whole_blocks values) ≡ whole_blocks values
whole_blocks-whole values =
    let end = length values / block_values * block_values in
    let all : length (take end values) / block_values * block_values ≡ end = omega (arith, length-take end values) in
    ap (λ n. take n (take end values)) all ∙ take-take end end values (omega arith)

pub static_width_of-whole : (format : Format) (values : List ℕ) → static_width_of format (whole_blocks values) ≡ static_width_of format values
static_width_of-whole format values = ap (λ blocks. if has_static_width format then width_of blocks else 0) (whole_blocks-whole values)
