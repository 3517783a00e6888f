-- How a full block is encoded in each format.
use Rattle.std.specs.Prelude.{◌≡◌, ℕ, ◌^◌, ◌<◌, Bool, not, nat_lt, List, ◌∷◌, ◌++◌}
use Rattle.std.specs.List.{list_all, prefix_len, range_with_len}
use Rattle.definitions_blocks.specs.Words.{word_bytes, words_of}
use Rattle.definitions_blocks.specs.Blocks.{IsFull}
use Rattle.definitions_blocks.specs.Packed.{IsPacked}

-- whether each value is below 2^width
abbrev pub fits_width : List ℕ → ℕ → Bool
fits_width values width = list_all (λ value. nat_lt value (2 ^ width)) values

-- the least width from 0 to 64 that holds the values, which is the one of `IsWidth`
unfoldable pub width_of : List ℕ → ℕ
width_of values = prefix_len (λ width. not (fits_width values width)) (range_with_len 0 65)

-- `plain`: the values as words
pub record IsPlainBlock (values bytes : List ℕ) : Type 0 where
  pub full : IsFull values
  pub encoded : bytes ≡ words_of values

-- `dynamic`: a byte for the least width, and the block packed at it
pub record IsDynamicBlock (values bytes : List ℕ) : Type 0 where
  pub full : IsFull values
  pub packed : List ℕ
  pub packing : IsPacked (width_of values) values packed
  pub encoded : bytes ≡ width_of values ∷ packed

-- a cascade: the block's base in eight bytes, and then its differences as another format encodes them
pub record IsCascade (base_of : List ℕ → ℕ) (differences_of : List ℕ → List ℕ) (encodes : List ℕ → List ℕ → Type 0) (values bytes : List ℕ) : Type 0 where
  pub full : IsFull values
  pub word : base_of values < 2 ^ 64
  pub inner : List ℕ
  pub differences : encodes (differences_of values) inner
  pub encoded : bytes ≡ word_bytes (base_of values) ++ inner
