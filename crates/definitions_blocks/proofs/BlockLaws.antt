-- In each format a full block has one encoding, and bytes begin with one block at most.
use Rattle.std.proofs.Common.{◌≡◌, ℕ, ◌≤◌, List, [], ◌++◌, length, refl, arith}
use Rattle.definitions_blocks.specs.Words.{AreOctets, words_of}
use Rattle.definitions_blocks.specs.Blocks.{IsFull}
use Rattle.definitions_blocks.specs.Differences.{first_of, delta1_of, delta16_of, least_of, reference_of}
use Rattle.definitions_blocks.specs.Encodings.{width_of, IsDynamicBlock}
use Rattle.definitions_blocks.specs.Runs.{run_count, IsRunsBlock}
use Rattle.definitions_blocks.specs.Formats.{Format, plain, static, dynamic, runs, delta1_dynamic, delta16_dynamic, reference_dynamic, delta1_runs, BlockOf, IsColumnWidth, FitsFormat}
use Rattle.definitions_blocks.proofs.PackedLaws.{packed_bytes, packed_one_encoding, packed_prefix, IsPacked-encoding, IsPacked-full}
use Rattle.definitions_blocks.proofs.PlainLaws.{IsPlainBlock-encoding, IsPlainBlock-one, IsPlainBlock-size, IsPlainBlock-octets, IsPlainBlock-front}
use Rattle.definitions_blocks.proofs.DynamicLaws.{dynamic_bytes, IsDynamicBlock-encoding, IsDynamicBlock-one, IsDynamicBlock-size, IsDynamicBlock-octets, IsDynamicBlock-front}
use Rattle.definitions_blocks.proofs.DeltaLaws.{first_of-word, delta1_of-full, delta16_of-full, delta1_laws, delta16_laws}
use Rattle.definitions_blocks.proofs.ReferenceLaws.{least_of-word, reference_of-full, reference_laws}
use Rattle.definitions_blocks.proofs.RunListLaws.{runs_of, IsRunCount, IsFull-run_count}
use Rattle.definitions_blocks.proofs.RunBlockLaws.{runs_encoding, IsRunsBlock-encoding, IsRunsBlock-one, IsRunsBlock-length, IsRunsBlock-octets, IsRunsBlock-front}
use Rattle.definitions_blocks.proofs.CascadeLaws.{IsEncoding, IsEncoding-cascade, IsCascade-size, IsCascade-encoding}

dynamic_laws : IsEncoding IsDynamicBlock
dynamic_laws = record { full = λ values bytes is. is.full; octets = IsDynamicBlock-octets; one = IsDynamicBlock-one; front = IsDynamicBlock-front }

runs_laws : IsEncoding IsRunsBlock
runs_laws = record { full = λ values bytes is. is.full; octets = IsRunsBlock-octets; one = IsRunsBlock-one; front = IsRunsBlock-front }

pub BlockOf-laws : (format : Format) (width : ℕ) → IsEncoding (BlockOf format width)
BlockOf-laws plain width = record { full = λ values bytes is. is.full; octets = IsPlainBlock-octets; one = IsPlainBlock-one; front = IsPlainBlock-front }
BlockOf-laws static width = record { full = IsPacked-full width; octets = λ values bytes is. is.octets; one = packed_one_encoding width; front = packed_prefix width }
BlockOf-laws dynamic width = dynamic_laws
BlockOf-laws runs width = runs_laws
BlockOf-laws delta1_dynamic width = IsEncoding-cascade first_of delta1_of IsDynamicBlock delta1_laws dynamic_laws
BlockOf-laws delta16_dynamic width = IsEncoding-cascade first_of delta16_of IsDynamicBlock delta16_laws dynamic_laws
BlockOf-laws reference_dynamic width = IsEncoding-cascade least_of reference_of IsDynamicBlock reference_laws dynamic_laws
BlockOf-laws delta1_runs width = IsEncoding-cascade first_of delta1_of IsRunsBlock delta1_laws runs_laws

-- a block is a full one
pub BlockOf-full : (format : Format) (width : ℕ) (values bytes : List ℕ) → BlockOf format width values bytes → IsFull values
BlockOf-full format width values bytes is = (BlockOf-laws format width).full values bytes is

-- an encoding is bytes
pub BlockOf-octets : (format : Format) (width : ℕ) (values bytes : List ℕ) → BlockOf format width values bytes → AreOctets bytes
BlockOf-octets format width values bytes is = (BlockOf-laws format width).octets values bytes is

-- a block has one encoding
pub BlockOf-one : (format : Format) (width : ℕ) (values a b : List ℕ) → BlockOf format width values a → BlockOf format width values b → a ≡ b
BlockOf-one format width values a b p q = (BlockOf-laws format width).one values a b p q

-- no encoding is a proper prefix of another, and bytes are the encoding of one block at most
pub BlockOf-front : (format : Format) (width : ℕ) (values others a b x y : List ℕ) → BlockOf format width values a → BlockOf format width others b → a ++ x ≡ b ++ y → (a ≡ b) × (values ≡ others)
BlockOf-front format width values others a b x y p q e = (BlockOf-laws format width).front values others a b x y p q e

pub BlockOf-values : (format : Format) (width : ℕ) (values others bytes : List ℕ) → BlockOf format width values bytes → BlockOf format width others bytes → values ≡ others
BlockOf-values format width values others bytes p q = (BlockOf-front format width values others bytes bytes [] [] p q refl).1

-- How long an encoding is at most: a base, a count of runs, and 1,024 runs.

dynamic_short : (values bytes : List ℕ) → IsDynamicBlock values bytes → length bytes ≤ 8193
dynamic_short values bytes is = let narrow : width_of values ≤ 64 = is.packing.narrow in omega (arith, IsDynamicBlock-size values bytes is)

runs_short : (values bytes : List ℕ) → IsRunsBlock values bytes → length bytes ≤ 10242
runs_short values bytes is =
    let few : IsRunCount (run_count values) = IsFull-run_count values is.full in
    omega (arith, IsRunsBlock-length values bytes is, few.most)

pub BlockOf-short : (format : Format) (width : ℕ) (values bytes : List ℕ) → BlockOf format width values bytes → length bytes ≤ 10250
BlockOf-short plain width values bytes is = omega (arith, IsPlainBlock-size values bytes is)
BlockOf-short static width values bytes is = omega (arith, is.size, is.narrow)
BlockOf-short dynamic width values bytes is = omega (arith, dynamic_short values bytes is)
BlockOf-short runs width values bytes is = omega (arith, runs_short values bytes is)
BlockOf-short delta1_dynamic width values bytes is = omega (arith, IsCascade-size first_of delta1_of IsDynamicBlock values bytes is, dynamic_short (delta1_of values) is.inner is.differences)
BlockOf-short delta16_dynamic width values bytes is = omega (arith, IsCascade-size first_of delta16_of IsDynamicBlock values bytes is, dynamic_short (delta16_of values) is.inner is.differences)
BlockOf-short reference_dynamic width values bytes is = omega (arith, IsCascade-size least_of reference_of IsDynamicBlock values bytes is, dynamic_short (reference_of values) is.inner is.differences)
BlockOf-short delta1_runs width values bytes is = omega (arith, IsCascade-size first_of delta1_of IsRunsBlock values bytes is, runs_short (delta1_of values) is.inner is.differences)

-- each full block that fits the column's width has an encoding
pub BlockOf-encoding : (format : Format) (width : ℕ) (values : List ℕ) → IsColumnWidth format width → IsFull values → FitsFormat format width values → (bytes : List ℕ) × BlockOf format width values bytes
BlockOf-encoding plain width values lawful full fits = (words_of values, IsPlainBlock-encoding values full)
BlockOf-encoding static width values lawful full fits = (packed_bytes width values, IsPacked-encoding width values lawful full.whole fits)
BlockOf-encoding dynamic width values lawful full fits = (dynamic_bytes values, IsDynamicBlock-encoding values full)
BlockOf-encoding runs width values lawful full fits = (runs_encoding (runs_of values), IsRunsBlock-encoding values full)
BlockOf-encoding delta1_dynamic width values lawful full fits =
    IsCascade-encoding first_of delta1_of IsDynamicBlock values (dynamic_bytes (delta1_of values)) full (first_of-word values full) (IsDynamicBlock-encoding (delta1_of values) (delta1_of-full values full))
BlockOf-encoding delta16_dynamic width values lawful full fits =
    IsCascade-encoding first_of delta16_of IsDynamicBlock values (dynamic_bytes (delta16_of values)) full (first_of-word values full) (IsDynamicBlock-encoding (delta16_of values) (delta16_of-full values full))
BlockOf-encoding reference_dynamic width values lawful full fits =
    IsCascade-encoding least_of reference_of IsDynamicBlock values (dynamic_bytes (reference_of values)) full (least_of-word values full) (IsDynamicBlock-encoding (reference_of values) (reference_of-full values full))
BlockOf-encoding delta1_runs width values lawful full fits =
    IsCascade-encoding first_of delta1_of IsRunsBlock values (runs_encoding (runs_of (delta1_of values))) full (first_of-word values full) (IsRunsBlock-encoding (delta1_of values) (delta1_of-full values full))
