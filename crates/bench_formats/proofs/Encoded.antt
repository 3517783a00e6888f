-- Each full block has an encoding in each format, and none is long.
use Rattle.std.proofs.Common.{ℕ, ◌^◌, ◌<◌, ◌≤◌, List, ◌++◌, length, refl, arith, length-append}
use Rattle.definitions_blocks.specs.Words.{word_bytes}
use Rattle.definitions_blocks.specs.Blocks.{IsFull}
use Rattle.definitions_blocks.specs.Runs.{IsRunsBlock}
use Rattle.definitions_blocks.specs.Encodings.{IsDynamicBlock, IsCascade}
use Rattle.definitions_blocks.specs.Differences.{first_of, delta1_of, delta16_of, least_of, reference_of}
use Rattle.definitions_blocks.proofs.WordLaws.{length-word_bytes}
use Rattle.definitions_blocks.proofs.WidthLaws.{AreBelow-words, width_of-narrow}
use Rattle.definitions_blocks.proofs.DynamicLaws.{IsDynamicBlock-encoding, IsDynamicBlock-size}
use Rattle.definitions_blocks.proofs.RunListLaws.{IsFull-run_count}
use Rattle.definitions_blocks.proofs.RunBlockLaws.{IsRunsBlock-length, IsRunsBlock-encoding}
use Rattle.definitions_blocks.proofs.DeltaLaws.{first_of-word, delta1_of-full, delta16_of-full}
use Rattle.definitions_blocks.proofs.ReferenceLaws.{least_of-word, reference_of-full}

-- an encoding of at most so many bytes
record HasEncoding (most : ℕ) (encodes : List ℕ → List ℕ → Type 0) (values : List ℕ) : Type 0 where
  bytes : List ℕ
  short : length bytes ≤ most
  encoded : encodes values bytes

dynamic_encoding : (values : List ℕ) → IsFull values → HasEncoding 10242 IsDynamicBlock values
dynamic_encoding values full =
    let is = IsDynamicBlock-encoding values full in
    let narrow = width_of-narrow values (AreBelow-words values full.words) in
    record { bytes = _; short = omega (arith, IsDynamicBlock-size values _ is, narrow); encoded = is }

runs_encoding_of : (values : List ℕ) → IsFull values → HasEncoding 10242 IsRunsBlock values
runs_encoding_of values full =
    let is = IsRunsBlock-encoding values full in
    let few = IsFull-run_count values full in
    record { bytes = _; short = omega (arith, IsRunsBlock-length values _ is, few.most); encoded = is }

cascade_encoding : (base_of : List ℕ → ℕ) (differences_of : List ℕ → List ℕ) (encodes : List ℕ → List ℕ → Type 0) (values : List ℕ) → IsFull values → base_of values < 2 ^ 64
    → HasEncoding 10242 encodes (differences_of values) → (bytes : List ℕ) × (length bytes < 2 ^ 64) × IsCascade base_of differences_of encodes values bytes
cascade_encoding base_of differences_of encodes values full word inner = (
  word_bytes (base_of values) ++ inner.bytes,
  omega (arith, length-append (word_bytes (base_of values)) inner.bytes, length-word_bytes (base_of values), inner.short),
  record { full = full; word = word; inner = inner.bytes; differences = inner.encoded; encoded = refl },
)

pub dynamic_encoded : (values : List ℕ) → IsFull values → (bytes : List ℕ) × (length bytes < 2 ^ 64) × IsDynamicBlock values bytes
dynamic_encoded values full = let has = dynamic_encoding values full in (has.bytes, omega (arith, has.short), has.encoded)

pub runs_encoded : (values : List ℕ) → IsFull values → (bytes : List ℕ) × (length bytes < 2 ^ 64) × IsRunsBlock values bytes
runs_encoded values full = let has = runs_encoding_of values full in (has.bytes, omega (arith, has.short), has.encoded)

pub delta1_dynamic_encoded : (values : List ℕ) → IsFull values → (bytes : List ℕ) × (length bytes < 2 ^ 64) × IsCascade first_of delta1_of IsDynamicBlock values bytes
delta1_dynamic_encoded values full = cascade_encoding first_of delta1_of IsDynamicBlock values full (first_of-word values full) (dynamic_encoding (delta1_of values) (delta1_of-full values full))

pub delta16_dynamic_encoded : (values : List ℕ) → IsFull values → (bytes : List ℕ) × (length bytes < 2 ^ 64) × IsCascade first_of delta16_of IsDynamicBlock values bytes
delta16_dynamic_encoded values full = cascade_encoding first_of delta16_of IsDynamicBlock values full (first_of-word values full) (dynamic_encoding (delta16_of values) (delta16_of-full values full))

pub reference_dynamic_encoded : (values : List ℕ) → IsFull values → (bytes : List ℕ) × (length bytes < 2 ^ 64) × IsCascade least_of reference_of IsDynamicBlock values bytes
reference_dynamic_encoded values full = cascade_encoding least_of reference_of IsDynamicBlock values full (least_of-word values full) (dynamic_encoding (reference_of values) (reference_of-full values full))

pub delta1_runs_encoded : (values : List ℕ) → IsFull values → (bytes : List ℕ) × (length bytes < 2 ^ 64) × IsCascade first_of delta1_of IsRunsBlock values bytes
delta1_runs_encoded values full = cascade_encoding first_of delta1_of IsRunsBlock values full (first_of-word values full) (runs_encoding_of (delta1_of values) (delta1_of-full values full))
