-- Blocks of one value in four formats, whose bytes were worked out by hand.
use Rattle.std.proofs.Common.{◌≡◌, ◌^◌, ℕ, ◌<◌, [], ◌∷◌, ◌++◌, length, replicate, refl, sym, subst, arith}
use Rattle.std.specs.Prelude.{slice_index}
use Rattle.std.proofs.lemmas.List.{append-nil, length-replicate, get_or-replicate}
use Rattle.definitions_blocks.specs.Words.{word_bytes}
use Rattle.definitions_blocks.specs.Blocks.{IsFull}
use Rattle.definitions_blocks.specs.Packed.{AreBelow}
use Rattle.definitions_blocks.specs.Differences.{delta1_of}
use Rattle.definitions_blocks.specs.Encodings.{IsDynamicBlock}
use Rattle.definitions_blocks.specs.Runs.{two_bytes, IsRunsBlock}
use Rattle.definitions_blocks.specs.Formats.{runs, dynamic, delta1_runs, delta1_dynamic, BlockOf}
use Rattle.definitions_blocks.proofs.WordListLaws.{AreWords-replicate}
use Rattle.definitions_blocks.proofs.DynamicLaws.{IsDynamicBlock-packed}

full_of : (value : ℕ) → value < 2 ^ 64 → IsFull (replicate 1024 value)
full_of value small = record { whole = length-replicate 1024 value; words = AreWords-replicate 1024 value small }

zeros_in_runs : BlockOf runs 0 (replicate 1024 0) (1 ∷ 0 ∷ replicate 9 0 ++ 4 ∷ [])
unfolding word_bytes two_bytes
zeros_in_runs = record {
  full = full_of 0 (omega arith);
  runs = record { value = 0; length = 1024 } ∷ [];
  are = record { cover = append-nil (replicate 1024 0); nonempty = (omega arith, tt); maximal = tt };
  encoded = refl;
}

zeros_below : AreBelow 0 (replicate 1024 0)
zeros_below i within =
    let long : length {A = ℕ} (replicate 1024 0) ≡ 1024 = length-replicate {A = ℕ} 1024 0 in
    let none : slice_index (replicate 1024 0) i ≡ 0 = get_or-replicate {A = ℕ} 1024 i 0 0 (omega arith) in
    omega arith

-- a block of zeros has no bits, so its width is all that there is of it
zeros_in_dynamic : BlockOf dynamic 0 (replicate 1024 0) (0 ∷ [])
zeros_in_dynamic =
    IsDynamicBlock-packed 0 (replicate 1024 0) []
    (record {
      narrow = omega arith;
      count = length-replicate {A = ℕ} 1024 0;
      size = refl;
      octets = λ i. omega arith;
      small = zeros_below;
      bits = λ i b within low. absurd (omega arith);
    })
    (record { holds = zeros_below; least = λ other holds. omega arith })

no_differences : delta1_of (replicate 1024 7) ≡ replicate 1024 0
no_differences = refl

-- 1,024 times 7: the base, and the differences as zeros
sevens_in_delta1_runs : BlockOf delta1_runs 0 (replicate 1024 7) (7 ∷ replicate 7 0 ++ 1 ∷ 0 ∷ replicate 9 0 ++ 4 ∷ [])
unfolding word_bytes
sevens_in_delta1_runs = record {
  full = full_of 7 (omega arith);
  word = omega arith;
  inner = 1 ∷ 0 ∷ replicate 9 0 ++ 4 ∷ [];
  differences = subst (λ l. IsRunsBlock l (1 ∷ 0 ∷ replicate 9 0 ++ 4 ∷ [])) (sym no_differences) zeros_in_runs;
  encoded = refl;
}

sevens_in_delta1_dynamic : BlockOf delta1_dynamic 0 (replicate 1024 7) (7 ∷ replicate 8 0)
unfolding word_bytes
sevens_in_delta1_dynamic = record {
  full = full_of 7 (omega arith);
  word = omega arith;
  inner = 0 ∷ [];
  differences = subst (λ l. IsDynamicBlock l (0 ∷ [])) (sym no_differences) zeros_in_dynamic;
  encoded = refl;
}
