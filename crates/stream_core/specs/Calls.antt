-- What reads and writes of a whole text do to told contents.
use Rattle.std.specs.Prelude.{◌≡◌, ℕ, ◌<◌, List, length, take, Option}
use Rattle.std.specs.Io.KnownBytes.{Consumes, Appends}

-- some bytes were read, of which there are so many
abbrev pub ConsumesSome : Option (List ℕ) → Option (List ℕ) → ℕ → Type 0
ConsumesSome before after count = (bytes : List ℕ) × Consumes before after bytes × (length bytes ≡ count)

-- a proper prefix of the bytes was written
abbrev pub AppendsProperPrefix : Option (List ℕ) → Option (List ℕ) → List ℕ → Type 0
AppendsProperPrefix before after bytes = (count : ℕ) × (count < length bytes) × Appends before after (take count bytes)
