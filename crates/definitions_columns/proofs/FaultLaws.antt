-- Bytes have one first fault at most, and a column's file has none.
use Rattle.std.proofs.Common.{◌≡◌, ℕ, ◌/◌, ◌%◌, ◌<◌, List, length, refl, sym, ap, ap₂, ◌∙◌, subst, inl, inr, arith}
use Rattle.std.proofs.lemmas.Bool.{cases_lt}
use Rattle.definitions_blocks.specs.Blocks.{block_values}
use Rattle.definitions_columns.specs.Tails.{IsPackedTail}
use Rattle.definitions_columns.specs.ColumnFiles.{tail_width_of}
use Rattle.definitions_columns.specs.FileFaults.{bad_header, bad_directory, bad_block, bad_width, bad_tail, HasMore, HasBlocks, LacksTail, HasFileFault}
use Rattle.definitions_columns.specs.FileLaws.{OneFault, NoFault}
use Rattle.definitions_columns.proofs.SameOpeningLaws.{same_opening, stops_block, stops_entry, same_entry, same_whole}
use Rattle.definitions_columns.proofs.OpeningLaws.{file_opening}

-- Where a reader stops it cannot go on.

-- no more blocks are good than there are
has_all : {bytes : List ℕ} (block : ℕ) (more : HasMore bytes block) (has : HasBlocks bytes) → length more.opening.pieces < length has.opening.pieces
has_all block more has =
    let same = same_opening more.opening has.opening in
    omega (arith, more.good, more.more, has.all, ap (λ n. n / block_values) same.counts)

wrong_entry_and_all : (bytes : List ℕ) (block : ℕ) → HasFileFault bytes (bad_directory block) → HasBlocks bytes → ⊥
wrong_entry_and_all bytes block fault has = stops_entry fault.0.opening has.opening (has_all block fault.0 has) fault.1

no_block_and_all : (bytes : List ℕ) (block : ℕ) → HasFileFault bytes (bad_block block) → HasBlocks bytes → ⊥
no_block_and_all bytes block fault has = stops_block fault.0.opening has.opening (has_all block fault.0 has) fault.2

-- where neither of two numbers is below the other, they are the same
one_number : (block other : ℕ) → (block < other → ⊥) → (other < block → ⊥) → block ≡ other
one_number block other below above =
    elim (cases_lt block other) [
      | inl less ↦ absurd (below less)
      | inr more ↦ elim (cases_lt other block) [
        | inl less ↦ absurd (above less)
        | inr same ↦ omega arith
      ]
    ]

one_wrong_entry : (bytes : List ℕ) (block other : ℕ) → HasFileFault bytes (bad_directory block) → HasFileFault bytes (bad_directory other) → block ≡ other
one_wrong_entry bytes block other fault later =
    one_number block other (λ less. stops_entry fault.0.opening later.0.opening (omega (arith, less, fault.0.good, later.0.good)) fault.1)
    (λ less. stops_entry later.0.opening fault.0.opening (omega (arith, less, fault.0.good, later.0.good)) later.1)

one_no_block : (bytes : List ℕ) (block other : ℕ) → HasFileFault bytes (bad_block block) → HasFileFault bytes (bad_block other) → block ≡ other
one_no_block bytes block other fault later =
    one_number block other (λ less. stops_block fault.0.opening later.0.opening (omega (arith, less, fault.0.good, later.0.good)) fault.2)
    (λ less. stops_block later.0.opening fault.0.opening (omega (arith, less, fault.0.good, later.0.good)) later.2)

wrong_entry_or_no_block : (bytes : List ℕ) (block other : ℕ) → HasFileFault bytes (bad_directory block) → HasFileFault bytes (bad_block other) → ⊥
wrong_entry_or_no_block bytes block other fault later =
    let same : block ≡ other =
    one_number block other (λ less. stops_entry fault.0.opening later.0.opening (omega (arith, less, fault.0.good, later.0.good)) fault.1)
    (λ less. stops_block later.0.opening fault.0.opening (omega (arith, less, fault.0.good, later.0.good)) later.2) in
    fault.1 (same_entry fault.0.opening later.0.opening (fault.0.good ∙ same ∙ sym later.0.good) later.1)

wrong_width_or_tail : (bytes : List ℕ) → HasFileFault bytes bad_width → HasFileFault bytes bad_tail → ⊥
wrong_width_or_tail bytes fault later =
    let same = same_whole fault.0 later.0 in
    fault.1 (same.opening.widths ∙ later.1 ∙ sym same.asked)

pub one_fault : OneFault
one_fault bytes bad_header bad_header p q = refl
one_fault bytes bad_header (bad_directory b) p q = absurd (p q.0.opening)
one_fault bytes bad_header (bad_block b) p q = absurd (p q.0.opening)
one_fault bytes bad_header bad_width p q = absurd (p q.0.opening)
one_fault bytes bad_header bad_tail p q = absurd (p q.0.opening)
one_fault bytes (bad_directory a) bad_header p q = absurd (q p.0.opening)
one_fault bytes (bad_directory a) (bad_directory b) p q = ap bad_directory (one_wrong_entry bytes a b p q)
one_fault bytes (bad_directory a) (bad_block b) p q = absurd (wrong_entry_or_no_block bytes a b p q)
one_fault bytes (bad_directory a) bad_width p q = absurd (wrong_entry_and_all bytes a p q.0)
one_fault bytes (bad_directory a) bad_tail p q = absurd (wrong_entry_and_all bytes a p q.0)
one_fault bytes (bad_block a) bad_header p q = absurd (q p.0.opening)
one_fault bytes (bad_block a) (bad_directory b) p q = absurd (wrong_entry_or_no_block bytes b a q p)
one_fault bytes (bad_block a) (bad_block b) p q = ap bad_block (one_no_block bytes a b p q)
one_fault bytes (bad_block a) bad_width p q = absurd (no_block_and_all bytes a p q.0)
one_fault bytes (bad_block a) bad_tail p q = absurd (no_block_and_all bytes a p q.0)
one_fault bytes bad_width bad_header p q = absurd (q p.0.opening)
one_fault bytes bad_width (bad_directory b) p q = absurd (wrong_entry_and_all bytes b q p.0)
one_fault bytes bad_width (bad_block b) p q = absurd (no_block_and_all bytes b q p.0)
one_fault bytes bad_width bad_width p q = refl
one_fault bytes bad_width bad_tail p q = absurd (wrong_width_or_tail bytes p q)
one_fault bytes bad_tail bad_header p q = absurd (q p.0.opening)
one_fault bytes bad_tail (bad_directory b) p q = absurd (wrong_entry_and_all bytes b q p.0)
one_fault bytes bad_tail (bad_block b) p q = absurd (no_block_and_all bytes b q p.0)
one_fault bytes bad_tail bad_width p q = absurd (wrong_width_or_tail bytes q p)
one_fault bytes bad_tail bad_tail p q = refl

-- a tail that one opening has the other has
same_tail : {bytes : List ℕ} (one other : HasBlocks bytes) → LacksTail one.opening → LacksTail other.opening
same_tail one other lacks =
    let same = same_whole one other in
    let o = same.opening in
    λ tail long packed least. lacks tail (long ∙ ap (λ n. n % block_values) (sym o.counts))
    (subst (λ w. IsPackedTail w tail one.opening.rest) (sym o.tail_widths) (subst (IsPackedTail other.opening.tail_width tail) (sym same.rests) packed))
    (o.tail_widths ∙ least ∙ sym (ap₂ (λ v f. tail_width_of v f tail) o.versions o.formats))

pub no_fault : NoFault
no_fault version format values bytes bad_header is p = p (file_opening version format values bytes is).has.opening
no_fault version format values bytes (bad_directory b) is p = wrong_entry_and_all bytes b p (file_opening version format values bytes is).has
no_fault version format values bytes (bad_block b) is p = no_block_and_all bytes b p (file_opening version format values bytes is).has
no_fault version format values bytes bad_width is p =
    let file = file_opening version format values bytes is in
    let same = same_whole p.0 file.has in
    p.1 (same.opening.widths ∙ file.least ∙ sym same.asked)
no_fault version format values bytes bad_tail is p =
    let file = file_opening version format values bytes is in
    file.ends (same_tail p.0 file.has p.2)
