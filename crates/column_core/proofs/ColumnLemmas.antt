-- What a column holds: its list's file, and what the head says.
use Rattle.std.proofs.Common.{◌≡◌, ℕ, suc, ◌+◌, ◌-◌, ◌*◌, ◌/◌, ◌%◌, ◌^◌, ◌<◌, ◌≤◌, Bool, true, false, if◌then◌else◌, List, [], ◌++◌, length, take, drop, get_or, refl, sym, ap, ap₂, ◌∙◌, subst, arith}
use Rattle.std.specs.Int.{from_le_bytes, w64}
use Rattle.std.proofs.lemmas.List.{length-take, length-drop, get_or-drop, take_all}
use Rattle.std.specs.List.{AllByRecursion}
use Rattle.definitions_blocks.specs.Words.{IsWord, word_bytes, word_of}
use Rattle.definitions_blocks.specs.Packed.{AreBelow}
use Rattle.definitions_blocks.specs.Encodings.{width_of}
use Rattle.definitions_blocks.specs.Blocks.{block_values, block_at}
use Rattle.definitions_blocks.specs.Formats as columns
use Rattle.definitions_blocks.specs.Formats.{plain, static, IsColumnWidth, BlockOf}
use Rattle.definitions_columns.specs.Tails.{IsPackedTail, packed_len}
use Rattle.definitions_columns.specs.ColumnFiles.{second, head_len, has_word_tail, has_directory, directory_len, static_width_of, tail_width_of, fits_columns, IsColumnFile}
use Rattle.definitions_columns.specs.FileFaults.{HasEntry}
use Rattle.definitions_columns.specs.Sizes.{whole_count, block_size, block_start, front_size, tail_of}
use Rattle.definitions_blocks.proofs.WordLaws.{from_le_bytes-word_bytes}
use Rattle.definitions_blocks.proofs.WidthLaws.{AreBelow-words, width_of-narrow}
use Rattle.definitions_columns.proofs.FileLaws.{one_column, one_file}
use Rattle.definitions_columns.proofs.WidthLaws.{static_width_of-lawful, static_width_of-fits}
use Rattle.definitions_columns.proofs.SizeLaws.{IsColumnFile-size}
use Rattle.definitions_columns.proofs.PlaceLaws.{BlockPlace, block_place, block_entry, tail_place}
use Rattle.definitions_columns.proofs.ColumnFileLaws.{encoded_tail, tail_words}
use Rattle.block_core.specs.declared.formats.Format.{Format}
use Rattle.block_core.specs.declared.formats.Format.TheVariants as variant
use Rattle.block_core.specs.Formats.{format_of}
use Rattle.column_core.specs.Columns.{Shape, shape, Stored, Stored-prop}

pub stored_file : (format : Format) (bytes : List ℕ) (s : Stored format bytes) (values : List ℕ) → IsColumnFile (format_of format) values bytes → s.0 ≡ values
stored_file format bytes s values is =
    let t : Stored format bytes = (values, ∣ is ∣₁) in
    ap (λ (u : Stored format bytes). u.0) (Stored-prop format bytes s t)

-- a column as it is seen, and what is kept of it
pub record IsHeld (seen : Shape) (width tail_width count : ℕ) (bytes : List ℕ) : Type 0 where
  pub file : IsColumnFile (format_of seen.format) seen.values bytes
  pub width_is : width ≡ static_width_of (format_of seen.format) seen.values
  pub tail_width_is : tail_width ≡ tail_width_of second (format_of seen.format) (tail_of seen.values)
  pub count_is : count ≡ length seen.values

pub held : (format : Format) (values : List ℕ) (seen : Shape) (width tail_width count : ℕ) (bytes : List ℕ) → shape format values ≡ seen
    → IsColumnFile (format_of format) values bytes × (width ≡ static_width_of (format_of format) values) × (tail_width ≡ tail_width_of second (format_of format) (tail_of values)) × (count ≡ length values)
    → IsHeld seen width tail_width count bytes
held format values seen width tail_width count bytes same is =
    subst (λ (s : Shape). IsHeld s width tail_width count bytes) same (record { file = is.0; width_is = is.1; tail_width_is = is.2; count_is = is.3 })

pub lawful_width : (f : columns.Format) (values bytes : List ℕ) → IsColumnFile f values bytes → IsColumnWidth f (static_width_of f values)
lawful_width f values bytes is = static_width_of-lawful f values (AreBelow-words values is.column.words)

pub fitting_width : (f : columns.Format) (values bytes : List ℕ) → IsColumnFile f values bytes → fits_columns f (static_width_of f values) values ≡ true
fitting_width f values bytes is = static_width_of-fits f values (AreBelow-words values is.column.words)

-- The values after the last whole block.

pub length-tail_of : (values : List ℕ) → length (tail_of values) ≡ length values % block_values
length-tail_of values =
    let place = whole_count values * block_values in
    omega (arith, length-take block_values (drop place values), length-drop place values)

pub tail_of-index : (values : List ℕ) (place : ℕ) → place < length values % block_values → get_or (tail_of values) place 0 ≡ get_or values (length values / block_values * block_values + place) 0
tail_of-index values place within =
    let start = length values / block_values * block_values in
    let all : tail_of values ≡ drop start values = take_all block_values (drop start values) (omega (arith, length-drop start values)) in
    ap (λ l. get_or l place 0) all ∙ get_or-drop start values place 0

-- where the tail starts
pub record TailStart (f : columns.Format) (values bytes : List ℕ) : Type 0 where
  pub start : length bytes - packed_len (length values % block_values) (tail_width_of second f (tail_of values)) ≡ front_size f (static_width_of f values) values
  pub within : packed_len (length values % block_values) (tail_width_of second f (tail_of values)) ≤ length bytes
  pub inside : front_size f (static_width_of f values) values ≤ length bytes

pub tail_start : (f : columns.Format) (values bytes : List ℕ) → IsColumnFile f values bytes → TailStart f values bytes
tail_start f values bytes is =
    let size = IsColumnFile-size f values bytes is in
    record { start = omega (arith, size); within = omega (arith, size); inside = omega (arith, size) }

-- The whole blocks.

-- a block stands from its start to that of the next one
pub record BlockSpan (f : columns.Format) (values bytes : List ℕ) (block : ℕ) : Type 0 where
  pub forward : block_start f (static_width_of f values) values block ≤ block_start f (static_width_of f values) values (block + 1)
  pub within : block_start f (static_width_of f values) values (block + 1) ≤ length bytes
  pub encoded : BlockOf f (static_width_of f values) (block_at values block)
      (take (block_start f (static_width_of f values) values (block + 1) - block_start f (static_width_of f values) values block) (drop (block_start f (static_width_of f values) values block) bytes))

pub block_span : (f : columns.Format) (values bytes : List ℕ) (block : ℕ) → IsColumnFile f values bytes → block < length values / block_values → BlockSpan f values bytes block
block_span f values bytes block is whole =
    let width = static_width_of f values in
    let at : BlockPlace f width values bytes block = block_place f width values bytes block is whole in
    let start = block_start f width values block in
    let next : block_start f width values (block + 1) ≡ start + block_size f width (block_at values block) =
    ap (block_start f width values) (let e : block + 1 ≡ suc block = omega arith in e) ∙ omega arith in
    let size : block_start f width values (block + 1) - start ≡ block_size f width (block_at values block) = omega (arith, next) in
    record {
      forward = omega (arith, next);
      within = let within = at.within in omega (arith, next);
      encoded = subst (λ n. BlockOf f width (block_at values block) (take n (drop start bytes))) (sym size) at.encoded;
    }

-- the directory's entry is the block's start
pub entry_is : (f : columns.Format) (values bytes : List ℕ) (block : ℕ) → IsColumnFile f values bytes → block < length values / block_values → has_directory second f ≡ true → length bytes < 2 ^ 64
    → word_of bytes (2 + block) ≡ block_start f (static_width_of f values) values block
unfolding word_of
entry_is f values bytes block is whole listed few =
    let width = static_width_of f values in
    let at : BlockPlace f width values bytes block = block_place f width values bytes block is whole in
    let entry : HasEntry bytes block (block_start f width values block) = block_entry f width values bytes block is whole listed in
    let place : 8 * (2 + block) ≡ head_len + 8 * block = omega arith in
    ap (λ n. from_le_bytes w64 (take 8 (drop n bytes))) place ∙ ap (from_le_bytes w64) entry
    ∙ from_le_bytes-word_bytes (block_start f width values block) (let within = at.within in omega (arith, few))

-- where the format has a directory, the entries stand within the bytes
pub entries_within : (f : columns.Format) (values bytes : List ℕ) (block : ℕ) → IsColumnFile f values bytes → block < length values / block_values → has_directory second f ≡ true → head_len + 8 * block + 8 ≤ length bytes
entries_within f values bytes block is whole listed =
    let inside = (tail_start f values bytes is).inside in
    let all : directory_len second f (whole_count values) ≡ 8 * whole_count values = ap (λ b. if b then 8 * whole_count values else 0) listed in
    omega (arith, all)

pub listed : (format : Format) → (format ≡ variant.Plain → ⊥) → (format ≡ variant.Static → ⊥) → has_directory second (format_of format) ≡ true
listed variant.Plain not_plain not_static = absurd (not_plain refl)
listed variant.Static not_plain not_static = absurd (not_static refl)
listed variant.Dynamic not_plain not_static = refl
listed variant.Runs not_plain not_static = refl
listed variant.Delta1Dynamic not_plain not_static = refl
listed variant.Delta16Dynamic not_plain not_static = refl
listed variant.ReferenceDynamic not_plain not_static = refl
listed variant.Delta1Runs not_plain not_static = refl

-- a tail is packed at 64 bits at most
pub narrow_tail : (f : columns.Format) (values bytes : List ℕ) → IsColumnFile f values bytes → tail_width_of second f (tail_of values) ≤ 64
narrow_tail f values bytes is = tail_narrow_where (has_word_tail second f) (tail_of values) (AreBelow-words (tail_of values) (subst (AllByRecursion IsWord) (sym (encoded_tail second f (static_width_of f values) values bytes is)) (tail_words second f (static_width_of f values) values bytes is)))
  where
    tail_narrow_where : (words : Bool) (tail : List ℕ) → AreBelow 64 tail → (if words then 64 else width_of tail) ≤ 64
    tail_narrow_where true tail small = omega arith
    tail_narrow_where false tail small = width_of-narrow tail small
