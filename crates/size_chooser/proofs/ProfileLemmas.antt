-- What a profile says of its list.
use Rattle.std.proofs.Common.{◌≡◌, true, ℕ, zero, suc, ◌+◌, ◌*◌, ◌/◌, ◌≤◌, ◌%◌, ◌<◌, List, [], ◌∷◌, ◌++◌, length, take, mul_comm, drop, refl, sym, ap, ap₂, ◌∙◌, arith, length-append}
use Rattle.std.proofs.lemmas.List.{take_at, take_all, drop_at}
use Rattle.definitions_blocks.specs.Blocks.{block_values}
use Rattle.definitions_blocks.specs.Packed.{IsWidth}
use Rattle.definitions_blocks.specs.Encodings.{width_of, fits_width}
use Rattle.definitions_blocks.specs.Formats.{Format, plain, static, dynamic, runs, delta1_dynamic, delta16_dynamic, reference_dynamic, delta1_runs}
use Rattle.definitions_blocks.proofs.WidthLaws.{width_of-is, fits_from_AreBelow}
use Rattle.definitions_columns.specs.ColumnFiles.{whole_blocks}
use Rattle.definitions_columns.specs.Tails.{packed_len}
use Rattle.definitions_columns.specs.Sizes.{sum_blocks, block_size, blocks_size, whole_count, tail_of}
use Rattle.definitions_columns.proofs.BlockSumLaws.{sum_blocks-tail}
use Rattle.size_chooser.specs.Sums.{AreSumsOf}
use Rattle.size_chooser.specs.FileSizes.{sizes_of}
use Rattle.size_chooser.specs.Profiles.{Kept, IsProfileOf}

-- the values after whole blocks are the tail
pub record IsDivided (blocks waiting values : List ℕ) : Type 0 where
  pub count : whole_count values ≡ whole_count blocks
  pub front : whole_blocks values ≡ blocks
  pub tail : tail_of values ≡ waiting
  pub rest : length waiting ≡ length values % block_values
  pub sizes : (number_of : List ℕ → ℕ) → sum_blocks number_of values (whole_count values) ≡ sum_blocks number_of blocks (whole_count blocks)

pub is_divided : (blocks waiting values : List ℕ) → values ≡ blocks ++ waiting → length blocks % block_values ≡ 0 → length waiting < block_values → IsDivided blocks waiting values
is_divided blocks waiting values are whole short =
    let long : length values ≡ length blocks + length waiting = ap length are ∙ length-append blocks waiting in
    let count : whole_count values ≡ whole_count blocks = omega arith in
    let end : length blocks ≡ whole_count values * block_values = omega arith in
    record {
      count = count;
      front = ap (take (whole_count values * block_values)) are ∙ take_at blocks waiting (whole_count values * block_values) end;
      tail = ap (λ (l : List ℕ). take block_values (drop (whole_count values * block_values) l)) are
          ∙ ap (take block_values) (drop_at blocks waiting (whole_count values * block_values) end) ∙ take_all block_values waiting (omega arith);
      rest = omega arith;
      sizes = λ number_of. ap (λ (l : List ℕ). sum_blocks number_of l (whole_count l)) are ∙ sum_blocks-tail number_of blocks waiting (omega arith);
    }

-- a list's profile, in the words of the list's sizes
pub record Tells (profile : Kept) (values : List ℕ) : Type 0 where
  pub counted : profile.count ≡ length values
  pub tail : profile.waiting ≡ tail_of values
  pub rest : length profile.waiting ≡ length values % block_values
  pub width : profile.sums.width ≡ width_of (whole_blocks values)
  pub fits : fits_width (whole_blocks values) profile.sums.width ≡ true
  pub in_dynamic : profile.sums.dynamic ≡ blocks_size dynamic 0 values
  pub in_runs : profile.sums.runs ≡ blocks_size runs 0 values
  pub in_delta1_dynamic : profile.sums.delta1_dynamic ≡ blocks_size delta1_dynamic 0 values
  pub in_delta16_dynamic : profile.sums.delta16_dynamic ≡ blocks_size delta16_dynamic 0 values
  pub in_reference_dynamic : profile.sums.reference_dynamic ≡ blocks_size reference_dynamic 0 values
  pub in_delta1_runs : profile.sums.delta1_runs ≡ blocks_size delta1_runs 0 values

pub tells : (profile : Kept) (values : List ℕ) → IsProfileOf profile values → Tells profile values
tells profile values is =
    let sums : AreSumsOf profile.sums is.split.blocks = is.split.taken in
    let divided = is_divided is.split.blocks profile.waiting values is.split.values_are is.split.whole is.short in
    let same : (format : Format) → blocks_size format 0 is.split.blocks ≡ blocks_size format 0 values = λ format. sym (divided.sizes (block_size format 0)) in
    record {
      counted = is.counted;
      tail = sym divided.tail;
      rest = divided.rest;
      width = sym (width_of-is profile.sums.width is.split.blocks sums.widest sums.narrow) ∙ ap width_of (sym divided.front);
      fits = ap (λ (l : List ℕ). fits_width l profile.sums.width) divided.front ∙ fits_from_AreBelow profile.sums.width is.split.blocks sums.widest.holds;
      in_dynamic = sums.sizes.in_dynamic ∙ same dynamic;
      in_runs = sums.sizes.in_runs ∙ same runs;
      in_delta1_dynamic = sums.sizes.in_delta1_dynamic ∙ same delta1_dynamic;
      in_delta16_dynamic = sums.sizes.in_delta16_dynamic ∙ same delta16_dynamic;
      in_reference_dynamic = sums.sizes.in_reference_dynamic ∙ same reference_dynamic;
      in_delta1_runs = sums.sizes.in_delta1_runs ∙ same delta1_runs;
    }

-- plain blocks are all as long, and so are those of one width
plain_sum : (values : List ℕ) (n : ℕ) → sum_blocks (block_size plain 0) values n ≡ 8192 * n
plain_sum values zero = refl
plain_sum values (suc n) = omega (arith, plain_sum values n)

static_sum : (width : ℕ) (values : List ℕ) (n : ℕ) → sum_blocks (block_size static width) values n ≡ n * (128 * width)
static_sum width values zero = omega arith
static_sum width values (suc n) = grind (arith, static_sum width values n)

packed_sum : (width count : ℕ) (values : List ℕ) (other n : ℕ) → width ≡ other → count ≡ n → 128 * width * count ≡ sum_blocks (block_size static other) values n
packed_sum width count values other n same all = ap₂ (λ (a b : ℕ). 128 * a * b) same all ∙ mul_comm (128 * other) n ∙ sym (static_sum other values n)

-- eight equal numbers
eight : {a b c d e f g h i j k l m n o p : ℕ} → a ≡ i → b ≡ j → c ≡ k → d ≡ l → e ≡ m → f ≡ n → g ≡ o → h ≡ p
    → ◌≡◌ {A = List ℕ} (a ∷ b ∷ c ∷ d ∷ e ∷ f ∷ g ∷ h ∷ []) (i ∷ j ∷ k ∷ l ∷ m ∷ n ∷ o ∷ p ∷ [])
eight p1 p2 p3 p4 p5 p6 p7 p8 = cc

-- the eight sizes, from what a profile keeps
abbrev pub kept_sizes : Kept → ℕ → ℕ → ℕ → List ℕ
kept_sizes profile width words packed =
    let blocks = profile.count / 1024 in
    let indexed = 16 + packed + 8 * blocks in
    (16 + words + 8192 * blocks) ∷ (16 + packed + 128 * width * blocks) ∷ (indexed + profile.sums.dynamic) ∷ (indexed + profile.sums.runs)
    ∷ (indexed + profile.sums.delta1_dynamic) ∷ (indexed + profile.sums.delta16_dynamic) ∷ (indexed + profile.sums.reference_dynamic) ∷ (indexed + profile.sums.delta1_runs) ∷ []

pub sizes_are : (profile : Kept) (values : List ℕ) (width words tail packed : ℕ) → IsProfileOf profile values → width ≡ profile.sums.width → IsWidth tail profile.waiting → tail ≤ 64
    → words ≡ packed_len (length profile.waiting) 64 → packed ≡ packed_len (length profile.waiting) tail → kept_sizes profile width words packed ≡ sizes_of values
sizes_are profile values width words tail packed is same least narrow words_are packed_is =
    let told = tells profile values is in
    let n = whole_count values in
    let count = told.counted in
    let blocks : profile.count / 1024 ≡ n = omega arith in
    let at : tail ≡ width_of (tail_of values) = sym (width_of-is tail profile.waiting least narrow) ∙ ap width_of told.tail in
    let plain_tail : words ≡ packed_len (length values % block_values) 64 = words_are ∙ ap (λ m. packed_len m 64) told.rest in
    let packs : packed ≡ packed_len (length values % block_values) (width_of (tail_of values)) = packed_is ∙ ap₂ (λ (m t : ℕ). packed_len m t) told.rest at in
    let statics = packed_sum width (profile.count / 1024) values (width_of (whole_blocks values)) n (same ∙ told.width) blocks in
    eight
    (omega (arith, plain_sum values n, blocks, plain_tail))
    (omega (arith, statics, packs))
    (omega (arith, told.in_dynamic, packs, blocks))
    (omega (arith, told.in_runs, packs, blocks))
    (omega (arith, told.in_delta1_dynamic, packs, blocks))
    (omega (arith, told.in_delta16_dynamic, packs, blocks))
    (omega (arith, told.in_reference_dynamic, packs, blocks))
    (omega (arith, told.in_delta1_runs, packs, blocks))
