-- What is kept of whole blocks in one format, as blocks are added.
use Rattle.std.proofs.Common.{◌≡◌, refl, ℕ, zero, suc, ◌+◌, ◌*◌, ◌/◌, ◌%◌, ◌≤◌, max, Bool, true, false, List, ◌++◌, length, sym, ap, ap₂, subst, ◌∙◌, arith, length-append}
use Rattle.definitions_blocks.specs.Blocks.{block_values}
use Rattle.definitions_blocks.specs.Encodings.{width_of, fits_width}
use Rattle.definitions_blocks.specs.Formats.{Format, plain, static, dynamic, runs, delta1_dynamic, delta16_dynamic, reference_dynamic, delta1_runs, has_static_width}
use Rattle.definitions_blocks.proofs.WidthLaws.{IsWidth-append, width_of-is, fits_from_AreBelow}
use Rattle.definitions_columns.specs.Tails.{packed_len}
use Rattle.definitions_columns.specs.ColumnFiles.{second, whole_blocks, static_width_of, fits_columns, tail_width_of, first_start}
use Rattle.definitions_columns.specs.Sizes.{block_size, whole_count, blocks_size, sum_blocks, tail_of, size_of}
use Rattle.definitions_columns.proofs.BlockSumLaws.{sum_blocks-push}
use Rattle.block_core.specs.Formats.{format_of}
use Rattle.size_chooser.specs.declared.format_sums.FormatSum.{FormatSum}
use Rattle.size_chooser.specs.FormatSums.{IsWidestWhere, IsFormatSumOf}
use Rattle.size_chooser.specs.FormatSizes.{FormatKept, IsFormatSizeOf}
use Rattle.size_chooser.proofs.ProfileLemmas.{is_divided}

-- the least width of two lists in a row
IsWidestWhere-append : (has : Bool) (width other : ℕ) (values others : List ℕ) → IsWidestWhere has width values → IsWidestWhere has other others → IsWidestWhere has (max width other) (values ++ others)
IsWidestWhere-append true width other values others is be = IsWidth-append width other values others is be
IsWidestWhere-append false width other values others is be = omega arith

-- the sum of one block more
pub IsFormatSumOf-push : (front sum : FormatSum) (width size : ℕ) (blocks last : List ℕ) → IsFormatSumOf front blocks → length last ≡ block_values
    → width ≤ 64 → IsWidestWhere (has_static_width (format_of front.format)) width last → size ≡ block_size (format_of front.format) 0 last → size ≤ 10250
    → sum.format ≡ front.format → sum.width ≡ max front.width width → sum.size ≡ front.size + size → IsFormatSumOf sum (blocks ++ last)
IsFormatSumOf-push front sum width size blocks last is full narrow widest sized small same wider more =
    let format = format_of front.format in
    let whole = is.whole in
    let long = length-append blocks last in
    let total = sum_blocks-push (block_size format 0) blocks last whole full in
    let count : whole_count (blocks ++ last) ≡ whole_count blocks + 1 = omega arith in
    let held : sum.size ≡ blocks_size format 0 (blocks ++ last) = omega (arith, is.size_is) in
    let made : IsWidestWhere (has_static_width format) sum.width (blocks ++ last) =
    subst (λ w. IsWidestWhere (has_static_width format) w (blocks ++ last)) (sym wider) (IsWidestWhere-append (has_static_width format) front.width width blocks last is.widest widest) in
    record {
      whole = omega arith;
      narrow = omega (arith, is.narrow);
      widest = subst (λ f. IsWidestWhere (has_static_width (format_of f)) sum.width (blocks ++ last)) (sym same) made;
      size_is = subst (λ f. sum.size ≡ blocks_size (format_of f) 0 (blocks ++ last)) (sym same) held;
      bounded = omega (arith, is.bounded);
    }

static_sum : (width : ℕ) (values : List ℕ) (n : ℕ) → sum_blocks (block_size static width) values n ≡ 128 * width * n + sum_blocks (block_size static 0) values n
static_sum width values zero = omega arith
static_sum width values (suc n) = grind (arith, static_sum width values n)

none_wide : (width n size : ℕ) → width ≡ 0 → size ≡ 128 * width * n + size
none_wide width n size none = grind (arith, none)

-- whole blocks are as long as those of the width, and the others
pub sum_blocks-width : (format : Format) (width : ℕ) (blocks values : List ℕ) (n : ℕ) → IsWidestWhere (has_static_width format) width blocks
    → sum_blocks (block_size format width) values n ≡ 128 * width * n + sum_blocks (block_size format 0) values n
sum_blocks-width plain width blocks values n is = none_wide width n (sum_blocks (block_size plain 0) values n) is
sum_blocks-width static width blocks values n is = static_sum width values n
sum_blocks-width dynamic width blocks values n is = none_wide width n (sum_blocks (block_size dynamic 0) values n) is
sum_blocks-width runs width blocks values n is = none_wide width n (sum_blocks (block_size runs 0) values n) is
sum_blocks-width delta1_dynamic width blocks values n is = none_wide width n (sum_blocks (block_size delta1_dynamic 0) values n) is
sum_blocks-width delta16_dynamic width blocks values n is = none_wide width n (sum_blocks (block_size delta16_dynamic 0) values n) is
sum_blocks-width reference_dynamic width blocks values n is = none_wide width n (sum_blocks (block_size reference_dynamic 0) values n) is
sum_blocks-width delta1_runs width blocks values n is = none_wide width n (sum_blocks (block_size delta1_runs 0) values n) is

static_width_from : (format : Format) (width : ℕ) (blocks values : List ℕ) → IsWidestWhere (has_static_width format) width blocks → width ≤ 64 → whole_blocks values ≡ blocks → width ≡ static_width_of format values
static_width_from plain width blocks values is narrow front = is
static_width_from static width blocks values is narrow front = sym (width_of-is width blocks is narrow) ∙ ap width_of (sym front)
static_width_from dynamic width blocks values is narrow front = is
static_width_from runs width blocks values is narrow front = is
static_width_from delta1_dynamic width blocks values is narrow front = is
static_width_from delta16_dynamic width blocks values is narrow front = is
static_width_from reference_dynamic width blocks values is narrow front = is
static_width_from delta1_runs width blocks values is narrow front = is

fits_from_widest : (format : Format) (width : ℕ) (blocks values : List ℕ) → IsWidestWhere (has_static_width format) width blocks → whole_blocks values ≡ blocks → fits_columns format width values ≡ true
fits_from_widest plain width blocks values is front = refl
fits_from_widest static width blocks values is front = ap (λ (l : List ℕ). fits_width l width) front ∙ fits_from_AreBelow width blocks is.holds
fits_from_widest dynamic width blocks values is front = refl
fits_from_widest runs width blocks values is front = refl
fits_from_widest delta1_dynamic width blocks values is front = refl
fits_from_widest delta16_dynamic width blocks values is front = refl
fits_from_widest reference_dynamic width blocks values is front = refl
fits_from_widest delta1_runs width blocks values is front = refl

-- what is kept of a list, in the words of the list's size
pub record Told (size : FormatKept) (values : List ℕ) : Type 0 where
  pub counted : size.count ≡ length values
  pub tail : tail_of values ≡ size.waiting
  pub rest : length size.waiting ≡ length values % block_values
  pub width : size.sum.width ≡ static_width_of (format_of size.sum.format) values
  pub fits : fits_columns (format_of size.sum.format) size.sum.width values ≡ true
  pub blocks : blocks_size (format_of size.sum.format) (static_width_of (format_of size.sum.format) values) values ≡ 128 * size.sum.width * whole_count values + size.sum.size

pub told : (size : FormatKept) (values : List ℕ) → IsFormatSizeOf size values → Told size values
told size values is =
    let format = format_of size.sum.format in
    let sum : IsFormatSumOf size.sum is.split.blocks = is.split.taken in
    let divided = is_divided is.split.blocks size.waiting values is.split.values_are is.split.whole is.short in
    let width : size.sum.width ≡ static_width_of format values = static_width_from format size.sum.width is.split.blocks values sum.widest sum.narrow divided.front in
    let same : blocks_size format 0 values ≡ size.sum.size = divided.sizes (block_size format 0) ∙ sym sum.size_is in
    record {
      counted = is.counted;
      tail = divided.tail;
      rest = divided.rest;
      width = width;
      fits = fits_from_widest format size.sum.width is.split.blocks values sum.widest divided.front;
      blocks = ap (λ w. blocks_size format w values) (sym width) ∙ sum_blocks-width format size.sum.width is.split.blocks values (whole_count values) sum.widest
          ∙ ap (λ n. 128 * size.sum.width * whole_count values + n) same;
    }

-- the size, as it is made of what is kept
pub size_is : (size : FormatKept) (values : List ℕ) (start width tail : ℕ) → IsFormatSizeOf size values → width ≡ size.sum.width → start ≡ first_start second (format_of size.sum.format) (size.count / 1024)
    → tail ≡ packed_len (length size.waiting) (tail_width_of second (format_of size.sum.format) size.waiting) → start + (128 * width * (size.count / 1024) + size.sum.size) + tail ≡ size_of (format_of size.sum.format) values
size_is size values start width tail is read starts ends =
    let format = format_of size.sum.format in
    let held = told size values is in
    let n = whole_count values in
    let count = held.counted in
    let blocks : size.count / 1024 ≡ n = omega arith in
    let first : start ≡ first_start second format n = starts ∙ ap (first_start second format) blocks in
    let last : tail ≡ packed_len (length values % block_values) (tail_width_of second format (tail_of values)) =
    ends ∙ ap₂ (λ (m : ℕ) (l : List ℕ). packed_len m (tail_width_of second format l)) held.rest (sym held.tail) in
    let middle : 128 * width * (size.count / 1024) + size.sum.size ≡ blocks_size format (static_width_of format values) values =
    ap₂ (λ (w m : ℕ). 128 * w * m + size.sum.size) read blocks ∙ sym held.blocks in
    ap₂ (λ (a b : ℕ). a + b) (ap₂ (λ (a b : ℕ). a + b) first middle) last
