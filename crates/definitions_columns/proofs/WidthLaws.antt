-- The static width of a column is one that its format can have, its whole blocks fit it, and how it grows by a block.
use Rattle.std.proofs.Common.{◌≡◌, ℕ, ◌+◌, ◌-◌, ◌*◌, ◌/◌, ◌%◌, ◌≤◌, max, Bool, true, false, if◌then◌else◌, List, [], ◌++◌, length, take, drop, refl, sym, ap, ◌∙◌, subst, arith, length-append}
use Rattle.std.specs.List.{AllByRecursion}
use Rattle.std.proofs.lemmas.List.{take-append-drop, take-append-le, take-take, drop-take, take_all, nil_from_length}
use Rattle.definitions_blocks.specs.Words.{IsWord}
use Rattle.definitions_blocks.specs.Blocks.{block_values}
use Rattle.definitions_blocks.specs.Packed.{AreBelow}
use Rattle.definitions_blocks.specs.Encodings.{width_of, fits_width}
use Rattle.definitions_blocks.specs.Formats.{Format, has_static_width, IsWidthWhere, IsColumnWidth, FitsWhere, FitsFormat}
use Rattle.definitions_columns.specs.ColumnFiles.{whole_blocks, static_width_of, next_width, fits_columns}
use Rattle.definitions_blocks.proofs.WidthLaws.{AreBelow-front, AreBelow-rest, AreBelow-words, AreBelow-from_fits, fits_from_AreBelow, IsWidth-append, IsWidth-width_of, width_of-is, width_of-narrow}

pub whole_below : (width : ℕ) (values : List ℕ) → AreBelow width values → AreBelow width (whole_blocks values)
whole_below width values small =
    let rest = drop (length values / block_values * block_values) values in
    AreBelow-front width (whole_blocks values) rest (subst (AreBelow width) (sym (take-append-drop (length values / block_values * block_values) values)) small)

-- By whether the column has a static width.

lawful_where : (packed : Bool) (values : List ℕ) → AreBelow 64 values → IsWidthWhere packed (if packed then width_of (whole_blocks values) else 0)
lawful_where true values small = width_of-narrow (whole_blocks values) (whole_below 64 values small)
lawful_where false values small = refl

pub static_width_of-lawful : (format : Format) (values : List ℕ) → AreBelow 64 values → IsColumnWidth format (static_width_of format values)
static_width_of-lawful format values small = lawful_where (has_static_width format) values small

holds_where : (packed : Bool) (values : List ℕ) → AreBelow 64 values → FitsWhere packed (if packed then width_of (whole_blocks values) else 0) (whole_blocks values)
holds_where true values small = (IsWidth-width_of (whole_blocks values) (whole_below 64 values small)).holds
holds_where false values small = tt

pub static_width_of-holds : (format : Format) (values : List ℕ) → AreBelow 64 values → FitsFormat format (static_width_of format values) (whole_blocks values)
static_width_of-holds format values small = holds_where (has_static_width format) values small

fits_where : (packed : Bool) (width : ℕ) (values : List ℕ) → FitsWhere packed width (whole_blocks values) → (if packed then fits_width (whole_blocks values) width else true) ≡ true
fits_where true width values holds = fits_from_AreBelow width (whole_blocks values) holds
fits_where false width values holds = refl

pub static_width_of-fits : (format : Format) (values : List ℕ) → AreBelow 64 values → fits_columns format (static_width_of format values) values ≡ true
static_width_of-fits format values small = fits_where (has_static_width format) (static_width_of format values) values (static_width_of-holds format values small)

-- Where a list fits the column's width, its parts do.

pub FitsWhere-front : (packed : Bool) (width : ℕ) (values others : List ℕ) → FitsWhere packed width (values ++ others) → FitsWhere packed width values
FitsWhere-front true width values others fits = AreBelow-front width values others fits
FitsWhere-front false width values others fits = tt

pub FitsWhere-rest : (packed : Bool) (width : ℕ) (values others : List ℕ) → FitsWhere packed width (values ++ others) → FitsWhere packed width others
FitsWhere-rest true width values others fits = AreBelow-rest width values others fits
FitsWhere-rest false width values others fits = tt

-- each block fits the static width
pub static_width_of-block : (format : Format) (at : ℕ) (values : List ℕ) → at + block_values ≤ length values / block_values * block_values → AreBelow 64 values
    → FitsFormat format (static_width_of format values) (take block_values (drop at values))
static_width_of-block format at values inside small =
    let width = static_width_of format values in
    let end = length values / block_values * block_values in
    let rest = end - at in
    let block = take block_values (drop at values) in
    let sum : at + rest ≡ end = omega arith in
    let part : drop at (whole_blocks values) ≡ take rest (drop at values) = ap (λ n. drop at (take n values)) (sym sum) ∙ drop-take at rest values in
    let first : take block_values (drop at (whole_blocks values)) ≡ block = ap (take block_values) part ∙ take-take block_values rest (drop at values) (omega arith) in
    let behind = drop block_values (drop at (whole_blocks values)) in
    let split : block ++ behind ≡ drop at (whole_blocks values) = ap (λ (l : List ℕ). l ++ behind) (sym first) ∙ take-append-drop block_values (drop at (whole_blocks values)) in
    let all : take at (whole_blocks values) ++ (block ++ behind) ≡ whole_blocks values =
    ap (λ (l : List ℕ). take at (whole_blocks values) ++ l) split ∙ take-append-drop at (whole_blocks values) in
    let fits : FitsFormat format width (take at (whole_blocks values) ++ (block ++ behind)) = subst (FitsFormat format width) (sym all) (static_width_of-holds format values small) in
    FitsWhere-front (has_static_width format) width block behind (FitsWhere-rest (has_static_width format) width (take at (whole_blocks values)) (block ++ behind) fits)

-- the whole blocks of a list are those of a longer one, as far as they go
whole_blocks-front : (values rest : List ℕ) → whole_blocks values ≡ take (length values / block_values * block_values) (whole_blocks (values ++ rest))
whole_blocks-front values rest =
    let end = length values / block_values * block_values in
    sym (take-take end (length (values ++ rest) / block_values * block_values) (values ++ rest) (omega (arith, length-append values rest)) ∙ take-append-le end values rest (omega arith))

fits_front : (packed : Bool) (width : ℕ) (values rest : List ℕ) → (if packed then fits_width (whole_blocks (values ++ rest)) width else true) ≡ true → (if packed then fits_width (whole_blocks values) width else true) ≡ true
fits_front true width values rest fits =
    let end = length values / block_values * block_values in
    let all = whole_blocks (values ++ rest) in
    let small : AreBelow width (take end all ++ drop end all) = subst (AreBelow width) (sym (take-append-drop end all)) (AreBelow-from_fits width all fits) in
    fits_from_AreBelow width (whole_blocks values) (subst (AreBelow width) (sym (whole_blocks-front values rest)) (AreBelow-front width (take end all) (drop end all) small))
fits_front false width values rest fits = refl

-- where a list fits the column's width, its prefixes do
pub fits_columns-front : (format : Format) (width : ℕ) (values rest : List ℕ) → fits_columns format width (values ++ rest) ≡ true → fits_columns format width values ≡ true
fits_columns-front format width values rest fits = fits_front (has_static_width format) width values rest fits

empty_where : (packed : Bool) → (if packed then width_of [] else 0) ≡ 0
empty_where true = width_of-is 0 [] (record { holds = λ i within. absurd (omega arith); least = λ other small. omega arith }) (omega arith)
empty_where false = refl

-- no values ask for no width
pub static_width_of-empty : (format : Format) → static_width_of format [] ≡ 0
static_width_of-empty format =
    ap (λ l. if has_static_width format then width_of l else 0) (nil_from_length (whole_blocks []) refl) ∙ empty_where (has_static_width format)

-- lists with the same whole blocks ask for the same width
pub static_width_of-blocks : (format : Format) (values others : List ℕ) → whole_blocks values ≡ whole_blocks others → static_width_of format values ≡ static_width_of format others
static_width_of-blocks format values others e = ap (λ l. if has_static_width format then width_of l else 0) e

-- A block more.

width_of-append : (values others : List ℕ) → AreBelow 64 values → AreBelow 64 others → width_of (values ++ others) ≡ max (width_of values) (width_of others)
width_of-append values others small below =
    width_of-is (max (width_of values) (width_of others)) (values ++ others)
    (IsWidth-append (width_of values) (width_of others) values others (IsWidth-width_of values small) (IsWidth-width_of others below))
    (omega (arith, width_of-narrow values small, width_of-narrow others below))

wider_where : (b : Bool) (all before last : ℕ) → all ≡ max before last → (if b then all else 0) ≡ (if b then max (if b then before else 0) last else (if b then before else 0))
wider_where true all before last e = e
wider_where false all before last e = refl

pub static_width_of-push : (format : Format) (values block : List ℕ) → length values % block_values ≡ 0 → length block ≡ block_values → AllByRecursion IsWord values → AllByRecursion IsWord block
    → static_width_of format (values ++ block) ≡ next_width format (static_width_of format values) block
static_width_of-push format values block even full words fit =
    let all : whole_blocks (values ++ block) ≡ values ++ block = take_all (length (values ++ block) / block_values * block_values) (values ++ block) (omega (arith, length-append values block)) in
    let here : whole_blocks values ≡ values = take_all (length values / block_values * block_values) values (omega arith) in
    let width : width_of (whole_blocks (values ++ block)) ≡ max (width_of (whole_blocks values)) (width_of block) =
    ap width_of all ∙ width_of-append values block (AreBelow-words values words) (AreBelow-words block fit) ∙ ap (λ l. max (width_of l) (width_of block)) (sym here) in
    wider_where (has_static_width format) (width_of (whole_blocks (values ++ block))) (width_of (whole_blocks values)) (width_of block) width
