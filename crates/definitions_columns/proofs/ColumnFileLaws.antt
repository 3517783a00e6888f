-- A column has one file in each format, and bytes are the file of one column at most.
use Rattle.std.proofs.Common.{◌≡◌, ℕ, true, false, Bool, suc, ◌+◌, ◌*◌, ◌/◌, ◌^◌, ◌<◌, List, [], ◌∷◌, ◌++◌, length, take, drop, get_or, if◌then◌else◌, refl, sym, ap, ap₂, ◌∙◌, subst, arith, length-append, append_assoc}
use Rattle.std.specs.Prelude.{◌==◌}
use Rattle.std.specs.List.{AllByRecursion}
use Rattle.std.proofs.lemmas.List.{take_at, take_all, drop_at}
use Rattle.definitions_blocks.specs.Words.{IsWord, word_bytes, words_of}
use Rattle.definitions_columns.specs.Tails.{IsPackedTail}
use Rattle.definitions_columns.specs.ColumnFiles.{Version, first, second, version_number, has_word_tail, tail_width_of, tail_width_byte, column_head, whole_blocks, Piece, ArePieces, piece_values, piece_bytes, starts_from, has_directory, directory_len, first_start, directory_of, IsEncoded}
use Rattle.definitions_columns.specs.FileFaults.{IsTailWidthWhere}
use Rattle.definitions_columns.proofs.TailLaws.{IsPackedTail-values}
use Rattle.definitions_blocks.specs.Blocks.{block_values, block_at}
use Rattle.definitions_blocks.specs.Formats.{Format, plain, static, dynamic, runs, delta1_dynamic, delta16_dynamic, reference_dynamic, delta1_runs, tag_of}
use Rattle.definitions_blocks.proofs.WordLaws.{length-word_bytes, length-words_of}
use Rattle.definitions_blocks.proofs.WordListLaws.{AreWords-rest}
use Rattle.definitions_blocks.proofs.PrefixLaws.{same_rest, same_word, same_after_word}
use Rattle.definitions_blocks.proofs.BlockLaws.{BlockOf-full, BlockOf-front}

-- The tag tells the format.

abbrev format_at : ℕ → Format
format_at tag =
    if tag == 0 then plain else (if tag == 1 then static else (if tag == 2 then dynamic else (if tag == 3 then runs else
    (if tag == 4 then delta1_dynamic else (if tag == 5 then delta16_dynamic else (if tag == 6 then reference_dynamic else delta1_runs))))))

format_at-tag_of : (format : Format) → format_at (tag_of format) ≡ format
format_at-tag_of plain = refl
format_at-tag_of static = refl
format_at-tag_of dynamic = refl
format_at-tag_of runs = refl
format_at-tag_of delta1_dynamic = refl
format_at-tag_of delta16_dynamic = refl
format_at-tag_of reference_dynamic = refl
format_at-tag_of delta1_runs = refl

pub tag_of-one : (format other : Format) → tag_of format ≡ tag_of other → format ≡ other
tag_of-one format other e = sym (format_at-tag_of format) ∙ ap format_at e ∙ format_at-tag_of other

-- The version's number tells the version.

abbrev version_at : ℕ → Version
version_at number = if number == 1 then first else second

version_at-number : (version : Version) → version_at (version_number version) ≡ version
version_at-number first = refl
version_at-number second = refl

pub version_number-one : (version later : Version) → version_number version ≡ version_number later → version ≡ later
version_number-one version later e = sym (version_at-number version) ∙ ap version_at e ∙ version_at-number later

-- The head.

pub length-column_head : (version : Version) (tag width tail_width count : ℕ) → length (column_head version tag width tail_width count) ≡ 16
length-column_head version tag width tail_width count = omega (arith, length-word_bytes count)

-- what a head tells
pub record SameHead (version later : Version) (tag other width wide tail_width tail_wide count counted : ℕ) (rest after : List ℕ) : Type 0 where
  pub versions : version ≡ later
  pub tags : tag ≡ other
  pub widths : width ≡ wide
  pub tail_widths : tail_width_byte version tail_width ≡ tail_width_byte later tail_wide
  pub counts : count ≡ counted
  pub rests : rest ≡ after

pub column_head-one : (version later : Version) (tag other width wide tail_width tail_wide count counted : ℕ) (rest after : List ℕ) → count < 2 ^ 64 → counted < 2 ^ 64
    → column_head version tag width tail_width count ++ rest ≡ column_head later other wide tail_wide counted ++ after
    → SameHead version later tag other width wide tail_width tail_wide count counted rest after
column_head-one version later tag other width wide tail_width tail_wide count counted rest after few short e =
    let words : word_bytes count ++ rest ≡ word_bytes counted ++ after = ap (drop 8) e in
    record {
      versions = version_number-one version later (ap (λ l. get_or l 4 0) e);
      tags = ap (λ l. get_or l 5 0) e;
      widths = ap (λ l. get_or l 6 0) e;
      tail_widths = ap (λ l. get_or l 7 0) e;
      counts = same_word count counted rest after few short words;
      rests = same_after_word count counted rest after words;
    }

-- the widths of a tail that lawful heads can have are the same, if the heads say the same of them
pub tail_width-one : (version : Version) (format : Format) (tail_width tail_wide : ℕ) → IsTailWidthWhere (has_word_tail version format) tail_width → IsTailWidthWhere (has_word_tail version format) tail_wide
    → tail_width_byte version tail_width ≡ tail_width_byte version tail_wide → tail_width ≡ tail_wide
tail_width-one first format tail_width tail_wide is be e = is ∙ sym be
tail_width-one second format tail_width tail_wide is be e = e

-- The directory.

directory_where : (listed : Bool) (starts : List ℕ) (blocks : ℕ) → length starts ≡ blocks → length (if listed then words_of starts else []) ≡ (if listed then 8 * blocks else 0)
directory_where true starts blocks many = length-words_of starts ∙ ap (λ n. 8 * n) many
directory_where false starts blocks many = refl

pub length-starts_from : (place : ℕ) (pieces : List Piece) → length (starts_from place pieces) ≡ length pieces
length-starts_from place [] = refl
length-starts_from place (piece ∷ pieces) = ap suc (length-starts_from (place + length piece.encoding) pieces)

pub length-directory_of : (version : Version) (format : Format) (pieces : List Piece) → length (directory_of version format pieces) ≡ directory_len version format (length pieces)
length-directory_of version format pieces =
    directory_where (has_directory version format) (starts_from (first_start version format (length pieces)) pieces) (length pieces)
    (length-starts_from (first_start version format (length pieces)) pieces)

-- Pieces.

pub length-piece_values : (format : Format) (width : ℕ) (pieces : List Piece) → ArePieces format width pieces → length (piece_values pieces) ≡ length pieces * block_values
length-piece_values format width [] are = refl
length-piece_values format width (piece ∷ pieces) are =
    omega (arith, length-append piece.values (piece_values pieces), (BlockOf-full format width piece.values piece.encoding are.0).whole, length-piece_values format width pieces are.1)

-- what as many pieces as others at the front of the same bytes tell
pub record SamePieces (pieces others : List Piece) (x y : List ℕ) : Type 0 where
  pub values : piece_values pieces ≡ piece_values others
  pub bytes : piece_bytes pieces ≡ piece_bytes others
  pub rests : x ≡ y

pub pieces_front : (format : Format) (width : ℕ) (pieces others : List Piece) (x y : List ℕ) → ArePieces format width pieces → ArePieces format width others
    → length pieces ≡ length others → piece_bytes pieces ++ x ≡ piece_bytes others ++ y → SamePieces pieces others x y
pieces_front format width [] [] x y are be same e = record { values = refl; bytes = refl; rests = e }
pieces_front format width [] (other ∷ others) x y are be same e = absurd (omega (arith, same))
pieces_front format width (piece ∷ pieces) [] x y are be same e = absurd (omega (arith, same))
pieces_front format width (piece ∷ pieces) (other ∷ others) x y are be same e =
    let apart : piece.encoding ++ (piece_bytes pieces ++ x) ≡ other.encoding ++ (piece_bytes others ++ y) =
    sym (append_assoc piece.encoding (piece_bytes pieces) x) ∙ e ∙ append_assoc other.encoding (piece_bytes others) y in
    let first = BlockOf-front format width piece.values other.values piece.encoding other.encoding (piece_bytes pieces ++ x) (piece_bytes others ++ y) are.0 be.0 apart in
    let rest : SamePieces pieces others x y =
    pieces_front format width pieces others x y are.1 be.1 (omega arith) (same_rest piece.encoding other.encoding (piece_bytes pieces ++ x) (piece_bytes others ++ y) (ap length first.0) apart) in
    record {
      values = ap₂ (λ (a : List ℕ) (b : List ℕ). a ++ b) first.1 rest.values;
      bytes = ap₂ (λ (a : List ℕ) (b : List ℕ). a ++ b) first.0 rest.bytes;
      rests = rest.rests;
    }

-- the tail's values are words
pub tail_words : (version : Version) (format : Format) (width : ℕ) (values bytes : List ℕ) → (is : IsEncoded version format width values bytes) → AllByRecursion IsWord is.tail
tail_words version format width values bytes is = AreWords-rest (piece_values is.pieces) is.tail (subst (AllByRecursion IsWord) is.values_are is.column.words)

pub encoded_length : (version : Version) (format : Format) (width : ℕ) (values bytes : List ℕ) → (is : IsEncoded version format width values bytes) → length values ≡ length is.pieces * block_values + length is.tail
encoded_length version format width values bytes is =
    ap length is.values_are ∙ length-append (piece_values is.pieces) is.tail ∙ ap (λ n. n + length is.tail) (length-piece_values format width is.pieces is.blocks)

pub record SameColumn (version later : Version) (format other : Format) (width wide : ℕ) (values others : List ℕ) : Type 0 where
  pub versions : version ≡ later
  pub formats : format ≡ other
  pub widths : width ≡ wide
  pub lists : values ≡ others

-- what follows the head
abbrev pub body_of : {version : Version} {format : Format} {width : ℕ} {values bytes : List ℕ} → IsEncoded version format width values bytes → List ℕ
body_of {version} {format} is = directory_of version format is.pieces ++ (piece_bytes is.pieces ++ is.tail_bytes)

-- the width of the tail of an encoding
abbrev pub own_tail_width : {version : Version} {format : Format} {width : ℕ} {values bytes : List ℕ} → IsEncoded version format width values bytes → ℕ
own_tail_width {version} {format} is = tail_width_of version format is.tail

same_tail_width : (version : Version) (format : Format) (tail others : List ℕ) → tail_width_byte version (tail_width_of version format tail) ≡ tail_width_byte version (tail_width_of version format others)
    → tail_width_of version format tail ≡ tail_width_of version format others
same_tail_width first format tail others e = refl
same_tail_width second format tail others e = e

-- where the versions, formats and widths are one
same_values : (version : Version) (format : Format) (width : ℕ) (values others bytes : List ℕ) (is : IsEncoded version format width values bytes) (be : IsEncoded version format width others bytes)
    → length values ≡ length others → tail_width_byte version (own_tail_width is) ≡ tail_width_byte version (own_tail_width be) → body_of is ≡ body_of be → values ≡ others
same_values version format width values others bytes is be counts widths e =
    let many = encoded_length version format width values bytes is in
    let more = encoded_length version format width others bytes be in
    let whole : length is.pieces ≡ length be.pieces = omega (arith, many, more, counts, is.short, be.short) in
    let tails_long : length is.tail ≡ length be.tail = omega (arith, many, more, counts, is.short, be.short) in
    let listed : length (directory_of version format is.pieces) ≡ length (directory_of version format be.pieces) =
    length-directory_of version format is.pieces ∙ ap (directory_len version format) whole ∙ sym (length-directory_of version format be.pieces) in
    let behind : piece_bytes is.pieces ++ is.tail_bytes ≡ piece_bytes be.pieces ++ be.tail_bytes =
    same_rest (directory_of version format is.pieces) (directory_of version format be.pieces) (piece_bytes is.pieces ++ is.tail_bytes) (piece_bytes be.pieces ++ be.tail_bytes) listed e in
    let front : SamePieces is.pieces be.pieces is.tail_bytes be.tail_bytes = pieces_front format width is.pieces be.pieces is.tail_bytes be.tail_bytes is.blocks be.blocks whole behind in
    let width_is = same_tail_width version format is.tail be.tail widths in
    let packed : IsPackedTail (own_tail_width is) be.tail is.tail_bytes =
    subst (λ w. IsPackedTail w be.tail is.tail_bytes) (sym width_is) (subst (λ b. IsPackedTail (own_tail_width be) be.tail b) (sym front.rests) be.packed) in
    let tails : is.tail ≡ be.tail = IsPackedTail-values (own_tail_width is) is.tail be.tail is.tail_bytes tails_long is.packed packed in
    is.values_are ∙ ap₂ (λ (a : List ℕ) (b : List ℕ). a ++ b) front.values tails ∙ sym be.values_are

-- bytes are one column, in one version, in one format and at one width
pub IsEncoded-one : (version later : Version) (format other : Format) (width wide : ℕ) (values others bytes : List ℕ) → IsEncoded version format width values bytes → IsEncoded later other wide others bytes
    → SameColumn version later format other width wide values others
IsEncoded-one version later format other width wide values others bytes is be =
    let head : SameHead version later (tag_of format) (tag_of other) width wide (own_tail_width is) (own_tail_width be) (length values) (length others) (body_of is) (body_of be) =
    column_head-one version later (tag_of format) (tag_of other) width wide (own_tail_width is) (own_tail_width be) (length values) (length others) (body_of is) (body_of be)
    (omega (arith, is.column.few)) (omega (arith, be.column.few)) (sym is.bytes_are ∙ be.bytes_are) in
    let formats : format ≡ other = tag_of-one format other head.tags in
    let Same : Version → Format → ℕ → Type 0 = λ v f w. (two : IsEncoded v f w others bytes)
    → tail_width_byte version (own_tail_width is) ≡ tail_width_byte v (own_tail_width two) → body_of is ≡ body_of two → values ≡ others in
    let here : Same version format width = λ two t e. same_values version format width values others bytes is two head.counts t e in
    let there : Same later other wide = subst (λ w. Same later other w) head.widths (subst (λ f. Same later f width) formats (subst (λ v. Same v format width) head.versions here)) in
    record { versions = head.versions; formats = formats; widths = head.widths; lists = there be head.tail_widths head.rests }

-- the values of the whole blocks
pub whole_blocks-pieces : (version : Version) (format : Format) (width : ℕ) (values bytes : List ℕ) → (is : IsEncoded version format width values bytes) → whole_blocks values ≡ piece_values is.pieces
whole_blocks-pieces version format width values bytes is =
    let long = encoded_length version format width values bytes is in
    let count : length values / block_values * block_values ≡ length (piece_values is.pieces) = omega (arith, long, is.short, length-piece_values format width is.pieces is.blocks) in
    ap (λ n. take n values) count ∙ ap (take (length (piece_values is.pieces))) is.values_are ∙ take_at (piece_values is.pieces) is.tail (length (piece_values is.pieces)) refl

-- the values after the last whole block
pub encoded_tail : (version : Version) (format : Format) (width : ℕ) (values bytes : List ℕ) → (is : IsEncoded version format width values bytes) → block_at values (length values / block_values) ≡ is.tail
encoded_tail version format width values bytes is =
    let long = encoded_length version format width values bytes is in
    let whole : length values / block_values * block_values ≡ length (piece_values is.pieces) = omega (arith, long, is.short, length-piece_values format width is.pieces is.blocks) in
    ap (take block_values) (ap₂ (λ n l. drop n l) whole is.values_are ∙ drop_at (piece_values is.pieces) is.tail (length (piece_values is.pieces)) refl)
    ∙ take_all block_values is.tail (omega (arith, is.short))
