-- What bytes that begin with a head show, and the head of a file.
use Rattle.std.proofs.Common.{◌≡◌, ℕ, ◌≤◌, List, [], ◌++◌, length, take, drop, get_or, true, false, if◌then◌else◌, refl, sym, ap, ◌∙◌, subst, arith, length-append}
use Rattle.std.specs.Int.{from_le_bytes, w64}
use Rattle.std.proofs.lemmas.List.{take_at, drop_at, append-nil}
use Rattle.definitions_blocks.specs.Words.{word_bytes, word_of}
use Rattle.definitions_blocks.specs.Encodings.{width_of}
use Rattle.definitions_blocks.specs.Formats as columns
use Rattle.definitions_columns.specs.ColumnFiles.{Version, first, second, version_number, has_word_tail, tail_width_of, tail_width_byte, column_head, head_len, static_width_of, directory_of, piece_bytes, IsEncoded, IsFileOf}
use Rattle.definitions_columns.specs.FileFaults.{IsTailWidthWhere, IsHead}
use Rattle.definitions_columns.specs.Sizes.{tail_of}
use Rattle.definitions_blocks.proofs.WordLaws.{length-word_bytes, from_le_bytes-word_bytes}
use Rattle.definitions_blocks.proofs.WidthLaws.{AreBelow-words, width_of-narrow}
use Rattle.definitions_columns.proofs.ColumnFileLaws.{length-column_head, tag_of-one, version_number-one, SameHead, column_head-one, tail_width-one, tail_words, encoded_tail}
use Rattle.definitions_columns.proofs.WidthLaws.{static_width_of-lawful}
use Rattle.block_core.specs.declared.formats.Format.{Format}
use Rattle.block_core.specs.declared.formats.Format.TheVariants as format
use Rattle.block_core.specs.Formats.{format_of, tag_of}
use Rattle.column_core.specs.declared.heads.Version as declared
use Rattle.column_core.specs.declared.heads.Version.TheVariants as variant
use Rattle.column_core.specs.Heads.{version_of, tail_width_said, BeginsWithHead}

-- the variant of a format
abbrev pub variant_of : columns.Format → Format
variant_of columns.plain = format.Plain
variant_of columns.static = format.Static
variant_of columns.dynamic = format.Dynamic
variant_of columns.runs = format.Runs
variant_of columns.delta1_dynamic = format.Delta1Dynamic
variant_of columns.delta16_dynamic = format.Delta16Dynamic
variant_of columns.reference_dynamic = format.ReferenceDynamic
variant_of columns.delta1_runs = format.Delta1Runs

pub format_of-variant_of : (f : columns.Format) → format_of (variant_of f) ≡ f
format_of-variant_of columns.plain = refl
format_of-variant_of columns.static = refl
format_of-variant_of columns.dynamic = refl
format_of-variant_of columns.runs = refl
format_of-variant_of columns.delta1_dynamic = refl
format_of-variant_of columns.delta16_dynamic = refl
format_of-variant_of columns.reference_dynamic = refl
format_of-variant_of columns.delta1_runs = refl

variant_of-format_of : (f : Format) → variant_of (format_of f) ≡ f
variant_of-format_of format.Plain = refl
variant_of-format_of format.Static = refl
variant_of-format_of format.Dynamic = refl
variant_of-format_of format.Runs = refl
variant_of-format_of format.Delta1Dynamic = refl
variant_of-format_of format.Delta16Dynamic = refl
variant_of-format_of format.ReferenceDynamic = refl
variant_of-format_of format.Delta1Runs = refl

pub format_of-one : (f g : Format) → format_of f ≡ format_of g → f ≡ g
format_of-one f g e = sym (variant_of-format_of f) ∙ ap variant_of e ∙ variant_of-format_of g

-- What 16 bytes show of the head that they are.
pub record Shows (v : Version) (f : columns.Format) (width tail_width count : ℕ) (bytes : List ℕ) : Type 0 where
  pub taken : take 16 bytes ≡ column_head v (columns.tag_of f) width tail_width count
  pub number : get_or (take 16 bytes) 4 0 ≡ version_number v
  pub tag : get_or (take 16 bytes) 5 0 ≡ columns.tag_of f
  pub widths : get_or (take 16 bytes) 6 0 ≡ width
  pub tail_widths : get_or (take 16 bytes) 7 0 ≡ tail_width_byte v tail_width
  pub counts : word_of (take 16 bytes) 1 ≡ count
  pub long : 16 ≤ length bytes

pub shows : (v : Version) (f : columns.Format) (width tail_width count : ℕ) (bytes rest : List ℕ) → IsHead v f width tail_width count → bytes ≡ column_head v (columns.tag_of f) width tail_width count ++ rest
    → Shows v f width tail_width count bytes
unfolding word_of
shows v f width tail_width count bytes rest head e =
    let front = column_head v (columns.tag_of f) width tail_width count in
    let taken : take 16 bytes ≡ front = ap (take 16) e ∙ take_at front rest 16 (length-column_head v (columns.tag_of f) width tail_width count) in
    let all : word_bytes count ++ [] ≡ word_bytes count = append-nil (word_bytes count) in
    let word : take 8 (word_bytes count) ≡ word_bytes count = ap (take 8) (sym all) ∙ take_at (word_bytes count) [] 8 (length-word_bytes count) in
    record {
      taken = taken;
      number = ap (λ l. get_or l 4 0) taken;
      tag = ap (λ l. get_or l 5 0) taken;
      widths = ap (λ l. get_or l 6 0) taken;
      tail_widths = ap (λ l. get_or l 7 0) taken;
      counts = ap (λ l. from_le_bytes w64 (take 8 (drop 8 l))) taken ∙ ap (from_le_bytes w64) word ∙ from_le_bytes-word_bytes count (omega (arith, head.few));
      long = omega (arith, ap length e, length-append front rest, length-column_head v (columns.tag_of f) width tail_width count);
    }

-- what the bytes of a head ask for is that head
pub record Asks (version : Version) (found : Format) (width tail_width count : ℕ) (bytes : List ℕ) : Type 0 where
  pub head : IsHead version (format_of found) width tail_width count
  pub taken : take 16 bytes ≡ column_head version (tag_of found) width tail_width count

-- what a head's byte says of the tail's width is that width
said : (v : Version) (f : columns.Format) (tail_width : ℕ) → IsTailWidthWhere (has_word_tail v f) tail_width → tail_width_said v (tail_width_byte v tail_width) ≡ tail_width
said first f tail_width is = sym is
said second f tail_width is = refl

pub asks : (v version : Version) (f : columns.Format) (width tail_width count : ℕ) (bytes rest : List ℕ) (found : Format) (wide tail_wide counted : ℕ) → IsHead v f width tail_width count
    → bytes ≡ column_head v (columns.tag_of f) width tail_width count ++ rest → version_number version ≡ get_or (take 16 bytes) 4 0 → tag_of found ≡ get_or (take 16 bytes) 5 0 → wide ≡ get_or (take 16 bytes) 6 0
    → tail_wide ≡ tail_width_said version (get_or (take 16 bytes) 7 0) → counted ≡ word_of (take 16 bytes) 1 → Asks version found wide tail_wide counted bytes
asks v version f width tail_width count bytes rest found wide tail_wide counted head e numbers tags widths tail_widths counts =
    let at = shows v f width tail_width count bytes rest head e in
    let versions : v ≡ version = sym (version_number-one version v (numbers ∙ at.number)) in
    let format : f ≡ format_of found = sym (tag_of-one (format_of found) f (tags ∙ at.tag)) in
    let tail : tail_wide ≡ tail_width = tail_widths ∙ ap (λ u. tail_width_said u (get_or (take 16 bytes) 7 0)) (sym versions) ∙ ap (tail_width_said v) at.tail_widths ∙ said v f tail_width head.tail_lawful in
    let same : Asks v found width tail_width count bytes = record {
      head = subst (λ g. IsHead v g width tail_width count) format head;
      taken = at.taken ∙ ap (λ g. column_head v (columns.tag_of g) width tail_width count) format;
    } in
    subst (λ u. Asks u found wide tail_wide counted bytes) versions
    (subst (λ w. Asks v found w tail_wide counted bytes) (sym (widths ∙ at.widths))
    (subst (λ t. Asks v found width t counted bytes) (sym tail) (subst (λ n. Asks v found width tail_width n bytes) (sym (counts ∙ at.counts)) same)))

pub no_format : (f : columns.Format) (tag : ℕ) → tag ≡ columns.tag_of f → ((found : Format) → tag_of found ≡ tag → ⊥) → ⊥
no_format f tag e none = none (variant_of f) (ap columns.tag_of (format_of-variant_of f) ∙ sym e)

-- the head of a file: as one record, whatever its parts
pub BeginsWithHead-one : (v u : Version) (f g : columns.Format) (width wide tail_width tail_wide count counted : ℕ) (bytes : List ℕ) → BeginsWithHead v f width tail_width count bytes → BeginsWithHead u g wide tail_wide counted bytes
    → SameHead v u (columns.tag_of f) (columns.tag_of g) width wide tail_width tail_wide count counted (drop 16 bytes) (drop 16 bytes)
BeginsWithHead-one v u f g width wide tail_width tail_wide count counted bytes is be =
    column_head-one v u (columns.tag_of f) (columns.tag_of g) width wide tail_width tail_wide count counted (drop 16 bytes) (drop 16 bytes) (omega (arith, is.head.few)) (omega (arith, be.head.few)) (sym is.bytes_are ∙ be.bytes_are)
