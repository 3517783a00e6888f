-- The head of a file.
use Rattle.std.proofs.Common.{◌≡◌, ℕ, List, ◌++◌, length, drop, Bool, true, false, if◌then◌else◌, refl, sym, ap, ◌∙◌, subst, arith, length-append}
use Rattle.std.proofs.lemmas.List.{drop_at}
use Rattle.definitions_blocks.specs.Packed.{AreBelow}
use Rattle.definitions_blocks.specs.Encodings.{width_of}
use Rattle.definitions_blocks.specs.Formats as columns
use Rattle.definitions_columns.specs.ColumnFiles.{Version, tail_width_of, tail_width_byte, has_word_tail, column_head, static_width_of, directory_of, piece_bytes, IsEncoded, IsFileOf}
use Rattle.definitions_columns.specs.FileFaults.{IsTailWidthWhere}
use Rattle.definitions_columns.specs.Sizes.{tail_of}
use Rattle.definitions_blocks.proofs.WidthLaws.{AreBelow-words, width_of-narrow}
use Rattle.definitions_columns.proofs.ColumnFileLaws.{length-column_head, tag_of-one, SameHead, tail_words, encoded_tail, tail_width-one}
use Rattle.definitions_columns.proofs.WidthLaws.{static_width_of-lawful}
use Rattle.block_core.specs.declared.formats.Format.{Format}
use Rattle.block_core.specs.Formats.{format_of, tag_of}
use Rattle.column_core.specs.declared.heads.Head.{Head}
use Rattle.column_core.specs.Heads.{version_of, BeginsWithHead, IsHeadOf}
use Rattle.column_core.proofs.HeadLemmas.{format_of-one, BeginsWithHead-one}

tail_width_where : (words : Bool) (tail : List ℕ) → AreBelow 64 tail → IsTailWidthWhere words (if words then 64 else width_of tail)
tail_width_where true tail small = refl
tail_width_where false tail small = width_of-narrow tail small

-- what a file begins with
pub file_head : (version : Version) (f : columns.Format) (values bytes : List ℕ) → IsFileOf version f values bytes
    → BeginsWithHead version f (static_width_of f values) (tail_width_of version f (tail_of values)) (length values) bytes
file_head version f values bytes is =
    let width = static_width_of f values in
    let words : AreBelow 64 is.tail = AreBelow-words is.tail (tail_words version f width values bytes is) in
    let head = column_head version (columns.tag_of f) width (tail_width_of version f is.tail) (length values) in
    let rest = directory_of version f is.pieces ++ (piece_bytes is.pieces ++ is.tail_bytes) in
    let long = length-column_head version (columns.tag_of f) width (tail_width_of version f is.tail) (length values) in
    let behind : drop 16 bytes ≡ rest = ap (drop 16) is.bytes_are ∙ drop_at head rest 16 long in
    let own : BeginsWithHead version f width (tail_width_of version f is.tail) (length values) bytes = record {
      head = record {
        lawful = static_width_of-lawful f values (AreBelow-words values is.column.words);
        tail_lawful = tail_width_where (has_word_tail version f) is.tail words;
        few = is.column.few;
      };
      within = omega (arith, ap length is.bytes_are, length-append head rest, long);
      bytes_are = is.bytes_are ∙ ap (λ (l : List ℕ). head ++ l) (sym behind);
    } in
    subst (λ l. BeginsWithHead version f width (tail_width_of version f l) (length values) bytes) (sym (encoded_tail version f width values bytes is)) own

-- a head that a file begins with is the file's
pub head_is : (found : Head) (version : Version) (format : Format) (values bytes : List ℕ) → IsFileOf version (format_of format) values bytes
    → BeginsWithHead (version_of found.version) (format_of found.format) found.static_width found.tail_width found.count bytes → IsHeadOf found version format values
head_is found version format values bytes is begins =
    let f = format_of format in
    let own = file_head version f values bytes is in
    let same = BeginsWithHead-one (version_of found.version) version (format_of found.format) f found.static_width (static_width_of f values) found.tail_width (tail_width_of version f (tail_of values)) found.count (length values) bytes begins own in
    let formats : format_of found.format ≡ f = tag_of-one (format_of found.format) f same.tags in
    let there : IsTailWidthWhere (has_word_tail version f) found.tail_width =
    subst (λ v. IsTailWidthWhere (has_word_tail v f) found.tail_width) same.versions (subst (λ g. IsTailWidthWhere (has_word_tail (version_of found.version) g) found.tail_width) formats begins.head.tail_lawful) in
    record {
      version_is = same.versions;
      format_is = format_of-one found.format format formats;
      width_is = same.widths;
      tail_width_is = tail_width-one version f found.tail_width (tail_width_of version f (tail_of values)) there own.head.tail_lawful
          (ap (λ v. tail_width_byte v found.tail_width) (sym same.versions) ∙ same.tail_widths);
      count_is = same.counts;
    }
