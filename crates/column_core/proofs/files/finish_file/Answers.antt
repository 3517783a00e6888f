use Rattle.std.proofs.Common.{◌≡◌, ◌+◌, ◌*◌, ◌<◌, ◌≤◌, ◌++◌, Bool, if◌then◌else◌, ℕ, List, [], length, take, drop, refl, sym, ap, ap₂, ◌∙◌, subst, arith, length-append}
use Rattle.std.proofs.lemmas.Bool.{false≢true}
use Rattle.definitions_blocks.specs.Words.{words_of}
use Rattle.definitions_blocks.specs.Columns.{max_rows}
use Rattle.definitions_blocks.specs.Formats.{tag_of}
use Rattle.definitions_blocks.proofs.WordListLaws.{words_from}
use Rattle.definitions_columns.specs.Tails.{packed_len}
use Rattle.definitions_columns.specs.ColumnFiles.{second, head_len, column_head}
use Rattle.definitions_columns.specs.UnderWay.{moved_up}
use Rattle.definitions_columns.proofs.UnderWayLaws.{under_way_counts, AreBlocks-one}
use Rattle.block_core.specs.Formats.{format_of}
use Rattle.column_core.proofs.FinishLemmas.{starts_within, listed_size, finished_size, finished_file}
use Rattle.column_core.proofs.files.finish_file.Goals as goal

pub overflow_mul-head : goal.overflow_mul-head
overflow_mul-head c =
    let count = under_way_counts (format_of c.args.format) c.args.width c.requires.few.0 c.args.bytes.now.items c.args.starts.now c.requires.few.1 in
    omega (arith, count.many, count.whole, c.requires.few.2)

pub overflow_add-head : goal.overflow_add-head
overflow_add-head c =
    let count = under_way_counts (format_of c.args.format) c.args.width c.requires.few.0 c.args.bytes.now.items c.args.starts.now c.requires.few.1 in
    omega (arith, count.many, count.whole, c.requires.few.2)

pub add_directory-requires-clause-head : goal.add_directory-requires-clause-head
add_directory-requires-clause-head c = c.requires.few.1.long

pub add_directory-requires-clause-within : goal.add_directory-requires-clause-within
add_directory-requires-clause-within c = starts_within (format_of c.args.format) c.args.width c.requires.few.0 c.args.bytes.now.items c.args.starts.now c.requires.few.1

pub add_directory-requires-clause-few : goal.add_directory-requires-clause-few
add_directory-requires-clause-few c =
    let count = under_way_counts (format_of c.args.format) c.args.width c.requires.few.0 c.args.bytes.now.items c.args.starts.now c.requires.few.1 in
    omega (arith, count.many, count.whole, c.requires.few.2)

pub returns-in_err-add_directory-clause-sure : goal.returns-in_err-add_directory-clause-sure
returns-in_err-add_directory-clause-sure c = λ values are fits.
    let f = format_of c.args.format in
    let size = finished_size f c.args.width values c.args.bytes.now.items c.args.starts.now c.args.tail.now are c.requires.short in
    let listed = ap (λ b. if b then 8 * length c.args.starts.now else 0) c.has_directory.ensures in
    absurd (false≢true (c.in_err-add_directory.ensures.sure (omega (arith, size, listed, fits, c.args.bytes.now.ok.0))))

pub returns-in_err-append_tail-clause-sure : goal.returns-in_err-append_tail-clause-sure
returns-in_err-append_tail-clause-sure c = λ values are fits.
    let f = format_of c.args.format in
    let size = finished_size f c.args.width values c.args.bytes.now.items c.args.starts.now c.args.tail.now are c.requires.short in
    let listed = listed_size c.has_directory.result c.args.bytes.now.items c.args.starts.now c.add_directory.new.bytes.items c.in_ok-add_directory.ensures.ok in
    let same = ap (λ b. if b then 8 * length c.args.starts.now else 0) c.has_directory.ensures in
    let packed = ap (packed_len (length c.args.tail.now)) c.tail_width_in.ensures.width in
    absurd (false≢true (c.in_err-append_tail.ensures.sure (omega (arith, size, listed, same, packed, fits, c.in_ok-add_directory.ensures.capacity, c.add_directory.new.bytes.ok.0))))

pub returns-clause-ok : goal.returns-clause-ok
returns-clause-ok c = λ values are.
    let f = format_of c.args.format in
    let count = under_way_counts f c.args.width values c.args.bytes.now.items c.args.starts.now are in
    let few : length values + length c.args.tail.now ≤ max_rows = omega (arith, c.requires.few.2, ap length (AreBlocks-one f c.args.width values c.requires.few.0 c.args.bytes.now.items c.args.starts.now are c.requires.few.1)) in
    let listed =
    c.in_ok-add_directory.ensures.ok
    ∙ ap (λ (b : Bool). take head_len c.args.bytes.now.items ++ ((if b then words_of (moved_up (8 * length c.args.starts.now) c.args.starts.now) else []) ++ drop head_len c.args.bytes.now.items)) c.has_directory.ensures in
    let tail = c.in_ok-append_tail.ensures.ok in
    finished_file f c.args.width c.tail_width_in.result (length c.args.starts.now * 1024 + length c.args.tail.now) values c.args.bytes.now.items c.args.starts.now c.args.tail.now c.add_directory.new.bytes.items tail.0 c.put_head.new.bytes.items
    are few c.requires.short (words_from c.args.tail.now (λ i within. (c.type_inv.tail i).fits)) c.tail_width_in.ensures.width tail.1 refl listed
    (c.put_head.ensures ∙ ap (λ (l : List ℕ). column_head second (tag_of f) c.args.width c.tail_width_in.result (length c.args.starts.now * 1024 + length c.args.tail.now) ++ drop head_len l) tail.2)
