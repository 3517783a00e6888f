use Rattle.std.proofs.Common.{◌≡◌, ℕ, List, length, sym, ap, ap₂, subst, ◌∙◌}
use Rattle.definitions_columns.specs.ColumnFiles.{second, static_width_of, tail_width_of, IsColumnFile}
use Rattle.definitions_columns.specs.Sizes.{tail_of}
use Rattle.block_core.specs.declared.formats.Format.{Format}
use Rattle.block_core.specs.Formats.{format_of}
use Rattle.column_core.specs.Columns.{shape}
use Rattle.column_core.specs.Heads.{IsHeadOf}
use Rattle.column_core.proofs.ColumnLemmas.{stored_file}
use Rattle.column_core.proofs.columns.Column.of_vec.Goals as goal
use Rattle.column_core.proofs.columns.Column.of_vec.Goals.{After-head_of-head}

pub head_of-head-requires : goal.head_of-head-requires
head_of-head-requires c = (second, c.requires.0, c.requires.1, subst (IsColumnFile (format_of c.requires.0) c.requires.1) (sym c.as_slice.ensures.value) c.requires.2)

-- the head is the file's
told : (c : After-head_of-head) (format : Format) (values : List ℕ) → IsColumnFile (format_of format) values c.args.bytes.items → IsHeadOf c.head_of-head.result second format values
told c format values is = c.head_of-head.ensures second format values (subst (IsColumnFile (format_of format) values) (sym c.as_slice.ensures.value) is)

-- the bytes are the file in the format that the head says
said : (c : After-head_of-head) (format : Format) (values : List ℕ) → IsColumnFile (format_of format) values c.args.bytes.items → IsColumnFile (format_of c.head_of-head.result.format) values c.args.bytes.items
said c format values is = subst (λ f. IsColumnFile (format_of f) values c.args.bytes.items) (sym (told c format values is).format_is) is

pub invariant_of-result : goal.invariant_of-result
invariant_of-result c = ((c.requires.1, ∣ said c c.requires.0 c.requires.1 c.requires.2 ∣₁), tt)

-- what holds of the list that the bytes are the file of
kept : (c : After-head_of-head) (format : Format) (values list : List ℕ) → IsColumnFile (format_of format) values c.args.bytes.items → list ≡ values
    → IsColumnFile (format_of c.head_of-head.result.format) list c.args.bytes.items × (c.head_of-head.result.static_width ≡ static_width_of (format_of c.head_of-head.result.format) list)
    × (c.head_of-head.result.tail_width ≡ tail_width_of second (format_of c.head_of-head.result.format) (tail_of list)) × (c.head_of-head.result.count ≡ length list)
kept c format values list is same =
    let head = told c format values is in
    let read = c.head_of-head.result in
    let formats : format_of format ≡ format_of read.format = ap format_of (sym head.format_is) in
    subst
    (λ (l : List ℕ). IsColumnFile (format_of read.format) l c.args.bytes.items × (read.static_width ≡ static_width_of (format_of read.format) l)
    × (read.tail_width ≡ tail_width_of second (format_of read.format) (tail_of l)) × (read.count ≡ length l)) (sym same)
    (said c format values is, head.width_is ∙ ap (λ f. static_width_of f values) formats, head.tail_width_is ∙ ap (λ f. tail_width_of second f (tail_of values)) formats, head.count_is)

pub invariant_of-result-2 : goal.invariant_of-result-2
invariant_of-result-2 c =
    kept c.before c.requires.0 c.requires.1 c.result-1.given.0.0 c.requires.2
    (stored_file c.head_of-head.result.format c.args.bytes.items c.result-1.given.0 c.requires.1 (said c.before c.requires.0 c.requires.1 c.requires.2))

pub returns : goal.returns
returns c = λ format values is.
    let list : c.result-1.given.0.0 ≡ values = stored_file c.head_of-head.result.format c.args.bytes.items c.result-1.given.0 values (said c.before format values is) in
    ap (shape c.head_of-head.result.format) list ∙ ap (λ f. shape f values) (told c.before format values is).format_is
