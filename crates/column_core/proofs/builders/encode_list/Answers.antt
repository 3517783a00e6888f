use Rattle.std.proofs.Common.{◌≡◌, ◌+◌, ◌-◌, ◌*◌, ◌/◌, ◌++◌, ℕ, List, length, take, drop, IfOk, sym, ap, ap₂, ◌∙◌, subst, arith}
use Rattle.std.proofs.lemmas.List.{take-append-drop, take_all, length-drop}
use Rattle.definitions_blocks.specs.Blocks.{block_values}
use Rattle.definitions_blocks.specs.Formats.{FitsFormat}
use Rattle.definitions_columns.specs.ColumnFiles.{static_width_of}
use Rattle.block_core.specs.declared.formats.Format.{Format}
use Rattle.block_core.specs.Formats.{format_of}
use Rattle.column_core.specs.Columns.{Shape, Encoding, encoding_of, reserve, shape}
use Rattle.definitions_columns.proofs.WidthLaws.{static_width_of-block}
use Rattle.column_core.proofs.BuilderLemmas.{static_width_of-whole}
use Rattle.column_core.proofs.BlockAtLemmas.{take_blocks}
use Rattle.column_core.proofs.builders.encode_list.Goals as goal

pub push_block-requires-clause-fits : goal.push_block-requires-clause-fits
push_block-requires-clause-fits c =
    let values = c.args.values.now in
    let at = c.loop-number.number * 1024 in
    let size : at + 1024 - at ≡ block_values = omega arith in
    let block : c.fill_from.new.block ≡ take block_values (drop at values) = c.fill_from.ensures.same ∙ ap (λ n. take n (drop at values)) size in
    let width : c.least_width-width.result ≡ static_width_of (format_of c.args.format) values =
    c.least_width-width.ensures.width ∙ static_width_of-whole (format_of c.args.format) values in
    let fits = static_width_of-block (format_of c.args.format) at values (omega (arith, c.loop-number-test.true)) (λ k within. (c.type_inv.values k).fits) in
    subst (λ (e : Encoding). FitsFormat (format_of e.format) e.width c.fill_from.new.block) (sym c.loop-number.invariant.encoded)
    (subst (FitsFormat (format_of c.args.format) c.least_width-width.result) (sym block) (subst (λ w. FitsFormat (format_of c.args.format) w (take block_values (drop at values))) (sym width) fits))

pub loop-number-preserved : goal.loop-number-preserved
loop-number-preserved c =
    let values = c.args.values.now in
    let at = c.loop-number.number * 1024 in
    let size : at + 1024 - at ≡ block_values = omega arith in
    let block : c.fill_from.new.block ≡ take block_values (drop at values) = c.fill_from.ensures.same ∙ ap (λ n. take n (drop at values)) size in
    let more : at + block_values ≡ (c.loop-number.number + 1) * block_values = omega arith in
    record {
      encoded = c.in_ok-push_block.ensures.ok ∙ ap (λ (e : Encoding). encoding_of e.format e.width e.reserve (e.values ++ c.fill_from.new.block)) c.loop-number.invariant.encoded
          ∙ ap (encoding_of c.args.format c.least_width-width.result (reserve 0 0)) (ap (λ l. take at values ++ l) block ∙ take_blocks at block_values values ∙ ap (λ n. take n values) more);
      full = ap length block ∙ ap length (sym block) ∙ omega (arith, c.fill_from.ensures.full.whole);
    }

pub returns : goal.returns
returns c =
    let values = c.args.values.now in
    let at = length values / 1024 * 1024 in
    let same = c.loop-number.invariant.encoded in
    let front : take (c.loop-number.number * block_values) values ≡ take at values = ap (λ n. take n values) (let e : c.loop-number.number * block_values ≡ at = omega (arith, c.loop-number-test.false) in e) in
    let all : c.loop-number.encoded.values ++ c.rest_from.result.now ≡ values =
    ap₂ (λ (a b : List ℕ). a ++ b) (ap (λ (e : Encoding). e.values) same ∙ front) c.rest_from.ensures ∙ take-append-drop at values in
    let seen : shape c.loop-number.encoded.format (c.loop-number.encoded.values ++ c.rest_from.result.now) ≡ shape c.args.format values =
    ap₂ (λ (f : Format) (l : List ℕ). shape f l) (ap (λ (e : Encoding). e.format) same) all in
    subst (λ (s : Shape). IfOk c.finish.result (λ column. column ≡ s)) seen c.finish.ensures.ok
