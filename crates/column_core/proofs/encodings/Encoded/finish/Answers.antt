use Rattle.std.proofs.Common.{◌++◌, ap, ◌∙◌}
use Rattle.block_core.specs.Formats.{format_of}
use Rattle.column_core.specs.Columns.{Encoding, shape}
use Rattle.column_core.proofs.FinishLemmas.{whole_file}
use Rattle.column_core.proofs.encodings.Encoded.finish.Goals as goal

pub of_vec-requires : goal.of_vec-requires
of_vec-requires c =
    let i = c.self.inside in (
      i.format,
      i.stored.0 ++ c.args.tail.now,
      whole_file (format_of i.format) i.width i.stored.0 i.bytes.items i.starts.items c.as_slice.result.now c.args.tail.now c.finish_file.new.bytes.items c.self.invariant.0 c.as_slice.ensures.value
          c.in_ok-finish_file.ensures.ok (rw (← c.self.view_is) at c.requires.least) c.requires.short,
    )

pub returns-clause-ok : goal.returns-clause-ok
returns-clause-ok c =
    let i = c.self.inside in
    let file =
    whole_file (format_of i.format) i.width i.stored.0 i.bytes.items i.starts.items c.as_slice.result.now c.args.tail.now c.finish_file.new.bytes.items c.self.invariant.0 c.as_slice.ensures.value
    c.in_ok-finish_file.ensures.ok (rw (← c.self.view_is) at c.requires.least) c.requires.short in
    c.of_vec.ensures i.format (i.stored.0 ++ c.args.tail.now) file ∙ ap (λ (e : Encoding). shape e.format (e.values ++ c.args.tail.now)) c.self.view_is
