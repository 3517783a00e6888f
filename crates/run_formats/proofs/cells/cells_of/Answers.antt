use Rattle.std.proofs.Common.{take, ap, ◌∙◌}
use Rattle.std.proofs.lemmas.List.{take_rest}
use Rattle.run_formats.proofs.CellLaws.{cells_read}
use Rattle.run_formats.proofs.cells.cells_of.Goals as goal

pub returns : goal.returns
returns c =
    ap (λ n. take n c.as_chunks.result.0.now) c.from.ensures
    ∙ cells_read c.args.bytes.now _ c.args.runs c.as_chunks.result.0.now c.as_chunks.ensures.front (take_rest c.args.bytes.now 2) c.requires
