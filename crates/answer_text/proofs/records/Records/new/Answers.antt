use Rattle.std.proofs.Common.{◌∙◌, refl, ap}
use Rattle.csv.specs.Writing.{with_delimiter}
use Rattle.csv.specs.declared.writer.WriterBuilder.{WriterBuilder}
use Rattle.answer_text.proofs.RecordLemmas.{nothing_written}
use Rattle.answer_text.proofs.records.Records.new.Goals as goal

pub returns : goal.returns
returns c =
    let from = c.from_writer.ensures in
    nothing_written c.args.separator _ (from.cfg ∙ c.delimiter.ensures ∙ ap (λ (setup : WriterBuilder). with_delimiter setup c.args.separator) c.new.ensures)
    (rw (from.wtr, from.empty, c.new-2.ensures.items) refl) from.fields from.wrote
