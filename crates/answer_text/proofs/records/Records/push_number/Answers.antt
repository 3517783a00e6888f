use Rattle.std.proofs.Common.{◌∙◌, decimal}
use Rattle.answer_text.proofs.RecordLemmas.{one_field_more, quotes_texts}
use Rattle.answer_text.proofs.records.Records.push_number.Goals as goal

pub returns : goal.returns
returns c = λ separator text before was.
    let wrote = c.in-Ok.ensures in
    let old = c.args.self.now in
    one_field_more separator text before old _ c.as_bytes.result.now (decimal c.args.number) (c.as_bytes.ensures.value ∙ c.format.ensures.text) wrote.same (wrote.text (quotes_texts separator text before old was)) wrote.count
    (λ none. wrote.wrote none (quotes_texts separator text before old was)) wrote.stays was
