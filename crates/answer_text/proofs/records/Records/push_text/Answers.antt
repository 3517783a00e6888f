use Rattle.std.proofs.Common.{refl}
use Rattle.answer_text.proofs.RecordLemmas.{one_field_more, quotes_texts}
use Rattle.answer_text.proofs.records.Records.push_text.Goals as goal

pub returns : goal.returns
returns c = λ separator text before was.
    let wrote = c.in-Ok.ensures in
    let old = c.args.self.now in
    one_field_more separator text before old _ c.args.text.now c.args.text.now refl wrote.same (wrote.text (quotes_texts separator text before old was)) wrote.count
    (λ none. wrote.wrote none (quotes_texts separator text before old was)) wrote.stays was
