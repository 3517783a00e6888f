use Rattle.answer_text.proofs.RecordLemmas.{one_record_more}
use Rattle.answer_text.proofs.records.Records.end.Goals as goal

pub returns : goal.returns
returns c = λ separator text fields was.
    let ended = c.in-Ok.ensures in
    one_record_more separator text fields c.args.self.now _ ended.same ended.bytes ended.fields ended.wrote was
