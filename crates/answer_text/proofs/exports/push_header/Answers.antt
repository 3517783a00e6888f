use Rattle.std.proofs.lemmas.Result.{on_ok_weaker}
use Rattle.answer_text.proofs.PrintLemmas.{names_are_header}
use Rattle.answer_text.proofs.exports.push_header.Goals as goal

pub returns-then-definition : goal.returns-then-definition
returns-then-definition c =
    on_ok_weaker c.push_names.result (λ named. names_are_header c.args.definition.now c.as_slice.result.now c.args.records.now c.push_names.new.records c.if-definition.true c.as_slice.ensures named) c.push_names.ensures
