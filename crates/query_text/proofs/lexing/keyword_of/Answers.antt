use Rattle.query_text.proofs.KeywordLemmas.{too_long}
use Rattle.query_text.proofs.lexing.keyword_of.Goals as goal

pub returns-in_default-46 : goal.returns-in_default-46
returns-in_default-46 c = too_long c.args.word.now c.in_default.len_at_least
