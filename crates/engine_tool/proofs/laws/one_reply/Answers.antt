use Rattle.engine_tool.proofs.OneReplyLemmas.{one_reply}
use Rattle.engine_tool.proofs.laws.one_reply.Goals as goal

pub returns : goal.returns
returns c = one_reply
