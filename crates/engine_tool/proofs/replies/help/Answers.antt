use Rattle.std.proofs.Common.{◌∙◌}
use Rattle.engine_tool.specs.Ends.{inside}
use Rattle.engine_tool.proofs.DidLemmas.{did_help}
use Rattle.engine_tool.proofs.replies.help.Goals as goal

pub returns : goal.returns
returns c = λ files store_faults input input_faults.
    did_help (inside files store_faults input input_faults) c.from_vec.result (c.from_vec.ensures ∙ c.in_ok-text.ensures.items ∙ c.as_bytes.ensures.value ∙ c.help_text.ensures)
