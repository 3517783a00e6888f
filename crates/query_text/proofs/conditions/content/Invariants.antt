use Rattle.std.proofs.Common.{◌≡◌, ◌++◌, length}
use Rattle.query_text.specs.Views.{content}
use Rattle.query_text.proofs.conditions.content.Given as goal

-- what was read goes before what the rest means
abbrev pub invariant-loop-first : goal.invariant-loop-first
invariant-loop-first l = l.bytes.items ++ content l.rest ≡ content l.fn.text

abbrev pub decreases-loop-first : goal.decreases-loop-first
decreases-loop-first l = length l.rest
