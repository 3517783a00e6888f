use Rattle.std.proofs.Common.{◌≡◌, map, take}
use Rattle.query_text.specs.Views.{literal_view}
use Rattle.query_text.proofs.query.copied_literals.Given as goal

-- the literals so far are copied
abbrev pub invariant-loop-literal : goal.invariant-loop-literal
invariant-loop-literal l = map literal_view l.copies.items ≡ map literal_view (take l.literal-index l.literals)
