use Rattle.std.proofs.Common.{◌≡◌, drop}
use Rattle.definitions_outcomes.specs.Computed.{walk}
use Rattle.definitions_outcomes.proofs.ComputedLaws.{after}
use Rattle.query_text.specs.Views.{keys_view}
use Rattle.query_bind.specs.Binding.{key_in, order_of}
use Rattle.query_bind.proofs.selection.order_of.Given as goal

-- the keys so far, and then what the walk over the rest gives
abbrev pub invariant-loop-key : goal.invariant-loop-key
invariant-loop-key l = order_of l.groups l.aliases (keys_view l.keys) ≡ after l.order.items (walk (λ number. key_in l.groups l.aliases) l.key-index (drop l.key-index (keys_view l.keys)))
