use Rattle.std.proofs.Common.{◌≡◌, ◌+◌, length}
use Rattle.std.specs.Option.{option_map}
use Rattle.query_text.specs.Cuts.{string_length}
use Rattle.query_text.proofs.lexing.string_len.Given as goal

-- the bytes so far, and those that stand before the closing quote in the rest
abbrev pub invariant-loop-first : goal.invariant-loop-first
invariant-loop-first l = record {
  so_far : option_map (λ n. l.len + n) (string_length l.rest) ≡ string_length l.fn.text;
  counted : l.len + length l.rest ≡ length l.fn.text;
}

abbrev pub decreases-loop-first : goal.decreases-loop-first
decreases-loop-first l = length l.rest
