use Rattle.std.proofs.Common.{◌≤◌, ◌++◌, List, Option, length}
use Rattle.definitions_queries.specs.Tokens.{Placed}
use Rattle.definitions_queries.specs.Lexing.{LexicalError, is_white_space, rest_after, GoesOn}
use Rattle.query_text.specs.Views.{tokens_view}
use Rattle.query_text.proofs.lexing.tokens.Given as goal

-- however the rest goes on, the whole text goes on with the tokens so far before that
abbrev pub invariant-loop-kind : goal.invariant-loop-kind
invariant-loop-kind l = record {
  within : length l.rest ≤ length l.fn.text;
  so_far : (more : List Placed) (error : Option LexicalError) → GoesOn (length l.fn.text) l.rest more error → GoesOn (length l.fn.text) (rest_after is_white_space l.fn.text) (tokens_view l.tokens.items ++ more) error;
}

abbrev pub decreases-loop-kind : goal.decreases-loop-kind
decreases-loop-kind l = length l.rest
