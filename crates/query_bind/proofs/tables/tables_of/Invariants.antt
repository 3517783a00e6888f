use Rattle.std.proofs.Common.{◌≡◌, drop, length}
use Rattle.query_text.specs.Views.{words_view}
use Rattle.query_bind.specs.Binding.{next_table, tables_of}
use Rattle.query_bind.specs.Steps.{accumulate}
use Rattle.query_bind.proofs.tables.tables_of.Given as goal

-- what the rest adds to the tables so far, of which there are as many as words
abbrev pub invariant-loop-word : goal.invariant-loop-word
invariant-loop-word l = record {
  count : length l.tables.items ≡ l.word-index;
  whole : tables_of l.schema (words_view l.words) ≡ accumulate (next_table l.schema) l.tables.items (drop l.word-index (words_view l.words));
}
