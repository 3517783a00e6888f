use Rattle.std.proofs.Common.{◌≡◌, drop, length}
use Rattle.query_text.specs.Views.{words_view}
use Rattle.query_bind.specs.Binding.{next_group, groups_of}
use Rattle.query_bind.specs.Steps.{accumulate}
use Rattle.query_bind.proofs.selection.groups_of.Given as goal

-- what the rest adds to the names so far, of which there are as many as words
abbrev pub invariant-loop-word : goal.invariant-loop-word
invariant-loop-word l = record {
  place : l.number ≡ l.word-index;
  count : length l.groups ≡ l.number;
  whole : groups_of (words_view l.words) ≡ accumulate next_group l.groups (drop l.word-index (words_view l.words));
}
