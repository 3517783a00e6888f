use Rattle.std.proofs.Common.{◌≡◌, ◌+◌, ◌-◌, ◌≤◌, length, drop}
use Rattle.std.specs.List.{prefix_len}
use Rattle.engine_tool.specs.Texts.{class_test}
use Rattle.engine_tool.proofs.text.front_len.Given as goal

-- the bytes before `at` are of the class
abbrev pub invariant-loop-at : goal.invariant-loop-at
invariant-loop-at l = record {
  within : l.at ≤ length l.text;
  passed : l.at + prefix_len (class_test l.class) (drop l.at l.text) ≡ prefix_len (class_test l.class) l.text;
}

abbrev pub decreases-loop-at : goal.decreases-loop-at
decreases-loop-at l = length l.text - l.at
