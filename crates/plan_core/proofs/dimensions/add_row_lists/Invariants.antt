-- the row lists left make the whole
use Rattle.std.proofs.Common.{◌≤◌, ◌+◌, length, ◌≡◌, map, drop, []}
use Rattle.plan_core.specs.Planner.{add_row_lists}
use Rattle.plan_core.specs.Views.{row_list_view}
use Rattle.plan_core.proofs.dimensions.add_row_lists.Given as goal

abbrev pub invariant-loop-rows : goal.invariant-loop-rows
invariant-loop-rows l = record {
  made : add_row_lists l.planner (map row_list_view l.done.items) (map row_list_view (drop l.rows-index l.lists)) l.left
      ≡ add_row_lists l.initial.planner [] (map row_list_view l.lists) l.left;
  columns : l.planner.columns ≤ l.initial.planner.columns + l.rows-index;
  count : length l.done.items ≡ l.rows-index;
}
