-- what is left tells the answer
use Rattle.std.proofs.Common.{◌≡◌, map, drop}
use Rattle.plan_core.specs.Planner.{number_of}
use Rattle.plan_core.specs.Views.{row_list_view}
use Rattle.plan_core.proofs.groups.list_of.Given as goal

abbrev pub invariant-loop-rows : goal.invariant-loop-rows
invariant-loop-rows l = number_of l.table (map row_list_view (drop l.rows-index l.lists)) ≡ number_of l.table (map row_list_view l.lists)
