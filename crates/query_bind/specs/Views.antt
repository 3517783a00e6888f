-- What the code's binding says in the definitions' words.
use Rattle.std.specs.Prelude.{map}
use Rattle.query_text.specs.Views.{test_view}
use Rattle.query_bind.specs.Binding as meant
use Rattle.query_bind.specs.Binding.{Tested, Binding}
use Rattle.query_bind.specs.declared.bounds.Condition.{Condition}
use Rattle.query_bind.specs.declared.bounds.Bound.{Bound}
use Rattle.query_bind.specs.declared.conditions.Conditions.{Conditions}
use Rattle.query_bind.specs.declared.selection.Selected.{Selected}

abbrev pub tested_view : Condition → Tested
tested_view condition = record { column = condition.column; test = test_view condition.test }

abbrev pub bound_view : Bound → Binding
bound_view bound = record {
  fact = bound.fact;
  dimensions = bound.dimensions;
  joins = bound.joins;
  tests = map tested_view bound.conditions;
  groups = bound.groups;
  sums = bound.sums;
  items = bound.items;
  order = bound.order;
}

abbrev pub parted_view : Conditions → meant.Conditions
parted_view conditions = record { joins = conditions.joins.items; tests = map tested_view conditions.tests.items }

abbrev pub selected_view : Selected → meant.Selected
selected_view selected = record { items = selected.items.items; sums = selected.sums.items; aliases = selected.aliases }
