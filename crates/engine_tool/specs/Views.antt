-- What values of the code stand for.
use Rattle.std.specs.Prelude.{◌≡◌, ℕ, List, length, Option, Some, None, IfSome}
use Rattle.column_core.specs.Columns.{Shape}
use Rattle.engine_tool.specs.Replies as replies
use Rattle.engine_tool.specs.declared.loading.Tested.{Tested}
use Rattle.engine_tool.specs.declared.loading.Tested.TheVariants as tested
use Rattle.engine_tool.specs.declared.loading.Loaded.{Loaded}

-- the list of a column
abbrev pub values_of : Shape → List ℕ
values_of column = column.values

-- the list that a condition tests, beside the one that is summed
abbrev pub tested_of : List ℕ → Tested → Option (List ℕ)
tested_of summed tested.Nothing = None
tested_of summed tested.Summed = Some summed
tested_of summed (tested.Other column) = Some column.values

abbrev pub loaded_view : Loaded → replies.Loaded
loaded_view loaded = record { summed = loaded.summed.values; tested = tested_of loaded.summed.values loaded.tested }

-- the list that a condition tests has a value for each row
abbrev pub HasRows : replies.Loaded → Type 0
HasRows loaded = IfSome loaded.tested (λ tested. length tested ≡ length loaded.summed)
