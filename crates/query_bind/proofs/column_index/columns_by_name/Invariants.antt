use Rattle.std.proofs.Common.{◌≡◌, ℕ, List, take}
use Rattle.std.specs.List.{find}
use Rattle.std.specs.Str.{bytes_eq}
use Rattle.query_bind.specs.Binding.{column_name}
use Rattle.query_bind.specs.NameMaps.{value_of}
use Rattle.query_bind.proofs.column_index.columns_by_name.Given as goal

-- each name has the first column of that name among those so far
abbrev pub invariant-loop-place : goal.invariant-loop-place
invariant-loop-place l = (name : List ℕ) → value_of l.columns name ≡ find (λ id. bytes_eq name (column_name l.schema id)) (take l.place l.ids)
