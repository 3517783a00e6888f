-- A tree of names that finds what a list has.
use Rattle.std.specs.Prelude.{◌≡◌, ℕ, List}
use Rattle.std.specs.Borrow.{Bor}
use Rattle.std.specs.BTreeMap.{BTreeMap, get_by}
use Rattle.std.specs.Ordering.{nat_cmp}
use Rattle.std.specs.Cmp.Lexicographic.{slice_cmp}
use Rattle.query_bind.specs.NameMaps.{value_of}

abbrev pub HasNumbers : BTreeMap (Bor (List ℕ)) ℕ → List (List ℕ × ℕ) → Type 0
HasNumbers tree names = (name : List ℕ) → get_by (λ key. slice_cmp nat_cmp name key.now) tree ≡ value_of names name
