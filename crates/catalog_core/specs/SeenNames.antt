-- A set of names.
use Rattle.std.specs.Prelude.{ℕ, Bool, List}
use Rattle.std.specs.Borrow.{Bor}
use Rattle.std.specs.BTreeSet.{BTreeSet, contains_by}
use Rattle.std.specs.Cmp.Lexicographic.{slice_cmp}
use Rattle.std.specs.Ordering.{nat_cmp}

-- whether the text is one of them
abbrev pub is_seen : BTreeSet (Bor (List ℕ)) → List ℕ → Bool
is_seen seen text = contains_by (λ name. slice_cmp nat_cmp text name.now) seen
