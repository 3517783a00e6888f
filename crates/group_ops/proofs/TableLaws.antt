-- No pair is in a table twice.
use Rattle.std.proofs.Common.{◌≡◌, ℕ, Bool, true, false, cond, List, [], ◌∷◌, ◌++◌, ap, refl, ◌∙◌}
use Rattle.std.specs.List.{list_any}
use Rattle.definitions_operators.specs.Groups.{with_item, distinct}
use Rattle.definitions_operators.proofs.GroupLaws.{distinct_more}
use Rattle.group_ops.specs.Pairs.{same_pair, HasEachOnce}

pub once_none : HasEachOnce []
unfolding distinct
once_none = refl

once_more_by : (b : Bool) (pairs : List (ℕ × ℕ)) (pair : ℕ × ℕ) → list_any (same_pair pair) pairs ≡ b → HasEachOnce pairs → HasEachOnce (cond b pairs (pairs ++ pair ∷ []))
once_more_by true pairs pair is once = once
once_more_by false pairs pair is once =
    distinct_more same_pair pairs pair ∙ ap (λ (seen : List (ℕ × ℕ)). with_item same_pair seen pair) once ∙ ap (λ (b : Bool). cond b pairs (pairs ++ pair ∷ [])) is

pub once_more : (pairs : List (ℕ × ℕ)) (pair : ℕ × ℕ) → HasEachOnce pairs → HasEachOnce (with_item same_pair pairs pair)
once_more pairs pair once = once_more_by (list_any (same_pair pair) pairs) pairs pair refl once
