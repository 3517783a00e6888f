use Rattle.std.proofs.Common.{rules, ◌/◌, ◌^◌, map, ap, ◌∙◌}
use Rattle.std.proofs.lemmas.Simd.{shifts_fit_splat, zip2_splat}
use Rattle.lane_core.proofs.vectors.Lanes.shift_down.Goals as goal

pub overflow_shr-result : goal.overflow_shr-result
overflow_shr-result g c = shifts_fit_splat 64 _ _ _ (search rules)

pub returns : goal.returns
returns g c =
    rw (← c.self.view_is)
    (zip2_splat (λ a n. a / 2 ^ n) _ _ _ c.self.invariant ∙ ap (λ n. map (λ a. a / 2 ^ n) c.self.inside.lanes) c.from.ensures)
