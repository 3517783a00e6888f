use Rattle.std.proofs.Common.{◌≡◌, ◌+◌, ◌++◌, List, ℕ, drop, map, take, append_assoc, arith, ap, sym, ◌∙◌}
use Rattle.definitions_operators.specs.Operators.{is_within, positions_in}
use Rattle.definitions_operators.proofs.PositionLaws.{passing_places-block}
use Rattle.scan_ops.proofs.selection.append_positions.Goals as goal

pub loop-first-preserved : goal.loop-first-preserved
loop-first-preserved c =
    let low = c.args.low in
    let high = c.args.high in
    let values = c.args.values.now in
    let initial = c.args.positions.now.items in
    let before = c.loop-first.positions.items in
    let first = c.loop-first.first in
    let n = c.min.result in
    let block : List ℕ = map (λ place. first + place) (positions_in low high (take n (drop first values))) in
    let marked : take c.mark-kept.result c.mark-kept.new.rows ≡ block =
    c.mark-kept.ensures.rows ∙ ap (λ (k : ℕ). map (λ place. first + place) (positions_in low high (take k (drop first values)))) (omega arith) in
    record {
      within = omega arith;
      positions =
          c.in_ok-extend_from_slice.ensures.items
          ∙ ap (λ (rows : List ℕ). before ++ rows) marked
          ∙ ap (λ (items : List ℕ). items ++ block) c.loop-first.invariant.positions
          ∙ append_assoc initial (positions_in low high (take first values)) block
          ∙ ap (λ (rows : List ℕ). initial ++ rows) (sym (passing_places-block (is_within low high) first n values (omega arith)));
    }
