use Rattle.std.proofs.Common.{◌<◌, All, length, subst, sym, ◌∙◌, List, ℕ}
use Rattle.std.specs.Prelude.{slice_index}
use Rattle.definitions_operators.specs.Operators.{is_within}
use Rattle.definitions_operators.specs.Positions.{IsPositionList}
use Rattle.definitions_operators.proofs.PositionLaws.{positions_in-below, IsPositionList-positions_in}
use Rattle.scan_ops.proofs.selection.select.Goals as goal

pub returns-clause-list : goal.returns-clause-list
returns-clause-list g c =
    subst (IsPositionList (λ place. is_within c.args.low c.args.high (slice_index c.args.values.now place)) (length c.args.values.now))
    (sym (c.from_vec.ensures ∙ c.in_ok-positions.ensures)) (IsPositionList-positions_in c.args.low c.args.high c.args.values.now)

pub returns-clause-within : goal.returns-clause-within
returns-clause-within g c =
    subst (λ (rows : List ℕ). All (λ row. row < length c.args.values.now) rows) (sym (c.from_vec.ensures ∙ c.in_ok-positions.ensures))
    (positions_in-below c.args.low c.args.high c.args.values.now)
