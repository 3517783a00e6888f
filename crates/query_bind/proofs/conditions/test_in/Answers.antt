use Rattle.std.proofs.Common.{refl}
use Rattle.query_bind.proofs.conditions.test_in.Goals as goal

-- a literal of the other kind
pub returns-in-Some : goal.returns-in-Some
returns-in-Some c = λ other. rw (← c.column_of-column.ensures, ← c.kind_of.ensures, ← c.misfit.ensures, c.in-Some.is, c.place_at.ensures) refl

pub returns-in_ok-copied-in-None : goal.returns-in_ok-copied-in-None
returns-in_ok-copied-in-None c =
    rw (← c.column_of-column.ensures, ← c.kind_of.ensures, ← c.misfit.ensures, c.in-None.is, c.in_ok-copied-in-None.ensures) refl
