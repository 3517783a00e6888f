use Rattle.std.proofs.Common.{◌<◌, All}
use Rattle.bench_columns.proofs.reading.places_of.Given as goal

-- the places so far are below the count
abbrev pub invariant-loop-step : goal.invariant-loop-step
invariant-loop-step l = All (λ place. place < l.fn.count) l.places.items
