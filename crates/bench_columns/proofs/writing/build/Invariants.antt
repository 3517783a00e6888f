use Rattle.std.proofs.Common.{◌≡◌, take}
use Rattle.column_core.specs.Columns.{encoding_of, reserve}
use Rattle.bench_columns.proofs.writing.build.Given as goal

-- the values so far were pushed
abbrev pub invariant-loop-value : goal.invariant-loop-value
invariant-loop-value l = l.builder ≡ encoding_of l.fn.format l.static_width (reserve 0 0) (take l.value-index l.values)
