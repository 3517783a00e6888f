use Rattle.std.proofs.Common.{ℕ, ◌+◌, ◌≤◌, length, subst, arith, length-take}
use Rattle.stream_core.proofs.Known.{ConsumesSome-read, OnErr-always}
use Rattle.stream_core.specs.Calls.{ConsumesSome}
use Rattle.stream_core.proofs.reading.read_all.Goals as goal

pub returns-then-count-left-clause-too_long : goal.returns-then-count-left-clause-too_long
returns-then-count-left-clause-too_long g c = λ _.
    let text = c.loop-text.text in
    let bound = c.in_ok-count.ensures.bound in
    let read : ConsumesSome (g.I.Source.left c.args.input.now) (g.I.Source.left c.read.new.self) (length text.items + c.in_ok-count.count) =
    ConsumesSome-read _ _ _ _ _ _ c.loop-text.invariant.read c.in_ok-count.ensures.bytes.0 bound.0 in
    subst (ConsumesSome (g.I.Source.left c.args.input.now) (g.I.Source.left c.read.new.self)) (omega (arith, text.ok.0, c.loop-text.invariant.length, length-take (c.min.result + 1) c.loop-text.piece)) read

pub returns-then-count-left-clause-stopped : goal.returns-then-count-left-clause-stopped
returns-then-count-left-clause-stopped g c =
    let text = c.loop-text.text in
    let bound = c.in_ok-count.ensures.bound in
    let read : ConsumesSome (g.I.Source.left c.args.input.now) (g.I.Source.left c.read.new.self) (length text.items + c.in_ok-count.count) =
    ConsumesSome-read _ _ _ _ _ _ c.loop-text.invariant.read c.in_ok-count.ensures.bytes.0 bound.0 in
    (length text.items + c.in_ok-count.count, omega (arith, text.ok.0, c.loop-text.invariant.length, length-take (c.min.result + 1) c.loop-text.piece), read)

pub returns-in_err-extend_from_slice-clause-stopped : goal.returns-in_err-extend_from_slice-clause-stopped
returns-in_err-extend_from_slice-clause-stopped g c =
    let text = c.loop-text.text in
    let bound = c.in_ok-count.ensures.bound in
    let read : ConsumesSome (g.I.Source.left c.args.input.now) (g.I.Source.left c.read.new.self) (length text.items + c.in_ok-count.count) =
    ConsumesSome-read _ _ _ _ _ _ c.loop-text.invariant.read c.in_ok-count.ensures.bytes.0 bound.0 in
    let stopped : (count : ℕ) × (count ≤ c.args.limit + 1) × ConsumesSome (g.I.Source.left c.args.input.now) (g.I.Source.left c.read.new.self) count =
    (length text.items + c.in_ok-count.count, omega (arith, text.ok.0), read) in
    OnErr-always _ stopped

pub returns-in_err-extend_from_slice-clause-memory : goal.returns-in_err-extend_from_slice-clause-memory
returns-in_err-extend_from_slice-clause-memory g c = λ _.
    let text = c.loop-text.text in
    let bound = c.in_ok-count.ensures.bound in
    let read : ConsumesSome (g.I.Source.left c.args.input.now) (g.I.Source.left c.read.new.self) (length text.items + c.in_ok-count.count) =
    ConsumesSome-read _ _ _ _ _ _ c.loop-text.invariant.read c.in_ok-count.ensures.bytes.0 bound.0 in
    (length text.items + c.in_ok-count.count, omega (arith, text.ok.0), read)
