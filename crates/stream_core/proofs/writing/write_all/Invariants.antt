use Rattle.std.proofs.Common.{◌≡◌, ◌-◌, ◌≤◌, length, take}
use Rattle.std.specs.Prelude.{is_some}
use Rattle.std.specs.Io.KnownBytes.{Appends}
use Rattle.stream_core.proofs.writing.write_all.Given as goal

-- the bytes before `start` were written
abbrev pub invariant-loop-start : goal.invariant-loop-start
invariant-loop-start g l = record {
  within : l.start ≤ length l.bytes;
  written : Appends (g.O.Sink.taken l.initial.out) (g.O.Sink.taken l.out) (take l.start l.bytes);
  told : is_some (g.O.Sink.taken l.out) ≡ is_some (g.O.Sink.taken l.initial.out);
  later : g.O.Sink.faults l.initial.out ≤ g.O.Sink.faults l.out;
  calm : g.O.Sink.faults l.out ≡ g.O.Sink.faults l.initial.out;
}

abbrev pub decreases-loop-start : goal.decreases-loop-start
decreases-loop-start g l = length l.bytes - l.start
