use Rattle.std.proofs.Common.{◌≡◌, ◌+◌, ◌-◌, ◌≤◌, length, vec_len}
use Rattle.std.specs.Prelude.{is_some}
use Rattle.std.specs.Io.KnownBytes.{Consumes}
use Rattle.stream_core.proofs.reading.read_all.Given as goal

-- the text so far is what the input gave, within the limit
abbrev pub invariant-loop-text : goal.invariant-loop-text
invariant-loop-text g l = record {
  length : length l.piece ≡ 4096;
  read : Consumes (g.I.Source.left l.initial.input) (g.I.Source.left l.input) l.text.items;
  short : vec_len l.text ≤ l.limit;
  told : is_some (g.I.Source.left l.input) ≡ is_some (g.I.Source.left l.initial.input);
  later : g.I.Source.faults l.initial.input ≤ g.I.Source.faults l.input;
  calm : g.I.Source.faults l.input ≡ g.I.Source.faults l.initial.input;
}

abbrev pub decreases-loop-text : goal.decreases-loop-text
decreases-loop-text g l = l.limit + 1 - vec_len l.text
