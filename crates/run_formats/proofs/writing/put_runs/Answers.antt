use Rattle.std.proofs.Common.{◌≡◌, ◌-◌, flat_map, length, drop, sym, ap, ◌∙◌, arith}
use Rattle.std.proofs.lemmas.List.{length-take, length-drop}
use Rattle.definitions_blocks.specs.Runs.{run_bytes}
use Rattle.definitions_blocks.proofs.RunListLaws.{runs_of, AreRunsOf-is}
use Rattle.run_formats.proofs.Writes.{runs_room, room_for_one, room_for_last, run_ends, run_grows, last_run}
use Rattle.run_formats.proofs.writing.put_runs.Goals as goal
use Rattle.run_formats.proofs.writing.put_runs.Goals.{then-next-value, else-next-value}

pub slice_bounds-put_run-end : goal.slice_bounds-put_run-end
slice_bounds-put_run-end c =
    let all = flat_map run_bytes (runs_of c.args.values.now) in
    let whole : length c.loop-next.into ≡ length all = runs_room c.args.values.now c.loop-next.into (c.loop-next.auto.into ∙ c.requires.size) in
    room_for_one c.loop-next.place c.loop-next.value c.loop-next.length c.loop-next.into all _ c.loop-next.invariant.1 whole c.loop-next.invariant.2

pub loop-next-preserved : goal.loop-next-preserved
loop-next-preserved c =
    let all = flat_map run_bytes (runs_of c.args.values.now) in
    let whole : length c.loop-next.into ≡ length all = runs_room c.args.values.now c.loop-next.into (c.loop-next.auto.into ∙ c.requires.size) in
    elim c.if-next-value.branch [
      | then-next-value w ↦
          run_ends c.args.values.now all c.loop-next.into w.put_run.new.into c.if-next-value.into c.loop-next.next-index c.loop-next.place c.loop-next.value c.loop-next.length
          c.if-next-value.value c.if-next-value.length c.if-next-value.place c.loop-next-test.true c.loop-next.invariant.1 whole c.loop-next.invariant.2
          w.if-next-value.true w.put_run.ensures w.into-is w.value-is w.length-is w.place-is
      | else-next-value w ↦
          run_grows c.args.values.now all c.loop-next.into c.if-next-value.into c.loop-next.next-index c.loop-next.place c.loop-next.value c.loop-next.length
          c.if-next-value.value c.if-next-value.length c.if-next-value.place c.loop-next-test.true c.loop-next.invariant.0 c.loop-next.invariant.1 c.loop-next.invariant.2
          w.if-next-value.false w.into-is w.value-is w.length-is w.place-is
    ]

pub put_run-requires-2 : goal.put_run-requires-2
put_run-requires-2 c =
    let all = flat_map run_bytes (runs_of c.args.values.now) in
    let whole : length c.loop-next.into ≡ length all = runs_room c.args.values.now c.loop-next.into (c.loop-next.auto.into ∙ c.requires.size) in
    omega (
      arith,
      length-take (length c.loop-next.into - c.loop-next.place) (drop c.loop-next.place c.loop-next.into),
      length-drop c.loop-next.place c.loop-next.into,
      room_for_last c.loop-next.next-index c.loop-next.place c.loop-next.value c.loop-next.length c.loop-next.into all c.args.values.now c.loop-next-test.false c.loop-next.invariant.1 whole
          c.loop-next.invariant.2,
    )

pub returns : goal.returns
returns c = λ runs are.
    let values = c.args.values.now in
    let whole : length c.loop-next.into ≡ length (flat_map run_bytes (runs_of values)) = runs_room values c.loop-next.into (c.loop-next.auto.into ∙ c.requires.size) in
    last_run values (flat_map run_bytes (runs_of values)) c.loop-next.into c.put_run-2.new.into c.loop-next.next-index c.loop-next.place c.loop-next.value c.loop-next.length c.loop-next-test.false c.loop-next.invariant.1 whole
    c.loop-next.invariant.2 c.put_run-2.ensures
    ∙ ap (flat_map run_bytes) (sym (AreRunsOf-is runs values are))
