use Rattle.std.proofs.Common.{◌≡◌, ◌-◌, ◌++◌, length, drop, flat_map, sym, ap, ap₂, ◌∙◌, subst, arith, length-append}
use Rattle.std.proofs.lemmas.List.{length-take, length-drop}
use Rattle.definitions_blocks.specs.Runs.{AreRunsOf, two_bytes, run_bytes, run_count, IsRunsBlock}
use Rattle.definitions_blocks.proofs.RunListLaws.{AreRunsOf-count}
use Rattle.definitions_blocks.proofs.RunBlockLaws.{length-two_bytes, IsRunsBlock-length}
use Rattle.run_formats.proofs.Writes.{both_parts}
use Rattle.run_formats.proofs.run_blocks.RunsPacking.encode.Goals as goal

pub slice_bounds-put_count-end : goal.slice_bounds-put_count-end
slice_bounds-put_count-end c = omega (arith, IsRunsBlock-length c.args.full.now c.requires.encoded.0 c.requires.encoded.1, c.requires.encoded.2)

pub slice_bounds-put_count-end-2 : goal.slice_bounds-put_count-end-2
slice_bounds-put_count-end-2 c =
    omega (arith, IsRunsBlock-length c.args.full.now c.requires.encoded.0 c.requires.encoded.1, c.requires.encoded.2, length-take 2 c.args.into.now)

pub put_count-requires : goal.put_count-requires
put_count-requires c =
    omega (arith, IsRunsBlock-length c.args.full.now c.requires.encoded.0 c.requires.encoded.1, c.requires.encoded.2, length-take 2 c.args.into.now)

pub slice_bounds-put_runs-start : goal.slice_bounds-put_runs-start
slice_bounds-put_runs-start c =
    omega (arith, ap length c.put_count.ensures, length-two_bytes c.args.runs, length-append c.put_count.new.into (drop 2 c.args.into.now))

pub slice_bounds-put_runs-count : goal.slice_bounds-put_runs-count
slice_bounds-put_runs-count c =
    omega (arith, ap length c.put_count.ensures, length-two_bytes c.args.runs, length-append c.put_count.new.into (drop 2 c.args.into.now))

pub put_runs-requires-clause-size : goal.put_runs-requires-clause-size
put_runs-requires-clause-size c =
    let all = c.put_count.new.into ++ drop 2 c.args.into.now in
    let runs : run_count c.as_slice.result.now ≡ run_count c.args.full.now = ap run_count c.as_slice.ensures.values in
    omega (
      arith,
      IsRunsBlock-length c.args.full.now c.requires.encoded.0 c.requires.encoded.1,
      c.requires.encoded.2,
      ap length c.put_count.ensures,
      length-two_bytes c.args.runs,
      length-append c.put_count.new.into (drop 2 c.args.into.now),
      length-drop 2 c.args.into.now,
      length-take (length all - 2) (drop 2 all),
      length-drop 2 all,
    )

pub returns : goal.returns
returns c =
    let values = c.args.full.now in
    let is : IsRunsBlock values c.requires.encoded.0 = c.requires.encoded.1 in
    let head : c.put_count.new.into ≡ two_bytes (length is.runs) = c.put_count.ensures ∙ ap two_bytes (c.requires.headed ∙ sym (AreRunsOf-count is.runs values is.are)) in
    let body : c.put_runs.new.into ≡ flat_map run_bytes is.runs = c.put_runs.ensures is.runs (subst (AreRunsOf is.runs) (sym c.as_slice.ensures.values) is.are) in
    let all = both_parts 2 c.args.into.now c.put_count.new.into c.put_runs.new.into (ap length c.put_count.ensures ∙ length-two_bytes c.args.runs) ∙ ap₂ (λ a b. a ++ b) head body in
    subst (IsRunsBlock values) (is.encoded ∙ sym all) is
