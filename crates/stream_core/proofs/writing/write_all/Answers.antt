use Rattle.std.proofs.Common.{◌≡◌, ℕ, ◌+◌, ◌≤◌, List, ◌++◌, length, take, drop, subst, sym, ap, ◌∙◌, arith, length-drop}
use Rattle.std.proofs.lemmas.List.{take-append-drop, drop-take, take-take, take_rest}
use Rattle.std.specs.Io.KnownBytes.{Appends}
use Rattle.stream_core.proofs.Known.{Appends-append}
use Rattle.stream_core.proofs.writing.write_all.Goals as goal

-- a front of the bytes, and a front of the rest
take-add : (bytes : List ℕ) (start count : ℕ) → take (start + count) bytes ≡ take start bytes ++ take count (drop start bytes)
take-add bytes start count =
    sym (take-append-drop start (take (start + count) bytes))
    ∙ ap (λ l. l ++ drop start (take (start + count) bytes)) (take-take start (start + count) bytes (omega arith))
    ∙ ap (λ l. take start bytes ++ l) (drop-take start count bytes)

pub loop-start-preserved : goal.loop-start-preserved
loop-start-preserved g c =
    let bytes = c.args.bytes.now in
    let start = c.loop-start.start in
    let count = c.in_ok-start.field-0 in
    let bound : count ≤ length (drop start bytes) = subst (λ l. count ≤ length l) (take_rest bytes start) c.in_ok-start.ensures.bound in
    let written : Appends (g.O.Sink.taken c.loop-start.out) (g.O.Sink.taken c.write.new.self) (take count (drop start bytes)) =
    subst (λ l. Appends (g.O.Sink.taken c.loop-start.out) (g.O.Sink.taken c.write.new.self) (take count l)) (take_rest bytes start) c.in_ok-start.ensures.bytes in
    record {
      within = omega (arith, length-drop start bytes);
      written = subst (Appends (g.O.Sink.taken c.args.out.now) (g.O.Sink.taken c.write.new.self)) (sym (take-add bytes start count))
          (Appends-append _ _ _ _ _ c.loop-start.invariant.written written);
      told = c.in_ok-start.ensures.told ∙ c.loop-start.invariant.told;
      later = omega (arith, c.loop-start.invariant.later, c.in_ok-start.ensures.later);
      calm = c.in_ok-start.ensures.calm ∙ c.loop-start.invariant.calm;
    }
