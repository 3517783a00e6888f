use Rattle.std.proofs.Common.{◌≡◌, ℕ, ◌+◌, ◌-◌, ◌≤◌, List, ◌++◌, length, take, drop, sym, ap, ◌∙◌, arith, length-append, length-drop, length-take}
use Rattle.std.proofs.lemmas.List.{take-append-drop, length-take-le, drop-drop, take_rest, drop_all}
use Rattle.std.proofs.Math.Seq.{take-append_seam}
use Rattle.stream_core.proofs.memory.MemSourceSource.read.Goals as goal

-- what was copied is the front of what was left
front_and_rest : (bytes copied rest : List ℕ) (start count : ℕ) → copied ≡ take count (drop start bytes) → count ≤ length (drop start bytes)
    → drop start bytes ≡ take count (copied ++ rest) ++ drop (start + count) bytes
front_and_rest bytes copied rest start count is_front enough =
    let size : length copied ≡ count = ap length is_front ∙ length-take-le count (drop start bytes) enough in
    let seam : take count (copied ++ rest) ≡ copied = ap (λ n. take n (copied ++ rest)) (sym size) ∙ take-append_seam copied rest in
    sym (take-append-drop count (drop start bytes)) ∙ ap (λ l. l ++ drop count (drop start bytes)) (sym is_front ∙ sym seam)
    ∙ ap (λ l. take count (copied ++ rest) ++ l) (drop-drop count start bytes)

pub returns-clause-bytes : goal.returns-clause-bytes
returns-clause-bytes c =
    let bytes = c.self.inside.bytes in
    let start = c.self.inside.start in
    let count = c.min-count.result in
    let left : c.args.self.now.left ≡ drop start bytes = sym (ap (λ s. s.left) c.self.view_is) in
    let slice = c.as_slice-2.result.now in
    let rest : take (length slice - start) (drop start slice) ≡ drop start bytes = take_rest slice start ∙ ap (drop start) c.as_slice-2.ensures in
    let enough : count ≤ length (drop start bytes) = omega (arith, ap length rest) in (
      left ∙ front_and_rest bytes _ _ start count (c.copy_from_slice.ensures.after ∙ ap (take count) rest) enough,
      λ none room. drop_all (start + count) bytes (omega (arith, ap length rest, length-drop start bytes, c.self.invariant.1, room, c.copy_from_slice.ensures.len, length-append c.copy_from_slice.new.self (drop count c.args.into.now), length-drop count c.args.into.now, length-take count c.args.into.now)),
    )
