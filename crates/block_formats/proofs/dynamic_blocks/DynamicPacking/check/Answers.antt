use Rattle.std.proofs.Common.{◌≡◌, ◌+◌, ◌-◌, ◌*◌, ◌<◌, length, take, drop, sym, ap, ◌∙◌, subst, arith}
use Rattle.std.proofs.lemmas.List.{length-take, length-drop}
use Rattle.definitions_blocks.specs.Packed.{IsPacked, IsWidth}
use Rattle.definitions_blocks.proofs.WordLaws.{AreOctets-take, AreOctets-drop}
use Rattle.definitions_blocks.proofs.DynamicLaws.{BeginsDynamic, begins_dynamic}
use Rattle.block_formats.proofs.BlockLemmas.{FoundDynamic, dynamic_found}
use Rattle.block_formats.proofs.dynamic_blocks.DynamicPacking.check.Goals as goal

pub returns-then-not-is_least_width : goal.returns-then-not-is_least_width
returns-then-not-is_least_width g c = λ values encoding rest is e.
    let bytes = c.args.bytes.now in
    let width = c.width_in-width.result in
    let begins : BeginsDynamic values bytes = begins_dynamic values encoding rest bytes is e in
    let first = c.width_in-width.ensures ∙ begins.first in
    let count : 1 + c.packed_len-end.result - 1 ≡ 128 * width = omega (arith, c.packed_len-end.ensures) in
    let at : IsPacked width values (take (128 * width) (drop 1 bytes)) = subst (λ w. IsPacked w values (take (128 * w) (drop 1 bytes))) (sym first) begins.packing in
    let packing : IsPacked width values (take (1 + c.packed_len-end.result - 1) (drop 1 bytes)) = subst (λ n. IsPacked width values (take n (drop 1 bytes))) (sym count) at in
    let least = (c.is_least_width.ensures values packing).1 (subst (λ w. IsWidth w values) (sym first) begins.width) in
    absurd (cc (least, c.if-not-is_least_width.true))

pub returns : goal.returns
returns g c =
    let bytes = c.args.bytes.now in
    let width = c.width_in-width.result in
    let length_of = c.packed_len-end.result in
    let some : 0 < length bytes = grind (arith, c.if-is_empty.false, c.if-is_empty.ensures) in
    let count : 1 + length_of - 1 ≡ 128 * width = omega (arith, c.packed_len-end.ensures) in
    let part = take (1 + length_of - 1) (drop 1 bytes) in
    let found : FoundDynamic width (1 + length_of) bytes =
    dynamic_found width (1 + length_of) bytes part some (sym c.width_in-width.ensures) (omega arith) (omega (arith, c.packed_len-end.ensures)) (ap (λ n. take n (drop 1 bytes)) count)
    (omega (arith, length-take (1 + length_of - 1) (drop 1 bytes), length-drop 1 bytes))
    (AreOctets-take (1 + length_of - 1) (drop 1 bytes) (AreOctets-drop 1 bytes (λ k. (c.type_inv.bytes k).fits)))
    (λ values packing. (c.is_least_width.ensures values packing).0 c.if-not-is_least_width.false) in
    record { values = found.values; encoded = found.encoded; headed = found.headed; within = omega (arith, some, c.packed_len.ensures, c.packed_len-end.ensures) }
