use Rattle.std.proofs.Common.{◌≡◌, ◌+◌, ◌-◌, length, take, drop, get_or, sym, ap, ap₂, ◌∙◌, arith, length-append}
use Rattle.std.proofs.lemmas.List.{get_or_append_left}
use Rattle.std.proofs.lemmas.Simd.{get_or-zip2, length-zip2}
use Rattle.definitions_blocks.specs.Differences.{wrapped_sum}
use Rattle.cascade_formats.proofs.Sums.{part_at, loaded_at, lanes_of}
use Rattle.cascade_formats.proofs.differences.add_earlier.Goals as goal

pub returns-clause-added : goal.returns-clause-added
returns-clause-added g c = λ lane within.
    let block = c.args.block.now in
    let first = c.args.first in
    let n = first + 16 + g.row.L - (first + 16) in
    let m = first + g.row.L - first in
    let here = c.load-here.result in
    let earlier = c.load-earlier.result in
    let heres : length here ≡ g.row.L = lanes_of here block g.row.L n (first + 16) c.load-here.ensures (omega arith) (omega arith) in
    let earliers : length earlier ≡ g.row.L = lanes_of earlier block g.row.L m first c.load-earlier.ensures (omega arith) (omega arith) in
    let sums : length c.add.result ≡ g.row.L = ap length c.add.ensures ∙ length-zip2 wrapped_sum here earlier (heres ∙ sym earliers) ∙ heres in
    let stored = c.store.ensures.stored in
    part_at block c.store.new.into (first + 16) n lane (omega arith) (omega (arith, ap length stored, length-append c.add.result (drop g.row.L (take n (drop (first + 16) block)))))
    ∙ ap (λ l. get_or l lane 0) stored ∙ get_or_append_left c.add.result (drop g.row.L (take n (drop (first + 16) block))) 0 lane (omega arith)
    ∙ ap (λ l. get_or l lane 0) c.add.ensures ∙ get_or-zip2 wrapped_sum here earlier lane 0 0 0 (omega arith) (omega arith)
    ∙ ap₂ wrapped_sum (loaded_at here block g.row.L n (first + 16) lane c.load-here.ensures within (omega arith)) (loaded_at earlier block g.row.L m first lane c.load-earlier.ensures within (omega arith))
