use Rattle.std.proofs.Common.{◌-◌, length, get_or, take, drop, ◌∙◌, ap}
use Rattle.std.proofs.lemmas.List.{get_or-take}
use Rattle.tail_pack.proofs.Windows.{window_bit, byte_from}
use Rattle.tail_pack.proofs.reading.window_at.Goals as goal

pub returns-in-Some : goal.returns-in-Some
returns-in-Some c = λ k within.
    let bytes = c.args.bytes.now in
    let place = c.args.place in
    window_bit bytes c.in-Some.window.now c.from_le_bytes.result place k (λ i. (c.type_inv.bytes i).fits)
    (λ i inside. ap (λ l. get_or l i 0) c.in-Some.ensures.cases.same ∙ get_or-take 16 (take (length bytes - place) (drop place bytes)) i 0 inside ∙ byte_from bytes place i)
    c.from_le_bytes.ensures within

pub returns-in-None : goal.returns-in-None
returns-in-None c = λ k within.
    let bytes = c.args.bytes.now in
    let place = c.args.place in
    window_bit bytes c.padded.result c.from_le_bytes-in-None.result place k (λ i. (c.type_inv.bytes i).fits)
    (λ i inside. c.padded.ensures i ∙ byte_from bytes place i) c.from_le_bytes-in-None.ensures within
