use Rattle.std.proofs.Common.{◌≡◌, ◌++◌, ◌∷◌, [], true}
use Rattle.std.proofs.lemmas.Bool.{false≢true}
use Rattle.definitions_columns.specs.Sizes.{is_within_room}
use Rattle.definitions_columns.proofs.SizeLaws.{IsInRoom, in_room, is_within_room-front}
use Rattle.block_core.specs.Formats.{format_of}
use Rattle.column_core.proofs.builders.BuilderEmit.push.Goals as goal

pub returns-in_err-flush-clause-sure : goal.returns-in_err-flush-clause-sure
returns-in_err-flush-clause-sure c =
    let e = c.self.inside.encoded in
    let all = e.values ++ c.self.inside.block in
    rw (← c.self.view_is) (λ (holds : is_within_room (format_of e.format) e.width e.reserve.bytes e.reserve.count (all ++ c.args.value ∷ []) ≡ true).
    let room : IsInRoom (format_of e.format) e.width e.reserve.bytes e.reserve.count all =
    in_room (format_of e.format) e.width e.reserve.bytes e.reserve.count all (is_within_room-front (format_of e.format) e.width e.reserve.bytes e.reserve.count all (c.args.value ∷ []) holds) in
    absurd (false≢true (c.in_err-flush.ensures.sure room.fits room.few)))
