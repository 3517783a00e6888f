use Rattle.std.proofs.Common.{◌≡◌, ◌∙◌, arith, sym, ap, get_or, Some}
use Rattle.std.specs.Prelude.{slice_get}
use Rattle.csv.specs.Records.{fields_of}
use Rattle.csv.proofs.RecordFacts.{field-there}
use Rattle.definitions_outcomes.proofs.ComputedLaws.{handed_on}
use Rattle.table_import.proofs.RecordLemmas.{field_is_get}
use Rattle.table_import.proofs.PushLemmas.{pushed_none, push_stops, push_more, pushed_all}
use Rattle.table_import.proofs.rows.push_fields.Goals as goal

pub loop-place-init : goal.loop-place-init
loop-place-init c = pushed_none c.args.row (fields_of c.args.record.now) c.args.columns.now

pub unreachable-requires : goal.unreachable-requires
unreachable-requires c =
    field-there (fields_of c.args.record.now) c.loop-place.place (omega (arith, c.requires.enough)) (sym (rw c.in_default.is at c.get.ensures.value))

pub loop-place-preserved : goal.loop-place-preserved
loop-place-preserved c =
    let place = c.loop-place.place in
    let fields = fields_of c.args.record.now in
    let there : slice_get fields place ≡ Some c.in-Some.field.now = sym (field_is_get fields place) ∙ sym c.in-Some.ensures.value in
    push_more c.args.row fields c.args.columns.now c.loop-place.columns place c.loop-place.invariant (omega arith) (get_or c.loop-place.columns place c.index-columns-place.result)
    (ap (get_or c.loop-place.columns place) c.index-columns-place.is)
    c.in-Some.field.now there c.push.new.self c.in_ok-push.ensures.taken

pub returns-in_err-push-clause-refused : goal.returns-in_err-push-clause-refused
returns-in_err-push-clause-refused c =
    let place = c.loop-place.place in
    let fields = fields_of c.args.record.now in
    let there : slice_get fields place ≡ Some c.in-Some.field.now = sym (field_is_get fields place) ∙ sym c.in-Some.ensures.value in
    let error = c.in_err-push.field-0.0 in
    handed_on c.from_residual.result error _ c.from_residual.ensures.1 (λ other.
    push_stops c.args.row fields c.args.columns.now c.loop-place.columns place c.loop-place.invariant (omega arith) (get_or c.loop-place.columns place c.index-columns-place.result)
    (ap (get_or c.loop-place.columns place) c.index-columns-place.is)
    c.in-Some.field.now there error (c.in_err-push.ensures.refused other))

pub returns-clause-taken : goal.returns-clause-taken
returns-clause-taken c =
    pushed_all c.args.row (fields_of c.args.record.now) c.args.columns.now c.loop-place.columns c.loop-place.place c.loop-place.invariant (omega arith) (omega arith) c.requires.enough
