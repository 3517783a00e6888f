use Rattle.std.proofs.Common.{arith, ◌≡◌, ◌∙◌, ◌∷◌, []}
use Rattle.std.proofs.lemmas.List.{append_assoc, append-nil, nil_from_length}
use Rattle.table_import.proofs.AllLemmas.{all_middle}
use Rattle.table_import.proofs.FinishLemmas.{holds_more}
use Rattle.table_import.proofs.tables.finished.Goals as goal

pub finish-requires : goal.finish-requires
finish-requires c =
    let step : c.loop-column.column-iterator.rest.items ≡ c.in-Some.column ∷ c.next.new.self.rest.items = c.in-Some.ensures.steps.0 in
    let split = rw step at c.loop-column.invariant.split in
    let few = rw (← split) at c.requires.few in
    let lawful = rw (← split) at c.requires.lawful in
    record {
      few = all_middle _ c.loop-column.yielded c.in-Some.column c.next.new.self.rest.items few;
      lawful = all_middle _ c.loop-column.yielded c.in-Some.column c.next.new.self.rest.items lawful;
    }

pub loop-column-preserved : goal.loop-column-preserved
loop-column-preserved c =
    let step : c.loop-column.column-iterator.rest.items ≡ c.in-Some.column ∷ c.next.new.self.rest.items = c.in-Some.ensures.steps.0 in
    let split = rw step at c.loop-column.invariant.split in
    record {
      split = append_assoc c.loop-column.yielded (c.in-Some.column ∷ []) c.next.new.self.rest.items ∙ split;
      holds = rw c.in_ok-push.ensures.items (holds_more c.loop-column.yielded c.in-Some.column c.loop-column.done.items c.in_ok-finish.field-0 c.loop-column.invariant.holds c.in_ok-finish.ensures);
    }

pub returns : goal.returns
returns c =
    let rest = c.loop-column.column-iterator.rest in
    let none : rest.items ≡ [] = nil_from_length rest.items (omega (arith, rest.ok, c.in-None.ensures.steps.0)) in
    let whole = rw (none, append-nil c.loop-column.yielded) at c.loop-column.invariant.split in
    rw (← whole) c.loop-column.invariant.holds
