use Rattle.std.proofs.Common.{rules, arith, ◌≡◌, ◌+◌, ℕ, List, [], ◌∷◌, ◌++◌, length, map, drop, refl, sym, ap, ◌∙◌}
use Rattle.std.proofs.lemmas.List.{append_assoc, append-nil, drop_all, length-append, map-append, nil_from_length}
use Rattle.table_core.specs.Tables.{Stored}
use Rattle.table_core.specs.Views.{stored_of}
use Rattle.table_commands.specs.Importing.{data_of}
use Rattle.table_commands.specs.Saving.{AreStoredAs}
use Rattle.table_commands.proofs.ImportLemmas.{stored_more, within_rest}
use Rattle.table_commands.proofs.encoding.stored_columns.Goals as goal

pub loop-column-init : goal.loop-column-init
loop-column-init c =
    let items : c.into_iter-column-iterator.result.rest.items ≡ c.args.columns = c.into_iter-column-iterator.ensures.into_iter_gives.0 ∙ c.into_vec-column-items.ensures in
    record {
      split = items;
      place = refl;
      few = rw items c.requires.few;
      stored = λ more are. rw c.in_ok-all.ensures.items (rw items at are);
    }

pub offset_bounds-definitions-place : goal.offset_bounds-definitions-place
offset_bounds-definitions-place c =
    let step : c.loop-column.column-iterator.rest.items ≡ c.in-Some.column ∷ c.next.new.self.rest.items = c.in-Some.ensures.steps.0 in
    let split = rw step at c.loop-column.invariant.split in
    let less =
    within_rest c.args.definitions.now c.args.columns c.loop-column.place c.loop-column.yielded c.in-Some.column c.next.new.self.rest.items c.requires.same c.loop-column.invariant.place split in
    search rules

pub bounds-definitions-place : goal.bounds-definitions-place
bounds-definitions-place c =
    let step : c.loop-column.column-iterator.rest.items ≡ c.in-Some.column ∷ c.next.new.self.rest.items = c.in-Some.ensures.steps.0 in
    let split = rw step at c.loop-column.invariant.split in
    within_rest c.args.definitions.now c.args.columns c.loop-column.place c.loop-column.yielded c.in-Some.column c.next.new.self.rest.items c.requires.same c.loop-column.invariant.place split

pub stored-requires : goal.stored-requires
stored-requires c =
    let step : c.loop-column.column-iterator.rest.items ≡ c.in-Some.column ∷ c.next.new.self.rest.items = c.in-Some.ensures.steps.0 in
    let few = rw step at c.loop-column.invariant.few in few.0

pub overflow_add-place : goal.overflow_add-place
overflow_add-place c =
    let step : c.loop-column.column-iterator.rest.items ≡ c.in-Some.column ∷ c.next.new.self.rest.items = c.in-Some.ensures.steps.0 in
    let split = rw step at c.loop-column.invariant.split in
    let less =
    within_rest c.args.definitions.now c.args.columns c.loop-column.place c.loop-column.yielded c.in-Some.column c.next.new.self.rest.items c.requires.same c.loop-column.invariant.place split in
    search rules

pub loop-column-preserved : goal.loop-column-preserved
loop-column-preserved c =
    let step : c.loop-column.column-iterator.rest.items ≡ c.in-Some.column ∷ c.next.new.self.rest.items = c.in-Some.ensures.steps.0 in
    let split = rw step at c.loop-column.invariant.split in
    let few = rw step at c.loop-column.invariant.few in
    let definitions = c.args.definitions.now in
    let within = within_rest definitions c.args.columns c.loop-column.place c.loop-column.yielded c.in-Some.column c.next.new.self.rest.items c.requires.same c.loop-column.invariant.place split in
    let before = rw step at c.loop-column.invariant.stored in
    let pushed : map stored_of c.push.new.self.items ≡ map stored_of c.loop-column.all.items ++ stored_of c.in_ok-stored.field-0 ∷ [] =
    ap (map stored_of) c.in_ok-push.ensures.items ∙ map-append stored_of c.loop-column.all.items (c.in_ok-stored.field-0 ∷ []) in
    record {
      split = append_assoc c.loop-column.yielded (c.in-Some.column ∷ []) c.next.new.self.rest.items ∙ split;
      place = ap (λ (n : ℕ). n + 1) c.loop-column.invariant.place ∙ sym (length-append c.loop-column.yielded (c.in-Some.column ∷ []));
      few = few.1;
      stored = rw pushed
          (stored_more (λ (all : List Stored). AreStoredAs definitions (map data_of c.args.columns) all) definitions c.loop-column.place c.index-definitions-place.result c.in-Some.column
          c.next.new.self.rest.items (map stored_of c.loop-column.all.items) (stored_of c.in_ok-stored.field-0) within c.index-definitions-place.is c.in_ok-stored.ensures before);
    }

pub returns : goal.returns
returns c =
    let rest = c.loop-column.column-iterator.rest in
    let none : rest.items ≡ [] = nil_from_length rest.items (omega (arith, rest.ok, c.in-None.ensures.steps.0)) in
    let definitions = c.args.definitions.now in
    let whole : c.loop-column.yielded ≡ c.args.columns = rw (none, append-nil c.loop-column.yielded) at c.loop-column.invariant.split in
    let many : length c.loop-column.yielded ≡ length definitions = ap length whole ∙ c.requires.same in
    let past : drop c.loop-column.place definitions ≡ [] = drop_all c.loop-column.place definitions (omega (arith, many, c.loop-column.invariant.place)) in
    let last = rw (none, past) at c.loop-column.invariant.stored in
    rw (c.from_vec.ensures, ← append-nil (map stored_of c.loop-column.all.items)) (last [] tt)
