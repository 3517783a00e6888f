use Rattle.std.proofs.Common.{◌≡◌, ◌∙◌, sym, true, false, length}
use Rattle.csv.specs.Records.{fields_of}
use Rattle.table_import.specs.Imports.{key_place, row_of}
use Rattle.table_import.specs.Growing.{is_key_among, AddsKey}
use Rattle.table_import.proofs.RowLemmas.{count_of_kinds, key_within, among, rows_more, known_more, after_new, after_repeated}
use Rattle.table_import.proofs.rows.add_row.Goals as goal

pub is_repeated-requires : goal.is_repeated-requires
is_repeated-requires c =
    let table = c.args.table.now in
    let after = c.push_row.new.columns in
    rw c.key_place.ensures (key_within table (length after) c.requires.lawful (count_of_kinds table after (c.in_ok-push_row.ensures.taken.kinds ∙ c.requires.kinds)))

pub returns-then-branch-clause-refused : goal.returns-then-branch-clause-refused
returns-then-branch-clause-refused c = λ limit done few have known other.
    let table = c.args.table.now in
    let before = c.args.columns.now in
    let after = c.push_row.new.columns in
    let fields = fields_of c.args.record.now in
    let takes = c.in_ok-push_row.ensures.taken in
    let within = key_within table (length before) c.requires.lawful (count_of_kinds table before c.requires.kinds) in
    let told = among table done before after (row_of table c.args.row fields) have takes (key_place table) c.args.keys.now.keys within known in
    let there : is_key_among (key_place table) after c.args.keys.now.keys ≡ true = (rw c.key_place.ensures at (sym c.in_ok-is_repeated.ensures.there)) ∙ c.if-branch.true in
    after_repeated table limit c.args.row done fields few takes.values takes.gives (sym told ∙ there)

pub returns-clause-taken : goal.returns-clause-taken
returns-clause-taken c = λ limit done few have known.
    let table = c.args.table.now in
    let before = c.args.columns.now in
    let after = c.push_row.new.columns in
    let fields = fields_of c.args.record.now in
    let given = row_of table c.args.row fields in
    let old = c.args.keys.now.keys in
    let new = c.is_repeated.new.keys.keys in
    let takes = c.in_ok-push_row.ensures.taken in
    let within = key_within table (length before) c.requires.lawful (count_of_kinds table before c.requires.kinds) in
    let told = among table done before after given have takes (key_place table) old within known in
    let there : is_key_among (key_place table) after old ≡ false = (rw c.key_place.ensures at (sym c.in_ok-is_repeated.ensures.there)) ∙ c.if-branch.false in
    let added : AddsKey (key_place table) after old new = rw c.key_place.ensures at c.in_ok-is_repeated.ensures.added in
    record {
      values = takes.values;
      gives = after_new table limit c.args.row done fields few takes.values takes.gives (sym told ∙ there);
      rows = rows_more table done before after given have takes;
      known = known_more table done before after given have takes (key_place table) old new within known added;
    }
