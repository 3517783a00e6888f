use Rattle.std.proofs.Common.{◌≡◌, ◌∙◌, ◌+◌, ◌==◌, sym, refl, true, false, length}
use Rattle.std.proofs.lemmas.Bool.{eq-eqb, ne_eqb}
use Rattle.csv.specs.Records.{fields_of}
use Rattle.table_import.proofs.RecordLemmas.{field_is_get}
use Rattle.table_import.proofs.rows.has_count.Goals as goal

pub returns-in-Some : goal.returns-in-Some
returns-in-Some c =
    let fields = fields_of c.args.record.now in
    let other : (length fields == c.args.columns) ≡ false = ne_eqb (length fields) c.args.columns (λ e. c.if-len-columns.false (c.len.ensures ∙ e)) in
    let more : (length fields == c.args.columns + 1) ≡ true = eq-eqb (length fields) (c.args.columns + 1) (sym c.len-else-not-trailing.ensures ∙ c.if-len-columns-2.false) in
    rw (other, c.if-not-trailing.false, more, ← field_is_get fields c.args.columns, ← c.in-Some.ensures.value) c.is_empty.ensures

pub returns-in-None : goal.returns-in-None
returns-in-None c =
    let fields = fields_of c.args.record.now in
    let other : (length fields == c.args.columns) ≡ false = ne_eqb (length fields) c.args.columns (λ e. c.if-len-columns.false (c.len.ensures ∙ e)) in
    let more : (length fields == c.args.columns + 1) ≡ true = eq-eqb (length fields) (c.args.columns + 1) (sym c.len-else-not-trailing.ensures ∙ c.if-len-columns-2.false) in
    rw (other, c.if-not-trailing.false, more, ← field_is_get fields c.args.columns, ← c.in-None.ensures.value) refl
