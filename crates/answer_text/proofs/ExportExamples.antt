-- What `export` prints, at worked values.
use Rattle.std.proofs.Common.{◌≡◌, refl, false, true, Bool, List, [], ◌∷◌, ℕ, Some, None, Option}
use Rattle.std.specs.Prelude.{codes}
use Rattle.std.specs.Fmt.{digits}
use Rattle.csv.specs.Writing.{escaped, fields_text, is_blank}
use Rattle.column_core.specs.Columns.{shape}
use Rattle.block_core.specs.declared.formats.Format.TheVariants.{Plain}
use Rattle.block_core.specs.declared.formats.FormatChoice.TheVariants.{Auto}
use Rattle.catalog_core.specs.Texts.{Text}
use Rattle.catalog_core.specs.declared.schemas.Role.TheVariants.{Fact}
use Rattle.catalog_core.specs.declared.schemas.Kind.{Kind}
use Rattle.catalog_core.specs.declared.schemas.Kind.TheVariants as kind
use Rattle.catalog_core.specs.declared.schemas.ColumnDef.{ColumnDef}
use Rattle.catalog_core.specs.declared.schemas.TableDef.{TableDef}
use Rattle.table_core.specs.Tables.{Stored, TableState}
use Rattle.answer_text.specs.Exports.{table_text, export_text}

column : List ℕ → Kind → ColumnDef
column name form = record { name = name; kind = form; format = Auto }

defined : ℕ → Bool → List ColumnDef → TableDef
defined separator header columns =
    record { name = codes "t"; role = Fact; key = None; separator = separator; header = header; trailing = false; repeats = false; columns = columns }

stored : List ℕ → Option (List Text) → Option Stored
stored values texts = Some (record { column = shape Plain values; texts = texts })

held : ℕ → List (Option Stored) → TableState
held rows columns = record { key = None; rows = Some rows; columns = columns }

-- two number columns, with a bar between fields
bars : TableDef
bars = defined 124 false (column (codes "a") kind.Number ∷ column (codes "b") kind.Number ∷ [])

two : TableState
two = held 2 (stored (1 ∷ 3 ∷ []) None ∷ stored (2 ∷ 4 ∷ []) None ∷ [])

numbers : export_text (record { tables = bars ∷ [] }) 0 (two ∷ []) ≡ codes "1|2\n3|4\n"
unfolding column defined stored held bars two digits fields_text is_blank
numbers = refl

-- the same below the names
headed : TableDef
headed = defined 124 true (column (codes "a") kind.Number ∷ column (codes "b") kind.Number ∷ [])

names : table_text headed two ≡ codes "a|b\n1|2\n3|4\n"
unfolding column defined stored held headed two digits fields_text is_blank
names = refl

-- a text with the separator is put in quotes, and a quote in it is doubled
texts : table_text (defined 44 false (column (codes "a") kind.Text ∷ column (codes "b") kind.Number ∷ []))
    (held 3 (stored (1 ∷ 0 ∷ 2 ∷ []) (Some (codes "Bern" ∷ codes "Chur, GR" ∷ codes "\"Ems\"" ∷ [])) ∷ stored (7 ∷ 8 ∷ 9 ∷ []) None ∷ []))
    ≡ codes "\"Chur, GR\",7\nBern,8\n\"\"\"Ems\"\"\",9\n"
unfolding column defined stored held digits escaped fields_text is_blank
texts = refl

-- a comma is no separator here
commas : table_text (defined 59 false (column (codes "a") kind.Text ∷ [])) (held 1 (stored (0 ∷ []) (Some (codes "Chur, GR" ∷ [])) ∷ [])) ≡ codes "Chur, GR\n"
unfolding column defined stored held escaped fields_text is_blank
commas = refl

-- one column with the empty text
empty : table_text (defined 44 false (column (codes "a") kind.Text ∷ [])) (held 1 (stored (0 ∷ []) (Some ([] ∷ [])) ∷ [])) ≡ codes "\"\"\n"
unfolding column defined stored held escaped fields_text is_blank
empty = refl

-- no rows
none : table_text bars (held 0 (stored [] None ∷ stored [] None ∷ [])) ≡ []
unfolding column defined stored held bars
none = refl
