-- What `check` prints, at worked values.
use Rattle.std.proofs.Common.{◌≡◌, refl, false, List, [], ◌∷◌, ℕ, Some, None, Option}
use Rattle.std.specs.Prelude.{codes}
use Rattle.std.specs.Fmt.{digits}
use Rattle.column_core.specs.Columns.{shape}
use Rattle.block_core.specs.declared.formats.Format.TheVariants.{Plain}
use Rattle.block_core.specs.declared.formats.FormatChoice.TheVariants.{Auto}
use Rattle.catalog_core.specs.declared.schemas.Role.TheVariants.{Fact, Dimension}
use Rattle.catalog_core.specs.declared.schemas.Kind.TheVariants.{Number}
use Rattle.catalog_core.specs.declared.schemas.ColumnDef.{ColumnDef}
use Rattle.catalog_core.specs.declared.schemas.Schema.{Schema}
use Rattle.table_core.specs.Tables.{Stored, TableState}
use Rattle.answer_text.specs.Checks.{check_text}

number : List ℕ → ColumnDef
number name = record { name = name; kind = Number; format = Auto }

star : Schema
star = record {
  tables =
      record { name = codes "orders"; role = Fact; key = None; separator = 44; header = false; trailing = false; repeats = false; columns = number (codes "day") ∷ [] }
      ∷ record { name = codes "date"; role = Dimension; key = Some 0; separator = 44; header = false; trailing = false; repeats = false; columns = number (codes "d_day") ∷ number (codes "d_year") ∷ [] }
      ∷ [];
}

plain : List ℕ → Option Stored
plain values = Some (record { column = shape Plain values; texts = None })

held : List TableState
held =
    record { key = None; rows = Some 4; columns = plain (1 ∷ 1 ∷ 1 ∷ 2 ∷ []) ∷ [] }
    ∷ record { key = Some 0; rows = Some 2; columns = plain (1 ∷ 2 ∷ []) ∷ plain (1993 ∷ 1994 ∷ []) ∷ [] }
    ∷ []

-- the words are as long as the widest value asks, 64 bits in the format `plain`
printed : check_text star held ≡ codes "orders 4\norders.day plain 48\ndate 2\ndate.d_day plain 32\ndate.d_year plain 32\n"
unfolding number star plain held digits
printed = refl
