-- The definitions at worked values.
use Rattle.std.proofs.Common.{◌≡◌, Bool, true, false, [], ◌∷◌, Some, None, Ok, Err, refl}
use Rattle.std.specs.Prelude.{codes}
use Rattle.std.specs.Str.{is_utf8, chars}
use lib.Utf8.{encode}
use Rattle.csv.proofs.OnLiterals.{csv_on_literals}
use Rattle.block_core.specs.declared.formats.Format.TheVariants.{Plain}
use Rattle.block_core.specs.declared.formats.FormatChoice.TheVariants.{Fixed}
use Rattle.catalog_core.specs.Texts.{Text}
use Rattle.catalog_core.specs.declared.schemas.Role.TheVariants.{Fact, Dimension}
use Rattle.catalog_core.specs.declared.schemas.Kind.{Kind}
use Rattle.catalog_core.specs.declared.schemas.Kind.TheVariants as kind
use Rattle.catalog_core.specs.declared.schemas.ColumnDef.{ColumnDef}
use Rattle.catalog_core.specs.declared.schemas.TableDef.{TableDef}
use Rattle.table_import.specs.Imports.{number, text, imported}
use Rattle.table_import.specs.declared.errors.ImportError.TheVariants as refusal

abbrev column : Text → Kind → ColumnDef
column name kind = record { name = name; kind = kind; format = Fixed Plain }

-- a fact table with a trailing separator, and a table with a key and texts
abbrev facts : TableDef
facts = record {
  name = codes "t";
  role = Fact;
  key = None;
  separator = 124;
  header = false;
  trailing = true;
  repeats = false;
  columns = column (codes "a") kind.Number ∷ column (codes "b") kind.Number ∷ [];
}

abbrev shops : Bool → Bool → TableDef
shops header repeats = record {
  name = codes "s";
  role = Dimension;
  key = Some 0;
  separator = 44;
  header = header;
  trailing = false;
  repeats = repeats;
  columns = column (codes "id") kind.Number ∷ column (codes "city") kind.Text ∷ [];
}

two_rows : imported facts 10 [] (codes "1|2|\n3|4") ≡ Ok ((number 1 ∷ number 2 ∷ []) ∷ (number 3 ∷ number 4 ∷ []) ∷ [])
unfolding csv_on_literals
two_rows = refl

-- a trailing field is empty
filled_trailing : imported facts 10 [] (codes "1|2|x") ≡ Err (refusal.FieldCount 1 3)
unfolding csv_on_literals
filled_trailing = refl

signed : imported facts 10 [] (codes "1|-2") ≡ Err (refusal.BadNumber 1 2)
unfolding csv_on_literals
signed = refl

leading_zeros : imported facts 10 [] (codes "007|00000000000000000000000000000000000008") ≡ Ok ((number 7 ∷ number 8 ∷ []) ∷ [])
unfolding csv_on_literals
leading_zeros = refl

greatest : imported facts 10 [] (codes "18446744073709551615|0") ≡ Ok ((number 18446744073709551615 ∷ number 0 ∷ []) ∷ [])
unfolding csv_on_literals
greatest = refl

too_great : imported facts 10 [] (codes "0|18446744073709551616") ≡ Err (refusal.BadNumber 1 2)
unfolding csv_on_literals
too_great = refl

-- the limit counts before the fields do
one_too_many : imported facts 1 [] (codes "1|2\n3|x") ≡ Err refusal.TooManyRows
unfolding csv_on_literals
one_too_many = refl

repeated_key : imported (shops false false) 10 [] (codes "4,a\n5,b\n4,c\n") ≡ Err (refusal.RepeatedKey 3)
unfolding csv_on_literals is_utf8 chars encode
repeated_key = refl

keys_may_repeat : imported (shops false true) 10 [] (codes "4,a\n5,b\n4,c\n")
    ≡ Ok ((number 4 ∷ text (codes "a") ∷ []) ∷ (number 5 ∷ text (codes "b") ∷ []) ∷ (number 4 ∷ text (codes "c") ∷ []) ∷ [])
unfolding csv_on_literals is_utf8 chars encode
keys_may_repeat = refl

-- a known key is a repeated one
known_key : imported (shops false false) 10 (5 ∷ []) (codes "4,a\n5,b\n") ≡ Err (refusal.RepeatedKey 2)
unfolding csv_on_literals is_utf8 chars encode
known_key = refl

-- a field in quotes may have separators and line ends
quoted : imported (shops false false) 10 [] (codes "4,\"a,\nb\"\n") ≡ Ok ((number 4 ∷ text (codes "a,\nb") ∷ []) ∷ [])
unfolding csv_on_literals is_utf8 chars encode
quoted = refl

no_utf8 : imported (shops false false) 10 [] (52 ∷ 44 ∷ 255 ∷ []) ≡ Err (refusal.BadText 1 2)
unfolding csv_on_literals is_utf8 chars encode
no_utf8 = refl

-- a header is no row
header_alone : imported (shops true false) 10 [] (codes "id,city\n") ≡ Ok []
unfolding csv_on_literals
header_alone = refl

header_and_row : imported (shops true false) 1 [] (codes "id,city\n4,a\n") ≡ Ok ((number 4 ∷ text (codes "a") ∷ []) ∷ [])
unfolding csv_on_literals is_utf8 chars encode
header_and_row = refl

nothing : imported (shops true false) 10 [] [] ≡ Ok []
unfolding csv_on_literals
nothing = refl
