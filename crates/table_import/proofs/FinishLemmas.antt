-- Columns with no values, and columns that are finished.
use Rattle.std.proofs.Common.{◌≡◌, ◌∙◌, ℕ, zero, suc, List, [], ◌∷◌, ◌++◌, length, map, Some, None, refl, sym, ap, arith, Vec, Global, inl, inr, ◌⊎◌}
use Rattle.std.specs.Prelude.{slice_get}
use Rattle.std.specs.List.{AllByRecursion}
use Rattle.std.proofs.lemmas.List.{length-map, length-append}
use Rattle.std.proofs.lemmas.Option.{same_Some, slice_get_within}
use Rattle.catalog_core.specs.Texts.{Text, IsText}
use Rattle.catalog_core.specs.declared.schemas.TableDef.{TableDef}
use Rattle.dictionary_encoding.specs.Coding.{AreCoded}
use Rattle.dictionary_encoding.specs.declared.coding.CodedTexts.{CodedTexts}
use Rattle.table_import.specs.Imports.{number, text}
use Rattle.table_import.specs.Growing.{values_of, column_at, IsLawful, HaveRows, AreEmpty, Holds, HoldAll}
use Rattle.table_import.specs.declared.tables.ColumnValues.{ColumnValues}
use Rattle.table_import.specs.declared.columns.GrowingColumn.{GrowingColumn}
use Rattle.table_import.specs.declared.columns.GrowingColumn.TheVariants as column

nothing_at : (columns : List GrowingColumn) (place : ℕ) → AllByRecursion (λ one. values_of one ≡ []) columns → column_at columns place ≡ []
nothing_at [] place none = refl
nothing_at (first ∷ columns) zero none = none.0
nothing_at (first ∷ columns) (suc place) none = nothing_at columns place none.1

-- columns with no values have no rows
pub no_rows : (table : TableDef) (columns : List GrowingColumn) → AreEmpty table.columns columns → HaveRows table [] columns
no_rows table columns empty = record { kinds = empty.kinds; each = λ place within. nothing_at columns place empty.values }

pub texts_lawful : (texts : List Text) → AllByRecursion IsLawful (map (λ one. text one) texts) → AllByRecursion IsText texts
texts_lawful [] all = tt
texts_lawful (one ∷ texts) all = (all.0, texts_lawful texts all.1)

-- a column of numbers, and one of texts, that is finished
pub holds_numbers : (values : Vec ℕ Global) → Holds (column.Numbers values) (record { values = values.items; dictionary = None })
holds_numbers values = record {
  values = (refl, refl);
  fits = record { count = sym (length-map values.items (λ one. number one)); dictionary = refl; codes = tt };
}

pub holds_texts : (texts : List Text) (coded : CodedTexts) → AreCoded texts coded → Holds (column.Texts texts) (record { values = coded.codes; dictionary = Some coded.dictionary })
holds_texts texts coded are = record {
  values = (texts, coded.dictionary, refl, refl, are.distinct, are.codes);
  fits = record { count = are.count ∙ sym (length-map texts (λ one. text one)); dictionary = refl; codes = (are.distinct.lawful, are.within) };
}

-- one more column is finished
last_or_before : {A : Type 0} (items : List A) (item one : A) (place : ℕ) → slice_get (items ++ item ∷ []) place ≡ Some one
    → (slice_get items place ≡ Some one) ⊎ ((place ≡ length items) × (item ≡ one))
last_or_before [] item one zero is = inr (refl, same_Some item one is)
last_or_before [] item one (suc place) is = absurd (cc is)
last_or_before (first ∷ items) item one zero is = inl is
last_or_before (first ∷ items) item one (suc place) is = elim (last_or_before items item one place is) [
  | inl before ↦ inl before
  | inr last ↦ inr (ap suc last.0, last.1)
]

pub holds_more : (columns : List GrowingColumn) (column : GrowingColumn) (finished : List ColumnValues) (one : ColumnValues) → HoldAll columns finished → Holds column one
    → HoldAll (columns ++ column ∷ []) (finished ++ one ∷ [])
holds_more columns column finished one all holds = record {
  count = rw (length-append columns (column ∷ []), length-append finished (one ∷ []), all.count) refl;
  each = λ place other values at there. elim (last_or_before columns column other place at) [
    | inl before ↦ elim (last_or_before finished one values place there) [
      | inl also ↦ all.each place other values before also
      | inr last ↦ absurd (omega (arith, slice_get_within columns place other before, last.0, all.count))
    ]
    | inr end ↦ elim (last_or_before finished one values place there) [
      | inl also ↦ absurd (omega (arith, slice_get_within finished place values also, end.0, all.count))
      | inr last ↦ rw (← end.1, ← last.1) holds
    ]
  ];
}
