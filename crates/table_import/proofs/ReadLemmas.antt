-- The rows that are read so far, and those that are left.
use Rattle.std.proofs.Common.{◌≡◌, ◌≤◌, ◌+◌, ℕ, List, [], ◌∷◌, ◌++◌, length, Option, Some, None, Result, Err, refl, arith}
use Rattle.std.proofs.lemmas.List.{length-append}
use Rattle.catalog_core.specs.declared.schemas.TableDef.{TableDef}
use Rattle.table_import.specs.Steps.{walk_after}
use Rattle.table_import.specs.Records.{Record}
use Rattle.table_import.specs.Reads.{TextReader, Gives}
use Rattle.table_import.specs.Imports.{Row, key_place, row_after}
use Rattle.table_import.specs.Growing.{HaveRows, AreKeysOf, AddsRow, HaveAllRows}
use Rattle.table_import.specs.declared.errors.ImportError.{ImportError}
use Rattle.table_import.specs.declared.errors.ImportError.TheVariants as refusal
use Rattle.table_import.specs.declared.columns.GrowingColumn.{GrowingColumn}
use Rattle.table_import.proofs.RowLemmas.{after_limit}

abbrev pub rows_of : TableDef → ℕ → List Record → Result (List Row) ImportError
rows_of table limit records = walk_after (row_after table limit []) 1 [] records

-- the rows that are done are in the columns, and with what the reader still gives they make up the whole
pub record Standing (table : TableDef) (limit : ℕ) (whole : Result (List Row) ImportError) (columns : List GrowingColumn) (keys : List ℕ) (reader : TextReader) (done : ℕ) : Type 0 where
  pub rows : List Row
  pub rest : List Record
  pub count : length rows ≡ done
  pub gives : Gives table.separator reader rest
  pub have : HaveRows table rows columns
  pub known : AreKeysOf (key_place table) rows keys
  pub so_far : whole ≡ walk_after (row_after table limit []) (done + 1) rows rest

no_keys : (place : Option ℕ) → AreKeysOf place [] []
no_keys None = tt
no_keys (Some place) = λ key. refl

pub standing_none : (table : TableDef) (limit : ℕ) (columns : List GrowingColumn) (reader : TextReader) (records : List Record) → HaveRows table [] columns → Gives table.separator reader records
    → Standing table limit (rows_of table limit records) columns [] reader 0
standing_none table limit columns reader records have gives = record {
  rows = [];
  rest = records;
  count = refl;
  gives = gives;
  have = have;
  known = no_keys (key_place table);
  so_far = refl;
}

module _ (table : TableDef) (limit : ℕ) (whole : Result (List Row) ImportError) (columns : List GrowingColumn) (keys : List ℕ) (reader : TextReader) (done : ℕ)
    (standing : Standing table limit whole columns keys reader done) where
  -- no record is left
  pub standing_all : done ≤ limit → standing.rest ≡ [] → HaveAllRows whole limit table columns
  standing_all few gone = record {
    all = standing.rows;
    gives = rw gone at standing.so_far;
    few = omega (arith, standing.count, few);
    rows = standing.have;
  }

  module _ (fields : Record) (rest : List Record) (is : standing.rest ≡ fields ∷ rest) where
    -- the next row is refused
    pub standing_refused : (error : ImportError) → row_after table limit [] (done + 1) standing.rows fields ≡ Err error → whole ≡ Err error
    standing_refused error refuses = rw refuses at (rw is at standing.so_far)

    -- there is no room for it
    pub standing_full : done ≡ limit → whole ≡ Err refusal.TooManyRows
    standing_full full = standing_refused refusal.TooManyRows (rw full (after_limit table limit standing.rows fields))

    -- it is added
    pub standing_more : (after : List GrowingColumn) (new : List ℕ) (left : TextReader) → Gives table.separator left rest
        → AddsRow (row_after table limit [] (done + 1) standing.rows fields) table standing.rows after new → Standing table limit whole after new left (done + 1)
    standing_more after new left gives adds = record {
      rows = standing.rows ++ adds.values ∷ [];
      rest = rest;
      count = rw (length-append standing.rows (adds.values ∷ []), standing.count) refl;
      gives = gives;
      have = adds.rows;
      known = adds.known;
      so_far = rw adds.gives at (rw is at standing.so_far);
    }
