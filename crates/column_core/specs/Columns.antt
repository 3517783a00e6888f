-- What contracts see of a column and of a column under way, and that bytes hold one list at most.
use Rattle.std.proofs.Common.{◌≡◌, ℕ, List}
use Rattle.std.proofs.Math.Logic.{∥∥₁_elim, ∥∥₁_prop}
use Rattle.std.specs.Coded.{Coded-set, coded_list, coded_ℕ}
use mathlib.Core.HLevel.{Σ_prop_path}
use Rattle.block_core.specs.declared.formats.Format.{Format}
use Rattle.block_core.specs.Formats.{format_of}
use Rattle.definitions_columns.specs.ColumnFiles.{second, static_width_of, IsColumnFile}
use Rattle.definitions_columns.specs.UnderWay.{AreBlocks}
use Rattle.definitions_columns.proofs.FileLaws.{one_column}
use Rattle.definitions_columns.proofs.UnderWayLaws.{AreBlocks-one}

-- a column: its format and its list
pub record Shape : Type 0 where
  pub format : Format
  pub values : List ℕ

abbrev pub shape : Format → List ℕ → Shape
shape format values = record { format = format; values = values }

-- so many bytes and values are reserved
pub record Reserve : Type 0 where
  pub bytes : ℕ
  pub count : ℕ

abbrev pub reserve : ℕ → ℕ → Reserve
reserve bytes count = record { bytes = bytes; count = count }

-- a list that is encoded in a format at a width, and what is reserved for it
pub record Encoding : Type 0 where
  pub format : Format
  pub width : ℕ
  pub reserve : Reserve
  pub values : List ℕ

abbrev pub encoding_of : Format → ℕ → Reserve → List ℕ → Encoding
encoding_of format width reserve values = record { format = format; width = width; reserve = reserve; values = values }

-- the list of which the bytes are the file
abbrev pub Stored : Format → List ℕ → Type 0
Stored format bytes = (values : List ℕ) × ∥ IsColumnFile (format_of format) values bytes ∥₁

-- there is one at most
pub Stored-prop : (format : Format) (bytes : List ℕ) (s t : Stored format bytes) → s ≡ t
Stored-prop format bytes s t =
    let same : s.0 ≡ t.0 =
    ∥∥₁_elim s.1 (Coded-set (coded_list coded_ℕ) s.0 t.0) (λ (p : IsColumnFile (format_of format) s.0 bytes).
    ∥∥₁_elim t.1 (Coded-set (coded_list coded_ℕ) s.0 t.0) (λ (q : IsColumnFile (format_of format) t.0 bytes).
    (one_column second second (format_of format) (format_of format) s.0 t.0 bytes p q).2)) in
    Σ_prop_path (λ (values : List ℕ). ∥∥₁_prop) same

-- the list of whole blocks that the bytes hold so far
abbrev pub UnderWay : Format → ℕ → List ℕ → List ℕ → Type 0
UnderWay format width bytes starts = (values : List ℕ) × ∥ AreBlocks (format_of format) width values bytes starts ∥₁

-- there is one at most
pub UnderWay-prop : (format : Format) (width : ℕ) (bytes starts : List ℕ) (s t : UnderWay format width bytes starts) → s ≡ t
UnderWay-prop format width bytes starts s t =
    let same : s.0 ≡ t.0 =
    ∥∥₁_elim s.1 (Coded-set (coded_list coded_ℕ) s.0 t.0) (λ (p : AreBlocks (format_of format) width s.0 bytes starts).
    ∥∥₁_elim t.1 (Coded-set (coded_list coded_ℕ) s.0 t.0) (λ (q : AreBlocks (format_of format) width t.0 bytes starts).
    AreBlocks-one (format_of format) width s.0 t.0 bytes starts p q)) in
    Σ_prop_path (λ (values : List ℕ). ∥∥₁_prop) same
