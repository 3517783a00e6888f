-- Whether bytes are UTF-8, as a reading of them tells.
use Rattle.std.proofs.Common.{◌≡◌, ℕ, List, sym, Result, Ok, Err}
use Rattle.std.specs.Prelude.{MatchResult, IsUtf8}
use Rattle.std.specs.Result.{is_ok}
use Rattle.std.specs.Str.{is_utf8}
use Rattle.std.proofs.lemmas.Bool.{false_from_ne_true}
use Rattle.std.proofs.lemmas.Str.{IsUtf8-from_is_utf8, is_utf8-from_IsUtf8}

pub is_ok_utf8 : {T E : Type 0} (P : T → Type 0) (Q : E → Type 0) (bytes : List ℕ) (read : Result T E)
    → MatchResult read (λ text. P text × IsUtf8 bytes) (λ error. ¬ (IsUtf8 bytes) × Q error) → is_ok read ≡ is_utf8 bytes
is_ok_utf8 P Q bytes (Ok text) told = sym (is_utf8-from_IsUtf8 bytes told.1)
is_ok_utf8 P Q bytes (Err error) told = sym (false_from_ne_true (is_utf8 bytes) (λ e. told.0 (IsUtf8-from_is_utf8 bytes e)))
