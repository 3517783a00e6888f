-- Bytes that are no now file.
use Rattle.std.proofs.Common.{◌≡◌, ◌≢◌, ℕ, Bool, true, false, ◌⊎◌, inl, inr, Some, None, List, length, refl, ap, sym, subst, ◌∙◌, arith}
use Rattle.std.proofs.lemmas.Bool.{false_from_ne_true, leb-true, le-leb}
use Rattle.std.proofs.lemmas.Slice.Eq.{bytes_eq-Decides}
use Rattle.std.specs.Prelude.{◌&&◌, ◌≤◌, cond, nat_le, unwrap_or}
use Rattle.std.specs.Str.{bytes_eq}
use Rattle.definitions_blocks.specs.Columns.{max_rows}
use Rattle.definitions_blocks.proofs.WordLaws.{length-word_bytes, from_le_bytes-word_bytes}
use Rattle.database_core.specs.NowFiles.{Now, is_slot, now_at, now_file, now_in, IsNowFile, NowFilesAreRead}

-- what fails one of three tests is none
none_of : (a b c : Bool) (now : Now) → (a ≡ false) ⊎ (b ≡ false) ⊎ (c ≡ false) → None ≡ cond (a && b && c) (Some now) None
none_of false b c now fails = refl
none_of true false c now fails = refl
none_of true true false now fails = refl
none_of true true true now (inl e) = cc
none_of true true true now (inr (inl e)) = cc
none_of true true true now (inr (inr e)) = cc

-- the tests of a now file
pub no_now : (bytes : List ℕ) → (is_slot (now_at bytes).slot ≡ false) ⊎ (nat_le (now_at bytes).rows max_rows ≡ false) ⊎ (bytes_eq bytes (now_file (now_at bytes)) ≡ false) → None ≡ now_in bytes
no_now bytes fails = none_of (is_slot (now_at bytes).slot) (nat_le (now_at bytes).rows max_rows) (bytes_eq bytes (now_file (now_at bytes))) (now_at bytes) fails

-- bytes that differ from the now file of what they say
pub other_bytes : (bytes : List ℕ) → (bytes ≡ now_file (now_at bytes) → ⊥) → None ≡ now_in bytes
other_bytes bytes differ = no_now bytes (inr (inr (false_from_ne_true _ (λ e. differ ((bytes_eq-Decides bytes (now_file (now_at bytes))).0 e)))))

-- a now file has 13 bytes
pub other_length : (bytes : List ℕ) → length bytes ≢ 13 → None ≡ now_in bytes
other_length bytes other = other_bytes bytes (λ e. other (ap length e ∙ (omega (arith, length-word_bytes (now_at bytes).rows))))

-- Bytes that are one.

all_of : (a b c : Bool) (found now : Now) → cond (a && b && c) (Some found) None ≡ Some now → (a ≡ true) × (b ≡ true) × (c ≡ true) × (found ≡ now)
all_of false b c found now is = cc
all_of true false c found now is = cc
all_of true true false found now is = cc
all_of true true true found now is = (refl, refl, refl, ap (λ some. unwrap_or some found) is)

now_said : (now : Now) (bytes : List ℕ) → now_in bytes ≡ Some now → IsNowFile now bytes
now_said now bytes is =
    let found = now_at bytes in
    let (slot, few, same, one) = all_of (is_slot found.slot) (nat_le found.rows max_rows) (bytes_eq bytes (now_file found)) found now is in
    record {
      slot = ap (λ n. is_slot n.slot) (sym one) ∙ slot;
      few = subst (λ n. n.rows ≤ max_rows) one (leb-true found.rows max_rows few);
      bytes_are = (bytes_eq-Decides bytes (now_file found)).0 same ∙ ap now_file one;
    }

made_of : (now : Now) → now.rows ≤ max_rows → now_at (now_file now) ≡ now
made_of now few = ap (λ rows. record { slot = now.slot; rows = rows }) (from_le_bytes-word_bytes now.rows (omega (arith, few)))

file_says : (now : Now) (bytes : List ℕ) → IsNowFile now bytes → now_in bytes ≡ Some now
file_says now bytes is =
    let at : now_at bytes ≡ now = ap now_at is.bytes_are ∙ made_of now is.few in
    let slot : is_slot (now_at bytes).slot ≡ true = ap (λ n. is_slot n.slot) at ∙ is.slot in
    let few : nat_le (now_at bytes).rows max_rows ≡ true = ap (λ n. nat_le n.rows max_rows) at ∙ le-leb now.rows max_rows is.few in
    let same : bytes_eq bytes (now_file (now_at bytes)) ≡ true = (bytes_eq-Decides bytes (now_file (now_at bytes))).1 (is.bytes_are ∙ ap now_file (sym at)) in
    rw (slot, few, same) (ap Some at)

pub now_files_are_read : NowFilesAreRead
now_files_are_read now bytes = (now_said now bytes, file_says now bytes)
