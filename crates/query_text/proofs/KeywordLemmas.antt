-- Words that are too long for a keyword.
use Rattle.std.proofs.Common.{◌≡◌, ◌<◌, ◌≤◌, ℕ, Bool, false, ◌||◌, List, length, refl, ap, arith}
use Rattle.std.specs.Prelude.{codes}
use Rattle.std.proofs.lemmas.Bool.{false_from_ne_true}
use Rattle.std.proofs.lemmas.Slice.Eq.{bytes_eq-Decides}
use Rattle.std.specs.Str.{bytes_eq}
use Rattle.stream_core.specs.Names.{is_keyword}

-- a longer text is not the keyword
longer : (keyword text : List ℕ) (rest : Bool) → length keyword < length text → rest ≡ false → (bytes_eq keyword text || rest) ≡ false
longer keyword text rest long none =
    let differs : bytes_eq keyword text ≡ false = false_from_ne_true _ (λ e. let same = (bytes_eq-Decides keyword text).0 e in absurd (omega (arith, ap length same))) in
    rw differs none

-- no keyword has more than seven letters
pub too_long : (w : List ℕ) → 8 ≤ length w → is_keyword w ≡ false
too_long w long =
    longer (codes "select") w _ (omega arith) (longer (codes "from") w _ (omega arith) (longer (codes "where") w _ (omega arith) (longer (codes "and") w _ (omega arith)
    (longer (codes "or") w _ (omega arith) (longer (codes "between") w _ (omega arith) (longer (codes "in") w _ (omega arith) (longer (codes "group") w _ (omega arith)
    (longer (codes "order") w _ (omega arith) (longer (codes "by") w _ (omega arith) (longer (codes "asc") w _ (omega arith) (longer (codes "desc") w _ (omega arith)
    (longer (codes "sum") w _ (omega arith) (longer (codes "as") w _ (omega arith) refl)))))))))))))
