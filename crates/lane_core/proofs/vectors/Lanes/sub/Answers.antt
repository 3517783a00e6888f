-- The machine adds `2 ^ 64 - b`, and the clause takes `b` away last; they agree since each `b` fits 64 bits.
use Rattle.std.proofs.Common.{◌≡◌, ℕ, ◌+◌, ◌-◌, ◌%◌, ◌^◌, ◌<◌, List, [], ◌∷◌, suc, get_or, refl, ap, ap₂, arith}
use lib.Lanes.{zip2}
use Rattle.lane_core.proofs.vectors.Lanes.sub.Goals as goal

abbrev wrapped : ℕ → ℕ → ℕ
wrapped a b = (a + (2 ^ 64 - b)) % 2 ^ 64

abbrev taken_last : ℕ → ℕ → ℕ
taken_last a b = (a + 2 ^ 64 - b) % 2 ^ 64

same : (xs ys : List ℕ) → ((k : ℕ) → get_or ys k 0 < 2 ^ 64) → zip2 wrapped xs ys ≡ zip2 taken_last xs ys
same [] ys fit = refl
same (x ∷ xs) [] fit = refl
same (x ∷ xs) (y ∷ ys) fit =
    let here : y < 2 ^ 64 = fit 0 in
    let moved : x + (2 ^ 64 - y) ≡ x + 2 ^ 64 - y = omega arith in
    ap₂ (λ d ds. d ∷ ds) (ap (λ d. d % 2 ^ 64) moved) (same xs ys (λ k. fit (suc k)))

pub returns : goal.returns
returns g c = rw (← c.self.view_is, ← c.other.view_is) (same c.self.inside.lanes c.other.inside.lanes c.words_fit.ensures)
