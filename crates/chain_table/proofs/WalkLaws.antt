-- Walks along the entries of a key.
use Rattle.std.proofs.Common.{◌≡◌, ◌≢◌, ◌∙◌, ℕ, zero, suc, ◌<◌, ◌≤◌, true, false, cond, List, [], ◌∷◌, ◌++◌, length, take, refl, sym, ap, subst, arith, inl, inr, add-one}
use Rattle.std.specs.Prelude.{◌==◌, slice_index, reverse, Option, Some, None}
use Rattle.std.proofs.lemmas.Bool.{cases_lt, cases_eq}
use Rattle.std.proofs.lemmas.Bool.Decides.{nat_tests}
use Rattle.std.proofs.lemmas.List.{reverse-append, take_all}
use Rattle.definitions_operators.specs.Operators.{places_of}
use Rattle.definitions_operators.proofs.PositionLaws.{passing_places-more}
use Rattle.chain_table.specs.Entries.{IsNewestBelow, IsWalk}
use Rattle.chain_table.specs.Laws.{WalksMeetEntries, WalksEnd}

-- the entries of the key among the first ones, newest first
abbrev met : List ℕ → ℕ → ℕ → List ℕ
met keys key bound = reverse (places_of (take bound keys) key)

met-more : (keys : List ℕ) (key bound : ℕ) → bound < length keys → met keys key (suc bound) ≡ reverse (cond (slice_index keys bound == key) (bound ∷ []) []) ++ met keys key bound
met-more keys key bound within =
    ap (λ n. reverse (places_of (take n keys) key)) (sym (add-one bound))
    ∙ ap reverse (passing_places-more (λ other. other == key) bound keys within)
    ∙ reverse-append (places_of (take bound keys) key) (cond (slice_index keys bound == key) (bound ∷ []) [])

met-same : (keys : List ℕ) (key bound : ℕ) → bound < length keys → slice_index keys bound ≡ key → met keys key (suc bound) ≡ bound ∷ met keys key bound
met-same keys key bound within same =
    let t : (slice_index keys bound == key) ≡ true = grind (arith, nat_tests) in
    met-more keys key bound within ∙ ap (λ b. reverse (cond b (bound ∷ []) []) ++ met keys key bound) t

met-other : (keys : List ℕ) (key bound : ℕ) → bound < length keys → slice_index keys bound ≢ key → met keys key (suc bound) ≡ met keys key bound
met-other keys key bound within other =
    let f : (slice_index keys bound == key) ≡ false = grind (arith, nat_tests) in
    met-more keys key bound within ∙ ap (λ b. reverse (cond b (bound ∷ []) []) ++ met keys key bound) f

-- if no entry has the key, none is met
met-none : (keys : List ℕ) (key bound : ℕ) → bound ≤ length keys → ((entry : ℕ) → entry < bound → slice_index keys entry ≢ key) → met keys key bound ≡ []
met-none keys key zero within none = refl
met-none keys key (suc bound) within none =
    met-other keys key bound (omega arith) (none bound (omega arith)) ∙ met-none keys key bound (omega arith) (λ entry below. none entry (omega arith))

-- the newest is met first
met-newest : (keys : List ℕ) (key bound entry : ℕ) → bound ≤ length keys → entry < bound → slice_index keys entry ≡ key
    → ((later : ℕ) → entry < later → later < bound → slice_index keys later ≢ key) → met keys key bound ≡ entry ∷ met keys key entry
met-newest keys key zero entry within below same newest = absurd (omega arith)
met-newest keys key (suc bound) entry within below same newest =
    elim (cases_lt entry bound) [
      | inl before ↦
          met-other keys key bound (omega arith) (newest bound before (omega arith))
          ∙ met-newest keys key bound entry (omega arith) before same (λ later from upto. newest later from (omega arith))
      | inr last ↦
          let here : entry ≡ bound = omega arith in
          met-same keys key bound (omega arith) (ap (slice_index keys) (sym here) ∙ same) ∙ ap (λ n. n ∷ met keys key n) (sym here)
    ]

walk-meets : (keys : List ℕ) (key bound : ℕ) (first : Option ℕ) (walk : List ℕ) → bound ≤ length keys → IsNewestBelow keys key bound first → IsWalk keys key first walk → walk ≡ met keys key bound
walk-meets keys key bound first [] within is ended = sym (met-none keys key bound within (subst (IsNewestBelow keys key bound) ended is))
walk-meets keys key bound first (entry ∷ walk) within is (here, (next, newest, rest)) =
    let at = subst (IsNewestBelow keys key bound) here is in
    ap (λ l. entry ∷ l) (walk-meets keys key entry next walk (omega (arith, at.0)) newest rest)
    ∙ sym (met-newest keys key bound entry within at.0 at.1 at.2)

pub walks_meet_entries : WalksMeetEntries
walks_meet_entries keys key first walk is walks =
    walk-meets keys key (length keys) first walk (omega arith) is walks ∙ ap (λ (l : List ℕ). reverse (places_of l key)) (take_all (length keys) keys (omega arith))

-- # Walks end

older-newest : (keys : List ℕ) (key bound : ℕ) → ((found : Option ℕ) × IsNewestBelow keys key bound found) → slice_index keys bound ≢ key
    → (found : Option ℕ) × IsNewestBelow keys key (suc bound) found
older-newest keys key bound (None, none) other = (
  None,
  λ entry below. elim (cases_lt entry bound) [
    | inl before ↦ none entry before
    | inr last ↦ let here : entry ≡ bound = omega arith in subst (λ n. slice_index keys n ≢ key) (sym here) other
  ],
)
older-newest keys key bound (Some entry, (below, same, later)) other = (
  Some entry,
  (
    omega arith,
    same,
    λ place from upto. elim (cases_lt place bound) [
      | inl before ↦ later place from before
      | inr last ↦ let here : place ≡ bound = omega arith in subst (λ n. slice_index keys n ≢ key) (sym here) other
    ],
  ),
)

newest : (keys : List ℕ) (key bound : ℕ) → (found : Option ℕ) × IsNewestBelow keys key bound found
newest keys key zero = (None, λ entry below. absurd (omega arith))
newest keys key (suc bound) =
    elim (cases_eq (slice_index keys bound) key) [
      | inl same ↦ (Some bound, (omega arith, same, λ later from upto. absurd (omega arith)))
      | inr other ↦ older-newest keys key bound (newest keys key bound) other
    ]

-- a walk goes down, so it ends after as many entries as there are below
walk-ends : (keys : List ℕ) (key limit bound : ℕ) (first : Option ℕ) → bound ≤ limit → IsNewestBelow keys key bound first → (walk : List ℕ) × IsWalk keys key first walk
walk-ends keys key limit bound None below is = ([], refl)
walk-ends keys key zero bound (Some entry) below is = absurd (omega (arith, is.0))
walk-ends keys key (suc limit) bound (Some entry) below is =
    let next = newest keys key entry in
    let rest = walk-ends keys key limit entry next.0 (omega (arith, is.0)) next.1 in
    (entry ∷ rest.0, (refl, (next.0, next.1, rest.1)))

pub walks_end : WalksEnd
walks_end keys key first is = walk-ends keys key (length keys) (length keys) first (omega arith) is
