-- Links of a table by value, place by place from the last on.
use Rattle.std.proofs.Common.{◌≡◌, ◌≢◌, ◌∙◌, ap, sym, subst, ℕ, ◌+◌, ◌-◌, ◌%◌, ◌^◌, ◌<◌, ◌≤◌, inl, inr, List, All, length, set, arith}
use Rattle.std.specs.Prelude.{slice_index, min}
use Rattle.std.proofs.lemmas.Bool.{cases_lt, cases_eq}
use Rattle.std.proofs.lemmas.List.{length-set, get_or-set_same, get_or-set_other}
use Rattle.join_ops.specs.KeyMaps.{IsNextLink, IsDirect}

-- the places from one on are linked
pub record IsDirectFrom (low : ℕ) (heads keys next : List ℕ) (from : ℕ) : Type 0 where
  pub last : slice_index heads (length heads - 1) ≡ 0
  pub linked : length next ≡ length keys
  pub heads_are : (distance : ℕ) → distance + 1 < length heads → IsNextLink keys (low + distance) from (slice_index heads distance)
  pub next_are : (place : ℕ) → from ≤ place → place < length keys → IsNextLink keys (slice_index keys place) (place + 1) (slice_index next place)

-- behind all places there are none
pub link-none : (keys : List ℕ) (key link : ℕ) → link ≡ 0 → IsNextLink keys key (length keys) link
link-none keys key link none = record {
  none = λ e place from within. absurd (omega arith);
  here = λ place e. absurd (omega (arith, none));
  first = λ place from before. absurd (omega (arith, none));
}

-- a place with another key before
link-other : (keys : List ℕ) (key from link : ℕ) → slice_index keys from ≢ key → IsNextLink keys key (from + 1) link → IsNextLink keys key from link
link-other keys key from link other is = record {
  none = λ e place upto within. elim (cases_eq place from) [
    | inl same ↦ subst (λ p. slice_index keys p ≢ key) (sym same) other
    | inr apart ↦ is.none e place (omega (arith, apart)) within
  ];
  here = λ place e. let found = is.here place e in (omega (arith, found.0), found.1, found.2);
  first = λ place upto before. elim (cases_eq place from) [
    | inl same ↦ subst (λ p. slice_index keys p ≢ key) (sym same) other
    | inr apart ↦ is.first place (omega (arith, apart)) before
  ];
}

-- a place with the key itself
link-here : (keys : List ℕ) (key from link : ℕ) → from < length keys → slice_index keys from ≡ key → link ≡ from + 1 → IsNextLink keys key from link
link-here keys key from link within same is = record {
  none = λ e place upto below. absurd (omega (arith, is));
  here = λ place e.
      let at : place ≡ from = omega (arith, is) in
      (omega arith, omega arith, ap (slice_index keys) at ∙ same);
  first = λ place upto before. absurd (omega (arith, is));
}

pub direct-next : (low : ℕ) (heads keys next : List ℕ) (from distance link : ℕ) → from < length keys → low + distance ≡ slice_index keys from → distance + 1 < length heads
    → link ≡ slice_index heads distance → IsDirectFrom low heads keys next (from + 1) → IsDirectFrom low (set heads distance (from + 1)) keys (set next from link) from
direct-next low heads keys next from distance link within at room was is =
    let size : length (set heads distance (from + 1)) ≡ length heads = length-set heads distance (from + 1) in
    record {
      last =
          ap (λ n. slice_index (set heads distance (from + 1)) (n - 1)) size
          ∙ get_or-set_other heads distance (length heads - 1) (from + 1) 0 (λ same. absurd (omega (arith, same))) ∙ is.last;
      linked = length-set next from link ∙ is.linked;
      heads_are = λ d inside. elim (cases_eq d distance) [
        | inl same ↦ link-here keys (low + d) from (slice_index (set heads distance (from + 1)) d) within (sym at ∙ ap (λ n. low + n) (sym same))
            (ap (slice_index (set heads distance (from + 1))) same ∙ get_or-set_same heads distance (from + 1) 0 (omega arith))
        | inr other ↦ link-other keys (low + d) from (slice_index (set heads distance (from + 1)) d) (λ e. other (omega (arith, e, at)))
            (subst (IsNextLink keys (low + d) (from + 1)) (sym (get_or-set_other heads distance d (from + 1) 0 other)) (is.heads_are d (omega (arith, inside, size))))
      ];
      next_are = λ place upto inside. elim (cases_eq place from) [
        | inl same ↦
            subst (λ p. IsNextLink keys (slice_index keys p) (p + 1) (slice_index (set next from link) p)) (sym same)
            (subst (IsNextLink keys (slice_index keys from) (from + 1)) (sym (get_or-set_same next from link 0 (omega (arith, is.linked, within)) ∙ was))
            (subst (λ k. IsNextLink keys k (from + 1) (slice_index heads distance)) at (is.heads_are distance room)))
        | inr other ↦
            subst (IsNextLink keys (slice_index keys place) (place + 1)) (sym (get_or-set_other next from place link 0 other)) (is.next_are place (omega (arith, other)) inside)
      ];
    }

pub direct-step : (low : ℕ) (heads keys next : List ℕ) (from before after distance link : ℕ) → before ≡ from + 1 → after ≡ from → from < length keys → low + distance ≡ slice_index keys from
    → distance + 1 < length heads → link ≡ slice_index heads distance → IsDirectFrom low heads keys next before → IsDirectFrom low (set heads distance (from + 1)) keys (set next from link) after
direct-step low heads keys next from before after distance link b a within at room was is =
    subst (IsDirectFrom low (set heads distance (from + 1)) keys (set next from link)) (sym a)
    (direct-next low heads keys next from distance link within at room was (subst (IsDirectFrom low heads keys next) b is))

pub direct-none : (low : ℕ) (heads keys next : List ℕ) (from : ℕ) → from ≡ length keys → ((distance : ℕ) → slice_index heads distance ≡ 0) → length next ≡ length keys → IsDirectFrom low heads keys next from
direct-none low heads keys next from all none linked = record {
  last = none (length heads - 1);
  linked = linked;
  heads_are = λ distance inside. subst (λ n. IsNextLink keys (low + distance) n (slice_index heads distance)) (sym all) (link-none keys (low + distance) (slice_index heads distance) (none distance));
  next_are = λ place upto within. absurd (omega (arith, all));
}

pub direct-all : (low : ℕ) (heads keys next : List ℕ) (from : ℕ) → from ≡ 0 → 0 < length heads → low + length heads < 2 ^ 64 + 1 → length keys < 2 ^ 32
    → All (λ key. (low ≤ key) × (key + 1 < low + length heads)) keys → IsDirectFrom low heads keys next from → IsDirect low heads keys next
direct-all low heads keys next from all some fits few within is = record {
  some = some;
  last = is.last;
  fits = fits;
  few = few;
  linked = is.linked;
  within = λ place inside. within place 0 inside;
  heads_are = λ distance inside. subst (λ n. IsNextLink keys (low + distance) n (slice_index heads distance)) all (is.heads_are distance inside);
  next_are = λ place inside. is.next_are place (omega (arith, all)) inside;
}

-- # A look-up

link-absent : (keys : List ℕ) (key link : ℕ) → link ≡ 0 → ((place : ℕ) → place < length keys → slice_index keys place ≢ key) → IsNextLink keys key 0 link
link-absent keys key link none absent = record {
  none = λ e place from within. absent place within;
  here = λ place e. absurd (omega (arith, none));
  first = λ place from before. absurd (omega (arith, none));
}

-- at the key's distance, or at the last value, which has no key
pub direct-look : (low : ℕ) (heads keys next : List ℕ) (key : ℕ) → key < 2 ^ 64 → IsDirect low heads keys next
    → IsNextLink keys key 0 (slice_index heads (min ((key + (2 ^ 64 - low)) % 2 ^ 64) (length heads - 1)))
direct-look low heads keys next key word is =
    let last = length heads - 1 in
    let place = min ((key + (2 ^ 64 - low)) % 2 ^ 64) last in
    elim (cases_lt key low) [
      | inl before ↦
          let at : place ≡ last = omega (arith, is.some, is.fits) in
          link-absent keys key (slice_index heads place) (ap (slice_index heads) at ∙ is.last) (λ p inside same. let low_is = is.within p inside in absurd (omega (arith, low_is.0, same, before)))
      | inr from ↦
          let gap : (key + (2 ^ 64 - low)) % 2 ^ 64 ≡ key - low = omega (arith, from, word) in
          elim (cases_lt (key - low) last) [
            | inl inside ↦
                let at : place ≡ key - low = omega (arith, gap, inside) in
                subst (λ n. IsNextLink keys key 0 (slice_index heads n)) (sym at)
                (subst (λ k. IsNextLink keys k 0 (slice_index heads (key - low))) (omega (arith, from)) (is.heads_are (key - low) (omega (arith, inside))))
            | inr past ↦
                let at : place ≡ last = omega (arith, gap, past) in
                link-absent keys key (slice_index heads place) (ap (slice_index heads) at ∙ is.last) (λ p inside same. let high_is = is.within p inside in absurd (omega (arith, high_is.1, same, past, from, is.some)))
          ]
    ]
