-- Places of texts among texts that rise.
use Rattle.std.proofs.Common.{◌≡◌, ◌↔◌, ◌∙◌, ◌<◌, ◌≤◌, ◌+◌, ℕ, zero, suc, Bool, true, false, List, [], ◌∷◌, ◌++◌, Some, None, refl, sym, ap, subst, inl, inr, length, slice_get, take, drop, get_or, filter, arith, length-append}
use Rattle.std.specs.Int.{from_le_bytes, w32}
use Rattle.std.specs.List.{AllByRecursion, position_or_len}
use Rattle.std.specs.Str.{bytes_eq}
use Rattle.std.proofs.lemmas.Bool.{cases_Bool, cases_lt, both_ways, false_from_ne_true, not_from_false, not-true, lt-ltb, le-ltb}
use Rattle.std.proofs.lemmas.List.{append_assoc, append-nil, drop_at, get_or-map, length-map}
use Rattle.std.proofs.lemmas.List.Quantifiers.{position-Some}
use Rattle.std.proofs.lemmas.List.Sums.{position_or_len_is}
use Rattle.std.proofs.lemmas.Option.{slice_get_within, get_or_from_slice_get, slice_get-get_or}
use Rattle.std.proofs.lemmas.Slice.Eq.{bytes_eq-Decides}
use Rattle.catalog_core.specs.Texts.{Text, IsText, is_below}
use Rattle.catalog_core.specs.Indexed.{starts_from, text_at, texts_at, IsIndexed}
use Rattle.catalog_core.specs.Dictionaries.{rises, length_bytes, entry_of, entries_of, dictionary_head, code_of, CodeIsPlace, RanksPartCodes}
use Rattle.catalog_core.specs.DictionarySearch.{is_counted, PartsAt}
use Rattle.catalog_core.proofs.TextLemmas.{below_itself, below_through, below_later}
use Rattle.catalog_core.proofs.DictionaryFileLemmas.{length-dictionary_head, length-length_bytes, entries_of-cons}
use Rattle.catalog_core.proofs.DictionaryReadLemmas.{shows_text}

-- The text at a place.

-- the entry that starts at a place of the list lies within the bytes
abbrev Lies : List ℕ → ℕ → Type 0
Lies bytes start = start + 4 + from_le_bytes w32 (take 4 (drop start bytes)) ≤ length bytes

lies : (texts : List Text) (bytes front rest : List ℕ) (at k : ℕ) → AllByRecursion IsText texts → length front ≡ at → bytes ≡ front ++ (entries_of texts ++ rest) → k < length texts → Lies bytes (get_or (starts_from at texts) k 0)
lies [] bytes front rest at k all long is within = absurd (omega (arith, within))
lies (text ∷ texts) bytes front rest at zero (lawful, all) long is within =
    let flat : bytes ≡ front ++ (entry_of text ++ (entries_of texts ++ rest)) = is ∙ ap (λ l. front ++ l) (entries_of-cons text texts rest) in
    let here : drop at bytes ≡ entry_of text ++ (entries_of texts ++ rest) = ap (drop at) flat ∙ drop_at front (entry_of text ++ (entries_of texts ++ rest)) at long in
    let shows = shows_text text (drop at bytes) (entries_of texts ++ rest) lawful here in
    omega (arith, shows.said, ap length flat, long, length-append front (entry_of text ++ (entries_of texts ++ rest)), length-append (entry_of text) (entries_of texts ++ rest), length-append (length_bytes text) text, length-length_bytes text)
lies (text ∷ texts) bytes front rest at (suc k) (lawful, all) long is within =
    let flat : bytes ≡ front ++ (entry_of text ++ (entries_of texts ++ rest)) = is ∙ ap (λ l. front ++ l) (entries_of-cons text texts rest) in
    lies texts bytes (front ++ entry_of text) rest (at + 4 + length text) k all
    (omega (arith, length-append front (entry_of text), length-append (length_bytes text) text, length-length_bytes text, long)) (flat ∙ sym (append_assoc front (entry_of text) (entries_of texts ++ rest))) (omega (arith, within))

pub length-texts_at : (bytes starts : List ℕ) → length (texts_at bytes starts) ≡ length starts
length-texts_at bytes starts = length-map starts (text_at bytes)

pub start_lies : (bytes starts : List ℕ) (place : ℕ) → IsIndexed bytes starts → place < length starts → Lies bytes (get_or starts place 0)
start_lies bytes starts place is within =
    let texts = texts_at bytes starts in
    let none : bytes ≡ dictionary_head (length texts) ++ (entries_of texts ++ []) = is.file.bytes_are ∙ ap (λ l. dictionary_head (length texts) ++ l) (sym (append-nil (entries_of texts))) in
    subst (λ all. Lies bytes (get_or all place 0)) (sym is.starts_are)
    (lies texts bytes (dictionary_head (length texts)) [] 16 place is.file.lawful.lawful (length-dictionary_head (length texts)) none (omega (arith, within, length-texts_at bytes starts)))

pub text_at_place : (bytes starts : List ℕ) (place : ℕ) → place < length starts → text_at bytes (get_or starts place 0) ≡ get_or (texts_at bytes starts) place []
text_at_place bytes starts place within = sym (get_or-map (text_at bytes) starts place 0 [] within)

-- A front of the texts comes before a text.

pub comes_down : (through : Bool) (text : Text) (texts : List Text) (i j : ℕ) → rises texts ≡ true → i ≤ j → j < length texts → is_counted through text (get_or texts j []) ≡ true → is_counted through text (get_or texts i []) ≡ true
comes_down through text texts i j rise upto within before =
    elim (cases_lt i j) [
      | inl lower ↦ lowered through (get_or texts i []) (get_or texts j []) (below_later texts i j rise lower within) before
      | inr not_lower ↦ let same : j ≡ i = omega (arith, upto, not_lower) in subst (λ n. is_counted through text (get_or texts n []) ≡ true) same before
    ]
  where
    lowered : (through : Bool) (first second : Text) → is_below first second ≡ true → is_counted through text second ≡ true → is_counted through text first ≡ true
    lowered true first second below before =
        not_from_false (is_below text first) (false_from_ne_true (is_below text first) (λ above. both_ways (is_below text second) (not-true (is_below text second) before) (below_through text first second above below)))
    lowered false first second below before = below_through first second text below before

pub parts_more : (through : Bool) (text : Text) (texts : List Text) (middle : ℕ) → rises texts ≡ true → middle < length texts → is_counted through text (get_or texts middle []) ≡ true
    → (k : ℕ) → k < middle + 1 → is_counted through text (get_or texts k []) ≡ true
parts_more through text texts middle rise within before k lower = comes_down through text texts k middle rise (omega (arith, lower)) within before

pub parts_less : (through : Bool) (text : Text) (texts : List Text) (middle : ℕ) → rises texts ≡ true → is_counted through text (get_or texts middle []) ≡ false
    → (k : ℕ) → middle ≤ k → k < length texts → is_counted through text (get_or texts k []) ≡ false
parts_less through text texts middle rise after k upper within =
    false_from_ne_true (is_counted through text (get_or texts k [])) (λ before. both_ways (is_counted through text (get_or texts middle [])) after (comes_down through text texts middle k rise upper within before))

length-filter_front : (p : Text → Bool) (texts : List Text) (place : ℕ) → place ≤ length texts → ((k : ℕ) → k < place → p (get_or texts k []) ≡ true) → ((k : ℕ) → place ≤ k → k < length texts → p (get_or texts k []) ≡ false)
    → length (filter p texts) ≡ place
length-filter_front p [] place within below above = omega (arith, within)
length-filter_front p (text ∷ texts) zero within below above =
    rw (above 0 (omega arith) (omega arith)) (length-filter_front p texts zero (omega arith) (λ k lower. absurd (omega (arith, lower))) (λ k upper under. above (suc k) (omega arith) (omega (arith, under))))
length-filter_front p (text ∷ texts) (suc place) within below above =
    rw (below 0 (omega arith))
    (ap suc (length-filter_front p texts place (omega (arith, within)) (λ k lower. below (suc k) (omega (arith, lower))) (λ k upper under. above (suc k) (omega (arith, upper)) (omega (arith, under)))))

pub rank_of_parts : (through : Bool) (text : Text) (texts : List Text) (place : ℕ) → PartsAt through text texts place → place ≡ length (filter (is_counted through text) texts)
rank_of_parts through text texts place parts = sym (length-filter_front (is_counted through text) texts place parts.within parts.below parts.above)

-- The texts before one that is less are less, and those after one that is greater are greater.

pub lower_too : (text : Text) (texts : List Text) (middle : ℕ) → rises texts ≡ true → middle < length texts → is_below (get_or texts middle []) text ≡ true
    → (k : ℕ) → k < middle + 1 → is_below (get_or texts k []) text ≡ true
lower_too text texts middle rise within here k lower = comes_down false text texts k middle rise (omega (arith, lower)) within here

pub upper_too : (text : Text) (texts : List Text) (middle : ℕ) → rises texts ≡ true → is_below text (get_or texts middle []) ≡ true
    → (k : ℕ) → middle ≤ k → k < length texts → is_below text (get_or texts k []) ≡ true
upper_too text texts middle rise here k upper within =
    elim (cases_lt middle k) [
      | inl later ↦ below_through text (get_or texts middle []) (get_or texts k []) here (below_later texts middle k rise later within)
      | inr not_later ↦ let same : k ≡ middle = omega (arith, upper, not_later) in subst (λ n. is_below text (get_or texts n []) ≡ true) (sym same) here
    ]

-- The place of a text that is there, and of one that is not.

other_than : (text other : Text) → is_below other text ≡ true → bytes_eq text other ≡ false
other_than text other below =
    false_from_ne_true (bytes_eq text other) (λ eq. below_itself text (subst (λ t. is_below t text ≡ true) (sym ((bytes_eq-Decides text other).0 eq)) below))

later_than : (text other : Text) → is_below text other ≡ true → bytes_eq text other ≡ false
later_than text other above =
    false_from_ne_true (bytes_eq text other) (λ eq. below_itself text (subst (λ t. is_below text t ≡ true) (sym ((bytes_eq-Decides text other).0 eq)) above))

pub code_there : (text : Text) (texts : List Text) (place : ℕ) → rises texts ≡ true → place < length texts → get_or texts place [] ≡ text → Some place ≡ code_of text texts
code_there text texts place rise within is =
    let before : (k : ℕ) → k < place → bytes_eq text (get_or texts k []) ≡ false =
    λ k lower. other_than text (get_or texts k []) (subst (λ t. is_below (get_or texts k []) t ≡ true) is (below_later texts k place rise lower within)) in
    let at : position_or_len (bytes_eq text) texts ≡ place =
    position_or_len_is (bytes_eq text) texts place [] (omega (arith, within)) before (λ _. (bytes_eq-Decides text (get_or texts place [])).1 (sym is)) in
    rw (at, lt-ltb place (length texts) within) refl

-- no text that is less, and none that is greater, is the text
pub code_not_there : (text : Text) (texts : List Text) (place : ℕ) → ((k : ℕ) → k < place → is_below (get_or texts k []) text ≡ true)
    → ((k : ℕ) → place ≤ k → k < length texts → is_below text (get_or texts k []) ≡ true) → None ≡ code_of text texts
code_not_there text texts place below above =
    let nowhere : (k : ℕ) → k < length texts → bytes_eq text (get_or texts k []) ≡ false = λ k within. elim (cases_lt k place) [
      | inl lower ↦ other_than text (get_or texts k []) (below k lower)
      | inr not_lower ↦ later_than text (get_or texts k []) (above k (omega (arith, not_lower)) within)
    ] in
    let at : position_or_len (bytes_eq text) texts ≡ length texts = position_or_len_is (bytes_eq text) texts (length texts) [] (omega arith) nowhere (λ less. absurd (omega (arith, less))) in
    rw (at, le-ltb (length texts) (length texts) (omega arith)) refl

-- Codes and places.

pub code_at : (texts : List Text) (code : ℕ) (text : Text) → rises texts ≡ true → slice_get texts code ≡ Some text → code_of text texts ≡ Some code
code_at texts code text rise is = sym (code_there text texts code rise (slice_get_within texts code text is) (get_or_from_slice_get texts code text [] is))

pub text_at_code : (texts : List Text) (code : ℕ) (text : Text) → code_of text texts ≡ Some code → slice_get texts code ≡ Some text
text_at_code texts code text is =
    let (within, same, first) = position-Some (bytes_eq text) texts code [] is in
    slice_get-get_or texts code [] within ∙ ap (λ t. Some t) (sym ((bytes_eq-Decides text (get_or texts code [])).0 same))

-- what comes down from later texts to earlier ones
abbrev ComesDown : (Text → Bool) → List Text → Type 0
ComesDown p texts = (i j : ℕ) → i ≤ j → j < length texts → p (get_or texts j []) ≡ true → p (get_or texts i []) ≡ true

tail_down : (p : Text → Bool) (text : Text) (texts : List Text) → ComesDown p (text ∷ texts) → ComesDown p texts
tail_down p text texts down i j upto within = down (suc i) (suc j) (omega (arith, upto)) (omega (arith, within))

-- it does not hold of the first, so it holds of none
none_counted : (p : Text → Bool) (text : Text) (texts : List Text) → ComesDown p (text ∷ texts) → p text ≡ false → (k : ℕ) → k < length (text ∷ texts)
    → (k < length (filter p (text ∷ texts))) ↔ (p (get_or (text ∷ texts) k []) ≡ true)
none_counted p text texts down fails_first k within =
    let none : (j : ℕ) → j < length (text ∷ texts) → p (get_or (text ∷ texts) j []) ≡ false =
    λ j under. false_from_ne_true (p (get_or (text ∷ texts) j [])) (λ holds. both_ways (p text) fails_first (down 0 j (omega arith) under holds)) in
    let zero_counted : length (filter p (text ∷ texts)) ≡ 0 =
    length-filter_front p (text ∷ texts) 0 (omega arith) (λ j lower. absurd (omega (arith, lower))) (λ j upper under. none j under) in
    ((λ less. absurd (omega (arith, less, zero_counted))), (λ holds. absurd (both_ways (p (get_or (text ∷ texts) k [])) (none k within) holds)))

one_more_counted : (p : Text → Bool) (text : Text) (texts : List Text) → p text ≡ true
    → ((k : ℕ) → k < length texts → (k < length (filter p texts)) ↔ (p (get_or texts k []) ≡ true)) → (k : ℕ) → k < length (text ∷ texts)
    → (k < length (filter p (text ∷ texts))) ↔ (p (get_or (text ∷ texts) k []) ≡ true)
one_more_counted p text texts holds_first rest zero within = rw holds_first ((λ less. refl), (λ holds. omega arith))
one_more_counted p text texts holds_first rest (suc k) within =
    let (to, from) = rest k (omega (arith, within)) in
    rw holds_first ((λ less. to (omega (arith, less))), (λ holds. let less = from holds in omega (arith, less)))

-- such a thing holds of just the first so many
counted_are_first : (p : Text → Bool) (texts : List Text) → ComesDown p texts → (k : ℕ) → k < length texts → (k < length (filter p texts)) ↔ (p (get_or texts k []) ≡ true)
counted_are_first p [] down k within = absurd (omega (arith, within))
counted_are_first p (text ∷ texts) down k within =
    let rest = counted_are_first p texts (tail_down p text texts down) in
    elim (cases_Bool (p text)) [
      | inl holds_first ↦ one_more_counted p text texts holds_first rest k within
      | inr fails_first ↦ none_counted p text texts down fails_first k within
    ]

pub rank_parts : (through : Bool) (texts : List Text) (text other : Text) (code : ℕ) → rises texts ≡ true → code_of other texts ≡ Some code
    → (code < length (filter (is_counted through text) texts)) ↔ (is_counted through text other ≡ true)
rank_parts through texts text other code rise is =
    let there = text_at_code texts code other is in
    let (to, from) = counted_are_first (is_counted through text) texts (λ i j upto within. comes_down through text texts i j rise upto within) code (slice_get_within texts code other there) in
    let same = get_or_from_slice_get texts code other [] there in
    ((λ less. subst (λ t. is_counted through text t ≡ true) same (to less)), (λ holds. from (subst (λ t. is_counted through text t ≡ true) (sym same) holds)))

pub codes_are_places : CodeIsPlace
codes_are_places texts text code are = (code_at texts code text are.rising, text_at_code texts code text)

pub ranks_part_codes : RanksPartCodes
ranks_part_codes texts text other code are is =
    let (to, from) = rank_parts true texts text other code are.rising is in
    (rank_parts false texts text other code are.rising is, ((λ less. not-true (is_below text other) (to less)), (λ above. from (not_from_false (is_below text other) above))))
