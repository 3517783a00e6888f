-- Codes of texts, and of the texts that numbers stand for.
use Rattle.std.proofs.Common.{◌≡◌, ◌∙◌, ◌<◌, ℕ, true, List, [], ◌∷◌, Some, None, refl, sym, ap, inl, inr, length, map, get_or, slice_get, nat_lt, arith}
use Rattle.std.specs.List.{All, Contains, list_all, position_or_len}
use Rattle.std.specs.Str.{bytes_eq}
use Rattle.std.proofs.lemmas.Bool.{cases_lt, lt-ltb, true≢false, and_from}
use Rattle.std.proofs.lemmas.List.{get_or-map, length-map}
use Rattle.std.proofs.lemmas.List.Elements.{All-head, All-tail, All-weaker, All-contains_itself}
use Rattle.std.proofs.lemmas.List.Sums.{fails_before_first}
use Rattle.std.proofs.lemmas.Option.{slice_get_within}
use Rattle.std.proofs.lemmas.Slice.Eq.{bytes_eq-Decides}
use Rattle.catalog_core.specs.Texts.{Text}
use Rattle.catalog_core.specs.Dictionaries.{code_of, AreDistinctTextsOf}
use Rattle.dictionary_encoding.specs.Numbers.{texts_at, AreNumbers}
use Rattle.dictionary_encoding.specs.Coding.{AreCoded}
use Rattle.dictionary_encoding.proofs.NumberLemmas.{number_is_there, text_is_used}

-- a text that is there has a code
pub has_code : (texts : List Text) (text : Text) → Contains texts text → (code : ℕ) × (code_of text texts ≡ Some code)
has_code texts text (k, within, is) =
    let place = position_or_len (bytes_eq text) texts in
    let here : bytes_eq text (get_or texts k text) ≡ true = (bytes_eq-Decides text (get_or texts k text)).1 (sym is) in
    elim (cases_lt place (length texts)) [
      | inl lower ↦ (place, rw (lt-ltb place (length texts) lower) refl)
      | inr not_lower ↦ absurd (true≢false (sym here ∙ fails_before_first (bytes_eq text) texts k text (omega (arith, within, not_lower))))
    ]

pub distinct_have_codes : (distinct dictionary : List Text) → AreDistinctTextsOf distinct dictionary → All (Contains dictionary) distinct
distinct_have_codes distinct dictionary are = All-weaker (Contains distinct) (Contains dictionary) (λ text has. (are.same text).1 has) distinct (All-contains_itself distinct)

pub length_codes : (distinct dictionary : List Text) (codes : List ℕ) → map (slice_get dictionary) codes ≡ map Some distinct → length codes ≡ length distinct
length_codes distinct dictionary codes coded = sym (length-map codes (slice_get dictionary)) ∙ ap length coded ∙ length-map distinct Some

-- the code of a number is that of its text
at_number : (distinct dictionary : List Text) (codes : List ℕ) (number : ℕ) → map (slice_get dictionary) codes ≡ map Some distinct → number < length distinct
    → slice_get dictionary (get_or codes number 0) ≡ Some (get_or distinct number [])
at_number distinct dictionary codes number coded within =
    let left = get_or-map (slice_get dictionary) codes number 0 None (omega (arith, within, length_codes distinct dictionary codes coded)) in
    let right = get_or-map Some distinct number [] None within in
    sym left ∙ ap (λ l. get_or l number None) coded ∙ right

pub codes_of_numbers : (distinct dictionary : List Text) (codes numbers : List ℕ) → map (slice_get dictionary) codes ≡ map Some distinct → All (λ number. number < length distinct) numbers
    → map (slice_get dictionary) (map (λ number. get_or codes number 0) numbers) ≡ map Some (texts_at distinct numbers)
codes_of_numbers distinct dictionary codes [] coded within = refl
codes_of_numbers distinct dictionary codes (number ∷ numbers) coded within =
    let here = at_number distinct dictionary codes number coded (All-head (λ n. n < length distinct) number numbers within) in
    let later = codes_of_numbers distinct dictionary codes numbers coded (All-tail (λ n. n < length distinct) number numbers within) in
    rw (here, later) refl

-- what has a text is a code
pub codes_within : (dictionary : List Text) (codes : List ℕ) (texts : List Text) → map (slice_get dictionary) codes ≡ map Some texts → list_all (λ code. nat_lt code (length dictionary)) codes ≡ true
codes_within dictionary [] texts coded = refl
codes_within dictionary (code ∷ codes) [] coded = absurd (cc coded)
codes_within dictionary (code ∷ codes) (text ∷ texts) coded =
    let here = slice_get_within dictionary code text (cc coded) in
    and_from (nat_lt code (length dictionary)) (list_all (λ one. nat_lt one (length dictionary)) codes) (lt-ltb code (length dictionary) here) (codes_within dictionary codes texts (cc coded))

-- the dictionary of the distinct texts is the one of all
pub distinct_of_numbers : (distinct dictionary : List Text) (numbers : List ℕ) → AreNumbers distinct numbers → AreDistinctTextsOf distinct dictionary → AreDistinctTextsOf (texts_at distinct numbers) dictionary
distinct_of_numbers distinct dictionary numbers numbered are = record {
  lawful = are.lawful;
  same = λ text. (
    λ has. text_is_used distinct numbers text numbered ((are.same text).0 has),
    λ has. (are.same text).1 (number_is_there distinct numbers text numbered has),
  );
}

-- the texts of numbers are coded by the codes that replace these
pub coded_by_numbers : (distinct dictionary : List Text) (codes numbers : List ℕ) → AreNumbers distinct numbers → AreDistinctTextsOf distinct dictionary → map (slice_get dictionary) codes ≡ map Some distinct
    → AreCoded (texts_at distinct numbers) (record { codes = map (λ number. get_or codes number 0) numbers; dictionary = dictionary })
coded_by_numbers distinct dictionary codes numbers numbered are coded =
    let replaced = map (λ number. get_or codes number 0) numbers in
    let texts = texts_at distinct numbers in
    let each : map (slice_get dictionary) replaced ≡ map Some texts = codes_of_numbers distinct dictionary codes numbers coded numbered.within in
    record {
      distinct = distinct_of_numbers distinct dictionary numbers numbered are;
      codes = each;
      within = codes_within dictionary replaced texts each;
      count = length_codes texts dictionary replaced each;
    }
