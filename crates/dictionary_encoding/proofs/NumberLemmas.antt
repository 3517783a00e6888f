-- Numbers of texts: one more text, and the distinct texts as those of the numbers.
use Rattle.std.proofs.Common.{◌≡◌, ◌∙◌, ◌<◌, ◌≤◌, ◌+◌, ℕ, List, [], ◌∷◌, ◌++◌, Some, refl, sym, ap, subst, inl, inr, length, get_or, slice_get, arith}
use Rattle.std.specs.List.{All, AllByRecursion, Contains}
use Rattle.std.proofs.lemmas.List.{map_push, get_or_append_left, length-map, length_push}
use Rattle.std.proofs.lemmas.List.Elements.{All-head, All-tail, All-push, All-weaker, All-map, All-contains, All-from_recursion, recursion_from_All, Contains-get_or, Contains-append_left, Contains-push}
use Rattle.std.proofs.lemmas.Option.{slice_get_within, get_or_from_slice_get}
use Rattle.definitions_blocks.specs.Columns.{max_rows}
use Rattle.catalog_core.specs.Texts.{Text, IsText}
use Rattle.dictionary_encoding.specs.Numbers.{texts_at, Grows, AreNumbers}

-- more texts leave the others their numbers
pub texts_at-append : (distinct more : List Text) (numbers : List ℕ) → All (λ number. number < length distinct) numbers → texts_at (distinct ++ more) numbers ≡ texts_at distinct numbers
texts_at-append distinct more [] within = refl
texts_at-append distinct more (number ∷ numbers) within =
    let here = get_or_append_left distinct more [] number (All-head (λ n. n < length distinct) number numbers within) in
    let later = texts_at-append distinct more numbers (All-tail (λ n. n < length distinct) number numbers within) in
    rw (here, later) refl

pub length_grows : (old : List Text) (text : Text) (new : List Text) → Grows old text new → (length old ≤ length new) × (length new ≤ length old + 1)
length_grows old text new (inl same) = let long = ap length same in (omega arith, omega arith)
length_grows old text new (inr more) = let long = ap length more ∙ length_push old text in (omega arith, omega arith)

texts_at-grows : (old : List Text) (text : Text) (new : List Text) (numbers : List ℕ) → Grows old text new → All (λ number. number < length old) numbers → texts_at new numbers ≡ texts_at old numbers
texts_at-grows old text new numbers (inl same) within = ap (λ texts. texts_at texts numbers) same
texts_at-grows old text new numbers (inr more) within = ap (λ texts. texts_at texts numbers) more ∙ texts_at-append old (text ∷ []) numbers within

-- the texts of one number more
pub texts_at-push : (old : List Text) (text : Text) (new : List Text) (numbers : List ℕ) (number : ℕ) → AreNumbers old numbers → Grows old text new → slice_get new number ≡ Some text
    → texts_at new (numbers ++ number ∷ []) ≡ texts_at old numbers ++ text ∷ []
texts_at-push old text new numbers number are grows at =
    let front = texts_at-grows old text new numbers grows are.within in
    let last : get_or new number [] ≡ text = get_or_from_slice_get new number text [] at in
    map_push (λ n. get_or new n []) numbers number ∙ rw (front, last) refl

used_push : (old : List Text) (text : Text) (new texts : List Text) → Grows old text new → All (Contains texts) old → All (Contains (texts ++ text ∷ [])) new
used_push old text new texts (inl same) used =
    subst (All (Contains (texts ++ text ∷ []))) (sym same) (All-weaker (Contains texts) (Contains (texts ++ text ∷ [])) (λ one has. Contains-append_left texts (text ∷ []) one has) old used)
used_push old text new texts (inr more) used =
    let kept = All-weaker (Contains texts) (Contains (texts ++ text ∷ [])) (λ one has. Contains-append_left texts (text ∷ []) one has) old used in
    subst (All (Contains (texts ++ text ∷ []))) (sym more) (All-push (Contains (texts ++ text ∷ [])) old text kept (Contains-push texts text))

pub AreNumbers-push : (old : List Text) (text : Text) (new : List Text) (numbers : List ℕ) (number : ℕ) → AreNumbers old numbers → Grows old text new → slice_get new number ≡ Some text
    → AreNumbers new (numbers ++ number ∷ [])
AreNumbers-push old text new numbers number are grows at =
    let (longer, one_more) = length_grows old text new grows in
    record {
      within = All-push (λ n. n < length new) numbers number (All-weaker (λ n. n < length old) (λ n. n < length new) (λ n lower. omega (arith, lower, longer)) numbers are.within) (slice_get_within new number text at);
      used = subst (λ texts. All (Contains texts) new) (sym (texts_at-push old text new numbers number are grows at)) (used_push old text new (texts_at old numbers) grows are.used);
      few = omega (arith, are.few, one_more, length_push numbers number);
    }

-- The distinct texts are those of the numbers.

pub length-texts_at : (distinct : List Text) (numbers : List ℕ) → length (texts_at distinct numbers) ≡ length numbers
length-texts_at distinct numbers = length-map numbers (λ number. get_or distinct number [])

pub number_is_there : (distinct : List Text) (numbers : List ℕ) (text : Text) → AreNumbers distinct numbers → Contains (texts_at distinct numbers) text → Contains distinct text
number_is_there distinct numbers text are has =
    let each : All (λ number. Contains distinct (get_or distinct number [])) numbers =
    All-weaker (λ n. n < length distinct) (λ n. Contains distinct (get_or distinct n [])) (λ n within. Contains-get_or distinct n [] within) numbers are.within in
    All-contains (Contains distinct) (texts_at distinct numbers) text (All-map (Contains distinct) (λ number. get_or distinct number []) numbers each) has

pub text_is_used : (distinct : List Text) (numbers : List ℕ) (text : Text) → AreNumbers distinct numbers → Contains distinct text → Contains (texts_at distinct numbers) text
text_is_used distinct numbers text are has = All-contains (Contains (texts_at distinct numbers)) distinct text are.used has

pub few_distinct : (distinct : List Text) (numbers : List ℕ) → AreNumbers distinct numbers → length (texts_at distinct numbers) ≤ max_rows → length distinct ≤ max_rows
few_distinct distinct numbers are few = omega (arith, few, are.few, length-texts_at distinct numbers)

pub lawful_distinct : (distinct : List Text) (numbers : List ℕ) → AreNumbers distinct numbers → AllByRecursion IsText (texts_at distinct numbers) → AllByRecursion IsText distinct
lawful_distinct distinct numbers are lawful =
    let texts = texts_at distinct numbers in
    recursion_from_All IsText distinct (All-weaker (Contains texts) IsText (λ text has. All-contains IsText texts text (All-from_recursion IsText texts lawful) has) distinct are.used)
