-- What the bytes of a dictionary file show: its count, and its entries one after the other.
use Rattle.std.proofs.Common.{◌≡◌, ◌∙◌, ◌<◌, ◌≤◌, ℕ, List, [], ◌∷◌, ◌++◌, refl, sym, ap, subst, length, take, drop, arith, length-append}
use Rattle.std.specs.Int.{from_le_bytes, w32, w64}
use Rattle.std.specs.List.{AllByRecursion}
use Rattle.std.proofs.lemmas.List.{append_assoc, take_at, drop_at}
use Rattle.std.proofs.lemmas.Nat.{from_le_bytes-to_le_bytes_4}
use Rattle.definitions_blocks.specs.Columns.{max_rows}
use Rattle.definitions_blocks.specs.Words.{word_bytes}
use Rattle.definitions_blocks.proofs.WordLaws.{length-word_bytes, from_le_bytes-word_bytes}
use Rattle.catalog_core.specs.Texts.{Text, IsText, max_text}
use Rattle.catalog_core.specs.Dictionaries.{AreTexts, length_bytes, entry_of, entries_of, dictionary_head, LacksEntry}
use Rattle.catalog_core.proofs.TextLemmas.{rises-front}

-- lists with fronts of one length
pub same_split : (first second rest other : List ℕ) → length first ≡ length second → first ++ rest ≡ second ++ other → (first ≡ second) × (rest ≡ other)
same_split first second rest other lengths same = (
  sym (take_at first rest (length first) refl) ∙ ap (take (length first)) same ∙ take_at second other (length first) (sym lengths),
  sym (drop_at first rest (length first) refl) ∙ ap (drop (length first)) same ∙ drop_at second other (length first) (sym lengths),
)

-- The head.

pub length-dictionary_head : (count : ℕ) → length (dictionary_head count) ≡ 16
length-dictionary_head count = omega (arith, length-word_bytes count)

pub head_one : (count other : ℕ) (rest more : List ℕ) → count ≤ max_rows → other ≤ max_rows → dictionary_head count ++ rest ≡ dictionary_head other ++ more → (count ≡ other) × (rest ≡ more)
head_one count other rest more few fewer same =
    let (heads, rests) = same_split (dictionary_head count) (dictionary_head other) rest more (length-dictionary_head count ∙ sym (length-dictionary_head other)) same in
    let words : word_bytes count ≡ word_bytes other = ap (drop 8) heads in
    (sym (from_le_bytes-word_bytes count (omega (arith, few))) ∙ ap (from_le_bytes w64) words ∙ from_le_bytes-word_bytes other (omega (arith, fewer)), rests)

-- An entry.

pub length-length_bytes : (text : Text) → length (length_bytes text) ≡ 4
unfolding length_bytes
length-length_bytes text = refl

pub length_back : (text : Text) → length text ≤ max_text → from_le_bytes w32 (length_bytes text) ≡ length text
unfolding length_bytes
length_back text short = from_le_bytes-to_le_bytes_4 (length text) (omega (arith, short))

pub entry_one : (text other : Text) (rest more : List ℕ) → IsText text → IsText other → entry_of text ++ rest ≡ entry_of other ++ more → (text ≡ other) × (rest ≡ more)
entry_one text other rest more is be same =
    let flat : length_bytes text ++ (text ++ rest) ≡ length_bytes other ++ (other ++ more) =
    sym (append_assoc (length_bytes text) text rest) ∙ same ∙ append_assoc (length_bytes other) other more in
    let (lengths, bodies) = same_split (length_bytes text) (length_bytes other) (text ++ rest) (other ++ more) (length-length_bytes text ∙ sym (length-length_bytes other)) flat in
    let long : length text ≡ length other = sym (length_back text is.short) ∙ ap (from_le_bytes w32) lengths ∙ length_back other be.short in
    same_split text other rest more long bodies

-- Entries.

pub AreTexts-front : (texts more : List Text) → AreTexts (texts ++ more) → AreTexts texts
AreTexts-front texts more are = record {
  few = omega (arith, are.few, length-append texts more);
  lawful = front texts are.lawful;
  rising = rises-front texts more are.rising;
}
  where
    front : (texts : List Text) → AllByRecursion IsText (texts ++ more) → AllByRecursion IsText texts
    front [] all = tt
    front (text ∷ texts) (is, all) = (is, front texts all)

pub entries_of-cons : (text : Text) (texts : List Text) (rest : List ℕ) → entries_of (text ∷ texts) ++ rest ≡ entry_of text ++ (entries_of texts ++ rest)
entries_of-cons text texts rest = append_assoc (entry_of text) (entries_of texts) rest

pub entries_one : (texts others : List Text) (rest more : List ℕ) → AllByRecursion IsText texts → AllByRecursion IsText others → length texts ≡ length others
    → entries_of texts ++ rest ≡ entries_of others ++ more → (texts ≡ others) × (rest ≡ more)
entries_one [] [] rest more all each many same = (refl, same)
entries_one [] (other ∷ others) rest more all each many same = absurd (omega (arith, many))
entries_one (text ∷ texts) [] rest more all each many same = absurd (omega (arith, many))
entries_one (text ∷ texts) (other ∷ others) rest more (is, all) (be, each) many same =
    let (heads, tails) =
    entry_one text other (entries_of texts ++ rest) (entries_of others ++ more) is be (sym (entries_of-cons text texts rest) ∙ same ∙ entries_of-cons other others more) in
    let (later, rests) = entries_one texts others rest more all each (omega (arith, many)) tails in
    (cc, rests)

-- where bytes go on with more texts, one of them comes next
pub record Next (texts others : List Text) (rest : List ℕ) : Type 0 where
  pub text : Text
  pub later : List Text
  pub more : List ℕ
  pub others_are : others ≡ texts ++ text ∷ later
  pub rest_is : rest ≡ entry_of text ++ more

next : (texts others : List Text) (rest more : List ℕ) → AllByRecursion IsText texts → AllByRecursion IsText others → length texts < length others
    → entries_of texts ++ rest ≡ entries_of others ++ more → Next texts others rest
next [] [] rest more all each fewer same = absurd (omega (arith, fewer))
next [] (other ∷ others) rest more all each fewer same =
    record { text = other; later = others; more = entries_of others ++ more; others_are = refl; rest_is = same ∙ entries_of-cons other others more }
next (text ∷ texts) [] rest more all each fewer same = absurd (omega (arith, fewer))
next (text ∷ texts) (other ∷ others) rest more (is, all) (be, each) fewer same =
    let (heads, tails) =
    entry_one text other (entries_of texts ++ rest) (entries_of others ++ more) is be (sym (entries_of-cons text texts rest) ∙ same ∙ entries_of-cons other others more) in
    let then = next texts others rest more all each (omega (arith, fewer)) tails in
    let whole : other ∷ others ≡ text ∷ (texts ++ then.text ∷ then.later) = let tail = then.others_are in cc in
    record { text = then.text; later = then.later; more = then.more; others_are = whole; rest_is = then.rest_is }

-- bytes that go on with more texts lack no entry
pub lacks_none : (texts others : List Text) (rest more : List ℕ) → AreTexts texts → AreTexts others → length texts < length others
    → entries_of texts ++ rest ≡ entries_of others ++ more → LacksEntry texts rest → ⊥
lacks_none texts others rest more are be fewer same lacks =
    let then = next texts others rest more are.lawful be.lawful fewer same in
    let longer : AreTexts ((texts ++ then.text ∷ []) ++ then.later) = subst AreTexts (then.others_are ∙ sym (append_assoc texts (then.text ∷ []) then.later)) be in
    lacks then.text then.more (AreTexts-front (texts ++ then.text ∷ []) then.later longer) then.rest_is
