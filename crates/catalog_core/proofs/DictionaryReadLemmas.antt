-- What bytes show of their head and of an entry, and entries one after the other.
use Rattle.std.proofs.Common.{◌≡◌, ◌≢◌, ◌∙◌, ◌<◌, ◌≤◌, ◌+◌, ◌*◌, ℕ, true, List, [], ◌∷◌, ◌++◌, Option, Some, None, refl, sym, ap, subst, length, take, drop, IsUtf8, arith, length-append}
use Rattle.std.specs.Int.{from_le_bytes, w32, w64}
use Rattle.std.specs.List.{AllByRecursion}
use Rattle.std.proofs.lemmas.List.{append_assoc, append-nil, take_at, drop_at, drop-drop, drop_all, take-append-drop, length-take-le, length-drop}
use Rattle.std.proofs.lemmas.List.Concat.{flat_map-append}
use Rattle.std.proofs.lemmas.Nat.{le_bytes_4}
use Rattle.definitions_blocks.specs.Columns.{max_rows}
use Rattle.definitions_blocks.specs.Words.{AreOctets}
use Rattle.definitions_blocks.proofs.WordLaws.{from_le_bytes-word_bytes, AreOctets-take}
use Rattle.catalog_core.specs.declared.errors.DictError.TheVariants as error
use Rattle.catalog_core.specs.Texts.{Text, IsText, max_text}
use Rattle.catalog_core.specs.Indexed.{starts_from, text_at, texts_at, IsIndexed}
use Rattle.catalog_core.specs.Dictionaries.{AreTexts, length_bytes, entry_of, entries_of, dictionary_head, dictionary_file, HasDictionaryFault}
use Rattle.catalog_core.specs.DictionaryReading.{BeginsWithCount, LacksCount, may_follow, BeginsWithEntry, LacksText, LacksNext, ReadSo, room_for}
use Rattle.catalog_core.proofs.TextLemmas.{rises-push, follows_of_rises, last_of-push}
use Rattle.catalog_core.proofs.DictionaryFileLemmas.{length-dictionary_head, length-length_bytes, length_back, entries_of-cons}

-- The head.

-- what bytes that begin with a head show
pub record ShowsCount (count : ℕ) (bytes : List ℕ) : Type 0 where
  pub taken : take 16 bytes ≡ dictionary_head count
  pub said : from_le_bytes w64 (drop 8 (take 16 bytes)) ≡ count
  pub long : 16 ≤ length bytes

pub shows_count : (count : ℕ) (bytes rest : List ℕ) → count ≤ max_rows → bytes ≡ dictionary_head count ++ rest → ShowsCount count bytes
shows_count count bytes rest few is =
    let taken : take 16 bytes ≡ dictionary_head count = ap (take 16) is ∙ take_at (dictionary_head count) rest 16 (length-dictionary_head count) in
    record {
      taken = taken;
      said = ap (λ head. from_le_bytes w64 (drop 8 head)) taken ∙ from_le_bytes-word_bytes count (omega (arith, few));
      long = omega (arith, ap length is, length-append (dictionary_head count) rest, length-dictionary_head count);
    }

pub too_short : (bytes : List ℕ) → length bytes < 16 → LacksCount bytes
too_short bytes short count rest few is = omega (arith, short, (shows_count count bytes rest few is).long)

-- the bytes are not the head of the count that they say
pub no_head : (bytes : List ℕ) (said : ℕ) → said ≡ from_le_bytes w64 (drop 8 (take 16 bytes)) → (said ≤ max_rows → take 16 bytes ≡ dictionary_head said → ⊥) → LacksCount bytes
no_head bytes said is not_so count rest few begins =
    let shows = shows_count count bytes rest few begins in
    let same : said ≡ count = is ∙ shows.said in
    not_so (subst (λ n. n ≤ max_rows) (sym same) few) (shows.taken ∙ ap dictionary_head (sym same))

pub begins_with_count : (bytes : List ℕ) (count : ℕ) → 16 ≤ length bytes → count ≤ max_rows → take 16 bytes ≡ dictionary_head count → BeginsWithCount count bytes
begins_with_count bytes count long few is = record { few = few; within = long; bytes_are = sym (take-append-drop 16 bytes) ∙ ap (λ head. head ++ drop 16 bytes) is }

-- An entry.

pub record ShowsText (text : Text) (bytes : List ℕ) : Type 0 where
  pub said : from_le_bytes w32 (take 4 bytes) ≡ length text
  pub within : 4 + length text ≤ length bytes
  pub body : take (length text) (drop 4 bytes) ≡ text

pub shows_text : (text : Text) (bytes more : List ℕ) → IsText text → bytes ≡ entry_of text ++ more → ShowsText text bytes
shows_text text bytes more lawful is =
    let flat : bytes ≡ length_bytes text ++ (text ++ more) = is ∙ append_assoc (length_bytes text) text more in
    record {
      said = ap (λ l. from_le_bytes w32 (take 4 l)) flat ∙ ap (from_le_bytes w32) (take_at (length_bytes text) (text ++ more) 4 (length-length_bytes text)) ∙ length_back text lawful.short;
      within = omega (arith, ap length flat, length-append (length_bytes text) (text ++ more), length-append text more, length-length_bytes text);
      body = ap (λ l. take (length text) (drop 4 l)) flat ∙ ap (take (length text)) (drop_at (length_bytes text) (text ++ more) 4 (length-length_bytes text)) ∙ take_at text more (length text) refl;
    }

-- what four bytes say is no text's length, or the bytes end before it does, or they are no text
pub no_text : (bytes : List ℕ) (said : ℕ) → said ≡ from_le_bytes w32 (take 4 bytes) → ((text : Text) → IsText text → length text ≡ said → 4 + said ≤ length bytes → take said (drop 4 bytes) ≡ text → ⊥) → LacksText bytes
no_text bytes said is not_so text more lawful begins =
    let shows = shows_text text bytes more lawful begins in
    let same : length text ≡ said = sym shows.said ∙ sym is in
    not_so text lawful same (omega (arith, shows.within, same)) (ap (λ n. take n (drop 4 bytes)) (sym same) ∙ shows.body)

pub cut_short : (bytes : List ℕ) → length bytes < 4 → LacksText bytes
cut_short bytes short text more lawful begins = omega (arith, short, (shows_text text bytes more lawful begins).within)

length_bytes_of : (text : Text) (bytes : List ℕ) → length bytes ≡ 4 → AreOctets bytes → length text ≡ from_le_bytes w32 bytes → length_bytes text ≡ bytes
unfolding length_bytes
length_bytes_of text bytes four octets said = le_bytes_4 bytes (length text) four octets said

pub begins_with_entry : (bytes : List ℕ) (said : ℕ) (text : Text) → AreOctets bytes → said ≡ from_le_bytes w32 (take 4 bytes) → said ≤ max_text → 4 + said ≤ length bytes → text ≡ take said (drop 4 bytes) → IsUtf8 text → BeginsWithEntry text bytes
begins_with_entry bytes said text octets is short within body utf8 =
    let long : length text ≡ said = ap length body ∙ length-take-le said (drop 4 bytes) (omega (arith, within, length-drop 4 bytes)) in
    let four : length (take 4 bytes) ≡ 4 = length-take-le 4 bytes (omega (arith, within)) in
    let first : length_bytes text ≡ take 4 bytes = length_bytes_of text (take 4 bytes) four (AreOctets-take 4 bytes octets) (long ∙ is) in
    let rest : drop 4 bytes ≡ text ++ drop (4 + length text) bytes =
    sym (take-append-drop said (drop 4 bytes)) ∙ ap (λ l. l ++ drop said (drop 4 bytes)) (sym body) ∙ ap (λ l. text ++ l) (drop-drop said 4 bytes ∙ ap (λ n. drop (4 + n) bytes) (sym long)) in
    record {
      lawful = record { short = subst (λ n. n ≤ max_text) (sym long) short; utf8 = utf8 };
      within = omega (arith, within, long);
      bytes_are = sym (take-append-drop 4 bytes) ∙ ap (λ l. take 4 bytes ++ l) rest ∙ ap (λ l. l ++ (text ++ drop (4 + length text) bytes)) (sym first)
          ∙ sym (append_assoc (length_bytes text) text (drop (4 + length text) bytes));
    }

-- Entries one after the other.

pub starts_from-push : (at : ℕ) (texts : List Text) (text : Text) → starts_from at (texts ++ text ∷ []) ≡ starts_from at texts ++ (at + length (entries_of texts)) ∷ []
starts_from-push at [] text = ap (λ n. n ∷ []) (omega arith)
starts_from-push at (first ∷ texts) text =
    let place : at + 4 + length first + length (entries_of texts) ≡ at + length (entries_of (first ∷ texts)) =
    omega (arith, length-append (entry_of first) (entries_of texts), length-append (length_bytes first) first, length-length_bytes first) in
    ap (λ l. at ∷ l) (starts_from-push (at + 4 + length first) texts text ∙ ap (λ n. starts_from (at + 4 + length first) texts ++ n ∷ []) place)

pub entries_of-push : (texts : List Text) (text : Text) → entries_of (texts ++ text ∷ []) ≡ entries_of texts ++ entry_of text
entries_of-push texts text = flat_map-append entry_of texts (text ∷ []) ∙ ap (λ l. entries_of texts ++ l) (append-nil (entry_of text))

lawful-push : (texts : List Text) (text : Text) → AllByRecursion IsText texts → IsText text → AllByRecursion IsText (texts ++ text ∷ [])
lawful-push [] text all is = (is, tt)
lawful-push (first ∷ texts) text (here, all) is = (here, lawful-push texts text all is)

-- the text at each start is the entry's
pub texts_at-starts : (texts : List Text) (bytes front rest : List ℕ) (at : ℕ) → AllByRecursion IsText texts → length front ≡ at → bytes ≡ front ++ (entries_of texts ++ rest) → texts_at bytes (starts_from at texts) ≡ texts
texts_at-starts [] bytes front rest at all long is = refl
texts_at-starts (text ∷ texts) bytes front rest at (lawful, all) long is =
    let flat : bytes ≡ front ++ (entry_of text ++ (entries_of texts ++ rest)) = is ∙ ap (λ l. front ++ l) (entries_of-cons text texts rest) in
    let here : drop at bytes ≡ entry_of text ++ (entries_of texts ++ rest) = ap (drop at) flat ∙ drop_at front (entry_of text ++ (entries_of texts ++ rest)) at long in
    let shows = shows_text text (drop at bytes) (entries_of texts ++ rest) lawful here in
    let first : text_at bytes at ≡ text = ap (λ n. take n (drop (at + 4) bytes)) shows.said ∙ ap (take (length text)) (sym (drop-drop 4 at bytes)) ∙ shows.body in
    let later = texts_at-starts texts bytes (front ++ entry_of text) rest (at + 4 + length text) all
    (omega (arith, length-append front (entry_of text), length-append (length_bytes text) text, length-length_bytes text, long)) (flat ∙ sym (append_assoc front (entry_of text) (entries_of texts ++ rest))) in
    cc

pub read_none : (count : ℕ) (bytes : List ℕ) → BeginsWithCount count bytes → ReadSo bytes 0 16 [] None
read_none count bytes begins = record {
  texts = [];
  good = record { few = omega arith; lawful = tt; rising = refl };
  many = refl;
  place_is = refl;
  within = begins.within;
  entries_are = refl;
  starts_are = refl;
  last_is = refl;
}

-- An entry has at least the four bytes of its length.
entries_long : (texts : List Text) → 4 * length texts ≤ length (entries_of texts)
entries_long [] = omega arith
entries_long (text ∷ texts) = omega (arith, entries_long texts, length-append (entry_of text) (entries_of texts), length-append (length_bytes text) text, length-length_bytes text)

-- one more has room
pub has_room : (count number place : ℕ) (bytes starts : List ℕ) (last : Option Text) (text : Text) → number < count → ReadSo bytes number place starts last → BeginsWithEntry text (drop place bytes) → number < room_for bytes count
has_room count number place bytes starts last text below so begins =
    omega (arith, below, entries_long so.texts, so.many, so.place_is, so.within, begins.within, length-drop place bytes)

pub read_more : (count number place : ℕ) (bytes starts : List ℕ) (last : Option Text) (text : Text) → count ≤ max_rows → number < count → ReadSo bytes number place starts last → BeginsWithEntry text (drop place bytes)
    → may_follow last text ≡ true → ReadSo bytes (number + 1) (place + (4 + length text)) (starts ++ place ∷ []) (Some text)
read_more count number place bytes starts last text few below so begins follows =
    let texts = so.texts in
    let end = place + (4 + length text) in
    let entry : length (entry_of text) ≡ 4 + length text = omega (arith, length-append (length_bytes text) text, length-length_bytes text) in
    let long : length (entries_of (texts ++ text ∷ [])) ≡ length (entries_of texts) + (4 + length text) = ap length (entries_of-push texts text) ∙ omega (arith, length-append (entries_of texts) (entry_of text), entry) in
    let rest : drop place bytes ≡ entry_of text ++ drop end bytes = begins.bytes_are ∙ ap (λ l. entry_of text ++ l) (drop-drop (4 + length text) place bytes) in
    record {
      texts = texts ++ text ∷ [];
      good = record {
        few = omega (arith, few, below, so.many, length-append texts (text ∷ []));
        lawful = lawful-push texts text so.good.lawful begins.lawful;
        rising = rises-push texts text so.good.rising (subst (λ one. may_follow one text ≡ true) so.last_is follows);
      };
      many = omega (arith, so.many, length-append texts (text ∷ []));
      place_is = omega (arith, so.place_is, long);
      within = omega (arith, begins.within, so.within, length-drop place bytes);
      entries_are = so.entries_are ∙ ap (λ l. entries_of texts ++ l) rest ∙ sym (append_assoc (entries_of texts) (entry_of text) (drop end bytes)) ∙ ap (λ l. l ++ drop end bytes) (sym (entries_of-push texts text));
      starts_are = ap (λ l. l ++ place ∷ []) so.starts_are ∙ ap (λ n. starts_from 16 texts ++ n ∷ []) so.place_is ∙ sym (starts_from-push 16 texts text);
      last_is = sym (last_of-push texts text);
    }

all_of_last : (texts : List Text) (text : Text) → AllByRecursion IsText (texts ++ text ∷ []) → IsText text
all_of_last [] text (is, all) = is
all_of_last (first ∷ texts) text (is, all) = all_of_last texts text all

whole : (count number place : ℕ) (bytes starts : List ℕ) (last : Option Text) → BeginsWithCount count bytes → (so : ReadSo bytes number place starts last) → bytes ≡ dictionary_head count ++ (entries_of so.texts ++ drop place bytes)
whole count number place bytes starts last begins so = begins.bytes_are ∙ ap (λ l. dictionary_head count ++ l) so.entries_are

pub bad_entry : (count number place : ℕ) (bytes starts : List ℕ) (last : Option Text) → BeginsWithCount count bytes → ReadSo bytes number place starts last → number < count → LacksNext last (drop place bytes)
    → HasDictionaryFault bytes (error.BadEntry number)
bad_entry count number place bytes starts last begins so below lacks = (
  record { count = count; few = begins.few; texts = so.texts; good = so.good; rest = drop place bytes; bytes_are = whole count number place bytes starts last begins so },
  so.many,
  below,
  λ text more longer is. lacks text more (all_of_last so.texts text longer.lawful) (subst (λ one. may_follow one text ≡ true) (sym so.last_is) (follows_of_rises so.texts text longer.rising)) is,
)

pub trailing : (count place : ℕ) (bytes starts : List ℕ) (last : Option Text) → BeginsWithCount count bytes → ReadSo bytes count place starts last → place ≢ length bytes → HasDictionaryFault bytes error.Trailing
trailing count place bytes starts last begins so more = (
  record { count = count; few = begins.few; texts = so.texts; good = so.good; rest = drop place bytes; bytes_are = whole count count place bytes starts last begins so },
  so.many,
  λ none. more (omega (arith, so.within, ap length none, length-drop place bytes)),
)

pub indexed : (count place : ℕ) (bytes starts : List ℕ) (last : Option Text) → BeginsWithCount count bytes → ReadSo bytes count place starts last → place ≡ length bytes → IsIndexed bytes starts
indexed count place bytes starts last begins so end =
    let all = whole count count place bytes starts last begins so in
    let texts : texts_at bytes starts ≡ so.texts = ap (texts_at bytes) so.starts_are ∙ texts_at-starts so.texts bytes (dictionary_head count) (drop place bytes) 16 so.good.lawful (length-dictionary_head count) all in
    let none : drop place bytes ≡ [] = drop_all place bytes (omega (arith, end)) in
    let file : bytes ≡ dictionary_file so.texts =
    all ∙ ap (λ l. dictionary_head count ++ (entries_of so.texts ++ l)) none ∙ ap (λ l. dictionary_head count ++ l) (append-nil (entries_of so.texts)) ∙ ap (λ n. dictionary_head n ++ entries_of so.texts) (sym so.many) in
    record {
      file = record { lawful = subst AreTexts (sym texts) so.good; bytes_are = file ∙ ap dictionary_file (sym texts) };
      starts_are = so.starts_are ∙ ap (starts_from 16) (sym texts);
    }

-- the text that was read before
pub text_is : (text : Text) (bytes : List ℕ) (said : ℕ) → BeginsWithEntry text bytes → said ≡ from_le_bytes w32 (take 4 bytes) → take said (drop 4 bytes) ≡ text
text_is text bytes said begins is =
    let shows = shows_text text bytes (drop (4 + length text) bytes) begins.lawful begins.bytes_are in
    ap (λ n. take n (drop 4 bytes)) (is ∙ shows.said) ∙ shows.body

pub said_within : (text : Text) (bytes : List ℕ) (said : ℕ) → BeginsWithEntry text bytes → said ≡ from_le_bytes w32 (take 4 bytes) → 4 + said ≤ length bytes
said_within text bytes said begins is =
    omega (arith, begins.within, is, (shows_text text bytes (drop (4 + length text) bytes) begins.lawful begins.bytes_are).said)
