-- The laws of dictionary files: each is the file of one dictionary, bytes have one first fault at most, and texts one dictionary.
use Rattle.std.proofs.Common.{◌≡◌, ◌∙◌, ◌<◌, ℕ, List, [], ◌++◌, refl, sym, ap, inl, inr, length, arith}
use Rattle.std.proofs.lemmas.Bool.{cases_order}
use Rattle.std.proofs.lemmas.List.{append-nil}
use Rattle.catalog_core.specs.declared.errors.DictError.TheVariants as error
use Rattle.catalog_core.specs.Texts.{Text}
use Rattle.catalog_core.specs.Dictionaries.{entries_of, dictionary_head, IsDictionaryFile, GoodStart, LacksEntry, OneDictionary, OneDictionaryFault, NoDictionaryFault, OneDistinct}
use Rattle.catalog_core.proofs.TextLemmas.{same_rising}
use Rattle.catalog_core.proofs.DictionaryFileLemmas.{head_one, entries_one, lacks_none}

-- a file opens with all of its texts, and nothing follows
abbrev pub opening_of : (texts : List Text) (bytes : List ℕ) → IsDictionaryFile texts bytes → GoodStart bytes
opening_of texts bytes is = record {
  count = length texts;
  few = is.lawful.few;
  texts = texts;
  good = is.lawful;
  rest = [];
  bytes_are = is.bytes_are ∙ ap (λ entries. dictionary_head (length texts) ++ entries) (sym (append-nil (entries_of texts)));
}

-- two openings tell of one count, and go on from one place
pub same_openings : (bytes : List ℕ) (opening other : GoodStart bytes) → (opening.count ≡ other.count) × (entries_of opening.texts ++ opening.rest ≡ entries_of other.texts ++ other.rest)
same_openings bytes opening other =
    head_one opening.count other.count (entries_of opening.texts ++ opening.rest) (entries_of other.texts ++ other.rest) opening.few other.few (sym opening.bytes_are ∙ other.bytes_are)

-- no other opening has more texts than one after which an entry lacks
stops : (bytes : List ℕ) (opening other : GoodStart bytes) → LacksEntry opening.texts opening.rest → length opening.texts < length other.texts → ⊥
stops bytes opening other lacks fewer =
    lacks_none opening.texts other.texts opening.rest other.rest opening.good other.good fewer (same_openings bytes opening other).1 lacks

pub one_dictionary : OneDictionary
one_dictionary texts others bytes is be =
    let first = opening_of texts bytes is in
    let second = opening_of others bytes be in
    let (many, same) = same_openings bytes first second in
    (entries_one texts others [] [] is.lawful.lawful be.lawful.lawful many same).0

pub one_fault : OneDictionaryFault
one_fault bytes error.BadHeader error.BadHeader is be = refl
one_fault bytes error.BadHeader (error.BadEntry other) is be = absurd (is be.0)
one_fault bytes error.BadHeader error.Trailing is be = absurd (is be.0)
one_fault bytes error.BadHeader error.Memory is be = absurd be
one_fault bytes (error.BadEntry entry) error.BadHeader is be = absurd (be is.0)
one_fault bytes (error.BadEntry entry) (error.BadEntry other) (opening, at, within, lacks) (second, at', within', lacks') =
    elim (cases_order (length opening.texts) (length second.texts)) [
      | inl same ↦ ap (λ n. error.BadEntry n) (sym at ∙ same ∙ at')
      | inr apart ↦ elim apart [
        | inl fewer ↦ absurd (stops bytes opening second lacks fewer)
        | inr more ↦ absurd (stops bytes second opening lacks' more)
      ]
    ]
one_fault bytes (error.BadEntry entry) error.Trailing (opening, at, within, lacks) (second, whole, rest) =
    absurd (stops bytes opening second lacks (omega (arith, at, within, whole, (same_openings bytes opening second).0)))
one_fault bytes (error.BadEntry entry) error.Memory is be = absurd be
one_fault bytes error.Trailing error.BadHeader is be = absurd (be is.0)
one_fault bytes error.Trailing (error.BadEntry other) (second, whole, rest) (opening, at, within, lacks) =
    absurd (stops bytes opening second lacks (omega (arith, at, within, whole, (same_openings bytes opening second).0)))
one_fault bytes error.Trailing error.Trailing is be = refl
one_fault bytes error.Trailing error.Memory is be = absurd be
one_fault bytes error.Memory other is be = absurd is

pub no_fault : NoDictionaryFault
no_fault texts bytes error.BadHeader is fault = fault (opening_of texts bytes is)
no_fault texts bytes (error.BadEntry entry) is (opening, at, within, lacks) =
    let whole = opening_of texts bytes is in
    stops bytes opening whole lacks (omega (arith, at, within, (same_openings bytes opening whole).0))
no_fault texts bytes error.Trailing is (opening, whole, rest) =
    let file = opening_of texts bytes is in
    let (many, same) = same_openings bytes opening file in
    rest (entries_one opening.texts texts opening.rest [] opening.good.lawful is.lawful.lawful (whole ∙ many) same).1
no_fault texts bytes error.Memory is fault = fault

pub one_distinct : OneDistinct
one_distinct texts dictionary other are be =
    same_rising dictionary other are.lawful.rising be.lawful.rising (λ text has. (be.same text).1 ((are.same text).0 has)) (λ text has. (are.same text).1 ((be.same text).0 has))
