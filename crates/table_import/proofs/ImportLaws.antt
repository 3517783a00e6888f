-- Rows have one list of columns at most.
use Rattle.std.proofs.Common.{◌≡◌, ◌∙◌, ℕ, suc, true, List, [], ◌∷◌, length, map, Some, refl, sym, ap, ap₂, arith}
use Rattle.std.specs.Prelude.{slice_get}
use Rattle.std.proofs.lemmas.Option.{same_Some, slice_get_within}
use Rattle.catalog_core.specs.Texts.{Text}
use Rattle.catalog_core.specs.Dictionaries.{rises}
use Rattle.catalog_core.proofs.DictionaryLaws.{one_distinct}
use Rattle.catalog_core.proofs.DictionarySearchLemmas.{code_at}
use Rattle.catalog_core.specs.declared.schemas.Kind.{Kind}
use Rattle.catalog_core.specs.declared.schemas.Kind.TheVariants as kind
use Rattle.table_import.specs.Imports.{Value, number, text, number_in}
use Rattle.table_import.specs.TableData.{values_at, HoldsValues, OneImport}
use Rattle.table_import.specs.declared.tables.ColumnValues.{ColumnValues}
use Rattle.table_import.proofs.TableLemmas.{numbers_back, some_of}

same_from_places : {A : Type 0} (items others : List A) → length items ≡ length others
    → ((place : ℕ) (item other : A) → slice_get items place ≡ Some item → slice_get others place ≡ Some other → item ≡ other) → items ≡ others
same_from_places [] [] count same = refl
same_from_places [] (other ∷ others) count same = absurd (omega (arith, count))
same_from_places (item ∷ items) [] count same = absurd (omega (arith, count))
same_from_places (item ∷ items) (other ∷ others) count same =
    ap₂ (λ x xs. x ∷ xs) (same 0 item other refl refl) (same_from_places items others (omega (arith, count)) (λ place. same (suc place)))

text_in : Value → Text
text_in (number value) = []
text_in (text one) = one

texts_back : (texts : List Text) → map text_in (map (λ one. text one) texts) ≡ texts
unfolding text_in
texts_back [] = refl
texts_back (one ∷ texts) = ap (λ more. one ∷ more) (texts_back texts)

one_text : (texts others : List Text) → map (λ one. text one) texts ≡ map (λ one. text one) others → texts ≡ others
one_text texts others same = sym (texts_back texts) ∙ ap (map text_in) same ∙ texts_back others

one_code : (dictionary : List Text) (one : Text) (code other : ℕ) → rises dictionary ≡ true → slice_get dictionary code ≡ Some one → slice_get dictionary other ≡ Some one → code ≡ other
one_code dictionary one code other rising is also =
    same_Some code other (sym (code_at dictionary code one rising is) ∙ code_at dictionary other one rising also)

-- texts have one list of codes at most
one_codes : (dictionary texts : List Text) (values others : List ℕ) → rises dictionary ≡ true → map (slice_get dictionary) values ≡ map (λ one. Some one) texts
    → map (slice_get dictionary) others ≡ map (λ one. Some one) texts → values ≡ others
one_codes dictionary [] [] [] rising codes also = refl
one_codes dictionary [] [] (other ∷ others) rising codes also = absurd (cc also)
one_codes dictionary [] (value ∷ values) others rising codes also = absurd (cc codes)
one_codes dictionary (one ∷ texts) [] others rising codes also = absurd (cc codes)
one_codes dictionary (one ∷ texts) (value ∷ values) [] rising codes also = absurd (cc also)
one_codes dictionary (one ∷ texts) (value ∷ values) (other ∷ others) rising codes also =
    let here : slice_get dictionary value ≡ Some one = cc codes in
    let there : slice_get dictionary other ≡ Some one = cc also in
    let rest : map (slice_get dictionary) values ≡ map (λ one. Some one) texts = cc codes in
    let more : map (slice_get dictionary) others ≡ map (λ one. Some one) texts = cc also in
    ap₂ (λ x xs. x ∷ xs) (one_code dictionary one value other rising here there) (one_codes dictionary texts values others rising rest more)

same_column : (column other : ColumnValues) → column.values ≡ other.values → column.dictionary ≡ other.dictionary → column ≡ other
same_column column other values dictionary = ap₂ (λ v d. record { values = v; dictionary = d }) values dictionary

one_column : (one : Kind) (values : List Value) (column other : ColumnValues) → HoldsValues one values column → HoldsValues one values other → column ≡ other
one_column kind.Number values column other (same, none) (also, nothing) =
    same_column column other (sym (numbers_back column.values) ∙ ap (map number_in) (same ∙ sym also) ∙ numbers_back other.values) (none ∙ sym nothing)
one_column kind.Text values column other (texts, dictionary, are, there, distinct, codes) (others, second, be, too, differ, more) =
    let same : texts ≡ others = one_text texts others (sym are ∙ be) in
    let alike : dictionary ≡ second = one_distinct texts dictionary second distinct (rw same differ) in
    same_column column other (one_codes dictionary texts column.values other.values distinct.lawful.rising codes (rw (same, alike) more))
    (there ∙ ap (λ d. Some d) alike ∙ sym too)

pub one_import : OneImport
one_import table rows columns others hold also = same_from_places columns others (hold.count ∙ sym also.count) (λ place column other is be.
    let (definition, defined) = some_of table.columns place (omega (arith, slice_get_within columns place column is, hold.count)) in
    one_column definition.kind (values_at place rows) column other (hold.values place definition column defined is) (also.values place definition other defined be))
