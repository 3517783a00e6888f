-- The records that are left, one after the other.
use Rattle.std.proofs.Common.{◌≡◌, ◌<◌, ◌≤◌, ◌+◌, ℕ, zero, suc, Bool, true, false, List, [], ◌∷◌, length, Option, Some, None, refl, ap, ap₂, sym, ◌∙◌, arith, add-one, inl, inr}
use Rattle.std.specs.Prelude.{slice_get, Result, Ok, Err, IfOk}
use Rattle.std.proofs.lemmas.Bool.{cases_Bool, true≢false}
use Rattle.std.proofs.lemmas.Option.{same_Some}
use Rattle.csv.specs.Machine.{Read, next_record, ends_at_end, is_end, step, fields_after, field_after}
use Rattle.csv.specs.Reading.{records_from, records_next, Reached, ReadRecord, source_of}
use Rattle.csv.specs.Records.{field_at}
use Rattle.csv.specs.declared.parser.Config.{Config}
use Rattle.csv.specs.declared.parser.State.{State}
use Rattle.csv.specs.declared.parser.State.TheVariants.{StartRecord}
use Rattle.csv.specs.declared.reader.Reader.{Reader}
use Rattle.csv.proofs.ReadFacts.{rows-more, rows-end}
use Rattle.table_import.specs.Records.{Record, records_left, without_header}
use Rattle.table_import.specs.Reads.{TextReader, Gives, GaveNext, GivesRows}
use Rattle.catalog_core.specs.Texts.{Text}

-- a record leaves fewer bytes
fewer : (config : Config) (state : State) (fields : List Text) (field : Text) (byte : ℕ) (rest : Text) (read : Read)
    → next_record config state fields field (byte ∷ rest) ≡ Some read → length read.2 ≤ length rest
unfolding next_record
fewer config state fields field byte [] read e =
    elim (cases_Bool (is_end (step config state byte).1)) [
      | inl ends ↦ let h = rw ends at e in omega (arith, ap (λ (r : Read). length r.2) (same_Some _ _ h))
      | inr goes ↦ elim (cases_Bool (ends_at_end (step config state byte).0)) [
        | inl last ↦ let h = rw (goes, last) at e in omega (arith, ap (λ (r : Read). length r.2) (same_Some _ _ h))
        | inr none ↦ let h = rw (goes, none) at e in absurd (cc h)
      ]
    ]
fewer config state fields field byte (next ∷ rest) read e =
    elim (cases_Bool (is_end (step config state byte).1)) [
      | inl ends ↦ let h = rw ends at e in omega (arith, ap (λ (r : Read). length r.2) (same_Some _ _ h))
      | inr goes ↦ let h = rw goes at e in omega (arith, fewer config (step config state byte).0 (fields_after (step config state byte).1 fields field) (field_after (step config state byte).1 byte field) next rest read h)
    ]

-- at the end of the text a record is the last
last : (config : Config) (state : State) (read : Read) → next_record config state [] [] [] ≡ Some read → (StartRecord ≡ read.1) × ([] ≡ read.2)
unfolding next_record
last config state read e =
    elim (cases_Bool (ends_at_end state)) [
      | inl ends ↦ let h = rw ends at e in (ap (λ (r : Read). r.1) (same_Some _ _ h), ap (λ (r : Read). r.2) (same_Some _ _ h))
      | inr none ↦ let h = rw none at e in absurd (cc h)
    ]

ended : (config : Config) (n : ℕ) → records_from config n StartRecord [] ≡ []
unfolding records_from next_record
ended config zero = refl
ended config (suc n) = refl

Enough : Config → ℕ → ℕ → Type 0
Enough config n m = (state : State) (left : Text) → length left < n → length left < m → records_from config n state left ≡ records_from config m state left

enough_next : (config : Config) (n m : ℕ) → Enough config n m → (state : State) (left : Text) → length left < suc n → length left < suc m
    → (o : Option Read) → next_record config state [] [] left ≡ o → records_next (records_from config n) o ≡ records_next (records_from config m) o
unfolding Enough
enough_next config n m more state left a b None e = refl
enough_next config n m more state [] a b (Some read) e =
    let (starts, none) = last config state read e in
    ap (λ t. read.0 ∷ t) (rw (← starts, ← none) (ended config n ∙ sym (ended config m)))
enough_next config n m more state (byte ∷ rest) a b (Some read) e =
    let few = fewer config state [] [] byte rest read e in
    ap (λ t. read.0 ∷ t) (more read.1 read.2 (omega (arith, few, a)) (omega (arith, few, b)))

enough : (config : Config) (n m : ℕ) → Enough config n m
unfolding Enough records_from
enough config zero m state left a b = absurd (omega (arith, a))
enough config (suc n) zero state left a b = absurd (omega (arith, b))
enough config (suc n) (suc m) state left a b = enough_next config n m (enough config n m) state left a b _ refl

-- the next record, and those that are left after it
pub records_left-more : (config : Config) (state : State) (left : Text) (read : Read) → next_record config state [] [] left ≡ Some read
    → records_left config state left ≡ read.0 ∷ records_left config read.1 read.2
unfolding records_from Enough
records_left-more config state [] read e =
    let (starts, none) = last config state read e in
    rw (e, ← starts, ← none) (ap (λ t. read.0 ∷ t) (sym (ended config 1)))
records_left-more config state (byte ∷ rest) read e =
    let few = fewer config state [] [] byte rest read e in
    rw (add-one, e) (ap (λ t. read.0 ∷ t) (enough config (length (byte ∷ rest)) (length read.2 + 1) read.1 read.2 (omega (arith, few)) (omega arith)))

pub records_left-end : (config : Config) (state : State) (left : Text) → next_record config state [] [] left ≡ None → records_left config state left ≡ []
unfolding records_from
records_left-end config state left e = rw (add-one, e)

-- what a read that found a record did to the records that are left
pub read_more : {R : Type 0} (rem : R → Option Text) (a b : Reader R) (fields : List Text) (config : Config) (left : Text)
    → a.config ≡ config → source_of rem a ≡ Some left → ReadRecord rem a b true fields
    → (more : Text) × (source_of rem b ≡ Some more) × (records_left config a.state left ≡ fields ∷ records_left config b.state more)
unfolding Reached
read_more rem a b fields config left same source read =
    let (more, then_left, reached) = rows-more rem a b fields config a.state left left [] same source (refl, refl) read in
    let (next, is_next, its_fields, ends) = reached in (
      more,
      then_left,
      records_left-more config a.state left next is_next
          ∙ ap (λ (f : List Text). f ∷ records_left config next.1 next.2) (sym its_fields)
          ∙ ap₂ (λ (s : State) (m : Text). fields ∷ records_left config s m) ends.0 ends.1,
    )

pub read_none : {R : Type 0} (rem : R → Option Text) (a b : Reader R) (fields : List Text) (config : Config) (left : Text)
    → a.config ≡ config → source_of rem a ≡ Some left → ReadRecord rem a b false fields → records_left config a.state left ≡ []
read_none rem a b fields config left same source read =
    records_left-end config a.state left (rows-end rem a b fields config left same source read)

-- a read that found nothing, and one that found a record
pub none_left : (separator : ℕ) (records : List Record) (found : Bool) (fields : Record) (reader : TextReader)
    → GaveNext separator records found fields reader → found ≡ false → records ≡ []
none_left separator [] found fields reader next none = refl
none_left separator (first ∷ rest) found fields reader next none = absurd (true≢false (sym next.0 ∙ none))

pub one_left : (separator : ℕ) (records : List Record) (found : Bool) (fields : Record) (reader : TextReader)
    → GaveNext separator records found fields reader → found ≡ true → (rest : List Record) × (records ≡ fields ∷ rest) × Gives separator reader rest
one_left separator [] found fields reader next one = absurd (true≢false (sym one ∙ next))
one_left separator (first ∷ rest) found fields reader next one = (rest, ap (λ f. f ∷ rest) (sym next.1), next.2)

-- the field at a place
pub field_is_get : (fields : Record) (place : ℕ) → field_at fields place ≡ slice_get fields place
unfolding field_at
field_is_get [] place = refl
field_is_get (field ∷ fields) zero = refl
field_is_get (field ∷ fields) (suc place) = field_is_get fields place

-- a read of the first record passes over a header
pub header_passed : (separator : ℕ) (records : List Record) (found : Bool) (fields : Record) (reader : TextReader)
    → GaveNext separator records found fields reader → GivesRows separator (without_header true records) found reader
header_passed separator [] true fields reader next = absurd (true≢false next)
header_passed separator [] false fields reader next = refl
header_passed separator (first ∷ rest) true fields reader next = next.2
header_passed separator (first ∷ rest) false fields reader next = absurd (true≢false (sym next.0))

-- what holds of a good end, said of more
pub handed_over : {A E : Type 0} {P Q : A → Type 0} (r : Result A E) → ((a : A) → P a → Q a) → IfOk r P → IfOk r Q
handed_over (Ok value) more holds = more value holds
handed_over (Err error) more holds = holds
