-- One more field, and the end of a record.
use Rattle.std.proofs.Common.{◌≡◌, ◌≢◌, ◌∙◌, ◌<◌, ◌+◌, ◌-◌, ◌^◌, ℕ, List, [], ◌∷◌, ◌++◌, Bool, true, false, Some, refl, sym, ap, ap₂, subst, length, min, arith}
use Rattle.std.specs.Prelude.{◌==◌, ◌||◌, ◌&&◌, not, if◌then◌else◌}
use Rattle.std.proofs.lemmas.List.{append_assoc, append-nil, length-append}
use Rattle.std.proofs.lemmas.Bool.{eq-eqb, ne_eqb}
use Rattle.csv.specs.Writing.{row_body, row_text, field_text, next_sep, tail_text, is_blank, writer_setup, fields_written, has_written}
use Rattle.csv.specs.declared.writer.QuoteStyle.TheVariants as style
use Rattle.csv.specs.declared.writer.WriterBuilder.{WriterBuilder}
use Rattle.csv.proofs.WriteFacts.{row-more, blank-more, row-final}
use Rattle.answer_text.specs.declared.records.Records.{Records}
use Rattle.answer_text.specs.Records.{setup_of, bytes_of, HasWritten}

-- the writer's count of fields stops, but says whether there is none or one
few_counted : (count number : ℕ) → number < 2 ^ 64 - 1 → (min count (2 ^ 64 - 1) == number) ≡ (count == number)
few_counted count number few = grind (arith, eq-eqb, ne_eqb)

-- the bytes of one field more
field_bytes : (setup now : WriterBuilder) (text old new : List ℕ) (fields : List (List ℕ)) (field apart : List ℕ)
    → old ≡ text ++ row_body setup fields → now ≡ setup → apart ≡ next_sep setup (length fields) → new ≡ old ++ (apart ++ field_text now field)
    → new ≡ text ++ row_body setup (fields ++ field ∷ [])
field_bytes setup now text old new fields field apart before same sep is =
    rw (is, before, same, sep, row-more setup fields field) (append_assoc text (row_body setup fields) (next_sep setup (length fields) ++ field_text setup field))

module _ (separator : ℕ) (text : List ℕ) (fields : List (List ℕ)) (old new : Records) where
  abbrev setup : WriterBuilder
  setup = setup_of separator

  one_more : (field : List ℕ) → writer_setup new.out ≡ writer_setup old.out
      → bytes_of new ≡ bytes_of old ++ (next_sep (writer_setup old.out) (fields_written old.out) ++ field_text (writer_setup old.out) field)
      → fields_written new.out ≡ min (fields_written old.out + 1) (2 ^ 64 - 1)
      → (has_written old.out ≡ false → has_written new.out ≡ not (length (field_text (writer_setup old.out) field) == 0))
      → (has_written old.out ≡ true → has_written new.out ≡ true)
      → HasWritten separator text fields old → HasWritten separator text (fields ++ field ∷ []) new
  one_more field same bytes count first stays was =
      let long : length (fields ++ field ∷ []) ≡ length fields + 1 = length-append fields (field ∷ []) in
      let none : (fields_written old.out == 0) ≡ (length fields == 0) = ap (λ count. count == 0) was.count ∙ few_counted (length fields) 0 (omega arith) in
      let apart : next_sep (writer_setup old.out) (fields_written old.out) ≡ next_sep setup (length fields) =
      ap₂ (λ (cfg : WriterBuilder) (none : Bool). if none then [] else cfg.delimiter ∷ []) was.setup none in
      record {
        setup = same ∙ was.setup;
        bytes = field_bytes setup (writer_setup old.out) text (bytes_of old) (bytes_of new) fields field (next_sep (writer_setup old.out) (fields_written old.out)) was.bytes was.setup apart bytes;
        count = omega (arith, count, was.count, long);
        blank = rw long (blank-more setup fields field (has_written old.out) (has_written new.out) was.blank
            (λ none. first none ∙ ap (λ (cfg : WriterBuilder). not (length (field_text cfg field) == 0)) was.setup) stays);
      }

  -- the field is given as bytes that are equal to it
  pub one_field_more : (given field : List ℕ) → given ≡ field → writer_setup new.out ≡ writer_setup old.out
      → bytes_of new ≡ bytes_of old ++ (next_sep (writer_setup old.out) (fields_written old.out) ++ field_text (writer_setup old.out) given)
      → fields_written new.out ≡ min (fields_written old.out + 1) (2 ^ 64 - 1)
      → (has_written old.out ≡ false → has_written new.out ≡ not (length (field_text (writer_setup old.out) given) == 0))
      → (has_written old.out ≡ true → has_written new.out ≡ true)
      → HasWritten separator text fields old → HasWritten separator text (fields ++ field ∷ []) new
  one_field_more given field is same bytes count first stays was =
      subst (λ (field : List ℕ). HasWritten separator text (fields ++ field ∷ []) new) is (one_more given same bytes count first stays was)

  pub one_record_more : writer_setup new.out ≡ writer_setup old.out
      → bytes_of new ≡ bytes_of old ++ tail_text (writer_setup old.out) (has_written old.out) (fields_written old.out)
      → fields_written new.out ≡ 0 → has_written new.out ≡ false
      → HasWritten separator text fields old → HasWritten separator (text ++ row_text setup fields) [] new
  unfolding is_blank
  one_record_more same bytes count wrote was =
      let few : is_blank setup fields ≡ (not (has_written old.out) && ((fields_written old.out == 0) || (fields_written old.out == 1))) =
      was.blank ∙ ap₂ (λ (none one : Bool). not (has_written old.out) && (none || one))
      (sym (ap (λ count. count == 0) was.count ∙ few_counted (length fields) 0 (omega arith))) (sym (ap (λ count. count == 1) was.count ∙ few_counted (length fields) 1 (omega arith))) in
      let ended : bytes_of new ≡ bytes_of old ++ tail_text setup (has_written old.out) (fields_written old.out) =
      bytes ∙ ap (λ (cfg : WriterBuilder). bytes_of old ++ tail_text cfg (has_written old.out) (fields_written old.out)) was.setup in
      record {
        setup = same ∙ was.setup;
        bytes = row-final (Some text) (Some (bytes_of old)) (Some (bytes_of new)) setup fields (has_written old.out) (fields_written old.out) was.bytes few ended
            ∙ sym (append-nil (text ++ row_text setup fields));
        count = omega (arith, count);
        blank = rw wrote refl;
      }

-- the setting quotes as texts need it, so csv says what it writes
pub quotes_texts : (separator : ℕ) (text : List ℕ) (fields : List (List ℕ)) (records : Records) → HasWritten separator text fields records → (writer_setup records.out).style ≢ style.NonNumeric
quotes_texts separator text fields records was = rw was.setup (λ e. cc e)

pub nothing_written : (separator : ℕ) (records : Records) → writer_setup records.out ≡ setup_of separator → bytes_of records ≡ [] → fields_written records.out ≡ 0 → has_written records.out ≡ false
    → HasWritten separator [] [] records
unfolding is_blank
nothing_written separator records same bytes count wrote = record { setup = same; bytes = bytes; count = omega (arith, count); blank = rw wrote refl }
