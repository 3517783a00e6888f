use Rattle.std.proofs.Common.{Bor, ℕ, List, [], ◌∷◌, ◌≡◌, ◌∙◌, Some, refl, inl, inr}
use Rattle.std.proofs.lemmas.Bool.{cases_Bool}
use Rattle.csv.specs.Records.{fields_of}
use Rattle.table_import.specs.Records.{config_of, records_left}
use Rattle.table_import.proofs.RecordLemmas.{read_more, read_none}
use Rattle.table_import.proofs.records.next_record.Goals as goal

pub returns-clause-next : goal.returns-clause-next
returns-clause-next c = λ separator records gives.
    let old = c.args.reader.now in
    let new = c.read_byte_record.new.self in
    let fields = fields_of c.read_byte_record.new.row in
    let read = c.in-Ok.ensures.reads gives.trim gives.ready in
    elim (cases_Bool c.in-Ok.found) [
      | inl found ↦
          let (more, source, left) = read_more (λ (bytes : Bor (List ℕ)). Some bytes.now) old new fields (config_of separator) gives.left gives.config gives.source (rw found at read) in
          let given : records ≡ fields ∷ records_left (config_of separator) new.state more = gives.records ∙ left in
          rw given (
            found,
            refl,
            record {
              trim = read.3 ∙ gives.trim;
              ready = inl (c.in-Ok.ensures.ready gives.trim);
              config = read.2 ∙ gives.config;
              left = more;
              source = source;
              records = refl;
            },
          )
      | inr none ↦
          let gone : records ≡ [] = gives.records ∙ read_none (λ (bytes : Bor (List ℕ)). Some bytes.now) old new fields (config_of separator) gives.left gives.config gives.source (rw none at read) in
          rw gone none
    ]
