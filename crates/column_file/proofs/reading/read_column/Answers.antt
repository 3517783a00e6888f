use Rattle.std.proofs.Common.{Some, MatchOption, sym, ap, ◌∙◌, subst}
use Rattle.definitions_columns.specs.ColumnFiles.{first, second, IsFileOf}
use Rattle.definitions_columns.specs.FileFaults.{HasFileFault}
use Rattle.definitions_columns.proofs.FaultLaws.{one_fault, no_fault}
use Rattle.block_core.specs.Formats.{format_of}
use Rattle.column_core.specs.Heads.{version_of}
use Rattle.column_file.specs.Faults.{IsFirstFile, Names}
use Rattle.column_file.proofs.reading.read_column.Goals as goal

pub returns-in-Ok-clause-refuses : goal.returns-in-Ok-clause-refuses
returns-in-Ok-clause-refuses c = λ fault has.
    let found = c.in-Ok.ensures.ok in
    let is : IsFileOf (version_of c.in-Ok.version) (format_of found.0) found.1 c.args.bytes =
    subst (IsFileOf (version_of c.in-Ok.version) (format_of found.0) found.1) c.as_slice.ensures found.2 in
    absurd (no_fault (version_of c.in-Ok.version) (format_of found.0) found.1 c.args.bytes fault is has)

pub returns-in-Err-clause-fault : goal.returns-in-Err-clause-fault
returns-in-Err-clause-fault c = let n = subst (λ bytes. Names bytes c.in-Err.error) c.as_slice.ensures c.in-Err.ensures.fault in
    subst (λ fault. MatchOption fault (IsFirstFile c.args.bytes) (HasFileFault c.args.bytes)) (sym n.1) n.2

pub returns-in-Err-clause-accepts : goal.returns-in-Err-clause-accepts
returns-in-Err-clause-accepts c = λ format values is. let n = subst (λ bytes. Names bytes c.in-Err.error) c.as_slice.ensures c.in-Err.ensures.fault in
    no_fault second (format_of format) values c.args.bytes n.0 is n.2

pub returns-in-Err-clause-accepts_first : goal.returns-in-Err-clause-accepts_first
returns-in-Err-clause-accepts_first c = λ format values is. let n = subst (λ bytes. Names bytes c.in-Err.error) c.as_slice.ensures c.in-Err.ensures.fault in
    absurd (no_fault first (format_of format) values c.args.bytes n.0 is n.2)

pub returns-in-Err-clause-refuses : goal.returns-in-Err-clause-refuses
returns-in-Err-clause-refuses c = λ fault has. let n = subst (λ bytes. Names bytes c.in-Err.error) c.as_slice.ensures c.in-Err.ensures.fault in
    n.1 ∙ ap (λ f. Some f) (one_fault c.args.bytes n.0 fault n.2 has)
