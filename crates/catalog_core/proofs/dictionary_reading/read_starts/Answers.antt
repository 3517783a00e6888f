use Rattle.std.proofs.Common.{rules}
use Rattle.catalog_core.proofs.DictionaryReadLemmas.{trailing, indexed}
use Rattle.catalog_core.proofs.dictionary_reading.read_starts.Goals as goal

pub returns-then-found-bytes-clause-fault : goal.returns-then-found-bytes-clause-fault
returns-then-found-bytes-clause-fault c = λ _.
    let (last, so) = c.in_ok-found.ensures.ok in
    trailing c.in-Some.count c.in_ok-found.found.end c.args.bytes.now c.in_ok-found.found.starts.items last c.in-Some.ensures so (search rules)

pub returns-clause-starts : goal.returns-clause-starts
returns-clause-starts c =
    let (last, so) = c.in_ok-found.ensures.ok in
    indexed c.in-Some.count c.in_ok-found.found.end c.args.bytes.now c.in_ok-found.found.starts.items last c.in-Some.ensures so (search rules)
