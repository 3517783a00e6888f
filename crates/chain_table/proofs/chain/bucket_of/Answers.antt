use Rattle.chain_table.proofs.ChainLaws.{bucket_within}
use Rattle.chain_table.proofs.chain.bucket_of.Goals as goal

pub returns-clause-within : goal.returns-clause-within
returns-clause-within c = bucket_within c.args.mixer c.args.shift c.args.key c.requires
