use Rattle.std.proofs.Common.{◌∙◌, ◌-◌, arith}
use Rattle.std.specs.Prelude.{slice_index}
use Rattle.chain_table.proofs.ChainLaws.{newest-older, other_bucket}
use Rattle.chain_table.proofs.chain.matching.Goals as goal

pub loop-link-init : goal.loop-link-init
loop-link-init c = record {
  within = c.requires.starts.within;
  bucket = c.requires.starts.here;
  newest = λ entry from upto. other_bucket c.args._mixer c.args._shift c.args.keys.now c.args.key entry (omega (arith, c.requires.within)) (c.requires.starts.newest entry from upto);
}

pub loop-link-preserved : goal.loop-link-preserved
loop-link-preserved c =
    let at = c.loop-link.link - 1 in
    let is = c.requires.older_are at (omega (arith, c.requires.within, c.loop-link.invariant.within)) in
    let bucket = c.loop-link.invariant.bucket at (omega arith) in
    record {
      within = omega (arith, is.within, c.loop-link.invariant.within);
      bucket = λ entry e. is.here entry e ∙ bucket;
      newest = newest-older c.args._mixer c.args._shift c.args.keys.now c.args.key c.args._bound c.loop-link.link (slice_index c.args.older.now at) c.requires.within (omega arith)
          c.loop-link.invariant.within bucket c.if-keys-link.true is c.loop-link.invariant.newest;
    }
