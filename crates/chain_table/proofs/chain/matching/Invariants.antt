-- the link is one of the key's bucket, and no entry from it on has the key
use Rattle.std.proofs.Common.{◌≡◌, ◌≢◌, ℕ, ◌+◌, ◌<◌, ◌≤◌}
use Rattle.std.specs.Prelude.{slice_index}
use Rattle.chain_table.specs.Buckets.{bucket_of, buckets_of}
use Rattle.chain_table.proofs.chain.matching.Given as goal

abbrev pub invariant-loop-link : goal.invariant-loop-link
invariant-loop-link l = record {
  within : l.link ≤ l.fn._bound;
  bucket : (entry : ℕ) → entry + 1 ≡ l.link → slice_index (buckets_of l.fn._mixer l.fn._shift l.keys) entry ≡ bucket_of l.fn._mixer l.fn._shift l.key;
  newest : (entry : ℕ) → l.link ≤ entry → entry < l.fn._bound → slice_index l.keys entry ≢ l.key;
}

abbrev pub decreases-loop-link : goal.decreases-loop-link
decreases-loop-link l = l.link
