-- How a chain keeps its entries: in buckets, by links.
use Rattle.std.specs.Prelude.{◌≡◌, ◌≢◌, ℕ, ◌+◌, ◌*◌, ◌/◌, ◌%◌, ◌^◌, ◌-◌, ◌<◌, ◌≤◌, List, length, map, slice_index}

-- a link names the newest of the first `bound` items that is the value: it is one more than the item's number, and 0 for none
pub record IsLink (items : List ℕ) (value bound link : ℕ) : Type 0 where
  pub within : link ≤ bound
  pub here : (entry : ℕ) → entry + 1 ≡ link → slice_index items entry ≡ value
  pub newest : (entry : ℕ) → link ≤ entry → entry < bound → slice_index items entry ≢ value

-- the bucket of a key: the high bits of the low word of its product with the mixer
abbrev pub bucket_of : ℕ → ℕ → ℕ → ℕ
bucket_of mixer shift key = key * mixer % 2 ^ 64 / 2 ^ shift

abbrev pub buckets_of : ℕ → ℕ → List ℕ → List ℕ
buckets_of mixer shift keys = map (bucket_of mixer shift) keys

-- each head and each older link names the newest entry of its bucket
pub record IsChained (mixer shift : ℕ) (heads keys values older : List ℕ) (room : ℕ) : Type 0 where
  pub shifts : shift < 64
  pub sized : 0 < room → length heads ≡ 2 ^ (64 - shift)
  pub paired : length values ≡ length keys
  pub linked : length older ≡ length keys
  pub few : length keys ≤ room
  pub fits : room < 2 ^ 32
  pub heads_are : (bucket : ℕ) → bucket < 2 ^ (64 - shift) → IsLink (buckets_of mixer shift keys) bucket (length keys) (slice_index heads bucket)
  pub older_are : (entry : ℕ) → entry < length keys → IsLink (buckets_of mixer shift keys) (slice_index (buckets_of mixer shift keys) entry) entry (slice_index older entry)

-- where a walk begins: at the newest of the first `bound` entries in the key's bucket, from which older links lead on
pub record IsBegun (mixer shift : ℕ) (keys older : List ℕ) (key bound from : ℕ) : Type 0 where
  pub within : bound ≤ length keys
  pub linked : length older ≡ length keys
  pub starts : IsLink (buckets_of mixer shift keys) (bucket_of mixer shift key) bound from
  pub older_are : (entry : ℕ) → entry < length keys → IsLink (buckets_of mixer shift keys) (slice_index (buckets_of mixer shift keys) entry) entry (slice_index older entry)
