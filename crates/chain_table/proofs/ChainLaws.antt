-- Walks along the links of a bucket.
use Rattle.std.proofs.Common.{◌≡◌, ◌≢◌, ◌∙◌, ap, refl, sym, ℕ, ◌+◌, ◌-◌, ◌<◌, ◌≤◌, ◌*◌, ◌%◌, ◌^◌, inl, inr, List, [], ◌∷◌, ◌++◌, length, set, replicate, arith, subst}
use Rattle.std.specs.Prelude.{slice_index}
use Rattle.std.proofs.lemmas.Bool.{cases_lt, cases_eq}
use Rattle.std.proofs.lemmas.List.{get_or-map, get_or_append_left, get_or_push, length_push, length-set, length-map, map-append, get_or-set_same, get_or-set_other, get_or-replicate, get_or_past, length-replicate}
use Rattle.std.proofs.lemmas.Nat.{pow-add, pow_pos}
use Rattle.std.proofs.Math.Nat.{div-lt_iff_lt-mul, mod-lt}
use Rattle.chain_table.specs.Buckets.{bucket_of, buckets_of, IsLink, IsChained}
use Rattle.std.proofs.Common.{take, drop, add-one, append-nil}
use Rattle.std.proofs.lemmas.List.{length-take-le, take_more, take_all, drop_all}
use Rattle.std.proofs.Math.Seq.{take-suc-set}

-- there are as many buckets
pub bucket_within : (mixer shift key : ℕ) → shift < 64 → bucket_of mixer shift key < 2 ^ (64 - shift)
bucket_within mixer shift key few =
    let bits : 64 - shift + shift ≡ 64 = omega (arith, few) in
    let whole : 2 ^ (64 - shift) * 2 ^ shift ≡ 2 ^ 64 = sym (pow-add 2 (64 - shift) shift) ∙ ap (λ n. 2 ^ n) bits in
    let word : key * mixer % 2 ^ 64 < 2 ^ 64 = mod-lt (key * mixer) {m = 2 ^ 64} (omega arith) in
    (div-lt_iff_lt-mul {k = 2 ^ shift} {x = key * mixer % 2 ^ 64} {y = 2 ^ (64 - shift)} (pow_pos shift)).1 (subst (λ n. key * mixer % 2 ^ 64 < n) (sym whole) word)

pub bucket_at : (mixer shift : ℕ) (keys : List ℕ) (entry : ℕ) → entry < length keys → slice_index (buckets_of mixer shift keys) entry ≡ bucket_of mixer shift (slice_index keys entry)
bucket_at mixer shift keys entry within = get_or-map (bucket_of mixer shift) keys entry 0 0 within

-- an entry outside the bucket has another key
pub other_bucket : (mixer shift : ℕ) (keys : List ℕ) (key entry : ℕ) → entry < length keys → slice_index (buckets_of mixer shift keys) entry ≢ bucket_of mixer shift key → slice_index keys entry ≢ key
other_bucket mixer shift keys key entry within other same = other (bucket_at mixer shift keys entry within ∙ ap (bucket_of mixer shift) same)

-- where an entry of the bucket doesn't have the key, the next older link is taken
pub newest-older : (mixer shift : ℕ) (keys : List ℕ) (key bound link older : ℕ) → bound ≤ length keys → 0 < link → link ≤ bound
    → slice_index (buckets_of mixer shift keys) (link - 1) ≡ bucket_of mixer shift key → slice_index keys (link - 1) ≢ key
    → IsLink (buckets_of mixer shift keys) (slice_index (buckets_of mixer shift keys) (link - 1)) (link - 1) older
    → ((entry : ℕ) → link ≤ entry → entry < bound → slice_index keys entry ≢ key)
    → (entry : ℕ) → older ≤ entry → entry < bound → slice_index keys entry ≢ key
newest-older mixer shift keys key bound link older within some below bucket apart is newest entry from upto =
    elim (cases_lt entry (link - 1)) [
      | inl before ↦ other_bucket mixer shift keys key entry (omega arith) (λ same. is.newest entry from before (same ∙ sym bucket))
      | inr after ↦ elim (cases_lt (link - 1) entry) [
        | inl later ↦ newest entry (omega arith) upto
        | inr here ↦ let e : entry ≡ link - 1 = omega arith in subst (λ n. slice_index keys n ≢ key) (sym e) apart
      ]
    ]

-- items behind the bound change no link
pub IsLink-more : (items more : List ℕ) (value bound link : ℕ) → bound ≤ length items → IsLink items value bound link → IsLink (items ++ more) value bound link
IsLink-more items more value bound link within is = record {
  within = is.within;
  here = λ entry e. get_or_append_left items more 0 entry (omega (arith, is.within)) ∙ is.here entry e;
  newest = λ entry from upto same. is.newest entry from upto (sym (get_or_append_left items more 0 entry (omega arith)) ∙ same);
}

-- one more item that is another value changes no link
pub IsLink-other : (items : List ℕ) (item value link : ℕ) → item ≢ value → IsLink items value (length items) link → IsLink (items ++ item ∷ []) value (length items + 1) link
IsLink-other items item value link other is =
    let grown = IsLink-more items (item ∷ []) value (length items) link (omega arith) is in
    record {
      within = omega (arith, is.within);
      here = grown.here;
      newest = λ entry from upto. elim (cases_lt entry (length items)) [
        | inl before ↦ grown.newest entry from before
        | inr after ↦ λ same. let at : entry ≡ length items = omega arith in
            other (sym (get_or_push items item 0 (length items) refl) ∙ ap (λ n. slice_index (items ++ item ∷ []) n) (sym at) ∙ same)
      ];
    }

-- one more item that is the value is the newest
pub IsLink-same : (items : List ℕ) (item value : ℕ) → item ≡ value → IsLink (items ++ item ∷ []) value (length items + 1) (length items + 1)
IsLink-same items item value same = record {
  within = omega arith;
  here = λ entry e. let at : entry ≡ length items = omega arith in ap (λ n. slice_index (items ++ item ∷ []) n) at ∙ get_or_push items item 0 (length items) refl ∙ same;
  newest = λ entry from upto. absurd (omega arith);
}

buckets-push : (mixer shift : ℕ) (keys : List ℕ) (key : ℕ) → buckets_of mixer shift keys ++ bucket_of mixer shift key ∷ [] ≡ buckets_of mixer shift (keys ++ key ∷ [])
buckets-push mixer shift keys key = sym (map-append (bucket_of mixer shift) keys (key ∷ []))

-- heads and older links after an entry
pub IsChained-insert : (mixer shift : ℕ) (heads keys values older : List ℕ) (room key value : ℕ) → IsChained mixer shift heads keys values older room → length keys < room
    → IsChained mixer shift (set heads (bucket_of mixer shift key) (length keys + 1)) (keys ++ key ∷ []) (values ++ value ∷ []) (older ++ slice_index heads (bucket_of mixer shift key) ∷ []) room
IsChained-insert mixer shift heads keys values older room key value is some =
    let bucket = bucket_of mixer shift key in
    let buckets = buckets_of mixer shift keys in
    let sized : length heads ≡ 2 ^ (64 - shift) = is.sized (omega arith) in
    let within : bucket < 2 ^ (64 - shift) = bucket_within mixer shift key is.shifts in
    let long : length buckets ≡ length keys = length-map keys (bucket_of mixer shift) in
    let long_keys : length (keys ++ key ∷ []) ≡ length keys + 1 = length_push keys key in
    let pushed = buckets-push mixer shift keys key in
    record {
      shifts = is.shifts;
      sized = λ some. length-set heads bucket (length keys + 1) ∙ is.sized some;
      paired = length_push values value ∙ ap (λ n. n + 1) is.paired ∙ sym long_keys;
      linked = length_push older (slice_index heads bucket) ∙ ap (λ n. n + 1) is.linked ∙ sym long_keys;
      few = omega arith;
      fits = is.fits;
      heads_are = λ b upto. subst (λ (items : List ℕ). IsLink items b (length (keys ++ key ∷ [])) (slice_index (set heads bucket (length keys + 1)) b)) pushed
          (subst (λ n. IsLink (buckets ++ bucket ∷ []) b n (slice_index (set heads bucket (length keys + 1)) b)) (ap (λ n. n + 1) long ∙ sym long_keys)
          (elim (cases_eq b bucket) [
            | inl same ↦ subst (λ l. IsLink (buckets ++ bucket ∷ []) b (length buckets + 1) l)
                (ap (λ n. n + 1) long ∙ sym (get_or-set_same heads bucket (length keys + 1) 0 (omega (arith, sized))) ∙ ap (λ n. slice_index (set heads bucket (length keys + 1)) n) (sym same))
                (IsLink-same buckets bucket b (sym same))
            | inr apart ↦ subst (λ l. IsLink (buckets ++ bucket ∷ []) b (length buckets + 1) l) (sym (get_or-set_other heads bucket b (length keys + 1) 0 apart))
                (IsLink-other buckets bucket b (slice_index heads b) (λ same. apart (sym same)) (subst (λ n. IsLink buckets b n (slice_index heads b)) (sym long) (is.heads_are b upto)))
          ]));
      older_are = λ entry upto. subst (λ (items : List ℕ). IsLink items (slice_index items entry) entry (slice_index (older ++ slice_index heads bucket ∷ []) entry)) pushed
          (elim (cases_lt entry (length keys)) [
            | inl before ↦ subst (λ l. IsLink (buckets ++ bucket ∷ []) (slice_index (buckets ++ bucket ∷ []) entry) entry l) (sym (get_or_append_left older (slice_index heads bucket ∷ []) 0 entry (omega (arith, is.linked))))
                (subst (λ v. IsLink (buckets ++ bucket ∷ []) v entry (slice_index older entry)) (sym (get_or_append_left buckets (bucket ∷ []) 0 entry (omega arith)))
                (IsLink-more buckets (bucket ∷ []) (slice_index buckets entry) entry (slice_index older entry) (omega arith) (is.older_are entry before)))
            | inr after ↦
                let at : entry ≡ length keys = omega arith in
                let link : slice_index (older ++ slice_index heads bucket ∷ []) entry ≡ slice_index heads bucket = get_or_push older (slice_index heads bucket) 0 entry (is.linked ∙ sym at) in
                let here : slice_index (buckets ++ bucket ∷ []) entry ≡ bucket = get_or_push buckets bucket 0 entry (long ∙ sym at) in
                subst (λ l. IsLink (buckets ++ bucket ∷ []) (slice_index (buckets ++ bucket ∷ []) entry) entry l) (sym link)
                (subst (λ v. IsLink (buckets ++ bucket ∷ []) v entry (slice_index heads bucket)) (sym here)
                (subst (λ n. IsLink (buckets ++ bucket ∷ []) bucket n (slice_index heads bucket)) (sym at)
                (IsLink-more buckets (bucket ∷ []) bucket (length keys) (slice_index heads bucket) (omega arith) (is.heads_are bucket within))))
          ]);
    }

-- no entries yet
pub IsChained-none : (mixer shift : ℕ) (heads : List ℕ) (room : ℕ) → ((bucket : ℕ) → slice_index heads bucket ≡ 0) → (0 < room → length heads ≡ 2 ^ (64 - shift)) → room < 2 ^ 32 → shift < 64 → IsChained mixer shift heads [] [] [] room
IsChained-none mixer shift heads room none sized fits shifts = record {
  shifts = shifts;
  sized = sized;
  paired = refl;
  linked = refl;
  few = omega arith;
  fits = fits;
  heads_are = λ bucket upto. subst (IsLink [] bucket 0) (sym (none bucket)) (record {
    within = omega arith;
    here = λ entry e. absurd (omega arith);
    newest = λ entry from upto. absurd (omega arith);
  });
  older_are = λ entry upto. absurd (omega arith);
}

pub IsChained-same : (mixer shift : ℕ) (heads heads' keys keys' values values' older older' : List ℕ) (room : ℕ) → heads' ≡ heads → keys' ≡ keys → values' ≡ values → older' ≡ older
    → IsChained mixer shift heads keys values older room → IsChained mixer shift heads' keys' values' older' room
IsChained-same mixer shift heads heads' keys keys' values values' older older' room h k v o is =
    subst (λ (x : List ℕ). IsChained mixer shift x keys' values' older' room) (sym h) (subst (λ (x : List ℕ). IsChained mixer shift heads x values' older' room) (sym k)
    (subst (λ (x : List ℕ). IsChained mixer shift heads keys x older' room) (sym v) (subst (λ (x : List ℕ). IsChained mixer shift heads keys values x room) (sym o) is)))

zero_at : (n bucket : ℕ) → slice_index (replicate n 0) bucket ≡ 0
zero_at n bucket = elim (cases_lt bucket n) [
  | inl within ↦ get_or-replicate n bucket 0 0 within
  | inr past ↦ get_or_past (replicate n 0) bucket 0 (omega (arith, length-replicate {A = ℕ} n 0))
]

pub IsChained-reserved : (mixer shift room : ℕ) (heads keys values older : List ℕ) → heads ≡ replicate (2 ^ (64 - shift)) 0 → keys ≡ [] → values ≡ [] → older ≡ [] → room < 2 ^ 32 → shift < 64 → IsChained mixer shift heads keys values older room
IsChained-reserved mixer shift room heads keys values older h k v o fits shifts =
    IsChained-same mixer shift (replicate (2 ^ (64 - shift)) 0) heads [] keys [] values [] older room h k v o
    (IsChained-none mixer shift (replicate (2 ^ (64 - shift)) 0) room (zero_at (2 ^ (64 - shift))) (λ some. length-replicate {A = ℕ} (2 ^ (64 - shift)) 0) fits shifts)

pub IsChained-empty : (mixer : ℕ) (heads keys values older : List ℕ) → heads ≡ [] → keys ≡ [] → values ≡ [] → older ≡ [] → IsChained mixer 60 heads keys values older 0
IsChained-empty mixer heads keys values older h k v o =
    IsChained-same mixer 60 [] heads [] keys [] values [] older 0 h k v o (IsChained-none mixer 60 [] 0 (λ bucket. refl) (λ some. absurd (omega arith)) (omega arith) (omega arith))

-- # All entries anew

-- one entry more is linked, of lists of which the first ones were
pub IsChained-next : (mixer shift : ℕ) (heads keys older : List ℕ) (n bucket next : ℕ) → n < length keys → length older ≡ length keys
    → bucket ≡ bucket_of mixer shift (slice_index keys n) → next ≡ slice_index heads bucket
    → IsChained mixer shift heads (take n keys) (take n keys) (take n older) (length keys)
    → IsChained mixer shift (set heads bucket (n + 1)) (take (n + 1) keys) (take (n + 1) keys) (take (n + 1) (set older n next)) (length keys)
IsChained-next mixer shift heads keys older n bucket next within long at newest is =
    let key = slice_index keys n in
    let here = bucket_of mixer shift key in
    let count : length (take n keys) ≡ n = length-take-le n keys (omega arith) in
    let grown : take (n + 1) keys ≡ take n keys ++ key ∷ [] = take_more keys n 0 within in
    IsChained-same mixer shift (set heads here (length (take n keys) + 1)) (set heads bucket (n + 1)) (take n keys ++ key ∷ []) (take (n + 1) keys) (take n keys ++ key ∷ []) (take (n + 1) keys)
    (take n older ++ slice_index heads here ∷ []) (take (n + 1) (set older n next)) (length keys)
    (ap (λ b. set heads b (n + 1)) at ∙ ap (λ m. set heads here (m + 1)) (sym count)) grown grown
    (ap (λ m. take m (set older n next)) (add-one n) ∙ take-suc-set older n next (omega arith) ∙ ap (λ m. take n older ++ m ∷ []) (newest ∙ ap (slice_index heads) at))
    (IsChained-insert mixer shift heads (take n keys) (take n keys) (take n older) (length keys) key key is (omega arith))

-- the same buckets with values
pub IsChained-relinked : (mixer shift : ℕ) (heads keys values older : List ℕ) (room : ℕ) → (0 < room → length heads ≡ 2 ^ (64 - shift)) → length values ≡ length keys → length keys ≤ room → room < 2 ^ 32
    → IsChained mixer shift heads keys keys older (length keys) → IsChained mixer shift heads keys values older room
IsChained-relinked mixer shift heads keys values older room sized paired few fits is = record {
  shifts = is.shifts;
  sized = sized;
  paired = paired;
  linked = is.linked;
  few = few;
  fits = fits;
  heads_are = is.heads_are;
  older_are = is.older_are;
}

-- one link more names nothing
pub cleared-next : (links : List ℕ) (n : ℕ) → ((bucket : ℕ) → bucket < n → slice_index links bucket ≡ 0) → (bucket : ℕ) → bucket < n + 1 → slice_index (set links n 0) bucket ≡ 0
cleared-next links n none bucket below =
    elim (cases_eq bucket n) [
      | inl same ↦ elim (cases_lt n (length links)) [
        | inl within ↦ ap (slice_index (set links n 0)) same ∙ get_or-set_same links n 0 0 within
        | inr past ↦ get_or_past (set links n 0) bucket 0 (omega (arith, length-set links n 0))
      ]
      | inr other ↦ get_or-set_other links n bucket 0 0 other ∙ none bucket (omega arith)
    ]

-- what stands in a list of which all items were written
pub rewritten : (out items : List ℕ) (n : ℕ) → n ≡ length items → length out ≡ length items → take n (out ++ drop (length out) items) ≡ out
rewritten out items n all same =
    ap (λ (l : List ℕ). take n (out ++ l)) (drop_all (length out) items (omega arith)) ∙ ap (take n) (append-nil out) ∙ take_all n out (omega arith)

pub IsChained-rewritten : (mixer shift : ℕ) (heads keys values older : List ℕ) (room : ℕ) {heads' older' : List ℕ} → heads' ≡ heads → older' ≡ older
    → IsChained mixer shift heads keys values older room → IsChained mixer shift heads' keys values older' room
IsChained-rewritten mixer shift heads keys values older room {heads'} {older'} h o is = IsChained-same mixer shift heads heads' keys keys values values older older' room h refl refl o is
