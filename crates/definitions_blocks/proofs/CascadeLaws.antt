-- The laws of a cascade, from those of its transform and of the way in which its differences are encoded.
use Rattle.std.proofs.Common.{◌≡◌, ℕ, ◌+◌, ◌^◌, ◌<◌, List, ◌++◌, length, take, drop, refl, sym, ap, ap₂, ◌∙◌, subst, arith, length-append, append_assoc}
use Rattle.std.specs.Int.{from_le_bytes, w64}
use Rattle.std.proofs.lemmas.List.{take_at, drop_at}
use Rattle.definitions_blocks.specs.Words.{AreOctets, word_bytes}
use Rattle.definitions_blocks.specs.Blocks.{IsFull}
use Rattle.definitions_blocks.specs.Encodings.{IsCascade}
use Rattle.definitions_blocks.specs.Packings.{IsPacking, IsTransform}
use Rattle.definitions_blocks.proofs.WordLaws.{AreOctets-append, length-word_bytes, from_le_bytes-word_bytes, word_bytes-octets}
use Rattle.definitions_blocks.proofs.PrefixLaws.{same_word, same_after_word}

-- the laws of a way to encode blocks, which are those of a packing under one param
pub record IsEncoding (encodes : List ℕ → List ℕ → Type 0) : Type 0 where
  pub full : (values bytes : List ℕ) → encodes values bytes → IsFull values
  pub octets : (values bytes : List ℕ) → encodes values bytes → AreOctets bytes
  pub one : (values a b : List ℕ) → encodes values a → encodes values b → a ≡ b
  pub front : (values others a b x y : List ℕ) → encodes values a → encodes others b → a ++ x ≡ b ++ y → (a ≡ b) × (values ≡ others)

-- The parts of a cascade's bytes.

pub IsCascade-size : (base_of : List ℕ → ℕ) (differences_of : List ℕ → List ℕ) (encodes : List ℕ → List ℕ → Type 0) (values bytes : List ℕ)
    → (is : IsCascade base_of differences_of encodes values bytes) → length bytes ≡ 8 + length is.inner
IsCascade-size base_of differences_of encodes values bytes is =
    omega (arith, ap length is.encoded, length-append (word_bytes (base_of values)) is.inner, length-word_bytes (base_of values))

pub IsCascade-base : (base_of : List ℕ → ℕ) (differences_of : List ℕ → List ℕ) (encodes : List ℕ → List ℕ → Type 0) (values bytes : List ℕ)
    → IsCascade base_of differences_of encodes values bytes → from_le_bytes w64 (take 8 bytes) ≡ base_of values
IsCascade-base base_of differences_of encodes values bytes is =
    ap (λ l. from_le_bytes w64 (take 8 l)) is.encoded
    ∙ ap (from_le_bytes w64) (take_at (word_bytes (base_of values)) is.inner 8 (length-word_bytes (base_of values)))
    ∙ from_le_bytes-word_bytes (base_of values) is.word

pub IsCascade-inner : (base_of : List ℕ → ℕ) (differences_of : List ℕ → List ℕ) (encodes : List ℕ → List ℕ → Type 0) (values bytes : List ℕ)
    → (is : IsCascade base_of differences_of encodes values bytes) → drop 8 bytes ≡ is.inner
IsCascade-inner base_of differences_of encodes values bytes is =
    ap (drop 8) is.encoded ∙ drop_at (word_bytes (base_of values)) is.inner 8 (length-word_bytes (base_of values))

-- a base and encoded differences are an encoding
pub IsCascade-encoding : (base_of : List ℕ → ℕ) (differences_of : List ℕ → List ℕ) (encodes : List ℕ → List ℕ → Type 0) (values inner : List ℕ) → IsFull values → base_of values < 2 ^ 64
    → encodes (differences_of values) inner → (bytes : List ℕ) × IsCascade base_of differences_of encodes values bytes
IsCascade-encoding base_of differences_of encodes values inner full word is =
    (word_bytes (base_of values) ++ inner, record { full = full; word = word; inner = inner; differences = is; encoded = refl })

-- The laws.

-- the bytes behind two cascades' bases
behind : (n m : ℕ) (a b x y : List ℕ) → (word_bytes n ++ a) ++ x ≡ (word_bytes m ++ b) ++ y → word_bytes n ++ (a ++ x) ≡ word_bytes m ++ (b ++ y)
behind n m a b x y e = sym (append_assoc (word_bytes n) a x) ∙ e ∙ append_assoc (word_bytes m) b y

pub IsEncoding-cascade : (base_of : List ℕ → ℕ) (differences_of : List ℕ → List ℕ) (encodes : List ℕ → List ℕ → Type 0) → IsTransform base_of differences_of → IsEncoding encodes
    → IsEncoding (IsCascade base_of differences_of encodes)
IsEncoding-cascade base_of differences_of encodes t p = record {
  full = λ values bytes is. is.full;
  octets = λ values bytes is.
      subst AreOctets (sym is.encoded) (AreOctets-append (word_bytes (base_of values)) is.inner (word_bytes-octets (base_of values)) (p.octets (differences_of values) is.inner is.differences));
  one = λ values a b u v.
      u.encoded ∙ ap (λ l. word_bytes (base_of values) ++ l) (p.one (differences_of values) u.inner v.inner u.differences v.differences) ∙ sym v.encoded;
  front = λ values others a b x y u v e.
      let whole : (word_bytes (base_of values) ++ u.inner) ++ x ≡ (word_bytes (base_of others) ++ v.inner) ++ y = ap (λ l. l ++ x) (sym u.encoded) ∙ e ∙ ap (λ l. l ++ y) v.encoded in
      let split = behind (base_of values) (base_of others) u.inner v.inner x y whole in
      let base : base_of values ≡ base_of others = same_word (base_of values) (base_of others) (u.inner ++ x) (v.inner ++ y) u.word v.word split in
      let inner = p.front (differences_of values) (differences_of others) u.inner v.inner x y u.differences v.differences (same_after_word (base_of values) (base_of others) (u.inner ++ x) (v.inner ++ y) split) in
      (u.encoded ∙ ap₂ (λ n l. word_bytes n ++ l) base inner.0 ∙ sym v.encoded, t.join values others u.full v.full base inner.1);
}

-- a packing's relation at a param
pub IsEncoding-packing : {Param Head : Type 0} (encodes : Param → List ℕ → List ℕ → Type 0) (block_head : Param → List ℕ → Head) (param : Param) → IsPacking encodes block_head → IsEncoding (encodes param)
IsEncoding-packing encodes block_head param p = record {
  full = λ values bytes is. p.full param values bytes is;
  octets = λ values bytes is. p.octets param values bytes is;
  one = λ values a b u v. p.one param values a b u v;
  front = λ values others a b x y u v e. p.front param values others a b x y u v e;
}

-- a cascade of a packing is a packing
pub IsPacking-cascade : {Param Head : Type 0} (base_of : List ℕ → ℕ) (differences_of : List ℕ → List ℕ) (encodes : Param → List ℕ → List ℕ → Type 0) (block_head : Param → List ℕ → Head)
    → IsTransform base_of differences_of → IsPacking encodes block_head
    → IsPacking {Param = Param} {Head = ℕ × Head} (λ (param : Param) (values bytes : List ℕ). IsCascade base_of differences_of (encodes param) values bytes) (λ (param : Param) (values : List ℕ). (base_of values, block_head param (differences_of values)))
IsPacking-cascade {Param} base_of differences_of encodes block_head t p = record {
  full = λ param values bytes is. is.full;
  octets = λ param values bytes is. (laws param).octets values bytes is;
  one = λ param values a b u v. (laws param).one values a b u v;
  front = λ param values others a b x y u v e. (laws param).front values others a b x y u v e;
  sized = λ param values others a b u v e.
      let head : block_head param (differences_of values) ≡ block_head param (differences_of others) = ap (λ h. h.1) e in
      let inner = p.sized param (differences_of values) (differences_of others) u.inner v.inner u.differences v.differences head in
      omega (arith, inner, IsCascade-size base_of differences_of (encodes param) values a u, IsCascade-size base_of differences_of (encodes param) others b v);
}
  where
    laws : (param : Param) → IsEncoding (IsCascade base_of differences_of (encodes param))
    laws param = IsEncoding-cascade base_of differences_of (encodes param) t (IsEncoding-packing encodes block_head param p)
