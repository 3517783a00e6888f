-- What the bytes of a cascade are: a base, and what its packing says of the rest.
use Rattle.std.proofs.Common.{◌≡◌, ℕ, ◌+◌, ◌^◌, ◌<◌, ◌≤◌, List, [], ◌++◌, length, take, drop, refl, sym, ap, ap₂, ◌∙◌, subst, arith, length-append, append_assoc}
use Rattle.std.proofs.Math.Seq.{take-append-add}
use Rattle.std.proofs.lemmas.List.{drop_at, take-append-drop}
use Rattle.definitions_blocks.specs.Words.{word_bytes}
use Rattle.definitions_blocks.specs.Encodings.{IsCascade}
use Rattle.definitions_blocks.specs.Packings.{IsPacking, IsSplit, NoBlock, BlockAt, IsBlock}
use Rattle.definitions_blocks.proofs.WordLaws.{length-word_bytes}
use Rattle.definitions_blocks.proofs.PrefixLaws.{same_word, same_after_word}
use Rattle.definitions_blocks.proofs.CascadeLaws.{IsCascade-size, IsCascade-inner}

-- a block of a cascade is its base and a block of the packing
pub record Inner {Param Head : Type 0} (encodes : Param → List ℕ → List ℕ → Type 0) (block_head : Param → List ℕ → Head) (param : Param) (base : ℕ) (head : Head) (bytes inner : List ℕ) : Type 0 where
  pub block : IsBlock encodes block_head param head inner
  pub bytes_are : bytes ≡ word_bytes base ++ inner
  pub rest_is : drop 8 bytes ≡ inner
  pub long : length bytes ≡ 8 + length inner

pub inner_of : {Param Head : Type 0} (base_of : List ℕ → ℕ) (differences_of : List ℕ → List ℕ) (encodes : Param → List ℕ → List ℕ → Type 0) (block_head : Param → List ℕ → Head) (param : Param) (base : ℕ) (head : Head) (values bytes : List ℕ)
    → (is : IsCascade base_of differences_of (encodes param) values bytes) → base ≡ base_of values → head ≡ block_head param (differences_of values) → Inner encodes block_head param base head bytes is.inner
inner_of base_of differences_of encodes block_head param base head values bytes is same headed =
    let are : bytes ≡ word_bytes base ++ is.inner = is.encoded ∙ ap (λ n. word_bytes n ++ is.inner) (sym same) in
    record {
      block = record { values = differences_of values; encoded = is.differences; headed = headed };
      bytes_are = are;
      rest_is = IsCascade-inner base_of differences_of (encodes param) values bytes is;
      long = IsCascade-size base_of differences_of (encodes param) values bytes is;
    }

-- bytes are the encoding of one block
pub same_block : {Param Head : Type 0} (encodes : Param → List ℕ → List ℕ → Type 0) (block_head : Param → List ℕ → Head) (param : Param) (values others a b : List ℕ)
    → IsPacking encodes block_head → encodes param values a → encodes param others b → a ≡ b → values ≡ others
same_block encodes block_head param values others a b p x y e = (p.front param values others a b [] [] x y (ap (λ l. l ++ []) e)).1

-- a base and encoded differences are the block's cascade
pub cascade_from : (base_of : List ℕ → ℕ) (differences_of : List ℕ → List ℕ) (encodes : List ℕ → List ℕ → Type 0) (base : ℕ) (values ds bytes inner : List ℕ)
    → IsSplit base_of differences_of base values ds → base < 2 ^ 64 → encodes ds inner → bytes ≡ word_bytes base ++ inner → IsCascade base_of differences_of encodes values bytes
cascade_from base_of differences_of encodes base values ds bytes inner split word encoded are = record {
  full = split.full;
  word = subst (λ n. n < 2 ^ 64) split.base_is word;
  inner = inner;
  differences = subst (λ l. encodes l inner) split.differences_are encoded;
  encoded = are ∙ ap (λ n. word_bytes n ++ inner) split.base_is;
}

-- what a check says where bytes are too few
pub too_few : {Param : Type 0} (base_of : List ℕ → ℕ) (differences_of : List ℕ → List ℕ) (encodes : Param → List ℕ → List ℕ → Type 0) (param : Param) (bytes : List ℕ)
    → length bytes < 8 → (values encoding rest : List ℕ) → IsCascade base_of differences_of (encodes param) values encoding → bytes ≡ encoding ++ rest → ⊥
too_few base_of differences_of encodes param bytes few values encoding rest is e =
    omega (arith, ap length e, length-append encoding rest, IsCascade-size base_of differences_of (encodes param) values encoding is)

-- the bytes after a base
rest_after : (base_of : List ℕ → ℕ) (differences_of : List ℕ → List ℕ) (encodes : List ℕ → List ℕ → Type 0) (values bytes encoding rest : List ℕ)
    → (is : IsCascade base_of differences_of encodes values encoding) → bytes ≡ encoding ++ rest → bytes ≡ word_bytes (base_of values) ++ (is.inner ++ rest)
rest_after base_of differences_of encodes values bytes encoding rest is e = e ∙ ap (λ l. l ++ rest) is.encoded ∙ append_assoc (word_bytes (base_of values)) is.inner rest

-- where no block of the packing follows the base
pub none_inside : {Param : Type 0} (base_of : List ℕ → ℕ) (differences_of : List ℕ → List ℕ) (encodes : Param → List ℕ → List ℕ → Type 0) (param : Param) (bytes inner : List ℕ)
    → inner ≡ drop 8 bytes → NoBlock encodes param inner → (values encoding rest : List ℕ) → IsCascade base_of differences_of (encodes param) values encoding → bytes ≡ encoding ++ rest → ⊥
none_inside base_of differences_of encodes param bytes inner after none values encoding rest is e =
    let all = rest_after base_of differences_of (encodes param) values bytes encoding rest is e in
    none (differences_of values) is.inner rest is.differences
    (after ∙ ap (drop 8) all ∙ drop_at (word_bytes (base_of values)) (is.inner ++ rest) 8 (length-word_bytes (base_of values)))

-- bytes that a base and a rest make up
pub made_up : (base : ℕ) (bytes inner : List ℕ) → word_bytes base ≡ take 8 bytes → inner ≡ drop 8 bytes → bytes ≡ word_bytes base ++ inner
made_up base bytes inner front after = sym (take-append-drop 8 bytes) ∙ ap₂ (λ a b. a ++ b) (sym front) (sym after)

-- where base and differences belong to no block
pub not_allowed : {Param Head : Type 0} (base_of : List ℕ → ℕ) (differences_of : List ℕ → List ℕ) (encodes : Param → List ℕ → List ℕ → Type 0) (block_head : Param → List ℕ → Head) (param : Param) (base count : ℕ) (bytes inner ds : List ℕ)
    → IsPacking encodes block_head → base < 2 ^ 64 → word_bytes base ≡ take 8 bytes → inner ≡ drop 8 bytes → encodes param ds (take count inner)
    → ((values : List ℕ) → IsSplit base_of differences_of base values ds → ⊥)
    → (values encoding rest : List ℕ) → IsCascade base_of differences_of (encodes param) values encoding → bytes ≡ encoding ++ rest → ⊥
not_allowed base_of differences_of encodes block_head param base count bytes inner ds p word front after encoded none values encoding rest is e =
    let all : word_bytes base ++ inner ≡ word_bytes (base_of values) ++ (is.inner ++ rest) = sym (made_up base bytes inner front after) ∙ rest_after base_of differences_of (encodes param) values bytes encoding rest is e in
    let same : base ≡ base_of values = same_word base (base_of values) inner (is.inner ++ rest) word is.word all in
    let whole : take count inner ++ drop count inner ≡ is.inner ++ rest = take-append-drop count inner ∙ same_after_word base (base_of values) inner (is.inner ++ rest) all in
    none values (record { full = is.full; base_is = same; differences_are = (p.front param ds (differences_of values) (take count inner) is.inner (drop count inner) rest encoded is.differences whole).1 })

-- where they belong to one
pub block_found : {Param Head : Type 0} (base_of : List ℕ → ℕ) (differences_of : List ℕ → List ℕ) (encodes : Param → List ℕ → List ℕ → Type 0) (block_head : Param → List ℕ → Head) (param : Param) (base count : ℕ) (head : Head) (bytes inner ds values : List ℕ)
    → IsPacking encodes block_head → base < 2 ^ 64 → word_bytes base ≡ take 8 bytes → inner ≡ drop 8 bytes → 8 ≤ length bytes → BlockAt encodes block_head param inner head count → encodes param ds (take count inner)
    → IsSplit base_of differences_of base values ds
    → BlockAt {Param = Param} {Head = ℕ × Head} (λ (param : Param) (values bytes : List ℕ). IsCascade base_of differences_of (encodes param) values bytes) (λ (param : Param) (values : List ℕ). (base_of values, block_head param (differences_of values))) param bytes (base, head) (8 + count)
block_found base_of differences_of encodes block_head param base count head bytes inner ds values p word front after long at encoded split =
    let are : bytes ≡ word_bytes base ++ inner = made_up base bytes inner front after in
    let cut : take (8 + count) bytes ≡ word_bytes base ++ take count inner = ap (take (8 + count)) are ∙ ap (λ n. take (n + count) (word_bytes base ++ inner)) (sym (length-word_bytes base)) ∙ take-append-add (word_bytes base) inner count in
    let same : ds ≡ at.values = same_block encodes block_head param ds at.values (take count inner) (take count inner) p encoded at.encoded refl in
    let headed : head ≡ block_head param (differences_of values) = at.headed ∙ ap (block_head param) (sym same ∙ split.differences_are) in
    record {
      values = values;
      encoded = cascade_from base_of differences_of (encodes param) base values ds (take (8 + count) bytes) (take count inner) split word encoded cut;
      headed = ap₂ (λ b h. (b, h)) split.base_is headed;
      within = let in_rest = at.within in omega (arith, ap length are, length-append (word_bytes base) inner, length-word_bytes base);
    }
