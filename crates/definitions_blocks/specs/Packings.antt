-- The laws of packings and transforms, and what a check and a fetch say.
use Rattle.std.specs.Prelude.{◌≡◌, ℕ, ◌≤◌, List, ◌++◌, length, take}
use Rattle.definitions_blocks.specs.Words.{AreOctets}
use Rattle.definitions_blocks.specs.Blocks.{IsFull}

-- The laws of a relation between full blocks and bytes under a param, in which each block has a head: what is related is a
-- full block and bytes; a block has one encoding at most; no encoding is a proper prefix of another, and bytes are the
-- encoding of one block at most; the head says how long the encoding is.
pub record IsPacking {Param Head : Type 0} (encodes : Param → List ℕ → List ℕ → Type 0) (block_head : Param → List ℕ → Head) : Type 0 where
  pub full : (param : Param) (values bytes : List ℕ) → encodes param values bytes → IsFull values
  pub octets : (param : Param) (values bytes : List ℕ) → encodes param values bytes → AreOctets bytes
  pub one : (param : Param) (values a b : List ℕ) → encodes param values a → encodes param values b → a ≡ b
  pub front : (param : Param) (values others a b x y : List ℕ) → encodes param values a → encodes param others b → a ++ x ≡ b ++ y → (a ≡ b) × (values ≡ others)
  pub sized : (param : Param) (values others a b : List ℕ) → encodes param values a → encodes param others b → block_head param values ≡ block_head param others → length a ≡ length b

-- no prefix of the bytes is a block
abbrev pub NoBlock : {Param : Type 0} → (Param → List ℕ → List ℕ → Type 0) → Param → List ℕ → Type 0
NoBlock encodes param bytes = (values encoding rest : List ℕ) → encodes param values encoding → bytes ≡ encoding ++ rest → ⊥

-- so many bytes at the front are a block, and this is its head
pub record BlockAt {Param Head : Type 0} (encodes : Param → List ℕ → List ℕ → Type 0) (block_head : Param → List ℕ → Head) (param : Param) (bytes : List ℕ) (head : Head) (count : ℕ) : Type 0 where
  pub values : List ℕ
  pub encoded : encodes param values (take count bytes)
  pub headed : head ≡ block_head param values
  pub within : count ≤ length bytes

-- the bytes are a block of this head
pub record IsBlock {Param Head : Type 0} (encodes : Param → List ℕ → List ℕ → Type 0) (block_head : Param → List ℕ → Head) (param : Param) (head : Head) (bytes : List ℕ) : Type 0 where
  pub values : List ℕ
  pub encoded : encodes param values bytes
  pub headed : head ≡ block_head param values

-- The laws of a transform, which gives a base and differences for each full block: the differences are a full block, and
-- base and differences belong to one block at most.
pub record IsTransform {Base : Type 0} (base_of : List ℕ → Base) (differences_of : List ℕ → List ℕ) : Type 0 where
  pub full : (values : List ℕ) → IsFull values → IsFull (differences_of values)
  pub join : (values others : List ℕ) → IsFull values → IsFull others → base_of values ≡ base_of others → differences_of values ≡ differences_of others → values ≡ others

-- base and differences are those of the block
pub record IsSplit {Base : Type 0} (base_of : List ℕ → Base) (differences_of : List ℕ → List ℕ) (base : Base) (values differences : List ℕ) : Type 0 where
  pub full : IsFull values
  pub base_is : base ≡ base_of values
  pub differences_are : differences ≡ differences_of values
