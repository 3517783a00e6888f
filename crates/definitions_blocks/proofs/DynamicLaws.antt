-- A full block has one encoding that is packed at its own width, and bytes begin with one such block at most.
use Rattle.std.proofs.Common.{◌≡◌, ℕ, ◌+◌, ◌*◌, ◌≤◌, List, ◌∷◌, ◌++◌, length, take, drop, get_or, refl, sym, ap, ◌∙◌, subst, arith, length-append}
use Rattle.std.specs.Prelude.{slice_index}
use Rattle.std.proofs.lemmas.List.{take_at}
use Rattle.definitions_blocks.specs.Words.{AreOctets}
use Rattle.definitions_blocks.specs.Blocks.{IsFull}
use Rattle.definitions_blocks.specs.Packed.{AreBelow, IsPacked, IsWidth}
use Rattle.definitions_blocks.specs.Encodings.{width_of, IsDynamicBlock}
use Rattle.definitions_blocks.proofs.WordLaws.{AreOctets-cons}
use Rattle.definitions_blocks.proofs.PrefixLaws.{same_front}
use Rattle.definitions_blocks.proofs.WidthLaws.{AreBelow-words, width_of-is, IsWidth-width_of, width_of-narrow}
use Rattle.definitions_blocks.proofs.PackedLaws.{packed_one_block, packed_one_encoding, packed_bytes, IsPacked-encoding, IsPacked-full}

-- packed at the width of the block, and the width before it
pub IsDynamicBlock-packed : (width : ℕ) (values packed : List ℕ) → IsPacked width values packed → IsWidth width values → IsDynamicBlock values (width ∷ packed)
IsDynamicBlock-packed width values packed p is =
    let same : width_of values ≡ width = width_of-is width values is p.narrow in
    record { full = IsPacked-full width values packed p; packed = packed; packing = subst (λ w. IsPacked w values packed) (sym same) p; encoded = ap (λ w. w ∷ packed) (sym same) }

-- the width of a block, and the block packed at it
unfoldable pub dynamic_bytes : List ℕ → List ℕ
dynamic_bytes values = width_of values ∷ packed_bytes (width_of values) values

pub IsDynamicBlock-encoding : (values : List ℕ) → IsFull values → IsDynamicBlock values (dynamic_bytes values)
unfolding dynamic_bytes
IsDynamicBlock-encoding values full =
    let small : AreBelow 64 values = AreBelow-words values full.words in
    let is : IsWidth (width_of values) values = IsWidth-width_of values small in
    record {
      full = full;
      packed = packed_bytes (width_of values) values;
      packing = IsPacked-encoding (width_of values) values (width_of-narrow values small) full.whole is.holds;
      encoded = refl;
    }

pub IsDynamicBlock-one : (values a b : List ℕ) → IsDynamicBlock values a → IsDynamicBlock values b → a ≡ b
IsDynamicBlock-one values a b p q =
    p.encoded ∙ ap (λ (l : List ℕ). width_of values ∷ l) (packed_one_encoding (width_of values) values p.packed q.packed p.packing q.packing) ∙ sym q.encoded

pub IsDynamicBlock-size : (values bytes : List ℕ) → IsDynamicBlock values bytes → length bytes ≡ 1 + 128 * width_of values
IsDynamicBlock-size values bytes p = omega (arith, ap length p.encoded, p.packing.size)

-- blocks of one width have encodings of one length
pub IsDynamicBlock-sized : (values others a b : List ℕ) → IsDynamicBlock values a → IsDynamicBlock others b → width_of values ≡ width_of others → length a ≡ length b
IsDynamicBlock-sized values others a b p q same = IsDynamicBlock-size values a p ∙ ap (λ w. 1 + 128 * w) same ∙ sym (IsDynamicBlock-size others b q)

pub IsDynamicBlock-octets : (values bytes : List ℕ) → IsDynamicBlock values bytes → AreOctets bytes
IsDynamicBlock-octets values bytes p = subst AreOctets (sym p.encoded) (AreOctets-cons (width_of values) p.packed (omega (arith, p.packing.narrow)) p.packing.octets)

-- what bytes that begin with a block begin with
pub record BeginsDynamic (values bytes : List ℕ) : Type 0 where
  pub first : get_or bytes 0 0 ≡ width_of values
  pub narrow : width_of values ≤ 64
  pub room : 1 + 128 * width_of values ≤ length bytes
  pub packing : IsPacked (width_of values) values (take (128 * width_of values) (drop 1 bytes))
  pub width : IsWidth (width_of values) values

pub begins_dynamic : (values encoding rest bytes : List ℕ) → IsDynamicBlock values encoding → bytes ≡ encoding ++ rest → BeginsDynamic values bytes
begins_dynamic values encoding rest bytes p e =
    let w = width_of values in
    let cells : bytes ≡ w ∷ (p.packed ++ rest) = e ∙ ap (λ (l : List ℕ). l ++ rest) p.encoded in
    let packed : take (128 * w) (drop 1 bytes) ≡ p.packed = ap (λ (l : List ℕ). take (128 * w) (drop 1 l)) cells ∙ take_at p.packed rest (128 * w) p.packing.size in
    record {
      first = ap (λ l. get_or l 0 0) cells;
      narrow = p.packing.narrow;
      room = omega (arith, ap length cells, length-append p.packed rest, p.packing.size);
      packing = subst (λ l. IsPacked w values l) (sym packed) p.packing;
      width = IsWidth-width_of values (AreBelow-words values p.full.words);
    }

-- where two encodings begin the same bytes, they are one, and of one block
pub IsDynamicBlock-front : (values others a b x y : List ℕ) → IsDynamicBlock values a → IsDynamicBlock others b → a ++ x ≡ b ++ y → (a ≡ b) × (values ≡ others)
IsDynamicBlock-front values others a b x y p q e =
    let one = begins_dynamic values a x (a ++ x) p refl in
    let other = begins_dynamic others b y (a ++ x) q e in
    let same : width_of values ≡ width_of others = sym one.first ∙ other.first in
    let front : a ≡ b = same_front a b x y (IsDynamicBlock-size values a p ∙ ap (λ w. 1 + 128 * w) same ∙ sym (IsDynamicBlock-size others b q)) e in
    let packing : IsPacked (width_of others) values (take (128 * width_of others) (drop 1 (a ++ x))) =
    subst (λ w. IsPacked w values (take (128 * w) (drop 1 (a ++ x)))) same one.packing in
    (front, packed_one_block (width_of others) values others (take (128 * width_of others) (drop 1 (a ++ x))) packing other.packing)

-- the width at the front
pub IsDynamicBlock-head : (values bytes : List ℕ) → IsDynamicBlock values bytes → slice_index bytes 0 ≡ width_of values
IsDynamicBlock-head values bytes is = ap (λ l. get_or l 0 0) is.encoded
