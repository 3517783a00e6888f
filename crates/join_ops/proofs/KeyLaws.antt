-- Whether a value is one of the keys.
use Rattle.std.proofs.Common.{◌≡◌, ◌≢◌, ◌∙◌, ap, refl, sym, ℕ, zero, suc, ◌+◌, ◌<◌, Bool, true, false, List, [], ◌∷◌, ◌++◌, All, length, get_or, is_some, arith, subst, inl, inr, take, length-append, append_assoc}
use Rattle.std.specs.Prelude.{slice_index, ◌==◌, ◌||◌, Option, Some, None}
use Rattle.std.proofs.lemmas.Bool.{eq-eqb, ne_eqb, eqb-true, cases_lt, false≢true}
use Rattle.std.proofs.lemmas.List.{get_or_append_left, get_or_push, take_more}
use Rattle.definitions_operators.specs.Operators.{has}
use Rattle.chain_table.specs.Entries.{IsNewestBelow}
use Rattle.join_ops.specs.KeySets.{HaveSameKeys, AreDistinct}

or_true : (a b : Bool) → b ≡ true → (a || b) ≡ true
or_true true b e = refl
or_true false b e = e

or_left : (a b : Bool) → a ≡ true → (a || b) ≡ true
or_left a b e = ap (λ x. x || b) e

or_none : (a b : Bool) → a ≡ false → b ≡ false → (a || b) ≡ false
or_none a b e f = ap (λ x. x || b) e ∙ f

-- a key at a place is one of the keys
pub has-at : (keys : List ℕ) (key place : ℕ) → place < length keys → slice_index keys place ≡ key → has keys key ≡ true
has-at [] key place within is = absurd (omega arith)
has-at (k ∷ keys) key zero within is = or_left (k == key) (has keys key) (eq-eqb k key is)
has-at (k ∷ keys) key (suc place) within is = or_true (k == key) (has keys key) (has-at keys key place (omega arith) is)

-- what stands at no place is none
pub has-none : (keys : List ℕ) (key : ℕ) → ((place : ℕ) → place < length keys → slice_index keys place ≢ key) → has keys key ≡ false
has-none [] key none = refl
has-none (k ∷ keys) key none = or_none (k == key) (has keys key) (ne_eqb k key (none 0 (omega arith)))
    (has-none keys key (λ place within is. none (suc place) (omega arith) is))

-- # Keys that are added at the end

or_assoc : (a b c : Bool) → ((a || b) || c) ≡ (a || (b || c))
or_assoc true b c = refl
or_assoc false b c = refl

pub or_false : (a : Bool) → (a || false) ≡ a
or_false true = refl
or_false false = refl

pub has-append : (front back : List ℕ) (value : ℕ) → has (front ++ back) value ≡ (has front value || has back value)
has-append [] back value = refl
has-append (key ∷ front) back value =
    ap (λ t. (key == value) || t) (has-append front back value) ∙ sym (or_assoc (key == value) (has front value) (has back value))

absorbed : (a b : Bool) → (b ≡ true → a ≡ true) → a ≡ (a || b)
absorbed true b h = refl
absorbed false true h = h refl
absorbed false false h = refl

one : (key value : ℕ) → has (key ∷ []) value ≡ true → key ≡ value
one key value is = eqb-true key value (sym (or_false (key == value)) ∙ is)

-- one key more
pub same-push : (keys others : List ℕ) (key : ℕ) → HaveSameKeys keys others → HaveSameKeys (keys ++ key ∷ []) (others ++ key ∷ [])
same-push keys others key same = λ value.
    has-append keys (key ∷ []) value ∙ ap (λ t. t || has (key ∷ []) value) (same value) ∙ sym (has-append others (key ∷ []) value)

-- a key that is there already
pub same-there : (keys others : List ℕ) (key : ℕ) → HaveSameKeys keys others → has keys key ≡ true → HaveSameKeys keys (others ++ key ∷ [])
same-there keys others key same there = λ value.
    absorbed (has keys value) (has (key ∷ []) value) (λ is. let at : key ≡ value = one key value is in subst (λ v. has keys v ≡ true) at there)
    ∙ ap (λ t. t || has (key ∷ []) value) (same value) ∙ sym (has-append others (key ∷ []) value)

pub same-append : (keys others back : List ℕ) → HaveSameKeys keys others → HaveSameKeys (keys ++ back) (others ++ back)
same-append keys others back same = λ value.
    has-append keys back value ∙ ap (λ t. t || has back value) (same value) ∙ sym (has-append others back value)

-- one key more of a list
pub same-next : (before set keys : List ℕ) (i : ℕ) → i < length keys → HaveSameKeys set (before ++ take i keys) → HaveSameKeys (set ++ get_or keys i 0 ∷ []) (before ++ take (i + 1) keys)
same-next before set keys i within same key =
    same-push set (before ++ take i keys) (get_or keys i 0) same key
    ∙ ap (λ (l : List ℕ). has l key) (append_assoc before (take i keys) (get_or keys i 0 ∷ []) ∙ ap (λ (l : List ℕ). before ++ l) (sym (take_more keys i 0 within)))

-- # Distinct keys

pub distinct-none : AreDistinct []
distinct-none = λ a b before within. absurd (omega arith)

pub distinct-cons : (key : ℕ) (keys : List ℕ) → All (λ k. key < k) keys → AreDistinct keys → AreDistinct (key ∷ keys)
distinct-cons key keys above distinct zero zero before within = absurd (omega arith)
distinct-cons key keys above distinct (suc a) zero before within = absurd (omega arith)
distinct-cons key keys above distinct zero (suc b) before within = λ same. let more = above b 0 (omega arith) in absurd (omega (arith, more, same))
distinct-cons key keys above distinct (suc a) (suc b) before within = distinct a b (omega arith) (omega arith)

-- one key more, that is none of the others
pub distinct-push : (keys : List ℕ) (key : ℕ) → AreDistinct keys → has keys key ≡ false → AreDistinct (keys ++ key ∷ [])
distinct-push keys key distinct fresh a b before within =
    let long : length (keys ++ key ∷ []) ≡ length keys + 1 = length-append keys (key ∷ []) in
    let left : slice_index (keys ++ key ∷ []) a ≡ slice_index keys a = get_or_append_left keys (key ∷ []) 0 a (omega arith) in
    elim (cases_lt b (length keys)) [
      | inl inside ↦ λ same. distinct a b before inside (sym left ∙ same ∙ get_or_append_left keys (key ∷ []) 0 b inside)
      | inr last ↦ λ same.
          let at : length keys ≡ b = omega arith in
          let here : slice_index keys a ≡ key = sym left ∙ same ∙ get_or_push keys key 0 b at in
          absurd (false≢true (sym fresh ∙ has-at keys key a (omega arith) here))
    ]

-- # Keys in a chain

pub has-found : (keys : List ℕ) (key : ℕ) (found : Option ℕ) → IsNewestBelow keys key (length keys) found → is_some found ≡ has keys key
has-found keys key None none = sym (has-none keys key none)
has-found keys key (Some entry) is = sym (has-at keys key entry is.0 is.1)
