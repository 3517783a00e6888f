-- Lemmas on tokens.
use Rattle.std.proofs.Common.{◌≡◌, ℕ, ◌+◌, ◌*◌, ◌-◌, ◌^◌, ◌<◌, ◌≤◌, Bool, true, false, cond, ◌&&◌, ◌||◌, zero, suc, ◌⊎◌, inl, inr, List, [], ◌∷◌, ◌++◌, Option, Some, None, length, take, get_or, refl, sym, ap, ◌∙◌, subst, arith}
use Rattle.std.proofs.lemmas.Bool.Decides.{nat_tests}
use Rattle.std.proofs.lemmas.List.{length-take, get_or-take}
use Rattle.std.proofs.lemmas.List.Sums.{prefix_len_passes}
use Rattle.std.specs.List.{prefix_len}
use Rattle.std.specs.Option.{option_map}
use Rattle.std.specs.Str.{str_to_ascii_lowercase}
use Rattle.std.specs.Char.{is_ascii_digit}
use Rattle.std.specs.Prelude.{◌==◌, nat_lt}
use Rattle.std.specs.Prelude.{not, nat_le}
use Rattle.std.specs.List.{list_all}
use Rattle.stream_core.specs.Names.{max_name, begins_with_letter, is_name_byte, is_keyword, IsName}
use Rattle.engine_tool.specs.Tokens.{Token, word, number, string, symbol, is_white_space, begins_word, continues_word, front, behind, is_symbol, symbol_of_one, symbol_at, number_of, quoted, token_at, first_token, value_of, value_from, Begins}
use Rattle.engine_tool.specs.Texts.{LacksToken, HasToken}

-- the first token of a text is that of the text after white space
first_token_is : (text : List ℕ) → first_token text ≡ token_at (behind is_white_space text)
unfolding first_token
first_token_is text = refl

-- the answer is not this token
abbrev pub Lacks : Token → Option (Token × List ℕ) → Type 0
Lacks token found = (rest : List ℕ) → found ≡ Some (token, rest) → ⊥

-- the token of an answer
abbrev token_or : Token → Option (Token × List ℕ) → Token
token_or token None = token
token_or token (Some found) = found.0

-- what neither of two answers is, a choice of them is not
Lacks-cond : (token : Token) (b : Bool) (x y : Option (Token × List ℕ)) → Lacks token x → Lacks token y → Lacks token (cond b x y)
Lacks-cond token true x y p q = p
Lacks-cond token false x y p q = q

Lacks-none : (token : Token) → Lacks token None
Lacks-none token rest e = cc

-- what is said of the text after white space is said of the text
pub lacks_token : (text next : List ℕ) (token : Token) → behind is_white_space text ≡ next → Lacks token (token_at next) → LacksToken text token
lacks_token text next token is lacks rest e = lacks rest (ap token_at (sym is) ∙ sym (first_token_is text) ∙ e)

pub has_token : (text next rest : List ℕ) (token : Token) → behind is_white_space text ≡ next → token_at next ≡ Some (token, rest) → HasToken text token rest
has_token text next rest token is e = first_token_is text ∙ ap token_at is ∙ e

-- no token comes at the end
pub lacks_at_end : (token : Token) → Lacks token (token_at [])
lacks_at_end token = Lacks-none token

-- a text that begins with a byte of a word
pub token_at-word : (rest : List ℕ) (a : ℕ) → begins_word a ≡ true
    → token_at (a ∷ rest) ≡ Some (word (str_to_ascii_lowercase (front continues_word (a ∷ rest))), behind continues_word (a ∷ rest))
token_at-word rest a begins = rw begins refl

-- the kinds of tokens differ
string_lacks : (token : Token) → ((bytes : List ℕ) → string bytes ≡ token → ⊥) → (found : Option (List ℕ × List ℕ)) → Lacks token (option_map (λ f. (string f.0, f.1)) found)
string_lacks token differs None rest e = cc
string_lacks token differs (Some f) rest e = differs f.0 (ap (token_or token) e)

number_lacks : (token : Token) → ((value : ℕ) → number value ≡ token → ⊥) → (digits next : List ℕ) → Lacks token (number_of digits next)
number_lacks token differs digits next =
    Lacks-cond token (nat_lt (value_of digits) (2 ^ 64)) _ _ (λ rest e. differs (value_of digits) (ap (token_or token) e)) (Lacks-none token)

one_lacks : (token : Token) (a : ℕ) → (symbol (a ∷ []) ≡ token → ⊥) → (next : List ℕ) → Lacks token (symbol_of_one a next)
one_lacks token a differs next = Lacks-cond token (is_symbol a) _ _ (λ rest e. differs (ap (token_or token) e)) (Lacks-none token)

symbol_lacks : (token : Token) (a : ℕ) → (symbol (a ∷ []) ≡ token → ⊥) → ((b : ℕ) → symbol (a ∷ b ∷ []) ≡ token → ⊥) → (next : List ℕ) → Lacks token (symbol_at a next)
symbol_lacks token a one two [] = one_lacks token a one []
symbol_lacks token a one two (b ∷ next) =
    Lacks-cond token (a == 60 || a == 62) _ _
    (Lacks-cond token (b == 61) _ _ (λ rest e. two b (ap (token_or token) e)) (one_lacks token a one (b ∷ next)))
    (one_lacks token a one (b ∷ next))

-- a token that is no word comes only where no byte of a word does
pub other_lacks : (token : Token) (a : ℕ) (next : List ℕ) → begins_word a ≡ false → ((value : ℕ) → number value ≡ token → ⊥) → ((bytes : List ℕ) → string bytes ≡ token → ⊥)
    → (symbol (a ∷ []) ≡ token → ⊥) → ((b : ℕ) → symbol (a ∷ b ∷ []) ≡ token → ⊥) → Lacks token (token_at (a ∷ next))
other_lacks token a next begins no_number no_string one two =
    rw begins
    (Lacks-cond token (is_ascii_digit a) _ _ (number_lacks token no_number (front is_ascii_digit (a ∷ next)) (behind is_ascii_digit (a ∷ next)))
    (Lacks-cond token (a == 39) _ _ (string_lacks token no_string (quoted next)) (symbol_lacks token a one two next)))

-- no word begins with another byte
pub word_lacks : (lower : List ℕ) (a : ℕ) (next : List ℕ) → begins_word a ≡ false → Lacks (word lower) (token_at (a ∷ next))
word_lacks lower a next begins = other_lacks (word lower) a next begins (λ value e. cc) (λ bytes e. cc) (λ e. cc) (λ b e. cc)

-- no parenthesis begins with another byte
pub symbol_lacks_other : (expected a : ℕ) (next : List ℕ) → (a ≡ expected → ⊥) → Lacks (symbol (expected ∷ [])) (token_at (a ∷ next))
symbol_lacks_other expected a next differs =
    elim (begins_word a) as (λ b. begins_word a ≡ b → Lacks (symbol (expected ∷ [])) (token_at (a ∷ next))) [
      | true ↦ λ is rest e. (let wrong = ap (token_or (word [])) (sym (token_at-word next a is) ∙ e) in cc)
      | false ↦ λ is. other_lacks (symbol (expected ∷ [])) a next is (λ value e. cc) (λ bytes e. cc) (λ e. differs cc) (λ b e. cc)
    ] refl

-- a parenthesis is a token
token_at-open : (next : List ℕ) → token_at (40 ∷ next) ≡ Some (symbol (40 ∷ []), next)
token_at-open [] = refl
token_at-open (b ∷ next) = refl

token_at-close : (next : List ℕ) → token_at (41 ∷ next) ≡ Some (symbol (41 ∷ []), next)
token_at-close [] = refl
token_at-close (b ∷ next) = refl

pub token_at-parenthesis : (a : ℕ) (next : List ℕ) → (a ≡ 40) ⊎ (a ≡ 41) → token_at (a ∷ next) ≡ Some (symbol (a ∷ []), next)
token_at-parenthesis a next (inl e) = subst (λ n. token_at (n ∷ next) ≡ Some (symbol (n ∷ []), next)) (sym e) (token_at-open next)
token_at-parenthesis a next (inr e) = subst (λ n. token_at (n ∷ next) ≡ Some (symbol (n ∷ []), next)) (sym e) (token_at-close next)

-- the rest of an answer
abbrev rest_or : List ℕ → Option (Token × List ℕ) → List ℕ
rest_or rest None = rest
rest_or rest (Some found) = found.1

-- what follows the first token
pub begins_next : (text next rest : List ℕ) (token other : Token) (tokens : List Token) → HasToken text token next → Begins text (other ∷ tokens) rest → Begins next tokens rest
begins_next text next rest token other tokens has begins =
    subst (λ t. Begins t tokens rest) (ap (rest_or []) (sym begins.1 ∙ has)) begins.2

-- the first token is one
pub begins_same : (text next rest : List ℕ) (token other : Token) (tokens : List Token) → HasToken text token next → Begins text (other ∷ tokens) rest → token ≡ other
begins_same text next rest token other tokens has begins = ap (token_or token) (sym has ∙ begins.1)

-- some tokens, and then others
pub Begins-split : (first second : List Token) (text rest : List ℕ) → Begins text (first ++ second) rest → (middle : List ℕ) × Begins text first middle × Begins middle second rest
Begins-split [] second text rest begins = (text, refl, begins)
Begins-split (token ∷ first) second text rest begins =
    let more = Begins-split first second begins.0 rest begins.2 in (more.0, (begins.0, begins.1, more.1), more.2)

pub Begins-join : (first second : List Token) (text middle rest : List ℕ) → Begins text first middle → Begins middle second rest → Begins text (first ++ second) rest
Begins-join [] second text middle rest p q = subst (λ t. Begins t second rest) (sym p) q
Begins-join (token ∷ first) second text middle rest p q = (p.0, p.1, Begins-join first second p.0 middle rest p.2 q)

-- as many tokens leave the same rest
pub Begins-rest : (first second : List Token) (text one other : List ℕ) → length first ≡ length second → Begins text first one → Begins text second other → one ≡ other
Begins-rest [] [] text one other same p q = sym p ∙ q
Begins-rest [] (b ∷ second) text one other same p q = absurd (omega arith)
Begins-rest (a ∷ first) [] text one other same p q = absurd (omega arith)
Begins-rest (a ∷ first) (b ∷ second) text one other same p q =
    Begins-rest first second p.0 one other (omega arith) p.2 (begins_next text p.0 other a b second p.1 q)

-- ---- numbers

-- digits after a value make it no smaller
value_from-le : (digits : List ℕ) (value : ℕ) → value ≤ value_from value digits
value_from-le [] value = omega arith
value_from-le (digit ∷ digits) value = omega (arith, value_from-le digits (value * 10 + (digit - 48)))

-- the value of all the digits is at least that of some and the next
pub value_of-more : (digits : List ℕ) (before : ℕ) (count : ℕ) → count < length digits → value_from before (take count digits) * 10 + (get_or digits count 0 - 48) ≤ value_from before digits
value_of-more [] before count within = absurd (omega arith)
value_of-more (digit ∷ digits) before zero within = value_from-le digits (before * 10 + (digit - 48))
value_of-more (digit ∷ digits) before (suc count) within = value_of-more digits (before * 10 + (digit - 48)) count (omega arith)

-- a digit begins no word
digit_begins_no_word : (a : ℕ) → is_ascii_digit a ≡ true → begins_word a ≡ false
digit_begins_no_word a is = grind (arith, nat_tests)

-- the bytes at the front of a text are digits
pub front_passes : (test : ℕ → Bool) (text : List ℕ) (k d : ℕ) → k < length (front test text) → test (get_or (front test text) k d) ≡ true
front_passes test text k d within =
    let short : k < prefix_len test text = omega (arith, length-take (prefix_len test text) text) in
    ap test (get_or-take (prefix_len test text) text k d short) ∙ prefix_len_passes test text k d short

-- a text that begins with a digit begins with a number
pub token_at-number : (text : List ℕ) → 0 < length (front is_ascii_digit text) → token_at text ≡ number_of (front is_ascii_digit text) (behind is_ascii_digit text)
token_at-number [] some = absurd (omega arith)
token_at-number (a ∷ text) some =
    elim (is_ascii_digit a) as (λ b. is_ascii_digit a ≡ b → token_at (a ∷ text) ≡ number_of (front is_ascii_digit (a ∷ text)) (behind is_ascii_digit (a ∷ text))) [
      | true ↦ λ digit. rw (digit_begins_no_word a digit, digit) refl
      | false ↦ λ other. absurd (let none = rw other at some in omega arith)
    ] refl

-- a text that doesn't begin with a digit begins with no number
pub number_lacks_digits : (value : ℕ) (text : List ℕ) → length (front is_ascii_digit text) ≡ 0 → Lacks (number value) (token_at text)
number_lacks_digits value [] none = lacks_at_end (number value)
number_lacks_digits value (a ∷ text) none =
    elim (begins_word a) as (λ b. begins_word a ≡ b → Lacks (number value) (token_at (a ∷ text))) [
      | true ↦ λ is rest e. (let wrong = ap (token_or (word [])) (sym (token_at-word text a is) ∙ e) in cc)
      | false ↦ λ is. elim (is_ascii_digit a) as (λ b. is_ascii_digit a ≡ b → Lacks (number value) (token_at (a ∷ text))) [
        | true ↦ λ digit. absurd (let some : length (take (1 + prefix_len is_ascii_digit text) (a ∷ text)) ≡ 0 = rw digit at none in omega (arith, length-take (1 + prefix_len is_ascii_digit text) (a ∷ text)))
        | false ↦ λ other. rw (is, other)
            (Lacks-cond (number value) (a == 39) _ _ (string_lacks (number value) (λ bytes e. cc) (quoted text)) (symbol_lacks (number value) a (λ e. cc) (λ b e. cc) text))
      ] refl
    ] refl

-- digits are a number exactly where their value is small enough
number_of-small : (digits rest : List ℕ) → value_of digits < 2 ^ 64 → number_of digits rest ≡ Some (number (value_of digits), rest)
number_of-small digits rest small =
    elim (nat_lt (value_of digits) (2 ^ 64)) as (λ b. nat_lt (value_of digits) (2 ^ 64) ≡ b → number_of digits rest ≡ Some (number (value_of digits), rest)) [
      | true ↦ λ is. rw is refl
      | false ↦ λ is. absurd (grind (arith, nat_tests))
    ] refl

number_of-large : (digits rest : List ℕ) → (value_of digits < 2 ^ 64 → ⊥) → number_of digits rest ≡ None
number_of-large digits rest large =
    elim (nat_lt (value_of digits) (2 ^ 64)) as (λ b. nat_lt (value_of digits) (2 ^ 64) ≡ b → number_of digits rest ≡ None) [
      | true ↦ λ is. absurd (large (grind (arith, nat_tests)))
      | false ↦ λ is. rw is refl
    ] refl

pub number_found : (text : List ℕ) → 0 < length (front is_ascii_digit text) → value_of (front is_ascii_digit text) < 2 ^ 64
    → token_at text ≡ Some (number (value_of (front is_ascii_digit text)), behind is_ascii_digit text)
number_found text some small = token_at-number text some ∙ number_of-small (front is_ascii_digit text) (behind is_ascii_digit text) small

pub number_lacks_large : (value : ℕ) (text : List ℕ) → 0 < length (front is_ascii_digit text) → (value_of (front is_ascii_digit text) < 2 ^ 64 → ⊥) → Lacks (number value) (token_at text)
number_lacks_large value text some large rest e = let wrong = sym (number_of-large (front is_ascii_digit text) (behind is_ascii_digit text) large) ∙ sym (token_at-number text some) ∙ e in cc

-- ---- names

and_true : (a b : Bool) → (a && b) ≡ true → (a ≡ true) × (b ≡ true)
and_true true b h = (refl, h)
and_true false b h = cc

-- a name is short
pub name_short : (text : List ℕ) → IsName text → length text ≤ 31
name_short text lawful =
    let short = (and_true (begins_with_letter text && list_all is_name_byte text) (nat_le (length text) max_name) (and_true _ (not (is_keyword text)) lawful).0).1 in
    grind (arith, nat_tests)
