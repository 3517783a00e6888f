-- What is spelled so is read.
use Rattle.std.proofs.Common.{◌≡◌, ℕ, Bool, true, false, ◌||◌, inl, inr, List, [], ◌∷◌, Option, Some, None, Ok, refl, sym, ap, ◌∙◌, subst}
use Rattle.std.specs.Prelude.{codes, map}
use Rattle.definitions_queries.specs.Tokens.{Placed, name, reserved}
use Rattle.definitions_queries.specs.Queries.{Word, SumShape, plain, product, difference, column, sum, Literal, of_number, of_text, Test, equal, below, at_most, above, at_least, between, one_of, QueryCondition, join, compare, QueryKey, Query}
use Rattle.query_text.specs.Reading.{choice_of, minus_at, from_between, from_at_least, from_above, from_at_most, from_below, desc_at, Reader, next, ◌>>=◌, give, one, if_next, is_reserved, when, the_reserved, a_word, placed_of, a_placed, the_word, reserved_at, name_at, literal_at, same_name_at, more, list_at, second_at, alias_at, sum_at, item_at, single_at, equal_at, between_at, membership_at, test_at, alternative_at, choices_at, alternatives_at, comparison_at, condition_at, direction_at, key_at, where_at, group_at, order_at, selected_at, body_at, close_at, end_at, finish_at, query_at}
use Rattle.definitions_queries.specs.Grammar.{◌⨾◌, body_part, Part, either, nothing, the, a_name, a_literal, literal_token, PlacedLiteral, place_of_literal, more_of, list_of, expression, alias, item, alternative, alternatives, condition, direction, key, where_part, group_part, order_part, Spells}
use Rattle.query_text.proofs.ReaderLaws.{Goes, begins, none, ahead-none, if_off, if_on}
use Rattle.query_text.proofs.ListLaws.{bytes_self, the_reserved-none, or_separator, or_left, or_right, Shortens, Lawful-shortens, more-is}
use Rattle.query_text.proofs.LawfulParts.{OfReserved, but_end, less_but_end, is_name, a_word-none, stars, is_as, directions, commas, Lawful-name, Lawful-literal, Lawful-alternative, Lawful-item, Lawful-condition, Lawful-key}

-- the reader gives this value and leaves this rest
pub record Yields {A : Type 0} (p : Reader A) (tokens : List Placed) (a : A) (rest : List Placed) : Type 0 where
  pub is : p tokens ≡ Ok (a, rest)

-- what is spelled so is read, where nothing follows with which it may go on
abbrev pub Complete : {A : Type 0} → Reader A → (A → Part) → Goes → Type 0
Complete {A} p part goes = (a : A) (tokens rest : List Placed) → part a tokens rest → begins goes rest ≡ false → Yields p tokens a rest

pub Yields-next : {A B : Type 0} (p : Reader A) (f : A → Reader B) (tokens middle rest : List Placed) (a : A) (b : B) → Yields p tokens a middle → Yields (f a) middle b rest → Yields (p >>= f) tokens b rest
Yields-next p f tokens middle rest a b y z = record { is = ap (λ read. next read f) y.is ∙ z.is }

pub Yields-give : {A : Type 0} (a : A) (tokens rest : List Placed) → tokens ≡ rest → Yields (give a) tokens a rest
Yields-give a tokens rest e = record { is = ap (λ (r : List Placed). Ok (a, r)) e }

pub Yields-reserved : (text : List ℕ) (tokens rest : List Placed) → the text tokens rest → Yields (reserved_at text) tokens tt rest
unfolding reserved_at
Yields-reserved text tokens rest h = record { is = subst (λ t. one (the_reserved text) t ≡ Ok (tt, rest)) (sym h.1) (rw (bytes_self text) refl) }

Yields-name : (word : Word) (tokens rest : List Placed) → a_name word tokens rest → Yields name_at tokens word rest
unfolding name_at
Yields-name word tokens rest h = record { is = subst (λ t. one a_word t ≡ Ok (word, rest)) (sym h) refl }

literal-literal : (at : ℕ) (value : Literal) → placed_of at (literal_token value) ≡ Some (record { value = value; at = at })
literal-literal at (of_number value) = refl
literal-literal at (of_text bytes) = refl

Yields-literal : (literal : PlacedLiteral) (tokens rest : List Placed) → a_literal literal tokens rest → Yields literal_at tokens literal rest
unfolding literal_at
Yields-literal literal tokens rest h =
    record { is = subst (λ t. one a_placed t ≡ Ok (literal, rest)) (sym h) (rw (literal-literal literal.at literal.value) refl) }

Yields-same : (text : List ℕ) (at : ℕ) (tokens rest : List Placed) → a_name (record { at = at; text = text }) tokens rest → Yields (same_name_at text) tokens tt rest
unfolding same_name_at
Yields-same text at tokens rest h = record { is = subst (λ t. one (the_word text) t ≡ Ok (tt, rest)) (sym h) (rw (bytes_self text) refl) }

-- ---- two ways

pub Yields-on : {B : Type 0} (text : List ℕ) (on : Unit {0} → Reader B) (off : Reader B) (tokens middle rest : List Placed) (b : B) → the text tokens middle → ((u : Unit {0}) → Yields (on u) middle b rest) → Yields (if_next (the_reserved text) on off) tokens b rest
Yields-on text on off tokens middle rest b h y = record {
  is = ap (if_next (the_reserved text) on off) h.1 ∙ if_on (the_reserved text) on off (record { at = h.0; token = reserved text }) middle tt (ap when (bytes_self text)) ∙ (y tt).is;
}

pub Yields-off : {B : Type 0} (text : List ℕ) (on : Unit {0} → Reader B) (off : Reader B) (tokens rest : List Placed) (b : B) → begins (is_reserved text) tokens ≡ false → Yields off tokens b rest → Yields (if_next (the_reserved text) on off) tokens b rest
Yields-off text on off tokens rest b other y = record { is = if_off (the_reserved text) on off tokens (ahead-none (the_reserved text) (is_reserved text) (the_reserved-none text) tokens other) ∙ y.is }

Yields-word : {B : Type 0} (on : Word → Reader B) (off : Reader B) (tokens middle rest : List Placed) (word : Word) (b : B) → a_name word tokens middle → Yields (on word) middle b rest → Yields (if_next a_word on off) tokens b rest
Yields-word on off tokens middle rest word b h y = record { is = ap (if_next a_word on off) h ∙ y.is }

Yields-no_word : {B : Type 0} (on : Word → Reader B) (off : Reader B) (tokens rest : List Placed) (b : B) → begins is_name tokens ≡ false → Yields off tokens b rest → Yields (if_next a_word on off) tokens b rest
Yields-no_word on off tokens rest b other y = record { is = if_off a_word on off tokens (ahead-none a_word is_name a_word-none tokens other) ∙ y.is }

-- what a part begins with
pub not-reserved : (goes : Goes) (text : List ℕ) (tokens rest : List Placed) → goes (reserved text) ≡ false → the text tokens rest → begins goes tokens ≡ false
not-reserved goes text tokens rest apart h = ap (begins goes) h.1 ∙ apart

not-name : (goes : Goes) (word : Word) (tokens rest : List Placed) → goes (name word.text) ≡ false → a_name word tokens rest → begins goes tokens ≡ false
not-name goes word tokens rest apart h = ap (begins goes) h ∙ apart

literal-no_name : (value : Literal) → is_name (literal_token value) ≡ false
literal-no_name (of_number value) = refl
literal-no_name (of_text bytes) = refl

not-literal : (literal : PlacedLiteral) (tokens rest : List Placed) → a_literal literal tokens rest → begins is_name tokens ≡ false
not-literal literal tokens rest h = ap (begins is_name) h ∙ literal-no_name literal.value

-- ---- lists

more-complete : {A : Type 0} (separator : List ℕ) (p : Reader A) (part : A → Part) (test : Goes) → Shortens p → Complete p part test → test (reserved separator) ≡ false → Complete (more separator p) (more_of separator part) (or_separator test separator)
more-complete {A} separator p part test short complete apart [] tokens rest h stops = record {
  is = more-is separator p short tokens
      ∙ (Yields-off separator (λ _. p >>= λ a. more separator p >>= λ others. give (a ∷ others)) (give []) tokens rest [] (ap (begins (is_reserved separator)) h ∙ right rest stops) (Yields-give [] tokens rest h)).is;
}
  where
    right : (rest : List Placed) → begins (or_separator test separator) rest ≡ false → begins (is_reserved separator) rest ≡ false
    right [] e = refl
    right (token ∷ rest) e = or_right _ _ e
more-complete {A} separator p part test short complete apart (a ∷ later) tokens rest h stops = record {
  is = more-is separator p short tokens
      ∙ (Yields-on separator (λ _. p >>= λ a. more separator p >>= λ others. give (a ∷ others)) (give []) tokens h.0 rest (a ∷ later) h.1
      (λ u. Yields-next p (λ a. more separator p >>= λ others. give (a ∷ others)) h.0 h.2.0 rest a (a ∷ later) (complete a h.0 h.2.0 h.2.1 (stop later h.2.0 h.2.2))
      (Yields-next (more separator p) (λ others. give (a ∷ others)) h.2.0 rest rest later (a ∷ later) (more-complete separator p part test short complete apart later h.2.0 rest h.2.2 stops)
      (Yields-give (a ∷ later) rest rest refl)))).is;
}
  where
    left : (rest : List Placed) → begins (or_separator test separator) rest ≡ false → begins test rest ≡ false
    left [] e = refl
    left (token ∷ rest) e = or_left _ _ e

    stop : (later : List A) (m : List Placed) → more_of separator part later m rest → begins test m ≡ false
    stop [] m h = ap (begins test) h ∙ left rest stops
    stop (b ∷ later) m h = not-reserved test separator m h.0 apart h.1

list-complete : {A : Type 0} (separator : List ℕ) (p : Reader A) (part : A → Part) (test : Goes) → Shortens p → Complete p part test → test (reserved separator) ≡ false → Complete (list_at separator p) (list_of separator part) (or_separator test separator)
unfolding list_at
list-complete separator p part test short complete apart [] tokens rest h stops = absurd h
list-complete {A} separator p part test short complete apart (a ∷ later) tokens rest h stops =
    Yields-next p (λ a. more separator p >>= λ others. give (a ∷ others)) tokens h.0 rest a (a ∷ later) (complete a tokens h.0 h.1 (stop later h.0 h.2))
    (Yields-next (more separator p) (λ others. give (a ∷ others)) h.0 rest rest later (a ∷ later) (more-complete separator p part test short complete apart later h.0 rest h.2 stops)
    (Yields-give (a ∷ later) rest rest refl))
  where
    left : (rest : List Placed) → begins (or_separator test separator) rest ≡ false → begins test rest ≡ false
    left [] e = refl
    left (token ∷ rest) e = or_left _ _ e

    stop : (later : List A) (m : List Placed) → more_of separator part later m rest → begins test m ≡ false
    stop [] m h = ap (begins test) h ∙ left rest stops
    stop (b ∷ later) m h = not-reserved test separator m h.0 apart h.1

-- ---- items

begins-left : (a b : Goes) (tokens : List Placed) → begins (λ token. a token || b token) tokens ≡ false → begins a tokens ≡ false
begins-left a b [] e = refl
begins-left a b (token ∷ tokens) e = or_left _ _ e

begins-right : (a b : Goes) (tokens : List Placed) → begins (λ token. a token || b token) tokens ≡ false → begins b tokens ≡ false
begins-right a b [] e = refl
begins-right a b (token ∷ tokens) e = or_right _ _ e

second-complete : (shape : SumShape) (first : Word) (second : Option Word) (tokens rest : List Placed) → expression shape first second tokens rest → begins stars rest ≡ false
    → (m1 : List Placed) × a_name first tokens m1 × Yields second_at m1 (shape, second) rest
unfolding second_at
second-complete plain first None tokens rest h stops = (
  rest,
  h,
  Yields-off (codes "*") _ _ rest rest (plain, None) (begins-left (is_reserved (codes "*")) (is_reserved (codes "-")) rest stops)
      (Yields-off (codes "-") _ _ rest rest (plain, None) (begins-right (is_reserved (codes "*")) (is_reserved (codes "-")) rest stops) (Yields-give _ rest rest refl)),
)
second-complete plain first (Some word) tokens rest h stops = absurd h
second-complete product first None tokens rest h stops = absurd h
second-complete product first (Some word) tokens rest h stops =
    (h.0, h.1, Yields-on (codes "*") _ minus_at h.0 h.2.0 rest (product, Some word) h.2.1 (λ u. Yields-next _ _ h.2.0 rest rest word (product, Some word) (Yields-name word h.2.0 rest h.2.2) (Yields-give _ rest rest refl)))
second-complete difference first None tokens rest h stops = absurd h
second-complete difference first (Some word) tokens rest h stops = (
  h.0,
  h.1,
  Yields-off (codes "*") (λ _. name_at >>= λ word. give (product, Some word)) _ h.0 rest (difference, Some word) (not-reserved (is_reserved (codes "*")) (codes "-") h.0 h.2.0 refl h.2.1)
      (Yields-on (codes "-") _ (give (plain, None)) h.0 h.2.0 rest (difference, Some word) h.2.1 (λ u. Yields-next _ _ h.2.0 rest rest word (difference, Some word) (Yields-name word h.2.0 rest h.2.2) (Yields-give _ rest rest refl))),
)

alias-complete : Complete alias_at alias is_as
unfolding alias_at
alias-complete None tokens rest h stops = Yields-off (codes "as") _ _ tokens rest None (ap (begins is_as) h ∙ stops) (Yields-give None tokens rest h)
alias-complete (Some word) tokens rest h stops =
    Yields-on (codes "as") _ (give None) tokens h.0 rest (Some word) h.1 (λ u. Yields-next _ _ h.0 rest rest word (Some word) (Yields-name word h.0 rest h.2) (Yields-give _ rest rest refl))

item-complete : Complete item_at item is_as
unfolding item_at sum_at
item-complete (column word) tokens rest h stops = Yields-word (λ word. give (column word)) sum_at tokens rest rest word (column word) h (Yields-give _ rest rest refl)
item-complete (sum shape first second as_word) tokens rest (m1, h1, (m2, h2, (m3, h3, (m4, h4, h5)))) stops =
    let x = second-complete shape first second m2 m3 h3 (not-reserved stars (codes ")") m3 m4 refl h4) in
    let i = sum shape first second as_word in
    Yields-no_word _ _ tokens rest i (not-reserved is_name (codes "sum") tokens m1 refl h1)
    (Yields-next _ _ tokens m1 rest tt i (Yields-reserved (codes "sum") tokens m1 h1) (Yields-next _ _ m1 m2 rest tt i (Yields-reserved (codes "(") m1 m2 h2)
    (Yields-next _ _ m2 x.0 rest first i (Yields-name first m2 x.0 x.1) (Yields-next _ _ x.0 m3 rest (shape, second) i x.2
    (Yields-next _ _ m3 m4 rest tt i (Yields-reserved (codes ")") m3 m4 h4) (Yields-next _ _ m4 rest rest as_word i (alias-complete as_word m4 rest h5 stops)
    (Yields-give i rest rest refl)))))))

-- ---- conditions

-- behind a column and its sign
single-complete : (word : Word) (make : Literal → Test) (value : Literal) (at : ℕ) (tokens rest : List Placed) → a_literal (record { value = value; at = at }) tokens rest
    → Yields (single_at word make) tokens (compare word (make value) (at ∷ [])) rest
unfolding single_at
single-complete word make value at tokens rest h =
    Yields-next _ _ tokens rest rest (record { value = value; at = at }) _ (Yields-literal (record { value = value; at = at }) tokens rest h) (Yields-give _ rest rest refl)

equal-complete : (word : Word) (value : Literal) (at : ℕ) (tokens rest : List Placed) → a_literal (record { value = value; at = at }) tokens rest
    → Yields (equal_at word) tokens (compare word (equal value) (at ∷ [])) rest
unfolding equal_at
equal-complete word value at tokens rest h =
    Yields-no_word _ (single_at word equal) tokens rest _ (not-literal (record { value = value; at = at }) tokens rest h) (single-complete word equal value at tokens rest h)

join-complete : (word right : Word) (tokens rest : List Placed) → a_name right tokens rest → Yields (equal_at word) tokens (join word right) rest
unfolding equal_at
join-complete word right tokens rest h = Yields-word (λ right. give (join word right)) (single_at word equal) tokens rest rest right _ h (Yields-give _ rest rest refl)

between-complete : (word : Word) (low high : PlacedLiteral) (m2 m3 m4 rest : List Placed) → a_literal low m2 m3 → the (codes "and") m3 m4 → a_literal high m4 rest
    → Yields (between_at word) m2 (compare word (between low.value high.value) (low.at ∷ high.at ∷ [])) rest
unfolding between_at
between-complete word low high m2 m3 m4 rest h3 h4 h5 =
    let c = compare word (between low.value high.value) (low.at ∷ high.at ∷ []) in
    Yields-next _ _ m2 m3 rest low c (Yields-literal low m2 m3 h3) (Yields-next _ _ m3 m4 rest tt c (Yields-reserved (codes "and") m3 m4 h4)
    (Yields-next _ _ m4 rest rest high c (Yields-literal high m4 rest h5) (Yields-give c rest rest refl)))

literal-complete : Complete literal_at a_literal none
literal-complete literal tokens rest h stops = Yields-literal literal tokens rest h

membership-complete : (word : Word) (literals : List PlacedLiteral) (m1 m2 m3 m4 rest : List Placed) → the (codes "in") m1 m2 → the (codes "(") m2 m3 → list_of (codes ",") a_literal literals m3 m4 → the (codes ")") m4 rest
    → Yields (membership_at word) m1 (choice_of word literals) rest
unfolding membership_at
membership-complete word literals m1 m2 m3 m4 rest h2 h3 h4 h5 =
    let c = choice_of word literals in
    Yields-next _ _ m1 m2 rest tt c (Yields-reserved (codes "in") m1 m2 h2) (Yields-next _ _ m2 m3 rest tt c (Yields-reserved (codes "(") m2 m3 h3)
    (Yields-next _ _ m3 m4 rest literals c
    (list-complete (codes ",") literal_at a_literal none (Lawful-shortens literal_at none (Lawful-literal none)) literal-complete refl literals m3 m4 h4 (not-reserved (or_separator none (codes ",")) (codes ")") m4 rest refl h5))
    (Yields-next _ _ m4 rest rest tt c (Yields-reserved (codes ")") m4 rest h5) (Yields-give c rest rest refl))))

-- behind a column
test-equal : (word : Word) (m1 m2 rest : List Placed) (c : QueryCondition) → the (codes "=") m1 m2 → Yields (equal_at word) m2 c rest → Yields (test_at word) m1 c rest
unfolding test_at
test-equal word m1 m2 rest c h y = Yields-on (codes "=") (λ _. equal_at word) (from_below word) m1 m2 rest c h (λ u. y)

-- the first way whose reserved stands there
off : {A : Type 0} (text other : List ℕ) (on rest_of : Reader A) (m1 m2 rest : List Placed) (c : A) → is_reserved text (reserved other) ≡ false → the other m1 m2 → Yields rest_of m1 c rest
    → Yields (if_next (the_reserved text) (λ _. on) rest_of) m1 c rest
off text other on rest_of m1 m2 rest c apart h y = Yields-off text (λ _. on) rest_of m1 rest c (not-reserved (is_reserved text) other m1 m2 apart h) y

test-below : (word : Word) (m1 m2 rest : List Placed) (c : QueryCondition) → the (codes "<") m1 m2 → Yields (single_at word below) m2 c rest → Yields (test_at word) m1 c rest
unfolding test_at
test-below word m1 m2 rest c h y =
    off (codes "=") (codes "<") (equal_at word) (from_below word) m1 m2 rest c refl h
    (Yields-on (codes "<") (λ _. single_at word below) (from_at_most word) m1 m2 rest c h (λ u. y))

test-at_most : (word : Word) (m1 m2 rest : List Placed) (c : QueryCondition) → the (codes "<=") m1 m2 → Yields (single_at word at_most) m2 c rest → Yields (test_at word) m1 c rest
unfolding test_at
test-at_most word m1 m2 rest c h y =
    off (codes "=") (codes "<=") (equal_at word) (from_below word) m1 m2 rest c refl h
    (off (codes "<") (codes "<=") (single_at word below) (from_at_most word) m1 m2 rest c refl h
    (Yields-on (codes "<=") (λ _. single_at word at_most) (from_above word) m1 m2 rest c h (λ u. y)))

test-above : (word : Word) (m1 m2 rest : List Placed) (c : QueryCondition) → the (codes ">") m1 m2 → Yields (single_at word above) m2 c rest → Yields (test_at word) m1 c rest
unfolding test_at
test-above word m1 m2 rest c h y =
    off (codes "=") (codes ">") (equal_at word) (from_below word) m1 m2 rest c refl h
    (off (codes "<") (codes ">") (single_at word below) (from_at_most word) m1 m2 rest c refl h
    (off (codes "<=") (codes ">") (single_at word at_most) (from_above word) m1 m2 rest c refl h
    (Yields-on (codes ">") (λ _. single_at word above) (from_at_least word) m1 m2 rest c h (λ u. y))))

test-at_least : (word : Word) (m1 m2 rest : List Placed) (c : QueryCondition) → the (codes ">=") m1 m2 → Yields (single_at word at_least) m2 c rest → Yields (test_at word) m1 c rest
unfolding test_at
test-at_least word m1 m2 rest c h y =
    off (codes "=") (codes ">=") (equal_at word) (from_below word) m1 m2 rest c refl h
    (off (codes "<") (codes ">=") (single_at word below) (from_at_most word) m1 m2 rest c refl h
    (off (codes "<=") (codes ">=") (single_at word at_most) (from_above word) m1 m2 rest c refl h
    (off (codes ">") (codes ">=") (single_at word above) (from_at_least word) m1 m2 rest c refl h
    (Yields-on (codes ">=") (λ _. single_at word at_least) (from_between word) m1 m2 rest c h (λ u. y)))))

test-between : (word : Word) (m1 m2 rest : List Placed) (c : QueryCondition) → the (codes "between") m1 m2 → Yields (between_at word) m2 c rest → Yields (test_at word) m1 c rest
unfolding test_at
test-between word m1 m2 rest c h y =
    off (codes "=") (codes "between") (equal_at word) (from_below word) m1 m2 rest c refl h
    (off (codes "<") (codes "between") (single_at word below) (from_at_most word) m1 m2 rest c refl h
    (off (codes "<=") (codes "between") (single_at word at_most) (from_above word) m1 m2 rest c refl h
    (off (codes ">") (codes "between") (single_at word above) (from_at_least word) m1 m2 rest c refl h
    (off (codes ">=") (codes "between") (single_at word at_least) (from_between word) m1 m2 rest c refl h
    (Yields-on (codes "between") (λ _. between_at word) (membership_at word) m1 m2 rest c h (λ u. y))))))

test-membership : (word : Word) (m1 m2 rest : List Placed) (c : QueryCondition) → the (codes "in") m1 m2 → Yields (membership_at word) m1 c rest → Yields (test_at word) m1 c rest
unfolding test_at
test-membership word m1 m2 rest c h y =
    off (codes "=") (codes "in") (equal_at word) (from_below word) m1 m2 rest c refl h
    (off (codes "<") (codes "in") (single_at word below) (from_at_most word) m1 m2 rest c refl h
    (off (codes "<=") (codes "in") (single_at word at_most) (from_above word) m1 m2 rest c refl h
    (off (codes ">") (codes "in") (single_at word above) (from_at_least word) m1 m2 rest c refl h
    (off (codes ">=") (codes "in") (single_at word at_least) (from_between word) m1 m2 rest c refl h
    (off (codes "between") (codes "in") (between_at word) (membership_at word) m1 m2 rest c refl h y)))))

-- a condition that begins with its column
condition-name : (word : Word) (tokens m1 rest : List Placed) (c : QueryCondition) → a_name word tokens m1 → Yields (test_at word) m1 c rest → Yields condition_at tokens c rest
unfolding condition_at comparison_at
condition-name word tokens m1 rest c h y =
    Yields-off (codes "(") (λ _. alternatives_at) (name_at >>= λ word. test_at word) tokens rest c (not-name (is_reserved (codes "(")) word tokens m1 refl h)
    (Yields-next name_at (λ word. test_at word) tokens m1 rest word c (Yields-name word tokens m1 h) y)

alternative-complete : (text : List ℕ) → Complete (alternative_at text) (alternative text) none
unfolding alternative_at
alternative-complete text literal tokens rest (at, (m1, h1, (m2, h2, h3))) stops =
    Yields-next _ _ tokens m1 rest tt literal (Yields-same text at tokens m1 h1) (Yields-next _ _ m1 m2 rest tt literal (Yields-reserved (codes "=") m1 m2 h2) (Yields-literal literal m2 rest h3))

alternatives-complete : (word : Word) (literals : List PlacedLiteral) (tokens rest : List Placed) → alternatives word literals tokens rest → Yields condition_at tokens (choice_of word literals) rest
unfolding condition_at alternatives_at choices_at
alternatives-complete word [] tokens rest h = absurd h
alternatives-complete word (first ∷ others) tokens rest (m1, h1, (m2, h2, (m3, h3, (m4, h4, (m5, h5, h6))))) =
    let c = choice_of word (first ∷ others) in
    Yields-on (codes "(") (λ _. alternatives_at) comparison_at tokens m1 rest c h1 (λ u.
    Yields-next _ _ m1 m2 rest word c (Yields-name word m1 m2 h2) (Yields-next _ _ m2 m3 rest tt c (Yields-reserved (codes "=") m2 m3 h3)
    (Yields-next _ _ m3 m5 rest (first ∷ others) c
    (Yields-next _ _ m3 m4 m5 first (first ∷ others) (Yields-literal first m3 m4 h4) (Yields-next _ _ m4 m5 m5 others (first ∷ others)
    (more-complete (codes "or") (alternative_at word.text) (alternative word.text) none (Lawful-shortens (alternative_at word.text) none (Lawful-alternative word.text)) (alternative-complete word.text) refl others m4 m5 h5
    (not-reserved (or_separator none (codes "or")) (codes ")") m5 rest refl h6))
    (Yields-give (first ∷ others) m5 m5 refl)))
    (Yields-next _ _ m5 rest rest tt c (Yields-reserved (codes ")") m5 rest h6) (Yields-give c rest rest refl)))))

-- a condition by what its places are
at_places : (word : Word) (test : Test) (tokens rest : List Placed) (places other : List ℕ) → places ≡ other → Yields condition_at tokens (compare word test other) rest → Yields condition_at tokens (compare word test places) rest
at_places word test tokens rest places other e y = subst (λ p. Yields condition_at tokens (compare word test p) rest) (sym e) y

pub condition-complete : Complete condition_at condition none
condition-complete (join left right) tokens rest (m1, h1, (m2, h2, h3)) stops =
    condition-name left tokens m1 rest _ h1 (test-equal left m1 m2 rest _ h2 (join-complete left right m2 rest h3))
condition-complete (compare word (equal value) places) tokens rest (at, e, (m1, h1, (m2, h2, h3))) stops =
    at_places word (equal value) tokens rest places _ e (condition-name word tokens m1 rest _ h1 (test-equal word m1 m2 rest _ h2 (equal-complete word value at m2 rest h3)))
condition-complete (compare word (below value) places) tokens rest (at, e, (m1, h1, (m2, h2, h3))) stops =
    at_places word (below value) tokens rest places _ e (condition-name word tokens m1 rest _ h1 (test-below word m1 m2 rest _ h2 (single-complete word below value at m2 rest h3)))
condition-complete (compare word (at_most value) places) tokens rest (at, e, (m1, h1, (m2, h2, h3))) stops =
    at_places word (at_most value) tokens rest places _ e (condition-name word tokens m1 rest _ h1 (test-at_most word m1 m2 rest _ h2 (single-complete word at_most value at m2 rest h3)))
condition-complete (compare word (above value) places) tokens rest (at, e, (m1, h1, (m2, h2, h3))) stops =
    at_places word (above value) tokens rest places _ e (condition-name word tokens m1 rest _ h1 (test-above word m1 m2 rest _ h2 (single-complete word above value at m2 rest h3)))
condition-complete (compare word (at_least value) places) tokens rest (at, e, (m1, h1, (m2, h2, h3))) stops =
    at_places word (at_least value) tokens rest places _ e (condition-name word tokens m1 rest _ h1 (test-at_least word m1 m2 rest _ h2 (single-complete word at_least value at m2 rest h3)))
condition-complete (compare word (between low high) places) tokens rest (from, to, e, (m1, h1, (m2, h2, (m3, h3, (m4, h4, h5))))) stops =
    at_places word (between low high) tokens rest places _ e (condition-name word tokens m1 rest _ h1 (test-between word m1 m2 rest _ h2
    (between-complete word (record { value = low; at = from }) (record { value = high; at = to }) m2 m3 m4 rest h3 h4 h5)))
condition-complete (compare word (one_of values) places) tokens rest (literals, e1, e2, inl (m1, h1, (m2, h2, (m3, h3, (m4, h4, h5))))) stops =
    at_places word (one_of values) tokens rest places _ e2 (subst (λ v. Yields condition_at tokens (compare word (one_of v) (map place_of_literal literals)) rest) (sym e1)
    (condition-name word tokens m1 rest _ h1 (test-membership word m1 m2 rest _ h2 (membership-complete word literals m1 m2 m3 m4 rest h2 h3 h4 h5))))
condition-complete (compare word (one_of values) places) tokens rest (literals, e1, e2, inr h) stops =
    at_places word (one_of values) tokens rest places _ e2 (subst (λ v. Yields condition_at tokens (compare word (one_of v) (map place_of_literal literals)) rest) (sym e1)
    (alternatives-complete word literals tokens rest h))

-- ---- queries

direction-complete : (falling : Bool) (tokens rest : List Placed) → direction falling tokens rest → begins directions rest ≡ false → Yields direction_at tokens falling rest
unfolding direction_at
direction-complete false tokens rest (inl h) stops =
    Yields-off (codes "asc") (λ _. give false) desc_at tokens rest false (ap (begins (is_reserved (codes "asc"))) h ∙ begins-left (is_reserved (codes "asc")) (is_reserved (codes "desc")) rest stops)
    (Yields-off (codes "desc") (λ _. give true) (give false) tokens rest false (ap (begins (is_reserved (codes "desc"))) h ∙ begins-right (is_reserved (codes "asc")) (is_reserved (codes "desc")) rest stops) (Yields-give false tokens rest h))
direction-complete false tokens rest (inr h) stops = Yields-on (codes "asc") (λ _. give false) desc_at tokens rest rest false h (λ u. Yields-give false rest rest refl)
direction-complete true tokens rest h stops =
    Yields-off (codes "asc") (λ _. give false) desc_at tokens rest true (not-reserved (is_reserved (codes "asc")) (codes "desc") tokens rest refl h)
    (Yields-on (codes "desc") (λ _. give true) (give false) tokens rest rest true h (λ u. Yields-give true rest rest refl))

key-complete : Complete key_at key directions
unfolding key_at
key-complete k tokens rest (m1, h1, h2) stops =
    Yields-next _ _ tokens m1 rest k.word k (Yields-name k.word tokens m1 h1) (Yields-next _ _ m1 rest rest k.falling k (direction-complete k.falling m1 rest h2 stops) (Yields-give k rest rest refl))

name-complete : Complete name_at a_name none
name-complete word tokens rest h stops = Yields-name word tokens rest h

-- what the last parts begin with
pub closing-begins : (goes : Goes) (m rest : List Placed) → goes (reserved (codes ";")) ≡ false → begins goes rest ≡ false → either nothing (the (codes ";")) m rest → begins goes m ≡ false
closing-begins goes m rest apart stops (inl h) = ap (begins goes) h ∙ stops
closing-begins goes m rest apart stops (inr h) = not-reserved goes (codes ";") m rest apart h

where-begins : (goes : Goes) (conditions : List QueryCondition) (m rest : List Placed) → goes (reserved (codes "where")) ≡ false → begins goes rest ≡ false → where_part conditions m rest → begins goes m ≡ false
where-begins goes [] m rest apart stops h = ap (begins goes) h ∙ stops
where-begins goes (first ∷ others) m rest apart stops h = not-reserved goes (codes "where") m h.0 apart h.1

group-begins : (goes : Goes) (groups : List Word) (m rest : List Placed) → goes (reserved (codes "group")) ≡ false → begins goes rest ≡ false → group_part groups m rest → begins goes m ≡ false
group-begins goes [] m rest apart stops h = ap (begins goes) h ∙ stops
group-begins goes (first ∷ others) m rest apart stops h = not-reserved goes (codes "group") m h.0 apart h.1

order-begins : (goes : Goes) (order : List QueryKey) (m rest : List Placed) → goes (reserved (codes "order")) ≡ false → begins goes rest ≡ false → order_part order m rest → begins goes m ≡ false
order-begins goes [] m rest apart stops h = ap (begins goes) h ∙ stops
order-begins goes (first ∷ others) m rest apart stops h = not-reserved goes (codes "order") m h.0 apart h.1

where-complete : (conditions : List QueryCondition) (tokens rest : List Placed) → where_part conditions tokens rest → begins (is_reserved (codes "where")) rest ≡ false → begins (or_separator none (codes "and")) rest ≡ false → Yields where_at tokens conditions rest
unfolding where_at
where-complete [] tokens rest h apart stops = Yields-off (codes "where") (λ _. list_at (codes "and") condition_at) (give []) tokens rest [] (ap (begins (is_reserved (codes "where"))) h ∙ apart) (Yields-give [] tokens rest h)
where-complete (first ∷ others) tokens rest h apart stops =
    Yields-on (codes "where") (λ _. list_at (codes "and") condition_at) (give []) tokens h.0 rest (first ∷ others) h.1
    (λ u. list-complete (codes "and") condition_at condition none (Lawful-shortens condition_at none Lawful-condition) condition-complete refl (first ∷ others) h.0 rest h.2 stops)

group-complete : (groups : List Word) (tokens rest : List Placed) → group_part groups tokens rest → begins (is_reserved (codes "group")) rest ≡ false → begins commas rest ≡ false → Yields group_at tokens groups rest
unfolding group_at
group-complete [] tokens rest h apart stops = Yields-off (codes "group") (λ _. reserved_at (codes "by") >>= λ _. list_at (codes ",") name_at) (give []) tokens rest [] (ap (begins (is_reserved (codes "group"))) h ∙ apart) (Yields-give [] tokens rest h)
group-complete (first ∷ others) tokens rest (m1, h1, (m2, h2, h3)) apart stops =
    Yields-on (codes "group") (λ _. reserved_at (codes "by") >>= λ _. list_at (codes ",") name_at) (give []) tokens m1 rest (first ∷ others) h1
    (λ u. Yields-next _ _ m1 m2 rest tt (first ∷ others) (Yields-reserved (codes "by") m1 m2 h2)
    (list-complete (codes ",") name_at a_name none (Lawful-shortens name_at none (Lawful-name none)) name-complete refl (first ∷ others) m2 rest h3 stops))

order-complete : (order : List QueryKey) (tokens rest : List Placed) → order_part order tokens rest → begins (is_reserved (codes "order")) rest ≡ false → begins (or_separator directions (codes ",")) rest ≡ false → Yields order_at tokens order rest
unfolding order_at
order-complete [] tokens rest h apart stops = Yields-off (codes "order") (λ _. reserved_at (codes "by") >>= λ _. list_at (codes ",") key_at) (give []) tokens rest [] (ap (begins (is_reserved (codes "order"))) h ∙ apart) (Yields-give [] tokens rest h)
order-complete (first ∷ others) tokens rest (m1, h1, (m2, h2, h3)) apart stops =
    Yields-on (codes "order") (λ _. reserved_at (codes "by") >>= λ _. list_at (codes ",") key_at) (give []) tokens m1 rest (first ∷ others) h1
    (λ u. Yields-next _ _ m1 m2 rest tt (first ∷ others) (Yields-reserved (codes "by") m1 m2 h2)
    (list-complete (codes ",") key_at key directions (Lawful-shortens key_at directions Lawful-key) key-complete refl (first ∷ others) m2 rest h3 stops))

begins-less : (test : Goes) → OfReserved test → (m : List Placed) → begins but_end m ≡ false → begins test m ≡ false
begins-less test of_marks [] e = refl
begins-less test of_marks (token ∷ m) e = less_but_end test of_marks token.token e

-- a query after `select`
abbrev pub selected_part : Query → Part
selected_part query =
    list_of (codes ",") item query.items ⨾ the (codes "from") ⨾ list_of (codes ",") a_name query.tables
    ⨾ where_part query.conditions ⨾ group_part query.groups ⨾ order_part query.order

pub selected-complete : Complete selected_at selected_part but_end
unfolding selected_at
selected-complete q m1 rest (m2, h2, (m3, h3, (m4, h4, (m5, h5, (m6, h6, h7))))) stops =
    let m6_begins : (test : Goes) → OfReserved test → test (reserved (codes "order")) ≡ false → begins test m6 ≡ false = λ test of b. order-begins test q.order m6 rest b (begins-less test of rest stops) h7 in
    let m5_begins : (test : Goes) → OfReserved test → test (reserved (codes "order")) ≡ false → test (reserved (codes "group")) ≡ false → begins test m5 ≡ false =
    λ test of b c. group-begins test q.groups m5 m6 c (m6_begins test of b) h6 in
    let m4_begins : (test : Goes) → OfReserved test → test (reserved (codes "order")) ≡ false → test (reserved (codes "group")) ≡ false → test (reserved (codes "where")) ≡ false → begins test m4 ≡ false =
    λ test of b c d. where-begins test q.conditions m4 m5 d (m5_begins test of b c) h5 in
    let of_commas : OfReserved commas = record { names = λ x. refl; numbers = λ x. refl; strings = λ x. refl; end = refl } in
    let of_where : OfReserved (is_reserved (codes "where")) = record { names = λ x. refl; numbers = λ x. refl; strings = λ x. refl; end = refl } in
    let of_and : OfReserved (or_separator none (codes "and")) = record { names = λ x. refl; numbers = λ x. refl; strings = λ x. refl; end = refl } in
    let of_group : OfReserved (is_reserved (codes "group")) = record { names = λ x. refl; numbers = λ x. refl; strings = λ x. refl; end = refl } in
    let of_order : OfReserved (is_reserved (codes "order")) = record { names = λ x. refl; numbers = λ x. refl; strings = λ x. refl; end = refl } in
    let of_keys : OfReserved (or_separator directions (codes ",")) = record { names = λ x. refl; numbers = λ x. refl; strings = λ x. refl; end = refl } in
    Yields-next _ _ m1 m2 rest q.items q (list-complete (codes ",") item_at item is_as (Lawful-shortens item_at is_as Lawful-item) item-complete refl q.items m1 m2 h2 (not-reserved (or_separator is_as (codes ",")) (codes "from") m2 m3 refl h3))
    (Yields-next _ _ m2 m3 rest tt q (Yields-reserved (codes "from") m2 m3 h3)
    (Yields-next _ _ m3 m4 rest q.tables q (list-complete (codes ",") name_at a_name none (Lawful-shortens name_at none (Lawful-name none)) name-complete refl q.tables m3 m4 h4 (m4_begins commas of_commas refl refl refl))
    (Yields-next _ _ m4 m5 rest q.conditions q (where-complete q.conditions m4 m5 h5 (m5_begins (is_reserved (codes "where")) of_where refl refl) (m5_begins (or_separator none (codes "and")) of_and refl refl))
    (Yields-next _ _ m5 m6 rest q.groups q (group-complete q.groups m5 m6 h6 (m6_begins (is_reserved (codes "group")) of_group refl) (m6_begins commas of_commas refl))
    (Yields-next _ _ m6 rest rest q.order q (order-complete q.order m6 rest h7 (begins-less (is_reserved (codes "order")) of_order rest stops) (begins-less (or_separator directions (codes ",")) of_keys rest stops))
    (Yields-give q rest rest refl))))))

-- a query without its end
pub body-complete : Complete body_at body_part but_end
unfolding body_at
body-complete q tokens rest (m1, h1, h) stops =
    Yields-next (reserved_at (codes "select")) (λ _. selected_at) tokens m1 rest tt q (Yields-reserved (codes "select") tokens m1 h1) (selected-complete q m1 rest h stops)

close-complete : (m : List Placed) → either nothing (the (codes ";")) m [] → Yields close_at m tt []
unfolding close_at
close-complete m (inl h) = Yields-off (codes ";") (λ _. give tt) (give tt) m [] tt (ap (begins (is_reserved (codes ";"))) h) (Yields-give tt m [] h)
close-complete m (inr h) = Yields-on (codes ";") (λ _. give tt) (give tt) m [] [] tt h (λ u. Yields-give tt [] [] refl)

Yields-end : Yields end_at [] tt []
unfolding end_at
Yields-end = record { is = refl }

Yields-finish : (m : List Placed) → either nothing (the (codes ";")) m [] → Yields finish_at m tt []
unfolding finish_at
Yields-finish m h = Yields-next _ _ m [] [] tt tt (close-complete m h) Yields-end

-- what is spelled so to its end is read
pub query-complete : (query : Query) (tokens : List Placed) → Spells tokens query → Yields query_at tokens query []
unfolding query_at
query-complete q tokens h =
    Yields-next _ _ tokens h.0 [] q q (body-complete q tokens h.0 h.1 (closing-begins but_end h.0 [] refl refl h.2))
    (Yields-next _ _ h.0 [] [] tt q (Yields-finish h.0 h.2) (Yields-give q [] [] refl))
