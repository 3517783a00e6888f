-- What is read is spelled so.
use Rattle.std.proofs.Common.{◌≡◌, ℕ, zero, suc, Bool, true, false, inl, inr, List, [], ◌∷◌, length, Option, Some, None, Ok, refl, sym, ap, ◌∙◌, subst}
use Rattle.std.specs.Prelude.{codes}
use Rattle.definitions_queries.specs.Tokens.{Token, Placed, name, reserved, number, string}
use Rattle.definitions_queries.specs.Queries.{Word, Literal, of_number, of_text, Test, equal, below, at_most, above, at_least, QueryCondition, compare, QueryKey}
use Rattle.query_text.specs.Reading.{Reader, ◌>>=◌, give, taken, one, chosen, if_next, when, the_reserved, word_of, a_word, placed_of, a_placed, same_word_of, the_word, reserved_at, name_at, literal_at, same_name_at, more_at, more, list_at, second_at, alias_at, sum_at, item_at, single_at, equal_at, between_at, membership_at, test_at, alternative_at, choices_at, alternatives_at, comparison_at, condition_at, direction_at, key_at, where_at, group_at, order_at, selected_at, body_at, close_at, end_at, finish_at, query_at}
use Rattle.definitions_queries.specs.Grammar.{body_part, Part, either, nothing, the, a_name, a_literal, literal_token, PlacedLiteral, more_of, list_of, expression, alias, item, comparison, alternative, alternatives, condition, direction, key, where_part, group_part, order_part, Spells}
use Rattle.query_text.proofs.ReaderLaws.{pair_is, next_ok}
use Rattle.query_text.proofs.ListLaws.{the_reserved-means, bytes_same}

-- ---- steps

-- what is read of a part is spelled so
abbrev pub Sound : {A : Type 0} → Reader A → (A → Part) → Type 0
Sound {A} p part = (tokens : List Placed) (a : A) (rest : List Placed) → p tokens ≡ Ok (a, rest) → part a tokens rest

by_next : {A B : Type 0} (p : Reader A) (f : A → Reader B) (tokens : List Placed) (b : B) (rest : List Placed) (G : Type 0)
    → ((a : A) (middle : List Placed) → p tokens ≡ Ok (a, middle) → f a middle ≡ Ok (b, rest) → G) → (p >>= f) tokens ≡ Ok (b, rest) → G
by_next p f tokens b rest G found e = let x = next_ok (p tokens) f b rest e in found x.0 x.1 x.2 x.3

by_give : {B : Type 0} (G : B → List Placed → Type 0) (a b : B) (tokens rest : List Placed) → give a tokens ≡ Ok (b, rest) → G a tokens → G b rest
by_give G a b tokens rest e holds = let x = pair_is a b tokens rest e in subst (λ r. G b r) x.1 (subst (λ y. G y tokens) x.0 holds)

one-sound : {A : Type 0} (wanted : Placed → Option A) (tokens : List Placed) (a : A) (rest : List Placed) → one wanted tokens ≡ Ok (a, rest)
    → (token : Placed) × (wanted token ≡ Some a) × (tokens ≡ token ∷ rest)
one-sound wanted [] a rest e = absurd cc
one-sound {A} wanted (token ∷ tokens) a rest e = go (wanted token) refl e
  where
    go : (o : Option A) → wanted token ≡ o → taken o token tokens ≡ Ok (a, rest) → (first : Placed) × (wanted first ≡ Some a) × (token ∷ tokens ≡ first ∷ rest)
    go (Some b) is e = let x = pair_is b a tokens rest e in (token, is ∙ ap (λ y. Some y) x.0, ap (λ (r : List Placed). token ∷ r) x.1)
    go None is e = absurd cc

by_if : {A B : Type 0} (wanted : Placed → Option A) (on : A → Reader B) (off : Reader B) (tokens : List Placed) (b : B) (rest : List Placed) (G : Type 0)
    → ((token : Placed) (more : List Placed) (a : A) → wanted token ≡ Some a → tokens ≡ token ∷ more → on a more ≡ Ok (b, rest) → G)
    → (off tokens ≡ Ok (b, rest) → G) → if_next wanted on off tokens ≡ Ok (b, rest) → G
by_if wanted on off [] b rest G first second e = second e
by_if {A} wanted on off (token ∷ tokens) b rest G first second e = go (wanted token) refl e
  where
    go : (o : Option A) → wanted token ≡ o → chosen o on off token tokens ≡ Ok (b, rest) → G
    go (Some a) is e = first token tokens a is refl e
    go None is e = second e

-- ---- tokens

token_is : (token : Placed) (tokens more : List Placed) (kind : Token) → token.token ≡ kind → tokens ≡ token ∷ more → tokens ≡ record { at = token.at; token = kind } ∷ more
token_is token tokens more kind is e = subst (λ t. tokens ≡ record { at = token.at; token = t } ∷ more) is e

reserved-sound : (text : List ℕ) → Sound (reserved_at text) (λ u. the text)
unfolding reserved_at
reserved-sound text tokens u rest e =
    let x = one-sound (the_reserved text) tokens u rest e in
    (x.0.at, token_is x.0 tokens rest (reserved text) (the_reserved-means text x.0 u x.1) x.2)

word-means : (at : ℕ) (token : Token) (word : Word) → word_of at token ≡ Some word → (word.at ≡ at) × (token ≡ name word.text)
word-means at (name text) word e = let same : record { at = at; text = text } ≡ word = cc in (sym (ap (λ (w : Word). w.at) same), ap (λ (w : Word). name w.text) same)
word-means at (reserved text) word e = absurd cc
word-means at (number value) word e = absurd cc
word-means at (string bytes) word e = absurd cc

a_word-is : (token : Placed) (tokens more : List Placed) (word : Word) → a_word token ≡ Some word → tokens ≡ token ∷ more → a_name word tokens more
a_word-is token tokens more word is e =
    let x = word-means token.at token.token word is in
    subst (λ n. tokens ≡ record { at = n; token = name word.text } ∷ more) (sym x.0) (token_is token tokens more (name word.text) x.1 e)

name-sound : Sound name_at a_name
unfolding name_at
name-sound tokens word rest e = let x = one-sound a_word tokens word rest e in a_word-is x.0 tokens rest word x.1 x.2

literal-means : (at : ℕ) (token : Token) (literal : PlacedLiteral) → placed_of at token ≡ Some literal → (literal.at ≡ at) × (token ≡ literal_token literal.value)
literal-means at (name text) literal e = absurd cc
literal-means at (reserved text) literal e = absurd cc
literal-means at (number value) literal e = let same : record { value = of_number value; at = at } ≡ literal = cc in (sym (ap (λ (s : PlacedLiteral). s.at) same), ap (λ (s : PlacedLiteral). literal_token s.value) same)
literal-means at (string bytes) literal e = let same : record { value = of_text bytes; at = at } ≡ literal = cc in (sym (ap (λ (s : PlacedLiteral). s.at) same), ap (λ (s : PlacedLiteral). literal_token s.value) same)

literal-sound : Sound literal_at a_literal
unfolding literal_at
literal-sound tokens literal rest e =
    let x = one-sound a_placed tokens literal rest e in
    let y = literal-means x.0.at x.0.token literal x.1 in
    subst (λ n. tokens ≡ record { at = n; token = literal_token literal.value } ∷ rest) (sym y.0) (token_is x.0 tokens rest (literal_token literal.value) y.1 x.2)

when-true : (b : Bool) (u : Unit {0}) → when b ≡ Some u → b ≡ true
when-true true u e = refl
when-true false u e = absurd cc

same_word-means : (text : List ℕ) (token : Token) (u : Unit {0}) → same_word_of text token ≡ Some u → token ≡ name text
same_word-means text (name other) u e = ap name (sym (bytes_same text other (when-true _ u e)))
same_word-means text (reserved other) u e = absurd cc
same_word-means text (number value) u e = absurd cc
same_word-means text (string bytes) u e = absurd cc

same_name-sound : (text : List ℕ) → Sound (same_name_at text) (λ u tokens rest. (at : ℕ) × a_name (record { at = at; text = text }) tokens rest)
unfolding same_name_at
same_name-sound text tokens u rest e =
    let x = one-sound (the_word text) tokens u rest e in
    (x.0.at, token_is x.0 tokens rest (name text) (same_word-means text x.0.token u x.1) x.2)

-- ---- parts

-- a part, and then another: what is said of what follows the first part
abbrev pub After : {A B : Type 0} → (A → Part) → A → (B → Part) → B → Part
After first a whole b middle rest = (tokens : List Placed) → first a tokens middle → whole b tokens rest

pub Sound-next : {A B : Type 0} (p : Reader A) (f : A → Reader B) (first : A → Part) (whole : B → Part) → Sound p first → ((a : A) → Sound (f a) (After first a whole)) → Sound (p >>= f) whole
Sound-next p f first whole one two tokens b rest e = let x = next_ok (p tokens) f b rest e in two x.0 x.1 b rest x.3 tokens (one tokens x.0 x.1 x.2)

pub Sound-give : {B : Type 0} (b : B) (whole : B → Part) → ((tokens : List Placed) → whole b tokens tokens) → Sound (give b) whole
Sound-give b whole holds tokens c rest e = by_give (λ y r. whole y tokens r) b c tokens rest e (holds tokens)

pub Sound-reserved : {B : Type 0} (text : List ℕ) (on : Unit {0} → Reader B) (off : Reader B) (whole : B → Part)
    → ((u : Unit {0}) → Sound (on u) (After (λ u. the text) u whole)) → Sound off whole → Sound (if_next (the_reserved text) on off) whole
Sound-reserved text on off whole one two tokens b rest e =
    by_if (the_reserved text) on off tokens b rest (whole b tokens rest)
    (λ token more u is split e1. one u more b rest e1 tokens (token.at, token_is token tokens more (reserved text) (the_reserved-means text token u is) split))
    (two tokens b rest) e

Sound-word : {B : Type 0} (on : Word → Reader B) (off : Reader B) (whole : B → Part)
    → ((word : Word) → Sound (on word) (After a_name word whole)) → Sound off whole → Sound (if_next a_word on off) whole
Sound-word on off whole one two tokens b rest e =
    by_if a_word on off tokens b rest (whole b tokens rest)
    (λ token more word is split e1. one word more b rest e1 tokens (a_word-is token tokens more word is split))
    (two tokens b rest) e

-- ---- lists

more_at-sound : {A : Type 0} (separator : List ℕ) (p : Reader A) (part : A → Part) → Sound p part → (n : ℕ) → Sound (more_at separator p n) (more_of separator part)
unfolding more_at
more_at-sound separator p part sound zero = Sound-give [] (more_of separator part) (λ tokens. refl)
more_at-sound separator p part sound (suc n) =
    Sound-reserved separator _ _ _ (λ u. Sound-next _ _ part _ sound (λ a. Sound-next _ _ (more_of separator part) _ (more_at-sound separator p part sound n) (λ later.
    Sound-give _ _ (λ m3 m2 h3 m1 h2 tokens h1. (m1, h1, (m2, h2, h3))))))
    (Sound-give [] (more_of separator part) (λ tokens. refl))

more-sound : {A : Type 0} (separator : List ℕ) (p : Reader A) (part : A → Part) → Sound p part → Sound (more separator p) (more_of separator part)
unfolding more
more-sound separator p part sound tokens = more_at-sound separator p part sound (length tokens) tokens

list-sound : {A : Type 0} (separator : List ℕ) (p : Reader A) (part : A → Part) → Sound p part → Sound (list_at separator p) (list_of separator part)
unfolding list_at
list-sound separator p part sound =
    Sound-next _ _ part _ sound (λ a. Sound-next _ _ (more_of separator part) _ (more-sound separator p part sound) (λ later. Sound-give _ _ (λ m2 m1 h2 tokens h1. (m1, h1, h2))))

-- ---- items

second-sound : (first : Word) → Sound second_at (λ s m1 rest. (tokens : List Placed) → a_name first tokens m1 → expression s.0 first s.1 tokens rest)
unfolding second_at
second-sound first =
    Sound-reserved (codes "*") _ _ _ (λ u. Sound-next _ _ a_name _ name-sound (λ word. Sound-give _ _ (λ m3 m2 second m1 star tokens named. (m1, named, (m2, star, second)))))
    (Sound-reserved (codes "-") _ _ _ (λ u. Sound-next _ _ a_name _ name-sound (λ word. Sound-give _ _ (λ m3 m2 second m1 dash tokens named. (m1, named, (m2, dash, second)))))
    (Sound-give _ _ (λ m1 tokens named. named)))

alias-sound : Sound alias_at alias
unfolding alias_at
alias-sound =
    Sound-reserved (codes "as") _ _ _ (λ u. Sound-next _ _ a_name _ name-sound (λ word. Sound-give _ _ (λ m2 m1 named tokens marked. (m1, marked, named)))) (Sound-give _ _ (λ tokens. refl))

sum-sound : Sound sum_at item
unfolding sum_at
sum-sound =
    Sound-next _ _ _ _ (reserved-sound (codes "sum")) (λ u. Sound-next _ _ _ _ (reserved-sound (codes "(")) (λ u.
    Sound-next _ _ _ _ name-sound (λ first. Sound-next _ _ _ _ (second-sound first) (λ second.
    Sound-next _ _ _ _ (reserved-sound (codes ")")) (λ u. Sound-next _ _ _ _ alias-sound (λ as_word. Sound-give _ _
    (λ m6 m5 h6 m4 h5 m3 h4 m2 h3 m1 h2 tokens h1. (m1, h1, (m2, h2, (m4, h4 m2 h3, (m5, h5, h6)))))))))))

item-sound : Sound item_at item
unfolding item_at
item-sound = Sound-word _ _ _ (λ word. Sound-give _ _ (λ m1 tokens named. named)) sum-sound

-- ---- conditions

-- behind a column and a reserved
abbrev Compared : Word → List ℕ → QueryCondition → Part
Compared word sign c m2 rest = (m1 : List Placed) → the sign m1 m2 → (tokens : List Placed) → a_name word tokens m1 → condition c tokens rest

single-sound : (word : Word) (sign : List ℕ) (make : Literal → Test)
    → ((value : Literal) (places : List ℕ) (tokens rest : List Placed) → comparison word sign value places tokens rest → condition (compare word (make value) places) tokens rest)
    → Sound (single_at word make) (Compared word sign)
unfolding single_at
single-sound word sign make means =
    Sound-next _ _ a_literal _ literal-sound (λ literal. Sound-give _ _ (λ m3 m2 h3 m1 h2 tokens h1. means literal.value (literal.at ∷ []) tokens m3 (literal.at, refl, (m1, h1, (m2, h2, h3)))))

equal-sound : (word : Word) → Sound (equal_at word) (Compared word (codes "="))
unfolding equal_at
equal-sound word =
    Sound-word _ _ _ (λ right. Sound-give _ _ (λ m3 m2 h3 m1 h2 tokens h1. (m1, h1, (m2, h2, h3)))) (single-sound word (codes "=") equal (λ value places tokens rest h. h))

between-sound : (word : Word) → Sound (between_at word) (Compared word (codes "between"))
unfolding between_at
between-sound word =
    Sound-next _ _ a_literal _ literal-sound (λ low. Sound-next _ _ _ _ (reserved-sound (codes "and")) (λ u. Sound-next _ _ a_literal _ literal-sound (λ high.
    Sound-give _ _ (λ m5 m4 h5 m3 h4 m2 h3 m1 h2 tokens h1. (low.at, high.at, refl, (m1, h1, (m2, h2, (m3, h3, (m4, h4, h5)))))))))

membership-sound : (word : Word) → Sound (membership_at word) (λ c m1 rest. (tokens : List Placed) → a_name word tokens m1 → condition c tokens rest)
unfolding membership_at
membership-sound word =
    Sound-next _ _ _ _ (reserved-sound (codes "in")) (λ u. Sound-next _ _ _ _ (reserved-sound (codes "(")) (λ u.
    Sound-next _ _ _ _ (list-sound (codes ",") literal_at a_literal literal-sound) (λ literals. Sound-next _ _ _ _ (reserved-sound (codes ")")) (λ u.
    Sound-give _ _ (λ m5 m4 h5 m3 h4 m2 h3 m1 h2 tokens h1. (literals, refl, refl, inl (m1, h1, (m2, h2, (m3, h3, (m4, h4, h5))))))))))

test-sound : (word : Word) → Sound (test_at word) (λ c m1 rest. (tokens : List Placed) → a_name word tokens m1 → condition c tokens rest)
unfolding test_at
test-sound word =
    Sound-reserved (codes "=") _ _ _ (λ u. equal-sound word)
    (Sound-reserved (codes "<") _ _ _ (λ u. single-sound word (codes "<") below (λ value places tokens rest h. h))
    (Sound-reserved (codes "<=") _ _ _ (λ u. single-sound word (codes "<=") at_most (λ value places tokens rest h. h))
    (Sound-reserved (codes ">") _ _ _ (λ u. single-sound word (codes ">") above (λ value places tokens rest h. h))
    (Sound-reserved (codes ">=") _ _ _ (λ u. single-sound word (codes ">=") at_least (λ value places tokens rest h. h))
    (Sound-reserved (codes "between") _ _ _ (λ u. between-sound word) (membership-sound word))))))

alternative-sound : (text : List ℕ) → Sound (alternative_at text) (alternative text)
unfolding alternative_at
alternative-sound text =
    Sound-next _ _ _ _ (same_name-sound text) (λ u. Sound-next _ _ _ _ (reserved-sound (codes "=")) (λ u literal_tokens literal rest e m1 h2 tokens h1.
    (h1.0, (m1, h1.1, (literal_tokens, h2, literal-sound literal_tokens literal rest e)))))

-- the first literal and the further alternatives
abbrev Choices : List ℕ → List PlacedLiteral → Part
Choices text [] tokens rest = ⊥
Choices text (first ∷ others) tokens rest = (middle : List Placed) × a_literal first tokens middle × more_of (codes "or") (alternative text) others middle rest

choices-sound : (text : List ℕ) → Sound (choices_at text) (Choices text)
unfolding choices_at
choices-sound text =
    Sound-next _ _ _ _ literal-sound (λ first. Sound-next _ _ _ _ (more-sound (codes "or") (alternative_at text) (alternative text) (alternative-sound text)) (λ others.
    Sound-give _ _ (λ m2 m1 h2 tokens h1. (m1, h1, h2))))

choices-within : (word : Word) (literals : List PlacedLiteral) (tokens m1 m2 m3 m4 rest : List Placed) → the (codes "(") tokens m1 → a_name word m1 m2 → the (codes "=") m2 m3 → Choices word.text literals m3 m4 → the (codes ")") m4 rest
    → alternatives word literals tokens rest
choices-within word [] tokens m1 m2 m3 m4 rest h1 h2 h3 h4 h5 = absurd h4
choices-within word (first ∷ others) tokens m1 m2 m3 m4 rest h1 h2 h3 h4 h5 = (m1, h1, (m2, h2, (m3, h3, (h4.0, h4.1, (m4, h4.2, h5)))))

alternatives-sound : Sound alternatives_at (λ c m1 rest. (tokens : List Placed) → the (codes "(") tokens m1 → condition c tokens rest)
unfolding alternatives_at
alternatives-sound =
    Sound-next _ _ _ _ name-sound (λ word. Sound-next _ _ _ _ (reserved-sound (codes "=")) (λ u. Sound-next _ _ _ _ (choices-sound word.text) (λ literals.
    Sound-next _ _ _ _ (reserved-sound (codes ")")) (λ u. Sound-give _ _ (λ m5 m4 h5 m3 h4 m2 h3 m1 h2 tokens h1.
    (literals, refl, refl, inr (choices-within word literals tokens m1 m2 m3 m4 m5 h1 h2 h3 h4 h5)))))))

condition-sound : Sound condition_at condition
unfolding condition_at comparison_at
condition-sound = Sound-reserved (codes "(") _ _ _ (λ u. alternatives-sound) (Sound-next _ _ _ _ name-sound test-sound)

-- ---- queries

direction-sound : Sound direction_at direction
unfolding direction_at
direction-sound =
    Sound-reserved (codes "asc") _ _ _ (λ u. Sound-give _ _ (λ m1 tokens marked. inr marked))
    (Sound-reserved (codes "desc") _ _ _ (λ u. Sound-give _ _ (λ m1 tokens marked. marked)) (Sound-give _ _ (λ tokens. inl refl)))

key-sound : Sound key_at key
unfolding key_at
key-sound = Sound-next _ _ _ _ name-sound (λ word. Sound-next _ _ _ _ direction-sound (λ falling. Sound-give _ _ (λ m2 m1 h2 tokens h1. (m1, h1, h2))))

where-behind : (conditions : List QueryCondition) (tokens m1 rest : List Placed) → the (codes "where") tokens m1 → list_of (codes "and") condition conditions m1 rest → where_part conditions tokens rest
where-behind [] tokens m1 rest marked h = absurd h
where-behind (first ∷ others) tokens m1 rest marked h = (m1, marked, h)

where-sound : Sound where_at where_part
unfolding where_at
where-sound =
    Sound-reserved (codes "where") _ _ _
    (λ u m1 conditions rest e tokens h1. where-behind conditions tokens m1 rest h1 (list-sound (codes "and") condition_at condition condition-sound m1 conditions rest e))
    (Sound-give [] where_part (λ tokens. refl))

group-behind : (groups : List Word) (tokens m1 m2 rest : List Placed) → the (codes "group") tokens m1 → the (codes "by") m1 m2 → list_of (codes ",") a_name groups m2 rest → group_part groups tokens rest
group-behind [] tokens m1 m2 rest marked by h = absurd h
group-behind (first ∷ others) tokens m1 m2 rest marked by h = (m1, marked, (m2, by, h))

group-sound : Sound group_at group_part
unfolding group_at
group-sound =
    Sound-reserved (codes "group") _ _ _
    (λ u. Sound-next _ _ _ _ (reserved-sound (codes "by")) (λ u m2 groups rest e m1 h2 tokens h1. group-behind groups tokens m1 m2 rest h1 h2 (list-sound (codes ",") name_at a_name name-sound m2 groups rest e)))
    (Sound-give [] group_part (λ tokens. refl))

order-behind : (order : List QueryKey) (tokens m1 m2 rest : List Placed) → the (codes "order") tokens m1 → the (codes "by") m1 m2 → list_of (codes ",") key order m2 rest → order_part order tokens rest
order-behind [] tokens m1 m2 rest marked by h = absurd h
order-behind (first ∷ others) tokens m1 m2 rest marked by h = (m1, marked, (m2, by, h))

order-sound : Sound order_at order_part
unfolding order_at
order-sound =
    Sound-reserved (codes "order") _ _ _
    (λ u. Sound-next _ _ _ _ (reserved-sound (codes "by")) (λ u m2 order rest e m1 h2 tokens h1. order-behind order tokens m1 m2 rest h1 h2 (list-sound (codes ",") key_at key key-sound m2 order rest e)))
    (Sound-give [] order_part (λ tokens. refl))

abbrev closing : Unit {0} → Part
closing u = either nothing (the (codes ";"))

close-sound : Sound close_at closing
unfolding close_at
close-sound = Sound-reserved (codes ";") _ _ _ (λ u. Sound-give _ _ (λ m1 tokens marked. inr marked)) (Sound-give _ _ (λ tokens. inl refl))

-- a query after `select`
pub selected-sound : Sound selected_at (λ query m1 rest. (tokens : List Placed) → the (codes "select") tokens m1 → body_part query tokens rest)
unfolding selected_at
selected-sound =
    Sound-next _ _ _ _ (list-sound (codes ",") item_at item item-sound) (λ items.
    Sound-next _ _ _ _ (reserved-sound (codes "from")) (λ u. Sound-next _ _ _ _ (list-sound (codes ",") name_at a_name name-sound) (λ tables.
    Sound-next _ _ _ _ where-sound (λ conditions. Sound-next _ _ _ _ group-sound (λ groups. Sound-next _ _ _ _ order-sound (λ order.
    Sound-give _ _ (λ m7 m6 h7 m5 h6 m4 h5 m3 h4 m2 h3 m1 h2 tokens h1. (m1, h1, (m2, h2, (m3, h3, (m4, h4, (m5, h5, (m6, h6, h7)))))))))))))

-- a query without its end
pub body-sound : Sound body_at body_part
unfolding body_at
body-sound = Sound-next _ _ _ _ (reserved-sound (codes "select")) (λ u. selected-sound)

pub end-sound : Sound end_at (λ u tokens rest. (tokens ≡ []) × (rest ≡ []))
unfolding end_at
end-sound [] u rest e = (refl, sym (pair_is tt u [] rest e).1)
end-sound (token ∷ tokens) u rest e = absurd cc

finish-sound : Sound finish_at (λ u tokens rest. either nothing (the (codes ";")) tokens [] × (rest ≡ []))
unfolding finish_at
finish-sound =
    Sound-next _ _ _ _ close-sound (λ u m1 v rest e tokens h1.
    let x = end-sound m1 v rest e in (subst (λ m. either nothing (the (codes ";")) tokens m) x.0 h1, x.1))

-- what is read is spelled so, to the end of the tokens
pub query-sound : Sound query_at (λ query tokens rest. Spells tokens query × (rest ≡ []))
unfolding query_at
query-sound =
    Sound-next _ _ _ _ body-sound (λ query. Sound-next _ _ _ _ finish-sound (λ u. Sound-give _ _ (λ m2 m1 h2 tokens h1. ((m1, h1, h2.0), h2.1))))
