-- The parts of the grammar are read lawfully.
use Rattle.std.proofs.Common.{◌≡◌, ℕ, Bool, true, false, ◌||◌, inl, inr, List, [], ◌∷◌, Option, Some, None, Ok, Err, refl, sym, ap, ◌∙◌}
use Rattle.std.specs.Prelude.{codes, not}
use Rattle.std.specs.Str.{bytes_eq}
use Rattle.definitions_queries.specs.Tokens.{Token, Placed, name, reserved, number, string}
use Rattle.definitions_queries.specs.Queries.{Word, Literal, of_number, Test, equal, below, at_most, above, at_least}
use Rattle.definitions_queries.specs.Grammar.{PlacedLiteral}
use Rattle.query_text.specs.Reading.{Reader, give, if_next, is_reserved, when, the_reserved, word_of, a_word, placed_of, a_placed, the_word, name_at, literal_at, same_name_at, more, second_at, alias_at, sum_at, item_at, single_at, equal_at, between_at, membership_at, test_at, alternative_at, choices_at, alternatives_at, comparison_at, condition_at, direction_at, key_at, where_at, group_at, order_at, selected_at, body_at, close_at, end_at, finish_at, query_at}
use Rattle.query_text.proofs.ReaderLaws.{Goes, May, head_of, refused_at, begins, pair_is, next_ok, none, Apart, Lawful, LawfulAt, Lawful-one, Lawful-give, Lawful-next, Lawful-then, Lawful-if, Lawful-weaken}
use Rattle.query_text.proofs.ListLaws.{Firm, bytes_self, bytes_same, the_reserved-none, reserved_refused, Firm-next, Firm-one, Firm-if, Firm-reserved, Apart-firm, Apart-give, Apart-next, Apart-if, Lawful-reserved, or_separator, or_left, or_right, Lawful-more, Lawful-list}

abbrev pub is_name : Goes
is_name (name text) = true
is_name (reserved text) = false
is_name (number value) = false
is_name (string bytes) = false

word_of-none : (at : ℕ) (token : Token) → is_name token ≡ false → word_of at token ≡ None
word_of-none at (name text) e = absurd cc
word_of-none at (reserved text) e = refl
word_of-none at (number value) e = refl
word_of-none at (string bytes) e = refl

pub a_word-none : (token : Placed) → is_name token.token ≡ false → a_word token ≡ None
a_word-none token e = word_of-none token.at token.token e

pub Lawful-name : (goes : Goes) → Lawful name_at goes
unfolding name_at
Lawful-name goes = Lawful-one a_word goes (record { at = 0; token = name (codes "a") }) (record { at = 0; text = codes "a" }) refl

pub Lawful-literal : (goes : Goes) → Lawful literal_at goes
unfolding literal_at
Lawful-literal goes = Lawful-one a_placed goes (record { at = 0; token = number 0 }) (record { value = of_number 0; at = 0 }) refl

pub Lawful-same_name : (text : List ℕ) (goes : Goes) → Lawful (same_name_at text) goes
unfolding same_name_at
Lawful-same_name text goes = Lawful-one (the_word text) goes (record { at = 0; token = name text }) tt (ap when (bytes_self text))

abbrev pub stars : Goes
stars token = is_reserved (codes "*") token || is_reserved (codes "-") token

pub Lawful-second : Lawful second_at stars
unfolding second_at
Lawful-second =
    Lawful-if _ _ _ (is_reserved (codes "*")) stars (the_reserved-none (codes "*"))
    (Apart-if _ _ _ _ _ (reserved_refused (is_reserved (codes "*")) (codes "-") refl) (Apart-give (is_reserved (codes "*")) stars _ (λ token e. or_left _ _ e)))
    (λ u. Lawful-then _ _ stars (Lawful-name none) (λ word. Lawful-give _ stars))
    (Lawful-if _ _ _ (is_reserved (codes "-")) stars (the_reserved-none (codes "-")) (Apart-give (is_reserved (codes "-")) stars _ (λ token e. or_right _ _ e))
    (λ u. Lawful-then _ _ stars (Lawful-name none) (λ word. Lawful-give _ stars)) (Lawful-give _ stars))

abbrev pub is_as : Goes
is_as = is_reserved (codes "as")

pub Lawful-alias : Lawful alias_at is_as
unfolding alias_at
Lawful-alias =
    Lawful-if _ _ _ is_as is_as (the_reserved-none (codes "as")) (Apart-give is_as is_as _ (λ token e. e))
    (λ u. Lawful-then _ _ is_as (Lawful-name none) (λ word. Lawful-give _ is_as)) (Lawful-give _ is_as)

pub Lawful-sum : Lawful sum_at is_as
unfolding sum_at
Lawful-sum =
    Lawful-then _ _ is_as (Lawful-reserved (codes "sum") none) (λ u.
    Lawful-then _ _ is_as (Lawful-reserved (codes "(") none) (λ u.
    Lawful-then _ _ is_as (Lawful-name none) (λ first.
    Lawful-next _ _ stars is_as Lawful-second (λ second.
    Lawful-then _ _ is_as (Lawful-reserved (codes ")") none) (λ u.
    Lawful-next _ _ is_as is_as Lawful-alias (λ as_word. Lawful-give _ is_as) (λ as_word. Apart-give is_as is_as _ (λ token e. e))))
    (λ second. Apart-firm stars is_as _ (Firm-next stars _ _ (Firm-reserved stars (codes ")") refl))))))

pub Lawful-item : Lawful item_at is_as
unfolding item_at sum_at
Lawful-item =
    Lawful-if _ _ _ is_name is_as a_word-none (Apart-firm is_name is_as _ (Firm-next is_name _ _ (Firm-reserved is_name (codes "sum") refl)))
    (λ word. Lawful-give _ is_as) Lawful-sum

-- ---- conditions

pub Lawful-single : (word : Word) (make : Literal → Test) → Lawful (single_at word make) none
unfolding single_at
Lawful-single word make = Lawful-then _ _ none (Lawful-literal none) (λ literal. Lawful-give _ none)

literal_refused : (token : Placed) (literal : PlacedLiteral) → a_placed token ≡ Some literal → is_name token.token ≡ false
literal_refused token literal e = go token.token e
  where
    go : (t : Token) → placed_of token.at t ≡ Some literal → is_name t ≡ false
    go (name text) e = absurd cc
    go (reserved text) e = refl
    go (number value) e = refl
    go (string bytes) e = refl

Firm-literal : Firm is_name literal_at
unfolding literal_at
Firm-literal = Firm-one is_name a_placed literal_refused

pub Lawful-equal : (word : Word) → Lawful (equal_at word) none
unfolding equal_at single_at
Lawful-equal word =
    Lawful-if _ _ _ is_name none a_word-none (Apart-firm is_name none _ (Firm-next is_name _ _ Firm-literal)) (λ right. Lawful-give _ none) (Lawful-single word equal)

pub Lawful-between : (word : Word) → Lawful (between_at word) none
unfolding between_at
Lawful-between word =
    Lawful-then _ _ none (Lawful-literal none) (λ low. Lawful-then _ _ none (Lawful-reserved (codes "and") none) (λ u.
    Lawful-then _ _ none (Lawful-literal none) (λ high. Lawful-give _ none)))

pub Lawful-membership : (word : Word) → Lawful (membership_at word) none
unfolding membership_at
Lawful-membership word =
    Lawful-then _ _ none (Lawful-reserved (codes "in") none) (λ u. Lawful-then _ _ none (Lawful-reserved (codes "(") none) (λ u.
    Lawful-next _ _ (or_separator none (codes ",")) none (Lawful-list (codes ",") literal_at none (Lawful-literal none) refl) (λ literals.
    Lawful-then _ _ none (Lawful-reserved (codes ")") none) (λ u. Lawful-give _ none))
    (λ literals. Apart-firm (or_separator none (codes ",")) none _ (Firm-next (or_separator none (codes ",")) _ _ (Firm-reserved (or_separator none (codes ",")) (codes ")") refl)))))

-- a further way behind a reserved that begins no later way
pub Lawful-way : {A : Type 0} (text : List ℕ) (on off : Reader A) → Firm (is_reserved text) off → Lawful on none → Lawful off none → Lawful (if_next (the_reserved text) (λ _. on) off) none
Lawful-way text on off firm first second = Lawful-if _ _ _ (is_reserved text) none (the_reserved-none text) (Apart-firm (is_reserved text) none off firm) (λ u. first) second

Firm-way : {A : Type 0} (test : Goes) (text : List ℕ) (on off : Reader A) → test (reserved text) ≡ false → Firm test off → Firm test (if_next (the_reserved text) (λ _. on) off)
Firm-way test text on off apart firm = Firm-if test _ _ _ (reserved_refused test text apart) firm

Firm-membership : (test : Goes) (word : Word) → test (reserved (codes "in")) ≡ false → Firm test (membership_at word)
unfolding membership_at
Firm-membership test word apart = Firm-next test _ _ (Firm-reserved test (codes "in") apart)

pub Lawful-test : (word : Word) → Lawful (test_at word) none
unfolding test_at
Lawful-test word =
    let marked = λ (text : List ℕ). is_reserved text in
    Lawful-way (codes "=") _ _
    (Firm-way (is_reserved (codes "=")) (codes "<") _ _ refl (Firm-way (is_reserved (codes "=")) (codes "<=") _ _ refl (Firm-way (is_reserved (codes "=")) (codes ">") _ _ refl (Firm-way (is_reserved (codes "=")) (codes ">=") _ _ refl (Firm-way (is_reserved (codes "=")) (codes "between") _ _ refl (Firm-membership (is_reserved (codes "=")) word refl))))))
    (Lawful-equal word)
    (Lawful-way (codes "<") _ _
    (Firm-way (is_reserved (codes "<")) (codes "<=") _ _ refl (Firm-way (is_reserved (codes "<")) (codes ">") _ _ refl (Firm-way (is_reserved (codes "<")) (codes ">=") _ _ refl (Firm-way (is_reserved (codes "<")) (codes "between") _ _ refl (Firm-membership (is_reserved (codes "<")) word refl)))))
    (Lawful-single word below)
    (Lawful-way (codes "<=") _ _
    (Firm-way (is_reserved (codes "<=")) (codes ">") _ _ refl (Firm-way (is_reserved (codes "<=")) (codes ">=") _ _ refl (Firm-way (is_reserved (codes "<=")) (codes "between") _ _ refl (Firm-membership (is_reserved (codes "<=")) word refl))))
    (Lawful-single word at_most)
    (Lawful-way (codes ">") _ _
    (Firm-way (is_reserved (codes ">")) (codes ">=") _ _ refl (Firm-way (is_reserved (codes ">")) (codes "between") _ _ refl (Firm-membership (is_reserved (codes ">")) word refl)))
    (Lawful-single word above)
    (Lawful-way (codes ">=") _ _ (Firm-way (is_reserved (codes ">=")) (codes "between") _ _ refl (Firm-membership (is_reserved (codes ">=")) word refl)) (Lawful-single word at_least)
    (Lawful-way (codes "between") _ _ (Firm-membership (is_reserved (codes "between")) word refl) (Lawful-between word) (Lawful-membership word))))))

pub Lawful-alternative : (text : List ℕ) → Lawful (alternative_at text) none
unfolding alternative_at
Lawful-alternative text = Lawful-then _ _ none (Lawful-same_name text none) (λ u. Lawful-then _ _ none (Lawful-reserved (codes "=") none) (λ u. Lawful-literal none))

pub Lawful-choices : (text : List ℕ) → Lawful (choices_at text) (or_separator none (codes "or"))
unfolding choices_at
Lawful-choices text =
    let goes = or_separator none (codes "or") in
    Lawful-then _ _ goes (Lawful-literal none) (λ first.
    Lawful-next _ _ goes goes (Lawful-more (codes "or") (alternative_at text) none (Lawful-alternative text) refl) (λ others. Lawful-give _ goes) (λ others. Apart-give goes goes _ (λ token e. e)))

pub Lawful-alternatives : Lawful alternatives_at none
unfolding alternatives_at
Lawful-alternatives =
    Lawful-then _ _ none (Lawful-name none) (λ word. Lawful-then _ _ none (Lawful-reserved (codes "=") none) (λ u.
    Lawful-next _ _ (or_separator none (codes "or")) none (Lawful-choices word.text) (λ literals.
    Lawful-then _ _ none (Lawful-reserved (codes ")") none) (λ u. Lawful-give _ none))
    (λ literals. Apart-firm (or_separator none (codes "or")) none _ (Firm-next (or_separator none (codes "or")) _ _ (Firm-reserved (or_separator none (codes "or")) (codes ")") refl)))))

word_refused : (test : Goes) → ((text : List ℕ) → test (name text) ≡ false) → (token : Placed) (word : Word) → a_word token ≡ Some word → test token.token ≡ false
word_refused test names token word e = go token.token e
  where
    go : (t : Token) → word_of token.at t ≡ Some word → test t ≡ false
    go (name text) e = names text
    go (reserved text) e = absurd cc
    go (number value) e = absurd cc
    go (string bytes) e = absurd cc

Firm-name : (test : Goes) → ((text : List ℕ) → test (name text) ≡ false) → Firm test name_at
unfolding name_at
Firm-name test names = Firm-one test a_word (word_refused test names)

pub Lawful-condition : Lawful condition_at none
unfolding condition_at comparison_at
Lawful-condition =
    Lawful-way (codes "(") _ _ (Firm-next (is_reserved (codes "(")) _ _ (Firm-name (is_reserved (codes "(")) (λ text. refl))) Lawful-alternatives
    (Lawful-then _ _ none (Lawful-name none) (λ word. Lawful-test word))

-- ---- queries

abbrev pub directions : Goes
directions token = is_reserved (codes "asc") token || is_reserved (codes "desc") token

pub Lawful-direction : Lawful direction_at directions
unfolding direction_at
Lawful-direction =
    Lawful-if _ _ _ (is_reserved (codes "asc")) directions (the_reserved-none (codes "asc"))
    (Apart-if _ _ _ _ _ (reserved_refused (is_reserved (codes "asc")) (codes "desc") refl) (Apart-give (is_reserved (codes "asc")) directions _ (λ token e. or_left _ _ e)))
    (λ u. Lawful-give _ directions)
    (Lawful-if _ _ _ (is_reserved (codes "desc")) directions (the_reserved-none (codes "desc")) (Apart-give (is_reserved (codes "desc")) directions _ (λ token e. or_right _ _ e))
    (λ u. Lawful-give _ directions) (Lawful-give _ directions))

pub Lawful-key : Lawful key_at directions
unfolding key_at
Lawful-key =
    Lawful-then _ _ directions (Lawful-name none) (λ word.
    Lawful-next _ _ directions directions Lawful-direction (λ falling. Lawful-give _ directions) (λ falling. Apart-give directions directions _ (λ token e. e)))

-- an optional list behind a keyword
pub Lawful-optional : {A : Type 0} (text : List ℕ) (part : Reader (List A)) (goes : Goes) → Lawful part goes → Lawful (if_next (the_reserved text) (λ _. part) (give [])) (or_separator goes text)
Lawful-optional text part goes lawful =
    Lawful-if _ _ _ (is_reserved text) (or_separator goes text) (the_reserved-none text) (Apart-give (is_reserved text) (or_separator goes text) [] (λ token e. or_right _ _ e))
    (λ u. Lawful-weaken part goes (or_separator goes text) (λ token e. or_left _ _ e) lawful) (Lawful-give [] (or_separator goes text))

Apart-optional : {A : Type 0} (test : Goes) (text : List ℕ) (part : Reader (List A)) → test (reserved text) ≡ false → Apart test test (if_next (the_reserved text) (λ _. part) (give []))
Apart-optional test text part apart = Apart-if _ _ _ _ _ (reserved_refused test text apart) (Apart-give test test [] (λ token e. e))

abbrev pub commas : Goes
commas = or_separator none (codes ",")

abbrev pub wheres : Goes
wheres = or_separator (or_separator none (codes "and")) (codes "where")

abbrev pub groups_go : Goes
groups_go = or_separator commas (codes "group")

abbrev pub orders_go : Goes
orders_go = or_separator (or_separator directions (codes ",")) (codes "order")

pub Lawful-where : Lawful where_at wheres
unfolding where_at
Lawful-where = Lawful-optional (codes "where") _ _ (Lawful-list (codes "and") condition_at none Lawful-condition refl)

pub Lawful-group : Lawful group_at groups_go
unfolding group_at
Lawful-group = Lawful-optional (codes "group") _ _ (Lawful-then _ _ commas (Lawful-reserved (codes "by") none) (λ u. Lawful-list (codes ",") name_at none (Lawful-name none) refl))

pub Lawful-order : Lawful order_at orders_go
unfolding order_at
Lawful-order = Lawful-optional (codes "order") _ _
    (Lawful-then _ _ (or_separator directions (codes ",")) (Lawful-reserved (codes "by") none) (λ u. Lawful-list (codes ",") key_at directions Lawful-key refl))

Apart-where : (test : Goes) → test (reserved (codes "where")) ≡ false → Apart test test where_at
unfolding where_at
Apart-where test apart = Apart-optional test (codes "where") _ apart

Apart-group : (test : Goes) → test (reserved (codes "group")) ≡ false → Apart test test group_at
unfolding group_at
Apart-group test apart = Apart-optional test (codes "group") _ apart

Apart-order : (test : Goes) → test (reserved (codes "order")) ≡ false → Apart test test order_at
unfolding order_at
Apart-order test apart = Apart-optional test (codes "order") _ apart

-- a query may go on with any reserved but `;`
abbrev pub but_end : Goes
but_end (name text) = false
but_end (reserved text) = not (bytes_eq (codes ";") text)
but_end (number value) = false
but_end (string bytes) = false

-- a test of marks other than `;`
pub record OfReserved (test : Goes) : Type 0 where
  pub names : (text : List ℕ) → test (name text) ≡ false
  pub numbers : (value : ℕ) → test (number value) ≡ false
  pub strings : (bytes : List ℕ) → test (string bytes) ≡ false
  pub end : test (reserved (codes ";")) ≡ false

not-false : (b : Bool) → not b ≡ false → b ≡ true
not-false true e = refl
not-false false e = absurd cc

pub less_but_end : (test : Goes) → OfReserved test → (token : Token) → but_end token ≡ false → test token ≡ false
less_but_end test m (name text) e = m.names text
less_but_end test m (reserved text) e = let same = bytes_same (codes ";") text (not-false _ e) in ap (λ t. test (reserved t)) (sym same) ∙ m.end
less_but_end test m (number value) e = m.numbers value
less_but_end test m (string bytes) e = m.strings bytes

-- what follows `select`
pub Lawful-selected : Lawful selected_at but_end
unfolding selected_at
Lawful-selected =
    let items_go : Goes = or_separator is_as (codes ",") in
    let of_tables : OfReserved commas = record { names = λ x. refl; numbers = λ x. refl; strings = λ x. refl; end = refl } in
    let of_where : OfReserved wheres = record { names = λ x. refl; numbers = λ x. refl; strings = λ x. refl; end = refl } in
    let of_group : OfReserved groups_go = record { names = λ x. refl; numbers = λ x. refl; strings = λ x. refl; end = refl } in
    let of_order : OfReserved orders_go = record { names = λ x. refl; numbers = λ x. refl; strings = λ x. refl; end = refl } in
    Lawful-next _ _ items_go but_end (Lawful-list (codes ",") item_at is_as Lawful-item refl) (λ items.
    Lawful-then _ _ but_end (Lawful-reserved (codes "from") none) (λ u.
    Lawful-next _ _ commas but_end (Lawful-list (codes ",") name_at none (Lawful-name none) refl) (λ tables.
    Lawful-next _ _ wheres but_end Lawful-where (λ conditions.
    Lawful-next _ _ groups_go but_end Lawful-group (λ groups.
    Lawful-next _ _ orders_go but_end Lawful-order (λ order. Lawful-give _ but_end)
    (λ order. Apart-give orders_go but_end _ (less_but_end orders_go of_order)))
    (λ groups. Apart-next groups_go but_end _ _ (Apart-order groups_go refl) (λ order. Apart-give groups_go but_end _ (less_but_end groups_go of_group))))
    (λ conditions. Apart-next wheres but_end _ _ (Apart-group wheres refl) (λ groups.
    Apart-next wheres but_end _ _ (Apart-order wheres refl) (λ order. Apart-give wheres but_end _ (less_but_end wheres of_where)))))
    (λ tables. Apart-next commas but_end _ _ (Apart-where commas refl) (λ conditions. Apart-next commas but_end _ _ (Apart-group commas refl) (λ groups.
    Apart-next commas but_end _ _ (Apart-order commas refl) (λ order. Apart-give commas but_end _ (less_but_end commas of_tables)))))))
    (λ items. Apart-firm items_go but_end _ (Firm-next items_go _ _ (Firm-reserved items_go (codes "from") refl)))

pub Lawful-body : Lawful body_at but_end
unfolding body_at
Lawful-body = Lawful-then _ _ but_end (Lawful-reserved (codes "select") none) (λ u. Lawful-selected)

abbrev pub any : Goes
any token = true

pub Lawful-end : Lawful end_at any
unfolding end_at
Lawful-end = record { at = at; example = record { ending = []; value = tt; ends = ends } }
  where
    ends : (more : List Placed) → begins any more ≡ false → end_at more ≡ Ok (tt, more)
    ends [] e = refl
    ends (token ∷ more) e = absurd cc

    again : (more rest : List Placed) (u : Unit {0}) → [] ≡ rest → May any rest more → end_at more ≡ Ok (u, more)
    again [] rest u is may = refl
    again (token ∷ more) rest u is (inl e) = let same = ap head_of is in absurd cc
    again (token ∷ more) rest u is (inr e) = absurd cc

    named : (token : Placed) (place : Option ℕ) → refused_at {A = Unit {0}} (Some token.at) ≡ refused_at place → place ≡ Some token.at
    named token place e = cc

    refused : (token : Placed) (tokens more : List Placed) → head_of more ≡ Some token → end_at more ≡ Err (Some token.at)
    refused token tokens [] e = absurd cc
    refused token tokens (other ∷ more) e = let same : other ≡ token = cc in ap (λ (t : Placed). Err (Some t.at)) same

    at : (tokens : List Placed) → LawfulAt end_at any tokens
    at [] = record {
      ok = λ u rest e. let x = pair_is tt u [] rest e in record { front = []; is = x.1; again = λ more may. again more rest u x.1 may };
      err = λ place e. absurd cc;
    }
    at (token ∷ tokens) = record {
      ok = λ u rest e. absurd cc;
      err = λ place e. record { front = []; rest = token ∷ tokens; is = refl; place_is = named token place e; again = λ more same. refused token tokens more same ∙ e; ending = []; value = tt; ends = ends };
    }

pub Firm-end : (test : Goes) → Firm test end_at
unfolding end_at
Firm-end test [] a rest e = refl
Firm-end test (token ∷ tokens) a rest e = absurd cc

abbrev ends_query : Goes
ends_query = is_reserved (codes ";")

pub Lawful-close : Lawful close_at ends_query
unfolding close_at
Lawful-close = Lawful-if _ _ _ ends_query ends_query (the_reserved-none (codes ";")) (Apart-give ends_query ends_query _ (λ token e. e)) (λ u. Lawful-give _ ends_query) (Lawful-give _ ends_query)

Apart-close : Apart but_end but_end close_at
unfolding close_at
Apart-close = Apart-if _ _ _ _ _ (reserved_refused but_end (codes ";") refl) (Apart-give but_end but_end _ (λ token e. e))

Lawful-finish : Lawful finish_at any
unfolding finish_at
Lawful-finish = Lawful-next _ _ ends_query any Lawful-close (λ u. Lawful-end) (λ u. Apart-firm ends_query any _ (Firm-end ends_query))

Firm-finish : Firm but_end finish_at
unfolding finish_at
Firm-finish tokens a rest e =
    let x = next_ok (close_at tokens) (λ _. end_at) a rest e in
    Apart-close tokens x.0 x.1 x.2 (Firm-end but_end x.1 a rest x.3)

pub Lawful-query : Lawful query_at any
unfolding query_at
Lawful-query =
    Lawful-next _ _ but_end any Lawful-body
    (λ query. Lawful-next _ _ any any Lawful-finish (λ u. Lawful-give query any) (λ u. Apart-give any any query (λ token e. e)))
    (λ query. Apart-firm but_end any _ (Firm-next but_end _ _ Firm-finish))
