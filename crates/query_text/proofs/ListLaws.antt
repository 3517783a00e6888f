-- Which parts begin with which tokens.
use Rattle.std.proofs.Common.{◌≡◌, ℕ, zero, suc, ◌<◌, ◌≤◌, Bool, true, false, ◌||◌, List, [], ◌∷◌, ◌++◌, length, Option, Some, None, Ok, Err, refl, sym, ap, ◌∙◌, arith}
use Rattle.std.specs.Str.{bytes_eq}
use Rattle.std.proofs.lemmas.Slice.Eq.{bytes_eq-Decides}
use Rattle.definitions_queries.specs.Tokens.{Token, Placed, name, reserved, number, string}
use Rattle.query_text.specs.Reading.{Read, Reader, next, ◌>>=◌, give, taken, one, chosen, if_next, is_reserved, when, the_reserved, reserved_at, more_at, more, list_at}
use Rattle.std.proofs.lemmas.List.{length-append}
use Rattle.query_text.proofs.ReaderLaws.{Goes, begins, Apart, pair_is, next_ok, Lawful, LawfulAt, Example, Lawful-one, Lawful-give, Lawful-next, LawfulAt-next, LawfulAt-if, Example-if, Example-next}

when-true : (b : Bool) (u : Unit {0}) → when b ≡ Some u → b ≡ true
when-true true u e = refl
when-true false u e = absurd cc

pub bytes_same : (xs ys : List ℕ) → bytes_eq xs ys ≡ true → xs ≡ ys
bytes_same xs ys e = (bytes_eq-Decides xs ys).0 e

pub bytes_self : (xs : List ℕ) → bytes_eq xs xs ≡ true
bytes_self xs = (bytes_eq-Decides xs xs).1 refl

reserved-means : (text : List ℕ) (token : Token) → is_reserved text token ≡ true → token ≡ reserved text
reserved-means text (name other) e = absurd cc
reserved-means text (reserved other) e = ap reserved (sym (bytes_same text other e))
reserved-means text (number value) e = absurd cc
reserved-means text (string bytes) e = absurd cc

pub the_reserved-means : (text : List ℕ) (token : Placed) (u : Unit {0}) → the_reserved text token ≡ Some u → token.token ≡ reserved text
the_reserved-means text token u e = reserved-means text token.token (when-true (is_reserved text token.token) u e)

pub the_reserved-none : (text : List ℕ) (token : Placed) → is_reserved text token.token ≡ false → the_reserved text token ≡ None
the_reserved-none text token e = rw e refl

-- a reader takes no text that begins with a token of the test
abbrev pub Firm : {A : Type 0} → Goes → Reader A → Type 0
Firm {A} test p = (tokens : List Placed) (a : A) (rest : List Placed) → p tokens ≡ Ok (a, rest) → begins test tokens ≡ false

pub Apart-firm : {A : Type 0} (test goes : Goes) (p : Reader A) → Firm test p → Apart test goes p
Apart-firm test goes p firm tokens a rest e stops = firm tokens a rest e

pub Apart-give : {A : Type 0} (test goes : Goes) (a : A) → ((token : Token) → goes token ≡ false → test token ≡ false) → Apart test goes (give a)
Apart-give test goes a less [] b rest e stops = refl
Apart-give test goes a less (token ∷ tokens) b rest e stops =
    let same = (pair_is a b (token ∷ tokens) rest e).1 in
    less token.token (ap (begins goes) same ∙ stops)

pub Apart-next : {A B : Type 0} (test goes : Goes) (p : Reader A) (f : A → Reader B) → Apart test test p → ((a : A) → Apart test goes (f a)) → Apart test goes (p >>= f)
Apart-next test goes p f first second tokens b rest e stops =
    let x = next_ok (p tokens) f b rest e in
    first tokens x.0 x.1 x.2 (second x.0 x.1 b rest x.3 stops)

pub Firm-next : {A B : Type 0} (test : Goes) (p : Reader A) (f : A → Reader B) → Firm test p → Firm test (p >>= f)
Firm-next test p f first tokens b rest e = let x = next_ok (p tokens) f b rest e in first tokens x.0 x.1 x.2

pub Firm-one : {A : Type 0} (test : Goes) (wanted : Placed → Option A) → ((token : Placed) (a : A) → wanted token ≡ Some a → test token.token ≡ false) → Firm test (one wanted)
Firm-one test wanted means [] a rest e = refl
Firm-one {A} test wanted means (token ∷ tokens) a rest e = go (wanted token) refl e
  where
    go : (o : Option A) → wanted token ≡ o → taken o token tokens ≡ Ok (a, rest) → test token.token ≡ false
    go (Some b) is e = means token b is
    go None is e = absurd cc

pub Apart-if : {A B : Type 0} (test goes : Goes) (wanted : Placed → Option A) (on : A → Reader B) (off : Reader B)
    → ((token : Placed) (a : A) → wanted token ≡ Some a → test token.token ≡ false) → Apart test goes off → Apart test goes (if_next wanted on off)
Apart-if test goes wanted on off means second [] b rest e stops = refl
Apart-if {A} test goes wanted on off means second (token ∷ tokens) b rest e stops = go (wanted token) refl e
  where
    go : (o : Option A) → wanted token ≡ o → chosen o on off token tokens ≡ Ok (b, rest) → test token.token ≡ false
    go (Some a) is e = means token a is
    go None is e = second (token ∷ tokens) b rest e stops

pub Firm-if : {A B : Type 0} (test : Goes) (wanted : Placed → Option A) (on : A → Reader B) (off : Reader B)
    → ((token : Placed) (a : A) → wanted token ≡ Some a → test token.token ≡ false) → Firm test off → Firm test (if_next wanted on off)
Firm-if test wanted on off means second [] b rest e = refl
Firm-if {A} test wanted on off means second (token ∷ tokens) b rest e = go (wanted token) refl e
  where
    go : (o : Option A) → wanted token ≡ o → chosen o on off token tokens ≡ Ok (b, rest) → test token.token ≡ false
    go (Some a) is e = means token a is
    go None is e = second (token ∷ tokens) b rest e

-- a reserved that the test refuses
pub reserved_refused : (test : Goes) (text : List ℕ) → test (reserved text) ≡ false → (token : Placed) (u : Unit {0}) → the_reserved text token ≡ Some u → test token.token ≡ false
reserved_refused test text apart token u e = ap test (the_reserved-means text token u e) ∙ apart

pub Firm-reserved : (test : Goes) (text : List ℕ) → test (reserved text) ≡ false → Firm test (reserved_at text)
unfolding reserved_at
Firm-reserved test text apart = Firm-one test (the_reserved text) (reserved_refused test text apart)

pub Lawful-reserved : (text : List ℕ) (goes : Goes) → Lawful (reserved_at text) goes
unfolding reserved_at
Lawful-reserved text goes = Lawful-one (the_reserved text) goes (record { at = 0; token = reserved text }) tt (ap when (bytes_self text))

-- ---- lists

pub next_same : {A B : Type 0} (r : Read A) (f g : A → Reader B) → ((a : A) (middle : List Placed) → r ≡ Ok (a, middle) → f a middle ≡ g a middle) → next r f ≡ next r g
next_same (Ok x) f g same = same x.0 x.1 refl
next_same (Err place) f g same = refl

pub chosen_same : {A B : Type 0} (o : Option A) (f g : A → Reader B) (off : Reader B) (token : Placed) (tokens : List Placed) → ((a : A) → f a tokens ≡ g a tokens) → chosen o f off token tokens ≡ chosen o g off token tokens
chosen_same (Some a) f g off token tokens same = same a
chosen_same None f g off token tokens same = refl

-- what is left is no longer
abbrev pub Shortens : {A : Type 0} → Reader A → Type 0
Shortens {A} p = (tokens : List Placed) (a : A) (rest : List Placed) → p tokens ≡ Ok (a, rest) → length rest ≤ length tokens

pub Lawful-shortens : {A : Type 0} (p : Reader A) (goes : Goes) → Lawful p goes → Shortens p
Lawful-shortens p goes l tokens a rest e =
    let t = (l.at tokens).ok a rest e in
    omega (arith, length-append t.front rest, ap length t.is)

more_at-enough : {A : Type 0} (separator : List ℕ) (part : Reader A) → Shortens part → (n m : ℕ) (tokens : List Placed) → length tokens ≤ n → length tokens ≤ m
    → more_at separator part n tokens ≡ more_at separator part m tokens
unfolding more_at
more_at-enough separator part short zero zero tokens p q = refl
more_at-enough separator part short zero (suc m) [] p q = refl
more_at-enough separator part short zero (suc m) (token ∷ tokens) p q = absurd (omega arith)
more_at-enough separator part short (suc n) zero [] p q = refl
more_at-enough separator part short (suc n) zero (token ∷ tokens) p q = absurd (omega arith)
more_at-enough separator part short (suc n) (suc m) [] p q = refl
more_at-enough separator part short (suc n) (suc m) (token ∷ tokens) p q =
    chosen_same (the_reserved separator token)
    (λ _. part >>= λ a. more_at separator part n >>= λ others. give (a ∷ others))
    (λ _. part >>= λ a. more_at separator part m >>= λ others. give (a ∷ others)) (give []) token tokens
    (λ u. next_same (part tokens) (λ a. more_at separator part n >>= λ others. give (a ∷ others)) (λ a. more_at separator part m >>= λ others. give (a ∷ others))
    (λ a middle e. ap (λ read. next read (λ others. give (a ∷ others)))
    (more_at-enough separator part short n m middle (omega (arith, short tokens a middle e)) (omega (arith, short tokens a middle e)))))

-- a list goes on behind a separator
abbrev pub more_body : {A : Type 0} → List ℕ → Reader A → Reader (List A)
more_body separator part = if_next (the_reserved separator) (λ _. part >>= λ a. more separator part >>= λ others. give (a ∷ others)) (give [])

pub more-is : {A : Type 0} (separator : List ℕ) (part : Reader A) → Shortens part → (tokens : List Placed) → more separator part tokens ≡ more_body separator part tokens
unfolding more more_at
more-is separator part short [] = refl
more-is separator part short (token ∷ tokens) =
    more_at-enough separator part short (length (token ∷ tokens)) (suc (length tokens)) (token ∷ tokens) (omega arith) (omega arith)
    ∙ chosen_same (the_reserved separator token)
    (λ _. part >>= λ a. more_at separator part (length tokens) >>= λ others. give (a ∷ others))
    (λ _. part >>= λ a. more separator part >>= λ others. give (a ∷ others)) (give []) token tokens
    (λ u. next_same (part tokens) (λ a. more_at separator part (length tokens) >>= λ others. give (a ∷ others)) (λ a. more separator part >>= λ others. give (a ∷ others))
    (λ a middle e. ap (λ read. next read (λ others. give (a ∷ others)))
    (more_at-enough separator part short (length tokens) (length middle) middle (short tokens a middle e) (omega arith))))

pub LawfulAt-same : {A : Type 0} (p q : Reader A) (goes : Goes) (tokens : List Placed) → ((x : List Placed) → p x ≡ q x) → LawfulAt p goes tokens → LawfulAt q goes tokens
LawfulAt-same p q goes tokens same l = record {
  ok = λ a rest e. let t = l.ok a rest (same tokens ∙ e) in record { front = t.front; is = t.is; again = λ more may. sym (same (t.front ++ more)) ∙ t.again more may };
  err = λ place e. let r = l.err place (same tokens ∙ e) in record {
    front = r.front;
    rest = r.rest;
    is = r.is;
    place_is = r.place_is;
    again = λ more h. sym (same (r.front ++ more)) ∙ r.again more h;
    ending = r.ending;
    value = r.value;
    ends = λ more h. sym (same (r.front ++ (r.ending ++ more))) ∙ r.ends more h;
  };
}

-- a list may go on as its parts do, and with the separator
abbrev pub or_separator : Goes → List ℕ → Goes
or_separator goes separator token = goes token || is_reserved separator token

pub or_left : (a b : Bool) → (a || b) ≡ false → a ≡ false
or_left true b e = absurd cc
or_left false b e = refl

pub or_right : (a b : Bool) → (a || b) ≡ false → b ≡ false
or_right true b e = absurd cc
or_right false b e = e

pub Apart-more : {A : Type 0} (separator : List ℕ) (part : Reader A) (test goes : Goes) → Shortens part → test (reserved separator) ≡ false
    → ((token : Token) → goes token ≡ false → test token ≡ false) → Apart test goes (more separator part)
Apart-more separator part test goes short apart less tokens a rest e stops =
    Apart-if test goes (the_reserved separator) (λ _. part >>= λ a. more separator part >>= λ others. give (a ∷ others)) (give [])
    (reserved_refused test separator apart) (Apart-give test goes [] less) tokens a rest (sym (more-is separator part short tokens) ∙ e) stops

Apart-others : {A : Type 0} (separator : List ℕ) (part : Reader A) (test goes : Goes) → Shortens part → test (reserved separator) ≡ false
    → ((token : Token) → goes token ≡ false → test token ≡ false) → (a : A) → Apart test goes (more separator part >>= λ others. give (a ∷ others))
Apart-others separator part test goes short apart less a =
    Apart-next test goes (more separator part) (λ others. give (a ∷ others)) (Apart-more separator part test test short apart (λ token e. e)) (λ others. Apart-give test goes (a ∷ others) less)

Example-more : {A : Type 0} (separator : List ℕ) (part : Reader A) (goes : Goes) → Shortens part → ((token : Token) → goes token ≡ false → is_reserved separator token ≡ false) → Example (more separator part) goes
Example-more separator part goes short less =
    let e = Example-if (the_reserved separator) (λ _. part >>= λ a. more separator part >>= λ others. give (a ∷ others)) (give []) (is_reserved separator) goes
    (the_reserved-none separator) (Apart-give (is_reserved separator) goes [] less) (Lawful-give [] goes).example in
    record { ending = e.ending; value = e.value; ends = λ more_tokens stops. more-is separator part short (e.ending ++ more_tokens) ∙ e.ends more_tokens stops }

LawfulAt-more : {A : Type 0} (separator : List ℕ) (part : Reader A) (test goes : Goes) → Lawful part test → test (reserved separator) ≡ false
    → ((token : Token) → goes token ≡ false → test token ≡ false) → ((token : Token) → goes token ≡ false → is_reserved separator token ≡ false)
    → (n : ℕ) (tokens : List Placed) → length tokens < n → LawfulAt (more separator part) goes tokens
LawfulAt-more separator part test goes lawful apart less less_too zero tokens lt = absurd (omega arith)
LawfulAt-more separator part test goes lawful apart less less_too (suc n) tokens lt =
    let short = Lawful-shortens part test lawful in
    LawfulAt-same (more_body separator part) (more separator part) goes tokens (λ x. sym (more-is separator part short x))
    (LawfulAt-if (the_reserved separator) (λ _. part >>= λ a. more separator part >>= λ others. give (a ∷ others)) (give []) (is_reserved separator) goes tokens
    (the_reserved-none separator) (Apart-give (is_reserved separator) goes [] less_too)
    (λ token rest u is.
    LawfulAt-next part (λ a. more separator part >>= λ others. give (a ∷ others)) test goes rest (lawful.at rest)
    (λ a middle e. LawfulAt-next (more separator part) (λ others. give (a ∷ others)) goes goes middle
    (LawfulAt-more separator part test goes lawful apart less less_too n middle (omega (arith, ap length is, short rest a middle e)))
    (λ others last e. (Lawful-give (a ∷ others) goes).at last) (λ others. Apart-give goes goes (a ∷ others) (λ token e. e)) (λ others. (Lawful-give (a ∷ others) goes).example))
    (λ a. Apart-others separator part test goes short apart less a)
    (λ a. Example-next (more separator part) (λ others. give (a ∷ others)) goes goes (Example-more separator part goes short less_too)
    (λ others. Apart-give goes goes (a ∷ others) (λ token e. e)) (λ others. (Lawful-give (a ∷ others) goes).example)))
    ((Lawful-give [] goes).at tokens))

pub Lawful-more : {A : Type 0} (separator : List ℕ) (part : Reader A) (test : Goes) → Lawful part test → test (reserved separator) ≡ false → Lawful (more separator part) (or_separator test separator)
Lawful-more separator part test lawful apart =
    let less : (token : Token) → or_separator test separator token ≡ false → test token ≡ false = λ token e. or_left (test token) (is_reserved separator token) e in
    let less_too : (token : Token) → or_separator test separator token ≡ false → is_reserved separator token ≡ false = λ token e. or_right (test token) (is_reserved separator token) e in
    record {
      at = λ tokens. LawfulAt-more separator part test (or_separator test separator) lawful apart less less_too (suc (length tokens)) tokens (omega arith);
      example = Example-more separator part (or_separator test separator) (Lawful-shortens part test lawful) less_too;
    }

pub Lawful-list : {A : Type 0} (separator : List ℕ) (part : Reader A) (test : Goes) → Lawful part test → test (reserved separator) ≡ false → Lawful (list_at separator part) (or_separator test separator)
unfolding list_at
Lawful-list separator part test lawful apart =
    let goes = or_separator test separator in
    let less : (token : Token) → or_separator test separator token ≡ false → test token ≡ false = λ token e. or_left (test token) (is_reserved separator token) e in
    Lawful-next part (λ a. more separator part >>= λ others. give (a ∷ others)) test goes lawful
    (λ a. Lawful-next (more separator part) (λ others. give (a ∷ others)) goes goes (Lawful-more separator part test lawful apart)
    (λ others. Lawful-give (a ∷ others) goes) (λ others. Apart-give goes goes (a ∷ others) (λ token e. e)))
    (λ a. Apart-others separator part test goes (Lawful-shortens part test lawful) apart less a)
