-- Reading the parts of a list one left the other, as a loop does.
use Rattle.std.proofs.Common.{◌≡◌, ℕ, ◌<◌, List, [], ◌∷◌, ◌++◌, length, Option, Some, None, Ok, Err, refl, sym, ap, ◌∙◌, append_assoc, arith}
use Rattle.std.specs.Prelude.{map}
use Rattle.std.proofs.lemmas.List.{append-nil, length-map}
use Rattle.definitions_queries.specs.Tokens.{Placed}
use Rattle.query_text.specs.declared.stop.Stop.{Stop}
use Rattle.query_text.specs.declared.stop.Stop.TheVariants as stops
use Rattle.query_text.specs.declared.tokens.Token.{Token}
use Rattle.query_text.specs.Reading.{Read, Reader, next, ◌>>=◌, give, with_rest, split, the_reserved, more, list_at}
use Rattle.query_text.specs.Views.{token_view, tokens_view, literal_view, placed_view, literals_view}
use Rattle.query_text.specs.Readers.{StopsAs}
use Rattle.query_text.specs.declared.query.Literal.{Literal}
use Rattle.definitions_queries.specs.Grammar.{value_of_literal, place_of_literal}
use Rattle.definitions_queries.specs.Queries.{Word, compare, one_of}
use Rattle.query_text.specs.Reading.{choice_of}
use Rattle.query_text.proofs.ReaderLaws.{found_in}
use Rattle.query_text.proofs.ListLaws.{Shortens, more-is}

-- what was read before, and what is still read
abbrev pub with_front : {A : Type 0} → List A → Read (List A) → Read (List A)
with_front front (Ok found) = Ok (front ++ found.0, found.1)
with_front front (Err place) = Err place

pub regroup : {A : Type 0} (front : List A) (a : A) (read : Read (List A)) → with_front front (next read (λ others. give (a ∷ others))) ≡ with_front (front ++ a ∷ []) read
regroup front a (Ok found) = ap (λ xs. Ok (xs, found.1)) (sym (append_assoc front (a ∷ []) found.0))
regroup front a (Err place) = refl

-- the first part is read
pub begins_list : {A : Type 0} (separator : List ℕ) (part : Reader A) (tokens rest : List Placed) (a : A) → part tokens ≡ Ok (a, rest)
    → with_front (a ∷ []) (more separator part rest) ≡ list_at separator part tokens
unfolding list_at
begins_list {A} separator part tokens rest a e = sym (regroup [] a (more separator part rest)) ∙ same (more separator part rest) ∙ rw e refl
  where
    same : (read : Read (List A)) → with_front [] (next read (λ others. give (a ∷ others))) ≡ next read (λ others. give (a ∷ others))
    same (Ok found) = refl
    same (Err place) = refl

one_more : {A : Type 0} (separator : List ℕ) (part : Reader A) (rest after : List Placed) → Shortens part → split (the_reserved separator) rest ≡ Some (tt, after)
    → more separator part rest ≡ next (part after) (λ a. more separator part >>= λ others. give (a ∷ others))
one_more separator part rest after short e = more-is separator part short rest ∙ rw e refl

-- one more part is read
pub goes_on : {A : Type 0} (separator : List ℕ) (part : Reader A) (front : List A) (a : A) (rest after left : List Placed) (total : Read (List A)) → Shortens part
    → split (the_reserved separator) rest ≡ Some (tt, after) → part after ≡ Ok (a, left)
    → with_front front (more separator part rest) ≡ total → with_front (front ++ a ∷ []) (more separator part left) ≡ total
goes_on separator part front a rest after left total short e f so_far =
    sym (regroup front a (more separator part left))
    ∙ ap (with_front front) (ap (λ read. next read (λ a. more separator part >>= λ others. give (a ∷ others))) (sym f) ∙ sym (one_more separator part rest after short e))
    ∙ so_far

-- a part is refused
pub fails_on : {A : Type 0} (e : Stop) (separator : List ℕ) (part : Reader A) (front : List A) (rest after : List Placed) (total : Read (List A)) → Shortens part
    → split (the_reserved separator) rest ≡ Some (tt, after) → StopsAs e (part after) → with_front front (more separator part rest) ≡ total → StopsAs e total
fails_on (stops.Syntax at) separator part front rest after total short e f so_far =
    sym so_far ∙ ap (with_front front) (one_more separator part rest after short e ∙ ap (λ read. next read (λ a. more separator part >>= λ others. give (a ∷ others))) f)
fails_on stops.Memory separator part front rest after total short e f so_far = tt

-- no separator follows
pub is_done : {A : Type 0} (separator : List ℕ) (part : Reader A) (front : List A) (rest : List Placed) (total : Read (List A)) → Shortens part
    → split (the_reserved separator) rest ≡ None → with_front front (more separator part rest) ≡ total → total ≡ Ok (front, rest)
is_done separator part front rest total short e so_far =
    let none : more separator part rest ≡ Ok ([], rest) = more-is separator part short rest ∙ rw e refl in
    sym so_far ∙ ap (with_front front) none ∙ ap (λ xs. Ok (xs, rest)) (append-nil front)

abbrev rest_in : List Placed → Option (Unit {0} × List Placed) → List Placed
rest_in rest (Some x) = x.1
rest_in rest None = rest

after-shorter : (separator : List ℕ) (rest after : List Placed) → split (the_reserved separator) rest ≡ Some (tt, after) → length after < length rest
after-shorter separator [] after e = absurd cc
after-shorter separator (token ∷ rest) after e = go (the_reserved separator token) e
  where
    go : (o : Option (Unit {0})) → with_rest o rest ≡ Some (tt, after) → length after < length (token ∷ rest)
    go (Some u) e = let same : rest ≡ after = ap (λ (x : Option (Unit {0} × List Placed)). rest_in rest x) e in omega (arith, ap length same)
    go None e = absurd cc

-- fewer tokens are left
pub smaller : {A : Type 0} (separator : List ℕ) (part : Reader A) (rest after left : List Token) (a : A) → Shortens part
    → split (the_reserved separator) (tokens_view rest) ≡ Some (tt, tokens_view after) → part (tokens_view after) ≡ Ok (a, tokens_view left) → length left < length rest
smaller separator part rest after left a short e f =
    omega (arith, after-shorter separator (tokens_view rest) (tokens_view after) e, short (tokens_view after) a (tokens_view left) f, length-map rest token_view, length-map after token_view, length-map left token_view)

-- the first part is refused
pub fails_first : {A : Type 0} (e : Stop) (separator : List ℕ) (part : Reader A) (tokens : List Placed) → StopsAs e (part tokens) → StopsAs e (list_at separator part tokens)
unfolding list_at
fails_first (stops.Syntax at) separator part tokens f = rw f refl
fails_first stops.Memory separator part tokens f = tt

-- ---- lists whose first part is another

pub begins_other : {A : Type 0} (separator : List ℕ) (first part : Reader A) (tokens rest : List Placed) (a : A) → first tokens ≡ Ok (a, rest)
    → with_front (a ∷ []) (more separator part rest) ≡ next (first tokens) (λ a. more separator part >>= λ others. give (a ∷ others))
begins_other {A} separator first part tokens rest a e = sym (regroup [] a (more separator part rest)) ∙ same (more separator part rest) ∙ rw e refl
  where
    same : (read : Read (List A)) → with_front [] (next read (λ others. give (a ∷ others))) ≡ next read (λ others. give (a ∷ others))
    same (Ok found) = refl
    same (Err place) = refl

pub fails_other : {A : Type 0} (e : Stop) (separator : List ℕ) (first part : Reader A) (tokens : List Placed) → StopsAs e (first tokens)
    → StopsAs e (next (first tokens) (λ a. more separator part >>= λ others. give (a ∷ others)))
fails_other (stops.Syntax at) separator first part tokens f = rw f refl
fails_other stops.Memory separator first part tokens f = tt

-- ---- literals and their places

pub literals_view-push : (values : List Literal) (places : List ℕ) (value : Literal) (at : ℕ) → length values ≡ length places
    → literals_view (values ++ value ∷ []) (places ++ at ∷ []) ≡ literals_view values places ++ placed_view value at ∷ []
literals_view-push [] [] value at e = refl
literals_view-push [] (p ∷ places) value at e = absurd (omega arith)
literals_view-push (v ∷ values) [] value at e = absurd (omega arith)
literals_view-push (v ∷ values) (p ∷ places) value at e = ap (λ xs. placed_view v p ∷ xs) (literals_view-push values places value at (omega arith))

pub value_of_literals : (values : List Literal) (places : List ℕ) → length values ≡ length places → map value_of_literal (literals_view values places) ≡ map literal_view values
value_of_literals [] [] e = refl
value_of_literals [] (p ∷ places) e = absurd (omega arith)
value_of_literals (v ∷ values) [] e = absurd (omega arith)
value_of_literals (v ∷ values) (p ∷ places) e = ap (λ xs. literal_view v ∷ xs) (value_of_literals values places (omega arith))

pub literal_places : (values : List Literal) (places : List ℕ) → length values ≡ length places → map place_of_literal (literals_view values places) ≡ places
literal_places [] [] e = refl
literal_places [] (p ∷ places) e = absurd (omega arith)
literal_places (v ∷ values) [] e = absurd (omega arith)
literal_places (v ∷ values) (p ∷ places) e = ap (λ xs. p ∷ xs) (literal_places values places (omega arith))

pub choice_is : (word : Word) (values : List Literal) (places : List ℕ) (rest : List Placed) → length values ≡ length places
    → found_in (choice_of word (literals_view values places)) rest ≡ Ok (compare word (one_of (map literal_view values)) places, rest)
choice_is word values places rest e = rw (value_of_literals values places e, literal_places values places e) refl
