-- Cutting a text token by token.
use Rattle.std.proofs.Common.{◌≡◌, ℕ, ◌+◌, ◌-◌, ◌^◌, ◌<◌, ◌≤◌, Bool, true, false, cond, ◌||◌, ◌&&◌, suc, List, [], ◌∷◌, ◌++◌, length, Option, Some, None, refl, ap, subst, append_assoc, arith}
use Rattle.std.specs.Prelude.{◌==◌, nat_lt}
use Rattle.std.specs.List.{prefix_len}
use Rattle.std.specs.Char.{is_ascii_digit}
use Rattle.std.proofs.lemmas.List.{length-drop, map_push, append-nil}
use Rattle.query_text.specs.declared.tokens.Token as code
use Rattle.query_text.specs.Views.{kind_view, token_view, tokens_view}
use Rattle.definitions_queries.specs.Tokens.{Token, Placed}
use Rattle.definitions_queries.specs.Lexing.{Cut, end, token, fault, LexicalError, cut, front, rest_after, begins_word, continues_word, is_white_space, a_string, a_symbol, one_byte, is_symbol, quoted, with_byte, value_of, GoesOn}

rest_is : (t u : Token) (x y : List ℕ) → token t x ≡ token u y → x ≡ y
rest_is t u x y e = cc

by_cond : (b : Bool) (x y z : Cut) (P : Type 0) → (b ≡ true → x ≡ z → P) → (b ≡ false → y ≡ z → P) → cond b x y ≡ z → P
by_cond true x y z P p q e = p refl e
by_cond false x y z P p q e = q refl e

pub length-rest_after : (test : ℕ → Bool) (text : List ℕ) → length (rest_after test text) ≤ length text
length-rest_after test text = omega (arith, length-drop (prefix_len test text) text)

rest_after-less : (test : ℕ → Bool) (a : ℕ) (text : List ℕ) → test a ≡ true → length (rest_after test (a ∷ text)) < length (a ∷ text)
rest_after-less test a text e = rw e (omega (arith, length-drop (1 + prefix_len test text) (a ∷ text)))

abbrev after_in : List ℕ → Option (List ℕ × List ℕ) → List ℕ
after_in rest (Some found) = found.1
after_in rest None = rest

by_case : (b : Bool) (x y z : Option (List ℕ × List ℕ)) (P : Type 0) → (x ≡ z → P) → (y ≡ z → P) → cond b x y ≡ z → P
by_case true x y z P p q e = p e
by_case false x y z P p q e = q e

with_byte-less : (a : ℕ) (o : Option (List ℕ × List ℕ)) (found : List ℕ × List ℕ) (n : ℕ) → ((f : List ℕ × List ℕ) → o ≡ Some f → length f.1 < n) → with_byte a o ≡ Some found → length found.1 < n
with_byte-less a None found n h e = absurd cc
with_byte-less a (Some f) found n h e = let same : f.1 ≡ found.1 = ap (after_in []) e in omega (arith, h f refl, ap length same)

quoted-less : (text : List ℕ) (found : List ℕ × List ℕ) → quoted text ≡ Some found → length found.1 < length text
quoted-less [] found e = absurd cc
quoted-less (a ∷ []) found e =
    by_case (a == 39) _ _ (Some found) (length found.1 < length (a ∷ [])) (λ e1. let same : [] ≡ found.1 = ap (after_in []) e1 in omega (arith, ap length same)) (λ e1. absurd cc) e
quoted-less (a ∷ b ∷ text) found e =
    by_case (a == 39) _ _ (Some found) (length found.1 < length (a ∷ b ∷ text))
    (λ e1. by_case (b == 39) _ _ (Some found) (length found.1 < length (a ∷ b ∷ text))
    (λ e2. with_byte-less 39 (quoted text) found (length (a ∷ b ∷ text)) (λ f g. omega (arith, quoted-less text f g)) e2)
    (λ e2. let same : b ∷ text ≡ found.1 = ap (after_in []) e2 in omega (arith, ap length same)) e1)
    (λ e1. with_byte-less a (quoted (b ∷ text)) found (length (a ∷ b ∷ text)) (λ f g. omega (arith, quoted-less (b ∷ text) f g)) e1) e

string-less : (o : Option (List ℕ × List ℕ)) (text next : List ℕ) (t : Token) → ((f : List ℕ × List ℕ) → o ≡ Some f → length f.1 < length text) → a_string o ≡ token t next → length next < length text
string-less None text next t h e = absurd cc
string-less (Some f) text next t h e = let same : f.1 ≡ next = rest_is _ _ _ _ e in omega (arith, h f refl, ap length same)

one_byte-less : (a : ℕ) (text next : List ℕ) (t : Token) → one_byte a text ≡ token t next → length next < suc (length text)
one_byte-less a text next t e =
    by_cond (is_symbol a) _ _ (token t next) (length next < suc (length text)) (λ is e1. let same : text ≡ next = rest_is _ _ _ _ e1 in omega (arith, ap length same)) (λ is e1. absurd cc) e

symbol-less : (a : ℕ) (text next : List ℕ) (t : Token) → a_symbol a text ≡ token t next → length next < suc (length text)
symbol-less a [] next t e = one_byte-less a [] next t e
symbol-less a (b ∷ text) next t e =
    by_cond ((a == 60 || a == 62) && b == 61) _ _ (token t next) (length next < suc (length (b ∷ text)))
    (λ is e1. let same : text ≡ next = rest_is _ _ _ _ e1 in omega (arith, ap length same))
    (λ is e1. one_byte-less a (b ∷ text) next t e1) e

pub cut-less : (text next : List ℕ) (t : Token) → cut text ≡ token t next → length next < length text
unfolding cut
cut-less [] next t e = absurd cc
cut-less (a ∷ text) next t e =
    by_cond (begins_word a) _ _ (token t next) (length next < length (a ∷ text))
    (λ is e1. let continues : continues_word a ≡ true = rw is refl in let same : rest_after continues_word (a ∷ text) ≡ next = rest_is _ _ _ _ e1 in omega (arith, rest_after-less continues_word a text continues, ap length same))
    (λ is e1. by_cond (is_ascii_digit a) _ _ (token t next) (length next < length (a ∷ text))
    (λ digit e2. by_cond (nat_lt (value_of (front is_ascii_digit (a ∷ text))) (2 ^ 64)) _ _ (token t next) (length next < length (a ∷ text))
    (λ small e3. let same : rest_after is_ascii_digit (a ∷ text) ≡ next = rest_is _ _ _ _ e3 in omega (arith, rest_after-less is_ascii_digit a text digit, ap length same)) (λ large e3. absurd cc) e2)
    (λ other e2. by_cond (a == 39) _ _ (token t next) (length next < length (a ∷ text)) (λ quote e3. let less = string-less (quoted text) text next t (quoted-less text) e3 in omega arith) (λ other e3. let less = symbol-less a text next t e3 in omega arith) e2) e1) e

-- the tokens so far go before what comes
abbrev pub SoFar : ℕ → List ℕ → List ℕ → List Placed → Type 0
SoFar len start rest tokens = (more : List Placed) (error : Option LexicalError) → GoesOn len rest more error → GoesOn len start (tokens ++ more) error

pub one_more : (len : ℕ) (start rest after : List ℕ) (tokens : List code.Token) (next : code.Token) → SoFar len start rest (tokens_view tokens) → cut rest ≡ token (kind_view next.kind) after → next.at ≡ len - length rest
    → SoFar len start (rest_after is_white_space after) (tokens_view (tokens ++ next ∷ []))
one_more len start rest after tokens next so_far e at more error goes =
    rw (map_push token_view tokens next, append_assoc) (so_far (token_view next ∷ more) error (after, e, at, goes))

pub ended : (len : ℕ) (start rest : List ℕ) (tokens : List Placed) → SoFar len start rest tokens → cut rest ≡ end → GoesOn len start tokens None
ended len start rest tokens so_far e = subst (λ ts. GoesOn len start ts None) (append-nil tokens) (so_far [] None e)

pub error_at : (len : ℕ) (start rest : List ℕ) (tokens : List Placed) (error : LexicalError) → SoFar len start rest tokens → cut rest ≡ fault error.fault → error.at ≡ len - length rest → GoesOn len start tokens (Some error)
error_at len start rest tokens error so_far e at = subst (λ ts. GoesOn len start ts (Some error)) (append-nil tokens) (so_far [] (Some error) (e, at))
