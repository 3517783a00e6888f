-- What stands between a string's quotes.
use Rattle.std.proofs.Common.{◌≡◌, ℕ, suc, Bool, true, false, List, [], ◌∷◌, take, drop, Option, Some, None, refl, sym, ap, ◌∙◌, subst}
use Rattle.std.proofs.lemmas.Bool.{eqb-true}
use Rattle.std.specs.Prelude.{◌==◌, option_map, if◌then◌else◌}
use Rattle.definitions_queries.specs.Lexing.{quoted, with_byte}
use Rattle.query_text.specs.Views.{content}
use Rattle.query_text.specs.Cuts.{string_length}

abbrev pub parts : List ℕ → ℕ → List ℕ × List ℕ
parts text n = (content (take n text), drop (suc n) text)

content-other : (a : ℕ) (text : List ℕ) → (a == 39) ≡ false → content (a ∷ text) ≡ a ∷ content text
content-other a [] e = refl
content-other a (b ∷ text) e = rw e refl

doubled : (a b : ℕ) (text : List ℕ) → a ≡ 39 → (o : Option ℕ) → option_map (parts (a ∷ b ∷ text)) (option_map (λ n. suc (suc n)) o) ≡ with_byte 39 (option_map (parts text) o)
doubled a b text e None = refl
doubled a b text e (Some n) = subst (λ x. option_map (parts (x ∷ b ∷ text)) (Some (suc (suc n))) ≡ with_byte 39 (Some (parts text n))) (sym e) refl

other : (a : ℕ) (text : List ℕ) → (a == 39) ≡ false → (o : Option ℕ) → option_map (parts (a ∷ text)) (option_map suc o) ≡ with_byte a (option_map (parts text) o)
other a text e None = refl
other a text e (Some n) = ap (λ found. Some (found, drop (suc n) text)) (content-other a (take n text) e)

pub quoted-is : (text : List ℕ) → option_map (parts text) (string_length text) ≡ quoted text
quoted-is [] = refl
quoted-is (a ∷ []) = last (a == 39)
  where
    last : (q : Bool) → option_map (parts (a ∷ [])) (if q then Some 0 else None) ≡ (if q then Some ([], []) else None)
    last true = refl
    last false = refl
quoted-is (a ∷ b ∷ text) = first (a == 39) refl (b == 39) (quoted-is text) (quoted-is (b ∷ text))
  where
    first : (q : Bool) → (a == 39) ≡ q → (r : Bool) → option_map (parts text) (string_length text) ≡ quoted text → option_map (parts (b ∷ text)) (string_length (b ∷ text)) ≡ quoted (b ∷ text)
        → option_map (parts (a ∷ b ∷ text)) (if q then (if r then option_map (λ n. suc (suc n)) (string_length text) else Some 0) else option_map suc (string_length (b ∷ text)))
        ≡ (if q then (if r then with_byte 39 (quoted text) else Some ([], b ∷ text)) else with_byte a (quoted (b ∷ text)))
    first true e true i1 i2 = doubled a b text (eqb-true a 39 e) (string_length text) ∙ ap (with_byte 39) i1
    first true e false i1 i2 = refl
    first false e r i1 i2 = other a (b ∷ text) e (string_length (b ∷ text)) ∙ ap (with_byte a) i2
