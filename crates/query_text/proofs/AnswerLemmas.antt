-- What a text is answered by, if its tokens are read lawfully.
use Rattle.std.proofs.Common.{◌≡◌, ℕ, List, [], length, Option, Some, None, Result, Ok, Err, IfOk, IfErr, refl, sym, ap, ◌∙◌, subst}
use Rattle.definitions_queries.specs.Tokens.{Placed}
use Rattle.definitions_queries.specs.Grammar.{Spelled}
use Rattle.definitions_queries.specs.Lexing.{LexicalError, AreTokens}
use Rattle.definitions_queries.specs.Texts.{Refusal, lexical, Says}
use Rattle.query_text.specs.declared.stop.Stop.{Stop}
use Rattle.query_text.specs.declared.text.TextError.{TextError}
use Rattle.query_text.specs.Reading.{Reader}
use Rattle.query_text.specs.Readers.{ReadsAs}
use Rattle.query_text.specs.Errors.{error_view, stop_refusal, answer_of, IsAnsweredBy, Refuses, AnswersOnly}
use Rattle.query_text.proofs.ReaderLaws.{pair_is}
use Rattle.query_text.proofs.OutcomeLaws.{ReadsWhole, read_is, error_after, stopped, spelled, not_stopped}

-- what is read is what the text says, what it says is read unless memory runs out, and a refusal is the text's
pub record Answered {X A : Type 0} (spells : List Placed → A → Type 0) (view : X → A) (text : List ℕ) (result : Result X TextError) : Type 0 where
  pub read : IfOk result (λ value. Says spells text (view value))
  pub only : (value : A) → Says spells text value → AnswersOnly view result value
  pub refused : IfErr result (λ e. Refuses (Spelled spells) text (error_view e))

ok-is : {X : Type 0} (r : Result X (Option Refusal)) (x y : X) → r ≡ Ok x → r ≡ Ok y → x ≡ y
ok-is r x y e f = cc

err-is : {X : Type 0} (r : Result X (Option Refusal)) (a b : Option Refusal) → r ≡ Err a → r ≡ Err b → a ≡ b
err-is r a b e f = cc

pub answered : {X A : Type 0} (spells : List Placed → A → Type 0) (p : Reader A) → ReadsWhole spells p → (view : X → A) (text : List ℕ) (tokens : List Placed) (error : Option LexicalError) (read : Result X Stop) (result : Result X TextError)
    → AreTokens text tokens error → ReadsAs (λ x. (view x, [])) read (p tokens) → IsAnsweredBy result (answer_of read error (length text)) → Answered spells view text result
answered spells p reads view text tokens None (Ok x) (Ok y) cuts reading e = record {
  read = subst (λ z. Says spells text (view z)) (ok-is (Ok x) x y refl e) (read_is spells p reads text tokens (view x) cuts reading);
  only = λ value says. (let s = spelled spells p reads text tokens None value cuts says in sym (ap view (ok-is (Ok x) x y refl e)) ∙ (pair_is (view x) value [] [] (sym reading ∙ s.1)).0);
  refused = tt;
}
answered spells p reads view text tokens None (Ok x) (Err f) cuts reading e = absurd cc
answered spells p reads view text tokens (Some error) (Ok x) (Ok y) cuts reading e = absurd cc
answered spells p reads view text tokens (Some error) (Ok x) (Err f) cuts reading e = record {
  read = tt;
  only = λ value says. (let s = spelled spells p reads text tokens (Some error) value cuts says in let wrong = s.0 in absurd cc);
  refused = subst (λ r. Refuses (Spelled spells) text r) (err-is (Err (Some (lexical error))) (Some (lexical error)) (error_view f) refl e) (error_after spells p reads text tokens error (view x) cuts reading);
}
answered spells p reads view text tokens error (Err stop) (Ok y) cuts reading e = absurd cc
answered spells p reads view text tokens error (Err stop) (Err f) cuts reading e =
    let same : stop_refusal stop error (length text) ≡ error_view f = err-is (Err (stop_refusal stop error (length text))) (stop_refusal stop error (length text)) (error_view f) refl e in record {
      read = tt;
      only = λ value says. sym same ∙ not_stopped (p tokens) value error (length text) stop reading (spelled spells p reads text tokens error value cuts says).1;
      refused = subst (λ r. Refuses (Spelled spells) text r) same (stopped spells p reads text tokens error stop cuts reading);
    }
