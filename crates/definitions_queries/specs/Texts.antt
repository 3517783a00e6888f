-- What a text says, or where it is refused.
use Rattle.std.specs.Prelude.{◌≡◌, ℕ, ◌⊎◌, List, [], ◌∷◌, ◌++◌, length, Option, Some, None}
use Rattle.definitions_queries.specs.Tokens.{Placed}
use Rattle.definitions_queries.specs.Queries.{Query}
use Rattle.definitions_queries.specs.Grammar.{Spells, SpellsAll, Language, Spelled, IsViable}
use Rattle.definitions_queries.specs.Lexing.{LexicalError, AreTokens}

-- how many bytes the text of a query, or of several, may have
abbrev pub max_query : ℕ
max_query = 65536

-- ---- what a text says

-- the text has no lexical error, and its tokens spell the value
abbrev pub Says : {A : Type 0} → (List Placed → A → Type 0) → List ℕ → A → Type 0
Says spells text value = (tokens : List Placed) × AreTokens text tokens None × spells tokens value

-- the text is that of the query
abbrev pub IsQueryText : List ℕ → Query → Type 0
IsQueryText = Says Spells

-- the text is that of the queries, one after the other
abbrev pub IsQueriesText : List ℕ → List Query → Type 0
IsQueriesText = Says SpellsAll

-- ---- where a text is refused

pub data Refusal : Type 0 where
  -- no token begins there
  lexical : LexicalError → Refusal
  -- nothing that the text could say goes on so
  syntax : ℕ → Refusal

-- the first token with which the tokens so far aren't viable stands there
pub record FirstWrong (language : Language) (tokens : List Placed) (at : ℕ) : Type 0 where
  pub before : List Placed
  pub wrong : Placed
  pub after : List Placed
  pub all : tokens ≡ before ++ wrong ∷ after
  pub place : wrong.at ≡ at
  pub viable : IsViable language before
  pub not_viable : IsViable language (before ++ wrong ∷ []) → ⊥

-- the tokens are viable, and don't belong to the language
pub record Unfinished (language : Language) (tokens : List Placed) : Type 0 where
  pub viable : IsViable language tokens
  pub outside : language tokens → ⊥

-- the refusal of a text with these tokens before this lexical error: a wrong token comes before the error, and an unfinished text is refused at its length
abbrev pub RefusedAs : Language → List ℕ → List Placed → Option LexicalError → Refusal → Type 0
RefusedAs language text tokens error (syntax at) = FirstWrong language tokens at ⊎ ((error ≡ None) × (at ≡ length text) × Unfinished language tokens)
RefusedAs language text tokens error (lexical found) = (error ≡ Some found) × IsViable language tokens

abbrev pub IsRefused : Language → List ℕ → Refusal → Type 0
IsRefused language text refusal =
    (tokens : List Placed) × (error : Option LexicalError) × AreTokens text tokens error × RefusedAs language text tokens error refusal

-- ---- one outcome

-- each text either says just one value, or is refused in just one way
pub record HasOneOutcome {A : Type 0} (spells : List Placed → A → Type 0) (text : List ℕ) : Type 0 where
  pub some : ((value : A) × Says spells text value) ⊎ ((refusal : Refusal) × IsRefused (Spelled spells) text refusal)
  pub one_value : (value other : A) → Says spells text value → Says spells text other → value ≡ other
  pub one_refusal : (refusal other : Refusal) → IsRefused (Spelled spells) text refusal → IsRefused (Spelled spells) text other → refusal ≡ other
  pub never_both : (value : A) (refusal : Refusal) → Says spells text value → IsRefused (Spelled spells) text refusal → ⊥
