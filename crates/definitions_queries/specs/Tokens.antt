-- Tokens with their places.
use Rattle.std.specs.Prelude.{ℕ, List}

pub data Token : Type 0 where
  -- a word that is no keyword, in lower case
  name : List ℕ → Token
  -- a keyword in lower case, or a symbol
  reserved : List ℕ → Token
  number : ℕ → Token
  -- what stands between single quotes, two of which mean one
  string : List ℕ → Token

-- a token, and the place of its first byte
pub record Placed : Type 0 where
  pub at : ℕ
  pub token : Token
