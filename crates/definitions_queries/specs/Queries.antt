-- What a query's text says.
use Rattle.std.specs.Prelude.{ℕ, Bool, List, Option}

-- a name in lower case, and the place of its first byte
pub record Word : Type 0 where
  pub at : ℕ
  pub text : List ℕ

pub data SumShape : Type 0 where
  plain : SumShape
  product : SumShape
  difference : SumShape

pub data QueryItem : Type 0 where
  column : Word → QueryItem
  -- the shape, its first and second column, and the alias
  sum : SumShape → Word → Option Word → Option Word → QueryItem

pub data Literal : Type 0 where
  of_number : ℕ → Literal
  of_text : List ℕ → Literal

pub data Test : Type 0 where
  equal : Literal → Test
  below : Literal → Test
  at_most : Literal → Test
  above : Literal → Test
  at_least : Literal → Test
  between : Literal → Literal → Test
  one_of : List Literal → Test

pub data QueryCondition : Type 0 where
  join : Word → Word → QueryCondition
  -- a column, its test, and the places of the literals
  compare : Word → Test → List ℕ → QueryCondition

pub record QueryKey : Type 0 where
  pub word : Word
  pub falling : Bool

pub record Query : Type 0 where
  pub items : List QueryItem
  pub tables : List Word
  pub conditions : List QueryCondition
  pub groups : List Word
  pub order : List QueryKey
