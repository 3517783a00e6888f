-- What is written for texts.
use Rattle.std.specs.Prelude.{◌≡◌, ℕ, List}
use Rattle.catalog_core.specs.Texts.{Text}
use Rattle.catalog_core.specs.Indexed.{texts_at, IsIndexed}

-- the bytes are the file of these texts, with where each entry starts
pub record IsFileOf (texts : List Text) (bytes starts : List ℕ) : Type 0 where
  pub indexed : IsIndexed bytes starts
  pub texts_are : texts_at bytes starts ≡ texts
