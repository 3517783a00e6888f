-- A column of texts as codes of its dictionary.
use Rattle.std.specs.Prelude.{◌≡◌, true, nat_lt, List, map, length, Some, slice_get}
use Rattle.std.specs.List.{list_all}
use Rattle.catalog_core.specs.Texts.{Text}
use Rattle.catalog_core.specs.Dictionaries.{AreDistinctTextsOf}
use Rattle.dictionary_encoding.specs.declared.coding.CodedTexts.{CodedTexts}

-- the texts' dictionary, and each text's code in it
pub record AreCoded (texts : List Text) (coded : CodedTexts) : Type 0 where
  pub distinct : AreDistinctTextsOf texts coded.dictionary
  pub codes : map (slice_get coded.dictionary) coded.codes ≡ map Some texts
  pub within : list_all (λ code. nat_lt code (length coded.dictionary)) coded.codes ≡ true
  pub count : length coded.codes ≡ length texts
