-- Dictionaries at worked values.
use Rattle.std.proofs.Common.{◌≡◌, ◌++◌, refl, true, false, List, [], ◌∷◌, ℕ, Some, None}
use Rattle.std.specs.Prelude.{codes}
use Rattle.definitions_blocks.specs.Words.{word_bytes}
use Rattle.catalog_core.specs.Texts.{Text, is_below}
use Rattle.catalog_core.specs.Indexed.{texts_at, starts_from}
use Rattle.catalog_core.specs.Dictionaries.{length_bytes, rises, dictionary_file, code_of, rank_below, rank_through}

two_texts : List Text
two_texts = codes "AB" ∷ codes "C" ∷ []

-- the file of `AB` and `C`, and the places where their entries start
worked_file : List ℕ
worked_file = codes "MDIC" ++ (1 ∷ 0 ∷ 0 ∷ 0 ∷ 2 ∷ 0 ∷ 0 ∷ 0 ∷ 0 ∷ 0 ∷ 0 ∷ 0 ∷ 2 ∷ 0 ∷ 0 ∷ 0 ∷ 65 ∷ 66 ∷ 1 ∷ 0 ∷ 0 ∷ 0 ∷ 67 ∷ [])

file_of_two : dictionary_file two_texts ≡ worked_file
unfolding two_texts worked_file word_bytes length_bytes
file_of_two = refl

starts_of_two : starts_from 16 two_texts ≡ 16 ∷ 22 ∷ []
unfolding two_texts
starts_of_two = refl

texts_of_file : texts_at worked_file (16 ∷ 22 ∷ []) ≡ two_texts
unfolding two_texts worked_file
texts_of_file = refl

-- a text comes before the longer ones that it begins, and bytes decide, not characters
prefix_first : is_below (codes "a") (codes "ab") ≡ true
prefix_first = refl

bytes_decide : is_below (codes "z") (195 ∷ 169 ∷ []) ≡ true
bytes_decide = refl

equal_texts_do_not_rise : rises (codes "a" ∷ codes "a" ∷ []) ≡ false
equal_texts_do_not_rise = refl

falling_texts_do_not_rise : rises (codes "b" ∷ codes "a" ∷ []) ≡ false
falling_texts_do_not_rise = refl

code_there : code_of (codes "C") two_texts ≡ Some 1
unfolding two_texts
code_there = refl

code_absent : code_of (codes "B") two_texts ≡ None
unfolding two_texts
code_absent = refl

-- `B` is absent: one text comes before it, and none is equal to it
ranks_absent : rank_below (codes "B") two_texts ≡ 1
unfolding two_texts
ranks_absent = refl

ranks_absent_through : rank_through (codes "B") two_texts ≡ 1
unfolding two_texts
ranks_absent_through = refl

ranks_there : rank_through (codes "AB") two_texts ≡ 1
unfolding two_texts
ranks_there = refl
