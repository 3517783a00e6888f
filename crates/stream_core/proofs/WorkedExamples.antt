-- The definitions at worked values.
use Rattle.std.proofs.Common.{◌≡◌, refl}
use Rattle.std.specs.Prelude.{codes}
use Rattle.std.proofs.Common.{true, false}
use Rattle.stream_core.specs.Names.{column_file_name, dictionary_file_name, strategy_file_name, is_name}

files_of_a_table : column_file_name (codes "t") 98 (codes "a") ≡ codes "t.b.a.col"
files_of_a_table = refl

texts_of_a_column : dictionary_file_name (codes "t") 97 (codes "x") ≡ codes "t.a.x.dic"
texts_of_a_column = refl

file_of_a_strategy : strategy_file_name (codes "s") ≡ codes "s.strategy"
file_of_a_strategy = refl

-- a name has 31 bytes at most, begins with a letter, and is no keyword
longest_name : is_name (codes "a234567890123456789012345678901") ≡ true
longest_name = refl

longer_name : is_name (codes "a2345678901234567890123456789012") ≡ false
longer_name = refl

digit_first : is_name (codes "1a") ≡ false
digit_first = refl

capital : is_name (codes "aB") ≡ false
capital = refl

keyword : is_name (codes "between") ≡ false
keyword = refl

underscore : is_name (codes "a_") ≡ true
underscore = refl

empty_name : is_name (codes "") ≡ false
empty_name = refl
