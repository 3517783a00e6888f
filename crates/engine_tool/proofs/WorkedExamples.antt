-- The definitions at worked values.
use Rattle.std.proofs.Common.{◌≡◌, [], ◌∷◌, Ok, Err, refl}
use Rattle.std.specs.Prelude.{Some, None, codes}
use Rattle.table_commands.specs.Refusals.{sum_too_wide}
use Rattle.engine_tool.specs.Replies.{answer_over}
use Rattle.engine_tool.specs.Tokens.{word, number, string, symbol, token_at}

words_are_lower_case : token_at (codes "Sum(a)") ≡ Some (word (codes "sum"), codes "(a)")
words_are_lower_case = refl

symbols_are_longest_first : token_at (codes "<=7") ≡ Some (symbol (codes "<="), codes "7")
symbols_are_longest_first = refl

a_quote_is_doubled : token_at (codes "'it''s' x") ≡ Some (string (codes "it's"), codes " x")
a_quote_is_doubled = refl

numbers_may_begin_with_zeros : token_at (codes "0070)") ≡ Some (number 70, codes ")")
numbers_may_begin_with_zeros = refl

a_large_number_is_no_token : token_at (codes "18446744073709551616") ≡ None
a_large_number_is_no_token = refl

no_rows_are_null : answer_over [] ≡ Ok (codes "NULL\n")
no_rows_are_null = refl

a_sum_of_2_to_the_64_is_too_wide : answer_over (18446744073709551615 ∷ 1 ∷ []) ≡ Err sum_too_wide
a_sum_of_2_to_the_64_is_too_wide = refl
