-- Sorted texts without those that repeat, and the file of texts.
use Rattle.std.proofs.Common.{◌≡◌, ◌∙◌, ◌<◌, ◌≤◌, ◌+◌, ℕ, List, [], ◌∷◌, ◌++◌, sym, ap, subst, length, take, get_or, arith}
use Rattle.std.specs.List.{AllByRecursion, dedup}
use Rattle.std.specs.List.Sorted.{IsPermutation, IsSorted}
use Rattle.std.specs.Str.{bytes_eq}
use Rattle.std.proofs.lemmas.Cmp.{nat_list_cmp_total, nat_list_eq_equiv}
use Rattle.std.proofs.lemmas.List.{append-nil, take_more}
use Rattle.std.proofs.lemmas.List.Elements.{All-from_recursion, recursion_from_All}
use Rattle.std.proofs.lemmas.List.Filters.{All-dedup}
use Rattle.std.proofs.lemmas.List.Kept.{Contains-dedup, Contains-from_dedup, IsStrictlySortedBy-dedup}
use Rattle.std.proofs.lemmas.List.Sorted.{All-permutation, Contains-permutation, IsPermutation-sym, length_permutation}
use Rattle.std.proofs.lemmas.Map.Text.{is_eq-slice_cmp}
use Rattle.std.proofs.lemmas.Slice.Eq.{bytes_eq-Decides}
use Rattle.definitions_blocks.specs.Columns.{max_rows}
use Rattle.catalog_core.specs.Texts.{Text, IsText}
use Rattle.catalog_core.specs.Indexed.{starts_from, texts_at}
use Rattle.catalog_core.specs.Dictionaries.{AreTexts, entry_of, entries_of, dictionary_head, dictionary_file, AreDistinctTextsOf}
use Rattle.catalog_core.specs.DictionaryMaking.{IsFileOf}
use Rattle.catalog_core.proofs.TextLemmas.{order, rises_of_sorted}
use Rattle.catalog_core.proofs.DictionaryFileLemmas.{length-dictionary_head}
use Rattle.catalog_core.proofs.DictionaryReadLemmas.{starts_from-push, entries_of-push, texts_at-starts}

pub distinct_of_sorted : (texts sorted : List Text) → length texts ≤ max_rows → AllByRecursion IsText texts → IsPermutation texts sorted → IsSorted order sorted → length (dedup bytes_eq sorted) ≤ length sorted
    → AreDistinctTextsOf texts (dedup bytes_eq sorted)
distinct_of_sorted texts sorted few lawful moved rise fewer = record {
  lawful = record {
    few = omega (arith, few, fewer, length_permutation texts sorted moved);
    lawful = recursion_from_All IsText (dedup bytes_eq sorted) (All-dedup bytes_eq IsText sorted (All-permutation IsText texts sorted moved (All-from_recursion IsText texts lawful)));
    rising = rises_of_sorted (dedup bytes_eq sorted) (IsStrictlySortedBy-dedup nat_list_cmp_total (λ text other. sym (is_eq-slice_cmp text other)) sorted rise);
  };
  same = λ text. (
    λ has. Contains-permutation sorted texts text (IsPermutation-sym texts sorted moved) (Contains-from_dedup bytes_eq sorted text has),
    λ has. Contains-dedup nat_list_eq_equiv (λ one other. (bytes_eq-Decides one other).0) sorted text (Contains-permutation texts sorted text moved has),
  );
}

pub text_lawful : (texts : List Text) (i : ℕ) (text : Text) → AllByRecursion IsText texts → i < length texts → text ≡ get_or texts i text → IsText text
text_lawful texts i text all within is = subst IsText (sym is) (All-from_recursion IsText texts all i text within)

text_more : (texts : List Text) (i : ℕ) (text : Text) → i < length texts → text ≡ get_or texts i text → take (i + 1) texts ≡ take i texts ++ text ∷ []
text_more texts i text within is = take_more texts i text within ∙ ap (λ one. take i texts ++ one ∷ []) (sym is)

pub entries_more : (texts : List Text) (i : ℕ) (text : Text) → i < length texts → text ≡ get_or texts i text → entries_of (take (i + 1) texts) ≡ entries_of (take i texts) ++ entry_of text
entries_more texts i text within is = ap entries_of (text_more texts i text within is) ∙ entries_of-push (take i texts) text

pub starts_more : (texts : List Text) (i : ℕ) (text : Text) → i < length texts → text ≡ get_or texts i text → starts_from 16 (take (i + 1) texts) ≡ starts_from 16 (take i texts) ++ (16 + length (entries_of (take i texts))) ∷ []
starts_more texts i text within is = ap (starts_from 16) (text_more texts i text within is) ∙ starts_from-push 16 (take i texts) text

pub file_whole : (texts : List Text) (bytes starts : List ℕ) → AreTexts texts → bytes ≡ dictionary_file texts → starts ≡ starts_from 16 texts → IsFileOf texts bytes starts
file_whole texts bytes starts are is at =
    let same : texts_at bytes starts ≡ texts =
    ap (texts_at bytes) at ∙ texts_at-starts texts bytes (dictionary_head (length texts)) [] 16 are.lawful (length-dictionary_head (length texts)) (is ∙ ap (λ l. dictionary_head (length texts) ++ l) (sym (append-nil (entries_of texts)))) in
    record {
      indexed = record {
        file = record { lawful = subst AreTexts (sym same) are; bytes_are = is ∙ ap dictionary_file (sym same) };
        starts_are = at ∙ ap (starts_from 16) (sym same);
      };
      texts_are = same;
    }
