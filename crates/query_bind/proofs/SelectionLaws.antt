-- What the groups, items, sums and order keys of a binding keep.
use Rattle.std.proofs.Common.{◌≡◌, ◌<◌, ◌≤◌, ℕ, suc, ◌+◌, ◌||◌, List, [], ◌∷◌, ◌++◌, length, Some, None, refl, sym, ap, ◌∙◌, subst, arith}
use Rattle.std.specs.Prelude.{Option, Ok, ok_or, option_map, IsTrue}
use Rattle.std.specs.List.{AllByRecursion, find, range_with_len}
use Rattle.std.specs.Str.{bytes_eq}
use Rattle.std.proofs.lemmas.List.{length_push}
use Rattle.definitions_outcomes.proofs.OutcomeLaws.{same_value}
use Rattle.definitions_queries.specs.Queries.{Word, SumShape, plain, product, difference, QueryItem, column, sum, QueryKey}
use Rattle.catalog_core.specs.Schemas.{is_number}
use Rattle.catalog_core.proofs.ColumnLemmas.{range_more}
use Rattle.catalog_core.specs.declared.columns.ColumnId.{ColumnId}
use Rattle.catalog_core.specs.declared.schemas.Schema.{Schema}
use Rattle.query_bind.specs.Binding.{column_of, kind_of, item_words, next_group, groups_of, operand_in, shaped, sum_in, alias_in, Selected, next_item, items_of, or_group, key_in, order_of}
use Rattle.query_bind.specs.LawfulBindings.{operands, sum_numbers}
use Rattle.query_bind.specs.NameMaps.{value_of, is_among}
use Rattle.query_bind.specs.declared.bounds.SumOf.{SumOf}
use Rattle.query_bind.specs.declared.bounds.SumOf.TheVariants as operand
use Rattle.query_bind.specs.declared.bounds.Item.{Item}
use Rattle.query_bind.specs.declared.bounds.Item.TheVariants as item
use Rattle.query_bind.specs.declared.bounds.OrderKey.{OrderKey}
use Rattle.query_bind.specs.declared.errors.BindError.TheVariants as refusal
use Rattle.query_bind.proofs.OnceLemmas.{all_append, all_weaker, all_members, holds_of}
use Rattle.query_bind.proofs.SelectionLemmas.{one_more_group}
use Rattle.query_bind.proofs.StepLemmas.{bind_went_on, ok_or_is, passed_unless, passed_if, kept, grown, walked, found_there, total_ones}
use Rattle.query_bind.proofs.TableLaws.{IsOfTables}

-- names whose numbers are below a count
abbrev pub Numbered : ℕ → List (List ℕ × ℕ) → Type 0
Numbered count names = AllByRecursion (λ (entry : List ℕ × ℕ). entry.1 < count) names

pub numbered_value : (count : ℕ) (names : List (List ℕ × ℕ)) (name : List ℕ) (number : ℕ) → Numbered count names → value_of names name ≡ Some number → number < count
numbered_value count names name number all is = by (find (λ (entry : List ℕ × ℕ). bytes_eq name entry.0) names) refl is where
  by : (found : Option (List ℕ × ℕ)) → find (λ (entry : List ℕ × ℕ). bytes_eq name entry.0) names ≡ found → option_map (λ (entry : List ℕ × ℕ). entry.1) found ≡ Some number → number < count
  by None found none = absurd (cc)
  by (Some entry) found some =
      let same : entry.1 ≡ number = cc in
      omega (arith, same, holds_of (λ (one : List ℕ × ℕ). one.1 < count) entry names all (found_there (λ (one : List ℕ × ℕ). bytes_eq name one.0) names entry found).0)

more_numbered : (count larger : ℕ) (names : List (List ℕ × ℕ)) → count ≤ larger → Numbered count names → Numbered larger names
more_numbered count larger names le all = all_weaker (λ (entry : List ℕ × ℕ). entry.1 < count) (λ (entry : List ℕ × ℕ). entry.1 < larger) (λ entry below. omega (arith, below, le)) names all

-- ---- the groups

group_kept : (earlier : List (List ℕ × ℕ)) (word : Word) (next : List (List ℕ × ℕ)) → Unit {0} → Numbered (length earlier) earlier → next_group earlier word ≡ Ok next → Numbered (length next) next
group_kept earlier word next _ all is =
    let (new, same) = passed_unless (is_among earlier word.text) (refusal.NameTwice word.at) (earlier ++ (word.text, length earlier) ∷ []) next is in
    let count = one_more_group earlier word next is in
    subst (λ (names : List (List ℕ × ℕ)). Numbered (length next) names) same
    (all_append (λ (entry : List ℕ × ℕ). entry.1 < length next) earlier ((word.text, length earlier) ∷ []) (more_numbered (length earlier) (length next) earlier (omega (arith, count)) all) (omega (arith, count), tt))

pub groups_kept : (words : List Word) (groups : List (List ℕ × ℕ)) → groups_of words ≡ Ok groups → Numbered (length words) groups
groups_kept words groups is =
    let any = all_members (λ word. Unit {0}) words (λ word there. tt) in
    let all = kept next_group (λ names. Numbered (length names) names) (λ word. Unit {0}) group_kept words any [] groups tt is in
    let count = grown next_group (λ (names : List (List ℕ × ℕ)). length names) (λ (word : Word). 1) (λ word. Unit {0}) (λ earlier word next _ went. one_more_group earlier word next went) words any [] groups is in
    more_numbered (length groups) (length words) groups (omega (arith, count, total_ones words)) all

-- ---- the numbers of sums among items

numbers_push_group : (items : List Item) (number : ℕ) → sum_numbers (items ++ item.Group number ∷ []) ≡ sum_numbers items
numbers_push_group [] number = refl
numbers_push_group (item.Group other ∷ more) number = numbers_push_group more number
numbers_push_group (item.Sum other ∷ more) number = ap (λ numbers. other ∷ numbers) (numbers_push_group more number)

numbers_push_sum : (items : List Item) (number : ℕ) → sum_numbers (items ++ item.Sum number ∷ []) ≡ sum_numbers items ++ number ∷ []
numbers_push_sum [] number = refl
numbers_push_sum (item.Group other ∷ more) number = numbers_push_sum more number
numbers_push_sum (item.Sum other ∷ more) number = ap (λ numbers. other ∷ numbers) (numbers_push_sum more number)

range_push : (sums : List SumOf) (one : SumOf) → range_with_len 0 (length (sums ++ one ∷ [])) ≡ range_with_len 0 (length sums) ++ length sums ∷ []
range_push sums one =
    let count : length (sums ++ one ∷ []) ≡ suc (length sums) = omega (arith, length_push sums one) in
    let last : 0 + length sums ≡ length sums = omega arith in
    ap (range_with_len 0) count ∙ range_more 0 (length sums) ∙ ap (λ number. range_with_len 0 (length sums) ++ number ∷ []) last

-- ---- the items

module _ (schema : Schema) (tables : List ℕ) (group_count : ℕ) where
  -- the number of a group, or of one of so many sums
  abbrev pub IsNumbered : ℕ → Item → Type 0
  IsNumbered sums (item.Group number) = number < group_count
  IsNumbered sums (item.Sum number) = number < sums

  abbrev pub IsSummed : ColumnId → Type 0
  IsSummed id = IsOfTables schema tables id × IsTrue (is_number (kind_of schema id))

  pub record Keep (selected : Selected) : Type 0 where
    pub items : AllByRecursion (IsNumbered (length selected.sums)) selected.items
    pub sums : AllByRecursion (λ one. AllByRecursion IsSummed (operands one)) selected.sums
    pub aliases : Numbered (length selected.sums) selected.aliases
    pub listed : sum_numbers selected.items ≡ range_with_len 0 (length selected.sums)
    pub few : length selected.sums ≤ length selected.items

  abbrev pub Known : QueryItem → Type 0
  Known one = AllByRecursion (λ word. IsOfTables schema tables (column_of schema word)) (item_words one)

  more_items : (sums larger : ℕ) (items : List Item) → sums ≤ larger → AllByRecursion (IsNumbered sums) items → AllByRecursion (IsNumbered larger) items
  more_items sums larger items le all = all_weaker (IsNumbered sums) (IsNumbered larger) weaker items all where
    weaker : (one : Item) → IsNumbered sums one → IsNumbered larger one
    weaker (item.Group number) below = below
    weaker (item.Sum number) below = omega (arith, below, le)

  operand_kept : (word : Word) (id : ColumnId) → IsOfTables schema tables (column_of schema word) → operand_in schema word ≡ Ok id → IsSummed id
  operand_kept word id of_tables is =
      let (number, same) = passed_if (is_number (kind_of schema (column_of schema word))) (refusal.TypeMismatch word.at) (column_of schema word) id is in
      subst IsSummed same (of_tables, number)

  shaped_kept : (shape : SumShape) (first second : ColumnId) → IsSummed first → IsSummed second → AllByRecursion IsSummed (operands (shaped shape first second))
  shaped_kept plain first second one two = (one, tt)
  shaped_kept product first second one two = (one, (two, tt))
  shaped_kept difference first second one two = (one, (two, tt))

  sum_kept : (shape : SumShape) (first : Word) (second alias : Option Word) (one : SumOf) → Known (sum shape first second alias) → sum_in schema shape first second ≡ Ok one → AllByRecursion IsSummed (operands one)
  sum_kept shape first None alias one known is =
      let (id, went, last) = bind_went_on (operand_in schema first) _ one is in
      subst (λ given. AllByRecursion IsSummed (operands given)) (same_value (operand.Plain id) one last) (operand_kept first id known.0 went, tt)
  sum_kept shape first (Some second) alias one known is =
      let (id, went, last) = bind_went_on (operand_in schema first) _ one is in
      let (other, went_too, end) = bind_went_on (operand_in schema second) (λ given. Ok (shaped shape id given)) one last in
      subst (λ given. AllByRecursion IsSummed (operands given)) (same_value (shaped shape id other) one end)
      (shaped_kept shape id other (operand_kept first id known.0 went) (operand_kept second other known.1.0 went_too))

  alias_kept : (groups earlier : List (List ℕ × ℕ)) (number : ℕ) (alias : Option Word) (next : List (List ℕ × ℕ)) → Numbered number earlier → alias_in groups earlier number alias ≡ Ok next → Numbered (number + 1) next
  alias_kept groups earlier number None next all is =
      subst (λ (names : List (List ℕ × ℕ)). Numbered (number + 1) names) (same_value earlier next is) (more_numbered number (number + 1) earlier (omega arith) all)
  alias_kept groups earlier number (Some word) next all is =
      let (new, same) = passed_unless (is_among groups word.text || is_among earlier word.text) (refusal.NameTwice word.at) (earlier ++ (word.text, number) ∷ []) next is in
      subst (λ (names : List (List ℕ × ℕ)). Numbered (number + 1) names) same
      (all_append (λ (entry : List ℕ × ℕ). entry.1 < number + 1) earlier ((word.text, number) ∷ []) (more_numbered number (number + 1) earlier (omega arith) all) (omega arith, tt))

  module _ (groups : List (List ℕ × ℕ)) (numbered : Numbered group_count groups) where
    item_kept : (earlier : Selected) (one : QueryItem) (next : Selected) → Known one → Keep earlier → next_item schema groups earlier one ≡ Ok next → Keep next
    item_kept earlier (column word) next known keep is =
        let (number, found, added) = bind_went_on (ok_or (value_of groups word.text) (refusal.GroupMismatch word.at)) _ next is in
        let below = numbered_value group_count groups word.text number numbered (ok_or_is (value_of groups word.text) (refusal.GroupMismatch word.at) number found) in
        subst Keep (same_value (record { items = earlier.items ++ item.Group number ∷ []; sums = earlier.sums; aliases = earlier.aliases }) next added)
        (record {
          items = all_append (IsNumbered (length earlier.sums)) earlier.items (item.Group number ∷ []) keep.items (below, tt);
          sums = keep.sums;
          aliases = keep.aliases;
          listed = numbers_push_group earlier.items number ∙ keep.listed;
          few = omega (arith, keep.few, length_push earlier.items (item.Group number));
        })
    item_kept earlier (sum shape first second alias) next known keep is =
        let (one, summed, after) = bind_went_on (sum_in schema shape first second) _ next is in
        let (aliases, named, added) = bind_went_on (alias_in groups earlier.aliases (length earlier.sums) alias) _ next after in
        let more = length_push earlier.sums one in
        let items = all_append (IsNumbered (length (earlier.sums ++ one ∷ []))) earlier.items (item.Sum (length earlier.sums) ∷ [])
        (more_items (length earlier.sums) (length (earlier.sums ++ one ∷ [])) earlier.items (omega (arith, more)) keep.items) (omega (arith, more), tt) in
        subst Keep (same_value (record { items = earlier.items ++ item.Sum (length earlier.sums) ∷ []; sums = earlier.sums ++ one ∷ []; aliases = aliases }) next added)
        (record {
          items = items;
          sums = all_append (λ given. AllByRecursion IsSummed (operands given)) earlier.sums (one ∷ []) keep.sums (sum_kept shape first second alias one known summed, tt);
          aliases = more_numbered (length earlier.sums + 1) (length (earlier.sums ++ one ∷ [])) aliases (omega (arith, more)) (alias_kept groups earlier.aliases (length earlier.sums) alias aliases keep.aliases named);
          listed = numbers_push_sum earlier.items (length earlier.sums) ∙ ap (λ numbers. numbers ++ length earlier.sums ∷ []) keep.listed ∙ sym (range_push earlier.sums one);
          few = omega (arith, keep.few, more, length_push earlier.items (item.Sum (length earlier.sums)));
        })

    item_counts : (earlier : Selected) (one : QueryItem) (next : Selected) → Known one → next_item schema groups earlier one ≡ Ok next → length next.items ≡ length earlier.items + 1
    item_counts earlier (column word) next known is =
        let (number, found, added) = bind_went_on (ok_or (value_of groups word.text) (refusal.GroupMismatch word.at)) _ next is in
        sym (ap (λ (given : Selected). length given.items) (same_value (record { items = earlier.items ++ item.Group number ∷ []; sums = earlier.sums; aliases = earlier.aliases }) next added))
        ∙ length_push earlier.items (item.Group number)
    item_counts earlier (sum shape first second alias) next known is =
        let (one, summed, after) = bind_went_on (sum_in schema shape first second) _ next is in
        let (aliases, named, added) = bind_went_on (alias_in groups earlier.aliases (length earlier.sums) alias) _ next after in
        sym (ap (λ (given : Selected). length given.items) (same_value (record { items = earlier.items ++ item.Sum (length earlier.sums) ∷ []; sums = earlier.sums ++ one ∷ []; aliases = aliases }) next added))
        ∙ length_push earlier.items (item.Sum (length earlier.sums))

    pub items_kept : (items : List QueryItem) (selected : Selected) → AllByRecursion Known items → items_of schema groups items ≡ Ok selected → Keep selected × (length selected.items ≡ length items)
    items_kept items selected known is = (
      kept (next_item schema groups) Keep Known item_kept items known (record { items = []; sums = []; aliases = [] }) selected (record { items = tt; sums = tt; aliases = tt; listed = refl; few = omega arith }) is,
      omega (arith, total_ones items, grown (next_item schema groups) (λ (given : Selected). length given.items) (λ (one : QueryItem). 1) Known item_counts items known (record { items = []; sums = []; aliases = [] }) selected is),
    )

    -- ---- the order keys

    named_item : (sums : ℕ) (aliases : List (List ℕ × ℕ)) (name : List ℕ) (one : Item) → Numbered sums aliases → or_group groups name (value_of aliases name) ≡ Some one → IsNumbered sums one
    named_item sums aliases name one all is = by (value_of aliases name) refl is where
      group : (found : Option ℕ) → value_of groups name ≡ found → option_map (λ number. item.Group number) found ≡ Some one → IsNumbered sums one
      group None found none = absurd (cc)
      group (Some number) found some =
          let same : item.Group number ≡ one = cc in
          subst (IsNumbered sums) same (numbered_value group_count groups name number numbered found)

      by : (found : Option ℕ) → value_of aliases name ≡ found → or_group groups name found ≡ Some one → IsNumbered sums one
      by None found went = group (value_of groups name) refl went
      by (Some number) found went =
          let same : item.Sum number ≡ one = cc in
          subst (IsNumbered sums) same (numbered_value sums aliases name number all found)

    pub order_kept : (sums : ℕ) (aliases : List (List ℕ × ℕ)) (keys : List QueryKey) (order : List OrderKey) → Numbered sums aliases → order_of groups aliases keys ≡ Ok order
        → AllByRecursion (λ key. IsNumbered sums key.item) order × (length order ≡ length keys)
    order_kept sums aliases keys order all is =
        walked (key_in groups aliases) (λ key. IsNumbered sums key.item) each keys 0 order is where
          each : (key : QueryKey) (one : OrderKey) → key_in groups aliases key ≡ Ok one → IsNumbered sums one.item
          each key one is =
              let (found, named, last) = bind_went_on (ok_or (or_group groups key.word.text (value_of aliases key.word.text)) (refusal.OrderUnknown key.word.at)) _ one is in
              let same = ap (λ (given : OrderKey). given.item) (same_value (record { item = found; falling = key.falling }) one last) in
              subst (IsNumbered sums) same (named_item sums aliases key.word.text found all (ok_or_is (or_group groups key.word.text (value_of aliases key.word.text)) (refusal.OrderUnknown key.word.at) found named))
