-- What a table of the code has in common with its entries in order, which place a key names, and that a strategy that is read is lawful.
use Rattle.std.proofs.Common.{◌≡◌, ◌≢◌, ◌<◌, ◌≤◌, ◌∙◌, ℕ, zero, suc, ◌+◌, ◌-◌, ◌^◌, Bool, true, false, cond, List, [], ◌∷◌, ◌++◌, length, get_or, drop, drop_of_length-le, map, ◌&&◌, not, Option, Some, None, Result, Ok, Err, Less, string_bytes, decimal, inl, inr, refl, sym, ap, subst, arith}
use Rattle.std.specs.Prelude.{codes, nat_le, replicate, slice_get, slice_set, ok_or, IfOk, IsSome, IfSome}
use Rattle.std.specs.BTreeMap.{insert_entry}
use Rattle.std.specs.Cmp.Lexicographic.{slice_cmp}
use Rattle.std.specs.List.{AllByRecursion, list_all}
use Rattle.std.specs.List.Sorted.{IsStrictlySortedBy}
use Rattle.std.specs.Map.{keys_of}
use Rattle.std.specs.Ordering.{nat_cmp}
use Rattle.std.specs.Str.{bytes_eq}
use Rattle.std.specs.String.{string_cmp}
use Rattle.std.proofs.lemmas.Bool.{cases_Bool, cases_lt, false_from_ne_true, false≢true, leb-true}
use Rattle.std.proofs.lemmas.Fmt.{decimal_injective}
use Rattle.std.proofs.lemmas.List.{append_cancel_left, drop_more, length-map, length-replicate, length-set}
use Rattle.std.proofs.lemmas.Option.{same_Some}
use Rattle.std.proofs.lemmas.Slice.Eq.{bytes_eq-Decides}
use Rattle.definitions_outcomes.specs.Computed.{bind, Answers}
use Rattle.definitions_outcomes.proofs.ComputedLaws.{items_from}
use Rattle.stream_core.specs.Names.{max_name, is_name, is_name_byte, is_keyword, begins_with_letter}
use Rattle.toml.specs.Data.{Data, Members, get_member}
use Rattle.toml.specs.View.{view, members_view}
use Rattle.toml.proofs.Views.{Entry as CodeEntry}
use Rattle.catalog_core.specs.Texts.{Text}
use Rattle.catalog_core.specs.Schemas.{meaning, format_words}
use Rattle.block_core.specs.declared.formats.Format.TheVariants as format
use Rattle.block_core.specs.declared.formats.FormatChoice.{FormatChoice}
use Rattle.block_core.specs.declared.formats.FormatChoice.TheVariants.{Fixed}
use Rattle.plan_core.specs.Plans.{Operator, Plan}
use Rattle.plan_core.specs.Strategies.{takes_form, form_or_fly, IsStrategy, form_words, Entry, in_order, top_rules, keeps, place_named, choice_in, chosen, formats_in, forms_in, each_keeps, each_takes, strategy_in, unknown, entries_at, choice_or}
use Rattle.plan_core.specs.Views.{operator_view}
use Rattle.plan_core.specs.declared.plans.Operator.{Operator as CodeOperator}
use Rattle.plan_core.specs.declared.strategies.Form.{Form}
use Rattle.plan_core.specs.declared.strategies.Form.TheVariants.{Fly}
use Rattle.plan_core.specs.declared.strategies.Strategy.{Strategy}
use Rattle.plan_core.specs.declared.strategies.StrategyError.{StrategyError}
use Rattle.plan_core.specs.declared.strategies.StrategyError.TheVariants as refusal

-- ---- the entries of a table

abbrev pub entry_view : CodeEntry → Entry
entry_view entry = (string_bytes entry.0, view entry.1)

-- a key below all the others goes to the front
in_front : (entry : CodeEntry) (rest : List CodeEntry) → AllByRecursion (λ other. string_cmp entry.0 other ≡ Less) (keys_of rest)
    → insert_entry (slice_cmp nat_cmp) (map entry_view rest) (string_bytes entry.0) (view entry.1) ≡ entry_view entry ∷ map entry_view rest
in_front entry [] below = refl
in_front entry (other ∷ rest) below = rw below.0 refl

-- a table's entries are in order
pub in_order-view : (entries : List CodeEntry) → IsStrictlySortedBy string_cmp (keys_of entries) → in_order (members_view entries) ≡ map entry_view entries
unfolding IsStrictlySortedBy
in_order-view [] sorted = refl
in_order-view (entry ∷ rest) sorted = rw (in_order-view rest sorted.1) (in_front entry rest sorted.0)

-- ---- what a table's first entry does

pub keeps_goes : (entry : Entry) (rest : List Entry) → keeps (meaning top_rules entry.0) entry.1 ≡ true → each_keeps (entry ∷ rest) ≡ each_keeps rest
keeps_goes entry rest kept = ap (λ b. cond b (each_keeps rest) (Err (unknown entry.0))) kept

pub keeps_stops : (entry : Entry) (rest : List Entry) → keeps (meaning top_rules entry.0) entry.1 ≡ false → each_keeps (entry ∷ rest) ≡ Err (unknown entry.0)
keeps_stops entry rest broken = ap (λ b. cond b (each_keeps rest) (Err (unknown entry.0))) broken

module _ {A : Type 0} (letter : Text) (words : List (Text × A)) (entry : Entry) (rest : List Entry) (choices : List A) where
  rest_of : Option (ℕ × A) → Result (List A) StrategyError
  rest_of found = bind (ok_or found (unknown entry.0)) (λ choice. chosen letter words rest (slice_set choices choice.0 choice.1))

  pub chosen_goes : (choice : ℕ × A) → choice_in letter words (length choices) entry ≡ Some choice
      → chosen letter words (entry ∷ rest) choices ≡ chosen letter words rest (slice_set choices choice.0 choice.1)
  unfolding rest_of
  chosen_goes choice is = ap rest_of is

  pub chosen_stops : choice_in letter words (length choices) entry ≡ None → chosen letter words (entry ∷ rest) choices ≡ Err (unknown entry.0)
  unfolding rest_of
  chosen_stops is = ap rest_of is

-- what a key and a value choose of so many, for an entry of this key
pub chose : {A : Type 0} (letter : Text) (words : List (Text × A)) (count other : ℕ) (key text : Text) (held : Data) (o : Option (ℕ × A))
    → count ≡ other → text ≡ key → choice_in letter words other (text, held) ≡ o → choice_in letter words count (key, held) ≡ o
chose letter words count other key text held o counts texts is =
    ap (λ n. choice_in letter words n (key, held)) counts ∙ ap (λ t. choice_in letter words other (t, held)) (sym texts) ∙ is

-- ---- what the first operator does

first_takes : (number : ℕ) (operator : Operator) (operators : List Operator) (form : Form) (forms : List Form) (takes : Bool) → takes_form operator form ≡ takes
    → each_takes number (operator ∷ operators) (form ∷ forms) ≡ cond takes (each_takes (number + 1) operators forms) (Err (refusal.NoSpecial number))
first_takes number operator operators form forms takes is = ap (λ b. cond b (each_takes (number + 1) operators forms) (Err (refusal.NoSpecial number))) is

-- the operators from a place on, and their forms
pub takes_at : (operators : List CodeOperator) (forms : List Form) (place : ℕ) (operator : CodeOperator) (d : Form) (takes : Bool)
    → place < length operators → length forms ≡ length operators → operator ≡ get_or operators place operator
    → takes_form (operator_view operator) (get_or forms place d) ≡ takes
    → each_takes (place + 1) (drop place (map operator_view operators)) (drop place forms)
    ≡ cond takes (each_takes (place + 1 + 1) (drop (place + 1) (map operator_view operators)) (drop (place + 1) forms)) (Err (refusal.NoSpecial (place + 1)))
takes_at operators forms place operator d takes within same is takes_is =
    ap (λ rest. each_takes (place + 1) rest (drop place forms)) (items_from operator_view operators place operator within is)
    ∙ ap (λ rest. each_takes (place + 1) (operator_view operator ∷ drop (place + 1) (map operator_view operators)) rest) (drop_more forms place d (rw same within))
    ∙ first_takes (place + 1) (operator_view operator) (drop (place + 1) (map operator_view operators)) (get_or forms place d) (drop (place + 1) forms) takes takes_is

pub takes_end : (operators : List CodeOperator) (forms : List Form) (place : ℕ) → length operators ≤ place
    → each_takes (place + 1) (drop place (map operator_view operators)) (drop place forms) ≡ Ok tt
takes_end operators forms place past =
    ap (λ rest. each_takes (place + 1) rest (drop place forms)) (drop_of_length-le (map operator_view operators) {i = place} (rw (length-map operators operator_view) past))

-- ---- a key as a name

is_short : (a b c d : Bool) → (a && b && c && d) ≡ true → c ≡ true
is_short false b c d e = absurd (cc e)
is_short true false c d e = absurd (cc e)
is_short true true false d e = absurd (cc e)
is_short true true true d e = refl

pub name_short : (key : Text) → is_name key ≡ true → length key ≤ max_name
name_short key e = leb-true (length key) max_name (is_short (begins_with_letter key) (list_all is_name_byte key) (nat_le (length key) max_name) (not (is_keyword key)) e)

pub named : (name : Option Text) (key : Text) → IsSome name → IfSome name (λ text. text ≡ key) → name ≡ Some key
named (Some text) key some same = ap Some same
named None key some same = absurd (false≢true some)

-- ---- the place that a key names

pub place_is : (letter : Text) (count place : ℕ) (key : Text) → place < count → count < 2 ^ 64 → key ≡ letter ++ decimal (suc place)
    → place_named letter count key ≡ Some place
place_is letter zero place key within small same = absurd (omega (arith, within))
place_is letter (suc last) place key within small same =
    elim (cases_lt place last) [
      | inl below ↦
          let other : bytes_eq (letter ++ decimal (suc last)) key ≡ false =
          false_from_ne_true _ (λ equal.
          let texts : letter ++ decimal (suc last) ≡ letter ++ decimal (suc place) = (bytes_eq-Decides (letter ++ decimal (suc last)) key).0 equal ∙ same in
          let numbers : suc last ≡ suc place =
          decimal_injective (suc last) (suc place) small (omega (arith, within, small)) (append_cancel_left letter (decimal (suc last)) (decimal (suc place)) texts) in
          omega (arith, numbers, below)) in
          rw other (place_is letter last place key below (omega (arith, small)) same)
      | inr over ↦
          let equal : last ≡ place = omega (arith, over, within) in
          let texts : letter ++ decimal (suc last) ≡ key = ap (λ n. letter ++ decimal (suc n)) equal ∙ sym same in
          rw ((bytes_eq-Decides (letter ++ decimal (suc last)) key).1 texts) (ap Some equal)
    ]

pub place_none : (letter : Text) (count : ℕ) (key : Text) → ((place : ℕ) → place < count → key ≢ letter ++ decimal (suc place))
    → place_named letter count key ≡ None
place_none letter zero key none = refl
place_none letter (suc last) key none =
    elim (cases_Bool (bytes_eq (letter ++ decimal (suc last)) key)) [
      | inl equal ↦ absurd (none last (omega arith) (sym ((bytes_eq-Decides (letter ++ decimal (suc last)) key).0 equal)))
      | inr differs ↦ rw differs (place_none letter last key (λ place within. none place (omega (arith, within))))
    ]

-- a key of other letters
pub other_letter : (letter count : ℕ) (key : Text) → ((rest : Text) → key ≢ letter ∷ rest) → place_named (letter ∷ []) count key ≡ None
other_letter letter count key other = place_none (letter ∷ []) count key (λ place within same. other (decimal (suc place)) same)

-- a key of the letter and other digits
pub other_digits : (letter count : ℕ) (key digits : Text) → count < 2 ^ 64 → key ≡ letter ∷ digits
    → ((number : ℕ) → 0 < number → number ≤ count → number < 2 ^ 64 → digits ≢ decimal number) → place_named (letter ∷ []) count key ≡ None
other_digits letter count key digits small is other =
    place_none (letter ∷ []) count key (λ place within same.
    let texts : digits ≡ decimal (suc place) = append_cancel_left (letter ∷ []) digits (decimal (suc place)) (sym is ∙ same) in
    other (suc place) (omega arith) (omega (arith, within)) (omega (arith, within, small)) texts)

pub its_place : (letter count number : ℕ) (key digits : Text) → count < 2 ^ 64 → key ≡ letter ∷ digits → digits ≡ decimal number → 0 < number → number ≤ count
    → place_named (letter ∷ []) count key ≡ Some (number - 1)
its_place letter count zero key digits small is written some few = absurd (omega (arith, some))
its_place letter count (suc place) key digits small is written some few =
    let same : place ≡ suc place - 1 = omega arith in
    place_is (letter ∷ []) count place key (omega (arith, few)) small (is ∙ ap (λ text. letter ∷ text) written) ∙ ap Some same

-- ---- a strategy that is read is lawful

ok_on : {A B C E : Type 0} (first : Result A E) (next : A → Result B E) (b : B) → bind first next ≡ Ok b
    → ((a : A) → first ≡ Ok a → next a ≡ Ok b → C) → C
ok_on (Ok a) next b e go = go a refl e
ok_on (Err refusal) next b e go = absurd (cc e)

pub length-chosen : {A : Type 0} (letter : Text) (words : List (Text × A)) (entries : List Entry) (choices all : List A)
    → chosen letter words entries choices ≡ Ok all → length all ≡ length choices
length-chosen letter words [] choices all e =
    let same : choices ≡ all = cc e in
    rw same refl
length-chosen letter words (entry ∷ rest) choices all e =
    ok_on (ok_or (choice_in letter words (length choices) entry) (unknown entry.0)) _ all e (λ choice is more.
    length-chosen letter words rest (slice_set choices choice.0 choice.1) all more ∙ length-set choices choice.0 choice.1)

pub length-formats : (columns : ℕ) (keys : Members) (formats : List FormatChoice) → formats_in columns keys ≡ Ok formats → length formats ≡ columns
length-formats columns keys formats e =
    let default = choice_or (Fixed format.Plain) format_words (get_member (codes "format") keys) in
    length-chosen (codes "c") format_words (entries_at (codes "formats") keys) (replicate columns default) formats e ∙ length-replicate columns default

pub length-forms : (operators : List Operator) (keys : Members) (forms : List Form) → forms_in operators keys ≡ Ok forms → length forms ≡ length operators
length-forms operators keys forms e =
    let default = form_or_fly (choice_or Fly form_words (get_member (codes "form") keys)) in
    length-chosen (codes "o") form_words (entries_at (codes "forms") keys) (map default operators) forms e ∙ length-map operators default

if_ok : {A E : Type 0} (b : Bool) (next : Result A E) (cause : E) (a : A) → cond b next (Err cause) ≡ Ok a → (b ≡ true) × (next ≡ Ok a)
if_ok true next cause a e = (refl, e)
if_ok false next cause a e = absurd (cc e)

takes_on : (first : Operator) (one : Form) (operators : List Operator) (forms : List Form) (number : ℕ) (done : Unit {0})
    → each_takes number (first ∷ operators) (one ∷ forms) ≡ Ok done → (takes_form first one ≡ true) × (each_takes (number + 1) operators forms ≡ Ok done)
takes_on first one operators forms number done e = if_ok (takes_form first one) (each_takes (number + 1) operators forms) (refusal.NoSpecial number) done e

taken : (operators : List Operator) (forms : List Form) (number : ℕ) (done : Unit {0}) → each_takes number operators forms ≡ Ok done
    → (place : ℕ) (operator : Operator) (form : Form) → slice_get operators place ≡ Some operator → slice_get forms place ≡ Some form
    → takes_form operator form ≡ true
taken [] forms number done e place operator form at its = absurd (cc at)
taken (first ∷ operators) [] number done e place operator form at its = absurd (cc its)
taken (first ∷ operators) (one ∷ forms) number done e zero operator form at its =
    rw (← same_Some first operator at, ← same_Some one form its) (takes_on first one operators forms number done e).0
taken (first ∷ operators) (one ∷ forms) number done e (suc place) operator form at its =
    taken operators forms (number + 1) done (takes_on first one operators forms number done e).1 place operator form at its

pub strategy_keeps : (plan : Plan) (keys : Members) (strategy : Strategy) → strategy_in plan keys ≡ Ok strategy → IsStrategy plan strategy
strategy_keeps plan keys strategy e =
    ok_on (each_keeps (in_order keys)) _ strategy e (λ _ _ after_top.
    ok_on (formats_in plan.columns keys) _ strategy after_top (λ formats are_formats after_formats.
    ok_on (forms_in plan.operators keys) _ strategy after_formats (λ forms are_forms after_forms.
    ok_on (each_takes 1 plan.operators forms) _ strategy after_forms (λ done takes last.
    let whole : Strategy = record { formats = formats; forms = forms } in
    let same : whole ≡ strategy = cc last in
    subst (IsStrategy plan) same (record {
      formats = length-formats plan.columns keys formats are_formats;
      forms = length-forms plan.operators keys forms are_forms;
      taken = taken plan.operators forms 1 done takes;
    })))))

pub answer_keeps : (plan : Plan) (keys : Members) (result : Result Strategy StrategyError) → Answers refusal.Memory (strategy_in plan keys) result
    → IfOk result (λ strategy. IsStrategy plan strategy)
answer_keeps plan keys (Ok strategy) answers = strategy_keeps plan keys strategy answers
answer_keeps plan keys (Err cause) answers = tt
