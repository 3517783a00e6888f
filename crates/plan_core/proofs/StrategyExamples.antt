-- The definitions of strategies at worked values.
use Rattle.std.proofs.Common.{◌≡◌, List, [], ◌∷◌, Option, Some, None, Result, Ok, Err, refl}
use Rattle.std.specs.Prelude.{true, false, codes, option_map, map}
use Rattle.std.specs.Fmt.{digits}
use Rattle.toml.specs.Data.{member, no_members, boolean}
use Rattle.toml.specs.Parse.{parse_document}
use Rattle.toml.proofs.OnLiterals.{toml_on_literals}
use Rattle.definitions_queries.specs.Queries.{of_number, equal}
use Rattle.block_core.specs.declared.formats.Format.TheVariants as format
use Rattle.block_core.specs.declared.formats.FormatChoice.{FormatChoice}
use Rattle.block_core.specs.declared.formats.FormatChoice.TheVariants.{Fixed, Auto}
use Rattle.catalog_core.specs.Texts.{Text}
use Rattle.catalog_core.specs.declared.columns.ColumnId.{ColumnId}
use Rattle.plan_core.specs.declared.plans.Input.TheVariants as input
use Rattle.plan_core.specs.Plans.{select, intersect, group, sum, Plan}
use Rattle.plan_core.specs.Strategies.{in_order, place_named, strategy_in}
use Rattle.plan_core.specs.declared.strategies.Form.{Form}
use Rattle.plan_core.specs.declared.strategies.Form.TheVariants.{Plain, Fly, Special, Morph}
use Rattle.plan_core.specs.declared.strategies.Strategy.{Strategy}
use Rattle.plan_core.specs.declared.strategies.StrategyError.{StrategyError}
use Rattle.plan_core.specs.declared.strategies.StrategyError.TheVariants as refusal

-- ---- the place that a key names

last_of_twelve : place_named (codes "c") 12 (codes "c12") ≡ Some 11
unfolding digits
last_of_twelve = refl

past_the_last : place_named (codes "c") 12 (codes "c13") ≡ None
unfolding digits
past_the_last = refl

number_zero : place_named (codes "c") 12 (codes "c0") ≡ None
unfolding digits
number_zero = refl

leading_zero : place_named (codes "c") 12 (codes "c01") ≡ None
unfolding digits
leading_zero = refl

other_letter : place_named (codes "c") 12 (codes "o1") ≡ None
unfolding digits
other_letter = refl

-- keys in the order of their bytes, not of their numbers
ten_before_two : map (λ entry. entry.0) (in_order (member (codes "c2") (boolean true) (member (codes "c10") (boolean false) no_members)))
    ≡ codes "c10" ∷ codes "c2" ∷ []
ten_before_two = refl

-- ---- documents, for a Select, an Intersect, a Sum, a Group and a Sum by groups, which make six columns

abbrev first_column : ColumnId
first_column = record { table = 0; column = 0 }

abbrev plan : Plan
plan = record {
  operators = select first_column (equal (of_number 1)) 1
      ∷ intersect 1 1 2
      ∷ sum (input.Base first_column) None 3 1 1
      ∷ group (input.Base first_column) 4 5
      ∷ sum (input.Base first_column) (Some 4) 6 2 1
      ∷ [];
  columns = 6;
  keys = [];
  sums = [];
}

outcome_of : Text → Option (Result Strategy StrategyError)
outcome_of document = option_map (strategy_in plan) (parse_document document)

-- six plain columns but for the second, and the forms
abbrev with_second : FormatChoice → List Form → Option (Result Strategy StrategyError)
with_second second forms = Some (Ok (record {
  formats = Fixed format.Plain ∷ second ∷ Fixed format.Plain ∷ Fixed format.Plain ∷ Fixed format.Plain ∷ Fixed format.Plain ∷ [];
  forms = forms;
}))

nothing_said : outcome_of (codes "") ≡ with_second (Fixed format.Plain) (Fly ∷ Fly ∷ Fly ∷ Fly ∷ Fly ∷ [])
unfolding outcome_of toml_on_literals
nothing_said = refl

-- a default that an operator does not take means `fly`, and a key that names it comes before the default
special_where_there_is_one : outcome_of (codes "form = \"special\"\n") ≡ with_second (Fixed format.Plain) (Special ∷ Fly ∷ Special ∷ Special ∷ Fly ∷ [])
unfolding outcome_of toml_on_literals
special_where_there_is_one = refl

named_before_default : outcome_of (codes "form = \"morph\"\n[formats]\nc2 = \"auto\"\n[forms]\no2 = \"plain\"\no3 = \"special\"\n")
    ≡ with_second Auto (Morph ∷ Plain ∷ Special ∷ Morph ∷ Fly ∷ [])
unfolding outcome_of toml_on_literals digits
named_before_default = refl

-- the text is refused with this cause
IsRefused : StrategyError → Text → Type 0
IsRefused cause document = outcome_of document ≡ Some (Err cause)

unknown_key : IsRefused (refusal.Unknown (Some (codes "other"))) (codes "other = 1\n")
unfolding IsRefused outcome_of toml_on_literals
unknown_key = refl

-- a key of the query language is no name
keyword : IsRefused (refusal.Unknown None) (codes "select = 1\n")
unfolding IsRefused outcome_of toml_on_literals
keyword = refl

formats_is_no_table : IsRefused (refusal.Unknown (Some (codes "formats"))) (codes "formats = 1\n")
unfolding IsRefused outcome_of toml_on_literals
formats_is_no_table = refl

no_column : IsRefused (refusal.Unknown (Some (codes "c99"))) (codes "[formats]\nc99 = \"runs\"\n")
unfolding IsRefused outcome_of toml_on_literals digits
no_column = refl

least_key_first : IsRefused (refusal.Unknown (Some (codes "c10"))) (codes "[formats]\nc2 = \"rows\"\nc10 = \"runs\"\n")
unfolding IsRefused outcome_of toml_on_literals digits
least_key_first = refl

top_before_formats : IsRefused (refusal.Unknown (Some (codes "other"))) (codes "other = 1\n[formats]\nc0 = \"runs\"\n")
unfolding IsRefused outcome_of toml_on_literals digits
top_before_formats = refl

formats_before_forms : IsRefused (refusal.Unknown (Some (codes "c0"))) (codes "[forms]\no0 = \"fly\"\n[formats]\nc0 = \"runs\"\n")
unfolding IsRefused outcome_of toml_on_literals digits
formats_before_forms = refl

no_special_intersect : IsRefused (refusal.NoSpecial 2) (codes "[forms]\no2 = \"special\"\n")
unfolding IsRefused outcome_of toml_on_literals digits
no_special_intersect = refl

no_morph_of_a_sum_by_groups : IsRefused (refusal.NoSpecial 5) (codes "[forms]\no5 = \"morph\"\n")
unfolding IsRefused outcome_of toml_on_literals digits
no_morph_of_a_sum_by_groups = refl

keys_before_special_forms : IsRefused (refusal.Unknown (Some (codes "o6"))) (codes "[forms]\no2 = \"special\"\no6 = \"fly\"\n")
unfolding IsRefused outcome_of toml_on_literals digits
keys_before_special_forms = refl
