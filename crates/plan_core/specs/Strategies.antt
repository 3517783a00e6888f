-- The strategy of a plan that a text asks for, or the text's first refusal, by cases on the untyped table that TOML reads from the text.
use Rattle.std.specs.Prelude.{◌≡◌, ◌⊎◌, ℕ, zero, suc, ◌+◌, Bool, true, false, if◌then◌else◌, List, [], ◌∷◌, ◌++◌, length, map, replicate, codes, decimal, Option, Some, None, is_some, unwrap_or, ok_or, Result, Ok, Err, IsTrue, slice_get, slice_set}
use Rattle.std.specs.BTreeMap.{insert_entry}
use Rattle.std.specs.Cmp.Lexicographic.{slice_cmp}
use Rattle.std.specs.Ordering.{nat_cmp}
use Rattle.std.specs.Str.{bytes_eq}
use Rattle.definitions_outcomes.specs.Computed.{and_then, bind}
use Rattle.stream_core.specs.Names.{is_name}
use Rattle.toml.specs.Data.{Data, Members, no_members, member, get_member, as_table}
use Rattle.block_core.specs.declared.formats.Format.TheVariants as format
use Rattle.block_core.specs.declared.formats.FormatChoice.{FormatChoice}
use Rattle.block_core.specs.declared.formats.FormatChoice.TheVariants.{Fixed}
use Rattle.catalog_core.specs.Texts.{Text}
use Rattle.catalog_core.specs.Schemas.{IsTable, meaning, one_of, format_words}
use Rattle.plan_core.specs.Plans.{Operator, select, semi_join, group, sum, Plan}
use Rattle.plan_core.specs.declared.strategies.Form.{Form}
use Rattle.plan_core.specs.declared.strategies.Form.TheVariants.{Plain, Fly, Special, Morph}
use Rattle.plan_core.specs.declared.strategies.Strategy.{Strategy}
use Rattle.plan_core.specs.declared.strategies.StrategyError.{StrategyError}
use Rattle.plan_core.specs.declared.strategies.StrategyError.TheVariants as refusal

-- ---- forms of operators

-- a Select, a SemiJoin, a Group, and a Sum without groups have special forms
abbrev pub has_special_form : Operator → Bool
has_special_form (select id test out) = true
has_special_form (semi_join probe keys out) = true
has_special_form (group values ids extents) = true
has_special_form (sum values None out number operand) = true
has_special_form _ = false

abbrev pub takes_form : Operator → Form → Bool
takes_form operator Plain = true
takes_form operator Fly = true
takes_form operator Special = has_special_form operator
takes_form operator Morph = has_special_form operator

-- the form of an operator that no key names: the default, or `fly` where the operator does not take it
abbrev pub form_or_fly : Form → Operator → Form
form_or_fly default operator = if takes_form operator default then default else Fly

-- a strategy of a plan: a format for each column, and for each operator a form that it takes
pub record IsStrategy (plan : Plan) (strategy : Strategy) : Type 0 where
  pub formats : length strategy.formats ≡ plan.columns
  pub forms : length strategy.forms ≡ length plan.operators
  pub taken : (place : ℕ) (operator : Operator) (form : Form) → slice_get plan.operators place ≡ Some operator → slice_get strategy.forms place ≡ Some form
      → IsTrue (takes_form operator form)

-- plain columns and fly operators throughout
abbrev pub default_strategy : Plan → Strategy
default_strategy plan = record { formats = replicate plan.columns (Fixed format.Plain); forms = replicate (length plan.operators) Fly }

-- ---- keys, and what they hold

abbrev pub form_words : List (Text × Form)
form_words = (codes "plain", Plain) ∷ (codes "fly", Fly) ∷ (codes "special", Special) ∷ (codes "morph", Morph) ∷ []

-- a key, and what it holds
abbrev pub Entry : Type 0
Entry = Text × Data

-- the entries of a table in the order of their keys' bytes
abbrev pub in_order : Members → List Entry
in_order no_members = []
in_order (member key held rest) = insert_entry (slice_cmp nat_cmp) (in_order rest) key held

-- the entries of the table under an optional key
abbrev pub entries_in : Option Members → List Entry
entries_in None = []
entries_in (Some keys) = in_order keys

abbrev pub entries_at : Text → Members → List Entry
entries_at key keys = entries_in (and_then (get_member key keys) as_table)

-- what the word under an optional key means, or the default
abbrev pub choice_or : {A : Type 0} → A → List (Text × A) → Option Data → A
choice_or default words held = unwrap_or (and_then held (one_of words)) default

-- the refusal of a key, which it names where it has the form of a name
abbrev pub unknown : Text → StrategyError
unknown key = refusal.Unknown (if is_name key then Some key else None)

-- ---- the top level

abbrev pub is_format : Data → Bool
is_format held = is_some (one_of format_words held)

abbrev pub is_form : Data → Bool
is_form held = is_some (one_of form_words held)

abbrev pub is_table : Data → Bool
is_table held = is_some (as_table held)

-- the keys of the top level, and what each may hold
abbrev pub top_rules : List (Text × (Data → Bool))
top_rules = (codes "format", is_format) ∷ (codes "form", is_form) ∷ (codes "formats", is_table) ∷ (codes "forms", is_table) ∷ []

abbrev pub keeps : Option (Data → Bool) → Data → Bool
keeps None held = false
keeps (Some rule) held = rule held

-- each entry keeps the rule of its key
abbrev pub each_keeps : List Entry → Result (Unit {0}) StrategyError
each_keeps [] = Ok tt
each_keeps (entry ∷ rest) = if keeps (meaning top_rules entry.0) entry.1 then each_keeps rest else Err (unknown entry.0)

-- ---- the choices of columns and operators

-- the place, from 0, of the column or operator that the key names, of so many: the letter, and the number in decimal digits, from 1
abbrev pub place_named : Text → ℕ → Text → Option ℕ
place_named letter zero key = None
place_named letter (suc place) key = if bytes_eq (letter ++ decimal (suc place)) key then Some place else place_named letter place key

-- a choice, and the place of the column or operator that it is for
abbrev pub choice_in : {A : Type 0} → Text → List (Text × A) → ℕ → Entry → Option (ℕ × A)
choice_in letter words count entry =
    and_then (place_named letter count entry.0) (λ place.
    and_then (one_of words entry.1) (λ choice.
    Some (place, choice)))

-- the choices, with those of the entries at their places
abbrev pub chosen : {A : Type 0} → Text → List (Text × A) → List Entry → List A → Result (List A) StrategyError
chosen letter words [] choices = Ok choices
chosen letter words (entry ∷ rest) choices =
    bind (ok_or (choice_in letter words (length choices) entry) (unknown entry.0)) (λ choice.
    chosen letter words rest (slice_set choices choice.0 choice.1))

-- the default format for each column, and then those that `formats` names
abbrev pub formats_in : ℕ → Members → Result (List FormatChoice) StrategyError
formats_in columns keys =
    chosen (codes "c") format_words (entries_at (codes "formats") keys)
    (replicate columns (choice_or (Fixed format.Plain) format_words (get_member (codes "format") keys)))

-- the default form for each operator, and then those that `forms` names
abbrev pub forms_in : List Operator → Members → Result (List Form) StrategyError
forms_in operators keys =
    chosen (codes "o") form_words (entries_at (codes "forms") keys)
    (map (form_or_fly (choice_or Fly form_words (get_member (codes "form") keys))) operators)

-- each operator, numbered on, takes its form
abbrev pub each_takes : ℕ → List Operator → List Form → Result (Unit {0}) StrategyError
each_takes number (operator ∷ operators) (form ∷ forms) =
    if takes_form operator form then each_takes (number + 1) operators forms else Err (refusal.NoSpecial number)
each_takes number _ _ = Ok tt

-- ---- the strategy

abbrev pub strategy_in : Plan → Members → Result Strategy StrategyError
strategy_in plan keys =
    bind (each_keeps (in_order keys)) (λ _.
    bind (formats_in plan.columns keys) (λ formats.
    bind (forms_in plan.operators keys) (λ forms.
    bind (each_takes 1 plan.operators forms) (λ _.
    Ok (record { formats = formats; forms = forms })))))

-- the bytes are a table that gives the outcome, or they are no table
abbrev pub StrategyOf : List ℕ → Plan → Result Strategy StrategyError → Type 0
StrategyOf bytes plan outcome =
    ((keys : Members) × IsTable bytes keys × (outcome ≡ strategy_in plan keys))
    ⊎ (((keys : Members) → IsTable bytes keys → ⊥) × (outcome ≡ Err refusal.Text))

-- bytes have one outcome at most for each plan
abbrev pub OneStrategy : Type 0
OneStrategy =
    (bytes : List ℕ) (plan : Plan) (outcome other : Result Strategy StrategyError) → StrategyOf bytes plan outcome → StrategyOf bytes plan other
    → outcome ≡ other
