-- A schema that is read keeps the rules: each rule follows from the step that tests it.
use Rattle.std.proofs.Common.{suc, ◌≡◌, ◌≤◌, ◌+◌, ◌∙◌, ℕ, Bool, true, false, cond, List, [], ◌∷◌, ◌++◌, length, Option, Some, None, Result, Ok, Err, inl, inr, refl, sym, ap, subst}
use Rattle.std.specs.Prelude.{ok_or, option_map, codes, IfOk}
use Rattle.std.specs.List.{AllByRecursion, IsDistinct, list_any, position}
use Rattle.std.specs.Str.{bytes_eq}
use Rattle.std.proofs.lemmas.Bool.{cases_Bool, and_parts, leb-true}
use Rattle.std.proofs.lemmas.Cmp.{nat_list_eq_equiv}
use Rattle.std.proofs.lemmas.List.{append_assoc, append-nil}
use Rattle.std.proofs.lemmas.List.Quantifiers.{position-Some}
use Rattle.std.proofs.lemmas.Map.Keys.{IsDistinct-push}
use Rattle.std.proofs.lemmas.Option.{same_Some, cond_some, slice_get-get_or}
use Rattle.definitions_outcomes.specs.Computed.{and_then, bind, walk, Answers}
use Rattle.stream_core.specs.Names.{IsName, is_name}
use Rattle.toml.specs.Data.{Data, Members, as_str, as_bool, as_array, as_table, get_member}
use Rattle.catalog_core.specs.Texts.{Text}
use Rattle.catalog_core.specs.Schemas.{meaning, required, optional, one_of, name_in, separator_words, role_words, kind_words, format_words, has_only, is_count, items_in, list_of, column_keys, table_keys, top_keys, column_in, numbered_column, columns_of, Own, own_in, own_of, key_in, repeats_in, is_number, is_key_column, key_place, with_columns, table_of, tables_of, top_in, first_repeated, distinct, distinct_or, table_names, column_names, schema_in, max_tables, max_columns}
use Rattle.catalog_core.specs.LawfulSchemas.{is_separator, kind_at, KeepsRole, IsTableDef, IsSchema}
use Rattle.catalog_core.specs.declared.schemas.Role.{Role}
use Rattle.catalog_core.specs.declared.schemas.Role.TheVariants.{Fact, Dimension}
use Rattle.catalog_core.specs.declared.schemas.Kind.{Kind}
use Rattle.catalog_core.specs.declared.schemas.Kind.TheVariants as kind
use Rattle.catalog_core.specs.declared.schemas.ColumnDef.{ColumnDef}
use Rattle.catalog_core.specs.declared.schemas.TableDef.{TableDef}
use Rattle.catalog_core.specs.declared.schemas.Schema.{Schema}
use Rattle.catalog_core.specs.declared.errors.SchemaError.{SchemaError}
use Rattle.catalog_core.specs.declared.errors.SchemaError.TheVariants as refusal
use Rattle.block_core.specs.declared.formats.Format.TheVariants.{Plain}
use Rattle.block_core.specs.declared.formats.FormatChoice.TheVariants.{Fixed}

-- ---- what a chain of steps that gives a value did

bind_gives : {A B E : Type 0} (first : Result A E) (next : A → Result B E) (b : B) → bind first next ≡ Ok b
    → (a : A) × (first ≡ Ok a) × (next a ≡ Ok b)
bind_gives (Ok a) next b e = (a, refl, e)
bind_gives (Err refusal) next b e = absurd (cc e)

bind_on : {A B C E : Type 0} (first : Result A E) (next : A → Result B E) (b : B) → bind first next ≡ Ok b
    → ((a : A) → first ≡ Ok a → next a ≡ Ok b → C) → C
bind_on (Ok a) next b e go = go a refl e
bind_on (Err refusal) next b e go = absurd (cc e)

-- the same, for what follows from the value
then_on : {A B : Type 0} {C : Type 0} (first : Option A) (next : A → Option B) (b : B) → and_then first next ≡ Some b
    → ((a : A) → first ≡ Some a → next a ≡ Some b → C) → C
then_on (Some a) next b e go = go a refl e
then_on None next b e go = absurd (cc e)

if_on : {A C : Type 0} (b : Bool) (o : Option A) (a : A) → cond b o None ≡ Some a → (b ≡ true → o ≡ Some a → C) → C
if_on true o a e go = go refl e
if_on false o a e go = absurd (cc e)

then_gives : {A B : Type 0} (first : Option A) (next : A → Option B) (b : B) → and_then first next ≡ Some b
    → (a : A) × (first ≡ Some a) × (next a ≡ Some b)
then_gives (Some a) next b e = (a, refl, e)
then_gives None next b e = absurd (cc e)

ok_or_gives : {A E : Type 0} (o : Option A) (refusal : E) (a : A) → ok_or o refusal ≡ Ok a → o ≡ Some a
ok_or_gives (Some x) refusal a e = cc e
ok_or_gives None refusal a e = absurd (cc e)

if_gives : {A : Type 0} (b : Bool) (o : Option A) (a : A) → cond b o None ≡ Some a → (b ≡ true) × (o ≡ Some a)
if_gives true o a e = (refl, e)
if_gives false o a e = absurd (cc e)

required_gives : {A : Type 0} (form : Data → Option A) (o : Option Data) (a : A) → required form o ≡ Some a → (held : Data) × (form held ≡ Some a)
required_gives form (Some held) a e = (held, e)
required_gives form None a e = absurd (cc e)

-- what holds of each word's meaning holds of a text's
meaning_keeps : {A : Type 0} (P : A → Type 0) (words : List (Text × A)) (text : Text) (a : A)
    → AllByRecursion (λ entry. P entry.1) words → meaning words text ≡ Some a → P a
meaning_keeps P [] text a all e = absurd (cc e)
meaning_keeps P (entry ∷ rest) text a all e =
    elim (cases_Bool (bytes_eq entry.0 text)) [
      | inl same ↦ let h = rw same at e in subst P (same_Some entry.1 a h) all.0
      | inr other ↦ meaning_keeps P rest text a all.1 (rw other at e)
    ]

-- the step of each item, where what it gives keeps a rule
walk_keeps : {A B E : Type 0} (step : ℕ → A → Result B E) (P : B → Type 0) (keeps : (n : ℕ) (a : A) (b : B) → step n a ≡ Ok b → P b)
    → (number : ℕ) (items : List A) (out : List B) → walk step number items ≡ Ok out → AllByRecursion P out × (length out ≡ length items)
walk_keeps step P keeps number [] [] e = (tt, refl)
walk_keeps step P keeps number [] (b ∷ out) e = absurd (cc e)
walk_keeps step P keeps number (a ∷ items) out e =
    bind_on (step number a) _ out e (λ first is more.
    bind_on (walk step (number + 1) items) _ out more (λ rest was last.
    let (all, same) = walk_keeps step P keeps (number + 1) items rest was in
    let whole : first ∷ rest ≡ out = cc last in
    rw (← whole) ((keeps number a first is, all), ap suc same)))

-- ---- a key's rule

name_in_IsName : (o : Option Data) (name : Text) → required name_in o ≡ Some name → IsName name
name_in_IsName o name e =
    let (held, holds) = required_gives name_in o name e in
    let (text, _, tested) = then_gives (as_str held) _ name holds in
    let (good, same) = cond_some (is_name text) text name tested in
    rw same at good

separator_keeps : (o : Option Data) (separator : ℕ) → optional 44 (one_of separator_words) o ≡ Some separator → is_separator separator ≡ true
separator_keeps None separator e = rw (← same_Some 44 separator e) refl
separator_keeps (Some held) separator e =
    let (text, _, means) = then_gives (as_str held) _ separator e in
    meaning_keeps (λ s. is_separator s ≡ true) separator_words text separator (refl, (refl, (refl, (refl, tt)))) means

count_keeps : (most : ℕ) (o : Option Data) (items : List Data) → required (items_in most) o ≡ Some items → (1 ≤ length items) × (length items ≤ most)
count_keeps most o items e =
    let (held, holds) = required_gives (items_in most) o items e in
    let (array, _, tested) = then_gives (as_array held) _ items holds in
    let (good, same) = cond_some (is_count most (list_of array)) (list_of array) items tested in
    let (some, few) = and_parts _ _ (rw same at good) in
    (leb-true _ _ some, leb-true _ _ few)

-- ---- a column, and a table

column_keeps : (number place : ℕ) (held : Data) (column : ColumnDef) → numbered_column number place held ≡ Ok column → IsName column.name
column_keeps number place held column e =
    then_on (as_table held) column_in column (ok_or_gives _ _ column e) (λ keys _ read.
    if_on (has_only column_keys keys) _ column read (λ _ steps.
    then_on (required name_in (get_member (codes "name") keys)) _ column steps (λ name named after_name.
    then_on (required (one_of kind_words) (get_member (codes "kind") keys)) _ column after_name (λ kind _ after_kind.
    then_on (optional (Fixed Plain) (one_of format_words) (get_member (codes "format") keys)) _ column after_kind (λ format _ last.
    let same : name ≡ column.name = ap (λ (c : ColumnDef). c.name) (same_Some _ column last) in
    subst IsName same (name_in_IsName (get_member (codes "name") keys) name named))))))

-- the rules of a table's own keys
record OwnKeeps (own : Own) : Type 0 where
  name : IsName own.name
  key : (o : Option Data) × (key_in own.role o ≡ Some own.key)
  separator : is_separator own.separator ≡ true
  repeats : (o : Option Data) × (repeats_in own.role o ≡ Some own.repeats)
  some : 1 ≤ length own.columns
  few : length own.columns ≤ max_columns

own_keeps : (held : Data) (own : Own) → own_of held ≡ Some own → OwnKeeps own
own_keeps held own e =
    then_on (as_table held) own_in own e (λ keys _ read.
    if_on (has_only table_keys keys) _ own read (λ _ steps.
    then_on (required name_in (get_member (codes "name") keys)) _ own steps (λ name named after_name.
    then_on (required (one_of role_words) (get_member (codes "role") keys)) _ own after_name (λ role _ after_role.
    then_on (key_in role (get_member (codes "key") keys)) _ own after_role (λ key keyed after_key.
    then_on (optional 44 (one_of separator_words) (get_member (codes "separator") keys)) _ own after_key (λ separator separated after_separator.
    then_on (optional false as_bool (get_member (codes "header") keys)) _ own after_separator (λ header _ after_header.
    then_on (optional false as_bool (get_member (codes "trailing") keys)) _ own after_header (λ trailing _ after_trailing.
    then_on (repeats_in role (get_member (codes "repeats") keys)) _ own after_trailing (λ repeats repeated after_repeats.
    then_on (required (items_in max_columns) (get_member (codes "column") keys)) _ own after_repeats (λ columns counted last.
    let (some, few) = count_keeps max_columns (get_member (codes "column") keys) columns counted in
    let same = same_Some _ own last in
    subst OwnKeeps same (record {
      name = name_in_IsName (get_member (codes "name") keys) name named;
      key = (get_member (codes "key") keys, keyed);
      separator = separator_keeps (get_member (codes "separator") keys) separator separated;
      repeats = (get_member (codes "repeats") keys, repeated);
      some = some;
      few = few;
    })))))))))))

-- the column where the key stands is a number column
number_there : (k : Kind) → is_number k ≡ true → k ≡ kind.Number
number_there kind.Number e = refl
number_there kind.Text e = absurd (cc e)

key_is_number : (name : Text) (columns : List ColumnDef) (place : ℕ) → position (is_key_column name) columns ≡ Some place
    → kind_at columns place ≡ Some kind.Number
key_is_number name [] place e = absurd (cc e)
key_is_number name (column ∷ rest) place e =
    let columns = column ∷ rest in
    let (within, passes, _) = position-Some (is_key_column name) columns place column e in
    let (_, number) = and_parts _ _ passes in
    rw (slice_get-get_or columns place column within) (ap (λ (k : Kind). Some k) (number_there _ number))

-- a name under the key, and a place of the key
named_key : (o : Option Text) → option_map (λ text. Some text) o ≡ Some None → ⊥
named_key None e = cc e
named_key (Some text) e = cc e

placed_key : (o : Option ℕ) (key : Option ℕ) → option_map (λ place. Some place) o ≡ Some key → (place : ℕ) × (o ≡ Some place) × (key ≡ Some place)
placed_key None key e = absurd (cc e)
placed_key (Some place) key e = (place, refl, sym (same_Some _ _ e))

role_keeps : (role : Role) (held said : Option Data) (name : Option Text) (repeats : Bool) (columns : List ColumnDef) (key : Option ℕ) (table : TableDef)
    → key_in role held ≡ Some name → repeats_in role said ≡ Some repeats → key_place name columns ≡ Some key
    → table.key ≡ key → table.repeats ≡ repeats → table.columns ≡ columns → KeepsRole role table
role_keeps Fact (Some held) said name repeats columns key table a b c same_key same_repeats same_columns = absurd (cc a)
role_keeps Fact None (Some said) name repeats columns key table a b c same_key same_repeats same_columns = absurd (cc b)
role_keeps Fact None None None repeats columns key table a b c same_key same_repeats same_columns =
    (same_key ∙ sym (same_Some _ _ c), same_repeats ∙ sym (same_Some _ _ b))
role_keeps Fact None None (Some name) repeats columns key table a b c same_key same_repeats same_columns = absurd (cc a)
role_keeps Dimension held said None repeats columns key table a b c same_key same_repeats same_columns =
    absurd (named_key (required as_str held) a)
role_keeps Dimension held said (Some name) repeats columns key table a b c same_key same_repeats same_columns =
    let (place, found, is) = placed_key (position (is_key_column name) columns) key c in
    (place, same_key ∙ is, rw same_columns (key_is_number name columns place found))

table_keeps : (number : ℕ) (held : Data) (table : TableDef) → table_of number held ≡ Ok table → IsTableDef table
table_keeps number held table e =
    bind_on (ok_or (own_of held) (refusal.Shape number 0)) _ table e (λ own is_own after_own.
    bind_on (columns_of number own.columns) _ table after_own (λ columns walked after_columns.
    bind_on (ok_or (key_place own.key columns) (refusal.Shape number 0)) _ table after_columns (λ key placed last.
    let rules = own_keeps held own (ok_or_gives (own_of held) (refusal.Shape number 0) own is_own) in
    let (names, counted) = walk_keeps (numbered_column number) (λ column. IsName column.name) (column_keeps number) 1 own.columns columns walked in
    let same : with_columns own key columns ≡ table = cc last in
    subst IsTableDef same (record {
      name = rules.name;
      role = role_keeps own.role rules.key.0 rules.repeats.0 own.key own.repeats columns key (with_columns own key columns)
          rules.key.1 rules.repeats.1 (ok_or_gives (key_place own.key columns) (refusal.Shape number 0) key placed) refl refl refl;
      separator = rules.separator;
      some = rw counted rules.some;
      few = rw counted rules.few;
      names = names;
    }))))

-- ---- names that differ

flipped : (name : Text) (names : List Text) → list_any (bytes_eq name) names ≡ list_any (λ other. bytes_eq other name) names
flipped name [] = refl
flipped name (other ∷ rest) = rw (nat_list_eq_equiv.symm name other, flipped name rest) refl

none_repeated : (o : Option Text) (done : Unit {0}) → distinct_or o ≡ Ok done → o ≡ None
none_repeated None done e = refl
none_repeated (Some name) done e = absurd (cc e)

differ_from : (names earlier : List Text) → first_repeated earlier names ≡ None → IsDistinct bytes_eq earlier → IsDistinct bytes_eq (earlier ++ names)
differ_from [] earlier e before = rw (append-nil earlier) before
differ_from (name ∷ rest) earlier e before =
    elim (cases_Bool (list_any (λ other. bytes_eq other name) earlier)) [
      | inl found ↦ let h = rw found at e in absurd (cc h)
      | inr none ↦
          let h = rw none at e in
          let fresh : list_any (bytes_eq name) earlier ≡ false = rw (flipped name earlier) none in
          rw (← append_assoc earlier (name ∷ []) rest) (differ_from rest (earlier ++ name ∷ []) h (IsDistinct-push nat_list_eq_equiv earlier name before fresh))
    ]

names_differ : (names : List Text) (done : Unit {0}) → distinct names ≡ Ok done → IsDistinct bytes_eq names
unfolding IsDistinct
names_differ names done e = differ_from names [] (none_repeated (first_repeated [] names) done e) tt

-- ---- the schema

pub schema_keeps : (keys : Members) (schema : Schema) → schema_in keys ≡ Ok schema → IsSchema schema
schema_keeps keys schema e =
    bind_on (ok_or (top_in keys) (refusal.Shape 0 0)) _ schema e (λ entries is_top after_top.
    bind_on (tables_of entries) _ schema after_top (λ tables walked after_tables.
    bind_on (distinct (table_names tables)) _ schema after_tables (λ done differ after_names.
    bind_on (distinct (column_names tables)) _ schema after_names (λ all_done columns_differ last.
    if_on (has_only top_keys keys) _ entries (ok_or_gives (top_in keys) (refusal.Shape 0 0) entries is_top) (λ _ top.
    let (some, few) = count_keeps max_tables (get_member (codes "table") keys) entries top in
    let (all, counted) = walk_keeps table_of IsTableDef table_keeps 1 entries tables walked in
    let whole : Schema = record { tables = tables } in
    let same : whole ≡ schema = cc last in
    subst IsSchema same (record {
      some = rw counted some;
      few = rw counted few;
      tables = all;
      tables_differ = names_differ (table_names tables) done differ;
      columns_differ = names_differ (column_names tables) all_done columns_differ;
    }))))))

pub answer_keeps : (keys : Members) (result : Result Schema SchemaError) → Answers refusal.Memory (schema_in keys) result → IfOk result IsSchema
answer_keeps keys (Ok schema) answers = schema_keeps keys schema answers
answer_keeps keys (Err cause) answers = tt
