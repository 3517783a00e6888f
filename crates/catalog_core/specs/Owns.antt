-- What the code's record of a table's own keys stands for.
use Rattle.std.specs.Prelude.{map, option_map}
use Rattle.toml.specs.View.{view}
use Rattle.catalog_core.specs.Schemas as meaning
use Rattle.catalog_core.specs.declared.schema_reading.Own as code

abbrev pub own_view : code.Own → meaning.Own
own_view own = record {
  name = own.name;
  role = own.role;
  key = option_map (λ text. text.now) own.key;
  separator = own.separator;
  header = own.header;
  trailing = own.trailing;
  repeats = own.repeats;
  columns = map view own.columns.now;
}
