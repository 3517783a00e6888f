use Rattle.std.proofs.Common.{◌≡◌, ◌∙◌, sym, ap, refl, true, false, None}
use Rattle.std.specs.Prelude.{is_some}
use Rattle.indexmap.proofs.CallerLemmas.{insert_entry-new}
use Rattle.query_bind.specs.NameMaps.{value_of, is_among, entries_of}
use Rattle.query_bind.proofs.NameLemmas.{lookup_is, entries_more, none_there}
use Rattle.query_bind.proofs.name_maps.NameMap.insert.Goals as goal

-- the name is there
pub returns-then-contains_key-clause-added : goal.returns-then-contains_key-clause-added
returns-then-contains_key-clause-added g c =
    let entries = c.self.inside.entries.entries in
    let there : is_among (entries_of entries) c.args.name.now ≡ true = ap is_some (sym (lookup_is c.args.name.now entries)) ∙ sym c.contains_key.ensures ∙ c.if-contains_key.true in
    rw (← c.self.view_is, there) refl

pub returns-then-contains_key-clause-fresh : goal.returns-then-contains_key-clause-fresh
returns-then-contains_key-clause-fresh g c =
    let entries = c.self.inside.entries.entries in
    let there : is_among (entries_of entries) c.args.name.now ≡ true = ap is_some (sym (lookup_is c.args.name.now entries)) ∙ sym c.contains_key.ensures ∙ c.if-contains_key.true in
    rw (← c.self.view_is, there) refl

-- the name is new
pub returns-clause-added : goal.returns-clause-added
returns-clause-added g c =
    let entries = c.self.inside.entries.entries in
    let none : is_among (entries_of entries) c.args.name.now ≡ false = ap is_some (sym (lookup_is c.args.name.now entries)) ∙ sym c.contains_key.ensures ∙ c.if-contains_key.false in
    let absent : value_of (entries_of entries) c.args.name.now ≡ None = none_there (value_of (entries_of entries) c.args.name.now) none in
    rw (← c.self.view_is, none)
    (ap entries_of (c.in_ok-insert.ensures.entries ∙ insert_entry-new _ c.self.inside.entries c.args.name c.args.value (lookup_is c.args.name.now entries ∙ absent))
    ∙ entries_more entries c.args.name c.args.value)

pub returns-clause-fresh : goal.returns-clause-fresh
returns-clause-fresh g c =
    let entries = c.self.inside.entries.entries in
    let none : is_among (entries_of entries) c.args.name.now ≡ false = ap is_some (sym (lookup_is c.args.name.now entries)) ∙ sym c.contains_key.ensures ∙ c.if-contains_key.false in
    rw (← c.self.view_is, none) refl
