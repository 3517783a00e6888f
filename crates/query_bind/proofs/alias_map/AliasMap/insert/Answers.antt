use Rattle.std.proofs.Common.{◌≡◌, ◌∙◌, sym, ap, false, subst, ◌++◌, ◌∷◌, []}
use Rattle.std.specs.Prelude.{is_some}
use Rattle.query_bind.specs.Aliases.{HasNumbers}
use Rattle.query_bind.specs.NameMaps.{is_among, entries_of}
use Rattle.query_bind.proofs.AliasLemmas.{numbers_more}
use Rattle.query_bind.proofs.NameLemmas.{entries_more}
use Rattle.query_bind.proofs.alias_map.AliasMap.insert.Goals as goal

pub invariant_of-self-2 : goal.invariant_of-self-2
invariant_of-self-2 c =
    let entries = c.self.inside.entries.items in
    let none : is_among (entries_of entries) c.args.name.now ≡ false = ap is_some (sym (c.self.invariant c.args.name.now)) ∙ sym c.contains_key.ensures ∙ c.if-contains_key.false in
    subst (HasNumbers c.insert.new.self) (sym (ap entries_of (c.push_reserved.ensures.items ∙ ap (λ l. l ++ (c.args.name, c.args.number) ∷ []) c.in_ok-reserve.ensures.items) ∙ entries_more entries c.args.name c.args.number))
    (numbers_more c.self.inside.numbers c.insert.new.self (entries_of entries) c.args.name.now c.args.number c.self.invariant none c.in_ok-insert.ensures.updates)
