use Rattle.std.proofs.Common.{◌≡◌, ◌*◌, ◌/◌, ◌%◌, ◌<◌, ℕ, List, get_or, length, drop, ap, ap₂, ◌∙◌, arith}
use Rattle.std.proofs.lemmas.List.{length-take, length-drop}
use Rattle.definitions_blocks.specs.Blocks.{block_values, block_at}
use Rattle.column_core.proofs.BlockAtLemmas.{block_at-index}
use Rattle.column_core.proofs.gathers.Gather.value.Goals as goal

-- the block that is held
held_is : (held number : ℕ) (kept values slice : List ℕ) → held ≡ number → kept ≡ values → number * block_values < length values
    → (held * block_values < length kept → slice ≡ block_at kept held) → slice ≡ block_at values number
held_is held number kept values slice here same within holds =
    holds (omega (arith, here, within, ap length same)) ∙ ap₂ (λ (l : List ℕ) (n : ℕ). block_at l n) same here

pub bounds-as_slice-offset : goal.bounds-as_slice-offset
bounds-as_slice-offset g c =
    let i = c.self.inside in
    let number = c.args.place / block_values in
    let within : number * block_values < length c.args.self.now = omega (arith, c.requires) in
    let held = held_is i.held number i.column.now.values c.args.self.now i.block c.if-self-number.true c.self.view_is within c.self.invariant in
    omega (arith, ap length (c.as_slice.ensures.values ∙ held), length-take block_values (drop (number * block_values) c.args.self.now), length-drop (number * block_values) c.args.self.now, c.requires)

pub returns-then-self-number-clause-value : goal.returns-then-self-number-clause-value
returns-then-self-number-clause-value g c =
    let i = c.self.inside in
    let number = c.args.place / block_values in
    let within : number * block_values < length c.args.self.now = omega (arith, c.requires) in
    let held = held_is i.held number i.column.now.values c.args.self.now i.block c.if-self-number.true c.self.view_is within c.self.invariant in
    ap (λ l. get_or l (c.args.place % block_values) 0) (c.as_slice.ensures.values ∙ held) ∙ block_at-index c.args.self.now c.args.place
