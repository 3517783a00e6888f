-- Steps of the code, one after the other, are the steps of their definitions.
use Rattle.std.proofs.Common.{Result, Ok, Err, refl, sym, inl, inr}
use Rattle.definitions_outcomes.specs.Outcomes.{Outcomes, Gives, Then}
use Rattle.table_commands.specs.Refusals.{Refusal}
use Rattle.table_commands.specs.declared.stops.Stop.{Stop}
use Rattle.table_commands.specs.declared.stops.Stop.TheVariants as stop
use Rattle.table_commands.specs.Stops.{refusal_of, Ends, Computes}

module _ {A B Y : Type 0} (view : Y → B) (first : Outcomes A Refusal) (next : A → Outcomes B Refusal) where
  -- the first step stopped
  pub Ends-stopped : {X : Type 0} (from : X → A) (given : Stop) → Ends from (Err given) first → Ends view (Err given) (Then first next)
  Ends-stopped from stop.Usage h = absurd h
  Ends-stopped from (stop.Refused r) h = inr (refusal_of r, h, refl)
  Ends-stopped from stop.StoreFault h = tt
  Ends-stopped from stop.InputFault h = tt
  Ends-stopped from stop.Memory h = tt

  -- the first step gave a value, and the next one ended
  pub Ends-went : (value : A) (result : Result Y Stop) → first (Ok value) → Ends view result (next value) → Ends view result (Then first next)
  Ends-went value (Ok y) p q = inl (value, p, q)
  Ends-went value (Err stop.Usage) p q = absurd q
  Ends-went value (Err (stop.Refused r)) p q = inl (value, p, q)
  Ends-went value (Err stop.StoreFault) p q = tt
  Ends-went value (Err stop.InputFault) p q = tt
  Ends-went value (Err stop.Memory) p q = tt

-- a computed step is one among others
pub Ends-computed : {X A : Type 0} (view : X → A) (result : Result X Stop) (outcome : Result A Refusal) → Computes view result outcome → Ends view result (Gives outcome)
Ends-computed view (Ok x) outcome h = sym h
Ends-computed view (Err stop.Usage) outcome h = absurd h
Ends-computed view (Err (stop.Refused r)) outcome h = sym h
Ends-computed view (Err stop.StoreFault) outcome h = tt
Ends-computed view (Err stop.InputFault) outcome h = tt
Ends-computed view (Err stop.Memory) outcome h = tt
