-- Which end of a command has which status.
use Rattle.std.proofs.Common.{◌≡◌, ◌≢◌, ℕ, ◌⊎◌, inl, inr, List, Result, Ok, Err, refl, arith}
use Rattle.std.specs.Prelude.{OnOk}
use Rattle.table_commands.specs.Refusals.{Kind, query_text, database, sum, import_text, status_of_kind}
use Rattle.table_commands.specs.Stops.{refusal_of}
use Rattle.engine_tool.specs.Ends.{status_of}
use Rattle.table_commands.specs.declared.stops.Stop.{Stop}
use Rattle.table_commands.specs.declared.stops.Stop.TheVariants as stop

-- no refusal has the status of an answer, of usage, of a fault or of want of memory
pub record IsNamed (status : ℕ) : Type 0 where
  pub done : status ≢ 0
  pub use_it : status ≢ 2
  pub fault : status ≢ 3
  pub want : status ≢ 6

pub is_named : (kind : Kind) → IsNamed (status_of_kind kind)
is_named query_text = record { done = omega arith; use_it = omega arith; fault = omega arith; want = omega arith }
is_named database = record { done = omega arith; use_it = omega arith; fault = omega arith; want = omega arith }
is_named sum = record { done = omega arith; use_it = omega arith; fault = omega arith; want = omega arith }
is_named import_text = record { done = omega arith; use_it = omega arith; fault = omega arith; want = omega arith }

-- which end has a status
pub at_two : (end : Result (List ℕ) Stop) → status_of end ≡ 2 → end ≡ Err stop.Usage
at_two (Ok text) e = absurd (omega arith)
at_two (Err stop.Usage) e = refl
at_two (Err (stop.Refused given)) e = absurd ((is_named (refusal_of given).kind).use_it e)
at_two (Err stop.StoreFault) e = absurd (omega arith)
at_two (Err stop.InputFault) e = absurd (omega arith)
at_two (Err stop.Memory) e = absurd (omega arith)

pub at_three : (end : Result (List ℕ) Stop) → status_of end ≡ 3 → (end ≡ Err stop.StoreFault) ⊎ (end ≡ Err stop.InputFault)
at_three (Ok text) e = absurd (omega arith)
at_three (Err stop.Usage) e = absurd (omega arith)
at_three (Err (stop.Refused given)) e = absurd ((is_named (refusal_of given).kind).fault e)
at_three (Err stop.StoreFault) e = inl refl
at_three (Err stop.InputFault) e = inr refl
at_three (Err stop.Memory) e = absurd (omega arith)

pub at_six : (end : Result (List ℕ) Stop) → status_of end ≡ 6 → end ≡ Err stop.Memory
at_six (Ok text) e = absurd (omega arith)
at_six (Err stop.Usage) e = absurd (omega arith)
at_six (Err (stop.Refused given)) e = absurd ((is_named (refusal_of given).kind).want e)
at_six (Err stop.StoreFault) e = absurd (omega arith)
at_six (Err stop.InputFault) e = absurd (omega arith)
at_six (Err stop.Memory) e = refl

pub at_zero : (end : Result (List ℕ) Stop) (P : Type 0) → status_of end ≡ 0 → OnOk end P → P
at_zero (Ok text) P e p = p
at_zero (Err stop.Usage) P e p = absurd (omega arith)
at_zero (Err (stop.Refused given)) P e p = absurd ((is_named (refusal_of given).kind).done e)
at_zero (Err stop.StoreFault) P e p = absurd (omega arith)
at_zero (Err stop.InputFault) P e p = absurd (omega arith)
at_zero (Err stop.Memory) P e p = absurd (omega arith)

-- an end is a fault, want of memory, or a reply
pub data Sort (end : Result (List ℕ) Stop) : Type 0 where
  fault : status_of end ≡ 3 → Sort end
  want : status_of end ≡ 6 → Sort end
  other : status_of end ≢ 3 → status_of end ≢ 6 → Sort end

pub sort_of : (end : Result (List ℕ) Stop) → Sort end
sort_of (Ok text) = other (omega arith) (omega arith)
sort_of (Err stop.Usage) = other (omega arith) (omega arith)
sort_of (Err (stop.Refused given)) = other ((is_named (refusal_of given).kind).fault) ((is_named (refusal_of given).kind).want)
sort_of (Err stop.StoreFault) = fault refl
sort_of (Err stop.InputFault) = fault refl
sort_of (Err stop.Memory) = want refl
