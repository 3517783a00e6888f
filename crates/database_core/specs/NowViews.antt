-- What the slot and the now file of the code stand for.
use Rattle.std.specs.Prelude.{ℕ}
use Rattle.database_core.specs.NowFiles as now_files
use Rattle.database_core.specs.declared.now_files.Slot.{Slot}
use Rattle.database_core.specs.declared.now_files.Slot.TheVariants as slot
use Rattle.database_core.specs.declared.now_files.Now.{Now}

-- the letter of a slot
abbrev pub letter_of : Slot → ℕ
letter_of slot.A = 97
letter_of slot.B = 98

abbrev pub now_view : Now → now_files.Now
now_view now = record { slot = letter_of now.slot; rows = now.rows }
