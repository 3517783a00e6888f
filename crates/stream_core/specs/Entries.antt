-- The files of a store in memory.
use Rattle.std.specs.Prelude.{◌≡◌, ℕ, List, option_map, vec_items}
use Rattle.std.specs.BTreeMap.{get_by_text}
use Rattle.stream_core.specs.Files.{Files}
use Rattle.stream_core.specs.declared.memory.MemStore.{MemStore}

abbrev pub files_of : MemStore → Files
files_of store name = option_map vec_items (get_by_text store.entries name)

-- the numbers of the calls that fail, the number of the next call, and how many have failed
abbrev pub failing_of : MemStore → List ℕ
failing_of store = store.failing

abbrev pub calls_of : MemStore → ℕ
calls_of store = store.calls

abbrev pub faults_of : MemStore → ℕ
faults_of store = store.faults

-- no call of a load or a save
pub record KeepsCalls (before after : MemStore) : Type 0 where
  pub failing : after.failing ≡ before.failing
  pub calls : after.calls ≡ before.calls
  pub faults : after.faults ≡ before.faults
