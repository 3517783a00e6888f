use Rattle.std.proofs.Common.{◌≤◌, ◌-◌, option_map, vec_len, vec_capacity}
use Rattle.catalog_core.specs.DictionaryReading.{ReadSo, room_for}
use Rattle.catalog_core.proofs.dictionary_reading.read_entries.Given as goal

-- the entries so far were read, each has its start, and there is room for as many starts as memory was taken for
abbrev pub invariant-loop-last : goal.invariant-loop-last
invariant-loop-last l = ReadSo l.bytes (vec_len l.starts) l.end l.starts.items (option_map (λ text. text.now) l.last) × (vec_len l.starts ≤ l.count) × (room_for l.bytes l.count ≤ vec_capacity l.starts)

abbrev pub decreases-loop-last : goal.decreases-loop-last
decreases-loop-last l = l.count - vec_len l.starts
