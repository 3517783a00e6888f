use Rattle.std.proofs.Common.{◌≡◌, ◌≤◌, vec_len, vec_capacity}
use Rattle.catalog_core.specs.DictionaryReading.{room_for}
use Rattle.catalog_core.specs.ShortTexts.{number_of, ReadUpTo}
use Rattle.catalog_core.proofs.short_texts.read_short_texts.Given as goal

-- the entries so far were read, the number is that of the last text, and there is as much room as before
abbrev pub invariant-loop-entry : goal.invariant-loop-entry
invariant-loop-entry l = ((read : ReadUpTo l.bytes (vec_len l.starts) l.start l.end l.starts.items) × (l.number ≡ number_of 16 read.text)) × (vec_len l.starts ≡ l._entry) × (vec_len l.fn.starts ≤ l._entry)
    × (l._entry ≤ l.count) × (vec_capacity l.starts ≡ vec_capacity l.fn.starts) × (room_for l.bytes l.count ≤ vec_capacity l.starts)
