use Rattle.std.proofs.Common.{◌≡◌, ◌++◌, length, take}
use Rattle.catalog_core.specs.Indexed.{starts_from}
use Rattle.catalog_core.specs.Dictionaries.{dictionary_head, entries_of}
use Rattle.catalog_core.proofs.dictionary_making.file_of.Given as goal

-- the head and the entries so far are written
abbrev pub invariant-loop-text : goal.invariant-loop-text
invariant-loop-text l = record {
  bytes_are : l.bytes.items ≡ dictionary_head (length l.texts) ++ entries_of (take l.text-index l.texts);
  starts_are : l.starts.items ≡ starts_from 16 (take l.text-index l.texts);
}
