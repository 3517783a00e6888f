use Rattle.std.proofs.Common.{◌≡◌, ◌≤◌, ◌*◌, length, take}
use Rattle.catalog_core.specs.Dictionaries.{entries_of}
use Rattle.catalog_core.proofs.dictionary_making.entries_len.Given as goal

-- the length of the entries so far, each of which takes at most 65,539 bytes
abbrev pub invariant-loop-text : goal.invariant-loop-text
invariant-loop-text l = record {
  len_is : l.len ≡ length (entries_of (take l.text-index l.texts));
  bound : l.len ≤ l.text-index * 65539;
}
