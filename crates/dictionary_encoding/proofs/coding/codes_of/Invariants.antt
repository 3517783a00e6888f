use Rattle.std.proofs.Common.{◌≡◌, Some, map, slice_get, take}
use Rattle.dictionary_encoding.specs.Numbers.{texts_of}
use Rattle.dictionary_encoding.proofs.coding.codes_of.Given as goal

-- the codes are those of the texts so far
abbrev pub invariant-loop-text : goal.invariant-loop-text
invariant-loop-text l = map (slice_get l.dictionary) l.codes.items ≡ map Some (texts_of (take l.text-index l.texts))
