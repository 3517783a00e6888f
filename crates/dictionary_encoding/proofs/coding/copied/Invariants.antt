use Rattle.std.proofs.Common.{◌≡◌, take}
use Rattle.dictionary_encoding.specs.Numbers.{texts_of}
use Rattle.dictionary_encoding.proofs.coding.copied.Given as goal

-- the texts so far are copied
abbrev pub invariant-loop-text : goal.invariant-loop-text
invariant-loop-text l = l.copies.items ≡ texts_of (take l.text-index l.texts)
