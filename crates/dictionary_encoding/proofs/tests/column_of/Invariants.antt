use Rattle.std.specs.List.{AllByRecursion}
use Rattle.catalog_core.specs.Texts.{IsText}
use Rattle.dictionary_encoding.proofs.tests.column_of.Given as goal

-- the texts so far are lawful
abbrev pub invariant-loop-text : goal.invariant-loop-text
invariant-loop-text l = AllByRecursion IsText l.column
