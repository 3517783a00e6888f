use Rattle.std.proofs.Common.{◌≡◌, ◌∙◌, ℕ, Some, None, List, Bor, refl}
use Rattle.std.specs.Prelude.{Option, IfSome}
use Rattle.query_text.specs.Views.{test_view}
use Rattle.catalog_core.specs.Texts.{Text}
use Rattle.catalog_core.specs.Dictionaries.{AreTexts}
use Rattle.plan_core.specs.Meaning.{code_meets}
use Rattle.plan_core.specs.Ranges.{is_in}
use Rattle.plan_core.proofs.RangeLaws.{number_met, code_met}
use Rattle.plan_core.proofs.ranges.range_of.Goals as goal

pub returns-clause-numbers : goal.returns-clause-numbers
returns-clause-numbers c = λ none number small.
    c.range_between.ensures number
    ∙ rw (c.bounds_of-start.ensures.start, c.bounds_of-start.ensures.end, none) (number_met (test_view c.args.test.now) number small c.requires.range (rw none at c.requires.fit))

pub returns-clause-codes : goal.returns-clause-codes
returns-clause-codes c = by c.args.dictionary refl c.bounds_of-start.ensures.lawful where
  by : (found : Option (Bor (List Text))) → c.args.dictionary ≡ found → IfSome found (λ texts. AreTexts texts.now)
      → IfSome found (λ texts. (code : ℕ) → is_in c.range_between.result code ≡ code_meets texts.now (test_view c.args.test.now) code)
  by None is lawful = tt
  by (Some texts) is lawful = λ code.
      c.range_between.ensures code
      ∙ rw (c.bounds_of-start.ensures.start, c.bounds_of-start.ensures.end, is)
      (code_met texts.now lawful c.codes_and_ranks.ensures.places c.codes_and_ranks.ensures.ranks (test_view c.args.test.now) code c.requires.range (rw is at c.requires.fit))
