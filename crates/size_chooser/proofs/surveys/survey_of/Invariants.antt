-- the survey of the values before the place
use Rattle.std.proofs.Common.{take}
use Rattle.size_chooser.specs.Surveys.{IsSurveyOf}
use Rattle.size_chooser.proofs.surveys.survey_of.Given as goal

abbrev pub invariant-loop-place : goal.invariant-loop-place
invariant-loop-place l = IsSurveyOf l.found (take l.place l.values)
