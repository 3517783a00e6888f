use Rattle.std.proofs.Common.{◌≡◌, sym, ◌∙◌, ap, refl, true, false}
use Rattle.clap.specs.Words.{found_of}
use Rattle.clap.specs.Facts.{explicit_source}
use Rattle.clap.specs.Matches.{matched_of}
use Rattle.clap.proofs.TakesLemmas.{present_row}
use Rattle.command_words.proofs.MatchingLemmas.{explicit, not_explicit}
use Rattle.command_words.proofs.matching.is_given.Goals as goal

pub returns-then-not-contains_id : goal.returns-then-not-contains_id
returns-then-not-contains_id c =
    not_explicit (matched_of (found_of c.args.matches.now) c.args.id.now) (sym c.contains_id.ensures ∙ c.if-not-contains_id.true)
    ∙ present_row (found_of c.args.matches.now) c.args.id.now

pub returns-in-Some-DefaultValue : goal.returns-in-Some-DefaultValue
returns-in-Some-DefaultValue c =
    let source : explicit_source c.value_source.result ≡ false = rw (c.in-Some-DefaultValue.is, c.in-Some-DefaultValue.field-0-is) refl in
    sym source ∙ ap explicit_source c.value_source.ensures
    ∙ explicit (matched_of (found_of c.args.matches.now) c.args.id.now) (sym c.contains_id.ensures ∙ c.if-not-contains_id.false)
    ∙ present_row (found_of c.args.matches.now) c.args.id.now

pub returns-in-Some-CommandLine : goal.returns-in-Some-CommandLine
returns-in-Some-CommandLine c =
    let source : explicit_source c.value_source.result ≡ true = rw (c.in-Some-CommandLine.is, c.in-Some-CommandLine.field-0-is) refl in
    sym source ∙ ap explicit_source c.value_source.ensures
    ∙ explicit (matched_of (found_of c.args.matches.now) c.args.id.now) (sym c.contains_id.ensures ∙ c.if-not-contains_id.false)
    ∙ present_row (found_of c.args.matches.now) c.args.id.now

pub returns-in-None : goal.returns-in-None
returns-in-None c =
    let source : explicit_source c.value_source.result ≡ true = rw c.in-None.is refl in
    sym source ∙ ap explicit_source c.value_source.ensures
    ∙ explicit (matched_of (found_of c.args.matches.now) c.args.id.now) (sym c.contains_id.ensures ∙ c.if-not-contains_id.false)
    ∙ present_row (found_of c.args.matches.now) c.args.id.now
